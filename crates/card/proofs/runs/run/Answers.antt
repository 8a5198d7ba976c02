use Rattle.std.proofs.Common.{vec_items, ◌∙◌, rules}
use Rattle.card.proofs.Logs.{went_more, filed_more, same_number}
use Rattle.card.proofs.runs.run.Goals as goal

pub loop-call-preserved : goal.loop-call-preserved
loop-call-preserved g c =
    let S = g.S.Store in
    let one = c.run_one-event.ensures in
    let inv = c.loop-call.invariant in
    let pushed = c.push_reserved.ensures.items in
    let event = c.run_one-event.result in
    record {
      logged = search rules;
      room = search rules;
      went =
          went_more S.contents S.frame c.args.calls.now c.loop-call.call-index _ (vec_items c.loop-call.log) _ event
          c.args.card.now c.loop-call.card c.run_one-event.new.card c.loop-call-test.true pushed one.call one.one inv.went;
      filed = one.filed ∙ filed_more _ _ _ _ (vec_items c.loop-call.log) _ event pushed inv.numbered inv.filed;
      numbered = same_number S.contents c.loop-call.card event c.run_one-event.new.card one.one.changed ∙ inv.numbered;
    }
