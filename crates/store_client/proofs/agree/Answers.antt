use Rattle.std.proofs.Common.{rules, ◌≡◌, sym, subst, List, take, ◌∙◌, get_or}
use Rattle.std.proofs.lemmas.List.{take_more}
use Rattle.store_client.specs.declared.Call.{Call}
use Rattle.store_client.specs.declared.Outcome.{Outcome}
use Rattle.store_client.specs.declared.Call.TheVariants.{Search}
use Rattle.store_client.specs.Uses.{AnsweredAlike}
use Rattle.store_client.proofs.Likes.{answered_more}
use Rattle.store_client.proofs.agree.Goals as goal

pub loop-call-preserved : goal.loop-call-preserved
loop-call-preserved g c =
    let inv = c.loop-call.invariant in
    let both = c.perform_both-left.ensures in
    let r = c.perform_both-left.result in
    let same : ◌≡◌ {A = Outcome} r.0 r.1 = search rules in
    let calls = c.args.calls.now in
    let i = c.loop-call.call-index in
    let P : List Call → Type 0 = λ cs. AnsweredAlike (g.A.Store.contents c.args.a.now) (g.B.Store.contents c.args.b.now) cs (g.A.Store.contents c.perform_both-left.new.a) (g.B.Store.contents c.perform_both-left.new.b) in
    record {
      left_frame = both.left_frame ∙ inv.left_frame;
      right_frame = both.right_frame ∙ inv.right_frame;
      alike = λ k. both.alike (inv.alike k);
      answered =
          subst P (sym (take_more calls i (Search 0) c.loop-call-test.true))
          (answered_more _ _ (take i calls) _ _ (get_or calls i (Search 0)) r.0 r.1 _ _ inv.answered both.left both.right same);
    }
