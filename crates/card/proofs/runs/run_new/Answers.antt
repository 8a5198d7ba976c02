use Rattle.std.proofs.Common.{[], ap, ◌∙◌, rules}
use Rattle.card.proofs.Steps.{begins}
use Rattle.card.proofs.runs.run_new.Goals as goal

pub returns : goal.returns
returns g c =
    let built = c.in_ok-card.ensures in
    let went = c.in_ok-log.ensures.went in
    let S = g.S.Store in
    let start = begins S.contents c.args.number c.args.store c.in_ok-card.card built (S.lawful c.args.store) in
    record {
      ran = record {
        repeats = went.repeats;
        new = c.in_ok-card.card;
        built = built;
        passes = went.passes (S.contents c.args.store) [] start;
        law = (went.follows (S.contents c.args.store) [] start).law;
        framed = went.framed ∙ ap S.frame built.on;
      };
      tickets = search rules;
    }
