use Rattle.std.proofs.Common.{sym, ◌∙◌, arith}
use Rattle.std.proofs.lemmas.List.{length-set}
use Rattle.compile.proofs.Lacking.{found, none_all, excludes_more}
use Rattle.compile.proofs.Memory.{some_at}
use Rattle.compile.proofs.gaps.+least.Goals.{then-is_some-via-then-is_some, then-is_some-via-else-is_some+then-shadows}
use Rattle.compile.proofs.gaps.+least.Goals as goal

pub returns-in-Some : goal.returns-in-Some
returns-in-Some t c =
    let f = c.in-Some.ensures.found in
    record {
      found = (
        length-set c.in-Some.found c.args.rest.field c.loop-low.low ∙ f.0,
        found c.args.lives.now.rules.now c.args.rest.live.bits c.args.rest.field c.loop-low.low c.top_of-top.result c.args.target c.cut-piece.result (omega (arith, c.requires.most))
            c.top_of-top.ensures c.cut-piece.ensures c.loop-low.invariant.1 c.in-Some.found f.0 f.1,
      );
      known = c.least.ensures.known;
    }

pub returns : goal.returns
returns t c =
    let never = none_all c.args.lives.now.rules.now c.args.rest.live.bits c.args.rest.field c.loop-low.low c.args.target (omega (arith, c.requires.most)) (omega (arith, c.top_of-top.ensures)) c.loop-low.invariant.1 in
    record {
      found = never;
      known = excludes_more c.args.lives.now.rules.now c.args.target c.loop-low.known c.remember.new.known c.remember.ensures.0 (record { rest = c.args.rest; node = 0 })
          c.remember.ensures.1 never c.loop-low.invariant.2;
    }

pub returns-then-is_some-clause-found : goal.returns-then-is_some-clause-found
returns-then-is_some-clause-found t c =
    elim c.then-is_some.branch [
      | then-is_some-via-then-is_some w ↦
          let known = some_at c.recall.result _ (sym c.is_some.ensures ∙ w.if-is_some.true) c.recall.ensures in
          c.requires.known (record { rest = c.args.rest; node = known.0 }) known.1
      | then-is_some-via-else-is_some+then-shadows w ↦ w.shadows.ensures w.if-shadows.true
    ]
