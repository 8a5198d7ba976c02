use Rattle.std.proofs.Common.{◌+◌, List, get_or, set, Option, sym, subst, arith}
use Rattle.diagram.specs.Diagrams.{Node}
use Rattle.diagram.specs.Drafts.{added}
use Rattle.compile.specs.declared.levels.Level.{Level}
use Rattle.compile.specs.declared.caches.Known.{Known}
use Rattle.compile.specs.Levels.{Shared, Refused}
use Rattle.compile.specs.Builds.{Finished}
use Rattle.compile.proofs.Turns.{Turn, turn_five, turn_start, turn_ready, turn_step, turn_end, leaf_end, wide_end, crowded_end, recall_end, remember_end}
use Rattle.compile.specs.Vectors.{items}
use Rattle.compile.proofs.build.+build.Goals as goal

pub returns-then-rest-eq-FIELDS : goal.returns-then-rest-eq-FIELDS
returns-then-rest-eq-FIELDS t c =
    leaf_end c.args.lives.now.rules.now c.args.header c.args.rest.live.bits c.args.rest.field c.args.levels.now c.args.known.now
    c.requires c.if-rest-eq-FIELDS.true c.first_code.result c.first_code.ensures

pub returns-in-Some : goal.returns-in-Some
returns-in-Some t c =
    recall_end c.args.lives.now.rules.now c.args.header c.args.rest c.args.levels.now c.args.known.now c.in-Some.k c.requires (omega (arith, c.requires.most)) c.in-Some.ensures

pub loop-low-init : goal.loop-low-init
loop-low-init t c = (
  omega arith,
  subst (λ (n : Node). Turn c.args.lives.now.rules.now c.args.header c.args.rest.field c.args.levels.now c.args.levels.now c.args.known.now 0 n) (sym c.new-draft.ensures)
      (turn_start c.args.lives.now.rules.now c.args.header c.args.rest.live.bits c.args.rest.field c.args.levels.now c.args.known.now c.requires),
)

pub build-requires : goal.build-requires
build-requires t c = (
  omega arith,
  turn_ready c.args.lives.now.rules.now c.args.header c.args.rest.live.bits c.args.rest.field c.args.levels.now c.args.known.now c.requires
      c.args.levels.now c.loop-low.levels c.loop-low.known c.loop-low.low c.top_of-top.result c.cut-piece.result
      (items c.loop-low.draft) (omega (arith, c.requires.most)) c.loop-low.invariant.1 c.top_of-top.ensures c.cut-piece.ensures,
)

pub loop-low-preserved : goal.loop-low-preserved
loop-low-preserved t c = (
  omega (arith, c.cut-piece.ensures.within),
  subst (λ (n : Node). Turn c.args.lives.now.rules.now c.args.header c.args.rest.field c.args.levels.now c.build.new.levels c.build.new.known (c.cut-piece.result.end + 1) n)
      (sym c.in_ok-add_run.ensures)
      (turn_step c.args.lives.now.rules.now c.args.header c.args.rest.live.bits c.args.rest.field c.args.levels.now c.args.known.now c.requires
      c.args.levels.now c.loop-low.levels c.loop-low.known c.loop-low.low c.top_of-top.result c.cut-piece.result
      (items c.loop-low.draft) (omega (arith, c.requires.most)) c.loop-low.invariant.1 c.top_of-top.ensures c.cut-piece.ensures
      c.build.new.levels c.build.new.known c.in_ok-to.to c.in_ok-to.ensures),
)

pub returns-in_err-add_run : goal.returns-in_err-add_run
returns-in_err-add_run t c =
    rw c.from_residual-in_err-add_run.ensures
    (wide_end c.args.lives.now.rules.now c.args.header c.args.rest.field c.args.levels.now c.build.new.levels c.build.new.known c.cut-piece.result.end
    (added (items c.loop-low.draft) c.cut-piece.result.end c.in_ok-to.to)
    c.requires.size (omega (arith, c.requires.most)) c.requires.begins
    (turn_step c.args.lives.now.rules.now c.args.header c.args.rest.live.bits c.args.rest.field c.args.levels.now c.args.known.now c.requires
    c.args.levels.now c.loop-low.levels c.loop-low.known c.loop-low.low c.top_of-top.result c.cut-piece.result
    (items c.loop-low.draft) (omega (arith, c.requires.most)) c.loop-low.invariant.1 c.top_of-top.ensures c.cut-piece.ensures
    c.build.new.levels c.build.new.known c.in_ok-to.to c.in_ok-to.ensures)
    (omega (arith, c.top_of-top.ensures, c.cut-piece.ensures.within))
    c.in_err-add_run.ensures)

pub returns-in_err-node : goal.returns-in_err-node
returns-in_err-node t c =
    rw c.from_residual-in_err-node.ensures
    (crowded_end c.args.lives.now.rules.now c.args.header c.args.rest.field c.args.levels.now c.loop-low.levels c.loop-low.known c.loop-low.low
    (items c.loop-low.draft) c.index-levels-rest.result c.requires.size (omega (arith, c.requires.most)) (turn_five c.loop-low.invariant.1) c.requires.begins c.loop-low.invariant.1
    (omega (arith, c.top_of-top.ensures))
    (subst (λ (n : Node). Refused (get_or c.loop-low.levels c.args.rest.field c.index-levels-rest.result) n) c.as_slice.ensures.value c.in_err-node.ensures))

pub returns : goal.returns
returns t c =
    let Ms : List Level = set c.loop-low.levels c.args.rest.field c.share.new.self in
    let kept = c.remember.ensures in
    subst (λ (ks : List (Option Known)). Finished c.args.lives.now.rules.now c.args.header c.args.rest.field c.args.levels.now (set c.loop-low.levels c.args.rest.field c.share.new.self) ks c.in_ok-node.node)
    (sym kept.1)
    (remember_end c.args.lives.now.rules.now c.args.header c.args.rest c.args.levels.now c.args.known.now c.requires (omega (arith, c.requires.most))
    c.args.levels.now Ms c.loop-low.known c.in_ok-node.node kept.0
    (turn_end c.args.lives.now.rules.now c.args.header c.args.rest.field c.args.levels.now c.loop-low.levels c.loop-low.known c.loop-low.low
    (items c.loop-low.draft) c.index-levels-rest.result c.share.new.self c.in_ok-node.node
    c.requires.size (omega (arith, c.requires.most)) (turn_five c.loop-low.invariant.1) c.requires.begins c.loop-low.invariant.1 (omega (arith, c.top_of-top.ensures))
    (subst (λ (n : Node). Shared (get_or c.loop-low.levels c.args.rest.field c.index-levels-rest.result) c.share.new.self n c.in_ok-node.node) c.as_slice.ensures.value c.in_ok-node.ensures)))
