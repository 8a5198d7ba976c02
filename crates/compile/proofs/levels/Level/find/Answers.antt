use Rattle.std.proofs.Common.{sym, refl, ◌∙◌, arith, below_more}
use Rattle.std.proofs.lemmas.Bool.{false≢true}
use Rattle.std.proofs.lemmas.Slice.Eq.{slice_eq-Decides}
use Rattle.compile.proofs.Slots.{Decides-edge}
use Rattle.compile.proofs.levels.Level.find.Goals as goal

pub returns-then-eq : goal.returns-then-eq
returns-then-eq c =
    (omega (arith, c.len-k-end.ensures.count), sym c.node.ensures ∙ (slice_eq-Decides Decides-edge _ _ _ c.if-eq.ensures).0 refl)

pub loop-k-preserved : goal.loop-k-preserved
loop-k-preserved c =
    below_more _ _ c.loop-k.invariant (λ e. false≢true ((slice_eq-Decides Decides-edge _ _ _ c.if-eq.ensures).1 (c.node.ensures ∙ e)))
