use Rattle.std.proofs.Common.{◌≡◌, ℕ, ◌+◌, ◌<◌, true, List, length, drop, set, Some, None, is_some, Option, sym, refl, ap, ◌∙◌, subst, arith}
use Rattle.std.proofs.lemmas.List.{get_or-set_same, get_or-set_other, drop-set-lt}
use Rattle.store.specs.declared.row.Row.{Row}
use Rattle.hash_store.specs.Cells.{cell_at, row_of, home_of, at}
use Rattle.hash_store.specs.Shifts.{Ready}
use Rattle.hash_store.proofs.Probes.{none_is}
use Rattle.hash_store.proofs.Moves.{State, start, skip, move, end_free, end_round}
use Rattle.hash_store.proofs.shift.settle.Goals as goal
use Rattle.hash_store.proofs.shift.settle.Goals.{then-gap-far, else-gap-far}

pub loop-d-init : goal.loop-d-init
loop-d-init c = (c.requires.here, refl, start (cell_at c.args.cells.now) c.args.m c.args.i)

pub returns-in_default : goal.returns-in_default
returns-in_default c =
    let inv = c.loop-d.invariant in
    record {
      below = inv.0;
      beyond = inv.1;
      settled =
          λ r.
          end_free (cell_at c.args.cells.now) (cell_at c.loop-d.cells) c.args.m c.args.i c.loop-d.d c.loop-d.hole (inv.2 r)
          c.loop-d-test.true c.around-j.result c.around-j.ensures.place (none_is _ c.in_default.not-Some);
    }

pub loop-d-preserved : goal.loop-d-preserved
loop-d-preserved c =
    let f0 = cell_at c.args.cells.now in
    let ds = c.loop-d.cells in
    let m = c.args.m in
    let i = c.args.i in
    let d = c.loop-d.d in
    let hole = c.loop-d.hole in
    let j = c.around-j.result in
    let inv = c.loop-d.invariant in
    let used : is_some (cell_at ds j) ≡ true = ap is_some c.in-Some.is in
    let row : Option Row = Some c.in-Some.row in
    let gap = c.between-gap in
    let far = c.between-far in
    let P : ℕ → Type 0 = λ h. at m h far.result ≡ j in
    let fon : at m (home_of (row_of (cell_at ds j)).key m) far.result ≡ j = subst (λ (r : Option Row). at m (home_of (row_of r).key m) far.result ≡ j) (sym c.in-Some.is) (subst P c.home.ensures.home far.ensures.place) in
    let hl : hole < length ds = omega (arith, inv.0, c.loop-d.auto.cells) in
    let All : List (Option Row) → ℕ → Type 0 = λ es h. (h < m) × (drop 4096 es ≡ drop 4096 c.args.cells.now) × (Ready f0 m i → State f0 (cell_at es) m i (d + 1) h) in
    elim c.if-gap-far.branch [
      | then-gap-far w ↦
          let A : List (Option Row) → Type 0 = λ es. All es c.if-gap-far.hole in
          let B : ℕ → Type 0 = λ h. All (set ds hole row) h in
          subst A (sym w.cells-is)
          (subst B (sym w.hole-is) (
            c.around-j.ensures.below,
            drop-set-lt 4096 ds hole row (omega (arith, inv.0)) ∙ inv.1,
            (λ r.
                move f0 (cell_at ds) m i d hole (inv.2 r) c.loop-d-test.true j c.around-j.ensures.place gap.result gap.ensures.below gap.ensures.place used
                far.result far.ensures.below fon (cell_at (set ds hole row)) (get_or-set_same ds hole row None hl ∙ sym c.in-Some.is)
                (λ x ne. get_or-set_other ds hole x row None ne) w.if-gap-far.true),
          ))
      | else-gap-far w ↦
          let A : List (Option Row) → Type 0 = λ es. All es c.if-gap-far.hole in
          let B : ℕ → Type 0 = λ h. All ds h in
          subst A (sym w.cells-is)
          (subst B (sym w.hole-is) (
            inv.0,
            inv.1,
            (λ r.
                skip f0 (cell_at ds) m i d hole (inv.2 r) c.loop-d-test.true j c.around-j.ensures.place gap.result gap.ensures.below gap.ensures.place used
                far.result far.ensures.below fon w.if-gap-far.false),
          ))
    ]

pub returns : goal.returns
returns c =
    let inv = c.loop-d.invariant in
    record {
      below = inv.0;
      beyond = inv.1;
      settled =
          λ r.
          end_round (cell_at c.args.cells.now) (cell_at c.loop-d.cells) c.args.m c.args.i c.loop-d.d c.loop-d.hole (inv.2 r)
          (omega (arith, (inv.2 r).d_le));
    }
