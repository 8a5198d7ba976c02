use Rattle.std.proofs.Common.{◌≡◌, ◌<◌, drop}
use Rattle.hash_store.specs.Cells.{cell_at}
use Rattle.hash_store.specs.Shifts.{Ready}
use Rattle.hash_store.proofs.Moves.{State}
use Rattle.hash_store.proofs.shift.settle.Given as goal

abbrev pub invariant-loop-d : goal.invariant-loop-d
invariant-loop-d l =
    (l.hole < l.m)
    × (drop 4096 l.cells ≡ drop 4096 l.initial.cells)
    × (Ready (cell_at l.initial.cells) l.m l.i → State (cell_at l.initial.cells) (cell_at l.cells) l.m l.i l.d l.hole)
