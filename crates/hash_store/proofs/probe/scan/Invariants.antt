use Rattle.hash_store.specs.Cells.{cell_at, Passed}
use Rattle.hash_store.proofs.probe.scan.Given as goal

abbrev pub invariant-loop-i : goal.invariant-loop-i
invariant-loop-i l = Passed (cell_at l.cells) l.key l.from l.i
