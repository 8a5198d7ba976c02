use Rattle.std.proofs.Common.{ℕ, subst}
use Rattle.hash_store.specs.Cells.{cell_at, Says}
use Rattle.hash_store.specs.Hashes.{usable_cells}
use Rattle.hash_store.proofs.Probes.{finds_so}
use Rattle.hash_store.proofs.hash.HashStore.spot.Goals as goal

pub returns-clause-finds : goal.returns-clause-finds
returns-clause-finds c =
    let s = c.args.self.now in
    let P : ℕ → Type 0 = λ m. Says (cell_at s.cells.now) m c.args.key c.probe.result in
    finds_so (cell_at s.cells.now) (usable_cells s) s.count c.args.key c.probe.result s.in_order (subst P c.usable.ensures c.probe.ensures)
