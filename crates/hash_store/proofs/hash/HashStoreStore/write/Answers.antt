use Rattle.std.proofs.Common.{◌<◌, length, Some, refl, ap, inl, inr, arith}
use Rattle.std.proofs.lemmas.List.{drop-set-lt}
use Rattle.hash_store.specs.Cells.{cell_at, rows_of}
use Rattle.hash_store.specs.Hashes.{usable_cells}
use Rattle.hash_store.proofs.Probes.{rows_full, round_full, wrote_room, wrote_sound, wrote_added}
use Rattle.hash_store.proofs.hash.HashStoreStore.write.Goals as goal

pub returns-in-Nowhere-clause-written : goal.returns-in-Nowhere-clause-written
returns-in-Nowhere-clause-written c =
    let s = c.args.self.now in
    let f = cell_at s.cells.now in
    let w = c.in-Nowhere.ensures in
    let all = rows_full f (usable_cells s) (round_full f (usable_cells s) c.args.row.key w.says) in
    let full : length (rows_of f (usable_cells s)) < usable_cells s → ⊥ = λ l. omega (arith, all) in
    record { asked = inl (w.finds, inr (full, refl)); effect = refl }

pub overflow_add-self : goal.overflow_add-self
overflow_add-self c =
    let s = c.args.self.now in
    omega (arith, wrote_room s.cells.now s.count c.in-Free.i c.args.row s.in_order c.in-Free.ensures.says, s.in_order.counted)

pub invariant_of-self : goal.invariant_of-self
invariant_of-self c =
    let s = c.args.self.now in
    record { in_order = wrote_sound s.cells.now s.count c.in-Free.i c.args.row s.in_order c.in-Free.ensures.says; counts = s.counts }

pub returns-in-Free-clause-written : goal.returns-in-Free-clause-written
returns-in-Free-clause-written c =
    let s = c.args.self.now in
    let w = c.in-Free.ensures in
    record {
      asked = inl (w.finds, inl (wrote_room s.cells.now s.count c.in-Free.i c.args.row s.in_order w.says, refl));
      effect = wrote_added s.cells.now s.count c.in-Free.i c.args.row s.in_order w.says s.tally;
    }

pub returns-in-Free-clause-frame : goal.returns-in-Free-clause-frame
returns-in-Free-clause-frame c =
    let s = c.args.self.now in
    ap (λ es. (s.cells.ghost_name, es)) (drop-set-lt 4096 s.cells.now c.in-Free.i (Some c.args.row) (omega (arith, c.in-Free.ensures.says.ends.within)))
