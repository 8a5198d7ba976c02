use Rattle.std.proofs.Common.{refl, inl}
use Rattle.store.specs.Finds.{found_some}
use Rattle.hash_store.proofs.Moves.{erased_sound, erased_removed}
use Rattle.hash_store.proofs.hash.HashStoreStore.erase.Goals as goal

pub invariant_of-self : goal.invariant_of-self
invariant_of-self c =
    let s = c.args.self.now in
    record {
      in_order = erased_sound s.cells.now c.remove.new.cells s.count c.in-Found.i c.args.key s.in_order c.in-Found.ensures.says c.remove.auto.cells _ c.usable-m.ensures c.remove.ensures.removed;
      counts = s.counts;
    }

pub returns-in-Found-clause-erased : goal.returns-in-Found-clause-erased
returns-in-Found-clause-erased c =
    let s = c.args.self.now in
    let w = c.in-Found.ensures in
    record {
      asked = inl (found_some _ _ w.finds, refl);
      effect = erased_removed s.cells.now c.remove.new.cells s.count c.in-Found.i c.args.key s.in_order w.says c.remove.auto.cells _ c.usable-m.ensures c.remove.ensures.removed s.tally;
    }
