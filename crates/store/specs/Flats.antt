-- What the store on lent cells holds: its rows are the first `count` cells.
use Rattle.std.specs.Prelude.{◌≡◌, ℕ, ◌<◌, min, List, length, take, drop, ◌≢◌}
use Rattle.std.proofs.Common.{arith}
use Rattle.std.specs.Borrow.{GName}
use Rattle.std.proofs.lemmas.List.{length-take-le}
use Rattle.store.specs.declared.flat.FlatStore.{FlatStore}
use Rattle.store.specs.declared.row.Row.{Row}
use Rattle.store.specs.Rows.{key_at}
use Rattle.store.specs.Meaning.{Contents, Lawful}

-- How many of the cells may hold rows.
abbrev pub usable_cells : FlatStore → ℕ
usable_cells s = min (length s.cells.now) 4096

abbrev pub flat_contents : FlatStore → Contents
flat_contents s = record { rows = take s.count s.cells.now; capacity = usable_cells s; tally = s.tally }

pub flat_lawful : (s : FlatStore) → Lawful (flat_contents s)
flat_lawful s =
    record {
      apart = s.apart;
      within = omega (arith, length-take-le s.count s.cells.now (omega (arith, s.fits)), s.fits);
      bounded = omega arith;
      counts = s.counts;
    }

-- The lender's name for the cells, and the cells that are not used.
abbrev pub flat_frame : FlatStore → GName × List Row
flat_frame s = (s.cells.ghost_name, drop 4096 s.cells.now)

-- No row has the key.
abbrev pub Missing : FlatStore → ℕ → Type 0
Missing s key = (j : ℕ) → j < s.count → key_at s.cells.now j ≢ key

-- The first row that has the key.
pub record Placed (s : FlatStore) (key i : ℕ) : Type 0 where
  pub within : i < s.count
  pub has : key_at s.cells.now i ≡ key
  pub before : (j : ℕ) → j < i → key_at s.cells.now j ≢ key
