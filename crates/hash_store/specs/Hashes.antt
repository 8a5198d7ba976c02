-- What the hash store holds: its rows are those of the used cells.
use Rattle.std.specs.Prelude.{ℕ, ◌^◌, ◌<◌, min, List, Option, length, drop}
use Rattle.std.proofs.Common.{arith}
use Rattle.std.specs.Borrow.{GName}
use Rattle.store.specs.declared.row.Row.{Row}
use Rattle.store.specs.Meaning.{Contents, Lawful}
use Rattle.hash_store.specs.declared.hash.HashStore.{HashStore}
use Rattle.hash_store.specs.Cells.{cell_at, rows_of, Unpassed, Sound}
use Rattle.hash_store.specs.Helds.{rows_within, rows_apart}

-- How many of the cells may hold rows.
abbrev pub usable_cells : HashStore → ℕ
usable_cells s = min (length s.cells.now) 4096

abbrev pub hash_rows : HashStore → List Row
hash_rows s = rows_of (cell_at s.cells.now) (usable_cells s)

abbrev pub hash_contents : HashStore → Contents
hash_contents s = record { rows = hash_rows s; capacity = usable_cells s; tally = s.tally }

-- A store in order: its cells are in order, a cell is told that no row stands beyond, and the tally has 64 bits.
pub record InOrder (s : HashStore) : Type 0 where
  pub cells : Sound (cell_at s.cells.now) (usable_cells s) s.count
  pub cut : 0 < usable_cells s → (z : ℕ) × (z < usable_cells s) × Unpassed (cell_at s.cells.now) (usable_cells s) z
  pub counts : s.tally < 2 ^ 64

pub hash_lawful : (s : HashStore) → Lawful (hash_contents s)
hash_lawful s =
    record {
      apart = rows_apart (cell_at s.cells.now) (usable_cells s) s.in_order.apart;
      within = rows_within (cell_at s.cells.now) (usable_cells s);
      bounded = omega arith;
      counts = s.counts;
    }

-- The lender's name for the cells, and the cells that are not used.
abbrev pub hash_frame : HashStore → GName × List (Option Row)
hash_frame s = (s.cells.ghost_name, drop 4096 s.cells.now)
