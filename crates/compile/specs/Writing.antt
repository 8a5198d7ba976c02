-- Rows that are written one after another, and the block lengths that occur in them.
use Rattle.std.specs.Prelude.{◌≡◌, ℕ, ◌<◌, ◌||◌, List, [], ◌++◌, map, length, slice_index, slice_index_or}
use Rattle.store.specs.declared.row.Row.{Row}
use Rattle.policy.specs.Fields.{widths}
use Rattle.diagram.specs.Blocks.{Block}
use Rattle.diagram.specs.Keys.{key}
use Rattle.diagram.specs.Masks.{bit}
use Rattle.diagram.specs.Diagrams.{Node, Diagram}
use Rattle.diagram.specs.Chains.{rows_of_level, chain}
use Rattle.chain.specs.Tables.{Tile, occurs, table}
use Rattle.compile.specs.declared.rows.Table.{Table}

-- The key of a block in a table.
abbrev pub key_in : Table → Block → ℕ
key_in t b = key t.side t.level t.node b

-- The rows, and the tiles, of blocks that lead to one place.
abbrev pub rows_of : Table → ℕ → List Block → List Row
rows_of t to bs = map (λ (b : Block). record { key = key_in t b; result = to }) bs

abbrev pub tiles_of : ℕ → List Block → List Tile
tiles_of to bs = map (λ (b : Block). record { block = b; to = to }) bs

-- After the rows that stood there these rows stand, and their lengths were added.
pub record Extends (before after : List Row) (from to : ℕ) (rows : List Row) (tiles : List Tile) : Type 0 where
  pub added : after ≡ before ++ rows
  pub lengths : (n : ℕ) → bit to n ≡ (bit from n || occurs tiles n)

-- For each of the first k nodes it is told which block lengths occur in its table.
abbrev pub Measured : List ℕ → ℕ → List Node → ℕ → Type 0
Measured masks w nodes k = (j : ℕ) → j < k → (n : ℕ) → bit (slice_index masks j) n ≡ occurs (table w (slice_index_or nodes j [])) n

-- The rows of a level's tables follow those that stood there, and their lengths are told.
pub record Levelled (before after : List Row) (masks : List ℕ) (side w level : ℕ) (nodes : List Node) : Type 0 where
  pub added : after ≡ before ++ rows_of_level side w level 0 nodes
  pub told : Measured masks w nodes (length nodes)

-- The rows are those of the chain, and for each table it is told which lengths occur.
pub record Chained (rows : List Row) (masks : List (List ℕ)) (side : ℕ) (D : Diagram) : Type 0 where
  pub are : rows ≡ chain side widths D
  pub told : (f : ℕ) → f < 5 → Measured (slice_index_or masks f []) (slice_index widths f) (slice_index_or D f []) (length (slice_index_or D f []))
