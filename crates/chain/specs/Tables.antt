-- The table of a node: its blocks with their results, which tile the field.
use Rattle.std.specs.Prelude.{◌≡◌, ℕ, zero, suc, ◌+◌, ◌-◌, ◌%◌, ◌^◌, ◌<◌, ◌≤◌, Bool, false, cond, ◌||◌, List, [], ◌∷◌, ◌++◌, map, Some, None, ◌==◌, nat_lt}
use Rattle.diagram.specs.Diagrams.{Node, Runs, next}
use Rattle.diagram.specs.Blocks.{Block, cover}
use Rattle.diagram.specs.Chains.{rows_of_edge}
use Rattle.store.specs.Rows.{find}

-- the block of length n that a value of a field of w bits lies in: its low w - n bits are zero
abbrev pub block_of : ℕ → ℕ → ℕ → Block
block_of w n x = record { len = n; value = x - x % 2 ^ (w - n) }

pub record Tile : Type 0 where
  pub block : Block
  pub to : ℕ

-- the blocks of a node's table, from the value lo on
abbrev pub tiles : ℕ → ℕ → Node → List Tile
tiles w lo [] = []
tiles w lo (e ∷ es) = map (λ (b : Block). record { block = b; to = e.to }) (cover w lo e.high) ++ tiles w (e.high + 1) es

-- Blocks that follow one another from lo to the end of the field.
abbrev pub Tiled : ℕ → ℕ → List Tile → Type 0
Tiled w lo [] = lo ≡ 2 ^ w
Tiled w lo (t ∷ ts) =
    (t.block.value ≡ lo) × (t.block.len ≤ w) × (lo % 2 ^ (w - t.block.len) ≡ 0) × Tiled w (lo + 2 ^ (w - t.block.len)) ts

-- the length of the block that a value lies in
abbrev pub hit_length : ℕ → List Tile → ℕ → ℕ
hit_length w [] x = 0
hit_length w (t ∷ ts) x = cond (nat_lt x (t.block.value + 2 ^ (w - t.block.len))) t.block.len (hit_length w ts x)

abbrev pub hit_result : ℕ → List Tile → ℕ → ℕ
hit_result w [] x = 0
hit_result w (t ∷ ts) x = cond (nat_lt x (t.block.value + 2 ^ (w - t.block.len))) t.to (hit_result w ts x)

-- a length occurs in a table
abbrev pub occurs : List Tile → ℕ → Bool
occurs [] n = false
occurs (t ∷ ts) n = t.block.len == n || occurs ts n

-- the lengths that occur below a bound, longest first
abbrev pub lengths : (ℕ → Bool) → ℕ → List ℕ
lengths occ zero = []
lengths occ (suc n) = cond (occ n) (n ∷ lengths occ n) (lengths occ n)

-- the place of a number in a list
abbrev pub place : List ℕ → ℕ → ℕ
place [] n = 0
place (m ∷ ms) n = cond (m == n) 0 (suc (place ms n))

-- a node's table and its lengths
abbrev pub table : ℕ → Node → List Tile
table w node = tiles w 0 node

abbrev pub table_lengths : ℕ → Node → List ℕ
table_lengths w node = lengths (occurs (table w node)) (suc w)

-- the length of the one row that a value's block is
abbrev pub row_length : ℕ → Node → ℕ → ℕ
row_length w node x = hit_length w (table w node) x

-- the searches that a table takes
abbrev pub tries : ℕ → Node → ℕ → ℕ
tries w node x = suc (place (table_lengths w node) (row_length w node x))

-- A value's block of length n is a row of the table for one length alone, and that row's result is where the value leads.
abbrev pub OneRow : Type 0
OneRow =
    (make : Block → ℕ) (w : ℕ) (node : Node)
    → ((b c : Block) → b.len ≤ w → c.len ≤ w → b.value < 2 ^ w → c.value < 2 ^ w → make b ≡ make c → (b.len ≡ c.len) × (b.value ≡ c.value))
    → Runs (2 ^ w - 1) 0 node → (x n : ℕ) → x < 2 ^ w → n ≤ w
    → find (rows_of_edge make w 0 node) (make (block_of w n x)) ≡ cond (n == row_length w node x) (Some (next node x)) None
