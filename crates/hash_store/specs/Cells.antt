-- The cells of a hash store: the rows that they hold, and where a key's row is looked for. The store
-- has m cells, given as a function f from places.
use Rattle.std.specs.Prelude.{◌≡◌, ℕ, zero, suc, ◌+◌, ◌-◌, ◌*◌, ◌/◌, ◌%◌, ◌^◌, ◌<◌, ◌≤◌, true, false, cond, List, [], ◌∷◌, length, Some, None, Option, is_some, ◌≢◌, bit_xor, nat_lt, slice_index_or}
use Rattle.std.proofs.Common.{mod-lt}
use Rattle.store.specs.declared.row.Row.{Row}
use Rattle.store.specs.Rows.{blank}
use Rattle.hash_store.specs.declared.probe.Spot.{Spot}
use Rattle.hash_store.specs.declared.probe.Spot.TheVariants.{Found, Free, Nowhere}

-- The cell at a place; past the end of a list it is free.
abbrev pub cell_at : List (Option Row) → ℕ → Option Row
cell_at cs i = slice_index_or cs i None

-- The row in a cell, a row of zeros where it is free.
abbrev pub row_of : Option Row → Row
row_of None = blank
row_of (Some x) = x

-- The rows of the used cells, that of the last cell first.
abbrev pub rows_of : (ℕ → Option Row) → ℕ → List Row
rows_of f zero = []
rows_of f (suc m) = cond (is_some (f m)) (row_of (f m) ∷ rows_of f m) (rows_of f m)

-- A number of 64 bits with its upper bits laid over the lower ones.
unfoldable pub folded : ℕ → ℕ
folded x = bit_xor x (x / 2 ^ 33)

-- A key with every bit spread over all 64: folded and multiplied twice, and folded.
unfoldable pub mixed : ℕ → ℕ
mixed q = folded ((folded ((folded q * 0xFF51AFD7ED558CCD) % 2 ^ 64) * 0xC4CEB9FE1A85EC53) % 2 ^ 64)

-- The home of a key: the cell where its search begins.
unfoldable pub home_of : ℕ → ℕ → ℕ
home_of q m = mixed q % m

pub home_lt : (q m : ℕ) → 0 < m → home_of q m < m
unfolding home_of
home_lt q m pos = mod-lt (mixed q) pos

-- The place d on from h, around.
abbrev pub at : ℕ → ℕ → ℕ → ℕ
at m h d = cond (nat_lt (h + d) m) (h + d) (h + d - m)

-- No key stands in two cells.
abbrev pub Apart : (ℕ → Option Row) → ℕ → Type 0
Apart f m = (i j : ℕ) → (i < j) × (j < m) × (is_some (f i) ≡ true) × (is_some (f j) ≡ true) × ((row_of (f i)).key ≡ (row_of (f j)).key) → ⊥

-- No row stands beyond the cell z: the way from a key's home to the cell i of its row, d on, does not
-- pass z.
abbrev pub Unpassed : (ℕ → Option Row) → ℕ → ℕ → Type 0
Unpassed f m z = (i d e : ℕ) → (i < m) × (is_some (f i) ≡ true) × (d < m) × (at m (home_of (row_of (f i)).key m) d ≡ i) × (e < d) × (at m (home_of (row_of (f i)).key m) e ≡ z) → ⊥

-- The first d cells from a key's home on are used, for other keys.
abbrev pub Seen : (ℕ → Option Row) → ℕ → ℕ → ℕ → Type 0
Seen f m q d = (e : ℕ) → e < d → (is_some (f (at m (home_of q m) e)) ≡ true) × ((row_of (f (at m (home_of q m) e))).key ≢ q)

-- The cells from a to below b are used, for other keys.
abbrev pub Passed : (ℕ → Option Row) → ℕ → ℕ → ℕ → Type 0
Passed f q a b = (j : ℕ) → a ≤ j → j < b → (is_some (f j) ≡ true) × ((row_of (f j)).key ≢ q)

-- Of the cells from a to below b, i is the first that has the key or is free.
pub record Stops (f : ℕ → Option Row) (q a b i : ℕ) : Type 0 where
  pub low : a ≤ i
  pub high : i < b
  pub has : is_some (f i) ≡ true → (row_of (f i)).key ≡ q
  pub before : Passed f q a i

-- From a key's home on, i is the first cell that has the key or is free, so many places on.
pub record Ends (f : ℕ → Option Row) (m q i : ℕ) : Type 0 where
  pub way : ℕ
  pub way_lt : way < m
  pub place : i ≡ at m (home_of q m) way
  pub within : i < m
  pub has : is_some (f i) ≡ true → (row_of (f i)).key ≡ q
  pub seen : Seen f m q way

-- The key's row stands in the cell i.
pub record Holds (f : ℕ → Option Row) (m q i : ℕ) : Type 0 where
  pub within : i < m
  pub used : is_some (f i) ≡ true
  pub has : (row_of (f i)).key ≡ q

-- The search for a key ends at the free cell i.
pub record Misses (f : ℕ → Option Row) (m q i : ℕ) : Type 0 where
  pub ends : Ends f m q i
  pub free : is_some (f i) ≡ false

-- What the search for a key says: the cell of its row; or the free cell where the search ended; or
-- that it passed every cell.
abbrev pub Says : (ℕ → Option Row) → ℕ → ℕ → Spot → Type 0
Says f m q (Found i) = Holds f m q i
Says f m q (Free i) = Misses f m q i
Says f m q Nowhere = Seen f m q m

-- What a search answers that ended so.
abbrev pub answer_at : (ℕ → Option Row) → Spot → Option ℕ
answer_at f (Found i) = Some (row_of (f i)).result
answer_at f (Free i) = None
answer_at f Nowhere = None

-- Cells in order hold n rows and no key twice. Each row is found from its key's home on: no row stands
-- beyond a free cell. And there is a cell that no row stands beyond, even where none is free: then it
-- is the cell that was filled last.
pub record Sound (f : ℕ → Option Row) (m n : ℕ) : Type 0 where
  pub counted : n ≡ length (rows_of f m)
  pub apart : Apart f m
  pub reach : (z : ℕ) → z < m → is_some (f z) ≡ false → Unpassed f m z
  pub cut : 0 < m → ∥ ((z : ℕ) × (z < m) × Unpassed f m z) ∥₁
