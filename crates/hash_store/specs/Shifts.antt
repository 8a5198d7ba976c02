-- A row taken out of the cells.
use Rattle.std.specs.Prelude.{Option, is_some, ◌≡◌, ℕ, ◌+◌, ◌<◌, true, false, ◌≢◌, length}
use Rattle.store.specs.declared.row.Row.{Row}
use Rattle.hash_store.specs.Cells.{rows_of, row_of, home_of, at, Apart, Unpassed}

-- Cells in order, of which i is used.
pub record Ready (f : ℕ → Option Row) (m i : ℕ) : Type 0 where
  pub here : i < m
  pub used : is_some (f i) ≡ true
  pub apart : Apart f m
  pub reach : (z : ℕ) → z < m → is_some (f z) ≡ false → Unpassed f m z
  pub cut : (z : ℕ) × (z < m) × Unpassed f m z

-- No row but the one in the cell hole stands beyond the cell z.
abbrev pub Clear : (ℕ → Option Row) → ℕ → ℕ → ℕ → Type 0
Clear f m hole z = (i d e : ℕ) → i < m → i ≢ hole → is_some (f i) ≡ true → d < m → at m (home_of (row_of (f i)).key m) d ≡ i → e < d → at m (home_of (row_of (f i)).key m) e ≢ z

-- The rows of g but the one in the cell hole are those of f but the one in the cell i, and all of them
-- are found when the cell hole is made free.
pub record Settled (f g : ℕ → Option Row) (m i hole : ℕ) : Type 0 where
  pub within : hole < m
  pub flags : (x : ℕ) → is_some (g x) ≡ is_some (f x)
  pub used : is_some (g hole) ≡ true
  pub reach : (z : ℕ) → z < m → is_some (g z) ≡ false → Clear g m hole z
  pub clear : Clear g m hole hole
  pub apart : (x y : ℕ) → x < m → y < m → x ≢ y → x ≢ hole → y ≢ hole → is_some (g x) ≡ true → is_some (g y) ≡ true → (row_of (g x)).key ≢ (row_of (g y)).key
  pub down : (x : ℕ) → x < m → x ≢ hole → is_some (g x) ≡ true → (y : ℕ) × (y < m) × (y ≢ i) × (is_some (f y) ≡ true) × (g x ≡ f y)
  pub up : (y : ℕ) → y < m → y ≢ i → is_some (f y) ≡ true → (x : ℕ) × (x < m) × (x ≢ hole) × (g x ≡ f y)

-- The rows of g are those of f but the one in the cell i, and all of them are found.
pub record Removed (f g : ℕ → Option Row) (m i : ℕ) : Type 0 where
  pub apart : Apart g m
  pub reach : (z : ℕ) → z < m → is_some (g z) ≡ false → Unpassed g m z
  pub cut : (z : ℕ) × (z < m) × Unpassed g m z
  pub fewer : length (rows_of g m) + 1 ≡ length (rows_of f m)
  pub down : (x : ℕ) → x < m → is_some (g x) ≡ true → (y : ℕ) × (y < m) × (y ≢ i) × (is_some (f y) ≡ true) × (g x ≡ f y)
  pub up : (y : ℕ) → y < m → y ≢ i → is_some (f y) ≡ true → (x : ℕ) × (x < m) × (is_some (g x) ≡ true) × (g x ≡ f y)
