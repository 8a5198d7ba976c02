-- Rows, and what they say of a key.
use Rattle.std.specs.Prelude.{ℕ, ◌<◌, cond, List, [], ◌∷◌, length, Some, None, Option, ◌==◌, ◌≢◌, slice_index_or}
use Rattle.store.specs.declared.row.Row.{Row}

-- The result that the rows hold for a key: that of the first row with the key.
abbrev pub find : List Row → ℕ → Option ℕ
find [] q = None
find (x ∷ xs) q = cond (q == x.key) (Some x.result) (find xs q)

-- A row of zeros: what a place past the end of a list is read as.
abbrev pub blank : Row
blank = record { key = 0; result = 0 }

-- The key at a place.
abbrev pub key_at : List Row → ℕ → ℕ
key_at xs i = (slice_index_or xs i blank).key

-- No key stands twice.
abbrev pub NoTwice : List Row → Type 0
NoTwice xs = (i j : ℕ) → i < j → j < length xs → key_at xs i ≢ key_at xs j
