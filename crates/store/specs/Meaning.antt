-- What a match store means: its contents, and what each call answers and leaves.
use Rattle.std.specs.Prelude.{◌≡◌, ℕ, ◌+◌, ◌-◌, ◌^◌, ◌<◌, ◌≤◌, min, cond, List, length, Some, None, Option, Result, MatchResult, ◌==◌, ◌≢◌}
use Rattle.questions.specs.Asking.{ask, accept, refusal}
use Rattle.store.specs.declared.row.Row.{Row}
use Rattle.store.specs.declared.row.StoreRefusal.{StoreRefusal}
use Rattle.store.specs.declared.row.StoreRefusal.TheVariants.{KeyPresent, Full, KeyAbsent}
use Rattle.store.specs.Rows.{find, NoTwice}

-- What a store holds: its rows (their order means nothing), how many rows it has room for, and how
-- many searches it has made.
pub record Contents : Type 0 where
  pub rows : List Row
  pub capacity : ℕ
  pub tally : ℕ

-- What holds of every store: no key twice, no more rows than there is room for, room for at most
-- 4,096, and a tally of 64 bits.
pub record Lawful (s : Contents) : Type 0 where
  pub apart : NoTwice s.rows
  pub within : length s.rows ≤ s.capacity
  pub bounded : s.capacity ≤ 4096
  pub counts : s.tally < 2 ^ 64

-- The number of each refusal.
abbrev pub number : StoreRefusal → ℕ
number KeyPresent = 40
number Full = 41
number KeyAbsent = 42

-- One more on a tally that stays at its top.
abbrev pub bumped : ℕ → ℕ
bumped n = min (n + 1) (2 ^ 64 - 1)

-- A search answers the key's result or none and counts one more; nothing else changes.
pub record Searched (before : Contents) (key : ℕ) (r : Option ℕ) (after : Contents) : Type 0 where
  pub answer : r ≡ find before.rows key
  pub rows : after.rows ≡ before.rows
  pub capacity : after.capacity ≡ before.capacity
  pub tally : after.tally ≡ bumped before.tally

-- The same rows and one more.
pub record Added (before : Contents) (row : Row) (after : Contents) : Type 0 where
  pub finds : (q : ℕ) → find after.rows q ≡ cond (q == row.key) (Some row.result) (find before.rows q)
  pub held : length after.rows ≡ length before.rows + 1
  pub capacity : after.capacity ≡ before.capacity
  pub tally : after.tally ≡ before.tally

-- The same rows without that of a key.
pub record Removed (before : Contents) (key : ℕ) (after : Contents) : Type 0 where
  pub finds : (q : ℕ) → find after.rows q ≡ cond (q == key) None (find before.rows q)
  pub held : length after.rows + 1 ≡ length before.rows
  pub capacity : after.capacity ≡ before.capacity
  pub tally : after.tally ≡ before.tally

-- A write asks whether the key is absent, then whether fewer rows are held than there is room for. It
-- adds the row, or is refused and changes nothing.
pub record Written (before : Contents) (row : Row) (r : Result (Unit {0}) StoreRefusal) (after : Contents) : Type 0 where
  pub asked : ask 40 (find before.rows row.key ≡ None) (ask 41 (length before.rows < before.capacity) accept) (refusal number r)
  pub effect : MatchResult r (λ _. Added before row after) (λ _. after ≡ before)

-- An erase asks whether the key is held. It removes the key's row, or is refused and changes nothing.
pub record Erased (before : Contents) (key : ℕ) (r : Result (Unit {0}) StoreRefusal) (after : Contents) : Type 0 where
  pub asked : ask 42 (find before.rows key ≢ None) accept (refusal number r)
  pub effect : MatchResult r (λ _. Removed before key after) (λ _. after ≡ before)
