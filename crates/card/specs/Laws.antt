-- The card's law: what holds after any calls, worded by calls and answers alone.
use Rattle.std.specs.Prelude.{◌≡◌, ℕ, ◌+◌, ◌-◌, ◌^◌, min, Bool, List, ◌++◌, length, ◌==◌}
use Rattle.store.specs.declared.row.Row.{Row}
use Rattle.store.specs.Rows.{find}
use Rattle.store.specs.Meaning.{Contents}
use Rattle.card.specs.Histories.{History, AllRight, rows_at, told_at}

-- The rows are none.
abbrev pub no_rows : List Row → Bool
no_rows rows = length rows == 0

-- A store that held `start` now holds these rows beside those that it held then, and no others; its
-- tally is that of the start plus the searches told, or its top if that is less.
pub record Stored (start : Contents) (rows : List Row) (told : ℕ) (store : Contents) : Type 0 where
  pub exact : (q : ℕ) → find store.rows q ≡ find (rows ++ start.rows) q
  pub count : length store.rows ≡ length rows + length start.rows
  pub capacity : store.capacity ≡ start.capacity
  pub counted : store.tally ≡ min (start.tally + told) (2 ^ 64 - 1)

-- A card was built on a store that held `start`, the calls and answers since are `h`, and the store now
-- holds `store`.
pub record Law (start : Contents) (h : History) (store : Contents) : Type 0 where
  -- Each answer was the one called for: the call was refused exactly by its first question answered no,
  -- and what it told was so. Where the store was not empty at the start, each call was refused for that.
  pub right : AllRight (no_rows start.rows) h
  -- Of each side the store holds the first rows of its chain, as many as were written less those
  -- cleared, and it has counted each search.
  pub stored : Stored start (rows_at h) (told_at h) store
