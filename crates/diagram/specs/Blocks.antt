-- Blocks of values, and the cover of a range by them.
use Rattle.std.specs.Prelude.{◌≡◌, ℕ, zero, suc, ◌+◌, ◌-◌, ◌%◌, ◌^◌, ◌<◌, ◌≤◌, Bool, true, false, ◌&&◌, List, [], ◌∷◌, ◌==◌, nat_le}

-- A block of a field: its length, and its least value.
pub record Block : Type 0 where
  pub len : ℕ
  pub value : ℕ

-- 2 ^ e values from lo on are a block (they share all bits but the last e), and end within high.
abbrev pub room : ℕ → ℕ → ℕ → Bool
room lo hi e = lo % 2 ^ e == 0 && nat_le (lo + 2 ^ e) (hi + 1)

-- The largest e, at most the given one, for which there is room (0 always has it).
abbrev pub largest : ℕ → ℕ → ℕ → ℕ
largest lo hi zero = zero
largest lo hi (suc e) = elim (room lo hi (suc e)) [ true ↦ suc e | false ↦ largest lo hi e ]

-- From the low end upward, each time the largest block that begins there and ends within the range.
-- The first number bounds how many blocks are taken.
abbrev pub covering : ℕ → ℕ → ℕ → ℕ → List Block
covering zero w lo hi = []
covering (suc k) w lo hi =
    elim (nat_le lo hi) [
      | true ↦ record { len = w - largest lo hi w; value = lo } ∷ covering k w (lo + 2 ^ largest lo hi w) hi
      | false ↦ []
    ]

abbrev pub cover : ℕ → ℕ → ℕ → List Block
cover w lo hi = covering (suc hi - lo) w lo hi

-- A block of length n begins at lo and ends within high.
abbrev pub Fits : ℕ → ℕ → ℕ → ℕ → Type 0
Fits w lo hi n = (n ≤ w) × (lo % 2 ^ (w - n) ≡ 0) × (lo + 2 ^ (w - n) ≤ hi + 1)

-- The range is covered from its low end upward, each time by the largest block that begins there and ends within it.
abbrev pub Covers : ℕ → ℕ → ℕ → List Block → Type 0
Covers w lo hi [] = hi < lo
Covers w lo hi (b ∷ bs) =
    (b.value ≡ lo) × Fits w lo hi b.len × ((n : ℕ) → n < b.len → Fits w lo hi n → ⊥) × Covers w (lo + 2 ^ (w - b.len)) hi bs

abbrev pub CoverCovers : Type 0
CoverCovers = (w lo hi : ℕ) → Covers w lo hi (cover w lo hi)
