-- Sets of small numbers, as the bits of a number.
use Rattle.std.specs.Prelude.{◌≡◌, ℕ, ◌/◌, ◌%◌, ◌^◌, Bool, ◌||◌, ◌==◌}

-- Bit i of a number.
abbrev pub bit : ℕ → ℕ → Bool
bit m i = m / 2 ^ i % 2 == 1

-- The mask with one more bit set.
abbrev pub With : ℕ → ℕ → ℕ → Type 0
With mask i more = (n : ℕ) → bit more n ≡ (i == n || bit mask n)
