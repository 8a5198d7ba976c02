-- Lengths as the bits of a number.
use Rattle.std.specs.Prelude.{◌≡◌, ℕ, ◌≤◌, Bool, Option}
use Rattle.diagram.specs.Masks.{bit}
use Rattle.chain.specs.Looks.{longest}

-- a mask has the lengths of a table
abbrev pub Masks : ℕ → (ℕ → Bool) → Type 0
Masks mask occ = (n : ℕ) → n ≤ 32 → bit mask n ≡ occ n

abbrev pub longest_in : ℕ → ℕ → Option ℕ
longest_in mask bound = longest (bit mask) bound

-- and the longest length is then the same
abbrev pub SameLongest : Type 0
SameLongest = (mask : ℕ) (occ : ℕ → Bool) → Masks mask occ → (bound : ℕ) → bound ≤ 33 → longest_in mask bound ≡ longest occ bound
