-- The fields of a header, and numbers that fit them.
use Rattle.std.specs.Prelude.{ℕ, ◌^◌, ◌<◌, List, [], ◌∷◌}

-- The width of each field in bits, in the order of the fields: source address, destination address,
-- source port, destination port, protocol. Every definition goes over this list.
abbrev pub widths : List ℕ
widths = 32 ∷ 32 ∷ 16 ∷ 16 ∷ 8 ∷ []

-- There is a number for each width, and each number fits its width.
abbrev pub Fit : List ℕ → List ℕ → Type 0
Fit [] [] = Unit {0}
Fit [] (x ∷ xs) = ⊥
Fit (w ∷ ws) [] = ⊥
Fit (w ∷ ws) (x ∷ xs) = (x < 2 ^ w) × Fit ws xs
