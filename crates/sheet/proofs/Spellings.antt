-- The ways to write a field, as bytes.
use Rattle.std.proofs.Common.{ℕ, ◌<◌, Bool, true, false, not, ◌&&◌, eqb, List, [], ◌∷◌, ◌++◌, decimal, ◌≡◌}
use Rattle.std.specs.List.{list_all}
use Rattle.sheet.specs.declared.tokens.Mark.{Mark}
use Rattle.sheet.specs.Tokens.{is_letter}
use Rattle.sheet.specs.Forms.{Want, digits, the, name, byte, named}

-- A way with these numbers.
abbrev pub spelling : List Want → List ℕ → List ℕ
spelling [] ns = []
spelling (digits ∷ ws) [] = []
spelling (digits ∷ ws) (n ∷ ns) = decimal n ++ spelling ws ns
spelling (the m ∷ ws) ns = byte m ∷ spelling ws ns
spelling (name w ∷ ws) [] = []
spelling (name w ∷ ws) (n ∷ ns) = w ++ spelling ws ns

-- The numbers are as many as the way has, and a token can have each of them.
abbrev pub Suits : List Want → List ℕ → Type 0
Suits [] [] = Unit {0}
Suits [] (n ∷ ns) = ⊥
Suits (digits ∷ ws) [] = ⊥
Suits (digits ∷ ws) (n ∷ ns) = (n < 100000) × Suits ws ns
Suits (the m ∷ ws) ns = Suits ws ns
Suits (name w ∷ ws) [] = ⊥
Suits (name w ∷ ws) (n ∷ ns) = (n ≡ named w) × Suits ws ns

pub data In : List Want → List (List Want) → Type 0 where
  here : {v : List Want} {ways : List (List Want)} → In v (v ∷ ways)
  there : {v u : List Want} {ways : List (List Want)} → In v ways → In v (u ∷ ways)

-- A mark closes each way and stands nowhere else in it, and after each number and each name a mark stands.
abbrev pub is_the : Mark → Want → Bool
is_the m digits = false
is_the m (the n) = eqb (byte m) (byte n)
is_the m (name w) = false

abbrev pub parted : Want → Want → Bool
parted digits digits = false
parted digits (the n) = true
parted digits (name w) = false
parted (the m) v = true
parted (name []) v = false
parted (name (b ∷ bs)) digits = false
parted (name (b ∷ bs)) (the n) = list_all is_letter (b ∷ bs)
parted (name (b ∷ bs)) (name w) = false

abbrev pub closed : Mark → List Want → Bool
closed m [] = false
closed m (w ∷ []) = is_the m w
closed m (w ∷ v ∷ ws) = not (is_the m w) && (parted w v && closed m (v ∷ ws))
