-- The entry of a list that passes a test.
use Rattle.std.specs.Prelude.{Bool, cond, List, [], ◌∷◌, Some, None, Option}

-- The first entry that passes.
abbrev pub pick : {A : Type 0} → (A → Bool) → List A → Option A
pick test [] = None
pick test (x ∷ xs) = cond (test x) (Some x) (pick test xs)
