-- What a pick from a list says.
use Rattle.std.specs.Prelude.{◌≡◌, ℕ, zero, suc, ◌<◌, Bool, true, ◌&&◌, List, [], ◌∷◌, length, Some, slice_index}
use Rattle.std.proofs.Common.{sym, ap, ◌∙◌, inl, inr, arith}
use Rattle.std.proofs.lemmas.Bool.{and_parts, cases_Bool, cond-true, cond-false}
use Rattle.policy.specs.Picks.{pick}

-- What is picked passes.
pub picked_passes : {A : Type 0} (test : A → Bool) (xs : List A) (d : A) → pick test xs ≡ Some d → test d ≡ true
picked_passes test [] d e = let wrong : ◌≡◌ {A = ℕ} 0 1 = cc in absurd (omega arith)
picked_passes test (x ∷ xs) d e =
    elim (cases_Bool (test x)) [
      | inl passes ↦
          let here = cond-true (test x) (Some x) (pick test xs) passes in
          let this : x ≡ d = cc in
          ap test (sym this) ∙ passes
      | inr fails ↦ picked_passes test xs d (sym (cond-false (test x) (Some x) (pick test xs) fails) ∙ e)
    ]

-- A test that each number of a list passes.
abbrev pub each : (ℕ → Bool) → List ℕ → Bool
each test [] = true
each test (x ∷ xs) = test x && each test xs

pub each_at : (test : ℕ → Bool) (xs : List ℕ) → each test xs ≡ true → (k : ℕ) → k < length xs → test (slice_index xs k) ≡ true
each_at test [] e k l = absurd (omega arith)
each_at test (x ∷ xs) e zero l = (and_parts (test x) (each test xs) e).0
each_at test (x ∷ xs) e (suc k) l = each_at test xs (and_parts (test x) (each test xs) e).1 k (omega arith)
