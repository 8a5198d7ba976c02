-- Numbers that fit their widths, place by place.
use Rattle.std.proofs.Common.{◌≡◌, ℕ, zero, suc, ◌*◌, ◌/◌, ◌^◌, ◌<◌, List, [], ◌∷◌, length, get_or, ap, zero-mul, arith}
use native.Mathlib.Nat.{div-eq_of_lt}
use Rattle.std.proofs.lemmas.Nat.{pow_pos, shr_split, mod_below}
use Rattle.policy.specs.Fields.{Fit}

pub fit_each : (ws xs : List ℕ) → length xs ≡ length ws → ((k : ℕ) → k < length ws → get_or xs k 0 < 2 ^ get_or ws k 0) → Fit ws xs
fit_each [] [] e f = tt
fit_each [] (x ∷ xs) e f = absurd (omega arith)
fit_each (w ∷ ws) [] e f = absurd (omega arith)
fit_each (w ∷ ws) (x ∷ xs) e f = (f zero (omega arith), fit_each ws xs (omega arith) (λ k l. f (suc k) (omega arith)))

pub fit_at : (ws xs : List ℕ) → Fit ws xs → (k : ℕ) → k < length ws → get_or xs k 0 < 2 ^ get_or ws k 0
fit_at [] [] f k l = absurd (omega arith)
fit_at [] (x ∷ xs) f k l = absurd f
fit_at (w ∷ ws) [] f k l = absurd f
fit_at (w ∷ ws) (x ∷ xs) f zero l = f.0
fit_at (w ∷ ws) (x ∷ xs) f (suc k) l = fit_at ws xs f.1 k (omega arith)

pub fit_length : (ws xs : List ℕ) → Fit ws xs → length xs ≡ length ws
fit_length [] [] f = omega arith
fit_length [] (x ∷ xs) f = absurd f
fit_length (w ∷ ws) [] f = absurd f
fit_length (w ∷ ws) (x ∷ xs) f = let ih = fit_length ws xs f.1 in omega arith

-- What the test by a shift says.
pub below_shift : (x w : ℕ) → x / 2 ^ w ≡ 0 → x < 2 ^ w
below_shift x w e = omega (arith, shr_split x w, mod_below x (2 ^ w) (pow_pos w), ap (λ q. q * 2 ^ w) e, zero-mul (2 ^ w))

pub shift_below : (x w : ℕ) → x < 2 ^ w → x / 2 ^ w ≡ 0
shift_below x w l = div-eq_of_lt l
