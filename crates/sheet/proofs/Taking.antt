-- What is known of the token that begins some bytes.
use Rattle.std.proofs.Common.{◌≡◌, ℕ, zero, suc, ◌+◌, ◌*◌, ◌-◌, ◌^◌, ◌<◌, ◌≤◌, true, false, List, [], ◌∷◌, length, get_or, take, Some, None, Option, inl, inr, sym, refl, ap, ◌∙◌, zero-lt-suc, arith, length-take, one-add}
use Rattle.std.proofs.Math.Nat.{pow-le-pow_right}
use Rattle.std.specs.List.{list_all, take_while}
use Rattle.std.specs.Str.Parse.{AllDigits, digits_value}
use Rattle.std.specs.Char.{digit_value}
use Rattle.std.proofs.lemmas.Int.Digits.{digits_value-lt, digits_value_more}
use Rattle.std.proofs.lemmas.List.Folds.{list_all_at}
use Rattle.std.proofs.lemmas.List.Sums.{prefix_len-le-length}
use Rattle.std.proofs.lemmas.List.Folds.{length-prefix_len}
use Rattle.std.proofs.lemmas.Bool.{cases_Bool, and_parts}
use Rattle.std.proofs.lemmas.Bool.Decides.{nat_tests}
use Rattle.sheet.specs.declared.tokens.Mark.{Mark}
use Rattle.sheet.specs.Tokens.{is_digit, is_letter, mark_of, as_mark, number_if_made, token, Tok, number, word, mark, size, well_made, digits_of, letters_of}
use Rattle.sheet.proofs.Tests.{tested}

-- A run of digits is made of digits.
pub run_of_digits : (bs : List ℕ) → list_all is_digit (take_while is_digit bs) ≡ true
run_of_digits [] = refl
run_of_digits (b ∷ bs) = elim (cases_Bool (is_digit b)) [ inl e ↦ rw (e, one-add, e) (run_of_digits bs) | inr e ↦ rw e refl ]

digit_value_small : (b : ℕ) → is_digit b ≡ true → digit_value b < 10
digit_value_small b e = grind (arith, nat_tests)

pub all_digits : (ds : List ℕ) → list_all is_digit ds ≡ true → AllDigits 10 ds
all_digits [] e = tt
all_digits (d ∷ ds) e = let q = and_parts (is_digit d) (list_all is_digit ds) e in (digit_value_small d q.0, all_digits ds q.1)

-- The token by its first byte.
pub token_number : (bs : List ℕ) → is_digit (get_or bs 0 0) ≡ true → token bs ≡ number_if_made (digits_of bs)
unfolding token
token_number bs e = rw e

pub token_word : (bs : List ℕ) → is_digit (get_or bs 0 0) ≡ false → is_letter (get_or bs 0 0) ≡ true → token bs ≡ Some (word (letters_of bs))
unfolding token
token_word bs e f = rw (e, f)

pub token_other : (bs : List ℕ) → is_digit (get_or bs 0 0) ≡ false → is_letter (get_or bs 0 0) ≡ false → token bs ≡ as_mark (mark_of (get_or bs 0 0))
unfolding token
token_other bs e f = rw (e, f)

pub token_none : token [] ≡ None
unfolding token
token_none = refl

-- A token lies within the bytes that it begins.
made_size : (ds : List ℕ) (t : Tok) → number_if_made ds ≡ Some t → size t ≡ length ds
made_size ds t e = ap size (sym (tested (well_made ds) (number ds) t e).1)

mark_size : (o : Option Mark) (t : Tok) → as_mark o ≡ Some t → size t ≡ 1
mark_size None t e = absurd (cc)
mark_size (Some m) t e = let q : t ≡ mark m = cc in ap size q

pub size_fits : (bs : List ℕ) (t : Tok) → token bs ≡ Some t → size t ≤ length bs
size_fits [] t e = let z : None ≡ Some t = sym token_none ∙ e in absurd (cc)
size_fits (b ∷ bs) t e =
    elim (cases_Bool (is_digit b)) [
      | inl d ↦ omega (arith, made_size (digits_of (b ∷ bs)) t (sym (token_number (b ∷ bs) d) ∙ e), length-prefix_len is_digit (b ∷ bs), prefix_len-le-length is_digit (b ∷ bs))
      | inr d ↦
          elim (cases_Bool (is_letter b)) [
            | inl l ↦
                let f : Some (word (letters_of (b ∷ bs))) ≡ Some t = sym (token_word (b ∷ bs) d l) ∙ e in
                let q : t ≡ word (letters_of (b ∷ bs)) = cc in
                omega (arith, ap size q, length-prefix_len is_letter (b ∷ bs), prefix_len-le-length is_letter (b ∷ bs))
            | inr l ↦ omega (arith, mark_size (mark_of b) t (sym (token_other (b ∷ bs) d l) ∙ e))
          ]
    ]

pub digit_is : (b : ℕ) → digit_value b < 10 → (48 ≤ b) × (digit_value b ≡ b - 48)
digit_is b h = grind (arith, nat_tests)

digit_at : (ds : List ℕ) (i : ℕ) → list_all is_digit ds ≡ true → i < length ds → is_digit (get_or ds i 0) ≡ true
digit_at ds i all inside =
    elim (cases_Bool (is_digit (get_or ds i 0))) [ inl e ↦ e | inr e ↦ let f = list_all_at is_digit ds i 0 inside e in absurd (cc (all, f)) ]

-- One more digit of a number.
pub record Step (ds : List ℕ) (i : ℕ) : Type 0 where
  pub least : 48 ≤ get_or ds i 0
  pub most : get_or ds i 0 ≤ 57
  pub small : digits_value 10 (take i ds) < 10000
  pub next : digits_value 10 (take (i + 1) ds) ≡ 10 * digits_value 10 (take i ds) + (get_or ds i 0 - 48)

take_digits : (ds : List ℕ) (i : ℕ) → AllDigits 10 ds → AllDigits 10 (take i ds)
take_digits [] zero h = tt
take_digits [] (suc i) h = tt
take_digits (d ∷ ds) zero h = tt
take_digits (d ∷ ds) (suc i) h = (h.0, take_digits ds i h.1)

pub number_step : (ds : List ℕ) (i : ℕ) → length ds ≤ 5 → list_all is_digit ds ≡ true → i < length ds → Step ds i
number_step ds i few all inside =
    let b : ℕ = get_or ds i 0 in
    let d : is_digit b ≡ true = digit_at ds i all inside in
    let bounds : (48 ≤ b) × (b ≤ 57) × (digit_value b ≡ b - 48) = grind (arith, nat_tests) in
    let lt = digits_value-lt 10 (take i ds) (take_digits ds i (all_digits ds all)) in
    let e : length (take i ds) ≡ i = simp length-take (omega arith) in
    let m : 10 ^ i ≤ 10 ^ 4 = let k : i ≤ 4 = omega arith in pow-le-pow_right (zero-lt-suc 9) k in
    record { least = bounds.0; most = bounds.1; small = omega (arith, rw e at lt); next = omega (arith, bounds.2, digits_value_more 10 ds i inside) }
