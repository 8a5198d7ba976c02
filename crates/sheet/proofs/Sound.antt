-- What was read is what the bytes say: one proof for all forms.
use Rattle.std.proofs.Common.{◌≡◌, ℕ, zero, suc, ◌+◌, ◌<◌, Bool, true, false, cond, not, ◌||◌, eqb, leb, List, [], ◌∷◌, ◌++◌, length, get_or, drop, Some, None, decimal, Option, sym, refl, ap, ◌∙◌, subst, inl, inr, append_assoc, append-nil, arith, length-append, rules, one-add}
use Rattle.std.specs.Str.Parse.{AllDigits, digits_value}
use Rattle.std.proofs.lemmas.Bool.{cases_Bool, eqb-true, and_parts, or_cases, leb-true, not-true}
use Rattle.std.proofs.lemmas.Bool.Decides.{nat_tests}
use Rattle.std.proofs.lemmas.List.{drop-drop, take-append-drop}
use Rattle.std.proofs.lemmas.Str.Parse.{IsNumeralModel, numerals_by_value, digits_value_short}
use Rattle.std.proofs.lemmas.Fmt.{decimal-digits_value}
use Rattle.sheet.specs.declared.tokens.Mark.{Mark}
use Rattle.sheet.specs.declared.tokens.Mark.TheVariants.{Dot, Slash, Dash, Star, Comma, LineFeed}
use Rattle.faults.specs.declared.Spot.{Spot}
use Rattle.std.specs.List.{prefix_len}
use Rattle.std.proofs.lemmas.List.Folds.{length-prefix_len}
use Rattle.sheet.specs.Tokens.{is_digit, is_letter, mark_of, as_mark, number_if_made, token, Tok, number, word, mark, size, well_made, digits_of, letters_of}
use Rattle.sheet.specs.Forms.{Want, digits, the, name, byte, same, named, fits, figures, after, ended, Read, got, fault, noted, went, turn, walk}
use Rattle.sheet.specs.Readings.{meant, ranged}
use Rattle.sheet.proofs.Spellings.{spelling, Suits, In, here, there}
use Rattle.sheet.proofs.Taking.{token_number, token_word, token_other, all_digits, run_of_digits}
use Rattle.sheet.proofs.Tests.{tested}

own : IsNumeralModel (AllDigits 10) (digits_value 10)
own = numerals_by_value (AllDigits 10) (search rules)

-- What a token says of the bytes that it begins.
made_number : (bs ds : List ℕ) → number_if_made bs ≡ Some (number ds) → (bs ≡ ds) × (well_made ds ≡ true)
made_number bs ds e = let q = tested (well_made bs) (number bs) (number ds) e in let r = q.1 in let same : bs ≡ ds = cc in (same, subst (λ (x : List ℕ). well_made x ≡ true) same q.0)

made_other : {A : Type 0} (bs : List ℕ) (t : Tok) → ((ds : List ℕ) → number ds ≡ t → ⊥) → number_if_made bs ≡ Some t → A
made_other bs t other e = absurd (other bs (tested (well_made bs) (number bs) t e).1)

as_mark_is : (o : Option Mark) (t : Tok) → as_mark o ≡ Some t → (m : Mark) × ((o ≡ Some m) × (t ≡ mark m))
as_mark_is None t e = absurd (cc)
as_mark_is (Some m) t e = (m, (refl, (cc)))

token_is_number : (bs ds : List ℕ) → token bs ≡ Some (number ds) → (is_digit (get_or bs 0 0) ≡ true) × (digits_of bs ≡ ds) × (well_made ds ≡ true)
token_is_number bs ds e =
    elim (cases_Bool (is_digit (get_or bs 0 0))) [
      | inl d ↦ let q = made_number (digits_of bs) ds (sym (token_number bs d) ∙ e) in (d, q.0, q.1)
      | inr d ↦
          elim (cases_Bool (is_letter (get_or bs 0 0))) [
            | inl l ↦ let f = sym (token_word bs d l) ∙ e in absurd (cc)
            | inr l ↦ let q = as_mark_is (mark_of (get_or bs 0 0)) (number ds) (sym (token_other bs d l) ∙ e) in let f = q.1.1 in absurd (cc)
          ]
    ]

token_is_word : (bs ls : List ℕ) → token bs ≡ Some (word ls) → letters_of bs ≡ ls
token_is_word bs ls e =
    elim (cases_Bool (is_digit (get_or bs 0 0))) [
      | inl d ↦ made_other (digits_of bs) (word ls) (λ ds f. cc) (sym (token_number bs d) ∙ e)
      | inr d ↦
          elim (cases_Bool (is_letter (get_or bs 0 0))) [
            | inl l ↦ let f = sym (token_word bs d l) ∙ e in cc
            | inr l ↦ let q = as_mark_is (mark_of (get_or bs 0 0)) (word ls) (sym (token_other bs d l) ∙ e) in let f = q.1.1 in absurd (cc)
          ]
    ]

token_is_mark : (bs : List ℕ) (m : Mark) → token bs ≡ Some (mark m) → mark_of (get_or bs 0 0) ≡ Some m
token_is_mark bs m e =
    elim (cases_Bool (is_digit (get_or bs 0 0))) [
      | inl d ↦ made_other (digits_of bs) (mark m) (λ ds f. cc) (sym (token_number bs d) ∙ e)
      | inr d ↦
          elim (cases_Bool (is_letter (get_or bs 0 0))) [
            | inl l ↦ let f = sym (token_word bs d l) ∙ e in absurd (cc)
            | inr l ↦ let q = as_mark_is (mark_of (get_or bs 0 0)) (mark m) (sym (token_other bs d l) ∙ e) in let f = q.1.1 in q.1.0 ∙ cc
          ]
    ]

mark_byte : (b : ℕ) (m : Mark) → mark_of b ≡ Some m → b ≡ byte m
mark_byte b Dot e = grind (arith, nat_tests)
mark_byte b Slash e = grind (arith, nat_tests)
mark_byte b Dash e = grind (arith, nat_tests)
mark_byte b Star e = grind (arith, nat_tests)
mark_byte b Comma e = grind (arith, nat_tests)
mark_byte b LineFeed e = grind (arith, nat_tests)

byte_some : (m : Mark) → 0 < byte m
byte_some Dot = omega arith
byte_some Slash = omega arith
byte_some Dash = omega arith
byte_some Star = omega arith
byte_some Comma = omega arith
byte_some LineFeed = omega arith

first : (bs : List ℕ) (b : ℕ) → 0 < b → get_or bs 0 0 ≡ b → bs ≡ (b ∷ []) ++ drop 1 bs
first [] b h e = absurd (omega arith)
first (x ∷ xs) b h e = ap (λ (y : ℕ). y ∷ xs) e

same_is : (xs ys : List ℕ) → same xs ys ≡ true → xs ≡ ys
same_is [] [] e = refl
same_is [] (y ∷ ys) e = absurd (cc)
same_is (x ∷ xs) [] e = absurd (cc)
same_is (x ∷ xs) (y ∷ ys) e =
    let p = and_parts (eqb x y) (same xs ys) e in
    ap (λ (a : ℕ). a ∷ xs) (eqb-true x y p.0) ∙ ap (λ (t : List ℕ). y ∷ t) (same_is xs ys p.1)

lead : (ds : List ℕ) → well_made ds ≡ true → get_or ds 0 0 ≡ 48 → length ds ≡ 1
lead ds w e =
    elim (or_cases (eqb (length ds) 1) (not (eqb (get_or ds 0 0) 48)) (and_parts (leb (length ds) 5) (eqb (length ds) 1 || not (eqb (get_or ds 0 0) 48)) w).1) [
      | inl h ↦ eqb-true (length ds) 1 h
      | inr h ↦ absurd (Rattle.std.proofs.lemmas.Bool.eqb-false (get_or ds 0 0) 48 (not-true (eqb (get_or ds 0 0) 48) h) e)
    ]

digits_some : (bs : List ℕ) → is_digit (get_or bs 0 0) ≡ true → 0 < length (digits_of bs)
digits_some [] e = absurd (cc)
digits_some (b ∷ bs) e = rw (e, one-add) (omega arith)

-- A token that is wanted, as bytes and as numbers, before what else is spelled.
record Spelled (w : Want) (t : Tok) (v : List Want) (ms bs rest : List ℕ) : Type 0 where
  suits : Suits (w ∷ v) (figures t ++ ms)
  bytes : bs ≡ spelling (w ∷ v) (figures t ++ ms) ++ rest
  length_is : length (spelling (w ∷ v) (figures t ++ ms)) ≡ size t + length (spelling v ms)

module _ (v : List Want) (ms bs rest : List ℕ) (suits : Suits v ms) where
  spelled_number : (ds : List ℕ) → token bs ≡ Some (number ds) → drop (length ds) bs ≡ spelling v ms ++ rest → Spelled digits (number ds) v ms bs rest
  spelled_number ds e d =
      let q = token_is_number bs ds e in
      let some = subst (λ (x : List ℕ). 0 < length x) q.1 (digits_some bs q.0) in
      let dd = subst (AllDigits 10) q.1 (all_digits (digits_of bs) (run_of_digits bs)) in
      let five = leb-true (length ds) 5 (and_parts (leb (length ds) 5) (eqb (length ds) 1 || not (eqb (get_or ds 0 0) 48)) q.2).0 in
      let small = digits_value_short own ds 5 dd five in
      let same : decimal (digits_value 10 ds) ≡ ds = decimal-digits_value own ds dd some (lead ds q.2) (omega (arith, small)) in
      let len : length ds ≡ prefix_len is_digit bs = sym (ap length q.1) ∙ length-prefix_len is_digit bs in
      record {
        suits = (small, suits);
        bytes =
            sym (take-append-drop (prefix_len is_digit bs) bs) ∙ ap (λ (t : List ℕ). t ++ drop (prefix_len is_digit bs) bs) q.1 ∙ ap (λ (k : ℕ). ds ++ drop k bs) (sym len)
            ∙ ap (λ (t : List ℕ). ds ++ t) d ∙ ap (λ (t : List ℕ). t ++ (spelling v ms ++ rest)) (sym same) ∙ sym (append_assoc (decimal (digits_value 10 ds)) (spelling v ms) rest);
        length_is = length-append (decimal (digits_value 10 ds)) (spelling v ms) ∙ ap (λ (t : List ℕ). length t + length (spelling v ms)) same;
      }

  spelled_mark : (m n : Mark) → token bs ≡ Some (mark n) → eqb (byte m) (byte n) ≡ true → drop 1 bs ≡ spelling v ms ++ rest → Spelled (the m) (mark n) v ms bs rest
  spelled_mark m n e f d =
      let b = mark_byte (get_or bs 0 0) n (token_is_mark bs n e) in
      record {
        suits = suits;
        bytes = first bs (byte m) (byte_some m) (b ∙ sym (eqb-true (byte m) (byte n) f)) ∙ ap (λ (t : List ℕ). byte m ∷ t) d;
        length_is = omega arith;
      }

  spelled_word : (w ls : List ℕ) → token bs ≡ Some (word ls) → same w ls ≡ true → drop (length ls) bs ≡ spelling v ms ++ rest → Spelled (name w) (word ls) v ms bs rest
  spelled_word w ls e f d =
      let q = token_is_word bs ls e in
      let is = same_is w ls f in
      let len : length ls ≡ prefix_len is_letter bs = sym (ap length q) ∙ length-prefix_len is_letter bs in
      record {
        suits = (ap named (sym is), suits);
        bytes =
            sym (take-append-drop (prefix_len is_letter bs) bs) ∙ ap (λ (t : List ℕ). t ++ drop (prefix_len is_letter bs) bs) q ∙ ap (λ (k : ℕ). ls ++ drop k bs) (sym len)
            ∙ ap (λ (t : List ℕ). ls ++ t) d ∙ ap (λ (t : List ℕ). t ++ (spelling v ms ++ rest)) (sym is) ∙ sym (append_assoc w (spelling v ms) rest);
        length_is = length-append w (spelling v ms) ∙ ap (λ (t : List ℕ). length t + length (spelling v ms)) is;
      }

  spelled : (w : Want) (t : Tok) → token bs ≡ Some t → fits w t ≡ true → drop (size t) bs ≡ spelling v ms ++ rest → Spelled w t v ms bs rest
  spelled digits (number ds) e f d = spelled_number ds e d
  spelled digits (word ls) e f d = absurd (cc)
  spelled digits (mark m) e f d = absurd (cc)
  spelled (the m) (number ds) e f d = absurd (cc)
  spelled (the m) (word ls) e f d = absurd (cc)
  spelled (the m) (mark n) e f d = spelled_mark m n e f d
  spelled (name w) (number ds) e f d = absurd (cc)
  spelled (name w) (word ls) e f d = spelled_word w ls e f d
  spelled (name w) (mark m) e f d = absurd (cc)

ended_in : (ways : List (List Want)) → ended ways ≡ true → In [] ways
ended_in [] e = absurd (cc)
ended_in ([] ∷ ways) e = here
ended_in ((w ∷ ws) ∷ ways) e = there (ended_in ways e)

abbrev Before : Tok → List Want → List (List Want) → Type 0
Before t v ways = (w : Want) × (In (w ∷ v) ways × (fits w t ≡ true))

after_step : (t : Tok) (w : Want) (ws : List Want) (ways : List (List Want)) (v : List Want) (b : Bool) → (In v (after t ways) → Before t v ways) →
    fits w t ≡ b → In v (cond b (ws ∷ after t ways) (after t ways)) → Before t v ((w ∷ ws) ∷ ways)
after_step t w ws ways v true rec e here = (w, (here, e))
after_step t w ws ways v true rec e (there i) = let q = rec i in (q.0, (there q.1.0, q.1.1))
after_step t w ws ways v false rec e i = let q = rec i in (q.0, (there q.1.0, q.1.1))

after_in : (t : Tok) (ways : List (List Want)) (v : List Want) → In v (after t ways) → Before t v ways
after_in t [] v i = elim i [ ]
after_in t ([] ∷ ways) v i = let q = after_in t ways v i in (q.0, (there q.1.0, q.1.1))
after_in t ((w ∷ ws) ∷ ways) v i = after_step t w ws ways v (fits w t) (after_in t ways v) refl i

-- Some way of the form stands at the place, with these numbers.
pub record Stands (ways : List (List Want)) (s : List ℕ) (at : ℕ) (ns : List ℕ) (to : ℕ) : Type 0 where
  pub way : List Want
  pub among : In way ways
  pub suits : Suits way ns
  pub bytes : drop at s ≡ spelling way ns ++ drop to s
  pub end : to ≡ at + length (spelling way ns)

noted_got : (ns : List ℕ) (x : Read (List ℕ)) (ls : List ℕ) (to : ℕ) → noted ns x ≡ got ls to → (ms : List ℕ) × ((x ≡ got ms to) × (ls ≡ ns ++ ms))
noted_got ns (fault e) ls to h = absurd (cc)
noted_got ns (got ms m) ls to h = (ms, (let q : m ≡ to = cc in ap (got ms) q, let q : ns ++ ms ≡ ls = cc in sym q))

one_first : (ways : List (List Want)) (s : List ℕ) (at : ℕ) (t : Tok) (v : List Want) (ms : List ℕ) (to : ℕ) → token (drop at s) ≡ Some t → In v (after t ways) →
    Suits v ms → drop (at + size t) s ≡ spelling v ms ++ drop to s → to ≡ at + size t + length (spelling v ms) → Stands ways s at (figures t ++ ms) to
one_first ways s at t v ms to e i suits d l =
    let b = after_in t ways v i in
    let q = spelled v ms (drop at s) (drop to s) suits b.0 t e b.1.1 (drop-drop (size t) at s ∙ d) in
    record { way = b.0 ∷ v; among = b.1.0; suits = q.suits; bytes = q.bytes; end = omega (arith, l, q.length_is) }

went_sound : (p : Spot) (f : List (List Want) → ℕ → Read (List ℕ)) (ways : List (List Want)) (s : List ℕ) (at : ℕ) (t : Tok) (ns : List ℕ) (to : ℕ) → token (drop at s) ≡ Some t →
    ((vs : List (List Want)) (a : ℕ) (ms : List ℕ) → f vs a ≡ got ms to → Stands vs s a ms to) →
    (vs : List (List Want)) → after t ways ≡ vs → went p f t at vs ≡ got ns to → Stands ways s at ns to
went_sound p f ways s at t ns to e rec [] a h = absurd (cc)
went_sound p f ways s at t ns to e rec (v ∷ vs) a h =
    elim (cases_Bool (ended (v ∷ vs))) [
      | inl w ↦
          let g : got (figures t) (at + size t) ≡ got ns to = ap (λ (b : Bool). cond b (got (figures t) (at + size t)) (noted (figures t) (f (v ∷ vs) (at + size t)))) (sym w) ∙ h in
          let n1 : figures t ≡ ns = cc in
          let n2 : at + size t ≡ to = cc in
          let st = one_first ways s at t [] [] to e (subst (λ (x : List (List Want)). In [] x) (sym a) (ended_in (v ∷ vs) w)) tt (ap (λ (k : ℕ). drop k s) n2) (omega (arith, n2)) in
          subst (λ (x : List ℕ). Stands ways s at x to) (append-nil (figures t) ∙ n1) st
      | inr w ↦
          let g : noted (figures t) (f (v ∷ vs) (at + size t)) ≡ got ns to = ap (λ (b : Bool). cond b (got (figures t) (at + size t)) (noted (figures t) (f (v ∷ vs) (at + size t)))) (sym w) ∙ h in
          let m = noted_got (figures t) (f (v ∷ vs) (at + size t)) ns to g in
          let r = rec (v ∷ vs) (at + size t) m.0 m.1.0 in
          let st = one_first ways s at t r.way m.0 to e (subst (λ (x : List (List Want)). In r.way x) (sym a) r.among) r.suits r.bytes r.end in
          subst (λ (x : List ℕ). Stands ways s at x to) (sym m.1.1) st
    ]

turn_sound : (p : Spot) (f : List (List Want) → ℕ → Read (List ℕ)) (ways : List (List Want)) (s : List ℕ) (at : ℕ) (ns : List ℕ) (to : ℕ) →
    ((vs : List (List Want)) (a : ℕ) (ms : List ℕ) → f vs a ≡ got ms to → Stands vs s a ms to) →
    (o : Option Tok) → token (drop at s) ≡ o → turn p f ways at o ≡ got ns to → Stands ways s at ns to
turn_sound p f ways s at ns to rec None e h = absurd (cc)
turn_sound p f ways s at ns to rec (Some t) e h = went_sound p f ways s at t ns to e rec (after t ways) refl h

pub walk_sound : (k : ℕ) (ways : List (List Want)) (s : List ℕ) (p : Spot) (at : ℕ) (ns : List ℕ) (to : ℕ) → walk k ways s p at ≡ got ns to → Stands ways s at ns to
walk_sound zero ways s p at ns to h = absurd (cc)
walk_sound (suc k) ways s p at ns to h =
    turn_sound p (λ vs a. walk k vs s p a) ways s at ns to (λ vs a ms. walk_sound k vs s p a ms to) (token (drop at s)) refl h

-- A field was read: these bytes, with the mark that closes them.
pub record FieldRead {A : Type 0} (m : Mark) (means : List ℕ → A → Type 0) (s : List ℕ) (at to : ℕ) (x : A) : Type 0 where
  pub text : List ℕ
  pub right : means text x
  pub bytes : drop at s ≡ text ++ (byte m ∷ drop to s)
  pub end : to ≡ at + (length text + 1)

-- Whatever a reading of a field answers is what bytes before the closing mark mean.
abbrev pub Only : {A : Type 0} → Mark → (List ℕ → Spot → ℕ → Read A) → (List ℕ → A → Type 0) → Type 0
Only {A} m reads Means = (s : List ℕ) (p : Spot) (at to : ℕ) (x : A) → reads s p at ≡ got x to → FieldRead m Means s at to x

-- What the numbers of a way mean is written so.
abbrev pub Written : {A : Type 0} → Mark → (List ℕ → Option A) → (List ℕ → A → Type 0) → List (List Want) → Type 0
Written {A} m of Means ways =
    (way : List Want) (ns : List ℕ) (x : A) → In way ways → Suits way ns → of ns ≡ Some x → (text : List ℕ) × (Means text x × (spelling way ns ≡ text ++ (byte m ∷ [])))

ranged_got : {A : Type 0} (p : Spot) (at m : ℕ) (o : Option A) (x : A) (to : ℕ) → ranged p at m o ≡ got x to → (o ≡ Some x) × (m ≡ to)
ranged_got p at m None x to h = absurd (cc)
ranged_got p at m (Some y) x to h = (let q : y ≡ x = cc in ap Some q, (cc))

meant_got : {A : Type 0} (of : List ℕ → Option A) (p : Spot) (at : ℕ) (r : Read (List ℕ)) (x : A) (to : ℕ) → meant of p at r ≡ got x to → (ns : List ℕ) × ((r ≡ got ns to) × (of ns ≡ Some x))
meant_got of p at (fault e) x to h = absurd (cc)
meant_got of p at (got ns m) x to h = let q = ranged_got p at m (of ns) x to h in (ns, (ap (got ns) q.1, q.0))

module _ {A : Type 0} (m : Mark) (of : List ℕ → Option A) (Means : List ℕ → A → Type 0) (ways : List (List Want)) (written : Written m of Means ways) (s : List ℕ) (at to : ℕ) (x : A) where
  field_read : (ns : List ℕ) → Stands ways s at ns to → of ns ≡ Some x → FieldRead m Means s at to x
  field_read ns st is =
      let w = written st.way ns x st.among st.suits is in
      record {
        text = w.0;
        right = w.1.0;
        bytes = st.bytes ∙ ap (λ (t : List ℕ). t ++ drop to s) w.1.1 ∙ append_assoc w.0 (byte m ∷ []) (drop to s);
        end = omega (arith, st.end, ap length w.1.1, length-append w.0 (byte m ∷ []));
      }

  pub only_among : (k : ℕ) (p : Spot) → meant of p at (walk k ways s p at) ≡ got x to → FieldRead m Means s at to x
  only_among k p h = let q = meant_got of p at (walk k ways s p at) x to h in field_read q.0 (walk_sound k ways s p at q.0 to q.1.0) q.1.1
