-- What is written in one of the ways of a field is read.
use Rattle.std.proofs.Common.{◌≡◌, ℕ, zero, suc, ◌+◌, ◌≤◌, true, false, cond, not, ◌&&◌, eqb, List, [], ◌∷◌, ◌++◌, length, get_or, take, drop, Some, Option, decimal, sym, refl, ap, ◌∙◌, subst, append_assoc, arith, length-append, one-add}
use Rattle.std.specs.List.{list_all, prefix_len}
use Rattle.std.proofs.lemmas.Bool.{and_parts, and_from, eqb-true, eq-eqb, not-true}
use Rattle.std.proofs.lemmas.Bool.Decides.{nat_tests}
use Rattle.std.proofs.lemmas.Fmt.{decimal_is_IsNumeral}
use Rattle.std.proofs.lemmas.List.{take_at}
use Rattle.faults.specs.declared.Spot.{Spot}
use Rattle.sheet.specs.declared.tokens.Mark.{Mark}
use Rattle.sheet.specs.declared.tokens.Mark.TheVariants.{Dot, Slash, Dash, Star, Comma, LineFeed}
use Rattle.sheet.specs.Tokens.{is_digit, is_letter, letters_of, token, Tok, number, word, mark, size}
use Rattle.sheet.specs.Forms.{Want, digits, the, name, byte, same, fits, after, ended, figures, Read, got, noted, went, walk}
use Rattle.sheet.specs.Readings.{meant, ranged}
use Rattle.sheet.proofs.Numbers.{past, token_decimal}
use Rattle.sheet.proofs.Spellings.{spelling, Suits, In, here, there, is_the, parted, closed}
use Rattle.sheet.proofs.Taking.{token_word}
use Rattle.sheet.proofs.Walks.{walk_at}

-- The token that is written first.
pub mark_token : (m : Mark) (rest : List ℕ) → token (byte m ∷ rest) ≡ Some (mark m)
unfolding token
mark_token Dot rest = refl
mark_token Slash rest = refl
mark_token Dash rest = refl
mark_token Star rest = refl
mark_token Comma rest = refl
mark_token LineFeed rest = refl

mark_alone : (m : Mark) → (is_digit (byte m) ≡ false) × (is_letter (byte m) ≡ false)
mark_alone Dot = (refl, refl)
mark_alone Slash = (refl, refl)
mark_alone Dash = (refl, refl)
mark_alone Star = (refl, refl)
mark_alone Comma = (refl, refl)
mark_alone LineFeed = (refl, refl)

letters_over : (w rest : List ℕ) → list_all is_letter w ≡ true → is_letter (get_or rest 0 0) ≡ false → prefix_len is_letter (w ++ rest) ≡ length w
letters_over [] [] h e = refl
letters_over [] (b ∷ bs) h e = rw e
letters_over (b ∷ bs) rest h e = let q = and_parts (is_letter b) (list_all is_letter bs) h in rw (q.0, one-add) (ap suc (letters_over bs rest q.1 e))

letter_no_digit : (b : ℕ) → is_letter b ≡ true → is_digit b ≡ false
letter_no_digit b e = grind (arith, nat_tests)

word_token : (b : ℕ) (bs rest : List ℕ) → list_all is_letter (b ∷ bs) ≡ true → is_letter (get_or rest 0 0) ≡ false → token ((b ∷ bs) ++ rest) ≡ Some (word (b ∷ bs))
word_token b bs rest h e =
    let l = (and_parts (is_letter b) (list_all is_letter bs) h).0 in
    let q : letters_of ((b ∷ bs) ++ rest) ≡ b ∷ bs = ap (λ (k : ℕ). take k ((b ∷ bs) ++ rest)) (letters_over (b ∷ bs) rest h e) ∙ take_at (b ∷ bs) rest (length (b ∷ bs)) refl in
    token_word ((b ∷ bs) ++ rest) (letter_no_digit b l) l ∙ ap (λ (ls : List ℕ). Some (word ls)) q

same_self : (w : List ℕ) → same w w ≡ true
same_self [] = refl
same_self (b ∷ bs) = and_from (eqb b b) (same bs bs) (eq-eqb b b refl) (same_self bs)

-- What is left of the ways.
ended_in : (ways : List (List Want)) → In [] ways → ended ways ≡ true
ended_in [] i = elim i [ ]
ended_in ([] ∷ ways) i = refl
ended_in ((w ∷ ws) ∷ ways) (there i) = ended_in ways i

after_in : (t : Tok) (w : Want) (v : List Want) (ways : List (List Want)) → fits w t ≡ true → In (w ∷ v) ways → In v (after t ways)
after_in t w v [] e i = elim i [ ]
after_in t w v (u ∷ ways) e here = rw e here
after_in t w v ([] ∷ ways) e (there i) = after_in t w v ways e i
after_in t w v ((u ∷ us) ∷ ways) e (there i) = elim (fits u t) as (λ b. In v (cond b (us ∷ after t ways) (after t ways))) [ true ↦ there (after_in t w v ways e i) | false ↦ after_in t w v ways e i ]

-- The closing mark is another mark, or no mark.
abbrev Open : Mark → Tok → Type 0
Open m t = fits (the m) t ≡ false

closing : (m : Mark) (w : Want) (t : Tok) → is_the m w ≡ true → Open m t → fits w t ≡ false
closing m digits t e o = absurd (cc)
closing m (the n) (number ds) e o = refl
closing m (the n) (word ls) e o = refl
closing m (the n) (mark k) e o = let q = eqb-true (byte m) (byte n) e in subst (λ (b : ℕ). eqb b (byte k) ≡ false) q o
closing m (name w) t e o = absurd (cc)

pub record Left (m : Mark) (ways : List (List Want)) : Type 0 where
  pub going : ended ways ≡ false
  pub all : list_all (closed m) ways ≡ true

left : (m : Mark) (t : Tok) → Open m t → (ways : List (List Want)) → list_all (closed m) ways ≡ true → Left m (after t ways)
left m t o [] h = record { going = refl; all = refl }
left m t o ([] ∷ ways) h = absurd (cc)
left m t o ((w ∷ []) ∷ ways) h = let q = and_parts (is_the m w) (list_all (closed m) ways) h in rw (closing m w t q.0 o) (left m t o ways q.1)
left m t o ((w ∷ v ∷ ws) ∷ ways) h =
    let q = and_parts (closed m (w ∷ v ∷ ws)) (list_all (closed m) ways) h in
    let r = left m t o ways q.1 in
    let c = (and_parts (parted w v) (closed m (v ∷ ws)) (and_parts (not (is_the m w)) (parted w v && closed m (v ∷ ws)) q.0).1).1 in
    elim (fits w t) as (λ b. Left m (cond b ((v ∷ ws) ∷ after t ways) (after t ways))) [
      | true ↦ record { going = r.going; all = and_from (closed m (v ∷ ws)) (list_all (closed m) (after t ways)) c r.all }
      | false ↦ r
    ]

in_closed : (m : Mark) (way : List Want) (ways : List (List Want)) → In way ways → list_all (closed m) ways ≡ true → closed m way ≡ true
in_closed m way [] i h = elim i [ ]
in_closed m way (u ∷ ways) here h = (and_parts (closed m way) (list_all (closed m) ways) h).0
in_closed m way (u ∷ ways) (there i) h = in_closed m way ways i (and_parts (closed m u) (list_all (closed m) ways) h).1

went_end : (p : Spot) (f : List (List Want) → ℕ → Read (List ℕ)) (t : Tok) (at : ℕ) (ways : List (List Want)) → ended ways ≡ true → went p f t at ways ≡ got (figures t) (at + size t)
went_end p f t at [] e = absurd (cc)
went_end p f t at (w ∷ ws) e = rw e

went_on : (p : Spot) (f : List (List Want) → ℕ → Read (List ℕ)) (t : Tok) (at : ℕ) (v : List Want) (ways : List (List Want)) → In v ways → ended ways ≡ false → went p f t at ways ≡ noted (figures t) (f ways (at + size t))
went_on p f t at v [] i e = elim i [ ]
went_on p f t at v (w ∷ ws) i e = rw e

module _ (m : Mark) (s rest : List ℕ) (p : Spot) where
  abbrev Finds : ℕ → List Want → Type 0
  Finds k way = (ways : List (List Want)) (ns : List ℕ) (at : ℕ) → list_all (closed m) ways ≡ true → In way ways → Suits way ns → drop at s ≡ spelling way ns ++ rest → walk k ways s p at ≡ got ns (at + length (spelling way ns))

  -- A token that does not end its field, and then the others.
  one_more : (k : ℕ) (t : Tok) (w v : Want) (ws : List Want) (ways : List (List Want)) (text ns ms : List ℕ) (at : ℕ) → Finds k (v ∷ ws) → list_all (closed m) ways ≡ true → In (w ∷ v ∷ ws) ways → Suits (v ∷ ws) ms →
      token (drop at s) ≡ Some t → fits w t ≡ true → Open m t → drop at s ≡ text ++ (spelling (v ∷ ws) ms ++ rest) → length text ≡ size t → figures t ++ ms ≡ ns →
      walk (suc k) ways s p at ≡ got ns (at + length (text ++ spelling (v ∷ ws) ms))
  one_more k t w v ws ways text ns ms at rec all i suits e f o d size_is ns_is =
      let q = left m t o ways all in
      let j = after_in t w (v ∷ ws) ways f i in
      let next : drop (at + size t) s ≡ spelling (v ∷ ws) ms ++ rest = ap (λ (k : ℕ). drop (at + k) s) (sym size_is) ∙ past s text (spelling (v ∷ ws) ms ++ rest) at d in
      walk_at k ways s p at (Some t) e
      ∙ went_on p (λ us to. walk k us s p to) t at (v ∷ ws) (after t ways) j q.going
      ∙ ap (noted (figures t)) (rec (after t ways) ms (at + size t) q.all j suits next)
      ∙ ap (λ (x : List ℕ). got x (at + size t + length (spelling (v ∷ ws) ms))) ns_is
      ∙ ap (got ns) (omega (arith, size_is, length-append text (spelling (v ∷ ws) ms)))

  finds : (way : List Want) (k : ℕ) → length way ≤ k → closed m way ≡ true → Finds k way
  finds [] k short c ways ns at all i suits d = absurd (cc)
  finds (w ∷ ws) zero short c ways ns at all i suits d = absurd (omega arith)
  finds (digits ∷ []) (suc k) short c ways ns at all i suits d = absurd (cc)
  finds (name w ∷ []) (suc k) short c ways ns at all i suits d = absurd (cc)
  finds (the n ∷ []) (suc k) short c ways [] at all i suits d =
      walk_at k ways s p at (Some (mark n)) (ap token d ∙ mark_token n rest)
      ∙ went_end p (λ us to. walk k us s p to) (mark n) at (after (mark n) ways) (ended_in (after (mark n) ways) (after_in (mark n) (the n) [] ways (eq-eqb (byte n) (byte n) refl) i))
  finds (the n ∷ []) (suc k) short c ways (x ∷ ns) at all i suits d = absurd suits
  finds (the n ∷ v ∷ ws) (suc k) short c ways ns at all i suits d =
      let q = and_parts (not (is_the m (the n))) (parted (the n) v && closed m (v ∷ ws)) c in
      let r = and_parts (parted (the n) v) (closed m (v ∷ ws)) q.1 in
      one_more k (mark n) (the n) v ws ways (byte n ∷ []) ns ns at (finds (v ∷ ws) k (omega arith) r.1) all i suits (ap token d ∙ mark_token n (spelling (v ∷ ws) ns ++ rest)) (eq-eqb (byte n) (byte n) refl)
      (not-true (eqb (byte m) (byte n)) q.0) d refl refl
  finds (digits ∷ v ∷ ws) (suc k) short c ways [] at all i suits d = absurd suits
  finds (digits ∷ digits ∷ ws) (suc k) short c ways (n ∷ ns) at all i suits d = absurd (cc)
  finds (digits ∷ name u ∷ ws) (suc k) short c ways (n ∷ ns) at all i suits d = absurd (cc)
  finds (digits ∷ the u ∷ ws) (suc k) short c ways (n ∷ ns) at all i suits d =
      let e : drop at s ≡ decimal n ++ (spelling (the u ∷ ws) ns ++ rest) = d ∙ append_assoc (decimal n) (spelling (the u ∷ ws) ns) rest in
      one_more k (number (decimal n)) digits (the u) ws ways (decimal n) (n ∷ ns) ns at (finds (the u ∷ ws) k (omega arith) c) all i suits.1
      (ap token e ∙ token_decimal n (spelling (the u ∷ ws) ns ++ rest) suits.0 (mark_alone u).0) refl refl e refl
      (ap (λ (v : ℕ). v ∷ ns) (decimal_is_IsNumeral n (omega (arith, suits.0))).1)
  finds (name w ∷ v ∷ ws) (suc k) short c ways [] at all i suits d = absurd suits
  finds (name [] ∷ v ∷ ws) (suc k) short c ways (n ∷ ns) at all i suits d = absurd (cc)
  finds (name (b ∷ bs) ∷ digits ∷ ws) (suc k) short c ways (n ∷ ns) at all i suits d = absurd (cc)
  finds (name (b ∷ bs) ∷ name u ∷ ws) (suc k) short c ways (n ∷ ns) at all i suits d = absurd (cc)
  finds (name (b ∷ bs) ∷ the u ∷ ws) (suc k) short c ways (n ∷ ns) at all i suits d =
      let q = and_parts (list_all is_letter (b ∷ bs)) (closed m (the u ∷ ws)) c in
      let e : drop at s ≡ (b ∷ bs) ++ (spelling (the u ∷ ws) ns ++ rest) = d ∙ append_assoc (b ∷ bs) (spelling (the u ∷ ws) ns) rest in
      one_more k (word (b ∷ bs)) (name (b ∷ bs)) (the u) ws ways (b ∷ bs) (n ∷ ns) ns at (finds (the u ∷ ws) k (omega arith) q.1) all i suits.1
      (ap token e ∙ word_token b bs (spelling (the u ∷ ws) ns ++ rest) q.0 (mark_alone u).1) (same_self (b ∷ bs)) refl e refl
      (ap (λ (v : ℕ). v ∷ ns) (sym suits.0))

  pub walk_finds : (k : ℕ) (ways : List (List Want)) (way : List Want) (ns : List ℕ) (at : ℕ) → list_all (closed m) ways ≡ true → In way ways → length way ≤ k → Suits way ns → drop at s ≡ spelling way ns ++ rest →
      walk k ways s p at ≡ got ns (at + length (spelling way ns))
  walk_finds k ways way ns at all i short suits d = finds way k short (in_closed m way ways i all) ways ns at all i suits d

-- Where bytes before the closing mark mean something, a reading of the field answers it.
abbrev pub Found : {A : Type 0} → Mark → (List ℕ → Spot → ℕ → Read A) → (List ℕ → A → Type 0) → Type 0
Found {A} m reads Means =
    (s text rest : List ℕ) (p : Spot) (at : ℕ) (x : A) → Means text x → drop at s ≡ text ++ (byte m ∷ rest) → reads s p at ≡ got x (at + (length text + 1))

module _ {A : Type 0} (m : Mark) (of : List ℕ → Option A) (s text rest : List ℕ) (p : Spot) (at : ℕ) (x : A) (d : drop at s ≡ text ++ (byte m ∷ rest)) (way : List Want) (ns : List ℕ) (suits : Suits way ns)
    (spelled : spelling way ns ≡ text ++ (byte m ∷ [])) (is : of ns ≡ Some x) where
  bytes : drop at s ≡ spelling way ns ++ rest
  bytes = d ∙ sym (append_assoc text (byte m ∷ []) rest) ∙ ap (λ (t : List ℕ). t ++ rest) (sym spelled)

  meaning : ranged p at (at + length (spelling way ns)) (of ns) ≡ got x (at + (length text + 1))
  meaning = ap (ranged p at (at + length (spelling way ns))) is ∙ ap (got x) (omega (arith, ap length spelled, length-append text (byte m ∷ [])))

  pub found_among : (k : ℕ) (ways : List (List Want)) → list_all (closed m) ways ≡ true → In way ways → length way ≤ k → meant of p at (walk k ways s p at) ≡ got x (at + (length text + 1))
  found_among k ways all i short = ap (meant of p at) (walk_finds m s rest p k ways way ns at all i short suits bytes) ∙ meaning
