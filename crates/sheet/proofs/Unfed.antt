-- Bytes without a line feed, and the line feed after them.
use Rattle.std.proofs.Common.{◌≡◌, ℕ, suc, ◌+◌, ◌<◌, ◌≤◌, true, false, cond, eqb, List, [], ◌∷◌, ◌++◌, length, take, drop, decimal, sym, refl, ap, ◌∙◌, subst, inl, inr, arith, one-add}
use Rattle.std.specs.Str.Parse.{AllDigits}
use Rattle.std.proofs.lemmas.Fmt.{decimal_is_IsNumeral}
use Rattle.std.proofs.lemmas.Bool.{cases_Bool, ne_eqb, not_from_false, not-false, eqb-true}
use Rattle.policy.specs.declared.rules.Range.{Range}
use Rattle.policy.specs.Letters.{Lacks}
use Rattle.std.specs.List.{prefix_len}
use Rattle.sheet.specs.Sheets.{not_feed}
use Rattle.sheet.specs.Meaning.{Port, Address, Protocol, every, single, between, block, tcp, udp, icmp}
use Rattle.sheet.proofs.Taking.{digit_is}

abbrev pub Unfed : List ℕ → Type 0
Unfed [] = Unit {0}
Unfed (b ∷ bs) = (not_feed b ≡ true) × Unfed bs

other : (b : ℕ) → (b ≡ 10 → ⊥) → not_feed b ≡ true
other b f = not_from_false (eqb b 10) (ne_eqb b 10 f)

pub unfed_append : (xs ys : List ℕ) → Unfed xs → Unfed ys → Unfed (xs ++ ys)
unfed_append [] ys a b = b
unfed_append (x ∷ xs) ys a b = (a.0, unfed_append xs ys a.1 b)

unfed_digits : (ds : List ℕ) → AllDigits 10 ds → Unfed ds
unfed_digits [] h = tt
unfed_digits (d ∷ ds) h = let k = digit_is d h.0 in (other d (λ e. omega (arith, k.0)), unfed_digits ds h.1)

unfed_decimal : (n : ℕ) → n ≤ 65535 → Unfed (decimal n)
unfed_decimal n h = unfed_digits (decimal n) (decimal_is_IsNumeral n (omega arith)).0.1

pub unfed_lacks : (bs : List ℕ) → Lacks 10 bs → Unfed bs
unfed_lacks [] h = tt
unfed_lacks (b ∷ bs) h = (other b (h 0 (omega arith)), unfed_lacks bs (λ k l. h (suc k) (omega arith)))

pub unfed_port : (text : List ℕ) (x : Range) → Port text x → Unfed text
unfed_port text x (every e s) = subst Unfed (sym e) (refl, tt)
unfed_port text x (single n h e s) = subst Unfed (sym e) (unfed_decimal n h)
unfed_port text x (between low high a b e s) =
    subst Unfed (sym e) (unfed_append (decimal low) (45 ∷ decimal high) (unfed_decimal low (omega arith)) (refl, unfed_decimal high b))

pub unfed_address : (text : List ℕ) (x : Range) → Address text x → Unfed text
unfed_address text x (every e s) = subst Unfed (sym e) (refl, tt)
unfed_address text x (block a b c d n ha hb hc hd hn z e s) =
    subst Unfed (sym e)
    (unfed_append (decimal a) (46 ∷ (decimal b ++ (46 ∷ (decimal c ++ (46 ∷ (decimal d ++ (47 ∷ decimal n))))))) (unfed_decimal a (omega arith)) (
      refl,
      unfed_append (decimal b) (46 ∷ (decimal c ++ (46 ∷ (decimal d ++ (47 ∷ decimal n))))) (unfed_decimal b (omega arith)) (
        refl,
        unfed_append (decimal c) (46 ∷ (decimal d ++ (47 ∷ decimal n))) (unfed_decimal c (omega arith))
            (refl, unfed_append (decimal d) (47 ∷ decimal n) (unfed_decimal d (omega arith)) (refl, unfed_decimal n (omega arith))),
      ),
    ))

pub unfed_protocol : (text : List ℕ) (x : Range) → Protocol text x → Unfed text
unfed_protocol text x (every e s) = subst Unfed (sym e) (refl, tt)
unfed_protocol text x (single n h e s) = subst Unfed (sym e) (unfed_decimal n (omega arith))
unfed_protocol text x (tcp e s) = subst Unfed (sym e) (refl, (refl, (refl, tt)))
unfed_protocol text x (udp e s) = subst Unfed (sym e) (refl, (refl, (refl, tt)))
unfed_protocol text x (icmp e s) = subst Unfed (sym e) (refl, (refl, (refl, (refl, tt))))

pub run_free : (xs ys : List ℕ) → Unfed xs → prefix_len not_feed (xs ++ ys) ≡ length xs + prefix_len not_feed ys
run_free [] ys h = omega arith
run_free (x ∷ xs) ys h = rw h.0 (omega (arith, run_free xs ys h.1))

pub run_before : (xs ys : List ℕ) → prefix_len not_feed (xs ++ (10 ∷ ys)) ≤ length xs
run_before [] ys = omega arith
run_before (x ∷ xs) ys =
    elim (not_feed x) as (λ v. cond v (1 + prefix_len not_feed (xs ++ (10 ∷ ys))) 0 ≤ suc (length xs)) [ true ↦ omega (arith, run_before xs ys) | false ↦ omega arith ]

-- The bytes before the line feed, the line feed, and the others.
pub split_feed : (bs : List ℕ) → prefix_len not_feed bs < length bs → bs ≡ take (prefix_len not_feed bs) bs ++ (10 ∷ drop (suc (prefix_len not_feed bs)) bs)
split_feed [] h = absurd (omega arith)
split_feed (b ∷ bs) h =
    elim (cases_Bool (not_feed b)) [
      | inl e ↦
          let n : prefix_len not_feed (b ∷ bs) ≡ suc (prefix_len not_feed bs) = rw (e, one-add) in
          let r = split_feed bs (omega (arith, n)) in
          ap (λ (t : List ℕ). b ∷ t) r ∙ ap (λ (k : ℕ). take k (b ∷ bs) ++ (10 ∷ drop (suc k) (b ∷ bs))) (sym n)
      | inr e ↦
          let n : prefix_len not_feed (b ∷ bs) ≡ 0 = rw e in
          ap (λ (x : ℕ). x ∷ bs) (eqb-true b 10 (not-false (eqb b 10) e)) ∙ ap (λ (k : ℕ). take k (b ∷ bs) ++ (10 ∷ drop (suc k) (b ∷ bs))) (sym n)
    ]
