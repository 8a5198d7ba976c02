-- A search in two straight parts: from a key's home to the last cell, and from the first on.
use Rattle.std.proofs.Common.{◌≡◌, ℕ, ◌+◌, ◌-◌, ◌<◌, ◌≤◌, true, Some, None, Option, is_some, sym, ◌∙◌, subst, ⊎_elim, arith, MatchOption}
use Rattle.std.proofs.lemmas.Bool.{cases_lt}
use Rattle.store.specs.declared.row.Row.{Row}
use Rattle.hash_store.specs.Cells.{row_of, home_of, at, Passed, Stops, Seen, Ends}
use Rattle.hash_store.proofs.Around.{at_near, at_far}

-- The first d cells from h on are used, for other keys.
abbrev SeenFrom : (ℕ → Option Row) → ℕ → ℕ → ℕ → ℕ → Type 0
SeenFrom f m q h d = (e : ℕ) → e < d → (is_some (f (at m h e)) ≡ true) × ((row_of (f (at m h e))).key ≡ q → ⊥)

module _ (f : ℕ → Option Row) (m q h : ℕ) (hl : h < m) where
  abbrev Other : ℕ → Type 0
  Other j = (is_some (f j) ≡ true) × ((row_of (f j)).key ≡ q → ⊥)

  near : (i : ℕ) → i ≤ m → Passed f q h i → SeenFrom f m q h (i - h)
  near i l p e el = subst Other (sym (at_near m h e (omega arith))) (p (h + e) (omega arith) (omega arith))

  far : (i : ℕ) → i ≤ h → Passed f q h m → Passed f q 0 i → SeenFrom f m q h (i + m - h)
  far i l p r e el =
      ⊎_elim
      (λ (a : h + e < m). subst Other (sym (at_near m h e a)) (p (h + e) (omega arith) a))
      (λ (a : m ≤ h + e). subst Other (sym (at_far m h e a)) (r (h + e - m) (omega arith) (omega arith)))
      (cases_lt (h + e) m)

  module _ (home : h ≡ home_of q m) where
    -- The first part ends at i.
    first : (i : ℕ) → Stops f q h m i → Ends f m q i
    first i s =
        let d = i - h in
        let P : ℕ → Type 0 = λ x. i ≡ at m x d in
        let Q : ℕ → Type 0 = λ x. SeenFrom f m q x d in
        let there : h + d ≡ i = omega (arith, s.low) in
        record {
          way = d;
          way_lt = omega (arith, s.high);
          place = subst P home (sym (at_near m h d (omega (arith, s.high)) ∙ there));
          within = s.high;
          has = s.has;
          seen = subst Q home (near i (omega (arith, s.high)) s.before);
        }

    -- The second part ends, or all cells were passed.
    second : (o : Option ℕ) → Passed f q h m → MatchOption o (Passed f q 0 h) (λ i. Stops f q 0 h i) → MatchOption o (Seen f m q m) (λ i. Ends f m q i)
    second None p r =
        let P : ℕ → Type 0 = λ x. SeenFrom f m q x m in
        let Q : ℕ → Type 0 = λ d. SeenFrom f m q h d in
        let all : h + m - h ≡ m = omega arith in
        subst P home (subst Q all (far h (omega arith) p r))
    second (Some i) p r =
        let d = i + m - h in
        let P : ℕ → Type 0 = λ x. i ≡ at m x d in
        let Q : ℕ → Type 0 = λ x. SeenFrom f m q x d in
        let there : h + d - m ≡ i = omega arith in
        record {
          way = d;
          way_lt = omega (arith, r.high);
          place = subst P home (sym (at_far m h d (omega (arith, r.high)) ∙ there));
          within = omega (arith, r.high);
          has = r.has;
          seen = subst Q home (far i (omega (arith, r.high)) p r.before);
        }

    -- The first part ends, or else the second.
    pub either : (o r : Option ℕ) → MatchOption o (Passed f q h m) (λ i. Stops f q h m i)
        → MatchOption o (MatchOption r (Passed f q 0 h) (λ i. Stops f q 0 h i)) (λ i. r ≡ Some i)
        → MatchOption r (Seen f m q m) (λ i. Ends f m q i)
    either None r p s = second r p s
    either (Some i) r p s = let P : Option ℕ → Type 0 = λ o. MatchOption o (Seen f m q m) (λ i. Ends f m q i) in subst P (sym s) (first i p)
