-- The first rule met: the relation and the computed one agree.
use Rattle.std.proofs.Common.{◌≡◌, ℕ, zero, suc, ◌<◌, true, false, ◌⊎◌, List, [], ◌∷◌, Some, None, refl, ap, ◌∙◌, subst, inl, inr, arith}
use Rattle.std.proofs.lemmas.Bool.{both_ways, cases_Bool, cond-true, cond-false}
use Rattle.policy.specs.declared.rules.Rule.{Rule}
use Rattle.policy.specs.Rules.{meets, rule_at, FirstMet, NoneMet, SomeMet, one_later, first, decide, FirstTold}

first_here : (r : Rule) (rules : List Rule) (h : List ℕ) → meets r h ≡ true → first (r ∷ rules) h ≡ Some 0
first_here r rules h m = cond-true (meets r h) (Some 0) (one_later (first rules h)) m

first_later : (r : Rule) (rules : List Rule) (h : List ℕ) → meets r h ≡ false → first (r ∷ rules) h ≡ one_later (first rules h)
first_later r rules h m = cond-false (meets r h) (Some 0) (one_later (first rules h)) m

decide_here : (r : Rule) (rules : List Rule) (h : List ℕ) → meets r h ≡ true → decide (r ∷ rules) h ≡ Some r.code
decide_here r rules h m = cond-true (meets r h) (Some r.code) (decide rules h) m

decide_later : (r : Rule) (rules : List Rule) (h : List ℕ) → meets r h ≡ false → decide (r ∷ rules) h ≡ decide rules h
decide_later r rules h m = cond-false (meets r h) (Some r.code) (decide rules h) m

-- The first rule met of a list without its first rule.
pub tail_first : (r : Rule) (rules : List Rule) (h : List ℕ) (i : ℕ) → FirstMet (r ∷ rules) h (suc i) → FirstMet rules h i
tail_first r rules h i f =
    record { within = omega (arith, f.within); met = f.met; before = λ j l. f.before (suc j) (omega arith) }

pub longer_first : (r : Rule) (rules : List Rule) (h : List ℕ) (i : ℕ) → meets r h ≡ false → FirstMet rules h i → FirstMet (r ∷ rules) h (suc i)
longer_first r rules h i m f =
    record { within = omega (arith, f.within); met = f.met; before = before }
  where
    before : (j : ℕ) → j < suc i → meets (rule_at (r ∷ rules) j) h ≡ false
    before zero l = m
    before (suc j) l = f.before j (omega arith)

pub computed : (rules : List Rule) (h : List ℕ) (i : ℕ) → FirstMet rules h i → first rules h ≡ Some i
computed [] h i f = absurd (omega (arith, f.within))
computed (r ∷ rules) h zero f = first_here r rules h f.met
computed (r ∷ rules) h (suc i) f =
    first_later r rules h (f.before zero (omega arith)) ∙ ap one_later (computed rules h i (tail_first r rules h i f))

pub empty : (rules : List Rule) (h : List ℕ) → NoneMet rules h → first rules h ≡ None
empty [] h n = refl
empty (r ∷ rules) h n =
    first_later r rules h (n zero (omega arith)) ∙ ap one_later (empty rules h (λ j l. n (suc j) (omega arith)))

pub decided : (rules : List Rule) (h : List ℕ) (i : ℕ) → FirstMet rules h i → decide rules h ≡ Some (rule_at rules i).code
decided [] h i f = absurd (omega (arith, f.within))
decided (r ∷ rules) h zero f = decide_here r rules h f.met
decided (r ∷ rules) h (suc i) f =
    decide_later r rules h (f.before zero (omega arith)) ∙ decided rules h i (tail_first r rules h i f)

pub undecided : (rules : List Rule) (h : List ℕ) → NoneMet rules h → decide rules h ≡ None
undecided [] h n = refl
undecided (r ∷ rules) h n =
    decide_later r rules h (n zero (omega arith)) ∙ undecided rules h (λ j l. n (suc j) (omega arith))

pub none_not_some : (rules : List Rule) (h : List ℕ) → NoneMet rules h → SomeMet rules h → ⊥
none_not_some rules h n (i, l, m) = both_ways (meets (rule_at rules i) h) (n i l) m

-- Some rule is the first one met, or none is met.
pub either : (rules : List Rule) (h : List ℕ) → ((i : ℕ) × FirstMet rules h i) ⊎ NoneMet rules h
either [] h = inr (λ j l. absurd (omega arith))
either (r ∷ rules) h =
    elim (cases_Bool (meets r h)) [
      | inl m ↦ inl (zero, record { within = omega arith; met = m; before = λ j l. absurd (omega arith) })
      | inr m ↦
          elim (either rules h) [
            | inl f ↦ inl (suc f.0, longer_first r rules h f.0 m f.1)
            | inr n ↦ inr (none_of m n)
          ]
    ]
  where
    none_of : meets r h ≡ false → NoneMet rules h → NoneMet (r ∷ rules) h
    none_of m n zero l = m
    none_of m n (suc j) l = n j (omega arith)

pub found : (rules : List Rule) (h : List ℕ) (i : ℕ) → first rules h ≡ Some i → FirstMet rules h i
found rules h i e =
    elim (either rules h) [
      | inl f ↦
          let a = computed rules h f.0 f.1 in
          let same : f.0 ≡ i = cc in
          subst (λ k. FirstMet rules h k) same f.1
      | inr n ↦
          let a = empty rules h n in
          let wrong : ◌≡◌ {A = ℕ} 0 1 = cc in
          absurd (omega arith)
    ]

pub missed : (rules : List Rule) (h : List ℕ) → first rules h ≡ None → NoneMet rules h
missed rules h e =
    elim (either rules h) [
      | inl f ↦
          let a = computed rules h f.0 f.1 in
          let wrong : ◌≡◌ {A = ℕ} 0 1 = cc in
          absurd (omega arith)
      | inr n ↦ n
    ]

pub single : (rules : List Rule) (h : List ℕ) (i j : ℕ) → FirstMet rules h i → FirstMet rules h j → i ≡ j
single rules h i j f g = let a = computed rules h i f in let b = computed rules h j g in cc

pub first_told : FirstTold
first_told =
    record {
      found = found;
      computed = computed;
      missed = missed;
      empty = empty;
      decided = decided;
      undecided = undecided;
      single = single;
    }
