-- The least numbers that a rule is the first live one to take.
use Rattle.std.proofs.Common.{◌≡◌, ℕ, zero, suc, ◌+◌, ◌^◌, ◌<◌, ◌≤◌, Bool, true, false, cond, eqb, List, [], ◌∷◌, length, get_or, drop, set, Some, None, Option, sym, refl, ap, ◌∙◌, subst, inl, inr, ⊎_elim, arith, MatchOption}
use Rattle.std.proofs.lemmas.Bool.{cases_eq, cases_lt, and_from, eq-eqb, true≢false}
use Rattle.std.specs.Option.{option_eq}
use Rattle.std.proofs.lemmas.List.{drop-set}
use Rattle.policy.specs.declared.rules.Rule.{Rule}
use Rattle.policy.specs.Fields.{widths}
use Rattle.policy.specs.Rules.{meets_from, rule_at}
use Rattle.diagram.specs.Diagrams.{Header, Before}
use Rattle.diagram.specs.Masks.{bit}
use Rattle.diagram.proofs.Steady.{header_step, header_cons}
use Rattle.compile.specs.declared.lives.Piece.{Piece}
use Rattle.compile.specs.declared.caches.Known.{Known}
use Rattle.compile.proofs.Memory.{held_set}
use Rattle.compile.specs.Lives.{or_here, first_where, takes, first_live_rule, Live, Whole, Cut}
use Rattle.compile.specs.Gaps.{LeastOfAll, Never, LeastLive, NeverLive, NoneBelow, Excludes}

-- a place that is found lies below the end
where_below : (p : ℕ → Bool) (n k : ℕ) → first_where p n ≡ Some k → k < n
where_below p zero k e = let z : ◌≡◌ {A = ℕ} 0 1 = cc in absurd (omega arith)
where_below p (suc n) k e = go (first_where p n) (p n) (λ j. where_below p n j) e
  where
    go : (o : Option ℕ) (b : Bool) → ((j : ℕ) → o ≡ Some j → j < n) → or_here o b n ≡ Some k → k < suc n
    go (Some i) b ih e = let s : i ≡ k = cc in omega (arith, ih i refl)
    go None true ih e = let s : n ≡ k = cc in omega arith
    go None false ih e = let z : ◌≡◌ {A = ℕ} 0 1 = cc in absurd (omega arith)

-- where the test holds at i, a place up to i is found
where_found : (p : ℕ → Bool) (n i : ℕ) → i < n → p i ≡ true → (k : ℕ) × (k ≤ i) × (first_where p n ≡ Some k)
where_found p zero i l e = absurd (omega arith)
where_found p (suc n) i l e =
    ⊎_elim
    (λ (s : i ≡ n). let P : ℕ → Type 0 = λ j. p j ≡ true in go (first_where p n) (p n) s (λ j. where_below p n j) (subst P s e))
    (λ (s : i ≡ n → ⊥). let u = where_found p n i (omega arith) e in (u.0, u.1, ap (λ o. or_here o (p n) n) u.2))
    (cases_eq i n)
  where
    go : (o : Option ℕ) (b : Bool) → i ≡ n → ((j : ℕ) → o ≡ Some j → j < n) → b ≡ true → (k : ℕ) × (k ≤ i) × (or_here o b n ≡ Some k)
    go (Some j) b s ih h = (j, omega (arith, ih j refl), refl)
    go None b s ih h = (n, omega arith, ap (λ c. cond c (Some n) None) h)

-- a rule that takes all numbers shadows those after it
pub shade : (rules : List Rule) (live field whole i : ℕ) (t : Option ℕ) → i < length rules → Whole rules field whole → bit live i ≡ true → bit whole i ≡ true
    → ((j : ℕ) → j < i + 1 → t ≡ Some j → ⊥) → NeverLive rules live field t
shade rules live field whole i t l W a b n s H e =
    let h : takes rules live field s i ≡ true = and_from (bit live i) (meets_from (rule_at rules i) field s) a (W i l b s H) in
    let u = where_found (takes rules live field s) (length rules) i l h in
    n u.0 (omega (arith, u.1)) (sym e ∙ u.2)

-- after the last field
header_none : (s : List ℕ) → Header [] s → s ≡ []
header_none [] H = refl
header_none (x ∷ s) H = absurd H.0

module _ (rules : List Rule) (live field low top : ℕ) (t : Option ℕ) (piece : Piece) (lf : field < 5) (et : top + 1 ≡ 2 ^ get_or widths field 0) (C : Cut rules live field low top piece)
    (N : NoneBelow rules live field t low) where
  pub none_more : NeverLive rules piece.live.bits (field + 1) t → NoneBelow rules live field t (piece.end + 1)
  none_more V y h l H e =
      ⊎_elim
      (λ (m : y < low). N y h m H e)
      (λ (m : low ≤ y). let f : field + 1 ≡ suc field = omega arith in
      V h (rw f H) (rw f (sym (C.alike y m (omega arith) h H) ∙ e)))
      (cases_lt y low)

  longer : (s : List ℕ) → LeastLive rules piece.live.bits (suc field) t s → LeastLive rules live field t (low ∷ s)
  longer s L = record {
    fits = header_cons widths field low s lf (omega (arith, C.ahead, C.within)) L.fits;
    met = C.alike low (omega arith) C.ahead s L.fits ∙ L.met;
    least = λ q H b e. (let u = header_step widths field q lf H in
        let b2 : Before (u.0 ∷ u.1) (low ∷ s) = subst (λ (r : List ℕ). Before r (low ∷ s)) u.2 b in
        let e2 : first_live_rule rules live field (u.0 ∷ u.1) ≡ t = ap (λ (r : List ℕ). first_live_rule rules live field r) (sym u.2) ∙ e in
        ⊎_elim
        (λ (k : u.0 < low). N u.0 u.1 k u.4 e2)
        (λ (k : (u.0 ≡ low) × Before u.1 s).
        L.least u.1 u.4 k.1 (sym (C.alike low (omega arith) C.ahead u.1 u.4) ∙ ap (λ n. first_live_rule rules live field (n ∷ u.1)) (sym k.0) ∙ e2))
        b2);
  }

  pub found : (g : List ℕ) → length g ≡ 5 → LeastLive rules piece.live.bits (field + 1) t (drop (field + 1) g) → LeastLive rules live field t (drop field (set g field low))
  found g lg L =
      let f : field + 1 ≡ suc field = omega arith in
      let P : ℕ → Type 0 = λ n. LeastLive rules piece.live.bits n t (drop (field + 1) g) in
      let Q : List ℕ → Type 0 = λ r. LeastLive rules live field t r in
      subst Q (sym (drop-set g field low (omega arith))) (longer (drop (field + 1) g) (subst P f L))

pub none_all : (rules : List Rule) (live field low : ℕ) (t : Option ℕ) → field < 5 → 2 ^ get_or widths field 0 ≤ low → NoneBelow rules live field t low → NeverLive rules live field t
none_all rules live field low t lf l N s H e =
    let u = header_step widths field s lf H in
    N u.0 u.1 (omega (arith, u.3)) u.4 (ap (λ (r : List ℕ). first_live_rule rules live field r) (sym u.2) ∙ e)

pub excludes_more : (rules : List Rule) (t : Option ℕ) (known later : List (Option Known)) (i : ℕ) (new : Known) → later ≡ set known i (Some new)
    → NeverLive rules new.rest.live.bits new.rest.field t → Excludes rules t known → Excludes rules t later
excludes_more rules t known later i new e V X =
    subst (λ (ks : List (Option Known)). Excludes rules t ks) (sym e) (λ z held.
    elim (held_set known i new z held) [
      | inl q ↦ subst (λ (y : Known). NeverLive rules y.rest.live.bits y.rest.field t) (sym q) V
      | inr h ↦ X z h
    ])

-- of whole headers
pub least_all : (rules : List Rule) (t : Option ℕ) (r : Option (List ℕ)) → Live rules [] 0xFFFF_FFFF_FFFF_FFFF
    → MatchOption r (NeverLive rules 0xFFFF_FFFF_FFFF_FFFF 0 t) (λ g. (length g ≡ 5) × LeastLive rules 0xFFFF_FFFF_FFFF_FFFF 0 t (drop 0 g))
    → MatchOption r (Never rules t) (λ g. LeastOfAll rules t g)
least_all rules t None A V = λ h H e. V h H (sym (A h H) ∙ e)
least_all rules t (Some g) A L = record {
  header = L.1.fits;
  met = A g L.1.fits ∙ L.1.met;
  least = λ h H b e. L.1.least h H b (sym (A h H) ∙ e);
}

-- What a failed `==` of two rules, or none, says.
pub targets_differ : (a b : Option ℕ) → false ≡ option_eq eqb a b → a ≡ b → ⊥
targets_differ a b e q = true≢false (sym (subst (λ x. option_eq eqb a x ≡ true) q (itself a)) ∙ sym e)
  where
    itself : (o : Option ℕ) → option_eq eqb o o ≡ true
    itself None = refl
    itself (Some i) = eq-eqb i i refl
