-- The first place at which a test holds, and the live rules of a run of values.
use Rattle.std.proofs.Common.{◌≡◌, ℕ, zero, suc, ◌+◌, ◌-◌, ◌/◌, ◌%◌, ◌^◌, ◌<◌, ◌≤◌, min, Bool, true, false, cond, ◌&&◌, ◌||◌, List, [], ◌∷◌, length, get_or, Some, None, Option, sym, refl, ap, ◌∙◌, subst, ⊎_elim, add-one, arith, pow_pos}
use native.Mathlib.Nat.{div-eq_of_lt}
use Rattle.std.specs.Int.{trailing_zeros}
use Rattle.std.specs.Int.Count.{trailing_of_zero}
use Rattle.std.specs.Int.Width.{w64}
use Rattle.std.proofs.lemmas.Nat.Bits.{bit_at-trailing_zeros}
use Rattle.std.proofs.lemmas.Bool.{cases_eq, eq-eqb, ne_eqb, and_from, and_left, and_right, and_parts, le-leb, lt-leb}
use Rattle.policy.specs.declared.rules.Range.{Range}
use Rattle.policy.specs.declared.rules.Rule.{Rule}
use Rattle.policy.specs.Fields.{widths}
use Rattle.policy.specs.Rules.{lies, admits, meets_from, meets, rule_at, first, one_later, decide, FirstMet, NoneMet}
use Rattle.policy.proofs.Firsts.{either, computed, empty}
use Rattle.std.specs.Option.{option_map}
use Rattle.policy.proofs.Meeting.{lies_there}
use Rattle.diagram.specs.Masks.{bit, With}
use Rattle.diagram.proofs.Steady.{header_step}
use Rattle.compile.specs.declared.lives.Piece.{Piece}
use Rattle.compile.specs.declared.sets.BitSet.{BitSet}
use Rattle.compile.specs.Lives.{or_here, first_where, takes, code_at, Live, Whole, Covering, Cut, Narrowed, Looked}

-- tests that agree below n find the same place
pub where_same : (p q : ℕ → Bool) (n : ℕ) → ((j : ℕ) → j < n → p j ≡ q j) → first_where p n ≡ first_where q n
where_same p q zero e = refl
where_same p q (suc n) e =
    let ih = where_same p q n (λ j l. e j (omega arith)) in
    let h = e n (omega arith) in
    λ i. or_here (ih i) (h i) n

-- tests that agree below i, and both hold there
pub where_until : (p q : ℕ → Bool) (n i : ℕ) → ((j : ℕ) → j < i → p j ≡ q j) → p i ≡ true → q i ≡ true → i < n → first_where p n ≡ first_where q n
where_until p q zero i e a b l = absurd (omega arith)
where_until p q (suc n) i e a b l =
    ⊎_elim
    (λ (s : i ≡ n).
    let ih = where_same p q n (λ j m. e j (omega arith)) in
    let P : ℕ → Type 0 = λ k. p k ≡ q k in
    let h : p n ≡ q n = subst P s (a ∙ sym b) in
    λ k. or_here (ih k) (h k) n)
    (λ (s : i ≡ n → ⊥). stop (first_where p n) (first_where q n) (where_until p q n i e a b (omega arith)) (there p n i a (omega arith)))
    (cases_eq i n)
  where
    -- a place was found below n
    there : (p : ℕ → Bool) (n i : ℕ) → p i ≡ true → i < n → (k : ℕ) × (first_where p n ≡ Some k)
    there p zero i a l = absurd (omega arith)
    there p (suc n) i a l =
        ⊎_elim
        (λ (s : i ≡ n). let P : ℕ → Type 0 = λ k. p k ≡ true in here (first_where p n) (p n) (subst P s a))
        (λ (s : i ≡ n → ⊥). let t = there p n i a (omega arith) in (t.0, ap (λ o. or_here o (p n) n) t.1))
        (cases_eq i n)
      where
        here : (o : Option ℕ) (b : Bool) → b ≡ true → (k : ℕ) × (or_here o b n ≡ Some k)
        here (Some k) b e = (k, refl)
        here None b e = (n, ap (λ c. cond c (Some n) None) e)

    stop : (o r : Option ℕ) → o ≡ r → (k : ℕ) × (o ≡ Some k) → or_here o (p n) n ≡ or_here r (q n) n
    stop o r e t =
        ap (λ z. or_here z (p n) n) t.1 ∙ sym (ap (λ z. or_here z (q n) n) (sym e ∙ t.1))

-- a live rule that takes a value is one that takes the numbers after it
and_assoc : (a b c : Bool) → (a && (b && c)) ≡ ((a && b) && c)
and_assoc true b c = refl
and_assoc false b c = refl

module _ (rules : List Rule) (live field low : ℕ) where
  -- at the start no rule was looked at
  pub looked_none : (end : ℕ) → ((j : ℕ) → bit 0 j ≡ false) → Looked rules live field low 0 (record { end = end; live = record { bits = 0 } })
  looked_none end z = record { kept = λ j l. absurd (omega arith); left = λ j l. z j }

  pub looked_more : (n : ℕ) (before after : Piece) → Looked rules live field low n before → Narrowed (rule_at rules n) n live field low before after
      → Looked rules live field low (n + 1) after
  looked_more n before after L N = record {
    kept = λ j l y a b.
        (⊎_elim
        (λ (e : j ≡ n). let P : ℕ → Type 0 = λ k. bit after.live.bits k ≡ (bit live k && admits (rule_at rules k) field y) in subst P (sym e) (N.here y a b))
        (λ (e : j ≡ n → ⊥). N.others j e ∙ L.kept j (omega arith) y a (omega (arith, N.within)))
        (cases_eq j n));
    left = λ j l. N.others j (omega arith) ∙ L.left j (omega arith);
  }

  alike : (n : ℕ) (piece : Piece) → Looked rules live field low n piece → (y : ℕ) → low ≤ y → y ≤ piece.end → (h : List ℕ) (j : ℕ) → j < n
      → takes rules live field (y ∷ h) j ≡ takes rules piece.live.bits (suc field) h j
  alike n piece L y a b h j l =
      and_assoc (bit live j) (admits (rule_at rules j) field y) (meets_from (rule_at rules j) (suc field) h)
      ∙ ap (λ c. c && meets_from (rule_at rules j) (suc field) h) (sym (L.kept j l y a b))

  pub cut_all : (top n : ℕ) (piece : Piece) → low ≤ piece.end → piece.end ≤ top → length rules ≤ n → Looked rules live field low n piece → Cut rules live field low top piece
  cut_all top n piece a w all L = record {
    ahead = a;
    within = w;
    alike = λ y l m h c. where_same _ _ (length rules) (λ j lj. alike n piece L y l m h j (omega arith));
  }

  pub cut_whole : (top n whole : ℕ) (piece : Piece) → low ≤ piece.end → piece.end ≤ top → n < length rules → Whole rules (field + 1) whole
      → bit piece.live.bits n ≡ true → bit whole n ≡ true → Looked rules live field low (n + 1) piece → Cut rules live field low top piece
  cut_whole top n whole piece a w l W k b L = record {
    ahead = a;
    within = w;
    alike = λ y ly my h c.
        (let f : field + 1 ≡ suc field = omega arith in
        let m : meets_from (rule_at rules n) (suc field) h ≡ true = rw f at (W n l b h (rw f c)) in
        let t : takes rules piece.live.bits (suc field) h n ≡ true = and_from (bit piece.live.bits n) (meets_from (rule_at rules n) (suc field) h) k m in
        where_until (takes rules live field (y ∷ h)) (takes rules piece.live.bits (suc field) h) (length rules) n
        (λ j lj. alike (n + 1) piece L y ly my h j (omega arith)) (alike (n + 1) piece L y ly my h n (omega arith) ∙ t) t l);
  }

-- a value in a range, and values below and above it
lies_in : (r : Range) (x : ℕ) → r.low ≤ x → x ≤ r.high → lies r x ≡ true
lies_in r x a b = and_from _ _ (le-leb r.low x a) (le-leb x r.high b)

lies_below : (r : Range) (x : ℕ) → x < r.low → lies r x ≡ false
lies_below r x a = and_left _ _ (lt-leb r.low x a)

lies_above : (r : Range) (x : ℕ) → r.high < x → lies r x ≡ false
lies_above r x a = and_right _ _ (lt-leb x r.high a)

abbrev pub no_range : Range
no_range = record { low = 0; high = 0 }

module _ (rule : Rule) (i live field low : ℕ) (piece : Piece) (lf : field < length rule.ranges) (ahead : low ≤ piece.end) (none : bit piece.live.bits i ≡ false) where
  admitted : (y : ℕ) (b : Bool) → lies (get_or rule.ranges field no_range) y ≡ b → admits rule field y ≡ b
  admitted y b e = lies_there rule.ranges field y no_range lf ∙ e

  refused : (y : ℕ) → lies (get_or rule.ranges field no_range) y ≡ false → bit piece.live.bits i ≡ (bit live i && admits rule field y)
  refused y e = none ∙ sym (and_right (bit live i) (admits rule field y) (admitted y false e))

  pub narrow_above : (get_or rule.ranges field no_range).high < low → Narrowed rule i live field low piece piece
  narrow_above h = record {
    ahead = ahead;
    within = omega arith;
    here = λ y l m. refused y (lies_above (get_or rule.ranges field no_range) y (omega arith));
    others = λ j n. refl;
  }

  pub narrow_below : (end : ℕ) → low < (get_or rule.ranges field no_range).low → end ≡ min piece.end ((get_or rule.ranges field no_range).low - 1)
      → Narrowed rule i live field low piece (record { end = end; live = piece.live })
  narrow_below end h e = record {
    ahead = omega arith;
    within = omega arith;
    here = λ y l m. refused y (lies_below (get_or rule.ranges field no_range) y (omega arith));
    others = λ j n. refl;
  }

  pub narrow_in : (end : ℕ) (more : BitSet) → true ≡ bit live i → low ≤ (get_or rule.ranges field no_range).high → (get_or rule.ranges field no_range).low ≤ low
      → end ≡ min piece.end (get_or rule.ranges field no_range).high → With piece.live.bits i more.bits
      → Narrowed rule i live field low piece (record { end = end; live = more })
  narrow_in end more b h l e w = record {
    ahead = omega arith;
    within = omega arith;
    here = λ y ly my.
        (w i ∙ ap (λ c. c || bit piece.live.bits i) (eq-eqb i i refl)
        ∙ sym (and_from (bit live i) (admits rule field y) (sym b) (admitted y true (lies_in (get_or rule.ranges field no_range) y (omega arith) (omega arith)))));
    others = λ j n. w j ∙ ap (λ c. c || bit piece.live.bits j) (ne_eqb i j (λ s. n (sym s)));
  }

pub zero_bit : (j : ℕ) → bit 0 j ≡ false
zero_bit j = let e : 0 / 2 ^ j ≡ 0 = div-eq_of_lt (pow_pos j) in rw e refl

-- the number of zeros at the end of a number of 64 bits is the place of its first 1
pub least_before : (m : ℕ) → m < 2 ^ 64 → (n : ℕ) → n < trailing_zeros w64 m → bit m n ≡ false
least_before m fits n l =
    ⊎_elim
    (λ (z : m ≡ 0). let P : ℕ → Type 0 = λ k. bit k n ≡ false in subst P (sym z) (zero_bit n))
    (λ (p : m ≡ 0 → ⊥).
    let t = (bit_at-trailing_zeros w64 m (omega (arith, p)) fits).2 n l in
    ne_eqb (m / 2 ^ n % 2) 1 (λ e. omega (arith, t, e)))
    (cases_eq m 0)

pub least_is : (m : ℕ) → m < 2 ^ 64 → trailing_zeros w64 m < 64 → bit m (trailing_zeros w64 m) ≡ true
least_is m fits l =
    ⊎_elim
    (λ (z : m ≡ 0). let P : ℕ → Type 0 = λ k. trailing_zeros w64 k < 64 in absurd (omega (arith, subst P z l, trailing_of_zero 64)))
    (λ (p : m ≡ 0 → ⊥). eq-eqb (m / 2 ^ trailing_zeros w64 m % 2) 1 (bit_at-trailing_zeros w64 m (omega (arith, p)) fits).1)
    (cases_eq m 0)

-- a place that was found stays
pub where_more : (p : ℕ → Bool) (m n k : ℕ) → m ≤ n → first_where p m ≡ Some k → first_where p n ≡ Some k
where_more p m zero k l e = let z : m ≡ 0 = omega arith in rw z at e
where_more p m (suc n) k l e =
    ⊎_elim
    (λ (s : m ≡ suc n). rw s at e)
    (λ (s : m ≡ suc n → ⊥). ap (λ o. or_here o (p n) n) (where_more p m n k (omega arith) e))
    (cases_eq m (suc n))

pub where_next : (p : ℕ → Bool) (i : ℕ) → first_where p i ≡ None → (b : Bool) → p i ≡ b → first_where p (i + 1) ≡ cond b (Some i) None
where_next p i e b h = rw add-one (ap (λ o. or_here o (p i) i) e ∙ ap (λ c. cond c (Some i) None) h)

pub whole_all : (rules : List Rule) (field after mask : ℕ) → field < 5 → Whole rules (field + 1) after → Covering rules field after (length rules) mask → Whole rules field mask
whole_all rules field after mask lf W C i l b h H =
    let c = C i b in
    let s = header_step widths field h lf H in
    let f : field + 1 ≡ suc field = omega arith in
    let m : meets_from (rule_at rules i) (suc field) s.1 ≡ true = rw f at (W i l c.1 s.1 (rw f s.4)) in
    let P : List ℕ → Type 0 = λ g. meets_from (rule_at rules i) field g ≡ true in
    subst P (sym s.2) (and_from (admits (rule_at rules i) field s.0) (meets_from (rule_at rules i) (suc field) s.1) (c.2 s.0 s.3) m)

-- the decision is the code of the first rule met
pub decide_first : (rules : List Rule) (h : List ℕ) → decide rules h ≡ option_map (code_at rules) (first rules h)
decide_first [] h = refl
decide_first (r ∷ rules) h = go (meets r h) (first rules h) (decide_first rules h)
  where
    later : (o : Option ℕ) → option_map (code_at rules) o ≡ option_map (code_at (r ∷ rules)) (one_later o)
    later None = refl
    later (Some i) = refl

    go : (b : Bool) (o : Option ℕ) → decide rules h ≡ option_map (code_at rules) o → cond b (Some r.code) (decide rules h) ≡ option_map (code_at (r ∷ rules)) (cond b (Some 0) (one_later o))
    go true o e = refl
    go false o e = e ∙ later o

-- at the start all rules are live
abbrev all_bits : ℕ → ℕ → Bool
all_bits m zero = true
all_bits m (suc n) = bit m n && all_bits m n

each_bit : (m n : ℕ) → all_bits m n ≡ true → (j : ℕ) → j < n → bit m j ≡ true
each_bit m zero e j l = absurd (omega arith)
each_bit m (suc n) e j l =
    let p = and_parts (bit m n) (all_bits m n) e in
    ⊎_elim
    (λ (s : j ≡ n). let P : ℕ → Type 0 = λ k. bit m k ≡ true in subst P (sym s) p.0)
    (λ (s : j ≡ n → ⊥). each_bit m n p.1 j (omega arith))
    (cases_eq j n)

pub where_none : (p : ℕ → Bool) (n : ℕ) → ((j : ℕ) → j < n → p j ≡ false) → first_where p n ≡ None
where_none p zero e = refl
where_none p (suc n) e =
    ap (λ o. or_here o (p n) n) (where_none p n (λ j l. e j (omega arith))) ∙ ap (λ b. cond b (Some n) None) (e n (omega arith))

pub where_hit : (p : ℕ → Bool) (n i : ℕ) → i < n → p i ≡ true → ((j : ℕ) → j < i → p j ≡ false) → first_where p n ≡ Some i
where_hit p n i l e b = where_more p (i + 1) n i (omega arith) (where_next p i (where_none p i b) true e)

-- the first rule met, as a first place
pub first_as_where : (rules : List Rule) (h : List ℕ) → first rules h ≡ first_where (λ j. meets (rule_at rules j) h) (length rules)
first_as_where rules h =
    ⊎_elim
    (λ (f : (i : ℕ) × FirstMet rules h i).
    computed rules h f.0 f.1 ∙ sym (where_hit (λ j. meets (rule_at rules j) h) (length rules) f.0 f.1.within f.1.met f.1.before))
    (λ (n : NoneMet rules h). empty rules h n ∙ sym (where_none (λ j. meets (rule_at rules j) h) (length rules) n))
    (either rules h)

pub start_live : (rules : List Rule) → length rules ≤ 64 → Live rules [] 0xFFFF_FFFF_FFFF_FFFF
start_live rules few h H =
    first_as_where rules h
    ∙ where_same (λ j. meets (rule_at rules j) h) (takes rules 0xFFFF_FFFF_FFFF_FFFF 0 h) (length rules)
    (λ j l. sym (ap (λ b. b && meets (rule_at rules j) h) (each_bit 0xFFFF_FFFF_FFFF_FFFF 64 refl j (omega arith))))
