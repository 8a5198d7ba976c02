-- The cover of a run by blocks.
use Rattle.std.proofs.Common.{◌≡◌, ℕ, zero, suc, ◌+◌, ◌-◌, ◌%◌, ◌^◌, ◌<◌, ◌≤◌, Bool, true, false, eqb, leb, List, [], ◌∷◌, sym, refl, ap, ◌∙◌, subst, inl, inr, arith, pow_pos}
use Rattle.std.proofs.lemmas.Bool.{le-leb, lt-leb, leb-true, eqb-true, and_parts, both_ways, cases_lt, cases_eq, and_from, eq-eqb}
use Rattle.diagram.specs.Blocks.{Block, room, largest, covering, cover, Covers, CoverCovers}

pub largest_yes : (lo hi e : ℕ) → room lo hi e ≡ true → largest lo hi e ≡ e
largest_yes lo hi zero h = refl
largest_yes lo hi (suc e) h = subst (λ b. elim b [ true ↦ suc e | false ↦ largest lo hi e ] ≡ suc e) (sym h) refl

pub largest_no : (lo hi e : ℕ) → 0 < e → room lo hi e ≡ false → largest lo hi e ≡ largest lo hi (e - 1)
largest_no lo hi zero l h = absurd (omega arith)
largest_no lo hi (suc e) l h =
    let q : suc e - 1 ≡ e = omega arith in
    rw q (subst (λ b. elim b [ true ↦ suc e | false ↦ largest lo hi e ] ≡ largest lo hi e) (sym h) refl)

pub largest_le : (lo hi e : ℕ) → largest lo hi e ≤ e
largest_le lo hi zero = omega arith
largest_le lo hi (suc e) =
    let ih : largest lo hi e ≤ e = largest_le lo hi e in
    elim (room lo hi (suc e)) as (λ b. elim b [ true ↦ suc e | false ↦ largest lo hi e ] ≤ suc e)
    [ true ↦ omega arith | false ↦ omega arith ]

-- the block of the largest exponent ends within the range
pub largest_within : (lo hi e : ℕ) → lo ≤ hi → lo + 2 ^ largest lo hi e ≤ hi + 1
largest_within lo hi zero l = omega arith
largest_within lo hi (suc e) l =
    let ih : lo + 2 ^ largest lo hi e ≤ hi + 1 = largest_within lo hi e l in
    go (room lo hi (suc e)) refl ih
  where
    go : (b : Bool) → room lo hi (suc e) ≡ b → lo + 2 ^ largest lo hi e ≤ hi + 1
        → lo + 2 ^ elim b [ true ↦ suc e | false ↦ largest lo hi e ] ≤ hi + 1
    go true q ih = leb-true _ _ (and_parts _ _ q).1
    go false q ih = ih

-- one block of the cover, at a bound that is above 0
pub covering_step : (k w lo hi : ℕ) → lo ≤ hi
    → covering (suc k) w lo hi ≡ record { len = w - largest lo hi w; value = lo } ∷ covering k w (lo + 2 ^ largest lo hi w) hi
covering_step k w lo hi l = let t : leb lo hi ≡ true = le-leb lo hi l in rw (t, covering) refl

pub covering_done : (k w lo hi : ℕ) → hi < lo → covering k w lo hi ≡ []
covering_done zero w lo hi l = refl
covering_done (suc k) w lo hi l = let f : leb lo hi ≡ false = lt-leb lo hi l in rw (f, covering) refl

-- Any number that is large enough gives the same cover.
pub enough : (j k w lo hi : ℕ) → suc hi - lo ≤ j → suc hi - lo ≤ k → covering j w lo hi ≡ covering k w lo hi
enough zero k w lo hi a b = sym (covering_done k w lo hi (omega arith))
enough (suc j) zero w lo hi a b = covering_done (suc j) w lo hi (omega arith)
enough (suc j) (suc k) w lo hi a b =
    elim (cases_lt hi lo) [
      | inl d ↦ covering_done (suc j) w lo hi d ∙ sym (covering_done (suc k) w lo hi d)
      | inr l ↦
          let p : 0 < 2 ^ largest lo hi w = pow_pos (largest lo hi w) in
          let ih : covering j w (lo + 2 ^ largest lo hi w) hi ≡ covering k w (lo + 2 ^ largest lo hi w) hi
          = enough j k w (lo + 2 ^ largest lo hi w) hi (omega arith) (omega arith) in
          covering_step j w lo hi l ∙ ap (λ (r : List Block). record { len = w - largest lo hi w; value = lo } ∷ r) ih
          ∙ sym (covering_step k w lo hi l)
    ]

pub cover_step : (w lo hi : ℕ) → lo ≤ hi
    → cover w lo hi ≡ record { len = w - largest lo hi w; value = lo } ∷ cover w (lo + 2 ^ largest lo hi w) hi
cover_step w lo hi l =
    let p : 0 < 2 ^ largest lo hi w = pow_pos (largest lo hi w) in
    let q : suc hi - lo ≡ suc (hi - lo) = omega arith in
    ap (λ n. covering n w lo hi) q ∙ covering_step (hi - lo) w lo hi l
    ∙ ap (λ (r : List Block). record { len = w - largest lo hi w; value = lo } ∷ r)
    (enough (hi - lo) (suc hi - (lo + 2 ^ largest lo hi w)) w (lo + 2 ^ largest lo hi w) hi (omega arith) (omega arith))

-- the largest block: there is room for it, and for none that is larger
largest_room : (lo hi e : ℕ) → lo ≤ hi → room lo hi (largest lo hi e) ≡ true
largest_room lo hi zero l = and_from (eqb (lo % 2 ^ 0) 0) (leb (lo + 2 ^ 0) (hi + 1)) (eq-eqb (lo % 1) 0 (omega arith)) (le-leb (lo + 1) (hi + 1) (omega arith))
largest_room lo hi (suc e) l = go (room lo hi (suc e)) refl (largest_room lo hi e l)
  where
    go : (b : Bool) → room lo hi (suc e) ≡ b → room lo hi (largest lo hi e) ≡ true
        → room lo hi (elim b [ true ↦ suc e | false ↦ largest lo hi e ]) ≡ true
    go true q ih = q
    go false q ih = ih

largest_most : (lo hi e k : ℕ) → k ≤ e → room lo hi k ≡ true → k ≤ largest lo hi e
largest_most lo hi zero k l r = l
largest_most lo hi (suc e) k l r = go (room lo hi (suc e)) refl (λ m. largest_most lo hi e k m r)
  where
    go : (b : Bool) → room lo hi (suc e) ≡ b → (k ≤ e → k ≤ largest lo hi e) → k ≤ elim b [ true ↦ suc e | false ↦ largest lo hi e ]
    go true q ih = l
    go false q ih = elim (cases_eq k (suc e)) [
      | inl s ↦ absurd (both_ways (room lo hi (suc e)) q (subst (λ n. room lo hi n ≡ true) s r))
      | inr n ↦ ih (omega arith)
    ]

covering_covers : (k w lo hi : ℕ) → suc hi - lo ≤ k → Covers w lo hi (covering k w lo hi)
covering_covers zero w lo hi l = omega arith
covering_covers (suc k) w lo hi l =
    elim (cases_lt hi lo) [
      | inl d ↦ subst (λ (z : List Block). Covers w lo hi z) (sym (covering_done (suc k) w lo hi d)) d
      | inr m ↦
          let p : 0 < 2 ^ largest lo hi w = pow_pos (largest lo hi w) in
          let b : largest lo hi w ≤ w = largest_le lo hi w in
          let e : w - (w - largest lo hi w) ≡ largest lo hi w = omega arith in
          let r : (eqb (lo % 2 ^ largest lo hi w) 0 ≡ true) × (leb (lo + 2 ^ largest lo hi w) (hi + 1) ≡ true) = and_parts _ _ (largest_room lo hi w m) in
          subst (λ (z : List Block). Covers w lo hi z) (sym (covering_step k w lo hi m)) (
            refl,
            (
              omega arith,
              subst (λ i. lo % 2 ^ i ≡ 0) (sym e) (eqb-true (lo % 2 ^ largest lo hi w) 0 r.0),
              subst (λ i. lo + 2 ^ i ≤ hi + 1) (sym e) (leb-true (lo + 2 ^ largest lo hi w) (hi + 1) r.1),
            ),
            (λ n ln f.
                let rn : room lo hi (w - n) ≡ true = and_from _ _ (eq-eqb (lo % 2 ^ (w - n)) 0 f.1) (le-leb (lo + 2 ^ (w - n)) (hi + 1) f.2) in
                let q : w - n ≤ largest lo hi w = largest_most lo hi w (w - n) (omega arith) rn in
                omega arith),
            subst (λ i. Covers w (lo + 2 ^ i) hi (covering k w (lo + 2 ^ largest lo hi w) hi)) (sym e)
                (covering_covers k w (lo + 2 ^ largest lo hi w) hi (omega arith)),
          )
    ]

pub cover_covers : CoverCovers
cover_covers w lo hi = covering_covers (suc hi - lo) w lo hi (omega arith)
