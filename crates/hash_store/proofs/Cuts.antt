-- Which cell no row stands beyond: that there is one is known of every store, and it can be found.
use Rattle.std.proofs.Common.{◌≡◌, ℕ, zero, suc, ◌<◌, ◌≤◌, ◌⊎◌, Bool, true, false, Option, refl, ⊎_elim, inl, inr, arith, subst}
use Rattle.std.specs.Prelude.{is_some, min, length}
use Rattle.std.proofs.Math.Logic.{∥∥₁_elim}
use Rattle.std.proofs.lemmas.Bool.{cases_eq, false≢true, cases_lt}
use Rattle.store.specs.declared.row.Row.{Row}
use Rattle.hash_store.specs.declared.hash.HashStore.{HashStore}
use Rattle.hash_store.specs.Cells.{cell_at, row_of, home_of, at, Unpassed, Sound}
use Rattle.hash_store.specs.Hashes.{InOrder}

-- It is so, or not.
abbrev pub Decided : Type 0 → Type 0
Decided P = P ⊎ (P → ⊥)

-- Of the numbers below n one is so, or none is.
one_below : (P : ℕ → Type 0) → ((k : ℕ) → Decided (P k)) → (n : ℕ) → Decided ((k : ℕ) × (k < n) × P k)
one_below P d zero = inr (λ s. omega (arith, s.1))
one_below P d (suc n) =
    ⊎_elim
    (λ (s : (k : ℕ) × (k < n) × P k). inl (s.0, omega (arith, s.1), s.2))
    (λ (none : (k : ℕ) × (k < n) × P k → ⊥).
    ⊎_elim
    (λ (p : P n). inl (n, omega arith, p))
    (λ (q : P n → ⊥). inr (λ s. ⊎_elim
    (λ (l : s.0 < n). none (s.0, l, s.2))
    (λ (h : n ≤ s.0). let e : s.0 ≡ n = omega (arith, h, s.1) in q (subst P e s.2))
    (cases_lt s.0 n)))
    (d n))
    (one_below P d n)

is_true : (b : Bool) → Decided (b ≡ true)
is_true true = inl refl
is_true false = inr (λ e. false≢true e)

-- The row of the cell i stands d on from its home, and its way passes z at the place e.
record Passes (f : ℕ → Option Row) (m z i d e : ℕ) : Type 0 where
  used : is_some (f i) ≡ true
  here : at m (home_of (row_of (f i)).key m) d ≡ i
  passed : at m (home_of (row_of (f i)).key m) e ≡ z

module _ (f : ℕ → Option Row) (m : ℕ) where
  passes : (z i d e : ℕ) → Decided (Passes f m z i d e)
  passes z i d e =
      let h = home_of (row_of (f i)).key m in
      ⊎_elim
      (λ (u : is_some (f i) ≡ true).
      ⊎_elim
      (λ (l : at m h d ≡ i).
      ⊎_elim
      (λ (p : at m h e ≡ z). inl (record { used = u; here = l; passed = p }))
      (λ (n : at m h e ≡ z → ⊥). inr (λ w. n w.passed))
      (cases_eq (at m h e) z))
      (λ (n : at m h d ≡ i → ⊥). inr (λ w. n w.here))
      (cases_eq (at m h d) i))
      (λ (n : is_some (f i) ≡ true → ⊥). inr (λ w. n w.used))
      (is_true (is_some (f i)))

  -- Whether a row stands beyond a cell can be told.
  unpassed : (z : ℕ) → Decided (Unpassed f m z)
  unpassed z =
      let way : (i d : ℕ) → Decided ((e : ℕ) × (e < d) × Passes f m z i d e) = λ i d. one_below (Passes f m z i d) (passes z i d) d in
      let row : (i : ℕ) → Decided ((d : ℕ) × (d < m) × ((e : ℕ) × (e < d) × Passes f m z i d e))
      = λ i. one_below (λ d. (e : ℕ) × (e < d) × Passes f m z i d e) (way i) m in
      ⊎_elim
      (λ s. let i = s.0 in let d = s.2.0 in let e = s.2.2.0 in let p = s.2.2.2 in
      inr (λ (U : Unpassed f m z). U i d e (s.1, p.used, s.2.1, p.here, s.2.2.1, p.passed)))
      (λ none. inl (λ i d e w. none (i, w.0, (d, w.2, (e, w.4, record { used = w.1; here = w.3; passed = w.5 })))))
      (one_below (λ i. (d : ℕ) × (d < m) × ((e : ℕ) × (e < d) × Passes f m z i d e)) row m)

-- The cell that no row stands beyond, found.
pub cut_found : (f : ℕ → Option Row) (m n : ℕ) → Sound f m n → 0 < m → (z : ℕ) × (z < m) × Unpassed f m z
cut_found f m n k pos =
    ⊎_elim
    (λ (s : (z : ℕ) × (z < m) × Unpassed f m z). s)
    (λ (none : (z : ℕ) × (z < m) × Unpassed f m z → ⊥). absurd (∥∥₁_elim (k.cut pos) (λ a b. absurd a) none))
    (one_below (Unpassed f m) (unpassed f m) m)

-- Every store is in order.
pub in_order : (s : HashStore) → InOrder s
in_order s = record { cells = s.in_order; cut = cut_found (cell_at s.cells.now) (min (length s.cells.now) 4096) s.count s.in_order; counts = s.counts }
