-- Places around.
use Rattle.std.proofs.Common.{◌≡◌, ℕ, ◌+◌, ◌-◌, ◌<◌, ◌≤◌, ◌⊎◌, sym, refl, ◌∙◌, subst, inl, inr, ⊎_elim, arith}
use Rattle.std.proofs.lemmas.Bool.{cases_lt, lt-ltb, le-ltb}
use Rattle.hash_store.specs.Cells.{at}

-- A place, by whether the way to it goes past the last one.
pub at_near : (m h d : ℕ) → h + d < m → at m h d ≡ h + d
at_near m h d l = rw (lt-ltb (h + d) m l)

pub at_far : (m h d : ℕ) → m ≤ h + d → at m h d ≡ h + d - m
at_far m h d l = rw (le-ltb (h + d) m l)

at_cases : (m h d : ℕ) → ((h + d < m) × (at m h d ≡ h + d)) ⊎ ((m ≤ h + d) × (at m h d ≡ h + d - m))
at_cases m h d = ⊎_elim (λ l. inl (l, at_near m h d l)) (λ l. inr (l, at_far m h d l)) (cases_lt (h + d) m)

pub at_zero : (m h : ℕ) → h < m → at m h 0 ≡ h
at_zero m h a = ⊎_elim (λ p. omega (arith, p.0, p.1)) (λ p. omega (arith, p.0, p.1)) (at_cases m h 0)

pub at_lt : (m h d : ℕ) → h < m → d < m → at m h d < m
at_lt m h d a b = ⊎_elim (λ p. omega (arith, p.0, p.1)) (λ p. omega (arith, p.0, p.1)) (at_cases m h d)

-- Two ways from h to one place are as long.
pub at_inj : (m h d e : ℕ) → h < m → d < m → e < m → at m h d ≡ at m h e → d ≡ e
at_inj m h d e a b c k =
    ⊎_elim
    (λ p. ⊎_elim (λ r. omega (arith, p.0, p.1, r.0, r.1)) (λ r. omega (arith, p.0, p.1, r.0, r.1)) (at_cases m h e))
    (λ p. ⊎_elim (λ r. omega (arith, p.0, p.1, r.0, r.1)) (λ r. omega (arith, p.0, p.1, r.0, r.1)) (at_cases m h e))
    (at_cases m h d)

-- Every place is some way on from h.
pub dist : (m h i : ℕ) → h < m → i < m → (d : ℕ) × (d < m) × (at m h d ≡ i)
dist m h i a b =
    ⊎_elim
    (λ (l : i < h). (i + m - h, omega arith, at_far m h (i + m - h) (omega arith) ∙ omega arith))
    (λ (l : h ≤ i). (i - h, omega arith, at_near m h (i - h) (omega arith) ∙ omega arith))
    (cases_lt i h)

-- From h to p, and k on from there.
pub at_on : (m h e k p : ℕ) → h < m → e + k < m → at m h e ≡ p → at m h (e + k) ≡ at m p k
at_on m h e k p a b c =
    ⊎_elim
    (λ x. ⊎_elim (λ y. ⊎_elim (λ z. omega (arith, x.0, x.1, y.0, y.1, z.0, z.1)) (λ z. omega (arith, x.0, x.1, y.0, y.1, z.0, z.1)) (at_cases m p k)) (λ y. ⊎_elim (λ z. omega (arith, x.0, x.1, y.0, y.1, z.0, z.1)) (λ z. omega (arith, x.0, x.1, y.0, y.1, z.0, z.1)) (at_cases m p k)) (at_cases m h (e + k)))
    (λ x. ⊎_elim (λ y. ⊎_elim (λ z. omega (arith, x.0, x.1, y.0, y.1, z.0, z.1)) (λ z. omega (arith, x.0, x.1, y.0, y.1, z.0, z.1)) (at_cases m p k)) (λ y. ⊎_elim (λ z. omega (arith, x.0, x.1, y.0, y.1, z.0, z.1)) (λ z. omega (arith, x.0, x.1, y.0, y.1, z.0, z.1)) (at_cases m p k)) (at_cases m h (e + k)))
    (at_cases m h e)

-- From h to p and from h to x: so from p to x.
pub at_diff : (m h e d p x : ℕ) → h < m → e ≤ d → d < m → at m h e ≡ p → at m h d ≡ x → at m p (d - e) ≡ x
at_diff m h e d p x a b c k l =
    let P : ℕ → Type 0 = λ z. at m h z ≡ x in
    let s : d ≡ e + (d - e) = omega arith in
    sym (at_on m h e (d - e) p a (omega arith) k) ∙ subst P s l

-- From p to x, and from h to x in no less: so from h to p.
pub at_back : (m h p x k d : ℕ) → h < m → p < m → k ≤ d → d < m → at m p k ≡ x → at m h d ≡ x → at m h (d - k) ≡ p
at_back m h p x k d a b c e r s =
    let q = at m h (d - k) in
    let P : ℕ → Type 0 = λ z. at m h z ≡ x in
    let u : d ≡ d - k + k = omega arith in
    let t : at m q k ≡ x = sym (at_on m h (d - k) k q a (omega arith) refl) ∙ subst P u s in
    let ql : q < m = at_lt m h (d - k) a (omega arith) in
    ⊎_elim
    (λ y. ⊎_elim (λ z. omega (arith, y.0, y.1, z.0, z.1)) (λ z. omega (arith, y.0, y.1, z.0, z.1)) (at_cases m p k))
    (λ y. ⊎_elim (λ z. omega (arith, y.0, y.1, z.0, z.1)) (λ z. omega (arith, y.0, y.1, z.0, z.1)) (at_cases m p k))
    (at_cases m q k)
