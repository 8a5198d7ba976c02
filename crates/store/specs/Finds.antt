-- What `find` answers, by the places of a key.
use Rattle.std.specs.Prelude.{◌≡◌, ℕ, zero, suc, ◌<◌, cond, ◌≢◌, ◌⊎◌, List, [], ◌∷◌, length, get_or, Some, None, Option, ◌==◌, slice_index_or, refl}
use Rattle.std.proofs.Common.{sym, ap, subst, ◌∙◌, inl, inr, ⊎_elim, arith}
use Rattle.std.proofs.lemmas.Bool.{eq-eqb, ne_eqb, cases_eq, cases_order}
use Rattle.store.specs.declared.row.Row.{Row}
use Rattle.store.specs.Rows.{find, key_at, NoTwice, blank}

-- A place has the key, and none before it does.
pub find_first : (xs : List Row) (q i : ℕ) → i < length xs → key_at xs i ≡ q → ((j : ℕ) → j < i → key_at xs j ≢ q) → find xs q ≡ Some (get_or xs i blank).result
find_first [] q i l e b = absurd (omega arith)
find_first (x ∷ xs) q zero l e b = rw (eq-eqb q x.key (sym e))
find_first (x ∷ xs) q (suc i) l e b =
    rw (ne_eqb q x.key (λ h. b 0 (omega arith) (sym h)))
    (find_first xs q i (omega arith) e (λ j h k. b (suc j) (omega arith) k))

-- No place has the key.
pub find_none : (xs : List Row) (q : ℕ) → ((j : ℕ) → j < length xs → key_at xs j ≢ q) → find xs q ≡ None
find_none [] q b = refl
find_none (x ∷ xs) q b =
    rw (ne_eqb q x.key (λ h. b 0 (omega arith) (sym h))) (find_none xs q (λ j h k. b (suc j) (omega arith) k))

-- Where no key stands twice, any place that has the key answers.
pub find_some : (xs : List Row) (q i : ℕ) → NoTwice xs → i < length xs → key_at xs i ≡ q → find xs q ≡ Some (get_or xs i blank).result
find_some xs q i u l e = find_first xs q i l e (λ j h k. u j i h l (k ∙ sym e))

-- A key stands at some place, or at none.
pub find_cases : (xs : List Row) (q : ℕ) → ((i : ℕ) × (i < length xs) × (key_at xs i ≡ q)) ⊎ ((j : ℕ) → j < length xs → key_at xs j ≢ q)
find_cases [] q = inr (λ j h k. omega arith)
find_cases (x ∷ xs) q =
    ⊎_elim
    (λ e. inl (0, omega arith, e))
    (λ ne. ⊎_elim
    (λ p. inl (suc p.0, omega (arith, p.1), p.2))
    (λ b. inr (λ j. elim j as (λ j. j < length (x ∷ xs) → key_at (x ∷ xs) j ≢ q) [ zero ↦ (λ h k. ne k) | suc j ↦ (λ h k. b j (omega arith) k) ]))
    (find_cases xs q))
    (cases_eq x.key q)

-- What is found is not none.
pub found_some : (o : Option ℕ) (v : ℕ) → o ≡ Some v → o ≢ None
found_some o v e n = cc

-- Where none is found, no place has the key.
pub none_found : (xs : List Row) (q : ℕ) → find xs q ≡ None → (j : ℕ) → j < length xs → key_at xs j ≢ q
none_found [] q e j h k = omega arith
none_found (x ∷ xs) q e j h k =
    ⊎_elim
    (λ a. let t = eq-eqb q x.key (sym a) in let z : ◌≡◌ {A = Option ℕ} (Some x.result) None = rw t at e in cc)
    (λ a.
    let t = ne_eqb q x.key (λ b. a (sym b)) in
    let z : find xs q ≡ None = rw t at e in
    let P : ℕ → Type 0 = λ j. j < length (x ∷ xs) → key_at (x ∷ xs) j ≡ q → ⊥ in
    elim j as P [ zero ↦ (λ h k. a k) | suc j ↦ (λ h k. none_found xs q z j (omega arith) k) ] h k)
    (cases_eq x.key q)

-- The rows `ys` are the rows `xs` but for the one at `i`: each row of `ys` stands in `xs` at a place
-- other than `i`, and the other way round.
pub find_without :
    (xs ys : List Row) (i k : ℕ) → NoTwice xs → NoTwice ys → i < length xs → key_at xs i ≡ k
    → ((j : ℕ) → j < length ys → (m : ℕ) × (m < length xs) × (m ≢ i) × (slice_index_or ys j blank ≡ slice_index_or xs m blank))
    → ((m : ℕ) → m < length xs → m ≢ i → (j : ℕ) × (j < length ys) × (slice_index_or ys j blank ≡ slice_index_or xs m blank))
    → (q : ℕ) → find ys q ≡ cond (q == k) None (find xs q)
find_without xs ys i k u v l e down up q =
    ⊎_elim
    (λ (same : q ≡ k).
    rw (eq-eqb q k same)
    (find_none ys q
    (λ j h f.
    let d = down j h in
    let g : key_at xs d.0 ≡ key_at xs i = sym (ap (λ (r : Row). r.key) d.3) ∙ f ∙ same ∙ sym e in
    ⊎_elim
    (λ (a : d.0 ≡ i). d.2 a)
    (λ (o : (d.0 < i) ⊎ (i < d.0)). ⊎_elim (λ (a : d.0 < i). u d.0 i a l g) (λ (a : i < d.0). u i d.0 a d.1 (sym g)) o)
    (cases_order d.0 i))))
    (λ (other : q ≡ k → ⊥).
    rw (ne_eqb q k other)
    (⊎_elim
    (λ (p : (m : ℕ) × (m < length xs) × (key_at xs m ≡ q)).
    let P : ℕ → Type 0 = λ m. key_at xs m ≡ q in
    let a = up p.0 p.1 (λ s. other (sym (subst P s p.2) ∙ e)) in
    find_some ys q a.0 v a.1 (ap (λ (r : Row). r.key) a.2 ∙ p.2)
    ∙ ap (λ (r : Row). Some r.result) a.2
    ∙ sym (find_some xs q p.0 u p.1 p.2))
    (λ (b : (j : ℕ) → j < length xs → key_at xs j ≢ q).
    find_none ys q (λ j h f. let d = down j h in b d.0 d.1 (sym (ap (λ (r : Row). r.key) d.3) ∙ f))
    ∙ sym (find_none xs q b))
    (find_cases xs q)))
    (cases_eq q k)
