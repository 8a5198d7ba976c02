-- What the rows in the cells say of a key, by the cells' places.
use Rattle.std.specs.Prelude.{Option, is_some, ◌≡◌, ℕ, zero, suc, ◌<◌, ◌≤◌, true, false, List, ◌∷◌, length, None, ◌≢◌, nat_eq, refl}
use Rattle.std.proofs.Common.{sym, ap, subst, ◌∙◌, ⊎_elim, arith}
use Rattle.std.proofs.lemmas.Bool.{ne_eqb, cases_Bool}
use Rattle.store.specs.declared.row.Row.{Row}
use Rattle.store.specs.Rows.{find, NoTwice}
use Rattle.store.specs.Finds.{none_found}
use Rattle.hash_store.specs.Cells.{rows_of, row_of, Apart}

-- What the last cell does to the rows.
pub rows_used : (f : ℕ → Option Row) (m : ℕ) → is_some (f m) ≡ true → rows_of f (suc m) ≡ row_of (f m) ∷ rows_of f m
rows_used f m e = rw e

pub rows_free : (f : ℕ → Option Row) (m : ℕ) → is_some (f m) ≡ false → rows_of f (suc m) ≡ rows_of f m
rows_free f m e = rw e

-- No more rows than cells.
pub rows_within : (f : ℕ → Option Row) (m : ℕ) → length (rows_of f m) ≤ m
rows_within f zero = omega arith
rows_within f (suc m) =
    let rest = rows_within f m in
    ⊎_elim
    (λ (u : is_some (f m) ≡ true). omega (arith, ap length (rows_used f m u)))
    (λ (u : is_some (f m) ≡ false). omega (arith, ap length (rows_free f m u)))
    (cases_Bool (is_some (f m)))

-- No used cell has the key.
pub find_nowhere : (f : ℕ → Option Row) (m q : ℕ) → ((j : ℕ) → j < m → is_some (f j) ≡ true → (row_of (f j)).key ≢ q) → find (rows_of f m) q ≡ None
find_nowhere f zero q b = refl
find_nowhere f (suc m) q b =
    let rest : find (rows_of f m) q ≡ None = find_nowhere f m q (λ j h u k. b j (omega arith) u k) in
    ⊎_elim
    (λ (u : is_some (f m) ≡ true).
    let ne : nat_eq q (row_of (f m)).key ≡ false = ne_eqb q (row_of (f m)).key (λ e. b m (omega arith) u (sym e)) in
    ap (λ xs. find xs q) (rows_used f m u) ∙ rw ne rest)
    (λ (u : is_some (f m) ≡ false). ap (λ xs. find xs q) (rows_free f m u) ∙ rest)
    (cases_Bool (is_some (f m)))

cons_apart : (x : Row) (xs : List Row) → find xs x.key ≡ None → NoTwice xs → NoTwice (x ∷ xs)
cons_apart x xs e a i zero h l k = omega arith
cons_apart x xs e a zero (suc j) h l k = none_found xs x.key e j (omega arith) (sym k)
cons_apart x xs e a (suc i) (suc j) h l k = a i j (omega arith) (omega arith) k

-- Where no key stands in two cells, none stands twice in the rows.
pub rows_apart : (f : ℕ → Option Row) (m : ℕ) → Apart f m → NoTwice (rows_of f m)
rows_apart f zero a = λ i j h l k. omega arith
rows_apart f (suc m) a =
    let rest : NoTwice (rows_of f m) = rows_apart f m (λ i j w. a i j (w.0, omega (arith, w.1), w.2, w.3, w.4)) in
    let P : List Row → Type 0 = λ xs. NoTwice xs in
    ⊎_elim
    (λ (u : is_some (f m) ≡ true).
    subst P (sym (rows_used f m u))
    (cons_apart (row_of (f m)) (rows_of f m) (find_nowhere f m (row_of (f m)).key (λ j h v k. a j m (h, omega arith, v, u, k))) rest))
    (λ (u : is_some (f m) ≡ false). subst P (sym (rows_free f m u)) rest)
    (cases_Bool (is_some (f m)))
