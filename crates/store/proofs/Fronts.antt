-- What a write and an erase leave in the cells `cs`, of which the first `n` are rows.
use Rattle.std.proofs.Common.{◌≡◌, ℕ, ◌+◌, ◌-◌, ◌<◌, ◌≤◌, true, false, cond, eqb, ◌≢◌, List, length, get_or, take, set, is_some, Some, None, Option, sym, refl, ap, ◌∙◌, subst, ⊎_elim, arith, MatchOption}
use Rattle.std.proofs.lemmas.List.{get_or-take, length-take-le, get_or-set_same, get_or-set_other, length-set}
use Rattle.std.proofs.lemmas.Bool.{eq-eqb, ne_eqb, cases_lt, cases_eq}
use Rattle.store.specs.declared.row.Row.{Row}
use Rattle.store.specs.Rows.{find, key_at, NoTwice, blank}
use Rattle.store.specs.Finds.{find_first, find_none, find_some, find_cases, none_found, find_without}

row_take : (cs : List Row) (n j : ℕ) → j < n → get_or (take n cs) j blank ≡ get_or cs j blank
row_take cs n j h = get_or-take n cs j blank h

same_key : {x y : Row} → x ≡ y → x.key ≡ y.key
same_key e = ap (λ (r : Row). r.key) e

same_result : {x y : Row} → x ≡ y → ◌≡◌ {A = Option ℕ} (Some x.result) (Some y.result)
same_result e = ap (λ (r : Row). Some r.result) e

key_take : (cs : List Row) (n j : ℕ) → j < n → key_at (take n cs) j ≡ key_at cs j
key_take cs n j h = same_key (row_take cs n j h)

-- The rows when the last one has gone to the place p.
abbrev pub swapped : List Row → ℕ → ℕ → List Row
swapped cs n p = take (n - 1) (set cs p (get_or cs (n - 1) blank))

module _ (cs : List Row) (n : ℕ) (fits : n ≤ length cs) where
  long : length (take n cs) ≡ n
  long = length-take-le n cs fits

  -- A search that stopped at p.
  pub hit : (q p : ℕ) → p < n → key_at cs p ≡ q → ((k : ℕ) → k < p → key_at cs k ≡ q → ⊥) → find (take n cs) q ≡ Some (get_or cs p blank).result
  hit q p h e b =
      find_first (take n cs) q p (omega (arith, long)) (key_take cs n p h ∙ e) (λ j l k. b j l (sym (key_take cs n j (omega arith)) ∙ k))
      ∙ same_result (row_take cs n p h)

  -- A search that passed every row.
  pub miss : (q : ℕ) → ((k : ℕ) → k < n → key_at cs k ≡ q → ⊥) → find (take n cs) q ≡ None
  miss q b = find_none (take n cs) q (λ j l k. let m : j < n = omega (arith, long) in b j m (sym (key_take cs n j m) ∙ k))

  module _ (u : NoTwice (take n cs)) where
    -- No key twice, by the cells.
    cells_apart : (i j : ℕ) → i < j → j < n → key_at cs i ≡ key_at cs j → ⊥
    cells_apart i j h l e = u i j h (omega (arith, long)) (key_take cs n i (omega arith) ∙ e ∙ sym (key_take cs n j l))

    -- The first rows alone.
    pub fewer_apart : (m : ℕ) → m ≤ n → NoTwice (take m cs)
    fewer_apart m le i j h l e =
        let lt : j < m = omega (arith, length-take-le m cs (omega arith)) in
        cells_apart i j h (omega arith) (sym (key_take cs m i (omega arith)) ∙ e ∙ key_take cs m j lt)

    -- A write, at the end.
    module _ (x : Row) (room : n < length cs) (new : find (take n cs) x.key ≡ None) where
      pub after_long : length (take (n + 1) (set cs n x)) ≡ n + 1
      after_long = length-take-le (n + 1) (set cs n x) (omega (arith, length-set cs n x))

      after_old : (j : ℕ) → j < n → get_or (take (n + 1) (set cs n x)) j blank ≡ get_or cs j blank
      after_old j h = let ne : j ≢ n = omega arith in row_take (set cs n x) (n + 1) j (omega arith) ∙ get_or-set_other cs n j x blank ne

      after_new : get_or (take (n + 1) (set cs n x)) n blank ≡ x
      after_new = row_take (set cs n x) (n + 1) n (omega arith) ∙ get_or-set_same cs n x blank room

      absent : (j : ℕ) → j < n → key_at cs j ≡ x.key → ⊥
      absent j h e = none_found (take n cs) x.key new j (omega (arith, long)) (key_take cs n j h ∙ e)

      pub write_apart : NoTwice (take (n + 1) (set cs n x))
      write_apart i j h l e =
          let a : key_at (take (n + 1) (set cs n x)) i ≡ key_at cs i = same_key (after_old i (omega (arith, after_long))) in
          ⊎_elim
          (λ (m : j < n). cells_apart i j h m (sym a ∙ e ∙ same_key (after_old j m)))
          (λ (m : n ≤ j).
          let same : j ≡ n = omega (arith, after_long) in
          let P : ℕ → Type 0 = λ j. key_at (take (n + 1) (set cs n x)) i ≡ key_at (take (n + 1) (set cs n x)) j in
          absent i (omega arith) (sym a ∙ subst P same e ∙ same_key after_new))
          (cases_lt j n)

      pub write_finds : (q : ℕ) → find (take (n + 1) (set cs n x)) q ≡ cond (eqb q x.key) (Some x.result) (find (take n cs) q)
      write_finds q =
          ⊎_elim
          (λ (same : q ≡ x.key).
          rw (eq-eqb q x.key same)
          (find_some (take (n + 1) (set cs n x)) q n write_apart (omega (arith, after_long)) (same_key after_new ∙ sym same)
          ∙ same_result after_new))
          (λ (other : q ≡ x.key → ⊥).
          rw (ne_eqb q x.key other)
          (⊎_elim
          (λ (p : (i : ℕ) × (i < length (take n cs)) × (key_at (take n cs) i ≡ q)).
          let l : p.0 < n = omega (arith, p.1, long) in
          let same : get_or (take (n + 1) (set cs n x)) p.0 blank ≡ get_or (take n cs) p.0 blank = after_old p.0 l ∙ sym (row_take cs n p.0 l) in
          find_some (take (n + 1) (set cs n x)) q p.0 write_apart (omega (arith, after_long)) (same_key same ∙ p.2)
          ∙ same_result same
          ∙ sym (find_some (take n cs) q p.0 u p.1 p.2))
          (λ (b : (j : ℕ) → j < length (take n cs) → key_at (take n cs) j ≡ q → ⊥).
          find_none (take (n + 1) (set cs n x)) q
          (λ j l k.
          ⊎_elim
          (λ (m : j < n). b j (omega (arith, long)) (key_take cs n j m ∙ sym (same_key (after_old j m)) ∙ k))
          (λ (m : n ≤ j).
          let same : j ≡ n = omega (arith, after_long) in
          let P : ℕ → Type 0 = λ j. key_at (take (n + 1) (set cs n x)) j ≡ q in
          other (sym (subst P same k) ∙ same_key after_new))
          (cases_lt j n))
          ∙ sym (find_none (take n cs) q b))
          (find_cases (take n cs) q)))
          (cases_eq q x.key)

    -- An erase: the last row goes to the place of the erased one.
    module _ (p : ℕ) (here : p < n) where
      pub left_long : length (swapped cs n p) ≡ n - 1
      left_long = length-take-le (n - 1) (set cs p (get_or cs (n - 1) blank)) (omega (arith, length-set cs p (get_or cs (n - 1) blank)))

      left_same : (j : ℕ) → j < n - 1 → j ≢ p → get_or (swapped cs n p) j blank ≡ get_or cs j blank
      left_same j h ne = row_take (set cs p (get_or cs (n - 1) blank)) (n - 1) j h ∙ get_or-set_other cs p j (get_or cs (n - 1) blank) blank ne

      left_moved : (j : ℕ) → j < n - 1 → j ≡ p → get_or (swapped cs n p) j blank ≡ get_or cs (n - 1) blank
      left_moved j h e =
          let P : ℕ → Type 0 = λ k. get_or (swapped cs n p) k blank ≡ get_or cs (n - 1) blank in
          subst P (sym e) (row_take (set cs p (get_or cs (n - 1) blank)) (n - 1) p (omega arith) ∙ get_or-set_same cs p (get_or cs (n - 1) blank) blank (omega arith))

      pub erase_apart : NoTwice (swapped cs n p)
      erase_apart i j h l' e =
          let l : j < n - 1 = omega (arith, left_long) in
          ⊎_elim
          (λ (ip : i ≡ p). let ne : j ≢ p = omega arith in cells_apart j (n - 1) l (omega arith) (sym (same_key (left_same j l ne)) ∙ sym e ∙ same_key (left_moved i (omega arith) ip)))
          (λ (ip : i ≢ p).
          ⊎_elim
          (λ (jp : j ≡ p). cells_apart i (n - 1) (omega arith) (omega arith) (sym (same_key (left_same i (omega arith) ip)) ∙ e ∙ same_key (left_moved j l jp)))
          (λ (jp : j ≢ p). cells_apart i j h (omega arith) (sym (same_key (left_same i (omega arith) ip)) ∙ e ∙ same_key (left_same j l jp)))
          (cases_eq j p))
          (cases_eq i p)

      pub erase_finds : (k : ℕ) → key_at cs p ≡ k → (q : ℕ) → find (swapped cs n p) q ≡ cond (eqb q k) None (find (take n cs) q)
      erase_finds k e =
          find_without (take n cs) (swapped cs n p) p k u erase_apart (omega (arith, long)) (key_take cs n p here ∙ e)
          (λ j h.
          let l : j < n - 1 = omega (arith, left_long) in
          ⊎_elim
          (λ (jp : j ≡ p). (n - 1, omega (arith, long), (λ (a : n - 1 ≡ p). omega arith), left_moved j l jp ∙ sym (row_take cs n (n - 1) (omega arith))))
          (λ (jp : j ≢ p). (j, omega (arith, long), jp, left_same j l jp ∙ sym (row_take cs n j (omega arith))))
          (cases_eq j p))
          (λ m h mp.
          let l : m < n = omega (arith, long) in
          ⊎_elim
          (λ (e' : m ≡ n - 1).
          let P : ℕ → Type 0 = λ k. get_or cs (n - 1) blank ≡ get_or cs k blank in
          (p, omega (arith, left_long), left_moved p (omega arith) refl ∙ subst P (sym e') refl ∙ sym (row_take cs n m l)))
          (λ (e' : m ≢ n - 1). (m, omega (arith, left_long), left_same m (omega arith) mp ∙ sym (row_take cs n m l)))
          (cases_eq m (n - 1)))

-- What a clause by cases says of an option that holds something, and of one that does not.
pub some_case : (o : Option ℕ) (P : Type 0) (Q : ℕ → Type 0) → MatchOption o P Q → is_some o ≡ true → (i : ℕ) × Q i
some_case None P Q c e = absurd cc
some_case (Some i) P Q c e = (i, c)

pub none_case : (o : Option ℕ) (P : Type 0) (Q : ℕ → Type 0) → MatchOption o P Q → is_some o ≡ false → P
none_case None P Q c e = c
none_case (Some i) P Q c e = absurd cc
