-- What the search for a key says of the rows, and what a write leaves.
use Rattle.std.proofs.Common.{◌≡◌, ℕ, zero, suc, ◌+◌, ◌<◌, ◌≤◌, true, false, cond, eqb, ◌≢◌, ◌⊎◌, List, [], ◌++◌, length, min, get_or, set, replicate, Some, None, Option, is_some, sym, refl, ap, ◌∙◌, subst, inl, inr, ⊎_elim, arith}
use Rattle.std.proofs.lemmas.Bool.{eq-eqb, ne_eqb, cases_eq, cases_Bool, cases_lt, both_ways}
use Rattle.std.proofs.lemmas.Grind.{merely}
use Rattle.std.proofs.lemmas.List.{get_or_append_left, get_or-replicate, get_or-set_same, get_or-set_other, length-set}
use Rattle.store.specs.Rows.{find}
use Rattle.store.specs.declared.row.Row.{Row}
use Rattle.store.specs.Meaning.{Added}
use Rattle.hash_store.specs.declared.probe.Spot.{Spot}
use Rattle.hash_store.specs.declared.probe.Spot.TheVariants.{Found, Free, Nowhere}
use Rattle.hash_store.specs.Cells.{cell_at, answer_at, rows_of, row_of, Sound, home_of, home_lt, at, Apart, Unpassed, Seen, Says}
use Rattle.hash_store.specs.Helds.{rows_used, rows_free, rows_within, find_nowhere}
use Rattle.hash_store.proofs.Around.{at_inj, dist}

-- A used cell has the key, and no other does.
pub find_somewhere : (f : ℕ → Option Row) (m q i : ℕ) → Apart f m → i < m → is_some (f i) ≡ true → (row_of (f i)).key ≡ q → find (rows_of f m) q ≡ Some (row_of (f i)).result
find_somewhere f zero q i a l u e = absurd (omega arith)
find_somewhere f (suc m) q i a l u e =
    ⊎_elim
    (λ (h : i < m).
    let rest : find (rows_of f m) q ≡ Some (row_of (f i)).result = find_somewhere f m q i (λ x y w. a x y (w.0, omega (arith, w.1), w.2, w.3, w.4)) h u e in
    ⊎_elim
    (λ (v : is_some (f m) ≡ true).
    let ne : eqb q (row_of (f m)).key ≡ false = ne_eqb q (row_of (f m)).key (λ k. a i m (h, omega arith, u, v, e ∙ k)) in
    ap (λ xs. find xs q) (rows_used f m v) ∙ rw ne rest)
    (λ (v : is_some (f m) ≡ false). ap (λ xs. find xs q) (rows_free f m v) ∙ rest)
    (cases_Bool (is_some (f m))))
    (λ (h : m ≤ i).
    let same : i ≡ m = omega arith in
    let P : ℕ → Type 0 = λ x. find (rows_of f (suc m)) q ≡ Some (row_of (f x)).result in
    let U : ℕ → Type 0 = λ x. is_some (f x) ≡ true in
    let K : ℕ → Type 0 = λ x. (row_of (f x)).key ≡ q in
    subst P (sym same) (ap (λ xs. find xs q) (rows_used f m (subst U same u)) ∙ rw (eq-eqb q (row_of (f m)).key (sym (subst K same e)))))
    (cases_lt i m)

-- A key stands in some cell, or in none.
pub cell_cases : (f : ℕ → Option Row) (q m : ℕ) → ((j : ℕ) × (j < m) × (is_some (f j) ≡ true) × ((row_of (f j)).key ≡ q)) ⊎ ((j : ℕ) → j < m → is_some (f j) ≡ true → (row_of (f j)).key ≡ q → ⊥)
cell_cases f q zero = inr (λ j l u k. omega arith)
cell_cases f q (suc m) =
    ⊎_elim
    (λ (h : (j : ℕ) × (j < m) × (is_some (f j) ≡ true) × ((row_of (f j)).key ≡ q)). inl (h.0, omega (arith, h.1), h.2, h.3))
    (λ (b : (j : ℕ) → j < m → is_some (f j) ≡ true → (row_of (f j)).key ≡ q → ⊥).
    ⊎_elim
    (λ (u : is_some (f m) ≡ true).
    ⊎_elim
    (λ (k : (row_of (f m)).key ≡ q). inl (m, omega arith, u, k))
    (λ (k : (row_of (f m)).key ≡ q → ⊥).
    inr (λ j l v e. ⊎_elim (λ (z : j < m). b j z v e) (λ (z : m ≤ j). let P : ℕ → Type 0 = λ y. (row_of (f y)).key ≡ q in let jm : j ≡ m = omega arith in k (subst P jm e)) (cases_lt j m)))
    (cases_eq (row_of (f m)).key q))
    (λ (u : is_some (f m) ≡ false).
    inr (λ j l v e. ⊎_elim (λ (z : j < m). b j z v e) (λ (z : m ≤ j). let P : ℕ → Type 0 = λ y. is_some (f y) ≡ true in let jm : j ≡ m = omega arith in both_ways (is_some (f m)) u (subst P jm v)) (cases_lt j m)))
    (cases_Bool (is_some (f m))))
    (cell_cases f q m)

-- How many rows there are: in full cells, in free ones, in cells that are used alike, and where one
-- more is used.
pub rows_full : (f : ℕ → Option Row) (m : ℕ) → ((j : ℕ) → j < m → is_some (f j) ≡ true) → length (rows_of f m) ≡ m
rows_full f zero a = refl
rows_full f (suc m) a = ap length (rows_used f m (a m (omega arith))) ∙ ap suc (rows_full f m (λ j h. a j (omega arith)))

pub rows_none : (f : ℕ → Option Row) (m : ℕ) → ((j : ℕ) → j < m → is_some (f j) ≡ false) → rows_of f m ≡ []
rows_none f zero a = refl
rows_none f (suc m) a = rows_free f m (a m (omega arith)) ∙ rows_none f m (λ j h. a j (omega arith))

pub rows_alike : (f g : ℕ → Option Row) (m : ℕ) → ((j : ℕ) → j < m → is_some (g j) ≡ is_some (f j)) → length (rows_of g m) ≡ length (rows_of f m)
rows_alike f g zero e = refl
rows_alike f g (suc m) e =
    let rest = rows_alike f g m (λ j h. e j (omega arith)) in
    let same = e m (omega arith) in
    ⊎_elim
    (λ (u : is_some (f m) ≡ true). omega (arith, rest, ap length (rows_used f m u), ap length (rows_used g m (same ∙ u))))
    (λ (u : is_some (f m) ≡ false). omega (arith, rest, ap length (rows_free f m u), ap length (rows_free g m (same ∙ u))))
    (cases_Bool (is_some (f m)))

pub rows_more : (f g : ℕ → Option Row) (m i : ℕ) → i < m → ((j : ℕ) → j ≢ i → is_some (g j) ≡ is_some (f j)) → is_some (f i) ≡ false → is_some (g i) ≡ true → length (rows_of g m) ≡ length (rows_of f m) + 1
rows_more f g zero i l e u v = absurd (omega arith)
rows_more f g (suc m) i l e u v =
    ⊎_elim
    (λ (h : i < m).
    let rest = rows_more f g m i h e u v in
    let same = e m (λ x. omega arith) in
    ⊎_elim
    (λ (w : is_some (f m) ≡ true). omega (arith, rest, ap length (rows_used f m w), ap length (rows_used g m (same ∙ w))))
    (λ (w : is_some (f m) ≡ false). omega (arith, rest, ap length (rows_free f m w), ap length (rows_free g m (same ∙ w))))
    (cases_Bool (is_some (f m))))
    (λ (h : m ≤ i).
    let same : i ≡ m = omega arith in
    let U : ℕ → Type 0 = λ x. is_some (f x) ≡ false in
    let V : ℕ → Type 0 = λ x. is_some (g x) ≡ true in
    omega (
      arith,
      rows_alike f g m (λ j k. e j (λ x. omega arith)),
      ap length (rows_free f m (subst U same u)),
      ap length (rows_used g m (subst V same v)),
    ))
    (cases_lt i m)

module _ (f : ℕ → Option Row) (m q : ℕ) where
  -- A search that passed every cell.
  pub absent_round : Seen f m q m → (j : ℕ) → j < m → is_some (f j) ≡ true → (row_of (f j)).key ≡ q → ⊥
  absent_round s j l u k =
      let d = dist m (home_of q m) j (home_lt q m (omega arith)) l in
      let P : ℕ → Type 0 = λ i. (row_of (f i)).key ≡ q in
      (s d.0 d.1).1 (subst P (sym d.2) k)

  pub round_full : Seen f m q m → (j : ℕ) → j < m → is_some (f j) ≡ true
  round_full s j l =
      let d = dist m (home_of q m) j (home_lt q m (omega arith)) l in
      let P : ℕ → Type 0 = λ x. is_some (f x) ≡ true in
      subst P d.2 (s d.0 d.1).0

  -- A search that ended at the free cell i.
  pub absent_free : {i : ℕ} → Says f m q (Free i) → Unpassed f m i → (j : ℕ) → j < m → is_some (f j) ≡ true → (row_of (f j)).key ≡ q → ⊥
  absent_free {i} s r j l u k =
      let e = dist m (home_of q m) j (home_lt q m (omega arith)) l in
      ⊎_elim
      (λ (a : e.0 < s.ends.way). let P : ℕ → Type 0 = λ i. (row_of (f i)).key ≡ q in (s.ends.seen e.0 a).1 (subst P (sym e.2) k))
      (λ (a : s.ends.way ≤ e.0).
      ⊎_elim
      (λ (same : s.ends.way ≡ e.0).
      let P : ℕ → Type 0 = λ x. i ≡ at m (home_of q m) x in
      let Q : ℕ → Type 0 = λ x. is_some (f x) ≡ false in
      both_ways (is_some (f j)) (subst Q (subst P same s.ends.place ∙ e.2) s.free) u)
      (λ (other : s.ends.way ≡ e.0 → ⊥).
      let P : ℕ → Type 0 = λ x. at m (home_of x m) e.0 ≡ j in
      let Q : ℕ → Type 0 = λ x. at m (home_of x m) s.ends.way ≡ i in
      r j e.0 s.ends.way (l, u, e.1, subst P (sym k) e.2, omega arith, subst Q (sym k) (sym s.ends.place)))
      (cases_eq s.ends.way e.0))
      (cases_lt e.0 s.ends.way)

  pub miss_round : Seen f m q m → find (rows_of f m) q ≡ None
  miss_round s = find_nowhere f m q (absent_round s)

  pub miss_free : {i : ℕ} → Says f m q (Free i) → Unpassed f m i → find (rows_of f m) q ≡ None
  miss_free s r = find_nowhere f m q (absent_free s r)

-- A write of the row in x into the free cell i where the search for its key ended.
module _ (f g : ℕ → Option Row) (m n i : ℕ) (x : Row) (same : g i ≡ Some x) (other : (j : ℕ) → j ≢ i → g j ≡ f j) (k : Sound f m n) (s : Says f m x.key (Free i)) where
  same_used : is_some (g i) ≡ true
  same_used = ap is_some same

  same_key : (row_of (g i)).key ≡ x.key
  same_key = ap (λ c. (row_of c).key) same

  other_used : (j : ℕ) → j ≢ i → is_some (g j) ≡ is_some (f j)
  other_used j ne = ap is_some (other j ne)

  other_key : (j : ℕ) → j ≢ i → (row_of (g j)).key ≡ (row_of (f j)).key
  other_key j ne = ap (λ c. (row_of c).key) (other j ne)

  unpassed : Unpassed f m i
  unpassed = k.reach i s.ends.within s.free

  pub put_more : length (rows_of g m) ≡ length (rows_of f m) + 1
  put_more = rows_more f g m i s.ends.within other_used s.free same_used

  pub put_room : length (rows_of f m) < m
  put_room = omega (arith, put_more, rows_within g m)

  new_key : (j : ℕ) → j < m → j ≢ i → is_some (g j) ≡ true → (row_of (g j)).key ≡ x.key → ⊥
  new_key j l ne u e = absent_free f m x.key s unpassed j l (sym (other_used j ne) ∙ u) (sym (other_key j ne) ∙ e)

  put_apart : Apart g m
  put_apart a b w =
      ⊎_elim
      (λ (ai : a ≡ i).
      let K : ℕ → Type 0 = λ z. (row_of (g z)).key ≡ (row_of (g b)).key in
      let ne : b ≢ i = omega (arith, w.0) in
      new_key b w.1 ne w.3 (sym (subst K ai w.4) ∙ same_key))
      (λ (ai : a ≢ i).
      ⊎_elim
      (λ (bi : b ≡ i).
      let K : ℕ → Type 0 = λ z. (row_of (g a)).key ≡ (row_of (g z)).key in
      new_key a (omega (arith, w.0, w.1)) ai w.2 (subst K bi w.4 ∙ same_key))
      (λ (bi : b ≢ i). k.apart a b (w.0, w.1, sym (other_used a ai) ∙ w.2, sym (other_used b bi) ∙ w.3, sym (other_key a ai) ∙ w.4 ∙ other_key b bi))
      (cases_eq b i))
      (cases_eq a i)

  -- Where no old row stands beyond the cell z, and the new row does not either, none does.
  put_unpassed : (z : ℕ) → Unpassed f m z → ((e : ℕ) → e < s.ends.way → at m (home_of x.key m) e ≡ z → ⊥) → Unpassed g m z
  put_unpassed z old new j d e w =
      let P : ℕ → Type 0 = λ y. at m (home_of y m) d ≡ j in
      let Q : ℕ → Type 0 = λ y. at m (home_of y m) e ≡ z in
      ⊎_elim
      (λ (ji : j ≡ i).
      let K : ℕ → Type 0 = λ y. (row_of (g y)).key ≡ x.key in
      let kk : (row_of (g j)).key ≡ x.key = subst K (sym ji) same_key in
      let dd : d ≡ s.ends.way = at_inj m (home_of x.key m) d s.ends.way (home_lt x.key m (omega (arith, w.2))) w.2 s.ends.way_lt (subst P kk w.3 ∙ ji ∙ s.ends.place) in
      new e (omega (arith, w.4)) (subst Q kk w.5))
      (λ (ji : j ≢ i).
      let kk = other_key j ji in
      old j d e (w.0, sym (other_used j ji) ∙ w.1, w.2, subst P kk w.3, w.4, subst Q kk w.5))
      (cases_eq j i)

  put_reach : (z : ℕ) → z < m → is_some (g z) ≡ false → Unpassed g m z
  put_reach z l free =
      let zi : z ≢ i = λ e. let P : ℕ → Type 0 = λ y. is_some (g y) ≡ false in both_ways (is_some (g i)) (subst P e free) same_used in
      let was : is_some (f z) ≡ false = sym (other_used z zi) ∙ free in
      put_unpassed z (k.reach z l was)
      (λ e h p. let P : ℕ → Type 0 = λ y. is_some (f y) ≡ true in both_ways (is_some (f z)) was (subst P p (s.ends.seen e h).0))

  put_cut : Unpassed g m i
  put_cut =
      put_unpassed i unpassed
      (λ e h p. let P : ℕ → Type 0 = λ y. is_some (f y) ≡ true in both_ways (is_some (f i)) s.free (subst P p (s.ends.seen e h).0))

  pub put_sound : Sound g m (n + 1)
  put_sound = record { counted = omega (arith, put_more, k.counted); apart = put_apart; reach = put_reach; cut = λ pos. merely (i, s.ends.within, put_cut) }

  pub put_finds : (q : ℕ) → find (rows_of g m) q ≡ cond (eqb q x.key) (Some x.result) (find (rows_of f m) q)
  put_finds q =
      let res : Option Row → Option ℕ = λ c. Some (row_of c).result in
      ⊎_elim
      (λ (e : q ≡ x.key). rw (eq-eqb q x.key e) (find_somewhere g m q i put_apart s.ends.within same_used (same_key ∙ sym e) ∙ ap res same))
      (λ (ne : q ≡ x.key → ⊥).
      rw (ne_eqb q x.key ne)
      (⊎_elim
      (λ (h : (j : ℕ) × (j < m) × (is_some (f j) ≡ true) × ((row_of (f j)).key ≡ q)).
      let P : ℕ → Type 0 = λ z. is_some (f z) ≡ true in
      let ji : h.0 ≢ i = λ a. both_ways (is_some (f i)) s.free (subst P a h.2) in
      find_somewhere g m q h.0 put_apart h.1 (other_used h.0 ji ∙ h.2) (other_key h.0 ji ∙ h.3)
      ∙ ap res (other h.0 ji)
      ∙ sym (find_somewhere f m q h.0 k.apart h.1 h.2 h.3))
      (λ (b : (j : ℕ) → j < m → is_some (f j) ≡ true → (row_of (f j)).key ≡ q → ⊥).
      find_nowhere g m q
      (λ j l u e.
      ⊎_elim
      (λ (ji : j ≡ i). let K : ℕ → Type 0 = λ z. (row_of (g z)).key ≡ q in ne (sym (subst K ji e) ∙ same_key))
      (λ (ji : j ≢ i). b j l (sym (other_used j ji) ∙ u) (sym (other_key j ji) ∙ e))
      (cases_eq j i))
      ∙ sym (find_nowhere f m q b))
      (cell_cases f q m)))
      (cases_eq q x.key)

-- What is no row is free.
pub none_is : (c : Option Row) → ((x : Row) → c ≡ Some x → ⊥) → is_some c ≡ false
none_is None n = refl
none_is (Some x) n = absurd (n x refl)

-- The row in a used cell.
pub some_row : (c : Option Row) → is_some c ≡ true → c ≡ Some (row_of c)
some_row None e = absurd cc
some_row (Some x) e = refl

-- Cells that are all free are in order.
pub sound_none : (f : ℕ → Option Row) (m : ℕ) → ((j : ℕ) → j < m → is_some (f j) ≡ false) → Sound f m 0
sound_none f m free =
    record {
      counted = sym (ap length (rows_none f m free));
      apart = λ i j w. both_ways (is_some (f j)) (free j w.1) w.3;
      reach = λ z l off i d e w. both_ways (is_some (f i)) (free i w.0) w.1;
      cut = λ pos. merely (0, pos, (λ i d e w. both_ways (is_some (f i)) (free i w.0) w.1));
    }

-- Of cells of which the first were all made free, those are free.
pub cleared : (cs ys : List (Option Row)) (j : ℕ) → ys ≡ replicate (length ys) None → j < length ys → is_some (cell_at (ys ++ cs) j) ≡ false
cleared cs ys j e l =
    ap is_some (get_or_append_left ys cs None j l ∙ ap (λ xs. get_or xs j None) e ∙ get_or-replicate (length ys) j None None l)

-- What a search says is what the rows hold for the key.
pub finds_so : (f : ℕ → Option Row) (m n q : ℕ) (o : Spot) → Sound f m n → Says f m q o → find (rows_of f m) q ≡ answer_at f o
finds_so f m n q (Found i) k s = find_somewhere f m q i k.apart s.within s.used s.has
finds_so f m n q (Free i) k s = miss_free f m q s (k.reach i s.ends.within s.free)
finds_so f m n q Nowhere k s = miss_round f m q s

-- How many of the cells may hold rows.
abbrev usable : List (Option Row) → ℕ
usable cs = min (length cs) 4096

-- A write of the row x into the free cell i of a list of cells.
module _ (cs : List (Option Row)) (n i : ℕ) (x : Row) (k : Sound (cell_at cs) (usable cs) n) (s : Says (cell_at cs) (usable cs) x.key (Free i)) where
  abbrev f : ℕ → Option Row
  f = cell_at cs

  abbrev g : ℕ → Option Row
  g = cell_at (set cs i (Some x))

  same : g i ≡ Some x
  same = get_or-set_same cs i (Some x) None (omega (arith, s.ends.within))

  other : (j : ℕ) → j ≢ i → g j ≡ f j
  other j ne = get_or-set_other cs i j (Some x) None ne

  long : usable (set cs i (Some x)) ≡ usable cs
  long = ap (λ j. min j 4096) (length-set cs i (Some x))

  pub wrote_room : length (rows_of f (usable cs)) < usable cs
  wrote_room = put_room f g (usable cs) n i x same other k s

  pub wrote_sound : Sound g (usable (set cs i (Some x))) (n + 1)
  wrote_sound = let P : ℕ → Type 0 = λ m. Sound g m (n + 1) in subst P (sym long) (put_sound f g (usable cs) n i x same other k s)

  pub wrote_added : (t : ℕ)
      → Added (record { rows = rows_of f (usable cs); capacity = usable cs; tally = t }) x
      (record { rows = rows_of g (usable (set cs i (Some x))); capacity = usable (set cs i (Some x)); tally = t })
  wrote_added t =
      let F : ℕ → Type 0 = λ m. (p : ℕ) → find (rows_of g m) p ≡ cond (eqb p x.key) (Some x.result) (find (rows_of f (usable cs)) p) in
      let H : ℕ → Type 0 = λ m. length (rows_of g m) ≡ length (rows_of f (usable cs)) + 1 in
      record {
        finds = subst F (sym long) (put_finds f g (usable cs) n i x same other k s);
        held = subst H (sym long) (put_more f g (usable cs) n i x same other k s);
        capacity = long;
        tally = refl;
      }
