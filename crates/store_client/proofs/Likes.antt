-- Stores that are alike answer alike, and stay so.
use Rattle.std.proofs.Common.{◌≡◌, ℕ, ◌<◌, cond, eqb, List, [], ◌∷◌, ◌++◌, length, Some, None, Ok, Err, Option, Result, sym, refl, ap, ◌∙◌, subst, inl, inr, arith, MatchResult}
use Rattle.questions.specs.Asking.{ask, accept, refusal}
use Rattle.store.specs.declared.row.Row.{Row}
use Rattle.store.specs.declared.row.StoreRefusal.{StoreRefusal}
use Rattle.store.specs.declared.row.StoreRefusal.TheVariants.{KeyPresent, Full, KeyAbsent}
use Rattle.store.specs.Rows.{find}
use Rattle.store.specs.Meaning.{Contents, Searched, Added, Removed, Written, Erased, number, bumped}
use Rattle.store_client.specs.declared.Call.{Call}
use Rattle.store_client.specs.declared.Call.TheVariants.{Search, Write, Erase}
use Rattle.store_client.specs.declared.Outcome.{Outcome}
use Rattle.store_client.specs.declared.Outcome.TheVariants.{Found, Changed}
use Rattle.store_client.specs.Uses.{Performed, Alike, AnsweredAlike}

-- The same questions come to the same refusal.
ask_same :
    (n : ℕ) (Q R : Type 0) (F G : Option ℕ → Type 0) → (Q → R) → (R → Q) → ((p q : Option ℕ) → F p → G q → p ≡ q) → (p q : Option ℕ) → ask n Q F p → ask n R G q → p ≡ q
ask_same n Q R F G to from same p q (inl x) (inl y) = same p q x.1 y.1
ask_same n Q R F G to from same p q (inl x) (inr y) = absurd (y.0 (to x.0))
ask_same n Q R F G to from same p q (inr x) (inl y) = absurd (x.0 (from y.0))
ask_same n Q R F G to from same p q (inr x) (inr y) = x.1 ∙ sym y.1

accept_same : (p q : Option ℕ) → accept p → accept q → p ≡ q
accept_same p q x y = x ∙ sym y

-- Refusals with one number are the same.
refused_same : (e g : StoreRefusal) → number e ≡ number g → e ≡ g
refused_same KeyPresent KeyPresent h = refl
refused_same KeyPresent Full h = absurd (omega arith)
refused_same KeyPresent KeyAbsent h = absurd (omega arith)
refused_same Full KeyPresent h = absurd (omega arith)
refused_same Full Full h = refl
refused_same Full KeyAbsent h = absurd (omega arith)
refused_same KeyAbsent KeyPresent h = absurd (omega arith)
refused_same KeyAbsent Full h = absurd (omega arith)
refused_same KeyAbsent KeyAbsent h = refl

some_same : (a b : ℕ) → ◌≡◌ {A = Option ℕ} (Some a) (Some b) → a ≡ b
some_same a b e = cc

-- A change: both are made, or both are refused with the same number.
change_same :
    (r q : Result (Unit {0}) StoreRefusal) (D : Result (Unit {0}) StoreRefusal → Result (Unit {0}) StoreRefusal → Type 0)
    → refusal number r ≡ refusal number q → ((x y : Unit {0}) → D (Ok x) (Ok y)) → ((e g : StoreRefusal) → D (Err e) (Err g))
    → (r ≡ q) × D r q
change_same (Ok x) (Ok y) D h a b = (refl, a x y)
change_same (Ok x) (Err g) D h a b = absurd cc
change_same (Err e) (Ok y) D h a b = absurd cc
change_same (Err e) (Err g) D h a b = (ap Err (refused_same e g (some_same (number e) (number g) h)), b e g)

module _ (s t s' t' : Contents) (k : Alike s t) where
  kept : s' ≡ s → t' ≡ t → Alike s' t'
  kept a b =
      let P : Contents → Type 0 = λ x. Alike x t' in
      let Q : Contents → Type 0 = λ x. Alike s x in
      subst P (sym a) (subst Q (sym b) k)

  searched_same : (q : ℕ) (r p : Option ℕ) → Searched s q r s' → Searched t q p t' → (r ≡ p) × Alike s' t'
  searched_same q r p x y = (
    x.answer ∙ k.finds q ∙ sym y.answer,
    record {
      finds = λ j. ap (λ xs. find xs j) x.rows ∙ k.finds j ∙ sym (ap (λ xs. find xs j) y.rows);
      held = ap length x.rows ∙ k.held ∙ sym (ap length y.rows);
      capacity = x.capacity ∙ k.capacity ∙ sym y.capacity;
      tally = x.tally ∙ ap bumped k.tally ∙ sym y.tally;
    },
  )

  added_same : (row : Row) → Added s row s' → Added t row t' → Alike s' t'
  added_same row x y =
      record {
        finds = λ q. x.finds q ∙ ap (λ o. cond (eqb q row.key) (Some row.result) o) (k.finds q) ∙ sym (y.finds q);
        held = omega (arith, x.held, y.held, k.held);
        capacity = x.capacity ∙ k.capacity ∙ sym y.capacity;
        tally = x.tally ∙ k.tally ∙ sym y.tally;
      }

  removed_same : (key : ℕ) → Removed s key s' → Removed t key t' → Alike s' t'
  removed_same key x y =
      record {
        finds = λ q. x.finds q ∙ ap (λ o. cond (eqb q key) None o) (k.finds q) ∙ sym (y.finds q);
        held = omega (arith, x.held, y.held, k.held);
        capacity = x.capacity ∙ k.capacity ∙ sym y.capacity;
        tally = x.tally ∙ k.tally ∙ sym y.tally;
      }

  written_same : (row : Row) (r p : Result (Unit {0}) StoreRefusal) → Written s row r s' → Written t row p t' → (r ≡ p) × Alike s' t'
  written_same row r p x y =
      let D : Result (Unit {0}) StoreRefusal → Result (Unit {0}) StoreRefusal → Type 0 =
      λ a b. MatchResult a (λ _. Added s row s') (λ _. s' ≡ s) → MatchResult b (λ _. Added t row t') (λ _. t' ≡ t) → Alike s' t' in
      let Q : Contents → Type 0 = λ x. find x.rows row.key ≡ None in
      let R : Contents → Type 0 = λ x. length x.rows < x.capacity in
      let h : refusal number r ≡ refusal number p =
      ask_same 40 (Q s) (Q t) (ask 41 (R s) accept) (ask 41 (R t) accept) (λ a. sym (k.finds row.key) ∙ a) (λ a. k.finds row.key ∙ a)
      (ask_same 41 (R s) (R t) accept accept (λ a. omega (arith, k.held, k.capacity)) (λ a. omega (arith, k.held, k.capacity)) accept_same)
      (refusal number r) (refusal number p) x.asked y.asked in
      let w = change_same r p D h (λ _ _ a b. added_same row a b) (λ _ _ a b. kept a b) in
      (w.0, w.1 x.effect y.effect)

  erased_same : (key : ℕ) (r p : Result (Unit {0}) StoreRefusal) → Erased s key r s' → Erased t key p t' → (r ≡ p) × Alike s' t'
  erased_same key r p x y =
      let D : Result (Unit {0}) StoreRefusal → Result (Unit {0}) StoreRefusal → Type 0 =
      λ a b. MatchResult a (λ _. Removed s key s') (λ _. s' ≡ s) → MatchResult b (λ _. Removed t key t') (λ _. t' ≡ t) → Alike s' t' in
      let Q : Contents → Type 0 = λ x. find x.rows key ≡ None → ⊥ in
      let h : refusal number r ≡ refusal number p =
      ask_same 42 (Q s) (Q t) accept accept (λ a b. a (k.finds key ∙ b)) (λ a b. a (sym (k.finds key) ∙ b)) accept_same
      (refusal number r) (refusal number p) x.asked y.asked in
      let w = change_same r p D h (λ _ _ a b. removed_same key a b) (λ _ _ a b. kept a b) in
      (w.0, w.1 x.effect y.effect)

  pub performed_same : (c : Call) (o p : Outcome) → Performed s c o s' → Performed t c p t' → (o ≡ p) × Alike s' t'
  performed_same (Search key) (Found r) (Found q) x y = let w = searched_same key r q x y in (ap Found w.0, w.1)
  performed_same (Search key) (Found r) (Changed q) x y = elim y [ ]
  performed_same (Search key) (Changed r) p x y = elim x [ ]
  performed_same (Write row) (Found r) p x y = elim x [ ]
  performed_same (Write row) (Changed r) (Found q) x y = elim y [ ]
  performed_same (Erase key) (Found r) p x y = elim x [ ]
  performed_same (Erase key) (Changed r) (Found q) x y = elim y [ ]
  performed_same (Write row) (Changed r) (Changed q) x y = let w = written_same row r q x y in (ap Changed w.0, w.1)
  performed_same (Erase key) (Changed r) (Changed q) x y = let w = erased_same key r q x y in (ap Changed w.0, w.1)

-- One call more is answered alike.
pub answered_more :
    (s t : Contents) (cs : List Call) (s1 t1 : Contents) (c : Call) (o p : Outcome) (s2 t2 : Contents)
    → AnsweredAlike s t cs s1 t1 → Performed s1 c o s2 → Performed t1 c p t2 → o ≡ p → AnsweredAlike s t (cs ++ c ∷ []) s2 t2
answered_more s t [] s1 t1 c o p s2 t2 k x y e =
    let P : Contents → Type 0 = λ z. Performed z c o s2 in
    let Q : Contents → Type 0 = λ z. Performed z c o t2 in
    let R : Outcome → Type 0 = λ z. Performed t1 c z t2 in
    (o, s2, t2, subst P k.0 x, subst Q k.1 (subst R (sym e) y), (refl, refl))
answered_more s t (d ∷ cs) s1 t1 c o p s2 t2 k x y e = (k.0, k.1, k.2, k.3, k.4, answered_more k.1 k.2 cs s1 t1 c o p s2 t2 k.5 x y e)
