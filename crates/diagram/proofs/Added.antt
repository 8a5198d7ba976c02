-- A run added to the edges of a node.
use Rattle.std.proofs.Common.{◌≡◌, ℕ, suc, ◌+◌, ◌-◌, ◌^◌, ◌<◌, ◌≤◌, Bool, true, false, eqb, ◌≢◌, ◌⊎◌, List, [], ◌∷◌, ◌++◌, length, get_or, drop, Some, Option, sym, refl, ap, ◌∙◌, subst, inl, inr, append_assoc, arith, length-append, length-drop, pow_pos}
use Rattle.diagram.specs.declared.edges.Edge.{Edge}
use Rattle.std.proofs.lemmas.Bool.{cases_order, cases_lt, cases_eq, eqb-true, eqb-false}
use Rattle.diagram.specs.Diagrams.{Node, Diagram, next, walk, Runs, Header}
use Rattle.diagram.specs.States.{nodes, Means, Grows}
use Rattle.diagram.specs.Drafts.{added, Partial}
use Rattle.diagram.proofs.Unique.{next_first, next_later, runs_top}
use Rattle.diagram.proofs.Steps.{Made}

-- the last edge, by whether it leads to the same place
last_case : Bool → Edge → ℕ → ℕ → Node
last_case true e hi t = record { high = hi; to = e.to } ∷ []
last_case false e hi t = e ∷ (record { high = hi; to = t } ∷ [])

added_head : (f : Edge) (es : Node) (hi t : ℕ) → (g : Edge) × (gs : Node) × (added (f ∷ es) hi t ≡ g ∷ gs) × (g.to ≡ f.to)
added_head f [] hi t = go (eqb f.to t) refl
  where
    go : (b : Bool) → eqb f.to t ≡ b → (g : Edge) × (gs : Node) × (added (f ∷ []) hi t ≡ g ∷ gs) × (g.to ≡ f.to)
    go true q = (record { high = hi; to = f.to }, [], rw (q, added) refl, refl)
    go false q = (f, record { high = hi; to = t } ∷ [], rw (q, added) refl, refl)
added_head f (e ∷ es) hi t = (f, added (e ∷ es) hi t, refl, refl)

runs_cons : (top lo : ℕ) (e : Edge) (x : Node) (g : Edge) (gs : Node) → x ≡ g ∷ gs → lo ≤ e.high → e.to ≢ g.to
    → Runs top (e.high + 1) x → Runs top lo (e ∷ x)
runs_cons top lo e x g gs q l n r =
    subst (λ (z : Node). Runs top lo (e ∷ z)) (sym q) (l, n, subst (λ (z : Node). Runs top (e.high + 1) z) q r)

pub added_runs : (top lo hi t : ℕ) (es : Node) → Runs top lo es → top < hi → Runs hi lo (added es hi t)
added_runs top lo hi t [] r l = absurd r
added_runs top lo hi t (e ∷ []) r l = go (eqb e.to t) refl
  where
    go : (b : Bool) → eqb e.to t ≡ b → Runs hi lo (added (e ∷ []) hi t)
    go true q = rw (q, added) (omega arith, refl)
    go false q = rw (q, added) (r.0, eqb-false e.to t q, (omega arith, refl))
added_runs top lo hi t (e ∷ (f ∷ es)) r l =
    let h = added_head f es hi t in
    runs_cons hi lo e (added (f ∷ es) hi t) h.0 h.1 h.2 r.0 (λ q. r.1 (q ∙ h.3))
    (added_runs top (e.high + 1) hi t (f ∷ es) r.2 l)

pub added_old : (top lo hi t : ℕ) (es : Node) → Runs top lo es → top < hi → (x : ℕ) → x ≤ top → next (added es hi t) x ≡ next es x
added_old top lo hi t [] r l x m = absurd r
added_old top lo hi t (e ∷ []) r l x m = go (eqb e.to t) refl
  where
    go : (b : Bool) → eqb e.to t ≡ b → next (added (e ∷ []) hi t) x ≡ next (e ∷ []) x
    go true q = rw (q, added) (next_first (record { high = hi; to = e.to }) [] x (omega arith) ∙ sym (next_first e [] x (omega arith)))
    go false q = rw (q, added) (next_first e (record { high = hi; to = t } ∷ []) x (omega arith) ∙ sym (next_first e [] x (omega arith)))
added_old top lo hi t (e ∷ (f ∷ es)) r l x m =
    elim (cases_lt e.high x) [
      | inl n ↦ next_later e (added (f ∷ es) hi t) x n ∙ added_old top (e.high + 1) hi t (f ∷ es) r.2 l x m ∙ sym (next_later e (f ∷ es) x n)
      | inr n ↦ next_first e (added (f ∷ es) hi t) x n ∙ sym (next_first e (f ∷ es) x n)
    ]

pub added_new : (top lo hi t : ℕ) (es : Node) → Runs top lo es → (x : ℕ) → top < x → x ≤ hi → next (added es hi t) x ≡ t
added_new top lo hi t [] r x l m = absurd r
added_new top lo hi t (e ∷ []) r x l m = go (eqb e.to t) refl
  where
    go : (b : Bool) → eqb e.to t ≡ b → next (added (e ∷ []) hi t) x ≡ t
    go true q = rw (q, added) (next_first (record { high = hi; to = e.to }) [] x m ∙ eqb-true e.to t q)
    go false q = rw (q, added) (next_later e (record { high = hi; to = t } ∷ []) x (omega arith) ∙ next_first (record { high = hi; to = t }) [] x m)
added_new top lo hi t (e ∷ (f ∷ es)) r x l m =
    let n : e.high + 1 ≤ top = runs_top top (e.high + 1) (f ∷ es) r.2 in
    next_later e (added (f ∷ es) hi t) x (omega arith) ∙ added_new top (e.high + 1) hi t (f ∷ es) r.2 x l m

pub added_same : (xs : Node) (e : Edge) (hi t : ℕ) → e.to ≡ t → added (xs ++ e ∷ []) hi t ≡ xs ++ record { high = hi; to = e.to } ∷ []
added_same [] e hi t q = let b : eqb e.to t ≡ true = Rattle.std.proofs.lemmas.Bool.eq-eqb e.to t q in rw (b, added) refl
added_same (x ∷ []) e hi t q = ap (λ (z : Node). x ∷ z) (added_same [] e hi t q)
added_same (x ∷ (y ∷ xs)) e hi t q = ap (λ (z : Node). x ∷ z) (added_same (y ∷ xs) e hi t q)

pub added_other : (xs : Node) (e : Edge) (hi t : ℕ) → (e.to ≡ t → ⊥) → added (xs ++ e ∷ []) hi t ≡ (xs ++ e ∷ []) ++ record { high = hi; to = t } ∷ []
added_other [] e hi t q = let b : eqb e.to t ≡ false = Rattle.std.proofs.lemmas.Bool.ne_eqb e.to t q in rw (b, added) refl
added_other (x ∷ []) e hi t q = ap (λ (z : Node). x ∷ z) (added_other [] e hi t q)
added_other (x ∷ (y ∷ xs)) e hi t q = ap (λ (z : Node). x ∷ z) (added_other (y ∷ xs) e hi t q)

-- one more range of values
pub partial_step : (ws : List ℕ) (d : List ℕ → Option ℕ) (D E : Diagram) (p : List ℕ) (low high t : ℕ) (node : Node)
    → Partial ws d D p low node → Grows ws D E → length p < length ws → low ≤ high
    → ((y : ℕ) → low ≤ y → y ≤ high → (h : List ℕ) → Header (drop (suc (length p)) ws) h → d (p ++ y ∷ h) ≡ d (p ++ low ∷ h))
    → Means ws d E t (p ++ low ∷ []) → (suc (length p) < length ws → t < nodes E (suc (length p)))
    → Partial ws d E p (suc high) (added node high t)
partial_step ws d D E p low high t node P G lp lh same m there =
    record {
      none = λ q. absurd (omega arith);
      runs = λ top q. runs' (cases_eq low 0) top (omega arith);
      inside = λ x l lx. inside' x l lx (cases_lt x low);
      decides = λ x h lx c. decides' x h c lx (cases_lt x low);
    }
  where
    len : length (p ++ low ∷ []) ≡ suc (length p)
    len = length-append p (low ∷ []) ∙ (omega arith)

    runs' : (low ≡ 0) ⊎ (low ≡ 0 → ⊥) → (top : ℕ) → top ≡ high → Runs top 0 (added node high t)
    runs' (inl z) top q = subst (λ (n : Node). Runs top 0 (added n high t)) (sym (P.none z)) (omega arith, sym q)
    runs' (inr n) top q = subst (λ k. Runs k 0 (added node high t)) (sym q) (added_runs (low - 1) 0 high t node (P.runs (low - 1) (omega arith)) (omega arith))

    old : (x : ℕ) → x < low → next (added node high t) x ≡ next node x
    old x l = added_old (low - 1) 0 high t node (P.runs (low - 1) (omega arith)) (omega arith) x (omega arith)

    new : (low ≡ 0) ⊎ (low ≡ 0 → ⊥) → (x : ℕ) → low ≤ x → x ≤ high → next (added node high t) x ≡ t
    new (inl z) x l k = ap (λ (n : Node). next (added n high t) x) (P.none z) ∙ next_first (record { high = high; to = t }) [] x k
    new (inr n) x l k = added_new (low - 1) 0 high t node (P.runs (low - 1) (omega arith)) x (omega arith) k

    inside' : (x : ℕ) → suc (length p) < length ws → x < suc high → (x < low) ⊎ (low ≤ x) → next (added node high t) x < nodes E (suc (length p))
    inside' x l lx (inl a) = subst (λ n. n < nodes E (suc (length p))) (sym (old x a)) (omega (arith, P.inside x l a, G.more (suc (length p))))
    inside' x l lx (inr a) = subst (λ n. n < nodes E (suc (length p))) (sym (new (cases_eq low 0) x a (omega arith))) (there l)

    keep : (j : ℕ) (h : List ℕ) → (suc (length p) < length ws → j < nodes D (suc (length p))) → Header (drop (suc (length p)) ws) h
        → walk (drop (suc (length p)) D) j h ≡ walk (drop (suc (length p)) E) j h
    keep j [] l c = refl
    keep j (y ∷ h) l c =
        let n : suc (length h) ≡ length ws - suc (length p) = c.1 ∙ length-drop (suc (length p)) ws in
        sym (G.same (suc (length p)) j (l (omega arith)) (y ∷ h) c.0)

    decides' : (x : ℕ) (h : List ℕ) → Header (drop (suc (length p)) ws) h → x < suc high → (x < low) ⊎ (low ≤ x)
        → d (p ++ x ∷ h) ≡ Some (walk (drop (suc (length p)) E) (next (added node high t) x) h)
    decides' x h c lx (inl a) =
        P.decides x h a c ∙ ap Some (keep (next node x) h (λ l. P.inside x l a) c)
        ∙ ap (λ j. Some (walk (drop (suc (length p)) E) j h)) (sym (old x a))
    decides' x h c lx (inr a) =
        same x a (omega arith) h c ∙ sym (ap d (append_assoc p (low ∷ []) h))
        ∙ m h (subst (λ n. Header (drop n ws) h) (sym len) c)
        ∙ ap (λ n. Some (walk (drop n E) t h)) len
        ∙ ap (λ j. Some (walk (drop (suc (length p)) E) j h)) (sym (new (cases_eq low 0) x a (omega arith)))

-- all values of the field are there
pub partial_made : (ws : List ℕ) (d : List ℕ → Option ℕ) (D : Diagram) (p : List ℕ) (low : ℕ) (node : Node)
    → Partial ws d D p low node → low ≡ 2 ^ get_or ws (length p) 0 → Made ws d D p node
partial_made ws d D p low node P e =
    record {
      runs = P.runs (2 ^ get_or ws (length p) 0 - 1) (omega (arith, pow_pos (get_or ws (length p) 0)));
      inside = λ x l lx. P.inside x l (omega arith);
      decides = λ x h lx c. P.decides x h (omega arith) c;
    }

pub partial_none : (ws : List ℕ) (d : List ℕ → Option ℕ) (D : Diagram) (p : List ℕ) → Partial ws d D p 0 []
partial_none ws d D p =
    record { none = λ _. refl; runs = λ top q. absurd (omega arith); inside = λ x l lx. absurd (omega arith); decides = λ x h lx c. absurd (omega arith) }
