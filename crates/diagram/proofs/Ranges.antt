-- A range of values that decide alike is done at once; and when all strings are done, the diagram is reduced.
use Rattle.std.proofs.Common.{◌≡◌, ℕ, zero, suc, ◌+◌, ◌-◌, ◌^◌, ◌<◌, ◌≤◌, ◌⊎◌, List, [], ◌∷◌, ◌++◌, length, get_or, drop, Some, Option, sym, refl, ap, ◌∙◌, subst, inl, inr, append_assoc, arith, length-append, length-drop}
use Rattle.std.proofs.lemmas.Bool.{cases_lt, cases_eq}
use Rattle.std.proofs.lemmas.List.{append-nil}
use Rattle.diagram.specs.Diagrams.{Diagram, next, walk, Begins, Header, Before, Reduced}
use Rattle.diagram.specs.States.{nodes, Means, State, Upto}
use Rattle.diagram.proofs.Steady.{walk_step, header_cons, means_one, some_same}
use Rattle.diagram.proofs.Strings.{before_append, before_split, before_lower, before_raise, begins_parts, begins_join, begins_short, begins_value, begins_change}

pub state_iff : (ws : List ℕ) (d : List ℕ → Option ℕ) (D : Diagram) (P Q : List ℕ → Type 0)
    → ((q : List ℕ) → Begins ws q → length q < length ws → P q → Q q)
    → ((q : List ℕ) → Begins ws q → length q < length ws → Q q → P q) → State ws d D P → State ws d D Q
state_iff ws d D P Q to back S =
    record {
      levels = S.levels;
      has = λ q b l o. S.has q b l (back q b l o);
      from = λ g k l m. let u = S.from g k l m in (u.0, u.1, u.2, to u.0 u.1 (omega (arith, u.2)) u.3, u.4);
      order = λ q k b l o lk mk j lj. let u = S.order q k b l (back q b l o) lk mk j lj in (u.0, u.1, u.2, to u.0 u.1 (omega (arith, u.2)) u.3, u.4, u.5);
      apart = S.apart;
      runs = S.runs;
      closed = S.closed;
    }

begins_tail : (ws : List ℕ) (g y : ℕ) (t : List ℕ) → Begins (drop g ws) (y ∷ t) → Begins (drop (suc g) ws) t
begins_tail [] zero y t b = absurd b
begins_tail [] (suc g) y t b = absurd b
begins_tail (w ∷ ws) zero y t b = b.1
begins_tail (w ∷ ws) (suc g) y t b = begins_tail ws g y t b

same_length : (p s : List ℕ) (x y : ℕ) → length (p ++ x ∷ s) ≡ length (p ++ y ∷ s)
same_length p s x y = length-append p (x ∷ s) ∙ sym (length-append p (y ∷ s))

-- what follows p and a value, given what follows a longer string
follow : (ws p s h : List ℕ) (y : ℕ) → Begins ws (p ++ y ∷ s) → Header (drop (length (p ++ y ∷ s)) ws) h
    → Header (drop (suc (length p)) ws) (s ++ h)
follow ws p s h y b c =
    let j : Begins ws ((p ++ y ∷ s) ++ h) = begins_join ws (p ++ y ∷ s) h b c.0 in
    let k : Begins ws (p ++ (y ∷ (s ++ h))) = subst (λ (z : List ℕ). Begins ws z) (append_assoc p (y ∷ s) h) j in
    let l : length (p ++ y ∷ s) ≤ length ws = begins_short ws (p ++ y ∷ s) b in
    let e : length (p ++ y ∷ s) ≡ length p + suc (length s) = length-append p (y ∷ s) in
    let n : length h ≡ length ws - length (p ++ y ∷ s) = c.1 ∙ length-drop (length (p ++ y ∷ s)) ws in (
      begins_tail ws (length p) y (s ++ h) (begins_parts ws p (y ∷ (s ++ h)) k).1,
      length-append s h ∙ (omega arith) ∙ sym (length-drop (suc (length p)) ws),
    )

move : (ws : List ℕ) (d : List ℕ → Option ℕ) (D : Diagram) (p s : List ℕ) (x y k : ℕ)
    → ((h : List ℕ) → Header (drop (suc (length p)) ws) h → d (p ++ y ∷ h) ≡ d (p ++ x ∷ h))
    → Begins ws (p ++ y ∷ s) → Means ws d D k (p ++ x ∷ s) → Means ws d D k (p ++ y ∷ s)
move ws d D p s x y k same b m h c =
    let e : length (p ++ y ∷ s) ≡ length (p ++ x ∷ s) = same_length p s y x in
    let c2 : Header (drop (length (p ++ x ∷ s)) ws) h = subst (λ n. Header (drop n ws) h) e c in
    ap d (append_assoc p (y ∷ s) h) ∙ same (s ++ h) (follow ws p s h y b c) ∙ sym (ap d (append_assoc p (x ∷ s) h))
    ∙ m h c2 ∙ ap (λ n. Some (walk (drop n D) k h)) (sym e)

pub range_step : (ws : List ℕ) (d : List ℕ → Option ℕ) (D : Diagram) (p : List ℕ) (x c : ℕ) → x ≤ c → c < 2 ^ get_or ws (length p) 0
    → ((y : ℕ) → x ≤ y → y ≤ c → (h : List ℕ) → Header (drop (suc (length p)) ws) h → d (p ++ y ∷ h) ≡ d (p ++ x ∷ h))
    → State ws d D (Upto (p ++ x ∷ [])) → State ws d D (λ q. Before q (p ++ suc c ∷ []))
range_step ws d D p x c lc fc same S =
    record {
      levels = S.levels;
      has = has';
      from = λ g k l m. let u = S.from g k l m in (u.0, u.1, u.2, widen u.0 u.3, u.4);
      order = order';
      apart = S.apart;
      runs = S.runs;
      closed = S.closed;
    }
  where
    widen : (q : List ℕ) → Upto (p ++ x ∷ []) q → Before q (p ++ suc c ∷ [])
    widen q o = elim o [
      | inl b ↦ before_raise q p x (suc c) [] b (omega arith)
      | inr e ↦ subst (λ (q : List ℕ). Before q (p ++ suc c ∷ [])) (sym (e.1 ∙ append_assoc p (x ∷ []) e.0)) (before_lower p x (suc c) e.0 [] (omega arith))
    ]

    Moved : List ℕ → Type 0
    Moved q = (y : ℕ) × (s : List ℕ) × (q ≡ p ++ y ∷ s) × (x ≤ y) × (y ≤ c)

    kind : (q : List ℕ) → Before q (p ++ suc c ∷ []) → Upto (p ++ x ∷ []) q ⊎ ((y : ℕ) × (s : List ℕ) × (q ≡ p ++ y ∷ s) × (x ≤ y) × (y ≤ c))
    kind q b = elim (before_split q p (suc c) b) [
      | inl e ↦ inl (inl (before_append q p (x ∷ []) e))
      | inr t ↦ elim (cases_lt t.0 x) [
        | inl l ↦ inl (inl (subst (λ (q : List ℕ). Before q (p ++ x ∷ [])) (sym t.2) (before_lower p t.0 x t.1 [] l)))
        | inr l ↦ inr (t.0, t.1, t.2, l, omega (arith, t.3))
      ]
    ]

    there : (s : List ℕ) → Upto (p ++ x ∷ []) (p ++ x ∷ s)
    there s = inr (s, sym (append_assoc p (x ∷ []) s))

    has' : (q : List ℕ) → Begins ws q → length q < length ws → Before q (p ++ suc c ∷ [])
        → (k : ℕ) × (k < nodes D (length q)) × Means ws d D k q
    has' q b l o = elim (kind q o) [
      | inl u ↦ S.has q b l u
      | inr t ↦
          let b2 : Begins ws (p ++ t.0 ∷ t.1) = subst (λ (q : List ℕ). Begins ws q) t.2 b in
          let b3 : Begins ws (p ++ x ∷ t.1) = begins_change ws p t.0 x t.1 b2 (omega arith) in
          let e : length (p ++ x ∷ t.1) ≡ length q = same_length p t.1 x t.0 ∙ sym (ap length t.2) in
          let u = S.has (p ++ x ∷ t.1) b3 (omega arith) (there t.1) in (
            u.0,
            subst (λ n. u.0 < nodes D n) e u.1,
            subst (λ (q : List ℕ). Means ws d D u.0 q) (sym t.2) (move ws d D p t.1 x t.0 u.0 (same t.0 t.3 t.4) b2 u.2),
          )
    ]

    order' : (q : List ℕ) (k : ℕ) → Begins ws q → length q < length ws → Before q (p ++ suc c ∷ []) → k < nodes D (length q)
        → Means ws d D k q → (j : ℕ) → j < k
        → (r : List ℕ) × Begins ws r × (length r ≡ length q) × Before r (p ++ suc c ∷ []) × Before r q × Means ws d D j r
    order' q k b l o lk mk j lj = elim (kind q o) [
      | inl u ↦ let v = S.order q k b l u lk mk j lj in (v.0, v.1, v.2, widen v.0 v.3, v.4, v.5)
      | inr t ↦
          let b2 : Begins ws (p ++ t.0 ∷ t.1) = subst (λ (q : List ℕ). Begins ws q) t.2 b in
          let b3 : Begins ws (p ++ x ∷ t.1) = begins_change ws p t.0 x t.1 b2 (omega arith) in
          let e : length (p ++ x ∷ t.1) ≡ length q = same_length p t.1 x t.0 ∙ sym (ap length t.2) in
          let mk2 : Means ws d D k (p ++ x ∷ t.1)
          = move ws d D p t.1 t.0 x k (λ h c. sym (same t.0 t.3 t.4 h c)) b3
          (subst (λ (q : List ℕ). Means ws d D k q) t.2 mk) in
          let v = S.order (p ++ x ∷ t.1) k b3 (omega arith) (there t.1) (subst (λ n. k < nodes D n) (sym e) lk) mk2 j lj in (
            v.0,
            v.1,
            v.2 ∙ e,
            widen v.0 v.3,
            subst (λ (q : List ℕ). Before v.0 q) (sym t.2) (before_raise v.0 p x t.0 t.1 v.4 t.3),
            v.5,
          )
    ]

-- where a longer string leads
pub lead : (ws : List ℕ) (d : List ℕ → Option ℕ) (D : Diagram) (P : List ℕ → Type 0) → State ws d D P
    → (p : List ℕ) (k : ℕ) → k < nodes D (length p) → Means ws d D k p
    → (t : List ℕ) → Begins ws (p ++ t) → length (p ++ t) < length ws
    → (walk (drop (length p) D) k t < nodes D (length (p ++ t))) × Means ws d D (walk (drop (length p) D) k t) (p ++ t)
lead ws d D P S p k l m [] b lt =
    subst (λ (q : List ℕ). (k < nodes D (length q)) × Means ws d D k q) (sym (append-nil p)) (l, m)
lead ws d D P S p k l m (x ∷ t) b lt =
    let e : (p ++ x ∷ []) ++ t ≡ p ++ x ∷ t = append_assoc p (x ∷ []) t in
    let n : length (p ++ x ∷ []) ≡ suc (length p) = length-append p (x ∷ []) ∙ (omega arith) in
    let q : length (p ++ x ∷ t) ≡ length p + suc (length t) = length-append p (x ∷ t) in
    let fx : x < 2 ^ get_or ws (length p) 0 = begins_value ws p x t b in
    let l_d : length p < length D = omega (arith, S.levels) in
    let j : ℕ = next (get_or (get_or D (length p) []) k []) x in
    let m2 : Means ws d D (next (get_or (get_or D (length p) []) k []) x) (p ++ x ∷ [])
    = λ h c.
    let c2 : Header (drop (suc (length p)) ws) h = subst (λ i. Header (drop i ws) h) n c in
    ap d (append_assoc p (x ∷ []) h) ∙ m (x ∷ h) (header_cons ws (length p) x h (omega arith) fx c2)
    ∙ ap Some (walk_step D (length p) k x h l_d)
    ∙ ap (λ i. Some (walk (drop i D) (next (get_or (get_or D (length p) []) k []) x) h)) (sym n) in
    let l2 : next (get_or (get_or D (length p) []) k []) x < nodes D (length (p ++ x ∷ []))
    = subst (λ i. next (get_or (get_or D (length p) []) k []) x < nodes D i) (sym n) (S.closed (length p) k x (omega (arith, S.levels)) l fx) in
    let u = lead ws d D P S (p ++ x ∷ []) (next (get_or (get_or D (length p) []) k []) x) l2 m2 t
    (subst (λ (z : List ℕ). Begins ws z) (sym e) b) (subst (λ (z : List ℕ). length z < length ws) (sym e) lt) in
    let v : walk (drop (length (p ++ x ∷ [])) D) (next (get_or (get_or D (length p) []) k []) x) t ≡ walk (drop (length p) D) k (x ∷ t)
    = ap (λ i. walk (drop i D) (next (get_or (get_or D (length p) []) k []) x) t) n ∙ sym (walk_step D (length p) k x t l_d) in
    subst (λ (z : List ℕ). (walk (drop (length p) D) k (x ∷ t) < nodes D (length z)) × Means ws d D (walk (drop (length p) D) k (x ∷ t)) z) e
    (subst (λ i. (i < nodes D (length ((p ++ x ∷ []) ++ t))) × Means ws d D i ((p ++ x ∷ []) ++ t)) v u)

-- When all strings are done, the diagram is reduced.
pub reduced : (ws : List ℕ) (d : List ℕ → Option ℕ) (D : Diagram) → 0 < length ws → State ws d D (Upto []) → Reduced ws d D
reduced ws d D pos S =
    record {
      levels = S.levels;
      decides = λ h c. start.2 h c;
      one = λ p q bp bq e l same.
          let ip = at p bp l in
          let iq = at q bq (omega arith) in
          S.apart (length p) (walk D 0 p) (walk D 0 q) l ip.0 (subst (λ n. walk D 0 q < nodes D n) (sym e) iq.0)
          (λ h c. some_same _ _ (sym (ip.1 h c)
          ∙ same h (begins_join ws p h bp c.0, length-append p h ∙ (omega (arith, c.1, length-drop (length p) ws)))
          ∙ iq.1 h (subst (λ n. Header (drop n ws) h) e c)
          ∙ ap (λ n. Some (walk (drop n D) (walk D 0 q) h)) (sym e)));
      within = λ p b l. (at p b l).0;
      led = λ f k l m.
          let u = S.from f k l m in
          let lu : length u.0 < length ws = omega (arith, u.2) in
          let i = at u.0 u.1 lu in
          (u.0, u.1, u.2, means_one ws d D S.apart u.0 (walk D 0 u.0) k lu i.0 (subst (λ n. k < nodes D n) (sym u.2) m) i.1 u.4);
      order = λ p b l j lj.
          let i = at p b l in
          let u = S.order p (walk D 0 p) b l (inr (p, refl)) i.0 i.1 j lj in
          let lu : length u.0 < length ws = omega (arith, u.2) in
          let k = at u.0 u.1 lu in
          (u.0, u.1, u.2, u.4, means_one ws d D S.apart u.0 (walk D 0 u.0) j lu k.0 (subst (λ n. j < nodes D n) (sym u.2) (omega (arith, i.0))) k.1 u.5);
      edges = S.runs;
    }
  where
    root : (k : ℕ) × (k < nodes D 0) × Means ws d D k []
    root = S.has [] tt pos (inr ([], refl))

    least : root.0 ≡ 0
    least = elim (cases_eq root.0 0) [
      | inl e ↦ e
      | inr n ↦ absurd (S.order [] root.0 tt pos (inr ([], refl)) root.1 root.2 0 (omega arith)).4
    ]

    start : (◌≡◌ {A = ℕ} 0 0) × (0 < nodes D 0) × Means ws d D 0 []
    start = (refl, subst (λ k. k < nodes D 0) least root.1, subst (λ k. Means ws d D k []) least root.2)

    at : (p : List ℕ) → Begins ws p → length p < length ws → (walk D 0 p < nodes D (length p)) × Means ws d D (walk D 0 p) p
    at p b l = lead ws d D (Upto []) S [] 0 start.1 start.2 p b l
