-- The steps of building: a node is shared, a node is added, a range of values is done.
use Rattle.std.proofs.Common.{◌≡◌, ℕ, suc, ◌-◌, ◌^◌, ◌<◌, ◌≤◌, ◌≢◌, ◌⊎◌, List, [], ◌∷◌, ◌++◌, length, get_or, drop, Some, Option, sym, refl, ap, ◌∙◌, subst, inl, inr, arith}
use Rattle.std.proofs.lemmas.Bool.{cases_lt, cases_eq}
use Rattle.std.proofs.lemmas.List.{drop-set-lt, length-set}
use Rattle.diagram.specs.Diagrams.{Node, Diagram, next, walk, Runs, Begins, Header, Before}
use Rattle.diagram.specs.States.{nodes, Means, Closed, Apart, State, append1, Grows}
use Rattle.diagram.proofs.Steady.{walk_step, header_step, header_cons, header_end, nodes_here, nodes_other, node_same, node_new, append_grows, means_grows, means_one, some_same}
use Rattle.diagram.proofs.Unique.{runs_unique}

-- What is known of the edges of a node that is being made, for the string p.
pub record Made (ws : List ℕ) (d : List ℕ → Option ℕ) (D : Diagram) (p : List ℕ) (node : Node) : Type 0 where
  pub runs : Runs (2 ^ get_or ws (length p) 0 - 1) 0 node
  pub inside : (x : ℕ) → suc (length p) < length ws → x < 2 ^ get_or ws (length p) 0 → next node x < nodes D (suc (length p))
  pub decides : (x : ℕ) (h : List ℕ) → x < 2 ^ get_or ws (length p) 0 → Header (drop (suc (length p)) ws) h
      → d (p ++ x ∷ h) ≡ Some (walk (drop (suc (length p)) D) (next node x) h)

-- A node with those edges decides as the fields after p do.
pub made_means : (ws : List ℕ) (d : List ℕ → Option ℕ) (D E : Diagram) (p : List ℕ) (node : Node) (k : ℕ)
    → Made ws d D p node → length p < length ws → length p < length E → get_or (get_or E (length p) []) k [] ≡ node
    → drop (suc (length p)) E ≡ drop (suc (length p)) D → Means ws d E k p
made_means ws d D E p node k M l l_e e r h c =
    let t = header_step ws (length p) h l c in
    let a : d (p ++ t.0 ∷ t.1) ≡ Some (walk (drop (suc (length p)) D) (next node t.0) t.1) = M.decides t.0 t.1 t.3 t.4 in
    let b : walk (drop (length p) E) k (t.0 ∷ t.1) ≡ walk (drop (suc (length p)) D) (next node t.0) t.1
    = walk_step E (length p) k t.0 t.1 l_e
    ∙ ap (λ (n : Node). walk (drop (suc (length p)) E) (next n t.0) t.1) e
    ∙ ap (λ (F : Diagram). walk F (next node t.0) t.1) r in
    subst (λ (z : List ℕ). d (p ++ z) ≡ Some (walk (drop (length p) E) k z)) (sym t.2) (a ∙ ap Some (sym b))

-- The same edges shown from the meaning: a node that decides as the made one has its edges.
pub made_same : (ws : List ℕ) (d : List ℕ → Option ℕ) (D : Diagram) (Done : List ℕ → Type 0) (S : State ws d D Done)
    (p : List ℕ) (node : Node) (k : ℕ) → Made ws d D p node → length p < length ws → k < nodes D (length p)
    → Means ws d D k p → get_or (get_or D (length p) []) k [] ≡ node
made_same ws d D Done S p node k M l lk m =
    let f : ℕ = length p in
    runs_unique (2 ^ get_or ws f 0 - 1) 0 (get_or (get_or D f []) k []) node (S.runs f k l lk) M.runs
    (λ x lo hi.
    let fx : x < 2 ^ get_or ws f 0 = omega (arith, lib.Pow.pow_pos (get_or ws f 0)) in
    let same : (h : List ℕ) → Header (drop (suc f) ws) h
    → walk (drop (suc f) D) (next (get_or (get_or D f []) k []) x) h ≡ walk (drop (suc f) D) (next node x) h
    = λ h c. some_same _ _
    (ap Some (sym (walk_step D f k x h (omega (arith, S.levels))))
    ∙ sym (m (x ∷ h) (header_cons ws f x h l fx c)) ∙ M.decides x h fx c) in
    elim (cases_lt (suc f) (length ws)) [
      | inl n ↦ S.apart (suc f) (next (get_or (get_or D f []) k []) x) (next node x) n
          (S.closed f k x (omega (arith, S.levels)) lk fx) (M.inside x n fx) same
      | inr n ↦ same [] (header_end ws (suc f) n)
    ])

-- a string is done when its node is there already
pub share_step : (ws : List ℕ) (d : List ℕ → Option ℕ) (D : Diagram) (Done : List ℕ → Type 0) → State ws d D Done
    → (p : List ℕ) → Begins ws p → length p < length ws
    → ((r : List ℕ) → length r ≡ length p → Done r → Before r p)
    → (k : ℕ) → k < nodes D (length p) → Means ws d D k p
    → State ws d D (λ q. Done q ⊎ (q ≡ p))
share_step ws d D Done S p bp lp before k lk mk =
    record {
      levels = S.levels;
      has = λ q b l o. elim o [
        | inl t ↦ S.has q b l t
        | inr e ↦ (k, subst (λ (q : List ℕ). k < nodes D (length q)) (sym e) lk, subst (λ (q : List ℕ). Means ws d D k q) (sym e) mk)
      ];
      from = λ g j l m. let t = S.from g j l m in (t.0, t.1, t.2, inl t.3, t.4);
      order = λ q i b l o li mi j lj. elim o [
        | inl t ↦ let u = S.order q i b l t li mi j lj in (u.0, u.1, u.2, inl u.3, u.4, u.5)
        | inr e ↦
            let u = S.from (length q) j l (omega arith) in (
              u.0,
              u.1,
              u.2,
              inl u.3,
              subst (λ (q : List ℕ). Before u.0 q) (sym e) (before u.0 (u.2 ∙ ap length e) u.3),
              u.4,
            )
      ];
      apart = S.apart;
      runs = S.runs;
      closed = S.closed;
    }

-- a string is done by a further node
pub append_step : (ws : List ℕ) (d : List ℕ → Option ℕ) (D : Diagram) (Done : List ℕ → Type 0) → State ws d D Done
    → (p : List ℕ) → Begins ws p → length p < length ws
    → ((r : List ℕ) → length r ≡ length p → Done r → Before r p)
    → (node : Node) → Made ws d D p node
    → ((k : ℕ) → k < nodes D (length p) → get_or (get_or D (length p) []) k [] ≢ node)
    → State ws d (append1 D (length p) node) (λ q. Done q ⊎ (q ≡ p)) × Means ws d (append1 D (length p) node) (nodes D (length p)) p
append_step ws d D Done S p bp lp before node M fresh = (
  record {
    levels = length-set D (length p) (get_or D (length p) [] ++ node ∷ []) ∙ S.levels;
    has = has';
    from = from';
    order = order';
    apart = apart';
    runs = runs';
    closed = closed';
  },
  new,
)
  where
    f : ℕ
    f = length p

    E : Diagram
    E = append1 D (length p) node

    l_d : length p < length D
    l_d = omega (arith, S.levels)

    G : Grows ws D (append1 D (length p) node)
    G = append_grows ws D (length p) node l_d S.closed

    rest : drop (suc (length p)) (append1 D (length p) node) ≡ drop (suc (length p)) D
    rest = drop-set-lt (suc (length p)) D (length p) (get_or D (length p) [] ++ node ∷ []) (omega arith)

    new : Means ws d (append1 D (length p) node) (nodes D (length p)) p
    new = made_means ws d D (append1 D (length p) node) p node (nodes D (length p)) M lp
        (subst (λ n. length p < n) (sym (length-set D (length p) (get_or D (length p) [] ++ node ∷ []))) l_d)
        (node_new D (length p) node l_d) rest

    -- a node of the longer diagram is an old one or the new one
    either : (g k : ℕ) → k < nodes (append1 D (length p) node) g → (k < nodes D g) ⊎ ((g ≡ length p) × (k ≡ nodes D (length p)))
    either g k l =
        elim (cases_lt k (nodes D g)) [
          | inl m ↦ inl m
          | inr m ↦ elim (cases_eq g (length p)) [
            | inl e ↦
                let l2 : k < nodes (append1 D (length p) node) (length p) = subst (λ g. k < nodes (append1 D (length p) node) g) e l in
                let m2 : nodes D (length p) ≤ k = subst (λ g. nodes D g ≤ k) e m in
                inr (e, omega (arith, nodes_here D (length p) node l_d))
            | inr n ↦ absurd (omega (arith, nodes_other D (length p) node g n))
          ]
        ]

    -- an old node and the new one differ
    differ : (k : ℕ) → k < nodes D (length p)
        → ((h : List ℕ) → Header (drop (length p) ws) h → walk (drop (length p) (append1 D (length p) node)) k h ≡ walk (drop (length p) (append1 D (length p) node)) (nodes D (length p)) h) → ⊥
    differ k l same =
        let m : Means ws d D k p = λ h c. new h c ∙ ap Some (sym (same h c) ∙ G.same (length p) k l h c.0) in
        fresh k l (made_same ws d D Done S p node k M lp l m)

    apart' : Apart ws (append1 D (length p) node)
    apart' g j k l lj lk same =
        elim (either g j lj) [
          | inl oj ↦ elim (either g k lk) [
            | inl ok ↦ S.apart g j k l oj ok (λ h c. sym (G.same g j oj h c.0) ∙ same h c ∙ G.same g k ok h c.0)
            | inr nk ↦ absurd (differ j (subst (λ g. j < nodes D g) nk.0 oj)
                (subst (λ g. (h : List ℕ) → Header (drop g ws) h → walk (drop g (append1 D (length p) node)) j h ≡ walk (drop g (append1 D (length p) node)) (nodes D (length p)) h) nk.0
                (λ h c. same h c ∙ ap (λ i. walk (drop g (append1 D (length p) node)) i h) nk.1)))
          ]
          | inr nj ↦ elim (either g k lk) [
            | inl ok ↦ absurd (differ k (subst (λ g. k < nodes D g) nj.0 ok)
                (subst (λ g. (h : List ℕ) → Header (drop g ws) h → walk (drop g (append1 D (length p) node)) k h ≡ walk (drop g (append1 D (length p) node)) (nodes D (length p)) h) nj.0
                (λ h c. sym (same h c) ∙ ap (λ i. walk (drop g (append1 D (length p) node)) i h) nj.1)))
            | inr nk ↦ nj.1 ∙ sym nk.1
          ]
        ]

    has' : (q : List ℕ) → Begins ws q → length q < length ws → Done q ⊎ (q ≡ p)
        → (k : ℕ) × (k < nodes (append1 D (length p) node) (length q)) × Means ws d (append1 D (length p) node) k q
    has' q b l o = elim o [
      | inl t ↦ let u = S.has q b l t in
          (u.0, omega (arith, u.1, G.more (length q)), means_grows ws d D (append1 D (length p) node) G u.0 q u.1 u.2)
      | inr e ↦ (
        nodes D (length p),
        subst (λ (q : List ℕ). nodes D (length p) < nodes (append1 D (length p) node) (length q)) (sym e) (omega (arith, nodes_here D (length p) node l_d)),
        subst (λ (q : List ℕ). Means ws d (append1 D (length p) node) (nodes D (length p)) q) (sym e) new,
      )
    ]

    old : (g k : ℕ) → g < length ws → k < nodes D g
        → (q : List ℕ) × Begins ws q × (length q ≡ g) × Done q × Means ws d (append1 D (length p) node) k q
    old g k l o =
        let u = S.from g k l o in (
          u.0,
          u.1,
          u.2,
          u.3,
          means_grows ws d D (append1 D (length p) node) G k u.0 (subst (λ g. k < nodes D g) (sym u.2) o) u.4,
        )

    from' : (g k : ℕ) → g < length ws → k < nodes (append1 D (length p) node) g
        → (q : List ℕ) × Begins ws q × (length q ≡ g) × (Done q ⊎ (q ≡ p)) × Means ws d (append1 D (length p) node) k q
    from' g k l m = elim (either g k m) [
      | inl o ↦ let u = old g k l o in (u.0, u.1, u.2, inl u.3, u.4)
      | inr n ↦ (p, bp, sym n.0, inr refl, subst (λ k. Means ws d (append1 D (length p) node) k p) (sym n.1) new)
    ]

    order' : (q : List ℕ) (k : ℕ) → Begins ws q → length q < length ws → Done q ⊎ (q ≡ p) → k < nodes (append1 D (length p) node) (length q)
        → Means ws d (append1 D (length p) node) k q → (j : ℕ) → j < k
        → (r : List ℕ) × Begins ws r × (length r ≡ length q) × (Done r ⊎ (r ≡ p)) × Before r q × Means ws d (append1 D (length p) node) j r
    order' q k b l o lk mk j lj = elim o [
      | inl t ↦
          let u = S.has q b l t in
          let e : k ≡ u.0 = means_one ws d (append1 D (length p) node) apart' q k u.0 l lk (omega (arith, u.1, G.more (length q))) mk
          (means_grows ws d D (append1 D (length p) node) G u.0 q u.1 u.2) in
          let v = S.order q u.0 b l t u.1 u.2 j (omega (arith, e)) in (
            v.0,
            v.1,
            v.2,
            inl v.3,
            v.4,
            means_grows ws d D (append1 D (length p) node) G j v.0
                (subst (λ n. j < nodes D n) (sym v.2) (omega (arith, e, u.1))) v.5,
          )
      | inr e ↦
          let lk2 : k < nodes (append1 D (length p) node) (length p) = subst (λ (q : List ℕ). k < nodes (append1 D (length p) node) (length q)) e lk in
          let u = old (length p) j lp (omega (arith, nodes_here D (length p) node l_d)) in (
            u.0,
            u.1,
            u.2 ∙ sym (ap length e),
            inl u.3,
            subst (λ (q : List ℕ). Before u.0 q) (sym e) (before u.0 u.2 u.3),
            u.4,
          )
    ]

    runs' : (g k : ℕ) → g < length ws → k < nodes (append1 D (length p) node) g
        → Runs (2 ^ get_or ws g 0 - 1) 0 (get_or (get_or (append1 D (length p) node) g []) k [])
    runs' g k l m = elim (either g k m) [
      | inl o ↦ subst (λ (n : Node). Runs (2 ^ get_or ws g 0 - 1) 0 n) (sym (node_same D (length p) node l_d g k o)) (S.runs g k l o)
      | inr n ↦
          subst (λ g. Runs (2 ^ get_or ws g 0 - 1) 0 (get_or (get_or (append1 D (length p) node) g []) k [])) (sym n.0)
          (subst (λ k. Runs (2 ^ get_or ws (length p) 0 - 1) 0 (get_or (get_or (append1 D (length p) node) (length p) []) k [])) (sym n.1)
          (subst (λ (n : Node). Runs (2 ^ get_or ws (length p) 0 - 1) 0 n) (sym (node_new D (length p) node l_d)) M.runs))
    ]

    closed' : Closed ws (append1 D (length p) node)
    closed' g k x l m fx =
        let l2 : suc g < length D = subst (λ n. suc g < n) (length-set D (length p) (get_or D (length p) [] ++ node ∷ [])) l in
        let more : nodes D (suc g) ≤ nodes (append1 D (length p) node) (suc g) = G.more (suc g) in
        elim (either g k m) [
          | inl o ↦
              let c : next (get_or (get_or D g []) k []) x < nodes D (suc g) = S.closed g k x l2 o fx in
              subst (λ (n : Node). next n x < nodes (append1 D (length p) node) (suc g)) (sym (node_same D (length p) node l_d g k o)) (omega arith)
          | inr n ↦
              let l3 : suc (length p) < length ws = subst (λ g. suc g < length ws) n.0 (omega (arith, S.levels)) in
              let fx2 : x < 2 ^ get_or ws (length p) 0 = subst (λ g. x < 2 ^ get_or ws g 0) n.0 fx in
              let c : next node x < nodes D (suc (length p)) = M.inside x l3 fx2 in
              subst (λ g. next (get_or (get_or (append1 D (length p) node) g []) k []) x < nodes (append1 D (length p) node) (suc g)) (sym n.0)
              (subst (λ k. next (get_or (get_or (append1 D (length p) node) (length p) []) k []) x < nodes (append1 D (length p) node) (suc (length p))) (sym n.1)
              (subst (λ (n : Node). next n x < nodes (append1 D (length p) node) (suc (length p))) (sym (node_new D (length p) node l_d))
              (omega (arith, G.more (suc (length p))))))
        ]
