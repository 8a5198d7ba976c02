-- A diagram in the making is the front of every reduced diagram of its decision.
use Rattle.std.proofs.Common.{◌≡◌, ℕ, suc, ◌-◌, ◌^◌, ◌<◌, ◌≤◌, List, [], ◌∷◌, ◌++◌, length, get_or, drop, Some, Option, sym, refl, ap, ◌∙◌, subst, inl, inr, append_assoc, arith, length-append, length-drop, pow_pos}
use Rattle.std.proofs.lemmas.Bool.{cases_order, cases_lt}
use Rattle.std.proofs.lemmas.List.{append-nil}
use Rattle.diagram.specs.Diagrams.{Diagram, next, walk, Begins, Header, Before, SameRemainder, Reduced}
use Rattle.diagram.specs.States.{nodes, Means, State}
use Rattle.diagram.proofs.Unique.{lex, same_node, walk_more, begins_more, runs_unique}
use Rattle.diagram.proofs.Steady.{walk_step, header_cons, header_end, means_one, some_same}
use Rattle.diagram.proofs.Strings.{begins_parts, begins_join, begins_short}

abbrev pub Down : (List ℕ → Type 0) → Type 0
Down Done = (q r : List ℕ) → Done q → length r ≡ length q → Before r q → Done r

header_join : (ws q h : List ℕ) → Begins ws q → Header (drop (length q) ws) h → Header ws (q ++ h)
header_join ws q h b c =
    (begins_join ws q h b c.0, length-append q h ∙ (omega (arith, c.1, length-drop (length q) ws, begins_short ws q b)))

header_part : (ws q h : List ℕ) → Header ws (q ++ h) → Header (drop (length q) ws) h
header_part ws q h c =
    ((begins_parts ws q h c.0).1, omega (arith, c.1, length-drop (length q) ws, length-append q h))

-- two strings of one node
means_same : (ws : List ℕ) (d : List ℕ → Option ℕ) (D : Diagram) (k : ℕ) (q r : List ℕ) → length r ≡ length q
    → Means ws d D k q → Means ws d D k r → SameRemainder ws d r q
means_same ws d D k q r e mq mr h c =
    let cr : Header (drop (length r) ws) h = header_part ws r h c in
    mr h cr ∙ ap (λ n. Some (walk (drop n D) k h)) e ∙ sym (mq h (subst (λ n. Header (drop n ws) h) e cr))

means_move : (ws : List ℕ) (d : List ℕ → Option ℕ) (D : Diagram) (k : ℕ) (q r : List ℕ) → length r ≡ length q → Begins ws r
    → SameRemainder ws d r q → Means ws d D k r → Means ws d D k q
means_move ws d D k q r e b s m h c =
    let cr : Header (drop (length r) ws) h = subst (λ n. Header (drop n ws) h) (sym e) c in
    sym (s h (header_join ws r h b cr)) ∙ m h cr ∙ ap (λ n. Some (walk (drop n D) k h)) e

means_more : (ws : List ℕ) (d : List ℕ → Option ℕ) (D : Diagram) (k : ℕ) (q : List ℕ) (x : ℕ) → length q < length ws → length q < length D
    → x < 2 ^ get_or ws (length q) 0 → Means ws d D k q → Means ws d D (next (get_or (get_or D (length q) []) k []) x) (q ++ x ∷ [])
means_more ws d D k q x l l_d fx m h c =
    let n : length (q ++ x ∷ []) ≡ suc (length q) = length-append q (x ∷ []) ∙ (omega arith) in
    let c2 : Header (drop (suc (length q)) ws) h = subst (λ i. Header (drop i ws) h) n c in
    ap d (append_assoc q (x ∷ []) h) ∙ m (x ∷ h) (header_cons ws (length q) x h l fx c2)
    ∙ ap Some (walk_step D (length q) k x h l_d)
    ∙ ap (λ i. Some (walk (drop i D) (next (get_or (get_or D (length q) []) k []) x) h)) (sym n)

module _ (ws : List ℕ) (d : List ℕ → Option ℕ) (D E : Diagram) (Done : List ℕ → Type 0) (S : State ws d D Done) (dn : Down Done) (R : Reduced ws d E) where
  -- the number in the making is the number in the reduced diagram
  pub number : (q : List ℕ) → Begins ws q → length q < length ws → Done q → (k : ℕ) → k < nodes D (length q) → Means ws d D k q → walk E 0 q ≡ k
  number q b l =
      lex (length q) (λ q. Begins ws q → length q < length ws → Done q → (k : ℕ) → k < nodes D (length q) → Means ws d D k q → walk E 0 q ≡ k)
      (λ q en ih b l o k lk mk. elim (cases_order (walk E 0 q) k) [
        | inl e ↦ e
        | inr t ↦ elim t [
          | inl m ↦
              let u = S.order q k b l o lk mk (walk E 0 q) m in
              let lu : length u.0 < length ws = omega (arith, u.2) in
              let w : walk E 0 u.0 ≡ walk E 0 q
              = ih u.0 (u.2 ∙ en) u.4 u.1 lu u.3 (walk E 0 q) (subst (λ n. walk E 0 q < nodes D n) (sym u.2) (omega arith)) u.5 in
              means_one ws d D S.apart q (walk E 0 q) k l (omega arith) lk
              (means_move ws d D (walk E 0 q) q u.0 u.2 u.1 (same_node ws d E R u.0 q b u.2 w) u.5) mk
          | inr m ↦
              let u = R.order q b l k m in
              let lu : length u.0 < length ws = omega (arith, u.2) in
              let o2 : Done u.0 = dn q u.0 o u.2 u.3 in
              let v = S.has u.0 u.1 lu o2 in
              let e : v.0 ≡ k = sym (ih u.0 (u.2 ∙ en) u.3 u.1 lu o2 v.0 v.1 v.2) ∙ u.4 in
              let mr : Means ws d D k u.0 = subst (λ j. Means ws d D j u.0) e v.2 in
              sym (R.one u.0 q u.1 b u.2 lu (means_same ws d D k q u.0 u.2 mk mr)) ∙ u.4
        ]
      ])
      q refl b l

  pub front_more : (g : ℕ) → g < length ws → nodes D g ≤ nodes E g
  front_more g l =
      elim (cases_lt (nodes E g) (nodes D g)) [
        | inl m ↦
            let u = S.from g (nodes E g) l m in
            let lu : length u.0 < length ws = omega (arith, u.2) in
            let w : walk E 0 u.0 ≡ nodes E g = number u.0 u.1 lu u.3 (nodes E g) (subst (λ n. nodes E g < nodes D n) (sym u.2) m) u.4 in
            let v : walk E 0 u.0 < nodes E g = subst (λ n. walk E 0 u.0 < nodes E n) u.2 (R.within u.0 u.1 lu) in
            absurd (omega arith)
        | inr m ↦ m
      ]

  -- where a value leads is the same number
  pub target : (q : List ℕ) (j x : ℕ) → Begins ws (q ++ x ∷ []) → length (q ++ x ∷ []) ≡ suc (length q) → Means ws d D j (q ++ x ∷ [])
      → (suc (length q) < length ws → j < nodes D (suc (length q))) → j ≡ walk E 0 (q ++ x ∷ [])
  target q j x bx ln mx lj =
      elim (cases_lt (suc (length q)) (length ws)) [
        | inl n ↦
            let v = S.from (suc (length q)) j n (lj n) in
            let lv : length v.0 < length ws = omega (arith, v.2) in
            let a : walk E 0 v.0 ≡ j = number v.0 v.1 lv v.3 j (subst (λ i. j < nodes D i) (sym v.2) (lj n)) v.4 in
            let e : length v.0 ≡ length (q ++ x ∷ []) = v.2 ∙ sym ln in
            sym a ∙ R.one v.0 (q ++ x ∷ []) v.1 bx e lv (means_same ws d D j (q ++ x ∷ []) v.0 e mx v.4)
        | inr n ↦
            let f : length (q ++ x ∷ []) ≡ length ws = omega (arith, ln, begins_short ws (q ++ x ∷ []) bx) in
            let hd : Header (drop (length (q ++ x ∷ [])) ws) [] = header_end ws (length (q ++ x ∷ [])) (omega arith) in
            some_same _ _ (sym (mx [] hd) ∙ ap d (append-nil (q ++ x ∷ [])) ∙ R.decides (q ++ x ∷ []) (bx, f))
      ]

  pub front_same : (g k : ℕ) → g < length ws → k < nodes D g → get_or (get_or D g []) k [] ≡ get_or (get_or E g []) k []
  front_same g k l m =
      let u = S.from g k l m in
      let q : List ℕ = u.0 in
      let lu : length u.0 < length ws = omega (arith, u.2) in
      let mu : k < nodes D (length u.0) = subst (λ n. k < nodes D n) (sym u.2) m in
      let w : walk E 0 u.0 ≡ k = number u.0 u.1 lu u.3 k mu u.4 in
      runs_unique (2 ^ get_or ws g 0 - 1) 0 (get_or (get_or D g []) k []) (get_or (get_or E g []) k []) (S.runs g k l m)
      (R.edges g k l (omega (arith, front_more g l)))
      (λ x lo hi.
      let fx : x < 2 ^ get_or ws g 0 = omega (arith, pow_pos (get_or ws g 0)) in
      let fx2 : x < 2 ^ get_or ws (length u.0) 0 = subst (λ n. x < 2 ^ get_or ws n 0) (sym u.2) fx in
      let e_e : walk E 0 (u.0 ++ x ∷ []) ≡ next (get_or (get_or E g []) k []) x
      = walk_more E 0 u.0 x (omega (arith, u.2, R.levels)) ∙ ap (λ n. next (get_or (get_or E n []) (walk E 0 u.0) []) x) u.2
      ∙ ap (λ j. next (get_or (get_or E g []) j []) x) w in
      let bx : Begins ws (u.0 ++ x ∷ []) = begins_more ws u.0 x u.1 lu fx2 in
      let ln : length (u.0 ++ x ∷ []) ≡ suc (length u.0) = length-append u.0 (x ∷ []) ∙ (omega arith) in
      let mx : Means ws d D (next (get_or (get_or D (length u.0) []) k []) x) (u.0 ++ x ∷ [])
      = means_more ws d D k u.0 x lu (omega (arith, u.2, S.levels)) fx2 u.4 in
      let e_d : next (get_or (get_or D (length u.0) []) k []) x ≡ next (get_or (get_or D g []) k []) x = ap (λ n. next (get_or (get_or D n []) k []) x) u.2 in
      sym e_d ∙ target u.0 (next (get_or (get_or D (length u.0) []) k []) x) x bx ln mx
      (λ n. S.closed (length u.0) k x (omega (arith, S.levels)) mu fx2) ∙ e_e)
