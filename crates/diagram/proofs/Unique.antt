-- A decision has at most one reduced diagram.
use Rattle.std.proofs.Common.{◌≡◌, ℕ, zero, suc, ◌+◌, ◌-◌, ◌^◌, ◌<◌, ◌≤◌, true, false, leb, List, [], ◌∷◌, ◌++◌, length, get_or, drop, Some, Option, sym, refl, ap, ◌∙◌, subst, inl, inr, arith, length-append, pow_pos}
use Rattle.diagram.specs.declared.edges.Edge.{Edge}
use Rattle.std.proofs.lemmas.Bool.{le-leb, lt-leb, cases_order, cases_lt}
use Rattle.std.proofs.lemmas.List.{ext_get_or}
use Rattle.diagram.specs.Diagrams.{Node, Diagram, next, walk, Runs, Begins, Header, Before, SameRemainder, Reduced, Determined}

-- induction

below : (Q : ℕ → Type 0) → ((x : ℕ) → ((y : ℕ) → y < x → Q y) → Q x) → (n y : ℕ) → y < n → Q y
below Q step zero y l = absurd (omega arith)
below Q step (suc n) y l = step y (λ z m. below Q step n z (omega arith))

strong : (Q : ℕ → Type 0) → ((x : ℕ) → ((y : ℕ) → y < x → Q y) → Q x) → (x : ℕ) → Q x
strong Q step x = below Q step (suc x) x (omega arith)

pub lex : (n : ℕ) (P : List ℕ → Type 0)
    → ((p : List ℕ) → length p ≡ n → ((q : List ℕ) → length q ≡ n → Before q p → P q) → P p)
    → (p : List ℕ) → length p ≡ n → P p
lex zero P step [] e = step [] e (λ q _ b. absurd b)
lex zero P step (x ∷ p) e = absurd (omega arith)
lex (suc n) P step [] e = absurd (omega arith)
lex (suc n) P step (x ∷ p) e =
    strong (λ y. (p : List ℕ) → length p ≡ n → P (y ∷ p))
    (λ y outer. lex n (λ q. P (y ∷ q))
    (λ q eq inner. step (y ∷ q) (ap suc eq) (earlier n P y q outer inner)))
    x p (omega arith)
  where
    earlier : (n : ℕ) (P : List ℕ → Type 0) (y : ℕ) (q : List ℕ)
        → ((z : ℕ) → z < y → (p : List ℕ) → length p ≡ n → P (z ∷ p))
        → ((r : List ℕ) → length r ≡ n → Before r q → P (y ∷ r))
        → (r : List ℕ) → length r ≡ suc n → Before r (y ∷ q) → P r
    earlier n P y q outer inner [] er b = absurd b
    earlier n P y q outer inner (z ∷ r) er b =
        elim b [
          | inl l ↦ outer z l r (omega arith)
          | inr h ↦ subst (λ a. P (a ∷ r)) (sym h.0) (inner r (omega arith) h.1)
        ]

-- a node is settled by where its values lead

pub next_first : (e : Edge) (es : Node) (x : ℕ) → x ≤ e.high → next (e ∷ es) x ≡ e.to
next_first e es x l = let t : leb x e.high ≡ true = le-leb x e.high l in rw (t, next) refl

pub next_later : (e : Edge) (es : Node) (x : ℕ) → e.high < x → next (e ∷ es) x ≡ next es x
next_later e es x l = let t : leb x e.high ≡ false = lt-leb x e.high l in rw (t, next) refl

pub runs_top : (top lo : ℕ) (a : Node) → Runs top lo a → lo ≤ top
runs_top top lo [] r = absurd r
runs_top top lo (e ∷ []) r = omega arith
runs_top top lo (e ∷ (f ∷ es)) r = let ih : e.high + 1 ≤ top = runs_top top (e.high + 1) (f ∷ es) r.2 in omega arith

pub runs_high : (top lo : ℕ) (e : Edge) (es : Node) → Runs top lo (e ∷ es) → lo ≤ e.high
runs_high top lo e [] r = r.0
runs_high top lo e (f ∷ es) r = r.0

same_edge : (e f : Edge) → e.high ≡ f.high → e.to ≡ f.to → e ≡ f
same_edge e f p q = λ i. record { high = p i; to = q i }

pub runs_unique : (top lo : ℕ) (a b : Node) → Runs top lo a → Runs top lo b
    → ((x : ℕ) → lo ≤ x → x ≤ top → next a x ≡ next b x) → a ≡ b
runs_unique top lo [] b r s h = absurd r
runs_unique top lo (e ∷ []) [] r s h = absurd s
runs_unique top lo (e ∷ []) (f ∷ []) r s h =
    ap (λ (x : Edge). x ∷ [])
    (same_edge e f (r.1 ∙ sym s.1)
    (sym (next_first e [] lo r.0) ∙ h lo (omega arith) (omega arith) ∙ next_first f [] lo s.0))
runs_unique top lo (e ∷ []) (f ∷ (g ∷ bs)) r s h =
    let l : f.high + 1 ≤ top = runs_top top (f.high + 1) (g ∷ bs) s.2 in
    let m : f.high + 1 ≤ g.high = runs_high top (f.high + 1) g bs s.2 in
    let u : e.to ≡ f.to = sym (next_first e [] lo r.0) ∙ h lo (omega arith) (omega arith) ∙ next_first f (g ∷ bs) lo s.0 in
    let v : e.to ≡ g.to = sym (next_first e [] (f.high + 1) (omega arith)) ∙ h (f.high + 1) (omega arith) l
    ∙ next_later f (g ∷ bs) (f.high + 1) (omega arith) ∙ next_first g bs (f.high + 1) m in
    absurd (s.1 (sym u ∙ v))
runs_unique top lo (e ∷ (k ∷ az)) [] r s h = absurd s
runs_unique top lo (e ∷ (k ∷ az)) (f ∷ []) r s h =
    let l : e.high + 1 ≤ top = runs_top top (e.high + 1) (k ∷ az) r.2 in
    let m : e.high + 1 ≤ k.high = runs_high top (e.high + 1) k az r.2 in
    let u : e.to ≡ f.to = sym (next_first e (k ∷ az) lo r.0) ∙ h lo (omega arith) (omega arith) ∙ next_first f [] lo s.0 in
    let v : k.to ≡ f.to = sym (next_first k az (e.high + 1) m) ∙ sym (next_later e (k ∷ az) (e.high + 1) (omega arith))
    ∙ h (e.high + 1) (omega arith) l ∙ next_first f [] (e.high + 1) (omega arith) in
    absurd (r.1 (u ∙ sym v))
runs_unique top lo (e ∷ (k ∷ az)) (f ∷ (g ∷ bs)) r s h =
    let le : e.high + 1 ≤ top = runs_top top (e.high + 1) (k ∷ az) r.2 in
    let me : e.high + 1 ≤ k.high = runs_high top (e.high + 1) k az r.2 in
    let lf : f.high + 1 ≤ top = runs_top top (f.high + 1) (g ∷ bs) s.2 in
    let mf : f.high + 1 ≤ g.high = runs_high top (f.high + 1) g bs s.2 in
    let u : e.to ≡ f.to = sym (next_first e (k ∷ az) lo r.0) ∙ h lo (omega arith) (omega arith) ∙ next_first f (g ∷ bs) lo s.0 in
    elim (cases_order e.high f.high) [
      | inl q ↦
          let s2 : Runs top (e.high + 1) (g ∷ bs) = subst (λ n. Runs top (n + 1) (g ∷ bs)) (sym q) s.2 in
          let ih : k ∷ az ≡ g ∷ bs
          = runs_unique top (e.high + 1) (k ∷ az) (g ∷ bs) r.2 s2
          (λ x l m. sym (next_later e (k ∷ az) x (omega arith)) ∙ h x (omega arith) m ∙ next_later f (g ∷ bs) x (omega arith)) in
          λ i. same_edge e f q u i ∷ ih i
      | inr t ↦ elim t [
        | inl l ↦
            let v : k.to ≡ f.to = sym (next_first k az (e.high + 1) me) ∙ sym (next_later e (k ∷ az) (e.high + 1) (omega arith))
            ∙ h (e.high + 1) (omega arith) le ∙ next_first f (g ∷ bs) (e.high + 1) (omega arith) in
            absurd (r.1 (u ∙ sym v))
        | inr l ↦
            let v : e.to ≡ g.to = sym (next_first e (k ∷ az) (f.high + 1) (omega arith)) ∙ h (f.high + 1) (omega arith) lf
            ∙ next_later f (g ∷ bs) (f.high + 1) (omega arith) ∙ next_first g bs (f.high + 1) mf in
            absurd (s.1 (sym u ∙ v))
      ]
    ]

-- strings

pub walk_append : (D : Diagram) (n : ℕ) (p h : List ℕ) → walk D n (p ++ h) ≡ walk (drop (length p) D) (walk D n p) h
walk_append D n [] h = refl
walk_append [] n (x ∷ p) [] = refl
walk_append [] n (x ∷ p) (y ∷ h) = refl
walk_append (L ∷ D) n (x ∷ p) h = walk_append D (next (get_or L n []) x) p h

-- what follows a string may follow another one of its length
pub swap_front : (ws p q h : List ℕ) → length p ≡ length q → Begins ws q → Begins ws (p ++ h) → Begins ws (q ++ h)
swap_front ws [] [] h e b c = c
swap_front ws [] (y ∷ q) h e b c = absurd (omega arith)
swap_front ws (x ∷ p) [] h e b c = absurd (omega arith)
swap_front [] (x ∷ p) (y ∷ q) h e b c = c
swap_front (w ∷ ws) (x ∷ p) (y ∷ q) h e b c = (b.0, swap_front ws p q h (omega arith) b.1 c.1)

module _ (ws : List ℕ) (d : List ℕ → Option ℕ) (D : Diagram) (R : Reduced ws d D) where
  -- strings that lead to one node have one remainder
  pub same_node : (p q : List ℕ) → Begins ws q → length p ≡ length q
      → walk D 0 p ≡ walk D 0 q → SameRemainder ws d p q
  same_node p q b e w h c =
      let lq : length (q ++ h) ≡ length ws = simp length-append (omega (arith, simp length-append at c.1)) in
      R.decides (p ++ h) c ∙ ap Some
      (walk_append D 0 p h ∙ ap (λ n. walk (drop (length p) D) n h) w ∙ ap (λ n. walk (drop n D) (walk D 0 q) h) e ∙ sym (walk_append D 0 q h))
      ∙ sym (R.decides (q ++ h) (swap_front ws p q h e b c.0, lq))

-- From here on two reduced diagrams of one decision.
module _ (ws : List ℕ) (d e : List ℕ → Option ℕ) (alike : (h : List ℕ) → Header ws h → d h ≡ e h) where
  carried : (p q : List ℕ) → Begins ws q → length p ≡ length q → SameRemainder ws d p q → SameRemainder ws e p q
  carried p q b l s h c =
      let lq : length (q ++ h) ≡ length ws = simp length-append (omega (arith, simp length-append at c.1)) in
      sym (alike (p ++ h) c) ∙ s h c ∙ alike (q ++ h) (swap_front ws p q h l b c.0, lq)

module _ (ws : List ℕ) (d e : List ℕ → Option ℕ) (alike : (h : List ℕ) → Header ws h → d h ≡ e h)
    (D E : Diagram) (R : Reduced ws d D) (S : Reduced ws e E) where
  -- if all earlier strings have the same number in both, no string has a lower one in the first
  not_lower : (p : List ℕ) → Begins ws p → length p < length ws
      → ((q : List ℕ) → length q ≡ length p → Before q p → Begins ws q → walk D 0 q ≡ walk E 0 q)
      → walk D 0 p < walk E 0 p → walk D 0 p ≡ walk E 0 p
  not_lower p b l ih m =
      let o = S.order p b l (walk D 0 p) m in
      let q = o.0 in
      let n : walk D 0 q ≡ walk D 0 p = ih q o.2 o.3 o.1 ∙ o.4 in
      let s : SameRemainder ws e q p = carried ws d e alike q p b o.2 (same_node ws d D R q p b o.2 n) in
      sym o.4 ∙ S.one q p o.1 b o.2 (omega arith) s

pub same_number : (ws : List ℕ) (d e : List ℕ → Option ℕ) → ((h : List ℕ) → Header ws h → d h ≡ e h)
    → (D E : Diagram) → Reduced ws d D → Reduced ws e E
    → (p : List ℕ) → Begins ws p → length p < length ws → walk D 0 p ≡ walk E 0 p
same_number ws d e alike D E R S p b l =
    lex (length p) (λ p. Begins ws p → length p < length ws → walk D 0 p ≡ walk E 0 p)
    (λ p en ih b l.
    let earlier : (q : List ℕ) → length q ≡ length p → Before q p → Begins ws q → walk D 0 q ≡ walk E 0 q
    = λ q eq bf bq. ih q (eq ∙ en) bf bq (omega arith) in
    elim (cases_order (walk D 0 p) (walk E 0 p)) [
      | inl q ↦ q
      | inr t ↦ elim t [
        | inl m ↦ not_lower ws d e alike D E R S p b l earlier m
        | inr m ↦ sym (not_lower ws e d (λ h c. sym (alike h c)) E D S R p b l (λ q eq bf bq. sym (earlier q eq bf bq)) m)
      ]
    ])
    p refl b l

-- the same at the end of the header, where the number is the code
some_same : (x y : ℕ) → Some x ≡ Some y → x ≡ y
some_same x y q = cc

pub same_number_all : (ws : List ℕ) (d e : List ℕ → Option ℕ) → ((h : List ℕ) → Header ws h → d h ≡ e h)
    → (D E : Diagram) → Reduced ws d D → Reduced ws e E
    → (p : List ℕ) → Begins ws p → length p ≤ length ws → walk D 0 p ≡ walk E 0 p
same_number_all ws d e alike D E R S p b l =
    elim (cases_lt (length p) (length ws)) [
      | inl m ↦ same_number ws d e alike D E R S p b m
      | inr m ↦
          let q : length p ≡ length ws = omega arith in
          some_same _ _ (sym (R.decides p (b, q)) ∙ alike p (b, q) ∙ S.decides p (b, q))
    ]

-- one more value after a string
pub begins_more : (ws p : List ℕ) (x : ℕ) → Begins ws p → length p < length ws → x < 2 ^ get_or ws (length p) 0 → Begins ws (p ++ x ∷ [])
begins_more [] [] x b l m = absurd (omega arith)
begins_more (w ∷ ws) [] x b l m = (m, tt)
begins_more [] (y ∷ p) x b l m = absurd b
begins_more (w ∷ ws) (y ∷ p) x b l m = (b.0, begins_more ws p x b.1 (omega arith) m)

pub walk_more : (D : Diagram) (n : ℕ) (p : List ℕ) (x : ℕ) → length p < length D
    → walk D n (p ++ x ∷ []) ≡ next (get_or (get_or D (length p) []) (walk D n p) []) x
walk_more [] n p x l = absurd (omega arith)
walk_more (L ∷ D) n [] x l = refl
walk_more (L ∷ D) n (y ∷ p) x l = walk_more D (next (get_or L n []) y) p x (omega arith)

module _ (ws : List ℕ) (d e : List ℕ → Option ℕ) (alike : (h : List ℕ) → Header ws h → d h ≡ e h)
    (D E : Diagram) (R : Reduced ws d D) (S : Reduced ws e E) where
  more_nodes : (f k : ℕ) → f < length ws → k < length (get_or D f []) → k < length (get_or E f [])
  more_nodes f k l m =
      let t = R.led f k l m in
      let p : List ℕ = t.0 in
      let lp : length p < length ws = omega (arith, t.2) in
      let n : walk E 0 p ≡ k = sym (same_number ws d e alike D E R S p t.1 lp) ∙ t.3 in
      let w : walk E 0 p < length (get_or E (length p) []) = S.within p t.1 lp in
      let w2 : walk E 0 p < length (get_or E f []) = subst (λ g. walk E 0 p < length (get_or E g [])) t.2 w in
      subst (λ j. j < length (get_or E f [])) n w2

  same_nodes : (f k : ℕ) → f < length ws → k < length (get_or D f []) → k < length (get_or E f [])
      → get_or (get_or D f []) k [] ≡ get_or (get_or E f []) k []
  same_nodes f k l m n =
      let t = R.led f k l m in
      let p : List ℕ = t.0 in
      let lp : length p < length ws = omega (arith, t.2) in
      let top : ℕ = 2 ^ get_or ws f 0 - 1 in
      let pos : 0 < 2 ^ get_or ws f 0 = pow_pos (get_or ws f 0) in
      let l_d : length p < length D = omega (arith, t.2, R.levels) in
      let l_e : length p < length E = omega (arith, t.2, S.levels) in
      let e_e : walk E 0 p ≡ k = sym (same_number ws d e alike D E R S p t.1 lp) ∙ t.3 in
      runs_unique (2 ^ get_or ws f 0 - 1) 0 (get_or (get_or D f []) k []) (get_or (get_or E f []) k []) (R.edges f k l m) (S.edges f k l n)
      (λ x lo hi.
      let fx : x < 2 ^ get_or ws f 0 = omega arith in
      let bx : Begins ws (p ++ x ∷ []) = begins_more ws p x t.1 lp (subst (λ g. x < 2 ^ get_or ws g 0) (sym t.2) fx) in
      let lx : length (p ++ x ∷ []) ≤ length ws = simp length-append (omega arith) in
      let a : walk D 0 (p ++ x ∷ []) ≡ next (get_or (get_or D f []) k []) x
      = walk_more D 0 p x l_d ∙ ap (λ g. next (get_or (get_or D g []) (walk D 0 p) []) x) t.2 ∙ ap (λ j. next (get_or (get_or D f []) j []) x) t.3 in
      let b : walk E 0 (p ++ x ∷ []) ≡ next (get_or (get_or E f []) k []) x
      = walk_more E 0 p x l_e ∙ ap (λ g. next (get_or (get_or E g []) (walk E 0 p) []) x) t.2 ∙ ap (λ j. next (get_or (get_or E f []) j []) x) e_e in
      sym a ∙ same_number_all ws d e alike D E R S (p ++ x ∷ []) bx lx ∙ b)

pub same_level : (ws : List ℕ) (d e : List ℕ → Option ℕ) (alike : (h : List ℕ) → Header ws h → d h ≡ e h)
    (D E : Diagram) (R : Reduced ws d D) (S : Reduced ws e E) (f : ℕ) → f < length ws → get_or D f [] ≡ get_or E f []
same_level ws d e alike D E R S f l =
    let same : length (get_or D f []) ≡ length (get_or E f []) =
    elim (cases_order (length (get_or D f [])) (length (get_or E f []))) [
      | inl q ↦ q
      | inr t ↦ elim t [
        | inl m ↦ let z : length (get_or D f []) < length (get_or D f []) = more_nodes ws e d (λ h c. sym (alike h c)) E D S R f (length (get_or D f [])) l m in absurd (omega arith)
        | inr m ↦ let z : length (get_or E f []) < length (get_or E f []) = more_nodes ws d e alike D E R S f (length (get_or E f [])) l m in absurd (omega arith)
      ]
    ] in
    ext_get_or [] (get_or D f []) (get_or E f []) same (λ k m. same_nodes ws d e alike D E R S f k l m (omega arith))

pub determined : Determined
determined ws d e D E alike R S =
    ext_get_or [] D E (R.levels ∙ sym S.levels) (λ f l. same_level ws d e alike D E R S f (omega (arith, R.levels)))
