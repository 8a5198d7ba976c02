-- What stays where a diagram grows by a node.
use Rattle.std.proofs.Common.{◌≡◌, ℕ, zero, suc, ◌^◌, ◌<◌, ◌≤◌, ◌≢◌, List, [], ◌∷◌, ◌++◌, length, get_or, drop, Some, Option, sym, refl, ap, ◌∙◌, subst, inl, inr, arith, length-append}
use Rattle.std.proofs.lemmas.Bool.{cases_eq}
use Rattle.std.proofs.lemmas.List.{get_or_append_left, get_or-set_same, get_or-set_other, get_or_push}
use Rattle.diagram.specs.Diagrams.{Node, Level, Diagram, next, walk, Begins, Header}
use Rattle.diagram.specs.States.{nodes, Means, Closed, Apart, append1, Grows}

pub drop_nil : (g : ℕ) → drop {A = ℕ} g [] ≡ []
drop_nil zero = refl
drop_nil (suc g) = refl

-- one step of a walk, from a node of level g
pub walk_step : (D : Diagram) (g k x : ℕ) (h : List ℕ) → g < length D
    → walk (drop g D) k (x ∷ h) ≡ walk (drop (suc g) D) (next (get_or (get_or D g []) k []) x) h
walk_step [] g k x h l = absurd (omega arith)
walk_step (L ∷ D) zero k x h l = refl
walk_step (L ∷ D) (suc g) k x h l = walk_step D g k x h (omega arith)

-- what follows field g begins with a value of it
pub header_step : (ws : List ℕ) (g : ℕ) (h : List ℕ) → g < length ws → Header (drop g ws) h
    → (x : ℕ) × (t : List ℕ) × (h ≡ x ∷ t) × (x < 2 ^ get_or ws g 0) × Header (drop (suc g) ws) t
header_step [] g h l c = absurd (omega arith)
header_step (w ∷ ws) zero [] l c = absurd (omega (arith, c.1))
header_step (w ∷ ws) zero (x ∷ t) l c = (x, t, refl, c.0.0, (c.0.1, omega (arith, c.1)))
header_step (w ∷ ws) (suc g) h l c = header_step ws g h (omega arith) c

pub header_cons : (ws : List ℕ) (g x : ℕ) (t : List ℕ) → g < length ws → x < 2 ^ get_or ws g 0 → Header (drop (suc g) ws) t
    → Header (drop g ws) (x ∷ t)
header_cons [] g x t l m c = absurd (omega arith)
header_cons (w ∷ ws) zero x t l m c = ((m, c.0), ap suc c.1)
header_cons (w ∷ ws) (suc g) x t l m c = header_cons ws g x t (omega arith) m c

-- past the last field
pub header_end : (ws : List ℕ) (g : ℕ) → length ws ≤ g → Header (drop g ws) []
header_end [] zero l = (tt, refl)
header_end [] (suc g) l = (tt, refl)
header_end (w ∷ ws) zero l = absurd (omega arith)
header_end (w ∷ ws) (suc g) l = header_end ws g (omega arith)

-- A node that is there decides as before, whatever node is added at the end of a level.
pub steady : (ws : List ℕ) (D : Diagram) (f : ℕ) (node : Node) → Closed ws D
    → (g j : ℕ) (h : List ℕ) → j < nodes D g → Begins (drop g ws) h
    → walk (drop g (append1 D f node)) j h ≡ walk (drop g D) j h
steady ws [] f node c g j h l b = refl
steady ws (L ∷ D) zero node c zero j [] l b = refl
steady ws (L ∷ D) zero node c zero j (x ∷ h) l b =
    ap (λ n. walk D (next n x) h) (get_or_append_left L (node ∷ []) [] j l)
steady ws (L ∷ D) zero node c (suc g) j h l b = refl
steady ws (L ∷ D) (suc f) node c zero j [] l b = refl
steady ws (L ∷ []) (suc f) node c zero j (x ∷ h) l b = refl
steady [] (L ∷ (M ∷ D)) (suc f) node c zero j (x ∷ h) l b = absurd b
steady (w ∷ ws) (L ∷ (M ∷ D)) (suc f) node c zero j (x ∷ h) l b =
    steady ws (M ∷ D) f node (λ g k y m. c (suc g) k y (omega arith)) zero (next (get_or L j []) x) h
    (c zero j x (omega arith) l b.0) b.1
steady [] (L ∷ D) (suc f) node c (suc g) j h l b =
    steady [] D f node (λ g k y m. c (suc g) k y (omega arith)) g j h l (subst (λ z. Begins z h) (sym (drop_nil g)) b)
steady (w ∷ ws) (L ∷ D) (suc f) node c (suc g) j h l b =
    steady ws D f node (λ g k y m. c (suc g) k y (omega arith)) g j h l b

-- levels after a node is added

pub level_here : (D : Diagram) (f : ℕ) (node : Node) → f < length D → get_or (append1 D f node) f [] ≡ get_or D f [] ++ node ∷ []
level_here D f node l = get_or-set_same D f (get_or D f [] ++ node ∷ []) [] l

pub level_other : (D : Diagram) (f : ℕ) (node : Node) (g : ℕ) → g ≢ f → get_or (append1 D f node) g [] ≡ get_or D g []
level_other D f node g n = get_or-set_other D f g (get_or D f [] ++ node ∷ []) [] n

pub nodes_here : (D : Diagram) (f : ℕ) (node : Node) → f < length D → nodes (append1 D f node) f ≡ suc (nodes D f)
nodes_here D f node l = ap length (level_here D f node l) ∙ simp length-append (omega arith)

pub nodes_other : (D : Diagram) (f : ℕ) (node : Node) (g : ℕ) → g ≢ f → nodes (append1 D f node) g ≡ nodes D g
nodes_other D f node g n = ap length (level_other D f node g n)

pub nodes_more : (D : Diagram) (f : ℕ) (node : Node) → f < length D → (g : ℕ) → nodes D g ≤ nodes (append1 D f node) g
nodes_more D f node l g =
    elim (cases_eq g f) [
      | inl q ↦ subst (λ g. nodes D g ≤ nodes (append1 D f node) g) (sym q) (omega (arith, nodes_here D f node l))
      | inr n ↦ omega (arith, nodes_other D f node g n)
    ]

pub node_same : (D : Diagram) (f : ℕ) (node : Node) → f < length D → (g k : ℕ) → k < nodes D g
    → get_or (get_or (append1 D f node) g []) k [] ≡ get_or (get_or D g []) k []
node_same D f node l g k m =
    elim (cases_eq g f) [
      | inl q ↦
          subst (λ g. k < nodes D g → get_or (get_or (append1 D f node) g []) k [] ≡ get_or (get_or D g []) k []) (sym q)
          (λ m. ap (λ (L : Level). get_or L k []) (level_here D f node l) ∙ get_or_append_left (get_or D f []) (node ∷ []) [] k m) m
      | inr n ↦ ap (λ (L : Level). get_or L k []) (level_other D f node g n)
    ]

pub node_new : (D : Diagram) (f : ℕ) (node : Node) → f < length D → get_or (get_or (append1 D f node) f []) (nodes D f) [] ≡ node
node_new D f node l = ap (λ (L : Level). get_or L (nodes D f) []) (level_here D f node l) ∙ get_or_push (get_or D f []) node [] (nodes D f) refl

pub append_grows : (ws : List ℕ) (D : Diagram) (f : ℕ) (node : Node) → f < length D → Closed ws D → Grows ws D (append1 D f node)
append_grows ws D f node l c =
    record { more = nodes_more D f node l; same = λ g k m h b. steady ws D f node c g k h m b }

pub grows_refl : (ws : List ℕ) (D : Diagram) → Grows ws D D
grows_refl ws D = record { more = λ g. omega arith; same = λ g k m h b. refl }

pub grows_trans : (ws : List ℕ) (D E F : Diagram) → Grows ws D E → Grows ws E F → Grows ws D F
grows_trans ws D E F a b =
    record {
      more = λ g. omega (arith, a.more g, b.more g);
      same = λ g k m h c. b.same g k (omega (arith, a.more g)) h c ∙ a.same g k m h c;
    }

pub means_grows : (ws : List ℕ) (d : List ℕ → Option ℕ) (D E : Diagram) → Grows ws D E
    → (k : ℕ) (q : List ℕ) → k < nodes D (length q) → Means ws d D k q → Means ws d E k q
means_grows ws d D E G k q l m h c = m h c ∙ ap Some (sym (G.same (length q) k l h c.0))

pub means_back : (ws : List ℕ) (d : List ℕ → Option ℕ) (D E : Diagram) → Grows ws D E
    → (k : ℕ) (q : List ℕ) → k < nodes D (length q) → Means ws d E k q → Means ws d D k q
means_back ws d D E G k q l m h c = m h c ∙ ap Some (G.same (length q) k l h c.0)

pub some_same : (x y : ℕ) → Some x ≡ Some y → x ≡ y
some_same x y q = cc

-- one string has one node
pub means_one : (ws : List ℕ) (d : List ℕ → Option ℕ) (D : Diagram) → Apart ws D → (q : List ℕ) (j k : ℕ) → length q < length ws
    → j < nodes D (length q) → k < nodes D (length q) → Means ws d D j q → Means ws d D k q → j ≡ k
means_one ws d D a q j k l lj lk mj mk = a (length q) j k l lj lk (λ h c. some_same _ _ (sym (mj h c) ∙ mk h c))
