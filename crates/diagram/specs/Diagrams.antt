-- The reduced diagram of a decision, over fields of given widths.
use Rattle.std.specs.Prelude.{◌≡◌, ℕ, ◌+◌, ◌-◌, ◌^◌, ◌<◌, ◌≤◌, true, false, ◌≢◌, ◌⊎◌, List, [], ◌∷◌, ◌++◌, length, Some, Option, nat_le, slice_index, slice_index_or}
use Rattle.diagram.specs.declared.edges.Edge.{Edge}

abbrev pub Node : Type 0
Node = List Edge

abbrev pub Level : Type 0
Level = List Node

abbrev pub Diagram : Type 0
Diagram = List Level

-- where a value leads from a node
abbrev pub next : Node → ℕ → ℕ
next [] x = 0
next (e ∷ es) x = elim (nat_le x e.high) [ true ↦ e.to | false ↦ next es x ]

-- where a string of values leads, from a node of the first level
abbrev pub walk : Diagram → ℕ → List ℕ → ℕ
walk D n [] = n
walk [] n (x ∷ xs) = n
walk (L ∷ D) n (x ∷ xs) = walk D (next (slice_index_or L n []) x) xs

-- The edges from lo on are runs of consecutive values up to top, each as long as it can be.
abbrev pub Runs : ℕ → ℕ → Node → Type 0
Runs top lo [] = ⊥
Runs top lo (e ∷ []) = (lo ≤ e.high) × (e.high ≡ top)
Runs top lo (e ∷ (f ∷ es)) = (lo ≤ e.high) × (e.to ≢ f.to) × Runs top (e.high + 1) (f ∷ es)

-- values for the first fields, each of which fits its width
abbrev pub Begins : List ℕ → List ℕ → Type 0
Begins ws [] = Unit {0}
Begins [] (x ∷ xs) = ⊥
Begins (w ∷ ws) (x ∷ xs) = (x < 2 ^ w) × Begins ws xs

-- values for all fields
abbrev pub Header : List ℕ → List ℕ → Type 0
Header ws h = Begins ws h × (length h ≡ length ws)

-- one string of values comes before another, field by field
abbrev pub Before : List ℕ → List ℕ → Type 0
Before p [] = ⊥
Before [] (y ∷ q) = ⊥
Before (x ∷ p) (y ∷ q) = (x < y) ⊎ ((x ≡ y) × Before p q)

-- how the other fields then decide is the same after both strings
abbrev pub SameRemainder : List ℕ → (List ℕ → Option ℕ) → List ℕ → List ℕ → Type 0
SameRemainder ws d p q = (h : List ℕ) → Header ws (p ++ h) → d (p ++ h) ≡ d (q ++ h)

pub record Reduced (ws : List ℕ) (d : List ℕ → Option ℕ) (D : Diagram) : Type 0 where
  pub levels : length D ≡ length ws
  pub decides : (h : List ℕ) → Header ws h → d h ≡ Some (walk D 0 h)
  -- strings with one remainder lead to one node
  pub one : (p q : List ℕ) → Begins ws p → Begins ws q → length p ≡ length q → length p < length ws
      → SameRemainder ws d p q → walk D 0 p ≡ walk D 0 q
  -- the nodes of a level are those that strings lead to
  pub within : (p : List ℕ) → Begins ws p → length p < length ws → walk D 0 p < length (slice_index_or D (length p) [])
  pub led : (f k : ℕ) → f < length ws → k < length (slice_index_or D f [])
      → (p : List ℕ) × Begins ws p × (length p ≡ f) × (walk D 0 p ≡ k)
  -- before a string leads to a node, earlier ones have led to all nodes of lower number
  pub order : (p : List ℕ) → Begins ws p → length p < length ws → (j : ℕ) → j < walk D 0 p
      → (q : List ℕ) × Begins ws q × (length q ≡ length p) × Before q p × (walk D 0 q ≡ j)
  pub edges : (f k : ℕ) → f < length ws → k < length (slice_index_or D f [])
      → Runs (2 ^ slice_index ws f - 1) 0 (slice_index_or (slice_index_or D f []) k [])

-- The decision alone settles its reduced diagram.
abbrev pub Determined : Type 0
Determined =
    (ws : List ℕ) (d e : List ℕ → Option ℕ) (D E : Diagram)
    → ((h : List ℕ) → Header ws h → d h ≡ e h) → Reduced ws d D → Reduced ws e E → D ≡ E
