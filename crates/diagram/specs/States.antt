-- A diagram in the making: what it holds when some strings are done.
use Rattle.std.specs.Prelude.{◌≡◌, ℕ, suc, ◌+◌, ◌-◌, ◌^◌, ◌<◌, ◌≤◌, ◌⊎◌, List, [], ◌∷◌, ◌++◌, length, drop, Some, None, Option, slice_index, slice_index_or, slice_set}
use Rattle.diagram.specs.Diagrams.{Node, Level, Diagram, next, walk, Runs, Begins, Header, Before, Reduced}

abbrev pub nodes : Diagram → ℕ → ℕ
nodes D g = length (slice_index_or D g [])

-- Node k, of the level after the string q, decides as the fields after q do.
abbrev pub Means : List ℕ → (List ℕ → Option ℕ) → Diagram → ℕ → List ℕ → Type 0
Means ws d D k q = (h : List ℕ) → Header (drop (length q) ws) h → d (q ++ h) ≡ Some (walk (drop (length q) D) k h)

-- edges lead to nodes that are there
abbrev pub Closed : List ℕ → Diagram → Type 0
Closed ws D = (g k x : ℕ) → suc g < length D → k < nodes D g → x < 2 ^ slice_index ws g
    → next (slice_index_or (slice_index_or D g []) k []) x < nodes D (suc g)

abbrev pub Apart : List ℕ → Diagram → Type 0
Apart ws D = (g j k : ℕ) → g < length ws → j < nodes D g → k < nodes D g
    → ((h : List ℕ) → Header (drop g ws) h → walk (drop g D) j h ≡ walk (drop g D) k h) → j ≡ k

pub record State (ws : List ℕ) (d : List ℕ → Option ℕ) (D : Diagram) (Done : List ℕ → Type 0) : Type 0 where
  pub levels : length D ≡ length ws
  pub has : (q : List ℕ) → Begins ws q → length q < length ws → Done q
      → (k : ℕ) × (k < nodes D (length q)) × Means ws d D k q
  pub from : (g k : ℕ) → g < length ws → k < nodes D g
      → (q : List ℕ) × Begins ws q × (length q ≡ g) × Done q × Means ws d D k q
  pub order : (q : List ℕ) (k : ℕ) → Begins ws q → length q < length ws → Done q → k < nodes D (length q)
      → Means ws d D k q → (j : ℕ) → j < k
      → (r : List ℕ) × Begins ws r × (length r ≡ length q) × Done r × Before r q × Means ws d D j r
  pub apart : Apart ws D
  pub runs : (g k : ℕ) → g < length ws → k < nodes D g → Runs (2 ^ slice_index ws g - 1) 0 (slice_index_or (slice_index_or D g []) k [])
  pub closed : Closed ws D

-- a further node at the end of a level
abbrev pub append1 : Diagram → ℕ → Node → Diagram
append1 D f node = slice_set D f (slice_index_or D f [] ++ node ∷ [])

-- nodes that are there stay, and decide as they did
pub record Grows (ws : List ℕ) (D E : Diagram) : Type 0 where
  pub more : (g : ℕ) → nodes D g ≤ nodes E g
  pub same : (g k : ℕ) → k < nodes D g → (h : List ℕ) → Begins (drop g ws) h → walk (drop g E) k h ≡ walk (drop g D) k h

-- q comes before p, or begins with it
abbrev pub Upto : List ℕ → List ℕ → Type 0
Upto p q = Before q p ⊎ ((s : List ℕ) × (q ≡ p ++ s))

-- What building the node of the string p gives: the strings up to it are done, and k is its node (for a whole header, its code).
pub record Built (ws : List ℕ) (d : List ℕ → Option ℕ) (D E : Diagram) (p : List ℕ) (k : ℕ) : Type 0 where
  pub state : State ws d E (Upto p)
  pub grows : Grows ws D E
  pub there : length p < length ws → k < nodes E (length p)
  pub means : Means ws d E k p

-- how many edges the nodes of a level have
abbrev pub total : Level → ℕ
total [] = 0
total (n ∷ ns) = length n + total ns

-- a level has too many nodes, or too many edges
abbrev pub Big : List ℕ → Diagram → Type 0
Big ws D = (g : ℕ) × (g < length ws) × ((256 < nodes D g) ⊎ (1024 < total (slice_index_or D g [])))

-- there is a gap, or no reduced diagram is small enough
abbrev pub Failed : List ℕ → (List ℕ → Option ℕ) → Type 0
Failed ws d = ((h : List ℕ) × Header ws h × (d h ≡ None)) ⊎ ((E : Diagram) → Reduced ws d E → Big ws E)
