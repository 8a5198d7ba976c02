-- The edges of a node in the making.
use Rattle.std.specs.Prelude.{◌≡◌, ℕ, suc, ◌<◌, true, false, List, [], ◌∷◌, ◌++◌, length, drop, Some, Option, ◌==◌}
use Rattle.diagram.specs.Diagrams.{Node, Diagram, next, walk, Runs, Header}
use Rattle.diagram.specs.States.{nodes}

-- a run up to hi: a further edge, or the last one made longer where it leads to the same place
abbrev pub added : Node → ℕ → ℕ → Node
added [] hi t = record { high = hi; to = t } ∷ []
added (e ∷ []) hi t = elim (e.to == t) [
  | true ↦ record { high = hi; to = e.to } ∷ []
  | false ↦ e ∷ (record { high = hi; to = t } ∷ [])
]
added (e ∷ (f ∷ es)) hi t = e ∷ added (f ∷ es) hi t

-- edges of the node for the string p, for its values below low
pub record Partial (ws : List ℕ) (d : List ℕ → Option ℕ) (D : Diagram) (p : List ℕ) (low : ℕ) (node : Node) : Type 0 where
  pub none : low ≡ 0 → node ≡ []
  pub runs : (top : ℕ) → low ≡ suc top → Runs top 0 node
  pub inside : (x : ℕ) → suc (length p) < length ws → x < low → next node x < nodes D (suc (length p))
  pub decides : (x : ℕ) (h : List ℕ) → x < low → Header (drop (suc (length p)) ws) h
      → d (p ++ x ∷ h) ≡ Some (walk (drop (suc (length p)) D) (next node x) h)
