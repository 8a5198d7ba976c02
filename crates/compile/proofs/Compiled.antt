-- Whether the chain of a list fits.
use Rattle.std.proofs.Common.{◌≡◌, ℕ, zero, suc, ◌<◌, ◌≤◌, List, [], ◌∷◌, length, get_or, Some, None, Option, sym, refl, ap, ◌∙◌, subst, inl, inr, arith}
use Rattle.std.specs.Option.{option_map}
use Rattle.store.specs.declared.row.Row.{Row}
use Rattle.policy.specs.declared.rules.Rule.{Rule}
use Rattle.policy.specs.Fields.{widths}
use Rattle.policy.specs.Rules.{decide, first}
use Rattle.diagram.specs.Diagrams.{Diagram, Reduced}
use Rattle.diagram.specs.States.{Failed, Big, total}
use Rattle.diagram.specs.Chains.{chain}
use Rattle.diagram.proofs.Unique.{determined}
use Rattle.chain.specs.Counts.{edges}
use Rattle.chain.proofs.Counting.{counts}
use Rattle.compile.specs.declared.levels.Level.{Level as Nodes}
use Rattle.compile.specs.Levels.{diagram_of}
use Rattle.compile.specs.Lives.{code_at}
use Rattle.compile.specs.Gaps.{Never}
use Rattle.compile.specs.Places.{Fitting}
use Rattle.compile.specs.Compiling.{Fits}
use Rattle.compile.specs.Writing.{Chained}
use Rattle.compile.proofs.Living.{decide_first}
use Rattle.compile.proofs.Levelling.{few_nodes}

-- a level has no more edges than the diagram
level_total : (D : Diagram) (g : ℕ) → total (get_or D g []) ≤ edges D
level_total [] g = omega arith
level_total (L ∷ D) zero = omega arith
level_total (L ∷ D) (suc g) = omega (arith, level_total D g)

-- a diagram that is too large does not fit
big_unfit : (rules : List Rule) (D : Diagram) → Reduced widths (decide rules) D → Big widths D → Fitting D → ⊥
big_unfit rules D R (g, l, inl many) F = omega (arith, F.nodes g l)
big_unfit rules D R (g, l, inr many) F =
    omega (arith, level_total D g, counts.enough widths (decide rules) D R, counts.rows 0 widths D, F.rows)

undecided : (rules : List Rule) (h : List ℕ) → decide rules h ≡ None → first rules h ≡ None
undecided rules h e = go (first rules h) (sym (decide_first rules h) ∙ e)
  where
    go : (o : Option ℕ) → option_map (code_at rules) o ≡ None → o ≡ None
    go None e = refl
    go (Some i) e = let z : ◌≡◌ {A = ℕ} 0 1 = cc in absurd (omega arith)

pub failed_unfit : (rules : List Rule) → Never rules None → Failed widths (decide rules) → Fits rules → ⊥
failed_unfit rules V (inl (h, H, e)) F = V h H (undecided rules h e)
failed_unfit rules V (inr big) F = big_unfit rules F.0 F.1 (big F.0 F.1) F.2

pub long_unfit : (rules : List Rule) (D : Diagram) (side : ℕ) → Reduced widths (decide rules) D → 1024 < length (chain side widths D) → Fits rules → ⊥
long_unfit rules D side R l F =
    let e : D ≡ F.0 = determined widths (decide rules) (decide rules) D F.0 (λ h c. refl) R F.1 in
    let P : Diagram → Type 0 = λ E. 1024 < length (chain side widths E) in
    let m : 1024 < length (chain side widths F.0) = subst P e l in
    omega (arith, m, counts.rows side widths F.0, counts.rows 0 widths F.0, F.2.rows)

pub chained_fits : (Ls : List Nodes) (rows : List Row) (masks : List (List ℕ)) (side : ℕ) → length Ls ≡ 5 → length rows ≤ 1024
    → Chained rows masks side (diagram_of Ls) → Fitting (diagram_of Ls)
chained_fits Ls rows masks side len room C = record {
  nodes = λ f l. few_nodes Ls len f l;
  rows = (let a = ap length C.are in omega (arith, a, counts.rows side widths (diagram_of Ls), counts.rows 0 widths (diagram_of Ls)));
}
