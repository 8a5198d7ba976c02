-- What compiling a list answers and leaves.
use Rattle.std.specs.Prelude.{◌≡◌, ℕ, ◌%◌, List, length, None, Option}
use Rattle.questions.specs.Asking.{ask, accept}
use Rattle.policy.specs.declared.rules.Rule.{Rule}
use Rattle.policy.specs.Fields.{widths}
use Rattle.policy.specs.Rules.{decide}
use Rattle.policy.specs.Refusals.{list_number, list_asks, ListNames}
use Rattle.diagram.specs.Diagrams.{Diagram, Reduced}
use Rattle.compile.specs.declared.refusals.CompileRefusal.{CompileRefusal}
use Rattle.compile.specs.declared.refusals.CompileRefusal.TheVariants.{List as OfList, Gap, TooLarge}
use Rattle.compile.specs.declared.places.Place.{Place}
use Rattle.compile.specs.Gaps.{LeastOfAll, Never}
use Rattle.compile.specs.Places.{diagram_in, Fitting}
use Rattle.compile.specs.Writing.{Chained}
use Rattle.compile.specs.Vectors.{items}

-- The number of each refusal.
abbrev pub compile_number : CompileRefusal → ℕ
compile_number (OfList refusal) = list_number refusal
compile_number (Gap header) = 10
compile_number TooLarge = 11

-- The reduced diagram of the rules fits.
abbrev pub Fits : List Rule → Type 0
Fits rules = (D : Diagram) × Reduced widths (decide rules) D × Fitting D

-- The questions: those about the list, then whether every header meets a rule (10) and whether the chain
-- fits (11).
abbrev pub compile_asks : (ℕ → Type 0) → List Rule → Option ℕ → Type 0
compile_asks coded rules = list_asks coded rules (ask 10 (Never rules None) (ask 11 (Fits rules) accept))

-- The place holds the reduced diagram of the rules and the rows of its chain for a side, so many as told.
pub record Made (rules : List Rule) (side : ℕ) (place : Place) (rows : ℕ) : Type 0 where
  pub reduced : Reduced widths (decide rules) (diagram_in place)
  pub fits : Fitting (diagram_in place)
  pub chained : Chained (items place.rows) place.lengths (side % 4) (diagram_in place)
  pub count : rows ≡ length (items place.rows)

-- A refusal names the first rule that is not good, or the least header that meets no rule.
abbrev pub CompileNames : (ℕ → Type 0) → List Rule → CompileRefusal → Type 0
CompileNames coded rules (OfList refusal) = ListNames coded rules refusal
CompileNames coded rules (Gap header) = LeastOfAll rules None header.numbers
CompileNames coded rules TooLarge = Unit {0}
