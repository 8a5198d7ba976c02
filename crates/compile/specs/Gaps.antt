-- The least header whose first rule met is a given one, or that meets no rule.
use Rattle.std.specs.Prelude.{◌≡◌, ℕ, suc, ◌<◌, ◌≢◌, List, ◌∷◌, drop, Option}
use Rattle.policy.specs.declared.rules.Rule.{Rule}
use Rattle.policy.specs.Fields.{widths}
use Rattle.policy.specs.Rules.{first}
use Rattle.diagram.specs.Diagrams.{Header, Before}
use Rattle.compile.specs.declared.caches.Known.{Known}
use Rattle.compile.specs.Lives.{first_live_rule}
use Rattle.compile.specs.Builds.{Holds}

-- g is the least header whose first rule met is t; where t is none, the least that meets no rule.
pub record LeastOfAll (rules : List Rule) (t : Option ℕ) (g : List ℕ) : Type 0 where
  pub header : Header widths g
  pub met : first rules g ≡ t
  pub least : (h : List ℕ) → Header widths h → Before h g → first rules h ≢ t

-- There is no such header.
abbrev pub Never : List Rule → Option ℕ → Type 0
Never rules t = (h : List ℕ) → Header widths h → first rules h ≢ t

-- The same of numbers for the fields from one on, among live rules.
pub record LeastLive (rules : List Rule) (live field : ℕ) (t : Option ℕ) (s : List ℕ) : Type 0 where
  pub fits : Header (drop field widths) s
  pub met : first_live_rule rules live field s ≡ t
  pub least : (q : List ℕ) → Header (drop field widths) q → Before q s → first_live_rule rules live field q ≢ t

abbrev pub NeverLive : List Rule → ℕ → ℕ → Option ℕ → Type 0
NeverLive rules live field t = (s : List ℕ) → Header (drop field widths) s → first_live_rule rules live field s ≢ t

-- No such numbers begin with a value below low.
abbrev pub NoneBelow : List Rule → ℕ → ℕ → Option ℕ → ℕ → Type 0
NoneBelow rules live field t low =
    (y : ℕ) (h : List ℕ) → y < low → Header (drop (suc field) widths) h → first_live_rule rules live field (y ∷ h) ≢ t

-- What is known is so: for the live rules of an entry there are no such numbers.
abbrev pub Excludes : List Rule → Option ℕ → List (Option Known) → Type 0
Excludes rules t known = (e : Known) → Holds known e → NeverLive rules e.rest.live.bits e.rest.field t
