-- What the builder keeps on its way.
use Rattle.std.specs.Prelude.{◌≡◌, ℕ, ◌<◌, ◌≤◌, List, length, take, drop, Some, None, Option, slice_index_or}
use Rattle.std.specs.Option.{option_map}
use Rattle.policy.specs.declared.rules.Rule.{Rule}
use Rattle.policy.specs.Fields.{widths}
use Rattle.policy.specs.Rules.{decide}
use Rattle.diagram.specs.Diagrams.{Diagram, Begins, Before, Header, walk}
use Rattle.diagram.specs.States.{State, Built, nodes}
use Rattle.compile.specs.declared.levels.Level.{Level}
use Rattle.compile.specs.declared.caches.Known.{Known}
use Rattle.compile.specs.Lives.{Live, first_live_rule, code_at}
use Rattle.compile.specs.Levels.{diagram_of}

-- Node k of level g decides as these live rules do.
abbrev pub Leads : List Rule → Diagram → ℕ → ℕ → ℕ → Type 0
Leads rules D g live k =
    (k < nodes D g) × ((h : List ℕ) → Header (drop g widths) h → option_map (code_at rules) (first_live_rule rules live g h) ≡ Some (walk (drop g D) k h))

-- An entry stands in the memory.
abbrev pub Holds : List (Option Known) → Known → Type 0
Holds known e = (i : ℕ) × (slice_index_or known i None ≡ Some e)

-- What is known is so: the node of an entry decides as its live rules do.
abbrev pub Remembers : List Rule → Diagram → List (Option Known) → Type 0
Remembers rules D known = (e : Known) → Holds known e → Leads rules D e.rest.field e.rest.live.bits e.node

-- Before the node of a string is built: all strings before it are done.
pub record Ready (rules : List Rule) (header : List ℕ) (live field : ℕ) (Ls : List Level) (known : List (Option Known)) : Type 0 where
  pub most : field ≤ 5
  pub size : length header ≡ 5
  pub begins : Begins widths (take field header)
  pub alive : Live rules (take field header) live
  pub state : State widths (decide rules) (diagram_of Ls) (λ q. Before q (take field header))
  pub memory : Remembers rules (diagram_of Ls) known

-- And after it: the string and all that go on from it are done, and k is its node.
pub record Finished (rules : List Rule) (header : List ℕ) (field : ℕ) (Ls Ms : List Level) (known : List (Option Known)) (k : ℕ) : Type 0 where
  pub built : Built widths (decide rules) (diagram_of Ls) (diagram_of Ms) (take field header) k
  pub memory : Remembers rules (diagram_of Ms) known
