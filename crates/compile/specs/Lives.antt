-- Live rules: those that a string of values for the first fields still meets, as the bits of a number.
use Rattle.std.specs.Prelude.{◌≡◌, ℕ, zero, suc, ◌^◌, ◌<◌, ◌≤◌, Bool, true, false, cond, ◌&&◌, ◌⊎◌, List, ◌∷◌, ◌++◌, length, drop, Some, None, Option, ◌≢◌, slice_index, slice_index_or}
use Rattle.policy.specs.declared.rules.Rule.{Rule}
use Rattle.policy.specs.Fields.{widths}
use Rattle.policy.specs.Rules.{admits, meets_from, rule_at, first}
use Rattle.diagram.specs.Diagrams.{Header}
use Rattle.diagram.specs.Masks.{bit}
use Rattle.compile.specs.declared.lives.Piece.{Piece}
use Rattle.compile.specs.declared.sets.BitSet.{BitSet}

-- An earlier place, or else the place n where the test holds there.
abbrev pub or_here : Option ℕ → Bool → ℕ → Option ℕ
or_here (Some i) b n = Some i
or_here None b n = cond b (Some n) None

-- The first place below n at which a test holds.
abbrev pub first_where : (ℕ → Bool) → ℕ → Option ℕ
first_where test zero = None
first_where test (suc n) = or_here (first_where test n) (test n) n

-- Rule i is live and takes the numbers as values of the fields from this one on.
abbrev pub takes : List Rule → ℕ → ℕ → List ℕ → ℕ → Bool
takes rules live field numbers i = bit live i && meets_from (rule_at rules i) field numbers

-- The first live rule that takes the numbers.
abbrev pub first_live_rule : List Rule → ℕ → ℕ → List ℕ → Option ℕ
first_live_rule rules live field numbers = first_where (takes rules live field numbers) (length rules)

-- The code of a rule.
abbrev pub code_at : List Rule → ℕ → ℕ
code_at rules i = (rule_at rules i).code

-- The live rules of a string: whatever numbers follow it, the first rule met is the first live one that
-- takes them.
abbrev pub Live : List Rule → List ℕ → ℕ → Type 0
Live rules p live = (h : List ℕ) → Header (drop (length p) widths) h → first rules (p ++ h) ≡ first_live_rule rules live (length p) h

-- Rules that take all numbers for the fields from this one on.
abbrev pub Whole : List Rule → ℕ → ℕ → Type 0
Whole rules field mask =
    (i : ℕ) → i < length rules → bit mask i ≡ true → (h : List ℕ) → Header (drop field widths) h → meets_from (rule_at rules i) field h ≡ true

-- The set of no rule: what a place past the end of a list of sets is read as.
abbrev pub no_rule : BitSet
no_rule = record { bits = 0 }

-- For each field, rules that take all values of it and of all further fields.
abbrev pub AllWhole : List Rule → List BitSet → Type 0
AllWhole rules wholes = (f : ℕ) → f ≤ 5 → Whole rules f (slice_index_or wholes f no_rule).bits

-- The values from low to the end of a piece leave the same live rules.
pub record Cut (rules : List Rule) (live field low top : ℕ) (piece : Piece) : Type 0 where
  pub ahead : low ≤ piece.end
  pub within : piece.end ≤ top
  pub alike : (y : ℕ) → low ≤ y → y ≤ piece.end → (h : List ℕ) → Header (drop (suc field) widths) h
      → first_live_rule rules live field (y ∷ h) ≡ first_live_rule rules piece.live.bits (suc field) h

-- One rule more was looked at for the run that begins at low: it is kept exactly where it is live and
-- takes the values of the run, which may have become shorter.
pub record Narrowed (rule : Rule) (i live field low : ℕ) (before after : Piece) : Type 0 where
  pub ahead : low ≤ after.end
  pub within : after.end ≤ before.end
  pub here : (y : ℕ) → low ≤ y → y ≤ after.end → bit after.live.bits i ≡ (bit live i && admits rule field y)
  pub others : (j : ℕ) → (j ≢ i) → bit after.live.bits j ≡ bit before.live.bits j

-- The rules below n were looked at.
pub record Looked (rules : List Rule) (live field low n : ℕ) (piece : Piece) : Type 0 where
  pub kept : (j : ℕ) → j < n → (y : ℕ) → low ≤ y → y ≤ piece.end → bit piece.live.bits j ≡ (bit live j && admits (rule_at rules j) field y)
  pub left : (j : ℕ) → n ≤ j → bit piece.live.bits j ≡ false

-- A rule takes all values of a field.
abbrev pub Covers : Rule → ℕ → Type 0
Covers rule field = (x : ℕ) → x < 2 ^ slice_index widths field → admits rule field x ≡ true

-- A mask with at most one more rule, which takes all values of this field and is in the mask for the
-- fields after it.
abbrev pub Widened : Rule → ℕ → ℕ → ℕ → ℕ → ℕ → Type 0
Widened rule i field after mask more =
    (j : ℕ) → bit more j ≡ true → (bit mask j ≡ true) ⊎ ((j ≡ i) × (bit after i ≡ true) × Covers rule field)

-- Of the rules below n, those of the mask take all values of this field, and of the fields after it.
abbrev pub Covering : List Rule → ℕ → ℕ → ℕ → ℕ → Type 0
Covering rules field after n mask = (i : ℕ) → bit mask i ≡ true → (i < n) × (bit after i ≡ true) × Covers (rule_at rules i) field
