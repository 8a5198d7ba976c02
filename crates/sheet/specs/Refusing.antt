-- Why a sheet of rules is refused.
use Rattle.std.specs.Prelude.{◌≡◌, ℕ, ◌+◌, ◌<◌, ◌≤◌, min, false, List, [], ◌∷◌, ◌++◌, length, take, drop, Some, None, Ok, Err, Option, Result}
use Rattle.policy.specs.declared.rules.Range.{Range}
use Rattle.policy.specs.declared.rules.Rule.{Rule}
use Rattle.policy.specs.Letters.{Lacks}
use Rattle.faults.specs.declared.Spot.{Spot}
use Rattle.faults.specs.declared.FieldFault.{FieldFault}
use Rattle.faults.specs.declared.FieldFault.TheVariants.{IllMade, Misfit, OutOfRange}
use Rattle.faults.specs.declared.SheetFault.{SheetFault}
use Rattle.faults.specs.declared.SheetFault.TheVariants.{TooLong, NoPlace, NoLineFeed, Field, NoWord}
use Rattle.sheet.specs.Forms.{Want, position, got, after, ended, walk, address_form, port_form, protocol_form}
use Rattle.sheet.specs.Lines.{spot}
use Rattle.sheet.specs.Meaning.{Line, Means, Address, Port}
use Rattle.sheet.specs.Readings.{address_of, port_of, protocol_of}
use Rattle.sheet.specs.Tokens.{Tok, token, size}

-- Well-made tokens lead from byte `at` to byte `to`, each of them one with which a way to write the field
-- goes on; `left` is what is then left of the ways.
pub data Reached (s : List ℕ) : List (List Want) → ℕ → List (List Want) → ℕ → Type 0 where
  here : {ways : List (List Want)} {at : ℕ} → Reached s ways at ways at
  next : {ways left : List (List Want)} {at to : ℕ} (t : Tok) (way : List Want) (others : List (List Want)) → token (drop at s) ≡ Some t → after t ways ≡ way ∷ others → ended (way ∷ others) ≡ false →
      Reached s (way ∷ others) (at + size t) left to → Reached s ways at left to

-- No well-made token begins at byte `to`.
pub record IllMadeAt (s : List ℕ) (ways : List (List Want)) (at to : ℕ) : Type 0 where
  pub left : List (List Want)
  pub reached : Reached s ways at left to
  pub ill : token (drop to s) ≡ None

-- A well-made token begins at byte `to`, and no way to write the field goes on with it.
pub record MisfitAt (s : List ℕ) (ways : List (List Want)) (at to : ℕ) : Type 0 where
  pub left : List (List Want)
  pub t : Tok
  pub reached : Reached s ways at left to
  pub made : token (drop to s) ≡ Some t
  pub none : after t left ≡ []

-- The tokens of the field fit, and their numbers are out of range.
pub record OutOfRangeAt (s : List ℕ) (ways : List (List Want)) (range : List ℕ → Option Range) (at : ℕ) : Type 0 where
  pub most : ℕ
  pub p : Spot
  pub ns : List ℕ
  pub to : ℕ
  pub tokens : walk most ways s p at ≡ got ns to
  pub none : range ns ≡ None

-- What is wrong with a field that begins at byte `at`, whose ways to be written and whose range are given.
abbrev pub FieldStops : List (List Want) → (List ℕ → Option Range) → List ℕ → Spot → ℕ → FieldFault → Type 0
FieldStops ways range s p at (IllMade f) = (f.position.spot ≡ p) × IllMadeAt s ways at f.position.at
FieldStops ways range s p at (Misfit to) = (to.spot ≡ p) × MisfitAt s ways at to.at
FieldStops ways range s p at (OutOfRange from) = (from ≡ position at p) × OutOfRangeAt s ways range at

-- A right field stands from byte `at` up to the comma before byte `to`.
pub record RightField (means : List ℕ → Range → Type 0) (s : List ℕ) (at to : ℕ) : Type 0 where
  pub text : List ℕ
  pub range : Range
  pub right : means text range
  pub bytes : drop at s ≡ text ++ (44 ∷ drop to s)

-- One of the five fields of line l is wrong, and those before it are right.
pub data FieldWrong (s : List ℕ) (l from : ℕ) (f : FieldFault) : Type 0 where
  in_source : FieldStops address_form address_of s (spot l 1) from f → FieldWrong s l from f
  in_destination : (m : ℕ) → RightField Address s from m → FieldStops address_form address_of s (spot l 2) m f → FieldWrong s l from f
  in_source_port : (m n : ℕ) → RightField Address s from m → RightField Address s m n → FieldStops port_form port_of s (spot l 3) n f → FieldWrong s l from f
  in_destination_port : (m n o : ℕ) → RightField Address s from m → RightField Address s m n → RightField Port s n o → FieldStops port_form port_of s (spot l 4) o f → FieldWrong s l from f
  in_protocol : (m n o q : ℕ) → RightField Address s from m → RightField Address s m n → RightField Port s n o → RightField Port s o q → FieldStops protocol_form protocol_of s (spot l 5) q f → FieldWrong s l from f

-- A line whose five fields are right, and whose last field is no word of the kind. It begins at byte
-- `from`, and its last field at byte `at`.
pub record Wordless (code : List ℕ → Option ℕ) (s : List ℕ) (from at : ℕ) : Type 0 where
  pub rule : Rule
  pub text : List ℕ
  pub rest : List ℕ
  pub bytes : drop from s ≡ text ++ rest
  pub right : Line (λ word. Some rule.code) text rule
  pub ends : from + length text ≡ at + (length right.parts.word + 1)
  pub unknown : code right.parts.word ≡ None

-- What is wrong with the line that begins at byte `from`, the one after `count` lines, where there are
-- `places` places: no place is left for it; or there is one, and it has no line feed, or a field that
-- is refused, or five right fields and then no word of the kind.
abbrev pub Wrong : (List ℕ → Option ℕ) → List ℕ → ℕ → ℕ → ℕ → SheetFault → Type 0
Wrong code s places count from TooLong = ⊥
Wrong code s places count from (NoPlace at line) = (at ≡ from) × (line ≡ count + 1) × (places ≤ count)
Wrong code s places count from (NoLineFeed at line) = (at ≡ length s) × (line ≡ count + 1) × (count < places) × Lacks 10 (drop from s)
Wrong code s places count from (Field f) = (count < places) × FieldWrong s (count + 1) from f
Wrong code s places count from (NoWord at) = (count < places) × (at.spot ≡ spot (count + 1) 6) × Wordless code s from at.at

-- The lines before byte `from` mean the rules, and the line that begins there is wrong.
pub record StopsAt (code : List ℕ → Option ℕ) (s : List ℕ) (places : ℕ) (rules : List Rule) (refused : SheetFault) : Type 0 where
  pub from : ℕ
  pub inside : from < length s
  pub before : Means (Line code) (take from s) rules
  pub wrong : Wrong code s places (length rules) from refused

-- The rules before the wrong line stand in the first places.
pub record Stopped (code : List ℕ → Option ℕ) (s : List ℕ) (was is : List Rule) (refused : SheetFault) : Type 0 where
  pub short : length s ≤ 8192
  pub rules : List Rule
  pub stands : is ≡ rules ++ drop (length rules) was
  pub stops : StopsAt code s (min (length was) 64) rules refused

-- A refused sheet is too long, and no rule of it was read; or it has at most 8,192 bytes, and stops at a
-- wrong line after the lines of the rules in the first places.
abbrev pub RefusesRightly : (List ℕ → Option ℕ) → List ℕ → List Rule → List Rule → SheetFault → Type 0
RefusesRightly code s was is TooLong = (8192 < length s) × (is ≡ was)
RefusesRightly code s was is (NoPlace at line) = Stopped code s was is (NoPlace at line)
RefusesRightly code s was is (NoLineFeed at line) = Stopped code s was is (NoLineFeed at line)
RefusesRightly code s was is (Field f) = Stopped code s was is (Field f)
RefusesRightly code s was is (NoWord at) = Stopped code s was is (NoWord at)

-- What is known of a refusal.
abbrev pub RefusalsRight : (List ℕ → Option ℕ) → List ℕ → List Rule → List Rule → Result ℕ SheetFault → Type 0
RefusalsRight code s was is (Ok count) = Unit {0}
RefusalsRight code s was is (Err refused) = RefusesRightly code s was is refused
