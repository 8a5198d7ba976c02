-- What the calls of a reader answer.
use Rattle.std.specs.Prelude.{◌≡◌, ℕ, ◌+◌, List, [], ◌∷◌, drop, Some, None, Ok, Err, Option, Result}
use Rattle.sheet.specs.declared.tokens.Digits.{Digits}
use Rattle.sheet.specs.declared.tokens.Token.{Token}
use Rattle.sheet.specs.declared.tokens.Token.TheVariants.{Number, Word, Mark}
use Rattle.sheet.specs.declared.reader.Reader.{Reader}
use Rattle.faults.specs.declared.TokenFault.{TokenFault}
use Rattle.faults.specs.declared.FieldFault.{FieldFault}
use Rattle.faults.specs.declared.SheetFault.{SheetFault}
use Rattle.faults.specs.declared.Spot.{Spot}
use Rattle.sheet.specs.Tokens.{Tok, number, word, mark, token, size}
use Rattle.sheet.specs.Forms.{position, Read, got, fault}
use Rattle.sheet.specs.Lines.{spot}
use Rattle.sheet.specs.Sheets.{Lined, good, bad}

-- A number, and a token, by their bytes.
abbrev pub written : Digits → Tok
written ds = number ds.bytes.now

abbrev pub seen : Token → Tok
seen (Number ds) = written ds
seen (Word ls) = word ls.now
seen (Mark m) = mark m

-- A token was taken at a byte, and the reader stands at `end`.
abbrev pub Taken : List ℕ → Spot → ℕ → ℕ → Result Token TokenFault → Type 0
Taken s p at end (Ok t) = (token (drop at s) ≡ Some (seen t)) × (end ≡ at + size (seen t))
Taken s p at end (Err f) = (token (drop at s) ≡ None) × (f ≡ record { position = position at p })

-- The reader took a token, and stands in the same sheet, line and field.
pub record Took (was is : Reader) (r : Result Token TokenFault) : Type 0 where
  pub sheet : is.sheet.now ≡ was.sheet.now
  pub spot : is.spot ≡ was.spot
  pub taken : Taken was.sheet.now was.spot was.at is.at r

-- What a call answered that left the reader at a byte.
abbrev pub answer : {A B : Type 0} → (A → B) → Result A FieldFault → ℕ → Read B
answer f (Ok x) end = got (f x) end
answer f (Err e) end = fault e

-- Where the reader stood the sheet says this, and the reader stands in the same sheet, line and field.
pub record InField {A : Type 0} (says : List ℕ → Spot → ℕ → Read A) (was is : Reader) (x : Read A) : Type 0 where
  pub sheet : is.sheet.now ≡ was.sheet.now
  pub spot : is.spot ≡ was.spot
  pub told : says was.sheet.now was.spot was.at ≡ x

-- Where the reader stood the sheet says this in this line, and the reader stands in the same sheet and line.
pub record InLine {A : Type 0} (says : List ℕ → ℕ → ℕ → A) (was is : Reader) (x : A) : Type 0 where
  pub sheet : is.sheet.now ≡ was.sheet.now
  pub line : is.spot.line ≡ was.spot.line
  pub told : says was.sheet.now was.spot.line was.at ≡ x

-- What is said of a field of line l.
abbrev pub in_field : {A : Type 0} → (List ℕ → Spot → ℕ → A) → ℕ → List ℕ → ℕ → ℕ → A
in_field says field s l at = says s (spot l field) at

-- The reader begins a field of its line.
pub record Began (field : ℕ) (was is : Reader) : Type 0 where
  pub sheet : is.sheet.now ≡ was.sheet.now
  pub at : is.at ≡ was.at
  pub spot : is.spot ≡ spot was.spot.line field

abbrev pub one : ℕ → List ℕ
one n = n ∷ []

abbrev pub none : Unit {0} → List ℕ
none u = []

abbrev pub triple : ℕ × ℕ × ℕ → List ℕ
triple t = t.0 ∷ t.1 ∷ t.2 ∷ []

abbrev pub listed : Option ℕ → List ℕ
listed None = []
listed (Some n) = n ∷ []

abbrev pub itself : {A : Type 0} → A → A
itself x = x

-- What a call answered of a line.
abbrev pub line_answer : {A : Type 0} → Result A SheetFault → ℕ → Lined A
line_answer (Ok x) end = good x end
line_answer (Err e) end = bad e
