-- What a fault tells.
use Rattle.std.specs.Prelude.{ℕ}
use Rattle.faults.specs.declared.FieldFault.{FieldFault}
use Rattle.faults.specs.declared.FieldFault.TheVariants.{IllMade, Misfit, OutOfRange}
use Rattle.faults.specs.declared.SheetFault.{SheetFault}
use Rattle.faults.specs.declared.SheetFault.TheVariants.{TooLong, NoPlace, NoLineFeed, Field, NoWord}
use Rattle.faults.specs.declared.Layer.{Layer}
use Rattle.faults.specs.declared.Layer.TheVariants as layers
use Rattle.faults.specs.declared.Position.{Position}
use Rattle.faults.specs.declared.Told.{Told}

-- The fault of a question, at a byte of a line and a field.
abbrev pub tells_at : ℕ → ℕ → ℕ → ℕ → Layer → Told
tells_at number byte line field layer = record { number = number; byte = byte; line = line; field = field; layer = layer }

-- The fault of a question, at a position.
abbrev pub tells_here : ℕ → Position → Layer → Told
tells_here number here layer = tells_at number here.at here.spot.line here.spot.field layer

-- Question 4 asks whether a token is well made; 5 asks whether it fits the form of its field; 6 asks
-- whether the numbers of a field are in range.
abbrev pub field_told : FieldFault → Told
field_told (IllMade fault) = tells_here 4 fault.position layers.Token
field_told (Misfit here) = tells_here 5 here layers.Field
field_told (OutOfRange here) = tells_here 6 here layers.Field

-- Question 1 asks whether the sheet has at most 8,192 bytes; 2 asks whether there is a place for a
-- line; 3 asks whether the line has its line feed; 7 asks whether the last field is a word of the kind.
abbrev pub told : SheetFault → Told
told TooLong = tells_at 1 8192 0 0 layers.Sheet
told (NoPlace at line) = tells_at 2 at line 0 layers.Sheet
told (NoLineFeed at line) = tells_at 3 at line 0 layers.Sheet
told (Field fault) = field_told fault
told (NoWord here) = tells_here 7 here layers.Kind
