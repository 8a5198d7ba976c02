use Rattle.std.proofs.Common.{refl}
use Rattle.faults.specs.declared.FieldFault.TheVariants.{OutOfRange}
use Rattle.faults.specs.declared.SheetFault.TheVariants.{Field}
use Rattle.sheet.specs.Forms.{position}
use Rattle.sheet.specs.Lines.{spot}
use Rattle.sheet.specs.Tokens.{token}
use Rattle.sheet_worked.proofs.Examples.{refused_with}
use Rattle.sheet_worked.proofs.bit_after_length.Goals as goal

pub returns : goal.returns
unfolding token
returns c = refused_with (Field (OutOfRange (position 0 (spot 1 1)))) c.read_rules.ensures.answers refl
