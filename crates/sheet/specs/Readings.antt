-- What the numbers of a field mean.
use Rattle.std.specs.Prelude.{ℕ, ◌+◌, ◌-◌, ◌*◌, ◌%◌, ◌^◌, Bool, cond, ◌&&◌, List, [], ◌∷◌, Some, None, Option, ◌==◌, nat_le}
use Rattle.policy.specs.declared.rules.Range.{Range}
use Rattle.faults.specs.declared.FieldFault.TheVariants.{OutOfRange}
use Rattle.faults.specs.declared.Spot.{Spot}
use Rattle.sheet.specs.declared.tokens.Mark.{Mark}
use Rattle.sheet.specs.declared.tokens.Mark.TheVariants.{Dot}
use Rattle.sheet.specs.Forms.{Want, digits, the, position, Read, got, fault, walk, port_form, address_form, protocol_form}

abbrev pub span : ℕ → ℕ → Range
span lo hi = record { low = lo; high = hi }

-- No number is the whole field, one number itself, two a low and a high end.
abbrev pub port_of : List ℕ → Option Range
port_of [] = Some (span 0 65535)
port_of (a ∷ []) = cond (nat_le a 65535) (Some (span a a)) None
port_of (a ∷ b ∷ []) = cond (nat_le b 65535 && nat_le a b) (Some (span a b)) None
port_of (a ∷ b ∷ c ∷ ns) = None

abbrev pub whole_address : Range
whole_address = span 0 4294967295

-- The numbers a.b.c.d and the length n: a block, whose bits after the length are zero.
abbrev pub address_low : ℕ → ℕ → ℕ → ℕ → ℕ
address_low a b c d = ((a * 256 + b) * 256 + c) * 256 + d

-- What follows the first of four numbers with dots, up to the mark after them.
abbrev pub dotted_rest : Mark → List Want
dotted_rest close = the Dot ∷ digits ∷ the Dot ∷ digits ∷ the Dot ∷ digits ∷ the close ∷ []

-- The address of four numbers up to 255.
abbrev pub dotted_of : List ℕ → Option ℕ
dotted_of [] = None
dotted_of (a ∷ []) = None
dotted_of (a ∷ b ∷ []) = None
dotted_of (a ∷ b ∷ c ∷ []) = None
dotted_of (a ∷ b ∷ c ∷ d ∷ []) = cond (nat_le a 255 && (nat_le b 255 && (nat_le c 255 && nat_le d 255))) (Some (address_low a b c d)) None
dotted_of (a ∷ b ∷ c ∷ d ∷ e ∷ ns) = None

abbrev pub is_block : ℕ → ℕ → ℕ → ℕ → ℕ → Bool
is_block a b c d n = nat_le a 255 && (nat_le b 255 && (nat_le c 255 && (nat_le d 255 && (nat_le n 32 && address_low a b c d % 2 ^ (32 - n) == 0))))

abbrev pub address_of : List ℕ → Option Range
address_of [] = Some whole_address
address_of (a ∷ []) = None
address_of (a ∷ b ∷ []) = None
address_of (a ∷ b ∷ c ∷ []) = None
address_of (a ∷ b ∷ c ∷ d ∷ []) = None
address_of (a ∷ b ∷ c ∷ d ∷ n ∷ []) =
    cond (is_block a b c d n) (Some (span (address_low a b c d) (address_low a b c d + (2 ^ (32 - n) - 1)))) None
address_of (a ∷ b ∷ c ∷ d ∷ n ∷ m ∷ ns) = None

abbrev pub protocol_of : List ℕ → Option Range
protocol_of [] = Some (span 0 255)
protocol_of (a ∷ []) = cond (nat_le a 255) (Some (span a a)) None
protocol_of (a ∷ b ∷ ns) = None

abbrev pub ranged : {A : Type 0} → Spot → ℕ → ℕ → Option A → Read A
ranged p from to (Some s) = got s to
ranged p from to None = fault (OutOfRange (position from p))

abbrev pub meant : {A : Type 0} → (List ℕ → Option A) → Spot → ℕ → Read (List ℕ) → Read A
meant of p from (got ns to) = ranged p from to (of ns)
meant of p from (fault f) = fault f

abbrev pub port_at : List ℕ → Spot → ℕ → Read Range
port_at s p at = meant port_of p at (walk 4 port_form s p at)

abbrev pub address_at : List ℕ → Spot → ℕ → Read Range
address_at s p at = meant address_of p at (walk 10 address_form s p at)

abbrev pub protocol_at : List ℕ → Spot → ℕ → Read Range
protocol_at s p at = meant protocol_of p at (walk 2 protocol_form s p at)
