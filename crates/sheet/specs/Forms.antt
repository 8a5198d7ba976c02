-- The form of each field, and the first token that fails it.
use Rattle.std.specs.Prelude.{ℕ, zero, suc, ◌+◌, Bool, true, false, cond, ◌&&◌, List, [], ◌∷◌, ◌++◌, length, drop, Some, None, codes, Option, ◌==◌}
use Rattle.std.specs.Str.Parse.{digits_value}
use Rattle.sheet.specs.declared.tokens.Mark.{Mark}
use Rattle.sheet.specs.declared.tokens.Mark.TheVariants.{Dot, Slash, Dash, Star, Comma, LineFeed}
use Rattle.faults.specs.declared.FieldFault.{FieldFault}
use Rattle.faults.specs.declared.FieldFault.TheVariants.{IllMade, Misfit}
use Rattle.faults.specs.declared.Spot.{Spot}
use Rattle.faults.specs.declared.Position.{Position}
use Rattle.sheet.specs.Tokens.{Tok, number, word, mark, token, size}

-- What a place of a form asks of a token.
pub data Want : Type 0 where
  digits : Want
  the : Mark → Want
  name : List ℕ → Want

abbrev pub byte : Mark → ℕ
byte Dot = 46
byte Slash = 47
byte Dash = 45
byte Star = 42
byte Comma = 44
byte LineFeed = 10

abbrev pub same : List ℕ → List ℕ → Bool
same [] [] = true
same [] (y ∷ ys) = false
same (x ∷ xs) [] = false
same (x ∷ xs) (y ∷ ys) = x == y && same xs ys

abbrev pub fits : Want → Tok → Bool
fits digits (number ds) = true
fits digits (word ls) = false
fits digits (mark m) = false
fits (the m) (number ds) = false
fits (the m) (word ls) = false
fits (the m) (mark n) = byte m == byte n
fits (name ws) (number ds) = false
fits (name ws) (word ls) = same ws ls
fits (name ws) (mark m) = false

-- Each way to write a field, its closing comma included.
abbrev pub port_form : List (List Want)
port_form =
    (the Star ∷ the Comma ∷ [])
    ∷ (digits ∷ the Comma ∷ [])
    ∷ (digits ∷ the Dash ∷ digits ∷ the Comma ∷ [])
    ∷ []

abbrev pub address_form : List (List Want)
address_form =
    (the Star ∷ the Comma ∷ [])
    ∷ (digits ∷ the Dot ∷ digits ∷ the Dot ∷ digits ∷ the Dot ∷ digits ∷ the Slash ∷ digits ∷ the Comma ∷ [])
    ∷ []

abbrev pub protocol_form : List (List Want)
protocol_form =
    (the Star ∷ the Comma ∷ [])
    ∷ (digits ∷ the Comma ∷ [])
    ∷ (name (codes "tcp") ∷ the Comma ∷ [])
    ∷ (name (codes "udp") ∷ the Comma ∷ [])
    ∷ (name (codes "icmp") ∷ the Comma ∷ [])
    ∷ []

-- What is left of the ways that begin with a token.
abbrev pub after : Tok → List (List Want) → List (List Want)
after t [] = []
after t ([] ∷ ways) = after t ways
after t ((w ∷ ws) ∷ ways) = cond (fits w t) (ws ∷ after t ways) (after t ways)

-- One of the ways is at its end.
abbrev pub ended : List (List Want) → Bool
ended [] = false
ended ([] ∷ ways) = true
ended ((w ∷ ws) ∷ ways) = ended ways

-- The number that a name stands for.
abbrev pub named : List ℕ → ℕ
named ls = cond (same (codes "tcp") ls) 6 (cond (same (codes "udp") ls) 17 1)

-- The number that a token says, if any.
abbrev pub figures : Tok → List ℕ
figures (number ds) = digits_value 10 ds ∷ []
figures (word ls) = named ls ∷ []
figures (mark m) = []

-- A byte and its spot.
abbrev pub position : ℕ → Spot → Position
position at p = record { at = at; spot = p }

-- What was read and the byte after it, or the fault.
pub data Read (A : Type 0) : Type 0 where
  got : A → ℕ → Read A
  fault : FieldFault → Read A

abbrev pub noted : List ℕ → Read (List ℕ) → Read (List ℕ)
noted ns (got ms at) = got (ns ++ ms) at
noted ns (fault f) = fault f

-- A well-made token is asked whether some way to write the field goes on with it; `ways` is what is left of these.
-- The spot `p` is the line and the field.
abbrev pub went : Spot → (List (List Want) → ℕ → Read (List ℕ)) → Tok → ℕ → List (List Want) → Read (List ℕ)
went p next t at [] = fault (Misfit (position at p))
went p next t at (w ∷ ws) = cond (ended (w ∷ ws)) (got (figures t) (at + size t)) (noted (figures t) (next (w ∷ ws) (at + size t)))

abbrev pub turn : Spot → (List (List Want) → ℕ → Read (List ℕ)) → List (List Want) → ℕ → Option Tok → Read (List ℕ)
turn p next ways at None = fault (IllMade (record { position = position at p }))
turn p next ways at (Some t) = went p next t at (after t ways)

-- The numbers of a field that begins at byte `at`: each token is asked whether it is well made, and then whether some way
-- to write the field goes on with it. `k` is at least the length of the longest way.
abbrev pub walk : ℕ → List (List Want) → List ℕ → Spot → ℕ → Read (List ℕ)
walk zero ways s p at = fault (Misfit (position at p))
walk (suc k) ways s p at = turn p (λ ws to. walk k ws s p to) ways at (token (drop at s))

-- The numbers of tokens that can be written in one way alone.
unfoldable pub way_at : List Want → List ℕ → Spot → ℕ → Read (List ℕ)
way_at way s p at = walk (length way) (way ∷ []) s p at

-- What is left of a form after a number.
abbrev pub port_rest : List (List Want)
port_rest = after (number []) port_form

abbrev pub address_rest : List (List Want)
address_rest = after (number []) address_form
