-- The sides of a card.
use Rattle.card.specs.declared.states.SideState.TheVariants.{Free}
use Rattle.card.specs.declared.cards.Side.{Side}

-- A side as it is at the start.
abbrev pub fresh : Side
fresh = record { state = Free; held = 0 }
