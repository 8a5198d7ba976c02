-- The event that a call and its answer make.
use Rattle.std.specs.Prelude.{ℕ, Ok, Err, Result}
use Rattle.policy.specs.declared.fields.Header.{Header}
use Rattle.card.specs.declared.refusals.Refusal.{Refusal}
use Rattle.card.specs.declared.events.Call.TheVariants.{ReadSide, ReadSeat, Clear, LookUp}
use Rattle.card.specs.declared.events.Event.{Event}
use Rattle.card.specs.declared.events.Event.TheVariants.{SideRead, SeatRead, Cleared, Began, Refused}
use Rattle.card.specs.declared.cards.Side.{Side}
use Rattle.card.specs.declared.tickets.LookupTicket.{LookupTicket}

abbrev pub side_read : ℕ → Result Side Refusal → Event
side_read s (Ok x) = SideRead s x.state x.held
side_read s (Err r) = Refused (ReadSide s) r

abbrev pub seat_read : ℕ → Result ℕ Refusal → Event
seat_read k (Ok n) = SeatRead k n
seat_read k (Err r) = Refused (ReadSeat k) r

abbrev pub cleared : ℕ → Result (Unit {0}) Refusal → Event
cleared s (Ok u) = Cleared s
cleared s (Err r) = Refused (Clear s) r

-- The ticket goes to the place i of the ticket box.
abbrev pub looked_up : ℕ → Header → ℕ → Result LookupTicket Refusal → Event
looked_up k a i (Ok t) = Began k a i
looked_up k a i (Err r) = Refused (LookUp k a i) r
