-- What is read of the history of a machine.
use Rattle.std.specs.Prelude.{ℕ, Option, Some, None, slice_get}
use Rattle.fj_rules.specs.declared.event.Event.{Event}
use Rattle.fj_rules.specs.Pasts.{Past, present}
use Rattle.fj_codes.specs.declared.codes.TheConstants as code
use Rattle.fj_codes.specs.declared.events.Happened.{Happened}
use Rattle.fj_codes.specs.declared.replies.Reply.{Reply}
use Rattle.fj_codes.specs.Codings.{reply}
use Rattle.fj_codes.specs.Events.{event_of}

-- the event at a place of the history since the last seal
abbrev pub event_at : ℕ → Past → Option Event
event_at place past = slice_get (present past) place

-- whether there is one
abbrev pub found : Option Event → Reply
found (Some event) = reply code.DONE 0
found None = reply code.NO_PLACE 0

-- its numbers, else those that were there
abbrev pub written : Option Event → Happened → Happened
written (Some event) other = event_of event
written None other = other

abbrev pub written_at : ℕ → Option Past → Happened → Happened
written_at place (Some past) other = written (event_at place past) other
written_at place None other = other
