-- How the events of a history are put into numbers.
use Rattle.std.specs.Prelude.{ℕ, if◌then◌else◌, Option, Some, None}
use Rattle.fj_rules.specs.declared.event.Event.{Event}
use Rattle.fj_rules.specs.declared.event.Event.TheVariants.{Acc, Make, Out, Skip, End, Add, Dec, Fire, Pass, Hooked, Settle, Close, Stop, Rel}
use Rattle.fj_rules.specs.declared.event.How.{How}
use Rattle.fj_rules.specs.declared.event.How.TheVariants.{Zero, Complete}
use Rattle.fj_rules.specs.declared.kind.Kind.{Kind}
use Rattle.fj_rules.specs.declared.kind.Kind.TheVariants.{Plain, Completer}
use Rattle.fj_rules.specs.declared.owner.Owner.{Owner}
use Rattle.fj_rules.specs.declared.owner.Owner.TheVariants.{Sub, Work}
use Rattle.fj_codes.specs.declared.codes.TheConstants as code
use Rattle.fj_codes.specs.declared.events.Happened.{Happened}
use Rattle.fj_codes.specs.Codings.{status_number}

-- an event without a kind
abbrev pub happened : ℕ → ℕ → ℕ → ℕ → Happened
happened what by task value = record { what = what; by = by; kind = code.PLAIN; task = task; value = value; parent = code.NO_TASK }

abbrev pub parent_number : Option ℕ → ℕ
parent_number (Some p) = p
parent_number None = code.NO_TASK

-- what a kind is, its pending count and its parent
abbrev pub kind_codes : Kind → ℕ × ℕ × ℕ
kind_codes Plain = (code.PLAIN, 0, code.NO_TASK)
kind_codes (Completer relay count parent) = (if relay then code.RELAYING else code.COMPLETER, count, parent_number parent)

-- the event of a task that comes into the pool
abbrev pub comes : ℕ → ℕ → ℕ → Kind → Happened
comes what by task kind = record (happened what by task (kind_codes kind).1) { kind = (kind_codes kind).0; parent = (kind_codes kind).2 }

-- whose queue a task is accepted into
abbrev pub acc_code : Owner → ℕ × ℕ
acc_code (Sub s) = (code.ACC_SUB, s)
acc_code (Work w) = (code.ACC_WORK, w)

abbrev pub how_code : How → ℕ
how_code Zero = code.FIRE_ZERO
how_code Complete = code.FIRE_COMPLETE

abbrev pub event_of : Event → Happened
event_of (Acc t owner kind) = comes (acc_code owner).0 (acc_code owner).1 t kind
event_of (Make t kind) = comes code.MAKE 0 t kind
event_of (Out t w) = happened code.OUT w t 0
event_of (Skip t w) = happened code.SKIPPED w t 0
event_of (End t w) = happened code.END w t 0
event_of (Add c n) = happened code.ADD 0 c n
event_of (Dec c) = happened code.DEC 0 c 0
event_of (Fire c how) = happened (how_code how) 0 c 0
event_of (Pass c) = happened code.PASSED 0 c 0
event_of (Hooked c) = happened code.HOOKED 0 c 0
event_of (Settle t status) = happened code.SETTLE 0 t (status_number status)
event_of Close = happened code.CLOSE 0 0 0
event_of Stop = happened code.STOPPED 0 0 0
event_of (Rel t) = happened code.REL 0 t 0
