-- How what a machine says is put into numbers.
use Rattle.std.specs.Prelude.{ℕ, ◌+◌}
use Rattle.fj_rules.specs.declared.said.Said.{Said}
use Rattle.fj_rules.specs.declared.said.Said.TheVariants as says
use Rattle.fj_rules.specs.declared.place.Place.{Place}
use Rattle.fj_rules.specs.declared.place.Place.TheVariants.{Queued, Held, Open, Gone}
use Rattle.fj_rules.specs.declared.owner.Owner.TheVariants.{Sub, Work}
use Rattle.fj_rules.specs.declared.status.Status.{Status}
use Rattle.fj_rules.specs.declared.status.Status.TheVariants as status
use Rattle.fj_rules.specs.Refusals.{refusal_number}
use Rattle.fj_codes.specs.declared.replies.Reply.{Reply}
use Rattle.fj_codes.specs.declared.codes.TheConstants as code

-- a code with a number
abbrev pub reply : ℕ → ℕ → Reply
reply c number = record { code = c; by = 0; number = number }

-- the number of a status
abbrev pub status_number : Status → ℕ
status_number status.Undone = 0
status_number status.Normal = 1
status_number status.Cancelled = 2
status_number (status.Exceptional fault) = code.STATUS_FAULT + fault

-- the code of a place, and whose queue or stack it is
abbrev pub place_codes : Place → ℕ × ℕ
place_codes (Queued (Sub s)) = (code.SUBMITTED, s)
place_codes (Queued (Work w)) = (code.FORKED, w)
place_codes (Held w) = (code.HELD, w)
place_codes Open = (code.OPEN, 0)
place_codes Gone = (code.GONE, 0)

-- the reply of a machine
abbrev pub reply_of : Said → Reply
reply_of (says.Task t) = reply code.TASK t
reply_of says.None = reply code.NONE 0
reply_of (says.Run t) = reply code.RUN t
reply_of (says.Skip t) = reply code.SKIP t
reply_of says.Done = reply code.DONE 0
reply_of (says.Counted c) = reply code.COUNTED c
reply_of (says.Hook c) = reply code.HOOK c
reply_of (says.Spent c) = reply code.SPENT c
reply_of (says.Early c) = reply code.EARLY c
reply_of (says.Root c) = reply code.ROOT c
reply_of (says.Count n) = reply code.COUNT n
reply_of says.Yes = reply code.YES 0
reply_of says.No = reply code.NO 0
reply_of says.Normal = reply code.NORMAL 0
reply_of (says.Exceptional fault) = reply code.EXCEPTIONAL fault
reply_of says.Cancelled = reply code.CANCELLED 0
reply_of (says.Refused refusal) = reply (refusal_number refusal) 0
reply_of (says.State place status) = record { code = (place_codes place).0; by = (place_codes place).1; number = status_number status }

-- there is no machine
abbrev pub no_machine : Reply
no_machine = reply code.NO_MACHINE 0
