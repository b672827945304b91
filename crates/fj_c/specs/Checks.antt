-- What a check says of a text.
use Rattle.std.specs.Prelude.{ℕ, ◌≡◌, ◌⊎◌, ⊤, List, [], Some}
use Rattle.fj_rules.specs.declared.refusal.Refusal.TheVariants.{OutOfMemory, BadLimits}
use Rattle.fj_rules.specs.Refusals.{refusal_number}
use Rattle.fj_check.specs.declared.fault.CheckFault.{CheckFault}
use Rattle.fj_check.specs.declared.fault.CheckFault.TheVariants.{Objection, Line, Limits, Memory, Read}
use Rattle.fj_check.specs.Checks.{IsBarred, IsFaulty, IsOpenedWrong}
use Rattle.fj_check.specs.Histories.{IsHistory}
use Rattle.fj_codes.specs.declared.codes.TheConstants as code
use Rattle.fj_codes.specs.declared.replies.Reply.{Reply}
use Rattle.fj_codes.specs.Codings.{reply}

-- the code of a fault, with its line. The heading is line 1
abbrev pub refused_by : CheckFault → Reply
refused_by (Line n) = reply code.BAD_LINE n
refused_by (Objection n why) = reply code.BAD_EVENT n
refused_by Limits = reply (refusal_number BadLimits) 1
refused_by Memory = reply (refusal_number OutOfMemory) 0
refused_by Read = reply (refusal_number OutOfMemory) 0

-- what a fault says of the whole text
abbrev pub TextFault : CheckFault → List ℕ → Type 0
TextFault (Line n) text = IsFaulty n text (Some [])
TextFault (Objection n why) text = IsBarred n text
TextFault Limits text = IsOpenedWrong text
TextFault Memory text = ⊤
TextFault Read text = ⊤

-- the text is a history of so many events, or has this fault, which the reply says
abbrev pub Checks : List ℕ → Reply → Type 0
Checks text answer =
    ((n : ℕ) × (answer ≡ reply code.COUNT n) × IsHistory text n)
    ⊎ ((fault : CheckFault) × (answer ≡ refused_by fault) × TextFault fault text)
