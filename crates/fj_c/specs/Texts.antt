-- What is written of the text of a history.
use Rattle.std.specs.Prelude.{ℕ, ◌≡◌, ◌⊎◌, ◌<◌, ◌≤◌, List, [], ◌∷◌, ◌++◌, length, drop, Option, Some, None}
use Rattle.fj_lines.specs.declared.read.TheConstants.{LINE_FEED}
use Rattle.fj_history.specs.Entries.{entry_line}
use Rattle.fj_history.specs.Headings.{heading_line}
use Rattle.fj_history.specs.declared.entry.Entry.TheVariants as entry
use Rattle.fj_rules.specs.declared.event.Event.{Event}
use Rattle.fj_rules.specs.declared.mode.Mode.{Mode}
use Rattle.fj_rules.specs.declared.refusal.Refusal.TheVariants.{OutOfMemory, BadLimits}
use Rattle.fj_rules.specs.Bounds.{Bounds}
use Rattle.fj_rules.specs.Pasts.{Past}
use Rattle.fj_rules.specs.Refusals.{refusal_number}
use Rattle.fj_codes.specs.declared.codes.TheConstants as code
use Rattle.fj_codes.specs.declared.replies.Reply.{Reply}
use Rattle.fj_c.specs.Calls.{HasLimits}
use Rattle.fj_codes.specs.Codings.{reply, no_machine}
use Rattle.fj_c.specs.History.{event_at}

-- with this reply nothing is written
abbrev pub WritesNothing : Reply → List ℕ → Reply → List ℕ → Type 0
WritesNothing why old answer new = (answer ≡ why) × (new ≡ old)

-- the line is written, and the bytes behind it stay; or it does not fit. The reply has its length
abbrev pub Prints : List ℕ → List ℕ → Reply → List ℕ → Type 0
Prints line old answer new =
    ((length line ≤ length old) × (answer ≡ reply code.COUNT (length line)) × (new ≡ line ++ drop (length line) old))
    ⊎ ((length old < length line) × WritesNothing (reply code.TOO_SMALL (length line)) old answer new)

-- the same, but for memory
abbrev pub MayPrint : List ℕ → List ℕ → Reply → List ℕ → Type 0
MayPrint line old answer new = Prints line old answer new ⊎ WritesNothing (reply (refusal_number OutOfMemory) 0) old answer new

-- the line of an event, if there is one
abbrev pub PrintsFound : Option Event → List ℕ → Reply → List ℕ → Type 0
PrintsFound (Some event) old answer new = MayPrint (entry_line (entry.Event event) ++ LINE_FEED ∷ []) old answer new
PrintsFound None old answer new = WritesNothing (reply code.NO_PLACE 0) old answer new

-- the line of the event at a place, if there is a machine
abbrev pub PrintsEvent : ℕ → Option Past → List ℕ → Reply → List ℕ → Type 0
PrintsEvent place (Some past) old answer new = PrintsFound (event_at place past) old answer new
PrintsEvent place None old answer new = WritesNothing no_machine old answer new

-- the heading of a pool with these limits
abbrev pub PrintsWithin : Mode → Bounds → List ℕ → Reply → List ℕ → Type 0
PrintsWithin mode limits old answer new =
    (HasLimits limits × MayPrint (heading_line mode limits ++ LINE_FEED ∷ []) old answer new)
    ⊎ ((HasLimits limits → ⊥) × WritesNothing (reply (refusal_number BadLimits) 0) old answer new)

-- the same, if the mode is known
abbrev pub PrintsHeading : Option Mode → Bounds → List ℕ → Reply → List ℕ → Type 0
PrintsHeading (Some mode) limits old answer new = PrintsWithin mode limits old answer new
PrintsHeading None limits old answer new = WritesNothing (reply code.BAD_ARGUMENT 0) old answer new
