-- The replies to a script of version 2, by itself: by what each name was given to, without the stages of a replay and without a table.
use Rattle.std.specs.Prelude.{ℕ, ◌==◌, if◌then◌else◌, List, [], ◌∷◌, ◌++◌, length, Option, Some, None, is_some, unwrap_or, codes, decimal}
use Rattle.std.specs.Str.{bytes_eq}
use Rattle.fj_rules.specs.declared.event.Event.{Event}
use Rattle.fj_rules.specs.declared.refusal.Refusal.{Refusal}
use Rattle.fj_rules.specs.declared.said.Said.{Said}
use Rattle.fj_rules.specs.declared.said.Said.TheVariants as says
use Rattle.fj_rules.specs.Answers.{answer}
use Rattle.fj_rules.specs.Bounds.{Bounds, Pool}
use Rattle.fj_rules.specs.Epochs.{seal_refusal}
use Rattle.fj_rules.specs.Pasts.{Past, grown, present, sealed_now}
use Rattle.fj_rules.specs.Refusals.{refusal_number}
use Rattle.fj_rules.specs.Tasks.{accepted}
use Rattle.fj_lines.specs.declared.read.TheConstants.{LINE_FEED}
use Rattle.fj_lines.specs.Lines.{Line2, line2_in}
use Rattle.fj_lines.specs.Replies.{reply_words}
use Rattle.fj_lines.specs.Words.{joined}
use Rattle.fj_lines.specs.Headings.{pool_in, start}
use Rattle.fj_replay.specs.declared.asked.Asked.{Asked}
use Rattle.fj_replay.specs.declared.asked.Asked.TheVariants as ask
use Rattle.fj_replay.specs.Namings.{task_told, words_by}
use Rattle.fj_replay.specs.Plays.{asked_with}

-- ---- names. One belongs for good to the task in the reply `task` to its line

-- the names that were given so far, each with its task
abbrev pub Given : Type 0
Given = List (List ℕ × ℕ)

-- the task to which a name was given, if to one
abbrev pub task_called : Given → List ℕ → Option ℕ
task_called [] name = None
task_called (one ∷ others) name = if bytes_eq name one.0 then Some one.1 else task_called others name

-- the name that was given to a task
abbrev pub name_given : Given → ℕ → List ℕ
name_given [] t = []
name_given (one ∷ others) t = if t == one.1 then one.0 else name_given others t

-- the number behind a name in a line: a name that was given to no task stands for one that was never accepted, the next
abbrev pub number_behind : Past → Given → List ℕ → ℕ
number_behind past given name = unwrap_or (task_called given name) (accepted past.events)

-- what the reply to a line gives its name to
abbrev pub gives : List ℕ → Said → Given
gives name (says.Task t) = (name, t) ∷ []
gives name _ = []

-- ---- lines of replies

-- the line of these words, with its line feed
abbrev pub line_of : List (List ℕ) → List ℕ
line_of words = joined words ++ LINE_FEED ∷ []

-- the line of a reply, where this names its task
abbrev pub reply_by : (ℕ → List ℕ) → Bounds → Said → List ℕ
reply_by name limits reply = line_of (words_by name (task_told reply) (reply_words limits reply))

-- the same, where a task goes by the name that was given to it
abbrev pub named_reply : Given → Bounds → Said → List ℕ
named_reply given limits reply = reply_by (name_given given) limits reply

-- ---- what is replied to a line, and then behind it. There goes on from what has happened and which names were given

abbrev pub GoesOn : Type 0
GoesOn = Past → Given → List ℕ

-- a step with this answer
abbrev pub stepped : Past → Given → Said × List Event → GoesOn → List ℕ
stepped past given told later = named_reply given past.pool.limits told.0 ++ later (grown past told.1) given

-- a seal, which may be refused
abbrev pub sealing_told : Past → Given → Option Refusal → GoesOn → List ℕ
sealing_told past given None later = line_of (codes "sealed" ∷ decimal past.seals ∷ decimal (length (present past)) ∷ []) ++ later (sealed_now past) given
sealing_told past given (Some refusal) later = line_of (codes "refused" ∷ decimal (refusal_number refusal) ∷ []) ++ later past given

abbrev pub told_from : Past → Given → Asked → GoesOn → List ℕ
told_from past given (ask.Step wanted) later = stepped past given (answer past wanted) later
-- a name that belongs to a task is refused before the machine is asked
told_from past given (ask.Accept name wanted) later =
    if is_some (task_called given name) then line_of (codes "refused" ∷ codes "16" ∷ []) ++ later past given
    else stepped past (given ++ gives name (answer past wanted).0) (answer past wanted) later
told_from past given ask.Seal later = sealing_told past given (seal_refusal past) later
told_from past given ask.Epoch later = line_of (codes "epoch" ∷ decimal past.seals ∷ decimal (length (present past)) ∷ []) ++ later past given

-- ---- a script

abbrev pub before_these : Option Line2 → List Line2 → List Line2
before_these None later = []
before_these (Some asked) later = asked ∷ later

-- what the lines ask for, up to the first that is no line of version 2
abbrev pub lines2_of : List (List ℕ) → List Line2
lines2_of [] = []
lines2_of (line ∷ others) = before_these (line2_in line) (lines2_of others)

-- the replies from here on
abbrev pub named_replies : List Line2 → GoesOn
named_replies [] past given = []
named_replies (asked ∷ later) past given = told_from past given (asked_with (number_behind past given) asked) (named_replies later)

-- the replies of a new pool, if there is one
abbrev pub named_by : Option Pool → List Line2 → List ℕ
named_by None asked = []
named_by (Some p) asked = named_replies asked (start p) []

-- the replies to the lines of a script of version 2: behind `fj 2` and the heading
abbrev pub named_text : List (List ℕ) → List ℕ
named_text [] = []
named_text (title ∷ []) = []
named_text (title ∷ heading ∷ others) = named_by (pool_in heading) (lines2_of others)
