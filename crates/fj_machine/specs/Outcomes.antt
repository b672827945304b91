-- The results of checks and steps: something found or said, or a refusal.
use Rattle.std.specs.Prelude.{ℕ, ◌≡◌, ◌≤◌, ◌<◌, ◌+◌, Bool, true, not, List, [], ◌∷◌, Option, Some, None, Result, Ok, Err, length, map}
use Rattle.fj_rules.specs.declared.event.Event.{Event}
use Rattle.fj_rules.specs.declared.event.Event.TheVariants as event
use Rattle.fj_rules.specs.declared.status.Status.TheVariants.{Exceptional}
use Rattle.fj_rules.specs.declared.refusal.Refusal.{Refusal}
use Rattle.fj_rules.specs.declared.refusal.Refusal.TheVariants.{LogFull, NotCompleter, NotIdle, Unknown}
use Rattle.fj_rules.specs.declared.said.Said.{Said}
use Rattle.fj_rules.specs.declared.said.Said.TheVariants as says
use Rattle.fj_rules.specs.declared.step.Step.{Step}
use Rattle.fj_rules.specs.declared.step.Ending.{Ending}
use Rattle.fj_rules.specs.declared.step.Ending.TheVariants as ends
use Rattle.fj_rules.specs.declared.step.Step.TheVariants.{End}
use Rattle.fj_rules.specs.Lists.{is_empty}
use Rattle.fj_rules.specs.Stacks.{stack}
use Rattle.fj_rules.specs.Choices.{choice}
use Rattle.fj_rules.specs.Climbs.{relayed}
use Rattle.fj_rules.specs.Answers.{first_that_stands, refusals_of, hook_in_hand, is_plain_parent, is_unknown_parent, no_such_worker, nothing_running, running, taking, taking_says}
use Rattle.fj_rules.specs.Pasts.{limit}
use Rattle.fj_rules.specs.Runs.{Past, Steps, grown}
use Rattle.fj_tree.specs.Handles.{Handle}
use Rattle.fj_ledger.specs.Holds.{IsLawful}

-- why it is refused, if it is
abbrev pub refusal_in : {A : Type 0} → Result A Refusal → Option Refusal
refusal_in (Ok found) = None
refusal_in (Err r) = Some r

-- the result of a check: the first refusal whose test holds, and what it found exactly where none holds
abbrev pub ChecksFirst : {A : Type 0} → List (Bool × Refusal) → Result A Refusal → Type 0
ChecksFirst refusals result = refusal_in result ≡ first_that_stands refusals

-- the same of all refusals of a step
abbrev pub Checks : {A : Type 0} → Past → Step → Result A Refusal → Type 0
Checks now asked result = ChecksFirst (refusals_of now.pool now.events asked) result

-- the refusals of a worker that must have no hook in hand; that must also run a task; that must instead be idle
abbrev pub hand_refusals : Past → ℕ → List (Bool × Refusal)
hand_refusals now w = no_such_worker now.pool w ∷ hook_in_hand now.events w ∷ []

abbrev pub running_refusals : Past → ℕ → List (Bool × Refusal)
running_refusals now w = no_such_worker now.pool w ∷ hook_in_hand now.events w ∷ nothing_running now.events w ∷ []

abbrev pub idle_refusals : Past → ℕ → List (Bool × Refusal)
idle_refusals now w = no_such_worker now.pool w ∷ hook_in_hand now.events w ∷ (not (is_empty (stack now.events w)), NotIdle) ∷ []

-- why a fork under this parent is refused
abbrev pub parent_refusals : Past → Option ℕ → List (Bool × Refusal)
parent_refusals now p = (is_unknown_parent now.events p, Unknown) ∷ (is_plain_parent now.events p, NotCompleter) ∷ []

-- the reply
abbrev pub said_by : Result Said Refusal → Said
said_by (Ok said) = said
said_by (Err r) = says.Refused r

-- at the old past the step has this result, and it leads to the new past
abbrev pub Makes : Past → Step → Result Said Refusal → Past → Type 0
Makes old asked result new = Steps old asked (said_by result) new

-- so many more events fit, or the history is too full for them
abbrev pub FindsRoom : {A : Type 0} → Past → ℕ → Result A Refusal → Type 0
FindsRoom now n (Ok found) = length now.events + n ≤ limit now
FindsRoom now n (Err r) = (r ≡ LogFull) × (limit now < length now.events + n)

-- whether the ending suits a completer, or a plain task
abbrev pub suits : Ending → Bool → Bool
suits ends.Ok completer = not completer
suits ends.Quiet completer = completer
suits ends.Try completer = completer
suits ends.Pass completer = completer
suits ends.Complete completer = completer
suits (ends.Fail code) completer = true

-- the body of the task, which the worker runs, may end so
pub record MayEnd (now : Past) (w : ℕ) (ending : Ending) (t : ℕ) : Type 0 where
  pub lawful : IsLawful now.pool (limit now) now.events
  pub stands : first_that_stands (refusals_of now.pool now.events (End w ending)) ≡ None
  pub running : running now.events w ≡ Some t

-- what is found at the end of a body: the running task, which may end so; or the first refusal whose test holds
abbrev pub FindsEnding : Past → ℕ → Ending → Result Handle Refusal → Type 0
FindsEnding now w ending (Ok t) = MayEnd now w ending t.serial
FindsEnding now w ending (Err r) = first_that_stands (refusals_of now.pool now.events (End w ending)) ≡ Some r

-- the task becomes exceptional with the code, and so does each task to which that is relayed
abbrev pub relaying : List Event → ℕ → ℕ → List Event
relaying h t code = map (λ u. event.Settle u (Exceptional code)) (relayed h t)

-- the worker took its choice, if it has one; or the history was full, and nothing changed
pub record TakesChoice (old : Past) (w r : ℕ) (reply : Said) (new : Past) : Type 0 where
  pub full : limit old < length old.events + length (taking old.events w (choice old.pool old.events w r)) → (reply ≡ says.Refused LogFull) × (new ≡ old)
  pub fits : length old.events + length (taking old.events w (choice old.pool old.events w r)) ≤ limit old
      → (reply ≡ taking_says old.events (choice old.pool old.events w r)) × (new ≡ grown old (taking old.events w (choice old.pool old.events w r)))
