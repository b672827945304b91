-- Steps that settle tasks.
use Rattle.std.proofs.Common.{ℕ, ◌≡◌, Bool, true, false, List, [], ◌∷◌, ◌++◌, length, None, refl, ap, sym, ◌∙◌}
use Rattle.std.specs.Prelude.{if◌then◌else◌}
use Rattle.std.proofs.lemmas.List.{length-map}
use Rattle.fj_rules.specs.Pasts.{limit}
use Rattle.fj_rules.specs.declared.event.Event.{Event}
use Rattle.fj_rules.specs.declared.event.Event.TheVariants as event
use Rattle.fj_rules.specs.declared.said.Said.TheVariants as says
use Rattle.fj_rules.specs.declared.status.Status.{Status}
use Rattle.fj_rules.specs.declared.status.Status.TheVariants.{Cancelled}
use Rattle.fj_rules.specs.declared.step.Ending.TheVariants as ending
use Rattle.fj_rules.specs.declared.step.Step.TheVariants.{Fault, Cancel}
use Rattle.fj_rules.specs.Tasks.{is_kept}
use Rattle.fj_rules.specs.Statuses.{status, is_undone}
use Rattle.fj_rules.specs.Climbs.{relayed}
use Rattle.fj_rules.specs.Answers.{refusals_of, first_that_stands, events_of, reply_of, cancel_says, after_end}
use Rattle.fj_rules.specs.Runs.{Past, Steps}
use Rattle.fj_rules.proofs.Events.Settling.{settles, relayed_same, failing_end}
use Rattle.fj_ledger.specs.Holds.{IsLawful}
use Rattle.fj_machine.proofs.Outcomes.OneEvent.{IsOf, only_tells}
use Rattle.fj_machine.proofs.ByStep.Relaying.{failing_settles, none_relayed}
use Rattle.fj_machine.proofs.Outcomes.Stepping.{told}

pub cancel_stands : (now : Past) (t : ℕ) → is_kept now.events t ≡ true → first_that_stands (refusals_of now.pool now.events (Cancel t)) ≡ None
cancel_stands now t kept = rw kept refl

pub fault_stands : (now : Past) (t code : ℕ) → is_kept now.events t ≡ true → first_that_stands (refusals_of now.pool now.events (Fault t code)) ≡ None
fault_stands now t code kept = rw kept refl

-- an undone task is cancelled
pub cancels : (now : Past) (t : ℕ) → is_kept now.events t ≡ true → is_undone (status now.events t) ≡ true → IsOf now (Cancel t) (event.Settle t Cancelled)
unfolding events_of
cancels now t kept undone = record { stands = cancel_stands now t kept; event = rw undone refl }

pub cancel_replies : (now : Past) (t : ℕ) (s : Status) → status now.events t ≡ s → cancel_says s ≡ reply_of now.pool now.events (Cancel t)
unfolding reply_of
cancel_replies now t s is = ap cancel_says (sym is)

-- one that is done stays as it is
pub cancel_tells : (now : Past) (t : ℕ) (s : Status) → IsLawful now.pool (limit now) now.events → is_kept now.events t ≡ true → status now.events t ≡ s → is_undone s ≡ false → Steps now (Cancel t) (cancel_says s) now
unfolding events_of
cancel_tells now t s law kept is done =
    told now (Cancel t) (cancel_says s)
    (only_tells now (Cancel t) (cancel_says s) law (cancel_stands now t kept) (rw (ap is_undone is ∙ done) refl) (sym (cancel_replies now t s is)))

-- ---- failures

pub fault_events : (now : Past) (t code : ℕ) → events_of now.pool now.events (Fault t code) ≡ settles code (relayed now.events t)
unfolding events_of
fault_events now t code = failing_settles now.events t code

pub fault_says : (now : Past) (t code : ℕ) (b : Bool) → is_undone (status now.events t) ≡ b → (if b then says.Yes else says.No) ≡ reply_of now.pool now.events (Fault t code)
unfolding reply_of
fault_says now t code b is = rw is refl

-- one that is done stays as it is
pub fault_tells : (now : Past) (t code : ℕ) → IsLawful now.pool (limit now) now.events → is_kept now.events t ≡ true → is_undone (status now.events t) ≡ false → Steps now (Fault t code) says.No now
fault_tells now t code law kept done =
    told now (Fault t code) says.No
    (only_tells now (Fault t code) says.No law (fault_stands now t code kept) (fault_events now t code ∙ ap (settles code) (none_relayed now.events t done)) (sym (fault_says now t code false done)))

-- how many events there are
pub settles_count : (code : ℕ) (us : List ℕ) → length (settles code us) ≡ length us
settles_count code us = rw length-map refl

-- what follows the end of a body that failed
pub fail_events : (h : List Event) (w t code : ℕ) → after_end (h ++ event.End t w ∷ []) t (ending.Fail code) ≡ settles code (relayed h t)
fail_events h w t code = failing_end h t w t code ∙ failing_settles h t code

pub fail_relayed : (h : List Event) (w t : ℕ) → relayed (h ++ event.End t w ∷ []) t ≡ relayed h t
fail_relayed h w t = relayed_same h (event.End t w) t refl (λ u b. refl)
