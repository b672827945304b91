-- Why a submission would be refused.
use Rattle.std.proofs.Common.{ℕ, ◌≡◌, ◌+◌, ◌≤◌, ◌<◌, Bool, true, false, Option, Some, None, length, refl, ap, ◌∙◌}
use Rattle.std.specs.Prelude.{nat_lt, if◌then◌else◌, Result, Ok, Err}
use Rattle.std.specs.Result.{result_err}
use Rattle.fj_machine.specs.Outcomes.{FindsRoom}
use Rattle.std.proofs.lemmas.Bool.{lt-ltb, le-ltb}
use Rattle.fj_rules.specs.declared.kind.SubmittedKind.{SubmittedKind}
use Rattle.fj_rules.specs.declared.refusal.Refusal.{Refusal}
use Rattle.fj_rules.specs.declared.refusal.Refusal.TheVariants.{LogFull}
use Rattle.fj_rules.specs.declared.step.Step.TheVariants.{Submit}
use Rattle.fj_rules.specs.Pasts.{Past, limit}
use Rattle.fj_rules.specs.Answers.{refusal_of, refusals_of, first_that_stands, events_of}

pub refused_first : (now : Past) (s : ℕ) (k : SubmittedKind) (r : Refusal) → first_that_stands (refusals_of now.pool now.events (Submit s k)) ≡ Some r
    → ◌≡◌ {A = Option Refusal} (Some r) (refusal_of now (Submit s k))
unfolding refusal_of
refused_first now s k r is = rw is refl

full_or_not : (now : Past) (s : ℕ) (k : SubmittedKind) (b : Bool) → nat_lt (limit now) (length now.events + 1) ≡ b → first_that_stands (refusals_of now.pool now.events (Submit s k)) ≡ None
    → ◌≡◌ {A = Option Refusal} (if b then Some LogFull else None) (refusal_of now (Submit s k))
unfolding refusal_of events_of
full_or_not now s k b full none = rw (none, full) refl

room_none : (now : Past) (s : ℕ) (k : SubmittedKind) → first_that_stands (refusals_of now.pool now.events (Submit s k)) ≡ None → length now.events + 1 ≤ limit now
    → ◌≡◌ {A = Option Refusal} None (refusal_of now (Submit s k))
room_none now s k none room = full_or_not now s k false (le-ltb (limit now) (length now.events + 1) room) none

no_room_full : (now : Past) (s : ℕ) (k : SubmittedKind) → first_that_stands (refusals_of now.pool now.events (Submit s k)) ≡ None → limit now < length now.events + 1
    → ◌≡◌ {A = Option Refusal} (Some LogFull) (refusal_of now (Submit s k))
no_room_full now s k none full = full_or_not now s k true (lt-ltb (limit now) (length now.events + 1) full) none

-- where nothing else stands, what the test for room says is the refusal
pub room_refusal : {A : Type 0} (now : Past) (s : ℕ) (k : SubmittedKind) (found : Result A Refusal) → first_that_stands (refusals_of now.pool now.events (Submit s k)) ≡ None
    → FindsRoom now 1 found → result_err found ≡ refusal_of now (Submit s k)
room_refusal now s k (Ok x) none room = room_none now s k none room
room_refusal now s k (Err r) none full = ap Some full.0 ∙ no_room_full now s k none full.1
