-- The events of Submit, Fork and Trigger are allowed.
use Rattle.std.proofs.Common.{ℕ, ◌≡◌, true, false, List, [], Option, Some, None, refl, arith}
use Rattle.std.specs.Prelude.{◌==◌, nat_lt, IfSome}
use Rattle.std.proofs.lemmas.Bool.{eqb-false, leb-false, ltb-false, not-false}
use Rattle.fj_rules.specs.declared.limits.TheConstants.{MAX_PENDING}
use Rattle.fj_rules.specs.declared.kind.SubmittedKind.{SubmittedKind}
use Rattle.fj_rules.specs.declared.kind.SubmittedKind.TheVariants as submitted
use Rattle.fj_rules.specs.declared.kind.Kind.{Kind}
use Rattle.fj_rules.specs.declared.kind.Kind.TheVariants.{Completer}
use Rattle.fj_rules.specs.declared.event.Event.{Event}
use Rattle.fj_rules.specs.declared.step.Step.TheVariants.{Submit, Fork, Trigger}
use Rattle.fj_rules.specs.Bounds.{Pool}
use Rattle.fj_rules.specs.Tasks.{accepted, is_kept, live, is_completer, parent_in, count_in, submitted_kind}
use Rattle.fj_rules.specs.Allowed.{AllowedFrom, MayAccept}
use Rattle.fj_rules.specs.Answers.{events_of, is_unknown_parent, is_plain_parent}
use Rattle.fj_rules.proofs.Places.FewLive.{few_live}
use Rattle.fj_rules.proofs.Steps.Standing.{Stands}

-- the parent, if there is one, is a kept completer
abbrev IsUnder : List Event → Option ℕ → Type 0
IsUnder h parent = IfSome parent (λ p. (is_kept h p ≡ true) × (is_completer h p ≡ true))

-- the next number may be given to a task of this kind
may_accept : (pool : Pool) (h : List Event) (k : Kind) → AllowedFrom pool [] h
    → (live h == pool.limits.tasks) ≡ false → nat_lt MAX_PENDING (count_in (Some k)) ≡ false → IsUnder h (parent_in (Some k)) → MayAccept pool h (accepted h) k
may_accept pool h k so room count under =
    record {
      number = refl;
      room = omega (arith, few_live pool h so, eqb-false (live h) pool.limits.tasks room);
      under = under;
      count = ltb-false MAX_PENDING (count_in (Some k)) count;
    }

submitted_under : (h : List Event) (k : SubmittedKind) → IsUnder h (parent_in (Some (submitted_kind k)))
submitted_under h submitted.Plain = tt
submitted_under h (submitted.Completer relay count) = tt

pub submit_allowed : (pool : Pool) (h : List Event) (s : ℕ) (k : SubmittedKind) → AllowedFrom pool [] h → Stands pool h (Submit s k) → AllowedFrom pool h (events_of pool h (Submit s k))
unfolding events_of
submit_allowed pool h s k so st =
    let may = may_accept pool h (submitted_kind k) so st.tests.1.1.1.0 st.tests.1.1.0 (submitted_under h k) in
    ((may, leb-false pool.limits.submitters s st.tests.0, st.tests.1.0), tt)

parent_under : (h : List Event) (p : Option ℕ) → is_unknown_parent h p ≡ false → is_plain_parent h p ≡ false → IsUnder h p
parent_under h None known completer = tt
parent_under h (Some p) known completer = (not-false (is_kept h p) known, not-false (is_completer h p) completer)

pub fork_allowed : (pool : Pool) (h : List Event) (w : ℕ) (k : Kind) → AllowedFrom pool [] h → Stands pool h (Fork w k) → AllowedFrom pool h (events_of pool h (Fork w k))
unfolding events_of
fork_allowed pool h w k so st =
    let later = st.tests.1.1.1 in
    let may = may_accept pool h k so later.1.1.1.1.0 later.1.1.1.0 (parent_under h (parent_in (Some k)) later.0 later.1.0) in
    ((may, leb-false pool.limits.workers w st.tests.0, later.1.1.0), tt)

pub trigger_allowed : (pool : Pool) (h : List Event) (w count : ℕ) → AllowedFrom pool [] h → Stands pool h (Trigger w count) → AllowedFrom pool h (events_of pool h (Trigger w count))
unfolding events_of
trigger_allowed pool h w count so st =
    let later = st.tests.1.1.1 in
    ((may_accept pool h (Completer true count None) so later.1.1.0 later.1.0 tt, refl, refl, later.0), tt)
