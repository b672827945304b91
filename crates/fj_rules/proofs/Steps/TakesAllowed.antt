-- The events of Poll, Help and Join are allowed.
use Rattle.std.proofs.Common.{ℕ, ◌≡◌, ◌%◌, ◌<◌, Bool, true, false, List, [], ◌∷◌, Option, Some, None, refl, ap, ◌∙◌, arith}
use Rattle.std.specs.Prelude.{if◌then◌else◌}
use Rattle.std.proofs.lemmas.Bool.{leb-false}
use Rattle.std.proofs.Math.Nat.{mod-add-mod}
use Rattle.fj_rules.specs.declared.event.Event.{Event}
use Rattle.fj_rules.specs.declared.event.Event.TheVariants as event
use Rattle.fj_rules.specs.declared.owner.Owner.TheVariants.{Work}
use Rattle.fj_rules.specs.declared.step.Step.TheVariants.{Poll, Help, Join}
use Rattle.fj_rules.specs.Bounds.{Bounds, Pool, queues_in}
use Rattle.fj_rules.specs.Lists.{or_else}
use Rattle.fj_rules.specs.Statuses.{is_undone, status}
use Rattle.fj_rules.specs.Hooks.{hand}
use Rattle.fj_rules.specs.Queues.{queue}
use Rattle.fj_rules.specs.Choices.{choice, scan_order, own_choice, first_queued}
use Rattle.fj_rules.specs.Allowed.{AllowedFrom, MayTake}
use Rattle.fj_rules.specs.Answers.{events_of, taking}
use Rattle.fj_rules.proofs.Steps.Standing.{Stands, some_or_none}

same_scan : (l : Bounds) (r : ℕ) → scan_order l (r % queues_in l) ≡ scan_order l r
same_scan l r = simp mod-add-mod

same_choice : (pool : Pool) (h : List Event) (w r : ℕ) → choice pool h w (r % queues_in pool.limits) ≡ choice pool h w r
unfolding choice
same_choice pool h w r = ap (λ os. or_else (own_choice pool.mode (queue h (Work w))) (first_queued h os)) (same_scan pool.limits r)

taking_allowed : (pool : Pool) (h : List Event) (w r : ℕ) → w < pool.limits.workers → hand h w ≡ None
    → (t : Option ℕ) → choice pool h w r ≡ t → AllowedFrom pool h (taking h w t)
taking_allowed pool h w r within free None is = tt
taking_allowed pool h w r within free (Some t) is = go (is_undone (status h t)) refl
  where
    may : MayTake pool h t w
    may = record { worker = within; chosen = (r % queues_in pool.limits, omega arith, same_choice pool h w r ∙ is); free = free }

    go : (b : Bool) → is_undone (status h t) ≡ b → AllowedFrom pool h ((if b then event.Out t w else event.Skip t w) ∷ [])
    go true is = ((may, is), tt)
    go false is = ((may, is), tt)

pub poll_allowed : (pool : Pool) (h : List Event) (w r : ℕ) → Stands pool h (Poll w r) → AllowedFrom pool h (events_of pool h (Poll w r))
unfolding events_of
poll_allowed pool h w r st =
    taking_allowed pool h w r (leb-false pool.limits.workers w st.tests.0) (some_or_none (hand h w) st.tests.1.0) (choice pool h w r) refl

pub help_allowed : (pool : Pool) (h : List Event) (w r : ℕ) → Stands pool h (Help w r) → AllowedFrom pool h (events_of pool h (Help w r))
unfolding events_of
help_allowed pool h w r st =
    taking_allowed pool h w r (leb-false pool.limits.workers w st.tests.0) (some_or_none (hand h w) st.tests.1.0) (choice pool h w r) refl

pub join_allowed : (pool : Pool) (h : List Event) (w t r : ℕ) → Stands pool h (Join w t r) → AllowedFrom pool h (events_of pool h (Join w t r))
unfolding events_of
join_allowed pool h w t r st = go (is_undone (status h t))
  where
    go : (b : Bool) → AllowedFrom pool h (if b then taking h w (choice pool h w r) else [])
    go true = taking_allowed pool h w r (leb-false pool.limits.workers w st.tests.0) (some_or_none (hand h w) st.tests.1.0) (choice pool h w r) refl
    go false = tt
