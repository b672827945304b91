-- When an event may follow a history.
use Rattle.std.specs.Prelude.{ℕ, ◌≡◌, Bool, true, false, ◌&&◌, ◌||◌, ◌+◌, ◌-◌, ◌≤◌, ◌<◌, ◌==◌, ◌⊎◌, List, [], ◌∷◌, ◌++◌, length, Option, Some, None, slice_get, IfSome}
use Rattle.std.specs.List.{list_any}
use Rattle.fj_rules.specs.declared.limits.TheConstants.{MAX_PENDING}
use Rattle.fj_rules.specs.declared.event.Event.{Event}
use Rattle.fj_rules.specs.declared.event.Event.TheVariants.{Acc, Make, Out, Skip, End, Add, Dec, Fire, Pass, Hooked, Settle, Close, Stop, Rel}
use Rattle.fj_rules.specs.declared.owner.Owner.{Owner}
use Rattle.fj_rules.specs.declared.owner.Owner.TheVariants.{Sub, Work}
use Rattle.fj_rules.specs.declared.kind.Kind.{Kind}
use Rattle.fj_rules.specs.declared.status.Status.{Status}
use Rattle.fj_rules.specs.declared.status.Status.TheVariants.{Normal}
use Rattle.fj_rules.specs.declared.event.How.TheVariants.{Zero, Complete}
use Rattle.fj_rules.specs.declared.place.Place.TheVariants.{Gone}
use Rattle.fj_rules.specs.Bounds.{Pool, IsOwner, queues_in}
use Rattle.fj_rules.specs.Lists.{is_in, last_of}
use Rattle.fj_rules.specs.Tasks.{tasks, accepted, is_kept, live, is_completer, is_completer_kind, parent, parent_in, count_in}
use Rattle.fj_rules.specs.Stacks.{stack}
use Rattle.fj_rules.specs.Hooks.{hand}
use Rattle.fj_rules.specs.Statuses.{status, is_undone}
use Rattle.fj_rules.specs.Completers.{pending, is_spent}
use Rattle.fj_rules.specs.Places.{place}
use Rattle.fj_rules.specs.Choices.{choice}
use Rattle.fj_rules.specs.Climbs.{Counted, Fires, arrival}

abbrev pub is_close : Event → Bool
is_close Close = true
is_close _ = false

abbrev pub is_stop : Event → Bool
is_stop Stop = true
is_stop _ = false

unfoldable pub is_closed : List Event → Bool
is_closed h = list_any is_close h

unfoldable pub is_stopped : List Event → Bool
is_stopped h = list_any is_stop h

-- whether the queue takes no more tasks: a submitter's after a `Close` or a `Stop`, a worker's after a `Stop`
abbrev pub is_shut : List Event → Owner → Bool
is_shut h (Sub s) = is_closed h || is_stopped h
is_shut h (Work w) = is_stopped h

-- whether this parent is the task t
abbrev pub is_child_of : ℕ → Option ℕ → Bool
is_child_of t None = false
is_child_of t (Some p) = p == t

-- whether a kept task names it as its parent
unfoldable pub has_kept_child : List Event → ℕ → Bool
has_kept_child h t = list_any (λ u. is_kept h u && is_child_of t (parent h u)) (tasks h)

-- the last event
abbrev pub newest : List Event → Option Event
newest h = slice_get h (length h - 1)

abbrev pub ends_task : ℕ → Option Event → Bool
ends_task t (Some (End u w)) = u == t
ends_task t _ = false

abbrev pub ends_hook : ℕ → Option Event → Bool
ends_hook t (Some (Hooked c)) = c == t
ends_hook t _ = false

abbrev pub fires_by_complete : ℕ → Event → Bool
fires_by_complete c (Fire d Complete) = d == c
fires_by_complete c _ = false

-- whether the completer was fired by Complete
unfoldable pub is_fired_by_complete : List Event → ℕ → Bool
is_fired_by_complete h c = list_any (fires_by_complete c) h

-- a task of this kind may be accepted under this number
pub record MayAccept (pool : Pool) (h : List Event) (t : ℕ) (k : Kind) : Type 0 where
  pub number : t ≡ accepted h
  pub room : live h < pool.limits.tasks
  pub under : IfSome (parent_in (Some k)) (λ p. (is_kept h p ≡ true) × (is_completer h p ≡ true))
  pub count : count_in (Some k) ≤ MAX_PENDING

-- a worker without a hook may take this task by its choice
pub record MayTake (pool : Pool) (h : List Event) (t w : ℕ) : Type 0 where
  pub worker : w < pool.limits.workers
  pub chosen : (r : ℕ) × (r < queues_in pool.limits) × (choice pool h w r ≡ Some t)
  pub free : hand h w ≡ None

-- when an undone task may become normal: a plain one whose body has just ended, a completer without a parent, and one that was fired by Complete and whose hook has just ended
abbrev pub MayBeNormal : List Event → ℕ → Status → Type 0
MayBeNormal h t Normal =
    ((is_completer h t ≡ false) × (ends_task t (newest h) ≡ true))
    ⊎ ((is_completer h t ≡ true) × (parent h t ≡ None))
    ⊎ ((is_fired_by_complete h t ≡ true) × (ends_hook t (newest h) ≡ true))
MayBeNormal h t _ = Unit {0}

-- the event may follow the history
abbrev pub Allowed : Pool → List Event → Event → Type 0
Allowed pool h (Acc t o k) = MayAccept pool h t k × IsOwner pool.limits o × (is_shut h o ≡ false)
Allowed pool h (Make t k) = MayAccept pool h t k × (is_completer_kind (Some k) ≡ true) × (parent_in (Some k) ≡ None) × (is_stopped h ≡ false)
Allowed pool h (Out t w) = MayTake pool h t w × (is_undone (status h t) ≡ true)
Allowed pool h (Skip t w) = MayTake pool h t w × (is_undone (status h t) ≡ false)
Allowed pool h (End t w) = (last_of (stack h w) ≡ Some t) × (hand h w ≡ None)
Allowed pool h (Add c n) = (is_kept h c ≡ true) × (is_completer h c ≡ true) × (pending h c + n ≤ MAX_PENDING)
Allowed pool h (Dec c) = arrival h c ≡ Counted
Allowed pool h (Fire c Zero) = arrival h c ≡ Fires
Allowed pool h (Fire c Complete) = (is_spent h c ≡ false) × (ends_task c (newest h) ≡ true)
Allowed pool h (Pass c) = arrival h c ≡ Fires
Allowed pool h (Hooked c) = (w : ℕ) × (hand h w ≡ Some c)
Allowed pool h (Settle t s) = (is_in t (tasks h) ≡ true) × (is_undone (status h t) ≡ true) × (is_undone s ≡ false) × MayBeNormal h t s
Allowed pool h Close = (is_closed h ≡ false) × (is_stopped h ≡ false)
Allowed pool h Stop = is_stopped h ≡ false
Allowed pool h (Rel t) = (is_kept h t ≡ true) × (place h t ≡ Gone) × (has_kept_child h t ≡ false)

-- each of these events may follow those before it
abbrev pub AllowedFrom : Pool → List Event → List Event → Type 0
AllowedFrom pool h [] = Unit {0}
AllowedFrom pool h (e ∷ later) = Allowed pool h e × AllowedFrom pool (h ++ e ∷ []) later
