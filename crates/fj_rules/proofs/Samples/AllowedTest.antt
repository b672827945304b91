-- The rule for events as a test, for the sample scripts.
use Rattle.std.specs.Prelude.{ℕ, Bool, true, false, ◌&&◌, ◌||◌, not, ◌+◌, ◌==◌, nat_lt, nat_le, List, [], ◌∷◌, ◌++◌, Option, Some, None, is_none}
use Rattle.std.specs.List.{list_any, list_all, range_with_len}
use Rattle.fj_rules.specs.declared.event.Event.{Event}
use Rattle.fj_rules.specs.declared.event.Event.TheVariants.{Acc, Make, Out, Skip, End, Add, Dec, Fire, Pass, Hooked, Settle, Close, Stop, Rel}
use Rattle.fj_rules.specs.declared.kind.Kind.{Kind}
use Rattle.fj_rules.specs.declared.status.Status.{Status}
use Rattle.fj_rules.specs.declared.status.Status.TheVariants.{Normal}
use Rattle.fj_rules.specs.declared.event.How.TheVariants.{Zero, Complete}
use Rattle.fj_rules.specs.declared.owner.Owner.{Owner}
use Rattle.fj_rules.specs.declared.owner.Owner.TheVariants.{Sub, Work}
use Rattle.fj_rules.specs.Bounds.{Bounds, Pool, queues_in, workers}
use Rattle.fj_rules.specs.Lists.{is_in, last_of, times_in}
use Rattle.fj_rules.specs.Tasks.{tasks, accepted, is_kept, live, is_completer, is_completer_kind, parent, parent_in, count_in}
use Rattle.fj_rules.specs.Stacks.{stack}
use Rattle.fj_rules.specs.Hooks.{hand}
use Rattle.fj_rules.specs.Statuses.{status, is_undone}
use Rattle.fj_rules.specs.Completers.{pending, is_spent}
use Rattle.fj_rules.specs.Places.{place, is_gone}
use Rattle.fj_rules.specs.Choices.{choice}
use Rattle.fj_rules.specs.Climbs.{Arrival, Spent, Counted, Early, Fires, arrival, does_fire}
use Rattle.fj_rules.specs.Allowed.{is_shut, is_closed, is_stopped, has_kept_child, is_fired_by_complete, newest, ends_task, ends_hook}
use Rattle.fj_rules.specs.Headline.{all_places}

abbrev pub is_number : Option ℕ → ℕ → Bool
is_number None t = false
is_number (Some u) t = u == t

abbrev pub is_counted : Arrival → Bool
is_counted Counted = true
is_counted Spent = false
is_counted Early = false
is_counted Fires = false

abbrev pub is_owner : Bounds → Owner → Bool
is_owner l (Sub s) = nat_lt s l.submitters
is_owner l (Work w) = nat_lt w l.workers

abbrev pub parent_fits : List Event → Option ℕ → Bool
parent_fits h None = true
parent_fits h (Some p) = is_kept h p && is_completer h p

abbrev pub may_accept : Pool → List Event → ℕ → Kind → Bool
may_accept pool h t k = (t == accepted h) && nat_lt (live h) pool.limits.tasks && parent_fits h (parent_in (Some k)) && nat_le (count_in (Some k)) 65535

abbrev pub may_take : Pool → List Event → ℕ → ℕ → Bool
may_take pool h t w = nat_lt w pool.limits.workers && list_any (λ r. is_number (choice pool h w r) t) (range_with_len 0 (queues_in pool.limits)) && is_none (hand h w)

abbrev pub may_be_normal : List Event → ℕ → Status → Bool
may_be_normal h t Normal =
    (not (is_completer h t) && ends_task t (newest h)) || (is_completer h t && is_none (parent h t)) || (is_fired_by_complete h t && ends_hook t (newest h))
may_be_normal h t _ = true

abbrev pub allowed_test : Pool → List Event → Event → Bool
allowed_test pool h (Acc t o k) = may_accept pool h t k && is_owner pool.limits o && not (is_shut h o)
allowed_test pool h (Make t k) = may_accept pool h t k && is_completer_kind (Some k) && is_none (parent_in (Some k)) && not (is_stopped h)
allowed_test pool h (Out t w) = may_take pool h t w && is_undone (status h t)
allowed_test pool h (Skip t w) = may_take pool h t w && not (is_undone (status h t))
allowed_test pool h (End t w) = is_number (last_of (stack h w)) t && is_none (hand h w)
allowed_test pool h (Add c n) = is_kept h c && is_completer h c && nat_le (pending h c + n) 65535
allowed_test pool h (Dec c) = is_counted (arrival h c)
allowed_test pool h (Fire c Zero) = does_fire (arrival h c)
allowed_test pool h (Fire c Complete) = not (is_spent h c) && ends_task c (newest h)
allowed_test pool h (Pass c) = does_fire (arrival h c)
allowed_test pool h (Hooked c) = list_any (λ w. is_number (hand h w) c) (workers pool.limits)
allowed_test pool h (Settle t s) = is_in t (tasks h) && is_undone (status h t) && not (is_undone s) && may_be_normal h t s
allowed_test pool h Close = not (is_closed h) && not (is_stopped h)
allowed_test pool h Stop = not (is_stopped h)
allowed_test pool h (Rel t) = is_kept h t && is_gone (place h t) && not (has_kept_child h t)

-- each event may follow those before it
abbrev pub all_allowed : Pool → List Event → List Event → Bool
all_allowed pool h [] = true
all_allowed pool h (e ∷ later) = allowed_test pool h e && all_allowed pool (h ++ e ∷ []) later

-- each accepted task is in one place
abbrev pub each_placed : Pool → List Event → Bool
each_placed pool h = list_all (λ t. times_in t (all_places pool.limits h) == 1) (tasks h)
