-- What a checker keeps beside its ledger, which keeps nothing of released tasks, and not which event was the newest.
use Rattle.std.specs.Prelude.{ℕ, ◌≡◌, ◌<◌, ◌&&◌, not, true, false, List, [], ◌∷◌, ◌++◌, length, Option, Some, None, MatchOption, get_or, set, is_none}
use Rattle.fj_rules.specs.declared.event.Event.{Event}
use Rattle.fj_rules.specs.declared.event.Event.TheVariants.{Acc, Make, End, Fire, Hooked, Settle}
use Rattle.fj_rules.specs.declared.event.How.TheVariants.{Complete}
use Rattle.fj_rules.specs.declared.kind.Kind.{Kind}
use Rattle.fj_rules.specs.declared.kind.Kind.TheVariants.{Plain}
use Rattle.fj_rules.specs.Tasks.{accepted, kind}
use Rattle.fj_rules.specs.Bounds.{Pool}
use Rattle.fj_rules.specs.Hooks.{hooks, hand, goes_to}
use Rattle.fj_rules.specs.Statuses.{status, is_undone}
use Rattle.fj_rules.specs.Allowed.{newest, is_stopped, is_fired_by_complete}
use Rattle.fj_checker.specs.declared.known.Known.{Known}

-- what is known of a task that is accepted
abbrev pub first_known : Kind → Known
first_known k = record { kind = k; settled = None; completed = false }

-- what is known of the task with this number
abbrev pub known_of : List Known → ℕ → Known
known_of known t = get_or known t (first_known Plain)

-- the task of which this event tells more
abbrev pub told_by : Event → Option ℕ
told_by (Settle t s) = Some t
told_by (Fire c Complete) = Some c
told_by _ = None

-- what is known after this event
abbrev pub known_after : List Known → Event → List Known
known_after known (Acc t o k) = known ++ first_known k ∷ []
known_after known (Make t k) = known ++ first_known k ∷ []
known_after known (Settle t s) = set known t (record (known_of known t) { settled = Some s })
known_after known (Fire c Complete) = set known c (record (known_of known c) { completed = true })
known_after known _ = known

-- the task whose body ends by this event, and the worker
abbrev pub ended_in : Option Event → Option (ℕ × ℕ)
ended_in (Some (End t w)) = Some (t, w)
ended_in _ = None

-- this is known of the task
pub record Knows (h : List Event) (t : ℕ) (known : Known) : Type 0 where
  pub kind : kind h t ≡ Some known.kind
  -- it has a status of its own, or that of the stop
  pub undone : is_undone (status h t) ≡ (is_none known.settled && not (is_stopped h))
  pub completed : is_fired_by_complete h t ≡ known.completed

-- each accepted task is known, and the newest event, and the worker whose hook ended last
pub record Remembers (h : List Event) (known : List Known) (newest_event : Option Event) (last_worker : Option ℕ) : Type 0 where
  pub count : length known ≡ accepted h
  pub each : (t : ℕ) → t < length known → Knows h t (known_of known t)
  pub newest : newest_event ≡ newest h
  pub ended : (hooks h).just_ended ≡ ended_in newest_event
  pub last : last_worker ≡ (hooks h).last_worker

-- the worker into whose hand the event puts a hook, or out of whose hand it takes one
abbrev pub IsHandOf : Pool → List Event → Event → Option ℕ → Type 0
IsHandOf pool h (Fire c how) to = to ≡ goes_to h c
IsHandOf pool h (Hooked c) from = MatchOption from ((v : ℕ) → hand h v ≡ Some c → ⊥) (λ w. (w < pool.limits.workers) × (hand h w ≡ Some c))
IsHandOf pool h _ w = Unit {0}
