-- Which completion action is in which worker's hand.
use Rattle.std.specs.Prelude.{ℕ, ◌≤◌, not, ◌==◌, if◌then◌else◌, List, [], ◌∷◌, ◌++◌, map, Option, Some, None}
use Rattle.std.specs.List.{filter, fold}
use Rattle.fj_rules.specs.declared.event.Event.{Event}
use Rattle.fj_rules.specs.declared.event.Event.TheVariants.{End, Fire, Hooked}
use Rattle.fj_rules.specs.Lists.{times_in}

-- a hook that was handed out: its completer, and the worker in whose hand it is
pub record Hook : Type 0 where
  pub completer : ℕ
  pub worker : ℕ

-- the hooks of a history
pub record Hooks : Type 0 where
  -- those that have not ended, the oldest first
  pub in_hands : List Hook
  -- the task and the worker of the newest event, if that is the end of a body
  pub just_ended : Option (ℕ × ℕ)
  -- the worker whose hook ended last
  pub last_worker : Option ℕ

-- the worker that gets the hook of c: where the body of c ended just before, otherwise where a hook ended last
abbrev pub receiver : ℕ → Option (ℕ × ℕ) → Option ℕ → Option ℕ
receiver c (Some end) last = if end.0 == c then Some end.1 else last
receiver c None last = last

abbrev pub with_hook : ℕ → Option ℕ → List Hook → List Hook
with_hook c (Some w) others = others ++ record { completer = c; worker = w } ∷ []
with_hook c None others = others

-- the worker in whose hand the hook of c is
abbrev pub worker_in : ℕ → List Hook → Option ℕ
worker_in c [] = None
worker_in c (hook ∷ others) = if hook.completer == c then Some hook.worker else worker_in c others

abbrev pub hooks_after : Hooks → Event → Hooks
hooks_after s (End t w) = record { in_hands = s.in_hands; just_ended = Some (t, w); last_worker = s.last_worker }
hooks_after s (Fire c how) = record {
  in_hands = with_hook c (receiver c s.just_ended s.last_worker) s.in_hands;
  just_ended = None;
  last_worker = s.last_worker;
}
hooks_after s (Hooked c) = record {
  in_hands = filter (λ hook. not (hook.completer == c)) s.in_hands;
  just_ended = None;
  last_worker = worker_in c s.in_hands;
}
hooks_after s _ = record { in_hands = s.in_hands; just_ended = None; last_worker = s.last_worker }

abbrev pub no_hooks : Hooks
no_hooks = record { in_hands = []; just_ended = None; last_worker = None }

-- the hooks of a history, computed event by event
unfoldable pub hooks : List Event → Hooks
hooks h = fold hooks_after no_hooks h

abbrev pub completer_in : ℕ → List Hook → Option ℕ
completer_in w [] = None
completer_in w (hook ∷ others) = if hook.worker == w then Some hook.completer else completer_in w others

-- the completer whose hook is in the worker's hand, if any
unfoldable pub hand : List Event → ℕ → Option ℕ
hand h w = completer_in w (hooks h).in_hands

-- the worker into whose hand the hook of c goes if it is handed out now
abbrev pub goes_to : List Event → ℕ → Option ℕ
goes_to h c = receiver c (hooks h).just_ended (hooks h).last_worker

-- no hand has two hooks, and no hook is in two hands
pub record HooksApart (h : List Event) : Type 0 where
  pub workers : (w : ℕ) → times_in w (map (λ hook. hook.worker) (hooks h).in_hands) ≤ 1
  pub completers : (c : ℕ) → times_in c (map (λ hook. hook.completer) (hooks h).in_hands) ≤ 1
