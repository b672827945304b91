-- What a script comes to by the definitions, and what its proof computes with.
use Rattle.std.specs.Prelude.{ℕ, Bool, true, ◌&&◌, ◌≡◌, List, [], ◌∷◌, ◌++◌, map, ⊤}
use Rattle.fj_rules.specs.declared.event.Event.{Event}
use Rattle.fj_rules.specs.declared.mode.Mode.{Mode}
use Rattle.fj_rules.specs.declared.said.Said.{Said}
use Rattle.fj_rules.specs.declared.step.Step.{Step}
use Rattle.fj_rules.specs.Allowed.{is_closed, is_stopped, has_kept_child, is_fired_by_complete}
use Rattle.fj_rules.specs.Answers.{answer_of, refusal_of, is_quiet, events_of, reply_of}
use Rattle.fj_rules.specs.Bounds.{Pool, owners, workers}
use Rattle.fj_rules.specs.Choices.{first_queued, choice}
use Rattle.fj_rules.specs.Climbs.{path_up, path, relayed_along, relayed, arrival, passed}
use Rattle.fj_rules.specs.Completers.{pending, is_spent}
use Rattle.fj_rules.specs.Headline.{all_places}
use Rattle.fj_rules.specs.Hooks.{hooks, hand}
use Rattle.fj_rules.specs.Pasts.{Past}
use Rattle.fj_rules.specs.Places.{queued_in, held_by, opened, place, open_tasks, gone, gone_from, newly_gone}
use Rattle.fj_rules.specs.Queues.{pushed, taken, left, queue}
use Rattle.fj_rules.specs.Stacks.{ended, stack}
use Rattle.fj_rules.specs.Statuses.{status_from, status}
use Rattle.fj_rules.specs.Tasks.{accepted, tasks, released, is_kept, live, kind, is_completer, parent}
use Rattle.fj_rules.proofs.Samples.AllowedTest.{all_allowed, each_placed}

-- the past of a machine without seals
abbrev pub unsealed : Pool → List Event → Past
unsealed pool h = record { pool = pool; sealed = []; events = h; seals = 0 }

-- the replies to the steps after this history, of a machine that has them all
abbrev pub replies_after : Pool → List Event → List Step → List Said
replies_after pool h [] = []
replies_after pool h (asked ∷ steps) =
    let told = answer_of (unsealed pool h) asked (refusal_of (unsealed pool h) asked) in told.0 ∷ replies_after pool (h ++ told.1) steps

-- the history that they leave
abbrev pub history_after : Pool → List Event → List Step → List Event
history_after pool h [] = h
history_after pool h (asked ∷ steps) = history_after pool (h ++ (answer_of (unsealed pool h) asked (refusal_of (unsealed pool h) asked)).1) steps

-- each event was allowed where it stands, and each task is in one place
abbrev pub is_sound : Pool → List Event → Bool
is_sound pool h = all_allowed pool [] h && each_placed pool h

abbrev pub pool_of : Mode → ℕ → ℕ → ℕ → ℕ → Pool
pool_of mode w s t e = record { mode = mode; limits = record { workers = w; submitters = s; tasks = t; events = e } }

-- the history of a new pool after these steps
abbrev pub history_of : Pool → List Step → List Event
history_of pool steps = history_after pool [] steps

-- each step has the reply that stands beside it, and the history is sound
abbrev pub IsReplayed : Pool → List (Step × Said) → Type 0
IsReplayed pool script =
    let steps = map (λ row. row.0) script in
    (replies_after pool [] steps ≡ map (λ row. row.1) script) × (is_sound pool (history_of pool steps) ≡ true)

-- by `unfolding computing` an answer computes what a script comes to
unfoldable pub computing : ⊤
unfolding accepted tasks released is_kept live kind is_completer parent pushed taken left queue ended stack hooks hand status_from status pending is_spent queued_in held_by opened place path_up path relayed_along relayed arrival passed owners workers first_queued choice is_closed is_stopped has_kept_child is_fired_by_complete is_quiet events_of reply_of refusal_of open_tasks newly_gone gone_from gone all_places
computing = tt
