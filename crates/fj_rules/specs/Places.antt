-- Where each task is.
use Rattle.std.specs.Prelude.{ℕ, Bool, true, false, ◌&&◌, not, ◌==◌, if◌then◌else◌, List, [], ◌∷◌, ◌++◌, Option, Some, None}
use Rattle.std.specs.List.{filter, filter_map, find}
use Rattle.fj_rules.specs.declared.event.Event.{Event}
use Rattle.fj_rules.specs.declared.event.Event.TheVariants.{Acc, Make, Out, End}
use Rattle.fj_rules.specs.declared.owner.Owner.{Owner}
use Rattle.fj_rules.specs.declared.place.Place.{Place}
use Rattle.fj_rules.specs.declared.place.Place.TheVariants.{Queued, Held, Open, Gone}
use Rattle.fj_rules.specs.Lists.{is_in}
use Rattle.fj_rules.specs.Tasks.{tasks, is_completer}
use Rattle.fj_rules.specs.Queues.{queue}
use Rattle.fj_rules.specs.Stacks.{stack}
use Rattle.fj_rules.specs.Completers.{is_spent}

-- the owner of the queue that this event puts the task into
abbrev pub owner_by : ℕ → Event → Option Owner
owner_by t (Acc u o k) = if u == t then Some o else None
owner_by t _ = None

-- the worker to whom this event hands the task
abbrev pub worker_by : ℕ → Event → Option ℕ
worker_by t (Out u w) = if u == t then Some w else None
worker_by t _ = None

-- the owner in whose queue the task is
unfoldable pub queued_in : List Event → ℕ → Option Owner
queued_in h t = find (λ o. is_in t (queue h o)) (filter_map (owner_by t) h)

-- the worker on whose stack the task is
unfoldable pub held_by : List Event → ℕ → Option ℕ
held_by h t = find (λ w. is_in t (stack h w)) (filter_map (worker_by t) h)

-- the number of a task that this event makes, or whose body it ends
abbrev pub opened_by : Event → Option ℕ
opened_by (Make t k) = Some t
opened_by (End t w) = Some t
opened_by _ = None

unfoldable pub opened : List Event → List ℕ
opened h = filter_map opened_by h

-- in a queue, else with a worker, else open or gone
abbrev pub place_of : Option Owner → Option ℕ → Bool → Place
place_of (Some o) held is_opened = Queued o
place_of None (Some w) is_opened = Held w
place_of None None true = Open
place_of None None false = Gone

-- the place of an accepted task
unfoldable pub place : List Event → ℕ → Place
place h t = place_of (queued_in h t) (held_by h t) (is_completer h t && is_in t (opened h) && not (is_spent h t))

abbrev pub is_open : Place → Bool
is_open Open = true
is_open (Queued o) = false
is_open (Held w) = false
is_open Gone = false

abbrev pub is_gone : Place → Bool
is_gone Gone = true
is_gone (Queued o) = false
is_gone (Held w) = false
is_gone Open = false

-- the open tasks, in the order in which they were made or their bodies ended
unfoldable pub open_tasks : List Event → List ℕ
open_tasks h = filter (λ t. is_open (place h t)) (opened h)

-- the tasks that are gone after h and are not in the list, by rising number
unfoldable pub newly_gone : List Event → List ℕ → List ℕ
newly_gone h gone = filter (λ t. is_gone (place h t) && not (is_in t gone)) (tasks h)

-- goes through the later events: after each, the tasks newly gone are added at the end
unfoldable pub gone_from : List Event → List ℕ → List Event → List ℕ
gone_from before gone [] = gone
gone_from before gone (e ∷ later) = gone_from (before ++ e ∷ []) (gone ++ newly_gone (before ++ e ∷ []) gone) later

-- the gone tasks, in the order of the events after which they first were gone, those of one event by rising number
unfoldable pub gone : List Event → List ℕ
gone h = gone_from [] [] h
