-- The state that a ledger keeps beside its history agrees with the history.
use Rattle.std.specs.Prelude.{ℕ, ◌≡◌, ◌≤◌, ◌<◌, ◌+◌, Bool, true, false, List, [], ◌++◌, length, map, Option, Some, None, IsSome, option_map, get_or}
use Rattle.std.specs.List.{list_any}
use Rattle.fj_rules.specs.declared.event.Event.{Event}
use Rattle.fj_rules.specs.declared.event.How.{How}
use Rattle.fj_rules.specs.declared.event.How.TheVariants.{Zero, Complete}
use Rattle.fj_rules.specs.declared.status.Status.{Status}
use Rattle.fj_rules.specs.Bounds.{Bounds, Pool, IsWithin, queues_in, owner_at}
use Rattle.fj_rules.specs.Lists.{is_in, times_in}
use Rattle.fj_rules.specs.Tasks.{tasks, accepted, is_kept, live, kind, parent}
use Rattle.fj_rules.specs.Queues.{queue}
use Rattle.fj_rules.specs.Stacks.{stack}
use Rattle.fj_rules.specs.Hooks.{hooks, hand}
use Rattle.fj_rules.specs.Statuses.{status}
use Rattle.fj_rules.specs.Completers.{pending, fires_or_passes}
use Rattle.fj_rules.specs.Places.{place, open_tasks, gone}
use Rattle.fj_rules.specs.Climbs.{ClimbsCompleters}
use Rattle.fj_rules.specs.Allowed.{AllowedFrom, is_fired_by_complete}
use Rattle.fj_rules.specs.declared.epoch.TheConstants.{MAX_EVENTS_AND_SEALS}
use Rattle.fj_queues.specs.Queues.{Lists as Waiting, queue_at}
use Rattle.fj_tree.specs.declared.record.Record.{Record}
use Rattle.fj_tree.specs.Records.{Records, record_at, handle_of, count}
use Rattle.fj_queues.specs.Stacks.{StackLists, stack_at}
use Rattle.fj_ledger.specs.InHands.{InHand}

-- one list for each owner, by the queue's number
pub record KeepsQueues (l : Bounds) (h : List Event) (queues : Waiting) : Type 0 where
  pub count : length queues.lists ≡ queues_in l
  pub room : queues.room ≡ l.tasks
  pub each : (i : ℕ) → i < queues_in l → queue_at queues i ≡ queue h (owner_at l i)

-- one list for each worker
pub record KeepsStacks (l : Bounds) (h : List Event) (stacks : StackLists) : Type 0 where
  pub count : length stacks.lists ≡ l.workers
  pub room : stacks.room ≡ l.tasks
  pub each : (w : ℕ) → w < l.workers → stack_at stacks w ≡ stack h w

-- the record agrees with the history
pub record Tells (h : List Event) (r : Record) : Type 0 where
  pub kept : is_kept h r.serial ≡ true
  pub kind : kind h r.serial ≡ Some r.kind
  pub place : place h r.serial ≡ r.place
  pub status : status h r.serial ≡ r.status
  pub pending : pending h r.serial ≡ r.pending
  pub fired : list_any (fires_or_passes r.serial) h ≡ r.fired

-- the same of a task of this number
pub record TellsOf (h : List Event) (t : ℕ) (r : Record) : Type 0 where
  pub number : r.serial ≡ t
  pub tells : Tells h r

-- one record for each kept task
pub record KeepsTree (l : Bounds) (h : List Event) (tree : Records) : Type 0 where
  pub made : tree.made ≡ accepted h
  pub room : tree.room ≡ l.tasks
  pub live : count tree ≡ live h
  pub each : (key : ℕ) (r : Record) → record_at tree key ≡ Some r → Tells h r
  pub all : (t : ℕ) → is_kept h t ≡ true → IsSome (handle_of tree t)

abbrev pub is_complete : How → Bool
is_complete Zero = false
is_complete Complete = true

-- the completer is kept, or it was released and has this status
abbrev pub TellsReleased : List Event → ℕ → Option Status → Type 0
TellsReleased h c None = is_kept h c ≡ true
TellsReleased h c (Some s) = (is_kept h c ≡ false) × (status h c ≡ s)

-- what is kept with a hook agrees with the history of its completer
pub record TellsHook (h : List Event) (hook : InHand) : Type 0 where
  pub known : is_in hook.completer (tasks h) ≡ true
  pub parent : parent h hook.completer ≡ hook.parent
  pub how : is_fired_by_complete h hook.completer ≡ is_complete hook.how
  pub released : TellsReleased h hook.completer hook.released

-- the workers, and the completers, of the hooks in hand
abbrev pub hook_workers : List Event → List ℕ
hook_workers h = map (λ hook. hook.worker) (hooks h).in_hands

abbrev pub hook_completers : List Event → List ℕ
hook_completers h = map (λ hook. hook.completer) (hooks h).in_hands

-- at most one hook for each worker
pub record KeepsHands (l : Bounds) (h : List Event) (hands : List (Option InHand)) : Type 0 where
  pub count : length hands ≡ l.workers
  pub each : (w : ℕ) → w < l.workers → option_map (λ hook. hook.completer) (get_or hands w None) ≡ hand h w
  pub tells : (w : ℕ) (hook : InHand) → get_or hands w None ≡ Some hook → TellsHook h hook
  pub one_each : (w : ℕ) → times_in w (hook_workers h) ≤ 1
  pub once : (c : ℕ) → times_in c (hook_completers h) ≤ 1
  pub fired : (c : ℕ) → is_in c (hook_completers h) ≡ true → list_any (fires_or_passes c) h ≡ true

-- the invariant of a ledger's history alone; it has at most so many events
pub record IsLawful (pool : Pool) (most : ℕ) (h : List Event) : Type 0 where
  pub within : IsWithin pool.limits.workers pool.limits.submitters pool.limits.tasks pool.limits.events
  pub allowed : AllowedFrom pool [] h
  pub climbs : ClimbsCompleters h
  pub fits : length h ≤ most
  pub one_each : (w : ℕ) → times_in w (hook_workers h) ≤ 1
  pub once : (c : ℕ) → times_in c (hook_completers h) ≤ 1

-- what was sealed is a prefix of the history, and left room for what may come
pub record IsSealed (pool : Pool) (sealed h : List Event) : Type 0 where
  pub begins : (present : List Event) × (h ≡ sealed ++ present)
  -- task numbers have 64 bits
  pub few : length sealed ≤ MAX_EVENTS_AND_SEALS
  -- at the seal each task was open or gone
  pub left : accepted sealed ≤ length (gone sealed) + pool.limits.tasks

-- all that is kept, and that the history is lawful and within the limit
pub record Holds (pool : Pool) (sealed h : List Event) (queues : Waiting) (stacks : StackLists) (hands : List (Option InHand)) (tree : Records) (opens gones : List ℕ) : Type 0 where
  pub within : IsWithin pool.limits.workers pool.limits.submitters pool.limits.tasks pool.limits.events
  pub lawful : AllowedFrom pool [] h
  pub climbs : ClimbsCompleters h
  pub sealed_part : IsSealed pool sealed h
  pub fits : length h ≤ length sealed + pool.limits.events
  pub queues_kept : KeepsQueues pool.limits h queues
  pub stacks_kept : KeepsStacks pool.limits h stacks
  pub hands_kept : KeepsHands pool.limits h hands
  pub tree_kept : KeepsTree pool.limits h tree
  pub open_kept : opens ≡ open_tasks h
  pub gone_kept : gone sealed ++ gones ≡ gone h
