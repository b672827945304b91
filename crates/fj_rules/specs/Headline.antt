-- What holds of the history of every run.
use Rattle.std.specs.Prelude.{ℕ, ◌≡◌, Bool, true, false, ◌≤◌, nat_lt, if◌then◌else◌, List, [], ◌∷◌, ◌++◌, Option, Some, None}
use Rattle.std.specs.List.{flat_map, filter_map}
use mathlib.Core.List.{IsPrefix}
use Rattle.fj_rules.specs.declared.event.Event.{Event}
use Rattle.fj_rules.specs.declared.event.Event.TheVariants.{Acc, Out, Fire}
use Rattle.fj_rules.specs.declared.owner.Owner.{Owner}
use Rattle.fj_rules.specs.declared.owner.Owner.TheVariants.{Sub, Work}
use Rattle.fj_rules.specs.declared.mode.Mode.{Mode}
use Rattle.fj_rules.specs.declared.mode.Mode.TheVariants.{Async, Joining}
use Rattle.std.specs.Prelude.{Contains}
use Rattle.fj_rules.specs.declared.kind.Kind.{Kind}
use Rattle.fj_rules.specs.declared.event.How.TheVariants.{Zero, Complete}
use Rattle.fj_rules.specs.declared.step.Step.{Step}
use Rattle.fj_rules.specs.declared.step.Step.TheVariants as ask
use Rattle.fj_rules.specs.declared.step.Ending.TheVariants as ending
use Rattle.fj_rules.specs.declared.said.Said.{Said}
use Rattle.fj_rules.specs.declared.said.Said.TheVariants as says
use Rattle.fj_rules.specs.Allowed.{is_shut, AllowedFrom}
use Rattle.fj_rules.specs.Answers.{answer, running}
use Rattle.fj_rules.specs.Lists.{times_in}
use Rattle.fj_rules.specs.Bounds.{Bounds, Pool, owners, workers}
use Rattle.fj_rules.specs.Tasks.{tasks, accepted}
use Rattle.fj_rules.specs.Queues.{pushed, left, queue}
use Rattle.fj_rules.specs.Stacks.{stack}
use Rattle.fj_rules.specs.Completers.{pending}
use Rattle.fj_rules.specs.Places.{open_tasks, gone}
use Rattle.fj_rules.specs.Pasts.{Past}

-- the lists of all places, concatenated
unfoldable pub all_places : Bounds → List Event → List ℕ
all_places l h = flat_map (queue h) (owners l) ++ flat_map (stack h) (workers l) ++ open_tasks h ++ gone h

-- each accepted task is in exactly one place, and nothing else is anywhere
abbrev pub IsInOnePlace : Bounds → List Event → Type 0
IsInOnePlace l h = (t : ℕ) → times_in t (all_places l h) ≡ (if nat_lt t (accepted h) then 1 else 0)

-- the task that this event hands out
abbrev pub handed_out_by : Event → Option ℕ
handed_out_by (Out t w) = Some t
handed_out_by _ = None

-- the tasks that were handed out, in order
unfoldable pub handed_out : List Event → List ℕ
handed_out h = filter_map handed_out_by h

-- each task was handed out at most once
abbrev pub IsHandedOutOnce : List Event → Type 0
IsHandedOutOnce h = (t : ℕ) → times_in t (handed_out h) ≤ 1

-- whether the tasks of this queue leave it in the order pushed: all in async mode, a submitter's in joining mode
abbrev pub keeps_order : Mode → Owner → Bool
keeps_order Async o = true
keeps_order Joining (Sub s) = true
keeps_order Joining (Work w) = false

-- what left each such queue is a prefix of what was pushed there
abbrev pub LeftInOrder : Mode → List Event → Type 0
LeftInOrder mode h = (o : Owner) → keeps_order mode o ≡ true → IsPrefix (left h o) (pushed h o)

-- no task of a submitter was accepted after a `Close` or a `Stop`
abbrev pub NoneAfterShutdown : List Event → Type 0
NoneAfterShutdown h =
    (before later : List Event) (t s : ℕ) (k : Kind) → h ≡ before ++ Acc t (Sub s) k ∷ later → is_shut before (Sub s) ≡ false

abbrev pub fired_by : Event → Option ℕ
fired_by (Fire c how) = Some c
fired_by _ = None

-- the completers whose hook was handed out, in order
unfoldable pub fired : List Event → List ℕ
fired h = filter_map fired_by h

-- each completer's hook was handed out at most once
abbrev pub IsFiredOnce : List Event → Type 0
IsFiredOnce h = (c : ℕ) → times_in c (fired h) ≤ 1

-- a hook that was not handed out by Complete was handed out at pending count zero
abbrev pub FiredAtZero : List Event → Type 0
FiredAtZero h = (before later : List Event) (c : ℕ) → h ≡ before ++ Fire c Zero ∷ later → pending before c ≡ 0

-- a `Fire(c, Complete)` is appended only by the ending Complete of a worker whose running task is c
abbrev pub FiresByCompleteOnlyOwn : Pool → Type 0
FiresByCompleteOnlyOwn pool =
    (past : Past) (asked : Step) (c : ℕ) → past.pool ≡ pool → Contains (answer past asked).1 (Fire c Complete)
    → (w : ℕ) × (asked ≡ ask.End w ending.Complete) × (running past.events w ≡ Some c)

-- the task that a reply accepts, the task that it hands out to run, and the completer whose hook it hands out
abbrev pub task_in : Said → Option ℕ
task_in (says.Task t) = Some t
task_in _ = None

abbrev pub run_in : Said → Option ℕ
run_in (says.Run t) = Some t
run_in _ = None

abbrev pub hook_in : Said → Option ℕ
hook_in (says.Hook c) = Some c
hook_in _ = None

-- in order, one reply `task` for each task accepted, one `run` for each task handed out, one `hook` for each hook handed out
pub record RepliesTell (h : List Event) (replies : List Said) : Type 0 where
  pub accepts : tasks h ≡ filter_map task_in replies
  pub runs : handed_out h ≡ filter_map run_in replies
  pub hooks : fired h ≡ filter_map hook_in replies

-- what holds of the history of every run
pub record Headline (pool : Pool) (h : List Event) : Type 0 where
  pub allowed : AllowedFrom pool [] h
  pub place : IsInOnePlace pool.limits h
  pub handed_once : IsHandedOutOnce h
  pub order : LeftInOrder pool.mode h
  pub shutdown : NoneAfterShutdown h
  pub fired_once : IsFiredOnce h
  pub fired_at_zero : FiredAtZero h
