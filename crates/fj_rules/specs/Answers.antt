-- What the machine answers to a step, and which events it appends.
use Rattle.std.specs.Prelude.{ℕ, Bool, true, false, ◌&&◌, ◌||◌, not, ◌+◌, ◌==◌, nat_lt, nat_le, if◌then◌else◌, List, [], ◌∷◌, ◌++◌, length, drop, map, Option, Some, None, is_some, is_none}
use Rattle.std.specs.List.{list_all}
use Rattle.fj_rules.specs.declared.limits.TheConstants.{MAX_PENDING}
use Rattle.fj_rules.specs.declared.event.Event.{Event}
use Rattle.fj_rules.specs.declared.event.Event.TheVariants as event
use Rattle.fj_rules.specs.declared.event.Event.TheVariants.{Acc, Make, Out, Hooked, Dec, Settle, Rel}
use Rattle.fj_rules.specs.declared.owner.Owner.TheVariants.{Sub, Work}
use Rattle.fj_rules.specs.declared.kind.Kind.TheVariants.{Completer}
use Rattle.fj_rules.specs.declared.status.Status.{Status}
use Rattle.fj_rules.specs.declared.status.Status.TheVariants as status_is
use Rattle.fj_rules.specs.declared.status.Status.TheVariants.{Undone}
use Rattle.fj_rules.specs.declared.step.Ending.{Ending}
use Rattle.fj_rules.specs.declared.step.Ending.TheVariants.{Ok, Quiet, Try, Pass, Complete, Fail}
use Rattle.fj_rules.specs.declared.event.How.TheVariants as how
use Rattle.fj_rules.specs.declared.step.Step.{Step}
use Rattle.fj_rules.specs.declared.step.Step.TheVariants.{Submit, Fork, Trigger, Poll, Help, Join, End, HookDone, Add, QuietRoot, Fault, Cancel, Shutdown, Stop, IsQuiescent, State, Release}
use Rattle.fj_rules.specs.declared.refusal.Refusal.{Refusal}
use Rattle.fj_rules.specs.declared.refusal.Refusal.TheVariants.{Closed, TooManyTasks, LogFull, NoSuch, Unknown, NotRunning, OwnStack, NotCompleter, NotDone, CountTooLarge, NotIdle}
use Rattle.fj_rules.specs.declared.said.Said.{Said}
use Rattle.fj_rules.specs.declared.said.Said.TheVariants as says
use Rattle.fj_rules.specs.Bounds.{Bounds, Pool, owners, workers}
use Rattle.fj_rules.specs.Lists.{is_in, is_empty, or_else, last_of}
use Rattle.fj_rules.specs.Tasks.{accepted, is_kept, live, is_completer, parent, parent_in, count_in, submitted_kind}
use Rattle.fj_rules.specs.Queues.{queue}
use Rattle.fj_rules.specs.Stacks.{stack}
use Rattle.fj_rules.specs.Hooks.{hand}
use Rattle.fj_rules.specs.Statuses.{status, is_undone}
use Rattle.fj_rules.specs.Completers.{pending, is_spent}
use Rattle.fj_rules.specs.Places.{place, is_gone}
use Rattle.fj_rules.specs.Pasts.{Past, limit}
use Rattle.fj_rules.specs.Choices.{choice}
use Rattle.fj_rules.specs.Climbs.{Arrival, arrival, path, passed, relayed}
use Rattle.fj_rules.specs.Climbs as climb
use Rattle.fj_rules.specs.Allowed.{is_shut, is_closed, is_stopped, has_kept_child, is_fired_by_complete}

-- all queues, stacks and hands are empty
unfoldable pub is_quiet : Bounds → List Event → Bool
is_quiet l h =
    list_all (λ o. is_empty (queue h o)) (owners l)
    && list_all (λ w. is_empty (stack h w) && is_none (hand h w)) (workers l)

-- the running task of a worker
abbrev pub running : List Event → ℕ → Option ℕ
running h w = last_of (stack h w)

-- ---- events

-- how a chosen task leaves its queue
abbrev pub taking : List Event → ℕ → Option ℕ → List Event
taking h w None = []
taking h w (Some t) = (if is_undone (status h t) then event.Out t w else event.Skip t w) ∷ []

-- the event of an arrival
abbrev pub arriving : ℕ → Arrival → List Event
arriving c climb.Spent = []
arriving c climb.Counted = event.Dec c ∷ []
arriving c climb.Early = []
arriving c climb.Fires = event.Fire c how.Zero ∷ []

-- a task gets a status, if it is undone
abbrev pub settling : List Event → ℕ → Status → List Event
settling h t s = if is_undone (status h t) then event.Settle t s ∷ [] else []

-- the task gets the code, and so does each task to which it is relayed
abbrev pub failing : List Event → ℕ → ℕ → List Event
failing h t code =
    if is_undone (status h t) then map (λ u. event.Settle u (status_is.Exceptional code)) (relayed h t) else []

-- the last member of a path, which is its root
abbrev pub root_of : List ℕ → Option ℕ
root_of way = last_of way

-- a climb that went past the root makes the root normal. It is undone, since it was passed
abbrev pub settle_root : Option ℕ → List Event
settle_root (Some c) = event.Settle c status_is.Normal ∷ []
settle_root None = []

-- the end of a climb: the arrival at the first member of the path that is not passed, or past the root
abbrev pub pass_end : List Event → List ℕ → Option ℕ → List Event
pass_end h (c ∷ above) root = arriving c (arrival h c)
pass_end h [] root = settle_root root

-- the events of the climb from t
abbrev pub passing : List Event → ℕ → List Event
passing h t =
    let way = path h t in
    map event.Pass (passed h t) ++ pass_end h (drop (length (passed h t)) way) (root_of way)

-- the events after the end of the body of t, read where it has ended
abbrev pub after_end : List Event → ℕ → Ending → List Event
after_end h t Ok = settling h t status_is.Normal
after_end h t Quiet = []
after_end h t Try = arriving t (arrival h t)
after_end h t Pass = passing h t
after_end h t Complete = if is_spent h t then [] else event.Fire t how.Complete ∷ []
after_end h t (Fail code) = failing h t code

abbrev pub ending_events : List Event → ℕ → Ending → Option ℕ → List Event
ending_events h w ending None = []
ending_events h w ending (Some t) = event.End t w ∷ after_end (h ++ event.End t w ∷ []) t ending

-- what follows the end of the hook of c: first, if it was fired by Complete, its own completion
abbrev pub settling_own : List Event → ℕ → List Event
settling_own h c = if is_fired_by_complete h c then settling h c status_is.Normal else []

-- then, with a parent, the arrival there; without one c becomes normal if it is still undone
abbrev pub above_hook : List Event → ℕ → Option ℕ → List Event
above_hook h c (Some p) = arriving p (arrival h p)
above_hook h c None = settling h c status_is.Normal

abbrev pub hook_events : List Event → Option ℕ → List Event
hook_events h None = []
hook_events h (Some c) =
    let ended = h ++ event.Hooked c ∷ [] in
    let own = settling_own ended c in
    event.Hooked c ∷ own ++ above_hook (ended ++ own) c (parent h c)

abbrev pub root_events : List Event → Option ℕ → List Event
root_events h None = []
root_events h (Some root) = settling h root status_is.Normal

-- the events of a step that is not refused
unfoldable pub events_of : Pool → List Event → Step → List Event
-- accept
events_of pool h (Submit s k) = event.Acc (accepted h) (Sub s) (submitted_kind k) ∷ []
events_of pool h (Fork w k) = event.Acc (accepted h) (Work w) k ∷ []
events_of pool h (Trigger w count) = event.Make (accepted h) (Completer true count None) ∷ []
-- take
events_of pool h (Poll w r) = taking h w (choice pool h w r)
events_of pool h (Help w r) = taking h w (choice pool h w r)
events_of pool h (Join w t r) = if is_undone (status h t) then taking h w (choice pool h w r) else []
-- end
events_of pool h (End w ending) = ending_events h w ending (running h w)
events_of pool h (HookDone w) = hook_events h (hand h w)
-- completer
events_of pool h (Add w c n) = event.Add c n ∷ []
events_of pool h (QuietRoot w t) = root_events h (root_of (path h t))
-- settle
events_of pool h (Fault t code) = failing h t code
events_of pool h (Cancel t) = settling h t status_is.Cancelled
-- shut
events_of pool h Shutdown = if is_closed h || is_stopped h then [] else event.Close ∷ []
events_of pool h Stop = if is_stopped h then [] else event.Stop ∷ []
-- query
events_of pool h IsQuiescent = []
events_of pool h (State t) = []
-- release
events_of pool h (Release t) = event.Rel t ∷ []

-- ---- replies. They are not given where the step is refused

abbrev pub taking_says : List Event → Option ℕ → Said
taking_says h None = says.None
taking_says h (Some t) = if is_undone (status h t) then says.Run t else says.Skip t

abbrev pub status_says : Status → Said
status_says status_is.Undone = says.None
status_says status_is.Normal = says.Normal
status_says (status_is.Exceptional code) = says.Exceptional code
status_says status_is.Cancelled = says.Cancelled

abbrev pub arriving_says : ℕ → Arrival → Said
arriving_says c climb.Spent = says.Spent c
arriving_says c climb.Counted = says.Counted c
arriving_says c climb.Early = says.Early c
arriving_says c climb.Fires = says.Hook c

abbrev pub root_says : Option ℕ → Said
root_says (Some c) = says.Root c
root_says None = says.Done

abbrev pub pass_says : List Event → List ℕ → Option ℕ → Said
pass_says h (c ∷ above) root = arriving_says c (arrival h c)
pass_says h [] root = root_says root

abbrev pub end_says : List Event → ℕ → Ending → Said
end_says h t Ok = says.Done
end_says h t Quiet = says.Done
end_says h t Try = arriving_says t (arrival h t)
end_says h t Pass = pass_says h (drop (length (passed h t)) (path h t)) (root_of (path h t))
end_says h t Complete = if is_spent h t then says.Spent t else says.Hook t
end_says h t (Fail code) = says.Done

abbrev pub ending_says : List Event → ℕ → Ending → Option ℕ → Said
ending_says h w ending None = says.Done
ending_says h w ending (Some t) = end_says (h ++ event.End t w ∷ []) t ending

-- at a completer without a parent: root if this step made it normal
abbrev pub hook_says : List Event → List Event → ℕ → Option ℕ → Said
hook_says before after c (Some p) = arriving_says p (arrival after p)
hook_says before after c None = if is_undone (status before c) then says.Root c else says.Spent c

abbrev pub hook_done_says : List Event → Option ℕ → Said
hook_done_says h None = says.Done
hook_done_says h (Some c) =
    let ended = h ++ event.Hooked c ∷ [] in hook_says h (ended ++ settling_own ended c) c (parent h c)

abbrev pub quiet_root_says : List Event → Option ℕ → Said
quiet_root_says h None = says.Done
quiet_root_says h (Some root) = if is_undone (status h root) then says.Root root else says.Spent root

abbrev pub cancel_says : Status → Said
cancel_says status_is.Undone = says.Yes
cancel_says status_is.Normal = says.No
cancel_says (status_is.Exceptional code) = says.No
cancel_says status_is.Cancelled = says.Yes

-- the reply to a step that is not refused
unfoldable pub reply_of : Pool → List Event → Step → Said
-- accept
reply_of pool h (Submit s k) = says.Task (accepted h)
reply_of pool h (Fork w k) = says.Task (accepted h)
reply_of pool h (Trigger w count) = says.Task (accepted h)
-- take
reply_of pool h (Poll w r) = taking_says h (choice pool h w r)
reply_of pool h (Help w r) = taking_says h (choice pool h w r)
reply_of pool h (Join w t r) = if is_undone (status h t) then taking_says h (choice pool h w r) else status_says (status h t)
-- end
reply_of pool h (End w ending) = ending_says h w ending (running h w)
reply_of pool h (HookDone w) = hook_done_says h (hand h w)
-- completer
reply_of pool h (Add w c n) = says.Count (pending h c + n)
reply_of pool h (QuietRoot w t) = quiet_root_says h (root_of (path h t))
-- settle
reply_of pool h (Fault t code) = if is_undone (status h t) then says.Yes else says.No
reply_of pool h (Cancel t) = cancel_says (status h t)
-- shut
reply_of pool h Shutdown = says.Done
reply_of pool h Stop = says.Done
-- query
reply_of pool h IsQuiescent = if is_quiet pool.limits h then says.Yes else says.No
reply_of pool h (State t) = says.State (place h t) (status h t)
-- release
reply_of pool h (Release t) = says.Done

-- ---- refusals

-- the first whose test holds
abbrev pub first_that_stands : List (Bool × Refusal) → Option Refusal
first_that_stands [] = None
first_that_stands (test ∷ tests) = if test.0 then Some test.1 else first_that_stands tests

abbrev pub is_unknown_parent : List Event → Option ℕ → Bool
is_unknown_parent h None = false
is_unknown_parent h (Some p) = not (is_kept h p)

abbrev pub is_plain_parent : List Event → Option ℕ → Bool
is_plain_parent h None = false
is_plain_parent h (Some p) = not (is_completer h p)

-- Ok is for plain tasks, and each other ending but Fail for completers
abbrev pub is_misfit : List Event → Ending → Option ℕ → Bool
is_misfit h ending None = false
is_misfit h Ok (Some t) = is_completer h t
is_misfit h Quiet (Some t) = not (is_completer h t)
is_misfit h Try (Some t) = not (is_completer h t)
is_misfit h Pass (Some t) = not (is_completer h t)
is_misfit h Complete (Some t) = not (is_completer h t)
is_misfit h (Fail code) (Some t) = false

abbrev pub no_such_worker : Pool → ℕ → Bool × Refusal
no_such_worker pool w = (nat_le pool.limits.workers w, NoSuch)

abbrev pub hook_in_hand : List Event → ℕ → Bool × Refusal
hook_in_hand h w = (is_some (hand h w), NotIdle)

abbrev pub nothing_running : List Event → ℕ → Bool × Refusal
nothing_running h w = (is_empty (stack h w), NotRunning)

abbrev pub unknown_task : List Event → ℕ → Bool × Refusal
unknown_task h t = (not (is_kept h t), Unknown)

abbrev pub not_a_completer : List Event → ℕ → Bool × Refusal
not_a_completer h t = (not (is_completer h t), NotCompleter)

abbrev pub count_too_large : ℕ → Bool × Refusal
count_too_large count = (nat_lt MAX_PENDING count, CountTooLarge)

abbrev pub too_many_tasks : Pool → List Event → Bool × Refusal
too_many_tasks pool h = (live h == pool.limits.tasks, TooManyTasks)

-- each refusal of the step but LogFull, with its test, in the order of the tests
abbrev pub refusals_of : Pool → List Event → Step → List (Bool × Refusal)
-- accept
refusals_of pool h (Submit s k) =
    (nat_le pool.limits.submitters s, NoSuch) ∷ (is_shut h (Sub s), Closed) ∷ count_too_large (count_in (Some (submitted_kind k))) ∷ too_many_tasks pool h ∷ []
refusals_of pool h (Fork w k) =
    no_such_worker pool w ∷ hook_in_hand h w ∷ nothing_running h w ∷ (is_unknown_parent h (parent_in (Some k)), Unknown) ∷ (is_plain_parent h (parent_in (Some k)), NotCompleter)
    ∷ (is_stopped h, Closed) ∷ count_too_large (count_in (Some k)) ∷ too_many_tasks pool h ∷ []
refusals_of pool h (Trigger w count) =
    no_such_worker pool w ∷ hook_in_hand h w ∷ nothing_running h w ∷ (is_stopped h, Closed) ∷ count_too_large count ∷ too_many_tasks pool h ∷ []
-- take
refusals_of pool h (Poll w r) = no_such_worker pool w ∷ hook_in_hand h w ∷ (not (is_empty (stack h w)), NotIdle) ∷ []
refusals_of pool h (Help w r) = no_such_worker pool w ∷ hook_in_hand h w ∷ nothing_running h w ∷ []
refusals_of pool h (Join w t r) =
    no_such_worker pool w ∷ hook_in_hand h w ∷ nothing_running h w ∷ unknown_task h t ∷ (is_undone (status h t) && is_in t (stack h w), OwnStack) ∷ []
-- end
refusals_of pool h (End w ending) =
    no_such_worker pool w ∷ hook_in_hand h w ∷ nothing_running h w ∷ (is_misfit h ending (running h w), NotCompleter) ∷ []
refusals_of pool h (HookDone w) = no_such_worker pool w ∷ (is_none (hand h w), NotRunning) ∷ []
-- completer
refusals_of pool h (Add w c n) =
    no_such_worker pool w ∷ hook_in_hand h w ∷ nothing_running h w ∷ unknown_task h c ∷ not_a_completer h c ∷ count_too_large (pending h c + n) ∷ []
refusals_of pool h (QuietRoot w t) = no_such_worker pool w ∷ hook_in_hand h w ∷ nothing_running h w ∷ unknown_task h t ∷ not_a_completer h t ∷ []
-- settle
refusals_of pool h (Fault t code) = unknown_task h t ∷ []
refusals_of pool h (Cancel t) = unknown_task h t ∷ []
-- shut
refusals_of pool h Shutdown = []
refusals_of pool h Stop = []
-- query
refusals_of pool h IsQuiescent = []
refusals_of pool h (State t) = unknown_task h t ∷ []
-- release
refusals_of pool h (Release t) = unknown_task h t ∷ (not (is_gone (place h t)) || has_kept_child h t, NotDone) ∷ []

-- whether the events of the step would exceed the limit of events since the last seal
abbrev pub does_not_fit : Past → Step → Bool
does_not_fit past asked = nat_lt (limit past) (length past.events + length (events_of past.pool past.events asked))

-- why the step is refused, if it is: the first test that holds, else LogFull if its events do not fit
unfoldable pub refusal_of : Past → Step → Option Refusal
refusal_of past asked = or_else (first_that_stands (refusals_of past.pool past.events asked)) (if does_not_fit past asked then Some LogFull else None)

-- the reply and the events of a refused step, and of one that is not refused
abbrev pub answer_of : Past → Step → Option Refusal → Said × List Event
answer_of past asked (Some refusal) = (says.Refused refusal, [])
answer_of past asked None = (reply_of past.pool past.events asked, events_of past.pool past.events asked)

-- the reply to the step, and the events that it appends
unfoldable pub answer : Past → Step → Said × List Event
answer past asked = answer_of past asked (refusal_of past asked)
