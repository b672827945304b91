-- A task that a reply tells of was accepted.
use Rattle.std.proofs.Common.{ℕ, ◌≡◌, ◌-◌, ◌<◌, ◌⊎◌, inl, inr, Bool, true, false, not, List, [], ◌∷◌, ◌++◌, length, drop, Option, Some, None, refl, sym, subst, ◌∙◌, arith}
use Rattle.std.specs.Prelude.{if◌then◌else◌, IfSome}
use Rattle.std.proofs.lemmas.Bool.{eq-eqb}
use Rattle.fj_rules.specs.declared.event.Event.{Event}
use Rattle.fj_rules.specs.declared.event.Event.TheVariants as event
use Rattle.fj_rules.specs.declared.status.Status.{Status}
use Rattle.fj_rules.specs.declared.status.Status.TheVariants as status_is
use Rattle.fj_rules.specs.declared.step.Ending.{Ending}
use Rattle.fj_rules.specs.declared.step.Ending.TheVariants.{Ok, Quiet, Try, Pass, Complete, Fail}
use Rattle.fj_rules.specs.declared.step.Step.{Step}
use Rattle.fj_rules.specs.declared.step.Step.TheVariants.{Submit, Fork, Trigger, Poll, Help, Join, End, HookDone, Add, QuietRoot, Fault, Cancel, Shutdown, Stop, IsQuiescent, State, Release}
use Rattle.fj_rules.specs.declared.said.Said.{Said}
use Rattle.fj_rules.specs.declared.said.Said.TheVariants as says
use Rattle.fj_rules.specs.Bounds.{Pool}
use Rattle.fj_rules.specs.Lists.{is_in, last_of}
use Rattle.fj_rules.specs.Tasks.{accepted, is_kept, parent, tasks}
use Rattle.fj_rules.specs.Statuses.{status, is_undone}
use Rattle.fj_rules.specs.Stacks.{stack}
use Rattle.fj_rules.specs.Hooks.{hand}
use Rattle.fj_rules.specs.Completers.{is_spent}
use Rattle.fj_rules.specs.Choices.{choice}
use Rattle.fj_rules.specs.Climbs.{Arrival, arrival, path, passed}
use Rattle.fj_rules.specs.Climbs as climb
use Rattle.fj_rules.specs.Allowed.{AllowedFrom}
use Rattle.fj_rules.specs.Answers.{answer, is_quiet, refusal_of, reply_of, taking_says, status_says, cancel_says, running, arriving_says, root_says, pass_says, end_says, ending_says, root_of, quiet_root_says, hook_says, hook_done_says, settling_own}
use Rattle.fj_rules.specs.Pasts.{Past}
use Rattle.fj_rules.specs.Epochs.{IsPast}
use Rattle.fj_rules.proofs.Lists.Members.{get_is_in}
use Rattle.fj_rules.proofs.Events.KindsKept.{kept_known, completer_known, path_same}
use Rattle.fj_rules.proofs.Events.Lawful.{choice_chosen, chosen_queued, queued_pushed, pushed_known}
use Rattle.fj_rules.proofs.Places.KeptPlaces.{held_kept}
use Rattle.fj_rules.proofs.Completers.Climbed.{hand_climbed}
use Rattle.fj_rules.proofs.Completers.Parents.{parent_known}
use Rattle.fj_rules.proofs.Completers.Ways.{rest_on_way}
use Rattle.fj_rules.proofs.Steps.AnswersAllowed.{climbed_completer, history_allowed}
use Rattle.fj_rules.proofs.Steps.Answered.{Answered, Refuses, Makes, answered}
use Rattle.fj_rules.proofs.Steps.SettlesAllowed.{path_known}
use Rattle.fj_rules.proofs.Steps.Standing.{stands}
use Rattle.fj_replay.specs.Namings.{task_told}
use Rattle.fj_replay.specs.Plays.{is_task}
use Rattle.fj_replay.proofs.Version2.Accepted.{known_number, after_reply, after_more}

-- the reply accepts nothing, and the task that it tells of is a task of the history
abbrev IsTold : List Event → Said → Type 0
IsTold h reply = (is_task reply ≡ false) × IfSome (task_told reply) (λ told. is_in told.1 (tasks h) ≡ true)

-- ---- parts of replies

taking_told : (pool : Pool) (h : List Event) (w r : ℕ) → IsTold h (taking_says h (choice pool h w r))
taking_told pool h w r = go (choice pool h w r) refl
  where
    known : (t : ℕ) → choice pool h w r ≡ Some t → is_in t (tasks h) ≡ true
    known t is = let c = choice_chosen pool h w r t is in pushed_known h c.0 t (queued_pushed h c.0 t (chosen_queued pool.mode h t c))

    by : (t : ℕ) → is_in t (tasks h) ≡ true → (b : Bool) → IsTold h (if b then says.Run t else says.Skip t)
    by t there true = (refl, there)
    by t there false = (refl, there)

    go : (o : Option ℕ) → choice pool h w r ≡ o → IsTold h (taking_says h o)
    go None is = (refl, tt)
    go (Some t) is = by t (known t is) (is_undone (status h t))

arriving_told : (h : List Event) (c : ℕ) (a : Arrival) → is_in c (tasks h) ≡ true → IsTold h (arriving_says c a)
arriving_told h c climb.Spent there = (refl, there)
arriving_told h c climb.Counted there = (refl, there)
arriving_told h c climb.Early there = (refl, there)
arriving_told h c climb.Fires there = (refl, there)

status_told : (h : List Event) (s : Status) → IsTold h (status_says s)
status_told h status_is.Undone = (refl, tt)
status_told h status_is.Normal = (refl, tt)
status_told h (status_is.Exceptional code) = (refl, tt)
status_told h status_is.Cancelled = (refl, tt)

cancel_told : (h : List Event) (s : Status) → IsTold h (cancel_says s)
cancel_told h status_is.Undone = (refl, tt)
cancel_told h status_is.Normal = (refl, tt)
cancel_told h (status_is.Exceptional code) = (refl, tt)
cancel_told h status_is.Cancelled = (refl, tt)

join_told : (pool : Pool) (h : List Event) (w r : ℕ) (b : Bool) (s : Status) → IsTold h (if b then taking_says h (choice pool h w r) else status_says s)
join_told pool h w r true s = taking_told pool h w r
join_told pool h w r false s = status_told h s

yes_no_told : (h : List Event) (b : Bool) → IsTold h (if b then says.Yes else says.No)
yes_no_told h true = (refl, tt)
yes_no_told h false = (refl, tt)

root_told : (h : List Event) (c : ℕ) (b : Bool) → is_in c (tasks h) ≡ true → IsTold h (if b then says.Root c else says.Spent c)
root_told h c true there = (refl, there)
root_told h c false there = (refl, there)

last_there : (ts : List ℕ) (r : ℕ) → last_of ts ≡ Some r → is_in r ts ≡ true
last_there ts r is = get_is_in r ts (length ts - 1) is

-- ---- the end of a body

pass_told : (h k : List Event) (way rest : List ℕ) → ((u : ℕ) → is_in u way ≡ true → is_in u (tasks h) ≡ true) → ((u : ℕ) → is_in u rest ≡ true → is_in u way ≡ true) → IsTold h (pass_says k rest (root_of way))
pass_told h k way (c ∷ above) known within = arriving_told h c (arrival k c) (known c (within c (rw (eq-eqb c c refl) refl)))
pass_told h k way [] known within = go (root_of way) refl
  where
    go : (r : Option ℕ) → root_of way ≡ r → IsTold h (root_says r)
    go None is = (refl, tt)
    go (Some r) is = (refl, known r (last_there way r is))

end_told : (pool : Pool) (h : List Event) (w t : ℕ) (ending : Ending) → AllowedFrom pool [] h → is_in t (tasks h) ≡ true → IsTold h (end_says (h ++ event.End t w ∷ []) t ending)
end_told pool h w t Ok so there = (refl, tt)
end_told pool h w t Quiet so there = (refl, tt)
end_told pool h w t Try so there = arriving_told h t (arrival (h ++ event.End t w ∷ []) t) there
end_told pool h w t Pass so there =
    let k = h ++ event.End t w ∷ [] in
    let same : path k t ≡ path h t = path_same h (event.End t w) t refl in
    pass_told h k (path k t) (drop (length (passed k t)) (path k t)) (λ u on. path_known pool h t u so there (rw same at on)) (λ u on. rest_on_way k t u on)
end_told pool h w t Complete so there = go (is_spent (h ++ event.End t w ∷ []) t)
  where
    go : (b : Bool) → IsTold h (if b then says.Spent t else says.Hook t)
    go true = (refl, there)
    go false = (refl, there)
end_told pool h w t (Fail code) so there = (refl, tt)

ending_told : (pool : Pool) (h : List Event) (w : ℕ) (ending : Ending) → AllowedFrom pool [] h → IsTold h (ending_says h w ending (running h w))
ending_told pool h w ending so = go (running h w) refl
  where
    go : (o : Option ℕ) → running h w ≡ o → IsTold h (ending_says h w ending o)
    go None is = (refl, tt)
    go (Some t) is = end_told pool h w t ending so (kept_known h t (held_kept pool h w t so (last_there (stack h w) t is)))

-- ---- the end of a hook, and the root

hook_told : (past : Past) (w : ℕ) → IsPast past → IsTold past.events (hook_done_says past.events (hand past.events w))
hook_told past w run = go (hand past.events w) refl
  where
    h : List Event
    h = past.events

    known : (c : ℕ) → hand h w ≡ Some c → is_in c (tasks h) ≡ true
    known c is = completer_known h c (climbed_completer past c run (hand_climbed past.pool h w c (history_allowed past run) is))

    by : (c : ℕ) (after : List Event) (p : Option ℕ) → is_in c (tasks h) ≡ true → parent h c ≡ p → IsTold h (hook_says h after c p)
    by c after (Some p) there is = arriving_told h p (arrival after p) (parent_known past.pool h c p (history_allowed past run) is)
    by c after None there is = root_told h c (is_undone (status h c)) there

    go : (o : Option ℕ) → hand h w ≡ o → IsTold h (hook_done_says h o)
    go None is = (refl, tt)
    go (Some c) is = by c ((h ++ event.Hooked c ∷ []) ++ settling_own (h ++ event.Hooked c ∷ []) c) (parent h c) (known c is) refl

kept_so : (h : List Event) (t : ℕ) → not (is_kept h t) ≡ false → is_kept h t ≡ true
kept_so h t is = go (is_kept h t) is
  where
    go : (b : Bool) → not b ≡ false → b ≡ true
    go true is = refl
    go false is = absurd cc

quiet_root_told : (pool : Pool) (h : List Event) (t : ℕ) → AllowedFrom pool [] h → is_in t (tasks h) ≡ true → IsTold h (quiet_root_says h (root_of (path h t)))
quiet_root_told pool h t so there = go (root_of (path h t)) refl
  where
    go : (r : Option ℕ) → root_of (path h t) ≡ r → IsTold h (quiet_root_says h r)
    go None is = (refl, tt)
    go (Some r) is = root_told h r (is_undone (status h r)) (path_known pool h t r so there (last_there (path h t) r is))

-- ---- every step

-- whether the step accepts a task, if it is not refused
abbrev pub is_accept : Step → Bool
is_accept (Submit s k) = true
is_accept (Fork w k) = true
is_accept (Trigger w count) = true
is_accept _ = false

made_told : (past : Past) (asked : Step) → is_accept asked ≡ false → IsPast past → refusal_of past asked ≡ None → IsTold past.events (reply_of past.pool past.events asked)
unfolding reply_of
made_told past (Submit s k) old run stood = absurd cc
made_told past (Fork w k) old run stood = absurd cc
made_told past (Trigger w count) old run stood = absurd cc
made_told past (Poll w r) old run stood = taking_told past.pool past.events w r
made_told past (Help w r) old run stood = taking_told past.pool past.events w r
made_told past (Join w t r) old run stood = join_told past.pool past.events w r (is_undone (status past.events t)) (status past.events t)
made_told past (End w ending) old run stood = ending_told past.pool past.events w ending (history_allowed past run)
made_told past (HookDone w) old run stood = hook_told past w run
made_told past (Add w c n) old run stood = (refl, tt)
made_told past (QuietRoot w t) old run stood =
    quiet_root_told past.pool past.events t (history_allowed past run) (kept_known past.events t (kept_so past.events t (stands past (QuietRoot w t) stood).tests.1.1.1.0))
made_told past (Fault t code) old run stood = yes_no_told past.events (is_undone (status past.events t))
made_told past (Cancel t) old run stood = cancel_told past.events (status past.events t)
made_told past Shutdown old run stood = (refl, tt)
made_told past Stop old run stood = (refl, tt)
made_told past IsQuiescent old run stood = yes_no_told past.events (is_quiet past.pool.limits past.events)
made_told past (State t) old run stood = (refl, tt)
made_told past (Release t) old run stood = (refl, tt)

-- a step that accepts nothing is not replied to as one that does, and tells of a task of the history
pub answer_told : (past : Past) (asked : Step) → is_accept asked ≡ false → IsPast past → IsTold past.events (answer past asked).0
answer_told past asked old run = go (answered past asked)
  where
    go : Answered past asked (answer past asked).0 (answer past asked).1 → IsTold past.events (answer past asked).0
    go (Refuses r said none) = subst (λ (reply : Said). IsTold past.events reply) (sym said) (refl, tt)
    go (Makes stood said made) = subst (λ (reply : Said). IsTold past.events reply) (sym said) (made_told past asked old run stood)

-- one that does is refused, or tells of the next task
made_new : (past : Past) (asked : Step) → is_accept asked ≡ true → reply_of past.pool past.events asked ≡ says.Task (accepted past.events)
unfolding reply_of
made_new past (Submit s k) new = refl
made_new past (Fork w k) new = refl
made_new past (Trigger w count) new = refl
made_new past _ new = absurd cc

abbrev IsNewOrSilent : ℕ → Said → Type 0
IsNewOrSilent n reply = (reply ≡ says.Task n) ⊎ (task_told reply ≡ None)

answer_new : (past : Past) (asked : Step) → is_accept asked ≡ true → IsNewOrSilent (accepted past.events) (answer past asked).0
answer_new past asked new = go (answered past asked)
  where
    go : Answered past asked (answer past asked).0 (answer past asked).1 → IsNewOrSilent (accepted past.events) (answer past asked).0
    go (Refuses r said none) = inr (rw said refl)
    go (Makes stood said made) = inl (said ∙ made_new past asked new)

-- the task that a reply tells of is below this
abbrev pub IsBelow : ℕ → Said → Type 0
IsBelow n reply = IfSome (task_told reply) (λ told. told.1 < n)

old_below : (past : Past) (reply : Said) → IsPast past → IsTold past.events reply → IsBelow (after_reply (accepted past.events) reply) reply
old_below past reply run told = go (task_told reply) told.1
  where
    go : (o : Option (List ℕ × ℕ)) → IfSome o (λ t. is_in t.1 (tasks past.events) ≡ true) → IfSome o (λ t. t.1 < after_reply (accepted past.events) reply)
    go None known = tt
    go (Some t) known = let low = known_number past t.1 run known in omega (arith, low, after_more (accepted past.events) reply)

new_below : (n : ℕ) (reply : Said) → IsNewOrSilent n reply → IsBelow (after_reply n reply) reply
new_below n reply (inl new) = subst (λ (r : Said). IsBelow (after_reply n r) r) (sym new) (omega arith)
new_below n reply (inr silent) = rw silent tt

-- after the step the task that its reply tells of is one of the accepted ones
pub told_below : (past : Past) (asked : Step) → IsPast past → IsBelow (after_reply (accepted past.events) (answer past asked).0) (answer past asked).0
told_below past asked run = go (is_accept asked) refl
  where
    go : (b : Bool) → is_accept asked ≡ b → IsBelow (after_reply (accepted past.events) (answer past asked).0) (answer past asked).0
    go true is = new_below (accepted past.events) (answer past asked).0 (answer_new past asked is)
    go false is = old_below past (answer past asked).0 run (answer_told past asked is run)
