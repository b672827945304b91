-- The events and the reply of each step tell the same.
use Rattle.std.proofs.Common.{ℕ, ◌≡◌, Bool, true, false, ◌||◌, List, [], ◌∷◌, ◌++◌, length, drop, map, Option, Some, None, refl, ◌∙◌}
use Rattle.std.specs.Prelude.{if◌then◌else◌}
use Rattle.std.proofs.lemmas.List.Elements.{filter_map-append}
use Rattle.fj_rules.specs.declared.event.Event.{Event}
use Rattle.fj_rules.specs.declared.event.Event.TheVariants as event
use Rattle.fj_rules.specs.declared.status.Status.{Status}
use Rattle.fj_rules.specs.declared.status.Status.TheVariants as status_is
use Rattle.fj_rules.specs.declared.event.How.TheVariants as how
use Rattle.fj_rules.specs.declared.step.Ending.{Ending}
use Rattle.fj_rules.specs.declared.step.Ending.TheVariants.{Ok, Quiet, Try, Pass, Complete, Fail}
use Rattle.fj_rules.specs.declared.step.Step.{Step}
use Rattle.fj_rules.specs.declared.step.Step.TheVariants.{Submit, Fork, Trigger, Poll, Help, Join, End, HookDone, Add, QuietRoot, Fault, Cancel, Shutdown, Stop, IsQuiescent, State, Release}
use Rattle.fj_rules.specs.declared.refusal.Refusal.{Refusal}
use Rattle.fj_rules.specs.declared.said.Said.{Said}
use Rattle.fj_rules.specs.declared.said.Said.TheVariants as says
use Rattle.fj_rules.specs.Bounds.{Pool}
use Rattle.fj_rules.specs.Tasks.{tasks, accepted_by, parent}
use Rattle.fj_rules.specs.Statuses.{status, is_undone}
use Rattle.fj_rules.specs.Hooks.{hand}
use Rattle.fj_rules.specs.Completers.{is_spent}
use Rattle.fj_rules.specs.Choices.{choice}
use Rattle.fj_rules.specs.Climbs.{Arrival, Spent, Counted, Early, Fires, arrival, path, passed, relayed}
use Rattle.fj_rules.specs.Allowed.{is_closed, is_stopped, is_fired_by_complete}
use Rattle.fj_rules.specs.Answers.{is_quiet, events_of, reply_of, taking, taking_says, status_says, cancel_says, running, ending_events, ending_says, after_end, end_says, arriving, arriving_says, settling, settling_own, failing, pass_end, pass_says, root_of, root_events, quiet_root_says, above_hook, hook_says, hook_events, hook_done_says}
use Rattle.fj_rules.specs.Headline.{handed_out, handed_out_by, fired, fired_by, RepliesTell}

-- the events and the reply of a step tell the same, and the reply is no refusal
pub record Tells (reply : Said) (events : List Event) : Type 0 where
  pub same : RepliesTell events (reply ∷ [])
  pub stands : (r : Refusal) → reply ≡ says.Refused r → ⊥

-- events that accept nothing, hand nothing out and fire nothing
pub record AreSilent (events : List Event) : Type 0 where
  pub accepts : tasks events ≡ []
  pub runs : handed_out events ≡ []
  pub fires : fired events ≡ []

silent_none : AreSilent []
unfolding tasks handed_out fired
silent_none = record { accepts = refl; runs = refl; fires = refl }

-- silent events in front tell nothing
tells_after : (reply : Said) (xs ys : List Event) → AreSilent xs → Tells reply ys → Tells reply (xs ++ ys)
unfolding tasks handed_out fired
tells_after reply xs ys silent told = record {
  same = record {
    accepts = filter_map-append accepted_by xs ys ∙ rw silent.accepts told.same.accepts;
    runs = filter_map-append handed_out_by xs ys ∙ rw silent.runs told.same.runs;
    hooks = filter_map-append fired_by xs ys ∙ rw silent.fires told.same.hooks;
  };
  stands = told.stands;
}

-- a step whose reply names no task, and whose events are silent
tells_quietly : (reply : Said) (xs : List Event) → Tells reply [] → AreSilent xs → Tells reply xs
unfolding tasks handed_out fired
tells_quietly reply xs told silent =
    record {
      same = record { accepts = silent.accepts ∙ told.same.accepts; runs = silent.runs ∙ told.same.runs; hooks = silent.fires ∙ told.same.hooks };
      stands = told.stands;
    }

done_tells : Tells says.Done []
unfolding tasks handed_out fired
done_tells = record { same = record { accepts = refl; runs = refl; hooks = refl }; stands = λ r is. cc }

yes_tells : Tells says.Yes []
unfolding tasks handed_out fired
yes_tells = record { same = record { accepts = refl; runs = refl; hooks = refl }; stands = λ r is. cc }

no_tells : Tells says.No []
unfolding tasks handed_out fired
no_tells = record { same = record { accepts = refl; runs = refl; hooks = refl }; stands = λ r is. cc }

root_tells : (c : ℕ) → Tells (says.Root c) []
unfolding tasks handed_out fired
root_tells c = record { same = record { accepts = refl; runs = refl; hooks = refl }; stands = λ r is. cc }

spent_tells : (c : ℕ) → Tells (says.Spent c) []
unfolding tasks handed_out fired
spent_tells c = record { same = record { accepts = refl; runs = refl; hooks = refl }; stands = λ r is. cc }

-- ---- parts of steps

taking_tells : (h : List Event) (w : ℕ) (t : Option ℕ) → Tells (taking_says h t) (taking h w t)
unfolding tasks handed_out fired
taking_tells h w None = record { same = record { accepts = refl; runs = refl; hooks = refl }; stands = λ r is. cc }
taking_tells h w (Some t) = go (is_undone (status h t))
  where
    go : (b : Bool) → Tells (if b then says.Run t else says.Skip t) ((if b then event.Out t w else event.Skip t w) ∷ [])
    go true = record { same = record { accepts = refl; runs = refl; hooks = refl }; stands = λ r is. cc }
    go false = record { same = record { accepts = refl; runs = refl; hooks = refl }; stands = λ r is. cc }

arriving_tells : (c : ℕ) (a : Arrival) → Tells (arriving_says c a) (arriving c a)
unfolding tasks handed_out fired
arriving_tells c Spent = record { same = record { accepts = refl; runs = refl; hooks = refl }; stands = λ r is. cc }
arriving_tells c Counted = record { same = record { accepts = refl; runs = refl; hooks = refl }; stands = λ r is. cc }
arriving_tells c Early = record { same = record { accepts = refl; runs = refl; hooks = refl }; stands = λ r is. cc }
arriving_tells c Fires = record { same = record { accepts = refl; runs = refl; hooks = refl }; stands = λ r is. cc }

pub settled_silent : (b : Bool) (t : ℕ) (s : Status) → AreSilent (if b then event.Settle t s ∷ [] else [])
unfolding tasks handed_out fired
settled_silent true t s = record { accepts = refl; runs = refl; fires = refl }
settled_silent false t s = record { accepts = refl; runs = refl; fires = refl }

settles_silent : (us : List ℕ) (s : Status) → AreSilent (map (λ u. event.Settle u s) us)
unfolding tasks handed_out fired
settles_silent [] s = record { accepts = refl; runs = refl; fires = refl }
settles_silent (u ∷ us) s = let rest = settles_silent us s in record { accepts = rest.accepts; runs = rest.runs; fires = rest.fires }

pub failing_silent : (h : List Event) (t code : ℕ) → AreSilent (failing h t code)
failing_silent h t code = go (is_undone (status h t))
  where
    go : (b : Bool) → AreSilent (if b then map (λ u. event.Settle u (status_is.Exceptional code)) (relayed h t) else [])
    go true = settles_silent (relayed h t) (status_is.Exceptional code)
    go false = silent_none

pub passes_silent : (ds : List ℕ) → AreSilent (map event.Pass ds)
unfolding tasks handed_out fired
passes_silent [] = record { accepts = refl; runs = refl; fires = refl }
passes_silent (d ∷ ds) = let rest = passes_silent ds in record { accepts = rest.accepts; runs = rest.runs; fires = rest.fires }

end_silent : (t w : ℕ) → AreSilent (event.End t w ∷ [])
unfolding tasks handed_out fired
end_silent t w = record { accepts = refl; runs = refl; fires = refl }

hooked_silent : (c : ℕ) → AreSilent (event.Hooked c ∷ [])
unfolding tasks handed_out fired
hooked_silent c = record { accepts = refl; runs = refl; fires = refl }

pub settle_silent : (c : ℕ) (s : Status) → AreSilent (event.Settle c s ∷ [])
unfolding tasks handed_out fired
settle_silent c s = record { accepts = refl; runs = refl; fires = refl }

-- ---- the end of a body

pass_tells : (h : List Event) (rest : List ℕ) (root : Option ℕ) → Tells (pass_says h rest root) (pass_end h rest root)
pass_tells h (c ∷ above) root = arriving_tells c (arrival h c)
pass_tells h [] (Some c) = tells_quietly (says.Root c) (event.Settle c status_is.Normal ∷ []) (root_tells c) (settle_silent c status_is.Normal)
pass_tells h [] None = done_tells

complete_tells : (t : ℕ) (b : Bool) → Tells (if b then says.Spent t else says.Hook t) (if b then [] else event.Fire t how.Complete ∷ [])
unfolding tasks handed_out fired
complete_tells t true = record { same = record { accepts = refl; runs = refl; hooks = refl }; stands = λ r is. cc }
complete_tells t false = record { same = record { accepts = refl; runs = refl; hooks = refl }; stands = λ r is. cc }

after_tells : (h : List Event) (t : ℕ) (ending : Ending) → Tells (end_says h t ending) (after_end h t ending)
after_tells h t Ok = tells_quietly says.Done (settling h t status_is.Normal) done_tells (settled_silent (is_undone (status h t)) t status_is.Normal)
after_tells h t Quiet = done_tells
after_tells h t Try = arriving_tells t (arrival h t)
after_tells h t Pass =
    let rest = drop (length (passed h t)) (path h t) in
    let root = root_of (path h t) in
    tells_after (pass_says h rest root) (map event.Pass (passed h t)) (pass_end h rest root) (passes_silent (passed h t)) (pass_tells h rest root)
after_tells h t Complete = complete_tells t (is_spent h t)
after_tells h t (Fail code) = tells_quietly says.Done (failing h t code) done_tells (failing_silent h t code)

end_tells : (h : List Event) (w : ℕ) (ending : Ending) (t : Option ℕ) → Tells (ending_says h w ending t) (ending_events h w ending t)
end_tells h w ending None = done_tells
end_tells h w ending (Some t) =
    let h1 = h ++ event.End t w ∷ [] in
    tells_after (end_says h1 t ending) (event.End t w ∷ []) (after_end h1 t ending) (end_silent t w) (after_tells h1 t ending)

-- ---- the end of a hook

pub own_silent : (h : List Event) (c : ℕ) → AreSilent (settling_own h c)
own_silent h c = go (is_fired_by_complete h c)
  where
    go : (b : Bool) → AreSilent (if b then settling h c status_is.Normal else [])
    go true = settled_silent (is_undone (status h c)) c status_is.Normal
    go false = silent_none

above_tells : (before after : List Event) (c : ℕ) (p : Option ℕ) → Tells (hook_says before after c p) (above_hook after c p)
above_tells before after c (Some p) = arriving_tells p (arrival after p)
above_tells before after c None = go (is_undone (status before c))
  where
    go : (b : Bool) → Tells (if b then says.Root c else says.Spent c) (settling after c status_is.Normal)
    go true = tells_quietly (says.Root c) (settling after c status_is.Normal) (root_tells c) (settled_silent (is_undone (status after c)) c status_is.Normal)
    go false = tells_quietly (says.Spent c) (settling after c status_is.Normal) (spent_tells c) (settled_silent (is_undone (status after c)) c status_is.Normal)

hook_tells : (h : List Event) (c : Option ℕ) → Tells (hook_done_says h c) (hook_events h c)
hook_tells h None = done_tells
hook_tells h (Some c) =
    let ended = h ++ event.Hooked c ∷ [] in
    let own = settling_own ended c in
    let after = ended ++ own in
    let says = hook_says h after c (parent h c) in
    let above = above_hook after c (parent h c) in
    tells_after says (event.Hooked c ∷ []) (own ++ above) (hooked_silent c) (tells_after says own above (own_silent ended c) (above_tells h after c (parent h c)))

-- ---- the other steps

join_tells : (pool : Pool) (h : List Event) (w r : ℕ) (s : Status)
    → Tells (if is_undone s then taking_says h (choice pool h w r) else status_says s) (if is_undone s then taking h w (choice pool h w r) else [])
unfolding tasks handed_out fired
join_tells pool h w r status_is.Undone = taking_tells h w (choice pool h w r)
join_tells pool h w r status_is.Normal = record { same = record { accepts = refl; runs = refl; hooks = refl }; stands = λ r is. cc }
join_tells pool h w r (status_is.Exceptional code) = record { same = record { accepts = refl; runs = refl; hooks = refl }; stands = λ r is. cc }
join_tells pool h w r status_is.Cancelled = record { same = record { accepts = refl; runs = refl; hooks = refl }; stands = λ r is. cc }

quiet_root_tells : (h : List Event) (r : Option ℕ) → Tells (quiet_root_says h r) (root_events h r)
quiet_root_tells h None = done_tells
quiet_root_tells h (Some root) = go (is_undone (status h root))
  where
    go : (b : Bool) → Tells (if b then says.Root root else says.Spent root) (if b then event.Settle root status_is.Normal ∷ [] else [])
    go true = tells_quietly (says.Root root) (event.Settle root status_is.Normal ∷ []) (root_tells root) (settle_silent root status_is.Normal)
    go false = spent_tells root

fault_tells : (h : List Event) (t code : ℕ) (b : Bool) → Tells (if b then says.Yes else says.No) (failing h t code)
fault_tells h t code true = tells_quietly says.Yes (failing h t code) yes_tells (failing_silent h t code)
fault_tells h t code false = tells_quietly says.No (failing h t code) no_tells (failing_silent h t code)

cancel_tells : (h : List Event) (t : ℕ) (s : Status) → Tells (cancel_says s) (settling h t status_is.Cancelled)
cancel_tells h t status_is.Undone = tells_quietly says.Yes (settling h t status_is.Cancelled) yes_tells (settled_silent (is_undone (status h t)) t status_is.Cancelled)
cancel_tells h t status_is.Normal = tells_quietly says.No (settling h t status_is.Cancelled) no_tells (settled_silent (is_undone (status h t)) t status_is.Cancelled)
cancel_tells h t (status_is.Exceptional code) = tells_quietly says.No (settling h t status_is.Cancelled) no_tells (settled_silent (is_undone (status h t)) t status_is.Cancelled)
cancel_tells h t status_is.Cancelled = tells_quietly says.Yes (settling h t status_is.Cancelled) yes_tells (settled_silent (is_undone (status h t)) t status_is.Cancelled)

shut_tells : (b : Bool) (e : Event) → AreSilent (e ∷ []) → Tells says.Done (if b then [] else e ∷ [])
shut_tells true e silent = done_tells
shut_tells false e silent = tells_quietly says.Done (e ∷ []) done_tells silent

quiet_tells : (b : Bool) → Tells (if b then says.Yes else says.No) []
quiet_tells true = yes_tells
quiet_tells false = no_tells

-- each step, whether it is built or not
pub step_tells : (pool : Pool) (h : List Event) (asked : Step) → Tells (reply_of pool h asked) (events_of pool h asked)
unfolding reply_of events_of tasks handed_out fired
step_tells pool h (Submit s k) = record { same = record { accepts = refl; runs = refl; hooks = refl }; stands = λ r is. cc }
step_tells pool h (Fork w k) = record { same = record { accepts = refl; runs = refl; hooks = refl }; stands = λ r is. cc }
step_tells pool h (Trigger w count) = record { same = record { accepts = refl; runs = refl; hooks = refl }; stands = λ r is. cc }
step_tells pool h (Poll w r) = taking_tells h w (choice pool h w r)
step_tells pool h (Help w r) = taking_tells h w (choice pool h w r)
step_tells pool h (Join w t r) = join_tells pool h w r (status h t)
step_tells pool h (End w ending) = end_tells h w ending (running h w)
step_tells pool h (HookDone w) = hook_tells h (hand h w)
step_tells pool h (Add w c n) = record { same = record { accepts = refl; runs = refl; hooks = refl }; stands = λ r is. cc }
step_tells pool h (QuietRoot w t) = quiet_root_tells h (root_of (path h t))
step_tells pool h (Fault t code) = fault_tells h t code (is_undone (status h t))
step_tells pool h (Cancel t) = cancel_tells h t (status h t)
step_tells pool h Shutdown = shut_tells (is_closed h || is_stopped h) event.Close (record { accepts = refl; runs = refl; fires = refl })
step_tells pool h Stop = shut_tells (is_stopped h) event.Stop (record { accepts = refl; runs = refl; fires = refl })
step_tells pool h IsQuiescent = quiet_tells (is_quiet pool.limits h)
step_tells pool h (State t) = record { same = record { accepts = refl; runs = refl; hooks = refl }; stands = λ r is. cc }
step_tells pool h (Release t) = record { same = record { accepts = refl; runs = refl; hooks = refl }; stands = λ r is. cc }
