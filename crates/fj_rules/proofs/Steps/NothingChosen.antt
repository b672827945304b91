-- The reply `none` is given only where every queue is empty.
use Rattle.std.proofs.Common.{ℕ, zero, suc, ◌≡◌, ◌+◌, ◌-◌, ◌%◌, ◌≤◌, ◌<◌, Bool, true, false, List, [], ◌∷◌, map, Option, Some, None, refl, ap, sym, ◌∙◌, arith, ⊎_elim}
use Rattle.std.specs.Prelude.{if◌then◌else◌}
use Rattle.std.specs.List.{range_with_len}
use Rattle.std.proofs.lemmas.Bool.{cases_lt, cases_eq}
use Rattle.fj_rules.specs.declared.event.Event.{Event}
use Rattle.fj_rules.specs.declared.owner.Owner.{Owner}
use Rattle.fj_rules.specs.declared.owner.Owner.TheVariants.{Sub, Work}
use Rattle.fj_rules.specs.declared.refusal.Refusal.{Refusal}
use Rattle.fj_rules.specs.declared.said.Said.TheVariants as says
use Rattle.fj_rules.specs.declared.status.Status.{Status}
use Rattle.fj_rules.specs.declared.status.Status.TheVariants as status_is
use Rattle.fj_rules.specs.declared.step.Ending.{Ending}
use Rattle.fj_rules.specs.declared.step.Ending.TheVariants.{Ok, Quiet, Try, Pass, Complete, Fail}
use Rattle.fj_rules.specs.declared.step.Step.{Step}
use Rattle.fj_rules.specs.declared.step.Step.TheVariants.{Submit, Fork, Trigger, Poll, Help, Join, End, HookDone, Add, QuietRoot, Fault, Cancel, Shutdown, Stop, IsQuiescent, State, Release}
use Rattle.fj_rules.specs.Bounds.{Bounds, Pool, IsOwner, queues_in, queue_number, owner_at}
use Rattle.fj_rules.specs.Lists.{or_else, first_of}
use Rattle.fj_rules.specs.Tasks.{parent}
use Rattle.fj_rules.specs.Queues.{queue}
use Rattle.fj_rules.specs.Hooks.{hand}
use Rattle.fj_rules.specs.Statuses.{status, is_undone}
use Rattle.fj_rules.specs.Completers.{is_spent}
use Rattle.fj_rules.specs.Choices.{choice, own_choice, first_queued, scan_order}
use Rattle.fj_rules.specs.Climbs.{Arrival, arrival, path, passed}
use Rattle.fj_rules.specs.Climbs as climb
use Rattle.fj_rules.specs.Allowed.{AllowedFrom}
use Rattle.fj_rules.specs.Answers.{answer, answer_of, refusal_of, is_quiet, reply_of, taking_says, status_says, arriving_says, pass_says, end_says, ending_says, hook_says, hook_done_says, quiet_root_says, cancel_says, running, root_of}
use Rattle.fj_rules.specs.Pasts.{Past}
use Rattle.fj_rules.proofs.Lists.Absent.{no_such_queue}
use Rattle.fj_rules.proofs.Lists.Scanning.{comes_to}
use Rattle.fj_rules.proofs.Places.OnePlace.{number_owner}

-- ---- where nothing is chosen, every queue is empty

-- what the scan has passed was empty
scanned : (h : List Event) (f : ℕ → Owner) (i n : ℕ) → first_queued h (map f (range_with_len i n)) ≡ None → (k : ℕ) → i ≤ k → k < i + n → queue h (f k) ≡ []
unfolding first_queued
scanned h f i zero none k low high = absurd (omega (arith, low, high))
scanned h f i (suc n) none k low high = go (scanned h f (i + 1) n) (queue h (f i)) refl none
  where
    go : (first_queued h (map f (range_with_len (i + 1) n)) ≡ None → (j : ℕ) → i + 1 ≤ j → j < i + 1 + n → queue h (f j) ≡ [])
        → (row : List ℕ) → queue h (f i) ≡ row → or_else (first_of (queue h (f i))) (first_queued h (map f (range_with_len (i + 1) n))) ≡ None → queue h (f k) ≡ []
    go others (t ∷ ts) is left = let bad = rw is at left in absurd cc
    go others [] is left = ⊎_elim
        (λ here. ap (λ j. queue h (f j)) here ∙ is)
        (λ other. others (rw is at left) k (omega (arith, low, other)) (omega (arith, high)))
        (cases_eq k i)

scan_none : (l : Bounds) (h : List Event) (r : ℕ) → first_queued h (scan_order l r) ≡ None → (q : ℕ) → q < queues_in l → queue h (owner_at l q) ≡ []
scan_none l h r none q within =
    let count = queues_in l in
    let k = (q + (count - r % count)) % count in
    let low : k < count = omega arith in
    ap (λ j. queue h (owner_at l j)) (sym (comes_to count r q within)) ∙ scanned h (λ i. owner_at l ((r + i) % count)) 0 count none k (omega arith) (omega (arith, low))

second_none : (a b : Option ℕ) → or_else a b ≡ None → b ≡ None
second_none None b none = none
second_none (Some t) b none = absurd cc

pub choice_none : (pool : Pool) (h : List Event) (w r : ℕ) → AllowedFrom pool [] h → choice pool h w r ≡ None → (o : Owner) → queue h o ≡ []
unfolding choice
choice_none pool h w r so none o = go o
  where
    there : (p : Owner) → IsOwner pool.limits p → queue h p ≡ []
    there p within =
        let at = number_owner pool.limits p within in
        ap (queue h) (sym at.1) ∙ scan_none pool.limits h r (second_none (own_choice pool.mode (queue h (Work w))) (first_queued h (scan_order pool.limits r)) none) (queue_number pool.limits p) at.0

    go : (p : Owner) → queue h p ≡ []
    go (Sub s) = ⊎_elim (λ within. there (Sub s) within) (λ over. no_such_queue pool h (Sub s) so (λ within. absurd (omega (arith, over, within)))) (cases_lt s pool.limits.submitters)
    go (Work v) = ⊎_elim (λ within. there (Work v) within) (λ over. no_such_queue pool h (Work v) so (λ within. absurd (omega (arith, over, within)))) (cases_lt v pool.limits.workers)

-- ---- which steps reply so

taking_none : (h : List Event) (t : Option ℕ) → taking_says h t ≡ says.None → t ≡ None
taking_none h None is = refl
taking_none h (Some t) is = absurd (go (is_undone (status h t)) is)
  where
    go : (b : Bool) → (if b then says.Run t else says.Skip t) ≡ says.None → ⊥
    go true is = absurd cc
    go false is = absurd cc

status_not : (s : Status) → is_undone s ≡ false → status_says s ≡ says.None → ⊥
status_not status_is.Undone done is = absurd cc
status_not status_is.Normal done is = absurd cc
status_not (status_is.Exceptional code) done is = absurd cc
status_not status_is.Cancelled done is = absurd cc

arriving_not : (c : ℕ) (a : Arrival) → arriving_says c a ≡ says.None → ⊥
arriving_not c climb.Spent is = absurd cc
arriving_not c climb.Counted is = absurd cc
arriving_not c climb.Early is = absurd cc
arriving_not c climb.Fires is = absurd cc

pass_not : (h : List Event) (way : List ℕ) (root : Option ℕ) → pass_says h way root ≡ says.None → ⊥
pass_not h (c ∷ above) root is = arriving_not c (arrival h c) is
pass_not h [] (Some c) is = absurd cc
pass_not h [] None is = absurd cc

complete_not : (t : ℕ) (b : Bool) → (if b then says.Spent t else says.Hook t) ≡ says.None → ⊥
complete_not t true is = absurd cc
complete_not t false is = absurd cc

root_not : (t : ℕ) (b : Bool) → (if b then says.Root t else says.Spent t) ≡ says.None → ⊥
root_not t true is = absurd cc
root_not t false is = absurd cc

end_not : (h : List Event) (t : ℕ) (ending : Ending) → end_says h t ending ≡ says.None → ⊥
end_not h t Ok is = absurd cc
end_not h t Quiet is = absurd cc
end_not h t Try is = arriving_not t (arrival h t) is
end_not h t Pass is = pass_not h _ (root_of (path h t)) is
end_not h t Complete is = complete_not t (is_spent h t) is
end_not h t (Fail code) is = absurd cc

hook_not : (before after : List Event) (c : ℕ) (p : Option ℕ) → hook_says before after c p ≡ says.None → ⊥
hook_not before after c (Some p) is = arriving_not p (arrival after p) is
hook_not before after c None is = root_not c (is_undone (status before c)) is

yes_not : (b : Bool) → (if b then says.Yes else says.No) ≡ says.None → ⊥
yes_not true is = absurd cc
yes_not false is = absurd cc

-- some worker has no choice
record FoundNothing (pool : Pool) (h : List Event) : Type 0 where
  worker : ℕ
  from : ℕ
  none : choice pool h worker from ≡ None

none_reply : (pool : Pool) (h : List Event) (asked : Step) → reply_of pool h asked ≡ says.None → FoundNothing pool h
unfolding reply_of
none_reply pool h (Submit s k) is = absurd cc
none_reply pool h (Fork w k) is = absurd cc
none_reply pool h (Trigger w count) is = absurd cc
none_reply pool h (Poll w r) is = record { worker = w; from = r; none = taking_none h (choice pool h w r) is }
none_reply pool h (Help w r) is = record { worker = w; from = r; none = taking_none h (choice pool h w r) is }
none_reply pool h (Join w t r) is = go (is_undone (status h t)) refl is
  where
    go : (b : Bool) → is_undone (status h t) ≡ b → (if b then taking_says h (choice pool h w r) else status_says (status h t)) ≡ says.None → FoundNothing pool h
    go true undone is = record { worker = w; from = r; none = taking_none h (choice pool h w r) is }
    go false done is = absurd (status_not (status h t) done is)
none_reply pool h (End w ending) is = absurd (go (running h w) is)
  where
    go : (t : Option ℕ) → ending_says h w ending t ≡ says.None → ⊥
    go None is = absurd cc
    go (Some t) is = end_not _ t ending is
none_reply pool h (HookDone w) is = absurd (go (hand h w) is)
  where
    go : (c : Option ℕ) → hook_done_says h c ≡ says.None → ⊥
    go None is = absurd cc
    go (Some c) is = hook_not h _ c (parent h c) is
none_reply pool h (Add w c n) is = absurd cc
none_reply pool h (QuietRoot w t) is = absurd (go (root_of (path h t)) is)
  where
    go : (root : Option ℕ) → quiet_root_says h root ≡ says.None → ⊥
    go None is = absurd cc
    go (Some root) is = root_not root (is_undone (status h root)) is
none_reply pool h (Fault t code) is = absurd (yes_not (is_undone (status h t)) is)
none_reply pool h (Cancel t) is = absurd (go (status h t) is)
  where
    go : (s : Status) → cancel_says s ≡ says.None → ⊥
    go status_is.Undone is = absurd cc
    go status_is.Normal is = absurd cc
    go (status_is.Exceptional code) is = absurd cc
    go status_is.Cancelled is = absurd cc
none_reply pool h Shutdown is = absurd cc
none_reply pool h Stop is = absurd cc
none_reply pool h IsQuiescent is = absurd (yes_not (is_quiet pool.limits h) is)
none_reply pool h (State t) is = absurd cc
none_reply pool h (Release t) is = absurd cc

-- a step that is answered so found nothing in any queue
pub none_answer : (past : Past) (asked : Step) → AllowedFrom past.pool [] past.events → (answer past asked).0 ≡ says.None → (o : Owner) → queue past.events o ≡ []
unfolding answer
none_answer past asked so is = go (refusal_of past asked) is
  where
    go : (refusal : Option Refusal) → (answer_of past asked refusal).0 ≡ says.None → (o : Owner) → queue past.events o ≡ []
    go (Some r) is = absurd cc
    go None is = let found = none_reply past.pool past.events asked is in choice_none past.pool past.events found.worker found.from so found.none
