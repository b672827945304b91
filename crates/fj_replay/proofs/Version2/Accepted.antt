-- The numbers of tasks: those below the number of accepted ones.
use Rattle.std.proofs.Common.{ℕ, ◌≡◌, ◌+◌, ◌<◌, ◌≤◌, Bool, true, false, List, [], ◌∷◌, ◌++◌, length, Option, Some, None, refl, ap, sym, ◌∙◌, arith, length-append}
use Rattle.std.specs.Prelude.{if◌then◌else◌}
use Rattle.std.specs.List.{filter_map, cons_option}
use Rattle.std.proofs.lemmas.Bool.{le-ltb, ltb-true}
use Rattle.std.proofs.lemmas.List.Elements.{filter_map-append}
use Rattle.fj_rules.specs.declared.event.Event.{Event}
use Rattle.fj_rules.specs.declared.step.Step.{Step}
use Rattle.fj_rules.specs.declared.said.Said.{Said}
use Rattle.fj_rules.specs.declared.said.Said.TheVariants as says
use Rattle.fj_rules.specs.Lists.{is_in}
use Rattle.fj_rules.specs.Tasks.{accepted, accepted_by, is_kept, tasks}
use Rattle.fj_rules.specs.Headline.{RepliesTell, task_in}
use Rattle.fj_rules.specs.declared.limits.TheConstants.{MAX_EVENTS}
use Rattle.fj_rules.specs.Bounds.{Bounds, IsWithin}
use Rattle.fj_rules.specs.Answers.{answer}
use Rattle.fj_rules.specs.Pasts.{Past}
use Rattle.fj_rules.specs.Runs.{Steps}
use Rattle.fj_rules.specs.Epochs.{IsPast}
use Rattle.fj_rules.proofs.Events.Lawful.{is_numbered}
use Rattle.fj_rules.proofs.Steps.AnswersAllowed.{history_allowed}
use Rattle.fj_rules.proofs.Steps.RunsGrow.{history_fits}
use Rattle.fj_lines.specs.Headings.{start}
use Rattle.fj_replay.specs.Counted.{IsCounted}
use Rattle.fj_replay.specs.Plays.{is_task}

-- a number that no task has is not kept
pub unknown_number : (past : Past) (t : ℕ) → IsPast past → accepted past.events ≤ t → is_kept past.events t ≡ false
unfolding is_kept
unknown_number past t run high =
    let absent : is_in t (tasks past.events) ≡ false = is_numbered past.pool past.events (history_allowed past run) t ∙ le-ltb t (accepted past.events) high in
    rw absent refl

-- the number of a task is below that of the accepted ones
pub known_number : (past : Past) (t : ℕ) → IsPast past → is_in t (tasks past.events) ≡ true → t < accepted past.events
known_number past t run there = ltb-true t (accepted past.events) (sym (is_numbered past.pool past.events (history_allowed past run) t) ∙ there)

-- how many tasks there are after a reply
abbrev pub after_reply : ℕ → Said → ℕ
after_reply n reply = if is_task reply then n + 1 else n

one_if : (ts : List ℕ) (reply : Said) → length (ts ++ filter_map task_in (reply ∷ [])) ≡ after_reply (length ts) reply
one_if ts (says.Task t) = length-append ts (t ∷ [])
one_if ts says.None = rw length-append (omega arith)
one_if ts (says.Run t) = rw length-append (omega arith)
one_if ts (says.Skip t) = rw length-append (omega arith)
one_if ts says.Done = rw length-append (omega arith)
one_if ts (says.Counted t) = rw length-append (omega arith)
one_if ts (says.Hook t) = rw length-append (omega arith)
one_if ts (says.Spent t) = rw length-append (omega arith)
one_if ts (says.Early t) = rw length-append (omega arith)
one_if ts (says.Root t) = rw length-append (omega arith)
one_if ts (says.Count n) = rw length-append (omega arith)
one_if ts says.Yes = rw length-append (omega arith)
one_if ts says.No = rw length-append (omega arith)
one_if ts says.Normal = rw length-append (omega arith)
one_if ts (says.Exceptional code) = rw length-append (omega arith)
one_if ts says.Cancelled = rw length-append (omega arith)
one_if ts (says.Refused refusal) = rw length-append (omega arith)
one_if ts (says.State place status) = rw length-append (omega arith)

-- a reply accepts a task exactly where the events do
pub accepted_after : (h es : List Event) (reply : Said) → RepliesTell es (reply ∷ []) → accepted (h ++ es) ≡ after_reply (accepted h) reply
unfolding accepted tasks
accepted_after h es reply tells =
    ap length (filter_map-append accepted_by h es ∙ ap (λ (ts : List ℕ). filter_map accepted_by h ++ ts) tells.accepts) ∙ one_if (filter_map accepted_by h) reply

pub after_more : (n : ℕ) (reply : Said) → n ≤ after_reply n reply
after_more n reply = go (is_task reply)
  where
    go : (b : Bool) → n ≤ (if b then n + 1 else n)
    go true = omega arith
    go false = omega arith

-- there are no more tasks than events
few_said : (h : List Event) → length (filter_map accepted_by h) ≤ length h
few_said [] = omega arith
few_said (e ∷ h) = go (accepted_by e) (few_said h)
  where
    go : (o : Option ℕ) → length (filter_map accepted_by h) ≤ length h → length (cons_option o (filter_map accepted_by h)) ≤ length (e ∷ h)
    go None few = omega arith
    go (Some t) few = omega arith

pub few_accepted : (h : List Event) → accepted h ≤ length h
unfolding accepted tasks
few_accepted h = few_said h

-- without a seal there are no more than the limit of events
pub accepted_small : (past : Past) → IsPast past → past.sealed ≡ [] → accepted past.events ≤ past.pool.limits.events
accepted_small past run none =
    let few = few_accepted past.events in
    let fits = history_fits past run in
    let nothing : length past.sealed ≡ 0 = ap length none in
    omega arith

-- so one more fits its type
pub few_tasks : (past : Past) (l : Bounds) → IsPast past → past.sealed ≡ [] → l ≡ past.pool.limits → IsWithin l.workers l.submitters l.tasks l.events → accepted past.events ≤ MAX_EVENTS
few_tasks past l run none same within =
    let most = accepted_small past run none in
    let few = within.few_events in
    let events : l.events ≡ past.pool.limits.events = ap (λ (b : Bounds). b.events) same in
    omega arith

pub none_accepted : accepted [] ≡ 0
unfolding accepted tasks
none_accepted = refl

-- ---- a count of the accepted tasks, at the start and after a step

pub fresh_counted : (m : Past) → m ≡ start m.pool → IsCounted m 0
fresh_counted m is = record { count = sym (ap (λ (past : Past). accepted past.events) is ∙ none_accepted); unsealed = ap (λ (past : Past). past.sealed) is }

counted : (old new : Past) (asked : Step) (reply : Said) → Steps old asked reply new → RepliesTell (answer old asked).1 (reply ∷ []) → accepted new.events ≡ after_reply (accepted old.events) reply
counted old new asked reply step tells = ap (λ (past : Past). accepted past.events) step.1 ∙ accepted_after old.events (answer old asked).1 reply tells

still_unsealed : (old new : Past) (asked : Step) (reply : Said) → Steps old asked reply new → old.sealed ≡ [] → new.sealed ≡ []
still_unsealed old new asked reply step none = ap (λ (past : Past). past.sealed) step.1 ∙ none

pub counted_task : (old new : Past) (asked : Step) (reply : Said) (n : ℕ) → Steps old asked reply new → RepliesTell (answer old asked).1 (reply ∷ []) → is_task reply ≡ true → IsCounted old n → IsCounted new (n + 1)
counted_task old new asked reply n step tells accepts before =
    let more : accepted new.events ≡ accepted old.events + 1 = counted old new asked reply step tells ∙ rw accepts refl in
    record { count = omega (arith, more, before.count); unsealed = still_unsealed old new asked reply step before.unsealed }

pub counted_none : (old new : Past) (asked : Step) (reply : Said) (n : ℕ) → Steps old asked reply new → RepliesTell (answer old asked).1 (reply ∷ []) → is_task reply ≡ false → IsCounted old n → IsCounted new n
counted_none old new asked reply n step tells accepts before =
    let none : accepted new.events ≡ accepted old.events = counted old new asked reply step tells ∙ rw accepts refl in
    record { count = before.count ∙ sym none; unsealed = still_unsealed old new asked reply step before.unsealed }
