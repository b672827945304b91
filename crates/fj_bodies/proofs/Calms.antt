-- Steps that hand no task out and end no body leave every task where it is, but for open ones that go.
use Rattle.std.proofs.Common.{ℕ, ◌≡◌, ◌+◌, Bool, true, false, not, List, [], ◌∷◌, ◌++◌, Option, Some, None, refl, ap, sym, ◌∙◌, subst}
use Rattle.std.specs.Prelude.{if◌then◌else◌, ◌||◌, drop, length}
use Rattle.std.specs.List.{list_all}
use Rattle.std.proofs.lemmas.Bool.{true≢false}
use Rattle.std.proofs.lemmas.List.{append-nil}
use Rattle.std.proofs.Math.Seq.{drop-append_seam}
use Rattle.fj_rules.specs.declared.event.Event.{Event}
use Rattle.fj_rules.specs.declared.event.Event.TheVariants as event
use Rattle.fj_rules.specs.declared.refusal.Refusal.{Refusal}
use Rattle.fj_rules.specs.declared.said.Said.{Said}
use Rattle.fj_rules.specs.declared.said.Said.TheVariants as says
use Rattle.fj_rules.specs.declared.status.Status.{Status}
use Rattle.fj_rules.specs.declared.status.Status.TheVariants as status_is
use Rattle.fj_rules.specs.declared.step.Step.{Step}
use Rattle.fj_rules.specs.declared.step.Step.TheVariants as ask
use Rattle.fj_rules.specs.Allowed.{is_closed, is_stopped}
use Rattle.fj_rules.specs.Bounds.{Pool}
use Rattle.fj_rules.specs.Climbs.{path, path_up}
use Rattle.fj_rules.specs.Tasks.{released}
use Rattle.fj_rules.specs.Places.{gone}
use Rattle.fj_rules.specs.Answers.{answer, events_of, reply_of, cancel_says, quiet_root_says, settling, failing, root_events, root_of}
use Rattle.fj_rules.specs.Pasts.{Past, grown}
use Rattle.fj_rules.specs.Runs.{Steps}
use Rattle.fj_rules.proofs.Places.PlaceLaws.{moves}
use Rattle.fj_rules.proofs.Steps.AnswersAllowed.{history_allowed, answer_allowed}
use Rattle.fj_slots.specs.Shelves.{Entries, without_entries}
use Rattle.fj_body.specs.Stores.{IsStored, HoldsBodies, went}
use Rattle.fj_rules.specs.Statuses.{status, is_undone}
use Rattle.fj_rules.specs.Completers.{pending}
use Rattle.fj_slots.specs.Shelves.{entries}
use Rattle.fj_body.specs.Stores.{StoreState, still_held}
use Rattle.fj_body.specs.Releases.{Releases}
use Rattle.fj_body.specs.Asking.{is_calm, Drops}
use Rattle.fj_body.specs.Asking as does
use Rattle.fj_rules.proofs.Steps.Answered.{Answered, Refuses, Makes, answered, last_none}
use Rattle.fj_body.proofs.Following.{is_rest, rest_unmoved, rest_released, settling_rest, failing_rest}
use Rattle.fj_body.proofs.Stored.{stored_on}
use Rattle.fj_body.proofs.Sweeps.{unmoved_bodies}

-- the events move nothing, and release nothing
abbrev pub IsStill : List Event → Type 0
IsStill es = (list_all (λ e. not (moves e)) es ≡ true) × (released es ≡ [])

rest_is_still : (es : List Event) → list_all is_rest es ≡ true → IsStill es
rest_is_still es all = (rest_unmoved es all, rest_released es all)

root_still : (h : List Event) (root : Option ℕ) → IsStill (root_events h root)
unfolding released
root_still h None = (refl, refl)
root_still h (Some c) = rest_is_still (settling h c status_is.Normal) (settling_rest h c status_is.Normal)

events_still : (pool : Pool) (h : List Event) (asked : Step) → is_calm asked ≡ true → IsStill (events_of pool h asked)
unfolding events_of released
events_still pool h (ask.Add w c n) calm = (refl, refl)
events_still pool h (ask.QuietRoot w t) calm = root_still h (root_of (path h t))
events_still pool h (ask.Fault t code) calm = rest_is_still (failing h t code) (failing_rest h t code)
events_still pool h (ask.Cancel t) calm = rest_is_still (settling h t status_is.Cancelled) (settling_rest h t status_is.Cancelled)
events_still pool h ask.Shutdown calm = go (is_closed h || is_stopped h)
  where
    go : (b : Bool) → IsStill (if b then [] else event.Close ∷ [])
    go true = (refl, refl)
    go false = (refl, refl)
events_still pool h ask.Stop calm = go (is_stopped h)
  where
    go : (b : Bool) → IsStill (if b then [] else event.Stop ∷ [])
    go true = (refl, refl)
    go false = (refl, refl)
events_still pool h (ask.State t) calm = (refl, refl)
events_still pool h ask.IsQuiescent calm = (refl, refl)
events_still pool h _ calm = absurd cc

pub calm_still : (past : Past) (asked : Step) → is_calm asked ≡ true → IsStill (answer past asked).1
unfolding released
calm_still past asked calm = go (answered past asked)
  where
    go : Answered past asked (answer past asked).0 (answer past asked).1 → IsStill (answer past asked).1
    go (Refuses r said none) = rw none (refl, refl)
    go (Makes stands said made) = rw made (events_still past.pool past.events asked calm)

-- a store after such a step
pub swept_stored : {B R : Type 0} (past new : Past) (asked : Step) (bodies bodies' : Entries B) (results : Entries R) (ts : List ℕ) → IsStored past bodies results ts → is_calm asked ≡ true
    → new ≡ grown past (answer past asked).1 → bodies' ≡ without_entries bodies (went past new) → IsStored new bodies' results ts
swept_stored {B} {R} past new asked bodies bodies' results ts is calm grew left =
    let still = calm_still past asked calm in
    stored_on past new asked (answer past asked).1 bodies bodies' results ts is grew refl still.1
    (subst (λ (all : Entries B). HoldsBodies (past.events ++ (answer past asked).1) all) (sym (left ∙ ap (λ (p : Past). without_entries bodies (went past p)) grew))
    (unmoved_bodies past.pool past.events (answer past asked).1 bodies (history_allowed past is.run) (answer_allowed past asked is.run) still.0 is.bodies_held))

-- ---- a refused step

pub nothing_went : (past new : Past) → new ≡ past → went past new ≡ []
nothing_went past new same = ap (went past) same ∙ ap (drop (length (gone past.events))) (sym (append-nil (gone past.events))) ∙ drop-append_seam (gone past.events) []

-- the past that a refused step leaves
pub refused_steps : (past new : Past) (asked : Step) (reply : Said) (r : Refusal) → Steps past asked reply new → reply ≡ says.Refused r → new ≡ past → Steps past asked (says.Refused r) past
refused_steps past new asked reply r step is same = (sym is ∙ step.0, sym same ∙ step.1)

-- ---- replies

cancel_one : (s : Status) (reply : Said) → reply ≡ cancel_says s → (reply ≡ says.Yes → ⊥) → (reply ≡ says.No → ⊥) → ⊥
cancel_one status_is.Undone reply is no_yes no_no = no_yes is
cancel_one status_is.Normal reply is no_yes no_no = no_no is
cancel_one (status_is.Exceptional code) reply is no_yes no_no = no_no is
cancel_one status_is.Cancelled reply is no_yes no_no = no_yes is

pub cancel_replies : (past : Past) (t : ℕ) (reply : Said) → reply ≡ (answer past (ask.Cancel t)).0 → (reply ≡ says.Yes → ⊥) → (reply ≡ says.No → ⊥) → ((r : Refusal) → reply ≡ says.Refused r → ⊥) → ⊥
unfolding reply_of
cancel_replies past t reply is no_yes no_no no_refusal = go (answered past (ask.Cancel t))
  where
    go : Answered past (ask.Cancel t) (answer past (ask.Cancel t)).0 (answer past (ask.Cancel t)).1 → ⊥
    go (Refuses r refused none) = no_refusal r (is ∙ refused)
    go (Makes stands replied made) = cancel_one (status past.events t) reply (is ∙ replied) no_yes no_no

pub fault_replies : (past : Past) (t code : ℕ) (reply : Said) → reply ≡ (answer past (ask.Fault t code)).0 → (reply ≡ says.Yes → ⊥) → (reply ≡ says.No → ⊥) → ((r : Refusal) → reply ≡ says.Refused r → ⊥) → ⊥
unfolding reply_of
fault_replies past t code reply is no_yes no_no no_refusal = go (answered past (ask.Fault t code))
  where
    pick : (b : Bool) → reply ≡ (if b then says.Yes else says.No) → ⊥
    pick true at = no_yes at
    pick false at = no_no at

    go : Answered past (ask.Fault t code) (answer past (ask.Fault t code)).0 (answer past (ask.Fault t code)).1 → ⊥
    go (Refuses r refused none) = no_refusal r (is ∙ refused)
    go (Makes stands replied made) = pick (is_undone (status past.events t)) (is ∙ replied)

pub add_replies : (past : Past) (w c n : ℕ) (reply : Said) → reply ≡ (answer past (ask.Add w c n)).0 → ((m : ℕ) → reply ≡ says.Count m → ⊥) → ((r : Refusal) → reply ≡ says.Refused r → ⊥) → ⊥
unfolding reply_of
add_replies past w c n reply is no_count no_refusal = go (answered past (ask.Add w c n))
  where
    go : Answered past (ask.Add w c n) (answer past (ask.Add w c n)).0 (answer past (ask.Add w c n)).1 → ⊥
    go (Refuses r refused none) = no_refusal r (is ∙ refused)
    go (Makes stands replied made) = no_count (pending past.events c + n) (is ∙ replied)

-- each path has a root
pub root_replies : (past : Past) (w t : ℕ) (reply : Said) → reply ≡ (answer past (ask.QuietRoot w t)).0 → ((r : Refusal) → reply ≡ says.Refused r → ⊥) → does.is_root reply ≡ true
unfolding reply_of path path_up
root_replies past w t reply is no_refusal = go (answered past (ask.QuietRoot w t))
  where
    h : List Event
    h = past.events

    pick : (c : ℕ) (b : Bool) → does.is_root (if b then says.Root c else says.Spent c) ≡ true
    pick c true = refl
    pick c false = refl

    there : (root : Option ℕ) → root_of (path h t) ≡ root → does.is_root (quiet_root_says h root) ≡ true
    there None at = absurd (true≢false (sym (last_none (path h t) at)))
    there (Some c) at = pick c (is_undone (status h c))

    go : Answered past (ask.QuietRoot w t) (answer past (ask.QuietRoot w t)).0 (answer past (ask.QuietRoot w t)).1 → does.is_root reply ≡ true
    go (Refuses r refused none) = absurd (no_refusal r (is ∙ refused))
    go (Makes stands replied made) = ap does.is_root (is ∙ replied) ∙ there (root_of (path h t)) refl

module _ {B K O : Type 0} where
  made_drops : (old : StoreState B K O) (asked : Step) (reply : Said) (new : StoreState B K O) → ((r : Refusal) → reply ≡ says.Refused r → ⊥) → Drops old asked reply new → does.Makes old asked reply new
  made_drops old asked (says.Refused r) new unrefused drops = absurd (unrefused r refl)
  made_drops old asked _ new unrefused drops = drops

  -- what is not refused was made
  pub made_by : (old mid new : StoreState B K O) (asked : Step) (reply : Said) → Steps old.past asked reply mid.past → entries mid.bodies ≡ still_held old mid.past → mid ≡ record old { past = mid.past; bodies = mid.bodies }
      → Releases mid new → ((r : Refusal) → reply ≡ says.Refused r → ⊥) → does.Makes old asked reply new
  made_by old mid new asked reply step bodies others releases unrefused =
      made_drops old asked reply new unrefused (record { mid = mid; step = step; bodies = bodies; others = others; releases = releases })

  pub drops_made : (old : StoreState B K O) (asked : Step) (reply : Said) (new : StoreState B K O) → ((r : Refusal) → reply ≡ says.Refused r → ⊥) → does.Makes old asked reply new → Drops old asked reply new
  drops_made old asked (says.Refused r) new unrefused made = absurd (unrefused r refl)
  drops_made old asked _ new unrefused made = made

  -- the reply is the machine's
  pub makes_reply : (old : StoreState B K O) (asked : Step) (reply : Said) (new : StoreState B K O) → does.Makes old asked reply new → reply ≡ (answer old.past asked).0
  makes_reply old asked (says.Refused r) new made = made.0.0
  makes_reply old asked _ new made = made.step.0
