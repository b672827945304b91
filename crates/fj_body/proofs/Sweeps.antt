-- The bodies of open tasks that went are dropped.
use Rattle.std.proofs.Common.{ℕ, ◌≡◌, ◌⊎◌, ◌≤◌, ◌&&◌, not, Bool, true, false, List, [], ◌∷◌, ◌++◌, length, drop, refl, ap, sym, ◌∙◌, arith, append_assoc}
use Rattle.std.specs.Prelude.{if◌then◌else◌, is_some, Option, None, take, ◌-◌}
use Rattle.std.proofs.Common.{length-append}
use Rattle.std.proofs.lemmas.List.{length-drop}
use Rattle.std.specs.List.{list_all}
use Rattle.std.proofs.Math.Seq.{drop-append_seam}
use Rattle.std.proofs.lemmas.Bool.{and_parts}
use Rattle.std.proofs.lemmas.List.{append-nil}
use Rattle.fj_rules.specs.declared.event.Event.{Event}
use Rattle.fj_rules.specs.declared.place.Place.{Place}
use Rattle.fj_rules.specs.declared.place.Place.TheVariants.{Queued, Held, Open, Gone}
use Rattle.fj_rules.specs.Bounds.{Pool}
use Rattle.fj_rules.specs.Lists.{is_in}
use Rattle.fj_rules.specs.Tasks.{tasks}
use Rattle.fj_rules.specs.Places.{place, is_gone, gone}
use Rattle.fj_rules.specs.Allowed.{AllowedFrom}
use Rattle.fj_rules.specs.Pasts.{Past, grown, gone_since}
use Rattle.fj_rules.specs.Epochs.{IsPast}
use Rattle.fj_rules.proofs.Headline.Parting.{gone_begins}
use Rattle.fj_rules.proofs.Lists.Members.{is_in_append}
use Rattle.fj_rules.proofs.Events.Growth.{gone_more}
use Rattle.fj_rules.proofs.Places.PlaceLaws.{moves, unmoved_tasks}
use Rattle.fj_rules.proofs.Places.GoneList.{in_gone}
use Rattle.fj_rules.proofs.Steps.Standing.{allowed_append}
use Rattle.fj_slots.specs.Shelves.{Entries, is_there, without_entries}
use Rattle.fj_body.specs.Stores.{is_waiting, has_body, HoldsBodies, went}
use Rattle.fj_body.proofs.Closes.{closes_all, waits_on}

-- ---- the gone tasks

gone_grows : (h es : List Event) → (newly : List ℕ) × (gone (h ++ es) ≡ gone h ++ newly)
gone_grows h [] = ([], ap gone (append-nil h) ∙ sym (append-nil (gone h)))
gone_grows h (e ∷ es) =
    let rest = gone_grows (h ++ e ∷ []) es in
    let one = gone_one_more h e in
    (one.0 ++ rest.0, ap gone (sym (append_assoc h (e ∷ []) es)) ∙ rest.1 ∙ ap (λ ts. ts ++ rest.0) one.1 ∙ append_assoc (gone h) one.0 rest.0)
  where
    gone_one_more : (h : List Event) (e : Event) → (newly : List ℕ) × (gone (h ++ e ∷ []) ≡ gone h ++ newly)
    gone_one_more h e = (_, gone_more h e)

-- those that went by these events
abbrev pub went_by : List Event → List Event → List ℕ
went_by h es = drop (length (gone h)) (gone (h ++ es))

pub gone_split : (h es : List Event) → gone (h ++ es) ≡ gone h ++ went_by h es
gone_split h es =
    let grows = gone_grows h es in
    grows.1 ∙ ap (λ ts. gone h ++ ts) (sym (ap (drop (length (gone h))) grows.1 ∙ drop-append_seam (gone h) grows.0))

-- ---- a step that moves nothing

pub unmoved_known : (h es : List Event) → list_all (λ e. not (moves e)) es ≡ true → tasks (h ++ es) ≡ tasks h
unmoved_known h [] unmoved = ap tasks (append-nil h)
unmoved_known h (e ∷ es) unmoved =
    let parts = and_parts (not (moves e)) (list_all (λ e. not (moves e)) es) unmoved in
    ap tasks (sym (append_assoc h (e ∷ []) es)) ∙ unmoved_known (h ++ e ∷ []) es parts.1 ∙ unmoved_tasks h e (flip (moves e) parts.0)
  where
    flip : (b : Bool) → not b ≡ true → b ≡ false
    flip true is = absurd cc
    flip false is = refl

waiting_stays : (p : Place) → is_waiting p ≡ true → is_gone p ≡ false
waiting_stays (Queued o) is = refl
waiting_stays (Held w) is = absurd cc
waiting_stays Open is = refl
waiting_stays Gone is = absurd cc

-- a known task that was not gone is among those that went exactly if it is gone now
pub went_is : (pool : Pool) (h es : List Event) (u : ℕ) → AllowedFrom pool [] h → AllowedFrom pool [] (h ++ es) → tasks (h ++ es) ≡ tasks h → is_in u (tasks h) ≡ true → is_gone (place h u) ≡ false
    → is_in u (went_by h es) ≡ is_gone (place (h ++ es) u)
went_is pool h es u so so' same known here =
    let before : is_in u (gone h) ≡ false = in_gone pool h u so known ∙ here in
    let after : is_in u (gone (h ++ es)) ≡ is_gone (place (h ++ es) u) = in_gone pool (h ++ es) u so' (ap (is_in u) same ∙ known) in
    sym (sym after ∙ ap (is_in u) (gone_split h es) ∙ is_in_append u (gone h) (went_by h es) ∙ rw before refl)

-- a body waits on, unless its task went
pub body_at : {B : Type 0} (pool : Pool) (h es : List Event) (bodies : Entries B) (u : ℕ) → AllowedFrom pool [] h → AllowedFrom pool [] (h ++ es) → tasks (h ++ es) ≡ tasks h
    → (is_in u (tasks h) ≡ true → (place (h ++ es) u ≡ place h u) ⊎ ((place h u ≡ Open) × (place (h ++ es) u ≡ Gone)))
    → is_there bodies u ≡ has_body h u → is_there (without_entries bodies (went_by h es)) u ≡ has_body (h ++ es) u
unfolding has_body
body_at {B} pool h es bodies u so so' same closes holds = rw same (go (is_in u (tasks h)) refl (is_waiting (place h u)) refl (bodies u) holds)
  where
    swept : (b : Bool) (o : Option B) → is_some o ≡ false → is_some (if b then None else o) ≡ false
    swept true o none = refl
    swept false o none = none

    go : (k : Bool) → is_in u (tasks h) ≡ k → (w : Bool) → is_waiting (place h u) ≡ w → (o : Option B) → is_some o ≡ (is_in u (tasks h) && is_waiting (place h u))
        → is_some (if is_in u (went_by h es) then None else o) ≡ (k && is_waiting (place (h ++ es) u))
    go false known w waits o is = swept (is_in u (went_by h es)) o (rw known at is)
    go true known w waits o is = rw (waits_on (place h u) (place (h ++ es) u) (closes known), waits) (pick w waits (rw (known, waits) at is))
      where
        shut : (b : Bool) → is_some o ≡ true → is_some (if b then None else o) ≡ not b
        shut true there = refl
        shut false there = there

        pick : (w : Bool) → is_waiting (place h u) ≡ w → is_some o ≡ w → is_some (if is_in u (went_by h es) then None else o) ≡ (w && not (is_gone (place (h ++ es) u)))
        pick false waits none = swept (is_in u (went_by h es)) o none
        pick true waits there = rw (went_is pool h es u so so' same known (waiting_stays (place h u) waits)) (shut (is_gone (place (h ++ es) u)) there)

-- after events that move nothing, those bodies wait whose tasks did not go
pub unmoved_bodies : {B : Type 0} (pool : Pool) (h es : List Event) (bodies : Entries B) → AllowedFrom pool [] h → AllowedFrom pool h es → list_all (λ e. not (moves e)) es ≡ true → HoldsBodies h bodies
    → HoldsBodies (h ++ es) (without_entries bodies (went_by h es))
unmoved_bodies pool h es bodies so all unmoved holds u =
    body_at pool h es bodies u so (allowed_append pool [] h es so all) (unmoved_known h es unmoved) (λ known. closes_all pool h es u so all unmoved known) (holds u)

-- ---- what the machine shows of the tasks that went

pub gone_longer : (past new : Past) (es : List Event) → new ≡ grown past es → IsPast past → length (gone_since past) ≤ length (gone_since new)
gone_longer past new es grew run = rw grew (omega (arith, ap (λ (ts : List ℕ). length ts) (since_grows past es run), length-append (gone_since past) (went_by past.events es)))
  where
    since_grows : (past : Past) (es : List Event) → IsPast past → gone_since (grown past es) ≡ gone_since past ++ went_by past.events es
    since_grows past es run =
        ap (drop (length (gone past.sealed))) (gone_split past.events es ∙ ap (λ (ts : List ℕ). ts ++ went_by past.events es) (gone_begins past run) ∙ append_assoc (gone past.sealed) (gone_since past) (went_by past.events es))
        ∙ drop-append_seam (gone past.sealed) (gone_since past ++ went_by past.events es)

pub went_shown : (past new : Past) (es : List Event) → new ≡ grown past es → IsPast past → drop (length (gone_since past)) (gone_since new) ≡ went past new
went_shown past new es grew run =
    rw grew (ap (drop (length (gone_since past))) (since_grows past es run) ∙ drop-append_seam (gone_since past) (went_by past.events es))
  where
    since_grows : (past : Past) (es : List Event) → IsPast past → gone_since (grown past es) ≡ gone_since past ++ went_by past.events es
    since_grows past es run =
        ap (drop (length (gone past.sealed))) (gone_split past.events es ∙ ap (λ (ts : List ℕ). ts ++ went_by past.events es) (gone_begins past run) ∙ append_assoc (gone past.sealed) (gone_since past) (went_by past.events es))
        ∙ drop-append_seam (gone past.sealed) (gone_since past ++ went_by past.events es)

take_whole : {X : Type 0} (xs : List X) → take (length xs) xs ≡ xs
take_whole [] = refl
take_whole (x ∷ xs) = ap (λ ys. x ∷ ys) (take_whole xs)

pub whole_tail : {X : Type 0} (xs : List X) (i : ℕ) → take (length xs - i) (drop i xs) ≡ drop i xs
whole_tail xs i = let many : length xs - i ≡ length (drop i xs) = sym (length-drop i xs) in rw many (take_whole (drop i xs))
