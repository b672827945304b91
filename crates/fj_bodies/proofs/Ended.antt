-- Which bodies no worker holds, once a body has ended without a result.
use Rattle.std.proofs.Common.{ℕ, ◌≡◌, ◌⊎◌, inl, inr, not, Bool, true, false, List, [], ◌∷◌, ◌++◌, Option, Some, None, refl, ap, sym, ◌∙◌, subst, append_assoc, ⊎_elim}
use Rattle.std.specs.Prelude.{if◌then◌else◌, ◌==◌, is_some}
use Rattle.std.specs.List.{list_all}
use Rattle.std.proofs.lemmas.Bool.{eq-eqb, eqb-true, true≢false}
use Rattle.std.proofs.Math.Bool.{and-false}
use Rattle.fj_rules.specs.declared.event.Event.{Event}
use Rattle.fj_rules.specs.declared.event.Event.TheVariants.{End, Fire}
use Rattle.fj_rules.specs.declared.event.How.{How}
use Rattle.fj_rules.specs.declared.place.Place.{Place}
use Rattle.fj_rules.specs.declared.place.Place.TheVariants.{Held, Open, Gone}
use Rattle.fj_rules.specs.Bounds.{Pool}
use Rattle.fj_rules.specs.Lists.{is_in}
use Rattle.fj_rules.specs.Tasks.{tasks}
use Rattle.fj_rules.specs.Places.{place, is_gone}
use Rattle.fj_rules.specs.Allowed.{AllowedFrom}
use Rattle.fj_rules.proofs.Events.Lawful.{allowed_more}
use Rattle.fj_rules.proofs.Events.KindsKept.{tasks_same}
use Rattle.fj_rules.proofs.Events.Spending.{spent_place, closed}
use Rattle.fj_rules.proofs.Events.Opening.{ended_held, ended_place, ending_place, ended_accepted, opens}
use Rattle.fj_rules.proofs.Places.PlaceLaws.{moves}
use Rattle.fj_rules.proofs.Places.PlacesKept.{place_held}
use Rattle.fj_rules.proofs.Steps.Standing.{allowed_append}
use Rattle.fj_slots.specs.Shelves.{Entries, is_there, with_entry, without_entries}
use Rattle.fj_body.specs.Stores.{is_waiting, has_body, HoldsBodies}
use Rattle.fj_body.proofs.Closes.{closes_all}
use Rattle.fj_body.proofs.Sweeps.{unmoved_known, body_at, went_by}

-- a body ends, and what comes after it moves nothing
pub record IsEnd (pool : Pool) (h : List Event) (t w : ℕ) (rest : List Event) : Type 0 where
  pub so : AllowedFrom pool [] h
  pub all : AllowedFrom pool h (End t w ∷ rest)
  pub unmoved : list_all (λ e. not (moves e)) rest ≡ true

-- the history after it
abbrev pub ended : List Event → ℕ → ℕ → List Event → List Event
ended h t w rest = h ++ End t w ∷ rest

joined : (h : List Event) (t w : ℕ) (rest : List Event) → (h ++ End t w ∷ []) ++ rest ≡ ended h t w rest
joined h t w rest = append_assoc h (End t w ∷ []) rest

same_tasks : (pool : Pool) (h : List Event) (t w : ℕ) (rest : List Event) → IsEnd pool h t w rest → tasks (ended h t w rest) ≡ tasks h
same_tasks pool h t w rest is = ap tasks (sym (joined h t w rest)) ∙ unmoved_known (h ++ End t w ∷ []) rest is.unmoved ∙ tasks_same h (End t w) refl

pub known_ended : (pool : Pool) (h : List Event) (t w : ℕ) (rest : List Event) → IsEnd pool h t w rest → is_in t (tasks h) ≡ true
known_ended pool h t w rest is = ended_accepted pool h t w is.so is.all.0

held_before : (pool : Pool) (h : List Event) (t w : ℕ) (rest : List Event) → IsEnd pool h t w rest → place h t ≡ Held w
held_before pool h t w rest is = place_held pool h w t is.so (ended_held pool h t w is.all.0)

-- where a task is at the end, beside where it was right after the body ended
closes_after : (pool : Pool) (h : List Event) (t w : ℕ) (rest : List Event) → IsEnd pool h t w rest → (u : ℕ) → is_in u (tasks h) ≡ true
    → (place (ended h t w rest) u ≡ place (h ++ End t w ∷ []) u) ⊎ ((place (h ++ End t w ∷ []) u ≡ Open) × (place (ended h t w rest) u ≡ Gone))
closes_after pool h t w rest is u known =
    subst (λ (k : List Event). (place k u ≡ place (h ++ End t w ∷ []) u) ⊎ ((place (h ++ End t w ∷ []) u ≡ Open) × (place k u ≡ Gone))) (joined h t w rest)
    (closes_all pool (h ++ End t w ∷ []) rest u (allowed_more pool [] h (End t w) is.so is.all.0) is.all.1 is.unmoved (ap (is_in u) (tasks_same h (End t w) refl) ∙ known))

-- the task is open or gone then
where_now : (pool : Pool) (h : List Event) (t w : ℕ) (rest : List Event) → IsEnd pool h t w rest → (place (ended h t w rest) t ≡ Open) ⊎ (place (ended h t w rest) t ≡ Gone)
where_now pool h t w rest is = ⊎_elim (λ stays. ⊎_elim (λ at. inl (stays ∙ at)) (λ at. inr (stays ∙ at)) first) (λ went. inr went.1) (closes_after pool h t w rest is t (known_ended pool h t w rest is))
  where
    pick : (b : Bool) → place (h ++ End t w ∷ []) t ≡ (if b then Open else Gone) → (place (h ++ End t w ∷ []) t ≡ Open) ⊎ (place (h ++ End t w ∷ []) t ≡ Gone)
    pick true at = inl at
    pick false at = inr at

    first : (place (h ++ End t w ∷ []) t ≡ Open) ⊎ (place (h ++ End t w ∷ []) t ≡ Gone)
    first = pick (opens h t) (ended_place pool h t w is.so is.all.0)

waits_or_gone : (p : Place) → (p ≡ Open) ⊎ (p ≡ Gone) → is_waiting p ≡ not (is_gone p)
waits_or_gone p (inl is) = rw is refl
waits_or_gone p (inr is) = rw is refl

-- whether its body waits then
own_waits : (pool : Pool) (h : List Event) (t w : ℕ) (rest : List Event) → IsEnd pool h t w rest → has_body (ended h t w rest) t ≡ not (is_gone (place (ended h t w rest) t))
unfolding has_body
own_waits pool h t w rest is =
    rw (same_tasks pool h t w rest is, known_ended pool h t w rest is, waits_or_gone (place (ended h t w rest) t) (where_now pool h t w rest is)) refl

-- nothing stands under its number
pub own_free : {B : Type 0} (pool : Pool) (h : List Event) (t w : ℕ) (rest : List Event) (bodies : Entries B) (ns : List ℕ) → IsEnd pool h t w rest → HoldsBodies h bodies → without_entries bodies ns t ≡ None
unfolding has_body
own_free {B} pool h t w rest bodies ns is holds = go (is_in t ns) (nothing (bodies t) (holds t ∙ rw (held_before pool h t w rest is) (and-false (is_in t (tasks h)))))
  where
    nothing : (o : Option B) → is_some o ≡ false → o ≡ None
    nothing None none = refl
    nothing (Some x) none = absurd cc

    go : (b : Bool) → bodies t ≡ None → (if b then None else bodies t) ≡ None
    go true none = refl
    go false none = none

-- the others wait on, but for those whose tasks went
pub others_wait : {B : Type 0} (pool : Pool) (h : List Event) (t w : ℕ) (rest : List Event) (bodies : Entries B) → IsEnd pool h t w rest → HoldsBodies h bodies → (u : ℕ) → (t == u) ≡ false
    → is_there (without_entries bodies (went_by h (End t w ∷ rest))) u ≡ has_body (ended h t w rest) u
others_wait pool h t w rest bodies is holds u apart =
    body_at pool h (End t w ∷ rest) bodies u is.so (allowed_append pool [] h (End t w ∷ rest) is.so is.all) (same_tasks pool h t w rest is)
    (λ known. subst (λ p. (place (ended h t w rest) u ≡ p) ⊎ ((p ≡ Open) × (place (ended h t w rest) u ≡ Gone)))
    (ending_place pool h t w u is.so is.all.0 (λ same. true≢false (sym (eq-eqb t u (sym same)) ∙ apart)) known) (closes_after pool h t w rest is u known))
    (holds u)

-- the task is gone: its body does not wait
pub ended_out : {B : Type 0} (pool : Pool) (h : List Event) (t w : ℕ) (rest : List Event) (bodies : Entries B) → IsEnd pool h t w rest → HoldsBodies h bodies → is_gone (place (ended h t w rest) t) ≡ true
    → HoldsBodies (ended h t w rest) (without_entries bodies (went_by h (End t w ∷ rest)))
ended_out {B} pool h t w rest bodies is holds gone u = go (t == u) refl
  where
    swept : Entries B
    swept = without_entries bodies (went_by h (End t w ∷ rest))

    own : is_there swept t ≡ has_body (ended h t w rest) t
    own = ap is_some (own_free pool h t w rest bodies (went_by h (End t w ∷ rest)) is holds) ∙ sym (own_waits pool h t w rest is ∙ ap not gone)

    go : (b : Bool) → (t == u) ≡ b → is_there swept u ≡ has_body (ended h t w rest) u
    go true at = subst (λ v. is_there swept v ≡ has_body (ended h t w rest) v) (eqb-true t u at) own
    go false at = others_wait pool h t w rest bodies is holds u at

-- the task is open: its body waits
pub ended_in : {B : Type 0} (pool : Pool) (h : List Event) (t w : ℕ) (rest : List Event) (bodies : Entries B) (x : B) → IsEnd pool h t w rest → HoldsBodies h bodies → is_gone (place (ended h t w rest) t) ≡ false
    → HoldsBodies (ended h t w rest) (with_entry (without_entries bodies (went_by h (End t w ∷ rest))) t x)
ended_in {B} pool h t w rest bodies x is holds opened u = go (t == u) refl
  where
    swept : Entries B
    swept = without_entries bodies (went_by h (End t w ∷ rest))

    own : has_body (ended h t w rest) t ≡ true
    own = own_waits pool h t w rest is ∙ ap not opened

    go : (b : Bool) → (t == u) ≡ b → is_some (if b then Some x else swept u) ≡ has_body (ended h t w rest) u
    go true at = sym (subst (λ v. has_body (ended h t w rest) v ≡ true) (eqb-true t u at) own)
    go false at = others_wait pool h t w rest bodies is holds u at

-- a task whose hook comes is gone
pub fired_gone : (pool : Pool) (h : List Event) (t w : ℕ) (how : How) → IsEnd pool h t w (Fire t how ∷ []) → is_gone (place (ended h t w (Fire t how ∷ [])) t) ≡ true
fired_gone pool h t w how is =
    let h1 = h ++ End t w ∷ [] in
    let so1 : AllowedFrom pool [] h1 = allowed_more pool [] h (End t w) is.so is.all.0 in
    let known : is_in t (tasks h1) ≡ true = ap (is_in t) (tasks_same h (End t w) refl) ∙ ended_accepted pool h t w is.so is.all.0 in
    ap (λ (k : List Event). is_gone (place k t)) (sym (append_assoc h (End t w ∷ []) (Fire t how ∷ [])))
    ∙ ap is_gone (spent_place pool h1 (Fire t how) t so1 is.all.1.0 refl known) ∙ ap (λ p. is_gone (closed p)) (ended_place pool h t w is.so is.all.0) ∙ go (opens h t)
  where
    go : (b : Bool) → is_gone (closed (if b then Open else Gone)) ≡ true
    go true = refl
    go false = refl
