-- A task whose body ends: open if it is a completer that is not spent, gone otherwise.
use Rattle.std.proofs.Common.{ℕ, ◌≡◌, ◌≢◌, ◌-◌, Bool, true, false, not, ◌&&◌, List, [], ◌∷◌, ◌++◌, length, refl, ap, sym, ◌∙◌}
use Rattle.std.specs.Prelude.{◌==◌, if◌then◌else◌}
use Rattle.std.proofs.lemmas.Bool.{eq-eqb, or_right, true≢false}
use Rattle.fj_rules.specs.declared.event.Event.{Event}
use Rattle.fj_rules.specs.declared.event.Event.TheVariants.{End}
use Rattle.fj_rules.specs.declared.place.Place.TheVariants.{Open, Gone}
use Rattle.fj_rules.specs.Bounds.{Pool}
use Rattle.fj_rules.specs.Lists.{is_in}
use Rattle.fj_rules.specs.Tasks.{tasks, is_completer}
use Rattle.fj_rules.specs.Stacks.{stack}
use Rattle.fj_rules.specs.Completers.{is_spent}
use Rattle.fj_rules.specs.Places.{opened, place, is_open, is_gone, open_tasks, gone}
use Rattle.fj_rules.specs.Allowed.{Allowed, AllowedFrom}
use Rattle.fj_rules.proofs.Lists.Members.{is_in_append, get_is_in}
use Rattle.fj_rules.proofs.Events.Growth.{opened_more}
use Rattle.fj_rules.proofs.Events.Lawful.{number_if_is}
use Rattle.fj_rules.proofs.Places.GoneList.{held_here}
use Rattle.fj_rules.proofs.Places.OnePlace.{opened_out, out_new}
use Rattle.fj_rules.proofs.Places.PlaceLaws.{place_out, place_kept, open_gains, gone_one}
use Rattle.fj_rules.proofs.Events.Spending.{moved_spent}
use Rattle.fj_rules.proofs.Events.KindsKept.{tasks_same, completer_still}

-- whether it is open after its body ended
abbrev pub opens : List Event → ℕ → Bool
opens h t = is_completer h t && not (is_spent h t)

-- it was held there, and so it was accepted
pub ended_held : (pool : Pool) (h : List Event) (t w : ℕ) → Allowed pool h (End t w) → is_in t (stack h w) ≡ true
ended_held pool h t w may = get_is_in t (stack h w) (length (stack h w) - 1) may.0

pub ended_accepted : (pool : Pool) (h : List Event) (t w : ℕ) → AllowedFrom pool [] h → Allowed pool h (End t w) → is_in t (tasks h) ≡ true
ended_accepted pool h t w so may = rw (tasks_same h (End t w) refl) at ((out_new pool h (End t w) t so may refl).known)

pub ended_place : (pool : Pool) (h : List Event) (t w : ℕ) → AllowedFrom pool [] h → Allowed pool h (End t w) → place (h ++ End t w ∷ []) t ≡ (if opens h t then Open else Gone)
ended_place pool h t w so may =
    let e = End t w in
    let out = out_new pool h e t so may refl in
    let there : is_in t (opened (h ++ e ∷ [])) ≡ true =
    rw (opened_more, is_in_append t (opened h) (t ∷ [])) (or_right (is_in t (opened h)) (is_in t (t ∷ [])) (rw (eq-eqb t t refl) refl)) in
    place_out (h ++ e ∷ []) t out.queues out.stacks
    ∙ rw (completer_still h e t (λ new. absurd cc), there, moved_spent h e t refl) (go (is_completer h t) (not (is_spent h t)))
  where
    go : (a b : Bool) → (if a && true && b then Open else Gone) ≡ (if a && b then Open else Gone)
    go true b = refl
    go false b = refl

-- the others stay where they were
pub ending_place : (pool : Pool) (h : List Event) (t w u : ℕ) → AllowedFrom pool [] h → Allowed pool h (End t w) → u ≢ t → is_in u (tasks h) ≡ true → place (h ++ End t w ∷ []) u ≡ place h u
ending_place pool h t w u so may other known =
    place_kept pool h (End t w) u so may known (λ taken. absurd cc) (λ v ended. other (sym (number_if_is (v == w) t u ended).1)) (moved_spent h (End t w) u refl)

pub ended_open : (pool : Pool) (h : List Event) (t w : ℕ) → AllowedFrom pool [] h → Allowed pool h (End t w)
    → open_tasks (h ++ End t w ∷ []) ≡ open_tasks h ++ (if opens h t then t ∷ [] else [])
ended_open pool h t w so may =
    open_gains h (End t w) t refl (λ u there.
    let out = opened_out pool h so u there in
    ending_place pool h t w u so may (λ same. true≢false (sym (ended_held pool h t w may) ∙ ap (λ v. is_in v (stack h w)) (sym same) ∙ out.stacks w)) out.known)
    ∙ rw (ended_place pool h t w so may) (go (opens h t))
  where
    go : (b : Bool) → open_tasks h ++ (if is_open (if b then Open else Gone) then t ∷ [] else []) ≡ open_tasks h ++ (if b then t ∷ [] else [])
    go true = refl
    go false = refl

pub ended_gone : (pool : Pool) (h : List Event) (t w : ℕ) → AllowedFrom pool [] h → Allowed pool h (End t w)
    → gone (h ++ End t w ∷ []) ≡ gone h ++ (if opens h t then [] else t ∷ [])
ended_gone pool h t w so may =
    gone_one pool h (End t w) t so may refl (ended_accepted pool h t w so may) (λ u other known. ending_place pool h t w u so may other known)
    ∙ rw (ended_place pool h t w so may, held_here h w t (ended_held pool h t w may)) (go (opens h t))
  where
    go : (b : Bool) → gone h ++ (if is_gone (if b then Open else Gone) && true then t ∷ [] else []) ≡ gone h ++ (if b then [] else t ∷ [])
    go true = refl
    go false = refl
