-- What an arrival at a completer does, from where the completer is.
use Rattle.std.proofs.Common.{ℕ, ◌≡◌, Bool, true, false, not, ◌&&◌, ◌||◌, List, [], ◌∷◌, ◌++◌, Option, Some, None, refl, ap, sym, ◌∙◌, ⊎_elim}
use Rattle.std.specs.Prelude.{◌==◌, nat_lt, if◌then◌else◌, is_some}
use Rattle.std.specs.List.{cons_option}
use Rattle.std.proofs.lemmas.Bool.{eq-eqb, or_right, true≢false, cases_eq}
use Rattle.fj_rules.specs.declared.event.Event.{Event}
use Rattle.fj_rules.specs.declared.event.Event.TheVariants.{Acc, Make, Out, Skip, End}
use Rattle.fj_rules.specs.declared.owner.Owner.{Owner}
use Rattle.fj_rules.specs.declared.place.Place.TheVariants.{Gone}
use Rattle.fj_rules.specs.Bounds.{Pool}
use Rattle.fj_rules.specs.Lists.{is_in}
use Rattle.fj_rules.specs.Tasks.{tasks, accepted_by, is_completer}
use Rattle.fj_rules.specs.Statuses.{is_undone, status}
use Rattle.fj_rules.specs.Completers.{is_spent, pending}
use Rattle.fj_rules.specs.Places.{queued_in, held_by, opened, opened_by, place, place_of, is_open, is_gone}
use Rattle.fj_rules.specs.Climbs.{Spent, Counted, Early, Fires, arrival}
use Rattle.fj_rules.specs.Allowed.{Allowed, AllowedFrom}
use Rattle.fj_rules.proofs.Lists.Members.{is_in_append}
use Rattle.fj_rules.proofs.Events.Growth.{tasks_more, opened_more}
use Rattle.fj_rules.proofs.Events.Lawful.{by_events, is_in_with, number_if_is}
use Rattle.fj_rules.proofs.Places.GoneTasks.{spent_stays, gone_nowhere}
use Rattle.fj_rules.proofs.Places.OnePlace.{never}
use Rattle.fj_rules.proofs.Places.PlaceLaws.{place_more, unmoved_place}
use Rattle.fj_rules.proofs.Events.Spending.{done_now}
use Rattle.fj_rules.proofs.Events.NewTasks.{submitted_place}
use Rattle.fj_rules.proofs.Events.Taking.{handed_place}
use Rattle.fj_rules.proofs.Events.KindsKept.{completer_known}

-- ---- a task that was not opened and is not spent is not gone

abbrev pub IsKeptSomewhere : List Event → Type 0
IsKeptSomewhere h = (t : ℕ) → is_in t (tasks h) ≡ true → is_in t (opened h) ≡ false → is_spent h t ≡ false → is_gone (place h t) ≡ false

still_there : (q : Option Owner) (v : Option ℕ) (c s s' : Bool) → is_gone (place_of q v (c && false && s)) ≡ false → is_gone (place_of q v (c && false && s')) ≡ false
still_there (Some o) v c s s' there = refl
still_there None (Some w) c s s' there = refl
still_there None None true s s' there = there
still_there None None false s s' there = there

stays_there : (h : List Event) (e : Event) (t : ℕ) → is_in t (opened h) ≡ false
    → place (h ++ e ∷ []) t ≡ place_of (queued_in h t) (held_by h t) (is_completer h t && is_in t (opened h) && not (is_spent (h ++ e ∷ []) t))
    → is_gone (place h t) ≡ false → is_gone (place (h ++ e ∷ []) t) ≡ false
unfolding place
stays_there h e t unopened now there =
    ap is_gone now ∙ rw unopened (still_there (queued_in h t) (held_by h t) (is_completer h t) (not (is_spent h t)) (not (is_spent (h ++ e ∷ []) t)) (rw unopened at there))

opened_now : (h : List Event) (e : Event) (t : ℕ) → opened_by e ≡ Some t → is_in t (opened (h ++ e ∷ [])) ≡ true
opened_now h e t is = rw (opened_more, is, is_in_append t (opened h) (t ∷ [])) (or_right (is_in t (opened h)) (is_in t (t ∷ [])) (rw (eq-eqb t t refl) refl))

opened_still : (h : List Event) (e : Event) (t : ℕ) → is_in t (opened h) ≡ true → is_in t (opened (h ++ e ∷ [])) ≡ true
opened_still h e t there = rw (opened_more, is_in_append t (opened h) (cons_option (opened_by e) []), there) refl

-- a task that was accepted before
old_there : (pool : Pool) (h : List Event) (e : Event) (t : ℕ) → AllowedFrom pool [] h → Allowed pool h e → is_in t (tasks h) ≡ true
    → is_in t (opened h) ≡ false → is_in t (opened (h ++ e ∷ [])) ≡ false → is_spent (h ++ e ∷ []) t ≡ false → is_gone (place h t) ≡ false → is_gone (place (h ++ e ∷ []) t) ≡ false
old_there pool h (Out u w) t so may known was unopened unspent there =
    ⊎_elim
    (λ same. ap (λ v. is_gone (place (h ++ Out u w ∷ []) v)) (sym same) ∙ ap is_gone (handed_place pool h u w so may))
    (λ other. stays_there h (Out u w) t was (place_more pool h (Out u w) t so may known (λ is. other cc) (λ v is. absurd cc)) there)
    (cases_eq u t)
old_there pool h (Skip u w) t so may known was unopened unspent there =
    ⊎_elim
    (λ same. absurd (true≢false (sym (spent_stays h (Skip u w) t (done_now h t (ap (λ v. is_undone (status h v)) (sym same) ∙ may.1))) ∙ unspent)))
    (λ other. stays_there h (Skip u w) t was (place_more pool h (Skip u w) t so may known (λ is. other cc) (λ v is. absurd cc)) there)
    (cases_eq u t)
old_there pool h (End u w) t so may known was unopened unspent there =
    ⊎_elim
    (λ same. absurd (true≢false (sym (opened_now h (End u w) t (ap Some same)) ∙ unopened)))
    (λ other. stays_there h (End u w) t was (place_more pool h (End u w) t so may known (λ is. absurd cc) (λ v is. other (number_if_is (v == w) u t is).1)) there)
    (cases_eq u t)
old_there pool h (Acc u o k) t so may known was unopened unspent there = stays_there h (Acc u o k) t was (place_more pool h (Acc u o k) t so may known (λ is. absurd cc) (λ v is. absurd cc)) there
old_there pool h (Make u k) t so may known was unopened unspent there = stays_there h (Make u k) t was (place_more pool h (Make u k) t so may known (λ is. absurd cc) (λ v is. absurd cc)) there
old_there pool h e t so may known was unopened unspent there = stays_there h e t was (unmoved_place pool h e t so may refl known) there

-- a task that is accepted now
new_there : (pool : Pool) (h : List Event) (e : Event) (t : ℕ) → AllowedFrom pool [] h → Allowed pool h e → accepted_by e ≡ Some t
    → is_in t (opened (h ++ e ∷ [])) ≡ false → is_gone (place (h ++ e ∷ []) t) ≡ false
new_there pool h (Acc u o k) t so may is unopened =
    let same : u ≡ t = cc in
    ap (λ v. is_gone (place (h ++ Acc u o k ∷ []) v)) (sym same) ∙ ap is_gone (submitted_place pool h u o k so may)
new_there pool h (Make u k) t so may is unopened = absurd (true≢false (sym (opened_now h (Make u k) t is) ∙ unopened))
new_there pool h _ t so may is unopened = absurd cc

kept_more : (pool : Pool) (h : List Event) (e : Event) → AllowedFrom pool [] h → IsKeptSomewhere h → Allowed pool h e → IsKeptSomewhere (h ++ e ∷ [])
kept_more pool h e so kept may t known unopened unspent =
    let was : is_in t (opened h) ≡ false = never (is_in t (opened h)) (λ there. true≢false (sym (opened_still h e t there) ∙ unopened)) in
    let unspent_before : is_spent h t ≡ false = never (is_spent h t) (λ spent. true≢false (sym (spent_stays h e t spent) ∙ unspent)) in
    ⊎_elim
    (λ old. old_there pool h e t so may old was unopened unspent (kept t old was unspent_before))
    (λ new. new_there pool h e t so may new unopened)
    (is_in_with t (tasks h) (accepted_by e) (rw tasks_more at known))

kept_none : IsKeptSomewhere []
unfolding tasks
kept_none t known unopened unspent = absurd cc

pub unopened_kept : (pool : Pool) (h : List Event) → AllowedFrom pool [] h → IsKeptSomewhere h
unopened_kept pool = by_events pool IsKeptSomewhere kept_none (kept_more pool)

-- ---- completers

-- a completer that is gone is spent
pub gone_spent : (pool : Pool) (h : List Event) (c : ℕ) → AllowedFrom pool [] h → is_completer h c ≡ true → place h c ≡ Gone → is_spent h c ≡ true
gone_spent pool h c so is gone = go (is_in c (opened h)) (is_spent h c) refl refl
  where
    known : is_in c (tasks h) ≡ true
    known = completer_known h c is

    go : (o s : Bool) → is_in c (opened h) ≡ o → is_spent h c ≡ s → s ≡ true
    go o true os ss = refl
    go false false os ss = absurd (true≢false (sym (ap is_gone gone) ∙ unopened_kept pool h so c known os ss))
    go true false os ss = absurd (true≢false (sym (still_open os ss) ∙ (gone_nowhere h c (ap is_gone gone)).shut))
      where
        still_open : is_in c (opened h) ≡ true → is_spent h c ≡ false → (is_completer h c && is_in c (opened h) && not (is_spent h c)) ≡ true
        still_open os ss = rw (is, os, ss) refl

-- what an arrival does, from what is kept of the completer
pub arrival_at : (pool : Pool) (h : List Event) (c : ℕ) → AllowedFrom pool [] h → is_completer h c ≡ true
    → arrival h c ≡ (if is_spent h c then Spent else if nat_lt 0 (pending h c) then Counted else if is_open (place h c) then Fires else Early)
unfolding arrival place
arrival_at pool h c so is =
    go (is_spent h c) (nat_lt 0 (pending h c)) (queued_in h c) (held_by h c) (is_in c (opened h)) refl refl refl refl
  where
    known : is_in c (tasks h) ≡ true
    known = completer_known h c is

    go : (s p : Bool) (q : Option Owner) (v : Option ℕ) (o : Bool) → is_spent h c ≡ s → queued_in h c ≡ q → held_by h c ≡ v → is_in c (opened h) ≡ o
        → (if s then Spent else if p then Counted else if is_some q || is_some v then Early else Fires)
        ≡ (if s then Spent else if p then Counted else if is_open (place_of q v (is_completer h c && o && not s)) then Fires else Early)
    go true p q v o ss qs vs os = refl
    go false true q v o ss qs vs os = refl
    go false false (Some r) v o ss qs vs os = refl
    go false false None (Some w) o ss qs vs os = refl
    go false false None None true ss qs vs os = rw is refl
    go false false None None false ss qs vs os = absurd (true≢false (sym gone ∙ unopened_kept pool h so c known os ss))
      where
        gone : is_gone (place h c) ≡ true
        gone = rw (qs, vs, is, os) refl
