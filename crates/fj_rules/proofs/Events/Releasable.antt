-- Which tasks come to be such that they can be released, event by event.
use Rattle.std.proofs.Common.{ℕ, zero, suc, ◌≡◌, ◌≢◌, ◌⊎◌, inl, inr, ◌&&◌, not, Bool, true, false, cond, List, [], ◌∷◌, ◌++◌, map, Option, Some, None, refl, ap, sym, ◌∙◌, subst, append_assoc, ⊎_elim}
use Rattle.std.specs.Prelude.{◌==◌}
use Rattle.std.specs.List.{filter, filter_map, list_all}
use Rattle.std.proofs.lemmas.Bool.{and_parts, or_cases, or_right, eqb-true, true≢false, cases_eq}
use Rattle.std.proofs.lemmas.List.{append-nil, map-append}
use Rattle.fj_rules.specs.declared.event.Event.{Event}
use Rattle.fj_rules.specs.declared.event.Event.TheVariants as event
use Rattle.fj_rules.specs.Bounds.{Pool}
use Rattle.fj_rules.specs.Lists.{is_in}
use Rattle.fj_rules.specs.Tasks.{tasks, released_by, is_kept, parent}
use Rattle.fj_rules.specs.Queues.{taken_by}
use Rattle.fj_rules.specs.Stacks.{ended_by}
use Rattle.fj_rules.specs.Places.{place, is_gone}
use Rattle.fj_rules.specs.Hooks.{Hook, Hooks, hooks, hooks_after, with_hook, receiver}
use Rattle.fj_rules.specs.Climbs.{path, path_up}
use Rattle.fj_rules.specs.Allowed.{Allowed, AllowedFrom, is_stop, has_kept_child}
use Rattle.fj_rules.proofs.Lists.Members.{is_in_append}
use Rattle.fj_rules.proofs.Events.Growth.{hooks_more}
use Rattle.fj_rules.proofs.Events.Lawful.{allowed_more, not_new, number_if_is, front_here, front_rest, front_cases}
use Rattle.fj_rules.proofs.Events.KindsKept.{kept_known, parent_still}
use Rattle.fj_rules.proofs.Events.Releasing.{release_keeps, release_parent, release_place}
use Rattle.fj_rules.proofs.Events.Spending.{spends, spent_kept}
use Rattle.fj_rules.proofs.Events.Taking.{handed_place}
use Rattle.fj_rules.proofs.Places.PlaceLaws.{place_kept}
use Rattle.fj_rules.proofs.Completers.KeptParents.{child_found, child_there, kept_stays, parent_kept}
use Rattle.fj_rules.specs.Releasable.{hooked, is_hooked}
use Rattle.fj_rules.specs.Releasable.{can_go}

-- ---- the parts

pub record CanGo (h : List Event) (u : ℕ) : Type 0 where
  pub kept : is_kept h u ≡ true
  pub gone : is_gone (place h u) ≡ true
  pub alone : has_kept_child h u ≡ false
  pub free : is_hooked h u ≡ false

flip : (b : Bool) → not b ≡ true → b ≡ false
flip true is = absurd cc
flip false is = refl

pub can_parts : (h : List Event) (u : ℕ) → can_go h u ≡ true → CanGo h u
unfolding can_go
can_parts h u can =
    let f = and_parts (is_kept h u && is_gone (place h u) && not (has_kept_child h u)) (not (is_hooked h u)) can in
    let c = and_parts (is_kept h u && is_gone (place h u)) (not (has_kept_child h u)) f.0 in
    let k = and_parts (is_kept h u) (is_gone (place h u)) c.0 in
    record { kept = k.0; gone = k.1; alone = flip (has_kept_child h u) c.1; free = flip (is_hooked h u) f.1 }

pub can_whole : (h : List Event) (u : ℕ) → CanGo h u → can_go h u ≡ true
unfolding can_go
can_whole h u can = rw (can.kept, can.gone, can.alone, can.free) refl

-- ---- one event

-- the task that this event may let go: its body ends or it is skipped, it is fired, passed or gets a status, or its hook ends
abbrev pub about : Event → Option ℕ
about (event.Skip t w) = Some t
about (event.End t w) = Some t
about (event.Fire c how) = Some c
about (event.Pass c) = Some c
about (event.Hooked c) = Some c
about (event.Settle t s) = Some t
about _ = None

-- neither a stop nor a release
abbrev pub is_about_one : Event → Bool
is_about_one event.Stop = false
is_about_one (event.Rel t) = false
is_about_one _ = true

one_parts : (e : Event) → is_about_one e ≡ true → (is_stop e ≡ false) × (released_by e ≡ None)
one_parts event.Stop one = absurd cc
one_parts (event.Rel t) one = absurd cc
one_parts _ one = (refl, refl)

none_some : (u : ℕ) → ◌≡◌ {A = Option ℕ} None (Some u) → ⊥
none_some u same = cc

single : (t u : ℕ) → ◌≡◌ {A = Option ℕ} (Some t) (Some u) → t ≡ u
single t u same = cc

said_or_not : (o : Option ℕ) (u : ℕ) → (o ≡ Some u) ⊎ (o ≡ Some u → ⊥)
said_or_not None u = inr (none_some u)
said_or_not (Some t) u = ⊎_elim (λ same. inl (ap Some same)) (λ other. inr (λ is. other (single t u is))) (cases_eq t u)

takes_about : (e : Event) (u : ℕ) → taken_by e ≡ Some u → (about e ≡ Some u) ⊎ ((w : ℕ) × (e ≡ event.Out u w))
takes_about (event.Out t w) u is = inr (w, ap (λ v. event.Out v w) (single t u is))
takes_about (event.Skip t w) u is = inl is
takes_about _ u is = absurd cc

ends_about : (e : Event) (w u : ℕ) → ended_by w e ≡ Some u → about e ≡ Some u
ends_about (event.End t v) w u is = ap Some (number_if_is (w == v) t u is).1
ends_about _ w u is = absurd cc

spends_about : (e : Event) (u : ℕ) → spends e ≡ Some u → about e ≡ Some u
spends_about (event.Fire c how) u is = is
spends_about (event.Pass c) u is = is
spends_about (event.Settle t s) u is = is
spends_about _ u is = absurd cc

-- a task that is gone now was gone before, or the event is about it
gone_before : (pool : Pool) (h : List Event) (e : Event) (u : ℕ) → AllowedFrom pool [] h → Allowed pool h e → is_about_one e ≡ true → is_in u (tasks h) ≡ true
    → is_gone (place (h ++ e ∷ []) u) ≡ true → (is_gone (place h u) ≡ true) ⊎ (about e ≡ Some u)
gone_before pool h e u so may one known gone = ⊎_elim taken untaken (said_or_not (taken_by e) u)
  where
    held : (w : ℕ) → e ≡ event.Out u w → ⊥
    held w same =
        true≢false (sym gone ∙ ap (λ (f : Event). is_gone (place (h ++ f ∷ []) u)) same ∙ ap is_gone (handed_place pool h u w so (subst (Allowed pool h) same may)))

    taken : taken_by e ≡ Some u → (is_gone (place h u) ≡ true) ⊎ (about e ≡ Some u)
    taken is = ⊎_elim (λ at. inr at) (λ out. absurd (held out.0 out.1)) (takes_about e u is)

    stays : (taken_by e ≡ Some u → ⊥) → (about e ≡ Some u → ⊥) → is_gone (place h u) ≡ true
    stays other apart =
        ap is_gone (sym (place_kept pool h e u so may known other (λ w is. apart (ends_about e w u is)) (spent_kept h e u (one_parts e one).0 (λ is. apart (spends_about e u is)))))
        ∙ gone

    untaken : (taken_by e ≡ Some u → ⊥) → (is_gone (place h u) ≡ true) ⊎ (about e ≡ Some u)
    untaken other = ⊎_elim (λ at. inr at) (λ apart. inl (stays other apart)) (said_or_not (about e) u)

-- a kept child stays one
child_stays : (pool : Pool) (h : List Event) (e : Event) (u : ℕ) → AllowedFrom pool [] h → Allowed pool h e → released_by e ≡ None → has_kept_child h u ≡ true → has_kept_child (h ++ e ∷ []) u ≡ true
child_stays pool h e u so may none has =
    let child = child_there h u has in
    child_found (h ++ e ∷ []) child.0 u (kept_stays pool h e child.0 so may (λ is. none_some child.0 (sym none ∙ is)) child.1)
    (parent_still h e child.0 (not_new pool h e child.0 so may (kept_known h child.0 child.1)) ∙ child.2)

-- ---- hooks

abbrev completers : List Hook → List ℕ
completers hs = map (λ hook. hook.completer) hs

with_keeps : (c d : ℕ) (w : Option ℕ) (hs : List Hook) → is_in c (completers hs) ≡ true → is_in c (completers (with_hook d w hs)) ≡ true
with_keeps c d None hs there = there
with_keeps c d (Some w) hs there =
    ap (is_in c) (map-append (λ (hook : Hook). hook.completer) hs (record { completer = d; worker = w } ∷ [])) ∙ is_in_append c (completers hs) (d ∷ []) ∙ rw there refl

filter_keeps : (c d : ℕ) → d ≢ c → (hs : List Hook) → is_in c (completers hs) ≡ true → is_in c (completers (filter (λ hook. not (hook.completer == d)) hs)) ≡ true
filter_keeps c d other [] there = absurd cc
filter_keeps c d other (x ∷ hs) there = go (x.completer == d) refl (or_cases (x.completer == c) (is_in c (completers hs)) there) (filter_keeps c d other hs)
  where
    go : (b : Bool) → (x.completer == d) ≡ b → ((x.completer == c) ≡ true) ⊎ (is_in c (completers hs) ≡ true)
        → (is_in c (completers hs) ≡ true → is_in c (completers (filter (λ hook. not (hook.completer == d)) hs)) ≡ true)
        → is_in c (completers (cond (not b) (x ∷ filter (λ hook. not (hook.completer == d)) hs) (filter (λ hook. not (hook.completer == d)) hs))) ≡ true
    go true at (inl here) rest = absurd (other (sym (eqb-true x.completer d at) ∙ eqb-true x.completer c here))
    go true at (inr later) rest = rest later
    go false at (inl here) rest = rw here refl
    go false at (inr later) rest = or_right (x.completer == c) (is_in c (completers (filter (λ (hook : Hook). not (hook.completer == d)) hs))) (rest later)

-- a hook stays in its hand, unless it ends
hook_stays : (s : Hooks) (e : Event) (c : ℕ) → is_in c (completers s.in_hands) ≡ true → (is_in c (completers (hooks_after s e).in_hands) ≡ true) ⊎ (about e ≡ Some c)
hook_stays s (event.Fire d how) c there = inl (with_keeps c d (receiver d s.just_ended s.last_worker) s.in_hands there)
hook_stays s (event.Hooked d) c there = ⊎_elim (λ same. inr (ap Some same)) (λ other. inl (filter_keeps c d other s.in_hands there)) (cases_eq d c)
hook_stays s _ c there = inl there

-- a task whose hook is in no hand now had it in none before, or the event is about it
free_before : (h : List Event) (e : Event) (c : ℕ) → is_hooked (h ++ e ∷ []) c ≡ false → (is_hooked h c ≡ false) ⊎ (about e ≡ Some c)
unfolding is_hooked
free_before h e c free = go (is_in c (hooked h)) refl
  where
    free_now : is_in c (completers (hooks_after (hooks h) e).in_hands) ≡ false
    free_now = ap (λ s. is_in c (completers s.in_hands)) (sym (hooks_more h e)) ∙ free

    go : (b : Bool) → is_in c (hooked h) ≡ b → (b ≡ false) ⊎ (about e ≡ Some c)
    go false at = inl refl
    go true at = ⊎_elim (λ still. absurd (true≢false (sym still ∙ free_now))) (λ is. inr is) (hook_stays (hooks h) e c at)

-- ---- what can go newly

-- a kept task that can go after the event could go before it, or the event is about it
go_before : (pool : Pool) (h : List Event) (e : Event) (u : ℕ) → AllowedFrom pool [] h → Allowed pool h e → is_about_one e ≡ true → is_kept h u ≡ true
    → can_go (h ++ e ∷ []) u ≡ true → (can_go h u ≡ true) ⊎ (about e ≡ Some u)
go_before pool h e u so may one kept can =
    ⊎_elim (λ gone. ⊎_elim (λ free. inl (can_whole h u (record { kept = kept; gone = gone; alone = alone (has_kept_child h u) refl; free = free }))) (λ is. inr is) (free_before h e u now.free))
    (λ is. inr is) (gone_before pool h e u so may one (kept_known h u kept) now.gone)
  where
    now : CanGo (h ++ e ∷ []) u
    now = can_parts (h ++ e ∷ []) u can

    alone : (b : Bool) → has_kept_child h u ≡ b → b ≡ false
    alone false at = refl
    alone true at = absurd (true≢false (sym (child_stays pool h e u so may (one_parts e one).1 at) ∙ now.alone))

-- the tasks that these events are about
abbrev pub abouts : List Event → List ℕ
abouts es = filter_map about es

-- so after several
pub go_before_all : (pool : Pool) (h es : List Event) (u : ℕ) → AllowedFrom pool [] h → AllowedFrom pool h es → list_all is_about_one es ≡ true → is_kept h u ≡ true
    → can_go (h ++ es) u ≡ true → (can_go h u ≡ true) ⊎ (is_in u (abouts es) ≡ true)
go_before_all pool h [] u so all one kept can = inl (ap (λ (k : List Event). can_go k u) (sym (append-nil h)) ∙ can)
go_before_all pool h (e ∷ es) u so all one kept can =
    ⊎_elim
    (λ before. ⊎_elim (λ first. inl first) (λ is. inr (front_here u (about e) (abouts es) is)) (go_before pool h e u so all.0 parts.0 kept before))
    (λ there. inr (front_rest u (about e) (abouts es) there))
    (go_before_all pool (h ++ e ∷ []) es u (allowed_more pool [] h e so all.0) all.1 parts.1
    (kept_stays pool h e u so all.0 (λ is. none_some u (sym (one_parts e parts.0).1 ∙ is)) kept)
    (ap (λ (k : List Event). can_go k u) (append_assoc h (e ∷ []) es) ∙ can))
  where
    parts : (is_about_one e ≡ true) × (list_all is_about_one es ≡ true)
    parts = and_parts (is_about_one e) (list_all is_about_one es) one

pub children_stay : (pool : Pool) (h es : List Event) (u : ℕ) → AllowedFrom pool [] h → AllowedFrom pool h es → list_all is_about_one es ≡ true → has_kept_child h u ≡ true
    → has_kept_child (h ++ es) u ≡ true
children_stay pool h [] u so all one has = ap (λ (k : List Event). has_kept_child k u) (append-nil h) ∙ has
children_stay pool h (e ∷ es) u so all one has =
    let parts = and_parts (is_about_one e) (list_all is_about_one es) one in
    ap (λ (k : List Event). has_kept_child k u) (sym (append_assoc h (e ∷ []) es))
    ∙ children_stay pool (h ++ e ∷ []) es u (allowed_more pool [] h e so all.0) all.1 parts.1 (child_stays pool h e u so all.0 (one_parts e parts.0).1 has)

-- ---- the way up

none_above : (n : ℕ) (h : List Event) (u : ℕ) → is_in u (path_up n h None) ≡ true → ⊥
unfolding path_up
none_above zero h u there = absurd cc
none_above (suc n) h u there = absurd cc

above_has_child : (pool : Pool) (n : ℕ) (h : List Event) (c u : ℕ) → AllowedFrom pool [] h → is_kept h c ≡ true → is_in u (path_up n h (Some c)) ≡ true → (u ≡ c) ⊎ (has_kept_child h u ≡ true)
unfolding path_up
above_has_child pool zero h c u so kept there = absurd cc
above_has_child pool (suc n) h c u so kept there =
    ⊎_elim (λ here. inl (sym (eqb-true c u here))) (λ later. go (parent h c) refl later (λ p under. above_has_child pool n h p u so under))
    (or_cases (c == u) (is_in u (path_up n h (parent h c))) there)
  where
    go : (from : Option ℕ) → parent h c ≡ from → is_in u (path_up n h from) ≡ true
        → ((p : ℕ) → is_kept h p ≡ true → is_in u (path_up n h (Some p)) ≡ true → (u ≡ p) ⊎ (has_kept_child h u ≡ true)) → (u ≡ c) ⊎ (has_kept_child h u ≡ true)
    go None is later rest = absurd (none_above n h u later)
    go (Some p) is later rest =
        ⊎_elim (λ same. inr (ap (has_kept_child h) same ∙ child_found h c p kept is)) (λ has. inr has) (rest p (parent_kept pool h c p so kept is) later)

-- each task above a kept one has a kept child
pub way_has_child : (pool : Pool) (h : List Event) (t u : ℕ) → AllowedFrom pool [] h → is_kept h t ≡ true → is_in u (path h t) ≡ true → (u ≡ t) ⊎ (has_kept_child h u ≡ true)
unfolding path
way_has_child pool h t u so = above_has_child pool (suc t) h t u so

-- whether the event is about one of these, or about none
abbrev pub is_within : List ℕ → Option ℕ → Bool
is_within way None = true
is_within way (Some u) = is_in u way

abbrev pub is_on_way : List ℕ → Event → Bool
is_on_way way e = is_about_one e && is_within way (about e)

pub on_way : (way : List ℕ) (es : List Event) → list_all (is_on_way way) es ≡ true → (list_all is_about_one es ≡ true) × ((u : ℕ) → is_in u (abouts es) ≡ true → is_in u way ≡ true)
on_way way [] all = (refl, λ u there. absurd cc)
on_way way (e ∷ es) all =
    let parts = and_parts (is_on_way way e) (list_all (is_on_way way) es) all in
    let one = and_parts (is_about_one e) (is_within way (about e)) parts.0 in
    let rest = on_way way es parts.1 in
    (rw (one.0, rest.0) refl, λ u there. ⊎_elim (λ is. rw is at one.1) (λ later. rest.1 u later) (front_cases u (about e) (abouts es) there))

-- events about t, and about tasks that have a kept child, as those above t
pub record OnlyAbout (h : List Event) (t : ℕ) (es : List Event) : Type 0 where
  pub way : List ℕ
  pub above : (u : ℕ) → is_in u way ≡ true → (u ≡ t) ⊎ (has_kept_child h u ≡ true)
  pub all : list_all (is_on_way way) es ≡ true

-- after them no other kept task can go that could not go before
pub only_it_goes : (pool : Pool) (h es : List Event) (t u : ℕ) → AllowedFrom pool [] h → AllowedFrom pool h es → OnlyAbout h t es → is_kept h u ≡ true → can_go (h ++ es) u ≡ true
    → (can_go h u ≡ true) ⊎ (u ≡ t)
only_it_goes pool h es t u so all only known can =
    ⊎_elim (λ before. inl before)
    (λ there. ⊎_elim (λ same. inr same)
    (λ has. absurd (true≢false (sym (children_stay pool h es u so all (on_way only.way es only.all).0 has) ∙ (can_parts (h ++ es) u can).alone)))
    (only.above u ((on_way only.way es only.all).1 u there)))
    (go_before_all pool h es u so all (on_way only.way es only.all).0 known can)

-- after events about no task none can go that could not go before
pub none_goes : (pool : Pool) (h es : List Event) (u : ℕ) → AllowedFrom pool [] h → AllowedFrom pool h es → list_all (is_on_way []) es ≡ true → is_kept h u ≡ true → can_go (h ++ es) u ≡ true
    → can_go h u ≡ true
none_goes pool h es u so all none known can =
    let quiet = on_way [] es none in ⊎_elim (λ before. before) (λ there. absurd (true≢false (sym (quiet.1 u there)))) (go_before_all pool h es u so all quiet.0 known can)

-- ---- a release

rel_hooked : (h : List Event) (t u : ℕ) → is_hooked (h ++ event.Rel t ∷ []) u ≡ is_hooked h u
unfolding is_hooked
rel_hooked h t u = ap (λ s. is_in u (completers s.in_hands)) (hooks_more h (event.Rel t))

-- after the release of t no other task can go that could not go before, but the parent of t
pub only_parent_goes : (pool : Pool) (h : List Event) (t u : ℕ) → AllowedFrom pool [] h → Allowed pool h (event.Rel t) → u ≢ t → can_go (h ++ event.Rel t ∷ []) u ≡ true
    → (can_go h u ≡ true) ⊎ (parent h t ≡ Some u)
only_parent_goes pool h t u so may other can = go (has_kept_child h u) refl
  where
    now : CanGo (h ++ event.Rel t ∷ []) u
    now = can_parts (h ++ event.Rel t ∷ []) u can

    kept : is_kept h u ≡ true
    kept = sym (release_keeps h t u other) ∙ now.kept

    go : (b : Bool) → has_kept_child h u ≡ b → (can_go h u ≡ true) ⊎ (parent h t ≡ Some u)
    go false alone = inl (can_whole h u (record {
      kept = kept;
      gone = ap is_gone (sym (release_place pool h t u so may (kept_known h u kept))) ∙ now.gone;
      alone = alone;
      free = sym (rel_hooked h t u) ∙ now.free;
    }))
    go true has = ⊎_elim (λ same. inr (ap (parent h) (sym same) ∙ child.2)) (λ apart. absurd (true≢false (sym (still apart) ∙ now.alone))) (cases_eq child.0 t)
      where
        child : (v : ℕ) × (is_kept h v ≡ true) × (parent h v ≡ Some u)
        child = child_there h u has

        still : child.0 ≢ t → has_kept_child (h ++ event.Rel t ∷ []) u ≡ true
        still apart = child_found (h ++ event.Rel t ∷ []) child.0 u (release_keeps h t child.0 apart ∙ child.1) (release_parent h t child.0 ∙ child.2)
