-- The hooks in hand after one event more.
use Rattle.std.proofs.Common.{ℕ, ◌≡◌, ◌≢◌, ◌+◌, ◌<◌, ◌≤◌, Bool, true, false, cond, List, [], ◌∷◌, ◌++◌, length, map, take, drop, get_or, Option, Some, None, refl, ap, sym, ◌∙◌, subst, arith, ⊎_elim, not}
use Rattle.std.specs.Prelude.{◌==◌, ◌||◌, option_map}
use Rattle.std.specs.List.{list_any}
use Rattle.std.proofs.Math.ListN.{set, length-set, get_or-map}
use Rattle.std.proofs.Math.Seq.{take-append_seam}
use Rattle.std.proofs.lemmas.Bool.{cases_eq, cases_lt, eq-eqb, ne_eqb, or_right, or_cases, true≢false}
use Rattle.std.proofs.lemmas.Option.{same_Some, none-some}
use Rattle.std.proofs.lemmas.List.{length-map, map-append, get_or-set_same, get_or-set_other, get_or_past}
use Rattle.std.proofs.lemmas.List.Folds.{list_any-append}
use Rattle.fj_rules.specs.declared.event.Event.{Event}
use Rattle.fj_rules.specs.declared.event.Event.TheVariants.{Fire, Hooked}
use Rattle.fj_rules.specs.declared.event.How.{How}
use Rattle.fj_rules.specs.declared.event.How.TheVariants.{Zero, Complete}
use Rattle.fj_rules.specs.declared.status.Status.{Status}
use Rattle.fj_rules.specs.Bounds.{Bounds, Pool}
use Rattle.fj_rules.specs.Lists.{is_in, times_in}
use Rattle.fj_rules.specs.Tasks.{tasks, is_kept, parent}
use Rattle.fj_rules.specs.Hooks.{Hook, hooks, hand, receiver, completer_in}
use Rattle.fj_rules.specs.Completers.{fires_or_passes}
use Rattle.fj_rules.specs.Allowed.{Allowed, AllowedFrom, is_fired_by_complete, fires_by_complete}
use Rattle.fj_rules.proofs.Events.Growth.{hooks_more, or_false}
use Rattle.fj_rules.proofs.Events.Hands.{is_of_hook, in_hands_same, hand_same}
use Rattle.fj_rules.proofs.Events.Lawful.{known_more, not_new}
use Rattle.fj_rules.proofs.Lists.Members.{times_in_cons, times_in_append, times_in_none, is_in_append}
use Rattle.fj_rules.proofs.Places.OnePlace.{never}
use Rattle.fj_rules.proofs.Completers.KeptParents.{kept_before}
use Rattle.fj_rules.proofs.Events.Spending.{settled_by, status_kept}
use Rattle.fj_ledger.specs.InHands.{InHand}
use Rattle.fj_ledger.specs.Holds.{KeepsHands, TellsHook, TellsReleased, hook_completers, is_complete}
use Rattle.fj_rules.proofs.Completers.HookLists.{completers, workers_of, but, hand_after, hand_before, hand_listed, no_worker, hand_emptied, hand_stays, fewer_times, fewer_listed}
use Rattle.fj_ledger.proofs.Recorded.Telling.{is_of_one, no_stop, kept_more}
use Rattle.fj_rules.proofs.Events.KindsKept.{parent_still, kept_known}

any_more : (test : Event → Bool) (h : List Event) (e : Event) → list_any test h ≡ true → list_any test (h ++ e ∷ []) ≡ true
any_more test h e is = list_any-append test h (e ∷ []) ∙ rw is refl

pub any_same : (test : Event → Bool) (h : List Event) (e : Event) → test e ≡ false → list_any test (h ++ e ∷ []) ≡ list_any test h
any_same test h e fails = list_any-append test h (e ∷ []) ∙ rw fails (or_false (list_any test h))

any_last : (test : Event → Bool) (h : List Event) (e : Event) → list_any test h ≡ false → list_any test (h ++ e ∷ []) ≡ test e
any_last test h e none = list_any-append test h (e ∷ []) ∙ rw none (or_false (test e))

no_fire : (e : Event) (c : ℕ) → is_of_hook e ≡ false → fires_by_complete c e ≡ false
no_fire (Fire d how) c other = absurd cc
no_fire _ c other = refl

-- a task that was released is not kept later either
pub left_out : (pool : Pool) (h : List Event) (e : Event) (c : ℕ) → AllowedFrom pool [] h → Allowed pool h e → is_in c (tasks h) ≡ true → is_kept h c ≡ false → is_kept (h ++ e ∷ []) c ≡ false
left_out pool h e c so may known none =
    never (is_kept (h ++ e ∷ []) c) (λ kept. ⊎_elim (λ before. true≢false (sym before ∙ none)) (λ new. not_new pool h e c so may known new) (kept_before h e c kept))

left_more : (pool : Pool) (h : List Event) (e : Event) (c : ℕ) (left : Option Status) → AllowedFrom pool [] h → Allowed pool h e → is_of_one e ≡ true
    → (settled_by e ≡ Some c → is_kept h c ≡ true) → is_in c (tasks h) ≡ true → TellsReleased h c left → TellsReleased (h ++ e ∷ []) c left
left_more pool h e c None so may one settles known tells = kept_more h e c one tells
left_more pool h e c (Some s) so may one settles known tells =
    (left_out pool h e c so may known tells.0, status_kept h e c (no_stop e one) (λ said. true≢false (sym (settles said) ∙ tells.0)) ∙ tells.1)

pub tells_hook : (pool : Pool) (h : List Event) (e : Event) (hook : InHand) → AllowedFrom pool [] h → Allowed pool h e → is_of_one e ≡ true → fires_by_complete hook.completer e ≡ false
    → (settled_by e ≡ Some hook.completer → is_kept h hook.completer ≡ true) → TellsHook h hook → TellsHook (h ++ e ∷ []) hook
unfolding is_fired_by_complete
tells_hook pool h e hook so may one other settles tells = record {
  known = known_more h e hook.completer tells.known;
  parent = parent_still h e hook.completer (not_new pool h e hook.completer so may tells.known) ∙ tells.parent;
  how = any_same (fires_by_complete hook.completer) h e other ∙ tells.how;
  released = left_more pool h e hook.completer hook.released so may one settles tells.known tells.released;
}

-- whose hook is in a hand is listed
pub in_hand_listed : (l : Bounds) (h : List Event) (hands : List (Option InHand)) (w : ℕ) (hook : InHand) → KeepsHands l h hands → get_or hands w None ≡ Some hook
    → is_in hook.completer (hook_completers h) ≡ true
unfolding hand
in_hand_listed l h hands w hook keeps is =
    let inside : w < l.workers = ⊎_elim (λ less. less) (λ over. absurd (none-some _ (sym (get_or_past hands w None (omega (arith, over, keeps.count))) ∙ is))) (cases_lt w l.workers) in
    hand_listed w hook.completer (hooks h).in_hands (sym (keeps.each w inside) ∙ ap (option_map (λ (k : InHand). k.completer)) is)

-- the event is no hook's, and if it settles the completer of a hook, that one is kept
pub hands_same : (pool : Pool) (h : List Event) (e : Event) (hands : List (Option InHand)) → AllowedFrom pool [] h → Allowed pool h e → is_of_one e ≡ true → is_of_hook e ≡ false
    → ((c : ℕ) → settled_by e ≡ Some c → is_in c (hook_completers h) ≡ true → is_kept h c ≡ true)
    → KeepsHands pool.limits h hands → KeepsHands pool.limits (h ++ e ∷ []) hands
hands_same pool h e hands so may one other settles keeps =
    let same = in_hands_same h e other in
    record {
      count = keeps.count;
      each = λ w inside. keeps.each w inside ∙ sym (hand_same h e w other);
      tells = λ w hook is.
          tells_hook pool h e hook so may one (no_fire e hook.completer other) (λ said. settles hook.completer said (in_hand_listed pool.limits h hands w hook keeps is)) (keeps.tells w hook is);
      one_each = λ w. subst (λ (hs : List Hook). times_in w (workers_of hs) ≤ 1) (sym same) (keeps.one_each w);
      once = λ c. subst (λ (hs : List Hook). times_in c (completers hs) ≤ 1) (sym same) (keeps.once c);
      fired = λ c there. any_more (fires_or_passes c) h e (keeps.fired c (subst (λ (hs : List Hook). is_in c (completers hs) ≡ true) same there));
    }

-- hands that were written back through a slice
pub written_back : (n : ℕ) (new old : List (Option InHand)) → length new ≡ n → take n (new ++ drop (length new) old) ≡ new
written_back n new old is = rw (← is) (take-append_seam new (drop (length new) old))

-- what is kept with the hooks changes, and no hook is handed out or ends
pub hands_mapped : (l : Bounds) (h : List Event) (e : Event) (change : InHand → InHand) (hands : List (Option InHand)) → is_of_hook e ≡ false → ((k : InHand) → (change k).completer ≡ k.completer)
    → ((k : InHand) → TellsHook h k → TellsHook (h ++ e ∷ []) (change k)) → KeepsHands l h hands → KeepsHands l (h ++ e ∷ []) (map (option_map change) hands)
hands_mapped l h e change hands other whose tells keeps = record {
  count = length-map hands (option_map change) ∙ keeps.count;
  each = λ w inside. ap (option_map completer) (at w) ∙ whose_hook (get_or hands w None) ∙ keeps.each w inside ∙ sym (hand_same h e w other);
  tells = λ w k is. go w k (get_or hands w None) refl (sym (at w) ∙ is);
  one_each = λ w. subst (λ (hs : List Hook). times_in w (workers_of hs) ≤ 1) (sym same) (keeps.one_each w);
  once = λ c. subst (λ (hs : List Hook). times_in c (completers hs) ≤ 1) (sym same) (keeps.once c);
  fired = λ c there. any_more (fires_or_passes c) h e (keeps.fired c (subst (λ (hs : List Hook). is_in c (completers hs) ≡ true) same there));
}
  where
    completer : InHand → ℕ
    completer k = k.completer

    same : (hooks (h ++ e ∷ [])).in_hands ≡ (hooks h).in_hands
    same = in_hands_same h e other

    at : (w : ℕ) → get_or (map (option_map change) hands) w None ≡ option_map change (get_or hands w None)
    at w = get_or-map (option_map change) hands w None

    whose_hook : (o : Option InHand) → option_map completer (option_map change o) ≡ option_map completer o
    whose_hook None = refl
    whose_hook (Some k) = ap Some (whose k)

    go : (w : ℕ) (k : InHand) (o : Option InHand) → get_or hands w None ≡ o → option_map change o ≡ Some k → TellsHook (h ++ e ∷ []) k
    go w k None was is = absurd (none-some k is)
    go w k (Some j) was is = subst (TellsHook (h ++ e ∷ [])) (same_Some (change j) k is) (tells j (keeps.tells w j was))

-- who is in a hand is listed, so it was fired
fired_in_hand : (l : Bounds) (h : List Event) (hands : List (Option InHand)) (w : ℕ) (hook : InHand) → KeepsHands l h hands → get_or hands w None ≡ Some hook
    → list_any (fires_or_passes hook.completer) h ≡ true
fired_in_hand l h hands w hook keeps is = keeps.fired hook.completer (in_hand_listed l h hands w hook keeps is)

zero_fires : (c d : ℕ) (how : How) → d ≢ c → fires_by_complete d (Fire c how) ≡ false
zero_fires c d Zero other = refl
zero_fires c d Complete other = ne_eqb c d (λ is. other (sym is))

own_fires : (c : ℕ) (how : How) → fires_by_complete c (Fire c how) ≡ is_complete how
own_fires c Zero = refl
own_fires c Complete = eq-eqb c c refl

complete_fires : (c : ℕ) (e : Event) → fires_or_passes c e ≡ false → fires_by_complete c e ≡ false
complete_fires c (Fire d Zero) none = refl
complete_fires c (Fire d Complete) none = none
complete_fires c _ none = refl

never_complete : (c : ℕ) (h : List Event) → list_any (fires_or_passes c) h ≡ false → list_any (fires_by_complete c) h ≡ false
never_complete c [] none = refl
never_complete c (e ∷ h) none = go (fires_or_passes c e) refl none (never_complete c h)
  where
    go : (b : Bool) → fires_or_passes c e ≡ b → (fires_or_passes c e || list_any (fires_or_passes c) h) ≡ false → (list_any (fires_or_passes c) h ≡ false → list_any (fires_by_complete c) h ≡ false)
        → (fires_by_complete c e || list_any (fires_by_complete c) h) ≡ false
    go true is none rest = let bad = rw is at none in absurd cc
    go false is none rest = rw (complete_fires c e is) (rest (rw is at none))

-- a hook is handed to a worker without one
pub hands_fired : (pool : Pool) (h : List Event) (c w : ℕ) (how : How) (hands : List (Option InHand)) (hook : InHand) → AllowedFrom pool [] h → Allowed pool h (Fire c how) → w < pool.limits.workers
    → hand h w ≡ None → receiver c (hooks h).just_ended (hooks h).last_worker ≡ Some w → list_any (fires_or_passes c) h ≡ false → is_kept h c ≡ true
    → hook.completer ≡ c → parent h c ≡ hook.parent → hook.how ≡ how → hook.released ≡ None
    → KeepsHands pool.limits h hands → KeepsHands pool.limits (h ++ Fire c how ∷ []) (set hands w (Some hook))
unfolding hand is_fired_by_complete
hands_fired pool h c w how hands hook so may within free given unfired kept is_c is_parent is_how is_left keeps = record {
  count = length-set hands w (Some hook) ∙ keeps.count;
  each = λ v inside. ⊎_elim
      (λ here. ap (λ k. option_map completer (get_or (set hands w (Some hook)) k None)) here ∙ ap (option_map completer) (get_or-set_same hands w (Some hook) None (omega (arith, within, keeps.count)))
      ∙ ap Some is_c ∙ sym (ap (λ k. completer_in k (hooks h2).in_hands) here ∙ ap (completer_in w) more ∙ hand_after w old new free refl))
      (λ other. ap (option_map completer) (get_or-set_other hands w v (Some hook) None other) ∙ keeps.each v inside
      ∙ sym (ap (completer_in v) more ∙ hand_before v old new (λ same. other (sym same))))
      (cases_eq v w);
  tells = λ v k is. ⊎_elim
      (λ here. subst (TellsHook h2) (same_Some hook k (sym (get_or-set_same hands w (Some hook) None (omega (arith, within, keeps.count))) ∙ ap (λ j. get_or (set hands w (Some hook)) j None) (sym here) ∙ is)) own)
      (λ other.
      let was = sym (get_or-set_other hands w v (Some hook) None other) ∙ is in
      tells_hook pool h e k so may refl (zero_fires c k.completer how (λ same. true≢false (sym (fired_in_hand pool.limits h hands v k keeps was) ∙ ap (λ d. list_any (fires_or_passes d) h) same ∙ unfired))) (λ said. absurd cc) (keeps.tells v k was))
      (cases_eq v w);
  one_each = λ v. subst (λ (hs : List Hook). times_in v (workers_of hs) ≤ 1) (sym more) (once_more (λ (k : Hook). k.worker) v (keeps.one_each v) (λ same. ap (λ u. times_in u (workers_of old)) same ∙ times_in_none w (workers_of old) (no_worker w old free)));
  once = λ d. subst (λ (hs : List Hook). times_in d (completers hs) ≤ 1) (sym more) (once_more (λ (k : Hook). k.completer) d (keeps.once d) (λ same. ap (λ u. times_in u (completers old)) same ∙ times_in_none c (completers old) unlisted));
  fired = λ d there. ⊎_elim
      (λ before. any_more (fires_or_passes d) h e (keeps.fired d before))
      (λ now. list_any-append (fires_or_passes d) h (e ∷ []) ∙ or_right (list_any (fires_or_passes d) h) (list_any (fires_or_passes d) (e ∷ [])) (rw now refl))
      (or_cases (is_in d (completers old)) (c == d) (listed d there));
}
  where
    e : Event
    e = Fire c how

    h2 : List Event
    h2 = h ++ e ∷ []

    old : List Hook
    old = (hooks h).in_hands

    new : Hook
    new = record { completer = c; worker = w }

    completer : InHand → ℕ
    completer k = k.completer

    more : (hooks h2).in_hands ≡ old ++ new ∷ []
    more = ap (λ s. s.in_hands) (hooks_more h e) ∙ rw given refl

    unlisted : is_in c (completers old) ≡ false
    unlisted = never (is_in c (completers old)) (λ there. true≢false (sym (keeps.fired c there) ∙ unfired))

    known : is_in c (tasks h) ≡ true
    known = kept_known h c kept

    own : TellsHook h2 hook
    own = record {
      known = known_more h e hook.completer (ap (λ d. is_in d (tasks h)) is_c ∙ known);
      parent = parent_still h e hook.completer (not_new pool h e hook.completer so may (ap (λ d. is_in d (tasks h)) is_c ∙ known)) ∙ ap (parent h) is_c ∙ is_parent;
      how = ap (λ d. list_any (fires_by_complete d) h2) is_c ∙ any_last (fires_by_complete c) h e (never_complete c h unfired) ∙ own_fires c how ∙ ap is_complete (sym is_how);
      released = subst (TellsReleased h2 hook.completer) (sym is_left) (ap (is_kept h2) is_c ∙ kept_more h e c refl kept);
    }

    once_more : (of : Hook → ℕ) (v : ℕ) → times_in v (map of old) ≤ 1 → (v ≡ of new → times_in v (map of old) ≡ 0) → times_in v (map of (old ++ new ∷ [])) ≤ 1
    once_more of v few absent = rw (map-append of old (new ∷ [])) (⊎_elim
        (λ same. omega (arith, times_in_append v (map of old) (of new ∷ []), absent same, at_most v (of new)))
        (λ other. omega (arith, times_in_append v (map of old) (of new ∷ []), few, not_there v (of new) other))
        (cases_eq v (of new)))
      where
        at_most : (v u : ℕ) → times_in v (u ∷ []) ≤ 1
        at_most v u = go (u == v) (times_in_cons v u [])
          where
            go : (b : Bool) → times_in v (u ∷ []) ≡ cond b 1 0 + 0 → times_in v (u ∷ []) ≤ 1
            go true is = omega (arith, is)
            go false is = omega (arith, is)

        not_there : (v u : ℕ) → v ≢ u → times_in v (u ∷ []) ≡ 0
        not_there v u other = times_in_cons v u [] ∙ rw (ne_eqb u v (λ same. other (sym same))) refl

    listed : (d : ℕ) → is_in d (completers (hooks h2).in_hands) ≡ true → (is_in d (completers old) || (c == d)) ≡ true
    listed d there =
        let at : is_in d (completers (old ++ new ∷ [])) ≡ true = subst (λ (hs : List Hook). is_in d (completers hs) ≡ true) more there in
        sym (rw (map-append (λ (k : Hook). k.completer) old (new ∷ []), is_in_append d (completers old) (c ∷ []), or_false (c == d)) refl) ∙ at

-- the hook in a worker's hand ends
pub hands_ended : (pool : Pool) (h : List Event) (c w : ℕ) (hands : List (Option InHand)) → AllowedFrom pool [] h → Allowed pool h (Hooked c) → w < pool.limits.workers
    → hand h w ≡ Some c → KeepsHands pool.limits h hands → KeepsHands pool.limits (h ++ Hooked c ∷ []) (set hands w None)
unfolding hand
hands_ended pool h c w hands so may within is keeps = record {
  count = length-set hands w None ∙ keeps.count;
  each = λ v inside. ⊎_elim
      (λ here. ap (λ k. option_map completer (get_or (set hands w None) k None)) here ∙ ap (option_map completer) (get_or-set_same hands w None None (omega (arith, within, keeps.count)))
      ∙ sym (ap (λ k. completer_in k (hooks h2).in_hands) here ∙ ap (completer_in w) less ∙ hand_emptied w c old is (keeps.one_each w)))
      (λ other. ap (option_map completer) (get_or-set_other hands w v None None other) ∙ keeps.each v inside
      ∙ sym (ap (completer_in v) less ∙ hand_stays v w c old other is (keeps.once c)))
      (cases_eq v w);
  tells = λ v k at. ⊎_elim
      (λ here. absurd (none-some _ (sym (get_or-set_same hands w None None (omega (arith, within, keeps.count))) ∙ ap (λ j. get_or (set hands w None) j None) (sym here) ∙ at)))
      (λ other. tells_hook pool h e k so may refl refl (λ said. absurd cc) (keeps.tells v k (sym (get_or-set_other hands w v None None other) ∙ at)))
      (cases_eq v w);
  one_each = λ v. subst (λ (hs : List Hook). times_in v (workers_of hs) ≤ 1) (sym less) (omega (arith, fewer_times (λ (k : Hook). k.worker) keep v old, keeps.one_each v));
  once = λ d. subst (λ (hs : List Hook). times_in d (completers hs) ≤ 1) (sym less) (omega (arith, fewer_times (λ (k : Hook). k.completer) keep d old, keeps.once d));
  fired = λ d there. any_more (fires_or_passes d) h e (keeps.fired d (fewer_listed keep d old (subst (λ (hs : List Hook). is_in d (completers hs) ≡ true) less there)));
}
  where
    e : Event
    e = Hooked c

    h2 : List Event
    h2 = h ++ e ∷ []

    old : List Hook
    old = (hooks h).in_hands

    keep : Hook → Bool
    keep hook = not (hook.completer == c)

    completer : InHand → ℕ
    completer k = k.completer

    less : (hooks h2).in_hands ≡ but c old
    less = ap (λ s. s.in_hands) (hooks_more h e)
