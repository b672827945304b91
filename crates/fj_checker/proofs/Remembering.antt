-- What a checker keeps beside its ledger, after each event.
use Rattle.std.proofs.Common.{ℕ, ◌≡◌, ◌≢◌, ◌+◌, ◌<◌, ◌≤◌, Bool, true, false, not, ◌&&◌, ◌||◌, List, [], ◌∷◌, ◌++◌, length, Option, Some, None, refl, sym, ap, ◌∙◌, subst, arith, set, ⊎_elim, length-append}
use Rattle.std.specs.Prelude.{is_none, IfSome, MatchOption}
use Rattle.std.specs.List.{list_any, cons_option}
use Rattle.std.proofs.lemmas.Bool.{eq-eqb, ne_eqb, lt-ltb, le-ltb, ltb-true, cases_eq, or_parts}
use Rattle.std.proofs.lemmas.List.{get_or-set_same, get_or-set_other, length-set}
use Rattle.std.proofs.Math.ListN.{get_or-append}
use Rattle.std.proofs.Math.Seq.{get_or-append_seam}
use Rattle.std.proofs.lemmas.List.Folds.{list_any-append}
use Rattle.fj_rules.specs.declared.event.Event.{Event}
use Rattle.fj_rules.specs.declared.event.Event.TheVariants as event
use Rattle.fj_rules.specs.declared.event.How.TheVariants as how
use Rattle.fj_rules.specs.declared.kind.Kind.{Kind}
use Rattle.fj_rules.specs.declared.kind.Kind.TheVariants.{Plain}
use Rattle.fj_rules.specs.declared.owner.Owner.{Owner}
use Rattle.fj_rules.specs.declared.owner.Owner.TheVariants.{Sub, Work}
use Rattle.fj_rules.specs.declared.status.Status.{Status}
use Rattle.fj_rules.specs.Bounds.{Pool}
use Rattle.fj_rules.specs.Lists.{is_in, times_in}
use Rattle.fj_rules.specs.Tasks.{tasks, accepted, accepted_by, kind_by}
use Rattle.fj_rules.specs.Hooks.{hooks, hooks_after, hand, Hooks}
use Rattle.fj_rules.proofs.Completers.HookLists.{completers, worker_found}
use Rattle.fj_rules.specs.Statuses.{status_by, is_undone}
use Rattle.fj_rules.specs.Completers.{fires_or_passes}
use Rattle.fj_rules.specs.Climbs.{ClimbsCompleters}
use Rattle.fj_rules.specs.Follows.{NamesCompleter}
use Rattle.fj_rules.specs.Allowed.{Allowed, AllowedFrom, is_closed, is_shut, is_stop, is_stopped, fires_by_complete, is_fired_by_complete}
use Rattle.fj_rules.proofs.Events.Closing.{stopped_more}
use Rattle.fj_rules.proofs.Events.Ends.{status_settle}
use Rattle.fj_rules.proofs.Events.Growth.{hooks_more, kind_more, accepted_more, or_false}
use Rattle.fj_rules.proofs.Events.KindsKept.{kind_still, completer_known}
use Rattle.fj_rules.proofs.Events.Lawful.{is_numbered}
use Rattle.fj_rules.proofs.Events.Statuses.{status_same}
use Rattle.fj_rules.proofs.Events.Stopping.{stop_done}
use Rattle.fj_rules.proofs.Completers.Unfired.{climbs_unfired}
use Rattle.fj_rules.proofs.Completers.Unknown.{unknown_kind, unknown_undone}
use Rattle.fj_rules.proofs.Steps.Standing.{newest_more}
use Rattle.fj_checker.specs.declared.known.Known.{Known}
use Rattle.fj_checker.specs.Remembered.{first_known, known_of, known_after, told_by, ended_in, Knows, Remembers}

pub nothing_known : Remembers [] [] None None
unfolding accepted tasks hooks
nothing_known = record { count = refl; each = λ t below. absurd (omega (arith, below)); newest = refl; ended = refl; last = refl }

-- ---- which tasks are known

pub known_there : (pool : Pool) (h : List Event) (known : List Known) (t : ℕ) → AllowedFrom pool [] h → length known ≡ accepted h → t < length known → is_in t (tasks h) ≡ true
known_there pool h known t so count below = is_numbered pool h so t ∙ lt-ltb t (accepted h) (omega (arith, count, below))

pub unknown_there : (pool : Pool) (h : List Event) (known : List Known) (t : ℕ) → AllowedFrom pool [] h → length known ≡ accepted h → length known ≤ t → is_in t (tasks h) ≡ false
unknown_there pool h known t so count above = is_numbered pool h so t ∙ le-ltb t (accepted h) (omega (arith, count, above))

pub there_known : (pool : Pool) (h : List Event) (known : List Known) (t : ℕ) → AllowedFrom pool [] h → length known ≡ accepted h → is_in t (tasks h) ≡ true → t < length known
there_known pool h known t so count there = let below = ltb-true t (accepted h) (sym (is_numbered pool h so t) ∙ there) in omega (arith, count, below)

-- ---- what is known after one more event

fired_more : (h : List Event) (e : Event) (t : ℕ) → is_fired_by_complete (h ++ e ∷ []) t ≡ (is_fired_by_complete h t || fires_by_complete t e)
unfolding is_fired_by_complete
fired_more h e t = list_any-append (fires_by_complete t) h (e ∷ []) ∙ ap (λ b. list_any (fires_by_complete t) h || b) (or_false (fires_by_complete t e))

fired_same : (h : List Event) (e : Event) (t : ℕ) → fires_by_complete t e ≡ false → is_fired_by_complete (h ++ e ∷ []) t ≡ is_fired_by_complete h t
fired_same h e t other = fired_more h e t ∙ rw other (or_false (is_fired_by_complete h t))

stopped_same : (h : List Event) (e : Event) → is_stop e ≡ false → is_stopped (h ++ e ∷ []) ≡ is_stopped h
stopped_same h e other = stopped_more h e ∙ rw other (or_false (is_stopped h))

-- of a task that the event does not speak of
same_known : (h : List Event) (e : Event) (t : ℕ) (k : Known) → Knows h t k → (accepted_by e ≡ Some t → ⊥) → ((b : Bool) → status_by t b e ≡ None) → is_stop e ≡ false → fires_by_complete t e ≡ false
    → Knows (h ++ e ∷ []) t k
same_known h e t k knows other silent stop fires = record {
  kind = kind_still h e t other ∙ knows.kind;
  undone = ap is_undone (status_same h e t silent) ∙ knows.undone ∙ ap (λ b. is_none k.settled && not b) (sym (stopped_same h e stop));
  completed = fired_same h e t fires ∙ knows.completed;
}

settled_known : (pool : Pool) (h : List Event) (t : ℕ) (s : Status) (k : Known) → AllowedFrom pool [] h → Allowed pool h (event.Settle t s) → Knows h t k
    → Knows (h ++ event.Settle t s ∷ []) t (record k { settled = Some s })
settled_known pool h t s k so may knows = record {
  kind = kind_still h (event.Settle t s) t (λ is. absurd cc) ∙ knows.kind;
  undone = ap is_undone (status_settle pool h t s so may.1) ∙ may.2;
  completed = fired_same h (event.Settle t s) t refl ∙ knows.completed;
}

completed_known : (h : List Event) (c : ℕ) (k : Known) → Knows h c k → Knows (h ++ event.Fire c how.Complete ∷ []) c (record k { completed = true })
completed_known h c k knows =
    let e = event.Fire c how.Complete in record {
      kind = kind_still h e c (λ is. absurd cc) ∙ knows.kind;
      undone = ap is_undone (status_same h e c (λ b. refl)) ∙ knows.undone ∙ ap (λ b. is_none k.settled && not b) (sym (stopped_same h e refl));
      completed = fired_more h e c ∙ rw (eq-eqb c c refl) (or_true (is_fired_by_complete h c));
    }
  where
    or_true : (b : Bool) → (b || true) ≡ true
    or_true true = refl
    or_true false = refl

stop_known : (pool : Pool) (h : List Event) (t : ℕ) (k : Known) → AllowedFrom pool [] h → is_in t (tasks h) ≡ true → Knows h t k → Knows (h ++ event.Stop ∷ []) t k
stop_known pool h t k so there knows = record {
  kind = kind_still h event.Stop t (λ is. absurd cc) ∙ knows.kind;
  undone = stop_done pool h t so there ∙ sym (rw (stopped_more h event.Stop) (none (is_none k.settled) (is_stopped h)));
  completed = fired_same h event.Stop t refl ∙ knows.completed;
}
  where
    none : (a b : Bool) → (a && not (b || true)) ≡ false
    none true true = refl
    none true false = refl
    none false b = refl

complete_fires : (c : ℕ) (h : List Event) → list_any (fires_or_passes c) h ≡ false → list_any (fires_by_complete c) h ≡ false
complete_fires c [] none = refl
complete_fires c (e ∷ h) none = let parts = or_parts (fires_or_passes c e) (list_any (fires_or_passes c) h) none in front e parts.0 (complete_fires c h parts.1)
  where
    front : (e : Event) → fires_or_passes c e ≡ false → list_any (fires_by_complete c) h ≡ false → (fires_by_complete c e || list_any (fires_by_complete c) h) ≡ false
    front (event.Fire d how.Zero) none rest = rest
    front (event.Fire d how.Complete) none rest = rw none rest
    front _ none rest = rest

-- a task that is accepted now
new_known : (pool : Pool) (h : List Event) (e : Event) (t : ℕ) (k : Kind) → AllowedFrom pool [] h → ClimbsCompleters h → is_in t (tasks h) ≡ false → kind_by t e ≡ Some k
    → ((b : Bool) → status_by t b e ≡ None) → is_stopped h ≡ false → is_stop e ≡ false → fires_by_complete t e ≡ false → Knows (h ++ e ∷ []) t (first_known k)
unfolding is_fired_by_complete
new_known pool h e t k so climbs absent is silent unstopped stop fires = record {
  kind = kind_more h t e ∙ rw (unknown_kind h t absent) is;
  undone = ap is_undone (status_same h e t silent ∙ unknown_undone pool h t so absent) ∙ sym (ap not (stopped_same h e stop ∙ unstopped));
  completed = fired_same h e t fires ∙ complete_fires t h (climbs_unfired h climbs t absent);
}

not_stopped : (h : List Event) (o : Owner) → is_shut h o ≡ false → is_stopped h ≡ false
not_stopped h (Sub s) unshut = (or_parts (is_closed h) (is_stopped h) unshut).1
not_stopped h (Work w) unshut = unshut

-- ---- the lists

-- the task behind the known ones
abbrev EachKnown : List Event → List Known → Type 0
EachKnown h known = (t : ℕ) → t < length known → Knows h t (known_of known t)

each_more : (h : List Event) (known : List Known) (x : Known) → EachKnown h known → Knows h (length known) x → EachKnown h (known ++ x ∷ [])
each_more h known x each last t below =
    ⊎_elim (λ here. subst (λ k. Knows h t k) (sym (ap (λ n. known_of (known ++ x ∷ []) n) here ∙ get_or-append_seam known x [] (first_known Plain))) (subst (λ n. Knows h n x) (sym here) last))
    (λ other. let low : t < length known = omega (arith, below, length-append known (x ∷ []), other) in
    subst (λ k. Knows h t k) (sym (get_or-append known (x ∷ []) (first_known Plain) t low)) (each t low))
    (cases_eq t (length known))

each_set : (h : List Event) (known : List Known) (u : ℕ) (x : Known) → ((t : ℕ) → t < length known → t ≢ u → Knows h t (known_of known t)) → Knows h u x → EachKnown h (set known u x)
each_set h known u x each here t below =
    let low : t < length known = omega (arith, below, length-set known u x) in
    ⊎_elim (λ same. subst (λ k. Knows h t k) (sym (ap (λ n. known_of (set known u x) n) same ∙ get_or-set_same known u x (first_known Plain) (omega (arith, low, same)))) (subst (λ n. Knows h n x) (sym same) here))
    (λ other. subst (λ k. Knows h t k) (sym (get_or-set_other known u t x (first_known Plain) other)) (each t low other))
    (cases_eq t u)

-- ---- all of it

not_accepted : (pool : Pool) (h : List Event) (known : List Known) (t u : ℕ) → length known ≡ accepted h → t < length known → u ≡ accepted h → Some u ≡ Some t → ⊥
not_accepted pool h known t u count below is same = let one : u ≡ t = cc in omega (arith, count, below, is, one)

settles_other : (t u : ℕ) (s : Status) → t ≢ u → (b : Bool) → status_by t b (event.Settle u s) ≡ None
settles_other t u s other b = rw (ne_eqb u t (λ same. other (sym same))) refl

each_after : (pool : Pool) (h : List Event) (e : Event) (known : List Known) → AllowedFrom pool [] h → ClimbsCompleters h → length known ≡ accepted h → Allowed pool h e → NamesCompleter h e → EachKnown h known
    → EachKnown (h ++ e ∷ []) (known_after known e)
each_after pool h (event.Acc u o k) known so climbs count may names each =
    let e = event.Acc u o k in
    let number : u ≡ length known = may.0.number ∙ sym count in
    each_more (h ++ e ∷ []) known (first_known k) (λ t below. same_known h e t (known_of known t) (each t below) (not_accepted pool h known t u count below may.0.number) (λ b. refl) refl refl)
    (new_known pool h e (length known) k so climbs (unknown_there pool h known (length known) so count (omega arith)) (rw (eq-eqb u (length known) number) refl) (λ b. refl) (not_stopped h o may.2) refl refl)
each_after pool h (event.Make u k) known so climbs count may names each =
    let e = event.Make u k in
    let number : u ≡ length known = may.0.number ∙ sym count in
    each_more (h ++ e ∷ []) known (first_known k) (λ t below. same_known h e t (known_of known t) (each t below) (not_accepted pool h known t u count below may.0.number) (λ b. refl) refl refl)
    (new_known pool h e (length known) k so climbs (unknown_there pool h known (length known) so count (omega arith)) (rw (eq-eqb u (length known) number) refl) (λ b. refl) may.3 refl refl)
each_after pool h (event.Settle u s) known so climbs count may names each =
    let e = event.Settle u s in
    each_set (h ++ e ∷ []) known u (record (known_of known u) { settled = Some s })
    (λ t below other. same_known h e t (known_of known t) (each t below) (λ is. absurd cc) (settles_other t u s other) refl refl)
    (settled_known pool h u s (known_of known u) so may (each u (there_known pool h known u so count may.0)))
each_after pool h (event.Fire u how.Complete) known so climbs count may names each =
    let e = event.Fire u how.Complete in
    each_set (h ++ e ∷ []) known u (record (known_of known u) { completed = true })
    (λ t below other. same_known h e t (known_of known t) (each t below) (λ is. absurd cc) (λ b. refl) refl (ne_eqb u t (λ same. other (sym same))))
    (completed_known h u (known_of known u) (each u (there_known pool h known u so count (completer_known h u names))))
each_after pool h event.Stop known so climbs count may names each = λ t below. stop_known pool h t (known_of known t) so (known_there pool h known t so count below) (each t below)
each_after pool h (event.Fire u how.Zero) known so climbs count may names each = λ t below. same_known h (event.Fire u how.Zero) t (known_of known t) (each t below) (λ is. absurd cc) (λ b. refl) refl refl
each_after pool h e known so climbs count may names each = λ t below. same_known h e t (known_of known t) (each t below) (λ is. absurd cc) (λ b. refl) refl refl

count_after : (known : List Known) (e : Event) → length (known_after known e) ≡ length known + length (cons_option (accepted_by e) [])
count_after known (event.Acc u o k) = length-append known (first_known k ∷ [])
count_after known (event.Make u k) = length-append known (first_known k ∷ [])
count_after known (event.Settle u s) = omega (arith, length-set known u (record (known_of known u) { settled = Some s }))
count_after known (event.Fire u how.Complete) = omega (arith, length-set known u (record (known_of known u) { completed = true }))
count_after known (event.Fire u how.Zero) = omega arith
count_after known e = omega arith

ended_after : (s : Hooks) (e : Event) → (hooks_after s e).just_ended ≡ ended_in (Some e)
ended_after s (event.End t w) = refl
ended_after s (event.Fire c k) = refl
ended_after s (event.Hooked c) = refl
ended_after s _ = refl

pub remembers_more : (pool : Pool) (h : List Event) (e : Event) (known : List Known) (newest_event : Option Event) (last last_after : Option ℕ) → AllowedFrom pool [] h → ClimbsCompleters h
    → Allowed pool h e → NamesCompleter h e → Remembers h known newest_event last → last_after ≡ (hooks (h ++ e ∷ [])).last_worker → Remembers (h ++ e ∷ []) (known_after known e) (Some e) last_after
remembers_more pool h e known newest_event last last_after so climbs may names kept is = record {
  count = count_after known e ∙ ap (λ n. n + length (cons_option (accepted_by e) [])) kept.count ∙ sym (accepted_more h e);
  each = each_after pool h e known so climbs kept.count may names kept.each;
  newest = sym (newest_more h e);
  ended = ap (λ s. s.just_ended) (hooks_more h e) ∙ ended_after (hooks h) e;
  last = is;
}

-- the task of which a following event tells more is known
pub told_known : (pool : Pool) (h : List Event) (e : Event) (known : List Known) → AllowedFrom pool [] h → length known ≡ accepted h → Allowed pool h e → NamesCompleter h e
    → IfSome (told_by e) (λ t. t < length known)
told_known pool h (event.Settle u s) known so count may names = there_known pool h known u so count may.0
told_known pool h (event.Fire u how.Complete) known so count may names = there_known pool h known u so count (completer_known h u names)
told_known pool h (event.Fire u how.Zero) known so count may names = tt
told_known pool h _ known so count may names = tt

-- ---- the worker whose hook ended last

pub last_same : (h : List Event) (e : Event) → ((c : ℕ) → e ≡ event.Hooked c → ⊥) → (hooks h).last_worker ≡ (hooks (h ++ e ∷ [])).last_worker
last_same h e other = go e other ∙ sym (ap (λ s. s.last_worker) (hooks_more h e))
  where
    go : (e : Event) → ((c : ℕ) → e ≡ event.Hooked c → ⊥) → (hooks h).last_worker ≡ (hooks_after (hooks h) e).last_worker
    go (event.Hooked c) other = absurd (other c refl)
    go (event.Fire c k) other = refl
    go (event.End t w) other = refl
    go _ other = refl

pub last_hooked : (h : List Event) (c w : ℕ) → hand h w ≡ Some c → times_in c (completers (hooks h).in_hands) ≤ 1 → Some w ≡ (hooks (h ++ event.Hooked c ∷ [])).last_worker
unfolding hand
last_hooked h c w is once = sym (ap (λ s. s.last_worker) (hooks_more h (event.Hooked c)) ∙ worker_found w c (hooks h).in_hands is once)

pub last_of_hook : (pool : Pool) (h : List Event) (c : ℕ) (from : Option ℕ) → Allowed pool h (event.Hooked c) → times_in c (completers (hooks h).in_hands) ≤ 1
    → MatchOption from ((v : ℕ) → hand h v ≡ Some c → ⊥) (λ w. (w < pool.limits.workers) × (hand h w ≡ Some c)) → from ≡ (hooks (h ++ event.Hooked c ∷ [])).last_worker
last_of_hook pool h c None may once found = absurd (found may.0 may.1)
last_of_hook pool h c (Some w) may once found = last_hooked h c w found.1 once
