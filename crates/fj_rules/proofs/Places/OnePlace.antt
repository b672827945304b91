-- Each accepted task is in exactly one place.
use Rattle.std.proofs.Common.{zero, suc, ℕ, ◌≡◌, ◌≢◌, ◌+◌, ◌-◌, ◌≤◌, ◌<◌, Bool, true, false, cond, not, ◌&&◌, List, [], ◌∷◌, ◌++◌, length, map, Option, Some, None, refl, ap, sym, ◌∙◌, arith, subst, ⊎_elim, ◌⊎◌, inl, inr}
use Rattle.std.specs.Prelude.{◌==◌, nat_lt, if◌then◌else◌}
use Rattle.std.specs.List.{filter_map, flat_map, find, cons_option, range_with_len}
use Rattle.std.proofs.lemmas.Bool.{eqb-true, eq-eqb, and_parts, true≢false, or_right, not-true, cases_eq}
use Rattle.fj_rules.specs.declared.event.Event.{Event}
use Rattle.fj_rules.specs.declared.event.Event.TheVariants.{Acc, Make, Out, End}
use Rattle.fj_rules.specs.declared.owner.Owner.{Owner}
use Rattle.fj_rules.specs.declared.owner.Owner.TheVariants.{Sub, Work}
use Rattle.fj_rules.specs.Bounds.{Bounds, Pool, IsOwner, owner_at, queue_number, queues_in, owners, workers}
use Rattle.fj_rules.specs.Lists.{is_in, without, times_in}
use Rattle.fj_rules.specs.Queues.{is_same, pushed, pushed_by, left, queue}
use Rattle.fj_rules.specs.Tasks.{tasks, accepted, accepted_by, is_completer}
use Rattle.fj_rules.specs.Stacks.{stack, out_by, ended_by}
use Rattle.fj_rules.specs.Completers.{is_spent}
use Rattle.fj_rules.specs.Places.{queued_in, held_by, opened, opened_by, open_tasks, place, place_of, is_open, owner_by, worker_by, gone}
use Rattle.fj_rules.specs.Allowed.{Allowed, AllowedFrom}
use Rattle.fj_rules.specs.Headline.{all_places, IsInOnePlace}
use Rattle.fj_rules.proofs.Lists.Members.{is_in_append, is_in_filter, times_in_append, times_in_none, times_in_filter, get_is_in, Once}
use Rattle.fj_rules.proofs.Events.Growth.{pushed_more, stack_more, opened_more, tasks_more}
use Rattle.fj_rules.proofs.Events.Lawful.{by_events, is_in_with, number_if_is, same_owner, is_numbered, is_new, known_more, pushed_known, pushed_once, pushed_apart, queued_pushed, queued_fresh, taken_known, take_chosen, chosen_queued, named_once}
use Rattle.fj_rules.proofs.Places.StacksTaken.{stack_taken, out_takes}
use Rattle.fj_rules.proofs.Lists.Owners.{sub_owner, work_owner, owners_apart}
use Rattle.fj_rules.proofs.Events.Ends.{stack_once}
use Rattle.fj_rules.proofs.Places.GoneTasks.{not_queued, not_held, once_times, gone_once, queue_gains}

-- ---- sums over owners and workers

none_of : (f : ℕ → List ℕ) (t a n : ℕ) → ((i : ℕ) → i < a + n → times_in t (f i) ≡ 0) → times_in t (flat_map f (range_with_len a n)) ≡ 0
none_of f t a zero none = refl
none_of f t a (suc n) none =
    omega (arith, times_in_append t (f a) (flat_map f (range_with_len (a + 1) n)), none a (omega arith), none_of f t (a + 1) n (λ i le. none i (omega arith)))

none_above : (f : ℕ → List ℕ) (t a n : ℕ) → ((i : ℕ) → a ≤ i → i < a + n → times_in t (f i) ≡ 0) → times_in t (flat_map f (range_with_len a n)) ≡ 0
none_above f t a zero none = refl
none_above f t a (suc n) none =
    omega (arith, times_in_append t (f a) (flat_map f (range_with_len (a + 1) n)), none a (omega arith) (omega arith), none_above f t (a + 1) n (λ i ge le. none i (omega arith) (omega arith)))

one_of : (f : ℕ → List ℕ) (t k a n : ℕ) → a ≤ k → k < a + n → times_in t (f k) ≡ 1 → ((i : ℕ) → i ≢ k → i < a + n → times_in t (f i) ≡ 0) → times_in t (flat_map f (range_with_len a n)) ≡ 1
one_of f t k a zero ge lt one others = absurd (omega arith)
one_of f t k a (suc n) ge lt one others =
    times_in_append t (f a) (flat_map f (range_with_len (a + 1) n))
    ∙ ⊎_elim
    (λ here. let one' : times_in t (f a) ≡ 1 = ap (λ i. times_in t (f i)) here ∙ one in
    omega (arith, one', none_above f t (a + 1) n (λ i above le. others i (omega arith) (omega arith))))
    (λ other. omega (arith, others a other (omega arith), one_of f t k (a + 1) n (omega arith) (omega arith) one (λ i ne le. others i ne (omega arith))))
    (cases_eq a k)

flat_map_map : (f : Owner → List ℕ) (g : ℕ → Owner) (xs : List ℕ) → flat_map f (map g xs) ≡ flat_map (λ x. f (g x)) xs
flat_map_map f g [] = refl
flat_map_map f g (x ∷ xs) = ap (λ ys. f (g x) ++ ys) (flat_map_map f g xs)

-- ---- queues

abbrev IsOwned : Pool → List Event → Type 0
IsOwned pool h = (o : Owner) (t : ℕ) → is_in t (pushed h o) ≡ true → IsOwner pool.limits o

owned_new : (pool : Pool) (h : List Event) (e : Event) (o : Owner) (t : ℕ) → Allowed pool h e → pushed_by o e ≡ Some t → IsOwner pool.limits o
owned_new pool h (Acc u p k) o t may is = subst (IsOwner pool.limits) (sym (same_owner o p (number_if_is (is_same o p) u t is).0)) may.1
owned_new pool h _ o t may is = absurd cc

owned_more : (pool : Pool) (h : List Event) (e : Event) → AllowedFrom pool [] h → IsOwned pool h → Allowed pool h e → IsOwned pool (h ++ e ∷ [])
owned_more pool h e so owned may o t there = ⊎_elim (owned o t) (owned_new pool h e o t may) (is_in_with t (pushed h o) (pushed_by o e) (rw pushed_more at there))

owned_none : (pool : Pool) → IsOwned pool []
unfolding pushed
owned_none pool o t there = absurd cc

pub is_owned : (pool : Pool) (h : List Event) → AllowedFrom pool [] h → IsOwned pool h
is_owned pool = by_events pool (IsOwned pool) (owned_none pool) (owned_more pool)

pub number_owner : (l : Bounds) (o : Owner) → IsOwner l o → (queue_number l o < queues_in l) × (owner_at l (queue_number l o) ≡ o)
number_owner l (Sub s) within = (omega arith, sub_owner l s within)
number_owner l (Work w) within = (omega arith, work_owner l w)

pub queue_once : (pool : Pool) (h : List Event) (o : Owner) → AllowedFrom pool [] h → Once (queue h o)
unfolding queue
queue_once pool h o so t = rw times_in_filter (go (not (is_in t (left h o))))
  where
    go : (b : Bool) → cond b (times_in t (pushed h o)) 0 ≤ 1
    go true = pushed_once pool h o so t
    go false = omega arith

queues_none : (l : Bounds) (h : List Event) (t : ℕ) → ((o : Owner) → is_in t (queue h o) ≡ false) → times_in t (flat_map (queue h) (owners l)) ≡ 0
unfolding owners
queues_none l h t none = rw flat_map_map (none_of (λ i. queue h (owner_at l i)) t 0 (queues_in l) (λ i le. times_in_none t (queue h (owner_at l i)) (none (owner_at l i))))

queues_one : (pool : Pool) (h : List Event) (t : ℕ) (o : Owner) → AllowedFrom pool [] h → is_in t (queue h o) ≡ true → times_in t (flat_map (queue h) (owners pool.limits)) ≡ 1
unfolding owners
queues_one pool h t o so there =
    let l = pool.limits in
    let at = number_owner l o (is_owned pool h so o t (queued_pushed h o t there)) in
    let one : times_in t (queue h (owner_at l (queue_number l o))) ≡ 1 =
    ap (λ p. times_in t (queue h p)) at.1 ∙ once_times t (queue h o) (queue_once pool h o so) ∙ rw there refl in
    rw flat_map_map (one_of (λ i. queue h (owner_at l i)) t (queue_number l o) 0 (queues_in l) (omega arith) (omega (arith, at.0)) one (λ i other le. times_in_none t (queue h (owner_at l i)) (absent l at.1 i other (is_in t (queue h (owner_at l i))) refl)))
  where
    absent : (l : Bounds) → owner_at l (queue_number l o) ≡ o → (i : ℕ) → i ≢ queue_number l o → (b : Bool) → is_in t (queue h (owner_at l i)) ≡ b → b ≡ false
    absent l is i other true also = absurd (other (owners_apart l i (queue_number l o) (pushed_apart pool h so t (owner_at l i) o (queued_pushed h (owner_at l i) t also) (queued_pushed h o t there) ∙ sym is)))
    absent l is i other false also = refl

-- ---- stacks

abbrev IsStackApart : Pool → List Event → Type 0
IsStackApart pool h = (t w v : ℕ) → is_in t (stack h w) ≡ true → is_in t (stack h v) ≡ true → (w ≡ v) × (w < pool.limits.workers)

pub stack_before : (h : List Event) (e : Event) (w t : ℕ) → is_in t (stack (h ++ e ∷ []) w) ≡ true → ((is_in t (stack h w) ≡ true) × (is_in t (cons_option (ended_by w e) []) ≡ false)) ⊎ (out_by w e ≡ Some t)
stack_before h e w t there =
    ⊎_elim
    (λ old. let parts = and_parts (is_in t (stack h w)) (not (is_in t (cons_option (ended_by w e) []))) (sym (is_in_filter (λ u. not (is_in u (cons_option (ended_by w e) []))) t (stack h w)) ∙ old) in
    inl (parts.0, not-true (is_in t (cons_option (ended_by w e) [])) parts.1))
    (λ new. inr new)
    (is_in_with t (without (stack h w) (cons_option (ended_by w e) [])) (out_by w e) (rw stack_more at there))

out_worker : (pool : Pool) (h : List Event) (e : Event) (w t : ℕ) → Allowed pool h e → out_by w e ≡ Some t → w < pool.limits.workers
out_worker pool h (Out u v) w t may is = let same = eqb-true w v (number_if_is (w == v) u t is).0 in omega (arith, may.0.worker)
out_worker pool h _ w t may is = absurd cc

out_one : (e : Event) (w v t : ℕ) → out_by w e ≡ Some t → out_by v e ≡ Some t → w ≡ v
out_one (Out u x) w v t is also = eqb-true w x (number_if_is (w == x) u t is).0 ∙ sym (eqb-true v x (number_if_is (v == x) u t also).0)
out_one _ w v t is also = absurd cc

-- what is handed out was on no stack
out_fresh : (pool : Pool) (h : List Event) (e : Event) (w v t : ℕ) → Allowed pool h e → out_by w e ≡ Some t → is_in t (stack h v) ≡ true → ⊥
out_fresh pool h e w v t may is there =
    let c = take_chosen pool h e t may (out_takes w e t is) in
    absurd (true≢false (sym (stack_taken h v t there) ∙ queued_fresh h c.0 t (chosen_queued pool.mode h t c)))

stack_apart_more : (pool : Pool) (h : List Event) (e : Event) → AllowedFrom pool [] h → IsStackApart pool h → Allowed pool h e → IsStackApart pool (h ++ e ∷ [])
stack_apart_more pool h e so apart may t w v there also =
    ⊎_elim
    (λ old. ⊎_elim (λ old'. apart t w v old.0 old'.0) (λ new. absurd (out_fresh pool h e v w t may new old.0)) (stack_before h e v t also))
    (λ new. ⊎_elim (λ old. absurd (out_fresh pool h e w v t may new old.0)) (λ new'. (out_one e w v t new new', out_worker pool h e w t may new)) (stack_before h e v t also))
    (stack_before h e w t there)

stack_apart_none : (pool : Pool) → IsStackApart pool []
unfolding stack
stack_apart_none pool t w v there also = absurd cc

pub stack_apart : (pool : Pool) (h : List Event) → AllowedFrom pool [] h → IsStackApart pool h
stack_apart pool = by_events pool (IsStackApart pool) (stack_apart_none pool) (stack_apart_more pool)

stacks_none : (l : Bounds) (h : List Event) (t : ℕ) → ((w : ℕ) → is_in t (stack h w) ≡ false) → times_in t (flat_map (stack h) (workers l)) ≡ 0
unfolding workers
stacks_none l h t none = none_of (stack h) t 0 l.workers (λ i le. times_in_none t (stack h i) (none i))

stacks_one : (pool : Pool) (h : List Event) (t w : ℕ) → AllowedFrom pool [] h → is_in t (stack h w) ≡ true → times_in t (flat_map (stack h) (workers pool.limits)) ≡ 1
unfolding workers
stacks_one pool h t w so there =
    let at = stack_apart pool h so t w w there there in
    one_of (stack h) t w 0 pool.limits.workers (omega arith) (omega (arith, at.1)) (once_times t (stack h w) (stack_once pool h w so) ∙ rw there refl)
    (λ i other le. times_in_none t (stack h i) (absent i other (is_in t (stack h i)) refl))
  where
    absent : (i : ℕ) → i ≢ w → (b : Bool) → is_in t (stack h i) ≡ b → b ≡ false
    absent i other true also = absurd (other (stack_apart pool h so t i w also there).0)
    absent i other false also = refl

-- ---- open tasks

-- a task that was made, or whose body ended, is in no queue and on no stack
pub record IsOut (h : List Event) (t : ℕ) : Type 0 where
  pub known : is_in t (tasks h) ≡ true
  pub queues : (o : Owner) → is_in t (queue h o) ≡ false
  pub stacks : (w : ℕ) → is_in t (stack h w) ≡ false

abbrev pub IsOpenedOut : List Event → Type 0
IsOpenedOut h = (t : ℕ) → is_in t (opened h) ≡ true → IsOut h t

pub never : (b : Bool) → (b ≡ true → ⊥) → b ≡ false
never true h = absurd (h refl)
never false h = refl

pub accepted_now : (h : List Event) (e : Event) (t : ℕ) → accepted_by e ≡ Some t → is_in t (tasks (h ++ e ∷ [])) ≡ true
accepted_now h e t is = rw (tasks_more, is, is_in_append t (tasks h) (t ∷ [])) (or_right (is_in t (tasks h)) (is_in t (t ∷ [])) (rw (eq-eqb t t refl) refl))

pub out_new : (pool : Pool) (h : List Event) (e : Event) (t : ℕ) → AllowedFrom pool [] h → Allowed pool h e → opened_by e ≡ Some t → IsOut (h ++ e ∷ []) t
out_new pool h (Make u k) t so may is =
    let e = Make u k in
    let fresh = is_new pool h e t so may is in
    record {
      known = accepted_now h e t is;
      queues = λ o. never (is_in t (queue (h ++ e ∷ []) o)) (λ there.
          ⊎_elim (λ old. absurd (true≢false (sym (pushed_known h o t old) ∙ fresh))) (λ new. absurd cc)
          (is_in_with t (pushed h o) None (rw pushed_more at (queued_pushed (h ++ e ∷ []) o t there))));
      stacks = λ w. never (is_in t (stack (h ++ e ∷ []) w)) (λ there.
          ⊎_elim (λ old. absurd (true≢false (sym (taken_known pool h so t (stack_taken h w t old.0)) ∙ fresh))) (λ new. absurd cc) (stack_before h e w t there));
    }
out_new pool h (End u w) t so may is =
    let e = End u w in
    let held : is_in t (stack h w) ≡ true = get_is_in t (stack h w) (length (stack h w) - 1) (may.0 ∙ is) in
    let known = taken_known pool h so t (stack_taken h w t held) in
    record {
      known = known_more h e t known;
      queues = λ o. never (is_in t (queue (h ++ e ∷ []) o)) (λ there.
          absurd (true≢false (sym (stack_taken h w t held) ∙ queued_fresh h o t (queue_gains pool h e o t so may known there))));
      stacks = λ v. never (is_in t (stack (h ++ e ∷ []) v)) (λ there.
          ⊎_elim
          (λ old. let same = (stack_apart pool h so t v w old.0 held).0 in
          absurd (true≢false (sym (rw (eq-eqb v w same) (rw (eq-eqb u t cc) refl)) ∙ old.1)))
          (λ new. absurd cc) (stack_before h e v t there));
    }
out_new pool h _ t so may is = absurd cc

out_old : (pool : Pool) (h : List Event) (e : Event) (t : ℕ) → AllowedFrom pool [] h → Allowed pool h e → IsOut h t → IsOut (h ++ e ∷ []) t
out_old pool h e t so may was = record {
  known = known_more h e t was.known;
  queues = λ o. never (is_in t (queue (h ++ e ∷ []) o)) (λ there. true≢false (sym (queue_gains pool h e o t so may was.known there) ∙ was.queues o));
  stacks = λ w. never (is_in t (stack (h ++ e ∷ []) w)) (λ there.
      ⊎_elim (λ old. true≢false (sym old.0 ∙ was.stacks w))
      (λ new. let c = take_chosen pool h e t may (out_takes w e t new) in true≢false (sym (chosen_queued pool.mode h t c) ∙ was.queues c.0))
      (stack_before h e w t there));
}

opened_out_more : (pool : Pool) (h : List Event) (e : Event) → AllowedFrom pool [] h → IsOpenedOut h → Allowed pool h e → IsOpenedOut (h ++ e ∷ [])
opened_out_more pool h e so out may t there =
    ⊎_elim (λ old. out_old pool h e t so may (out t old)) (λ new. out_new pool h e t so may new) (is_in_with t (opened h) (opened_by e) (rw opened_more at there))

opened_out_none : IsOpenedOut []
unfolding opened
opened_out_none t there = absurd cc

pub opened_out : (pool : Pool) (h : List Event) → AllowedFrom pool [] h → IsOpenedOut h
opened_out pool = by_events pool IsOpenedOut opened_out_none (opened_out_more pool)

opened_fresh : (pool : Pool) (h : List Event) (e : Event) (t : ℕ) → AllowedFrom pool [] h → Allowed pool h e → opened_by e ≡ Some t → is_in t (opened h) ≡ false
opened_fresh pool h (Make u k) t so may is = never (is_in t (opened h)) (λ there. true≢false (sym ((opened_out pool h so t there).known) ∙ is_new pool h (Make u k) t so may is))
opened_fresh pool h (End u w) t so may is =
    never (is_in t (opened h)) (λ there. true≢false (sym (get_is_in t (stack h w) (length (stack h w) - 1) (may.0 ∙ is)) ∙ (opened_out pool h so t there).stacks w))
opened_fresh pool h _ t so may is = absurd cc

pub opened_once : (pool : Pool) (h : List Event) → AllowedFrom pool [] h → Once (opened h)
unfolding opened
opened_once pool = named_once pool opened_by (opened_fresh pool)

-- ---- the one place

find_passes : {A : Type 0} (p : A → Bool) (xs : List A) (x : A) → find p xs ≡ Some x → p x ≡ true
find_passes p [] x is = absurd cc
find_passes p (y ∷ xs) x is = go (p y) refl (find_passes p xs x) is
  where
    go : (b : Bool) → p y ≡ b → (find p xs ≡ Some x → p x ≡ true) → cond b (Some y) (find p xs) ≡ Some x → p x ≡ true
    go true passes rest is = let same : y ≡ x = cc in ap p (sym same) ∙ passes
    go false passes rest is = rest is

pub queued_there : (h : List Event) (t : ℕ) (o : Owner) → queued_in h t ≡ Some o → is_in t (queue h o) ≡ true
unfolding queued_in
queued_there h t o is = find_passes (λ p. is_in t (queue h p)) (filter_map (owner_by t) h) o is

pub held_there : (h : List Event) (t w : ℕ) → held_by h t ≡ Some w → is_in t (stack h w) ≡ true
unfolding held_by
held_there h t w is = find_passes (λ v. is_in t (stack h v)) (filter_map (worker_by t) h) w is

-- how often a task stands in the lists of the four places
pub record Counts (l : Bounds) (h : List Event) (t q s o g : ℕ) : Type 0 where
  pub queues : times_in t (flat_map (queue h) (owners l)) ≡ q
  pub stacks : times_in t (flat_map (stack h) (workers l)) ≡ s
  pub opens : times_in t (open_tasks h) ≡ o
  pub gones : times_in t (gone h) ≡ g

counted : (l : Bounds) (h : List Event) (t q s o g : ℕ) → Counts l h t q s o g → times_in t (all_places l h) ≡ q + s + o + g
unfolding all_places
counted l h t q s o g c =
    let qs = flat_map (queue h) (owners l) in
    let ss = flat_map (stack h) (workers l) in
    omega (
      arith,
      times_in_append t (qs ++ ss ++ open_tasks h) (gone h),
      times_in_append t (qs ++ ss) (open_tasks h),
      times_in_append t qs ss,
      c.queues,
      c.stacks,
      c.opens,
      c.gones,
    )

open_count : (h : List Event) (t : ℕ) → times_in t (open_tasks h) ≡ cond (is_open (place h t)) (times_in t (opened h)) 0
unfolding open_tasks
open_count h t = times_in_filter (λ u. is_open (place h u)) t (opened h)

place_is : (h : List Event) (t : ℕ) (q : Option Owner) (v : Option ℕ) (b : Bool) → queued_in h t ≡ q → held_by h t ≡ v → (is_completer h t && is_in t (opened h) && not (is_spent h t)) ≡ b → place h t ≡ place_of q v b
unfolding place
place_is h t q v b qs vs bs = rw (qs, vs, bs) refl

-- a task that was accepted stands there once
once_placed : (pool : Pool) (h : List Event) (t : ℕ) → AllowedFrom pool [] h → is_in t (tasks h) ≡ true
    → (q : Option Owner) (v : Option ℕ) (b : Bool) → queued_in h t ≡ q → held_by h t ≡ v → (is_completer h t && is_in t (opened h) && not (is_spent h t)) ≡ b
    → times_in t (all_places pool.limits h) ≡ 1
once_placed pool h t so known (Some o) v b qs vs bs =
    let there = queued_there h t o qs in
    let at = place_is h t (Some o) v b qs vs bs in
    counted pool.limits h t 1 0 0 0 (record {
      queues = queues_one pool h t o so there;
      stacks = stacks_none pool.limits h t (λ w. never (is_in t (stack h w)) (λ held. true≢false (sym (stack_taken h w t held) ∙ queued_fresh h o t there)));
      opens = open_count h t ∙ rw at refl;
      gones = gone_once pool h so t ∙ rw (at, known) refl;
    })
once_placed pool h t so known None (Some w) b qs vs bs =
    let there = held_there h t w vs in
    let at = place_is h t None (Some w) b qs vs bs in
    counted pool.limits h t 0 1 0 0 (record {
      queues = queues_none pool.limits h t (λ o. not_queued h o t qs);
      stacks = stacks_one pool h t w so there;
      opens = open_count h t ∙ rw at refl;
      gones = gone_once pool h so t ∙ rw (at, known) refl;
    })
once_placed pool h t so known None None true qs vs bs =
    let at = place_is h t None None true qs vs bs in
    let parts = and_parts (is_completer h t && is_in t (opened h)) (not (is_spent h t)) bs in
    let there = (and_parts (is_completer h t) (is_in t (opened h)) parts.0).1 in
    counted pool.limits h t 0 0 1 0 (record {
      queues = queues_none pool.limits h t (λ o. not_queued h o t qs);
      stacks = stacks_none pool.limits h t (λ w. not_held h w t vs);
      opens = open_count h t ∙ rw at (once_times t (opened h) (opened_once pool h so) ∙ rw there refl);
      gones = gone_once pool h so t ∙ rw (at, known) refl;
    })
once_placed pool h t so known None None false qs vs bs =
    let at = place_is h t None None false qs vs bs in
    counted pool.limits h t 0 0 0 1 (record {
      queues = queues_none pool.limits h t (λ o. not_queued h o t qs);
      stacks = stacks_none pool.limits h t (λ w. not_held h w t vs);
      opens = open_count h t ∙ rw at refl;
      gones = gone_once pool h so t ∙ rw (at, known) refl;
    })

-- a number that was not accepted stands nowhere
none_placed : (pool : Pool) (h : List Event) (t : ℕ) → AllowedFrom pool [] h → is_in t (tasks h) ≡ false → times_in t (all_places pool.limits h) ≡ 0
none_placed pool h t so unknown =
    counted pool.limits h t 0 0 0 0 (record {
      queues = queues_none pool.limits h t (λ o. never (is_in t (queue h o)) (λ there. true≢false (sym (pushed_known h o t (queued_pushed h o t there)) ∙ unknown)));
      stacks = stacks_none pool.limits h t (λ w. never (is_in t (stack h w)) (λ there. true≢false (sym (taken_known pool h so t (stack_taken h w t there)) ∙ unknown)));
      opens = open_count h t ∙ rw (times_in_none t (opened h) (never (is_in t (opened h)) (λ there. true≢false (sym ((opened_out pool h so t there).known) ∙ unknown)))) (either (is_open (place h t)));
      gones = gone_once pool h so t ∙ rw unknown refl;
    })
  where
    either : (b : Bool) → ◌≡◌ {A = ℕ} (cond b 0 0) 0
    either true = refl
    either false = refl

-- each accepted task is in exactly one place
pub one_place : (pool : Pool) (h : List Event) → AllowedFrom pool [] h → IsInOnePlace pool.limits h
one_place pool h so t = go (is_in t (tasks h)) refl
  where
    go : (b : Bool) → is_in t (tasks h) ≡ b → times_in t (all_places pool.limits h) ≡ (if nat_lt t (accepted h) then 1 else 0)
    go true is = once_placed pool h t so is (queued_in h t) (held_by h t) (is_completer h t && is_in t (opened h) && not (is_spent h t)) refl refl refl ∙ rw (sym (is_numbered pool h so t), is) refl
    go false is = none_placed pool h t so is ∙ rw (sym (is_numbered pool h so t), is) refl
