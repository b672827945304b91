-- What an arrival does is changed by few events.
use Rattle.std.proofs.Common.{◌&&◌, ℕ, ◌≡◌, ◌≢◌, Bool, true, false, not, ◌||◌, List, [], ◌∷◌, ◌++◌, map, None, refl, ap, ◌∙◌, append_assoc}
use Rattle.std.specs.Prelude.{◌==◌}
use Rattle.std.specs.List.{filter_map, cons_option, list_any, find}
use Rattle.std.proofs.lemmas.List.{append-nil}
use Rattle.std.proofs.lemmas.List.Folds.{list_any-append}
use Rattle.std.proofs.lemmas.Bool.{eqb-false, ne_eqb, not-false, or_parts}
use Rattle.fj_rules.specs.declared.event.Event.{Event}
use Rattle.fj_rules.specs.declared.event.Event.TheVariants as event
use Rattle.fj_rules.specs.declared.event.Event.TheVariants.{Acc, Out}
use Rattle.fj_rules.specs.declared.owner.Owner.{Owner}
use Rattle.fj_rules.specs.Lists.{is_in, number_if}
use Rattle.fj_rules.specs.Tasks.{accepted_by}
use Rattle.fj_rules.specs.Queues.{queue, pushed_by, taken_by}
use Rattle.fj_rules.specs.Stacks.{stack}
use Rattle.fj_rules.specs.Statuses.{status, status_by, is_undone}
use Rattle.fj_rules.specs.Completers.{pending, is_spent, added_by, counted_by, fires_or_passes}
use Rattle.fj_rules.specs.Places.{queued_in, held_by, owner_by, worker_by}
use Rattle.fj_rules.specs.Climbs.{arrival}
use Rattle.fj_rules.proofs.Events.Growth.{filter_map_more, stack_more, stack_same, or_false}
use Rattle.fj_rules.proofs.Lists.Members.{is_in_filter}
use Rattle.fj_rules.proofs.Events.Queues.{queue_same}
use Rattle.fj_rules.proofs.Events.Statuses.{status_same}
use Rattle.fj_rules.proofs.Events.KindsKept.{kind_same}
use Rattle.fj_rules.proofs.Places.PlaceLaws.{moves, none_accepted, none_pushed, none_taken, none_ended, none_out}

none_owner : (t : ℕ) (e : Event) → moves e ≡ false → owner_by t e ≡ None
none_owner t (Acc u o k) unmoved = absurd cc
none_owner t _ unmoved = refl

none_worker : (t : ℕ) (e : Event) → moves e ≡ false → worker_by t e ≡ None
none_worker t (Out u w) unmoved = absurd cc
none_worker t _ unmoved = refl

find_agree : {A : Type 0} (p q : A → Bool) (xs : List A) → ((x : A) → p x ≡ q x) → find p xs ≡ find q xs
find_agree p q [] agree = refl
find_agree p q (x ∷ xs) agree = rw (agree x, find_agree p q xs agree) refl

pub queued_same : (h : List Event) (e : Event) (t : ℕ) → ((o : Owner) → pushed_by o e ≡ None) → taken_by e ≡ None → owner_by t e ≡ None → queued_in (h ++ e ∷ []) t ≡ queued_in h t
unfolding queued_in
queued_same h e t pushes takes owner =
    find_agree (λ o. is_in t (queue (h ++ e ∷ []) o)) (λ o. is_in t (queue h o)) (filter_map (owner_by t) (h ++ e ∷ [])) (λ o. ap (is_in t) (queue_same h e o (pushes o) takes))
    ∙ ap (find (λ o. is_in t (queue h o))) (filter_map_more (owner_by t) h e ∙ rw owner (append-nil (filter_map (owner_by t) h)))

pub unmoved_queued : (h : List Event) (e : Event) (t : ℕ) → moves e ≡ false → queued_in (h ++ e ∷ []) t ≡ queued_in h t
unmoved_queued h e t unmoved = queued_same h e t (λ o. none_pushed o e unmoved) (none_taken e unmoved) (none_owner t e unmoved)

pub unmoved_held : (h : List Event) (e : Event) (t : ℕ) → moves e ≡ false → held_by (h ++ e ∷ []) t ≡ held_by h t
unfolding held_by
unmoved_held h e t unmoved =
    find_agree (λ w. is_in t (stack (h ++ e ∷ []) w)) (λ w. is_in t (stack h w)) (filter_map (worker_by t) (h ++ e ∷ []))
    (λ w. ap (is_in t) (stack_same h w e (none_ended w e unmoved) (none_out w e unmoved)))
    ∙ ap (find (λ w. is_in t (stack h w))) (filter_map_more (worker_by t) h e ∙ rw (none_worker t e unmoved) (append-nil (filter_map (worker_by t) h)))

-- ---- pending counts and spent completers

pub pending_same : (h : List Event) (e : Event) (c : ℕ) → accepted_by e ≡ None → added_by c e ≡ None → counted_by c e ≡ None → pending (h ++ e ∷ []) c ≡ pending h c
unfolding pending
pending_same h e c none adds counts =
    rw (kind_same h e c none, filter_map_more (added_by c) h e, adds, append-nil, filter_map_more (counted_by c) h e, counts, append-nil) refl

any_more : (p : Event → Bool) (h : List Event) (e : Event) → list_any p (h ++ e ∷ []) ≡ (list_any p h || p e)
any_more p h e = list_any-append p h (e ∷ []) ∙ ap (λ b. list_any p h || b) (or_false (p e))

pub spent_same : (h : List Event) (e : Event) (c : ℕ) → fires_or_passes c e ≡ false → ((b : Bool) → status_by c b e ≡ None) → is_spent (h ++ e ∷ []) c ≡ is_spent h c
unfolding is_spent
spent_same h e c fires settles =
    rw (any_more (fires_or_passes c) h e, fires, or_false, status_same h e c settles) refl

pub undone_unspent : (h : List Event) (c : ℕ) → is_spent h c ≡ false → is_undone (status h c) ≡ true
unfolding is_spent
undone_unspent h c unspent = not-false (is_undone (status h c)) (or_parts (list_any (fires_or_passes c) h) (not (is_undone (status h c))) unspent).1

-- an event that moves nothing, and is not about the completer, leaves what an arrival there does
pub arrival_same : (h : List Event) (e : Event) (c : ℕ) → moves e ≡ false → fires_or_passes c e ≡ false → ((b : Bool) → status_by c b e ≡ None) → added_by c e ≡ None → counted_by c e ≡ None
    → arrival (h ++ e ∷ []) c ≡ arrival h c
unfolding arrival
arrival_same h e c unmoved fires settles adds counts =
    rw (spent_same h e c fires settles, pending_same h e c (none_accepted e unmoved) adds counts, unmoved_queued h e c unmoved, unmoved_held h e c unmoved) refl

-- ---- events about others

-- whether the event is about the completer's count, about its firing or its status
abbrev pub touches : ℕ → Event → Bool
touches c (event.Add d n) = d == c
touches c (event.Dec d) = d == c
touches c (event.Fire d how) = d == c
touches c (event.Pass d) = d == c
touches c (event.Settle d s) = d == c
touches c event.Stop = true
touches c _ = false

untouched_fires : (c : ℕ) (e : Event) → touches c e ≡ false → fires_or_passes c e ≡ false
untouched_fires c (event.Fire d how) other = other
untouched_fires c (event.Pass d) other = other
untouched_fires c _ other = refl

untouched_settles : (c : ℕ) (e : Event) (b : Bool) → touches c e ≡ false → status_by c b e ≡ None
untouched_settles c (event.Settle d s) b other = rw other refl
untouched_settles c event.Stop b other = absurd cc
untouched_settles c _ b other = refl

untouched_adds : (c : ℕ) (e : Event) → touches c e ≡ false → added_by c e ≡ None
untouched_adds c (event.Add d n) other = rw other refl
untouched_adds c _ other = refl

untouched_counts : (c : ℕ) (e : Event) → touches c e ≡ false → counted_by c e ≡ None
untouched_counts c (event.Dec d) other = rw other refl
untouched_counts c _ other = refl

pub pending_untouched : (h : List Event) (e : Event) (c : ℕ) → accepted_by e ≡ None → touches c e ≡ false → pending (h ++ e ∷ []) c ≡ pending h c
pending_untouched h e c none other = pending_same h e c none (untouched_adds c e other) (untouched_counts c e other)

pub spent_untouched : (h : List Event) (e : Event) (c : ℕ) → touches c e ≡ false → is_spent (h ++ e ∷ []) c ≡ is_spent h c
spent_untouched h e c other = spent_same h e c (untouched_fires c e other) (λ b. untouched_settles c e b other)

pub arrival_untouched : (h : List Event) (e : Event) (c : ℕ) → moves e ≡ false → touches c e ≡ false → arrival (h ++ e ∷ []) c ≡ arrival h c
arrival_untouched h e c unmoved other =
    arrival_same h e c unmoved (untouched_fires c e other) (λ b. untouched_settles c e b other) (untouched_adds c e other) (untouched_counts c e other)

-- ---- the end of another body

held_end : (h : List Event) (t w u : ℕ) → t ≢ u → held_by (h ++ event.End t w ∷ []) u ≡ held_by h u
unfolding held_by
held_end h t w u other =
    find_agree (λ v. is_in u (stack (h ++ event.End t w ∷ []) v)) (λ v. is_in u (stack h v)) (filter_map (worker_by u) (h ++ event.End t w ∷ [])) same
    ∙ ap (find (λ v. is_in u (stack h v))) (filter_map_more (worker_by u) h (event.End t w) ∙ append-nil (filter_map (worker_by u) h))
  where
    and_true : (b : Bool) → (b && true) ≡ b
    and_true true = refl
    and_true false = refl

    gone : (b : Bool) → is_in u (cons_option (number_if b t) []) ≡ false
    gone true = rw (ne_eqb t u other) refl
    gone false = refl

    same : (v : ℕ) → is_in u (stack (h ++ event.End t w ∷ []) v) ≡ is_in u (stack h v)
    same v =
        rw (stack_more h v (event.End t w), append-nil)
        (is_in_filter (λ x. not (is_in x (cons_option (number_if (v == w) t) []))) u (stack h v) ∙ rw (gone (v == w)) (and_true (is_in u (stack h v))))

-- the end of a body leaves what an arrival at another task does
pub arrival_end : (h : List Event) (t w u : ℕ) → t ≢ u → arrival (h ++ event.End t w ∷ []) u ≡ arrival h u
unfolding arrival
arrival_end h t w u other =
    let queues : queued_in (h ++ event.End t w ∷ []) u ≡ queued_in h u = queued_same h (event.End t w) u (λ o. refl) refl refl in
    rw (spent_untouched h (event.End t w) u refl, pending_untouched h (event.End t w) u refl refl, queues, held_end h t w u other) refl

-- ---- after passes

pub arrival_pass : (h : List Event) (c d : ℕ) → d ≢ c → arrival (h ++ event.Pass d ∷ []) c ≡ arrival h c
arrival_pass h c d other = arrival_untouched h (event.Pass d) c refl (ne_eqb d c other)

-- what is not passed sees no change
pub arrival_passes : (h : List Event) (ds : List ℕ) (c : ℕ) → is_in c ds ≡ false → arrival (h ++ map event.Pass ds) c ≡ arrival h c
arrival_passes h [] c absent = rw append-nil refl
arrival_passes h (d ∷ ds) c absent =
    let parts = or_parts (d == c) (is_in c ds) absent in
    rw append_assoc at (arrival_passes (h ++ event.Pass d ∷ []) ds c parts.1 ∙ arrival_pass h c d (eqb-false d c parts.0))

pub status_passes : (h : List Event) (ds : List ℕ) (t : ℕ) → status (h ++ map event.Pass ds) t ≡ status h t
status_passes h [] t = rw append-nil refl
status_passes h (d ∷ ds) t = rw append_assoc at (status_passes (h ++ event.Pass d ∷ []) ds t ∙ status_same h (event.Pass d) t (λ b. refl))
