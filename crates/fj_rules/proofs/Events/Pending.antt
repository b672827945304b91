-- Pending counts after one more event.
use Rattle.std.proofs.Common.{ℕ, ◌≡◌, ◌+◌, ◌-◌, ◌≤◌, true, List, [], ◌∷◌, ◌++◌, length, Option, Some, None, refl, ap, ◌∙◌, arith, subst, ⊎_elim, length-append}
use Rattle.std.specs.Prelude.{◌==◌, nat_lt}
use Rattle.std.specs.List.{filter_map, cons_option, sum}
use Rattle.std.proofs.lemmas.List.Sums.{sum_by-append}
use Rattle.std.proofs.lemmas.Bool.{eq-eqb, ne_eqb, ltb-true, cases_eq}
use Rattle.fj_rules.specs.declared.event.Event.{Event}
use Rattle.fj_rules.specs.declared.event.Event.TheVariants.{Add, Dec}
use Rattle.fj_rules.specs.Bounds.{Pool}
use Rattle.fj_rules.specs.Lists.{number_if}
use Rattle.fj_rules.specs.Tasks.{accepted_by, kind, count_in}
use Rattle.fj_rules.specs.Completers.{pending, added_by, counted_by}
use Rattle.fj_rules.specs.Allowed.{Allowed, AllowedFrom}
use Rattle.fj_rules.proofs.Events.Growth.{filter_map_more}
use Rattle.fj_rules.proofs.Events.Lawful.{by_events, is_new}
use Rattle.fj_rules.proofs.Completers.Unknown.{unknown_kind, counted_pending}
use Rattle.fj_rules.proofs.Events.KindsKept.{kind_still}

-- what the kind gives and what was added, and how often an arrival was counted
given_to : List Event → ℕ → ℕ
given_to h c = count_in (kind h c) + sum (filter_map (added_by c) h)

counted_at : List Event → ℕ → ℕ
counted_at h c = length (filter_map (counted_by c) h)

pending_is : (h : List Event) (c : ℕ) → pending h c ≡ given_to h c - counted_at h c
unfolding pending given_to counted_at
pending_is h c = refl

counted_more : (h : List Event) (e : Event) (c : ℕ) → counted_at (h ++ e ∷ []) c ≡ counted_at h c + length (cons_option (counted_by c e) [])
unfolding counted_at
counted_more h e c = rw filter_map_more (length-append (filter_map (counted_by c) h) (cons_option (counted_by c e) []))

added_more : (h : List Event) (e : Event) (c : ℕ) → sum (filter_map (added_by c) (h ++ e ∷ [])) ≡ sum (filter_map (added_by c) h) + sum (cons_option (added_by c e) [])
added_more h e c = rw filter_map_more (sum_by-append (λ n. n) (filter_map (added_by c) h) (cons_option (added_by c e) []))

given_more : (h : List Event) (e : Event) (c : ℕ) → (accepted_by e ≡ Some c → ⊥) → given_to (h ++ e ∷ []) c ≡ given_to h c + sum (cons_option (added_by c e) [])
unfolding given_to
given_more h e c other = omega (arith, ap count_in (kind_still h e c other), added_more h e c)

-- a counted arrival lowers it by one
pub pending_counted : (h : List Event) (c : ℕ) → pending (h ++ Dec c ∷ []) c ≡ pending h c - 1
pending_counted h c =
    let given : given_to (h ++ Dec c ∷ []) c ≡ given_to h c = given_more h (Dec c) c (λ new. absurd cc) ∙ omega arith in
    let counted : counted_at (h ++ Dec c ∷ []) c ≡ counted_at h c + 1 = counted_more h (Dec c) c ∙ rw (eq-eqb c c refl) refl in
    omega (arith, pending_is h c, pending_is (h ++ Dec c ∷ []) c, given, counted)

-- ---- no more arrivals are counted than were given

abbrev IsCovered : List Event → Type 0
IsCovered h = (c : ℕ) → counted_at h c ≤ given_to h c

given_new : (pool : Pool) (h : List Event) (e : Event) (c : ℕ) → AllowedFrom pool [] h → Allowed pool h e → accepted_by e ≡ Some c → given_to h c ≤ given_to (h ++ e ∷ []) c
unfolding given_to
given_new pool h e c so may new = omega (arith, ap count_in (unknown_kind h c (is_new pool h e c so may new)), added_more h e c)

given_grows : (pool : Pool) (h : List Event) (e : Event) (c : ℕ) → AllowedFrom pool [] h → Allowed pool h e → given_to h c ≤ given_to (h ++ e ∷ []) c
given_grows pool h e c so may = go (accepted_by e) refl
  where
    go : (said : Option ℕ) → accepted_by e ≡ said → given_to h c ≤ given_to (h ++ e ∷ []) c
    go None said = omega (arith, given_more h e c (λ new. absurd cc))
    go (Some u) said =
        ⊎_elim (λ same. given_new pool h e c so may (said ∙ ap Some same)) (λ other. omega (arith, given_more h e c (λ new. other cc))) (cases_eq u c)

counted_within : (pool : Pool) (h : List Event) (e : Event) (c : ℕ) → Allowed pool h e → counted_at h c ≤ given_to h c → counted_at h c + length (cons_option (counted_by c e) []) ≤ given_to h c
counted_within pool h (Dec d) c may covered = ⊎_elim here other (cases_eq d c)
  where
    here : d ≡ c → counted_at h c + length (cons_option (number_if (d == c) d) []) ≤ given_to h c
    here same =
        let some = ltb-true 0 (pending h c) (subst (λ u. nat_lt 0 (pending h u) ≡ true) same (counted_pending h d may)) in
        rw (eq-eqb d c same) (omega (arith, some, pending_is h c))

    other : (d ≡ c → ⊥) → counted_at h c + length (cons_option (number_if (d == c) d) []) ≤ given_to h c
    other apart = rw (ne_eqb d c apart) (omega (arith, covered))
counted_within pool h _ c may covered = omega (arith, covered)

covered_more : (pool : Pool) (h : List Event) (e : Event) → AllowedFrom pool [] h → IsCovered h → Allowed pool h e → IsCovered (h ++ e ∷ [])
covered_more pool h e so covered may c = omega (arith, counted_more h e c, counted_within pool h e c may (covered c), given_grows pool h e c so may)

covered_none : IsCovered []
unfolding counted_at
covered_none c = omega arith

covered : (pool : Pool) (h : List Event) → AllowedFrom pool [] h → IsCovered h
covered pool = by_events pool IsCovered covered_none (covered_more pool)

-- what is added comes to it
pub pending_added : (pool : Pool) (h : List Event) (c n : ℕ) → AllowedFrom pool [] h → pending (h ++ Add c n ∷ []) c ≡ pending h c + n
pending_added pool h c n so =
    let given : given_to (h ++ Add c n ∷ []) c ≡ given_to h c + n = given_more h (Add c n) c (λ new. absurd cc) ∙ rw (eq-eqb c c refl) (omega arith) in
    let counted : counted_at (h ++ Add c n ∷ []) c ≡ counted_at h c = counted_more h (Add c n) c ∙ omega arith in
    omega (arith, pending_is h c, pending_is (h ++ Add c n ∷ []) c, given, counted, covered pool h so c)
