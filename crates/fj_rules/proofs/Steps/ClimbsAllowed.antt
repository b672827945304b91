-- The events of arrivals and of climbs are allowed.
use Rattle.std.proofs.Common.{ℕ, ◌≡◌, ◌++◌, ◌∙◌, ◌+◌, cond, drop, map, ap, sym, arith, subst, Bool, true, false, List, [], ◌∷◌, length, ◌-◌, Option, Some, None, refl, inl, inr}
use Rattle.std.specs.Prelude.{◌==◌, if◌then◌else◌}
use Rattle.std.proofs.lemmas.Bool.{eq-eqb, or_right}
use Rattle.std.proofs.lemmas.List.{append-nil}
use Rattle.fj_rules.specs.declared.event.Event.{Event}
use Rattle.fj_rules.specs.declared.event.Event.TheVariants as event
use Rattle.fj_rules.specs.declared.status.Status.TheVariants as status_is
use Rattle.fj_rules.specs.Bounds.{Pool}
use Rattle.fj_rules.specs.Tasks.{tasks, is_completer, parent}
use Rattle.fj_rules.specs.Lists.{is_in, times_in}
use Rattle.fj_rules.specs.Statuses.{is_undone, status}
use Rattle.fj_rules.specs.Climbs.{Arrival, Spent, Counted, Early, Fires, arrival, path, passed}
use Rattle.fj_rules.specs.Allowed.{AllowedFrom}
use Rattle.fj_rules.specs.Answers.{arriving, settling, passing, pass_end, settle_root, root_of}
use Rattle.fj_rules.proofs.Lists.Members.{get_is_in, times_in_cons, times_in_append, times_in_some, Once}
use Rattle.fj_rules.proofs.Events.KindsKept.{completer_known, completer_same_all, parent_same_all}
use Rattle.fj_rules.proofs.Completers.Parents.{path_completers, path_once, root_free}
use Rattle.fj_rules.proofs.Completers.Ways.{way_split, passed_fires}
use Rattle.fj_rules.proofs.Completers.Arrivals.{arrival_pass, arrival_passes, status_passes, undone_unspent}
use Rattle.fj_rules.proofs.Completers.Firings.{fires_unspent}
use Rattle.fj_rules.proofs.Steps.Standing.{allowed_append}

-- an arrival whose outcome is known
pub arriving_is : (pool : Pool) (h : List Event) (c : ℕ) (a : Arrival) → arrival h c ≡ a → AllowedFrom pool h (arriving c a)
arriving_is pool h c Spent is = tt
arriving_is pool h c Counted is = (is, tt)
arriving_is pool h c Early is = tt
arriving_is pool h c Fires is = (is, tt)

pub arriving_allowed : (pool : Pool) (h : List Event) (c : ℕ) → AllowedFrom pool h (arriving c (arrival h c))
arriving_allowed pool h c = arriving_is pool h c (arrival h c) refl

-- a completer without a parent may become normal
pub settling_free : (pool : Pool) (h : List Event) (c : ℕ) → is_completer h c ≡ true → parent h c ≡ None → AllowedFrom pool h (settling h c status_is.Normal)
settling_free pool h c completer free = go (is_undone (status h c)) refl
  where
    go : (b : Bool) → is_undone (status h c) ≡ b → AllowedFrom pool h (if b then event.Settle c status_is.Normal ∷ [] else [])
    go true undone = ((completer_known h c completer, undone, refl, inr (inl (completer, free))), tt)
    go false undone = tt

-- ---- the climb from the end of a body

passes_allowed : (pool : Pool) (h : List Event) (ds : List ℕ) → Once ds → ((d : ℕ) → is_in d ds ≡ true → arrival h d ≡ Fires) → AllowedFrom pool h (map event.Pass ds)
passes_allowed pool h [] once fires = tt
passes_allowed pool h (d ∷ ds) once fires = (
  fires d (rw (eq-eqb d d refl) refl),
  passes_allowed pool (h ++ event.Pass d ∷ []) ds (λ u. omega (arith, times_in_cons u d ds, once u))
      (λ u there. arrival_pass h u d (apart u there) ∙ fires u (or_right (d == u) (is_in u ds) there)),
)
  where
    apart : (u : ℕ) → is_in u ds ≡ true → d ≡ u → ⊥
    apart u there same = omega (arith, once u, times_in_cons u d ds ∙ ap (λ b. cond b 1 0 + times_in u ds) (eq-eqb d u same), times_in_some u ds there)

passes_accept : (ds : List ℕ) → tasks (map event.Pass ds) ≡ []
unfolding tasks
passes_accept [] = refl
passes_accept (d ∷ ds) = passes_accept ds

-- the first member that is not passed is not among those that are
stop_apart : (ds above : List ℕ) (c : ℕ) → Once (ds ++ c ∷ above) → is_in c ds ≡ false
stop_apart ds above c once = go (is_in c ds) refl
  where
    go : (b : Bool) → is_in c ds ≡ b → b ≡ false
    go true there =
        absurd (omega (arith, once c, times_in_append c ds (c ∷ above), times_in_some c ds there, times_in_cons c c above ∙ ap (λ b. cond b 1 0 + times_in c above) (eq-eqb c c refl)))
    go false there = refl

-- past the root, which was passed
root_passed : (pool : Pool) (h : List Event) (t : ℕ) (root : Option ℕ) → AllowedFrom pool [] h → is_completer h t ≡ true → passed h t ≡ path h t → root_of (path h t) ≡ root
    → AllowedFrom pool (h ++ map event.Pass (passed h t)) (settle_root root)
root_passed pool h t None so completer whole is = tt
root_passed pool h t (Some r) so completer whole is =
    let after = h ++ map event.Pass (passed h t) in
    let there : is_in r (path h t) ≡ true = get_is_in r (path h t) (length (path h t) - 1) is in
    let done : is_completer after r ≡ true = completer_same_all h (map event.Pass (passed h t)) r (passes_accept (passed h t)) ∙ path_completers pool h t r so completer there in
    let free : parent after r ≡ None = parent_same_all h (map event.Pass (passed h t)) r (passes_accept (passed h t)) ∙ root_free pool h t r so is in
    let fires = passed_fires h t r (ap (is_in r) whole ∙ there) in
    let undone : is_undone (status after r) ≡ true = ap is_undone (status_passes h (passed h t) r) ∙ undone_unspent h r (fires_unspent h r fires) in
    ((completer_known after r done, undone, refl, inr (inl (done, free))), tt)

pub passing_allowed : (pool : Pool) (h : List Event) (t : ℕ) → AllowedFrom pool [] h → is_completer h t ≡ true → AllowedFrom pool h (passing h t)
passing_allowed pool h t so completer = go (drop (length (passed h t)) (path h t)) refl
  where
    split : (rest : List ℕ) → drop (length (passed h t)) (path h t) ≡ rest → passed h t ++ rest ≡ path h t
    split rest is = ap (λ us. passed h t ++ us) (sym is) ∙ way_split h t

    once : (rest : List ℕ) → drop (length (passed h t)) (path h t) ≡ rest → Once (passed h t ++ rest)
    once rest is = subst Once (sym (split rest is)) (path_once pool h t so)

    low : (rest : List ℕ) → drop (length (passed h t)) (path h t) ≡ rest → AllowedFrom pool h (map event.Pass (passed h t))
    low rest is =
        passes_allowed pool h (passed h t) (λ u. omega (arith, once rest is u, times_in_append u (passed h t) rest)) (λ d there. passed_fires h t d there)

    go : (rest : List ℕ) → drop (length (passed h t)) (path h t) ≡ rest → AllowedFrom pool h (map event.Pass (passed h t) ++ pass_end h rest (root_of (path h t)))
    go (c ∷ above) is =
        allowed_append pool h (map event.Pass (passed h t)) (arriving c (arrival h c)) (low (c ∷ above) is)
        (arriving_is pool (h ++ map event.Pass (passed h t)) c (arrival h c) (arrival_passes h (passed h t) c (stop_apart (passed h t) above c (once (c ∷ above) is))))
    go [] is =
        allowed_append pool h (map event.Pass (passed h t)) (settle_root (root_of (path h t))) (low [] is)
        (root_passed pool h t (root_of (path h t)) so completer (sym (append-nil (passed h t)) ∙ split [] is) refl)
