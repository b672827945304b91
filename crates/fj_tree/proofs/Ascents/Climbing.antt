-- A climb without hooks, step by step.
use Rattle.std.specs.Prelude.{IsTrue, option_and_then}
use Rattle.std.specs.List.{take_while}
use Rattle.std.proofs.Common.{arith, zero, suc, Bool, true, Option, Some, None, List, [], ◌∷◌, ◌++◌, length, drop, append_assoc, append-nil, nat_eq, ℕ, ◌≡◌, ◌+◌, ◌<◌, ◌≤◌, ap, sym, ◌∙◌, refl, subst, length-append, false, true≢false, ◌||◌}
use Rattle.std.proofs.lemmas.Bool.{eqb-true}
use Rattle.std.proofs.lemmas.List.{length-map}
use Rattle.std.proofs.lemmas.List.Sums.{take_while-cons}
use Rattle.fj_rules.specs.Lists.{is_in}
use Rattle.fj_rules.proofs.Lists.Members.{is_in_append}
use Rattle.fj_tree.specs.declared.arrive.Arrived.{Arrived}
use Rattle.fj_tree.specs.declared.arrive.Arrived.TheVariants.{Counted, Fire, Spent, Early}
use Rattle.fj_tree.specs.declared.pass.PassHow.{PassHow}
use Rattle.fj_tree.specs.declared.pass.PassHow.TheVariants.{Root}
use Rattle.fj_tree.specs.Handles.{Handle, numbers_of}
use Rattle.fj_tree.specs.Passes.{arrival_of, does_fire, end_by, with_ended_body, is_passed, passed, not_passed, stop_at, EndsBefore, EndsAs}
use Rattle.fj_tree.specs.Paths.{above, and_on, path_up, path}
use Rattle.fj_tree.specs.Records.{Records}
use Rattle.fj_tree.proofs.Ascents.Paths.{IsBelowRoot, below_at_start, below_above, root_at_end}

-- the part of a way that is not passed
abbrev pub rest_of : (Handle → Bool) → List Handle → List Handle
rest_of p way = drop (length (take_while p way)) way

-- a first that is passed is passed before those that follow, and the rest is that of what follows
passes_first : (p : Handle → Bool) (at : Handle) (way : List Handle) → p at ≡ true → take_while p (at ∷ way) ≡ at ∷ take_while p way
passes_first p at way is = rw (take_while-cons p at way, is) refl

skips_first : (p : Handle → Bool) (at : Handle) (way : List Handle) → p at ≡ true → rest_of p (at ∷ way) ≡ rest_of p way
skips_first p at way is = rw (take_while-cons p at way, is) refl

-- a first that is not passed ends it
passes_none : (p : Handle → Bool) (at : Handle) (way : List Handle) → p at ≡ false → take_while p (at ∷ way) ≡ []
passes_none p at way is = rw (take_while-cons p at way, is) refl

rests_there : (p : Handle → Bool) (at : Handle) (way : List Handle) → p at ≡ false → rest_of p (at ∷ way) ≡ at ∷ way
rests_there p at way is = rw (take_while-cons p at way, is) refl

-- a climb from h has come to this one and passed these: with what is passed and left from here on they are all that is passed and left
pub record IsClimbing (t : Records) (h at : Handle) (done : List ℕ) : Type 0 where
  pub left : ℕ
  pub within : at.serial < left
  pub splits : done ++ numbers_of (take_while (is_passed t h) (path_up left t at)) ≡ numbers_of (passed t h)
  pub ahead : rest_of (is_passed t h) (path_up left t at) ≡ not_passed t h
  pub below : IsBelowRoot t h at
  pub beyond : (n : ℕ) → is_in n done ≡ true → at.serial < n
  pub falls : length done + at.serial ≤ h.serial

pub climb_begins : (t : Records) (h : Handle) → IsClimbing t h h []
unfolding passed not_passed path
climb_begins t h = record {
  left = suc h.serial;
  within = omega arith;
  splits = refl;
  ahead = refl;
  below = below_at_start t h;
  beyond = λ n is. absurd (cc);
  falls = omega arith;
}

-- all of these numbers, and this one more, are above that of the next on the way
pub beyond_more : (at up : Handle) (done : List ℕ) → ((n : ℕ) → is_in n done ≡ true → at.serial < n) → up.serial < at.serial → (n : ℕ) → is_in n (done ++ at.serial ∷ []) ≡ true → up.serial < n
beyond_more at up done beyond smaller n among = go (is_in n done) refl
  where
    here : (b : Bool) → nat_eq at.serial n ≡ b → (is_in n done || (nat_eq at.serial n || false)) ≡ true → is_in n done ≡ false → at.serial ≡ n
    here true e among fails = eqb-true at.serial n e
    here false e among fails = absurd (true≢false (sym (rw (fails, e) at among)))

    go : (b : Bool) → is_in n done ≡ b → up.serial < n
    go true before = omega (arith, beyond n before, smaller)
    go false before = omega (arith, here (nat_eq at.serial n) refl (sym (is_in_append n done (at.serial ∷ [])) ∙ among) before, smaller)

-- the climb passes one that has a parent
pub climb_goes_on : (t : Records) (h at up : Handle) (done : List ℕ) → IsClimbing t h at done → IsTrue (is_passed t h at) → above t at ≡ Some up → up.serial < at.serial
    → IsClimbing t h up (done ++ at.serial ∷ [])
unfolding path_up
climb_goes_on t h at up done climbs passes is smaller = go climbs.left climbs.within climbs.splits climbs.ahead
  where
    p : Handle → Bool
    p = is_passed t h

    go : (left : ℕ) → at.serial < left → done ++ numbers_of (take_while p (path_up left t at)) ≡ numbers_of (passed t h) → rest_of p (path_up left t at) ≡ not_passed t h
        → IsClimbing t h up (done ++ at.serial ∷ [])
    go zero within splits ahead = absurd (omega arith)
    go (suc left) within splits ahead =
        let way : path_up (suc left) t at ≡ at ∷ path_up left t up = ap (λ (o : Option Handle). at ∷ and_on (path_up left t) o) is in
        let fits : p at ≡ true = passes in
        record {
          left = left;
          within = omega (arith, within, smaller);
          splits = append_assoc done (at.serial ∷ []) (numbers_of (take_while p (path_up left t up)))
              ∙ sym (ap (λ (w : List Handle). done ++ numbers_of w) (ap (take_while p) way ∙ passes_first p at (path_up left t up) fits)) ∙ splits;
          ahead = sym (skips_first p at (path_up left t up) fits) ∙ sym (ap (rest_of p) way) ∙ ahead;
          below = below_above t h at up climbs.below is smaller;
          beyond = beyond_more at up done climbs.beyond smaller;
          falls = omega (arith, length-append done (at.serial ∷ []), climbs.falls, smaller);
        }

-- where something stops the climb here, this one is not passed
not_passed_at_stop : (t : Records) (h at : Handle) (how : PassHow) → stop_at t h at ≡ Some how → is_passed t h at ≡ false
not_passed_at_stop t h at how stops = go (arrival_of (with_ended_body t h) at) refl stops
  where
    go : (o : Option Arrived) → arrival_of (with_ended_body t h) at ≡ o → option_and_then end_by o ≡ Some how → does_fire (arrival_of (with_ended_body t h) at) ≡ false
    go None is stop = rw is refl
    go (Some Counted) is stop = rw is refl
    go (Some Spent) is stop = rw is refl
    go (Some Early) is stop = rw is refl
    go (Some Fire) is stop = absurd (cc)

-- it ends here: these were passed, and this one is the first that is not
pub ends_at_stop : (t : Records) (h at : Handle) (done : List ℕ) (count : ℕ) (how : PassHow) → IsClimbing t h at done → stop_at t h at ≡ Some how
    → (done ≡ numbers_of (passed t h)) × EndsAs t h (record { passed = count; at = at; how = how })
unfolding path_up
ends_at_stop t h at done count how climbs stops = go climbs.left climbs.within climbs.splits climbs.ahead
  where
    p : Handle → Bool
    p = is_passed t h

    go : (left : ℕ) → at.serial < left → done ++ numbers_of (take_while p (path_up left t at)) ≡ numbers_of (passed t h) → rest_of p (path_up left t at) ≡ not_passed t h
        → (done ≡ numbers_of (passed t h)) × EndsAs t h (record { passed = count; at = at; how = how })
    go zero within splits ahead = absurd (omega arith)
    go (suc left) within splits ahead =
        let later : List Handle = and_on (path_up left t) (above t at) in
        let misses = not_passed_at_stop t h at how stops in (
          sym (append-nil done) ∙ sym (ap (λ (w : List Handle). done ++ numbers_of w) (passes_none p at later misses)) ∙ splits,
          subst (λ (way : List Handle). EndsBefore t h way (record { passed = count; at = at; how = how })) (sym (rests_there p at later misses) ∙ ahead) (stops, refl),
        )

-- it ends past the root: this one was passed too, and nothing is left
pub ends_past_root : (t : Records) (h at : Handle) (done : List ℕ) (count : ℕ) → IsClimbing t h at done → IsTrue (is_passed t h at) → above t at ≡ None
    → (done ++ at.serial ∷ [] ≡ numbers_of (passed t h)) × EndsAs t h (record { passed = count; at = at; how = Root })
unfolding path_up
ends_past_root t h at done count climbs passes is = go climbs.left climbs.within climbs.splits climbs.ahead
  where
    p : Handle → Bool
    p = is_passed t h

    go : (left : ℕ) → at.serial < left → done ++ numbers_of (take_while p (path_up left t at)) ≡ numbers_of (passed t h) → rest_of p (path_up left t at) ≡ not_passed t h
        → (done ++ at.serial ∷ [] ≡ numbers_of (passed t h)) × EndsAs t h (record { passed = count; at = at; how = Root })
    go zero within splits ahead = absurd (omega arith)
    go (suc left) within splits ahead =
        let way : path_up (suc left) t at ≡ at ∷ [] = ap (λ (o : Option Handle). at ∷ and_on (path_up left t) o) is in
        let fits : p at ≡ true = passes in (
          sym (ap (λ (w : List Handle). done ++ numbers_of w) (ap (take_while p) way ∙ passes_first p at [] fits)) ∙ splits,
          subst (λ (way : List Handle). EndsBefore t h way (record { passed = count; at = at; how = Root })) (sym (skips_first p at [] fits) ∙ sym (ap (rest_of p) way) ∙ ahead) (refl, root_at_end t h at climbs.below is),
        )

-- so many are passed as were counted
pub counted_all : (t : Records) (h : Handle) (done : List ℕ) → done ≡ numbers_of (passed t h) → length done ≡ length (passed t h)
counted_all t h done all = ap length all ∙ length-map (passed t h) (λ (x : Handle). x.serial)

-- a climb has come to this one and passed so many
pub record HasPassed (t : Records) (h at : Handle) (count : ℕ) : Type 0 where
  pub done : List ℕ
  pub climbs : IsClimbing t h at done
  pub counted : length done ≡ count
