-- A climb without hooks that writes what it passes.
use Rattle.std.specs.Prelude.{option_map, option_and_then, IsTrue}
use Rattle.std.proofs.Common.{arith, nat_eq, Bool, true, false, eq-eqb, Option, Some, None, ℕ, ◌≡◌, ◌≢◌, ◌+◌, ◌<◌, List, [], ◌∷◌, ◌++◌, length, length-append, ap, sym, ◌∙◌, refl, inl, inr}
use Rattle.std.proofs.lemmas.Bool.{cases_eq, eqb-true}
use Rattle.fj_rules.specs.declared.place.Place.TheVariants.{Open}
use Rattle.fj_rules.specs.Lists.{is_in}
use Rattle.fj_tree.specs.declared.pass.PassHow.{PassHow}
use Rattle.fj_tree.specs.declared.pass.PassHow.TheVariants as how
use Rattle.fj_tree.specs.declared.record.Record.{Record}
use Rattle.fj_tree.specs.declared.arrive.Arrived.TheVariants.{Counted}
use Rattle.fj_tree.specs.Arrivals.{arrival_at, arrived}
use Rattle.fj_tree.specs.Handles.{Handle, numbers_of}
use Rattle.fj_tree.specs.Passes.{PassEnd, after_climb, does_count, does_fire, end_by, EndsAs, is_passed, passed, stop_at, with_ended_body}
use Rattle.fj_tree.specs.Paths.{above}
use Rattle.fj_tree.specs.Records.{Records, IsSound, IsGood, record_at, if_numbered, changed, made_spent, with_place}
use Rattle.fj_tree.proofs.Records.Children.{changed_here, changed_other}
use Rattle.fj_tree.proofs.Ascents.Climbing.{IsClimbing, climb_begins, climb_goes_on, ends_at_stop, ends_past_root}
use Rattle.fj_tree.proofs.Index.Names.{above_kept, good_kept, keeps_back, KeepsNames}
use Rattle.fj_tree.proofs.Records.Written.{IsWritten, IsThere, among, apart, untouched, written_at_start, written_keeps, writes}

-- a climb has come to this one, and each that it passed is spent
pub record IsPassing (t now : Records) (h at : Handle) (so_many : ℕ) : Type 0 where
  pub done : List ℕ
  pub climbs : IsClimbing t h at done
  pub counted : length done ≡ so_many
  pub written : IsWritten made_spent t now done

pub passing_begins : (t : Records) (h : Handle) → IsPassing t t h h 0
passing_begins t h = record { done = []; climbs = climb_begins t h; counted = refl; written = written_at_start made_spent t }

-- numbers and kinds stay
passing_keeps : (t now : Records) (h at : Handle) (so_many : ℕ) → IsPassing t now h at so_many → KeepsNames t now
passing_keeps t now h at so_many passing = written_keeps made_spent t now passing.done (record { name = λ r. refl }) passing.written

-- the one that the climb has come to is as it was
as_it_was : (t now : Records) (h at : Handle) (so_many : ℕ) → IsPassing t now h at so_many → IsGood t at → (r : Record) × IsThere t now at r
as_it_was t now h at so_many passing good = untouched made_spent t now passing.done at passing.written passing.climbs.beyond good

-- what stops a climb there is the same where the record is
ended_kept : (t now : Records) (h at : Handle) (r : Record) → IsThere t now at r → record_at (with_ended_body now h) at.key ≡ record_at (with_ended_body t h) at.key
ended_kept t now h at r there = elim (cases_eq at.key h.key) [
  | inl same ↦
      let before : record_at t h.key ≡ Some r = ap (record_at t) (sym same) ∙ there.was in
      let after : record_at now h.key ≡ Some r = ap (record_at now) (sym same) ∙ there.is in
      ap (record_at (with_ended_body now h)) same ∙ changed_here now h.key r (with_place Open) after
      ∙ sym (ap (record_at (with_ended_body t h)) same ∙ changed_here t h.key r (with_place Open) before)
  | inr differs ↦ changed_other now h.key at.key (with_place Open) differs ∙ there.is ∙ sym (changed_other t h.key at.key (with_place Open) differs ∙ there.was)
]

stop_kept : (t now : Records) (h at : Handle) (so_many : ℕ) → IsPassing t now h at so_many → IsGood t at → stop_at now h at ≡ stop_at t h at
stop_kept t now h at so_many passing good =
    let there = as_it_was t now h at so_many passing good in
    ap (λ (o : Option Record). option_and_then end_by (option_map arrival_at (option_and_then (if_numbered at.serial) o))) (ended_kept t now h at there.0 there.1)

passes_kept : (t now : Records) (h at : Handle) (so_many : ℕ) → IsPassing t now h at so_many → IsGood t at → is_passed now h at ≡ is_passed t h at
passes_kept t now h at so_many passing good =
    let there = as_it_was t now h at so_many passing good in
    ap (λ (o : Option Record). does_fire (option_map arrival_at (option_and_then (if_numbered at.serial) o))) (ended_kept t now h at there.0 there.1)

-- the one that the climb has come to is made spent
pub spends : (t now : Records) (h at : Handle) (so_many : ℕ) → IsSound t → (passing : IsPassing t now h at so_many) → IsGood t at → IsWritten made_spent t (changed now at.key made_spent) (passing.done ++ at.serial ∷ [])
spends t now h at so_many sound passing good =
    let there = as_it_was t now h at so_many passing good in
    writes made_spent t now passing.done at there.0 sound passing.written there.1

-- the climb passes one that has a parent
pub passing_goes_on : (t now : Records) (h at up : Handle) (so_many : ℕ) → IsSound t → IsPassing t now h at so_many → IsGood t at → IsTrue (is_passed now h at)
    → above now at ≡ Some up → up.serial < at.serial → IsPassing t (changed now at.key made_spent) h up (so_many + 1)
passing_goes_on t now h at up so_many sound passing good passes is smaller = record {
  done = passing.done ++ at.serial ∷ [];
  climbs = climb_goes_on t h at up passing.done passing.climbs (sym (passes_kept t now h at so_many passing good) ∙ passes)
      (sym (above_kept t now at sound (passing_keeps t now h at so_many passing)) ∙ is) smaller;
  counted = omega (arith, passing.counted, length-append passing.done (at.serial ∷ []));
  written = spends t now h at so_many sound passing good;
}

-- the handles that were good are good
pub passing_good : (t now : Records) (h at x : Handle) (so_many : ℕ) → IsPassing t now h at so_many → IsGood t x → IsGood now x
passing_good t now h at x so_many passing good = good_kept t now x (passing_keeps t now h at so_many passing) good

pub passing_was_good : (t now : Records) (h at x : Handle) (so_many : ℕ) → IsPassing t now h at so_many → IsGood now x → IsGood t x
passing_was_good t now h at x so_many passing good = good_kept now t x (keeps_back t now (passing_keeps t now h at so_many passing)) good

-- the climb is stopped
pub passing_stops : (t now : Records) (h at : Handle) (so_many : ℕ) (how : PassHow) → (passing : IsPassing t now h at so_many) → IsGood t at → stop_at now h at ≡ Some how
    → (passing.done ≡ numbers_of (passed t h)) × EndsAs t h (record { passed = so_many; at = at; how = how })
passing_stops t now h at so_many how passing good stops = ends_at_stop t h at passing.done so_many how passing.climbs (sym (stop_kept t now h at so_many passing good) ∙ stops)

-- the climb passes one without a parent
pub passing_ends : (t now : Records) (h at : Handle) (so_many : ℕ) → IsSound t → (passing : IsPassing t now h at so_many) → IsGood t at → IsTrue (is_passed now h at) → above now at ≡ None
    → (passing.done ++ at.serial ∷ [] ≡ numbers_of (passed t h)) × EndsAs t h (record { passed = so_many + 1; at = at; how = how.Root })
passing_ends t now h at so_many sound passing good passes is =
    ends_past_root t h at passing.done (so_many + 1) passing.climbs (sym (passes_kept t now h at so_many passing good) ∙ passes)
    (sym (above_kept t now at sound (passing_keeps t now h at so_many passing)) ∙ is)

-- where the climb is not counted at its end, what was passed is all that is written
pub after_uncounted : (old : Option Record) (done : List ℕ) (end : PassEnd) → does_count end.how ≡ false → option_map (among made_spent done) old ≡ option_map (after_climb done end) old
after_uncounted None done end not_counted = refl
after_uncounted (Some r) done end not_counted = ap Some (go (is_in r.serial done) refl)
  where
    go : (b : Bool) → is_in r.serial done ≡ b → among made_spent done r ≡ after_climb done end r
    go true e = rw e refl
    go false e = rw (e, not_counted) refl

-- an end that is not counted
pub counts_not : (end : PassHow) → (end ≡ how.Counted → ⊥) → does_count end ≡ false
counts_not how.Counted differs = absurd (differs refl)
counts_not how.Spent differs = refl
counts_not how.Early differs = refl
counts_not how.Root differs = refl

-- where it is, one more is written
pub after_counted : (t now : Records) (h at : Handle) (so_many total : ℕ) → IsSound t → (passing : IsPassing t now h at so_many) → IsGood t at
    → (key : ℕ) → record_at (changed now at.key (arrived Counted)) key ≡ option_map (after_climb passing.done (record { passed = total; at = at; how = how.Counted })) (record_at t key)
after_counted t now h at so_many total sound passing good key = elim (cases_eq key at.key) [
  | inl same ↦
      ap (record_at (changed now at.key (arrived Counted))) same ∙ changed_here now at.key r (arrived Counted) there.is
      ∙ ap Some (here (is_in r.serial passing.done) refl)
      ∙ sym (ap (λ (k : ℕ). option_map (after_climb passing.done end) (record_at t k)) same ∙ ap (option_map (after_climb passing.done end)) there.was)
  | inr differs ↦ changed_other now at.key key (arrived Counted) differs ∙ passing.written.records key ∙ go (record_at t key) refl differs
]
  where
    end : PassEnd
    end = record { passed = total; at = at; how = how.Counted }

    r : Record
    r = (as_it_was t now h at so_many passing good).0

    there : IsThere t now at r
    there = (as_it_was t now h at so_many passing good).1

    here : (b : Bool) → is_in r.serial passing.done ≡ b → arrived Counted r ≡ after_climb passing.done end r
    here true e = absurd (omega (arith, passing.climbs.beyond r.serial e, there.number))
    here false e = rw (e, eq-eqb r.serial at.serial there.number) refl

    other : (s : Record) → s.serial ≢ at.serial → (b c : Bool) → is_in s.serial passing.done ≡ b → nat_eq s.serial at.serial ≡ c → among made_spent passing.done s ≡ after_climb passing.done end s
    other s differs true c e f = rw e refl
    other s differs false true e f = absurd (differs (eqb-true s.serial at.serial f))
    other s differs false false e f = rw (e, f) refl

    go : (o : Option Record) → record_at t key ≡ o → key ≢ at.key → option_map (among made_spent passing.done) o ≡ option_map (after_climb passing.done end) o
    go None is differs = refl
    go (Some s) is differs = ap Some (other s (apart t key at.key s r at.serial sound is there.was there.number differs) (is_in s.serial passing.done) (nat_eq s.serial at.serial) refl refl)
