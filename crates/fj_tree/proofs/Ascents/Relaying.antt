-- The relay of a status, step by step.
use Rattle.std.specs.Prelude.{if◌then◌else◌, option_map, option_and_then}
use Rattle.std.proofs.Common.{arith, zero, suc, Bool, true, false, Option, Some, None, List, [], ◌∷◌, ◌++◌, length, length-append, append_assoc, append-nil, ℕ, ◌≡◌, ◌+◌, ◌<◌, ◌≤◌, ap, sym, ◌∙◌, refl}
use Rattle.std.proofs.lemmas.List.{length-map}
use Rattle.fj_rules.specs.declared.status.Status.{Status}
use Rattle.fj_rules.specs.Lists.{is_in}
use Rattle.fj_rules.specs.Tasks.{relay_in}
use Rattle.fj_tree.specs.declared.record.Record.{Record}
use Rattle.fj_tree.specs.Handles.{Handle, numbers_of}
use Rattle.fj_tree.specs.Paths.{above, and_on, path_up, path}
use Rattle.fj_tree.specs.Records.{Records, IsSound, IsGood, if_numbered, changed, with_status}
use Rattle.fj_tree.specs.Relays.{undone_in, is_undone_at, relays_at, next_relayed, relayed_along, relayed}
use Rattle.fj_tree.proofs.Ascents.Climbing.{beyond_more}
use Rattle.fj_tree.proofs.Index.Names.{KeepsNames, above_kept, good_kept, keeps_back}
use Rattle.fj_tree.proofs.Records.Written.{IsWritten, untouched, written_at_start, written_keeps, writes}

-- a relay from h has come to this one after these: with those from here on they are all that get it
pub record IsRelaying (t : Records) (h at : Handle) (done : List ℕ) : Type 0 where
  pub left : ℕ
  pub within : at.serial < left
  pub splits : done ++ numbers_of (relayed_along t (path_up left t at)) ≡ numbers_of (relayed t h)
  pub beyond : (n : ℕ) → is_in n done ≡ true → at.serial < n
  pub falls : length done + at.serial ≤ h.serial

pub relay_begins : (t : Records) (h : Handle) → IsRelaying t h h []
unfolding relayed path
relay_begins t h = record {
  left = suc h.serial;
  within = omega arith;
  splits = refl;
  beyond = λ n is. absurd (cc);
  falls = omega arith;
}

-- what is relayed along a way that begins with an undone one
relayed_first : (t : Records) (at : Handle) (way : List Handle) → is_undone_at t at ≡ true → relayed_along t (at ∷ way) ≡ at ∷ (if relays_at t at then relayed_along t way else [])
relayed_first t at way undone = ap (λ (b : Bool). if b then at ∷ (if relays_at t at then relayed_along t way else []) else []) undone

relayed_none : (t : Records) (at : Handle) (way : List Handle) → is_undone_at t at ≡ false → relayed_along t (at ∷ way) ≡ []
relayed_none t at way done = ap (λ (b : Bool). if b then at ∷ (if relays_at t at then relayed_along t way else []) else []) done

-- where there is a next, this one says relay, and the next is its parent
goes_on_to : (t : Records) (at up : Handle) → next_relayed t at ≡ Some up → (relays_at t at ≡ true) × (above t at ≡ Some up)
goes_on_to t at up next = go (relays_at t at) refl next
  where
    go : (b : Bool) → relays_at t at ≡ b → (if b then above t at else None) ≡ Some up → (relays_at t at ≡ true) × (above t at ≡ Some up)
    go true e is = (e, is)
    go false e is = absurd (cc)

-- where there is none, nothing is relayed beyond this one
nothing_beyond : (t : Records) (at : Handle) (left : ℕ) → next_relayed t at ≡ None → (if relays_at t at then relayed_along t (and_on (path_up left t) (above t at)) else []) ≡ []
nothing_beyond t at left next = go (relays_at t at) refl next
  where
    go : (b : Bool) → relays_at t at ≡ b → (if b then above t at else None) ≡ None → (if b then relayed_along t (and_on (path_up left t) (above t at)) else []) ≡ []
    go true e is = ap (λ (o : Option Handle). relayed_along t (and_on (path_up left t) o)) is
    go false e is = refl

pub relay_goes_on : (t : Records) (h at up : Handle) (done : List ℕ) → IsRelaying t h at done → is_undone_at t at ≡ true → next_relayed t at ≡ Some up → up.serial < at.serial
    → IsRelaying t h up (done ++ at.serial ∷ [])
unfolding path_up
relay_goes_on t h at up done relays undone next smaller = go relays.left relays.within relays.splits
  where
    go : (left : ℕ) → at.serial < left → done ++ numbers_of (relayed_along t (path_up left t at)) ≡ numbers_of (relayed t h) → IsRelaying t h up (done ++ at.serial ∷ [])
    go zero within splits = absurd (omega arith)
    go (suc left) within splits =
        let on = goes_on_to t at up next in
        let way : relayed_along t (path_up (suc left) t at) ≡ at ∷ relayed_along t (path_up left t up) =
        relayed_first t at (and_on (path_up left t) (above t at)) undone
        ∙ ap (λ (b : Bool). at ∷ (if b then relayed_along t (and_on (path_up left t) (above t at)) else [])) on.0
        ∙ ap (λ (o : Option Handle). at ∷ relayed_along t (and_on (path_up left t) o)) on.1 in
        record {
          left = left;
          within = omega (arith, within, smaller);
          splits = append_assoc done (at.serial ∷ []) (numbers_of (relayed_along t (path_up left t up))) ∙ sym (ap (λ (w : List Handle). done ++ numbers_of w) way) ∙ splits;
          beyond = beyond_more at up done relays.beyond smaller;
          falls = omega (arith, length-append done (at.serial ∷ []), relays.falls, smaller);
        }

-- the relay ends before one that is done
pub relay_ends_before : (t : Records) (h at : Handle) (done : List ℕ) → IsRelaying t h at done → is_undone_at t at ≡ false → done ≡ numbers_of (relayed t h)
unfolding path_up
relay_ends_before t h at done relays is_done = go relays.left relays.within relays.splits
  where
    go : (left : ℕ) → at.serial < left → done ++ numbers_of (relayed_along t (path_up left t at)) ≡ numbers_of (relayed t h) → done ≡ numbers_of (relayed t h)
    go zero within splits = absurd (omega arith)
    go (suc left) within splits =
        sym (append-nil done) ∙ sym (ap (λ (w : List Handle). done ++ numbers_of w) (relayed_none t at (and_on (path_up left t) (above t at)) is_done)) ∙ splits

-- the relay ends at one that does not relay, or has no parent
pub relay_ends_at : (t : Records) (h at : Handle) (done : List ℕ) → IsRelaying t h at done → is_undone_at t at ≡ true → next_relayed t at ≡ None → done ++ at.serial ∷ [] ≡ numbers_of (relayed t h)
unfolding path_up
relay_ends_at t h at done relays undone next = go relays.left relays.within relays.splits
  where
    go : (left : ℕ) → at.serial < left → done ++ numbers_of (relayed_along t (path_up left t at)) ≡ numbers_of (relayed t h) → done ++ at.serial ∷ [] ≡ numbers_of (relayed t h)
    go zero within splits = absurd (omega arith)
    go (suc left) within splits =
        let way : relayed_along t (path_up (suc left) t at) ≡ at ∷ [] = relayed_first t at (and_on (path_up left t) (above t at)) undone ∙ ap (λ (w : List Handle). at ∷ w) (nothing_beyond t at left next) in
        sym (ap (λ (w : List Handle). done ++ numbers_of w) way) ∙ splits

-- as many get it as were counted
pub relayed_all : (t : Records) (h : Handle) (done : List ℕ) → done ≡ numbers_of (relayed t h) → length done ≡ length (relayed t h)
relayed_all t h done all = ap length all ∙ length-map (relayed t h) (λ (x : Handle). x.serial)

-- a relay has come to this one after so many
pub record HasRelayed (t : Records) (h at : Handle) (so_many : ℕ) : Type 0 where
  pub done : List ℕ
  pub relays : IsRelaying t h at done
  pub counted : length done ≡ so_many

-- and those have got the status
pub record IsRelayed (s : Status) (t now : Records) (h at : Handle) (so_many : ℕ) : Type 0 where
  pub done : List ℕ
  pub relays : IsRelaying t h at done
  pub counted : length done ≡ so_many
  pub written : IsWritten (with_status s) t now done

pub relayed_begins : (s : Status) (t : Records) (h : Handle) → IsRelayed s t t h h 0
relayed_begins s t h = record { done = []; relays = relay_begins t h; counted = refl; written = written_at_start (with_status s) t }

relayed_keeps : (s : Status) (t now : Records) (h at : Handle) (so_many : ℕ) → IsRelayed s t now h at so_many → KeepsNames t now
relayed_keeps s t now h at so_many relaying = written_keeps (with_status s) t now relaying.done (record { name = λ r. refl }) relaying.written

-- the one that the relay has come to is as it was
undone_kept : (s : Status) (t now : Records) (h at : Handle) (so_many : ℕ) → IsRelayed s t now h at so_many → IsGood t at → is_undone_at now at ≡ is_undone_at t at
undone_kept s t now h at so_many relaying good =
    let there = untouched (with_status s) t now relaying.done at relaying.written relaying.relays.beyond good in
    ap (λ (o : Option Record). undone_in (option_and_then (if_numbered at.serial) o)) (there.1.is ∙ sym there.1.was)

-- and its next is the same
next_kept : (s : Status) (t now : Records) (h at : Handle) (so_many : ℕ) → IsSound t → IsRelayed s t now h at so_many → IsGood t at → next_relayed now at ≡ next_relayed t at
next_kept s t now h at so_many sound relaying good =
    let there = untouched (with_status s) t now relaying.done at relaying.written relaying.relays.beyond good in
    let kinds = ap (λ (o : Option Record). relay_in (option_map (λ (r : Record). r.kind) (option_and_then (if_numbered at.serial) o))) (there.1.is ∙ sym there.1.was) in
    ap (λ (b : Bool). if b then above now at else None) kinds ∙ ap (λ (o : Option Handle). if relays_at t at then o else None) (above_kept t now at sound (relayed_keeps s t now h at so_many relaying))

-- it gets the status
pub settles_one : (s : Status) (t now : Records) (h at : Handle) (so_many : ℕ) → IsSound t → (relaying : IsRelayed s t now h at so_many) → IsGood t at
    → IsWritten (with_status s) t (changed now at.key (with_status s)) (relaying.done ++ at.serial ∷ [])
settles_one s t now h at so_many sound relaying good =
    let there = untouched (with_status s) t now relaying.done at relaying.written relaying.relays.beyond good in
    writes (with_status s) t now relaying.done at there.0 sound relaying.written there.1

pub relayed_goes_on : (s : Status) (t now : Records) (h at up : Handle) (so_many : ℕ) → IsSound t → IsRelayed s t now h at so_many → IsGood t at → is_undone_at now at ≡ true
    → next_relayed now at ≡ Some up → up.serial < at.serial → IsRelayed s t (changed now at.key (with_status s)) h up (so_many + 1)
relayed_goes_on s t now h at up so_many sound relaying good undone next smaller = record {
  done = relaying.done ++ at.serial ∷ [];
  relays = relay_goes_on t h at up relaying.done relaying.relays (sym (undone_kept s t now h at so_many relaying good) ∙ undone) (sym (next_kept s t now h at so_many sound relaying good) ∙ next) smaller;
  counted = omega (arith, relaying.counted, length-append relaying.done (at.serial ∷ []));
  written = settles_one s t now h at so_many sound relaying good;
}

pub relayed_good : (s : Status) (t now : Records) (h at x : Handle) (so_many : ℕ) → IsRelayed s t now h at so_many → IsGood t x → IsGood now x
relayed_good s t now h at x so_many relaying good = good_kept t now x (relayed_keeps s t now h at so_many relaying) good

pub relayed_was_good : (s : Status) (t now : Records) (h at x : Handle) (so_many : ℕ) → IsRelayed s t now h at so_many → IsGood now x → IsGood t x
relayed_was_good s t now h at x so_many relaying good = good_kept now t x (keeps_back t now (relayed_keeps s t now h at so_many relaying)) good

pub relayed_ends_before : (s : Status) (t now : Records) (h at : Handle) (so_many : ℕ) → (relaying : IsRelayed s t now h at so_many) → IsGood t at → is_undone_at now at ≡ false
    → relaying.done ≡ numbers_of (relayed t h)
relayed_ends_before s t now h at so_many relaying good is_done = relay_ends_before t h at relaying.done relaying.relays (sym (undone_kept s t now h at so_many relaying good) ∙ is_done)

pub relayed_ends_at : (s : Status) (t now : Records) (h at : Handle) (so_many : ℕ) → IsSound t → (relaying : IsRelayed s t now h at so_many) → IsGood t at → is_undone_at now at ≡ true
    → next_relayed now at ≡ None → relaying.done ++ at.serial ∷ [] ≡ numbers_of (relayed t h)
relayed_ends_at s t now h at so_many sound relaying good undone next =
    relay_ends_at t h at relaying.done relaying.relays (sym (undone_kept s t now h at so_many relaying good) ∙ undone) (sym (next_kept s t now h at so_many sound relaying good) ∙ next)
