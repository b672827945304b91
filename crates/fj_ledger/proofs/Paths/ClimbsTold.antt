-- A climb along records is the climb of the history, once the body has ended.
use Rattle.std.proofs.Common.{ℕ, zero, suc, ◌≡◌, ◌≢◌, ◌+◌, ◌≤◌, Bool, true, false, cond, List, [], ◌∷◌, ◌++◌, length, drop, Option, Some, None, refl, ap, sym, ◌∙◌, subst, arith, ⊎_elim}
use Rattle.std.specs.Prelude.{if◌then◌else◌, option_and_then, nat_lt}
use Rattle.std.specs.List.{take_while}
use Rattle.std.proofs.lemmas.Bool.{eq-eqb, cases_eq}
use Rattle.std.proofs.lemmas.List.Sums.{take_while-cons}
use Rattle.std.proofs.lemmas.Option.{same_Some}
use Rattle.fj_rules.specs.declared.event.Event.{Event}
use Rattle.fj_rules.specs.declared.event.Event.TheVariants.{End}
use Rattle.fj_rules.specs.declared.place.Place.TheVariants.{Open}
use Rattle.fj_rules.specs.Bounds.{Bounds, Pool}
use Rattle.fj_rules.specs.Tasks.{is_completer, parent}
use Rattle.fj_rules.specs.Climbs.{Arrival, arrival, does_fire, path_up, path, passed}
use Rattle.fj_rules.specs.Climbs as climb
use Rattle.fj_rules.specs.Answers.{root_of}
use Rattle.fj_rules.specs.Allowed.{Allowed, AllowedFrom}
use Rattle.fj_rules.proofs.Completers.Arrivals.{arrival_end}
use Rattle.fj_rules.proofs.Events.KindsKept.{path_same}
use Rattle.fj_tree.specs.declared.record.Record.{Record}
use Rattle.fj_tree.specs.declared.arrive.Arrived.{Arrived}
use Rattle.fj_tree.specs.declared.arrive.Arrived.TheVariants as arrive
use Rattle.fj_tree.specs.declared.pass.PassHow.{PassHow}
use Rattle.fj_tree.specs.declared.pass.PassHow.TheVariants as how
use Rattle.fj_tree.specs.Arrivals.{arrival_at}
use Rattle.fj_tree.specs.Arrivals as record_is
use Rattle.fj_tree.specs.Handles.{Handle}
use Rattle.fj_tree.specs.Records.{Records, IsGood, IsSound, record_at, with_place}
use Rattle.fj_tree.specs.Paths as ways
use Rattle.fj_tree.specs.Passes.{PassEnd, EndsBefore, EndsAs, arrival_of, end_by, is_passed, not_passed, stop_at, with_ended_body}
use Rattle.fj_tree.specs.Passes as passes
use Rattle.fj_tree.proofs.Records.Children.{changed_here, changed_other}
use Rattle.fj_tree.proofs.Index.Finds.{named_record}
use Rattle.fj_ledger.specs.Arriving.{as_arrival}
use Rattle.fj_ledger.specs.Climbing.{IsEnd, EndsAt, Climbs}
use Rattle.fj_ledger.specs.Holds.{Tells}
use Rattle.fj_ledger.proofs.Recorded.ArrivalsTold.{spent_told, arrival_told}
use Rattle.fj_ledger.proofs.Paths.EndedArrivals.{ended_arrival}
use Rattle.fj_ledger.proofs.Paths.WaysTold.{AllGood, Knows, IsWay, numbers, way_told, root_told}

-- ---- one arrival

-- at a record whose body has ended the arrival is never too early
own_told : (pool : Pool) (h : List Event) (w : ℕ) (r : Record) → AllowedFrom pool [] h → Allowed pool h (End r.serial w) → is_completer h r.serial ≡ true → Tells h r
    → as_arrival (arrival_at (with_place Open r)) ≡ arrival (h ++ End r.serial w ∷ []) r.serial
own_told pool h w r so may completer tells =
    rw (ended_arrival pool h w r.serial so may completer, spent_told h r tells, tells.pending) (go (record_is.is_spent r) (nat_lt 0 r.pending))
  where
    go : (s p : Bool) → as_arrival (if s then arrive.Spent else if p then arrive.Counted else arrive.Fire) ≡ (if s then climb.Spent else if p then climb.Counted else climb.Fires)
    go true p = refl
    go false true = refl
    go false false = refl

-- what an arrival at a record of the way is
record IsTold (pool : Pool) (h : List Event) (tree : Records) (at x : Handle) (w : ℕ) : Type 0 where
  arrived : Arrived
  is : arrival_of (with_ended_body tree at) x ≡ Some arrived
  told : as_arrival arrived ≡ arrival (h ++ End at.serial w ∷ []) x.serial

arrival_of_way : (l : Bounds) (pool : Pool) (h : List Event) (tree : Records) (at x : Handle) (w : ℕ) → Knows l pool h tree → IsSound tree → IsGood tree at → IsGood tree x
    → Allowed pool h (End at.serial w) → is_completer h at.serial ≡ true → IsTold pool h tree at x w
arrival_of_way l pool h tree at x w k sound good_at good may completer = ⊎_elim own other (cases_eq x.key at.key)
  where
    a : (r : Record) × (record_at tree at.key ≡ Some r) × (r.serial ≡ at.serial)
    a = named_record tree at good_at

    b : (r : Record) × (record_at tree x.key ≡ Some r) × (r.serial ≡ x.serial)
    b = named_record tree x good

    own : x.key ≡ at.key → IsTold pool h tree at x w
    own same =
        let alike : a.0 ≡ b.0 = same_Some a.0 b.0 (sym a.1 ∙ ap (record_at tree) (sym same) ∙ b.1) in
        let number : x.serial ≡ at.serial = sym b.2 ∙ ap (λ (r : Record). r.serial) (sym alike) ∙ a.2 in
        let here : record_at (with_ended_body tree at) x.key ≡ Some (with_place Open a.0) = ap (record_at (with_ended_body tree at)) same ∙ changed_here tree at.key a.0 (with_place Open) a.1 in
        let tells = k.keeps.each at.key a.0 a.1 in
        record {
          arrived = arrival_at (with_place Open a.0);
          is = rw (here, eq-eqb a.0.serial x.serial (a.2 ∙ sym number)) refl;
          told = own_told pool h w a.0 k.so (subst (λ (u : ℕ). Allowed pool h (End u w)) (sym a.2) may) (ap (is_completer h) a.2 ∙ completer) tells
              ∙ ap (λ (u : ℕ). arrival (h ++ End u w ∷ []) u) a.2 ∙ ap (arrival (h ++ End at.serial w ∷ [])) (sym number);
        }

    other : x.key ≢ at.key → IsTold pool h tree at x w
    other differs =
        let here : record_at (with_ended_body tree at) x.key ≡ Some b.0 = changed_other tree at.key x.key (with_place Open) differs ∙ b.1 in
        let apart : at.serial ≢ x.serial = λ same. differs (sound.once x.key at.key b.0 a.0 b.1 a.1 (b.2 ∙ sym same ∙ sym a.2)) in
        record {
          arrived = arrival_at b.0;
          is = rw (here, eq-eqb b.0.serial x.serial b.2) refl;
          told = arrival_told h b.0 (k.keeps.each x.key b.0 b.1) ∙ ap (arrival h) b.2 ∙ sym (arrival_end h at.serial w x.serial apart);
        }

-- ---- the whole way

fires_alike : (a : Arrived) (b : Arrival) → as_arrival a ≡ b → passes.does_fire (Some a) ≡ does_fire b
fires_alike arrive.Fire b is = rw (← is) refl
fires_alike arrive.Counted b is = rw (← is) refl
fires_alike arrive.Spent b is = rw (← is) refl
fires_alike arrive.Early b is = rw (← is) refl

-- two tests that agree on the members pass as many of them
as_many : (tree : Records) (p : Handle → Bool) (q : ℕ → Bool) (hs : List Handle) → AllGood tree hs → ((x : Handle) → IsGood tree x → p x ≡ q x.serial)
    → length (take_while p hs) ≡ length (take_while q (numbers hs))
as_many tree p q [] good alike = refl
as_many tree p q (x ∷ hs) good alike = rw (take_while-cons, take_while-cons, alike x good.0) (go (q x.serial) (as_many tree p q hs good.1 alike))
  where
    go : (b : Bool) → length (take_while p hs) ≡ length (take_while q (numbers hs)) → length (cond b (x ∷ take_while p hs) []) ≡ length (cond b (x.serial ∷ take_while q (numbers hs)) [])
    go true rest = ap (λ n. suc n) rest
    go false rest = refl

drop_numbers : (n : ℕ) (hs : List Handle) → drop n (numbers hs) ≡ numbers (drop n hs)
drop_numbers zero hs = refl
drop_numbers (suc n) [] = refl
drop_numbers (suc n) (x ∷ hs) = drop_numbers n hs

drop_good : (tree : Records) (n : ℕ) (hs : List Handle) → AllGood tree hs → AllGood tree (drop n hs)
drop_good tree zero hs good = good
drop_good tree (suc n) [] good = tt
drop_good tree (suc n) (x ∷ hs) good = drop_good tree n hs good.1

ends_so : (a : Arrived) (b : Arrival) (end : PassHow) → as_arrival a ≡ b → end_by a ≡ Some end → IsEnd end b
ends_so arrive.Counted b how.Counted is ends = sym is
ends_so arrive.Spent b how.Spent is ends = sym is
ends_so arrive.Early b how.Early is ends = sym is
ends_so arrive.Counted b _ is ends = absurd cc
ends_so arrive.Spent b _ is ends = absurd cc
ends_so arrive.Early b _ is ends = absurd cc
ends_so arrive.Fire b _ is ends = absurd cc

-- the way from the first that is not passed
ends_list : (l : Bounds) (pool : Pool) (h : List Event) (tree : Records) (at : Handle) (w : ℕ) (root : Option ℕ) (end : PassEnd) (hs : List Handle) → Knows l pool h tree → IsSound tree → IsGood tree at
    → Allowed pool h (End at.serial w) → is_completer h at.serial ≡ true → root ≡ Some (ways.root_of tree at).serial → AllGood tree hs
    → EndsBefore tree at hs end → EndsAt (h ++ End at.serial w ∷ []) (numbers hs) root end
ends_list l pool h tree at w root end [] k sound good_at may completer is good ends = (ends.0, is ∙ ap (λ (x : Handle). Some x.serial) (sym ends.1))
ends_list l pool h tree at w root end (x ∷ hs) k sound good_at may completer is good ends =
    let t = arrival_of_way l pool h tree at x w k sound good_at good.0 may completer in
    let stops : end_by t.arrived ≡ Some end.how = sym (ap (option_and_then end_by) t.is) ∙ ends.0 in
    (ends_so t.arrived (arrival (h ++ End at.serial w ∷ []) x.serial) end.how t.told stops, ap (λ (y : Handle). y.serial) ends.1)

pub climbs_told : (l : Bounds) (pool : Pool) (h : List Event) (tree : Records) (at : Handle) (w : ℕ) (end : PassEnd) → Knows l pool h tree → IsSound tree → IsGood tree at
    → Allowed pool h (End at.serial w) → is_completer h at.serial ≡ true → end.passed ≡ length (passes.passed tree at) → EndsAs tree at end
    → Climbs (h ++ End at.serial w ∷ []) at.serial end
unfolding passed passes.passed passes.not_passed
climbs_told l pool h tree at w end k sound good_at may completer count ends = record { count = count ∙ many; ends = there }
  where
    h1 : List Event
    h1 = h ++ End at.serial w ∷ []

    hs : List Handle
    hs = ways.path tree at

    q : ℕ → Bool
    q d = does_fire (arrival h1 d)

    way : IsWay tree hs (path h at.serial)
    way = way_told l pool h tree at k good_at

    same_way : numbers hs ≡ path h1 at.serial
    same_way = way.numbers ∙ sym (path_same h (End at.serial w) at.serial refl)

    alike : (x : Handle) → IsGood tree x → is_passed tree at x ≡ q x.serial
    alike x good =
        let t = arrival_of_way l pool h tree at x w k sound good_at good may completer in
        ap passes.does_fire t.is ∙ fires_alike t.arrived (arrival h1 x.serial) t.told

    many : length (take_while (is_passed tree at) hs) ≡ length (take_while q (path h1 at.serial))
    many = as_many tree (is_passed tree at) q hs way.good alike ∙ ap (λ (ts : List ℕ). length (take_while q ts)) same_way

    root : root_of (path h1 at.serial) ≡ Some (ways.root_of tree at).serial
    root = ap root_of (path_same h (End at.serial w) at.serial refl) ∙ root_told l pool h tree at k good_at

    rest : List Handle
    rest = drop (length (take_while (is_passed tree at) hs)) hs

    rest_is : numbers rest ≡ drop (length (take_while q (path h1 at.serial))) (path h1 at.serial)
    rest_is = sym (drop_numbers (length (take_while (is_passed tree at) hs)) hs) ∙ ap (λ (n : ℕ). drop n (numbers hs)) many ∙ ap (drop (length (take_while q (path h1 at.serial)))) same_way

    there : EndsAt h1 (drop (length (take_while q (path h1 at.serial))) (path h1 at.serial)) (root_of (path h1 at.serial)) end
    there = subst (λ (ts : List ℕ). EndsAt h1 ts (root_of (path h1 at.serial)) end) rest_is
        (ends_list l pool h tree at w (root_of (path h1 at.serial)) end rest k sound good_at may completer root (drop_good tree (length (take_while (is_passed tree at) hs)) hs way.good) ends)

-- a way is no longer than its first number and one
pub way_short : (n : ℕ) (h : List Event) (from : Option ℕ) → length (path_up n h from) ≤ n
unfolding path_up
way_short zero h from = omega arith
way_short (suc n) h None = omega arith
way_short (suc n) h (Some c) = omega (arith, way_short n h (parent h c))

while_short : (q : ℕ → Bool) (ts : List ℕ) → length (take_while q ts) ≤ length ts
while_short q [] = omega arith
while_short q (t ∷ ts) = rw take_while-cons (go (q t) (while_short q ts))
  where
    go : (b : Bool) → length (take_while q ts) ≤ length ts → length (cond b (t ∷ take_while q ts) []) ≤ length (t ∷ ts)
    go true rest = omega (arith, rest)
    go false rest = omega (arith, rest)

-- no more are passed than the number of the task and one
pub few_passed : (h : List Event) (t : ℕ) → length (passed h t) ≤ t + 1
unfolding passed path
few_passed h t = omega (arith, while_short (λ d. does_fire (arrival h d)) (path h t), way_short (suc t) h (Some t))
