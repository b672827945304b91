-- The list of the numbers says where each record is, and goes on to when a record is written, put in or taken out.
use Rattle.std.specs.List.{count_by}
use Rattle.std.proofs.Common.{arith, Bool, true, false, Option, Some, None, ℕ, ◌≡◌, ◌≢◌, ◌<◌, ◌+◌, ◌++◌, ◌∷◌, [], List, length, get_or, nat_lt, nat_eq, ap, sym, ◌∙◌, refl, subst, inl, inr, eq-eqb}
use Rattle.std.proofs.Math.ListN.{set}
use Rattle.std.proofs.lemmas.Bool.{cases_eq, cases_lt, cond_both, eqb-true}
use Rattle.std.proofs.lemmas.List.{get_or-set_same, get_or-set_other, length_push}
use Rattle.std.proofs.lemmas.List.Sums.{length-filter}
use Rattle.std.proofs.lemmas.Option.{same_Some, none-some}
use Rattle.fj_rules.specs.declared.kind.Kind.{Kind}
use Rattle.fj_rules.specs.declared.place.Place.{Place}
use Rattle.fj_tree.specs.declared.record.Record.{Record}
use Rattle.fj_tree.specs.Kept.{Numbers, number_at, IsAbove, IsAbsent, IsRising, IsListed, IsIndex, has_number, is_current, closed_up, after_release}
use Rattle.fj_tree.specs.Makes.{fresh}
use Rattle.fj_tree.specs.Records.{Records, IsSound, record_at, record_of, entry_of, handle_of, count}
use Rattle.fj_tree.proofs.Records.Growing.{IsPutIn}
use Rattle.fj_tree.proofs.Index.Closing.{listed_left, above_left, count_same, count_one_fewer, count_left, count_push}
use Rattle.fj_tree.proofs.Index.Listing.{listed_new, listed_still, none_listed}
use Rattle.fj_tree.proofs.Index.Names.{entry_is}
use Rattle.fj_tree.proofs.Records.Shrinking.{IsTakenOut}
use Rattle.fj_tree.proofs.Records.Writes.{count_written, slot_within}

-- ---- which pairs are current

-- a pair at another key is as current as it was
current_other : (before after : List (Option Record)) (pair : ℕ × ℕ) → get_or after pair.1 None ≡ get_or before pair.1 None → is_current after pair ≡ is_current before pair
current_other before after pair same = ap (λ (o : Option Record). has_number o pair.0) same

-- at a key without a record none is
current_none : (slots : List (Option Record)) (pair : ℕ × ℕ) → get_or slots pair.1 None ≡ None → is_current slots pair ≡ false
current_none slots pair none = rw none refl

-- and at one with a record those of its number
current_some : (slots : List (Option Record)) (pair : ℕ × ℕ) (r : Record) → get_or slots pair.1 None ≡ Some r → is_current slots pair ≡ nat_eq r.serial pair.0
current_some slots pair r some = rw some refl

different : (m n : ℕ) → m ≢ n → nat_eq m n ≡ false
different m n differs = go (nat_eq m n) refl
  where
    go : (b : Bool) → nat_eq m n ≡ b → nat_eq m n ≡ false
    go true is = absurd (differs (eqb-true m n is))
    go false is = is

-- ---- the index goes on

-- a record is written, and keeps its number
pub index_written : (slots : List (Option Record)) (l : Numbers) (key : ℕ) (r new : Record) → IsIndex slots l → get_or slots key None ≡ Some r → new.serial ≡ r.serial → IsIndex (set slots key (Some new)) l
index_written slots l key r new index is same = record {
  listed = listed;
  current = count_same _ _ (0, 0) l.pairs (λ i within. alike (get_or l.pairs i (0, 0))) ∙ index.current ∙ sym (count_written slots key r new is);
  count = index.count ∙ ap (λ (n : ℕ). n + l.released) (sym (count_written slots key r new is));
}
  where
    here : get_or (set slots key (Some new)) key None ≡ Some new
    here = get_or-set_same slots key (Some new) None (slot_within slots key r is)

    listed : (k : ℕ) (s : Record) → get_or (set slots key (Some new)) k None ≡ Some s → IsListed l.pairs s.serial k
    listed k s at = elim (cases_eq k key) [
      | inl here_too ↦
          let is_new : new ≡ s = same_Some new s (sym here ∙ ap (λ (i : ℕ). get_or (set slots key (Some new)) i None) (sym here_too) ∙ at) in
          subst (λ (n : ℕ). IsListed l.pairs n k) (sym same ∙ ap (λ (x : Record). x.serial) is_new) (index.listed k r (ap (λ (i : ℕ). get_or slots i None) here_too ∙ is))
      | inr differs ↦ index.listed k s (sym (get_or-set_other slots key k (Some new) None differs) ∙ at)
    ]

    alike : (pair : ℕ × ℕ) → is_current (set slots key (Some new)) pair ≡ is_current slots pair
    alike pair = elim (cases_eq pair.1 key) [
      | inl here_too ↦
          current_some (set slots key (Some new)) pair new (ap (λ (i : ℕ). get_or (set slots key (Some new)) i None) here_too ∙ here)
          ∙ ap (λ (n : ℕ). nat_eq n pair.0) same ∙ sym (current_some slots pair r (ap (λ (i : ℕ). get_or slots i None) here_too ∙ is))
      | inr differs ↦ current_other slots (set slots key (Some new)) pair (get_or-set_other slots key pair.1 (Some new) None differs)
    ]

-- a record is put in, with the next number
pub index_grown : (t u : Records) (l : Numbers) (key : ℕ) (kind : Kind) (place : Place) → IsIndex t.slots l → IsAbove l.pairs t.made → IsPutIn t u key kind place → count u ≡ count t + 1
    → IsIndex u.slots (record l { pairs = l.pairs ++ (t.made, key) ∷ [] })
index_grown t u l key kind place index above put more = record {
  listed = listed;
  current = current;
  count = omega (arith, length_push l.pairs (t.made, key), index.count, more);
}
  where
    listed : (k : ℕ) (s : Record) → record_at u k ≡ Some s → IsListed (l.pairs ++ (t.made, key) ∷ []) s.serial k
    listed k s at = elim (cases_eq k key) [
      | inl here ↦
          let is_new : fresh t.made kind place ≡ s = same_Some (fresh t.made kind place) s (sym put.new ∙ ap (record_at u) (sym here) ∙ at) in
          rw (here, ← (ap (λ (x : Record). x.serial) is_new)) (listed_new l.pairs t.made key)
      | inr differs ↦ listed_still l.pairs t.made key s.serial k (index.listed k s (sym (put.others k differs) ∙ at))
    ]

    alike : (pair : ℕ × ℕ) → pair.0 < t.made → is_current u.slots pair ≡ is_current t.slots pair
    alike pair below = elim (cases_eq pair.1 key) [
      | inl here ↦
          current_some u.slots pair (fresh t.made kind place) (ap (record_at u) here ∙ put.new) ∙ different t.made pair.0 (λ same. omega (arith, below, same))
          ∙ sym (current_none t.slots pair (ap (record_at t) here ∙ put.vacant))
      | inr differs ↦ current_other t.slots u.slots pair (put.others pair.1 differs)
    ]

    new_one : is_current u.slots (t.made, key) ≡ true
    new_one = current_some u.slots (t.made, key) (fresh t.made kind place) put.new ∙ eq-eqb t.made t.made refl

    current : count_by (is_current u.slots) (l.pairs ++ (t.made, key) ∷ []) ≡ count u
    current =
        let old = count_same (is_current u.slots) (is_current t.slots) (0, 0) l.pairs (λ i within. alike (get_or l.pairs i (0, 0)) (above i within)) in
        omega (arith, count_push (is_current u.slots) l.pairs (t.made, key) new_one, old, index.current, more)

-- a record is taken out: its number stays, and is not current any more
pub index_shrunk : (t u : Records) (l : Numbers) (key : ℕ) (r : Record) → IsSound t → IsIndex t.slots l → IsRising l.pairs → IsTakenOut t u key r → count u + 1 ≡ count t
    → IsIndex u.slots (record l { released = l.released + 1 })
index_shrunk t u l key r sound index rising out fewer = record { listed = listed; current = current; count = omega (arith, index.count, fewer) }
  where
    listed : (k : ℕ) (s : Record) → record_at u k ≡ Some s → IsListed l.pairs s.serial k
    listed k s at =
        let apart : k ≢ key = λ same. none-some s (sym out.removed ∙ ap (record_at u) (sym same) ∙ at) in
        index.listed k s (sym (out.others k apart) ∙ at)

    was : IsListed l.pairs r.serial key
    was = index.listed key r out.was

    apart : (i : ℕ) → i < length l.pairs → i ≢ was.place → number_at l.pairs i ≢ r.serial
    apart i within differs same =
        let number : number_at l.pairs was.place ≡ r.serial = ap (λ (pair : ℕ × ℕ). pair.0) was.is in
        elim (cases_lt i was.place) [
          | inl before ↦ omega (arith, rising i was.place before was.in_range, number, same)
          | inr after ↦ omega (arith, rising was.place i (omega (arith, after, differs)) within, number, same)
        ]

    others : (i : ℕ) → i < length l.pairs → i ≢ was.place → is_current u.slots (get_or l.pairs i (0, 0)) ≡ is_current t.slots (get_or l.pairs i (0, 0))
    others i within differs =
        let pair = get_or l.pairs i (0, 0) in
        elim (cases_eq pair.1 key) [
          | inl here ↦
              current_none u.slots pair (ap (record_at u) here ∙ out.removed) ∙ sym (different r.serial pair.0 (λ same. apart i within differs (sym same)))
              ∙ sym (current_some t.slots pair r (ap (record_at t) here ∙ out.was))
          | inr elsewhere ↦ current_other t.slots u.slots pair (out.others pair.1 elsewhere)
        ]

    before : is_current t.slots (get_or l.pairs was.place (0, 0)) ≡ true
    before = ap (is_current t.slots) was.is ∙ current_some t.slots (r.serial, key) r out.was ∙ eq-eqb r.serial r.serial refl

    after : is_current u.slots (get_or l.pairs was.place (0, 0)) ≡ false
    after = ap (is_current u.slots) was.is ∙ current_none u.slots (r.serial, key) out.removed

    current : count_by (is_current u.slots) l.pairs ≡ count u
    current = omega (arith, count_one_fewer (is_current t.slots) (is_current u.slots) (0, 0) l.pairs was.place was.in_range before after others, index.current, fewer)

-- the list is closed up
pub index_closed : (slots : List (Option Record)) (l : Numbers) → IsIndex slots l → IsIndex slots (closed_up slots l)
index_closed slots l index = record {
  listed = λ key r at. listed_left (is_current slots) l.pairs r.serial key (current_some slots (r.serial, key) r at ∙ eq-eqb r.serial r.serial refl) (index.listed key r at);
  current = count_left (is_current slots) l.pairs ∙ index.current;
  count = omega (arith, length-filter (is_current slots) l.pairs, index.current);
}

-- so a release leaves an index
pub index_released : (t u : Records) (l : Numbers) (key : ℕ) (r : Record) → IsSound t → IsIndex t.slots l → IsRising l.pairs → IsTakenOut t u key r → count u + 1 ≡ count t
    → IsIndex u.slots (after_release u.slots l)
index_released t u l key r sound index rising out fewer =
    let shrunk = index_shrunk t u l key r sound index rising out fewer in
    cond_both (nat_lt (l.released + 1) l.room) (record l { released = l.released + 1 }) (closed_up u.slots l) (IsIndex u.slots) (λ _. shrunk) (λ _. index_closed u.slots (record l { released = l.released + 1 }) shrunk)

-- and each number in it was given out before
pub above_released : (slots : List (Option Record)) (l : Numbers) (n : ℕ) → IsAbove l.pairs n → IsAbove (after_release slots l).pairs n
above_released slots l n above =
    cond_both (nat_lt (l.released + 1) l.room) (record l { released = l.released + 1 }) (closed_up slots l) (λ (k : Numbers). IsAbove k.pairs n) (λ _. above) (λ _. above_left (is_current slots) l.pairs n above)

-- ---- what is found

-- a record of an absent number is not kept
pub absent_kept : (slots : List (Option Record)) (l : Numbers) (n key : ℕ) (r : Record) → IsIndex slots l → IsAbsent l.pairs n → get_or slots key None ≡ Some r → r.serial ≢ n
absent_kept slots l n key r index absent at same = none_listed l.pairs n key absent (subst (λ (m : ℕ). IsListed l.pairs m key) same (index.listed key r at))

-- so it has no handle
pub absent_handle : (t : Records) (l : Numbers) (n : ℕ) → IsIndex t.slots l → IsAbsent l.pairs n → handle_of t n ≡ None
absent_handle t l n index absent = go (entry_of t n) refl
  where
    go : (e : Option (ℕ × Record)) → entry_of t n ≡ e → handle_of t n ≡ None
    go None none = rw none refl
    go (Some e) some = let is = entry_is t n e some in absurd (absent_kept t.slots l n e.0 e.1 index absent is.0 is.1)

-- where the only key beside a number has no record of it, no record of it is kept
pub released_kept : (t : Records) (l : Numbers) (n key : ℕ) → IsIndex t.slots l → ((other : ℕ) → IsListed l.pairs n other → other ≡ key) → record_of t (record { key = key; serial = n }) ≡ None
    → (k : ℕ) (r : Record) → record_at t k ≡ Some r → r.serial ≢ n
released_kept t l n key index only none k r at same =
    let here : k ≡ key = only k (subst (λ (m : ℕ). IsListed l.pairs m k) same (index.listed k r at)) in
    let there : record_at t key ≡ Some r = ap (record_at t) (sym here) ∙ at in
    none-some r (sym none ∙ rw (there, eq-eqb r.serial n same) refl)

-- so it has no handle
pub released_handle : (t : Records) (l : Numbers) (n key : ℕ) → IsIndex t.slots l → ((other : ℕ) → IsListed l.pairs n other → other ≡ key) → record_of t (record { key = key; serial = n }) ≡ None
    → handle_of t n ≡ None
released_handle t l n key index only absent = go (entry_of t n) refl
  where
    go : (e : Option (ℕ × Record)) → entry_of t n ≡ e → handle_of t n ≡ None
    go None none = rw none refl
    go (Some e) some = let is = entry_is t n e some in absurd (released_kept t l n key index only absent e.0 e.1 is.0 is.1)
