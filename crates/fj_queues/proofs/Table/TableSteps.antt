-- Cells go from the chain of the free ones to an owner's, and back.
use Rattle.fj_queues.specs.declared.cells.Cell.{Cell}
use Rattle.fj_queues.specs.declared.ends.Ends.{Ends}
use Rattle.fj_queues.specs.Cells.{cell_at, serial_at, newer_at, IsWritten, NextFree}
use Rattle.fj_queues.specs.Chains.{head_or, Leads, IsChain, AreApart, IsQueue, OnlyThese, IsAppended, LosesFirst, LosesLast}
use Rattle.fj_queues.specs.Queues.{all_in, without_first, without_last}
use Rattle.fj_queues.specs.Tables.{no_ends, lists_of, times_named, IsTable}
use Rattle.fj_queues.proofs.Chains.Links.{times_here, times_at_front, times_at_end, one_named, split_first, split_last, without_pushed, newest_pushed, leads_kept}
use Rattle.fj_queues.proofs.Chains.TableLinks.{AreLinked, chain_in_all, two_in_all, lists_are, all_numbers, linked_anew, lists_anew, linked_still, lists_still}
use Rattle.fj_queues.proofs.Table.Counts.{all_in_written}
use Rattle.fj_rules.specs.Lists.{times_in, first_of, last_of}
use Rattle.std.specs.Prelude.{IfSome}
use Rattle.std.specs.List.{sum_by}
use Rattle.std.proofs.Common.{arith, ◌+◌, ℕ, zero, suc, inl, inr, ◌≡◌, ◌≢◌, ◌<◌, ◌≤◌, List, [], ◌∷◌, ◌++◌, length, get_or, map, Option, Some, None, ap, subst, sym, ◌∙◌, refl, length-append}
use Rattle.std.proofs.Math.ListN.{set}
use Rattle.std.proofs.lemmas.List.{map-append, get_or-map, length-map, length-set}
use Rattle.std.proofs.lemmas.List.Sums.{sum_by-set}

-- what is seen of an owner's chain
pub seen : (cells : List Cell) (free : Option ℕ) (ends : List Ends) (loose : List ℕ) (t : IsTable cells free ends loose) (o : ℕ) → o < length ends
    → get_or (lists_of cells ends) o [] ≡ map (serial_at cells) (get_or t.chains o [])
seen cells free ends loose t o within =
    ap (λ lists. get_or lists o []) (lists_are cells ends t.chains t.owners t.linked) ∙ get_or-map (map (serial_at cells)) t.chains o [] [] (omega (arith, t.owners))

pub len_seen : (cells : List Cell) (free : Option ℕ) (ends : List Ends) (loose : List ℕ) (t : IsTable cells free ends loose) (o : ℕ) → o < length ends
    → (e : Ends) → e ≡ get_or ends o no_ends → e.len ≡ length (get_or (lists_of cells ends) o [])
len_seen cells free ends loose t o within e is =
    omega (arith, ap (λ (x : Ends). x.len) is, (t.linked o within).counted, ap length (seen cells free ends loose t o within), length-map (get_or t.chains o []) (serial_at cells))

pub total_seen : (cells : List Cell) (free : Option ℕ) (ends : List Ends) (loose : List ℕ) (t : IsTable cells free ends loose) → all_in (lists_of cells ends) ≡ all_in t.chains
total_seen cells free ends loose t = ap all_in (lists_are cells ends t.chains t.owners t.linked) ∙ all_numbers (serial_at cells) t.chains

pub chain_of : (cells : List Cell) (free : Option ℕ) (ends : List Ends) (loose : List ℕ) (t : IsTable cells free ends loose) (o : ℕ) → o < length ends
    → (e : Ends) → e ≡ get_or ends o no_ends → IsChain cells e (get_or t.chains o [])
chain_of cells free ends loose t o within e is = subst (λ x. IsChain cells x (get_or t.chains o [])) (sym is) (t.linked o within)

pub apart_of : (cells : List Cell) (free : Option ℕ) (ends : List Ends) (loose : List ℕ) (t : IsTable cells free ends loose) (o : ℕ) → o < length ends
    → AreApart cells (get_or t.chains o [])
apart_of cells free ends loose t o within =
    record {
      once = λ c. omega (arith, t.once c, chain_in_all c t.chains o (omega (arith, t.owners)));
      within = λ c some. t.within c (omega (arith, chain_in_all c t.chains o (omega (arith, t.owners))));
    }

pub queue_of : (cells : List Cell) (free : Option ℕ) (ends : List Ends) (loose : List ℕ) (t : IsTable cells free ends loose) (o : ℕ) → o < length ends
    → (e : Ends) → e ≡ get_or ends o no_ends → IsQueue cells e
queue_of cells free ends loose t o within e is =
    record {
      chain = get_or t.chains o [];
      linked = chain_of cells free ends loose t o within e is;
      apart = apart_of cells free ends loose t o within;
    }

-- the first free cell is in the table
pub free_within : (cells : List Cell) (free : Option ℕ) (ends : List Ends) (loose : List ℕ) → IsTable cells free ends loose → IfSome free (λ c. c < length cells)
free_within cells free ends loose t = subst (λ f. IfSome f (λ c. c < length cells)) (sym t.first) (go t.spare t.within)
  where
    go : (spare : List ℕ) → ((c : ℕ) → 0 < times_named c t.chains spare loose → c < length cells) → IfSome (head_or None spare) (λ c. c < length cells)
    go [] within = tt
    go (s ∷ ss) within = within s (omega (arith, times_here s ss))

-- where no cell is free, all are in the chains of the owners
pub none_free : (cells : List Cell) (free : Option ℕ) (ends : List Ends) → (t : IsTable cells free ends []) → free ≡ None → length cells ≡ all_in (lists_of cells ends)
none_free cells free ends t none = go t.spare (sym t.first ∙ none) t.all
  where
    go : (spare : List ℕ) → head_or None spare ≡ None → all_in t.chains + (length spare + 0) ≡ length cells → length cells ≡ all_in (lists_of cells ends)
    go [] none all = omega (arith, total_seen cells free ends [] t)
    go (s ∷ ss) some all = absurd (cc)

-- a cell in no chain is in no owner's
pub loose_fresh : (cells : List Cell) (free : Option ℕ) (ends : List Ends) (n : ℕ) (t : IsTable cells free ends (n ∷ [])) → sum_by (times_in n) t.chains ≡ 0
loose_fresh cells free ends n t = omega (arith, t.once n, times_here n [])

-- a cell that is filled stands in no chain
pub filled_fresh : (old new : List Cell) (free later : Option ℕ) (ends : List Ends) (n : ℕ) (t : IsTable old free ends []) → NextFree old new free later n → sum_by (times_in n) t.chains ≡ 0
filled_fresh old new free later ends n t next = go t.spare t.once (subst (λ f. NextFree old new f later n) t.first next)
  where
    go : (spare : List ℕ) → ((c : ℕ) → times_named c t.chains spare [] ≤ 1) → NextFree old new (head_or None spare) later n → sum_by (times_in n) t.chains ≡ 0
    go [] once next = never (sum_by (times_in n) t.chains) refl
      where
        never : (k : ℕ) → sum_by (times_in n) t.chains ≡ k → sum_by (times_in n) t.chains ≡ 0
        never zero is = is
        never (suc k) is = let low = t.within n (omega (arith, is)) in absurd (omega (arith, next.0))
    go (s ∷ ss) once next = omega (arith, once n, times_here s ss, ap (λ d. times_in d (s ∷ ss)) next.0)

pub filled : (old new : List Cell) (free later : Option ℕ) (ends : List Ends) (n : ℕ) (cell : Cell) → IsTable old free ends [] → IsWritten old new n cell → NextFree old new free later n
    → IsTable new later ends (n ∷ [])
filled old new free later ends n cell t written next = go t.spare t.leads t.once t.within t.all (subst (λ f. NextFree old new f later n) t.first next)
  where
    fresh : sum_by (times_in n) t.chains ≡ 0
    fresh = filled_fresh old new free later ends n t next

    still : AreLinked new ends t.chains
    still = linked_still old new ends t.chains n cell t.owners t.linked written fresh

    go : (spare : List ℕ) → Leads (newer_at old) spare None → ((c : ℕ) → times_named c t.chains spare [] ≤ 1) → ((c : ℕ) → 0 < times_named c t.chains spare [] → c < length old)
        → all_in t.chains + (length spare + 0) ≡ length old → NextFree old new (head_or None spare) later n → IsTable new later ends (n ∷ [])
    go [] leads once within all next =
        record {
          chains = t.chains;
          owners = t.owners;
          linked = still;
          spare = [];
          first = next.1;
          leads = tt;
          once = λ c. elim (one_named c n) [
            | inl none ↦ omega (arith, once c)
            | inr here ↦ omega (arith, fresh, ap (λ d. sum_by (times_in d) t.chains) here.0)
          ];
          within = λ c some. elim (one_named c n) [
            | inl none ↦ omega (arith, within c (omega arith), next.2)
            | inr here ↦ omega (arith, next.0, next.2)
          ];
          all = omega (arith, next.2);
        }
    go (s ∷ ss) leads once within all next =
        let same : (c : ℕ) → times_in c (s ∷ ss) ≡ times_in c ss + times_in c (n ∷ []) = λ c. omega (arith, times_at_front c s ss, ap (λ d. times_in c (d ∷ [])) next.0) in
        record {
          chains = t.chains;
          owners = t.owners;
          linked = still;
          spare = ss;
          first = next.1 ∙ leads.0;
          leads = leads_kept (newer_at old) (newer_at new) ss None (λ c some. ap (λ (x : Cell). x.newer) (written.others c (λ is. omega (arith, once n, same n, times_here n [], ap (λ d. times_in d ss) is)))) leads.1;
          once = λ c. omega (arith, once c, same c);
          within = λ c some. omega (arith, within c (omega (arith, same c)), next.2);
          all = omega (arith, next.2);
        }

pub filled_lists : (old new : List Cell) (free later : Option ℕ) (ends : List Ends) (n : ℕ) (cell : Cell) → IsTable old free ends [] → IsWritten old new n cell → NextFree old new free later n
    → lists_of new ends ≡ lists_of old ends
filled_lists old new free later ends n cell t written next = lists_still old new ends t.chains n cell t.owners t.linked written (filled_fresh old new free later ends n t next)

-- a cell in no chain is given back
pub given : (old new : List Cell) (free : Option ℕ) (ends : List Ends) (n : ℕ) → IsTable old free ends (n ∷ []) → IsWritten old new n (record (cell_at old n) { newer = free }) → length new ≡ length old
    → IsTable new (Some n) ends []
given old new free ends n t written len =
    let front : (c : ℕ) → times_in c (n ∷ t.spare) ≡ times_in c t.spare + times_in c (n ∷ []) = λ c. omega (arith, times_at_front c n t.spare) in
    let other : (c : ℕ) → 0 < times_in c t.spare → c ≢ n = λ c some is. omega (arith, t.once n, times_here n [], ap (λ d. times_in d t.spare) is) in
    record {
      chains = t.chains;
      owners = t.owners;
      linked = linked_still old new ends t.chains n _ t.owners t.linked written (loose_fresh old free ends n t);
      spare = n ∷ t.spare;
      first = refl;
      leads = (ap (λ (x : Cell). x.newer) written.here ∙ t.first, leads_kept (newer_at old) (newer_at new) t.spare None (λ c some. ap (λ (x : Cell). x.newer) (written.others c (other c some))) t.leads);
      once = λ c. omega (arith, t.once c, front c);
      within = λ c some. omega (arith, t.within c (omega (arith, front c)), len);
      all = omega (arith, t.all, len);
    }

pub given_lists : (old new : List Cell) (free : Option ℕ) (ends : List Ends) (n : ℕ) (cell : Cell) → IsTable old free ends (n ∷ []) → IsWritten old new n cell → lists_of new ends ≡ lists_of old ends
given_lists old new free ends n cell t written = lists_still old new ends t.chains n cell t.owners t.linked written (loose_fresh old free ends n t)

-- one owner's chain is another one, and what it has lost or gained is in no chain then or was in none
pub moved : (old new : List Cell) (free : Option ℕ) (ends : List Ends) (loose later : List ℕ) (t : IsTable old free ends loose) (o : ℕ) (e : Ends) (cs touched : List ℕ)
    → o < length ends → length new ≡ length old → OnlyThese old new touched → IsChain new e cs
    → ((c : ℕ) → 0 < times_in c touched → 0 < times_in c (get_or t.chains o []) + times_in c loose)
    → ((c : ℕ) → times_in c cs + times_in c later ≡ times_in c (get_or t.chains o []) + times_in c loose)
    → length cs + length later ≡ length (get_or t.chains o []) + length loose
    → IsTable new free (set ends o e) later × (lists_of new (set ends o e) ≡ set (lists_of old ends) o (map (serial_at old) cs))
moved old new free ends loose later t o e cs touched within len only chain named same size =
    let there : o < length t.chains = omega (arith, t.owners) in
    let sum : (c : ℕ) → times_named c (set t.chains o cs) t.spare later ≡ times_named c t.chains t.spare loose =
    λ c. omega (arith, sum_by-set (times_in c) t.chains o cs [] there, same c) in
    let apart : (p c : ℕ) → p < length t.chains → p ≢ o → 0 < times_in c (get_or t.chains p []) → times_in c touched ≡ 0 =
    λ p c also other some. none_of c (times_in c touched) (λ touches. omega (arith, t.once c, named c touches, two_in_all c t.chains o p there also other)) in
    let linked = linked_anew old new ends t.chains o e cs touched t.owners t.linked within only chain apart in (
      record {
        chains = set t.chains o cs;
        owners = omega (arith, t.owners, length-set t.chains o cs, length-set ends o e);
        linked = linked;
        spare = t.spare;
        first = t.first;
        leads = leads_kept (newer_at old) (newer_at new) t.spare None (λ c some. only.newer_stays c (none_of c (times_in c touched) (λ touches. omega (arith, t.once c, named c touches, chain_in_all c t.chains o there)))) t.leads;
        once = λ c. omega (arith, t.once c, sum c);
        within = λ c some. omega (arith, t.within c (omega (arith, sum c)), len);
        all = omega (arith, t.all, len, all_in_written t.chains o cs there);
      },
      lists_anew old new ends t.chains o e cs t.owners t.linked linked only.serials_stay,
    )
  where
    none_of : (c k : ℕ) → (0 < k → ⊥) → k ≡ 0
    none_of c zero none = refl
    none_of c (suc k) none = absurd (none (omega arith))

-- a cell in no chain goes to the new end of an owner's
pub pushed : (old new : List Cell) (free : Option ℕ) (ends : List Ends) (n o : ℕ) (e later : Ends) (t : IsTable old free ends (n ∷ []))
    → o < length ends → e ≡ get_or ends o no_ends → length new ≡ length old → IsAppended old new e later n
    → IsTable new free (set ends o later) [] × (lists_of new (set ends o later) ≡ set (lists_of old ends) o (get_or (lists_of old ends) o [] ++ serial_at old n ∷ []))
pushed old new free ends n o e later t within is len appended =
    let cs = get_or t.chains o [] in
    let fresh : times_in n cs ≡ 0 = omega (arith, loose_fresh old free ends n t, chain_in_all n t.chains o (omega (arith, t.owners))) in
    let both = appended cs (chain_of old free ends (n ∷ []) t o within e is) (apart_of old free ends (n ∷ []) t o within) fresh in
    let all = moved old new free ends (n ∷ []) [] t o later (cs ++ n ∷ []) (cs ++ n ∷ []) within len both.1 both.0
    (λ c touches. omega (arith, times_at_end c n cs)) (λ c. omega (arith, times_at_end c n cs)) (omega (arith, length-append cs (n ∷ []))) in
    let shown = map-append (serial_at old) cs (n ∷ []) ∙ ap (λ ts. ts ++ serial_at old n ∷ []) (sym (seen old free ends (n ∷ []) t o within)) in
    (all.0, all.1 ∙ ap (set (lists_of old ends) o) shown)

-- the first cell of an owner's chain goes out of it
pub first_moved : (old new : List Cell) (free : Option ℕ) (ends : List Ends) (n o : ℕ) (e later : Ends) (t : IsTable old free ends [])
    → o < length ends → e ≡ get_or ends o no_ends → length new ≡ length old → e.oldest ≡ Some n → LosesFirst old new e later n
    → IsTable new free (set ends o later) (n ∷ [])
    × (lists_of new (set ends o later) ≡ set (lists_of old ends) o (without_first (get_or (lists_of old ends) o [])))
    × (Some (serial_at new n) ≡ first_of (get_or (lists_of old ends) o []))
first_moved old new free ends n o e later t within is len first lost =
    let chain = chain_of old free ends [] t o within e is in
    let split = split_first n (get_or t.chains o []) (sym chain.oldest ∙ first) in
    let cs = split.0 in
    let both = lost cs (subst (IsChain old e) split.1 chain) (subst (AreApart old) split.1 (apart_of old free ends [] t o within)) in
    let all = moved old new free ends [] (n ∷ []) t o later cs (n ∷ cs) within len both.1 both.0
    (λ c touches. omega (arith, ap (times_in c) split.1)) (λ c. omega (arith, ap (times_in c) split.1, times_at_front c n cs)) (omega (arith, ap length split.1)) in
    let shown : map (serial_at old) (n ∷ cs) ≡ get_or (lists_of old ends) o [] = sym (seen old free ends [] t o within ∙ ap (map (serial_at old)) split.1) in
    (all.0, all.1 ∙ ap (λ ts. set (lists_of old ends) o (without_first ts)) shown, ap Some (both.1.serials_stay n) ∙ ap first_of shown)

-- the last cell of an owner's chain goes out of it
pub last_moved : (old new : List Cell) (free : Option ℕ) (ends : List Ends) (n o : ℕ) (e later : Ends) (t : IsTable old free ends [])
    → o < length ends → e ≡ get_or ends o no_ends → length new ≡ length old → e.newest ≡ Some n → LosesLast old new e later n
    → IsTable new free (set ends o later) (n ∷ [])
    × (lists_of new (set ends o later) ≡ set (lists_of old ends) o (without_last (get_or (lists_of old ends) o [])))
    × (Some (serial_at new n) ≡ last_of (get_or (lists_of old ends) o []))
last_moved old new free ends n o e later t within is len last lost =
    let chain = chain_of old free ends [] t o within e is in
    let split = split_last n (get_or t.chains o []) (sym chain.newest ∙ last) in
    let cs = split.0 in
    let both = lost cs (subst (IsChain old e) split.1 chain) (subst (AreApart old) split.1 (apart_of old free ends [] t o within)) in
    let all = moved old new free ends [] (n ∷ []) t o later cs (cs ++ n ∷ []) within len both.1 both.0
    (λ c touches. omega (arith, ap (times_in c) split.1)) (λ c. omega (arith, ap (times_in c) split.1, times_at_end c n cs)) (omega (arith, ap length split.1, length-append cs (n ∷ []))) in
    let shown : map (serial_at old) cs ++ serial_at old n ∷ [] ≡ get_or (lists_of old ends) o [] =
    sym (seen old free ends [] t o within ∙ ap (map (serial_at old)) split.1 ∙ map-append (serial_at old) cs (n ∷ [])) in (
      all.0,
      all.1 ∙ ap (set (lists_of old ends) o) (sym (without_pushed (map (serial_at old) cs) (serial_at old n)) ∙ ap without_last shown),
      ap Some (both.1.serials_stay n) ∙ sym (newest_pushed (map (serial_at old) cs) (serial_at old n)) ∙ ap last_of shown,
    )
