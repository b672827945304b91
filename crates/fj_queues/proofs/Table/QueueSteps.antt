-- What a push and a take do to the table, step by step.
use Rattle.fj_queues.specs.declared.cells.Cell.{Cell}
use Rattle.fj_queues.specs.declared.ends.Ends.{Ends}
use Rattle.fj_queues.specs.Cells.{cell_at, serial_at, IsWritten, NextFree}
use Rattle.fj_queues.specs.Chains.{head_or, last_or, IsAppended, LosesFirst, LosesLast}
use Rattle.fj_queues.specs.Queues.{all_in, without_first, without_last}
use Rattle.fj_queues.specs.Tables.{no_ends, lists_of, IsTable}
use Rattle.fj_queues.proofs.Chains.Links.{times_here, last_found}
use Rattle.fj_queues.proofs.Table.TableSteps.{seen, chain_of, filled, filled_lists, given, given_lists, pushed, first_moved, last_moved}
use Rattle.fj_queues.proofs.Table.Counts.{all_in_written, one_in_all}
use Rattle.fj_rules.specs.Lists.{first_of, last_of}
use Rattle.std.proofs.Common.{arith, ◌+◌, ◌-◌, ℕ, ◌≡◌, ◌<◌, ◌≤◌, List, [], ◌∷◌, ◌++◌, length, get_or, map, Option, Some, None, ap, sym, ◌∙◌, refl}
use Rattle.std.proofs.Math.ListN.{set}
use Rattle.std.proofs.lemmas.List.{length_push, length-drop, length-take}
use Rattle.std.proofs.lemmas.Option.{slice_get_within}

-- a cell in no chain is in the table
pub loose_within : (cells : List Cell) (free : Option ℕ) (ends : List Ends) (n : ℕ) → IsTable cells free ends (n ∷ []) → n < length cells
loose_within cells free ends n t = t.within n (omega (arith, times_here n []))

-- while a cell is in no chain, no queue has all cells
pub len_below : (cells : List Cell) (free : Option ℕ) (ends : List Ends) (n o : ℕ) (e : Ends) → IsTable cells free ends (n ∷ []) → o < length ends → e ≡ get_or ends o no_ends → e.len < length cells
len_below cells free ends n o e t within is =
    omega (arith, (chain_of cells free ends (n ∷ []) t o within e is).counted, one_in_all t.chains o (omega (arith, t.owners)), t.all)

-- a cell that is filled is within the room
pub grown : (old new : List Cell) (free later : Option ℕ) (n room : ℕ) → NextFree old new free later n → (free ≡ None → length old < room) → length old ≤ room → length new ≤ room
grown old new None later n room next few within = let few = few refl in omega (arith, next.2)
grown old new (Some first) later n room next few within = omega (arith, next.2)

pub push_steps : (old mid new : List Cell) (free later : Option ℕ) (ends : List Ends) (n o : ℕ) (e after : Ends) (cell : Cell)
    → IsTable old free ends [] → o < length ends → e ≡ get_or ends o no_ends → IsWritten old mid n cell → NextFree old mid free later n
    → IsAppended mid new e after n → length new ≡ length mid
    → IsTable new later (set ends o after) [] × (lists_of new (set ends o after) ≡ set (lists_of old ends) o (get_or (lists_of old ends) o [] ++ cell.serial ∷ []))
push_steps old mid new free later ends n o e after cell t within is written next appended len =
    let both = pushed mid new later ends n o e after (filled old mid free later ends n cell t written next) within is len appended in
    let same = filled_lists old mid free later ends n cell t written next in (
      both.0,
      both.1
          ∙ ap (λ (lists : List (List ℕ)). set lists o (get_or lists o [] ++ serial_at mid n ∷ [])) same
          ∙ ap (λ (x : Cell). set (lists_of old ends) o (get_or (lists_of old ends) o [] ++ x.serial ∷ [])) written.here,
    )

pub take_old_steps : (old mid new : List Cell) (free : Option ℕ) (ends : List Ends) (n o : ℕ) (e after : Ends)
    → IsTable old free ends [] → o < length ends → e ≡ get_or ends o no_ends → e.oldest ≡ Some n → LosesFirst old mid e after n → length mid ≡ length old
    → IsWritten mid new n (record (cell_at mid n) { newer = free }) → length new ≡ length mid
    → IsTable new (Some n) (set ends o after) []
    × (lists_of new (set ends o after) ≡ set (lists_of old ends) o (without_first (get_or (lists_of old ends) o [])))
    × (Some (serial_at mid n) ≡ first_of (get_or (lists_of old ends) o []))
take_old_steps old mid new free ends n o e after t within is first lost kept written len =
    let moved = first_moved old mid free ends n o e after t within is kept first lost in
    (given mid new free (set ends o after) n moved.0 written len, given_lists mid new free (set ends o after) n _ moved.0 written ∙ moved.1, moved.2)

pub take_new_steps : (old mid new : List Cell) (free : Option ℕ) (ends : List Ends) (n o : ℕ) (e after : Ends)
    → IsTable old free ends [] → o < length ends → e ≡ get_or ends o no_ends → e.newest ≡ Some n → LosesLast old mid e after n → length mid ≡ length old
    → IsWritten mid new n (record (cell_at mid n) { newer = free }) → length new ≡ length mid
    → IsTable new (Some n) (set ends o after) []
    × (lists_of new (set ends o after) ≡ set (lists_of old ends) o (without_last (get_or (lists_of old ends) o [])))
    × (Some (serial_at mid n) ≡ last_of (get_or (lists_of old ends) o []))
take_new_steps old mid new free ends n o e after t within is last lost kept written len =
    let moved = last_moved old mid free ends n o e after t within is kept last lost in
    (given mid new free (set ends o after) n moved.0 written len, given_lists mid new free (set ends o after) n _ moved.0 written ∙ moved.1, moved.2)

-- a queue without an oldest cell is empty, and so is one without a newest
pub no_oldest : (cells : List Cell) (free : Option ℕ) (ends : List Ends) (o : ℕ) (e : Ends) → IsTable cells free ends [] → o < length ends → e ≡ get_or ends o no_ends → e.oldest ≡ None
    → get_or (lists_of cells ends) o [] ≡ []
no_oldest cells free ends o e t within is none =
    seen cells free ends [] t o within ∙ go (get_or t.chains o []) (sym (chain_of cells free ends [] t o within e is).oldest ∙ none)
  where
    go : (cs : List ℕ) → head_or None cs ≡ None → map (serial_at cells) cs ≡ []
    go [] none = refl
    go (c ∷ cs) none = absurd (cc)

pub no_newest : (cells : List Cell) (free : Option ℕ) (ends : List Ends) (o : ℕ) (e : Ends) → IsTable cells free ends [] → o < length ends → e ≡ get_or ends o no_ends → e.newest ≡ None
    → get_or (lists_of cells ends) o [] ≡ []
no_newest cells free ends o e t within is none =
    seen cells free ends [] t o within ∙ go (get_or t.chains o []) (sym (chain_of cells free ends [] t o within e is).newest ∙ none)
  where
    go : (cs : List ℕ) → last_or None cs ≡ None → map (serial_at cells) cs ≡ []
    go [] none = refl
    go (c ∷ cs) none = absurd (last_found c cs none)

-- how many numbers there are then
pub count_pushed : (lists later : List (List ℕ)) (o t : ℕ) → o < length lists → later ≡ set lists o (get_or lists o [] ++ t ∷ []) → all_in later ≡ all_in lists + 1
count_pushed lists later o t within is =
    omega (arith, ap all_in is, all_in_written lists o (get_or lists o [] ++ t ∷ []) within, length_push (get_or lists o []) t)

pub count_without_first : (lists later : List (List ℕ)) (o t : ℕ) → o < length lists → Some t ≡ first_of (get_or lists o []) → later ≡ set lists o (without_first (get_or lists o []))
    → all_in later + 1 ≡ all_in lists
count_without_first lists later o t within first is =
    omega (arith, ap all_in is, all_in_written lists o (without_first (get_or lists o [])) within, length-drop 1 (get_or lists o []), slice_get_within (get_or lists o []) 0 t (sym first))

pub count_without_last : (lists later : List (List ℕ)) (o t : ℕ) → o < length lists → Some t ≡ last_of (get_or lists o []) → later ≡ set lists o (without_last (get_or lists o []))
    → all_in later + 1 ≡ all_in lists
count_without_last lists later o t within last is =
    let ts = get_or lists o [] in
    omega (arith, ap all_in is, all_in_written lists o (without_last ts) within, length-take (length ts - 1) ts, slice_get_within ts (length ts - 1) t (sym last))
