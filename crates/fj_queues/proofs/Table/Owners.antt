-- The owners of a table, as contracts see them.
use Rattle.fj_queues.specs.declared.cells.Cell.{Cell}
use Rattle.fj_queues.specs.declared.ends.Ends.{Ends}
use Rattle.fj_queues.specs.Queues.{Lists}
use Rattle.fj_queues.specs.Tables.{no_ends, numbers_from, lists_of, IsTable}
use Rattle.fj_queues.proofs.Table.Counts.{none_in}
use Rattle.fj_rules.specs.Lists.{times_in}
use Rattle.std.proofs.Common.{arith, ap, ℕ, zero, suc, List, [], ◌∷◌, Option, None, ◌≡◌, ◌<◌, ◌∙◌, length, replicate, refl}
use Rattle.std.proofs.lemmas.List.{length-map, length-replicate, get_or-replicate}
use Rattle.std.proofs.lemmas.List.Folds.{sum_by-replicate}

pub owner_within : (cells : List Cell) (ends : List Ends) (room : ℕ) (qs : Lists) (o : ℕ) → record { lists = lists_of cells ends; room = room } ≡ qs → o < length qs.lists → o < length ends
owner_within cells ends room qs o is within =
    omega (arith, ap (λ (x : Lists). length x.lists) is, length-map ends (λ e. numbers_from cells e.len e.oldest))

pub list_within : (cells : List Cell) (ends : List Ends) (o : ℕ) → o < length ends → o < length (lists_of cells ends)
list_within cells ends o within = omega (arith, length-map ends (λ e. numbers_from cells e.len e.oldest))

-- as long as no number was pushed
pub none_linked : (cells : List Cell) (free : Option ℕ) (ends : List Ends) (n : ℕ) → cells ≡ [] → free ≡ None → ends ≡ replicate n no_ends → IsTable cells free ends []
none_linked cells free ends n empty none is =
    let few : length ends ≡ n = ap length is ∙ length-replicate n no_ends in
    let chains : List (List ℕ) = replicate n [] in
    let named = λ (c : ℕ). sum_by-replicate (times_in c) n [] in
    record {
      chains = chains;
      owners = omega (arith, few, length-replicate n (let cs : List ℕ = [] in cs));
      linked = λ o within. rw (is, get_or-replicate n o no_ends no_ends (omega arith), get_or-replicate n o (let cs : List ℕ = [] in cs) [] (omega arith)) (record { oldest = refl; newest = refl; counted = refl; leads = tt; follows = tt });
      spare = [];
      first = none;
      leads = tt;
      once = λ c. omega (arith, named c);
      within = λ c some. absurd (omega (arith, named c));
      all = omega (arith, none_in n, ap length empty);
    }

pub none_listed : (cells : List Cell) (ends : List Ends) (n : ℕ) → ends ≡ replicate n no_ends → lists_of cells ends ≡ replicate n []
none_listed cells ends n is = ap (lists_of cells) is ∙ go n
  where
    go : (m : ℕ) → lists_of cells (replicate m no_ends) ≡ replicate m []
    go zero = refl
    go (suc m) = ap (λ (lists : List (List ℕ)). [] ∷ lists) (go m)
