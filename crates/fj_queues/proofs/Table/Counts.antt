-- How many numbers stand in all queues.
use Rattle.fj_queues.specs.Queues.{all_in}
use Rattle.std.proofs.Common.{arith, zero, suc, ◌+◌, ℕ, ◌≡◌, ◌<◌, ◌≤◌, List, [], length, get_or, replicate, refl}
use Rattle.std.proofs.Math.ListN.{set}
use Rattle.std.proofs.lemmas.List.Sums.{sum_by-set}

-- a queue's list, changed, changes how many numbers stand in all by as many
pub all_in_written : (lists : List (List ℕ)) (o : ℕ) (ts : List ℕ) → o < length lists
    → all_in (set lists o ts) + length (get_or lists o []) ≡ all_in lists + length ts
all_in_written lists o ts within = sum_by-set length lists o ts [] within

-- no queue has more numbers than all have together
pub one_in_all : (lists : List (List ℕ)) (o : ℕ) → o < length lists → length (get_or lists o []) ≤ all_in lists
one_in_all lists o within = let all = all_in_written lists o [] within in omega arith

pub none_in : (n : ℕ) → all_in (replicate n []) ≡ 0
none_in zero = refl
none_in (suc n) = none_in n
