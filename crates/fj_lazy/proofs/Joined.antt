-- What is joined, with one more part.
use Rattle.std.proofs.Common.{ℕ, ◌≡◌, ◌≤◌, ◌+◌, List, [], ◌∷◌, ◌++◌, ap, arith, length, length-append, refl}
use Rattle.fj_body.specs.declared.body.Ask.{Ask}
use Rattle.fj_lazy.specs.declared.part.Outer.{Outer}
use Rattle.fj_lazy.specs.declared.part.Outer.TheVariants.{Done, Forked}
use Rattle.fj_lazy.specs.Asks.{JoinsOwn}
use Rattle.fj_lazy.specs.PartsAside.{forked_in, task_of}
use Rattle.fj_lazy.proofs.Joins.{forked_more, forked_same}

pub joins_forked : {B J K O : Type 0} (outers : List (Outer J K O)) (t : ℕ) (k : K) (news : List ℕ) (ask : Ask B K O) → JoinsOwn (forked_in (outers ++ Forked t k ∷ [])) news ask → JoinsOwn (forked_in outers ++ t ∷ []) news ask
joins_forked outers t k news ask joins = rw (forked_more task_of (outers ++ Forked t k ∷ []) outers (Forked t k) t refl refl) at joins

-- one more part is at most one more task
pub forked_count : {J K O : Type 0} (all outers : List (Outer J K O)) (p : Outer J K O) → all ≡ outers ++ p ∷ [] → length (forked_in all) ≤ length (forked_in outers) + 1
forked_count all outers (Forked t k) e =
    let more : length (forked_in all) ≡ length (forked_in outers ++ t ∷ []) = ap length (forked_more task_of all outers (Forked t k) t e refl) in
    rw (more, length-append) (omega arith)
forked_count all outers (Done o) e = let same = ap length (forked_same task_of all outers (Done o) e refl) in omega (arith, same)
