-- The tasks of the left halves, with one more left half.
use Rattle.std.specs.Prelude.{ℕ}
use Rattle.std.proofs.Common.{◌≡◌, List, [], ◌∷◌, ◌++◌, refl}
use Rattle.fj_body.specs.declared.body.Ask.{Ask}
use Rattle.fj_body.specs.declared.body.Heard.{Heard}
use Rattle.fj_body.specs.declared.body.Heard.TheVariants as hears
use Rattle.fj_recursive.specs.declared.recursive_stage.Left.{Left}
use Rattle.fj_recursive.specs.declared.recursive_stage.Left.TheVariants.{Forked, Done}
use Rattle.fj_recursive.specs.declared.recursive_stage.RecursiveStage.TheVariants.{Waiting}
use Rattle.fj_lazy.specs.Asks.{JoinsOwn}
use Rattle.fj_lazy.proofs.Joins.{forked_more, forked_same}
use Rattle.fj_recursive.specs.Asks.{forked_by, forked_in, task_of}

pub joins_forked : {B J K O : Type 0} (lefts : List (Left J K O)) (t : ℕ) (k : K) (news : List ℕ) (ask : Ask B K O) → JoinsOwn (forked_in (lefts ++ Forked t k ∷ [])) news ask → JoinsOwn (forked_in lefts ++ t ∷ []) news ask
joins_forked lefts t k news ask joins = rw (forked_more task_of (lefts ++ Forked t k ∷ []) lefts (Forked t k) t refl refl) at joins

pub joins_done : {B J K O : Type 0} (lefts : List (Left J K O)) (o : O) (news : List ℕ) (ask : Ask B K O) → JoinsOwn (forked_in (lefts ++ Done o ∷ [])) news ask → JoinsOwn (forked_in lefts) news ask
joins_done lefts o news ask joins = rw (forked_same task_of (lefts ++ Done o ∷ []) lefts (Done o) refl refl) at joins

-- where no result is heard the task that was to be joined is the last one
pub lets_go_last : {B J K O : Type 0} (lefts : List (Left J K O)) (t : ℕ) (k : K) (v : O) (heard : Heard B K O) → ((key : K) (out : O) → heard ≡ hears.Got key out → ⊥) → forked_by lefts (Waiting t k v) heard ≡ forked_in lefts ++ t ∷ []
lets_go_last lefts t k v (hears.Got key out) none = absurd (none key out refl)
lets_go_last lefts t k v (hears.Start u) none = refl
lets_go_last lefts t k v (hears.Hook u) none = refl
lets_go_last lefts t k v (hears.Task u) none = refl
lets_go_last lefts t k v (hears.Handed body refusal) none = refl
lets_go_last lefts t k v hears.Bare none = refl
lets_go_last lefts t k v (hears.Failed code) none = refl
lets_go_last lefts t k v hears.Cancelled none = refl
lets_go_last lefts t k v (hears.Refused refusal) none = refl
lets_go_last lefts t k v (hears.Helped ran) none = refl
lets_go_last lefts t k v (hears.Count n) none = refl
lets_go_last lefts t k v hears.Went none = refl
lets_go_last lefts t k v hears.Yes none = refl
lets_go_last lefts t k v hears.No none = refl
lets_go_last lefts t k v (hears.Is place status) none = refl
