-- The next job of a lazy body.
use Rattle.std.specs.Prelude.{ℕ, ◌≡◌, List}
use Rattle.fj_lazy.specs.declared.part.Inner.{Inner}
use Rattle.fj_lazy.specs.declared.part.Outer.{Outer}
use Rattle.fj_lazy.specs.PartsAside.{forked_in, whole}

-- with the parts it gives this value of the whole; nothing was forked
pub record HasNext {J K O : Type 0} (key_of : J → K) (value : K → O) (combined : O → O → O) (total : O) (forks : ℕ) (olds : List (Outer J K O)) (new_forks : ℕ) (outers : List (Outer J K O)) (inners : List (Inner J K O)) (next : J) : Type 0 where
  pub gives : whole key_of value combined outers inners (value (key_of next)) ≡ total
  pub same_tasks : forked_in olds ≡ forked_in outers
  pub same_forks : new_forks ≡ forks
