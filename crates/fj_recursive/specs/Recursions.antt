-- What a body of a job still has to do.
use Rattle.std.specs.Prelude.{ℕ, ◌≡◌, ◌+◌, ◌*◌, ⊤, List, [], ◌∷◌, Option, None, Some, map, MatchOption}
use Rattle.fj_recursive.specs.declared.recursive_stage.Left.{Left}
use Rattle.fj_recursive.specs.declared.recursive_stage.Left.TheVariants.{Forked, Done}
use Rattle.fj_recursive.specs.declared.recursive_stage.RecursiveStage.{RecursiveStage}
use Rattle.fj_recursive.specs.declared.recursive_stage.RecursiveStage.TheVariants.{Going, Forking, Waiting, Leaving, Over}

-- the value of a left half
abbrev pub left_value : {J K O : Type 0} → (K → O) → Left J K O → O
left_value value (Forked t k) = value k
left_value value (Done o) = o

-- the values of the left halves, combined from the right with the value of everything right of them
abbrev pub tail_value : {O : Type 0} → (O → O → O) → List O → O → O
tail_value combined [] v = v
tail_value combined (x ∷ xs) v = combined x (tail_value combined xs v)

-- the value of everything right of the left halves
abbrev pub rest_value : {J K O : Type 0} → (J → K) → (K → O) → (O → O → O) → RecursiveStage J K O → Option O
rest_value key_of value combined (Going j) = Some (value (key_of j))
rest_value key_of value combined (Forking j k) = Some (combined (value k) (value (key_of j)))
rest_value key_of value combined (Waiting t k v) = Some (combined (value k) v)
rest_value key_of value combined (Leaving code) = None
rest_value key_of value combined Over = None

-- the left halves, and everything right of them, give the value w
abbrev pub Gives : {J K O : Type 0} → (J → K) → (K → O) → (O → O → O) → List (Left J K O) → RecursiveStage J K O → O → Type 0
Gives key_of value combined lefts stage w =
    MatchOption (rest_value key_of value combined stage) ⊤ (λ v. tail_value combined (map (left_value value) lefts) v ≡ w)

-- while a left half is forked there is room for it, whether it is forked or handed back
abbrev pub HasRoom : {J K O : Type 0} → RecursiveStage J K O → Type 0 → Type 0
HasRoom (Forking j k) room = room
HasRoom _ room = ⊤

-- how many turns are left, at most
abbrev pub turns_of : {J K O : Type 0} → (J → ℕ) → ℕ → RecursiveStage J K O → ℕ
turns_of size waiting (Going j) = 4 * size j + 2 * waiting + 2
turns_of size waiting (Forking j k) = 4 * size j + 2 * waiting + 5
turns_of size waiting (Waiting t k v) = 2 * waiting + 1
turns_of size waiting (Leaving code) = waiting
turns_of size waiting Over = waiting
