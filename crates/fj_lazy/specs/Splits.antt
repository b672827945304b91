-- What a lazy body still has to do.
use Rattle.std.specs.Prelude.{ℕ, ◌≡◌, ◌+◌, ◌*◌, ⊤, List, length}
use Rattle.fj_lazy.specs.declared.part.Inner.{Inner}
use Rattle.fj_lazy.specs.declared.part.Outer.{Outer}
use Rattle.fj_lazy.specs.declared.part.LazyStage.{LazyStage}
use Rattle.fj_lazy.specs.declared.part.LazyStage.TheVariants.{Going, Forking, Waiting, Skipping, Leaving, Over}
use Rattle.fj_lazy.specs.PartsAside.{around, beside, outside, whole, forked_in}

-- the parts, and those inside them, give the value w; what goes on after a fork is a leaf
abbrev pub Gives : {J K O : Type 0} → (J → K) → (K → O) → (J → O) → (O → O → O) → List (Outer J K O) → List (Inner J K O) → LazyStage J K O → O → Type 0
Gives key_of value leaf_of combined outers inners (Going j) w = whole key_of value combined outers inners (value (key_of j)) ≡ w
Gives key_of value leaf_of combined outers inners (Forking k j) w =
    (around (outside value combined) outers (combined (around (beside key_of value combined) inners (value (key_of j))) (value k)) ≡ w)
    × (value (key_of j) ≡ leaf_of j)
Gives key_of value leaf_of combined outers inners (Waiting t k v) w = whole key_of value combined outers inners (combined v (value k)) ≡ w
Gives key_of value leaf_of combined outers inners (Skipping v) w = whole key_of value combined outers inners v ≡ w
Gives key_of value leaf_of combined outers inners (Leaving code) w = ⊤
Gives key_of value leaf_of combined outers inners Over w = ⊤

-- while a half is forked there is room for it, whether it is forked or handed back
abbrev pub HasRoom : {J K O : Type 0} → LazyStage J K O → Type 0 → Type 0
HasRoom (Forking k v) room = room
HasRoom _ room = ⊤

-- the most turns left where these are to be released, and so many forks may still be asked for
abbrev pub turns_to_leave : {J K O : Type 0} → ℕ → List (Outer J K O) → ℕ
turns_to_leave forks outers = 3 * forks + length (forked_in outers)

-- the same where they are to be joined
abbrev pub turns_left : {J K O : Type 0} → ℕ → List (Outer J K O) → ℕ
turns_left forks outers = turns_to_leave forks outers + 1

abbrev pub turns_of : {J K O : Type 0} → ℕ → List (Outer J K O) → LazyStage J K O → ℕ
turns_of forks outers (Going j) = turns_left forks outers
turns_of forks outers (Forking k v) = turns_left forks outers + 1
turns_of forks outers (Waiting t k v) = turns_left forks outers
turns_of forks outers (Skipping v) = turns_left forks outers
turns_of forks outers (Leaving code) = turns_to_leave forks outers
turns_of forks outers Over = turns_to_leave forks outers
