-- What a lazy body asks.
use Rattle.std.specs.Prelude.{ℕ, ◌≡◌, ⊤, List, [], ◌∷◌, ◌++◌}
use Rattle.fj_rules.specs.declared.kind.Kind.TheVariants.{Plain}
use Rattle.fj_body.specs.declared.body.Heard.{Heard}
use Rattle.fj_body.specs.declared.body.Heard.TheVariants as hears
use Rattle.fj_body.specs.declared.body.Ask.{Ask}
use Rattle.fj_body.specs.declared.body.Ask.TheVariants.{Fork, Join, Release, Ok as AskOk, Fail}
use Rattle.fj_body.specs.Turns.{AskRight, Nearer}
use Rattle.fj_lazy.specs.declared.part.Inner.{Inner}
use Rattle.fj_lazy.specs.declared.part.Outer.{Outer}
use Rattle.fj_lazy.specs.declared.part.LazyStage.{LazyStage}
use Rattle.fj_lazy.specs.declared.part.LazyStage.TheVariants.{Forking, Waiting}
use Rattle.fj_lazy.specs.PartsAside.{forked_in}

-- only this: to fork a plain task, to join a task or release it, to end with a result or a code
abbrev pub AsksAsJob : {B K O : Type 0} → Ask B K O → Type 0
AsksAsJob (Fork body kind) = kind ≡ Plain
AsksAsJob (Join t) = ⊤
AsksAsJob (Release t) = ⊤
AsksAsJob (AskOk out) = ⊤
AsksAsJob (Fail code) = ⊤
AsksAsJob _ = ⊥

-- the tasks that were forked, and are neither joined nor released, once this is heard
abbrev pub forked_by : {B J K O : Type 0} → List (Outer J K O) → LazyStage J K O → Heard B K O → List ℕ
forked_by parts (Forking k j) (hears.Task t) = forked_in parts ++ t ∷ []
forked_by parts (Waiting t k v) (hears.Got heard out) = forked_in parts
forked_by parts (Waiting t k v) _ = forked_in parts ++ t ∷ []
forked_by parts _ _ = forked_in parts

-- of these tasks it joins or releases the last one, and keeps the others; it ends only where there is none
abbrev pub JoinsOwn : {B K O : Type 0} → List ℕ → List ℕ → Ask B K O → Type 0
JoinsOwn olds news (Join t) = olds ≡ news ++ t ∷ []
JoinsOwn olds news (Release t) = olds ≡ news ++ t ∷ []
JoinsOwn olds news (AskOk out) = olds ≡ []
JoinsOwn olds news (Fail code) = olds ≡ []
JoinsOwn olds news _ = olds ≡ news

-- where it joins it holds no half that nobody has begun
abbrev pub HoldsNothing : {B J K O : Type 0} → List (Inner J K O) → Ask B K O → Type 0
HoldsNothing inners (Join t) = inners ≡ []
HoldsNothing inners _ = ⊤

-- it asks so, rightly for its key; it comes nearer to its ending, from so many turns to so many; of the tasks that it forked, these are kept
pub record AsksOn {B K O : Type 0} (value : K → O) (key : K) (turns turns_left : ℕ) (forked kept : List ℕ) (ask : Ask B K O) : Type 0 where
  pub rightly : AskRight (λ k o. o ≡ value k) key ask
  pub nearer : Nearer turns_left turns ask
  pub as_job : AsksAsJob ask
  pub joins : JoinsOwn forked kept ask
