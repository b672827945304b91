-- What holds of a play at its heading, and stays so at each line, holds of every play.
use Rattle.std.specs.Prelude.{Bool, true, false, option_map, if◌then◌else◌}
use Rattle.std.specs.Option.{option_and_then}
use Rattle.std.proofs.Common.{ℕ, ◌≡◌, List, [], ◌∷◌, refl, subst, Option, Some, None}
use Rattle.fj_rules.specs.Bounds.{Pool}
use Rattle.fj_lines.proofs.Reading.PartLaws.{some_is}
use Rattle.fj_lines.specs.Headings.{pool_in, start}
use Rattle.fj_replay.specs.declared.task_naming.TaskNaming.{TaskNaming}
use Rattle.fj_replay.specs.declared.task_naming.TaskNaming.TheVariants.{Numbers, Names}
use Rattle.fj_replay.specs.declared.asked.Asked.{Asked}
use Rattle.fj_replay.specs.declared.script_stage.ScriptStage.{ScriptStage}
use Rattle.fj_replay.specs.declared.script_stage.ScriptStage.TheVariants.{Start, Titled, Plays, Old, Rewrites}
use Rattle.fj_replay.specs.Plays.{Play, asked_in, play_after, is_title}
use Rattle.fj_replay.specs.Scripts.{stage_from}
use Rattle.fj_replay.specs.Stages.{opened}

-- it stays so at a line
abbrev pub Stays : (Play → Type 0) → Type 0
Stays P = (play : Play) (line : List ℕ) (asked : Asked) → asked_in play.naming line ≡ Some asked → P play → P (play_after play asked)

-- it holds at a heading too, of either version
pub record IsKept (P : Play → Type 0) : Type 0 where
  pub numbers : (p : Pool) → P (record { past = start p; naming = Numbers })
  pub names : (p : Pool) → P (record { past = start p; naming = Names [] })
  pub more : Stays P

-- where there is a play, it holds of it
abbrev pub Holds : (Play → Type 0) → ScriptStage → Type 0
Holds P Start = Unit {0}
Holds P Titled = Unit {0}
Holds P (Plays play) = P play
Holds P Old = ⊥
Holds P (Rewrites past) = ⊥

there : (P : Play → Type 0) (play : Play) (o : Option Asked) (t : ScriptStage) (ls : List (List ℕ)) → ((asked : Asked) → o ≡ Some asked → stage_from (Plays (play_after play asked)) ls ≡ Some t → Holds P t)
    → option_and_then (λ n. stage_from n ls) (option_map (λ asked. Plays (play_after play asked)) o) ≡ Some t → Holds P t
there P play None t ls each e = absurd cc
there P play (Some asked) t ls each e = each asked refl e

-- behind a play of which it holds
pub holds_later : (P : Play → Type 0) (play : Play) (t : ScriptStage) (ls : List (List ℕ)) → Stays P → P play → stage_from (Plays play) ls ≡ Some t → Holds P t
holds_later P play t [] more holds e = subst (λ (n : ScriptStage). Holds P n) (some_is (Plays play) t e) holds
holds_later P play t (l ∷ ls) more holds e =
    there P play (asked_in play.naming l) t ls (λ asked is later. holds_later P (play_after play asked) t ls more (more play l asked is holds) later) e

pub opened_holds : (P : Play → Type 0) (naming : TaskNaming) (o : Option Pool) (t : ScriptStage) (ls : List (List ℕ)) → Stays P → ((p : Pool) → P (record { past = start p; naming = naming }))
    → option_and_then (λ n. stage_from n ls) (opened naming o) ≡ Some t → Holds P t
opened_holds P naming None t ls more new e = absurd cc
opened_holds P naming (Some p) t ls more new e = holds_later P (record { past = start p; naming = naming }) t ls more (new p) e

titled_holds : (P : Play → Type 0) (t : ScriptStage) (ls : List (List ℕ)) → IsKept P → stage_from Titled ls ≡ Some t → Holds P t
titled_holds P t [] kept e = subst (λ (n : ScriptStage). Holds P n) (some_is Titled t e) tt
titled_holds P t (l ∷ ls) kept e = opened_holds P (Names []) (pool_in l) t ls kept.more kept.names e

-- behind all lines of a script
pub holds_of : (P : Play → Type 0) (t : ScriptStage) (ls : List (List ℕ)) → IsKept P → stage_from Start ls ≡ Some t → Holds P t
holds_of P t [] kept e = subst (λ (n : ScriptStage). Holds P n) (some_is Start t e) tt
holds_of P t (l ∷ ls) kept e = go (is_title l) e
  where
    go : (title : Bool) → option_and_then (λ n. stage_from n ls) (if title then Some Titled else opened Numbers (pool_in l)) ≡ Some t → Holds P t
    go true e = titled_holds P t ls kept e
    go false e = opened_holds P Numbers (pool_in l) t ls kept.more kept.numbers e
