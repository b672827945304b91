-- Where a replay runs out of memory.
use Rattle.std.specs.Prelude.{Bool, true, false, option_map}
use Rattle.std.proofs.Common.{ℕ, ◌≡◌, ◌⊎◌, List, [], ◌∷◌, ◌++◌, refl, sym, inl, inr, Option, Some, None}
use Rattle.std.specs.Io.KnownBytes.{Appends}
use Rattle.fj_rules.specs.declared.refusal.Refusal.TheVariants.{Closed, LogFull, NotIdle, OutOfMemory}
use Rattle.fj_rules.specs.declared.step.Step.{Step}
use Rattle.fj_rules.specs.Answers.{first_that_stands}
use Rattle.fj_rules.specs.Epochs.{RefusesSeal, seal_refusal}
use Rattle.fj_rules.specs.Pasts.{Past}
use Rattle.fj_lines.specs.Lines.{step_in}
use Rattle.fj_lines.specs.Headings.{pool_in}
use Rattle.fj_lines.proofs.Reading.PartLaws.{some_is}
use Rattle.fj_streams.specs.declared.fault.FilterFault.{FilterFault}
use Rattle.fj_streams.specs.declared.fault.FilterFault.TheVariants as filter
use Rattle.fj_streams.specs.Cuts.{lines}
use Rattle.fj_streams.specs.Starving.{IsStarved as IsStarvedAt, StarvesFrom}
use Rattle.fj_replay.specs.declared.task_naming.TaskNaming.TheVariants.{Numbers}
use Rattle.fj_replay.specs.declared.asked.Asked.{Asked}
use Rattle.fj_replay.specs.declared.asked.Asked.TheVariants as ask
use Rattle.fj_replay.specs.declared.fault.ReplayFault.TheVariants.{Memory}
use Rattle.fj_replay.specs.declared.script_stage.ScriptStage.{ScriptStage}
use Rattle.fj_replay.specs.declared.script_stage.ScriptStage.TheVariants.{Start, Titled, Plays, Old, Rewrites}
use Rattle.fj_replay.specs.declared.script_stop.ScriptStop.{ScriptStop}
use Rattle.fj_replay.specs.declared.script_stop.ScriptStop.TheVariants as stop
use Rattle.fj_replay.specs.Plays.{Play}
use Rattle.fj_replay.specs.Scripts.{is_titled, stage_from}
use Rattle.fj_replay.specs.Stages.{IsHeadless, has_heading, script_rules}
use Rattle.fj_replay.specs.Starving.{IsShort, NeedsMemory, Starves}
use Rattle.fj_replay.specs.Stops.{replay_fault}
use Rattle.fj_replay.proofs.Kept.{Stays, holds_of, opened_holds}
use Rattle.fj_replay.proofs.Runs.{run_kept}
use Rattle.fj_replay.proofs.Stages.{headless_silent, old_leads}

-- ---- a seal

-- what refuses a seal is told as such, and not as memory
no_memory : (busy shut long : Bool) → first_that_stands ((busy, NotIdle) ∷ (shut, Closed) ∷ (long, LogFull) ∷ []) ≡ Some OutOfMemory → ⊥
no_memory true shut long e = absurd cc
no_memory false true long e = absurd cc
no_memory false false true e = absurd cc
no_memory false false false e = absurd cc

pub nothing_else : (past : Past) → RefusesSeal past OutOfMemory → seal_refusal past ≡ None
unfolding seal_refusal
nothing_else past (inl told) = absurd (no_memory _ _ _ told)
nothing_else past (inr none) = none.0

-- ---- in version 1 tasks go by numbers, and no line behind the heading takes memory

by_numbers : (o : Option Step) (asked : Asked) → option_map ask.Step o ≡ Some asked → (wanted : Step) × (asked ≡ ask.Step wanted)
by_numbers None asked e = absurd cc
by_numbers (Some wanted) asked e = (wanted, sym (some_is (ask.Step wanted) asked e))

abbrev IsNumbered : Play → Type 0
IsNumbered play = play.naming ≡ Numbers

numbers_stay : Stays IsNumbered
numbers_stay play line asked asks numbered =
    let step = by_numbers (step_in line) asked (rw numbered at asks) in
    rw step.1 numbered

numbered_behind : (before behind : List (List ℕ)) (play : Play) → stage_from Start before ≡ Some (Plays play) → is_titled (before ++ behind) ≡ false → IsNumbered play
numbered_behind [] behind play e none = let same : Start ≡ Plays play = some_is Start (Plays play) e in absurd cc
numbered_behind (l ∷ ls) behind play e none = opened_holds IsNumbered Numbers (pool_in l) (Plays play) ls numbers_stay (λ p. refl) (rw none at e)

takes_none : (play : Play) (line : List ℕ) → IsNumbered play → NeedsMemory (Plays play) line → ⊥
takes_none play line numbered needs =
    let step = by_numbers (step_in line) needs.0 (rw numbered at needs.1) in
    rw step.1 at needs.2

-- ---- at any stage

abbrev Told : List ℕ → Option (List ℕ) → Option (List ℕ) → Type 0
Told b start now = (is_titled (lines b) ≡ false → Appends start now []) × (Appends start now [] ⊎ IsShort b start now)

nothing_told : (b : List ℕ) (start now : Option (List ℕ)) → Appends start now [] → Told b start now
nothing_told b start now nothing = (λ none. nothing, inl nothing)

starved : (b : List ℕ) (start now : Option (List ℕ)) → IsStarvedAt script_rules NeedsMemory Start b start now → Told b start now
starved b start now s = go s.state s.good s.needs
  where
    headless : (t : ScriptStage) → stage_from Start s.before ≡ Some t → IsHeadless t → Told b start now
    headless t good none = nothing_told b start now (rw (headless_silent Start t s.before good none) at s.written)

    go : (t : ScriptStage) → stage_from Start s.before ≡ Some t → NeedsMemory t s.line → Told b start now
    go Start good needs = headless Start good refl
    go Titled good needs = headless Titled good refl
    go (Plays play) good needs = (
      λ none. absurd (takes_none play s.line (numbered_behind s.before (s.line ∷ s.later) play good (rw s.cut at none)) needs),
      inr (record { before = s.before; line = s.line; later = s.later; play = play; asked = needs.0; cut = s.cut; good = good; asks = needs.1; takes = needs.2; written = s.written }),
    )
    go Old good needs = headless Old good refl
    go (Rewrites past) good needs = absurd (holds_of _ (Rewrites past) s.before run_kept good)

pub starves : (before ahead start now : Option (List ℕ)) → StarvesFrom script_rules NeedsMemory Start filter.Memory before ahead start now → Starves before ahead start now
starves before ahead start now (b, read, inl nothing) = let told = nothing_told b start now nothing.1 in (b, record { read = read; numbered = told.0; named = told.1 })
starves before ahead start now (b, read, inr s) = let told = starved b start now s in (b, record { read = read; numbered = told.0; named = told.1 })

-- ---- an upgrade

rewrites_none : (t : ScriptStage) (q : Past) → t ≡ Rewrites q → (line : List ℕ) → NeedsMemory t line → ⊥
rewrites_none t q is line needs = rw is at needs

upgrade_starved : (b : List ℕ) (start now : Option (List ℕ)) → IsStarvedAt script_rules NeedsMemory Old b start now → Appends start now []
upgrade_starved b start now s = go (has_heading s.state) refl
  where
    go : (headed : Bool) → has_heading s.state ≡ headed → Appends start now []
    go true is = let there = old_leads s.state s.before s.good is in absurd (rewrites_none s.state there.0 there.1 s.line s.needs)
    go false is = rw (headless_silent Old s.state s.before s.good is) at s.written

pub upgrade_starves : (before ahead start now : Option (List ℕ)) → StarvesFrom script_rules NeedsMemory Old filter.Memory before ahead start now → Appends start now []
upgrade_starves before ahead start now (b, read, inl nothing) = nothing.1
upgrade_starves before ahead start now (b, read, inr s) = upgrade_starved b start now s

-- ---- the fault of a replay is that of its filter

pub same_memory : (first : ScriptStage) (fault : FilterFault ScriptStop) (before ahead start now : Option (List ℕ)) → replay_fault fault ≡ Memory → StarvesFrom script_rules NeedsMemory first fault before ahead start now
    → StarvesFrom script_rules NeedsMemory first filter.Memory before ahead start now
same_memory first (filter.Stop n stop.Faulty) before ahead start now e s = absurd cc
same_memory first (filter.Stop n stop.Limits) before ahead start now e s = absurd cc
same_memory first (filter.Line n) before ahead start now e s = absurd cc
same_memory first filter.Memory before ahead start now e s = s
same_memory first filter.Read before ahead start now e s = absurd cc
same_memory first filter.Write before ahead start now e s = absurd cc
