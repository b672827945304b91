-- The replies to a script are the answers to the moves that its lines ask for.
use Rattle.std.specs.Prelude.{Bool, true, false, if◌then◌else◌, option_map}
use Rattle.std.specs.List.{cons_option}
use Rattle.std.specs.Option.{option_and_then, option_map_or}
use Rattle.std.proofs.Common.{ℕ, ◌≡◌, List, [], ◌∷◌, Option, Some, None, refl, subst, inl}
use Rattle.fj_rules.specs.declared.epoch.Move.{Move}
use Rattle.fj_rules.specs.declared.epoch.Answer.{Answer}
use Rattle.fj_rules.specs.declared.refusal.Refusal.{Refusal}
use Rattle.fj_rules.specs.declared.step.Step.{Step}
use Rattle.fj_rules.specs.Answers.{answer}
use Rattle.fj_rules.specs.Pasts.{Past}
use Rattle.fj_rules.specs.Epochs.{Moves, seal_refusal}
use Rattle.fj_lines.proofs.Reading.PartLaws.{some_is}
use Rattle.fj_replay.specs.declared.replied.Replied.TheVariants.{Said as Says, NameTaken}
use Rattle.fj_replay.specs.declared.asked.Asked.{Asked}
use Rattle.fj_replay.specs.declared.asked.Asked.TheVariants as ask
use Rattle.fj_replay.specs.declared.script_stage.ScriptStage.{ScriptStage}
use Rattle.fj_replay.specs.declared.script_stage.ScriptStage.TheVariants.{Start, Titled, Plays, Old, Rewrites}
use Rattle.fj_replay.specs.Namings.{is_named}
use Rattle.fj_replay.specs.Plays.{Play, asked_in, play_after, accepting, sealing, seal_reply, replied, move_told, moves_told, AreMoves}
use Rattle.fj_replay.specs.Scripts.{stage_from}

-- ---- one line

-- the move leads from the one past to the other; without one they are the same
abbrev Leads : Past → Option (Move × Answer) → Past → Type 0
Leads old None new = new ≡ old
Leads old (Some made) new = Moves old made.0 made.1 new

accept_leads : (play : Play) (name : List ℕ) (wanted : Step) (taken : Bool)
    → Leads play.past (move_told (ask.Accept name wanted) (if taken then NameTaken else Says (answer play.past wanted).0)) (if taken then play else accepting play name (answer play.past wanted)).past
accept_leads play name wanted true = refl
accept_leads play name wanted false = (refl, refl)

seal_leads : (past : Past) (refusal : Option Refusal) → seal_refusal past ≡ refusal → Leads past (move_told ask.Seal (seal_reply past refusal)) (sealing past refusal)
seal_leads past None is = (is, refl)
seal_leads past (Some refusal) is = (inl is, refl)

line_leads : (play : Play) (asked : Asked) → Leads play.past (move_told asked (replied play asked)) (play_after play asked).past
line_leads play (ask.Step wanted) = (refl, refl)
line_leads play (ask.Accept name wanted) = accept_leads play name wanted (is_named play.naming name)
line_leads play ask.Seal = seal_leads play.past (seal_refusal play.past) refl
line_leads play ask.Epoch = refl

-- and then those behind it
then_moves : (old mid new : Past) (first : Option (Move × Answer)) (later : List (Move × Answer)) → Leads old first mid → AreMoves mid later new → AreMoves old (cons_option first later) new
then_moves old mid new None later leads made = subst (λ (p : Past). AreMoves p later new) leads made
then_moves old mid new (Some first) later leads made = (mid, leads, made)

-- ---- many lines

-- the moves of the lines lead to where the script then stands
abbrev LeadTo : Past → List (Move × Answer) → ScriptStage → Type 0
LeadTo old made Start = Unit {0}
LeadTo old made Titled = Unit {0}
LeadTo old made (Plays play) = AreMoves old made play.past
LeadTo old made Old = Unit {0}
LeadTo old made (Rewrites past) = Unit {0}

then_lead : (old mid : Past) (t : ScriptStage) (first : Option (Move × Answer)) (later : List (Move × Answer)) → Leads old first mid → LeadTo mid later t → LeadTo old (cons_option first later) t
then_lead old mid Start first later leads made = tt
then_lead old mid Titled first later leads made = tt
then_lead old mid (Plays play) first later leads made = then_moves old mid play.past first later leads made
then_lead old mid Old first later leads made = tt
then_lead old mid (Rewrites past) first later leads made = tt

asked_lead : (play : Play) (o : Option Asked) (t : ScriptStage) (ls : List (List ℕ)) → ((asked : Asked) → stage_from (Plays (play_after play asked)) ls ≡ Some t → LeadTo (play_after play asked).past (moves_told (play_after play asked) ls) t)
    → option_and_then (λ n. stage_from n ls) (option_map (λ asked. Plays (play_after play asked)) o) ≡ Some t
    → LeadTo play.past (option_map_or (λ asked. cons_option (move_told asked (replied play asked)) (moves_told (play_after play asked) ls)) o []) t
asked_lead play None t ls each e = absurd cc
asked_lead play (Some asked) t ls each e =
    then_lead play.past (play_after play asked).past t (move_told asked (replied play asked)) (moves_told (play_after play asked) ls) (line_leads play asked) (each asked e)

lines_lead : (play : Play) (t : ScriptStage) (ls : List (List ℕ)) → stage_from (Plays play) ls ≡ Some t → LeadTo play.past (moves_told play ls) t
lines_lead play t [] e = subst (LeadTo play.past []) (some_is (Plays play) t e) refl
lines_lead play t (l ∷ ls) e = asked_lead play (asked_in play.naming l) t ls (λ asked later. lines_lead (play_after play asked) t ls later) e

-- from any play to the one to which the lines lead
pub are_moves : (play later : Play) (ls : List (List ℕ)) → stage_from (Plays play) ls ≡ Some (Plays later) → AreMoves play.past (moves_told play ls) later.past
are_moves play later ls leads = lines_lead play (Plays later) ls leads
