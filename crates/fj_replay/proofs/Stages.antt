-- Where more lines lead, behind good ones, and what is replied to them.
use Rattle.std.specs.Prelude.{Bool, true, false, option_map}
use Rattle.std.specs.Option.{option_and_then}
use Rattle.std.proofs.Common.{ℕ, ◌≡◌, List, [], ◌∷◌, ◌++◌, refl, ◌∙◌, sym, ap, subst, Option, Some, None}
use Rattle.fj_rules.specs.declared.step.Step.{Step}
use Rattle.fj_rules.specs.Bounds.{Pool}
use Rattle.fj_rules.specs.Answers.{answer}
use Rattle.fj_rules.specs.Pasts.{Past, grown}
use Rattle.fj_lines.specs.Lines.{step_in}
use Rattle.fj_lines.specs.Headings.{pool_in, start}
use Rattle.fj_lines.proofs.Reading.PartLaws.{some_is}
use Rattle.fj_streams.proofs.States.{state-append, text-line as text-by-line}
use Rattle.fj_replay.specs.declared.task_naming.TaskNaming.{TaskNaming}
use Rattle.fj_replay.specs.declared.task_naming.TaskNaming.TheVariants.{Numbers, Names}
use Rattle.fj_replay.specs.declared.asked.Asked.{Asked}
use Rattle.fj_replay.specs.declared.script_stage.ScriptStage.{ScriptStage}
use Rattle.fj_replay.specs.declared.script_stage.ScriptStage.TheVariants.{Start, Titled, Plays, Old, Rewrites}
use Rattle.fj_replay.specs.Plays.{Play, asked_in, play_after, is_title}
use Rattle.fj_replay.specs.Stages.{opened, rewriting, stage_after, line_text, has_heading, IsHeadless, script_rules}
use Rattle.fj_replay.specs.Scripts.{stage_from, text_from}

-- ---- lines behind lines

pub stage-append : (s : ScriptStage) (ls ms : List (List ℕ)) → stage_from s (ls ++ ms) ≡ option_and_then (λ t. stage_from t ms) (stage_from s ls)
stage-append = state-append script_rules

pub text-line : (s u : ScriptStage) (l : List ℕ) (ms : List (List ℕ)) → stage_after s l ≡ Some u → text_from s (l ∷ ms) ≡ line_text s l ++ text_from u ms
text-line = text-by-line script_rules

-- ---- before the heading nothing is replied

plays_stay_at : (o : Option ScriptStage) (t : ScriptStage) (ls : List (List ℕ)) → ((n : ScriptStage) → o ≡ Some n → (q : Play) × (n ≡ Plays q)) → ((q : Play) → stage_from (Plays q) ls ≡ Some t → IsHeadless t → ⊥)
    → option_and_then (λ n. stage_from n ls) o ≡ Some t → IsHeadless t → ⊥
plays_stay_at None t ls plays each e headless = absurd cc
plays_stay_at (Some n) t ls plays each e headless =
    let known = plays n refl in
    each known.0 (ap (λ (m : ScriptStage). stage_from m ls) (sym known.1) ∙ e) headless

next_plays : (play : Play) (o : Option Asked) (n : ScriptStage) → option_map (λ asked. Plays (play_after play asked)) o ≡ Some n → (q : Play) × (n ≡ Plays q)
next_plays play None n e = absurd cc
next_plays play (Some asked) n e = (play_after play asked, sym (some_is (Plays (play_after play asked)) n e))

open_plays : (naming : TaskNaming) (o : Option Pool) (n : ScriptStage) → opened naming o ≡ Some n → (q : Play) × (n ≡ Plays q)
open_plays naming None n e = absurd cc
open_plays naming (Some p) n e = (_, sym (some_is _ n e))

has_one : true ≡ false → ⊥
has_one e = absurd cc

is_headless : (s t : ScriptStage) → s ≡ t → IsHeadless t → IsHeadless s
is_headless s t e headless = subst (λ (u : ScriptStage). IsHeadless u) (sym e) headless

-- a play has its heading for good
plays_stay : (play : Play) (t : ScriptStage) (ls : List (List ℕ)) → stage_from (Plays play) ls ≡ Some t → IsHeadless t → ⊥
plays_stay play t [] e headless = has_one (is_headless (Plays play) t (some_is (Plays play) t e) headless)
plays_stay play t (l ∷ ls) e headless =
    plays_stay_at (stage_after (Plays play) l) t ls (λ n is. next_plays play (asked_in play.naming l) n is) (λ q is. plays_stay q t ls is) e headless

-- so do the steps of a script that is written as version 2
rewrites_stay_at : (o : Option ScriptStage) (t : ScriptStage) (ls : List (List ℕ)) → ((n : ScriptStage) → o ≡ Some n → (past : Past) × (n ≡ Rewrites past)) → ((past : Past) → stage_from (Rewrites past) ls ≡ Some t → (q : Past) × (t ≡ Rewrites q))
    → option_and_then (λ n. stage_from n ls) o ≡ Some t → (q : Past) × (t ≡ Rewrites q)
rewrites_stay_at None t ls each later e = absurd cc
rewrites_stay_at (Some n) t ls each later e =
    let known = each n refl in
    later known.0 (ap (λ (m : ScriptStage). stage_from m ls) (sym known.1) ∙ e)

next_rewrites : (past : Past) (o : Option Step) (n : ScriptStage) → option_map (λ asked. Rewrites (grown past (answer past asked).1)) o ≡ Some n → (q : Past) × (n ≡ Rewrites q)
next_rewrites past None n e = absurd cc
next_rewrites past (Some asked) n e = (grown past (answer past asked).1, sym (some_is (Rewrites (grown past (answer past asked).1)) n e))

begin_rewrites : (o : Option Pool) (n : ScriptStage) → rewriting o ≡ Some n → (q : Past) × (n ≡ Rewrites q)
begin_rewrites None n e = absurd cc
begin_rewrites (Some p) n e = (start p, sym (some_is (Rewrites (start p)) n e))

rewrites_stay : (past : Past) (t : ScriptStage) (ls : List (List ℕ)) → stage_from (Rewrites past) ls ≡ Some t → (q : Past) × (t ≡ Rewrites q)
rewrites_stay past t [] e = (past, sym (some_is (Rewrites past) t e))
rewrites_stay past t (l ∷ ls) e = rewrites_stay_at (stage_after (Rewrites past) l) t ls (λ n is. next_rewrites past (step_in l) n is) (λ q is. rewrites_stay q t ls is) e

-- a script that is written as version 2 stands before its first line or behind its heading
pub old_leads : (t : ScriptStage) (ls : List (List ℕ)) → stage_from Old ls ≡ Some t → has_heading t ≡ true → (q : Past) × (t ≡ Rewrites q)
old_leads t [] e headed = let none : has_heading Old ≡ true = subst (λ u. has_heading u ≡ true) (sym (some_is Old t e)) headed in absurd cc
old_leads t (l ∷ ls) e headed = rewrites_stay_at (stage_after Old l) t ls (λ n is. begin_rewrites (pool_in l) n is) (λ q is. rewrites_stay q t ls is) e

no_headless : (t : ScriptStage) (q : Past) → t ≡ Rewrites q → IsHeadless t → ⊥
no_headless t q is headless = has_one (is_headless (Rewrites q) t (sym is) headless)

titled_silent : (t : ScriptStage) (ls : List (List ℕ)) → stage_from Titled ls ≡ Some t → IsHeadless t → text_from Titled ls ≡ []
titled_silent t [] e headless = refl
titled_silent t (l ∷ ls) e headless =
    absurd (plays_stay_at (stage_after Titled l) t ls (λ n is. open_plays (Names []) (pool_in l) n is) (λ q is. plays_stay q t ls is) e headless)

start_silent : (title : Bool) (t : ScriptStage) (l : List ℕ) (ls : List (List ℕ)) → is_title l ≡ title → stage_from Start (l ∷ ls) ≡ Some t → IsHeadless t → text_from Start (l ∷ ls) ≡ []
start_silent true t l ls is e headless =
    let next : stage_after Start l ≡ Some Titled = rw is refl in
    let rest : stage_from Titled ls ≡ Some t = rw next at e in
    text-line Start Titled l ls next ∙ titled_silent t ls rest headless
start_silent false t l ls is e headless =
    absurd (plays_stay_at (stage_after Start l) t ls (λ n next. open_plays Numbers (pool_in l) n (rw is at next)) (λ q there. plays_stay q t ls there) e headless)

pub headless_silent : (first t : ScriptStage) (ls : List (List ℕ)) → stage_from first ls ≡ Some t → IsHeadless t → text_from first ls ≡ []
headless_silent first t [] e headless = refl
headless_silent Start t (l ∷ ls) e headless = start_silent (is_title l) t l ls refl e headless
headless_silent Titled t (l ∷ ls) e headless = titled_silent t (l ∷ ls) e headless
headless_silent (Plays play) t (l ∷ ls) e headless = absurd (plays_stay play t (l ∷ ls) e headless)
headless_silent Old t (l ∷ ls) e headless =
    let there = rewrites_stay_at (stage_after Old l) t ls (λ n is. begin_rewrites (pool_in l) n is) (λ q is. rewrites_stay q t ls is) e in
    absurd (no_headless t there.0 there.1 headless)
headless_silent (Rewrites past) t (l ∷ ls) e headless =
    let there = rewrites_stay past t (l ∷ ls) e in
    absurd (no_headless t there.0 there.1 headless)
