-- The replies to a script of version 1 stay what they were when it is written as version 2, but for the names of tasks.
use Rattle.std.specs.Prelude.{Bool, true, false, codes, decimal, if◌then◌else◌, option_map, nat_le, ◌&&◌}
use Rattle.std.specs.Option.{option_and_then, option_map_or}
use Rattle.std.proofs.Common.{ℕ, ◌≡◌, ◌^◌, ◌<◌, ◌≤◌, List, [], ◌∷◌, ◌++◌, refl, ap, sym, subst, ◌∙◌, arith, append_assoc, Option, Some, None}
use Rattle.std.proofs.lemmas.Bool.{and_parts, leb-true}
use Rattle.fj_lines.specs.declared.read.TheConstants.{LINE_FEED}
use Rattle.fj_rules.specs.declared.limits.TheConstants.{MAX_WORKERS, MAX_SUBMITTERS, MAX_TASKS, MAX_EVENTS}
use Rattle.fj_rules.specs.declared.mode.Mode.{Mode}
use Rattle.fj_rules.specs.declared.step.Step.{Step}
use Rattle.fj_rules.specs.declared.said.Said.{Said}
use Rattle.fj_rules.specs.Bounds.{Bounds, Pool}
use Rattle.fj_rules.specs.Answers.{answer}
use Rattle.fj_rules.specs.Pasts.{Past, grown}
use Rattle.fj_rules.specs.Epochs.{IsPast}
use Rattle.fj_rules.specs.Tasks.{accepted}
use Rattle.fj_lines.specs.Lines.{HasLine, head_in, step_in, reply_line, line2_text}
use Rattle.fj_lines.proofs.Reading.PartLaws.{some_is, is_text}
use Rattle.fj_lines.proofs.Reading.StepLaws.{step_found}
use Rattle.fj_lines.proofs.Reading.NamedLaws.{line2_again}
use Rattle.fj_rules.proofs.Steps.Replies.{answer_tells}
use Rattle.fj_rules.proofs.Steps.RunsGrow.{history_more}
use Rattle.fj_replay.specs.declared.task_naming.TaskNaming.TheVariants.{Numbers, Names}
use Rattle.fj_replay.specs.declared.asked.Asked.{Asked}
use Rattle.fj_replay.specs.declared.asked.Asked.TheVariants as ask
use Rattle.fj_replay.specs.declared.replied.Replied.TheVariants.{Said as Says}
use Rattle.fj_replay.specs.declared.script_stage.ScriptStage.{ScriptStage}
use Rattle.fj_replay.specs.declared.script_stage.ScriptStage.TheVariants.{Start, Titled, Plays, Old, Rewrites}
use Rattle.fj_streams.specs.Cuts.{cut, lines}
use Rattle.fj_replay.specs.Namings.{name_of, replied_line, task_told, words_by}
use Rattle.fj_replay.specs.Plays.{Play, asked_in, asked_by, play_after, replied, reply_text, named_if, is_task}
use Rattle.fj_replay.specs.TaskNames.{task_name, named_step, named_line, titled_head}
use Rattle.fj_lines.specs.Readings.{head_said}
use Rattle.fj_lines.specs.Words.{joined as words_joined, words}
use Rattle.fj_lines.specs.Replies.{reply_words}
use Rattle.fj_lines.specs.Headings.{is_within, limits_of, pool_of, pool_in, start}
use Rattle.fj_lines.proofs.Reading.FeedLaws.{is_free}
use Rattle.fj_replay.specs.Scripts.{stage_from, text_from, text, up, before_those, steps_of, replies, joined, said, numbered_text, is_titled}
use Rattle.fj_replay.specs.Stages.{rewriting, stage_after, line_text}
use Rattle.fj_replay.specs.Upgrades.{named_lines, up_by, up_text, called_line, called_lines, called_by, called_text, KeepsReplies, IsNotUpgraded}
use Rattle.fj_replay.proofs.NameTables.{numbered_line}
use Rattle.fj_replay.proofs.Stages.{text-line}
use Rattle.fj_replay.proofs.Version1.{text_numbered}
use Rattle.fj_replay.proofs.Version2.Accepted.{after_reply, accepted_after, accepted_small, none_accepted}
use Rattle.fj_replay.proofs.Version2.Asked.{asks, asks_same, named_fits}
use Rattle.fj_replay.proofs.Version2.FeedFree.{cut_one, first_free, line_free}
use Rattle.fj_replay.proofs.Version2.Names.{task_names, name_free, names_after, named_said}
use Rattle.fj_replay.proofs.Version2.Told.{is_accept, answer_told, told_below}

-- ---- one step

-- a play in which the tasks so far have their names
abbrev named : Past → Play
named past = record { past = past; naming = Names (task_names (accepted past.events)) }

-- the past after a step
abbrev next : Past → Step → Past
next past asked = grown past (answer past asked).1

next_accepted : (past : Past) (asked : Step) → accepted (next past asked).events ≡ after_reply (accepted past.events) (answer past asked).0
next_accepted past asked = accepted_after past.events (answer past asked).1 (answer past asked).0 (answer_tells past asked)

-- what the line of version 2 asks for has the reply of the step, and leads where that leads
record Goes (past : Past) (asked : Step) (wanted : Asked) : Type 0 where
  play : play_after (named past) wanted ≡ named (next past asked)
  reply : replied (named past) wanted ≡ Says (answer past asked).0

step_goes : (past : Past) (asked other : Step) → is_accept asked ≡ false → IsPast past → answer past other ≡ answer past asked → Goes past asked (ask.Step other)
step_goes past asked other old run same =
    let none = (answer_told past asked old run).0 in
    let stays : accepted (next past asked).events ≡ accepted past.events = next_accepted past asked ∙ rw none refl in
    record {
      play = rw (same, stays) refl;
      reply = rw same refl;
    }

accept_goes : (past : Past) (asked other : Step) → accepted past.events < 2 ^ 32 → answer past other ≡ answer past asked → Goes past asked (ask.Accept (task_name (accepted past.events)) other)
accept_goes past asked other small same =
    let free = name_free (accepted past.events) (omega (arith, small)) in
    let names : named_if (Names (task_names (accepted past.events))) (task_name (accepted past.events)) (answer past asked).0 ≡ Names (task_names (accepted (next past asked).events)) =
    names_after (accepted past.events) (is_task (answer past asked).0) ∙ ap (λ (m : ℕ). Names (task_names m)) (sym (next_accepted past asked)) in
    record {
      play = rw (free, same, names) refl;
      reply = rw (free, same) refl;
    }

wanted_goes : (past : Past) (asked other : Step) (accepts : Bool) → is_accept asked ≡ accepts → IsPast past → accepted past.events < 2 ^ 32 → answer past other ≡ answer past asked → Goes past asked (asks accepts (task_name (accepted past.events)) other)
wanted_goes past asked other true is run small same = accept_goes past asked other small same
wanted_goes past asked other false is run small same = step_goes past asked other is run same

-- the reply calls its task by its name
goes_text : (past : Past) (asked : Step) (wanted : Asked) → IsPast past → Goes past asked wanted → reply_text (named past) wanted ≡ called_line task_name past.pool.limits (answer past asked).0
unfolding replied_line
goes_text past asked wanted run goes =
    let below = told_below past asked run in
    let m : ℕ = after_reply (accepted past.events) (answer past asked).0 in
    rw (goes.play, goes.reply, next_accepted past asked) (named_said m past.pool.limits (answer past asked).0 below)

-- ---- a line, and those behind it

abbrev wanted_by : Past → Step → Asked
wanted_by past asked = asked_by (task_names (accepted past.events)) (named_step (accepted past.events) asked)

line_asks : (past : Past) (asked : Step) → accepted past.events < 2 ^ 32 → HasLine asked → asked_in (Names (task_names (accepted past.events))) (line2_text (named_step (accepted past.events) asked)) ≡ Some (wanted_by past asked)
line_asks past asked small fits = rw (line2_again (named_step (accepted past.events) asked) (named_fits (accepted past.events) asked small fits)) refl

line_goes : (past : Past) (asked : Step) → IsPast past → accepted past.events < 2 ^ 32 → HasLine asked → Goes past asked (wanted_by past asked)
line_goes past asked run small fits =
    let same = asks_same past asked run small fits in
    rw same.is (wanted_goes past asked same.other (is_accept asked) refl run small same.same)

first_line : (past : Past) (asked : Step) (ls : List (List ℕ)) → IsPast past → accepted past.events < 2 ^ 32 → HasLine asked
    → text_from (Plays (named past)) (line2_text (named_step (accepted past.events) asked) ∷ ls) ≡ called_line task_name past.pool.limits (answer past asked).0 ++ text_from (Plays (named (next past asked))) ls
first_line past asked ls run small fits =
    let is = line_asks past asked small fits in
    let goes = line_goes past asked run small fits in
    let leads : stage_after (Plays (named past)) (line2_text (named_step (accepted past.events) asked)) ≡ Some (Plays (named (next past asked))) = rw is (ap (λ (play : Play). Some (Plays play)) goes.play) in
    let told : line_text (Plays (named past)) (line2_text (named_step (accepted past.events) asked)) ≡ called_line task_name past.pool.limits (answer past asked).0 = rw is (goes_text past asked (wanted_by past asked) run goes) in
    text-line (Plays (named past)) (Plays (named (next past asked))) (line2_text (named_step (accepted past.events) asked)) ls leads ∙ ap (λ (t : List ℕ). t ++ text_from (Plays (named (next past asked))) ls) told

-- the lines of a step and of those behind it
cut_named : (past : Past) (asked : Step) (later : List ℕ) → accepted past.events < 2 ^ 32 → HasLine asked
    → cut [] (named_line (accepted past.events) asked ++ later) ≡ line2_text (named_step (accepted past.events) asked) ∷ cut [] later
unfolding named_line
cut_named past asked later small fits =
    ap (cut []) (append_assoc (line2_text (named_step (accepted past.events) asked)) (LINE_FEED ∷ []) later)
    ∙ cut_one [] (line2_text (named_step (accepted past.events) asked)) later (line_free (accepted past.events) asked small fits)

-- ---- all steps

-- each step has a line
abbrev HaveLines : List Step → Type 0
HaveLines [] = Unit {0}
HaveLines (asked ∷ later) = HasLine asked × HaveLines later

-- a past of a script of version 1: nothing was sealed, and there are few tasks
record IsPlain (past : Past) : Type 0 where
  run : IsPast past
  unsealed : past.sealed ≡ []
  few : past.pool.limits.events ≤ MAX_EVENTS

plain_small : (past : Past) → IsPlain past → accepted past.events < 2 ^ 32
plain_small past plain = let most = accepted_small past plain.run plain.unsealed in let few = plain.few in omega arith

plain_next : (past : Past) (asked : Step) → IsPlain past → IsPlain (next past asked)
plain_next past asked plain = record { run = history_more past asked plain.run; unsealed = plain.unsealed; few = plain.few }

named_replies : (past : Past) (steps : List Step) → IsPlain past → HaveLines steps → text_from (Plays (named past)) (cut [] (named_lines past steps)) ≡ called_lines task_name past.pool.limits (replies past steps)
named_replies past [] plain fits = refl
named_replies past (asked ∷ later) plain fits =
    let small = plain_small past plain in
    ap (text_from (Plays (named past))) (cut_named past asked (named_lines (next past asked) later) small fits.0)
    ∙ (first_line past asked (cut [] (named_lines (next past asked) later)) plain.run small fits.0
    ∙ ap (λ (t : List ℕ). called_line task_name past.pool.limits (answer past asked).0 ++ t) (named_replies (next past asked) later (plain_next past asked plain) fits.1))

-- ---- the script as version 2, by itself

step_rewritten : (past : Past) (o : Option Step) (ls : List (List ℕ)) → ((new : Past) → text_from (Rewrites new) ls ≡ named_lines new (steps_of ls))
    → option_map_or (λ n. option_map_or (λ asked. named_line (accepted past.events) asked) o [] ++ text_from n ls) (option_map (λ asked. Rewrites (next past asked)) o) []
    ≡ named_lines past (before_those o (steps_of ls))
step_rewritten past None ls each = refl
step_rewritten past (Some asked) ls each = ap (λ (t : List ℕ). named_line (accepted past.events) asked ++ t) (each (next past asked))

rewritten_lines : (past : Past) (ls : List (List ℕ)) → text_from (Rewrites past) ls ≡ named_lines past (steps_of ls)
rewritten_lines past [] = refl
rewritten_lines past (l ∷ ls) = step_rewritten past (step_in l) ls (λ new. rewritten_lines new ls)

begun_rewritten : (o : Option Pool) (heading : List ℕ) (ls : List (List ℕ)) → option_map_or (λ n. titled_head heading ++ text_from n ls) (rewriting o) [] ≡ up_by o heading (steps_of ls)
begun_rewritten None heading ls = refl
begun_rewritten (Some p) heading ls = ap (λ (t : List ℕ). titled_head heading ++ t) (rewritten_lines (start p) ls)

up_lines : (ls : List (List ℕ)) → text_from Old ls ≡ up_text ls
up_lines [] = refl
up_lines (heading ∷ ls) = begun_rewritten (pool_in heading) heading ls

pub up_is : (b : List ℕ) → up b ≡ up_text (lines b)
up_is b = up_lines (lines b)

-- ---- the heading

few_within : (l : Bounds) → is_within l ≡ true → l.events ≤ MAX_EVENTS
few_within l within =
    let first = and_parts (nat_le 1 l.workers && nat_le l.workers MAX_WORKERS) _ within in
    let second = and_parts (nat_le 1 l.submitters && nat_le l.submitters MAX_SUBMITTERS) _ first.1 in
    let third = and_parts (nat_le 1 l.tasks && nat_le l.tasks MAX_TASKS) _ second.1 in
    leb-true l.events MAX_EVENTS (and_parts (nat_le 1 l.events) (nat_le l.events MAX_EVENTS) third.1).1

few_of : (head : Mode × List ℕ) (p : Pool) → pool_of head ≡ Some p → p.limits.events ≤ MAX_EVENTS
few_of head p is = go (is_within (limits_of head.1)) refl is
  where
    go : (b : Bool) → is_within (limits_of head.1) ≡ b → (if b then Some (record { mode = head.0; limits = limits_of head.1 }) else None) ≡ Some p → p.limits.events ≤ MAX_EVENTS
    go true within is = subst (λ (q : Pool). q.limits.events ≤ MAX_EVENTS) (some_is _ p is) (few_within (limits_of head.1) within)
    go false within is = absurd cc

few_in : (o : Option (Mode × List ℕ)) (p : Pool) → option_and_then pool_of o ≡ Some p → p.limits.events ≤ MAX_EVENTS
few_in None p is = absurd cc
few_in (Some head) p is = few_of head p is

started : (p : Pool) → p.limits.events ≤ MAX_EVENTS → IsPlain (start p)
started p few = record { run = ([], [], refl); unsealed = refl; few = few }

have_lines : (o : Option Step) (l : List ℕ) (steps : List Step) → step_in l ≡ o → HaveLines steps → HaveLines (before_those o steps)
have_lines None l steps is fits = tt
have_lines (Some asked) l steps is fits = ((step_found l asked is).0, fits)

steps_have_lines : (ls : List (List ℕ)) → HaveLines (steps_of ls)
steps_have_lines [] = tt
steps_have_lines (l ∷ ls) = have_lines (step_in l) l (steps_of ls) refl (steps_have_lines ls)

-- the first two lines, and those behind them
cut_head : (heading later : List ℕ) → is_free heading ≡ true → cut [] (titled_head heading ++ later) ≡ codes "fj 2" ∷ heading ∷ cut [] later
unfolding titled_head
cut_head heading later free =
    ap (λ (ls : List (List ℕ)). codes "fj 2" ∷ ls) (ap (cut []) (append_assoc heading (LINE_FEED ∷ []) later) ∙ cut_one [] heading later free)

headed : (o : Option Pool) (heading : List ℕ) (steps : List Step) → pool_in heading ≡ o → is_free heading ≡ true → HaveLines steps
    → text_from Start (cut [] (up_by o heading steps)) ≡ called_by task_name o steps
headed None heading steps is free fits = refl
headed (Some p) heading steps is free fits =
    let opens : stage_after Titled heading ≡ Some (Plays (named (start p))) = rw (is, none_accepted) refl in
    ap (text_from Start) (cut_head heading (named_lines (start p) steps) free)
    ∙ (text-line Titled (Plays (named (start p))) heading (cut [] (named_lines (start p) steps)) opens ∙ named_replies (start p) steps (started p (few_in (head_in heading) p is)) fits)

-- ---- scripts

named_text : (ls : List (List ℕ)) → ((heading : List ℕ) (others : List (List ℕ)) → ls ≡ heading ∷ others → is_free heading ≡ true) → text_from Start (cut [] (up_text ls)) ≡ called_text task_name ls
named_text [] free = refl
named_text (heading ∷ others) free = headed (pool_in heading) heading (steps_of others) refl (free heading others refl) (steps_have_lines others)

-- the replies to version 1 call tasks by their numbers
numbered_words : (told : Option (List ℕ × ℕ)) (words : List (List ℕ)) → words_by (name_of Numbers) told words ≡ words_by decimal told words
numbered_words None words = refl
numbered_words (Some told) words = refl

numbered_reply : (limits : Bounds) (reply : Said) → reply_line limits reply ≡ called_line decimal limits reply
numbered_reply limits reply = numbered_line limits reply ∙ ap (λ (ws : List (List ℕ)). words_joined ws ++ LINE_FEED ∷ []) (numbered_words (task_told reply) (reply_words limits reply))

numbered_lines : (limits : Bounds) (told : List Said) → joined limits told ≡ called_lines decimal limits told
numbered_lines limits [] = refl
numbered_lines limits (reply ∷ later) = rw (numbered_reply limits reply, numbered_lines limits later) refl

numbered_by : (o : Option Pool) (steps : List Step) → said o steps ≡ called_by decimal o steps
numbered_by None steps = refl
numbered_by (Some p) steps = numbered_lines p.limits (replies (start p) steps)

numbered_called : (ls : List (List ℕ)) → numbered_text ls ≡ called_text decimal ls
numbered_called [] = refl
numbered_called (heading ∷ others) = numbered_by (pool_in heading) (steps_of others)

pub keeps_replies : (b : List ℕ) → is_titled (lines b) ≡ false → KeepsReplies b
keeps_replies b untitled = record {
  numbered = text_numbered b untitled ∙ numbered_called (lines b);
  named = ap text (up_is b) ∙ named_text (lines b) (λ heading others is. first_free [] b heading others refl is);
}

-- ---- what is of version 2 already

no_title_head : head_in (codes "fj 2") ≡ None
unfolding head_in words head_said
no_title_head = refl

none_leads : (first : List ℕ) (others : List (List ℕ)) (past : Past) → pool_in first ≡ None → stage_from Old (first ∷ others) ≡ Some (Rewrites past) → ⊥
none_leads first others past none e = let bad : ◌≡◌ {A = Option ScriptStage} None (Some (Rewrites past)) = rw none at e in cc

titled_stops : (ls : List (List ℕ)) → is_titled ls ≡ true → (text_from Old ls ≡ []) × ((past : Past) → stage_from Old ls ≡ Some (Rewrites past) → ⊥)
titled_stops [] titled = absurd cc
titled_stops (first ∷ others) titled =
    let same = is_text first (codes "fj 2") titled in
    let none : pool_in first ≡ None = rw (same, no_title_head) refl in
    (rw none refl, λ past e. none_leads first others past none e)

pub not_upgraded : (b : List ℕ) → is_titled (lines b) ≡ true → IsNotUpgraded b
not_upgraded b titled =
    let stops = titled_stops (lines b) titled in
    record { silent = stops.0; no_script = λ script. stops.1 script.past script.good }
