-- The codes in the events of a step have 32 bits, where the step is that of a line.
use Rattle.std.proofs.Common.{ℕ, ◌≡◌, Bool, true, false, List, [], ◌∷◌, ◌++◌, length, map, drop, Option, Some, None, refl, subst}
use Rattle.std.specs.Prelude.{◌||◌, if◌then◌else◌, option_map}
use Rattle.fj_rules.specs.declared.event.Event.{Event}
use Rattle.fj_rules.specs.declared.event.Event.TheVariants as event
use Rattle.fj_rules.specs.declared.event.How.TheVariants as how
use Rattle.fj_rules.specs.declared.refusal.Refusal.{Refusal}
use Rattle.fj_rules.specs.declared.status.Status.{Status}
use Rattle.fj_rules.specs.declared.status.Status.TheVariants as status_is
use Rattle.fj_rules.specs.declared.step.Ending.{Ending}
use Rattle.fj_rules.specs.declared.step.Ending.TheVariants as ending
use Rattle.fj_rules.specs.declared.step.Step.{Step}
use Rattle.fj_rules.specs.declared.step.Step.TheVariants as step
use Rattle.fj_rules.specs.Bounds.{Pool}
use Rattle.fj_rules.specs.Pasts.{Past}
use Rattle.fj_rules.specs.Statuses.{status, is_undone}
use Rattle.fj_rules.specs.Completers.{is_spent}
use Rattle.fj_rules.specs.Tasks.{parent}
use Rattle.fj_rules.specs.Choices.{choice}
use Rattle.fj_rules.specs.Climbs.{Arrival, arrival, path, passed, relayed}
use Rattle.fj_rules.specs.Climbs as climb
use Rattle.fj_rules.specs.Hooks.{hand}
use Rattle.fj_rules.specs.Allowed.{is_closed, is_stopped, is_fired_by_complete}
use Rattle.fj_rules.specs.Answers.{answer, answer_of, refusal_of, events_of, running, taking, arriving, settling, failing, root_of, settle_root, pass_end, passing, after_end, ending_events, settling_own, above_hook, hook_events, root_events}
use Rattle.fj_lines.specs.Tasks.{IsSmall}
use Rattle.fj_lines.specs.Lines.{HasLine, HasLine2, HasSmallEnding, Line2, line2_in, step_in}
use Rattle.fj_lines.specs.declared.line.Line.TheVariants as line
use Rattle.fj_lines.proofs.Reading.NamedLaws.{line2_found}
use Rattle.fj_lines.proofs.Reading.PartLaws.{some_is}
use Rattle.fj_lines.proofs.Reading.StepLaws.{step_found}
use Rattle.fj_history.specs.Entries.{AllHaveCodes, HasCode, HasSmallStatus}
use Rattle.fj_history.proofs.Entries.CodeLaws.{codes_then}
use Rattle.fj_replay.specs.declared.asked.Asked.{Asked}
use Rattle.fj_replay.specs.declared.asked.Asked.TheVariants as ask
use Rattle.fj_replay.specs.declared.task_naming.TaskNaming.{TaskNaming}
use Rattle.fj_replay.specs.declared.task_naming.TaskNaming.TheVariants.{Numbers, Names}
use Rattle.fj_replay.specs.Plays.{asked_in, asked_by}

-- ---- the events of a step

abbrev pub HasStepCode : Step → Type 0
HasStepCode (step.End w how) = HasSmallEnding how
HasStepCode (step.Fault t code) = IsSmall code
HasStepCode _ = Unit {0}

taking_has : (h : List Event) (w : ℕ) (o : Option ℕ) → AllHaveCodes (taking h w o)
taking_has h w None = tt
taking_has h w (Some t) = (go (is_undone (status h t)), tt)
  where
    go : (b : Bool) → HasCode (if b then event.Out t w else event.Skip t w)
    go true = tt
    go false = tt

joining_has : (b : Bool) (es : List Event) → AllHaveCodes es → AllHaveCodes (if b then es else [])
joining_has true es has = has
joining_has false es has = tt

unless_has : (b : Bool) (es : List Event) → AllHaveCodes es → AllHaveCodes (if b then [] else es)
unless_has true es has = tt
unless_has false es has = has

arriving_has : (c : ℕ) (a : Arrival) → AllHaveCodes (arriving c a)
arriving_has c climb.Spent = tt
arriving_has c climb.Counted = (tt, tt)
arriving_has c climb.Early = tt
arriving_has c climb.Fires = (tt, tt)

settling_has : (h : List Event) (t : ℕ) (s : Status) → HasSmallStatus s → AllHaveCodes (settling h t s)
settling_has h t s small = joining_has (is_undone (status h t)) (event.Settle t s ∷ []) (small, tt)

settles_have : (ts : List ℕ) (code : ℕ) → IsSmall code → AllHaveCodes (map (λ u. event.Settle u (status_is.Exceptional code)) ts)
settles_have [] code small = tt
settles_have (t ∷ ts) code small = (small, settles_have ts code small)

failing_has : (h : List Event) (t code : ℕ) → IsSmall code → AllHaveCodes (failing h t code)
failing_has h t code small = joining_has (is_undone (status h t)) (map (λ u. event.Settle u (status_is.Exceptional code)) (relayed h t)) (settles_have (relayed h t) code small)

passes_have : (ts : List ℕ) → AllHaveCodes (map event.Pass ts)
passes_have [] = tt
passes_have (t ∷ ts) = (tt, passes_have ts)

root_has : (root : Option ℕ) → AllHaveCodes (settle_root root)
root_has (Some c) = (tt, tt)
root_has None = tt

pass_end_has : (h : List Event) (way : List ℕ) (root : Option ℕ) → AllHaveCodes (pass_end h way root)
pass_end_has h (c ∷ above) root = arriving_has c (arrival h c)
pass_end_has h [] root = root_has root

passing_has : (h : List Event) (t : ℕ) → AllHaveCodes (passing h t)
passing_has h t =
    codes_then (map event.Pass (passed h t)) (pass_end h (drop (length (passed h t)) (path h t)) (root_of (path h t))) (passes_have (passed h t)) (pass_end_has h (drop (length (passed h t)) (path h t)) (root_of (path h t)))

after_end_has : (h : List Event) (t : ℕ) (how : Ending) → HasSmallEnding how → AllHaveCodes (after_end h t how)
after_end_has h t ending.Ok small = settling_has h t status_is.Normal tt
after_end_has h t ending.Quiet small = tt
after_end_has h t ending.Try small = arriving_has t (arrival h t)
after_end_has h t ending.Pass small = passing_has h t
after_end_has h t ending.Complete small = unless_has (is_spent h t) (event.Fire t how.Complete ∷ []) (tt, tt)
after_end_has h t (ending.Fail code) small = failing_has h t code small

ending_has : (h : List Event) (w : ℕ) (how : Ending) (o : Option ℕ) → HasSmallEnding how → AllHaveCodes (ending_events h w how o)
ending_has h w how None small = tt
ending_has h w how (Some t) small = (tt, after_end_has (h ++ event.End t w ∷ []) t how small)

own_has : (h : List Event) (c : ℕ) → AllHaveCodes (settling_own h c)
own_has h c = joining_has (is_fired_by_complete h c) (settling h c status_is.Normal) (settling_has h c status_is.Normal tt)

above_has : (h : List Event) (c : ℕ) (o : Option ℕ) → AllHaveCodes (above_hook h c o)
above_has h c (Some p) = arriving_has p (arrival h p)
above_has h c None = settling_has h c status_is.Normal tt

hook_has : (h : List Event) (o : Option ℕ) → AllHaveCodes (hook_events h o)
hook_has h None = tt
hook_has h (Some c) =
    let ended = h ++ event.Hooked c ∷ [] in
    let own = settling_own ended c in
    (tt, codes_then own (above_hook (ended ++ own) c (parent h c)) (own_has ended c) (above_has (ended ++ own) c (parent h c)))

quiet_has : (h : List Event) (o : Option ℕ) → AllHaveCodes (root_events h o)
quiet_has h None = tt
quiet_has h (Some root) = settling_has h root status_is.Normal tt

events_have : (pool : Pool) (h : List Event) (asked : Step) → HasStepCode asked → AllHaveCodes (events_of pool h asked)
unfolding events_of
events_have pool h (step.Submit s k) small = (tt, tt)
events_have pool h (step.Fork w k) small = (tt, tt)
events_have pool h (step.Trigger w count) small = (tt, tt)
events_have pool h (step.Poll w r) small = taking_has h w (choice pool h w r)
events_have pool h (step.Help w r) small = taking_has h w (choice pool h w r)
events_have pool h (step.Join w t r) small = joining_has (is_undone (status h t)) (taking h w (choice pool h w r)) (taking_has h w (choice pool h w r))
events_have pool h (step.End w how) small = ending_has h w how (running h w) small
events_have pool h (step.HookDone w) small = hook_has h (hand h w)
events_have pool h (step.Add w c n) small = (tt, tt)
events_have pool h (step.QuietRoot w t) small = quiet_has h (root_of (path h t))
events_have pool h (step.Fault t code) small = failing_has h t code small
events_have pool h (step.Cancel t) small = settling_has h t status_is.Cancelled tt
events_have pool h step.Shutdown small = unless_has (is_closed h || is_stopped h) (event.Close ∷ []) (tt, tt)
events_have pool h step.Stop small = unless_has (is_stopped h) (event.Stop ∷ []) (tt, tt)
events_have pool h step.IsQuiescent small = tt
events_have pool h (step.State t) small = tt
events_have pool h (step.Release t) small = (tt, tt)

pub answer_has : (past : Past) (asked : Step) → HasStepCode asked → AllHaveCodes (answer past asked).1
unfolding answer
answer_has past asked small = go (refusal_of past asked)
  where
    go : (r : Option Refusal) → AllHaveCodes (answer_of past asked r).1
    go None = events_have past.pool past.events asked small
    go (Some r) = tt

-- ---- the steps of lines

abbrev pub HasAskedCode : Asked → Type 0
HasAskedCode (ask.Step wanted) = HasStepCode wanted
HasAskedCode (ask.Accept name wanted) = HasStepCode wanted
HasAskedCode ask.Seal = Unit {0}
HasAskedCode ask.Epoch = Unit {0}

step_has : (wanted : Step) → HasLine wanted → HasStepCode wanted
step_has (step.End w how) fits = fits.1
step_has (step.Fault t code) fits = fits.1
step_has _ fits = tt

named_has : (names : List (List ℕ)) (said : Line2) → HasLine2 said → HasAskedCode (asked_by names said)
named_has names (line.End w how) fits = fits.1
named_has names (line.Fault t code) fits = fits.1
named_has names _ fits = tt

pub line_has : (naming : TaskNaming) (text : List ℕ) (asked : Asked) → asked_in naming text ≡ Some asked → HasAskedCode asked
line_has Numbers text asked is = go (step_in text) refl is
  where
    go : (o : Option Step) → step_in text ≡ o → option_map ask.Step o ≡ Some asked → HasAskedCode asked
    go None reads is = absurd cc
    go (Some wanted) reads is = subst HasAskedCode (some_is (ask.Step wanted) asked is) (step_has wanted (step_found text wanted reads).0)
line_has (Names names) text asked is = go (line2_in text) refl is
  where
    go : (o : Option Line2) → line2_in text ≡ o → option_map (asked_by names) o ≡ Some asked → HasAskedCode asked
    go None reads is = absurd cc
    go (Some said) reads is = subst HasAskedCode (some_is (asked_by names said) asked is) (named_has names said (line2_found text said reads).0)
