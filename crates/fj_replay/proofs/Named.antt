-- Each name of a script of version 2 stands at the number of its task.
use Rattle.std.specs.Prelude.{Bool, true, false, not, ◌||◌, ◌==◌, if◌then◌else◌, cond, Option, option_map}
use Rattle.std.specs.List.{list_any, position_or_len}
use Rattle.std.specs.Str.{bytes_eq}
use Rattle.std.proofs.Common.{ℕ, ◌≡◌, ◌+◌, ◌<◌, ◌≤◌, List, [], ◌∷◌, ◌++◌, length, get_or, Some, None, refl, ap, sym, subst, ◌∙◌, arith, ⊎_elim, length-append}
use Rattle.std.proofs.lemmas.Bool.{cases_lt, not-false, le-ltb, lt-ltb}
use Rattle.std.proofs.lemmas.Bool.Decides.{Decides-eqb}
use Rattle.std.proofs.lemmas.List.{get_or_append_left}
use Rattle.std.proofs.Math.Seq.{get_or-append_seam}
use Rattle.std.proofs.lemmas.List.Folds.{list_any-append, list_any_at, position_or_len_push}
use Rattle.std.proofs.lemmas.List.Elements.{filter_map-append}
use Rattle.std.proofs.lemmas.List.Sums.{position_or_len_is, prefix_len_stops}
use Rattle.std.proofs.lemmas.Option.{unwrap_or-slice_get}
use Rattle.std.proofs.lemmas.Slice.Eq.{bytes_eq-Decides}
use Rattle.fj_rules.specs.declared.refusal.Refusal.{Refusal}
use Rattle.fj_rules.specs.declared.said.Said.TheVariants as says
use Rattle.fj_rules.specs.declared.step.Step.{Step}
use Rattle.fj_lines.specs.declared.line.Line.TheVariants as line
use Rattle.fj_rules.specs.Lists.{is_in}
use Rattle.fj_rules.specs.Tasks.{accepted, accepted_by, tasks}
use Rattle.fj_rules.specs.Answers.{answer}
use Rattle.fj_rules.specs.Pasts.{Past, grown}
use Rattle.fj_rules.specs.Epochs.{IsPast, seal_refusal}
use Rattle.fj_lines.specs.Lines.{step_in, Line2, line2_in}
use Rattle.fj_rules.proofs.Events.Growth.{or_false}
use Rattle.fj_rules.proofs.Events.Lawful.{is_numbered}
use Rattle.fj_rules.proofs.Places.OnePlace.{never}
use Rattle.fj_lines.proofs.Reading.PartLaws.{some_is}
use Rattle.fj_rules.proofs.Steps.AnswersAllowed.{history_allowed}
use Rattle.fj_rules.proofs.Steps.Replies.{answer_tells}
use Rattle.fj_replay.specs.declared.task_naming.TaskNaming.{TaskNaming}
use Rattle.fj_replay.specs.declared.task_naming.TaskNaming.TheVariants.{Numbers, Names}
use Rattle.fj_replay.specs.declared.asked.Asked.{Asked}
use Rattle.fj_replay.specs.declared.asked.Asked.TheVariants as ask
use Rattle.fj_replay.specs.declared.replied.Replied.TheVariants.{Said as Says, NameTaken}
use Rattle.fj_replay.specs.declared.script_stage.ScriptStage.TheVariants.{Start, Plays}
use Rattle.fj_streams.specs.Cuts.{lines}
use Rattle.fj_replay.specs.Namings.{number_of, is_taken, is_named, with_name, name_of, AreNamesOf, StandsFor}
use Rattle.fj_replay.specs.Plays.{Play, asked_by, asked_in, play_after, accepting, replied, sealing, is_task}
use Rattle.fj_replay.specs.Scripts.{stage_from, LeadsBy, GivesName}
use Rattle.fj_replay.proofs.Kept.{IsKept, Stays, holds_later, holds_of}
use Rattle.fj_replay.proofs.Runs.{run_kept, step_past}
use Rattle.fj_replay.proofs.Stages.{stage-append}
use Rattle.fj_replay.proofs.Version2.Accepted.{accepted_after, known_number, none_accepted}
use Rattle.fj_replay.proofs.Version2.Told.{is_accept, answer_told}

-- ---- places in a table

-- where none passes, the place is the length
absent : (p : List ℕ → Bool) (xs : List (List ℕ)) → list_any p xs ≡ false → position_or_len p xs ≡ length xs
absent p xs none =
    position_or_len_is p xs (length xs) [] (omega arith) (λ k low. never (p (get_or xs k [])) (λ is. let bad : true ≡ false = sym (list_any_at p xs k [] low is) ∙ none in cc)) (λ low. absurd (omega (arith, low)))

-- where one passes, it is below
present : (p : List ℕ → Bool) (xs : List (List ℕ)) → list_any p xs ≡ true → position_or_len p xs < length xs
present p [] some = absurd cc
present p (x ∷ xs) some = go (p x) (present p xs) some
  where
    go : (b : Bool) → (list_any p xs ≡ true → position_or_len p xs < length xs) → (b || list_any p xs) ≡ true → cond (not b) (1 + position_or_len p xs) 0 < length (x ∷ xs)
    go true later some = omega arith
    go false later some = let below = later some in omega (arith, below)

own_place : (name : List ℕ) → bytes_eq name name ≡ true
own_place name = (bytes_eq-Decides name name).1 refl

-- each name in the table stands for its own place
abbrev pub Own : List (List ℕ) → Type 0
Own names = (t : ℕ) → t < length names → number_of names (get_or names t []) ≡ t

-- with a name that was free
-- a name that was free stands for the next place
new_place : (names : List (List ℕ)) (name : List ℕ) → is_taken names name ≡ false → number_of (names ++ name ∷ []) name ≡ length names
new_place names name free =
    let same : (length names == length names) ≡ true = (Decides-eqb (length names) (length names)).1 refl in
    position_or_len_push (bytes_eq name) names name ∙ rw (absent (bytes_eq name) names free, same, own_place name) (omega arith)

own_more : (names : List (List ℕ)) (name : List ℕ) → is_taken names name ≡ false → Own names → Own (names ++ name ∷ [])
own_more names name free own t low = ⊎_elim before last (cases_lt t (length names))
  where
    before : t < length names → number_of (names ++ name ∷ []) (get_or (names ++ name ∷ []) t []) ≡ t
    before below =
        let other : (t == length names) ≡ false = never (t == length names) (λ is. let same = (Decides-eqb t (length names)).0 is in absurd (omega (arith, same, below))) in
        rw (get_or_append_left names (name ∷ []) [] t below, position_or_len_push (bytes_eq (get_or names t [])) names name, own t below, other) refl

    last : length names ≤ t → number_of (names ++ name ∷ []) (get_or (names ++ name ∷ []) t []) ≡ t
    last high =
        let many = length-append names (name ∷ []) in
        let is : t ≡ length names = omega (arith, low, many, high) in
        let here : get_or (names ++ name ∷ []) t [] ≡ name = rw is (get_or-append_seam names name [] []) in
        rw here (new_place names name free ∙ sym is)

-- ---- a line

-- a table has a name for each of so many tasks
abbrev pub Fits : TaskNaming → ℕ → Type 0
Fits Numbers n = Unit {0}
Fits (Names names) n = (length names ≡ n) × Own names

-- so has the table of a play
pub record IsFit (play : Play) : Type 0 where
  pub run : IsPast play.past
  pub fits : Fits play.naming (accepted play.past.events)

next_accepted : (past : Past) (asked : Step) (told : Bool) → is_task (answer past asked).0 ≡ told → accepted (past.events ++ (answer past asked).1) ≡ (if told then accepted past.events + 1 else accepted past.events)
next_accepted past asked told is = accepted_after past.events (answer past asked).1 (answer past asked).0 (answer_tells past asked) ∙ rw is refl

step_fits : (names : List (List ℕ)) (past : Past) (asked : Step) → is_accept asked ≡ false → IsPast past → Fits (Names names) (accepted past.events) → Fits (Names names) (accepted (grown past (answer past asked).1).events)
step_fits names past asked old run fits = (fits.0 ∙ sym (next_accepted past asked false (answer_told past asked old run).0), fits.1)

accept_fits : (names : List (List ℕ)) (past : Past) (name : List ℕ) (asked : Step) (told : Bool) → is_task (answer past asked).0 ≡ told → is_taken names name ≡ false → Fits (Names names) (accepted past.events)
    → Fits (if told then with_name (Names names) name else Names names) (accepted (grown past (answer past asked).1).events)
accept_fits names past name asked true is free fits = (length-append names (name ∷ []) ∙ (ap (λ (n : ℕ). n + 1) fits.0 ∙ sym (next_accepted past asked true is)), own_more names name free fits.1)
accept_fits names past name asked false is free fits = (fits.0 ∙ sym (next_accepted past asked false is), fits.1)

-- a play by these names
abbrev pub by : List (List ℕ) → Past → Play
by names past = record { past = past; naming = Names names }

FitsAfter : List (List ℕ) → Past → Asked → Type 0
FitsAfter names past asked = Fits (play_after (by names past) asked).naming (accepted (play_after (by names past) asked).past.events)

named_fits : (names : List (List ℕ)) (past : Past) (name : List ℕ) (asked : Step) → Fits (Names names) (accepted past.events) → FitsAfter names past (ask.Accept name asked)
unfolding FitsAfter
named_fits names past name asked fits = go (is_taken names name) refl
  where
    go : (taken : Bool) → is_taken names name ≡ taken
        → Fits (if taken then by names past else accepting (by names past) name (answer past asked)).naming (accepted (if taken then by names past else accepting (by names past) name (answer past asked)).past.events)
    go true is = fits
    go false is = accept_fits names past name asked (is_task (answer past asked).0) refl is fits

seal_fits : (names : List (List ℕ)) (past : Past) (refusal : Option Refusal) → Fits (Names names) (accepted past.events) → Fits (Names names) (accepted (sealing past refusal).events)
seal_fits names past None fits = fits
seal_fits names past (Some refusal) fits = fits

-- a line of version 2 asks for a step that may accept a task under its name alone
line_fits : (names : List (List ℕ)) (past : Past) (l : Line2) → IsPast past → Fits (Names names) (accepted past.events) → FitsAfter names past (asked_by names l)
unfolding FitsAfter
line_fits names past (line.Submit name s kind) run fits = named_fits names past name _ fits
line_fits names past (line.Fork name w kind) run fits = named_fits names past name _ fits
line_fits names past (line.Trigger name w count) run fits = named_fits names past name _ fits
line_fits names past (line.Poll w r) run fits = step_fits names past _ refl run fits
line_fits names past (line.Help w r) run fits = step_fits names past _ refl run fits
line_fits names past (line.Join w t r) run fits = step_fits names past _ refl run fits
line_fits names past (line.End w ending) run fits = step_fits names past _ refl run fits
line_fits names past (line.HookDone w) run fits = step_fits names past _ refl run fits
line_fits names past (line.Add w c n) run fits = step_fits names past _ refl run fits
line_fits names past (line.QuietRoot w t) run fits = step_fits names past _ refl run fits
line_fits names past (line.Fault t code) run fits = step_fits names past _ refl run fits
line_fits names past (line.Cancel t) run fits = step_fits names past _ refl run fits
line_fits names past line.Shutdown run fits = step_fits names past _ refl run fits
line_fits names past line.Stop run fits = step_fits names past _ refl run fits
line_fits names past line.IsQuiescent run fits = step_fits names past _ refl run fits
line_fits names past (line.State t) run fits = step_fits names past _ refl run fits
line_fits names past (line.Release t) run fits = step_fits names past _ refl run fits
line_fits names past line.Seal run fits = seal_fits names past (seal_refusal past) fits
line_fits names past line.Epoch run fits = fits

found_fits : (names : List (List ℕ)) (past : Past) (o : Option Line2) (asked : Asked) → option_map (asked_by names) o ≡ Some asked → IsPast past → Fits (Names names) (accepted past.events) → FitsAfter names past asked
found_fits names past None asked is run fits = absurd cc
found_fits names past (Some l) asked is run fits = subst (FitsAfter names past) (some_is _ asked is) (line_fits names past l run fits)

numbered_fits : (past : Past) (o : Option Step) (asked : Asked) → option_map ask.Step o ≡ Some asked
    → Fits (play_after (record { past = past; naming = Numbers }) asked).naming (accepted (play_after (record { past = past; naming = Numbers }) asked).past.events)
numbered_fits past None asked is = absurd cc
numbered_fits past (Some wanted) asked is =
    subst (λ (a : Asked). Fits (play_after (record { past = past; naming = Numbers }) a).naming (accepted (play_after (record { past = past; naming = Numbers }) a).past.events)) (some_is _ asked is) tt

more_fits : (naming : TaskNaming) (past : Past) (text : List ℕ) (asked : Asked) → asked_in naming text ≡ Some asked → IsPast past → Fits naming (accepted past.events)
    → Fits (play_after (record { past = past; naming = naming }) asked).naming (accepted (play_after (record { past = past; naming = naming }) asked).past.events)
unfolding FitsAfter
more_fits Numbers past text asked is run fits = numbered_fits past (step_in text) asked is
more_fits (Names names) past text asked is run fits = found_fits names past (line2_in text) asked is run fits

pub fit_kept : IsKept IsFit
fit_kept = record {
  numbers = λ p. record { run = run_kept.numbers p; fits = tt };
  names = λ p. record { run = run_kept.names p; fits = (sym none_accepted, λ t low. absurd (omega (arith, low))) };
  more = λ play text asked is fit. record { run = run_kept.more play text asked is fit.run; fits = more_fits play.naming play.past text asked is fit.run fit.fits };
}

-- ---- a script

fits_there : (b : List ℕ) (names : List (List ℕ)) (past : Past) → LeadsBy b names past → IsFit (by names past)
fits_there b names past leads = holds_of IsFit (Plays (by names past)) (lines b) fit_kept leads

pub name_at : (names : List (List ℕ)) (t : ℕ) → name_of (Names names) t ≡ get_or names t []
name_at names t = unwrap_or-slice_get names t []

-- the names to which a script leads are those of its tasks
pub are_names : (b : List ℕ) (names : List (List ℕ)) (past : Past) → LeadsBy b names past → AreNamesOf names past.events
are_names b names past leads = record {
  count = fit.fits.0;
  own = own;
  taken = taken;
  free = free;
}
  where
    fit : IsFit (by names past)
    fit = fits_there b names past leads

    own : (t : ℕ) → is_in t (tasks past.events) ≡ true → number_of names (name_of (Names names) t) ≡ t
    own t there = let low = known_number past t fit.run there in let many = fit.fits.0 in rw (name_at names t) (fit.fits.1 t (omega (arith, low, many)))

    taken : (name : List ℕ) → is_taken names name ≡ true → name_of (Names names) (number_of names name) ≡ name
    taken name some =
        let here = not-false (bytes_eq name (get_or names (number_of names name) [])) (prefix_len_stops (λ x. not (bytes_eq name x)) names [] (present (bytes_eq name) names some)) in
        name_at names (number_of names name) ∙ sym ((bytes_eq-Decides name (get_or names (number_of names name) [])).0 here)

    free : (name : List ℕ) → is_taken names name ≡ false → is_in (number_of names name) (tasks past.events) ≡ false
    free name none =
        let next : number_of names name ≡ accepted past.events = absent (bytes_eq name) names none ∙ fit.fits.0 in
        is_numbered past.pool past.events (history_allowed past fit.run) (number_of names name) ∙ le-ltb (number_of names name) (accepted past.events) (omega (arith, next))

-- ---- the line that gave a name

-- the name is that of this task
Stands : List ℕ → ℕ → TaskNaming → Type 0
Stands name t Numbers = ⊥
Stands name t (Names names) = StandsFor names name t

-- a table with one name more keeps its place
stands_more : (names : List (List ℕ)) (name other : List ℕ) (t : ℕ) → StandsFor names name t → StandsFor (names ++ other ∷ []) name t
stands_more names name other t stands = record {
  taken = list_any-append (bytes_eq name) names (other ∷ []) ∙ rw stands.taken refl;
  number = kept;
}
  where
    below : number_of names name < length names
    below = present (bytes_eq name) names stands.taken

    apart : (number_of names name == length names) ≡ false
    apart = never (number_of names name == length names) (λ is. let same = (Decides-eqb (number_of names name) (length names)).0 is in absurd (omega (arith, same, below)))

    kept : number_of (names ++ other ∷ []) name ≡ t
    kept = position_or_len_push (bytes_eq name) names other ∙ rw apart stands.number

naming_stands : (name other : List ℕ) (t : ℕ) (naming : TaskNaming) (told : Bool) → Stands name t naming → Stands name t (if told then with_name naming other else naming)
unfolding Stands
naming_stands name other t Numbers told stands = absurd stands
naming_stands name other t (Names names) true stands = stands_more names name other t stands
naming_stands name other t (Names names) false stands = stands

Keeps : List ℕ → ℕ → Play → Type 0
Keeps name t play = Stands name t play.naming

-- it stays so at each line
stands_stays : (name : List ℕ) (t : ℕ) → Stays (Keeps name t)
unfolding Keeps
stands_stays name t play l (ask.Step wanted) is stands = stands
stands_stays name t play l (ask.Accept other wanted) is stands = go (is_named play.naming other)
  where
    go : (taken : Bool) → Stands name t (if taken then play else accepting play other (answer play.past wanted)).naming
    go true = stands
    go false = naming_stands name other t play.naming (is_task (answer play.past wanted).0) stands
stands_stays name t play l ask.Seal is stands = stands
stands_stays name t play l ask.Epoch is stands = stands

-- the next task has the next number
pub next_number : (past : Past) (asked : Step) (t : ℕ) → IsPast past → (answer past asked).0 ≡ says.Task t → t ≡ accepted past.events
unfolding tasks
next_number past asked t run told =
    let one : tasks (answer past asked).1 ≡ t ∷ [] = (answer_tells past asked).accepts ∙ rw told refl in
    let more : is_in n (tasks (past.events ++ (answer past asked).1)) ≡ true = is_numbered past.pool (past.events ++ (answer past asked).1) (history_allowed (grown past (answer past asked).1) (step_past past asked run)) n ∙ lt-ltb n _ grows in
    let none : is_in n (tasks past.events) ≡ false = is_numbered past.pool past.events (history_allowed past run) n ∙ le-ltb n n (omega arith) in
    let all : is_in n (tasks (past.events ++ (answer past asked).1)) ≡ (t == n) =
    ap (is_in n) (filter_map-append accepted_by past.events (answer past asked).1 ∙ ap (λ (ts : List ℕ). tasks past.events ++ ts) one)
    ∙ (list_any-append (λ u. u == n) (tasks past.events) (t ∷ []) ∙ rw none (or_false (t == n))) in
    (Decides-eqb t n).0 (sym all ∙ more)
  where
    n : ℕ
    n = accepted past.events

    grows : n < accepted (past.events ++ (answer past asked).1)
    grows = let more = next_accepted past asked true (rw told refl) in omega (arith, more)

-- a new name is that of the task which was accepted
new_stands : (names : List (List ℕ)) (name : List ℕ) (t : ℕ) → is_taken names name ≡ false → t ≡ length names → StandsFor (names ++ name ∷ []) name t
new_stands names name t free is = record {
  taken = list_any-append (bytes_eq name) names (name ∷ []) ∙ rw (free, own_place name) refl;
  number = new_place names name free ∙ sym is;
}

no_accept : (o : Option Step) (name : List ℕ) (wanted : Step) → option_map ask.Step o ≡ Some (ask.Accept name wanted) → ⊥
no_accept None name wanted e = cc
no_accept (Some asked) name wanted e = cc

accept_stands : (naming : TaskNaming) (past : Past) (text name : List ℕ) (wanted : Step) (t : ℕ) → asked_in naming text ≡ Some (ask.Accept name wanted)
    → replied (record { past = past; naming = naming }) (ask.Accept name wanted) ≡ Says (says.Task t) → IsFit (record { past = past; naming = naming })
    → Keeps name t (play_after (record { past = past; naming = naming }) (ask.Accept name wanted))
unfolding Keeps Stands
accept_stands Numbers past text name wanted t asks told fit = absurd (no_accept (step_in text) name wanted asks)
accept_stands (Names names) past text name wanted t asks told fit = go (is_taken names name) refl told
  where
    go : (taken : Bool) → is_taken names name ≡ taken → (if taken then NameTaken else Says (answer past wanted).0) ≡ Says (says.Task t)
        → Stands name t (if taken then by names past else accepting (by names past) name (answer past wanted)).naming
    go true is told = absurd cc
    go false is told =
        let said : (answer past wanted).0 ≡ says.Task t = cc in
        let next : t ≡ length names = next_number past wanted t fit.run said ∙ sym fit.fits.0 in
        rw said (new_stands names name t is next)

-- where a line gave a name to a task, the name stands for it from there on
pub given_name : (b : List ℕ) (names : List (List ℕ)) (past : Past) (name : List ℕ) (t : ℕ) → LeadsBy b names past → GivesName b name t → StandsFor names name t
unfolding Keeps Stands
given_name b names past name t leads gives =
    holds_later (Keeps name t) (play_after gives.play (ask.Accept name gives.wanted)) (Plays (by names past)) gives.after (stands_stays name t)
    (accept_stands gives.play.naming gives.play.past gives.line name gives.wanted t gives.asks gives.told (holds_of IsFit (Plays gives.play) gives.before fit_kept gives.good))
    (sym (ap (stage_from Start) gives.cut ∙ (stage-append Start gives.before (gives.line ∷ gives.after) ∙ rw (gives.good, gives.asks) refl)) ∙ leads)
