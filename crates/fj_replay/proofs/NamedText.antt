-- What is replied to a script of version 2, by itself.
use Rattle.std.specs.Prelude.{Bool, true, false, not, ◌||◌, ◌==◌, if◌then◌else◌, cond, option_map, unwrap_or, is_some, codes}
use Rattle.std.specs.List.{list_any, position_or_len}
use Rattle.std.specs.Option.{option_map_or}
use Rattle.std.specs.Str.{bytes_eq}
use Rattle.std.proofs.Common.{ℕ, zero, suc, ◌≡◌, ◌+◌, List, [], ◌∷◌, ◌++◌, length, get_or, refl, ap, sym, subst, ◌∙◌, arith, append-nil, Option, Some, None}
use Rattle.std.proofs.lemmas.Bool.Decides.{Decides-eqb}
use Rattle.fj_rules.specs.declared.refusal.Refusal.{Refusal}
use Rattle.fj_rules.specs.declared.said.Said.{Said}
use Rattle.fj_rules.specs.declared.said.Said.TheVariants as says
use Rattle.fj_rules.specs.declared.step.Step.{Step}
use Rattle.fj_rules.specs.Answers.{answer}
use Rattle.fj_rules.specs.Bounds.{Bounds, Pool}
use Rattle.fj_rules.specs.Epochs.{seal_refusal}
use Rattle.fj_rules.specs.Pasts.{Past, grown}
use Rattle.fj_rules.specs.Tasks.{accepted}
use Rattle.fj_rules.proofs.Places.OnePlace.{never}
use Rattle.fj_lines.specs.Lines.{Line2, line2_in}
use Rattle.fj_lines.specs.Headings.{pool_in, start}
use Rattle.fj_streams.specs.Cuts.{lines}
use Rattle.fj_replay.specs.declared.asked.Asked.{Asked}
use Rattle.fj_replay.specs.declared.asked.Asked.TheVariants as ask
use Rattle.fj_replay.specs.declared.replied.Replied.TheVariants.{Said as Says, NameTaken}
use Rattle.fj_replay.specs.declared.script_stage.ScriptStage.TheVariants.{Start, Plays}
use Rattle.fj_replay.specs.declared.task_naming.TaskNaming.{TaskNaming}
use Rattle.fj_replay.specs.declared.task_naming.TaskNaming.TheVariants.{Names}
use Rattle.fj_replay.specs.Namings.{number_of, is_taken, name_of, replied_line}
use Rattle.fj_replay.specs.NamedText.{Given, GoesOn, task_called, name_given, number_behind, gives, named_reply, reply_by, sealing_told, told_from, before_these, lines2_of, named_replies, named_by, named_text, stepped, line_of}
use Rattle.fj_replay.specs.Plays.{Play, asked_by, asked_with, play_after, accepting, sealing, seal_reply, reply_text, is_task}
use Rattle.fj_replay.specs.Scripts.{text_from, text, is_titled}
use Rattle.fj_replay.specs.Stages.{opened}
use Rattle.fj_replay.proofs.Named.{IsFit, by, fit_kept, name_at, next_number}

-- ---- a table, as names that were given

-- each name of a table with its place, from this one on
abbrev placed : ℕ → List (List ℕ) → Given
placed k [] = []
placed k (name ∷ names) = (name, k) ∷ placed (k + 1) names

-- as many names as tasks: each was given to the task of its place
abbrev table : List (List ℕ) → Given
table names = placed 0 names

called_placed : (names : List (List ℕ)) (name : List ℕ) (k : ℕ) → unwrap_or (task_called (placed k names) name) (k + length names) ≡ k + number_of names name
called_placed [] name k = refl
called_placed (x ∷ xs) name k = go (bytes_eq name x) (called_placed xs name (k + 1))
  where
    many : k + length (x ∷ xs) ≡ (k + 1) + length xs
    many = omega arith

    go : (b : Bool) → unwrap_or (task_called (placed (k + 1) xs) name) ((k + 1) + length xs) ≡ (k + 1) + number_of xs name
        → unwrap_or (if b then Some k else task_called (placed (k + 1) xs) name) (k + length (x ∷ xs)) ≡ k + cond (not b) (1 + position_or_len (bytes_eq name) xs) 0
    go true later = omega arith
    go false later = ap (λ n. unwrap_or (task_called (placed (k + 1) xs) name) n) many ∙ (later ∙ omega arith)

taken_placed : (names : List (List ℕ)) (name : List ℕ) (k : ℕ) → is_some (task_called (placed k names) name) ≡ is_taken names name
taken_placed [] name k = refl
taken_placed (x ∷ xs) name k = go (bytes_eq name x) (taken_placed xs name (k + 1))
  where
    go : (b : Bool) → is_some (task_called (placed (k + 1) xs) name) ≡ is_taken xs name → is_some (if b then Some k else task_called (placed (k + 1) xs) name) ≡ (b || list_any (bytes_eq name) xs)
    go true later = refl
    go false later = later

name_placed : (names : List (List ℕ)) (k t u : ℕ) → u ≡ k + t → name_given (placed k names) u ≡ get_or names t []
name_placed [] k t u is = refl
name_placed (x ∷ xs) k zero u is = let same : (u == k) ≡ true = (Decides-eqb u k).1 (omega (arith, is)) in rw same refl
name_placed (x ∷ xs) k (suc t) u is =
    let other : (u == k) ≡ false = never (u == k) (λ e. let same = (Decides-eqb u k).0 e in absurd (omega (arith, same, is))) in
    rw other (name_placed xs (k + 1) t u (omega (arith, is)))

placed_more : (names : List (List ℕ)) (name : List ℕ) (k n : ℕ) → n ≡ k + length names → placed k (names ++ name ∷ []) ≡ placed k names ++ (name, n) ∷ []
placed_more [] name k n is = ap (λ (m : ℕ). (name, m) ∷ []) (omega (arith, is))
placed_more (x ∷ xs) name k n is = ap (λ (later : Given). (x, k) ∷ later) (placed_more xs name (k + 1) n (omega (arith, is)))

-- a name means the same number
number_table : (names : List (List ℕ)) (past : Past) (name : List ℕ) → length names ≡ accepted past.events → number_behind past (table names) name ≡ number_of names name
number_table names past name many =
    let next : accepted past.events ≡ 0 + length names = omega (arith, many) in
    ap (λ n. unwrap_or (task_called (table names) name) n) next ∙ (called_placed names name 0 ∙ omega arith)

-- and a task has the same name
name_table : (names : List (List ℕ)) (t : ℕ) → name_of (Names names) t ≡ name_given (table names) t
name_table names t = name_at names t ∙ sym (name_placed names 0 t t (omega arith))

asked_table : (names : List (List ℕ)) (past : Past) (line : Line2) → length names ≡ accepted past.events → asked_with (number_behind past (table names)) line ≡ asked_by names line
asked_table names past line many = ap (λ (number : List ℕ → ℕ). asked_with number line) (λ i name. number_table names past name many i)

-- so a reply has the same line
line_table : (names : List (List ℕ)) (limits : Bounds) (reply : Said) → replied_line (Names names) limits (Says reply) ≡ named_reply (table names) limits reply
unfolding replied_line
line_table names limits reply = ap (λ (name : ℕ → List ℕ). reply_by name limits reply) (λ i t. name_table names t i)

-- ---- a name that is given

-- with the name for the next task, if the reply accepts one
abbrev names_after : List (List ℕ) → List ℕ → Said → List (List ℕ)
names_after names name reply = if is_task reply then names ++ name ∷ [] else names

gives_table : (names : List (List ℕ)) (name : List ℕ) (reply : Said) → ((t : ℕ) → reply ≡ says.Task t → t ≡ length names) → table names ++ gives name reply ≡ table (names_after names name reply)
gives_table names name (says.Task t) next = sym (placed_more names name 0 t (let is = next t refl in omega (arith, is)))
gives_table names name says.None next = append-nil (table names)
gives_table names name (says.Run t) next = append-nil (table names)
gives_table names name (says.Skip t) next = append-nil (table names)
gives_table names name says.Done next = append-nil (table names)
gives_table names name (says.Counted t) next = append-nil (table names)
gives_table names name (says.Hook t) next = append-nil (table names)
gives_table names name (says.Spent t) next = append-nil (table names)
gives_table names name (says.Early t) next = append-nil (table names)
gives_table names name (says.Root t) next = append-nil (table names)
gives_table names name (says.Count n) next = append-nil (table names)
gives_table names name says.Yes next = append-nil (table names)
gives_table names name says.No next = append-nil (table names)
gives_table names name says.Normal next = append-nil (table names)
gives_table names name (says.Exceptional code) next = append-nil (table names)
gives_table names name says.Cancelled next = append-nil (table names)
gives_table names name (says.Refused refusal) next = append-nil (table names)
gives_table names name (says.State place status) next = append-nil (table names)

named_if_table : (names : List (List ℕ)) (name : List ℕ) (told : Bool) → ◌≡◌ {A = TaskNaming} (if told then Names (names ++ name ∷ []) else Names names) (Names (if told then names ++ name ∷ [] else names))
named_if_table names name true = refl
named_if_table names name false = refl

-- the play after a line whose task may get a name
accepts_table : (names : List (List ℕ)) (past : Past) (name : List ℕ) (wanted : Step)
    → accepting (by names past) name (answer past wanted) ≡ by (names_after names name (answer past wanted).0) (grown past (answer past wanted).1)
accepts_table names past name wanted =
    ap (λ (naming : TaskNaming). record { past = grown past (answer past wanted).1; naming = naming }) (named_if_table names name (is_task (answer past wanted).0))

-- ---- line by line

-- behind each play the replies are those of the names that were given
abbrev GoesOnSo : List (List ℕ) → GoesOn → Type 0
GoesOnSo ls later = (names : List (List ℕ)) (past : Past) → IsFit (by names past) → text_from (Plays (by names past)) ls ≡ later past (table names)

-- what is replied at this play, and behind it
abbrev told_at : Play → Asked → List (List ℕ) → List ℕ
told_at play asked ls = reply_text play asked ++ text_from (Plays (play_after play asked)) ls

stepped_table : (names : List (List ℕ)) (past new : Past) (reply : Said) (ls : List (List ℕ)) (later : GoesOn) → IsFit (by names new) → GoesOnSo ls later
    → replied_line (Names names) past.pool.limits (Says reply) ++ text_from (Plays (by names new)) ls ≡ named_reply (table names) past.pool.limits reply ++ later new (table names)
stepped_table names past new reply ls later fit each =
    ap (λ (line : List ℕ). line ++ text_from (Plays (by names new)) ls) (line_table names past.pool.limits reply)
    ∙ ap (λ (more : List ℕ). named_reply (table names) past.pool.limits reply ++ more) (each names new fit)

accepted_table : (names : List (List ℕ)) (past : Past) (name : List ℕ) (wanted : Step) (ls : List (List ℕ)) (later : GoesOn) → IsFit (by names past) → IsFit (accepting (by names past) name (answer past wanted)) → GoesOnSo ls later
    → replied_line (accepting (by names past) name (answer past wanted)).naming past.pool.limits (Says (answer past wanted).0) ++ text_from (Plays (accepting (by names past) name (answer past wanted))) ls
    ≡ stepped past (table names ++ gives name (answer past wanted).0) (answer past wanted) later
accepted_table names past name wanted ls later fit new each =
    let told = answer past wanted in
    let same = accepts_table names past name wanted in
    let next : (t : ℕ) → told.0 ≡ says.Task t → t ≡ length names = λ t is. next_number past wanted t fit.run is ∙ sym fit.fits.0 in
    ap (λ (play : Play). replied_line play.naming past.pool.limits (Says told.0) ++ text_from (Plays play) ls) same
    ∙ (stepped_table (names_after names name told.0) past (grown past told.1) told.0 ls later (subst IsFit same new) each
    ∙ ap (λ (given : Given). stepped past given told later) (sym (gives_table names name told.0 next)))

name_told : (names : List (List ℕ)) (past : Past) (name : List ℕ) (wanted : Step) (ls : List (List ℕ)) (later : GoesOn) → IsFit (by names past) → IsFit (play_after (by names past) (ask.Accept name wanted)) → GoesOnSo ls later
    → told_at (by names past) (ask.Accept name wanted) ls ≡ told_from past (table names) (ask.Accept name wanted) later
unfolding replied_line
name_told names past name wanted ls later fit new each = rw (taken_placed names name 0) (go (is_taken names name) new)
  where
    go : (taken : Bool) → IsFit (if taken then by names past else accepting (by names past) name (answer past wanted))
        → replied_line (if taken then by names past else accepting (by names past) name (answer past wanted)).naming past.pool.limits (if taken then NameTaken else Says (answer past wanted).0)
        ++ text_from (Plays (if taken then by names past else accepting (by names past) name (answer past wanted))) ls
        ≡ (if taken then line_of (codes "refused" ∷ codes "16" ∷ []) ++ later past (table names) else stepped past (table names ++ gives name (answer past wanted).0) (answer past wanted) later)
    go true new = ap (λ (more : List ℕ). line_of (codes "refused" ∷ codes "16" ∷ []) ++ more) (each names past fit)
    go false new = accepted_table names past name wanted ls later fit new each

seal_told : (names : List (List ℕ)) (past : Past) (refusal : Option Refusal) (ls : List (List ℕ)) (later : GoesOn) → IsFit (by names (sealing past refusal)) → GoesOnSo ls later
    → replied_line (Names names) past.pool.limits (seal_reply past refusal) ++ text_from (Plays (by names (sealing past refusal))) ls ≡ sealing_told past (table names) refusal later
unfolding replied_line
seal_told names past None ls later new each = ap (λ (more : List ℕ). replied_line (Names names) past.pool.limits (seal_reply past None) ++ more) (each names (sealing past None) new)
seal_told names past (Some refusal) ls later new each = ap (λ (more : List ℕ). replied_line (Names names) past.pool.limits (seal_reply past (Some refusal)) ++ more) (each names past new)

asked_told : (names : List (List ℕ)) (past : Past) (asked : Asked) (ls : List (List ℕ)) (later : GoesOn) → IsFit (by names past) → IsFit (play_after (by names past) asked) → GoesOnSo ls later
    → told_at (by names past) asked ls ≡ told_from past (table names) asked later
unfolding replied_line
asked_told names past (ask.Step wanted) ls later fit new each = stepped_table names past (grown past (answer past wanted).1) (answer past wanted).0 ls later new each
asked_told names past (ask.Accept name wanted) ls later fit new each = name_told names past name wanted ls later fit new each
asked_told names past ask.Seal ls later fit new each = seal_told names past (seal_refusal past) ls later new each
asked_told names past ask.Epoch ls later fit new each = ap (λ (more : List ℕ). reply_text (by names past) ask.Epoch ++ more) (each names past new)

line_told : (names : List (List ℕ)) (past : Past) (line : List ℕ) (o : Option Line2) (ls : List (List ℕ)) → line2_in line ≡ o → IsFit (by names past) → GoesOnSo ls (named_replies (lines2_of ls))
    → option_map_or (λ next. option_map_or (λ asked. reply_text (by names past) asked) (option_map (asked_by names) o) [] ++ text_from next ls) (option_map (λ asked. Plays (play_after (by names past) asked)) (option_map (asked_by names) o)) []
    ≡ named_replies (before_these o (lines2_of ls)) past (table names)
line_told names past line None ls is fit each = refl
line_told names past line (Some asked) ls is fit each =
    let new = fit_kept.more (by names past) line (asked_by names asked) (rw is refl) fit in
    asked_told names past (asked_by names asked) ls (named_replies (lines2_of ls)) fit new each
    ∙ ap (λ (wanted : Asked). told_from past (table names) wanted (named_replies (lines2_of ls))) (sym (asked_table names past asked fit.fits.0))

lines_told : (ls : List (List ℕ)) → GoesOnSo ls (named_replies (lines2_of ls))
lines_told [] names past fit = refl
lines_told (l ∷ ls) names past fit = line_told names past l (line2_in l) ls refl fit (lines_told ls)

-- ---- from the heading on

open_told : (o : Option Pool) (ls : List (List ℕ)) → option_map_or (λ next. text_from next ls) (opened (Names []) o) [] ≡ named_by o (lines2_of ls)
open_told None ls = refl
open_told (Some p) ls = lines_told ls [] (start p) (fit_kept.names p)

titled_told : (ls : List (List ℕ)) → is_titled ls ≡ true → text_from Start ls ≡ named_text ls
titled_told [] e = absurd cc
titled_told (title ∷ []) e = rw e refl
titled_told (title ∷ heading ∷ others) e = rw e (open_told (pool_in heading) others)

-- the replies to a script of version 2 are those to its lines, by the names that were given
pub text_named : (b : List ℕ) → is_titled (lines b) ≡ true → text b ≡ named_text (lines b)
text_named b e = titled_told (lines b) e
