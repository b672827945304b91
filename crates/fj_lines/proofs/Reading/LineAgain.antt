-- A line that is written is read as what it asks for.
use Rattle.std.proofs.Common.{◌≡◌, ℕ, ◌^◌, ◌<◌, true, List, [], ◌∷◌, ◌++◌, Some, refl}
use Rattle.std.specs.Prelude.{codes}
use Rattle.std.specs.Fmt.{decimal}
use Rattle.std.specs.List.{list_all}
use Rattle.fj_lines.specs.declared.line.Line.{Line}
use Rattle.fj_lines.specs.declared.line.Line.TheVariants as line
use Rattle.fj_lines.specs.Words.{joined}
use Rattle.fj_lines.specs.Tasks.{TaskWords}
use Rattle.fj_lines.specs.Readings.Tasks.{TaskReader}
use Rattle.fj_lines.specs.Lines.{submitted_words, forked_words, ending_words, line_words, HasWords}
use Rattle.fj_lines.specs.Readings.{word_said, task_said, worker_said, line_said, line_in}
use Rattle.fj_lines.specs.Readings.Accept.{submit_in, fork_in, trigger_in}
use Rattle.fj_lines.specs.Readings.Take.{poll_in, help_in, join_in}
use Rattle.fj_lines.specs.Readings.End.{end_in, hook_in}
use Rattle.fj_lines.specs.Readings.Completer.{add_in, root_in}
use Rattle.fj_lines.specs.Readings.Settle.{fault_in, cancel_in}
use Rattle.fj_lines.specs.Readings.Query.{state_in}
use Rattle.fj_lines.specs.Readings.Release.{release_in}
use Rattle.fj_lines.proofs.Reading.NumberLaws.{number_again}
use Rattle.fj_lines.proofs.Reading.WordLaws.{is_word, words_again, number_is_word, one_is_words, two_are_words}
use Rattle.fj_lines.proofs.Reading.FormLaws.{one_again, two_again}
use Rattle.fj_lines.proofs.Reading.KindLaws.{submitted_again, submitted_are_words}
use Rattle.fj_lines.proofs.Reading.EndingLaws.{ending_again, ending_are_words}
use Rattle.fj_lines.proofs.Reading.TaskLaws.{AreTasks, one_task_again, triple_again, forked_again, forked_are_words}

number_then_words : (n : ℕ) (ws : List (List ℕ)) → n < 2 ^ 32 → list_all is_word ws ≡ true → list_all is_word (decimal n ∷ ws) ≡ true
number_then_words n ws small all =
    let first = number_is_word n small in
    rw (first, all) refl

module _ {T N : Type 0} {tasks : TaskWords T N} {reader : TaskReader T N} {most : ℕ} (laws : AreTasks tasks reader most) where
  -- ---- words of a line

  task_then_words : (t : T) (ws : List (List ℕ)) → tasks.IsTask t → list_all is_word ws ≡ true → list_all is_word (tasks.word t ∷ ws) ≡ true
  task_then_words t ws is all =
      let first = laws.one_word t is in
      rw (first, all) refl

  triple_are_words : (w : ℕ) (t : T) (n : ℕ) → w < 2 ^ 32 → tasks.IsTask t → n < 2 ^ 32 → list_all is_word (decimal w ∷ tasks.word t ∷ decimal n ∷ []) ≡ true
  triple_are_words w t n w_small is n_small = number_then_words w (tasks.word t ∷ decimal n ∷ []) w_small (task_then_words t (decimal n ∷ []) is (one_is_words n n_small))

  -- ---- lines

  said_again : (verb : List ℕ) (ws : List (List ℕ)) (s : Line T N) → list_all is_word (verb ∷ ws) ≡ true → line_said reader verb ws ≡ Some s → line_in reader (joined (verb ∷ ws)) ≡ Some s
  unfolding line_in
  said_again verb ws s are_words said =
      let all = words_again verb ws are_words in
      rw all said

  -- the line of what is asked for is read as that
  pub line_again : (s : Line T N) → HasWords tasks s → line_in reader (joined (line_words tasks s)) ≡ Some s
  unfolding line_said worker_said task_said word_said submit_in fork_in trigger_in poll_in help_in join_in end_in hook_in add_in root_in fault_in cancel_in state_in release_in
  line_again (line.Submit label s k) fits =
      let behind = decimal s ∷ submitted_words k in
      said_again (codes "submit") (tasks.front label ++ behind) (line.Submit label s k) (laws.label_words label behind fits.0 (number_then_words s (submitted_words k) fits.1 (submitted_are_words k fits.2)))
      (rw (laws.label_again label behind fits.0, number_again s fits.1, submitted_again k fits.2) refl)
  line_again (line.Fork label w k) fits =
      let behind = decimal w ∷ forked_words tasks.word k in
      said_again (codes "fork") (tasks.front label ++ behind) (line.Fork label w k) (laws.label_words label behind fits.0 (number_then_words w (forked_words tasks.word k) fits.1 (forked_are_words laws k fits.2)))
      (rw (laws.label_again label behind fits.0, number_again w fits.1, forked_again laws k fits.2) refl)
  line_again (line.Trigger label w n) fits =
      let behind = decimal w ∷ decimal n ∷ [] in
      said_again (codes "trigger") (tasks.front label ++ behind) (line.Trigger label w n) (laws.label_words label behind fits.0 (two_are_words w n fits.1 fits.2))
      (rw (laws.label_again label behind fits.0, two_again w n fits.1 fits.2) refl)
  line_again (line.Poll w r) fits = said_again (codes "poll") (decimal w ∷ decimal r ∷ []) (line.Poll w r) (two_are_words w r fits.0 fits.1) (rw (two_again w r fits.0 fits.1) refl)
  line_again (line.Help w r) fits = said_again (codes "help") (decimal w ∷ decimal r ∷ []) (line.Help w r) (two_are_words w r fits.0 fits.1) (rw (two_again w r fits.0 fits.1) refl)
  line_again (line.Join w t r) fits = said_again (codes "join") (decimal w ∷ tasks.word t ∷ decimal r ∷ []) (line.Join w t r) (triple_are_words w t r fits.0 fits.1 fits.2) (rw (triple_again laws w t r fits.0 fits.1 fits.2) refl)
  line_again (line.End w how) fits = said_again (codes "end") (decimal w ∷ ending_words how) (line.End w how) (number_then_words w (ending_words how) fits.0 (ending_are_words how fits.1)) (rw (number_again w fits.0, ending_again how fits.1) refl)
  line_again (line.HookDone w) fits = said_again (codes "hook") (decimal w ∷ []) (line.HookDone w) (one_is_words w fits) (rw (one_again w fits) refl)
  line_again (line.Add w t n) fits = said_again (codes "add") (decimal w ∷ tasks.word t ∷ decimal n ∷ []) (line.Add w t n) (triple_are_words w t n fits.0 fits.1 fits.2) (rw (triple_again laws w t n fits.0 fits.1 fits.2) refl)
  line_again (line.QuietRoot w t) fits = said_again (codes "root") (decimal w ∷ tasks.word t ∷ []) (line.QuietRoot w t) (number_then_words w (tasks.word t ∷ []) fits.0 (task_then_words t [] fits.1 refl)) (rw (number_again w fits.0, one_task_again laws t fits.1) refl)
  line_again (line.Fault t code) fits = said_again (codes "fault") (tasks.word t ∷ decimal code ∷ []) (line.Fault t code) (task_then_words t (decimal code ∷ []) fits.0 (one_is_words code fits.1)) (rw (laws.again t fits.0, one_again code fits.1) refl)
  line_again (line.Cancel t) fits = said_again (codes "cancel") (tasks.word t ∷ []) (line.Cancel t) (task_then_words t [] fits refl) (rw (one_task_again laws t fits) refl)
  line_again line.Shutdown fits = said_again (codes "shutdown") [] line.Shutdown refl refl
  line_again line.Stop fits = said_again (codes "stop") [] line.Stop refl refl
  line_again line.IsQuiescent fits = said_again (codes "quiet") [] line.IsQuiescent refl refl
  line_again (line.State t) fits = said_again (codes "state") (tasks.word t ∷ []) (line.State t) (task_then_words t [] fits refl) (rw (one_task_again laws t fits) refl)
  line_again (line.Release t) fits = said_again (codes "release") (tasks.word t ∷ []) (line.Release t) (task_then_words t [] fits refl) (rw (one_task_again laws t fits) refl)
  line_again line.Seal fits = said_again (codes "seal") [] line.Seal refl refl
  line_again line.Epoch fits = said_again (codes "epoch") [] line.Epoch refl refl
