-- What is read of a line is written so.
use Rattle.std.proofs.Common.{◌≡◌, ℕ, ◌^◌, ◌<◌, cond, List, [], ◌∷◌, ◌++◌, Option, Some, refl, sym, ap, subst, ◌∙◌}
use Rattle.std.specs.Prelude.{codes}
use Rattle.std.specs.Fmt.{decimal}
use Rattle.std.specs.Str.{bytes_eq}
use Rattle.fj_lines.specs.declared.line.Line.{Line}
use Rattle.fj_lines.specs.declared.line.Line.TheVariants as line
use Rattle.fj_lines.specs.Words.{joined, words, ◌>>=◌, number_first, if_last, one_number, two_numbers}
use Rattle.fj_lines.specs.Tasks.{TaskWords}
use Rattle.fj_lines.specs.Lines.{submitted_words, forked_words, line_words, HasWords}
use Rattle.fj_lines.specs.Readings.{word_said, task_said, worker_said, line_said, line_in}
use Rattle.fj_lines.specs.Readings.Tasks.{TaskReader, one_task, worker_task_number}
use Rattle.fj_lines.specs.Readings.Accept.{submitted_said, forked_said, submit_in, fork_in, trigger_in}
use Rattle.fj_lines.specs.Readings.Take.{poll_in, help_in, join_in}
use Rattle.fj_lines.specs.Readings.End.{ending_said, end_in, hook_in}
use Rattle.fj_lines.specs.Readings.Completer.{add_in, root_in}
use Rattle.fj_lines.specs.Readings.Settle.{fault_in, cancel_in}
use Rattle.fj_lines.specs.Readings.Query.{state_in}
use Rattle.fj_lines.specs.Readings.Release.{release_in}
use Rattle.fj_lines.proofs.Reading.WordLaws.{joined_words}
use Rattle.fj_lines.proofs.Reading.PartLaws.{some_is, number_then, word_then, last_then, some_then, chosen, is_text}
use Rattle.fj_lines.proofs.Reading.FormLaws.{one_then, two_then}
use Rattle.fj_lines.proofs.Reading.KindLaws.{submitted_found}
use Rattle.fj_lines.proofs.Reading.EndingLaws.{ending_found}
use Rattle.fj_lines.proofs.Reading.TaskLaws.{AreTasks, task_then, label_then, one_task_then, triple_then, forked_found}

module _ {T N : Type 0} {tasks : TaskWords T N} {reader : TaskReader T N} {most : ℕ} (laws : AreTasks tasks reader most) where
  -- the words are those of what has a line
  abbrev AreWordsOf : Line T N → List (List ℕ) → Type 0
  AreWordsOf asked ws = HasWords tasks asked × (ws ≡ line_words tasks asked)

  -- what is said, where these are its words behind the first
  said_words : (verb : List ℕ) (ws vs : List (List ℕ)) (t s : Line T N) → ws ≡ vs → ◌≡◌ {A = Option (Line T N)} (Some t) (Some s) → AreWordsOf t (verb ∷ vs) → AreWordsOf s (verb ∷ ws)
  said_words verb ws vs t s same is p =
      subst (λ (u : Line T N). AreWordsOf u (verb ∷ ws)) (some_is t s is) (p.0, ap (λ (rest : List (List ℕ)). verb ∷ rest) same ∙ p.1)

  none_found : (verb : List ℕ) (ws : List (List ℕ)) (t s : Line T N) → if_last ws t ≡ Some s → AreWordsOf t (verb ∷ []) → AreWordsOf s (verb ∷ ws)
  none_found verb ws t s e p = last_then ws t s e (λ none is. said_words verb ws [] t s none (ap (λ (u : Line T N). Some u) is) p)

  two_found : (verb : List ℕ) (ws : List (List ℕ)) (f : ℕ × ℕ → Line T N) (s : Line T N) → (two_numbers ws >>= λ p. Some (f p)) ≡ Some s
      → ((a b : ℕ) → a < 2 ^ 32 → b < 2 ^ 32 → AreWordsOf (f (a, b)) (verb ∷ decimal a ∷ decimal b ∷ [])) → AreWordsOf s (verb ∷ ws)
  two_found verb ws f s e each =
      two_then ws (λ p. Some (f p)) s e (λ a b a_small b_small all is.
      said_words verb ws (decimal a ∷ decimal b ∷ []) (f (a, b)) s all is (each a b a_small b_small))

  task_found : (verb : List ℕ) (ws : List (List ℕ)) (f : T → Line T N) (s : Line T N) → (one_task reader.task_in ws >>= λ t. Some (f t)) ≡ Some s
      → ((t : T) → tasks.IsTask t → AreWordsOf (f t) (verb ∷ tasks.word t ∷ [])) → AreWordsOf s (verb ∷ ws)
  task_found verb ws f s e each =
      one_task_then laws ws (λ t. Some (f t)) s e (λ t is_task all is.
      said_words verb ws (tasks.word t ∷ []) (f t) s all is (each t is_task))

  triple_found : (verb : List ℕ) (ws : List (List ℕ)) (f : ℕ × T × ℕ → Line T N) (s : Line T N) → (worker_task_number reader.task_in ws >>= λ p. Some (f p)) ≡ Some s
      → ((w : ℕ) (t : T) (n : ℕ) → w < 2 ^ 32 → tasks.IsTask t → n < 2 ^ 32 → AreWordsOf (f (w, t, n)) (verb ∷ decimal w ∷ tasks.word t ∷ decimal n ∷ [])) → AreWordsOf s (verb ∷ ws)
  triple_found verb ws f s e each =
      triple_then laws ws (λ p. Some (f p)) s e (λ w t n w_small is_task n_small all is.
      said_words verb ws (decimal w ∷ tasks.word t ∷ decimal n ∷ []) (f (w, t, n)) s all is (each w t n w_small is_task n_small))

  -- what is said of a first word: of this text, or of another
  verb_found : (verb text : List ℕ) (ws : List (List ℕ)) (o others : Option (Line T N)) (s : Line T N) → cond (bytes_eq verb text) o others ≡ Some s
      → (o ≡ Some s → AreWordsOf s (text ∷ ws)) → (others ≡ Some s → AreWordsOf s (verb ∷ ws)) → AreWordsOf s (verb ∷ ws)
  verb_found verb text ws o others s e this other =
      chosen (bytes_eq verb text) o others (Some s) e
      (λ is said. let found = this said in (found.0, ap (λ (v : List ℕ). v ∷ ws) (is_text verb text is) ∙ found.1)) other

  -- ---- accept

  submit_found : (ws : List (List ℕ)) (s : Line T N) → submit_in reader ws ≡ Some s → AreWordsOf s (codes "submit" ∷ ws)
  unfolding submit_in
  submit_found ws s e =
      label_then laws ws (λ label. number_first label.1 >>= λ n. submitted_said n.1 >>= λ k. Some (line.Submit label.0 n.0 k)) s e (λ label rest is_label first said.
      number_then rest (λ n. submitted_said n.1 >>= λ k. Some (line.Submit label n.0 k)) s said (λ n more small second said1.
      some_then (submitted_said more) (λ k. Some (line.Submit label n k)) s said1 (λ k read is.
      let found = submitted_found more k read in
      let third = found.1 in
      let all : ws ≡ tasks.front label ++ decimal n ∷ submitted_words k = cc in
      said_words (codes "submit") ws (tasks.front label ++ decimal n ∷ submitted_words k) (line.Submit label n k) s all is ((is_label, small, found.0), refl))))

  fork_found : (ws : List (List ℕ)) (s : Line T N) → fork_in reader ws ≡ Some s → AreWordsOf s (codes "fork" ∷ ws)
  unfolding fork_in
  fork_found ws s e =
      label_then laws ws (λ label. number_first label.1 >>= λ w. forked_said reader.task_in w.1 >>= λ k. Some (line.Fork label.0 w.0 k)) s e (λ label rest is_label first said.
      number_then rest (λ w. forked_said reader.task_in w.1 >>= λ k. Some (line.Fork label w.0 k)) s said (λ w more small second said1.
      some_then (forked_said reader.task_in more) (λ k. Some (line.Fork label w k)) s said1 (λ k read is.
      let found = forked_found laws more k read in
      let third = found.1 in
      let all : ws ≡ tasks.front label ++ decimal w ∷ forked_words tasks.word k = cc in
      said_words (codes "fork") ws (tasks.front label ++ decimal w ∷ forked_words tasks.word k) (line.Fork label w k) s all is ((is_label, small, found.0), refl))))

  trigger_found : (ws : List (List ℕ)) (s : Line T N) → trigger_in reader ws ≡ Some s → AreWordsOf s (codes "trigger" ∷ ws)
  unfolding trigger_in
  trigger_found ws s e =
      label_then laws ws (λ label. two_numbers label.1 >>= λ p. Some (line.Trigger label.0 p.0 p.1)) s e (λ label rest is_label first said.
      two_then rest (λ p. Some (line.Trigger label p.0 p.1)) s said (λ w count w_small count_small second is.
      let all : ws ≡ tasks.front label ++ decimal w ∷ decimal count ∷ [] = cc in
      said_words (codes "trigger") ws (tasks.front label ++ decimal w ∷ decimal count ∷ []) (line.Trigger label w count) s all is ((is_label, w_small, count_small), refl)))

  -- ---- take

  poll_found : (ws : List (List ℕ)) (s : Line T N) → poll_in ws ≡ Some s → AreWordsOf s (codes "poll" ∷ ws)
  unfolding poll_in
  poll_found ws s e = two_found (codes "poll") ws (λ p. line.Poll p.0 p.1) s e (λ w r w_small r_small. ((w_small, r_small), refl))

  help_found : (ws : List (List ℕ)) (s : Line T N) → help_in ws ≡ Some s → AreWordsOf s (codes "help" ∷ ws)
  unfolding help_in
  help_found ws s e = two_found (codes "help") ws (λ p. line.Help p.0 p.1) s e (λ w r w_small r_small. ((w_small, r_small), refl))

  join_found : (ws : List (List ℕ)) (s : Line T N) → join_in reader ws ≡ Some s → AreWordsOf s (codes "join" ∷ ws)
  unfolding join_in
  join_found ws s e = triple_found (codes "join") ws (λ p. line.Join p.0 p.1 p.2) s e (λ w t r w_small is_task r_small. ((w_small, is_task, r_small), refl))

  -- ---- end

  end_found : (ws : List (List ℕ)) (s : Line T N) → end_in ws ≡ Some s → AreWordsOf s (codes "end" ∷ ws)
  unfolding end_in
  end_found ws s e =
      number_then ws (λ w. ending_said w.1 >>= λ how. Some (line.End w.0 how)) s e (λ w rest small first said.
      some_then (ending_said rest) (λ how. Some (line.End w how)) s said (λ how read is.
      let found = ending_found rest how read in
      said_words (codes "end") ws (decimal w ∷ rest) (line.End w how) s first is
      ((small, found.0), ap (λ (vs : List (List ℕ)). codes "end" ∷ decimal w ∷ vs) found.1)))

  hook_found : (ws : List (List ℕ)) (s : Line T N) → hook_in ws ≡ Some s → AreWordsOf s (codes "hook" ∷ ws)
  unfolding hook_in
  hook_found ws s e =
      one_then ws (λ w. Some (line.HookDone w)) s e (λ w small all is.
      said_words (codes "hook") ws (decimal w ∷ []) (line.HookDone w) s all is (small, refl))

  -- ---- completer

  add_found : (ws : List (List ℕ)) (s : Line T N) → add_in reader ws ≡ Some s → AreWordsOf s (codes "add" ∷ ws)
  unfolding add_in
  add_found ws s e = triple_found (codes "add") ws (λ p. line.Add p.0 p.1 p.2) s e (λ w t n w_small is_task n_small. ((w_small, is_task, n_small), refl))

  root_found : (ws : List (List ℕ)) (s : Line T N) → root_in reader ws ≡ Some s → AreWordsOf s (codes "root" ∷ ws)
  unfolding root_in
  root_found ws s e =
      number_then ws (λ w. one_task reader.task_in w.1 >>= λ t. Some (line.QuietRoot w.0 t)) s e (λ w rest small first said.
      one_task_then laws rest (λ t. Some (line.QuietRoot w t)) s said (λ t is_task second is.
      let all : ws ≡ decimal w ∷ tasks.word t ∷ [] = cc in
      said_words (codes "root") ws (decimal w ∷ tasks.word t ∷ []) (line.QuietRoot w t) s all is ((small, is_task), refl)))

  -- ---- settle

  fault_found : (ws : List (List ℕ)) (s : Line T N) → fault_in reader ws ≡ Some s → AreWordsOf s (codes "fault" ∷ ws)
  unfolding fault_in
  fault_found ws s e =
      task_then laws ws (λ t. one_number t.1 >>= λ code. Some (line.Fault t.0 code)) s e (λ t rest is_task first said.
      one_then rest (λ code. Some (line.Fault t code)) s said (λ code small second is.
      let all : ws ≡ tasks.word t ∷ decimal code ∷ [] = cc in
      said_words (codes "fault") ws (tasks.word t ∷ decimal code ∷ []) (line.Fault t code) s all is ((is_task, small), refl)))

  cancel_found : (ws : List (List ℕ)) (s : Line T N) → cancel_in reader ws ≡ Some s → AreWordsOf s (codes "cancel" ∷ ws)
  unfolding cancel_in
  cancel_found ws s e = task_found (codes "cancel") ws (λ t. line.Cancel t) s e (λ t is_task. (is_task, refl))

  -- ---- query and release

  state_found : (ws : List (List ℕ)) (s : Line T N) → state_in reader ws ≡ Some s → AreWordsOf s (codes "state" ∷ ws)
  unfolding state_in
  state_found ws s e = task_found (codes "state") ws (λ t. line.State t) s e (λ t is_task. (is_task, refl))

  release_found : (ws : List (List ℕ)) (s : Line T N) → release_in reader ws ≡ Some s → AreWordsOf s (codes "release" ∷ ws)
  unfolding release_in
  release_found ws s e = task_found (codes "release") ws (λ t. line.Release t) s e (λ t is_task. (is_task, refl))

  -- ---- lines

  word_said_found : (verb : List ℕ) (ws : List (List ℕ)) (s : Line T N) → word_said verb ws ≡ Some s → AreWordsOf s (verb ∷ ws)
  unfolding word_said
  word_said_found verb ws s e =
      verb_found verb (codes "shutdown") ws (if_last ws line.Shutdown) _ s e (λ said. none_found (codes "shutdown") ws line.Shutdown s said (tt, refl)) (λ e1.
      verb_found verb (codes "stop") ws (if_last ws line.Stop) _ s e1 (λ said. none_found (codes "stop") ws line.Stop s said (tt, refl)) (λ e2.
      verb_found verb (codes "quiet") ws (if_last ws line.IsQuiescent) _ s e2 (λ said. none_found (codes "quiet") ws line.IsQuiescent s said (tt, refl)) (λ e3.
      verb_found verb (codes "seal") ws (if_last ws line.Seal) _ s e3 (λ said. none_found (codes "seal") ws line.Seal s said (tt, refl)) (λ e4.
      verb_found verb (codes "epoch") ws (if_last ws line.Epoch) _ s e4 (λ said. none_found (codes "epoch") ws line.Epoch s said (tt, refl)) (λ e5.
      absurd cc)))))

  task_said_found : (verb : List ℕ) (ws : List (List ℕ)) (s : Line T N) → task_said reader verb ws ≡ Some s → AreWordsOf s (verb ∷ ws)
  unfolding task_said
  task_said_found verb ws s e =
      verb_found verb (codes "root") ws (root_in reader ws) _ s e (root_found ws s) (λ e1.
      verb_found verb (codes "fault") ws (fault_in reader ws) _ s e1 (fault_found ws s) (λ e2.
      verb_found verb (codes "cancel") ws (cancel_in reader ws) _ s e2 (cancel_found ws s) (λ e3.
      verb_found verb (codes "state") ws (state_in reader ws) _ s e3 (state_found ws s) (λ e4.
      word_said_found verb ws s e4))))

  worker_said_found : (verb : List ℕ) (ws : List (List ℕ)) (s : Line T N) → worker_said reader verb ws ≡ Some s → AreWordsOf s (verb ∷ ws)
  unfolding worker_said
  worker_said_found verb ws s e =
      verb_found verb (codes "fork") ws (fork_in reader ws) _ s e (fork_found ws s) (λ e1.
      verb_found verb (codes "trigger") ws (trigger_in reader ws) _ s e1 (trigger_found ws s) (λ e2.
      verb_found verb (codes "help") ws (help_in ws) _ s e2 (help_found ws s) (λ e3.
      verb_found verb (codes "join") ws (join_in reader ws) _ s e3 (join_found ws s) (λ e4.
      verb_found verb (codes "hook") ws (hook_in ws) _ s e4 (hook_found ws s) (λ e5.
      verb_found verb (codes "add") ws (add_in reader ws) _ s e5 (add_found ws s) (λ e6.
      task_said_found verb ws s e6))))))

  said_found : (verb : List ℕ) (ws : List (List ℕ)) (s : Line T N) → line_said reader verb ws ≡ Some s → AreWordsOf s (verb ∷ ws)
  unfolding line_said
  said_found verb ws s e =
      verb_found verb (codes "submit") ws (submit_in reader ws) _ s e (submit_found ws s) (λ e1.
      verb_found verb (codes "poll") ws (poll_in ws) _ s e1 (poll_found ws s) (λ e2.
      verb_found verb (codes "end") ws (end_in ws) _ s e2 (end_found ws s) (λ e3.
      verb_found verb (codes "release") ws (release_in reader ws) _ s e3 (release_found ws s) (λ e4.
      worker_said_found verb ws s e4))))

  -- a line that is read is the line of what it asks for
  pub line_found : (text : List ℕ) (s : Line T N) → line_in reader text ≡ Some s → HasWords tasks s × (text ≡ joined (line_words tasks s))
  unfolding line_in
  line_found text s e =
      word_then (words text) (λ verb. line_said reader verb.0 verb.1) s e (λ verb rest all said.
      let found = said_found verb rest s said in
      (found.0, sym (joined_words text) ∙ ap joined (all ∙ found.1)))
