-- What the end of a command says of its exit status.
use Rattle.std.proofs.Common.{ℕ, ◌≡◌, ◌≢◌, ◌⊎◌, ◌∙◌, refl, sym, subst, inl, inr, ⊎_elim, arith, List, Option, Some, Ok}
use Rattle.std.specs.Prelude.{IfSome}
use Rattle.clap.specs.Words.{Text}
use Rattle.fj_trees.specs.declared.tree_fault.TreeFault.{TreeFault}
use Rattle.fj_trees.specs.declared.tree_fault.TreeFault.TheVariants.{Line, Memory, Read}
use Rattle.fj_arguments.specs.declared.options.RangeOptions.{RangeOptions}
use Rattle.fj_arguments.specs.declared.command_line.Subcommand.{Subcommand}
use Rattle.fj_arguments.specs.declared.command_line.Subcommand.TheVariants.{Replay, Upgrade, Compute, Record, Check, Trace, Test, Explain, View}
use Rattle.fj_arguments.specs.declared.command_line.Job.{Job}
use Rattle.fj_arguments.specs.declared.command_line.Job.TheVariants.{Sum, Min, Find, Tree}
use Rattle.fj_arguments.specs.Commands.{IsForScript, ReadsScript, replay_words, upgrade_words}
use Rattle.fj_cli.specs.Answers.{EndsRange, EndsTree, HasTooManyBlocks, status_of_fault}
use Rattle.fj_commands.specs.Statuses.{EndsHistory, EndsReplay, EndsUpgrade, IsOfFailure}
use Rattle.fj_cli.specs.Statuses.{EndsCommand, EndsCompute, EndsKnown, EndsRun}
use Rattle.fj_cli.specs.Failures.{IsTooMuch}

-- an exit status of a command that does not end by 2
abbrev IsOfCommand : ℕ → Type 0
IsOfCommand status = (status ≡ 0) ⊎ ((status ≡ 3) ⊎ ((status ≡ 4) ⊎ (status ≡ 5)))

abbrev pub IsOfProgram : ℕ → Type 0
IsOfProgram status = (status ≡ 0) ⊎ ((status ≡ 1) ⊎ ((status ≡ 2) ⊎ ((status ≡ 3) ⊎ ((status ≡ 4) ⊎ (status ≡ 5)))))

with_two : (status : ℕ) → IsOfCommand status → IsOfProgram status
with_two status known = ⊎_elim (λ zero. inl zero) (λ others. inr (inr (inr others))) known

not_two : (status : ℕ) → IsOfCommand status → status ≢ 2
not_two status known two = ⊎_elim (λ a. omega (arith, a, two)) (⊎_elim (λ b. omega (arith, b, two)) (⊎_elim (λ c. omega (arith, c, two)) (λ d. omega (arith, d, two)))) known

of_fault : (fault : TreeFault) → IsOfCommand (status_of_fault fault)
of_fault (Line n) = inr (inl refl)
of_fault Memory = inr (inr (inl refl))
of_fault Read = inr (inr (inr refl))

module _ (status : ℕ) (before ahead start now : Option (List ℕ)) where
  of_range : (o : RangeOptions) (line : List ℕ) → EndsRange o status line start now → IsOfProgram status
  of_range o line ends = ⊎_elim (λ many. inr (inr (inl many.1))) (λ few. with_two status few.1.known) ends

  of_tree : EndsTree status before ahead start now → IsOfCommand status
  of_tree ends = ⊎_elim (λ read. read.2.known) (λ unread. subst IsOfCommand (sym unread.1) (of_fault unread.0)) ends

  of_job : (job : Job) → EndsCompute job status before ahead start now → IsOfProgram status
  of_job (Sum o) ends = of_range o _ ends.1
  of_job (Min o f) ends = of_range o _ ends.1
  of_job (Find o f want) ends = of_range o _ ends.1
  of_job (Tree workers) ends = with_two status (of_tree ends)

  of_history : {Done : ℕ → Type 0} → EndsHistory Done status before ahead start now → IsOfProgram status
  of_history ends = ⊎_elim (λ zero. inl zero) (λ others. inr (⊎_elim (λ one. inl one) (λ rest. inr (inr rest)) others)) ends.known

  pub status_of_command : (asked : Subcommand) → EndsCommand asked status before ahead start now → IsOfProgram status
  status_of_command Replay ends = with_two status ends.known
  status_of_command Upgrade ends = with_two status ends.known
  status_of_command (Compute job) ends = of_job job ends
  status_of_command (Record job notes) ends = ⊎_elim (λ run. ⊎_elim (λ zero. inl zero.0) (λ failed. inr (inr (inr failed))) run) (λ two. inr (inr (inl two.0))) ends
  status_of_command Check ends = of_history ends
  status_of_command Explain ends = with_two status ends
  status_of_command Trace ends = with_two status ends.known
  status_of_command Test ends = ⊎_elim (λ zero. inl zero.0) (λ others. inr (⊎_elim (λ one. inl one) (λ failed. inr (inr failed)) others)) ends
  status_of_command (View o) ends = ⊎_elim (λ unread. inr (inr (⊎_elim (λ two. inl two.0) (λ failed. inr failed.0) unread.0))) (λ read. of_history read) ends.0

  -- ---- a command that ends by 2

  not_failed : IsOfFailure status → status ≡ 2 → ⊥
  not_failed failed two = ⊎_elim (λ a. omega (arith, a, two)) (⊎_elim (λ b. omega (arith, b, two)) (λ c. omega (arith, c, two))) failed

  too_much_range : (o : RangeOptions) (line : List ℕ) → EndsRange o status line start now → status ≡ 2 → HasTooManyBlocks (Sum o)
  too_much_range o line ends two = ⊎_elim (λ many. many.0) (λ few. absurd (not_two status few.1.known two)) ends

  too_much_job : (job : Job) → EndsCompute job status before ahead start now → status ≡ 2 → HasTooManyBlocks job
  too_much_job (Sum o) ends two = too_much_range o _ ends.1 two
  too_much_job (Min o f) ends two = too_much_range o _ ends.1 two
  too_much_job (Find o f want) ends two = too_much_range o _ ends.1 two
  too_much_job (Tree workers) ends two = absurd (not_two status (of_tree ends) two)

  history_not_two : {Done : ℕ → Type 0} → EndsHistory Done status before ahead start now → status ≡ 2 → ⊥
  history_not_two ends two = ⊎_elim (λ a. omega (arith, a, two)) (⊎_elim (λ b. omega (arith, b, two)) (λ failed. not_failed failed two)) ends.known

  run_not_two : EndsRun status start now → status ≡ 2 → ⊥
  run_not_two ends two = ⊎_elim (λ zero. let is = zero.0 in omega (arith, is, two)) (λ failed. not_failed failed two) ends

  -- it was asked for too much
  pub too_much : (asked : Subcommand) → EndsCommand asked status before ahead start now → status ≡ 2 → IsTooMuch asked
  too_much Replay ends two = absurd (not_two status ends.known two)
  too_much Upgrade ends two = absurd (not_two status ends.known two)
  too_much (Compute job) ends two = too_much_job job ends two
  too_much (Record job notes) ends two = ⊎_elim (λ run. absurd (run_not_two run two)) (λ many. many.1) ends
  too_much Check ends two = absurd (history_not_two ends two)
  too_much Trace ends two = absurd (not_two status ends.known two)
  too_much Test ends two = absurd (⊎_elim (λ zero. let is = zero.0 in omega (arith, is, two)) (⊎_elim (λ one. omega (arith, one, two)) (λ failed. not_failed failed two)) ends)
  too_much Explain ends two = absurd (not_two status ends two)
  too_much (View o) ends two = ⊎_elim (λ unread. ⊎_elim (λ none. none.1) (λ failed. absurd (not_failed failed.0 two)) unread.0) (λ read. absurd (history_not_two read two)) ends.0

  -- the words of a script are read as its command, which does not end by 2
  pub script_ended : (words : List Text) (asked : Subcommand) (read : Option Subcommand) → read ≡ Some asked → ReadsScript words (Ok read)
      → EndsCommand asked status before ahead start now → (IsForScript words → status ≢ 2) × EndsKnown words status before ahead start now
  script_ended words asked read is reads ends =
      let as_read : (a : Subcommand) → read ≡ Some a → EndsCommand a status before ahead start now =
      λ a same. subst (λ (o : Option Subcommand). IfSome o (λ b. EndsCommand b status before ahead start now)) (sym is ∙ same) ends in
      let replay : words ≡ replay_words → EndsReplay status before ahead start now = λ names. as_read Replay (reads.0 names) in
      let upgrade : words ≡ upgrade_words → EndsUpgrade status before ahead start now = λ names. as_read Upgrade (reads.1 names) in (
        ⊎_elim (λ names. not_two status (replay names).known) (λ names. not_two status (upgrade names).known),
        record { replayed = λ names. (replay names).done; upgraded = λ names. (upgrade names).done },
      )
