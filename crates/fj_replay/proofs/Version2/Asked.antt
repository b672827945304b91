-- A step of version 1, and its line of version 2: they ask for the same.
use Rattle.std.proofs.Common.{ℕ, ◌≡◌, ◌^◌, ◌<◌, ◌≤◌, Bool, true, false, List, Some, None, refl, ap, ◌∙◌, arith, ⊎_elim}
use Rattle.std.proofs.lemmas.Bool.{cases_lt, lt-ltb, le-ltb}
use Rattle.fj_rules.specs.declared.kind.Kind.{Kind}
use Rattle.fj_rules.specs.declared.kind.Kind.TheVariants as kind
use Rattle.fj_rules.specs.declared.step.Step.{Step}
use Rattle.fj_rules.specs.declared.step.Step.TheVariants as step
use Rattle.fj_lines.specs.Names.{IsName}
use Rattle.fj_lines.specs.Tasks.{IsSmall}
use Rattle.fj_lines.specs.Lines.{HasSmallForked, forked_of, HasLine, HasLine2}
use Rattle.fj_rules.specs.Tasks.{accepted}
use Rattle.fj_rules.specs.Answers.{answer}
use Rattle.fj_rules.specs.Pasts.{Past}
use Rattle.fj_rules.specs.Epochs.{IsPast}
use Rattle.fj_replay.specs.declared.asked.Asked.{Asked}
use Rattle.fj_replay.specs.declared.asked.Asked.TheVariants as ask
use Rattle.fj_replay.specs.Namings.{number_of}
use Rattle.fj_replay.specs.Plays.{asked_by}
use Rattle.fj_replay.specs.TaskNames.{task_name, named_kind, named_step}
use Rattle.fj_replay.proofs.Version2.Accepted.{unknown_number}
use Rattle.fj_replay.proofs.Version2.Names.{task_names, shown, number_shown, task_is_name}
use Rattle.fj_replay.proofs.Version2.Told.{is_accept}
use Rattle.fj_replay.proofs.Version2.Unknown.{same_join, same_add, same_root, same_fault, same_cancel, same_state, same_release, same_fork}

-- ---- it has a line

kind_fits : (k : Kind) → HasSmallForked IsSmall (forked_of k) → HasSmallForked IsName (named_kind k)
kind_fits kind.Plain fits = tt
kind_fits (kind.Completer relay count None) fits = (tt, fits.1)
kind_fits (kind.Completer relay count (Some t)) fits = (task_is_name t fits.0, fits.1)

pub named_fits : (next : ℕ) (asked : Step) → next < 2 ^ 32 → HasLine asked → HasLine2 (named_step next asked)
named_fits next (step.Submit s k) small fits = (task_is_name next small, fits.1, fits.2)
named_fits next (step.Fork w k) small fits = (task_is_name next small, fits.1, kind_fits k fits.2)
named_fits next (step.Trigger w n) small fits = (task_is_name next small, fits.1, fits.2)
named_fits next (step.Poll w r) small fits = fits
named_fits next (step.Help w r) small fits = fits
named_fits next (step.Join w t r) small fits = (fits.0, task_is_name t fits.1, fits.2)
named_fits next (step.End w how) small fits = fits
named_fits next (step.HookDone w) small fits = fits
named_fits next (step.Add w t n) small fits = (fits.0, task_is_name t fits.1, fits.2)
named_fits next (step.QuietRoot w t) small fits = (fits.0, task_is_name t fits.1)
named_fits next (step.Fault t code) small fits = (task_is_name t fits.0, fits.1)
named_fits next (step.Cancel t) small fits = task_is_name t fits
named_fits next step.Shutdown small fits = tt
named_fits next step.Stop small fits = tt
named_fits next step.IsQuiescent small fits = tt
named_fits next (step.State t) small fits = task_is_name t fits
named_fits next (step.Release t) small fits = task_is_name t fits

-- ---- it asks for a step that has the same answer

-- what is asked for: such a step, under the next name if it may accept a task
abbrev pub asks : Bool → List ℕ → Step → Asked
asks true name asked = ask.Accept name asked
asks false name asked = ask.Step asked

-- the line asks for a step with the answer of this one
pub record AsksSame (past : Past) (asked : Step) : Type 0 where
  pub other : Step
  pub is : asked_by (task_names (accepted past.events)) (named_step (accepted past.events) asked) ≡ asks (is_accept asked) (task_name (accepted past.events)) other
  pub same : answer past other ≡ answer past asked

shown_low : (n t : ℕ) → t < n → shown n t ≡ t
shown_low n t low = rw (lt-ltb t n low) refl

shown_high : (n t : ℕ) → n ≤ t → shown n t ≡ n
shown_high n t high = rw (le-ltb t n high) refl

-- a number is read as itself, or as another that no task has
by_number : (past : Past) (t : ℕ) (f : ℕ → Step) → IsPast past → ((u v : ℕ) → accepted past.events ≤ u → accepted past.events ≤ v → answer past (f u) ≡ answer past (f v))
    → answer past (f (shown (accepted past.events) t)) ≡ answer past (f t)
by_number past t f run unknown =
    ⊎_elim
    (λ low. ap (λ (u : ℕ). answer past (f u)) (shown_low (accepted past.events) t low))
    (λ high. ap (λ (u : ℕ). answer past (f u)) (shown_high (accepted past.events) t high) ∙ unknown (accepted past.events) t (omega arith) high)
    (cases_lt t (accepted past.events))

read : (past : Past) (t : ℕ) → accepted past.events < 2 ^ 32 → t < 2 ^ 32 → number_of (task_names (accepted past.events)) (task_name t) ≡ shown (accepted past.events) t
read past t small t_small = number_shown (accepted past.events) t (omega (arith, small)) (omega (arith, t_small))

-- a step that is read as itself
itself : (past : Past) (asked : Step) → asked_by (task_names (accepted past.events)) (named_step (accepted past.events) asked) ≡ asks (is_accept asked) (task_name (accepted past.events)) asked → AsksSame past asked
itself past asked is = record { other = asked; is = is; same = refl }

fork_same : (past : Past) (w : ℕ) (k : Kind) → IsPast past → accepted past.events < 2 ^ 32 → HasSmallForked IsSmall (forked_of k) → AsksSame past (step.Fork w k)
fork_same past w kind.Plain run small fits = itself past (step.Fork w kind.Plain) refl
fork_same past w (kind.Completer relay count None) run small fits = itself past (step.Fork w (kind.Completer relay count None)) refl
fork_same past w (kind.Completer relay count (Some t)) run small fits = record {
  other = step.Fork w (kind.Completer relay count (Some (shown (accepted past.events) t)));
  is = rw (read past t small fits.0) refl;
  same = by_number past t (λ u. step.Fork w (kind.Completer relay count (Some u))) run (λ u v u_high v_high. same_fork past w u v relay count (unknown_number past u run u_high) (unknown_number past v run v_high));
}

pub asks_same : (past : Past) (asked : Step) → IsPast past → accepted past.events < 2 ^ 32 → HasLine asked → AsksSame past asked
asks_same past (step.Submit s k) run small fits = itself past (step.Submit s k) refl
asks_same past (step.Fork w k) run small fits = fork_same past w k run small fits.2
asks_same past (step.Trigger w n) run small fits = itself past (step.Trigger w n) refl
asks_same past (step.Poll w r) run small fits = itself past (step.Poll w r) refl
asks_same past (step.Help w r) run small fits = itself past (step.Help w r) refl
asks_same past (step.Join w t r) run small fits = record {
  other = step.Join w (shown (accepted past.events) t) r;
  is = rw (read past t small fits.1) refl;
  same = by_number past t (λ u. step.Join w u r) run (λ u v u_high v_high. same_join past w u v r (unknown_number past u run u_high) (unknown_number past v run v_high));
}
asks_same past (step.End w how) run small fits = itself past (step.End w how) refl
asks_same past (step.HookDone w) run small fits = itself past (step.HookDone w) refl
asks_same past (step.Add w t n) run small fits = record {
  other = step.Add w (shown (accepted past.events) t) n;
  is = rw (read past t small fits.1) refl;
  same = by_number past t (λ u. step.Add w u n) run (λ u v u_high v_high. same_add past w u v n (unknown_number past u run u_high) (unknown_number past v run v_high));
}
asks_same past (step.QuietRoot w t) run small fits = record {
  other = step.QuietRoot w (shown (accepted past.events) t);
  is = rw (read past t small fits.1) refl;
  same = by_number past t (λ u. step.QuietRoot w u) run (λ u v u_high v_high. same_root past w u v (unknown_number past u run u_high) (unknown_number past v run v_high));
}
asks_same past (step.Fault t code) run small fits = record {
  other = step.Fault (shown (accepted past.events) t) code;
  is = rw (read past t small fits.0) refl;
  same = by_number past t (λ u. step.Fault u code) run (λ u v u_high v_high. same_fault past u v code (unknown_number past u run u_high) (unknown_number past v run v_high));
}
asks_same past (step.Cancel t) run small fits = record {
  other = step.Cancel (shown (accepted past.events) t);
  is = rw (read past t small fits) refl;
  same = by_number past t (λ u. step.Cancel u) run (λ u v u_high v_high. same_cancel past u v (unknown_number past u run u_high) (unknown_number past v run v_high));
}
asks_same past step.Shutdown run small fits = itself past step.Shutdown refl
asks_same past step.Stop run small fits = itself past step.Stop refl
asks_same past step.IsQuiescent run small fits = itself past step.IsQuiescent refl
asks_same past (step.State t) run small fits = record {
  other = step.State (shown (accepted past.events) t);
  is = rw (read past t small fits) refl;
  same = by_number past t (λ u. step.State u) run (λ u v u_high v_high. same_state past u v (unknown_number past u run u_high) (unknown_number past v run v_high));
}
asks_same past (step.Release t) run small fits = record {
  other = step.Release (shown (accepted past.events) t);
  is = rw (read past t small fits) refl;
  same = by_number past t (λ u. step.Release u) run (λ u v u_high v_high. same_release past u v (unknown_number past u run u_high) (unknown_number past v run v_high));
}
