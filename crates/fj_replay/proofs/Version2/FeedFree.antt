-- Lines without a line feed, and what is cut of them.
use Rattle.std.proofs.Common.{ℕ, ◌≡◌, ◌^◌, ◌<◌, Bool, true, false, not, List, [], ◌∷◌, ◌++◌, Option, Some, None, refl, ap, sym, ◌∙◌, append_assoc, inl, inr}
use Rattle.std.specs.Prelude.{◌==◌, option_map, IfSome}
use Rattle.std.specs.List.{list_all}
use Rattle.std.proofs.lemmas.Bool.{and_parts}
use Rattle.std.proofs.lemmas.List.{append-nil}
use Rattle.std.proofs.lemmas.List.Folds.{list_all-append}
use Rattle.fj_rules.specs.declared.kind.Kind.{Kind}
use Rattle.fj_rules.specs.declared.kind.Kind.TheVariants as kind
use Rattle.fj_rules.specs.declared.kind.SubmittedKind.{SubmittedKind}
use Rattle.fj_rules.specs.declared.kind.SubmittedKind.TheVariants as submitted
use Rattle.fj_rules.specs.declared.step.Ending.{Ending}
use Rattle.fj_rules.specs.declared.step.Ending.TheVariants as ending
use Rattle.fj_rules.specs.declared.step.Step.{Step}
use Rattle.fj_rules.specs.declared.step.Step.TheVariants as step
use Rattle.fj_lines.specs.Tasks.{IsSmall, names}
use Rattle.fj_lines.specs.Lines.{submitted_words, ending_words, HasLine, HasSmallSubmitted, HasSmallForked, HasSmallEnding, forked_of, word_or_dash, named_kind_words, line2_words, line2_text}
use Rattle.fj_lines.proofs.Reading.FeedLaws.{is_free, joined_free, number_free, relay_free}
use Rattle.fj_streams.specs.Cuts.{cut}
use Rattle.fj_replay.specs.TaskNames.{task_name, named_kind, named_step}
use Rattle.fj_streams.proofs.Lines.{yes_or_no}

no_feed : (b : ℕ) → not (b == 10) ≡ true → (b == 10) ≡ false
no_feed b is = go (b == 10) is
  where
    go : (t : Bool) → not t ≡ true → t ≡ false
    go true is = absurd cc
    go false is = refl

-- ---- what is cut

-- such a line is the first of what it begins
pub cut_one : (before l later : List ℕ) → is_free l ≡ true → cut before (l ++ 10 ∷ later) ≡ (before ++ l) ∷ cut [] later
cut_one before [] later free = ap (λ (line : List ℕ). line ∷ cut [] later) (sym (append-nil before))
cut_one before (b ∷ l) later free =
    let both = and_parts (not (b == 10)) (is_free l) free in
    rw (no_feed b both.0) (cut_one (before ++ b ∷ []) l later both.1 ∙ ap (λ (line : List ℕ). line ∷ cut [] later) (append_assoc before (b ∷ []) l))

-- what is cut is such a line
pub first_free : (before b line : List ℕ) (others : List (List ℕ)) → is_free before ≡ true → cut before b ≡ line ∷ others → is_free line ≡ true
first_free before [] line others free is = absurd cc
first_free before (x ∷ b) line others free is =
    elim (yes_or_no (x == 10)) [
      | inl feed ↦
          let here : before ∷ cut [] b ≡ line ∷ others = rw feed at is in
          let same : before ≡ line = cc in
          ap is_free (sym same) ∙ free
      | inr other ↦
          let more : is_free (before ++ x ∷ []) ≡ true = list_all-append (λ b. not (b == 10)) before (x ∷ []) ∙ rw (free, other) refl in
          first_free (before ++ x ∷ []) b line others more (rw other at is)
    ]

-- ---- words

task_free : (t : ℕ) → t < 2 ^ 32 → is_free (task_name t) ≡ true
task_free t small = number_free t small

submitted_free : (k : SubmittedKind) → HasSmallSubmitted k → list_all is_free (submitted_words k) ≡ true
submitted_free submitted.Plain fits = refl
submitted_free (submitted.Completer relay count) fits = rw (number_free count fits, relay_free relay) refl

parent_free : (parent : Option ℕ) → IfSome parent IsSmall → is_free (word_or_dash names.word (option_map task_name parent)) ≡ true
parent_free None fits = refl
parent_free (Some t) fits = task_free t fits

kind_free : (k : Kind) → HasSmallForked IsSmall (forked_of k) → list_all is_free (named_kind_words (named_kind k)) ≡ true
kind_free kind.Plain fits = refl
kind_free (kind.Completer relay count parent) fits = rw (parent_free parent fits.0, number_free count fits.1, relay_free relay) refl

ending_free : (how : Ending) → HasSmallEnding how → list_all is_free (ending_words how) ≡ true
ending_free ending.Ok fits = refl
ending_free ending.Quiet fits = refl
ending_free ending.Try fits = refl
ending_free ending.Pass fits = refl
ending_free ending.Complete fits = refl
ending_free (ending.Fail code) fits = rw (number_free code fits) refl

words_free : (next : ℕ) (asked : Step) → next < 2 ^ 32 → HasLine asked → list_all is_free (line2_words (named_step next asked)) ≡ true
words_free next (step.Submit s k) small fits = rw (number_free next small, number_free s fits.1, submitted_free k fits.2) refl
words_free next (step.Fork w k) small fits = rw (number_free next small, number_free w fits.1, kind_free k fits.2) refl
words_free next (step.Trigger w n) small fits = rw (number_free next small, number_free w fits.1, number_free n fits.2) refl
words_free next (step.Poll w r) small fits = rw (number_free w fits.0, number_free r fits.1) refl
words_free next (step.Help w r) small fits = rw (number_free w fits.0, number_free r fits.1) refl
words_free next (step.Join w t r) small fits = rw (number_free w fits.0, number_free t fits.1, number_free r fits.2) refl
words_free next (step.End w how) small fits = rw (number_free w fits.0, ending_free how fits.1) refl
words_free next (step.HookDone w) small fits = rw (number_free w fits) refl
words_free next (step.Add w t n) small fits = rw (number_free w fits.0, number_free t fits.1, number_free n fits.2) refl
words_free next (step.QuietRoot w t) small fits = rw (number_free w fits.0, number_free t fits.1) refl
words_free next (step.Fault t code) small fits = rw (number_free t fits.0, number_free code fits.1) refl
words_free next (step.Cancel t) small fits = rw (number_free t fits) refl
words_free next step.Shutdown small fits = refl
words_free next step.Stop small fits = refl
words_free next step.IsQuiescent small fits = refl
words_free next (step.State t) small fits = rw (number_free t fits) refl
words_free next (step.Release t) small fits = rw (number_free t fits) refl

pub line_free : (next : ℕ) (asked : Step) → next < 2 ^ 32 → HasLine asked → is_free (line2_text (named_step next asked)) ≡ true
line_free next asked small fits = joined_free (line2_words (named_step next asked)) (words_free next asked small fits)
