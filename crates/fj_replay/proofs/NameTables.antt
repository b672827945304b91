-- Names: their places in a table, and replies that have none.
use Rattle.std.specs.Prelude.{position, unwrap_or, not, Result, OnOk}
use Rattle.std.specs.List.{position_or_len}
use Rattle.std.proofs.Common.{◌≡◌, ℕ, Bool, List, length, Option, None, [], ◌∷◌, ◌++◌, refl, ap, sym, ◌∙◌, arith, inl, inr}
use Rattle.std.proofs.lemmas.Bool.{cases_lt, lt-ltb, le-ltb}
use Rattle.fj_lines.specs.declared.read.TheConstants.{LINE_FEED}
use Rattle.fj_rules.specs.declared.said.Said.{Said}
use Rattle.fj_rules.specs.declared.said.Said.TheVariants as said
use Rattle.fj_rules.specs.Bounds.{Bounds}
use Rattle.fj_lines.specs.Lines.{reply_line}
use Rattle.fj_lines.specs.Words.{joined}
use Rattle.fj_lines.specs.Replies.{reply_words}
use Rattle.fj_replay.specs.declared.task_naming.TaskNaming.{TaskNaming}
use Rattle.fj_replay.specs.declared.task_naming.TaskNaming.TheVariants.{Numbers}
use Rattle.fj_replay.specs.Namings.{name_of, task_told, words_by, said_words, said_line}
use Rattle.std.proofs.lemmas.Result.{on_ok_weaker}
use Rattle.std.proofs.lemmas.List.Sums.{prefix_len-le-length}

-- the place where it is found, or else the length
pub place_or_len : {A : Type 0} (test : A → Bool) (xs : List A) (found : Option ℕ) (place : ℕ) → found ≡ position test xs → place ≡ unwrap_or found (length xs) → place ≡ position_or_len test xs
place_or_len test xs found place is given =
    elim (cases_lt (position_or_len test xs) (length xs)) [
      | inl lt ↦ given ∙ rw (is, lt-ltb _ _ lt) refl
      | inr le ↦
          let few = prefix_len-le-length (λ x. not (test x)) xs in
          let all : length xs ≡ position_or_len test xs = omega arith in
          given ∙ rw (is, le-ltb _ _ le) all
    ]

-- ---- the lines of replies

numbered_words : (limits : Bounds) (reply : Said) → said_words Numbers limits reply ≡ reply_words limits reply
numbered_words limits (said.Task t) = refl
numbered_words limits said.None = refl
numbered_words limits (said.Run t) = refl
numbered_words limits (said.Skip t) = refl
numbered_words limits said.Done = refl
numbered_words limits (said.Counted t) = refl
numbered_words limits (said.Hook t) = refl
numbered_words limits (said.Spent t) = refl
numbered_words limits (said.Early t) = refl
numbered_words limits (said.Root t) = refl
numbered_words limits (said.Count n) = refl
numbered_words limits said.Yes = refl
numbered_words limits said.No = refl
numbered_words limits said.Normal = refl
numbered_words limits (said.Exceptional code) = refl
numbered_words limits said.Cancelled = refl
numbered_words limits (said.Refused refusal) = refl
numbered_words limits (said.State place status) = refl

-- by numbers a reply has the line of version 1
pub numbered_line : (limits : Bounds) (reply : Said) → reply_line limits reply ≡ said_line Numbers limits reply
unfolding reply_line
numbered_line limits reply = ap (λ (ws : List (List ℕ)). joined ws ++ LINE_FEED ∷ []) (sym (numbered_words limits reply))

-- so has one that tells of no task, by whatever it would go
untold_line : (naming : TaskNaming) (limits : Bounds) (reply : Said) → task_told reply ≡ None → reply_line limits reply ≡ said_line naming limits reply
unfolding reply_line
untold_line naming limits reply none = ap (λ (o : Option (List ℕ × ℕ)). joined (words_by (name_of naming) o (reply_words limits reply)) ++ LINE_FEED ∷ []) (sym none)

pub numbered_said : {T E : Type 0} (r : Result T E) (limits : Bounds) (reply : Said) (old new : List ℕ) → OnOk r (new ≡ old ++ reply_line limits reply) → OnOk r (new ≡ old ++ said_line Numbers limits reply)
numbered_said r limits reply old new told = on_ok_weaker r (λ e. e ∙ ap (λ (l : List ℕ). old ++ l) (numbered_line limits reply)) told

pub untold_said : {T E : Type 0} (r : Result T E) (naming : TaskNaming) (limits : Bounds) (reply : Said) (old new : List ℕ) → task_told reply ≡ None → OnOk r (new ≡ old ++ reply_line limits reply) → OnOk r (new ≡ old ++ said_line naming limits reply)
untold_said r naming limits reply old new none told = on_ok_weaker r (λ e. e ∙ ap (λ (l : List ℕ). old ++ l) (untold_line naming limits reply none)) told
