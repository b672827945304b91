-- What a poll and a help tell of a choice, and what is told of a refusal.
use Rattle.std.proofs.Common.{ℕ, ◌≡◌, inl, inr, true, false, [], None, refl, ap, sym, ◌∙◌, subst}
use Rattle.fj_rules.specs.declared.step.Step.{Step}
use Rattle.fj_rules.specs.declared.step.Step.TheVariants.{Poll, Help}
use Rattle.fj_rules.specs.declared.said.Said.TheVariants as says
use Rattle.fj_rules.specs.declared.refusal.Refusal.{Refusal}
use Rattle.fj_rules.specs.declared.refusal.Refusal.TheVariants.{LogFull}
use Rattle.fj_rules.specs.Runs.{Steps}
use Rattle.fj_body.specs.declared.body.Heard.{Heard}
use Rattle.fj_body.specs.declared.body.Heard.TheVariants as hears
use Rattle.fj_body.specs.declared.body.Told.{Told}
use Rattle.fj_body.specs.declared.body.Told.TheVariants as told
use Rattle.fj_slots.specs.Hands.{HandState, with_next_word}
use Rattle.fj_body.specs.Fitting.{Fits}
use Rattle.fj_body.specs.Stores.{StoreState}
use Rattle.fj_body.specs.Choosing.{Chooses, Refuses, GetsStuck, TellsRefusal, Polls, Helps}
use Rattle.fj_rules.proofs.Steps.Answered.{IsChoice, poll_full, poll_only, help_only}
use Rattle.fj_body.proofs.Taking.{empty_stack, no_hook}

module _ {B K O : Type 0} where
  -- the choice by the next word of a hand
  pub by_next : (old : StoreState B K O) (hand hand1 : HandState B) (asked : ℕ → ℕ → Step) (w r : ℕ) (answer : Told B K O) (new : StoreState B K O) (hand' : HandState B) → hand1 ≡ with_next_word hand → w ≡ hand1.worker → r ≡ hand.word
      → Chooses old hand1 (asked w r) answer new hand' → Chooses old (with_next_word hand) (asked hand.worker hand.word) answer new hand'
  by_next old hand hand1 asked w r answer new hand' next same_w same_r is =
      subst (λ v. Chooses old (with_next_word hand) (asked hand.worker v) answer new hand') same_r
      (subst (λ v. Chooses old (with_next_word hand) (asked v r) answer new hand') (same_w ∙ ap (λ h. h.worker) next)
      (subst (λ h. Chooses old h (asked w r) answer new hand') next is))

  -- what holds of both answers to a refusal holds of its answer
  pub tells_refusal : (Holds : Told B K O → StoreState B K O → Type 0) (old new : StoreState B K O) (asked : Step) (r : Refusal) (heard : Told B K O) → old.stuck ≡ false → Refuses old asked (says.Refused r) old
      → TellsRefusal old r heard new
      → (GetsStuck old asked (record old { stuck = true }) → Holds (told.Stuck None) (record old { stuck = true }))
      → (Refuses old asked (says.Refused r) old → (r ≡ LogFull → ⊥) → Holds (told.Hear (hears.Refused r)) old)
      → Holds heard new
  tells_refusal Holds old new asked r heard free refused (inl is) full other =
      rw (is.1, is.2) (full (free, subst (λ (r : Refusal). Steps old.past asked (says.Refused r) old.past) is.0 refused.0, refl))
  tells_refusal Holds old new asked r heard free refused (inr is) full other = rw (is.1, is.2) (other refused is.0)

  -- ---- a poll

  -- a refused one finds the history full
  full_poll : (old : StoreState B K O) (hand : HandState B) (r : Refusal) → Fits old.past hand → hand.stack ≡ [] → hand.hook ≡ None → Steps old.past (Poll hand.worker hand.word) (says.Refused r) old.past → r ≡ LogFull
  full_poll old hand r fits empty free step = poll_full old.past hand.worker hand.word r fits.there (no_hook old.past hand fits free) (empty_stack old.past hand fits empty) (sym step.0)

  -- it hears only of a full history, and so the store gets stuck
  pub poll_sticks : (old : StoreState B K O) (hand : HandState B) (heard : Heard B K O) (answer : Told B K O) (mid new : StoreState B K O) (hand' : HandState B) → Fits old.past hand → hand.stack ≡ [] → hand.hook ≡ None → old.stuck ≡ false
      → Chooses old (with_next_word hand) (Poll hand.worker hand.word) (told.Hear heard) mid hand' → TellsRefusal mid LogFull answer new → Polls old hand answer new hand'
  poll_sticks old hand (hears.Refused r) answer mid new hand' fits empty bare free is tells =
      let full = full_poll old hand r fits empty bare is.0.0 in
      let refused : Refuses old (Poll hand.worker hand.word) (says.Refused LogFull) old = (subst (λ (r : Refusal). Steps old.past (Poll hand.worker hand.word) (says.Refused r) old.past) full is.0.0, refl) in
      tells_refusal (λ answer new. Polls old hand answer new hand') old new (Poll hand.worker hand.word) LogFull answer free refused (subst (λ (s : StoreState B K O). TellsRefusal s LogFull answer new) is.0.1 tells)
      (λ stuck. inr (stuck, is.1)) (λ _ other. absurd (other refl))
  poll_sticks old hand hears.Bare answer mid new hand' fits empty bare free is tells = absurd (subst IsChoice (sym is.0.0.0) (poll_only old.past hand.worker hand.word))
  poll_sticks old hand (hears.Failed code) answer mid new hand' fits empty bare free is tells = absurd (subst IsChoice (sym is.0.0.0) (poll_only old.past hand.worker hand.word))
  poll_sticks old hand hears.Cancelled answer mid new hand' fits empty bare free is tells = absurd (subst IsChoice (sym is.0.0.0) (poll_only old.past hand.worker hand.word))
  poll_sticks old hand _ answer mid new hand' fits empty bare free is tells = absurd is

  -- ---- a help

  pub helps_by : (old : StoreState B K O) (hand : HandState B) (answer : Told B K O) (new : StoreState B K O) (hand' : HandState B) → old.stuck ≡ false
      → Chooses old (with_next_word hand) (Help hand.worker hand.word) answer new hand' → Helps old hand answer new hand'
  helps_by old hand (told.Run t) new hand' free is = (free, is)
  helps_by old hand (told.Skip t body) new hand' free is = (free, is.0, is.1)
  helps_by old hand told.None new hand' free is = (free, is.0, is.1)
  helps_by old hand (told.Hear (hears.Refused r)) new hand' free is = (free, is.0, is.1)
  helps_by old hand (told.Hear hears.Bare) new hand' free is = subst IsChoice (sym is.0.0.0) (help_only old.past hand.worker hand.word)
  helps_by old hand (told.Hear (hears.Failed code)) new hand' free is = subst IsChoice (sym is.0.0.0) (help_only old.past hand.worker hand.word)
  helps_by old hand (told.Hear hears.Cancelled) new hand' free is = subst IsChoice (sym is.0.0.0) (help_only old.past hand.worker hand.word)
  helps_by old hand _ new hand' free is = absurd is
