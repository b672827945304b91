-- A join or a take finds no result.
use Rattle.std.proofs.Common.{ℕ, ◌≡◌, ◌⊎◌, inl, inr, Bool, true, false, List, [], Option, Some, None, refl, ap, sym, ◌∙◌, subst}
use Rattle.std.specs.Prelude.{if◌then◌else◌, is_some}
use Rattle.std.proofs.lemmas.Bool.{not-false, true≢false}
use Rattle.std.proofs.lemmas.List.{append-nil}
use Rattle.fj_rules.specs.declared.event.Event.{Event}
use Rattle.fj_rules.specs.declared.status.Status.{Status}
use Rattle.fj_rules.specs.declared.status.Status.TheVariants as status_is
use Rattle.fj_rules.specs.declared.step.Step.TheVariants.{Join}
use Rattle.fj_rules.specs.declared.said.Said.TheVariants as says
use Rattle.fj_rules.specs.Lists.{is_in}
use Rattle.fj_rules.specs.Tasks.{is_kept, is_completer}
use Rattle.fj_rules.specs.Statuses.{status, is_undone}
use Rattle.fj_rules.specs.Choices.{choice}
use Rattle.fj_rules.specs.Answers.{answer, reply_of, status_says, taking_says}
use Rattle.fj_rules.specs.Pasts.{Past, grown}
use Rattle.fj_rules.proofs.Steps.Answered.{Answered, Refuses, Makes, answered, choice_normal, join_takes}
use Rattle.fj_rules.proofs.Steps.Standing.{stands}
use Rattle.fj_slots.specs.Shelves.{Entries, entries}
use Rattle.fj_body.specs.Stores.{StoreState, HasResults, hooks_ended}
use Rattle.fj_slots.specs.Hands.{HandState, with_next_word}
use Rattle.fj_body.specs.declared.body.Heard.TheVariants as hears
use Rattle.fj_body.specs.declared.body.Told.TheVariants as told
use Rattle.fj_body.specs.Choosing.{Joins, Moves}
use Rattle.fj_body.specs.Results.{GivesNone, HasNone}

record IsJoined (h : List Event) (t : ℕ) : Type 0 where
  kept : is_kept h t ≡ true
  normal : status h t ≡ status_is.Normal

-- where the reply is that it is normal, it is kept and normal
join_normal : (past : Past) (w t r : ℕ) → (answer past (Join w t r)).0 ≡ says.Normal → IsJoined past.events t
unfolding reply_of
join_normal past w t r is = go (answered past (Join w t r))
  where
    h : List Event
    h = past.events

    none_taken : (o : Option ℕ) → taking_says h o ≡ says.Normal → ⊥
    none_taken None said = cc
    none_taken (Some u) said = pick (is_undone (status h u)) said
      where
        pick : (b : Bool) → (if b then says.Run u else says.Skip u) ≡ says.Normal → ⊥
        pick true said = cc
        pick false said = cc

    done : (s : Status) → status h t ≡ s → (if is_undone s then taking_says h (choice past.pool h w r) else status_says s) ≡ says.Normal → status h t ≡ status_is.Normal
    done status_is.Undone at said = absurd (none_taken (choice past.pool h w r) said)
    done status_is.Normal at said = at
    done (status_is.Exceptional code) at said = absurd cc
    done status_is.Cancelled at said = absurd cc

    go : Answered past (Join w t r) (answer past (Join w t r)).0 (answer past (Join w t r)).1 → IsJoined h t
    go (Refuses refusal said none) = absurd cc
    go (Makes none said made) = record { kept = not-false (is_kept h t) (stands past (Join w t r) none).tests.1.1.1.0; normal = done (status h t) refl (sym said ∙ is) }

-- why a normal task has no result
no_result : {R : Type 0} (past : Past) (results : Entries R) (ts : List ℕ) (t : ℕ) → HasResults past results ts → is_kept past.events t ≡ true → status past.events t ≡ status_is.Normal → results t ≡ None
    → (is_in t ts ≡ true) ⊎ GivesNone past.events t
no_result past results ts t has kept normal none = go (is_in t ts) refl
  where
    h : List Event
    h = past.events

    lost : is_some (results t) ≡ true → ⊥
    lost there = true≢false (sym there ∙ ap is_some none)

    completer : (b : Bool) → is_completer h t ≡ b → is_in t ts ≡ false → b ≡ true
    completer true at free = refl
    completer false at free = absurd (lost (has.plain t kept at normal free))

    unended : (b : Bool) → is_in t (hooks_ended h) ≡ b → is_in t ts ≡ false → b ≡ false
    unended false at free = refl
    unended true at free = absurd (lost (has.hooked t kept at free))

    go : (b : Bool) → is_in t ts ≡ b → (is_in t ts ≡ true) ⊎ GivesNone h t
    go true at = inl at
    go false at = inr (completer (is_completer h t) refl at, unended (is_in t (hooks_ended h)) refl at)

module _ {B K O : Type 0} where
  has_none : (old : StoreState B K O) (t : ℕ) → HasResults old.past (entries old.results) old.taken → is_kept old.past.events t ≡ true → entries old.results t ≡ None → status old.past.events t ≡ status_is.Normal
      → HasNone old t
  has_none old t has kept none normal = record { none = none; why = no_result old.past (entries old.results) old.taken t has kept normal none }

  -- what a store says that has no result of a joined task
  bare_join : (old mid : StoreState B K O) (w t r : ℕ) → Moves old (Join w t r) says.Normal mid → HasResults mid.past (entries mid.results) mid.taken → entries mid.results t ≡ None → HasNone old t
  bare_join old mid w t r moves has none =
      has_none old t
      (subst (λ (p : Past). HasResults p (entries old.results) old.taken) same (subst (λ (s : StoreState B K O). HasResults mid.past (entries s.results) s.taken) moves.1 has))
      joined.kept (ap (λ (s : StoreState B K O). entries s.results t) (sym moves.1) ∙ none) joined.normal
    where
      joined : IsJoined old.past.events t
      joined = join_normal old.past w t r (sym moves.0.0)

      no_events : (answer old.past (Join w t r)).1 ≡ []
      no_events = choice_normal w says.Normal (answer old.past (Join w t r)).0 (answer old.past (Join w t r)).1 (join_takes old.past w t r) moves.0.0 refl

      same : mid.past ≡ old.past
      same = moves.0.1 ∙ ap (grown old.past) no_events ∙ ap (λ (es : List Event). record old.past { events = es }) (append-nil old.past.events)

  pub joins_bare : (old mid new : StoreState B K O) (hand looked hand' : HandState B) (w t r : ℕ) → old.stuck ≡ false → w ≡ looked.worker → r ≡ hand.word → looked ≡ with_next_word hand
      → Moves old (Join w t r) says.Normal mid × (hand' ≡ looked) → HasResults mid.past (entries mid.results) mid.taken → (entries mid.results t ≡ None) × (new ≡ mid)
      → Joins old hand t (told.Hear hears.Bare) new hand'
  joins_bare old mid new hand looked hand' w t r free worker word next chosen has none =
      let at : hand.worker ≡ w = sym (worker ∙ ap (λ (h : HandState B). h.worker) next) in
      rw none.1 (free, rw (at, sym word) chosen.0, bare_join old mid w t r chosen.0 has none.0, chosen.1 ∙ next)
