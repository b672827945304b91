use Rattle.std.proofs.Common.{◌≡◌, ◌<◌, ◌+◌, ◌++◌, false, length, map, take, drop, set, arith, sym, ap, ◌∙◌}
use Rattle.std.specs.List.{AllWithin}
use Rattle.std.proofs.lemmas.List.Edits.{map_over_more}
use Rattle.std.proofs.lemmas.List.Elements.{AllWithin-kept}
use Rattle.fj_sleep.specs.declared.sleeper.Sleeper.{Sleeper}
use Rattle.fj_sleep.specs.declared.sleeper.Sleeper.TheVariants.{Due}
use Rattle.fj_sleep.specs.Places.{is_due, is_resting, is_waiting, roused_if}
use Rattle.fj_sleep.specs.Waking.{includes}
use Rattle.fj_sleep.proofs.Mapping.{mapped_on}
use Rattle.fj_sleep.proofs.Nobody.{kept, noted_on, roused}
use Rattle.fj_sleep.proofs.sleepers.waking.rouse_each.Goals as goal
use Rattle.fj_sleep.proofs.sleepers.waking.rouse_each.Goals.{then-includes, else-includes}

pub loop-place-preserved : goal.loop-place-preserved
loop-place-preserved g c =
    let i = c.loop-place.place in
    let old = c.args.places.now in
    let before = c.loop-place.places in
    let after = c.if-includes.places in
    let x = c.index-places-place.result in
    let y = c.index-places-place-in-loop-place.result in
    let test = includes c.args.whom in
    let read = c.index-places-place.is in
    let tested : test x ≡ c.includes.result = ap test read ∙ sym c.includes.ensures in
    let within : i < length old = omega arith in
    let there : i < length before = omega arith in
    let there_still : i < length after = omega arith in
    let mapped : after ≡ map (roused_if test) (take (i + 1) old) ++ drop (i + 1) old =
    elim c.if-includes.branch [
      | then-includes w ↦
          w.places-is
          ∙ ap (set before i) (sym (roused test x (tested ∙ w.if-includes.true)))
          ∙ map_over_more (roused_if test) old before i x within c.loop-place.invariant.places read
      | else-includes w ↦ w.places-is ∙ mapped_on (roused_if test) old before i x within c.loop-place.invariant.places read (kept test x (tested ∙ w.if-includes.false))
    ] in
    let below : (P : Sleeper g.row.T.Denot → Type 0) → AllWithin P before 0 i → AllWithin P after 0 i = λ P all.
    elim c.if-includes.branch [
      | then-includes w ↦ rw w.places-is (AllWithin-kept before i Due there P all)
      | else-includes w ↦ rw w.places-is all
    ] in
    let read_after = c.index-places-place-in-loop-place.is in
    record {
      places = mapped;
      waiting =
          noted_on is_waiting after i y c.loop-place.kinds.waiting c.waits.result there_still
          (λ none. below (λ s. is_waiting s ≡ false) (c.loop-place.invariant.waiting none)) read_after c.waits.ensures;
      resting =
          noted_on is_resting after i y c.loop-place.kinds.resting c.rests.result there_still
          (λ none. below (λ s. is_resting s ≡ false) (c.loop-place.invariant.resting none)) read_after c.rests.ensures;
      due =
          noted_on is_due after i y c.loop-place.kinds.due c.is_due.result there_still
          (λ none. below (λ s. is_due s ≡ false) (c.loop-place.invariant.due none)) read_after c.is_due.ensures;
    }

pub returns-clause-waiting : goal.returns-clause-waiting
returns-clause-waiting g c = λ none k d within. c.loop-place.invariant.waiting none k d (omega arith) (omega (arith, within, c.loop-place.auto.places))

pub returns-clause-resting : goal.returns-clause-resting
returns-clause-resting g c = λ none k d within. c.loop-place.invariant.resting none k d (omega arith) (omega (arith, within, c.loop-place.auto.places))

pub returns-clause-due : goal.returns-clause-due
returns-clause-due g c = λ none k d within. c.loop-place.invariant.due none k d (omega arith) (omega (arith, within, c.loop-place.auto.places))
