use Rattle.std.proofs.Common.{ℕ, suc, zero, ◌≡◌, ◌≢◌, ◌<◌, true, false, length, get_or, set, replicate, refl, sym, ap, ◌∙◌, arith, below_more, get_or-set_other, get_or-set_same, length-set}
use Rattle.std.proofs.lemmas.List.{get_or_default}
use Rattle.std.proofs.lemmas.List.Edits.{map_over_more}
use Rattle.fj_sleep.specs.declared.places.TheConstants.{MAX_PLACES}
use Rattle.fj_sleep.specs.declared.sleeper.Sleeper.TheVariants.{Awake}
use Rattle.fj_sleep.specs.Places.{is_due, taken}
use Rattle.fj_sleep.proofs.Mapping.{mapped_on, still_there}
use Rattle.fj_sleep.proofs.Nobody.{taken_due, taken_other}
use Rattle.fj_sleep.proofs.sleepers.waking.take_each_due.Goals as goal
use Rattle.fj_sleep.proofs.sleepers.waking.take_each_due.Goals.{then-is_due, else-is_due}

none_chosen : (n p : ℕ) → get_or (replicate n false) p false ≡ false
none_chosen zero p = refl
none_chosen (suc n) zero = refl
none_chosen (suc n) (suc p) = none_chosen n p

pub loop-place-init : goal.loop-place-init
loop-place-init g c = record {
  woken = refl;
  chosen = λ p low. absurd (omega (arith, low));
  room = refl;
  rest = λ p high. none_chosen MAX_PLACES p;
}

pub loop-place-preserved : goal.loop-place-preserved
loop-place-preserved g c =
    let i = c.loop-place.place in
    let old = c.args.places.now in
    let before = c.loop-place.places in
    let chosen = c.loop-place.chosen in
    let x = c.index-places-place.result in
    let read = c.index-places-place.is in
    let within : i < length old = omega arith in
    let there : i < length before = omega arith in
    let tested : is_due x ≡ c.is_due.result = ap is_due read ∙ sym c.is_due.ensures in
    let here : is_due (get_or old i Awake) ≡ c.is_due.result =
    ap is_due (sym (still_there taken old before i Awake within c.loop-place.invariant.woken) ∙ get_or_default before i Awake x there ∙ sym read) ∙ tested in
    elim c.if-is_due.branch [
      | then-is_due w ↦
          let room : i < length chosen = omega (arith, c.loop-place.invariant.room, c.requires, within) in
          record {
            woken = w.places-is ∙ ap (set before i) (sym (taken_due x (tested ∙ w.if-is_due.true))) ∙ map_over_more taken old before i x within c.loop-place.invariant.woken read;
            chosen =
                rw w.chosen-is
                (below_more _ _
                (λ p low. let other : p ≢ i = omega (arith, low) in rw get_or-set_other (c.loop-place.invariant.chosen p low))
                (get_or-set_same chosen i true false room ∙ sym (here ∙ w.if-is_due.true)));
            room = rw w.chosen-is (length-set chosen i true ∙ c.loop-place.invariant.room);
            rest = λ p high. let other : p ≢ i = omega (arith, high) in rw w.chosen-is (rw get_or-set_other (c.loop-place.invariant.rest p (omega (arith, high))));
          }
      | else-is_due w ↦
          record {
            woken = w.places-is ∙ mapped_on taken old before i x within c.loop-place.invariant.woken read (taken_other x (tested ∙ w.if-is_due.false));
            chosen = rw w.chosen-is (below_more _ _ c.loop-place.invariant.chosen (c.loop-place.invariant.rest i (omega arith) ∙ sym (here ∙ w.if-is_due.false)));
            room = rw w.chosen-is c.loop-place.invariant.room;
            rest = λ p high. rw w.chosen-is (c.loop-place.invariant.rest p (omega (arith, high)));
          }
    ]
