use Rattle.std.proofs.Common.{arith, ap, sym, subst, ◌∙◌, ◌+◌, ◌++◌, ◌∷◌, [], ℕ, List, length-append, refl}
use Rattle.std.specs.Prelude.{option_map}
use Rattle.fj_tree.specs.declared.pass.PassHow.TheVariants.{Root}
use Rattle.fj_tree.specs.Passes.{PassEnd, after_climb}
use Rattle.fj_tree.specs.Records.{Records, IsSound, record_at}
use Rattle.fj_tree.proofs.Ascents.Climbing.{counted_all}
use Rattle.fj_tree.proofs.Index.Finds.{good_completer, number_of}
use Rattle.fj_tree.proofs.Ascents.Passing.{passing_begins, passing_goes_on, passing_good, passing_was_good, passing_stops, passing_ends, spends, counts_not, after_uncounted, after_counted}
use Rattle.fj_tree.proofs.tree.Tree.pass_up.Goals as goal
use Rattle.fj_tree.proofs.tree.Tree.pass_up.Goals.{in-Counted, in_default-how}

pub loop-how-init : goal.loop-how-init
loop-how-init c =
    let good = good_completer c.args.self.now c.args.h c.requires in
    record { begins = good; good = good; old_good = good; passing = passing_begins c.args.self.now c.args.h }

pub overflow_add-passed : goal.overflow_add-passed
overflow_add-passed c =
    let t = c.args.self.now in
    let few = number_of t c.args.h (subst (λ (t : Records). IsSound t) c.self.view_is c.self.invariant.sound) (good_completer t c.args.h c.requires) in
    omega (arith, few, c.loop-how.invariant.passing.climbs.falls, c.loop-how.invariant.passing.counted, ap (λ (t : Records). t.made) c.self.view_is)

pub returns-in-Some-clause-passed : goal.returns-in-Some-clause-passed
returns-in-Some-clause-passed c =
    let so_far = c.loop-how.invariant.passing in
    let ended = passing_stops c.args.self.now c.loop-how.self c.args.h c.loop-how.at c.loop-how.passed c.in-Some.how so_far c.loop-how.invariant.old_good (sym c.stop.ensures.ends ∙ c.in-Some.is) in
    sym so_far.counted ∙ counted_all c.args.self.now c.args.h so_far.done ended.0

pub returns-in-Some-clause-ends : goal.returns-in-Some-clause-ends
returns-in-Some-clause-ends c =
    (passing_stops c.args.self.now c.loop-how.self c.args.h c.loop-how.at c.loop-how.passed c.in-Some.how c.loop-how.invariant.passing c.loop-how.invariant.old_good (sym c.stop.ensures.ends ∙ c.in-Some.is)).1

pub returns-in-Some-clause-records : goal.returns-in-Some-clause-records
returns-in-Some-clause-records c = λ key.
    let t = c.args.self.now in
    let so_far = c.loop-how.invariant.passing in
    let good = c.loop-how.invariant.old_good in
    let end : PassEnd = record { passed = c.loop-how.passed; at = c.loop-how.at; how = c.in-Some.how } in
    let ended = passing_stops t c.loop-how.self c.args.h c.loop-how.at c.loop-how.passed c.in-Some.how so_far good (sym c.stop.ensures.ends ∙ c.in-Some.is) in
    let sound : IsSound t = subst (λ (t : Records). IsSound t) c.self.view_is c.self.invariant.sound in
    let all = ap (λ (ns : List ℕ). option_map (after_climb ns end) (record_at t key)) ended.0 in
    elim c.match-how.branch [
      | in-Counted w ↦
          let counted = after_counted t c.loop-how.self c.args.h c.loop-how.at c.loop-how.passed c.loop-how.passed sound so_far good key in
          ap (λ (u : Records). record_at u key) (w.self-is ∙ w.count_down.ensures) ∙ (rw (← w.in-Counted.is) at counted) ∙ all
      | in_default-how w ↦
          ap (λ (u : Records). record_at u key) w.self-is ∙ so_far.written.records key ∙ after_uncounted (record_at t key) so_far.done end (counts_not c.in-Some.how w.in_default-how.not-Counted) ∙ all
    ]

pub returns-in_default-above-clause-passed : goal.returns-in_default-above-clause-passed
returns-in_default-above-clause-passed c =
    let so_far = c.loop-how.invariant.passing in
    let at = c.loop-how.at in
    let sound : IsSound c.args.self.now = subst (λ (t : Records). IsSound t) c.self.view_is c.self.invariant.sound in
    let ended = passing_ends c.args.self.now c.loop-how.self c.args.h at c.loop-how.passed sound so_far c.loop-how.invariant.old_good c.in_default.ensures.passes (sym c.above-above.ensures.parent ∙ c.in_default-above.is) in
    omega (arith, so_far.counted, length-append so_far.done (at.serial ∷ []), counted_all c.args.self.now c.args.h (so_far.done ++ at.serial ∷ []) ended.0)

pub returns-in_default-above-clause-ends : goal.returns-in_default-above-clause-ends
returns-in_default-above-clause-ends c =
    let sound : IsSound c.args.self.now = subst (λ (t : Records). IsSound t) c.self.view_is c.self.invariant.sound in
    (passing_ends c.args.self.now c.loop-how.self c.args.h c.loop-how.at c.loop-how.passed sound c.loop-how.invariant.passing c.loop-how.invariant.old_good c.in_default.ensures.passes (sym c.above-above.ensures.parent ∙ c.in_default-above.is)).1

pub returns-in_default-above-clause-records : goal.returns-in_default-above-clause-records
returns-in_default-above-clause-records c = λ key.
    let t = c.args.self.now in
    let so_far = c.loop-how.invariant.passing in
    let at = c.loop-how.at in
    let end : PassEnd = record { passed = c.loop-how.passed + 1; at = at; how = Root } in
    let sound : IsSound t = subst (λ (t : Records). IsSound t) c.self.view_is c.self.invariant.sound in
    let ended = passing_ends t c.loop-how.self c.args.h at c.loop-how.passed sound so_far c.loop-how.invariant.old_good c.in_default.ensures.passes (sym c.above-above.ensures.parent ∙ c.in_default-above.is) in
    ap (λ (u : Records). record_at u key) c.spend.ensures ∙ (spends t c.loop-how.self c.args.h at c.loop-how.passed sound so_far c.loop-how.invariant.old_good).records key
    ∙ after_uncounted (record_at t key) (so_far.done ++ at.serial ∷ []) end refl
    ∙ ap (λ (ns : List ℕ). option_map (after_climb ns end) (record_at t key)) ended.0

pub loop-how-preserved : goal.loop-how-preserved
loop-how-preserved c =
    let t = c.args.self.now in
    let so_far = c.loop-how.invariant.passing in
    let at = c.loop-how.at in
    let up = c.in-Some-above.up in
    let sound : IsSound t = subst (λ (t : Records). IsSound t) c.self.view_is c.self.invariant.sound in
    let on = passing_goes_on t c.loop-how.self c.args.h at up c.loop-how.passed sound so_far c.loop-how.invariant.old_good c.in_default.ensures.passes (sym c.above-above.ensures.parent ∙ c.in-Some-above.is) c.in-Some-above.ensures.smaller in
    let good = passing_was_good t c.loop-how.self c.args.h at up c.loop-how.passed so_far c.in-Some-above.ensures.good in
    rw c.spend.ensures (record {
      begins = passing_good t _ c.args.h up c.args.h (c.loop-how.passed + 1) on (good_completer t c.args.h c.requires);
      good = passing_good t _ c.args.h up up (c.loop-how.passed + 1) on good;
      old_good = good;
      passing = on;
    })
