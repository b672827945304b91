use Rattle.std.proofs.Common.{arith, ap, sym, subst, ◌∙◌, ◌+◌, ◌++◌, ◌∷◌, [], length-append, refl}
use Rattle.fj_tree.specs.Records.{Records, IsSound}
use Rattle.fj_tree.proofs.Ascents.Climbing.{climb_begins, climb_goes_on, ends_at_stop, ends_past_root, counted_all}
use Rattle.fj_tree.proofs.Index.Finds.{good_completer, number_of}
use Rattle.fj_tree.proofs.tree.Tree.pass_look.Goals as goal

pub loop-how-init : goal.loop-how-init
loop-how-init c = record {
  good = good_completer c.args.self.now c.args.h c.requires;
  climbs = record { done = []; climbs = climb_begins c.args.self.now c.args.h; counted = refl };
}

pub stop-requires : goal.stop-requires
stop-requires c = record { begins = good_completer c.args.self.now c.args.h c.requires; good = c.loop-how.invariant.good }

pub returns-in-Some-clause-passed : goal.returns-in-Some-clause-passed
returns-in-Some-clause-passed c =
    let so_far = c.loop-how.invariant.climbs in
    let ended = ends_at_stop c.args.self.now c.args.h c.loop-how.at so_far.done c.loop-how.passed c.in-Some.how so_far.climbs (sym c.stop.ensures.ends ∙ c.in-Some.is) in
    sym so_far.counted ∙ counted_all c.args.self.now c.args.h so_far.done ended.0

pub returns-in-Some-clause-ends : goal.returns-in-Some-clause-ends
returns-in-Some-clause-ends c =
    let so_far = c.loop-how.invariant.climbs in
    (ends_at_stop c.args.self.now c.args.h c.loop-how.at so_far.done c.loop-how.passed c.in-Some.how so_far.climbs (sym c.stop.ensures.ends ∙ c.in-Some.is)).1

pub overflow_add-passed : goal.overflow_add-passed
overflow_add-passed c =
    let t = c.args.self.now in
    let few = number_of t c.args.h (subst (λ (t : Records). IsSound t) c.self.view_is c.self.invariant.sound) (good_completer t c.args.h c.requires) in
    omega (arith, few, c.loop-how.invariant.climbs.climbs.falls, c.loop-how.invariant.climbs.counted, ap (λ (t : Records). t.made) c.self.view_is)

pub returns-in_default-above-clause-passed : goal.returns-in_default-above-clause-passed
returns-in_default-above-clause-passed c =
    let so_far = c.loop-how.invariant.climbs in
    let at = c.loop-how.at in
    let ended = ends_past_root c.args.self.now c.args.h at so_far.done (c.loop-how.passed + 1) so_far.climbs c.in_default.ensures.passes (sym c.above.ensures.parent ∙ c.in_default-above.is) in
    omega (arith, so_far.counted, length-append so_far.done (at.serial ∷ []), counted_all c.args.self.now c.args.h (so_far.done ++ at.serial ∷ []) ended.0)

pub returns-in_default-above-clause-ends : goal.returns-in_default-above-clause-ends
returns-in_default-above-clause-ends c =
    let so_far = c.loop-how.invariant.climbs in
    (ends_past_root c.args.self.now c.args.h c.loop-how.at so_far.done (c.loop-how.passed + 1) so_far.climbs c.in_default.ensures.passes (sym c.above.ensures.parent ∙ c.in_default-above.is)).1

pub loop-how-preserved : goal.loop-how-preserved
loop-how-preserved c =
    let so_far = c.loop-how.invariant.climbs in
    let at = c.loop-how.at in
    record {
      good = c.in-Some-above.ensures.good;
      climbs = record {
        done = so_far.done ++ at.serial ∷ [];
        climbs = climb_goes_on c.args.self.now c.args.h at c.in-Some-above.up so_far.done so_far.climbs c.in_default.ensures.passes (sym c.above.ensures.parent ∙ c.in-Some-above.is) c.in-Some-above.ensures.smaller;
        counted = omega (arith, so_far.counted, length-append so_far.done (at.serial ∷ []));
      };
    }
