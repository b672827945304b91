use Rattle.std.proofs.Common.{arith, ap, sym, subst, ◌∙◌, ◌++◌, ◌∷◌, [], length-append, refl}
use Rattle.fj_tree.specs.Records.{Records, IsSound}
use Rattle.fj_tree.proofs.Index.Finds.{number_of}
use Rattle.fj_tree.proofs.Ascents.Relaying.{relay_begins, relay_goes_on, relay_ends_before, relay_ends_at, relayed_all}
use Rattle.fj_tree.proofs.tree.Tree.relay_look.Goals as goal

pub loop-at-init : goal.loop-at-init
loop-at-init c = record { good = c.requires; relays = record { done = []; relays = relay_begins c.args.self.now c.args.h; counted = refl } }

pub overflow_add-relayed : goal.overflow_add-relayed
overflow_add-relayed c =
    let few = number_of c.args.self.now c.args.h (subst (λ (t : Records). IsSound t) c.self.view_is c.self.invariant.sound) c.requires in
    omega (arith, few, c.loop-at.invariant.relays.relays.falls, c.loop-at.invariant.relays.counted, ap (λ (t : Records). t.made) c.self.view_is)

pub returns-in_default : goal.returns-in_default
returns-in_default c =
    let so_far = c.loop-at.invariant.relays in
    let at = c.loop-at.at in
    let ended = relay_ends_at c.args.self.now c.args.h at so_far.done so_far.relays (sym c.is_undone.ensures ∙ c.loop-at-test.true) (sym c.next_relayed.ensures.next ∙ c.in_default.is) in
    omega (arith, so_far.counted, length-append so_far.done (at.serial ∷ []), relayed_all c.args.self.now c.args.h (so_far.done ++ at.serial ∷ []) ended)

pub loop-at-preserved : goal.loop-at-preserved
loop-at-preserved c =
    let so_far = c.loop-at.invariant.relays in
    let at = c.loop-at.at in
    record {
      good = c.in-Some.ensures.good;
      relays = record {
        done = so_far.done ++ at.serial ∷ [];
        relays = relay_goes_on c.args.self.now c.args.h at c.in-Some.up so_far.done so_far.relays (sym c.is_undone.ensures ∙ c.loop-at-test.true) (sym c.next_relayed.ensures.next ∙ c.in-Some.is) c.in-Some.ensures.smaller;
        counted = omega (arith, so_far.counted, length-append so_far.done (at.serial ∷ []));
      };
    }

pub returns : goal.returns
returns c =
    let so_far = c.loop-at.invariant.relays in
    let ended = relay_ends_before c.args.self.now c.args.h c.loop-at.at so_far.done so_far.relays (sym c.is_undone.ensures ∙ c.loop-at-test.false) in
    sym so_far.counted ∙ relayed_all c.args.self.now c.args.h so_far.done ended
