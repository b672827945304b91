use Rattle.std.proofs.Common.{arith, ap, sym, subst, ◌∙◌, ◌+◌, ◌++◌, ◌∷◌, [], ℕ, List, length-append}
use Rattle.std.specs.Prelude.{option_map}
use Rattle.fj_tree.specs.Records.{Records, IsSound, record_at}
use Rattle.fj_tree.specs.Relays.{after_relay}
use Rattle.fj_tree.proofs.Index.Finds.{number_of}
use Rattle.fj_tree.proofs.Ascents.Relaying.{relayed_begins, relayed_goes_on, relayed_ends_before, relayed_ends_at, relayed_all, relayed_good, relayed_was_good, settles_one}
use Rattle.fj_tree.proofs.tree.Tree.relay_up.Goals as goal

pub loop-status-init : goal.loop-status-init
loop-status-init c = record { good = c.requires; old_good = c.requires; relays = relayed_begins c.args.status c.args.self.now c.args.h }

pub overflow_add-relayed : goal.overflow_add-relayed
overflow_add-relayed c =
    let few = number_of c.args.self.now c.args.h (subst (λ (t : Records). IsSound t) c.self.view_is c.self.invariant.sound) c.requires in
    omega (arith, few, c.loop-status.invariant.relays.relays.falls, c.loop-status.invariant.relays.counted, ap (λ (t : Records). t.made) c.self.view_is)

pub returns-in_default-clause-relayed : goal.returns-in_default-clause-relayed
returns-in_default-clause-relayed c =
    let t = c.args.self.now in
    let so_far = c.loop-status.invariant.relays in
    let at = c.loop-status.at in
    let sound : IsSound t = subst (λ (t : Records). IsSound t) c.self.view_is c.self.invariant.sound in
    let ended = relayed_ends_at c.args.status t c.loop-status.self c.args.h at c.loop-status.relayed sound so_far c.loop-status.invariant.old_good (sym c.is_undone.ensures ∙ c.loop-status-test.true) (sym c.next_relayed-next.ensures.next ∙ c.in_default.is) in
    omega (arith, so_far.counted, length-append so_far.done (at.serial ∷ []), relayed_all t c.args.h (so_far.done ++ at.serial ∷ []) ended)

pub returns-in_default-clause-records : goal.returns-in_default-clause-records
returns-in_default-clause-records c = λ key.
    let t = c.args.self.now in
    let so_far = c.loop-status.invariant.relays in
    let at = c.loop-status.at in
    let sound : IsSound t = subst (λ (t : Records). IsSound t) c.self.view_is c.self.invariant.sound in
    let ended = relayed_ends_at c.args.status t c.loop-status.self c.args.h at c.loop-status.relayed sound so_far c.loop-status.invariant.old_good (sym c.is_undone.ensures ∙ c.loop-status-test.true) (sym c.next_relayed-next.ensures.next ∙ c.in_default.is) in
    ap (λ (u : Records). record_at u key) c.set_status.ensures ∙ (settles_one c.args.status t c.loop-status.self c.args.h at c.loop-status.relayed sound so_far c.loop-status.invariant.old_good).records key
    ∙ ap (λ (ns : List ℕ). option_map (after_relay ns c.args.status) (record_at t key)) ended

pub loop-status-preserved : goal.loop-status-preserved
loop-status-preserved c =
    let t = c.args.self.now in
    let so_far = c.loop-status.invariant.relays in
    let at = c.loop-status.at in
    let up = c.in-Some.up in
    let sound : IsSound t = subst (λ (t : Records). IsSound t) c.self.view_is c.self.invariant.sound in
    let on = relayed_goes_on c.args.status t c.loop-status.self c.args.h at up c.loop-status.relayed sound so_far c.loop-status.invariant.old_good (sym c.is_undone.ensures ∙ c.loop-status-test.true)
    (sym c.next_relayed-next.ensures.next ∙ c.in-Some.is) c.in-Some.ensures.smaller in
    let good = relayed_was_good c.args.status t c.loop-status.self c.args.h at up c.loop-status.relayed so_far c.in-Some.ensures.good in
    rw c.set_status.ensures (record {
      good = relayed_good c.args.status t _ c.args.h up up (c.loop-status.relayed + 1) on good;
      old_good = good;
      relays = on;
    })

pub returns-clause-relayed : goal.returns-clause-relayed
returns-clause-relayed c =
    let so_far = c.loop-status.invariant.relays in
    let ended = relayed_ends_before c.args.status c.args.self.now c.loop-status.self c.args.h c.loop-status.at c.loop-status.relayed so_far c.loop-status.invariant.old_good (sym c.is_undone.ensures ∙ c.loop-status-test.false) in
    sym so_far.counted ∙ relayed_all c.args.self.now c.args.h so_far.done ended

pub returns-clause-records : goal.returns-clause-records
returns-clause-records c = λ key.
    let so_far = c.loop-status.invariant.relays in
    let ended = relayed_ends_before c.args.status c.args.self.now c.loop-status.self c.args.h c.loop-status.at c.loop-status.relayed so_far c.loop-status.invariant.old_good (sym c.is_undone.ensures ∙ c.loop-status-test.false) in
    so_far.written.records key ∙ ap (λ (ns : List ℕ). option_map (after_relay ns c.args.status) (record_at c.args.self.now key)) ended
