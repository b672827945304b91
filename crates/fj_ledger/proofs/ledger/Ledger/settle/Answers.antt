use Rattle.std.proofs.Common.{◌+◌, ◌≡◌, ◌<◌, false, length, map, ap, sym, ◌∙◌, subst, arith}
use Rattle.std.specs.Prelude.{Option, None, IsSome, option_map}
use Rattle.std.proofs.lemmas.List.{length-map}
use Rattle.fj_rules.specs.Pasts.{limit}
use Rattle.fj_rules.specs.declared.event.Event.TheVariants.{Settle}
use Rattle.fj_rules.specs.Bounds.{Pool}
use Rattle.fj_rules.specs.Tasks.{is_kept}
use Rattle.fj_rules.specs.Allowed.{Allowed}
use Rattle.fj_rules.specs.Runs.{Past}
use Rattle.fj_rules.proofs.Places.OnePlace.{never}
use Rattle.fj_ledger.proofs.Recorded.Located.{located}
use Rattle.fj_ledger.specs.InHands.{released_with}
use Rattle.fj_ledger.proofs.Lists.HandParts.{written_back}
use Rattle.fj_ledger.proofs.Updates.Settled.{settle_holds}
use Rattle.fj_ledger.proofs.Updates.SettledInHand.{settle_hand_holds}
use Rattle.fj_ledger.proofs.Updates.Spent.{gone_room, open_once}
use Rattle.fj_tree.specs.Handles.{Handle}
use Rattle.fj_ledger.proofs.ledger.Ledger.settle.Goals as goal
use Rattle.fj_ledger.proofs.ledger.Ledger.settle.Goals.{After-self}

fits : (c : After-self) → length c.self.inside.log.events < length c.self.inside.log.sealed + c.self.inside.limits.events
fits c = subst (λ (p : Past). length p.events < limit p) (sym c.self.view_is) c.requires.fits

may : (c : After-self) → Allowed (record { mode = c.self.inside.mode; limits = c.self.inside.limits }) c.self.inside.log.events (Settle c.args.t.serial c.args.status)
may c = subst (λ (p : Past). Allowed p.pool p.events (Settle c.args.t.serial c.args.status)) (sym c.self.view_is) c.requires.may

pub close-requires-clause-once : goal.close-requires-clause-once
close-requires-clause-once c = open_once _ _ _ _ _ _ _ _ c.self.invariant.holds

pub close-requires-clause-room : goal.close-requires-clause-room
close-requires-clause-room c =
    omega (arith, gone_room _ _ _ _ _ _ _ _ c.self.invariant.holds, fits (goal.at.close-requires-clause-room c).After-self, c.self.invariant.gone_room)

pub invariant_of-self : goal.invariant_of-self
invariant_of-self c =
    let at = (goal.at.invariant_of-self c).After-self in
    let pool : Pool = record { mode = c.self.inside.mode; limits = c.self.inside.limits } in
    let h = c.self.inside.log.events in
    let l = located c.self.inside.tree c.args.t.serial c.renew.result c.in-Some.h c.renew.ensures.found c.renew.ensures.good c.in-Some.is in record {
      holds = rw (c.push.ensures, c.close.ensures.tree, c.close.ensures.open, c.close.ensures.gone, c.set_status.ensures, ap (λ (x : Handle). x.serial) c.t.view_is)
          (settle_holds pool h c.args.t.serial c.args.status _ _ _ _ _ _ c.in-Some.h c.self.invariant.holds c.renew.ensures.sound l (may at) (fits at));
      log_room = rw c.push.ensures (c.self.invariant.log_room);
      open_room = omega (arith, c.close.ensures.open_room, c.self.invariant.open_room);
      gone_room = omega (arith, c.close.ensures.gone_room, c.self.invariant.gone_room);
    }

none_there : {A : Type 0} {o : Option A} → o ≡ None → IsSome o → ⊥
none_there none some = let bad = rw none at some in absurd cc

pub invariant_of-self-in_default : goal.invariant_of-self-in_default
invariant_of-self-in_default c =
    let at = (goal.at.invariant_of-self-in_default c).After-self in
    let pool : Pool = record { mode = c.self.inside.mode; limits = c.self.inside.limits } in
    let h = c.self.inside.log.events in
    let holds = c.self.invariant.holds in
    let none : is_kept h c.args.t.serial ≡ false = never (is_kept h c.args.t.serial) (λ kept. none_there (sym c.renew.ensures.found ∙ c.in_default.is) (holds.tree_kept.all c.args.t.serial kept)) in
    let f = option_map (released_with c.args.t.serial c.args.status) in
    let put = rw (ap (λ (x : Handle). x.serial) c.t-2.view_is) at c.keep_status.ensures in
    let left = put ∙ ap (map f) c.as_mut_slice.ensures.value in
    let back = written_back c.self.inside.hands.len c.keep_status.new.hands c.self.inside.hands.items (ap (λ ks. length ks) put ∙ length-map c.as_mut_slice.result.now f ∙ c.as_mut_slice.ensures.len) ∙ left in record {
      holds = rw (c.push.ensures, back, ap (λ (x : Handle). x.serial) c.t.view_is) (settle_hand_holds pool h c.args.t.serial c.args.status _ _ _ _ _ _ holds (may at) (fits at) none);
      log_room = rw c.push.ensures (c.self.invariant.log_room);
      open_room = c.self.invariant.open_room;
      gone_room = c.self.invariant.gone_room;
    }
