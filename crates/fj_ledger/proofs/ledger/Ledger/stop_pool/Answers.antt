use Rattle.std.proofs.Common.{◌+◌, ◌≡◌, ◌<◌, length, map, ◌∙◌, ap, sym, subst, arith}
use Rattle.std.specs.Prelude.{option_map}
use Rattle.std.proofs.lemmas.List.{length-map}
use Rattle.fj_rules.specs.Pasts.{limit}
use Rattle.fj_rules.specs.declared.event.Event.TheVariants.{Stop}
use Rattle.fj_rules.specs.Bounds.{Pool}
use Rattle.fj_rules.specs.Allowed.{Allowed}
use Rattle.fj_rules.specs.Runs.{Past}
use Rattle.fj_ledger.specs.InHands.{if_cancelled}
use Rattle.fj_ledger.proofs.Lists.HandParts.{written_back}
use Rattle.fj_ledger.proofs.Updates.Shut.{stopped_twice, stop_holds}
use Rattle.fj_ledger.proofs.Updates.Spent.{gone_room}
use Rattle.fj_ledger.proofs.ledger.Ledger.stop_pool.Goals as goal
use Rattle.fj_ledger.proofs.ledger.Ledger.stop_pool.Goals.{After-self}

fits : (c : After-self) → length c.self.inside.log.events < length c.self.inside.log.sealed + c.self.inside.limits.events
fits c = subst (λ (p : Past). length p.events < limit p) (sym c.self.view_is) c.requires.fits

pub move_sorted-requires : goal.move_sorted-requires
move_sorted-requires c =
    let at = (goal.at.move_sorted-requires c).After-self in
    omega (arith, gone_room _ _ _ _ _ _ _ _ c.self.invariant.holds, fits at, c.self.invariant.gone_room)

pub invariant_of-self : goal.invariant_of-self
invariant_of-self c =
    let at = (goal.at.invariant_of-self c).After-self in
    let pool : Pool = record { mode = c.self.inside.mode; limits = c.self.inside.limits } in
    let h = c.self.inside.log.events in
    let may : Allowed pool h Stop = subst (λ (p : Past). Allowed p.pool p.events Stop) (sym c.self.view_is) c.requires.may in
    let sweep = c.cancel_undone.ensures in
    let close = c.close_open.ensures in
    let is = stopped_twice _ _ _ sweep.records sweep.kept sweep.made sweep.room close.records close.kept close.made close.room in
    let hands = c.self.inside.hands.items in
    let value = c.as_mut_slice.ensures.value in
    let swept : c.cancel_released.new.hands ≡ map (option_map if_cancelled) hands = c.cancel_released.ensures ∙ ap (map (option_map if_cancelled)) value in
    let back = written_back c.self.inside.hands.len c.cancel_released.new.hands hands (ap (λ ks. length ks) c.cancel_released.ensures ∙ length-map c.as_mut_slice.result.now (option_map if_cancelled) ∙ c.as_mut_slice.ensures.len) ∙ swept in
    let moved = c.move_sorted.ensures.moved in record {
      holds = rw (c.push.ensures, back, c.move_sorted.ensures.left, moved.3)
          (stop_holds pool h _ _ _ _ _ _ _ moved.0 c.self.invariant.holds may (fits at) is moved.1 moved.2);
      log_room = rw c.push.ensures (c.self.invariant.log_room);
      open_room = omega (arith, c.move_sorted.ensures.from_room, c.self.invariant.open_room);
      gone_room = omega (arith, c.move_sorted.ensures.to_room, c.self.invariant.gone_room);
    }
