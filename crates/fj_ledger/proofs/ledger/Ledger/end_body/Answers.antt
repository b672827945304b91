use Rattle.std.proofs.Common.{◌+◌, ℕ, ◌≡◌, ◌-◌, ◌<◌, true, false, not, List, length, ◌∷◌, [], Some, refl, ap, sym, ◌∙◌, subst, arith}
use Rattle.std.specs.Prelude.{◌&&◌}
use Rattle.std.proofs.lemmas.List.{append-nil}
use Rattle.fj_rules.specs.Pasts.{limit}
use Rattle.fj_rules.specs.declared.event.Event.TheVariants.{End}
use Rattle.fj_rules.specs.Bounds.{Pool}
use Rattle.fj_rules.specs.Lists.{last_of}
use Rattle.fj_rules.specs.Tasks.{is_completer_kind}
use Rattle.fj_rules.specs.Stacks.{stack}
use Rattle.fj_rules.specs.Allowed.{Allowed}
use Rattle.fj_rules.specs.Runs.{Past}
use Rattle.fj_rules.proofs.Places.FewLive.{few_live}
use Rattle.fj_rules.proofs.Places.KeptPlaces.{held_kept}
use Rattle.fj_rules.proofs.Lists.Members.{get_is_in}
use Rattle.fj_rules.proofs.Events.Opening.{opens}
use Rattle.fj_tree.specs.declared.record.Record.{Record}
use Rattle.fj_tree.specs.Arrivals.{is_spent}
use Rattle.fj_ledger.proofs.Updates.BodyEnded.{stays_told, ended_holds}
use Rattle.fj_ledger.proofs.Recorded.Located.{IsLocated, located, read_at}
use Rattle.fj_ledger.proofs.Histories.Rooms.{open_is_short}
use Rattle.fj_ledger.proofs.Updates.Spent.{gone_room}
use Rattle.fj_tree.specs.Handles.{Handle}
use Rattle.fj_ledger.proofs.ledger.Ledger.end_body.Goals as goal
use Rattle.fj_ledger.proofs.ledger.Ledger.end_body.Goals.{After-self, After-unwrap-h, After-stays_open-stays}

fits : (c : After-self) → length c.self.inside.log.events < length c.self.inside.log.sealed + c.self.inside.limits.events
fits c = subst (λ (p : Past). length p.events < limit p) (sym c.self.view_is) c.requires.fits

within : (c : After-self) → c.args.w < c.self.inside.limits.workers
within c = subst (λ (p : Past). c.args.w < p.pool.limits.workers) (sym c.self.view_is) c.requires.worker

may : (c : After-self) → Allowed (record { mode = c.self.inside.mode; limits = c.self.inside.limits }) c.self.inside.log.events (End c.args.t.serial c.args.w)
may c = subst (λ (p : Past). Allowed p.pool p.events (End c.args.t.serial c.args.w)) (sym c.self.view_is) c.requires.may

pub unwrap-h-requires : goal.unwrap-h-requires
unwrap-h-requires c =
    let at = (goal.at.unwrap-h-requires c).After-self in
    let pool : Pool = record { mode = c.self.inside.mode; limits = c.self.inside.limits } in
    let h = c.self.inside.log.events in
    let holds = c.self.invariant.holds in
    rw c.renew.ensures.found (holds.tree_kept.all c.args.t.serial (held_kept pool h c.args.w c.args.t.serial holds.lawful (get_is_in c.args.t.serial (stack h c.args.w) (length (stack h c.args.w) - 1) (may at).0)))

found : (c : After-unwrap-h) → IsLocated c.self.inside.tree c.args.t.serial c.unwrap-h.result
found c = located c.self.inside.tree c.args.t.serial c.renew.result c.unwrap-h.result c.renew.ensures.found c.renew.ensures.good c.unwrap-h.ensures

-- what was read is whether the task is open then
read : (c : After-stays_open-stays) (l : IsLocated c.self.inside.tree c.args.t.serial c.unwrap-h.result) → c.stays_open-stays.result ≡ opens c.self.inside.log.events c.args.t.serial
read c l =
    let h = c.self.inside.log.events in
    let here = read_at c.self.inside.tree c.args.t.serial c.unwrap-h.result l c.unwrap.result.now (rw c.unwrap.ensures at c.get.ensures) in
    c.stays_open-stays.ensures
    ∙ ap (λ (r : Record). is_completer_kind (Some r.kind) && not (is_spent r)) here
    ∙ stays_told h l.found (c.self.invariant.holds.tree_kept.each c.unwrap-h.result.key l.found l.at)
    ∙ ap (opens h) (l.serial ∙ l.number)

some_last : (ts : List ℕ) (t : ℕ) → last_of ts ≡ Some t → 0 < length ts
some_last [] t last = absurd cc
some_last (u ∷ ts) t last = omega arith

pub push-requires-then-stays : goal.push-requires-then-stays
push-requires-then-stays c =
    let at = (goal.at.push-requires-then-stays c).After-self in
    let pool : Pool = record { mode = c.self.inside.mode; limits = c.self.inside.limits } in
    let h = c.self.inside.log.events in
    let holds = c.self.invariant.holds in
    let short = open_is_short pool h c.args.w holds.lawful (within at) (some_last (stack h c.args.w) c.args.t.serial (may at).0) in
    omega (arith, short, few_live pool h holds.lawful, ap (λ (ts : List ℕ). length ts) holds.open_kept, c.self.invariant.open_room)

pub invariant_of-self : goal.invariant_of-self
invariant_of-self c =
    let at = goal.at.invariant_of-self c in
    let pool : Pool = record { mode = c.self.inside.mode; limits = c.self.inside.limits } in
    let h = c.self.inside.log.events in
    let l = found at.After-unwrap-h in
    let is = sym (read at.After-stays_open-stays l) ∙ c.if-stays.true in record {
      holds = rw (c.push.ensures, c.take_last.ensures, c.set_place.ensures, c.push-then-stays.ensures, c.w.view_is, ap (λ (x : Handle). x.serial) c.t.view_is)
          (ended_holds pool h c.args.t.serial c.args.w true _ _ _ _ _ _ _ _ _ c.unwrap-h.result c.self.invariant.holds c.renew.ensures.sound l (may at.After-self) (within at.After-self) (fits at.After-self) is refl refl (sym (append-nil c.self.inside.gone.items)));
      log_room = rw c.push.ensures (c.self.invariant.log_room);
      open_room = rw c.push-then-stays.ensures (c.self.invariant.open_room);
      gone_room = c.self.invariant.gone_room;
    }

pub push_reserved-requires : goal.push_reserved-requires
push_reserved-requires c =
    let at = (goal.at.push_reserved-requires c).After-self in
    omega (arith, gone_room _ _ _ _ _ _ _ _ c.self.invariant.holds, fits at, c.self.inside.gone.ok.0, c.self.invariant.gone_room)

pub invariant_of-self-else-stays : goal.invariant_of-self-else-stays
invariant_of-self-else-stays c =
    let at = goal.at.invariant_of-self-else-stays c in
    let pool : Pool = record { mode = c.self.inside.mode; limits = c.self.inside.limits } in
    let h = c.self.inside.log.events in
    let l = found at.After-unwrap-h in
    let is = sym (read at.After-stays_open-stays l) ∙ c.if-stays.false in record {
      holds = rw (c.push.ensures, c.take_last.ensures, c.set_place-else-stays.ensures, c.push_reserved.ensures.items, c.w.view_is, ap (λ (x : Handle). x.serial) c.t.view_is)
          (ended_holds pool h c.args.t.serial c.args.w false _ _ _ _ _ _ _ _ _ c.unwrap-h.result c.self.invariant.holds c.renew.ensures.sound l (may at.After-self) (within at.After-self) (fits at.After-self) is refl (sym (append-nil c.self.inside.open_tasks.list)) refl);
      log_room = rw c.push.ensures (c.self.invariant.log_room);
      open_room = c.self.invariant.open_room;
      gone_room = omega (arith, c.push_reserved.ensures.capacity, c.self.invariant.gone_room);
    }
