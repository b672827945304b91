use Rattle.std.proofs.Common.{◌+◌, ◌≡◌, ◌<◌, length, Bool, true, false, Some, ap, sym, ◌∙◌, subst, arith}
use Rattle.std.specs.Prelude.{if◌then◌else◌}
use Rattle.fj_rules.specs.Pasts.{limit}
use Rattle.fj_rules.specs.declared.event.Event.TheVariants.{Out, Skip}
use Rattle.fj_rules.specs.Bounds.{Pool, queues_in, owner_at}
use Rattle.fj_rules.specs.Queues.{queue}
use Rattle.fj_rules.specs.Statuses.{status, is_undone}
use Rattle.fj_rules.specs.Allowed.{Allowed, AllowedFrom}
use Rattle.fj_rules.specs.Answers.{taking}
use Rattle.fj_rules.specs.Runs.{Past}
use Rattle.fj_rules.proofs.Places.FewLive.{few_live}
use Rattle.fj_rules.proofs.Places.KeptPlaces.{queued_kept}
use Rattle.fj_tree.specs.declared.record.Record.{Record}
use Rattle.fj_ledger.specs.Sources.{queue_of, end_of, task_at, tasks_there}
use Rattle.fj_ledger.proofs.Recorded.Located.{IsLocated, located, read_at}
use Rattle.fj_ledger.proofs.Histories.Rooms.{stack_is_short}
use Rattle.fj_ledger.proofs.Updates.Spent.{gone_room}
use Rattle.fj_ledger.proofs.Updates.Taken.{in_end, skipped_holds, handed_holds}
use Rattle.fj_ledger.proofs.ledger.Ledger.take.Goals as goal
use Rattle.fj_ledger.proofs.ledger.Ledger.take.Goals.{After-self, After-take_from-t, After-unwrap-h, After-is_undone}

fits : (c : After-self) → length c.self.inside.log.events < length c.self.inside.log.sealed + c.self.inside.limits.events
fits c = subst (λ (p : Past). length p.events < limit p) (sym c.self.view_is) c.requires.fits

worker : (c : After-self) → c.args.w < c.self.inside.limits.workers
worker c = subst (λ (p : Past). c.args.w < p.pool.limits.workers) (sym c.self.view_is) c.requires.worker

within : (c : After-self) → queue_of c.args.source < queues_in c.self.inside.limits
within c = subst (λ (p : Past). queue_of c.args.source < queues_in p.pool.limits) (sym c.self.view_is) c.requires.queue

-- the task that is taken
taken : (c : After-take_from-t) → queue_of c.args.source < queues_in c.self.inside.limits → end_of c.args.source (queue c.self.inside.log.events (owner_at c.self.inside.limits (queue_of c.args.source))) ≡ Some c.take_from-t.result
taken c within = ap (end_of c.args.source) (sym (c.self.invariant.holds.queues_kept.each (queue_of c.args.source) within)) ∙ sym c.take_from-t.ensures.taken

pub unwrap-h-requires : goal.unwrap-h-requires
unwrap-h-requires c =
    let at = goal.at.unwrap-h-requires c in
    let h = c.self.inside.log.events in
    let t = c.take_from-t.result in
    let o = owner_at c.self.inside.limits (queue_of c.args.source) in
    let holds = c.self.invariant.holds in
    let pool : Pool = record { mode = c.self.inside.mode; limits = c.self.inside.limits } in
    rw c.find.ensures.found (holds.tree_kept.all t (queued_kept pool h o t holds.lawful (in_end c.args.source (queue h o) t (taken at.After-take_from-t (within at.After-self)))))

found : (c : After-unwrap-h) → IsLocated c.self.inside.tree c.take_from-t.result c.unwrap-h.result
found c = located c.self.inside.tree c.take_from-t.result c.find.result c.unwrap-h.result c.find.ensures.found c.find.ensures.good c.unwrap-h.ensures

-- what was read is whether the task is undone
undone : (c : After-is_undone) (l : IsLocated c.self.inside.tree c.take_from-t.result c.unwrap-h.result) → c.is_undone.result ≡ is_undone (status c.self.inside.log.events c.take_from-t.result)
undone c l =
    let h = c.self.inside.log.events in
    let here = read_at c.self.inside.tree c.take_from-t.result c.unwrap-h.result l c.unwrap.result.now (rw c.unwrap.ensures at c.get.ensures) in
    c.is_undone.ensures
    ∙ ap (λ (r : Record). is_undone r.status) here
    ∙ ap is_undone (sym (c.self.invariant.holds.tree_kept.each c.unwrap-h.result.key l.found l.at).status)
    ∙ ap (λ t. is_undone (status h t)) (l.serial ∙ l.number)

-- the event may follow
may : (c : After-take_from-t) (b : Bool) → queue_of c.args.source < queues_in c.self.inside.limits → is_undone (status c.self.inside.log.events c.take_from-t.result) ≡ b
    → Allowed (record { mode = c.self.inside.mode; limits = c.self.inside.limits }) c.self.inside.log.events (if b then Out c.take_from-t.result c.args.w else Skip c.take_from-t.result c.args.w)
may c b within is =
    (rw (taken c within, is) at (subst (λ (p : Past). AllowedFrom p.pool p.events (taking p.events c.args.w (task_at p c.args.source))) (sym c.self.view_is) c.requires.may)).0

pub push_reserved-requires : goal.push_reserved-requires
push_reserved-requires c =
    let at = (goal.at.push_reserved-requires c).After-self in
    omega (arith, gone_room _ _ _ _ _ _ _ _ c.self.invariant.holds, fits at, c.self.inside.gone.ok.0, c.self.invariant.gone_room)

pub invariant_of-self : goal.invariant_of-self
invariant_of-self c =
    let at = goal.at.invariant_of-self c in
    let pool : Pool = record { mode = c.self.inside.mode; limits = c.self.inside.limits } in
    let h = c.self.inside.log.events in
    let l = found at.After-unwrap-h in
    let here = within at.After-self in
    let done = sym (undone at.After-is_undone l) ∙ c.if-not-is_undone.true in record {
      holds = rw (c.push.ensures, c.take_from-t.ensures.rest, c.set_place.ensures, c.push_reserved.ensures.items)
          (skipped_holds pool h c.take_from-t.result c.args.w c.args.source _ _ _ _ _ _ c.unwrap-h.result c.self.invariant.holds c.find.ensures.sound l (may at.After-take_from-t false here done) (fits at.After-self) here (taken at.After-take_from-t here));
      log_room = rw c.push.ensures (c.self.invariant.log_room);
      open_room = c.self.invariant.open_room;
      gone_room = omega (arith, c.push_reserved.ensures.capacity, c.self.invariant.gone_room);
    }

pub push-requires-3-clause-room : goal.push-requires-3-clause-room
push-requires-3-clause-room c =
    let at = goal.at.push-requires-3-clause-room c in
    let pool : Pool = record { mode = c.self.inside.mode; limits = c.self.inside.limits } in
    let h = c.self.inside.log.events in
    let holds = c.self.invariant.holds in
    let w = worker at.After-self in
    let filled : 0 < length (queue h (owner_at c.self.inside.limits (queue_of c.args.source))) = subst (λ (p : Past). 0 < length (tasks_there p c.args.source)) (sym c.self.view_is) c.requires.filled in
    let short = stack_is_short pool h c.args.w (queue_of c.args.source) holds.lawful w (within at.After-self) filled in
    rw c.w.view_is (omega (arith, short, ap length (holds.stacks_kept.each c.args.w w), holds.stacks_kept.room, few_live pool h holds.lawful))

pub invariant_of-self-2 : goal.invariant_of-self-2
invariant_of-self-2 c =
    let at = goal.at.invariant_of-self-2 c in
    let pool : Pool = record { mode = c.self.inside.mode; limits = c.self.inside.limits } in
    let h = c.self.inside.log.events in
    let l = found at.After-unwrap-h in
    let here = within at.After-self in
    let done = sym (undone at.After-is_undone l) ∙ c.if-not-is_undone.false in record {
      holds = rw (c.push-2.ensures, c.take_from-t.ensures.rest, c.set_place-2.ensures, c.push-3.ensures, c.w.view_is)
          (handed_holds pool h c.take_from-t.result c.args.w c.args.source _ _ _ _ _ _ c.unwrap-h.result c.self.invariant.holds c.find.ensures.sound l (may at.After-take_from-t true here done) (fits at.After-self) (worker at.After-self) here (taken at.After-take_from-t here));
      log_room = rw c.push-2.ensures (c.self.invariant.log_room);
      open_room = c.self.invariant.open_room;
      gone_room = c.self.invariant.gone_room;
    }
