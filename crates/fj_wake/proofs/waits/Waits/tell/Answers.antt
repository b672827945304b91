use Rattle.std.proofs.Common.{sym, subst}
use Rattle.fj_wake.specs.Waiting.{WaitBelow, WaitOnlyFor}
use Rattle.fj_wake.proofs.Fewer.{used_still}
use Rattle.fj_wake.proofs.waits.Waits.tell.Goals as goal
use Rattle.fj_wake.proofs.waits.Waits.tell.Goals.{then-queues_any, else-queues_any}

pub tell_ended-requires : goal.tell_ended-requires
tell_ended-requires g c =
    elim c.if-queues_any.branch [
      | then-queues_any w ↦ subst (λ s. WaitBelow s.seats_used s.seats.places) (sym w.self-is) (used_still c.args.self.now w.wake_one.new.self w.wake_one.ensures c.requires)
      | else-queues_any w ↦ subst (λ s. WaitBelow s.seats_used s.seats.places) (sym w.self-is) c.requires
    ]

pub returns : goal.returns
returns g c = λ joinable awaited only still.
    c.tell_ended.ensures joinable awaited
    (elim c.if-queues_any.branch [
      | then-queues_any w ↦ subst (WaitOnlyFor joinable awaited) (sym w.self-is) (w.wake_one.ensures joinable awaited only)
      | else-queues_any w ↦ subst (WaitOnlyFor joinable awaited) (sym w.self-is) only
    ])
    still
