use Rattle.std.proofs.Common.{refl}
use Rattle.std.specs.Prelude.{Some}
use Rattle.fj_guarded.specs.declared.guarded.outside.TakenIn.TheVariants.{Nothing, One, Several}
use Rattle.fj_guarded.proofs.guarded.Guarded.look_and_wait.Goals as goal

pub returns-in-Nothing-clause-waits : goal.returns-in-Nothing-clause-waits
returns-in-Nothing-clause-waits g c =
    rw (c.sleep_until.ensures.0, c.sleep_until.ensures.1) (record { looked = Some Nothing; looks = rw c.in-Nothing.is at c.look_at_lanes.ensures; next_is = refl })

pub returns-in-One-clause-waits : goal.returns-in-One-clause-waits
returns-in-One-clause-waits g c = rw c.task_queued.ensures (record { looked = Some One; looks = rw c.in-One.is at c.look_at_lanes.ensures; next_is = refl })

pub returns-in-Several-clause-waits : goal.returns-in-Several-clause-waits
returns-in-Several-clause-waits g c = record { looked = Some Several; looks = rw c.in-Several.is at c.look_at_lanes.ensures; next_is = refl }
