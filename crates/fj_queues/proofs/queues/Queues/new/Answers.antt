use Rattle.fj_queues.specs.Queues.{Lists, all_in}
use Rattle.fj_queues.proofs.Table.Owners.{none_linked, none_listed}
use Rattle.fj_queues.proofs.Table.Counts.{none_in}
use Rattle.std.proofs.Common.{arith, ap, sym, ◌∙◌, ◌≡◌, List, ℕ, length}
use Rattle.fj_queues.proofs.queues.Queues.new.Goals as goal

pub invariant_of-result : goal.invariant_of-result
invariant_of-result c =
    record {
      table = none_linked c.in_ok-cells.cells.table.items c.in_ok-cells.cells.free c.loop-owner.ends.items c.loop-owner._owner c.in_ok-cells.ensures.empty c.in_ok-cells.ensures.free c.loop-owner.invariant;
      counted = sym (ap all_in (none_listed c.in_ok-cells.cells.table.items c.loop-owner.ends.items c.loop-owner._owner c.loop-owner.invariant) ∙ none_in c.loop-owner._owner);
      within = omega (arith, ap length c.in_ok-cells.ensures.empty);
      reserved = c.in_ok-cells.ensures.room;
    }

pub returns : goal.returns
returns c =
    let all : c.loop-owner._owner ≡ c.args.owners = omega arith in
    rw (← all) (ap (λ (lists : List (List ℕ)). let qs : Lists = record { lists = lists; room = c.args.room } in qs) (none_listed c.in_ok-cells.cells.table.items c.loop-owner.ends.items c.loop-owner._owner c.loop-owner.invariant))
