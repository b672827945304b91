use Rattle.std.proofs.Common.{◌≡◌, ◌∙◌, ◌+◌, ◌++◌, ap, arith, map, refl, rules, subst}
use Rattle.std.proofs.lemmas.List.{take_all}
use Rattle.fj_rules.specs.Epochs.{MovesFrom}
use Rattle.fj_machine.specs.Handed.{handed, shown}
use Rattle.fj_machine.proofs.MoreSteps.MovesMore.{move_keeps, run_move}
use Rattle.fj_machine.proofs.MoreSteps.HandedMore.{none_handed, run_hands, seals_left}
use Rattle.fj_machine.proofs.epochs.make_moves.Goals as goal

pub loop-asked-init : goal.loop-asked-init
loop-asked-init c = record {
  pool = refl;
  len = search rules;
  capacity = refl;
  part_room = c.requires.part_room;
  runs = rw c.requires.empty refl;
  parts = λ fits. fits;
  handed = rw c.requires.empty (none_handed c.args.machine.now (map shown c.args.parts.now.items));
}

pub make_move-requires : goal.make_move-requires
make_move-requires c = omega (arith, seals_left c.args.moves.now c.loop-asked.asked-index c.asked-item.result c.loop-asked-test.true c.asked-item.is, c.loop-asked.invariant.part_room)

pub loop-asked-preserved : goal.loop-asked-preserved
loop-asked-preserved c =
    let start = c.args.machine.now in
    let moves = c.args.moves.now in
    let i = c.loop-asked.asked-index in
    let answers = c.loop-asked.answers.items in
    let old = c.loop-asked.machine in
    let new = c.make_move.new.machine in
    let asked = c.asked-item.result in
    let before = c.loop-asked.invariant in
    let made = c.make_move.ensures in
    let pushed = c.push_reserved.ensures in
    record {
      pool = move_keeps old new asked c.make_move.result start.pool before.pool made.made;
      len = pushed.len ∙ ap (λ n. n + 1) before.len;
      capacity = pushed.capacity ∙ before.capacity;
      part_room = omega (arith, seals_left moves i asked c.loop-asked-test.true c.asked-item.is, before.part_room, made.grows, made.capacity);
      runs = rw pushed.items (run_move start moves i answers old new asked c.make_move.result before.runs c.loop-asked-test.true c.asked-item.is made.made);
      parts = λ fits. made.parts (before.parts fits);
      handed = rw pushed.items
          (run_hands start moves i answers c.args.parts.now.items c.loop-asked.parts.items c.make_move.new.parts.items old asked c.make_move.result
          before.runs c.loop-asked-test.true c.asked-item.is before.handed made.handed);
    }

pub returns-clause-runs : goal.returns-clause-runs
returns-clause-runs c =
    subst (λ made. MovesFrom c.args.machine.now made c.loop-asked.answers.items c.loop-asked.machine) (take_all c.loop-asked.asked-index c.args.moves.now (search rules)) c.loop-asked.invariant.runs

pub returns-clause-handed : goal.returns-clause-handed
returns-clause-handed c =
    subst (λ made. map shown c.loop-asked.parts.items ≡ map shown c.args.parts.now.items ++ handed c.args.machine.now made c.loop-asked.answers.items)
    (take_all c.loop-asked.asked-index c.args.moves.now (search rules)) c.loop-asked.invariant.handed
