use Rattle.std.proofs.Common.{ℕ, List, length, drop, ap, ◌∙◌}
use Rattle.fj_rules.specs.Answers.{answer}
use Rattle.fj_rules.specs.Pasts.{gone_since}
use Rattle.fj_slots.specs.Shelves.{entries, without_entries}
use Rattle.fj_body.proofs.Sweeps.{gone_longer, went_shown}
use Rattle.fj_bodies.proofs.Calms.{nothing_went}
use Rattle.fj_bodies.proofs.moves.make.Goals as goal

pub sweep_since-requires : goal.sweep_since-requires
sweep_since-requires g c =
    rw c.gone-before.ensures (gone_longer c.args.machine.now c.step-said.new.self (answer c.args.machine.now c.args.asked.now).1 c.step-said.ensures.step.1 c.requires)

pub returns-clause-bodies : goal.returns-clause-bodies
returns-clause-bodies g c =
    c.sweep_since.ensures.entries ∙ ap (λ n. without_entries (entries c.args.bodies.now) (drop n (gone_since c.step-said.new.self))) (ap (λ (ts : List ℕ). length ts) c.gone-before.ensures)
    ∙ ap (without_entries (entries c.args.bodies.now)) (went_shown c.args.machine.now c.step-said.new.self (answer c.args.machine.now c.args.asked.now).1 c.step-said.ensures.step.1 c.requires)

pub returns-clause-refused : goal.returns-clause-refused
returns-clause-refused g c = λ r is.
    let same = c.step-said.ensures.refused r is in (
      same,
      c.sweep_since.ensures.stays
          (ap (λ n. drop n (gone_since c.step-said.new.self)) (ap (λ (ts : List ℕ). length ts) c.gone-before.ensures)
          ∙ went_shown c.args.machine.now c.step-said.new.self (answer c.args.machine.now c.args.asked.now).1 c.step-said.ensures.step.1 c.requires
          ∙ nothing_went c.args.machine.now c.step-said.new.self same),
    )
