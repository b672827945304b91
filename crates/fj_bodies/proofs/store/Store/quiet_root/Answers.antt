use Rattle.fj_rules.specs.declared.step.Step.TheVariants.{QuietRoot}
use Rattle.fj_bodies.proofs.Calms.{drops_made, makes_reply, root_replies}
use Rattle.fj_bodies.proofs.store.Store.quiet_root.Goals as goal

pub returns-in_default : goal.returns-in_default
returns-in_default g c =
    let old = c.args.self.now in
    let reply = makes_reply old (QuietRoot c.args.w c.args.t) c.ask.result _ c.ask.ensures in (
      c.requires,
      c.ask.result,
      drops_made old (QuietRoot c.args.w c.args.t) c.ask.result _ c.in_default.not-Refused c.ask.ensures,
      root_replies old.past c.args.w c.args.t c.ask.result reply c.in_default.not-Refused,
    )
