use Rattle.fj_machine.proofs.machine.Machine.hook.Goals as goal

pub returns-clause-apart : goal.returns-clause-apart
returns-clause-apart c = rw (← c.self.view_is) (record { workers = c.hook.ensures.lawful.one_each; completers = c.hook.ensures.lawful.once })
