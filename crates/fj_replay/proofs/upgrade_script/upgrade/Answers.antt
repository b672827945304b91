use Rattle.std.proofs.lemmas.Result.{on_ok_weaker}
use Rattle.fj_replay.proofs.Starving.{upgrade_starves}
use Rattle.fj_replay.proofs.Whole.{upgrades}
use Rattle.fj_replay.proofs.Version2.Replies.{keeps_replies, not_upgraded, up_is}
use Rattle.fj_replay.proofs.upgrade_script.upgrade.Goals as goal

pub returns-clause-ok : goal.returns-clause-ok
returns-clause-ok g c = on_ok_weaker c.run.result (λ done. upgrades done.0 _ _ _ _ done.1) c.run.ensures.ok

pub returns-clause-memory : goal.returns-clause-memory
returns-clause-memory g c = λ is. upgrade_starves _ _ _ _ (c.run.ensures.memory is)

pub returns-clause-replies : goal.returns-clause-replies
returns-clause-replies g c = keeps_replies

pub returns-clause-lines : goal.returns-clause-lines
returns-clause-lines g c = up_is

pub returns-clause-titled : goal.returns-clause-titled
returns-clause-titled g c = not_upgraded
