use Rattle.std.proofs.lemmas.Result.{on_ok_weaker}
use Rattle.fj_replay.proofs.Moves.{are_moves}
use Rattle.fj_replay.proofs.Named.{are_names, given_name}
use Rattle.fj_replay.proofs.NamedText.{text_named}
use Rattle.fj_replay.proofs.Starving.{starves}
use Rattle.fj_replay.proofs.Version1.{are_run, text_numbered}
use Rattle.fj_replay.proofs.Whole.{replays}
use Rattle.fj_replay.proofs.replay_script.replay.Goals as goal

pub returns-clause-ok : goal.returns-clause-ok
returns-clause-ok g c = on_ok_weaker c.run.result (λ done. replays done.0 _ _ _ _ done.1) c.run.ensures.ok

pub returns-clause-memory : goal.returns-clause-memory
returns-clause-memory g c = λ is. starves _ _ _ _ (c.run.ensures.memory is)

pub returns-clause-numbered : goal.returns-clause-numbered
returns-clause-numbered g c = text_numbered

pub returns-clause-named : goal.returns-clause-named
returns-clause-named g c = text_named

pub returns-clause-runs : goal.returns-clause-runs
returns-clause-runs g c = are_run

pub returns-clause-moves : goal.returns-clause-moves
returns-clause-moves g c = λ ls play later leads. are_moves play later ls leads

pub returns-clause-names : goal.returns-clause-names
returns-clause-names g c = are_names

pub returns-clause-given : goal.returns-clause-given
returns-clause-given g c = given_name
