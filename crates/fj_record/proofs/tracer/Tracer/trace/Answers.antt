use Rattle.std.proofs.Common.{◌++◌, ◌∙◌, ap, subst, List, ℕ, OnErr}
use Rattle.fj_streams.specs.Beginnings.{AppendsSome}
use Rattle.fj_history.specs.Entries.{entries_text}
use Rattle.fj_replay.specs.Plays.{Play}
use Rattle.fj_record.specs.Traces.{entries_of}
use Rattle.fj_record.proofs.tracer.Tracer.trace.Goals as goal

pub returns-clause-some : goal.returns-clause-some
returns-clause-some g c =
    let text =
    c.as_bytes.ensures.value
    ∙ c.in-Ok.ensures.text
    ∙ ap (λ (b : List ℕ). b ++ entries_text (entries_of c.self.inside.player c.args.asked)) c.clear.ensures.bytes
    ∙ ap (λ (p : Play). entries_text (entries_of p c.args.asked)) c.self.view_is
    in
    subst (λ (t : List ℕ). OnErr c.write_all.result (AppendsSome (g.W.Sink.contents c.args.w.now) (g.W.Sink.contents c.write_all.new.w) t)) text c.write_all.ensures.some
