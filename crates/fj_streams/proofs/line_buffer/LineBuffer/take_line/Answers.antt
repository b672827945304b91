use Rattle.std.proofs.Common.{◌≡◌, [], ◌∙◌, ap, refl, sym}
use Rattle.std.proofs.lemmas.Bool.{eqb-true, leb-true}
use Rattle.std.proofs.lemmas.List.{nil_from_length}
use Rattle.std.proofs.lemmas.Result.{err_from_is_err_and}
use Rattle.fj_streams.proofs.Starving.{starves_behind}
use Rattle.fj_streams.proofs.line_buffer.LineBuffer.take_line.Goals as goal

pub returns-in_err-advance_at-clause-memory : goal.returns-in_err-advance_at-clause-memory
returns-in_err-advance_at-clause-memory g c =
    let v = c.args.self.now in
    let empty : v.line ≡ [] = ap (λ k. k.line) (sym c.self.view_is) ∙ nil_from_length _ (sym c.self.inside.line.ok.0 ∙ eqb-true _ _ (sym c.is_empty.ensures ∙ c.if-is_empty.true)) in
    let few = leb-true _ _ (sym c.has_room.ensures ∙ c.if-not-has_room.false) in
    let p = err_from_is_err_and c.from_residual.result c.from_residual.ensures.1 in
    rw (p.1, p.2) (starves_behind g.F.LineFilter.needs_memory _ v c.args.state.now c.args.bytes.now c.args.bytes.now _ _ (rw empty refl) few c.in_err-advance_at.ensures.memory)
