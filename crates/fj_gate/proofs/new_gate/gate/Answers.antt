use Rattle.std.proofs.Common.{rules, arith, ◌≡◌, ◌+◌, ◌-◌, ◌<◌, All, ap, ◌∙◌, sym, subst, []}
use Rattle.std.proofs.lemmas.List.Elements.{All-push}
use Rattle.atomic_table.specs.Seated.{TableId}
use Rattle.fj_gate.specs.Ends.{new_entrant}
use Rattle.fj_gate.specs.Steps.{Seated, fresh, less_one}
use Rattle.fj_gate.proofs.Parting.{less_one-fresh}
use Rattle.fj_gate.proofs.new_gate.gate.Goals as goal

pub cut_off-requires-clause-token : goal.cut_off-requires-clause-token
cut_off-requires-clause-token c =
    let i = c.loop.invariant in
    let more = c.requires.submitters in
    let e : 32 - c.loop.counter ≡ 31 - c.loop.counter + 1 = omega arith in
    (i.first, ap (λ m. m.1) i.me, (31 - c.loop.counter, ap (λ m. m.0) i.me ∙ ap fresh e))

pub loop-preserved : goal.loop-preserved
loop-preserved c =
    let i = c.loop.invariant in
    let s = c.in_ok-entrant.ensures.token in
    let most = c.requires.submitters in
    let room : c.loop.counter < 32 = omega arith in
    let fresh : All (λ e. e ≡ new_entrant c.loop.token.table_id c.args.each) c.push.new.self.items = rw c.in_ok-push.ensures.items (All-push (λ e. e ≡ new_entrant c.loop.token.table_id c.args.each) c.loop.entrants.items c.in_ok-entrant.entrant i.fresh c.in_ok-entrant.ensures.entrant) in record {
      place = i.place ∙ sym s.0;
      words = ap (λ (z : TableId). z.words) s.0 ∙ i.words;
      first = s.1;
      me = s.2 ∙ ap (λ (m : Seated). (less_one m.0, [])) i.me ∙ ap (λ v. (v, [])) (less_one-fresh c.loop.counter room);
      count = search rules;
      fresh = subst (λ (z : TableId). All (λ e. e ≡ new_entrant z c.args.each) c.push.new.self.items) (sym s.0) fresh;
    }
