use Rattle.std.proofs.Common.{rules, arith, false, ◌≡◌, ◌≤◌, List, length-append, ◌∷◌, ◌++◌, ap, ◌∙◌, sym, ℕ, []}
use Rattle.std.proofs.lemmas.List.Elements.{All-push}
use Rattle.atomic_table.specs.Seated.{TableId}
use Rattle.fj_gate.proofs.Drawn.{drawn_by-push}
use Rattle.fj_gate.proofs.Steps.{meets}
use Rattle.fj_gate.proofs.tickets.meet.Goals as goal

pub loop-entrant-preserved : goal.loop-entrant-preserved
loop-entrant-preserved c =
    let i = c.loop-entrant.invariant in
    let t = c.take_in.ensures in
    let grows = t.seen.0 in record {
      next = tt;
      finite = tt;
      place = i.place ∙ sym t.token.0;
      words = ap (λ (z : TableId). z.words) t.token.0 ∙ i.words;
      same = t.token.0 ∙ i.same;
      first = t.token.1;
      no_slot = t.token.2;
      parts = (let kept = t.stays.0 in let was = i.parts in let more = length-append c.loop-entrant.yielded (c.in-Some.entrant ∷ []) in omega arith);
      closed = t.stays.1 ∙ i.closed;
      drawn = t.drawn ∙ ap (λ (l : List ℕ). l ++ c.in-Some.entrant.drawn) i.drawn ∙ sym (drawn_by-push c.loop-entrant.yielded c.in-Some.entrant);
      told = λ none. All-push (λ e. e.told ≡ false) c.loop-entrant.yielded c.in-Some.entrant (i.told (t.told none).0) (t.told none).1;
      own = (let was = i.own in omega arith);
      seen = All-push (λ e. e.seen ≤ c.take_in.new.token.me.0.seen) c.loop-entrant.yielded c.in-Some.entrant (λ k d h. let was = i.seen k d h in omega arith) t.seen.1;
    }

pub load-found-requires : goal.load-found-requires
load-found-requires c = (search rules, search rules, meets _ _ _ c.loop-entrant.invariant.first)
