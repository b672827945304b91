use Rattle.std.proofs.Common.{ap, sym, ◌∙◌}
use Rattle.std.specs.Prelude.{option_map}
use Rattle.std.proofs.Math.ListN.{set}
use Rattle.std.proofs.lemmas.List.Edits.{map_over_more}
use Rattle.fj_ledger.specs.InHands.{released_with}
use Rattle.fj_ledger.proofs.ledger.hook.keep_status.Goals as goal

pub loop-hand-preserved : goal.loop-hand-preserved
loop-hand-preserved c =
    let f = option_map (released_with c.args.c c.args.status) in
    let hands = c.loop-hand.hands in
    let i = c.loop-hand.hand-index in record {
      changed = ap (set hands i) (c.keep_in.ensures ∙ ap f (sym c.hand-item.is)) ∙ map_over_more f c.args.hands.now hands i c.hand-item.result c.loop-hand-test.true c.loop-hand.invariant.changed c.hand-item.is;
    }
