use Rattle.std.proofs.Common.{arith, ◌+◌, ◌%◌, ◌^◌, ◌++◌, ◌∷◌, [], ap, sym, ◌∙◌}
use Rattle.std.proofs.lemmas.List.FromFn.{map-range_with_len_more}
use Rattle.fj_slots.specs.Hands.{new_hand}
use Rattle.fj_calls.specs.Cores.{first_hands}
use Rattle.fj_core.proofs.first_hands.new_hands.Goals as goal

pub loop-w-preserved : goal.loop-w-preserved
loop-w-preserved g c =
    c.in_ok-push.ensures.items ∙ ap (λ hs. hs ++ c.in_ok-new.field-0 ∷ []) c.loop-w.invariant ∙ ap (λ h. first_hands c.loop-w.w c.args.start ++ h ∷ []) c.in_ok-new.ensures
    ∙ sym (map-range_with_len_more (λ w. new_hand w ((c.args.start + w) % 2 ^ 32)) 0 c.loop-w.w c.loop-w.w (omega arith))
