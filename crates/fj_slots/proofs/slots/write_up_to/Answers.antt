use Rattle.std.proofs.Common.{arith, length, None, ◌∙◌, ◌≡◌}
use Rattle.fj_slots.proofs.Padded.{long_up, one_more}
use Rattle.fj_slots.proofs.slots.write_up_to.Goals as goal

pub push_reserved-requires : goal.push_reserved-requires
push_reserved-requires g c =
    let now = c.args.written.now in
    let long : length c.loop-slot.written.items ≡ c.loop-slot._slot = long_up now.items None c.loop-slot._slot c.loop-slot.invariant.0 (omega (arith, c.len-slot.ensures, now.ok.0)) in
    omega (arith, c.loop-slot.written.ok.0, c.loop-slot.invariant.1, c.requires.room)

pub loop-slot-preserved : goal.loop-slot-preserved
loop-slot-preserved g c =
    let now = c.args.written.now in (
      one_more now.items None c.loop-slot._slot (omega (arith, c.len-slot.ensures, now.ok.0)) c.loop-slot.invariant.0 c.push_reserved.ensures.items,
      c.push_reserved.ensures.capacity ∙ c.loop-slot.invariant.1,
    )
