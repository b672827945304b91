use Rattle.std.proofs.Common.{◌≡◌, ◌++◌, ◌∷◌, [], length, length-append, arith, refl, ap, ◌∙◌}
use Rattle.fj_slots.proofs.Beside.{length_zip, zip_append}
use Rattle.fj_slots.proofs.hand.Hand.pop.Goals as goal

pub returns-clause-popped : goal.returns-clause-popped
returns-clause-popped g c =
    let q = c.self.inside in
    let ns = c.pop.new.self.items in
    let bs = c.pop-2.new.self.items in
    let serials : q.serials.items ≡ ns ++ c.unwrap-serial.result ∷ [] = c.pop.ensures.items ∙ rw c.unwrap-serial.ensures refl in
    let bodies : q.bodies.items ≡ bs ++ c.unwrap-body.result ∷ [] = c.pop-2.ensures.items ∙ rw c.unwrap-body.ensures refl in
    let joined : q.joined.items ≡ c.pop-3.new.self.items ++ c.unwrap-note.result ∷ [] = c.pop-3.ensures.items ∙ rw c.unwrap-note.ensures refl in
    let even : length bs ≡ length ns =
    omega (arith, ap length serials, ap length bodies, length-append ns (c.unwrap-serial.result ∷ []), length-append bs (c.unwrap-body.result ∷ []), c.self.invariant.one_body_each) in
    (c.unwrap-note.result, rw (← c.self.view_is, serials, bodies, joined, zip_append ns bs c.unwrap-serial.result c.unwrap-body.result even) refl)

pub returns-clause-room : goal.returns-clause-room
returns-clause-room g c =
    let q = c.self.inside in
    let ns = c.pop.new.self.items in
    let bs = c.pop-2.new.self.items in
    let serials : q.serials.items ≡ ns ++ c.unwrap-serial.result ∷ [] = c.pop.ensures.items ∙ rw c.unwrap-serial.ensures refl in
    let bodies : q.bodies.items ≡ bs ++ c.unwrap-body.result ∷ [] = c.pop-2.ensures.items ∙ rw c.unwrap-body.ensures refl in
    let fewer = length-append ns (c.unwrap-serial.result ∷ []) in
    let even : length bs ≡ length ns = omega (arith, ap length serials, ap length bodies, fewer, length-append bs (c.unwrap-body.result ∷ []), c.self.invariant.one_body_each) in
    omega (arith, length_zip ns bs even, ap length serials, fewer, c.self.invariant.few)
