use Rattle.std.specs.List.{remove, copy_within}
use Rattle.std.proofs.Common.{arith, ℕ, ◌≡◌, ◌<◌, ◌+◌, suc, refl, List, ◌++◌, length, take, drop, ap, append_assoc, length-drop}
use Rattle.std.proofs.Math.Nat.{add-sub_cancel_left}
use Rattle.fj_queues.specs.Windows.{Listed}
use Rattle.std.proofs.lemmas.List.{drop_at, drop-drop, drop-take, drop-append-le, length-take-le}
use Rattle.fj_queues.proofs.window.Window.remove.Goals as goal

abbrev listed : {X : Type 0} → ℕ → List X → Listed X
listed room xs = record { list = xs; room = room }

-- those before it, moved up by one, and those behind it
front_moved : {X : Type 0} (xs : List X) (first i : ℕ) → first + i < length xs → drop (first + 1) (copy_within xs first (first + i) (first + 1)) ≡ remove (drop first xs) i
front_moved xs first i within =
    let behind : first + 1 + i ≡ first + suc i = omega arith in
    rw (add-sub_cancel_left first i, append_assoc, drop_at (take (first + 1) xs) (take i (drop first xs) ++ drop (first + 1 + i) xs) (first + 1) (length-take-le (first + 1) xs (omega (arith, within))), drop-drop, behind) refl

-- those before it, and those behind it, moved down by one
back_moved : {X : Type 0} (xs : List X) (first i : ℕ) → first + i < length xs → drop first (remove xs (first + i)) ≡ remove (drop first xs) i
back_moved xs first i within =
    let behind : suc (first + i) ≡ first + suc i = omega arith in
    rw (drop-append-le first (take (first + i) xs) (drop (suc (first + i)) xs) (omega (arith, length-take-le (first + i) xs (omega (arith, within)))), drop-take, drop-drop, behind) refl

pub returns-then-i-len : goal.returns-then-i-len
returns-then-i-len g c =
    let cells = c.self.inside.cells in
    let within : c.self.inside.first + c.args.i < length cells.items = omega (arith, c.len.ensures, c.if-i-len.true, cells.ok.0) in
    rw (c.copy_within.ensures.items, ← c.self.view_is) (ap (listed c.self.inside.room) (front_moved cells.items c.self.inside.first c.args.i within))

pub returns-else-i-len : goal.returns-else-i-len
returns-else-i-len g c =
    let cells = c.self.inside.cells in
    let within : c.self.inside.first + c.args.i < length cells.items = omega (arith, c.requires, ap (λ (l : Listed g.row.T.Denot). length l.list) c.self.view_is, length-drop c.self.inside.first cells.items) in
    rw (c.remove-gone.ensures.items, ← c.self.view_is) (ap (listed c.self.inside.room) (back_moved cells.items c.self.inside.first c.args.i within))
