use Rattle.std.proofs.Common.{ℕ, List, ap, sym}
use Rattle.std.proofs.lemmas.Option.{slice_get_within, get_or_from_slice_get}
use Rattle.fj_rules.proofs.Events.Queues.{without_absent}
use Rattle.fj_queues.specs.Windows.{Listed}
use Rattle.fj_queues.proofs.TakenOut.{without_at}
use Rattle.fj_queues.proofs.open.OpenTasks.remove.Goals as goal

abbrev listed : ℕ → List ℕ → Listed ℕ
listed room ts = record { list = ts; room = room }

pub returns-in-Some : goal.returns-in-Some
returns-in-Some c =
    let ts = c.args.self.now.list in
    let within = slice_get_within ts c.in-Some.i c.args.t c.in-Some.ensures in
    let here = get_or_from_slice_get ts c.in-Some.i c.args.t 0 c.in-Some.ensures in
    rw (c.remove.ensures, c.self.view_is) (ap (listed c.args.self.now.room) (sym (without_at c.args.t ts c.in-Some.i 0 c.requires within here)))

pub returns-in_default : goal.returns-in_default
returns-in_default c = ap (listed c.args.self.now.room) (sym (without_absent c.args.self.now.list c.args.t c.in_default.ensures))
