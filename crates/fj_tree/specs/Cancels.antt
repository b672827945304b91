-- What the cancelling of all undone tasks does to a record.
use Rattle.std.specs.Prelude.{if◌then◌else◌}
use Rattle.fj_rules.specs.declared.status.Status.TheVariants.{Cancelled}
use Rattle.fj_rules.specs.Statuses.{is_undone}
use Rattle.fj_tree.specs.declared.record.Record.{Record}
use Rattle.fj_tree.specs.Records.{with_status}

-- the record, cancelled if it is undone
abbrev pub if_undone_cancelled : Record → Record
if_undone_cancelled r = if is_undone r.status then with_status Cancelled r else r
