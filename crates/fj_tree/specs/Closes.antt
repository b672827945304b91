-- What the closing of all open tasks does to a record.
use Rattle.std.specs.Prelude.{if◌then◌else◌}
use Rattle.fj_rules.specs.declared.place.Place.TheVariants.{Gone}
use Rattle.fj_rules.specs.Places.{is_open}
use Rattle.fj_tree.specs.declared.record.Record.{Record}
use Rattle.fj_tree.specs.Records.{with_place}

-- the record, gone if it is open
abbrev pub if_open_gone : Record → Record
if_open_gone r = if is_open r.place then with_place Gone r else r
