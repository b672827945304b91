use Rattle.fj_lines.proofs.Reading.NameLaws.{name_len, name_utf8}
use Rattle.fj_lines.proofs.name.Name.as_str.Goals as goal

pub unreachable-requires : goal.unreachable-requires
unreachable-requires c = c.in_default.ensures.cases.0 (rw c.as_bytes.ensures.bytes (name_utf8 _ c.as_bytes.ensures.name))

pub returns-clause-short : goal.returns-clause-short
returns-clause-short c = rw (c.in-Ok.ensures.cases.0, c.as_bytes.ensures.bytes) (name_len _ c.as_bytes.ensures.name)
