-- The reply that a `Reply` displays.
use Rattle.fj_rules.specs.declared.said.Said.{Said}
use Rattle.fj_lines.specs.declared.reply.Reply.{Reply}
use Rattle.fj_rules.specs.Bounds.{Bounds}

abbrev pub shown_said : Reply → Said
shown_said reply = reply.said

-- the limits that determine a queue's number
abbrev pub shown_limits : Reply → Bounds
shown_limits reply = reply.limits.now
