-- how a check ended
pub mod Checked
-- how a script ended, once what was written of it was flushed
pub mod ScriptEnds
-- how a trace ended
pub mod TraceEnds
-- which calls failed
pub mod Failed
