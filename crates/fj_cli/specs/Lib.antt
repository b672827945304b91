pub use Rattle.fj_replay.specs.Cuts
pub use Rattle.fj_replay.specs.Scripts
pub use Rattle.fj_replay.specs.Faults
pub use Rattle.fj_arguments.specs.Options
pub use Rattle.fj_arguments.specs.Given
pub use Rattle.fj_arguments.specs.Commands
-- what the commands that run a job write
pub mod Answers
-- the meaning of exit statuses
pub mod Statuses
-- why the exit status is 5, or 2
pub mod Failures
