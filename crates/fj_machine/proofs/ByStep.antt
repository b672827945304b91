-- What each step comes to, by the words of `src/steps/`.

-- Submit, Fork, Trigger
pub mod AcceptSteps
-- what the next submission would be refused with
pub mod SubmitRefusals
-- Poll, Help, Join
pub mod TakeSteps
-- End
pub mod EndSteps
-- an end by `pass`
pub mod PassSteps
-- completers are passed, one after another
pub mod Passing
-- HookDone
pub mod HookSteps
-- Add, QuietRoot
pub mod CompleterSteps
-- Fault, Cancel
pub mod SettleSteps
-- a code is relayed, from one task to the next
pub mod Relaying
-- Shutdown, Stop
pub mod ShutSteps
-- IsQuiescent, State
pub mod QuerySteps
-- Release
pub mod ReleaseSteps
