-- a hand that holds something asks
pub mod Asking
-- the core after a call continues the one before it
pub mod GoesOn
-- what each call of a core leaves of its lanes
pub mod Lanes
-- what a look at the lanes leaves
pub mod Looking
-- an action leaves a hand with its worker
pub mod Workers
-- what a call leaves of what the workers hold
pub mod Keeping
-- that it may go to another thread
pub mod Crossing
-- an action answers so only where the store is stuck
pub mod Stuck
