-- What is known of the history of each ledger.

-- each event was allowed, and at most one action is in each hand
pub mod Lawfuls
-- the room that is kept is enough for all tasks
pub mod Rooms
-- when nothing is queued, held or in a hand
pub mod Quiet
