-- What records say of the path over the parents.

-- the path from a record is the path from its task
pub mod WaysTold
-- how far a code is relayed
pub mod RelaysTold
-- an arrival at a completer whose body has just ended
pub mod EndedArrivals
-- where a climb ends, once the body has ended
pub mod ClimbsTold
