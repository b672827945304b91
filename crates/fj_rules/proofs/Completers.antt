-- Arrivals at completers, and the paths over their parents.

-- a parent is a completer with a smaller number
pub mod Parents
-- the parent of a kept task is kept
pub mod KeptParents
-- a path is what is passed of it, and the rest
pub mod Ways
-- what an arrival does is changed by few events
pub mod Arrivals
-- what an arrival does, by the place of the completer
pub mod ArrivalPlaces
-- at which completers arrivals were counted, fired or passed
pub mod Climbed
-- completion actions, over every lawful history
pub mod Firings
-- a completion action is in the hand of a worker that is there
pub mod Hands
-- lists of hooks in hands: one more at the end, and one taken out
pub mod HookLists
-- who is fired by `complete`
pub mod OwnFirings
-- nothing fires before it is accepted
pub mod Unfired
-- a number that was not accepted has nothing
pub mod Unknown
