-- Where each task is, and how many are kept.

-- what stands on a stack was taken from a queue
pub mod StacksTaken
-- each accepted task is in exactly one place
pub mod OnePlace
-- the place of a task, from the list in which it stands
pub mod PlacesKept
-- what one more event leaves of places
pub mod PlaceLaws
-- which tasks are open and gone
pub mod OpenList
-- which tasks one more event makes gone
pub mod GoneList
-- a task that is gone stays gone
pub mod GoneTasks
-- what is queued, held or open is kept
pub mod KeptPlaces
-- no more tasks are kept than the limit
pub mod FewLive
