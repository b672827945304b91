-- Lists that are kept.

-- where a worker's choice stands in the queues
pub mod Choosing
-- the completion actions in hands, after one event more
pub mod HandParts
