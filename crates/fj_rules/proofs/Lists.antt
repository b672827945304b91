-- Lists of numbers, and the owners of queues.

-- which numbers a list has, and how often
pub mod Members
-- how many tasks stand in the lists of a history
pub mod Counting
-- lists whose numbers rise
pub mod Rising
-- the owners of queues, and their numbers
pub mod Owners
-- a scan that begins again behind the last place
pub mod Scanning
-- what is not there has nothing
pub mod Absent
