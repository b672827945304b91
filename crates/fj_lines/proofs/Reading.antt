-- Lines and what they say.

-- the words of a line
pub mod WordLaws
-- numbers and their texts
pub mod NumberLaws
-- one part of a line, and the rest
pub mod PartLaws
-- words that are numbers
pub mod FormLaws
-- names
pub mod NameLaws
-- what stands where a task stands
pub mod TaskLaws
-- completers and submitted tasks
pub mod KindLaws
-- endings
pub mod EndingLaws
-- a line that is read is written so
pub mod LineFound
-- a line that is written is read so
pub mod LineAgain
-- how long a line is
pub mod LineLaws
-- the line of a step, both ways
pub mod StepLaws
-- the line in which tasks have names, both ways
pub mod NamedLaws
-- lines without a line feed
pub mod FeedLaws
-- the line of a heading, both ways
pub mod HeadLaws
