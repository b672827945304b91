-- the test of a check holds exactly where an entry may come
pub mod Tested
-- where lines lead
pub mod Leading
-- what a check has found when it stops
pub mod Found
