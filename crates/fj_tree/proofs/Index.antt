-- Numbers, and where their records are.

-- the record of a number
pub mod Finds
-- where it is, and what a write of one record leaves of that
pub mod Numbers
-- records that keep their numbers keep their handles
pub mod Names
-- what one number more or fewer leaves of the list
pub mod Listing
-- what closing up leaves of it, and how many of its numbers are of kept records
pub mod Closing
-- a search by halves, and its probes
pub mod Halving
-- the list says where each record is
pub mod Indexing
