-- What holds of each run.

-- the headline
pub mod Headlines
-- what a seal hands out, and what stays for later
pub mod Sealing
-- the parts that were handed out are the beginning of the history
pub mod Parting
