-- what the record of a task tells of the rules of events
mod Told
-- in whose hand a completion action is
mod Held
-- a scan that begins at a task's queue decides whether any scan chooses it
mod AnyScan
-- when a task may become normal, by what is known of it
mod Normal
-- what a checker keeps beside its ledger, after each event
mod Remembering
