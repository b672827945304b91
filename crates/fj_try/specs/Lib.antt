-- why a job that may fail has no value
pub mod Faults
