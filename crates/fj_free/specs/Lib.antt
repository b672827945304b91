-- the result of a job, or why it has none
pub mod Results
