-- the result in an outcome, and why a run has none
pub mod Results
