-- What any step comes to.

-- it is refused, does not fit, or is made
pub mod Stepping
-- what a check and a step come to
pub mod Results
-- steps of one event, or of none
pub mod OneEvent
-- whether events fit
pub mod RoomTests
-- why a step is refused
pub mod Refusing
-- what a refused step leaves
pub mod RefusedSteps
-- what the record says that was found
pub mod Found
