-- What a body hears and asks, and the answers to actions.
pub mod Turns
-- A store, and what holds of it.
pub mod Stores
-- A hand that fits.
pub mod Fitting
-- Tasks are released.
pub mod Releases
-- Tasks are accepted.
pub mod Accepting
-- The worker takes its choice.
pub mod Choosing
-- Results and outcomes.
pub mod Results
-- Bodies end.
pub mod Endings
-- Hooks end.
pub mod HookEndings
-- Steps that end no body and hand none out.
pub mod Asking
-- What a body or a hook asks, and what is answered.
pub mod Acting
-- The history is handed out in parts.
pub mod Sealing
