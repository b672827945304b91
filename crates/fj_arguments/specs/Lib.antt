-- how an option is declared
pub mod Options
-- the values of a command's options in the arguments
pub mod Given
-- the command line, and what its arguments ask for
pub mod Commands
