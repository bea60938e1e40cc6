pub mod Hosts
pub mod Cursors
pub mod Begin
pub mod Fates
pub mod Ending
