pub mod Codes
pub mod Findings
pub mod Sums
pub mod Table
pub mod States
pub mod Moves
pub mod Args
pub mod Checks
