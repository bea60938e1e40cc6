pub mod Begun
pub mod Opening
pub mod Pages
pub mod Payloads
