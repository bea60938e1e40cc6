pub mod Words
pub mod Forms
pub mod Laying
pub mod Saying
pub mod Events
pub mod Gathering
