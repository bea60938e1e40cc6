pub mod EntryLaws
pub mod EndingLaws
