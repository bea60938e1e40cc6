pub mod BufferLaws
pub mod KeptLaws
pub mod PayloadLaws
pub mod NotedLaws
