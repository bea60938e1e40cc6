pub mod CallLaws
pub mod SessionLaws
pub mod CutLaws
