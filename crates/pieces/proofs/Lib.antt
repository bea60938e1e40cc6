pub mod PieceLaws
pub mod StepLaws
pub mod LineLaws
