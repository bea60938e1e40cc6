pub mod CrossingLaws
pub mod PlaceLaws
pub mod ThereAndBack
