pub mod SayLaws
pub mod EventLaws
pub mod LayLaws
pub mod FormLaws
pub mod GatherLaws
