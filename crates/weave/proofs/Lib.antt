pub mod SumLaws
pub mod TableLaws
pub mod CodeLaws
pub mod ArgsLaws
