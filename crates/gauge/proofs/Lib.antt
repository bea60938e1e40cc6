-- The laws that the proofs cite. Assumes nothing.
pub mod FieldLaws
