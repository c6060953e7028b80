pub mod Answers
pub mod Variants
pub use Rattle.btf_model.specs.Value
pub use Rattle.btf_model.specs.RelocationWords
pub use Rattle.btf_model.specs.Refusal
pub use Rattle.btf_model.specs.Text
pub use Rattle.btf_plain.specs.Error
