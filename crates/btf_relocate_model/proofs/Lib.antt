mod Patches
mod Existence
mod Exchanges
mod OwnPaths
mod AppendedComparison
mod Appended
mod OwnSubjects
mod OwnTable
mod PlainExample
mod OwnSection
pub mod Modules
pub mod Reports
