pub mod Results
pub mod Table
pub mod SymbolTable
pub mod Whole
pub mod Writing
