pub mod CmpLaws
pub mod Number
pub mod Sets
pub mod Value
pub mod Codes
pub mod ValueOf
pub mod ValueType
pub mod Weights
