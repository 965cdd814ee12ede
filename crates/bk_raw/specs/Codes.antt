-- What the checker asks of the program's types: codes, views, and that walks through them end.
pub mod WrittenTypeView
pub mod WrittenTypeFalls
pub mod OperatorCodes
pub mod RawCodes
pub mod RawView
pub mod RawFalls
pub mod SubCodes
pub mod SubView
pub mod SubFalls
pub mod ComponentCodes
pub mod ComponentView
pub mod ScriptCodes
pub mod ScriptView
