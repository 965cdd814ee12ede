-- What is written, as trees: terms, substitutions, components, proof files, and the types and numbers of printed formulas.
pub mod Numbers
pub mod WrittenType
pub mod Operators
pub mod RawTree
pub mod SubTree
pub mod ComponentTree
pub mod ScriptTree
pub mod FreeNames
pub mod Additions
