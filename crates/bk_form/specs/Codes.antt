-- What the checker asks of the program's types: codes, views, and that walks through them end.
pub mod OperatorCodes
pub mod FormulaCodes
pub mod TypeView
pub mod TypeFalls
pub mod FormView
pub mod FormFalls
pub mod TableCodes
pub mod PoolCodes
