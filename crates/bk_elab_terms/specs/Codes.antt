-- What the checker asks of the program's types: codes, views, and that walks through them end.
pub mod ExpressionView
pub mod ExpressionFalls
