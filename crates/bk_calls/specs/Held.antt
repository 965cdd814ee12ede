-- What stands for an argument while a line is read.
use Rattle.bk_calls.specs.CallLine as written
use Rattle.bk_calls.specs.declared.argument.Argument.{Argument}
use Rattle.bk_calls.specs.declared.argument.Argument.TheVariants.{Number, Truth, Element}

-- the argument as it is written, for the one that the code holds, which borrows its name
abbrev pub held : Argument → written.Argument
held (Number n) = written.Number n
held (Truth b) = written.Truth b
held (Element name) = written.Element name.now
