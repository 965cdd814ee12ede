-- What can be wrong with what is written, each with the byte where it stands, and the numbers under which faults are told.
use Rattle.std.specs.Prelude.{ℕ}
use Rattle.bk_raw.specs.declared.fault.FaultKind.{FaultKind}
use Rattle.bk_raw.specs.declared.fault.FaultKind.TheVariants.{NotUtf8, NoToken, NoTree, WrongLine, WrongChain, TwiceNamed, UnknownName}
use Rattle.bk_raw.specs.declared.fault.FaultKind.TheVariants.{NoType, NotPredicate, WrongOperation, NotB0, WrongWrite, WrongValue}

-- what is wrong, and the byte where it stands
abbrev pub Fault : Type 0
Fault = FaultKind × ℕ

-- a name that stands twice, at the second
abbrev pub twice_named : ℕ → Fault
twice_named at = (TwiceNamed, at)

-- a name that is not in scope
abbrev pub unknown_name : ℕ → Fault
unknown_name at = (UnknownName, at)

-- a formula or a name without a type
abbrev pub without_type : ℕ → Fault
without_type at = (NoType, at)

-- an expression where a predicate has to stand, or the reverse, or a `<<:` within a side of another one
abbrev pub not_predicate : ℕ → Fault
not_predicate at = (NotPredicate, at)

-- a header that differs, a missing initialisation, a substitution where it may not stand
abbrev pub wrong_operation : ℕ → Fault
wrong_operation at = (WrongOperation, at)

-- something in an implementation that is not B0
abbrev pub not_b0 : ℕ → Fault
not_b0 at = (NotB0, at)

-- a write to what may not be written there, a name written twice or on both sides of `||`, lists of different lengths
abbrev pub wrong_write : ℕ → Fault
wrong_write at = (WrongWrite, at)

-- a constant without a value, with two, or with one that it may not have, a value for what is no constant, or a set without a size
abbrev pub wrong_value : ℕ → Fault
wrong_value at = (WrongValue, at)

-- the number under which it is told
abbrev pub number_of_fault : FaultKind → ℕ
number_of_fault NotUtf8 = 1
number_of_fault NoToken = 2
number_of_fault NoTree = 3
number_of_fault WrongLine = 4
number_of_fault WrongChain = 5
number_of_fault TwiceNamed = 6
number_of_fault UnknownName = 7
number_of_fault NoType = 8
number_of_fault NotPredicate = 9
number_of_fault WrongOperation = 10
number_of_fault NotB0 = 11
number_of_fault WrongWrite = 12
number_of_fault WrongValue = 14

-- what is told of a fault: its number and its place
abbrev pub told_as : Fault → ℕ × ℕ
told_as f = (number_of_fault f.0, f.1)
