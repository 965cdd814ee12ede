-- Of several faults, the one that is told.
use Rattle.std.specs.Prelude.{◌≡◌, ℕ, Bool, false, cond, ◌&&◌, ◌||◌, nat_eq, nat_lt, List, [], ◌∷◌, ◌⊎◌, Option, None, Some}
use Rattle.bk_raw.specs.declared.fault.FaultKind.{FaultKind}
use Rattle.bk_raw.specs.declared.fault.FaultKind.TheVariants.{NotUtf8, NoToken, NoTree, WrongLine, WrongChain, TwiceNamed, UnknownName}
use Rattle.bk_raw.specs.declared.fault.FaultKind.TheVariants.{NoType, NotPredicate, WrongOperation, NotB0, WrongWrite, WrongValue}
use Rattle.bk_raw.specs.Errors.Faults.{Fault}

-- the order in which faults are asked: of files, of names, of formulas, of operations and writes, of values, and what is not B0 last
abbrev pub rank : FaultKind → ℕ
rank NotUtf8 = 0
rank NoToken = 1
rank NoTree = 2
rank WrongLine = 3
rank WrongChain = 4
rank TwiceNamed = 5
rank UnknownName = 6
rank NotPredicate = 7
rank NoType = 8
rank WrongOperation = 9
rank WrongWrite = 10
rank WrongValue = 11
rank NotB0 = 12

-- asked earlier, or of one kind and at an earlier place
abbrev pub is_before : Fault → Fault → Bool
is_before f g = nat_lt (rank f.0) (rank g.0) || (nat_eq (rank f.0) (rank g.0) && nat_lt f.1 g.1)

-- the earlier of both; the first where neither is before the other
abbrev pub first_of : Fault → Option Fault → Fault
first_of f None = f
first_of f (Some g) = cond (is_before g f) g f

-- of faults, the one that is told: the one that is asked first, and of one kind the least place
abbrev pub blame : List Fault → Option Fault
blame [] = None
blame (f ∷ fs) = Some (first_of f (blame fs))

-- it is one of them
abbrev pub IsOneOf : Fault → List Fault → Type 0
IsOneOf f [] = ⊥
IsOneOf f (g ∷ gs) = (f ≡ g) ⊎ IsOneOf f gs

-- none of them is before it
abbrev pub NoneIsBefore : Fault → List Fault → Type 0
NoneIsBefore f [] = Unit {0}
NoneIsBefore f (g ∷ gs) = (is_before g f ≡ false) × NoneIsBefore f gs

-- there is no fault, or the one that is told is one of them and none is before it
abbrev pub IsBlameOf : Option Fault → List Fault → Type 0
IsBlameOf None fs = fs ≡ []
IsBlameOf (Some f) fs = IsOneOf f fs × NoneIsBefore f fs

-- the earlier of two, the first where neither is before the other
abbrev pub earlier : Option Fault → Option Fault → Option Fault
earlier None g = g
earlier (Some f) g = Some (first_of f g)
