-- The cases of a term in an interval of literals.
use Rattle.std.specs.Prelude.{ℕ, zero, suc, ℤ, pos, ◌+ℤ◌, ◌-ℤ◌, int_le, cond, List, [], ◌∷◌, map, Option, Some, None}
use Rattle.bk_form.specs.Formula.{Formula, literal, binary}
use Rattle.bk_form.specs.Operators.{count_of}
use Rattle.bk_form.specs.declared.operator.BinOp.TheVariants.{Eq, In, Range}

-- so many numbers from z on
abbrev pub literals_from : ℤ → ℕ → List Formula
literals_from z zero = []
literals_from z (suc n) = literal z ∷ literals_from (z +ℤ pos 1) n

-- that the term is equal to each of them
abbrev pub equations : Formula → List Formula → List Formula
equations e fs = map (binary Eq e) fs

-- the numbers of an interval of literals from a to b, with b - a at most 63
abbrev pub listed_range : Formula → Option (List Formula)
listed_range (binary Range (literal a) (literal b)) =
    cond (int_le (b -ℤ a) (pos 63)) (Some (literals_from a (count_of ((b +ℤ pos 1) -ℤ a)))) None
listed_range _ = None

-- the equations of E with each number, where such a list of numbers is there
abbrev pub equations_with : Formula → Option (List Formula) → Option (List Formula)
equations_with e None = None
equations_with e (Some fs) = Some (equations e fs)

-- E : a .. b : the equations E = a to E = b
abbrev pub interval_cases : Formula → Option (List Formula)
interval_cases (binary In e r) = equations_with e (listed_range r)
interval_cases _ = None
