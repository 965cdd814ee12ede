-- How a term is read as a linear form: a coefficient for each atom, and a constant. A term is read through `+`, `-`, unary
-- minus and products one side of which is a closed sum; every other subterm is an atom.
use Rattle.std.specs.Prelude.{ℤ, pos, negsuc, if◌then◌else◌, List, [], ◌∷◌, ◌++◌, length, map, replicate, Option, Some, None}
use Rattle.std.specs.List.{list_any, fold, flat_map}
use Rattle.bk_form.specs.Formula.{Formula, literal, unary, binary}
use Rattle.bk_form.specs.declared.operator.UnOp.{UnOp}
use Rattle.bk_form.specs.declared.operator.UnOp.TheVariants.{Neg}
use Rattle.bk_form.specs.declared.operator.BinOp.{BinOp}
use Rattle.bk_form.specs.declared.operator.BinOp.TheVariants.{Add, Sub, Mul}
use Rattle.bk_lin.specs.Inequality.{Inequality, plus, times, is_narrow}
use Rattle.bk_arith.specs.ClosedSum.{closed_sum}
use Rattle.bk_arith.specs.Same.{is_same}

-- ---- the atoms
-- of a product: its other side's, where one side has a number
abbrev pub product_atoms : Option ℤ → Option ℤ → List Formula → List Formula → Formula → List Formula
product_atoms (Some m) n xs ys whole = ys
product_atoms None (Some n) xs ys whole = xs
product_atoms None None xs ys whole = whole ∷ []

-- of an operator on one term: the atoms of -a are those of a, and every other such term is an atom
abbrev pub unary_atoms : UnOp → List Formula → Formula → List Formula
unary_atoms Neg xs whole = xs
unary_atoms _ xs whole = whole ∷ []

-- of an operator on two terms: both sides' for + and -, the product's for *, and every other such term is an atom
abbrev pub binary_atoms : BinOp → Option ℤ → Option ℤ → List Formula → List Formula → Formula → List Formula
binary_atoms Add m n xs ys whole = xs ++ ys
binary_atoms Sub m n xs ys whole = xs ++ ys
binary_atoms Mul m n xs ys whole = product_atoms m n xs ys whole
binary_atoms _ m n xs ys whole = whole ∷ []

-- the atoms of a term in order, each as often as it occurs
abbrev pub occurrences : Formula → List Formula
occurrences (literal z) = []
occurrences (unary o a) = unary_atoms o (occurrences a) (unary o a)
occurrences (binary o a b) = binary_atoms o (closed_sum a) (closed_sum b) (occurrences a) (occurrences b) (binary o a b)
occurrences a = a ∷ []

-- the list with the formula at its end, unless it is there
abbrev pub with_atom : List Formula → Formula → List Formula
with_atom found a = if list_any (is_same a) found then found else found ++ a ∷ []

-- the atoms of terms, each once, in order of first occurrence
abbrev pub atoms_of : List Formula → List Formula
atoms_of terms = fold with_atom [] (flat_map occurrences terms)

-- ---- linear forms over these atoms, each given as the inequality that it is at least 0
-- a number
abbrev pub number_over : List Formula → ℤ → Inequality
number_over atoms z = record { coefs = replicate (length atoms) (pos 0); constant = z }

-- one times an atom
abbrev pub atom_over : List Formula → Formula → Inequality
atom_over atoms a = record { coefs = map (λ b. if is_same a b then pos 1 else pos 0) atoms; constant = pos 0 }

-- the linear form, where each of its numbers lies within 128 bits
abbrev pub if_narrow : Inequality → Option Inequality
if_narrow p = if is_narrow p then Some p else None

-- p + q, where both could be read and the sum lies within 128 bits
abbrev pub sum_read : Option Inequality → Option Inequality → Option Inequality
sum_read (Some p) (Some q) = if_narrow (plus p q)
sum_read _ _ = None

-- p - q, where both could be read and the difference lies within 128 bits
abbrev pub difference_read : Option Inequality → Option Inequality → Option Inequality
difference_read (Some p) (Some q) = if_narrow (plus p (times (negsuc 0) q))
difference_read _ _ = None

-- m times p, where p could be read and the multiple lies within 128 bits
abbrev pub multiple_read : ℤ → Option Inequality → Option Inequality
multiple_read m (Some p) = if_narrow (times m p)
multiple_read m None = None

-- a product one side of which has a number is a multiple of the other side
abbrev pub product_read : Option ℤ → Option ℤ → Option Inequality → Option Inequality → Inequality → Option Inequality
product_read (Some m) n p q whole = multiple_read m q
product_read None (Some n) p q whole = multiple_read n p
product_read None None p q whole = Some whole

-- -a is a taken -1 times; every other operator on one term makes an atom
abbrev pub unary_read : UnOp → Option Inequality → Inequality → Option Inequality
unary_read Neg p whole = multiple_read (negsuc 0) p
unary_read _ p whole = Some whole

-- a + b, a - b and a * b by the linear forms of their sides; every other operator on two terms makes an atom
abbrev pub binary_read : BinOp → Option ℤ → Option ℤ → Option Inequality → Option Inequality → Inequality → Option Inequality
binary_read Add m n p q whole = sum_read p q
binary_read Sub m n p q whole = difference_read p q
binary_read Mul m n p q whole = product_read m n p q whole
binary_read _ m n p q whole = Some whole

-- the linear form of a term, from the leaves up; none where a coefficient or the constant of a part, or of the whole, leaves
-- 128 bits
abbrev pub reading : List Formula → Formula → Option Inequality
reading atoms (literal z) = if_narrow (number_over atoms z)
reading atoms (unary o a) = unary_read o (reading atoms a) (atom_over atoms (unary o a))
reading atoms (binary o a b) =
    binary_read o (closed_sum a) (closed_sum b) (reading atoms a) (reading atoms b) (atom_over atoms (binary o a b))
reading atoms a = Some (atom_over atoms a)
