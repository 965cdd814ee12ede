-- What the code's own types stand for.
use Rattle.std.specs.Prelude.{◌≡◌, ℤ, negsuc, ◌+ℤ◌, ◌-ℤ◌, if◌then◌else◌, List, [], ◌∷◌, map, Option, Some, None}
use Rattle.std.specs.Borrow.{Bor}
use Rattle.std.specs.Global.{Vec}
use Rattle.std.specs.Option.{option_map}
use Rattle.bk_form.specs.Formula.{Formula, binary}
use Rattle.bk_form.specs.declared.operator.BinOp.TheVariants.{Sub}
use Rattle.bk_lin.specs.Inequality.{Inequality, plus, times}
use Rattle.bk_arith.specs.declared.comparison.Term.{Term}
use Rattle.bk_arith.specs.declared.comparison.Stated.{Stated}
use Rattle.bk_arith.specs.declared.comparison.Stated.TheVariants.{Nothing, One, Two}
use Rattle.bk_arith.specs.declared.joining.Join.{Join}
use Rattle.bk_arith.specs.declared.joining.Join.TheVariants.{Sum, Difference}
use Rattle.bk_arith.specs.declared.error.ArithFault.{ArithFault}
use Rattle.bk_arith.specs.declared.error.ArithFault.TheVariants.{TooWide, Memory}
use Rattle.bk_arith.specs.Comparison.{one_less}
use Rattle.bk_arith.specs.declared.multiplying.Monomial.{Monomial as StoredMonomial}
use Rattle.bk_arith.specs.Polynomials.{Monomial}

-- a term less another, where there is one
abbrev pub less : Formula → Option (Bor Formula) → Formula
less a None = a
less a (Some b) = binary Sub a b.now

-- the term that is at least 0
abbrev pub term_of : Term → Formula
term_of t = if t.strict then one_less (less t.upper.now t.lower) else less t.upper.now t.lower

-- what a comparison was found to state: no term, one or two, each at least 0
abbrev pub terms_in : Stated → List Formula
terms_in Nothing = []
terms_in (One t) = term_of t ∷ []
terms_in (Two t u) = term_of t ∷ term_of u ∷ []

-- one number of a linear form joined to another's
abbrev pub entry_of : Join → ℤ → ℤ → ℤ
entry_of Sum x y = x +ℤ y
entry_of Difference x y = x -ℤ y

-- entry by entry
abbrev pub entries_of : Join → List ℤ → List ℤ → List ℤ
entries_of join (x ∷ xs) (y ∷ ys) = entry_of join x y ∷ entries_of join xs ys
entries_of join _ _ = []

-- two linear forms added, or the second taken from the first
abbrev pub combined : Join → Inequality → Inequality → Inequality
combined Sum p q = plus p q
combined Difference p q = plus p (times (negsuc 0) q)

-- why a term was not read: want of memory, or that it has no linear form within 128 bits
abbrev pub IsReadFault : Option Inequality → ArithFault → Type 0
IsReadFault form Memory = Unit {0}
IsReadFault form TooWide = form ≡ None
IsReadFault form _ = ⊥

-- ---- polynomials
-- the monomial that the program holds
abbrev pub monomial_of : StoredMonomial → Monomial
monomial_of m = (m.coefficient, m.atoms.items)

-- the polynomial
abbrev pub polynomial_of : List StoredMonomial → List Monomial
polynomial_of ms = map monomial_of ms

-- the polynomial, where it holds one
abbrev pub polynomial_in : Option (Vec StoredMonomial) → Option (List Monomial)
polynomial_in o = option_map (λ v. polynomial_of v.items) o

-- the formulas, where it holds some
abbrev pub formulas_in : Option (Vec Formula) → Option (List Formula)
formulas_in o = option_map (λ v. v.items) o

-- why a polynomial was not made: want of memory, or that there is none within 128 bits
abbrev pub IsPolynomialFault : Option (List Monomial) → ArithFault → Type 0
IsPolynomialFault p Memory = Unit {0}
IsPolynomialFault p TooWide = p ≡ None
IsPolynomialFault p _ = ⊥
