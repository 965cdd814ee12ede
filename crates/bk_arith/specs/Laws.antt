-- Laws of linear arithmetic on formulas, as statements.
use Rattle.std.specs.Prelude.{◌≡◌, ◌↔◌, ◌⊎◌, ℕ, ℤ, ◌<◌, ◌+ℤ◌, true, List, [], ◌∷◌, Some, length, slice_index_or}
use Rattle.std.specs.Option.{option_or, option_map, some_prefix}
use Rattle.bk_val.specs.Value.{int}
use Rattle.bk_form.specs.Table.{Table, IsWellFormed}
use Rattle.bk_form.specs.Formula.{Formula, bfalse, binary}
use Rattle.bk_form.specs.Search.{Finder}
use Rattle.bk_form.specs.Environment.{Environment}
use Rattle.bk_form.specs.Operators.{number_in}
use Rattle.bk_form.specs.Role.{role, predicate}
use Rattle.bk_form.specs.Meaning.{value, truth}
use Rattle.bk_form.specs.declared.operator.BinOp.TheVariants.{Eq}
use Rattle.bk_bind.specs.Valid.{IsValid}
use Rattle.bk_lin.specs.declared.fact.Line.{Line}
use Rattle.bk_lin.specs.Inequality.{Inequality, dot}
use Rattle.bk_lin.specs.Answer.{certificate_fault}
use Rattle.bk_arith.specs.ClosedSum.{closed_sum}
use Rattle.bk_arith.specs.Same.{is_same}
use Rattle.bk_arith.specs.Reading.{atoms_of, reading}
use Rattle.bk_arith.specs.Decision.{terms_of, readings, facts_fault, linear_fault, is_accepted}
use Rattle.bk_arith.specs.declared.error.ArithFault.TheVariants.{Cert}
use Rattle.bk_arith.specs.Polynomials.{equal_polynomials}
use Rattle.bk_arith.specs.Cases.{interval_cases}

-- a closed sum is that number in every environment
abbrev pub ClosedSumsAreNumbers : Type 0
ClosedSumsAreNumbers = (find : Finder) (e : Environment) (f : Formula) (z : ℤ) → closed_sum f ≡ Some z → value find e f ≡ int z

-- two formulas are told to be the same exactly where they are
abbrev pub SameIsEqual : Type 0
SameIsEqual = (a b : Formula) → (is_same a b ≡ true) ↔ (a ≡ b)

-- the number of each atom of a list
abbrev pub atom_values : Finder → Environment → List Formula → ℕ → ℤ
atom_values find e atoms k = number_in (value find e (slice_index_or atoms k bfalse))

-- over the atoms of some terms, the linear form of each of them has that term's value
abbrev pub ReadingMeans : Type 0
ReadingMeans = (find : Finder) (e : Environment) (terms : List Formula) (k : ℕ) (p : Inequality) →
    k < length terms → reading (atoms_of terms) (slice_index_or terms k bfalse) ≡ Some p →
    dot p.coefs (atom_values find e (atoms_of terms)) +ℤ p.constant ≡ number_in (value find e (slice_index_or terms k bfalse))

-- what is wrong with the facts alone is wrong with each certificate; where nothing is, the certificate's own fault over the facts is
abbrev pub FactsDecide : Type 0
FactsDecide = (hyps : List Formula) (goal : Formula) (cert : List Line) → linear_fault hyps goal cert ≡
    option_or (facts_fault hyps goal)
    (option_map Cert (certificate_fault (length (atoms_of (terms_of hyps goal))) (some_prefix (readings (terms_of hyps goal))) cert))

-- where the certificate is accepted, the goal is true wherever the hypotheses are
abbrev pub AcceptedIsValid : Type 0
AcceptedIsValid = (table : Table) (hyps : List Formula) (goal : Formula) (cert : List Line) →
    is_accepted hyps goal cert ≡ true → IsValid table hyps goal

-- an equation that types and whose sides are told to be equal polynomials is true, under no hypothesis
abbrev pub PolynomialIsValid : Type 0
PolynomialIsValid = (table : Table) → IsWellFormed table → (a b : Formula) →
    role table [] (binary Eq a b) ≡ predicate → equal_polynomials a b ≡ true → IsValid table [] (binary Eq a b)

-- one of them is true
abbrev pub OneHolds : Finder → Environment → List Formula → Type 0
OneHolds find e [] = ⊥
OneHolds find e (p ∷ ps) = (truth find e p ≡ true) ⊎ OneHolds find e ps

-- where a term is in an interval of literals, it is one of the numbers that are listed
abbrev pub CasesAreAll : Type 0
CasesAreAll = (find : Finder) (e : Environment) (hyp : Formula) (cases : List Formula) →
    interval_cases hyp ≡ Some cases → truth find e hyp ≡ true → OneHolds find e cases
