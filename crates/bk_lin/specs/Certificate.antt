-- What a certificate derives from given inequalities, line by line.
-- Source: Chvátal's cutting planes.
use Rattle.std.specs.Prelude.{◌≡◌, ℕ, ◌+◌, ◌-◌, ◌<◌, ℤ, pos, Bool, ◌&&◌, if◌then◌else◌, List, [], ◌∷◌, ◌++◌}
use Rattle.std.specs.Prelude.{length, map, take, Option, Some, None, slice_get, slice_index_or, nat_le, int_le}
use Rattle.std.specs.List.{list_all}
use Rattle.std.specs.Option.{option_and_then}
use Rattle.bk_lin.specs.declared.fact.Fact.{Fact}
use Rattle.bk_lin.specs.declared.fact.Line.{Line}
use Rattle.bk_lin.specs.declared.fact.Line.TheVariants.{Sum, Div}
use Rattle.bk_lin.specs.declared.fact.CertFault.{CertFault}
use Rattle.bk_lin.specs.declared.fact.CertFault.TheVariants.{BadLine, Negative, TooWide}
use Rattle.bk_lin.specs.Inequality.{Inequality, zero_of, times, plus_all, partial_sums}
use Rattle.bk_lin.specs.Inequality.{is_divisible, quotient_of, is_narrow, IsContradiction}

-- what a fact says
abbrev pub inequality_of : Fact → Inequality
inequality_of f = record { coefs = f.coefs.items; constant = f.constant }

-- what each of these facts says
abbrev pub inequalities : List Fact → List Inequality
inequalities facts = map inequality_of facts

-- how many coefficients each fact has, by the first of them: 0 where there is none
abbrev pub width_of : List Fact → ℕ
width_of [] = 0
width_of (f ∷ fs) = length f.coefs.items

-- the number, from 1, of a fact that stands
abbrev pub is_number : List Inequality → ℕ → Bool
is_number standing n = nat_le 1 n && nat_le n (length standing)

-- the fact of this number, from 1
abbrev pub fact_at : List Inequality → ℕ → Inequality
fact_at standing n = slice_index_or standing (n - 1) (zero_of 0)

-- each multiple of a sum: a multiplier times the fact of a number
abbrev pub multiples_of : List Inequality → List (ℤ × ℕ) → List Inequality
multiples_of standing parts = map (λ (p : ℤ × ℕ). times p.0 (fact_at standing p.1)) parts

-- the sum of multiples, from the zero fact
abbrev pub sum_fact : ℕ → List Inequality → List (ℤ × ℕ) → Inequality
sum_fact width standing parts = plus_all (zero_of width) (multiples_of standing parts)

-- the fact that a line makes
abbrev pub line_fact : ℕ → List Inequality → Line → Inequality
line_fact width standing (Sum parts) = sum_fact width standing parts.items
line_fact width standing (Div n d) = quotient_of (fact_at standing n) d

-- each product and each partial sum, left to right, is an i128 in every entry
abbrev pub sums_fit : ℕ → List Inequality → Bool
sums_fit width products = list_all is_narrow products && list_all is_narrow (partial_sums (zero_of width) products)

-- what is wrong with a sum that is the line of a number: the numbers of facts come first, then the signs, the widths
abbrev pub sum_fault : ℕ → ℕ → List Inequality → List (ℤ × ℕ) → Option CertFault
sum_fault width number standing parts =
    if list_all (λ (p : ℤ × ℕ). is_number standing p.1) parts
    then if list_all (λ (p : ℤ × ℕ). int_le (pos 0) p.0) parts
    then if sums_fit width (multiples_of standing parts) then None else Some (TooWide number)
    else Some (Negative number)
    else Some (BadLine number)

-- what is wrong with a division: the fact's number comes first, then the divisor's sign, then that it divides each coefficient
abbrev pub quotient_fault : ℕ → List Inequality → ℕ → ℤ → Option CertFault
quotient_fault number standing n d =
    if is_number standing n
    then if int_le (pos 1) d
    then if is_divisible d (fact_at standing n) then None else Some (BadLine number)
    else Some (Negative number)
    else Some (BadLine number)

-- what is wrong with the line of a number
abbrev pub line_fault : ℕ → ℕ → List Inequality → Line → Option CertFault
line_fault width number standing (Sum parts) = sum_fault width number standing parts.items
line_fault width number standing (Div n d) = quotient_fault number standing n d

-- the given facts, followed by the fact of each line
abbrev pub facts_after : ℕ → List Inequality → List Line → List Inequality
facts_after width standing [] = standing
facts_after width standing (line ∷ lines) =
    facts_after width (standing ++ line_fact width standing line ∷ []) lines

-- what is wrong with line k + 1, over the facts that stand after the k lines before it
abbrev pub fault_at : List Fact → List Line → ℕ → Option CertFault
fault_at facts cert k =
    option_and_then
    (λ line. line_fault (width_of facts) (k + 1) (facts_after (width_of facts) (inequalities facts) (take k cert)) line)
    (slice_get cert k)

-- no line has a fault
abbrev pub IsRight : List Fact → List Line → Type 0
IsRight facts cert = (k : ℕ) → k < length cert → fault_at facts cert k ≡ None

-- line k, from 1, has this fault, and no line before it has one
pub record IsFirstFault (facts : List Fact) (cert : List Line) (k : ℕ) (fault : CertFault) : Type 0 where
  pub is_line : 0 < k
  pub before : (j : ℕ) → j + 1 < k → fault_at facts cert j ≡ None
  pub here : fault_at facts cert (k - 1) ≡ Some fault

-- there is a line, and the fact of the last one is a contradiction
abbrev pub IsClosed : List Fact → List Line → Type 0
IsClosed facts cert =
    (0 < length cert)
    × IsContradiction (fact_at (facts_after (width_of facts) (inequalities facts) cert) (length facts + length cert))
