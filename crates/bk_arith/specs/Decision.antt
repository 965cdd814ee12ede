-- Which certificates prove a goal from hypotheses by linear arithmetic, and what is wrong with the others.
use Rattle.std.specs.Prelude.{ℕ, Bool, if◌then◌else◌, List, [], ◌∷◌, ◌++◌, length, map, Option, Some, None, unwrap_or, is_none}
use Rattle.std.specs.List.{list_any, flat_map, position_from}
use Rattle.std.specs.Option.{option_or, option_map, some_prefix}
use Rattle.bk_form.specs.Formula.{Formula}
use Rattle.bk_lin.specs.declared.fact.Line.{Line}
use Rattle.bk_lin.specs.Inequality.{Inequality}
use Rattle.bk_lin.specs.Answer.{certificate_fault}
use Rattle.bk_arith.specs.declared.error.ArithFault.{ArithFault}
use Rattle.bk_arith.specs.declared.error.ArithFault.TheVariants.{NotLinear, TooWide, Cert}
use Rattle.bk_arith.specs.Comparison.{terms_of_hypothesis, terms_of_goal}
use Rattle.bk_arith.specs.Reading.{atoms_of, reading}

-- the facts of each formula: of the hypotheses in order, then of the negated goal
abbrev pub statements : List Formula → Formula → List (Option (List Formula))
statements hyps goal = map terms_of_hypothesis hyps ++ terms_of_goal goal ∷ []

-- the number, from 1 with the goal last, of the first formula that is no comparison
abbrev pub first_unread : List Formula → Formula → Option ℕ
first_unread hyps goal = position_from is_none 1 (statements hyps goal)

-- the facts of all formulas in order
abbrev pub terms_of : List Formula → Formula → List Formula
terms_of hyps goal = flat_map (λ s. unwrap_or s []) (statements hyps goal)

-- the facts as linear forms over all their atoms
abbrev pub readings : List Formula → List (Option Inequality)
readings terms = map (reading (atoms_of terms)) terms

-- what is wrong with the facts alone, if anything is: the first formula that is no comparison, else that a fact is not read within
-- 128 bits
abbrev pub facts_fault : List Formula → Formula → Option ArithFault
facts_fault hyps goal =
    option_or (option_map NotLinear (first_unread hyps goal))
    (if list_any is_none (readings (terms_of hyps goal)) then Some TooWide else None)

-- what is wrong with facts and a certificate, if anything is: that a fact is not read within 128 bits, else the certificate's
-- fault over the facts' linear forms
abbrev pub fault_of_terms : List Formula → List Line → Option ArithFault
fault_of_terms terms cert =
    if list_any is_none (readings terms) then Some TooWide
    else option_map Cert (certificate_fault (length (atoms_of terms)) (some_prefix (readings terms)) cert)

-- what is wrong, if anything is: the first formula that is no comparison, else what is wrong with the facts and the certificate
abbrev pub linear_fault : List Formula → Formula → List Line → Option ArithFault
linear_fault hyps goal cert =
    option_or (option_map NotLinear (first_unread hyps goal)) (fault_of_terms (terms_of hyps goal) cert)

-- whether the certificate shows that the hypotheses and the negated goal contradict each other
abbrev pub is_accepted : List Formula → Formula → List Line → Bool
is_accepted hyps goal cert = is_none (linear_fault hyps goal cert)
