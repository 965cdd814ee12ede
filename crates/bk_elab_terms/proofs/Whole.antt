-- A term by itself: its formula, or its first fault.
use Rattle.std.proofs.Common.{◌≡◌, ◌++◌, sym, ◌∙◌, ap, subst}
use Rattle.std.specs.Prelude.{Option, None, Some}
use Rattle.bk_form.specs.Formula.{Formula}
use Rattle.bk_form.specs.Table.{Table}
use Rattle.bk_raw.specs.Trees.RawTree.{RawTree}
use Rattle.bk_raw.specs.Meaning.Outcome.{Outcome}
use Rattle.bk_raw.specs.Meaning.TermReading.{place_of}
use Rattle.bk_raw.specs.Meaning.ScopeReading.{ScopeNames, ask_formula, reading_in, formula_in}
use Rattle.bk_raw.proofs.ScopeRight.{formula-speaks}
use Rattle.bk_raw.specs.Errors.Blame.{blame, earlier}
use Rattle.bk_elab_terms.specs.declared.blame.Fault.{Fault as ToldFault}
use Rattle.bk_elab_terms.specs.declared.outcome.Step.{Step}
use Rattle.bk_elab_terms.specs.Shown.{shown_outcome, told, IsRead, IsAsked}
use Rattle.bk_raw.proofs.Blamed.{blame-joins, blame-none}
use Rattle.bk_raw.specs.Errors.Faults.{Fault}

-- what a term by itself is asked, of what was read
asked-of : (table : Table) (scope : ScopeNames) (t : RawTree) (read : Step) (answer : Option Formula) (fault : Option ToldFault) → IsRead read (reading_in table scope t) → IsAsked answer fault (ask_formula (place_of t) (shown_outcome read.outcome)) → IsAsked answer fault (ask_formula (place_of t) (reading_in table scope t).outcome)
asked-of table scope t read answer fault h g = subst (λ (o : Outcome). IsAsked answer fault (ask_formula (place_of t) o)) h.outcome g

pub whole-answer : (table : Table) (scope : ScopeNames) (t : RawTree) (read : Step) (answer : Option Formula) (fault : Option ToldFault) → IsRead read (reading_in table scope t) → IsAsked answer fault (ask_formula (place_of t) (shown_outcome read.outcome)) → (formula_in table scope t).answer ≡ answer
whole-answer table scope t read answer fault h g = sym (asked-of table scope t read answer fault h g).same

pub whole-fault : (table : Table) (scope : ScopeNames) (t : RawTree) (read : Step) (answer : Option Formula) (fault first : Option ToldFault) → IsRead read (reading_in table scope t) → IsAsked answer fault (ask_formula (place_of t) (shown_outcome read.outcome)) → told first ≡ earlier (told read.fault) (told fault) → blame (formula_in table scope t).faults ≡ told first
whole-fault table scope t read answer fault first h g e =
    let asked = asked-of table scope t read answer fault h g in
    blame-joins (reading_in table scope t).faults (ask_formula (place_of t) (reading_in table scope t).outcome).faults
    ∙ ((λ i. earlier (sym h.fault i) (sym asked.first i)) ∙ sym e)

-- one of both is there
pub whole-one : (table : Table) (scope : ScopeNames) (t : RawTree) (read : Step) (answer : Option Formula) (fault first : Option ToldFault) → IsRead read (reading_in table scope t) → IsAsked answer fault (ask_formula (place_of t) (shown_outcome read.outcome)) → told first ≡ earlier (told read.fault) (told fault) → first ≡ None → answer ≡ None → ⊥
whole-one table scope t read answer fault first h g e k l =
    let none : blame (formula_in table scope t).faults ≡ None = whole-fault table scope t read answer fault first h g e ∙ ap told k in
    let there = formula-speaks table scope t (blame-none (formula_in table scope t).faults none) in
    let same : None ≡ Some there.0 = (sym l ∙ sym (whole-answer table scope t read answer fault h g)) ∙ there.1 in
    cc

pub ruleset whole = (whole-answer, whole-fault)
