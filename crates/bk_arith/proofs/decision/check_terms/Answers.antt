use Rattle.std.proofs.Common.{◌≡◌, ◌⊎◌, inl, inr, List, map, length, sym, ap, subst, ◌∙◌, Some, IfErr}
use Rattle.std.specs.Option.{option_map}
use Rattle.bk_form.specs.Formula.{Formula}
use Rattle.bk_lin.specs.Certificate.{inequalities, width_of}
use Rattle.bk_lin.specs.Answer.{certificate_fault}
use Rattle.bk_arith.specs.declared.error.ArithFault.TheVariants.{Memory, Cert}
use Rattle.bk_arith.specs.Reading.{atoms_of}
use Rattle.bk_arith.specs.Decision.{fault_of_terms}
use Rattle.bk_arith.specs.Layout.{term_of}
use Rattle.bk_arith.proofs.Faults.{wide, read, width, handed_on}
use Rattle.bk_arith.proofs.decision.check_terms.Goals as goal

pub returns-in_err-facts-clause-fault : goal.returns-in_err-facts-clause-fault
returns-in_err-facts-clause-fault c =
    let terms : List Formula = map term_of c.args.terms.now in
    let atoms : c.deref.result.now ≡ atoms_of terms = c.deref.ensures.value ∙ c.in_ok-atoms.ensures in
    handed_on c.from_residual-in_err-facts.result c.in_err-facts.field-0.0 (λ e. (e ≡ Memory) ⊎ (fault_of_terms terms c.args.cert.now ≡ Some e)) c.from_residual-in_err-facts.ensures.1
    (elim c.in_err-facts.ensures.fault [
      | inl memory ↦ inl memory
      | inr h ↦ inr (wide terms c.deref.result.now c.args.cert.now atoms h.1 ∙ ap (λ e. Some e) (sym h.0))
    ])

pub check_facts-requires-clause-width : goal.check_facts-requires-clause-width
check_facts-requires-clause-width c =
    let terms : List Formula = map term_of c.args.terms.now in
    let atoms : c.deref.result.now ≡ atoms_of terms = c.deref.ensures.value ∙ c.in_ok-atoms.ensures in
    let same : length c.deref.result.now ≡ width_of c.in_ok-facts.facts.items =
    width terms c.deref.result.now c.in_ok-facts.facts.items atoms c.in_ok-facts.ensures.all c.in_ok-facts.ensures.facts c.in_ok-facts.ensures.width in
    c.len.ensures ∙ sym c.deref.ensures.len ∙ same ∙ ap (λ fs. width_of fs) (sym c.deref-2.ensures.value)

pub returns-clause-fault : goal.returns-clause-fault
returns-clause-fault c =
    let terms : List Formula = map term_of c.args.terms.now in
    let atoms : c.deref.result.now ≡ atoms_of terms = c.deref.ensures.value ∙ c.in_ok-atoms.ensures in
    let whole : fault_of_terms terms c.args.cert.now ≡ option_map Cert (certificate_fault c.len.result (inequalities c.deref-2.result.now) c.args.cert.now) =
    read terms c.deref.result.now c.in_ok-facts.facts.items c.args.cert.now atoms c.in_ok-facts.ensures.all c.in_ok-facts.ensures.facts
    ∙ ap (λ fs. option_map Cert (certificate_fault (length c.deref.result.now) (inequalities fs) c.args.cert.now)) (sym c.deref-2.ensures.value)
    ∙ ap (λ n. option_map Cert (certificate_fault n (inequalities c.deref-2.result.now) c.args.cert.now)) (c.deref.ensures.len ∙ sym c.len.ensures) in
    subst (λ o. IfErr c.check_facts.result (λ e. (e ≡ Memory) ⊎ (o ≡ Some e))) (sym whole) c.check_facts.ensures.fault
