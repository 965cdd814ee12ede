use Rattle.std.proofs.Common.{◌≡◌, ◌⊎◌, map, sym, ap, subst, ◌∙◌, Some, IfErr}
use Rattle.std.specs.Option.{option_or, option_map}
use Rattle.bk_arith.specs.declared.error.ArithFault.TheVariants.{Memory, NotLinear}
use Rattle.bk_arith.specs.Decision.{terms_of, fault_of_terms, linear_fault}
use Rattle.bk_arith.specs.Layout.{term_of}
use Rattle.bk_arith.proofs.decision.linear.Goals as goal

pub returns-clause-fault : goal.returns-clause-fault
returns-clause-fault c =
    let whole : linear_fault c.args.hyps.now c.args.goal.now c.args.cert.now ≡ fault_of_terms (map term_of c.deref.result.now) c.args.cert.now =
    ap (λ o. option_or (option_map NotLinear o) (fault_of_terms (terms_of c.args.hyps.now c.args.goal.now) c.args.cert.now)) c.in_ok-terms.ensures.all
    ∙ ap (λ ts. fault_of_terms ts c.args.cert.now) (sym c.in_ok-terms.ensures.terms)
    ∙ ap (λ ts. fault_of_terms (map term_of ts) c.args.cert.now) (sym c.deref.ensures.value) in
    subst (λ o. IfErr c.check_terms.result (λ e. (e ≡ Memory) ⊎ (o ≡ Some e))) (sym whole) c.check_terms.ensures.fault
