use Rattle.std.proofs.Common.{◌≡◌, ◌⊎◌, ◌∙◌, All, map, length, ap, subst, IfOk, IfErr, OnOk, true, false}
use Rattle.std.specs.Prelude.{is_none}
use Rattle.std.specs.List.{list_any}
use Rattle.std.specs.Option.{some_prefix}
use Rattle.bk_lin.specs.Certificate.{inequalities}
use Rattle.bk_arith.specs.declared.error.ArithFault.TheVariants.{Memory, TooWide}
use Rattle.bk_arith.specs.Reading.{atoms_of}
use Rattle.bk_arith.specs.Decision.{readings}
use Rattle.bk_arith.specs.Layout.{term_of}
use Rattle.bk_arith.proofs.StatedFacts.{right, wrong}
use Rattle.bk_arith.proofs.stating.facts.Goals as goal

pub returns-clause-facts : goal.returns-clause-facts
returns-clause-facts c = subst (λ terms. IfOk c.facts_of.result (λ fs. inequalities fs.items ≡ some_prefix (readings terms))) (ap (λ ts. map term_of ts) c.deref.ensures.value ∙ c.in_ok-terms.ensures.terms) c.facts_of.ensures.facts

pub returns-clause-width : goal.returns-clause-width
returns-clause-width c = subst (λ terms. IfOk c.facts_of.result (λ fs. All (λ f. length f.coefs.items ≡ length (atoms_of terms)) fs.items)) (ap (λ ts. map term_of ts) c.deref.ensures.value ∙ c.in_ok-terms.ensures.terms) c.facts_of.ensures.width

pub returns-clause-right : goal.returns-clause-right
returns-clause-right c =
    right c.args.hyps.now c.args.goal.now c.facts_of.result c.in_ok-terms.ensures.all
    (subst (λ terms. OnOk c.facts_of.result (list_any is_none (readings terms) ≡ false)) (ap (λ ts. map term_of ts) c.deref.ensures.value ∙ c.in_ok-terms.ensures.terms) c.facts_of.ensures.narrow)

pub returns-clause-fault : goal.returns-clause-fault
returns-clause-fault c =
    wrong c.args.hyps.now c.args.goal.now c.facts_of.result c.in_ok-terms.ensures.all
    (subst (λ terms. IfErr c.facts_of.result (λ e. (e ≡ Memory) ⊎ ((e ≡ TooWide) × (list_any is_none (readings terms) ≡ true)))) (ap (λ ts. map term_of ts) c.deref.ensures.value ∙ c.in_ok-terms.ensures.terms) c.facts_of.ensures.fault)
