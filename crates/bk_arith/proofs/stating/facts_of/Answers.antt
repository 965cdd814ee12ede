use Rattle.std.proofs.Common.{◌≡◌, ◌⊎◌, ◌∙◌, All, map, length, subst, IfOk, IfErr, OnOk, true, false}
use Rattle.std.specs.Prelude.{is_none}
use Rattle.std.specs.List.{list_any}
use Rattle.std.specs.Option.{some_prefix}
use Rattle.bk_lin.specs.Certificate.{inequalities}
use Rattle.bk_arith.specs.declared.error.ArithFault.TheVariants.{Memory, TooWide}
use Rattle.bk_arith.specs.Reading.{reading}
use Rattle.bk_arith.specs.Layout.{term_of}
use Rattle.bk_arith.proofs.stating.facts_of.Goals as goal

pub returns-clause-facts : goal.returns-clause-facts
returns-clause-facts c = subst (λ atoms. IfOk c.read_all.result (λ fs. inequalities fs.items ≡ some_prefix (map (reading atoms) (map term_of c.args.terms.now)))) (c.deref.ensures.value ∙ c.in_ok-atoms.ensures) c.read_all.ensures.facts

pub returns-clause-width : goal.returns-clause-width
returns-clause-width c = subst (λ atoms. IfOk c.read_all.result (λ fs. All (λ f. length f.coefs.items ≡ length atoms) fs.items)) (c.deref.ensures.value ∙ c.in_ok-atoms.ensures) c.read_all.ensures.width

pub returns-clause-narrow : goal.returns-clause-narrow
returns-clause-narrow c = subst (λ atoms. OnOk c.read_all.result (list_any is_none (map (reading atoms) (map term_of c.args.terms.now)) ≡ false)) (c.deref.ensures.value ∙ c.in_ok-atoms.ensures) c.read_all.ensures.all

pub returns-clause-fault : goal.returns-clause-fault
returns-clause-fault c = subst (λ atoms. IfErr c.read_all.result (λ e. (e ≡ Memory) ⊎ ((e ≡ TooWide) × (list_any is_none (map (reading atoms) (map term_of c.args.terms.now)) ≡ true)))) (c.deref.ensures.value ∙ c.in_ok-atoms.ensures) c.read_all.ensures.fault
