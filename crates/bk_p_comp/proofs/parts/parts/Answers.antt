use Rattle.std.proofs.Common.{sym, subst}
use Rattle.bk_p_comp.specs.Parts.{ReadsParts}
use Rattle.bk_p_comp.proofs.Standings.{reads_abstract, reads_concrete, reads_imports, reads_invariant, reads_shared, reads_variables}
use Rattle.bk_p_comp.proofs.parts.parts.Goals as goal

pub returns-in-Sets-clause-found : goal.returns-in-Sets-clause-found
returns-in-Sets-clause-found c = subst (λ w. ReadsParts w c.args.tokens.now c.all_sets.result) (sym c.in-Sets.is) c.all_sets.ensures.found

pub returns-in-Constants-clause-found : goal.returns-in-Constants-clause-found
returns-in-Constants-clause-found c = subst (λ w. ReadsParts w c.args.tokens.now c.listed.result) (sym c.in-Constants.is) c.listed.ensures.found

pub returns-in-ConcreteConstants-clause-found : goal.returns-in-ConcreteConstants-clause-found
returns-in-ConcreteConstants-clause-found c = subst (λ w. ReadsParts w c.args.tokens.now c.listed-in-ConcreteConstants.result) (sym c.in-ConcreteConstants.is) (reads_concrete c.args.tokens.now c.listed-in-ConcreteConstants.result c.listed-in-ConcreteConstants.ensures.found)

pub returns-in-Variables-clause-found : goal.returns-in-Variables-clause-found
returns-in-Variables-clause-found c = subst (λ w. ReadsParts w c.args.tokens.now c.listed-in-Variables.result) (sym c.in-Variables.is) (reads_variables c.args.tokens.now c.listed-in-Variables.result c.listed-in-Variables.ensures.found)

pub returns-in-AbstractVariables-clause-found : goal.returns-in-AbstractVariables-clause-found
returns-in-AbstractVariables-clause-found c = subst (λ w. ReadsParts w c.args.tokens.now c.listed-in-AbstractVariables.result) (sym c.in-AbstractVariables.is) (reads_abstract c.args.tokens.now c.listed-in-AbstractVariables.result c.listed-in-AbstractVariables.ensures.found)

pub returns-in-ConcreteVariables-clause-found : goal.returns-in-ConcreteVariables-clause-found
returns-in-ConcreteVariables-clause-found c = subst (λ w. ReadsParts w c.args.tokens.now c.listed-in-ConcreteVariables.result) (sym c.in-ConcreteVariables.is) (reads_shared c.args.tokens.now c.listed-in-ConcreteVariables.result c.listed-in-ConcreteVariables.ensures.found)

pub returns-in-Properties-clause-found : goal.returns-in-Properties-clause-found
returns-in-Properties-clause-found c = subst (λ w. ReadsParts w c.args.tokens.now c.one_term.result) (sym c.in-Properties.is) c.one_term.ensures.found

pub returns-in-Invariant-clause-found : goal.returns-in-Invariant-clause-found
returns-in-Invariant-clause-found c = subst (λ w. ReadsParts w c.args.tokens.now c.one_term-in-Invariant.result) (sym c.in-Invariant.is) (reads_invariant c.args.tokens.now c.one_term-in-Invariant.result c.one_term-in-Invariant.ensures.found)

pub returns-in-Assertions-clause-found : goal.returns-in-Assertions-clause-found
returns-in-Assertions-clause-found c = subst (λ w. ReadsParts w c.args.tokens.now c.all_assertions.result) (sym c.in-Assertions.is) c.all_assertions.ensures.found

pub returns-in-Values-clause-found : goal.returns-in-Values-clause-found
returns-in-Values-clause-found c = subst (λ w. ReadsParts w c.args.tokens.now c.all_values.result) (sym c.in-Values.is) c.all_values.ensures.found

pub returns-in-Initialisation-clause-found : goal.returns-in-Initialisation-clause-found
returns-in-Initialisation-clause-found c = subst (λ w. ReadsParts w c.args.tokens.now c.one_substitution.result) (sym c.in-Initialisation.is) c.one_substitution.ensures.found

pub returns-in-Operations-clause-found : goal.returns-in-Operations-clause-found
returns-in-Operations-clause-found c = subst (λ w. ReadsParts w c.args.tokens.now c.all_operations.result) (sym c.in-Operations.is) c.all_operations.ensures.found

pub returns-in-Imports-clause-found : goal.returns-in-Imports-clause-found
returns-in-Imports-clause-found c = subst (λ w. ReadsParts w c.args.tokens.now c.listed-in-Imports.result) (sym c.in-Imports.is) (reads_imports c.args.tokens.now c.listed-in-Imports.result c.listed-in-Imports.ensures.found)
