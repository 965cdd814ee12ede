use Rattle.std.proofs.Common.{◌∙◌, sym, refl}
use Rattle.bk_form.specs.declared.token.TokenKind.TheVariants.{Word}
use Rattle.bk_raw.specs.Trees.SubTree.{sub, sub_skip, sub_begin}
use Rattle.bk_p_sub.proofs.Openings.{skip_found, begin_opens, choice_opens}
use Rattle.bk_p_sub.proofs.Words.{no_atom_word}
use Rattle.bk_p_sub.proofs.opening.opening_by.Goals as goal

pub returns-then-op-eq-SKIP-clause-found : goal.returns-then-op-eq-SKIP-clause-found
returns-then-op-eq-SKIP-clause-found c calls = (sub c.args.first.now.start sub_skip, skip_found calls c.args.first.now c.args.tokens.now (c.requires ∙ (λ i. Word (c.if-op-eq-SKIP.true i))), c.in_ok-skip.ensures)

pub returns-then-op-eq-BEGIN-clause-found : goal.returns-then-op-eq-BEGIN-clause-found
returns-then-op-eq-BEGIN-clause-found c calls = (sub_begin, refl, begin_opens calls c.args.first.now c.args.tokens.now (c.requires ∙ (λ i. Word (c.if-op-eq-BEGIN.true i))))

pub returns-then-op-eq-CHOICE-clause-found : goal.returns-then-op-eq-CHOICE-clause-found
returns-then-op-eq-CHOICE-clause-found c calls = choice_opens calls c.args.first.now c.args.tokens.now (c.requires ∙ (λ i. Word (c.if-op-eq-CHOICE.true i)))

pub variables-requires : goal.variables-requires
variables-requires c = c.requires ∙ (λ i. Word (c.if-op-eq-VAR.true i))

pub values-requires : goal.values-requires
values-requires c = c.requires ∙ (λ i. Word (c.if-op-eq-ANY.true i))

pub definitions-requires : goal.definitions-requires
definitions-requires c = c.requires ∙ (λ i. Word (c.if-op-eq-LET.true i))

pub returns-in_default-clause-found : goal.returns-in_default-clause-found
returns-in_default-clause-found c calls = no_atom_word calls c.args.first.now c.args.tokens.now c.args.op c.requires c.if-op-eq-SKIP.false c.if-op-eq-BEGIN.false c.if-op-eq-CHOICE.false c.if-op-eq-VAR.false c.if-op-eq-ANY.false c.if-op-eq-LET.false c.in_default.ensures

pub guarded-requires : goal.guarded-requires
guarded-requires c = c.in-Some.ensures ∙ sym c.requires
