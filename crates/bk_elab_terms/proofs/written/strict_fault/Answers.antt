use Rattle.std.proofs.Common.{sym, ◌∙◌, ap}
use Rattle.bk_raw.specs.declared.operator.InfixOp.{InfixOp}
use Rattle.bk_raw.specs.Meaning.TermReading.{stricts, strict_faults}
use Rattle.bk_raw.specs.Errors.Blame.{blame, earlier}
use Rattle.bk_raw.proofs.Blamed.{blame-joins}
use Rattle.bk_elab_terms.proofs.Strict.{not-strict}
use Rattle.bk_elab_terms.proofs.written.strict_fault.Goals as goal

pub returns-in-StrictSubset : goal.returns-in-StrictSubset
returns-in-StrictSubset c =
    c.earlier.ensures ∙ ((λ i. earlier (c.first_strict.ensures i) (c.first_strict-in-StrictSubset.ensures i)) ∙ (sym (blame-joins (stricts c.args.left.now) (stricts c.args.right.now))
    ∙ ap (λ (o : InfixOp). blame (strict_faults o c.args.left.now c.args.right.now)) (sym c.in-StrictSubset.is)))

pub returns-in_default : goal.returns-in_default
returns-in_default c = ap blame (sym (not-strict c.args.op c.args.left.now c.args.right.now c.in_default.not-StrictSubset))
