use Rattle.std.proofs.Common.{◌∙◌, ap, []}
use Rattle.bk_raw.specs.Meaning.Binders.{twice}
use Rattle.bk_raw.specs.Errors.Blame.{blame}
use Rattle.bk_elab_terms.specs.Shown.{told}
use Rattle.bk_statics.specs.Binders.{texts}
use Rattle.bk_scope.proofs.FaultSteps.{told-both}
use Rattle.bk_scope.proofs.FaultNames.{header-twice}
use Rattle.bk_check_clauses.proofs.name_fault.twice_among.Goals as goal

pub returns : goal.returns
returns c =
    let xs = c.args.outputs.now in
    let ys = c.args.inputs.now in
    told-both (twice [] xs) (twice (texts xs) ys) (told c.twice-own.result) (told c.twice_behind-behind.result) (told c.earlier.result) c.twice-own.ensures c.twice_behind-behind.ensures c.earlier.ensures ∙ ap blame (header-twice xs ys)
