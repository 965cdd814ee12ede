use Rattle.std.proofs.Common.{◌≡◌, ℤ, sym, subst, IfOk, IfErr, to_z-of_z}
use Rattle.bk_sources.proofs.FileSteps.{bytes_of}
use Rattle.bk_dev.specs.Development.{IsRange}
use Rattle.bk_front.specs.Project.{ReadsIn, IsRefusalIn}
use Rattle.bk_front.proofs.Steps.{err_told}
use Rattle.bk_front.proofs.reading.in_range.Goals as goal

pub returns-in_err-components-clause-refusal : goal.returns-in_err-components-clause-refusal
returns-in_err-components-clause-refusal c =
    err_told c.from_residual.result c.in_err-components.field-0.0 (IsRefusalIn c.args.max c.args.kinds.now (bytes_of c.args.texts.now)) c.from_residual.ensures.1
    (c.in_err-components.ensures.refusal c.args.max c.args.kinds.now)

pub returns-in_err-all_chained-clause-refusal : goal.returns-in_err-all_chained-clause-refusal
returns-in_err-all_chained-clause-refusal c =
    err_told c.from_residual-in_err-all_chained.result c.in_err-all_chained.field-0.0 (IsRefusalIn c.args.max c.args.kinds.now (bytes_of c.args.texts.now)) c.from_residual-in_err-all_chained.ensures.1
    (c.in_err-all_chained.ensures.refusal c.args.max)

pub returns-in_err-all_few-clause-refusal : goal.returns-in_err-all_few-clause-refusal
returns-in_err-all_few-clause-refusal c =
    err_told c.from_residual-in_err-all_few.result c.in_err-all_few.field-0.0 (IsRefusalIn c.args.max c.args.kinds.now (bytes_of c.args.texts.now)) c.from_residual-in_err-all_few.ensures.1
    (c.in_err-all_few.ensures.refusal c.args.max)

pub all_levels-requires-clause-range : goal.all_levels-requires-clause-range
all_levels-requires-clause-range c = subst IsRange (sym (to_z-of_z c.ranges.max)) c.requires.range

pub returns-clause-development : goal.returns-clause-development
returns-clause-development c = subst (λ (m : ℤ). IfOk c.all_levels.result (ReadsIn m c.args.kinds.now (bytes_of c.args.texts.now))) (to_z-of_z c.ranges.max) c.all_levels.ensures.development

pub returns-clause-refusal : goal.returns-clause-refusal
returns-clause-refusal c = subst (λ (m : ℤ). IfErr c.all_levels.result (IsRefusalIn m c.args.kinds.now (bytes_of c.args.texts.now))) (to_z-of_z c.ranges.max) c.all_levels.ensures.refusal
