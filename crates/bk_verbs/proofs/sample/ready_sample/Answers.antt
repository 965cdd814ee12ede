use Rattle.std.proofs.Common.{Some, ap, ◌∙◌}
use Rattle.std.proofs.lemmas.Result.{IfOk-weaker}
use Rattle.bk_limits.specs.declared.TheConstants.{FUEL}
use Rattle.bk_calls.specs.Sample.{shelved}
use Rattle.bk_verbs.specs.Samples.{sample_files}
use Rattle.bk_verbs.proofs.Stopping.{widen}
use Rattle.bk_verbs.proofs.SampleStops.{checks_are}
use Rattle.bk_verbs.proofs.sample.ready_sample.Goals as goal

pub returns-clause-cause : goal.returns-clause-cause
returns-clause-cause c =
    let told = ap Some (c.new-shelf.ensures.files ∙ (c.in_ok-files.ensures.files ∙ ap shelved c.in_ok-sample.ensures)) in
    widen c.ready_project.result _ _ c.ready_project.ensures.cause (λ stop h. h (sample_files c.args.variables) FUEL told)

pub returns-clause-checks : goal.returns-clause-checks
returns-clause-checks c =
    let told = ap Some (c.new-shelf.ensures.files ∙ (c.in_ok-files.ensures.files ∙ ap shelved c.in_ok-sample.ensures)) in
    checks_are c.args.variables c.ready_project.result c.ready_project.ensures.reading c.ready_project.ensures.failed
    (widen c.ready_project.result _ _ c.ready_project.ensures.cause (λ stop h. h (sample_files c.args.variables) FUEL told))

pub returns-clause-ready : goal.returns-clause-ready
returns-clause-ready c =
    let told = ap Some (c.new-shelf.ensures.files ∙ (c.in_ok-files.ensures.files ∙ ap shelved c.in_ok-sample.ensures)) in
    IfOk-weaker c.ready_project.result _ _ (λ ready h. h (sample_files c.args.variables) told) c.ready_project.ensures.ready
