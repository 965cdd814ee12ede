use Rattle.std.proofs.Common.{◌∙◌, inr, refl, sym, subst, arith}
use Rattle.bk_sources.proofs.FileSteps.{bytes_of, read_counted}
use Rattle.bk_sources.proofs.Turns.{all_on, all_end}
use Rattle.bk_front.specs.Project.{DeclaresFew, DeclaresMany, IsLow, IsRefusalIn}
use Rattle.bk_front.proofs.Steps.{first_item}
use Rattle.bk_front.proofs.reading.all_few.Goals as goal

pub past_limit-requires : goal.past_limit-requires
past_limit-requires c = omega (arith, c.loop-file-test.true, c.requires.countable, read_counted c.args.texts.now c.args.components.now IsLow c.requires.chained.each)

pub returns-then-branch-clause-refusal : goal.returns-then-branch-clause-refusal
returns-then-branch-clause-refusal c top =
    let many : DeclaresMany c.index-components-file.result = sym c.in_ok-passes_limit_of_names.ensures ∙ c.if-branch.true in
    let first = first_item DeclaresFew DeclaresMany c.args.components.now c.loop-file.file c.index-components-file.result c.loop-file-test.true c.index-components-file.is c.loop-file.invariant many in
    subst (IsRefusalIn top c.args.kinds.now (bytes_of c.args.texts.now)) (sym c.past_limit.ensures) (c.loop-file.file, refl, inr (inr (refl, (c.args.components.now, c.requires.chained, first))))

pub loop-file-preserved : goal.loop-file-preserved
loop-file-preserved c =
    let few : DeclaresFew c.index-components-file.result = sym c.in_ok-passes_limit_of_names.ensures ∙ c.if-branch.false in
    all_on DeclaresFew c.args.components.now c.loop-file.file c.index-components-file.result c.loop-file-test.true c.index-components-file.is c.loop-file.invariant few

pub returns-clause-few : goal.returns-clause-few
returns-clause-few c = all_end DeclaresFew c.args.components.now c.loop-file.file c.loop-file-test.false c.loop-file.invariant
