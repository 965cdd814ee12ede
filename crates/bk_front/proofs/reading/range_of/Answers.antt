use Rattle.std.proofs.Common.{◌≡◌, ◌∙◌, sym, arith, w64, to_z, of_z}
use Rattle.std.proofs.lemmas.Int.{to_z-of_z}
use Rattle.bk_sources.proofs.Turns.{all_at}
use Rattle.bk_front.specs.ProjectFile.{IsNameFor}
use Rattle.bk_front.specs.declared.project_file.ProjectLine.{ProjectLine}
use Rattle.bk_front.proofs.ProjectFiles.{range_here, range_on, range_past}
use Rattle.bk_front.proofs.reading.range_of.Goals as goal

pub returns-in-Some : goal.returns-in-Some
returns-in-Some c =
    let back : to_z w64 (of_z w64 c.in-Some.max) ≡ c.in-Some.max = grind (arith, to_z-of_z) in
    back ∙ c.in-Some.ensures.1 ∙ sym (range_here c.args.lines.now c.loop-line.line-index c.line-item.result c.loop-line-test.true c.line-item.is c.in-Some.ensures.0) ∙ c.loop-line.invariant

pub loop-line-preserved : goal.loop-line-preserved
loop-line-preserved c =
    let fits = all_at (λ (l : ProjectLine). IsNameFor l.kind l.name) c.args.lines.now c.loop-line.line-index c.line-item.result c.loop-line-test.true c.line-item.is c.requires in
    range_on c.args.lines.now c.loop-line.line-index c.line-item.result c.loop-line-test.true c.line-item.is fits c.in_default.ensures ∙ c.loop-line.invariant

pub returns : goal.returns
returns c = sym (range_past c.args.lines.now c.loop-line.line-index c.loop-line-test.false) ∙ c.loop-line.invariant
