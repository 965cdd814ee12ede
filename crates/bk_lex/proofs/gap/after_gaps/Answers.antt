use Rattle.std.proofs.Common.{◌≤◌, ◌<◌, ◌∷◌, [], ◌++◌, map, length, arith}
use Rattle.bk_lex.specs.Lexis.{is_blank, blank}
use Rattle.bk_lex.proofs.Gaps.{blanks_behind, rest_shorter, more_gaps, gap_shorter, no_gap, gap_fault_behind, err_matches}
use Rattle.bk_lex.proofs.gap.after_gaps.Goals as goal

pub loop-after-init : goal.loop-after-init
loop-after-init c =
    let run = c.after_blanks-rest.ensures in
    let text = c.args.text.now in
    let rest = c.after_blanks-rest.result.now in
    (map blank run.0, blanks_behind text run.0 rest run.1, run.1.ends, rest_shorter is_blank text run.0 rest run.1, c.after_blanks-rest.utf8)

pub after_comment-requires-text-text : goal.after_comment-requires-text-text
after_comment-requires-text-text c = λ z. c.loop-after.invariant.4

pub returns-in_err-after : goal.returns-in_err-after
returns-in_err-after c =
    err_matches c.from_residual.result c.in_err-after.field-0.0 _ _ c.from_residual.ensures.1
    (gap_fault_behind c.loop-after.invariant.0 c.args.total c.args.text.now c.loop-after.rest.now c.in_err-after.field-0.0 c.loop-after.invariant.1 c.in_err-after.ensures)

pub loop-after-preserved : goal.loop-after-preserved
loop-after-preserved c =
    let run = c.after_blanks-rest-in-Some.ensures in
    let text = c.args.text.now in
    let rest = c.loop-after.rest.now in
    let after = c.in-Some.after.now in
    let next = c.after_blanks-rest-in-Some.result.now in
    let old = c.loop-after.invariant in
    let gap = rw c.in-Some.is at c.in_ok-after.ensures in
    let less : length after < length rest = gap_shorter gap.0 rest after gap.1 in
    let shorter : length next ≤ length after = rest_shorter is_blank after run.0 next run.1 in (
      (old.0 ++ (gap.0 ∷ [])) ++ map blank run.0,
      more_gaps old.0 gap.0 text rest after run.0 next old.1 gap.1 gap.2 run.1,
      run.1.ends,
      omega (arith, old.3),
      c.after_blanks-rest-in-Some.utf8,
    )

pub fact_in-rest : goal.fact_in-rest
fact_in-rest c = c.loop-after.invariant.4

pub returns : goal.returns
returns c =
    let old = c.loop-after.invariant in
    (old.0, old.1, no_gap c.loop-after.rest.now old.2 (rw c.in_default.is at c.in_ok-after.ensures), old.3, old.4)
