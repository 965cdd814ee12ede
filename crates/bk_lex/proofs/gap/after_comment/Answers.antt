use Rattle.std.proofs.Common.{◌≡◌, ◌++◌, [], refl, sym, ap, ◌∙◌, arith}
use Rattle.std.specs.Prelude.{codes}
use Rattle.bk_lex.specs.Lexis.{block, line, IsGap}
use Rattle.bk_lex.proofs.Gaps.{block_gap, line_gap, no_close}
use Rattle.bk_lex.proofs.gap.after_comment.Goals as goal

pub returns-in_default-split_once : goal.returns-in_default-split_once
returns-in_default-split_once c =
    let opened = c.in-Some.ensures.cases in (
      [],
      c.args.text.now,
      refl,
      omega (arith, c.requires),
      record {
        body = c.in-Some.body.now;
        opens = opened.1.1 ∙ ap (λ v. codes "/*" ++ v) (sym opened.2);
        unclosed = no_close c.in-Some.body.now c.in_default-split_once.ensures.cases;
      },
    )

pub returns-in-Some : goal.returns-in-Some
returns-in-Some c =
    let opened = c.in-Some.ensures.cases in
    let body = c.in-Some.body.now in
    let before = c.in-Some-split_once.field-0-0.now in
    let rest = c.in-Some-split_once.rest.now in
    let parts : (body ≡ before ++ codes "*/" ++ rest) × IsGap (block before) rest = block_gap body before rest c.in-Some-split_once.ensures.cases in
    (block before, opened.1.1 ∙ ap (λ v. codes "/*" ++ v) (sym opened.2 ∙ parts.0), parts.1)

pub returns-in-Some-strip_prefix : goal.returns-in-Some-strip_prefix
returns-in-Some-strip_prefix c =
    let opened = c.in-Some-strip_prefix.ensures.cases in
    let run = c.from_line_end.ensures in
    let rest = c.from_line_end.result.now in (
      line run.0,
      opened.1.1 ∙ ap (λ v. codes "//" ++ v) (sym opened.2 ∙ run.1.splits),
      line_gap c.in-Some-strip_prefix.body.now run.0 rest run.1,
    )
