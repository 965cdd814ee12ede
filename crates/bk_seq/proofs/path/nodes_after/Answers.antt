use Rattle.std.proofs.Common.{sym, ◌∙◌, ap, arith}
use Rattle.std.specs.Option.{option_copied}
use Rattle.bk_seq.proofs.Paths.{put-size, size-part}
use Rattle.bk_seq.proofs.path.nodes_after.Goals as goal

pub overflow_sub-result : goal.overflow_sub-result
overflow_sub-result c =
    let here = sym c.at.ensures ∙ ap option_copied c.unwrap-old.ensures in
    omega (arith, size-part c.args.form.now c.args.path.now c.unwrap-old.result.now here)

pub returns : goal.returns
returns c =
    let here = sym c.at.ensures ∙ ap option_copied c.unwrap-old.ensures in
    omega (arith, put-size c.args.form.now c.args.path.now c.unwrap-old.result.now c.args.new.now here, size-part c.args.form.now c.args.path.now c.unwrap-old.result.now here)
