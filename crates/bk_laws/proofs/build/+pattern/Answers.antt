use Rattle.std.proofs.Common.{arith, ap}
use Rattle.bk_form.specs.Formula.{formula_size}
use Rattle.bk_laws.proofs.Built.{small-parts}
use Rattle.bk_laws.proofs.build.+pattern.Goals as goal

pub node-make-requires : goal.node-make-requires
node-make-requires t c =
    let k = small-parts c.args.pats.now c.args.picks.now c.args.depth c.args.first c.requires.picks c.requires.depth in
    let e = ap formula_size c.in_ok-operand-in-One.ensures in
    omega (arith, k, e)

pub node-make-requires-in-Two : goal.node-make-requires-in-Two
node-make-requires-in-Two t c =
    let k = small-parts c.args.pats.now c.args.picks.now c.args.depth c.args.first c.requires.picks c.requires.depth in
    let l = small-parts c.args.pats.now c.args.picks.now c.args.depth c.args.second c.requires.picks c.requires.depth in
    let e = ap formula_size c.in_ok-left-in-Two.ensures in
    let f = ap formula_size c.in_ok-right-in-Two.ensures in
    omega (arith, k, l, e, f)
