use Rattle.std.proofs.Common.{◌≡◌, ◌≤◌, [], arith}
use Rattle.std.specs.Str.Lines.{lines}
use Rattle.bk_places.proofs.Lines.{one_less, none_left, first_left}
use Rattle.bk_places.proofs.line.line_behind.Goals as goal

pub loop-number-preserved : goal.loop-number-preserved
loop-number-preserved c = one_less (lines c.args.text.now) (lines c.loop-number.rest.now) c.loop-number.number c.in-Some.field-0-0.now (lines c.in-Some.behind.now) c.loop-number.invariant c.in-Some.ensures.line

pub returns-in_default : goal.returns-in_default
returns-in_default c =
    let less : c.loop-number.number ≤ c.args.others = omega arith in
    none_left (lines c.args.text.now) (lines c.loop-number.rest.now) c.loop-number.number c.args.others [] less c.loop-number.invariant c.in_default.ensures.line

pub returns-in-None : goal.returns-in-None
returns-in-None c =
    let less : c.loop-number.number ≤ c.args.others = omega arith in
    none_left (lines c.args.text.now) (lines c.loop-number.rest.now) c.loop-number.number c.args.others [] less c.loop-number.invariant c.in-None.ensures.line

pub returns-in-Some-first_line : goal.returns-in-Some-first_line
returns-in-Some-first_line c =
    let same : c.loop-number.number ≡ c.args.others = omega arith in
    first_left (lines c.args.text.now) (lines c.loop-number.rest.now) c.loop-number.number c.args.others [] c.in-Some-first_line.first.now (lines c.in-Some-first_line.field-0-1.now) same c.loop-number.invariant c.in-Some-first_line.ensures.line
