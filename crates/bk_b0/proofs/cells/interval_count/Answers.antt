use Rattle.std.proofs.Common.{rules, ◌≡◌, ◌≤ℤ◌, pos, ◌+ℤ◌, ◌-ℤ◌, arith}
use Rattle.std.proofs.lemmas.Int.{ints}
use Rattle.bk_form.specs.Operators.{count_of}
use Rattle.bk_b0.proofs.IntervalCounts.{counted_none, counted_some}
use Rattle.bk_b0.proofs.cells.interval_count.Goals as goal

pub returns-then-high-low : goal.returns-then-high-low
returns-then-high-low c = counted_none c.args.low c.args.high (search rules)

pub returns : goal.returns
returns c =
    let low : c.args.low ≤ℤ c.args.high = search rules in
    let some : pos (count_of ((c.args.high +ℤ pos 1) -ℤ c.args.low)) ≡ c.args.high -ℤ c.args.low +ℤ pos 1 = counted_some c.args.low c.args.high low in
    grind (arith, ints)
