use Rattle.std.proofs.Common.{◌<◌, ◌≤◌, length, min, arith}
use Rattle.bk_report.proofs.Listings.{more_lines, all_lines}
use Rattle.bk_report.proofs.code.write_lines.Goals as goal

pub loop-place-preserved : goal.loop-place-preserved
loop-place-preserved c =
    let below : c.loop-place.place < c.args.to = omega arith in
    let inside : c.loop-place.place < length c.args.code.now = omega arith in
    more_lines c.args.code.now c.loop-place.place c.args.to _ c.loop-place.text.items c.write_line.new.text.items _ below inside c.in_ok-write_line.ensures c.loop-place.invariant

pub returns : goal.returns
returns c =
    let end : min c.args.to (length c.args.code.now) ≤ c.loop-place.place = omega arith in
    all_lines c.args.code.now c.loop-place.place c.args.to c.loop-place.text.items _ end c.loop-place.invariant
