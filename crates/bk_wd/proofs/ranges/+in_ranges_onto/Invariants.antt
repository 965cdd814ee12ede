use Rattle.std.proofs.Common.{length}
use Rattle.bk_wd.proofs.ranges.+in_ranges_onto.Given as goal

abbrev pub decreases-in_ranges_onto : goal.decreases-in_ranges_onto
decreases-in_ranges_onto l = length l.ranges.now
