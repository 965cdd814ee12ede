use Rattle.std.proofs.Common.{◌+◌, ◌*◌, length}
use Rattle.bk_p_expr.proofs.printed_type.+types.Given as goal

abbrev pub decreases-written_type : goal.decreases-written_type
decreases-written_type l = 4 * length l.tokens.now + 1

abbrev pub decreases-power : goal.decreases-power
decreases-power l = 4 * length l.tokens.now

abbrev pub decreases-product : goal.decreases-product
decreases-product l = 4 * length l.tokens.now + 2
