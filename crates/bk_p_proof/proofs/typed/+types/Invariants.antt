use Rattle.std.proofs.Common.{◌+◌, ◌*◌, length}
use Rattle.bk_p_proof.proofs.typed.+types.Given as goal

abbrev pub decreases-written_type : goal.decreases-written_type
decreases-written_type l = 2 * length l.tokens.now

abbrev pub decreases-type_by_word : goal.decreases-type_by_word
decreases-type_by_word l = 2 * length l.tokens.now + 1

abbrev pub decreases-type_by_sign : goal.decreases-type_by_sign
decreases-type_by_sign l = 2 * length l.tokens.now + 1
