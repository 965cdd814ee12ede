use Rattle.std.proofs.Common.{length}
use Rattle.bk_types.proofs.typing.+tuple_type_onto.Given as goal

abbrev pub decreases-tuple_type_onto : goal.decreases-tuple_type_onto
decreases-tuple_type_onto l = length l.types.now
