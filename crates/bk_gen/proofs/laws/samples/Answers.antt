use Rattle.std.proofs.Common.{refl}
use Rattle.bk_gen.specs.Samples.{ConstructsCode}
use Rattle.bk_gen.proofs.laws.samples.Goals as goal

constructs_code : ConstructsCode
constructs_code = record { number = refl; falsity = refl; truth = refl; third = refl; constant = refl; name = refl; read = refl; sum = refl; difference = refl; product = refl; quotient = refl; remainder = refl; negative = refl; boolean = refl; equal = refl; less = refl; at_most = refl; opposite = refl; both = refl; either = refl; set = refl; element_set = refl; filled = refl; nothing = refl; sequence = refl; local = refl; assertion = refl; branches = refl; repetition = refl }

pub returns : goal.returns
returns c = record { constructs = constructs_code; table = refl; lamp = refl; limits = record { cells = refl; few = refl; many = refl } }
