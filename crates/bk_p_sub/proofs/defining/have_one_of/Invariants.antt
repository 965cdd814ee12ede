use Rattle.std.proofs.Common.{◌≡◌, drop}
use Rattle.bk_p_sub.specs.Defining.{has_one_of}
use Rattle.bk_p_sub.proofs.defining.have_one_of.Given as goal

abbrev pub invariant-loop-name : goal.invariant-loop-name
invariant-loop-name l = has_one_of l.all (drop l.name-index l.names) ≡ has_one_of l.all l.names
