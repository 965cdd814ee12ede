-- The operator that makes one set of two, as the mathematical one.
use Rattle.bk_raw.specs.Meaning.Outcome.{Joint, union_joint, inter_joint, minus_joint, over_joint}
use Rattle.bk_elab_terms.specs.declared.partial.Join.{Join}
use Rattle.bk_elab_terms.specs.declared.partial.Join.TheVariants.{Union, Intersection, Difference, Override}

-- the operator that it is
abbrev pub joint_of_join : Join → Joint
joint_of_join Union = union_joint
joint_of_join Intersection = inter_joint
joint_of_join Difference = minus_joint
joint_of_join Override = over_joint
