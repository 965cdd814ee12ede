-- The parts of a written type are smaller than the type.
use Rattle.std.specs.Prelude.{◌≤◌, max}
use Rattle.std.proofs.Common.{arith}
use Rattle.bk_raw.specs.Trees.WrittenType.{written_type_size}
use Rattle.bk_raw.specs.Codes.WrittenTypeView.{written_type_view}
use Rattle.bk_raw.specs.declared.written.RawTypeNode.{RawTypeNode}
use Rattle.bk_raw.specs.declared.written.RawTypeNode.TheVariants.{Product}
use Rattle.bk_raw.specs.declared.written.RawType.TheDeep.{deep-RawTypeNode}

-- what a node is made of is smaller than the type
pub written_type_falls : (n : RawTypeNode) → max (deep-RawTypeNode n) 0 ≤ written_type_size (written_type_view n)
written_type_falls (Product t u) = omega arith
written_type_falls _ = omega arith
