-- The mathematical written type that a node stands for.
use Rattle.bk_raw.specs.Trees.WrittenType.{WrittenType, written_integer, written_bool, written_set, written_power, written_product}
use Rattle.bk_raw.specs.declared.written.RawTypeNode.{RawTypeNode}
use Rattle.bk_raw.specs.declared.written.RawTypeNode.TheVariants.{Integer, Bool, Set, Power, Product}

-- the type that a node stands for
abbrev pub written_type_view : RawTypeNode → WrittenType
written_type_view Integer = written_integer
written_type_view Bool = written_bool
written_type_view (Set name) = written_set name
written_type_view (Power t) = written_power t.value
written_type_view (Product t u) = written_product t.value u.value
