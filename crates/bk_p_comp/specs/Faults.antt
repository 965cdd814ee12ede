-- Why no component is read.
use Rattle.std.specs.Prelude.{◌<◌, List}
use Rattle.bk_limits.specs.declared.TheConstants.{GREATEST_TREE_HEIGHT}
use Rattle.bk_form.specs.declared.token.Token.{Token}
use Rattle.bk_raw.specs.Trees.ComponentTree.{RawComponent, component_height}
use Rattle.bk_raw.specs.Grammar.ComponentSpelling.{SpellsComponent}
use Rattle.bk_raw.specs.Errors.Limits.{IsShallow, IsTooDeep}
use Rattle.bk_raw.specs.Errors.Places.{IsComponentFault}
use Rattle.bk_p_expr.specs.declared.fault.SynFault.{SynFault}
use Rattle.bk_p_expr.specs.declared.fault.SynFault.TheVariants.{At, Depth, High, Memory}

-- the fault is that of the tokens, read as a component: what is too deep is answered first, and what is too high only where
-- a component is written
abbrev pub IsFaultOfComponent : List Token → SynFault → Type 0
IsFaultOfComponent tokens (At place) = IsShallow tokens × IsComponentFault tokens place
IsFaultOfComponent tokens (Depth place) = IsTooDeep tokens place
IsFaultOfComponent tokens High = IsShallow tokens × (c : RawComponent)
    × SpellsComponent c tokens × (GREATEST_TREE_HEIGHT < component_height c)
IsFaultOfComponent tokens Memory = Unit {0}
