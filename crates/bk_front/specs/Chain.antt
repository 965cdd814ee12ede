-- The chain of a project's components: each is of the kind that its line says, and names the component above as the one that it
-- refines.
-- Source: B-Book, refinement; B Language Reference Manual.
use Rattle.std.specs.Prelude.{Bool, true, false, ◌&&◌, bytes_eq, List, [], ◌∷◌, Option, None, Some}
use Rattle.bk_raw.specs.declared.component.ComponentKind.{ComponentKind}
use Rattle.bk_raw.specs.declared.component.ComponentKind.TheVariants.{Machine, Refinement, Implementation}
use Rattle.bk_raw.specs.declared.term.RawName.{RawName}
use Rattle.bk_raw.specs.Trees.ComponentTree.{RawComponent}
use Rattle.bk_front.specs.declared.project_file.LineKind.{LineKind}
use Rattle.bk_front.specs.declared.project_file.LineKind.TheVariants.{Machine as MachineLine, Refinement as RefinementLine}
use Rattle.bk_front.specs.declared.project_file.LineKind.TheVariants.{Implementation as ImplementationLine}

-- whether such a line is for components of this kind
abbrev pub is_for : LineKind → ComponentKind → Bool
is_for MachineLine Machine = true
is_for RefinementLine Refinement = true
is_for ImplementationLine Implementation = true
is_for _ _ = false

-- whether the component above is the one that is named; with none above none is
abbrev pub names_above : Option RawComponent → Option RawName → Bool
names_above None None = true
names_above (Some above) (Some name) = bytes_eq name.text above.name.text
names_above _ _ = false

-- a component with its line's kind and the component above
pub record Link : Type 0 where
  pub above : Option RawComponent
  pub kind : LineKind
  pub component : RawComponent

-- whether it may stand there
abbrev pub may_stand_below : Link → Bool
may_stand_below l = is_for l.kind l.component.kind && names_above l.above l.component.refines

-- the components one below the other
abbrev pub links : Option RawComponent → List LineKind → List RawComponent → List Link
links above (k ∷ ks) (c ∷ cs) = record { above = above; kind = k; component = c } ∷ links (Some c) ks cs
links above _ _ = []
