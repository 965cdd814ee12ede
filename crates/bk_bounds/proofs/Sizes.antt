-- How much the substitutions of a component bind, with the outputs of its operations.
use Rattle.std.specs.Prelude.{ℕ, ◌+◌, List}
use Rattle.bk_raw.specs.Trees.ComponentTree.{RawOperation}
use Rattle.bk_statics.specs.Components.{Component, initialisation}
use Rattle.bk_statics.specs.Binders.{binder_count}
use Rattle.bk_statics.specs.DeclaredNames.{sum_of}
use Rattle.bk_statics.specs.Plan.{size_of}

-- the outputs of operations and what their bodies bind
abbrev pub all_sizes : List RawOperation → ℕ
all_sizes os = sum_of size_of os

-- with what the initialisation binds
abbrev pub bound_in : Component → ℕ
bound_in c = binder_count (initialisation c) + all_sizes c.operations
