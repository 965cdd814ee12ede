-- What the definitions imply.
use Rattle.std.specs.Prelude.{◌≡◌, ◌≤◌, ◌^◌, length}
use Rattle.bk_form.specs.Table.{Table, IsWellFormed}
use Rattle.bk_form.specs.Wider.{IsWider}
use Rattle.bk_seq.specs.Sequents.{Sequent}
use Rattle.bk_kernel.specs.Rules.{makes}
use Rattle.bk_kernel.specs.declared.rule.Rule.{Rule}
use Rattle.bk_raw.specs.Trees.ScriptTree.{RawRule, RawScript}
use Rattle.bk_dev.specs.Development.{Development}
use Rattle.bk_scripts.specs.Brought.{widened}
use Rattle.bk_scripts.specs.Parts.{Around}
use Rattle.bk_scripts.specs.Grounding.{StandsFor}

-- two rules that a written one stands for make the same of each sequent
abbrev pub GroundedAreAlike : Type 0
GroundedAreAlike = (a : Around) (written : RawRule) (one other : Rule) → StandsFor a written one →
    StandsFor a written other → (table : Table) (s : Sequent) → makes table s one ≡ makes table s other

-- a script's table has the variables and sets of the table that it is over, by their numbers
abbrev pub WidenedIsWider : Type 0
WidenedIsWider = (table : Table) (dev : Development) (s : RawScript) → IsWider table (widened table dev s)

-- and is as well formed as that, if it is not past 32 bits
abbrev pub WidenedIsWellFormed : Type 0
WidenedIsWellFormed = (table : Table) (dev : Development) (s : RawScript) → IsWellFormed table →
    length (widened table dev s).variables ≤ 2 ^ 32 → IsWellFormed (widened table dev s)
