-- Developments whose obligations are shown: each sequent is obvious, or derived by rules.
use Rattle.std.specs.Prelude.{◌≡◌, ◌⊎◌, ℕ, true, List}
use Rattle.bk_form.specs.Table.{Table, IsWellFormed}
use Rattle.bk_form.specs.Wider.{IsWider}
use Rattle.bk_dev.specs.Development.{Development}
use Rattle.bk_dev.specs.Flattened.{flattened}
use Rattle.bk_form.specs.Each.{Each}
use Rattle.bk_kernel.specs.declared.rule.Rule.{Rule}
use Rattle.bk_kernel.specs.Obvious.{is_obvious}
use Rattle.bk_kernel.specs.Derivations.{Derives}
use Rattle.bk_seq.specs.Sequents.{Sequent}
use Rattle.bk_po.specs.Obligations.{numbered_obligations}

-- each sequent is obvious
abbrev pub AreObvious : List (List ℕ × Sequent) → Type 0
AreObvious ss = Each (λ s. is_obvious s.1.0 s.1.1 ≡ true) ss

-- each numbered sequent of the development is obvious
abbrev pub HasObviousObligations : Development → Type 0
HasObviousObligations dev = AreObvious (numbered_obligations dev)

-- some rules prove it, over a well-formed table that begins with this one: it may have more variables, as for the names of a script
pub record IsDerived (table : Table) (s : Sequent) : Type 0 where
  pub wide : Table
  pub wider : IsWider table wide
  pub formed : IsWellFormed wide
  pub rules : List Rule
  pub derives : Derives wide rules s

-- it needs no proof, or some rules prove it
abbrev pub IsShown : Table → Sequent → Type 0
IsShown table s = (is_obvious s.0 s.1 ≡ true) ⊎ IsDerived table s

-- each numbered sequent is obvious, or derived; their table is that with all copies
abbrev pub HasShownObligations : Development → Type 0
HasShownObligations dev = Each (λ s. IsShown (flattened dev).table s.1) (numbered_obligations dev)
