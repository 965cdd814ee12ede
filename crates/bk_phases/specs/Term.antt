-- Terms in their places: a term as it is written, the names in scope there, and what the place asks of it.
-- Source: B Language Reference Manual, typing; which place asks what is this project's.
use Rattle.std.specs.Prelude.{ℕ, Bool, true, false}
use Rattle.bk_raw.specs.Trees.RawTree.{RawTree}
use Rattle.bk_raw.specs.Meaning.Names.{Names}
use Rattle.bk_raw.specs.Meaning.TermReading.{place_of}
use Rattle.bk_statics.specs.Typings.{Target}
use Rattle.bk_phases.specs.Scope.{Written}

-- what a place asks
pub data Wanted : Type 0 where
  a_predicate : Wanted
  -- an expression with a type of its own
  a_value : Wanted
  a_number : Wanted
  -- of x := E: an expression of the type of x; of any type, where x has none
  value_for : Target → Wanted
  -- of x :: E: a domain over the type of x
  domain_for : Target → Wanted
  -- of f(e) := v, f being a relation: e has the type of its first parts, and v that of its second parts
  index_for : Written → Wanted
  element_for : Written → Wanted

-- a term in its place
pub record Term : Type 0 where
  pub wanted : Wanted
  pub names : Names
  pub tree : RawTree

-- the term in a place that asks this of it
abbrev pub placed : Names → Wanted → RawTree → Term
placed names wanted tree = record { wanted = wanted; names = names; tree = tree }

-- where it stands
abbrev pub place : Term → ℕ
place t = place_of t.tree

-- whether a predicate is asked, and else an expression
abbrev pub wants_predicate : Wanted → Bool
wants_predicate a_predicate = true
wants_predicate _ = false
