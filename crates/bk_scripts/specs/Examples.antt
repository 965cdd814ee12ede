-- Small cases of what scripts are read in and of what rules stand for, to be checked by hand: the counter's get at the level of its
-- implementation, and an operation with an input.
use Rattle.std.specs.Prelude.{◌≡◌, ℕ, List, [], ◌∷◌, ◌++◌, Some, None, codes, map}
use Rattle.std.specs.Global.{Vec}
use Rattle.bk_val.specs.ValueType.{int_type}
use Rattle.bk_form.specs.Formula.{variable}
use Rattle.bk_raw.specs.Trees.WrittenType.{WrittenType, written_integer, written_bool, written_set, written_power}
use Rattle.bk_raw.specs.declared.script.NamePart.{NamePart}
use Rattle.bk_raw.specs.declared.script.NamePart.TheVariants.{Letters, Numeral}
use Rattle.bk_raw.specs.declared.script.RawTyped.{RawTyped}
use Rattle.bk_raw.specs.declared.script.RuleWord.{RuleWord}
use Rattle.bk_raw.specs.declared.script.RuleWord.TheVariants.{Hyp as HypWord, Fix as FixWord, Law as LawWord}
use Rattle.bk_raw.specs.Trees.ScriptTree.{RawRule, RawScript, RulePart, part_number, part_typed, part_law, part_place, in_goal}
use Rattle.bk_raw.specs.Meaning.ScopeReading.{names_in}
use Rattle.bk_raw.specs.Meaning.Names.{found, unseen, seen}
use Rattle.bk_dev.specs.Development.{Development}
use Rattle.bk_dev.specs.declared.kind.Home.TheVariants.{Constant, Input}
use Rattle.bk_dev.specs.Counter.{counter}
use Rattle.bk_kernel.specs.declared.rule.Rule.TheVariants.{Hyp, Fix, Law, Unread}
use Rattle.bk_kernel.specs.declared.rule.Place.TheVariants.{Goal}
use Rattle.bk_form.specs.Formula.{Formula}
use Rattle.bk_scripts.specs.Sight.{level_of, operation_of}
use Rattle.bk_scripts.specs.Brought.{new_names, widened, script_scope}
use Rattle.bk_scripts.specs.LawNames.{law_number}
use Rattle.bk_scripts.specs.Parts.{Around}
use Rattle.bk_scripts.specs.Grounding.{StandsFor, around_script}

-- a name with its written type
abbrev pub typed : List ℕ → WrittenType → RawTyped
typed text ty = record { name = record { at = 0; text = text }; ty = ty }

-- a rule with these parts
abbrev pub rule : RuleWord → List RulePart → RawRule
rule word parts = record { word = word; at = 0; parts = parts }

-- a script of one rule that brings names
abbrev pub fixing : List NamePart → List RawTyped → RawScript
fixing name xs = record { at = 0; name_at = 6; name = name; rules = rule FixWord (part_typed xs ∷ []) ∷ [] }

-- Counter_i.get.1 ; u twice, and w of a set that is none
abbrev pub below : RawScript
below = fixing (Letters (codes "Counter_i") ∷ Letters (codes "get") ∷ Numeral 1 ∷ [])
    (typed (codes "u") written_integer ∷ typed (codes "w") (written_set (codes "T")) ∷ typed (codes "u") written_integer ∷ [])

-- Counter.get.1 ; no names
abbrev pub above : RawScript
above = fixing (Letters (codes "Counter") ∷ Letters (codes "get") ∷ Numeral 1 ∷ []) []

-- a development with a constant c, the variable 4, and an input c, the variable 5, of reset; there is a set k with the element e
abbrev pub with_input : Development
with_input = record counter {
  table = record {
    sets = record { name = codes "k"; elements = codes "e" ∷ []; size = 1 } ∷ [];
    variables =
        counter.table.variables ++ record { text = codes "c"; of_type = int_type } ∷ record { text = codes "c"; of_type = int_type } ∷ [];
  };
  homes = counter.homes ++ Constant ∷ Input ∷ [];
  heads = record { name = codes "reset"; inputs = 5 ∷ []; outputs = 0 } ∷ [];
  sets = record { name = codes "k"; elements = codes "e" ∷ []; size = 1 } ∷ [];
  extents = (1, 6) ∷ (1, 6) ∷ [];
}

-- the same where k, e and c are the implementation's
abbrev pub with_lower : Development
with_lower = record with_input { extents = (0, 4) ∷ (1, 6) ∷ [] }

-- Counter.reset.1 ; c, the input, and e of subsets of k
abbrev pub resetting : RawScript
resetting = fixing (Letters (codes "Counter") ∷ Letters (codes "reset") ∷ Numeral 1 ∷ [])
    (typed (codes "c") written_integer ∷ typed (codes "e") (written_power (written_set (codes "k"))) ∷ [])

-- Counter.get.1 in it: no input is in scope
abbrev pub getting : RawScript
getting = fixing (Letters (codes "Counter") ∷ Letters (codes "get") ∷ Numeral 1 ∷ []) []

-- what lies around a script of the counter's implementation
abbrev pub around_below : Around
around_below = around_script counter.table counter below

-- what lies around a script of an operation with an input
abbrev pub around_reset : Around
around_reset = around_script with_input.table with_input resetting

-- small scripts, names and rules with what they stand for
pub record GroundingExamples : Type 0 where
  -- ---- names
  pub its_level : level_of counter below.name ≡ Some 1
  pub its_operation : operation_of counter below.name ≡ Some 2
  -- each name once
  pub new_below : map (λ x. x.name.text) (new_names counter.table counter below) ≡ codes "u" ∷ codes "w" ∷ []
  pub wide_below : (widened counter.table counter below).variables ≡
      counter.table.variables ++ record { text = codes "u"; of_type = int_type } ∷ []
  -- n$0, n$1, r$0, r$1, u, and w, which means nothing
  pub scope_below : (script_scope counter.table counter below).names ≡
      (codes "n$0", 0) ∷ (codes "n$1", 1) ∷ (codes "r$0", 2) ∷ (codes "r$1", 3) ∷ (codes "u", 4) ∷ (codes "w", 4294967295) ∷ []
  -- at the machine's level nothing of the implementation is in scope
  pub scope_above : (script_scope counter.table counter above).names ≡ (codes "n$0", 0) ∷ (codes "r$0", 2) ∷ []
  -- an input that is brought is no new name; an element's name is new, and its type is a set of elements of k
  pub new_reset : map (λ x. x.name.text) (new_names with_input.table with_input resetting) ≡ codes "e" ∷ []
  -- the input is meant and not the constant; without the operation it is the constant
  pub input_meant : found 0 (names_in around_reset.table around_reset.scope) (codes "c") ≡ seen (variable 5) int_type
  pub constant_meant : found 0 (names_in (widened with_input.table with_input getting) (script_scope with_input.table with_input getting))
      (codes "c") ≡ seen (variable 4) int_type
  -- the implementation's constant is meant at its own obligations, and
  -- nothing is at the machine's, where its set and element are hidden too
  pub own_constant : found 0 (names_in (widened with_lower.table with_lower below) (script_scope with_lower.table with_lower below))
      (codes "c") ≡ seen (variable 4) int_type
  pub lower_constant : found 0
      (names_in (widened with_lower.table with_lower getting) (script_scope with_lower.table with_lower getting)) (codes "c") ≡ unseen
  pub lower_set : found 0 (names_in (widened with_lower.table with_lower getting) (script_scope with_lower.table with_lower getting))
      (codes "k") ≡ unseen
  pub lower_element : found 0
      (names_in (widened with_lower.table with_lower getting) (script_scope with_lower.table with_lower getting)) (codes "e") ≡ unseen
  -- a name without a type means nothing
  pub w_is_unseen : found 0 (names_in around_below.table around_below.scope) (codes "w") ≡ unseen
  -- ---- laws
  pub law_in_place : law_number (codes "O5") ≡ Some 105
  pub the_last : law_number (codes "M65") ≡ Some 365
  pub past_the_last : law_number (codes "G29") ≡ None
  pub with_a_nought : law_number (codes "G01") ≡ None
  -- ---- rules
  pub nought : StandsFor around_below (rule HypWord (part_number 0 ∷ [])) (Hyp 0)
  pub too_great : StandsFor around_below (rule HypWord (part_number 4294967296 ∷ [])) Unread
  pub two_numbers : StandsFor around_below (rule HypWord (part_number 1 ∷ part_number 2 ∷ [])) Unread
  pub new_name : (ns : Vec ℕ) → ns.items ≡ 4 ∷ [] →
      StandsFor around_below (rule FixWord (part_typed (typed (codes "u") written_integer ∷ []) ∷ [])) (Fix ns)
  pub an_input : (ns : Vec ℕ) → ns.items ≡ 5 ∷ [] →
      StandsFor around_reset (rule FixWord (part_typed (typed (codes "c") written_integer ∷ []) ∷ [])) (Fix ns)
  pub other_type : StandsFor around_below (rule FixWord (part_typed (typed (codes "u") written_bool ∷ []) ∷ [])) Unread
  pub no_type : StandsFor around_below (rule FixWord (part_typed (typed (codes "w") (written_set (codes "T")) ∷ []) ∷ [])) Unread
  pub a_law : (fs : Vec Formula) → fs.items ≡ [] → (path : Vec ℕ) → path.items ≡ 1 ∷ [] →
      StandsFor around_below (rule LawWord (part_law (codes "O5") [] ∷ part_place (in_goal (1 ∷ [])) ∷ [])) (Law 105 fs (Goal path))
