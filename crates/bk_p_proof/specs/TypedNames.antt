-- The names that `fix` and `open` bring, each with its written type. A name has one type throughout a script.
use Rattle.std.specs.Prelude.{◌≡◌, ◌≢◌, ℕ, List, [], ◌∷◌, ◌++◌, All, Contains}
use Rattle.std.specs.List.{flat_map}
use Rattle.bk_raw.specs.declared.script.RawTyped.{RawTyped}
use Rattle.bk_raw.specs.Trees.ScriptTree.{RulePart, part_typed, RawRule, RawScript}

-- the names that a part of a rule brings
abbrev pub part_names : RulePart → List RawTyped
part_names (part_typed xs) = xs
part_names _ = []

-- those of a rule
abbrev pub rule_names : RawRule → List RawTyped
rule_names r = flat_map part_names r.parts

-- those of a script, in order
abbrev pub script_names : RawScript → List RawTyped
script_names s = flat_map rule_names s.rules

-- one of these is the same name with another type
abbrev pub IsOtherwise : List RawTyped → RawTyped → Type 0
IsOtherwise names x = (y : RawTyped) × Contains names y × (y.name.text ≡ x.name.text) × (y.ty ≢ x.ty)

-- no name is written with two types
abbrev pub AreOfOneType : List RawTyped → Type 0
AreOfOneType names = (before after : List RawTyped) (x : RawTyped) → names ≡ before ++ x ∷ after → IsOtherwise before x → ⊥

-- the first name that has another type before it starts at this byte
pub record IsSecondTypeOf (names : List RawTyped) (place : ℕ) : Type 0 where
  pub before : List RawTyped
  pub found : RawTyped
  pub after : List RawTyped
  pub splits : names ≡ before ++ found ∷ after
  pub so_far : AreOfOneType before
  pub otherwise : IsOtherwise before found
  pub starts : found.name.at ≡ place

-- the same in a file: in the first script where there is one
pub record IsSecondType (scripts : List RawScript) (place : ℕ) : Type 0 where
  pub before : List RawScript
  pub script : RawScript
  pub after : List RawScript
  pub splits : scripts ≡ before ++ script ∷ after
  pub so_far : All (λ s. AreOfOneType (script_names s)) before
  pub second : IsSecondTypeOf (script_names script) place
