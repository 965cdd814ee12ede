-- What is kept of something that is read. Of what is too high only the names with their types are. Only private contracts
-- cite it.
use Rattle.std.specs.Prelude.{◌≡◌, ◌<◌, ◌≤◌, ℕ, Bool, true, false, List, map}
use Rattle.std.specs.List.{flat_map}
use Rattle.bk_limits.specs.declared.TheConstants.{GREATEST_TREE_HEIGHT}
use Rattle.bk_raw.specs.Trees.Numbers.{greatest}
use Rattle.bk_raw.specs.declared.script.RawTyped.{RawTyped}
use Rattle.bk_raw.specs.Trees.ScriptTree.{RulePart, part_height, RawRule, RawScript, script_height}
use Rattle.bk_p_proof.specs.TypedNames.{part_names, rule_names, script_names}

-- this is kept, and told to be too high or not
abbrev pub IsKept : {A B : Type 0} → (A → ℕ) → (A → B) → A → A → Bool → Type 0
IsKept height names x kept false = (kept ≡ x) × (height x ≤ GREATEST_TREE_HEIGHT)
IsKept height names x kept true = (names kept ≡ names x) × (GREATEST_TREE_HEIGHT < height x)

-- the height of the highest term of parts
abbrev pub parts_height : List RulePart → ℕ
parts_height ps = greatest (map part_height ps)

-- the names that parts of a rule bring, with their types
abbrev pub parts_names : List RulePart → List RawTyped
parts_names ps = flat_map part_names ps

-- of a rule, and of rules
abbrev pub rule_height : RawRule → ℕ
rule_height r = parts_height r.parts

-- the greatest height of a term in the rules
abbrev pub rules_height : List RawRule → ℕ
rules_height rs = greatest (map rule_height rs)

-- the names that rules bring, with their types
abbrev pub rules_names : List RawRule → List RawTyped
rules_names rs = flat_map rule_names rs

-- of scripts
abbrev pub file_height : List RawScript → ℕ
file_height ss = greatest (map script_height ss)

-- for each script the names that it brings, with their types
abbrev pub file_names : List RawScript → List (List RawTyped)
file_names ss = map script_names ss

-- ---- what is kept
-- what was read is this part, with its height and its names
abbrev pub IsPart : RulePart → RulePart → Bool → Type 0
IsPart = IsKept part_height part_names

-- what was read are these parts, with their height and their names
abbrev pub AreParts : List RulePart → List RulePart → Bool → Type 0
AreParts = IsKept parts_height parts_names

-- what was read is this rule, with its height and its names
abbrev pub IsRule : RawRule → RawRule → Bool → Type 0
IsRule = IsKept rule_height rule_names

-- what was read are these rules, with their height and their names
abbrev pub AreRules : List RawRule → List RawRule → Bool → Type 0
AreRules = IsKept rules_height rules_names

-- what was read is this script, with its height and its names
abbrev pub IsScript : RawScript → RawScript → Bool → Type 0
IsScript = IsKept script_height script_names

-- what was read are these scripts, with their height and their names
abbrev pub AreScripts : List RawScript → List RawScript → Bool → Type 0
AreScripts = IsKept file_height file_names
