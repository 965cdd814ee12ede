-- Names of scripts as keys. Only private contracts cite it; proofs/ shows that two names with one key are the same.
use Rattle.std.specs.Prelude.{◌≡◌, ◌≢◌, ◌<◌, ◌^◌, ℕ, List, ◌∷◌, ◌++◌, length, map, All, Contains}
use Rattle.std.specs.List.{AllPairs, flat_map}
use Rattle.std.specs.Int.{to_le_bytes, w64, w128}
use Rattle.bk_raw.specs.declared.script.NamePart.{NamePart}
use Rattle.bk_raw.specs.declared.script.NamePart.TheVariants.{Letters, Numeral}
use Rattle.bk_raw.specs.Trees.ScriptTree.{RawScript}
use Rattle.bk_p_proof.specs.Files.{names_of}

-- a letter's mark, how many bytes there are, and these; or a number's mark and its bytes
abbrev pub part_key : NamePart → List ℕ
part_key (Letters text) = 1 ∷ (to_le_bytes w64 (length text) ++ text)
part_key (Numeral n) = 2 ∷ to_le_bytes w128 n

-- the numbers by which a name of a script is told apart from others
abbrev pub name_key : List NamePart → List ℕ
name_key name = flat_map part_key name

-- the length, or the number, has as many bytes as its key has for it
abbrev pub FitsKey : NamePart → Type 0
FitsKey (Letters text) = length text < 2 ^ 64
FitsKey (Numeral n) = n < 2 ^ 128

-- the same of each part of a name
abbrev pub NameFits : List NamePart → Type 0
NameFits name = All FitsKey name

-- the keys of the names, in order
pub record HasKeys (names : List (List NamePart)) (keys : List (List ℕ)) : Type 0 where
  pub keyed : map name_key names ≡ keys
  pub fit : All NameFits names

-- of these scripts the first whose name stands before starts its name here
pub record IsAgain (names : List (List NamePart)) (scripts : List RawScript) (place : ℕ) : Type 0 where
  pub first : List RawScript
  pub script : RawScript
  pub rest : List RawScript
  pub splits : scripts ≡ first ++ script ∷ rest
  pub so_far : AllPairs (λ a b. a ≢ b) (names ++ names_of first)
  pub again : Contains (names ++ names_of first) script.name
  pub starts : script.name_at ≡ place
