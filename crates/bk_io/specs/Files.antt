-- Files by name, and what a shelf answers of one.
use Rattle.std.specs.Prelude.{◌≡◌, ℕ, ◌<◌, ◌≤◌, ◌⊎◌, List, [], ◌∷◌, ◌++◌, length, map, nat_eq}
use Rattle.std.specs.Prelude.{Option, Some, None, Result, Err, OnOk, String, string_bytes, Vec}
use Rattle.std.specs.Cmp.Lexicographic.{pointwise}
use Rattle.std.specs.Map.{lookup}
use Rattle.std.specs.declared.alloc.Global.{Global}
use Rattle.bk_io.specs.declared.shelf.Fetch.{Fetch}
use Rattle.bk_io.specs.declared.shelf.Fetch.TheVariants.{Missing, TooLong, Memory}

-- a finite map from names to bytes, as its pairs
abbrev pub Files : Type 0
Files = List (List ℕ × List ℕ)

-- the bytes of the file with this name, if there is one
abbrev pub file_named : Files → List ℕ → Option (List ℕ)
file_named files name = lookup (pointwise nat_eq name) files

-- no two files have one name: each file's name is none of those after it
abbrev pub HasDistinctNames : Files → Type 0
HasDistinctNames [] = Unit {0}
HasDistinctNames (file ∷ files) = (file_named files file.0 ≡ None) × HasDistinctNames files

-- the files that a program's list holds
abbrev pub files_of : List (String Global × Vec ℕ Global) → Files
files_of files = map (λ f. (string_bytes f.0, f.1.items)) files

-- the list has gained some bytes at its end, at most max of them
pub record GainsUpTo (max : ℕ) (old new : List ℕ) : Type 0 where
  pub bytes : List ℕ
  pub within : length bytes ≤ max
  pub gained : new ≡ old ++ bytes

-- the file is there with at most max bytes, and the list has gained them at its end
pub record GainsFile (file : Option (List ℕ)) (max : ℕ) (old new : List ℕ) : Type 0 where
  pub bytes : List ℕ
  pub found : file ≡ Some bytes
  pub within : length bytes ≤ max
  pub gained : new ≡ old ++ bytes

-- the file is there and has more than max bytes
pub record IsLonger (file : Option (List ℕ)) (max : ℕ) : Type 0 where
  pub bytes : List ℕ
  pub found : file ≡ Some bytes
  pub longer : max < length bytes

-- What each answer says of a file that is told, and when it has to come; want of memory may come in its place.
pub record AnswersFile (file : Option (List ℕ)) (max : ℕ) (FaultRose : Type 0)
    (old new : List ℕ) (result : Result Unit Fetch) : Type 0 where
  pub ok : OnOk result (GainsFile file max old new)
  pub missing : result ≡ Err Missing → (file ≡ None) × ¬ FaultRose
  pub too_long : result ≡ Err TooLong → IsLonger file max × ¬ FaultRose
  pub absent : file ≡ None → ¬ FaultRose → (result ≡ Err Missing) ⊎ (result ≡ Err Memory)
  pub longer : IsLonger file max → ¬ FaultRose → (result ≡ Err TooLong) ⊎ (result ≡ Err Memory)
