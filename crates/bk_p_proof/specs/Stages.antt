-- What is known of files between two passes over them. Only private contracts cite it.
use Rattle.std.specs.Prelude.{ℕ, List}
use Rattle.bk_raw.specs.Trees.ScriptTree.{RawScript}
use Rattle.bk_p_proof.specs.Files.{IsWritten, IsLow, IsProofFile, IsUnwritten}
use Rattle.bk_p_proof.specs.Kept.{AreScripts}
use Rattle.bk_p_proof.specs.declared.reading.FileScripts.{FileScripts}
use Rattle.bk_p_proof.specs.declared.reading.SpellFault.{SpellFault}
use Rattle.bk_p_proof.specs.declared.reading.SpellFault.TheVariants.{At, Memory}

-- a text at fault at this byte
abbrev pub IsUnwrittenAt : List ℕ → SpellFault → Type 0
IsUnwrittenAt text (At place) = IsUnwritten place text
IsUnwrittenAt text Memory = Unit {0}

-- what is kept of a text's scripts
abbrev pub IsKeptOf : List ℕ → FileScripts → Type 0
IsKeptOf text file = (ss : List RawScript) × IsWritten text ss × AreScripts ss file.scripts.items file.is_high

-- the scripts themselves
abbrev pub IsLowAs : List ℕ → FileScripts → Type 0
IsLowAs text file = IsLow text file.scripts.items

-- the text is a proof file of the scripts that were read
abbrev pub IsProofFileAs : List ℕ → FileScripts → Type 0
IsProofFileAs text file = IsProofFile text file.scripts.items
