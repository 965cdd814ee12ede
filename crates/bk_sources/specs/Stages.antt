-- What is known of files between two passes over them. Only private contracts cite it.
use Rattle.std.specs.Prelude.{ℕ, List}
use Rattle.bk_lex.specs.Faults.{IsFaultOf as IsLexFaultOf}
use Rattle.bk_lex.specs.declared.fault.LexFault.{LexFault}
use Rattle.bk_sources.specs.Files.{Has, IsCut, IsFirst}

-- this is what stands at fault in the first text of which it is not so
abbrev pub IsFileFault : List (List ℕ) → ℕ → LexFault → Type 0
IsFileFault texts file error = IsFirst (Has IsCut) (λ text. IsLexFaultOf text error) texts file
