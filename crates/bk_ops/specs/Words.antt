-- The words of the notation: those of clauses, those of formulas, and further ones, of which most are reserved.
-- Source: B Language Reference Manual.
use Rattle.std.specs.Prelude.{ℕ, List, [], ◌∷◌, codes}

-- in the order of their numbers
abbrev pub word_texts : List (List ℕ)
word_texts =
    codes "MACHINE" ∷ codes "REFINEMENT" ∷ codes "IMPLEMENTATION" ∷ codes "REFINES" ∷ codes "SETS" ∷
    codes "CONSTANTS" ∷ codes "CONCRETE_CONSTANTS" ∷ codes "PROPERTIES" ∷ codes "VARIABLES" ∷
    codes "ABSTRACT_VARIABLES" ∷ codes "CONCRETE_VARIABLES" ∷ codes "INVARIANT" ∷ codes "ASSERTIONS" ∷
    codes "VALUES" ∷ codes "INITIALISATION" ∷ codes "OPERATIONS" ∷ codes "END" ∷ codes "BEGIN" ∷ codes "PRE" ∷
    codes "THEN" ∷ codes "IF" ∷ codes "ELSIF" ∷ codes "ELSE" ∷ codes "SELECT" ∷ codes "WHEN" ∷ codes "CHOICE" ∷
    codes "OR" ∷ codes "ANY" ∷ codes "WHERE" ∷ codes "LET" ∷ codes "BE" ∷ codes "IN" ∷ codes "VAR" ∷ codes "WHILE" ∷
    codes "DO" ∷ codes "VARIANT" ∷ codes "ASSERT" ∷ codes "skip" ∷ codes "or" ∷ codes "not" ∷ codes "mod" ∷
    codes "card" ∷ codes "min" ∷ codes "max" ∷ codes "dom" ∷ codes "ran" ∷ codes "id" ∷ codes "succ" ∷ codes "pred" ∷
    codes "bool" ∷ codes "BOOL" ∷ codes "TRUE" ∷ codes "FALSE" ∷ codes "INTEGER" ∷ codes "NATURAL" ∷
    codes "NATURAL1" ∷ codes "INT" ∷ codes "NAT" ∷ codes "NAT1" ∷ codes "MAXINT" ∷ codes "MININT" ∷ codes "POW" ∷
    codes "POW1" ∷ codes "FIN" ∷ codes "FIN1" ∷ codes "btrue" ∷ codes "bfalse" ∷ codes "ABSTRACT_CONSTANTS" ∷
    codes "SEES" ∷ codes "USES" ∷ codes "INCLUDES" ∷ codes "EXTENDS" ∷ codes "PROMOTES" ∷ codes "IMPORTS" ∷
    codes "DEFINITIONS" ∷ codes "LOCAL_OPERATIONS" ∷ codes "CONSTRAINTS" ∷ codes "CASE" ∷ codes "OF" ∷
    codes "EITHER" ∷ codes "seq" ∷ codes "size" ∷ codes "first" ∷ codes "last" ∷ codes "front" ∷ codes "tail" ∷
    codes "rev" ∷ codes "UNION" ∷ codes "INTER" ∷ codes "SIGMA" ∷ codes "PI" ∷ codes "union" ∷ codes "inter" ∷
    codes "iterate" ∷ codes "closure" ∷ []
