-- Substitutions whose formulas type in a table.
-- Source: B-Book, type checking.
use Rattle.std.specs.Prelude.{◌≡◌, ℕ, List, [], ◌∷◌, Some}
use Rattle.bk_val.specs.ValueType.{ValueType, int_type}
use Rattle.bk_form.specs.Table.{Table, variable_type}
use Rattle.bk_form.specs.Formula.{Formula}
use Rattle.bk_form.specs.Role.{role, gives}
use Rattle.bk_gsl.specs.Substitution.{Substitution, skip, assign, pre, guard, choice, if_else, any, seq, par, assert, becomes_such, loop}
use Rattle.bk_form.specs.Predicates.{IsPredicate}

-- a term that gives this type, with no loose bound number
abbrev pub IsTerm : Table → ValueType → Formula → Type 0
IsTerm table t f = role table [] f ≡ gives t

-- the table lists the variable
abbrev pub IsListed : Table → ℕ → Type 0
IsListed table n = (t : ValueType) × (variable_type table n ≡ Some t)

-- the table lists each of the variables
abbrev pub AreListed : Table → List ℕ → Type 0
AreListed table [] = Unit {0}
AreListed table (n ∷ ns) = IsListed table n × AreListed table ns

-- each term gives its variable's type
abbrev pub AreTypedTerms : Table → List (ℕ × Formula) → Type 0
AreTypedTerms table [] = Unit {0}
AreTypedTerms table (p ∷ ps) = ((t : ValueType) × (variable_type table p.0 ≡ Some t) × IsTerm table t p.1) × AreTypedTerms table ps

-- each number for an old value has its variable's type
abbrev pub AreTypedPairs : Table → List (ℕ × ℕ) → Type 0
AreTypedPairs table [] = Unit {0}
AreTypedPairs table (x ∷ xs) =
    ((t : ValueType) × (variable_type table x.0 ≡ Some t) × (variable_type table x.1 ≡ Some t)) × AreTypedPairs table xs

-- all its formulas and variables type
abbrev pub Types : Table → Substitution → Type 0
Types table skip = Unit {0}
Types table (assign ps) = AreTypedTerms table ps
Types table (pre p s) = IsPredicate table p × Types table s
Types table (guard p s) = IsPredicate table p × Types table s
Types table (choice s t) = Types table s × Types table t
Types table (if_else p s t) = IsPredicate table p × Types table s × Types table t
Types table (any zs s) = AreListed table zs × Types table s
Types table (seq s t) = Types table s × Types table t
Types table (par s t) = Types table s × Types table t
Types table (assert p s) = IsPredicate table p × Types table s
Types table (becomes_such xs p) = AreTypedPairs table xs × IsPredicate table p
Types table (loop p s i v) = IsPredicate table p × Types table s × IsPredicate table i × IsTerm table int_type v
