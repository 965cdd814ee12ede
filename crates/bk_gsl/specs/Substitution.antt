-- Generalized substitutions, as in the B-Book, over variables by their numbers.
use Rattle.std.specs.Prelude.{ℕ, List}
use Rattle.bk_form.specs.Formula.{Formula}

-- what an initialisation or an operation does to the variables
pub data Substitution : Type 0 where
  -- nothing changes
  skip : Substitution
  -- several variables at once, each with its term
  assign : List (ℕ × Formula) → Substitution
  -- P | S: PRE P THEN S END
  pre : Formula → Substitution → Substitution
  -- P ==> S
  guard : Formula → Substitution → Substitution
  -- S [] T
  choice : Substitution → Substitution → Substitution
  -- IF P THEN S ELSE T END
  if_else : Formula → Substitution → Substitution → Substitution
  -- @x.S, with local variables x
  any : List ℕ → Substitution → Substitution
  -- S ; T
  seq : Substitution → Substitution → Substitution
  -- S || T
  par : Substitution → Substitution → Substitution
  -- ASSERT P THEN S END
  assert : Formula → Substitution → Substitution
  -- x :(P), each variable with the number that stands for its old value in P
  becomes_such : List (ℕ × ℕ) → Formula → Substitution
  -- WHILE test DO body INVARIANT invariant VARIANT variant END
  loop : Formula → Substitution → Formula → Formula → Substitution
