-- Predicates, their parts, and lists of them.
-- Source: B-Book.
use Rattle.std.specs.Prelude.{◌≡◌, ℕ, true, List, [], ◌∷◌, ◌++◌}
use Rattle.bk_form.specs.Table.{Table}
use Rattle.bk_form.specs.Formula.{Formula, variable, btrue, binary}
use Rattle.bk_form.specs.Search.{Finder}
use Rattle.bk_form.specs.Environment.{Environment}
use Rattle.bk_form.specs.Role.{role, predicate}
use Rattle.bk_form.specs.Meaning.{truth}
use Rattle.bk_form.specs.declared.operator.BinOp.TheVariants.{And, Eq}

-- a predicate over the table, with no loose bound number
abbrev pub IsPredicate : Table → Formula → Type 0
IsPredicate table p = role table [] p ≡ predicate

-- v = w, of two variables
abbrev pub equation : ℕ × ℕ → Formula
equation p = binary Eq (variable p.0) (variable p.1)

-- the parts of a conjunction, from left to right, without btrue
abbrev pub conjuncts : Formula → List Formula
conjuncts (binary And p q) = conjuncts p ++ conjuncts q
conjuncts btrue = []
conjuncts p = p ∷ []

-- each of them is true
abbrev pub AllHold : Finder → Environment → List Formula → Type 0
AllHold find e [] = Unit {0}
AllHold find e (p ∷ ps) = (truth find e p ≡ true) × AllHold find e ps
