-- Terms for the variables of a binder, and names for them.
-- Source: B-Book.
use Rattle.std.specs.Prelude.{ℕ, nat_eq, Bool, true, false, not, ◌&&◌, List, [], ◌∷◌, map}
use Rattle.std.specs.List.{list_any, list_all}
use Rattle.bk_val.specs.ValueType.{ValueType}
use Rattle.bk_form.specs.Table.{Table}
use Rattle.bk_form.specs.Formula.{Formula, variable}
use Rattle.bk_form.specs.Replacement.{occurs}
use Rattle.bk_form.specs.Role.{Role, gives, same_type, role}
use Rattle.bk_seq.specs.Sequents.{Sequent}

-- whether it is a value of this type
abbrev pub gives_type : Role → ValueType → Bool
gives_type (gives u) t = same_type u t
gives_type _ t = false

-- one term for each type, which it gives
abbrev pub give_each : Table → List ValueType → List Formula → Bool
give_each table [] [] = true
give_each table (t ∷ ts) (f ∷ fs) = gives_type (role table [] f) t && give_each table ts fs
give_each table _ _ = false

-- the terms that names are
abbrev pub names_of : List ℕ → List Formula
names_of ns = map variable ns

-- the variable stands in none of them
abbrev pub is_new : List Formula → ℕ → Bool
is_new fs n = list_all (λ f. not (occurs n f)) fs

-- each number once
abbrev pub are_distinct : List ℕ → Bool
are_distinct [] = true
are_distinct (n ∷ ns) = not (list_any (nat_eq n) ns) && are_distinct ns

-- names of these types, each once, that stand in no formula of the sequent
abbrev pub are_fresh : Table → Sequent → List ValueType → List ℕ → Bool
are_fresh table s ts ns = give_each table ts (names_of ns) && are_distinct ns && list_all (is_new (s.1 ∷ s.0)) ns
