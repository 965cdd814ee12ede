-- Names in scope under which a printed formula reads back.
use Rattle.std.specs.Prelude.{◌≡◌, ℕ, List, [], ◌∷◌, Some}
use Rattle.bk_val.specs.ValueType.{ValueType, enum_type, pair_type, set_type}
use Rattle.bk_form.specs.Table.{Table, variable_type}
use Rattle.bk_form.specs.Formula.{Formula, variable, element, empty_set, named, unary, binary, for_all}
use Rattle.bk_form.specs.Formula.{for_some, comprehension, lambda, Formulas, no_formulas, formula_and}
use Rattle.bk_form.specs.declared.operator.Domain.{Domain}
use Rattle.bk_form.specs.declared.operator.Domain.TheVariants.{Enum}
use Rattle.bk_raw.specs.Meaning.Names.{Names, Meaning, local, seen, found}
use Rattle.bk_show.specs.Shown.{name_of_variable, name_of_set, name_of_element}

-- no bound variable
abbrev pub IsGlobal : Meaning → Type 0
IsGlobal (local t) = ⊥
IsGlobal _ = Unit {0}

-- no name in scope is that of a bound variable
abbrev pub HasNoLocals : Names → Type 0
HasNoLocals [] = Unit {0}
HasNoLocals (n ∷ ns) = IsGlobal n.meaning × HasNoLocals ns

-- the name of a set names the set
abbrev pub SetStands : Table → Names → ℕ → Type 0
SetStands table names s = found 0 names (name_of_set table s) ≡ seen (named (Enum s)) (set_type (enum_type s))

-- so does each name of a set in a type, in types, and in a domain
abbrev pub TypeStands : Table → Names → ValueType → Type 0
TypeStands table names (enum_type s) = SetStands table names s
TypeStands table names (pair_type t u) = TypeStands table names t × TypeStands table names u
TypeStands table names (set_type t) = TypeStands table names t
TypeStands table names _ = Unit {0}

-- each of these types stands in the table by its names
abbrev pub TypesStand : Table → Names → List ValueType → Type 0
TypesStand table names [] = Unit {0}
TypesStand table names (t ∷ ts) = TypeStands table names t × TypesStand table names ts

-- the set that a domain names stands in the table by its name
abbrev pub DomainStands : Table → Names → Domain → Type 0
DomainStands table names (Enum s) = SetStands table names s
DomainStands table names _ = Unit {0}

abbrev mutual
  -- each text of a variable, a set or an element in the formula names what it stands for
  pub Stands : Table → Names → Formula → Type 0
  Stands table names (variable n) = (t : ValueType) → variable_type table n ≡ Some t →
      found 0 names (name_of_variable table n) ≡ seen (variable n) t
  Stands table names (element s i) = found 0 names (name_of_element table s i) ≡ seen (element s i) (enum_type s)
  Stands table names (empty_set t) = TypeStands table names t
  Stands table names (named d) = DomainStands table names d
  Stands table names (unary o a) = Stands table names a
  Stands table names (binary o a b) = Stands table names a × Stands table names b
  Stands table names (for_all ts p) = TypesStand table names ts × Stands table names p
  Stands table names (for_some ts p) = TypesStand table names ts × Stands table names p
  Stands table names (comprehension rs p) = EachStands table names rs × Stands table names p
  Stands table names (lambda rs p e) = EachStands table names rs × Stands table names p × Stands table names e
  Stands table names _ = Unit {0}

  pub EachStands : Table → Names → Formulas → Type 0
  EachStands table names no_formulas = Unit {0}
  EachStands table names (formula_and f fs) = Stands table names f × EachStands table names fs
