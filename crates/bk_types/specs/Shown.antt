-- The mathematical role that a role of the program stands for.
use Rattle.bk_form.specs.Role.{Role as FormulaRole, gives, ranges_over, predicate, untyped}
use Rattle.bk_types.specs.declared.role.Role.{Role}
use Rattle.bk_types.specs.declared.role.Role.TheVariants.{Value, Domain, Predicate, Nothing}

-- what it stands for
abbrev pub shown_role : Role → FormulaRole
shown_role (Value t) = gives t
shown_role (Domain t) = ranges_over t
shown_role Predicate = predicate
shown_role Nothing = untyped
