-- A false law is no true one: the statement can fail.
use Rattle.std.proofs.Common.{◌≡◌, ℕ, zero, suc, arith, [], refl, ap, true, false}
use Rattle.bk_val.specs.Value.{bool}
use Rattle.bk_form.specs.Table.{empty_table, variable_type, set_size}
use Rattle.bk_form.specs.Role.{predicate, untyped}
use Rattle.std.specs.Prelude.{Some}
use Rattle.bk_val.specs.ValueType.{ValueType, is_value_of}
use Rattle.bk_form.specs.Formula.{Formula, btrue, bfalse, binary}
use Rattle.bk_form.specs.Search.{Finder, IsSearch}
use Rattle.bk_form.specs.Environment.{Environment}
use Rattle.bk_form.specs.declared.operator.BinOp.TheVariants.{And}
use Rattle.bk_laws.specs.Rows.{Instance}
use Rattle.bk_laws.specs.Laws.{IsTrueLaw}

nowhere : Environment
nowhere = record { table = empty_table; state = λ n. bool false; bound = [] }

no-variable : (n : ℕ) (t : ValueType) → variable_type empty_table n ≡ Some t → is_value_of (set_size empty_table) t (bool false) ≡ true
no-variable zero t h = absurd (cc)
no-variable (suc n) t h = absurd (cc)

not-untyped : predicate ≡ untyped → ⊥
not-untyped h = cc

abbrev left-alone : Formula → Formula → Instance
left-alone p q = record { sides = []; left = binary And p q; right = p }

pub not-left-alone : (find : Finder) → IsSearch find → IsTrueLaw (left-alone btrue bfalse) → ⊥
unfolding nowhere
not-left-alone find search h =
    let same = h find nowhere (record {
      search = search;
      well = record { counted = λ k d l. absurd (omega arith); listed = λ k d l. absurd (omega arith) };
      typed = record { variables = no-variable; bound_numbers = refl };
    }) (record { types = not-untyped; one_role = refl }) tt in
    let z : false ≡ true = ap (λ m. m.truth) same in
    cc
