-- Small cases, to be checked by hand: what formulas print as.
use Rattle.std.specs.Prelude.{◌≡◌, ℕ, pos, negsuc, [], ◌∷◌, Some, codes}
use Rattle.bk_val.specs.ValueType.{int_type, bool_type, enum_type, pair_type, set_type}
use Rattle.bk_form.specs.Table.{Table}
use Rattle.bk_form.specs.Formula.{Formula, variable, bound, literal, element, empty_set, named, unary, binary}
use Rattle.bk_form.specs.Formula.{for_all, for_some, comprehension, lambda, no_formulas, formula_and}
use Rattle.bk_form.specs.declared.operator.UnOp.TheVariants.{Not, Neg, Dom, Inverse, Single}
use Rattle.bk_form.specs.declared.operator.BinOp.TheVariants.{And, Eq, Lt, In, Union, TotalFunctions, Maps, Range, Sub, Image, Apply, Comp}
use Rattle.bk_form.specs.declared.operator.Domain.TheVariants.{Integer, Enum}
use Rattle.bk_form.specs.Role.{role, predicate}
use Rattle.bk_raw.specs.Meaning.Names.{Names, global, set_name, element_name}
use Rattle.bk_show.specs.Shown.{shown}
use Rattle.bk_show.specs.Binders.{Binds}
use Rattle.bk_show.specs.Readable.{IsReadable}
use Rattle.bk_show.specs.Stands.{HasNoLocals, Stands}

-- the set S = {a, b}, and the variables r$1 and s, relations of numbers, and n
abbrev pub table : Table
table = record {
  sets = record { name = codes "S"; elements = codes "a" ∷ codes "b" ∷ []; size = 2 } ∷ [];
  variables =
      record { text = codes "r$1"; of_type = set_type (pair_type int_type int_type) } ∷
      record { text = codes "s"; of_type = set_type (pair_type int_type int_type) } ∷
      record { text = codes "n"; of_type = int_type } ∷ [];
}

abbrev r : Formula
r = variable 0

abbrev s : Formula
s = variable 1

abbrev n : Formula
n = variable 2

abbrev number : ℕ → Formula
number k = literal (pos k)

abbrev below : Formula
below = binary Range (number 0) (number 3)

-- names in scope that are those of the table
abbrev pub scope : Names
scope =
    record { text = codes "b"; meaning = element_name 0 1 } ∷ record { text = codes "a"; meaning = element_name 0 0 } ∷
    record { text = codes "S"; meaning = set_name 0 } ∷ record { text = codes "n"; meaning = global 2 (Some int_type) } ∷
    record { text = codes "s"; meaning = global 1 (Some (set_type (pair_type int_type int_type))) } ∷
    record { text = codes "r$1"; meaning = global 0 (Some (set_type (pair_type int_type int_type))) } ∷ []

-- !($1:POW(S)).(#($2:INTEGER).((b : $1) & ((r$1(n) = $2) & ($1 = {:POW(S)}))))
abbrev pub sample : Formula
sample = for_all (set_type (enum_type 0) ∷ []) (for_some (int_type ∷ []) (binary And (binary In (element 0 1) (bound 1))
    (binary And (binary Eq (binary Apply r n) (bound 0)) (binary Eq (bound 1) (empty_set (set_type (enum_type 0)))))))

-- the premises under which a text reads back are met by a formula that types
pub record PremisesAreMet : Type 0 where
  pub no_locals : HasNoLocals scope
  pub types : role table [] sample ≡ predicate
  pub binds : Binds sample
  pub named : IsReadable table 0 sample
  pub stands : Stands table scope sample
  pub text : shown table sample ≡ codes "!($1:POW(S)).(#($2:INTEGER).((b : $1) & ((r$1(n) = $2) & ($1 = {:POW(S)}))))"

-- small formulas with their texts
pub record Examples : Type 0 where
  -- a binary form has parentheses inside another one, and none where it is the whole
  pub whole : shown table (binary Sub (binary Sub n (number 1)) (binary Sub n n)) ≡ codes "(n - 1) - (n - n)"
  -- a composition has its own everywhere
  pub composition : shown table (unary Dom (binary Comp r s)) ≡ codes "dom((r$1 ; s))"
  pub chain : shown table (binary Comp (binary Comp r s) (unary Inverse r)) ≡ codes "((r$1 ; s) ; r$1~)"
  pub turned : shown table (unary Inverse (binary Comp r s)) ≡ codes "((r$1 ; s))~"
  pub single : shown table (unary Inverse (unary Single (binary Maps n n))) ≡ codes "({n |-> n})~"
  pub image : shown table (binary Image (binary Union r s) below) ≡ codes "(r$1 \\/ s)[0 .. 3]"
  pub apply : shown table (binary Eq (binary Apply r (number 2)) (literal (negsuc 4))) ≡ codes "r$1(2) = -5"
  pub negative : shown table (binary Sub (unary Neg (literal (negsuc 4))) (literal (negsuc 4))) ≡ codes "-(-5) - -5"
  -- bound variables are counted from the outside, types are written out
  pub quantifier : shown table (for_all (int_type ∷ set_type (pair_type int_type (enum_type 0)) ∷ [])
      (for_some (bool_type ∷ []) (unary Not (binary Eq (bound 1) (empty_set (set_type (pair_type int_type (enum_type 0)))))))) ≡
      codes "!($1:INTEGER,$2:POW((INTEGER * S))).(#($3:BOOL).(not($2 = {:POW((INTEGER * S))})))"
  -- ranges, bodies and values are parts
  pub comprehension : shown table (comprehension (formula_and below no_formulas) (binary Lt (bound 0) (number 3))) ≡
      codes "{$1:(0 .. 3) | ($1 < 3)}"
  pub lambda : shown table (lambda (formula_and below (formula_and (named (Enum 0)) no_formulas))
      (binary Eq (bound 0) (element 0 1)) (binary Sub (bound 1) n)) ≡ codes "%($1:(0 .. 3),$2:S).(($2 = b) | ($1 - n))"
  pub arrow : shown table (binary In r (binary TotalFunctions below (named Integer))) ≡ codes "r$1 : ((0 .. 3) --> INTEGER)"
