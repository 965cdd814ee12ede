-- The code of operators, of names and of writes to arrays, as the translation has it.
use Rattle.std.proofs.Common.{◌≡◌, ◌⊎◌, inl, inr, ◌≤◌, ◌<◌, ℕ, ◌+◌, pos, List, [], ◌∷◌, ◌++◌, length, refl, sym, ◌∙◌, ap, subst, Bool, true, false, cond, nat_eq, Some, None, arith, append_assoc}
use Rattle.std.specs.Prelude.{slice_index_or}
use Rattle.std.proofs.lemmas.List.{append-nil}
use Rattle.bk_form.specs.Formula.{Formula, variable, unary, binary}
use Rattle.bk_form.specs.declared.arrays.ArrayRow.{ArrayRow}
use Rattle.bk_form.specs.declared.operator.UnOp.{UnOp}
use Rattle.bk_form.specs.declared.operator.UnOp.TheVariants.{Not, BoolOf, Neg as Negative, Single}
use Rattle.bk_form.specs.declared.operator.BinOp.{BinOp}
use Rattle.bk_form.specs.declared.operator.BinOp.TheVariants.{And, Or, Eq as Equal, Lt as Less, Le as LessOrEqual, Add as Sum, Sub as Difference, Mul as Product, Div as Quotient, Mod as Remainder, Apply, Over, Maps}
use Rattle.bk_gsl.specs.Substitution.{Substitution, if_else}
use Rattle.bk_gsl.proofs.States.{nat_eq-self}
use Rattle.bk_code.specs.declared.instruction.Inst.{Inst}
use Rattle.bk_form.specs.ArrayTable.{row_of}
use Rattle.bk_dev.specs.Layout.{index_count, row_cells}
use Rattle.bk_code.specs.declared.instruction.Inst.TheVariants.{Push, ALoad, AStore, Jump, JumpZero}
use Rattle.bk_b0.specs.CodeUnit.{CodeUnit, first_of, unit_places}
use Rattle.bk_b0.specs.Kinds.{literal_number}
use Rattle.bk_b0.specs.Places.{Places, placed_name, placed_load, least_index, fill, placed_value, placed_write, placed_array, placed_store, placed_assignment, placed_statement}
use Rattle.bk_gen.specs.Executed.{IsSign, IsOperator, sign_code, fork_code, operated, constant_or_cell, HasArrayCode, written_code, IsWrite, IsFilling, HasStoreCode, HasAssignmentCode}
use Rattle.bk_gen.specs.Sizes.{store_size, assignment_size}

-- ---- operators
pub signed : (p : Places) (o : UnOp) (a : Formula) → IsSign o → placed_value p (unary o a) ≡ placed_value p a ++ sign_code o
signed p Negative a h = refl
signed p Not a h = refl
signed p BoolOf a h = sym (append-nil (placed_value p a))
signed p o a h = absurd h

pub operation_is : (p : Places) (o : BinOp) (a b : Formula) → IsOperator p o a → placed_value p (binary o a b) ≡ operated p o a b
operation_is p Sum a b h = refl
operation_is p Difference a b h = refl
operation_is p Product a b h = refl
operation_is p Quotient a b h = refl
operation_is p Remainder a b h = refl
operation_is p Equal a b h = refl
operation_is p Less a b h = refl
operation_is p LessOrEqual a b h = refl
operation_is p And a b h = append_assoc (placed_value p a) (JumpZero (pos (length (placed_value p b) + 2)) ∷ placed_value p b) (Jump (pos 2) ∷ Push (pos 0) ∷ [])
operation_is p Or a b h = refl
operation_is p Apply (variable f) b h = refl
operation_is p Apply a b h = absurd h
operation_is p o a b h = absurd h

pub branches_code : (p : Places) (q : Formula) (s t : Substitution) → placed_statement p (if_else q s t) ≡ placed_value p q ++ fork_code (placed_statement p s) (placed_statement p t)
branches_code p q s t = append_assoc (placed_value p q) (JumpZero (pos (length (placed_statement p s) + 2)) ∷ placed_statement p s) (Jump (pos (length (placed_statement p t) + 1)) ∷ placed_statement p t)

-- ---- names
pub named_is : (p : Places) (x : ℕ) (cs : List (ℕ × Formula)) → constant_or_cell (p.first_cell x) x cs ∷ [] ≡ placed_name p x cs
named_is p x [] = refl
named_is p x (c ∷ cs) = by_test (nat_eq x c.0) (named_is p x cs)
  where
    by_test : (b : Bool) → constant_or_cell (p.first_cell x) x cs ∷ [] ≡ placed_name p x cs → cond b (Push (literal_number c.1)) (constant_or_cell (p.first_cell x) x cs) ∷ [] ≡ cond b (Push (literal_number c.1) ∷ []) (placed_name p x cs)
    by_test true rest = refl
    by_test false rest = rest

-- ---- writes to arrays
module _ (p : Places) (x : ℕ) (r : ArrayRow) where
  write_is : (i v : Formula) → written_code p x r (binary Over (variable x) (unary Single (binary Maps i v))) ≡ placed_store p x (Some r) (binary Over (variable x) (unary Single (binary Maps i v)))
  write_is i v = by_test (nat_eq x x) (nat_eq-self x)
    where
      by_test : (b : Bool) → b ≡ true → placed_value p i ++ placed_value p v ++ placed_write p x r ≡ placed_array p x r (cond b (Some (i, v)) None) (binary Over (variable x) (unary Single (binary Maps i v)))
      by_test true e = refl
      by_test false e = absurd (cc)

  pub array_is : (f : Formula) → IsWrite p x f ⊎ IsFilling f → written_code p x r f ≡ placed_store p x (Some r) f
  array_is f (inl w) = subst (λ g. written_code p x r g ≡ placed_store p x (Some r) g) (sym w.is) (write_is w.index w.value)
  array_is f (inr w) = subst (λ g. written_code p x r g ≡ placed_store p x (Some r) g) (sym w.is) refl

pub array_has : (p : Places) (x : ℕ) (f : Formula) → IsWrite p x f ⊎ IsFilling f → HasArrayCode p f
array_has p x f (inl w) = subst (HasArrayCode p) (sym w.is) (w.has_index, w.has_value)
array_has p x f (inr w) = subst (HasArrayCode p) (sym w.is) w.has_value

-- ---- assignments
-- the code of a list with one assignment, whose first is looked at twice
pub one_assigned : (p : Places) (ps : List (ℕ × Formula)) (d e : ℕ × Formula) → 1 ≤ length ps → length ps < 2 → placed_assignment p ps ≡ placed_store p (slice_index_or ps 0 e).0 (p.row (slice_index_or ps 0 e).0) (slice_index_or ps 0 d).1
one_assigned p [] d e some few = absurd (omega (arith, some))
one_assigned p (q ∷ []) d e some few = refl
one_assigned p (q ∷ r ∷ ps) d e some few = absurd (omega (arith, few))

-- ---- the instructions of arrays of a unit
module _ (u : CodeUnit) (x : ℕ) (r : ArrayRow) (found : row_of u.arrays x ≡ Some r) where
  abbrev count : ℕ
  count = index_count u.table r.domain

  cells-are : (unit_places u).cells x ≡ count
  cells-are = ap (row_cells u.table) found

  -- the instruction that writes to an array
  pub written_is : ◌≡◌ {A = List Inst} (AStore (first_of x u.slots) (least_index r.domain) count ∷ []) (placed_write (unit_places u) x r)
  written_is = λ i. AStore (first_of x u.slots) (least_index r.domain) (sym cells-are i) ∷ []

  -- the instruction that reads it
  pub loaded_is : ◌≡◌ {A = List Inst} (ALoad (first_of x u.slots) (least_index r.domain) count ∷ []) (placed_load (unit_places u) x (row_of u.arrays x))
  loaded_is = (λ i. ALoad (first_of x u.slots) (least_index r.domain) (sym cells-are i) ∷ []) ∙ ap (placed_load (unit_places u) x) (sym found)

  -- a fill of it
  pub filled_is : (v : Formula) → fill (placed_value (unit_places u) v) (first_of x u.slots) count ≡ fill (placed_value (unit_places u) v) ((unit_places u).first_cell x) ((unit_places u).cells x)
  filled_is v = ap (fill (placed_value (unit_places u) v) (first_of x u.slots)) (sym cells-are)

-- ---- the one assignment of a list, whose first is looked at twice
pub one_has : (p : Places) (ps : List (ℕ × Formula)) (d e : ℕ × Formula) → 1 ≤ length ps → length ps < 2 → HasAssignmentCode p ps → HasStoreCode p (slice_index_or ps 0 e).0 (p.row (slice_index_or ps 0 e).0) (slice_index_or ps 0 d).1
one_has p [] d e some few h = absurd (omega (arith, some))
one_has p (q ∷ []) d e some few h = h
one_has p (q ∷ r ∷ ps) d e some few h = absurd (omega (arith, few))

pub one_size : (p : Places) (ps : List (ℕ × Formula)) (d e : ℕ × Formula) → 1 ≤ length ps → length ps < 2 → assignment_size p ps ≡ store_size (p.cells (slice_index_or ps 0 e).0) (p.row (slice_index_or ps 0 e).0) (slice_index_or ps 0 d).1
one_size p [] d e some few = absurd (omega (arith, some))
one_size p (q ∷ []) d e some few = refl
one_size p (q ∷ r ∷ ps) d e some few = absurd (omega (arith, few))
