-- Each variable with cells is a scalar or an array.
use Rattle.std.proofs.Common.{◌≡◌, ◌⊎◌, inl, ◌<◌, ℕ, suc, ◌+◌, List, [], ◌∷◌, ◌++◌, length, refl, sym, subst, Bool, true, false, ◌||◌, cond, nat_eq, arith, Some, None}
use Rattle.std.specs.Prelude.{slice_index_or}
use Rattle.bk_form.specs.Table.{variable_type}
use Rattle.bk_form.specs.ArrayTable.{row_of}
use Rattle.bk_form.specs.Formula.{binary}
use Rattle.bk_form.specs.declared.operator.BinOp.TheVariants.{TotalFunctions}
use Rattle.bk_form.specs.declared.arrays.ArrayRow.{ArrayRow}
use Rattle.bk_gsl.specs.Substitution.{Substitution, skip, assign, if_else, any, seq, assert, loop}
use Rattle.bk_gsl.specs.State.{among}
use Rattle.bk_gsl.proofs.States.{nat_eq-same}
use Rattle.bk_dev.specs.Development.{Head, Body, Development, int_max, level_at, last}
use Rattle.bk_form.specs.Each.{Each}
use Rattle.bk_dev.specs.Layout.{Clue, in_domain, has_scalars, array_row, row_by, indices_of, arrays_of, locals, operation_variables, cell_variables}
use Rattle.bk_dev.specs.B0.{IsScalarName, IsArrayName, IsB0, IsB0Body, IsB0Development}
use Rattle.bk_b0.proofs.LevelCells.{among-either, clue, row-is}
use Rattle.bk_dev.proofs.InTable.{blank_head}

-- ---- arrays have scalars
row-scalars : (dev : Development) (x : ℕ) (c : Clue) (r : ArrayRow) → row_by dev x c ≡ Some r → has_scalars (variable_type dev.table x) ≡ true
row-scalars dev x (in_domain (binary TotalFunctions d e)) r h = by_test (has_scalars (variable_type dev.table x)) refl h
  where
    by_test : (b : Bool) → has_scalars (variable_type dev.table x) ≡ b → cond b (array_row x (indices_of (int_max dev) dev.values d)) None ≡ Some r → has_scalars (variable_type dev.table x) ≡ true
    by_test true q k = q
    by_test false q k = absurd (cc)
row-scalars dev x c r h = absurd (cc)

pub arrays-scalar : (dev : Development) (x : ℕ) (r : ArrayRow) → row_of (arrays_of dev) x ≡ Some r → has_scalars (variable_type dev.table x) ≡ true
arrays-scalar dev x r h = row-scalars dev x (clue dev x) r (row-is dev x r h).1

-- ---- shapes
pub each-among : (P : ℕ → Type 0) (xs : List ℕ) → Each P xs → (n : ℕ) → among xs n ≡ true → P n
each-among P [] h n k = absurd (cc)
each-among P (x ∷ xs) h n k = by_test (each-among P xs h.1 n) (nat_eq n x) refl k
  where
    by_test : (among xs n ≡ true → P n) → (b : Bool) → nat_eq n x ≡ b → b || among xs n ≡ true → P n
    by_test rest true q r = subst P (sym (nat_eq-same n x q)) h.0
    by_test rest false q r = rest r

module _ (dev : Development) where
  b0-locals : (s : Substitution) → IsB0 dev s → (n : ℕ) → among (locals s) n ≡ true → IsScalarName dev n
  b0-locals (seq s t) b n h = among-either (locals s) (locals t) n (IsScalarName dev n) h (λ k. b0-locals s b.0 n k) (λ k. b0-locals t b.1 n k)
  b0-locals (any zs s) b n h = among-either zs (locals s) n (IsScalarName dev n) h (λ k. each-among (IsScalarName dev) zs b.0 n k) (λ k. b0-locals s b.1 n k)
  b0-locals (assert p s) b n h = b0-locals s b n h
  b0-locals (if_else p s t) b n h = among-either (locals s) (locals t) n (IsScalarName dev n) h (λ k. b0-locals s b.1 n k) (λ k. b0-locals t b.2 n k)
  b0-locals (loop p s i v) b n h = b0-locals s b.1 n h
  b0-locals skip b n h = absurd (cc)
  b0-locals (assign ps) b n h = absurd (cc)
  b0-locals s b n h = absurd b

  operations-shape : (hs : List Head) (bs : List Body) → ((o : ℕ) → o < length hs → Each (IsScalarName dev) (slice_index_or hs o blank_head).inputs) → Each (IsB0Body dev) bs → (n : ℕ) → among (operation_variables hs bs) n ≡ true → IsScalarName dev n
  operations-shape [] bs ins b n h = absurd (cc)
  operations-shape (x ∷ hs) [] ins b n h = absurd (cc)
  operations-shape (x ∷ hs) (y ∷ bs) ins b n h =
      among-either (x.inputs ++ y.outputs ++ locals y.sub) (operation_variables hs bs) n (IsScalarName dev n) h
      (λ k. among-either (x.inputs ++ y.outputs) (locals y.sub) n (IsScalarName dev n) k
      (λ q. among-either x.inputs y.outputs n (IsScalarName dev n) q (each-among (IsScalarName dev) x.inputs (ins 0 (omega arith)) n) (each-among (IsScalarName dev) y.outputs b.0.outputs n))
      (b0-locals y.sub b.0.sub n))
      (operations-shape hs bs (λ o l. ins (suc o) (omega arith)) b.1 n)

  pub shapes : IsB0Development dev → (n : ℕ) → among (cell_variables dev) n ≡ true → IsScalarName dev n ⊎ IsArrayName dev n
  shapes b n h =
      let l = level_at dev (last dev) in
      among-either (l.vars ++ locals l.init) (operation_variables dev.heads l.bodies) n (IsScalarName dev n ⊎ IsArrayName dev n) h
      (λ k. among-either l.vars (locals l.init) n (IsScalarName dev n ⊎ IsArrayName dev n) k (each-among (λ x. IsScalarName dev x ⊎ IsArrayName dev x) l.vars b.variables n) (λ q. inl (b0-locals l.init b.init n q)))
      (λ k. inl (operations-shape dev.heads l.bodies b.inputs b.bodies n k))
