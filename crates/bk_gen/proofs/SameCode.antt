-- The code of a last level without || is the same after flattening.
use Rattle.std.proofs.Common.{◌≡◌, ◌<◌, ℕ, ◌+◌, pos, List, [], ◌∷◌, ◌++◌, length, map, refl, ◌∙◌, ap, true, cond, nat_eq, Some, None, Option}
use Rattle.bk_form.specs.ArrayTable.{row_of}
use Rattle.bk_form.specs.Table.{element_texts}
use Rattle.bk_form.specs.Formula.{Formula, variable, unary, binary}
use Rattle.bk_form.specs.declared.arrays.ArrayRow.{ArrayRow}
use Rattle.bk_form.specs.declared.operator.UnOp.TheVariants.{Not, BoolOf, Neg as Minus, Single}
use Rattle.bk_form.specs.declared.operator.BinOp.TheVariants.{And, Or, Eq as Equals, Lt as Below, Le as AtMost, Add as Plus, Sub as Less, Mul as By, Div as Over, Mod as Rest, Apply, Times}
use Rattle.bk_gsl.specs.Substitution.{Substitution, assign, if_else, any, seq, assert, loop}
use Rattle.bk_gsl.specs.State.{among}
use Rattle.bk_gsl.specs.Clean.{write_of}
use Rattle.bk_dev.specs.Development.{Head, Body, Level, Development, int_max, level_at, last}
use Rattle.bk_form.specs.Each.{Each}
use Rattle.bk_dev.specs.Layout.{arrays_of, cells_of, cell_of}
use Rattle.bk_dev.specs.Flattened.{flattened}
use Rattle.bk_code.specs.declared.instruction.Inst.TheVariants.{Push, Load, Store, ALoad, AStore, Add, Sub, Mul, Div, Mod, Neg, Eq, Lt, Le, Not as Invert, Jump, JumpZero, Ret}
use Rattle.bk_b0.specs.Kinds.{literal_number}
use Rattle.bk_b0.specs.Places.{least_index, fill, kind_of_type}
use Rattle.bk_b0.specs.Translation.{name_code, load_element, value_code, array_code, store_code, assign_code, statement_code, parameter_of, operation_code, entries, operations_code, init_code, translation}
use Rattle.bk_gsl.specs.Flat.{IsFlat}
use Rattle.bk_dev.proofs.FlatSame.{maps-same, low-same, declared-same, arrays-same, cells-same, cell-same, count-same}
use Rattle.bk_gen.specs.Laws.{FlattenedKeepsCode}
use Rattle.bk_dev.proofs.Levels.{last_level}
use Rattle.bk_dev.proofs.InTable.{low-vars, outputs-in, inputs-in}

module _ (dev : Development) (some : 0 < length dev.levels) (init : IsFlat (level_at dev (last dev)).init) (bodies : Each (λ b. IsFlat b.sub) (level_at dev (last dev)).bodies) (vars : (n : ℕ) → among (level_at dev (last dev)).vars n ≡ true → n < length dev.table.variables) where
  abbrev old : ℕ
  old = length dev.table.variables

  abbrev flat : Development
  flat = flattened dev

  low : level_at flat (last flat) ≡ level_at dev (last dev)
  low = low-same dev some init bodies

  arrays : arrays_of flat ≡ arrays_of dev
  arrays = arrays-same dev some init bodies vars

  cell : (x : ℕ) → cell_of flat x ≡ cell_of dev x
  cell x = cell-same dev some init bodies vars x

  cells : (x : ℕ) → cells_of flat x ≡ cells_of dev x
  cells x = cells-same dev some init bodies vars x

  -- ---- code
  names : (x : ℕ) (ps : List (ℕ × Formula)) → name_code flat x ps ≡ name_code dev x ps
  names x [] = λ i. Load (cell x i) ∷ []
  names x (p ∷ ps) = ap (cond (nat_eq x p.0) (Push (literal_number p.1) ∷ [])) (names x ps)

  loads : (f : ℕ) (o : Option ArrayRow) → load_element flat f o ≡ load_element dev f o
  loads f (Some row) = λ i. ALoad (cell f i) (least_index row.domain) (cells f i) ∷ []
  loads f None = refl

  values : (f : Formula) → value_code flat f ≡ value_code dev f
  values (variable x) = names x dev.values
  values (unary Minus a) = ap (λ c. c ++ Neg ∷ []) (values a)
  values (unary Not a) = ap (λ c. c ++ Invert ∷ []) (values a)
  values (unary BoolOf a) = values a
  values (binary Plus a b) = λ i. values a i ++ values b i ++ Add ∷ []
  values (binary Less a b) = λ i. values a i ++ values b i ++ Sub ∷ []
  values (binary By a b) = λ i. values a i ++ values b i ++ Mul ∷ []
  values (binary Over a b) = λ i. values a i ++ values b i ++ Div ∷ []
  values (binary Rest a b) = λ i. values a i ++ values b i ++ Mod ∷ []
  values (binary Equals a b) = λ i. values a i ++ values b i ++ Eq ∷ []
  values (binary Below a b) = λ i. values a i ++ values b i ++ Lt ∷ []
  values (binary AtMost a b) = λ i. values a i ++ values b i ++ Le ∷ []
  values (binary And a b) = λ i. values a i ++ JumpZero (pos (length (values b i) + 2)) ∷ values b i ++ Jump (pos 2) ∷ Push (pos 0) ∷ []
  values (binary Or a b) = λ i. values a i ++ JumpZero (pos 3) ∷ Push (pos 1) ∷ Jump (pos (length (values b i) + 1)) ∷ values b i
  values (binary Apply (variable f) e) = (λ i. values e i ++ load_element flat f (row_of (arrays i) f)) ∙ ap (λ c. value_code dev e ++ c) (loads f (row_of (arrays_of dev) f))
  values f = refl

  array-codes : (x : ℕ) (row : ArrayRow) (o : Option (Formula × Formula)) (f : Formula) → array_code flat x row o f ≡ array_code dev x row o f
  array-codes x row (Some w) f = λ i. values w.0 i ++ values w.1 i ++ AStore (cell x i) (least_index row.domain) (cells x i) ∷ []
  array-codes x row None (binary Times d (unary Single v)) = λ i. fill (values v i) (cell x i) (cells x i)
  array-codes x row None f = refl

  stores : (x : ℕ) (o : Option ArrayRow) (f : Formula) → store_code flat x o f ≡ store_code dev x o f
  stores x None f = λ i. values f i ++ Store (cell x i) ∷ []
  stores x (Some row) f = array-codes x row (write_of x f) f

  assigns : (ps : List (ℕ × Formula)) → assign_code flat ps ≡ assign_code dev ps
  assigns [] = refl
  assigns (p ∷ []) = ap (λ a. store_code flat p.0 (row_of a p.0) p.1) arrays ∙ stores p.0 (row_of (arrays_of dev) p.0) p.1
  assigns (p ∷ q ∷ ps) = refl

  pub statements : (s : Substitution) → statement_code flat s ≡ statement_code dev s
  statements (assign ps) = assigns ps
  statements (seq s t) = λ i. statements s i ++ statements t i
  statements (any zs s) = statements s
  statements (assert p s) = statements s
  statements (if_else p s t) = λ i. values p i ++ JumpZero (pos (length (statements s i) + 2)) ∷ statements s i ++ Jump (pos (length (statements t i) + 1)) ∷ statements t i
  statements (loop p s j v) = λ i. values p i ++ JumpZero (pos (length (statements s i) + 2)) ∷ statements s i ++ Jump (Rattle.std.specs.Prelude.neg_ℤ (pos (length (values p i) + 1 + length (statements s i)))) ∷ []
  statements s = refl

  pub operations : (b : Body) → operation_code flat b ≡ operation_code dev b
  operations b = ap (λ c. c ++ Ret ∷ []) (statements b.sub)

  all-operations : (bs : List Body) → operations_code flat bs ≡ operations_code dev bs
  all-operations [] = refl
  all-operations (b ∷ bs) = λ i. operations b i ++ all-operations bs i

  pub openings : init_code flat ≡ init_code dev
  openings = ap (λ (l : Level). statement_code flat l.init ++ Ret ∷ []) low ∙ ap (λ c. c ++ Ret ∷ []) (statements (level_at dev (last dev)).init)

  -- ---- entries
  parameter-same : (x : ℕ) → x < old → parameter_of flat x ≡ parameter_of dev x
  parameter-same x h = λ i. record { kind = kind_of_type (declared-same dev some init bodies x h i); slot = cell x i }

  abbrev InTable : List ℕ → Type 0
  InTable xs = (n : ℕ) → among xs n ≡ true → n < old

  entries-same : (place there : ℕ) → place ≡ there → (hs : List Head) (bs : List Body) → Each (λ h. InTable h.inputs) hs → Each (λ b. InTable b.outputs) bs → entries flat place hs bs ≡ entries dev there hs bs
  entries-same place there e [] bs h k = refl
  entries-same place there e (x ∷ hs) [] h k = refl
  entries-same place there e (x ∷ hs) (b ∷ bs) h k =
      let inputs = maps-same (parameter_of flat) (parameter_of dev) x.inputs (λ n q. parameter-same n (h.0 n q)) in
      let outputs = maps-same (parameter_of flat) (parameter_of dev) b.outputs (λ n q. parameter-same n (k.0 n q)) in
      let next : place + length (operation_code flat b) ≡ there + length (operation_code dev b) = λ i. e i + length (operations b i) in
      let rest = entries-same (place + length (operation_code flat b)) (there + length (operation_code dev b)) next hs bs h.1 k.1 in
      λ i. record { name = x.name; start = e i; inputs = inputs i; outputs = outputs i } ∷ rest i

  pub translation-same : Each (λ h. InTable h.inputs) dev.heads → Each (λ b. InTable b.outputs) (level_at dev (last dev)).bodies → translation flat ≡ translation dev
  translation-same h k =
      let count = count-same dev some init bodies vars in
      let ops = ap (λ (l : Level). entries flat (length (init_code flat)) dev.heads l.bodies) low ∙ entries-same (length (init_code flat)) (length (init_code dev)) (ap length openings) dev.heads (level_at dev (last dev)).bodies h k in
      let code = ap (λ (l : Level). init_code flat ++ operations_code flat l.bodies) low ∙ (λ i. openings i ++ all-operations (level_at dev (last dev)).bodies i) in
      λ i. record { max = int_max dev; cells = count i; sets = map element_texts dev.sets; ops = ops i; code = code i }

pub codes-same : FlattenedKeepsCode
codes-same dev f b = translation-same dev f.some_level b.init b.bodies (low-vars dev f) (inputs-in dev f dev.heads f.heads) (outputs-in dev f (last dev) dev.heads (level_at dev 0).bodies (level_at dev (last dev)).bodies (last_level dev f).bodies)
