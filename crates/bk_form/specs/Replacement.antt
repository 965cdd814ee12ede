-- Formulas in place of variables, all at once.
-- Source: B-Book, substitution.
use Rattle.std.specs.Prelude.{◌≡◌, ◌⊎◌, ℕ, suc, ◌+◌, ◌<◌, nat_eq, Bool, false, ◌||◌, cond, List, [], ◌∷◌, length, Some}
use Rattle.bk_val.specs.ValueType.{ValueType}
use Rattle.bk_form.specs.Table.{Table, variable_type}
use Rattle.bk_form.specs.Role.{role, gives}
use Rattle.bk_form.specs.Search.{Finder}
use Rattle.bk_form.specs.Environment.{Environment}
use Rattle.bk_form.specs.Meaning.{value}
use Rattle.bk_form.specs.Formula.{Formula, variable, bound, literal, truth_value, element, empty_set, named, btrue, bfalse}
use Rattle.bk_form.specs.Formula.{unary, binary, for_all, for_some, comprehension, lambda, Formulas, no_formulas, formula_and}

-- how many formulas a list has
abbrev pub count : Formulas → ℕ
count no_formulas = 0
count (formula_and f fs) = suc (count fs)

abbrev mutual
  -- the formula of each variable in its place
  pub replaced : (ℕ → Formula) → Formula → Formula
  replaced by (variable n) = by n
  replaced by (bound n) = bound n
  replaced by (literal z) = literal z
  replaced by (truth_value b) = truth_value b
  replaced by (element s i) = element s i
  replaced by (empty_set t) = empty_set t
  replaced by (named d) = named d
  replaced by btrue = btrue
  replaced by bfalse = bfalse
  replaced by (unary o a) = unary o (replaced by a)
  replaced by (binary o a b) = binary o (replaced by a) (replaced by b)
  replaced by (for_all ts p) = for_all ts (replaced by p)
  replaced by (for_some ts p) = for_some ts (replaced by p)
  replaced by (comprehension rs p) = comprehension (all_replaced by rs) (replaced by p)
  replaced by (lambda rs p v) = lambda (all_replaced by rs) (replaced by p) (replaced by v)

  -- and so in each of these formulas
  pub all_replaced : (ℕ → Formula) → Formulas → Formulas
  all_replaced by no_formulas = no_formulas
  all_replaced by (formula_and f fs) = formula_and (replaced by f) (all_replaced by fs)

abbrev mutual
  -- every loose bound number is below n; with 0 there is none
  pub IsClosed : ℕ → Formula → Type 0
  IsClosed n (bound m) = m < n
  IsClosed n (unary o a) = IsClosed n a
  IsClosed n (binary o a b) = IsClosed n a × IsClosed n b
  IsClosed n (for_all ts p) = IsClosed (length ts + n) p
  IsClosed n (for_some ts p) = IsClosed (length ts + n) p
  IsClosed n (comprehension rs p) = AreClosed n rs × IsClosed (count rs + n) p
  IsClosed n (lambda rs p v) = AreClosed n rs × IsClosed (count rs + n) p × IsClosed (count rs + n) v
  IsClosed n _ = Unit {0}

  -- and so for each of these formulas
  pub AreClosed : ℕ → Formulas → Type 0
  AreClosed n no_formulas = Unit {0}
  AreClosed n (formula_and f fs) = IsClosed n f × AreClosed n fs

abbrev mutual
  -- whether the variable stands in the formula
  pub occurs : ℕ → Formula → Bool
  occurs x (variable n) = nat_eq n x
  occurs x (unary o a) = occurs x a
  occurs x (binary o a b) = occurs x a || occurs x b
  occurs x (for_all ts p) = occurs x p
  occurs x (for_some ts p) = occurs x p
  occurs x (comprehension rs p) = any_occurs x rs || occurs x p
  occurs x (lambda rs p v) = any_occurs x rs || occurs x p || occurs x v
  occurs x _ = false

  -- whether it stands in one of these formulas
  pub any_occurs : ℕ → Formulas → Bool
  any_occurs x no_formulas = false
  any_occurs x (formula_and f fs) = occurs x f || any_occurs x fs

-- the term beside the first such variable, or the variable itself
abbrev pub looked_up : List (ℕ × Formula) → ℕ → Formula
looked_up [] n = variable n
looked_up (p ∷ ps) n = cond (nat_eq n p.0) p.1 (looked_up ps n)

-- a term that gives this type and holds no loose bound number
pub record GivesType (table : Table) (t : ValueType) (f : Formula) : Type 0 where
  pub closed : IsClosed 0 f
  pub of_type : role table [] f ≡ gives t

-- each variable stays, or a term that gives its type stands in its place
abbrev pub IsReplacement : Table → (ℕ → Formula) → Type 0
IsReplacement table by = (n : ℕ) → (by n ≡ variable n) ⊎ ((t : ValueType) × (variable_type table n ≡ Some t) × GivesType table t (by n))

-- the environment in which each variable has the value of the term in its place
abbrev pub after_replacement : Finder → (ℕ → Formula) → Environment → Environment
after_replacement find by e = record e { state = λ n. value find (record e { bound = [] }) (by n) }

-- one variable in place of another in a formula
abbrev pub renamed : (ℕ → ℕ) → Formula → Formula
renamed by f = replaced (λ n. variable (by n)) f
