-- Pools as the program keeps them: each formula beside its key, which says what it is, with the numbers of its parts, of its list of types
-- and of its list of ranges.
use Rattle.std.specs.Prelude.{◌≡◌, ◌⊎◌, ◌<◌, ℕ, List, [], ◌∷◌, ◌++◌, Some, slice_get, map}
use Rattle.bk_val.specs.ValueType.{ValueType}
use Rattle.bk_form.specs.Formula.{Formula, variable, bound, literal, truth_value, element, empty_set, named, btrue, bfalse}
use Rattle.bk_form.specs.Formula.{unary, binary, for_all, for_some, comprehension, lambda, Formulas, no_formulas, formula_and}
use Rattle.bk_form.specs.declared.pool.key.Key.{Key}
use Rattle.bk_form.specs.declared.pool.key.Key.TheVariants.{Var, Bound, Int, Bool, Elem, Empty, Name, True}
use Rattle.bk_form.specs.declared.pool.key.Key.TheVariants.{False, Un, Bin, All, Some as Exists, Compr, Lam}
use Rattle.bk_form.specs.Pools.{Stands, IsPool}

-- ---- keys
-- the formulas of these numbers
abbrev pub AreAt : List Formula → List ℕ → Formulas → Type 0
AreAt l [] no_formulas = Unit {0}
AreAt l (n ∷ ns) (formula_and f fs) = (slice_get l n ≡ Some f) × AreAt l ns fs
AreAt l _ _ = ⊥

-- over these lists of types, these lists of numbers of ranges and these formulas, the formula has this key
abbrev pub IsKey : List (List ValueType) → List (List ℕ) → List Formula → Key → Formula → Type 0
IsKey ts rs l (Var n) (variable x) = n ≡ x
IsKey ts rs l (Bound n) (bound x) = n ≡ x
IsKey ts rs l (Int n) (literal x) = n ≡ x
IsKey ts rs l (Bool b) (truth_value x) = b ≡ x
IsKey ts rs l (Elem s n) (element x y) = (s ≡ x) × (n ≡ y)
IsKey ts rs l (Empty t) (empty_set x) = slice_get ts t ≡ Some (x ∷ [])
IsKey ts rs l (Name d) (named x) = d ≡ x
IsKey ts rs l True btrue = Unit {0}
IsKey ts rs l False bfalse = Unit {0}
IsKey ts rs l (Un o n) (unary p a) = (o ≡ p) × (slice_get l n ≡ Some a)
IsKey ts rs l (Bin o m n) (binary p a b) = (o ≡ p) × (slice_get l m ≡ Some a) × (slice_get l n ≡ Some b)
IsKey ts rs l (All t n) (for_all us p) = (slice_get ts t ≡ Some us) × (slice_get l n ≡ Some p)
IsKey ts rs l (Exists t n) (for_some us p) = (slice_get ts t ≡ Some us) × (slice_get l n ≡ Some p)
IsKey ts rs l (Compr r n) (comprehension fs p) =
    (ns : List ℕ) × (slice_get rs r ≡ Some ns) × AreAt l ns fs × (slice_get l n ≡ Some p)
IsKey ts rs l (Lam r m n) (lambda fs p v) =
    (ns : List ℕ) × (slice_get rs r ≡ Some ns) × AreAt l ns fs × (slice_get l m ≡ Some p) × (slice_get l n ≡ Some v)
IsKey ts rs l _ _ = ⊥

-- ---- what is kept
-- no two are the same
abbrev pub Differ : {A : Type 0} → List A → Type 0
Differ {A} xs = (i j : ℕ) (x : A) → slice_get xs i ≡ Some x → slice_get xs j ≡ Some x → i ≡ j

-- the formulas that are held
abbrev pub held : List (Key × Formula) → List Formula
held es = map (λ e. e.1) es

-- they are a pool, each beside its key
pub record IsHeld (ts : List (List ValueType)) (rs : List (List ℕ)) (es : List (Key × Formula)) : Type 0 where
  pub types_differ : Differ ts
  pub ranges_differ : Differ rs
  pub pool : IsPool (held es)
  pub keyed : (i : ℕ) (k : Key) (f : Formula) → slice_get es i ≡ Some (k, f) → IsKey ts rs (held es) k f

-- ---- steps
-- the list has one formula more, unless it stood there
abbrev pub IsWith : List Formula → Formula → List Formula → Type 0
IsWith old f new = (Stands old f × (new ≡ old)) ⊎ ((Stands old f → ⊥) × (new ≡ old ++ f ∷ []))

-- what is added at the end has the property
abbrev pub AddsOnly : (Formula → Type 0) → List Formula → List Formula → Type 0
AddsOnly P old new = (added : List Formula) × (new ≡ old ++ added) × ((i : ℕ) (g : Formula) → slice_get added i ≡ Some g → P g)

-- the new list is the old one and more
abbrev pub Grows : {A : Type 0} → List A → List A → Type 0
Grows {A} old new = (more : List A) × (new ≡ old ++ more)

-- the numbers are smaller
abbrev pub AllBelow : List ℕ → ℕ → Type 0
AllBelow [] k = Unit {0}
AllBelow (n ∷ ns) k = (n < k) × AllBelow ns k
