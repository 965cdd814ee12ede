-- A key is of one formula, and in a pool a formula is of one key.
use Rattle.std.proofs.Common.{◌≡◌, ℕ, ℤ, List, [], ◌∷◌, refl, sym, ◌∙◌, ap, subst}
use Rattle.std.specs.Prelude.{Some, slice_get, Bool as Boolean}
use Rattle.bk_val.specs.ValueType.{ValueType}
use Rattle.bk_form.specs.Formula.{Formula, variable, bound, literal, truth_value, element, empty_set, named, btrue, bfalse, unary, binary, for_all, for_some, comprehension, lambda, Formulas, no_formulas, formula_and}
use Rattle.bk_form.specs.declared.operator.UnOp.{UnOp}
use Rattle.bk_form.specs.declared.operator.BinOp.{BinOp}
use Rattle.bk_form.specs.declared.operator.Domain.{Domain}
use Rattle.bk_form.specs.declared.pool.key.Key.{Key}
use Rattle.bk_form.specs.declared.pool.key.Key.TheVariants.{Var, Bound, Int, Bool, Elem, Empty, Name, True, False, Un, Bin, All, Some as Exists, Compr, Lam}
use Rattle.bk_form.specs.Pools.{IsPool}
use Rattle.bk_form.specs.PoolKeys.{AreAt, IsKey, Differ}
use Rattle.bk_form.proofs.Pools.Lists.{some-same}

module _ (ts : List (List ValueType)) (rs : List (List ℕ)) (l : List Formula) where
  pub same-at : (n : ℕ) (a b : Formula) → slice_get l n ≡ Some a → slice_get l n ≡ Some b → a ≡ b
  same-at n a b h k = some-same a b (sym h ∙ k)

  pub all-same-at : (ns ms : List ℕ) → ns ≡ ms → (fs gs : Formulas) → AreAt l ns fs → AreAt l ms gs → fs ≡ gs
  all-same-at ns ms e fs gs h k = at-one ms fs gs (subst (λ x. AreAt l x fs) e h) k
    where
      at-one : (ns : List ℕ) (fs gs : Formulas) → AreAt l ns fs → AreAt l ns gs → fs ≡ gs
      at-one [] no_formulas no_formulas h k = refl
      at-one [] no_formulas (formula_and g gs) h k = absurd k
      at-one [] (formula_and f fs) gs h k = absurd h
      at-one (n ∷ ns) no_formulas gs h k = absurd h
      at-one (n ∷ ns) (formula_and f fs) no_formulas h k = absurd k
      at-one (n ∷ ns) (formula_and f fs) (formula_and g gs) h k = λ i. formula_and (same-at n f g h.0 k.0 i) (at-one ns fs gs h.1 k.1 i)

  -- ---- from a key to its formula
  pub variable-form : (n : ℕ) (f : Formula) → IsKey ts rs l (Var n) f → f ≡ variable n
  variable-form n (variable x) h = ap variable (sym h)
  variable-form n _ h = absurd h

  pub bound-form : (n : ℕ) (f : Formula) → IsKey ts rs l (Bound n) f → f ≡ bound n
  bound-form n (bound x) h = ap bound (sym h)
  bound-form n _ h = absurd h

  pub literal-form : (n : ℤ) (f : Formula) → IsKey ts rs l (Int n) f → f ≡ literal n
  literal-form n (literal x) h = ap literal (sym h)
  literal-form n _ h = absurd h

  pub truth_value-form : (n : Boolean) (f : Formula) → IsKey ts rs l (Bool n) f → f ≡ truth_value n
  truth_value-form n (truth_value x) h = ap truth_value (sym h)
  truth_value-form n _ h = absurd h

  pub named-form : (n : Domain) (f : Formula) → IsKey ts rs l (Name n) f → f ≡ named n
  named-form n (named x) h = ap named (sym h)
  named-form n _ h = absurd h

  pub element-form : (s n : ℕ) (f : Formula) → IsKey ts rs l (Elem s n) f → f ≡ element s n
  element-form s n (element x y) h = λ i. element (sym h.0 i) (sym h.1 i)
  element-form s n _ h = absurd h

  pub empty-form : (t : ℕ) (f : Formula) → IsKey ts rs l (Empty t) f → (y : ValueType) × (f ≡ empty_set y) × (slice_get ts t ≡ Some (y ∷ []))
  empty-form t (empty_set y) h = (y, refl, h)
  empty-form t _ h = absurd h

  pub true-form : (f : Formula) → IsKey ts rs l True f → f ≡ btrue
  true-form btrue h = refl
  true-form _ h = absurd h

  pub false-form : (f : Formula) → IsKey ts rs l False f → f ≡ bfalse
  false-form bfalse h = refl
  false-form _ h = absurd h

  pub unary-form : (o : UnOp) (n : ℕ) (f : Formula) → IsKey ts rs l (Un o n) f → (a : Formula) × (f ≡ unary o a) × (slice_get l n ≡ Some a)
  unary-form o n (unary p a) h = (a, ap (λ q. unary q a) (sym h.0), h.1)
  unary-form o n _ h = absurd h

  pub binary-form : (o : BinOp) (m n : ℕ) (f : Formula) → IsKey ts rs l (Bin o m n) f → (a : Formula) × (b : Formula) × (f ≡ binary o a b) × (slice_get l m ≡ Some a) × (slice_get l n ≡ Some b)
  binary-form o m n (binary p a b) h = (a, b, ap (λ q. binary q a b) (sym h.0), h.1, h.2)
  binary-form o m n _ h = absurd h

  pub all-form : (t n : ℕ) (f : Formula) → IsKey ts rs l (All t n) f → (us : List ValueType) × (p : Formula) × (f ≡ for_all us p) × (slice_get ts t ≡ Some us) × (slice_get l n ≡ Some p)
  all-form t n (for_all us p) h = (us, p, refl, h.0, h.1)
  all-form t n _ h = absurd h

  pub some-form : (t n : ℕ) (f : Formula) → IsKey ts rs l (Exists t n) f → (us : List ValueType) × (p : Formula) × (f ≡ for_some us p) × (slice_get ts t ≡ Some us) × (slice_get l n ≡ Some p)
  some-form t n (for_some us p) h = (us, p, refl, h.0, h.1)
  some-form t n _ h = absurd h

  pub compr-form : (r n : ℕ) (f : Formula) → IsKey ts rs l (Compr r n) f → (fs : Formulas) × (p : Formula) × (f ≡ comprehension fs p) × (ns : List ℕ) × (slice_get rs r ≡ Some ns) × AreAt l ns fs × (slice_get l n ≡ Some p)
  compr-form r n (comprehension fs p) h = (fs, p, refl, h.0, h.1, h.2, h.3)
  compr-form r n _ h = absurd h

  pub lam-form : (r m n : ℕ) (f : Formula) → IsKey ts rs l (Lam r m n) f → (fs : Formulas) × (p : Formula) × (v : Formula) × (f ≡ lambda fs p v) × (ns : List ℕ) × (slice_get rs r ≡ Some ns) × AreAt l ns fs × (slice_get l m ≡ Some p) × (slice_get l n ≡ Some v)
  lam-form r m n (lambda fs p v) h = (fs, p, v, refl, h.0, h.1, h.2, h.3, h.4)
  lam-form r m n _ h = absurd h

  abbrev first-of : List ValueType → ValueType → ValueType
  first-of [] d = d
  first-of (y ∷ ys) d = y

  pub one-formula : (k : Key) (f g : Formula) → IsKey ts rs l k f → IsKey ts rs l k g → f ≡ g
  one-formula (Var n) f g h k = variable-form n f h ∙ sym (variable-form n g k)
  one-formula (Bound n) f g h k = bound-form n f h ∙ sym (bound-form n g k)
  one-formula (Int n) f g h k = literal-form n f h ∙ sym (literal-form n g k)
  one-formula (Bool n) f g h k = truth_value-form n f h ∙ sym (truth_value-form n g k)
  one-formula (Name n) f g h k = named-form n f h ∙ sym (named-form n g k)
  one-formula (Elem s n) f g h k = element-form s n f h ∙ sym (element-form s n g k)
  one-formula (Empty t) f g h k = let p = empty-form t f h in let q = empty-form t g k in p.1 ∙ ap (λ ys. empty_set (first-of ys p.0)) (some-same (p.0 ∷ []) (q.0 ∷ []) (sym p.2 ∙ q.2)) ∙ sym q.1
  one-formula True f g h k = true-form f h ∙ sym (true-form g k)
  one-formula False f g h k = false-form f h ∙ sym (false-form g k)
  one-formula (Un o n) f g h k = let p = unary-form o n f h in let q = unary-form o n g k in p.1 ∙ ap (unary o) (same-at n p.0 q.0 p.2 q.2) ∙ sym q.1
  one-formula (Bin o m n) f g h k = let p = binary-form o m n f h in let q = binary-form o m n g k in p.2 ∙ (λ i. binary o (same-at m p.0 q.0 p.3 q.3 i) (same-at n p.1 q.1 p.4 q.4 i)) ∙ sym q.2
  one-formula (All t n) f g h k = let p = all-form t n f h in let q = all-form t n g k in p.2 ∙ (λ i. for_all (some-same p.0 q.0 (sym p.3 ∙ q.3) i) (same-at n p.1 q.1 p.4 q.4 i)) ∙ sym q.2
  one-formula (Exists t n) f g h k = let p = some-form t n f h in let q = some-form t n g k in p.2 ∙ (λ i. for_some (some-same p.0 q.0 (sym p.3 ∙ q.3) i) (same-at n p.1 q.1 p.4 q.4 i)) ∙ sym q.2
  one-formula (Compr r n) f g h k = let p = compr-form r n f h in let q = compr-form r n g k in p.2 ∙ (λ i. comprehension (all-same-at p.3 q.3 (some-same p.3 q.3 (sym p.4 ∙ q.4)) p.0 q.0 p.5 q.5 i) (same-at n p.1 q.1 p.6 q.6 i)) ∙ sym q.2
  one-formula (Lam r m n) f g h k = let p = lam-form r m n f h in let q = lam-form r m n g k in p.3 ∙ (λ i. lambda (all-same-at p.4 q.4 (some-same p.4 q.4 (sym p.5 ∙ q.5)) p.0 q.0 p.6 q.6 i) (same-at m p.1 q.1 p.7 q.7 i) (same-at n p.2 q.2 p.8 q.8 i)) ∙ sym q.3

module _ (ts : List (List ValueType)) (rs : List (List ℕ)) (l : List Formula) (types : Differ ts) (ranges : Differ rs) (pool : IsPool l) where
  -- ---- from a formula to its key
  places : (ns ms : List ℕ) (fs : Formulas) → AreAt l ns fs → AreAt l ms fs → ns ≡ ms
  places [] [] no_formulas h k = refl
  places [] (m ∷ ms) no_formulas h k = absurd k
  places (n ∷ ns) ms no_formulas h k = absurd h
  places [] ms (formula_and f fs) h k = absurd h
  places (n ∷ ns) [] (formula_and f fs) h k = absurd k
  places (n ∷ ns) (m ∷ ms) (formula_and f fs) h k = λ i. pool.different n m f h.0 k.0 i ∷ places ns ms fs h.1 k.1 i

  variable-key : (j : Key) (x : ℕ) → IsKey ts rs l j (variable x) → j ≡ Var x
  variable-key (Var n) x h = ap Var h
  variable-key _ x h = absurd h

  bound-key : (j : Key) (x : ℕ) → IsKey ts rs l j (bound x) → j ≡ Bound x
  bound-key (Bound n) x h = ap Bound h
  bound-key _ x h = absurd h

  literal-key : (j : Key) (x : ℤ) → IsKey ts rs l j (literal x) → j ≡ Int x
  literal-key (Int n) x h = ap Int h
  literal-key _ x h = absurd h

  truth_value-key : (j : Key) (x : Boolean) → IsKey ts rs l j (truth_value x) → j ≡ Bool x
  truth_value-key (Bool n) x h = ap Bool h
  truth_value-key _ x h = absurd h

  named-key : (j : Key) (x : Domain) → IsKey ts rs l j (named x) → j ≡ Name x
  named-key (Name n) x h = ap Name h
  named-key _ x h = absurd h

  element-key : (j : Key) (x y : ℕ) → IsKey ts rs l j (element x y) → j ≡ Elem x y
  element-key (Elem s n) x y h = λ i. Elem (h.0 i) (h.1 i)
  element-key _ x y h = absurd h

  empty-key : (j : Key) (y : ValueType) → IsKey ts rs l j (empty_set y) → (t : ℕ) × (j ≡ Empty t) × (slice_get ts t ≡ Some (y ∷ []))
  empty-key (Empty t) y h = (t, refl, h)
  empty-key _ y h = absurd h

  true-key : (j : Key) → IsKey ts rs l j btrue → j ≡ True
  true-key True h = refl
  true-key _ h = absurd h

  false-key : (j : Key) → IsKey ts rs l j bfalse → j ≡ False
  false-key False h = refl
  false-key _ h = absurd h

  unary-key : (j : Key) (o : UnOp) (a : Formula) → IsKey ts rs l j (unary o a) → (n : ℕ) × (j ≡ Un o n) × (slice_get l n ≡ Some a)
  unary-key (Un p n) o a h = (n, ap (λ q. Un q n) h.0, h.1)
  unary-key _ o a h = absurd h

  binary-key : (j : Key) (o : BinOp) (a b : Formula) → IsKey ts rs l j (binary o a b) → (m : ℕ) × (n : ℕ) × (j ≡ Bin o m n) × (slice_get l m ≡ Some a) × (slice_get l n ≡ Some b)
  binary-key (Bin p m n) o a b h = (m, n, ap (λ q. Bin q m n) h.0, h.1, h.2)
  binary-key _ o a b h = absurd h

  all-key : (j : Key) (us : List ValueType) (p : Formula) → IsKey ts rs l j (for_all us p) → (t : ℕ) × (n : ℕ) × (j ≡ All t n) × (slice_get ts t ≡ Some us) × (slice_get l n ≡ Some p)
  all-key (All t n) us p h = (t, n, refl, h.0, h.1)
  all-key _ us p h = absurd h

  some-key : (j : Key) (us : List ValueType) (p : Formula) → IsKey ts rs l j (for_some us p) → (t : ℕ) × (n : ℕ) × (j ≡ Exists t n) × (slice_get ts t ≡ Some us) × (slice_get l n ≡ Some p)
  some-key (Exists t n) us p h = (t, n, refl, h.0, h.1)
  some-key _ us p h = absurd h

  compr-key : (j : Key) (fs : Formulas) (p : Formula) → IsKey ts rs l j (comprehension fs p) → (r : ℕ) × (n : ℕ) × (j ≡ Compr r n) × (ns : List ℕ) × (slice_get rs r ≡ Some ns) × AreAt l ns fs × (slice_get l n ≡ Some p)
  compr-key (Compr r n) fs p h = (r, n, refl, h.0, h.1, h.2, h.3)
  compr-key _ fs p h = absurd h

  lam-key : (j : Key) (fs : Formulas) (p v : Formula) → IsKey ts rs l j (lambda fs p v) → (r : ℕ) × (m : ℕ) × (n : ℕ) × (j ≡ Lam r m n) × (ns : List ℕ) × (slice_get rs r ≡ Some ns) × AreAt l ns fs × (slice_get l m ≡ Some p) × (slice_get l n ≡ Some v)
  lam-key (Lam r m n) fs p v h = (r, m, n, refl, h.0, h.1, h.2, h.3, h.4)
  lam-key _ fs p v h = absurd h

  -- the numbers of ranges of one list
  one-range : (r q : ℕ) (ns ms : List ℕ) (fs : Formulas) → slice_get rs r ≡ Some ns → slice_get rs q ≡ Some ms → AreAt l ns fs → AreAt l ms fs → r ≡ q
  one-range r q ns ms fs g h a b = ranges r q ns g (h ∙ ap Some (places ms ns fs b a))

  pub one-key : (j k : Key) (f : Formula) → IsKey ts rs l j f → IsKey ts rs l k f → j ≡ k
  one-key j k (variable x) g h = variable-key j x g ∙ sym (variable-key k x h)
  one-key j k (bound x) g h = bound-key j x g ∙ sym (bound-key k x h)
  one-key j k (literal x) g h = literal-key j x g ∙ sym (literal-key k x h)
  one-key j k (truth_value x) g h = truth_value-key j x g ∙ sym (truth_value-key k x h)
  one-key j k (named x) g h = named-key j x g ∙ sym (named-key k x h)
  one-key j k (element x y) g h = element-key j x y g ∙ sym (element-key k x y h)
  one-key j k (empty_set y) g h = let p = empty-key j y g in let q = empty-key k y h in p.1 ∙ ap Empty (types p.0 q.0 (y ∷ []) p.2 q.2) ∙ sym q.1
  one-key j k btrue g h = true-key j g ∙ sym (true-key k h)
  one-key j k bfalse g h = false-key j g ∙ sym (false-key k h)
  one-key j k (unary o a) g h = let p = unary-key j o a g in let q = unary-key k o a h in p.1 ∙ ap (Un o) (pool.different p.0 q.0 a p.2 q.2) ∙ sym q.1
  one-key j k (binary o a b) g h = let p = binary-key j o a b g in let q = binary-key k o a b h in p.2 ∙ (λ i. Bin o (pool.different p.0 q.0 a p.3 q.3 i) (pool.different p.1 q.1 b p.4 q.4 i)) ∙ sym q.2
  one-key j k (for_all us b) g h = let p = all-key j us b g in let q = all-key k us b h in p.2 ∙ (λ i. All (types p.0 q.0 us p.3 q.3 i) (pool.different p.1 q.1 b p.4 q.4 i)) ∙ sym q.2
  one-key j k (for_some us b) g h = let p = some-key j us b g in let q = some-key k us b h in p.2 ∙ (λ i. Exists (types p.0 q.0 us p.3 q.3 i) (pool.different p.1 q.1 b p.4 q.4 i)) ∙ sym q.2
  one-key j k (comprehension fs b) g h = let p = compr-key j fs b g in let q = compr-key k fs b h in p.2 ∙ (λ i. Compr (one-range p.0 q.0 p.3 q.3 fs p.4 q.4 p.5 q.5 i) (pool.different p.1 q.1 b p.6 q.6 i)) ∙ sym q.2
  one-key j k (lambda fs b v) g h = let p = lam-key j fs b v g in let q = lam-key k fs b v h in p.3 ∙ (λ i. Lam (one-range p.0 q.0 p.4 q.4 fs p.5 q.5 p.6 q.6 i) (pool.different p.1 q.1 b p.7 q.7 i) (pool.different p.2 q.2 v p.8 q.8 i)) ∙ sym q.3
