-- A development in B0 is in B0 after flattening: || has no code, so that its last level stays as it is.
use Rattle.std.proofs.Common.{◌≡◌, ◌⊎◌, inl, inr, ◌<◌, ℕ, List, [], ◌∷◌, length, refl, sym, ◌∙◌, ap, subst, Bool, true, ◌||◌, nat_eq, Some, None, Option}
use Rattle.bk_form.specs.Table.{IsWellFormed}
use Rattle.bk_form.specs.ArrayTable.{row_of}
use Rattle.bk_form.specs.Each.{Each}
use Rattle.bk_form.specs.Formula.{Formula, variable, literal, truth_value, element, unary, binary}
use Rattle.bk_form.specs.Replacement.{occurs}
use Rattle.bk_form.specs.declared.arrays.ArrayRow.{ArrayRow}
use Rattle.bk_form.specs.declared.operator.UnOp.TheVariants.{Not, BoolOf, Neg as Minus, Single}
use Rattle.bk_form.specs.declared.operator.BinOp.TheVariants.{And, Or, Eq as Equals, Lt as Below, Le as AtMost, Add as Plus, Sub as Less, Mul as By, Div as Over, Mod as Rest, Apply, Times, Over as Overridden, Maps}
use Rattle.bk_form.proofs.Members.{or-cases, or-left, or-right}
use Rattle.bk_gsl.specs.Flat.{IsFlat}
use Rattle.bk_gsl.specs.Substitution.{Substitution, skip, assign, if_else, any, seq, assert, loop}
use Rattle.bk_gsl.specs.State.{among}
use Rattle.bk_gsl.proofs.Reading.{among-left, among-right}
use Rattle.bk_gsl.proofs.States.{nat_eq-self}
use Rattle.bk_dev.specs.B0.{IsScalarName, IsArrayName, IsExpression, IsCondition, IsFillValue, IsTermFor, IsAssignment, IsB0, EvaluatesShallow, IsB0Body, IsB0Development}
use Rattle.bk_dev.specs.Development.{Head, Body, Level, Development, level_at, last, inputs_of}
use Rattle.bk_dev.specs.Facts.{AllAre, AssignsIn, EachBody, IsHeadOf, IsLawful, IsSubOf, Names, StaysIn, binders, home_of, is_inner_of, is_input, names_joined, names_own, writes_own, LastIsFlat}
use Rattle.bk_dev.specs.Flattened.{flattened}
use Rattle.bk_dev.specs.Laws.{FlattenedStaysInB0}
use Rattle.bk_dev.specs.Layout.{arrays_of, is_scalar}
use Rattle.bk_dev.proofs.FlatLevels.{own-old}
use Rattle.bk_dev.proofs.FlatSame.{arrays-same, clue-same, complete-same, declared-same, low-same}
use Rattle.bk_dev.proofs.InTable.{at-home, binders-in, blank_head, low-vars}
use Rattle.bk_dev.proofs.Levels.{head-at, last_level}
use Rattle.bk_dev.proofs.Room.{flat-formed}

-- ---- what is in B0 has no ||
b0-flat : (dev : Development) (s : Substitution) → IsB0 dev s → IsFlat s
b0-flat dev skip h = tt
b0-flat dev (assign ps) h = tt
b0-flat dev (seq s t) h = (b0-flat dev s h.0, b0-flat dev t h.1)
b0-flat dev (any zs s) h = b0-flat dev s h.1
b0-flat dev (assert p s) h = b0-flat dev s h
b0-flat dev (if_else p s t) h = (b0-flat dev s h.1, b0-flat dev t h.2)
b0-flat dev (loop p s i v) h = b0-flat dev s h.1
b0-flat dev s h = absurd h

bodies-flat : (dev : Development) (bs : List Body) → Each (IsB0Body dev) bs → Each (λ b. IsFlat b.sub) bs
bodies-flat dev [] h = tt
bodies-flat dev (b ∷ bs) h = (b0-flat dev b.sub h.0.sub, bodies-flat dev bs h.1)

pub last-flat : (dev : Development) → IsB0Development dev → LastIsFlat dev
last-flat dev b = record { init = b0-flat dev (level_at dev (last dev)).init b.init; bodies = bodies-flat dev (level_at dev (last dev)).bodies b.bodies }

-- ---- names, expressions and statements
module _ (dev : Development) (some : 0 < length dev.levels) (init : IsFlat (level_at dev (last dev)).init) (bodies : Each (λ b. IsFlat b.sub) (level_at dev (last dev)).bodies) (vars : (n : ℕ) → among (level_at dev (last dev)).vars n ≡ true → n < length dev.table.variables) where
  abbrev old : ℕ
  old = length dev.table.variables

  abbrev flat : Development
  flat = flattened dev

  arrays : arrays_of flat ≡ arrays_of dev
  arrays = arrays-same dev some init bodies vars

  abbrev InTable : List ℕ → Type 0
  InTable xs = (n : ℕ) → among xs n ≡ true → n < old

  scalar-same : (x : ℕ) → x < old → IsScalarName dev x → IsScalarName flat x
  scalar-same x h s = (ap (λ a. row_of a x) arrays ∙ s.0, ap is_scalar (declared-same dev some init bodies x h) ∙ s.1)

  array-same : (x : ℕ) → IsArrayName dev x → IsArrayName flat x
  array-same x a = (a.0, ap (λ r. row_of r x) arrays ∙ a.1)

  abbrev Inside : Formula → Type 0
  Inside f = (n : ℕ) → occurs n f ≡ true → n < old

  mutual
    expressions : (f : Formula) → Inside f → IsExpression dev f → IsExpression flat f
    expressions (variable x) n e = scalar-same x (n x (nat_eq-self x)) e
    expressions (literal z) n e = e
    expressions (truth_value b) n e = tt
    expressions (element s i) n e = tt
    expressions (unary Minus a) n e = expressions a n e
    expressions (unary BoolOf a) n e = conditions a n e
    expressions (binary Plus a b) n e = (expressions a (λ m q. n m (or-left (occurs m a) (occurs m b) q)) e.0, expressions b (λ m q. n m (or-right (occurs m a) (occurs m b) q)) e.1)
    expressions (binary Less a b) n e = (expressions a (λ m q. n m (or-left (occurs m a) (occurs m b) q)) e.0, expressions b (λ m q. n m (or-right (occurs m a) (occurs m b) q)) e.1)
    expressions (binary By a b) n e = (expressions a (λ m q. n m (or-left (occurs m a) (occurs m b) q)) e.0, expressions b (λ m q. n m (or-right (occurs m a) (occurs m b) q)) e.1)
    expressions (binary Over a b) n e = (expressions a (λ m q. n m (or-left (occurs m a) (occurs m b) q)) e.0, expressions b (λ m q. n m (or-right (occurs m a) (occurs m b) q)) e.1)
    expressions (binary Rest a b) n e = (expressions a (λ m q. n m (or-left (occurs m a) (occurs m b) q)) e.0, expressions b (λ m q. n m (or-right (occurs m a) (occurs m b) q)) e.1)
    expressions (binary Apply (variable f) b) n e = (array-same f e.0, expressions b (λ m q. n m (or-right (nat_eq f m) (occurs m b) q)) e.1)
    expressions f n e = absurd e

    conditions : (f : Formula) → Inside f → IsCondition dev f → IsCondition flat f
    conditions (binary Equals a b) n e = (expressions a (λ m q. n m (or-left (occurs m a) (occurs m b) q)) e.0, expressions b (λ m q. n m (or-right (occurs m a) (occurs m b) q)) e.1)
    conditions (binary Below a b) n e = (expressions a (λ m q. n m (or-left (occurs m a) (occurs m b) q)) e.0, expressions b (λ m q. n m (or-right (occurs m a) (occurs m b) q)) e.1)
    conditions (binary AtMost a b) n e = (expressions a (λ m q. n m (or-left (occurs m a) (occurs m b) q)) e.0, expressions b (λ m q. n m (or-right (occurs m a) (occurs m b) q)) e.1)
    conditions (unary Not a) n e = conditions a n e
    conditions (binary And a b) n e = (conditions a (λ m q. n m (or-left (occurs m a) (occurs m b) q)) e.0, conditions b (λ m q. n m (or-right (occurs m a) (occurs m b) q)) e.1)
    conditions (binary Or a b) n e = (conditions a (λ m q. n m (or-left (occurs m a) (occurs m b) q)) e.0, conditions b (λ m q. n m (or-right (occurs m a) (occurs m b) q)) e.1)
    conditions f n e = absurd e

  fill_values : (f : Formula) → Inside f → IsFillValue dev f → IsFillValue flat f
  fill_values (variable x) n e = scalar-same x (n x (nat_eq-self x)) e
  fill_values (literal z) n e = e
  fill_values (truth_value b) n e = tt
  fill_values (element s i) n e = tt
  fill_values f n e = absurd e

  terms : (x : ℕ) (o : Option ArrayRow) (f : Formula) → Inside f → IsTermFor dev x o f → IsTermFor flat x o f
  terms x None f n t = expressions f n t
  terms x (Some row) f n (inl w) =
      let inside : Inside (binary Overridden (variable x) (unary Single (binary Maps w.index w.value))) = λ m q. n m (ap (occurs m) w.is ∙ q) in
      let under : Inside (binary Maps w.index w.value) = λ m q. inside m (or-right (nat_eq x m) (occurs m w.index || occurs m w.value) q) in
      inl (record {
        index = w.index;
        value = w.value;
        is = w.is;
        is_index = expressions w.index (λ m q. under m (or-left (occurs m w.index) (occurs m w.value) q)) w.is_index;
        is_value = expressions w.value (λ m q. under m (or-right (occurs m w.index) (occurs m w.value) q)) w.is_value;
      })
  terms x (Some row) f n (inr w) =
      let inside : Inside (binary Times w.domain (unary Single w.value)) = λ m q. n m (ap (occurs m) w.is ∙ q) in
      inr (record {
        domain = w.domain;
        value = w.value;
        is = w.is;
        is_declared = (w.is_declared.0, clue-same dev some init bodies x ∙ w.is_declared.1);
        is_value = fill_values w.value (λ m q. inside m (or-right (occurs m w.domain) (occurs m w.value) q)) w.is_value;
      })

  assignments : (visible writable : ℕ → Bool) → ((n : ℕ) → visible n ≡ true → n < old) → (ps : List (ℕ × Formula)) → AssignsIn visible writable ps → IsAssignment dev ps → IsAssignment flat ps
  assignments visible writable v [] a b = absurd b
  assignments visible writable v (p ∷ []) a b = subst (λ r. IsTermFor flat p.0 (row_of r p.0) p.1) (sym arrays) (terms p.0 (row_of (arrays_of dev) p.0) p.1 (λ m q. v m (a.1.visible_only m q)) b)
  assignments visible writable v (p ∷ q ∷ ps) a b = absurd b

  scalars : (xs : List ℕ) → InTable xs → Each (IsScalarName dev) xs → Each (IsScalarName flat) xs
  scalars [] h e = tt
  scalars (x ∷ xs) h e = (scalar-same x (h x (or-left (nat_eq x x) (among xs x) (nat_eq-self x))) e.0, scalars xs (λ n q. h n (or-right (nat_eq n x) (among xs n) q)) e.1)

  named : (visible : ℕ → Bool) → ((n : ℕ) → visible n ≡ true → n < old) → (f : Formula) → Names visible f → Inside f
  named visible v f a m q = v m (a.visible_only m q)

  more : (zs : List ℕ) (visible : ℕ → Bool) → InTable zs → ((n : ℕ) → visible n ≡ true → n < old) → (n : ℕ) → among zs n || visible n ≡ true → n < old
  more zs visible h v n q = elim (or-cases (among zs n) (visible n) q) [ inl k ↦ h n k | inr k ↦ v n k ]

  in-b0 : (visible above writable : ℕ → Bool) → ((n : ℕ) → visible n ≡ true → n < old) → (s : Substitution) → StaysIn visible above writable s → InTable (binders s) → IsB0 dev s → IsB0 flat s
  in-b0 visible above writable v skip a h b = tt
  in-b0 visible above writable v (assign ps) a h b = assignments visible writable v ps a b
  in-b0 visible above writable v (seq s t) a h b = (in-b0 visible above writable v s a.0 (λ n q. h n (among-left (binders s) (binders t) n q)) b.0, in-b0 visible above writable v t a.1 (λ n q. h n (among-right (binders s) (binders t) n q)) b.1)
  in-b0 visible above writable v (any zs s) a h b =
      let locals : InTable zs = λ n q. h n (among-left zs (binders s) n q) in
      (scalars zs locals b.0, in-b0 (λ n. among zs n || visible n) above (λ n. among zs n || writable n) (more zs visible locals v) s a.2 (λ n q. h n (among-right zs (binders s) n q)) b.1)
  in-b0 visible above writable v (assert p s) a h b = in-b0 visible above writable v s a.1 h b
  in-b0 visible above writable v (if_else p s t) a h b = (conditions p (named visible v p a.0) b.0, in-b0 visible above writable v s a.1 (λ n q. h n (among-left (binders s) (binders t) n q)) b.1, in-b0 visible above writable v t a.2 (λ n q. h n (among-right (binders s) (binders t) n q)) b.2)
  in-b0 visible above writable v (loop p s i u) a h b = (conditions p (named visible v p a.0) b.0, in-b0 visible above writable v s a.1 h b.1)
  in-b0 visible above writable v s a h b = absurd b

-- ---- the development
module _ (dev : Development) (f : IsLawful dev) (b : IsB0Development dev) (well : IsWellFormed (flattened dev).table) where
  abbrev whole : Development
  whole = flattened dev

  abbrev low : Level
  low = level_at dev (last dev)

  abbrev Listed : List ℕ → Type 0
  Listed xs = (n : ℕ) → among xs n ≡ true → n < length dev.table.variables

  some : 0 < length dev.levels
  some = f.some_level

  init-flat : IsFlat low.init
  init-flat = (last-flat dev b).init

  bodies-are-flat : Each (λ b. IsFlat b.sub) low.bodies
  bodies-are-flat = (last-flat dev b).bodies

  sub-in-b0 : (inputs outputs : List ℕ) → AllAre (λ n. is_input (home_of dev n)) inputs → AllAre (λ n. is_inner_of (last dev) (home_of dev n)) outputs → (s : Substitution) → IsSubOf dev (last dev) inputs outputs s → IsB0 dev s → IsB0 whole s
  sub-in-b0 inputs outputs ins outs s w h = in-b0 dev some init-flat bodies-are-flat (low-vars dev f) (names_own dev (last dev) inputs outputs) (names_joined dev (last dev)) (writes_own dev (last dev) outputs)
      (own-old dev f well (last dev) inputs outputs ins outs) s w.stays (binders-in dev f (last dev) inputs outputs s w) h

  -- what is evaluated is told by the arrays alone
  shallow-same : (s : Substitution) → EvaluatesShallow (arrays_of dev) s → EvaluatesShallow (arrays_of whole) s
  shallow-same s h = subst (λ a. EvaluatesShallow a s) (sym (arrays dev some init-flat bodies-are-flat (low-vars dev f))) h

  bodies-in-b0 : (hs : List Head) (ms bs : List Body) → Each (IsHeadOf dev) hs → EachBody dev (last dev) hs ms bs → Each (IsB0Body dev) bs → Each (IsB0Body whole) bs
  bodies-in-b0 [] [] [] x e h = tt
  bodies-in-b0 [] [] (c ∷ bs) x e h = absurd e
  bodies-in-b0 [] (m ∷ ms) bs x e h = absurd e
  bodies-in-b0 (y ∷ hs) [] bs x e h = absurd e
  bodies-in-b0 (y ∷ hs) (m ∷ ms) [] x e h = absurd e
  bodies-in-b0 (y ∷ hs) (m ∷ ms) (c ∷ bs) x e h = (
    record {
      condition = h.0.condition;
      outputs = scalars dev some init-flat bodies-are-flat (low-vars dev f) c.outputs (at-home dev f (is_inner_of (last dev)) refl c.outputs e.0.outputs) h.0.outputs;
      sub = sub-in-b0 y.inputs c.outputs x.0.inputs e.0.outputs c.sub e.0.sub h.0.sub;
      shallow = shallow-same c.sub h.0.shallow;
    },
    bodies-in-b0 hs ms bs x.1 e.1 h.1,
  )

  shapes-in : (xs : List ℕ) → Listed xs → Each (λ x. IsScalarName dev x ⊎ IsArrayName dev x) xs → Each (λ x. IsScalarName whole x ⊎ IsArrayName whole x) xs
  shapes-in [] h e = tt
  shapes-in (x ∷ xs) h e = (
    elim e.0 [ inl s ↦ inl (scalar-same dev some init-flat bodies-are-flat (low-vars dev f) x (h x (or-left (nat_eq x x) (among xs x) (nat_eq-self x))) s) | inr a ↦ inr (array-same dev some init-flat bodies-are-flat (low-vars dev f) x a) ],
    shapes-in xs (λ n q. h n (or-right (nat_eq n x) (among xs n) q)) e.1,
  )

  heads-in : (o : ℕ) → Listed (inputs_of dev o)
  heads-in o = at-home dev f is_input refl (inputs_of dev o) (head-at dev dev.heads f.heads o blank_head (record { inputs = tt; distinct = tt })).inputs

  flat-in-b0 : IsB0Development whole
  flat-in-b0 =
      let same = low-same dev some init-flat bodies-are-flat in
      record {
        complete = complete-same dev some init-flat bodies-are-flat ∙ b.complete;
        variables = subst (λ (l : Level). Each (λ x. IsScalarName whole x ⊎ IsArrayName whole x) l.vars) (sym same) (shapes-in low.vars (low-vars dev f) b.variables);
        inputs = λ o h. scalars dev some init-flat bodies-are-flat (low-vars dev f) (inputs_of dev o) (heads-in o) (b.inputs o h);
        init = subst (λ (l : Level). IsB0 whole l.init) (sym same) (sub-in-b0 [] [] tt tt low.init (last_level dev f).init b.init);
        init_shallow = subst (λ (l : Level). EvaluatesShallow (arrays_of whole) l.init) (sym same) (shallow-same low.init b.init_shallow);
        bodies = subst (λ (l : Level). Each (IsB0Body whole) l.bodies) (sym same) (bodies-in-b0 dev.heads (level_at dev 0).bodies low.bodies f.heads (last_level dev f).bodies b.bodies);
      }

pub flattened_stays_in_b0 : FlattenedStaysInB0
flattened_stays_in_b0 dev f b = flat-in-b0 dev f b (flat-formed dev f.table)
