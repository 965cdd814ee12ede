-- A term without fault 11 reads as an expression or a condition of B0, with fewer operators on one way down than it is high.
use Rattle.std.proofs.Common.{◌≡◌, ℕ, ◌+◌, ◌≤◌, ◌≤ℤ◌, List, [], ◌∷◌, ◌++◌, max, refl, sym, ◌∙◌, ap, subst, Bool, true, false, ◌&&◌, cond, arith}
use Rattle.std.specs.Prelude.{Option, None, Some, ℤ, pos, neg_ℤ, ◌-ℤ◌, int_le}
use Rattle.std.proofs.lemmas.Int.{ints}
use Rattle.std.specs.Str.{bytes_eq}
use Rattle.bk_val.specs.ValueType.{ValueType, int_type, bool_type, enum_type, pair_type, set_type}
use Rattle.bk_form.specs.Formula.{Formula, variable, literal, element, named, unary, binary}
use Rattle.bk_form.specs.Defined.{is_in_int}
use Rattle.bk_form.specs.Role.{same_type}
use Rattle.bk_form.specs.declared.operator.UnOp.TheVariants.{Not as Negation, BoolOf as TruthOf, Neg}
use Rattle.bk_form.specs.declared.operator.BinOp.{BinOp}
use Rattle.bk_form.specs.declared.operator.BinOp.TheVariants.{And as Conjunction, Or as Disjunction, Eq, Lt, Le, Add, Sub, Mul, Div, Mod as Remainder, Minus as Without, Apply as ApplyTo}
use Rattle.bk_dev.specs.Development.{Development, int_max, IsRange}
use Rattle.bk_dev.specs.Layout.{is_scalar}
use Rattle.bk_dev.specs.B0.{IsArrayName, IsExpression, IsCondition, operators_down}
use Rattle.bk_raw.specs.declared.operator.InfixOp.{InfixOp}
use Rattle.bk_raw.specs.declared.operator.InfixOp.TheVariants.{Equivalent, Implies, And, Or, Equal, NotEqual, Less, AtMost, Greater, AtLeast, Plus, Minus, Times, Divide, Mod}
use Rattle.bk_raw.specs.declared.operator.WordOp.TheVariants.{Not, BoolOf, Succ, Pred}
use Rattle.bk_raw.specs.declared.operator.Constant.{Constant}
use Rattle.bk_raw.specs.declared.operator.Constant.TheVariants.{True, False, MaxInt, MinInt}
use Rattle.bk_raw.specs.Trees.RawTree.{RawTree, raw, RawTreeNode, raw_name, raw_number, raw_constant, raw_word, raw_negative, raw_infix, raw_inverse, raw_image, raw_apply, raw_composition, raw_pair, raw_extension, tree_height, node_height}
use Rattle.bk_raw.specs.Meaning.Names.{Names, Meaning, local, global, set_name, element_name, nothing, Sight, unseen, untyped_name, seen, found, sight}
use Rattle.bk_raw.specs.Meaning.Outcome.{Partial, whole, hollow, single_of, pair_of, joint_of, filled, where_holds, Outcome, partial, ranging, holding, silent, Reading, ask, ask_predicate, fitting, of_answer, of_answers}
use Rattle.bk_raw.specs.Meaning.OperatorReadings.{int_min, on_values, constant_reading, calculated, compared, connected, equal, negated, turned, minus, times, apply_reading, stepped}
use Rattle.bk_raw.specs.Meaning.TermReading.{place_of, is_predicate, is_alike, part, name_reading, reading, node_reading}
use Rattle.bk_raw.proofs.RulesFit.{none-left, none-right}
use Rattle.bk_raw.specs.Errors.Faults.{Fault, not_predicate}
use Rattle.bk_statics.specs.Typings.{Typing, with_type, typed, target_in, target, as_number, variable_named}
use Rattle.bk_statics.specs.Settled.{IsSettled, StandsIn, AreOf}
use Rattle.bk_statics.specs.ValueFaults.{is_there}
use Rattle.bk_statics.specs.Executable.{Executing, not_executable, is_scalar_option, outcome_type, is_int, array_of, is_array, is_literal_word, is_within, gives_int, gives_scalar, or_whole, expression_faults, expression_in, condition_faults, condition_in, all_expression_faults}
use Rattle.bk_statics.proofs.ArrayNames.{scalar-name}

-- ---- faults
pub exec-true : (b : Bool) (at : ℕ) → not_executable b at ≡ [] → b ≡ true
exec-true true at h = refl
exec-true false at h = absurd (cc)

whole-never : {A : Type 0} (at : ℕ) (fs : List Fault) → or_whole at fs ≡ [] → A
whole-never at [] h = absurd (cc)
whole-never at (f ∷ fs) h = absurd (cc)

-- where a formula is told unless the test holds, the test holds and nothing inside is at fault
whole-then : (b : Bool) (at : ℕ) (fs : List Fault) → cond b fs (or_whole at fs) ≡ [] → (b ≡ true) × (fs ≡ [])
whole-then true at fs h = (refl, h)
whole-then false at fs h = whole-never at fs h

-- ---- numbers of the range
le-so : (x y : ℤ) → x ≤ℤ y → int_le x y ≡ true
le-so x y h = grind (arith, ints)

within-so : (most z : ℤ) → (pos 0 -ℤ most) ≤ℤ z → z ≤ℤ most → is_in_int most z ≡ true
within-so most z low high = λ i. le-so (pos 0 -ℤ most) z low i && le-so z most high i

-- MAXINT is at least 1
one-within : (most : ℤ) → IsRange most → is_in_int most (pos 1) ≡ true
one-within most range =
    let least : pos 1 ≤ℤ most = range.least in
    within-so most (pos 1) (omega (arith, ints, least)) least

most-within : (most : ℤ) → IsRange most → is_in_int most most ≡ true
most-within most range =
    let least : pos 1 ≤ℤ most = range.least in
    within-so most most (omega (arith, ints, least)) (omega (arith, ints))

least-within : (most : ℤ) → IsRange most → is_in_int most (int_min most) ≡ true
least-within most range =
    let least : pos 1 ≤ℤ most = range.least in
    within-so most (neg_ℤ most) (omega (arith, ints)) (omega (arith, ints, least))

-- ---- what is told of a B0 term
-- an expression of B0, below so high a term
abbrev pub IsB0Term : Development → ℕ → Formula → Type 0
IsB0Term dev h f = IsExpression dev f × (operators_down f + 1 ≤ h)

abbrev pub IsB0Partial : Development → ℕ → Partial → Type 0
IsB0Partial dev h (whole f u) = IsB0Term dev h f
IsB0Partial dev h _ = ⊥

-- where an expression is told it is one of B0
abbrev pub IsB0Outcome : Development → ℕ → Outcome → Type 0
IsB0Outcome dev h (partial p) = IsB0Partial dev h p
IsB0Outcome dev h _ = Unit {0}

-- where a predicate is told it is a condition of B0
abbrev pub IsB0Predicate : Development → ℕ → Outcome → Type 0
IsB0Predicate dev h (holding p) = IsCondition dev p × (operators_down p + 1 ≤ h)
IsB0Predicate dev h _ = Unit {0}

-- an answer is one of these
abbrev pub Answers : (Formula → Type 0) → Option Formula → Type 0
Answers P None = Unit {0}
Answers P (Some f) = P f

abbrev IsCondTerm : Development → ℕ → Formula → Type 0
IsCondTerm dev h p = IsCondition dev p × (operators_down p + 1 ≤ h)

module _ (dev : Development) where
  part-term : (b : Bool) (h : ℕ) (r : Reading) (s : Reading) → IsB0Outcome dev h r.outcome → IsB0Outcome dev h s.outcome → IsB0Outcome dev h (cond b r s).outcome
  part-term true h r s a c = a
  part-term false h r s a c = c

  pub term-part : (w : Bool) (t : RawTree) (h : ℕ) (r : Reading) → IsB0Outcome dev h r.outcome → IsB0Outcome dev h (part w t r).outcome
  term-part w t h r a = part-term (is_alike w (is_predicate t)) h r (record { outcome = silent; faults = not_predicate (place_of t) ∷ r.faults }) a tt

  part-predicate : (b : Bool) (h : ℕ) (r : Reading) (s : Reading) → IsB0Predicate dev h r.outcome → IsB0Predicate dev h s.outcome → IsB0Predicate dev h (cond b r s).outcome
  part-predicate true h r s a c = a
  part-predicate false h r s a c = c

  pub predicate-part : (w : Bool) (t : RawTree) (h : ℕ) (r : Reading) → IsB0Predicate dev h r.outcome → IsB0Predicate dev h (part w t r).outcome
  predicate-part w t h r a = part-predicate (is_alike w (is_predicate t)) h r (record { outcome = silent; faults = not_predicate (place_of t) ∷ r.faults }) a tt

  filled-term : (b : Bool) (h : ℕ) (f : Formula) → IsB0Term dev h f → Answers (IsB0Term dev h) (where_holds b (Some f))
  filled-term true h f a = a
  filled-term false h f a = tt

  fit-term : (at : ℕ) (h : ℕ) (o : Option Formula) → Answers (IsB0Term dev h) o → Answers (IsB0Term dev h) (fitting at o).answer
  fit-term at h None a = tt
  fit-term at h (Some f) a = a

  partial-filled : (h : ℕ) (p : Partial) (t : ValueType) → IsB0Partial dev h p → Answers (IsB0Term dev h) (filled p t)
  partial-filled h (whole f u) t a = filled-term (same_type u t) h f a
  partial-filled h hollow t a = absurd a
  partial-filled h (single_of p) t a = absurd a
  partial-filled h (pair_of p q) t a = absurd a
  partial-filled h (joint_of j p q) t a = absurd a

  -- what takes a type
  pub asked-term : (at h : ℕ) (o : Outcome) (t : ValueType) → IsB0Outcome dev h o → Answers (IsB0Term dev h) (ask at o t).answer
  asked-term at h (partial p) t a = fit-term at h (filled p t) (partial-filled h p t a)
  asked-term at h (ranging f u there) t a = tt
  asked-term at h (holding p) t a = tt
  asked-term at h silent t a = tt

  pub asked-predicate : (h : ℕ) (o : Outcome) → IsB0Predicate dev h o → Answers (IsCondTerm dev h) (ask_predicate o).answer
  asked-predicate h (holding p) a = a
  asked-predicate h (partial p) a = tt
  asked-predicate h (ranging f u there) a = tt
  asked-predicate h silent a = tt

  -- ---- operators
  two-told : (k : Formula → Formula → Outcome) (P : Outcome → Type 0) (h j : ℕ) → P silent → ((f g : Formula) → IsB0Term dev h f → IsB0Term dev j g → P (k f g)) → (a b : Option Formula) → Answers (IsB0Term dev h) a → Answers (IsB0Term dev j) b → P (of_answers k a b)
  two-told k P h j none made None b x y = none
  two-told k P h j none made (Some f) None x y = none
  two-told k P h j none made (Some f) (Some g) x y = made f g x y

  calculates : (o : BinOp) (h j : ℕ) → ((f g : Formula) → IsExpression dev f → IsExpression dev g → IsExpression dev (binary o f g)) → (f g : Formula) → IsB0Term dev h f → IsB0Term dev j g → IsB0Term dev (max h j + 1) (binary o f g)
  calculates o h j is f g x y = (is f g x.0 y.0, omega (arith, x.1, y.1))

  pub calculated-term : (o : BinOp) (t : ValueType) (x y h j : ℕ) (a b : Outcome) → ((f g : Formula) → IsExpression dev f → IsExpression dev g → IsExpression dev (binary o f g)) → IsB0Outcome dev h a → IsB0Outcome dev j b → IsB0Outcome dev (max h j + 1) (calculated o t x y a b).outcome
  calculated-term o t x y h j a b is l r = two-told (λ f g. partial (whole (binary o f g) t)) (IsB0Outcome dev (max h j + 1)) h j tt (calculates o h j is) (ask x a int_type).answer (ask y b int_type).answer (asked-term x h a int_type l) (asked-term y j b int_type r)

  -- a comparison
  pub compared-term : (k : Formula → Formula → Formula) (x y h j : ℕ) (a b : Outcome) → ((f g : Formula) → IsB0Term dev h f → IsB0Term dev j g → IsCondTerm dev (max h j + 1) (k f g)) → IsB0Outcome dev h a → IsB0Outcome dev j b → IsB0Predicate dev (max h j + 1) (compared k x y a b).outcome
  compared-term k x y h j a b is l r = two-told (λ f g. holding (k f g)) (IsB0Predicate dev (max h j + 1)) h j tt is (ask x a int_type).answer (ask y b int_type).answer (asked-term x h a int_type l) (asked-term y j b int_type r)

  -- two conditions
  pub connected-term : (o : BinOp) (h j : ℕ) (a b : Outcome) → ((p q : Formula) → IsCondition dev p → IsCondition dev q → IsCondition dev (binary o p q)) → IsB0Predicate dev h a → IsB0Predicate dev j b → IsB0Predicate dev (max h j + 1) (connected o a b).outcome
  connected-term o h j a b is l r = both (ask_predicate a).answer (ask_predicate b).answer (asked-predicate h a l) (asked-predicate j b r)
    where
      both : (p q : Option Formula) → Answers (IsCondTerm dev h) p → Answers (IsCondTerm dev j) q → IsB0Predicate dev (max h j + 1) (of_answers (λ p q. holding (binary o p q)) p q)
      both None q x y = tt
      both (Some p) None x y = tt
      both (Some p) (Some q) x y = (is p q x.0 y.0, omega (arith, x.1, y.1))

  -- = and /=
  equal-told : (k : Formula → Formula → Formula) (at h j : ℕ) (p q : Partial) → ((f g : Formula) → IsB0Term dev h f → IsB0Term dev j g → IsCondTerm dev (max h j + 1) (k f g)) → IsB0Partial dev h p → IsB0Partial dev j q → IsB0Predicate dev (max h j + 1) (equal k at p q).outcome
  equal-told k at h j (whole f u) (whole g v) is x y = by (same_type v u)
    where
      by : (b : Bool) → IsB0Predicate dev (max h j + 1) (of_answer (λ e. holding (k f e)) (fitting at (where_holds b (Some g))).answer)
      by true = is f g x y
      by false = tt
  equal-told k at h j (whole f u) hollow is x y = absurd y
  equal-told k at h j (whole f u) (single_of q) is x y = absurd y
  equal-told k at h j (whole f u) (pair_of q r) is x y = absurd y
  equal-told k at h j (whole f u) (joint_of i q r) is x y = absurd y
  equal-told k at h j hollow q is x y = absurd x
  equal-told k at h j (single_of p) q is x y = absurd x
  equal-told k at h j (pair_of p r) q is x y = absurd x
  equal-told k at h j (joint_of i p r) q is x y = absurd x

  -- a - b that gives a number
  minus-told : (at x y h j : ℕ) (p q : Partial) → IsB0Partial dev h p → IsB0Partial dev j q → is_int (outcome_type (minus at x y p q).outcome) ≡ true → IsB0Outcome dev (max h j + 1) (minus at x y p q).outcome
  minus-told at x y h j (whole f int_type) (whole g v) l r e = by (same_type v int_type)
    where
      by : (b : Bool) → IsB0Outcome dev (max h j + 1) (of_answer (λ e. partial (whole (binary Sub f e) int_type)) (fitting y (where_holds b (Some g))).answer)
      by true = calculates Sub h j (λ f g a c. (a, c)) f g l r
      by false = tt
  minus-told at x y h j (whole f bool_type) (whole g v) l r e = tt
  minus-told at x y h j (whole f (enum_type s)) (whole g v) l r e = tt
  minus-told at x y h j (whole f (pair_type t u)) (whole g v) l r e = tt
  minus-told at x y h j (whole f (set_type t)) (whole g v) l r e = by (same_type v (set_type t)) e
    where
      by : (b : Bool) → is_int (outcome_type (of_answer (λ e. partial (whole (binary Without f e) (set_type t))) (fitting at (where_holds b (Some g))).answer)) ≡ true → IsB0Outcome dev (max h j + 1) (of_answer (λ e. partial (whole (binary Without f e) (set_type t))) (fitting at (where_holds b (Some g))).answer)
      by true k = absurd (cc)
      by false k = tt
  minus-told at x y h j (whole f u) hollow l r e = absurd r
  minus-told at x y h j (whole f u) (single_of q) l r e = absurd r
  minus-told at x y h j (whole f u) (pair_of q s) l r e = absurd r
  minus-told at x y h j (whole f u) (joint_of i q s) l r e = absurd r
  minus-told at x y h j hollow q l r e = absurd l
  minus-told at x y h j (single_of p) q l r e = absurd l
  minus-told at x y h j (pair_of p s) q l r e = absurd l
  minus-told at x y h j (joint_of i p s) q l r e = absurd l

  -- a * b that gives a number
  times-told : (at x y h j : ℕ) (a b : Outcome) → IsB0Outcome dev h a → IsB0Outcome dev j b → is_int (outcome_type (times at x y a b).outcome) ≡ true → IsB0Outcome dev (max h j + 1) (times at x y a b).outcome
  times-told at x y h j (partial (whole f int_type)) b l r e = by (ask y b int_type).answer (asked-term y j b int_type r)
    where
      by : (o : Option Formula) → Answers (IsB0Term dev j) o → IsB0Outcome dev (max h j + 1) (of_answer (λ g. partial (whole (binary Mul f g) int_type)) o)
      by None k = tt
      by (Some g) k = calculates Mul h j (λ f g a c. (a, c)) f g l k
  times-told at x y h j (partial (whole f bool_type)) b l r e = tt
  times-told at x y h j (partial (whole f (enum_type s))) b l r e = tt
  times-told at x y h j (partial (whole f (pair_type t u))) b l r e = tt
  times-told at x y h j (partial (whole f (set_type t))) (partial (whole g (set_type u))) l r e = absurd (cc)
  times-told at x y h j (partial (whole f (set_type t))) (partial (whole g int_type)) l r e = tt
  times-told at x y h j (partial (whole f (set_type t))) (partial (whole g bool_type)) l r e = tt
  times-told at x y h j (partial (whole f (set_type t))) (partial (whole g (enum_type s))) l r e = tt
  times-told at x y h j (partial (whole f (set_type t))) (partial (whole g (pair_type u v))) l r e = tt
  times-told at x y h j (partial (whole f (set_type t))) (partial hollow) l r e = absurd r
  times-told at x y h j (partial (whole f (set_type t))) (partial (single_of q)) l r e = absurd r
  times-told at x y h j (partial (whole f (set_type t))) (partial (pair_of q s)) l r e = absurd r
  times-told at x y h j (partial (whole f (set_type t))) (partial (joint_of i q s)) l r e = absurd r
  times-told at x y h j (partial (whole f (set_type t))) (ranging g u there) l r e = tt
  times-told at x y h j (partial (whole f (set_type t))) (holding p) l r e = tt
  times-told at x y h j (partial (whole f (set_type t))) silent l r e = tt
  times-told at x y h j (partial hollow) b l r e = absurd l
  times-told at x y h j (partial (single_of p)) b l r e = absurd l
  times-told at x y h j (partial (pair_of p s)) b l r e = absurd l
  times-told at x y h j (partial (joint_of i p s)) b l r e = absurd l
  times-told at x y h j (ranging f t there) (partial (whole g (set_type u))) l r e = tt
  times-told at x y h j (ranging f t there) (partial (whole g int_type)) l r e = tt
  times-told at x y h j (ranging f t there) (partial (whole g bool_type)) l r e = tt
  times-told at x y h j (ranging f t there) (partial (whole g (enum_type s))) l r e = tt
  times-told at x y h j (ranging f t there) (partial (whole g (pair_type u v))) l r e = tt
  times-told at x y h j (ranging f t there) (partial hollow) l r e = absurd r
  times-told at x y h j (ranging f t there) (partial (single_of q)) l r e = absurd r
  times-told at x y h j (ranging f t there) (partial (pair_of q s)) l r e = absurd r
  times-told at x y h j (ranging f t there) (partial (joint_of i q s)) l r e = absurd r
  times-told at x y h j (ranging f t there) (ranging g u other) l r e = tt
  times-told at x y h j (ranging f t there) (holding p) l r e = tt
  times-told at x y h j (ranging f t there) silent l r e = tt
  times-told at x y h j (holding p) b l r e = tt
  times-told at x y h j silent b l r e = tt

-- ---- names
-- what is found of a name: a variable has the type that is told of it, and what else is named is an element or no scalar
abbrev IsNamedAs : Typing → Formula → ValueType → Type 0
IsNamedAs typing (variable k) u = typing k ≡ Some u
IsNamedAs typing (element s i) u = Unit {0}
IsNamedAs typing (named d) u = is_scalar u ≡ false
IsNamedAs typing _ u = ⊥

abbrev pub IsNamed : Typing → Sight → Type 0
IsNamed typing (seen f u) = IsNamedAs typing f u
IsNamed typing _ = Unit {0}

module _ (x : Executing) (dev : Development) (most : x.int_max ≡ int_max dev) (range : IsRange (int_max dev)) (settled : IsSettled dev.table x.typing) (arrays : (n : ℕ) → is_there (x.array n) ≡ true → IsArrayName dev n) where
  either-named : (b : Bool) (s t : Sight) → IsNamed x.typing s → IsNamed x.typing t → IsNamed x.typing (cond b s t)
  either-named true s t h k = h
  either-named false s t h k = k

  pub found-named : (names : Names) → AreOf dev.table names → (text : List ℕ) → IsNamed x.typing (found 0 (typed x.typing names) text)
  found-named [] h text = tt
  found-named (n ∷ ns) h text = by n.meaning h.0 (found-named ns h.1 text)
    where
      by-type : (k : ℕ) (o : Option ValueType) → x.typing k ≡ o → IsNamed x.typing (sight 0 (global k o))
      by-type k None e = tt
      by-type k (Some u) e = e

      by : (m : Meaning) → StandsIn dev.table m → IsNamed x.typing (found 0 (typed x.typing ns) text) → IsNamed x.typing (found 0 (record { text = n.text; meaning = with_type x.typing m } ∷ typed x.typing ns) text)
      by (local t) s more = absurd s
      by (global k t) s more = either-named (bytes_eq n.text text) (sight 0 (global k (x.typing k))) (found 0 (typed x.typing ns) text) (by-type k (x.typing k) refl) more
      by (set_name k) s more = either-named (bytes_eq n.text text) (sight 0 (set_name k)) (found 0 (typed x.typing ns) text) refl more
      by (element_name k i) s more = either-named (bytes_eq n.text text) (sight 0 (element_name k i)) (found 0 (typed x.typing ns) text) tt more
      by nothing s more = absurd s

  -- a name of a scalar is an expression
  pub name-told : (at : ℕ) (s : Sight) → IsNamed x.typing s → is_scalar_option (outcome_type (name_reading at s).outcome) ≡ true → IsB0Outcome dev 1 (name_reading at s).outcome
  name-told at unseen h e = tt
  name-told at untyped_name h e = tt
  name-told at (seen (variable k) u) h e = (scalar-name dev k u (settled.types k u h) e, omega arith)
  name-told at (seen (element s i) u) h e = (tt, omega arith)
  name-told at (seen (named d) u) h e = let clash : true ≡ false = sym e ∙ h in absurd (cc)
  name-told at (seen f u) h e = absurd h

  -- what a variable's name is
  found-variable : (names : Names) → AreOf dev.table names → (text : List ℕ) (k : ℕ) → variable_named names text ≡ Some k → found 0 (typed x.typing names) text ≡ sight 0 (global k (x.typing k))
  found-variable [] h text k e = absurd (cc)
  found-variable (n ∷ ns) h text k e = by n.meaning h.0 e (λ q. found-variable ns h.1 text k q)
    where
      here : (b : Bool) (j : ℕ) → as_number (cond b (target_in (global j None)) (target ns text)) ≡ Some k → (variable_named ns text ≡ Some k → found 0 (typed x.typing ns) text ≡ sight 0 (global k (x.typing k))) →
          cond b (sight 0 (global j (x.typing j))) (found 0 (typed x.typing ns) text) ≡ sight 0 (global k (x.typing k))
      here true j g more = let same : j ≡ k = let q : Some j ≡ Some k = g in cc in ap (λ i. sight 0 (global i (x.typing i))) same
      here false j g more = more g

      past : (b : Bool) (s : Sight) → as_number (cond b (target_in (set_name 0)) (target ns text)) ≡ Some k → (variable_named ns text ≡ Some k → found 0 (typed x.typing ns) text ≡ sight 0 (global k (x.typing k))) →
          cond b s (found 0 (typed x.typing ns) text) ≡ sight 0 (global k (x.typing k))
      past true s g more = absurd (cc)
      past false s g more = more g

      by : (m : Meaning) → StandsIn dev.table m → as_number (cond (bytes_eq n.text text) (target_in m) (target ns text)) ≡ Some k → (variable_named ns text ≡ Some k → found 0 (typed x.typing ns) text ≡ sight 0 (global k (x.typing k))) →
          found 0 (record { text = n.text; meaning = with_type x.typing m } ∷ typed x.typing ns) text ≡ sight 0 (global k (x.typing k))
      by (local t) s g more = absurd s
      by (global j t) s g more = here (bytes_eq n.text text) j g more
      by (set_name j) s g more = past (bytes_eq n.text text) (sight 0 (set_name j)) g more
      by (element_name j i) s g more = past (bytes_eq n.text text) (sight 0 (element_name j i)) g more
      by nothing s g more = absurd s

  -- ---- f(e)
  array-number : (o : Option ℕ) → is_there (array_of x o) ≡ true → (k : ℕ) × (o ≡ Some k) × IsArrayName dev k
  array-number None h = absurd (cc)
  array-number (Some k) h = (k, refl, arrays k h)

  applied-told : (at there pa pb j k : ℕ) (b : Outcome) → IsArrayName dev k → IsB0Outcome dev j b → (o : Option ValueType) → IsB0Outcome dev (max 1 j + 1) (apply_reading pa pb (name_reading there (sight 0 (global k o))).outcome b).outcome
  applied-told at there pa pb j k b name r None = tt
  applied-told at there pa pb j k b name r (Some int_type) = tt
  applied-told at there pa pb j k b name r (Some bool_type) = tt
  applied-told at there pa pb j k b name r (Some (enum_type s)) = tt
  applied-told at there pa pb j k b name r (Some (pair_type t u)) = tt
  applied-told at there pa pb j k b name r (Some (set_type int_type)) = tt
  applied-told at there pa pb j k b name r (Some (set_type bool_type)) = tt
  applied-told at there pa pb j k b name r (Some (set_type (enum_type s))) = tt
  applied-told at there pa pb j k b name r (Some (set_type (set_type t))) = tt
  applied-told at there pa pb j k b name r (Some (set_type (pair_type t u))) = by (ask pb b t).answer (asked-term dev pb j b t r)
    where
      by : (o : Option Formula) → Answers (IsB0Term dev j) o → IsB0Outcome dev (max 1 j + 1) (of_answer (λ s. partial (whole (binary ApplyTo (variable k) s) u)) o)
      by None h = tt
      by (Some s) h = ((name, h.0), omega (arith, h.1))

  -- ---- words
  stepped-told : (o : BinOp) (h : ℕ) → ((f g : Formula) → IsExpression dev f → IsExpression dev g → IsExpression dev (binary o f g)) → (a : Option Formula) → Answers (IsB0Term dev h) a → IsB0Outcome dev (h + 1) (of_answer (stepped o) a)
  stepped-told o h is None k = tt
  stepped-told o h is (Some f) k = (is f (literal (pos 1)) k.0 (one-within (int_max dev) range), omega (arith, k.1))

  negative-told : (h : ℕ) (a : Option Formula) → Answers (IsB0Term dev h) a → IsB0Outcome dev (h + 1) (of_answer (λ f. partial (whole (unary Neg f) int_type)) a)
  negative-told h None k = tt
  negative-told h (Some f) k = (k.0, omega (arith, k.1))

  truth-told : (h : ℕ) (a : Option Formula) → Answers (λ p. IsCondition dev p × (operators_down p + 1 ≤ h)) a → IsB0Outcome dev (h + 1) (of_answer (λ p. partial (whole (unary TruthOf p) bool_type)) a)
  truth-told h None k = tt
  truth-told h (Some p) k = (k.0, omega (arith, k.1))

  negation-told : (h : ℕ) (a : Option Formula) → Answers (λ p. IsCondition dev p × (operators_down p + 1 ≤ h)) a → IsB0Predicate dev (h + 1) (of_answer (λ p. holding (unary Negation p)) a)
  negation-told h None k = tt
  negation-told h (Some p) k = (k.0, omega (arith, k.1))

  number-told : (z : ℤ) → is_within x z ≡ true → is_in_int (int_max dev) z ≡ true
  number-told z h = subst (λ m. is_in_int m z ≡ true) most h

  pub most-told : is_in_int (int_max dev) x.int_max ≡ true
  most-told = subst (λ m. is_in_int (int_max dev) m ≡ true) (sym most) (most-within (int_max dev) range)

  pub least-told : is_in_int (int_max dev) (int_min x.int_max) ≡ true
  least-told = subst (λ m. is_in_int (int_max dev) (int_min m) ≡ true) (sym most) (least-within (int_max dev) range)

  constant-told : (at : ℕ) (c : Constant) → is_literal_word c ≡ true → IsB0Outcome dev 1 (constant_reading x.int_max at c).outcome
  constant-told at True h = (tt, omega arith)
  constant-told at False h = (tt, omega arith)
  constant-told at MaxInt h = (most-told, omega arith)
  constant-told at MinInt h = (least-told, omega arith)
  constant-told at c h = absurd (cc)

  -- ---- operators between two terms
  abbrev pub Told : Names → RawTree → Type 0
  Told names a = IsB0Outcome dev (tree_height a) (reading x.int_max (typed x.typing names) a).outcome

  abbrev pub Holds : Names → RawTree → Type 0
  Holds names a = IsB0Predicate dev (tree_height a) (reading x.int_max (typed x.typing names) a).outcome

  on-minus : (at pa pb h j : ℕ) (a b : Outcome) → IsB0Outcome dev h a → IsB0Outcome dev j b → is_int (outcome_type (on_values (minus at pa pb) a b).outcome) ≡ true → IsB0Outcome dev (max h j + 1) (on_values (minus at pa pb) a b).outcome
  on-minus at pa pb h j (partial p) (partial q) l r e = minus-told dev at pa pb h j p q l r e
  on-minus at pa pb h j (partial p) (ranging g u there) l r e = tt
  on-minus at pa pb h j (partial p) (holding q) l r e = tt
  on-minus at pa pb h j (partial p) silent l r e = tt
  on-minus at pa pb h j (ranging f u there) b l r e = tt
  on-minus at pa pb h j (holding p) b l r e = tt
  on-minus at pa pb h j silent b l r e = tt

  on-equal : (k : Formula → Formula → Formula) (at h j : ℕ) (a b : Outcome) → ((f g : Formula) → IsB0Term dev h f → IsB0Term dev j g → IsCondition dev (k f g) × (operators_down (k f g) + 1 ≤ max h j + 1)) → IsB0Outcome dev h a → IsB0Outcome dev j b →
      IsB0Predicate dev (max h j + 1) (on_values (equal k at) a b).outcome
  on-equal k at h j (partial p) (partial q) is l r = equal-told dev k at h j p q is l r
  on-equal k at h j (partial p) (ranging g u there) is l r = tt
  on-equal k at h j (partial p) (holding q) is l r = tt
  on-equal k at h j (partial p) silent is l r = tt
  on-equal k at h j (ranging f u there) b is l r = tt
  on-equal k at h j (holding p) b is l r = tt
  on-equal k at h j silent b is l r = tt

  module _ (names : Names) (at : ℕ) (a b : RawTree) where
    abbrev left : Outcome
    left = (part false a (reading x.int_max (typed x.typing names) a)).outcome

    abbrev right : Outcome
    right = (part false b (reading x.int_max (typed x.typing names) b)).outcome

    abbrev both : List Fault
    both = expression_faults x names a ++ expression_faults x names b

    left-told : (expression_faults x names a ≡ [] → Told names a) → both ≡ [] → IsB0Outcome dev (tree_height a) left
    left-told f e = term-part dev false a (tree_height a) (reading x.int_max (typed x.typing names) a) (f (none-left (expression_faults x names a) (expression_faults x names b) e))

    right-told : (expression_faults x names b ≡ [] → Told names b) → both ≡ [] → IsB0Outcome dev (tree_height b) right
    right-told f e = term-part dev false b (tree_height b) (reading x.int_max (typed x.typing names) b) (f (none-right (expression_faults x names a) (expression_faults x names b) e))

    infix-told : (o : InfixOp) → expression_in x names at (raw_infix o a b) ≡ [] → (expression_faults x names a ≡ [] → Told names a) → (expression_faults x names b ≡ [] → Told names b) →
        IsB0Outcome dev (max (tree_height a) (tree_height b) + 1) (node_reading x.int_max (typed x.typing names) at (raw_infix o a b)).outcome
    infix-told Plus h f g =
        let k = whole-then (gives_int x names (raw at (raw_infix Plus a b))) at both h in
        calculated-term dev Add int_type (place_of a) (place_of b) (tree_height a) (tree_height b) left right (λ f g p q. (p, q)) (left-told f k.1) (right-told g k.1)
    infix-told Minus h f g =
        let k = whole-then (gives_int x names (raw at (raw_infix Minus a b))) at both h in
        on-minus at (place_of a) (place_of b) (tree_height a) (tree_height b) left right (left-told f k.1) (right-told g k.1) k.0
    infix-told Times h f g =
        let k = whole-then (gives_int x names (raw at (raw_infix Times a b))) at both h in
        times-told dev at (place_of a) (place_of b) (tree_height a) (tree_height b) left right (left-told f k.1) (right-told g k.1) k.0
    infix-told Divide h f g =
        let k = whole-then (gives_int x names (raw at (raw_infix Divide a b))) at both h in
        calculated-term dev Div int_type (place_of a) (place_of b) (tree_height a) (tree_height b) left right (λ f g p q. (p, q)) (left-told f k.1) (right-told g k.1)
    infix-told Mod h f g =
        let k = whole-then (gives_int x names (raw at (raw_infix Mod a b))) at both h in
        calculated-term dev Remainder int_type (place_of a) (place_of b) (tree_height a) (tree_height b) left right (λ f g p q. (p, q)) (left-told f k.1) (right-told g k.1)
    infix-told o h f g = whole-never at both h

    abbrev one : Outcome
    one = (part true a (reading x.int_max (typed x.typing names) a)).outcome

    abbrev other : Outcome
    other = (part true b (reading x.int_max (typed x.typing names) b)).outcome

    abbrev each : List Fault
    each = condition_faults x names a ++ condition_faults x names b

    one-holds : (condition_faults x names a ≡ [] → Holds names a) → each ≡ [] → IsB0Predicate dev (tree_height a) one
    one-holds f e = predicate-part dev true a (tree_height a) (reading x.int_max (typed x.typing names) a) (f (none-left (condition_faults x names a) (condition_faults x names b) e))

    other-holds : (condition_faults x names b ≡ [] → Holds names b) → each ≡ [] → IsB0Predicate dev (tree_height b) other
    other-holds f e = predicate-part dev true b (tree_height b) (reading x.int_max (typed x.typing names) b) (f (none-right (condition_faults x names a) (condition_faults x names b) e))

    infix-holds : (o : InfixOp) → condition_in x names at (raw_infix o a b) ≡ [] → (expression_faults x names a ≡ [] → Told names a) → (expression_faults x names b ≡ [] → Told names b) → (condition_faults x names a ≡ [] → Holds names a) → (condition_faults x names b ≡ [] → Holds names b) →
        IsB0Predicate dev (max (tree_height a) (tree_height b) + 1) (node_reading x.int_max (typed x.typing names) at (raw_infix o a b)).outcome
    infix-holds And h f g p q = connected-term dev Conjunction (tree_height a) (tree_height b) one other (λ c d u v. (u, v)) (one-holds p h) (other-holds q h)
    infix-holds Or h f g p q = connected-term dev Disjunction (tree_height a) (tree_height b) one other (λ c d u v. (u, v)) (one-holds p h) (other-holds q h)
    infix-holds Less h f g p q = compared-term dev (binary Lt) (place_of a) (place_of b) (tree_height a) (tree_height b) left right (λ c d u v. ((u.0, v.0), omega (arith, u.1, v.1))) (left-told f h) (right-told g h)
    infix-holds AtMost h f g p q = compared-term dev (binary Le) (place_of a) (place_of b) (tree_height a) (tree_height b) left right (λ c d u v. ((u.0, v.0), omega (arith, u.1, v.1))) (left-told f h) (right-told g h)
    infix-holds Greater h f g p q = compared-term dev (turned (binary Lt)) (place_of a) (place_of b) (tree_height a) (tree_height b) left right (λ c d u v. ((v.0, u.0), omega (arith, u.1, v.1))) (left-told f h) (right-told g h)
    infix-holds AtLeast h f g p q = compared-term dev (turned (binary Le)) (place_of a) (place_of b) (tree_height a) (tree_height b) left right (λ c d u v. ((v.0, u.0), omega (arith, u.1, v.1))) (left-told f h) (right-told g h)
    infix-holds Equal h f g p q =
        let k = whole-then (gives_scalar x names a && gives_scalar x names b) at both h in
        on-equal (binary Eq) at (tree_height a) (tree_height b) left right (λ c d u v. ((u.0, v.0), omega (arith, u.1, v.1))) (left-told f k.1) (right-told g k.1)
    infix-holds NotEqual h f g p q =
        let k = whole-then (gives_scalar x names a && gives_scalar x names b) at both h in
        on-equal (negated (binary Eq)) at (tree_height a) (tree_height b) left right (λ c d u v. ((u.0, v.0), omega (arith, u.1, v.1))) (left-told f k.1) (right-told g k.1)
    infix-holds Implies h f g p q = whole-never at each h
    infix-holds Equivalent h f g p q = whole-never at each h
    infix-holds o h f g p q = whole-never at both h

  array-then : (b : Bool) (at : ℕ) (fs gs : List Fault) → cond b fs (or_whole at gs) ≡ [] → (b ≡ true) × (fs ≡ [])
  array-then true at fs gs h = (refl, h)
  array-then false at fs gs h = whole-never at gs h

  apply-told : (names : Names) → AreOf dev.table names → (there pa pb j : ℕ) (f : List ℕ) (b : Outcome) → is_array x names f ≡ true → IsB0Outcome dev j b → IsB0Outcome dev (max 1 j + 1) (apply_reading pa pb (name_reading there (found 0 (typed x.typing names) f)).outcome b).outcome
  apply-told names h there pa pb j f b e r =
      let k = array-number (variable_named names f) e in
      subst (λ s. IsB0Outcome dev (max 1 j + 1) (apply_reading pa pb (name_reading there s).outcome b).outcome) (sym (found-variable names h f k.0 k.1)) (applied-told 0 there pa pb j k.0 b k.2 r (x.typing k.0))

  mutual
    -- an expression without fault 11
    pub b0-expression : (e : RawTree) (names : Names) → AreOf dev.table names → expression_faults x names e ≡ [] → Told names e
    b0-expression (raw at node) names h e = expression-node node at names h e

    expression-node : (node : RawTreeNode) (at : ℕ) (names : Names) → AreOf dev.table names → expression_in x names at node ≡ [] → IsB0Outcome dev (node_height node) (node_reading x.int_max (typed x.typing names) at node).outcome
    expression-node (raw_number z) at names h e = (number-told z (exec-true (is_within x z) at e), omega arith)
    expression-node (raw_constant c) at names h e = constant-told at c (exec-true (is_literal_word c) at e)
    expression-node (raw_name n) at names h e = name-told at (found 0 (typed x.typing names) n) (found-named names h n) (exec-true (gives_scalar x names (raw at (raw_name n))) at e)
    expression-node (raw_negative a) at names h e =
        let o = (part false a (reading x.int_max (typed x.typing names) a)).outcome in
        negative-told (tree_height a) (ask (place_of a) o int_type).answer (asked-term dev (place_of a) (tree_height a) o int_type (term-part dev false a (tree_height a) (reading x.int_max (typed x.typing names) a) (b0-expression a names h e)))
    expression-node (raw_word Succ a) at names h e =
        let o = (part false a (reading x.int_max (typed x.typing names) a)).outcome in
        stepped-told Add (tree_height a) (λ f g p q. (p, q)) (ask (place_of a) o int_type).answer (asked-term dev (place_of a) (tree_height a) o int_type (term-part dev false a (tree_height a) (reading x.int_max (typed x.typing names) a) (b0-expression a names h e)))
    expression-node (raw_word Pred a) at names h e =
        let o = (part false a (reading x.int_max (typed x.typing names) a)).outcome in
        stepped-told Sub (tree_height a) (λ f g p q. (p, q)) (ask (place_of a) o int_type).answer (asked-term dev (place_of a) (tree_height a) o int_type (term-part dev false a (tree_height a) (reading x.int_max (typed x.typing names) a) (b0-expression a names h e)))
    expression-node (raw_word BoolOf a) at names h e =
        let o = (part true a (reading x.int_max (typed x.typing names) a)).outcome in
        truth-told (tree_height a) (ask_predicate o).answer (asked-predicate dev (tree_height a) o (predicate-part dev true a (tree_height a) (reading x.int_max (typed x.typing names) a) (b0-condition a names h e)))
    expression-node (raw_word o a) at names h e = whole-never at (expression_faults x names a) e
    expression-node (raw_infix o a b) at names h e = infix-told names at a b o e (λ k. b0-expression a names h k) (λ k. b0-expression b names h k)
    expression-node (raw_apply (raw there (raw_name f)) b) at names h e =
        let k = array-then (is_array x names f) at (expression_faults x names b) (not_executable (gives_scalar x names (raw there (raw_name f))) there ++ expression_faults x names b) e in
        apply-told names h there there (place_of b) (tree_height b) f (part false b (reading x.int_max (typed x.typing names) b)).outcome k.0
        (term-part dev false b (tree_height b) (reading x.int_max (typed x.typing names) b) (b0-expression b names h k.1))
    expression-node (raw_apply (raw there node) b) at names h e = whole-never at (expression_faults x names (raw there node) ++ expression_faults x names b) e
    expression-node (raw_inverse a) at names h e = whole-never at (expression_faults x names a) e
    expression-node (raw_image a b) at names h e = whole-never at (expression_faults x names a ++ expression_faults x names b) e
    expression-node (raw_composition a b) at names h e = whole-never at (expression_faults x names a ++ expression_faults x names b) e
    expression-node (raw_pair a b) at names h e = whole-never at (expression_faults x names a ++ expression_faults x names b) e
    expression-node (raw_extension ts) at names h e = whole-never at (all_expression_faults x names ts) e
    expression-node node at names h e = absurd (cc)

    -- a condition without fault 11
    pub b0-condition : (e : RawTree) (names : Names) → AreOf dev.table names → condition_faults x names e ≡ [] → Holds names e
    b0-condition (raw at node) names h e = condition-node node at names h e

    condition-node : (node : RawTreeNode) (at : ℕ) (names : Names) → AreOf dev.table names → condition_in x names at node ≡ [] → IsB0Predicate dev (node_height node) (node_reading x.int_max (typed x.typing names) at node).outcome
    condition-node (raw_word Not a) at names h e =
        let o = (part true a (reading x.int_max (typed x.typing names) a)).outcome in
        negation-told (tree_height a) (ask_predicate o).answer (asked-predicate dev (tree_height a) o (predicate-part dev true a (tree_height a) (reading x.int_max (typed x.typing names) a) (b0-condition a names h e)))
    condition-node (raw_infix o a b) at names h e = infix-holds names at a b o e (λ k. b0-expression a names h k) (λ k. b0-expression b names h k) (λ k. b0-condition a names h k) (λ k. b0-condition b names h k)
    condition-node node at names h e = absurd (cc)
