-- What a term turns out to be, formulas aside: types and faults depend on no formula.
use Rattle.std.proofs.Common.{◌≡◌, ℕ, List, [], ◌++◌, refl, sym, ◌∙◌, ap, Bool, true, false, cond}
use Rattle.std.specs.Option.{option_map}
use Rattle.std.specs.Prelude.{Option, None, Some}
use Rattle.bk_val.specs.ValueType.{ValueType, int_type, bool_type, enum_type, pair_type, set_type}
use Rattle.bk_form.specs.Formula.{Formula, btrue, binary}
use Rattle.bk_form.specs.Role.{same_type}
use Rattle.bk_form.specs.declared.operator.BinOp.{BinOp}
use Rattle.bk_form.specs.declared.operator.BinOp.TheVariants.{In, Sub, Mul, Comp, Maps}
use Rattle.bk_raw.specs.declared.operator.InfixOp.{InfixOp}
use Rattle.bk_raw.specs.declared.operator.InfixOp.TheVariants.{Equivalent, Implies, And, Or, Equal, NotEqual, Less, AtMost, Greater, AtLeast, Member, NotMember, Subset, NotSubset, StrictSubset, Relations, PartialFunctions, TotalFunctions, PartialInjections, TotalInjections, PartialSurjections, TotalSurjections, Bijections, Union, Intersection, DomainRestriction, RangeRestriction, DomainSubtraction, RangeSubtraction, Override, Maplet, Interval, Plus, Minus, Times, Divide, Mod, Power, Concatenation, Prepend, Append}
use Rattle.bk_raw.specs.declared.operator.WordOp.{WordOp}
use Rattle.bk_raw.specs.declared.operator.WordOp.TheVariants.{Not, BoolOf, Card, Min, Max, Dom, Ran, Id, Succ, Pred, Pow, Pow1, Fin, Fin1, Seq, Size, First, Last, Front, Tail, Rev}
use Rattle.bk_raw.specs.Meaning.Outcome.{Joint, union_joint, inter_joint, minus_joint, over_joint, joins, Partial, whole, hollow, single_of, pair_of, joint_of, single_made, both_made, where_holds, joint_op, filled, whole_of, Outcome, partial, ranging, holding, silent, Reading, silently, plainly, giving, no_type, Asked, fitting, ask, ask_value, ask_set, ask_relation, ask_domain, ask_predicate, unvalued, of_answer, of_one, of_answers, of_both}
use Rattle.bk_raw.specs.Meaning.OperatorReadings.{word_reading, negative_reading, inverse_reading, depending, dependent, on_values, connected, compared, calculated, one_type_by, one_type, equal, strictly, in_domain, in_power, arrow, joined, joint, is_number, minus_by, minus, unmatched, ungiven, times, left_part, right_part, image_reading, apply_reading, composed, composition_reading, paired, pair_reading, negated, infix_reading, singled, single_reading, extended}
use Rattle.bk_raw.specs.Errors.Faults.{Fault}

-- ---- formulas aside
abbrev pub bare : Partial → Partial
bare (whole f t) = whole btrue t
bare hollow = hollow
bare (single_of p) = single_of (bare p)
bare (pair_of p q) = pair_of (bare p) (bare q)
bare (joint_of j p q) = joint_of j (bare p) (bare q)

abbrev pub bare_outcome : Outcome → Outcome
bare_outcome (partial p) = partial (bare p)
bare_outcome (ranging f t there) = ranging btrue t there
bare_outcome (holding f) = holding btrue
bare_outcome silent = silent

abbrev pub bare_reading : Reading → Reading
bare_reading r = record { outcome = bare_outcome r.outcome; faults = r.faults }

abbrev pub no_formula : Formula → Formula
no_formula f = btrue

abbrev pub no_pair : Formula × ValueType → Formula × ValueType
no_pair d = (btrue, d.1)

abbrev pub no_triple : Formula × ValueType × ValueType → Formula × ValueType × ValueType
no_triple r = (btrue, r.1, r.2)

abbrev pub bare_asked : {A : Type 0} → (A → A) → Asked A → Asked A
bare_asked e a = record { answer = option_map e a.answer; faults = a.faults }

-- ---- what is asked
filled-bare : (p : Partial) (t : ValueType) → option_map no_formula (filled p t) ≡ option_map no_formula (filled (bare p) t)
filled-bare (whole f t) u = by (same_type t u)
  where
    by : (c : Bool) → option_map no_formula (where_holds c (Some f)) ≡ option_map no_formula (where_holds c (Some btrue))
    by true = refl
    by false = refl
filled-bare hollow t = refl
filled-bare (single_of p) (set_type t) = by (filled p t) (filled (bare p) t) (filled-bare p t)
  where
    by : (x y : Option Formula) → option_map no_formula x ≡ option_map no_formula y → option_map no_formula (single_made x) ≡ option_map no_formula (single_made y)
    by None None h = refl
    by (Some f) (Some g) h = refl
    by None (Some g) h = absurd (cc)
    by (Some f) None h = absurd (cc)
filled-bare (single_of p) int_type = refl
filled-bare (single_of p) bool_type = refl
filled-bare (single_of p) (enum_type s) = refl
filled-bare (single_of p) (pair_type t u) = refl
filled-bare (pair_of p q) (pair_type t u) = both-bare Maps (filled p t) (filled (bare p) t) (filled q u) (filled (bare q) u) (filled-bare p t) (filled-bare q u)
  where
    both-bare : (o : BinOp) (x y z w : Option Formula) → option_map no_formula x ≡ option_map no_formula y → option_map no_formula z ≡ option_map no_formula w → option_map no_formula (both_made o x z) ≡ option_map no_formula (both_made o y w)
    both-bare o None None z w h k = refl
    both-bare o (Some f) (Some g) None None h k = refl
    both-bare o (Some f) (Some g) (Some a) (Some b) h k = refl
    both-bare o (Some f) (Some g) None (Some b) h k = absurd (cc)
    both-bare o (Some f) (Some g) (Some a) None h k = absurd (cc)
    both-bare o None (Some g) z w h k = absurd (cc)
    both-bare o (Some f) None z w h k = absurd (cc)
filled-bare (pair_of p q) int_type = refl
filled-bare (pair_of p q) bool_type = refl
filled-bare (pair_of p q) (enum_type s) = refl
filled-bare (pair_of p q) (set_type t) = refl
filled-bare (joint_of j p q) t = by (joins j t) (filled p t) (filled (bare p) t) (filled q t) (filled (bare q) t) (filled-bare p t) (filled-bare q t)
  where
    by : (c : Bool) (x y z w : Option Formula) → option_map no_formula x ≡ option_map no_formula y → option_map no_formula z ≡ option_map no_formula w → option_map no_formula (where_holds c (both_made (joint_op j) x z)) ≡ option_map no_formula (where_holds c (both_made (joint_op j) y w))
    by false x y z w h k = refl
    by true None None z w h k = refl
    by true (Some f) (Some g) None None h k = refl
    by true (Some f) (Some g) (Some a) (Some b) h k = refl
    by true (Some f) (Some g) None (Some b) h k = absurd (cc)
    by true (Some f) (Some g) (Some a) None h k = absurd (cc)
    by true None (Some g) z w h k = absurd (cc)
    by true (Some f) None z w h k = absurd (cc)

fitting-bare : (at : ℕ) (x y : Option Formula) → option_map no_formula x ≡ option_map no_formula y → bare_asked no_formula (fitting at x) ≡ bare_asked no_formula (fitting at y)
fitting-bare at None None h = refl
fitting-bare at (Some f) (Some g) h = refl
fitting-bare at None (Some g) h = absurd (cc)
fitting-bare at (Some f) None h = absurd (cc)

ask-bare : (at : ℕ) (o : Outcome) (t : ValueType) → bare_asked no_formula (ask at o t) ≡ bare_asked no_formula (ask at (bare_outcome o) t)
ask-bare at (partial p) t = fitting-bare at (filled p t) (filled (bare p) t) (filled-bare p t)
ask-bare at (ranging f u there) t = refl
ask-bare at (holding f) t = refl
ask-bare at silent t = refl

pub value-bare : (at : ℕ) (o : Outcome) → bare_asked no_pair (ask_value at o) ≡ bare_asked no_pair (ask_value at (bare_outcome o))
value-bare at (partial (whole f t)) = refl
value-bare at (partial hollow) = refl
value-bare at (partial (single_of p)) = refl
value-bare at (partial (pair_of p q)) = refl
value-bare at (partial (joint_of j p q)) = refl
value-bare at (ranging f u there) = refl
value-bare at (holding f) = refl
value-bare at silent = refl

pub set-bare : (at : ℕ) (o : Outcome) → bare_asked no_pair (ask_set at o) ≡ bare_asked no_pair (ask_set at (bare_outcome o))
set-bare at (partial (whole f int_type)) = refl
set-bare at (partial (whole f bool_type)) = refl
set-bare at (partial (whole f (enum_type s))) = refl
set-bare at (partial (whole f (pair_type t u))) = refl
set-bare at (partial (whole f (set_type t))) = refl
set-bare at (partial hollow) = refl
set-bare at (partial (single_of p)) = refl
set-bare at (partial (pair_of p q)) = refl
set-bare at (partial (joint_of j p q)) = refl
set-bare at (ranging f u there) = refl
set-bare at (holding f) = refl
set-bare at silent = refl

pub domain-bare : (at : ℕ) (o : Outcome) → bare_asked no_pair (ask_domain at o) ≡ bare_asked no_pair (ask_domain at (bare_outcome o))
domain-bare at (partial (whole f int_type)) = refl
domain-bare at (partial (whole f bool_type)) = refl
domain-bare at (partial (whole f (enum_type s))) = refl
domain-bare at (partial (whole f (pair_type t u))) = refl
domain-bare at (partial (whole f (set_type t))) = refl
domain-bare at (partial hollow) = refl
domain-bare at (partial (single_of p)) = refl
domain-bare at (partial (pair_of p q)) = refl
domain-bare at (partial (joint_of j p q)) = refl
domain-bare at (ranging f u there) = refl
domain-bare at (holding f) = refl
domain-bare at silent = refl

relation-bare : (at : ℕ) (o : Outcome) → bare_asked no_triple (ask_relation at o) ≡ bare_asked no_triple (ask_relation at (bare_outcome o))
relation-bare at (partial (whole f int_type)) = refl
relation-bare at (partial (whole f bool_type)) = refl
relation-bare at (partial (whole f (enum_type s))) = refl
relation-bare at (partial (whole f (pair_type t u))) = refl
relation-bare at (partial (whole f (set_type int_type))) = refl
relation-bare at (partial (whole f (set_type bool_type))) = refl
relation-bare at (partial (whole f (set_type (enum_type s)))) = refl
relation-bare at (partial (whole f (set_type (pair_type t u)))) = refl
relation-bare at (partial (whole f (set_type (set_type t)))) = refl
relation-bare at (partial hollow) = refl
relation-bare at (partial (single_of p)) = refl
relation-bare at (partial (pair_of p q)) = refl
relation-bare at (partial (joint_of j p q)) = refl
relation-bare at (ranging f u there) = refl
relation-bare at (holding f) = refl
relation-bare at silent = refl

predicate-bare : (o : Outcome) → bare_asked no_formula (ask_predicate o) ≡ bare_asked no_formula (ask_predicate (bare_outcome o))
predicate-bare (partial p) = refl
predicate-bare (ranging f u there) = refl
predicate-bare (holding f) = refl
predicate-bare silent = refl

unvalued-bare : (o : Outcome) → unvalued o ≡ unvalued (bare_outcome o)
unvalued-bare (partial p) = refl
unvalued-bare (ranging f u there) = refl
unvalued-bare (holding f) = refl
unvalued-bare silent = refl

-- ---- what comes of answers
module _ {A : Type 0} (e : A → A) (k : A → Outcome) (inv : (x : A) → bare_outcome (k x) ≡ bare_outcome (k (e x))) where
  answer-erased : (x : Option A) → bare_outcome (of_answer k x) ≡ bare_outcome (of_answer k (option_map e x))
  answer-erased None = refl
  answer-erased (Some x) = inv x

  one-erased : (a : Asked A) → bare_reading (of_one k a) ≡ bare_reading (of_one k (bare_asked e a))
  one-erased a i = record { outcome = answer-erased a.answer i; faults = a.faults }

  -- an operator on one answer
  one-bare : (a b : Asked A) → bare_asked e a ≡ bare_asked e b → bare_reading (of_one k a) ≡ bare_reading (of_one k b)
  one-bare a b h = one-erased a ∙ (ap (λ (c : Asked A). bare_reading (of_one k c)) h ∙ sym (one-erased b))

module _ {A B : Type 0} (e : A → A) (g : B → B) (k : A → B → Outcome) (inv : (x : A) (y : B) → bare_outcome (k x y) ≡ bare_outcome (k (e x) (g y))) where
  answers-erased : (x : Option A) (y : Option B) → bare_outcome (of_answers k x y) ≡ bare_outcome (of_answers k (option_map e x) (option_map g y))
  answers-erased None y = refl
  answers-erased (Some x) None = refl
  answers-erased (Some x) (Some y) = inv x y

  both-erased : (a : Asked A) (b : Asked B) → bare_reading (of_both k a b) ≡ bare_reading (of_both k (bare_asked e a) (bare_asked g b))
  both-erased a b i = record { outcome = answers-erased a.answer b.answer i; faults = a.faults ++ b.faults }

  -- an operator on two
  both-bare : (a c : Asked A) (b d : Asked B) → bare_asked e a ≡ bare_asked e c → bare_asked g b ≡ bare_asked g d → bare_reading (of_both k a b) ≡ bare_reading (of_both k c d)
  both-bare a c b d h l = both-erased a b ∙ ((λ i. bare_reading (of_both k (h i) (l i))) ∙ sym (both-erased c d))

module _ {A : Type 0} (e : A → A) (t : A → ValueType) (k : A → Formula → Outcome) (same : (x : A) → t x ≡ t (e x)) (inv : (x : A) (f g : Formula) → bare_outcome (k x f) ≡ bare_outcome (k (e x) g)) where
  other-made : (x : A) (f : Option Formula) → bare_outcome (of_answer (k x) f) ≡ bare_outcome (of_answer (k (e x)) f)
  other-made x None = refl
  other-made x (Some f) = inv x f f

  idle-made : (x : A) (f : Option Formula) → bare_outcome (of_answer (k x) f) ≡ bare_outcome (of_answer (k x) (option_map no_formula f))
  idle-made x None = refl
  idle-made x (Some f) = inv x f btrue ∙ sym (inv x btrue btrue)

  by-answer : (fs : List Fault) (x : Option A) (at : ℕ) (o : Outcome) → bare_reading (depending t k fs x at o) ≡ bare_reading (depending t k fs (option_map e x) at o)
  by-answer fs None at o = refl
  by-answer fs (Some x) at o =
      let step : bare_outcome (of_answer (k x) (ask at o (t x)).answer) ≡ bare_outcome (of_answer (k (e x)) (ask at o (t (e x))).answer) =
      other-made x (ask at o (t x)).answer ∙ ap (λ (u : ValueType). bare_outcome (of_answer (k (e x)) (ask at o u).answer)) (same x) in
      λ i. record { outcome = step i; faults = fs ++ (ask at o (same x i)).faults }

  by-part : (fs : List Fault) (x : Option A) (at : ℕ) (o : Outcome) → bare_reading (depending t k fs x at o) ≡ bare_reading (depending t k fs x at (bare_outcome o))
  by-part fs None at o = ap (λ (gs : List Fault). bare_reading (silently (fs ++ gs))) (unvalued-bare o)
  by-part fs (Some x) at o =
      let step : bare_outcome (of_answer (k x) (ask at o (t x)).answer) ≡ bare_outcome (of_answer (k x) (ask at (bare_outcome o) (t x)).answer) =
      idle-made x (ask at o (t x)).answer ∙ (ap (λ (a : Asked Formula). bare_outcome (of_answer (k x) a.answer)) (ask-bare at o (t x)) ∙ sym (idle-made x (ask at (bare_outcome o) (t x)).answer)) in
      λ i. record { outcome = step i; faults = fs ++ (ask-bare at o (t x) i).faults }

  -- an operator on a part that takes what another one's answer tells
  dependent-bare : (c d : Asked A) (at : ℕ) (o : Outcome) → bare_asked e c ≡ bare_asked e d → bare_reading (dependent t k c at o) ≡ bare_reading (dependent t k d at (bare_outcome o))
  dependent-bare c d at o h =
      by-answer c.faults c.answer at o
      ∙ (ap (λ (a : Asked A). bare_reading (depending t k a.faults a.answer at o)) h
      ∙ (sym (by-answer d.faults d.answer at o) ∙ by-part d.faults d.answer at o))

values-bare : (k : Partial → Partial → Reading) → ((p q : Partial) → bare_reading (k p q) ≡ bare_reading (k (bare p) (bare q))) → (a b : Outcome) → bare_reading (on_values k a b) ≡ bare_reading (on_values k (bare_outcome a) (bare_outcome b))
values-bare k h (partial p) (partial q) = h p q
values-bare k h (partial p) (ranging g t there) = refl
values-bare k h (partial p) (holding g) = refl
values-bare k h (partial p) silent = refl
values-bare k h (ranging f t there) b = ap (λ (gs : List Fault). bare_reading (silently (no_type there ++ gs))) (unvalued-bare b)
values-bare k h (holding f) b = ap (λ (gs : List Fault). bare_reading (silently ([] ++ gs))) (unvalued-bare b)
values-bare k h silent b = ap (λ (gs : List Fault). bare_reading (silently ([] ++ gs))) (unvalued-bare b)

-- ---- two sides of one type

cond-bare : (c : Bool) (r s r' s' : Reading) → bare_reading r ≡ bare_reading r' → bare_reading s ≡ bare_reading s' → bare_reading (cond c r s) ≡ bare_reading (cond c r' s')
cond-bare true r s r' s' h g = h
cond-bare false r s r' s' h g = g

module _ (test : ValueType → Bool) (k : Formula → Formula → ValueType → Outcome) (inv : (f g f' g' : Formula) (t : ValueType) → bare_outcome (k f g t) ≡ bare_outcome (k f' g' t)) where
  right-taken : (at : ℕ) (f f' : Formula) (t : ValueType) (q : Partial) → bare_reading (of_one (λ g. k f g t) (fitting at (filled q t))) ≡ bare_reading (of_one (λ g. k f' g t) (fitting at (filled (bare q) t)))
  right-taken at f f' t q =
      one-bare no_formula (λ g. k f g t) (λ g. inv f g f btrue t) (fitting at (filled q t)) (fitting at (filled (bare q) t)) (fitting-bare at (filled q t) (filled (bare q) t) (filled-bare q t))
      ∙ swap (fitting at (filled (bare q) t))
    where
      swap : (a : Asked Formula) → bare_reading (of_one (λ g. k f g t) a) ≡ bare_reading (of_one (λ g. k f' g t) a)
      swap a i = record { outcome = here a.answer i; faults = a.faults }
        where
          here : (x : Option Formula) → bare_outcome (of_answer (λ g. k f g t) x) ≡ bare_outcome (of_answer (λ g. k f' g t) x)
          here None = refl
          here (Some g) = inv f g f' g t

  left-taken : (at : ℕ) (g g' : Formula) (t : ValueType) (p : Partial) → bare_reading (of_one (λ f. k f g t) (fitting at (filled p t))) ≡ bare_reading (of_one (λ f. k f g' t) (fitting at (filled (bare p) t)))
  left-taken at g g' t p =
      one-bare no_formula (λ f. k f g t) (λ f. inv f g btrue g t) (fitting at (filled p t)) (fitting at (filled (bare p) t)) (fitting-bare at (filled p t) (filled (bare p) t) (filled-bare p t))
      ∙ swap (fitting at (filled (bare p) t))
    where
      swap : (a : Asked Formula) → bare_reading (of_one (λ f. k f g t) a) ≡ bare_reading (of_one (λ f. k f g' t) a)
      swap a i = record { outcome = here a.answer i; faults = a.faults }
        where
          here : (x : Option Formula) → bare_outcome (of_answer (λ f. k f g t) x) ≡ bare_outcome (of_answer (λ f. k f g' t) x)
          here None = refl
          here (Some f) = inv f g f g' t

  type-right : (neither neither' : Reading) → bare_reading neither ≡ bare_reading neither' → (at : ℕ) (p q : Partial) → bare_reading (one_type_by test k neither at None (whole_of q) p q) ≡ bare_reading (one_type_by test k neither' at None (whole_of (bare q)) (bare p) (bare q))
  type-right n n' h at p (whole g t) = cond-bare (test t) (of_one (λ f. k f g t) (fitting at (filled p t))) (silently (no_type at)) (of_one (λ f. k f btrue t) (fitting at (filled (bare p) t))) (silently (no_type at)) (left-taken at g btrue t p) refl
  type-right n n' h at p hollow = h
  type-right n n' h at p (single_of q) = h
  type-right n n' h at p (pair_of q q') = h
  type-right n n' h at p (joint_of j q q') = h

  type-bare : (neither neither' : Reading) → bare_reading neither ≡ bare_reading neither' → (at : ℕ) (p q : Partial) → bare_reading (one_type test k neither at p q) ≡ bare_reading (one_type test k neither' at (bare p) (bare q))
  type-bare n n' h at (whole f t) q = cond-bare (test t) (of_one (λ g. k f g t) (fitting at (filled q t))) (silently (no_type at)) (of_one (λ g. k btrue g t) (fitting at (filled (bare q) t))) (silently (no_type at)) (right-taken at f btrue t q) refl
  type-bare n n' h at hollow q = type-right n n' h at hollow q
  type-bare n n' h at (single_of p) q = type-right n n' h at (single_of p) q
  type-bare n n' h at (pair_of p p') q = type-right n n' h at (pair_of p p') q
  type-bare n n' h at (joint_of j p p') q = type-right n n' h at (joint_of j p p') q

joint-bare : (j : Joint) (at : ℕ) (p q : Partial) → bare_reading (joint j at p q) ≡ bare_reading (joint j at (bare p) (bare q))
joint-bare j at p q = type-bare (joins j) (joined j) (λ f g f' g' t. refl) (plainly (partial (joint_of j p q))) (plainly (partial (joint_of j (bare p) (bare q)))) (same j) at p q
  where
    same : (j : Joint) → bare_reading (plainly (partial (joint_of j p q))) ≡ bare_reading (plainly (partial (joint_of j (bare p) (bare q))))
    same j i = plainly (partial (joint_of j (idle p i) (idle q i)))
      where
        idle : (p : Partial) → bare p ≡ bare (bare p)
        idle (whole f t) = refl
        idle hollow = refl
        idle (single_of p) = ap single_of (idle p)
        idle (pair_of p q) = λ i. pair_of (idle p i) (idle q i)
        idle (joint_of j p q) = λ i. joint_of j (idle p i) (idle q i)

equal-bare : (k : Formula → Formula → Formula) (at : ℕ) (p q : Partial) → bare_reading (equal k at p q) ≡ bare_reading (equal k at (bare p) (bare q))
equal-bare k at p q = type-bare (λ t. true) (λ f g t. holding (k f g)) (λ f g f' g' t. refl) (silently (no_type at)) (silently (no_type at)) refl at p q

minus-bare : (at x y : ℕ) (p q : Partial) → bare_reading (minus at x y p q) ≡ bare_reading (minus at x y (bare p) (bare q))
minus-bare at x y p q = by p q
  where
    number : (f f' : Formula) (q : Partial) → bare_reading (of_one (λ g. partial (whole (binary Sub f g) int_type)) (fitting y (filled q int_type))) ≡ bare_reading (of_one (λ g. partial (whole (binary Sub f' g) int_type)) (fitting y (filled (bare q) int_type)))
    number f f' q = right-taken (λ t. true) (λ f g t. partial (whole (binary Sub f g) int_type)) (λ f g f' g' t. refl) y f f' int_type q

    right : (p q : Partial) → bare_reading (minus_by at x y None (whole_of q) p q) ≡ bare_reading (minus_by at x y None (whole_of (bare q)) (bare p) (bare q))
    right p (whole g t) = cond-bare (is_number t) (silently (no_type x)) (joint minus_joint at p (whole g t)) (silently (no_type x)) (joint minus_joint at (bare p) (whole btrue t)) refl (joint-bare minus_joint at p (whole g t))
    right p hollow = joint-bare minus_joint at p hollow
    right p (single_of q) = joint-bare minus_joint at p (single_of q)
    right p (pair_of q q') = joint-bare minus_joint at p (pair_of q q')
    right p (joint_of j q q') = joint-bare minus_joint at p (joint_of j q q')

    by : (p q : Partial) → bare_reading (minus at x y p q) ≡ bare_reading (minus at x y (bare p) (bare q))
    by (whole f t) q = cond-bare (is_number t) (of_one (λ g. partial (whole (binary Sub f g) int_type)) (fitting y (filled q int_type))) (joint minus_joint at (whole f t) q) (of_one (λ g. partial (whole (binary Sub btrue g) int_type)) (fitting y (filled (bare q) int_type))) (joint minus_joint at (whole btrue t) (bare q)) (number f btrue q) (joint-bare minus_joint at (whole f t) q)
    by hollow q = right hollow q
    by (single_of p) q = right (single_of p) q
    by (pair_of p p') q = right (pair_of p p') q
    by (joint_of j p p') q = right (joint_of j p p') q

-- ---- products
unmatched-bare : (at : ℕ) (o : Outcome) → unmatched at o ≡ unmatched at (bare_outcome o)
unmatched-bare at (partial p) = refl
unmatched-bare at (ranging f t there) = refl
unmatched-bare at (holding f) = refl
unmatched-bare at silent = refl

ungiven-bare : (at x : ℕ) (o : Outcome) → ungiven at x o ≡ ungiven at x (bare_outcome o)
ungiven-bare at x (partial (whole f int_type)) = refl
ungiven-bare at x (partial (whole f bool_type)) = refl
ungiven-bare at x (partial (whole f (enum_type s))) = refl
ungiven-bare at x (partial (whole f (pair_type t u))) = refl
ungiven-bare at x (partial (whole f (set_type t))) = refl
ungiven-bare at x (partial hollow) = refl
ungiven-bare at x (partial (single_of p)) = refl
ungiven-bare at x (partial (pair_of p q)) = refl
ungiven-bare at x (partial (joint_of j p q)) = refl
ungiven-bare at x (ranging f t there) = refl
ungiven-bare at x (holding f) = refl
ungiven-bare at x silent = refl

times-bare : (at x y : ℕ) (a b : Outcome) → bare_reading (times at x y a b) ≡ bare_reading (times at x y (bare_outcome a) (bare_outcome b))
times-bare at x y (partial (whole f int_type)) b =
    one-bare no_formula (λ g. partial (whole (binary Mul f g) int_type)) (λ g. refl) (ask y b int_type) (ask y (bare_outcome b) int_type) (ask-bare y b int_type)
    ∙ swap (ask y (bare_outcome b) int_type)
  where
    swap : (a : Asked Formula) → bare_reading (of_one (λ g. partial (whole (binary Mul f g) int_type)) a) ≡ bare_reading (of_one (λ g. partial (whole (binary Mul btrue g) int_type)) a)
    swap a i = record { outcome = here a.answer i; faults = a.faults }
      where
        here : (x : Option Formula) → bare_outcome (of_answer (λ g. partial (whole (binary Mul f g) int_type)) x) ≡ bare_outcome (of_answer (λ g. partial (whole (binary Mul btrue g) int_type)) x)
        here None = refl
        here (Some g) = refl
times-bare at x y (partial (whole f (set_type t))) b = by b
  where
    by : (b : Outcome) → bare_reading (times at x y (partial (whole f (set_type t))) b) ≡ bare_reading (times at x y (partial (whole btrue (set_type t))) (bare_outcome b))
    by (partial (whole g int_type)) = refl
    by (partial (whole g bool_type)) = refl
    by (partial (whole g (enum_type s))) = refl
    by (partial (whole g (pair_type u v))) = refl
    by (partial (whole g (set_type u))) = refl
    by (partial hollow) = refl
    by (partial (single_of p)) = refl
    by (partial (pair_of p q)) = refl
    by (partial (joint_of j p q)) = refl
    by (ranging g u there) = refl
    by (holding g) = refl
    by silent = refl
times-bare at x y (ranging f t there) b = by b
  where
    by : (b : Outcome) → bare_reading (times at x y (ranging f t there) b) ≡ bare_reading (times at x y (ranging btrue t there) (bare_outcome b))
    by (partial (whole g int_type)) = refl
    by (partial (whole g bool_type)) = refl
    by (partial (whole g (enum_type s))) = refl
    by (partial (whole g (pair_type u v))) = refl
    by (partial (whole g (set_type u))) = refl
    by (partial hollow) = refl
    by (partial (single_of p)) = refl
    by (partial (pair_of p q)) = refl
    by (partial (joint_of j p q)) = refl
    by (ranging g u other) = refl
    by (holding g) = refl
    by silent = refl
times-bare at x y (partial (whole f bool_type)) b = ap (λ (gs : List Fault). bare_reading (silently gs)) (unmatched-bare at b)
times-bare at x y (partial (whole f (enum_type s))) b = ap (λ (gs : List Fault). bare_reading (silently gs)) (unmatched-bare at b)
times-bare at x y (partial (whole f (pair_type t u))) b = ap (λ (gs : List Fault). bare_reading (silently gs)) (unmatched-bare at b)
times-bare at x y (partial hollow) b = ap (λ (gs : List Fault). bare_reading (silently gs)) (ungiven-bare at x b)
times-bare at x y (partial (single_of p)) b = ap (λ (gs : List Fault). bare_reading (silently gs)) (ungiven-bare at x b)
times-bare at x y (partial (pair_of p q)) b = ap (λ (gs : List Fault). bare_reading (silently gs)) (ungiven-bare at x b)
times-bare at x y (partial (joint_of j p q)) b = ap (λ (gs : List Fault). bare_reading (silently gs)) (ungiven-bare at x b)
times-bare at x y (holding f) b = refl
times-bare at x y silent b = refl

composed-bare : (at : ℕ) (fs : List Fault) (r s : Option (Formula × ValueType × ValueType)) → bare_reading (composed at fs r s) ≡ bare_reading (composed at fs (option_map no_triple r) (option_map no_triple s))
composed-bare at fs None s = refl
composed-bare at fs (Some r) None = refl
composed-bare at fs (Some r) (Some s) = by (same_type r.2 s.1)
  where
    by : (c : Bool) → bare_reading (cond c (giving (binary Comp r.0 s.0) (set_type (pair_type r.1 s.2))) (silently (no_type at))) ≡ bare_reading (cond c (giving (binary Comp btrue btrue) (set_type (pair_type r.1 s.2))) (silently (no_type at)))
    by true = refl
    by false = refl

composition-bare : (at x y : ℕ) (a b : Outcome) → bare_reading (composition_reading at x y a b) ≡ bare_reading (composition_reading at x y (bare_outcome a) (bare_outcome b))
composition-bare at x y a b =
    composed-bare at ((ask_relation x a).faults ++ (ask_relation y b).faults) (ask_relation x a).answer (ask_relation y b).answer
    ∙ ((λ i. bare_reading (composed at ((relation-bare x a i).faults ++ (relation-bare y b i).faults) (relation-bare x a i).answer (relation-bare y b i).answer))
    ∙ sym (composed-bare at ((ask_relation x (bare_outcome a)).faults ++ (ask_relation y (bare_outcome b)).faults) (ask_relation x (bare_outcome a)).answer (ask_relation y (bare_outcome b)).answer))

pub idle : (p : Partial) → bare p ≡ bare (bare p)
idle (whole f t) = refl
idle hollow = refl
idle (single_of p) = ap single_of (idle p)
idle (pair_of p q) = λ i. pair_of (idle p i) (idle q i)
idle (joint_of j p q) = λ i. joint_of j (idle p i) (idle q i)

paired-bare : (p q : Partial) → bare (paired p q) ≡ bare (paired (bare p) (bare q))
paired-bare (whole f t) (whole g u) = refl
paired-bare (whole f t) hollow = refl
paired-bare (whole f t) (single_of q) = λ i. pair_of (whole btrue t) (single_of (idle q i))
paired-bare (whole f t) (pair_of q r) = λ i. pair_of (whole btrue t) (pair_of (idle q i) (idle r i))
paired-bare (whole f t) (joint_of j q r) = λ i. pair_of (whole btrue t) (joint_of j (idle q i) (idle r i))
paired-bare hollow q = λ i. pair_of hollow (idle q i)
paired-bare (single_of p) q = λ i. pair_of (single_of (idle p i)) (idle q i)
paired-bare (pair_of p r) q = λ i. pair_of (pair_of (idle p i) (idle r i)) (idle q i)
paired-bare (joint_of j p r) q = λ i. pair_of (joint_of j (idle p i) (idle r i)) (idle q i)

pub pair-bare : (a b : Outcome) → bare_reading (pair_reading a b) ≡ bare_reading (pair_reading (bare_outcome a) (bare_outcome b))
pair-bare a b = values-bare (λ p q. plainly (partial (paired p q))) (λ p q. ap (λ (r : Partial). plainly (partial r)) (paired-bare p q)) a b

singled-bare : (p : Partial) → bare (singled p) ≡ bare (singled (bare p))
singled-bare (whole f t) = refl
singled-bare hollow = refl
singled-bare (single_of p) = ap (λ (q : Partial). single_of (single_of q)) (idle p)
singled-bare (pair_of p q) = λ i. single_of (pair_of (idle p i) (idle q i))
singled-bare (joint_of j p q) = λ i. single_of (joint_of j (idle p i) (idle q i))

pub single-bare : (a : Outcome) → bare_reading (single_reading a) ≡ bare_reading (single_reading (bare_outcome a))
single-bare (partial p) = ap (λ (q : Partial). plainly (partial q)) (singled-bare p)
single-bare (ranging f t there) = refl
single-bare (holding f) = refl
single-bare silent = refl

-- ---- one part
pub word-bare : (o : WordOp) (at x : ℕ) (a : Outcome) → bare_reading (word_reading o at x a) ≡ bare_reading (word_reading o at x (bare_outcome a))
word-bare Not at x a = one-bare no_formula _ (λ f. refl) (ask_predicate a) (ask_predicate (bare_outcome a)) (predicate-bare a)
word-bare BoolOf at x a = one-bare no_formula _ (λ f. refl) (ask_predicate a) (ask_predicate (bare_outcome a)) (predicate-bare a)
word-bare Card at x a = one-bare no_pair _ (λ f. refl) (ask_set x a) (ask_set x (bare_outcome a)) (set-bare x a)
word-bare Min at x a = one-bare no_formula _ (λ f. refl) (ask x a (set_type int_type)) (ask x (bare_outcome a) (set_type int_type)) (ask-bare x a (set_type int_type))
word-bare Max at x a = one-bare no_formula _ (λ f. refl) (ask x a (set_type int_type)) (ask x (bare_outcome a) (set_type int_type)) (ask-bare x a (set_type int_type))
word-bare Dom at x a = one-bare no_triple _ (λ f. refl) (ask_relation x a) (ask_relation x (bare_outcome a)) (relation-bare x a)
word-bare Ran at x a = one-bare no_triple _ (λ f. refl) (ask_relation x a) (ask_relation x (bare_outcome a)) (relation-bare x a)
word-bare Id at x a = one-bare no_pair _ (λ f. refl) (ask_set x a) (ask_set x (bare_outcome a)) (set-bare x a)
word-bare Succ at x a = one-bare no_formula _ (λ f. refl) (ask x a int_type) (ask x (bare_outcome a) int_type) (ask-bare x a int_type)
word-bare Pred at x a = one-bare no_formula _ (λ f. refl) (ask x a int_type) (ask x (bare_outcome a) int_type) (ask-bare x a int_type)
word-bare Pow at x a = one-bare no_pair _ (λ f. refl) (ask_domain x a) (ask_domain x (bare_outcome a)) (domain-bare x a)
word-bare Pow1 at x a = one-bare no_pair _ (λ f. refl) (ask_domain x a) (ask_domain x (bare_outcome a)) (domain-bare x a)
word-bare Fin at x a = one-bare no_pair _ (λ f. refl) (ask_domain x a) (ask_domain x (bare_outcome a)) (domain-bare x a)
word-bare Fin1 at x a = one-bare no_pair _ (λ f. refl) (ask_domain x a) (ask_domain x (bare_outcome a)) (domain-bare x a)
word-bare Seq at x a = refl
word-bare Size at x a = refl
word-bare First at x a = refl
word-bare Last at x a = refl
word-bare Front at x a = refl
word-bare Tail at x a = refl
word-bare Rev at x a = refl

pub negative-bare : (x : ℕ) (a : Outcome) → bare_reading (negative_reading x a) ≡ bare_reading (negative_reading x (bare_outcome a))
negative-bare x a = one-bare no_formula _ (λ f. refl) (ask x a int_type) (ask x (bare_outcome a) int_type) (ask-bare x a int_type)

pub inverse-bare : (x : ℕ) (a : Outcome) → bare_reading (inverse_reading x a) ≡ bare_reading (inverse_reading x (bare_outcome a))
inverse-bare x a = one-bare no_triple _ (λ f. refl) (ask_relation x a) (ask_relation x (bare_outcome a)) (relation-bare x a)

-- ---- two parts
pub connected-bare : (o : BinOp) (a b : Outcome) → bare_reading (connected o a b) ≡ bare_reading (connected o (bare_outcome a) (bare_outcome b))
connected-bare o a b = both-bare no_formula no_formula _ (λ f g. refl) (ask_predicate a) (ask_predicate (bare_outcome a)) (ask_predicate b) (ask_predicate (bare_outcome b)) (predicate-bare a) (predicate-bare b)

compared-bare : (k : Formula → Formula → Formula) (x y : ℕ) (a b : Outcome) → bare_reading (compared k x y a b) ≡ bare_reading (compared k x y (bare_outcome a) (bare_outcome b))
compared-bare k x y a b = both-bare no_formula no_formula (λ f g. holding (k f g)) (λ f g. refl) (ask x a int_type) (ask x (bare_outcome a) int_type) (ask y b int_type) (ask y (bare_outcome b) int_type) (ask-bare x a int_type) (ask-bare y b int_type)

calculated-bare : (o : BinOp) (t : ValueType) (x y : ℕ) (a b : Outcome) → bare_reading (calculated o t x y a b) ≡ bare_reading (calculated o t x y (bare_outcome a) (bare_outcome b))
calculated-bare o t x y a b = both-bare no_formula no_formula (λ f g. partial (whole (binary o f g) t)) (λ f g. refl) (ask x a int_type) (ask x (bare_outcome a) int_type) (ask y b int_type) (ask y (bare_outcome b) int_type) (ask-bare x a int_type) (ask-bare y b int_type)

arrow-bare : (o : BinOp) (at x y : ℕ) (a b : Outcome) → bare_reading (arrow o at x y a b) ≡ bare_reading (arrow o at x y (bare_outcome a) (bare_outcome b))
arrow-bare o at x y a b = both-bare no_pair no_pair (λ d e. ranging (binary o d.0 e.0) (set_type (pair_type d.1 e.1)) at) (λ f g. refl) (ask_domain x a) (ask_domain x (bare_outcome a)) (ask_domain y b) (ask_domain y (bare_outcome b)) (domain-bare x a) (domain-bare y b)

in_domain-bare : (k : Formula → Formula → Formula) (x y : ℕ) (a b : Outcome) → bare_reading (in_domain k x y a b) ≡ bare_reading (in_domain k x y (bare_outcome a) (bare_outcome b))
in_domain-bare k x y a b = dependent-bare no_pair (λ d. d.1) (λ d e. holding (k e d.0)) (λ d. refl) (λ d f g. refl) (ask_domain y b) (ask_domain y (bare_outcome b)) x a (domain-bare y b)

in_power-bare : (k : Formula → Formula → Formula) (x y : ℕ) (a b : Outcome) → bare_reading (in_power k x y a b) ≡ bare_reading (in_power k x y (bare_outcome a) (bare_outcome b))
in_power-bare k x y a b = dependent-bare no_pair (λ d. set_type d.1) _ (λ d. refl) (λ d f g. refl) (ask_domain y b) (ask_domain y (bare_outcome b)) x a (domain-bare y b)

strictly-bare : (x y : ℕ) (a b : Outcome) → bare_reading (strictly x y a b) ≡ bare_reading (strictly x y (bare_outcome a) (bare_outcome b))
strictly-bare x y a b = dependent-bare no_pair (λ d. set_type d.1) _ (λ d. refl) (λ d f g. refl) (ask_set y b) (ask_set y (bare_outcome b)) x a (set-bare y b)

left-bare : (o : BinOp) (x y : ℕ) (a b : Outcome) → bare_reading (left_part o x y a b) ≡ bare_reading (left_part o x y (bare_outcome a) (bare_outcome b))
left-bare o x y a b = dependent-bare no_triple (λ r. set_type r.1) _ (λ d. refl) (λ d f g. refl) (ask_relation y b) (ask_relation y (bare_outcome b)) x a (relation-bare y b)

right-bare : (o : BinOp) (x y : ℕ) (a b : Outcome) → bare_reading (right_part o x y a b) ≡ bare_reading (right_part o x y (bare_outcome a) (bare_outcome b))
right-bare o x y a b = dependent-bare no_triple (λ r. set_type r.2) _ (λ d. refl) (λ d f g. refl) (ask_relation x a) (ask_relation x (bare_outcome a)) y b (relation-bare x a)

pub image-bare : (x y : ℕ) (a b : Outcome) → bare_reading (image_reading x y a b) ≡ bare_reading (image_reading x y (bare_outcome a) (bare_outcome b))
image-bare x y a b = dependent-bare no_triple (λ r. set_type r.1) _ (λ d. refl) (λ d f g. refl) (ask_relation x a) (ask_relation x (bare_outcome a)) y b (relation-bare x a)

pub apply-bare : (x y : ℕ) (a b : Outcome) → bare_reading (apply_reading x y a b) ≡ bare_reading (apply_reading x y (bare_outcome a) (bare_outcome b))
apply-bare x y a b = dependent-bare no_triple (λ r. r.1) _ (λ d. refl) (λ d f g. refl) (ask_relation x a) (ask_relation x (bare_outcome a)) y b (relation-bare x a)

pub composing-bare : (at x y : ℕ) (a b : Outcome) → bare_reading (composition_reading at x y a b) ≡ bare_reading (composition_reading at x y (bare_outcome a) (bare_outcome b))
composing-bare at x y a b = composition-bare at x y a b

pub infix-bare : (o : InfixOp) (at x y : ℕ) (a b : Outcome) → bare_reading (infix_reading o at x y a b) ≡ bare_reading (infix_reading o at x y (bare_outcome a) (bare_outcome b))
infix-bare Equivalent at x y a b = connected-bare _ a b
infix-bare Implies at x y a b = connected-bare _ a b
infix-bare And at x y a b = connected-bare _ a b
infix-bare Or at x y a b = connected-bare _ a b
infix-bare Equal at x y a b = values-bare _ (equal-bare _ at) a b
infix-bare NotEqual at x y a b = values-bare _ (equal-bare _ at) a b
infix-bare Less at x y a b = compared-bare _ x y a b
infix-bare AtMost at x y a b = compared-bare _ x y a b
infix-bare Greater at x y a b = compared-bare _ x y a b
infix-bare AtLeast at x y a b = compared-bare _ x y a b
infix-bare Member at x y a b = in_domain-bare _ x y a b
infix-bare NotMember at x y a b = in_domain-bare _ x y a b
infix-bare Subset at x y a b = in_power-bare (binary In) x y a b
infix-bare NotSubset at x y a b = in_power-bare (negated (binary In)) x y a b
infix-bare StrictSubset at x y a b = strictly-bare x y a b
infix-bare Relations at x y a b = arrow-bare _ at x y a b
infix-bare PartialFunctions at x y a b = arrow-bare _ at x y a b
infix-bare TotalFunctions at x y a b = arrow-bare _ at x y a b
infix-bare PartialInjections at x y a b = arrow-bare _ at x y a b
infix-bare TotalInjections at x y a b = arrow-bare _ at x y a b
infix-bare PartialSurjections at x y a b = arrow-bare _ at x y a b
infix-bare TotalSurjections at x y a b = arrow-bare _ at x y a b
infix-bare Bijections at x y a b = arrow-bare _ at x y a b
infix-bare Union at x y a b = values-bare _ (joint-bare union_joint at) a b
infix-bare Intersection at x y a b = values-bare _ (joint-bare inter_joint at) a b
infix-bare Override at x y a b = values-bare _ (joint-bare over_joint at) a b
infix-bare DomainRestriction at x y a b = left-bare _ x y a b
infix-bare DomainSubtraction at x y a b = left-bare _ x y a b
infix-bare RangeRestriction at x y a b = right-bare _ x y a b
infix-bare RangeSubtraction at x y a b = right-bare _ x y a b
infix-bare Maplet at x y a b = pair-bare a b
infix-bare Interval at x y a b = calculated-bare _ _ x y a b
infix-bare Plus at x y a b = calculated-bare _ _ x y a b
infix-bare Minus at x y a b = values-bare _ (minus-bare at x y) a b
infix-bare Times at x y a b = times-bare at x y a b
infix-bare Divide at x y a b = calculated-bare _ _ x y a b
infix-bare Mod at x y a b = calculated-bare _ _ x y a b
infix-bare Power at x y a b = calculated-bare _ _ x y a b
infix-bare Concatenation at x y a b = refl
infix-bare Prepend at x y a b = refl
infix-bare Append at x y a b = refl

pub extended-bare : (at : ℕ) (a b : Outcome) → bare_reading (extended at a b) ≡ bare_reading (extended at (bare_outcome a) (bare_outcome b))
extended-bare at a b =
    values-bare (λ p q. joint union_joint at p (singled q)) (λ p q. joint-bare union_joint at p (singled q) ∙ (ap (λ (r : Partial). bare_reading (joint union_joint at (bare p) r)) (singled-bare q) ∙ again (bare p) (singled (bare q)))) a b
  where
    again : (p q : Partial) → bare_reading (joint union_joint at p (bare q)) ≡ bare_reading (joint union_joint at p q)
    again p q = joint-bare union_joint at p (bare q) ∙ (ap (λ (r : Partial). bare_reading (joint union_joint at (bare p) r)) (sym (idle q)) ∙ sym (joint-bare union_joint at p q))
