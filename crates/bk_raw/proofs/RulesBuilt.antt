-- What holds of all that is built holds of what operators and binders make.
use Rattle.std.proofs.Common.{ℕ, List, [], ◌∷◌, ◌++◌, Bool, true, false, cond}
use Rattle.std.specs.Prelude.{Option, None, Some, pos, ℤ}
use Rattle.std.specs.Str.{bytes_eq}
use Rattle.bk_val.specs.ValueType.{ValueType, int_type, pair_type, set_type}
use Rattle.bk_form.specs.Formula.{Formula, literal, unary, binary}
use Rattle.bk_form.specs.Role.{same_type}
use Rattle.bk_form.specs.declared.operator.UnOp.TheVariants.{Not as Negation, Single, Pow as PowerOf}
use Rattle.bk_form.specs.declared.operator.BinOp.{BinOp}
use Rattle.bk_form.specs.declared.operator.BinOp.TheVariants.{And as Conjunction, Eq, In, Times as Product, Range, Sub, Mul, Maps, Comp}
use Rattle.bk_form.specs.declared.operator.Domain.TheVariants.{Integer as WholeNumbers, Natural as NaturalNumbers, Natural1 as PositiveNumbers, Bool as Booleans, Enum}
use Rattle.bk_raw.specs.declared.operator.InfixOp.{InfixOp}
use Rattle.bk_raw.specs.declared.operator.InfixOp.TheVariants.{Equivalent, Implies, And, Or, Equal, NotEqual, Less, AtMost, Greater, AtLeast, Member, NotMember, Subset, NotSubset, StrictSubset, Relations, PartialFunctions, TotalFunctions, PartialInjections, TotalInjections, PartialSurjections, TotalSurjections, Bijections, Union, Intersection, DomainRestriction, RangeRestriction, DomainSubtraction, RangeSubtraction, Override, Maplet, Interval, Plus, Minus, Times, Divide, Mod, Power, Concatenation, Prepend, Append}
use Rattle.bk_raw.specs.declared.operator.WordOp.{WordOp}
use Rattle.bk_raw.specs.declared.operator.WordOp.TheVariants.{Not, BoolOf, Card, Min, Max, Dom, Ran, Id, Succ, Pred, Pow, Pow1, Fin, Fin1, Seq, Size, First as FirstWord, Last, Front, Tail, Rev}
use Rattle.bk_raw.specs.declared.operator.Constant.{Constant}
use Rattle.bk_raw.specs.declared.operator.Constant.TheVariants.{Bool as BoolWord, True, False, Integer, Natural, Natural1, Int, Nat, Nat1, MaxInt, MinInt, Btrue, Bfalse}
use Rattle.bk_raw.specs.Meaning.Names.{Names, Meaning, local, global, set_name, element_name, nothing, Sight, seen, sight, behind, found}
use Rattle.bk_raw.specs.Meaning.Outcome.{Joint, union_joint, inter_joint, minus_joint, over_joint, joint_op, joins, Partial, whole, hollow, single_of, pair_of, joint_of, where_holds, single_made, both_made, filled, whole_of, Outcome, partial, ranging, holding, silent, Reading, silently, plainly, giving, no_type, Asked, fitting, ask, ask_value, ask_set, ask_relation, ask_domain, ask_predicate, of_answer, of_one, of_answers, of_both}
use Rattle.bk_raw.specs.Meaning.OperatorReadings.{int_min, constant_reading, word_reading, negative_reading, inverse_reading, depending, dependent, on_values, connected, compared, calculated, one_type_by, one_type, equal, strict, in_domain, in_power, arrow, joined, joint, is_number, minus_by, minus, times, left_part, right_part, image_reading, apply_reading, composed, composition_reading, paired, pair_reading, negated, turned, infix_reading, singled, single_reading, extended}
use Rattle.bk_raw.specs.Meaning.RightReading.{Whenever}
use Rattle.bk_raw.specs.Meaning.Built.{Builds, MeaningHas, NamesHave, PartialHas, OutcomeHas}
use Rattle.bk_raw.specs.Errors.Faults.{Fault}

module _ (P : Formula → Type 0) (b : Builds P) where
  abbrev Has : Outcome → Type 0
  Has o = OutcomeHas P o

  abbrev pub First : Formula × ValueType → Type 0
  First v = P v.0

  abbrev FirstOf : Formula × ValueType × ValueType → Type 0
  FirstOf v = P v.0

  -- ---- names
  abbrev pub SightHas : Sight → Type 0
  SightHas (seen f t) = P f
  SightHas _ = Unit {0}

  sight-has : (i : ℕ) (m : Meaning) → MeaningHas P m → SightHas (sight i m)
  sight-has i (local None) h = tt
  sight-has i (local (Some t)) h = b.bounds i
  sight-has i (global n None) h = tt
  sight-has i (global n (Some t)) h = h
  sight-has i (set_name s) h = b.names (Enum s)
  sight-has i (element_name s e) h = b.elements s e
  sight-has i nothing h = tt

  either-sight : (c : Bool) (s t : Sight) → SightHas s → SightHas t → SightHas (cond c s t)
  either-sight true s t h k = h
  either-sight false s t h k = k

  pub found-has : (i : ℕ) (names : Names) (text : List ℕ) → NamesHave P names → SightHas (found i names text)
  found-has i [] text h = tt
  found-has i (n ∷ ns) text h = either-sight (bytes_eq n.text text) (sight i n.meaning) (found (behind i n.meaning) ns text) (sight-has i n.meaning h.0) (found-has (behind i n.meaning) ns text h.1)

  -- ---- partial expressions
  where-has : (c : Bool) (f : Option Formula) → Whenever P f → Whenever P (where_holds c f)
  where-has true f h = h
  where-has false f h = tt

  single-has : (f : Option Formula) → Whenever P f → Whenever P (single_made f)
  single-has None h = tt
  single-has (Some f) h = b.unaries Single f h

  both-has : (o : BinOp) (f g : Option Formula) → Whenever P f → Whenever P g → Whenever P (both_made o f g)
  both-has o None g h k = tt
  both-has o (Some f) None h k = tt
  both-has o (Some f) (Some g) h k = b.binaries o f g h k

  filled-has : (p : Partial) (t : ValueType) → PartialHas P p → Whenever P (filled p t)
  filled-has (whole f t) u h = where-has (same_type t u) (Some f) h
  filled-has hollow (set_type t) h = b.empties (set_type t)
  filled-has hollow _ h = tt
  filled-has (single_of p) (set_type t) h = single-has (filled p t) (filled-has p t h)
  filled-has (single_of p) _ h = tt
  filled-has (pair_of p q) (pair_type t u) h = both-has Maps (filled p t) (filled q u) (filled-has p t h.0) (filled-has q u h.1)
  filled-has (pair_of p q) _ h = tt
  filled-has (joint_of j p q) t h = where-has (joins j t) (both_made (joint_op j) (filled p t) (filled q t)) (both-has (joint_op j) (filled p t) (filled q t) (filled-has p t h.0) (filled-has q t h.1))

  -- ---- answers
  fitting-has : (at : ℕ) (f : Option Formula) → Whenever P f → Whenever P (fitting at f).answer
  fitting-has at None h = tt
  fitting-has at (Some f) h = h

  pub ask-has : (at : ℕ) (o : Outcome) (t : ValueType) → Has o → Whenever P (ask at o t).answer
  ask-has at (partial p) t h = fitting-has at (filled p t) (filled-has p t h)
  ask-has at (ranging f u there) t h = tt
  ask-has at (holding p) t h = tt
  ask-has at silent t h = tt

  pub ask_value-has : (at : ℕ) (o : Outcome) → Has o → Whenever First (ask_value at o).answer
  ask_value-has at (partial (whole f t)) h = h
  ask_value-has at _ h = tt

  pub ask_set-has : (at : ℕ) (o : Outcome) → Has o → Whenever First (ask_set at o).answer
  ask_set-has at (partial (whole f (set_type t))) h = h
  ask_set-has at _ h = tt

  ask_relation-has : (at : ℕ) (o : Outcome) → Has o → Whenever FirstOf (ask_relation at o).answer
  ask_relation-has at (partial (whole f (set_type (pair_type t u)))) h = h
  ask_relation-has at _ h = tt

  pub ask_domain-has : (at : ℕ) (o : Outcome) → Has o → Whenever First (ask_domain at o).answer
  ask_domain-has at (partial (whole f (set_type t))) h = h
  ask_domain-has at (ranging f u there) h = h
  ask_domain-has at _ h = tt

  pub ask_predicate-has : (o : Outcome) → Has o → Whenever P (ask_predicate o).answer
  ask_predicate-has (holding p) h = h
  ask_predicate-has _ h = tt

  answer-has : {A : Type 0} (Q : A → Type 0) (k : A → Outcome) (x : Option A) → ((y : A) → Q y → Has (k y)) → Whenever Q x → Has (of_answer k x)
  answer-has Q k None g h = tt
  answer-has Q k (Some y) g h = g y h

  one-has : {A : Type 0} (Q : A → Type 0) (k : A → Outcome) (a : Asked A) → ((y : A) → Q y → Has (k y)) → Whenever Q a.answer → Has (of_one k a).outcome
  one-has Q k a g h = answer-has Q k a.answer g h

  answers-have : {A B : Type 0} (Q : A → Type 0) (R : B → Type 0) (k : A → B → Outcome) (x : Option A) (y : Option B) → ((u : A) (v : B) → Q u → R v → Has (k u v)) → Whenever Q x → Whenever R y → Has (of_answers k x y)
  answers-have Q R k None y g h l = tt
  answers-have Q R k (Some u) None g h l = tt
  answers-have Q R k (Some u) (Some v) g h l = g u v h l

  both-have : {A B : Type 0} (Q : A → Type 0) (R : B → Type 0) (k : A → B → Outcome) (a : Asked A) (c : Asked B) → ((u : A) (v : B) → Q u → R v → Has (k u v)) → Whenever Q a.answer → Whenever R c.answer → Has (of_both k a c).outcome
  both-have Q R k a c g h l = answers-have Q R k a.answer c.answer g h l

  depending-has : {A : Type 0} (Q : A → Type 0) (t : A → ValueType) (k : A → Formula → Outcome) (fs : List Fault) (x : Option A) (at : ℕ) (o : Outcome) → ((y : A) (f : Formula) → Q y → P f → Has (k y f)) → Whenever Q x → Has o → Has (depending t k fs x at o).outcome
  depending-has Q t k fs None at o g h r = tt
  depending-has Q t k fs (Some y) at o g h r = answer-has P (k y) (ask at o (t y)).answer (λ f q. g y f h q) (ask-has at o (t y) r)

  dependent-has : {A : Type 0} (Q : A → Type 0) (t : A → ValueType) (k : A → Formula → Outcome) (a : Asked A) (at : ℕ) (o : Outcome) → ((y : A) (f : Formula) → Q y → P f → Has (k y f)) → Whenever Q a.answer → Has o → Has (dependent t k a at o).outcome
  dependent-has Q t k a at o g h r = depending-has Q t k a.faults a.answer at o g h r

  values-have : (k : Partial → Partial → Reading) (a c : Outcome) → ((p q : Partial) → PartialHas P p → PartialHas P q → Has (k p q).outcome) → Has a → Has c → Has (on_values k a c).outcome
  values-have k (partial p) (partial q) g h l = g p q h l
  values-have k _ _ g h l = tt

  -- ---- rules
  pub constant-has : (int_max : ℤ) (at : ℕ) (c : Constant) → Has (constant_reading int_max at c).outcome
  constant-has int_max at BoolWord = b.names Booleans
  constant-has int_max at True = b.truths true
  constant-has int_max at False = b.truths false
  constant-has int_max at Integer = b.names WholeNumbers
  constant-has int_max at Natural = b.names NaturalNumbers
  constant-has int_max at Natural1 = b.names PositiveNumbers
  constant-has int_max at Int = b.binaries Range (literal (int_min int_max)) (literal int_max) (b.literals (int_min int_max)) (b.literals int_max)
  constant-has int_max at Nat = b.binaries Range (literal (pos 0)) (literal int_max) (b.literals (pos 0)) (b.literals int_max)
  constant-has int_max at Nat1 = b.binaries Range (literal (pos 1)) (literal int_max) (b.literals (pos 1)) (b.literals int_max)
  constant-has int_max at MaxInt = b.literals int_max
  constant-has int_max at MinInt = b.literals (int_min int_max)
  constant-has int_max at Btrue = b.yes
  constant-has int_max at Bfalse = b.no

  pub word-has : (w : WordOp) (at x : ℕ) (a : Outcome) → Has a → Has (word_reading w at x a).outcome
  word-has Not at x a r = one-has P _ (ask_predicate a) (λ p h. b.unaries _ p h) (ask_predicate-has a r)
  word-has BoolOf at x a r = one-has P _ (ask_predicate a) (λ p h. b.unaries _ p h) (ask_predicate-has a r)
  word-has Card at x a r = one-has First _ (ask_set x a) (λ s h. b.unaries _ s.0 h) (ask_set-has x a r)
  word-has Min at x a r = one-has P _ (ask x a (set_type int_type)) (λ s h. b.unaries _ s h) (ask-has x a (set_type int_type) r)
  word-has Max at x a r = one-has P _ (ask x a (set_type int_type)) (λ s h. b.unaries _ s h) (ask-has x a (set_type int_type) r)
  word-has Dom at x a r = one-has FirstOf _ (ask_relation x a) (λ s h. b.unaries _ s.0 h) (ask_relation-has x a r)
  word-has Ran at x a r = one-has FirstOf _ (ask_relation x a) (λ s h. b.unaries _ s.0 h) (ask_relation-has x a r)
  word-has Id at x a r = one-has First _ (ask_set x a) (λ s h. b.unaries _ s.0 h) (ask_set-has x a r)
  word-has Succ at x a r = one-has P _ (ask x a int_type) (λ s h. b.binaries _ s (literal (pos 1)) h (b.literals (pos 1))) (ask-has x a int_type r)
  word-has Pred at x a r = one-has P _ (ask x a int_type) (λ s h. b.binaries _ s (literal (pos 1)) h (b.literals (pos 1))) (ask-has x a int_type r)
  word-has Pow at x a r = one-has First _ (ask_domain x a) (λ s h. b.unaries _ s.0 h) (ask_domain-has x a r)
  word-has Pow1 at x a r = one-has First _ (ask_domain x a) (λ s h. b.unaries _ s.0 h) (ask_domain-has x a r)
  word-has Fin at x a r = one-has First _ (ask_domain x a) (λ s h. b.unaries _ s.0 h) (ask_domain-has x a r)
  word-has Fin1 at x a r = one-has First _ (ask_domain x a) (λ s h. b.unaries _ s.0 h) (ask_domain-has x a r)
  word-has Seq at x a r = tt
  word-has Size at x a r = tt
  word-has FirstWord at x a r = tt
  word-has Last at x a r = tt
  word-has Front at x a r = tt
  word-has Tail at x a r = tt
  word-has Rev at x a r = tt

  pub negative-has : (x : ℕ) (a : Outcome) → Has a → Has (negative_reading x a).outcome
  negative-has x a r = one-has P _ (ask x a int_type) (λ s h. b.unaries _ s h) (ask-has x a int_type r)

  pub inverse-has : (x : ℕ) (a : Outcome) → Has a → Has (inverse_reading x a).outcome
  inverse-has x a r = one-has FirstOf _ (ask_relation x a) (λ s h. b.unaries _ s.0 h) (ask_relation-has x a r)

  pub connected-has : (o : BinOp) (a c : Outcome) → Has a → Has c → Has (connected o a c).outcome
  connected-has o a c r s = both-have P P (λ p q. holding (binary o p q)) (ask_predicate a) (ask_predicate c) (λ p q h k. b.binaries o p q h k) (ask_predicate-has a r) (ask_predicate-has c s)

  -- what is made of two formulas
  abbrev Makes : (Formula → Formula → Formula) → Type 0
  Makes k = (f g : Formula) → P f → P g → P (k f g)

  makes-binary : (o : BinOp) → Makes (binary o)
  makes-binary o f g h k = b.binaries o f g h k

  makes-negated : (o : BinOp) → Makes (negated (binary o))
  makes-negated o f g h k = b.unaries Negation (binary o f g) (b.binaries o f g h k)

  makes-turned : (o : BinOp) → Makes (turned (binary o))
  makes-turned o f g h k = b.binaries o g f k h

  makes-strict : Makes strict
  makes-strict f g h k = b.binaries Conjunction (binary In f (unary PowerOf g)) (unary Negation (binary Eq f g)) (b.binaries In f (unary PowerOf g) h (b.unaries PowerOf g k)) (makes-negated Eq f g h k)

  compared-has : (k : Formula → Formula → Formula) (x y : ℕ) (a c : Outcome) → Makes k → Has a → Has c → Has (compared k x y a c).outcome
  compared-has k x y a c m r s = both-have P P (λ f g. holding (k f g)) (ask x a int_type) (ask y c int_type) m (ask-has x a int_type r) (ask-has y c int_type s)

  calculated-has : (o : BinOp) (t : ValueType) (x y : ℕ) (a c : Outcome) → Has a → Has c → Has (calculated o t x y a c).outcome
  calculated-has o t x y a c r s = both-have P P (λ f g. partial (whole (binary o f g) t)) (ask x a int_type) (ask y c int_type) (makes-binary o) (ask-has x a int_type r) (ask-has y c int_type s)

  whole_of-has : (p : Partial) → PartialHas P p → Whenever First (whole_of p)
  whole_of-has (whole f t) h = h
  whole_of-has hollow h = tt
  whole_of-has (single_of p) h = tt
  whole_of-has (pair_of p q) h = tt
  whole_of-has (joint_of j p q) h = tt

  tested-has : (c : Bool) (r : Reading) (x : ℕ) → Has r.outcome → Has (cond c r (silently (no_type x))).outcome
  tested-has true r x h = h
  tested-has false r x h = tt

  one_type_by-has : (test : ValueType → Bool) (k : Formula → Formula → ValueType → Outcome) (neither : Reading) (at : ℕ) → ((f g : Formula) (t : ValueType) → P f → P g → Has (k f g t)) → Has neither.outcome → (v w : Option (Formula × ValueType)) (p q : Partial) → Whenever First v → Whenever First w → PartialHas P p → PartialHas P q → Has (one_type_by test k neither at v w p q).outcome
  one_type_by-has test k neither at e n (Some v) w p q h i r s = tested-has (test v.1) (of_one (λ g. k v.0 g v.1) (fitting at (filled q v.1))) at (one-has P (λ g. k v.0 g v.1) (fitting at (filled q v.1)) (λ g m. e v.0 g v.1 h m) (fitting-has at (filled q v.1) (filled-has q v.1 s)))
  one_type_by-has test k neither at e n None (Some w) p q h i r s = tested-has (test w.1) (of_one (λ f. k f w.0 w.1) (fitting at (filled p w.1))) at (one-has P (λ f. k f w.0 w.1) (fitting at (filled p w.1)) (λ f m. e f w.0 w.1 m i) (fitting-has at (filled p w.1) (filled-has p w.1 r)))
  one_type_by-has test k neither at e n None None p q h i r s = n

  one_type-has : (test : ValueType → Bool) (k : Formula → Formula → ValueType → Outcome) (neither : Reading) (at : ℕ) → ((f g : Formula) (t : ValueType) → P f → P g → Has (k f g t)) → (p q : Partial) → Has neither.outcome → PartialHas P p → PartialHas P q → Has (one_type test k neither at p q).outcome
  one_type-has test k neither at e p q n r s = one_type_by-has test k neither at e n (whole_of p) (whole_of q) p q (whole_of-has p r) (whole_of-has q s) r s

  equal-has : (k : Formula → Formula → Formula) (at : ℕ) (a c : Outcome) → Makes k → Has a → Has c → Has (on_values (equal k at) a c).outcome
  equal-has k at a c m r s = values-have (equal k at) a c (λ p q. one_type-has (λ t. true) (λ f g t. holding (k f g)) (silently (no_type at)) at (λ f g t. m f g) p q tt) r s

  in_domain-has : (k : Formula → Formula → Formula) (x y : ℕ) (a c : Outcome) → Makes k → Has a → Has c → Has (in_domain k x y a c).outcome
  in_domain-has k x y a c m r s = dependent-has First (λ d. d.1) (λ d e. holding (k e d.0)) (ask_domain y c) x a (λ d f h l. m f d.0 l h) (ask_domain-has y c s) r

  in_power-has : (k : Formula → Formula → Formula) (x y : ℕ) (a c : Outcome) → Makes k → Has a → Has c → Has (in_power k x y a c).outcome
  in_power-has k x y a c m r s = dependent-has First (λ d. set_type d.1) (λ d e. holding (k e (unary PowerOf d.0))) (ask_domain y c) x a (λ d f h l. m f (unary PowerOf d.0) l (b.unaries PowerOf d.0 h)) (ask_domain-has y c s) r

  arrow-has : (o : BinOp) (at x y : ℕ) (a c : Outcome) → Has a → Has c → Has (arrow o at x y a c).outcome
  arrow-has o at x y a c r s = both-have First First (λ d e. ranging (binary o d.0 e.0) (set_type (pair_type d.1 e.1)) at) (ask_domain x a) (ask_domain y c) (λ d e h k. b.binaries o d.0 e.0 h k) (ask_domain-has x a r) (ask_domain-has y c s)

  joint-has : (j : Joint) (at : ℕ) (p q : Partial) → PartialHas P p → PartialHas P q → Has (joint j at p q).outcome
  joint-has j at p q r s = one_type-has (joins j) (joined j) (plainly (partial (joint_of j p q))) at (λ f g t h k. b.binaries (joint_op j) f g h k) p q (r, s) r s

  chosen-has : (c : Bool) (r s : Reading) → Has r.outcome → Has s.outcome → Has (cond c r s).outcome
  chosen-has true r s h k = h
  chosen-has false r s h k = k

  minus_by-has : (at x y : ℕ) (v w : Option (Formula × ValueType)) (p q : Partial) → Whenever First v → PartialHas P p → PartialHas P q → Has (minus_by at x y v w p q).outcome
  minus_by-has at x y (Some v) w p q h r s = chosen-has (is_number v.1) (of_one (λ g. partial (whole (binary Sub v.0 g) int_type)) (fitting y (filled q int_type))) (joint minus_joint at p q)
      (one-has P (λ g. partial (whole (binary Sub v.0 g) int_type)) (fitting y (filled q int_type)) (λ g m. b.binaries Sub v.0 g h m) (fitting-has y (filled q int_type) (filled-has q int_type s))) (joint-has minus_joint at p q r s)
  minus_by-has at x y None (Some w) p q h r s = chosen-has (is_number w.1) (silently (no_type x)) (joint minus_joint at p q) tt (joint-has minus_joint at p q r s)
  minus_by-has at x y None None p q h r s = joint-has minus_joint at p q r s

  times-has : (at x y : ℕ) (a c : Outcome) → Has a → Has c → Has (times at x y a c).outcome
  times-has at x y (partial (whole f int_type)) c r s = one-has P (λ g. partial (whole (binary Mul f g) int_type)) (ask y c int_type) (λ g m. b.binaries Mul f g r m) (ask-has y c int_type s)
  times-has at x y (partial (whole f (set_type t))) (partial (whole g (set_type u))) r s = b.binaries Product f g r s
  times-has at x y (partial (whole f (set_type t))) (ranging g u there) r s = b.binaries Product f g r s
  times-has at x y (ranging f t there) (partial (whole g (set_type u))) r s = b.binaries Product f g r s
  times-has at x y (ranging f t there) (ranging g u other) r s = b.binaries Product f g r s
  times-has at x y (partial (whole f (set_type t))) _ r s = tt
  times-has at x y (ranging f t there) _ r s = tt
  times-has at x y _ _ r s = tt

  left_part-has : (o : BinOp) (x y : ℕ) (a c : Outcome) → Has a → Has c → Has (left_part o x y a c).outcome
  left_part-has o x y a c r s = dependent-has FirstOf (λ v. set_type v.1) (λ v f. partial (whole (binary o f v.0) (set_type (pair_type v.1 v.2)))) (ask_relation y c) x a (λ v f h m. b.binaries o f v.0 m h) (ask_relation-has y c s) r

  right_part-has : (o : BinOp) (x y : ℕ) (a c : Outcome) → Has a → Has c → Has (right_part o x y a c).outcome
  right_part-has o x y a c r s = dependent-has FirstOf (λ v. set_type v.2) (λ v f. partial (whole (binary o v.0 f) (set_type (pair_type v.1 v.2)))) (ask_relation x a) y c (λ v f h m. b.binaries o v.0 f h m) (ask_relation-has x a r) s

  pub image-has : (x y : ℕ) (a c : Outcome) → Has a → Has c → Has (image_reading x y a c).outcome
  image-has x y a c r s = dependent-has FirstOf _ _ (ask_relation x a) y c (λ v f h m. b.binaries _ v.0 f h m) (ask_relation-has x a r) s

  pub apply-has : (x y : ℕ) (a c : Outcome) → Has a → Has c → Has (apply_reading x y a c).outcome
  apply-has x y a c r s = dependent-has FirstOf _ _ (ask_relation x a) y c (λ v f h m. b.binaries _ v.0 f h m) (ask_relation-has x a r) s

  composed-has : (at : ℕ) (fs : List Fault) (r s : Option (Formula × ValueType × ValueType)) → Whenever FirstOf r → Whenever FirstOf s → Has (composed at fs r s).outcome
  composed-has at fs (Some r) (Some s) h k = tested-has (same_type r.2 s.1) (giving (binary Comp r.0 s.0) (set_type (pair_type r.1 s.2))) at (b.binaries Comp r.0 s.0 h k)
  composed-has at fs (Some r) None h k = tt
  composed-has at fs None s h k = tt

  pub composition-has : (at x y : ℕ) (a c : Outcome) → Has a → Has c → Has (composition_reading at x y a c).outcome
  composition-has at x y a c r s = composed-has at ((ask_relation x a).faults ++ (ask_relation y c).faults) (ask_relation x a).answer (ask_relation y c).answer (ask_relation-has x a r) (ask_relation-has y c s)

  paired-has : (p q : Partial) → PartialHas P p → PartialHas P q → PartialHas P (paired p q)
  paired-has (whole f t) (whole g u) h k = b.binaries Maps f g h k
  paired-has (whole f t) hollow h k = (h, k)
  paired-has (whole f t) (single_of q) h k = (h, k)
  paired-has (whole f t) (pair_of q r) h k = (h, k)
  paired-has (whole f t) (joint_of i q r) h k = (h, k)
  paired-has hollow q h k = (h, k)
  paired-has (single_of p) q h k = (h, k)
  paired-has (pair_of p r) q h k = (h, k)
  paired-has (joint_of i p r) q h k = (h, k)

  pub pair-has : (a c : Outcome) → Has a → Has c → Has (pair_reading a c).outcome
  pair-has a c r s = values-have (λ p q. plainly (partial (paired p q))) a c paired-has r s

  pub infix-has : (o : InfixOp) (at x y : ℕ) (a c : Outcome) → Has a → Has c → Has (infix_reading o at x y a c).outcome
  infix-has Equivalent at x y a c r s = connected-has _ a c r s
  infix-has Implies at x y a c r s = connected-has _ a c r s
  infix-has And at x y a c r s = connected-has _ a c r s
  infix-has Or at x y a c r s = connected-has _ a c r s
  infix-has Equal at x y a c r s = equal-has _ at a c (makes-binary _) r s
  infix-has NotEqual at x y a c r s = equal-has _ at a c (makes-negated _) r s
  infix-has Less at x y a c r s = compared-has _ x y a c (makes-binary _) r s
  infix-has AtMost at x y a c r s = compared-has _ x y a c (makes-binary _) r s
  infix-has Greater at x y a c r s = compared-has _ x y a c (makes-turned _) r s
  infix-has AtLeast at x y a c r s = compared-has _ x y a c (makes-turned _) r s
  infix-has Member at x y a c r s = in_domain-has (binary In) x y a c (makes-binary In) r s
  infix-has NotMember at x y a c r s = in_domain-has (negated (binary In)) x y a c (makes-negated In) r s
  infix-has Subset at x y a c r s = in_power-has (binary In) x y a c (makes-binary In) r s
  infix-has NotSubset at x y a c r s = in_power-has (negated (binary In)) x y a c (makes-negated In) r s
  infix-has StrictSubset at x y a c r s = dependent-has First (λ d. set_type d.1) (λ d e. holding (strict e d.0)) (ask_set y c) x a (λ d f h l. makes-strict f d.0 l h) (ask_set-has y c s) r
  infix-has Relations at x y a c r s = arrow-has _ at x y a c r s
  infix-has PartialFunctions at x y a c r s = arrow-has _ at x y a c r s
  infix-has TotalFunctions at x y a c r s = arrow-has _ at x y a c r s
  infix-has PartialInjections at x y a c r s = arrow-has _ at x y a c r s
  infix-has TotalInjections at x y a c r s = arrow-has _ at x y a c r s
  infix-has PartialSurjections at x y a c r s = arrow-has _ at x y a c r s
  infix-has TotalSurjections at x y a c r s = arrow-has _ at x y a c r s
  infix-has Bijections at x y a c r s = arrow-has _ at x y a c r s
  infix-has Union at x y a c r s = values-have (joint union_joint at) a c (joint-has union_joint at) r s
  infix-has Intersection at x y a c r s = values-have (joint inter_joint at) a c (joint-has inter_joint at) r s
  infix-has Override at x y a c r s = values-have (joint over_joint at) a c (joint-has over_joint at) r s
  infix-has DomainRestriction at x y a c r s = left_part-has _ x y a c r s
  infix-has DomainSubtraction at x y a c r s = left_part-has _ x y a c r s
  infix-has RangeRestriction at x y a c r s = right_part-has _ x y a c r s
  infix-has RangeSubtraction at x y a c r s = right_part-has _ x y a c r s
  infix-has Maplet at x y a c r s = pair-has a c r s
  infix-has Interval at x y a c r s = calculated-has _ _ x y a c r s
  infix-has Plus at x y a c r s = calculated-has _ _ x y a c r s
  infix-has Minus at x y a c r s = values-have (minus at x y) a c (λ p q h k. minus_by-has at x y (whole_of p) (whole_of q) p q (whole_of-has p h) h k) r s
  infix-has Times at x y a c r s = times-has at x y a c r s
  infix-has Divide at x y a c r s = calculated-has _ _ x y a c r s
  infix-has Mod at x y a c r s = calculated-has _ _ x y a c r s
  infix-has Power at x y a c r s = calculated-has _ _ x y a c r s
  infix-has Concatenation at x y a c r s = tt
  infix-has Prepend at x y a c r s = tt
  infix-has Append at x y a c r s = tt

  singled-has : (p : Partial) → PartialHas P p → PartialHas P (singled p)
  singled-has (whole f t) h = b.unaries Single f h
  singled-has hollow h = h
  singled-has (single_of p) h = h
  singled-has (pair_of p q) h = h
  singled-has (joint_of j p q) h = h

  pub single-has_outcome : (a : Outcome) → Has a → Has (single_reading a).outcome
  single-has_outcome (partial p) r = singled-has p r
  single-has_outcome (ranging f t there) r = tt
  single-has_outcome (holding p) r = tt
  single-has_outcome silent r = tt

  pub extended-has : (at : ℕ) (a c : Outcome) → Has a → Has c → Has (extended at a c).outcome
  extended-has at a c r s = values-have (λ p q. joint union_joint at p (singled q)) a c (λ p q h k. joint-has union_joint at p (singled q) h (singled-has q k)) r s
