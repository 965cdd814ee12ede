-- Where a formula is told there is no fault.
use Rattle.std.proofs.Common.{◌≡◌, ℕ, suc, List, [], ◌∷◌, ◌++◌, refl, Bool, true, false, cond, ◌&&◌, ◌+◌, length, ℤ}
use Rattle.std.specs.Prelude.{Option, None, Some}
use Rattle.bk_val.specs.ValueType.{ValueType, int_type, pair_type, set_type}
use Rattle.bk_form.specs.Formula.{Formula, unary, binary, for_all, for_some, comprehension, lambda}
use Rattle.bk_form.specs.Role.{same_type, tuple_type}
use Rattle.bk_form.specs.declared.operator.BinOp.{BinOp}
use Rattle.bk_form.specs.declared.operator.BinOp.TheVariants.{And as Conjunction, Eq, In, Sub, Mul, Comp}
use Rattle.bk_raw.specs.declared.operator.InfixOp.{InfixOp}
use Rattle.bk_raw.specs.declared.operator.InfixOp.TheVariants.{Equivalent, Implies, And, Or, Equal, NotEqual, Less, AtMost, Greater, AtLeast, Member, NotMember, Subset, NotSubset, StrictSubset, Relations, PartialFunctions, TotalFunctions, PartialInjections, TotalInjections, PartialSurjections, TotalSurjections, Bijections, Union, Intersection, DomainRestriction, RangeRestriction, DomainSubtraction, RangeSubtraction, Override, Maplet, Interval, Plus, Minus, Times, Divide, Mod, Power, Concatenation, Prepend, Append}
use Rattle.bk_raw.specs.declared.operator.WordOp.{WordOp}
use Rattle.bk_raw.specs.declared.operator.WordOp.TheVariants.{Not, BoolOf, Card, Min, Max, Dom, Ran, Id, Succ, Pred, Pow, Pow1, Fin, Fin1, Seq, Size, First, Last, Front, Tail, Rev}
use Rattle.bk_raw.specs.declared.operator.Constant.{Constant}
use Rattle.bk_raw.specs.declared.operator.Constant.TheVariants.{Bool as BoolWord}
use Rattle.bk_raw.specs.Trees.RawTree.{RawTree, raw, RawTreeNode, raw_name, raw_level_name, raw_bound_name, raw_number, raw_constant, raw_word, raw_negative, raw_infix, raw_inverse, raw_image, raw_apply, raw_composition, raw_pair, raw_empty_set, raw_extension, raw_comprehension, raw_lambda, raw_for_all, raw_exists, raw_typed_empty, raw_typed_for_all, raw_typed_exists, raw_ranged_comprehension, raw_ranged_lambda, RawTrees, no_trees, tree_and}
use Rattle.bk_raw.specs.Meaning.Names.{Names, Sight, unseen, untyped_name, seen, found, count_locals, bound_sight, level_name}
use Rattle.bk_raw.specs.Meaning.Outcome.{Joint, union_joint, inter_joint, minus_joint, over_joint, joins, Partial, whole, joint_of, filled, whole_of, Outcome, partial, ranging, holding, silent, Reading, silently, plainly, giving, clean, no_type, Asked, fitting, ask, ask_value, ask_set, ask_relation, ask_domain, ask_predicate, of_answer, of_one, of_answers, of_both}
use Rattle.bk_raw.specs.Meaning.OperatorReadings.{constant_reading, word_reading, negative_reading, inverse_reading, depending, on_values, connected, compared, calculated, one_type_by, equal, strict, strictly, in_domain, in_power, arrow, joined, joint, is_number, minus_by, minus, times, left_part, right_part, image_reading, apply_reading, composed, composition_reading, paired, pair_reading, negated, infix_reading, singled, single_reading, extended}
use Rattle.bk_raw.specs.Meaning.Binders.{Bound, bound_names, inside, types_of, has_type, all_typed, untyped_faults, twice, where_typed, if_holding, if_giving, quantified, Ranged, unranged, as_bound, is_used, is_some_name, nameless, conjoined, with_conjunct, left_over, is_and, body_of, comprehended, abstracted, ranges_of}
use Rattle.bk_raw.specs.Meaning.Printed.{type_read, typed_empty, wrong_bounds, printed_bounds, printed_ranges, wrong_ranges}
use Rattle.bk_raw.specs.Meaning.TermReading.{place_of, is_predicate, is_alike, part, name_reading, takes_predicate, is_connective, strict_faults, from_one, from_two, spoilt_by, reading, node_reading, extension_reading, elements_reading, range_reads, clues, premise_clues, ranges, rest, rest_in}
use Rattle.bk_raw.specs.Meaning.Speaking.{IsTold}
use Rattle.bk_raw.proofs.Filled.{and-both}
use Rattle.bk_raw.specs.Trees.FreeNames.{conjuncts}
use Rattle.bk_raw.specs.Errors.Faults.{Fault, not_predicate}

abbrev pub IsAnswer : {A : Type 0} → Option A → Type 0
IsAnswer None = ⊥
IsAnswer (Some x) = Unit {0}

-- what is told has no fault, and was made of what is told
abbrev pub Sound : Reading → Type 0 → Type 0
Sound r P = IsTold r.outcome → (r.faults ≡ []) × P

append-none : {A : Type 0} (xs ys : List A) → xs ≡ [] → ys ≡ [] → xs ++ ys ≡ []
append-none xs ys h k = rw (h, k) refl

-- an answer that is there has no fault, and its part is told
abbrev pub Fair : {A : Type 0} → Asked A → Outcome → Type 0
Fair a o = IsAnswer a.answer → (a.faults ≡ []) × IsTold o

fitting-fair : (at : ℕ) (f : Option Formula) → IsAnswer (fitting at f).answer → (fitting at f).faults ≡ []
fitting-fair at None h = absurd h
fitting-fair at (Some f) h = refl

pub ask-fair : (at : ℕ) (o : Outcome) (t : ValueType) → Fair (ask at o t) o
ask-fair at (partial p) t h = (fitting-fair at (filled p t) h, tt)
ask-fair at (ranging f u there) t h = absurd h
ask-fair at (holding p) t h = absurd h
ask-fair at silent t h = absurd h

pub ask_set-fair : (at : ℕ) (o : Outcome) → Fair (ask_set at o) o
ask_set-fair at (partial (whole f (set_type t))) h = (refl, tt)
ask_set-fair at _ h = absurd h

pub ask_relation-fair : (at : ℕ) (o : Outcome) → Fair (ask_relation at o) o
ask_relation-fair at (partial (whole f (set_type (pair_type t u)))) h = (refl, tt)
ask_relation-fair at _ h = absurd h

ask_domain-fair : (at : ℕ) (o : Outcome) → Fair (ask_domain at o) o
ask_domain-fair at (partial (whole f (set_type t))) h = (refl, tt)
ask_domain-fair at (ranging f u there) h = (refl, tt)
ask_domain-fair at _ h = absurd h

pub ask_value-fair : (at : ℕ) (o : Outcome) → Fair (ask_value at o) o
ask_value-fair at (partial (whole f t)) h = (refl, tt)
ask_value-fair at _ h = absurd h

ask_predicate-fair : (o : Outcome) → Fair (ask_predicate o) o
ask_predicate-fair (holding p) h = (refl, tt)
ask_predicate-fair _ h = absurd h

answer-told : {A : Type 0} (k : A → Outcome) (x : Option A) → IsTold (of_answer k x) → IsAnswer x
answer-told k None h = absurd h
answer-told k (Some y) h = tt

pub one-clean : {A : Type 0} (k : A → Outcome) (a : Asked A) (o : Outcome) → Fair a o → Sound (of_one k a) (IsTold o)
one-clean k a o f h = f (answer-told k a.answer h)

answers-told : {A B : Type 0} (k : A → B → Outcome) (x : Option A) (y : Option B) → IsTold (of_answers k x y) → IsAnswer x × IsAnswer y
answers-told k None y h = absurd h
answers-told k (Some u) None h = absurd h
answers-told k (Some u) (Some v) h = (tt, tt)

both-clean : {A B : Type 0} (k : A → B → Outcome) (a : Asked A) (b : Asked B) (o p : Outcome) → Fair a o → Fair b p → Sound (of_both k a b) (IsTold o × IsTold p)
both-clean k a b o p f g h = let r = answers-told k a.answer b.answer h in let x = f r.0 in let y = g r.1 in (append-none a.faults b.faults x.0 y.0, (x.1, y.1))

depending-clean : {A : Type 0} (t : A → ValueType) (k : A → Formula → Outcome) (fs : List Fault) (x : Option A) (at : ℕ) (o p : Outcome) → (IsAnswer x → (fs ≡ []) × IsTold p) → Sound (depending t k fs x at o) (IsTold p × IsTold o)
depending-clean t k fs None at o p f h = absurd h
depending-clean t k fs (Some y) at o p f h = let r = f tt in let s = ask-fair at o (t y) (answer-told (k y) (ask at o (t y)).answer h) in (append-none fs (ask at o (t y)).faults r.0 s.0, (r.1, s.1))

values-clean : (k : Partial → Partial → Reading) (a b : Outcome) → ((p q : Partial) → IsTold (k p q).outcome → (k p q).faults ≡ []) → Sound (on_values k a b) (IsTold a × IsTold b)
values-clean k (partial p) (partial q) f h = (f p q h, (tt, tt))
values-clean k (partial p) (ranging g t there) f h = absurd h
values-clean k (partial p) (holding g) f h = absurd h
values-clean k (partial p) silent f h = absurd h
values-clean k (ranging g t there) b f h = absurd h
values-clean k (holding g) b f h = absurd h
values-clean k silent b f h = absurd h

tested-clean : (c : Bool) (r : Reading) (x : ℕ) → (IsTold r.outcome → r.faults ≡ []) → IsTold (cond c r (silently (no_type x))).outcome → (cond c r (silently (no_type x))).faults ≡ []
tested-clean true r x f h = f h
tested-clean false r x f h = absurd h

one_type_by-clean : (test : ValueType → Bool) (k : Formula → Formula → ValueType → Outcome) (neither : Reading) (at : ℕ) → (IsTold neither.outcome → neither.faults ≡ []) → (v w : Option (Formula × ValueType)) (p q : Partial) → IsTold (one_type_by test k neither at v w p q).outcome → (one_type_by test k neither at v w p q).faults ≡ []
one_type_by-clean test k neither at n (Some v) w p q = tested-clean (test v.1) (of_one (λ g. k v.0 g v.1) (fitting at (filled q v.1))) at (λ h. fitting-fair at (filled q v.1) (answer-told (λ g. k v.0 g v.1) (fitting at (filled q v.1)).answer h))
one_type_by-clean test k neither at n None (Some w) p q = tested-clean (test w.1) (of_one (λ f. k f w.0 w.1) (fitting at (filled p w.1))) at (λ h. fitting-fair at (filled p w.1) (answer-told (λ f. k f w.0 w.1) (fitting at (filled p w.1)).answer h))
one_type_by-clean test k neither at n None None p q = n

joint-clean : (j : Joint) (at : ℕ) (p q : Partial) → IsTold (joint j at p q).outcome → (joint j at p q).faults ≡ []
joint-clean j at p q = one_type_by-clean (joins j) (joined j) (plainly (partial (joint_of j p q))) at (λ h. refl) (whole_of p) (whole_of q) p q

chosen-clean : (c : Bool) (r s : Reading) → (IsTold r.outcome → r.faults ≡ []) → (IsTold s.outcome → s.faults ≡ []) → IsTold (cond c r s).outcome → (cond c r s).faults ≡ []
chosen-clean true r s f g = f
chosen-clean false r s f g = g

minus_by-clean : (at x y : ℕ) (v w : Option (Formula × ValueType)) (p q : Partial) → IsTold (minus_by at x y v w p q).outcome → (minus_by at x y v w p q).faults ≡ []
minus_by-clean at x y (Some v) w p q = chosen-clean (is_number v.1) (of_one (λ g. partial (whole (binary Sub v.0 g) int_type)) (fitting y (filled q int_type))) (joint minus_joint at p q) (λ h. fitting-fair y (filled q int_type) (answer-told (λ g. partial (whole (binary Sub v.0 g) int_type)) (fitting y (filled q int_type)).answer h)) (joint-clean minus_joint at p q)
minus_by-clean at x y None (Some w) p q = chosen-clean (is_number w.1) (silently (no_type x)) (joint minus_joint at p q) (λ h. absurd h) (joint-clean minus_joint at p q)
minus_by-clean at x y None None p q = joint-clean minus_joint at p q

times-clean : (at x y : ℕ) (a b : Outcome) → Sound (times at x y a b) (IsTold a × IsTold b)
times-clean at x y (partial (whole f int_type)) b h = let r = one-clean (λ g. partial (whole (binary Mul f g) int_type)) (ask y b int_type) b (ask-fair y b int_type) h in (r.0, (tt, r.1))
times-clean at x y (partial (whole f (set_type t))) (partial (whole g (set_type u))) h = (refl, (tt, tt))
times-clean at x y (partial (whole f (set_type t))) (ranging g u there) h = (refl, (tt, tt))
times-clean at x y (ranging f t there) (partial (whole g (set_type u))) h = (refl, (tt, tt))
times-clean at x y (ranging f t there) (ranging g u other) h = (refl, (tt, tt))
times-clean at x y (partial (whole f (set_type t))) _ h = absurd h
times-clean at x y (ranging f t there) _ h = absurd h
times-clean at x y _ _ h = absurd h

composed-clean : (at : ℕ) (fs : List Fault) (r s : Option (Formula × ValueType × ValueType)) → IsTold (composed at fs r s).outcome → ((composed at fs r s).faults ≡ []) × (IsAnswer r × IsAnswer s)
composed-clean at fs (Some r) (Some s) h = (tested-clean (same_type r.2 s.1) (giving (binary Comp r.0 s.0) (set_type (pair_type r.1 s.2))) at (λ k. refl) h, (tt, tt))
composed-clean at fs (Some r) None h = absurd h
composed-clean at fs None s h = absurd h

pub composition-clean : (at x y : ℕ) (a b : Outcome) → Sound (composition_reading at x y a b) (IsTold a × IsTold b)
composition-clean at x y a b h =
    let r = composed-clean at ((ask_relation x a).faults ++ (ask_relation y b).faults) (ask_relation x a).answer (ask_relation y b).answer h in
    (r.0, ((ask_relation-fair x a r.1.0).1, (ask_relation-fair y b r.1.1).1))

pub word-clean : (w : WordOp) (at x : ℕ) (a : Outcome) → Sound (word_reading w at x a) (IsTold a)
word-clean Not at x a = one-clean _ (ask_predicate a) a (ask_predicate-fair a)
word-clean BoolOf at x a = one-clean _ (ask_predicate a) a (ask_predicate-fair a)
word-clean Card at x a = one-clean _ (ask_set x a) a (ask_set-fair x a)
word-clean Min at x a = one-clean _ (ask x a (set_type int_type)) a (ask-fair x a (set_type int_type))
word-clean Max at x a = one-clean _ (ask x a (set_type int_type)) a (ask-fair x a (set_type int_type))
word-clean Dom at x a = one-clean _ (ask_relation x a) a (ask_relation-fair x a)
word-clean Ran at x a = one-clean _ (ask_relation x a) a (ask_relation-fair x a)
word-clean Id at x a = one-clean _ (ask_set x a) a (ask_set-fair x a)
word-clean Succ at x a = one-clean _ (ask x a int_type) a (ask-fair x a int_type)
word-clean Pred at x a = one-clean _ (ask x a int_type) a (ask-fair x a int_type)
word-clean Pow at x a = one-clean _ (ask_domain x a) a (ask_domain-fair x a)
word-clean Pow1 at x a = one-clean _ (ask_domain x a) a (ask_domain-fair x a)
word-clean Fin at x a = one-clean _ (ask_domain x a) a (ask_domain-fair x a)
word-clean Fin1 at x a = one-clean _ (ask_domain x a) a (ask_domain-fair x a)
word-clean Seq at x a = λ h. absurd h
word-clean Size at x a = λ h. absurd h
word-clean First at x a = λ h. absurd h
word-clean Last at x a = λ h. absurd h
word-clean Front at x a = λ h. absurd h
word-clean Tail at x a = λ h. absurd h
word-clean Rev at x a = λ h. absurd h

pub connected-clean : (o : BinOp) (a b : Outcome) → Sound (connected o a b) (IsTold a × IsTold b)
connected-clean o a b = both-clean _ (ask_predicate a) (ask_predicate b) a b (ask_predicate-fair a) (ask_predicate-fair b)

compared-clean : (k : Formula → Formula → Formula) (x y : ℕ) (a b : Outcome) → Sound (compared k x y a b) (IsTold a × IsTold b)
compared-clean k x y a b = both-clean (λ f g. holding (k f g)) (ask x a int_type) (ask y b int_type) a b (ask-fair x a int_type) (ask-fair y b int_type)

calculated-clean : (o : BinOp) (t : ValueType) (x y : ℕ) (a b : Outcome) → Sound (calculated o t x y a b) (IsTold a × IsTold b)
calculated-clean o t x y a b = both-clean (λ f g. partial (whole (binary o f g) t)) (ask x a int_type) (ask y b int_type) a b (ask-fair x a int_type) (ask-fair y b int_type)

equal-clean : (k : Formula → Formula → Formula) (at : ℕ) (a b : Outcome) → Sound (on_values (equal k at) a b) (IsTold a × IsTold b)
equal-clean k at a b = values-clean (equal k at) a b (λ p q. one_type_by-clean (λ t. true) (λ f g t. holding (k f g)) (silently (no_type at)) at (λ h. absurd h) (whole_of p) (whole_of q) p q)

swap : (r : Reading) (a b : Outcome) → Sound r (IsTold a × IsTold b) → Sound r (IsTold b × IsTold a)
swap r a b f h = let x = f h in (x.0, (x.1.1, x.1.0))

in_domain-clean : (k : Formula → Formula → Formula) (x y : ℕ) (a b : Outcome) → Sound (in_domain k x y a b) (IsTold a × IsTold b)
in_domain-clean k x y a b = swap (in_domain k x y a b) b a (depending-clean (λ d. d.1) (λ d e. holding (k e d.0)) (ask_domain y b).faults (ask_domain y b).answer x a b (ask_domain-fair y b))

in_power-clean : (k : Formula → Formula → Formula) (x y : ℕ) (a b : Outcome) → Sound (in_power k x y a b) (IsTold a × IsTold b)
in_power-clean k x y a b = swap (in_power k x y a b) b a (depending-clean (λ d. set_type d.1) (λ d e. holding (k e (unary _ d.0))) (ask_domain y b).faults (ask_domain y b).answer x a b (ask_domain-fair y b))

arrow-clean : (o : BinOp) (at x y : ℕ) (a b : Outcome) → Sound (arrow o at x y a b) (IsTold a × IsTold b)
arrow-clean o at x y a b = both-clean _ (ask_domain x a) (ask_domain y b) a b (ask_domain-fair x a) (ask_domain-fair y b)

left_part-clean : (o : BinOp) (x y : ℕ) (a b : Outcome) → Sound (left_part o x y a b) (IsTold a × IsTold b)
left_part-clean o x y a b = swap (left_part o x y a b) b a (depending-clean _ _ (ask_relation y b).faults (ask_relation y b).answer x a b (ask_relation-fair y b))

right_part-clean : (o : BinOp) (x y : ℕ) (a b : Outcome) → Sound (right_part o x y a b) (IsTold a × IsTold b)
right_part-clean o x y a b = depending-clean _ _ (ask_relation x a).faults (ask_relation x a).answer y b a (ask_relation-fair x a)

pub image-clean : (x y : ℕ) (a b : Outcome) → Sound (image_reading x y a b) (IsTold a × IsTold b)
image-clean x y a b = depending-clean _ _ (ask_relation x a).faults (ask_relation x a).answer y b a (ask_relation-fair x a)

pub apply-clean : (x y : ℕ) (a b : Outcome) → Sound (apply_reading x y a b) (IsTold a × IsTold b)
apply-clean x y a b = depending-clean _ _ (ask_relation x a).faults (ask_relation x a).answer y b a (ask_relation-fair x a)

pub pair-clean : (a b : Outcome) → Sound (pair_reading a b) (IsTold a × IsTold b)
pair-clean a b = values-clean (λ p q. plainly (partial (paired p q))) a b (λ p q h. refl)

pub infix-clean : (o : InfixOp) (at x y : ℕ) (a b : Outcome) → Sound (infix_reading o at x y a b) (IsTold a × IsTold b)
infix-clean Equivalent at x y a b = connected-clean _ a b
infix-clean Implies at x y a b = connected-clean _ a b
infix-clean And at x y a b = connected-clean _ a b
infix-clean Or at x y a b = connected-clean _ a b
infix-clean Equal at x y a b = equal-clean (binary Eq) at a b
infix-clean NotEqual at x y a b = equal-clean (negated (binary Eq)) at a b
infix-clean Less at x y a b = compared-clean _ x y a b
infix-clean AtMost at x y a b = compared-clean _ x y a b
infix-clean Greater at x y a b = compared-clean _ x y a b
infix-clean AtLeast at x y a b = compared-clean _ x y a b
infix-clean Member at x y a b = in_domain-clean (binary In) x y a b
infix-clean NotMember at x y a b = in_domain-clean (negated (binary In)) x y a b
infix-clean Subset at x y a b = in_power-clean (binary In) x y a b
infix-clean NotSubset at x y a b = in_power-clean (negated (binary In)) x y a b
infix-clean StrictSubset at x y a b = swap (strictly x y a b) b a (depending-clean (λ d. set_type d.1) (λ d e. holding (strict e d.0)) (ask_set y b).faults (ask_set y b).answer x a b (ask_set-fair y b))
infix-clean Relations at x y a b = arrow-clean _ at x y a b
infix-clean PartialFunctions at x y a b = arrow-clean _ at x y a b
infix-clean TotalFunctions at x y a b = arrow-clean _ at x y a b
infix-clean PartialInjections at x y a b = arrow-clean _ at x y a b
infix-clean TotalInjections at x y a b = arrow-clean _ at x y a b
infix-clean PartialSurjections at x y a b = arrow-clean _ at x y a b
infix-clean TotalSurjections at x y a b = arrow-clean _ at x y a b
infix-clean Bijections at x y a b = arrow-clean _ at x y a b
infix-clean Union at x y a b = values-clean (joint union_joint at) a b (joint-clean union_joint at)
infix-clean Intersection at x y a b = values-clean (joint inter_joint at) a b (joint-clean inter_joint at)
infix-clean Override at x y a b = values-clean (joint over_joint at) a b (joint-clean over_joint at)
infix-clean DomainRestriction at x y a b = left_part-clean _ x y a b
infix-clean DomainSubtraction at x y a b = left_part-clean _ x y a b
infix-clean RangeRestriction at x y a b = right_part-clean _ x y a b
infix-clean RangeSubtraction at x y a b = right_part-clean _ x y a b
infix-clean Maplet at x y a b = pair-clean a b
infix-clean Interval at x y a b = calculated-clean _ _ x y a b
infix-clean Plus at x y a b = calculated-clean _ _ x y a b
infix-clean Minus at x y a b = values-clean (minus at x y) a b (λ p q. minus_by-clean at x y (whole_of p) (whole_of q) p q)
infix-clean Times at x y a b = times-clean at x y a b
infix-clean Divide at x y a b = calculated-clean _ _ x y a b
infix-clean Mod at x y a b = calculated-clean _ _ x y a b
infix-clean Power at x y a b = calculated-clean _ _ x y a b
infix-clean Concatenation at x y a b = λ h. absurd h
infix-clean Prepend at x y a b = λ h. absurd h
infix-clean Append at x y a b = λ h. absurd h

pub single-clean : (a : Outcome) → Sound (single_reading a) (IsTold a)
single-clean (partial p) h = (refl, tt)
single-clean (ranging g t there) h = absurd h
single-clean (holding p) h = absurd h
single-clean silent h = absurd h

pub extended-clean : (at : ℕ) (a b : Outcome) → Sound (extended at a b) (IsTold a × IsTold b)
extended-clean at a b = values-clean (λ p q. joint union_joint at p (singled q)) a b (λ p q. joint-clean union_joint at p (singled q))

constant-clean : (int_max : ℤ) (at : ℕ) (c : Constant) → (constant_reading int_max at c).faults ≡ []
constant-clean int_max at BoolWord = refl
constant-clean int_max at _ = refl

-- ---- readings
abbrev pub IsClean : Reading → Type 0
IsClean r = IsTold r.outcome → r.faults ≡ []

cond-clean : (c : Bool) (r : Reading) (fs : List Fault) → IsClean r → IsClean (cond c r (silently fs))
cond-clean true r fs f = f
cond-clean false r fs f = λ h. absurd h

part-clean : (wanted : Bool) (t : RawTree) (r : Reading) → IsClean r → IsClean (part wanted t r)
part-clean wanted t r f = cond-clean (is_alike wanted (is_predicate t)) r (not_predicate (place_of t) ∷ r.faults) f

from_one-clean : (k : Outcome → Reading) (r : Reading) → IsClean r → Sound (k r.outcome) (IsTold r.outcome) → IsClean (from_one k r)
from_one-clean k r f g h = let x = g h in append-none r.faults (k r.outcome).faults (f x.1) x.0

from_two-clean : (k : Outcome → Outcome → Reading) (r s : Reading) → IsClean r → IsClean s → Sound (k r.outcome s.outcome) (IsTold r.outcome × IsTold s.outcome) → IsClean (from_two k r s)
from_two-clean k r s f g m h = let x = m h in append-none (r.faults ++ s.faults) (k r.outcome s.outcome).faults (append-none r.faults s.faults (f x.1.0) (g x.1.1)) x.0

pub clean-told : (fs : List Fault) (o : Outcome) → IsTold (clean fs o) → (fs ≡ []) × IsTold o
clean-told [] o h = (refl, h)
clean-told (f ∷ fs) o h = absurd h

pub where-told : (c : Bool) (o : Outcome) → IsTold (where_typed c o) → (c ≡ true) × IsTold o
where-told true o h = (refl, h)
where-told false o h = absurd h

pub holding-told : (k : Formula → Outcome) (o : Outcome) → IsTold (if_holding k o) → IsTold o
holding-told k (holding p) h = tt
holding-told k (partial p) h = absurd h
holding-told k (ranging f t there) h = absurd h
holding-told k silent h = absurd h

typed-none : (bs : List Bound) → all_typed bs ≡ true → untyped_faults bs ≡ []
typed-none [] e = refl
typed-none (b ∷ bs) e = let k = and-both (has_type b.of_type) (all_typed bs) e in append-none (cond (has_type b.of_type) [] (no_type b.at)) (untyped_faults bs) (rw k.0 refl) (typed-none bs k.1)

quantified-clean : (k : List ValueType → Formula → Formula) (fs : List Fault) (bs : List Bound) (body : Reading) → IsClean body → IsClean (quantified k fs bs body)
quantified-clean k fs bs body f h =
    let a = clean-told fs (where_typed (all_typed bs) (if_holding (λ p. holding (k (types_of bs) p)) body.outcome)) h in
    let b = where-told (all_typed bs) (if_holding (λ p. holding (k (types_of bs) p)) body.outcome) a.1 in
    append-none fs (untyped_faults bs ++ body.faults) a.0 (append-none (untyped_faults bs) body.faults (typed-none bs b.0) (f (holding-told (λ p. holding (k (types_of bs) p)) body.outcome b.1)))

comprehended-clean : (at : ℕ) (fs : List Fault) (bs : List Ranged) (body : Reading) → IsClean body → IsClean (comprehended at fs bs body)
comprehended-clean at fs bs body f h =
    let made : Formula → Outcome = λ p. partial (whole (comprehension (ranges_of bs) p) (set_type (tuple_type (types_of (as_bound bs))))) in
    let a = clean-told fs (where_typed (is_some_name bs && all_typed (as_bound bs)) (if_holding made body.outcome)) h in
    let b = where-told (is_some_name bs && all_typed (as_bound bs)) (if_holding made body.outcome) a.1 in
    let c = and-both (is_some_name bs) (all_typed (as_bound bs)) b.0 in
    append-none fs (nameless at bs ++ (untyped_faults (as_bound bs) ++ body.faults)) a.0 (append-none (nameless at bs) (untyped_faults (as_bound bs) ++ body.faults) (rw c.0 refl) (append-none (untyped_faults (as_bound bs)) body.faults (typed-none (as_bound bs) c.1) (f (holding-told made body.outcome b.1))))

pub giving-told : (k : Formula → ValueType → Outcome) (v : Option (Formula × ValueType)) → IsTold (if_giving k v) → IsAnswer v
giving-told k None h = absurd h
giving-told k (Some v) h = tt

pub holding-then : (k : Formula → Outcome) (A : Type 0) (o : Outcome) → ((p : Formula) → IsTold (k p) → A) → IsTold (if_holding k o) → IsTold o × A
holding-then k A (holding p) f h = (tt, f p h)
holding-then k A (partial p) f h = absurd h
holding-then k A (ranging g t there) f h = absurd h
holding-then k A silent f h = absurd h

abstracted-clean : (at : ℕ) (fs : List Fault) (bs : List Ranged) (body : Reading) (there : ℕ) (image : Reading) → IsClean body → IsClean image → IsClean (abstracted at fs bs body there image)
abstracted-clean at fs bs body there image f g h =
    let made : Formula → Formula → ValueType → Outcome = λ p q u. partial (whole (lambda (ranges_of bs) p q) (set_type (pair_type (tuple_type (types_of (as_bound bs))) u))) in
    let us = untyped_faults (as_bound bs) in
    let asked = (ask_value there image.outcome).faults in
    let a = clean-told fs (where_typed (is_some_name bs && all_typed (as_bound bs)) (if_holding (λ p. if_giving (made p) (ask_value there image.outcome).answer) body.outcome)) h in
    let b = where-told (is_some_name bs && all_typed (as_bound bs)) (if_holding (λ p. if_giving (made p) (ask_value there image.outcome).answer) body.outcome) a.1 in
    let c = and-both (is_some_name bs) (all_typed (as_bound bs)) b.0 in
    let d = holding-then (λ p. if_giving (made p) (ask_value there image.outcome).answer) (IsAnswer (ask_value there image.outcome).answer) body.outcome (λ p k. giving-told (made p) (ask_value there image.outcome).answer k) b.1 in
    let v = ask_value-fair there image.outcome d.1 in
    append-none fs (nameless at bs ++ (us ++ (body.faults ++ (image.faults ++ asked)))) a.0 (append-none (nameless at bs) (us ++ (body.faults ++ (image.faults ++ asked))) (rw c.0 refl) (append-none us (body.faults ++ (image.faults ++ asked)) (typed-none (as_bound bs) c.1) (append-none body.faults (image.faults ++ asked) (f d.0) (append-none image.faults asked (g v.1) v.0))))

abbrev BeforeIsClean : Option Reading → Type 0
BeforeIsClean None = Unit {0}
BeforeIsClean (Some r) = IsClean r

conjoined-clean : (r s : Reading) → IsClean r → IsClean s → IsClean (conjoined r s)
conjoined-clean r s f g h = let x = connected-clean Conjunction r.outcome s.outcome h in append-none r.faults s.faults (f x.1.0) (g x.1.1)

conjunct-clean : (before : Option Reading) (r : Reading) → BeforeIsClean before → IsClean r → BeforeIsClean (with_conjunct before r)
conjunct-clean None r h k = k
conjunct-clean (Some s) r h k = conjoined-clean s r h k

left-clean : (c : Bool) (before : Option Reading) (r : Reading) → BeforeIsClean before → IsClean r → BeforeIsClean (left_over c before r)
left-clean true before r h k = h
left-clean false before r h k = conjunct-clean before r h k

body-clean : (before : Option Reading) → BeforeIsClean before → IsClean (body_of before)
body-clean None h = λ k. refl
body-clean (Some r) h = h

either-clean : (c : Bool) (x y : Option Reading) → BeforeIsClean x → BeforeIsClean y → BeforeIsClean (cond c x y)
either-clean true x y h k = h
either-clean false x y h k = k

spoilt-clean : (fs : List Fault) (r : Reading) → IsClean r → IsClean (spoilt_by fs r)
spoilt-clean fs r f h = let x = clean-told fs r.outcome h in append-none fs r.faults x.0 (f x.1)

sight-clean : (at : ℕ) (s : Sight) → IsClean (name_reading at s)
sight-clean at unseen h = absurd h
sight-clean at untyped_name h = absurd h
sight-clean at (seen f t) h = refl

empty-clean : (at : ℕ) (o : Option ValueType) → IsClean (typed_empty at o)
empty-clean at (Some (set_type t)) h = refl
empty-clean at _ h = absurd h

module _ (int_max : ℤ) where
  mutual
    pub reading-clean : (t : RawTree) (names : Names) → IsClean (reading int_max names t)
    reading-clean (raw at node) names = node-clean node at names

    node-clean : (node : RawTreeNode) (at : ℕ) (names : Names) → IsClean (node_reading int_max names at node)
    node-clean (raw_name x) at names = sight-clean at (found 0 names x)
    node-clean (raw_level_name x n) at names = sight-clean at (found 0 names (level_name x n))
    node-clean (raw_number z) at names = λ h. refl
    node-clean (raw_constant c) at names = λ h. constant-clean int_max at c
    node-clean (raw_word o a) at names = from_one-clean (word_reading o at (place_of a)) (part (takes_predicate o) a (reading int_max names a)) (part-clean (takes_predicate o) a (reading int_max names a) (reading-clean a names)) (word-clean o at (place_of a) (part (takes_predicate o) a (reading int_max names a)).outcome)
    node-clean (raw_negative a) at names = from_one-clean (negative_reading (place_of a)) (part false a (reading int_max names a)) (part-clean false a (reading int_max names a) (reading-clean a names)) (one-clean _ (ask (place_of a) (part false a (reading int_max names a)).outcome int_type) (part false a (reading int_max names a)).outcome (ask-fair (place_of a) (part false a (reading int_max names a)).outcome int_type))
    node-clean (raw_infix o a b) at names = spoilt-clean (strict_faults o a b) (from_two (infix_reading o at (place_of a) (place_of b)) (part (is_connective o) a (reading int_max names a)) (part (is_connective o) b (reading int_max names b))) (from_two-clean (infix_reading o at (place_of a) (place_of b)) (part (is_connective o) a (reading int_max names a)) (part (is_connective o) b (reading int_max names b)) (part-clean (is_connective o) a (reading int_max names a) (reading-clean a names)) (part-clean (is_connective o) b (reading int_max names b) (reading-clean b names)) (infix-clean o at (place_of a) (place_of b) (part (is_connective o) a (reading int_max names a)).outcome (part (is_connective o) b (reading int_max names b)).outcome))
    node-clean (raw_inverse a) at names = from_one-clean (inverse_reading (place_of a)) (part false a (reading int_max names a)) (part-clean false a (reading int_max names a) (reading-clean a names)) (one-clean _ (ask_relation (place_of a) (part false a (reading int_max names a)).outcome) (part false a (reading int_max names a)).outcome (ask_relation-fair (place_of a) (part false a (reading int_max names a)).outcome))
    node-clean (raw_image a b) at names = from_two-clean (image_reading (place_of a) (place_of b)) (part false a (reading int_max names a)) (part false b (reading int_max names b)) (part-clean false a (reading int_max names a) (reading-clean a names)) (part-clean false b (reading int_max names b) (reading-clean b names)) (image-clean (place_of a) (place_of b) (part false a (reading int_max names a)).outcome (part false b (reading int_max names b)).outcome)
    node-clean (raw_apply a b) at names = from_two-clean (apply_reading (place_of a) (place_of b)) (part false a (reading int_max names a)) (part false b (reading int_max names b)) (part-clean false a (reading int_max names a) (reading-clean a names)) (part-clean false b (reading int_max names b) (reading-clean b names)) (apply-clean (place_of a) (place_of b) (part false a (reading int_max names a)).outcome (part false b (reading int_max names b)).outcome)
    node-clean (raw_composition a b) at names = from_two-clean (composition_reading at (place_of a) (place_of b)) (part false a (reading int_max names a)) (part false b (reading int_max names b)) (part-clean false a (reading int_max names a) (reading-clean a names)) (part-clean false b (reading int_max names b) (reading-clean b names)) (composition-clean at (place_of a) (place_of b) (part false a (reading int_max names a)).outcome (part false b (reading int_max names b)).outcome)
    node-clean (raw_pair a b) at names = from_two-clean pair_reading (part false a (reading int_max names a)) (part false b (reading int_max names b)) (part-clean false a (reading int_max names a) (reading-clean a names)) (part-clean false b (reading int_max names b) (reading-clean b names)) (pair-clean (part false a (reading int_max names a)).outcome (part false b (reading int_max names b)).outcome)
    node-clean raw_empty_set at names = λ h. refl
    node-clean (raw_extension ts) at names = extension-clean ts at names
    node-clean (raw_for_all xs p) at names = let bs = premise_clues int_max names (bound_names xs) p in quantified-clean for_all (twice [] xs) bs (part true p (reading int_max (inside bs names) p)) (part-clean true p (reading int_max (inside bs names) p) (reading-clean p (inside bs names)))
    node-clean (raw_exists xs p) at names = let bs = clues int_max names (bound_names xs) p in quantified-clean for_some (twice [] xs) bs (part true p (reading int_max (inside bs names) p)) (part-clean true p (reading int_max (inside bs names) p) (reading-clean p (inside bs names)))
    node-clean (raw_comprehension xs p) at names = let rs = ranges int_max names xs 0 (unranged xs) p in comprehended-clean at (twice [] xs) rs (body_of (rest int_max (inside (as_bound rs) names) rs 0 None p)) (body-clean (rest int_max (inside (as_bound rs) names) rs 0 None p) (rest-clean p (inside (as_bound rs) names) rs 0 None tt))
    node-clean (raw_lambda xs p e) at names = let rs = ranges int_max names xs 0 (unranged xs) p in abstracted-clean at (twice [] xs) rs (body_of (rest int_max (inside (as_bound rs) names) rs 0 None p)) (place_of e) (part false e (reading int_max (inside (as_bound rs) names) e)) (body-clean (rest int_max (inside (as_bound rs) names) rs 0 None p) (rest-clean p (inside (as_bound rs) names) rs 0 None tt)) (part-clean false e (reading int_max (inside (as_bound rs) names) e) (reading-clean e (inside (as_bound rs) names)))
    node-clean (raw_bound_name k) at names = sight-clean at (bound_sight (count_locals names) names k)
    node-clean (raw_typed_empty t) at names = empty-clean at (type_read names t)
    node-clean (raw_typed_for_all ws p) at names = let bs = printed_bounds names ws in quantified-clean for_all (wrong_bounds (suc (count_locals names)) ws) bs (part true p (reading int_max (inside bs names) p)) (part-clean true p (reading int_max (inside bs names) p) (reading-clean p (inside bs names)))
    node-clean (raw_typed_exists ws p) at names = let bs = printed_bounds names ws in quantified-clean for_some (wrong_bounds (suc (count_locals names)) ws) bs (part true p (reading int_max (inside bs names) p)) (part-clean true p (reading int_max (inside bs names) p) (reading-clean p (inside bs names)))
    node-clean (raw_ranged_comprehension ws p) at names = let rs = printed_ranges (range_reads int_max names ws) in comprehended-clean at (wrong_ranges (suc (count_locals names)) (range_reads int_max names ws)) rs (part true p (reading int_max (inside (as_bound rs) names) p)) (part-clean true p (reading int_max (inside (as_bound rs) names) p) (reading-clean p (inside (as_bound rs) names)))
    node-clean (raw_ranged_lambda ws p e) at names = let rs = printed_ranges (range_reads int_max names ws) in abstracted-clean at (wrong_ranges (suc (count_locals names)) (range_reads int_max names ws)) rs (part true p (reading int_max (inside (as_bound rs) names) p)) (place_of e) (part false e (reading int_max (inside (as_bound rs) names) e)) (part-clean true p (reading int_max (inside (as_bound rs) names) p) (reading-clean p (inside (as_bound rs) names))) (part-clean false e (reading int_max (inside (as_bound rs) names) e) (reading-clean e (inside (as_bound rs) names)))

    extension-clean : (ts : RawTrees) (at : ℕ) (names : Names) → IsClean (extension_reading int_max names at ts)
    extension-clean no_trees at names = λ h. absurd h
    extension-clean (tree_and t ts) at names = elements-clean ts at names (from_one single_reading (part false t (reading int_max names t))) (from_one-clean single_reading (part false t (reading int_max names t)) (part-clean false t (reading int_max names t) (reading-clean t names)) (single-clean (part false t (reading int_max names t)).outcome))

    elements-clean : (ts : RawTrees) (at : ℕ) (names : Names) (before : Reading) → IsClean before → IsClean (elements_reading int_max names at before ts)
    elements-clean no_trees at names before f = f
    elements-clean (tree_and t ts) at names before f = elements-clean ts at names (from_two (extended at) before (part false t (reading int_max names t))) (from_two-clean (extended at) before (part false t (reading int_max names t)) f (part-clean false t (reading int_max names t) (reading-clean t names)) (extended-clean at before.outcome (part false t (reading int_max names t)).outcome))

    rest-clean : (t : RawTree) (names : Names) (rs : List Ranged) (i : ℕ) (before : Option Reading) → BeforeIsClean before → BeforeIsClean (rest int_max names rs i before t)
    rest-clean (raw at node) names rs i before f = rest_in-clean node names rs i before (part true (raw at node) (node_reading int_max names at node)) f (part-clean true (raw at node) (node_reading int_max names at node) (node-clean node at names))

    rest_in-clean : (node : RawTreeNode) (names : Names) (rs : List Ranged) (i : ℕ) (before : Option Reading) (r : Reading) → BeforeIsClean before → IsClean r → BeforeIsClean (rest_in int_max names rs i before r node)
    rest_in-clean (raw_infix o a b) names rs i before r f g = either-clean (is_and o) (rest int_max names rs (i + length (conjuncts a)) (rest int_max names rs i before a) b) (left_over (is_used i rs) before r) (rest-clean b names rs (i + length (conjuncts a)) (rest int_max names rs i before a) (rest-clean a names rs i before f)) (left-clean (is_used i rs) before r f g)
    rest_in-clean _ names rs i before r f g = left-clean (is_used i rs) before r f g
