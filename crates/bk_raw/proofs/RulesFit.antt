-- Operators make a predicate or an expression of theirs, where they add no fault.
use Rattle.std.proofs.Common.{◌≡◌, ℕ, List, [], ◌∷◌, ◌++◌, refl, Bool, true, false, cond}
use Rattle.std.specs.Prelude.{Option, None, Some, ℤ}
use Rattle.bk_val.specs.ValueType.{ValueType, int_type, bool_type, enum_type, pair_type, set_type}
use Rattle.bk_form.specs.Formula.{Formula, binary}
use Rattle.bk_form.specs.Role.{same_type}
use Rattle.bk_form.specs.declared.operator.BinOp.{BinOp}
use Rattle.bk_form.specs.declared.operator.BinOp.TheVariants.{In, Sub, Mul, Comp}
use Rattle.bk_raw.specs.declared.operator.InfixOp.{InfixOp}
use Rattle.bk_raw.specs.declared.operator.InfixOp.TheVariants.{Equivalent, Implies, And, Or, Equal, NotEqual, Less, AtMost, Greater, AtLeast, Member, NotMember, Subset, NotSubset, StrictSubset, Relations, PartialFunctions, TotalFunctions, PartialInjections, TotalInjections, PartialSurjections, TotalSurjections, Bijections, Union, Intersection, DomainRestriction, RangeRestriction, DomainSubtraction, RangeSubtraction, Override, Maplet, Interval, Plus, Minus, Times, Divide, Mod, Power, Concatenation, Prepend, Append}
use Rattle.bk_raw.specs.declared.operator.WordOp.{WordOp}
use Rattle.bk_raw.specs.declared.operator.WordOp.TheVariants.{Not, BoolOf, Card, Min, Max, Dom, Ran, Id, Succ, Pred, Pow, Pow1, Fin, Fin1, Seq, Size, First, Last, Front, Tail, Rev}
use Rattle.bk_raw.specs.declared.operator.Constant.{Constant}
use Rattle.bk_raw.specs.declared.operator.Constant.TheVariants.{Btrue, Bfalse}
use Rattle.bk_raw.specs.Meaning.Outcome.{Joint, union_joint, inter_joint, minus_joint, over_joint, joins, Partial, whole, hollow, single_of, pair_of, joint_of, filled, whole_of, Outcome, partial, ranging, holding, silent, Reading, silently, plainly, giving, no_type, Asked, fitting, ask, ask_value, ask_set, ask_relation, ask_domain, ask_predicate, unvalued, of_answer, of_one, of_answers, of_both}
use Rattle.bk_raw.specs.Meaning.OperatorReadings.{constant_reading, word_reading, negative_reading, inverse_reading, depending, dependent, on_values, connected, compared, calculated, one_type_by, one_type, equal, in_domain, in_power, arrow, joined, joint, is_number, minus_by, minus, times, left_part, right_part, image_reading, apply_reading, composed, composition_reading, paired, pair_reading, negated, infix_reading, singled, single_reading, extended, unmatched, no_number, ungiven}
use Rattle.bk_raw.specs.Meaning.TermReading.{makes_predicate, is_connective, is_not, takes_predicate, is_truth_word}
use Rattle.bk_raw.specs.Meaning.Speaking.{Fits, Speaks}
use Rattle.bk_raw.specs.Errors.Faults.{Fault, without_type}

-- ---- lists without faults
pub none-left : {A : Type 0} (xs ys : List A) → xs ++ ys ≡ [] → xs ≡ []
none-left [] ys h = refl
none-left (x ∷ xs) ys h = absurd (cc)

pub none-right : {A : Type 0} (xs ys : List A) → xs ++ ys ≡ [] → ys ≡ []
none-right [] ys h = h
none-right (x ∷ xs) ys h = absurd (cc)

pub some-fault : {A B : Type 0} (x : A) (xs : List A) → x ∷ xs ≡ [] → B
some-fault x xs h = absurd (cc)

-- ---- answers
abbrev pub Answered : {A : Type 0} → Option A → Type 0
Answered None = ⊥
Answered (Some x) = Unit {0}

abbrev pub Answers : {A : Type 0} → Asked A → Type 0
Answers a = a.faults ≡ [] → Answered a.answer

fitting-answers : (at : ℕ) (f : Option Formula) → Answers (fitting at f)
fitting-answers at None h = some-fault (without_type at) [] h
fitting-answers at (Some f) h = tt

pub ask-answers : (at : ℕ) (o : Outcome) (t : ValueType) → Fits false o → Answers (ask at o t)
ask-answers at (partial p) t f h = fitting-answers at (filled p t) h
ask-answers at (ranging g u there) t f h = some-fault (without_type there) [] h
ask-answers at (holding p) t f h = absurd f
ask-answers at silent t f h = absurd f

pub ask_value-answers : (at : ℕ) (o : Outcome) → Fits false o → Answers (ask_value at o)
ask_value-answers at (partial (whole f t)) k h = tt
ask_value-answers at (partial hollow) k h = some-fault (without_type at) [] h
ask_value-answers at (partial (single_of p)) k h = some-fault (without_type at) [] h
ask_value-answers at (partial (pair_of p q)) k h = some-fault (without_type at) [] h
ask_value-answers at (partial (joint_of j p q)) k h = some-fault (without_type at) [] h
ask_value-answers at (ranging g u there) k h = some-fault (without_type there) [] h
ask_value-answers at (holding p) k h = absurd k
ask_value-answers at silent k h = absurd k

pub ask_set-answers : (at : ℕ) (o : Outcome) → Fits false o → Answers (ask_set at o)
ask_set-answers at (partial (whole f (set_type t))) k h = tt
ask_set-answers at (partial _) k h = some-fault (without_type at) [] h
ask_set-answers at (ranging g u there) k h = some-fault (without_type there) [] h
ask_set-answers at (holding p) k h = absurd k
ask_set-answers at silent k h = absurd k

pub ask_relation-answers : (at : ℕ) (o : Outcome) → Fits false o → Answers (ask_relation at o)
ask_relation-answers at (partial (whole f (set_type (pair_type t u)))) k h = tt
ask_relation-answers at (partial _) k h = some-fault (without_type at) [] h
ask_relation-answers at (ranging g u there) k h = some-fault (without_type there) [] h
ask_relation-answers at (holding p) k h = absurd k
ask_relation-answers at silent k h = absurd k

pub ask_domain-answers : (at : ℕ) (o : Outcome) → Fits false o → Answers (ask_domain at o)
ask_domain-answers at (partial (whole f (set_type t))) k h = tt
ask_domain-answers at (partial _) k h = some-fault (without_type at) [] h
ask_domain-answers at (ranging g u there) k h = tt
ask_domain-answers at (holding p) k h = absurd k
ask_domain-answers at silent k h = absurd k

pub ask_predicate-answers : (o : Outcome) → Fits true o → Answers (ask_predicate o)
ask_predicate-answers (holding p) k h = tt
ask_predicate-answers (partial p) k h = absurd k
ask_predicate-answers (ranging f t there) k h = absurd k
ask_predicate-answers silent k h = absurd k

-- ---- what comes of answers
answer-fits : {A : Type 0} (kind : Bool) (k : A → Outcome) (x : Option A) → ((y : A) → Fits kind (k y)) → Answered x → Fits kind (of_answer k x)
answer-fits kind k None f h = absurd h
answer-fits kind k (Some y) f h = f y

pub one-fits : {A : Type 0} (kind : Bool) (k : A → Outcome) (a : Asked A) → ((y : A) → Fits kind (k y)) → Answers a → Speaks kind (of_one k a)
one-fits kind k a f g h = answer-fits kind k a.answer f (g h)

answers-fit : {A B : Type 0} (kind : Bool) (k : A → B → Outcome) (x : Option A) (y : Option B) → ((u : A) (v : B) → Fits kind (k u v)) → Answered x → Answered y → Fits kind (of_answers k x y)
answers-fit kind k None y f g h = absurd g
answers-fit kind k (Some u) None f g h = absurd h
answers-fit kind k (Some u) (Some v) f g h = f u v

pub both-fit : {A B : Type 0} (kind : Bool) (k : A → B → Outcome) (a : Asked A) (b : Asked B) → ((u : A) (v : B) → Fits kind (k u v)) → Answers a → Answers b → Speaks kind (of_both k a b)
both-fit kind k a b f g h e = answers-fit kind k a.answer b.answer f (g (none-left a.faults b.faults e)) (h (none-right a.faults b.faults e))

depending-fits : {A : Type 0} (kind : Bool) (t : A → ValueType) (k : A → Formula → Outcome) (fs : List Fault) (x : Option A) (at : ℕ) (o : Outcome) → ((y : A) (f : Formula) → Fits kind (k y f)) → (fs ≡ [] → Answered x) → Fits false o → Speaks kind (depending t k fs x at o)
depending-fits kind t k fs None at o f g h e = absurd (g (none-left fs (unvalued o) e))
depending-fits kind t k fs (Some y) at o f g h e = answer-fits kind (k y) (ask at o (t y)).answer (f y) (ask-answers at o (t y) h (none-right fs (ask at o (t y)).faults e))

pub dependent-fits : {A : Type 0} (kind : Bool) (t : A → ValueType) (k : A → Formula → Outcome) (a : Asked A) (at : ℕ) (o : Outcome) → ((y : A) (f : Formula) → Fits kind (k y f)) → Answers a → Fits false o → Speaks kind (dependent t k a at o)
dependent-fits kind t k a at o f g h e = depending-fits kind t k a.faults a.answer at o f g h e

pub values-fit : (kind : Bool) (k : Partial → Partial → Reading) (a b : Outcome) → ((p q : Partial) → Speaks kind (k p q)) → Fits false a → Fits false b → Speaks kind (on_values k a b)
values-fit kind k (partial p) (partial q) f g h e = f p q e
values-fit kind k (partial p) (ranging v t there) f g h e = some-fault (without_type there) [] e
values-fit kind k (partial p) (holding q) f g h e = absurd h
values-fit kind k (partial p) silent f g h e = absurd h
values-fit kind k (ranging v t there) b f g h e = some-fault (without_type there) (unvalued b) e
values-fit kind k (holding q) b f g h e = absurd g
values-fit kind k silent b f g h e = absurd g

-- where a test fails there is a fault
tested-fits : (kind c : Bool) (r : Reading) (x : ℕ) → Speaks kind r → Speaks kind (cond c r (silently (no_type x)))
tested-fits kind true r x f e = f e
tested-fits kind false r x f e = some-fault (without_type x) [] e

one_type_by-fits : (kind : Bool) (test : ValueType → Bool) (k : Formula → Formula → ValueType → Outcome) (neither : Reading) (at : ℕ) → ((f g : Formula) (t : ValueType) → Fits kind (k f g t)) → Speaks kind neither → (v w : Option (Formula × ValueType)) (p q : Partial) → Speaks kind (one_type_by test k neither at v w p q)
one_type_by-fits kind test k neither at f n (Some v) w p q = tested-fits kind (test v.1) (of_one (λ g. k v.0 g v.1) (fitting at (filled q v.1))) at (one-fits kind (λ g. k v.0 g v.1) (fitting at (filled q v.1)) (λ g. f v.0 g v.1) (fitting-answers at (filled q v.1)))
one_type_by-fits kind test k neither at f n None (Some w) p q = tested-fits kind (test w.1) (of_one (λ g. k g w.0 w.1) (fitting at (filled p w.1))) at (one-fits kind (λ g. k g w.0 w.1) (fitting at (filled p w.1)) (λ g. f g w.0 w.1) (fitting-answers at (filled p w.1)))
one_type_by-fits kind test k neither at f n None None p q = n

pub one_type-fits : (kind : Bool) (test : ValueType → Bool) (k : Formula → Formula → ValueType → Outcome) (neither : Reading) (at : ℕ) → ((f g : Formula) (t : ValueType) → Fits kind (k f g t)) → Speaks kind neither → (p q : Partial) → Speaks kind (one_type test k neither at p q)
one_type-fits kind test k neither at f n p q = one_type_by-fits kind test k neither at f n (whole_of p) (whole_of q) p q

joint-fits : (j : Joint) (at : ℕ) (p q : Partial) → Speaks false (joint j at p q)
joint-fits j at p q = one_type-fits false (joins j) (joined j) (plainly (partial (joint_of j p q))) at (λ f g t. tt) (λ e. tt) p q

minus_cond : (c : Bool) (r s : Reading) → Speaks false r → Speaks false s → Speaks false (cond c r s)
minus_cond true r s f g = f
minus_cond false r s f g = g

minus_by-fits : (at x y : ℕ) (v w : Option (Formula × ValueType)) (p q : Partial) → Speaks false (minus_by at x y v w p q)
minus_by-fits at x y (Some v) w p q = minus_cond (is_number v.1) (of_one (λ g. partial (whole (binary Sub v.0 g) int_type)) (fitting y (filled q int_type))) (joint minus_joint at p q)
    (one-fits false (λ g. partial (whole (binary Sub v.0 g) int_type)) (fitting y (filled q int_type)) (λ g. tt) (fitting-answers y (filled q int_type))) (joint-fits minus_joint at p q)
minus_by-fits at x y None (Some w) p q = minus_cond (is_number w.1) (silently (no_type x)) (joint minus_joint at p q) (λ e. some-fault (without_type x) [] e) (joint-fits minus_joint at p q)
minus_by-fits at x y None None p q = joint-fits minus_joint at p q

minus-fits : (at x y : ℕ) (p q : Partial) → Speaks false (minus at x y p q)
minus-fits at x y p q = minus_by-fits at x y (whole_of p) (whole_of q) p q

unmatched-fits : (at : ℕ) (b : Outcome) → Fits false b → Speaks false (silently (unmatched at b))
unmatched-fits at (partial q) h e = some-fault (without_type at) [] e
unmatched-fits at (ranging g u there) h e = some-fault (without_type at) [] e
unmatched-fits at (holding p) h e = absurd h
unmatched-fits at silent h e = absurd h

no_number-fits : (at there : ℕ) (u : ValueType) → Speaks false (silently (no_number at there u))
no_number-fits at there int_type e = some-fault (without_type there) [] e
no_number-fits at there _ e = some-fault (without_type at) [] e

ungiven-fits : (at x : ℕ) (b : Outcome) → Fits false b → Speaks false (silently (ungiven at x b))
ungiven-fits at x (partial (whole g int_type)) h e = some-fault (without_type x) [] e
ungiven-fits at x (partial (whole g (set_type u))) h e = some-fault (without_type x) [] e
ungiven-fits at x (partial (whole g _)) h e = some-fault (without_type at) [] e
ungiven-fits at x (partial _) h e = some-fault (without_type x) [] e
ungiven-fits at x (ranging g u there) h e = some-fault (without_type x) [] e
ungiven-fits at x (holding p) h e = absurd h
ungiven-fits at x silent h e = absurd h

times-fits : (at x y : ℕ) (a b : Outcome) → Fits false a → Fits false b → Speaks false (times at x y a b)
times-fits at x y (partial (whole f int_type)) b g h e = one-fits false (λ g. partial (whole (binary Mul f g) int_type)) (ask y b int_type) (λ g. tt) (ask-answers y b int_type h) e
times-fits at x y (partial (whole f (set_type t))) (partial (whole v (set_type u))) g h e = tt
times-fits at x y (partial (whole f (set_type t))) (ranging v u there) g h e = tt
times-fits at x y (partial (whole f (set_type t))) (partial _) g h e = some-fault (without_type y) [] e
times-fits at x y (partial (whole f (set_type t))) (holding p) g h e = absurd h
times-fits at x y (partial (whole f (set_type t))) silent g h e = absurd h
times-fits at x y (ranging f t there) (partial (whole v (set_type u))) g h e = tt
times-fits at x y (ranging f t there) (ranging v u other) g h e = tt
times-fits at x y (ranging f t there) (partial (whole v int_type)) g h e = no_number-fits at there int_type e
times-fits at x y (ranging f t there) (partial (whole v bool_type)) g h e = no_number-fits at there bool_type e
times-fits at x y (ranging f t there) (partial (whole v (enum_type n))) g h e = no_number-fits at there (enum_type n) e
times-fits at x y (ranging f t there) (partial (whole v (pair_type u w))) g h e = no_number-fits at there (pair_type u w) e
times-fits at x y (ranging f t there) (partial hollow) g h e = some-fault (without_type y) [] e
times-fits at x y (ranging f t there) (partial (single_of p)) g h e = some-fault (without_type y) [] e
times-fits at x y (ranging f t there) (partial (pair_of p q)) g h e = some-fault (without_type y) [] e
times-fits at x y (ranging f t there) (partial (joint_of j p q)) g h e = some-fault (without_type y) [] e
times-fits at x y (ranging f t there) (holding p) g h e = absurd h
times-fits at x y (ranging f t there) silent g h e = absurd h
times-fits at x y (partial (whole f bool_type)) b g h e = unmatched-fits at b h e
times-fits at x y (partial (whole f (enum_type n))) b g h e = unmatched-fits at b h e
times-fits at x y (partial (whole f (pair_type t u))) b g h e = unmatched-fits at b h e
times-fits at x y (partial hollow) b g h e = ungiven-fits at x b h e
times-fits at x y (partial (single_of p)) b g h e = ungiven-fits at x b h e
times-fits at x y (partial (pair_of p q)) b g h e = ungiven-fits at x b h e
times-fits at x y (partial (joint_of j p q)) b g h e = ungiven-fits at x b h e
times-fits at x y (holding p) b g h e = absurd g
times-fits at x y silent b g h e = absurd g

composed-fits : (at : ℕ) (fs : List Fault) (r s : Option (Formula × ValueType × ValueType)) → (fs ≡ [] → Answered r) → (fs ≡ [] → Answered s) → Speaks false (composed at fs r s)
composed-fits at fs (Some r) (Some s) g h = tested-fits false (same_type r.2 s.1) (giving (binary Comp r.0 s.0) (set_type (pair_type r.1 s.2))) at (λ e. tt)
composed-fits at fs (Some r) None g h = λ e. absurd (h e)
composed-fits at fs None s g h = λ e. absurd (g e)

pub composition-fits : (at x y : ℕ) (a b : Outcome) → Fits false a → Fits false b → Speaks false (composition_reading at x y a b)
composition-fits at x y a b f g = composed-fits at ((ask_relation x a).faults ++ (ask_relation y b).faults) (ask_relation x a).answer (ask_relation y b).answer
    (λ e. ask_relation-answers x a f (none-left (ask_relation x a).faults (ask_relation y b).faults e)) (λ e. ask_relation-answers y b g (none-right (ask_relation x a).faults (ask_relation y b).faults e))

pub constant-fits : (int_max : ℤ) (at : ℕ) (c : Constant) → Fits (is_truth_word c) (constant_reading int_max at c).outcome
constant-fits int_max at Btrue = tt
constant-fits int_max at Bfalse = tt
constant-fits int_max at _ = tt

pub word-fits : (w : WordOp) (at x : ℕ) (a : Outcome) → Fits (takes_predicate w) a → Speaks (is_not w) (word_reading w at x a)
word-fits Not at x a f = one-fits true _ (ask_predicate a) (λ p. tt) (ask_predicate-answers a f)
word-fits BoolOf at x a f = one-fits false _ (ask_predicate a) (λ p. tt) (ask_predicate-answers a f)
word-fits Card at x a f = one-fits false _ (ask_set x a) (λ p. tt) (ask_set-answers x a f)
word-fits Min at x a f = one-fits false _ (ask x a (set_type int_type)) (λ p. tt) (ask-answers x a (set_type int_type) f)
word-fits Max at x a f = one-fits false _ (ask x a (set_type int_type)) (λ p. tt) (ask-answers x a (set_type int_type) f)
word-fits Dom at x a f = one-fits false _ (ask_relation x a) (λ p. tt) (ask_relation-answers x a f)
word-fits Ran at x a f = one-fits false _ (ask_relation x a) (λ p. tt) (ask_relation-answers x a f)
word-fits Id at x a f = one-fits false _ (ask_set x a) (λ p. tt) (ask_set-answers x a f)
word-fits Succ at x a f = one-fits false _ (ask x a int_type) (λ p. tt) (ask-answers x a int_type f)
word-fits Pred at x a f = one-fits false _ (ask x a int_type) (λ p. tt) (ask-answers x a int_type f)
word-fits Pow at x a f = one-fits false _ (ask_domain x a) (λ p. tt) (ask_domain-answers x a f)
word-fits Pow1 at x a f = one-fits false _ (ask_domain x a) (λ p. tt) (ask_domain-answers x a f)
word-fits Fin at x a f = one-fits false _ (ask_domain x a) (λ p. tt) (ask_domain-answers x a f)
word-fits Fin1 at x a f = one-fits false _ (ask_domain x a) (λ p. tt) (ask_domain-answers x a f)
word-fits Seq at x a f = λ h. some-fault (without_type at) [] h
word-fits Size at x a f = λ h. some-fault (without_type at) [] h
word-fits First at x a f = λ h. some-fault (without_type at) [] h
word-fits Last at x a f = λ h. some-fault (without_type at) [] h
word-fits Front at x a f = λ h. some-fault (without_type at) [] h
word-fits Tail at x a f = λ h. some-fault (without_type at) [] h
word-fits Rev at x a f = λ h. some-fault (without_type at) [] h

pub negative-fits : (x : ℕ) (a : Outcome) → Fits false a → Speaks false (negative_reading x a)
negative-fits x a f = one-fits false _ (ask x a int_type) (λ p. tt) (ask-answers x a int_type f)

pub inverse-fits : (x : ℕ) (a : Outcome) → Fits false a → Speaks false (inverse_reading x a)
inverse-fits x a f = one-fits false _ (ask_relation x a) (λ p. tt) (ask_relation-answers x a f)

pub image-fits : (x y : ℕ) (a b : Outcome) → Fits false a → Fits false b → Speaks false (image_reading x y a b)
image-fits x y a b f g = dependent-fits false _ _ (ask_relation x a) y b (λ r s. tt) (ask_relation-answers x a f) g

pub apply-fits : (x y : ℕ) (a b : Outcome) → Fits false a → Fits false b → Speaks false (apply_reading x y a b)
apply-fits x y a b f g = dependent-fits false _ _ (ask_relation x a) y b (λ r s. tt) (ask_relation-answers x a f) g

pub pair-fits : (a b : Outcome) → Fits false a → Fits false b → Speaks false (pair_reading a b)
pair-fits a b f g = values-fit false (λ p q. plainly (partial (paired p q))) a b (λ p q e. tt) f g

pub connected-fits : (o : BinOp) (a b : Outcome) → Fits true a → Fits true b → Speaks true (connected o a b)
connected-fits o a b f g = both-fit true _ (ask_predicate a) (ask_predicate b) (λ p q. tt) (ask_predicate-answers a f) (ask_predicate-answers b g)

compared-fits : (k : Formula → Formula → Formula) (x y : ℕ) (a b : Outcome) → Fits false a → Fits false b → Speaks true (compared k x y a b)
compared-fits k x y a b f g = both-fit true _ (ask x a int_type) (ask y b int_type) (λ p q. tt) (ask-answers x a int_type f) (ask-answers y b int_type g)

calculated-fits : (o : BinOp) (t : ValueType) (x y : ℕ) (a b : Outcome) → Fits false a → Fits false b → Speaks false (calculated o t x y a b)
calculated-fits o t x y a b f g = both-fit false _ (ask x a int_type) (ask y b int_type) (λ p q. tt) (ask-answers x a int_type f) (ask-answers y b int_type g)

equal-fits : (k : Formula → Formula → Formula) (at : ℕ) (a b : Outcome) → Fits false a → Fits false b → Speaks true (on_values (equal k at) a b)
equal-fits k at a b f g = values-fit true (equal k at) a b (λ p q. one_type-fits true (λ t. true) (λ u v t. holding (k u v)) (silently (no_type at)) at (λ u v t. tt) (λ e. some-fault (without_type at) [] e) p q) f g

in_domain-fits : (k : Formula → Formula → Formula) (x y : ℕ) (a b : Outcome) → Fits false a → Fits false b → Speaks true (in_domain k x y a b)
in_domain-fits k x y a b f g = dependent-fits true _ _ (ask_domain y b) x a (λ r s. tt) (ask_domain-answers y b g) f

in_power-fits : (k : Formula → Formula → Formula) (x y : ℕ) (a b : Outcome) → Fits false a → Fits false b → Speaks true (in_power k x y a b)
in_power-fits k x y a b f g = dependent-fits true _ _ (ask_domain y b) x a (λ r s. tt) (ask_domain-answers y b g) f

arrow-fits : (o : BinOp) (at x y : ℕ) (a b : Outcome) → Fits false a → Fits false b → Speaks false (arrow o at x y a b)
arrow-fits o at x y a b f g = both-fit false _ (ask_domain x a) (ask_domain y b) (λ p q. tt) (ask_domain-answers x a f) (ask_domain-answers y b g)

left_part-fits : (o : BinOp) (x y : ℕ) (a b : Outcome) → Fits false a → Fits false b → Speaks false (left_part o x y a b)
left_part-fits o x y a b f g = dependent-fits false _ _ (ask_relation y b) x a (λ r s. tt) (ask_relation-answers y b g) f

right_part-fits : (o : BinOp) (x y : ℕ) (a b : Outcome) → Fits false a → Fits false b → Speaks false (right_part o x y a b)
right_part-fits o x y a b f g = dependent-fits false _ _ (ask_relation x a) y b (λ r s. tt) (ask_relation-answers x a f) g

pub infix-fits : (o : InfixOp) (at x y : ℕ) (a b : Outcome) → Fits (is_connective o) a → Fits (is_connective o) b → Speaks (makes_predicate o) (infix_reading o at x y a b)
infix-fits Equivalent at x y a b f g = connected-fits _ a b f g
infix-fits Implies at x y a b f g = connected-fits _ a b f g
infix-fits And at x y a b f g = connected-fits _ a b f g
infix-fits Or at x y a b f g = connected-fits _ a b f g
infix-fits Equal at x y a b f g = equal-fits _ at a b f g
infix-fits NotEqual at x y a b f g = equal-fits _ at a b f g
infix-fits Less at x y a b f g = compared-fits _ x y a b f g
infix-fits AtMost at x y a b f g = compared-fits _ x y a b f g
infix-fits Greater at x y a b f g = compared-fits _ x y a b f g
infix-fits AtLeast at x y a b f g = compared-fits _ x y a b f g
infix-fits Member at x y a b f g = in_domain-fits _ x y a b f g
infix-fits NotMember at x y a b f g = in_domain-fits _ x y a b f g
infix-fits Subset at x y a b f g = in_power-fits (binary In) x y a b f g
infix-fits NotSubset at x y a b f g = in_power-fits (negated (binary In)) x y a b f g
infix-fits StrictSubset at x y a b f g = dependent-fits true _ _ (ask_set y b) x a (λ r s. tt) (ask_set-answers y b g) f
infix-fits Relations at x y a b f g = arrow-fits _ at x y a b f g
infix-fits PartialFunctions at x y a b f g = arrow-fits _ at x y a b f g
infix-fits TotalFunctions at x y a b f g = arrow-fits _ at x y a b f g
infix-fits PartialInjections at x y a b f g = arrow-fits _ at x y a b f g
infix-fits TotalInjections at x y a b f g = arrow-fits _ at x y a b f g
infix-fits PartialSurjections at x y a b f g = arrow-fits _ at x y a b f g
infix-fits TotalSurjections at x y a b f g = arrow-fits _ at x y a b f g
infix-fits Bijections at x y a b f g = arrow-fits _ at x y a b f g
infix-fits Union at x y a b f g = values-fit false (joint union_joint at) a b (joint-fits union_joint at) f g
infix-fits Intersection at x y a b f g = values-fit false (joint inter_joint at) a b (joint-fits inter_joint at) f g
infix-fits Override at x y a b f g = values-fit false (joint over_joint at) a b (joint-fits over_joint at) f g
infix-fits DomainRestriction at x y a b f g = left_part-fits _ x y a b f g
infix-fits DomainSubtraction at x y a b f g = left_part-fits _ x y a b f g
infix-fits RangeRestriction at x y a b f g = right_part-fits _ x y a b f g
infix-fits RangeSubtraction at x y a b f g = right_part-fits _ x y a b f g
infix-fits Maplet at x y a b f g = pair-fits a b f g
infix-fits Interval at x y a b f g = calculated-fits _ _ x y a b f g
infix-fits Plus at x y a b f g = calculated-fits _ _ x y a b f g
infix-fits Minus at x y a b f g = values-fit false (minus at x y) a b (minus-fits at x y) f g
infix-fits Times at x y a b f g = times-fits at x y a b f g
infix-fits Divide at x y a b f g = calculated-fits _ _ x y a b f g
infix-fits Mod at x y a b f g = calculated-fits _ _ x y a b f g
infix-fits Power at x y a b f g = calculated-fits _ _ x y a b f g
infix-fits Concatenation at x y a b f g = λ h. some-fault (without_type at) [] h
infix-fits Prepend at x y a b f g = λ h. some-fault (without_type at) [] h
infix-fits Append at x y a b f g = λ h. some-fault (without_type at) [] h

pub single-fits : (a : Outcome) → Fits false a → Speaks false (single_reading a)
single-fits (partial p) f e = tt
single-fits (ranging g t there) f e = some-fault (without_type there) [] e
single-fits (holding p) f e = absurd f
single-fits silent f e = absurd f

pub extended-fits : (at : ℕ) (a b : Outcome) → Fits false a → Fits false b → Speaks false (extended at a b)
extended-fits at a b f g = values-fit false (λ p q. joint union_joint at p (singled q)) a b (λ p q. joint-fits union_joint at p (singled q)) f g
