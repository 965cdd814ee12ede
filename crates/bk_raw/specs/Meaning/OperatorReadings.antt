-- What each operator makes of its parts: the outcome, and the faults that it adds to those of its parts. The operators are those of
-- the B Language Reference Manual, their types those of type checking in the B-Book.
use Rattle.std.specs.Prelude.{ℕ, ℤ, pos, neg_ℤ, Bool, true, false, cond, List, [], ◌++◌, Option, None, Some}
use Rattle.bk_val.specs.ValueType.{ValueType, int_type, bool_type, pair_type, set_type}
use Rattle.bk_form.specs.Formula.{Formula, literal, truth_value, named, btrue, bfalse, unary, binary}
use Rattle.bk_form.specs.Role.{same_type}
use Rattle.bk_form.specs.declared.operator.UnOp.{UnOp}
use Rattle.bk_form.specs.declared.operator.UnOp.TheVariants.{Not as Negation, BoolOf as TruthOf, Neg, Card as CardOf, Min as MinOf}
use Rattle.bk_form.specs.declared.operator.UnOp.TheVariants.{Max as MaxOf, Dom as DomainOf, Ran as RangeOf, Id as IdOf}
use Rattle.bk_form.specs.declared.operator.UnOp.TheVariants.{Inverse as InverseOf, Single, Pow as PowerOf, Pow1 as Power1Of}
use Rattle.bk_form.specs.declared.operator.BinOp.{BinOp}
use Rattle.bk_form.specs.declared.operator.BinOp.TheVariants.{And as Conjunction, Or as Disjunction, Imp, Iff, Eq, Lt, Le, In}
use Rattle.bk_form.specs.declared.operator.BinOp.TheVariants.{Times as Product, DomRes, RanRes, DomSub, RanSub, Maps, Range, Add, Sub}
use Rattle.bk_form.specs.declared.operator.BinOp.TheVariants.{Mul, Div, Mod as Remainder, Power as PowerTo, Image as ImageOf}
use Rattle.bk_form.specs.declared.operator.BinOp.TheVariants.{Apply as ApplyTo, Comp, Relations as RelationsOf}
use Rattle.bk_form.specs.declared.operator.BinOp.TheVariants.{PartialFunctions as PartialOf, TotalFunctions as TotalOf}
use Rattle.bk_form.specs.declared.operator.BinOp.TheVariants.{PartialInjections as PartialInjectionsOf}
use Rattle.bk_form.specs.declared.operator.BinOp.TheVariants.{TotalInjections as TotalInjectionsOf}
use Rattle.bk_form.specs.declared.operator.BinOp.TheVariants.{PartialSurjections as PartialSurjectionsOf}
use Rattle.bk_form.specs.declared.operator.BinOp.TheVariants.{TotalSurjections as TotalSurjectionsOf, Bijections as BijectionsOf}
use Rattle.bk_form.specs.declared.operator.Domain.TheVariants.{Integer as WholeNumbers, Natural as NaturalNumbers}
use Rattle.bk_form.specs.declared.operator.Domain.TheVariants.{Natural1 as PositiveNumbers, Bool as Booleans}
use Rattle.bk_raw.specs.declared.operator.InfixOp.{InfixOp}
use Rattle.bk_raw.specs.declared.operator.InfixOp.TheVariants.{Equivalent, Implies, And, Or, Equal, NotEqual, Less, AtMost, Greater}
use Rattle.bk_raw.specs.declared.operator.InfixOp.TheVariants.{AtLeast, Member, NotMember, Subset, NotSubset, StrictSubset, Relations}
use Rattle.bk_raw.specs.declared.operator.InfixOp.TheVariants.{PartialFunctions, TotalFunctions, PartialInjections, TotalInjections}
use Rattle.bk_raw.specs.declared.operator.InfixOp.TheVariants.{PartialSurjections, TotalSurjections, Bijections, Union, Intersection}
use Rattle.bk_raw.specs.declared.operator.InfixOp.TheVariants.{DomainRestriction, RangeRestriction, DomainSubtraction, RangeSubtraction}
use Rattle.bk_raw.specs.declared.operator.InfixOp.TheVariants.{Override, Maplet, Interval, Plus, Minus, Times, Divide, Mod, Power}
use Rattle.bk_raw.specs.declared.operator.InfixOp.TheVariants.{Concatenation, Prepend, Append}
use Rattle.bk_raw.specs.declared.operator.WordOp.{WordOp}
use Rattle.bk_raw.specs.declared.operator.WordOp.TheVariants.{Not, BoolOf, Card, Min, Max, Dom, Ran, Id, Succ, Pred, Pow, Pow1, Fin, Fin1}
use Rattle.bk_raw.specs.declared.operator.WordOp.TheVariants.{Seq, Size, First, Last, Front, Tail, Rev}
use Rattle.bk_raw.specs.declared.operator.Constant.{Constant}
use Rattle.bk_raw.specs.declared.operator.Constant.TheVariants.{Bool as BoolWord, True, False, Integer, Natural, Natural1}
use Rattle.bk_raw.specs.declared.operator.Constant.TheVariants.{Int, Nat, Nat1, MaxInt, MinInt, Btrue, Bfalse}
use Rattle.bk_raw.specs.Meaning.Outcome.{Joint, union_joint, inter_joint, minus_joint, over_joint, joint_op, joins, Partial}
use Rattle.bk_raw.specs.Meaning.Outcome.{whole, single_of, pair_of, joint_of, filled, whole_of, Outcome, partial, ranging}
use Rattle.bk_raw.specs.Meaning.Outcome.{holding, Reading, silently, plainly, giving, no_type, Asked, fitting, ask, ask_set}
use Rattle.bk_raw.specs.Meaning.Outcome.{ask_relation, ask_domain, ask_predicate, unvalued, of_answer, of_one, of_both}
use Rattle.bk_raw.specs.Errors.Faults.{Fault}

-- ---- leaves
-- MININT, where int_max is MAXINT
abbrev pub int_min : ℤ → ℤ
int_min int_max = neg_ℤ int_max

-- the interval from one number to another
abbrev pub numbers_between : ℤ → ℤ → Reading
numbers_between a b = giving (binary Range (literal a) (literal b)) (set_type int_type)

-- what a constant word at a byte reads as. INTEGER, NATURAL and NATURAL1 are domains and no values; INT, NAT and
-- NAT1 are intervals, MAXINT and MININT numbers
abbrev pub constant_reading : ℤ → ℕ → Constant → Reading
constant_reading int_max at BoolWord = giving (named Booleans) (set_type bool_type)
constant_reading int_max at True = giving (truth_value true) bool_type
constant_reading int_max at False = giving (truth_value false) bool_type
constant_reading int_max at Integer = plainly (ranging (named WholeNumbers) int_type at)
constant_reading int_max at Natural = plainly (ranging (named NaturalNumbers) int_type at)
constant_reading int_max at Natural1 = plainly (ranging (named PositiveNumbers) int_type at)
constant_reading int_max at Int = numbers_between (int_min int_max) int_max
constant_reading int_max at Nat = numbers_between (pos 0) int_max
constant_reading int_max at Nat1 = numbers_between (pos 1) int_max
constant_reading int_max at MaxInt = giving (literal int_max) int_type
constant_reading int_max at MinInt = giving (literal (int_min int_max)) int_type
constant_reading int_max at Btrue = plainly (holding btrue)
constant_reading int_max at Bfalse = plainly (holding bfalse)

-- ---- operators on one part
-- an operator on one part that gives a number
abbrev pub number_made : UnOp → Formula → Outcome
number_made o f = partial (whole (unary o f) int_type)

-- succ(E) is E + 1 and pred(E) is E - 1
abbrev pub stepped : BinOp → Formula → Outcome
stepped o f = partial (whole (binary o f (literal (pos 1))) int_type)

-- POW or POW1, at a byte, of a domain: a domain over sets
abbrev pub domain_made : ℕ → UnOp → Formula × ValueType → Outcome
domain_made at o d = ranging (unary o d.0) (set_type d.1) at

-- r~ of a relation at x
abbrev pub inverse_reading : ℕ → Outcome → Reading
inverse_reading x a = of_one (λ r. partial (whole (unary InverseOf r.0) (set_type (pair_type r.2 r.1)))) (ask_relation x a)

-- a word at a byte, before a part at x. FIN is POW and FIN1 is POW1, since all sets are finite. Words of sequences have no type yet
abbrev pub word_reading : WordOp → ℕ → ℕ → Outcome → Reading
word_reading Not at x a = of_one (λ p. holding (unary Negation p)) (ask_predicate a)
word_reading BoolOf at x a = of_one (λ p. partial (whole (unary TruthOf p) bool_type)) (ask_predicate a)
word_reading Card at x a = of_one (λ s. number_made CardOf s.0) (ask_set x a)
word_reading Min at x a = of_one (number_made MinOf) (ask x a (set_type int_type))
word_reading Max at x a = of_one (number_made MaxOf) (ask x a (set_type int_type))
word_reading Dom at x a = of_one (λ r. partial (whole (unary DomainOf r.0) (set_type r.1))) (ask_relation x a)
word_reading Ran at x a = of_one (λ r. partial (whole (unary RangeOf r.0) (set_type r.2))) (ask_relation x a)
word_reading Id at x a = of_one (λ s. partial (whole (unary IdOf s.0) (set_type (pair_type s.1 s.1)))) (ask_set x a)
word_reading Succ at x a = of_one (stepped Add) (ask x a int_type)
word_reading Pred at x a = of_one (stepped Sub) (ask x a int_type)
word_reading Pow at x a = of_one (domain_made at PowerOf) (ask_domain x a)
word_reading Pow1 at x a = of_one (domain_made at Power1Of) (ask_domain x a)
word_reading Fin at x a = of_one (domain_made at PowerOf) (ask_domain x a)
word_reading Fin1 at x a = of_one (domain_made at Power1Of) (ask_domain x a)
word_reading Seq at x a = silently (no_type at)
word_reading Size at x a = silently (no_type at)
word_reading First at x a = silently (no_type at)
word_reading Last at x a = silently (no_type at)
word_reading Front at x a = silently (no_type at)
word_reading Tail at x a = silently (no_type at)
word_reading Rev at x a = silently (no_type at)

-- -a of a number at x
abbrev pub negative_reading : ℕ → Outcome → Reading
negative_reading x a = of_one (number_made Neg) (ask x a int_type)

-- ---- operators on two parts, at x and y, of a term at a byte
-- a part that has to take a type which the answer of another part tells; where that has none only a domain that is no value
-- is at fault
abbrev pub depending : {A : Type 0} → (A → ValueType) → (A → Formula → Outcome) → List Fault → Option A → ℕ → Outcome → Reading
depending t k fs (Some x) at o = record { outcome = of_answer (k x) (ask at o (t x)).answer; faults = fs ++ (ask at o (t x)).faults }
depending t k fs None at o = silently (fs ++ unvalued o)

-- the same by the other part's answer with its faults
abbrev pub dependent : {A : Type 0} → (A → ValueType) → (A → Formula → Outcome) → Asked A → ℕ → Outcome → Reading
dependent t k a at o = depending t k a.faults a.answer at o

-- two expressions by a rule; where one is none, a domain that is no value is at fault
abbrev pub on_values : (Partial → Partial → Reading) → Outcome → Outcome → Reading
on_values k (partial p) (partial q) = k p q
on_values k a b = silently (unvalued a ++ unvalued b)

-- P & Q, P or Q, P => Q and P <=> Q: two predicates
abbrev pub connected : BinOp → Outcome → Outcome → Reading
connected o a b = of_both (λ p q. holding (binary o p q)) (ask_predicate a) (ask_predicate b)

-- a predicate on two numbers
abbrev pub compared : (Formula → Formula → Formula) → ℕ → ℕ → Outcome → Outcome → Reading
compared k x y a b = of_both (λ f g. holding (k f g)) (ask x a int_type) (ask y b int_type)

-- an operator on two numbers that gives this type
abbrev pub calculated : BinOp → ValueType → ℕ → ℕ → Outcome → Outcome → Reading
calculated o t x y a b = of_both (λ f g. partial (whole (binary o f g) t)) (ask x a int_type) (ask y b int_type)

-- Two sides of one type, which the test admits, by what each gives: where the left gives the right takes, else the right gives
-- and the left takes. Where neither gives it is `neither`. No side is asked a type of its own, so the whole is at fault
abbrev pub one_type_by : (ValueType → Bool) → (Formula → Formula → ValueType → Outcome) → Reading →
    ℕ → Option (Formula × ValueType) → Option (Formula × ValueType) → Partial → Partial → Reading
one_type_by test k neither at (Some v) w p q =
    cond (test v.1) (of_one (λ g. k v.0 g v.1) (fitting at (filled q v.1))) (silently (no_type at))
one_type_by test k neither at None (Some w) p q =
    cond (test w.1) (of_one (λ f. k f w.0 w.1) (fitting at (filled p w.1))) (silently (no_type at))
one_type_by test k neither at None None p q = neither

-- the same of two expressions, in a term at a byte
abbrev pub one_type : (ValueType → Bool) → (Formula → Formula → ValueType → Outcome) → Reading → ℕ → Partial → Partial → Reading
one_type test k neither at p q = one_type_by test k neither at (whole_of p) (whole_of q) p q

-- E = F of one type
abbrev pub equal : (Formula → Formula → Formula) → ℕ → Partial → Partial → Reading
equal k at p q = one_type (λ t. true) (λ f g t. holding (k f g)) (silently (no_type at)) at p q

-- S <<: T is S : POW(T) & not(S = T)
abbrev pub strict : Formula → Formula → Formula
strict f g = binary Conjunction (binary In f (unary PowerOf g)) (unary Negation (binary Eq f g))

-- S <<: T of a set value T, whose type S takes
abbrev pub strictly : ℕ → ℕ → Outcome → Outcome → Reading
strictly x y a b = dependent (λ d. set_type d.1) (λ d e. holding (strict e d.0)) (ask_set y b) x a

-- E : D, or what is made of it: D ranges over a type that E takes
abbrev pub in_domain : (Formula → Formula → Formula) → ℕ → ℕ → Outcome → Outcome → Reading
in_domain k x y a b = dependent (λ d. d.1) (λ d e. holding (k e d.0)) (ask_domain y b) x a

-- E <: D is E : POW(D)
abbrev pub in_power : (Formula → Formula → Formula) → ℕ → ℕ → Outcome → Outcome → Reading
in_power k x y a b = dependent (λ d. set_type d.1) (λ d e. holding (k e (unary PowerOf d.0))) (ask_domain y b) x a

-- relations and functions between two domains: a domain over relations
abbrev pub arrow : BinOp → ℕ → ℕ → ℕ → Outcome → Outcome → Reading
arrow o at x y a b = of_both (λ d e. ranging (binary o d.0 e.0) (set_type (pair_type d.1 e.1)) at) (ask_domain x a) (ask_domain y b)

-- the operator on two sets of this type
abbrev pub joined : Joint → Formula → Formula → ValueType → Outcome
joined j f g t = partial (whole (binary (joint_op j) f g) t)

-- two sets of one type; where neither gives it, the whole takes types part by part
abbrev pub joint : Joint → ℕ → Partial → Partial → Reading
joint j at p q = one_type (joins j) (joined j) (plainly (partial (joint_of j p q))) at p q

-- whether it is the type of numbers
abbrev pub is_number : ValueType → Bool
is_number int_type = true
is_number _ = false

-- a - b of numbers or of sets, by the side that gives first, left before right
abbrev pub minus_by : ℕ → ℕ → ℕ → Option (Formula × ValueType) → Option (Formula × ValueType) → Partial → Partial → Reading
minus_by at x y (Some v) w p q = cond (is_number v.1)
    (of_one (λ g. partial (whole (binary Sub v.0 g) int_type)) (fitting y (filled q int_type))) (joint minus_joint at p q)
minus_by at x y None (Some w) p q = cond (is_number w.1) (silently (no_type x)) (joint minus_joint at p q)
minus_by at x y None None p q = joint minus_joint at p q

-- the same of two expressions
abbrev pub minus : ℕ → ℕ → ℕ → Partial → Partial → Reading
minus at x y p q = minus_by at x y (whole_of p) (whole_of q) p q

-- what a product is at fault for whose left side gives neither a number nor a set: the whole, where the right side is told
abbrev pub unmatched : ℕ → Outcome → List Fault
unmatched at (partial q) = no_type at
unmatched at (ranging g u there) = no_type at
unmatched at _ = []

-- what a product is at fault for whose left side is a domain that is no value, whose own byte is `there`, and whose right side
-- gives this type of no set: of numbers the left side is none, and else it is no product
abbrev pub no_number : ℕ → ℕ → ValueType → List Fault
no_number at there int_type = no_type there
no_number at there _ = no_type at

-- what a product is at fault for whose left side, at x, gives no type: the left side, which takes neither a number's type nor has
-- one of its own; the whole, where the right side gives neither a number nor a set
abbrev pub ungiven : ℕ → ℕ → Outcome → List Fault
ungiven at x (partial (whole g int_type)) = no_type x
ungiven at x (partial (whole g (set_type u))) = no_type x
ungiven at x (partial (whole g u)) = no_type at
ungiven at x (partial q) = no_type x
ungiven at x (ranging g u there) = no_type x
ungiven at x _ = []

-- a * b of numbers or of sets by the side that gives first, left before right, or of two domains. A product of a domain that is
-- no value is none either, and where a value is asked the fault is that domain's. Where a side is silent nothing is told
abbrev pub times : ℕ → ℕ → ℕ → Outcome → Outcome → Reading
times at x y (partial (whole f int_type)) b = of_one (λ g. partial (whole (binary Mul f g) int_type)) (ask y b int_type)
times at x y (partial (whole f (set_type t))) (partial (whole g (set_type u))) = giving (binary Product f g) (set_type (pair_type t u))
times at x y (partial (whole f (set_type t))) (ranging g u there) = plainly (ranging (binary Product f g) (pair_type t u) there)
times at x y (partial (whole f (set_type t))) (partial q) = silently (no_type y)
times at x y (ranging f t there) (partial (whole g (set_type u))) = plainly (ranging (binary Product f g) (pair_type t u) there)
times at x y (ranging f t there) (ranging g u other) = plainly (ranging (binary Product f g) (pair_type t u) there)
times at x y (ranging f t there) (partial (whole g u)) = silently (no_number at there u)
times at x y (ranging f t there) (partial q) = silently (no_type y)
times at x y (partial (whole f t)) b = silently (unmatched at b)
times at x y (partial p) b = silently (ungiven at x b)
times at x y a b = silently []

-- S <| r and S <<| r: a relation, and a set of its first parts
abbrev pub left_part : BinOp → ℕ → ℕ → Outcome → Outcome → Reading
left_part o x y a b =
    dependent (λ r. set_type r.1) (λ r s. partial (whole (binary o s r.0) (set_type (pair_type r.1 r.2)))) (ask_relation y b) x a

-- r |> S and r |>> S: a relation, and a set of its second parts
abbrev pub right_part : BinOp → ℕ → ℕ → Outcome → Outcome → Reading
right_part o x y a b =
    dependent (λ r. set_type r.2) (λ r s. partial (whole (binary o r.0 s) (set_type (pair_type r.1 r.2)))) (ask_relation x a) y b

-- r[S]: a relation, and a set of its first parts
abbrev pub image_reading : ℕ → ℕ → Outcome → Outcome → Reading
image_reading x y a b = dependent (λ r. set_type r.1) (λ r s. partial (whole (binary ImageOf r.0 s) (set_type r.2))) (ask_relation x a) y b

-- f(x): a relation, and one of its first parts
abbrev pub apply_reading : ℕ → ℕ → Outcome → Outcome → Reading
apply_reading x y a b = dependent (λ r. r.1) (λ r s. partial (whole (binary ApplyTo r.0 s) r.2)) (ask_relation x a) y b

-- (r ; s) of two relations, where r's second parts are of the type of s's first parts
abbrev pub composed : ℕ → List Fault → Option (Formula × ValueType × ValueType) → Option (Formula × ValueType × ValueType) → Reading
composed at fs (Some r) (Some s) =
    cond (same_type r.2 s.1) (giving (binary Comp r.0 s.0) (set_type (pair_type r.1 s.2))) (silently (no_type at))
composed at fs _ _ = silently fs

-- (r ; s), asked of both sides
abbrev pub composition_reading : ℕ → ℕ → ℕ → Outcome → Outcome → Reading
composition_reading at x y a b =
    composed at ((ask_relation x a).faults ++ (ask_relation y b).faults) (ask_relation x a).answer (ask_relation y b).answer

-- E |-> F: whole where both sides give a type
abbrev pub paired : Partial → Partial → Partial
paired (whole f t) (whole g u) = whole (binary Maps f g) (pair_type t u)
paired p q = pair_of p q

-- E |-> F of two expressions
abbrev pub pair_reading : Outcome → Outcome → Reading
pair_reading a b = on_values (λ p q. plainly (partial (paired p q))) a b

-- a /= b, a /: b and a /<: b are the negations of what they are made of
abbrev pub negated : (Formula → Formula → Formula) → Formula → Formula → Formula
negated k f g = unary Negation (k f g)

-- a > b is b < a, and a >= b is b <= a
abbrev pub turned : (Formula → Formula → Formula) → Formula → Formula → Formula
turned k f g = k g f

-- an operator between parts at x and y, in a term at a byte
abbrev pub infix_reading : InfixOp → ℕ → ℕ → ℕ → Outcome → Outcome → Reading
infix_reading Equivalent at x y a b = connected Iff a b
infix_reading Implies at x y a b = connected Imp a b
infix_reading And at x y a b = connected Conjunction a b
infix_reading Or at x y a b = connected Disjunction a b
infix_reading Equal at x y a b = on_values (equal (binary Eq) at) a b
infix_reading NotEqual at x y a b = on_values (equal (negated (binary Eq)) at) a b
infix_reading Less at x y a b = compared (binary Lt) x y a b
infix_reading AtMost at x y a b = compared (binary Le) x y a b
infix_reading Greater at x y a b = compared (turned (binary Lt)) x y a b
infix_reading AtLeast at x y a b = compared (turned (binary Le)) x y a b
infix_reading Member at x y a b = in_domain (binary In) x y a b
infix_reading NotMember at x y a b = in_domain (negated (binary In)) x y a b
infix_reading Subset at x y a b = in_power (binary In) x y a b
infix_reading NotSubset at x y a b = in_power (negated (binary In)) x y a b
infix_reading StrictSubset at x y a b = strictly x y a b
infix_reading Relations at x y a b = arrow RelationsOf at x y a b
infix_reading PartialFunctions at x y a b = arrow PartialOf at x y a b
infix_reading TotalFunctions at x y a b = arrow TotalOf at x y a b
infix_reading PartialInjections at x y a b = arrow PartialInjectionsOf at x y a b
infix_reading TotalInjections at x y a b = arrow TotalInjectionsOf at x y a b
infix_reading PartialSurjections at x y a b = arrow PartialSurjectionsOf at x y a b
infix_reading TotalSurjections at x y a b = arrow TotalSurjectionsOf at x y a b
infix_reading Bijections at x y a b = arrow BijectionsOf at x y a b
infix_reading Union at x y a b = on_values (joint union_joint at) a b
infix_reading Intersection at x y a b = on_values (joint inter_joint at) a b
infix_reading Override at x y a b = on_values (joint over_joint at) a b
infix_reading DomainRestriction at x y a b = left_part DomRes x y a b
infix_reading DomainSubtraction at x y a b = left_part DomSub x y a b
infix_reading RangeRestriction at x y a b = right_part RanRes x y a b
infix_reading RangeSubtraction at x y a b = right_part RanSub x y a b
infix_reading Maplet at x y a b = pair_reading a b
infix_reading Interval at x y a b = calculated Range (set_type int_type) x y a b
infix_reading Plus at x y a b = calculated Add int_type x y a b
infix_reading Minus at x y a b = on_values (minus at x y) a b
infix_reading Times at x y a b = times at x y a b
infix_reading Divide at x y a b = calculated Div int_type x y a b
infix_reading Mod at x y a b = calculated Remainder int_type x y a b
infix_reading Power at x y a b = calculated PowerTo int_type x y a b
infix_reading Concatenation at x y a b = silently (no_type at)
infix_reading Prepend at x y a b = silently (no_type at)
infix_reading Append at x y a b = silently (no_type at)

-- ---- {a, b, c}
-- {E}: whole where E gives a type
abbrev pub singled : Partial → Partial
singled (whole f t) = whole (unary Single f) (set_type t)
singled p = single_of p

-- {E} of an expression
abbrev pub single_reading : Outcome → Reading
single_reading (partial p) = plainly (partial (singled p))
single_reading o = silently (unvalued o)

-- {a, b, c} is ({a} \/ {b}) \/ {c}: one element more
abbrev pub extended : ℕ → Outcome → Outcome → Reading
extended at a b = on_values (λ p q. joint union_joint at p (singled q)) a b
