-- All faults of a term but those of types are told by its form.
use Rattle.std.proofs.Common.{◌≡◌, ◌⊎◌, inl, inr, ℕ, zero, suc, ◌+◌, List, [], ◌∷◌, ◌++◌, length, refl, sym, ◌∙◌, ap, subst, Bool, true, false, cond, ◌||◌, arith, append_assoc, nat_eq, ℤ}
use Rattle.std.specs.Prelude.{Option, None, Some, slice_get}
use Rattle.std.proofs.lemmas.Option.{same_Some}
use Rattle.std.specs.Str.{bytes_eq}
use Rattle.std.proofs.lemmas.Bool.Decides.{nat_tests}
use Rattle.bk_val.specs.ValueType.{ValueType, int_type, pair_type, set_type}
use Rattle.bk_form.specs.Formula.{Formula, binary}
use Rattle.bk_form.specs.Role.{same_type}
use Rattle.bk_form.specs.declared.operator.BinOp.TheVariants.{Eq, Sub, Comp}
use Rattle.bk_raw.specs.declared.operator.InfixOp.{InfixOp}
use Rattle.bk_raw.specs.declared.operator.InfixOp.TheVariants.{Equivalent, Implies, And, Or, Equal, NotEqual, Less, AtMost, Greater, AtLeast, Member, NotMember, Subset, NotSubset, StrictSubset, Relations, PartialFunctions, TotalFunctions, PartialInjections, TotalInjections, PartialSurjections, TotalSurjections, Bijections, Union, Intersection, DomainRestriction, RangeRestriction, DomainSubtraction, RangeSubtraction, Override, Maplet, Interval, Plus, Minus, Times, Divide, Mod, Power, Concatenation, Prepend, Append}
use Rattle.bk_raw.specs.declared.operator.WordOp.{WordOp}
use Rattle.bk_raw.specs.declared.operator.WordOp.TheVariants.{Not, BoolOf, Card, Min, Max, Dom, Ran, Id, Succ, Pred, Pow, Pow1, Fin, Fin1, Seq, Size, First, Last, Front, Tail, Rev}
use Rattle.bk_raw.specs.declared.operator.Constant.{Constant}
use Rattle.bk_raw.specs.declared.operator.Constant.TheVariants.{Bool as BoolWord}
use Rattle.bk_raw.specs.declared.term.RawName.{RawName}
use Rattle.bk_raw.specs.Trees.RawTree.{RawTree, raw, RawTreeNode, raw_name, raw_level_name, raw_number, raw_constant, raw_word, raw_negative, raw_infix, raw_inverse, raw_image, raw_apply, raw_composition, raw_pair, raw_empty_set, raw_extension, raw_comprehension, raw_lambda, raw_for_all, raw_exists, RawTrees, no_trees, tree_and, raw_bound_name, raw_typed_empty, raw_typed_for_all, raw_typed_exists, raw_ranged_comprehension, raw_ranged_lambda, RawRanges, no_ranges, range_and}
use Rattle.bk_raw.specs.Trees.FreeNames.{is_among, conjuncts}
use Rattle.bk_raw.specs.Trees.Additions.{HasNoAddition, NodeHasNoAddition, TreesHaveNoAddition}
use Rattle.bk_raw.specs.Meaning.Names.{Names, local, Sight, unseen, untyped_name, seen, sight, found, level_name}
use Rattle.bk_raw.specs.Meaning.Outcome.{Joint, union_joint, inter_joint, minus_joint, over_joint, joins, Partial, whole, hollow, single_of, pair_of, joint_of, filled, whole_of, Outcome, partial, ranging, holding, silent, Reading, silently, plainly, giving, no_type, fitting, ask, ask_value, ask_set, ask_relation, ask_domain, ask_predicate, unvalued, of_one}
use Rattle.bk_raw.specs.Meaning.OperatorReadings.{constant_reading, word_reading, negative_reading, inverse_reading, depending, on_values, equal, negated, one_type_by, joined, joint, is_number, minus_by, minus, times, unmatched, no_number, ungiven, composed, image_reading, apply_reading, composition_reading, paired, pair_reading, infix_reading, singled, single_reading, extended}
use Rattle.bk_raw.specs.Meaning.Binders.{Bound, bound_names, inside, has_type, untyped_faults, is_text, twice, Ranged, unranged, first_range, ranged_as, ranged_by, as_single, ranges_by, as_bound, is_used_by, is_used, is_some_name, nameless, left_over, body_of}
use Rattle.bk_raw.specs.Meaning.TermReading.{place_of, is_predicate, is_alike, part, name_of, name_reading, names_one, takes_predicate, is_connective, stricts, stricts_in, ranges_stricts, all_stricts, strict_faults, from_one, from_two, reading, node_reading, extension_reading, elements_reading, clues, premise_clues, ranges, rest, rest_in}
use Rattle.bk_raw.specs.Meaning.Speaking.{IsTold}
use Rattle.bk_raw.specs.Errors.FormFaults.{with_names, part_faults, form_faults, node_faults, each_faults, but_types, is_missing_type, is_in_sight, FormTellsFaults}
use Rattle.bk_raw.proofs.RulesFit.{none-left, none-right}
use Rattle.bk_raw.proofs.ReadingClean.{IsAnswer, ask_set-fair, ask_value-fair, reading-clean}
use Rattle.bk_raw.proofs.BoundNames.{no-name, or-cases, or-left, or-right, is_bound, names-bound, unranged-bound, clues-bound, premise-bound, ranges-bound}
use Rattle.bk_raw.proofs.ReadingKept.{raised, found-raised}
use Rattle.bk_raw.specs.Errors.Faults.{Fault, twice_named, unknown_name, not_predicate}

-- ---- faults but for those of types
append-nil : {A : Type 0} (xs : List A) → xs ++ [] ≡ xs
append-nil [] = refl
append-nil (x ∷ xs) = ap (λ ys. x ∷ ys) (append-nil xs)

cond-joined : (c : Bool) (x : Fault) (xs ys zs : List Fault) → zs ≡ xs ++ ys → cond c zs (x ∷ zs) ≡ cond c xs (x ∷ xs) ++ ys
cond-joined true x xs ys zs e = e
cond-joined false x xs ys zs e = ap (λ ws. x ∷ ws) e

but-append : (xs ys : List Fault) → but_types (xs ++ ys) ≡ but_types xs ++ but_types ys
but-append [] ys = refl
but-append (x ∷ xs) ys = cond-joined (is_missing_type x.0) x (but_types xs) (but_types ys) (but_types (xs ++ ys)) (but-append xs ys)

-- they are all of types
abbrev Eights : List Fault → Type 0
Eights fs = but_types fs ≡ []

-- none is of types
abbrev Kept : List Fault → Type 0
Kept fs = but_types fs ≡ fs

both-are : (xs ys us vs : List Fault) → but_types xs ≡ us → but_types ys ≡ vs → but_types (xs ++ ys) ≡ us ++ vs
both-are xs ys us vs h k = but-append xs ys ∙ (λ i. h i ++ k i)

eights-append : (xs ys : List Fault) → Eights xs → Eights ys → Eights (xs ++ ys)
eights-append xs ys h k = both-are xs ys [] [] h k

cond-eights : (c : Bool) (r s : Reading) → Eights r.faults → Eights s.faults → Eights (cond c r s).faults
cond-eights true r s h k = h
cond-eights false r s h k = k

-- ---- what places ask
fitting-eights : (at : ℕ) (f : Option Formula) → Eights (fitting at f).faults
fitting-eights at None = refl
fitting-eights at (Some f) = refl

ask-eights : (at : ℕ) (o : Outcome) (t : ValueType) → Eights (ask at o t).faults
ask-eights at (partial p) t = fitting-eights at (filled p t)
ask-eights at (ranging f u there) t = refl
ask-eights at (holding p) t = refl
ask-eights at silent t = refl

ask_value-eights : (at : ℕ) (o : Outcome) → Eights (ask_value at o).faults
ask_value-eights at (partial (whole f t)) = refl
ask_value-eights at (partial _) = refl
ask_value-eights at (ranging f u there) = refl
ask_value-eights at (holding p) = refl
ask_value-eights at silent = refl

ask_set-eights : (at : ℕ) (o : Outcome) → Eights (ask_set at o).faults
ask_set-eights at (partial (whole f (set_type t))) = refl
ask_set-eights at (partial _) = refl
ask_set-eights at (ranging f u there) = refl
ask_set-eights at (holding p) = refl
ask_set-eights at silent = refl

ask_relation-eights : (at : ℕ) (o : Outcome) → Eights (ask_relation at o).faults
ask_relation-eights at (partial (whole f (set_type (pair_type t u)))) = refl
ask_relation-eights at (partial _) = refl
ask_relation-eights at (ranging f u there) = refl
ask_relation-eights at (holding p) = refl
ask_relation-eights at silent = refl

ask_domain-eights : (at : ℕ) (o : Outcome) → Eights (ask_domain at o).faults
ask_domain-eights at (partial (whole f (set_type t))) = refl
ask_domain-eights at (partial _) = refl
ask_domain-eights at (ranging f u there) = refl
ask_domain-eights at (holding p) = refl
ask_domain-eights at silent = refl

ask_predicate-eights : (o : Outcome) → Eights (ask_predicate o).faults
ask_predicate-eights (holding p) = refl
ask_predicate-eights (partial p) = refl
ask_predicate-eights (ranging f t there) = refl
ask_predicate-eights silent = refl

unvalued-eights : (o : Outcome) → Eights (unvalued o)
unvalued-eights (ranging f t there) = refl
unvalued-eights (partial p) = refl
unvalued-eights (holding p) = refl
unvalued-eights silent = refl

-- ---- what operators add
depending-eights : {A : Type 0} (t : A → ValueType) (k : A → Formula → Outcome) (fs : List Fault) (x : Option A) (at : ℕ) (o : Outcome) → Eights fs → Eights (depending t k fs x at o).faults
depending-eights t k fs None at o h = eights-append fs (unvalued o) h (unvalued-eights o)
depending-eights t k fs (Some y) at o h = eights-append fs (ask at o (t y)).faults h (ask-eights at o (t y))

values-eights : (k : Partial → Partial → Reading) → ((p q : Partial) → Eights (k p q).faults) → (a b : Outcome) → Eights (on_values k a b).faults
values-eights k h (partial p) (partial q) = h p q
values-eights k h (partial p) (ranging f t there) = refl
values-eights k h (partial p) (holding f) = refl
values-eights k h (partial p) silent = refl
values-eights k h (ranging f t there) b = eights-append (no_type there) (unvalued b) refl (unvalued-eights b)
values-eights k h (holding f) b = unvalued-eights b
values-eights k h silent b = unvalued-eights b

one_type-eights : (test : ValueType → Bool) (k : Formula → Formula → ValueType → Outcome) (neither : Reading) (at : ℕ) → Eights neither.faults → (v w : Option (Formula × ValueType)) (p q : Partial) → Eights (one_type_by test k neither at v w p q).faults
one_type-eights test k neither at h (Some v) w p q = cond-eights (test v.1) (of_one (λ g. k v.0 g v.1) (fitting at (filled q v.1))) (silently (no_type at)) (fitting-eights at (filled q v.1)) refl
one_type-eights test k neither at h None (Some w) p q = cond-eights (test w.1) (of_one (λ f. k f w.0 w.1) (fitting at (filled p w.1))) (silently (no_type at)) (fitting-eights at (filled p w.1)) refl
one_type-eights test k neither at h None None p q = h

joint-eights : (j : Joint) (at : ℕ) (p q : Partial) → Eights (joint j at p q).faults
joint-eights j at p q = one_type-eights (joins j) (joined j) (plainly (partial (joint_of j p q))) at refl (whole_of p) (whole_of q) p q

equal-eights : (k : Formula → Formula → Formula) (at : ℕ) (p q : Partial) → Eights (equal k at p q).faults
equal-eights k at p q = one_type-eights (λ t. true) (λ f g t. holding (k f g)) (silently (no_type at)) at refl (whole_of p) (whole_of q) p q

minus_by-eights : (at x y : ℕ) (v w : Option (Formula × ValueType)) (p q : Partial) → Eights (minus_by at x y v w p q).faults
minus_by-eights at x y (Some v) w p q = cond-eights (is_number v.1) (of_one (λ g. partial (whole (binary Sub v.0 g) int_type)) (fitting y (filled q int_type))) (joint minus_joint at p q) (fitting-eights y (filled q int_type)) (joint-eights minus_joint at p q)
minus_by-eights at x y None (Some w) p q = cond-eights (is_number w.1) (silently (no_type x)) (joint minus_joint at p q) refl (joint-eights minus_joint at p q)
minus_by-eights at x y None None p q = joint-eights minus_joint at p q

unmatched-eights : (at : ℕ) (b : Outcome) → Eights (unmatched at b)
unmatched-eights at (partial q) = refl
unmatched-eights at (ranging g u there) = refl
unmatched-eights at (holding p) = refl
unmatched-eights at silent = refl

no_number-eights : (at there : ℕ) (u : ValueType) → Eights (no_number at there u)
no_number-eights at there int_type = refl
no_number-eights at there _ = refl

ungiven-eights : (at x : ℕ) (b : Outcome) → Eights (ungiven at x b)
ungiven-eights at x (partial (whole g int_type)) = refl
ungiven-eights at x (partial (whole g (set_type u))) = refl
ungiven-eights at x (partial (whole g _)) = refl
ungiven-eights at x (partial _) = refl
ungiven-eights at x (ranging g u there) = refl
ungiven-eights at x (holding p) = refl
ungiven-eights at x silent = refl

times-eights : (at x y : ℕ) (a b : Outcome) → Eights (times at x y a b).faults
times-eights at x y (partial (whole f int_type)) b = ask-eights y b int_type
times-eights at x y (partial (whole f (set_type t))) (partial (whole g (set_type u))) = refl
times-eights at x y (partial (whole f (set_type t))) (ranging g u there) = refl
times-eights at x y (partial (whole f (set_type t))) _ = refl
times-eights at x y (ranging f t there) (partial (whole g (set_type u))) = refl
times-eights at x y (ranging f t there) (ranging g u other) = refl
times-eights at x y (ranging f t there) (partial (whole g u)) = no_number-eights at there u
times-eights at x y (ranging f t there) _ = refl
times-eights at x y (partial (whole f t)) b = unmatched-eights at b
times-eights at x y (partial hollow) b = ungiven-eights at x b
times-eights at x y (partial (single_of p)) b = ungiven-eights at x b
times-eights at x y (partial (pair_of p q)) b = ungiven-eights at x b
times-eights at x y (partial (joint_of j p q)) b = ungiven-eights at x b
times-eights at x y (holding p) b = refl
times-eights at x y silent b = refl

composed-eights : (at : ℕ) (fs : List Fault) (r s : Option (Formula × ValueType × ValueType)) → Eights fs → Eights (composed at fs r s).faults
composed-eights at fs (Some r) (Some s) h = cond-eights (same_type r.2 s.1) (giving (binary Comp r.0 s.0) (set_type (pair_type r.1 s.2))) (silently (no_type at)) refl refl
composed-eights at fs (Some r) None h = h
composed-eights at fs None s h = h

composition-eights : (at x y : ℕ) (a b : Outcome) → Eights (composition_reading at x y a b).faults
composition-eights at x y a b =
    let fs = (ask_relation x a).faults ++ (ask_relation y b).faults in
    composed-eights at fs (ask_relation x a).answer (ask_relation y b).answer (eights-append (ask_relation x a).faults (ask_relation y b).faults (ask_relation-eights x a) (ask_relation-eights y b))

word-eights : (o : WordOp) (at x : ℕ) (a : Outcome) → Eights (word_reading o at x a).faults
word-eights Not at x a = ask_predicate-eights a
word-eights BoolOf at x a = ask_predicate-eights a
word-eights Card at x a = ask_set-eights x a
word-eights Min at x a = ask-eights x a (set_type int_type)
word-eights Max at x a = ask-eights x a (set_type int_type)
word-eights Dom at x a = ask_relation-eights x a
word-eights Ran at x a = ask_relation-eights x a
word-eights Id at x a = ask_set-eights x a
word-eights Succ at x a = ask-eights x a int_type
word-eights Pred at x a = ask-eights x a int_type
word-eights Pow at x a = ask_domain-eights x a
word-eights Pow1 at x a = ask_domain-eights x a
word-eights Fin at x a = ask_domain-eights x a
word-eights Fin1 at x a = ask_domain-eights x a
word-eights Seq at x a = refl
word-eights Size at x a = refl
word-eights First at x a = refl
word-eights Last at x a = refl
word-eights Front at x a = refl
word-eights Tail at x a = refl
word-eights Rev at x a = refl

numbers-eights : (x y : ℕ) (a b : Outcome) → Eights ((ask x a int_type).faults ++ (ask y b int_type).faults)
numbers-eights x y a b = eights-append (ask x a int_type).faults (ask y b int_type).faults (ask-eights x a int_type) (ask-eights y b int_type)

domains-eights : (x y : ℕ) (a b : Outcome) → Eights ((ask_domain x a).faults ++ (ask_domain y b).faults)
domains-eights x y a b = eights-append (ask_domain x a).faults (ask_domain y b).faults (ask_domain-eights x a) (ask_domain-eights y b)

predicates-eights : (a b : Outcome) → Eights ((ask_predicate a).faults ++ (ask_predicate b).faults)
predicates-eights a b = eights-append (ask_predicate a).faults (ask_predicate b).faults (ask_predicate-eights a) (ask_predicate-eights b)

infix-eights : (o : InfixOp) (at x y : ℕ) (a b : Outcome) → Eights (infix_reading o at x y a b).faults
infix-eights Equivalent at x y a b = predicates-eights a b
infix-eights Implies at x y a b = predicates-eights a b
infix-eights And at x y a b = predicates-eights a b
infix-eights Or at x y a b = predicates-eights a b
infix-eights Equal at x y a b = values-eights (equal (binary Eq) at) (equal-eights (binary Eq) at) a b
infix-eights NotEqual at x y a b = values-eights (equal (negated (binary Eq)) at) (equal-eights (negated (binary Eq)) at) a b
infix-eights Less at x y a b = numbers-eights x y a b
infix-eights AtMost at x y a b = numbers-eights x y a b
infix-eights Greater at x y a b = numbers-eights x y a b
infix-eights AtLeast at x y a b = numbers-eights x y a b
infix-eights Member at x y a b = depending-eights _ _ (ask_domain y b).faults (ask_domain y b).answer x a (ask_domain-eights y b)
infix-eights NotMember at x y a b = depending-eights _ _ (ask_domain y b).faults (ask_domain y b).answer x a (ask_domain-eights y b)
infix-eights Subset at x y a b = depending-eights _ _ (ask_domain y b).faults (ask_domain y b).answer x a (ask_domain-eights y b)
infix-eights NotSubset at x y a b = depending-eights _ _ (ask_domain y b).faults (ask_domain y b).answer x a (ask_domain-eights y b)
infix-eights StrictSubset at x y a b = depending-eights _ _ (ask_set y b).faults (ask_set y b).answer x a (ask_set-eights y b)
infix-eights Relations at x y a b = domains-eights x y a b
infix-eights PartialFunctions at x y a b = domains-eights x y a b
infix-eights TotalFunctions at x y a b = domains-eights x y a b
infix-eights PartialInjections at x y a b = domains-eights x y a b
infix-eights TotalInjections at x y a b = domains-eights x y a b
infix-eights PartialSurjections at x y a b = domains-eights x y a b
infix-eights TotalSurjections at x y a b = domains-eights x y a b
infix-eights Bijections at x y a b = domains-eights x y a b
infix-eights Union at x y a b = values-eights (joint union_joint at) (joint-eights union_joint at) a b
infix-eights Intersection at x y a b = values-eights (joint inter_joint at) (joint-eights inter_joint at) a b
infix-eights Override at x y a b = values-eights (joint over_joint at) (joint-eights over_joint at) a b
infix-eights DomainRestriction at x y a b = depending-eights _ _ (ask_relation y b).faults (ask_relation y b).answer x a (ask_relation-eights y b)
infix-eights DomainSubtraction at x y a b = depending-eights _ _ (ask_relation y b).faults (ask_relation y b).answer x a (ask_relation-eights y b)
infix-eights RangeRestriction at x y a b = depending-eights _ _ (ask_relation x a).faults (ask_relation x a).answer y b (ask_relation-eights x a)
infix-eights RangeSubtraction at x y a b = depending-eights _ _ (ask_relation x a).faults (ask_relation x a).answer y b (ask_relation-eights x a)
infix-eights Maplet at x y a b = values-eights (λ p q. plainly (partial (paired p q))) (λ p q. refl) a b
infix-eights Interval at x y a b = numbers-eights x y a b
infix-eights Plus at x y a b = numbers-eights x y a b
infix-eights Minus at x y a b = values-eights (minus at x y) (λ p q. minus_by-eights at x y (whole_of p) (whole_of q) p q) a b
infix-eights Times at x y a b = times-eights at x y a b
infix-eights Divide at x y a b = numbers-eights x y a b
infix-eights Mod at x y a b = numbers-eights x y a b
infix-eights Power at x y a b = numbers-eights x y a b
infix-eights Concatenation at x y a b = refl
infix-eights Prepend at x y a b = refl
infix-eights Append at x y a b = refl

image-eights : (x y : ℕ) (a b : Outcome) → Eights (image_reading x y a b).faults
image-eights x y a b = depending-eights _ _ (ask_relation x a).faults (ask_relation x a).answer y b (ask_relation-eights x a)

apply-eights : (x y : ℕ) (a b : Outcome) → Eights (apply_reading x y a b).faults
apply-eights x y a b = depending-eights _ _ (ask_relation x a).faults (ask_relation x a).answer y b (ask_relation-eights x a)

single-eights : (a : Outcome) → Eights (single_reading a).faults
single-eights (partial p) = refl
single-eights (ranging f t there) = refl
single-eights (holding p) = refl
single-eights silent = refl

extended-eights : (at : ℕ) (a b : Outcome) → Eights (extended at a b).faults
extended-eights at a b = values-eights (λ p q. joint union_joint at p (singled q)) (λ p q. joint-eights union_joint at p (singled q)) a b

constant-eights : (max : ℤ) (at : ℕ) (c : Constant) → (constant_reading max at c).faults ≡ []
constant-eights max at BoolWord = refl
constant-eights max at _ = refl

-- ---- faults of names, and of <<:
keep-append : (xs ys : List Fault) → Kept xs → Kept ys → Kept (xs ++ ys)
keep-append xs ys h k = both-are xs ys xs ys h k

six-kept : (c : Bool) (at : ℕ) → Kept (cond c (twice_named at ∷ []) [])
six-kept true at = refl
six-kept false at = refl

twice-kept : (before : List (List ℕ)) (xs : List RawName) → Kept (twice before xs)
twice-kept before [] = refl
twice-kept before (x ∷ xs) = keep-append (cond (is_text before x.text) (twice_named x.at ∷ []) []) (twice (x.text ∷ before) xs) (six-kept (is_text before x.text) x.at) (twice-kept (x.text ∷ before) xs)

eight-gone : (c : Bool) (at : ℕ) → Eights (cond c [] (no_type at))
eight-gone true at = refl
eight-gone false at = refl

untyped-eights : (bs : List Bound) → Eights (untyped_faults bs)
untyped-eights [] = refl
untyped-eights (b ∷ bs) = eights-append (cond (has_type b.of_type) [] (no_type b.at)) (untyped_faults bs) (eight-gone (has_type b.of_type) b.at) (untyped-eights bs)

nameless-eights : (at : ℕ) (rs : List Ranged) → Eights (nameless at rs)
nameless-eights at rs = eight-gone (is_some_name rs) at

mutual
  stricts-kept : (t : RawTree) → Kept (stricts t)
  stricts-kept (raw at node) = node-kept node at

  node-kept : (node : RawTreeNode) (at : ℕ) → Kept (stricts_in at node)
  node-kept (raw_word o a) at = stricts-kept a
  node-kept (raw_negative a) at = stricts-kept a
  node-kept (raw_infix StrictSubset a b) at = keep-append (not_predicate at ∷ stricts a) (stricts b) (ap (λ fs. not_predicate at ∷ fs) (stricts-kept a)) (stricts-kept b)
  node-kept (raw_infix _ a b) at = keep-append (stricts a) (stricts b) (stricts-kept a) (stricts-kept b)
  node-kept (raw_inverse a) at = stricts-kept a
  node-kept (raw_image a b) at = keep-append (stricts a) (stricts b) (stricts-kept a) (stricts-kept b)
  node-kept (raw_apply a b) at = keep-append (stricts a) (stricts b) (stricts-kept a) (stricts-kept b)
  node-kept (raw_composition a b) at = keep-append (stricts a) (stricts b) (stricts-kept a) (stricts-kept b)
  node-kept (raw_pair a b) at = keep-append (stricts a) (stricts b) (stricts-kept a) (stricts-kept b)
  node-kept (raw_extension ts) at = all-kept ts
  node-kept (raw_comprehension xs p) at = stricts-kept p
  node-kept (raw_lambda xs p e) at = keep-append (stricts p) (stricts e) (stricts-kept p) (stricts-kept e)
  node-kept (raw_for_all xs p) at = stricts-kept p
  node-kept (raw_exists xs p) at = stricts-kept p
  node-kept (raw_typed_for_all bs p) at = stricts-kept p
  node-kept (raw_typed_exists bs p) at = stricts-kept p
  node-kept (raw_ranged_comprehension rs p) at = keep-append (ranges_stricts rs) (stricts p) (ranges-kept rs) (stricts-kept p)
  node-kept (raw_ranged_lambda rs p e) at = keep-append (ranges_stricts rs) (stricts p ++ stricts e) (ranges-kept rs) (keep-append (stricts p) (stricts e) (stricts-kept p) (stricts-kept e))
  node-kept _ at = refl

  ranges-kept : (rs : RawRanges) → Kept (ranges_stricts rs)
  ranges-kept no_ranges = refl
  ranges-kept (range_and at n d rs) = keep-append (stricts d) (ranges_stricts rs) (stricts-kept d) (ranges-kept rs)

  all-kept : (ts : RawTrees) → Kept (all_stricts ts)
  all-kept no_trees = refl
  all-kept (tree_and t ts) = keep-append (stricts t) (all_stricts ts) (stricts-kept t) (all-kept ts)

strict-kept : (o : InfixOp) (a b : RawTree) → Kept (strict_faults o a b)
strict-kept StrictSubset a b = keep-append (stricts a) (stricts b) (stricts-kept a) (stricts-kept b)
strict-kept _ a b = refl

-- ---- more names in sight, no more faults
abbrev IsWider : (List ℕ → Bool) → (List ℕ → Bool) → Type 0
IsWider v w = (x : List ℕ) → v x ≡ true → w x ≡ true

wider-inside : (xs : List RawName) (v w : List ℕ → Bool) → IsWider v w → IsWider (with_names xs v) (with_names xs w)
wider-inside xs v w h x e = elim (or-cases (is_among x xs) (v x) e) [ inl k ↦ or-left (is_among x xs) (w x) k | inr k ↦ or-right (is_among x xs) (w x) (h x k) ]

name-none : (c d : Bool) (f : Fault) → (c ≡ true → d ≡ true) → cond c [] (f ∷ []) ≡ [] → cond d [] (f ∷ []) ≡ []
name-none true d f h e = ap (λ b. cond b [] (f ∷ [])) (h refl)
name-none false d f h e = absurd (cc)

part-none : (c : Bool) (f : Fault) (fs gs : List Fault) → (fs ≡ [] → gs ≡ []) → cond c fs (f ∷ fs) ≡ [] → cond c gs (f ∷ gs) ≡ []
part-none true f fs gs h e = h e
part-none false f fs gs h e = absurd (cc)

append-none : {A : Type 0} (xs ys us vs : List A) → (xs ≡ [] → us ≡ []) → (ys ≡ [] → vs ≡ []) → xs ++ ys ≡ [] → us ++ vs ≡ []
append-none xs ys us vs h k e = (λ i. h (none-left xs ys e) i ++ k (none-right xs ys e) i)

same-none : (fs : List Fault) → fs ≡ [] → fs ≡ []
same-none fs e = e

mutual
  wider-none : (t : RawTree) (v w : List ℕ → Bool) → IsWider v w → form_faults v t ≡ [] → form_faults w t ≡ []
  wider-none (raw at node) v w h e = wider-node node at v w h e

  wider-node : (node : RawTreeNode) (at : ℕ) (v w : List ℕ → Bool) → IsWider v w → node_faults v at node ≡ [] → node_faults w at node ≡ []
  wider-node (raw_name x) at v w h e = name-none (v x) (w x) (unknown_name at) (h x) e
  wider-node (raw_level_name x n) at v w h e = name-none (v (level_name x n)) (w (level_name x n)) (unknown_name at) (h (level_name x n)) e
  wider-node (raw_word o a) at v w h e = part-none (is_alike (takes_predicate o) (is_predicate a)) (not_predicate (place_of a)) (form_faults v a) (form_faults w a) (wider-none a v w h) e
  wider-node (raw_negative a) at v w h e = part-none (is_alike false (is_predicate a)) (not_predicate (place_of a)) (form_faults v a) (form_faults w a) (wider-none a v w h) e
  wider-node (raw_infix o a b) at v w h e =
      append-none (strict_faults o a b) (part_faults (is_connective o) a (form_faults v a) ++ part_faults (is_connective o) b (form_faults v b)) (strict_faults o a b) (part_faults (is_connective o) a (form_faults w a) ++ part_faults (is_connective o) b (form_faults w b)) (same-none (strict_faults o a b))
      (append-none (part_faults (is_connective o) a (form_faults v a)) (part_faults (is_connective o) b (form_faults v b)) (part_faults (is_connective o) a (form_faults w a)) (part_faults (is_connective o) b (form_faults w b))
      (part-none (is_alike (is_connective o) (is_predicate a)) (not_predicate (place_of a)) (form_faults v a) (form_faults w a) (wider-none a v w h))
      (part-none (is_alike (is_connective o) (is_predicate b)) (not_predicate (place_of b)) (form_faults v b) (form_faults w b) (wider-none b v w h))) e
  wider-node (raw_inverse a) at v w h e = part-none (is_alike false (is_predicate a)) (not_predicate (place_of a)) (form_faults v a) (form_faults w a) (wider-none a v w h) e
  wider-node (raw_image a b) at v w h e = append-none (part_faults false a (form_faults v a)) (part_faults false b (form_faults v b)) (part_faults false a (form_faults w a)) (part_faults false b (form_faults w b)) (part-none (is_alike false (is_predicate a)) (not_predicate (place_of a)) (form_faults v a) (form_faults w a) (wider-none a v w h)) (part-none (is_alike false (is_predicate b)) (not_predicate (place_of b)) (form_faults v b) (form_faults w b) (wider-none b v w h)) e
  wider-node (raw_apply a b) at v w h e = append-none (part_faults false a (form_faults v a)) (part_faults false b (form_faults v b)) (part_faults false a (form_faults w a)) (part_faults false b (form_faults w b)) (part-none (is_alike false (is_predicate a)) (not_predicate (place_of a)) (form_faults v a) (form_faults w a) (wider-none a v w h)) (part-none (is_alike false (is_predicate b)) (not_predicate (place_of b)) (form_faults v b) (form_faults w b) (wider-none b v w h)) e
  wider-node (raw_composition a b) at v w h e = append-none (part_faults false a (form_faults v a)) (part_faults false b (form_faults v b)) (part_faults false a (form_faults w a)) (part_faults false b (form_faults w b)) (part-none (is_alike false (is_predicate a)) (not_predicate (place_of a)) (form_faults v a) (form_faults w a) (wider-none a v w h)) (part-none (is_alike false (is_predicate b)) (not_predicate (place_of b)) (form_faults v b) (form_faults w b) (wider-none b v w h)) e
  wider-node (raw_pair a b) at v w h e = append-none (part_faults false a (form_faults v a)) (part_faults false b (form_faults v b)) (part_faults false a (form_faults w a)) (part_faults false b (form_faults w b)) (part-none (is_alike false (is_predicate a)) (not_predicate (place_of a)) (form_faults v a) (form_faults w a) (wider-none a v w h)) (part-none (is_alike false (is_predicate b)) (not_predicate (place_of b)) (form_faults v b) (form_faults w b) (wider-none b v w h)) e
  wider-node (raw_extension ts) at v w h e = wider-each ts v w h e
  wider-node (raw_comprehension xs p) at v w h e = append-none (twice [] xs) (part_faults true p (form_faults (with_names xs v) p)) (twice [] xs) (part_faults true p (form_faults (with_names xs w) p)) (same-none (twice [] xs)) (part-none (is_alike true (is_predicate p)) (not_predicate (place_of p)) (form_faults (with_names xs v) p) (form_faults (with_names xs w) p) (wider-none p (with_names xs v) (with_names xs w) (wider-inside xs v w h))) e
  wider-node (raw_lambda xs p s) at v w h e =
      append-none (twice [] xs) (part_faults true p (form_faults (with_names xs v) p) ++ part_faults false s (form_faults (with_names xs v) s)) (twice [] xs) (part_faults true p (form_faults (with_names xs w) p) ++ part_faults false s (form_faults (with_names xs w) s)) (same-none (twice [] xs))
      (append-none (part_faults true p (form_faults (with_names xs v) p)) (part_faults false s (form_faults (with_names xs v) s)) (part_faults true p (form_faults (with_names xs w) p)) (part_faults false s (form_faults (with_names xs w) s))
      (part-none (is_alike true (is_predicate p)) (not_predicate (place_of p)) (form_faults (with_names xs v) p) (form_faults (with_names xs w) p) (wider-none p (with_names xs v) (with_names xs w) (wider-inside xs v w h)))
      (part-none (is_alike false (is_predicate s)) (not_predicate (place_of s)) (form_faults (with_names xs v) s) (form_faults (with_names xs w) s) (wider-none s (with_names xs v) (with_names xs w) (wider-inside xs v w h)))) e
  wider-node (raw_for_all xs p) at v w h e = append-none (twice [] xs) (part_faults true p (form_faults (with_names xs v) p)) (twice [] xs) (part_faults true p (form_faults (with_names xs w) p)) (same-none (twice [] xs)) (part-none (is_alike true (is_predicate p)) (not_predicate (place_of p)) (form_faults (with_names xs v) p) (form_faults (with_names xs w) p) (wider-none p (with_names xs v) (with_names xs w) (wider-inside xs v w h))) e
  wider-node (raw_exists xs p) at v w h e = append-none (twice [] xs) (part_faults true p (form_faults (with_names xs v) p)) (twice [] xs) (part_faults true p (form_faults (with_names xs w) p)) (same-none (twice [] xs)) (part-none (is_alike true (is_predicate p)) (not_predicate (place_of p)) (form_faults (with_names xs v) p) (form_faults (with_names xs w) p) (wider-none p (with_names xs v) (with_names xs w) (wider-inside xs v w h))) e
  wider-node _ at v w h e = refl

  wider-each : (ts : RawTrees) (v w : List ℕ → Bool) → IsWider v w → each_faults v ts ≡ [] → each_faults w ts ≡ []
  wider-each no_trees v w h e = refl
  wider-each (tree_and t ts) v w h e = append-none (part_faults false t (form_faults v t)) (each_faults v ts) (part_faults false t (form_faults w t)) (each_faults w ts) (part-none (is_alike false (is_predicate t)) (not_predicate (place_of t)) (form_faults v t) (form_faults w t) (wider-none t v w h)) (wider-each ts v w h) e

-- ---- names in sight
raised-visible : (s : Sight) → is_in_sight (raised s) ≡ is_in_sight s
raised-visible unseen = refl
raised-visible untyped_name = refl
raised-visible (seen f t) = refl

found-visible : (i : ℕ) (ns : Names) (x : List ℕ) → is_in_sight (found (suc i) ns x) ≡ is_in_sight (found i ns x)
found-visible i ns x = ap is_in_sight (found-raised i ns x) ∙ raised-visible (found i ns x)

cond-visible : (c : Bool) (s t : Sight) → is_in_sight s ≡ true → is_in_sight (cond c s t) ≡ (c || is_in_sight t)
cond-visible true s t h = h
cond-visible false s t h = refl

local-visible : (o : Option ValueType) → is_in_sight (sight 0 (local o)) ≡ true
local-visible None = refl
local-visible (Some t) = refl

or-swap : (a b c : Bool) → (b || (a || c)) ≡ ((a || b) || c)
or-swap true true c = refl
or-swap true false c = refl
or-swap false b c = refl

inside-visible : (bs : List Bound) (ns : Names) (x : List ℕ) → is_in_sight (found 0 (inside bs ns) x) ≡ (is_bound x bs || is_in_sight (found 0 ns x))
inside-visible [] ns x = refl
inside-visible (b ∷ bs) ns x =
    inside-visible bs (record { text = b.text; meaning = local b.of_type } ∷ ns) x
    ∙ ap (λ c. is_bound x bs || c) (cond-visible (bytes_eq b.text x) (sight 0 (local b.of_type)) (found 1 ns x) (local-visible b.of_type) ∙ ap (λ c. bytes_eq b.text x || c) (found-visible 0 ns x))
    ∙ or-swap (bytes_eq b.text x) (is_bound x bs) (is_in_sight (found 0 ns x))

-- the test tells which names are in sight
abbrev Visible : Names → (List ℕ → Bool) → Type 0
Visible ns v = (x : List ℕ) → is_in_sight (found 0 ns x) ≡ v x

within : (bs : List Bound) (xs : List RawName) (ns : Names) (v : List ℕ → Bool) → ((x : List ℕ) → is_bound x bs ≡ is_among x xs) → Visible ns v → Visible (inside bs ns) (with_names xs v)
within bs xs ns v h k x = inside-visible bs ns x ∙ (λ i. h x i || k x i)

sight-form : (at : ℕ) (s : Sight) → but_types (name_reading at s).faults ≡ cond (is_in_sight s) [] (unknown_name at ∷ [])
sight-form at unseen = refl
sight-form at untyped_name = refl
sight-form at (seen f t) = refl

-- ---- parts
kind-form : (c : Bool) (p : ℕ) (r : Reading) (fs : List Fault) → but_types r.faults ≡ fs → but_types (cond c r (silently (not_predicate p ∷ r.faults))).faults ≡ cond c fs (not_predicate p ∷ fs)
kind-form true p r fs h = h
kind-form false p r fs h = ap (λ gs. not_predicate p ∷ gs) h

part-form : (wanted : Bool) (t : RawTree) (r : Reading) (fs : List Fault) → but_types r.faults ≡ fs → but_types (part wanted t r).faults ≡ part_faults wanted t fs
part-form wanted t r fs h = kind-form (is_alike wanted (is_predicate t)) (place_of t) r fs h

one-form : (k : Outcome → Reading) (a : Reading) (fs : List Fault) → but_types a.faults ≡ fs → Eights (k a.outcome).faults → but_types (from_one k a).faults ≡ fs
one-form k a fs h e = both-are a.faults (k a.outcome).faults fs [] h e ∙ append-nil fs

two-form : (k : Outcome → Outcome → Reading) (a b : Reading) (fs gs : List Fault) → but_types a.faults ≡ fs → but_types b.faults ≡ gs → Eights (k a.outcome b.outcome).faults → but_types (from_two k a b).faults ≡ fs ++ gs
two-form k a b fs gs h g e = both-are (a.faults ++ b.faults) (k a.outcome b.outcome).faults (fs ++ gs) [] (both-are a.faults b.faults fs gs h g) e ∙ append-nil (fs ++ gs)

bound-form : (xs : List RawName) (bs : List Bound) (body : Reading) (gs : List Fault) → but_types body.faults ≡ gs → but_types (twice [] xs ++ (untyped_faults bs ++ body.faults)) ≡ twice [] xs ++ gs
bound-form xs bs body gs h = both-are (twice [] xs) (untyped_faults bs ++ body.faults) (twice [] xs) gs (twice-kept [] xs) (both-are (untyped_faults bs) body.faults [] gs (untyped-eights bs) h)

ranged-form : (at : ℕ) (xs : List RawName) (rs : List Ranged) (rest : List Fault) (gs : List Fault) → but_types rest ≡ gs → but_types (twice [] xs ++ (nameless at rs ++ (untyped_faults (as_bound rs) ++ rest))) ≡ twice [] xs ++ gs
ranged-form at xs rs rest gs h =
    let us = untyped_faults (as_bound rs) in
    both-are (twice [] xs) (nameless at rs ++ (us ++ rest)) (twice [] xs) gs (twice-kept [] xs) (both-are (nameless at rs) (us ++ rest) [] gs (nameless-eights at rs) (both-are us rest [] gs (untyped-eights (as_bound rs)) h))

-- ---- conjuncts
abbrev before_faults : Option Reading → List Fault
before_faults None = []
before_faults (Some r) = r.faults

body-faults : (b : Option Reading) → (body_of b).faults ≡ before_faults b
body-faults None = refl
body-faults (Some r) = refl

left-form : (c : Bool) (before : Option Reading) (r : Reading) (fs gs : List Fault) → but_types (before_faults before) ≡ fs → but_types r.faults ≡ gs → (c ≡ true → gs ≡ []) → but_types (before_faults (left_over c before r)) ≡ fs ++ gs
left-form true before r fs gs h k n = h ∙ sym (append-nil fs) ∙ ap (λ xs. fs ++ xs) (sym (n refl))
left-form false None r fs gs h k n = k ∙ ap (λ xs. xs ++ gs) h
left-form false (Some s) r fs gs h k n = both-are s.faults r.faults fs gs h k

get-left : (xs ys : List RawTree) (m : ℕ) (c : RawTree) → slice_get xs m ≡ Some c → slice_get (xs ++ ys) m ≡ Some c
get-left [] ys zero c h = absurd (cc)
get-left [] ys (suc m) c h = absurd (cc)
get-left (x ∷ xs) ys zero c h = h
get-left (x ∷ xs) ys (suc m) c h = get-left xs ys m c h

get-right : (xs ys : List RawTree) (m : ℕ) → slice_get (xs ++ ys) (length xs + m) ≡ slice_get ys m
get-right [] ys m = let e : 0 + m ≡ m = omega arith in ap (slice_get ys) e
get-right (x ∷ xs) ys m = let e : suc (length xs) + m ≡ suc (length xs + m) = omega arith in ap (slice_get (x ∷ (xs ++ ys))) e ∙ get-right xs ys m

pub same-number : (i j : ℕ) → nat_eq i j ≡ true → i ≡ j
same-number i j h = grind (arith, nat_tests)

-- the conjunct has no fault by its form
abbrev IsCleanConjunct : (List ℕ → Bool) → RawTree → Type 0
IsCleanConjunct v c = part_faults true c (form_faults v c) ≡ []

-- those that gave a range, the first of the list being the i-th, have none
abbrev AreUsedClean : (List ℕ → Bool) → List RawTree → ℕ → List Ranged → Type 0
AreUsedClean v ts i rs = (m : ℕ) (c : RawTree) → slice_get ts m ≡ Some c → is_used (i + m) rs ≡ true → IsCleanConjunct v c

-- the j-th gave a range before, or it is one of these, and clean
abbrev IsUsedFrom : (List ℕ → Bool) → List RawTree → ℕ → List Ranged → ℕ → Type 0
IsUsedFrom v ts i rs j = (is_used j rs ≡ true) ⊎ ((m : ℕ) × (c : RawTree) × (slice_get ts m ≡ Some c) × (i + m ≡ j) × IsCleanConjunct v c)

first-used : (o : Option (Formula × ValueType × ℕ)) (r : Formula × ValueType × ℕ) (j : ℕ) → is_used_by j (first_range o r) ≡ true → (is_used_by j o ≡ true) ⊎ (nat_eq r.2 j ≡ true)
first-used None r j h = inr h
first-used (Some s) r j h = inl h

-- by whether the first name has the text
used-first : (text : List ℕ) (r : Formula × ValueType × ℕ) (b : Ranged) (bs : List Ranged) (j : ℕ) → (is_used j (ranged_as text r bs) ≡ true → (is_used j bs ≡ true) ⊎ ((nat_eq r.2 j ≡ true) × (is_bound text (as_bound bs) ≡ true))) → (c : Bool) → bytes_eq b.text text ≡ c → is_used j (cond c (record { text = b.text; at = b.at; range = first_range b.range r } ∷ bs) (b ∷ ranged_as text r bs)) ≡ true → (is_used j (b ∷ bs) ≡ true) ⊎ ((nat_eq r.2 j ≡ true) × (is_bound text (as_bound (b ∷ bs)) ≡ true))
used-first text r b bs j later true e k = elim (or-cases (is_used_by j (first_range b.range r)) (is_used j bs) k) [
  | inl l ↦ (elim (first-used b.range r j l) [ inl m ↦ inl (or-left (is_used_by j b.range) (is_used j bs) m) | inr m ↦ inr (m, or-left (bytes_eq b.text text) (is_bound text (as_bound bs)) e) ])
  | inr l ↦ inl (or-right (is_used_by j b.range) (is_used j bs) l)
]
used-first text r b bs j later false e k = elim (or-cases (is_used_by j b.range) (is_used j (ranged_as text r bs)) k) [
  | inl l ↦ inl (or-left (is_used_by j b.range) (is_used j bs) l)
  | inr l ↦ (elim (later l) [ inl m ↦ inl (or-right (is_used_by j b.range) (is_used j bs) m) | inr m ↦ inr (m.0, or-right (bytes_eq b.text text) (is_bound text (as_bound bs)) m.1) ])
]

pub used-as : (text : List ℕ) (r : Formula × ValueType × ℕ) (rs : List Ranged) (j : ℕ) → is_used j (ranged_as text r rs) ≡ true → (is_used j rs ≡ true) ⊎ ((nat_eq r.2 j ≡ true) × (is_bound text (as_bound rs) ≡ true))
used-as text r [] j h = no-name h
used-as text r (b ∷ bs) j h = used-first text r b bs j (λ k. used-as text r bs j k) (bytes_eq b.text text) refl h

used-by : (text : List ℕ) (d : Option (Formula × ValueType)) (i : ℕ) (rs : List Ranged) (j : ℕ) → is_used j (ranged_by text d i rs) ≡ true → (is_used j rs ≡ true) ⊎ ((i ≡ j) × (is_bound text (as_bound rs) ≡ true) × IsAnswer d)
used-by text None i rs j h = inl h
used-by text (Some d) i rs j h = elim (used-as text (d.0, d.1, i) rs j h) [ inl k ↦ inl k | inr k ↦ inr (same-number i j k.0, k.1, tt) ]

unused : (xs : List RawName) (j : ℕ) → is_used j (unranged xs) ≡ false
unused [] j = refl
unused (x ∷ xs) j = unused xs j

both-kept : (i : ℕ) (rs : List Ranged) (y : Option (List ℕ)) (both : List Ranged) (c : Bool) (d : Outcome) → ranges_by And i rs y both c d ≡ both
both-kept i rs y both true d = refl
both-kept i rs y both false d = refl

single-answer : (d : Option (Formula × ValueType)) → IsAnswer (as_single d) → IsAnswer d
single-answer None h = h
single-answer (Some d) h = tt

-- what is told is of the right kind
kind-told : (c : Bool) (p : ℕ) (r : Reading) → IsTold (cond c r (silently (not_predicate p ∷ r.faults))).outcome → (c ≡ true) × IsTold r.outcome
kind-told true p r h = (refl, h)
kind-told false p r h = absurd h

name-clean : (a : RawTree) (x : List ℕ) (w : List ℕ → Bool) → name_of a ≡ Some x → w x ≡ true → part_faults false a (form_faults w a) ≡ []
name-clean (raw at (raw_name y)) x w e h = ap (λ b. cond b [] (unknown_name at ∷ [])) (ap w (same_Some y x e) ∙ h)
name-clean (raw at _) x w e h = absurd (cc)

-- x o D, where x is bound and D has no fault
conjunct-clean : (a d : RawTree) (x : List ℕ) (w : List ℕ → Bool) → name_of a ≡ Some x → w x ≡ true → is_alike false (is_predicate d) ≡ true → form_faults w d ≡ [] → part_faults false a (form_faults w a) ++ part_faults false d (form_faults w d) ≡ []
conjunct-clean a d x w n h k e =
    let first = name-clean a x w n h in
    let second : part_faults false d (form_faults w d) ≡ [] = (λ i. cond (k i) (e i) (not_predicate (place_of d) ∷ e i)) in
    (λ i. first i ++ second i)

-- the conjunct x o D is clean where D is told outside of the binder
given-clean : (a d : RawTree) (all : List RawName) (rs : List Ranged) (v : List ℕ → Bool) (r : Reading) (x : List ℕ) → but_types r.faults ≡ form_faults v d → (IsTold r.outcome → r.faults ≡ []) → ((z : List ℕ) → is_bound z (as_bound rs) ≡ is_among z all) → name_of a ≡ Some x → is_bound x (as_bound rs) ≡ true → IsTold (part false d r).outcome → part_faults false a (form_faults (with_names all v) a) ++ part_faults false d (form_faults (with_names all v) d) ≡ []
given-clean a d all rs v r x h clean b n k told =
    let t = kind-told (is_alike false (is_predicate d)) (place_of d) r told in
    let e : form_faults v d ≡ [] = sym h ∙ ap but_types (clean t.1) in
    conjunct-clean a d x (with_names all v) n (or-left (is_among x all) (v x) (sym (b x) ∙ k)) t.0 (wider-none d v (with_names all v) (λ z m. or-right (is_among z all) (v z) m) e)

member-used : (at : ℕ) (a d : RawTree) (all : List RawName) (i : ℕ) (rs both : List Ranged) (v : List ℕ → Bool) (r : Reading) (j : ℕ) → but_types r.faults ≡ form_faults v d → (IsTold r.outcome → r.faults ≡ []) → ((z : List ℕ) → is_bound z (as_bound rs) ≡ is_among z all) → (y : Option (List ℕ)) (c : Bool) → name_of a ≡ y → is_used j (ranges_by Member i rs y both c (part false d r).outcome) ≡ true → IsUsedFrom (with_names all v) (raw at (raw_infix Member a d) ∷ []) i rs j
member-used at a d all i rs both v r j h clean b None true e k = inl k
member-used at a d all i rs both v r j h clean b None false e k = inl k
member-used at a d all i rs both v r j h clean b (Some x) true e k = inl k
member-used at a d all i rs both v r j h clean b (Some x) false e k =
    let same : i + 0 ≡ i = omega arith in
    elim (used-by x (ask_set 0 (part false d r).outcome).answer i rs j k) [
      | inl l ↦ inl l
      | inr l ↦ inr (0, raw at (raw_infix Member a d), refl, same ∙ l.0, given-clean a d all rs v r x h clean b e l.1 (ask_set-fair 0 (part false d r).outcome l.2).1)
    ]

equal-used : (at : ℕ) (a d : RawTree) (all : List RawName) (i : ℕ) (rs both : List Ranged) (v : List ℕ → Bool) (r : Reading) (j : ℕ) → but_types r.faults ≡ form_faults v d → (IsTold r.outcome → r.faults ≡ []) → ((z : List ℕ) → is_bound z (as_bound rs) ≡ is_among z all) → (y : Option (List ℕ)) (c : Bool) → name_of a ≡ y → is_used j (ranges_by Equal i rs y both c (part false d r).outcome) ≡ true → IsUsedFrom (with_names all v) (raw at (raw_infix Equal a d) ∷ []) i rs j
equal-used at a d all i rs both v r j h clean b None true e k = inl k
equal-used at a d all i rs both v r j h clean b None false e k = inl k
equal-used at a d all i rs both v r j h clean b (Some x) true e k = inl k
equal-used at a d all i rs both v r j h clean b (Some x) false e k =
    let same : i + 0 ≡ i = omega arith in
    elim (used-by x (as_single (ask_value 0 (part false d r).outcome).answer) i rs j k) [
      | inl l ↦ inl l
      | inr l ↦ inr (0, raw at (raw_infix Equal a d), refl, same ∙ l.0, given-clean a d all rs v r x h clean b e l.1 (ask_value-fair 0 (part false d r).outcome (single-answer (ask_value 0 (part false d r).outcome).answer l.2)).1)
    ]

-- the conjuncts that give the ranges of a comprehension have no fault by their form
used-clean : (p : RawTree) (xs : List RawName) (rs : List Ranged) (w : List ℕ → Bool) → ((j : ℕ) → is_used j rs ≡ true → IsUsedFrom w (conjuncts p) 0 (unranged xs) j) → AreUsedClean w (conjuncts p) 0 rs
used-clean p xs rs w used m c g u = elim (used (0 + m) u) [
  | inl k ↦ no-name (sym (unused xs (0 + m)) ∙ k)
  | inr k ↦ (let same : k.0 ≡ m = omega (arith, k.3) in subst (IsCleanConjunct w) (same_Some k.1 c (sym k.2 ∙ ap (slice_get (conjuncts p)) same ∙ g)) k.4)
]

module _ (max : ℤ) where
  mutual
    form-right : (t : RawTree) (ns : Names) (v : List ℕ → Bool) → HasNoAddition t → Visible ns v → but_types (reading max ns t).faults ≡ form_faults v t
    form-right (raw at node) ns v h vis = node-form node at ns v h vis

    node-form : (node : RawTreeNode) (at : ℕ) (ns : Names) (v : List ℕ → Bool) → NodeHasNoAddition node → Visible ns v → but_types (node_reading max ns at node).faults ≡ node_faults v at node
    node-form (raw_name x) at ns v h vis = sight-form at (found 0 ns x) ∙ ap (λ b. cond b [] (unknown_name at ∷ [])) (vis x)
    node-form (raw_level_name x n) at ns v h vis = sight-form at (found 0 ns (level_name x n)) ∙ ap (λ b. cond b [] (unknown_name at ∷ [])) (vis (level_name x n))
    node-form (raw_bound_name k) at ns v h vis = absurd h
    node-form (raw_number z) at ns v h vis = refl
    node-form (raw_constant c) at ns v h vis = ap but_types (constant-eights max at c)
    node-form (raw_word o a) at ns v h vis =
        let r = part (takes_predicate o) a (reading max ns a) in
        one-form (word_reading o at (place_of a)) r (part_faults (takes_predicate o) a (form_faults v a)) (part-form (takes_predicate o) a (reading max ns a) (form_faults v a) (form-right a ns v h.0 vis)) (word-eights o at (place_of a) r.outcome)
    node-form (raw_negative a) at ns v h vis =
        let r = part false a (reading max ns a) in
        one-form (negative_reading (place_of a)) r (part_faults false a (form_faults v a)) (part-form false a (reading max ns a) (form_faults v a) (form-right a ns v h vis)) (ask-eights (place_of a) r.outcome int_type)
    node-form (raw_infix o a b) at ns v h vis =
        let r = part (is_connective o) a (reading max ns a) in
        let s = part (is_connective o) b (reading max ns b) in
        let fs = part_faults (is_connective o) a (form_faults v a) in
        let gs = part_faults (is_connective o) b (form_faults v b) in
        both-are (strict_faults o a b) (from_two (infix_reading o at (place_of a) (place_of b)) r s).faults (strict_faults o a b) (fs ++ gs) (strict-kept o a b)
        (two-form (infix_reading o at (place_of a) (place_of b)) r s fs gs (part-form (is_connective o) a (reading max ns a) (form_faults v a) (form-right a ns v h.0 vis)) (part-form (is_connective o) b (reading max ns b) (form_faults v b) (form-right b ns v h.1 vis)) (infix-eights o at (place_of a) (place_of b) r.outcome s.outcome))
    node-form (raw_inverse a) at ns v h vis =
        let r = part false a (reading max ns a) in
        one-form (inverse_reading (place_of a)) r (part_faults false a (form_faults v a)) (part-form false a (reading max ns a) (form_faults v a) (form-right a ns v h vis)) (ask_relation-eights (place_of a) r.outcome)
    node-form (raw_image a b) at ns v h vis = two-form (image_reading (place_of a) (place_of b)) (part false a (reading max ns a)) (part false b (reading max ns b)) (part_faults false a (form_faults v a)) (part_faults false b (form_faults v b)) (part-form false a (reading max ns a) (form_faults v a) (form-right a ns v h.0 vis)) (part-form false b (reading max ns b) (form_faults v b) (form-right b ns v h.1 vis)) (image-eights (place_of a) (place_of b) (part false a (reading max ns a)).outcome (part false b (reading max ns b)).outcome)
    node-form (raw_apply a b) at ns v h vis = two-form (apply_reading (place_of a) (place_of b)) (part false a (reading max ns a)) (part false b (reading max ns b)) (part_faults false a (form_faults v a)) (part_faults false b (form_faults v b)) (part-form false a (reading max ns a) (form_faults v a) (form-right a ns v h.0 vis)) (part-form false b (reading max ns b) (form_faults v b) (form-right b ns v h.1 vis)) (apply-eights (place_of a) (place_of b) (part false a (reading max ns a)).outcome (part false b (reading max ns b)).outcome)
    node-form (raw_composition a b) at ns v h vis = two-form (composition_reading at (place_of a) (place_of b)) (part false a (reading max ns a)) (part false b (reading max ns b)) (part_faults false a (form_faults v a)) (part_faults false b (form_faults v b)) (part-form false a (reading max ns a) (form_faults v a) (form-right a ns v h.0 vis)) (part-form false b (reading max ns b) (form_faults v b) (form-right b ns v h.1 vis)) (composition-eights at (place_of a) (place_of b) (part false a (reading max ns a)).outcome (part false b (reading max ns b)).outcome)
    node-form (raw_pair a b) at ns v h vis = two-form pair_reading (part false a (reading max ns a)) (part false b (reading max ns b)) (part_faults false a (form_faults v a)) (part_faults false b (form_faults v b)) (part-form false a (reading max ns a) (form_faults v a) (form-right a ns v h.0 vis)) (part-form false b (reading max ns b) (form_faults v b) (form-right b ns v h.1 vis)) (values-eights (λ p q. plainly (partial (paired p q))) (λ p q. refl) (part false a (reading max ns a)).outcome (part false b (reading max ns b)).outcome)
    node-form raw_empty_set at ns v h vis = refl
    node-form (raw_extension ts) at ns v h vis = extension-form ts at ns v h vis
    node-form (raw_comprehension xs p) at ns v h vis =
        let rs = ranges max ns xs 0 (unranged xs) p in
        let inner = within (as_bound rs) xs ns v (λ x. ranges-bound max p ns xs 0 (unranged xs) x ∙ unranged-bound xs x) vis in
        let body = rest max (inside (as_bound rs) ns) rs 0 None p in
        ranged-form at xs rs (body_of body).faults (part_faults true p (form_faults (with_names xs v) p)) (ap but_types (body-faults body) ∙ rest-form p (inside (as_bound rs) ns) rs 0 None [] (with_names xs v) h inner (used-clean p xs rs (with_names xs v) (λ j k. ranges-used p ns xs 0 (unranged xs) v h vis (unranged-bound xs) j k)) refl)
    node-form (raw_lambda xs p e) at ns v h vis =
        let rs = ranges max ns xs 0 (unranged xs) p in
        let inner = within (as_bound rs) xs ns v (λ x. ranges-bound max p ns xs 0 (unranged xs) x ∙ unranged-bound xs x) vis in
        let body = rest max (inside (as_bound rs) ns) rs 0 None p in
        let image = part false e (reading max (inside (as_bound rs) ns) e) in
        let asked = (ask_value (place_of e) image.outcome).faults in
        let fs = part_faults true p (form_faults (with_names xs v) p) in
        let gs = part_faults false e (form_faults (with_names xs v) e) in
        ranged-form at xs rs ((body_of body).faults ++ (image.faults ++ asked)) (fs ++ gs)
        (both-are (body_of body).faults (image.faults ++ asked) fs gs (ap but_types (body-faults body) ∙ rest-form p (inside (as_bound rs) ns) rs 0 None [] (with_names xs v) h.0 inner (used-clean p xs rs (with_names xs v) (λ j k. ranges-used p ns xs 0 (unranged xs) v h.0 vis (unranged-bound xs) j k)) refl)
        (both-are image.faults asked gs [] (part-form false e (reading max (inside (as_bound rs) ns) e) (form_faults (with_names xs v) e) (form-right e (inside (as_bound rs) ns) (with_names xs v) h.1 inner)) (ask_value-eights (place_of e) image.outcome) ∙ append-nil gs))
    node-form (raw_for_all xs p) at ns v h vis =
        let bs = premise_clues max ns (bound_names xs) p in
        let inner = within bs xs ns v (λ x. premise-bound max p ns (bound_names xs) x ∙ names-bound xs x) vis in
        bound-form xs bs (part true p (reading max (inside bs ns) p)) (part_faults true p (form_faults (with_names xs v) p)) (part-form true p (reading max (inside bs ns) p) (form_faults (with_names xs v) p) (form-right p (inside bs ns) (with_names xs v) h inner))
    node-form (raw_exists xs p) at ns v h vis =
        let bs = clues max ns (bound_names xs) p in
        let inner = within bs xs ns v (λ x. clues-bound max p ns (bound_names xs) x ∙ names-bound xs x) vis in
        bound-form xs bs (part true p (reading max (inside bs ns) p)) (part_faults true p (form_faults (with_names xs v) p)) (part-form true p (reading max (inside bs ns) p) (form_faults (with_names xs v) p) (form-right p (inside bs ns) (with_names xs v) h inner))
    node-form (raw_typed_empty t) at ns v h vis = absurd h
    node-form (raw_typed_for_all ws p) at ns v h vis = absurd h
    node-form (raw_typed_exists ws p) at ns v h vis = absurd h
    node-form (raw_ranged_comprehension ws p) at ns v h vis = absurd h
    node-form (raw_ranged_lambda ws p e) at ns v h vis = absurd h

    extension-form : (ts : RawTrees) (at : ℕ) (ns : Names) (v : List ℕ → Bool) → TreesHaveNoAddition ts → Visible ns v → but_types (extension_reading max ns at ts).faults ≡ each_faults v ts
    extension-form no_trees at ns v h vis = refl
    extension-form (tree_and t ts) at ns v h vis =
        let r = part false t (reading max ns t) in
        let fs = part_faults false t (form_faults v t) in
        elements-form ts at ns v (from_one single_reading r) fs h.1 vis (one-form single_reading r fs (part-form false t (reading max ns t) (form_faults v t) (form-right t ns v h.0 vis)) (single-eights r.outcome))

    elements-form : (ts : RawTrees) (at : ℕ) (ns : Names) (v : List ℕ → Bool) (before : Reading) (fs : List Fault) → TreesHaveNoAddition ts → Visible ns v → but_types before.faults ≡ fs → but_types (elements_reading max ns at before ts).faults ≡ fs ++ each_faults v ts
    elements-form no_trees at ns v before fs h vis k = k ∙ sym (append-nil fs)
    elements-form (tree_and t ts) at ns v before fs h vis k =
        let r = part false t (reading max ns t) in
        let gs = part_faults false t (form_faults v t) in
        elements-form ts at ns v (from_two (extended at) before r) (fs ++ gs) h.1 vis (two-form (extended at) before r fs gs k (part-form false t (reading max ns t) (form_faults v t) (form-right t ns v h.0 vis)) (extended-eights at before.outcome r.outcome))
        ∙ append_assoc fs gs (each_faults v ts)

    rest-form : (t : RawTree) (ns : Names) (rs : List Ranged) (i : ℕ) (before : Option Reading) (fs : List Fault) (v : List ℕ → Bool) → HasNoAddition t → Visible ns v → AreUsedClean v (conjuncts t) i rs → but_types (before_faults before) ≡ fs → but_types (before_faults (rest max ns rs i before t)) ≡ fs ++ part_faults true t (form_faults v t)
    rest-form (raw at node) ns rs i before fs v h vis clean k = rest_in-form node at ns rs i before (part true (raw at node) (node_reading max ns at node)) fs v h vis clean k (part-form true (raw at node) (node_reading max ns at node) (node_faults v at node) (node-form node at ns v h vis))

    rest_in-form : (node : RawTreeNode) (at : ℕ) (ns : Names) (rs : List Ranged) (i : ℕ) (before : Option Reading) (r : Reading) (fs : List Fault) (v : List ℕ → Bool) → NodeHasNoAddition node → Visible ns v → AreUsedClean v (conjuncts (raw at node)) i rs → but_types (before_faults before) ≡ fs → but_types r.faults ≡ part_faults true (raw at node) (node_faults v at node) → but_types (before_faults (rest_in max ns rs i before r node)) ≡ fs ++ part_faults true (raw at node) (node_faults v at node)
    rest_in-form (raw_infix And a b) at ns rs i before r fs v h vis clean k l =
        let gs = part_faults true a (form_faults v a) in
        let left = rest-form a ns rs i before fs v h.0 vis (λ m c g u. clean m c (get-left (conjuncts a) (conjuncts b) m c g) u) k in
        let far : (m : ℕ) → i + (length (conjuncts a) + m) ≡ (i + length (conjuncts a)) + m = λ m. omega arith in
        rest-form b ns rs (i + length (conjuncts a)) (rest max ns rs i before a) (fs ++ gs) v h.1 vis (λ m c g u. clean (length (conjuncts a) + m) c (get-right (conjuncts a) (conjuncts b) m ∙ g) (ap (λ n. is_used n rs) (far m) ∙ u)) left
        ∙ append_assoc fs gs (part_faults true b (form_faults v b))
    rest_in-form (raw_infix o a b) at ns rs i before r fs v h vis clean k l =
        let same : i + 0 ≡ i = omega arith in
        left-form (is_used i rs) before r fs (part_faults true (raw at (raw_infix o a b)) (node_faults v at (raw_infix o a b))) k l (λ u. clean 0 (raw at (raw_infix o a b)) refl (ap (λ n. is_used n rs) same ∙ u))
    rest_in-form node at ns rs i before r fs v h vis clean k l =
        let same : i + 0 ≡ i = omega arith in
        left-form (is_used i rs) before r fs (part_faults true (raw at node) (node_faults v at node)) k l (λ u. clean 0 (raw at node) refl (ap (λ n. is_used n rs) same ∙ u))

    ranges-used : (t : RawTree) (ns : Names) (all : List RawName) (i : ℕ) (rs : List Ranged) (v : List ℕ → Bool) → HasNoAddition t → Visible ns v → ((x : List ℕ) → is_bound x (as_bound rs) ≡ is_among x all) → (j : ℕ) → is_used j (ranges max ns all i rs t) ≡ true → IsUsedFrom (with_names all v) (conjuncts t) i rs j
    ranges-used (raw at (raw_infix And a d)) ns all i rs v h vis b j u =
        let first = ranges max ns all i rs a in
        let both = ranges max ns all (i + length (conjuncts a)) first d in
        let now : is_used j both ≡ true = sym (ap (is_used j) (both-kept i rs (name_of a) both (names_one all d) (part false d (reading max ns d)).outcome)) ∙ u in
        elim (ranges-used d ns all (i + length (conjuncts a)) first v h.1 vis (λ x. ranges-bound max a ns all i rs x ∙ b x) j now) [
          | inl k ↦ (elim (ranges-used a ns all i rs v h.0 vis b j k) [ inl l ↦ inl l | inr l ↦ inr (l.0, l.1, get-left (conjuncts a) (conjuncts d) l.0 l.1 l.2, l.3, l.4) ])
          | inr k ↦ (let far : i + (length (conjuncts a) + k.0) ≡ j = omega (arith, k.3) in inr (length (conjuncts a) + k.0, k.1, get-right (conjuncts a) (conjuncts d) k.0 ∙ k.2, far, k.4))
        ]
    ranges-used (raw at (raw_infix Member a d)) ns all i rs v h vis b j u = member-used at a d all i rs (ranges max ns all (i + length (conjuncts a)) (ranges max ns all i rs a) d) v (reading max ns d) j (form-right d ns v h.1 vis) (reading-clean max d ns) b (name_of a) (names_one all d) refl u
    ranges-used (raw at (raw_infix Equal a d)) ns all i rs v h vis b j u = equal-used at a d all i rs (ranges max ns all (i + length (conjuncts a)) (ranges max ns all i rs a) d) v (reading max ns d) j (form-right d ns v h.1 vis) (reading-clean max d ns) b (name_of a) (names_one all d) refl u
    ranges-used (raw at (raw_infix _ a d)) ns all i rs v h vis b j u = inl u
    ranges-used (raw at _) ns all i rs v h vis b j u = inl u

pub form-tells : FormTellsFaults
form-tells max names t h = form-right max t names (λ x. is_in_sight (found 0 names x)) h (λ x. refl)
