-- The rules of types hold of what terms read as, operator by operator.
use Rattle.std.proofs.Common.{◌≡◌, ◌↔◌, ℕ, List, [], sym, ◌∙◌, ap, true, false, ℤ}
use Rattle.bk_form.specs.declared.operator.Domain.TheVariants.{Integer as WholeNumbers, Natural as NaturalNumbers, Natural1 as PositiveNumbers, Bool as Booleans}
use Rattle.bk_val.specs.ValueType.{ValueType, int_type, bool_type, pair_type, set_type}
use Rattle.bk_form.specs.Formula.{Formula, truth_value, named, unary, binary, for_all, for_some, comprehension, lambda}
use Rattle.bk_form.specs.Role.{tuple_type}
use Rattle.bk_form.specs.declared.operator.UnOp.TheVariants.{Not as Negation, BoolOf as TruthOf, Neg, Card as CardOf, Min as MinOf, Max as MaxOf, Dom as DomainOf, Ran as RangeOf, Id as IdOf, Inverse as InverseOf, Pow as PowerOf, Pow1 as Power1Of}
use Rattle.bk_form.specs.declared.operator.BinOp.TheVariants.{And as Conjunction, Or as Disjunction, Imp, Iff, Eq, Lt, Le, In, DomRes, RanRes, DomSub, RanSub, Range, Add, Div, Mod as Remainder, Power as PowerTo, Image as ImageOf, Apply as ApplyTo, Relations as RelationsOf, PartialFunctions as PartialOf, TotalFunctions as TotalOf, PartialInjections as PartialInjectionsOf, TotalInjections as TotalInjectionsOf, PartialSurjections as PartialSurjectionsOf, TotalSurjections as TotalSurjectionsOf, Bijections as BijectionsOf}
use Rattle.bk_raw.specs.Meaning.Names.{Names, found}
use Rattle.bk_raw.specs.Meaning.Outcome.{Reading, union_joint, inter_joint, over_joint, ask_relation}
use Rattle.std.specs.Prelude.{◌++◌, None}
use Rattle.bk_raw.specs.declared.term.RawName.{RawName}
use Rattle.bk_raw.specs.Trees.RawTree.{RawTree, raw, raw_comprehension, raw_lambda}
use Rattle.bk_raw.specs.Meaning.Binders.{bound_names, inside, types_of, twice, Ranged, unranged, as_bound, ranges_of, body_of, comprehended, abstracted}
use Rattle.bk_raw.specs.Meaning.TermReading.{place_of, part, reading, clues, premise_clues, ranges, rest}
use Rattle.bk_raw.specs.Meaning.GivesTakes.{expression, statement, Gives, Collects, BindersType, LeavesType, NumbersType, SetsType, RelationsType, DomainsType, PredicatesType, GivesAndTakes}
use Rattle.bk_raw.proofs.GivesRight.{of-taken, of-set, of-relation, of-numbers, of-compared, of-connected, of-related, of-member, of-domains, of-power, of-equal, of-joint, of-joint-taken, of-minus, of-minus-taken, of-times, of-product, of-composed, of-single, of-single-taken, of-pair, of-pair-taken, of-name, of-number, of-given, of-other, of-empty, of-truth, of-negation, of-quantified, of-comprehended, of-abstracted}

module _ (max : ℤ) (names : Names) where
  leaves : LeavesType max names
  leaves = record {
    name = λ at x u h. of-name at (found 0 names x) u h;
    number = λ at z u h. of-number z u h;
    true_word = λ at u h. of-given (truth_value true) bool_type u h;
    false_word = λ at u h. of-given (truth_value false) bool_type u h;
    truth_values = λ at u h. of-given (named Booleans) (set_type bool_type) u h;
    integers = λ at u h. of-other at (named WholeNumbers) int_type u h;
    naturals = λ at u h. of-other at (named NaturalNumbers) int_type u h;
    positives = λ at u h. of-other at (named PositiveNumbers) int_type u h;
    empty = λ at u h. of-empty u h;
  }

  numbers : NumbersType max names
  numbers = record {
    sum = λ at a b u h. of-numbers Add int_type (place_of a) (place_of b) (expression max names a) (expression max names b) u h;
    quotient = λ at a b u h. of-numbers Div int_type (place_of a) (place_of b) (expression max names a) (expression max names b) u h;
    remainder = λ at a b u h. of-numbers Remainder int_type (place_of a) (place_of b) (expression max names a) (expression max names b) u h;
    power = λ at a b u h. of-numbers PowerTo int_type (place_of a) (place_of b) (expression max names a) (expression max names b) u h;
    interval = λ at a b u h. of-numbers Range (set_type int_type) (place_of a) (place_of b) (expression max names a) (expression max names b) u h;
    negative = λ at a u h. of-taken (unary Neg) int_type int_type (place_of a) (expression max names a) u h;
    size = λ at a u h. of-set (unary CardOf) (λ t. int_type) (place_of a) (expression max names a) u h;
    least = λ at a u h. of-taken (unary MinOf) int_type (set_type int_type) (place_of a) (expression max names a) u h;
    greatest = λ at a u h. of-taken (unary MaxOf) int_type (set_type int_type) (place_of a) (expression max names a) u h;
    truth = λ at a u h. of-truth TruthOf (statement max names a) u h;
  }

  sets : SetsType max names
  sets = record {
    union = λ at a b u h. of-joint union_joint at (expression max names a) (expression max names b) u h;
    union_takes = λ at a b u h. of-joint-taken union_joint at (expression max names a) (expression max names b) u h;
    intersection = λ at a b u h. of-joint inter_joint at (expression max names a) (expression max names b) u h;
    intersection_takes = λ at a b u h. of-joint-taken inter_joint at (expression max names a) (expression max names b) u h;
    override = λ at a b u h. of-joint over_joint at (expression max names a) (expression max names b) u h;
    override_takes = λ at a b u h. of-joint-taken over_joint at (expression max names a) (expression max names b) u h;
    difference = λ at a b u h. of-minus at (place_of a) (place_of b) (expression max names a) (expression max names b) u h;
    difference_takes = λ at a b u h. of-minus-taken at (place_of a) (place_of b) (expression max names a) (expression max names b) u h;
    product = λ at a b u h. of-times at (place_of a) (place_of b) (expression max names a) (expression max names b) u h;
    single = λ at a u h. of-single (expression max names a) u h;
    single_takes = λ at a u h. of-single-taken (expression max names a) u h;
    pair = λ at a b u h. of-pair (expression max names a) (expression max names b) u h;
    pair_takes = λ at a b u h. of-pair-taken (expression max names a) (expression max names b) u h;
  }

  relations : RelationsType max names
  relations = record {
    domain = λ at a u h. of-relation (unary DomainOf) (λ t v. set_type t) (place_of a) (expression max names a) u h;
    range = λ at a u h. of-relation (unary RangeOf) (λ t v. set_type v) (place_of a) (expression max names a) u h;
    inverse = λ at a u h. of-relation (unary InverseOf) (λ t v. set_type (pair_type v t)) (place_of a) (expression max names a) u h;
    image = λ at a b u h. of-related (binary ImageOf) (λ t v. set_type t) (λ t v. set_type v) (place_of a) (place_of b) (expression max names a) (expression max names b) u h;
    application = λ at a b u h. of-related (binary ApplyTo) (λ t v. t) (λ t v. v) (place_of a) (place_of b) (expression max names a) (expression max names b) u h;
    domain_restriction = λ at a b u h. of-related (λ f g. binary DomRes g f) (λ t v. set_type t) (λ t v. set_type (pair_type t v)) (place_of b) (place_of a) (expression max names b) (expression max names a) u h;
    domain_subtraction = λ at a b u h. of-related (λ f g. binary DomSub g f) (λ t v. set_type t) (λ t v. set_type (pair_type t v)) (place_of b) (place_of a) (expression max names b) (expression max names a) u h;
    range_restriction = λ at a b u h. of-related (binary RanRes) (λ t v. set_type v) (λ t v. set_type (pair_type t v)) (place_of a) (place_of b) (expression max names a) (expression max names b) u h;
    range_subtraction = λ at a b u h. of-related (binary RanSub) (λ t v. set_type v) (λ t v. set_type (pair_type t v)) (place_of a) (place_of b) (expression max names a) (expression max names b) u h;
    composition = λ at a b u h. of-composed at (place_of a) (place_of b) ((ask_relation (place_of a) (expression max names a)).faults ++ (ask_relation (place_of b) (expression max names b)).faults) (expression max names a) (expression max names b) u h;
    identity = λ at a u h. of-set (unary IdOf) (λ t. set_type (pair_type t t)) (place_of a) (expression max names a) u h;
  }

  domains : DomainsType max names
  domains = record {
    power = λ at a u h. of-power PowerOf at (place_of a) (expression max names a) u h;
    nonempty_power = λ at a u h. of-power Power1Of at (place_of a) (expression max names a) u h;
    product = λ at a b u h. of-product at (place_of a) (place_of b) (expression max names a) (expression max names b) u h;
    relations = λ at a b u h. of-domains RelationsOf at (place_of a) (place_of b) (expression max names a) (expression max names b) u h;
    partial_functions = λ at a b u h. of-domains PartialOf at (place_of a) (place_of b) (expression max names a) (expression max names b) u h;
    total_functions = λ at a b u h. of-domains TotalOf at (place_of a) (place_of b) (expression max names a) (expression max names b) u h;
    partial_injections = λ at a b u h. of-domains PartialInjectionsOf at (place_of a) (place_of b) (expression max names a) (expression max names b) u h;
    total_injections = λ at a b u h. of-domains TotalInjectionsOf at (place_of a) (place_of b) (expression max names a) (expression max names b) u h;
    partial_surjections = λ at a b u h. of-domains PartialSurjectionsOf at (place_of a) (place_of b) (expression max names a) (expression max names b) u h;
    total_surjections = λ at a b u h. of-domains TotalSurjectionsOf at (place_of a) (place_of b) (expression max names a) (expression max names b) u h;
    bijections = λ at a b u h. of-domains BijectionsOf at (place_of a) (place_of b) (expression max names a) (expression max names b) u h;
  }

  predicates : PredicatesType max names
  predicates = record {
    member = λ at a b h. of-member (binary In) (place_of a) (place_of b) (expression max names a) (expression max names b) h;
    equality = λ at a b h. of-equal (binary Eq) at (expression max names a) (expression max names b) h;
    less = λ at a b h. of-compared Lt (place_of a) (place_of b) (expression max names a) (expression max names b) h;
    at_most = λ at a b h. of-compared Le (place_of a) (place_of b) (expression max names a) (expression max names b) h;
    conjunction = λ at a b h. of-connected Conjunction (statement max names a) (statement max names b) h;
    disjunction = λ at a b h. of-connected Disjunction (statement max names a) (statement max names b) h;
    implication = λ at a b h. of-connected Imp (statement max names a) (statement max names b) h;
    equivalence = λ at a b h. of-connected Iff (statement max names a) (statement max names b) h;
    negation = λ at a h. of-negation Negation (statement max names a) h;
  }

  of-ranges : (at : ℕ) (xs : List RawName) (p : RawTree) (rs : List Ranged) → rs ≡ ranges max names xs 0 (unranged xs) p → (u : ValueType) (h : Formula) → Gives max names (raw at (raw_comprehension xs p)) u h ↔ Collects max names xs rs p (λ f. (u ≡ set_type (tuple_type (types_of (as_bound rs)))) × (h ≡ comprehension (ranges_of rs) f))
  of-ranges at xs p rs same u h =
      let made : List Ranged → Reading = λ ws. comprehended at (twice [] xs) ws (body_of (rest max (inside (as_bound ws) names) ws 0 None p)) in
      let now : (made (ranges max names xs 0 (unranged xs) p)).outcome ≡ (made rs).outcome = sym (ap (λ ws. (made ws).outcome) same) in
      let all = of-comprehended at (twice [] xs) rs (body_of (rest max (inside (as_bound rs) names) rs 0 None p)) u h in
      ((λ e. all.0 (sym now ∙ e)), (λ r. now ∙ all.1 r))

  of-function : (at : ℕ) (xs : List RawName) (p e : RawTree) (rs : List Ranged) → rs ≡ ranges max names xs 0 (unranged xs) p → (u : ValueType) (h : Formula) → Gives max names (raw at (raw_lambda xs p e)) u h ↔ Collects max names xs rs p (λ f. (v : ValueType) × (g : Formula) × Gives max (inside (as_bound rs) names) e v g × (u ≡ set_type (pair_type (tuple_type (types_of (as_bound rs))) v)) × (h ≡ lambda (ranges_of rs) f g))
  of-function at xs p e rs same u h =
      let made : List Ranged → Reading = λ ws. abstracted at (twice [] xs) ws (body_of (rest max (inside (as_bound ws) names) ws 0 None p)) (place_of e) (part false e (reading max (inside (as_bound ws) names) e)) in
      let now : (made (ranges max names xs 0 (unranged xs) p)).outcome ≡ (made rs).outcome = sym (ap (λ ws. (made ws).outcome) same) in
      let all = of-abstracted at (twice [] xs) rs (body_of (rest max (inside (as_bound rs) names) rs 0 None p)) (place_of e) (part false e (reading max (inside (as_bound rs) names) e)) u h in
      ((λ d. all.0 (sym now ∙ d)), (λ r. now ∙ all.1 r))

  binders : BindersType max names
  binders = record {
    exists = λ at xs p h. of-quantified for_some (twice [] xs) (clues max names (bound_names xs) p) (part true p (reading max (inside (clues max names (bound_names xs) p) names) p)) h;
    all = λ at xs p h. of-quantified for_all (twice [] xs) (premise_clues max names (bound_names xs) p) (part true p (reading max (inside (premise_clues max names (bound_names xs) p) names) p)) h;
    comprehension_set = of-ranges;
    function = of-function;
  }

pub gives-and-takes : GivesAndTakes
gives-and-takes = record { leaves = leaves; numbers = numbers; sets = sets; relations = relations; domains = domains; predicates = predicates; binders = binders }
