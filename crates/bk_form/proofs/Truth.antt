-- The truth of connectives and quantifiers.
use Rattle.std.proofs.Common.{◌≡◌, ◌↔◌, ℕ, List, [], ◌∷◌, map, refl, sym, ◌∙◌, ap, Bool, true, false, not, ◌&&◌, ◌||◌}
use Rattle.std.specs.Prelude.{Option, Some, None, is_none}
use Rattle.bk_val.specs.Value.{MathValue}
use Rattle.bk_val.specs.ValueType.{ValueType, are_of_types, base_of}
use Rattle.bk_val.specs.Sets.{has, second_of}
use Rattle.bk_form.specs.Table.{set_size}
use Rattle.bk_form.specs.Formula.{Formula, unary, binary, for_all, for_some, comprehension, lambda, Formulas, no_formulas, formula_and}
use Rattle.bk_form.specs.Search.{Finder, IsSearch, no_choice}
use Rattle.bk_form.specs.Environment.{Environment, under}
use Rattle.bk_form.specs.Role.{quantifier_role, binary_role, element_type}
use Rattle.bk_form.specs.Operators.{elements, first_part, passes, covers, is_partial_function, is_injective, is_in_binary, binary_value, binary_truth}
use Rattle.bk_form.specs.Laws.{IsClassical, IsIndependent}
use Rattle.bk_form.specs.Meaning.{Meaning, meaning, meanings, truth, of_truth, type_in, unary_meaning, binary_meaning, comprehension_meaning, lambda_meaning, range_types}
use Rattle.bk_form.specs.declared.operator.UnOp.TheVariants.{Not}
use Rattle.bk_form.specs.declared.operator.BinOp.{BinOp}
use Rattle.bk_form.specs.declared.operator.BinOp.TheVariants.{And, Or, TotalFunctions, TotalInjections, PartialSurjections, TotalSurjections, Bijections}

module _ (find : Finder) (law : IsSearch find) (test : List MathValue → Bool) where
  pub no_choice-then : no_choice find test ≡ true → (vs : List MathValue) → test vs ≡ false
  no_choice-then = by_answer (find test) refl
    where
      by_answer : (o : Option (List MathValue)) → find test ≡ o → is_none o ≡ true → (vs : List MathValue) → test vs ≡ false
      by_answer None e h = law.none test e
      by_answer (Some ws) e h = absurd (cc)

  pub some_choice-then : no_choice find test ≡ false → (vs : List MathValue) × (test vs ≡ true)
  some_choice-then = by_answer (find test) refl
    where
      by_answer : (o : Option (List MathValue)) → find test ≡ o → is_none o ≡ false → (vs : List MathValue) × (test vs ≡ true)
      by_answer None e h = absurd (cc)
      by_answer (Some ws) e h = (ws, law.found test ws e)

  pub no_choice-if : ((vs : List MathValue) → test vs ≡ false) → no_choice find test ≡ true
  no_choice-if h = by_answer (no_choice find test) refl
    where
      by_answer : (b : Bool) → no_choice find test ≡ b → no_choice find test ≡ true
      by_answer true e = e
      by_answer false e = let w = some_choice-then e in let k = h w.0 in let l = w.1 in absurd (cc)

  pub some_choice-if : (vs : List MathValue) → test vs ≡ true → no_choice find test ≡ false
  some_choice-if vs h = by_answer (no_choice find test) refl
    where
      by_answer : (b : Bool) → no_choice find test ≡ b → no_choice find test ≡ false
      by_answer true e = let k = no_choice-then e vs in absurd (cc)
      by_answer false e = e

-- whether something is found does not turn on the search
pub no_choice-same : (f g : Finder) → IsSearch f → IsSearch g → (p q : List MathValue → Bool) → p ≡ q → no_choice f p ≡ no_choice g q
no_choice-same f g l m p q e = by_answer (no_choice f p) refl
  where
    by_answer : (b : Bool) → no_choice f p ≡ b → no_choice f p ≡ no_choice g q
    by_answer true h = h ∙ sym (no_choice-if g m q (λ vs. ap (λ t. t vs) (sym e) ∙ no_choice-then f l p h vs))
    by_answer false h = let w = some_choice-then f l p h in h ∙ sym (some_choice-if g m q w.0 (ap (λ t. t w.0) (sym e) ∙ w.1))

pub and-true : (a b : Bool) → a ≡ true → b ≡ true → (a && b) ≡ true
and-true a b h k = rw (h, k)

pub and-left : (a b : Bool) → (a && b) ≡ true → a ≡ true
and-left true b h = refl
and-left false b h = absurd (cc)

pub and-right : (a b : Bool) → (a && b) ≡ true → b ≡ true
and-right true b h = h
and-right false b h = absurd (cc)

guarded : (a b : Bool) → (a && not b) ≡ false → a ≡ true → b ≡ true
guarded true true h k = refl
guarded true false h k = absurd (cc)
guarded false b h k = absurd (cc)

unguarded : (a b : Bool) → (a ≡ true → b ≡ true) → (a && not b) ≡ false
unguarded true b h = rw (h refl)
unguarded false b h = refl

pub not-true : (b : Bool) → not b ≡ true → b ≡ false
not-true true h = absurd (cc)
not-true false h = refl

pub not_not : (b : Bool) → not (not b) ≡ b
not_not true = refl
not_not false = refl

-- the body of a quantifier at these values
abbrev pub body_truth : Finder → Environment → List ValueType → Formula → List MathValue → Bool
body_truth find e ts p vs = truth find (under e ts vs) p

pub for_all-true : (find : Finder) → IsSearch find → (e : Environment) (ts : List ValueType) (p : Formula) → (truth find e (for_all ts p) ≡ true) ↔ ((vs : List MathValue) → are_of_types (set_size e.table) ts vs ≡ true → truth find (under e ts vs) p ≡ true)
for_all-true find law e ts p = let test : List MathValue → Bool = λ vs. are_of_types (set_size e.table) ts vs && not (body_truth find e ts p vs) in (
  (λ h vs o. guarded (are_of_types (set_size e.table) ts vs) (body_truth find e ts p vs) (no_choice-then find law test h vs) o),
  (λ h. no_choice-if find law test (λ vs. unguarded (are_of_types (set_size e.table) ts vs) (body_truth find e ts p vs) (h vs))),
)

pub for_some-true : (find : Finder) → IsSearch find → (e : Environment) (ts : List ValueType) (p : Formula) → (truth find e (for_some ts p) ≡ true) ↔ ((vs : List MathValue) × (are_of_types (set_size e.table) ts vs ≡ true) × (truth find (under e ts vs) p ≡ true))
for_some-true find law e ts p = let test : List MathValue → Bool = λ vs. are_of_types (set_size e.table) ts vs && body_truth find e ts p vs in (
  (λ h. let w = some_choice-then find law test (not-true (no_choice find test) h) in (w.0, and-left (are_of_types (set_size e.table) ts w.0) (body_truth find e ts p w.0) w.1, and-right (are_of_types (set_size e.table) ts w.0) (body_truth find e ts p w.0) w.1)),
  (λ w. ap not (some_choice-if find law test w.0 (and-true (are_of_types (set_size e.table) ts w.0) (body_truth find e ts p w.0) w.1 w.2))),
)

-- ---- what a formula means does not turn on the search
module _ (f g : Finder) (l : IsSearch f) (m : IsSearch g) where
  covers-same : (sizes : ℕ → ℕ) (t : ValueType) (in_a : MathValue → Bool) (xs : List MathValue) → covers f sizes t in_a xs ≡ covers g sizes t in_a xs
  covers-same sizes t in_a xs = let test : List MathValue → Bool = λ vs. are_of_types sizes (t ∷ []) vs && passes (λ v. in_a v && not (has xs v)) vs in no_choice-same f g l m test test refl

  binary-same : (sizes : ℕ → ℕ) (t u : ValueType) (o : BinOp) (in_a in_b : MathValue → Bool) (w v : MathValue) → is_in_binary f sizes t u o in_a in_b w v ≡ is_in_binary g sizes t u o in_a in_b w v
  binary-same sizes t u TotalFunctions in_a in_b w v = λ i. is_partial_function in_a in_b v && covers-same sizes t in_a (map first_part (elements v)) i
  binary-same sizes t u TotalInjections in_a in_b w v = λ i. is_partial_function in_a in_b v && is_injective (elements v) && covers-same sizes t in_a (map first_part (elements v)) i
  binary-same sizes t u PartialSurjections in_a in_b w v = λ i. is_partial_function in_a in_b v && covers-same sizes u in_b (map second_of (elements v)) i
  binary-same sizes t u TotalSurjections in_a in_b w v = λ i. is_partial_function in_a in_b v && covers-same sizes t in_a (map first_part (elements v)) i && covers-same sizes u in_b (map second_of (elements v)) i
  binary-same sizes t u Bijections in_a in_b w v = λ i. is_partial_function in_a in_b v && is_injective (elements v) && covers-same sizes t in_a (map first_part (elements v)) i && covers-same sizes u in_b (map second_of (elements v)) i
  binary-same sizes t u _ in_a in_b w v = refl

  binary_meaning-same : (sizes : ℕ → ℕ) (o : BinOp) (a b : Meaning) → binary_meaning f sizes o a b ≡ binary_meaning g sizes o a b
  binary_meaning-same sizes o a b = λ i. record {
    role = binary_role o a.role b.role;
    value = binary_value o (base_of (type_in (binary_role o a.role b.role))) a.value b.value;
    truth = binary_truth o a.value b.value a.truth b.truth b.contains;
    contains = λ v. binary-same sizes (element_type a.role) (element_type b.role) o a.contains b.contains (binary_value o (base_of (type_in (binary_role o a.role b.role))) a.value b.value) v i;
  }

  mutual
    pub meaning-same : (e : Environment) (p : Formula) → meaning f e p ≡ meaning g e p
    meaning-same e (unary o a) = λ i. unary_meaning o (meaning-same e a i)
    meaning-same e (binary o a b) = binary_meaning-same (set_size e.table) o (meaning f e a) (meaning f e b) ∙ λ i. binary_meaning g (set_size e.table) o (meaning-same e a i) (meaning-same e b i)
    meaning-same e (for_all ts p) =
        let q : List MathValue → Bool = λ vs. are_of_types (set_size e.table) ts vs && not (truth f (under e ts vs) p) in
        let r : List MathValue → Bool = λ vs. are_of_types (set_size e.table) ts vs && not (truth g (under e ts vs) p) in
        let same : q ≡ r = λ i vs. are_of_types (set_size e.table) ts vs && not ((meaning-same (under e ts vs) p i).truth) in
        let k = no_choice-same f g l m q r same in
        λ i. of_truth (quantifier_role e.table ts ((meaning-same (under e ts []) p i).role)) (k i)
    meaning-same e (for_some ts p) =
        let q : List MathValue → Bool = λ vs. are_of_types (set_size e.table) ts vs && truth f (under e ts vs) p in
        let r : List MathValue → Bool = λ vs. are_of_types (set_size e.table) ts vs && truth g (under e ts vs) p in
        let same : q ≡ r = λ i vs. are_of_types (set_size e.table) ts vs && (meaning-same (under e ts vs) p i).truth in
        let k = no_choice-same f g l m q r same in
        λ i. of_truth (quantifier_role e.table ts ((meaning-same (under e ts []) p i).role)) (not (k i))
    meaning-same e (comprehension rs p) = λ i. comprehension_meaning (meanings-same e rs i) (λ vs. meaning-same (under e (range_types (meanings-same e rs i)) vs) p i)
    meaning-same e (lambda rs p v) = λ i. lambda_meaning (meanings-same e rs i) (λ vs. meaning-same (under e (range_types (meanings-same e rs i)) vs) p i) (λ vs. meaning-same (under e (range_types (meanings-same e rs i)) vs) v i)
    meaning-same e _ = refl

    meanings-same : (e : Environment) (ps : Formulas) → meanings f e ps ≡ meanings g e ps
    meanings-same e no_formulas = refl
    meanings-same e (formula_and p ps) = λ i. meaning-same e p i ∷ meanings-same e ps i

-- ---- classical laws
pub not_and : (find : Finder) (e : Environment) (p q : Formula) → truth find e (unary Not (binary And p q)) ≡ truth find e (binary Or (unary Not p) (unary Not q))
not_and find e p q = by_truths (truth find e p) (truth find e q)
  where
    by_truths : (a b : Bool) → not (a && b) ≡ (not a || not b)
    by_truths true b = refl
    by_truths false b = refl

pub not_or : (find : Finder) (e : Environment) (p q : Formula) → truth find e (unary Not (binary Or p q)) ≡ truth find e (binary And (unary Not p) (unary Not q))
not_or find e p q = by_truths (truth find e p) (truth find e q)
  where
    by_truths : (a b : Bool) → not (a || b) ≡ (not a && not b)
    by_truths true b = refl
    by_truths false b = refl

pub excluded_middle : (find : Finder) (e : Environment) (p : Formula) → truth find e (binary Or p (unary Not p)) ≡ true
excluded_middle find e p = by_truth (truth find e p)
  where
    by_truth : (a : Bool) → (a || not a) ≡ true
    by_truth true = refl
    by_truth false = refl

pub not_some : (find : Finder) → IsSearch find → (e : Environment) (ts : List ValueType) (p : Formula) → truth find e (unary Not (for_some ts p)) ≡ truth find e (for_all ts (unary Not p))
not_some find law e ts p =
    let q : List MathValue → Bool = λ vs. are_of_types (set_size e.table) ts vs && truth find (under e ts vs) p in
    let r : List MathValue → Bool = λ vs. are_of_types (set_size e.table) ts vs && not (not (truth find (under e ts vs) p)) in
    let same : q ≡ r = λ i vs. are_of_types (set_size e.table) ts vs && sym (not_not (truth find (under e ts vs) p)) i in
    not_not (no_choice find q) ∙ no_choice-same find find law law q r same

pub classical : IsClassical
classical = record {
  excluded_middle = excluded_middle;
  not_not = λ find e p. not_not (truth find e p);
  not_and = not_and;
  not_or = not_or;
  implies_or = λ find e p q. refl;
  not_all = λ find e ts p. refl;
  not_some = not_some;
}

pub independent : IsIndependent
independent = record {
  values = λ f g l m e p. ap (λ (x : Meaning). x.value) (meaning-same f g l m e p);
  truths = λ f g l m e p. ap (λ (x : Meaning). x.truth) (meaning-same f g l m e p);
  domains = λ f g l m e v p. ap (λ (x : Meaning). x.contains v) (meaning-same f g l m e p);
}
