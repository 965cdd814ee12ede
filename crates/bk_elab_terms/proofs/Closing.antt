-- What a binder comes to, from its faults, its names and its body.
use Rattle.std.proofs.Common.{◌≡◌, ℕ, List, ◌++◌, refl, sym, ◌∙◌, ap, subst, Bool, true, false}
use Rattle.std.specs.Option.{option_map}
use Rattle.std.specs.Prelude.{Option, None, Some, ◌&&◌, is_some}
use Rattle.bk_val.specs.ValueType.{ValueType, set_type, pair_type}
use Rattle.bk_form.specs.Formula.{Formula, Formulas, comprehension, lambda}
use Rattle.bk_form.specs.Role.{tuple_type}
use Rattle.bk_raw.specs.Meaning.Binders.{Bound, Ranged, all_typed, types_of, as_bound, is_some_name, ranges_of, where_typed, if_holding, if_giving, untyped_faults, nameless, quantified, comprehended, abstracted}
use Rattle.bk_raw.specs.Meaning.Outcome.{whole, Outcome, partial, ranging, holding, silent, Reading, Asked, clean, ask_value}
use Rattle.bk_raw.specs.Errors.Blame.{blame, earlier}
use Rattle.bk_elab_terms.specs.declared.blame.Fault.{Fault as ToldFault}
use Rattle.bk_elab_terms.specs.declared.outcome.Step.{Step}
use Rattle.bk_elab_terms.specs.Shown.{fault_of, shown_outcome, told, IsRead, IsAsked}
use Rattle.bk_elab_terms.specs.Sights.{TypesOf, AreTaken}
use Rattle.bk_raw.proofs.Blamed.{blame-joins, blame-none}
use Rattle.bk_raw.specs.Errors.Faults.{Fault}
use Rattle.bk_elab_terms.proofs.Bindings.{clean-faulty, clean-none, clean-silent}

-- ---- the fault that is told
pub two-told : (a b all : Option Fault) (fs gs : List Fault) → a ≡ blame fs → b ≡ blame gs → all ≡ earlier a b → all ≡ blame (fs ++ gs)
two-told a b all fs gs e f g = g ∙ ((λ i. earlier (e i) (f i)) ∙ sym (blame-joins fs gs))

-- ---- where nothing is told
-- the binder has a fault
pub clean-some : (f : Option ToldFault) (fs : List Fault) (o : Outcome) → is_some f ≡ true → told f ≡ blame fs → clean fs o ≡ silent
clean-some None fs o h e = let no : false ≡ true = h in absurd (cc)
clean-some (Some g) fs o h e = clean-faulty fs (fault_of g) o (sym e)

-- it has none
pub clean-open : (f : Option ToldFault) (fs : List Fault) (o : Outcome) → is_some f ≡ false → told f ≡ blame fs → clean fs o ≡ o
clean-open None fs o h e = clean-none fs o (sym e)
clean-open (Some g) fs o h e = let no : true ≡ false = h in absurd (cc)

-- a name has no type
pub typed-none : (fs : List Fault) (b : Bool) (o : Outcome) → b ≡ false → clean fs (where_typed b o) ≡ silent
typed-none fs b o e = ap (λ (x : Bool). clean fs (where_typed x o)) e ∙ clean-silent fs

where-silent : (fs : List Fault) (b : Bool) → clean fs (where_typed b silent) ≡ silent
where-silent fs true = clean-silent fs
where-silent fs false = clean-silent fs

-- the body is no predicate
pub holding-none : (fs : List Fault) (b : Bool) (k : Formula → Outcome) (o : Outcome) → ((f : Formula) → o ≡ holding f → ⊥) → clean fs (where_typed b (if_holding k o)) ≡ silent
holding-none fs b k (holding f) h = absurd (h f refl)
holding-none fs b k (partial p) h = where-silent fs b
holding-none fs b k (ranging f t there) h = where-silent fs b
holding-none fs b k silent h = where-silent fs b

-- the value gives no type
pub giving-none : (fs : List Fault) (b : Bool) (k : Formula → Formula → ValueType → Outcome) (a : Option (Formula × ValueType)) (o : Outcome) → a ≡ None → clean fs (where_typed b (if_holding (λ p. if_giving (k p) a) o)) ≡ silent
giving-none fs b k a o e = ap (λ (x : Outcome). clean fs (where_typed b x)) (ap (λ (y : Option (Formula × ValueType)). if_holding (λ p. if_giving (k p) y) o) e ∙ by o) ∙ where-silent fs b
  where
    by : (o : Outcome) → if_holding (λ p. if_giving (k p) None) o ≡ silent
    by (holding p) = refl
    by (partial p) = refl
    by (ranging f t there) = refl
    by silent = refl

-- the types, as the program has them
pub types-none : {V : Type 0} (f : V → List ValueType) (o : Option V) (bs : List Bound) → o ≡ None → TypesOf (option_map f o) bs → all_typed bs ≡ false
types-none f o bs e h = subst (λ x. TypesOf (option_map f x) bs) e h

pub types-some : {V : Type 0} (f : V → List ValueType) (o : Option V) (v : V) (bs : List Bound) → o ≡ Some v → TypesOf (option_map f o) bs → TypesOf (Some (f v)) bs
types-some f o v bs e h = subst (λ x. TypesOf (option_map f x) bs) e h

pub taken-none : {V : Type 0} (f : V → List Formula × ValueType) (o : Option V) (rs : List Ranged) → o ≡ None → AreTaken (option_map f o) rs → (is_some_name rs && all_typed (as_bound rs)) ≡ false
taken-none f o rs e h = subst (λ x. AreTaken (option_map f x) rs) e h

-- ---- quantifiers
pub quantified-silent : (k : List ValueType → Formula → Formula) (fs : List Fault) (bs : List Bound) (p : Reading) (s : Step) → shown_outcome s.outcome ≡ silent →
    clean fs (where_typed (all_typed bs) (if_holding (λ q. holding (k (types_of bs) q)) p.outcome)) ≡ silent → told s.fault ≡ blame (fs ++ (untyped_faults bs ++ p.faults)) → IsRead s (quantified k fs bs p)
quantified-silent k fs bs p s e h f = record { outcome = e ∙ sym h; fault = f }

pub quantified-made : (k : List ValueType → Formula → Formula) (fs : List Fault) (bs : List Bound) (p : Reading) (s : Step) (fault : Option ToldFault) (ts : List ValueType) (f : Formula) → is_some fault ≡ false → told fault ≡ blame fs →
    TypesOf (Some ts) bs → holding f ≡ p.outcome → shown_outcome s.outcome ≡ holding (k ts f) → told s.fault ≡ blame (fs ++ (untyped_faults bs ++ p.faults)) → IsRead s (quantified k fs bs p)
quantified-made k fs bs p s fault ts f free same types body e g = record {
  outcome =
      e ∙ (ap (λ (us : List ValueType). holding (k us f)) types.1
      ∙ (ap (if_holding (λ q. holding (k (types_of bs) q))) body
      ∙ (ap (λ (b : Bool). where_typed b (if_holding (λ q. holding (k (types_of bs) q)) p.outcome)) (sym types.0)
      ∙ sym (clean-open fault fs (where_typed (all_typed bs) (if_holding (λ q. holding (k (types_of bs) q)) p.outcome)) free same))));
  fault = g;
}

-- ---- comprehensions
abbrev pub set_told : List Ranged → Formula → Outcome
set_told bs p = partial (whole (comprehension (ranges_of bs) p) (set_type (tuple_type (types_of (as_bound bs)))))

abbrev pub comprehension_faults : ℕ → List Fault → List Ranged → Reading → List Fault
comprehension_faults at fs bs p = fs ++ (nameless at bs ++ (untyped_faults (as_bound bs) ++ p.faults))

pub comprehended-silent : (at : ℕ) (fs : List Fault) (bs : List Ranged) (p : Reading) (s : Step) → shown_outcome s.outcome ≡ silent →
    clean fs (where_typed (is_some_name bs && all_typed (as_bound bs)) (if_holding (set_told bs) p.outcome)) ≡ silent → told s.fault ≡ blame (comprehension_faults at fs bs p) → IsRead s (comprehended at fs bs p)
comprehended-silent at fs bs p s e h f = record { outcome = e ∙ sym h; fault = f }

-- ---- lambdas
abbrev pub function_told : List Ranged → Formula → Formula → ValueType → Outcome
function_told bs p f u = partial (whole (lambda (ranges_of bs) p f) (set_type (pair_type (tuple_type (types_of (as_bound bs))) u)))

abbrev pub lambda_faults : ℕ → List Fault → List Ranged → Reading → ℕ → Reading → List Fault
lambda_faults at fs bs p there v = fs ++ (nameless at bs ++ (untyped_faults (as_bound bs) ++ (p.faults ++ (v.faults ++ (ask_value there v.outcome).faults))))

pub abstracted-silent : (at : ℕ) (fs : List Fault) (bs : List Ranged) (p v : Reading) (there : ℕ) (s : Step) → shown_outcome s.outcome ≡ silent →
    clean fs (where_typed (is_some_name bs && all_typed (as_bound bs)) (if_holding (λ q. if_giving (function_told bs q) (ask_value there v.outcome).answer) p.outcome)) ≡ silent → told s.fault ≡ blame (lambda_faults at fs bs p there v) → IsRead s (abstracted at fs bs p there v)
abstracted-silent at fs bs p v there s e h f = record { outcome = e ∙ sym h; fault = f }
