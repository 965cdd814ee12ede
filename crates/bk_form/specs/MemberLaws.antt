-- What is in the sets that the operators make, and what the arrows say, as statements.
-- Source: B-Book, relations and functions.
use Rattle.std.specs.Prelude.{◌≡◌, ◌↔◌, ◌<◌, ℕ, Bool, true, false, ◌&&◌, ◌||◌, not}
use Rattle.bk_val.specs.Value.{MathValue, bool, elem, pair}
use Rattle.bk_val.specs.Sets.{has}
use Rattle.bk_val.specs.ValueType.{ValueType, pair_type, set_type, is_value_of}
use Rattle.bk_form.specs.Table.{set_size}
use Rattle.bk_form.specs.Formula.{Formula, empty_set, named, unary, binary}
use Rattle.bk_form.specs.Operators.{elements}
use Rattle.bk_form.specs.declared.operator.Domain.TheVariants.{Bool as Booleans, Enum}
use Rattle.bk_form.specs.Search.{Finder}
use Rattle.bk_form.specs.Environment.{Environment}
use Rattle.bk_form.specs.Meaning.{meaning, value, truth, within}
use Rattle.bk_form.specs.declared.operator.UnOp.TheVariants.{Dom, Ran, Id, Inverse, Single, Pow, Pow1}
use Rattle.bk_form.specs.declared.operator.BinOp.TheVariants.{In, Union, Inter, Minus, Times, DomRes, DomSub, RanRes, RanSub, Over, Comp}
use Rattle.bk_form.specs.declared.operator.BinOp.TheVariants.{Image, Apply, Relations, PartialFunctions, TotalFunctions, PartialInjections}
use Rattle.bk_form.specs.declared.operator.BinOp.TheVariants.{TotalInjections, PartialSurjections, TotalSurjections, Bijections}
use Rattle.bk_form.specs.Settings.{IsSetting, IsPredicateIn, GivesIn, RangesIn}

-- which values are in the sets and domains that the operators make
pub record OperatorMembers : Type 0 where
  pub empty : (find : Finder) (e : Environment) (t : ValueType) (v : MathValue) → within find e v (empty_set t) ≡ false
  pub booleans : (find : Finder) (e : Environment) (v : MathValue) → (within find e v (named Booleans) ≡ true) ↔ ((b : Bool) × (v ≡ bool b))
  pub enumerated : (find : Finder) (e : Environment) (n : ℕ) (v : MathValue) →
      (within find e v (named (Enum n)) ≡ true) ↔ ((i : ℕ) × (i < set_size e.table n) × (v ≡ elem n i))
  -- f(x), where it is a set, has the members of its value
  pub applied : (find : Finder) (e : Environment) (f a : Formula) (t : ValueType) → GivesIn e (binary Apply f a) (set_type t) →
      (v : MathValue) → within find e v (binary Apply f a) ≡ has (elements (value find e (binary Apply f a))) v
  pub union : (find : Finder) (e : Environment) (a b : Formula) (t : ValueType) → GivesIn e (binary Union a b) (set_type t) →
      (v : MathValue) → within find e v (binary Union a b) ≡ (within find e v a || within find e v b)
  pub inter : (find : Finder) (e : Environment) (a b : Formula) (t : ValueType) → GivesIn e (binary Inter a b) (set_type t) →
      (v : MathValue) → within find e v (binary Inter a b) ≡ (within find e v a && within find e v b)
  pub minus : (find : Finder) (e : Environment) (a b : Formula) (t : ValueType) → GivesIn e (binary Minus a b) (set_type t) →
      (v : MathValue) → within find e v (binary Minus a b) ≡ (within find e v a && not (within find e v b))
  pub product : (find : Finder) (e : Environment) (a b : Formula) (x y : MathValue) →
      within find e (pair x y) (binary Times a b) ≡ (within find e x a && within find e y b)
  pub domain_restricted : (find : Finder) (e : Environment) (a r : Formula) (t u : ValueType) →
      GivesIn e (binary DomRes a r) (set_type (pair_type t u)) → (x y : MathValue) →
      within find e (pair x y) (binary DomRes a r) ≡ (within find e (pair x y) r && within find e x a)
  pub domain_subtracted : (find : Finder) (e : Environment) (a r : Formula) (t u : ValueType) →
      GivesIn e (binary DomSub a r) (set_type (pair_type t u)) → (x y : MathValue) →
      within find e (pair x y) (binary DomSub a r) ≡ (within find e (pair x y) r && not (within find e x a))
  pub range_restricted : (find : Finder) (e : Environment) (r b : Formula) (t u : ValueType) →
      GivesIn e (binary RanRes r b) (set_type (pair_type t u)) → (x y : MathValue) →
      within find e (pair x y) (binary RanRes r b) ≡ (within find e (pair x y) r && within find e y b)
  pub range_subtracted : (find : Finder) (e : Environment) (r b : Formula) (t u : ValueType) →
      GivesIn e (binary RanSub r b) (set_type (pair_type t u)) → (x y : MathValue) →
      within find e (pair x y) (binary RanSub r b) ≡ (within find e (pair x y) r && not (within find e y b))
  pub domain : (find : Finder) (e : Environment) → IsSetting find e →
      (r : Formula) (t u : ValueType) → GivesIn e r (set_type (pair_type t u)) → (x : MathValue) →
      (within find e x (unary Dom r) ≡ true) ↔ ((y : MathValue) × (within find e (pair x y) r ≡ true))
  pub range : (find : Finder) (e : Environment) → IsSetting find e →
      (r : Formula) (t u : ValueType) → GivesIn e r (set_type (pair_type t u)) → (y : MathValue) →
      (within find e y (unary Ran r) ≡ true) ↔ ((x : MathValue) × (within find e (pair x y) r ≡ true))
  -- a pair of the second, or of the first where it begins outside of the second's domain
  pub overridden : (find : Finder) (e : Environment) → IsSetting find e → (r s : Formula) (t u : ValueType) →
      GivesIn e (binary Over r s) (set_type (pair_type t u)) → (x y : MathValue) →
      within find e (pair x y) (binary Over r s) ≡
      ((within find e (pair x y) r && not (within find e x (unary Dom s))) || within find e (pair x y) s)
  pub single : (find : Finder) (e : Environment) → IsSetting find e → (a : Formula) (v : MathValue) →
      (within find e v (unary Single a) ≡ true) ↔ (v ≡ value find e a)
  pub inverse : (find : Finder) (e : Environment) → IsSetting find e →
      (r : Formula) (t u : ValueType) → GivesIn e r (set_type (pair_type t u)) → (x y : MathValue) →
      within find e (pair y x) (unary Inverse r) ≡ within find e (pair x y) r
  pub identity : (find : Finder) (e : Environment) → IsSetting find e →
      (s : Formula) (t : ValueType) → GivesIn e s (set_type t) → (x y : MathValue) →
      (within find e (pair x y) (unary Id s) ≡ true) ↔ ((within find e x s ≡ true) × (x ≡ y))
  pub composed : (find : Finder) (e : Environment) → IsSetting find e → (r s : Formula) (t u : ValueType) →
      GivesIn e (binary Comp r s) (set_type (pair_type t u)) → (x z : MathValue) →
      (within find e (pair x z) (binary Comp r s) ≡ true)
      ↔ ((y : MathValue) × (within find e (pair x y) r ≡ true) × (within find e (pair y z) s ≡ true))
  pub image : (find : Finder) (e : Environment) (r a : Formula) (t u : ValueType) →
      GivesIn e r (set_type (pair_type t u)) → GivesIn e a (set_type t) → (y : MathValue) →
      (within find e y (binary Image r a) ≡ true) ↔ ((x : MathValue) × (within find e x a ≡ true) × (within find e (pair x y) r ≡ true))
  pub power : (find : Finder) (e : Environment) → IsSetting find e → (s a : Formula) (t : ValueType) → GivesIn e s (set_type t) →
      (truth find e (binary In s (unary Pow a)) ≡ true) ↔ ((x : MathValue) → within find e x s ≡ true → within find e x a ≡ true)
  pub some_power : (find : Finder) (e : Environment) → IsSetting find e → (s a : Formula) (t : ValueType) → GivesIn e s (set_type t) →
      (truth find e (binary In s (unary Pow1 a)) ≡ true)
      ↔ (((x : MathValue) → within find e x s ≡ true → within find e x a ≡ true) × ((x : MathValue) × (within find e x s ≡ true)))

-- ---- arrows
-- x |-> y is in f
abbrev pub IsPairIn : Finder → Environment → Formula → MathValue → MathValue → Type 0
IsPairIn find e f x y = within find e (pair x y) f ≡ true

-- f maps nothing to two values
abbrev pub IsSingleValued : Finder → Environment → Formula → Type 0
IsSingleValued find e f = (x y z : MathValue) → IsPairIn find e f x y → IsPairIn find e f x z → y ≡ z

-- f maps no two values to one
abbrev pub IsOneToOne : Finder → Environment → Formula → Type 0
IsOneToOne find e f = (x y z : MathValue) → IsPairIn find e f x z → IsPairIn find e f y z → x ≡ y

-- f maps members of a to members of b
abbrev pub IsBetween : Finder → Environment → Formula → Formula → Formula → Type 0
IsBetween find e f a b = (x y : MathValue) → IsPairIn find e f x y → (within find e x a ≡ true) × (within find e y b ≡ true)

-- f maps each member of a, whose members are of the type t
abbrev pub CoversFrom : Finder → Environment → Formula → ValueType → Formula → Type 0
CoversFrom find e f t a = (x : MathValue) → is_value_of (set_size e.table) t x ≡ true →
    within find e x a ≡ true → (y : MathValue) × IsPairIn find e f x y

-- f maps something to each member of b, whose members are of the type u
abbrev pub CoversTo : Finder → Environment → Formula → ValueType → Formula → Type 0
CoversTo find e f u b = (y : MathValue) → is_value_of (set_size e.table) u y ≡ true →
    within find e y b ≡ true → (x : MathValue) × IsPairIn find e f x y

-- where f gives a relation: what each arrow between two sets says of it, and what it gives for an argument
pub record ArrowsMean : Type 0 where
  pub relation : (find : Finder) (e : Environment) → IsSetting find e →
      (f : Formula) (t u : ValueType) → GivesIn e f (set_type (pair_type t u)) → (a b : Formula) →
      (truth find e (binary In f (binary Relations a b)) ≡ true) ↔ IsBetween find e f a b
  pub partial : (find : Finder) (e : Environment) → IsSetting find e →
      (f : Formula) (t u : ValueType) → GivesIn e f (set_type (pair_type t u)) → (a b : Formula) →
      (truth find e (binary In f (binary PartialFunctions a b)) ≡ true) ↔ (IsBetween find e f a b × IsSingleValued find e f)
  pub total : (find : Finder) (e : Environment) → IsSetting find e → (f : Formula) (t u : ValueType) →
      GivesIn e f (set_type (pair_type t u)) → (a b : Formula) → RangesIn e a t →
      (truth find e (binary In f (binary TotalFunctions a b)) ≡ true)
      ↔ (IsBetween find e f a b × IsSingleValued find e f × CoversFrom find e f t a)
  pub injection : (find : Finder) (e : Environment) → IsSetting find e →
      (f : Formula) (t u : ValueType) → GivesIn e f (set_type (pair_type t u)) → (a b : Formula) →
      (truth find e (binary In f (binary PartialInjections a b)) ≡ true)
      ↔ (IsBetween find e f a b × IsSingleValued find e f × IsOneToOne find e f)
  pub total_injection : (find : Finder) (e : Environment) → IsSetting find e → (f : Formula) (t u : ValueType) →
      GivesIn e f (set_type (pair_type t u)) → (a b : Formula) → RangesIn e a t →
      (truth find e (binary In f (binary TotalInjections a b)) ≡ true)
      ↔ (IsBetween find e f a b × IsSingleValued find e f × IsOneToOne find e f × CoversFrom find e f t a)
  pub surjection : (find : Finder) (e : Environment) → IsSetting find e → (f : Formula) (t u : ValueType) →
      GivesIn e f (set_type (pair_type t u)) → (a b : Formula) → RangesIn e b u →
      (truth find e (binary In f (binary PartialSurjections a b)) ≡ true)
      ↔ (IsBetween find e f a b × IsSingleValued find e f × CoversTo find e f u b)
  pub total_surjection : (find : Finder) (e : Environment) → IsSetting find e → (f : Formula) (t u : ValueType) →
      GivesIn e f (set_type (pair_type t u)) → (a b : Formula) → RangesIn e a t → RangesIn e b u →
      (truth find e (binary In f (binary TotalSurjections a b)) ≡ true)
      ↔ (IsBetween find e f a b × IsSingleValued find e f × CoversFrom find e f t a × CoversTo find e f u b)
  pub bijection : (find : Finder) (e : Environment) → IsSetting find e → (f : Formula) (t u : ValueType) →
      GivesIn e f (set_type (pair_type t u)) → (a b : Formula) → RangesIn e a t → RangesIn e b u →
      (truth find e (binary In f (binary Bijections a b)) ≡ true)
      ↔ (IsBetween find e f a b × IsSingleValued find e f × IsOneToOne find e f × CoversFrom find e f t a × CoversTo find e f u b)
  pub applied : (find : Finder) (e : Environment) → IsSetting find e → (f : Formula) (t u : ValueType) →
      GivesIn e f (set_type (pair_type t u)) → (a : Formula) (y : MathValue) → IsPairIn find e f (value find e a) y →
      ((z : MathValue) → IsPairIn find e f (value find e a) z → z ≡ y) → value find e (binary Apply f a) ≡ y

-- a predicate means no more than its truth, and a set no more than its members
pub record MeaningIsKnown : Type 0 where
  pub predicates : (find : Finder) (e : Environment) (p q : Formula) → IsPredicateIn e p →
      IsPredicateIn e q → truth find e p ≡ truth find e q → meaning find e p ≡ meaning find e q
  pub sets : (find : Finder) (e : Environment) → IsSetting find e →
      (a b : Formula) (t : ValueType) → GivesIn e a (set_type t) → GivesIn e b (set_type t) →
      ((v : MathValue) → is_value_of (set_size e.table) t v ≡ true → within find e v a ≡ within find e v b) →
      meaning find e a ≡ meaning find e b
