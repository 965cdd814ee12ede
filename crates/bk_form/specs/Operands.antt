-- Where an operator types, what its operands stand for, and what it stands for itself.
-- Source: B-Book, type checking.
use Rattle.std.specs.Prelude.{◌≡◌, ◌⊎◌, List}
use Rattle.bk_val.specs.ValueType.{ValueType, int_type, bool_type, pair_type, set_type}
use Rattle.bk_form.specs.Table.{Table}
use Rattle.bk_form.specs.Formula.{Formula, unary, binary}
use Rattle.bk_form.specs.Role.{Role, gives, ranges_over, predicate, role}
use Rattle.bk_form.specs.Settings.{IsOver}
use Rattle.bk_form.specs.Wider.{IsTypedRole}
use Rattle.bk_form.specs.declared.operator.UnOp.{UnOp}
use Rattle.bk_form.specs.declared.operator.UnOp.TheVariants.{Not, BoolOf, Neg, Card, Min, Max, Dom, Ran, Id, Inverse, Single, Pow, Pow1}
use Rattle.bk_form.specs.declared.operator.BinOp.{BinOp}
use Rattle.bk_form.specs.declared.operator.BinOp.TheVariants.{And, Or, Imp, Iff, Eq, Lt, Le, In, Relations, PartialFunctions}
use Rattle.bk_form.specs.declared.operator.BinOp.TheVariants.{TotalFunctions, PartialInjections, TotalInjections, PartialSurjections}
use Rattle.bk_form.specs.declared.operator.BinOp.TheVariants.{TotalSurjections, Bijections, Union, Inter, Minus, Times, DomRes, RanRes}
use Rattle.bk_form.specs.declared.operator.BinOp.TheVariants.{DomSub, RanSub, Over, Maps, Range, Add, Sub, Mul, Div, Mod, Power, Image}
use Rattle.bk_form.specs.declared.operator.BinOp.TheVariants.{Apply, Comp}

-- a set value
abbrev pub IsSetOf : ValueType → Role → Type 0
IsSetOf t r = r ≡ gives (set_type t)

-- a relation
abbrev pub IsRelationOf : ValueType → ValueType → Role → Type 0
IsRelationOf t u r = IsSetOf (pair_type t u) r

-- a set of relations, which is no value
abbrev pub RangesOverRelations : ValueType → ValueType → Role → Type 0
RangesOverRelations t u r = r ≡ ranges_over (set_type (pair_type t u))

-- ---- one operand: what it stands for, and what the whole does
-- what the operand of an operator on one operand stands for, and what the whole does
abbrev pub IsOfOne : UnOp → Role → Role → Type 0
IsOfOne Not a whole = (a ≡ predicate) × (whole ≡ predicate)
IsOfOne BoolOf a whole = (a ≡ predicate) × (whole ≡ gives bool_type)
IsOfOne Neg a whole = (a ≡ gives int_type) × (whole ≡ gives int_type)
IsOfOne Card a whole = (t : ValueType) × IsSetOf t a × (whole ≡ gives int_type)
IsOfOne Min a whole = IsSetOf int_type a × (whole ≡ gives int_type)
IsOfOne Max a whole = IsSetOf int_type a × (whole ≡ gives int_type)
IsOfOne Dom a whole = (t : ValueType) × (u : ValueType) × IsRelationOf t u a × IsSetOf t whole
IsOfOne Ran a whole = (t : ValueType) × (u : ValueType) × IsRelationOf t u a × IsSetOf u whole
IsOfOne Id a whole = (t : ValueType) × IsSetOf t a × IsRelationOf t t whole
IsOfOne Inverse a whole = (t : ValueType) × (u : ValueType) × IsRelationOf t u a × IsRelationOf u t whole
IsOfOne Single a whole = (t : ValueType) × (a ≡ gives t) × IsSetOf t whole
IsOfOne Pow a whole = (t : ValueType) × IsOver t a × (whole ≡ ranges_over (set_type t))
IsOfOne Pow1 a whole = (t : ValueType) × IsOver t a × (whole ≡ ranges_over (set_type t))

-- ---- two operands
-- both operands and the whole are predicates
abbrev pub AreTwoPredicates : Role → Role → Role → Type 0
AreTwoPredicates a b whole = (a ≡ predicate) × (b ≡ predicate) × (whole ≡ predicate)

-- two numbers, of which the whole is this
abbrev pub AreTwoNumbers : Role → Role → Role → Role → Type 0
AreTwoNumbers r a b whole = (a ≡ gives int_type) × (b ≡ gives int_type) × (whole ≡ r)

-- both operands are of one type, and the whole is a predicate
abbrev pub AreTwoValues : Role → Role → Role → Type 0
AreTwoValues a b whole = (t : ValueType) × (a ≡ gives t) × (b ≡ gives t) × (whole ≡ predicate)

-- the first operand is of a type that the second ranges over, and the whole is a predicate
abbrev pub IsMembership : Role → Role → Role → Type 0
IsMembership a b whole = (t : ValueType) × (a ≡ gives t) × IsOver t b × (whole ≡ predicate)

-- the whole ranges over the relations between what the operands range over
abbrev pub IsArrow : Role → Role → Role → Type 0
IsArrow a b whole = (t : ValueType) × (u : ValueType) × IsOver t a × IsOver u b × RangesOverRelations t u whole

-- both operands and the whole are sets of one type
abbrev pub AreTwoSets : Role → Role → Role → Type 0
AreTwoSets a b whole = (t : ValueType) × IsSetOf t a × IsSetOf t b × IsSetOf t whole

-- two set values, or two domains of which one is none
abbrev pub IsProduct : Role → Role → Role → Type 0
IsProduct a b whole = (t : ValueType) × (u : ValueType)
    × ((IsSetOf t a × IsSetOf u b × IsRelationOf t u whole) ⊎ (IsOver t a × IsOver u b × (whole ≡ ranges_over (pair_type t u))))

-- a relation, and a set of its first or of its second parts
abbrev pub IsDomainPart : Role → Role → Role → Type 0
IsDomainPart r a whole = (t : ValueType) × (u : ValueType) × IsRelationOf t u r × IsSetOf t a × IsRelationOf t u whole

-- a relation and a set of its second parts give a relation of the same type
abbrev pub IsRangePart : Role → Role → Role → Type 0
IsRangePart r a whole = (t : ValueType) × (u : ValueType) × IsRelationOf t u r × IsSetOf u a × IsRelationOf t u whole

-- both operands and the whole are relations of one type
abbrev pub IsOverriding : Role → Role → Role → Type 0
IsOverriding a b whole = (t : ValueType) × (u : ValueType) × IsRelationOf t u a × IsRelationOf t u b × IsRelationOf t u whole

-- the whole is a pair of the operands' types
abbrev pub IsPair : Role → Role → Role → Type 0
IsPair a b whole = (t : ValueType) × (u : ValueType) × (a ≡ gives t) × (b ≡ gives u) × (whole ≡ gives (pair_type t u))

-- a relation and a set of its first parts give a set of its second parts
abbrev pub IsImage : Role → Role → Role → Type 0
IsImage r a whole = (t : ValueType) × (u : ValueType) × IsRelationOf t u r × IsSetOf t a × IsSetOf u whole

-- a relation and one of its first parts give one of its second parts
abbrev pub IsApplication : Role → Role → Role → Type 0
IsApplication f a whole = (t : ValueType) × (u : ValueType) × IsRelationOf t u f × (a ≡ gives t) × (whole ≡ gives u)

-- two relations that meet in the middle give one from the first parts of one to the second parts of the other
abbrev pub IsComposition : Role → Role → Role → Type 0
IsComposition a b whole = (t : ValueType) × (u : ValueType) × (v : ValueType)
    × IsRelationOf t u a × IsRelationOf u v b × IsRelationOf t v whole

-- what the left and the right stand for, and what the whole does
abbrev pub IsOfTwo : BinOp → Role → Role → Role → Type 0
IsOfTwo And a b whole = AreTwoPredicates a b whole
IsOfTwo Or a b whole = AreTwoPredicates a b whole
IsOfTwo Imp a b whole = AreTwoPredicates a b whole
IsOfTwo Iff a b whole = AreTwoPredicates a b whole
IsOfTwo Eq a b whole = AreTwoValues a b whole
IsOfTwo Lt a b whole = AreTwoNumbers predicate a b whole
IsOfTwo Le a b whole = AreTwoNumbers predicate a b whole
IsOfTwo In a b whole = IsMembership a b whole
IsOfTwo Relations a b whole = IsArrow a b whole
IsOfTwo PartialFunctions a b whole = IsArrow a b whole
IsOfTwo TotalFunctions a b whole = IsArrow a b whole
IsOfTwo PartialInjections a b whole = IsArrow a b whole
IsOfTwo TotalInjections a b whole = IsArrow a b whole
IsOfTwo PartialSurjections a b whole = IsArrow a b whole
IsOfTwo TotalSurjections a b whole = IsArrow a b whole
IsOfTwo Bijections a b whole = IsArrow a b whole
IsOfTwo Union a b whole = AreTwoSets a b whole
IsOfTwo Inter a b whole = AreTwoSets a b whole
IsOfTwo Minus a b whole = AreTwoSets a b whole
IsOfTwo Times a b whole = IsProduct a b whole
IsOfTwo DomRes a b whole = IsDomainPart b a whole
IsOfTwo DomSub a b whole = IsDomainPart b a whole
IsOfTwo RanRes a b whole = IsRangePart a b whole
IsOfTwo RanSub a b whole = IsRangePart a b whole
IsOfTwo Over a b whole = IsOverriding a b whole
IsOfTwo Maps a b whole = IsPair a b whole
IsOfTwo Range a b whole = AreTwoNumbers (gives (set_type int_type)) a b whole
IsOfTwo Add a b whole = AreTwoNumbers (gives int_type) a b whole
IsOfTwo Sub a b whole = AreTwoNumbers (gives int_type) a b whole
IsOfTwo Mul a b whole = AreTwoNumbers (gives int_type) a b whole
IsOfTwo Div a b whole = AreTwoNumbers (gives int_type) a b whole
IsOfTwo Mod a b whole = AreTwoNumbers (gives int_type) a b whole
IsOfTwo Power a b whole = AreTwoNumbers (gives int_type) a b whole
IsOfTwo Image a b whole = IsImage a b whole
IsOfTwo Apply a b whole = IsApplication a b whole
IsOfTwo Comp a b whole = IsComposition a b whole

-- of every formula that types and is made by an operator: what the operands stand for
pub record OperandsAreTyped : Type 0 where
  pub one : (table : Table) (around : List ValueType) (o : UnOp) (a : Formula) →
      IsTypedRole (role table around (unary o a)) → IsOfOne o (role table around a) (role table around (unary o a))
  pub two : (table : Table) (around : List ValueType) (o : BinOp) (a b : Formula) → IsTypedRole (role table around (binary o a b)) →
      IsOfTwo o (role table around a) (role table around b) (role table around (binary o a b))
