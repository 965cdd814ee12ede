-- A formula of which a child has no role has none itself, so what stands in a formula that types, types.
use Rattle.std.proofs.Common.{◌≡◌, ℕ, zero, suc, List, [], ◌∷◌, refl, ◌∙◌, ap, Bool, true, false, ◌&&◌}
use Rattle.std.specs.Prelude.{Some, slice_get}
use Rattle.bk_val.specs.ValueType.{ValueType, int_type, pair_type, set_type}
use Rattle.bk_form.specs.Table.{Table}
use Rattle.bk_form.specs.Formula.{Formula, unary, binary, comprehension, lambda, Formulas, no_formulas, formula_and, list_of_formulas}
use Rattle.bk_form.specs.Role.{Role, gives, ranges_over, predicate, untyped, if_holds, if_predicate, if_number, if_value, if_set, if_relation, if_domain, product_role, unary_role, binary_role, gives_set, each_gives_set, are_ranges, element_types, tuple_type, bind, role, roles}
use Rattle.bk_form.specs.declared.operator.UnOp.{UnOp}
use Rattle.bk_form.specs.declared.operator.UnOp.TheVariants.{Not, BoolOf, Neg, Card, Min, Max, Dom, Ran, Id, Inverse, Single, Pow, Pow1}
use Rattle.bk_form.specs.declared.operator.BinOp.{BinOp}
use Rattle.bk_form.specs.declared.operator.BinOp.TheVariants.{And, Or, Imp, Iff, Eq, Lt, Le, In, Relations, PartialFunctions, TotalFunctions, PartialInjections, TotalInjections, PartialSurjections, TotalSurjections, Bijections, Union, Inter, Minus, Times, DomRes, RanRes, DomSub, RanSub, Over, Maps, Range, Add, Sub, Mul, Div, Mod, Power, Image, Apply, Comp}
use Rattle.bk_seq.specs.Paths.{child, sub_at}
use Rattle.bk_seq.specs.PathLaws.{PartsType}
use Rattle.bk_seq.proofs.Paths.{entered}

-- ---- a rule whose rest has no role
of-predicate : (a : Role) → if_predicate untyped a ≡ untyped
of-predicate predicate = refl
of-predicate _ = refl

of-number : (a : Role) → if_number untyped a ≡ untyped
of-number (gives int_type) = refl
of-number (gives _) = refl
of-number _ = refl

of-value : (a : Role) → if_value (λ t. untyped) a ≡ untyped
of-value (gives t) = refl
of-value _ = refl

of-set : (a : Role) → if_set (λ t. untyped) a ≡ untyped
of-set (gives (set_type t)) = refl
of-set (gives _) = refl
of-set _ = refl

of-relation : (a : Role) → if_relation (λ t u. untyped) a ≡ untyped
of-relation (gives (set_type (pair_type t u))) = refl
of-relation (gives (set_type _)) = refl
of-relation (gives _) = refl
of-relation _ = refl

of-domain : (a : Role) → if_domain (λ t. untyped) a ≡ untyped
of-domain (gives (set_type t)) = refl
of-domain (gives _) = refl
of-domain (ranges_over t) = refl
of-domain _ = refl

of-product : (a : Role) → product_role a untyped ≡ untyped
of-product (gives (set_type t)) = refl
of-product (gives _) = refl
of-product (ranges_over t) = refl
of-product _ = refl

-- ---- an operand without a role
unary-untyped : (o : UnOp) → unary_role o untyped ≡ untyped
unary-untyped Not = refl
unary-untyped BoolOf = refl
unary-untyped Neg = refl
unary-untyped Card = refl
unary-untyped Min = refl
unary-untyped Max = refl
unary-untyped Dom = refl
unary-untyped Ran = refl
unary-untyped Id = refl
unary-untyped Inverse = refl
unary-untyped Single = refl
unary-untyped Pow = refl
unary-untyped Pow1 = refl

left-untyped : (o : BinOp) (b : Role) → binary_role o untyped b ≡ untyped
left-untyped And b = refl
left-untyped Or b = refl
left-untyped Imp b = refl
left-untyped Iff b = refl
left-untyped Eq b = refl
left-untyped Lt b = refl
left-untyped Le b = refl
left-untyped In b = refl
left-untyped Relations b = refl
left-untyped PartialFunctions b = refl
left-untyped TotalFunctions b = refl
left-untyped PartialInjections b = refl
left-untyped TotalInjections b = refl
left-untyped PartialSurjections b = refl
left-untyped TotalSurjections b = refl
left-untyped Bijections b = refl
left-untyped Union b = refl
left-untyped Inter b = refl
left-untyped Minus b = refl
left-untyped Times b = refl
left-untyped DomRes b = of-relation b
left-untyped RanRes b = refl
left-untyped DomSub b = of-relation b
left-untyped RanSub b = refl
left-untyped Over b = refl
left-untyped Maps b = refl
left-untyped Range b = refl
left-untyped Add b = refl
left-untyped Sub b = refl
left-untyped Mul b = refl
left-untyped Div b = refl
left-untyped Mod b = refl
left-untyped Power b = refl
left-untyped Image b = refl
left-untyped Apply b = refl
left-untyped Comp b = refl

right-untyped : (o : BinOp) (a : Role) → binary_role o a untyped ≡ untyped
right-untyped And a = of-predicate a
right-untyped Or a = of-predicate a
right-untyped Imp a = of-predicate a
right-untyped Iff a = of-predicate a
right-untyped Eq a = of-value a
right-untyped Lt a = of-number a
right-untyped Le a = of-number a
right-untyped In a = of-value a
right-untyped Relations a = of-domain a
right-untyped PartialFunctions a = of-domain a
right-untyped TotalFunctions a = of-domain a
right-untyped PartialInjections a = of-domain a
right-untyped TotalInjections a = of-domain a
right-untyped PartialSurjections a = of-domain a
right-untyped TotalSurjections a = of-domain a
right-untyped Bijections a = of-domain a
right-untyped Union a = of-set a
right-untyped Inter a = of-set a
right-untyped Minus a = of-set a
right-untyped Times a = of-product a
right-untyped DomRes a = refl
right-untyped RanRes a = of-relation a
right-untyped DomSub a = refl
right-untyped RanSub a = of-relation a
right-untyped Over a = of-relation a
right-untyped Maps a = of-value a
right-untyped Range a = of-number a
right-untyped Add a = of-number a
right-untyped Sub a = of-number a
right-untyped Mul a = of-number a
right-untyped Div a = of-number a
right-untyped Mod a = of-number a
right-untyped Power a = of-number a
right-untyped Image a = of-relation a
right-untyped Apply a = of-relation a
right-untyped Comp a = of-relation a

-- ---- a range without a role
and-false : (b : Bool) → (b && false) ≡ false
and-false true = refl
and-false false = refl

module _ (table : Table) (around : List ValueType) where
  no-set : (rs : Formulas) (n : ℕ) (c : Formula) → slice_get (list_of_formulas rs) n ≡ Some c → role table around c ≡ untyped → each_gives_set (roles table around rs) ≡ false
  no-set no_formulas n c e h = absurd (cc)
  no-set (formula_and f fs) zero c e h =
      let same : f ≡ c = cc in
      ap (λ r. gives_set r && each_gives_set (roles table around fs)) (ap (role table around) same ∙ h)
  no-set (formula_and f fs) (suc n) c e h =
      ap (λ b. gives_set (role table around f) && b) (no-set fs n c e h) ∙ and-false (gives_set (role table around f))

  no-ranges : (rs : Formulas) → each_gives_set (roles table around rs) ≡ false → are_ranges (roles table around rs) ≡ false
  no-ranges no_formulas h = refl
  no-ranges (formula_and f fs) h = h

  child-untyped : (f : Formula) (n : ℕ) (c : Formula) → child f n ≡ Some c → role table around c ≡ untyped → role table around f ≡ untyped
  child-untyped (unary o a) (suc zero) c e h = let same : a ≡ c = cc in ap (unary_role o) (ap (role table around) same ∙ h) ∙ unary-untyped o
  child-untyped (binary o a b) (suc zero) c e h = let same : a ≡ c = cc in ap (λ r. binary_role o r (role table around b)) (ap (role table around) same ∙ h) ∙ left-untyped o (role table around b)
  child-untyped (binary o a b) (suc (suc zero)) c e h = let same : b ≡ c = cc in ap (binary_role o (role table around a)) (ap (role table around) same ∙ h) ∙ right-untyped o (role table around a)
  child-untyped (comprehension rs p) (suc n) c e h =
      let inner = if_predicate (gives (set_type (tuple_type (element_types (roles table around rs))))) (role table (bind (element_types (roles table around rs)) around) p) in
      ap (λ b. if_holds b inner) (no-ranges rs (no-set rs n c e h))
  child-untyped (lambda rs p v) (suc n) c e h =
      let body = role table (bind (element_types (roles table around rs)) around) p in
      let image = role table (bind (element_types (roles table around rs)) around) v in
      ap (λ b. if_holds b (if_predicate (if_value (λ u. gives (set_type (pair_type (tuple_type (element_types (roles table around rs))) u))) image) body)) (no-ranges rs (no-set rs n c e h))
  child-untyped f zero c e h = absurd (cc)
  child-untyped f (suc n) c e h = absurd (cc)

  part-untyped : (f : Formula) (path : List ℕ) (part : Formula) → sub_at f path ≡ Some part → role table around part ≡ untyped → role table around f ≡ untyped
  part-untyped f [] part e h = let same : f ≡ part = cc in ap (role table around) same ∙ h
  part-untyped f (n ∷ ns) part e h =
      let k = entered f n ns part e in
      child-untyped f n k.first k.is_child (part-untyped k.first ns part k.below h)

pub parts_type : PartsType
parts_type table around f path part e types h = types (part-untyped table around f path part e h)
