-- A formula that gives a type gives one whose sets the table lists.
use Rattle.std.proofs.Common.{◌≡◌, ℕ, nat_lt, List, [], ◌∷◌, refl, sym, ◌∙◌, subst, true, ◌&&◌}
use Rattle.std.specs.Prelude.{Option, Some, None, slice_get}
use Rattle.bk_val.specs.ValueType.{ValueType, int_type, bool_type, enum_type, pair_type, set_type}
use Rattle.bk_form.specs.Table.{Table, lists_type, listed_size, variable_type}
use Rattle.bk_form.specs.Formula.{Formula, variable, bound, literal, truth_value, element, empty_set, named, btrue, bfalse, unary, binary, for_all, for_some, comprehension, lambda, Formulas, no_formulas, formula_and}
use Rattle.bk_form.specs.Role.{Role, gives, predicate, if_holds, if_predicate, if_number, if_value, if_set, if_relation, same_type, given_by, bound_role, empty_role, element_role, named_role, role, roles, unary_role, binary_role, numbers_role, sets_role, product_role, domain_part_role, range_part_role, override_role, pair_role, image_role, application_role, composition_role, bind, gives_set, each_gives_set, are_ranges, element_type, element_types, tuple_type_onto, tuple_type}
use Rattle.bk_form.specs.declared.operator.UnOp.{UnOp}
use Rattle.bk_form.specs.declared.operator.UnOp.TheVariants.{Not, BoolOf, Neg, Card, Min, Max, Dom, Ran, Id, Inverse, Single, Pow, Pow1}
use Rattle.bk_form.specs.declared.operator.BinOp.{BinOp}
use Rattle.bk_form.specs.declared.operator.BinOp.TheVariants.{And, Or, Imp, Iff, Eq, Lt, Le, In, Relations, PartialFunctions, TotalFunctions, PartialInjections, TotalInjections, PartialSurjections, TotalSurjections, Bijections, Union, Inter, Minus, Times, DomRes, RanRes, DomSub, RanSub, Over, Maps, Range, Add, Sub, Mul, Div, Mod, Power, Image, Apply, Comp}
use Rattle.bk_form.specs.declared.operator.Domain.{Domain}
use Rattle.bk_form.specs.declared.operator.Domain.TheVariants.{Bool as Booleans, Enum}
use Rattle.bk_form.proofs.Members.{and-true, and-both}
use Rattle.bk_form.proofs.Roles.{if_holds-gives, if_predicate-gives, if_number-gives, if_value-gives, if_set-gives, if_relation-gives}
use Rattle.bk_form.proofs.Givers.{connective-gives, comparison-gives, equality-gives, membership-gives, arrow-gives, power-gives, quantifier-gives, product-gives}

pub gives-same : (t u : ValueType) → gives t ≡ gives u → t ≡ u
gives-same t u h = cc

module _ (table : Table) where
  abbrev pub Lists : ValueType → Type 0
  Lists t = lists_type table t ≡ true

  -- what the role gives is listed
  abbrev pub ListedRole : Role → Type 0
  ListedRole r = (t : ValueType) → r ≡ gives t → Lists t

  as_given : (t u : ValueType) → gives t ≡ gives u → Lists t → Lists u
  as_given t u h l = subst Lists (gives-same t u h) l

  unary-listed : (o : UnOp) (r : Role) → ListedRole r → ListedRole (unary_role o r)
  unary-listed Not r l t h = let k = if_predicate-gives predicate r t h in absurd (cc k.1)
  unary-listed BoolOf r l t h = let k = if_predicate-gives (gives bool_type) r t h in as_given bool_type t k.1 refl
  unary-listed Neg r l t h = let k = if_number-gives (gives int_type) r t h in as_given int_type t k.1 refl
  unary-listed Card r l t h = let k = if_set-gives (λ u. gives int_type) r t h in as_given int_type t k.2 refl
  unary-listed Min r l t h = let k = if_set-gives (λ u. if_holds (same_type u int_type) (gives int_type)) r t h in let m = if_holds-gives (same_type k.0 int_type) (gives int_type) t k.2 in as_given int_type t m.1 refl
  unary-listed Max r l t h = let k = if_set-gives (λ u. if_holds (same_type u int_type) (gives int_type)) r t h in let m = if_holds-gives (same_type k.0 int_type) (gives int_type) t k.2 in as_given int_type t m.1 refl
  unary-listed Dom r l t h = let k = if_relation-gives (λ u v. gives (set_type u)) r t h in as_given (set_type k.first) t k.result (and-both (lists_type table k.first) (lists_type table k.second) (l (set_type (pair_type k.first k.second)) k.operand)).0
  unary-listed Ran r l t h = let k = if_relation-gives (λ u v. gives (set_type v)) r t h in as_given (set_type k.second) t k.result (and-both (lists_type table k.first) (lists_type table k.second) (l (set_type (pair_type k.first k.second)) k.operand)).1
  unary-listed Id r l t h = let k = if_set-gives (λ u. gives (set_type (pair_type u u))) r t h in let m = l (set_type k.0) k.1 in as_given (set_type (pair_type k.0 k.0)) t k.2 (and-true (lists_type table k.0) (lists_type table k.0) m m)
  unary-listed Inverse r l t h = let k = if_relation-gives (λ u v. gives (set_type (pair_type v u))) r t h in let m = and-both (lists_type table k.first) (lists_type table k.second) (l (set_type (pair_type k.first k.second)) k.operand) in as_given (set_type (pair_type k.second k.first)) t k.result (and-true (lists_type table k.second) (lists_type table k.first) m.1 m.0)
  unary-listed Single r l t h = let k = if_value-gives (λ u. gives (set_type u)) r t h in as_given (set_type k.0) t k.2 (l k.0 k.1)
  unary-listed Pow r l t h = absurd (power-gives r t h)
  unary-listed Pow1 r l t h = absurd (power-gives r t h)

  numbers-listed : (u : ValueType) (a b : Role) (t : ValueType) → Lists u → numbers_role (gives u) a b ≡ gives t → Lists t
  numbers-listed u a b t m h = let k = if_number-gives (if_number (gives u) b) a t h in let n = if_number-gives (gives u) b t k.1 in as_given u t n.1 m

  sets-listed : (a b : Role) (t : ValueType) → ListedRole a → sets_role a b ≡ gives t → Lists t
  sets-listed a b t l h =
      let k = if_set-gives (λ v. if_set (λ u. if_holds (same_type v u) (gives (set_type v))) b) a t h in
      let n = if_set-gives (λ u. if_holds (same_type k.0 u) (gives (set_type k.0))) b t k.2 in
      let m = if_holds-gives (same_type k.0 n.0) (gives (set_type k.0)) t n.2 in
      as_given (set_type k.0) t m.1 (l (set_type k.0) k.1)

  domain_part-listed : (r a : Role) (t : ValueType) → ListedRole r → domain_part_role r a ≡ gives t → Lists t
  domain_part-listed r a t l h =
      let k = if_relation-gives (λ u v. if_set (λ w. if_holds (same_type w u) (gives (set_type (pair_type u v)))) a) r t h in
      let n = if_set-gives (λ w. if_holds (same_type w k.first) (gives (set_type (pair_type k.first k.second)))) a t k.result in
      let m = if_holds-gives (same_type n.0 k.first) (gives (set_type (pair_type k.first k.second))) t n.2 in
      as_given (set_type (pair_type k.first k.second)) t m.1 (l (set_type (pair_type k.first k.second)) k.operand)

  range_part-listed : (r a : Role) (t : ValueType) → ListedRole r → range_part_role r a ≡ gives t → Lists t
  range_part-listed r a t l h =
      let k = if_relation-gives (λ u v. if_set (λ w. if_holds (same_type w v) (gives (set_type (pair_type u v)))) a) r t h in
      let n = if_set-gives (λ w. if_holds (same_type w k.second) (gives (set_type (pair_type k.first k.second)))) a t k.result in
      let m = if_holds-gives (same_type n.0 k.second) (gives (set_type (pair_type k.first k.second))) t n.2 in
      as_given (set_type (pair_type k.first k.second)) t m.1 (l (set_type (pair_type k.first k.second)) k.operand)

  override-listed : (a b : Role) (t : ValueType) → ListedRole a → override_role a b ≡ gives t → Lists t
  override-listed a b t l h =
      let k = if_relation-gives (λ u v. if_relation (λ w x. if_holds (same_type u w && same_type v x) (gives (set_type (pair_type u v)))) b) a t h in
      let n = if_relation-gives (λ w x. if_holds (same_type k.first w && same_type k.second x) (gives (set_type (pair_type k.first k.second)))) b t k.result in
      let m = if_holds-gives (same_type k.first n.first && same_type k.second n.second) (gives (set_type (pair_type k.first k.second))) t n.result in
      as_given (set_type (pair_type k.first k.second)) t m.1 (l (set_type (pair_type k.first k.second)) k.operand)

  pair-listed : (a b : Role) (t : ValueType) → ListedRole a → ListedRole b → pair_role a b ≡ gives t → Lists t
  pair-listed a b t l m h =
      let k = if_value-gives (λ u. if_value (λ v. gives (pair_type u v)) b) a t h in
      let n = if_value-gives (λ v. gives (pair_type k.0 v)) b t k.2 in
      as_given (pair_type k.0 n.0) t n.2 (and-true (lists_type table k.0) (lists_type table n.0) (l k.0 k.1) (m n.0 n.1))

  image-listed : (r a : Role) (t : ValueType) → ListedRole r → image_role r a ≡ gives t → Lists t
  image-listed r a t l h =
      let k = if_relation-gives (λ u v. if_set (λ w. if_holds (same_type w u) (gives (set_type v))) a) r t h in
      let n = if_set-gives (λ w. if_holds (same_type w k.first) (gives (set_type k.second))) a t k.result in
      let m = if_holds-gives (same_type n.0 k.first) (gives (set_type k.second)) t n.2 in
      as_given (set_type k.second) t m.1 (and-both (lists_type table k.first) (lists_type table k.second) (l (set_type (pair_type k.first k.second)) k.operand)).1

  application-listed : (r a : Role) (t : ValueType) → ListedRole r → application_role r a ≡ gives t → Lists t
  application-listed r a t l h =
      let k = if_relation-gives (λ u v. if_value (λ w. if_holds (same_type w u) (gives v)) a) r t h in
      let n = if_value-gives (λ w. if_holds (same_type w k.first) (gives k.second)) a t k.result in
      let m = if_holds-gives (same_type n.0 k.first) (gives k.second) t n.2 in
      as_given k.second t m.1 (and-both (lists_type table k.first) (lists_type table k.second) (l (set_type (pair_type k.first k.second)) k.operand)).1

  composition-listed : (a b : Role) (t : ValueType) → ListedRole a → ListedRole b → composition_role a b ≡ gives t → Lists t
  composition-listed a b t l m h =
      let k = if_relation-gives (λ u v. if_relation (λ w x. if_holds (same_type v w) (gives (set_type (pair_type u x)))) b) a t h in
      let n = if_relation-gives (λ w x. if_holds (same_type k.second w) (gives (set_type (pair_type k.first x)))) b t k.result in
      let o = if_holds-gives (same_type k.second n.first) (gives (set_type (pair_type k.first n.second))) t n.result in
      as_given (set_type (pair_type k.first n.second)) t o.1 (and-true (lists_type table k.first) (lists_type table n.second)
      (and-both (lists_type table k.first) (lists_type table k.second) (l (set_type (pair_type k.first k.second)) k.operand)).0
      (and-both (lists_type table n.first) (lists_type table n.second) (m (set_type (pair_type n.first n.second)) n.operand)).1)

  product-listed : (a b : Role) (t : ValueType) → ListedRole a → ListedRole b → product_role a b ≡ gives t → Lists t
  product-listed a b t l m h = let k = product-gives a b t h in subst Lists k.result (and-true (lists_type table k.first) (lists_type table k.second) (l (set_type k.first) k.left) (m (set_type k.second) k.right))

  binary-listed : (o : BinOp) (a b : Role) → ListedRole a → ListedRole b → ListedRole (binary_role o a b)
  binary-listed And a b l m t h = absurd (connective-gives a b t h)
  binary-listed Or a b l m t h = absurd (connective-gives a b t h)
  binary-listed Imp a b l m t h = absurd (connective-gives a b t h)
  binary-listed Iff a b l m t h = absurd (connective-gives a b t h)
  binary-listed Eq a b l m t h = absurd (equality-gives a b t h)
  binary-listed Lt a b l m t h = absurd (comparison-gives a b t h)
  binary-listed Le a b l m t h = absurd (comparison-gives a b t h)
  binary-listed In a b l m t h = absurd (membership-gives a b t h)
  binary-listed Relations a b l m t h = absurd (arrow-gives a b t h)
  binary-listed PartialFunctions a b l m t h = absurd (arrow-gives a b t h)
  binary-listed TotalFunctions a b l m t h = absurd (arrow-gives a b t h)
  binary-listed PartialInjections a b l m t h = absurd (arrow-gives a b t h)
  binary-listed TotalInjections a b l m t h = absurd (arrow-gives a b t h)
  binary-listed PartialSurjections a b l m t h = absurd (arrow-gives a b t h)
  binary-listed TotalSurjections a b l m t h = absurd (arrow-gives a b t h)
  binary-listed Bijections a b l m t h = absurd (arrow-gives a b t h)
  binary-listed Union a b l m t h = sets-listed a b t l h
  binary-listed Inter a b l m t h = sets-listed a b t l h
  binary-listed Minus a b l m t h = sets-listed a b t l h
  binary-listed Times a b l m t h = product-listed a b t l m h
  binary-listed DomRes a b l m t h = domain_part-listed b a t m h
  binary-listed RanRes a b l m t h = range_part-listed a b t l h
  binary-listed DomSub a b l m t h = domain_part-listed b a t m h
  binary-listed RanSub a b l m t h = range_part-listed a b t l h
  binary-listed Over a b l m t h = override-listed a b t l h
  binary-listed Maps a b l m t h = pair-listed a b t l m h
  binary-listed Range a b l m t h = numbers-listed (set_type int_type) a b t refl h
  binary-listed Add a b l m t h = numbers-listed int_type a b t refl h
  binary-listed Sub a b l m t h = numbers-listed int_type a b t refl h
  binary-listed Mul a b l m t h = numbers-listed int_type a b t refl h
  binary-listed Div a b l m t h = numbers-listed int_type a b t refl h
  binary-listed Mod a b l m t h = numbers-listed int_type a b t refl h
  binary-listed Power a b l m t h = numbers-listed int_type a b t refl h
  binary-listed Image a b l m t h = image-listed a b t l h
  binary-listed Apply a b l m t h = application-listed a b t l h
  binary-listed Comp a b l m t h = composition-listed a b t l m h

  abbrev pub ListedRoles : List Role → Type 0
  ListedRoles [] = Unit {0}
  ListedRoles (r ∷ rs) = ListedRole r × ListedRoles rs

  pub element-listed : (r : Role) → ListedRole r → gives_set r ≡ true → Lists (element_type r)
  element-listed (gives (set_type t)) l h = l (set_type t) refl
  element-listed _ l h = absurd (cc)

  tuple_onto-listed : (t : ValueType) (rs : List Role) → Lists t → ListedRoles rs → each_gives_set rs ≡ true → Lists (tuple_type_onto t (element_types rs))
  tuple_onto-listed t [] m l h = m
  tuple_onto-listed t (r ∷ rs) m l h =
      let k = and-both (gives_set r) (each_gives_set rs) h in
      tuple_onto-listed (pair_type t (element_type r)) rs (and-true (lists_type table t) (lists_type table (element_type r)) m (element-listed r l.0 k.0)) l.1 k.1

  pub tuple-listed : (rs : List Role) → ListedRoles rs → are_ranges rs ≡ true → Lists (tuple_type (element_types rs))
  tuple-listed [] l h = absurd (cc)
  tuple-listed (r ∷ rs) l h = let k = and-both (gives_set r) (each_gives_set rs) h in tuple_onto-listed (element_type r) rs (element-listed r l.0 k.0) l.1 k.1

  bound-listed : (o : Option ValueType) → ListedRole (bound_role table o)
  bound-listed None t h = absurd (cc)
  bound-listed (Some u) t h = let k = if_holds-gives (lists_type table u) (gives u) t h in as_given u t k.1 k.0

  empty-listed : (u t : ValueType) → empty_role table u ≡ gives t → Lists t
  empty-listed (set_type u) t h = let k = if_holds-gives (lists_type table u) (gives (set_type u)) t h in as_given (set_type u) t k.1 k.0
  empty-listed _ t h = absurd (cc)

  named-listed : (d : Domain) → ListedRole (named_role table d)
  named-listed Booleans t h = as_given (set_type bool_type) t h refl
  named-listed (Enum n) t h = let k = if_holds-gives (lists_type table (enum_type n)) (gives (set_type (enum_type n))) t h in as_given (set_type (enum_type n)) t k.1 k.0
  named-listed _ t h = absurd (cc)

  module _ (variables_listed : (n : ℕ) (t : ValueType) → variable_type table n ≡ Some t → Lists t) (elements_listed : (s i : ℕ) → element_role table s i ≡ gives (enum_type s) → Lists (enum_type s)) where
    variable-listed : (n : ℕ) (o : Option ValueType) → variable_type table n ≡ o → (t : ValueType) → given_by o ≡ gives t → Lists t
    variable-listed n None e t h = absurd (cc)
    variable-listed n (Some u) e t h = as_given u t h (variables_listed n u e)

    mutual
      pub gives-listed : (around : List ValueType) (f : Formula) → ListedRole (role table around f)
      gives-listed around (variable n) t h = variable-listed n (variable_type table n) refl t h
      gives-listed around (bound n) t h = bound-listed (slice_get around n) t h
      gives-listed around (literal z) t h = as_given int_type t h refl
      gives-listed around (truth_value b) t h = as_given bool_type t h refl
      gives-listed around (element s i) t h =
          let k = if_holds-gives (nat_lt i (listed_size table s)) (gives (enum_type s)) t h in
          as_given (enum_type s) t k.1 (elements_listed s i (h ∙ sym k.1))
      gives-listed around (empty_set u) t h = empty-listed u t h
      gives-listed around (named d) t h = named-listed d t h
      gives-listed around btrue t h = absurd (cc)
      gives-listed around bfalse t h = absurd (cc)
      gives-listed around (unary o a) t h = unary-listed o (role table around a) (gives-listed around a) t h
      gives-listed around (binary o a b) t h = binary-listed o (role table around a) (role table around b) (gives-listed around a) (gives-listed around b) t h
      gives-listed around (for_all ts p) t h = absurd (quantifier-gives table ts (role table (bind ts around) p) t h)
      gives-listed around (for_some ts p) t h = absurd (quantifier-gives table ts (role table (bind ts around) p) t h)
      gives-listed around (comprehension rs p) t h =
          let ts = element_types (roles table around rs) in
          let k = if_holds-gives (are_ranges (roles table around rs)) (if_predicate (gives (set_type (tuple_type ts))) (role table (bind ts around) p)) t h in
          let m = if_predicate-gives (gives (set_type (tuple_type ts))) (role table (bind ts around) p) t k.1 in
          as_given (set_type (tuple_type ts)) t m.1 (tuple-listed (roles table around rs) (each-listed around rs) k.0)
      gives-listed around (lambda rs p v) t h =
          let ts = element_types (roles table around rs) in
          let image = role table (bind ts around) v in
          let k = if_holds-gives (are_ranges (roles table around rs)) (if_predicate (if_value (λ u. gives (set_type (pair_type (tuple_type ts) u))) image) (role table (bind ts around) p)) t h in
          let m = if_predicate-gives (if_value (λ u. gives (set_type (pair_type (tuple_type ts) u))) image) (role table (bind ts around) p) t k.1 in
          let n = if_value-gives (λ u. gives (set_type (pair_type (tuple_type ts) u))) image t m.1 in
          as_given (set_type (pair_type (tuple_type ts) n.0)) t n.2 (and-true (lists_type table (tuple_type ts)) (lists_type table n.0) (tuple-listed (roles table around rs) (each-listed around rs) k.0) (gives-listed (bind ts around) v n.0 n.1))

      each-listed : (around : List ValueType) (fs : Formulas) → ListedRoles (roles table around fs)
      each-listed around no_formulas = tt
      each-listed around (formula_and f fs) = (gives-listed around f, each-listed around fs)
