-- What the expansions give, where their parts do.
use Rattle.std.proofs.Common.{◌≡◌, refl, sym, ◌∙◌, ap, subst, pos, [], ◌∷◌}
use Rattle.bk_val.specs.ValueType.{ValueType, int_type, pair_type, set_type}
use Rattle.bk_form.specs.Formula.{Formula, literal, bound, binary}
use Rattle.bk_form.specs.Search.{Finder}
use Rattle.bk_form.specs.Environment.{Environment, bound_types}
use Rattle.bk_form.specs.Role.{gives, predicate, role, unary_role, numbers_role, lambda_role, application_role, domain_part_role, bind, element_type}
use Rattle.bk_form.specs.Settings.{GivesIn, RangesIn}
use Rattle.bk_form.specs.declared.operator.UnOp.TheVariants.{Card}
use Rattle.bk_form.specs.declared.operator.BinOp.TheVariants.{Range, Add, Sub, Apply, Union}
use Rattle.bk_bind.proofs.Raised.{role-lifted-under}
use Rattle.bk_form.proofs.RoleParts.{interval-parts}
use Rattle.bk_form.proofs.Forms.{set-form}
use Rattle.bk_form.proofs.SetMembers.{from-gives, over-typed, two-sets}
use Rattle.bk_form.specs.Expansion.{one, card_of, one_more, one_less, function_on, raised, front, tail, rev, later, behind}

-- ---- parts
pub set-same : (t u : ValueType) → set_type t ≡ set_type u → t ≡ u
set-same t u h = cc

gives-same : (t u : ValueType) → gives t ≡ gives u → t ≡ u
gives-same t u h = cc

module _ (e : Environment) where
  -- a formula gives one type
  pub one-type : (f : Formula) (t u : ValueType) → GivesIn e f t → GivesIn e f u → t ≡ u
  one-type f t u h k = gives-same t u (sym h ∙ k)

  -- the numbers of an interval are of the type INTEGER
  pub range-type : (a b : Formula) (t : ValueType) → RangesIn e (binary Range a b) t → t ≡ int_type
  range-type a b t h =
      let w = set-form e (binary Range a b) refl (over-typed (role e.table (bound_types e) (binary Range a b)) t h) in
      let g = from-gives e (binary Range a b) t (set_type w.0) h w.1 in
      set-same t int_type (interval-parts (role e.table (bound_types e) a) (role e.table (bound_types e) b) (set_type t) g).2

  -- ---- numbers
  pub count-gives : (s : Formula) (t : ValueType) → GivesIn e s (set_type t) → GivesIn e (card_of s) int_type
  count-gives s t h = ap (unary_role Card) h

  pub sum-gives : (a b : Formula) → GivesIn e a int_type → GivesIn e b int_type → GivesIn e (binary Add a b) int_type
  sum-gives a b h k = λ i. numbers_role (gives int_type) (h i) (k i)

  pub difference-gives : (a b : Formula) → GivesIn e a int_type → GivesIn e b int_type → GivesIn e (binary Sub a b) int_type
  difference-gives a b h k = λ i. numbers_role (gives int_type) (h i) (k i)

  pub range-gives : (a b : Formula) → GivesIn e a int_type → GivesIn e b int_type → GivesIn e (binary Range a b) (set_type int_type)
  range-gives a b h k = λ i. numbers_role (gives (set_type int_type)) (h i) (k i)

  -- ---- functions on an interval
  pub function-gives : (a b image : Formula) (u : ValueType) → GivesIn e a int_type → GivesIn e b int_type → role e.table (int_type ∷ bound_types e) image ≡ gives u → GivesIn e (function_on a b image) (set_type (pair_type int_type u))
  function-gives a b image u ha hb hi =
      ap (λ r. lambda_role (r ∷ []) predicate (role e.table (bind (element_type r ∷ []) (bound_types e)) image)) (range-gives a b ha hb) ∙ ap (lambda_role (gives (set_type int_type) ∷ []) predicate) hi

  -- f(k) under the binder
  pub applied-gives : (f k : Formula) (u : ValueType) → GivesIn e f (set_type (pair_type int_type u)) → role e.table (int_type ∷ bound_types e) k ≡ gives int_type → role e.table (int_type ∷ bound_types e) (binary Apply (raised f) k) ≡ gives u
  applied-gives f k u types number =
      let inner = role-lifted-under e.table (int_type ∷ []) (bound_types e) 1 refl f ∙ types in
      λ i. application_role (inner i) (number i)

  pub shifted-gives : (a b f k : Formula) (u : ValueType) → GivesIn e f (set_type (pair_type int_type u)) → GivesIn e a int_type → GivesIn e b int_type → role e.table (int_type ∷ bound_types e) k ≡ gives int_type → GivesIn e (function_on a b (binary Apply (raised f) k)) (set_type (pair_type int_type u))
  shifted-gives a b f k u types ha hb number = function-gives a b (binary Apply (raised f) k) u ha hb (applied-gives f k u types number)

  -- card(s) under a binder
  count-under : (s : Formula) (t : ValueType) → GivesIn e s (set_type t) → role e.table (int_type ∷ bound_types e) (card_of (raised s)) ≡ gives int_type
  count-under s t types = ap (unary_role Card) (role-lifted-under e.table (int_type ∷ []) (bound_types e) 1 refl s ∙ types)

  -- ---- the words and signs
  module _ (s : Formula) (u : ValueType) (types : GivesIn e s (set_type (pair_type int_type u))) where
    pub size-gives : GivesIn e (card_of s) int_type
    size-gives = count-gives s (pair_type int_type u) types

    pub more-gives : GivesIn e (one_more s) int_type
    more-gives = sum-gives (card_of s) one size-gives refl

    pub less-gives : GivesIn e (one_less s) int_type
    less-gives = difference-gives (card_of s) one size-gives refl

    pub front-gives : GivesIn e (front s) (set_type (pair_type int_type u))
    front-gives =
        let range = range-gives one (one_less s) refl less-gives in
        λ i. domain_part_role (types i) (range i)

    pub tail-gives : GivesIn e (tail s) (set_type (pair_type int_type u))
    tail-gives = shifted-gives one (one_less s) s (binary Add (bound 0) one) u types refl less-gives refl

    pub rev-gives : GivesIn e (rev s) (set_type (pair_type int_type u))
    rev-gives =
        let number = count-under s (pair_type int_type u) types in
        shifted-gives one (card_of s) s (binary Sub (one_more (raised s)) (bound 0)) u types refl size-gives (λ i. numbers_role (gives int_type) (numbers_role (gives int_type) (number i) (gives int_type)) (gives int_type))

    pub later-gives : GivesIn e (later s) (set_type (pair_type int_type u))
    later-gives = shifted-gives (literal (pos 2)) (one_more s) s (binary Sub (bound 0) one) u types refl more-gives refl

  -- t behind s
  pub behind-gives : (s t : Formula) (k u : ValueType) → GivesIn e s (set_type k) → GivesIn e t (set_type (pair_type int_type u)) → GivesIn e (behind s t) (set_type (pair_type int_type u))
  behind-gives s t k u types-s types-t =
      let size-s = count-gives s k types-s in
      let number = count-under s k types-s in
      shifted-gives (one_more s) (binary Add (card_of s) (card_of t)) t (binary Sub (bound 0) (card_of (raised s))) u types-t (sum-gives (card_of s) one size-s refl) (sum-gives (card_of s) (card_of t) size-s (count-gives t (pair_type int_type u) types-t)) (λ i. numbers_role (gives int_type) (gives int_type) (number i))

  -- a union that types, of a set of t
  pub union-gives : (find : Finder) (a b : Formula) (t k : ValueType) → GivesIn e a (set_type t) → GivesIn e (binary Union a b) (set_type k) → GivesIn e (binary Union a b) (set_type t)
  union-gives find a b t k types h =
      let parts = two-sets find e a b k h in
      subst (λ x. GivesIn e (binary Union a b) (set_type x)) (set-same k t (one-type a (set_type k) (set_type t) parts.0 types)) h
