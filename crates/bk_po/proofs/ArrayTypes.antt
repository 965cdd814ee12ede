-- An array's type has the type of its indices: the conjunct that makes it an array types.
use Rattle.std.proofs.Common.{◌≡◌, ◌⊎◌, inl, inr, ℕ, suc, ℤ, pos, ◌-ℤ◌, int_le, List, [], ◌∷◌, ◌++◌, refl, sym, ◌∙◌, ap, subst, Bool, true, false, not, ◌&&◌, cond, nat_eq, Some, None, Option}
use Rattle.std.specs.Prelude.{find}
use Rattle.std.specs.List.{filter, filter_map, cons_option}
use Rattle.bk_val.specs.ValueType.{ValueType, int_type, bool_type, enum_type, pair_type, set_type}
use Rattle.bk_form.specs.Table.{variable_type}
use Rattle.bk_form.specs.ArrayTable.{row_of}
use Rattle.bk_form.specs.Formula.{Formula, variable, named, btrue, binary}
use Rattle.bk_form.specs.Role.{Role, gives, ranges_over, predicate, if_holds, if_predicate, if_value, if_number, if_domain, same_type, given_by, role, arrow_role}
use Rattle.bk_form.specs.Each.{Each}
use Rattle.bk_form.specs.Predicates.{conjuncts}
use Rattle.bk_form.specs.declared.operator.BinOp.TheVariants.{And, Eq, In, TotalFunctions, Range}
use Rattle.bk_form.specs.declared.operator.Domain.TheVariants.{Bool as Booleans, Enum}
use Rattle.bk_form.specs.declared.arrays.ArrayRow.{ArrayRow}
use Rattle.bk_form.specs.declared.arrays.ArrayDomain.{ArrayDomain}
use Rattle.bk_form.specs.declared.arrays.ArrayDomain.TheVariants.{Interval, Bool as OfBooleans, Set as OfElements}
use Rattle.bk_form.proofs.Givers.{arrow-gives}
use Rattle.bk_form.proofs.Listed.{gives-same}
use Rattle.bk_form.proofs.Members.{or-left, or-right}
use Rattle.bk_form.proofs.Roles.{if_holds-gives, if_number-gives, same_type-then}
use Rattle.bk_gsl.specs.State.{among}
use Rattle.bk_gsl.proofs.States.{nat_eq-same, nat_eq-self}
use Rattle.bk_dev.specs.Development.{Level, Development, int_max, level_at, last}
use Rattle.bk_dev.specs.Facts.{AreAlike, IsLink, EachLevel, IsLawful}
use Rattle.bk_dev.specs.Layout.{Clue, in_domain, equals, silent, clue_of, or_next, is_typing, spoken_of, first_clue, untyped as without_type, linked_to, typing_clue, bound_of, interval_of, indices_of, has_scalars, array_row, row_by, reversed, arrays_of}
use Rattle.bk_wd.specs.Laws.{index_type, AreTypedArrays}

-- ---- roles
value-predicate : (f : ValueType → Role) (a : Role) → if_value f a ≡ predicate → (u : ValueType) × (a ≡ gives u) × (f u ≡ predicate)
value-predicate f (gives u) h = (u, refl, h)
value-predicate f _ h = absurd (cc)

holds-predicate : (b : Bool) (r : Role) → if_holds b r ≡ predicate → (b ≡ true) × (r ≡ predicate)
holds-predicate true r h = (refl, h)
holds-predicate false r h = absurd (cc)

predicate-predicate : (r a : Role) → if_predicate r a ≡ predicate → (a ≡ predicate) × (r ≡ predicate)
predicate-predicate r predicate h = (refl, h)
predicate-predicate r _ h = absurd (cc)

-- ---- the rows of a list
rows-from : (F : ℕ → Option ArrayRow) → ((y : ℕ) (r : ArrayRow) → F y ≡ Some r → r.var ≡ y) → (xs : List ℕ) (x : ℕ) (r : ArrayRow) → find (λ q. nat_eq q.var x) (filter_map F xs) ≡ Some r → (among xs x ≡ true) × (F x ≡ Some r)
rows-from F own [] x r h = absurd (cc)
rows-from F own (y ∷ ys) x r h = by_row (rows-from F own ys x r) (F y) refl h
  where
    by_test : (q : ArrayRow) → F y ≡ Some q → (b : Bool) → nat_eq q.var x ≡ b → ((among ys x ≡ true) × (F x ≡ Some r) → (among (y ∷ ys) x ≡ true) × (F x ≡ Some r)) → (find (λ p. nat_eq p.var x) (filter_map F ys) ≡ Some r → (among ys x ≡ true) × (F x ≡ Some r)) →
        cond b (Some q) (find (λ p. nat_eq p.var x) (filter_map F ys)) ≡ Some r → (among (y ∷ ys) x ≡ true) × (F x ≡ Some r)
    by_test q e true k more rest g =
        let same : y ≡ x = sym (own y q e) ∙ nat_eq-same q.var x k in
        (or-left (nat_eq x y) (among ys x) (subst (λ n. nat_eq x n ≡ true) (sym same) (nat_eq-self x)), subst (λ n. F n ≡ Some q) same e ∙ g)
    by_test q e false k more rest g = more (rest g)

    further : (among ys x ≡ true) × (F x ≡ Some r) → (among (y ∷ ys) x ≡ true) × (F x ≡ Some r)
    further w = (or-right (nat_eq x y) (among ys x) w.0, w.1)

    by_row : (find (λ p. nat_eq p.var x) (filter_map F ys) ≡ Some r → (among ys x ≡ true) × (F x ≡ Some r)) → (o : Option ArrayRow) → F y ≡ o → find (λ q. nat_eq q.var x) (cons_option o (filter_map F ys)) ≡ Some r → (among (y ∷ ys) x ≡ true) × (F x ≡ Some r)
    by_row on None e g = further (on g)
    by_row on (Some q) e g = by_test q e (nat_eq q.var x) refl further on g

-- ---- domains
-- a domain over this type
abbrev IsOver : Role → ValueType → Type 0
IsOver a t = (a ≡ gives (set_type t)) ⊎ (a ≡ ranges_over t)

domain-predicate : (f : ValueType → Role) (a : Role) → if_domain f a ≡ predicate → (u : ValueType) × IsOver a u × (f u ≡ predicate)
domain-predicate f (gives (set_type u)) h = (u, inl refl, h)
domain-predicate f (ranges_over u) h = (u, inr refl, h)
domain-predicate f _ h = absurd (cc)

domain-ranges : (f : ValueType → Role) (a : Role) (w : ValueType) → if_domain f a ≡ ranges_over w → (u : ValueType) × IsOver a u × (f u ≡ ranges_over w)
domain-ranges f (gives (set_type u)) w h = (u, inl refl, h)
domain-ranges f (ranges_over u) w h = (u, inr refl, h)
domain-ranges f _ w h = absurd (cc)

arrow-over : (a b : Role) (w : ValueType) → IsOver (arrow_role a b) w → (t : ValueType) × IsOver a t × ((u : ValueType) × (w ≡ set_type (pair_type t u)))
arrow-over a b w (inl h) = absurd (arrow-gives a b (set_type w) h)
arrow-over a b w (inr h) =
    let p = domain-ranges (λ t. if_domain (λ u. ranges_over (set_type (pair_type t u))) b) a w h in
    let q = domain-ranges (λ u. ranges_over (set_type (pair_type p.0 u))) b w p.2 in
    let same : ranges_over (set_type (pair_type p.0 q.0)) ≡ ranges_over w = q.2 in
    let one : w ≡ set_type (pair_type p.0 q.0) = cc in
    (p.0, p.1, (q.0, one))

number-ranges : (r a : Role) (w : ValueType) → if_number r a ≡ ranges_over w → r ≡ ranges_over w
number-ranges r (gives int_type) w h = h
number-ranges r _ w h = absurd (cc)

holds-ranges : (b : Bool) (r : Role) (w : ValueType) → if_holds b r ≡ ranges_over w → r ≡ ranges_over w
holds-ranges true r w h = h
holds-ranges false r w h = absurd (cc)

module _ (dev : Development) where
  abbrev kind : Formula → Role
  kind f = role dev.table [] f

  interval-index : (o q : Option ℤ) (d : ArrayDomain) → interval_of (int_max dev) o q ≡ Some d → index_type d ≡ int_type
  interval-index (Some a) (Some b) d h = by_test (int_le (pos 0 -ℤ int_max dev) a && int_le a b && int_le b (int_max dev)) h
    where
      by_test : (t : Bool) → cond t (Some (Interval a b)) None ≡ Some d → index_type d ≡ int_type
      by_test true k = let same : Interval a b ≡ d = cc in ap index_type (sym same)
      by_test false k = absurd (cc)
  interval-index None q d h = absurd (cc)
  interval-index (Some a) None d h = absurd (cc)

  index-typed : (f : Formula) (d : ArrayDomain) (t : ValueType) → indices_of (int_max dev) dev.values f ≡ Some d → IsOver (kind f) t → index_type d ≡ t
  index-typed (binary Range a b) d t h (inl k) =
      let w = if_number-gives (if_number (gives (set_type int_type)) (kind b)) (kind a) (set_type t) k in
      let v = if_number-gives (gives (set_type int_type)) (kind b) (set_type t) w.1 in
      let same : set_type int_type ≡ set_type t = gives-same (set_type int_type) (set_type t) v.1 in
      let one : int_type ≡ t = cc in
      interval-index (bound_of dev.values a) (bound_of dev.values b) d h ∙ one
  index-typed (binary Range a b) d t h (inr k) =
      let no_way : gives (set_type int_type) ≡ ranges_over t = number-ranges (gives (set_type int_type)) (kind b) t (number-ranges (if_number (gives (set_type int_type)) (kind b)) (kind a) t k) in
      absurd (cc)
  index-typed (named Booleans) d t h (inl k) = let same : OfBooleans ≡ d = cc in let one : bool_type ≡ t = cc in ap index_type (sym same) ∙ one
  index-typed (named Booleans) d t h (inr k) = absurd (cc)
  index-typed (named (Enum n)) d t h (inl k) =
      let w = if_holds-gives _ (gives (set_type (enum_type n))) (set_type t) k in
      let both : set_type (enum_type n) ≡ set_type t = gives-same (set_type (enum_type n)) (set_type t) w.1 in
      let one : enum_type n ≡ t = cc in
      let same : OfElements n ≡ d = cc in
      ap index_type (sym same) ∙ one
  index-typed (named (Enum n)) d t h (inr k) = let no_way : gives (set_type (enum_type n)) ≡ ranges_over t = holds-ranges _ (gives (set_type (enum_type n))) t k in absurd (cc)
  index-typed _ d t h k = absurd (cc)

  -- ---- conjuncts
  abbrev AreTests : List Formula → Type 0
  AreTests ps = Each (λ q. kind q ≡ predicate) ps

  tests-append : (ps qs : List Formula) → AreTests ps → AreTests qs → AreTests (ps ++ qs)
  tests-append [] qs h k = k
  tests-append (p ∷ ps) qs h k = (h.0, tests-append ps qs h.1 k)

  conjuncts-test : (p : Formula) → kind p ≡ predicate → AreTests (conjuncts p)
  conjuncts-test (binary And p q) h =
      let w = predicate-predicate (if_predicate predicate (kind q)) (kind p) h in
      let v = predicate-predicate predicate (kind q) w.1 in
      tests-append (conjuncts p) (conjuncts q) (conjuncts-test p w.0) (conjuncts-test q v.0)
  conjuncts-test btrue h = tt
  conjuncts-test p h = (h, tt)

  clue-then : (x : ℕ) (p d : Formula) → kind p ≡ predicate → clue_of x p ≡ in_domain d → kind (binary In (variable x) d) ≡ predicate
  clue-then x (binary In (variable y) e) d h k = by_test (nat_eq x y) refl k
    where
      by_test : (b : Bool) → nat_eq x y ≡ b → cond b (in_domain e) silent ≡ in_domain d → kind (binary In (variable x) d) ≡ predicate
      by_test true q g =
          let same : e ≡ d = cc in
          subst (λ f. kind (binary In (variable x) f) ≡ predicate) same (subst (λ n. kind (binary In (variable n) e) ≡ predicate) (sym (nat_eq-same x y q)) h)
      by_test false q g = absurd (cc)
  clue-then x (binary Eq (variable y) e) d h k = by_test (nat_eq x y) k
    where
      by_test : (b : Bool) → cond b equals silent ≡ in_domain d → kind (binary In (variable x) d) ≡ predicate
      by_test true g = absurd (cc)
      by_test false g = absurd (cc)
  clue-then x _ d h k = absurd (cc)

  first-clue : (x : ℕ) (typeless : List ℕ) (ps : List Formula) (d : Formula) → AreTests ps → first_clue x typeless ps ≡ in_domain d → kind (binary In (variable x) d) ≡ predicate
  first-clue x typeless [] d h k = absurd (cc)
  first-clue x typeless (p ∷ ps) d h k = by_test (λ t g. first-clue x t ps d h.1 g) (is_typing typeless p) k
    where
      by_clue : (c later : Clue) → clue_of x p ≡ c → (later ≡ in_domain d → kind (binary In (variable x) d) ≡ predicate) → or_next c later ≡ in_domain d → kind (binary In (variable x) d) ≡ predicate
      by_clue (in_domain e) later q rest g = let same : in_domain e ≡ in_domain d = g in clue-then x p d h.0 (q ∙ same)
      by_clue equals later q rest g = absurd (cc)
      by_clue silent later q rest g = rest g

      by_test : ((t : List ℕ) → first_clue x t ps ≡ in_domain d → kind (binary In (variable x) d) ≡ predicate) → (b : Bool) →
          cond b (or_next (clue_of x p) (first_clue x (filter (λ n. not (among (spoken_of p) n)) typeless) ps)) (first_clue x typeless ps) ≡ in_domain d → kind (binary In (variable x) d) ≡ predicate
      by_test rest true g = by_clue (clue_of x p) (first_clue x (filter (λ n. not (among (spoken_of p) n)) typeless) ps) refl (rest (filter (λ n. not (among (spoken_of p) n)) typeless)) g
      by_test rest false g = rest typeless g

  -- ---- levels
  record IsFine (l : Level) : Type 0 where
    invariant : kind l.invariant ≡ predicate
    links : Each (λ p. AreAlike dev.table p.0 p.1) l.links

  links-alike : (k : ℕ) (ls : List (ℕ × ℕ)) → Each (IsLink dev k) ls → Each (λ p. AreAlike dev.table p.0 p.1) ls
  links-alike k [] h = tt
  links-alike k (p ∷ ls) h = (h.0.alike, links-alike k ls h.1)

  each-fine : (k : ℕ) (ls : List Level) → EachLevel dev k ls → Each IsFine ls
  each-fine k [] h = tt
  each-fine k (l ∷ ls) h = (record { invariant = h.0.invariant.is_predicate; links = links-alike k l.links h.0.links }, each-fine (suc k) ls h.1)

  reversed-fine : (ls done : List Level) → Each IsFine ls → Each IsFine done → Each IsFine (reversed ls done)
  reversed-fine [] done h k = k
  reversed-fine (l ∷ ls) done h k = reversed-fine ls (l ∷ done) h.1 (h.0, k)

  linked-alike : (x y : ℕ) (ls : List (ℕ × ℕ)) → Each (λ p. AreAlike dev.table p.0 p.1) ls → linked_to x ls ≡ Some y → variable_type dev.table x ≡ variable_type dev.table y
  linked-alike x y [] h k = absurd (cc)
  linked-alike x y (p ∷ ls) h k = by_test (linked-alike x y ls h.1) (nat_eq x p.0) refl k
    where
      by_test : (linked_to x ls ≡ Some y → variable_type dev.table x ≡ variable_type dev.table y) → (b : Bool) → nat_eq x p.0 ≡ b → cond b (Some p.1) (linked_to x ls) ≡ Some y → variable_type dev.table x ≡ variable_type dev.table y
      by_test rest true q g = let same : p.1 ≡ y = cc in ap (variable_type dev.table) (nat_eq-same x p.0 q) ∙ h.0.1 ∙ sym h.0.2 ∙ ap (variable_type dev.table) same
      by_test rest false q g = rest g

  -- the variable of some level, of x's type, that the clue speaks of
  record IsSaid (x : ℕ) (d : Formula) : Type 0 where
    of : ℕ
    alike : variable_type dev.table x ≡ variable_type dev.table of
    said : kind (binary In (variable of) d) ≡ predicate

  typing-clue : (ls : List Level) → Each IsFine ls → (x : ℕ) (d : Formula) → typing_clue (Some x) ls ≡ in_domain d → IsSaid x d
  typing-clue [] h x d k = absurd (cc)
  typing-clue (l ∷ above) h x d k = by_clue (typing-clue above h.1) (first_clue x (without_type l) (conjuncts l.invariant)) refl k
    where
      by_link : ((y : ℕ) (e : Formula) → typing_clue (Some y) above ≡ in_domain e → IsSaid y e) → (o : Option ℕ) → linked_to x l.links ≡ o → typing_clue o above ≡ in_domain d → IsSaid x d
      by_link rest None q g = absurd (cc)
      by_link rest (Some y) q g = let w = rest y d g in record { of = w.of; alike = linked-alike x y l.links h.0.links q ∙ w.alike; said = w.said }

      by_clue : ((y : ℕ) (e : Formula) → typing_clue (Some y) above ≡ in_domain e → IsSaid y e) → (c : Clue) → first_clue x (without_type l) (conjuncts l.invariant) ≡ c → or_next c (typing_clue (linked_to x l.links) above) ≡ in_domain d → IsSaid x d
      by_clue rest (in_domain e) q g = let same : in_domain e ≡ in_domain d = g in record { of = x; alike = refl; said = first-clue x (without_type l) (conjuncts l.invariant) d (conjuncts-test l.invariant h.0.invariant) (q ∙ same) }
      by_clue rest equals q g = absurd (cc)
      by_clue rest silent q g = by_link rest (linked_to x l.links) refl g

  -- ---- rows
  abbrev clue : ℕ → Clue
  clue x = typing_clue (Some x) (reversed dev.levels [])

  row-own : (x : ℕ) (c : Clue) (r : ArrayRow) → row_by dev x c ≡ Some r → r.var ≡ x
  row-own x (in_domain (binary TotalFunctions d e)) r h = by_test (has_scalars (variable_type dev.table x)) h
    where
      by_domain : (o : Option ArrayDomain) → array_row x o ≡ Some r → r.var ≡ x
      by_domain None k = absurd (cc)
      by_domain (Some i) k = let same : record { var = x; domain = i } ≡ r = cc in ap (λ (q : ArrayRow). q.var) (sym same)

      by_test : (b : Bool) → cond b (array_row x (indices_of (int_max dev) dev.values d)) None ≡ Some r → r.var ≡ x
      by_test true k = by_domain (indices_of (int_max dev) dev.values d) k
      by_test false k = absurd (cc)
  row-own x c r h = absurd (cc)

  pub row-is : (x : ℕ) (r : ArrayRow) → row_of (arrays_of dev) x ≡ Some r → (among (level_at dev (last dev)).vars x ≡ true) × (row_by dev x (clue x) ≡ Some r)
  row-is x r h = rows-from (λ y. row_by dev y (clue y)) (λ y q k. row-own y (clue y) q k) (level_at dev (last dev)).vars x r h

  row-typed : (x : ℕ) (c : Clue) (r : ArrayRow) → ((d : Formula) → c ≡ in_domain d → IsSaid x d) → row_by dev x c ≡ Some r → (u : ValueType) × (variable_type dev.table x ≡ Some (set_type (pair_type (index_type r.domain) u)))
  row-typed x (in_domain (binary TotalFunctions d e)) r said h = by_test (has_scalars (variable_type dev.table x)) h
    where
      by_domain : (o : Option ArrayDomain) → indices_of (int_max dev) dev.values d ≡ o → array_row x o ≡ Some r → (u : ValueType) × (variable_type dev.table x ≡ Some (set_type (pair_type (index_type r.domain) u)))
      by_domain None q k = absurd (cc)
      by_domain (Some i) q k =
          let same : record { var = x; domain = i } ≡ r = cc in
          let domains : i ≡ r.domain = ap (λ (p : ArrayRow). p.domain) same in
          let s = said (binary TotalFunctions d e) refl in
          let w = value-predicate (λ t. if_domain (λ u. if_holds (same_type t u) predicate) (kind (binary TotalFunctions d e))) (given_by (variable_type dev.table s.of)) s.said in
          let v = domain-predicate (λ u. if_holds (same_type w.0 u) predicate) (kind (binary TotalFunctions d e)) w.2 in
          let one : w.0 ≡ v.0 = same_type-then w.0 v.0 (holds-predicate (same_type w.0 v.0) predicate v.2).0 in
          let a = arrow-over (kind d) (kind e) v.0 v.1 in
          let index : index_type i ≡ a.0 = index-typed d i a.0 q a.1 in
          let own : variable_type dev.table x ≡ Some w.0 = s.alike ∙ given-some' (variable_type dev.table s.of) w.0 w.1 in
          (a.2.0, own ∙ ap Some (one ∙ a.2.1) ∙ ap (λ t. Some (set_type (pair_type t a.2.0))) (sym index ∙ ap index_type domains))
        where
          given-some' : (o : Option ValueType) (t : ValueType) → given_by o ≡ gives t → o ≡ Some t
          given-some' None t h = absurd (cc)
          given-some' (Some u) t h = ap Some (gives-same u t h)

      by_test : (b : Bool) → cond b (array_row x (indices_of (int_max dev) dev.values d)) None ≡ Some r → (u : ValueType) × (variable_type dev.table x ≡ Some (set_type (pair_type (index_type r.domain) u)))
      by_test true k = by_domain (indices_of (int_max dev) dev.values d) refl k
      by_test false k = absurd (cc)
  row-typed x c r said h = absurd (cc)

  pub arrays-typed : IsLawful dev → AreTypedArrays dev.table (arrays_of dev)
  arrays-typed f x r h =
      let fine = reversed-fine dev.levels [] (each-fine 0 dev.levels f.levels) tt in
      row-typed x (clue x) r (λ d k. typing-clue (reversed dev.levels []) fine x d k) (row-is x r h).1
