-- The box of a predicate is a predicate, with loops too, and so is what is asked beside it: the new number that stands for the variant is listed
-- in a table with one more variable, and is replaced in the end.
use Rattle.std.proofs.Common.{◌≡◌, ℕ, zero, suc, ◌<◌, ◌^◌, pos, List, [], ◌∷◌, ◌++◌, length, length-append, map, refl, sym, ◌∙◌, ap, subst, Bool, true, false, ◌&&◌, cond, nat_eq, arith, IsTrue, Some, None, Option}
use Rattle.std.specs.Prelude.{slice_get, unwrap_or}
use Rattle.std.specs.Option.{option_map}
use Rattle.std.proofs.lemmas.Bool.Decides.{nat_tests}
use Rattle.std.proofs.lemmas.List.Elements.{All-nil, All-cons, All-append}
use Rattle.bk_val.specs.Value.{int}
use Rattle.bk_val.specs.ValueType.{ValueType, int_type, bool_type, pair_type, set_type, base_of}
use Rattle.bk_form.specs.Table.{Table, VariableEntry, with_variable, lists_type, variable_type, IsWellFormed}
use Rattle.bk_form.specs.ArrayTable.{ArrayTable, row_of}
use Rattle.bk_form.specs.Formula.{Formula, variable, bound, literal, truth_value, element, empty_set, named, btrue, bfalse, unary, binary, for_all, for_some, comprehension, lambda, Formulas, no_formulas, formula_and}
use Rattle.bk_form.specs.Search.{Finder}
use Rattle.bk_form.specs.Environment.{Environment, Binding}
use Rattle.bk_form.specs.Predicates.{IsPredicate}
use Rattle.bk_form.specs.Role.{Role, gives, ranges_over, predicate, if_holds, if_predicate, if_value, if_relation, same_type, given_by, bound_role, empty_role, named_role, unary_role, binary_role, connective_role, numbers_role, membership_role, pair_role, comprehension_role, lambda_role, role, roles, bind, all_listed, element_types}
use Rattle.bk_form.specs.Replacement.{replaced, all_replaced, looked_up, IsClosed}
use Rattle.bk_form.specs.Wider.{IsWider, IsTypedRole}
use Rattle.bk_form.specs.declared.operator.UnOp.TheVariants.{Not, Single}
use Rattle.bk_form.specs.declared.operator.BinOp.TheVariants.{And, Imp, In, Lt, Over, Maps}
use Rattle.bk_form.specs.declared.operator.Domain.{Domain}
use Rattle.bk_form.specs.declared.operator.Domain.TheVariants.{Natural, Bool as Booleans, Enum}
use Rattle.bk_form.specs.declared.arrays.ArrayRow.{ArrayRow}
use Rattle.bk_form.proofs.Agreement.{meaning-closed}
use Rattle.bk_form.proofs.Closed.{term-closed}
use Rattle.bk_form.proofs.Members.{and-both}
use Rattle.bk_form.proofs.Operands.{holds-op}
use Rattle.bk_form.proofs.Roles.{meaning-role, same_type-then}
use Rattle.bk_form.proofs.Widening.{variable-wider}
use Rattle.bk_bind.specs.Closing.{closed_over_each}
use Rattle.bk_wd.specs.Joining.{both, where_true}
use Rattle.bk_wd.specs.WellDefined.{defined}
use Rattle.bk_wd.specs.Checked.{index_check, checked}
use Rattle.bk_wd.specs.Laws.{index_type, AreTypedArrays}
use Rattle.bk_wd.proofs.Parts.{both-role, where-role, over-role, relation-is, value-is}
use Rattle.bk_wd.proofs.Predicates.{first-part, first-of-pair, defined-role, defined-predicate, index-role, checked-role}
use Rattle.bk_gsl.specs.Substitution.{Substitution, skip, assign, pre, guard, choice, if_else, any, seq, par, assert, becomes_such, loop}
use Rattle.bk_gsl.specs.State.{declared_type, firsts}
use Rattle.bk_gsl.specs.Writes.{writes}
use Rattle.bk_gsl.specs.Clean.{write_of}
use Rattle.bk_gsl.specs.Flat.{IsFlat}
use Rattle.bk_gsl.specs.Typed.{IsTerm, AreListed, AreTypedTerms, AreTypedPairs, Types}
use Rattle.bk_gsl.proofs.Listed.{firsts-listed, writes-listed}
use Rattle.bk_gsl.proofs.States.{nat_eq-same}
use Rattle.bk_gsl.proofs.WiderRuns.{predicate-wider, term-wider}
use Rattle.bk_wp.specs.Box.{box, all_new, new_values, variant_before}
use Rattle.bk_wp.specs.Guarded.{over_variables, over_written, box_where, evaluated, checked_write, checked_at, evaluated_term, evaluated_onto, such_condition, guarded}
use Rattle.bk_wp.specs.Quantifiers.{types_of, all_of, all_written}
use Rattle.bk_wp.proofs.Predicates.{types-listed, all-predicate, all_new-predicate, terms-predicate, new-role}

-- ---- a closed formula's role
closed-role : (table : Table) (around : List ValueType) (f : Formula) → IsClosed 0 f → role table around f ≡ role table [] f
closed-role table around f c =
    let find : Finder = λ test. None in
    let bs : List Binding = map (λ t. (t, base_of t)) around in
    let e : List Binding → Environment = λ b. record { table = table; state = λ n. int (pos 0); bound = b } in
    ap (λ x. role table x f) (sym (types around)) ∙ sym (meaning-role find (e bs) f) ∙ ap (λ m. m.role) (meaning-closed find (e []) bs [] f c) ∙ meaning-role find (e []) f
  where
    types : (ts : List ValueType) → map (λ (x : Binding). x.0) (map (λ t. (t, base_of t)) ts) ≡ ts
    types [] = refl
    types (t ∷ ts) = ap (λ x. t ∷ x) (types ts)

-- ---- one more variable
abbrev pub number_entry : VariableEntry
number_entry = record { text = []; of_type = int_type }

get-last : {A : Type 0} (xs : List A) (x : A) → slice_get (xs ++ x ∷ []) (length xs) ≡ Some x
get-last [] x = refl
get-last (y ∷ xs) x = get-last xs x

get-other : {A : Type 0} (xs : List A) (x : A) (n : ℕ) → nat_eq n (length xs) ≡ false → slice_get (xs ++ x ∷ []) n ≡ slice_get xs n
get-other [] x zero h = absurd (clash h)
  where
    clash : nat_eq 0 0 ≡ false → ⊥
    clash q = grind (arith, nat_tests)
get-other [] x (suc n) h = refl
get-other (y ∷ xs) x zero h = refl
get-other (y ∷ xs) x (suc n) h = get-other xs x n (less n (length xs) h)
  where
    less : (n m : ℕ) → nat_eq (suc n) (suc m) ≡ false → nat_eq n m ≡ false
    less n m q = grind (arith, nat_tests)

-- ---- the term of an assignment in an implementation
module _ (table : Table) (well : IsWellFormed table) (arrays : ArrayTable) (typed : AreTypedArrays table arrays) where
  relation-two : (f : ValueType → ValueType → Role) (r : Role) → IsTypedRole (if_relation f r) → (t : ValueType) × (u : ValueType) × (r ≡ gives (set_type (pair_type t u))) × IsTypedRole (f t u)
  relation-two f r h = relation-is table [] f r h

  write-index : (x : ℕ) (f : Formula) (w : Formula × Formula) (row : ArrayRow) → row_of arrays x ≡ Some row → write_of x f ≡ Some w → IsTypedRole (role table [] f) → (role table [] w.0 ≡ gives (index_type row.domain)) × IsTypedRole (role table [] w.1)
  write-index x (binary Over (variable y) (unary Single (binary Maps i v))) w row r q h = by_name (nat_eq x y) refl q
    where
      parts : (y ≡ x) → (role table [] i ≡ gives (index_type row.domain)) × IsTypedRole (role table [] v)
      parts e =
          let k = relation-two (λ t u. if_relation (λ c d. if_holds (same_type t c && same_type u d) (gives (set_type (pair_type t u)))) (role table [] (unary Single (binary Maps i v)))) (role table [] (variable y)) h in
          let l = relation-two (λ c d. if_holds (same_type k.0 c && same_type k.1 d) (gives (set_type (pair_type k.0 k.1)))) (role table [] (unary Single (binary Maps i v))) k.3 in
          let s = and-both (same_type k.0 l.0) (same_type k.1 l.1) (holds-op (same_type k.0 l.0 && same_type k.1 l.1) (gives (set_type (pair_type k.0 k.1))) l.3).0 in
          let one : k.0 ≡ l.0 = same_type-then k.0 l.0 s.0 in
          let single = value-is table [] (λ t. gives (set_type t)) (role table [] (binary Maps i v)) (subst IsTypedRole (sym l.2) tt) in
          let a = value-is table [] (λ t. if_value (λ u. gives (pair_type t u)) (role table [] v)) (role table [] i) (subst IsTypedRole (sym single.1) tt) in
          let b = value-is table [] (λ u. gives (pair_type a.0 u)) (role table [] v) a.2 in
          let made : pair_role (role table [] i) (role table [] v) ≡ gives (pair_type a.0 b.0) = λ j. pair_role (a.1 j) (b.1 j) in
          let e1 : gives (pair_type a.0 b.0) ≡ gives single.0 = sym made ∙ single.1 in
          let e2 : gives (set_type single.0) ≡ gives (set_type (pair_type l.0 l.1)) = sym (ap (unary_role Single) single.1) ∙ l.2 in
          let e3 : a.0 ≡ l.0 = first-of-pair a.0 b.0 single.0 l.0 l.1 e1 e2 in
          let t = typed x row r in
          let e4 : gives (set_type (pair_type k.0 k.1)) ≡ gives (set_type (pair_type (index_type row.domain) t.0)) = sym k.2 ∙ ap (λ n. given_by (variable_type table n)) e ∙ ap given_by t.1 in
          let e5 : k.0 ≡ index_type row.domain = first-part k.0 k.1 (index_type row.domain) t.0 e4 in
          (a.1 ∙ ap gives (e3 ∙ sym one ∙ e5), subst IsTypedRole (sym b.1) tt)

      by_name : (b : Bool) → nat_eq x y ≡ b → cond b (Some (i, v)) None ≡ Some w → (role table [] w.0 ≡ gives (index_type row.domain)) × IsTypedRole (role table [] w.1)
      by_name true n q = let e : (i, v) ≡ w = cc in subst (λ u. (role table [] u.0 ≡ gives (index_type row.domain)) × IsTypedRole (role table [] u.1)) e (parts (sym (nat_eq-same x y n)))
      by_name false n q = absurd (cc)
  write-index x f w row r q h = absurd (cc)

  pub term-role : (x : ℕ) (f : Formula) → IsTypedRole (role table [] f) → IsPredicate table (checked_at arrays (row_of arrays x) x f)
  term-role x f h = by_row (row_of arrays x) refl
    where
      by_write : (row : ArrayRow) → row_of arrays x ≡ Some row → (o : Option (Formula × Formula)) → write_of x f ≡ o → IsPredicate table (checked_write arrays row o f)
      by_write row r None q = checked-role table well arrays typed [] f h
      by_write row r (Some w) q =
          let k = write-index x f w row r q h in
          both-role table [] (both (checked arrays w.0) (index_check (Some row) w.0)) (checked arrays w.1)
          (both-role table [] (checked arrays w.0) (index_check (Some row) w.0) (checked-role table well arrays typed [] w.0 (subst IsTypedRole (sym k.0) tt)) (index-role table well arrays typed [] row.domain w.0 k.0))
          (checked-role table well arrays typed [] w.1 k.1)

      by_row : (o : Option ArrayRow) → row_of arrays x ≡ o → IsPredicate table (checked_at arrays o x f)
      by_row None q = checked-role table well arrays typed [] f h
      by_row (Some row) q = by_write row q (write_of x f) refl

-- ---- boxes and W
module _ (table : Table) (well : IsWellFormed table) (room : IsWellFormed (with_variable table number_entry)) where
  abbrev more : Table
  more = with_variable table number_entry

  abbrev new : ℕ
  new = variant_before table

  wide : IsWider table more
  wide = record { sets = ([], nil table.sets); variables = (number_entry ∷ [], refl) }
    where
      nil : {A : Type 0} (xs : List A) → xs ≡ xs ++ []
      nil [] = refl
      nil (x ∷ xs) = ap (λ ys. x ∷ ys) (nil xs)

  new-type : variable_type more new ≡ Some int_type
  new-type = ap (option_map (λ v. v.of_type)) (get-last table.variables number_entry)

  old-type : (m : ℕ) → nat_eq m new ≡ false → variable_type more m ≡ variable_type table m
  old-type m h = ap (option_map (λ v. v.of_type)) (get-other table.variables number_entry m h)

  types-same : (zs : List ℕ) → AreListed table zs → types_of table zs ≡ types_of more zs
  types-same [] l = refl
  types-same (z ∷ zs) l =
      let first : declared_type table z ≡ declared_type more z = ap (λ o. unwrap_or o bool_type) (l.0.1 ∙ sym (variable-wider table more well wide z l.0.0 l.0.1)) in
      let rest = types-same zs l.1 in
      λ i. first i ∷ rest i

  listed-more : (zs : List ℕ) → AreListed table zs → AreListed more zs
  listed-more [] l = tt
  listed-more (z ∷ zs) l = ((l.0.0, variable-wider table more well wide z l.0.0 l.0.1), listed-more zs l.1)

  pairs-more : (xs : List (ℕ × ℕ)) → AreTypedPairs table xs → AreTypedPairs more xs
  pairs-more [] l = tt
  pairs-more (x ∷ xs) l = ((l.0.0, variable-wider table more well wide x.0 l.0.0 l.0.1, variable-wider table more well wide x.1 l.0.0 l.0.2), pairs-more xs l.1)

  terms-more : (ps : List (ℕ × Formula)) → AreTypedTerms table ps → AreTypedTerms more ps
  terms-more [] l = tt
  terms-more (p ∷ ps) l = ((l.0.0, variable-wider table more well wide p.0 l.0.0 l.0.1, term-wider table more well wide l.0.0 p.1 l.0.2), terms-more ps l.1)

  up : (p : Formula) → IsPredicate table p → IsPredicate more p
  up p h = predicate-wider table more well wide p h

  all-more : (zs : List ℕ) (f : Formula) → AreListed table zs → IsPredicate more f → IsPredicate more (all_of table zs f)
  all-more zs f l h = subst (λ ts. IsPredicate more (for_all ts (closed_over_each zs f))) (sym (types-same zs l)) (all-predicate more room zs f (listed-more zs l) h)

  written-more : (zs : List ℕ) (f : Formula) → AreListed table zs → IsPredicate more f → IsPredicate more (all_written table zs f)
  written-more [] f l h = h
  written-more (z ∷ zs) f l h = all-more (z ∷ zs) f l h

  written-here : (zs : List ℕ) (f : Formula) → AreListed table zs → IsPredicate table f → IsPredicate table (all_written table zs f)
  written-here [] f l h = h
  written-here (z ∷ zs) f l h = all-predicate table well (z ∷ zs) f l h

  all_new-more : (xs : List (ℕ × ℕ)) (p r : Formula) → AreTypedPairs table xs → IsPredicate more p → IsPredicate more r → IsPredicate more (all_new table xs p r)
  all_new-more xs p r w h k =
      subst (λ ts. IsPredicate more (for_all ts (binary Imp (new_values xs p) (closed_over_each (firsts xs) r)))) (sym (types-same (firsts xs) (firsts-listed table xs w)))
      (all_new-predicate more room xs p r (pairs-more xs w) h k)

  -- the five parts over a table
  implied : (t : Table) (a b c : Formula) → IsPredicate t a → IsPredicate t b → IsPredicate t c → IsPredicate t (binary Imp (binary And a b) c)
  implied t a b c h k l = λ i. connective_role (connective_role (h i) (k i)) (l i)

  natural : (t : Table) (v : Formula) → IsTerm t int_type v → IsPredicate t (binary In v (named Natural))
  natural t v h = λ i. membership_role (h i) (ranges_over int_type)

  below : (t : Table) (v : Formula) → IsTerm t int_type v → variable_type t new ≡ Some int_type → IsPredicate t (binary Lt v (variable new))
  below t v h k = λ i. numbers_role predicate (h i) (given_by (k i))

  pub box-more : (s : Substitution) (r : Formula) → Types table s → IsFlat s → IsPredicate more r → IsPredicate more (box table s r)
  box-more skip r w n h = h
  box-more (assign ps) r w n h = terms-predicate more ps r (terms-more ps w) h
  box-more (pre p s) r w n h = λ i. connective_role (up p w.0 i) (box-more s r w.1 n h i)
  box-more (guard p s) r w n h = λ i. connective_role (up p w.0 i) (box-more s r w.1 n h i)
  box-more (choice s t) r w n h = λ i. connective_role (box-more s r w.0 n.0 h i) (box-more t r w.1 n.1 h i)
  box-more (if_else p s t) r w n h = λ i. connective_role (connective_role (up p w.0 i) (box-more s r w.1 n.0 h i)) (connective_role (unary_role Not (up p w.0 i)) (box-more t r w.2 n.1 h i))
  box-more (any zs s) r w n h = all-more zs (box table s r) w.0 (box-more s r w.1 n h)
  box-more (seq s t) r w n h = box-more s (box table t r) w.0 n.0 (box-more t r w.1 n.1 h)
  box-more (par s t) r w n h = absurd n
  box-more (assert p s) r w n h = λ i. connective_role (up p w.0 i) (connective_role (up p w.0 i) (box-more s r w.1 n h i))
  box-more (becomes_such xs p) r w n h = all_new-more xs p r w.0 (up p w.1) h
  box-more (loop p s i v) r w n h =
      let xs = writes s in
      let l = writes-listed table s w.1 in
      let hp = up p w.0 in
      let hi = up i w.2 in
      let hv = term-wider table more well wide int_type v w.3 in
      let falls = box table s (binary Lt v (variable new)) in
      let fell = terms-predicate more ((new, v) ∷ []) falls ((int_type, new-type, hv), tt) (box-more s (binary Lt v (variable new)) w.1 n (below more v hv new-type)) in
      let a = written-more xs (binary Imp (binary And i p) (box table s i)) l (implied more i p (box table s i) hi hp (box-more s i w.1 n hi)) in
      let b = written-more xs (binary Imp (binary And i p) (binary In v (named Natural))) l (implied more i p (binary In v (named Natural)) hi hp (natural more v hv)) in
      let c = written-more xs (binary Imp (binary And i p) (replaced (looked_up ((new, v) ∷ [])) falls)) l (implied more i p (replaced (looked_up ((new, v) ∷ [])) falls) hi hp fell) in
      let d = written-more xs (binary Imp (binary And i (unary Not p)) r) l (implied more i (unary Not p) r hi (λ j. unary_role Not (hp j)) h) in
      λ j. connective_role (connective_role (connective_role (connective_role (hi j) (a j)) (b j)) (c j)) (d j)

  -- ---- the new number replaced
  bound-same : (o : Option ValueType) → bound_role more o ≡ bound_role table o
  bound-same None = refl
  bound-same (Some t) = refl

  empty-same : (t : ValueType) → empty_role more t ≡ empty_role table t
  empty-same (set_type t) = refl
  empty-same _ = refl

  named-same : (d : Domain) → named_role more d ≡ named_role table d
  named-same Booleans = refl
  named-same (Enum n) = refl
  named-same _ = refl

  all-same : (ts : List ValueType) → all_listed more ts ≡ all_listed table ts
  all-same [] = refl
  all-same (t ∷ ts) = ap (λ b. lists_type table t && b) (all-same ts)

  module _ (v : Formula) (hv : IsTerm table int_type v) where
    abbrev by : ℕ → Formula
    by = looked_up ((new, v) ∷ [])

    mutual
      role-less : (around : List ValueType) (p : Formula) → role table around (replaced by p) ≡ role more around p
      role-less around (variable m) = by_test (nat_eq m new) refl
        where
          by_test : (b : Bool) → nat_eq m new ≡ b → role table around (cond b v (variable m)) ≡ given_by (variable_type more m)
          by_test true q = closed-role table around v (term-closed table int_type v hv) ∙ hv ∙ sym (ap given_by (ap (variable_type more) (nat_eq-same m new q) ∙ new-type))
          by_test false q = ap given_by (sym (old-type m q))
      role-less around (bound m) = sym (bound-same (slice_get around m))
      role-less around (literal z) = refl
      role-less around (truth_value b) = refl
      role-less around (element s i) = refl
      role-less around (empty_set t) = sym (empty-same t)
      role-less around (named d) = sym (named-same d)
      role-less around btrue = refl
      role-less around bfalse = refl
      role-less around (unary o a) = ap (unary_role o) (role-less around a)
      role-less around (binary o a b) = λ i. binary_role o (role-less around a i) (role-less around b i)
      role-less around (for_all ts p) = λ i. if_holds (sym (all-same ts) i) (if_predicate predicate (role-less (bind ts around) p i))
      role-less around (for_some ts p) = λ i. if_holds (sym (all-same ts) i) (if_predicate predicate (role-less (bind ts around) p i))
      role-less around (comprehension rs p) =
          let r = roles-less around rs in
          let body = ap (λ us. role table (bind us around) (replaced by p)) (ap element_types r) ∙ role-less (bind (element_types (roles more around rs)) around) p in
          λ i. comprehension_role (r i) (body i)
      role-less around (lambda rs p u) =
          let r = roles-less around rs in
          let body = ap (λ us. role table (bind us around) (replaced by p)) (ap element_types r) ∙ role-less (bind (element_types (roles more around rs)) around) p in
          let image = ap (λ us. role table (bind us around) (replaced by u)) (ap element_types r) ∙ role-less (bind (element_types (roles more around rs)) around) u in
          λ i. lambda_role (r i) (body i) (image i)

      roles-less : (around : List ValueType) (fs : Formulas) → roles table around (all_replaced by fs) ≡ roles more around fs
      roles-less around no_formulas = refl
      roles-less around (formula_and f fs) = λ i. role-less around f i ∷ roles-less around fs i

  pub box-here : (s : Substitution) (r : Formula) → Types table s → IsFlat s → IsPredicate table r → IsPredicate table (box table s r)
  box-here skip r w n h = h
  box-here (assign ps) r w n h = terms-predicate table ps r w h
  box-here (pre p s) r w n h = λ i. connective_role (w.0 i) (box-here s r w.1 n h i)
  box-here (guard p s) r w n h = λ i. connective_role (w.0 i) (box-here s r w.1 n h i)
  box-here (choice s t) r w n h = λ i. connective_role (box-here s r w.0 n.0 h i) (box-here t r w.1 n.1 h i)
  box-here (if_else p s t) r w n h = λ i. connective_role (connective_role (w.0 i) (box-here s r w.1 n.0 h i)) (connective_role (unary_role Not (w.0 i)) (box-here t r w.2 n.1 h i))
  box-here (any zs s) r w n h = all-predicate table well zs (box table s r) w.0 (box-here s r w.1 n h)
  box-here (seq s t) r w n h = box-here s (box table t r) w.0 n.0 (box-here t r w.1 n.1 h)
  box-here (par s t) r w n h = absurd n
  box-here (assert p s) r w n h = λ i. connective_role (w.0 i) (connective_role (w.0 i) (box-here s r w.1 n h i))
  box-here (becomes_such xs p) r w n h = all_new-predicate table well xs p r w.0 w.1 h
  box-here (loop p s i v) r w n h =
      let xs = writes s in
      let l = writes-listed table s w.1 in
      let hv = term-wider table more well wide int_type v w.3 in
      let falls = box table s (binary Lt v (variable new)) in
      let fell : IsPredicate table (replaced (looked_up ((new, v) ∷ [])) falls) = role-less v w.3 [] falls ∙ box-more s (binary Lt v (variable new)) w.1 n (below more v hv new-type) in
      let a = written-here xs (binary Imp (binary And i p) (box table s i)) l (implied table i p (box table s i) w.2 w.0 (box-here s i w.1 n w.2)) in
      let b = written-here xs (binary Imp (binary And i p) (binary In v (named Natural))) l (implied table i p (binary In v (named Natural)) w.2 w.0 (natural table v w.3)) in
      let c = written-here xs (binary Imp (binary And i p) (replaced (looked_up ((new, v) ∷ [])) falls)) l (implied table i p (replaced (looked_up ((new, v) ∷ [])) falls) w.2 w.0 fell) in
      let d = written-here xs (binary Imp (binary And i (unary Not p)) r) l (implied table i (unary Not p) r w.2 (λ j. unary_role Not (w.0 j)) h) in
      λ j. connective_role (connective_role (connective_role (connective_role (w.2 j) (a j)) (b j)) (c j)) (d j)

  -- ---- W
  both-is : (p q : Formula) → IsPredicate table p → IsPredicate table q → IsPredicate table (both p q)
  both-is p q h k = both-role table [] p q h k

  where-is : (p q : Formula) → IsPredicate table p → IsPredicate table q → IsPredicate table (where_true p q)
  where-is p q h k = where-role table [] p q h k

  not-is : (p : Formula) → IsPredicate table p → IsPredicate table (unary Not p)
  not-is p h = λ i. unary_role Not (h i)

  over_variables-is : (zs : List ℕ) (p : Formula) → AreListed table zs → IsPredicate table p → IsPredicate table (over_variables table zs p)
  over_variables-is zs btrue l h = refl
  over_variables-is zs p l h = all-predicate table well zs p l h

  over_written-is : (zs : List ℕ) (p : Formula) → AreListed table zs → IsPredicate table p → IsPredicate table (over_written table zs p)
  over_written-is zs btrue l h = refl
  over_written-is zs p l h = written-here zs p l h

  such-is : (xs : List (ℕ × ℕ)) (p : Formula) → AreTypedPairs table xs → IsPredicate table p → IsPredicate table (such_condition table xs p)
  such-is xs p w h =
      let ts = types_of table (firsts xs) in
      let inner = new-role table well xs p w h in
      over-role table [] ts (defined table (bind ts []) (new_values xs p)) (types-listed table well (firsts xs) (firsts-listed table xs w)) (defined-role table well (bind ts []) (new_values xs p) (subst IsTypedRole (sym inner) tt))

  box_where-is : (s : Substitution) (q : Formula) → Types table s → IsFlat s → IsPredicate table q → IsPredicate table (box_where table s q)
  box_where-is s btrue w n h = refl
  box_where-is s q w n h = box-here s q w n h

  abbrev pub ArraysAre : Option ArrayTable → Type 0
  ArraysAre arrays = (a : ArrayTable) → arrays ≡ Some a → AreTypedArrays table a

  module _ (arrays : Option ArrayTable) (typed : ArraysAre arrays) where
    evaluated-is : (p : Formula) → IsPredicate table p → IsPredicate table (evaluated table arrays p)
    evaluated-is p h = by_arrays arrays typed
      where
        by_arrays : (o : Option ArrayTable) → ArraysAre o → IsPredicate table (evaluated table o p)
        by_arrays None k = defined-predicate table well p h
        by_arrays (Some a) k = checked-role table well a (k a refl) [] p (subst IsTypedRole (sym h) tt)

    term-is : (x : ℕ) (t : ValueType) (f : Formula) → IsTerm table t f → IsPredicate table (evaluated_term table arrays x f)
    term-is x t f h = by_arrays arrays typed
      where
        by_arrays : (o : Option ArrayTable) → ArraysAre o → IsPredicate table (evaluated_term table o x f)
        by_arrays None k = defined-role table well [] f (subst IsTypedRole (sym h) tt)
        by_arrays (Some a) k = term-role table well a (k a refl) x f (subst IsTypedRole (sym h) tt)

    terms-are : (f : Formula) (ps : List (ℕ × Formula)) → IsPredicate table f → AreTypedTerms table ps → IsPredicate table (evaluated_onto table arrays f ps)
    terms-are f [] h w = h
    terms-are f (p ∷ ps) h w = terms-are (both f (evaluated_term table arrays p.0 p.1)) ps (both-is f (evaluated_term table arrays p.0 p.1) h (term-is p.0 w.0.0 p.1 w.0.2)) w.1

    pub guarded-is : (s : Substitution) → Types table s → IsFlat s → IsPredicate table (guarded table arrays s)
    guarded-is skip w n = refl
    guarded-is (assign ps) w n = terms-are btrue ps refl w
    guarded-is (pre p s) w n = both-is (defined table [] p) (where_true p (guarded table arrays s)) (defined-predicate table well p w.0) (where-is p (guarded table arrays s) w.0 (guarded-is s w.1 n))
    guarded-is (guard p s) w n = both-is (defined table [] p) (where_true p (guarded table arrays s)) (defined-predicate table well p w.0) (where-is p (guarded table arrays s) w.0 (guarded-is s w.1 n))
    guarded-is (choice s t) w n = both-is (guarded table arrays s) (guarded table arrays t) (guarded-is s w.0 n.0) (guarded-is t w.1 n.1)
    guarded-is (if_else p s t) w n =
        both-is (both (evaluated table arrays p) (where_true p (guarded table arrays s))) (where_true (unary Not p) (guarded table arrays t))
        (both-is (evaluated table arrays p) (where_true p (guarded table arrays s)) (evaluated-is p w.0) (where-is p (guarded table arrays s) w.0 (guarded-is s w.1 n.0)))
        (where-is (unary Not p) (guarded table arrays t) (not-is p w.0) (guarded-is t w.2 n.1))
    guarded-is (any zs s) w n = over_variables-is zs (guarded table arrays s) w.0 (guarded-is s w.1 n)
    guarded-is (seq s t) w n = both-is (guarded table arrays s) (box_where table s (guarded table arrays t)) (guarded-is s w.0 n.0) (box_where-is s (guarded table arrays t) w.0 n.0 (guarded-is t w.1 n.1))
    guarded-is (par s t) w n = absurd n
    guarded-is (assert p s) w n = both-is (defined table [] p) (where_true p (guarded table arrays s)) (defined-predicate table well p w.0) (where-is p (guarded table arrays s) w.0 (guarded-is s w.1 n))
    guarded-is (becomes_such xs p) w n = such-is xs p w.0 w.1
    guarded-is (loop p s i v) w n =
        let xs = writes s in
        let l = writes-listed table s w.1 in
        let c = evaluated table arrays p in
        let inner = guarded table arrays s in
        let d = defined table [] v in
        let hd = defined-role table well [] v (subst IsTypedRole (sym w.3) tt) in
        let turn : IsPredicate table (where_true i (both c (where_true p (both inner d)))) = where-is i (both c (where_true p (both inner d))) w.2 (both-is c (where_true p (both inner d)) (evaluated-is p w.0) (where-is p (both inner d) w.0 (both-is inner d (guarded-is s w.1 n) hd))) in
        both-is (over_written table xs (defined table [] i)) (over_written table xs (where_true i (both c (where_true p (both inner d))))) (over_written-is xs (defined table [] i) l (defined-predicate table well i w.2)) (over_written-is xs (where_true i (both c (where_true p (both inner d)))) l turn)

-- ---- a table with one more number
pub room-formed : (table : Table) → IsWellFormed table → length table.variables < 2 ^ 32 → IsWellFormed (with_variable table number_entry)
room-formed table f room =
    let long = length-append table.variables (number_entry ∷ []) in
    record {
      counted = f.counted;
      listed = All-append (λ v. IsTrue (lists_type table v.of_type)) table.variables (number_entry ∷ []) f.listed (All-cons (λ v. IsTrue (lists_type table v.of_type)) number_entry [] refl (All-nil (λ v. IsTrue (lists_type table v.of_type))));
    }

pub guarded_is_predicate : (table : Table) → IsWellFormed table → length table.variables < 2 ^ 32 → (arrays : Option ArrayTable) →
    ((a : ArrayTable) → arrays ≡ Some a → AreTypedArrays table a) → (s : Substitution) → IsFlat s → Types table s →
    IsPredicate table (guarded table arrays s)
guarded_is_predicate table well room arrays typed s n w = guarded-is table well (room-formed table well room) arrays typed s w n
