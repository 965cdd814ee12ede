-- What a substitution without faults reads as, types in the table.
use Rattle.std.proofs.Common.{◌≡◌, inl, inr, ℕ, suc, ◌+◌, List, [], ◌∷◌, ◌++◌, length, refl, sym, ◌∙◌, ap, subst, Bool, true, false, cond, ◌&&◌, ◌||◌}
use Rattle.std.specs.Prelude.{Option, None, Some, pos, ℤ}
use Rattle.std.specs.Str.{bytes_eq}
use Rattle.bk_val.specs.ValueType.{ValueType, int_type, bool_type, enum_type, pair_type, set_type}
use Rattle.bk_form.specs.Table.{Table, variable_type, lists_type}
use Rattle.bk_form.specs.Formula.{Formula, literal, btrue, unary, binary}
use Rattle.bk_form.specs.declared.operator.UnOp.TheVariants.{Not as Negation}
use Rattle.bk_form.specs.declared.operator.BinOp.TheVariants.{And as Conjunction}
use Rattle.bk_gsl.specs.Substitution.{Substitution, guard, choice}
use Rattle.bk_form.specs.Role.{role, predicate, bind, same_type}
use Rattle.bk_form.proofs.Roles.{same_type-then}
use Rattle.bk_gsl.specs.State.{among, firsts}
use Rattle.bk_form.specs.Predicates.{IsPredicate}
use Rattle.bk_gsl.specs.Typed.{IsTerm, IsListed, AreListed, AreTypedTerms, AreTypedPairs, Types}
use Rattle.bk_raw.specs.declared.term.RawName.{RawName}
use Rattle.bk_raw.specs.Trees.RawTree.{RawTree, RawTrees, no_trees, tree_and}
use Rattle.bk_raw.specs.Meaning.Names.{Names, Meaning, local, global, set_name, element_name, nothing, Agree, MeaningAgrees, level_name}
use Rattle.bk_raw.specs.Meaning.Outcome.{no_type, ask_domain, ask_predicate}
use Rattle.bk_raw.specs.Meaning.Binders.{twice, has_type}
use Rattle.bk_raw.specs.Meaning.TermReading.{place_of, part, reading}
use Rattle.bk_raw.specs.Meaning.RightReading.{Whenever}
use Rattle.bk_raw.specs.Meaning.Speaking.{HasType, AreTyped}
use Rattle.bk_raw.specs.Trees.SubTree.{SubTree, sub, SubNode, sub_skip, sub_call, sub_assign, sub_assign_at, sub_member, sub_such, sub_begin, sub_pre, sub_assert, sub_if, sub_choice, sub_select, sub_any, sub_let, sub_var, sub_while, sub_parallel, sub_sequence, Branches, no_branches, else_branch, branch_and, Choices, no_choices, choice_and}
use Rattle.bk_statics.specs.Typings.{Typing, interval, numbered, numbered_old, with_type, typed, Target, unknown, no_variable, variable_target, target_in, target, number_of, type_at, or_else, predicate_read, outcome_of, term_read}
use Rattle.bk_statics.specs.Binders.{binder_count}
use Rattle.bk_statics.specs.Elaborated.{with_pair, paired_as, assigned_pairs, overridden, put_read, all_one_type, chosen_where, chosen_in, old_pairs, elaborated, elaborated_node, else_part, choices, selected}
use Rattle.bk_statics.specs.SubFaults.{predicate_faults, term_faults, domain_faults, target_faults, left_faults, over_faults, is_same_option, declared_faults, old_faults, written_in, shared_faults, writable_within, sub_faults, node_faults, branches_faults, choices_faults}
use Rattle.bk_statics.specs.Settled.{IsSettled, StandsIn, AreOf}
use Rattle.bk_statics.proofs.LeftFaults.{first-free}
use Rattle.bk_raw.proofs.Filled.{Gives, and-both, same_type-self}
use Rattle.bk_raw.proofs.Asks.{Right, IsDomain, ask-right, ask_domain-right, ask_predicate-right}
use Rattle.bk_raw.proofs.ReadingRight.{reading-right, part-right}
use Rattle.bk_raw.proofs.RulesFit.{none-left, none-right, some-fault}
use Rattle.bk_raw.specs.Errors.Faults.{Fault, unknown_name, without_type, wrong_write}

module _ (int_max : ℤ) (table : Table) (typing : Typing) (settled : IsSettled table typing) where
  -- ---- names
  meaning-agrees : (text : List ℕ) (m : Meaning) (ns : Names) → StandsIn table m → Agree table [] (typed typing ns) → MeaningAgrees table [] (with_type typing m) (λ us. Agree table us (typed typing ns))
  meaning-agrees text (local t) ns h a = absurd h
  meaning-agrees text (global n t) ns h a = number-agrees (typing n) refl
    where
      number-agrees : (o : Option ValueType) → typing n ≡ o → MeaningAgrees table [] (global n o) (λ us. Agree table us (typed typing ns))
      number-agrees None e = a
      number-agrees (Some t) e = (settled.types n t e, settled.listed n t e, a)
  meaning-agrees text (set_name s) ns h a = (h, a)
  meaning-agrees text (element_name s e) ns h a = (h.0, h.1, a)
  meaning-agrees text nothing ns h a = absurd h

  pub names-agree : (names : Names) → AreOf table names → Agree table [] (typed typing names)
  names-agree [] h = tt
  names-agree (n ∷ ns) h = meaning-agrees n.text n.meaning ns h.0 (names-agree ns h.1)

  pub of-join : (a b : Names) → AreOf table a → AreOf table b → AreOf table (a ++ b)
  of-join [] b h k = k
  of-join (n ∷ ns) b h k = (h.0, of-join ns b h.1 k)

  pub inner-of : (n : ℕ) (xs : List RawName) (names : Names) → AreOf table names → AreOf table (bind (numbered n xs) names)
  inner-of n [] names h = h
  inner-of n (x ∷ xs) names h = inner-of (suc n) xs (record { text = x.text; meaning = global n None } ∷ names) (tt, h)

  pub old-of : (n : ℕ) (xs : List RawName) (names : Names) → AreOf table names → AreOf table (bind (numbered_old n xs) names)
  old-of n [] names h = h
  old-of n (x ∷ xs) names h = old-of (suc n) xs (record { text = level_name x.text 0; meaning = global n None } ∷ names) (tt, h)

  typed-one : (o : Option ValueType) (n : ℕ) → has_type o ≡ true → HasType (global n o)
  typed-one None n h = absurd (cc)
  typed-one (Some t) n h = tt

  listed-one : (o : Option ValueType) (n : ℕ) → typing n ≡ o → has_type o ≡ true → IsListed table n
  listed-one None n e h = absurd (cc)
  listed-one (Some t) n e h = (t, settled.types n t e)

  has-it : (c : Bool) (at : ℕ) (fs : List Fault) → cond c [] (no_type at) ++ fs ≡ [] → (c ≡ true) × (fs ≡ [])
  has-it true at fs h = (refl, h)
  has-it false at fs h = some-fault (without_type at) fs h

  pub inner-typed : (n : ℕ) (xs : List RawName) (names : Names) → declared_faults typing n xs ≡ [] → AreTyped (typed typing names) → AreTyped (typed typing (bind (numbered n xs) names))
  inner-typed n [] names e h = h
  inner-typed n (x ∷ xs) names e h = let k = has-it (has_type (typing n)) x.at (declared_faults typing (suc n) xs) e in inner-typed (suc n) xs (record { text = x.text; meaning = global n None } ∷ names) k.1 (typed-one (typing n) n k.0, h)

  inner-listed : (n : ℕ) (xs : List RawName) → declared_faults typing n xs ≡ [] → AreListed table (interval n (length xs))
  inner-listed n [] e = tt
  inner-listed n (x ∷ xs) e = let k = has-it (has_type (typing n)) x.at (declared_faults typing (suc n) xs) e in (listed-one (typing n) n refl k.0, inner-listed (suc n) xs k.1)

  -- ---- what is written
  abbrev IsTypedTarget : Target → Type 0
  IsTypedTarget (variable_target n) = (t : ValueType) × (typing n ≡ Some t)
  IsTypedTarget _ = Unit {0}

  typed-number : (n : ℕ) (o : Option ValueType) → typing n ≡ o → HasType (global n o) → (t : ValueType) × (typing n ≡ Some t)
  typed-number n None e h = absurd h
  typed-number n (Some t) e h = (t, e)

  meaning-target : (m : Meaning) → HasType (with_type typing m) → IsTypedTarget (target_in m)
  meaning-target (local t) h = tt
  meaning-target (global n t) h = typed-number n (typing n) refl h
  meaning-target (set_name s) h = tt
  meaning-target (element_name s e) h = tt
  meaning-target nothing h = tt

  either-target : (c : Bool) (a b : Target) → IsTypedTarget a → IsTypedTarget b → IsTypedTarget (cond c a b)
  either-target true a b h k = h
  either-target false a b h k = k

  target-typed : (names : Names) (text : List ℕ) → AreTyped (typed typing names) → IsTypedTarget (target names text)
  target-typed [] text h = tt
  target-typed (n ∷ ns) text h = either-target (bytes_eq n.text text) (target_in n.meaning) (target ns text) (meaning-target n.meaning h.0) (target-typed ns text h.1)

  abbrev HasTypeAt : Target → Type 0
  HasTypeAt x = (t : ValueType) × (type_at typing x ≡ Some t)

  written-typed : (writable : ℕ → Bool) (at : ℕ) (x : Target) → IsTypedTarget x → target_faults writable at x ≡ [] → HasTypeAt x
  written-typed writable at unknown h e = some-fault (unknown_name at) [] e
  written-typed writable at no_variable h e = some-fault (wrong_write at) [] e
  written-typed writable at (variable_target n) h e = h

  at-type : (x : Target) (t : ValueType) → type_at typing x ≡ Some t → (variable_type table (number_of x) ≡ Some t) × (lists_type table t ≡ true)
  at-type (variable_target n) t h = (settled.types n t h, settled.listed n t h)
  at-type unknown t h = absurd (cc)
  at-type no_variable t h = absurd (cc)

  -- ---- formulas
  pub outcome-right : (names : Names) (wanted : Bool) (e : RawTree) → AreOf table names → Right table [] (part wanted e (reading int_max (typed typing names) e)).outcome
  outcome-right names wanted e h = part-right int_max table [] wanted e (reading int_max (typed typing names) e) (reading-right int_max table e (typed typing names) [] (names-agree names h))

  or-btrue : (o : Option Formula) → Whenever (λ p. role table [] p ≡ predicate) o → IsPredicate table (or_else btrue o)
  or-btrue None h = refl
  or-btrue (Some p) h = h

  pub predicate-typed : (names : Names) (p : RawTree) → AreOf table names → IsPredicate table (predicate_read int_max typing names p)
  predicate-typed names p h = or-btrue (ask_predicate (part true p (reading int_max (typed typing names) p)).outcome).answer (ask_predicate-right table [] (part true p (reading int_max (typed typing names) p)).outcome (outcome-right names true p h))

  pub term-typed : (names : Names) (t : ValueType) (e : RawTree) → AreOf table names → lists_type table t ≡ true → Whenever (Gives table [] t) (term_read int_max typing names t e)
  term-typed names t e h l = ask-right table [] (place_of e) (outcome_of int_max typing names e) t (outcome-right names false e h) l

  pub or-zero : (o : Option Formula) → Whenever (Gives table [] int_type) o → IsTerm table int_type (or_else (literal (pos 0)) o)
  or-zero None h = refl
  or-zero (Some p) h = h

  pub pair-typed : (n : ℕ) (t : ValueType) (f : Option Formula) (ps : List (ℕ × Formula)) → variable_type table n ≡ Some t → Whenever (Gives table [] t) f → AreTypedTerms table ps → AreTypedTerms table (with_pair n f ps)
  pair-typed n t None ps v h k = k
  pair-typed n t (Some f) ps v h k = ((t, v, h), k)

  paired-typed : (names : Names) (x : Target) (o : Option ValueType) (e : RawTree) (ps : List (ℕ × Formula)) → AreOf table names → type_at typing x ≡ o → AreTypedTerms table ps → AreTypedTerms table (paired_as int_max typing names x o e ps)
  paired-typed names x None e ps h m k = k
  paired-typed names x (Some t) e ps h m k = let v = at-type x t m in pair-typed (number_of x) t (term_read int_max typing names t e) ps v.0 (term-typed names t e h v.1) k

  assigned-typed : (names : Names) (xs : List RawName) (es : RawTrees) → AreOf table names → AreTypedTerms table (assigned_pairs int_max typing names xs es)
  assigned-typed names (x ∷ xs) (tree_and e es) h = paired-typed names (target names x.text) (type_at typing (target names x.text)) e (assigned_pairs int_max typing names xs es) h refl (assigned-typed names xs es h)
  assigned-typed names (x ∷ xs) no_trees h = tt
  assigned-typed names [] es h = tt

  over-typed : (f : ℕ) (t u : ValueType) (a b : Option Formula) → variable_type table f ≡ Some (set_type (pair_type t u)) → Whenever (Gives table [] t) a → Whenever (Gives table [] u) b → Types table (overridden f a b)
  over-typed f t u None b v h k = tt
  over-typed f t u (Some a) None v h k = tt
  over-typed f t u (Some a) (Some b) v h k = ((set_type (pair_type t u), v, rw (v, h, k, same_type-self t, same_type-self u) refl), tt)

  put-typed : (names : Names) (x : Target) (o : Option ValueType) (e v : RawTree) → AreOf table names → type_at typing x ≡ o → Types table (put_read int_max typing names (number_of x) o e v)
  put-typed names x None e v h m = tt
  put-typed names x (Some int_type) e v h m = tt
  put-typed names x (Some bool_type) e v h m = tt
  put-typed names x (Some (enum_type n)) e v h m = tt
  put-typed names x (Some (pair_type t u)) e v h m = tt
  put-typed names x (Some (set_type int_type)) e v h m = tt
  put-typed names x (Some (set_type bool_type)) e v h m = tt
  put-typed names x (Some (set_type (enum_type n))) e v h m = tt
  put-typed names x (Some (set_type (set_type t))) e v h m = tt
  put-typed names x (Some (set_type (pair_type t u))) e v h m =
      let k = at-type x (set_type (pair_type t u)) m in
      let l = and-both (lists_type table t) (lists_type table u) k.1 in
      over-typed (number_of x) t u (term_read int_max typing names t e) (term_read int_max typing names u v) k.0 (term-typed names t e h l.0) (term-typed names u v h l.1)

  -- ---- x :: E
  where-typed : (c : Bool) (x : Target) (z : ℕ) (t u : ValueType) (d : Formula × ValueType) → type_at typing x ≡ Some t → typing z ≡ Some u → (c ≡ true → (t ≡ d.1) × (u ≡ d.1)) → IsDomain table [] d → Types table (chosen_where c (number_of x) z d.0)
  where-typed false x z t u d h k e m = (refl, tt)
  where-typed true x z t u d h k e m =
      let same = e refl in
      let zt : variable_type table z ≡ Some d.1 = settled.types z u k ∙ ap Some same.1 in
      let xt : variable_type table (number_of x) ≡ Some d.1 = (at-type x t h).0 ∙ ap Some same.0 in
      (elim m.form [ inl a ↦ rw (zt, a, same_type-self d.1) refl | inr a ↦ rw (zt, a, same_type-self d.1) refl ], ((d.1, xt, rw zt refl), tt))

  chosen-where : (x : Target) (o : Option ValueType) (z : ℕ) (p : Option ValueType) (d : Formula × ValueType) → type_at typing x ≡ o → typing z ≡ p → IsDomain table [] d → Types table (chosen_where (all_one_type o p d.1) (number_of x) z d.0)
  chosen-where x None z p d h k m = (refl, tt)
  chosen-where x (Some t) z None d h k m = (refl, tt)
  chosen-where x (Some t) z (Some u) d h k m = where-typed (same_type t d.1 && same_type u d.1) x z t u d h k (λ e. let b = and-both (same_type t d.1) (same_type u d.1) e in (same_type-then t d.1 b.0, same_type-then u d.1 b.1)) m

  pub chosen-typed : (x : Target) (z : ℕ) (d : Option (Formula × ValueType)) → Whenever (IsDomain table []) d → Types table (chosen_in typing (number_of x) (type_at typing x) z d)
  chosen-typed x z None h = (refl, tt)
  chosen-typed x z (Some d) h = chosen-where x (type_at typing x) z (typing z) d refl refl h

  -- ---- old values
  same-option : (t : ValueType) (o : Option ValueType) (n : ℕ) → typing n ≡ o → is_same_option (Some t) o ≡ true → typing n ≡ Some t
  same-option t None n e h = absurd (cc)
  same-option t (Some u) n e h = e ∙ ap Some (sym (same_type-then t u h))

  old-type : (x : Target) (n : ℕ) → HasTypeAt x → is_same_option (type_at typing x) (typing n) ≡ true → (t : ValueType) × (variable_type table (number_of x) ≡ Some t) × (variable_type table n ≡ Some t)
  old-type x n h e = let same = same-option h.0 (typing n) n refl (subst (λ o. is_same_option o (typing n) ≡ true) h.1 e) in (h.0, (at-type x h.0 h.1).0, settled.types n h.0 same)

  old-typed : (names : Names) (writable : ℕ → Bool) (before : List ℕ) (n : ℕ) (xs : List RawName) → AreTyped (typed typing names) → left_faults names writable before xs ≡ [] → old_faults typing names n xs ≡ [] → AreTypedPairs table (old_pairs names n xs)
  old-typed names writable before n [] h e o = tt
  old-typed names writable before n (x ∷ xs) h e o =
      let k = has-it (is_same_option (type_at typing (target names x.text)) (typing n)) x.at (old_faults typing names (suc n) xs) o in
      let free = first-free names writable before x xs e in
      (old-type (target names x.text) n (written-typed writable x.at (target names x.text) (target-typed names x.text h) free.none) k.0, old-typed names writable (number_of (target names x.text) ∷ before) (suc n) xs h free.rest k.1)

  pairs-listed : (names : Names) (n : ℕ) (x : RawName) → AreTypedPairs table (old_pairs names n (x ∷ [])) → AreListed table (n ∷ [])
  pairs-listed names n x h = ((h.0.0, h.0.2), tt)

  negation-typed : (p : Formula) → IsPredicate table p → IsPredicate table (unary Negation p)
  negation-typed p h = rw h refl

  conjunction-typed : (p q : Formula) → IsPredicate table p → IsPredicate table q → IsPredicate table (binary Conjunction p q)
  conjunction-typed p q h k = rw (h, k) refl

  module _ (above : Names) (above-of : AreOf table above) where
    mutual
      pub elaborated-types : (s : SubTree) (names : Names) (writable : ℕ → Bool) (n : ℕ) → AreOf table names → AreTyped (typed typing names) → sub_faults int_max typing above names writable n s ≡ [] → Types table (elaborated int_max typing above names n s)
      elaborated-types (sub at node) names writable n h t e = node-types node names writable n h t e

      node-types : (node : SubNode) (names : Names) (writable : ℕ → Bool) (n : ℕ) → AreOf table names → AreTyped (typed typing names) → node_faults int_max typing above names writable n node ≡ [] → Types table (elaborated_node int_max typing above names n node)
      node-types sub_skip names writable n h t e = tt
      node-types (sub_call ys o ts) names writable n h t e = tt
      node-types (sub_assign xs es) names writable n h t e = assigned-typed names xs es h
      node-types (sub_assign_at x a v) names writable n h t e = put-typed names (target names x.text) (type_at typing (target names x.text)) a v h refl
      node-types (sub_member x a) names writable n h t e =
          let left = left_faults names writable [] (x ∷ []) in
          let olds = old_faults typing names n (x ∷ []) in
          let rest = domain_faults int_max typing names a ++ (over_faults x.at (type_at typing (target names x.text)) (ask_domain (place_of a) (outcome_of int_max typing names a)).answer) in
          let pairs = old-typed names writable [] n (x ∷ []) t (none-left left (olds ++ rest) e) (none-left olds rest (none-right left (olds ++ rest) e)) in
          (pairs-listed names n x pairs, chosen-typed (target names x.text) n (ask_domain 0 (outcome_of int_max typing names a)).answer (ask_domain-right table [] 0 (outcome_of int_max typing names a) (outcome-right names false a h)))
      node-types (sub_such xs p) names writable n h t e =
          let left = left_faults names writable [] xs in
          let olds = old_faults typing names n xs in
          let rest = predicate_faults int_max typing (bind (numbered_old n xs) names) p in
          (old-typed names writable [] n xs t (none-left left (olds ++ rest) e) (none-left olds rest (none-right left (olds ++ rest) e)), predicate-typed (bind (numbered_old n xs) names) p (old-of n xs names h))
      node-types (sub_begin s) names writable n h t e = elaborated-types s names writable n h t e
      node-types (sub_pre p s) names writable n h t e = (predicate-typed names p h, elaborated-types s names writable n h t (none-right (predicate_faults int_max typing names p) (sub_faults int_max typing above names writable n s) e))
      node-types (sub_assert p s) names writable n h t e = (predicate-typed names p h, elaborated-types s names writable n h t (none-right (predicate_faults int_max typing names p) (sub_faults int_max typing above names writable n s) e))
      node-types (sub_if p s bs) names writable n h t e =
          let first = sub_faults int_max typing above names writable n s in
          let second = branches_faults int_max typing above names writable (n + binder_count s) bs in
          let both = none-right (predicate_faults int_max typing names p) (first ++ second) e in
          (predicate-typed names p h, elaborated-types s names writable n h t (none-left first second both), else-types bs names writable (n + binder_count s) h t (none-right first second both))
      node-types (sub_choice s cs) names writable n h t e =
          let first = sub_faults int_max typing above names writable n s in
          let second = choices_faults int_max typing above names writable (n + binder_count s) cs in
          choices-types cs names writable (n + binder_count s) (elaborated int_max typing above names n s) h t (elaborated-types s names writable n h t (none-left first second e)) (none-right first second e)
      node-types (sub_select p s bs) names writable n h t e =
          let first = sub_faults int_max typing above names writable n s in
          let second = branches_faults int_max typing above names writable (n + binder_count s) bs in
          let both = none-right (predicate_faults int_max typing names p) (first ++ second) e in
          let said = predicate-typed names p h in
          selected-types bs names writable (n + binder_count s) (unary Negation (predicate_read int_max typing names p)) (guard (predicate_read int_max typing names p) (elaborated int_max typing above names n s)) h t (negation-typed (predicate_read int_max typing names p) said) (said, elaborated-types s names writable n h t (none-left first second both)) (none-right first second both)
      node-types (sub_any xs p s) names writable n h t e =
          let inner = bind (numbered n xs) names in
          let declared = declared_faults typing n xs in
          let said = predicate_faults int_max typing inner p in
          let body = sub_faults int_max typing above inner (writable_within n (length xs) writable) (n + length xs) s in
          let later = none-right (twice [] xs) (declared ++ (said ++ body)) e in
          let types = none-left declared (said ++ body) later in
          (inner-listed n xs types, (predicate-typed inner p (inner-of n xs names h), elaborated-types s inner (writable_within n (length xs) writable) (n + length xs) (inner-of n xs names h) (inner-typed n xs names types t) (none-right said body (none-right declared (said ++ body) later))))
      node-types (sub_let xs p s) names writable n h t e =
          let inner = bind (numbered n xs) names in
          let declared = declared_faults typing n xs in
          let said = predicate_faults int_max typing inner p in
          let body = sub_faults int_max typing above inner (writable_within n (length xs) writable) (n + length xs) s in
          let later = none-right (twice [] xs) (declared ++ (said ++ body)) e in
          let types = none-left declared (said ++ body) later in
          (inner-listed n xs types, (predicate-typed inner p (inner-of n xs names h), elaborated-types s inner (writable_within n (length xs) writable) (n + length xs) (inner-of n xs names h) (inner-typed n xs names types t) (none-right said body (none-right declared (said ++ body) later))))
      node-types (sub_var xs s) names writable n h t e =
          let inner = bind (numbered n xs) names in
          let declared = declared_faults typing n xs in
          let body = sub_faults int_max typing above inner (writable_within n (length xs) writable) (n + length xs) s in
          let later = none-right (twice [] xs) (declared ++ body) e in
          let types = none-left declared body later in
          (inner-listed n xs types, elaborated-types s inner (writable_within n (length xs) writable) (n + length xs) (inner-of n xs names h) (inner-typed n xs names types t) (none-right declared body later))
      node-types (sub_while p s i v) names writable n h t e =
          let body = sub_faults int_max typing above names writable n s in
          let rest = predicate_faults int_max typing (names ++ above) i ++ term_faults int_max typing (names ++ above) (Some int_type) v in
          let both = of-join names above h above-of in
          (predicate-typed names p h, elaborated-types s names writable n h t (none-left body rest (none-right (predicate_faults int_max typing names p) (body ++ rest) e)), predicate-typed (names ++ above) i both, or-zero (term_read int_max typing (names ++ above) int_type v) (term-typed (names ++ above) int_type v both refl))
      node-types (sub_sequence s u) names writable n h t e =
          let first = sub_faults int_max typing above names writable n s in
          let second = sub_faults int_max typing above names writable (n + binder_count s) u in
          (elaborated-types s names writable n h t (none-left first second e), elaborated-types u names writable (n + binder_count s) h t (none-right first second e))
      node-types (sub_parallel s u) names writable n h t e =
          let first = sub_faults int_max typing above names writable n s in
          let second = sub_faults int_max typing above names writable (n + binder_count s) u in
          let shared = shared_faults (firsts (written_in names n s)) (written_in names (n + binder_count s) u) in
          (elaborated-types s names writable n h t (none-left first (second ++ shared) e), elaborated-types u names writable (n + binder_count s) h t (none-left second shared (none-right first (second ++ shared) e)))

      else-types : (bs : Branches) (names : Names) (writable : ℕ → Bool) (n : ℕ) → AreOf table names → AreTyped (typed typing names) → branches_faults int_max typing above names writable n bs ≡ [] → Types table (else_part int_max typing above names n bs)
      else-types no_branches names writable n h t e = tt
      else-types (else_branch s) names writable n h t e = elaborated-types s names writable n h t e
      else-types (branch_and p s bs) names writable n h t e =
          let first = sub_faults int_max typing above names writable n s in
          let second = branches_faults int_max typing above names writable (n + binder_count s) bs in
          let both = none-right (predicate_faults int_max typing names p) (first ++ second) e in
          (predicate-typed names p h, elaborated-types s names writable n h t (none-left first second both), else-types bs names writable (n + binder_count s) h t (none-right first second both))

      choices-types : (cs : Choices) (names : Names) (writable : ℕ → Bool) (n : ℕ) (before : Substitution) → AreOf table names → AreTyped (typed typing names) → Types table before → choices_faults int_max typing above names writable n cs ≡ [] → Types table (choices int_max typing above names n before cs)
      choices-types no_choices names writable n before h t b e = b
      choices-types (choice_and s cs) names writable n before h t b e =
          let first = sub_faults int_max typing above names writable n s in
          let second = choices_faults int_max typing above names writable (n + binder_count s) cs in
          choices-types cs names writable (n + binder_count s) (choice before (elaborated int_max typing above names n s)) h t (b, elaborated-types s names writable n h t (none-left first second e)) (none-right first second e)

      selected-types : (bs : Branches) (names : Names) (writable : ℕ → Bool) (n : ℕ) (nots : Formula) (before : Substitution) → AreOf table names → AreTyped (typed typing names) → IsPredicate table nots → Types table before → branches_faults int_max typing above names writable n bs ≡ [] → Types table (selected int_max typing above names n nots before bs)
      selected-types no_branches names writable n nots before h t q b e = b
      selected-types (else_branch s) names writable n nots before h t q b e = (b, (q, elaborated-types s names writable n h t e))
      selected-types (branch_and p s bs) names writable n nots before h t q b e =
          let first = sub_faults int_max typing above names writable n s in
          let second = branches_faults int_max typing above names writable (n + binder_count s) bs in
          let both = none-right (predicate_faults int_max typing names p) (first ++ second) e in
          let said = predicate-typed names p h in
          let more = unary Negation (predicate_read int_max typing names p) in
          selected-types bs names writable (n + binder_count s) (binary Conjunction nots more) (choice before (guard (predicate_read int_max typing names p) (elaborated int_max typing above names n s))) h t (conjunction-typed nots more q (negation-typed (predicate_read int_max typing names p) said)) (b, (said, elaborated-types s names writable n h t (none-left first second both))) (none-right first second both)
