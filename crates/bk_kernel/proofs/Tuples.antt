-- Several terms as one, their memberships in ranges, and conjunctions.
use Rattle.std.proofs.Common.{◌≡◌, inl, inr, ℕ, zero, suc, ◌+◌, List, [], ◌∷◌, ◌++◌, length, map, refl, sym, ◌∙◌, ap, true, arith}
use Rattle.std.specs.Prelude.{Some}
use Rattle.bk_val.specs.Value.{MathValue, pair}
use Rattle.bk_val.specs.ValueType.{ValueType, set_type}
use Rattle.bk_val.specs.Sets.{has}
use Rattle.bk_form.specs.Table.{Table}
use Rattle.bk_form.specs.Formula.{Formula, binary, Formulas, no_formulas, formula_and}
use Rattle.bk_form.specs.Search.{Finder}
use Rattle.bk_form.specs.Environment.{State, at_state}
use Rattle.bk_form.specs.Role.{Role, gives, role, roles, element_type, gives_set, each_gives_set}
use Rattle.bk_form.specs.Replacement.{count}
use Rattle.bk_form.specs.Operators.{elements, tuple_onto, tuple_of}
use Rattle.bk_form.specs.Laws.{TakesOneOfEach}
use Rattle.bk_form.specs.Meaning.{Meaning, meaning, meanings, value, truth, within, range_types}
use Rattle.bk_form.specs.declared.operator.BinOp.TheVariants.{And, Maps}
use Rattle.bk_form.proofs.Members.{and-both, and-true}
use Rattle.bk_form.proofs.Roles.{meaning-role}
use Rattle.bk_form.proofs.Valued.{sound_typing}
use Rattle.bk_form.specs.Predicates.{AllHold}
use Rattle.bk_form.specs.Settings.{IsOver}
use Rattle.bk_form.proofs.RoleParts.{connective-parts, membership-parts}
use Rattle.bk_bind.specs.Laws.{TermsGive}
use Rattle.bk_kernel.specs.Membership.{conjoined, conjunction, unpaired, memberships}
use Rattle.bk_form.specs.Each.{Each}
use Rattle.bk_form.specs.Predicates.{IsPredicate}
use Rattle.bk_arith.proofs.Options.{some-same}

-- ---- tuples
onto-same : (v w : MathValue) (vs ws : List MathValue) → length vs ≡ length ws → tuple_onto v vs ≡ tuple_onto w ws → (v ≡ w) × (vs ≡ ws)
onto-same v w [] [] d h = (h, refl)
onto-same v w [] (y ∷ ys) d h = absurd (omega arith)
onto-same v w (x ∷ xs) [] d h = absurd (omega arith)
onto-same v w (x ∷ xs) (y ∷ ys) d h =
    let k = onto-same (pair v x) (pair w y) xs ys (omega arith) h in
    let one : v ≡ w = cc (k.0) in
    let two : x ≡ y = cc (k.0) in
    (one, λ i. two i ∷ k.1 i)

pub tuple-same : (n : ℕ) (vs ws : List MathValue) → length vs ≡ suc n → length ws ≡ suc n → tuple_of vs ≡ tuple_of ws → vs ≡ ws
tuple-same n [] ws d e h = absurd (omega arith)
tuple-same n (v ∷ vs) [] d e h = absurd (omega arith)
tuple-same n (v ∷ vs) (w ∷ ws) d e h = let k = onto-same v w vs ws (omega arith) h in λ i. k.0 i ∷ k.1 i

pub length-takes : (ws vs : List MathValue) → TakesOneOfEach ws vs → length vs ≡ length ws
length-takes [] [] h = refl
length-takes [] (v ∷ vs) h = absurd h
length-takes (w ∷ ws) [] h = absurd h
length-takes (w ∷ ws) (v ∷ vs) h = ap suc (length-takes ws vs h.1)

module _ (find : Finder) (table : Table) (st : State) where
  abbrev pub val : Formula → MathValue
  val f = value find (at_state table st) f

  pub record Unpaired (n : ℕ) (f : Formula) (after es : List Formula) : Type 0 where
    pub is_tuple : tuple_of (map val es) ≡ tuple_onto (val f) (map val after)
    pub size : length es ≡ suc (n + length after)

  pub unpaired-then : (n : ℕ) (f : Formula) (after es : List Formula) → unpaired n f after ≡ Some es → Unpaired n f after es
  unpaired-then zero f after es h =
      let k = some-same (f ∷ after) es h in
      let d : suc (length after) ≡ suc (zero + length after) = omega arith in
      record { is_tuple = ap (λ x. tuple_of (map val x)) (sym k); size = ap length (sym k) ∙ d }
  unpaired-then (suc n) (binary Maps a b) after es h =
      let k = unpaired-then n a (b ∷ after) es h in
      let d : suc (n + suc (length after)) ≡ suc (suc n + length after) = omega arith in
      record { is_tuple = k.is_tuple; size = k.size ∙ d }
  unpaired-then (suc n) _ after es h = absurd (cc)

  -- ---- conjunctions
  abbrev holds : Formula → Type 0
  holds p = truth find (at_state table st) p ≡ true

  joined-then : (p : Formula) (qs : List Formula) → holds (conjoined p qs) → holds p × AllHold find (at_state table st) qs
  joined-then p [] h = (h, tt)
  joined-then p (q ∷ qs) h =
      let k = joined-then (binary And p q) qs h in
      let both = and-both (truth find (at_state table st) p) (truth find (at_state table st) q) k.0 in
      (both.0, (both.1, k.1))

  joined-if : (p : Formula) (qs : List Formula) → holds p → AllHold find (at_state table st) qs → holds (conjoined p qs)
  joined-if p [] h k = h
  joined-if p (q ∷ qs) h k = joined-if (binary And p q) qs (and-true (truth find (at_state table st) p) (truth find (at_state table st) q) h k.0) k.1

  pub conjunction-then : (ps : List Formula) → holds (conjunction ps) → AllHold find (at_state table st) ps
  conjunction-then [] h = tt
  conjunction-then (p ∷ ps) h = joined-then p ps h

  pub conjunction-if : (ps : List Formula) → AllHold find (at_state table st) ps → holds (conjunction ps)
  conjunction-if [] h = refl
  conjunction-if (p ∷ ps) h = joined-if p ps h.0 h.1

  pub hold-left : (ps qs : List Formula) → AllHold find (at_state table st) (ps ++ qs) → AllHold find (at_state table st) ps
  hold-left [] qs h = tt
  hold-left (p ∷ ps) qs h = (h.0, hold-left ps qs h.1)

  pub hold-right : (ps qs : List Formula) → AllHold find (at_state table st) (ps ++ qs) → AllHold find (at_state table st) qs
  hold-right [] qs h = h
  hold-right (p ∷ ps) qs h = hold-right ps qs h.1

  -- ---- ranges
  range-gives : (r : Role) (t : ValueType) → IsOver t r → gives_set r ≡ true → r ≡ gives (set_type t)
  range-gives (gives (set_type u)) t h g = elim h [ inl k ↦ k | inr k ↦ absurd (cc k) ]
  range-gives _ t h g = absurd (cc)

  pub give-terms : (rs : Formulas) (es : List Formula) → length es ≡ count rs → Each (IsPredicate table) (memberships rs es) → each_gives_set (roles table [] rs) ≡ true → TermsGive table (range_types (meanings find (at_state table st) rs)) es
  give-terms no_formulas [] d h g = tt
  give-terms no_formulas (e ∷ es) d h g = absurd (omega arith)
  give-terms (formula_and r rs) [] d h g = absurd (omega arith)
  give-terms (formula_and r rs) (e ∷ es) d h g =
      let k = membership-parts (role table [] e) (role table [] r) h.0 in
      let both = and-both (gives_set (role table [] r)) (each_gives_set (roles table [] rs)) g in
      let same = range-gives (role table [] r) k.0 k.2 both.0 in
      let elem : element_type (meaning find (at_state table st) r).role ≡ k.0 = ap element_type (meaning-role find (at_state table st) r ∙ same) in
      (k.1 ∙ ap gives (sym elem), give-terms rs es (omega arith) h.1 both.1)

  within-has : (r : Formula) (v : MathValue) → gives_set (role table [] r) ≡ true → within find (at_state table st) v r ≡ has (elements (val r)) v
  within-has r v g = at (role table [] r) refl g
    where
      at : (q : Role) → role table [] r ≡ q → gives_set q ≡ true → within find (at_state table st) v r ≡ has (elements (val r)) v
      at (gives (set_type t)) e h = sound_typing.members find (at_state table st) r (set_type t) e v
      at _ e h = absurd (cc)

  pub takes-then : (rs : Formulas) (es : List Formula) → each_gives_set (roles table [] rs) ≡ true → TakesOneOfEach (map (λ m. m.value) (meanings find (at_state table st) rs)) (map val es) → AllHold find (at_state table st) (memberships rs es)
  takes-then no_formulas es g h = tt
  takes-then (formula_and r rs) [] g h = absurd h
  takes-then (formula_and r rs) (e ∷ es) g h =
      let both = and-both (gives_set (role table [] r)) (each_gives_set (roles table [] rs)) g in
      (within-has r (val e) both.0 ∙ h.0, takes-then rs es both.1 h.1)

  pub takes-if : (rs : Formulas) (es : List Formula) → length es ≡ count rs → each_gives_set (roles table [] rs) ≡ true → AllHold find (at_state table st) (memberships rs es) → TakesOneOfEach (map (λ m. m.value) (meanings find (at_state table st) rs)) (map val es)
  takes-if no_formulas [] d g h = tt
  takes-if no_formulas (e ∷ es) d g h = absurd (omega arith)
  takes-if (formula_and r rs) [] d g h = absurd (omega arith)
  takes-if (formula_and r rs) (e ∷ es) d g h =
      let both = and-both (gives_set (role table [] r)) (each_gives_set (roles table [] rs)) g in
      (sym (within-has r (val e) both.0) ∙ h.0, takes-if rs es (omega arith) both.1 h.1)

  pub length-values : (rs : Formulas) → length (map (λ (m : Meaning). m.value) (meanings find (at_state table st) rs)) ≡ count rs
  length-values no_formulas = refl
  length-values (formula_and r rs) = ap suc (length-values rs)

-- ---- the parts of a conjunction that is a predicate
module _ (table : Table) where
  joined-parts : (p : Formula) (qs : List Formula) → IsPredicate table (conjoined p qs) → IsPredicate table p × Each (IsPredicate table) qs
  joined-parts p [] h = (h, tt)
  joined-parts p (q ∷ qs) h =
      let k = joined-parts (binary And p q) qs h in
      let both = connective-parts (role table [] p) (role table [] q) k.0 in
      (both.0, (both.1, k.1))

  pub conjunction-parts : (ps : List Formula) → IsPredicate table (conjunction ps) → Each (IsPredicate table) ps
  conjunction-parts [] h = tt
  conjunction-parts (p ∷ ps) h = joined-parts p ps h
