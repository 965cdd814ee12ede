-- An opened body means what the body means under the values of the terms.
use Rattle.std.proofs.Common.{◌≡◌, ℕ, zero, suc, ◌+◌, ◌-◌, pos, List, [], ◌∷◌, length, map, refl, sym, ◌∙◌, ap, subst, arith, Bool, true, false, cond, nat_lt}
use Rattle.std.proofs.lemmas.Bool.Decides.{nat_tests}
use Rattle.std.specs.Prelude.{Option, Some, None, slice_get, unwrap_or}
use Rattle.bk_val.specs.Value.{MathValue, int}
use Rattle.bk_val.specs.ValueType.{ValueType, base_of}
use Rattle.bk_form.specs.Table.{Table, set_size, IsWellFormed}
use Rattle.bk_form.specs.Formula.{Formula, bound, unary, binary, for_all, for_some, comprehension, lambda, Formulas, no_formulas, formula_and}
use Rattle.bk_form.specs.Search.{Finder}
use Rattle.bk_form.specs.Environment.{Environment, State, Binding, bindings, under, at_state}
use Rattle.bk_form.specs.Role.{gives, role, bind, if_holds}
use Rattle.bk_form.specs.Replacement.{count, IsClosed}
use Rattle.bk_form.specs.Meaning.{meaning, meanings, value, of_value, bound_meaning, unary_meaning, binary_meaning, all_meaning, some_meaning, comprehension_meaning, lambda_meaning, range_types}
use Rattle.bk_form.proofs.Agreement.{length-ranges, meaning-closed}
use Rattle.bk_form.proofs.Closed.{term-closed}
use Rattle.bk_form.proofs.Roles.{meaning-role, types-bind}
use Rattle.bk_form.proofs.Givers.{value-meaning}
use Rattle.bk_form.specs.Rebound.{rebound, all_rebound}
use Rattle.bk_bind.specs.Opening.{placed, opened}
use Rattle.bk_bind.specs.Laws.{TermsGive, OpeningMeans, OpeningKeepsRole}
use Rattle.bk_bind.proofs.ListedTypes.{listed-type}

-- ---- other formulas in place of bound numbers
module _ (find : Finder) (table : Table) (st : State) where
  abbrev pub here : List Binding → Environment
  here a = record { table = table; state = st; bound = a }

  -- what comes for each number means under a what the number stands for in b
  pub record Puts (put : ℕ → ℕ → Formula) (k : ℕ) (a b : List Binding) : Type 0 where
    pub same : (m : ℕ) → meaning find (here a) (put k m) ≡ bound_meaning table (slice_get b m)

  module _ (put : ℕ → ℕ → Formula) (deeper : (k : ℕ) (x : Binding) (a b : List Binding) → Puts put k a b → Puts put (suc k) (x ∷ a) (x ∷ b)) where
    Puts-bind : (ts : List ValueType) (vs : List MathValue) (k : ℕ) (a b : List Binding) → Puts put k a b → Puts put (length ts + k) (bind (bindings ts vs) a) (bind (bindings ts vs) b)
    Puts-bind [] vs k a b h = let e : zero + k ≡ k = omega arith in rw e h
    Puts-bind (t ∷ ts) [] k a b h = let e : suc (length ts) + k ≡ length ts + suc k = omega arith in rw e (Puts-bind ts [] (suc k) ((t, base_of t) ∷ a) ((t, base_of t) ∷ b) (deeper k (t, base_of t) a b h))
    Puts-bind (t ∷ ts) (v ∷ vs) k a b h = let e : suc (length ts) + k ≡ length ts + suc k = omega arith in rw e (Puts-bind ts vs (suc k) ((t, v) ∷ a) ((t, v) ∷ b) (deeper k (t, v) a b h))

    Puts-ranges : (m : ℕ) (ts us : List ValueType) (vs : List MathValue) (k : ℕ) (a b : List Binding) → ts ≡ us → length ts ≡ m → Puts put k a b → Puts put (m + k) (bind (bindings ts vs) a) (bind (bindings us vs) b)
    Puts-ranges m ts us vs k a b e d h = subst (λ x. Puts put (m + k) (bind (bindings ts vs) a) (bind (bindings x vs) b)) e (subst (λ j. Puts put (j + k) (bind (bindings ts vs) a) (bind (bindings ts vs) b)) d (Puts-bind ts vs k a b h))

    count-rebound : (k : ℕ) (rs : Formulas) → count (all_rebound put k rs) ≡ count rs
    count-rebound k no_formulas = refl
    count-rebound k (formula_and f fs) = ap suc (count-rebound k fs)

    mutual
      pub meaning-rebound : (k : ℕ) (a b : List Binding) → Puts put k a b → (f : Formula) → meaning find (here a) (rebound put k f) ≡ meaning find (here b) f
      meaning-rebound k a b h (bound m) = h.same m
      meaning-rebound k a b h (unary o f) = λ i. unary_meaning o (meaning-rebound k a b h f i)
      meaning-rebound k a b h (binary o f g) = λ i. binary_meaning find (set_size table) o (meaning-rebound k a b h f i) (meaning-rebound k a b h g i)
      meaning-rebound k a b h (for_all ts p) = λ i. all_meaning find table ts (λ vs. meaning-rebound (length ts + k) (bind (bindings ts vs) a) (bind (bindings ts vs) b) (Puts-bind ts vs k a b h) p i)
      meaning-rebound k a b h (for_some ts p) = λ i. some_meaning find table ts (λ vs. meaning-rebound (length ts + k) (bind (bindings ts vs) a) (bind (bindings ts vs) b) (Puts-bind ts vs k a b h) p i)
      meaning-rebound k a b h (comprehension rs p) =
          let r = meanings-rebound k a b h rs in
          let x = range_types (meanings find (here a) (all_rebound put k rs)) in
          let y = range_types (meanings find (here b) rs) in
          let size = length-ranges find (here a) (all_rebound put k rs) ∙ count-rebound k rs in
          let inner = λ (vs : List MathValue). Puts-ranges (count rs) x y vs k a b (ap range_types r) size h in
          λ i. comprehension_meaning (r i) (λ vs. meaning-rebound (count rs + k) (bind (bindings x vs) a) (bind (bindings y vs) b) (inner vs) p i)
      meaning-rebound k a b h (lambda rs p v) =
          let r = meanings-rebound k a b h rs in
          let x = range_types (meanings find (here a) (all_rebound put k rs)) in
          let y = range_types (meanings find (here b) rs) in
          let size = length-ranges find (here a) (all_rebound put k rs) ∙ count-rebound k rs in
          let inner = λ (vs : List MathValue). Puts-ranges (count rs) x y vs k a b (ap range_types r) size h in
          λ i. lambda_meaning (r i) (λ vs. meaning-rebound (count rs + k) (bind (bindings x vs) a) (bind (bindings y vs) b) (inner vs) p i) (λ vs. meaning-rebound (count rs + k) (bind (bindings x vs) a) (bind (bindings y vs) b) (inner vs) v i)
      meaning-rebound k a b h _ = refl

      meanings-rebound : (k : ℕ) (a b : List Binding) → Puts put k a b → (fs : Formulas) → meanings find (here a) (all_rebound put k fs) ≡ meanings find (here b) fs
      meanings-rebound k a b h no_formulas = refl
      meanings-rebound k a b h (formula_and f fs) = λ i. meaning-rebound k a b h f i ∷ meanings-rebound k a b h fs i

-- ---- terms without loose numbers
abbrev AreAlone : List Formula → Type 0
AreAlone [] = Unit {0}
AreAlone (f ∷ fs) = IsClosed 0 f × AreAlone fs

alone-at : (fs : List Formula) (n : ℕ) (f : Formula) → AreAlone fs → slice_get fs n ≡ Some f → IsClosed 0 f
alone-at [] n f h e = absurd (cc)
alone-at (g ∷ gs) zero f h e = let q : g ≡ f = cc in subst (IsClosed 0) q h.0
alone-at (g ∷ gs) (suc n) f h e = alone-at gs n f h.1 e

alone-bind : (fs gs : List Formula) → AreAlone fs → AreAlone gs → AreAlone (bind fs gs)
alone-bind [] gs h k = k
alone-bind (f ∷ fs) gs h k = alone-bind fs (f ∷ gs) h.1 (h.0, k)

less-same : (m k : ℕ) → nat_lt (suc m) (suc k) ≡ nat_lt m k
less-same m k = grind (arith, nat_tests)

first-less : (k : ℕ) → nat_lt 0 (suc k) ≡ true
first-less k = grind (arith, nat_tests)

module _ (find : Finder) (table : Table) (st : State) where
  deeper-by : (k : ℕ) (stack : List Formula) (x : Binding) (a : List Binding) → AreAlone stack → (m : ℕ) (c : Bool) (o : Option Formula) → slice_get stack (m - k) ≡ o →
      meaning find (here find table st (x ∷ a)) (cond c (bound (suc m)) (unwrap_or o (bound (suc m)))) ≡ meaning find (here find table st a) (cond c (bound m) (unwrap_or o (bound m)))
  deeper-by k stack x a alone m true o e = refl
  deeper-by k stack x a alone m false None e = refl
  deeper-by k stack x a alone m false (Some f) e = meaning-closed find (here find table st a) (x ∷ a) a f (alone-at stack (m - k) f alone e)

  deeper : (stack : List Formula) → AreAlone stack → (k : ℕ) (x : Binding) (a b : List Binding) → Puts find table st (placed stack) k a b → Puts find table st (placed stack) (suc k) (x ∷ a) (x ∷ b)
  deeper stack alone k x a b h = record { same = at }
    where
      at : (m : ℕ) → meaning find (here find table st (x ∷ a)) (placed stack (suc k) m) ≡ bound_meaning table (slice_get (x ∷ b) m)
      at zero = ap (λ c. meaning find (here find table st (x ∷ a)) (cond c (bound 0) (unwrap_or (slice_get stack (0 - suc k)) (bound 0)))) (first-less k)
      at (suc m) =
          let d : suc m - suc k ≡ m - k = omega arith in
          ap (λ c. meaning find (here find table st (x ∷ a)) (cond c (bound (suc m)) (unwrap_or (slice_get stack (suc m - suc k)) (bound (suc m))))) (less-same m k)
          ∙ ap (λ n. meaning find (here find table st (x ∷ a)) (cond (nat_lt m k) (bound (suc m)) (unwrap_or (slice_get stack n) (bound (suc m))))) d
          ∙ deeper-by k stack x a alone m (nat_lt m k) (slice_get stack (m - k)) refl
          ∙ h.same m

  -- each term means what the binding beside it stands for
  abbrev Matched : List Formula → List Binding → Type 0
  Matched [] [] = Unit {0}
  Matched (f ∷ fs) (x ∷ xs) = (meaning find (at_state table st) f ≡ bound_meaning table (Some x)) × Matched fs xs
  Matched _ _ = ⊥

  matched-at : (stack : List Formula) (b : List Binding) (m n : ℕ) → Matched stack b → meaning find (at_state table st) (unwrap_or (slice_get stack m) (bound n)) ≡ bound_meaning table (slice_get b m)
  matched-at [] [] m n h = ap (bound_meaning table) (nothing n ∙ sym (nothing m))
    where
      nothing : (n : ℕ) → slice_get (let l : List Binding = [] in l) n ≡ None
      nothing zero = refl
      nothing (suc n) = refl
  matched-at (f ∷ fs) (x ∷ xs) zero n h = h.0
  matched-at (f ∷ fs) (x ∷ xs) (suc m) n h = matched-at fs xs m n h.1
  matched-at [] (x ∷ xs) m n h = absurd h
  matched-at (f ∷ fs) [] m n h = absurd h

  module _ (well : IsWellFormed table) where
    term-means : (f : Formula) (t : ValueType) → role table [] f ≡ gives t → meaning find (at_state table st) f ≡ bound_meaning table (Some (t, value find (at_state table st) f))
    term-means f t h =
        let e = at_state table st in
        value-meaning find e f t (meaning-role find e f ∙ h)
        ∙ ap (λ b. of_value (if_holds b (gives t)) (value find e f)) (sym (listed-type table well [] f t h))

    terms-alone : (ts : List ValueType) (fs : List Formula) → TermsGive table ts fs → AreAlone fs
    terms-alone [] [] h = tt
    terms-alone [] (f ∷ fs) h = absurd h
    terms-alone (t ∷ ts) [] h = absurd h
    terms-alone (t ∷ ts) (f ∷ fs) h = (term-closed table t f h.0, terms-alone ts fs h.1)

    terms-match : (ts : List ValueType) (fs stack : List Formula) (b : List Binding) → TermsGive table ts fs → Matched stack b → Matched (bind fs stack) (bind (bindings ts (map (value find (at_state table st)) fs)) b)
    terms-match [] [] stack b h k = k
    terms-match [] (f ∷ fs) stack b h k = absurd h
    terms-match (t ∷ ts) [] stack b h k = absurd h
    terms-match (t ∷ ts) (f ∷ fs) stack b h k = terms-match ts fs (f ∷ stack) ((t, value find (at_state table st) f) ∷ b) h.1 (term-means f t h.0, k)

    zero-less : (m : ℕ) → nat_lt m 0 ≡ false
    zero-less m = grind (arith, nat_tests)

    opened-means : (ts : List ValueType) (terms : List Formula) → TermsGive table ts terms → (p : Formula) → meaning find (at_state table st) (opened terms p) ≡ meaning find (under (at_state table st) ts (map (value find (at_state table st)) terms)) p
    opened-means ts terms h p =
        let stack = bind terms [] in
        let b = bind (bindings ts (map (value find (at_state table st)) terms)) [] in
        let matched = terms-match ts terms [] [] h tt in
        let start : Puts find table st (placed stack) 0 [] b = record {
          same = λ m.
              let d : m - 0 ≡ m = omega arith in
              ap (λ c. meaning find (at_state table st) (cond c (bound m) (unwrap_or (slice_get stack (m - 0)) (bound m)))) (zero-less m)
              ∙ ap (λ n. meaning find (at_state table st) (unwrap_or (slice_get stack n) (bound m))) d
              ∙ matched-at stack b m m matched;
        } in
        meaning-rebound find table st (placed stack) (deeper stack (alone-bind terms [] (terms-alone ts terms h) tt)) 0 [] b start p

pub opening_means : OpeningMeans
opening_means find table well st ts terms h p = opened-means find table st well ts terms h p

-- ---- roles, by the role of a meaning: it is the same in every state and for every finder
-- an opened body has the role that the body has under the types
pub opening_keeps_role : OpeningKeepsRole
opening_keeps_role table well ts terms h p =
    let find : Finder = λ test. None in
    let st : State = λ n. int (pos 0) in
    let vs = map (value find (at_state table st)) terms in
    sym (meaning-role find (at_state table st) (opened terms p))
    ∙ ap (λ m. m.role) (opened-means find table st well ts terms h p)
    ∙ meaning-role find (under (at_state table st) ts vs) p
    ∙ ap (λ bs. role table bs p) (types-bind ts vs [])
