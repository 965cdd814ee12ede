-- Conjuncts give types and ranges from left to right.
use Rattle.std.proofs.Common.{◌≡◌, ℕ, suc, ◌+◌, List, [], ◌∷◌, ◌++◌, length, refl, sym, ◌∙◌, ap, subst, inl, inr, Bool, true, false, cond, ◌||◌, arith, ℤ}
use Rattle.std.specs.Prelude.{Option, None, Some}
use Rattle.std.specs.Str.{bytes_eq}
use Rattle.std.proofs.lemmas.Slice.Eq.{bytes_eq-Decides}
use Rattle.bk_val.specs.ValueType.{ValueType}
use Rattle.bk_form.specs.Formula.{Formula}
use Rattle.bk_raw.specs.declared.operator.InfixOp.TheVariants.{And, Equal, Member}
use Rattle.bk_raw.specs.declared.term.RawName.{RawName}
use Rattle.bk_raw.specs.Trees.RawTree.{RawTree, raw, RawTreeNode, raw_infix}
use Rattle.bk_raw.specs.Trees.FreeNames.{conjuncts}
use Rattle.bk_raw.specs.Meaning.Names.{Names}
use Rattle.bk_raw.specs.Meaning.Outcome.{Outcome, Reading, ask_value, ask_set}
use Rattle.bk_raw.specs.Meaning.Binders.{Bound, is_text, twice, Ranged, unranged, first_range, ranged_as, ranged_by, as_single, ranges_by, is_used, left_over}
use Rattle.bk_raw.specs.Meaning.TermReading.{part, name_of, names_one, reading, node_reading, clues, ranges, rest, rest_in}
use Rattle.bk_raw.specs.Meaning.GivesTakes.{expression}
use Rattle.bk_raw.specs.Meaning.ConjunctsInOrder.{typed_in_order, where_named, range_of, range_given, first_of, with_number, first_given, ranged_first, left_in_order, ConjunctsInOrder}
use Rattle.bk_raw.proofs.RulesFit.{none-left, none-right}
use Rattle.bk_raw.proofs.BoundNames.{no-name, or-right, either}
use Rattle.bk_raw.specs.Errors.Faults.{Fault, twice_named}

-- ---- types
typed-append : (max : ℤ) (names : Names) (bs : List Bound) (cs ds : List RawTree) → typed_in_order max names bs (cs ++ ds) ≡ typed_in_order max names (typed_in_order max names bs cs) ds
typed-append max names bs [] ds = refl
typed-append max names bs (c ∷ cs) ds = typed-append max names (clues max names bs c) cs ds

types-ordered : (max : ℤ) (names : Names) (bs : List Bound) (p : RawTree) → clues max names bs p ≡ typed_in_order max names bs (conjuncts p)
types-ordered max names bs (raw at (raw_infix And a d)) = types-ordered max names (clues max names bs a) d ∙ ap (λ cs. typed_in_order max names cs (conjuncts d)) (types-ordered max names bs a) ∙ sym (typed-append max names bs (conjuncts a) (conjuncts d))
types-ordered max names bs (raw at (raw_infix _ a d)) = refl
types-ordered max names bs (raw at _) = refl

-- ---- the other conjuncts
left-append : (max : ℤ) (names : Names) (rs : List Ranged) (i : ℕ) (before : Option Reading) (cs ds : List RawTree) → left_in_order max names rs i before (cs ++ ds) ≡ left_in_order max names rs (i + length cs) (left_in_order max names rs i before cs) ds
left-append max names rs i before [] ds = let same : i ≡ i + 0 = omega arith in ap (λ n. left_in_order max names rs n before ds) same
left-append max names rs i before (c ∷ cs) ds =
    let same : suc i + length cs ≡ i + suc (length cs) = omega arith in
    let now = left_over (is_used i rs) before (part true c (reading max names c)) in
    left-append max names rs (suc i) now cs ds ∙ ap (λ n. left_in_order max names rs n (left_in_order max names rs (suc i) now cs) ds) same

module _ (max : ℤ) (names : Names) (rs : List Ranged) where
  mutual
    rest-ordered : (p : RawTree) (i : ℕ) (before : Option Reading) → rest max names rs i before p ≡ left_in_order max names rs i before (conjuncts p)
    rest-ordered (raw at node) i before = node-ordered node at i before

    node-ordered : (node : RawTreeNode) (at : ℕ) (i : ℕ) (before : Option Reading) → rest_in max names rs i before (part true (raw at node) (node_reading max names at node)) node ≡ left_in_order max names rs i before (conjuncts (raw at node))
    node-ordered (raw_infix And a b) at i before =
        rest-ordered b (i + length (conjuncts a)) (rest max names rs i before a)
        ∙ ap (λ w. left_in_order max names rs (i + length (conjuncts a)) w (conjuncts b)) (rest-ordered a i before)
        ∙ sym (left-append max names rs i before (conjuncts a) (conjuncts b))
    node-ordered (raw_infix _ a b) at i before = refl
    node-ordered _ at i before = refl

-- ---- ranges
abbrev Given : Type 0
Given = Formula × ValueType × ℕ

first-none : (o : Option Given) → first_of o None ≡ o
first-none None = refl
first-none (Some r) = refl

first-first : (o p q : Option Given) → first_of (first_of o p) q ≡ first_of o (first_of p q)
first-first None p q = refl
first-first (Some r) p q = refl

module _ (max : ℤ) (names : Names) (all : List RawName) where
  given-append : (x : List ℕ) (i : ℕ) (cs ds : List RawTree) → first_given max names all x i (cs ++ ds) ≡ first_of (first_given max names all x i cs) (first_given max names all x (i + length cs) ds)
  given-append x i [] ds = let same : i ≡ i + 0 = omega arith in ap (λ n. first_given max names all x n ds) same
  given-append x i (c ∷ cs) ds =
      let same : suc i + length cs ≡ i + suc (length cs) = omega arith in
      let one = with_number i (range_given max names all x c) in
      ap (first_of one) (given-append x (suc i) cs ds ∙ ap (λ n. first_of (first_given max names all x (suc i) cs) (first_given max names all x n ds)) same)
      ∙ sym (first-first one (first_given max names all x (suc i) cs) (first_given max names all x (i + suc (length cs)) ds))

  -- the names behind some conjuncts, of which the first is the i-th
  abbrev after : List Ranged → ℕ → List RawTree → List Ranged
  after [] i cs = []
  after (b ∷ bs) i cs = record { text = b.text; at = b.at; range = first_of b.range (first_given max names all b.text i cs) } ∷ after bs i cs

  after-append : (rs : List Ranged) (i : ℕ) (cs ds : List RawTree) → after (after rs i cs) (i + length cs) ds ≡ after rs i (cs ++ ds)
  after-append [] i cs ds = refl
  after-append (b ∷ bs) i cs ds =
      let one = first_given max names all b.text i cs in
      let two = first_given max names all b.text (i + length cs) ds in
      let e : first_of (first_of b.range one) two ≡ first_of b.range (first_given max names all b.text i (cs ++ ds)) = first-first b.range one two ∙ ap (first_of b.range) (sym (given-append b.text i cs ds)) in
      (λ k. record { text = b.text; at = b.at; range = e k } ∷ after-append bs i cs ds k)

  -- no text stands twice, nor is one of these
  abbrev AreOnce : List (List ℕ) → List Ranged → Type 0
  AreOnce before [] = Unit {0}
  AreOnce before (b ∷ bs) = (is_text before b.text ≡ false) × AreOnce (b.text ∷ before) bs

  after-once : (before : List (List ℕ)) (rs : List Ranged) (i : ℕ) (cs : List RawTree) → AreOnce before rs → AreOnce before (after rs i cs)
  after-once before [] i cs h = tt
  after-once before (b ∷ bs) i cs h = (h.0, after-once (b.text ∷ before) bs i cs h.1)

  -- a conjunct that gives nothing
  after-nothing : (rs : List Ranged) (i : ℕ) (c : RawTree) → ((b : Ranged) → range_given max names all b.text c ≡ None) → rs ≡ after rs i (c ∷ [])
  after-nothing [] i c h = refl
  after-nothing (b ∷ bs) i c h =
      let e : first_of b.range (first_of (with_number i (range_given max names all b.text c)) None) ≡ b.range = ap (λ o. first_of b.range (first_of (with_number i o) None)) (h b) ∙ first-none b.range in
      (λ k. record { text = b.text; at = b.at; range = sym e k } ∷ after-nothing bs i c h k)

  first-given : (o : Option Given) (r : Given) → first_range o r ≡ first_of o (Some r)
  first-given None r = refl
  first-given (Some s) r = refl

  differ : (x y : List ℕ) → (x ≡ y → ⊥) → bytes_eq x y ≡ false
  differ x y n = elim (either (bytes_eq x y)) [ inl t ↦ absurd (n ((bytes_eq-Decides x y).0 t)) | inr f ↦ f ]

  -- a conjunct that gives r to the name y
  module _ (y : List ℕ) (d : Formula × ValueType) (i : ℕ) (c : RawTree) (gives : (x : List ℕ) → range_given max names all x c ≡ where_named (bytes_eq x y) (Some d)) where
    -- the names with another text stay
    after-others : (before : List (List ℕ)) (rs : List Ranged) → is_text before y ≡ true → AreOnce before rs → rs ≡ after rs i (c ∷ [])
    after-others before [] t h = refl
    after-others before (b ∷ bs) t h =
        let other : bytes_eq b.text y ≡ false = differ b.text y (λ e. no-name (sym h.0 ∙ ap (is_text before) e ∙ t)) in
        let e : first_of b.range (first_of (with_number i (range_given max names all b.text c)) None) ≡ b.range = ap (λ o. first_of b.range (first_of (with_number i o) None)) (gives b.text ∙ ap (λ k. where_named k (Some d)) other) ∙ first-none b.range in
        let later : is_text (b.text ∷ before) y ≡ true = or-right (bytes_eq b.text y) (is_text before y) t in
        (λ k. record { text = b.text; at = b.at; range = sym e k } ∷ after-others (b.text ∷ before) bs later h.1 k)

    by-test : (before : List (List ℕ)) (b : Ranged) (bs : List Ranged) (t : Bool) → bytes_eq b.text y ≡ t → AreOnce (b.text ∷ before) bs → ranged_as y (d.0, d.1, i) bs ≡ after bs i (c ∷ []) → cond t (record { text = b.text; at = b.at; range = first_range b.range (d.0, d.1, i) } ∷ bs) (b ∷ ranged_as y (d.0, d.1, i) bs) ≡ after (b ∷ bs) i (c ∷ [])
    by-test before b bs true e h l =
        let f : first_range b.range (d.0, d.1, i) ≡ first_of b.range (first_of (with_number i (range_given max names all b.text c)) None) = first-given b.range (d.0, d.1, i) ∙ sym (ap (λ o. first_of b.range (first_of (with_number i o) None)) (gives b.text ∙ ap (λ k. where_named k (Some d)) e)) in
        let here : is_text (b.text ∷ before) y ≡ true = ap (λ k. k || is_text before y) e in
        (λ k. record { text = b.text; at = b.at; range = f k } ∷ after-others (b.text ∷ before) bs here h k)
    by-test before b bs false e h l =
        let f : first_of b.range (first_of (with_number i (range_given max names all b.text c)) None) ≡ b.range = ap (λ o. first_of b.range (first_of (with_number i o) None)) (gives b.text ∙ ap (λ k. where_named k (Some d)) e) ∙ first-none b.range in
        (λ k. record { text = b.text; at = b.at; range = sym f k } ∷ l k)

    after-given : (before : List (List ℕ)) (rs : List Ranged) → AreOnce before rs → ranged_as y (d.0, d.1, i) rs ≡ after rs i (c ∷ [])
    after-given before [] h = refl
    after-given before (b ∷ bs) h = by-test before b bs (bytes_eq b.text y) refl h.1 (after-given (b.text ∷ before) bs h.1)

  where-none : (t : Bool) → where_named t None ≡ None
  where-none true = refl
  where-none false = refl

  -- what y o D gives
  after-by : (y : List ℕ) (d : Option (Formula × ValueType)) (i : ℕ) (c : RawTree) (rs : List Ranged) → ((x : List ℕ) → range_given max names all x c ≡ where_named (bytes_eq x y) d) → AreOnce [] rs → ranged_by y d i rs ≡ after rs i (c ∷ [])
  after-by y None i c rs g h = after-nothing rs i c (λ b. g b.text ∙ where-none (bytes_eq b.text y))
  after-by y (Some d) i c rs g h = after-given y d i c g [] rs h

  member-first : (at i : ℕ) (a d : RawTree) (rs both : List Ranged) → AreOnce [] rs → (y : Option (List ℕ)) (t : Bool) → name_of a ≡ y → names_one all d ≡ t → ranges_by Member i rs y both t (expression max names d) ≡ after rs i (raw at (raw_infix Member a d) ∷ [])
  member-first at i a d rs both h (Some y) false e f = after-by y (ask_set 0 (expression max names d)).answer i (raw at (raw_infix Member a d)) rs (λ x k. range_of Member (e k) x (f k) (expression max names d)) h
  member-first at i a d rs both h (Some y) true e f = after-nothing rs i (raw at (raw_infix Member a d)) (λ b k. range_of Member (e k) b.text (f k) (expression max names d))
  member-first at i a d rs both h None true e f = after-nothing rs i (raw at (raw_infix Member a d)) (λ b k. range_of Member (e k) b.text (f k) (expression max names d))
  member-first at i a d rs both h None false e f = after-nothing rs i (raw at (raw_infix Member a d)) (λ b k. range_of Member (e k) b.text (f k) (expression max names d))

  equal-first : (at i : ℕ) (a d : RawTree) (rs both : List Ranged) → AreOnce [] rs → (y : Option (List ℕ)) (t : Bool) → name_of a ≡ y → names_one all d ≡ t → ranges_by Equal i rs y both t (expression max names d) ≡ after rs i (raw at (raw_infix Equal a d) ∷ [])
  equal-first at i a d rs both h (Some y) false e f = after-by y (as_single (ask_value 0 (expression max names d)).answer) i (raw at (raw_infix Equal a d)) rs (λ x k. range_of Equal (e k) x (f k) (expression max names d)) h
  equal-first at i a d rs both h (Some y) true e f = after-nothing rs i (raw at (raw_infix Equal a d)) (λ b k. range_of Equal (e k) b.text (f k) (expression max names d))
  equal-first at i a d rs both h None true e f = after-nothing rs i (raw at (raw_infix Equal a d)) (λ b k. range_of Equal (e k) b.text (f k) (expression max names d))
  equal-first at i a d rs both h None false e f = after-nothing rs i (raw at (raw_infix Equal a d)) (λ b k. range_of Equal (e k) b.text (f k) (expression max names d))

  both-first : (i : ℕ) (rs : List Ranged) (y : Option (List ℕ)) (both : List Ranged) (t : Bool) (o : Outcome) → ranges_by And i rs y both t o ≡ both
  both-first i rs y both true o = refl
  both-first i rs y both false o = refl

  ranges-first : (p : RawTree) (i : ℕ) (rs : List Ranged) → AreOnce [] rs → ranges max names all i rs p ≡ after rs i (conjuncts p)
  ranges-first (raw at (raw_infix And a d)) i rs h =
      let first = ranges max names all i rs a in
      let both = ranges max names all (i + length (conjuncts a)) first d in
      let e = ranges-first a i rs h in
      both-first i rs (name_of a) both (names_one all d) (expression max names d)
      ∙ ranges-first d (i + length (conjuncts a)) first (subst (AreOnce []) (sym e) (after-once [] rs i (conjuncts a) h))
      ∙ ap (λ ws. after ws (i + length (conjuncts a)) (conjuncts d)) e
      ∙ after-append rs i (conjuncts a) (conjuncts d)
  ranges-first (raw at (raw_infix Member a d)) i rs h = member-first at i a d rs (ranges max names all (i + length (conjuncts a)) (ranges max names all i rs a) d) h (name_of a) (names_one all d) refl refl
  ranges-first (raw at (raw_infix Equal a d)) i rs h = equal-first at i a d rs (ranges max names all (i + length (conjuncts a)) (ranges max names all i rs a) d) h (name_of a) (names_one all d) refl refl
  ranges-first (raw at (raw_infix o a d)) i rs h = after-nothing rs i (raw at (raw_infix o a d)) (λ b. refl)
  ranges-first (raw at node) i rs h = after-nothing rs i (raw at node) (λ b. refl)

  once-of : (before : List (List ℕ)) (xs : List RawName) → twice before xs ≡ [] → AreOnce before (unranged xs)
  once-of before [] h = tt
  once-of before (x ∷ xs) h =
      let here : List Fault = cond (is_text before x.text) (twice_named x.at ∷ []) [] in
      let later = twice (x.text ∷ before) xs in
      (untwiced (is_text before x.text) x.at (none-left here later h), once-of (x.text ∷ before) xs (none-right here later h))
    where
      untwiced : (t : Bool) (at : ℕ) → cond {A = List Fault} t (twice_named at ∷ []) [] ≡ [] → t ≡ false
      untwiced true at e = absurd (cc)
      untwiced false at e = refl

  after-unranged : (cs : List RawTree) (xs : List RawName) → after (unranged xs) 0 cs ≡ ranged_first max names all cs xs
  after-unranged cs [] = refl
  after-unranged cs (x ∷ xs) = ap (λ ws. record { text = x.text; at = x.at; range = first_given max names all x.text 0 cs } ∷ ws) (after-unranged cs xs)

pub in-order : ConjunctsInOrder
in-order = record {
  types = types-ordered;
  first = λ max names xs p h. ranges-first max names xs p 0 (unranged xs) (once-of max names xs [] xs h) ∙ after-unranged max names xs (conjuncts p) xs;
  others = λ max names rs p. rest-ordered max names rs p 0 None;
}
