-- What conjuncts give to bound names.
use Rattle.std.proofs.Common.{◌≡◌, ℕ, ◌+◌, ◌<◌, arith, List, [], ◌∷◌, ◌++◌, ◌≤◌, length, refl, sym, ◌∙◌, ap, subst, Bool, true, false, cond, ℤ}
use Rattle.std.specs.Borrow.{Bor}
use Rattle.std.specs.Option.{option_copied}
use Rattle.std.specs.Prelude.{Option, None, Some, MatchOption}
use Rattle.std.proofs.lemmas.Option.{same_Some}
use Rattle.bk_val.specs.ValueType.{ValueType}
use Rattle.bk_form.specs.Formula.{Formula}
use Rattle.bk_raw.specs.declared.operator.InfixOp.{InfixOp}
use Rattle.bk_raw.specs.declared.operator.InfixOp.TheVariants.{And, Implies, Member, Subset, StrictSubset, Equal}
use Rattle.bk_raw.specs.declared.term.RawName.{RawName}
use Rattle.bk_raw.specs.Trees.RawTree.{RawTree, raw, raw_infix, raw_comprehension, raw_lambda, tree_size}
use Rattle.bk_raw.specs.Trees.FreeNames.{conjuncts}
use Rattle.bk_elab_terms.specs.Conjuncts.{and_sides, infix_sides, implies_sides, IsRight}
use Rattle.bk_elab_terms.specs.declared.form.TwoParts.TheVariants.{Infix}
use Rattle.bk_elab_terms.specs.Forms.{two_reading}
use Rattle.bk_elab_terms.specs.Kept.{gives_no_range}
use Rattle.bk_elab_terms.proofs.Lasting.{form-gives}
use Rattle.bk_raw.specs.Meaning.Names.{Names}
use Rattle.bk_raw.specs.Meaning.Outcome.{Outcome, Reading}
use Rattle.bk_raw.specs.Meaning.Binders.{Bound, typed_by, told_by, Ranged, unranged, as_bound, inside, ranged_by, ranges_by, is_and, is_used, left_over, twice, comprehended, abstracted, body_of}
use Rattle.bk_raw.specs.Meaning.TermReading.{clues, premise_clues, ranges, rest, reading, part, place_of, name_of, names_one}
use Rattle.bk_raw.specs.Errors.Blame.{blame}
use Rattle.bk_raw.specs.Errors.Faults.{Fault}
use Rattle.bk_elab_terms.specs.declared.blame.Fault.{Fault as ToldFault}
use Rattle.bk_elab_terms.specs.declared.outcome.Step.{Step}
use Rattle.bk_elab_terms.specs.declared.sight.Reader.{Reader}
use Rattle.bk_elab_terms.specs.Shown.{told, IsRead}
use Rattle.bk_elab_terms.specs.Sights.{around_of, names_of, node_by, clue_type, tells_type, range_told, tells_range, given_at, AwaitsAt, taken_at, LacksAt, TellsNoType, TellsType, TellsNoRange, TellsRange}

none-pair : (a b : RawTree) → ◌≡◌ {A = Option (RawTree × RawTree)} None (Some (a, b)) → ⊥
none-pair a b h = let no : ◌≡◌ {A = Option (RawTree × RawTree)} None (Some (a, b)) = h in cc

none-infix : (o : InfixOp) (a b : RawTree) → ◌≡◌ {A = Option (InfixOp × RawTree × RawTree)} None (Some (o, a, b)) → ⊥
none-infix o a b h = let no : ◌≡◌ {A = Option (InfixOp × RawTree × RawTree)} None (Some (o, a, b)) = h in cc

fst-same : (x y a b : RawTree) → ◌≡◌ {A = Option (RawTree × RawTree)} (Some (x, y)) (Some (a, b)) → x ≡ a
fst-same x y a b h =
    let p : RawTree × RawTree = (x, y) in
    let q : RawTree × RawTree = (a, b) in
    ap (λ (r : RawTree × RawTree). r.0) (same_Some p q h)

snd-same : (x y a b : RawTree) → ◌≡◌ {A = Option (RawTree × RawTree)} (Some (x, y)) (Some (a, b)) → y ≡ b
snd-same x y a b h =
    let p : RawTree × RawTree = (x, y) in
    let q : RawTree × RawTree = (a, b) in
    ap (λ (r : RawTree × RawTree). r.1) (same_Some p q h)

module _ (p o : InfixOp) (x y a b : RawTree) (h : ◌≡◌ {A = Option (InfixOp × RawTree × RawTree)} (Some (p, x, y)) (Some (o, a, b))) where
  all-same : ◌≡◌ {A = InfixOp × RawTree × RawTree} (p, x, y) (o, a, b)
  all-same =
      let u : InfixOp × RawTree × RawTree = (p, x, y) in
      let v : InfixOp × RawTree × RawTree = (o, a, b) in
      same_Some u v h

  op-same : p ≡ o
  op-same = ap (λ (r : InfixOp × RawTree × RawTree). r.0) all-same

  left-same : x ≡ a
  left-same = ap (λ (r : InfixOp × RawTree × RawTree). r.1) all-same

  right-same : y ≡ b
  right-same = ap (λ (r : InfixOp × RawTree × RawTree). r.2) all-same

-- ---- conjuncts
pub conjuncts-both : (t a b : RawTree) → and_sides t ≡ Some (a, b) → conjuncts t ≡ conjuncts a ++ conjuncts b
conjuncts-both (raw at (raw_infix And x y)) a b h =
    let one : x ≡ a = fst-same x y a b h in
    let other : y ≡ b = snd-same x y a b h in
    λ i. conjuncts (one i) ++ conjuncts (other i)
conjuncts-both (raw at _) a b h = absurd (none-pair a b h)

pub conjuncts-alone : (t : RawTree) → and_sides t ≡ None → conjuncts t ≡ t ∷ []
conjuncts-alone (raw at (raw_infix And x y)) h = absurd (none-pair x y (sym h))
conjuncts-alone (raw at _) h = refl

-- the types that both sides of & give
pub clues-both : (m : ℤ) (names : Names) (bs : List Bound) (t a b : RawTree) → and_sides t ≡ Some (a, b) → clues m names bs t ≡ clues m names (clues m names bs a) b
clues-both m names bs (raw at (raw_infix And x y)) a b h =
    let one : x ≡ a = fst-same x y a b h in
    let other : y ≡ b = snd-same x y a b h in
    λ i. clues m names (clues m names bs (one i)) (other i)
clues-both m names bs (raw at _) a b h = absurd (none-pair a b h)

-- what another term between two parts tells
pub clues-one : (m : ℤ) (names : Names) (bs : List Bound) (t a b : RawTree) (o : InfixOp) → infix_sides t ≡ Some (o, a, b) → clues m names bs t ≡ told_by o bs (name_of a) (clues m names (clues m names bs a) b) (reading m (inside bs names) b).outcome
clues-one m names bs (raw at (raw_infix p x y)) a b o h =
    let same : p ≡ o = op-same p o x y a b h in
    let one : x ≡ a = left-same p o x y a b h in
    let other : y ≡ b = right-same p o x y a b h in
    λ i. told_by (same i) bs (name_of (one i)) (clues m names (clues m names bs (one i)) (other i)) (reading m (inside bs names) (other i)).outcome
clues-one m names bs (raw at _) a b o h = absurd (none-infix o a b h)

-- the same of ranges
pub ranges-both : (m : ℤ) (names : Names) (all : List RawName) (i : ℕ) (bs : List Ranged) (t a b : RawTree) → and_sides t ≡ Some (a, b) →
    ranges m names all i bs t ≡ ranges m names all (i + length (conjuncts a)) (ranges m names all i bs a) b
ranges-both m names all i bs (raw at (raw_infix And x y)) a b h =
    let one : x ≡ a = fst-same x y a b h in
    let other : y ≡ b = snd-same x y a b h in
    by (names_one all y) ∙ (λ j. ranges m names all (i + length (conjuncts (one j))) (ranges m names all i bs (one j)) (other j))
  where
    by : (c : Bool) → ranges_by And i bs (name_of x) (ranges m names all (i + length (conjuncts x)) (ranges m names all i bs x) y) c (part false y (reading m names y)).outcome ≡ ranges m names all (i + length (conjuncts x)) (ranges m names all i bs x) y
    by true = refl
    by false = refl
ranges-both m names all i bs (raw at _) a b h = absurd (none-pair a b h)

pub ranges-one : (m : ℤ) (names : Names) (all : List RawName) (i : ℕ) (bs : List Ranged) (t a b : RawTree) (o : InfixOp) → infix_sides t ≡ Some (o, a, b) →
    ranges m names all i bs t ≡ ranges_by o i bs (name_of a) (ranges m names all (i + length (conjuncts a)) (ranges m names all i bs a) b) (names_one all b) (part false b (reading m names b)).outcome
ranges-one m names all i bs (raw at (raw_infix p x y)) a b o h =
    let same : p ≡ o = op-same p o x y a b h in
    let one : x ≡ a = left-same p o x y a b h in
    let other : y ≡ b = right-same p o x y a b h in
    λ j. ranges_by (same j) i bs (name_of (one j)) (ranges m names all (i + length (conjuncts (one j))) (ranges m names all i bs (one j)) (other j)) (names_one all (other j)) (part false (other j) (reading m names (other j))).outcome
ranges-one m names all i bs (raw at _) a b o h = absurd (none-infix o a b h)

-- and of what is left
pub rest-both : (m : ℤ) (names : Names) (bs : List Ranged) (i : ℕ) (before : Option Reading) (t a b : RawTree) → and_sides t ≡ Some (a, b) →
    rest m names bs i before t ≡ rest m names bs (i + length (conjuncts a)) (rest m names bs i before a) b
rest-both m names bs i before (raw at (raw_infix And x y)) a b h =
    let one : x ≡ a = fst-same x y a b h in
    let other : y ≡ b = snd-same x y a b h in
    λ j. rest m names bs (i + length (conjuncts (one j))) (rest m names bs i before (one j)) (other j)
rest-both m names bs i before (raw at _) a b h = absurd (none-pair a b h)

pub rest-alone : (m : ℤ) (names : Names) (bs : List Ranged) (i : ℕ) (before : Option Reading) (t : RawTree) → and_sides t ≡ None →
    rest m names bs i before t ≡ left_over (is_used i bs) before (part true t (reading m names t))
rest-alone m names bs i before (raw at (raw_infix And x y)) h = absurd (none-pair x y (sym h))
rest-alone m names bs i before (raw at _) h = refl

pub not-both : (t a b : RawTree) (o : InfixOp) → and_sides t ≡ None → infix_sides t ≡ Some (o, a, b) → is_and o ≡ false
not-both (raw at (raw_infix And x y)) a b o h k = absurd (none-pair x y (sym h))
not-both (raw at (raw_infix p x y)) a b o h k =
    let same : p ≡ o = op-same p o x y a b k in
    ap is_and (sym same) ∙ by p h
  where
    by : (q : InfixOp) → and_sides (raw at (raw_infix q x y)) ≡ None → is_and q ≡ false
    by And e = absurd (none-pair x y (sym e))
    by _ e = refl
not-both (raw at _) a b o h k = absurd (none-infix o a b k)

-- the types of a left side of =>
pub premise-clued : (m : ℤ) (names : Names) (bs : List Bound) (t a b : RawTree) → implies_sides t ≡ Some (a, b) → premise_clues m names bs t ≡ clues m names bs a
premise-clued m names bs (raw at (raw_infix Implies x y)) a b h =
    let one : x ≡ a = fst-same x y a b h in
    ap (clues m names bs) one
premise-clued m names bs (raw at _) a b h = absurd (none-pair a b h)

pub premise-none : (m : ℤ) (names : Names) (bs : List Bound) (t : RawTree) → implies_sides t ≡ None → premise_clues m names bs t ≡ bs
premise-none m names bs (raw at (raw_infix Implies x y)) h = absurd (none-pair x y (sym h))
premise-none m names bs (raw at _) h = refl

pub and-read : (m : ℤ) (names : Names) (t a b : RawTree) → and_sides t ≡ Some (a, b) → two_reading (Infix And) (place_of t) a b (reading m names a) (reading m names b) ≡ reading m names t
and-read m names (raw at (raw_infix And x y)) a b h =
    let one : x ≡ a = fst-same x y a b h in
    let other : y ≡ b = snd-same x y a b h in
    λ i. two_reading (Infix And) at (sym one i) (sym other i) (reading m names (sym one i)) (reading m names (sym other i))
and-read m names (raw at _) a b h = absurd (none-pair a b h)

pub right-is : (t a b : RawTree) (o : InfixOp) → infix_sides t ≡ Some (o, a, b) → IsRight t o b
right-is (raw at (raw_infix p x y)) a b o h = (op-same p o x y a b h, right-same p o x y a b h)
right-is (raw at _) a b o h = absurd (none-infix o a b h)

-- the parts are smaller
pub infix-size : (t a b : RawTree) (o : InfixOp) → infix_sides t ≡ Some (o, a, b) → tree_size a + tree_size b < tree_size t
infix-size (raw at (raw_infix p x y)) a b o h =
    let one : x ≡ a = left-same p o x y a b h in
    let other : y ≡ b = right-same p o x y a b h in
    subst (λ (z : RawTree). tree_size z + tree_size b < tree_size (raw at (raw_infix p x y))) one
    (subst (λ (z : RawTree). tree_size x + tree_size z < tree_size (raw at (raw_infix p x y))) other (omega arith))
infix-size (raw at _) a b o h = absurd (none-infix o a b h)

-- ---- types
-- a conjunct other than `&` tells the type of a name
pub told-is : (o : InfixOp) (bs : List Bound) (x : List ℕ) (both : List Bound) (d : Outcome) → is_and o ≡ false → told_by o bs (Some x) both d ≡ typed_by x (clue_type o d) bs
told-is And bs x both d h = let no : true ≡ false = h in cc
told-is Member bs x both d h = refl
told-is Subset bs x both d h = refl
told-is StrictSubset bs x both d h = refl
told-is Equal bs x both d h = refl
told-is _ bs x both d h = refl

-- and of what is no name nothing
pub told-nameless : (o : InfixOp) (bs both : List Bound) (d : Outcome) → is_and o ≡ false → told_by o bs None both d ≡ bs
told-nameless And bs both d h = let no : true ≡ false = h in cc
told-nameless _ bs both d h = refl

pub told-nothing : (o : InfixOp) (d : Outcome) → tells_type o ≡ false → clue_type o d ≡ None
told-nothing Member d h = let no : true ≡ false = h in cc
told-nothing Subset d h = let no : true ≡ false = h in cc
told-nothing StrictSubset d h = let no : true ≡ false = h in cc
told-nothing Equal d h = let no : true ≡ false = h in cc
told-nothing _ d h = refl

pub typed-place : (x : List ℕ) (o : Option ValueType) (bs : List Bound) (n : ℕ) → AwaitsAt x bs n → typed_by x o bs ≡ given_at n o bs
typed-place x None bs n h = refl
typed-place x (Some t) bs n h = h.1 t

-- what a conjunct of a name tells
typing-named : (m : ℤ) (names : Names) (bs : List Bound) (t a d : RawTree) (o : InfixOp) (x : List ℕ) → and_sides t ≡ None → infix_sides t ≡ Some (o, a, d) → name_of a ≡ Some x →
    clues m names bs t ≡ typed_by x (clue_type o (reading m (inside bs names) d).outcome) bs
typing-named m names bs t a d o x h k e =
    clues-one m names bs t a d o k
    ∙ (ap (λ (y : Option (List ℕ)). told_by o bs y (clues m names (clues m names bs a) d) (reading m (inside bs names) d).outcome) e
    ∙ told-is o bs x (clues m names (clues m names bs a) d) (reading m (inside bs names) d).outcome (not-both t a d o h k))

pub typing-nameless : (bs : List Bound) (t a d : RawTree) (o : InfixOp) → and_sides t ≡ None → infix_sides t ≡ Some (o, a, d) → name_of a ≡ None → TellsNoType bs t
typing-nameless bs t a d o h k e = record {
  same = λ m names.
      clues-one m names bs t a d o k
      ∙ (ap (λ (y : Option (List ℕ)). told_by o bs y (clues m names (clues m names bs a) d) (reading m (inside bs names) d).outcome) e
      ∙ told-nameless o bs (clues m names (clues m names bs a) d) (reading m (inside bs names) d).outcome (not-both t a d o h k));
}

pub typing-other : (bs : List Bound) (t a d : RawTree) (o : InfixOp) (x : List ℕ) → and_sides t ≡ None → infix_sides t ≡ Some (o, a, d) → name_of a ≡ Some x → tells_type o ≡ false → TellsNoType bs t
typing-other bs t a d o x h k e f = record {
  same = λ m names. typing-named m names bs t a d o x h k e ∙ ap (λ (u : Option ValueType). typed_by x u bs) (told-nothing o (reading m (inside bs names) d).outcome f);
}

pub typing-here : (bs : List Bound) (t a d : RawTree) (o : InfixOp) (x : List ℕ) (n : ℕ) → and_sides t ≡ None → infix_sides t ≡ Some (o, a, d) → name_of a ≡ Some x → AwaitsAt x bs n → TellsType bs t o d n
typing-here bs t a d o x n h k e f =
    let smaller : tree_size a + tree_size d < tree_size t = infix-size t a d o k in
    record {
      within = f.0;
      small = omega arith;
      side = right-is t a d o k;
      same = λ m names. typing-named m names bs t a d o x h k e ∙ typed-place x (clue_type o (reading m (inside bs names) d).outcome) bs n f;
    }

-- ---- ranges
pub ranged-is : (o : InfixOp) (i : ℕ) (bs : List Ranged) (x : List ℕ) (both : List Ranged) (d : Outcome) → is_and o ≡ false → ranges_by o i bs (Some x) both false d ≡ ranged_by x (range_told o d) i bs
ranged-is And i bs x both d h = let no : true ≡ false = h in cc
ranged-is Member i bs x both d h = refl
ranged-is Equal i bs x both d h = refl
ranged-is _ i bs x both d h = refl

pub ranged-nameless : (o : InfixOp) (i : ℕ) (bs both : List Ranged) (b : Bool) (d : Outcome) → is_and o ≡ false → ranges_by o i bs None both b d ≡ bs
ranged-nameless And i bs both b d h = let no : true ≡ false = h in cc
ranged-nameless _ i bs both true d h = refl
ranged-nameless _ i bs both false d h = refl

-- where the right side names a bound name
pub ranged-named : (o : InfixOp) (i : ℕ) (bs : List Ranged) (x : Option (List ℕ)) (both : List Ranged) (d : Outcome) → is_and o ≡ false → ranges_by o i bs x both true d ≡ bs
ranged-named And i bs x both d h = let no : true ≡ false = h in cc
ranged-named _ i bs None both d h = refl
ranged-named _ i bs (Some x) both d h = refl

ranged-other : (o : InfixOp) (i : ℕ) (bs : List Ranged) (x : Option (List ℕ)) (both : List Ranged) (b : Bool) (d : Outcome) → is_and o ≡ false → tells_range o ≡ false → ranges_by o i bs x both b d ≡ bs
ranged-other And i bs x both b d h e = let no : true ≡ false = h in cc
ranged-other Member i bs x both b d h e = let no : true ≡ false = e in cc
ranged-other Equal i bs x both b d h e = let no : true ≡ false = e in cc
ranged-other _ i bs None both true d h e = refl
ranged-other _ i bs None both false d h e = refl
ranged-other _ i bs (Some x) both true d h e = refl
ranged-other _ i bs (Some x) both false d h e = refl

pub ranged-place : (x : List ℕ) (o : Option (Formula × ValueType)) (i : ℕ) (bs : List Ranged) (n : ℕ) → LacksAt x bs n → ranged_by x o i bs ≡ taken_at n i o bs
ranged-place x None i bs n h = refl
ranged-place x (Some d) i bs n h = h.1 (d.0, d.1, i)

-- what a conjunct of a name gives, where its right side names no bound name
ranging-named : (m : ℤ) (names : Names) (all : List RawName) (i : ℕ) (bs : List Ranged) (t a d : RawTree) (o : InfixOp) (x : List ℕ) → and_sides t ≡ None → infix_sides t ≡ Some (o, a, d) → name_of a ≡ Some x → names_one all d ≡ false →
    ranges m names all i bs t ≡ ranged_by x (range_told o (part false d (reading m names d)).outcome) i bs
ranging-named m names all i bs t a d o x h k e f =
    ranges-one m names all i bs t a d o k
    ∙ ((λ j. ranges_by o i bs (e j) (ranges m names all (i + length (conjuncts a)) (ranges m names all i bs a) d) (f j) (part false d (reading m names d)).outcome)
    ∙ ranged-is o i bs x (ranges m names all (i + length (conjuncts a)) (ranges m names all i bs a) d) (part false d (reading m names d)).outcome (not-both t a d o h k))

pub ranging-nameless : (all : List RawName) (bs : List Ranged) (t a d : RawTree) (o : InfixOp) → and_sides t ≡ None → infix_sides t ≡ Some (o, a, d) → name_of a ≡ None → TellsNoRange all bs t
ranging-nameless all bs t a d o h k e = record {
  same = λ m names i.
      ranges-one m names all i bs t a d o k
      ∙ (ap (λ (y : Option (List ℕ)). ranges_by o i bs y (ranges m names all (i + length (conjuncts a)) (ranges m names all i bs a) d) (names_one all d) (part false d (reading m names d)).outcome) e
      ∙ ranged-nameless o i bs (ranges m names all (i + length (conjuncts a)) (ranges m names all i bs a) d) (names_one all d) (part false d (reading m names d)).outcome (not-both t a d o h k));
}

pub ranging-inner : (all : List RawName) (bs : List Ranged) (t a d : RawTree) (o : InfixOp) → and_sides t ≡ None → infix_sides t ≡ Some (o, a, d) → names_one all d ≡ true → TellsNoRange all bs t
ranging-inner all bs t a d o h k e = record {
  same = λ m names i.
      ranges-one m names all i bs t a d o k
      ∙ (ap (λ (y : Bool). ranges_by o i bs (name_of a) (ranges m names all (i + length (conjuncts a)) (ranges m names all i bs a) d) y (part false d (reading m names d)).outcome) e
      ∙ ranged-named o i bs (name_of a) (ranges m names all (i + length (conjuncts a)) (ranges m names all i bs a) d) (part false d (reading m names d)).outcome (not-both t a d o h k));
}

-- an operator that gives no range
pub ranging-other : (all : List RawName) (bs : List Ranged) (t a d : RawTree) (o : InfixOp) → and_sides t ≡ None → infix_sides t ≡ Some (o, a, d) → tells_range o ≡ false → TellsNoRange all bs t
ranging-other all bs t a d o h k e = record {
  same = λ m names i.
      ranges-one m names all i bs t a d o k
      ∙ ranged-other o i bs (name_of a) (ranges m names all (i + length (conjuncts a)) (ranges m names all i bs a) d) (names_one all d) (part false d (reading m names d)).outcome (not-both t a d o h k) e;
}

-- a right side that gives no range by its form
pub ranging-formless : (all : List RawName) (bs : List Ranged) (t a d : RawTree) (o : InfixOp) (x : List ℕ) → and_sides t ≡ None → infix_sides t ≡ Some (o, a, d) → name_of a ≡ Some x → names_one all d ≡ false → gives_no_range d ≡ true → TellsNoRange all bs t
ranging-formless all bs t a d o x h k e f g = record {
  same = λ m names i. ranging-named m names all i bs t a d o x h k e f ∙ ap (λ (r : Option (Formula × ValueType)). ranged_by x r i bs) (form-gives m names o d g);
}

pub ranging-here : (all : List RawName) (bs : List Ranged) (t a d : RawTree) (o : InfixOp) (x : List ℕ) (n : ℕ) → and_sides t ≡ None → infix_sides t ≡ Some (o, a, d) → name_of a ≡ Some x → names_one all d ≡ false → LacksAt x bs n → TellsRange all bs t o d n
ranging-here all bs t a d o x n h k e f g =
    let smaller : tree_size a + tree_size d < tree_size t = infix-size t a d o k in
    record {
      within = g.0;
      small = omega arith;
      side = right-is t a d o k;
      outside = f;
      same = λ m names i. ranging-named m names all i bs t a d o x h k e f ∙ ranged-place x (range_told o (part false d (reading m names d)).outcome) i bs n g;
    }

-- ---- comprehensions and lambdas
pub comprehension-read : (r : Reader) (at : ℕ) (xs : List RawName) (p : RawTree) (rs : List Ranged) (names : Names) (body s : Step) (fault : Option ToldFault) →
    rs ≡ ranges (around_of r).max (names_of r) xs 0 (unranged xs) p → names ≡ inside (as_bound rs) (names_of r) →
    IsRead body (body_of (rest (around_of r).max names rs 0 None p)) → told fault ≡ blame (twice [] xs) →
    ((fs : List Fault) (q : Reading) → told fault ≡ blame fs → IsRead body q → IsRead s (comprehended at fs rs q)) →
    IsRead s (node_by r at (raw_comprehension xs p))
comprehension-read r at xs p rs names body s fault e n h g f =
    subst (λ (q : List Ranged). IsRead s (comprehended at (twice [] xs) q (body_of (rest (around_of r).max (inside (as_bound q) (names_of r)) q 0 None p)))) e
    (subst (λ (m : Names). IsRead s (comprehended at (twice [] xs) rs (body_of (rest (around_of r).max m rs 0 None p)))) n
    (f (twice [] xs) (body_of (rest (around_of r).max names rs 0 None p)) g h))

pub lambda-read : (r : Reader) (at : ℕ) (xs : List RawName) (p v : RawTree) (rs : List Ranged) (names : Names) (body value s : Step) (fault : Option ToldFault) →
    rs ≡ ranges (around_of r).max (names_of r) xs 0 (unranged xs) p → names ≡ inside (as_bound rs) (names_of r) →
    IsRead body (body_of (rest (around_of r).max names rs 0 None p)) → IsRead value (part false v (reading (around_of r).max names v)) → told fault ≡ blame (twice [] xs) →
    ((fs : List Fault) (q t : Reading) → told fault ≡ blame fs → IsRead body q → IsRead value t → IsRead s (abstracted at fs rs q (place_of v) t)) →
    IsRead s (node_by r at (raw_lambda xs p v))
lambda-read r at xs p v rs names body value s fault e n h k g f =
    subst (λ (q : List Ranged). IsRead s (abstracted at (twice [] xs) q (body_of (rest (around_of r).max (inside (as_bound q) (names_of r)) q 0 None p)) (place_of v) (part false v (reading (around_of r).max (inside (as_bound q) (names_of r)) v)))) e
    (subst (λ (m : Names). IsRead s (abstracted at (twice [] xs) rs (body_of (rest (around_of r).max m rs 0 None p)) (place_of v) (part false v (reading (around_of r).max m v)))) n
    (f (twice [] xs) (body_of (rest (around_of r).max names rs 0 None p)) (part false v (reading (around_of r).max names v)) g h k))

pub ruleset abstractions = (comprehension-read, lambda-read)
