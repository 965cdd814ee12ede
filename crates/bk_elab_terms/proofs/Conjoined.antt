-- What the conjuncts of a term give, of what each gives.
use Rattle.std.proofs.Common.{Result, Ok, Err, ◌≡◌, ℕ, ◌+◌, List, drop, length, length-append, refl, sym, ◌∙◌, ap, subst, Bool, true, false, ℤ, arith}
use Rattle.std.specs.Prelude.{Option, None, Some, IfOk, OnOk}
use Rattle.bk_val.specs.ValueType.{ValueType}
use Rattle.bk_form.specs.Formula.{Formula, btrue}
use Rattle.bk_raw.specs.declared.operator.InfixOp.{InfixOp}
use Rattle.bk_raw.specs.declared.term.RawName.{RawName}
use Rattle.bk_raw.specs.Trees.RawTree.{RawTree}
use Rattle.bk_raw.specs.Trees.FreeNames.{conjuncts}
use Rattle.bk_raw.specs.Meaning.Names.{Names}
use Rattle.bk_raw.specs.Meaning.Outcome.{Outcome, Reading, plainly, holding}
use Rattle.bk_raw.specs.Meaning.Binders.{Bound, Ranged, is_used, left_over, with_conjunct, body_of}
use Rattle.bk_raw.specs.Meaning.TermReading.{clues, ranges, rest, reading, part}
use Rattle.bk_elab_terms.specs.Conjuncts.{and_sides}
use Rattle.bk_elab_terms.specs.declared.binder.Ranged.{Ranged as RangedName}
use Rattle.bk_elab_terms.specs.declared.outcome.Step.{Step}
use Rattle.bk_elab_terms.specs.declared.sight.Reader.{Reader}
use Rattle.bk_elab_terms.specs.Shown.{shown_outcome, IsRead}
use Rattle.bk_elab_terms.specs.Sights.{around_of, names_of, names_below, bounds_of, bounds_from, read_by, ranges_as, clue_type, range_told, given_at, taken_at, IsRest, TellsType, TellsNoRange, TellsRange, Stands, StandsBelow}
use Rattle.bk_elab_terms.proofs.Clued.{clues-both, ranges-both, rest-both, rest-alone, conjuncts-both, conjuncts-alone}
use Rattle.bk_elab_terms.proofs.Readings.{names-stand, names-split, below-stands}

-- ---- types
pub clues-two : (first : ℕ) (old mid new : Reader) (t a b : RawTree) → and_sides t ≡ Some (a, b) →
    bounds_from first mid ≡ clues (around_of old).max (names_below first old) (bounds_from first old) a → StandsBelow first old mid →
    bounds_from first new ≡ clues (around_of mid).max (names_below first mid) (bounds_from first mid) b →
    bounds_from first new ≡ clues (around_of old).max (names_below first old) (bounds_from first old) t
clues-two first old mid new t a b k e h g =
    g ∙ ((λ i. clues (h.scope i).max (below-stands first old mid h i) (e i) b) ∙ sym (clues-both (around_of old).max (names_below first old) (bounds_from first old) t a b k))

pub clue-taken : (first : ℕ) (old mid new : Reader) (t d : RawTree) (o : InfixOp) (n : ℕ) (read : Step) (ty : Option ValueType) → TellsType (bounds_from first old) t o d n →
    IsRead read (read_by old d) → Stands old mid → ty ≡ clue_type o (shown_outcome read.outcome) → bounds_from first new ≡ given_at n ty (bounds_from first mid) →
    bounds_from first new ≡ clues (around_of old).max (names_below first old) (bounds_from first old) t
clue-taken first old mid new t d o n read ty h r s e g =
    g
    ∙ ((λ i. given_at n (e i) (bounds_of (drop first (s.locals i))))
    ∙ (ap (λ (x : Outcome). given_at n (clue_type o x) (bounds_from first old)) (r.outcome ∙ ap (λ (ns : Names). (reading (around_of old).max ns d).outcome) (names-split first old))
    ∙ sym (h.same (around_of old).max (names_below first old))))

-- ---- numbers of conjuncts
pub count-two : (i j n : ℕ) (t a b : RawTree) → and_sides t ≡ Some (a, b) → j ≡ i + length (conjuncts a) → n ≡ j + length (conjuncts b) → n ≡ i + length (conjuncts t)
count-two i j n t a b k e g =
    let all : length (conjuncts t) ≡ length (conjuncts a) + length (conjuncts b) = ap (λ (ts : List RawTree). length ts) (conjuncts-both t a b k) ∙ length-append (conjuncts a) (conjuncts b) in
    omega arith

pub count-one : (i n : ℕ) (t : RawTree) → and_sides t ≡ None → n ≡ i + 1 → n ≡ i + length (conjuncts t)
count-one i n t k e =
    let one : length (conjuncts t) ≡ 1 = ap (λ (ts : List RawTree). length ts) (conjuncts-alone t k) in
    omega arith

-- ---- ranges
pub ranges-two : (old mid : Reader) (all : List RawName) (i j : ℕ) (bs cs ds : List Ranged) (t a b : RawTree) → and_sides t ≡ Some (a, b) → j ≡ i + length (conjuncts a) →
    cs ≡ ranges (around_of old).max (names_of old) all i bs a → Stands old mid → ds ≡ ranges (around_of mid).max (names_of mid) all j cs b →
    ds ≡ ranges (around_of old).max (names_of old) all i bs t
ranges-two old mid all i j bs cs ds t a b k e f h g =
    g ∙ ((λ x. ranges (h.scope x).max (names-stand old mid h x) all (e x) (f x) b) ∙ sym (ranges-both (around_of old).max (names_of old) all i bs t a b k))

pub ranges-silent : (r : Reader) (all : List RawName) (i : ℕ) (bs : List Ranged) (t : RawTree) → TellsNoRange all bs t → bs ≡ ranges (around_of r).max (names_of r) all i bs t
ranges-silent r all i bs t h = sym (h.same (around_of r).max (names_of r) i)

pub range-taken : (r : Reader) (all : List RawName) (i : ℕ) (bs ds : List Ranged) (t d : RawTree) (o : InfixOp) (n : ℕ) (read placed : Step) (found : Option (Formula × ValueType)) → TellsRange all bs t o d n →
    IsRead read (read_by r d) → ((q : Reading) → IsRead read q → IsRead placed (part false d q)) → found ≡ range_told o (shown_outcome placed.outcome) → ds ≡ taken_at n i found bs →
    ds ≡ ranges (around_of r).max (names_of r) all i bs t
range-taken r all i bs ds t d o n read placed found h g p e k =
    k
    ∙ (ap (λ (x : Option (Formula × ValueType)). taken_at n i x bs) (e ∙ ap (range_told o) (p (read_by r d) g).outcome)
    ∙ sym (h.same (around_of r).max (names_of r) i))

-- ---- what is left
pub rest-two : (old mid : Reader) (bs : List Ranged) (i j : ℕ) (one two three : Option Step) (t a b : RawTree) → and_sides t ≡ Some (a, b) → j ≡ i + length (conjuncts a) →
    ((before : Option Reading) → IsRest one before → IsRest two (rest (around_of old).max (names_of old) bs i before a)) → Stands old mid →
    ((before : Option Reading) → IsRest two before → IsRest three (rest (around_of mid).max (names_of mid) bs j before b)) →
    (before : Option Reading) → IsRest one before → IsRest three (rest (around_of old).max (names_of old) bs i before t)
rest-two old mid bs i j one two three t a b k e f h g before l =
    subst (IsRest three)
    ((λ x. rest (h.scope x).max (names-stand old mid h x) bs (e x) (rest (around_of old).max (names_of old) bs i before a) b) ∙ sym (rest-both (around_of old).max (names_of old) bs i before t a b k))
    (g (rest (around_of old).max (names_of old) bs i before a) (f before l))

pub rest-used : (r : Reader) (bs : List Ranged) (i : ℕ) (one : Option Step) (t : RawTree) → and_sides t ≡ None → is_used i bs ≡ true →
    (before : Option Reading) → IsRest one before → IsRest one (rest (around_of r).max (names_of r) bs i before t)
rest-used r bs i one t k e before l =
    subst (IsRest one) (sym (rest-alone (around_of r).max (names_of r) bs i before t k ∙ ap (λ (b : Bool). left_over b before (part true t (read_by r t))) e)) l

pub rest-more : (r : Reader) (bs : List Ranged) (i : ℕ) (one : Option Step) (read placed more : Step) (t : RawTree) → and_sides t ≡ None → is_used i bs ≡ false →
    IsRead read (read_by r t) → ((q : Reading) → IsRead read q → IsRead placed (part true t q)) →
    ((o : Option Reading) (q : Reading) → IsRest one o → IsRead placed q → IsRest (Some more) (with_conjunct o q)) →
    (before : Option Reading) → IsRest one before → IsRest (Some more) (rest (around_of r).max (names_of r) bs i before t)
rest-more r bs i one read placed more t k e g p f before l =
    subst (IsRest (Some more)) (sym (rest-alone (around_of r).max (names_of r) bs i before t k ∙ ap (λ (b : Bool). left_over b before (part true t (read_by r t))) e))
    (f before (part true t (read_by r t)) l (p (read_by r t) g))

-- ---- the same of a step that may fail
pub clues-both-done : {A E : Type 0} (r : Result A E) (first : ℕ) (old mid new : Reader) (t a b : RawTree) → and_sides t ≡ Some (a, b) →
    bounds_from first mid ≡ clues (around_of old).max (names_below first old) (bounds_from first old) a → StandsBelow first old mid →
    OnOk r (bounds_from first new ≡ clues (around_of mid).max (names_below first mid) (bounds_from first mid) b) →
    OnOk r (bounds_from first new ≡ clues (around_of old).max (names_below first old) (bounds_from first old) t)
clues-both-done (Err x) first old mid new t a b k e g f = tt
clues-both-done (Ok x) first old mid new t a b k e g f = clues-two first old mid new t a b k e g f

pub ranges-both-done : {A E : Type 0} (r : Result A E) (old mid : Reader) (all : List RawName) (i j : ℕ) (bs cs ds : List Ranged) (t a b : RawTree) → and_sides t ≡ Some (a, b) → j ≡ i + length (conjuncts a) →
    cs ≡ ranges (around_of old).max (names_of old) all i bs a → Stands old mid → OnOk r (ds ≡ ranges (around_of mid).max (names_of mid) all j cs b) → OnOk r (ds ≡ ranges (around_of old).max (names_of old) all i bs t)
ranges-both-done (Err x) old mid all i j bs cs ds t a b k e f h g = tt
ranges-both-done (Ok x) old mid all i j bs cs ds t a b k e f h g = ranges-two old mid all i j bs cs ds t a b k e f h g

pub count-both-done : {E : Type 0} (r : Result ℕ E) (i j : ℕ) (t a b : RawTree) → and_sides t ≡ Some (a, b) → j ≡ i + length (conjuncts a) → IfOk r (λ n. n ≡ j + length (conjuncts b)) → IfOk r (λ n. n ≡ i + length (conjuncts t))
count-both-done (Err x) i j t a b k e f = tt
count-both-done (Ok n) i j t a b k e f = count-two i j n t a b k e f

-- where a step goes well
pub where-done : {A E P : Type 0} (r : Result A E) → P → OnOk r P
where-done (Err x) h = tt
where-done (Ok x) h = h

rest-empty : (o : Option Reading) → IsRest None o → o ≡ None
rest-empty None h = refl
rest-empty (Some r) h = absurd h

rest-there : (s : Step) (o : Option Reading) → IsRest (Some s) o → IsRead s (body_of o)
rest-there s None h = absurd h
rest-there s (Some r) h = h

-- what is left of a predicate, from what was left over
pub body-left : (old pushed new : Reader) (seen items : List RangedName) (t : RawTree) (left : Option Step) → seen ≡ items → around_of pushed ≡ around_of old → Stands pushed new →
    ((before : Option Reading) → IsRest None before → IsRest left (rest (around_of pushed).max (names_of pushed) (ranges_as seen) 0 before t)) → IsRest left (rest (around_of old).max (names_of new) (ranges_as items) 0 None t)
body-left old pushed new seen items t left e h k f =
    subst (IsRest left) (λ i. rest (h i).max (sym (names-stand pushed new k) i) (ranges_as (e i)) 0 None t) (f None tt)

pub body-none : (old pushed new : Reader) (seen items : List RangedName) (t : RawTree) (left : Option Step) (s : Step) → seen ≡ items → around_of pushed ≡ around_of old → Stands pushed new →
    ((before : Option Reading) → IsRest None before → IsRest left (rest (around_of pushed).max (names_of pushed) (ranges_as seen) 0 before t)) → left ≡ None → IsRead s (plainly (holding btrue)) →
    IsRead s (body_of (rest (around_of old).max (names_of new) (ranges_as items) 0 None t))
body-none old pushed new seen items t left s e h k f n g =
    let none : IsRest None (rest (around_of old).max (names_of new) (ranges_as items) 0 None t) = subst (λ (l : Option Step). IsRest l (rest (around_of old).max (names_of new) (ranges_as items) 0 None t)) n (body-left old pushed new seen items t left e h k f) in
    subst (λ (o : Option Reading). IsRead s (body_of o)) (sym (rest-empty (rest (around_of old).max (names_of new) (ranges_as items) 0 None t) none)) g

pub body-some : (old pushed new : Reader) (seen items : List RangedName) (t : RawTree) (left : Option Step) (s : Step) → seen ≡ items → around_of pushed ≡ around_of old → Stands pushed new →
    ((before : Option Reading) → IsRest None before → IsRest left (rest (around_of pushed).max (names_of pushed) (ranges_as seen) 0 before t)) → left ≡ Some s →
    IsRead s (body_of (rest (around_of old).max (names_of new) (ranges_as items) 0 None t))
body-some old pushed new seen items t left s e h k f n =
    rest-there s (rest (around_of old).max (names_of new) (ranges_as items) 0 None t)
    (subst (λ (l : Option Step). IsRest l (rest (around_of old).max (names_of new) (ranges_as items) 0 None t)) n (body-left old pushed new seen items t left e h k f))

pub ruleset ranging = (ranges-silent, range-taken, count-one)
