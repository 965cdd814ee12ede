-- What conjuncts are read as where the right sides of some of them were kept.
use Rattle.std.proofs.Common.{Result, Ok, Err, ◌≡◌, ℕ, ◌+◌, ◌≤◌, ℤ, List, [], ◌∷◌, ◌++◌, take, drop, length, arith, refl, sym, ◌∙◌, ap, subst, Bool, true, false, cond, not, ◌&&◌}
use Rattle.std.proofs.lemmas.List.{append-nil, append_assoc, length-take-le}
use Rattle.std.specs.Prelude.{Option, None, Some, IfOk, OnOk, MatchOption}
use Rattle.bk_val.specs.ValueType.{ValueType}
use Rattle.bk_raw.specs.declared.operator.InfixOp.{InfixOp}
use Rattle.bk_raw.specs.declared.operator.InfixOp.TheVariants.{And}
use Rattle.bk_raw.specs.Trees.RawTree.{RawTree}
use Rattle.bk_raw.specs.Trees.FreeNames.{conjuncts}
use Rattle.bk_raw.specs.Meaning.Names.{Names, count_locals}
use Rattle.bk_raw.specs.Meaning.Outcome.{silent, Reading}
use Rattle.bk_raw.specs.Meaning.Binders.{Bound, bound_names, inside, Ranged, unranged, as_bound, is_used, with_conjunct}
use Rattle.bk_raw.specs.declared.term.RawName.{RawName}
use Rattle.bk_form.specs.Formula.{Formula}
use Rattle.bk_raw.specs.Meaning.TermReading.{clues, ranges, rest, reading, part, place_of}
use Rattle.bk_elab_terms.specs.Conjuncts.{and_sides, infix_sides}
use Rattle.bk_elab_terms.specs.declared.form.TwoParts.TheVariants.{Infix}
use Rattle.bk_elab_terms.specs.declared.binder.Ranged.{Ranged as RangedName}
use Rattle.bk_elab_terms.specs.declared.outcome.Step.{Step}
use Rattle.bk_elab_terms.specs.declared.sight.Reader.{Reader}
use Rattle.bk_elab_terms.specs.Forms.{two_reading}
use Rattle.bk_elab_terms.specs.Shown.{shown_outcome, IsRead}
use Rattle.bk_elab_terms.specs.Sights.{around_of, names_of, names_below, outer_names, bounds_of, bounds_from, read_by, clue_type, given_at, taken_at, ranges_as, IsRest, TellsType, TellsRange, Stands, StandsBelow}
use Rattle.bk_elab_terms.specs.Kept.{Grows, names_untyped, dollar_untyped, has_unsettled, names_dollar, has_additions, IsKept, AreKept, StaysKept, StayKept, is_lasting}
use Rattle.bk_elab_terms.proofs.Clued.{conjuncts-both, conjuncts-alone, and-read}
use Rattle.bk_elab_terms.proofs.Conjoined.{rest-two, rest-used, rest-more, count-one}
use Rattle.bk_elab_terms.proofs.Lasting.{lasting-gives, lasting-kept, names-grow}
use Rattle.bk_elab_terms.proofs.Awaited.{length-bounds}
use Rattle.bk_elab_terms.proofs.Dollars.{count-inside}
use Rattle.bk_elab_terms.proofs.Sighted.{all-counted}
use Rattle.bk_elab_terms.proofs.Grown.{grows-itself, grows-through, clues-grow}
use Rattle.bk_elab_terms.proofs.Keeping.{stays-kept, clue-silent, kept-append}
use Rattle.bk_elab_terms.proofs.Readings.{names-stand, names-split, below-stands, read-after}

-- ---- types
-- what is kept beside the names below, which stay
kept-below : (first : ℕ) (old mid : Reader) (bs : List Bound) (ks : List (Option Step)) (ts : List RawTree) → StandsBelow first old mid → StayKept (around_of mid).max (names_below first mid) bs ks ts ≡ StayKept (around_of old).max (names_below first old) bs ks ts
kept-below first old mid bs ks ts h i = StayKept (h.scope i).max (below-stands first old mid h i) bs ks ts

-- both sides of &
pub kept-both : {A E : Type 0} (r : Result A E) (first : ℕ) (old mid new : Reader) (t a b : RawTree) (ks ls ms : List (Option Step)) → and_sides t ≡ Some (a, b) → StandsBelow first old mid →
    ((ts : List RawTree) → StayKept (around_of old).max (names_below first old) (bounds_from first old) ks ts → StayKept (around_of old).max (names_below first old) (bounds_from first mid) ls (ts ++ conjuncts a)) →
    OnOk r ((ts : List RawTree) → StayKept (around_of mid).max (names_below first mid) (bounds_from first mid) ls ts → StayKept (around_of mid).max (names_below first mid) (bounds_from first new) ms (ts ++ conjuncts b)) →
    OnOk r ((ts : List RawTree) → StayKept (around_of old).max (names_below first old) (bounds_from first old) ks ts → StayKept (around_of old).max (names_below first old) (bounds_from first new) ms (ts ++ conjuncts t))
kept-both (Err x) first old mid new t a b ks ls ms k h f g = tt
kept-both (Ok x) first old mid new t a b ks ls ms k h f g = λ ts s.
    let all : (ts ++ conjuncts a) ++ conjuncts b ≡ ts ++ conjuncts t = append_assoc ts (conjuncts a) (conjuncts b) ∙ ap (λ (us : List RawTree). ts ++ us) (sym (conjuncts-both t a b k)) in
    let before : StayKept (around_of mid).max (names_below first mid) (bounds_from first mid) ls (ts ++ conjuncts a) = subst (λ (P : Type 0). P) (sym (kept-below first old mid (bounds_from first mid) ls (ts ++ conjuncts a) h)) (f ts s) in
    let after : StayKept (around_of old).max (names_below first old) (bounds_from first new) ms ((ts ++ conjuncts a) ++ conjuncts b) = subst (λ (P : Type 0). P) (kept-below first old mid (bounds_from first new) ms ((ts ++ conjuncts a) ++ conjuncts b) h) (g (ts ++ conjuncts a) before) in
    subst (λ (us : List RawTree). StayKept (around_of old).max (names_below first old) (bounds_from first new) ms us) all after

-- one more
pub kept-more : (first : ℕ) (old new : Reader) (t : RawTree) (ks ls : List (Option Step)) (k : Option Step) → and_sides t ≡ None →
    bounds_from first new ≡ clues (around_of old).max (names_below first old) (bounds_from first old) t →
    StaysKept (around_of old).max (names_below first old) (bounds_from first new) k t → ls ≡ ks ++ k ∷ [] →
    (ts : List RawTree) → StayKept (around_of old).max (names_below first old) (bounds_from first old) ks ts → StayKept (around_of old).max (names_below first old) (bounds_from first new) ls (ts ++ conjuncts t)
kept-more first old new t ks ls k alone e h same ts s cs g =
    let grown : Grows (bounds_from first old) (bounds_from first new) = subst (λ (bs : List Bound). Grows (bounds_from first old) bs) (sym e) (clues-grow (around_of old).max t (names_below first old) (bounds_from first old)) in
    let one : AreKept (around_of old).max (inside cs (names_below first old)) (ks ++ k ∷ []) (ts ++ t ∷ []) =
    kept-append (around_of old).max (inside cs (names_below first old)) ks ts k t (s cs (grows-through (bounds_from first old) (bounds_from first new) cs grown g)) (h cs g) in
    subst (λ (us : List RawTree). AreKept (around_of old).max (inside cs (names_below first old)) ls (ts ++ us)) (sym (conjuncts-alone t alone))
    (subst (λ (ms : List (Option Step)). AreKept (around_of old).max (inside cs (names_below first old)) ms (ts ++ t ∷ [])) (sym same) one)

-- a conjunct that tells nothing, since a name without a type stands in it
pub clue-untold : (first : ℕ) (r : Reader) (t d : RawTree) (o : InfixOp) (n : ℕ) → TellsType (bounds_from first r) t o d n → ((m : ℤ) → (reading m (names_of r) d).outcome ≡ silent) →
    bounds_from first r ≡ clues (around_of r).max (names_below first r) (bounds_from first r) t
clue-untold first r t d o n h f =
    let m = (around_of r).max in
    let none : clue_type o (reading m (inside (bounds_from first r) (names_below first r)) d).outcome ≡ None =
    ap (λ (ns : Names). clue_type o (reading m ns d).outcome) (sym (names-split first r)) ∙ (ap (clue_type o) (f m) ∙ clue-silent o) in
    sym (h.same m (names_below first r) ∙ ap (λ (u : Option ValueType). given_at n u (bounds_from first r)) none)

-- so many names stand below a place
below-counted : (first : ℕ) (r : Reader) → first ≤ length r.locals.items → count_locals (names_below first r) ≡ first
below-counted first r h =
    let outer = outer_names r in
    let all : count_locals (names_of r) ≡ length (bounds_of r.locals.items) + count_locals outer = count-inside (bounds_of r.locals.items) outer in
    let counted : count_locals (names_of r) ≡ length r.locals.items = all-counted r in
    let same : length (bounds_of r.locals.items) ≡ length r.locals.items = length-bounds r.locals.items in
    let none : count_locals outer ≡ 0 = omega (arith, all, counted, same) in
    let below : count_locals (names_below first r) ≡ length (bounds_of (take first r.locals.items)) + count_locals outer = count-inside (bounds_of (take first r.locals.items)) outer in
    let short : length (bounds_of (take first r.locals.items)) ≡ length (take first r.locals.items) = length-bounds (take first r.locals.items) in
    let long : length (take first r.locals.items) ≡ first = length-take-le first r.locals.items h in
    omega (arith, none, below, short, long)

-- a conjunct whose right side was read
pub clue-stays : (first : ℕ) (old new : Reader) (t d : RawTree) (o : InfixOp) (n : ℕ) (read : Step) (settled : Bool) (k : Option Step) → first ≤ length old.locals.items → TellsType (bounds_from first old) t o d n →
    IsRead read (read_by old d) → settled ≡ (not (names_untyped (bounds_from first old) d) && not (has_unsettled first (length (drop first old.locals.items)) (dollar_untyped (bounds_from first old)) d)) →
    bounds_from first new ≡ clues (around_of old).max (names_below first old) (bounds_from first old) t → k ≡ cond settled (Some read) None →
    StaysKept (around_of old).max (names_below first old) (bounds_from first new) k t
clue-stays first old new t d o n read settled k long h r e c same =
    subst (λ (l : Option Step). StaysKept (around_of old).max (names_below first old) (bounds_from first new) l t) (sym same) (by settled e)
  where
    both-not : (a b : Bool) → true ≡ (not a && not b) → (a ≡ false) × (b ≡ false)
    both-not true b h = let no : true ≡ false = h in absurd (cc)
    both-not false true h = let no : true ≡ false = h in absurd (cc)
    both-not false false h = (refl, refl)

    by : (b : Bool) → b ≡ (not (names_untyped (bounds_from first old) d) && not (has_unsettled first (length (drop first old.locals.items)) (dollar_untyped (bounds_from first old)) d)) → StaysKept (around_of old).max (names_below first old) (bounds_from first new) (cond b (Some read) None) t
    by false e = λ cs g. tt
    by true e =
        let both = both-not (names_untyped (bounds_from first old) d) (has_unsettled first (length (drop first old.locals.items)) (dollar_untyped (bounds_from first old)) d) e in
        let grown : Grows (bounds_from first old) (bounds_from first new) = subst (λ (bs : List Bound). Grows (bounds_from first old) bs) (sym c) (clues-grow (around_of old).max t (names_below first old) (bounds_from first old)) in
        let unsettled : has_unsettled (count_locals (names_below first old)) (length (bounds_from first old)) (dollar_untyped (bounds_from first old)) d ≡ false =
        (λ i. has_unsettled (below-counted first old long i) (length-bounds (drop first old.locals.items) i) (dollar_untyped (bounds_from first old)) d) ∙ both.1 in
        stays-kept (around_of old).max (names_below first old) (bounds_from first old) (bounds_from first new) t d o read h.side
        (subst (λ (ns : Names). IsRead read (reading (around_of old).max ns d)) (names-split first old) r) both.0 unsettled grown

pub none-stays : (m : ℤ) (names : Names) (bs : List Bound) (t : RawTree) → StaysKept m names bs None t
none-stays m names bs t cs g = tt

-- ---- the body
-- what was kept while the names got their types serves for the body
pub kept-served : (first : ℕ) (old mid : Reader) (t : RawTree) (ks ls : List (Option Step)) → ks ≡ [] → StandsBelow first old mid →
    ((ts : List RawTree) → StayKept (around_of old).max (names_below first old) (bounds_from first old) ks ts → StayKept (around_of old).max (names_below first old) (bounds_from first mid) ls (ts ++ conjuncts t)) →
    AreKept (around_of mid).max (names_of mid) ls (conjuncts t ++ [])
kept-served first old mid t ks ls e h f =
    let none : StayKept (around_of old).max (names_below first old) (bounds_from first old) ks [] = λ cs g. subst (λ (ms : List (Option Step)). AreKept (around_of old).max (inside cs (names_below first old)) ms []) (sym e) tt in
    let all : AreKept (around_of old).max (inside (bounds_from first mid) (names_below first old)) ls (conjuncts t) = f [] none (bounds_from first mid) (grows-itself (bounds_from first mid)) in
    let same : names_of mid ≡ inside (bounds_from first mid) (names_below first old) = names-split first mid ∙ ap (inside (bounds_from first mid)) (below-stands first old mid h) in
    subst (λ (us : List RawTree). AreKept (around_of mid).max (names_of mid) ls us) (sym (append-nil (conjuncts t)))
    (subst (λ (P : Type 0). P) (λ i. AreKept (sym h.scope i).max (sym same i) ls (conjuncts t)) all)

pub body-served : {E : Type 0} (r : Result Step E) (mid new : Reader) (t : RawTree) (ls : List (Option Step)) → AreKept (around_of mid).max (names_of mid) ls (conjuncts t ++ []) → OnOk r (Stands mid new) →
    IfOk r (λ s. (ts : List RawTree) → AreKept (around_of mid).max (names_of mid) ls (conjuncts t ++ ts) → IsRead s (read_by mid t)) → IfOk r (λ s. IsRead s (read_by new t))
body-served (Err x) mid new t ls h k f = tt
body-served (Ok s) mid new t ls h k f = subst (IsRead s) (λ i. reading (sym k.scope i).max (sym (names-stand mid new k) i) t) (f [] h)

-- the first of a conjunction's parts, and then the other
kept-split : (r : Reader) (t a b : RawTree) (ks : List (Option Step)) (ts : List RawTree) → and_sides t ≡ Some (a, b) → AreKept (around_of r).max (names_of r) ks (conjuncts t ++ ts) → AreKept (around_of r).max (names_of r) ks (conjuncts a ++ (conjuncts b ++ ts))
kept-split r t a b ks ts k h = subst (λ (us : List RawTree). AreKept (around_of r).max (names_of r) ks us) (ap (λ (us : List RawTree). us ++ ts) (conjuncts-both t a b k) ∙ append_assoc (conjuncts a) (conjuncts b) ts) h

kept-stand : (old mid : Reader) (ks : List (Option Step)) (ts : List RawTree) → Stands old mid → AreKept (around_of mid).max (names_of mid) ks ts ≡ AreKept (around_of old).max (names_of old) ks ts
kept-stand old mid ks ts h i = AreKept (h.scope i).max (names-stand old mid h i) ks ts

pub both-read : {E : Type 0} (r : Result Step E) (old mid : Reader) (t a b : RawTree) (one other : Step) (ks ls : List (Option Step)) → and_sides t ≡ Some (a, b) → Stands old mid →
    ((ts : List RawTree) → AreKept (around_of old).max (names_of old) ks (conjuncts a ++ ts) → IsRead one (read_by old a)) →
    ((ts : List RawTree) → AreKept (around_of old).max (names_of old) ks (conjuncts a ++ ts) → AreKept (around_of old).max (names_of old) ls ts) →
    ((ts : List RawTree) → AreKept (around_of mid).max (names_of mid) ls (conjuncts b ++ ts) → IsRead other (read_by mid b)) →
    IfOk r (λ s. (q p : Reading) → IsRead one q → IsRead other p → IsRead s (two_reading (Infix And) (place_of t) a b q p)) →
    IfOk r (λ s. (ts : List RawTree) → AreKept (around_of old).max (names_of old) ks (conjuncts t ++ ts) → IsRead s (read_by old t))
both-read (Err x) old mid t a b one other ks ls k h f g e w = tt
both-read (Ok s) old mid t a b one other ks ls k h f g e w = λ ts kept.
    let split = kept-split old t a b ks ts k kept in
    let later : AreKept (around_of mid).max (names_of mid) ls (conjuncts b ++ ts) = subst (λ (P : Type 0). P) (sym (kept-stand old mid ls (conjuncts b ++ ts) h)) (g (conjuncts b ++ ts) split) in
    subst (IsRead s) (and-read (around_of old).max (names_of old) t a b k)
    (w (read_by old a) (read_by old b) (f (conjuncts b ++ ts) split) (read-after old mid other b h (e ts later)))

both-kept : (old mid : Reader) (t a b : RawTree) (ks ls ms : List (Option Step)) → and_sides t ≡ Some (a, b) → Stands old mid →
    ((ts : List RawTree) → AreKept (around_of old).max (names_of old) ks (conjuncts a ++ ts) → AreKept (around_of old).max (names_of old) ls ts) →
    ((ts : List RawTree) → AreKept (around_of mid).max (names_of mid) ls (conjuncts b ++ ts) → AreKept (around_of mid).max (names_of mid) ms ts) →
    (ts : List RawTree) → AreKept (around_of old).max (names_of old) ks (conjuncts t ++ ts) → AreKept (around_of old).max (names_of old) ms ts
both-kept old mid t a b ks ls ms k h g e ts kept =
    let split = kept-split old t a b ks ts k kept in
    let later : AreKept (around_of mid).max (names_of mid) ls (conjuncts b ++ ts) = subst (λ (P : Type 0). P) (sym (kept-stand old mid ls (conjuncts b ++ ts) h)) (g (conjuncts b ++ ts) split) in
    subst (λ (P : Type 0). P) (kept-stand old mid ms ts h) (e ts later)

-- one conjunct
kept-alone : (r : Reader) (t : RawTree) (ks : List (Option Step)) (ts : List RawTree) → and_sides t ≡ None → AreKept (around_of r).max (names_of r) ks (conjuncts t ++ ts) → AreKept (around_of r).max (names_of r) ks (t ∷ ts)
kept-alone r t ks ts k h = subst (λ (us : List RawTree). AreKept (around_of r).max (names_of r) ks (us ++ ts)) (conjuncts-alone t k) h

pub one-read : {E : Type 0} (r : Result Step E) (old : Reader) (t : RawTree) (side : Option Step) (ks : List (Option Step)) → and_sides t ≡ None →
    ((m : ℤ) (names : Names) (u : RawTree) (ts : List RawTree) → AreKept m names ks (u ∷ ts) → IsKept m names side u) →
    IfOk r (λ s. IsKept (around_of old).max (names_of old) side t → IsRead s (read_by old t)) →
    IfOk r (λ s. (ts : List RawTree) → AreKept (around_of old).max (names_of old) ks (conjuncts t ++ ts) → IsRead s (read_by old t))
one-read (Err x) old t side ks k f g = tt
one-read (Ok s) old t side ks k f g = λ ts h. g (f (around_of old).max (names_of old) t ts (kept-alone old t ks ts k h))

pub one-left : {A E : Type 0} (r : Result A E) (old : Reader) (t : RawTree) (ks ls : List (Option Step)) → and_sides t ≡ None →
    ((m : ℤ) (names : Names) (u : RawTree) (ts : List RawTree) → AreKept m names ks (u ∷ ts) → AreKept m names ls ts) →
    OnOk r ((ts : List RawTree) → AreKept (around_of old).max (names_of old) ks (conjuncts t ++ ts) → AreKept (around_of old).max (names_of old) ls ts)
one-left (Err x) old t ks ls k f = tt
one-left (Ok x) old t ks ls k f = λ ts h. f (around_of old).max (names_of old) t ts (kept-alone old t ks ts k h)

-- a conjunct whose right side was kept
pub side-joined : {E : Type 0} (r : Result Step E) (old : Reader) (t a b : RawTree) (o : InfixOp) (side one : Step) → infix_sides t ≡ Some (o, a, b) → IsRead one (read_by old a) →
    IfOk r (λ s. (q p : Reading) → IsRead one q → IsRead side p → IsRead s (two_reading (Infix o) (place_of t) a b q p)) →
    IfOk r (λ s. IsKept (around_of old).max (names_of old) (Some side) t → IsRead s (read_by old t))
side-joined (Err x) old t a b o side one k h w = tt
side-joined (Ok s) old t a b o side one k h w = λ kept.
    let joins = subst (λ (p : Option (InfixOp × RawTree × RawTree)). MatchOption p ⊥ (λ q. (one all : Step) → IsRead one (reading (around_of old).max (names_of old) q.1) → ((r p : Reading) → IsRead one r → IsRead side p → IsRead all (two_reading (Infix q.0) (place_of t) q.1 q.2 r p)) → IsRead all (reading (around_of old).max (names_of old) t))) k kept in
    joins one s h w

-- ---- ranges
-- what is kept beside the names around, which stay
kept-around : (old mid : Reader) (bs : List Bound) (ks : List (Option Step)) (ts : List RawTree) → Stands old mid → StayKept (around_of mid).max (names_of mid) bs ks ts ≡ StayKept (around_of old).max (names_of old) bs ks ts
kept-around old mid bs ks ts h i = StayKept (h.scope i).max (names-stand old mid h i) bs ks ts

pub kept-ranges : {A E : Type 0} (r : Result A E) (old mid : Reader) (bs : List Bound) (t a b : RawTree) (ks ls ms : List (Option Step)) → and_sides t ≡ Some (a, b) → Stands old mid →
    ((ts : List RawTree) → StayKept (around_of old).max (names_of old) bs ks ts → StayKept (around_of old).max (names_of old) bs ls (ts ++ conjuncts a)) →
    OnOk r ((ts : List RawTree) → StayKept (around_of mid).max (names_of mid) bs ls ts → StayKept (around_of mid).max (names_of mid) bs ms (ts ++ conjuncts b)) →
    OnOk r ((ts : List RawTree) → StayKept (around_of old).max (names_of old) bs ks ts → StayKept (around_of old).max (names_of old) bs ms (ts ++ conjuncts t))
kept-ranges (Err x) old mid bs t a b ks ls ms k h f g = tt
kept-ranges (Ok x) old mid bs t a b ks ls ms k h f g = λ ts s.
    let all : (ts ++ conjuncts a) ++ conjuncts b ≡ ts ++ conjuncts t = append_assoc ts (conjuncts a) (conjuncts b) ∙ ap (λ (us : List RawTree). ts ++ us) (sym (conjuncts-both t a b k)) in
    let before : StayKept (around_of mid).max (names_of mid) bs ls (ts ++ conjuncts a) = subst (λ (P : Type 0). P) (sym (kept-around old mid bs ls (ts ++ conjuncts a) h)) (f ts s) in
    let after : StayKept (around_of old).max (names_of old) bs ms ((ts ++ conjuncts a) ++ conjuncts b) = subst (λ (P : Type 0). P) (kept-around old mid bs ms ((ts ++ conjuncts a) ++ conjuncts b) h) (g (ts ++ conjuncts a) before) in
    subst (λ (us : List RawTree). StayKept (around_of old).max (names_of old) bs ms us) all after

pub kept-ranged : (m : ℤ) (names : Names) (bs : List Bound) (t : RawTree) (ks ls : List (Option Step)) (k : Option Step) → and_sides t ≡ None → StaysKept m names bs k t → ls ≡ ks ++ k ∷ [] →
    (ts : List RawTree) → StayKept m names bs ks ts → StayKept m names bs ls (ts ++ conjuncts t)
kept-ranged m names bs t ks ls k alone h same ts s cs g =
    subst (λ (us : List RawTree). AreKept m (inside cs names) ls (ts ++ us)) (sym (conjuncts-alone t alone))
    (subst (λ (ms : List (Option Step)). AreKept m (inside cs names) ms (ts ++ t ∷ [])) (sym same) (kept-append m (inside cs names) ks ts k t (s cs g) (h cs g)))

-- a conjunct whose right side gives no range and lasts
pub range-lasting : (r : Reader) (all : List RawName) (i : ℕ) (bs : List Ranged) (t d : RawTree) (o : InfixOp) (n : ℕ) (read : Step) → TellsRange all bs t o d n → IsRead read (read_by r d) → is_lasting o (shown_outcome read.outcome) ≡ true →
    bs ≡ ranges (around_of r).max (names_of r) all i bs t
range-lasting r all i bs t d o n read h g l =
    let lasts : is_lasting o (read_by r d).outcome ≡ true = ap (is_lasting o) (sym g.outcome) ∙ l in
    sym (h.same (around_of r).max (names_of r) i ∙ ap (λ (x : Option (Formula × ValueType)). taken_at n i x bs) (lasting-gives o d (read_by r d) lasts))

pub range-stays : (r : Reader) (all : List RawName) (bs : List Ranged) (t d : RawTree) (o : InfixOp) (n : ℕ) (read : Step) (plain : Bool) (k : Option Step) → TellsRange all bs t o d n → IsRead read (read_by r d) → is_lasting o (shown_outcome read.outcome) ≡ true →
    plain ≡ not (has_additions (names_dollar all) d) → k ≡ cond plain (Some read) None → StaysKept (around_of r).max (names_of r) (bound_names all) k t
range-stays r all bs t d o n read plain k h g l e same =
    subst (λ (z : Option Step). StaysKept (around_of r).max (names_of r) (bound_names all) z t) (sym same) (by plain e)
  where
    unsaid : (b : Bool) → true ≡ not b → b ≡ false
    unsaid true h = let no : true ≡ false = h in absurd (cc)
    unsaid false h = refl

    by : (b : Bool) → b ≡ not (has_additions (names_dollar all) d) → StaysKept (around_of r).max (names_of r) (bound_names all) (cond b (Some read) None) t
    by false e = λ cs g. tt
    by true e = lasting-kept (around_of r).max (names_of r) all t d o read h.side g (ap (is_lasting o) (sym g.outcome) ∙ l) h.outside (unsaid (has_additions (names_dollar all) d) e)

-- what was kept while the names got their ranges serves for what is left, where the names are in sight
pub kept-pushed : (old mid pushed : Reader) (all : List RawName) (rs : List Ranged) (items seen : List RangedName) (t : RawTree) (ks ls : List (Option Step)) → ks ≡ [] → rs ≡ unranged all →
    ranges_as items ≡ ranges (around_of old).max (names_of old) all 0 rs t → Stands old mid → seen ≡ items → around_of pushed ≡ around_of mid → names_of pushed ≡ inside (as_bound (ranges_as seen)) (names_of mid) →
    ((ts : List RawTree) → StayKept (around_of old).max (names_of old) (bound_names all) ks ts → StayKept (around_of old).max (names_of old) (bound_names all) ls (ts ++ conjuncts t)) →
    AreKept (around_of pushed).max (names_of pushed) ls (conjuncts t ++ [])
kept-pushed old mid pushed all rs items seen t ks ls e u r h k s n f =
    let none : StayKept (around_of old).max (names_of old) (bound_names all) ks [] = λ cs g. subst (λ (ms : List (Option Step)). AreKept (around_of old).max (inside cs (names_of old)) ms []) (sym e) tt in
    let found : ranges_as items ≡ ranges (around_of old).max (names_of old) all 0 (unranged all) t = r ∙ ap (λ (ws : List Ranged). ranges (around_of old).max (names_of old) all 0 ws t) u in
    let grown : Grows (bound_names all) (as_bound (ranges_as items)) = subst (λ (ws : List Ranged). Grows (bound_names all) (as_bound ws)) (sym found) (names-grow (around_of old).max t (names_of old) all) in
    let served : AreKept (around_of old).max (inside (as_bound (ranges_as items)) (names_of old)) ls (conjuncts t) = f [] none (as_bound (ranges_as items)) grown in
    let names : names_of pushed ≡ inside (as_bound (ranges_as items)) (names_of old) = n ∙ (λ i. inside (as_bound (ranges_as (k i))) (names-stand old mid h i)) in
    let scope : around_of pushed ≡ around_of old = s ∙ h.scope in
    subst (λ (us : List RawTree). AreKept (around_of pushed).max (names_of pushed) ls us) (sym (append-nil (conjuncts t)))
    (subst (λ (P : Type 0). P) (λ i. AreKept (sym scope i).max (sym names i) ls (conjuncts t)) served)

-- ---- what is left
pub rest-both-kept : {A E : Type 0} (r : Result A E) (old mid : Reader) (bs : List Ranged) (i j : ℕ) (one two three : Option Step) (t a b : RawTree) (ks ls : List (Option Step)) → and_sides t ≡ Some (a, b) → j ≡ i + length (conjuncts a) →
    ((ts : List RawTree) → AreKept (around_of old).max (names_of old) ks (conjuncts a ++ ts) → (before : Option Reading) → IsRest one before → IsRest two (rest (around_of old).max (names_of old) bs i before a)) →
    ((ts : List RawTree) → AreKept (around_of old).max (names_of old) ks (conjuncts a ++ ts) → AreKept (around_of old).max (names_of old) ls ts) → Stands old mid →
    OnOk r ((ts : List RawTree) → AreKept (around_of mid).max (names_of mid) ls (conjuncts b ++ ts) → (before : Option Reading) → IsRest two before → IsRest three (rest (around_of mid).max (names_of mid) bs j before b)) →
    OnOk r ((ts : List RawTree) → AreKept (around_of old).max (names_of old) ks (conjuncts t ++ ts) → (before : Option Reading) → IsRest one before → IsRest three (rest (around_of old).max (names_of old) bs i before t))
rest-both-kept (Err x) old mid bs i j one two three t a b ks ls k e f q h g = tt
rest-both-kept (Ok x) old mid bs i j one two three t a b ks ls k e f q h g = λ ts kept.
    let split = kept-split old t a b ks ts k kept in
    let later : AreKept (around_of mid).max (names_of mid) ls (conjuncts b ++ ts) = subst (λ (P : Type 0). P) (sym (kept-stand old mid ls (conjuncts b ++ ts) h)) (q (conjuncts b ++ ts) split) in
    rest-two old mid bs i j one two three t a b k e (f (conjuncts b ++ ts) split) h (g ts later)

pub left-both-kept : {A E : Type 0} (r : Result A E) (old mid : Reader) (t a b : RawTree) (ks ls ms : List (Option Step)) → and_sides t ≡ Some (a, b) → Stands old mid →
    ((ts : List RawTree) → AreKept (around_of old).max (names_of old) ks (conjuncts a ++ ts) → AreKept (around_of old).max (names_of old) ls ts) →
    OnOk r ((ts : List RawTree) → AreKept (around_of mid).max (names_of mid) ls (conjuncts b ++ ts) → AreKept (around_of mid).max (names_of mid) ms ts) →
    OnOk r ((ts : List RawTree) → AreKept (around_of old).max (names_of old) ks (conjuncts t ++ ts) → AreKept (around_of old).max (names_of old) ms ts)
left-both-kept (Err x) old mid t a b ks ls ms k h g e = tt
left-both-kept (Ok x) old mid t a b ks ls ms k h g e = both-kept old mid t a b ks ls ms k h g e

pub rest-idle : (r : Reader) (bs : List Ranged) (i : ℕ) (one : Option Step) (t : RawTree) (ks : List (Option Step)) → and_sides t ≡ None → is_used i bs ≡ true →
    (ts : List RawTree) → AreKept (around_of r).max (names_of r) ks (conjuncts t ++ ts) → (before : Option Reading) → IsRest one before → IsRest one (rest (around_of r).max (names_of r) bs i before t)
rest-idle r bs i one t ks k e ts kept = rest-used r bs i one t k e

pub rest-added : (r : Reader) (bs : List Ranged) (i : ℕ) (one side : Option Step) (read placed more : Step) (t : RawTree) (ks : List (Option Step)) → and_sides t ≡ None → is_used i bs ≡ false →
    ((m : ℤ) (names : Names) (u : RawTree) (ts : List RawTree) → AreKept m names ks (u ∷ ts) → IsKept m names side u) →
    (IsKept (around_of r).max (names_of r) side t → IsRead read (read_by r t)) → ((q : Reading) → IsRead read q → IsRead placed (part true t q)) →
    ((o : Option Reading) (q : Reading) → IsRest one o → IsRead placed q → IsRest (Some more) (with_conjunct o q)) →
    (ts : List RawTree) → AreKept (around_of r).max (names_of r) ks (conjuncts t ++ ts) → (before : Option Reading) → IsRest one before → IsRest (Some more) (rest (around_of r).max (names_of r) bs i before t)
rest-added r bs i one side read placed more t ks k e f g p w ts kept =
    rest-more r bs i one read placed more t k e (g (f (around_of r).max (names_of r) t ts (kept-alone r t ks ts k kept))) p w

pub left-alone : (r : Reader) (t : RawTree) (ks ls : List (Option Step)) → and_sides t ≡ None → ((m : ℤ) (names : Names) (u : RawTree) (ts : List RawTree) → AreKept m names ks (u ∷ ts) → AreKept m names ls ts) →
    (ts : List RawTree) → AreKept (around_of r).max (names_of r) ks (conjuncts t ++ ts) → AreKept (around_of r).max (names_of r) ls ts
left-alone r t ks ls k f ts h = f (around_of r).max (names_of r) t ts (kept-alone r t ks ts k h)

pub ruleset typing = (none-stays, clue-untold, clue-stays)

pub ruleset conjunctions = (side-joined, one-read, one-left)

pub ruleset remaining = (rest-idle, left-alone, count-one)
