-- Where a formula is told, each name free in it is in sight with a type.
use Rattle.std.proofs.Common.{◌≡◌, ℕ, suc, ◌+◌, ◌≤◌, List, [], ◌∷◌, ◌++◌, length, refl, sym, ◌∙◌, subst, inl, inr, Bool, true, false, cond, not, ◌&&◌, ◌||◌, arith, ℤ}
use Rattle.std.specs.Prelude.{Option, None, Some, ◌⊎◌}
use Rattle.std.specs.Str.{bytes_eq}
use Rattle.std.proofs.lemmas.Slice.Eq.{bytes_eq-Decides}
use Rattle.bk_val.specs.ValueType.{ValueType, int_type, pair_type, set_type}
use Rattle.bk_form.specs.Formula.{Formula, for_all, for_some, comprehension, lambda}
use Rattle.bk_form.specs.Role.{tuple_type}
use Rattle.bk_form.specs.declared.operator.BinOp.TheVariants.{And as Conjunction}
use Rattle.bk_raw.specs.declared.operator.InfixOp.{InfixOp}
use Rattle.bk_raw.specs.declared.operator.InfixOp.TheVariants.{And, Equal, Member}
use Rattle.bk_raw.specs.declared.term.RawName.{RawName}
use Rattle.bk_raw.specs.declared.term.RawBound.{RawBound}
use Rattle.bk_raw.specs.Trees.RawTree.{RawTree, raw, RawTreeNode, raw_name, raw_level_name, raw_bound_name, raw_number, raw_constant, raw_word, raw_negative, raw_infix, raw_inverse, raw_image, raw_apply, raw_composition, raw_pair, raw_empty_set, raw_extension, raw_comprehension, raw_lambda, raw_for_all, raw_exists, raw_typed_empty, raw_typed_for_all, raw_typed_exists, raw_ranged_comprehension, raw_ranged_lambda, RawTrees, no_trees, tree_and, RawRanges, no_ranges, range_and}
use Rattle.bk_raw.specs.Trees.FreeNames.{is_among, stands_free, is_free_in, is_free_in_some, is_free_in_ranges, conjuncts}
use Rattle.bk_raw.specs.Meaning.Names.{Names, Meaning, local, global, set_name, element_name, nothing, Sight, unseen, untyped_name, seen, sight, behind, found, count_locals}
use Rattle.bk_raw.specs.Meaning.Outcome.{whole, Outcome, partial, holding, Reading, silently, ask, ask_value, ask_set, ask_relation}
use Rattle.bk_raw.specs.Meaning.OperatorReadings.{infix_reading, single_reading, extended}
use Rattle.bk_raw.specs.Meaning.Binders.{Bound, bound_names, inside, types_of, has_type, all_typed, twice, where_typed, if_holding, if_giving, quantified, Ranged, unranged, ranged_as, ranged_by, as_single, ranges_by, as_bound, range_type, is_used, is_some_name, left_over, is_and, body_of, comprehended, abstracted, ranges_of}
use Rattle.bk_raw.specs.Meaning.Printed.{wrong_bounds, printed_bounds, RangeRead, with_place, printed_ranges, wrong_ranges}
use Rattle.bk_raw.specs.Meaning.TermReading.{place_of, is_predicate, is_alike, part, name_of, name_reading, names_one, takes_predicate, is_connective, strict_faults, from_one, from_two, reading, node_reading, extension_reading, elements_reading, range_reads, clues, premise_clues, ranges, rest, rest_in}
use Rattle.bk_raw.specs.Meaning.Speaking.{IsTold}
use Rattle.bk_raw.proofs.Filled.{and-both}
use Rattle.bk_raw.specs.Meaning.ToldNames.{IsSeen, ToldNamesAreSeen}
use Rattle.bk_raw.proofs.BoundNames.{no-name, or-cases, or-neither, or-none, or-left, or-right, is_bound, names-bound, unranged-bound, clues-bound, premise-bound, ranges-bound}
use Rattle.bk_raw.proofs.FormRight.{used-as, same-number}
use Rattle.bk_raw.proofs.ReadingClean.{IsAnswer, one-clean, ask-fair, ask_set-fair, ask_value-fair, ask_relation-fair, word-clean, infix-clean, image-clean, apply-clean, composition-clean, pair-clean, single-clean, extended-clean, connected-clean, clean-told, where-told, holding-told, holding-then, giving-told}
use Rattle.bk_raw.specs.Errors.Faults.{Fault, not_predicate}

-- each name free in the term is found so; printed bound variables have the empty text for a name, by which nothing is written
abbrev pub AllSeen : Names → RawTree → Type 0
AllSeen names t = (x : List ℕ) → bytes_eq [] x ≡ false → stands_free x t ≡ true → IsSeen (found 0 names x)

or-first : {a : Bool} → a ≡ true → (a || false) ≡ true
or-first h = rw h refl

not-and : (a b : Bool) → (not a && b) ≡ true → (a ≡ false) × (b ≡ true)
not-and true b h = absurd (cc)
not-and false b h = (refl, h)

-- ---- what is found, from whatever number
sight-from : (m : Meaning) (i j : ℕ) → IsSeen (sight i m) → IsSeen (sight j m)
sight-from (local None) i j h = absurd h
sight-from (local (Some t)) i j h = tt
sight-from (global n None) i j h = absurd h
sight-from (global n (Some t)) i j h = tt
sight-from (set_name s) i j h = tt
sight-from (element_name s e) i j h = tt
sight-from nothing i j h = absurd h

cond-from : (c : Bool) (s t u v : Sight) → (IsSeen s → IsSeen u) → (IsSeen t → IsSeen v) → IsSeen (cond c s t) → IsSeen (cond c u v)
cond-from true s t u v f g h = f h
cond-from false s t u v f g h = g h

found-from : (ns : Names) (x : List ℕ) (i j : ℕ) → IsSeen (found i ns x) → IsSeen (found j ns x)
found-from [] x i j h = absurd h
found-from (n ∷ ns) x i j h = cond-from (bytes_eq n.text x) (sight i n.meaning) (found (behind i n.meaning) ns x) (sight j n.meaning) (found (behind j n.meaning) ns x) (sight-from n.meaning i j) (found-from ns x (behind i n.meaning) (behind j n.meaning)) h

-- ---- binders
-- inside a binder that doesn't bind the name it is found as outside
found-outside : (bs : List Bound) (names : Names) (x : List ℕ) → is_bound x bs ≡ false → IsSeen (found 0 (inside bs names) x) → IsSeen (found 0 names x)
found-outside [] names x e h = h
found-outside (b ∷ bs) names x e h =
    let k = or-neither (bytes_eq b.text x) (is_bound x bs) e in
    let r : IsSeen (found 0 (record { text = b.text; meaning = local b.of_type } ∷ names) x) = found-outside bs (record { text = b.text; meaning = local b.of_type } ∷ names) x k.1 h in
    found-from names x 1 0 (subst (λ c. IsSeen (cond c (sight 0 (local b.of_type)) (found 1 names x))) k.0 r)

printed-bound : (ws : List RawBound) (names : Names) (x : List ℕ) → bytes_eq [] x ≡ false → is_bound x (printed_bounds names ws) ≡ false
printed-bound [] names x n = refl
printed-bound (w ∷ ws) names x n = or-none (bytes_eq [] x) (is_bound x (printed_bounds names ws)) n (printed-bound ws names x n)

ranges-unbound : (rs : List RangeRead) (x : List ℕ) → bytes_eq [] x ≡ false → is_bound x (as_bound (printed_ranges rs)) ≡ false
ranges-unbound [] x n = refl
ranges-unbound (r ∷ rs) x n = or-none (bytes_eq [] x) (is_bound x (as_bound (printed_ranges rs))) n (ranges-unbound rs x n)

-- ---- what is told was made of what is told
part-told : (wanted : Bool) (t : RawTree) (r : Reading) → IsTold (part wanted t r).outcome → IsTold r.outcome
part-told wanted t r h = chosen (is_alike wanted (is_predicate t)) h
  where
    chosen : (c : Bool) → IsTold (cond c r (silently (not_predicate (place_of t) ∷ r.faults))).outcome → IsTold r.outcome
    chosen true k = k
    chosen false k = absurd k

name-told : (at : ℕ) (s : Sight) → IsTold (name_reading at s).outcome → IsSeen s
name-told at unseen h = absurd h
name-told at untyped_name h = absurd h
name-told at (seen f t) h = tt

quantified-told : (k : List ValueType → Formula → Formula) (fs : List Fault) (bs : List Bound) (body : Reading) → IsTold (quantified k fs bs body).outcome → IsTold body.outcome
quantified-told k fs bs body h =
    let a = clean-told fs (where_typed (all_typed bs) (if_holding (λ p. holding (k (types_of bs) p)) body.outcome)) h in
    let b = where-told (all_typed bs) (if_holding (λ p. holding (k (types_of bs) p)) body.outcome) a.1 in
    holding-told (λ p. holding (k (types_of bs) p)) body.outcome b.1

comprehended-told : (at : ℕ) (fs : List Fault) (rs : List Ranged) (body : Reading) → IsTold (comprehended at fs rs body).outcome → IsTold body.outcome
comprehended-told at fs rs body h =
    let made : Formula → Outcome = λ p. partial (whole (comprehension (ranges_of rs) p) (set_type (tuple_type (types_of (as_bound rs))))) in
    let a = clean-told fs (where_typed (is_some_name rs && all_typed (as_bound rs)) (if_holding made body.outcome)) h in
    let b = where-told (is_some_name rs && all_typed (as_bound rs)) (if_holding made body.outcome) a.1 in
    holding-told made body.outcome b.1

abstracted-told : (at : ℕ) (fs : List Fault) (rs : List Ranged) (body : Reading) (there : ℕ) (image : Reading) → IsTold (abstracted at fs rs body there image).outcome → IsTold body.outcome × IsTold image.outcome
abstracted-told at fs rs body there image h =
    let made : Formula → Formula → ValueType → Outcome = λ p q u. partial (whole (lambda (ranges_of rs) p q) (set_type (pair_type (tuple_type (types_of (as_bound rs))) u))) in
    let a = clean-told fs (where_typed (is_some_name rs && all_typed (as_bound rs)) (if_holding (λ p. if_giving (made p) (ask_value there image.outcome).answer) body.outcome)) h in
    let b = where-told (is_some_name rs && all_typed (as_bound rs)) (if_holding (λ p. if_giving (made p) (ask_value there image.outcome).answer) body.outcome) a.1 in
    let d = holding-then (λ p. if_giving (made p) (ask_value there image.outcome).answer) (IsAnswer (ask_value there image.outcome).answer) body.outcome (λ p k. giving-told (made p) (ask_value there image.outcome).answer k) b.1 in
    (d.0, (ask_value-fair there image.outcome d.1).1)

-- each name has a range, and the body is told
comprehended-all : (at : ℕ) (fs : List Fault) (rs : List Ranged) (body : Reading) → IsTold (comprehended at fs rs body).outcome → (all_typed (as_bound rs) ≡ true) × IsTold body.outcome
comprehended-all at fs rs body h =
    let made : Formula → Outcome = λ p. partial (whole (comprehension (ranges_of rs) p) (set_type (tuple_type (types_of (as_bound rs))))) in
    let a = clean-told fs (where_typed (is_some_name rs && all_typed (as_bound rs)) (if_holding made body.outcome)) h in
    let b = where-told (is_some_name rs && all_typed (as_bound rs)) (if_holding made body.outcome) a.1 in
    ((and-both (is_some_name rs) (all_typed (as_bound rs)) b.0).1, holding-told made body.outcome b.1)

abstracted-all : (at : ℕ) (fs : List Fault) (rs : List Ranged) (body : Reading) (there : ℕ) (image : Reading) → IsTold (abstracted at fs rs body there image).outcome → (all_typed (as_bound rs) ≡ true) × (IsTold body.outcome × IsTold image.outcome)
abstracted-all at fs rs body there image h =
    let made : Formula → Formula → ValueType → Outcome = λ p q u. partial (whole (lambda (ranges_of rs) p q) (set_type (pair_type (tuple_type (types_of (as_bound rs))) u))) in
    let a = clean-told fs (where_typed (is_some_name rs && all_typed (as_bound rs)) (if_holding (λ p. if_giving (made p) (ask_value there image.outcome).answer) body.outcome)) h in
    let b = where-told (is_some_name rs && all_typed (as_bound rs)) (if_holding (λ p. if_giving (made p) (ask_value there image.outcome).answer) body.outcome) a.1 in
    ((and-both (is_some_name rs) (all_typed (as_bound rs)) b.0).1, abstracted-told at fs rs body there image h)

placed-answer : (i : ℕ) (o : Option (Formula × ValueType)) → has_type (range_type (with_place i o)) ≡ true → IsAnswer o
placed-answer i None h = no-name h
placed-answer i (Some d) h = tt

-- ---- conjuncts by their numbers
abbrev and_node : RawTreeNode → Bool
and_node (raw_infix o a b) = is_and o
and_node _ = false

single : (node : RawTreeNode) (at : ℕ) → and_node node ≡ false → conjuncts (raw at node) ≡ raw at node ∷ []
single (raw_infix And a b) at h = absurd (cc)
single _ at h = refl

joined_and : (o : InfixOp) (at : ℕ) (a b : RawTree) → is_and o ≡ true → conjuncts (raw at (raw_infix o a b)) ≡ conjuncts a ++ conjuncts b
joined_and And at a b h = refl
joined_and _ at a b h = absurd (cc)

abbrev free_in_one : List ℕ → List RawTree → Bool
free_in_one x [] = false
free_in_one x (t ∷ ts) = stands_free x t || free_in_one x ts

free-left : (ts us : List RawTree) (x : List ℕ) → free_in_one x ts ≡ true → free_in_one x (ts ++ us) ≡ true
free-left [] us x h = no-name h
free-left (t ∷ ts) us x h = elim (or-cases (stands_free x t) (free_in_one x ts) h) [ inl k ↦ or-left (stands_free x t) (free_in_one x (ts ++ us)) k | inr k ↦ or-right (stands_free x t) (free_in_one x (ts ++ us)) (free-left ts us x k) ]

free-right : (ts us : List RawTree) (x : List ℕ) → free_in_one x us ≡ true → free_in_one x (ts ++ us) ≡ true
free-right [] us x h = h
free-right (t ∷ ts) us x h = or-right (stands_free x t) (free_in_one x (ts ++ us)) (free-right ts us x h)

-- a name free in a term is free in one of its conjuncts
conjunct-free : (t : RawTree) (x : List ℕ) → stands_free x t ≡ true → free_in_one x (conjuncts t) ≡ true
conjunct-free (raw at (raw_infix And a b)) x h = elim (or-cases (stands_free x a) (stands_free x b) h) [ inl k ↦ free-left (conjuncts a) (conjuncts b) x (conjunct-free a x k) | inr k ↦ free-right (conjuncts a) (conjuncts b) x (conjunct-free b x k) ]
conjunct-free _ x h = or-first h

-- each name free in the term that is none of these is found outside
abbrev Good : Names → List RawName → RawTree → Type 0
Good names all t = (x : List ℕ) → bytes_eq [] x ≡ false → is_among x all ≡ false → stands_free x t ≡ true → IsSeen (found 0 names x)

-- the term with the number k is so, where the first has the number i
abbrev GoodAt : Names → List RawName → ℕ → ℕ → List RawTree → Type 0
GoodAt names all k i [] = ⊥
GoodAt names all k i (t ∷ ts) = ((k ≡ i) × Good names all t) ⊎ GoodAt names all k (suc i) ts

good-left : (names : Names) (all : List RawName) (k i : ℕ) (ts us : List RawTree) → GoodAt names all k i ts → GoodAt names all k i (ts ++ us)
good-left names all k i [] us h = absurd h
good-left names all k i (t ∷ ts) us h = elim h [ inl g ↦ inl g | inr g ↦ inr (good-left names all k (suc i) ts us g) ]

good-right : (names : Names) (all : List RawName) (k i : ℕ) (ts us : List RawTree) → GoodAt names all k (i + length ts) us → GoodAt names all k i (ts ++ us)
good-right names all k i [] us h = let e : i + 0 ≡ i = omega arith in subst (λ j. GoodAt names all k j us) e h
good-right names all k i (t ∷ ts) us h = let e : i + length (t ∷ ts) ≡ suc i + length ts = omega arith in inr (good-right names all k (suc i) ts us (subst (λ j. GoodAt names all k j us) e h))

good-least : (names : Names) (all : List RawName) (k i : ℕ) (ts : List RawTree) → GoodAt names all k i ts → i ≤ k
good-least names all k i [] h = absurd h
good-least names all k i (t ∷ ts) h = elim h [ inl g ↦ least k i g.0 | inr g ↦ less k i (good-least names all k (suc i) ts g) ]
  where
    least : (k i : ℕ) → k ≡ i → i ≤ k
    least k i e = omega (arith, e)

    less : (k i : ℕ) → suc i ≤ k → i ≤ k
    less k i e = omega (arith, e)

-- each of the terms is used, or its names are found inside
abbrev AllLeft : Names → List Ranged → ℕ → List RawTree → Type 0
AllLeft names rs i [] = Unit {0}
AllLeft names rs i (t ∷ ts) = ((is_used i rs ≡ true) ⊎ AllSeen names t) × AllLeft names rs (suc i) ts

left-append : (names : Names) (rs : List Ranged) (i : ℕ) (ts us : List RawTree) → AllLeft names rs i ts → AllLeft names rs (i + length ts) us → AllLeft names rs i (ts ++ us)
left-append names rs i [] us h k = let e : i + 0 ≡ i = omega arith in subst (λ j. AllLeft names rs j us) e k
left-append names rs i (t ∷ ts) us h k = let e : i + length (t ∷ ts) ≡ suc i + length ts = omega arith in (h.0, left-append names rs (suc i) ts us h.1 (subst (λ j. AllLeft names rs j us) e k))

-- so a name free in one of them is found outside, where each used one is good
pick-seen : (names inner : Names) (all : List RawName) (rs : List Ranged) (i : ℕ) (ts : List RawTree) (x : List ℕ) → ((k : ℕ) → i ≤ k → is_used k rs ≡ true → GoodAt names all k i ts) → AllLeft inner rs i ts → (IsSeen (found 0 inner x) → IsSeen (found 0 names x)) → bytes_eq [] x ≡ false → is_among x all ≡ false → free_in_one x ts ≡ true → IsSeen (found 0 names x)
pick-seen names inner all rs i [] x good left out n m e = no-name e
pick-seen names inner all rs i (t ∷ ts) x good left out n m e =
    elim (or-cases (stands_free x t) (free_in_one x ts) e) [
      | inl k ↦ elim left.0 [ inl u ↦ here u k | inr s ↦ out (s x n k) ]
      | inr k ↦ pick-seen names inner all rs (suc i) ts x (λ j h u. later j h (good j (below i j h) u)) left.1 out n m k
    ]
  where
    below : (i j : ℕ) → suc i ≤ j → i ≤ j
    below i j h = omega (arith, h)

    same : (i : ℕ) → i ≤ i
    same i = omega arith

    never : {A : Type 0} (i : ℕ) → suc i ≤ i → A
    never i h = absurd (omega (arith, h))

    apart : {A : Type 0} (i j : ℕ) → suc i ≤ j → j ≡ i → A
    apart i j h f = absurd (omega (arith, h, f))

    here : is_used i rs ≡ true → stands_free x t ≡ true → IsSeen (found 0 names x)
    here u k = elim (good i (same i) u) [ inl g ↦ g.1 x n m k | inr g ↦ never i (good-least names all i (suc i) ts g) ]

    later : (j : ℕ) → suc i ≤ j → GoodAt names all j i (t ∷ ts) → GoodAt names all j (suc i) ts
    later j h g = elim g [ inl f ↦ apart i j h f.0 | inr f ↦ f ]

-- ---- which conjunct gave a range
ranged_as-used : (text : List ℕ) (r : Formula × ValueType × ℕ) (rs : List Ranged) (k : ℕ) → is_used k (ranged_as text r rs) ≡ true → (is_used k rs ≡ true) ⊎ ((k ≡ r.2) × (is_bound text (as_bound rs) ≡ true))
ranged_as-used text r rs k h = elim (used-as text r rs k h) [ inl u ↦ inl u | inr u ↦ inr (sym (same-number r.2 k u.0), u.1) ]

ranged_by-used : (text : List ℕ) (d : Option (Formula × ValueType)) (i : ℕ) (rs : List Ranged) (k : ℕ) → is_used k (ranged_by text d i rs) ≡ true → (is_used k rs ≡ true) ⊎ ((k ≡ i) × ((is_bound text (as_bound rs) ≡ true) × IsAnswer d))
ranged_by-used text None i rs k h = inl h
ranged_by-used text (Some d) i rs k h = elim (ranged_as-used text (d.0, d.1, i) rs k h) [ inl u ↦ inl u | inr u ↦ inr (u.0, (u.1, tt)) ]

as_single-answer : (d : Option (Formula × ValueType)) → IsAnswer (as_single d) → IsAnswer d
as_single-answer None h = absurd h
as_single-answer (Some d) h = tt

-- what is used is used by both sides of `&`, was used before, or is this conjunct: a bound name with what is told
abbrev IsRange : Option (List ℕ) → List Ranged → Outcome → Type 0
IsRange None rs d = ⊥
IsRange (Some y) rs d = (is_bound y (as_bound rs) ≡ true) × IsTold d

ranges_by-used : (o : InfixOp) (i : ℕ) (rs : List Ranged) (y : Option (List ℕ)) (both : List Ranged) (c : Bool) (d : Outcome) (k : ℕ) → is_used k (ranges_by o i rs y both c d) ≡ true → ((is_and o ≡ true) × (is_used k both ≡ true)) ⊎ ((is_used k rs ≡ true) ⊎ ((is_and o ≡ false) × ((k ≡ i) × IsRange y rs d)))
ranges_by-used And i rs y both true d k h = inl (refl, h)
ranges_by-used And i rs y both false d k h = inl (refl, h)
ranges_by-used Member i rs (Some y) both false d k h = elim (ranged_by-used y (ask_set 0 d).answer i rs k h) [ inl u ↦ inr (inl u) | inr u ↦ inr (inr (refl, (u.0, (u.1.0, (ask_set-fair 0 d u.1.1).1)))) ]
ranges_by-used Equal i rs (Some y) both false d k h = elim (ranged_by-used y (as_single (ask_value 0 d).answer) i rs k h) [ inl u ↦ inr (inl u) | inr u ↦ inr (inr (refl, (u.0, (u.1.0, (ask_value-fair 0 d (as_single-answer (ask_value 0 d).answer u.1.1)).1)))) ]
ranges_by-used _ i rs y both c d k h = inr (inl h)

unranged-used : (xs : List RawName) (k : ℕ) → is_used k (unranged xs) ≡ false
unranged-used [] k = refl
unranged-used (x ∷ xs) k = unranged-used xs k

abbrev BeforeTold : Option Reading → Type 0
BeforeTold None = Unit {0}
BeforeTold (Some r) = IsTold r.outcome

left-told : (c : Bool) (before : Option Reading) (r : Reading) → BeforeTold (left_over c before r) → BeforeTold before × ((c ≡ true) ⊎ IsTold r.outcome)
left-told true before r h = (h, inl refl)
left-told false None r h = (tt, inr h)
left-told false (Some s) r h = let m = connected-clean Conjunction s.outcome r.outcome h in (m.1.0, inr m.1.1)

body-told : (before : Option Reading) → IsTold (body_of before).outcome → BeforeTold before
body-told None h = tt
body-told (Some r) h = h

-- ---- readings
module _ (int_max : ℤ) where
  -- a name that is one of the bound names is not free but for them
  named : (a : RawTree) (y x : List ℕ) → name_of a ≡ Some y → stands_free x a ≡ true → bytes_eq y x ≡ true
  named (raw at (raw_name z)) y x e h = subst (λ w. bytes_eq w x ≡ true) (some-inj z y e) h
    where
      some-inj : (u v : List ℕ) → Some u ≡ Some v → u ≡ v
      some-inj u v f = cc
  named (raw at _) y x e h = absurd (cc)

  part-by : (wanted : Bool) (t : RawTree) (names : Names) → (IsTold (reading int_max names t).outcome → AllSeen names t) → IsTold (part wanted t (reading int_max names t)).outcome → AllSeen names t
  part-by wanted t names known h = known (part-told wanted t (reading int_max names t) h)

  two-by : (a b : RawTree) (names : Names) (v w : Bool) → (IsTold (reading int_max names a).outcome → AllSeen names a) → (IsTold (reading int_max names b).outcome → AllSeen names b) → IsTold (part v a (reading int_max names a)).outcome → IsTold (part w b (reading int_max names b)).outcome → (x : List ℕ) → bytes_eq [] x ≡ false → (stands_free x a || stands_free x b) ≡ true → IsSeen (found 0 names x)
  two-by a b names v w f g h k x n e = elim (or-cases (stands_free x a) (stands_free x b) e) [ inl m ↦ part-by v a names f h x n m | inr m ↦ part-by w b names g k x n m ]

  -- `y : D` with a bound y and D told: what is free in it is y, or is found
  range-good : (o : InfixOp) (at : ℕ) (a d : RawTree) (names : Names) (all : List RawName) (rs : List Ranged) → (IsTold (reading int_max names d).outcome → AllSeen names d) → ((x : List ℕ) → is_bound x (as_bound rs) ≡ is_among x all) → (y : Option (List ℕ)) → name_of a ≡ y → IsRange y rs (part false d (reading int_max names d)).outcome → Good names all (raw at (raw_infix o a d))
  range-good o at a d names all rs known b None e g = absurd g
  range-good o at a d names all rs known b (Some y) e g = λ x n m f. elim (or-cases (stands_free x a) (stands_free x d) f) [
    | inl k ↦ no-name (sym m ∙ sym (b x) ∙ subst (λ z. is_bound z (as_bound rs) ≡ true) ((bytes_eq-Decides y x).0 (named a y x e k)) g.0)
    | inr k ↦ part-by false d names known g.1 x n k
  ]

  predicate-by : (p : RawTree) (names : Names) (xs : List RawName) → AllLeft (inside (as_bound (ranges int_max names xs 0 (unranged xs) p)) names) (ranges int_max names xs 0 (unranged xs) p) 0 (conjuncts p) → ((k : ℕ) → is_used k (ranges int_max names xs 0 (unranged xs) p) ≡ true → (is_used k (unranged xs) ≡ true) ⊎ GoodAt names xs k 0 (conjuncts p)) → (x : List ℕ) → bytes_eq [] x ≡ false → is_among x xs ≡ false → stands_free x p ≡ true → IsSeen (found 0 names x)
  predicate-by p names xs left used x n m e =
      let rs = ranges int_max names xs 0 (unranged xs) p in
      let inner = inside (as_bound rs) names in
      pick-seen names inner xs rs 0 (conjuncts p) x
      (λ k l u. elim (used k u) [ inl f ↦ no-name (sym (unranged-used xs k) ∙ f) | inr g ↦ g ])
      left (found-outside (as_bound rs) names x (ranges-bound int_max p names xs 0 (unranged xs) x ∙ unranged-bound xs x ∙ m)) n m (conjunct-free p x e)

  single-by : (node : RawTreeNode) (at : ℕ) (names : Names) (rs : List Ranged) (i : ℕ) (before : Option Reading) (r : Reading) → (IsTold r.outcome → AllSeen names (raw at node)) → and_node node ≡ false → BeforeTold (left_over (is_used i rs) before r) → BeforeTold before × AllLeft names rs i (conjuncts (raw at node))
  single-by node at names rs i before r known e h =
      let m = left-told (is_used i rs) before r h in
      (m.0, subst (AllLeft names rs i) (sym (single node at e)) (elim m.1 [ inl u ↦ inl u | inr u ↦ inr (λ x n f. known u x n f) ], tt))

  mutual
    pub reading-seen : (t : RawTree) (names : Names) → IsTold (reading int_max names t).outcome → AllSeen names t
    reading-seen (raw at node) names h x n e = node-seen node at names h x n e

    node-seen : (node : RawTreeNode) (at : ℕ) (names : Names) → IsTold (node_reading int_max names at node).outcome → (x : List ℕ) → bytes_eq [] x ≡ false → is_free_in x node ≡ true → IsSeen (found 0 names x)
    node-seen (raw_name y) at names h x n e = subst (λ z. IsSeen (found 0 names z)) ((bytes_eq-Decides y x).0 e) (name-told at (found 0 names y) h)
    node-seen (raw_level_name y l) at names h x n e = no-name e
    node-seen (raw_bound_name k) at names h x n e = no-name e
    node-seen (raw_number z) at names h x n e = no-name e
    node-seen (raw_constant c) at names h x n e = no-name e
    node-seen (raw_word o a) at names h x n e = part-by (takes_predicate o) a names (reading-seen a names) (word-clean o at (place_of a) (part (takes_predicate o) a (reading int_max names a)).outcome h).1 x n e
    node-seen (raw_negative a) at names h x n e = part-by false a names (reading-seen a names) (one-clean _ (ask (place_of a) (part false a (reading int_max names a)).outcome int_type) (part false a (reading int_max names a)).outcome (ask-fair (place_of a) (part false a (reading int_max names a)).outcome int_type) h).1 x n e
    node-seen (raw_infix o a b) at names h x n e =
        let c = clean-told (strict_faults o a b) (infix_reading o at (place_of a) (place_of b) (part (is_connective o) a (reading int_max names a)).outcome (part (is_connective o) b (reading int_max names b)).outcome).outcome h in
        let m = infix-clean o at (place_of a) (place_of b) (part (is_connective o) a (reading int_max names a)).outcome (part (is_connective o) b (reading int_max names b)).outcome c.1 in
        two-by a b names (is_connective o) (is_connective o) (reading-seen a names) (reading-seen b names) m.1.0 m.1.1 x n e
    node-seen (raw_inverse a) at names h x n e = part-by false a names (reading-seen a names) (one-clean _ (ask_relation (place_of a) (part false a (reading int_max names a)).outcome) (part false a (reading int_max names a)).outcome (ask_relation-fair (place_of a) (part false a (reading int_max names a)).outcome) h).1 x n e
    node-seen (raw_image a b) at names h x n e = let m = image-clean (place_of a) (place_of b) (part false a (reading int_max names a)).outcome (part false b (reading int_max names b)).outcome h in two-by a b names false false (reading-seen a names) (reading-seen b names) m.1.0 m.1.1 x n e
    node-seen (raw_apply a b) at names h x n e = let m = apply-clean (place_of a) (place_of b) (part false a (reading int_max names a)).outcome (part false b (reading int_max names b)).outcome h in two-by a b names false false (reading-seen a names) (reading-seen b names) m.1.0 m.1.1 x n e
    node-seen (raw_composition a b) at names h x n e = let m = composition-clean at (place_of a) (place_of b) (part false a (reading int_max names a)).outcome (part false b (reading int_max names b)).outcome h in two-by a b names false false (reading-seen a names) (reading-seen b names) m.1.0 m.1.1 x n e
    node-seen (raw_pair a b) at names h x n e = let m = pair-clean (part false a (reading int_max names a)).outcome (part false b (reading int_max names b)).outcome h in two-by a b names false false (reading-seen a names) (reading-seen b names) m.1.0 m.1.1 x n e
    node-seen raw_empty_set at names h x n e = no-name e
    node-seen (raw_extension ts) at names h x n e = extension-seen ts at names h x n e
    node-seen (raw_for_all xs p) at names h x n e =
        let bs = premise_clues int_max names (bound_names xs) p in
        let k = not-and (is_among x xs) (stands_free x p) e in
        let m = quantified-told for_all (twice [] xs) bs (part true p (reading int_max (inside bs names) p)) h in
        found-outside bs names x (premise-bound int_max p names (bound_names xs) x ∙ names-bound xs x ∙ k.0) (part-by true p (inside bs names) (reading-seen p (inside bs names)) m x n k.1)
    node-seen (raw_exists xs p) at names h x n e =
        let bs = clues int_max names (bound_names xs) p in
        let k = not-and (is_among x xs) (stands_free x p) e in
        let m = quantified-told for_some (twice [] xs) bs (part true p (reading int_max (inside bs names) p)) h in
        found-outside bs names x (clues-bound int_max p names (bound_names xs) x ∙ names-bound xs x ∙ k.0) (part-by true p (inside bs names) (reading-seen p (inside bs names)) m x n k.1)
    node-seen (raw_comprehension xs p) at names h x n e =
        let rs = ranges int_max names xs 0 (unranged xs) p in
        let k = not-and (is_among x xs) (stands_free x p) e in
        let m = comprehended-told at (twice [] xs) rs (body_of (rest int_max (inside (as_bound rs) names) rs 0 None p)) h in
        predicate-by p names xs (rest-seen p (inside (as_bound rs) names) rs 0 None (body-told (rest int_max (inside (as_bound rs) names) rs 0 None p) m)).1 (λ j u. ranges-used p names xs 0 (unranged xs) (unranged-bound xs) j u) x n k.0 k.1
    node-seen (raw_lambda xs p v) at names h x n e =
        let rs = ranges int_max names xs 0 (unranged xs) p in
        let k = not-and (is_among x xs) (stands_free x p || stands_free x v) e in
        let m = abstracted-told at (twice [] xs) rs (body_of (rest int_max (inside (as_bound rs) names) rs 0 None p)) (place_of v) (part false v (reading int_max (inside (as_bound rs) names) v)) h in
        elim (or-cases (stands_free x p) (stands_free x v) k.1) [
          | inl f ↦ predicate-by p names xs (rest-seen p (inside (as_bound rs) names) rs 0 None (body-told (rest int_max (inside (as_bound rs) names) rs 0 None p) m.0)).1 (λ j u. ranges-used p names xs 0 (unranged xs) (unranged-bound xs) j u) x n k.0 f
          | inr f ↦ found-outside (as_bound rs) names x (ranges-bound int_max p names xs 0 (unranged xs) x ∙ unranged-bound xs x ∙ k.0) (part-by false v (inside (as_bound rs) names) (reading-seen v (inside (as_bound rs) names)) m.1 x n f)
        ]
    node-seen (raw_typed_empty t) at names h x n e = no-name e
    node-seen (raw_typed_for_all ws p) at names h x n e =
        let bs = printed_bounds names ws in
        let m = quantified-told for_all (wrong_bounds (suc (count_locals names)) ws) bs (part true p (reading int_max (inside bs names) p)) h in
        found-outside bs names x (printed-bound ws names x n) (part-by true p (inside bs names) (reading-seen p (inside bs names)) m x n e)
    node-seen (raw_typed_exists ws p) at names h x n e =
        let bs = printed_bounds names ws in
        let m = quantified-told for_some (wrong_bounds (suc (count_locals names)) ws) bs (part true p (reading int_max (inside bs names) p)) h in
        found-outside bs names x (printed-bound ws names x n) (part-by true p (inside bs names) (reading-seen p (inside bs names)) m x n e)
    node-seen (raw_ranged_comprehension ws p) at names h x n e =
        let reads = range_reads int_max names ws in
        let rs = printed_ranges reads in
        let m = comprehended-all at (wrong_ranges (suc (count_locals names)) reads) rs (part true p (reading int_max (inside (as_bound rs) names) p)) h in
        elim (or-cases (is_free_in_ranges x ws) (stands_free x p) e) [
          | inl k ↦ reads-seen ws names m.0 x n k
          | inr k ↦ found-outside (as_bound rs) names x (ranges-unbound reads x n) (part-by true p (inside (as_bound rs) names) (reading-seen p (inside (as_bound rs) names)) m.1 x n k)
        ]
    node-seen (raw_ranged_lambda ws p v) at names h x n e =
        let reads = range_reads int_max names ws in
        let rs = printed_ranges reads in
        let m = abstracted-all at (wrong_ranges (suc (count_locals names)) reads) rs (part true p (reading int_max (inside (as_bound rs) names) p)) (place_of v) (part false v (reading int_max (inside (as_bound rs) names) v)) h in
        elim (or-cases (is_free_in_ranges x ws || stands_free x p) (stands_free x v) e) [
          | inl k ↦ elim (or-cases (is_free_in_ranges x ws) (stands_free x p) k) [
            | inl l ↦ reads-seen ws names m.0 x n l
            | inr l ↦ found-outside (as_bound rs) names x (ranges-unbound reads x n) (part-by true p (inside (as_bound rs) names) (reading-seen p (inside (as_bound rs) names)) m.1.0 x n l)
          ]
          | inr k ↦ found-outside (as_bound rs) names x (ranges-unbound reads x n) (part-by false v (inside (as_bound rs) names) (reading-seen v (inside (as_bound rs) names)) m.1.1 x n k)
        ]

    -- where each printed range is a set, what is free in them is found
    reads-seen : (ws : RawRanges) (names : Names) → all_typed (as_bound (printed_ranges (range_reads int_max names ws))) ≡ true → (x : List ℕ) → bytes_eq [] x ≡ false → is_free_in_ranges x ws ≡ true → IsSeen (found 0 names x)
    reads-seen no_ranges names h x n e = no-name e
    reads-seen (range_and at i d ws) names h x n e =
        let told = (part false d (reading int_max names d)).outcome in
        let m = and-both (has_type (range_type (with_place at (ask_set (place_of d) told).answer))) (all_typed (as_bound (printed_ranges (range_reads int_max names ws)))) h in
        elim (or-cases (stands_free x d) (is_free_in_ranges x ws) e) [
          | inl k ↦ part-by false d names (reading-seen d names) (ask_set-fair (place_of d) told (placed-answer at (ask_set (place_of d) told).answer m.0)).1 x n k
          | inr k ↦ reads-seen ws names m.1 x n k
        ]

    extension-seen : (ts : RawTrees) (at : ℕ) (names : Names) → IsTold (extension_reading int_max names at ts).outcome → (x : List ℕ) → bytes_eq [] x ≡ false → is_free_in_some x ts ≡ true → IsSeen (found 0 names x)
    extension-seen no_trees at names h x n e = absurd h
    extension-seen (tree_and t ts) at names h x n e =
        let m = elements-seen ts at names (from_one single_reading (part false t (reading int_max names t))) h in
        elim (or-cases (stands_free x t) (is_free_in_some x ts) e) [ inl k ↦ part-by false t names (reading-seen t names) (single-clean (part false t (reading int_max names t)).outcome m.0).1 x n k | inr k ↦ m.1 x n k ]

    elements-seen : (ts : RawTrees) (at : ℕ) (names : Names) (before : Reading) → IsTold (elements_reading int_max names at before ts).outcome → IsTold before.outcome × ((x : List ℕ) → bytes_eq [] x ≡ false → is_free_in_some x ts ≡ true → IsSeen (found 0 names x))
    elements-seen no_trees at names before h = (h, λ x n e. no-name e)
    elements-seen (tree_and t ts) at names before h =
        let r = elements-seen ts at names (from_two (extended at) before (part false t (reading int_max names t))) h in
        let m = extended-clean at before.outcome (part false t (reading int_max names t)).outcome r.0 in
        (m.1.0, λ x n e. elim (or-cases (stands_free x t) (is_free_in_some x ts) e) [ inl k ↦ part-by false t names (reading-seen t names) m.1.1 x n k | inr k ↦ r.1 x n k ])

    -- a number that is used was used before, or is that of a conjunct that gave a range
    ranges-used : (t : RawTree) (names : Names) (all : List RawName) (i : ℕ) (rs : List Ranged) → ((x : List ℕ) → is_bound x (as_bound rs) ≡ is_among x all) → (k : ℕ) → is_used k (ranges int_max names all i rs t) ≡ true → (is_used k rs ≡ true) ⊎ GoodAt names all k i (conjuncts t)
    ranges-used (raw at (raw_infix o a d)) names all i rs b k h =
        let first = ranges int_max names all i rs a in
        let told = (part false d (reading int_max names d)).outcome in
        elim (ranges_by-used o i rs (name_of a) (ranges int_max names all (i + length (conjuncts a)) first d) (names_one all d) told k h) [
          | inl m ↦ subst (λ cs. (is_used k rs ≡ true) ⊎ GoodAt names all k i cs) (sym (joined_and o at a d m.0))
              (elim (ranges-used d names all (i + length (conjuncts a)) first (λ x. ranges-bound int_max a names all i rs x ∙ b x) k m.1) [
                | inl u ↦ elim (ranges-used a names all i rs b k u) [ inl v ↦ inl v | inr v ↦ inr (good-left names all k i (conjuncts a) (conjuncts d) v) ]
                | inr u ↦ inr (good-right names all k i (conjuncts a) (conjuncts d) u)
              ])
          | inr m ↦ elim m [
            | inl u ↦ inl u
            | inr u ↦ inr (subst (GoodAt names all k i) (sym (single (raw_infix o a d) at u.0)) (inl (u.1.0, range-good o at a d names all rs (reading-seen d names) b (name_of a) refl u.1.1)))
          ]
        ]
    ranges-used (raw at _) names all i rs b k h = inl h

    rest-seen : (t : RawTree) (names : Names) (rs : List Ranged) (i : ℕ) (before : Option Reading) → BeforeTold (rest int_max names rs i before t) → BeforeTold before × AllLeft names rs i (conjuncts t)
    rest-seen (raw at node) names rs i before h = rest_in-seen node at names rs i before (part true (raw at node) (node_reading int_max names at node)) (λ u. λ x n f. node-seen node at names (part-told true (raw at node) (node_reading int_max names at node) u) x n f) h

    rest_in-seen : (node : RawTreeNode) (at : ℕ) (names : Names) (rs : List Ranged) (i : ℕ) (before : Option Reading) (r : Reading) → (IsTold r.outcome → AllSeen names (raw at node)) → BeforeTold (rest_in int_max names rs i before r node) → BeforeTold before × AllLeft names rs i (conjuncts (raw at node))
    rest_in-seen (raw_infix And a b) at names rs i before r known h =
        let s = rest-seen b names rs (i + length (conjuncts a)) (rest int_max names rs i before a) h in
        let f = rest-seen a names rs i before s.0 in
        (f.0, left-append names rs i (conjuncts a) (conjuncts b) f.1 s.1)
    rest_in-seen (raw_infix o a b) at names rs i before r known h = single-by (raw_infix o a b) at names rs i before r known refl h
    rest_in-seen node at names rs i before r known h = single-by node at names rs i before r known refl h

pub told-names : ToldNamesAreSeen
told-names max names t h = reading-seen max t names h
