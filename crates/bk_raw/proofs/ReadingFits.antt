-- A term without faults has a formula.
use Rattle.std.proofs.Common.{◌≡◌, ℕ, zero, suc, ◌-◌, List, [], ◌∷◌, ◌++◌, refl, subst, Bool, true, false, cond, ◌&&◌, ◌+◌, length, ℤ}
use Rattle.std.specs.Prelude.{Option, None, Some, nat_le}
use Rattle.std.specs.Str.{bytes_eq}
use Rattle.bk_val.specs.ValueType.{ValueType, set_type}
use Rattle.bk_form.specs.Formula.{Formula, for_all, for_some}
use Rattle.bk_form.specs.declared.operator.BinOp.TheVariants.{And as Conjunction}
use Rattle.bk_raw.specs.Trees.RawTree.{RawTree, raw, RawTreeNode, raw_name, raw_level_name, raw_bound_name, raw_number, raw_constant, raw_word, raw_negative, raw_infix, raw_inverse, raw_image, raw_apply, raw_composition, raw_pair, raw_empty_set, raw_extension, raw_comprehension, raw_lambda, raw_for_all, raw_exists, raw_typed_empty, raw_typed_for_all, raw_typed_exists, raw_ranged_comprehension, raw_ranged_lambda, RawTrees, no_trees, tree_and}
use Rattle.bk_raw.specs.Meaning.Names.{Names, Meaning, local, global, set_name, element_name, nothing, Sight, unseen, untyped_name, seen, sight, behind, found, pick, local_at, local_sight, count_locals, bound_sight, level_name}
use Rattle.bk_raw.specs.Meaning.Outcome.{Outcome, partial, ranging, holding, silent, Reading, silently, clean, no_type, ask_value, ask_predicate}
use Rattle.bk_raw.specs.Meaning.OperatorReadings.{word_reading, negative_reading, infix_reading, inverse_reading, image_reading, apply_reading, composition_reading, pair_reading, single_reading, extended}
use Rattle.bk_raw.specs.Meaning.Binders.{Bound, bound_names, inside, has_type, all_typed, untyped_faults, twice, types_of, where_typed, if_holding, if_giving, quantified, Ranged, unranged, as_bound, is_used, is_some_name, nameless, conjoined, with_conjunct, left_over, is_and, body_of, comprehended, abstracted}
use Rattle.bk_raw.specs.Meaning.TermReading.{place_of, is_predicate, is_alike, part, name_reading, takes_predicate, is_connective, is_not, makes_predicate, is_predicate_node, spoilt_by, strict_faults, from_one, from_two, reading, node_reading, extension_reading, elements_reading, range_reads, clues, premise_clues, ranges, rest, rest_in}
use Rattle.bk_raw.specs.Meaning.Printed.{type_read, typed_empty, wrong_bounds, printed_bounds, printed_ranges, wrong_ranges}
use Rattle.bk_raw.specs.Meaning.Speaking.{Fits, HasType, AreTyped, Speaks}
use Rattle.bk_raw.proofs.Filled.{and-true, and-both}
use Rattle.bk_raw.proofs.RulesFit.{none-left, none-right, some-fault, Answered, ask_value-answers, constant-fits, word-fits, negative-fits, inverse-fits, infix-fits, image-fits, apply-fits, composition-fits, pair-fits, connected-fits, single-fits, extended-fits}
use Rattle.bk_raw.specs.Trees.FreeNames.{conjuncts}
use Rattle.bk_raw.specs.Errors.Faults.{Fault, unknown_name, without_type, not_predicate}

-- ---- names
abbrev IsNoUntyped : Sight → Type 0
IsNoUntyped untyped_name = ⊥
IsNoUntyped _ = Unit {0}

sight-typed : (i : ℕ) (m : Meaning) → HasType m → IsNoUntyped (sight i m)
sight-typed i (local None) h = absurd h
sight-typed i (local (Some t)) h = tt
sight-typed i (global n None) h = absurd h
sight-typed i (global n (Some t)) h = tt
sight-typed i (set_name s) h = tt
sight-typed i (element_name s e) h = tt
sight-typed i nothing h = tt

either-typed : (c : Bool) (s t : Sight) → IsNoUntyped s → IsNoUntyped t → IsNoUntyped (cond c s t)
either-typed true s t h k = h
either-typed false s t h k = k

found-typed : (i : ℕ) (names : Names) (text : List ℕ) → AreTyped names → IsNoUntyped (found i names text)
found-typed i [] text h = tt
found-typed i (n ∷ ns) text h = either-typed (bytes_eq n.text text) (sight i n.meaning) (found (behind i n.meaning) ns text) (sight-typed i n.meaning h.0) (found-typed (behind i n.meaning) ns text h.1)

sight-speaks : (at : ℕ) (s : Sight) → IsNoUntyped s → Speaks false (name_reading at s)
sight-speaks at unseen h e = some-fault (unknown_name at) [] e
sight-speaks at untyped_name h e = absurd h
sight-speaks at (seen f t) h e = tt

-- ---- bound variables by their numbers
abbrev IsNoHidden : Option (Option ValueType) → Type 0
IsNoHidden (Some None) = ⊥
IsNoHidden _ = Unit {0}

pick-typed : (m : Meaning) (i : ℕ) (rest : ℕ → Option (Option ValueType)) → HasType m → ((j : ℕ) → IsNoHidden (rest j)) → IsNoHidden (pick m i rest)
pick-typed (local None) i rest h k = absurd h
pick-typed (local (Some t)) zero rest h k = tt
pick-typed (local (Some t)) (suc i) rest h k = k i
pick-typed (global n t) i rest h k = k i
pick-typed (set_name s) i rest h k = k i
pick-typed (element_name s e) i rest h k = k i
pick-typed nothing i rest h k = k i

local-at-typed : (names : Names) (i : ℕ) → AreTyped names → IsNoHidden (local_at names i)
local-at-typed [] i h = tt
local-at-typed (n ∷ ns) i h = pick-typed n.meaning i (local_at ns) h.0 (λ j. local-at-typed ns j h.1)

local-sight-typed : (i : ℕ) (o : Option (Option ValueType)) → IsNoHidden o → IsNoUntyped (local_sight i o)
local-sight-typed i None h = tt
local-sight-typed i (Some None) h = absurd h
local-sight-typed i (Some (Some t)) h = tt

bound-typed : (count : ℕ) (names : Names) (k : ℕ) → AreTyped names → IsNoUntyped (bound_sight count names k)
bound-typed count names k h = either-typed (nat_le 1 k && nat_le k count) (local_sight (count - k) (local_at names (count - k))) unseen (local-sight-typed (count - k) (local_at names (count - k)) (local-at-typed names (count - k) h)) tt

empty-speaks : (at : ℕ) (o : Option ValueType) → Speaks false (typed_empty at o)
empty-speaks at (Some (set_type t)) e = tt
empty-speaks at _ e = some-fault (without_type at) [] e

-- ---- bound names
cond-none : (c : Bool) (at : ℕ) (fs : List Fault) → cond c [] (no_type at) ++ fs ≡ [] → (c ≡ true) × (fs ≡ [])
cond-none true at fs h = (refl, h)
cond-none false at fs h = some-fault (without_type at) fs h

all-typed : (bs : List Bound) → untyped_faults bs ≡ [] → all_typed bs ≡ true
all-typed [] h = refl
all-typed (b ∷ bs) h = let k = cond-none (has_type b.of_type) b.at (untyped_faults bs) h in and-true (has_type b.of_type) (all_typed bs) k.0 (all-typed bs k.1)

local-typed : (o : Option ValueType) → has_type o ≡ true → HasType (local o)
local-typed None h = absurd (cc)
local-typed (Some t) h = tt

inside-typed : (bs : List Bound) (names : Names) → all_typed bs ≡ true → AreTyped names → AreTyped (inside bs names)
inside-typed [] names h k = k
inside-typed (b ∷ bs) names h k = let m = and-both (has_type b.of_type) (all_typed bs) h in inside-typed bs (record { text = b.text; meaning = local b.of_type } ∷ names) m.1 (local-typed b.of_type m.0, k)

-- ---- parts
alike-same : (wanted is : Bool) → is_alike wanted is ≡ true → is ≡ wanted
alike-same true true h = refl
alike-same true false h = absurd (cc)
alike-same false false h = refl
alike-same false true h = absurd (cc)

either-speaks : (c wanted is : Bool) (r : Reading) (x : Fault) (fs : List Fault) → (c ≡ true → is ≡ wanted) → Speaks is r → Speaks wanted (cond c r (silently (x ∷ fs)))
either-speaks true wanted is r x fs h k = subst (λ b. Speaks b r) (h refl) k
either-speaks false wanted is r x fs h k = λ e. some-fault x fs e

part-speaks : (wanted : Bool) (t : RawTree) (r : Reading) → Speaks (is_predicate t) r → Speaks wanted (part wanted t r)
part-speaks wanted t r h = either-speaks (is_alike wanted (is_predicate t)) wanted (is_predicate t) r (not_predicate (place_of t)) r.faults (alike-same wanted (is_predicate t)) h

from_one-speaks : (wanted kind : Bool) (k : Outcome → Reading) (r : Reading) → Speaks wanted r → ((o : Outcome) → Fits wanted o → Speaks kind (k o)) → Speaks kind (from_one k r)
from_one-speaks wanted kind k r h f e = f r.outcome (h (none-left r.faults (k r.outcome).faults e)) (none-right r.faults (k r.outcome).faults e)

from_two-speaks : (wanted kind : Bool) (k : Outcome → Outcome → Reading) (r s : Reading) → Speaks wanted r → Speaks wanted s → ((o p : Outcome) → Fits wanted o → Fits wanted p → Speaks kind (k o p)) → Speaks kind (from_two k r s)
from_two-speaks wanted kind k r s h l f e =
    let parts = none-left (r.faults ++ s.faults) (k r.outcome s.outcome).faults e in
    f r.outcome s.outcome (h (none-left r.faults s.faults parts)) (l (none-right r.faults s.faults parts)) (none-right (r.faults ++ s.faults) (k r.outcome s.outcome).faults e)

-- ---- binders
clean-fits : (kind : Bool) (fs : List Fault) (o : Outcome) → fs ≡ [] → Fits kind o → Fits kind (clean fs o)
clean-fits kind [] o h f = f
clean-fits kind (x ∷ xs) o h f = some-fault x xs h

where-fits : (kind c : Bool) (o : Outcome) → c ≡ true → Fits kind o → Fits kind (where_typed c o)
where-fits kind true o h f = f
where-fits kind false o h f = absurd (cc)

if_holding-fits : (kind : Bool) (k : Formula → Outcome) (o : Outcome) → ((p : Formula) → Fits kind (k p)) → Fits true o → Fits kind (if_holding k o)
if_holding-fits kind k (holding p) f h = f p
if_holding-fits kind k (partial p) f h = absurd h
if_holding-fits kind k (ranging g t there) f h = absurd h
if_holding-fits kind k silent f h = absurd h

quantified-speaks : (k : List ValueType → Formula → Formula) (fs : List Fault) (bs : List Bound) (body : Reading) → (all_typed bs ≡ true → Speaks true body) → Speaks true (quantified k fs bs body)
quantified-speaks k fs bs body h e =
    let later = none-right fs (untyped_faults bs ++ body.faults) e in
    let typed = all-typed bs (none-left (untyped_faults bs) body.faults later) in
    clean-fits true fs (where_typed (all_typed bs) (if_holding (λ p. holding (k (types_of bs) p)) body.outcome)) (none-left fs (untyped_faults bs ++ body.faults) e) (where-fits true (all_typed bs) (if_holding (λ p. holding (k (types_of bs) p)) body.outcome) typed (if_holding-fits true (λ p. holding (k (types_of bs) p)) body.outcome (λ p. tt) (h typed (none-right (untyped_faults bs) body.faults later))))

named-some : (bs : List Ranged) (at : ℕ) → nameless at bs ≡ [] → is_some_name bs ≡ true
named-some [] at h = some-fault (without_type at) [] h
named-some (b ∷ bs) at h = refl

comprehended-speaks : (at : ℕ) (fs : List Fault) (bs : List Ranged) (body : Reading) → (all_typed (as_bound bs) ≡ true → Speaks true body) → Speaks false (comprehended at fs bs body)
comprehended-speaks at fs bs body h e =
    let us = untyped_faults (as_bound bs) in
    let later = none-right fs (nameless at bs ++ (us ++ body.faults)) e in
    let last = none-right (nameless at bs) (us ++ body.faults) later in
    let typed = all-typed (as_bound bs) (none-left us body.faults last) in
    clean-fits false fs _ (none-left fs (nameless at bs ++ (us ++ body.faults)) e) (where-fits false (is_some_name bs && all_typed (as_bound bs)) _ (and-true (is_some_name bs) (all_typed (as_bound bs)) (named-some bs at (none-left (nameless at bs) (us ++ body.faults) later)) typed)
    (if_holding-fits false _ body.outcome (λ p. tt) (h typed (none-right us body.faults last))))

if_giving-fits : (kind : Bool) (k : Formula → ValueType → Outcome) (v : Option (Formula × ValueType)) → ((f : Formula) (u : ValueType) → Fits kind (k f u)) → Answered v → Fits kind (if_giving k v)
if_giving-fits kind k None f h = absurd h
if_giving-fits kind k (Some v) f h = f v.0 v.1

abstracted-speaks : (at : ℕ) (fs : List Fault) (bs : List Ranged) (body : Reading) (there : ℕ) (image : Reading) → (all_typed (as_bound bs) ≡ true → Speaks true body) → (all_typed (as_bound bs) ≡ true → Speaks false image) → Speaks false (abstracted at fs bs body there image)
abstracted-speaks at fs bs body there image h l e =
    let us = untyped_faults (as_bound bs) in
    let asked = (ask_value there image.outcome).faults in
    let later = none-right fs (nameless at bs ++ (us ++ (body.faults ++ (image.faults ++ asked)))) e in
    let last = none-right (nameless at bs) (us ++ (body.faults ++ (image.faults ++ asked))) later in
    let typed = all-typed (as_bound bs) (none-left us (body.faults ++ (image.faults ++ asked)) last) in
    let parts = none-right us (body.faults ++ (image.faults ++ asked)) last in
    let images = none-right body.faults (image.faults ++ asked) parts in
    clean-fits false fs _ (none-left fs (nameless at bs ++ (us ++ (body.faults ++ (image.faults ++ asked)))) e) (where-fits false (is_some_name bs && all_typed (as_bound bs)) _ (and-true (is_some_name bs) (all_typed (as_bound bs)) (named-some bs at (none-left (nameless at bs) (us ++ (body.faults ++ (image.faults ++ asked))) later)) typed)
    (if_holding-fits false _ body.outcome (λ p. if_giving-fits false _ (ask_value there image.outcome).answer (λ f u. tt) (ask_value-answers there image.outcome (l typed (none-left image.faults asked images)) (none-right image.faults asked images)))
    (h typed (none-left body.faults (image.faults ++ asked) parts))))

abbrev BeforeSpeaks : Option Reading → Type 0
BeforeSpeaks None = Unit {0}
BeforeSpeaks (Some r) = Speaks true r

predicate-none : (o : Outcome) → (ask_predicate o).faults ≡ []
predicate-none (holding p) = refl
predicate-none (partial p) = refl
predicate-none (ranging f t there) = refl
predicate-none silent = refl

conjoined-speaks : (r s : Reading) → Speaks true r → Speaks true s → Speaks true (conjoined r s)
conjoined-speaks r s h k e = connected-fits Conjunction r.outcome s.outcome (h (none-left r.faults s.faults e)) (k (none-right r.faults s.faults e)) (rw (predicate-none r.outcome, predicate-none s.outcome) refl)

with_conjunct-speaks : (before : Option Reading) (r : Reading) → BeforeSpeaks before → Speaks true r → BeforeSpeaks (with_conjunct before r)
with_conjunct-speaks None r h k = k
with_conjunct-speaks (Some s) r h k = conjoined-speaks s r h k

left_over-speaks : (c : Bool) (before : Option Reading) (r : Reading) → BeforeSpeaks before → Speaks true r → BeforeSpeaks (left_over c before r)
left_over-speaks true before r h k = h
left_over-speaks false before r h k = with_conjunct-speaks before r h k

body-speaks : (before : Option Reading) → BeforeSpeaks before → Speaks true (body_of before)
body-speaks None h e = tt
body-speaks (Some r) h e = h e

chosen-speaks : (c : Bool) (a b : Option Reading) → BeforeSpeaks a → BeforeSpeaks b → BeforeSpeaks (cond c a b)
chosen-speaks true a b h k = h
chosen-speaks false a b h k = k

spoilt-speaks : (kind : Bool) (fs : List Fault) (r : Reading) → Speaks kind r → Speaks kind (spoilt_by fs r)
spoilt-speaks kind fs r h e = clean-fits kind fs r.outcome (none-left fs r.faults e) (h (none-right fs r.faults e))

module _ (int_max : ℤ) where
  mutual
    pub reading-speaks : (t : RawTree) (names : Names) → AreTyped names → Speaks (is_predicate t) (reading int_max names t)
    reading-speaks (raw at node) names h = node-speaks node at names h

    node-speaks : (node : RawTreeNode) (at : ℕ) (names : Names) → AreTyped names → Speaks (is_predicate_node node) (node_reading int_max names at node)
    node-speaks (raw_name x) at names h = sight-speaks at (found 0 names x) (found-typed 0 names x h)
    node-speaks (raw_level_name x n) at names h = sight-speaks at (found 0 names (level_name x n)) (found-typed 0 names (level_name x n) h)
    node-speaks (raw_number z) at names h = λ e. tt
    node-speaks (raw_constant c) at names h = λ e. constant-fits int_max at c
    node-speaks (raw_word o a) at names h = from_one-speaks (takes_predicate o) (is_not o) (word_reading o at (place_of a)) (part (takes_predicate o) a (reading int_max names a)) (part-speaks (takes_predicate o) a (reading int_max names a) (reading-speaks a names h)) (λ v f. word-fits o at (place_of a) v f)
    node-speaks (raw_negative a) at names h = from_one-speaks false false (negative_reading (place_of a)) (part false a (reading int_max names a)) (part-speaks false a (reading int_max names a) (reading-speaks a names h)) (λ v f. negative-fits (place_of a) v f)
    node-speaks (raw_infix o a b) at names h = spoilt-speaks (makes_predicate o) (strict_faults o a b) (from_two (infix_reading o at (place_of a) (place_of b)) (part (is_connective o) a (reading int_max names a)) (part (is_connective o) b (reading int_max names b)))
        (from_two-speaks (is_connective o) (makes_predicate o) (infix_reading o at (place_of a) (place_of b)) (part (is_connective o) a (reading int_max names a)) (part (is_connective o) b (reading int_max names b)) (part-speaks (is_connective o) a (reading int_max names a) (reading-speaks a names h)) (part-speaks (is_connective o) b (reading int_max names b) (reading-speaks b names h)) (λ v w f g. infix-fits o at (place_of a) (place_of b) v w f g))
    node-speaks (raw_inverse a) at names h = from_one-speaks false false (inverse_reading (place_of a)) (part false a (reading int_max names a)) (part-speaks false a (reading int_max names a) (reading-speaks a names h)) (λ v f. inverse-fits (place_of a) v f)
    node-speaks (raw_image a b) at names h = from_two-speaks false false (image_reading (place_of a) (place_of b)) (part false a (reading int_max names a)) (part false b (reading int_max names b)) (part-speaks false a (reading int_max names a) (reading-speaks a names h)) (part-speaks false b (reading int_max names b) (reading-speaks b names h)) (λ v w f g. image-fits (place_of a) (place_of b) v w f g)
    node-speaks (raw_apply a b) at names h = from_two-speaks false false (apply_reading (place_of a) (place_of b)) (part false a (reading int_max names a)) (part false b (reading int_max names b)) (part-speaks false a (reading int_max names a) (reading-speaks a names h)) (part-speaks false b (reading int_max names b) (reading-speaks b names h)) (λ v w f g. apply-fits (place_of a) (place_of b) v w f g)
    node-speaks (raw_composition a b) at names h = from_two-speaks false false (composition_reading at (place_of a) (place_of b)) (part false a (reading int_max names a)) (part false b (reading int_max names b)) (part-speaks false a (reading int_max names a) (reading-speaks a names h)) (part-speaks false b (reading int_max names b) (reading-speaks b names h)) (λ v w f g. composition-fits at (place_of a) (place_of b) v w f g)
    node-speaks (raw_pair a b) at names h = from_two-speaks false false pair_reading (part false a (reading int_max names a)) (part false b (reading int_max names b)) (part-speaks false a (reading int_max names a) (reading-speaks a names h)) (part-speaks false b (reading int_max names b) (reading-speaks b names h)) pair-fits
    node-speaks raw_empty_set at names h = λ e. tt
    node-speaks (raw_extension ts) at names h = extension-speaks ts at names h
    node-speaks (raw_for_all xs p) at names h =
        let bs = premise_clues int_max names (bound_names xs) p in
        quantified-speaks for_all (twice [] xs) bs (part true p (reading int_max (inside bs names) p)) (λ typed. part-speaks true p (reading int_max (inside bs names) p) (reading-speaks p (inside bs names) (inside-typed bs names typed h)))
    node-speaks (raw_exists xs p) at names h =
        let bs = clues int_max names (bound_names xs) p in
        quantified-speaks for_some (twice [] xs) bs (part true p (reading int_max (inside bs names) p)) (λ typed. part-speaks true p (reading int_max (inside bs names) p) (reading-speaks p (inside bs names) (inside-typed bs names typed h)))
    node-speaks (raw_comprehension xs p) at names h =
        let rs = ranges int_max names xs 0 (unranged xs) p in
        comprehended-speaks at (twice [] xs) rs (body_of (rest int_max (inside (as_bound rs) names) rs 0 None p)) (λ typed. body-speaks (rest int_max (inside (as_bound rs) names) rs 0 None p) (rest-speaks p (inside (as_bound rs) names) rs 0 None (inside-typed (as_bound rs) names typed h) tt))
    node-speaks (raw_lambda xs p e) at names h =
        let rs = ranges int_max names xs 0 (unranged xs) p in
        abstracted-speaks at (twice [] xs) rs (body_of (rest int_max (inside (as_bound rs) names) rs 0 None p)) (place_of e) (part false e (reading int_max (inside (as_bound rs) names) e))
        (λ typed. body-speaks (rest int_max (inside (as_bound rs) names) rs 0 None p) (rest-speaks p (inside (as_bound rs) names) rs 0 None (inside-typed (as_bound rs) names typed h) tt))
        (λ typed. part-speaks false e (reading int_max (inside (as_bound rs) names) e) (reading-speaks e (inside (as_bound rs) names) (inside-typed (as_bound rs) names typed h)))
    node-speaks (raw_bound_name k) at names h = sight-speaks at (bound_sight (count_locals names) names k) (bound-typed (count_locals names) names k h)
    node-speaks (raw_typed_empty t) at names h = empty-speaks at (type_read names t)
    node-speaks (raw_typed_for_all ws p) at names h =
        let bs = printed_bounds names ws in
        quantified-speaks for_all (wrong_bounds (suc (count_locals names)) ws) bs (part true p (reading int_max (inside bs names) p)) (λ typed. part-speaks true p (reading int_max (inside bs names) p) (reading-speaks p (inside bs names) (inside-typed bs names typed h)))
    node-speaks (raw_typed_exists ws p) at names h =
        let bs = printed_bounds names ws in
        quantified-speaks for_some (wrong_bounds (suc (count_locals names)) ws) bs (part true p (reading int_max (inside bs names) p)) (λ typed. part-speaks true p (reading int_max (inside bs names) p) (reading-speaks p (inside bs names) (inside-typed bs names typed h)))
    node-speaks (raw_ranged_comprehension ws p) at names h =
        let rs = printed_ranges (range_reads int_max names ws) in
        comprehended-speaks at (wrong_ranges (suc (count_locals names)) (range_reads int_max names ws)) rs (part true p (reading int_max (inside (as_bound rs) names) p)) (λ typed. part-speaks true p (reading int_max (inside (as_bound rs) names) p) (reading-speaks p (inside (as_bound rs) names) (inside-typed (as_bound rs) names typed h)))
    node-speaks (raw_ranged_lambda ws p e) at names h =
        let rs = printed_ranges (range_reads int_max names ws) in
        abstracted-speaks at (wrong_ranges (suc (count_locals names)) (range_reads int_max names ws)) rs (part true p (reading int_max (inside (as_bound rs) names) p)) (place_of e) (part false e (reading int_max (inside (as_bound rs) names) e))
        (λ typed. part-speaks true p (reading int_max (inside (as_bound rs) names) p) (reading-speaks p (inside (as_bound rs) names) (inside-typed (as_bound rs) names typed h)))
        (λ typed. part-speaks false e (reading int_max (inside (as_bound rs) names) e) (reading-speaks e (inside (as_bound rs) names) (inside-typed (as_bound rs) names typed h)))

    extension-speaks : (ts : RawTrees) (at : ℕ) (names : Names) → AreTyped names → Speaks false (extension_reading int_max names at ts)
    extension-speaks no_trees at names h = λ e. some-fault (without_type at) [] e
    extension-speaks (tree_and t ts) at names h = elements-speak ts at names (from_one single_reading (part false t (reading int_max names t))) h (from_one-speaks false false single_reading (part false t (reading int_max names t)) (part-speaks false t (reading int_max names t) (reading-speaks t names h)) single-fits)

    elements-speak : (ts : RawTrees) (at : ℕ) (names : Names) (before : Reading) → AreTyped names → Speaks false before → Speaks false (elements_reading int_max names at before ts)
    elements-speak no_trees at names before h k = k
    elements-speak (tree_and t ts) at names before h k = elements-speak ts at names (from_two (extended at) before (part false t (reading int_max names t))) h (from_two-speaks false false (extended at) before (part false t (reading int_max names t)) k (part-speaks false t (reading int_max names t) (reading-speaks t names h)) (extended-fits at))

    rest-speaks : (t : RawTree) (names : Names) (bs : List Ranged) (i : ℕ) (before : Option Reading) → AreTyped names → BeforeSpeaks before → BeforeSpeaks (rest int_max names bs i before t)
    rest-speaks (raw at node) names bs i before h b = rest_in-speaks node names bs i before (part true (raw at node) (node_reading int_max names at node)) h b (part-speaks true (raw at node) (node_reading int_max names at node) (node-speaks node at names h))

    rest_in-speaks : (node : RawTreeNode) (names : Names) (bs : List Ranged) (i : ℕ) (before : Option Reading) (r : Reading) → AreTyped names → BeforeSpeaks before → Speaks true r → BeforeSpeaks (rest_in int_max names bs i before r node)
    rest_in-speaks (raw_infix o a b) names bs i before r h k m = chosen-speaks (is_and o) (rest int_max names bs (i + length (conjuncts a)) (rest int_max names bs i before a) b) (left_over (is_used i bs) before r) (rest-speaks b names bs (i + length (conjuncts a)) (rest int_max names bs i before a) h (rest-speaks a names bs i before h k)) (left_over-speaks (is_used i bs) before r k m)
    rest_in-speaks _ names bs i before r h k m = left_over-speaks (is_used i bs) before r k m
