-- What a term reads as depends on nothing but what is found of the names that stand in it.
use Rattle.std.proofs.Common.{◌≡◌, ◌⊎◌, inl, inr, ◌≤◌, ℕ, zero, suc, ◌+◌, ◌-◌, List, [], ◌∷◌, length, refl, sym, ◌∙◌, ap, Bool, true, false, cond, not, ◌&&◌, ◌||◌, arith, ℤ}
use Rattle.std.specs.Prelude.{Option, None, Some, nat_le}
use Rattle.std.specs.Str.{bytes_eq}
use Rattle.std.proofs.lemmas.Bool.Decides.{nat_tests}
use Rattle.std.proofs.lemmas.Slice.Eq.{bytes_eq-Decides}
use Rattle.bk_val.specs.ValueType.{ValueType}
use Rattle.bk_form.specs.Formula.{Formula, bound, for_all, for_some}
use Rattle.bk_raw.specs.declared.operator.InfixOp.{InfixOp}
use Rattle.bk_raw.specs.declared.operator.InfixOp.TheVariants.{Implies, And, Member, Equal}
use Rattle.bk_raw.specs.declared.term.RawName.{RawName}
use Rattle.bk_raw.specs.declared.term.RawBound.{RawBound}
use Rattle.bk_raw.specs.Trees.WrittenType.{WrittenType, written_integer, written_bool, written_set, written_power, written_product}
use Rattle.bk_raw.specs.Trees.RawTree.{RawTree, raw, RawTreeNode, raw_name, raw_level_name, raw_bound_name, raw_number, raw_constant, raw_word, raw_negative, raw_infix, raw_inverse, raw_image, raw_apply, raw_composition, raw_pair, raw_empty_set, raw_extension, raw_comprehension, raw_lambda, raw_for_all, raw_exists, raw_typed_empty, raw_typed_for_all, raw_typed_exists, raw_ranged_comprehension, raw_ranged_lambda, RawTrees, no_trees, tree_and, RawRanges, no_ranges, range_and}
use Rattle.bk_raw.specs.Trees.FreeNames.{is_among, stands_free, is_free_in, is_free_in_some, is_free_in_ranges, conjuncts}
use Rattle.bk_raw.specs.Meaning.Names.{Names, Meaning, local, global, set_name, element_name, nothing, Sight, unseen, untyped_name, seen, sight, behind, found, count_locals, local_at, local_sight, bound_sight, level_name}
use Rattle.bk_raw.specs.Meaning.Outcome.{Outcome, Reading}
use Rattle.bk_raw.specs.Meaning.OperatorReadings.{word_reading, negative_reading, inverse_reading, infix_reading, image_reading, apply_reading, composition_reading, pair_reading, single_reading, extended}
use Rattle.bk_raw.specs.Meaning.Binders.{Bound, bound_names, inside, told_by, twice, quantified, Ranged, unranged, ranges_by, as_bound, is_used, left_over, is_and, body_of, comprehended, abstracted}
use Rattle.bk_raw.specs.Meaning.Printed.{set_type_of, power_of, product_of, type_read, typed_empty, wrong_bounds, printed_bounds, printed_ranges, wrong_ranges}
use Rattle.bk_raw.specs.Meaning.TermReading.{place_of, part, name_of, name_reading, names_one, takes_predicate, is_connective, strict_faults, from_one, from_two, spoilt_by, reading, node_reading, extension_reading, elements_reading, range_reads, clues, premise_clues, ranges, rest, rest_in}
use Rattle.bk_raw.specs.Meaning.KeptReading.{DollarName, at_level, of_bound, StandsIn, StandsInNode, StandsInSome, StandsInRanges, IsFoundAlike, ReadingsAreKept}
use Rattle.bk_raw.proofs.Filled.{and-true, and-both}
use Rattle.bk_raw.proofs.BoundNames.{no-name, or-cases, or-neither, or-none, or-left, or-right, either, is_bound, names-bound, unranged-bound, clues-bound, premise-bound, ranges-bound}

-- ---- names
-- the same is found of the name, from whatever number
abbrev pub SameAt : Names → Names → List ℕ → Type 0
SameAt ns ms x = (i : ℕ) → found i ns x ≡ found i ms x

-- as many locals, and the same found of each set
pub record Like (ns ms : Names) : Type 0 where
  pub count : count_locals ns ≡ count_locals ms
  pub sets : (x : List ℕ) (i : ℕ) → set_type_of (found i ns x) ≡ set_type_of (found i ms x)

-- the same of the k-th bound variable from the outside
abbrev SameBound : Names → Names → ℕ → Type 0
SameBound ns ms k = (i : ℕ) → 1 ≤ k → i + k ≡ count_locals ns → local_at ns i ≡ local_at ms i

abbrev SameDollar : Names → Names → DollarName → Type 0
SameDollar ns ms (at_level x) = SameAt ns ms x
SameDollar ns ms (of_bound k) = SameBound ns ms k

abbrev AllSame : Names → Names → (DollarName → Type 0) → Type 0
AllSame ns ms Stands = (m : DollarName) → Stands m → SameDollar ns ms m

abbrev Either : (DollarName → Type 0) → (DollarName → Type 0) → DollarName → Type 0
Either A B m = A m ⊎ B m

halves : (ns ms : Names) (A B : DollarName → Type 0) → AllSame ns ms (Either A B) → AllSame ns ms A × AllSame ns ms B
halves ns ms A B q = ((λ m s. q m (inl s)), (λ m s. q m (inr s)))

and-not : (a b : Bool) → a ≡ false → b ≡ true → (not a && b) ≡ true
and-not a b h k = rw (h, k) refl

inside-same : (bs : List Bound) (ns ms : Names) (x : List ℕ) → SameAt ns ms x → SameAt (inside bs ns) (inside bs ms) x
inside-same [] ns ms x h = h
inside-same (b ∷ bs) ns ms x h = inside-same bs (record { text = b.text; meaning = local b.of_type } ∷ ns) (record { text = b.text; meaning = local b.of_type } ∷ ms) x (λ i. ap (λ s. cond (bytes_eq b.text x) (sight i (local b.of_type)) s) (h (suc i)))

bound-same : (bs : List Bound) (ns ms : Names) (x : List ℕ) → is_bound x bs ≡ true → SameAt (inside bs ns) (inside bs ms) x
bound-same [] ns ms x e = no-name e
bound-same (b ∷ bs) ns ms x e = elim (or-cases (bytes_eq b.text x) (is_bound x bs) e) [
  | inl k ↦ inside-same bs (record { text = b.text; meaning = local b.of_type } ∷ ns) (record { text = b.text; meaning = local b.of_type } ∷ ms) x (λ i. ap (λ c. cond c (sight i (local b.of_type)) (found (suc i) ns x)) k ∙ sym (ap (λ c. cond c (sight i (local b.of_type)) (found (suc i) ms x)) k))
  | inr k ↦ bound-same bs (record { text = b.text; meaning = local b.of_type } ∷ ns) (record { text = b.text; meaning = local b.of_type } ∷ ms) x k
]

either-same : (bs : List Bound) (ns ms : Names) (x : List ℕ) → (is_bound x bs ≡ false → SameAt ns ms x) → SameAt (inside bs ns) (inside bs ms) x
either-same bs ns ms x h = elim (either (is_bound x bs)) [ inl e ↦ bound-same bs ns ms x e | inr e ↦ inside-same bs ns ms x (h e) ]

count-inside : (bs : List Bound) (ns ms : Names) → count_locals ns ≡ count_locals ms → count_locals (inside bs ns) ≡ count_locals (inside bs ms)
count-inside [] ns ms h = h
count-inside (b ∷ bs) ns ms h = count-inside bs (record { text = b.text; meaning = local b.of_type } ∷ ns) (record { text = b.text; meaning = local b.of_type } ∷ ms) (ap suc h)

cond-sets : (c : Bool) (s r q : Sight) → set_type_of r ≡ set_type_of q → set_type_of (cond c s r) ≡ set_type_of (cond c s q)
cond-sets true s r q h = refl
cond-sets false s r q h = h

sets-inside : (bs : List Bound) (ns ms : Names) → ((x : List ℕ) (i : ℕ) → set_type_of (found i ns x) ≡ set_type_of (found i ms x)) → (x : List ℕ) (i : ℕ) → set_type_of (found i (inside bs ns) x) ≡ set_type_of (found i (inside bs ms) x)
sets-inside [] ns ms h = h
sets-inside (b ∷ bs) ns ms h = sets-inside bs (record { text = b.text; meaning = local b.of_type } ∷ ns) (record { text = b.text; meaning = local b.of_type } ∷ ms) (λ x i. cond-sets (bytes_eq b.text x) (sight i (local b.of_type)) (found (suc i) ns x) (found (suc i) ms x) (h x (suc i)))

like-inside : (bs : List Bound) (ns ms : Names) → Like ns ms → Like (inside bs ns) (inside bs ms)
like-inside bs ns ms l = record { count = count-inside bs ns ms l.count; sets = sets-inside bs ns ms l.sets }

-- one bound variable more
bound-more : (b : Bound) (ns ms : Names) (k : ℕ) → SameBound ns ms k → SameBound (record { text = b.text; meaning = local b.of_type } ∷ ns) (record { text = b.text; meaning = local b.of_type } ∷ ms) k
bound-more b ns ms k h zero l e = refl
bound-more b ns ms k h (suc i) l e = h i l (omega (arith, e))

bound-inside : (bs : List Bound) (ns ms : Names) (k : ℕ) → SameBound ns ms k → SameBound (inside bs ns) (inside bs ms) k
bound-inside [] ns ms k h = h
bound-inside (b ∷ bs) ns ms k h = bound-inside bs (record { text = b.text; meaning = local b.of_type } ∷ ns) (record { text = b.text; meaning = local b.of_type } ∷ ms) k (bound-more b ns ms k h)

dollar-inside : (bs : List Bound) (ns ms : Names) (m : DollarName) → SameDollar ns ms m → SameDollar (inside bs ns) (inside bs ms) m
dollar-inside bs ns ms (at_level x) h = inside-same bs ns ms x h
dollar-inside bs ns ms (of_bound k) h = bound-inside bs ns ms k h

all-inside : (bs : List Bound) (ns ms : Names) (A : DollarName → Type 0) → AllSame ns ms A → AllSame (inside bs ns) (inside bs ms) A
all-inside bs ns ms A q m s = dollar-inside bs ns ms m (q m s)

-- ---- $k
le-of : (m n : ℕ) → nat_le m n ≡ true → m ≤ n
le-of m n h = grind (arith, nat_tests)

of-le : (m n : ℕ) → m ≤ n → nat_le m n ≡ true
of-le m n h = grind (arith, nat_tests)

where-true : (c : Bool) (s t : Sight) → (c ≡ true → s ≡ t) → cond c s unseen ≡ cond c t unseen
where-true true s t h = h refl
where-true false s t h = refl

bound-like : (k : ℕ) (ns ms : Names) → count_locals ns ≡ count_locals ms → SameBound ns ms k → bound_sight (count_locals ns) ns k ≡ bound_sight (count_locals ms) ms k
bound-like k ns ms e h =
    let c = count_locals ns in
    where-true (nat_le 1 k && nat_le k c) (local_sight (c - k) (local_at ns (c - k))) (local_sight (c - k) (local_at ms (c - k))) (λ t.
    let b = and-both (nat_le 1 k) (nat_le k c) t in
    let below = le-of k c b.1 in
    ap (local_sight (c - k)) (h (c - k) (le-of 1 k b.0) (omega (arith, below))))
    ∙ ap (λ n. bound_sight n ms k) e

bound-at : (c : ℕ) (ns : Names) (k i : ℕ) → 1 ≤ k → i + k ≡ c → bound_sight c ns k ≡ local_sight i (local_at ns i)
bound-at c ns k i l e =
    let below : k ≤ c = omega (arith, e) in
    let same : c - k ≡ i = omega (arith, e) in
    let test : (nat_le 1 k && nat_le k c) ≡ true = and-true (nat_le 1 k) (nat_le k c) (of-le 1 k l) (of-le k c below) in
    ap (λ b. cond b (local_sight (c - k) (local_at ns (c - k))) unseen) test ∙ ap (λ j. local_sight j (local_at ns j)) same

local-same : (i : ℕ) (o p : Option (Option ValueType)) → local_sight i o ≡ local_sight i p → o ≡ p
local-same i None None e = refl
local-same i (Some None) (Some None) e = refl
local-same i (Some (Some t)) (Some (Some u)) e = ap (λ v. Some (Some v)) (same-type e)
  where
    same-type : {f : Formula} → seen f t ≡ seen f u → t ≡ u
    same-type h = cc
local-same i None (Some None) e = absurd (cc)
local-same i None (Some (Some u)) e = absurd (cc)
local-same i (Some None) None e = absurd (cc)
local-same i (Some None) (Some (Some u)) e = absurd (cc)
local-same i (Some (Some t)) None e = absurd (cc)
local-same i (Some (Some t)) (Some None) e = absurd (cc)

same-bound : (ns ms : Names) (k : ℕ) → count_locals ns ≡ count_locals ms → bound_sight (count_locals ns) ns k ≡ bound_sight (count_locals ms) ms k → SameBound ns ms k
same-bound ns ms k e h i l s = local-same i (local_at ns i) (local_at ms i) (sym (bound-at (count_locals ns) ns k i l s) ∙ h ∙ bound-at (count_locals ms) ms k i l (s ∙ e))

-- ---- from one number on
abbrev pub raised_formula : Formula → Formula
raised_formula (bound j) = bound (suc j)
raised_formula f = f

abbrev pub raised : Sight → Sight
raised (seen f t) = seen (raised_formula f) t
raised s = s

sight-raised : (i : ℕ) (m : Meaning) → sight (suc i) m ≡ raised (sight i m)
sight-raised i (local None) = refl
sight-raised i (local (Some t)) = refl
sight-raised i (global n None) = refl
sight-raised i (global n (Some t)) = refl
sight-raised i (set_name s) = refl
sight-raised i (element_name s e) = refl
sight-raised i nothing = refl

behind-raised : (i : ℕ) (m : Meaning) → behind (suc i) m ≡ suc (behind i m)
behind-raised i (local t) = refl
behind-raised i (global n t) = refl
behind-raised i (set_name s) = refl
behind-raised i (element_name s e) = refl
behind-raised i nothing = refl

cond-raised : (c : Bool) (s t u v : Sight) → s ≡ raised u → t ≡ raised v → cond c s t ≡ raised (cond c u v)
cond-raised true s t u v h k = h
cond-raised false s t u v h k = k

pub found-raised : (i : ℕ) (ns : Names) (x : List ℕ) → found (suc i) ns x ≡ raised (found i ns x)
found-raised i [] x = refl
found-raised i (n ∷ ns) x = cond-raised (bytes_eq n.text x) (sight (suc i) n.meaning) (found (behind (suc i) n.meaning) ns x) (sight i n.meaning) (found (behind i n.meaning) ns x) (sight-raised i n.meaning) (ap (λ j. found j ns x) (behind-raised i n.meaning) ∙ found-raised (behind i n.meaning) ns x)

same-from : (ns ms : Names) (x : List ℕ) → found 0 ns x ≡ found 0 ms x → SameAt ns ms x
same-from ns ms x h zero = h
same-from ns ms x h (suc i) = found-raised i ns x ∙ ap raised (same-from ns ms x h i) ∙ sym (found-raised i ms x)

set-raised : (s : Sight) → set_type_of (raised s) ≡ set_type_of s
set-raised unseen = refl
set-raised untyped_name = refl
set-raised (seen (bound j) t) = refl
set-raised (seen _ t) = refl

sets-from : (ns ms : Names) (x : List ℕ) → set_type_of (found 0 ns x) ≡ set_type_of (found 0 ms x) → (i : ℕ) → set_type_of (found i ns x) ≡ set_type_of (found i ms x)
sets-from ns ms x h zero = h
sets-from ns ms x h (suc i) = ap set_type_of (found-raised i ns x) ∙ set-raised (found i ns x) ∙ sets-from ns ms x h i ∙ sym (set-raised (found i ms x)) ∙ sym (ap set_type_of (found-raised i ms x))

dollar-from : (ns ms : Names) → count_locals ns ≡ count_locals ms → (m : DollarName) → IsFoundAlike ns ms m → SameDollar ns ms m
dollar-from ns ms e (at_level x) h = same-from ns ms x h
dollar-from ns ms e (of_bound k) h = same-bound ns ms k e h

type-like : (w : WrittenType) (ns ms : Names) → Like ns ms → type_read ns w ≡ type_read ms w
type-like written_integer ns ms l = refl
type-like written_bool ns ms l = refl
type-like (written_set x) ns ms l = l.sets x 0
type-like (written_power t) ns ms l = ap power_of (type-like t ns ms l)
type-like (written_product t u) ns ms l = ap (λ o. product_of o (type_read ns u)) (type-like t ns ms l) ∙ ap (product_of (type_read ms t)) (type-like u ns ms l)

printed-like : (ws : List RawBound) (ns ms : Names) → Like ns ms → printed_bounds ns ws ≡ printed_bounds ms ws
printed-like [] ns ms l = refl
printed-like (w ∷ ws) ns ms l = ap (λ o. record { text = []; at = w.at; of_type = o } ∷ printed_bounds ns ws) (type-like w.ty ns ms l) ∙ ap (λ bs. record { text = []; at = w.at; of_type = type_read ms w.ty } ∷ bs) (printed-like ws ns ms l)

-- a name free in a term that names none of these is none of these
one-false : (all : List RawName) (d : RawTree) (x : List ℕ) → names_one all d ≡ false → stands_free x d ≡ true → is_among x all ≡ false
one-false [] d x e h = refl
one-false (y ∷ ys) d x e h =
    let k = or-neither (stands_free y.text d) (names_one ys d) e in
    or-none (bytes_eq y.text x) (is_among x ys) (differ k.0) (one-false ys d x k.1 h)
  where
    differ : stands_free y.text d ≡ false → bytes_eq y.text x ≡ false
    differ n = elim (either (bytes_eq y.text x)) [ inl t ↦ no-name (sym n ∙ ap (λ z. stands_free z d) ((bytes_eq-Decides y.text x).0 t) ∙ h) | inr f ↦ f ]

hidden : (o : InfixOp) (i : ℕ) (rs : List Ranged) (y : Option (List ℕ)) (both : List Ranged) (r s : Outcome) → ranges_by o i rs y both true r ≡ ranges_by o i rs y both true s
hidden And i rs y both r s = refl
hidden Member i rs None both r s = refl
hidden Member i rs (Some y) both r s = refl
hidden Equal i rs None both r s = refl
hidden Equal i rs (Some y) both r s = refl
hidden _ i rs y both r s = refl

-- ---- readings
both-like : (k : Reading → Reading → Reading) {a b c d : Reading} → a ≡ c → b ≡ d → k a b ≡ k c d
both-like k h g i = k (h i) (g i)

module _ (int_max : ℤ) where
  mutual
    pub reading-like : (t : RawTree) (ns ms : Names) → Like ns ms → AllSame ns ms (StandsIn t) → ((x : List ℕ) → stands_free x t ≡ true → SameAt ns ms x) → reading int_max ns t ≡ reading int_max ms t
    reading-like (raw at node) ns ms l q f = node-like node at ns ms l q f

    node-like : (node : RawTreeNode) (at : ℕ) (ns ms : Names) → Like ns ms → AllSame ns ms (StandsInNode node) → ((x : List ℕ) → is_free_in x node ≡ true → SameAt ns ms x) → node_reading int_max ns at node ≡ node_reading int_max ms at node
    node-like (raw_name y) at ns ms l q f = ap (name_reading at) (f y ((bytes_eq-Decides y y).1 refl) 0)
    node-like (raw_level_name y n) at ns ms l q f = ap (name_reading at) (q (at_level (level_name y n)) refl 0)
    node-like (raw_bound_name k) at ns ms l q f = ap (name_reading at) (bound-like k ns ms l.count (q (of_bound k) refl))
    node-like (raw_number z) at ns ms l q f = refl
    node-like (raw_constant c) at ns ms l q f = refl
    node-like (raw_word o a) at ns ms l q f = ap (λ r. from_one (word_reading o at (place_of a)) (part (takes_predicate o) a r)) (reading-like a ns ms l q f)
    node-like (raw_negative a) at ns ms l q f = ap (λ r. from_one (negative_reading (place_of a)) (part false a r)) (reading-like a ns ms l q f)
    node-like (raw_infix o a b) at ns ms l q f =
        let m = halves ns ms (StandsIn a) (StandsIn b) q in
        both-like (λ r s. spoilt_by (strict_faults o a b) (from_two (infix_reading o at (place_of a) (place_of b)) (part (is_connective o) a r) (part (is_connective o) b s)))
        (reading-like a ns ms l m.0 (λ x e. f x (or-left (stands_free x a) (stands_free x b) e)))
        (reading-like b ns ms l m.1 (λ x e. f x (or-right (stands_free x a) (stands_free x b) e)))
    node-like (raw_inverse a) at ns ms l q f = ap (λ r. from_one (inverse_reading (place_of a)) (part false a r)) (reading-like a ns ms l q f)
    node-like (raw_image a b) at ns ms l q f =
        let m = halves ns ms (StandsIn a) (StandsIn b) q in
        both-like (λ r s. from_two (image_reading (place_of a) (place_of b)) (part false a r) (part false b s))
        (reading-like a ns ms l m.0 (λ x e. f x (or-left (stands_free x a) (stands_free x b) e)))
        (reading-like b ns ms l m.1 (λ x e. f x (or-right (stands_free x a) (stands_free x b) e)))
    node-like (raw_apply a b) at ns ms l q f =
        let m = halves ns ms (StandsIn a) (StandsIn b) q in
        both-like (λ r s. from_two (apply_reading (place_of a) (place_of b)) (part false a r) (part false b s))
        (reading-like a ns ms l m.0 (λ x e. f x (or-left (stands_free x a) (stands_free x b) e)))
        (reading-like b ns ms l m.1 (λ x e. f x (or-right (stands_free x a) (stands_free x b) e)))
    node-like (raw_composition a b) at ns ms l q f =
        let m = halves ns ms (StandsIn a) (StandsIn b) q in
        both-like (λ r s. from_two (composition_reading at (place_of a) (place_of b)) (part false a r) (part false b s))
        (reading-like a ns ms l m.0 (λ x e. f x (or-left (stands_free x a) (stands_free x b) e)))
        (reading-like b ns ms l m.1 (λ x e. f x (or-right (stands_free x a) (stands_free x b) e)))
    node-like (raw_pair a b) at ns ms l q f =
        let m = halves ns ms (StandsIn a) (StandsIn b) q in
        both-like (λ r s. from_two pair_reading (part false a r) (part false b s))
        (reading-like a ns ms l m.0 (λ x e. f x (or-left (stands_free x a) (stands_free x b) e)))
        (reading-like b ns ms l m.1 (λ x e. f x (or-right (stands_free x a) (stands_free x b) e)))
    node-like raw_empty_set at ns ms l q f = refl
    node-like (raw_extension ts) at ns ms l q f = extension-like ts at ns ms l q f
    node-like (raw_for_all xs p) at ns ms l q f =
        let bs = premise_clues int_max ns (bound_names xs) p in
        let out : (x : List ℕ) → stands_free x p ≡ true → is_among x xs ≡ false → SameAt ns ms x = λ x h m. f x (and-not (is_among x xs) (stands_free x p) m h) in
        let e = premise-like p ns ms (bound_names xs) l q (λ x h u. out x h (sym (names-bound xs x) ∙ u)) in
        let r = reading-like p (inside bs ns) (inside bs ms) (like-inside bs ns ms l) (all-inside bs ns ms (StandsIn p) q) (λ x h. either-same bs ns ms x (λ u. out x h (sym (premise-bound int_max p ns (bound_names xs) x ∙ names-bound xs x) ∙ u))) in
        ap (λ w. quantified for_all (twice [] xs) bs (part true p w)) r ∙ ap (λ cs. quantified for_all (twice [] xs) cs (part true p (reading int_max (inside cs ms) p))) e
    node-like (raw_exists xs p) at ns ms l q f =
        let bs = clues int_max ns (bound_names xs) p in
        let out : (x : List ℕ) → stands_free x p ≡ true → is_among x xs ≡ false → SameAt ns ms x = λ x h m. f x (and-not (is_among x xs) (stands_free x p) m h) in
        let e = clues-like p ns ms (bound_names xs) l q (λ x h u. out x h (sym (names-bound xs x) ∙ u)) in
        let r = reading-like p (inside bs ns) (inside bs ms) (like-inside bs ns ms l) (all-inside bs ns ms (StandsIn p) q) (λ x h. either-same bs ns ms x (λ u. out x h (sym (clues-bound int_max p ns (bound_names xs) x ∙ names-bound xs x) ∙ u))) in
        ap (λ w. quantified for_some (twice [] xs) bs (part true p w)) r ∙ ap (λ cs. quantified for_some (twice [] xs) cs (part true p (reading int_max (inside cs ms) p))) e
    node-like (raw_comprehension xs p) at ns ms l q f =
        let rs = ranges int_max ns xs 0 (unranged xs) p in
        let out : (x : List ℕ) → stands_free x p ≡ true → is_among x xs ≡ false → SameAt ns ms x = λ x h m. f x (and-not (is_among x xs) (stands_free x p) m h) in
        let e = ranges-like p ns ms xs 0 (unranged xs) l q out in
        let r = rest-like p (inside (as_bound rs) ns) (inside (as_bound rs) ms) rs 0 None (like-inside (as_bound rs) ns ms l) (all-inside (as_bound rs) ns ms (StandsIn p) q) (λ x h. either-same (as_bound rs) ns ms x (λ u. out x h (sym (ranges-bound int_max p ns xs 0 (unranged xs) x ∙ unranged-bound xs x) ∙ u))) in
        ap (λ b. comprehended at (twice [] xs) rs (body_of b)) r ∙ ap (λ ws. comprehended at (twice [] xs) ws (body_of (rest int_max (inside (as_bound ws) ms) ws 0 None p))) e
    node-like (raw_lambda xs p v) at ns ms l q f =
        let rs = ranges int_max ns xs 0 (unranged xs) p in
        let m = halves ns ms (StandsIn p) (StandsIn v) q in
        let out : (x : List ℕ) → (stands_free x p || stands_free x v) ≡ true → is_among x xs ≡ false → SameAt ns ms x = λ x h n. f x (and-not (is_among x xs) (stands_free x p || stands_free x v) n h) in
        let within : (x : List ℕ) → (stands_free x p || stands_free x v) ≡ true → SameAt (inside (as_bound rs) ns) (inside (as_bound rs) ms) x = λ x h. either-same (as_bound rs) ns ms x (λ u. out x h (sym (ranges-bound int_max p ns xs 0 (unranged xs) x ∙ unranged-bound xs x) ∙ u)) in
        let e = ranges-like p ns ms xs 0 (unranged xs) l m.0 (λ x h n. out x (or-left (stands_free x p) (stands_free x v) h) n) in
        let r = rest-like p (inside (as_bound rs) ns) (inside (as_bound rs) ms) rs 0 None (like-inside (as_bound rs) ns ms l) (all-inside (as_bound rs) ns ms (StandsIn p) m.0) (λ x h. within x (or-left (stands_free x p) (stands_free x v) h)) in
        let s = reading-like v (inside (as_bound rs) ns) (inside (as_bound rs) ms) (like-inside (as_bound rs) ns ms l) (all-inside (as_bound rs) ns ms (StandsIn v) m.1) (λ x h. within x (or-right (stands_free x p) (stands_free x v) h)) in
        ap (λ b. abstracted at (twice [] xs) rs (body_of b) (place_of v) (part false v (reading int_max (inside (as_bound rs) ns) v))) r
        ∙ ap (λ w. abstracted at (twice [] xs) rs (body_of (rest int_max (inside (as_bound rs) ms) rs 0 None p)) (place_of v) (part false v w)) s
        ∙ ap (λ ws. abstracted at (twice [] xs) ws (body_of (rest int_max (inside (as_bound ws) ms) ws 0 None p)) (place_of v) (part false v (reading int_max (inside (as_bound ws) ms) v))) e
    node-like (raw_typed_empty t) at ns ms l q f = ap (typed_empty at) (type-like t ns ms l)
    node-like (raw_typed_for_all ws p) at ns ms l q f =
        let bs = printed_bounds ns ws in
        let r = reading-like p (inside bs ns) (inside bs ms) (like-inside bs ns ms l) (all-inside bs ns ms (StandsIn p) q) (λ x h. inside-same bs ns ms x (f x h)) in
        ap (λ c. quantified for_all (wrong_bounds (suc c) ws) bs (part true p (reading int_max (inside bs ns) p))) l.count
        ∙ ap (λ w. quantified for_all (wrong_bounds (suc (count_locals ms)) ws) bs (part true p w)) r
        ∙ ap (λ cs. quantified for_all (wrong_bounds (suc (count_locals ms)) ws) cs (part true p (reading int_max (inside cs ms) p))) (printed-like ws ns ms l)
    node-like (raw_typed_exists ws p) at ns ms l q f =
        let bs = printed_bounds ns ws in
        let r = reading-like p (inside bs ns) (inside bs ms) (like-inside bs ns ms l) (all-inside bs ns ms (StandsIn p) q) (λ x h. inside-same bs ns ms x (f x h)) in
        ap (λ c. quantified for_some (wrong_bounds (suc c) ws) bs (part true p (reading int_max (inside bs ns) p))) l.count
        ∙ ap (λ w. quantified for_some (wrong_bounds (suc (count_locals ms)) ws) bs (part true p w)) r
        ∙ ap (λ cs. quantified for_some (wrong_bounds (suc (count_locals ms)) ws) cs (part true p (reading int_max (inside cs ms) p))) (printed-like ws ns ms l)
    node-like (raw_ranged_comprehension ws p) at ns ms l q f =
        let reads = range_reads int_max ns ws in
        let bs = as_bound (printed_ranges reads) in
        let m = halves ns ms (StandsInRanges ws) (StandsIn p) q in
        let e = reads-like ws ns ms l m.0 (λ x h. f x (or-left (is_free_in_ranges x ws) (stands_free x p) h)) in
        let r = reading-like p (inside bs ns) (inside bs ms) (like-inside bs ns ms l) (all-inside bs ns ms (StandsIn p) m.1) (λ x h. inside-same bs ns ms x (f x (or-right (is_free_in_ranges x ws) (stands_free x p) h))) in
        ap (λ c. comprehended at (wrong_ranges (suc c) reads) (printed_ranges reads) (part true p (reading int_max (inside bs ns) p))) l.count
        ∙ ap (λ w. comprehended at (wrong_ranges (suc (count_locals ms)) reads) (printed_ranges reads) (part true p w)) r
        ∙ ap (λ rs. comprehended at (wrong_ranges (suc (count_locals ms)) rs) (printed_ranges rs) (part true p (reading int_max (inside (as_bound (printed_ranges rs)) ms) p))) e
    node-like (raw_ranged_lambda ws p v) at ns ms l q f =
        let reads = range_reads int_max ns ws in
        let bs = as_bound (printed_ranges reads) in
        let m = halves ns ms (StandsInRanges ws) (Either (StandsIn p) (StandsIn v)) q in
        let k = halves ns ms (StandsIn p) (StandsIn v) m.1 in
        let e = reads-like ws ns ms l m.0 (λ x h. f x (or-left (is_free_in_ranges x ws || stands_free x p) (stands_free x v) (or-left (is_free_in_ranges x ws) (stands_free x p) h))) in
        let r = reading-like p (inside bs ns) (inside bs ms) (like-inside bs ns ms l) (all-inside bs ns ms (StandsIn p) k.0) (λ x h. inside-same bs ns ms x (f x (or-left (is_free_in_ranges x ws || stands_free x p) (stands_free x v) (or-right (is_free_in_ranges x ws) (stands_free x p) h)))) in
        let s = reading-like v (inside bs ns) (inside bs ms) (like-inside bs ns ms l) (all-inside bs ns ms (StandsIn v) k.1) (λ x h. inside-same bs ns ms x (f x (or-right (is_free_in_ranges x ws || stands_free x p) (stands_free x v) h))) in
        ap (λ c. abstracted at (wrong_ranges (suc c) reads) (printed_ranges reads) (part true p (reading int_max (inside bs ns) p)) (place_of v) (part false v (reading int_max (inside bs ns) v))) l.count
        ∙ ap (λ w. abstracted at (wrong_ranges (suc (count_locals ms)) reads) (printed_ranges reads) (part true p w) (place_of v) (part false v (reading int_max (inside bs ns) v))) r
        ∙ ap (λ w. abstracted at (wrong_ranges (suc (count_locals ms)) reads) (printed_ranges reads) (part true p (reading int_max (inside bs ms) p)) (place_of v) (part false v w)) s
        ∙ ap (λ rs. abstracted at (wrong_ranges (suc (count_locals ms)) rs) (printed_ranges rs) (part true p (reading int_max (inside (as_bound (printed_ranges rs)) ms) p)) (place_of v) (part false v (reading int_max (inside (as_bound (printed_ranges rs)) ms) v))) e

    reads-like : (ws : RawRanges) (ns ms : Names) → Like ns ms → AllSame ns ms (StandsInRanges ws) → ((x : List ℕ) → is_free_in_ranges x ws ≡ true → SameAt ns ms x) → range_reads int_max ns ws ≡ range_reads int_max ms ws
    reads-like no_ranges ns ms l q f = refl
    reads-like (range_and i n d ws) ns ms l q f =
        let m = halves ns ms (StandsIn d) (StandsInRanges ws) q in
        ap (λ r. record { at = i; number = n; place = place_of d; reading = part false d r } ∷ range_reads int_max ns ws) (reading-like d ns ms l m.0 (λ x h. f x (or-left (stands_free x d) (is_free_in_ranges x ws) h)))
        ∙ ap (λ rs. record { at = i; number = n; place = place_of d; reading = part false d (reading int_max ms d) } ∷ rs) (reads-like ws ns ms l m.1 (λ x h. f x (or-right (stands_free x d) (is_free_in_ranges x ws) h)))

    extension-like : (ts : RawTrees) (at : ℕ) (ns ms : Names) → Like ns ms → AllSame ns ms (StandsInSome ts) → ((x : List ℕ) → is_free_in_some x ts ≡ true → SameAt ns ms x) → extension_reading int_max ns at ts ≡ extension_reading int_max ms at ts
    extension-like no_trees at ns ms l q f = refl
    extension-like (tree_and t ts) at ns ms l q f =
        let m = halves ns ms (StandsIn t) (StandsInSome ts) q in
        elements-like ts at ns ms (from_one single_reading (part false t (reading int_max ns t))) l m.1 (λ x h. f x (or-right (stands_free x t) (is_free_in_some x ts) h))
        ∙ ap (λ r. elements_reading int_max ms at (from_one single_reading (part false t r)) ts) (reading-like t ns ms l m.0 (λ x h. f x (or-left (stands_free x t) (is_free_in_some x ts) h)))

    elements-like : (ts : RawTrees) (at : ℕ) (ns ms : Names) (before : Reading) → Like ns ms → AllSame ns ms (StandsInSome ts) → ((x : List ℕ) → is_free_in_some x ts ≡ true → SameAt ns ms x) → elements_reading int_max ns at before ts ≡ elements_reading int_max ms at before ts
    elements-like no_trees at ns ms before l q f = refl
    elements-like (tree_and t ts) at ns ms before l q f =
        let m = halves ns ms (StandsIn t) (StandsInSome ts) q in
        elements-like ts at ns ms (from_two (extended at) before (part false t (reading int_max ns t))) l m.1 (λ x h. f x (or-right (stands_free x t) (is_free_in_some x ts) h))
        ∙ ap (λ r. elements_reading int_max ms at (from_two (extended at) before (part false t r)) ts) (reading-like t ns ms l m.0 (λ x h. f x (or-left (stands_free x t) (is_free_in_some x ts) h)))

    premise-like : (t : RawTree) (ns ms : Names) (bs : List Bound) → Like ns ms → AllSame ns ms (StandsIn t) → ((x : List ℕ) → stands_free x t ≡ true → is_bound x bs ≡ false → SameAt ns ms x) → premise_clues int_max ns bs t ≡ premise_clues int_max ms bs t
    premise-like (raw at (raw_infix Implies a b)) ns ms bs l q f = clues-like a ns ms bs l (halves ns ms (StandsIn a) (StandsIn b) q).0 (λ x h u. f x (or-left (stands_free x a) (stands_free x b) h) u)
    premise-like (raw at _) ns ms bs l q f = refl

    clues-like : (t : RawTree) (ns ms : Names) (bs : List Bound) → Like ns ms → AllSame ns ms (StandsIn t) → ((x : List ℕ) → stands_free x t ≡ true → is_bound x bs ≡ false → SameAt ns ms x) → clues int_max ns bs t ≡ clues int_max ms bs t
    clues-like (raw at (raw_infix o a d)) ns ms bs l q f =
        let m = halves ns ms (StandsIn a) (StandsIn d) q in
        let first = clues-like a ns ms bs l m.0 (λ x h u. f x (or-left (stands_free x a) (stands_free x d) h) u) in
        let second = clues-like d ns ms (clues int_max ns bs a) l m.1 (λ x h u. f x (or-right (stands_free x a) (stands_free x d) h) (sym (clues-bound int_max a ns bs x) ∙ u)) in
        let r = reading-like d (inside bs ns) (inside bs ms) (like-inside bs ns ms l) (all-inside bs ns ms (StandsIn d) m.1) (λ x h. either-same bs ns ms x (λ u. f x (or-right (stands_free x a) (stands_free x d) h) u)) in
        ap (λ cs. told_by o bs (name_of a) cs (reading int_max (inside bs ns) d).outcome) (second ∙ ap (λ cs. clues int_max ms cs d) first)
        ∙ ap (λ w. told_by o bs (name_of a) (clues int_max ms (clues int_max ms bs a) d) w.outcome) r
    clues-like (raw at _) ns ms bs l q f = refl

    ranges-like : (t : RawTree) (ns ms : Names) (all : List RawName) (i : ℕ) (rs : List Ranged) → Like ns ms → AllSame ns ms (StandsIn t) → ((x : List ℕ) → stands_free x t ≡ true → is_among x all ≡ false → SameAt ns ms x) → ranges int_max ns all i rs t ≡ ranges int_max ms all i rs t
    ranges-like (raw at (raw_infix o a d)) ns ms all i rs l q f =
        let m = halves ns ms (StandsIn a) (StandsIn d) q in
        let first = ranges-like a ns ms all i rs l m.0 (λ x h n. f x (or-left (stands_free x a) (stands_free x d) h) n) in
        let second = ranges-like d ns ms all (i + length (conjuncts a)) (ranges int_max ns all i rs a) l m.1 (λ x h n. f x (or-right (stands_free x a) (stands_free x d) h) n) in
        let both = ranges int_max ms all (i + length (conjuncts a)) (ranges int_max ms all i rs a) d in
        ap (λ ws. ranges_by o i rs (name_of a) ws (names_one all d) (part false d (reading int_max ns d)).outcome) (second ∙ ap (λ ws. ranges int_max ms all (i + length (conjuncts a)) ws d) first)
        ∙ elim (either (names_one all d)) [
          | inl e ↦ ap (λ c. ranges_by o i rs (name_of a) both c (part false d (reading int_max ns d)).outcome) e
              ∙ hidden o i rs (name_of a) both (part false d (reading int_max ns d)).outcome (part false d (reading int_max ms d)).outcome
              ∙ sym (ap (λ c. ranges_by o i rs (name_of a) both c (part false d (reading int_max ms d)).outcome) e)
          | inr e ↦ ap (λ w. ranges_by o i rs (name_of a) both (names_one all d) (part false d w).outcome) (reading-like d ns ms l m.1 (λ x h. f x (or-right (stands_free x a) (stands_free x d) h) (one-false all d x e h)))
        ]
    ranges-like (raw at _) ns ms all i rs l q f = refl

    rest-like : (t : RawTree) (ns ms : Names) (rs : List Ranged) (i : ℕ) (before : Option Reading) → Like ns ms → AllSame ns ms (StandsIn t) → ((x : List ℕ) → stands_free x t ≡ true → SameAt ns ms x) → rest int_max ns rs i before t ≡ rest int_max ms rs i before t
    rest-like (raw at node) ns ms rs i before l q f =
        rest_in-like node ns ms rs i before (part true (raw at node) (node_reading int_max ns at node)) l q f
        ∙ ap (λ r. rest_in int_max ms rs i before (part true (raw at node) r) node) (node-like node at ns ms l q f)

    rest_in-like : (node : RawTreeNode) (ns ms : Names) (rs : List Ranged) (i : ℕ) (before : Option Reading) (r : Reading) → Like ns ms → AllSame ns ms (StandsInNode node) → ((x : List ℕ) → is_free_in x node ≡ true → SameAt ns ms x) → rest_in int_max ns rs i before r node ≡ rest_in int_max ms rs i before r node
    rest_in-like (raw_infix o a b) ns ms rs i before r l q f =
        let m = halves ns ms (StandsIn a) (StandsIn b) q in
        ap (λ w. cond (is_and o) w (left_over (is_used i rs) before r))
        (rest-like b ns ms rs (i + length (conjuncts a)) (rest int_max ns rs i before a) l m.1 (λ x h. f x (or-right (stands_free x a) (stands_free x b) h))
        ∙ ap (λ w. rest int_max ms rs (i + length (conjuncts a)) w b) (rest-like a ns ms rs i before l m.0 (λ x h. f x (or-left (stands_free x a) (stands_free x b) h))))
    rest_in-like _ ns ms rs i before r l q f = refl

pub readings-kept : ReadingsAreKept
readings-kept max t ns ms l = reading-like max t ns ms (record { count = l.locals; sets = λ x. sets-from ns ms x (l.sets x) }) (λ m s. dollar-from ns ms l.locals m (l.dollar_names m s)) (λ x h. same-from ns ms x (l.names x h))
