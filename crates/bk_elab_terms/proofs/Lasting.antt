-- Right sides that give no range, and those of them that serve for the body as they were read outside.
use Rattle.std.proofs.Common.{◌≡◌, ◌⊎◌, inl, inr, ℕ, ◌+◌, ℤ, List, [], ◌∷◌, ◌++◌, length, refl, sym, ◌∙◌, ap, subst, Bool, true, false, cond, not, ◌&&◌, ◌||◌}
use Rattle.std.specs.Prelude.{Option, None, Some}
use Rattle.bk_val.specs.ValueType.{ValueType, int_type, bool_type, enum_type, pair_type, set_type}
use Rattle.bk_form.specs.Formula.{Formula, btrue}
use Rattle.bk_form.specs.declared.operator.UnOp.TheVariants.{Pow as PowerOf, Pow1 as Power1Of}
use Rattle.std.specs.Str.{bytes_eq}
use Rattle.bk_raw.specs.declared.operator.Constant.TheVariants.{Integer, Natural, Natural1}
use Rattle.bk_raw.specs.declared.operator.InfixOp.{InfixOp}
use Rattle.bk_raw.specs.declared.operator.InfixOp.TheVariants.{And, Member, Equal, Relations, PartialFunctions, TotalFunctions, PartialInjections, TotalInjections, PartialSurjections, TotalSurjections, Bijections, Union, Intersection, Minus, Override, Maplet, Times}
use Rattle.bk_raw.specs.declared.operator.WordOp.{WordOp}
use Rattle.bk_raw.specs.declared.operator.WordOp.TheVariants.{Pow, Pow1, Fin, Fin1}
use Rattle.bk_raw.specs.declared.term.RawName.{RawName}
use Rattle.bk_raw.specs.Trees.RawTree.{RawTree, raw, RawTreeNode, raw_constant, raw_word, raw_infix, raw_pair, raw_empty_set, raw_extension, RawTrees, no_trees, tree_and}
use Rattle.bk_raw.specs.Trees.FreeNames.{conjuncts}
use Rattle.bk_raw.specs.Meaning.Names.{Names}
use Rattle.bk_raw.specs.Meaning.Outcome.{Joint, union_joint, inter_joint, minus_joint, over_joint, Partial, whole, hollow, single_of, pair_of, joint_of, whole_of, Outcome, partial, ranging, holding, silent, Reading, silently, plainly, ask_value, ask_set, ask_domain, of_answer, of_answers, joins}
use Rattle.bk_raw.specs.Meaning.OperatorReadings.{word_reading, domain_made, infix_reading, times, joint, minus, minus_by, one_type_by, joined, on_values, paired, pair_reading, singled, single_reading, extended}
use Rattle.bk_raw.specs.Meaning.Binders.{Bound, bound_names, inside, as_single, Ranged, unranged, ranged_as, ranged_by, ranges_by, first_range, as_bound, range_type}
use Rattle.bk_raw.specs.Meaning.TermReading.{place_of, is_predicate, is_alike, part, name_of, names_one, takes_predicate, is_connective, strict_faults, behind_faults, spoilt_by, from_one, from_two, reading, node_reading, elements_reading, extension_reading, ranges}
use Rattle.bk_raw.proofs.BoundNames.{no-name, or-cases, either}
use Rattle.bk_raw.proofs.Filled.{and-both}
use Rattle.bk_raw.specs.Errors.Faults.{Fault, not_predicate}
use Rattle.bk_elab_terms.specs.Conjuncts.{IsRight}
use Rattle.bk_elab_terms.specs.declared.form.TwoParts.TheVariants.{Infix}
use Rattle.bk_elab_terms.specs.declared.outcome.Step.{Step}
use Rattle.bk_elab_terms.specs.Forms.{two_reading}
use Rattle.bk_elab_terms.specs.Shown.{IsRead}
use Rattle.bk_elab_terms.specs.Sights.{range_told}
use Rattle.bk_elab_terms.specs.Kept.{TypeGrows, Grows, names_dollar, has_additions, StaysKept, makes_power, makes_arrow, is_times, makes_joint, is_maplet, is_domain, is_hollow, is_hollow_node, are_hollow, gives_no_range, is_set_type, is_lasting}
use Rattle.bk_elab_terms.proofs.Bare.{bare_outcome, bare_reading}
use Rattle.bk_elab_terms.proofs.Grown.{grows-itself, grows-through}
use Rattle.bk_elab_terms.proofs.Unmoved.{unmoved}

-- ---- by form
-- nothing is told, or a domain that is no value
abbrev IsDomain : Outcome → Type 0
IsDomain silent = Unit {0}
IsDomain (ranging f t there) = Unit {0}
IsDomain _ = ⊥

-- nothing is told, or an expression that gives no type
abbrev IsHollow : Outcome → Type 0
IsHollow silent = Unit {0}
IsHollow (partial p) = whole_of p ≡ None
IsHollow _ = ⊥

part-domain : (w : Bool) (t : RawTree) (r : Reading) → IsDomain r.outcome → IsDomain (part w t r).outcome
part-domain w t r h = by (is_alike w (is_predicate t))
  where
    by : (c : Bool) → IsDomain (cond c r (silently (not_predicate (place_of t) ∷ r.faults))).outcome
    by true = h
    by false = tt

part-hollow : (w : Bool) (t : RawTree) (r : Reading) → IsHollow r.outcome → IsHollow (part w t r).outcome
part-hollow w t r h = by (is_alike w (is_predicate t))
  where
    by : (c : Bool) → IsHollow (cond c r (silently (not_predicate (place_of t) ∷ r.faults))).outcome
    by true = h
    by false = tt

spoilt-domain : (fs : List Fault) (r : Reading) → IsDomain r.outcome → IsDomain (spoilt_by fs r).outcome
spoilt-domain [] r h = h
spoilt-domain (f ∷ fs) r h = tt

spoilt-hollow : (fs : List Fault) (r : Reading) → IsHollow r.outcome → IsHollow (spoilt_by fs r).outcome
spoilt-hollow [] r h = h
spoilt-hollow (f ∷ fs) r h = tt

answer-domain : {A : Type 0} (k : A → Outcome) → ((x : A) → IsDomain (k x)) → (x : Option A) → IsDomain (of_answer k x)
answer-domain k h None = tt
answer-domain k h (Some x) = h x

answers-domain : {A B : Type 0} (k : A → B → Outcome) → ((x : A) (y : B) → IsDomain (k x y)) → (x : Option A) (y : Option B) → IsDomain (of_answers k x y)
answers-domain k h None y = tt
answers-domain k h (Some x) None = tt
answers-domain k h (Some x) (Some y) = h x y

power-domain : (o : WordOp) (at x : ℕ) (a : Outcome) → makes_power o ≡ true → IsDomain (word_reading o at x a).outcome
power-domain Pow at x a h = answer-domain (domain_made at PowerOf) (λ d. tt) (ask_domain x a).answer
power-domain Pow1 at x a h = answer-domain (domain_made at Power1Of) (λ d. tt) (ask_domain x a).answer
power-domain Fin at x a h = answer-domain (domain_made at PowerOf) (λ d. tt) (ask_domain x a).answer
power-domain Fin1 at x a h = answer-domain (domain_made at Power1Of) (λ d. tt) (ask_domain x a).answer
power-domain _ at x a h = no-name h

arrow-domain : (o : InfixOp) (at x y : ℕ) (a b : Outcome) → makes_arrow o ≡ true → IsDomain (infix_reading o at x y a b).outcome
arrow-domain Relations at x y a b h = answers-domain _ (λ d e. tt) (ask_domain x a).answer (ask_domain y b).answer
arrow-domain PartialFunctions at x y a b h = answers-domain _ (λ d e. tt) (ask_domain x a).answer (ask_domain y b).answer
arrow-domain TotalFunctions at x y a b h = answers-domain _ (λ d e. tt) (ask_domain x a).answer (ask_domain y b).answer
arrow-domain PartialInjections at x y a b h = answers-domain _ (λ d e. tt) (ask_domain x a).answer (ask_domain y b).answer
arrow-domain TotalInjections at x y a b h = answers-domain _ (λ d e. tt) (ask_domain x a).answer (ask_domain y b).answer
arrow-domain PartialSurjections at x y a b h = answers-domain _ (λ d e. tt) (ask_domain x a).answer (ask_domain y b).answer
arrow-domain TotalSurjections at x y a b h = answers-domain _ (λ d e. tt) (ask_domain x a).answer (ask_domain y b).answer
arrow-domain Bijections at x y a b h = answers-domain _ (λ d e. tt) (ask_domain x a).answer (ask_domain y b).answer
arrow-domain _ at x y a b h = no-name h

times-left : (at x y : ℕ) (a b : Outcome) → IsDomain a → IsDomain (times at x y a b).outcome
times-left at x y silent b h = tt
times-left at x y (ranging f t there) (partial (whole g int_type)) h = tt
times-left at x y (ranging f t there) (partial (whole g bool_type)) h = tt
times-left at x y (ranging f t there) (partial (whole g (enum_type s))) h = tt
times-left at x y (ranging f t there) (partial (whole g (pair_type u v))) h = tt
times-left at x y (ranging f t there) (partial (whole g (set_type u))) h = tt
times-left at x y (ranging f t there) (partial hollow) h = tt
times-left at x y (ranging f t there) (partial (single_of p)) h = tt
times-left at x y (ranging f t there) (partial (pair_of p q)) h = tt
times-left at x y (ranging f t there) (partial (joint_of j p q)) h = tt
times-left at x y (ranging f t there) (ranging g u other) h = tt
times-left at x y (ranging f t there) (holding g) h = tt
times-left at x y (ranging f t there) silent h = tt
times-left at x y (partial p) b h = absurd h
times-left at x y (holding f) b h = absurd h

times-right : (at x y : ℕ) (a b : Outcome) → IsDomain b → IsDomain (times at x y a b).outcome
times-right at x y (partial (whole f int_type)) silent h = tt
times-right at x y (partial (whole f bool_type)) silent h = tt
times-right at x y (partial (whole f (enum_type s))) silent h = tt
times-right at x y (partial (whole f (pair_type t u))) silent h = tt
times-right at x y (partial (whole f (set_type t))) silent h = tt
times-right at x y (partial hollow) silent h = tt
times-right at x y (partial (single_of p)) silent h = tt
times-right at x y (partial (pair_of p q)) silent h = tt
times-right at x y (partial (joint_of j p q)) silent h = tt
times-right at x y (ranging f t there) silent h = tt
times-right at x y (holding f) silent h = tt
times-right at x y silent silent h = tt
times-right at x y (partial (whole f int_type)) (ranging g v there) h = tt
times-right at x y (partial (whole f bool_type)) (ranging g v there) h = tt
times-right at x y (partial (whole f (enum_type s))) (ranging g v there) h = tt
times-right at x y (partial (whole f (pair_type t u))) (ranging g v there) h = tt
times-right at x y (partial (whole f (set_type t))) (ranging g v there) h = tt
times-right at x y (partial hollow) (ranging g v there) h = tt
times-right at x y (partial (single_of p)) (ranging g v there) h = tt
times-right at x y (partial (pair_of p q)) (ranging g v there) h = tt
times-right at x y (partial (joint_of j p q)) (ranging g v there) h = tt
times-right at x y (ranging f t there) (ranging g v other) h = tt
times-right at x y (holding f) (ranging g v there) h = tt
times-right at x y silent (ranging g v there) h = tt
times-right at x y a (partial p) h = absurd h
times-right at x y a (holding f) h = absurd h

only-times : (o : InfixOp) (P : InfixOp → Type 0) → is_times o ≡ true → P Times → P o
only-times Times P h p = p
only-times _ P h p = no-name h

domain-read : (m : ℤ) (names : Names) (t : RawTree) → is_domain t ≡ true → IsDomain (reading m names t).outcome
domain-read m names (raw at (raw_constant Integer)) h = tt
domain-read m names (raw at (raw_constant Natural)) h = tt
domain-read m names (raw at (raw_constant Natural1)) h = tt
domain-read m names (raw at (raw_constant _)) h = no-name h
domain-read m names (raw at (raw_word o a)) h = power-domain o at (place_of a) (part (takes_predicate o) a (reading m names a)).outcome h
domain-read m names (raw at (raw_infix o a b)) h =
    spoilt-domain (strict_faults o a b) (from_two (infix_reading o at (place_of a) (place_of b)) (part (is_connective o) a (reading m names a)) (part (is_connective o) b (reading m names b)))
    (elim (or-cases (makes_arrow o) (is_times o && (is_domain a || is_domain b)) h) [
      | inl k ↦ arrow-domain o at (place_of a) (place_of b) (part (is_connective o) a (reading m names a)).outcome (part (is_connective o) b (reading m names b)).outcome k
      | inr k ↦
          let both = and-both (is_times o) (is_domain a || is_domain b) k in
          only-times o (λ q. IsDomain (infix_reading q at (place_of a) (place_of b) (part (is_connective o) a (reading m names a)).outcome (part (is_connective o) b (reading m names b)).outcome).outcome) both.0
          (elim (or-cases (is_domain a) (is_domain b) both.1) [
            | inl l ↦ times-left at (place_of a) (place_of b) (part (is_connective o) a (reading m names a)).outcome (part (is_connective o) b (reading m names b)).outcome (part-domain (is_connective o) a (reading m names a) (domain-read m names a l))
            | inr l ↦ times-right at (place_of a) (place_of b) (part (is_connective o) a (reading m names a)).outcome (part (is_connective o) b (reading m names b)).outcome (part-domain (is_connective o) b (reading m names b) (domain-read m names b l))
          ])
    ])
domain-read m names (raw at _) h = no-name h

-- ---- expressions that give no type
joint-hollow : (j : Joint) (at : ℕ) (p q : Partial) → whole_of p ≡ None → whole_of q ≡ None → IsHollow (joint j at p q).outcome
joint-hollow j at p q h k = subst (λ (v : Option (Formula × ValueType)). IsHollow (one_type_by (joins j) (joined j) (plainly (partial (joint_of j p q))) at v (whole_of q) p q).outcome) (sym h)
    (subst (λ (w : Option (Formula × ValueType)). IsHollow (one_type_by (joins j) (joined j) (plainly (partial (joint_of j p q))) at None w p q).outcome) (sym k) refl)

minus-hollow : (at x y : ℕ) (p q : Partial) → whole_of p ≡ None → whole_of q ≡ None → IsHollow (minus at x y p q).outcome
minus-hollow at x y p q h k = subst (λ (v : Option (Formula × ValueType)). IsHollow (minus_by at x y v (whole_of q) p q).outcome) (sym h)
    (subst (λ (w : Option (Formula × ValueType)). IsHollow (minus_by at x y None w p q).outcome) (sym k) (joint-hollow minus_joint at p q h k))

values-hollow : (k : Partial → Partial → Reading) → ((p q : Partial) → whole_of p ≡ None → whole_of q ≡ None → IsHollow (k p q).outcome) → (a b : Outcome) → IsHollow a → IsHollow b → IsHollow (on_values k a b).outcome
values-hollow k f (partial p) (partial q) h g = f p q h g
values-hollow k f (partial p) silent h g = tt
values-hollow k f silent b h g = tt
values-hollow k f (partial p) (ranging u t there) h g = absurd g
values-hollow k f (partial p) (holding u) h g = absurd g
values-hollow k f (ranging u t there) b h g = absurd h
values-hollow k f (holding u) b h g = absurd h

paired-hollow : (p q : Partial) → (whole_of p ≡ None) ⊎ (whole_of q ≡ None) → whole_of (paired p q) ≡ None
paired-hollow (whole f t) (whole g u) h = absurd (elim h [ inl e ↦ no-whole e | inr e ↦ no-whole e ])
  where
    no-whole : {d : Formula × ValueType} → Some d ≡ None → ⊥
    no-whole e = cc
paired-hollow (whole f t) hollow h = refl
paired-hollow (whole f t) (single_of q) h = refl
paired-hollow (whole f t) (pair_of q r) h = refl
paired-hollow (whole f t) (joint_of j q r) h = refl
paired-hollow hollow q h = refl
paired-hollow (single_of p) q h = refl
paired-hollow (pair_of p r) q h = refl
paired-hollow (joint_of j p r) q h = refl

pair-hollow : (a b : Outcome) → IsHollow a ⊎ IsHollow b → IsHollow (pair_reading a b).outcome
pair-hollow (partial p) (partial q) h = paired-hollow p q h
pair-hollow (partial p) (ranging g t there) h = tt
pair-hollow (partial p) (holding g) h = tt
pair-hollow (partial p) silent h = tt
pair-hollow (ranging f t there) b h = tt
pair-hollow (holding f) b h = tt
pair-hollow silent b h = tt

singled-hollow : (p : Partial) → whole_of p ≡ None → whole_of (singled p) ≡ None
singled-hollow (whole f t) h = h-none h
  where
    h-none : {d e : Formula × ValueType} → Some d ≡ None → Some e ≡ None
    h-none k = absurd (cc)
singled-hollow hollow h = refl
singled-hollow (single_of p) h = refl
singled-hollow (pair_of p q) h = refl
singled-hollow (joint_of j p q) h = refl

single-hollow : (a : Outcome) → IsHollow a → IsHollow (single_reading a).outcome
single-hollow (partial p) h = singled-hollow p h
single-hollow (ranging f t there) h = absurd h
single-hollow (holding f) h = absurd h
single-hollow silent h = tt

extended-hollow : (at : ℕ) (a b : Outcome) → IsHollow a → IsHollow b → IsHollow (extended at a b).outcome
extended-hollow at a b h k = values-hollow (λ p q. joint union_joint at p (singled q)) (λ p q e g. joint-hollow union_joint at p (singled q) e (singled-hollow q g)) a b h k

joint-read : (o : InfixOp) (at x y : ℕ) (a b : Outcome) → makes_joint o ≡ true → IsHollow a → IsHollow b → IsHollow (infix_reading o at x y a b).outcome
joint-read Union at x y a b h f g = values-hollow (joint union_joint at) (joint-hollow union_joint at) a b f g
joint-read Intersection at x y a b h f g = values-hollow (joint inter_joint at) (joint-hollow inter_joint at) a b f g
joint-read Minus at x y a b h f g = values-hollow (minus at x y) (minus-hollow at x y) a b f g
joint-read Override at x y a b h f g = values-hollow (joint over_joint at) (joint-hollow over_joint at) a b f g
joint-read _ at x y a b h f g = no-name h

only-maplet : (o : InfixOp) (P : InfixOp → Type 0) → is_maplet o ≡ true → P Maplet → P o
only-maplet Maplet P h p = p
only-maplet _ P h p = no-name h

module _ (m : ℤ) (names : Names) where
  mutual
    hollow-read : (t : RawTree) → is_hollow t ≡ true → IsHollow (reading m names t).outcome
    hollow-read (raw at node) h = hollow-node node at h

    hollow-node : (node : RawTreeNode) (at : ℕ) → is_hollow_node node ≡ true → IsHollow (node_reading m names at node).outcome
    hollow-node raw_empty_set at h = refl
    hollow-node (raw_extension ts) at h = hollow-extension ts at h
    hollow-node (raw_pair a b) at h = elim (or-cases (is_hollow a) (is_hollow b) h) [
      | inl k ↦ pair-hollow (part false a (reading m names a)).outcome (part false b (reading m names b)).outcome (inl (part-hollow false a (reading m names a) (hollow-read a k)))
      | inr k ↦ pair-hollow (part false a (reading m names a)).outcome (part false b (reading m names b)).outcome (inr (part-hollow false b (reading m names b) (hollow-read b k)))
    ]
    hollow-node (raw_infix o a b) at h =
        spoilt-hollow (strict_faults o a b) (from_two (infix_reading o at (place_of a) (place_of b)) (part (is_connective o) a (reading m names a)) (part (is_connective o) b (reading m names b)))
        (elim (either (is_maplet o)) [
          | inl k ↦
              only-maplet o (λ q. IsHollow (infix_reading q at (place_of a) (place_of b) (part (is_connective o) a (reading m names a)).outcome (part (is_connective o) b (reading m names b)).outcome).outcome) k
              (elim (or-cases (is_hollow a) (is_hollow b) (sym (ap (λ (c : Bool). cond c (is_hollow a || is_hollow b) (makes_joint o && (is_hollow a && is_hollow b))) k) ∙ h)) [
                | inl l ↦ pair-hollow (part (is_connective o) a (reading m names a)).outcome (part (is_connective o) b (reading m names b)).outcome (inl (part-hollow (is_connective o) a (reading m names a) (hollow-read a l)))
                | inr l ↦ pair-hollow (part (is_connective o) a (reading m names a)).outcome (part (is_connective o) b (reading m names b)).outcome (inr (part-hollow (is_connective o) b (reading m names b) (hollow-read b l)))
              ])
          | inr k ↦
              let one = and-both (makes_joint o) (is_hollow a && is_hollow b) (sym (ap (λ (c : Bool). cond c (is_hollow a || is_hollow b) (makes_joint o && (is_hollow a && is_hollow b))) k) ∙ h) in
              let both = and-both (is_hollow a) (is_hollow b) one.1 in
              joint-read o at (place_of a) (place_of b) (part (is_connective o) a (reading m names a)).outcome (part (is_connective o) b (reading m names b)).outcome one.0
              (part-hollow (is_connective o) a (reading m names a) (hollow-read a both.0)) (part-hollow (is_connective o) b (reading m names b) (hollow-read b both.1))
        ])
    hollow-node _ at h = no-name h

    hollow-extension : (ts : RawTrees) (at : ℕ) → are_hollow ts ≡ true → IsHollow (extension_reading m names at ts).outcome
    hollow-extension no_trees at h = tt
    hollow-extension (tree_and t ts) at h =
        let both = and-both (is_hollow t) (are_hollow ts) h in
        hollow-elements ts at (from_one single_reading (part false t (reading m names t))) both.1
        (single-hollow (part false t (reading m names t)).outcome (part-hollow false t (reading m names t) (hollow-read t both.0)))

    hollow-elements : (ts : RawTrees) (at : ℕ) (before : Reading) → are_hollow ts ≡ true → IsHollow before.outcome → IsHollow (elements_reading m names at before ts).outcome
    hollow-elements no_trees at before h k = k
    hollow-elements (tree_and t ts) at before h k =
        let both = and-both (is_hollow t) (are_hollow ts) h in
        hollow-elements ts at (from_two (extended at) before (part false t (reading m names t))) both.1
        (extended-hollow at before.outcome (part false t (reading m names t)).outcome k (part-hollow false t (reading m names t) (hollow-read t both.0)))

-- ---- no range
silent-gives : (o : InfixOp) → range_told o silent ≡ None
silent-gives Member = refl
silent-gives Equal = refl
silent-gives _ = refl

domain-gives : (o : InfixOp) (d : Outcome) → IsDomain d → range_told o d ≡ None
domain-gives o silent h = silent-gives o
domain-gives Member (ranging f t there) h = refl
domain-gives Equal (ranging f t there) h = refl
domain-gives _ (ranging f t there) h = refl
domain-gives o (partial p) h = absurd h
domain-gives o (holding f) h = absurd h

hollow-gives : (o : InfixOp) (d : Outcome) → IsHollow d → range_told o d ≡ None
hollow-gives o silent h = silent-gives o
hollow-gives o (partial (whole f t)) h = absurd (cc)
hollow-gives Member (partial hollow) h = refl
hollow-gives Member (partial (single_of p)) h = refl
hollow-gives Member (partial (pair_of p q)) h = refl
hollow-gives Member (partial (joint_of j p q)) h = refl
hollow-gives Equal (partial hollow) h = refl
hollow-gives Equal (partial (single_of p)) h = refl
hollow-gives Equal (partial (pair_of p q)) h = refl
hollow-gives Equal (partial (joint_of j p q)) h = refl
hollow-gives _ (partial hollow) h = refl
hollow-gives _ (partial (single_of p)) h = refl
hollow-gives _ (partial (pair_of p q)) h = refl
hollow-gives _ (partial (joint_of j p q)) h = refl
hollow-gives o (ranging f t there) h = absurd h
hollow-gives o (holding f) h = absurd h

predicate-gives : (o : InfixOp) (d : RawTree) (r : Reading) → is_predicate d ≡ true → range_told o (part false d r).outcome ≡ None
predicate-gives o d r h = ap (λ (c : Bool). range_told o (cond (is_alike false c) r (silently (not_predicate (place_of d) ∷ r.faults))).outcome) h ∙ silent-gives o

-- a right side of such a form gives no range
pub form-gives : (m : ℤ) (names : Names) (o : InfixOp) (d : RawTree) → gives_no_range d ≡ true → range_told o (part false d (reading m names d)).outcome ≡ None
form-gives m names o d h = elim (or-cases (is_predicate d) (is_domain d || is_hollow d) h) [
  | inl k ↦ predicate-gives o d (reading m names d) k
  | inr k ↦ elim (or-cases (is_domain d) (is_hollow d) k) [
    | inl l ↦ domain-gives o (part false d (reading m names d)).outcome (part-domain false d (reading m names d) (domain-read m names d l))
    | inr l ↦ hollow-gives o (part false d (reading m names d)).outcome (part-hollow false d (reading m names d) (hollow-read m names d l))
  ]
]

none-gives : (o : InfixOp) (d : Outcome) → is_lasting o d ≡ true → range_told o d ≡ None
none-gives o silent h = silent-gives o
none-gives Member (partial (whole f int_type)) h = refl
none-gives Member (partial (whole f bool_type)) h = refl
none-gives Member (partial (whole f (enum_type s))) h = refl
none-gives Member (partial (whole f (pair_type t u))) h = refl
none-gives Member (partial (whole f (set_type t))) h = no-name h
none-gives Member (partial hollow) h = no-name h
none-gives Member (partial (single_of p)) h = no-name h
none-gives Member (partial (pair_of p q)) h = no-name h
none-gives Member (partial (joint_of j p q)) h = no-name h
none-gives Member (ranging f t there) h = no-name h
none-gives Member (holding f) h = no-name h
none-gives _ (partial (whole f t)) h = no-name h
none-gives _ (partial hollow) h = no-name h
none-gives _ (partial (single_of p)) h = no-name h
none-gives _ (partial (pair_of p q)) h = no-name h
none-gives _ (partial (joint_of j p q)) h = no-name h
none-gives _ (ranging f t there) h = no-name h
none-gives _ (holding f) h = no-name h

-- nor does one that lasts
pub lasting-gives : (o : InfixOp) (d : RawTree) (r : Reading) → is_lasting o r.outcome ≡ true → range_told o (part false d r).outcome ≡ None
lasting-gives o d r h = by (is_alike false (is_predicate d))
  where
    by : (c : Bool) → range_told o (cond c r (silently (not_predicate (place_of d) ∷ r.faults))).outcome ≡ None
    by true = none-gives o r.outcome h
    by false = silent-gives o

-- ---- what lasts
bare-silent : (o : Outcome) → silent ≡ bare_outcome o → silent ≡ o
bare-silent silent h = refl
bare-silent (partial p) h = absurd (cc)
bare-silent (ranging f t there) h = absurd (cc)
bare-silent (holding f) h = absurd (cc)

-- of an element of what is no set nothing depends on the formula
same-element : (x y : ℕ) (a o : Outcome) (f : Formula) (t : ValueType) → is_set_type t ≡ false → partial (whole btrue t) ≡ bare_outcome o → infix_reading Member 0 x y a (partial (whole f t)) ≡ infix_reading Member 0 x y a o
same-element x y a (partial (whole g u)) f t h e = here t u h (same e)
  where
    type_or : Outcome → ValueType
    type_or (partial (whole g u)) = u
    type_or _ = t

    same : partial (whole btrue t) ≡ partial (whole btrue u) → t ≡ u
    same e = ap type_or e

    each : (t : ValueType) → is_set_type t ≡ false → infix_reading Member 0 x y a (partial (whole f t)) ≡ infix_reading Member 0 x y a (partial (whole g t))
    each int_type h = refl
    each bool_type h = refl
    each (enum_type s) h = refl
    each (pair_type t u) h = refl
    each (set_type t) h = no-name (sym h)

    here : (t u : ValueType) → is_set_type t ≡ false → t ≡ u → infix_reading Member 0 x y a (partial (whole f t)) ≡ infix_reading Member 0 x y a (partial (whole g u))
    here t u h e = each t h ∙ ap (λ (v : ValueType). infix_reading Member 0 x y a (partial (whole g v))) e
same-element x y a (partial hollow) f t h e = absurd (cc)
same-element x y a (partial (single_of p)) f t h e = absurd (cc)
same-element x y a (partial (pair_of p q)) f t h e = absurd (cc)
same-element x y a (partial (joint_of j p q)) f t h e = absurd (cc)
same-element x y a (ranging g u there) f t h e = absurd (cc)
same-element x y a (holding g) f t h e = absurd (cc)
same-element x y a silent f t h e = absurd (cc)

both-same : (q s : Reading) → q.outcome ≡ s.outcome → q.faults ≡ s.faults → q ≡ s
both-same q s h g i = record { outcome = h i; faults = g i }

-- what is made of it is the same
pub lasting-joins : (o : InfixOp) (at : ℕ) (a d : RawTree) (r q s : Reading) → is_lasting o q.outcome ≡ true → bare_reading q ≡ bare_reading s → two_reading (Infix o) at a d r q ≡ two_reading (Infix o) at a d r s
lasting-joins o at a d r q s h e = by o q.outcome refl h
  where
    faults : q.faults ≡ s.faults
    faults = ap (λ (z : Reading). z.faults) e

    silent-same : silent ≡ q.outcome → q ≡ s
    silent-same k = both-same q s (sym k ∙ bare-silent s.outcome (ap bare_outcome k ∙ ap (λ (z : Reading). z.outcome) e)) faults

    element : (f : Formula) (t : ValueType) → partial (whole f t) ≡ q.outcome → is_set_type t ≡ false → (c : Bool) →
        from_two (infix_reading Member at (place_of a) (place_of d)) (part false a r) (cond c q (silently (not_predicate (place_of d) ∷ q.faults))) ≡ from_two (infix_reading Member at (place_of a) (place_of d)) (part false a r) (cond c s (silently (not_predicate (place_of d) ∷ s.faults)))
    element f t k h false = ap (λ (fs : List Fault). from_two (infix_reading Member at (place_of a) (place_of d)) (part false a r) (silently (not_predicate (place_of d) ∷ fs))) faults
    element f t k h true =
        let same = ap (λ (z : Outcome). infix_reading Member at (place_of a) (place_of d) (part false a r).outcome z) (sym k)
        ∙ same-element (place_of a) (place_of d) (part false a r).outcome s.outcome f t h (ap bare_outcome k ∙ ap (λ (z : Reading). z.outcome) e) in
        λ i. behind_faults ((part false a r).faults ++ faults i) (same i)

    by : (o : InfixOp) (z : Outcome) → z ≡ q.outcome → is_lasting o z ≡ true → two_reading (Infix o) at a d r q ≡ two_reading (Infix o) at a d r s
    by o silent k h = ap (two_reading (Infix o) at a d r) (silent-same k)
    by Member (partial (whole f t)) k h = ap (spoilt_by []) (element f t k (no-set (is_set_type t) h) (is_alike false (is_predicate d)))
      where
        no-set : (c : Bool) → not c ≡ true → c ≡ false
        no-set true h = no-name h
        no-set false h = refl
    by Member (partial hollow) k h = no-name h
    by Member (partial (single_of p)) k h = no-name h
    by Member (partial (pair_of p z)) k h = no-name h
    by Member (partial (joint_of j p z)) k h = no-name h
    by Member (ranging f t there) k h = no-name h
    by Member (holding f) k h = no-name h
    by _ (partial (whole f t)) k h = no-name h
    by _ (partial hollow) k h = no-name h
    by _ (partial (single_of p)) k h = no-name h
    by _ (partial (pair_of p z)) k h = no-name h
    by _ (partial (joint_of j p z)) k h = no-name h
    by _ (ranging f t there) k h = no-name h
    by _ (holding f) k h = no-name h

-- a right side that was read outside serves inside
pub lasting-kept : (m : ℤ) (names : Names) (all : List RawName) (t d : RawTree) (o : InfixOp) (side : Step) → IsRight t o d → IsRead side (reading m names d) → is_lasting o (reading m names d).outcome ≡ true → names_one all d ≡ false → has_additions (names_dollar all) d ≡ false →
    StaysKept m names (bound_names all) (Some side) t
lasting-kept m names all (raw at (raw_infix p a b)) d o side h r l n u cs g = λ one made k f.
    let same : reading m (inside cs names) (raw at (raw_infix p a b)) ≡ two_reading (Infix p) at a b (reading m (inside cs names) a) (reading m (inside cs names) b) = refl in
    let kept : IsRead side (reading m names b) = subst (λ (x : RawTree). IsRead side (reading m names x)) (sym h.1) r in
    let lasts : is_lasting p (reading m names b).outcome ≡ true = ap (λ (x : RawTree). is_lasting p (reading m names x).outcome) h.1 ∙ (ap (λ (q : InfixOp). is_lasting q (reading m names d).outcome) h.0 ∙ l) in
    let alike : bare_reading (reading m names b) ≡ bare_reading (reading m (inside cs names) b) =
    subst (λ (x : RawTree). bare_reading (reading m names x) ≡ bare_reading (reading m (inside cs names) x)) (sym h.1) (unmoved m names all cs d g n u) in
    subst (IsRead made) (lasting-joins p at a b (reading m (inside cs names) a) (reading m names b) (reading m (inside cs names) b) lasts alike) (f (reading m (inside cs names) a) (reading m names b) k kept)
lasting-kept m names all (raw at _) d o side h r l n u cs g = absurd h

-- ---- names that get ranges
ranged_as-grows : (x : List ℕ) (r : Formula × ValueType × ℕ) (bs : List Ranged) → Grows (as_bound bs) (as_bound (ranged_as x r bs))
ranged_as-grows x r [] = tt
ranged_as-grows x r (b ∷ bs) = by (bytes_eq b.text x) (ranged_as-grows x r bs)
  where
    first : (o : Option (Formula × ValueType × ℕ)) → TypeGrows (range_type o) (range_type (first_range o r))
    first None = tt
    first (Some s) = refl

    itself : (o : Option ValueType) → TypeGrows o o
    itself None = tt
    itself (Some t) = refl

    by : (c : Bool) → Grows (as_bound bs) (as_bound (ranged_as x r bs)) → Grows (as_bound (b ∷ bs)) (as_bound (cond c (record { text = b.text; at = b.at; range = first_range b.range r } ∷ bs) (b ∷ ranged_as x r bs)))
    by true h = (refl, first b.range, grows-itself (as_bound bs))
    by false h = (refl, itself (range_type b.range), h)

ranged_by-grows : (x : List ℕ) (o : Option (Formula × ValueType)) (i : ℕ) (bs : List Ranged) → Grows (as_bound bs) (as_bound (ranged_by x o i bs))
ranged_by-grows x None i bs = grows-itself (as_bound bs)
ranged_by-grows x (Some d) i bs = ranged_as-grows x (d.0, d.1, i) bs

ranges_by-grows : (o : InfixOp) (i : ℕ) (bs : List Ranged) (y : Option (List ℕ)) (both : List Ranged) (c : Bool) (d : Outcome) → Grows (as_bound bs) (as_bound both) → Grows (as_bound bs) (as_bound (ranges_by o i bs y both c d))
ranges_by-grows And i bs y both true d h = h
ranges_by-grows And i bs y both false d h = h
ranges_by-grows Member i bs None both false d h = grows-itself (as_bound bs)
ranges_by-grows Member i bs (Some x) both false d h = ranged_by-grows x (ask_set 0 d).answer i bs
ranges_by-grows Member i bs y both true d h = grows-itself (as_bound bs)
ranges_by-grows Equal i bs None both false d h = grows-itself (as_bound bs)
ranges_by-grows Equal i bs (Some x) both false d h = ranged_by-grows x (as_single (ask_value 0 d).answer) i bs
ranges_by-grows Equal i bs y both true d h = grows-itself (as_bound bs)
ranges_by-grows _ i bs y both c d h = grows-itself (as_bound bs)

ranges-grow : (m : ℤ) (t : RawTree) (names : Names) (all : List RawName) (i : ℕ) (bs : List Ranged) → Grows (as_bound bs) (as_bound (ranges m names all i bs t))
ranges-grow m (raw at (raw_infix o a d)) names all i bs =
    ranges_by-grows o i bs (name_of a) (ranges m names all (i + length (conjuncts a)) (ranges m names all i bs a) d) (names_one all d) (part false d (reading m names d)).outcome
    (grows-through (as_bound bs) (as_bound (ranges m names all i bs a)) (as_bound (ranges m names all (i + length (conjuncts a)) (ranges m names all i bs a) d))
    (ranges-grow m a names all i bs) (ranges-grow m d names all (i + length (conjuncts a)) (ranges m names all i bs a)))
ranges-grow m (raw at _) names all i bs = grows-itself (as_bound bs)

names-unranged : (xs : List RawName) → as_bound (unranged xs) ≡ bound_names xs
names-unranged [] = refl
names-unranged (x ∷ xs) = ap (λ (bs : List Bound). record { text = x.text; at = x.at; of_type = None } ∷ bs) (names-unranged xs)

-- the names of a comprehension with the types of their ranges
pub names-grow : (m : ℤ) (t : RawTree) (names : Names) (xs : List RawName) → Grows (bound_names xs) (as_bound (ranges m names xs 0 (unranged xs) t))
names-grow m t names xs = subst (λ (bs : List Bound). Grows bs (as_bound (ranges m names xs 0 (unranged xs) t))) (names-unranged xs) (ranges-grow m t names xs 0 (unranged xs))
