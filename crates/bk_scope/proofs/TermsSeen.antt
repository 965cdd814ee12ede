-- What is read of terms under names in sight with the types that are told.
use Rattle.std.proofs.Common.{◌≡◌, ℕ, List, [], ◌∷◌, ◌++◌, refl, sym, ◌∙◌, ap, Bool, true, false, subst, ◌↔◌, IsTrue, ◌⊎◌, inl, inr, ℤ}
use Rattle.std.specs.Prelude.{Option, None, Some}
use Rattle.bk_val.specs.ValueType.{ValueType, int_type, bool_type, enum_type, pair_type, set_type}
use Rattle.bk_form.specs.Formula.{Formula}
use Rattle.bk_form.specs.Role.{same_type}
use Rattle.bk_form.proofs.Roles.{same_type-then}
use Rattle.bk_raw.proofs.Filled.{same_type-self}
use Rattle.bk_raw.specs.Trees.RawTree.{RawTree}
use Rattle.bk_raw.specs.Meaning.Names.{Names}
use Rattle.bk_raw.specs.Meaning.Outcome.{Outcome, partial, ranging, holding, silent, whole, hollow, single_of, pair_of, joint_of, ask_domain, ask_value}
use Rattle.bk_raw.specs.Meaning.Binders.{second}
use Rattle.bk_raw.specs.Meaning.TermReading.{part, reading, place_of}
use Rattle.bk_elab_terms.specs.Visible.{visible_names, typing_of, seen_names, reading_by}
use Rattle.bk_elab_terms.specs.declared.sight.Visible.{Visible}
use Rattle.bk_elab_terms.specs.declared.visible.Sight.{Sight}
use Rattle.bk_statics.specs.Typings.{outcome_of, predicate_reading}
use Rattle.bk_statics.specs.Elaborated.{with_pair}
use Rattle.bk_statics.specs.Executable.{outcome_type}
use Rattle.bk_elab_terms.specs.Visible.{meaning_of, typed_meaning}
use Rattle.bk_elab_terms.specs.declared.sight.Standing.{Standing}
use Rattle.bk_elab_terms.specs.declared.sight.Standing.TheVariants.{Variable, Set, Element}
use Rattle.bk_statics.specs.Typings.{typed, with_type}

-- ---- what a term reads as
meaning-typed : (ts : List (Option ValueType)) (m : Standing) → typed_meaning ts m ≡ with_type (typing_of ts) (meaning_of m)
meaning-typed ts (Variable n) = refl
meaning-typed ts (Set s) = refl
meaning-typed ts (Element s i) = refl

-- the names in sight with their types
pub seen-types : (ts : List (Option ValueType)) (vs : List Visible) → seen_names ts vs ≡ typed (typing_of ts) (visible_names vs)
seen-types ts [] = refl
seen-types ts (v ∷ vs) = λ i. record { text = v.text.now; meaning = meaning-typed ts v.meaning i } ∷ seen-types ts vs i

-- the names in sight with the types that are told: so a term reads as it does under them
pub term-seen : (s : Sight) (max : ℤ) (ts : List (Option ValueType)) (vs : List Visible) (t : RawTree) → s.max ≡ max → s.names.now ≡ vs → s.types.now ≡ ts → (reading_by false s t).outcome ≡ outcome_of max (typing_of ts) (visible_names vs) t
term-seen s max ts vs t m n y =
    (λ i. (part false t (reading (m i) (seen_names (y i) (n i)) t)).outcome) ∙ ap (λ (ns : Names). (part false t (reading max ns t)).outcome) (seen-types ts vs)

pub predicate-seen : (s : Sight) (max : ℤ) (ts : List (Option ValueType)) (vs : List Visible) (t : RawTree) → s.max ≡ max → s.names.now ≡ vs → s.types.now ≡ ts → (reading_by true s t).outcome ≡ (predicate_reading max (typing_of ts) (visible_names vs) t).outcome
predicate-seen s max ts vs t m n y =
    (λ i. (part true t (reading (m i) (seen_names (y i) (n i)) t)).outcome) ∙ ap (λ (ns : Names). (part true t (reading max ns t)).outcome) (seen-types ts vs)

-- where a domain stands does not matter to what it is
pub domain-anywhere : (at : ℕ) (o : Outcome) → (ask_domain at o).answer ≡ (ask_domain 0 o).answer
domain-anywhere at (partial (whole f int_type)) = refl
domain-anywhere at (partial (whole f bool_type)) = refl
domain-anywhere at (partial (whole f (enum_type n))) = refl
domain-anywhere at (partial (whole f (pair_type t u))) = refl
domain-anywhere at (partial (whole f (set_type t))) = refl
domain-anywhere at (partial hollow) = refl
domain-anywhere at (partial (single_of p)) = refl
domain-anywhere at (partial (pair_of p q)) = refl
domain-anywhere at (partial (joint_of j p q)) = refl
domain-anywhere at (ranging f t there) = refl
domain-anywhere at (holding p) = refl
domain-anywhere at silent = refl

pub value-type : (at : ℕ) (o : Outcome) → second (ask_value at o).answer ≡ outcome_type o
value-type at (partial (whole f t)) = refl
value-type at (partial hollow) = refl
value-type at (partial (single_of p)) = refl
value-type at (partial (pair_of p q)) = refl
value-type at (partial (joint_of j p q)) = refl
value-type at (ranging f t there) = refl
value-type at (holding p) = refl
value-type at silent = refl

-- what a value's type is, by what is asked
pub type-given : (s : Sight) (max : ℤ) (ts : List (Option ValueType)) (vs : List Visible) (t : RawTree) (answer : Option (Formula × ValueType)) → s.max ≡ max → s.names.now ≡ vs → s.types.now ≡ ts → answer ≡ (ask_value (place_of t) (reading_by false s t).outcome).answer → second answer ≡ outcome_type (outcome_of max (typing_of ts) (visible_names vs) t)
type-given s max ts vs t answer m n y h =
    ap second (h ∙ ap (λ (o : Outcome). (ask_value (place_of t) o).answer) (term-seen s max ts vs t m n y)) ∙ value-type (place_of t) (outcome_of max (typing_of ts) (visible_names vs) t)

-- a domain, by what is asked
pub domain-given : (s : Sight) (max : ℤ) (ts : List (Option ValueType)) (vs : List Visible) (t : RawTree) (answer : Option (Formula × ValueType)) → s.max ≡ max → s.names.now ≡ vs → s.types.now ≡ ts → answer ≡ (ask_domain (place_of t) (reading_by false s t).outcome).answer → answer ≡ (ask_domain 0 (outcome_of max (typing_of ts) (visible_names vs) t)).answer
domain-given s max ts vs t answer m n y h =
    h ∙ (ap (λ (o : Outcome). (ask_domain (place_of t) o).answer) (term-seen s max ts vs t m n y) ∙ domain-anywhere (place_of t) (outcome_of max (typing_of ts) (visible_names vs) t))

-- ---- types
either-bool : (b : Bool) → (b ≡ true) ⊎ (b ≡ false)
either-bool true = inl refl
either-bool false = inr refl

pub same-by : (b : Bool) (t u : ValueType) → IsTrue b ↔ (t ≡ u) → b ≡ same_type t u
same-by true t u h = sym (subst (λ (x : ValueType). same_type t x ≡ true) (h.0 refl) (same_type-self t))
same-by false t u h = elim (either-bool (same_type t u)) [ inl e ↦ let k : false ≡ true = h.1 (same_type-then t u e) in absurd (cc) | inr e ↦ sym e ]

-- ---- lists of pairs
-- one pair more of variables with their formulas
pub pair-first : (n : ℕ) (f : Option Formula) (ps : List (ℕ × Formula)) → with_pair n f ps ≡ with_pair n f [] ++ ps
pair-first n None ps = refl
pair-first n (Some f) ps = refl
