-- How a row is proved: by its truth, by its value, by the members of its sides, or by their pairs.
use Rattle.std.proofs.Common.{◌≡◌, inl, inr, sym, ◌∙◌, subst, true}
use Rattle.bk_val.specs.Value.{MathValue, pair}
use Rattle.bk_val.specs.ValueType.{ValueType, pair_type, set_type}
use Rattle.bk_form.specs.Table.{set_size}
use Rattle.bk_form.specs.Search.{Finder}
use Rattle.bk_form.specs.Environment.{Environment, bound_types}
use Rattle.bk_form.specs.Meaning.{value, truth, within}
use Rattle.bk_form.specs.Settings.{IsSetting, IsPredicateIn, GivesIn}
use Rattle.bk_form.proofs.Typed.{Of}
use Rattle.bk_form.proofs.Valued.{sound_typing}
use Rattle.bk_form.proofs.Forms.{is_predicate_form, form-one, is_set_form, set-form, is_value_form, value-form, is_relation_form, relation-form, pair-of, same-truth, same-value, same_members, member}
use Rattle.bk_laws.specs.Rows.{Instance}
use Rattle.bk_laws.specs.Laws.{SidesHold, IsTrueLaw}

-- what a row's proof has to show of a predicate, of a value, of a set and of a relation
abbrev pub ByTruth : Instance → Type 0
ByTruth i = (find : Finder) (e : Environment) → IsSetting find e → IsPredicateIn e i.left → IsPredicateIn e i.right → SidesHold find e i.sides → truth find e i.left ≡ truth find e i.right

abbrev pub ByValue : Instance → Type 0
ByValue i = (find : Finder) (e : Environment) → IsSetting find e → (t : ValueType) → GivesIn e i.left t → GivesIn e i.right t → SidesHold find e i.sides → value find e i.left ≡ value find e i.right

abbrev pub ByMembers : Instance → Type 0
ByMembers i = (find : Finder) (e : Environment) → IsSetting find e → (t : ValueType) → GivesIn e i.left (set_type t) → GivesIn e i.right (set_type t) → SidesHold find e i.sides → (v : MathValue) → Of (set_size e.table) t v → within find e v i.left ≡ within find e v i.right

abbrev pub ByPairs : Instance → Type 0
ByPairs i = (find : Finder) (e : Environment) → IsSetting find e → (t u : ValueType) → GivesIn e i.left (set_type (pair_type t u)) → GivesIn e i.right (set_type (pair_type t u)) → SidesHold find e i.sides → (x y : MathValue) → within find e (pair x y) i.left ≡ within find e (pair x y) i.right

pub by_truth : (i : Instance) → is_predicate_form i.left ≡ true → ByTruth i → IsTrueLaw i
by_truth i form h find e setting one sides = elim (form-one e.table (bound_types e) i.left form) [
  | inl l ↦ let r = sym one.one_role ∙ l in same-truth find e i.left i.right l r (h find e setting l r sides)
  | inr u ↦ absurd (one.types u)
]

pub by_value : (i : Instance) → is_value_form i.left ≡ true → ByValue i → IsTrueLaw i
by_value i form h find e setting one sides =
    let w = value-form e i.left form one.types in
    let r : GivesIn e i.right w.0 = sym one.one_role ∙ w.1 in
    same-value find e i.left i.right w.0 w.1 r (h find e setting w.0 w.1 r sides)

pub by_members : (i : Instance) → is_set_form i.left ≡ true → ByMembers i → IsTrueLaw i
by_members i form h find e setting one sides =
    let w = set-form e i.left form one.types in
    let r : GivesIn e i.right (set_type w.0) = sym one.one_role ∙ w.1 in
    let same = h find e setting w.0 w.1 r sides in
    same-value find e i.left i.right (set_type w.0) w.1 r
    (same_members (set_size e.table) w.0 (value find e i.left) (value find e i.right) (sound_typing.typed find e setting.well setting.typed i.left (set_type w.0) w.1) (sound_typing.typed find e setting.well setting.typed i.right (set_type w.0) r)
    (λ x o. sym (member find e i.left w.0 w.1 x) ∙ same x o ∙ member find e i.right w.0 r x))

pub by_pairs : (i : Instance) → is_set_form i.left ≡ true → is_relation_form i.left ≡ true → ByPairs i → IsTrueLaw i
by_pairs i form relation h = by_members i form (λ find e c t l r s v o.
    let k = relation-form e i.left t relation l in
    let p = pair-of (set_size e.table) k.0 k.1 v (subst (λ x. Of (set_size e.table) x v) k.2 o) in
    let same = h find e c k.0 k.1 (subst (λ x. GivesIn e i.left (set_type x)) k.2 l) (subst (λ x. GivesIn e i.right (set_type x)) k.2 r) s p.left p.right in
    subst (λ z. within find e z i.left ≡ within find e z i.right) (sym p.is_pair) same)
