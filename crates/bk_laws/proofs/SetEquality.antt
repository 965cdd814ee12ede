-- Two sets are equal exactly where they have the same members.
use Rattle.std.proofs.Common.{◌≡◌, ◌↔◌, sym, ◌∙◌, ap, subst, true}
use Rattle.bk_val.specs.ValueType.{ValueType, set_type}
use Rattle.bk_val.specs.Value.{MathValue}
use Rattle.bk_val.specs.CmpLaws.{same_value, value_eq-self}
use Rattle.bk_form.specs.Table.{set_size}
use Rattle.bk_form.specs.Formula.{Formula, binary}
use Rattle.bk_form.specs.Search.{Finder}
use Rattle.bk_form.specs.Environment.{Environment}
use Rattle.bk_form.specs.Operators.{is_equal, is_element}
use Rattle.bk_form.specs.Meaning.{value, truth, within}
use Rattle.bk_form.specs.Settings.{IsSetting, GivesIn}
use Rattle.bk_form.specs.declared.operator.BinOp.TheVariants.{Eq}
use Rattle.bk_form.proofs.Valued.{sound_typing}
use Rattle.bk_form.proofs.Forms.{member, same_members}

pub equal-means : (find : Finder) (e : Environment) → IsSetting find e → (a b : Formula) (t : ValueType) → GivesIn e a (set_type t) → GivesIn e b (set_type t) → (truth find e (binary Eq a b) ≡ true) ↔ ((x : MathValue) → within find e x a ≡ within find e x b)
equal-means find e c a b t l r = (
  (λ h x. member find e a t l x ∙ ap (is_element x) (same_value (value find e a) (value find e b) h) ∙ sym (member find e b t r x)),
  (λ h.
      let same = same_members (set_size e.table) t (value find e a) (value find e b) (sound_typing.typed find e c.well c.typed a (set_type t) l) (sound_typing.typed find e c.well c.typed b (set_type t) r) (λ x o. sym (member find e a t l x) ∙ h x ∙ member find e b t r x) in
      subst (λ z. is_equal (value find e a) z ≡ true) same (value_eq-self (value find e a))),
)
