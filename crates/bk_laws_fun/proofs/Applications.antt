-- Two applications of which the same pairs tell the value are equal.
use Rattle.std.proofs.Common.{◌≡◌, refl, sym, ◌∙◌, ap, true}
use Rattle.std.specs.Prelude.{Option, Some, None, unwrap_or}
use Rattle.bk_val.specs.Value.{MathValue, pair}
use Rattle.bk_val.specs.ValueType.{ValueType, set_type, pair_type, base_of}
use Rattle.bk_val.specs.Sets.{apply_of}
use Rattle.bk_val.proofs.Relations.{apply_of-some, apply_of-none}
use Rattle.bk_form.specs.Formula.{binary, Formula}
use Rattle.bk_form.specs.Environment.{Environment}
use Rattle.bk_form.specs.Operators.{elements}
use Rattle.bk_form.specs.Meaning.{value, within, meaning, type_in}
use Rattle.bk_form.specs.declared.operator.BinOp.TheVariants.{Apply}
use Rattle.bk_form.specs.Table.{set_size}
use Rattle.bk_form.specs.Search.{Finder}
use Rattle.bk_form.specs.Settings.{IsSetting, GivesIn}
use Rattle.bk_form.proofs.Valued.{sound_typing}
use Rattle.bk_form.proofs.Roles.{meaning-role}
use Rattle.bk_form.proofs.Forms.{set-sorted, member}
use Rattle.bk_form.proofs.ArrowMembers.{apply-means}

by-option : (find : Finder) (e : Environment) → IsSetting find e → (f a g b : Formula) (t v u : ValueType) → GivesIn e f (set_type (pair_type t u)) → GivesIn e g (set_type (pair_type v u)) → GivesIn e (binary Apply f a) u → GivesIn e (binary Apply g b) u → ((z : MathValue) → within find e (pair (value find e a) z) f ≡ within find e (pair (value find e b) z) g) → (o : Option MathValue) → apply_of (elements (value find e g)) (value find e b) ≡ o → value find e (binary Apply f a) ≡ value find e (binary Apply g b)
by-option find e c f a g b t v u types-f types-g l r same (Some y) h =
    let gs = elements (value find e g) in
    let sorted = set-sorted (set_size e.table) (pair_type v u) (value find e g) (sound_typing.typed find e c.well c.typed g (set_type (pair_type v u)) types-g) in
    let only = (apply_of-some gs (value find e b) y sorted).0 h in
    let starts = member find e g (pair_type v u) types-g (pair (value find e b) y) ∙ only.starts in
    let one = λ (z : MathValue) (k : within find e (pair (value find e b) z) g ≡ true). only.only z (sym (member find e g (pair_type v u) types-g (pair (value find e b) z)) ∙ k) in
    apply-means find e c f t u types-f a y (same y ∙ starts) (λ z k. one z (sym (same z) ∙ k))
    ∙ sym (apply-means find e c g v u types-g b y starts one)
by-option find e c f a g b t v u types-f types-g l r same None h =
    let fs = elements (value find e f) in
    let gs = elements (value find e g) in
    let sorted-f = set-sorted (set_size e.table) (pair_type t u) (value find e f) (sound_typing.typed find e c.well c.typed f (set_type (pair_type t u)) types-f) in
    let sorted-g = set-sorted (set_size e.table) (pair_type v u) (value find e g) (sound_typing.typed find e c.well c.typed g (set_type (pair_type v u)) types-g) in
    let none-g = (apply_of-none gs (value find e b) sorted-g).0 h in
    let across = λ (z : MathValue). sym (member find e f (pair_type t u) types-f (pair (value find e a) z)) ∙ same z ∙ member find e g (pair_type v u) types-g (pair (value find e b) z) in
    let none-f = (apply_of-none fs (value find e a) sorted-f).1 (λ y w. none-g y (record { starts = sym (across y) ∙ w.starts; only = λ z k. w.only z (across z ∙ k) })) in
    let roles = meaning-role find e (binary Apply f a) ∙ l ∙ sym (meaning-role find e (binary Apply g b) ∙ r) in
    ap (λ o. unwrap_or o (base_of (type_in (meaning find e (binary Apply f a)).role))) none-f
    ∙ ap (λ x. base_of (type_in x)) roles
    ∙ sym (ap (λ o. unwrap_or o (base_of (type_in (meaning find e (binary Apply g b)).role))) h)

pub apply-same : (find : Finder) (e : Environment) → IsSetting find e → (f a g b : Formula) (t v u : ValueType) → GivesIn e f (set_type (pair_type t u)) → GivesIn e g (set_type (pair_type v u)) → GivesIn e (binary Apply f a) u → GivesIn e (binary Apply g b) u → ((z : MathValue) → within find e (pair (value find e a) z) f ≡ within find e (pair (value find e b) z) g) → value find e (binary Apply f a) ≡ value find e (binary Apply g b)
apply-same find e c f a g b t v u types-f types-g l r same = by-option find e c f a g b t v u types-f types-g l r same (apply_of (elements (value find e g)) (value find e b)) refl
