-- Laws of truth values that the rows take.
use Rattle.std.proofs.Common.{◌≡◌, refl, sym, ◌∙◌, ap, Bool, true, false, ◌&&◌, ◌||◌, not, ◌⊎◌, inl, inr}
use Rattle.bk_laws.proofs.Truths.{and-swap}

pub and-turn : (a b d : Bool) → ((a && b) && d) ≡ (a && (d && b))
and-turn true b d = and-swap b d
and-turn false b d = refl

pub and-kept : (a : Bool) → ((a && true) || false) ≡ a
and-kept true = refl
and-kept false = refl

pub or-either : (a b : Bool) → (a || b) ≡ true → (b ≡ true) ⊎ ((a ≡ true) × (not b ≡ true))
or-either a true h = inl refl
or-either true false h = inr (refl, refl)
or-either false false h = absurd (cc)

pub and-under : (p q r : Bool) → (p ≡ true → q ≡ r) → (p && q) ≡ (p && r)
and-under true q r h = h refl
and-under false q r h = refl

pub and-past : (p i t b : Bool) → (p ≡ true → i ≡ b) → ((p && i) && t) ≡ ((p && t) && b)
and-past true i t b h = ap (λ z. z && t) (h refl) ∙ and-swap b t
and-past false i t b h = refl

pub and-one : (a b : Bool) → b ≡ true → (a && b) ≡ a
and-one true true h = refl
and-one false true h = refl
and-one a false h = absurd (cc)

pub not-both : (b : Bool) → b ≡ true → not b ≡ true → ⊥
not-both b h k = let q : false ≡ true = sym (ap not h) ∙ k in cc

pub over-new : (a d b : Bool) → d ≡ true → ((a && not d) || b) ≡ b
over-new true true b h = refl
over-new false true b h = refl
over-new a false b h = absurd (cc)

pub or-old : (a d b : Bool) → not d ≡ true → (b ≡ true → d ≡ true) → (a || b) ≡ a
or-old a d true h k = absurd (not-both d (k refl) h)
or-old true d false h k = refl
or-old false d false h k = refl

pub over-old : (a d b : Bool) → not d ≡ true → (b ≡ true → d ≡ true) → ((a && not d) || b) ≡ a
over-old a d b h k = ap (λ z. z || b) (and-one a (not d) h) ∙ or-old a d b h k

pub one-truth : (b : Bool) → b ≡ true → b ≡ false → ⊥
one-truth b h k = let q : true ≡ false = sym h ∙ k in cc
