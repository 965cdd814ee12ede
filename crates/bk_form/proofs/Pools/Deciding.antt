-- What `==` of a derived enum decides, where `==` of its fields decides whether they are the same.
use Rattle.std.proofs.Common.{◌≡◌, ◌⊎◌, inl, inr, Bool, true, false, ◌&&◌, refl, sym, ◌∙◌, ap, subst, true≢false, List, [], ◌∷◌, ℕ, zero, suc, ◌==◌, arith}
use Rattle.std.specs.Bool.{Decides}
use Rattle.std.proofs.lemmas.Bool.Decides.{Decides-and, Decides-like, Decides-eqb}
use denote.Struct.Field.{Field}
use denote.Struct.Values.{Values}
use denote.Enum.Compared.{Each, by}
use denote.Enum.Declared.{Choice, rowss, intoss}
use denote.Enum.Enum.{tag}

-- the tests decide each variant
abbrev pub AreDecided : (Fss : List (List Field)) → Each Bool Fss → Type 0
AreDecided [] each = Unit {0}
AreDecided (Fs ∷ Fss) each = ((x y : Values Fs) → Decides (each.0 x y) (x ≡ y)) × AreDecided Fss each.1

abbrev IsLeft : {A B : Type 0} → A ⊎ B → Type 0
IsLeft (inl x) = Unit {0}
IsLeft (inr y) = ⊥

abbrev left-or : {A B : Type 0} → A → A ⊎ B → A
left-or a (inl x) = x
left-or a (inr y) = a

abbrev right-or : {A B : Type 0} → B → A ⊎ B → B
right-or b (inl x) = b
right-or b (inr y) = y

pub choices-decided : (Fss : List (List Field)) (each : Each Bool Fss) → AreDecided Fss each → (c d : Choice Fss) → Decides (by false false Fss each c d) (c ≡ d)
choices-decided [] each g c d = absurd c
choices-decided (Fs ∷ Fss) each g (inl x) (inl y) = Decides-like (each.0 x y) (ap inl) (ap (left-or x)) (g.0 x y)
choices-decided (Fs ∷ Fss) each g (inl x) (inr d) = (λ e. absurd (true≢false (sym e)), λ e. absurd (subst IsLeft e tt))
choices-decided (Fs ∷ Fss) each g (inr c) (inl y) = (λ e. absurd (true≢false (sym e)), λ e. absurd (subst IsLeft (sym e) tt))
choices-decided (Fs ∷ Fss) each g (inr c) (inr d) = Decides-like (by false false Fss each.1 c d) (ap inr) (ap (right-or c)) (choices-decided Fss each.1 g.1 c d)

-- so do they the enum's values
pub values-decided : {D : Type 0} (Fss : List (List Field)) (each : Each Bool Fss) → AreDecided Fss each → (as_values : D → Choice Fss) (make : Choice Fss → D) → ((d : D) → make (as_values d) ≡ d) → (a b : D)
    → Decides (by false false Fss each (as_values a) (as_values b)) (a ≡ b)
values-decided Fss each g as_values make eta a b = Decides-like (by false false Fss each (as_values a) (as_values b)) (λ e. sym (eta a) ∙ (ap make e ∙ eta b)) (ap as_values) (choices-decided Fss each g (as_values a) (as_values b))

-- ---- the fields of a variant
abbrev pub IsTest : {A : Type 0} → (A → A → Bool) → Type 0
IsTest {A} e = (a b : A) → Decides (e a b) (a ≡ b)

pub none-decided : (x y : Unit {0}) → Decides true (x ≡ y)
none-decided x y = (λ e. refl, λ e. refl)

pub one-decided : {A : Type 0} (e : A → A → Bool) → IsTest e → (x y : A × Unit {0}) → Decides (e x.0 y.0) (x ≡ y)
one-decided e g x y = Decides-like (e x.0 y.0) (λ p. ap (λ a. (a, tt)) p) (λ p. ap (λ z. z.0) p) (g x.0 y.0)

pub more-decided : {A B : Type 0} (e : A → A → Bool) (f : B → B → Bool) → IsTest e → IsTest f → (x y : A × B) → Decides (e x.0 y.0 && f x.1 y.1) (x ≡ y)
more-decided e f g h x y = Decides-like (e x.0 y.0 && f x.1 y.1) (λ p. λ i. (p.0 i, p.1 i)) (λ p. (ap (λ z. z.0) p, ap (λ z. z.1) p)) (Decides-and (e x.0 y.0) (f x.1 y.1) (g x.0 y.0) (h x.1 y.1))

-- ---- enums with no fields, which compare by their places
abbrev pub AreBare : List (List Field) → Type 0
AreBare [] = Unit {0}
AreBare ([] ∷ Fss) = AreBare Fss
AreBare (_ ∷ Fss) = ⊥

abbrev pub place : (Fss : List (List Field)) → Choice Fss → ℕ
place Fss c = tag (rowss Fss) (intoss Fss c)

one-at : (Fss : List (List Field)) → AreBare Fss → (c d : Choice Fss) → place Fss c ≡ place Fss d → c ≡ d
one-at [] g c d e = absurd c
one-at ([] ∷ Fss) g (inl x) (inl y) e = refl
one-at ([] ∷ Fss) g (inl x) (inr d) e =
    let apart : zero ≡ suc (place Fss d) = e in
    absurd (omega (arith, apart))
one-at ([] ∷ Fss) g (inr c) (inl y) e =
    let apart : suc (place Fss c) ≡ zero = e in
    absurd (omega (arith, apart))
one-at ([] ∷ Fss) g (inr c) (inr d) e =
    let before : suc (place Fss c) ≡ suc (place Fss d) = e in
    ap inr (one-at Fss g c d (omega (arith, before)))
one-at ((F ∷ Fs) ∷ Fss) g c d e = absurd g

pub places-decided : {D : Type 0} (Fss : List (List Field)) → AreBare Fss → (as_values : D → Choice Fss) (make : Choice Fss → D) → ((d : D) → make (as_values d) ≡ d) → (a b : D)
    → Decides (place Fss (as_values a) == place Fss (as_values b)) (a ≡ b)
places-decided Fss g as_values make eta a b =
    Decides-like (place Fss (as_values a) == place Fss (as_values b)) (λ e. sym (eta a) ∙ (ap make (one-at Fss g (as_values a) (as_values b) e) ∙ eta b)) (ap (λ d. place Fss (as_values d)))
    (Decides-eqb (place Fss (as_values a)) (place Fss (as_values b)))
