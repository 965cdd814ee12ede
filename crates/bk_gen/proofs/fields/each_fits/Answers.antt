use Rattle.std.proofs.Common.{◌≡◌, ◌<◌, ℕ, suc, ◌+◌, ◌-◌, List, ◌++◌, ◌∷◌, decimal, All, refl, sym, ◌∙◌, subst, arith}
use Rattle.std.specs.Prelude.{◌↔◌}
use Rattle.std.proofs.lemmas.Bool.{false≢true}
use Rattle.std.proofs.lemmas.List.Elements.{All-nil, All-cons, All-head, All-tail}
use Rattle.bk_form.specs.Table.{texts_from}
use Rattle.bk_image.specs.Spelling.{IsCountable}
use Rattle.bk_gen.proofs.fields.each_fits.Goals as goal

abbrev Fit : List ℕ → ℕ → ℕ → Type 0
Fit name number count = All (λ text. IsCountable text) (texts_from name number count)

next : (name : List ℕ) (number count : ℕ) → IsCountable (name ++ 36 ∷ decimal number) → Fit name (suc number) count ↔ Fit name number (suc count)
next name number count own =
    let text = name ++ 36 ∷ decimal number in
    (λ h. All-cons (λ t. IsCountable t) text (texts_from name (suc number) count) own h, λ h. All-tail (λ t. IsCountable t) text (texts_from name (suc number) count) h)

first : (name : List ℕ) (number count : ℕ) → Fit name number (suc count) → IsCountable (name ++ 36 ∷ decimal number)
first name number count h = All-head (λ t. IsCountable t) (name ++ 36 ∷ decimal number) (texts_from name (suc number) count) h

pub loop-number-init : goal.loop-number-init
loop-number-init c =
    let name = c.args.name.now in
    let all : c.args.count ≡ c.args.count - 0 = omega arith in
    subst (λ n. Fit name 0 n ↔ Fit name 0 c.args.count) all (λ h. h, λ h. h)

pub loop-number-preserved : goal.loop-number-preserved
loop-number-preserved c =
    let name = c.args.name.now in
    let number = c.loop-number.number in
    let below : number < c.args.count = c.loop-number-test.true in
    let left = c.args.count - (number + 1) in
    let more : c.args.count - number ≡ suc left = omega arith in
    let over : suc number ≡ number + 1 = omega arith in
    let own : IsCountable (name ++ 36 ∷ decimal number) = c.number_fits.ensures.0 c.if-not-number_fits.false in
    let one = next name number left own in
    let old : Fit name number (suc left) ↔ Fit name 0 c.args.count = subst (λ n. Fit name number n ↔ Fit name 0 c.args.count) more c.loop-number.invariant in
    subst (λ n. Fit name n left ↔ Fit name 0 c.args.count) over (λ h. old.0 (one.0 h), λ h. one.1 (old.1 h))

pub returns-then-not-number_fits : goal.returns-then-not-number_fits
returns-then-not-number_fits c =
    let name = c.args.name.now in
    let number = c.loop-number.number in
    let below : number < c.args.count = c.loop-number-test.true in
    let left = c.args.count - (number + 1) in
    let more : c.args.count - number ≡ suc left = omega arith in
    let old : Fit name number (suc left) ↔ Fit name 0 c.args.count = subst (λ n. Fit name number n ↔ Fit name 0 c.args.count) more c.loop-number.invariant in
    (λ h. absurd (false≢true h), λ h. absurd (false≢true (sym c.if-not-number_fits.true ∙ c.number_fits.ensures.1 (first name number left (old.1 h)))))

pub returns : goal.returns
returns c =
    let name = c.args.name.now in
    let none : c.args.count - c.loop-number.number ≡ 0 = omega arith in
    let old : Fit name c.loop-number.number 0 ↔ Fit name 0 c.args.count = subst (λ n. Fit name c.loop-number.number n ↔ Fit name 0 c.args.count) none c.loop-number.invariant in
    (λ h. old.0 (All-nil (λ text. IsCountable text)), λ h. refl)
