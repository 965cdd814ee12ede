use Rattle.std.proofs.Common.{suc, ◌≡◌, ◌<◌, ◌+◌, ◌-◌, ◌++◌, [], ◌∷◌, decimal, ap, sym, ◌∙◌, arith, append_assoc}
use Rattle.std.proofs.lemmas.List.{append-nil}
use Rattle.bk_form.specs.Table.{texts_from}
use Rattle.bk_gen.proofs.names.numbered_texts.Goals as goal

pub loop-number-init : goal.loop-number-init
loop-number-init c =
    let all : c.args.count - 0 ≡ c.args.count = omega arith in
    λ i. c.new-texts.ensures.items i ++ texts_from c.args.name.now 0 (all i)

pub loop-number-preserved : goal.loop-number-preserved
loop-number-preserved c =
    let name = c.args.name.now in
    let number = c.loop-number.number in
    let below : number < c.args.count = c.loop-number-test.true in
    let left = c.args.count - (number + 1) in
    let more : c.args.count - number ≡ suc left = omega arith in
    let next : number + 1 ≡ suc number = omega arith in
    let before = c.loop-number.texts.items in
    let text = name ++ 36 ∷ decimal number in
    let added : c.push.new.self.items ≡ before ++ text ∷ [] = c.in_ok-push.ensures.items ∙ ap (λ t. before ++ t ∷ []) c.in_ok-numbered_text.ensures in
    (λ i. added i ++ texts_from name (next i) left) ∙ (append_assoc before (text ∷ []) (texts_from name (suc number) left) ∙
    (ap (λ n. before ++ texts_from name number n) (sym more) ∙ c.loop-number.invariant))

pub returns : goal.returns
returns c =
    let none : c.args.count - c.loop-number.number ≡ 0 = omega arith in
    c.from_vec.ensures ∙ (sym (append-nil c.loop-number.texts.items) ∙ (ap (λ n. c.loop-number.texts.items ++ texts_from c.args.name.now c.loop-number.number n) (sym none) ∙ c.loop-number.invariant))
