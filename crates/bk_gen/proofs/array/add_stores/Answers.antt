use Rattle.std.proofs.Common.{suc, ◌≡◌, ◌<◌, ◌+◌, ◌-◌, ◌++◌, [], ◌∷◌, ap, sym, ◌∙◌, arith, append_assoc}
use Rattle.std.proofs.lemmas.List.{append-nil}
use Rattle.bk_code.specs.declared.instruction.Inst.TheVariants.{Store}
use Rattle.bk_b0.specs.Places.{fill}
use Rattle.bk_gen.proofs.array.add_stores.Goals as goal

pub loop-place-init : goal.loop-place-init
loop-place-init c =
    let at : c.args.first + 0 ≡ c.args.first = omega arith in
    let all : c.args.count - 0 ≡ c.args.count = omega arith in
    λ i. c.args.code.now.items ++ fill (c.args.value ∷ []) (at i) (all i)

pub loop-place-preserved : goal.loop-place-preserved
loop-place-preserved c =
    let one = c.args.value ∷ [] in
    let at = c.args.first + c.loop-place.place in
    let left = c.args.count - (c.loop-place.place + 1) in
    let below : c.loop-place.place < c.args.count = c.loop-place-test.true in
    let more : c.args.count - c.loop-place.place ≡ suc left = omega arith in
    let next : c.args.first + (c.loop-place.place + 1) ≡ at + 1 = omega arith in
    let before = c.loop-place.code.items in
    let added : c.push-in-loop-place.new.self.items ≡ (before ++ one) ++ Store at ∷ [] = c.in_ok-push-2.ensures.items ∙ ap (λ xs. xs ++ Store at ∷ []) c.in_ok-push.ensures.items in
    (λ i. added i ++ fill one (next i) left) ∙ (append_assoc (before ++ one) (Store at ∷ []) (fill one (at + 1) left) ∙
    (append_assoc before one (Store at ∷ fill one (at + 1) left) ∙ (ap (λ n. before ++ fill one at n) (sym more) ∙ c.loop-place.invariant)))

pub returns : goal.returns
returns c =
    let none : c.args.count - c.loop-place.place ≡ 0 = omega arith in
    sym (append-nil c.loop-place.code.items) ∙ (ap (λ n. c.loop-place.code.items ++ fill (c.args.value ∷ []) (c.args.first + c.loop-place.place) n) (sym none) ∙ c.loop-place.invariant)
