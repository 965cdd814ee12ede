use Rattle.std.proofs.Common.{◌≡◌, ◌+◌, ◌+ℤ◌, pos, ◌∷◌, [], ◌++◌, sym, ap, ◌∙◌, arith}
use Rattle.std.specs.Int.{w128, cast_signed, cast_unsigned}
use Rattle.std.proofs.lemmas.Int.{ints, to_z-of_z}
use Rattle.bk_form.specs.Formula.{Formula, literal, binary}
use Rattle.bk_form.specs.declared.operator.BinOp.TheVariants.{Eq}
use Rattle.bk_arith.specs.Cases.{literals_from, equations}
use Rattle.bk_arith.proofs.NumbersFrom.{equations-more}
use Rattle.bk_lin.proofs.Adding.{back}
use Rattle.bk_arith.proofs.interval.equations_between.Goals as goal

pub loop-offset-preserved : goal.loop-offset-preserved
loop-offset-preserved c =
    let e : Formula = c.args.element.now in
    let n = c.loop-offset.offset in
    let first : cast_signed w128 (cast_unsigned w128 c.args.first) ≡ c.args.first = back c.args.first c.ranges.first in
    let sum : cast_signed w128 (cast_unsigned w128 (cast_signed w128 (cast_unsigned w128 c.args.first) +ℤ cast_signed w128 (cast_unsigned w128 c.from.result))) ≡ c.args.first +ℤ pos n = grind (arith, ints, to_z-of_z) in
    let number : c.in_ok-number.number ≡ literal (c.args.first +ℤ pos n) = c.in_ok-number.ensures ∙ ap literal sum in
    let pushed : c.push.new.self.items ≡ c.loop-offset.list.items ++ binary Eq c.in_ok-copy.field-0 c.in_ok-number.number ∷ [] =
    c.in_ok-push.ensures.items ∙ ap (λ f. c.loop-offset.list.items ++ f ∷ []) c.in_ok-make.ensures in
    pushed
    ∙ ap (λ l. l ++ binary Eq c.in_ok-copy.field-0 c.in_ok-number.number ∷ []) (c.loop-offset.invariant ∙ ap (λ z. equations e (literals_from z n)) first)
    ∙ ap (λ f. equations e (literals_from c.args.first n) ++ binary Eq f c.in_ok-number.number ∷ []) c.in_ok-copy.ensures
    ∙ ap (λ f. equations e (literals_from c.args.first n) ++ binary Eq e f ∷ []) number
    ∙ sym (equations-more e c.args.first n)
    ∙ ap (λ z. equations e (literals_from z (n + 1))) (sym first)
