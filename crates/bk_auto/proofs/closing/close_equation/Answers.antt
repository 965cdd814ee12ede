use Rattle.std.proofs.Common.{◌≡◌, ◌∙◌, ap, sym, subst, List, false, true, Some, OnOk, arith}
use Rattle.std.proofs.lemmas.Result.{on_ok_weaker}
use Rattle.bk_form.specs.Formula.{Formula, binary}
use Rattle.bk_form.specs.declared.operator.BinOp.TheVariants.{Eq}
use Rattle.bk_auto.proofs.Obvious.{closes_same, closes_decided, decided-equation, not_same}
use Rattle.bk_auto.proofs.closing.close_equation.Goals as goal

pub returns-then-equal : goal.returns-then-equal
returns-then-equal c = on_ok_weaker c.add.result (λ e. closes_same c.args.rules.now.items c.add.new.rules.items c.args.left.now c.args.right.now e (c.equal.ensures.0 c.if-equal.true)) c.add.ensures

pub returns-else-equal : goal.returns-else-equal
returns-else-equal c =
    let a = c.args.left.now in
    let b = c.args.right.now in
    let apart : a ≡ b → ⊥ = λ h. (let t : true ≡ false = sym (c.equal.ensures.1 h) ∙ c.if-equal.false in cc) in
    on_ok_weaker c.add-else-equal.result (λ e. closes_decided c.args.rules.now.items c.add-else-equal.new.rules.items (binary Eq a b) e (decided-equation a b c.requires (not_same a b apart))) c.add-else-equal.ensures
