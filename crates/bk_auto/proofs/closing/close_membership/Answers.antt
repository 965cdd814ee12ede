use Rattle.std.proofs.Common.{◌≡◌, ◌∙◌, ap, sym, subst, List, false, true, Some, OnOk, arith}
use Rattle.std.proofs.lemmas.Result.{on_ok_weaker}
use Rattle.bk_form.specs.Formula.{Formula, binary}
use Rattle.bk_form.specs.declared.operator.BinOp.TheVariants.{In}
use Rattle.bk_auto.proofs.Obvious.{closes_typing, closes_decided, decided-member}
use Rattle.bk_auto.proofs.closing.close_membership.Goals as goal

pub returns-then-not-has_all : goal.returns-then-not-has_all
returns-then-not-has_all c =
    on_ok_weaker c.add.result (λ e. closes_decided c.args.rules.now.items c.add.new.rules.items (binary In c.args.element.now c.args.set.now) e (decided-member c.args.element.now c.args.set.now c.requires (sym c.has_all.ensures ∙ c.if-not-has_all.true))) c.add.ensures

pub returns : goal.returns
returns c =
    on_ok_weaker c.add-3.result
    (λ e. closes_typing c.args.rules.now.items c.add-2.new.rules.items c.add-3.new.rules.items c.args.element.now c.args.set.now c.new.result c.in_ok-add.ensures e c.new.ensures.items (sym c.has_all.ensures ∙ c.if-not-has_all.false))
    c.add-3.ensures
