use Rattle.std.proofs.Common.{◌≡◌, ◌∙◌, ap, sym, subst, refl, false, Bool, arith}
use Rattle.std.specs.Prelude.{is_none}
use Rattle.std.proofs.lemmas.Result.{IfOk-weaker}
use Rattle.bk_form.specs.Formula.{Formula}
use Rattle.bk_arith.specs.Comparison.{terms_of_goal}
use Rattle.bk_seq.specs.Sequents.{sequent_of}
use Rattle.bk_auto.specs.Found.{Settles, Orders}
use Rattle.bk_auto.proofs.Shapes.{ordered_by}
use Rattle.bk_auto.proofs.ordering.by_order.Goals as goal

pub by_arithmetic-requires : goal.by_arithmetic-requires
by_arithmetic-requires c = subst (λ (g : Formula). is_none (terms_of_goal g) ≡ false) c.requires.is refl

pub returns : goal.returns
returns c =
    let r0 = c.args.rules.now.items in
    let r1 = c.by_arithmetic.new.rules.items in
    let s = sequent_of c.args.sequent.now in
    IfOk-weaker c.by_arithmetic.result (λ (b : Bool). Settles b r0 r1 s) (λ (b : Bool). Orders b r0 r1 s)
    (λ b h. ordered_by b r0 r1 c.args.sequent.now.hyps.items c.args.sequent.now.goal c.requires (sym c.is_obvious.ensures ∙ c.if-is_obvious.false) h)
    c.by_arithmetic.ensures
