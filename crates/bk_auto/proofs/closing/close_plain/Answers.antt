use Rattle.std.proofs.Common.{◌≡◌, ◌∙◌, ap, sym, subst, List, false, true, Some, OnOk, arith}
use Rattle.bk_form.specs.Formula.{Formula, binary}
use Rattle.bk_form.specs.FormShown.{shown}
use Rattle.bk_kernel.specs.Obvious.{is_plain}
use Rattle.bk_auto.specs.Found.{ClosesAnywhere}
use Rattle.bk_auto.proofs.Obvious.{not_plain}
use Rattle.bk_auto.proofs.closing.close_plain.Goals as goal

pub close_sides-requires : goal.close_sides-requires
close_sides-requires c = ap is_plain (sym (ap shown c.in-Bin.is) ∙ c.view.ensures) ∙ c.requires

pub returns-in-Bin : goal.returns-in-Bin
returns-in-Bin c = subst (λ (g : Formula). OnOk c.close_sides.result (ClosesAnywhere c.args.rules.now.items c.close_sides.new.rules.items g)) (sym (ap shown c.in-Bin.is) ∙ c.view.ensures) c.close_sides.ensures

pub returns-in_default : goal.returns-in_default
returns-in_default c = absurd (not_plain c.view.result c.in_default.not-Bin (ap is_plain c.view.ensures ∙ c.requires))
