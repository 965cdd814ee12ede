use Rattle.std.proofs.Common.{◌∙◌, sym}
use Rattle.bk_scripts.proofs.Finds.{element_in, none_in}
use Rattle.bk_scripts.proofs.found.in_set.Goals as goal

pub returns-then-has_element : goal.returns-then-has_element
returns-then-has_element c = λ e h. sym (element_in e c.args.text.now (sym (c.is_named.ensures e h) ∙ c.if-is_named.false) (sym (c.has_element.ensures e h) ∙ c.if-has_element.true))

pub returns : goal.returns
returns c = λ e h. sym (none_in e c.args.text.now (sym (c.is_named.ensures e h) ∙ c.if-is_named.false) (sym (c.has_element.ensures e h) ∙ c.if-has_element.false))
