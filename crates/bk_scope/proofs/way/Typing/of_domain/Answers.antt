use Rattle.std.proofs.Common.{◌∙◌}
use Rattle.bk_scope.proofs.Seeing.{domain-told}
use Rattle.bk_scope.proofs.way.Typing.of_domain.Goals as goal

pub returns : goal.returns
returns c =
    let s = c.args.self.now in
    c.type_in.ensures ∙ domain-told c.under.result s.max s.types.now c.args.names.now c.args.term.now c.in_ok-domain.domain.answer c.under.ensures.max c.under.ensures.types c.under.ensures.names c.in_ok-domain.ensures.same
