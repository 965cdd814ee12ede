use Rattle.std.proofs.Common.{◌∙◌}
use Rattle.bk_scope.proofs.TermsSeen.{type-given}
use Rattle.bk_check_b0.proofs.executable.Executing.type_given.Goals as goal

pub returns : goal.returns
returns c =
    c.second.ensures
    ∙ type-given c.under.result c.args.self.now.typing.max c.args.self.now.typing.types.now c.args.self.now.names.now c.args.term.now c.in_ok-asked.asked.answer c.under.ensures.max c.under.ensures.names c.under.ensures.types c.in_ok-asked.ensures.same
