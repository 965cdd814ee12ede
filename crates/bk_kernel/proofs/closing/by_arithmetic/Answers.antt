use Rattle.std.proofs.Common.{List, sym, ◌∙◌, ap}
use Rattle.std.specs.Option.{option_and_then}
use Rattle.bk_form.specs.Formula.{Formula}
use Rattle.bk_arith.specs.Decision.{is_accepted}
use Rattle.bk_kernel.specs.Branches.{closed_if}
use Rattle.bk_kernel.specs.Rules.{listed_facts}
use Rattle.bk_kernel.specs.Held.{list_in}
use Rattle.bk_kernel.proofs.closing.by_arithmetic.Goals as goal

pub returns : goal.returns
returns c =
    let goal_of = c.args.sequent.now.goal in
    let lines = c.args.lines.now in
    c.closed_if.ensures
    ∙ ap closed_if (c.in_ok-is_accepted.ensures ∙ ap (λ (ps : List Formula). is_accepted ps goal_of lines) c.deref-2.ensures.value)
    ∙ ap (option_and_then (λ (ps : List Formula). closed_if (is_accepted ps goal_of lines))) (sym (ap list_in c.in-Some.is) ∙ c.in_ok-hyps.ensures ∙ ap (λ (hs : List Formula). listed_facts hs c.args.facts.now) c.deref.ensures.value)
