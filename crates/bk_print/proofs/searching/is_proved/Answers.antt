use Rattle.std.proofs.Common.{subst}
use Rattle.bk_dev.specs.Flattened.{flattened}
use Rattle.bk_po.specs.Shown.{named_sequent}
use Rattle.bk_seq.specs.Sequents.{Sequent}
use Rattle.bk_status.specs.States.{IsState}
use Rattle.bk_print.proofs.Steps.{other_state, same_sequent}
use Rattle.bk_print.proofs.searching.is_proved.Goals as goal

pub returns-in_default : goal.returns-in_default
returns-in_default c =
    let dev = flattened c.args.dev.now in
    let o = named_sequent c.args.obligation.now in
    let state = c.in_ok-state_with.field-0 in
    let read = c.args.read.now in
    let same = same_sequent c.in_ok-sequent.sequent c.args.obligation.now.sequent c.in_ok-sequent.ensures.hyps c.in_ok-sequent.ensures.goal in
    record {
      proved = λ e. absurd (cc);
      other = λ e k. other_state dev read o state c.in_default.not-Proved (subst (λ (s : Sequent). IsState dev read o.0 s state) same c.in_ok-state_with.ensures) k;
    }
