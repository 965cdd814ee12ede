use Rattle.std.proofs.Common.{◌≡◌, length, map, subst, arith}
use Rattle.std.specs.Prelude.{IfOk}
use Rattle.bk_seq.specs.Sequents.{sequent_of}
use Rattle.bk_goal.specs.Shown.{TellsNext, end_text}
use Rattle.bk_goal.proofs.Lines.{length_held}
use Rattle.bk_goal.proofs.goal.next_text.Goals as goal

pub returns-in-Some : goal.returns-in-Some
returns-in-Some c =
    let st = c.args.standing.now in
    subst (λ o. IfOk c.rule_told.result (λ text. TellsNext c.args.found st.done c.args.count (length (map sequent_of st.left.items)) o text.items)) c.in-Some.ensures c.rule_told.ensures

pub returns-in-None : goal.returns-in-None
returns-in-None c =
    let st = c.args.standing.now in
    let count : c.len.result ≡ length (map sequent_of st.left.items) = omega (arith, c.len.ensures, st.left.ok.0, length_held st.left.items) in
    let told = subst (λ n. IfOk c.end_text.result (λ text. text.items ≡ end_text n)) count c.end_text.ensures in
    subst (λ o. IfOk c.end_text.result (λ text. TellsNext c.args.found st.done c.args.count (length (map sequent_of st.left.items)) o text.items)) c.in-None.ensures told
