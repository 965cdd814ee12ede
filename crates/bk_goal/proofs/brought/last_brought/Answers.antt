use Rattle.std.proofs.Common.{List, map, take, length, ◌∙◌, ap, subst}
use Rattle.bk_seq.specs.declared.sequent.Sequent.{Sequent as StoredSequent}
use Rattle.bk_seq.specs.Sequents.{sequent_of}
use Rattle.bk_replay.specs.Standing.{IsFurthest}
use Rattle.bk_goal.specs.Shown.{hypotheses_of_first, came_of_first}
use Rattle.bk_goal.proofs.brought.last_brought.Goals as goal

pub returns : goal.returns
returns c =
    let s = sequent_of c.args.sequent in
    let table = c.args.table.now in
    let rules = c.args.rules.now in
    let st = c.in_ok-before.before in
    let there = ap (map sequent_of) c.deref.ensures.value in
    let left = ap (λ (held : List StoredSequent). length (map sequent_of held)) c.deref-2.ensures.value in
    record {
      done = st.done;
      before = map sequent_of st.left.items;
      furthest = subst (λ n. IsFurthest table (take n rules) s st.done (map sequent_of st.left.items)) c.saturating_sub-count.ensures c.in_ok-before.ensures.furthest;
      old = c.brought_between.ensures.old ∙ ap hypotheses_of_first there;
      news = c.brought_between.ensures.news ∙ (λ i. came_of_first (there i) (left i));
    }
