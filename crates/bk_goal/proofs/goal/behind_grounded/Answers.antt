use Rattle.std.proofs.Common.{map, take, length, nat_lt, sym, ◌∙◌, ap, subst}
use Rattle.std.specs.Prelude.{◌||◌}
use Rattle.bk_seq.specs.Sequents.{Types, IsWithin, sequent_of}
use Rattle.bk_replay.specs.Standing.{IsFurthest}
use Rattle.bk_goal.specs.Shown.{IsBrought, TellsRest}
use Rattle.bk_goal.proofs.Lines.{put_between}
use Rattle.bk_goal.proofs.goal.behind_grounded.Goals as goal

pub last_brought-requires : goal.last_brought-requires
last_brought-requires c = record {
  types = subst (Types c.args.table.now) (sym c.in_ok-before.ensures) c.requires.types;
  within = subst IsWithin (sym c.in_ok-before.ensures) c.requires.within;
  countable = c.requires.countable;
}

pub returns : goal.returns
returns c =
    let s = sequent_of c.args.sequent in
    let rules = c.args.rules.now in
    let table = c.args.table.now in
    let found = c.args.found in
    let st = c.in_ok-standing.standing in
    let left = map sequent_of st.left.items in
    let next = c.in_ok-next.next.items in
    let asked = c.count_asked-count.ensures in
    record {
      rules = rules;
      table = table;
      grounded = c.requires.grounded;
      k = st.done;
      left = left;
      furthest = subst (λ n. IsFurthest table (take n rules) s st.done left) asked c.in_ok-standing.ensures.furthest;
      brought = c.in_ok-brought.brought;
      brings = subst (λ t. IsBrought table rules t st.done left c.in_ok-brought.brought) c.in_ok-before.ensures c.in_ok-brought.ensures;
      next = next;
      tells = subst (λ n. TellsRest found st.done n left next) asked c.in_ok-next.ensures;
      shows = put_between table c.in_ok-brought.brought c.in_ok-text.text.items c.deref-2.ensures.value c.in_ok-header.ensures c.deref-3.ensures.value c.deref.ensures.value c.in_ok-text.ensures;
      open_is = c.is_left-is_open.ensures ∙ ap (λ n. nat_lt st.done n || nat_lt 0 (length left)) asked;
    }
