use Rattle.bk_raw.proofs.TextComponents.{second-end, missing-end, loose-side, missing-body, body-is-no-list, addition, clause-twice}
use Rattle.bk_raw.proofs.TextScripts.{missing-number, end-is-no-rule}
use Rattle.bk_raw.proofs.TextSubs.{not-to-the-right, else-is-last}
use Rattle.bk_raw.proofs.laws.texts_are_refused.Goals as goal

pub returns : goal.returns
returns c = record {
  second_end = second-end;
  missing_end = missing-end;
  loose_side = loose-side;
  missing_body = missing-body;
  body_is_no_list = body-is-no-list;
  addition = addition;
  clause_twice = clause-twice;
  missing_number = missing-number;
  end_is_no_rule = end-is-no-rule;
  not_to_the_right = not-to-the-right;
  else_is_last = else-is-last;
}
