use Rattle.bk_calls.proofs.Scripts.{has_one_script, is_script_without_fault, asks_or_is_at_fault, is_read_one_way}
use Rattle.bk_calls.proofs.Limits.{is_one_of_three, are_apart}
use Rattle.bk_calls.proofs.Encoding.{calls_are_utf8}
use Rattle.bk_calls.proofs.laws.scripts_are_read_one_way.Goals as goal

pub returns-clause-one : goal.returns-clause-one
returns-clause-one c = has_one_script

pub returns-clause-some : goal.returns-clause-some
returns-clause-some c = is_script_without_fault

pub returns-clause-outcome : goal.returns-clause-outcome
returns-clause-outcome c = is_one_of_three

pub returns-clause-apart : goal.returns-clause-apart
returns-clause-apart c = are_apart

pub returns-clause-line : goal.returns-clause-line
returns-clause-line c = asks_or_is_at_fault

pub returns-clause-read : goal.returns-clause-read
returns-clause-read c = is_read_one_way

pub returns-clause-utf8 : goal.returns-clause-utf8
returns-clause-utf8 c = calls_are_utf8
