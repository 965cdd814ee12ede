use Rattle.std.proofs.Common.{sym, subst}
use Rattle.std.proofs.lemmas.List.Elements.{All-get_or}
use Rattle.bk_p_proof.specs.Files.{IsShort}
use Rattle.bk_proof_program.proofs.FirstScripts.{passed, hit, none}
use Rattle.bk_proof_program.proofs.project.script_with.Goals as goal

pub loop-number-preserved : goal.loop-number-preserved
loop-number-preserved c =
    passed c.args.list.now c.loop-number.number c.index-list-number.result c.args.name.now c.in_ok-is_named.field-0 c.loop-number-test.true c.index-list-number.is c.in_ok-is_named.ensures c.if-branch.false c.loop-number.invariant

pub returns-then-branch-clause-named : goal.returns-then-branch-clause-named
returns-then-branch-clause-named c =
    hit c.args.list.now c.loop-number.number c.index-list-number.result c.args.name.now c.in_ok-is_named.field-0 c.loop-number-test.true c.index-list-number.is c.in_ok-is_named.ensures c.if-branch.true c.loop-number.invariant

pub returns-then-branch-clause-short : goal.returns-then-branch-clause-short
returns-then-branch-clause-short c =
    subst IsShort (sym c.index-list-number.is) (All-get_or IsShort c.args.list.now c.loop-number.number c.index-list-number.result c.loop-number-test.true c.requires)

pub returns-clause-named : goal.returns-clause-named
returns-clause-named c = none c.args.list.now c.loop-number.number c.args.name.now c.loop-number-test.false c.loop-number.invariant
