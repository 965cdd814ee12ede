use Rattle.std.proofs.Common.{◌≡◌, ◌+◌, ◌≤◌, ◌++◌, List, length, ap, sym, subst}
use Rattle.std.specs.Prelude.{OnOk}
use Rattle.bk_limits.specs.declared.TheConstants.{MOST_INSTRUCTIONS}
use Rattle.bk_code.specs.declared.instruction.Inst.{Inst}
use Rattle.bk_b0.specs.CodeUnit.{unit_places}
use Rattle.bk_gen.proofs.Operated.{one_assigned, one_has, one_size}
use Rattle.bk_gen.proofs.statement.add_assignment.Goals as goal

pub add_store-requires-clause-has : goal.add_store-requires-clause-has
add_store-requires-clause-has c = one_has (unit_places c.args.unit.now) c.args.terms.now c.index-terms-0-then-terms-lt2.result c.index-terms-0.result c.in-len1.len_at_least c.in-len1.len_below c.requires.has

pub add_store-requires-clause-short : goal.add_store-requires-clause-short
add_store-requires-clause-short c = subst (λ n. length c.args.code.now.items + n ≤ MOST_INSTRUCTIONS) (one_size (unit_places c.args.unit.now) c.args.terms.now c.index-terms-0-then-terms-lt2.result c.index-terms-0.result c.in-len1.len_at_least c.in-len1.len_below) c.requires.short

pub returns-in-len1 : goal.returns-in-len1
returns-in-len1 c =
    let p = unit_places c.args.unit.now in
    let same = ap (λ xs. c.args.code.now.items ++ xs) (sym (one_assigned p c.args.terms.now c.index-terms-0-then-terms-lt2.result c.index-terms-0.result c.in-len1.len_at_least c.in-len1.len_below)) in
    subst (λ (xs : List Inst). OnOk c.add_store.result (c.add_store.new.code.items ≡ xs)) same c.add_store.ensures
