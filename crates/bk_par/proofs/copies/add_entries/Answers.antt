use Rattle.std.proofs.Common.{length, sym, ◌∙◌, ap, arith, get_or}
use Rattle.bk_form.specs.Table.{Table}
use Rattle.bk_par.proofs.Entries.{as_many_then, one_copy, wider_copy, wider_kept, all_step, all_end}
use Rattle.bk_par.proofs.copies.add_entries.Goals as goal

pub loop-variable-preserved : goal.loop-variable-preserved
loop-variable-preserved c =
    let t = c.loop-variable.table in
    let first = c.args.listed in
    let i = c.loop-variable.variable-index in
    let xs = c.args.variables.now in
    let now = c.in_ok-add_entry.ensures.ok in
    record {
      all = all_step t c.add_entry.new.table first i xs (omega arith) c.loop-variable.invariant.enough now ∙ c.loop-variable.invariant.all;
      enough = omega (arith, c.loop-variable.invariant.enough, as_many_then t first (get_or xs i 0), ap (λ (u : Table). length u.variables) now);
      wider = wider_kept c.args.table.now _ c.add_entry.new.table (wider_copy c.args.table.now t first (get_or xs i 0) c.loop-variable.invariant.wider) now;
      sets = ap (λ (u : Table). u.sets) (now ∙ one_copy t first (get_or xs i 0)) ∙ c.loop-variable.invariant.sets;
    }

pub returns-clause-ok : goal.returns-clause-ok
returns-clause-ok c = sym (all_end c.loop-variable.table c.args.listed c.loop-variable.variable-index c.args.variables.now (omega arith)) ∙ c.loop-variable.invariant.all
