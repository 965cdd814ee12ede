use Rattle.std.proofs.Common.{◌-◌, ◌^◌, min, ap, sym, ◌∙◌}
use Rattle.bk_b0.specs.CodeUnit.{unit_places}
use Rattle.bk_gen.proofs.Operated.{one_size}
use Rattle.bk_gen.proofs.statement.assignment_size.Goals as goal

pub returns-in-len1 : goal.returns-in-len1
returns-in-len1 c = c.store_size.ensures ∙ ap (λ n. min n (2 ^ 64 - 1)) (sym (one_size (unit_places c.args.unit.now) c.args.terms.now c.index-terms-0-then-terms-lt2.result c.index-terms-0.result c.in-len1.len_at_least c.in-len1.len_below))
