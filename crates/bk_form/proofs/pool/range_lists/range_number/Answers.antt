use Rattle.std.proofs.Common.{[], map, sym, ◌∙◌, ap, subst, Some}
use Rattle.std.specs.Cmp.Lexicographic.{pointwise, bytes_decides}
use Rattle.std.specs.Prelude.{nat_eq}
use Rattle.bk_form.specs.PoolKeys.{Differ}
use Rattle.bk_form.proofs.Pools.Lists.{append-none}
use Rattle.bk_form.proofs.Pools.Ranged.{inserted-grows, inserted-differ, inserted-number}
use Rattle.bk_form.proofs.pool.range_lists.range_number.Goals as goal

pub returns-in_err-copy-clause-grows : goal.returns-in_err-copy-clause-grows
returns-in_err-copy-clause-grows c = ([], sym (append-none _))

pub returns-in_err-n-clause-differ : goal.returns-in_err-n-clause-differ
returns-in_err-n-clause-differ c = subst (λ l. Differ (map (λ ns. ns.items) l)) (sym c.in_err-n.ensures.err) c.requires

pub returns-in_err-n-clause-grows : goal.returns-in_err-n-clause-grows
returns-in_err-n-clause-grows c = ([], ap (map (λ ns. ns.items)) c.in_err-n.ensures.err ∙ sym (append-none _))

pub returns-clause-differ : goal.returns-clause-differ
returns-clause-differ c = inserted-differ (λ ns. ns.items) (λ x y. pointwise nat_eq x.items y.items) (λ x y. bytes_decides x.items y.items) c.in_ok-copy.copy c.args.ranges.now.keys c.insert_full.new.self.keys c.in_ok-n.ensures.keys c.requires

pub returns-clause-grows : goal.returns-clause-grows
returns-clause-grows c = inserted-grows (λ ns. ns.items) (λ x y. pointwise nat_eq x.items y.items) (λ x y. bytes_decides x.items y.items) c.in_ok-copy.copy c.args.ranges.now.keys c.insert_full.new.self.keys c.in_ok-n.ensures.keys

pub returns-clause-number : goal.returns-clause-number
returns-clause-number c = let s = c.in_ok-n.ensures.stored in inserted-number (λ ns. ns.items) (λ x y. pointwise nat_eq x.items y.items) (λ x y. bytes_decides x.items y.items) c.in_ok-copy.copy c.args.ranges.now.keys c.insert_full.new.self.keys c.in_ok-n.ensures.keys c.in_ok-n.n s.0 s.1 s.2 ∙ ap Some c.in_ok-copy.ensures.items
