use Rattle.std.proofs.Common.{subst, OnOk}
use Rattle.bk_form.specs.PoolKeys.{held, IsWith}
use Rattle.bk_form.proofs.pool.add.Goals as goal

pub returns-clause-list : goal.returns-clause-list
returns-clause-list c = subst (λ f. OnOk c.put.result (IsWith (held c.args.members.now.entries) f (held c.put.new.members.entries))) c.in_ok-member.ensures c.put.ensures.list
