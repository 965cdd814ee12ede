use Rattle.std.proofs.Common.{slice_get, inl, refl, sym, ◌∙◌, ap}
use Rattle.bk_form.specs.PoolKeys.{held}
use Rattle.bk_form.proofs.Pools.Held.{found-there, put-there}
use Rattle.bk_form.proofs.pool.put.Goals as goal

pub returns-in-Some-clause-number : goal.returns-in-Some-clause-number
returns-in-Some-clause-number c = found-there _ _ c.args.members.now.entries c.requires.held c.args.key c.args.form c.requires.of c.in-Some.n (sym c.in-Some.ensures.found) c.in-Some.ensures.value

pub returns-in-Some-clause-list : goal.returns-in-Some-clause-list
returns-in-Some-clause-list c = inl ((c.in-Some.n, found-there _ _ c.args.members.now.entries c.requires.held c.args.key c.args.form c.requires.of c.in-Some.n (sym c.in-Some.ensures.found) c.in-Some.ensures.value), refl)

pub returns-clause-held : goal.returns-clause-held
returns-clause-held c = let put = put-there _ _ c.args.members.now.entries c.requires.held c.args.key c.args.form c.requires.of (sym c.in_default.ensures.found) c.insert.new.self.entries c.in_ok-insert.ensures.entries in put.0

pub returns-clause-number : goal.returns-clause-number
returns-clause-number c = let put = put-there _ _ c.args.members.now.entries c.requires.held c.args.key c.args.form c.requires.of (sym c.in_default.ensures.found) c.insert.new.self.entries c.in_ok-insert.ensures.entries in ap (slice_get (held c.insert.new.self.entries)) c.len-n.ensures.len ∙ put.1

pub returns-clause-list : goal.returns-clause-list
returns-clause-list c = let put = put-there _ _ c.args.members.now.entries c.requires.held c.args.key c.args.form c.requires.of (sym c.in_default.ensures.found) c.insert.new.self.entries c.in_ok-insert.ensures.entries in put.2
