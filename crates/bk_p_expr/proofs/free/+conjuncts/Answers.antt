use Rattle.std.proofs.Common.{◌++◌, [], ◌∷◌, ◌∙◌, ap, sym, subst}
use Rattle.bk_raw.specs.Trees.FreeNames.{conjuncts}
use Rattle.bk_p_expr.specs.Conjuncts.{AreConjuncts}
use Rattle.bk_p_expr.proofs.Known.{alone_kept, conjuncts_append}
use Rattle.bk_p_expr.proofs.free.+conjuncts.Goals as goal

pub returns-in_default : goal.returns-in_default
returns-in_default t c = alone_kept c.args.term.now c.in_ok-one.one c.push.new.self.items c.in_default.ensures.found c.in_ok-one.ensures (c.in_ok-push.ensures.items ∙ ap (λ cs. cs ++ c.in_ok-one.one ∷ []) c.new-all.ensures.items)

pub returns : goal.returns
returns t c =
    subst (λ ts. AreConjuncts ts c.append.new.self.items) (sym c.in-Some.ensures.found)
    (subst (λ cs. AreConjuncts (conjuncts c.in-Some.left.now ++ conjuncts c.in-Some.right.now) cs) (sym c.in_ok-append.ensures.items) (conjuncts_append (conjuncts c.in-Some.left.now) (conjuncts c.in-Some.right.now) c.in_ok-all.all.items c.in_ok-behind.behind.items c.in_ok-all.ensures c.in_ok-behind.ensures))
