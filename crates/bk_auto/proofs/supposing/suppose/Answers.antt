use Rattle.std.proofs.Common.{◌≡◌, ◌∙◌, ◌++◌, ◌∷◌, [], List, length, refl, ap, sym}
use Rattle.bk_form.specs.Formula.{Formula}
use Rattle.bk_auto.specs.Easy.{supposed}
use Rattle.bk_auto.proofs.Taken.{supposed_hyps, supposed_rules}
use Rattle.bk_auto.proofs.supposing.suppose.Goals as goal

pub returns-clause-sequent : goal.returns-clause-sequent
returns-clause-sequent c =
    let hyps = c.args.hyps.now in
    let one : c.push.new.self.items ≡ hyps ++ c.args.left.now ∷ [] = c.in_ok-push.ensures.items ∙ (λ i. c.in_ok-more.ensures i ++ c.in_ok-copy.ensures i ∷ []) in
    let all : c.take_apart.new.hyps.items ≡ supposed hyps c.args.left.now = supposed_hyps hyps c.push.new.self.items c.take_apart.new.hyps.items c.args.left.now one c.in_ok-take_apart.ensures.hyps in
    λ i. (all i, c.in_ok-copy-2.ensures i)

pub returns-clause-rules : goal.returns-clause-rules
returns-clause-rules c =
    let hyps = c.args.hyps.now in
    let one : c.push.new.self.items ≡ hyps ++ c.args.left.now ∷ [] = c.in_ok-push.ensures.items ∙ (λ i. c.in_ok-more.ensures i ++ c.in_ok-copy.ensures i ∷ []) in
    supposed_rules hyps c.push.new.self.items c.args.left.now (length hyps) c.args.rules.now.items c.add.new.rules.items c.take_apart.new.rules.items refl one c.in_ok-add.ensures c.in_ok-take_apart.ensures.rules
