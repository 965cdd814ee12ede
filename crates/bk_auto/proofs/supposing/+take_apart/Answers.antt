use Rattle.std.proofs.Common.{◌≡◌, ◌∙◌, ◌+◌, ◌++◌, ◌∷◌, [], ℕ, List, length, ap, sym, arith}
use Rattle.std.proofs.lemmas.List.{append-nil}
use Rattle.std.proofs.lemmas.Result.{on_ok_weaker}
use Rattle.bk_form.specs.Formula.{Formula, binary}
use Rattle.bk_form.specs.declared.operator.BinOp.TheVariants.{And}
use Rattle.bk_kernel.specs.Branches.{sides}
use Rattle.bk_kernel.specs.Held.{pair_in}
use Rattle.bk_kernel.specs.declared.rule.Rule.{Rule}
use Rattle.bk_kernel.specs.declared.rule.Rule.TheVariants.{Split}
use Rattle.bk_kernel.proofs.Viewed.{sides-then}
use Rattle.bk_auto.proofs.Taken.{whole, taken_hyps, taken_rules}
use Rattle.bk_auto.proofs.supposing.+take_apart.Goals as goal

pub returns-in_default : goal.returns-in_default
returns-in_default t c =
    let h0 : List Formula = c.args.hyps.now.items in
    let r0 : List Rule = c.args.rules.now.items in
    let w = whole c.args.form.now (sym c.sides.ensures ∙ ap pair_in c.in_default.is) in
    record {
      hyps = sym (ap (λ (hs : List Formula). h0 ++ hs) w.none ∙ append-nil h0);
      rules = sym (ap (λ (rs : List Rule). r0 ++ rs) (w.nothing c.args.index (length h0)) ∙ append-nil r0);
    }

pub returns-clause-hyps : goal.returns-clause-hyps
returns-clause-hyps t c =
    let f = c.args.form.now in
    let p = c.in-Some.left.now in
    let q = c.in-Some.right.now in
    let h0 : List Formula = c.args.hyps.now.items in
    let is : f ≡ binary And p q = sides-then And f (p, q) (sym c.in-Some.ensures) in
    on_ok_weaker c.take_apart-2.result
    (taken_hyps f p q is h0 c.push.new.self.items c.push-2.new.self.items c.take_apart.new.hyps.items (c.in_ok-push.ensures.items ∙ ap (λ (x : Formula). h0 ++ x ∷ []) c.in_ok-copy.ensures)
    (c.in_ok-push-2.ensures.items ∙ ap (λ (x : Formula). c.push.new.self.items ++ x ∷ []) c.in_ok-copy-2.ensures) c.in_ok-take_apart.ensures.hyps c.take_apart-2.new.hyps.items)
    c.take_apart-2.ensures.hyps

pub returns-clause-rules : goal.returns-clause-rules
returns-clause-rules t c =
    let f = c.args.form.now in
    let p = c.in-Some.left.now in
    let q = c.in-Some.right.now in
    let h0 : List Formula = c.args.hyps.now.items in
    let is : f ≡ binary And p q = sides-then And f (p, q) (sym c.in-Some.ensures) in
    on_ok_weaker c.take_apart-2.result
    (taken_rules f p q is h0 c.push.new.self.items c.push-2.new.self.items c.take_apart.new.hyps.items (c.in_ok-push.ensures.items ∙ ap (λ (x : Formula). h0 ++ x ∷ []) c.in_ok-copy.ensures)
    (c.in_ok-push-2.ensures.items ∙ ap (λ (x : Formula). c.push.new.self.items ++ x ∷ []) c.in_ok-copy-2.ensures) c.in_ok-take_apart.ensures.hyps
    c.args.index c.in_ok-number_at.field-0 c.len-first.result c.args.rules.now.items c.add.new.rules.items c.take_apart.new.rules.items c.take_apart-2.new.rules.items c.in_ok-number_at.ensures (omega (arith, c.len-first.ensures, c.args.hyps.now.ok.0)) c.in_ok-add.ensures c.in_ok-take_apart.ensures.rules)
    c.take_apart-2.ensures.rules
