-- Whether a formula is `not` of another one.
use Rattle.std.proofs.Common.{◌≡◌, sym, ◌∙◌, ap, false}
use Rattle.std.specs.Prelude.{Some, None}
use Rattle.bk_form.specs.Formula.{Formula, unary}
use Rattle.bk_form.specs.declared.operator.UnOp.TheVariants.{Not}
use Rattle.bk_form.proofs.Members.{both_ways}
use Rattle.bk_arith.specs.Same.{is_same}
use Rattle.bk_arith.proofs.SameFormula.{same-then, same-if}
use Rattle.bk_kernel.specs.Branches.{operand}
use Rattle.bk_kernel.proofs.Viewed.{operand-then}

inner-same : (a b : Formula) → unary Not a ≡ unary Not b → a ≡ b
inner-same a b h = cc

pub no-denial : (f g : Formula) → None ≡ operand Not f → false ≡ is_same f (unary Not g)
no-denial f g h = both_ways false (is_same f (unary Not g)) (λ k. absurd (cc k)) (λ k. let e : None ≡ Some g = h ∙ ap (operand Not) (same-then f (unary Not g) k) in absurd (cc))

pub denial : (f g a : Formula) → Some a ≡ operand Not f → is_same a g ≡ is_same f (unary Not g)
denial f g a h =
    let shape : f ≡ unary Not a = operand-then Not f a (sym h) in
    both_ways (is_same a g) (is_same f (unary Not g))
    (λ k. same-if f (unary Not g) (shape ∙ ap (unary Not) (same-then a g k)))
    (λ k. same-if a g (inner-same a g (sym shape ∙ same-then f (unary Not g) k)))
