use Rattle.std.proofs.Common.{◌≡◌, ◌∙◌, inl, inr, sym, subst, List}
use Rattle.bk_lin.specs.declared.fact.Fact.{Fact}
use Rattle.bk_arith.specs.declared.error.ArithFault.{ArithFault}
use Rattle.bk_arith.specs.declared.error.ArithFault.TheVariants.{TooWide, Memory}
use Rattle.bk_auto.specs.Found.{AreReadFrom}
use Rattle.bk_auto.proofs.Refuted.{wide_facts}
use Rattle.bk_auto.proofs.arithmetic.certificate.Goals as goal

pub refuted-requires : goal.refuted-requires
refuted-requires c =
    subst (λ (fs : List Fact). AreReadFrom c.args.hyps.now c.args.goal.now fs) (sym c.deref.ensures.value) (record { read = c.in-Ok.ensures.facts; width = c.in-Ok.ensures.width; right = c.in-Ok.ensures.right })

pub returns-in-Err-TooWide : goal.returns-in-Err-TooWide
returns-in-Err-TooWide c = elim c.in-Err-TooWide.ensures.fault [
  | inl m ↦ (let never : TooWide ≡ Memory = sym c.in-Err-TooWide.field-0-is ∙ m in absurd (cc))
  | inr f ↦ wide_facts c.args.hyps.now c.args.goal.now c.in-Err-TooWide.field-0 c.requires f
]
