use Rattle.std.proofs.Common.{◌≡◌, ℕ, ◌+◌, ℤ, length, ap, ◌∙◌, arith, rules}
use Rattle.std.specs.Global.{Vec}
use Rattle.std.proofs.lemmas.Int.{ints}
use Rattle.std.specs.Int.{w128, cast_signed, cast_unsigned}
use Rattle.bk_lin.proofs.Adding.{back}
use Rattle.bk_elim.specs.Elimination.{entry}
use Rattle.bk_elim.specs.Rows.{parts_from}
use Rattle.bk_elim.proofs.Starting.{parts_skipped, parts_pushed}
use Rattle.bk_elim.proofs.system.parts.Goals.{then-times-ne0+in_ok-push, else-times-ne0}
use Rattle.bk_elim.proofs.system.parts.Goals as goal

pub loop-index-preserved : goal.loop-index-preserved
loop-index-preserved c =
    let same : cast_signed w128 (cast_unsigned w128 (entry c.args.row.now (5 + c.loop-index.index))) ≡ entry c.args.row.now (5 + c.loop-index.index) = back (entry c.args.row.now (5 + c.loop-index.index)) (search rules) in
    elim c.if-times-ne0.branch [
      | then-times-ne0+in_ok-push w ↦
          let parts : c.if-times-ne0.parts.items ≡ w.push.new.self.items = ap (λ (v : Vec (ℤ × ℕ)). v.items) w.parts-is in
          parts_pushed (length c.args.facts.now) c.loop-index.index c.args.row.now c.loop-index.parts.items c.if-times-ne0.parts.items (parts_from (length c.args.facts.now) 0 c.args.row.now) _ _ (omega arith)
          (λ h. omega (arith, ints)) (parts ∙ w.in_ok-push.ensures.items) (omega (arith, ints)) (omega arith) c.loop-index.invariant
      | else-times-ne0 w ↦
          let parts : c.if-times-ne0.parts.items ≡ c.loop-index.parts.items = ap (λ (v : Vec (ℤ × ℕ)). v.items) w.parts-is in
          parts_skipped (length c.args.facts.now) c.loop-index.index c.args.row.now c.loop-index.parts.items c.if-times-ne0.parts.items (parts_from (length c.args.facts.now) 0 c.args.row.now) (omega arith)
          (omega (arith, ints)) parts c.loop-index.invariant
    ]
