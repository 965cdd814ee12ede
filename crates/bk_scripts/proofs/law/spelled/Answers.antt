use Rattle.std.proofs.Common.{◌≡◌, ◌∙◌, sym, true, false, rules}
use Rattle.std.specs.Str.{bytes_eq}
use Rattle.bk_scripts.proofs.Finds.{spelled_past, spelled_here}
use Rattle.bk_scripts.proofs.law.spelled.Goals as goal

pub loop-before-preserved : goal.loop-before-preserved
loop-before-preserved c =
    let same : bytes_eq c.args.digits.now c.as_bytes.result.now ≡ false = let t = c.if-eq.false in search rules in
    sym (spelled_past c.args.most c.loop-before.before c.args.digits.now c.as_bytes.result.now c.loop-before-test.true (c.as_bytes.ensures.value ∙ c.format.ensures.text) same) ∙ c.loop-before.invariant

pub returns-then-eq-clause-value : goal.returns-then-eq-clause-value
returns-then-eq-clause-value c =
    let same : bytes_eq c.args.digits.now c.as_bytes.result.now ≡ true = let t = c.if-eq.true in search rules in
    sym (spelled_here c.args.most c.loop-before.before c.args.digits.now c.as_bytes.result.now c.loop-before-test.true (c.as_bytes.ensures.value ∙ c.format.ensures.text) same) ∙ c.loop-before.invariant
