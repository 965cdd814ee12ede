use Rattle.std.proofs.Common.{sym, ap, ◌∙◌, subst}
use Rattle.bk_p_proof.specs.Keys.{NameFits, name_key}
use Rattle.bk_p_proof.proofs.NameKeys.{takes_in, told_again}
use Rattle.bk_p_proof.proofs.differing.ScriptNames.twice.Goals as goal

pub returns-then-not-branch : goal.returns-then-not-branch
returns-then-not-branch c names h d =
    let same = c.deref.ensures.value ∙ ap (λ s. s.name) c.script.view_is in
    told_again (λ key. key.items) names c.args.scripts.now c.loop-script.script-index c.script-item.result c.loop-script.self.keys.keys c.in_ok-key.key c.in_ok-insert.field-0 c.script.inside.name_at (c.loop-script.invariant names h d) c.loop-script-test.true c.script-item.is (c.in_ok-key.ensures.key ∙ ap name_key same) (subst NameFits same c.in_ok-key.ensures.fits) c.in_ok-insert.ensures.added c.if-not-branch.true (ap (λ s. s.name_at) (sym c.script.view_is))

pub loop-script-preserved : goal.loop-script-preserved
loop-script-preserved c names h d =
    let same = c.deref.ensures.value ∙ ap (λ s. s.name) c.script.view_is in
    takes_in (λ key. key.items) names c.args.scripts.now c.loop-script.script-index c.script-item.result c.loop-script.self.keys.keys c.insert.new.self.keys c.in_ok-key.key c.in_ok-insert.field-0 (c.loop-script.invariant names h d) c.loop-script-test.true c.script-item.is (c.in_ok-key.ensures.key ∙ ap name_key same) (subst NameFits same c.in_ok-key.ensures.fits) c.in_ok-insert.ensures.added c.if-not-branch.false c.in_ok-insert.ensures.keys
