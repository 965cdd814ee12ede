use Rattle.std.proofs.Common.{refl, rules}
use Rattle.bk_p_proof.specs.Files.{IsShort}
use Rattle.bk_sources.proofs.Turns.{all_on, all_end}
use Rattle.bk_p_proof.proofs.files.are_short.Goals as goal

pub loop-script-preserved : goal.loop-script-preserved
loop-script-preserved c =
    let short : IsShort c.script-item.result = search rules in
    all_on IsShort c.args.scripts.now c.loop-script.script-index c.script-item.result c.loop-script-test.true c.script-item.is c.loop-script.invariant short

pub returns : goal.returns
returns c = (λ t. all_end IsShort c.args.scripts.now c.loop-script.script-index c.loop-script-test.false c.loop-script.invariant, λ h. refl)
