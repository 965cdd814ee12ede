use Rattle.std.proofs.Common.{subst}
use Rattle.bk_p_proof.specs.Files.{AreOfTexts}
use Rattle.bk_p_proof.proofs.OfTexts.{all_short, all_low, all_stand}
use Rattle.bk_p_proof.proofs.held.Scripts.facts.Goals as goal

pub returns : goal.returns
returns c =
    let scripts = c.args.self.now in
    let texts : AreOfTexts scripts = subst AreOfTexts c.self.view_is c.self.invariant in
    record {
      distinct = texts.1.distinct;
      short = all_short scripts texts;
      low = all_low scripts texts;
      each = all_stand scripts texts;
    }
