use Rattle.std.proofs.Common.{sym, subst}
use Rattle.bk_p_proof.specs.Files.{IsShort}
use Rattle.bk_prune.proofs.file.shorter_text.Goals as goal

pub script_text-requires : goal.script_text-requires
script_text-requires c =
    let l = c.loop-index in
    record { ready = c.requires.ready; short = subst IsShort (sym c.index-scripts-index.is) (c.requires.short l.index c.index-scripts-index.result c.loop-index-test.true) }
