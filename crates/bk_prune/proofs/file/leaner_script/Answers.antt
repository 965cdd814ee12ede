use Rattle.std.proofs.Common.{sym, subst, arith}
use Rattle.std.specs.Prelude.{All}
use Rattle.bk_p_proof.specs.Files.{IsShort}
use Rattle.bk_prune.proofs.file.leaner_script.Goals as goal

pub without_spare-requires : goal.without_spare-requires
without_spare-requires c =
    let short = subst (λ scripts. All IsShort scripts) (sym c.all.ensures) c.facts.ensures.short in
    record { ready = c.requires; short = subst IsShort (sym c.only-item.is) (short 0 c.only-item.result (omega arith)) }
