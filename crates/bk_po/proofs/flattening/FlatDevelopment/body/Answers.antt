use Rattle.std.proofs.Common.{◌<◌, length, sym, subst}
use Rattle.bk_dev.specs.Development.{Level}
use Rattle.bk_po.proofs.FlatParts.{body_stands}
use Rattle.bk_po.proofs.flattening.FlatDevelopment.body.Goals as goal

pub body_of-requires : goal.body_of-requires
body_of-requires c =
    subst (λ (l : Level). c.args.operation < length l.bodies) (sym c.level.ensures) (body_stands c.args.self.now c.facts.ensures c.args.level c.args.operation c.requires.level c.requires.operation)
