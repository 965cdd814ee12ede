use Rattle.std.proofs.Common.{sym, subst}
use Rattle.bk_image.specs.declared.version.ImageVersion.{ImageVersion}
use Rattle.bk_image.specs.Spelling.{FitsFields}
use Rattle.bk_image.proofs.writing.write.Goals as goal

pub put_header-requires : goal.put_header-requires
put_header-requires c = subst (λ (v : ImageVersion). FitsFields v c.args.image.now) (sym c.version_of.ensures) c.requires.spelling.fits
