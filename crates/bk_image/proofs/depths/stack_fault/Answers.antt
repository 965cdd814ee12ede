use Rattle.std.proofs.Common.{arith}
use Rattle.bk_image.specs.Progress.{progress}
use Rattle.bk_image.proofs.Judging.{judged}
use Rattle.bk_image.specs.Spelling.{version_of}
use Rattle.bk_image.proofs.Sizes.{laid_out_size}
use Rattle.bk_image.proofs.depths.stack_fault.Goals as goal

pub wrong_place-requires-clause-room : goal.wrong_place-requires-clause-room
wrong_place-requires-clause-room c = omega (arith, c.requires.room, laid_out_size (version_of c.args.image.now) c.args.image.now, c.code_begin.ensures)

pub returns : goal.returns
returns c = judged c.args.image.now (progress c.in_ok-depths.depths) c.code_begin.result c.wrong_place.result c.requires.numbered c.in_ok-depths.ensures c.code_begin.ensures c.wrong_place.ensures
