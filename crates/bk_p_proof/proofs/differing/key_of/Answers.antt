use Rattle.bk_p_proof.proofs.NameKeys.{key_grows, fits_on}
use Rattle.bk_p_proof.proofs.differing.key_of.Goals as goal

pub loop-part-preserved : goal.loop-part-preserved
loop-part-preserved c = record {
  keyed = key_grows c.args.name.now c.loop-part.part-index c.part-item.result c.loop-part.key.items c.add_part.new.key.items c.loop-part-test.true c.part-item.is c.loop-part.invariant.keyed c.in_ok-add_part.ensures.key;
  fit = fits_on c.args.name.now c.loop-part.part-index c.part-item.result c.loop-part-test.true c.part-item.is c.loop-part.invariant.fit c.in_ok-add_part.ensures.fits;
}
