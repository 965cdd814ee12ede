use Rattle.bk_val.proofs.StoredSets.{sorted_from_rising, rising_from_sorted}
use Rattle.bk_val.proofs.laws.rising_is_sorted.Goals as goal

pub returns : goal.returns
returns c xs = (sorted_from_rising xs, rising_from_sorted xs)
