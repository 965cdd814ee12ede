use Rattle.std.proofs.Common.{◌∙◌, nat_eq}
use Rattle.std.proofs.lemmas.List.Filters.{dedup_is}
use Rattle.bk_gsl.proofs.Ordered.{deduped_is}
use Rattle.bk_gsl.proofs.variables.in_order.Goals as goal

pub returns : goal.returns
returns c = dedup_is nat_eq _ _ c.dedup.ensures.filtered ∙ deduped_is _ _ c.sort_unstable.ensures.permutation c.sort_unstable.ensures.sorted
