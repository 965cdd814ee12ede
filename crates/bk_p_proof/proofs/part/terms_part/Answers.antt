use Rattle.std.proofs.Common.{subst}
use Rattle.bk_raw.specs.Trees.RawTree.{trees_of}
use Rattle.bk_p_expr.specs.Pieces.{IsTerms}
use Rattle.bk_p_proof.proofs.PartKinds.{terms_kept, terms_too_high}
use Rattle.bk_p_proof.proofs.part.terms_part.Goals as goal

pub returns-in-Built : goal.returns-in-Built
returns-in-Built c ts h = let k = subst (IsTerms (trees_of ts)) c.in-Built.is h in terms_kept ts _ _ k.0 k.1 k.2

pub returns : goal.returns
returns c ts h = let k = subst (IsTerms (trees_of ts)) c.in-High.is h in terms_too_high ts k.0
