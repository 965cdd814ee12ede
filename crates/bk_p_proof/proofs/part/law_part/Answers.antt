use Rattle.std.proofs.Common.{subst}
use Rattle.bk_raw.specs.Trees.RawTree.{trees_of}
use Rattle.bk_p_expr.specs.Pieces.{IsTerms}
use Rattle.bk_p_proof.proofs.PartKinds.{law_kept, law_too_high}
use Rattle.bk_p_proof.proofs.part.law_part.Goals as goal

pub returns-in-Built : goal.returns-in-Built
returns-in-Built c ts h = let k = subst (IsTerms (trees_of ts)) c.in-Built.is h in law_kept _ ts _ _ k.0 k.1 k.2

pub returns-in-High : goal.returns-in-High
returns-in-High c ts h = let k = subst (IsTerms (trees_of ts)) c.in-High.is h in law_too_high c.args.name ts k.0
