-- How many sequents the obligations have.
use Rattle.std.proofs.Common.{◌≡◌, ℕ, suc, List, [], ◌∷◌, length, refl, ap, ◌∙◌}
use Rattle.bk_form.specs.Formula.{Formula}
use Rattle.bk_seq.specs.Sequents.{Sequent, split}
use Rattle.bk_po.specs.Obligations.{numbered_from}
use Rattle.bk_po.proofs.Sequents.{same-count}

numbered-length : (k : ℕ) (name : List ℕ) (ss : List Sequent) → length (numbered_from k name ss) ≡ length ss
numbered-length k name [] = refl
numbered-length k name (s ∷ ss) = ap suc (numbered-length (suc k) name ss)

-- under each name there are as many as the goal alone has
pub numbered_count : (k : ℕ) (name : List ℕ) (hs : List Formula) (p : Formula) → length (numbered_from k name (split hs p)) ≡ length (split [] p)
numbered_count k name hs p = numbered-length k name (split hs p) ∙ same-count p hs []
