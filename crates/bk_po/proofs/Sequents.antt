-- How many sequents a goal is taken apart into.
use Rattle.std.proofs.Common.{◌≡◌, List, [], ◌++◌, length, refl, arith, length-append}
use Rattle.bk_form.specs.Formula.{Formula, binary, btrue}
use Rattle.bk_form.specs.declared.operator.BinOp.{BinOp}
use Rattle.bk_form.specs.declared.operator.BinOp.TheVariants.{And, Imp}
use Rattle.bk_form.specs.Predicates.{conjuncts}
use Rattle.bk_seq.specs.Sequents.{split}

-- hypotheses make no difference to their number
pub same-count : (p : Formula) (hs ks : List Formula) → length (split hs p) ≡ length (split ks p)
same-count (binary And p q) hs ks = omega (arith, length-append (split hs p) (split hs q), length-append (split ks p) (split ks q), same-count p hs ks, same-count q hs ks)
same-count (binary Imp p q) hs ks = same-count q (hs ++ conjuncts p) (ks ++ conjuncts p)
same-count btrue hs ks = refl
same-count p hs ks = refl

-- an implication has as many as its right side
pub implied-count : (form p q : Formula) (o : BinOp) → o ≡ Imp → binary o p q ≡ form → length (split [] form) ≡ length (split [] q)
implied-count form p q o i e = rw (← e, i) (same-count q (conjuncts p) [])
