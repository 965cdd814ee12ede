-- The laws by their numbers are true.
use Rattle.std.proofs.Common.{◌≡◌, ℕ, List, Bool, true, false, cond, nat_lt}
use Rattle.std.specs.Prelude.{Some}
use Rattle.bk_form.specs.Formula.{Formula}
use Rattle.bk_laws.specs.Rows.{Instance, instance_at}
use Rattle.bk_laws.specs.Laws.{IsTrueLaw}
use Rattle.bk_laws_log.specs.Rows.{rows as logic_and_order}
use Rattle.bk_laws_set.specs.Rows.{rows as sets}
use Rattle.bk_laws_fun.specs.Rows.{rows as functions}
use Rattle.bk_laws_log.proofs.True.{laws-are-true as logic-and-order-true}
use Rattle.bk_laws_set.proofs.True.{laws-are-true as sets-true}
use Rattle.bk_laws_fun.proofs.True.{laws-are-true as functions-true}
use Rattle.bk_kernel.specs.Rewriting.{law_instance}

pub laws-are-true : (n : ℕ) (picks : List Formula) (i : Instance) → law_instance n picks ≡ Some i → IsTrueLaw i
laws-are-true n picks i h = by_first (nat_lt n 200) h
  where
    by_second : (b : Bool) → cond b (instance_at sets n picks) (instance_at functions n picks) ≡ Some i → IsTrueLaw i
    by_second true e = sets-true n picks i e
    by_second false e = functions-true n picks i e

    by_first : (b : Bool) → cond b (instance_at logic_and_order n picks) (cond (nat_lt n 300) (instance_at sets n picks) (instance_at functions n picks)) ≡ Some i → IsTrueLaw i
    by_first true e = logic-and-order-true n picks i e
    by_first false e = by_second (nat_lt n 300) e
