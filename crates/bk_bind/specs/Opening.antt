-- Bodies of binders with terms in place of the bound numbers.
use Rattle.std.specs.Prelude.{ℕ, ◌-◌, nat_lt, cond, List, [], unwrap_or, slice_get}
use Rattle.bk_form.specs.Formula.{Formula, bound}
use Rattle.bk_form.specs.Rebound.{rebound}
use Rattle.bk_form.specs.Role.{bind}

-- the term of that number, the innermost first, or the number itself
abbrev pub placed : List Formula → ℕ → ℕ → Formula
placed stack k m = cond (nat_lt m k) (bound m) (unwrap_or (slice_get stack (m - k)) (bound m))

-- the body with a term for each of its bound variables, in their order: the last one is the innermost; the terms hold no loose bound
-- number, and the body none but those of its binder
abbrev pub opened : List Formula → Formula → Formula
opened terms p = rebound (placed (bind terms [])) 0 p
