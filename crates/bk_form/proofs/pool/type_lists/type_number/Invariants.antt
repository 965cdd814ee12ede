use Rattle.std.proofs.Common.{◌≡◌, ◌<◌, ℕ, map, slice_get, Some}
use Rattle.bk_form.proofs.pool.type_lists.type_number.Given as goal

abbrev pub invariant-loop-i : goal.invariant-loop-i
invariant-loop-i l = (j : ℕ) → j < l.i → slice_get (map (λ ts. ts.items) l.types.items) j ≡ Some l.list → ⊥
