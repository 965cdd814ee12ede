use Rattle.std.proofs.Common.{◌+◌, ◌*◌, take, map}
use Rattle.bk_form.specs.Formula.{formula_size, formulas_size, formulas_of}
use Rattle.bk_form.specs.Parts.{IsPartOfOne}
use Rattle.bk_form.specs.PoolKeys.{AreAt, held, IsHeld, AddsOnly}
use Rattle.bk_form.proofs.pool.+number.Given as goal

abbrev pub decreases-number : goal.decreases-number
decreases-number l = 2 * formula_size l.form.now

abbrev pub decreases-numbers : goal.decreases-numbers
decreases-numbers l = 2 * formulas_size (formulas_of l.forms.now) + 1

abbrev pub invariant-numbers-loop-form : goal.invariant-numbers-loop-form
invariant-numbers-loop-form l = record {
  is_held : IsHeld (map (λ ts. ts.items) l.types.items) (map (λ ns. ns.items) l.ranges.keys) l.members.entries;
  at : AreAt (held l.members.entries) l.list.items (formulas_of (take l.form-index l.forms));
  adds : AddsOnly (λ g. IsPartOfOne g (formulas_of l.forms)) (held l.fn.members.entries) (held l.members.entries);
}
