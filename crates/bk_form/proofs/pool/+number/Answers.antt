use Rattle.std.proofs.Common.{[], take, ◌∙◌, ap, Some, arith, rules}
use Rattle.bk_form.specs.Formula.{formulas_of}
use Rattle.bk_form.specs.PoolKeys.{held}
use Rattle.bk_form.specs.Parts.{IsPart, IsPartOfOne}
use Rattle.bk_form.proofs.Pools.Shared.{adds-none}
use Rattle.bk_form.proofs.Pools.Binders.{types-grow, ranges-grow, stays, all-stay, numbered, unary-part, left-part, right-part, all-part, some-part, compr-range, compr-body, lam-range, lam-body, lam-value, is-empty, is-unary, is-binary, is-all, is-some, is-compr, is-lam, one-adds, list-adds, then-adds, last, range-adds, at-end}
use Rattle.bk_form.proofs.pool.+number.Goals as goal

pub number-returns-in_err-n-in-Un-clause-adds : goal.number-returns-in_err-n-in-Un-clause-adds
number-returns-in_err-n-in-Un-clause-adds t c = one-adds c.args.form.now c.in-Un.a.now (unary-part c.in-Un.op c.in-Un.a.now c.args.form.now c.in-Un.ensures) (held c.args.members.now.entries) (held c.number.new.members.entries) c.number.ensures.adds

pub number-returns-in_ok-n-in-Un-clause-adds : goal.number-returns-in_ok-n-in-Un-clause-adds
number-returns-in_ok-n-in-Un-clause-adds t c = then-adds c.args.form.now (held c.args.members.now.entries) (held c.number.new.members.entries) (held c.add.new.members.entries) (one-adds c.args.form.now c.in-Un.a.now (unary-part c.in-Un.op c.in-Un.a.now c.args.form.now c.in-Un.ensures) (held c.args.members.now.entries) (held c.number.new.members.entries) c.number.ensures.adds) (last c.args.form.now c.add.result (held c.number.new.members.entries) (held c.add.new.members.entries) c.add.ensures.list c.add.ensures.err)

pub number-returns-in_err-m-in-Bin-clause-adds : goal.number-returns-in_err-m-in-Bin-clause-adds
number-returns-in_err-m-in-Bin-clause-adds t c = one-adds c.args.form.now c.in-Bin.a.now (left-part c.in-Bin.op c.in-Bin.a.now c.in-Bin.b.now c.args.form.now c.in-Bin.ensures) (held c.args.members.now.entries) (held c.number-in-Bin.new.members.entries) c.number-in-Bin.ensures.adds

pub number-returns-in_err-n-in-Bin-clause-adds : goal.number-returns-in_err-n-in-Bin-clause-adds
number-returns-in_err-n-in-Bin-clause-adds t c = then-adds c.args.form.now (held c.args.members.now.entries) (held c.number-in-Bin.new.members.entries) (held c.number-in-Bin-2.new.members.entries) (one-adds c.args.form.now c.in-Bin.a.now (left-part c.in-Bin.op c.in-Bin.a.now c.in-Bin.b.now c.args.form.now c.in-Bin.ensures) (held c.args.members.now.entries) (held c.number-in-Bin.new.members.entries) c.number-in-Bin.ensures.adds) (one-adds c.args.form.now c.in-Bin.b.now (right-part c.in-Bin.op c.in-Bin.a.now c.in-Bin.b.now c.args.form.now c.in-Bin.ensures) (held c.number-in-Bin.new.members.entries) (held c.number-in-Bin-2.new.members.entries) c.number-in-Bin-2.ensures.adds)

pub number-returns-in_ok-n-in-Bin-clause-adds : goal.number-returns-in_ok-n-in-Bin-clause-adds
number-returns-in_ok-n-in-Bin-clause-adds t c = then-adds c.args.form.now (held c.args.members.now.entries) (held c.number-in-Bin-2.new.members.entries) (held c.add-in-Bin.new.members.entries) (then-adds c.args.form.now (held c.args.members.now.entries) (held c.number-in-Bin.new.members.entries) (held c.number-in-Bin-2.new.members.entries) (one-adds c.args.form.now c.in-Bin.a.now (left-part c.in-Bin.op c.in-Bin.a.now c.in-Bin.b.now c.args.form.now c.in-Bin.ensures) (held c.args.members.now.entries) (held c.number-in-Bin.new.members.entries) c.number-in-Bin.ensures.adds) (one-adds c.args.form.now c.in-Bin.b.now (right-part c.in-Bin.op c.in-Bin.a.now c.in-Bin.b.now c.args.form.now c.in-Bin.ensures) (held c.number-in-Bin.new.members.entries) (held c.number-in-Bin-2.new.members.entries) c.number-in-Bin-2.ensures.adds)) (last c.args.form.now c.add-in-Bin.result (held c.number-in-Bin-2.new.members.entries) (held c.add-in-Bin.new.members.entries) c.add-in-Bin.ensures.list c.add-in-Bin.ensures.err)

pub number-returns-in_err-n-in-All-clause-adds : goal.number-returns-in_err-n-in-All-clause-adds
number-returns-in_err-n-in-All-clause-adds t c = one-adds c.args.form.now c.in-All.body.now (all-part c.in-All.us.now c.in-All.body.now c.args.form.now c.in-All.ensures) (held c.args.members.now.entries) (held c.number-in-All.new.members.entries) c.number-in-All.ensures.adds

pub number-returns-in_err-t-in-All-clause-held : goal.number-returns-in_err-t-in-All-clause-held
number-returns-in_err-t-in-All-clause-held t c = types-grow _ _ _ _ c.number-in-All.ensures.held c.type_number.ensures.grows c.type_number.ensures.differ

pub number-returns-in_err-t-in-All-clause-adds : goal.number-returns-in_err-t-in-All-clause-adds
number-returns-in_err-t-in-All-clause-adds t c = one-adds c.args.form.now c.in-All.body.now (all-part c.in-All.us.now c.in-All.body.now c.args.form.now c.in-All.ensures) (held c.args.members.now.entries) (held c.number-in-All.new.members.entries) c.number-in-All.ensures.adds

pub number-add-requires-in-All-clause-held : goal.number-add-requires-in-All-clause-held
number-add-requires-in-All-clause-held t c = types-grow _ _ _ _ c.number-in-All.ensures.held c.type_number.ensures.grows c.type_number.ensures.differ

pub number-type_number-requires : goal.number-type_number-requires
number-type_number-requires t c = c.number-in-All.ensures.held.types_differ

pub number-returns-in_ok-t-in-All-clause-adds : goal.number-returns-in_ok-t-in-All-clause-adds
number-returns-in_ok-t-in-All-clause-adds t c = then-adds c.args.form.now (held c.args.members.now.entries) (held c.number-in-All.new.members.entries) (held c.add-in-All.new.members.entries) (one-adds c.args.form.now c.in-All.body.now (all-part c.in-All.us.now c.in-All.body.now c.args.form.now c.in-All.ensures) (held c.args.members.now.entries) (held c.number-in-All.new.members.entries) c.number-in-All.ensures.adds) (last c.args.form.now c.add-in-All.result (held c.number-in-All.new.members.entries) (held c.add-in-All.new.members.entries) c.add-in-All.ensures.list c.add-in-All.ensures.err)

pub number-returns-in_err-n-in-Some-clause-adds : goal.number-returns-in_err-n-in-Some-clause-adds
number-returns-in_err-n-in-Some-clause-adds t c = one-adds c.args.form.now c.in-Some.body.now (some-part c.in-Some.us.now c.in-Some.body.now c.args.form.now c.in-Some.ensures) (held c.args.members.now.entries) (held c.number-in-Some.new.members.entries) c.number-in-Some.ensures.adds

pub number-returns-in_err-t-in-Some-clause-held : goal.number-returns-in_err-t-in-Some-clause-held
number-returns-in_err-t-in-Some-clause-held t c = types-grow _ _ _ _ c.number-in-Some.ensures.held c.type_number-in-Some.ensures.grows c.type_number-in-Some.ensures.differ

pub number-returns-in_err-t-in-Some-clause-adds : goal.number-returns-in_err-t-in-Some-clause-adds
number-returns-in_err-t-in-Some-clause-adds t c = one-adds c.args.form.now c.in-Some.body.now (some-part c.in-Some.us.now c.in-Some.body.now c.args.form.now c.in-Some.ensures) (held c.args.members.now.entries) (held c.number-in-Some.new.members.entries) c.number-in-Some.ensures.adds

pub number-add-requires-in-Some-clause-held : goal.number-add-requires-in-Some-clause-held
number-add-requires-in-Some-clause-held t c = types-grow _ _ _ _ c.number-in-Some.ensures.held c.type_number-in-Some.ensures.grows c.type_number-in-Some.ensures.differ

pub number-type_number-requires-in-Some : goal.number-type_number-requires-in-Some
number-type_number-requires-in-Some t c = c.number-in-Some.ensures.held.types_differ

pub number-returns-in_ok-t-in-Some-clause-adds : goal.number-returns-in_ok-t-in-Some-clause-adds
number-returns-in_ok-t-in-Some-clause-adds t c = then-adds c.args.form.now (held c.args.members.now.entries) (held c.number-in-Some.new.members.entries) (held c.add-in-Some.new.members.entries) (one-adds c.args.form.now c.in-Some.body.now (some-part c.in-Some.us.now c.in-Some.body.now c.args.form.now c.in-Some.ensures) (held c.args.members.now.entries) (held c.number-in-Some.new.members.entries) c.number-in-Some.ensures.adds) (last c.args.form.now c.add-in-Some.result (held c.number-in-Some.new.members.entries) (held c.add-in-Some.new.members.entries) c.add-in-Some.ensures.list c.add-in-Some.ensures.err)

pub number-returns-in_err-list-in-Compr-clause-adds : goal.number-returns-in_err-list-in-Compr-clause-adds
number-returns-in_err-list-in-Compr-clause-adds t c = list-adds c.args.form.now (formulas_of c.in-Compr.over.now) (compr-range (formulas_of c.in-Compr.over.now) c.in-Compr.body.now c.args.form.now c.in-Compr.ensures) (held c.args.members.now.entries) (held c.numbers.new.members.entries) c.numbers.ensures.adds

pub number-returns-in_err-n-in-Compr-clause-adds : goal.number-returns-in_err-n-in-Compr-clause-adds
number-returns-in_err-n-in-Compr-clause-adds t c = then-adds c.args.form.now (held c.args.members.now.entries) (held c.numbers.new.members.entries) (held c.number-in-Compr.new.members.entries) (list-adds c.args.form.now (formulas_of c.in-Compr.over.now) (compr-range (formulas_of c.in-Compr.over.now) c.in-Compr.body.now c.args.form.now c.in-Compr.ensures) (held c.args.members.now.entries) (held c.numbers.new.members.entries) c.numbers.ensures.adds) (one-adds c.args.form.now c.in-Compr.body.now (compr-body (formulas_of c.in-Compr.over.now) c.in-Compr.body.now c.args.form.now c.in-Compr.ensures) (held c.numbers.new.members.entries) (held c.number-in-Compr.new.members.entries) c.number-in-Compr.ensures.adds)

pub number-returns-in_err-r-in-Compr-clause-held : goal.number-returns-in_err-r-in-Compr-clause-held
number-returns-in_err-r-in-Compr-clause-held t c = ranges-grow _ _ _ _ c.number-in-Compr.ensures.held c.range_number.ensures.grows c.range_number.ensures.differ

pub number-returns-in_err-r-in-Compr-clause-adds : goal.number-returns-in_err-r-in-Compr-clause-adds
number-returns-in_err-r-in-Compr-clause-adds t c = then-adds c.args.form.now (held c.args.members.now.entries) (held c.numbers.new.members.entries) (held c.number-in-Compr.new.members.entries) (list-adds c.args.form.now (formulas_of c.in-Compr.over.now) (compr-range (formulas_of c.in-Compr.over.now) c.in-Compr.body.now c.args.form.now c.in-Compr.ensures) (held c.args.members.now.entries) (held c.numbers.new.members.entries) c.numbers.ensures.adds) (one-adds c.args.form.now c.in-Compr.body.now (compr-body (formulas_of c.in-Compr.over.now) c.in-Compr.body.now c.args.form.now c.in-Compr.ensures) (held c.numbers.new.members.entries) (held c.number-in-Compr.new.members.entries) c.number-in-Compr.ensures.adds)

pub number-add-requires-in-Compr-clause-held : goal.number-add-requires-in-Compr-clause-held
number-add-requires-in-Compr-clause-held t c = ranges-grow _ _ _ _ c.number-in-Compr.ensures.held c.range_number.ensures.grows c.range_number.ensures.differ

pub number-range_number-requires : goal.number-range_number-requires
number-range_number-requires t c = c.number-in-Compr.ensures.held.ranges_differ

pub number-returns-in_ok-r-in-Compr-clause-adds : goal.number-returns-in_ok-r-in-Compr-clause-adds
number-returns-in_ok-r-in-Compr-clause-adds t c = then-adds c.args.form.now (held c.args.members.now.entries) (held c.number-in-Compr.new.members.entries) (held c.add-in-Compr.new.members.entries) (then-adds c.args.form.now (held c.args.members.now.entries) (held c.numbers.new.members.entries) (held c.number-in-Compr.new.members.entries) (list-adds c.args.form.now (formulas_of c.in-Compr.over.now) (compr-range (formulas_of c.in-Compr.over.now) c.in-Compr.body.now c.args.form.now c.in-Compr.ensures) (held c.args.members.now.entries) (held c.numbers.new.members.entries) c.numbers.ensures.adds) (one-adds c.args.form.now c.in-Compr.body.now (compr-body (formulas_of c.in-Compr.over.now) c.in-Compr.body.now c.args.form.now c.in-Compr.ensures) (held c.numbers.new.members.entries) (held c.number-in-Compr.new.members.entries) c.number-in-Compr.ensures.adds)) (last c.args.form.now c.add-in-Compr.result (held c.number-in-Compr.new.members.entries) (held c.add-in-Compr.new.members.entries) c.add-in-Compr.ensures.list c.add-in-Compr.ensures.err)

pub number-returns-in_err-list-in-Lam-clause-adds : goal.number-returns-in_err-list-in-Lam-clause-adds
number-returns-in_err-list-in-Lam-clause-adds t c = list-adds c.args.form.now (formulas_of c.in-Lam.over.now) (lam-range (formulas_of c.in-Lam.over.now) c.in-Lam.body.now c.in-Lam.value.now c.args.form.now c.in-Lam.ensures) (held c.args.members.now.entries) (held c.numbers-in-Lam.new.members.entries) c.numbers-in-Lam.ensures.adds

pub number-returns-in_err-m-in-Lam-clause-adds : goal.number-returns-in_err-m-in-Lam-clause-adds
number-returns-in_err-m-in-Lam-clause-adds t c = then-adds c.args.form.now (held c.args.members.now.entries) (held c.numbers-in-Lam.new.members.entries) (held c.number-in-Lam.new.members.entries) (list-adds c.args.form.now (formulas_of c.in-Lam.over.now) (lam-range (formulas_of c.in-Lam.over.now) c.in-Lam.body.now c.in-Lam.value.now c.args.form.now c.in-Lam.ensures) (held c.args.members.now.entries) (held c.numbers-in-Lam.new.members.entries) c.numbers-in-Lam.ensures.adds) (one-adds c.args.form.now c.in-Lam.body.now (lam-body (formulas_of c.in-Lam.over.now) c.in-Lam.body.now c.in-Lam.value.now c.args.form.now c.in-Lam.ensures) (held c.numbers-in-Lam.new.members.entries) (held c.number-in-Lam.new.members.entries) c.number-in-Lam.ensures.adds)

pub number-returns-in_err-n-in-Lam-clause-adds : goal.number-returns-in_err-n-in-Lam-clause-adds
number-returns-in_err-n-in-Lam-clause-adds t c = then-adds c.args.form.now (held c.args.members.now.entries) (held c.number-in-Lam.new.members.entries) (held c.number-in-Lam-2.new.members.entries) (then-adds c.args.form.now (held c.args.members.now.entries) (held c.numbers-in-Lam.new.members.entries) (held c.number-in-Lam.new.members.entries) (list-adds c.args.form.now (formulas_of c.in-Lam.over.now) (lam-range (formulas_of c.in-Lam.over.now) c.in-Lam.body.now c.in-Lam.value.now c.args.form.now c.in-Lam.ensures) (held c.args.members.now.entries) (held c.numbers-in-Lam.new.members.entries) c.numbers-in-Lam.ensures.adds) (one-adds c.args.form.now c.in-Lam.body.now (lam-body (formulas_of c.in-Lam.over.now) c.in-Lam.body.now c.in-Lam.value.now c.args.form.now c.in-Lam.ensures) (held c.numbers-in-Lam.new.members.entries) (held c.number-in-Lam.new.members.entries) c.number-in-Lam.ensures.adds)) (one-adds c.args.form.now c.in-Lam.value.now (lam-value (formulas_of c.in-Lam.over.now) c.in-Lam.body.now c.in-Lam.value.now c.args.form.now c.in-Lam.ensures) (held c.number-in-Lam.new.members.entries) (held c.number-in-Lam-2.new.members.entries) c.number-in-Lam-2.ensures.adds)

pub number-returns-in_err-r-in-Lam-clause-held : goal.number-returns-in_err-r-in-Lam-clause-held
number-returns-in_err-r-in-Lam-clause-held t c = ranges-grow _ _ _ _ c.number-in-Lam-2.ensures.held c.range_number-in-Lam.ensures.grows c.range_number-in-Lam.ensures.differ

pub number-returns-in_err-r-in-Lam-clause-adds : goal.number-returns-in_err-r-in-Lam-clause-adds
number-returns-in_err-r-in-Lam-clause-adds t c = then-adds c.args.form.now (held c.args.members.now.entries) (held c.number-in-Lam.new.members.entries) (held c.number-in-Lam-2.new.members.entries) (then-adds c.args.form.now (held c.args.members.now.entries) (held c.numbers-in-Lam.new.members.entries) (held c.number-in-Lam.new.members.entries) (list-adds c.args.form.now (formulas_of c.in-Lam.over.now) (lam-range (formulas_of c.in-Lam.over.now) c.in-Lam.body.now c.in-Lam.value.now c.args.form.now c.in-Lam.ensures) (held c.args.members.now.entries) (held c.numbers-in-Lam.new.members.entries) c.numbers-in-Lam.ensures.adds) (one-adds c.args.form.now c.in-Lam.body.now (lam-body (formulas_of c.in-Lam.over.now) c.in-Lam.body.now c.in-Lam.value.now c.args.form.now c.in-Lam.ensures) (held c.numbers-in-Lam.new.members.entries) (held c.number-in-Lam.new.members.entries) c.number-in-Lam.ensures.adds)) (one-adds c.args.form.now c.in-Lam.value.now (lam-value (formulas_of c.in-Lam.over.now) c.in-Lam.body.now c.in-Lam.value.now c.args.form.now c.in-Lam.ensures) (held c.number-in-Lam.new.members.entries) (held c.number-in-Lam-2.new.members.entries) c.number-in-Lam-2.ensures.adds)

pub number-add-requires-in-Lam-clause-held : goal.number-add-requires-in-Lam-clause-held
number-add-requires-in-Lam-clause-held t c = ranges-grow _ _ _ _ c.number-in-Lam-2.ensures.held c.range_number-in-Lam.ensures.grows c.range_number-in-Lam.ensures.differ

pub number-range_number-requires-in-Lam : goal.number-range_number-requires-in-Lam
number-range_number-requires-in-Lam t c = c.number-in-Lam-2.ensures.held.ranges_differ

pub number-returns-in_ok-r-in-Lam-clause-adds : goal.number-returns-in_ok-r-in-Lam-clause-adds
number-returns-in_ok-r-in-Lam-clause-adds t c = then-adds c.args.form.now (held c.args.members.now.entries) (held c.number-in-Lam-2.new.members.entries) (held c.add-in-Lam.new.members.entries) (then-adds c.args.form.now (held c.args.members.now.entries) (held c.number-in-Lam.new.members.entries) (held c.number-in-Lam-2.new.members.entries) (then-adds c.args.form.now (held c.args.members.now.entries) (held c.numbers-in-Lam.new.members.entries) (held c.number-in-Lam.new.members.entries) (list-adds c.args.form.now (formulas_of c.in-Lam.over.now) (lam-range (formulas_of c.in-Lam.over.now) c.in-Lam.body.now c.in-Lam.value.now c.args.form.now c.in-Lam.ensures) (held c.args.members.now.entries) (held c.numbers-in-Lam.new.members.entries) c.numbers-in-Lam.ensures.adds) (one-adds c.args.form.now c.in-Lam.body.now (lam-body (formulas_of c.in-Lam.over.now) c.in-Lam.body.now c.in-Lam.value.now c.args.form.now c.in-Lam.ensures) (held c.numbers-in-Lam.new.members.entries) (held c.number-in-Lam.new.members.entries) c.number-in-Lam.ensures.adds)) (one-adds c.args.form.now c.in-Lam.value.now (lam-value (formulas_of c.in-Lam.over.now) c.in-Lam.body.now c.in-Lam.value.now c.args.form.now c.in-Lam.ensures) (held c.number-in-Lam.new.members.entries) (held c.number-in-Lam-2.new.members.entries) c.number-in-Lam-2.ensures.adds)) (last c.args.form.now c.add-in-Lam.result (held c.number-in-Lam-2.new.members.entries) (held c.add-in-Lam.new.members.entries) c.add-in-Lam.ensures.list c.add-in-Lam.ensures.err)

pub number-returns-in_err-t-in-Empty-clause-held : goal.number-returns-in_err-t-in-Empty-clause-held
number-returns-in_err-t-in-Empty-clause-held t c = types-grow _ _ _ _ c.requires.held c.type_number-in-Empty.ensures.grows c.type_number-in-Empty.ensures.differ

pub number-returns-in_err-t-in-Empty-clause-adds : goal.number-returns-in_err-t-in-Empty-clause-adds
number-returns-in_err-t-in-Empty-clause-adds t c = adds-none (λ g. IsPart g c.args.form.now) (held c.args.members.now.entries)

pub number-add-requires-in-Empty-clause-held : goal.number-add-requires-in-Empty-clause-held
number-add-requires-in-Empty-clause-held t c = types-grow _ _ _ _ c.requires.held c.type_number-in-Empty.ensures.grows c.type_number-in-Empty.ensures.differ

pub number-type_number-requires-in-Empty : goal.number-type_number-requires-in-Empty
number-type_number-requires-in-Empty t c = c.requires.held.types_differ

pub number-returns-in_ok-t-in-Empty-clause-adds : goal.number-returns-in_ok-t-in-Empty-clause-adds
number-returns-in_ok-t-in-Empty-clause-adds t c = last c.args.form.now c.add-in-Empty.result (held c.args.members.now.entries) (held c.add-in-Empty.new.members.entries) c.add-in-Empty.ensures.list c.add-in-Empty.ensures.err

pub number-add-requires-clause-of : goal.number-add-requires-clause-of
number-add-requires-clause-of t c = is-unary [] [] _ c.in-Un.op c.in_ok-n-in-Un.n c.in-Un.a.now c.args.form.now c.in-Un.ensures c.in_ok-n-in-Un.ensures.number

pub number-add-requires-in-Bin-clause-of : goal.number-add-requires-in-Bin-clause-of
number-add-requires-in-Bin-clause-of t c = is-binary [] [] _ c.in-Bin.op c.in_ok-m-in-Bin.m c.in_ok-n-in-Bin.n c.in-Bin.a.now c.in-Bin.b.now c.args.form.now c.in-Bin.ensures (stays (λ g. IsPart g c.in-Bin.b.now) (held c.number-in-Bin.new.members.entries) (held c.number-in-Bin-2.new.members.entries) c.in_ok-m-in-Bin.m c.in-Bin.a.now c.number-in-Bin-2.ensures.adds c.in_ok-m-in-Bin.ensures.number) c.in_ok-n-in-Bin.ensures.number

pub number-add-requires-in-All-clause-of : goal.number-add-requires-in-All-clause-of
number-add-requires-in-All-clause-of t c = is-all _ [] _ c.in_ok-t-in-All.t c.in_ok-n-in-All.n c.in-All.us.now c.in-All.body.now c.args.form.now c.in-All.ensures c.in_ok-t-in-All.ensures.number c.in_ok-n-in-All.ensures.number

pub number-add-requires-in-Some-clause-of : goal.number-add-requires-in-Some-clause-of
number-add-requires-in-Some-clause-of t c = is-some _ [] _ c.in_ok-t-in-Some.t c.in_ok-n-in-Some.n c.in-Some.us.now c.in-Some.body.now c.args.form.now c.in-Some.ensures c.in_ok-t-in-Some.ensures.number c.in_ok-n-in-Some.ensures.number

pub number-add-requires-in-Compr-clause-of : goal.number-add-requires-in-Compr-clause-of
number-add-requires-in-Compr-clause-of t c = is-compr [] _ _ c.in_ok-r-in-Compr.r c.in_ok-n-in-Compr.n c.in_ok-list-in-Compr.list.items (formulas_of c.in-Compr.over.now) c.in-Compr.body.now c.args.form.now c.in-Compr.ensures (c.in_ok-r-in-Compr.ensures.number ∙ ap Some c.deref.ensures.value) (all-stay (λ g. IsPart g c.in-Compr.body.now) (held c.numbers.new.members.entries) (held c.number-in-Compr.new.members.entries) c.in_ok-list-in-Compr.list.items (formulas_of c.in-Compr.over.now) c.number-in-Compr.ensures.adds c.in_ok-list-in-Compr.ensures.number) c.in_ok-n-in-Compr.ensures.number

pub number-add-requires-in-Lam-clause-of : goal.number-add-requires-in-Lam-clause-of
number-add-requires-in-Lam-clause-of t c = is-lam [] _ _ c.in_ok-r-in-Lam.r c.in_ok-m-in-Lam.m c.in_ok-n-in-Lam.n c.in_ok-list-in-Lam.list.items (formulas_of c.in-Lam.over.now) c.in-Lam.body.now c.in-Lam.value.now c.args.form.now c.in-Lam.ensures (c.in_ok-r-in-Lam.ensures.number ∙ ap Some c.deref-in-Lam.ensures.value) (all-stay (λ g. IsPart g c.in-Lam.value.now) (held c.number-in-Lam.new.members.entries) (held c.number-in-Lam-2.new.members.entries) c.in_ok-list-in-Lam.list.items (formulas_of c.in-Lam.over.now) c.number-in-Lam-2.ensures.adds (all-stay (λ g. IsPart g c.in-Lam.body.now) (held c.numbers-in-Lam.new.members.entries) (held c.number-in-Lam.new.members.entries) c.in_ok-list-in-Lam.list.items (formulas_of c.in-Lam.over.now) c.number-in-Lam.ensures.adds c.in_ok-list-in-Lam.ensures.number)) (stays (λ g. IsPart g c.in-Lam.value.now) (held c.number-in-Lam.new.members.entries) (held c.number-in-Lam-2.new.members.entries) c.in_ok-m-in-Lam.m c.in-Lam.body.now c.number-in-Lam-2.ensures.adds c.in_ok-m-in-Lam.ensures.number) c.in_ok-n-in-Lam.ensures.number

pub number-add-requires-in-Empty-clause-of : goal.number-add-requires-in-Empty-clause-of
number-add-requires-in-Empty-clause-of t c = is-empty _ [] [] c.in_ok-t-in-Empty.t c.in-Empty.ty.now c.args.form.now c.in-Empty.ensures (c.in_ok-t-in-Empty.ensures.number ∙ ap Some c.from_ref.ensures.value)

pub numbers-returns-in_err-n-clause-adds : goal.numbers-returns-in_err-n-clause-adds
numbers-returns-in_err-n-clause-adds t c = range-adds c.args.forms.now c.loop-form.form-index c.form-item.result (held c.args.members.now.entries) (held c.loop-form.members.entries) (held c.number.new.members.entries) c.form-item.is (omega arith) c.loop-form.invariant.adds c.number.ensures.adds

pub numbers-returns-in_err-push-clause-adds : goal.numbers-returns-in_err-push-clause-adds
numbers-returns-in_err-push-clause-adds t c = range-adds c.args.forms.now c.loop-form.form-index c.form-item.result (held c.args.members.now.entries) (held c.loop-form.members.entries) (held c.number.new.members.entries) c.form-item.is (omega arith) c.loop-form.invariant.adds c.number.ensures.adds

pub numbers-loop-form-init : goal.numbers-loop-form-init
numbers-loop-form-init t c = record { is_held = c.requires.held; at = search rules; adds = adds-none _ _ }

pub numbers-loop-form-preserved : goal.numbers-loop-form-preserved
numbers-loop-form-preserved t c = record {
  is_held = c.number.ensures.held;
  at = numbered (held c.number.new.members.entries) c.loop-form.list.items c.push.new.self.items c.args.forms.now c.loop-form.form-index c.in_ok-n.n c.form-item.result (all-stay (λ g. IsPart g c.form-item.result) (held c.loop-form.members.entries) (held c.number.new.members.entries) c.loop-form.list.items (formulas_of (take c.loop-form.form-index c.args.forms.now)) c.number.ensures.adds c.loop-form.invariant.at) c.in_ok-push.ensures.items c.form-item.is (omega arith) c.in_ok-n.ensures.number;
  adds = range-adds c.args.forms.now c.loop-form.form-index c.form-item.result (held c.args.members.now.entries) (held c.loop-form.members.entries) (held c.number.new.members.entries) c.form-item.is (omega arith) c.loop-form.invariant.adds c.number.ensures.adds;
}

pub numbers-returns-clause-number : goal.numbers-returns-clause-number
numbers-returns-clause-number t c = at-end (held c.loop-form.members.entries) c.loop-form.list.items c.args.forms.now c.loop-form.form-index (omega arith) c.loop-form.invariant.at
