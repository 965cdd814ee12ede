use Rattle.std.proofs.Common.{◌≡◌, ◌<◌, ◌^◌, map, sym, ◌∙◌, ap, subst, Some, IfOk}
use Rattle.bk_form.specs.Formula.{formula_size, formulas_of}
use Rattle.bk_form.specs.declared.pool.key.Key.{Key}
use Rattle.bk_form.specs.PoolKeys.{IsKey, held}
use Rattle.bk_form.proofs.Pools.Again.{all-again, some-again, compr-again, lam-again, all-body, some-types, some-body, compr-ranges, compr-body, compr-list-below, lam-ranges, lam-body, lam-value, lam-list-below, entry-below}
use Rattle.bk_form.proofs.pool.made_of_members.Goals as goal

pub make-requires-in-All : goal.make-requires-in-All
make-requires-in-All c = subst (λ g. formula_size g < 2 ^ 32) (sym (all-again (map (λ ts. ts.items) c.args.types.now.items) (map (λ ns. ns.items) c.args.ranges.now.keys) (held c.args.members.now.entries) c.args.form.now c.in-All.t c.in-All.n (subst (λ (k : Key). IsKey (map (λ ts. ts.items) c.args.types.now.items) (map (λ ns. ns.items) c.args.ranges.now.keys) (held c.args.members.now.entries) k c.args.form.now) c.in-All.is c.requires.of) c.types_at.result.now c.in_ok-body-in-All.body c.types_at.ensures (c.index-in-All.ensures ∙ ap Some (sym c.in_ok-body-in-All.ensures)))) c.size.ensures.fits

pub index-requires-in-Some : goal.index-requires-in-Some
index-requires-in-Some c = entry-below c.args.members.now.entries c.in-Some.n (some-body (map (λ ts. ts.items) c.args.types.now.items) (map (λ ns. ns.items) c.args.ranges.now.keys) (held c.args.members.now.entries) c.args.form.now c.in-Some.t c.in-Some.n (subst (λ (k : Key). IsKey (map (λ ts. ts.items) c.args.types.now.items) (map (λ ns. ns.items) c.args.ranges.now.keys) (held c.args.members.now.entries) k c.args.form.now) c.in-Some.is c.requires.of))

pub types_at-requires-in-Some : goal.types_at-requires-in-Some
types_at-requires-in-Some c = some-types (map (λ ts. ts.items) c.args.types.now.items) (map (λ ns. ns.items) c.args.ranges.now.keys) (held c.args.members.now.entries) c.args.form.now c.in-Some.t c.in-Some.n (subst (λ (k : Key). IsKey (map (λ ts. ts.items) c.args.types.now.items) (map (λ ns. ns.items) c.args.ranges.now.keys) (held c.args.members.now.entries) k c.args.form.now) c.in-Some.is c.requires.of)

pub make-requires-in-Some : goal.make-requires-in-Some
make-requires-in-Some c = subst (λ g. formula_size g < 2 ^ 32) (sym (some-again (map (λ ts. ts.items) c.args.types.now.items) (map (λ ns. ns.items) c.args.ranges.now.keys) (held c.args.members.now.entries) c.args.form.now c.in-Some.t c.in-Some.n (subst (λ (k : Key). IsKey (map (λ ts. ts.items) c.args.types.now.items) (map (λ ns. ns.items) c.args.ranges.now.keys) (held c.args.members.now.entries) k c.args.form.now) c.in-Some.is c.requires.of) c.types_at-in-Some.result.now c.in_ok-body-in-Some.body c.types_at-in-Some.ensures (c.index-in-Some.ensures ∙ ap Some (sym c.in_ok-body-in-Some.ensures)))) c.size.ensures.fits

pub ranges_at-requires : goal.ranges_at-requires
ranges_at-requires c = compr-ranges (map (λ ts. ts.items) c.args.types.now.items) (map (λ ns. ns.items) c.args.ranges.now.keys) (held c.args.members.now.entries) c.args.form.now c.in-Compr.r c.in-Compr.n (subst (λ (k : Key). IsKey (map (λ ts. ts.items) c.args.types.now.items) (map (λ ns. ns.items) c.args.ranges.now.keys) (held c.args.members.now.entries) k c.args.form.now) c.in-Compr.is c.requires.of)

pub members_at-requires : goal.members_at-requires
members_at-requires c = compr-list-below (map (λ ts. ts.items) c.args.types.now.items) (map (λ ns. ns.items) c.args.ranges.now.keys) (held c.args.members.now.entries) c.args.form.now c.in-Compr.r c.in-Compr.n (subst (λ (k : Key). IsKey (map (λ ts. ts.items) c.args.types.now.items) (map (λ ns. ns.items) c.args.ranges.now.keys) (held c.args.members.now.entries) k c.args.form.now) c.in-Compr.is c.requires.of) c.ranges_at.result.now c.ranges_at.ensures

pub index-requires-in-Compr : goal.index-requires-in-Compr
index-requires-in-Compr c = entry-below c.args.members.now.entries c.in-Compr.n (compr-body (map (λ ts. ts.items) c.args.types.now.items) (map (λ ns. ns.items) c.args.ranges.now.keys) (held c.args.members.now.entries) c.args.form.now c.in-Compr.r c.in-Compr.n (subst (λ (k : Key). IsKey (map (λ ts. ts.items) c.args.types.now.items) (map (λ ns. ns.items) c.args.ranges.now.keys) (held c.args.members.now.entries) k c.args.form.now) c.in-Compr.is c.requires.of))

pub make-requires-in-Compr : goal.make-requires-in-Compr
make-requires-in-Compr c = subst (λ g. formula_size g < 2 ^ 32) (sym (compr-again (map (λ ts. ts.items) c.args.types.now.items) (map (λ ns. ns.items) c.args.ranges.now.keys) (held c.args.members.now.entries) c.args.form.now c.in-Compr.r c.in-Compr.n (subst (λ (k : Key). IsKey (map (λ ts. ts.items) c.args.types.now.items) (map (λ ns. ns.items) c.args.ranges.now.keys) (held c.args.members.now.entries) k c.args.form.now) c.in-Compr.is c.requires.of) c.ranges_at.result.now (formulas_of c.in_ok-over-in-Compr.over.items) c.in_ok-body-in-Compr.body c.ranges_at.ensures c.in_ok-over-in-Compr.ensures (c.index-in-Compr.ensures ∙ ap Some (sym c.in_ok-body-in-Compr.ensures)))) c.size.ensures.fits

pub returns-in_ok-body-in-Compr : goal.returns-in_ok-body-in-Compr
returns-in_ok-body-in-Compr c = subst (λ g. IfOk c.make-in-Compr.result (λ f. f ≡ g)) (compr-again (map (λ ts. ts.items) c.args.types.now.items) (map (λ ns. ns.items) c.args.ranges.now.keys) (held c.args.members.now.entries) c.args.form.now c.in-Compr.r c.in-Compr.n (subst (λ (k : Key). IsKey (map (λ ts. ts.items) c.args.types.now.items) (map (λ ns. ns.items) c.args.ranges.now.keys) (held c.args.members.now.entries) k c.args.form.now) c.in-Compr.is c.requires.of) c.ranges_at.result.now (formulas_of c.in_ok-over-in-Compr.over.items) c.in_ok-body-in-Compr.body c.ranges_at.ensures c.in_ok-over-in-Compr.ensures (c.index-in-Compr.ensures ∙ ap Some (sym c.in_ok-body-in-Compr.ensures))) c.make-in-Compr.ensures

pub ranges_at-requires-in-Lam : goal.ranges_at-requires-in-Lam
ranges_at-requires-in-Lam c = lam-ranges (map (λ ts. ts.items) c.args.types.now.items) (map (λ ns. ns.items) c.args.ranges.now.keys) (held c.args.members.now.entries) c.args.form.now c.in-Lam.r c.in-Lam.m c.in-Lam.n (subst (λ (k : Key). IsKey (map (λ ts. ts.items) c.args.types.now.items) (map (λ ns. ns.items) c.args.ranges.now.keys) (held c.args.members.now.entries) k c.args.form.now) c.in-Lam.is c.requires.of)

pub members_at-requires-in-Lam : goal.members_at-requires-in-Lam
members_at-requires-in-Lam c = lam-list-below (map (λ ts. ts.items) c.args.types.now.items) (map (λ ns. ns.items) c.args.ranges.now.keys) (held c.args.members.now.entries) c.args.form.now c.in-Lam.r c.in-Lam.m c.in-Lam.n (subst (λ (k : Key). IsKey (map (λ ts. ts.items) c.args.types.now.items) (map (λ ns. ns.items) c.args.ranges.now.keys) (held c.args.members.now.entries) k c.args.form.now) c.in-Lam.is c.requires.of) c.ranges_at-in-Lam.result.now c.ranges_at-in-Lam.ensures

pub index-requires-in-Lam : goal.index-requires-in-Lam
index-requires-in-Lam c = entry-below c.args.members.now.entries c.in-Lam.m (lam-body (map (λ ts. ts.items) c.args.types.now.items) (map (λ ns. ns.items) c.args.ranges.now.keys) (held c.args.members.now.entries) c.args.form.now c.in-Lam.r c.in-Lam.m c.in-Lam.n (subst (λ (k : Key). IsKey (map (λ ts. ts.items) c.args.types.now.items) (map (λ ns. ns.items) c.args.ranges.now.keys) (held c.args.members.now.entries) k c.args.form.now) c.in-Lam.is c.requires.of))

pub index-requires-in-Lam-2 : goal.index-requires-in-Lam-2
index-requires-in-Lam-2 c = entry-below c.args.members.now.entries c.in-Lam.n (lam-value (map (λ ts. ts.items) c.args.types.now.items) (map (λ ns. ns.items) c.args.ranges.now.keys) (held c.args.members.now.entries) c.args.form.now c.in-Lam.r c.in-Lam.m c.in-Lam.n (subst (λ (k : Key). IsKey (map (λ ts. ts.items) c.args.types.now.items) (map (λ ns. ns.items) c.args.ranges.now.keys) (held c.args.members.now.entries) k c.args.form.now) c.in-Lam.is c.requires.of))

pub make-requires-in-Lam : goal.make-requires-in-Lam
make-requires-in-Lam c = subst (λ g. formula_size g < 2 ^ 32) (sym (lam-again (map (λ ts. ts.items) c.args.types.now.items) (map (λ ns. ns.items) c.args.ranges.now.keys) (held c.args.members.now.entries) c.args.form.now c.in-Lam.r c.in-Lam.m c.in-Lam.n (subst (λ (k : Key). IsKey (map (λ ts. ts.items) c.args.types.now.items) (map (λ ns. ns.items) c.args.ranges.now.keys) (held c.args.members.now.entries) k c.args.form.now) c.in-Lam.is c.requires.of) c.ranges_at-in-Lam.result.now (formulas_of c.in_ok-over-in-Lam.over.items) c.in_ok-body-in-Lam.body c.in_ok-value-in-Lam.value c.ranges_at-in-Lam.ensures c.in_ok-over-in-Lam.ensures (c.index-in-Lam.ensures ∙ ap Some (sym c.in_ok-body-in-Lam.ensures)) (c.index-in-Lam-2.ensures ∙ ap Some (sym c.in_ok-value-in-Lam.ensures)))) c.size.ensures.fits

pub returns-in_ok-value-in-Lam : goal.returns-in_ok-value-in-Lam
returns-in_ok-value-in-Lam c = subst (λ g. IfOk c.make-in-Lam.result (λ f. f ≡ g)) (lam-again (map (λ ts. ts.items) c.args.types.now.items) (map (λ ns. ns.items) c.args.ranges.now.keys) (held c.args.members.now.entries) c.args.form.now c.in-Lam.r c.in-Lam.m c.in-Lam.n (subst (λ (k : Key). IsKey (map (λ ts. ts.items) c.args.types.now.items) (map (λ ns. ns.items) c.args.ranges.now.keys) (held c.args.members.now.entries) k c.args.form.now) c.in-Lam.is c.requires.of) c.ranges_at-in-Lam.result.now (formulas_of c.in_ok-over-in-Lam.over.items) c.in_ok-body-in-Lam.body c.in_ok-value-in-Lam.value c.ranges_at-in-Lam.ensures c.in_ok-over-in-Lam.ensures (c.index-in-Lam.ensures ∙ ap Some (sym c.in_ok-body-in-Lam.ensures)) (c.index-in-Lam-2.ensures ∙ ap Some (sym c.in_ok-value-in-Lam.ensures))) c.make-in-Lam.ensures
