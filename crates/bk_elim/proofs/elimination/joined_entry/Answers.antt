use Rattle.std.proofs.Common.{◌≡◌, pos, ◌+ℤ◌, ◌-ℤ◌, ◌*ℤ◌, sym, rules, ap, ◌∙◌, arith}
use Rattle.std.specs.Int.{w128, cast_signed, cast_unsigned}
use Rattle.bk_lin.proofs.Adding.{back}
use Rattle.bk_lin.specs.Certificate.{inequalities}
use Rattle.bk_elim.specs.Elimination.{entry}
use Rattle.bk_elim.specs.Layout.{CanJoin}
use Rattle.bk_elim.proofs.Rows.{entry-mixed}
use Rattle.bk_elim.proofs.Joining.{fits_same}
use Rattle.bk_elim.proofs.Fitting.{can_join}
use Rattle.bk_elim.proofs.elimination.joined_entry.Goals as goal

pub mix-requires-clause-first : goal.mix-requires-clause-first
mix-requires-clause-first c =
    let j : CanJoin 2 c.args.up.now c.args.down.now = can_join (inequalities c.args.facts.now) 2 c.args.up.now c.args.down.now (omega arith) c.requires.up_row c.requires.down_row in
    let a : cast_signed w128 (cast_unsigned w128 (entry c.args.up.now c.args.place)) ≡ entry c.args.up.now c.args.place = back (entry c.args.up.now c.args.place) (search rules) in
    let b : cast_signed w128 (cast_unsigned w128 (entry c.args.down.now c.args.place)) ≡ entry c.args.down.now c.args.place = back (entry c.args.down.now c.args.place) (search rules) in
    let d : cast_signed w128 (cast_unsigned w128 (entry c.args.up.now 2)) ≡ entry c.args.up.now 2 = back (entry c.args.up.now 2) (search rules) in
    let e : cast_signed w128 (cast_unsigned w128 (entry c.args.down.now 2)) ≡ entry c.args.down.now 2 = back (entry c.args.down.now 2) (search rules) in
    let n : cast_signed w128 (cast_unsigned w128 c.negated-by.result) ≡ c.negated-by.result = back c.negated-by.result (search rules) in
    let m : c.negated-by.result ≡ pos 0 -ℤ entry c.args.down.now 2 = c.negated-by.ensures ∙ ap (λ w. pos 0 -ℤ w) e in
    fits_same _ ((pos 0 -ℤ entry c.args.down.now 2) *ℤ entry c.args.up.now c.args.place) (cc) (j.left c.args.place)

pub mix-requires-clause-second : goal.mix-requires-clause-second
mix-requires-clause-second c =
    let j : CanJoin 2 c.args.up.now c.args.down.now = can_join (inequalities c.args.facts.now) 2 c.args.up.now c.args.down.now (omega arith) c.requires.up_row c.requires.down_row in
    let a : cast_signed w128 (cast_unsigned w128 (entry c.args.up.now c.args.place)) ≡ entry c.args.up.now c.args.place = back (entry c.args.up.now c.args.place) (search rules) in
    let b : cast_signed w128 (cast_unsigned w128 (entry c.args.down.now c.args.place)) ≡ entry c.args.down.now c.args.place = back (entry c.args.down.now c.args.place) (search rules) in
    let d : cast_signed w128 (cast_unsigned w128 (entry c.args.up.now 2)) ≡ entry c.args.up.now 2 = back (entry c.args.up.now 2) (search rules) in
    let e : cast_signed w128 (cast_unsigned w128 (entry c.args.down.now 2)) ≡ entry c.args.down.now 2 = back (entry c.args.down.now 2) (search rules) in
    let n : cast_signed w128 (cast_unsigned w128 c.negated-by.result) ≡ c.negated-by.result = back c.negated-by.result (search rules) in
    let m : c.negated-by.result ≡ pos 0 -ℤ entry c.args.down.now 2 = c.negated-by.ensures ∙ ap (λ w. pos 0 -ℤ w) e in
    fits_same _ (entry c.args.up.now 2 *ℤ entry c.args.down.now c.args.place) (cc) (j.right c.args.place)

pub mix-requires-clause-sum : goal.mix-requires-clause-sum
mix-requires-clause-sum c =
    let j : CanJoin 2 c.args.up.now c.args.down.now = can_join (inequalities c.args.facts.now) 2 c.args.up.now c.args.down.now (omega arith) c.requires.up_row c.requires.down_row in
    let a : cast_signed w128 (cast_unsigned w128 (entry c.args.up.now c.args.place)) ≡ entry c.args.up.now c.args.place = back (entry c.args.up.now c.args.place) (search rules) in
    let b : cast_signed w128 (cast_unsigned w128 (entry c.args.down.now c.args.place)) ≡ entry c.args.down.now c.args.place = back (entry c.args.down.now c.args.place) (search rules) in
    let d : cast_signed w128 (cast_unsigned w128 (entry c.args.up.now 2)) ≡ entry c.args.up.now 2 = back (entry c.args.up.now 2) (search rules) in
    let e : cast_signed w128 (cast_unsigned w128 (entry c.args.down.now 2)) ≡ entry c.args.down.now 2 = back (entry c.args.down.now 2) (search rules) in
    let n : cast_signed w128 (cast_unsigned w128 c.negated-by.result) ≡ c.negated-by.result = back c.negated-by.result (search rules) in
    let m : c.negated-by.result ≡ pos 0 -ℤ entry c.args.down.now 2 = c.negated-by.ensures ∙ ap (λ w. pos 0 -ℤ w) e in
    fits_same _ ((pos 0 -ℤ entry c.args.down.now 2) *ℤ entry c.args.up.now c.args.place +ℤ entry c.args.up.now 2 *ℤ entry c.args.down.now c.args.place) (cc) (j.sum c.args.place)

pub returns : goal.returns
returns c =
    let j : CanJoin 2 c.args.up.now c.args.down.now = can_join (inequalities c.args.facts.now) 2 c.args.up.now c.args.down.now (omega arith) c.requires.up_row c.requires.down_row in
    let a : cast_signed w128 (cast_unsigned w128 (entry c.args.up.now c.args.place)) ≡ entry c.args.up.now c.args.place = back (entry c.args.up.now c.args.place) (search rules) in
    let b : cast_signed w128 (cast_unsigned w128 (entry c.args.down.now c.args.place)) ≡ entry c.args.down.now c.args.place = back (entry c.args.down.now c.args.place) (search rules) in
    let d : cast_signed w128 (cast_unsigned w128 (entry c.args.up.now 2)) ≡ entry c.args.up.now 2 = back (entry c.args.up.now 2) (search rules) in
    let e : cast_signed w128 (cast_unsigned w128 (entry c.args.down.now 2)) ≡ entry c.args.down.now 2 = back (entry c.args.down.now 2) (search rules) in
    let n : cast_signed w128 (cast_unsigned w128 c.negated-by.result) ≡ c.negated-by.result = back c.negated-by.result (search rules) in
    let m : c.negated-by.result ≡ pos 0 -ℤ entry c.args.down.now 2 = c.negated-by.ensures ∙ ap (λ w. pos 0 -ℤ w) e in
    let value : c.mix.result ≡ (pos 0 -ℤ entry c.args.down.now 2) *ℤ entry c.args.up.now c.args.place +ℤ entry c.args.up.now 2 *ℤ entry c.args.down.now c.args.place = c.mix.ensures ∙ cc in
    back c.mix.result (search rules) ∙ value ∙ sym (entry-mixed (pos 0 -ℤ entry c.args.down.now 2) (entry c.args.up.now 2) c.args.up.now c.args.down.now c.args.place)
