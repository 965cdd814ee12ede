use Rattle.std.proofs.Common.{◌≡◌, ◌+◌, ℤ, length, get_or, List, take, drop, ◌++◌, sym, ap, ◌∙◌, arith, rules}
use Rattle.std.specs.Int.{w128, cast_signed, cast_unsigned}
use Rattle.bk_lin.proofs.Adding.{back}
use Rattle.bk_lin.specs.Inequality.{Inequality}
use Rattle.bk_lin.specs.Certificate.{inequalities, inequality_of}
use Rattle.bk_elim.specs.Elimination.{entry}
use Rattle.bk_elim.proofs.Joining.{started, at_fact, length-inequalities, whole_back, short_at}
use Rattle.bk_elim.proofs.row.start_row.Goals as goal

pub returns : goal.returns
returns c =
    let fact_is : (d : Inequality) → get_or (inequalities c.args.facts.now) c.args.index d ≡ inequality_of c.index-facts-index.result =
    at_fact c.args.facts.now c.args.index c.index-facts-index.result c.requires.index c.index-facts-index.is in
    let row : List ℤ = take c.in_ok-row.row.len (c.copy_coefs.new.row ++ drop (length c.copy_coefs.new.row) c.in_ok-row.row.items) in
    let long : length c.copy_coefs.new.row ≡ length c.in_ok-row.row.items = c.copy_coefs.ensures.length ∙ ap length c.as_mut_slice.ensures.value in
    let full : c.in_ok-row.row.len ≡ length c.in_ok-row.row.items = omega arith in
    let written : row ≡ c.copy_coefs.new.row = whole_back c.in_ok-row.row.len c.copy_coefs.new.row c.in_ok-row.row.items long full in
    started (inequalities c.args.facts.now) c.args.index row c.index-facts-index.result.coefs.items (cast_signed w128 (cast_unsigned w128 c.index-facts-index.result.constant))
    (let e = length-inequalities c.args.facts.now in omega arith)
    (let e = length-inequalities c.args.facts.now in let f = ap length written in let g : c.in_ok-row.row.len ≡ 5 + length c.args.facts.now = omega (arith, c.in_ok-row.ensures.len) in omega arith)
    (λ k. ap (λ xs. entry xs k) written ∙ c.copy_coefs.ensures.copied k ∙ ap (λ xs. entry xs k) c.deref.ensures.value)
    (short_at c.args.facts.now c.args.index c.index-facts-index.result c.requires.index c.index-facts-index.is c.requires.narrow)
    (λ d. ap Inequality.coefs (sym (fact_is d)))
    (λ d. back c.index-facts-index.result.constant (search rules) ∙ ap Inequality.constant (sym (fact_is d)))
