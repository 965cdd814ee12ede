use Rattle.std.proofs.Common.{◌∙◌, ap, subst, map, ◌++◌}
use Rattle.bk_dev.specs.Development.{int_max}
use Rattle.bk_scripts.specs.Brought.{new_over, hidden, type_in}
use Rattle.bk_scripts.specs.Widening.{IsWidened}
use Rattle.bk_scripts.proofs.Sighted.{read_whole}
use Rattle.bk_scripts.proofs.script.read_in.Goals as goal

pub returns : goal.returns
returns c =
    let table = c.args.table.now in
    let dev = c.args.dev.now in
    let own = c.in_ok-outer.own.items in
    let types = c.in_ok-types.types in
    let scope = c.in_ok-scope.scope in
    let old = c.in_ok-wide.wide in
    let wide = c.widen.new.table in
    let more = c.widen.new.scope in
    read_whole table dev c.args.script.now c.in_ok-outer.outer.items own (map (λ x. x.now) c.in_ok-new.new.items) types scope more old wide
    c.in_ok-outer.ensures.variables
    c.in_ok-outer.ensures.parameters
    (c.in_ok-new.ensures ∙ ((λ i. new_over (c.deref.ensures.value i) (map (λ x. x.now) (c.deref-2.ensures.value i))) ∙ ap (new_over own) c.in_ok-names.ensures))
    (c.in_ok-types.ensures ∙ (λ i. record { max = int_max dev; names = c.deref-3.ensures.value i ++ (c.deref-4.ensures.value i ++ hidden (map (λ x. x.now) (c.deref-5.ensures.value i))) }))
    (c.in_ok-scope.ensures ∙ (λ i. record { max = int_max dev; names = c.deref-6.ensures.value i ++ c.deref-7.ensures.value i }))
    c.in_ok-wide.ensures
    (subst (λ ns. IsWidened (type_in table types) (map (λ x. x.now) ns) old wide scope more) c.deref-8.ensures.value c.in_ok-widen.ensures)
