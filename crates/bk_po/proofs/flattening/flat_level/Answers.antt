use Rattle.std.proofs.Common.{◌≡◌, List, length, sym, ◌∙◌, ap, subst}
use Rattle.std.specs.Prelude.{IfOk, OnOk, Result, Ok, Err}
use Rattle.bk_gsl.specs.Flat.{flat, flat_table}
use Rattle.bk_dev.specs.Development.{Level, Body}
use Rattle.bk_dev.specs.Flattened.{flat_bodies, copied_in_bodies}
use Rattle.bk_po.specs.FlatFacts.{AreBelow, with_entries}
use Rattle.bk_po.proofs.FlatEntries.{level_made, level_entries, bodies_below}
use Rattle.bk_po.proofs.flattening.flat_level.Goals as goal

-- what is so at all is so of a value
at-ok : {T E Q : Type 0} (r : Result T E) → Q → OnOk r Q
at-ok (Ok x) q = q
at-ok (Err e) q = tt

pub flat_bodies-requires-clause-listed : goal.flat_bodies-requires-clause-listed
flat_bodies-requires-clause-listed c =
    let u = c.flat_sub.new.table in
    let tables : u ≡ flat_table c.args.table.now c.args.level.now.init = c.in_ok-init.ensures.table ∙ ap (λ (l : Level). flat_table c.args.table.now l.init) c.level.view_is in
    let bodies : c.deref.result.now ≡ c.args.level.now.bodies = c.deref.ensures.value ∙ ap (λ (l : Level). l.bodies) c.level.view_is in
    subst (λ (bs : List Body). AreBelow (length u.variables) (copied_in_bodies bs)) (sym bodies) (bodies_below c.args.table.now u c.args.level.now c.requires.listed tables)

pub returns-clause-level : goal.returns-clause-level
returns-clause-level c =
    let u = c.flat_sub.new.table in
    let tables : u ≡ flat_table c.args.table.now c.args.level.now.init = c.in_ok-init.ensures.table ∙ ap (λ (l : Level). flat_table c.args.table.now l.init) c.level.view_is in
    let first : c.in_ok-init.init ≡ flat c.args.table.now c.args.level.now.init = c.in_ok-init.ensures.sub ∙ ap (λ (l : Level). flat c.args.table.now l.init) c.level.view_is in
    let bodies : c.deref.result.now ≡ c.args.level.now.bodies = c.deref.ensures.value ∙ ap (λ (l : Level). l.bodies) c.level.view_is in
    let same = level_made c.args.table.now u c.args.level.now c.in_ok-init.init c.in_ok-bodies.bodies.items c.requires.listed tables first (c.in_ok-bodies.ensures.bodies ∙ ap (flat_bodies (length u.variables)) bodies) in
    subst (λ (x : Level). IfOk c.with_subs.result (λ (l : Level). l ≡ x)) same c.with_subs.ensures

pub returns-clause-table : goal.returns-clause-table
returns-clause-table c =
    let u = c.flat_sub.new.table in
    let tables : u ≡ flat_table c.args.table.now c.args.level.now.init = c.in_ok-init.ensures.table ∙ ap (λ (l : Level). flat_table c.args.table.now l.init) c.level.view_is in
    let bodies : c.deref.result.now ≡ c.args.level.now.bodies = c.deref.ensures.value ∙ ap (λ (l : Level). l.bodies) c.level.view_is in
    at-ok c.with_subs.result (level_entries c.args.table.now u c.flat_bodies.new.table c.args.level.now c.requires.listed tables
    (c.in_ok-bodies.ensures.table ∙ ap (λ (bs : List Body). with_entries u (copied_in_bodies bs)) bodies))
