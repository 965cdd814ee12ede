use Rattle.std.proofs.Common.{◌≡◌, ◌<◌, ◌∙◌, List, ℕ, suc, Option, true, false, length, get_or, inl, inr, refl, sym, subst, ap, arith}
use Rattle.bk_raw.specs.Trees.ComponentTree.{RawComponent}
use Rattle.bk_sources.proofs.FileSteps.{bytes_of, read_counted}
use Rattle.bk_front.specs.declared.project_file.LineKind.{LineKind}
use Rattle.bk_front.specs.declared.project_file.LineKind.TheVariants.{Range}
use Rattle.bk_front.specs.declared.refusal.Refusal.TheVariants.{Fault}
use Rattle.bk_front.specs.Chain.{may_stand_below}
use Rattle.bk_front.specs.Project.{IsLow, IsRefusalIn}
use Rattle.bk_front.proofs.Steps.{kinds_counted, at_kind, link_at, first_unchained, chained_on, last_on, all_chained}
use Rattle.bk_front.proofs.reading.all_chained.Goals as goal

pub bounds-kinds-file : goal.bounds-kinds-file
bounds-kinds-file c = omega (arith, c.loop-file-test.true, c.requires.long, read_counted c.args.texts.now c.args.components.now IsLow c.requires.each)

pub at_fault-requires : goal.at_fault-requires
at_fault-requires c = omega (arith, c.loop-file-test.true, c.requires.countable, read_counted c.args.texts.now c.args.components.now IsLow c.requires.each)

pub returns-then-not-may_stand_below-clause-refusal : goal.returns-then-not-may_stand_below-clause-refusal
returns-then-not-may_stand_below-clause-refusal c top =
    let kinds : List LineKind = c.args.kinds.now in
    let texts : List (List ℕ) = bytes_of c.args.texts.now in
    let components : List RawComponent = c.args.components.now in
    let file : ℕ = c.loop-file.file in
    let kind : LineKind = get_or kinds file Range in
    let component : RawComponent = c.index-components-file.result in
    let counted : length kinds ≡ length components = c.requires.long ∙ sym (read_counted c.args.texts.now components IsLow c.requires.each) in
    let inside : file < length kinds = omega (arith, counted, c.loop-file-test.true) in
    let wrong : may_stand_below (link_at components file kind component) ≡ false = ap (λ (a : Option RawComponent). may_stand_below (record { above = a; kind = kind; component = component })) (sym c.loop-file.invariant.0) ∙ sym c.may_stand_below.ensures ∙ c.if-not-may_stand_below.true in
    let first = first_unchained kinds components file kind component counted c.loop-file-test.true (at_kind kinds file Range inside) c.index-components-file.is c.loop-file.invariant.1 wrong in
    let told : c.at_fault.result ≡ Fault 5 (suc file) component.name.at = c.at_fault.ensures ∙ ap (λ (x : RawComponent). Fault 5 (suc file) x.name.at) c.component.view_is in
    subst (IsRefusalIn top kinds texts) (sym told) (file, refl, inr (inr (inl (refl, kinds_counted kinds c.args.texts.now c.requires.long, (components, c.requires.each, first)))))

pub loop-file-preserved : goal.loop-file-preserved
loop-file-preserved c =
    let kinds : List LineKind = c.args.kinds.now in
    let components : List RawComponent = c.args.components.now in
    let file : ℕ = c.loop-file.file in
    let kind : LineKind = get_or kinds file Range in
    let component : RawComponent = c.index-components-file.result in
    let counted : length kinds ≡ length components = c.requires.long ∙ sym (read_counted c.args.texts.now components IsLow c.requires.each) in
    let inside : file < length kinds = omega (arith, counted, c.loop-file-test.true) in
    let right : may_stand_below (link_at components file kind component) ≡ true = ap (λ (a : Option RawComponent). may_stand_below (record { above = a; kind = kind; component = component })) (sym c.loop-file.invariant.0) ∙ sym c.may_stand_below.ensures ∙ c.if-not-may_stand_below.false in
    (last_on components file component c.loop-file-test.true c.index-components-file.is, chained_on kinds components file kind component counted c.loop-file-test.true (at_kind kinds file Range inside) c.index-components-file.is c.loop-file.invariant.1 right)

pub returns-clause-chained : goal.returns-clause-chained
returns-clause-chained c = all_chained c.args.kinds.now (bytes_of c.args.texts.now) c.args.components.now c.loop-file.file (kinds_counted c.args.kinds.now c.args.texts.now c.requires.long) c.requires.each c.loop-file-test.false c.loop-file.invariant.1
