use Rattle.std.proofs.Common.{◌≡◌, ℕ, List, sym, ◌∙◌, ap, subst}
use Rattle.std.specs.Option.{option_copied}
use Rattle.std.specs.Prelude.{None, Some}
use Rattle.bk_raw.specs.Meaning.TermReading.{name_of}
use Rattle.bk_elab_terms.specs.Conjuncts.{infix_sides, shown_infix}
use Rattle.bk_elab_terms.specs.Sights.{ranges_as, LacksAt}
use Rattle.bk_elab_terms.proofs.Clued.{ranging-nameless, ranging-other, ranging-inner, ranging-formless, ranging-here}
use Rattle.bk_elab_terms.proofs.binder.ranging_conjunct.Goals as goal
use Rattle.bk_elab_terms.proofs.binder.ranging_conjunct.Goals.{then-not-tells_range-via-then-not-tells_range, then-not-tells_range-via-else-not-tells_range+then-names_one}

pub returns-in_default-name_of : goal.returns-in_default-name_of
returns-in_default-name_of c =
    let sides : infix_sides c.args.term.now ≡ Some (c.in-Some.op, c.in-Some.left.now, c.in-Some.side.now) = sym c.infix_sides.ensures ∙ ap shown_infix c.in-Some.is in
    let none : name_of c.in-Some.left.now ≡ None = sym c.name_of.ensures ∙ ap option_copied c.in_default-name_of.is in
    ranging-nameless c.args.all.now (ranges_as c.args.names.now) c.args.term.now c.in-Some.left.now c.in-Some.side.now c.in-Some.op c.requires sides none

pub returns-then-not-tells_range : goal.returns-then-not-tells_range
returns-then-not-tells_range c =
    let sides : infix_sides c.args.term.now ≡ Some (c.in-Some.op, c.in-Some.left.now, c.in-Some.side.now) = sym c.infix_sides.ensures ∙ ap shown_infix c.in-Some.is in
    elim c.then-not-tells_range.branch [
      | then-not-tells_range-via-then-not-tells_range w ↦ ranging-other c.args.all.now (ranges_as c.args.names.now) c.args.term.now c.in-Some.left.now c.in-Some.side.now c.in-Some.op c.requires sides (sym c.tells_range.ensures ∙ w.if-not-tells_range.true)
      | then-not-tells_range-via-else-not-tells_range+then-names_one w ↦ ranging-inner c.args.all.now (ranges_as c.args.names.now) c.args.term.now c.in-Some.left.now c.in-Some.side.now c.in-Some.op c.requires sides (sym w.names_one.ensures ∙ w.if-names_one.true)
    ]

pub returns-then-gives_no_range : goal.returns-then-gives_no_range
returns-then-gives_no_range c =
    let sides : infix_sides c.args.term.now ≡ Some (c.in-Some.op, c.in-Some.left.now, c.in-Some.side.now) = sym c.infix_sides.ensures ∙ ap shown_infix c.in-Some.is in
    let name : name_of c.in-Some.left.now ≡ Some c.in-Some-name_of.name.now = sym c.name_of.ensures ∙ ap option_copied c.in-Some-name_of.is in
    ranging-formless c.args.all.now (ranges_as c.args.names.now) c.args.term.now c.in-Some.left.now c.in-Some.side.now c.in-Some.op c.in-Some-name_of.name.now c.requires sides name
    (sym c.names_one.ensures ∙ c.if-names_one.false) (sym c.gives_no_range.ensures ∙ c.if-gives_no_range.true)

pub returns-in-Some-awaiting_range : goal.returns-in-Some-awaiting_range
returns-in-Some-awaiting_range c =
    let sides : infix_sides c.args.term.now ≡ Some (c.in-Some.op, c.in-Some.left.now, c.in-Some.side.now) = sym c.infix_sides.ensures ∙ ap shown_infix c.in-Some.is in
    let name : name_of c.in-Some.left.now ≡ Some c.in-Some-name_of.name.now = sym c.name_of.ensures ∙ ap option_copied c.in-Some-name_of.is in
    ranging-here c.args.all.now (ranges_as c.args.names.now) c.args.term.now c.in-Some.left.now c.in-Some.side.now c.in-Some.op c.in-Some-name_of.name.now c.in-Some-awaiting_range.place c.requires sides name
    (sym c.names_one.ensures ∙ c.if-names_one.false) (subst (λ (x : List ℕ). LacksAt x (ranges_as c.args.names.now) c.in-Some-awaiting_range.place) c.as_bytes.ensures.value c.in-Some-awaiting_range.ensures)
