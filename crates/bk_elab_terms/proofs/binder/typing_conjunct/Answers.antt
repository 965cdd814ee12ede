use Rattle.std.proofs.Common.{◌≡◌, ℕ, List, sym, ◌∙◌, ap, subst}
use Rattle.std.specs.Option.{option_copied}
use Rattle.std.specs.Prelude.{None, Some}
use Rattle.bk_raw.specs.Meaning.TermReading.{name_of}
use Rattle.bk_elab_terms.specs.Conjuncts.{infix_sides, shown_infix}
use Rattle.bk_elab_terms.specs.Sights.{bounds_of, AwaitsAt}
use Rattle.bk_elab_terms.proofs.Clued.{typing-nameless, typing-other, typing-here}
use Rattle.bk_elab_terms.proofs.binder.typing_conjunct.Goals as goal

pub returns-in_default-name_of : goal.returns-in_default-name_of
returns-in_default-name_of c =
    let sides : infix_sides c.args.term.now ≡ Some (c.in-Some.op, c.in-Some.left.now, c.in-Some.side.now) = sym c.infix_sides.ensures ∙ ap shown_infix c.in-Some.is in
    let none : name_of c.in-Some.left.now ≡ None = sym c.name_of.ensures ∙ ap option_copied c.in_default-name_of.is in
    typing-nameless (bounds_of c.args.locals.now) c.args.term.now c.in-Some.left.now c.in-Some.side.now c.in-Some.op c.requires sides none

pub returns-then-not-tells_type : goal.returns-then-not-tells_type
returns-then-not-tells_type c =
    let sides : infix_sides c.args.term.now ≡ Some (c.in-Some.op, c.in-Some.left.now, c.in-Some.side.now) = sym c.infix_sides.ensures ∙ ap shown_infix c.in-Some.is in
    let name : name_of c.in-Some.left.now ≡ Some c.in-Some-name_of.name.now = sym c.name_of.ensures ∙ ap option_copied c.in-Some-name_of.is in
    typing-other (bounds_of c.args.locals.now) c.args.term.now c.in-Some.left.now c.in-Some.side.now c.in-Some.op c.in-Some-name_of.name.now c.requires sides name (sym c.tells_type.ensures ∙ c.if-not-tells_type.true)

pub returns-in-Some-awaiting_type : goal.returns-in-Some-awaiting_type
returns-in-Some-awaiting_type c =
    let sides : infix_sides c.args.term.now ≡ Some (c.in-Some.op, c.in-Some.left.now, c.in-Some.side.now) = sym c.infix_sides.ensures ∙ ap shown_infix c.in-Some.is in
    let name : name_of c.in-Some.left.now ≡ Some c.in-Some-name_of.name.now = sym c.name_of.ensures ∙ ap option_copied c.in-Some-name_of.is in
    typing-here (bounds_of c.args.locals.now) c.args.term.now c.in-Some.left.now c.in-Some.side.now c.in-Some.op c.in-Some-name_of.name.now c.in-Some-awaiting_type.place c.requires sides name
    (subst (λ (x : List ℕ). AwaitsAt x (bounds_of c.args.locals.now) c.in-Some-awaiting_type.place) c.as_bytes.ensures.value c.in-Some-awaiting_type.ensures)
