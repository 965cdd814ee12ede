use Rattle.std.proofs.Common.{◌≡◌, ◌∙◌, sym, subst, length}
use Rattle.std.specs.Prelude.{IfOk}
use Rattle.std.proofs.lemmas.Bool.{ltb-true, ltb-false}
use Rattle.bk_scripts.proofs.Sighted.{part_there, part_past}
use Rattle.bk_scripts.proofs.sight.part_at.Goals as goal

pub returns-in-Some : goal.returns-in-Some
returns-in-Some c =
    let l = ltb-true c.args.number (length c.args.name.now) (sym c.in-Some.ensures.lookup.0) in
    subst (λ t. IfOk c.part_text.result (λ text. text.items ≡ t)) (sym (part_there c.args.name.now c.args.number c.in-Some.part.now _ l c.in-Some.ensures.lookup.1)) c.part_text.ensures

pub returns-in-None : goal.returns-in-None
returns-in-None c = c.new.ensures.items ∙ sym (part_past c.args.name.now c.args.number (ltb-false c.args.number (length c.args.name.now) (sym c.in-None.ensures.lookup.0)))
