use Rattle.std.proofs.Common.{◌∙◌, length, ap, sym, refl}
use Rattle.std.specs.Prelude.{Option}
use Rattle.std.proofs.lemmas.Option.{slice_get_read}
use Rattle.bk_val.specs.ValueType.{ValueType}
use Rattle.bk_elab_terms.specs.Visible.{told_at}
use Rattle.bk_statics.specs.LevelOf.{is_of}
use Rattle.bk_scope.proofs.FaultLists.{same-by}
use Rattle.bk_check_clauses.proofs.values.is_of.Goals as goal

pub returns-in-Some-Some : goal.returns-in-Some-Some
returns-in-Some-Some c =
    let types = c.args.typing.types.now in
    let n = c.args.constant in
    let found = slice_get_read types (length types) n c.in-Some-Some.field-0.now refl c.in-Some-Some.ensures.lookup.3.0 c.in-Some-Some.ensures.lookup.1 in
    same-by c.equal.result c.in-Some-Some.own c.args.ty.now c.equal.ensures ∙ ap (λ (t : Option ValueType). is_of t c.args.ty.now) (sym (ap told_at found ∙ c.in-Some-Some.field-0-is))
