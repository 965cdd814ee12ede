use Rattle.std.proofs.Common.{sym, ◌∙◌, ap, refl}
use Rattle.std.specs.Prelude.{Option, Some}
use Rattle.bk_val.specs.ValueType.{ValueType}
use Rattle.bk_elab_terms.specs.Sights.{given_at, bounds_from}
use Rattle.bk_elab_terms.proofs.Awaited.{type-taken}
use Rattle.bk_elab_terms.proofs.sight.Reader.take_type.Goals as goal

pub returns-in-Some-clause-typed : goal.returns-in-Some-clause-typed
returns-in-Some-clause-typed c =
    type-taken c.args.self.now.locals.items c.args.first c.args.place record { text = c.index_mut.result.now.text; at = c.index_mut.result.now.at; ty = Some c.in-Some.ty } c.index_mut.result.now c.in-Some.ty c.requires c.index_mut.ensures.value refl refl refl
    ∙ ap (λ (o : Option ValueType). given_at c.args.place o (bounds_from c.args.first c.args.self.now)) (sym c.in-Some.is)
