use Rattle.std.proofs.Common.{sym, ◌∙◌, ap}
use Rattle.bk_elab_terms.specs.Sights.{names_of, shown_sight}
use Rattle.bk_elab_terms.proofs.Keeping.{silent-untyped, not-empty}
use Rattle.bk_elab_terms.proofs.sight.Reader.is_untold_by.Goals as goal

pub returns : goal.returns
returns c e m =
    silent-untyped m (names_of c.args.self.now) c.args.term.now c.args.text.now (not-empty c.args.text.now (sym c.is_empty.ensures ∙ c.if-is_empty.false))
    (sym c.stands_free.ensures ∙ c.if-not-stands_free.false) (sym c.in_ok-find.ensures ∙ ap shown_sight c.in-Untyped.is)
