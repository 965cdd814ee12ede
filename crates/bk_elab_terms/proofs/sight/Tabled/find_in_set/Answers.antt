use Rattle.std.proofs.Common.{◌≡◌, ℕ, false, sym, ◌∙◌, subst}
use Rattle.std.specs.Prelude.{Option, MatchOption}
use Rattle.bk_elab_terms.specs.Sights.{among, IsFirstAt}
use Rattle.bk_elab_terms.proofs.Sighted.{element-found}
use Rattle.bk_elab_terms.proofs.sight.Tabled.find_in_set.Goals as goal

pub returns : goal.returns
returns c = λ e rest h.
    element-found c.args.self.now.table.now c.args.set c.in-Some.index e rest c.args.text.now c.in_ok-form-2.form c.enumerated-2.result h (sym (c.is_named.ensures e h) ∙ c.if-is_named.false)
    (λ names n. subst (λ (o : Option ℕ). MatchOption o (among c.args.text.now names ≡ false) (IsFirstAt c.args.text.now names)) c.in-Some.is (c.in_ok-index.ensures names n))
    c.in_ok-form-2.ensures c.enumerated-2.ensures
