use Rattle.std.proofs.Common.{◌≡◌, sym, ap, ◌∙◌, subst}
use Rattle.std.specs.Prelude.{IfOk}
use Rattle.bk_raw.specs.Meaning.Names.{Sight, found}
use Rattle.bk_raw.specs.Meaning.ScopeReading.{set_names}
use Rattle.bk_elab_terms.specs.Sights.{shown_sight}
use Rattle.bk_elab_terms.proofs.Seen.{seen_last}
use Rattle.bk_elab_terms.proofs.Sighted.{found_in}
use Rattle.bk_elab_terms.proofs.sight.Tabled.find_outside.Goals as goal

pub returns-in-Some : goal.returns-in-Some
returns-in-Some c =
    let told = found_in c.args.self.now.table.now c.args.self.now.scope.now c.args.text.now ∙ ap (λ o. seen_last c.args.self.now.table.now o (found 0 (set_names 0 c.args.self.now.table.now.sets) c.args.text.now)) (sym c.find.ensures ∙ c.in-Some.is) in
    subst (λ (x : Sight). IfOk c.variable.result (λ s. shown_sight s ≡ x)) (sym told) c.variable.ensures

pub returns-in-None : goal.returns-in-None
returns-in-None c =
    let told = found_in c.args.self.now.table.now c.args.self.now.scope.now c.args.text.now ∙ ap (λ o. seen_last c.args.self.now.table.now o (found 0 (set_names 0 c.args.self.now.table.now.sets) c.args.text.now)) (sym c.find.ensures ∙ c.in-None.is) in
    subst (λ (x : Sight). IfOk c.find_set.result (λ s. shown_sight s ≡ x)) (sym told) c.find_set.ensures
