use Rattle.std.proofs.Common.{IsSome, is_some, refl, sym, ap, ◌∙◌, subst}
use Rattle.std.specs.Str.{bytes_eq}
use Rattle.bk_names.specs.Names.{place_among}
use Rattle.bk_names.proofs.Places.{position-map, text_stands, text_found}
use Rattle.bk_names.proofs.names.Names.find.Goals as goal

pub returns-in_err-n-clause-place : goal.returns-in_err-n-clause-place
returns-in_err-n-clause-place c = c.from_residual.ensures ∙ c.in_err-n.ensures.index ∙ sym (position-map (λ t. t.items) (bytes_eq c.args.text.now) c.self.inside.texts.keys) ∙ ap (λ names. place_among names c.args.text.now) c.self.view_is

pub returns-in_err-n-clause-found : goal.returns-in_err-n-clause-found
returns-in_err-n-clause-found c =
    let f = text_found c.args.self.now c.args.text.now in
    (λ s. f.0 (subst IsSome (returns-in_err-n-clause-place c) s), λ k. subst IsSome (sym (returns-in_err-n-clause-place c)) (f.1 k))

pub returns-clause-place : goal.returns-clause-place
returns-clause-place c = c.in_ok-n.ensures.index ∙ sym (position-map (λ t. t.items) (bytes_eq c.args.text.now) c.self.inside.texts.keys) ∙ ap (λ names. place_among names c.args.text.now) c.self.view_is

pub returns-clause-stands : goal.returns-clause-stands
returns-clause-stands c = text_stands c.args.self.now c.args.text.now c.in_ok-n.n (sym (returns-clause-place c))

pub returns-clause-found : goal.returns-clause-found
returns-clause-found c = (λ _. (text_found c.args.self.now c.args.text.now).0 (ap is_some (sym (returns-clause-place c))), λ _. refl)
