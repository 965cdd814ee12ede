use Rattle.std.proofs.Common.{◌≡◌, ◌∷◌, ◌++◌, [], ◌∙◌, suc, List, ℕ, map, length, inl, inr, refl, rules, sym, subst, ap, arith}
use Rattle.std.specs.List.{AllZip}
use Rattle.std.specs.Vec.Iter.{into_iter_items}
use Rattle.std.proofs.lemmas.List.{append-nil, length-map, nil_from_length}
use Rattle.bk_sources.proofs.FileSteps.{bytes_of}
use Rattle.bk_front.specs.Project.{IsRefusalIn}
use Rattle.bk_front.specs.declared.refusal.Refusal.TheVariants.{Limit}
use Rattle.bk_front.specs.Stages.{IsReadOf}
use Rattle.bk_front.specs.declared.reading.Read.TheVariants.{Component, High}
use Rattle.bk_front.proofs.Steps.{all_written, all_low, first_high, high_within}
use Rattle.bk_front.proofs.reading.all_low.Goals as goal

pub past_limit-requires : goal.past_limit-requires
past_limit-requires c =
    let here : into_iter_items c.loop-one.one-iterator ≡ High ∷ into_iter_items c.next.new.self = search rules in
    let whole : AllZip IsReadOf (bytes_of c.args.texts.now) (map Component c.loop-one.components.items ++ High ∷ into_iter_items c.next.new.self) = subst (AllZip IsReadOf (bytes_of c.args.texts.now)) (sym c.loop-one.invariant ∙ ap (λ rs. map Component c.loop-one.components.items ++ rs) here) c.requires.read in
    let counted : c.len.result ≡ length c.loop-one.components.items = search rules in
    omega (arith, counted, c.requires.countable, length-map c.args.texts.now (λ t. t.items), high_within (bytes_of c.args.texts.now) c.loop-one.components.items (into_iter_items c.next.new.self) whole)

pub returns-in-High-clause-refusal : goal.returns-in-High-clause-refusal
returns-in-High-clause-refusal c top kinds =
    let texts : List (List ℕ) = bytes_of c.args.texts.now in
    let here : into_iter_items c.loop-one.one-iterator ≡ High ∷ into_iter_items c.next.new.self = search rules in
    let whole : AllZip IsReadOf texts (map Component c.loop-one.components.items ++ High ∷ into_iter_items c.next.new.self) = subst (AllZip IsReadOf texts) (sym c.loop-one.invariant ∙ ap (λ rs. map Component c.loop-one.components.items ++ rs) here) c.requires.read in
    let counted : length c.loop-one.components.items ≡ c.len.result = search rules in
    let written = all_written texts c.args.read.items c.requires.read in
    subst (IsRefusalIn top kinds texts) (sym c.past_limit.ensures) (subst (λ n. IsRefusalIn top kinds texts (Limit 12 (suc n))) counted (length c.loop-one.components.items, refl, inr (inl (refl, written, first_high texts c.loop-one.components.items (into_iter_items c.next.new.self) whole))))

pub returns-clause-each : goal.returns-clause-each
returns-clause-each c =
    let end : into_iter_items c.loop-one.one-iterator ≡ [] = nil_from_length (into_iter_items c.loop-one.one-iterator) (omega (arith, c.in-None.ensures.steps.0)) in
    let same : map Component c.loop-one.components.items ≡ c.args.read.items = sym (append-nil (map Component c.loop-one.components.items)) ∙ ap (λ rs. map Component c.loop-one.components.items ++ rs) (sym end) ∙ c.loop-one.invariant in
    all_low (bytes_of c.args.texts.now) c.loop-one.components.items (subst (AllZip IsReadOf (bytes_of c.args.texts.now)) (sym same) c.requires.read)
