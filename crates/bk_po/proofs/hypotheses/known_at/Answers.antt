use Rattle.std.proofs.Common.{◌≡◌, ◌++◌, List, suc, ◌∙◌, ap}
use Rattle.std.specs.List.{flat_map}
use Rattle.bk_form.specs.Formula.{Formula}
use Rattle.bk_form.specs.Predicates.{conjuncts}
use Rattle.bk_dev.specs.Development.{Level}
use Rattle.bk_dev.specs.Hypotheses.{properties_of, values_at, facts_of, init_hypotheses}
use Rattle.bk_po.proofs.Supposing.{properties_next, facts_next, begins_is, before_is, joined_is, all_is}
use Rattle.bk_po.proofs.hypotheses.known_at.Goals.{In_ok-all}
use Rattle.bk_po.proofs.hypotheses.known_at.Goals as goal

properties-down : (c : In_ok-all) → c.add_conjuncts.new.found.items ≡ properties_of c.args.dev.now (suc c.args.level)
properties-down c =
    let before : List Formula = c.args.properties.now.items in
    properties_next c.args.dev.now c.args.level before c.add_conjuncts.new.found.items c.level-stated.result.now c.requires.level c.level-stated.ensures c.requires.properties
    (c.in_ok-add_conjuncts.ensures ∙ ap (λ (l : Level). before ++ conjuncts l.properties) c.stated.view_is)

facts-down : (c : In_ok-all) → c.add_all_conjuncts.new.hyps.items ≡ facts_of c.args.dev.now (suc c.args.level)
facts-down c =
    let joined : List Formula = c.add_joining.new.hyps.items in
    facts_next c.args.dev.now c.args.level c.args.facts.now.items joined c.add_all_conjuncts.new.hyps.items c.level-stated.result.now c.requires.level c.level-stated.ensures c.requires.facts c.in_ok-add_joining.ensures
    (c.in_ok-add_all_conjuncts.ensures ∙ ap (λ (ps : List Formula). joined ++ flat_map conjuncts ps) (c.deref-7.ensures.value ∙ ap (λ (l : Level). l.assertions) c.stated.view_is))

begins-here : (c : In_ok-all) → c.in_ok-begins.begins.items ≡ init_hypotheses c.args.dev.now c.args.level
begins-here c =
    begins_is c.args.dev.now c.args.level c.add_conjuncts.new.found.items c.in_ok-begins.begins.items (properties-down c)
    (c.in_ok-begins.ensures ∙ ap (λ (ps : List Formula). ps ++ values_at c.args.dev.now c.args.level) c.deref-2.ensures.value)

pub returns-clause-known : goal.returns-clause-known
returns-clause-known c =
    let dev = c.args.dev.now in
    let begins : List Formula = c.in_ok-begins.begins.items in
    let facts : List Formula = c.args.facts.now.items in
    record {
      properties = c.in_ok-above.ensures ∙ (c.deref.ensures.value ∙ c.requires.properties);
      begins = begins-here c;
      before = before_is dev c.args.level begins facts c.in_ok-before.before.items (begins-here c) c.requires.facts (c.in_ok-before.ensures ∙ (λ i. c.deref-3.ensures.value i ++ c.deref-4.ensures.value i));
      joined = joined_is dev c.args.level begins facts c.add_joining.new.hyps.items c.in_ok-joined.joined.items c.level-stated.result.now c.level-stated.ensures (begins-here c) c.requires.facts c.in_ok-add_joining.ensures (c.in_ok-joined.ensures ∙ (λ i. c.deref-5.ensures.value i ++ c.deref-6.ensures.value i));
      all = all_is dev c.args.level begins c.add_all_conjuncts.new.hyps.items c.in_ok-all.all.items (begins-here c) (facts-down c) (c.in_ok-all.ensures ∙ (λ i. c.deref-8.ensures.value i ++ c.deref-9.ensures.value i));
    }

pub returns-clause-properties : goal.returns-clause-properties
returns-clause-properties c = properties-down c

pub returns-clause-facts : goal.returns-clause-facts
returns-clause-facts c = facts-down c
