use Rattle.std.proofs.Common.{◌≡◌, ◌∙◌, true, false, sym, subst, List, All}
use Rattle.bk_form.specs.Formula.{Formula}
use Rattle.bk_seq.specs.Sequents.{sequent_of}
use Rattle.bk_auto.specs.Found.{IsShort}
use Rattle.bk_auto.proofs.Wider.{has_new-refl}
use Rattle.bk_auto.proofs.Tellings.{large_goal, large_hyps, ready_from}
use Rattle.bk_auto.proofs.Shapes.{not_found, found_rules, found_names}
use Rattle.bk_auto.proofs.finding.find.Goals as goal

pub returns-then-not-is_short-clause-none : goal.returns-then-not-is_short-clause-none
returns-then-not-is_short-clause-none c = λ e. large_goal c.args.types.now (sequent_of c.args.sequent.now) (λ s. (let t : true ≡ false = sym (c.is_short.ensures.1 s) ∙ c.if-not-is_short.true in cc))

pub returns-then-not-is_short-clause-new : goal.returns-then-not-is_short-clause-new
returns-then-not-is_short-clause-new c = has_new-refl c.args.types.now

pub returns-then-not-are_short-clause-new : goal.returns-then-not-are_short-clause-new
returns-then-not-are_short-clause-new c = has_new-refl c.args.types.now

pub returns-then-not-are_short-clause-none : goal.returns-then-not-are_short-clause-none
returns-then-not-are_short-clause-none c = λ e. large_hyps c.args.types.now (sequent_of c.args.sequent.now)
    (λ s. (let t : true ≡ false = sym (c.are_short.ensures.1 (subst (λ (hs : List Formula). All IsShort hs) (sym c.deref.ensures.value) s)) ∙ c.if-not-are_short.true in cc))

pub easy-requires : goal.easy-requires
easy-requires c =
    ready_from c.args.types.now (sequent_of c.args.sequent.now) c.is_formed.ensures c.requires.types
    (subst (λ (hs : List Formula). All IsShort hs) c.deref.ensures.value (c.are_short.ensures.0 c.if-not-are_short.false)) (c.is_short.ensures.0 c.if-not-is_short.false)

pub returns-then-not-branch-clause-none : goal.returns-then-not-branch-clause-none
returns-then-not-branch-clause-none c = λ e.
    not_found c.in_ok-easy.field-0 c.args.types.now c.easy.new.types c.new-rules.result.items c.easy.new.rules.items (sequent_of c.args.sequent.now) c.if-not-branch.true c.in_ok-easy.ensures.told

pub returns-then-not-branch-clause-new : goal.returns-then-not-branch-clause-new
returns-then-not-branch-clause-new c = c.easy.ensures.new

pub returns-clause-derives : goal.returns-clause-derives
returns-clause-derives c =
    found_rules c.in_ok-easy.field-0 c.args.types.now c.easy.new.types c.new-rules.result.items c.easy.new.rules.items (sequent_of c.args.sequent.now) c.if-not-branch.false c.new-rules.ensures.items c.is_formed-2.ensures c.in_ok-easy.ensures.told

pub returns-clause-new : goal.returns-clause-new
returns-clause-new c = c.easy.ensures.new

pub returns-clause-brings : goal.returns-clause-brings
returns-clause-brings c =
    found_names c.in_ok-easy.field-0 c.args.types.now c.easy.new.types c.new-rules.result.items c.easy.new.rules.items (sequent_of c.args.sequent.now) c.if-not-branch.false c.new-rules.ensures.items c.in_ok-easy.ensures.told
