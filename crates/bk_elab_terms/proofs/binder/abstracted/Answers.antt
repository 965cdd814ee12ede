use Rattle.std.proofs.Common.{◌≡◌, List, ◌++◌, sym, ◌∙◌, ap, subst}
use Rattle.std.specs.Option.{option_map}
use Rattle.std.specs.Prelude.{◌&&◌}
use Rattle.bk_raw.specs.Meaning.Binders.{all_typed, as_bound, is_some_name, where_typed, if_holding, if_giving}
use Rattle.bk_raw.specs.Meaning.Outcome.{Outcome, ask_value}
use Rattle.bk_raw.specs.Errors.Blame.{blame}
use Rattle.bk_elab_terms.specs.Shown.{told, IsAsked}
use Rattle.bk_elab_terms.specs.Sights.{ranges_as, AreTaken}
use Rattle.bk_elab_terms.specs.declared.binder.Ranged.{Ranged as RangedName}
use Rattle.bk_elab_terms.proofs.Closing.{two-told, clean-some, typed-none, holding-none, giving-none, taken-none, function_told, lambda_faults, abstracted-silent}
use Rattle.bk_elab_terms.proofs.binder.abstracted.Goals as goal

pub returns-then-is_some : goal.returns-then-is_some
returns-then-is_some c = λ fs p q same read value.
    let asked : IsAsked c.ask_value-asked.result.answer c.ask_value-asked.result.fault (ask_value c.args.value.0 q.outcome) = subst (λ (o : Outcome). IsAsked c.ask_value-asked.result.answer c.ask_value-asked.result.fault (ask_value c.args.value.0 o)) value.outcome c.ask_value-asked.ensures in
    let outer : told c.earlier-outer.result ≡ blame (q.faults ++ (ask_value c.args.value.0 q.outcome).faults) = two-told (told c.args.value.1.fault) (told c.ask_value-asked.result.fault) (told c.earlier-outer.result) q.faults (ask_value c.args.value.0 q.outcome).faults value.fault asked.first c.earlier-outer.ensures in
    let parts : told c.earlier-parts.result ≡ blame (p.faults ++ (q.faults ++ (ask_value c.args.value.0 q.outcome).faults)) = two-told (told c.args.body.fault) (told c.earlier-outer.result) (told c.earlier-parts.result) p.faults (q.faults ++ (ask_value c.args.value.0 q.outcome).faults) read.fault outer c.earlier-parts.ensures in
    let all : told c.binder_fault-all.result ≡ blame (lambda_faults c.args.at fs (ranges_as c.args.names.items) p c.args.value.0 q) =
    subst (λ (ns : List RangedName). told c.binder_fault-all.result ≡ blame (lambda_faults c.args.at fs (ranges_as ns) p c.args.value.0 q)) c.as_slice-listed.ensures.value (c.binder_fault-all.ensures fs (p.faults ++ (q.faults ++ (ask_value c.args.value.0 q.outcome).faults)) same parts) in
    abstracted-silent c.args.at fs (ranges_as c.args.names.items) p q c.args.value.0 c.silent.result c.silent.ensures.outcome
    (clean-some c.args.fault fs (where_typed (is_some_name (ranges_as c.args.names.items) && all_typed (as_bound (ranges_as c.args.names.items))) (if_holding (λ g. if_giving (function_told (ranges_as c.args.names.items) g) (ask_value c.args.value.0 q.outcome).answer) p.outcome)) (sym c.is_some.ensures ∙ c.if-is_some.true) same)
    (ap told c.silent.ensures.fault ∙ all)

pub returns-in_default : goal.returns-in_default
returns-in_default c = λ fs p q same read value.
    let asked : IsAsked c.ask_value-asked.result.answer c.ask_value-asked.result.fault (ask_value c.args.value.0 q.outcome) = subst (λ (o : Outcome). IsAsked c.ask_value-asked.result.answer c.ask_value-asked.result.fault (ask_value c.args.value.0 o)) value.outcome c.ask_value-asked.ensures in
    let outer : told c.earlier-outer.result ≡ blame (q.faults ++ (ask_value c.args.value.0 q.outcome).faults) = two-told (told c.args.value.1.fault) (told c.ask_value-asked.result.fault) (told c.earlier-outer.result) q.faults (ask_value c.args.value.0 q.outcome).faults value.fault asked.first c.earlier-outer.ensures in
    let parts : told c.earlier-parts.result ≡ blame (p.faults ++ (q.faults ++ (ask_value c.args.value.0 q.outcome).faults)) = two-told (told c.args.body.fault) (told c.earlier-outer.result) (told c.earlier-parts.result) p.faults (q.faults ++ (ask_value c.args.value.0 q.outcome).faults) read.fault outer c.earlier-parts.ensures in
    let all : told c.binder_fault-all.result ≡ blame (lambda_faults c.args.at fs (ranges_as c.args.names.items) p c.args.value.0 q) =
    subst (λ (ns : List RangedName). told c.binder_fault-all.result ≡ blame (lambda_faults c.args.at fs (ranges_as ns) p c.args.value.0 q)) c.as_slice-listed.ensures.value (c.binder_fault-all.ensures fs (p.faults ++ (q.faults ++ (ask_value c.args.value.0 q.outcome).faults)) same parts) in
    abstracted-silent c.args.at fs (ranges_as c.args.names.items) p q c.args.value.0 c.silent-in_default.result c.silent-in_default.ensures.outcome
    (typed-none fs (is_some_name (ranges_as c.args.names.items) && all_typed (as_bound (ranges_as c.args.names.items))) (if_holding (λ g. if_giving (function_told (ranges_as c.args.names.items) g) (ask_value c.args.value.0 q.outcome).answer) p.outcome)
    (taken-none _ c.in_ok-ranges.field-0 (ranges_as c.args.names.items) c.in_default.is (subst (λ (ns : List RangedName). AreTaken (option_map (λ q. (q.0.items, q.1)) c.in_ok-ranges.field-0) (ranges_as ns)) c.as_slice-listed.ensures.value c.in_ok-ranges.ensures)))
    (ap told c.silent-in_default.ensures.fault ∙ all)

pub returns-in_default-predicate : goal.returns-in_default-predicate
returns-in_default-predicate c = λ fs p q same read value.
    let asked : IsAsked c.ask_value-asked.result.answer c.ask_value-asked.result.fault (ask_value c.args.value.0 q.outcome) = subst (λ (o : Outcome). IsAsked c.ask_value-asked.result.answer c.ask_value-asked.result.fault (ask_value c.args.value.0 o)) value.outcome c.ask_value-asked.ensures in
    let outer : told c.earlier-outer.result ≡ blame (q.faults ++ (ask_value c.args.value.0 q.outcome).faults) = two-told (told c.args.value.1.fault) (told c.ask_value-asked.result.fault) (told c.earlier-outer.result) q.faults (ask_value c.args.value.0 q.outcome).faults value.fault asked.first c.earlier-outer.ensures in
    let parts : told c.earlier-parts.result ≡ blame (p.faults ++ (q.faults ++ (ask_value c.args.value.0 q.outcome).faults)) = two-told (told c.args.body.fault) (told c.earlier-outer.result) (told c.earlier-parts.result) p.faults (q.faults ++ (ask_value c.args.value.0 q.outcome).faults) read.fault outer c.earlier-parts.ensures in
    let all : told c.binder_fault-all.result ≡ blame (lambda_faults c.args.at fs (ranges_as c.args.names.items) p c.args.value.0 q) =
    subst (λ (ns : List RangedName). told c.binder_fault-all.result ≡ blame (lambda_faults c.args.at fs (ranges_as ns) p c.args.value.0 q)) c.as_slice-listed.ensures.value (c.binder_fault-all.ensures fs (p.faults ++ (q.faults ++ (ask_value c.args.value.0 q.outcome).faults)) same parts) in
    abstracted-silent c.args.at fs (ranges_as c.args.names.items) p q c.args.value.0 c.silent-in_default-predicate.result c.silent-in_default-predicate.ensures.outcome
    (holding-none fs (is_some_name (ranges_as c.args.names.items) && all_typed (as_bound (ranges_as c.args.names.items))) (λ g. if_giving (function_told (ranges_as c.args.names.items) g) (ask_value c.args.value.0 q.outcome).answer) p.outcome (λ f e. c.in_default-predicate.ensures f (read.outcome ∙ e)))
    (ap told c.silent-in_default-predicate.ensures.fault ∙ all)

pub returns-in_default-answer : goal.returns-in_default-answer
returns-in_default-answer c = λ fs p q same read value.
    let asked : IsAsked c.ask_value-asked.result.answer c.ask_value-asked.result.fault (ask_value c.args.value.0 q.outcome) = subst (λ (o : Outcome). IsAsked c.ask_value-asked.result.answer c.ask_value-asked.result.fault (ask_value c.args.value.0 o)) value.outcome c.ask_value-asked.ensures in
    let outer : told c.earlier-outer.result ≡ blame (q.faults ++ (ask_value c.args.value.0 q.outcome).faults) = two-told (told c.args.value.1.fault) (told c.ask_value-asked.result.fault) (told c.earlier-outer.result) q.faults (ask_value c.args.value.0 q.outcome).faults value.fault asked.first c.earlier-outer.ensures in
    let parts : told c.earlier-parts.result ≡ blame (p.faults ++ (q.faults ++ (ask_value c.args.value.0 q.outcome).faults)) = two-told (told c.args.body.fault) (told c.earlier-outer.result) (told c.earlier-parts.result) p.faults (q.faults ++ (ask_value c.args.value.0 q.outcome).faults) read.fault outer c.earlier-parts.ensures in
    let all : told c.binder_fault-all.result ≡ blame (lambda_faults c.args.at fs (ranges_as c.args.names.items) p c.args.value.0 q) =
    subst (λ (ns : List RangedName). told c.binder_fault-all.result ≡ blame (lambda_faults c.args.at fs (ranges_as ns) p c.args.value.0 q)) c.as_slice-listed.ensures.value (c.binder_fault-all.ensures fs (p.faults ++ (q.faults ++ (ask_value c.args.value.0 q.outcome).faults)) same parts) in
    abstracted-silent c.args.at fs (ranges_as c.args.names.items) p q c.args.value.0 c.silent-in_default-answer.result c.silent-in_default-answer.ensures.outcome
    (giving-none fs (is_some_name (ranges_as c.args.names.items) && all_typed (as_bound (ranges_as c.args.names.items))) (function_told (ranges_as c.args.names.items)) (ask_value c.args.value.0 q.outcome).answer p.outcome (sym asked.same ∙ c.in_default-answer.is))
    (ap told c.silent-in_default-answer.ensures.fault ∙ all)
