use Rattle.std.proofs.Common.{◌≡◌, List, sym, ◌∙◌, ap, subst}
use Rattle.std.specs.Option.{option_map}
use Rattle.std.specs.Prelude.{◌&&◌}
use Rattle.bk_raw.specs.Meaning.Binders.{all_typed, as_bound, is_some_name, where_typed, if_holding}
use Rattle.bk_raw.specs.Errors.Blame.{blame}
use Rattle.bk_elab_terms.specs.Shown.{told}
use Rattle.bk_elab_terms.specs.Sights.{ranges_as, AreTaken}
use Rattle.bk_elab_terms.specs.declared.binder.Ranged.{Ranged as RangedName}
use Rattle.bk_elab_terms.proofs.Closing.{clean-some, typed-none, holding-none, taken-none, set_told, comprehension_faults, comprehended-silent}
use Rattle.bk_elab_terms.proofs.binder.comprehended.Goals as goal

pub returns-then-is_some : goal.returns-then-is_some
returns-then-is_some c = λ fs p same read.
    let all : told c.binder_fault-all.result ≡ blame (comprehension_faults c.args.at fs (ranges_as c.args.names.items) p) =
    subst (λ (ns : List RangedName). told c.binder_fault-all.result ≡ blame (comprehension_faults c.args.at fs (ranges_as ns) p)) c.as_slice-listed.ensures.value (c.binder_fault-all.ensures fs p.faults same read.fault) in
    comprehended-silent c.args.at fs (ranges_as c.args.names.items) p c.silent.result c.silent.ensures.outcome
    (clean-some c.args.fault fs (where_typed (is_some_name (ranges_as c.args.names.items) && all_typed (as_bound (ranges_as c.args.names.items))) (if_holding (set_told (ranges_as c.args.names.items)) p.outcome)) (sym c.is_some.ensures ∙ c.if-is_some.true) same)
    (ap told c.silent.ensures.fault ∙ all)

pub returns-in_default : goal.returns-in_default
returns-in_default c = λ fs p same read.
    let all : told c.binder_fault-all.result ≡ blame (comprehension_faults c.args.at fs (ranges_as c.args.names.items) p) =
    subst (λ (ns : List RangedName). told c.binder_fault-all.result ≡ blame (comprehension_faults c.args.at fs (ranges_as ns) p)) c.as_slice-listed.ensures.value (c.binder_fault-all.ensures fs p.faults same read.fault) in
    comprehended-silent c.args.at fs (ranges_as c.args.names.items) p c.silent-in_default.result c.silent-in_default.ensures.outcome
    (typed-none fs (is_some_name (ranges_as c.args.names.items) && all_typed (as_bound (ranges_as c.args.names.items))) (if_holding (set_told (ranges_as c.args.names.items)) p.outcome)
    (taken-none _ c.in_ok-ranges.field-0 (ranges_as c.args.names.items) c.in_default.is (subst (λ (ns : List RangedName). AreTaken (option_map (λ q. (q.0.items, q.1)) c.in_ok-ranges.field-0) (ranges_as ns)) c.as_slice-listed.ensures.value c.in_ok-ranges.ensures)))
    (ap told c.silent-in_default.ensures.fault ∙ all)

pub returns-in_default-predicate : goal.returns-in_default-predicate
returns-in_default-predicate c = λ fs p same read.
    let all : told c.binder_fault-all.result ≡ blame (comprehension_faults c.args.at fs (ranges_as c.args.names.items) p) =
    subst (λ (ns : List RangedName). told c.binder_fault-all.result ≡ blame (comprehension_faults c.args.at fs (ranges_as ns) p)) c.as_slice-listed.ensures.value (c.binder_fault-all.ensures fs p.faults same read.fault) in
    comprehended-silent c.args.at fs (ranges_as c.args.names.items) p c.silent-in_default-predicate.result c.silent-in_default-predicate.ensures.outcome
    (holding-none fs (is_some_name (ranges_as c.args.names.items) && all_typed (as_bound (ranges_as c.args.names.items))) (set_told (ranges_as c.args.names.items)) p.outcome (λ f e. c.in_default-predicate.ensures f (read.outcome ∙ e)))
    (ap told c.silent-in_default-predicate.ensures.fault ∙ all)
