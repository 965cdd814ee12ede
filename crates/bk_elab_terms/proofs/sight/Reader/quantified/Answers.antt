use Rattle.std.proofs.Common.{◌≡◌, List, drop, ◌++◌, sym, ◌∙◌, ap}
use Rattle.std.proofs.lemmas.List.{take_rest}
use Rattle.bk_raw.specs.Meaning.Binders.{untyped_faults, all_typed, types_of, where_typed, if_holding}
use Rattle.bk_raw.specs.Meaning.Outcome.{holding}
use Rattle.bk_raw.specs.Errors.Blame.{blame}
use Rattle.bk_elab_terms.specs.Shown.{told}
use Rattle.bk_elab_terms.specs.Sights.{bounds_of, bounds_from, quantifier}
use Rattle.bk_elab_terms.specs.declared.outcome.Told.TheVariants.{Holding}
use Rattle.bk_elab_terms.specs.declared.sight.Local.{Local}
use Rattle.bk_elab_terms.proofs.Closing.{two-told, clean-some, typed-none, holding-none, types-none, types-some, quantified-silent, quantified-made}
use Rattle.bk_elab_terms.proofs.sight.Reader.quantified.Goals as goal

pub returns-then-is_some-clause-read : goal.returns-then-is_some-clause-read
returns-then-is_some-clause-read c = λ fs p same read.
    let missing : told c.untyped-missing.result ≡ blame (untyped_faults (bounds_from c.args.first c.args.self.now)) = c.untyped-missing.ensures ∙ (ap (λ (ls : List Local). blame (untyped_faults (bounds_of ls))) (take_rest c.deref.result.now c.args.first) ∙ ap (λ (ls : List Local). blame (untyped_faults (bounds_of (drop c.args.first ls)))) c.deref.ensures.value) in
    let within : told c.earlier-within.result ≡ blame (untyped_faults (bounds_from c.args.first c.args.self.now) ++ p.faults) = two-told (told c.untyped-missing.result) (told c.args.body.fault) (told c.earlier-within.result) (untyped_faults (bounds_from c.args.first c.args.self.now)) p.faults missing read.fault c.earlier-within.ensures in
    let all : told c.earlier-all.result ≡ blame (fs ++ (untyped_faults (bounds_from c.args.first c.args.self.now) ++ p.faults)) = two-told (told c.args.fault) (told c.earlier-within.result) (told c.earlier-all.result) fs (untyped_faults (bounds_from c.args.first c.args.self.now) ++ p.faults) same within c.earlier-all.ensures in
    quantified-silent (quantifier c.args.universal) fs (bounds_from c.args.first c.args.self.now) p c.silent.result c.silent.ensures.outcome
    (clean-some c.args.fault fs (where_typed (all_typed (bounds_from c.args.first c.args.self.now)) (if_holding (λ q. holding (quantifier c.args.universal (types_of (bounds_from c.args.first c.args.self.now)) q)) p.outcome)) (sym c.is_some.ensures ∙ c.if-is_some.true) same)
    (ap told c.silent.ensures.fault ∙ all)

pub returns-in_default-clause-read : goal.returns-in_default-clause-read
returns-in_default-clause-read c = λ fs p same read.
    let missing : told c.untyped-missing.result ≡ blame (untyped_faults (bounds_from c.args.first c.args.self.now)) = c.untyped-missing.ensures ∙ (ap (λ (ls : List Local). blame (untyped_faults (bounds_of ls))) (take_rest c.deref.result.now c.args.first) ∙ ap (λ (ls : List Local). blame (untyped_faults (bounds_of (drop c.args.first ls)))) c.deref.ensures.value) in
    let within : told c.earlier-within.result ≡ blame (untyped_faults (bounds_from c.args.first c.args.self.now) ++ p.faults) = two-told (told c.untyped-missing.result) (told c.args.body.fault) (told c.earlier-within.result) (untyped_faults (bounds_from c.args.first c.args.self.now)) p.faults missing read.fault c.earlier-within.ensures in
    let all : told c.earlier-all.result ≡ blame (fs ++ (untyped_faults (bounds_from c.args.first c.args.self.now) ++ p.faults)) = two-told (told c.args.fault) (told c.earlier-within.result) (told c.earlier-all.result) fs (untyped_faults (bounds_from c.args.first c.args.self.now) ++ p.faults) same within c.earlier-all.ensures in
    quantified-silent (quantifier c.args.universal) fs (bounds_from c.args.first c.args.self.now) p c.silent-in_default.result c.silent-in_default.ensures.outcome
    (typed-none fs (all_typed (bounds_from c.args.first c.args.self.now)) (if_holding (λ q. holding (quantifier c.args.universal (types_of (bounds_from c.args.first c.args.self.now)) q)) p.outcome) (types-none _ c.in_ok-types.types (bounds_from c.args.first c.args.self.now) c.in_default.is c.in_ok-types.ensures.types))
    (ap told c.silent-in_default.ensures.fault ∙ all)

pub returns-in_default-predicate-clause-read : goal.returns-in_default-predicate-clause-read
returns-in_default-predicate-clause-read c = λ fs p same read.
    let missing : told c.untyped-missing.result ≡ blame (untyped_faults (bounds_from c.args.first c.args.self.now)) = c.untyped-missing.ensures ∙ (ap (λ (ls : List Local). blame (untyped_faults (bounds_of ls))) (take_rest c.deref.result.now c.args.first) ∙ ap (λ (ls : List Local). blame (untyped_faults (bounds_of (drop c.args.first ls)))) c.deref.ensures.value) in
    let within : told c.earlier-within.result ≡ blame (untyped_faults (bounds_from c.args.first c.args.self.now) ++ p.faults) = two-told (told c.untyped-missing.result) (told c.args.body.fault) (told c.earlier-within.result) (untyped_faults (bounds_from c.args.first c.args.self.now)) p.faults missing read.fault c.earlier-within.ensures in
    let all : told c.earlier-all.result ≡ blame (fs ++ (untyped_faults (bounds_from c.args.first c.args.self.now) ++ p.faults)) = two-told (told c.args.fault) (told c.earlier-within.result) (told c.earlier-all.result) fs (untyped_faults (bounds_from c.args.first c.args.self.now) ++ p.faults) same within c.earlier-all.ensures in
    quantified-silent (quantifier c.args.universal) fs (bounds_from c.args.first c.args.self.now) p c.silent-in_default-predicate.result c.silent-in_default-predicate.ensures.outcome
    (holding-none fs (all_typed (bounds_from c.args.first c.args.self.now)) (λ q. holding (quantifier c.args.universal (types_of (bounds_from c.args.first c.args.self.now)) q)) p.outcome (λ f e. c.in_default-predicate.ensures f (read.outcome ∙ e)))
    (ap told c.silent-in_default-predicate.ensures.fault ∙ all)

pub returns-clause-read : goal.returns-clause-read
returns-clause-read c = λ fs p same read.
    let missing : told c.untyped-missing.result ≡ blame (untyped_faults (bounds_from c.args.first c.args.self.now)) = c.untyped-missing.ensures ∙ (ap (λ (ls : List Local). blame (untyped_faults (bounds_of ls))) (take_rest c.deref.result.now c.args.first) ∙ ap (λ (ls : List Local). blame (untyped_faults (bounds_of (drop c.args.first ls)))) c.deref.ensures.value) in
    let within : told c.earlier-within.result ≡ blame (untyped_faults (bounds_from c.args.first c.args.self.now) ++ p.faults) = two-told (told c.untyped-missing.result) (told c.args.body.fault) (told c.earlier-within.result) (untyped_faults (bounds_from c.args.first c.args.self.now)) p.faults missing read.fault c.earlier-within.ensures in
    let all : told c.earlier-all.result ≡ blame (fs ++ (untyped_faults (bounds_from c.args.first c.args.self.now) ++ p.faults)) = two-told (told c.args.fault) (told c.earlier-within.result) (told c.earlier-all.result) fs (untyped_faults (bounds_from c.args.first c.args.self.now) ++ p.faults) same within c.earlier-all.ensures in
    let made : c.in_ok-made.made ≡ quantifier c.args.universal c.in-Some.types.items c.in-Some-predicate.form = c.in_ok-made.ensures in
    quantified-made (quantifier c.args.universal) fs (bounds_from c.args.first c.args.self.now) p record { outcome = Holding c.in_ok-made.made; fault = c.earlier-all.result } c.args.fault c.in-Some.types.items c.in-Some-predicate.form (sym c.is_some.ensures ∙ c.if-is_some.false) same
    (types-some _ c.in_ok-types.types c.in-Some.types (bounds_from c.args.first c.args.self.now) c.in-Some.is c.in_ok-types.ensures.types)
    (sym c.in-Some-predicate.ensures ∙ read.outcome) (ap holding made) all
