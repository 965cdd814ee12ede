use Rattle.std.proofs.Common.{◌∙◌, ap, ℕ, ◌+◌, List, [], ◌++◌, Bool, cond, drop}
use Rattle.bk_raw.specs.declared.term.RawName.{RawName}
use Rattle.bk_raw.specs.Meaning.Binders.{has_type}
use Rattle.bk_raw.specs.Meaning.Outcome.{no_type}
use Rattle.bk_raw.specs.Errors.Blame.{blame}
use Rattle.bk_elab_terms.specs.Shown.{told}
use Rattle.bk_elab_terms.specs.Visible.{typing_of}
use Rattle.bk_statics.specs.SubFaults.{declared_faults}
use Rattle.bk_scope.proofs.FaultSteps.{told-next-at, suc-on}
use Rattle.bk_check_subs.proofs.judging.declared_fault.Goals as goal

pub loop-index-preserved : goal.loop-index-preserved
loop-index-preserved c =
    let t = typing_of c.args.typing.types.now in
    let i : ℕ = c.loop-index.index in
    let x : RawName = c.index-names-index.result in
    let xs : List RawName = drop (i + 1) c.args.names.now in
    told-next-at (λ (k : ℕ) (l : List RawName). declared_faults t (c.args.first + k) l) (cond (has_type (t (c.args.first + i))) [] (no_type x.at)) c.args.names.now i x (told c.loop-index.fault) (told c.no_type_unless.result) (told c.earlier-fault.result) _
    (ap (λ (m : ℕ). cond (has_type (t (c.args.first + i))) [] (no_type x.at) ++ declared_faults t m xs) (suc-on c.args.first i)) c.loop-index-test.true c.index-names-index.is
    (c.no_type_unless.ensures ∙ ap (λ (b : Bool). blame (cond b [] (no_type x.at))) (c.has-has_type.ensures ∙ ap (λ (n : ℕ). has_type (t n)) c.in_ok-ahead.ensures)) c.earlier-fault.ensures c.loop-index.invariant
