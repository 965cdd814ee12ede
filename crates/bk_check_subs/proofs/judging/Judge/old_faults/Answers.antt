use Rattle.std.proofs.Common.{◌∙◌, ap, ℕ, ◌+◌, List, [], ◌++◌, cond, drop}
use Rattle.bk_raw.specs.declared.term.RawName.{RawName}
use Rattle.bk_raw.specs.Meaning.Outcome.{no_type}
use Rattle.bk_raw.specs.Errors.Blame.{blame}
use Rattle.bk_elab_terms.specs.Shown.{told}
use Rattle.bk_statics.specs.Typings.{target, type_at}
use Rattle.bk_statics.specs.SubFaults.{is_same_option, old_faults}
use Rattle.bk_check_subs.specs.Judged.{typing_by, names_by}
use Rattle.bk_scope.proofs.FaultSteps.{told-next-at, suc-on}
use Rattle.bk_check_subs.proofs.judging.Judge.old_faults.Goals as goal

pub loop-index-preserved : goal.loop-index-preserved
loop-index-preserved c =
    let j = c.args.self.now in
    let i : ℕ = c.loop-index.index in
    let x : RawName = c.index-names-index.result in
    let xs : List RawName = drop (i + 1) c.args.names.now in
    let own = type_at (typing_by j) (target (names_by j) x.text) in
    told-next-at (λ (k : ℕ) (l : List RawName). old_faults (typing_by j) (names_by j) (j.first + k) l) (cond (is_same_option own (typing_by j (j.first + i))) [] (no_type x.at)) c.args.names.now i x (told c.loop-index.fault) (told c.in_ok-old_fault.field-0) (told c.earlier-fault.result) _
    (ap (λ (m : ℕ). cond (is_same_option own (typing_by j (j.first + i))) [] (no_type x.at) ++ old_faults (typing_by j) (names_by j) m xs) (suc-on j.first i)) c.loop-index-test.true c.index-names-index.is
    (c.in_ok-old_fault.ensures ∙ ap (λ (n : ℕ). blame (cond (is_same_option own (typing_by j n)) [] (no_type x.at))) c.in_ok-number.ensures) c.earlier-fault.ensures c.loop-index.invariant
