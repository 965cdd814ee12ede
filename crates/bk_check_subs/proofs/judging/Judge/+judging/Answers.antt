use Rattle.std.proofs.Common.{◌≡◌, ◌∙◌, ◌+◌, ap, ℕ, List, [], length, refl}
use Rattle.std.proofs.lemmas.List.{take_rest}
use Rattle.std.specs.Option.{option_copied}
use Rattle.bk_form.specs.Role.{bind}
use Rattle.bk_raw.specs.Meaning.Binders.{twice}
use Rattle.bk_raw.specs.Errors.Blame.{blame}
use Rattle.bk_elab_terms.specs.Shown.{told}
use Rattle.bk_elab_terms.specs.Visible.{visible_names}
use Rattle.bk_statics.specs.Binders.{binder_count}
use Rattle.bk_statics.specs.Typings.{numbered}
use Rattle.bk_statics.specs.SubFaults.{declared_faults, sub_faults, shared_faults, writable_within, written_in}
use Rattle.bk_gsl.specs.State.{firsts}
use Rattle.bk_scope.proofs.FaultSteps.{told-three, told-four}
use Rattle.bk_check_subs.specs.declared.judging.Judge.{Judge}
use Rattle.bk_check_subs.specs.declared.left.Interval.{Interval}
use Rattle.bk_check_subs.specs.Judged.{typing_by, names_by, faults_by, stated_by}
use Rattle.bk_check_subs.specs.Written.{writable_by}
use Rattle.bk_check_subs.proofs.FaultJudged.{inner-meant, stated-inside, shared-told, writes-alone, behind, moved, branches-told, choices-told}
use Rattle.bk_check_subs.proofs.judging.Judge.+judging.Goals as goal

pub binder-returns : goal.binder-returns
binder-returns t c =
    let j = c.args.self.now in
    let xs = c.args.names.now in
    let s = c.args.body.now in
    let writable : ℕ → _ = writable_by j.writable.now in
    let names : visible_names c.deref.result.now ≡ bind (numbered j.first xs) (names_by j) = ap visible_names c.deref.ensures.value ∙ c.in_ok-inside.ensures in
    let inner : Judge = record { typing = j.typing; above = j.above; names = c.deref.result; writable = c.deref-2.result; first = c.in_ok-ahead.field-0 } in
    told-four (twice [] xs) (declared_faults (typing_by j) j.first xs) (stated_by j (bind (numbered j.first xs) (names_by j)) (option_copied c.args.predicate))
    (sub_faults j.typing.max (typing_by j) (visible_names j.above.now) (bind (numbered j.first xs) (names_by j)) (writable_within j.first (length xs) writable) (j.first + length xs) s)
    (told c.twice.result) (told c.in_ok-declared.declared) (told c.in_ok-condition.condition) (told c.in_ok-stated.stated) (told c.earlier-within.result) (told c.earlier-bound.result) (told c.earlier.result) c.twice.ensures c.in_ok-declared.ensures
    (stated-inside inner j (bind (numbered j.first xs) (names_by j)) (option_copied c.args.predicate) (told c.in_ok-condition.condition) refl refl names c.in_ok-condition.ensures)
    (c.in_ok-stated.ensures
    ∙ ap blame (inner-meant j.typing.max (typing_by j) (visible_names j.above.now) (names_by j) (visible_names c.deref.result.now) writable (writable_by c.deref-2.result.now) j.first c.in_ok-ahead.field-0 xs s names
    (λ k. ap (λ (l : List Interval). writable_by l k) c.deref-2.ensures.value ∙ c.in_ok-writable.ensures k) c.in_ok-ahead.ensures))
    c.earlier-within.ensures c.earlier-bound.ensures c.earlier.ensures

pub branches-returns : goal.branches-returns
branches-returns t c =
    branches-told c.args.self.now c.in_ok-behind.behind c.args.branches.now _ (option_copied c.args.last) c.branch-item.result c.in_ok-binder_count.field-0 (told c.in_ok-fault.fault) (told c.in_ok-yes.yes) (told c.in_ok-rest.rest) (told c.earlier-within.result) (told c.earlier.result)
    c.in-len1-up.len_at_least c.branch-item.is (take_rest c.args.branches.now 1) c.in_ok-fault.ensures c.in_ok-yes.ensures c.in_ok-binder_count.ensures c.in_ok-behind.ensures c.in_ok-rest.ensures c.earlier-within.ensures c.earlier.ensures

pub choices-returns : goal.choices-returns
choices-returns t c =
    choices-told c.args.self.now c.in_ok-behind.behind c.args.choices.now _ c.choice-item.result c.in_ok-binder_count.field-0 (told c.in_ok-fault.fault) (told c.in_ok-rest.rest) (told c.earlier.result)
    c.in-len1-up.len_at_least c.choice-item.is (take_rest c.args.choices.now 1) c.in_ok-fault.ensures c.in_ok-binder_count.ensures c.in_ok-behind.ensures c.in_ok-rest.ensures c.earlier.ensures

pub parallel-returns : goal.parallel-returns
parallel-returns t c =
    let j = c.args.self.now in
    let p = c.args.left.now in
    let q = c.args.right.now in
    let names = names_by j in
    let one = written_in names j.first p in
    let other = written_in names (j.first + binder_count p) q in
    let first : c.in_ok-behind.behind.first ≡ j.first + binder_count p = moved (λ (i : Judge). i.first) j c.in_ok-behind.behind c.in_ok-binder_count.field-0 (binder_count p) c.in_ok-behind.ensures c.in_ok-binder_count.ensures in
    told-three (faults_by j p) (faults_by (behind j (binder_count p)) q) (shared_faults (firsts one) other) (told c.in_ok-fault.fault) (told c.in_ok-other.other) (told c.shared_fault-shared.result) (told c.earlier-right.result) (told c.earlier.result) c.in_ok-fault.ensures
    (c.in_ok-other.ensures ∙ moved (λ (i : Judge). blame (faults_by i q)) j c.in_ok-behind.behind c.in_ok-binder_count.field-0 (binder_count p) c.in_ok-behind.ensures c.in_ok-binder_count.ensures)
    (shared-told c.deref.result.now c.deref-2.result.now one other (told c.shared_fault-shared.result) (writes-alone c.new-one_side.result.items c.push_writes.new.found.items c.deref.result.now one c.new-one_side.ensures.items c.deref.ensures.value c.in_ok-push_writes.ensures)
    (writes-alone c.new-other_side.result.items c.push_writes-2.new.found.items c.deref-2.result.now (written_in names c.in_ok-behind.behind.first q) c.new-other_side.ensures.items c.deref-2.ensures.value c.in_ok-push_writes-2.ensures ∙ ap (λ (n : ℕ). written_in names n q) first)
    c.shared_fault-shared.ensures)
    c.earlier-right.ensures c.earlier.ensures
