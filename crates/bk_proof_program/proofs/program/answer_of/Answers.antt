use Rattle.std.proofs.Common.{◌≡◌, ◌⊎◌, inl, ℕ, Option, Some, Result, IfErr, sym, subst, arith}
use Rattle.std.specs.Prelude.{IfOk}
use Rattle.std.proofs.lemmas.Result.{IfOk-weaker}
use Rattle.bk_io.specs.Counts.{HasCause}
use Rattle.bk_io.specs.Files.{Files}
use Rattle.bk_verbs.specs.Causes.{IsOfReading}
use Rattle.bk_verbs.specs.Stops.{IsOutside}
use Rattle.bk_verbs.specs.declared.stop.Stop.{Stop}
use Rattle.bk_verbs.specs.declared.stop.Stop.TheVariants.{ReadFault, Memory}
use Rattle.bk_verbs.proofs.Stopping.{widen}
use Rattle.bk_proof_words.specs.declared.task.Task.{Task}
use Rattle.bk_proof_program.specs.Said.{IsToldAnswer, StopsAnswer}
use Rattle.bk_proof_program.specs.declared.answer.Answer.{Answer}
use Rattle.bk_proof_program.proofs.program.answer_of.Goals as goal

-- what is said of the task's variant is said of the task
module _ (known : Option Files) (result : Result Answer Stop) (task is : Task) (e : task ≡ is) where
  told_of : IfOk result (λ a. (files : Files) → known ≡ Some files → IsToldAnswer files is a) → IfOk result (λ a. (files : Files) → known ≡ Some files → IsToldAnswer files task a)
  told_of h = subst (λ (t : Task). IfOk result (λ a. (files : Files) → known ≡ Some files → IsToldAnswer files t a)) (sym e) h

  cause_of : IfErr result (λ stop. (files : Files) → known ≡ Some files → IsOutside stop ⊎ StopsAnswer files is stop) → IfErr result (λ stop. (files : Files) → known ≡ Some files → IsOutside stop ⊎ StopsAnswer files task stop)
  cause_of h = subst (λ (t : Task). IfErr result (λ stop. (files : Files) → known ≡ Some files → IsOutside stop ⊎ StopsAnswer files t stop)) (sym e) h

-- a text of the program's own needs memory alone
read_is_no_memory : ReadFault ≡ Memory → ⊥
read_is_no_memory e = cc

module _ (known : Option Files) (result : Result Answer Stop) (task : Task) (memory : IfErr result (λ stop. stop ≡ Memory)) where
  cause_of_text : IfErr result (λ stop. (files : Files) → known ≡ Some files → IsOutside stop ⊎ StopsAnswer files task stop)
  cause_of_text = widen result (λ stop. stop ≡ Memory) (λ stop. (files : Files) → known ≡ Some files → IsOutside stop ⊎ StopsAnswer files task stop) memory (λ stop k files told. inl (subst IsOutside (sym k) tt))

  err_of_text : IfErr result IsOfReading
  err_of_text = widen result (λ stop. stop ≡ Memory) IsOfReading memory (λ stop k. subst IsOfReading (sym k) tt)

  failed_of_text : (count : ℕ) → HasCause ReadFault count count result
  failed_of_text count = record { later = omega arith; rose = λ e. absurd (read_is_no_memory (subst (λ (r : Result Answer Stop). IfErr r (λ stop. stop ≡ Memory)) e memory)) }

pub returns-in-Goal-clause-told : goal.returns-in-Goal-clause-told
returns-in-Goal-clause-told g c = told_of (g.H.Shelf.files c.args.shelf.now) c.goal_answer.result c.args.task _ c.in-Goal.is c.goal_answer.ensures.told

pub returns-in-Goal-clause-cause : goal.returns-in-Goal-clause-cause
returns-in-Goal-clause-cause g c = cause_of (g.H.Shelf.files c.args.shelf.now) c.goal_answer.result c.args.task _ c.in-Goal.is c.goal_answer.ensures.cause

pub returns-in-List-clause-told : goal.returns-in-List-clause-told
returns-in-List-clause-told g c = told_of (g.H.Shelf.files c.args.shelf.now) c.list_answer.result c.args.task _ c.in-List.is c.list_answer.ensures.told

pub returns-in-List-clause-cause : goal.returns-in-List-clause-cause
returns-in-List-clause-cause g c = cause_of (g.H.Shelf.files c.args.shelf.now) c.list_answer.result c.args.task _ c.in-List.is c.list_answer.ensures.cause

pub returns-in-Explain-clause-told : goal.returns-in-Explain-clause-told
returns-in-Explain-clause-told g c = told_of (g.H.Shelf.files c.args.shelf.now) c.explain_answer.result c.args.task _ c.in-Explain.is c.explain_answer.ensures.told

pub returns-in-Explain-clause-cause : goal.returns-in-Explain-clause-cause
returns-in-Explain-clause-cause g c =
    widen c.explain_answer.result IsOutside (λ stop. (files : Files) → g.H.Shelf.files c.args.shelf.now ≡ Some files → IsOutside stop ⊎ StopsAnswer files c.args.task stop) c.explain_answer.ensures.outside (λ stop o files told. inl o)

pub returns-in-Prune-clause-told : goal.returns-in-Prune-clause-told
returns-in-Prune-clause-told g c = told_of (g.H.Shelf.files c.args.shelf.now) c.prune_answer.result c.args.task _ c.in-Prune.is c.prune_answer.ensures.told

pub returns-in-Prune-clause-cause : goal.returns-in-Prune-clause-cause
returns-in-Prune-clause-cause g c = cause_of (g.H.Shelf.files c.args.shelf.now) c.prune_answer.result c.args.task _ c.in-Prune.is c.prune_answer.ensures.cause

pub returns-in-Report-clause-told : goal.returns-in-Report-clause-told
returns-in-Report-clause-told g c = told_of (g.H.Shelf.files c.args.shelf.now) c.report_answer.result c.args.task _ c.in-Report.is c.report_answer.ensures.told

pub returns-in-Report-clause-cause : goal.returns-in-Report-clause-cause
returns-in-Report-clause-cause g c = cause_of (g.H.Shelf.files c.args.shelf.now) c.report_answer.result c.args.task _ c.in-Report.is c.report_answer.ensures.cause

pub returns-in-Help-clause-told : goal.returns-in-Help-clause-told
returns-in-Help-clause-told g c =
    told_of (g.H.Shelf.files c.args.shelf.now) c.help_answer.result c.args.task _ c.in-Help.is (IfOk-weaker c.help_answer.result _ _ (λ a h files told. h files) c.help_answer.ensures.told)

pub returns-in-Help-clause-cause : goal.returns-in-Help-clause-cause
returns-in-Help-clause-cause g c = cause_of_text (g.H.Shelf.files c.args.shelf.now) c.help_answer.result c.args.task c.help_answer.ensures.memory

pub returns-in-Help-clause-err : goal.returns-in-Help-clause-err
returns-in-Help-clause-err g c = err_of_text (g.H.Shelf.files c.args.shelf.now) c.help_answer.result c.args.task c.help_answer.ensures.memory

pub returns-in-Help-clause-failed : goal.returns-in-Help-clause-failed
returns-in-Help-clause-failed g c = failed_of_text (g.H.Shelf.files c.args.shelf.now) c.help_answer.result c.args.task c.help_answer.ensures.memory (g.H.Shelf.faults c.args.shelf.now)

pub returns-in-ManPage-clause-told : goal.returns-in-ManPage-clause-told
returns-in-ManPage-clause-told g c =
    told_of (g.H.Shelf.files c.args.shelf.now) c.man_answer.result c.args.task _ c.in-ManPage.is (IfOk-weaker c.man_answer.result _ _ (λ a h files told. h files) c.man_answer.ensures.told)

pub returns-in-ManPage-clause-cause : goal.returns-in-ManPage-clause-cause
returns-in-ManPage-clause-cause g c = cause_of_text (g.H.Shelf.files c.args.shelf.now) c.man_answer.result c.args.task c.man_answer.ensures.memory

pub returns-in-ManPage-clause-err : goal.returns-in-ManPage-clause-err
returns-in-ManPage-clause-err g c = err_of_text (g.H.Shelf.files c.args.shelf.now) c.man_answer.result c.args.task c.man_answer.ensures.memory

pub returns-in-ManPage-clause-failed : goal.returns-in-ManPage-clause-failed
returns-in-ManPage-clause-failed g c = failed_of_text (g.H.Shelf.files c.args.shelf.now) c.man_answer.result c.args.task c.man_answer.ensures.memory (g.H.Shelf.faults c.args.shelf.now)
