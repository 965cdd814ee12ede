use Rattle.std.proofs.Common.{◌≡◌, ◌⊎◌, inl, inr, ℕ, List, Some, Result, Ok, Err, IfOk, IfErr, IsErrAnd, map, refl, sym, subst, arith, Global}
use Rattle.std.specs.Prelude.{string_bytes}
use Rattle.bk_cli.specs.declared.words.WordsFault.{WordsFault}
use Rattle.bk_cli.specs.declared.words.WordsFault.TheVariants.{Refused, Memory}
use Rattle.bk_io.specs.Counts.{HasCause}
use Rattle.bk_io.specs.Files.{Files}
use Rattle.bk_verbs.specs.Causes.{IsOfReading, stop_of_words}
use Rattle.bk_verbs.specs.Stops.{IsOutside}
use Rattle.bk_verbs.specs.declared.stop.Stop.{Stop}
use Rattle.bk_verbs.specs.declared.stop.Stop.TheVariants.{Usage, ReadFault}
use Rattle.bk_verbs.proofs.Stopping.{handed_on, widen}
use Rattle.bk_proof_words.specs.Tasks.{AskForNothing}
use Rattle.bk_proof_program.specs.Said.{IsToldAnswer, StopsAnswer, StopsWords}
use Rattle.bk_proof_program.specs.declared.answer.Answer.{Answer}
use Rattle.bk_proof_program.proofs.program.answer_to.Goals as goal

-- words that ask for nothing, or want of memory to read them
words_stop : (fault : WordsFault) (files : Files) (words : List (List ℕ)) → (fault ≡ Refused → AskForNothing words) → IsOutside (stop_of_words fault) ⊎ StopsWords files words (stop_of_words fault)
words_stop Refused files words h = inr (inl (refl, h refl))
words_stop Memory files words h = inl tt

words_err : (fault : WordsFault) → IsOfReading (stop_of_words fault) ⊎ (stop_of_words fault ≡ Usage)
words_err Refused = inr refl
words_err Memory = inl tt

-- words are no fault of a device
words_are_read : (fault : WordsFault) → stop_of_words fault ≡ ReadFault → ⊥
words_are_read Refused e = cc
words_are_read Memory e = cc

words_failed : (result : Result Answer Stop) (fault : WordsFault) (count : ℕ) → IsErrAnd result (λ stop. stop ≡ stop_of_words fault) → HasCause ReadFault count count result
words_failed result fault count h = record {
  later = omega arith;
  rose = λ e. absurd (words_are_read fault (sym (subst (λ (r : Result Answer Stop). IsErrAnd r (λ stop. stop ≡ stop_of_words fault)) e h)));
}

-- an error with two facts has both
both_err : (result : Result Answer Stop) (P Q R : Stop → Type 0) → IfErr result P → IfErr result Q → ((stop : Stop) → P stop → Q stop → R stop) → IfErr result R
both_err (Ok a) P Q R h k f = tt
both_err (Err stop) P Q R h k f = f stop h k

each_ok : (result : Result Answer Stop) (P Q : Answer → Type 0) → IfOk result P → ((a : Answer) → P a → Q a) → IfOk result Q
each_ok (Ok a) P Q h f = f a h
each_ok (Err stop) P Q h f = tt

pub returns-in_err-task-clause-cause : goal.returns-in_err-task-clause-cause
returns-in_err-task-clause-cause g c =
    handed_on c.from_residual.result (stop_of_words c.in_err-task.field-0.0)
    (λ stop. (files : Files) → g.H.Shelf.files c.args.shelf.now ≡ Some files → IsOutside stop ⊎ StopsWords files (map (string_bytes {Z = Global}) c.args.words.now) stop)
    c.from_residual.ensures.1
    (λ files told. words_stop c.in_err-task.field-0.0 files (map (string_bytes {Z = Global}) c.args.words.now) c.in_err-task.ensures.nothing)

pub returns-clause-told : goal.returns-clause-told
returns-clause-told g c =
    each_ok c.answer_of.result (λ a. (files : Files) → g.H.Shelf.files c.args.shelf.now ≡ Some files → IsToldAnswer files c.in_ok-task.task a) _ c.answer_of.ensures.told
    (λ a h files told. (c.in_ok-task.task, c.in_ok-task.ensures.asked, h files told))

pub returns-clause-cause : goal.returns-clause-cause
returns-clause-cause g c =
    both_err c.answer_of.result (λ stop. (files : Files) → g.H.Shelf.files c.args.shelf.now ≡ Some files → IsOutside stop ⊎ StopsAnswer files c.in_ok-task.task stop) IsOfReading _ c.answer_of.ensures.cause c.answer_of.ensures.err
    (λ stop h reading files told. elim (h files told) as (λ _. IsOutside stop ⊎ StopsWords files (map (string_bytes {Z = Global}) c.args.words.now) stop) [
      | inl o ↦ inl o
      | inr s ↦ inr (inr (reading, c.in_ok-task.task, c.in_ok-task.ensures.asked, s))
    ])

pub returns-in_err-task-clause-err : goal.returns-in_err-task-clause-err
returns-in_err-task-clause-err g c =
    handed_on c.from_residual.result (stop_of_words c.in_err-task.field-0.0) (λ stop. IsOfReading stop ⊎ (stop ≡ Usage)) c.from_residual.ensures.1 (words_err c.in_err-task.field-0.0)

pub returns-in_err-task-clause-failed : goal.returns-in_err-task-clause-failed
returns-in_err-task-clause-failed g c = words_failed c.from_residual.result c.in_err-task.field-0.0 (g.H.Shelf.faults c.args.shelf.now) c.from_residual.ensures.1

pub returns-clause-err : goal.returns-clause-err
returns-clause-err g c = widen c.answer_of.result IsOfReading (λ stop. IsOfReading stop ⊎ (stop ≡ Usage)) c.answer_of.ensures.err (λ stop h. inl h)
