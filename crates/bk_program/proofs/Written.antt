-- A front of what is left to write is a front of what is answered.
use Rattle.std.proofs.Common.{◌≡◌, ℕ, List, map, Option, inl, inr, sym, ◌∙◌, subst}
use Rattle.bk_io.specs.Files.{Files}
use Rattle.bk_io.specs.Pieces.{WroteFront}
use Rattle.bk_code.proofs.Sessions.{some_session}
use Rattle.bk_calls.specs.Script.{request_of}
use Rattle.bk_calls.specs.Transcript.{transcript}
use Rattle.bk_cli.specs.Tasks.{Task, Asks}
use Rattle.bk_po.specs.Shown.{named_sequent}
use Rattle.bk_report.specs.Obligations.{obligations_text}
use Rattle.bk_verbs.specs.declared.status.Status.{Status}
use Rattle.bk_verbs.specs.declared.status.Status.TheVariants.{Done}
use Rattle.bk_verbs.specs.declared.work.Work.{Work}
use Rattle.bk_verbs.specs.declared.work.Work.TheVariants.{Text, Ended, Obligations, Play}
use Rattle.bk_verbs.specs.Session.{session_status}
use Rattle.bk_verbs.specs.Prepared.{IsPrepared, CanBePlayed, WritesFront}
use Rattle.bk_verbs.specs.Work.{IsWork}
use Rattle.bk_program.specs.Answer.{IsAnswer, HasFound, WroteFrontOfAnswer}
use Rattle.bk_program.proofs.OneAnswer.{one_answer, answer_of_work}

module _ (files : Files) (words : List (List ℕ)) (task : Task) (asks : Asks words task) (status : Status) (text : List ℕ) (answer : IsAnswer files words status text) (sole : HasFound words status → ⊥) (old new : Option (List ℕ)) where
  -- the text that the task gives is that of the answer
  one_text : (given : Status) (bytes : List ℕ) → IsWork files task given bytes → bytes ≡ text
  one_text given bytes w =
      let e = one_answer files words given status bytes text (answer_of_work files words task given bytes asks w) answer in
      e.1 (λ f. sole (f.0, sym e.0 ∙ f.1))

  pub front_of_answer : (work : Work) → IsPrepared files task work → CanBePlayed work → WritesFront work old new → WroteFront text old new
  front_of_answer (Text bytes) p can front = subst (λ x. WroteFront x old new) (one_text Done bytes.items p) front
  front_of_answer (Ended bytes ended) p can front = subst (λ x. WroteFront x old new) (one_text ended bytes.items p) front
  front_of_answer (Obligations list table) p can front = subst (λ x. WroteFront x old new) (one_text Done (obligations_text table (map named_sequent list.items)) p) front
  front_of_answer (Play player calls fuel) p can front =
      let some = some_session player.image can.checked.depths fuel (map request_of calls.items) can.checked.numbered can.checked.fitting can.asked in
      let played = transcript player.image fuel (map request_of calls.items) some.0 in
      subst (λ x. WroteFront x old new) (one_text (session_status some.0) played (p some.0 some.1)) (front some.0 some.1)

-- and it is a front of some answer, whatever is asked for
module _ (files : Files) (words : List (List ℕ)) (task : Task) (asks : Asks words task) (old new : Option (List ℕ)) where
  pub front_of_work : (work : Work) → IsPrepared files task work → CanBePlayed work → WritesFront work old new → WroteFrontOfAnswer files words old new
  front_of_work (Text bytes) p can front = inr (Done, bytes.items, answer_of_work files words task Done bytes.items asks p, front)
  front_of_work (Ended bytes ended) p can front = inr (ended, bytes.items, answer_of_work files words task ended bytes.items asks p, front)
  front_of_work (Obligations list table) p can front =
      let shown = obligations_text table (map named_sequent list.items) in
      inr (Done, shown, answer_of_work files words task Done shown asks p, front)
  front_of_work (Play player calls fuel) p can front =
      let some = some_session player.image can.checked.depths fuel (map request_of calls.items) can.checked.numbered can.checked.fitting can.asked in
      let played = transcript player.image fuel (map request_of calls.items) some.0 in
      inr (session_status some.0, played, answer_of_work files words task (session_status some.0) played asks (p some.0 some.1), front some.0 some.1)
