use Rattle.std.proofs.Common.{◌≡◌, ℕ, List, ◌⊎◌, inl, inr, map, Global, Some, refl, subst, arith}
use Rattle.std.specs.Prelude.{string_bytes}
use Rattle.bk_io.specs.Files.{Files}
use Rattle.bk_io.specs.Pieces.{WroteFront}
use Rattle.bk_cli.specs.Tasks.{AskForNothing}
use Rattle.bk_cli.specs.Asked.{task_of}
use Rattle.bk_cli.proofs.Asking.{ask_for_one}
use Rattle.bk_verbs.specs.declared.status.Status.{Status}
use Rattle.bk_verbs.specs.declared.stop.Stop.TheVariants.{Usage, Memory}
use Rattle.bk_verbs.specs.Causes.{stop_of_words, IsOfReading, IsOfPlaying}
use Rattle.bk_verbs.proofs.Fronts.{no_front}
use Rattle.bk_verbs.specs.Stops.{IsOutside, StopsAt}
use Rattle.bk_verbs.specs.Work.{WritesWork, PutsWork}
use Rattle.bk_verbs.proofs.Stopping.{handed_on, on_each, at_task}
use Rattle.bk_program.specs.Answer.{IsAnswer, HasFound, WroteFrontOfAnswer}
use Rattle.bk_program.proofs.Answering.{outside_of_playing}
use Rattle.bk_program.proofs.Given.{words_read, words_write, words_missing, reading_write, playing_read, playing_missing, still_an_error, words_stop, words_usage, words_are_wrong}
use Rattle.bk_program.proofs.Written.{front_of_answer, front_of_work}
use Rattle.bk_program.proofs.program.perform.Goals as goal

-- ---- the words
pub returns-in_err-command-clause-cause : goal.returns-in_err-command-clause-cause
returns-in_err-command-clause-cause g c =
    handed_on c.from_residual.result (stop_of_words c.in_err-command.field-0.0)
    (λ stop. (files : Files) → g.H.Shelf.files c.args.shelf.now ≡ Some files → IsOutside stop ⊎ StopsAt files (map (string_bytes {Z = Global}) c.args.words.now) stop)
    c.from_residual.ensures.1
    (λ files told. words_stop (map (string_bytes {Z = Global}) c.args.words.now) c.in_err-command.field-0.0 c.in_err-command.ensures.nothing files)

pub returns-in_err-command-clause-usage : goal.returns-in_err-command-clause-usage
returns-in_err-command-clause-usage g c =
    handed_on c.from_residual.result (stop_of_words c.in_err-command.field-0.0) (λ stop. stop ≡ Usage → AskForNothing (map (string_bytes {Z = Global}) c.args.words.now)) c.from_residual.ensures.1
    (words_usage (map (string_bytes {Z = Global}) c.args.words.now) c.in_err-command.field-0.0 c.in_err-command.ensures.nothing)

pub returns-in_err-command-clause-wrong_words : goal.returns-in_err-command-clause-wrong_words
returns-in_err-command-clause-wrong_words g c none =
    still_an_error c.from_residual.result (stop_of_words c.in_err-command.field-0.0) (λ stop. (stop ≡ Usage) ⊎ (stop ≡ Memory)) c.from_residual.ensures.1 (words_are_wrong c.in_err-command.field-0.0)

-- ---- what is read and checked
pub returns-in_err-work-clause-cause : goal.returns-in_err-work-clause-cause
returns-in_err-work-clause-cause g c =
    handed_on c.from_residual-in_err-work.result c.in_err-work.field-0.0
    (λ stop. (files : Files) → g.H.Shelf.files c.args.shelf.now ≡ Some files → IsOutside stop ⊎ StopsAt files (map (string_bytes {Z = Global}) c.args.words.now) stop)
    c.from_residual-in_err-work.ensures.1
    (λ files told. at_task files (map (string_bytes {Z = Global}) c.args.words.now) (task_of c.in_ok-command.command) c.in_err-work.field-0.0 c.in_ok-command.ensures.asked (c.in_err-work.ensures.cause files told))

pub returns-in_err-work-clause-wrong_words : goal.returns-in_err-work-clause-wrong_words
returns-in_err-work-clause-wrong_words g c none = absurd (none (task_of c.in_ok-command.command) c.in_ok-command.ensures.asked)

-- ---- what is written
pub returns-in_err-status-clause-front : goal.returns-in_err-status-clause-front
returns-in_err-status-clause-front g c =
    on_each c.from_residual-in_err-status.result
    (λ stop. (files : Files) → g.H.Shelf.files c.args.shelf.now ≡ Some files → (status : Status) (text : List ℕ) → IsAnswer files (map (string_bytes {Z = Global}) c.args.words.now) status text → (HasFound (map (string_bytes {Z = Global}) c.args.words.now) status → ⊥) → WroteFront text (g.K.Sink.written c.args.out.now) (g.K.Sink.written c.write_work.new.out))
    (λ stop files told status text answer sole.
    front_of_answer files (map (string_bytes {Z = Global}) c.args.words.now) (task_of c.in_ok-command.command) c.in_ok-command.ensures.asked status text answer sole (g.K.Sink.written c.args.out.now) (g.K.Sink.written c.write_work.new.out) c.in_ok-work.work (c.in_ok-work.ensures.told files told) c.in_ok-work.ensures.playable c.in_err-status.ensures.front)

pub returns-in_err-status-clause-wrong_words : goal.returns-in_err-status-clause-wrong_words
returns-in_err-status-clause-wrong_words g c none = absurd (none (task_of c.in_ok-command.command) c.in_ok-command.ensures.asked)

pub returns-in_err-status-clause-unwritten : goal.returns-in_err-status-clause-unwritten
returns-in_err-status-clause-unwritten g c none = absurd (none (task_of c.in_ok-command.command) c.in_ok-command.ensures.asked)

-- ---- what is done
pub returns-clause-wrong_words : goal.returns-clause-wrong_words
returns-clause-wrong_words g c none = absurd (none (task_of c.in_ok-command.command) c.in_ok-command.ensures.asked)

pub returns-clause-unwritten : goal.returns-clause-unwritten
returns-clause-unwritten g c none = absurd (none (task_of c.in_ok-command.command) c.in_ok-command.ensures.asked)

pub returns-clause-ok : goal.returns-clause-ok
returns-clause-ok g c files told task asks =
    subst (λ t. WritesWork files t (g.K.Sink.written c.args.out.now) (g.K.Sink.written c.write_work.new.out) c.in_ok-status.status) (ask_for_one (map (string_bytes {Z = Global}) c.args.words.now) (task_of c.in_ok-command.command) task c.in_ok-command.ensures.asked asks)
    (c.in_ok-status.ensures.ok files (task_of c.in_ok-command.command) (c.in_ok-work.ensures.told files told))

pub returns-clause-asked : goal.returns-clause-asked
returns-clause-asked g c = (task_of c.in_ok-command.command, c.in_ok-command.ensures.asked)

-- ---- what is not read and not written
pub returns-in_err-command-clause-read : goal.returns-in_err-command-clause-read
returns-in_err-command-clause-read g c = words_read c.from_residual.result c.in_err-command.field-0.0 c.from_residual.ensures.1 (g.H.Shelf.faults c.args.shelf.now)

pub returns-in_err-command-clause-write : goal.returns-in_err-command-clause-write
returns-in_err-command-clause-write g c = words_write c.from_residual.result c.in_err-command.field-0.0 c.from_residual.ensures.1 (g.K.Sink.faults c.args.out.now)

pub returns-in_err-command-clause-missing : goal.returns-in_err-command-clause-missing
returns-in_err-command-clause-missing g c = words_missing c.from_residual.result c.in_err-command.field-0.0 c.from_residual.ensures.1 (g.H.Shelf.absences c.args.shelf.now)

pub returns-in_err-command-clause-silent : goal.returns-in_err-command-clause-silent
returns-in_err-command-clause-silent g c = on_each c.from_residual.result (λ stop. IsOfPlaying stop ⊎ (g.K.Sink.written c.args.out.now ≡ g.K.Sink.written c.args.out.now)) (λ stop. inr refl)

pub returns-in_err-command-clause-front : goal.returns-in_err-command-clause-front
returns-in_err-command-clause-front g c =
    on_each c.from_residual.result
    (λ stop. (files : Files) → g.H.Shelf.files c.args.shelf.now ≡ Some files → (status : Status) (text : List ℕ) → IsAnswer files (map (string_bytes {Z = Global}) c.args.words.now) status text → (HasFound (map (string_bytes {Z = Global}) c.args.words.now) status → ⊥) → WroteFront text (g.K.Sink.written c.args.out.now) (g.K.Sink.written c.args.out.now))
    (λ stop files told status text answer sole. no_front text (g.K.Sink.written c.args.out.now) (g.K.Sink.written c.args.out.now) refl)

pub returns-in_err-command-clause-unwritten : goal.returns-in_err-command-clause-unwritten
returns-in_err-command-clause-unwritten g c none = refl

pub returns-in_err-work-clause-write : goal.returns-in_err-work-clause-write
returns-in_err-work-clause-write g c = reading_write c.from_residual-in_err-work.result c.in_err-work.field-0.0 c.from_residual-in_err-work.ensures.1 (g.K.Sink.faults c.args.out.now) (g.K.Sink.faults c.args.out.now) (omega arith) c.in_err-work.ensures.reading

pub returns-in_err-work-clause-silent : goal.returns-in_err-work-clause-silent
returns-in_err-work-clause-silent g c = on_each c.from_residual-in_err-work.result (λ stop. IsOfPlaying stop ⊎ (g.K.Sink.written c.args.out.now ≡ g.K.Sink.written c.args.out.now)) (λ stop. inr refl)

pub returns-in_err-work-clause-front : goal.returns-in_err-work-clause-front
returns-in_err-work-clause-front g c =
    on_each c.from_residual-in_err-work.result
    (λ stop. (files : Files) → g.H.Shelf.files c.args.shelf.now ≡ Some files → (status : Status) (text : List ℕ) → IsAnswer files (map (string_bytes {Z = Global}) c.args.words.now) status text → (HasFound (map (string_bytes {Z = Global}) c.args.words.now) status → ⊥) → WroteFront text (g.K.Sink.written c.args.out.now) (g.K.Sink.written c.args.out.now))
    (λ stop files told status text answer sole. no_front text (g.K.Sink.written c.args.out.now) (g.K.Sink.written c.args.out.now) refl)

pub returns-in_err-work-clause-usage : goal.returns-in_err-work-clause-usage
returns-in_err-work-clause-usage g c =
    handed_on c.from_residual-in_err-work.result c.in_err-work.field-0.0 (λ stop. stop ≡ Usage → AskForNothing (map (string_bytes {Z = Global}) c.args.words.now)) c.from_residual-in_err-work.ensures.1
    (λ e. absurd (subst IsOfReading e c.in_err-work.ensures.reading))

pub returns-in_err-work-clause-unwritten : goal.returns-in_err-work-clause-unwritten
returns-in_err-work-clause-unwritten g c none = refl

pub returns-in_err-status-clause-cause : goal.returns-in_err-status-clause-cause
returns-in_err-status-clause-cause g c =
    handed_on c.from_residual-in_err-status.result c.in_err-status.field-0.0
    (λ stop. (files : Files) → g.H.Shelf.files c.args.shelf.now ≡ Some files → IsOutside stop ⊎ StopsAt files (map (string_bytes {Z = Global}) c.args.words.now) stop)
    c.from_residual-in_err-status.ensures.1
    (λ files told. inl (outside_of_playing c.in_err-status.field-0.0 c.in_err-status.ensures.playing))

pub returns-in_err-status-clause-read : goal.returns-in_err-status-clause-read
returns-in_err-status-clause-read g c =
    playing_read c.from_residual-in_err-status.result c.in_err-status.field-0.0 c.from_residual-in_err-status.ensures.1 (g.H.Shelf.faults c.args.shelf.now) (g.H.Shelf.faults c.prepare.new.shelf) c.prepare.ensures.failed.later c.in_err-status.ensures.playing

pub returns-in_err-status-clause-missing : goal.returns-in_err-status-clause-missing
returns-in_err-status-clause-missing g c =
    playing_missing c.from_residual-in_err-status.result c.in_err-status.field-0.0 c.from_residual-in_err-status.ensures.1 (g.H.Shelf.absences c.args.shelf.now) (g.H.Shelf.absences c.prepare.new.shelf) c.prepare.ensures.missing.later c.in_err-status.ensures.playing

pub returns-in_err-status-clause-silent : goal.returns-in_err-status-clause-silent
returns-in_err-status-clause-silent g c =
    handed_on c.from_residual-in_err-status.result c.in_err-status.field-0.0 (λ stop. IsOfPlaying stop ⊎ (g.K.Sink.written c.write_work.new.out ≡ g.K.Sink.written c.args.out.now)) c.from_residual-in_err-status.ensures.1 (inl c.in_err-status.ensures.playing)

pub returns-in_err-status-clause-usage : goal.returns-in_err-status-clause-usage
returns-in_err-status-clause-usage g c =
    handed_on c.from_residual-in_err-status.result c.in_err-status.field-0.0 (λ stop. stop ≡ Usage → AskForNothing (map (string_bytes {Z = Global}) c.args.words.now)) c.from_residual-in_err-status.ensures.1
    (λ e. absurd (subst IsOfPlaying e c.in_err-status.ensures.playing))

-- ---- nothing is written before the work begins
pub returns-in_err-command-clause-begun : goal.returns-in_err-command-clause-begun
returns-in_err-command-clause-begun g c =
    on_each c.from_residual.result
    (λ stop. (files : Files) → g.H.Shelf.files c.args.shelf.now ≡ Some files → WroteFrontOfAnswer files (map (string_bytes {Z = Global}) c.args.words.now) (g.K.Sink.written c.args.out.now) (g.K.Sink.written c.args.out.now))
    (λ stop files told. inl refl)

pub returns-in_err-work-clause-begun : goal.returns-in_err-work-clause-begun
returns-in_err-work-clause-begun g c =
    on_each c.from_residual-in_err-work.result
    (λ stop. (files : Files) → g.H.Shelf.files c.args.shelf.now ≡ Some files → WroteFrontOfAnswer files (map (string_bytes {Z = Global}) c.args.words.now) (g.K.Sink.written c.args.out.now) (g.K.Sink.written c.args.out.now))
    (λ stop files told. inl refl)

pub returns-in_err-status-clause-begun : goal.returns-in_err-status-clause-begun
returns-in_err-status-clause-begun g c =
    on_each c.from_residual-in_err-status.result
    (λ stop. (files : Files) → g.H.Shelf.files c.args.shelf.now ≡ Some files → WroteFrontOfAnswer files (map (string_bytes {Z = Global}) c.args.words.now) (g.K.Sink.written c.args.out.now) (g.K.Sink.written c.write_work.new.out))
    (λ stop files told.
    front_of_work files (map (string_bytes {Z = Global}) c.args.words.now) (task_of c.in_ok-command.command) c.in_ok-command.ensures.asked (g.K.Sink.written c.args.out.now) (g.K.Sink.written c.write_work.new.out) c.in_ok-work.work (c.in_ok-work.ensures.told files told) c.in_ok-work.ensures.playable c.in_err-status.ensures.front)

-- ---- pieces
pub returns-in_err-command-clause-unput : goal.returns-in_err-command-clause-unput
returns-in_err-command-clause-unput g c = on_each c.from_residual.result (λ stop. IsOfPlaying stop ⊎ (g.K.Sink.pieces c.args.out.now ≡ g.K.Sink.pieces c.args.out.now)) (λ stop. inr refl)

pub returns-in_err-work-clause-unput : goal.returns-in_err-work-clause-unput
returns-in_err-work-clause-unput g c = on_each c.from_residual-in_err-work.result (λ stop. IsOfPlaying stop ⊎ (g.K.Sink.pieces c.args.out.now ≡ g.K.Sink.pieces c.args.out.now)) (λ stop. inr refl)

pub returns-in_err-status-clause-unput : goal.returns-in_err-status-clause-unput
returns-in_err-status-clause-unput g c =
    handed_on c.from_residual-in_err-status.result c.in_err-status.field-0.0 (λ stop. IsOfPlaying stop ⊎ (g.K.Sink.pieces c.write_work.new.out ≡ g.K.Sink.pieces c.args.out.now)) c.from_residual-in_err-status.ensures.1 (inl c.in_err-status.ensures.playing)

pub returns-clause-pieces : goal.returns-clause-pieces
returns-clause-pieces g c files told task asks =
    subst (λ t. PutsWork files t (g.K.Sink.pieces c.args.out.now) (g.K.Sink.pieces c.write_work.new.out) c.in_ok-status.status) (ask_for_one (map (string_bytes {Z = Global}) c.args.words.now) (task_of c.in_ok-command.command) task c.in_ok-command.ensures.asked asks)
    (c.in_ok-status.ensures.pieces files (task_of c.in_ok-command.command) (c.in_ok-work.ensures.told files told) (c.in_ok-work.ensures.suits files told))
