use Rattle.std.proofs.Common.{inl, inr, map, Global, Err, ap, subst, ◌∙◌, arith}
use Rattle.std.specs.Prelude.{string_bytes}
use Rattle.bk_io.specs.Pieces.{written_with}
use Rattle.bk_verbs.specs.declared.stop.Stop.TheVariants.{Usage, ReadFault}
use Rattle.bk_cli.specs.Tasks.{run_task}
use Rattle.bk_verbs.specs.Stops.{stop_text}
use Rattle.bk_verbs.specs.Work.{IsExecuted}
use Rattle.bk_program.proofs.Given.{wrong_words}
use Rattle.bk_program.proofs.Answering.{work_answers, stop_answers, stop_line, stop_front, stop_begun, reports_read, reports_missing, reports_usage, silent, stop_puts, rose_first, rose_second, executed_is_no_fault, executed_is_not_cut_short, reports_not_executed}
use Rattle.bk_program.proofs.Runs.{writes_run, ready_executed, done_where_legal}
use Rattle.bk_verbs.proofs.Frames.{appends_twice}
use Rattle.bk_program.proofs.program.bkit.Goals as goal

-- the stop is Usage or Memory, and nothing is written before it
pub returns-in-Err-clause-wrong_words : goal.returns-in-Err-clause-wrong_words
returns-in-Err-clause-wrong_words g c none =
    wrong_words c.in-Err.stop c.report.result (g.K.Sink.written c.args.out.now) (g.K.Sink.written c.perform.new.out) (g.K.Sink.written c.report.new.out) (c.in-Err.ensures.wrong_words none) c.report.ensures.reports
    (c.perform.ensures.unwritten none)

pub returns-in-Ok-clause-wrong_words : goal.returns-in-Ok-clause-wrong_words
returns-in-Ok-clause-wrong_words g c none = absurd (c.in-Ok.ensures.wrong_words none)

pub returns-in-Err-clause-answer : goal.returns-in-Err-clause-answer
returns-in-Err-clause-answer g c answered files told =
    stop_answers files (map (string_bytes {Z = Global}) c.args.words.now) (g.K.Sink.written c.args.out.now) (g.K.Sink.written c.perform.new.out) (g.K.Sink.written c.report.new.out) c.report.result c.in-Err.stop
    (c.in-Err.ensures.cause files told) c.report.ensures.reports answered c.in-Err.ensures.silent

pub returns-in-Err-clause-cut_short : goal.returns-in-Err-clause-cut_short
returns-in-Err-clause-cut_short g c short files told status text answer sole =
    stop_front files (map (string_bytes {Z = Global}) c.args.words.now) (g.K.Sink.written c.args.out.now) (g.K.Sink.written c.perform.new.out) (g.K.Sink.written c.report.new.out) c.report.result c.in-Err.stop
    (c.in-Err.ensures.cause files told) c.report.ensures.reports short c.in-Err.ensures.silent status text answer sole (c.in-Err.ensures.front files told status text answer sole)

pub returns-in-Err-clause-begun : goal.returns-in-Err-clause-begun
returns-in-Err-clause-begun g c short files told =
    stop_begun files (map (string_bytes {Z = Global}) c.args.words.now) (g.K.Sink.written c.args.out.now) (g.K.Sink.written c.perform.new.out) (g.K.Sink.written c.report.new.out) c.report.result c.in-Err.stop
    (c.in-Err.ensures.cause files told) c.report.ensures.reports short c.in-Err.ensures.silent (c.in-Err.ensures.begun files told)

pub returns-in-Err-clause-read_fault : goal.returns-in-Err-clause-read_fault
returns-in-Err-clause-read_fault g c e =
    let w = reports_read c.in-Err.stop c.report.result (g.K.Sink.written c.perform.new.out) (g.K.Sink.written c.report.new.out) c.report.ensures.reports e in
    (c.perform.ensures.read.rose (c.in-Err.is ∙ ap Err w.0), w.1 ∙ silent c.in-Err.stop ReadFault _ w.0 (λ h. h) c.in-Err.ensures.silent)

pub returns-in-Err-clause-missing : goal.returns-in-Err-clause-missing
returns-in-Err-clause-missing g c e =
    let w = reports_missing c.in-Err.stop c.report.result (g.K.Sink.written c.perform.new.out) (g.K.Sink.written c.report.new.out) c.report.ensures.reports e in
    c.perform.ensures.missing.rose w.0 (c.in-Err.is ∙ ap Err w.1)

pub returns-in-Err-clause-usage : goal.returns-in-Err-clause-usage
returns-in-Err-clause-usage g c e =
    let w = reports_usage c.in-Err.stop c.report.result (g.K.Sink.written c.perform.new.out) (g.K.Sink.written c.report.new.out) c.report.ensures.reports e in
    (c.in-Err.ensures.usage w.0, w.1 ∙ ap (λ x. written_with x (stop_text Usage)) (silent c.in-Err.stop Usage _ w.0 (λ h. h) c.in-Err.ensures.silent))

pub returns-in-Err-clause-write_fault : goal.returns-in-Err-clause-write_fault
returns-in-Err-clause-write_fault g c e = elim (c.report.ensures.failed e) [
  | inl is ↦ rose_first (g.K.Sink.faults c.args.out.now) (g.K.Sink.faults c.perform.new.out) (g.K.Sink.faults c.report.new.out) (c.perform.ensures.write.rose (c.in-Err.is ∙ ap Err is)) c.report.ensures.later
  | inr rose ↦ rose_second (g.K.Sink.faults c.args.out.now) (g.K.Sink.faults c.perform.new.out) (g.K.Sink.faults c.report.new.out) c.perform.ensures.write.later rose
]

pub returns-in-Ok-clause-answer : goal.returns-in-Ok-clause-answer
returns-in-Ok-clause-answer g c answered files told =
    work_answers files (map (string_bytes {Z = Global}) c.args.words.now) c.in-Ok.ensures.asked.0 (g.K.Sink.written c.args.out.now) (g.K.Sink.written c.perform.new.out) c.in-Ok.status c.in-Ok.ensures.asked.1 (c.in-Ok.ensures.ok files told c.in-Ok.ensures.asked.0 c.in-Ok.ensures.asked.1)

pub returns-in-Ok-clause-run : goal.returns-in-Ok-clause-run
returns-in-Ok-clause-run g c project calls fuel asks executed files told =
    writes_run files project calls fuel (g.K.Sink.written c.args.out.now) (g.K.Sink.written c.perform.new.out) c.in-Ok.status (c.in-Ok.ensures.ok files told (run_task project calls fuel) asks)

pub returns-in-Err-clause-ready : goal.returns-in-Err-clause-ready
returns-in-Err-clause-ready g c project calls fuel asks answered files told ready =
    ready_executed files (map (string_bytes {Z = Global}) c.args.words.now) project calls fuel (g.K.Sink.written c.args.out.now) (g.K.Sink.written c.report.new.out) c.report.result asks
    (stop_answers files (map (string_bytes {Z = Global}) c.args.words.now) (g.K.Sink.written c.args.out.now) (g.K.Sink.written c.perform.new.out) (g.K.Sink.written c.report.new.out) c.report.result c.in-Err.stop
    (c.in-Err.ensures.cause files told) c.report.ensures.reports answered c.in-Err.ensures.silent)
    ready

pub returns-in-Err-clause-line : goal.returns-in-Err-clause-line
returns-in-Err-clause-line g c answered =
    inr (stop_line (g.K.Sink.written c.args.out.now) (g.K.Sink.written c.perform.new.out) (g.K.Sink.written c.report.new.out) c.report.result c.in-Err.stop c.report.ensures.reports answered c.in-Err.ensures.silent)

pub returns-in-Err-clause-legal : goal.returns-in-Err-clause-legal
returns-in-Err-clause-legal g c project calls fuel asks answered files told =
    done_where_legal files (map (string_bytes {Z = Global}) c.args.words.now) project calls fuel (g.K.Sink.written c.args.out.now) (g.K.Sink.written c.report.new.out) c.report.result asks
    (stop_answers files (map (string_bytes {Z = Global}) c.args.words.now) (g.K.Sink.written c.args.out.now) (g.K.Sink.written c.perform.new.out) (g.K.Sink.written c.report.new.out) c.report.result c.in-Err.stop
    (c.in-Err.ensures.cause files told) c.report.ensures.reports answered c.in-Err.ensures.silent)

pub returns-in-Ok-clause-legal : goal.returns-in-Ok-clause-legal
returns-in-Ok-clause-legal g c project calls fuel asks answered files told =
    done_where_legal files (map (string_bytes {Z = Global}) c.args.words.now) project calls fuel (g.K.Sink.written c.args.out.now) (g.K.Sink.written c.perform.new.out) c.in-Ok.status asks
    (work_answers files (map (string_bytes {Z = Global}) c.args.words.now) c.in-Ok.ensures.asked.0 (g.K.Sink.written c.args.out.now) (g.K.Sink.written c.perform.new.out) c.in-Ok.status c.in-Ok.ensures.asked.1 (c.in-Ok.ensures.ok files told c.in-Ok.ensures.asked.0 c.in-Ok.ensures.asked.1))

-- ---- work that is done tells of no fault, and what stops the program executes nothing
pub returns-in-Ok-clause-line : goal.returns-in-Ok-clause-line
returns-in-Ok-clause-line g c answered = inl c.in-Ok.ensures.executed

pub returns-in-Ok-clause-ready : goal.returns-in-Ok-clause-ready
returns-in-Ok-clause-ready g c project calls fuel asks answered files told ready = c.in-Ok.ensures.executed

pub returns-in-Ok-clause-cut_short : goal.returns-in-Ok-clause-cut_short
returns-in-Ok-clause-cut_short g c short = absurd (executed_is_not_cut_short c.in-Ok.status c.in-Ok.ensures.executed short)

pub returns-in-Ok-clause-begun : goal.returns-in-Ok-clause-begun
returns-in-Ok-clause-begun g c short = absurd (executed_is_not_cut_short c.in-Ok.status c.in-Ok.ensures.executed short)

pub returns-in-Ok-clause-read_fault : goal.returns-in-Ok-clause-read_fault
returns-in-Ok-clause-read_fault g c e = absurd ((executed_is_no_fault c.in-Ok.status c.in-Ok.ensures.executed).0 e)

pub returns-in-Ok-clause-write_fault : goal.returns-in-Ok-clause-write_fault
returns-in-Ok-clause-write_fault g c e = absurd ((executed_is_no_fault c.in-Ok.status c.in-Ok.ensures.executed).1 e)

pub returns-in-Ok-clause-missing : goal.returns-in-Ok-clause-missing
returns-in-Ok-clause-missing g c e = absurd ((executed_is_no_fault c.in-Ok.status c.in-Ok.ensures.executed).2 e)

pub returns-in-Ok-clause-usage : goal.returns-in-Ok-clause-usage
returns-in-Ok-clause-usage g c e = absurd (subst IsExecuted e c.in-Ok.ensures.executed)

pub returns-in-Err-clause-run : goal.returns-in-Err-clause-run
returns-in-Err-clause-run g c project calls fuel asks executed = absurd (reports_not_executed c.in-Err.stop c.report.result (g.K.Sink.written c.perform.new.out) (g.K.Sink.written c.report.new.out) c.report.ensures.reports executed)

-- ---- what is left of the devices
pub returns-in-Ok-clause-leaves : goal.returns-in-Ok-clause-leaves
returns-in-Ok-clause-leaves g c = record {
  files = c.perform.ensures.files;
  written = c.perform.ensures.appends;
  read_faults = c.perform.ensures.read.later;
  write_faults = c.perform.ensures.write.later;
  absences = c.perform.ensures.missing.later;
}

pub returns-in-Err-clause-leaves : goal.returns-in-Err-clause-leaves
returns-in-Err-clause-leaves g c = record {
  files = c.perform.ensures.files;
  written = appends_twice (g.K.Sink.written c.args.out.now) (g.K.Sink.written c.perform.new.out) (g.K.Sink.written c.report.new.out) c.perform.ensures.appends c.report.ensures.appends;
  read_faults = c.perform.ensures.read.later;
  write_faults = omega (arith, c.perform.ensures.write.later, c.report.ensures.later);
  absences = c.perform.ensures.missing.later;
}

-- ---- pieces
pub returns-in-Ok-clause-pieces : goal.returns-in-Ok-clause-pieces
returns-in-Ok-clause-pieces g c answered files told = inr (c.in-Ok.ensures.asked.0, c.in-Ok.ensures.asked.1, c.in-Ok.ensures.pieces files told c.in-Ok.ensures.asked.0 c.in-Ok.ensures.asked.1)

pub returns-in-Err-clause-pieces : goal.returns-in-Err-clause-pieces
returns-in-Err-clause-pieces g c answered files told =
    stop_puts files (map (string_bytes {Z = Global}) c.args.words.now) c.in-Err.stop c.report.result (g.K.Sink.written c.perform.new.out) (g.K.Sink.written c.report.new.out) (g.K.Sink.pieces c.args.out.now) (g.K.Sink.pieces c.perform.new.out) (g.K.Sink.pieces c.report.new.out)
    (c.in-Err.ensures.cause files told) c.report.ensures.reports answered c.in-Err.ensures.unput c.report.ensures.piece
