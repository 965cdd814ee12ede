use Rattle.std.proofs.Common.{◌≡◌, ◌⊎◌, ◌∙◌, Some, subst, sym, rules}
use Rattle.bk_cli.specs.Tasks.{status_task}
use Rattle.bk_io.specs.Files.{Files}
use Rattle.bk_status.specs.Rows.{HasRows}
use Rattle.bk_verbs.specs.Causes.{IsOfReading}
use Rattle.bk_verbs.specs.Stops.{IsOutside, StopsPastLimits, StopsTask}
use Rattle.bk_verbs.proofs.Stopping.{widen, handed_on, checks_read}
use Rattle.bk_proof_program.proofs.Causes.{at_limits}
use Rattle.bk_proof_program.proofs.report.report_answer.Goals as goal

pub returns-in_err-table-clause-cause : goal.returns-in_err-table-clause-cause
returns-in_err-table-clause-cause g c =
    widen c.from_residual-in_err-table.result
    (λ stop. IsOutside stop ⊎ StopsPastLimits c.args.project.now c.in_ok-whole.whole.project.development stop)
    (λ stop. (files : Files) → g.H.Shelf.files c.args.shelf.now ≡ Some files → IsOutside stop ⊎ StopsTask files (status_task c.args.project.now) stop)
    (search rules)
    (λ stop h files told. at_limits files c.args.project.now c.in_ok-whole.whole.project.development c.in_ok-whole.whole.project.scripts stop (c.in_ok-whole.ensures.told files told) h)

pub returns-clause-told : goal.returns-clause-told
returns-clause-told g c files told =
    let written = c.in_ok-text.ensures in (
      record {
        development = c.in_ok-whole.whole.project.development;
        scripts = c.in_ok-whole.whole.project.scripts;
        reads = c.in_ok-whole.ensures.told files told;
        rows = c.in_ok-table.table.rows.items;
        states = c.in_ok-table.ensures.rows;
        whole = c.status_of-status.ensures.value;
      },
      record {
        report = written.0;
        are = record {
          development = c.in_ok-whole.whole.project.development;
          scripts = c.in_ok-whole.whole.project.scripts;
          reads = c.in_ok-whole.ensures.told files told;
          states = subst (HasRows c.in_ok-whole.whole.project.development c.in_ok-whole.whole.project.scripts) (sym (written.1 ∙ c.deref.ensures.value)) c.in_ok-table.ensures.rows;
        };
        texts = c.in_ok-whole.whole.files;
        texts_are = c.in_ok-whole.ensures.texts files told;
        inputs = written.2;
        made = written.3;
        strays_are = (c.in_ok-whole.whole.list.items, c.in_ok-whole.ensures.listed, written.4);
        writes = written.5;
      },
    )

pub returns-in_err-table-clause-reading : goal.returns-in_err-table-clause-reading
returns-in_err-table-clause-reading g c =
    handed_on c.from_residual-in_err-table.result c.in_err-table.field-0.0 IsOfReading c.from_residual-in_err-table.ensures.1 (checks_read c.in_err-table.field-0.0 c.in_err-table.ensures.checks)

pub written-requires : goal.written-requires
written-requires g c = c.in_ok-whole.ensures.ready
