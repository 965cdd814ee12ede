use Rattle.std.proofs.Common.{◌≡◌, ◌⊎◌, Some, map, refl, sym, ap, subst}
use Rattle.std.proofs.lemmas.List.{length-map}
use Rattle.bk_io.specs.Files.{Files}
use Rattle.bk_code.specs.Session.{Session}
use Rattle.bk_calls.specs.Script.{request_of}
use Rattle.bk_calls.specs.Transcript.{transcript}
use Rattle.bk_cli.specs.Tasks.{run_task}
use Rattle.bk_verbs.specs.Project.{ReadsCalls}
use Rattle.bk_verbs.specs.Stops.{IsOutside, StopsTask}
use Rattle.bk_verbs.proofs.Stopping.{handed_on}
use Rattle.bk_verbs.proofs.run.session_of_project.Goals as goal

pub returns-in_err-ready-clause-cause : goal.returns-in_err-ready-clause-cause
returns-in_err-ready-clause-cause g c =
    handed_on c.from_residual.result c.in_err-ready.field-0.0
    (λ stop. (files : Files) → g.H.Shelf.files c.args.shelf.now ≡ Some files → IsOutside stop ⊎ StopsTask files (run_task c.args.project.now c.args.script.now c.args.fuel) stop)
    c.from_residual.ensures.1
    (λ files told. c.in_err-ready.ensures.cause files c.args.fuel told)

pub returns-clause-told : goal.returns-clause-told
returns-clause-told g c files told tolds session =
    let ready = c.in_ok-ready.ensures.ready files told in
    record {
      dev = ready.dev;
      scripts = ready.scripts;
      reads = ready.reads;
      given = record {
        finished = ready.finished;
        short = ready.short;
        played = record {
          requests = map request_of c.in_ok-ready.ready.calls.items;
          asks = ready.asks;
          tolds = tolds;
          session = subst (λ i. Session i c.args.fuel (map request_of c.in_ok-ready.ready.calls.items) tolds) ready.image_is session;
          last = refl;
          transcript_is = ap (λ i. transcript i c.args.fuel (map request_of c.in_ok-ready.ready.calls.items) tolds) ready.image_is;
        };
      };
    }

pub returns-clause-playable : goal.returns-clause-playable
returns-clause-playable g c = record {
  fresh = c.in_ok-ready.ensures.fresh;
  checked = c.in_ok-ready.ensures.checked;
  asked = c.in_ok-ready.ensures.requests;
  few = rw (length-map c.in_ok-ready.ready.calls.items request_of) c.in_ok-ready.ensures.few;
  small = c.requires.small;
}

pub returns-clause-suits : goal.returns-clause-suits
returns-clause-suits g c files told =
    let ready = c.in_ok-ready.ensures.ready files told in
    (ready.dev, ready.scripts, ready.reads, ready.image_is, refl, subst (λ i. ReadsCalls files c.args.script.now i (map request_of c.in_ok-ready.ready.calls.items)) (sym ready.image_is) ready.asks)
