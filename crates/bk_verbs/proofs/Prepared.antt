-- What is left to write, once it is written, is what the task gives.
use Rattle.std.proofs.Common.{◌≡◌, ℕ, List, map, Option, Vec, Global, refl, sym, subst}
use Rattle.bk_io.specs.Files.{Files}
use Rattle.bk_io.specs.Pieces.{Piece, PutWhole, written_with}
use Rattle.bk_code.specs.declared.image.Image.{Image}
use Rattle.bk_code.specs.Session.{Request}
use Rattle.bk_b0.specs.Translation.{translation}
use Rattle.bk_vm.specs.State.{State}
use Rattle.bk_calls.specs.declared.script.Call.{Call}
use Rattle.bk_calls.specs.Script.{request_of}
use Rattle.bk_calls.specs.Transcript.{transcript}
use Rattle.bk_verbs.specs.declared.status.Status.{Status}
use Rattle.bk_verbs.specs.declared.status.Status.TheVariants.{Done}
use Rattle.bk_verbs.specs.declared.work.Work.{Work}
use Rattle.bk_verbs.specs.declared.work.Work.TheVariants.{Text, Ended, Obligations, Play}
use Rattle.bk_cli.specs.Tasks.{Task, check_task, status_task, po_task, find_task, code_task, build_task, run_task, exec_task, sample_task}
use Rattle.bk_verbs.specs.Session.{Plays, Puts}
use Rattle.bk_form.specs.Table.{Table}
use Rattle.bk_po.specs.declared.obligation.Obligation.{Obligation}
use Rattle.bk_po.specs.Obligations.{numbered_obligations}
use Rattle.bk_po.specs.Shown.{named_sequent}
use Rattle.bk_report.specs.Obligations.{obligation_text, obligations_text}
use Rattle.bk_verbs.specs.Puts.{PutsEach}
use Rattle.bk_verbs.specs.Prepared.{IsPrepared, GivesText, IsListOf, AsksToPlay, Suits, IsPlayable, CanBePlayed}
use Rattle.bk_verbs.specs.Project.{ReadsCalls}
use Rattle.bk_verbs.specs.Work.{WritesWork, IsWork, PutsText, PutsPlayed, PutsWork}

pub wrote_text : (files : Files) (task : Task) (text : Vec ℕ Global) (status : Status) (old new : Option (List ℕ)) → IsPrepared files task (Text text) → status ≡ Done → new ≡ written_with old text.items → WritesWork files task old new status
wrote_text files task text status old new p e written =
    subst (λ x. WritesWork files task old new x) (sym e) (record { text = text.items; work = p; appended = written })

pub wrote_list : (files : Files) (task : Task) (list : Vec Obligation Global) (table : Table) (status : Status) (old new : Option (List ℕ)) → IsPrepared files task (Obligations list table) → status ≡ Done → new ≡ written_with old (obligations_text table (map named_sequent list.items)) → WritesWork files task old new status
wrote_list files task list table status old new p e written =
    subst (λ x. WritesWork files task old new x) (sym e) (record { text = obligations_text table (map named_sequent list.items); work = p; appended = written })

pub ended_work : (files : Files) (task : Task) (text : Vec ℕ Global) (status : Status) (old new : Option (List ℕ)) → IsPrepared files task (Ended text status) → new ≡ written_with old text.items → WritesWork files task old new status
ended_work files task text status old new p written = record { text = text.items; work = p; appended = written }

pub played_work : (files : Files) (task : Task) (player : State) (calls : Vec Call Global) (fuel : ℕ) (status : Status) (old new : Option (List ℕ)) → IsPrepared files task (Play player calls fuel) →
    Plays player.image fuel (map request_of calls.items) status old new → WritesWork files task old new status
played_work files task player calls fuel status old new p plays =
    subst (λ x. WritesWork files task old new x) (sym plays.last) (record { text = transcript player.image fuel (map request_of calls.items) plays.tolds; work = p plays.tolds plays.session; appended = plays.written })

-- a session that is left to play can be played
pub playable : (work : Work) (player : State) (calls : Vec Call Global) (fuel : ℕ) → work ≡ Play player calls fuel → CanBePlayed work → IsPlayable player (map request_of calls.items) fuel
playable work player calls fuel e can = subst CanBePlayed e can

-- ---- what is put
pub put_text : (files : Files) (task : Task) (text : List ℕ) (status : Status) (old new : Option (List Piece)) → GivesText task → IsWork files task status text → PutWhole text old new → PutsWork files task old new status
put_text files task text status old new gives work put = by task gives (record { text = text; work = work; put = put })
  where
    by : (t : Task) → GivesText t → PutsText files t old new status → PutsWork files t old new status
    by (po_task project) g p = absurd g
    by (run_task project calls fuel) g p = absurd g
    by (exec_task image calls fuel) g p = absurd g
    by (check_task project) g p = p
    by (status_task project) g p = p
    by (find_task project) g p = p
    by (code_task project) g p = p
    by (build_task project) g p = p
    by (sample_task variables) g p = p

pub put_list : (files : Files) (task : Task) (list : Vec Obligation Global) (table : Table) (status : Status) (old new : Option (List Piece)) → Suits files task (Obligations list table) → status ≡ Done → PutsEach (map (obligation_text table) (map named_sequent list.items)) old new → PutsWork files task old new status
put_list files task list table status old new suits e puts = by task suits
  where
    by : (t : Task) → IsListOf files t table (map named_sequent list.items) → PutsWork files t old new status
    by (po_task project) i = (
      e,
      record {
        dev = i.0;
        scripts = i.1;
        reads = i.2;
        within = i.3;
        puts = subst (λ t. PutsEach (map (obligation_text t) (numbered_obligations i.0)) old new) i.4 (subst (λ l. PutsEach (map (obligation_text table) l) old new) i.5 puts);
      },
    )
    by t i = absurd i

-- a session over the calls that a script asks for
put_played : (files : Files) (script : List ℕ) (image : Image) (fuel : ℕ) (requests : List Request) (status : Status) (old new : Option (List ℕ)) (op pn : Option (List Piece)) → ReadsCalls files script image requests → Puts image fuel requests status old new op pn → PutsPlayed files script fuel image op pn status
put_played files script image fuel requests status old new op pn asks puts = record {
  text = transcript image fuel requests puts.plays.tolds;
  played = record { requests = requests; asks = asks; tolds = puts.plays.tolds; session = puts.plays.session; last = puts.plays.last; transcript_is = refl };
  puts = puts.puts;
}

pub put_session : (files : Files) (task : Task) (player : State) (calls : Vec Call Global) (fuel : ℕ) (status : Status) (old new : Option (List ℕ)) (op pn : Option (List Piece)) → Suits files task (Play player calls fuel) →
    Puts player.image fuel (map request_of calls.items) status old new op pn → PutsWork files task op pn status
put_session files task player calls fuel status old new op pn suits puts = by task suits
  where
    played : (script : List ℕ) (steps : ℕ) (image : Image) → player.image ≡ image → fuel ≡ steps → ReadsCalls files script player.image (map request_of calls.items) → PutsPlayed files script steps image op pn status
    played script steps image e f asks =
        subst (λ i. PutsPlayed files script steps i op pn status) e (subst (λ n. PutsPlayed files script n player.image op pn status) f (put_played files script player.image fuel (map request_of calls.items) status old new op pn asks puts))

    by : (t : Task) → AsksToPlay files t player.image fuel (map request_of calls.items) → PutsWork files t op pn status
    by (run_task project script steps) i = (i.0, i.1, i.2, played script steps (translation i.0) i.3 i.4 i.5)
    by (exec_task file script steps) i = (i.0, player.image, i.1, i.2, played script steps player.image refl i.3 i.4)
    by t i = absurd i
