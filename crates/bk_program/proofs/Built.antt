-- An image that is built gives the answers of its project's runs.
use Rattle.std.proofs.Common.{◌≡◌, ℕ, ◌≤◌, inl, inr, true, List, length, Some, sym, ◌∙◌, subst}
use Rattle.bk_limits.specs.declared.TheConstants.{MOST_BYTES}
use Rattle.bk_io.specs.Bytes.{AreBytes}
use Rattle.bk_io.specs.Files.{Files, file_named}
use Rattle.bk_code.specs.declared.image.Image.{Image}
use Rattle.bk_image.specs.Encoding.{Encodes}
use Rattle.bk_image.proofs.Verdicts.{encodes_one}
use Rattle.bk_dev.specs.Development.{Development}
use Rattle.bk_b0.specs.Translation.{translation}
use Rattle.bk_verbs.specs.declared.status.Status.{Status}
use Rattle.bk_verbs.specs.declared.status.Status.TheVariants.{Done}
use Rattle.bk_verbs.specs.declared.stop.Stop.{Stop}
use Rattle.bk_verbs.specs.declared.stop.Stop.TheVariants.{Usage, Missing, Refused, Limit, Unproved, Incomplete, BadCalls, BadImage, ReadFault, WriteFault, Memory}
use Rattle.bk_cli.specs.Tasks.{build_task, run_task, exec_task, Asks}
use Rattle.bk_verbs.specs.Project.{IsTold, IsToldAsBytes}
use Rattle.bk_verbs.specs.Work.{IsPlayed, IsRun, IsDoneOn, IsWork}
use Rattle.bk_verbs.specs.Stops.{StopsAtFile, StopsAtCode, StopsAtCalls, StopsAtCallScript, StopsRead, StopsTask, status_of_stop}
use Rattle.bk_program.specs.Answer.{IsAnswer}
use Rattle.bk_program.specs.Laws.{BuiltImagesRun}
use Rattle.bk_verbs.proofs.Projects.{told_once}
use Rattle.bk_program.proofs.OneAnswer.{Behind, file_told, project_read, proof_finished, code_passed, loaded_or_not, same_read, same_task, answer_of_work}

-- ---- the call script, told by two lists of files alike
module _ (files others : Files) (calls : List ℕ) (same : file_named others calls ≡ file_named files calls) where
  told_there : (text : List ℕ) → IsTold files calls text → IsTold others calls text
  told_there text t = record { stands = same ∙ t.stands; short = t.short }

  stops_there : (stop : Stop) → StopsAtFile files calls stop → StopsAtFile others calls stop
  stops_there stop (inl h) = inl (h.0, same ∙ h.1)
  stops_there stop (inr h) = inr (h.0, record { bytes = h.1.bytes; found = same ∙ h.1.found; longer = h.1.longer })

  script_there : (image : Image) (stop : Stop) → StopsAtCallScript files calls image stop → StopsAtCallScript others calls image stop
  script_there image stop (inl h) = inl (stops_there stop h)
  script_there image stop (inr h) = inr (h.0, told_there h.0 h.1, h.2)

  played_there : (fuel : ℕ) (image : Image) (status : Status) (text : List ℕ) → IsPlayed files calls fuel image status text → IsPlayed others calls fuel image status text
  played_there fuel image status text p = record {
    requests = p.requests;
    asks = record { text = p.asks.text; told = told_there p.asks.text p.asks.told; script = p.asks.script; few = p.asks.few };
    tolds = p.tolds;
    session = p.session;
    last = p.last;
    transcript_is = p.transcript_is;
  }

-- ---- a project that is built
module _ (files others : Files) (project calls image bytes : List ℕ) (fuel : ℕ) (built : IsDoneOn files project (build_task project) Done bytes) (are : AreBytes bytes) (short : length bytes ≤ MOST_BYTES)
    (stands : file_named others image ≡ Some bytes) (same : file_named others calls ≡ file_named files calls) where
  abbrev dev : Development
  dev = built.dev

  told : IsToldAsBytes others image bytes
  told = record { told = record { stands = stands; short = short }; are_bytes = are }

  -- what stops the run is its call script
  run_stop : (stop : Stop) → StopsTask files (run_task project calls fuel) stop → StopsAtCallScript files calls (translation dev) stop
  run_stop stop (inl h) = absurd (project_read true files project stop built.dev built.scripts h built.reads)
  run_stop stop (inr h) = by (same_read files project (run_task project calls fuel) (λ d s. StopsRead files (run_task project calls fuel) d s stop) h.0 built.dev h.1 built.scripts h.2 built.reads h.3)
    where
      at_calls : StopsAtCalls files project calls (translation built.dev) stop → StopsAtCallScript files calls (translation built.dev) stop
      at_calls (inl k) = inl k
      at_calls (inr k) = by_code k.2
        where
          by_code : StopsAtCode project calls k.0 (translation built.dev) stop → StopsAtCallScript files calls (translation built.dev) stop
          by_code (inl l) = absurd (code_passed project (translation built.dev) stop l built.given.1.short)
          by_code (inr l) = inr (k.0, k.1, l.1)

      by : StopsRead files (run_task project calls fuel) built.dev built.scripts stop → StopsAtCallScript files calls (translation built.dev) stop
      by (inl k) = absurd (proof_finished project built.dev built.scripts stop k built.given.1.finished)
      by (inr k) = at_calls k.1

  -- the call script stops the run
  stop_run : (stop : Stop) → StopsAtCallScript files calls (translation dev) stop → StopsTask files (run_task project calls fuel) stop
  stop_run stop (inl h) = inr (built.dev, built.scripts, built.reads, inr (built.given.1.finished, inl h))
  stop_run stop (inr h) = inr (built.dev, built.scripts, built.reads, inr (built.given.1.finished, inr (h.0, h.1, inr (built.given.1.short, h.2))))

  -- what stops the image's session is its call script: the file is there, and what it holds encodes the translation alone
  exec_stop : (stop : Stop) → StopsTask others (exec_task image calls fuel) stop → StopsAtCallScript others calls (translation dev) stop
  exec_stop stop (inl h) = absurd (file_told others image stop bytes h told.told)
  exec_stop stop (inr h) = behind (subst (λ b. Behind others image calls b stop) (told_once others image h.0 bytes h.1.told told.told) h.2)
    where
      behind : Behind others image calls bytes stop → StopsAtCallScript others calls (translation built.dev) stop
      behind (inl k) = absurd (loaded_or_not bytes are stop (translation built.dev) k built.given.1.encodes)
      behind (inr k) = subst (λ i. StopsAtCallScript others calls i stop) (encodes_one bytes k.0 (translation built.dev) k.1 built.given.1.encodes) k.2

  -- the call script stops it
  stop_exec : (stop : Stop) → StopsAtCallScript others calls (translation dev) stop → StopsTask others (exec_task image calls fuel) stop
  stop_exec stop h = inr (bytes, told, inr (translation built.dev, built.given.1.encodes, h))

  -- what is played
  run_play : (status : Status) (text : List ℕ) → IsWork files (run_task project calls fuel) status text → IsPlayed files calls fuel (translation dev) status text
  run_play status text w = (same_read files project (run_task project calls fuel) (λ d s. IsRun files calls fuel d s status text) w.dev built.dev w.scripts built.scripts w.reads built.reads w.given).played

  play_run : (status : Status) (text : List ℕ) → IsPlayed files calls fuel (translation dev) status text → IsWork files (run_task project calls fuel) status text
  play_run status text p = record { dev = built.dev; scripts = built.scripts; reads = built.reads; given = record { finished = built.given.1.finished; short = built.given.1.short; played = p } }

  exec_play : (status : Status) (text : List ℕ) → IsWork others (exec_task image calls fuel) status text → IsPlayed others calls fuel (translation dev) status text
  exec_play status text w =
      let b : w.bytes ≡ bytes = told_once others image w.bytes bytes w.told.told told.told in
      let i : w.loaded ≡ translation built.dev = encodes_one bytes w.loaded (translation built.dev) (subst (λ x. Encodes x w.loaded) b w.encodes) built.given.1.encodes in
      subst (λ x. IsPlayed others calls fuel x status text) i w.played

  play_exec : (status : Status) (text : List ℕ) → IsPlayed others calls fuel (translation dev) status text → IsWork others (exec_task image calls fuel) status text
  play_exec status text p = record { bytes = bytes; told = told; loaded = translation built.dev; encodes = built.given.1.encodes; played = p }

  module _ (run_words exec_words : List (List ℕ)) (runs : Asks run_words (run_task project calls fuel)) (execs : Asks exec_words (exec_task image calls fuel)) (status : Status) (text : List ℕ) where
    forth : IsAnswer files run_words status text → IsAnswer others exec_words status text
    forth (inl (stop, inl h, is, text_is)) = absurd (h.1 (run_task project calls fuel) runs)
    forth (inl (stop, inr h, is, text_is)) =
        let stops = run_stop stop (same_task files run_words (λ task. StopsTask files task stop) h.0 (run_task project calls fuel) h.1 runs h.2) in
        inl (stop, inr (exec_task image calls fuel, execs, stop_exec stop (script_there files others calls same (translation built.dev) stop stops)), is, text_is)
    forth (inr h) =
        let work = same_task files run_words (λ task. IsWork files task status text) h.0 (run_task project calls fuel) h.1 runs h.2 in
        answer_of_work others exec_words (exec_task image calls fuel) status text execs (play_exec status text (played_there files others calls same fuel (translation built.dev) status text (run_play status text work)))

    back : IsAnswer others exec_words status text → IsAnswer files run_words status text
    back (inl (stop, inl h, is, text_is)) = absurd (h.1 (exec_task image calls fuel) execs)
    back (inl (stop, inr h, is, text_is)) =
        let stops = exec_stop stop (same_task others exec_words (λ task. StopsTask others task stop) h.0 (exec_task image calls fuel) h.1 execs h.2) in
        inl (stop, inr (run_task project calls fuel, runs, stop_run stop (script_there others files calls (sym same) (translation built.dev) stop stops)), is, text_is)
    back (inr h) =
        let work = same_task others exec_words (λ task. IsWork others task status text) h.0 (exec_task image calls fuel) h.1 execs h.2 in
        answer_of_work files run_words (run_task project calls fuel) status text runs (play_run status text (played_there others files calls (sym same) fuel (translation built.dev) status text (exec_play status text work)))

-- ---- words
-- no stop has the status Done
stop_is_not_done : (stop : Stop) → Done ≡ status_of_stop stop → ⊥
stop_is_not_done Usage e = absurd (cc)
stop_is_not_done (Missing name) e = absurd (cc)
stop_is_not_done (Refused fault at name) e = absurd (cc)
stop_is_not_done (Limit limit name) e = absurd (cc)
stop_is_not_done (Unproved name) e = absurd (cc)
stop_is_not_done (Incomplete name) e = absurd (cc)
stop_is_not_done (BadCalls line) e = absurd (cc)
stop_is_not_done (BadImage fault) e = absurd (cc)
stop_is_not_done ReadFault e = absurd (cc)
stop_is_not_done WriteFault e = absurd (cc)
stop_is_not_done Memory e = absurd (cc)

-- what is answered to `build` with Done is what it builds
built_of : (files : Files) (words : List (List ℕ)) (project bytes : List ℕ) → Asks words (build_task project) → IsAnswer files words Done bytes → IsDoneOn files project (build_task project) Done bytes
built_of files words project bytes asks (inl h) = absurd (stop_is_not_done h.0 h.2)
built_of files words project bytes asks (inr h) = same_task files words (λ task. IsWork files task Done bytes) h.0 (build_task project) h.1 asks h.2

pub built_images_run : BuiltImagesRun
built_images_run files others build_words run_words exec_words project calls image bytes fuel asks h status text =
    let built = built_of files build_words project bytes asks.build h.done in (
      forth files others project calls image bytes fuel built h.are h.short h.stands h.same run_words exec_words asks.run asks.exec status text,
      back files others project calls image bytes fuel built h.are h.short h.stands h.same run_words exec_words asks.run asks.exec status text,
    )
