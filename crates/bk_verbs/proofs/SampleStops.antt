-- None of a sample's files is missing.
use Rattle.std.proofs.Common.{◌≡◌, ℕ, ◌<◌, ◌≤◌, ◌⊎◌, inl, inr, Bool, true, List, [], ◌∷◌, codes, Some, Result, Ok, Err, IfErr, refl, sym, ◌∙◌, subst, arith}
use Rattle.std.specs.Prelude.{nat_lt}
use Rattle.std.specs.List.{AllZip, list_all}
use Rattle.std.specs.Char.{IsScalar}
use Rattle.std.specs.Str.{IsUtf8}
use Rattle.std.proofs.lemmas.Bool.{and_parts, ltb-true}
use Rattle.std.proofs.lemmas.Bool.Decides.{nat_tests}
use Rattle.std.proofs.lemmas.Option.{none-some}
use Rattle.std.proofs.lemmas.Str.{IsUtf8-nil, IsUtf8-append, IsUtf8-encode, encode_ascii}
use Rattle.bk_io.specs.Counts.{HasCause}
use Rattle.bk_io.specs.Files.{Files, file_named}
use Rattle.bk_code.specs.declared.image.Image.{Image}
use Rattle.bk_dev.specs.Development.{Development}
use Rattle.bk_b0.specs.Translation.{translation}
use Rattle.bk_raw.specs.Trees.ScriptTree.{RawScript}
use Rattle.bk_front.specs.declared.project_file.ProjectLine.{ProjectLine}
use Rattle.bk_front.specs.declared.project_file.LineKind.TheVariants.{Machine, Implementation, Proofs}
use Rattle.bk_front.specs.declared.refusal.Refusal.{Refusal}
use Rattle.bk_front.specs.declared.refusal.Refusal.TheVariants.{Fault, Limit as LimitOfText, Memory as OutOfMemory}
use Rattle.bk_lines.specs.Lines.{kept_lines}
use Rattle.bk_front.specs.ProjectFile.{IsFileName, IsProjectLine, AreLinesOf}
use Rattle.bk_front.proofs.ProjectFiles.{names_of, lines_are_one}
use Rattle.bk_p_proof.specs.declared.fault.ScriptFault.{ScriptFault}
use Rattle.bk_p_proof.specs.declared.fault.ScriptFault.TheVariants.{Fault as FaultOfProofs, Limit as LimitOfProofs, Memory as NoRoomForProofs}
use Rattle.bk_calls.specs.Sample.{sample_of, project_text}
use Rattle.bk_verbs.specs.declared.stop.Stop.{Stop}
use Rattle.bk_verbs.specs.declared.stop.Stop.TheVariants.{Usage, Missing, Refused, Limit, Unproved, Incomplete, BadCalls, BadImage, ReadFault, WriteFault, Memory}
use Rattle.bk_verbs.specs.Causes.{IsOfReading, IsOfChecks, IsOfPlaying}
use Rattle.bk_verbs.specs.Project.{files_of, fetched}
use Rattle.bk_verbs.specs.Samples.{sample_files, sample_project, sample_run}
use Rattle.bk_verbs.specs.Stops.{IsOutside, StopsAtFile, StopsAtTold, StopsAtComponents, StopsAtNames, StopsAtProject, StopsAtObligations, StopsAtProof, StopsAtScript, StopsAtCode, StopsAtCalls, StopsRead, StopsAtWork, stop_of_refusal, stop_of_proofs}
use Rattle.bk_verbs.proofs.Projects.{some_once}

-- ---- stops at a missing file
abbrev IsMissing : Stop → Type 0
IsMissing (Missing name) = Unit {0}
IsMissing _ = ⊥

-- a file that is there
there : (files : Files) (name text : List ℕ) (stop : Stop) → file_named files name ≡ Some text → StopsAtFile files name stop → IsMissing stop → ⊥
there files name text stop e (inl h) m = none-some text (sym h.1 ∙ e)
there files name text stop e (inr h) m = subst IsMissing h.0 m

no_refusal : (refusal : Refusal) (project : List ℕ) (components : List (List ℕ)) → IsMissing (stop_of_refusal refusal project components) → ⊥
no_refusal (Fault number file place) project components m = m
no_refusal (LimitOfText number file) project components m = m
no_refusal OutOfMemory project components m = m

no_proof_fault : (fault : ScriptFault) (proofs : List (List ℕ)) → IsMissing (stop_of_proofs fault proofs) → ⊥
no_proof_fault (FaultOfProofs number file place) proofs m = m
no_proof_fault (LimitOfProofs number file) proofs m = m
no_proof_fault NoRoomForProofs proofs m = m

no_proof : (project : List ℕ) (dev : Development) (scripts : List RawScript) (stop : Stop) → StopsAtProof project dev scripts stop → IsMissing stop → ⊥
no_proof project dev scripts stop (inl h) m = subst IsMissing h.0 m
no_proof project dev scripts stop (inr h) m = by h.1
  where
    by : StopsAtObligations project dev scripts stop → ⊥
    by (inl (inl k)) = subst IsMissing k.1 m
    by (inl (inr k)) = subst IsMissing k.1 m
    by (inr k) = subst IsMissing k.1 m

no_code : (project calls text : List ℕ) (image : Image) (stop : Stop) → StopsAtCode project calls text image stop → IsMissing stop → ⊥
no_code project calls text image stop (inl (inl h)) m = subst IsMissing h.0 m
no_code project calls text image stop (inl (inr h)) m = subst IsMissing h.0 m
no_code project calls text image stop (inr h) m = by h.1
  where
    by : StopsAtScript calls text image stop → ⊥
    by (inl k) = subst IsMissing k.2 m
    by (inr k) = subst IsMissing k.0 m

-- ---- the lines of the project file
abbrev is_low : ℕ → Bool
is_low b = nat_lt b 128

low_scalar : (b : ℕ) → b < 128 → IsScalar b
low_scalar b low = grind (arith, nat_tests)

low_text : (text : List ℕ) → list_all is_low text ≡ true → IsUtf8 text
low_text [] h = IsUtf8-nil
low_text (b ∷ bs) h =
    let parts = and_parts (is_low b) (list_all is_low bs) h in
    let low = ltb-true b 128 parts.0 in
    IsUtf8-append (b ∷ []) bs (subst IsUtf8 (encode_ascii b low) (IsUtf8-encode b (low_scalar b low))) (low_text bs parts.1)

abbrev named : List ProjectLine
named =
    record { kind = Machine; name = codes "Sample.mch" } ∷ record { kind = Implementation; name = codes "Sample_i.imp" } ∷
    record { kind = Proofs; name = codes "Sample.prf" } ∷ []

machine_name : IsFileName (codes "Sample.mch")
machine_name = record { text = low_text (codes "Sample.mch") refl; first = omega arith; last = omega arith }

implementation_name : IsFileName (codes "Sample_i.imp")
implementation_name = record { text = low_text (codes "Sample_i.imp") refl; first = omega arith; last = omega arith }

proofs_name : IsFileName (codes "Sample.prf")
proofs_name = record { text = low_text (codes "Sample.prf") refl; first = omega arith; last = omega arith }

lines_written : AllZip IsProjectLine (kept_lines project_text) named
lines_written = (
  record { written = record { before = 1; after = 0; apart = omega arith; written = refl; is_name = machine_name }; fits = tt },
  (
    record { written = record { before = 1; after = 0; apart = omega arith; written = refl; is_name = implementation_name }; fits = tt },
    (record { written = record { before = 1; after = 0; apart = omega arith; written = refl; is_name = proofs_name }; fits = tt }, tt),
  ),
)

lines_are : AreLinesOf project_text named
lines_are = record {
  utf8 = low_text project_text refl;
  written = lines_written;
  are = record { names = names_of (kept_lines project_text) named lines_written; chain = (0, inr refl); few = omega arith };
}

-- ---- files that are there
module _ (files : Files) (machine implementation proofs calls : List ℕ) (project_there : file_named files sample_project ≡ Some project_text) (machine_there : file_named files (codes "Sample.mch") ≡ Some machine)
    (implementation_there : file_named files (codes "Sample_i.imp") ≡ Some implementation) (proofs_there : file_named files (codes "Sample.prf") ≡ Some proofs) (calls_there : file_named files (codes "sample.calls") ≡ Some calls) (stop : Stop) (missing : IsMissing stop) where
  no_text : (texts proof_texts : List (List ℕ)) → StopsAtTold sample_project named (codes "Sample.prf" ∷ []) texts proof_texts stop → ⊥
  no_text texts proof_texts (inl h) = no_refusal h.0 sample_project (codes "Sample.mch" ∷ codes "Sample_i.imp" ∷ []) (subst IsMissing h.3 missing)
  no_text texts proof_texts (inr h) = no_proof_fault h.2.0 (codes "Sample.prf" ∷ []) (subst IsMissing h.2.3 missing)

  no_component : StopsAtComponents files sample_project named (codes "Sample.prf" ∷ []) stop → ⊥
  no_component (inl (inl h)) = there files (codes "Sample.mch") machine stop machine_there h missing
  no_component (inl (inr (text, told, inl h))) = there files (codes "Sample_i.imp") implementation stop implementation_there h missing
  no_component (inl (inr (text, told, inr (more, told_too, inl h)))) = there files (codes "Sample.prf") proofs stop proofs_there h missing
  no_component (inl (inr (text, told, inr (more, told_too, inr h)))) = absurd h.2
  no_component (inr h) = no_text h.0 h.1 h.4

  no_name : StopsAtNames true files sample_project project_text stop → ⊥
  no_name (inl h) = no_refusal h.0 sample_project [] (subst IsMissing h.3 missing)
  no_name (inr (ls, are, h)) = no_component (subst (λ x. StopsAtComponents files sample_project x (fetched true (files_of true x)) stop) (lines_are_one project_text ls named are lines_are) h)

  no_project : StopsAtProject true files sample_project stop → ⊥
  no_project (inl h) = there files sample_project project_text stop project_there h missing
  no_project (inr h) = no_name (subst (λ x. StopsAtNames true files sample_project x stop) (some_once (sym h.1.stands ∙ project_there)) h.2)

  no_calls : (dev : Development) → StopsAtCalls files sample_project (codes "sample.calls") (translation dev) stop → ⊥
  no_calls dev (inl h) = there files (codes "sample.calls") calls stop calls_there h missing
  no_calls dev (inr h) = no_code sample_project (codes "sample.calls") h.0 (translation dev) stop h.2 missing

  no_read : (dev : Development) (scripts : List RawScript) → StopsRead files sample_run dev scripts stop → ⊥
  no_read dev scripts (inl h) = no_proof sample_project dev scripts stop h missing
  no_read dev scripts (inr h) = no_calls dev h.1

  no_work : StopsAtWork files sample_project sample_run stop → ⊥
  no_work (inl h) = no_project h
  no_work (inr h) = no_read h.0 h.1 h.3

-- ---- a sample
-- its five files are there
none_missing : (variables : ℕ) (stop : Stop) → StopsAtWork (sample_files variables) sample_project sample_run stop → IsMissing stop → ⊥
unfolding sample_of
none_missing variables stop h missing = no_work (sample_files variables) _ _ _ _ refl refl refl refl refl stop missing h

-- a shelf that never fails leaves the checks as causes
module _ (variables : ℕ) where
  check_is : (stop : Stop) → IsOfReading stop → (stop ≡ ReadFault → ⊥) → IsOutside stop ⊎ StopsAtWork (sample_files variables) sample_project sample_run stop → IsOfChecks stop
  check_is Usage reading fault cause = reading
  check_is (Missing name) reading fault (inl o) = o
  check_is (Missing name) reading fault (inr h) = none_missing variables (Missing name) h tt
  check_is (Refused number at name) reading fault cause = tt
  check_is (Limit limit name) reading fault cause = tt
  check_is (Unproved name) reading fault cause = tt
  check_is (Incomplete name) reading fault cause = tt
  check_is (BadCalls line) reading fault cause = tt
  check_is (BadImage number) reading fault cause = tt
  check_is ReadFault reading fault cause = absurd (fault refl)
  check_is WriteFault reading fault cause = reading
  check_is Memory reading fault cause = tt

  pub checks_are : {T : Type 0} (result : Result T Stop) → IfErr result IsOfReading → HasCause ReadFault 0 0 result → IfErr result (λ stop. IsOutside stop ⊎ StopsAtWork (sample_files variables) sample_project sample_run stop) → IfErr result IsOfChecks
  checks_are (Ok t) reading cause h = tt
  checks_are (Err stop) reading cause h = check_is stop reading (λ e. never (cause.rose (λ i. Err (e i)))) h
    where
      never : (1 ≤ 0) → ⊥
      never h = omega (arith, h)

-- what writing may stop with is outside
pub playing_outside : (stop : Stop) → IsOfPlaying stop → IsOutside stop
playing_outside WriteFault playing = tt
playing_outside Memory playing = tt
playing_outside stop playing = absurd playing
