-- What a sample gives, once it is proved and its session played.
use Rattle.std.proofs.Common.{◌≡◌, ℕ, List, [], ◌++◌, codes, Some, refl, ◌∙◌, ap, subst}
use Rattle.bk_limits.specs.declared.TheConstants.{FUEL}
use Rattle.bk_code.specs.declared.image.Image.{Image}
use Rattle.bk_code.specs.Session.{Request, Session}
use Rattle.bk_calls.specs.Transcript.{transcript}
use Rattle.bk_status.specs.declared.table.Row.{Row}
use Rattle.bk_report.specs.Table.{table_text}
use Rattle.bk_verbs.specs.declared.status.Status.{Status}
use Rattle.bk_verbs.specs.Session.{Plays}
use Rattle.bk_verbs.specs.Samples.{sample_files, sample_project, last_line}
use Rattle.bk_verbs.specs.Work.{IsMadeReady, IsSampled}
use Rattle.bk_verbs.proofs.Projects.{some_once}

pub sampled : (variables : ℕ) (rows : List Row) (image : Image) (requests : List Request) (status : Status) (start written table text : List ℕ) →
    IsMadeReady (sample_files variables) sample_project (codes "sample.calls") rows image requests → Plays image FUEL requests status (Some start) (Some written) → start ≡ [] → table ≡ table_text rows →
    text ≡ last_line table ++ last_line written → IsSampled variables status text
sampled variables rows image requests status start written table text ready plays none table_is text_is =
    let told = transcript image FUEL requests plays.tolds in
    let written_is : written ≡ told = some_once plays.written ∙ ap (λ s. s ++ told) none in
    record {
      table = table_text rows;
      tabled = record { dev = ready.dev; scripts = ready.scripts; reads = ready.reads; given = (refl, record { within = ready.finished.proved.within; rows = rows; are = ready.table; text_is = refl }) };
      transcript = told;
      run = record {
        dev = ready.dev;
        scripts = ready.scripts;
        reads = ready.reads;
        given = record {
          finished = ready.finished;
          short = ready.short;
          played = record {
            requests = requests;
            asks = ready.asks;
            tolds = plays.tolds;
            session = subst (λ i. Session i FUEL requests plays.tolds) ready.image_is plays.session;
            last = plays.last;
            transcript_is = ap (λ i. transcript i FUEL requests plays.tolds) ready.image_is;
          };
        };
      };
      text_is = text_is ∙ (λ i. last_line (table_is i) ++ last_line (written_is i));
    }
