use Rattle.std.proofs.Common.{◌≡◌, ◌∙◌, ap, [], ◌∷◌, codes, string_bytes}
use Rattle.bk_io.specs.Files.{files_of}
use Rattle.bk_calls.specs.Sample.{sample_of, project_text, machine_text, implementation_text, proof_text, calls_text}
use Rattle.bk_calls.proofs.sample_project.sample.Goals as goal

pub returns : goal.returns
unfolding sample_of
returns c =
    let listed : c.in_ok-files.files.items ≡ c.in_ok-project.project ∷ c.in_ok-machine.machine ∷ c.in_ok-implementation.implementation ∷ c.in_ok-proofs.proofs ∷ [] =
    c.in_ok-files.ensures.items in
    let project : c.in_ok-project.project.1.items ≡ project_text = c.in_ok-project.ensures.text ∙ c.in_ok-from_str.ensures.ok in
    let machine : c.in_ok-machine.machine.1.items ≡ machine_text c.args.n = c.in_ok-machine.ensures.text ∙ c.in_ok-machine_text.ensures in
    let implementation : c.in_ok-implementation.implementation.1.items ≡ implementation_text c.args.n = c.in_ok-implementation.ensures.text ∙ c.in_ok-implementation_text.ensures in
    let proofs : c.in_ok-proofs.proofs.1.items ≡ proof_text c.args.n = c.in_ok-proofs.ensures.text ∙ c.in_ok-proof_text.ensures in
    let calls : c.into_bytes-calls.result.items ≡ calls_text c.args.n = ap (λ v. v.items) c.into_bytes-calls.ensures.value ∙ c.in_ok-calls_text.ensures in
    let name : string_bytes c.in_ok-project.project.0 ≡ codes "sample.prj" = c.in_ok-project.ensures.name in
    let machine_name : string_bytes c.in_ok-machine.machine.0 ≡ codes "Sample.mch" = c.in_ok-machine.ensures.name in
    let implementation_name : string_bytes c.in_ok-implementation.implementation.0 ≡ codes "Sample_i.imp" = c.in_ok-implementation.ensures.name in
    let proofs_name : string_bytes c.in_ok-proofs.proofs.0 ≡ codes "Sample.prf" = c.in_ok-proofs.ensures.name in
    let named : files_of (c.in_ok-project.project ∷ c.in_ok-machine.machine ∷ c.in_ok-implementation.implementation ∷ c.in_ok-proofs.proofs ∷ []) ≡ (sample_of c.args.n).files =
    λ i. (name i, project i) ∷ (machine_name i, machine i) ∷ (implementation_name i, implementation i) ∷ (proofs_name i, proofs i) ∷ [] in
    let files : files_of c.in_ok-files.files.items ≡ (sample_of c.args.n).files = ap files_of listed ∙ named in
    λ i. record { files = files i; calls = calls i }
