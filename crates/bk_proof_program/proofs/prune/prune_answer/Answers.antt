use Rattle.std.proofs.Common.{◌≡◌, ◌∙◌, ℕ, List, Some, None, find, option_map, sym, subst, ap}
use Rattle.std.specs.Str.{bytes_eq}
use Rattle.bk_verbs.specs.Project.{IsTold, proof_files}
use Rattle.bk_prune.specs.Pruned.{IsPrunedFile, CountsLeft, IsReady}
use Rattle.bk_proof_program.specs.declared.project.NamedText.{NamedText}
use Rattle.bk_proof_program.proofs.Finding.{IfFound, find_map, found_told}
use Rattle.bk_proof_program.proofs.Named.{no_file, one_file}
use Rattle.bk_proof_program.proofs.prune.prune_answer.Goals as goal

pub prune_file-requires : goal.prune_file-requires
prune_file-requires g c = subst (IsReady c.in_ok-whole.whole.project.development c.in_ok-whole.whole.table) (sym c.deref-2.ensures.value) c.in_ok-whole.ensures.ready

pub returns-in_default-clause-told : goal.returns-in_default-clause-told
returns-in_default-clause-told g c files told =
    let whole = c.in_ok-whole.whole in
    let texts = c.in_ok-whole.ensures.texts files told in
    let none : None ≡ find (λ (f : NamedText). bytes_eq c.args.file.now f.name) whole.files.proofs.items =
    c.in_default.ensures ∙ (λ i. find (λ (f : NamedText). bytes_eq (c.as_bytes.ensures.value i) f.name) (c.deref.ensures.value i)) in
    let no : None ≡ find (λ (n : List ℕ). bytes_eq c.args.file.now n) (proof_files texts.named) =
    ap (option_map (λ (f : NamedText). f.name)) none ∙ (find_map (λ (n : List ℕ). bytes_eq c.args.file.now n) (λ (f : NamedText). f.name) whole.files.proofs.items ∙ ap (find (λ (n : List ℕ). bytes_eq c.args.file.now n)) texts.proof_names) in
    record {
      development = whole.project.development;
      scripts = whole.project.scripts;
      reads = c.in_ok-whole.ensures.told files told;
      project_text = whole.files.text.items;
      told = texts.told;
      named = texts.named;
      lines = texts.lines;
      pruned = no_file files whole.project.development c.args.file.now _ _ no;
    }

pub returns-clause-told : goal.returns-clause-told
returns-clause-told g c files told =
    let whole = c.in_ok-whole.whole in
    let texts = c.in_ok-whole.ensures.texts files told in
    let here : Some c.in-Some.proofs.now ≡ find (λ (f : NamedText). bytes_eq c.args.file.now f.name) whole.files.proofs.items =
    c.in-Some.ensures ∙ (λ i. find (λ (f : NamedText). bytes_eq (c.as_bytes.ensures.value i) f.name) (c.deref.ensures.value i)) in
    let listed : Some c.in-Some.proofs.now.name ≡ find (λ (n : List ℕ). bytes_eq c.args.file.now n) (proof_files texts.named) =
    ap (option_map (λ (f : NamedText). f.name)) here ∙ (find_map (λ (n : List ℕ). bytes_eq c.args.file.now n) (λ (f : NamedText). f.name) whole.files.proofs.items ∙ ap (find (λ (n : List ℕ). bytes_eq c.args.file.now n)) texts.proof_names) in
    let one : IsTold files c.args.file.now c.in-Some.proofs.now.text.items = subst (IfFound (λ (f : NamedText). IsTold files c.args.file.now f.text.items)) (sym here) (found_told files c.args.file.now whole.files.proofs.items texts.proofs) in
    record {
      development = whole.project.development;
      scripts = whole.project.scripts;
      reads = c.in_ok-whole.ensures.told files told;
      project_text = whole.files.text.items;
      told = texts.told;
      named = texts.named;
      lines = texts.lines;
      pruned = one_file files whole.project.development c.args.file.now _ c.in_ok-pruned.pruned.text.items c.in-Some.proofs.now.name c.status_of.result listed (record {
        old = c.in-Some.proofs.now.text.items;
        told = one;
        pruned = subst (λ t. IsPrunedFile whole.project.development t c.in_ok-pruned.pruned.text.items) c.deref-3.ensures.value c.in_ok-pruned.ensures.kept;
        list = whole.list.items;
        listed = c.in_ok-whole.ensures.listed;
        left = c.in_ok-pruned.pruned.left;
        counts = subst (λ l. CountsLeft whole.project.development l c.in_ok-pruned.pruned.text.items c.in_ok-pruned.pruned.left) c.deref-2.ensures.value c.in_ok-pruned.ensures.counted;
        ends = c.status_of.ensures.value;
      });
    }
