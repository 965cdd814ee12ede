use Rattle.std.proofs.Common.{◌∙◌, map, refl, ap}
use Rattle.bk_evidence.specs.Items.{pair_of, parts_of_pair, parts_of_file}
use Rattle.bk_proof_program.proofs.Finding.{map_twice}
use Rattle.bk_proof_program.proofs.report.report_of.Goals as goal

pub returns-clause-inputs : goal.returns-clause-inputs
returns-clause-inputs c =
    c.in_ok-inputs.ensures ∙ (ap (map parts_of_file) c.deref.ensures.value ∙ (map_twice pair_of parts_of_pair c.in_ok-files.files.items ∙ ap (map parts_of_pair) c.in_ok-files.ensures))

pub returns-clause-made : goal.returns-clause-made
returns-clause-made c = record { version = refl; toolchain = refl; stated = c.claims_of_reports.ensures; machine = c.in_ok-machine_name.ensures }

pub shown_texts-requires : goal.shown_texts-requires
shown_texts-requires c = c.requires
