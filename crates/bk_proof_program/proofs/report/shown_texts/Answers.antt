use Rattle.bk_proof_program.proofs.report.shown_texts.Goals as goal

pub open_text-requires : goal.open_text-requires
open_text-requires c = c.requires
