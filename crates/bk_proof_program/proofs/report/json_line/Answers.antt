use Rattle.bk_proof_program.proofs.report.json_line.Goals as goal

pub returns : goal.returns
returns c = (c.in_ok-text.text.items, c.in_ok-push.ensures.items, c.in_ok-text.ensures)
