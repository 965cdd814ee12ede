-- The clauses of the top call are the parts of what comes of it.
use Rattle.std.proofs.Common.{◌∙◌}
use Rattle.bk_proof_program.proofs.program.code_of_run.Goals as goal

pub returns : goal.returns
returns g c = record {
  status = c.bkproof.result;
  code_is = c.from.ensures ∙ c.code.ensures;
  written = c.bkproof.ensures.told;
  read_fault = c.bkproof.ensures.read_fault;
  write_fault = c.bkproof.ensures.write_fault;
}
