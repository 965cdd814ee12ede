-- The clauses of the top call are the parts of what comes of it.
use Rattle.std.proofs.Common.{◌∙◌}
use Rattle.bk_program.proofs.program.code_of_run.Goals as goal

pub returns : goal.returns
returns g c = record {
  status = c.bkit.result;
  code_is = c.from.ensures ∙ c.code.ensures;
  outcome = record {
    run = c.bkit.ensures.run;
    legal = c.bkit.ensures.legal;
    answer = c.bkit.ensures.answer;
    line = c.bkit.ensures.line;
    pieces = c.bkit.ensures.pieces;
    ready = c.bkit.ensures.ready;
    cut_short = c.bkit.ensures.cut_short;
    begun = c.bkit.ensures.begun;
    read_fault = c.bkit.ensures.read_fault;
    write_fault = c.bkit.ensures.write_fault;
    missing = c.bkit.ensures.missing;
    usage = c.bkit.ensures.usage;
    wrong_words = c.bkit.ensures.wrong_words;
    leaves = c.bkit.ensures.leaves;
  };
}
