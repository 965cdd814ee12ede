-- Small cases.
use Rattle.std.proofs.Common.{refl}
use Rattle.bk_wd.specs.Examples.{WellDefinedExamples, CheckedExamples}

pub well_defined_examples : WellDefinedExamples
well_defined_examples = record {
  divided = λ table. refl;
  remainder = λ table. refl;
  power = λ table. refl;
  greatest = λ table. refl;
  applied = refl;
  in_order = λ table. refl;
  conjoined = λ table. refl;
  implied = λ table. refl;
  disjoined = λ table. refl;
  nothing = λ table. refl;
  all = λ table. refl;
  some = λ table. refl;
  nested = λ table. refl;
  chosen = λ table. refl;
  function = λ table. refl;
  ranges = λ table. refl;
  raised = λ table. refl;
}

pub checked_examples : CheckedExamples
checked_examples = record {
  added = refl;
  subtracted = refl;
  divided = refl;
  mod_taken = refl;
  indexed = refl;
  booleans = refl;
  no_array = refl;
  indexed_by_sum = refl;
  either = refl;
}
