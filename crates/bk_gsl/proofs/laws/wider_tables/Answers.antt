use Rattle.bk_gsl.proofs.WiderRuns.{types-wider, runs_wider, ends_wider, clean_wider}
use Rattle.bk_gsl.proofs.laws.wider_tables.Goals as goal

pub returns : goal.returns
returns c = record { types = types-wider; runs = runs_wider; ends = ends_wider; clean = clean_wider }
