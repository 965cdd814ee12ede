use Rattle.bk_code.proofs.Runs.{ends_at_return, out_of_fuel_below, trap_out_of_fuel}
use Rattle.bk_code.proofs.laws.ends_are_exact.Goals as goal

pub returns : goal.returns
returns c = record { at_return = ends_at_return; out_of_fuel = out_of_fuel_below; trap = trap_out_of_fuel }
