-- The counter and the adder are in B0.
use Rattle.std.proofs.Common.{inl, ◌≤◌, ◌<◌, ℕ, zero, suc, length, refl, arith}
use Rattle.bk_limits.specs.declared.TheConstants.{MOST_OPERATORS}
use Rattle.bk_form.specs.Each.{Each}
use Rattle.bk_dev.specs.B0.{IsScalarName, IsB0Body, IsB0Development}
use Rattle.bk_dev.specs.Development.{body_at, inputs_of}
use Rattle.bk_dev.specs.Counter.{counter}
use Rattle.bk_gen.specs.Laws.{adder}

-- no or few operators on one way down
pub few : (n : ℕ) → n ≤ 10 → n ≤ MOST_OPERATORS
few n h = omega (arith, h)

pub counter_in_b0 : IsB0Development counter
counter_in_b0 = record {
  complete = refl;
  variables = (inl (refl, refl), tt);
  inputs = inputs;
  init = refl;
  init_shallow = (few 0 (omega arith), tt);
  bodies = (resetting, (setting, (getting, tt)));
}
  where
    resetting : IsB0Body counter (body_at counter 1 0)
    resetting = record { condition = refl; outputs = tt; sub = refl; shallow = (few 0 (omega arith), tt) }

    setting : IsB0Body counter (body_at counter 1 1)
    setting = record { condition = refl; outputs = tt; sub = refl; shallow = (few 0 (omega arith), tt) }

    getting : IsB0Body counter (body_at counter 1 2)
    getting = record { condition = refl; outputs = ((refl, refl), tt); sub = (refl, refl); shallow = (few 0 (omega arith), tt) }

    inputs : (o : ℕ) → o < length counter.heads → Each (IsScalarName counter) (inputs_of counter o)
    inputs zero h = tt
    inputs (suc zero) h = tt
    inputs (suc (suc zero)) h = tt
    inputs (suc (suc (suc o))) h = absurd (omega arith)

pub adder_in_b0 : IsB0Development adder
adder_in_b0 = record {
  complete = refl;
  variables = (inl (refl, refl), tt);
  inputs = inputs;
  init = refl;
  init_shallow = (few 0 (omega arith), tt);
  bodies = (
    record {
      condition = refl;
      outputs = tt;
      sub = (((refl, refl), refl), ((refl, refl), (refl, refl)), tt);
      shallow = (few 1 (omega arith), (few 1 (omega arith), tt), tt);
    },
    tt,
  );
}
  where
    inputs : (o : ℕ) → o < length adder.heads → Each (IsScalarName adder) (inputs_of adder o)
    inputs zero h = ((refl, refl), tt)
    inputs (suc o) h = absurd (omega arith)
