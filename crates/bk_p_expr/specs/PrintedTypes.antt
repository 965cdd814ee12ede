-- Parts of printed types, as they are read.
use Rattle.std.specs.Prelude.{ℕ, Some}
use Rattle.bk_ops.specs.declared.sign.TheConstants.{OPEN_PAREN, CLOSE_PAREN, TIMES}
use Rattle.bk_raw.specs.Trees.WrittenType.{WrittenType, written_power, written_product}
use Rattle.bk_raw.specs.declared.term.RawBound.{RawBound}
use Rattle.bk_raw.specs.Grammar.Reading.{Reader, next, sign, within, typed, bound}

-- (T) after POW
abbrev pub power : ℕ → Reader WrittenType
power m ts = next (within OPEN_PAREN CLOSE_PAREN (typed m) ts) (λ t us. Some (written_power t, us))

-- T * U) after a parenthesis
abbrev pub product : ℕ → Reader WrittenType
product m ts = next (typed m ts)
    (λ t us. next (sign TIMES us) (λ _ vs. next (typed m vs) (λ u ws. next (sign CLOSE_PAREN ws) (λ _ xs. Some (written_product t u, xs)))))

-- $n:T
abbrev pub typed_bound : ℕ → Reader RawBound
typed_bound m ts = next (bound ts) (λ b us. next (typed m us) (λ t vs. Some (record { at = b.0; number = b.1; ty = t }, vs)))
