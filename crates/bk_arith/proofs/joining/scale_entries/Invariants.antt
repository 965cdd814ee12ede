use Rattle.std.proofs.Common.{◌≡◌, ◌++◌, ◌*ℤ◌, take, drop}
use Rattle.bk_arith.proofs.Entries.{zipped, all_fit}
use Rattle.bk_arith.proofs.joining.scale_entries.Given as goal

abbrev pub invariant-loop-number : goal.invariant-loop-number
invariant-loop-number l = record {
  made : take l.number-index l.target ++ zipped (λ c d. l.fn.by *ℤ c) (drop l.number-index l.target) (drop l.number-index l.initial.target) ≡ zipped (λ c d. l.fn.by *ℤ c) l.initial.target l.initial.target;
  fits : all_fit (λ c d. l.fn.by *ℤ c) (drop l.number-index l.target) (drop l.number-index l.initial.target) ≡ all_fit (λ c d. l.fn.by *ℤ c) l.initial.target l.initial.target;
}
