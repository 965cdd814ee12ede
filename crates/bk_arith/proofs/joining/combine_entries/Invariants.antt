use Rattle.std.proofs.Common.{◌≡◌, ◌++◌, take, drop}
use Rattle.bk_arith.specs.Layout.{entry_of}
use Rattle.bk_arith.proofs.Entries.{zipped, all_fit}
use Rattle.bk_arith.proofs.joining.combine_entries.Given as goal

abbrev pub invariant-loop-k : goal.invariant-loop-k
invariant-loop-k l = record {
  made : take l.k l.target ++ zipped (entry_of l.join) (drop l.k l.target) (drop l.k l.other) ≡ zipped (entry_of l.join) l.initial.target l.other;
  fits : all_fit (entry_of l.join) (drop l.k l.target) (drop l.k l.other) ≡ all_fit (entry_of l.join) l.initial.target l.other;
}
