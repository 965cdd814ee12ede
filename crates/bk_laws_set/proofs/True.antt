-- Every row is true.
use Rattle.bk_laws.specs.Laws.{AreTrueRows, IsTrueTable}
use Rattle.bk_laws.proofs.Truth.{table-is-true}
use Rattle.bk_laws_set.specs.Rows.{rows}
use Rattle.bk_laws_set.proofs.Members.{true-s1, true-s2, true-s3, true-s4, true-s5, true-s6, true-s7}
use Rattle.bk_laws_set.proofs.Subsets.{true-s8, true-s9, true-s10, true-s11, true-s12, true-s13, true-s14, true-s15, true-s16, true-s17, true-s18}
use Rattle.bk_laws_set.proofs.Operations.{true-s19, true-s20, true-s21, true-s22, true-s23, true-s24, true-s25, true-s26, true-s27, true-s28, true-s29, true-s30, true-s31, true-s32, true-s33, true-s34, true-s35, true-s40}
use Rattle.bk_laws_set.proofs.Intervals.{true-s36, true-s37, true-s38, true-s39}

pub rows-are-true : AreTrueRows rows
unfolding rows
rows-are-true = (true-s1, (true-s2, (true-s3, (true-s4, (true-s5, (true-s6, (true-s7, (true-s8, (true-s9, (true-s10, (true-s11, (true-s12, (true-s13, (true-s14, (true-s15, (true-s16, (true-s17, (true-s18, (true-s19, (true-s20, (true-s21, (true-s22, (true-s23, (true-s24, (true-s25, (true-s26, (true-s27, (true-s28, (true-s29, (true-s30, (true-s31, (true-s32, (true-s33, (true-s34, (true-s35, (true-s36, (true-s37, (true-s38, (true-s39, (true-s40, tt))))))))))))))))))))))))))))))))))))))))

pub laws-are-true : IsTrueTable rows
laws-are-true = table-is-true rows rows-are-true
