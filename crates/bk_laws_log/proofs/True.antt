-- Every row is true.
use Rattle.bk_laws.specs.Laws.{AreTrueRows, IsTrueTable}
use Rattle.bk_laws.proofs.Truth.{table-is-true}
use Rattle.bk_laws_log.specs.Rows.{rows}
use Rattle.bk_laws_log.proofs.Logic.{true-g1, true-g2, true-g3, true-g4, true-g5, true-g6, true-g7, true-g8, true-g9, true-g10, true-g11, true-g12, true-g13, true-g14, true-g15, true-g16, true-g17, true-g18, true-g19, true-g20, true-g21, true-g22, true-g23, true-g24, true-g25, true-g26, true-g27, true-g28}
use Rattle.bk_laws_log.proofs.Order.{true-o1, true-o2, true-o3, true-o4, true-o5, true-o6, true-o7, true-o8, true-o9, true-o10, true-o11, true-o12, true-o13, true-o14, true-o15}
use Rattle.bk_laws_log.proofs.Largest.{true-o16, true-o17, true-o20}
use Rattle.bk_laws_log.proofs.Smallest.{true-o18, true-o19, true-o21}
use Rattle.bk_laws_log.proofs.Counting.{true-o22, true-o23, true-o24, true-o25, true-o26, true-o27, true-o28, true-o29, true-o30}

pub rows-are-true : AreTrueRows rows
unfolding rows
rows-are-true = (true-g1, (true-g2, (true-g3, (true-g4, (true-g5, (true-g6, (true-g7, (true-g8, (true-g9, (true-g10, (true-g11, (true-g12, (true-g13, (true-g14, (true-g15, (true-g16, (true-g17, (true-g18, (true-g19, (true-g20, (true-g21, (true-g22, (true-g23, (true-g24, (true-g25, (true-g26, (true-g27, (true-g28, (true-o1, (true-o2, (true-o3, (true-o4, (true-o5, (true-o6, (true-o7, (true-o8, (true-o9, (true-o10, (true-o11, (true-o12, (true-o13, (true-o14, (true-o15, (true-o16, (true-o17, (true-o18, (true-o19, (true-o20, (true-o21, (true-o22, (true-o23, (true-o24, (true-o25, (true-o26, (true-o27, (true-o28, (true-o29, (true-o30, tt))))))))))))))))))))))))))))))))))))))))))))))))))))))))))

pub laws-are-true : IsTrueTable rows
laws-are-true = table-is-true rows rows-are-true
