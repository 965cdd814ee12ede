-- Every row is true.
use Rattle.bk_laws.specs.Laws.{AreTrueRows, IsTrueTable}
use Rattle.bk_laws.proofs.Truth.{table-is-true}
use Rattle.bk_laws_fun.specs.Rows.{rows}
use Rattle.bk_laws_fun.proofs.Pairs.{true-m1, true-m2, true-m3, true-m4, true-m5, true-m6, true-m7, true-m8, true-m9}
use Rattle.bk_laws_fun.proofs.Domains.{true-m10, true-m11, true-m12, true-m13, true-m14, true-m15, true-m16, true-m17, true-m18, true-m19, true-m20, true-m21, true-m22, true-m23, true-m24, true-m25, true-m26}
use Rattle.bk_laws_fun.proofs.Inverses.{true-m27, true-m28, true-m29, true-m30}
use Rattle.bk_laws_fun.proofs.Images.{true-m31, true-m32, true-m33, true-m34, true-m35, true-m36}
use Rattle.bk_laws_fun.proofs.Arrows.{true-m37, true-m38, true-m39, true-m40, true-m41, true-m42, true-m43, true-m44, true-m45}
use Rattle.bk_laws_fun.proofs.Applied.{true-m46, true-m47, true-m48, true-m49, true-m50, true-m51, true-m52, true-m53, true-m54, true-m55, true-m56, true-m57}
use Rattle.bk_laws_fun.proofs.Functions.{true-m58, true-m59, true-m60, true-m61, true-m62, true-m63, true-m64, true-m65}

pub rows-are-true : AreTrueRows rows
unfolding rows
rows-are-true = (true-m1, (true-m2, (true-m3, (true-m4, (true-m5, (true-m6, (true-m7, (true-m8, (true-m9, (true-m10, (true-m11, (true-m12, (true-m13, (true-m14, (true-m15, (true-m16, (true-m17, (true-m18, (true-m19, (true-m20, (true-m21, (true-m22, (true-m23, (true-m24, (true-m25, (true-m26, (true-m27, (true-m28, (true-m29, (true-m30, (true-m31, (true-m32, (true-m33, (true-m34, (true-m35, (true-m36, (true-m37, (true-m38, (true-m39, (true-m40, (true-m41, (true-m42, (true-m43, (true-m44, (true-m45, (true-m46, (true-m47, (true-m48, (true-m49, (true-m50, (true-m51, (true-m52, (true-m53, (true-m54, (true-m55, (true-m56, (true-m57, (true-m58, (true-m59, (true-m60, (true-m61, (true-m62, (true-m63, (true-m64, (true-m65, tt)))))))))))))))))))))))))))))))))))))))))))))))))))))))))))))))))

pub laws-are-true : IsTrueTable rows
laws-are-true = table-is-true rows rows-are-true
