use Rattle.bk_statics.proofs.Listed.{settled-told}
use Rattle.bk_statics.proofs.Stands.{stands}
use Rattle.bk_statics.proofs.laws.types.Goals as goal

pub returns-clause-settled : goal.returns-clause-settled
returns-clause-settled c = λ int_max table top n ws typing. settled-told int_max table top n ws typing

pub returns-clause-stand : goal.returns-clause-stand
returns-clause-stand c = λ int_max higher comp h. stands int_max higher comp h
