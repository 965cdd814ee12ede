use Rattle.bk_statics.proofs.Bodies.{bodies-right}
use Rattle.bk_statics.proofs.laws.bodies.Goals as goal

pub returns : goal.returns
returns c = λ int_max dev comp ready said inputs o placed none. bodies-right int_max dev comp ready said inputs o placed none
