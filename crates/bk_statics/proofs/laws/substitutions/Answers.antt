use Rattle.bk_statics.proofs.Intervals.{binds-distinct}
use Rattle.bk_statics.proofs.SubTypes.{elaborated-types}
use Rattle.bk_statics.proofs.SubMay.{elaborated-stays}
use Rattle.bk_statics.proofs.Shapes.{sub-shaped}
use Rattle.bk_statics.proofs.laws.substitutions.Goals as goal

pub returns-clause-binders : goal.returns-clause-binders
returns-clause-binders c = λ int_max typing above names n s. binds-distinct s int_max typing above names n

pub returns-clause-types : goal.returns-clause-types
returns-clause-types c = λ int_max table typing above names h writable n s e.
    elaborated-types int_max table typing h.settled above h.above_of s names writable n h.names_of h.have_types e

pub returns-clause-stay : goal.returns-clause-stay
returns-clause-stay c = λ int_max table typing higher names h above visible writable n k s e.
    elaborated-stays int_max table typing h.settled higher h.above_of above k.above_seen s names visible writable n
    h.names_of h.have_types k.seen k.below e

pub returns-clause-shapes : goal.returns-clause-shapes
returns-clause-shapes c = λ kind inside int_max typing above names n s e. sub-shaped kind int_max typing above s inside names n e
