use Rattle.bk_seq.proofs.PathLaws.{put_stands, put_keeps_role, put_keeps_meaning}
use Rattle.bk_seq.proofs.Typing.{parts_type}
use Rattle.bk_seq.proofs.laws.places.Goals as goal

pub returns-clause-stands : goal.returns-clause-stands
returns-clause-stands c = put_stands

pub returns-clause-role : goal.returns-clause-role
returns-clause-role c = put_keeps_role

pub returns-clause-meaning : goal.returns-clause-meaning
returns-clause-meaning c = put_keeps_meaning

pub returns-clause-parts : goal.returns-clause-parts
returns-clause-parts c = parts_type
