-- What is put at a path stands there, and keeps the role and the meaning of the whole.
use Rattle.bk_seq.specs.PathLaws.{PutStands, PutKeepsRole, PutKeepsMeaning}
use Rattle.bk_seq.proofs.Paths.{put-stands, put-role, put-meaning}

pub put_stands : PutStands
put_stands = put-stands

pub put_keeps_role : PutKeepsRole
put_keeps_role = put-role

pub put_keeps_meaning : PutKeepsMeaning
put_keeps_meaning = put-meaning
