use Rattle.bk_sources.proofs.FileSteps.{byte_within, byte_behind}
use Rattle.bk_p_proof.proofs.files.byte_of.Goals as goal

pub returns-in-Some : goal.returns-in-Some
returns-in-Some c =
    let l = c.in-Some.ensures.lookup in
    let p = l.3 in
    byte_within c.args.length c.args.tokens.now c.args.place c.in-Some.token.now p.0 l.1

pub returns-in-None : goal.returns-in-None
returns-in-None c =
    let l = c.in-None.ensures.lookup in
    byte_behind c.args.length c.args.tokens.now c.args.place l.3
