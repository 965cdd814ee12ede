use Rattle.std.proofs.Common.{◌++◌, codes}
use Rattle.bk_evidence.proofs.Pieces.{four_pieces}
use Rattle.bk_evidence.proofs.lines.write_claims.Goals as goal

pub returns : goal.returns
returns c =
    let claims = c.args.claims in
    four_pieces c.args.text.now.items c.write_words.new.text.items c.write_words-2.new.text.items c.write_words-3.new.text.items c.extend_from_slice.new.self.items
    (codes "proved: " ++ claims.proved.now) (codes "\ntrusted: " ++ claims.trusted.now) (codes "\nnot claimed: " ++ claims.not_claimed.now) (codes "\n")
    c.in_ok-write_words.ensures c.in_ok-write_words-2.ensures c.in_ok-write_words-3.ensures c.in_ok-extend_from_slice.ensures.items
