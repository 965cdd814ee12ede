use Rattle.std.proofs.Common.{◌++◌, ◌∷◌, [], None, ◌∙◌, ap, refl}
use Rattle.bk_p_expr.proofs.Known.{plain_kept}
use Rattle.bk_p_expr.proofs.piece.Piece.too_high.Goals as goal

pub returns : goal.returns
returns c = λ tree l one none f. (l, plain_kept tree (record { name = None; free = c.args.free }) c.push.new.self.items (record { alone = one; defines_none = none }) refl f (c.in_ok-push.ensures.items ∙ ap (λ xs. xs ++ record { name = None; free = c.args.free } ∷ []) c.new-known.ensures.items))
