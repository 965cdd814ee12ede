use Rattle.std.proofs.Common.{ap, sym}
use Rattle.bk_p_expr.specs.declared.piece.Piece.TheVariants.{High}
use Rattle.bk_p_expr.proofs.Heights.{is_built}
use Rattle.bk_p_expr.proofs.Known.{high_moved}
use Rattle.bk_p_expr.proofs.piece.Piece.moved.Goals as goal

pub returns-in-High : goal.returns-in-High
returns-in-High c = λ tree h. high_moved c.args.at tree c.args.self (High c.in-High.known) (sym c.in-High.is) (ap is_built c.in-High.is) h
