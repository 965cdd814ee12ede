use Rattle.std.proofs.Common.{◌++◌, [], ◌∷◌, Some, ◌∙◌, ap, refl, sym, ℕ, ◌<◌}
use Rattle.bk_limits.specs.declared.TheConstants.{GREATEST_TREE_HEIGHT}
use Rattle.bk_raw.specs.Trees.RawTree.{raw, raw_infix, RawTree, tree_height}
use Rattle.bk_raw.specs.declared.operator.InfixOp.TheVariants.{Equal}
use Rattle.bk_p_expr.proofs.Choices.{ok_so}
use Rattle.bk_p_expr.proofs.Known.{IsPlain, plain_equation, named_kept}
use Rattle.bk_p_expr.specs.Pieces.{IsPiece}
use Rattle.bk_p_expr.proofs.piece.equation.Goals as goal

pub returns-in_default : goal.returns-in_default
returns-in_default c = ok_so _ _ c.too_high.ensures (λ r. (at : ℕ) (a b : RawTree) → GREATEST_TREE_HEIGHT < tree_height (raw at (raw_infix Equal a b)) → IsPiece a c.args.left → IsPiece b c.args.right → IsPiece (raw at (raw_infix Equal a b)) r) (λ r f. λ at a b l h k.
    let p : IsPlain (raw at (raw_infix Equal a b)) = plain_equation at a b (sym (c.in_ok-name.ensures a h) ∙ c.in_default.is) in
    f (raw at (raw_infix Equal a b)) l p.alone p.defines_none (c.in_ok-both_free.ensures a b h k))

pub returns : goal.returns
returns c = λ at a b l h k. (l, named_kept at a b c.in-Some.name (record { name = Some c.in-Some.name; free = c.in_ok-free.free }) c.push.new.self.items (sym (c.in_ok-name.ensures a h) ∙ c.in-Some.is) refl (c.in_ok-free.ensures b k) (c.in_ok-push.ensures.items ∙ ap (λ xs. xs ++ record { name = Some c.in-Some.name; free = c.in_ok-free.free } ∷ []) c.new-known.ensures.items))
