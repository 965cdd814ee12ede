use Rattle.std.proofs.Common.{◌<◌, ◌∙◌, ap, refl, sym, subst, ℕ}
use Rattle.bk_limits.specs.declared.TheConstants.{GREATEST_TREE_HEIGHT}
use Rattle.bk_raw.specs.Trees.RawTree.{raw, tree_height, RawTree}
use Rattle.bk_p_expr.specs.Conjuncts.{without}
use Rattle.bk_p_expr.specs.Pieces.{IsPiece, between_node}
use Rattle.bk_p_expr.specs.declared.piece.Between.TheVariants.{Image, Apply, Composition, Pair, Lambda}
use Rattle.bk_p_expr.proofs.Choices.{ok_so}
use Rattle.bk_p_expr.specs.declared.piece.Piece.{Piece}
use Rattle.bk_p_expr.specs.declared.piece.Between.{Between}
use Rattle.bk_p_expr.proofs.piece.Between.too_high.Goals as goal

abbrev Wanted : Between → Piece → Piece → Piece → Type 0
Wanted form left right r = (at : ℕ) (a b : RawTree) → GREATEST_TREE_HEIGHT < tree_height (raw at (between_node form a b)) → IsPiece a left → IsPiece b right → IsPiece (raw at (between_node form a b)) r

pub returns-in-Infix : goal.returns-in-Infix
returns-in-Infix c = ok_so _ _ c.infix_too_high.ensures (Wanted c.args.self c.args.left c.args.right) (λ r f. λ at a b l h k.
    subst (λ g. IsPiece (raw at (between_node g a b)) r) (sym c.in-Infix.is) (f at a b (subst (λ g. GREATEST_TREE_HEIGHT < tree_height (raw at (between_node g a b))) c.in-Infix.is l) h k))

pub returns-in_ok-free-in-Lambda : goal.returns-in_ok-free-in-Lambda
returns-in_ok-free-in-Lambda c = ok_so _ _ c.too_high.ensures (Wanted c.args.self c.args.left c.args.right) (λ r f. λ at a b l h k.
    subst (λ g. IsPiece (raw at (between_node g a b)) r) (sym c.in-Lambda.is) (f (raw at (between_node (Lambda c.in-Lambda.names) a b)) (subst (λ g. GREATEST_TREE_HEIGHT < tree_height (raw at (between_node g a b))) c.in-Lambda.is l) refl refl (c.without.ensures ∙ ap (λ ns. without ns c.in_ok-free-in-Lambda.free.items) c.deref.ensures.value ∙ ap (λ xs. without c.in-Lambda.names.items xs) (c.in_ok-free-in-Lambda.ensures a b h k))))

pub returns-in_ok-both_free-in-Image : goal.returns-in_ok-both_free-in-Image
returns-in_ok-both_free-in-Image c = ok_so _ _ c.too_high-in-Image.ensures (Wanted c.args.self c.args.left c.args.right) (λ r f. λ at a b l h k.
    subst (λ g. IsPiece (raw at (between_node g a b)) r) (sym c.in-Image.is) (f (raw at (between_node Image a b)) (subst (λ g. GREATEST_TREE_HEIGHT < tree_height (raw at (between_node g a b))) c.in-Image.is l) refl refl (c.in_ok-both_free-in-Image.ensures a b h k)))

pub returns-in_ok-both_free-in-Apply : goal.returns-in_ok-both_free-in-Apply
returns-in_ok-both_free-in-Apply c = ok_so _ _ c.too_high-in-Apply.ensures (Wanted c.args.self c.args.left c.args.right) (λ r f. λ at a b l h k.
    subst (λ g. IsPiece (raw at (between_node g a b)) r) (sym c.in-Apply.is) (f (raw at (between_node Apply a b)) (subst (λ g. GREATEST_TREE_HEIGHT < tree_height (raw at (between_node g a b))) c.in-Apply.is l) refl refl (c.in_ok-both_free-in-Apply.ensures a b h k)))

pub returns-in_ok-both_free-in-Composition : goal.returns-in_ok-both_free-in-Composition
returns-in_ok-both_free-in-Composition c = ok_so _ _ c.too_high-in-Composition.ensures (Wanted c.args.self c.args.left c.args.right) (λ r f. λ at a b l h k.
    subst (λ g. IsPiece (raw at (between_node g a b)) r) (sym c.in-Composition.is) (f (raw at (between_node Composition a b)) (subst (λ g. GREATEST_TREE_HEIGHT < tree_height (raw at (between_node g a b))) c.in-Composition.is l) refl refl (c.in_ok-both_free-in-Composition.ensures a b h k)))

pub returns-in_ok-both_free-in-Pair : goal.returns-in_ok-both_free-in-Pair
returns-in_ok-both_free-in-Pair c = ok_so _ _ c.too_high-in-Pair.ensures (Wanted c.args.self c.args.left c.args.right) (λ r f. λ at a b l h k.
    subst (λ g. IsPiece (raw at (between_node g a b)) r) (sym c.in-Pair.is) (f (raw at (between_node Pair a b)) (subst (λ g. GREATEST_TREE_HEIGHT < tree_height (raw at (between_node g a b))) c.in-Pair.is l) refl refl (c.in_ok-both_free-in-Pair.ensures a b h k)))
