use Rattle.std.proofs.Common.{◌≡◌, ◌≤◌, ◌<◌, ◌∙◌, ap, subst, arith, ℕ}
use Rattle.bk_limits.specs.declared.TheConstants.{GREATEST_TREE_HEIGHT}
use Rattle.bk_raw.specs.Trees.RawTree.{raw, tree_height, RawTree}
use Rattle.bk_p_expr.specs.Pieces.{IsPiece, between_node}
use Rattle.bk_p_expr.proofs.Choices.{ok_so}
use Rattle.bk_p_expr.proofs.Heights.{is_built, high_piece, between_height}
use Rattle.bk_p_expr.specs.declared.piece.Piece.{Piece}
use Rattle.bk_p_expr.specs.declared.piece.Between.{Between}
use Rattle.bk_p_expr.proofs.piece.Piece.with.Goals as goal

abbrev Wanted : ℕ → Between → Piece → Piece → Piece → Type 0
Wanted at form self other r = (left right : RawTree) → IsPiece left self → IsPiece right other → IsPiece (raw at (between_node form left right)) r

pub returns-in_default : goal.returns-in_default
returns-in_default c = ok_so _ _ c.too_high.ensures (Wanted c.args.at c.args.form c.args.self c.args.other) (λ r f. λ left right a b.
    let l : GREATEST_TREE_HEIGHT < tree_height left = high_piece c.args.self left (ap is_built c.in_default.is) a in
    f c.args.at left right (omega (arith, l, between_height c.args.form left right)) a b)

pub returns-in_default-other : goal.returns-in_default-other
returns-in_default-other c = ok_so _ _ c.too_high-in_default-other.ensures (Wanted c.args.at c.args.form c.args.self c.args.other) (λ r f. λ left right a b.
    let l : GREATEST_TREE_HEIGHT < tree_height right = high_piece c.args.other right (ap is_built c.in_default-other.is) b in
    f c.args.at left right (omega (arith, l, between_height c.args.form left right)) (subst (λ t. IsPiece left t) c.in-Built.is a) b)

pub returns-then-height-ge-HIGHEST : goal.returns-then-height-ge-HIGHEST
returns-then-height-ge-HIGHEST c = ok_so _ _ c.too_high-then-height-ge-HIGHEST.ensures (Wanted c.args.at c.args.form c.args.self c.args.other) (λ r f. λ left right a b.
    let s : (c.in-Built.left.value ≡ left) × (c.in-Built.one ≡ tree_height left) × (c.in-Built.one ≤ GREATEST_TREE_HEIGHT) = subst (λ t. IsPiece left t) c.in-Built.is a in
    let p : (c.in-Built-other.right.value ≡ right) × (c.in-Built-other.two ≡ tree_height right) × (c.in-Built-other.two ≤ GREATEST_TREE_HEIGHT) = subst (λ t. IsPiece right t) c.in-Built-other.is b in
    f c.args.at left right (omega (arith, c.if-height-ge-HIGHEST.true, between_height c.args.form left right, s.1, p.1, c.max-height.ensures)) s p)

pub returns : goal.returns
returns c = ok_so _ _ c.built.ensures (Wanted c.args.at c.args.form c.args.self c.args.other) (λ r f. λ left right a b.
    let s : (c.in-Built.left.value ≡ left) × (c.in-Built.one ≡ tree_height left) × (c.in-Built.one ≤ GREATEST_TREE_HEIGHT) = subst (λ t. IsPiece left t) c.in-Built.is a in
    let p : (c.in-Built-other.right.value ≡ right) × (c.in-Built-other.two ≡ tree_height right) × (c.in-Built-other.two ≤ GREATEST_TREE_HEIGHT) = subst (λ t. IsPiece right t) c.in-Built-other.is b in
    f (raw c.args.at (between_node c.args.form left right))
    ((λ i. raw c.args.at (c.node_between.ensures i)) ∙ (λ i. raw c.args.at (between_node c.args.form (s.0 i) (p.0 i))))
    (omega (arith, between_height c.args.form left right, s.1, p.1, c.max-height.ensures))
    (omega (arith, c.if-height-ge-HIGHEST.false)))
