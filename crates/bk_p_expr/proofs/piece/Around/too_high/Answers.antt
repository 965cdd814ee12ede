use Rattle.std.proofs.Common.{◌≡◌, ◌<◌, ◌∙◌, ap, sym, subst, ℕ}
use Rattle.bk_limits.specs.declared.TheConstants.{GREATEST_TREE_HEIGHT}
use Rattle.bk_raw.specs.Trees.RawTree.{RawTree, raw, tree_height}
use Rattle.bk_p_expr.specs.Conjuncts.{without}
use Rattle.bk_p_expr.specs.Pieces.{IsPiece, around_node}
use Rattle.bk_p_expr.specs.declared.piece.Around.TheVariants.{Word, Negative, Inverse, Comprehension, ForAll, Exists, TypedForAll, TypedExists}
use Rattle.bk_p_expr.proofs.Choices.{ok_so}
use Rattle.bk_p_expr.proofs.Known.{IsPlain, plain_around}
use Rattle.bk_p_expr.specs.declared.piece.Piece.{Piece}
use Rattle.bk_p_expr.specs.declared.piece.Around.{Around}
use Rattle.bk_p_expr.proofs.piece.Around.too_high.Goals as goal

abbrev Wanted : Around → Piece → Piece → Type 0
Wanted form inside r = (at : ℕ) (tree : RawTree) → GREATEST_TREE_HEIGHT < tree_height (raw at (around_node form tree)) → IsPiece tree inside → IsPiece (raw at (around_node form tree)) r

pub returns-in-Comprehension : goal.returns-in-Comprehension
returns-in-Comprehension c = ok_so _ _ c.too_high.ensures (Wanted c.args.self c.args.inside) (λ r f. λ at tree l h.
    let t : RawTree = raw at (around_node (Comprehension c.in-Comprehension.names) tree) in
    let p : IsPlain t = plain_around (Comprehension c.in-Comprehension.names) at tree in
    let e : c.args.self ≡ Comprehension c.in-Comprehension.names = c.in-Comprehension.is in
    subst (λ g. IsPiece (raw at (around_node g tree)) r) (sym e) (f t (subst (λ g. GREATEST_TREE_HEIGHT < tree_height (raw at (around_node g tree))) e l) p.alone p.defines_none (c.without.ensures ∙ ap (λ ns. without ns c.in_ok-free.free.items) c.deref.ensures.value ∙ ap (λ xs. without c.in-Comprehension.names.items xs) (c.in_ok-free.ensures tree h))))

pub returns-in-ForAll : goal.returns-in-ForAll
returns-in-ForAll c = ok_so _ _ c.too_high-in-ForAll.ensures (Wanted c.args.self c.args.inside) (λ r f. λ at tree l h.
    let t : RawTree = raw at (around_node (ForAll c.in-ForAll.names) tree) in
    let p : IsPlain t = plain_around (ForAll c.in-ForAll.names) at tree in
    let e : c.args.self ≡ ForAll c.in-ForAll.names = c.in-ForAll.is in
    subst (λ g. IsPiece (raw at (around_node g tree)) r) (sym e) (f t (subst (λ g. GREATEST_TREE_HEIGHT < tree_height (raw at (around_node g tree))) e l) p.alone p.defines_none (c.without-in-ForAll.ensures ∙ ap (λ ns. without ns c.in_ok-free.free.items) c.deref-in-ForAll.ensures.value ∙ ap (λ xs. without c.in-ForAll.names.items xs) (c.in_ok-free.ensures tree h))))

pub returns-in-Exists : goal.returns-in-Exists
returns-in-Exists c = ok_so _ _ c.too_high-in-Exists.ensures (Wanted c.args.self c.args.inside) (λ r f. λ at tree l h.
    let t : RawTree = raw at (around_node (Exists c.in-Exists.names) tree) in
    let p : IsPlain t = plain_around (Exists c.in-Exists.names) at tree in
    let e : c.args.self ≡ Exists c.in-Exists.names = c.in-Exists.is in
    subst (λ g. IsPiece (raw at (around_node g tree)) r) (sym e) (f t (subst (λ g. GREATEST_TREE_HEIGHT < tree_height (raw at (around_node g tree))) e l) p.alone p.defines_none (c.without-in-Exists.ensures ∙ ap (λ ns. without ns c.in_ok-free.free.items) c.deref-in-Exists.ensures.value ∙ ap (λ xs. without c.in-Exists.names.items xs) (c.in_ok-free.ensures tree h))))

pub returns-in-Word : goal.returns-in-Word
returns-in-Word c = ok_so _ _ c.too_high-in-Word.ensures (Wanted c.args.self c.args.inside) (λ r f. λ at tree l h.
    let t : RawTree = raw at (around_node (Word c.in-Word.field-0) tree) in
    let p : IsPlain t = plain_around (Word c.in-Word.field-0) at tree in
    let e : c.args.self ≡ Word c.in-Word.field-0 = c.in-Word.is in
    subst (λ g. IsPiece (raw at (around_node g tree)) r) (sym e) (f t (subst (λ g. GREATEST_TREE_HEIGHT < tree_height (raw at (around_node g tree))) e l) p.alone p.defines_none (c.in_ok-free.ensures tree h)))

pub returns-in-Negative : goal.returns-in-Negative
returns-in-Negative c = ok_so _ _ c.too_high-in-Negative.ensures (Wanted c.args.self c.args.inside) (λ r f. λ at tree l h.
    let t : RawTree = raw at (around_node (Negative) tree) in
    let p : IsPlain t = plain_around (Negative) at tree in
    let e : c.args.self ≡ Negative = c.in-Negative.is in
    subst (λ g. IsPiece (raw at (around_node g tree)) r) (sym e) (f t (subst (λ g. GREATEST_TREE_HEIGHT < tree_height (raw at (around_node g tree))) e l) p.alone p.defines_none (c.in_ok-free.ensures tree h)))

pub returns-in-Inverse : goal.returns-in-Inverse
returns-in-Inverse c = ok_so _ _ c.too_high-in-Inverse.ensures (Wanted c.args.self c.args.inside) (λ r f. λ at tree l h.
    let t : RawTree = raw at (around_node (Inverse) tree) in
    let p : IsPlain t = plain_around (Inverse) at tree in
    let e : c.args.self ≡ Inverse = c.in-Inverse.is in
    subst (λ g. IsPiece (raw at (around_node g tree)) r) (sym e) (f t (subst (λ g. GREATEST_TREE_HEIGHT < tree_height (raw at (around_node g tree))) e l) p.alone p.defines_none (c.in_ok-free.ensures tree h)))

pub returns-in-TypedForAll : goal.returns-in-TypedForAll
returns-in-TypedForAll c = ok_so _ _ c.too_high-in-TypedForAll.ensures (Wanted c.args.self c.args.inside) (λ r f. λ at tree l h.
    let t : RawTree = raw at (around_node (TypedForAll c.in-TypedForAll.field-0) tree) in
    let p : IsPlain t = plain_around (TypedForAll c.in-TypedForAll.field-0) at tree in
    let e : c.args.self ≡ TypedForAll c.in-TypedForAll.field-0 = c.in-TypedForAll.is in
    subst (λ g. IsPiece (raw at (around_node g tree)) r) (sym e) (f t (subst (λ g. GREATEST_TREE_HEIGHT < tree_height (raw at (around_node g tree))) e l) p.alone p.defines_none (c.in_ok-free.ensures tree h)))

pub returns : goal.returns
returns c = ok_so _ _ c.too_high-in-TypedExists.ensures (Wanted c.args.self c.args.inside) (λ r f. λ at tree l h.
    let t : RawTree = raw at (around_node (TypedExists c.in-TypedExists.field-0) tree) in
    let p : IsPlain t = plain_around (TypedExists c.in-TypedExists.field-0) at tree in
    let e : c.args.self ≡ TypedExists c.in-TypedExists.field-0 = c.in-TypedExists.is in
    subst (λ g. IsPiece (raw at (around_node g tree)) r) (sym e) (f t (subst (λ g. GREATEST_TREE_HEIGHT < tree_height (raw at (around_node g tree))) e l) p.alone p.defines_none (c.in_ok-free.ensures tree h)))
