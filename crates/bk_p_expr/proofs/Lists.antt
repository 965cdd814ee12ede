-- Things with dividers between, one after another.
use Rattle.std.specs.Prelude.{◌≡◌, ℕ, zero, suc, pred, ◌-◌, ◌<◌, ◌≤◌, Bool, true, false, cond, List, [], ◌∷◌, ◌++◌, length, Option, None, Some, refl}
use Rattle.std.proofs.Common.{arith, sym, ◌∙◌, append_assoc}
use Rattle.bk_form.specs.declared.token.Token.{Token}
use Rattle.bk_form.specs.declared.token.TokenKind.{TokenKind}
use Rattle.bk_form.specs.declared.token.TokenKind.TheVariants.{Name, LevelName, BoundName, Number, Sign, Word}
use Rattle.bk_ops.specs.declared.sign.TheConstants.{COMMA}
use Rattle.bk_raw.specs.Trees.RawTree.{RawTree, raw, RawTreeNode, RawTrees, no_trees, tree_and, RawRanges, no_ranges, range_and}
use Rattle.bk_raw.specs.declared.term.RawName.{RawName}
use Rattle.bk_raw.specs.declared.term.RawBound.{RawBound}
use Rattle.bk_raw.specs.Grammar.Reading.{next, named, name, names, sign, begins_with, bound, bounds, typed, chain, terms, ranges, read}
use Rattle.bk_p_expr.specs.PrintedTypes.{typed_bound}
use Rattle.bk_p_expr.specs.Pieces.{IsPiece, IsTerms, IsRanges, and_trees, and_ranges, and_tree, and_range}
use Rattle.bk_p_expr.specs.Found.{Finds, FindsNone}
use Rattle.bk_p_expr.specs.declared.piece.Piece.{Piece}
use Rattle.bk_p_expr.specs.declared.piece.Terms.{Terms}
use Rattle.bk_p_expr.specs.declared.piece.Ranges.{Ranges}
use Rattle.bk_p_expr.proofs.Choices.{next_found, next_fails, next_joined}
use Rattle.bk_p_expr.proofs.Fuel.{pred_is, Continues, continues_more, continues_done}

-- ---- terms joined to the left
pub chain_stops : (m n op : ℕ) (make : RawTree → RawTree → RawTreeNode) (at : ℕ) (left : RawTree) (ts : List Token) → begins_with op ts ≡ false → chain m (read n) op make at left ts ≡ Some (left, ts)
chain_stops zero n op make at left ts e = refl
chain_stops (suc m) n op make at left ts e = λ i. cond (e i) (next (sign op ts) (λ _ us. next (read n 0 us) (λ right vs. chain m (read n) op make at (raw at (make left right)) vs))) (Some (left, ts))

chain_reads : (m n op : ℕ) (make : RawTree → RawTree → RawTreeNode) (at : ℕ) (left : RawTree) (ts : List Token) (t : Token) (us : List Token) → 1 ≤ m → begins_with op ts ≡ true → sign op ts ≡ Some (t, us) → chain m (read n) op make at left ts ≡ next (read n 0 us) (λ right vs. chain (pred m) (read n) op make at (raw at (make left right)) vs)
chain_reads zero n op make at left ts t us l b e = absurd (omega (arith, l))
chain_reads (suc m) n op make at left ts t us l b e = (λ i. cond (b i) (next (sign op ts) (λ _ us. next (read n 0 us) (λ right vs. chain m (read n) op make at (raw at (make left right)) vs))) (Some (left, ts))) ∙ next_found (sign op ts) t us (λ _ us. next (read n 0 us) (λ right vs. chain m (read n) op make at (raw at (make left right)) vs)) e

-- as far as a chain is read: what is read so far stands for the first term and what follows it up to the rest
pub record ChainSoFar (op : ℕ) (make : RawTree → RawTree → RawTreeNode) (at : ℕ) (first : RawTree) (ts : List Token) (left : Piece) (rest : List Token) : Type 0 where
  pub tree : RawTree
  pub built : IsPiece tree left
  pub so_far : Continues (length ts) (length rest) (λ n. chain n (read n) op make at first ts) (λ n k. chain k (read n) op make at tree rest)
  pub shorter : length rest ≤ length ts

pub chain_begins : (op : ℕ) (make : RawTree → RawTree → RawTreeNode) (at : ℕ) (first : RawTree) (ts : List Token) (left : Piece) → IsPiece first left → ChainSoFar op make at first ts left ts
chain_begins op make at first ts left h = record { tree = first; built = h; so_far = record { so_far = λ n m. (n, m, refl) }; shorter = omega arith }

pub chain_goes_on : (op : ℕ) (make : RawTree → RawTree → RawTreeNode) (at : ℕ) (first : RawTree) (ts : List Token) (left : Piece) (rest : List Token) (t : Token) (us : List Token) (right : Piece) (after : List Token) (new : Piece) → ChainSoFar op make at first ts left rest → begins_with op rest ≡ true → sign op rest ≡ Some (t, us) → length us < length rest → Finds (λ n. read n 0 us) (length us) (λ x. x) right after → length after < length us → ((a b : RawTree) → IsPiece a left → IsPiece b right → IsPiece (raw at (make a b)) new) → ChainSoFar op make at first ts new after
chain_goes_on op make at first ts left rest t us right after new s b e l f r h = record {
  tree = raw at (make s.tree f.tree);
  built = h s.tree f.tree s.built f.built;
  so_far = continues_more (length ts) (length rest) (length after) (λ n. chain n (read n) op make at first ts) (λ n k. chain k (read n) op make at s.tree rest) (λ n k. chain k (read n) op make at (raw at (make s.tree f.tree)) after) s.so_far (λ n k m q. (pred k, omega (arith, pred_is k, q, l, r), chain_reads k n op make at s.tree rest t us (omega (arith, q, l)) b e ∙ next_found (read n 0 us) f.tree after (λ right vs. chain (pred k) (read n) op make at (raw at (make s.tree right)) vs) (f.found n (omega (arith, m, l, s.shorter)))));
  shorter = omega (arith, l, r, s.shorter);
}

pub chain_ends : (op : ℕ) (make : RawTree → RawTree → RawTreeNode) (at : ℕ) (first : RawTree) (ts : List Token) (left : Piece) (rest : List Token) → ChainSoFar op make at first ts left rest → begins_with op rest ≡ false → Finds (λ n. chain n (read n) op make at first ts) (length ts) (λ x. x) left rest
chain_ends op make at first ts left rest s b = record {
  tree = s.tree;
  found = continues_done (length ts) (length rest) (λ n. chain n (read n) op make at first ts) (λ n k. chain k (read n) op make at s.tree rest) (Some (s.tree, rest)) s.so_far (λ n k m q. chain_stops k n op make at s.tree rest b);
  built = s.built;
}

pub chain_fails : (op : ℕ) (make : RawTree → RawTree → RawTreeNode) (at : ℕ) (first : RawTree) (ts : List Token) (left : Piece) (rest : List Token) (t : Token) (us : List Token) → ChainSoFar op make at first ts left rest → begins_with op rest ≡ true → sign op rest ≡ Some (t, us) → length us < length rest → FindsNone (λ n. read n 0 us) (length us) → FindsNone (λ n. chain n (read n) op make at first ts) (length ts)
chain_fails op make at first ts left rest t us s b e l f = continues_done (length ts) (length rest) (λ n. chain n (read n) op make at first ts) (λ n k. chain k (read n) op make at s.tree rest) None s.so_far (λ n k m q. chain_reads k n op make at s.tree rest t us (omega (arith, q, l)) b e ∙ next_fails (read n 0 us) (λ right vs. chain (pred k) (read n) op make at (raw at (make s.tree right)) vs) (f n (omega (arith, m, l, s.shorter))))

-- ---- terms in braces
-- terms that are read, up to this rest
pub record TermsFound (ts : List Token) (all : Terms) (rest : List Token) : Type 0 where
  pub trees : RawTrees
  pub found : (n : ℕ) → length ts ≤ n → terms n (read n) ts ≡ Some (trees, rest)
  pub built : IsTerms trees all

terms_fails_at : (k n : ℕ) (ts : List Token) → read n 0 ts ≡ None → terms k (read n) ts ≡ None
terms_fails_at zero n ts e = refl
terms_fails_at (suc k) n ts e = next_fails (read n 0 ts) (λ t us. cond (begins_with COMMA us) (next (sign COMMA us) (λ _ vs. next (terms k (read n) vs) (λ rest ws. Some (tree_and t rest, ws)))) (Some (tree_and t no_trees, us))) e

terms_last : (k n : ℕ) (ts : List Token) (x : RawTree) (us : List Token) → 1 ≤ k → read n 0 ts ≡ Some (x, us) → begins_with COMMA us ≡ false → terms k (read n) ts ≡ Some (tree_and x no_trees, us)
terms_last zero n ts x us l e b = absurd (omega (arith, l))
terms_last (suc k) n ts x us l e b = next_found (read n 0 ts) x us (λ t us. cond (begins_with COMMA us) (next (sign COMMA us) (λ _ vs. next (terms k (read n) vs) (λ rest ws. Some (tree_and t rest, ws)))) (Some (tree_and t no_trees, us))) e ∙ (λ i. cond (b i) (next (sign COMMA us) (λ _ vs. next (terms k (read n) vs) (λ rest ws. Some (tree_and x rest, ws)))) (Some (tree_and x no_trees, us)))

terms_more : (k n : ℕ) (ts : List Token) (x : RawTree) (us : List Token) (t : Token) (vs : List Token) → 1 ≤ k → read n 0 ts ≡ Some (x, us) → begins_with COMMA us ≡ true → sign COMMA us ≡ Some (t, vs) → terms k (read n) ts ≡ next (terms (pred k) (read n) vs) (λ rest ws. Some (tree_and x rest, ws))
terms_more zero n ts x us t vs l e b c = absurd (omega (arith, l))
terms_more (suc k) n ts x us t vs l e b c = next_found (read n 0 ts) x us (λ t us. cond (begins_with COMMA us) (next (sign COMMA us) (λ _ vs. next (terms k (read n) vs) (λ rest ws. Some (tree_and t rest, ws)))) (Some (tree_and t no_trees, us))) e ∙ (λ i. cond (b i) (next (sign COMMA us) (λ _ vs. next (terms k (read n) vs) (λ rest ws. Some (tree_and x rest, ws)))) (Some (tree_and x no_trees, us))) ∙ next_found (sign COMMA us) t vs (λ _ vs. next (terms k (read n) vs) (λ rest ws. Some (tree_and x rest, ws))) c

and_trees-and_tree : (ts : RawTrees) (t : RawTree) (us : RawTrees) → and_trees (and_tree ts t) us ≡ and_trees ts (tree_and t us)
and_trees-and_tree no_trees t us = refl
and_trees-and_tree (tree_and s ts) t us = λ i. tree_and s (and_trees-and_tree ts t us i)

-- the terms so far before those that are read
abbrev put_before : RawTrees → Option (RawTrees × List Token) → Option (RawTrees × List Token)
put_before done None = None
put_before done (Some p) = Some (and_trees done p.0, p.1)

put_one_more : (done : RawTrees) (x : RawTree) (r : Option (RawTrees × List Token)) → put_before done (next r (λ more ws. Some (tree_and x more, ws))) ≡ put_before (and_tree done x) r
put_one_more done x None = refl
put_one_more done x (Some p) = λ i. Some (sym (and_trees-and_tree done x p.0) i, p.1)

pub record TermsSoFar (ts : List Token) (all : Terms) (rest : List Token) : Type 0 where
  pub trees : RawTrees
  pub built : IsTerms trees all
  pub so_far : Continues (length ts) (length rest) (λ n. terms n (read n) ts) (λ n k. put_before trees (terms k (read n) rest))
  pub shorter : length rest ≤ length ts

before_none : (r : Option (RawTrees × List Token)) → r ≡ put_before no_trees r
before_none None = refl
before_none (Some p) = refl

pub terms_begins : (ts : List Token) (all : Terms) → IsTerms no_trees all → TermsSoFar ts all ts
terms_begins ts all h = record { trees = no_trees; built = h; so_far = record { so_far = λ n m. (n, m, before_none (terms n (read n) ts)) }; shorter = omega arith }

pub terms_goes_on : (ts : List Token) (all : Terms) (rest : List Token) (piece : Piece) (after : List Token) (new : Terms) (t : Token) (more : List Token) → TermsSoFar ts all rest → Finds (λ n. read n 0 rest) (length rest) (λ x. x) piece after → length after < length rest → ((trees : RawTrees) (tree : RawTree) → IsTerms trees all → IsPiece tree piece → IsTerms (and_tree trees tree) new) → begins_with COMMA after ≡ true → sign COMMA after ≡ Some (t, more) → length more < length after → TermsSoFar ts new more
terms_goes_on ts all rest piece after new t more s f l h b e r = record {
  trees = and_tree s.trees f.tree;
  built = h s.trees f.tree s.built f.built;
  so_far = continues_more (length ts) (length rest) (length more) (λ n. terms n (read n) ts) (λ n k. put_before s.trees (terms k (read n) rest)) (λ n k. put_before (and_tree s.trees f.tree) (terms k (read n) more)) s.so_far (λ n k m q. (pred k, omega (arith, pred_is k, q, l, r), (λ i. put_before s.trees (terms_more k n rest f.tree after t more (omega (arith, q, l)) (f.found n (omega (arith, m, s.shorter))) b e i)) ∙ put_one_more s.trees f.tree (terms (pred k) (read n) more)));
  shorter = omega (arith, l, r, s.shorter);
}

pub terms_ends : (ts : List Token) (all : Terms) (rest : List Token) (piece : Piece) (after : List Token) (new : Terms) → TermsSoFar ts all rest → Finds (λ n. read n 0 rest) (length rest) (λ x. x) piece after → length after < length rest → ((trees : RawTrees) (tree : RawTree) → IsTerms trees all → IsPiece tree piece → IsTerms (and_tree trees tree) new) → begins_with COMMA after ≡ false → TermsFound ts new after
terms_ends ts all rest piece after new s f l h b = record {
  trees = and_tree s.trees f.tree;
  found = continues_done (length ts) (length rest) (λ n. terms n (read n) ts) (λ n k. put_before s.trees (terms k (read n) rest)) (Some (and_tree s.trees f.tree, after)) s.so_far (λ n k m q. (λ i. put_before s.trees (terms_last k n rest f.tree after (omega (arith, q, l)) (f.found n (omega (arith, m, s.shorter))) b i)));
  built = h s.trees f.tree s.built f.built;
}

pub terms_fails : (ts : List Token) (all : Terms) (rest : List Token) → TermsSoFar ts all rest → FindsNone (λ n. read n 0 rest) (length rest) → FindsNone (λ n. terms n (read n) ts) (length ts)
terms_fails ts all rest s f = continues_done (length ts) (length rest) (λ n. terms n (read n) ts) (λ n k. put_before s.trees (terms k (read n) rest)) None s.so_far (λ n k m q. (λ i. put_before s.trees (terms_fails_at k n rest (f n (omega (arith, m, s.shorter))) i)))

-- ---- bound variables with their ranges
-- bound variables that are read with their ranges, up to this rest
pub record RangesFound (ts : List Token) (all : Ranges) (rest : List Token) : Type 0 where
  pub trees : RawRanges
  pub found : (n : ℕ) → length ts ≤ n → ranges n (read n) ts ≡ Some (trees, rest)
  pub built : IsRanges trees all

-- $n:d
abbrev range_in : ℕ → List Token → Option ((ℕ × ℕ × RawTree) × List Token)
range_in n ts = next (bound ts) (λ b us. next (read n 4 us) (λ d vs. Some ((b.0, b.1, d), vs)))

ranges_by_bound : (k n : ℕ) (r : Option ((ℕ × ℕ) × List Token)) → next r (λ b us. next (read n 4 us) (λ d vs. cond (begins_with COMMA vs) (next (sign COMMA vs) (λ _ ws. next (ranges k (read n) ws) (λ rest xs. Some (range_and b.0 b.1 d rest, xs)))) (Some (range_and b.0 b.1 d no_ranges, vs)))) ≡ next {A = ℕ × ℕ × RawTree} (next {B = ℕ × ℕ × RawTree} r (λ b us. next {B = ℕ × ℕ × RawTree} (read n 4 us) (λ d vs. Some ((b.0, b.1, d), vs)))) (λ r vs. cond (begins_with COMMA vs) (next (sign COMMA vs) (λ _ ws. next (ranges k (read n) ws) (λ rest xs. Some (range_and r.0 r.1 r.2 rest, xs)))) (Some (range_and r.0 r.1 r.2 no_ranges, vs)))
ranges_by_bound k n None = refl
ranges_by_bound k n (Some p) = sym (next_joined (read n 4 p.1) (λ d vs. Some ((p.0.0, p.0.1, d), vs)) (λ r vs. cond (begins_with COMMA vs) (next (sign COMMA vs) (λ _ ws. next (ranges k (read n) ws) (λ rest xs. Some (range_and r.0 r.1 r.2 rest, xs)))) (Some (range_and r.0 r.1 r.2 no_ranges, vs))))

ranges_by : (k n : ℕ) (ts : List Token) → ranges (suc k) (read n) ts ≡ next (range_in n ts) (λ r vs. cond (begins_with COMMA vs) (next (sign COMMA vs) (λ _ ws. next (ranges k (read n) ws) (λ rest xs. Some (range_and r.0 r.1 r.2 rest, xs)))) (Some (range_and r.0 r.1 r.2 no_ranges, vs)))
ranges_by k n ts = ranges_by_bound k n (bound ts)

ranges_fails_at : (k n : ℕ) (ts : List Token) → range_in n ts ≡ None → ranges k (read n) ts ≡ None
ranges_fails_at zero n ts e = refl
ranges_fails_at (suc k) n ts e = ranges_by k n ts ∙ next_fails (range_in n ts) (λ r vs. cond (begins_with COMMA vs) (next (sign COMMA vs) (λ _ ws. next (ranges k (read n) ws) (λ rest xs. Some (range_and r.0 r.1 r.2 rest, xs)))) (Some (range_and r.0 r.1 r.2 no_ranges, vs))) e

ranges_last : (k n : ℕ) (ts : List Token) (at number : ℕ) (x : RawTree) (us : List Token) → 1 ≤ k → range_in n ts ≡ Some ((at, number, x), us) → begins_with COMMA us ≡ false → ranges k (read n) ts ≡ Some (range_and at number x no_ranges, us)
ranges_last zero n ts at number x us l e b = absurd (omega (arith, l))
ranges_last (suc k) n ts at number x us l e b = ranges_by k n ts ∙ next_found (range_in n ts) (at, number, x) us (λ r vs. cond (begins_with COMMA vs) (next (sign COMMA vs) (λ _ ws. next (ranges k (read n) ws) (λ rest xs. Some (range_and r.0 r.1 r.2 rest, xs)))) (Some (range_and r.0 r.1 r.2 no_ranges, vs))) e ∙ (λ i. cond (b i) (next (sign COMMA us) (λ _ ws. next (ranges k (read n) ws) (λ rest xs. Some (range_and at number x rest, xs)))) (Some (range_and at number x no_ranges, us)))

ranges_more : (k n : ℕ) (ts : List Token) (at number : ℕ) (x : RawTree) (us : List Token) (t : Token) (vs : List Token) → 1 ≤ k → range_in n ts ≡ Some ((at, number, x), us) → begins_with COMMA us ≡ true → sign COMMA us ≡ Some (t, vs) → ranges k (read n) ts ≡ next (ranges (pred k) (read n) vs) (λ rest ws. Some (range_and at number x rest, ws))
ranges_more zero n ts at number x us t vs l e b c = absurd (omega (arith, l))
ranges_more (suc k) n ts at number x us t vs l e b c = ranges_by k n ts ∙ next_found (range_in n ts) (at, number, x) us (λ r vs. cond (begins_with COMMA vs) (next (sign COMMA vs) (λ _ ws. next (ranges k (read n) ws) (λ rest xs. Some (range_and r.0 r.1 r.2 rest, xs)))) (Some (range_and r.0 r.1 r.2 no_ranges, vs))) e ∙ (λ i. cond (b i) (next (sign COMMA us) (λ _ ws. next (ranges k (read n) ws) (λ rest xs. Some (range_and at number x rest, xs)))) (Some (range_and at number x no_ranges, us))) ∙ next_found (sign COMMA us) t vs (λ _ ws. next (ranges k (read n) ws) (λ rest xs. Some (range_and at number x rest, xs))) c

and_ranges-and_range : (rs : RawRanges) (at n : ℕ) (d : RawTree) (ss : RawRanges) → and_ranges (and_range rs at n d) ss ≡ and_ranges rs (range_and at n d ss)
and_ranges-and_range no_ranges at n d ss = refl
and_ranges-and_range (range_and bt m e rs) at n d ss = λ i. range_and bt m e (and_ranges-and_range rs at n d ss i)

abbrev ranges_before : RawRanges → Option (RawRanges × List Token) → Option (RawRanges × List Token)
ranges_before done None = None
ranges_before done (Some p) = Some (and_ranges done p.0, p.1)

one_more_range : (done : RawRanges) (at number : ℕ) (x : RawTree) (r : Option (RawRanges × List Token)) → ranges_before done (next r (λ more ws. Some (range_and at number x more, ws))) ≡ ranges_before (and_range done at number x) r
one_more_range done at number x None = refl
one_more_range done at number x (Some p) = λ i. Some (sym (and_ranges-and_range done at number x p.0) i, p.1)

pub record RangesSoFar (ts : List Token) (all : Ranges) (rest : List Token) : Type 0 where
  pub trees : RawRanges
  pub built : IsRanges trees all
  pub so_far : Continues (length ts) (length rest) (λ n. ranges n (read n) ts) (λ n k. ranges_before trees (ranges k (read n) rest))
  pub shorter : length rest ≤ length ts

none_before : (r : Option (RawRanges × List Token)) → r ≡ ranges_before no_ranges r
none_before None = refl
none_before (Some p) = refl

pub ranges_begins : (ts : List Token) (all : Ranges) → IsRanges no_ranges all → RangesSoFar ts all ts
ranges_begins ts all h = record { trees = no_ranges; built = h; so_far = record { so_far = λ n m. (n, m, none_before (ranges n (read n) ts)) }; shorter = omega arith }

range_found : (n : ℕ) (ts : List Token) (at number : ℕ) (us : List Token) (x : RawTree) (vs : List Token) → bound ts ≡ Some ((at, number), us) → read n 4 us ≡ Some (x, vs) → range_in n ts ≡ Some ((at, number, x), vs)
range_found n ts at number us x vs e f = next_found (bound ts) (at, number) us (λ b us. next (read n 4 us) (λ d vs. Some ((b.0, b.1, d), vs))) e ∙ next_found (read n 4 us) x vs (λ d vs. Some ((at, number, d), vs)) f

pub ranges_goes_on : (ts : List Token) (all : Ranges) (rest : List Token) (at number : ℕ) (behind : List Token) (piece : Piece) (after : List Token) (new : Ranges) (t : Token) (more : List Token) → RangesSoFar ts all rest → bound rest ≡ Some ((at, number), behind) → length behind < length rest → Finds (λ n. read n 4 behind) (length behind) (λ x. x) piece after → length after < length behind → ((trees : RawRanges) (tree : RawTree) → IsRanges trees all → IsPiece tree piece → IsRanges (and_range trees at number tree) new) → begins_with COMMA after ≡ true → sign COMMA after ≡ Some (t, more) → length more < length after → RangesSoFar ts new more
ranges_goes_on ts all rest at number behind piece after new t more s a o f l h b e r = record {
  trees = and_range s.trees at number f.tree;
  built = h s.trees f.tree s.built f.built;
  so_far = continues_more (length ts) (length rest) (length more) (λ n. ranges n (read n) ts) (λ n k. ranges_before s.trees (ranges k (read n) rest)) (λ n k. ranges_before (and_range s.trees at number f.tree) (ranges k (read n) more)) s.so_far (λ n k m q. (pred k, omega (arith, pred_is k, q, l, r, o), (λ i. ranges_before s.trees (ranges_more k n rest at number f.tree after t more (omega (arith, q, o)) (range_found n rest at number behind f.tree after a (f.found n (omega (arith, m, s.shorter, o)))) b e i)) ∙ one_more_range s.trees at number f.tree (ranges (pred k) (read n) more)));
  shorter = omega (arith, l, r, o, s.shorter);
}

pub ranges_ends : (ts : List Token) (all : Ranges) (rest : List Token) (at number : ℕ) (behind : List Token) (piece : Piece) (after : List Token) (new : Ranges) → RangesSoFar ts all rest → bound rest ≡ Some ((at, number), behind) → length behind < length rest → Finds (λ n. read n 4 behind) (length behind) (λ x. x) piece after → length after < length behind → ((trees : RawRanges) (tree : RawTree) → IsRanges trees all → IsPiece tree piece → IsRanges (and_range trees at number tree) new) → begins_with COMMA after ≡ false → RangesFound ts new after
ranges_ends ts all rest at number behind piece after new s a o f l h b = record {
  trees = and_range s.trees at number f.tree;
  found = continues_done (length ts) (length rest) (λ n. ranges n (read n) ts) (λ n k. ranges_before s.trees (ranges k (read n) rest)) (Some (and_range s.trees at number f.tree, after)) s.so_far (λ n k m q. (λ i. ranges_before s.trees (ranges_last k n rest at number f.tree after (omega (arith, q, o)) (range_found n rest at number behind f.tree after a (f.found n (omega (arith, m, s.shorter, o)))) b i)));
  built = h s.trees f.tree s.built f.built;
}

pub ranges_fails : (ts : List Token) (all : Ranges) (rest : List Token) → RangesSoFar ts all rest → bound rest ≡ None → FindsNone (λ n. ranges n (read n) ts) (length ts)
ranges_fails ts all rest s a = continues_done (length ts) (length rest) (λ n. ranges n (read n) ts) (λ n k. ranges_before s.trees (ranges k (read n) rest)) None s.so_far (λ n k m q. (λ i. ranges_before s.trees (ranges_fails_at k n rest (next_fails (bound rest) (λ b us. next (read n 4 us) (λ d vs. Some ((b.0, b.1, d), vs))) a) i)))

pub ranges_fails_behind : (ts : List Token) (all : Ranges) (rest : List Token) (at number : ℕ) (behind : List Token) → RangesSoFar ts all rest → bound rest ≡ Some ((at, number), behind) → length behind < length rest → FindsNone (λ n. read n 4 behind) (length behind) → FindsNone (λ n. ranges n (read n) ts) (length ts)
ranges_fails_behind ts all rest at number behind s a o f = continues_done (length ts) (length rest) (λ n. ranges n (read n) ts) (λ n k. ranges_before s.trees (ranges k (read n) rest)) None s.so_far (λ n k m q. (λ i. ranges_before s.trees (ranges_fails_at k n rest (next_found (bound rest) (at, number) behind (λ b us. next (read n 4 us) (λ d vs. Some ((b.0, b.1, d), vs))) a ∙ next_fails (read n 4 behind) (λ d vs. Some ((at, number, d), vs)) (f n (omega (arith, m, s.shorter, o)))) i)))

-- ---- names and bound variables with types
-- the names behind a comma
abbrev further : RawName → List Token → Option (List RawName × List Token)
further x us = cond (begins_with COMMA us) (next (sign COMMA us) (λ _ vs. next (names vs) (λ xs ws. Some (x ∷ xs, ws)))) (Some (x ∷ [], us))

comma_twice : (b : Bool) (c : Token) (ts : List Token) (x : RawName) (d : Option (List RawName × List Token)) → cond b (next (names ts) (λ xs us. Some (x ∷ xs, us))) d ≡ cond b (next (cond b (Some (c, ts)) None) (λ _ vs. next (names vs) (λ xs ws. Some (x ∷ xs, ws)))) d
comma_twice true c ts x d = refl
comma_twice false c ts x d = refl

none_twice : {A : Type 0} (b : Bool) → cond b None None ≡ (let n : Option A = None in n)
none_twice true = refl
none_twice false = refl

names_two : (k : TokenKind) (at : ℕ) (c : Token) (ts : List Token) → cond (begins_with COMMA (c ∷ ts)) (next (named k at ts) (λ x _. next (names ts) (λ xs us. Some (x ∷ xs, us)))) (next (named k at (c ∷ ts)) (λ x us. Some (x ∷ [], us))) ≡ next (named k at (c ∷ ts)) further
names_two (Name text) at c ts = comma_twice (begins_with COMMA (c ∷ ts)) c ts (record { at = at; text = text }) (Some (record { at = at; text = text } ∷ [], c ∷ ts))
names_two (LevelName text n) at c ts = none_twice (begins_with COMMA (c ∷ ts))
names_two (BoundName n) at c ts = none_twice (begins_with COMMA (c ∷ ts))
names_two (Number z) at c ts = none_twice (begins_with COMMA (c ∷ ts))
names_two (Sign op) at c ts = none_twice (begins_with COMMA (c ∷ ts))
names_two (Word op) at c ts = none_twice (begins_with COMMA (c ∷ ts))

names_one : (k : TokenKind) (at : ℕ) → next (named k at []) (λ x us. Some (x ∷ [], us)) ≡ next (named k at []) further
names_one (Name text) at = refl
names_one (LevelName text n) at = refl
names_one (BoundName n) at = refl
names_one (Number z) at = refl
names_one (Sign op) at = refl
names_one (Word op) at = refl

pub names_by : (ts : List Token) → names ts ≡ next (name ts) further
names_by [] = refl
names_by (t ∷ []) = names_one t.kind t.start
names_by (t ∷ c ∷ ts) = names_two t.kind t.start c ts

further_none : (x : RawName) (us : List Token) → begins_with COMMA us ≡ false → further x us ≡ Some (x ∷ [], us)
further_none x us b = λ i. cond (b i) (next (sign COMMA us) (λ _ vs. next (names vs) (λ xs ws. Some (x ∷ xs, ws)))) (Some (x ∷ [], us))

further_some : (x : RawName) (us : List Token) (c : Token) (vs : List Token) → begins_with COMMA us ≡ true → sign COMMA us ≡ Some (c, vs) → further x us ≡ next (names vs) (λ xs ws. Some (x ∷ xs, ws))
further_some x us c vs b e = (λ i. cond (b i) (next (sign COMMA us) (λ _ vs. next (names vs) (λ xs ws. Some (x ∷ xs, ws)))) (Some (x ∷ [], us))) ∙ next_found (sign COMMA us) c vs (λ _ vs. next (names vs) (λ xs ws. Some (x ∷ xs, ws))) e

-- what stands before, and what is read
abbrev pub put_all_before : {A : Type 0} → List A → Option (List A × List Token) → Option (List A × List Token)
put_all_before done None = None
put_all_before done (Some p) = Some (done ++ p.0, p.1)

put_last : {A : Type 0} (done : List A) (x : A) (r : Option (List A × List Token)) → put_all_before done (next r (λ xs ws. Some (x ∷ xs, ws))) ≡ put_all_before (done ++ x ∷ []) r
put_last done x None = refl
put_last done x (Some p) = λ i. Some (sym (append_assoc done (x ∷ []) p.0) i, p.1)

put_none : {A : Type 0} (r : Option (List A × List Token)) → r ≡ put_all_before [] r
put_none None = refl
put_none (Some p) = refl

pub names_begins : (ts : List Token) → names ts ≡ put_all_before [] (names ts)
names_begins ts = put_none (names ts)

pub names_goes_on : (whole : Option (List RawName × List Token)) (done : List RawName) (rest : List Token) (x : RawName) (after : List Token) (c : Token) (more : List Token) → whole ≡ put_all_before done (names rest) → name rest ≡ Some (x, after) → begins_with COMMA after ≡ true → sign COMMA after ≡ Some (c, more) → whole ≡ put_all_before (done ++ x ∷ []) (names more)
names_goes_on whole done rest x after c more s e b f = s ∙ (λ i. put_all_before done ((names_by rest ∙ next_found (name rest) x after further e ∙ further_some x after c more b f) i)) ∙ put_last done x (names more)

pub names_ends : (whole : Option (List RawName × List Token)) (done : List RawName) (rest : List Token) (x : RawName) (after : List Token) → whole ≡ put_all_before done (names rest) → name rest ≡ Some (x, after) → begins_with COMMA after ≡ false → whole ≡ Some (done ++ x ∷ [], after)
names_ends whole done rest x after s e b = s ∙ (λ i. put_all_before done ((names_by rest ∙ next_found (name rest) x after further e ∙ further_none x after b) i))

pub names_fails : (whole : Option (List RawName × List Token)) (done : List RawName) (rest : List Token) → whole ≡ put_all_before done (names rest) → name rest ≡ None → whole ≡ None
names_fails whole done rest s e = s ∙ (λ i. put_all_before done ((names_by rest ∙ next_fails (name rest) further e) i))

-- bound variables with their types
abbrev beyond : ℕ → RawBound → List Token → Option (List RawBound × List Token)
beyond m b vs = cond (begins_with COMMA vs) (next (sign COMMA vs) (λ _ ws. next (bounds m ws) (λ bs xs. Some (b ∷ bs, xs)))) (Some (b ∷ [], vs))

bounds_by_bound : (m : ℕ) (r : Option ((ℕ × ℕ) × List Token)) → next r (λ b us. next (typed m us) (λ t vs. beyond m (record { at = b.0; number = b.1; ty = t }) vs)) ≡ next (next r (λ b us. next (typed m us) (λ t vs. Some (record { at = b.0; number = b.1; ty = t }, vs)))) (beyond m)
bounds_by_bound m None = refl
bounds_by_bound m (Some p) = sym (next_joined (typed m p.1) (λ t vs. Some (record { at = p.0.0; number = p.0.1; ty = t }, vs)) (beyond m))

bounds_by : (m : ℕ) (ts : List Token) → bounds (suc m) ts ≡ next (typed_bound m ts) (beyond m)
bounds_by m ts = bounds_by_bound m (bound ts)

bounds_fails_at : (k : ℕ) (ts : List Token) → typed_bound (pred k) ts ≡ None → bounds k ts ≡ None
bounds_fails_at zero ts e = refl
bounds_fails_at (suc k) ts e = bounds_by k ts ∙ next_fails (typed_bound k ts) (beyond k) e

bounds_last : (k : ℕ) (ts : List Token) (b : RawBound) (us : List Token) → 1 ≤ k → typed_bound (pred k) ts ≡ Some (b, us) → begins_with COMMA us ≡ false → bounds k ts ≡ Some (b ∷ [], us)
bounds_last zero ts b us l e f = absurd (omega (arith, l))
bounds_last (suc k) ts b us l e f = bounds_by k ts ∙ next_found (typed_bound k ts) b us (beyond k) e ∙ (λ i. cond (f i) (next (sign COMMA us) (λ _ ws. next (bounds k ws) (λ bs xs. Some (b ∷ bs, xs)))) (Some (b ∷ [], us)))

bounds_more : (k : ℕ) (ts : List Token) (b : RawBound) (us : List Token) (c : Token) (vs : List Token) → 1 ≤ k → typed_bound (pred k) ts ≡ Some (b, us) → begins_with COMMA us ≡ true → sign COMMA us ≡ Some (c, vs) → bounds k ts ≡ next (bounds (pred k) vs) (λ bs ws. Some (b ∷ bs, ws))
bounds_more zero ts b us c vs l e f g = absurd (omega (arith, l))
bounds_more (suc k) ts b us c vs l e f g = bounds_by k ts ∙ next_found (typed_bound k ts) b us (beyond k) e ∙ (λ i. cond (f i) (next (sign COMMA us) (λ _ ws. next (bounds k ws) (λ bs xs. Some (b ∷ bs, xs)))) (Some (b ∷ [], us))) ∙ next_found (sign COMMA us) c vs (λ _ ws. next (bounds k ws) (λ bs xs. Some (b ∷ bs, xs))) g

pub record BoundsSoFar (ts : List Token) (done : List RawBound) (rest : List Token) : Type 0 where
  pub so_far : Continues (length ts) (length rest) (λ m. bounds m ts) (λ m k. put_all_before done (bounds k rest))
  pub shorter : length rest ≤ length ts

pub bounds_begins : (ts : List Token) → BoundsSoFar ts [] ts
bounds_begins ts = record { so_far = record { so_far = λ n m. (n, m, put_none (bounds n ts)) }; shorter = omega arith }

pub bounds_goes_on : (ts : List Token) (done : List RawBound) (rest : List Token) (b : RawBound) (after : List Token) (c : Token) (more : List Token) → BoundsSoFar ts done rest → ((m : ℕ) → length rest - 1 ≤ m → typed_bound m rest ≡ Some (b, after)) → length after < length rest → begins_with COMMA after ≡ true → sign COMMA after ≡ Some (c, more) → length more < length after → BoundsSoFar ts (done ++ b ∷ []) more
bounds_goes_on ts done rest b after c more s f l g h r = record {
  so_far = continues_more (length ts) (length rest) (length more) (λ m. bounds m ts) (λ m k. put_all_before done (bounds k rest)) (λ m k. put_all_before (done ++ b ∷ []) (bounds k more)) s.so_far (λ n k m q. (pred k, omega (arith, pred_is k, q, l, r), (λ i. put_all_before done (bounds_more k rest b after c more (omega (arith, q, l)) (f (pred k) (omega (arith, pred_is k, q, l))) g h i)) ∙ put_last done b (bounds (pred k) more)));
  shorter = omega (arith, l, r, s.shorter);
}

pub bounds_ends : (ts : List Token) (done : List RawBound) (rest : List Token) (b : RawBound) (after : List Token) → BoundsSoFar ts done rest → ((m : ℕ) → length rest - 1 ≤ m → typed_bound m rest ≡ Some (b, after)) → length after < length rest → begins_with COMMA after ≡ false → (m : ℕ) → length ts ≤ m → bounds m ts ≡ Some (done ++ b ∷ [], after)
bounds_ends ts done rest b after s f l g = continues_done (length ts) (length rest) (λ m. bounds m ts) (λ m k. put_all_before done (bounds k rest)) (Some (done ++ b ∷ [], after)) s.so_far (λ n k m q. (λ i. put_all_before done (bounds_last k rest b after (omega (arith, q, l)) (f (pred k) (omega (arith, pred_is k, q, l))) g i)))

pub bounds_fails : (ts : List Token) (done : List RawBound) (rest : List Token) → BoundsSoFar ts done rest → ((m : ℕ) → length rest - 1 ≤ m → typed_bound m rest ≡ None) → (m : ℕ) → length ts ≤ m → bounds m ts ≡ None
bounds_fails ts done rest s f = continues_done (length ts) (length rest) (λ m. bounds m ts) (λ m k. put_all_before done (bounds k rest)) None s.so_far (λ n k m q. (λ i. put_all_before done (bounds_fails_at k rest (f (pred k) (omega (arith, pred_is k, q))) i)))
