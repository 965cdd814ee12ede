-- Leaves: names, numbers and constant words.
use Rattle.std.specs.Prelude.{◌≡◌, ℕ, ℤ, pos, negsuc, ◌≤ℤ◌, ◌<ℤ◌, List, None, Some, refl}
use Rattle.std.proofs.Common.{arith, sym, subst, ◌∙◌}
use Rattle.std.proofs.lemmas.Int.{ints}
use Rattle.bk_form.specs.declared.token.Token.{Token}
use Rattle.bk_form.specs.declared.token.TokenKind.{TokenKind}
use Rattle.bk_form.specs.declared.token.TokenKind.TheVariants.{Name, LevelName, BoundName, Number, Sign, Word}
use Rattle.bk_raw.specs.Trees.Operators.{constant_kind}
use Rattle.bk_raw.specs.Trees.RawTree.{RawTree, raw, raw_name, raw_level_name, raw_bound_name, raw_number, raw_constant}
use Rattle.bk_raw.specs.declared.operator.Constant.{Constant}
use Rattle.bk_raw.specs.declared.operator.Constant.TheVariants.{Bool}
use Rattle.bk_raw.specs.Grammar.Reading.{constant_of, primary_at, read}
use Rattle.bk_p_expr.specs.Pieces.{IsPiece}
use Rattle.bk_p_expr.specs.Found.{FindsLeaf, IsNoLeaf}
use Rattle.bk_p_expr.specs.declared.piece.Piece.{Piece}

leaf_at : (kind leaf : TokenKind) (at : ℕ) (tree : RawTree) (piece : Piece) → kind ≡ leaf → ((n : ℕ) (rest : List Token) → primary_at n (read n) leaf at rest ≡ Some (tree, rest)) → IsPiece tree piece → FindsLeaf kind at piece
leaf_at kind leaf at tree piece e f h = record { tree = tree; found = λ n rest. (λ i. primary_at n (read n) (e i) at rest) ∙ f n rest; built = h }

name_read : (n at : ℕ) (text : List ℕ) (rest : List Token) → primary_at n (read n) (Name text) at rest ≡ Some (raw at (raw_name text), rest)
name_read n at text rest = refl

level_name_read : (n at : ℕ) (text : List ℕ) (level : ℕ) (rest : List Token) → primary_at n (read n) (LevelName text level) at rest ≡ Some (raw at (raw_level_name text level), rest)
level_name_read n at text level rest = refl

bound_name_read : (n at number : ℕ) (rest : List Token) → primary_at n (read n) (BoundName number) at rest ≡ Some (raw at (raw_bound_name number), rest)
bound_name_read n at number rest = refl

number_read : (n at value : ℕ) (rest : List Token) → primary_at n (read n) (Number (pos value)) at rest ≡ Some (raw at (raw_number (pos value)), rest)
number_read n at value rest = refl

pub leaf_name : (kind : TokenKind) (at : ℕ) (text : List ℕ) (piece : Piece) → kind ≡ Name text → IsPiece (raw at (raw_name text)) piece → FindsLeaf kind at piece
leaf_name kind at text piece e h = leaf_at kind (Name text) at (raw at (raw_name text)) piece e (λ n rest. name_read n at text rest) h

pub leaf_level_name : (kind : TokenKind) (at : ℕ) (text : List ℕ) (level : ℕ) (piece : Piece) → kind ≡ LevelName text level → IsPiece (raw at (raw_level_name text level)) piece → FindsLeaf kind at piece
leaf_level_name kind at text level piece e h = leaf_at kind (LevelName text level) at (raw at (raw_level_name text level)) piece e (λ n rest. level_name_read n at text level rest) h

pub leaf_bound_name : (kind : TokenKind) (at number : ℕ) (piece : Piece) → kind ≡ BoundName number → IsPiece (raw at (raw_bound_name number)) piece → FindsLeaf kind at piece
leaf_bound_name kind at number piece e h = leaf_at kind (BoundName number) at (raw at (raw_bound_name number)) piece e (λ n rest. bound_name_read n at number rest) h

below_zero : (n : ℕ) → pos 0 ≤ℤ negsuc n → ⊥
below_zero n l = grind (arith, ints)

not_below : (n : ℕ) → pos n <ℤ pos 0 → ⊥
not_below n l = grind (arith, ints)

pub leaf_number : (z : ℤ) (at : ℕ) (piece : Piece) → pos 0 ≤ℤ z → IsPiece (raw at (raw_number z)) piece → FindsLeaf (Number z) at piece
leaf_number (pos n) at piece l h = record { tree = raw at (raw_number (pos n)); found = λ m rest. number_read m at n rest; built = h }
leaf_number (negsuc n) at piece l h = absurd (below_zero n l)

pub no_leaf_number : (z : ℤ) → z <ℤ pos 0 → IsNoLeaf (Number z)
no_leaf_number (pos n) l = absurd (not_below n l)
no_leaf_number (negsuc n) l = tt

constant_kind_read : (n at : ℕ) (c : Constant) (rest : List Token) → primary_at n (read n) (constant_kind c) at rest ≡ Some (raw at (raw_constant c), rest)
constant_kind_read n at Bool rest = refl
constant_kind_read n at _ rest = refl

pub leaf_constant : (kind : TokenKind) (at : ℕ) (c : Constant) (piece : Piece) → constant_kind c ≡ kind → IsPiece (raw at (raw_constant c)) piece → FindsLeaf kind at piece
leaf_constant kind at c piece e h = leaf_at kind (constant_kind c) at (raw at (raw_constant c)) piece (sym e) (λ n rest. constant_kind_read n at c rest) h

pub no_leaf_word : (kind : TokenKind) (op : ℕ) → kind ≡ Word op → constant_of kind ≡ None → IsNoLeaf kind
no_leaf_word kind op e h = subst (λ k. IsNoLeaf k) (sym e) ((λ i. constant_of (sym e i)) ∙ h)

pub no_leaf_sign : (kind : TokenKind) (op : ℕ) → kind ≡ Sign op → IsNoLeaf kind
no_leaf_sign kind op e = let h : IsNoLeaf (Sign op) = tt in subst (λ k. IsNoLeaf k) (sym e) h
