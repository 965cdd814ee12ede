-- The tokens that a component may be written as: those without the additions of printed formulas, and without signs and words
-- of sequences, which are not read yet.
use Rattle.std.specs.Prelude.{Bool, true, false, not, cond, ◌&&◌, ◌||◌, nat_eq, List, [], ◌∷◌}
use Rattle.bk_form.specs.declared.token.Token.{Token}
use Rattle.bk_form.specs.declared.token.TokenKind.{TokenKind}
use Rattle.bk_form.specs.declared.token.TokenKind.TheVariants.{LevelName, BoundName, Sign, Word}
use Rattle.bk_ops.specs.declared.sign.TheConstants.{OPEN_BRACE, MEMBER}
use Rattle.bk_ops.specs.declared.word.TheConstants.{BTRUE, BFALSE}
use Rattle.bk_raw.specs.Trees.Operators.{is_of_sequences}

-- $n, x$n but x$0, btrue and bfalse, and a sign or word of sequences
abbrev pub is_unread : TokenKind → Bool
is_unread (BoundName n) = true
is_unread (LevelName x n) = not (nat_eq n 0)
is_unread (Word op) = nat_eq op BTRUE || nat_eq op BFALSE || is_of_sequences (Word op)
is_unread (Sign op) = is_of_sequences (Sign op)
is_unread _ = false

-- {
abbrev pub is_brace : TokenKind → Bool
is_brace (Sign op) = nat_eq op OPEN_BRACE
is_brace _ = false

-- :
abbrev pub is_colon : TokenKind → Bool
is_colon (Sign op) = nat_eq op MEMBER
is_colon _ = false

-- an addition, or what is not read yet: such a token, or the colon of {:T}, which stands directly after a brace
abbrev pub is_addition : (behind_brace : Bool) → TokenKind → Bool
is_addition behind_brace kind = is_unread kind || (behind_brace && is_colon kind)

-- the tokens before the first addition
abbrev pub before_addition : (behind_brace : Bool) → List Token → List Token
before_addition behind_brace [] = []
before_addition behind_brace (t ∷ ts) = cond (is_addition behind_brace t.kind) [] (t ∷ before_addition (is_brace t.kind) ts)
