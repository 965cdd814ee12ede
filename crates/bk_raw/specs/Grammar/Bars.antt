-- Whether a bar stands in the brackets that tokens stand in.
use Rattle.std.specs.Prelude.{ℕ, zero, suc, Bool, true, false, cond, not, ◌&&◌, ◌||◌, nat_eq, List, [], ◌∷◌}
use Rattle.bk_form.specs.declared.token.Token.{Token}
use Rattle.bk_form.specs.declared.token.TokenKind.{TokenKind}
use Rattle.bk_form.specs.declared.token.TokenKind.TheVariants.{Name, LevelName, BoundName, Number, Sign, Word}
use Rattle.bk_ops.specs.declared.sign.TheConstants.{BAR}
use Rattle.bk_raw.specs.Grammar.Brackets.{opens_bracket, closes_bracket, one_less}

-- whether a token is |
abbrev pub is_bar : TokenKind → Bool
is_bar (Name text) = false
is_bar (LevelName text n) = false
is_bar (BoundName n) = false
is_bar (Number z) = false
is_bar (Sign op) = nat_eq op BAR
is_bar (Word op) = false

-- inside of no further brackets
abbrev pub is_outside : ℕ → Bool
is_outside zero = true
is_outside (suc n) = false

-- whether a bar follows before the bracket closes that is open around so many further ones, inside of none of these
abbrev pub bar_follows : ℕ → List Token → Bool
bar_follows n [] = false
bar_follows n (token ∷ tokens) = (is_bar token.kind && is_outside n) || (not (closes_bracket token.kind && is_outside n)
    && bar_follows (cond (opens_bracket token.kind) (suc n) (cond (closes_bracket token.kind) (one_less n) n)) tokens)
