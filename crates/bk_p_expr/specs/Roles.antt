-- What a token is among brackets.
use Rattle.std.specs.Prelude.{Bool, true, false}
use Rattle.bk_p_expr.specs.declared.bars.Bracket.{Bracket}
use Rattle.bk_p_expr.specs.declared.bars.Bracket.TheVariants.{Opens, Closes, Bar}

-- ( [ {
abbrev pub is_opening : Bracket → Bool
is_opening Opens = true
is_opening _ = false

-- ) ] }
abbrev pub is_closing : Bracket → Bool
is_closing Closes = true
is_closing _ = false

-- |
abbrev pub is_bar_role : Bracket → Bool
is_bar_role Bar = true
is_bar_role _ = false
