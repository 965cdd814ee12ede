-- The signs of the notation.
-- Source: B Language Reference Manual.
use Rattle.std.specs.Prelude.{ℕ, List, [], ◌∷◌, codes}

-- in the order of their numbers
abbrev pub sign_texts : List (List ℕ)
sign_texts =
    codes "&" ∷ codes "=>" ∷ codes "<=>" ∷ codes "!" ∷ codes "#" ∷ codes "=" ∷ codes "/=" ∷ codes "<" ∷ codes "<=" ∷
    codes ">" ∷ codes ">=" ∷ codes ":" ∷ codes "/:" ∷ codes "<:" ∷ codes "/<:" ∷ codes "<<:" ∷ codes "\\/" ∷
    codes "/\\" ∷ codes "-" ∷ codes "*" ∷ codes "|->" ∷ codes ".." ∷ codes "{" ∷ codes "}" ∷ codes "(" ∷ codes ")" ∷
    codes "[" ∷ codes "]" ∷ codes "<->" ∷ codes "+->" ∷ codes "-->" ∷ codes ">+>" ∷ codes ">->" ∷ codes "+->>" ∷
    codes "-->>" ∷ codes ">->>" ∷ codes "~" ∷ codes "<|" ∷ codes "|>" ∷ codes "<<|" ∷ codes "|>>" ∷ codes "<+" ∷
    codes ";" ∷ codes "," ∷ codes "." ∷ codes "|" ∷ codes "||" ∷ codes "%" ∷ codes "+" ∷ codes "/" ∷ codes "**" ∷
    codes ":=" ∷ codes "::" ∷ codes "<--" ∷ codes "^" ∷ codes "->" ∷ codes "<-" ∷ []
