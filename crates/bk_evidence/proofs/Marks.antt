-- Escaped texts.
use Rattle.std.proofs.Common.{◌≡◌, ℕ, Bool, true, false, not, cond, ◌&&◌, [], ◌∷◌, refl, ◌∙◌, codes}
use Rattle.std.specs.Prelude.{nat_eq}
use Rattle.std.specs.List.{list_all}
use Rattle.std.proofs.lemmas.List.Folds.{list_all-append}
use Rattle.bk_evidence.specs.Html.{escaped_byte, escaped, is_mark, EscapedIsBare}

abbrev is_bare : ℕ → Bool
is_bare byte = not (is_mark byte)

both : (x y : Bool) → x ≡ true → y ≡ true → (x && y) ≡ true
both true y e h = h
both false y e h = absurd (cc)

plain : (byte : ℕ) → nat_eq byte 60 ≡ false → nat_eq byte 62 ≡ false → nat_eq byte 34 ≡ false → nat_eq byte 39 ≡ false → list_all is_bare (byte ∷ []) ≡ true
plain byte less greater quote tick = simp (less, greater, quote, tick)

bare-by : (byte : ℕ) (less greater amp quote tick : Bool) → nat_eq byte 60 ≡ less → nat_eq byte 62 ≡ greater → nat_eq byte 34 ≡ quote → nat_eq byte 39 ≡ tick →
    list_all is_bare (cond less (codes "&lt;") (cond greater (codes "&gt;") (cond amp (codes "&amp;") (cond quote (codes "&quot;") (cond tick (codes "&#39;") (byte ∷ [])))))) ≡ true
bare-by byte true greater amp quote tick e f g h = refl
bare-by byte false true amp quote tick e f g h = refl
bare-by byte false false true quote tick e f g h = refl
bare-by byte false false false true tick e f g h = refl
bare-by byte false false false false true e f g h = refl
bare-by byte false false false false false e f g h = plain byte e f g h

bare-byte : (byte : ℕ) → list_all is_bare (escaped_byte byte) ≡ true
bare-byte byte = bare-by byte (nat_eq byte 60) (nat_eq byte 62) (nat_eq byte 38) (nat_eq byte 34) (nat_eq byte 39) refl refl refl refl

pub escaped_is_bare : EscapedIsBare
escaped_is_bare [] = refl
escaped_is_bare (byte ∷ bytes) = list_all-append is_bare (escaped_byte byte) (escaped bytes) ∙ both (list_all is_bare (escaped_byte byte)) (list_all is_bare (escaped bytes)) (bare-byte byte) (escaped_is_bare bytes)
