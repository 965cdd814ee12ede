-- Types as printed formulas name them.
use Rattle.std.specs.Prelude.{◌≡◌, ℕ, zero, suc, ◌+◌, List, [], ◌∷◌, refl}
use Rattle.std.proofs.Common.{ap, sym, ◌∙◌}
use Rattle.std.specs.Coded.{Coded}
use base.Stored.{Gv, gnil, gnum, gcons}

-- INTEGER, BOOL, the name of a set, POW(T) and (T * U)
pub data WrittenType : Type 0 where
  written_integer : WrittenType
  written_bool : WrittenType
  written_set : List ℕ → WrittenType
  written_power : WrittenType → WrittenType
  written_product : WrittenType → WrittenType → WrittenType

-- how many nodes it has
abbrev pub written_type_size : WrittenType → ℕ
written_type_size written_integer = 1
written_type_size written_bool = 1
written_type_size (written_set name) = 1
written_type_size (written_power t) = written_type_size t + 1
written_type_size (written_product t u) = written_type_size t + written_type_size u + 1

-- ---- the code of a written type, by which a proof tells two apart
-- the code of a text
abbrev pub text_code : List ℕ → Gv
text_code [] = gnil
text_code (c ∷ cs) = gcons (gnum c) (text_code cs)

-- the text of a code
abbrev pub text_back : Gv → List ℕ
text_back (gcons (gnum c) g) = c ∷ text_back g
text_back _ = []

-- a code gives its text back
pub text_back-code : (text : List ℕ) → text_back (text_code text) ≡ text
text_back-code [] = refl
text_back-code (c ∷ cs) = λ i. c ∷ text_back-code cs i

-- a type as a tree of numbers
abbrev pub written_code : WrittenType → Gv
written_code written_integer = gnil
written_code written_bool = gnum 0
written_code (written_set name) = gcons gnil (text_code name)
written_code (written_power t) = gcons (gnum 0) (written_code t)
written_code (written_product t u) = gcons (gnum 1) (gcons (written_code t) (written_code u))

-- the type of a code
abbrev pub written_back : Gv → WrittenType
written_back gnil = written_integer
written_back (gnum n) = written_bool
written_back (gcons gnil g) = written_set (text_back g)
written_back (gcons (gnum zero) g) = written_power (written_back g)
written_back (gcons (gnum (suc n)) (gcons g h)) = written_product (written_back g) (written_back h)
written_back _ = written_integer

-- a code gives its type back
pub written_back-code : (t : WrittenType) → written_back (written_code t) ≡ t
written_back-code written_integer = refl
written_back-code written_bool = refl
written_back-code (written_set name) = λ i. written_set (text_back-code name i)
written_back-code (written_power t) = λ i. written_power (written_back-code t i)
written_back-code (written_product t u) = λ i. written_product (written_back-code t i) (written_back-code u i)

-- so types can be told apart by their codes
abbrev pub coded_written_type : Coded WrittenType
coded_written_type = record { code = written_code; inj = λ s t e. sym (written_back-code s) ∙ ap written_back e ∙ written_back-code t }
