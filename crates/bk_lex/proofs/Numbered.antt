-- The numbers of signs and words.
use Rattle.std.proofs.Common.{◌≡◌, ℕ, zero, suc, ◌+◌, ◌≤◌, Bool, true, false, cond, List, [], ◌∷◌, map, length, Option, Some, refl, ap, ◌∙◌}
use Rattle.std.specs.Prelude.{nat_le, ◌&&◌}
use Rattle.std.specs.List.{find, range_with_len, list_all}
use Rattle.std.specs.Option.{option_map}
use Rattle.std.specs.Str.{bytes_eq}
use Rattle.std.specs.Cmp.Lexicographic.{bytes_decides}
use Rattle.std.proofs.lemmas.Bool.{and_parts, leb-true}
use Rattle.bk_ops.specs.Rows.{text_of, number_of, op_of}
use Rattle.bk_ops.specs.Signs.{sign_texts}
use Rattle.bk_ops.specs.declared.row.OpRow.{OpRow}
use Rattle.bk_lex.specs.Lexis.{number_in, sign_number}

step : (b : Bool) (row : OpRow) (n : ℕ) (found : Option OpRow) (other : Option ℕ) → number_of row ≡ n → option_map number_of found ≡ other → option_map number_of (cond b (Some row) found) ≡ cond b (Some n) other
step true row n found other e h = ap (λ m. Some m) e
step false row n found other e h = h

by_rows : (rows : List OpRow) (n k : ℕ) (text : List ℕ) → map number_of rows ≡ range_with_len n k → op_of rows text ≡ number_in n (map text_of rows) text
by_rows [] n k text h = refl
by_rows (row ∷ rows) n zero text h = absurd (cc)
by_rows (row ∷ rows) n (suc k) text h =
    let head : number_of row ≡ n = cc in
    let tail : map number_of rows ≡ range_with_len (n + 1) k = cc in
    step (bytes_eq text (text_of row)) row n (find (λ r. bytes_eq text (text_of r)) rows) (number_in (n + 1) (map text_of rows) text) head (by_rows rows (n + 1) k text tail)

-- a table's search finds these numbers
pub numbered : (rows : List OpRow) (n k : ℕ) (texts : List (List ℕ)) (text : List ℕ) → map number_of rows ≡ range_with_len n k → map text_of rows ≡ texts → op_of rows text ≡ number_in n texts text
numbered rows n k texts text h e = by_rows rows n k text h ∙ ap (λ ts. number_in n ts text) e

-- what holds of each text of a list holds of one that has a number in it
number_passes : (p : List ℕ → Bool) (b : Bool) (n op : ℕ) (first : List ℕ) (others : List (List ℕ)) (text : List ℕ) → bytes_eq text first ≡ b → list_all p (first ∷ others) ≡ true → cond b (Some n) (number_in (n + 1) others text) ≡ Some op → (number_in (n + 1) others text ≡ Some op → p text ≡ true) → p text ≡ true
number_passes p true n op first others text e a h on =
    let same : text ≡ first = (bytes_decides text first).0 e in
    ap p same ∙ (and_parts (p first) (list_all p others) a).0
number_passes p false n op first others text e a h on = on h

pub number_in-passes : (p : List ℕ → Bool) (n op : ℕ) (texts : List (List ℕ)) (text : List ℕ) → list_all p texts ≡ true → number_in n texts text ≡ Some op → p text ≡ true
number_in-passes p n op [] text a h = absurd (cc)
number_in-passes p n op (first ∷ others) text a h =
    number_passes p (bytes_eq text first) n op first others text refl a h
    (λ g. number_in-passes p (n + 1) op others text (and_parts (p first) (list_all p others) a).1 g)

-- ---- signs are short, and of ASCII
abbrev pub is_short : List ℕ → Bool
is_short text = nat_le 1 (length text) && nat_le (length text) 4

pub sign_length : (op : ℕ) (text : List ℕ) → sign_number text ≡ Some op → (1 ≤ length text) × (length text ≤ 4)
sign_length op text h =
    let short : is_short text ≡ true = number_in-passes is_short 0 op sign_texts text refl h in
    let parts : (nat_le 1 (length text) ≡ true) × (nat_le (length text) 4 ≡ true) = and_parts _ _ short in
    (leb-true 1 (length text) parts.0, leb-true (length text) 4 parts.1)

abbrev pub is_ascii : ℕ → Bool
is_ascii c = nat_le c 127

pub sign_ascii : (op : ℕ) (text : List ℕ) → sign_number text ≡ Some op → list_all is_ascii text ≡ true
sign_ascii op text h = number_in-passes (λ t. list_all is_ascii t) 0 op sign_texts text refl h
