-- The bytes of identifiers, and what a text can begin with by its first byte.
use Rattle.std.proofs.Common.{◌≡◌, ℕ, suc, ◌+◌, ◌<◌, ◌≤◌, Bool, true, false, cond, ◌||◌, List, [], ◌∷◌, ◌++◌, length, get_or, refl, ap, sym, ◌∙◌, arith, subst, inl, inr, append_assoc, append-nil, length-append, Some}
use Rattle.std.specs.Prelude.{nat_eq, nat_le}
use Rattle.std.specs.List.{list_all}
use Rattle.std.specs.Str.{encode_utf8_all}
use Rattle.std.specs.Char.{encode_utf8, is_ascii_alphabetic, is_ascii_alphanumeric}
use Rattle.std.proofs.lemmas.Bool.{and_parts, and_from, cases_lt}
use Rattle.std.proofs.lemmas.Bool.Decides.{nat_tests}
use Rattle.std.proofs.lemmas.Str.{encode_ascii, inside_one, encode_same, length-encode, len_utf8_bounds}
use Rattle.unicode_ident.specs.Ident.{is_xid_start, is_xid_continue}
use Rattle.unicode_ident.proofs.IdentLemmas.{is_xid_start-ascii, is_xid_continue-ascii, is_xid_start-is_xid_continue}
use Rattle.bk_ops.specs.Signs.{sign_texts}
use Rattle.bk_lex.specs.Lexis.{is_identifier, IsIdentifier, is_digit, is_numeral, is_blank, sign_number}
use Rattle.bk_lex.specs.Parts.{begins, ContinuesNot}
use Rattle.bk_lex.proofs.Numbered.{number_in-passes}

-- bytes that may start an identifier, and such as may stand in one
abbrev pub starts : ℕ → Bool
starts c = is_ascii_alphabetic c || nat_le 128 c

abbrev pub goes : ℕ → Bool
goes c = is_ascii_alphanumeric c || nat_eq c 95 || nat_le 128 c

-- ---- a character's bytes
high_at : (c : ℕ) → 128 ≤ c → (k : ℕ) → k < length (encode_utf8 c) → 128 ≤ get_or (encode_utf8 c) k 0
high_at c big k below = elim (cases_lt (get_or (encode_utf8 c) k 0) 128) [
  | inl low ↦ absurd (omega (arith, inside_one c [] (encode_utf8 c) k (sym (append-nil _)) below low))
  | inr h ↦ h
]

high_goes : (c : ℕ) → 128 ≤ c → goes c ≡ true
high_goes c h = grind (arith, nat_tests)

high_starts : (c : ℕ) → 128 ≤ c → starts c ≡ true
high_starts c h = grind (arith, nat_tests)

all_high : (w : List ℕ) → ((k : ℕ) → k < length w → 128 ≤ get_or w k 0) → list_all goes w ≡ true
all_high [] h = refl
all_high (c ∷ w) h = and_from (goes c) (list_all goes w) (high_goes c (h 0 (omega arith))) (all_high w (λ k b. h (suc k) (omega arith)))

ascii_goes : (c : ℕ) → (is_ascii_alphanumeric c || nat_eq c 95) ≡ true → goes c ≡ true
ascii_goes c h = grind (arith, nat_tests)

ascii_starts : (c : ℕ) → is_ascii_alphabetic c ≡ true → starts c ≡ true
ascii_starts c h = grind (arith, nat_tests)

character_goes : (c : ℕ) → is_xid_continue c ≡ true → list_all goes (encode_utf8 c) ≡ true
character_goes c h = elim (cases_lt c 128) [
  | inl low ↦ (
      let one : goes c ≡ true = ascii_goes c (sym (is_xid_continue-ascii c low) ∙ h) in
      subst (λ w. list_all goes w ≡ true) (sym (encode_ascii c low)) (and_from (goes c) true one refl)
      )
  | inr high ↦ all_high (encode_utf8 c) (high_at c high)
]

high_begins : (w rest : List ℕ) → 0 < length w → 128 ≤ get_or w 0 0 → begins starts (w ++ rest) ≡ true
high_begins [] rest l h = absurd (omega arith)
high_begins (c ∷ w) rest l h = high_starts c h

character_starts : (c : ℕ) (rest : List ℕ) → is_xid_start c ≡ true → begins starts (encode_utf8 c ++ rest) ≡ true
character_starts c rest h = elim (cases_lt c 128) [
  | inl low ↦ subst (λ w. begins starts (w ++ rest) ≡ true) (sym (encode_ascii c low)) (ascii_starts c (sym (is_xid_start-ascii c low) ∙ h))
  | inr high ↦ (
      let long : 0 < length (encode_utf8 c) = omega (arith, length-encode c, len_utf8_bounds c) in
      high_begins (encode_utf8 c) rest long (high_at c high 0 long)
      )
]

-- ---- identifiers
pub all_append : (p : ℕ → Bool) (xs ys : List ℕ) → list_all p xs ≡ true → list_all p ys ≡ true → list_all p (xs ++ ys) ≡ true
all_append p [] ys a b = b
all_append p (x ∷ xs) ys a b =
    let parts : (p x ≡ true) × (list_all p xs ≡ true) = and_parts (p x) (list_all p xs) a in
    and_from (p x) (list_all p (xs ++ ys)) parts.0 (all_append p xs ys parts.1 b)

pub all_after : (p : ℕ → Bool) (xs ys : List ℕ) → list_all p (xs ++ ys) ≡ true → list_all p ys ≡ true
all_after p [] ys a = a
all_after p (x ∷ xs) ys a = all_after p xs ys (and_parts (p x) (list_all p (xs ++ ys)) a).1

characters_go : (cs : List ℕ) → list_all is_xid_continue cs ≡ true → list_all goes (encode_utf8_all cs) ≡ true
characters_go [] h = refl
characters_go (c ∷ cs) h =
    let parts : (is_xid_continue c ≡ true) × (list_all is_xid_continue cs ≡ true) = and_parts _ _ h in
    all_append goes (encode_utf8 c) (encode_utf8_all cs) (character_goes c parts.0) (characters_go cs parts.1)

identifier_continues : (cs : List ℕ) → is_identifier cs ≡ true → list_all is_xid_continue cs ≡ true
identifier_continues [] h = absurd (cc)
identifier_continues (c ∷ cs) h =
    let parts : (is_xid_start c ≡ true) × (list_all is_xid_continue cs ≡ true) = and_parts _ _ h in
    and_from (is_xid_continue c) (list_all is_xid_continue cs) (is_xid_start-is_xid_continue c parts.0) parts.1

pub identifier_goes : (w : List ℕ) → IsIdentifier w → list_all goes w ≡ true
identifier_goes w h = subst (λ v. list_all goes v ≡ true) (sym h.1) (characters_go h.0 (identifier_continues h.0 h.2))

starts_by : (cs rest : List ℕ) → is_identifier cs ≡ true → begins starts (encode_utf8_all cs ++ rest) ≡ true
starts_by [] rest h = absurd (cc)
starts_by (c ∷ cs) rest h =
    subst (λ v. begins starts v ≡ true) (sym (append_assoc (encode_utf8 c) (encode_utf8_all cs) rest))
    (character_starts c (encode_utf8_all cs ++ rest) (and_parts (is_xid_start c) (list_all is_xid_continue cs) h).0)

pub identifier_starts : (w rest : List ℕ) → IsIdentifier w → begins starts (w ++ rest) ≡ true
identifier_starts w rest h = subst (λ v. begins starts (v ++ rest) ≡ true) (sym h.1) (starts_by h.0 rest h.2)

-- an identifier is no longer than one behind which nothing continues it
longest_by : (ws ms rest after : List ℕ) → list_all is_xid_continue ms ≡ true → ContinuesNot rest → encode_utf8_all ws ++ rest ≡ encode_utf8_all ms ++ after → length (encode_utf8_all ms) ≤ length (encode_utf8_all ws)
longest_by ws [] rest after a n e = omega arith
longest_by [] (m ∷ ms) rest after a n e =
    absurd (n m (encode_utf8_all ms ++ after) (and_parts (is_xid_continue m) (list_all is_xid_continue ms) a).0 (e ∙ append_assoc (encode_utf8 m) (encode_utf8_all ms) after))
longest_by (w ∷ ws) (m ∷ ms) rest after a n e =
    let same : (w ≡ m) × (encode_utf8_all ws ++ rest ≡ encode_utf8_all ms ++ after) =
    encode_same w m (encode_utf8_all ws ++ rest) (encode_utf8_all ms ++ after)
    (sym (append_assoc (encode_utf8 w) (encode_utf8_all ws) rest) ∙ e ∙ append_assoc (encode_utf8 m) (encode_utf8_all ms) after) in
    let less : length (encode_utf8_all ms) ≤ length (encode_utf8_all ws) =
    longest_by ws ms rest after (and_parts (is_xid_continue m) (list_all is_xid_continue ms) a).1 n same.1 in
    let heads : length (encode_utf8 w) ≡ length (encode_utf8 m) = ap (λ c. length (encode_utf8 c)) same.0 in
    let left : length (encode_utf8_all (w ∷ ws)) ≡ length (encode_utf8 w) + length (encode_utf8_all ws) = length-append (encode_utf8 w) (encode_utf8_all ws) in
    let right : length (encode_utf8_all (m ∷ ms)) ≡ length (encode_utf8 m) + length (encode_utf8_all ms) = length-append (encode_utf8 m) (encode_utf8_all ms) in
    omega arith

pub longest_identifier : (text word rest more after : List ℕ) → text ≡ word ++ rest → IsIdentifier word → ContinuesNot rest → IsIdentifier more → text ≡ more ++ after → length more ≤ length word
longest_identifier text word rest more after s w n m e =
    let both : encode_utf8_all w.0 ++ rest ≡ encode_utf8_all m.0 ++ after =
    ap (λ v. v ++ rest) (sym w.1) ∙ sym s ∙ e ∙ ap (λ v. v ++ after) m.1 in
    let less : length (encode_utf8_all m.0) ≤ length (encode_utf8_all w.0) = longest_by w.0 m.0 rest after (identifier_continues m.0 m.2) n both in
    let left : length word ≡ length (encode_utf8_all w.0) = ap length w.1 in
    let right : length more ≡ length (encode_utf8_all m.0) = ap length m.1 in
    omega arith

-- $ continues no identifier
pub dollar_ends : (rest : List ℕ) → ContinuesNot (36 ∷ rest)
dollar_ends rest c after h e =
    let low : 36 < 128 = omega arith in
    let same : (36 ≡ c) × (rest ≡ after) = encode_same 36 c rest after (ap (λ v. v ++ rest) (encode_ascii 36 low) ∙ e) in
    let no : is_xid_continue 36 ≡ false = is_xid_continue-ascii 36 low in
    let yes : is_xid_continue 36 ≡ true = ap is_xid_continue same.0 ∙ h in
    absurd (cc)

-- ---- classes of first bytes
abbrev pub class : ℕ → ℕ
class c = cond (starts c) 0 (cond (is_digit c) 1 (cond (nat_eq c 36) 2 (cond (is_blank c) 4 3)))

abbrev pub class_of : List ℕ → ℕ
class_of [] = 4
class_of (c ∷ cs) = class c

start_class : (c : ℕ) → starts c ≡ true → class c ≡ 0
start_class c h = ap (λ b. cond b 0 (cond (is_digit c) 1 (cond (nat_eq c 36) 2 (cond (is_blank c) 4 3)))) h

digit_starts_not : (c : ℕ) → is_digit c ≡ true → starts c ≡ false
digit_starts_not c h = grind (arith, nat_tests)

digit_class : (c : ℕ) → is_digit c ≡ true → class c ≡ 1
digit_class c h =
    ap (λ b. cond b 0 (cond (is_digit c) 1 (cond (nat_eq c 36) 2 (cond (is_blank c) 4 3)))) (digit_starts_not c h)
    ∙ ap (λ b. cond b 1 (cond (nat_eq c 36) 2 (cond (is_blank c) 4 3))) h

blank_starts_not : (c : ℕ) → is_blank c ≡ true → starts c ≡ false
blank_starts_not c h = grind (arith, nat_tests)

blank_no_digit : (c : ℕ) → is_blank c ≡ true → is_digit c ≡ false
blank_no_digit c h = grind (arith, nat_tests)

blank_no_dollar : (c : ℕ) → is_blank c ≡ true → nat_eq c 36 ≡ false
blank_no_dollar c h = grind (arith, nat_tests)

pub blank_class : (c : ℕ) → is_blank c ≡ true → class c ≡ 4
blank_class c h =
    ap (λ b. cond b 0 (cond (is_digit c) 1 (cond (nat_eq c 36) 2 (cond (is_blank c) 4 3)))) (blank_starts_not c h)
    ∙ ap (λ b. cond b 1 (cond (nat_eq c 36) 2 (cond (is_blank c) 4 3))) (blank_no_digit c h)
    ∙ ap (λ b. cond b 2 (cond (is_blank c) 4 3)) (blank_no_dollar c h)
    ∙ ap (λ b. cond b 4 3) h

pub starts_class : (text : List ℕ) → begins starts text ≡ true → class_of text ≡ 0
starts_class [] h = absurd (cc)
starts_class (c ∷ cs) h = start_class c h

pub identifier_class : (w rest : List ℕ) → IsIdentifier w → class_of (w ++ rest) ≡ 0
identifier_class w rest h = starts_class (w ++ rest) (identifier_starts w rest h)

pub numeral_class : (w rest : List ℕ) → is_numeral w ≡ true → class_of (w ++ rest) ≡ 1
numeral_class [] rest h = absurd (cc)
numeral_class (c ∷ cs) rest h = digit_class c (and_parts (is_digit c) (list_all is_digit cs) h).0

abbrev is_class_3 : List ℕ → Bool
is_class_3 w = nat_eq (class_of w) 3

class_3 : (w rest : List ℕ) → is_class_3 w ≡ true → class_of (w ++ rest) ≡ 3
class_3 [] rest h = absurd (cc)
class_3 (c ∷ w) rest h = grind (arith, nat_tests)

pub sign_class : (w rest : List ℕ) (op : ℕ) → sign_number w ≡ Some op → class_of (w ++ rest) ≡ 3
sign_class w rest op h = class_3 w rest (number_in-passes is_class_3 0 op sign_texts w refl h)
