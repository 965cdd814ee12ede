-- Tokens that are read.
use Rattle.std.proofs.Common.{◌≡◌, ◌≢◌, ℕ, pos, ◌<◌, ◌≤◌, ◌^◌, true, false, List, [], ◌∷◌, ◌++◌, length, Some, None, refl, ap, sym, ◌∙◌, arith, subst, append_assoc, length-append}
use Rattle.std.specs.List.{list_all}
use Rattle.std.proofs.lemmas.Bool.{and_parts}
use Rattle.bk_form.specs.declared.token.TokenKind.{TokenKind}
use Rattle.bk_form.specs.declared.token.TokenKind.TheVariants.{Name, LevelName, BoundName, Number, Sign, Word}
use Rattle.bk_lex.specs.Lexis.{is_digit, is_numeral, IsIdentifier, IsDollar, IsWritten, Fits, BeginsWith, NoComment, word_number, numeral_from}
use Rattle.bk_lex.specs.Parts.{begins, IsFirstNumeral, IsFirstDollar, BeginsNoDollar, IsFirstIdentifier, BeginsNoIdentifier, IsFirstSign, BeginsNoSign}
use Rattle.bk_lex.proofs.Characters.{class_of, identifier_class, numeral_class, sign_class, longest_identifier, dollar_ends}
use Rattle.bk_lex.proofs.Runs.{run_longest, numeral_all}
use Rattle.bk_lex.proofs.Gaps.{same_cut}
use Rattle.bk_lex.proofs.Spelling.{kind_class, written_class}

wrong : (k : ℕ) (other : TokenKind) (text more after : List ℕ) → class_of text ≡ k → (kind_class other ≡ k → ⊥) → IsWritten other more → text ≡ more ++ after → ⊥
wrong k other text more after c d h e = d (sym (written_class other more after h) ∙ sym (ap class_of e) ∙ c)

-- ---- identifiers and level names
word_class : (text word rest : List ℕ) → IsFirstIdentifier text word rest → class_of text ≡ 0
word_class text word rest f = ap class_of f.splits ∙ identifier_class word rest f.identifier

-- a level name has the whole identifier in front
level_splits : (text name dollar more after : List ℕ) (n : ℕ) (d : IsDollar dollar n) → text ≡ more ++ after → more ≡ name ++ dollar → text ≡ name ++ (36 ∷ (d.digits ++ after))
level_splits text name dollar more after n d e m =
    e ∙ ap (λ v. v ++ after) (m ∙ ap (λ v. name ++ v) d.splits) ∙ append_assoc name (36 ∷ d.digits) after

level_name : (text word rest name dollar more after : List ℕ) (n : ℕ) → IsFirstIdentifier text word rest → (d : IsDollar dollar n) → IsIdentifier name → text ≡ more ++ after → more ≡ name ++ dollar → (word ≡ name) × (rest ≡ 36 ∷ (d.digits ++ after))
level_name text word rest name dollar more after n f d i e m =
    let splits : text ≡ name ++ (36 ∷ (d.digits ++ after)) = level_splits text name dollar more after n d e m in
    let one : length name ≤ length word = longest_identifier text word rest name (36 ∷ (d.digits ++ after)) f.splits f.identifier f.ends i splits in
    let two : length word ≤ length name = longest_identifier text name (36 ∷ (d.digits ++ after)) word rest splits i (dollar_ends (d.digits ++ after)) f.identifier f.splits in
    same_cut word name rest (36 ∷ (d.digits ++ after)) (sym f.splits ∙ splits) (omega arith)

longest_name : (text word rest : List ℕ) → IsFirstIdentifier text word rest → BeginsNoDollar rest → (other : TokenKind) (more after : List ℕ) → IsWritten other more → text ≡ more ++ after → length more ≤ length word
longest_name text word rest f d (Name m) more after h e = longest_identifier text word rest more after f.splits f.identifier f.ends h.0 e
longest_name text word rest f d (Word m) more after h e = longest_identifier text word rest more after f.splits f.identifier f.ends h.0 e
longest_name text word rest f d (LevelName m n) more after h e =
    let same : (word ≡ m) × (rest ≡ 36 ∷ (h.3.digits ++ after)) = level_name text word rest m h.0 more after n f h.3 h.2 e h.1 in
    absurd (d h.3.digits after h.3.numeral same.1)
longest_name text word rest f d (BoundName m) more after h e = absurd (wrong 0 (BoundName m) text more after (word_class text word rest f) (λ z. omega arith) h e)
longest_name text word rest f d (Number m) more after h e = absurd (wrong 0 (Number m) text more after (word_class text word rest f) (λ z. omega arith) h e)
longest_name text word rest f d (Sign m) more after h e = absurd (wrong 0 (Sign m) text more after (word_class text word rest f) (λ z. omega arith) h e)

pub name_token : (text word rest : List ℕ) → IsFirstIdentifier text word rest → NoComment text → BeginsNoDollar rest → word_number word ≡ None → BeginsWith (Name word) text rest
name_token text word rest f n d w = record {
  written = word;
  spelling = (f.identifier, w, refl);
  splits = f.splits;
  longest = longest_name text word rest f d;
  comment = n;
}

pub word_token : (text word rest : List ℕ) (op : ℕ) → IsFirstIdentifier text word rest → NoComment text → BeginsNoDollar rest → word_number word ≡ Some op → BeginsWith (Word op) text rest
word_token text word rest op f n d w = record {
  written = word;
  spelling = (f.identifier, w);
  splits = f.splits;
  longest = longest_name text word rest f d;
  comment = n;
}

longest_level : (text word rest digits behind : List ℕ) → IsFirstIdentifier text word rest → IsFirstDollar rest digits behind → (other : TokenKind) (more after : List ℕ) → IsWritten other more → text ≡ more ++ after → length more ≤ length (word ++ (36 ∷ digits))
longest_level text word rest digits behind f d (Name m) more after h e =
    let less : length more ≤ length word = longest_identifier text word rest more after f.splits f.identifier f.ends h.0 e in
    omega (arith, length-append word (36 ∷ digits))
longest_level text word rest digits behind f d (Word m) more after h e =
    let less : length more ≤ length word = longest_identifier text word rest more after f.splits f.identifier f.ends h.0 e in
    omega (arith, length-append word (36 ∷ digits))
longest_level text word rest digits behind f d (LevelName m n) more after h e =
    let same : (word ≡ m) × (rest ≡ 36 ∷ (h.3.digits ++ after)) = level_name text word rest m h.0 more after n f h.3 h.2 e h.1 in
    let numerals : d.0 ≡ h.3.digits ++ after = (same_cut (36 ∷ []) (36 ∷ []) d.0 (h.3.digits ++ after) (sym d.1 ∙ same.1) refl).1 in
    let less : length h.3.digits ≤ length digits =
    run_longest is_digit digits behind h.3.digits after d.2.ends (numeral_all h.3.digits h.3.numeral) (sym d.2.splits ∙ numerals) in
    let names : length word ≡ length m = ap length same.0 in
    let whole : length more ≡ length (m ++ (36 ∷ h.3.digits)) = ap length (h.1 ∙ ap (λ v. m ++ v) h.3.splits) in
    omega (arith, length-append word (36 ∷ digits), length-append m (36 ∷ h.3.digits))
longest_level text word rest digits behind f d (BoundName m) more after h e = absurd (wrong 0 (BoundName m) text more after (word_class text word rest f) (λ z. omega arith) h e)
longest_level text word rest digits behind f d (Number m) more after h e = absurd (wrong 0 (Number m) text more after (word_class text word rest f) (λ z. omega arith) h e)
longest_level text word rest digits behind f d (Sign m) more after h e = absurd (wrong 0 (Sign m) text more after (word_class text word rest f) (λ z. omega arith) h e)

is_dollar : (digits : List ℕ) → is_numeral digits ≡ true → IsDollar (36 ∷ digits) (numeral_from 0 digits)
is_dollar digits h = record { digits = digits; splits = refl; numeral = h; value = refl }

pub level_token : (text word rest digits behind : List ℕ) → IsFirstIdentifier text word rest → NoComment text → IsFirstDollar rest digits behind → BeginsWith (LevelName word (numeral_from 0 digits)) text behind
level_token text word rest digits behind f n d = record {
  written = word ++ (36 ∷ digits);
  spelling = (36 ∷ digits, refl, f.identifier, is_dollar digits d.2.numeral);
  splits = f.splits ∙ ap (λ v. word ++ v) (d.1 ∙ ap (λ v. 36 ∷ v) d.2.splits) ∙ sym (append_assoc word (36 ∷ digits) behind);
  longest = longest_level text word rest digits behind f d;
  comment = n;
}

-- ---- bound names
longest_bound : (text digits rest : List ℕ) → IsFirstDollar text digits rest → (other : TokenKind) (more after : List ℕ) → IsWritten other more → text ≡ more ++ after → length more ≤ length (36 ∷ digits)
longest_bound text digits rest d (BoundName m) more after h e =
    let numerals : d.0 ≡ h.digits ++ after =
    (same_cut (36 ∷ []) (36 ∷ []) d.0 (h.digits ++ after) (sym d.1 ∙ e ∙ ap (λ v. v ++ after) h.splits) refl).1 in
    let less : length h.digits ≤ length digits =
    run_longest is_digit digits rest h.digits after d.2.ends (numeral_all h.digits h.numeral) (sym d.2.splits ∙ numerals) in
    let whole : length more ≡ length (36 ∷ h.digits) = ap length h.splits in
    omega arith
longest_bound text digits rest d (Name m) more after h e = absurd (wrong 2 (Name m) text more after (ap class_of d.1) (λ z. omega arith) h e)
longest_bound text digits rest d (LevelName m n) more after h e = absurd (wrong 2 (LevelName m n) text more after (ap class_of d.1) (λ z. omega arith) h e)
longest_bound text digits rest d (Word m) more after h e = absurd (wrong 2 (Word m) text more after (ap class_of d.1) (λ z. omega arith) h e)
longest_bound text digits rest d (Number m) more after h e = absurd (wrong 2 (Number m) text more after (ap class_of d.1) (λ z. omega arith) h e)
longest_bound text digits rest d (Sign m) more after h e = absurd (wrong 2 (Sign m) text more after (ap class_of d.1) (λ z. omega arith) h e)

pub bound_token : (text digits rest : List ℕ) → NoComment text → IsFirstDollar text digits rest → BeginsWith (BoundName (numeral_from 0 digits)) text rest
bound_token text digits rest n d = record {
  written = 36 ∷ digits;
  spelling = is_dollar digits d.2.numeral;
  splits = d.1 ∙ ap (λ v. 36 ∷ v) d.2.splits;
  longest = longest_bound text digits rest d;
  comment = n;
}

-- ---- numbers
first_class : (text digits rest : List ℕ) → IsFirstNumeral text digits rest → class_of text ≡ 1
first_class text digits rest d = ap class_of d.splits ∙ numeral_class digits rest d.numeral

longest_number : (text digits rest : List ℕ) → IsFirstNumeral text digits rest → (other : TokenKind) (more after : List ℕ) → IsWritten other more → text ≡ more ++ after → length more ≤ length digits
longest_number text digits rest d (Number m) more after h e =
    run_longest is_digit digits rest more after d.ends (numeral_all more h.0) (sym d.splits ∙ e)
longest_number text digits rest d (Name m) more after h e = absurd (wrong 1 (Name m) text more after (first_class text digits rest d) (λ z. omega arith) h e)
longest_number text digits rest d (LevelName m n) more after h e = absurd (wrong 1 (LevelName m n) text more after (first_class text digits rest d) (λ z. omega arith) h e)
longest_number text digits rest d (Word m) more after h e = absurd (wrong 1 (Word m) text more after (first_class text digits rest d) (λ z. omega arith) h e)
longest_number text digits rest d (BoundName m) more after h e = absurd (wrong 1 (BoundName m) text more after (first_class text digits rest d) (λ z. omega arith) h e)
longest_number text digits rest d (Sign m) more after h e = absurd (wrong 1 (Sign m) text more after (first_class text digits rest d) (λ z. omega arith) h e)

pub number_token : (text digits rest : List ℕ) → NoComment text → IsFirstNumeral text digits rest → BeginsWith (Number (pos (numeral_from 0 digits))) text rest
number_token text digits rest n d = record {
  written = digits;
  spelling = (d.numeral, refl);
  splits = d.splits;
  longest = longest_number text digits rest d;
  comment = n;
}

-- ---- signs
longest_sign : (op : ℕ) (text rest : List ℕ) (s : IsFirstSign op text rest) (other : TokenKind) (more after : List ℕ) → IsWritten other more → text ≡ more ++ after → length more ≤ length s.written
longest_sign op text rest s (Sign m) more after h e = s.longest m more after h e
longest_sign op text rest s (Name m) more after h e = absurd (wrong 3 (Name m) text more after (ap class_of s.splits ∙ sign_class s.written rest op s.spelling) (λ z. omega arith) h e)
longest_sign op text rest s (LevelName m n) more after h e = absurd (wrong 3 (LevelName m n) text more after (ap class_of s.splits ∙ sign_class s.written rest op s.spelling) (λ z. omega arith) h e)
longest_sign op text rest s (Word m) more after h e = absurd (wrong 3 (Word m) text more after (ap class_of s.splits ∙ sign_class s.written rest op s.spelling) (λ z. omega arith) h e)
longest_sign op text rest s (BoundName m) more after h e = absurd (wrong 3 (BoundName m) text more after (ap class_of s.splits ∙ sign_class s.written rest op s.spelling) (λ z. omega arith) h e)
longest_sign op text rest s (Number m) more after h e = absurd (wrong 3 (Number m) text more after (ap class_of s.splits ∙ sign_class s.written rest op s.spelling) (λ z. omega arith) h e)

pub sign_token : (op : ℕ) (text rest : List ℕ) → NoComment text → IsFirstSign op text rest → BeginsWith (Sign op) text rest
sign_token op text rest n s = record {
  written = s.written;
  spelling = s.spelling;
  splits = s.splits;
  longest = longest_sign op text rest s;
  comment = n;
}

-- ---- no token
numeral_begins : (w after : List ℕ) → is_numeral w ≡ true → begins is_digit (w ++ after) ≡ true
numeral_begins [] after h = absurd (cc)
numeral_begins (c ∷ cs) after h = (and_parts (is_digit c) (list_all is_digit cs) h).0

pub no_token : (text : List ℕ) → BeginsNoIdentifier text → begins is_digit text ≡ false → BeginsNoDollar text → BeginsNoSign text → (kind : TokenKind) (written after : List ℕ) → IsWritten kind written → text ≢ written ++ after
no_token text i d b s (Name m) written after h e = i written after h.0 e
no_token text i d b s (Word m) written after h e = i written after h.0 e
no_token text i d b s (LevelName m n) written after h e =
    i m (h.0 ++ after) h.2 (e ∙ ap (λ v. v ++ after) h.1 ∙ append_assoc m h.0 after)
no_token text i d b s (BoundName m) written after h e =
    b h.digits after h.numeral (e ∙ ap (λ v. v ++ after) h.splits)
no_token text i d b s (Number m) written after h e =
    let yes : begins is_digit text ≡ true = ap (λ v. begins is_digit v) e ∙ numeral_begins written after h.0 in absurd (cc)
no_token text i d b s (Sign m) written after h e = s m written after h e

-- ---- numbers that are too large
pub wide_number : (n : ℕ) → (n < 2 ^ 127 → ⊥) → Fits (Number (pos n)) → ⊥
wide_number n w f =
    let same : n ≡ f.0 = cc in
    w (subst (λ m. m < 2 ^ 127) (sym same) f.2)
