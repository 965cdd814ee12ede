-- A token's spelling, and how a text begins with one.
use Rattle.std.proofs.Common.{◌≡◌, ◌≢◌, ℕ, ◌≤◌, true, List, [], ◌∷◌, ◌++◌, length, Option, Some, None, refl, ap, sym, ◌∙◌, arith, subst, append_assoc}
use Rattle.std.specs.Prelude.{codes}
use Rattle.std.specs.List.{list_all}
use Rattle.std.proofs.lemmas.Bool.{and_parts}
use Rattle.bk_form.specs.declared.token.TokenKind.{TokenKind}
use Rattle.bk_form.specs.declared.token.TokenKind.TheVariants.{Name, LevelName, BoundName, Number, Sign, Word}
use Rattle.bk_lex.specs.Lexis.{is_digit, IsIdentifier, IsDollar, IsWritten, BeginsWith, sign_number, word_number, numeral_from, Gap, blank, block, line, gap_text, IsGap}
use Rattle.bk_lex.specs.Parts.{NoGap}
use Rattle.bk_lex.proofs.Characters.{class_of, blank_class, identifier_class, numeral_class, sign_class, identifier_goes, goes, all_after}
use Rattle.bk_lex.proofs.Runs.{numeral_all}
use Rattle.bk_lex.proofs.Gaps.{same_cut}

-- ---- what a text can begin with
abbrev pub kind_class : TokenKind → ℕ
kind_class (Name name) = 0
kind_class (LevelName name n) = 0
kind_class (BoundName n) = 2
kind_class (Number z) = 1
kind_class (Sign op) = 3
kind_class (Word op) = 0

level_class : (name dollar w rest : List ℕ) → w ≡ name ++ dollar → IsIdentifier name → class_of (w ++ rest) ≡ 0
level_class name dollar w rest e i =
    ap (λ v. class_of (v ++ rest)) e ∙ ap class_of (append_assoc name dollar rest) ∙ identifier_class name (dollar ++ rest) i

pub dollar_class : (w rest : List ℕ) (n : ℕ) → IsDollar w n → class_of (w ++ rest) ≡ 2
dollar_class w rest n d = ap (λ v. class_of (v ++ rest)) d.splits

pub written_class : (kind : TokenKind) (w rest : List ℕ) → IsWritten kind w → class_of (w ++ rest) ≡ kind_class kind
written_class (Name name) w rest h = identifier_class w rest h.0
written_class (LevelName name n) w rest h = level_class name h.0 w rest h.1 h.2
written_class (BoundName n) w rest h = dollar_class w rest n h
written_class (Number z) w rest h = numeral_class w rest h.0
written_class (Sign op) w rest h = sign_class w rest op h
written_class (Word op) w rest h = identifier_class w rest h.0

-- tokens that begin one text are of one class
pub one_class : (one other : TokenKind) (text v w x y : List ℕ) → IsWritten one v → IsWritten other w → text ≡ v ++ x → text ≡ w ++ y → kind_class one ≡ kind_class other
one_class one other text v w x y p q e f =
    sym (written_class one v x p) ∙ ap class_of (sym e ∙ f) ∙ written_class other w y q

differ : (one other : TokenKind) (text v w x y : List ℕ) → (kind_class one ≡ kind_class other → ⊥) → IsWritten one v → IsWritten other w → text ≡ v ++ x → text ≡ w ++ y → ⊥
differ one other text v w x y d p q e f = d (one_class one other text v w x y p q e f)

-- ---- a spelling is that of one token
dollar_number : (w : List ℕ) (n m : ℕ) → IsDollar w n → IsDollar w m → n ≡ m
dollar_number w n m p q =
    let same : p.digits ≡ q.digits = (same_cut (36 ∷ []) (36 ∷ []) p.digits q.digits (sym p.splits ∙ q.splits) refl).1 in
    p.value ∙ ap (λ ds. numeral_from 0 ds) same ∙ sym q.value

-- $ stands in no identifier
identifier_no_dollar : (w name digits : List ℕ) → IsIdentifier w → w ≡ name ++ (36 ∷ digits) → ⊥
identifier_no_dollar w name digits i e =
    let behind : list_all goes (36 ∷ digits) ≡ true =
    all_after goes name (36 ∷ digits) (ap (λ v. list_all goes v) (sym e) ∙ identifier_goes w i) in
    let no : goes 36 ≡ true = (and_parts (goes 36) (list_all goes digits) behind).0 in absurd (cc)

digits_no_dollar : (ds name es : List ℕ) → list_all is_digit ds ≡ true → ds ≡ name ++ (36 ∷ es) → ⊥
digits_no_dollar ds name es a e =
    let behind : list_all is_digit (36 ∷ es) ≡ true = all_after is_digit name (36 ∷ es) (ap (λ v. list_all is_digit v) (sym e) ∙ a) in
    let no : is_digit 36 ≡ true = (and_parts (is_digit 36) (list_all is_digit es) behind).0 in absurd (cc)

same_level : (one other ds es : List ℕ) → list_all is_digit ds ≡ true → list_all is_digit es ≡ true → one ++ (36 ∷ ds) ≡ other ++ (36 ∷ es) → (one ≡ other) × (ds ≡ es)
same_level [] [] ds es a b e = let tails : ds ≡ es = cc in (refl, tails)
same_level [] (c ∷ other) ds es a b e =
    let tails : ds ≡ other ++ (36 ∷ es) = cc in absurd (digits_no_dollar ds other es a tails)
same_level (c ∷ one) [] ds es a b e =
    let tails : es ≡ one ++ (36 ∷ ds) = cc in absurd (digits_no_dollar es one ds b tails)
same_level (c ∷ one) (d ∷ other) ds es a b e =
    let tails : one ++ (36 ∷ ds) ≡ other ++ (36 ∷ es) = cc in
    let heads : c ≡ d = cc in
    let same : (one ≡ other) × (ds ≡ es) = same_level one other ds es a b tails in
    (ap (λ z. z ∷ one) heads ∙ ap (λ v. d ∷ v) same.0, same.1)

level_once : (one other : List ℕ) (n m : ℕ) (w v u : List ℕ) → w ≡ one ++ v → w ≡ other ++ u → IsDollar v n → IsDollar u m → (one ≡ other) × (n ≡ m)
level_once one other n m w v u e f p q =
    let whole : one ++ (36 ∷ p.digits) ≡ other ++ (36 ∷ q.digits) =
    ap (λ z. one ++ z) (sym p.splits) ∙ sym e ∙ f ∙ ap (λ z. other ++ z) q.splits in
    let same : (one ≡ other) × (p.digits ≡ q.digits) = same_level one other p.digits q.digits (numeral_all p.digits p.numeral) (numeral_all q.digits q.numeral) whole in
    (same.0, p.value ∙ ap (λ ds. numeral_from 0 ds) same.1 ∙ sym q.value)

no_level : (w name dollar : List ℕ) (n : ℕ) → IsIdentifier w → w ≡ name ++ dollar → IsDollar dollar n → ⊥
no_level w name dollar n i e d = identifier_no_dollar w name d.digits i (e ∙ ap (λ v. name ++ v) d.splits)

some_same : (n m : ℕ) (o : Option ℕ) → o ≡ Some n → o ≡ Some m → n ≡ m
some_same n m o p q = let e : ◌≡◌ {A = Option ℕ} (Some n) (Some m) = sym p ∙ q in cc

none_some : (m : ℕ) (o : Option ℕ) → o ≡ None → o ≡ Some m → ⊥
none_some m o p q = absurd (cc)

pub same_kind : (one other : TokenKind) (w : List ℕ) → IsWritten one w → IsWritten other w → one ≡ other
same_kind (Name n1) (Name n2) w p q = ap (λ v. Name v) (p.2 ∙ sym q.2)
same_kind (Name n1) (LevelName n2 k2) w p q = absurd (no_level w n2 q.0 k2 p.0 q.1 q.3)
same_kind (Name n1) (BoundName n2) w p q = absurd (differ (Name n1) (BoundName n2) (w ++ []) w w [] [] (λ e. omega arith) p q refl refl)
same_kind (Name n1) (Number n2) w p q = absurd (differ (Name n1) (Number n2) (w ++ []) w w [] [] (λ e. omega arith) p q refl refl)
same_kind (Name n1) (Sign n2) w p q = absurd (differ (Name n1) (Sign n2) (w ++ []) w w [] [] (λ e. omega arith) p q refl refl)
same_kind (Name n1) (Word n2) w p q = absurd (none_some n2 (word_number w) p.1 q.1)
same_kind (LevelName n1 k1) (Name n2) w p q = absurd (no_level w n1 p.0 k1 q.0 p.1 p.3)
same_kind (LevelName n1 k1) (LevelName n2 k2) w p q = let same : (n1 ≡ n2) × (k1 ≡ k2) = level_once n1 n2 k1 k2 w p.0 q.0 p.1 q.1 p.3 q.3 in ap (λ v. LevelName v k1) same.0 ∙ ap (λ v. LevelName n2 v) same.1
same_kind (LevelName n1 k1) (BoundName n2) w p q = absurd (differ (LevelName n1 k1) (BoundName n2) (w ++ []) w w [] [] (λ e. omega arith) p q refl refl)
same_kind (LevelName n1 k1) (Number n2) w p q = absurd (differ (LevelName n1 k1) (Number n2) (w ++ []) w w [] [] (λ e. omega arith) p q refl refl)
same_kind (LevelName n1 k1) (Sign n2) w p q = absurd (differ (LevelName n1 k1) (Sign n2) (w ++ []) w w [] [] (λ e. omega arith) p q refl refl)
same_kind (LevelName n1 k1) (Word n2) w p q = absurd (no_level w n1 p.0 k1 q.0 p.1 p.3)
same_kind (BoundName n1) (Name n2) w p q = absurd (differ (BoundName n1) (Name n2) (w ++ []) w w [] [] (λ e. omega arith) p q refl refl)
same_kind (BoundName n1) (LevelName n2 k2) w p q = absurd (differ (BoundName n1) (LevelName n2 k2) (w ++ []) w w [] [] (λ e. omega arith) p q refl refl)
same_kind (BoundName n1) (BoundName n2) w p q = ap (λ v. BoundName v) (dollar_number w n1 n2 p q)
same_kind (BoundName n1) (Number n2) w p q = absurd (differ (BoundName n1) (Number n2) (w ++ []) w w [] [] (λ e. omega arith) p q refl refl)
same_kind (BoundName n1) (Sign n2) w p q = absurd (differ (BoundName n1) (Sign n2) (w ++ []) w w [] [] (λ e. omega arith) p q refl refl)
same_kind (BoundName n1) (Word n2) w p q = absurd (differ (BoundName n1) (Word n2) (w ++ []) w w [] [] (λ e. omega arith) p q refl refl)
same_kind (Number n1) (Name n2) w p q = absurd (differ (Number n1) (Name n2) (w ++ []) w w [] [] (λ e. omega arith) p q refl refl)
same_kind (Number n1) (LevelName n2 k2) w p q = absurd (differ (Number n1) (LevelName n2 k2) (w ++ []) w w [] [] (λ e. omega arith) p q refl refl)
same_kind (Number n1) (BoundName n2) w p q = absurd (differ (Number n1) (BoundName n2) (w ++ []) w w [] [] (λ e. omega arith) p q refl refl)
same_kind (Number n1) (Number n2) w p q = ap (λ v. Number v) (p.1 ∙ sym q.1)
same_kind (Number n1) (Sign n2) w p q = absurd (differ (Number n1) (Sign n2) (w ++ []) w w [] [] (λ e. omega arith) p q refl refl)
same_kind (Number n1) (Word n2) w p q = absurd (differ (Number n1) (Word n2) (w ++ []) w w [] [] (λ e. omega arith) p q refl refl)
same_kind (Sign n1) (Name n2) w p q = absurd (differ (Sign n1) (Name n2) (w ++ []) w w [] [] (λ e. omega arith) p q refl refl)
same_kind (Sign n1) (LevelName n2 k2) w p q = absurd (differ (Sign n1) (LevelName n2 k2) (w ++ []) w w [] [] (λ e. omega arith) p q refl refl)
same_kind (Sign n1) (BoundName n2) w p q = absurd (differ (Sign n1) (BoundName n2) (w ++ []) w w [] [] (λ e. omega arith) p q refl refl)
same_kind (Sign n1) (Number n2) w p q = absurd (differ (Sign n1) (Number n2) (w ++ []) w w [] [] (λ e. omega arith) p q refl refl)
same_kind (Sign n1) (Sign n2) w p q = ap (λ v. Sign v) (some_same n1 n2 (sign_number w) p q)
same_kind (Sign n1) (Word n2) w p q = absurd (differ (Sign n1) (Word n2) (w ++ []) w w [] [] (λ e. omega arith) p q refl refl)
same_kind (Word n1) (Name n2) w p q = absurd (none_some n1 (word_number w) q.1 p.1)
same_kind (Word n1) (LevelName n2 k2) w p q = absurd (no_level w n2 q.0 k2 p.0 q.1 q.3)
same_kind (Word n1) (BoundName n2) w p q = absurd (differ (Word n1) (BoundName n2) (w ++ []) w w [] [] (λ e. omega arith) p q refl refl)
same_kind (Word n1) (Number n2) w p q = absurd (differ (Word n1) (Number n2) (w ++ []) w w [] [] (λ e. omega arith) p q refl refl)
same_kind (Word n1) (Sign n2) w p q = absurd (differ (Word n1) (Sign n2) (w ++ []) w w [] [] (λ e. omega arith) p q refl refl)
same_kind (Word n1) (Word n2) w p q = ap (λ v. Word v) (some_same n1 n2 (word_number w) p.1 q.1)

-- ---- a text begins with one token
pub begins_once : (one other : TokenKind) (text x y : List ℕ) → BeginsWith one text x → BeginsWith other text y → (one ≡ other) × (x ≡ y)
begins_once one other text x y p q =
    let pq : length q.written ≤ length p.written = p.longest other q.written y q.spelling q.splits in
    let qp : length p.written ≤ length q.written = q.longest one p.written x p.spelling p.splits in
    let same : (p.written ≡ q.written) × (x ≡ y) =
    same_cut p.written q.written x y (sym p.splits ∙ q.splits) (omega arith) in
    (same_kind one other q.written (subst (λ w. IsWritten one w) same.0 p.spelling) q.spelling, same.1)

pub small_class : (kind : TokenKind) → kind_class kind ≤ 3
small_class (Name n) = omega arith
small_class (LevelName n k) = omega arith
small_class (BoundName n) = omega arith
small_class (Number n) = omega arith
small_class (Sign n) = omega arith
small_class (Word n) = omega arith

-- where a token begins, no blank and no comment does
pub begins_no_gap : (kind : TokenKind) (text rest : List ℕ) → BeginsWith kind text rest → NoGap text
begins_no_gap kind text rest b = record { no_gap = none; comment = b.comment }
  where
    none : (gap : Gap) (after : List ℕ) → IsGap gap after → text ≢ gap_text gap ++ after
    none (blank c) after h e =
        let here : class_of text ≡ 4 = ap class_of e ∙ blank_class c h in
        let there : class_of text ≡ kind_class kind = ap class_of b.splits ∙ written_class kind b.written rest b.spelling in
        let small : kind_class kind ≤ 3 = small_class kind in
        omega arith
    none (block body) after h e = b.comment.no_block ((body ++ codes "*/") ++ after) e
    none (line body) after h e = b.comment.no_line (body ++ after) e
