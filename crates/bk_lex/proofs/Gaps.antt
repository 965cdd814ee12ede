-- Blanks and comments between tokens.
use Rattle.std.proofs.Common.{◌≡◌, ◌≢◌, ℕ, ◌+◌, ◌<◌, ◌≤◌, Bool, true, false, not, List, [], ◌∷◌, ◌++◌, map, length, take, drop, Result, Ok, Err, MatchResult, IsErrAnd, refl, ap, sym, ◌∙◌, arith, subst, append_assoc, length-append, take-append-drop, inl, inr}
use Rattle.std.specs.Prelude.{nat_eq, codes}
use Rattle.std.proofs.Math.Seq.{drop-append_seam}
use Rattle.std.specs.List.{list_all}
use Rattle.std.specs.Str.Pattern.{FindsText, SplitsAroundMatch, LacksTextAt}
use Rattle.std.proofs.lemmas.Bool.{and_parts, not-false, cases_lt}
use Rattle.bk_lex.specs.Lexis.{is_blank, Gap, blank, block, line, gap_text, ends_line, stays_in_line, IsGap, AreGaps, NoComment}
use Rattle.bk_lex.specs.Parts.{begins, IsRun, NoGap, IsGapFault}
use Rattle.bk_lex.specs.declared.fault.LexFault.{LexFault}
use Rattle.bk_lex.specs.declared.fault.LexFault.TheVariants.{NotUtf8, BadChar, OpenComment, NumberTooWide, Limit, Memory}

-- ---- lists of them
pub gaps_append : (one two : List Gap) (text middle rest : List ℕ) → AreGaps one text middle → AreGaps two middle rest → AreGaps (one ++ two) text rest
gaps_append [] two text middle rest a b = subst (λ t. AreGaps two t rest) (sym a) b
gaps_append (g ∷ one) two text middle rest a b = (a.0, a.1, a.2, gaps_append one two a.0 middle rest a.3 b)

pub blank_gaps : (run rest : List ℕ) → list_all is_blank run ≡ true → AreGaps (map blank run) (run ++ rest) rest
blank_gaps [] rest h = refl
blank_gaps (c ∷ run) rest h =
    let parts : (is_blank c ≡ true) × (list_all is_blank run ≡ true) = and_parts (is_blank c) (list_all is_blank run) h in
    (run ++ rest, refl, parts.0, blank_gaps run rest parts.1)

-- ---- where the next one begins
pub no_gap : (text : List ℕ) → begins is_blank text ≡ false → NoComment text → NoGap text
no_gap text b n = record { no_gap = none; comment = n }
  where
    none : (gap : Gap) (after : List ℕ) → IsGap gap after → text ≢ gap_text gap ++ after
    none (blank c) after h e =
        let no : is_blank c ≡ false = sym (ap (λ v. begins is_blank v) e) ∙ b in
        let yes : is_blank c ≡ true = h in absurd (cc)
    none (block body) after h e = n.no_block ((body ++ codes "*/") ++ after) e
    none (line body) after h e = n.no_line (body ++ after) e

-- no blank and no closed comment begins here
abbrev pub Settled : List ℕ → Type 0
Settled text = (gap : Gap) (after : List ℕ) → IsGap gap after → text ≢ gap_text gap ++ after

pub no_gaps_left : (gaps : List Gap) (text rest : List ℕ) → Settled text → AreGaps gaps text rest → text ≡ rest
no_gaps_left [] text rest n a = a
no_gaps_left (g ∷ gaps) text rest n a = absurd (n g a.0 a.2 a.1)

-- ---- a text begins with one
pub blank_no_comment : (c d : ℕ) (x y : List ℕ) → is_blank c ≡ true → c ∷ x ≡ 47 ∷ y → ⊥
blank_no_comment c d x y h e =
    let same : c ≡ 47 = cc in
    let yes : is_blank 47 ≡ true = subst (λ k. is_blank k ≡ true) same h in absurd (cc)

-- the first of two lists that begin the same text is no longer
pub prefix : (v w x y : List ℕ) → v ++ x ≡ w ++ y → length v ≤ length w → (back : List ℕ) × (w ≡ v ++ back) × (x ≡ back ++ y)
prefix [] w x y e l = (w, refl, e)
prefix (a ∷ v) [] x y e l = absurd (omega arith)
prefix (a ∷ v) (b ∷ w) x y e l =
    let tails : v ++ x ≡ w ++ y = cc in
    let heads : a ≡ b = cc in
    let p : (back : List ℕ) × (w ≡ v ++ back) × (x ≡ back ++ y) = prefix v w x y tails (omega arith) in
    let whole : b ∷ w ≡ a ∷ (v ++ p.0) = ap (λ z. b ∷ z) p.1 ∙ ap (λ z. z ∷ (v ++ p.0)) (sym heads) in
    (p.0, whole, p.2)

pub same_cut : (v w x y : List ℕ) → v ++ x ≡ w ++ y → length v ≡ length w → (v ≡ w) × (x ≡ y)
same_cut [] [] x y e n = (refl, e)
same_cut [] (b ∷ w) x y e n = absurd (omega arith)
same_cut (a ∷ v) [] x y e n = absurd (omega arith)
same_cut (a ∷ v) (b ∷ w) x y e n =
    let tails : v ++ x ≡ w ++ y = cc in
    let heads : a ≡ b = cc in
    let same : (v ≡ w) × (x ≡ y) = same_cut v w x y tails (omega arith) in
    let whole : a ∷ v ≡ b ∷ w = cc in
    (whole, same.1)

-- a comment that ends at its first */ is no longer than another with a */ behind it
block_short : (one two x y : List ℕ) → ((front back : List ℕ) → one ++ codes "*/" ≡ front ++ codes "*/" ++ back → length one ≤ length front) → (one ++ codes "*/") ++ x ≡ (two ++ codes "*/") ++ y → length one ≤ length two
block_short one two x y first e = elim (cases_lt (length two) (length one)) [
  | inl less ↦ (
      let left : length (one ++ codes "*/") ≡ length one + 2 = length-append one (codes "*/") in
      let right : length (two ++ codes "*/") ≡ length two + 2 = length-append two (codes "*/") in
      let p : (back : List ℕ) × (one ++ codes "*/" ≡ (two ++ codes "*/") ++ back) × (y ≡ back ++ x) =
      prefix (two ++ codes "*/") (one ++ codes "*/") y x (sym e) (omega arith) in
      first two p.0 p.1
      )
  | inr more ↦ more
]

block_once : (one two x y : List ℕ) → IsGap (block one) x → IsGap (block two) y → gap_text (block one) ++ x ≡ gap_text (block two) ++ y → x ≡ y
block_once one two x y p q e =
    let inner : (one ++ codes "*/") ++ x ≡ (two ++ codes "*/") ++ y = ap (λ v. drop 2 v) e in
    let a : length one ≤ length two = block_short one two x y p inner in
    let b : length two ≤ length one = block_short two one y x q (sym inner) in
    let left : length (one ++ codes "*/") ≡ length one + 2 = length-append one (codes "*/") in
    let right : length (two ++ codes "*/") ≡ length two + 2 = length-append two (codes "*/") in
    (same_cut (one ++ codes "*/") (two ++ codes "*/") x y inner (omega arith)).1

-- the first line ends once
line_once : (one two x y : List ℕ) → list_all stays_in_line one ≡ true → list_all stays_in_line two ≡ true → ends_line x ≡ true → ends_line y ≡ true → one ++ x ≡ two ++ y → x ≡ y
line_once [] [] x y a b p q e = e
line_once [] (c ∷ two) [] y a b p q e = absurd (cc)
line_once [] (c ∷ two) (d ∷ x) y a b p q e =
    let same : d ≡ c = cc in
    let stays : not (nat_eq c 10) ≡ true = (and_parts (stays_in_line c) (list_all stays_in_line two) b).0 in
    let here : nat_eq c 10 ≡ true = subst (λ k. nat_eq k 10 ≡ true) same p in
    let no : not (nat_eq c 10) ≡ false = ap (λ z. not z) here in absurd (cc)
line_once (c ∷ one) [] x [] a b p q e = absurd (cc)
line_once (c ∷ one) [] x (d ∷ y) a b p q e =
    let same : d ≡ c = cc in
    let stays : not (nat_eq c 10) ≡ true = (and_parts (stays_in_line c) (list_all stays_in_line one) a).0 in
    let here : nat_eq c 10 ≡ true = subst (λ k. nat_eq k 10 ≡ true) same q in
    let no : not (nat_eq c 10) ≡ false = ap (λ z. not z) here in absurd (cc)
line_once (c ∷ one) (d ∷ two) x y a b p q e =
    let tails : one ++ x ≡ two ++ y = cc in
    line_once one two x y (and_parts (stays_in_line c) (list_all stays_in_line one) a).1 (and_parts (stays_in_line d) (list_all stays_in_line two) b).1 p q tails

second : List ℕ → ℕ
second [] = 0
second (a ∷ []) = 0
second (a ∷ b ∷ rest) = b

pub block_no_line : (x y : List ℕ) → codes "/*" ++ x ≡ codes "//" ++ y → ⊥
unfolding second
block_no_line x y e = let differ : ◌≡◌ {A = ℕ} 42 47 = ap second e in omega arith

pub gap_once : (one two : Gap) (x y : List ℕ) → IsGap one x → IsGap two y → gap_text one ++ x ≡ gap_text two ++ y → x ≡ y
gap_once (blank c) (blank d) x y p q e = cc
gap_once (blank c) (block d) x y p q e = absurd (blank_no_comment c 42 x (42 ∷ ((d ++ codes "*/") ++ y)) p e)
gap_once (blank c) (line d) x y p q e = absurd (blank_no_comment c 47 x (47 ∷ (d ++ y)) p e)
gap_once (block c) (blank d) x y p q e = absurd (blank_no_comment d 42 y (42 ∷ ((c ++ codes "*/") ++ x)) q (sym e))
gap_once (block c) (block d) x y p q e = block_once c d x y p q e
gap_once (block c) (line d) x y p q e = absurd (block_no_line ((c ++ codes "*/") ++ x) (d ++ y) e)
gap_once (line c) (blank d) x y p q e = absurd (blank_no_comment d 47 y (47 ∷ (c ++ x)) q (sym e))
gap_once (line c) (block d) x y p q e = absurd (block_no_line ((d ++ codes "*/") ++ y) (c ++ x) (sym e))
gap_once (line c) (line d) x y p q e = line_once c d x y p.0 q.0 p.1 q.1 (ap (λ v. drop 2 v) e)

-- what stands behind all of them is one
pub gaps_once : (one two : List Gap) (text x y : List ℕ) → AreGaps one text x → AreGaps two text y → Settled x → Settled y → x ≡ y
gaps_once [] two text x y p q n m = let same : text ≡ x = p in sym same ∙ no_gaps_left two text y (subst Settled (sym same) n) q
gaps_once (g ∷ one) [] text x y p q n m = absurd (m g p.0 p.2 (sym q ∙ p.1))
gaps_once (g ∷ one) (h ∷ two) text x y p q n m =
    let same : p.0 ≡ q.0 = gap_once g h p.0 q.0 p.2 q.2 (sym p.1 ∙ q.1) in
    gaps_once one two q.0 x y (subst (λ v. AreGaps one v x) same p.3) q.3 n m

-- ---- comments that are read
-- what stands behind the first */
pub block_gap : (body before rest : List ℕ) → SplitsAroundMatch (FindsText (codes "*/")) body before rest → (body ≡ before ++ codes "*/" ++ rest) × IsGap (block before) rest
block_gap body before rest s = (splits, first)
  where
    there : drop s.0 body ≡ codes "*/" ++ drop s.1 body
    there = s.2.1.split

    halves : body ≡ before ++ (codes "*/" ++ rest)
    halves = sym (take-append-drop s.0 body) ∙ ap (λ v. take s.0 body ++ v) there ∙ ap (λ v. v ++ (codes "*/" ++ drop s.1 body)) (sym s.3) ∙ ap (λ v. before ++ (codes "*/" ++ v)) (sym s.4)

    splits : body ≡ before ++ codes "*/" ++ rest
    splits = halves ∙ sym (append_assoc before (codes "*/") rest)

    first : (front back : List ℕ) → before ++ codes "*/" ≡ front ++ codes "*/" ++ back → length before ≤ length front
    first front back e = elim (cases_lt (length front) (length before)) [
      | inl less ↦ (
          let whole : body ≡ front ++ (codes "*/" ++ (back ++ rest)) =
          splits ∙ ap (λ v. v ++ rest) e ∙ append_assoc (front ++ codes "*/") back rest ∙ append_assoc front (codes "*/") (back ++ rest) in
          absurd (s.2.0 (length front) (subst (λ n. length front < n) s.6 less) (back ++ rest) (ap (λ v. drop (length front) v) whole ∙ drop-append_seam front (codes "*/" ++ (back ++ rest))))
          )
      | inr more ↦ more
    ]

pub line_gap : (body run rest : List ℕ) → IsRun stays_in_line body run rest → IsGap (line run) rest
line_gap body run rest r = (r.all, ends rest r.ends)
  where
    ends : (v : List ℕ) → begins stays_in_line v ≡ false → ends_line v ≡ true
    ends [] h = refl
    ends (c ∷ v) h = not-false (nat_eq c 10) h

pub no_close : (body : List ℕ) → ((i : ℕ) → i ≤ length body → LacksTextAt (codes "*/") body i) → (front back : List ℕ) → body ≢ front ++ codes "*/" ++ back
no_close body h front back e =
    let whole : body ≡ front ++ (codes "*/" ++ back) = e ∙ append_assoc front (codes "*/") back in
    let long : length body ≡ length front + length (codes "*/" ++ back) = ap length whole ∙ length-append front (codes "*/" ++ back) in
    h (length front) (omega arith) back (ap (λ v. drop (length front) v) whole ∙ drop-append_seam front (codes "*/" ++ back))

-- ---- the blanks and comments in front, step by step
pub blanks_behind : (text run rest : List ℕ) → IsRun is_blank text run rest → AreGaps (map blank run) text rest
blanks_behind text run rest r = subst (λ t. AreGaps (map blank run) t rest) (sym r.splits) (blank_gaps run rest r.all)

pub rest_shorter : (p : ℕ → Bool) (text run rest : List ℕ) → IsRun p text run rest → length rest ≤ length text
rest_shorter p text run rest r =
    let whole : length text ≡ length run + length rest = ap length r.splits ∙ length-append run rest in omega arith

gap_long : (gap : Gap) → 0 < length (gap_text gap)
gap_long (blank c) = omega arith
gap_long (block body) = omega arith
gap_long (line body) = omega arith

pub gap_shorter : (gap : Gap) (rest after : List ℕ) → rest ≡ gap_text gap ++ after → length after < length rest
gap_shorter gap rest after e =
    let whole : length rest ≡ length (gap_text gap) + length after = ap length e ∙ length-append (gap_text gap) after in
    omega (arith, gap_long gap)

pub more_gaps : (gaps : List Gap) (gap : Gap) (text rest after run next : List ℕ) → AreGaps gaps text rest → rest ≡ gap_text gap ++ after → IsGap gap after → IsRun is_blank after run next → AreGaps ((gaps ++ (gap ∷ [])) ++ map blank run) text next
more_gaps gaps gap text rest after run next a e g r =
    gaps_append (gaps ++ (gap ∷ [])) (map blank run) text after next (gaps_append gaps (gap ∷ []) text rest after a (after, e, g, refl)) (blanks_behind after run next r)

pub gap_fault_behind : (gaps : List Gap) (total : ℕ) (text rest : List ℕ) (fault : LexFault) → AreGaps gaps text rest → IsGapFault total rest fault → IsGapFault total text fault
gap_fault_behind gaps total text rest (NotUtf8 place) a f = f
gap_fault_behind gaps total text rest (BadChar place) a f = f
gap_fault_behind gaps total text rest (OpenComment place) a f = (gaps ++ f.0, f.1, gaps_append gaps f.0 text rest f.1 a f.2, f.3, f.4)
gap_fault_behind gaps total text rest (NumberTooWide place) a f = f
gap_fault_behind gaps total text rest (Limit place) a f = f
gap_fault_behind gaps total text rest Memory a f = f

pub err_matches : {T : Type 0} (r : Result T LexFault) (fault : LexFault) (P : T → Type 0) (Q : LexFault → Type 0) → IsErrAnd r (λ e. e ≡ fault) → Q fault → MatchResult r P Q
err_matches (Ok x) fault P Q h q = absurd h
err_matches (Err e) fault P Q h q = subst Q (sym h) q
