-- A text, token by token.
use Rattle.std.proofs.Common.{◌≡◌, ℕ, ◌+◌, ◌<◌, ◌≤◌, List, [], ◌∷◌, ◌++◌, length, refl, ap, sym, ◌∙◌, arith, subst, append-nil, length-append, drop, IsUtf8, ◌⊎◌, inl, inr, Result, Ok, Err, MatchResult, IfErr}
use Rattle.std.specs.Prelude.{codes}
use Rattle.bk_limits.specs.declared.TheConstants.{MOST_TOKENS}
use Rattle.bk_form.specs.declared.token.Token.{Token}
use Rattle.bk_form.specs.declared.token.TokenKind.{TokenKind}
use Rattle.bk_form.specs.declared.token.TokenKind.TheVariants.{Sign}
use Rattle.std.proofs.lemmas.Str.{utf8_valid_len-IsValidUpTo}
use Rattle.bk_lex.specs.Lexis.{Gap, blank, block, line, AreGaps, BeginsWith, Fits, Cut, AreTokens}
use Rattle.bk_lex.specs.Faults.{IsOpenComment, BeginsNothing, BeginsTooWide, BeginsToken, IsFaultOf}
use Rattle.bk_lex.specs.Parts.{IsGapFault, IsFirstToken}
use Rattle.bk_lex.specs.declared.fault.LexFault.{LexFault}
use Rattle.bk_lex.specs.declared.fault.LexFault.TheVariants.{NotUtf8, BadChar, OpenComment, NumberTooWide, Limit, Memory}
use Rattle.bk_lex.proofs.Characters.{class_of}
use Rattle.bk_lex.proofs.Gaps.{gaps_append, gaps_once, no_gaps_left, Settled, blank_no_comment, block_no_line}
use Rattle.bk_lex.specs.Laws.{IsOfText, HasNoTokens}
use Rattle.bk_lex.proofs.Spelling.{kind_class, written_class, small_class, begins_once, begins_no_gap}

-- ---- one step more
pub cut_gaps : (total : ℕ) (text : List ℕ) (found : List Token) (rest next : List ℕ) (gaps : List Gap) → Cut total text found rest → AreGaps gaps rest next → Cut total text found next
cut_gaps total text [] rest next gaps c a = (c.0 ++ gaps, gaps_append c.0 gaps text rest next c.1 a)
cut_gaps total text (t ∷ found) rest next gaps c a =
    (c.0, c.1, c.2, c.3, c.4, c.5, c.6, c.7, cut_gaps total c.2 found rest next gaps c.8 a)

pub cut_token : (total : ℕ) (text : List ℕ) (found : List Token) (rest : List ℕ) (token : Token) (after : List ℕ) → Cut total text found rest → BeginsWith token.kind rest after → Fits token.kind → token.start + length rest ≡ total → token.end + length after ≡ total → Cut total text (found ++ (token ∷ [])) after
cut_token total text [] rest token after c b f s e = (c.0, rest, after, c.1, b, f, s, e, ([], refl))
cut_token total text (t ∷ found) rest token after c b f s e =
    (c.0, c.1, c.2, c.3, c.4, c.5, c.6, c.7, cut_token total c.2 found rest token after c.8 b f s e)

pub begins_some : (kind : TokenKind) (rest after : List ℕ) → BeginsWith kind rest after → length after < length rest
begins_some kind rest after b =
    let whole : length rest ≡ length b.written + length after = ap length b.splits ∙ length-append b.written after in
    let here : class_of (b.written ++ after) ≡ kind_class kind = written_class kind b.written after b.spelling in
    let some : 0 < length b.written = nonempty b.written (sym (ap class_of (append-nil b.written)) ∙ written_class kind b.written [] b.spelling) in
    omega arith
  where
    nonempty : (w : List ℕ) → class_of w ≡ kind_class kind → 0 < length w
    nonempty [] h = absurd (omega (arith, small_class kind))
    nonempty (c ∷ w) h = omega arith

pub pushed : (text : List ℕ) (found items : List Token) (rest after : List ℕ) (token : Token) → items ≡ found ++ (token ∷ []) → Cut (length text) text found rest → IsFirstToken token.kind rest after → token.start + length rest ≡ length text → token.end + length after ≡ length text → Cut (length text) text items after
pushed text found items rest after token i c b s e =
    subst (λ ts. Cut (length text) text ts after) (sym i) (cut_token (length text) text found rest token after c b.0 b.1 s e)

pub length-pushed : (found items : List Token) (token : Token) → items ≡ found ++ (token ∷ []) → length items ≡ length found + 1
length-pushed found items token i = ap length i ∙ length-append found (token ∷ [])

-- ---- faults
pub gap_fault : (text : List ℕ) (found : List Token) (rest : List ℕ) (fault : LexFault) → IsUtf8 text → length found ≤ MOST_TOKENS → Cut (length text) text found rest → IsGapFault (length text) rest fault → IsFaultOf text fault
gap_fault text found rest (NotUtf8 place) u l c f = absurd f
gap_fault text found rest (BadChar place) u l c f = absurd f
gap_fault text found rest (OpenComment place) u l c f =
    (u, found, record { rest = f.1; cut = cut_gaps (length text) text found rest f.1 f.0 c f.2; left = f.3; this = f.4 }, l)
gap_fault text found rest (NumberTooWide place) u l c f = absurd f
gap_fault text found rest (Limit place) u l c f = absurd f
gap_fault text found rest Memory u l c f = tt

-- ---- two cuts of one text
same_token : (u v : Token) → u.kind ≡ v.kind → u.start ≡ v.start → u.end ≡ v.end → u ≡ v
same_token u v p q r = λ i. record { kind = p i; start = q i; end = r i }

-- one goes on where the other ends
abbrev pub GoesOn : ℕ → List Token → List ℕ → List Token → List ℕ → Type 0
GoesOn total found rest all end = (more : List Token) × (all ≡ found ++ more) × Cut total rest more end

pub compared : (total : ℕ) (text : List ℕ) (one other : List Token) (x y : List ℕ) → Cut total text one x → Cut total text other y → Settled x → Settled y → GoesOn total one x other y ⊎ GoesOn total other y one x
compared total text [] [] x y c d s t =
    inl ([], refl, ([], gaps_once c.0 d.0 text x y c.1 d.1 s t))
compared total text [] (u ∷ other) x y c d s t =
    let same : x ≡ d.1 = gaps_once c.0 d.0 text x d.1 c.1 d.3 s (begins_no_gap u.kind d.1 d.2 d.4).no_gap in
    inl (u ∷ other, refl, ([], d.1, d.2, same, d.4, d.5, d.6, d.7, d.8))
compared total text (u ∷ one) [] x y c d s t =
    let same : y ≡ c.1 = gaps_once d.0 c.0 text y c.1 d.1 c.3 t (begins_no_gap u.kind c.1 c.2 c.4).no_gap in
    inr (u ∷ one, refl, ([], c.1, c.2, same, c.4, c.5, c.6, c.7, c.8))
compared total text (u ∷ one) (v ∷ other) x y c d s t =
    let here : c.1 ≡ d.1 = gaps_once c.0 d.0 text c.1 d.1 c.3 d.3 (begins_no_gap u.kind c.1 c.2 c.4).no_gap (begins_no_gap v.kind d.1 d.2 d.4).no_gap in
    let begun : (u.kind ≡ v.kind) × (c.2 ≡ d.2) = begins_once u.kind v.kind d.1 c.2 d.2 (subst (λ w. BeginsWith u.kind w c.2) here c.4) d.4 in
    let lengths : length c.1 ≡ length d.1 = ap length here in
    let behind : length c.2 ≡ length d.2 = ap length begun.1 in
    let starts : u.start ≡ v.start = omega (arith, c.6, d.6) in
    let ends : u.end ≡ v.end = omega (arith, c.7, d.7) in
    let token : u ≡ v = same_token u v begun.0 starts ends in
    elim (compared total d.2 one other x y (subst (λ w. Cut total w one x) begun.1 c.8) d.8 s t) [
      | inl g ↦ inl (g.0, ap (λ w. v ∷ w) g.1 ∙ ap (λ w. w ∷ (one ++ g.0)) (sym token), g.2)
      | inr g ↦ inr (g.0, ap (λ w. u ∷ w) g.1 ∙ ap (λ w. w ∷ (other ++ g.0)) token, g.2)
    ]

-- nothing that fits begins here
abbrev pub Dead : List ℕ → Type 0
Dead rest = (kind : TokenKind) (after : List ℕ) → BeginsWith kind rest after → Fits kind → ⊥

pub dead_end : (total : ℕ) (rest : List ℕ) (more : List Token) (end : List ℕ) → Settled rest → Dead rest → Cut total rest more end → (more ≡ []) × (rest ≡ end)
dead_end total rest [] end s d c = (refl, no_gaps_left c.0 rest end s c.1)
dead_end total rest (t ∷ more) end s d c =
    let same : rest ≡ c.1 = no_gaps_left c.0 rest c.1 s c.3 in
    absurd (d t.kind c.2 (subst (λ w. BeginsWith t.kind w c.2) (sym same) c.4) c.5)

pub end_settled : Settled []
end_settled (blank c) after h e = absurd (cc)
end_settled (block body) after h e = absurd (cc)
end_settled (line body) after h e = absurd (cc)

pub end_dead : Dead []
end_dead kind after b f = let some : length after < 0 = begins_some kind [] after b in omega arith

pub tokens_are_one : (text : List ℕ) (one other : List Token) → AreTokens text one → AreTokens text other → one ≡ other
tokens_are_one text one other c d = elim (compared (length text) text one other [] [] c.1 d.1 end_settled end_settled) [
  | inl g ↦ (
      let last : (g.0 ≡ []) × (◌≡◌ {A = List ℕ} [] []) = dead_end (length text) [] g.0 [] end_settled end_dead g.2 in
      sym (append-nil one) ∙ ap (λ w. one ++ w) (sym last.0) ∙ sym g.1
      )
  | inr g ↦ (
      let last : (g.0 ≡ []) × (◌≡◌ {A = List ℕ} [] []) = dead_end (length text) [] g.0 [] end_settled end_dead g.2 in
      g.1 ∙ ap (λ w. other ++ w) last.0 ∙ append-nil other
      )
]

-- ---- faults and tokens
open_settled : (rest : List ℕ) → IsOpenComment rest → Settled rest
open_settled rest o (blank c) after h e = blank_no_comment c 42 after (42 ∷ o.body) h (sym e ∙ o.opens)
open_settled rest o (block body) after h e =
    o.unclosed body after (ap (λ v. drop 2 v) (sym o.opens ∙ e))
open_settled rest o (line body) after h e = block_no_line o.body (body ++ after) (sym o.opens ∙ e)

open_dead : (rest : List ℕ) → IsOpenComment rest → Dead rest
open_dead rest o kind after b f = b.comment.no_block o.body o.opens

open_some : (rest : List ℕ) → IsOpenComment rest → 0 < length rest
open_some rest o = let whole : length rest ≡ length (codes "/*" ++ o.body) = ap length o.opens in omega arith

nothing_dead : (rest : List ℕ) → BeginsNothing rest → Dead rest
nothing_dead rest n kind after b f = n.no_token kind b.written after b.spelling b.splits

wide_dead : (rest : List ℕ) → BeginsTooWide rest → Dead rest
wide_dead rest w kind after b f =
    let same : kind ≡ w.kind = (begins_once kind w.kind rest after w.after b w.begins).0 in
    w.wide (subst Fits same f)

wide_settled : (rest : List ℕ) → BeginsTooWide rest → Settled rest
wide_settled rest w = (begins_no_gap w.kind rest w.after w.begins).no_gap

wide_some : (rest : List ℕ) → BeginsTooWide rest → 0 < length rest
wide_some rest w = let less : length w.after < length rest = begins_some w.kind rest w.after w.begins in omega arith

-- where a text's cut is stuck before its end, it has no tokens
stuck : (text : List ℕ) (found tokens : List Token) (rest : List ℕ) → Cut (length text) text found rest → Settled rest → Dead rest → 0 < length rest → AreTokens text tokens → ⊥
stuck text found tokens rest c s d some a = elim (compared (length text) text found tokens rest [] c a.1 s end_settled) [
  | inl g ↦ (
      let last : (g.0 ≡ []) × (rest ≡ []) = dead_end (length text) rest g.0 [] s d g.2 in
      let none : length rest ≡ 0 = ap length last.1 in
      omega arith
      )
  | inr g ↦ (
      let last : (g.0 ≡ []) × ([] ≡ rest) = dead_end (length text) [] g.0 rest end_settled end_dead g.2 in
      let none : 0 ≡ length rest = ap length last.1 in
      omega arith
      )
]

past_limit : (text : List ℕ) (found tokens : List Token) (rest : List ℕ) → Cut (length text) text found rest → BeginsToken rest → length found ≡ MOST_TOKENS → AreTokens text tokens → length tokens ≤ MOST_TOKENS → ⊥
past_limit text found tokens rest c b l a few =
    let less : length b.after < length rest = begins_some b.kind rest b.after b.begins in
    elim (compared (length text) text found tokens rest [] c a.1 (begins_no_gap b.kind rest b.after b.begins).no_gap end_settled) [
      | inl g ↦ (
          let sizes : length tokens ≡ length found + length g.0 = ap length g.1 ∙ length-append found g.0 in
          let empty : rest ≡ [] = no_more (length text) g.0 rest [] (omega arith) (begins_no_gap b.kind rest b.after b.begins).no_gap g.2 in
          let none : length rest ≡ 0 = ap length empty in
          omega arith
          )
      | inr g ↦ (
          let last : (g.0 ≡ []) × ([] ≡ rest) = dead_end (length text) [] g.0 rest end_settled end_dead g.2 in
          let none : 0 ≡ length rest = ap length last.1 in
          omega arith
          )
    ]
  where
    no_more : (total : ℕ) (more : List Token) (x y : List ℕ) → length more ≤ 0 → Settled x → Cut total x more y → x ≡ y
    no_more total [] x y z s k = no_gaps_left k.0 x y s k.1
    no_more total (t ∷ more) x y z s k = absurd (omega arith)

pub faults_have_no_tokens : (text : List ℕ) (fault : LexFault) (tokens : List Token) → IsFaultOf text fault → IsOfText fault → AreTokens text tokens → length tokens ≤ MOST_TOKENS → ⊥
faults_have_no_tokens text (NotUtf8 place) tokens f o a l = f.0 a.0
faults_have_no_tokens text (BadChar place) tokens f o a l =
    stuck text f.1 tokens f.2.rest f.2.cut f.2.this.no_gap (nothing_dead f.2.rest f.2.this) f.2.this.some a
faults_have_no_tokens text (OpenComment place) tokens f o a l =
    stuck text f.1 tokens f.2.rest f.2.cut (open_settled f.2.rest f.2.this) (open_dead f.2.rest f.2.this) (open_some f.2.rest f.2.this) a
faults_have_no_tokens text (NumberTooWide place) tokens f o a l =
    stuck text f.1 tokens f.2.rest f.2.cut (wide_settled f.2.rest f.2.this) (wide_dead f.2.rest f.2.this) (wide_some f.2.rest f.2.this) a
faults_have_no_tokens text (Limit place) tokens f o a l =
    past_limit text f.1 tokens f.2.rest f.2.cut f.2.this f.3 a l
faults_have_no_tokens text Memory tokens f o a l = o

-- ---- a text has one fault
-- two cuts that are stuck end at one place
stuck_once : (text : List ℕ) (one other : List Token) (x y : List ℕ) (i j : ℕ) → Cut (length text) text one x → Cut (length text) text other y → Settled x → Settled y → Dead x → Dead y → i + length x ≡ length text → j + length y ≡ length text → (x ≡ y) × (i ≡ j)
stuck_once text one other x y i j c d s t e f p q =
    let same : x ≡ y = elim (compared (length text) text one other x y c d s t) [
      | inl g ↦ (dead_end (length text) x g.0 y s e g.2).1
      | inr g ↦ sym (dead_end (length text) y g.0 x t f g.2).1
    ] in
    let lengths : length x ≡ length y = ap length same in
    (same, omega arith)

token_settled : (rest : List ℕ) → BeginsToken rest → Settled rest
token_settled rest b = (begins_no_gap b.kind rest b.after b.begins).no_gap

-- a cut with fewer tokens that goes on ends at the same place or is one of more tokens
same_end : (total : ℕ) (more : List Token) (x y : List ℕ) → length more ≤ 0 → Settled x → Cut total x more y → x ≡ y
same_end total [] x y z s k = no_gaps_left k.0 x y s k.1
same_end total (t ∷ more) x y z s k = absurd (omega arith)

limit_stuck : (text : List ℕ) (one other : List Token) (x y : List ℕ) → Cut (length text) text one x → Cut (length text) text other y → BeginsToken x → length one ≡ MOST_TOKENS → Settled y → Dead y → length other ≤ MOST_TOKENS → ⊥
limit_stuck text one other x y c d b l t f few = elim (compared (length text) text one other x y c d (token_settled x b) t) [
  | inl g ↦ (
      let sizes : length other ≡ length one + length g.0 = ap length g.1 ∙ length-append one g.0 in
      let same : x ≡ y = same_end (length text) g.0 x y (omega arith) (token_settled x b) g.2 in
      f b.kind b.after (subst (λ w. BeginsWith b.kind w b.after) same b.begins) b.fits
      )
  | inr g ↦ (
      let same : y ≡ x = (dead_end (length text) y g.0 x t f g.2).1 in
      f b.kind b.after (subst (λ w. BeginsWith b.kind w b.after) (sym same) b.begins) b.fits
      )
]

limit_once : (text : List ℕ) (one other : List Token) (x y : List ℕ) (i j : ℕ) → Cut (length text) text one x → Cut (length text) text other y → BeginsToken x → BeginsToken y → length one ≡ MOST_TOKENS → length other ≡ MOST_TOKENS → i + length x ≡ length text → j + length y ≡ length text → i ≡ j
limit_once text one other x y i j c d b e l m p q =
    let same : x ≡ y = elim (compared (length text) text one other x y c d (token_settled x b) (token_settled y e)) [
      | inl g ↦ (
          let sizes : length other ≡ length one + length g.0 = ap length g.1 ∙ length-append one g.0 in
          same_end (length text) g.0 x y (omega arith) (token_settled x b) g.2
          )
      | inr g ↦ (
          let sizes : length one ≡ length other + length g.0 = ap length g.1 ∙ length-append other g.0 in
          sym (same_end (length text) g.0 y x (omega arith) (token_settled y e) g.2)
          )
    ] in
    let lengths : length x ≡ length y = ap length same in
    omega arith

nothing_no_open : (x y : List ℕ) → x ≡ y → BeginsNothing x → IsOpenComment y → ⊥
nothing_no_open x y e n o = n.no_token (Sign 49) (codes "/") (42 ∷ o.body) refl (e ∙ o.opens)

nothing_no_wide : (x y : List ℕ) → x ≡ y → BeginsNothing x → BeginsTooWide y → ⊥
nothing_no_wide x y e n w = n.no_token w.kind w.begins.written w.after w.begins.spelling (e ∙ w.begins.splits)

open_no_wide : (x y : List ℕ) → x ≡ y → IsOpenComment x → BeginsTooWide y → ⊥
open_no_wide x y e o w = w.begins.comment.no_block o.body (sym e ∙ o.opens)

pub faults_are_one : (text : List ℕ) (one other : LexFault) → IsFaultOf text one → IsOfText one → IsFaultOf text other → IsOfText other → one ≡ other
faults_are_one text (NotUtf8 i) (NotUtf8 j) f o g p = ap (λ k. NotUtf8 k) (sym (utf8_valid_len-IsValidUpTo text i f.1) ∙ utf8_valid_len-IsValidUpTo text j g.1)
faults_are_one text (NotUtf8 i) (BadChar j) f o g p = absurd (f.0 g.0)
faults_are_one text (NotUtf8 i) (OpenComment j) f o g p = absurd (f.0 g.0)
faults_are_one text (NotUtf8 i) (NumberTooWide j) f o g p = absurd (f.0 g.0)
faults_are_one text (NotUtf8 i) (Limit j) f o g p = absurd (f.0 g.0)
faults_are_one text (NotUtf8 i) Memory f o g p = absurd p
faults_are_one text (BadChar i) (NotUtf8 j) f o g p = absurd (g.0 f.0)
faults_are_one text (BadChar i) (BadChar j) f o g p = ap (λ k. BadChar k) (stuck_once text f.1 g.1 f.2.rest g.2.rest i j f.2.cut g.2.cut f.2.this.no_gap g.2.this.no_gap (nothing_dead f.2.rest f.2.this) (nothing_dead g.2.rest g.2.this) f.2.left g.2.left).1
faults_are_one text (BadChar i) (OpenComment j) f o g p = absurd (nothing_no_open f.2.rest g.2.rest (stuck_once text f.1 g.1 f.2.rest g.2.rest i j f.2.cut g.2.cut f.2.this.no_gap (open_settled g.2.rest g.2.this) (nothing_dead f.2.rest f.2.this) (open_dead g.2.rest g.2.this) f.2.left g.2.left).0 f.2.this g.2.this)
faults_are_one text (BadChar i) (NumberTooWide j) f o g p = absurd (nothing_no_wide f.2.rest g.2.rest (stuck_once text f.1 g.1 f.2.rest g.2.rest i j f.2.cut g.2.cut f.2.this.no_gap (wide_settled g.2.rest g.2.this) (nothing_dead f.2.rest f.2.this) (wide_dead g.2.rest g.2.this) f.2.left g.2.left).0 f.2.this g.2.this)
faults_are_one text (BadChar i) (Limit j) f o g p = absurd (limit_stuck text g.1 f.1 g.2.rest f.2.rest g.2.cut f.2.cut g.2.this g.3 f.2.this.no_gap (nothing_dead f.2.rest f.2.this) f.3)
faults_are_one text (BadChar i) Memory f o g p = absurd p
faults_are_one text (OpenComment i) (NotUtf8 j) f o g p = absurd (g.0 f.0)
faults_are_one text (OpenComment i) (BadChar j) f o g p = absurd (nothing_no_open g.2.rest f.2.rest (sym (stuck_once text f.1 g.1 f.2.rest g.2.rest i j f.2.cut g.2.cut (open_settled f.2.rest f.2.this) g.2.this.no_gap (open_dead f.2.rest f.2.this) (nothing_dead g.2.rest g.2.this) f.2.left g.2.left).0) g.2.this f.2.this)
faults_are_one text (OpenComment i) (OpenComment j) f o g p = ap (λ k. OpenComment k) (stuck_once text f.1 g.1 f.2.rest g.2.rest i j f.2.cut g.2.cut (open_settled f.2.rest f.2.this) (open_settled g.2.rest g.2.this) (open_dead f.2.rest f.2.this) (open_dead g.2.rest g.2.this) f.2.left g.2.left).1
faults_are_one text (OpenComment i) (NumberTooWide j) f o g p = absurd (open_no_wide f.2.rest g.2.rest (stuck_once text f.1 g.1 f.2.rest g.2.rest i j f.2.cut g.2.cut (open_settled f.2.rest f.2.this) (wide_settled g.2.rest g.2.this) (open_dead f.2.rest f.2.this) (wide_dead g.2.rest g.2.this) f.2.left g.2.left).0 f.2.this g.2.this)
faults_are_one text (OpenComment i) (Limit j) f o g p = absurd (limit_stuck text g.1 f.1 g.2.rest f.2.rest g.2.cut f.2.cut g.2.this g.3 (open_settled f.2.rest f.2.this) (open_dead f.2.rest f.2.this) f.3)
faults_are_one text (OpenComment i) Memory f o g p = absurd p
faults_are_one text (NumberTooWide i) (NotUtf8 j) f o g p = absurd (g.0 f.0)
faults_are_one text (NumberTooWide i) (BadChar j) f o g p = absurd (nothing_no_wide g.2.rest f.2.rest (sym (stuck_once text f.1 g.1 f.2.rest g.2.rest i j f.2.cut g.2.cut (wide_settled f.2.rest f.2.this) g.2.this.no_gap (wide_dead f.2.rest f.2.this) (nothing_dead g.2.rest g.2.this) f.2.left g.2.left).0) g.2.this f.2.this)
faults_are_one text (NumberTooWide i) (OpenComment j) f o g p = absurd (open_no_wide g.2.rest f.2.rest (sym (stuck_once text f.1 g.1 f.2.rest g.2.rest i j f.2.cut g.2.cut (wide_settled f.2.rest f.2.this) (open_settled g.2.rest g.2.this) (wide_dead f.2.rest f.2.this) (open_dead g.2.rest g.2.this) f.2.left g.2.left).0) g.2.this f.2.this)
faults_are_one text (NumberTooWide i) (NumberTooWide j) f o g p = ap (λ k. NumberTooWide k) (stuck_once text f.1 g.1 f.2.rest g.2.rest i j f.2.cut g.2.cut (wide_settled f.2.rest f.2.this) (wide_settled g.2.rest g.2.this) (wide_dead f.2.rest f.2.this) (wide_dead g.2.rest g.2.this) f.2.left g.2.left).1
faults_are_one text (NumberTooWide i) (Limit j) f o g p = absurd (limit_stuck text g.1 f.1 g.2.rest f.2.rest g.2.cut f.2.cut g.2.this g.3 (wide_settled f.2.rest f.2.this) (wide_dead f.2.rest f.2.this) f.3)
faults_are_one text (NumberTooWide i) Memory f o g p = absurd p
faults_are_one text (Limit i) (NotUtf8 j) f o g p = absurd (g.0 f.0)
faults_are_one text (Limit i) (BadChar j) f o g p = absurd (limit_stuck text f.1 g.1 f.2.rest g.2.rest f.2.cut g.2.cut f.2.this f.3 g.2.this.no_gap (nothing_dead g.2.rest g.2.this) g.3)
faults_are_one text (Limit i) (OpenComment j) f o g p = absurd (limit_stuck text f.1 g.1 f.2.rest g.2.rest f.2.cut g.2.cut f.2.this f.3 (open_settled g.2.rest g.2.this) (open_dead g.2.rest g.2.this) g.3)
faults_are_one text (Limit i) (NumberTooWide j) f o g p = absurd (limit_stuck text f.1 g.1 f.2.rest g.2.rest f.2.cut g.2.cut f.2.this f.3 (wide_settled g.2.rest g.2.this) (wide_dead g.2.rest g.2.this) g.3)
faults_are_one text (Limit i) (Limit j) f o g p = ap (λ k. Limit k) (limit_once text f.1 g.1 f.2.rest g.2.rest i j f.2.cut g.2.cut f.2.this g.2.this f.3 g.3 f.2.left g.2.left)
faults_are_one text (Limit i) Memory f o g p = absurd p
faults_are_one text Memory (NotUtf8 j) f o g p = absurd o
faults_are_one text Memory (BadChar j) f o g p = absurd o
faults_are_one text Memory (OpenComment j) f o g p = absurd o
faults_are_one text Memory (NumberTooWide j) f o g p = absurd o
faults_are_one text Memory (Limit j) f o g p = absurd o
faults_are_one text Memory Memory f o g p = absurd o

pub no_tokens : {T : Type 0} (r : Result T LexFault) (P : T → Type 0) (text : List ℕ) → MatchResult r P (IsFaultOf text) → IfErr r (HasNoTokens text)
no_tokens (Ok x) P text h = tt
no_tokens (Err fault) P text h = λ o tokens a l. faults_have_no_tokens text fault tokens h o a l
