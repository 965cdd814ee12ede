-- Steps over the files.
use Rattle.std.specs.Prelude.{◌≡◌, ℕ, zero, suc, ◌<◌, ◌≤◌, true, false, Option, None, Some, is_some, MatchOption, Result, Ok, MatchResult, List, [], ◌∷◌, ◌++◌, length, map, take, drop, All, refl}
use Rattle.std.specs.List.{AllZip}
use Rattle.std.specs.Str.{IsUtf8}
use Rattle.std.proofs.Common.{inl, inr, arith, ap, get_or, sym, subst, ◌∙◌, Vec, Global}
use Rattle.std.proofs.lemmas.Bool.{false≢true}
use Rattle.std.proofs.lemmas.List.{map-append, length-map}
use Rattle.std.proofs.lemmas.Slice.Zip.{AllZip-long}
use Rattle.bk_form.specs.declared.token.Token.{Token}
use Rattle.bk_raw.specs.Errors.Places.{byte_at}
use Rattle.bk_lex.specs.declared.fault.LexFault.{LexFault}
use Rattle.bk_lex.specs.declared.fault.LexFault.TheVariants.{NotUtf8, OpenComment, NumberTooWide}
use Rattle.bk_sources.specs.declared.fault.FileFault.{FileFault}
use Rattle.bk_sources.specs.declared.fault.FileFault.TheVariants.{Fault}
use Rattle.bk_sources.specs.Files.{IsFirst, IsFaultOf}
use Rattle.bk_sources.specs.Stages.{IsFileFault}
use Rattle.bk_sources.proofs.Turns.{split_at, length_front, mapped_at, all_middle, Beside, zip_at}

-- the byte where a token starts, or the end
pub byte_within : (n : ℕ) (ts : List Token) (place : ℕ) (t : Token) → place < length ts → t ≡ get_or ts place t → t.start ≡ byte_at n ts place
byte_within n [] place t l e = absurd (omega (arith, l))
byte_within n (u ∷ us) zero t l e = ap (λ x. x.start) e
byte_within n (u ∷ us) (suc place) t l e = byte_within n us place t (omega (arith, l)) e

pub byte_behind : (n : ℕ) (ts : List Token) (place : ℕ) → length ts ≤ place → n ≡ byte_at n ts place
byte_behind n [] place l = refl
byte_behind n (u ∷ us) zero l = absurd (omega (arith, l))
byte_behind n (u ∷ us) (suc place) l = byte_behind n us place (omega (arith, l))

-- ---- tokens at fault
pub comment_told : (texts : List (List ℕ)) (file place : ℕ) (error : LexFault) (told : FileFault) → error ≡ OpenComment place → told ≡ Fault 2 file place → IsFileFault texts file error → All IsUtf8 texts → IsFaultOf texts told
comment_told texts file place error told e f h u =
    let g = subst (IsFileFault texts file) e h in
    subst (IsFaultOf texts) (sym f) (inr (refl, u, record { before = g.before; item = g.item; after = g.after; splits = g.splits; counted = g.counted; fine = g.fine; faulty = inr (inl g.faulty) }))

pub wide_told : (texts : List (List ℕ)) (file place : ℕ) (error : LexFault) (told : FileFault) → error ≡ NumberTooWide place → told ≡ Fault 2 file place → IsFileFault texts file error → All IsUtf8 texts → IsFaultOf texts told
wide_told texts file place error told e f h u =
    let g = subst (IsFileFault texts file) e h in
    subst (IsFaultOf texts) (sym f) (inr (refl, u, record { before = g.before; item = g.item; after = g.after; splits = g.splits; counted = g.counted; fine = g.fine; faulty = inr (inr g.faulty) }))

-- the texts are UTF-8
pub utf8_told : (texts : List (List ℕ)) (file place : ℕ) (error : LexFault) (told : FileFault) → error ≡ NotUtf8 place → IsFileFault texts file error → All IsUtf8 texts → IsFaultOf texts told
utf8_told texts file place error told e h u =
    let g = subst (IsFileFault texts file) e h in
    absurd (g.faulty.0 (all_middle IsUtf8 g.before g.item g.after (subst (All IsUtf8) g.splits u)))

-- ---- the files as lists
abbrev pub bytes_of : List (Vec ℕ Global) → List (List ℕ)
bytes_of texts = map (λ t. t.items) texts

abbrev pub tokens_of : List (Vec Token Global) → List (List Token)
tokens_of files = map (λ f. f.items) files

pub at_text : (texts : List (Vec ℕ Global)) (i : ℕ) (t : Vec ℕ Global) → i < length texts → t ≡ get_or texts i t → (i < length (bytes_of texts)) × (t.items ≡ get_or (bytes_of texts) i t.items)
at_text texts i t l e = (omega (arith, l, length-map texts (λ u. u.items)), mapped_at (λ u. u.items) texts i t e)

pub at_file : (files : List (Vec Token Global)) (i : ℕ) (f : Vec Token Global) → i < length files → f ≡ get_or files i f → (i < length (tokens_of files)) × (f.items ≡ get_or (tokens_of files) i f.items)
at_file files i f l e = (omega (arith, l, length-map files (λ u. u.items)), mapped_at (λ u. u.items) files i f e)

pub past_texts : (texts : List (Vec ℕ Global)) (i : ℕ) → length texts ≤ i → length (bytes_of texts) ≤ i
past_texts texts i l = omega (arith, l, length-map texts (λ u. u.items))

pub past_files : (files : List (Vec Token Global)) (i : ℕ) → length files ≤ i → length (tokens_of files) ≤ i
past_files files i l = omega (arith, l, length-map files (λ u. u.items))

pub tokens_on : (old new : List (Vec Token Global)) (f : Vec Token Global) → new ≡ old ++ f ∷ [] → tokens_of new ≡ tokens_of old ++ f.items ∷ []
tokens_on old new f e = ap tokens_of e ∙ map-append (λ u. u.items) old (f ∷ [])

-- there are as many of what is found as there are texts
pub files_counted : (texts : List (Vec ℕ Global)) (files : List (Vec Token Global)) (R : List ℕ → List Token → Type 0) → AllZip R (bytes_of texts) (tokens_of files) → length files ≡ length texts
files_counted texts files R h = sym (length-map files (λ u. u.items)) ∙ AllZip-long R (bytes_of texts) (tokens_of files) h ∙ length-map texts (λ u. u.items)

pub read_counted : {B : Type 0} (texts : List (Vec ℕ Global)) (read : List B) (R : List ℕ → B → Type 0) → AllZip R (bytes_of texts) read → length read ≡ length texts
read_counted texts read R h = AllZip-long R (bytes_of texts) read h ∙ length-map texts (λ u. u.items)

-- ---- answers, where it is known which ones they are
pub ok_of : {A E : Type 0} (r : Result A E) (P : A → Type 0) (Q : E → Type 0) (x : A) → MatchResult r P Q → r ≡ Ok x → P x
ok_of r P Q x h e = subst (λ s. MatchResult s P Q) e h

pub one_told : (o : Option ℕ) (P : Type 0) (Q : ℕ → Type 0) → MatchOption o P Q → is_some o ≡ true → (n : ℕ) × Q n
one_told None P Q h e = absurd (false≢true e)
one_told (Some n) P Q h e = (n, h)

pub none_told : (o : Option ℕ) (P : Type 0) (Q : ℕ → Type 0) → MatchOption o P Q → is_some o ≡ false → P
none_told None P Q h e = h
none_told (Some n) P Q h e = absurd (false≢true (sym e))

-- ---- the first file at fault
pub first_text : (Fine Faulty : List ℕ → Type 0) (texts : List (List ℕ)) (i : ℕ) (text : List ℕ) → i < length texts → text ≡ get_or texts i text → All Fine (take i texts) → Faulty text → IsFirst Fine Faulty texts i
first_text Fine Faulty texts i text l e fine faulty = record {
  before = take i texts;
  item = text;
  after = drop (suc i) texts;
  splits = split_at texts i text l e;
  counted = length_front texts i l;
  fine = fine;
  faulty = faulty;
}

pub first_beside : {B : Type 0} (R : List ℕ → B → Type 0) (Fine Faulty : List ℕ → Type 0) (texts : List (List ℕ)) (ys : List B) (i : ℕ) (y : B) → i < length ys → y ≡ get_or ys i y → AllZip R texts ys → ((text : List ℕ) → R text y → Faulty text) → All Fine (take i texts) → IsFirst Fine Faulty texts i
first_beside R Fine Faulty texts ys i y l e h faulty fine =
    let b : Beside R texts i y = zip_at R texts ys i y l e h in
    record {
      before = take i texts;
      item = b.item;
      after = b.back;
      splits = b.splits;
      counted = b.counted;
      fine = fine;
      faulty = faulty b.item b.so;
    }
