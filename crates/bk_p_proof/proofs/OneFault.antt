-- Texts have one fault.
use Rattle.std.specs.Prelude.{◌≡◌, ◌≢◌, ◌⊎◌, ℕ, ◌<◌, false, List, ◌∷◌, ◌++◌, length, All, refl}
use Rattle.std.specs.List.{AllZip, AllPairs, flat_map}
use Rattle.std.proofs.Common.{inl, inr, ap, sym, subst, ◌∙◌, append_assoc}
use Rattle.std.proofs.lemmas.List.{map-append}
use Rattle.std.proofs.lemmas.List.Elements.{All-weaker}
use Rattle.bk_form.specs.declared.token.Token.{Token}
use Rattle.bk_raw.specs.declared.script.RawTyped.{RawTyped}
use Rattle.bk_raw.specs.Errors.Places.{byte_at}
use Rattle.bk_raw.specs.Trees.ScriptTree.{RawScript}
use Rattle.bk_raw.specs.Grammar.ScriptSpelling.{SpellsScripts, IsWholeScripts}
use Rattle.bk_raw.proofs.ScriptOne.{one-file-of}
use Rattle.bk_raw.proofs.Places.{longest-one}
use Rattle.bk_lex.proofs.Cutting.{tokens_are_one}
use Rattle.bk_sources.specs.Files.{Has, IsFirst, IsShallowText, IsFaultOf as IsFileFaultOf}
use Rattle.bk_sources.specs.Laws.{IsOfFiles}
use Rattle.bk_sources.specs.declared.fault.FileFault.{FileFault}
use Rattle.bk_sources.specs.declared.fault.FileFault.TheVariants.{Fault as FaultOfFile, Limit as LimitOfFile, Memory as NoMemory}
use Rattle.bk_sources.proofs.Turns.{zip_has}
use Rattle.bk_sources.proofs.OneCut.{no_first, none_at_fault, none_past_limit}
use Rattle.bk_sources.proofs.OneFault.{order, front_in, all_in_front, same_cut, both_first, faults_are_one_of as files_have_one_fault}
use Rattle.bk_p_proof.specs.declared.fault.ScriptFault.{ScriptFault}
use Rattle.bk_p_proof.specs.declared.fault.ScriptFault.TheVariants.{Fault, Limit, Memory}
use Rattle.bk_p_proof.specs.Files.{IsFaultOf, IsShort, IsWritten, IsLow, IsProofFile, IsUnwritten, IsHigh, IsLong, IsTwiceNamed, names_of}
use Rattle.bk_p_proof.specs.FilesTold.{of_files}
use Rattle.bk_p_proof.specs.Unread.{before_sequences, IsWithoutSequences, IsReadFaultAt}
use Rattle.bk_p_proof.specs.TypedNames.{AreOfOneType, IsSecondTypeOf, IsSecondType, script_names}
use Rattle.bk_p_proof.specs.Laws.{FaultsAreOne, IsOfTexts}
use Rattle.bk_p_proof.proofs.OneAnswer.{same_written, same_files, not_typed, not_again, names_cut}

-- ---- one second type
not_before : (names : List RawTyped) (p q : ℕ) (h : IsSecondTypeOf names p) (k : IsSecondTypeOf names q) → length h.before < length k.before → ⊥
not_before names p q h k l =
    let r = front_in h.before h.found h.after k.before k.found k.after (sym h.splits ∙ k.splits) l in
    k.so_far h.before r.0 h.found r.1 h.otherwise

name_by : (names : List RawTyped) (p q : ℕ) (h : IsSecondTypeOf names p) (k : IsSecondTypeOf names q) → (length h.before < length k.before) ⊎ ((length h.before ≡ length k.before) ⊎ (length k.before < length h.before)) → p ≡ q
name_by names p q h k (inl l) = absurd (not_before names p q h k l)
name_by names p q h k (inr (inl e)) = sym h.starts ∙ ap (λ x. x.name.at) (same_cut h.before h.found h.after k.before k.found k.after (sym h.splits ∙ k.splits) e).1 ∙ k.starts
name_by names p q h k (inr (inr l)) = absurd (not_before names q p k h l)

script_before : (ss : List RawScript) (p q : ℕ) (h : IsSecondType ss p) (k : IsSecondType ss q) → length h.before < length k.before → ⊥
script_before ss p q h k l =
    let one : AreOfOneType (script_names h.script) = all_in_front (λ s. AreOfOneType (script_names s)) h.before h.script h.after k.before k.script k.after (sym h.splits ∙ k.splits) l k.so_far in
    one h.second.before h.second.after h.second.found h.second.splits h.second.otherwise

script_by : (ss : List RawScript) (p q : ℕ) (h : IsSecondType ss p) (k : IsSecondType ss q) → (length h.before < length k.before) ⊎ ((length h.before ≡ length k.before) ⊎ (length k.before < length h.before)) → p ≡ q
script_by ss p q h k (inl l) = absurd (script_before ss p q h k l)
script_by ss p q h k (inr (inl e)) =
    let s = (same_cut h.before h.script h.after k.before k.script k.after (sym h.splits ∙ k.splits) e).1 in
    let j : IsSecondTypeOf (script_names k.script) p = subst (λ r. IsSecondTypeOf (script_names r) p) s h.second in
    name_by (script_names k.script) p q j k.second (order (length j.before) (length k.second.before))
script_by ss p q h k (inr (inr l)) = absurd (script_before ss q p k h l)

second_one : (ss : List RawScript) (p q : ℕ) → IsSecondType ss p → IsSecondType ss q → p ≡ q
second_one ss p q h k = script_by ss p q h k (order (length h.before) (length k.before))

-- ---- what is fine for a pass is so for those before it
written_shallow : (texts : List (List ℕ)) → All (Has IsWritten) texts → All (Has IsShallowText) texts
written_shallow texts h = All-weaker (Has IsWritten) (Has IsShallowText) (λ text p. (p.1.tokens, p.1.shallow)) texts h

low_written : (texts : List (List ℕ)) → All (Has IsLow) texts → All (Has IsWritten) texts
low_written texts h = All-weaker (Has IsLow) (Has IsWritten) (λ text p. (p.0, p.1.written)) texts h

files_low : (texts : List (List ℕ)) (files : List (List RawScript)) → AllZip IsProofFile texts files → All (Has IsLow) texts
files_low texts files h = All-weaker (Has IsProofFile) (Has IsLow) (λ text p. (p.0, p.1.low)) texts (zip_has IsProofFile texts files h)

-- ---- what is at fault is not fine
abbrev Misses : List ℕ → List Token → ℕ → Type 0
Misses text tokens place = IsReadFaultAt (length text) tokens place ⊎ ((scripts : List RawScript) × SpellsScripts scripts tokens × IsSecondType scripts place × IsWithoutSequences tokens)

not_spelled : (text : List ℕ) (ss : List RawScript) (place : ℕ) (tokens : List Token) → IsShallowText text tokens → IsWritten text ss → Misses text tokens place → ⊥
not_spelled text ss place tokens shallow w (inl h) =
    let e : w.tokens ≡ tokens = tokens_are_one text w.tokens tokens w.shallow.cut.cut shallow.cut.cut in
    h.1.none ss (subst (SpellsScripts ss) e w.spelled) (subst IsWithoutSequences e w.plain)
not_spelled text ss place tokens shallow w (inr h) = not_typed ss h.0 place (same_written text tokens ss h.0 shallow h.1 w) w.typed h.2

unwritten_not : (place : ℕ) (text : List ℕ) → IsUnwritten place text → Has IsWritten text → ⊥
unwritten_not place text b p = not_spelled text p.0 place b.0 b.1 p.1 b.2

high_not : (text : List ℕ) → IsHigh text → Has IsLow text → ⊥
high_not text b p =
    let w = b.1 in
    let e : b.0 ≡ p.0 = same_written text w.tokens p.0 b.0 w.shallow w.spelled p.1.written in
    b.2 (subst (λ rs. IsLow text rs) (sym e) p.1).low

long_not : (text : List ℕ) → IsLong text → Has IsProofFile text → ⊥
long_not text b p =
    let w = b.1.written in
    let e : b.0 ≡ p.0 = same_written text w.tokens p.0 b.0 w.shallow w.spelled p.1.low.written in
    b.2 (subst (All IsShort) (sym e) p.1.short)

-- ---- one fault of one text
unwritten_by : (text : List ℕ) (tokens : List Token) (p q : ℕ) → Misses text tokens p → Misses text tokens q → p ≡ q
unwritten_by text tokens p q (inl h) (inl k) =
    let e : h.0 ≡ k.0 = longest-one IsWholeScripts (before_sequences false tokens) h.0 k.0 h.1.first k.1.first in
    h.2 ∙ ap (byte_at (length text) tokens) e ∙ sym k.2
unwritten_by text tokens p q (inl h) (inr k) = absurd (h.1.none k.0 k.1 k.3)
unwritten_by text tokens p q (inr h) (inl k) = absurd (k.1.none h.0 h.1 h.3)
unwritten_by text tokens p q (inr h) (inr k) =
    let e : h.0 ≡ k.0 = one-file-of tokens h.0 k.0 h.1 k.1 in
    second_one k.0 p q (subst (λ ss. IsSecondType ss p) e h.2) k.2

unwritten_one : (text : List ℕ) (p q : ℕ) → IsUnwritten p text → IsUnwritten q text → p ≡ q
unwritten_one text p q b c =
    let e : b.0 ≡ c.0 = tokens_are_one text b.0 c.0 b.1.cut.cut c.1.cut.cut in
    unwritten_by text c.0 p q (subst (λ ts. Misses text ts p) e b.2) c.2

-- ---- names
names_front : (before : List (List RawScript)) (first more : List RawScript) (s : RawScript) (rest : List RawScript) (mid : List (List RawScript)) (files : List (List RawScript)) → files ≡ before ++ (first ++ s ∷ rest) ∷ mid → names_of (flat_map (λ f. f) files ++ more) ≡ names_of (flat_map (λ f. f) before ++ first) ++ s.name ∷ (names_of (rest ++ flat_map (λ f. f) mid) ++ names_of more)
names_front before first more s rest mid files e = map-append (λ r. r.name) (flat_map (λ f. f) files) more ∙ ap (λ ns. ns ++ names_of more) (names_cut files before first s rest mid e) ∙ append_assoc (names_of (flat_map (λ f. f) before ++ first)) (s.name ∷ names_of (rest ++ flat_map (λ f. f) mid)) (names_of more)

file_before : (files : List (List RawScript)) (f g p q : ℕ) (h : IsTwiceNamed files f p) (k : IsTwiceNamed files g q) → length h.before < length k.before → ⊥
file_before files f g p q h k l =
    let r = front_in h.before (h.first ++ h.script ∷ h.rest) h.after k.before (k.first ++ k.script ∷ k.rest) k.after (sym h.splits ∙ k.splits) l in
    let e = names_front h.before h.first k.first h.script h.rest r.0 k.before r.1 in
    not_again (names_of (flat_map (λ u. u) h.before ++ h.first)) h.script.name _ (subst (AllPairs (λ a b. a ≢ b)) e k.so_far) h.again

script_in_front : (files : List (List RawScript)) (f g p q : ℕ) (h : IsTwiceNamed files f p) (k : IsTwiceNamed files g q) → h.before ≡ k.before → h.first ++ h.script ∷ h.rest ≡ k.first ++ k.script ∷ k.rest → length h.first < length k.first → ⊥
script_in_front files f g p q h k b e l =
    let r = front_in h.first h.script h.rest k.first k.script k.rest e l in
    let n : names_of (flat_map (λ u. u) k.before ++ k.first) ≡ names_of (flat_map (λ u. u) h.before ++ h.first) ++ h.script.name ∷ names_of r.0 = ap names_of (ap (λ us. flat_map (λ u. u) us ++ k.first) (sym b) ∙ ap (λ us. flat_map (λ u. u) h.before ++ us) r.1 ∙ sym (append_assoc (flat_map (λ u. u) h.before) h.first (h.script ∷ r.0))) ∙ map-append (λ s. s.name) (flat_map (λ u. u) h.before ++ h.first) (h.script ∷ r.0) in
    not_again (names_of (flat_map (λ u. u) h.before ++ h.first)) h.script.name (names_of r.0) (subst (AllPairs (λ a b. a ≢ b)) n k.so_far) h.again

by_script : (files : List (List RawScript)) (f g p q : ℕ) (h : IsTwiceNamed files f p) (k : IsTwiceNamed files g q) → h.before ≡ k.before → h.first ++ h.script ∷ h.rest ≡ k.first ++ k.script ∷ k.rest → (length h.first < length k.first) ⊎ ((length h.first ≡ length k.first) ⊎ (length k.first < length h.first)) → p ≡ q
by_script files f g p q h k b e (inl l) = absurd (script_in_front files f g p q h k b e l)
by_script files f g p q h k b e (inr (inl l)) = sym h.starts ∙ ap (λ s. s.name_at) (same_cut h.first h.script h.rest k.first k.script k.rest e l).1 ∙ k.starts
by_script files f g p q h k b e (inr (inr l)) = absurd (script_in_front files g f q p k h (sym b) (sym e) l)

by_before : (files : List (List RawScript)) (f g p q : ℕ) (h : IsTwiceNamed files f p) (k : IsTwiceNamed files g q) → (length h.before < length k.before) ⊎ ((length h.before ≡ length k.before) ⊎ (length k.before < length h.before)) → Fault 6 f p ≡ Fault 6 g q
by_before files f g p q h k (inl l) = absurd (file_before files f g p q h k l)
by_before files f g p q h k (inr (inl l)) =
    let r = same_cut h.before (h.first ++ h.script ∷ h.rest) h.after k.before (k.first ++ k.script ∷ k.rest) k.after (sym h.splits ∙ k.splits) l in
    let i : f ≡ g = sym h.counted ∙ l ∙ k.counted in
    let j : p ≡ q = by_script files f g p q h k r.0 r.1 (order (length h.first) (length k.first)) in
    λ t. Fault 6 (i t) (j t)
by_before files f g p q h k (inr (inr l)) = absurd (file_before files g f q p k h l)

-- ---- one fault
record Named (texts : List (List ℕ)) (file place : ℕ) : Type 0 where
  files : List (List RawScript)
  each : AllZip IsProofFile texts files
  twice : IsTwiceNamed files file place

-- the pass that finds it
data Case (texts : List (List ℕ)) (fault : ScriptFault) : Type 0 where
  case_files : (f : FileFault) → IsOfFiles f → IsFileFaultOf texts f → fault ≡ of_files f → Case texts fault
  case_written : (file place : ℕ) → All (Has IsShallowText) texts → IsFirst (Has IsWritten) (IsUnwritten place) texts file → fault ≡ Fault 3 file place → Case texts fault
  case_high : (file : ℕ) → All (Has IsWritten) texts → IsFirst (Has IsLow) IsHigh texts file → fault ≡ Limit 12 file → Case texts fault
  case_long : (file : ℕ) → All (Has IsLow) texts → IsFirst (Has IsProofFile) IsLong texts file → fault ≡ Limit 8 file → Case texts fault
  case_names : (file place : ℕ) → Named texts file place → fault ≡ Fault 6 file place → Case texts fault

case_of : (texts : List (List ℕ)) (fault : ScriptFault) → IsFaultOf texts fault → IsOfTexts fault → Case texts fault
case_of texts (Fault number file place) (inl h) o = case_files (FaultOfFile number file place) tt h refl
case_of texts (Fault number file place) (inr (inl h)) o = case_written file place h.1 h.2 (ap (λ n. Fault n file place) h.0)
case_of texts (Fault number file place) (inr (inr h)) o = case_names file place (record { files = h.1.0; each = h.1.1; twice = h.1.2 }) (ap (λ n. Fault n file place) h.0)
case_of texts (Limit number file) (inl h) o = case_files (LimitOfFile number file) tt h refl
case_of texts (Limit number file) (inr (inl h)) o = case_high file h.1 h.2 (ap (λ n. Limit n file) h.0)
case_of texts (Limit number file) (inr (inr h)) o = case_long file h.1 h.2 (ap (λ n. Limit n file) h.0)
case_of texts Memory h o = absurd o

-- ---- where all texts are fine for a pass it finds nothing
files_found : (texts : List (List ℕ)) (f : FileFault) → IsOfFiles f → IsFileFaultOf texts f → All (Has IsShallowText) texts → ⊥
files_found texts (FaultOfFile number file place) o h s = none_at_fault texts number file place s h
files_found texts (LimitOfFile number file) o h s = none_past_limit texts number file s h
files_found texts NoMemory o h s = o

unwritten_found : (texts : List (List ℕ)) (file place : ℕ) → IsFirst (Has IsWritten) (IsUnwritten place) texts file → All (Has IsWritten) texts → ⊥
unwritten_found texts file place f h = no_first (Has IsWritten) (Has IsWritten) (IsUnwritten place) texts file h (λ text p b. unwritten_not place text b p) f

high_found : (texts : List (List ℕ)) (file : ℕ) → IsFirst (Has IsLow) IsHigh texts file → All (Has IsLow) texts → ⊥
high_found texts file f h = no_first (Has IsLow) (Has IsLow) IsHigh texts file h (λ text p b. high_not text b p) f

long_found : (texts : List (List ℕ)) (file : ℕ) → IsFirst (Has IsProofFile) IsLong texts file → All (Has IsProofFile) texts → ⊥
long_found texts file f h = no_first (Has IsProofFile) (Has IsProofFile) IsLong texts file h (λ text p b. long_not text b p) f

-- ---- two passes find one fault
both_named : (texts : List (List ℕ)) (f p g q : ℕ) → Named texts f p → Named texts g q → Fault 6 f p ≡ Fault 6 g q
both_named texts f p g q n m =
    let s : n.files ≡ m.files = same_files texts n.files m.files n.each m.each in
    let t : IsTwiceNamed m.files f p = subst (λ fs. IsTwiceNamed fs f p) s n.twice in
    by_before m.files f g p q t m.twice (order (length t.before) (length m.twice.before))

both_written : (texts : List (List ℕ)) (f p g q : ℕ) → IsFirst (Has IsWritten) (IsUnwritten p) texts f → IsFirst (Has IsWritten) (IsUnwritten q) texts g → Fault 3 f p ≡ Fault 3 g q
both_written texts f p g q h k =
    let b = both_first (Has IsWritten) (IsUnwritten p) (IsUnwritten q) texts f g (unwritten_not p) (unwritten_not q) h k in
    let j : p ≡ q = unwritten_one b.item p q b.bad b.ill in
    λ t. Fault 3 (b.same t) (j t)

one_case : (texts : List (List ℕ)) (one other : ScriptFault) → Case texts one → Case texts other → one ≡ other
one_case texts one other (case_files f o h e) (case_files g p k i) = e ∙ ap of_files (files_have_one_fault texts f g h o k p) ∙ sym i
one_case texts one other (case_files f o h e) (case_written g q a k i) = absurd (files_found texts f o h a)
one_case texts one other (case_files f o h e) (case_high g a k i) = absurd (files_found texts f o h (written_shallow texts a))
one_case texts one other (case_files f o h e) (case_long g a k i) = absurd (files_found texts f o h (written_shallow texts (low_written texts a)))
one_case texts one other (case_files f o h e) (case_names g q n i) = absurd (files_found texts f o h (written_shallow texts (low_written texts (files_low texts n.files n.each))))
one_case texts one other (case_written f p a h e) (case_files g o k i) = absurd (files_found texts g o k a)
one_case texts one other (case_written f p a h e) (case_written g q b k i) = e ∙ both_written texts f p g q h k ∙ sym i
one_case texts one other (case_written f p a h e) (case_high g b k i) = absurd (unwritten_found texts f p h b)
one_case texts one other (case_written f p a h e) (case_long g b k i) = absurd (unwritten_found texts f p h (low_written texts b))
one_case texts one other (case_written f p a h e) (case_names g q n i) = absurd (unwritten_found texts f p h (low_written texts (files_low texts n.files n.each)))
one_case texts one other (case_high f a h e) (case_files g o k i) = absurd (files_found texts g o k (written_shallow texts a))
one_case texts one other (case_high f a h e) (case_written g q b k i) = absurd (unwritten_found texts g q k a)
one_case texts one other (case_high f a h e) (case_high g b k i) = e ∙ ap (Limit 12) (both_first (Has IsLow) IsHigh IsHigh texts f g high_not high_not h k).same ∙ sym i
one_case texts one other (case_high f a h e) (case_long g b k i) = absurd (high_found texts f h b)
one_case texts one other (case_high f a h e) (case_names g q n i) = absurd (high_found texts f h (files_low texts n.files n.each))
one_case texts one other (case_long f a h e) (case_files g o k i) = absurd (files_found texts g o k (written_shallow texts (low_written texts a)))
one_case texts one other (case_long f a h e) (case_written g q b k i) = absurd (unwritten_found texts g q k (low_written texts a))
one_case texts one other (case_long f a h e) (case_high g b k i) = absurd (high_found texts g k a)
one_case texts one other (case_long f a h e) (case_long g b k i) = e ∙ ap (Limit 8) (both_first (Has IsProofFile) IsLong IsLong texts f g long_not long_not h k).same ∙ sym i
one_case texts one other (case_long f a h e) (case_names g q n i) = absurd (long_found texts f h (zip_has IsProofFile texts n.files n.each))
one_case texts one other (case_names f p n e) (case_files g o k i) = absurd (files_found texts g o k (written_shallow texts (low_written texts (files_low texts n.files n.each))))
one_case texts one other (case_names f p n e) (case_written g q b k i) = absurd (unwritten_found texts g q k (low_written texts (files_low texts n.files n.each)))
one_case texts one other (case_names f p n e) (case_high g b k i) = absurd (high_found texts g k (files_low texts n.files n.each))
one_case texts one other (case_names f p n e) (case_long g b k i) = absurd (long_found texts g k (zip_has IsProofFile texts n.files n.each))
one_case texts one other (case_names f p n e) (case_names g q m i) = e ∙ both_named texts f p g q n m ∙ sym i

pub faults_are_one_of : FaultsAreOne
faults_are_one_of texts one other h o k p = one_case texts one other (case_of texts one h o) (case_of texts other k p)
