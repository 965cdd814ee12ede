-- Texts have one list of scripts, or a fault.
use Rattle.std.specs.Prelude.{◌≡◌, ◌≢◌, ◌⊎◌, ℕ, List, [], ◌∷◌, ◌++◌, length, All, Contains, refl}
use Rattle.std.specs.List.{AllZip, AllPairs, flat_map}
use Rattle.std.proofs.Common.{inl, inr, arith, ap, sym, subst, ◌∙◌, append_assoc}
use Rattle.std.proofs.lemmas.List.{map-append, length-append, get_or_append_left, get_or_at}
use Rattle.std.proofs.lemmas.List.Concat.{flat_map-append}
use Rattle.std.proofs.lemmas.List.Elements.{All-weaker}
use Rattle.bk_form.specs.declared.token.Token.{Token}
use Rattle.bk_raw.specs.declared.script.NamePart.{NamePart}
use Rattle.bk_raw.specs.Trees.ScriptTree.{RawScript}
use Rattle.bk_raw.specs.Grammar.ScriptSpelling.{SpellsScripts}
use Rattle.bk_raw.proofs.ScriptOne.{one-file-of}
use Rattle.bk_lex.proofs.Cutting.{tokens_are_one}
use Rattle.bk_p_proof.specs.declared.fault.ScriptFault.TheVariants.{Fault, Limit, Memory}
use Rattle.bk_sources.specs.Files.{Has, IsShallowText}
use Rattle.bk_sources.proofs.OneCut.{no_first, none_at_fault, none_past_limit}
use Rattle.bk_p_proof.specs.Files.{IsFaultOf, IsShort, IsWritten, IsLow, IsProofFile, IsHigh, IsLong, IsTwiceNamed, AreScriptsOf, names_of}
use Rattle.bk_p_proof.specs.Laws.{ScriptsOfAreOne, FaultsExclude}
use Rattle.bk_p_proof.specs.Unread.{IsWithoutSequences, IsReadFaultAt}
use Rattle.bk_p_proof.specs.TypedNames.{AreOfOneType, IsSecondType, script_names}
use Rattle.bk_sources.proofs.Turns.{all_middle, zip_has}

-- ---- one list of scripts
pub same_written : (text : List ℕ) (tokens : List Token) (ss rs : List RawScript) → IsShallowText text tokens → SpellsScripts rs tokens → IsWritten text ss → rs ≡ ss
same_written text tokens ss rs shallow spelled h =
    let e : tokens ≡ h.tokens = tokens_are_one text tokens h.tokens shallow.cut.cut h.shallow.cut.cut in
    one-file-of h.tokens rs ss (subst (SpellsScripts rs) e spelled) h.spelled

pub same_files : (texts : List (List ℕ)) (ones others : List (List RawScript)) → AllZip IsProofFile texts ones → AllZip IsProofFile texts others → ones ≡ others
same_files [] [] [] h k = refl
same_files [] [] (r ∷ rs) h k = absurd k
same_files [] (s ∷ ss) rs h k = absurd h
same_files (t ∷ ts) [] rs h k = absurd h
same_files (t ∷ ts) (s ∷ ss) [] h k = absurd k
same_files (t ∷ ts) (s ∷ ss) (r ∷ rs) h k =
    let one = h.0.low.written in
    let e = same_written t one.tokens r s one.shallow one.spelled k.0.low.written in
    let f = same_files ts ss rs h.1 k.1 in
    λ i. e i ∷ f i

pub scripts_are_one : ScriptsOfAreOne
scripts_are_one texts ss rs h k = h.joined ∙ ap (flat_map (λ f. f)) (same_files texts h.files k.files h.each k.each) ∙ sym k.joined

-- ---- a proof file has no fault
pub not_typed : (ss rs : List RawScript) (place : ℕ) → rs ≡ ss → All (λ s. AreOfOneType (script_names s)) ss → IsSecondType rs place → ⊥
not_typed ss rs place e typed h =
    let one : AreOfOneType (script_names h.script) = all_middle (λ s. AreOfOneType (script_names s)) h.before h.script h.after (subst (All (λ s. AreOfOneType (script_names s))) (sym e ∙ h.splits) typed) in
    one h.second.before h.second.after h.second.found h.second.splits h.second.otherwise

not_spelled : (text : List ℕ) (ss : List RawScript) (place : ℕ) (tokens : List Token) → IsProofFile text ss → IsShallowText text tokens → IsReadFaultAt (length text) tokens place ⊎ ((scripts : List RawScript) × SpellsScripts scripts tokens × IsSecondType scripts place × IsWithoutSequences tokens) → ⊥
not_spelled text ss place tokens p shallow (inl h) =
    let w = p.low.written in
    let e : w.tokens ≡ tokens = tokens_are_one text w.tokens tokens w.shallow.cut.cut shallow.cut.cut in
    h.1.none ss (subst (SpellsScripts ss) e w.spelled) (subst IsWithoutSequences e w.plain)
not_spelled text ss place tokens p shallow (inr h) = not_typed ss h.0 place (same_written text tokens ss h.0 shallow h.1 p.low.written) p.low.written.typed h.2

not_high : (text : List ℕ) (ss : List RawScript) → IsProofFile text ss → IsHigh text → ⊥
not_high text ss p h =
    let e : h.0 ≡ ss = same_written text h.1.tokens ss h.0 h.1.shallow h.1.spelled p.low.written in
    h.2 (subst (λ rs. IsLow text rs) (sym e) p.low).low

not_long : (text : List ℕ) (ss : List RawScript) → IsProofFile text ss → IsLong text → ⊥
not_long text ss p h =
    let w = h.1.written in
    let e : h.0 ≡ ss = same_written text w.tokens ss h.0 w.shallow w.spelled p.low.written in
    h.2 (subst (All IsShort) (sym e) p.short)

-- ---- no name stands twice
pub not_again : (front : List (List NamePart)) (name : List NamePart) (back : List (List NamePart)) → AllPairs (λ a b. a ≢ b) (front ++ name ∷ back) → Contains front name → ⊥
not_again front name back d h =
    d h.0 (length front) name h.1 (omega (arith, length-append front (name ∷ back))) (get_or_append_left front (name ∷ back) name h.0 h.1 ∙ h.2 ∙ sym (get_or_at front name back name (length front) refl))

pub names_cut : (files before : List (List RawScript)) (first : List RawScript) (s : RawScript) (rest : List RawScript) (after : List (List RawScript)) → files ≡ before ++ (first ++ s ∷ rest) ∷ after → names_of (flat_map (λ f. f) files) ≡ names_of (flat_map (λ f. f) before ++ first) ++ s.name ∷ names_of (rest ++ flat_map (λ f. f) after)
names_cut files before first s rest after e = ap names_of (ap (flat_map (λ f. f)) e ∙ flat_map-append (λ f. f) before ((first ++ s ∷ rest) ∷ after) ∙ ap (λ us. flat_map (λ f. f) before ++ us) (append_assoc first (s ∷ rest) (flat_map (λ f. f) after)) ∙ sym (append_assoc (flat_map (λ f. f) before) first (s ∷ rest ++ flat_map (λ f. f) after))) ∙ map-append (λ r. r.name) (flat_map (λ f. f) before ++ first) (s ∷ rest ++ flat_map (λ f. f) after)

not_twice : (texts : List (List ℕ)) (ss : List RawScript) (files : List (List RawScript)) (file place : ℕ) → AreScriptsOf texts ss → AllZip IsProofFile texts files → IsTwiceNamed files file place → ⊥
not_twice texts ss files file place h each t =
    let e : names_of ss ≡ names_of (flat_map (λ f. f) files) = ap names_of (h.joined ∙ ap (flat_map (λ f. f)) (same_files texts h.files files h.each each)) in
    let cut = e ∙ names_cut files t.before t.first t.script t.rest t.after t.splits in
    not_again (names_of (flat_map (λ f. f) t.before ++ t.first)) t.script.name (names_of (t.rest ++ flat_map (λ f. f) t.after)) (subst (AllPairs (λ a b. a ≢ b)) cut h.distinct) t.again

-- ---- no fault
has_shallow : (texts : List (List ℕ)) (files : List (List RawScript)) → AllZip IsProofFile texts files → All (Has IsShallowText) texts
has_shallow texts files h = All-weaker (Has IsProofFile) (Has IsShallowText) (λ text p. (p.1.low.written.tokens, p.1.low.written.shallow)) texts (zip_has IsProofFile texts files h)

no_fault : (texts : List (List ℕ)) (ss : List RawScript) (number file place : ℕ) → AreScriptsOf texts ss → IsFaultOf texts (Fault number file place) → ⊥
no_fault texts ss number file place h (inl f) = none_at_fault texts number file place (has_shallow texts h.files h.each) f
no_fault texts ss number file place h (inr (inl f)) = no_first (Has IsProofFile) _ _ texts file (zip_has IsProofFile texts h.files h.each) (λ text p n. not_spelled text p.0 place n.0 p.1 n.1 n.2) f.2
no_fault texts ss number file place h (inr (inr f)) = not_twice texts ss f.1.0 file place h f.1.1 f.1.2

no_limit : (texts : List (List ℕ)) (ss : List RawScript) (number file : ℕ) → AreScriptsOf texts ss → IsFaultOf texts (Limit number file) → ⊥
no_limit texts ss number file h (inl f) = none_past_limit texts number file (has_shallow texts h.files h.each) f
no_limit texts ss number file h (inr (inl f)) = no_first (Has IsProofFile) _ _ texts file (zip_has IsProofFile texts h.files h.each) (λ text p n. not_high text p.0 p.1 n) f.2
no_limit texts ss number file h (inr (inr f)) = no_first (Has IsProofFile) _ _ texts file (zip_has IsProofFile texts h.files h.each) (λ text p n. not_long text p.0 p.1 n) f.2

pub faults_exclude : FaultsExclude
faults_exclude texts ss (Fault number file place) h f = absurd (no_fault texts ss number file place h f)
faults_exclude texts ss (Limit number file) h f = absurd (no_limit texts ss number file h f)
faults_exclude texts ss Memory h f = refl
