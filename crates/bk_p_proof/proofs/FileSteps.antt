-- Steps over the files.
use Rattle.std.specs.Prelude.{◌≡◌, ◌≢◌, ℕ, suc, ◌+◌, ◌<◌, Bool, true, false, List, ◌∷◌, ◌++◌, length, map, take, drop, All, Contains}
use Rattle.std.specs.List.{AllZip, AllPairs, flat_map}
use Rattle.std.proofs.Common.{arith, ap, get_or, sym, subst, ◌∙◌}
use Rattle.std.proofs.lemmas.List.{map-append, length-map}
use Rattle.std.proofs.lemmas.List.Elements.{All-weaker}
use Rattle.bk_raw.specs.declared.script.NamePart.{NamePart}
use Rattle.bk_raw.specs.Trees.ScriptTree.{RawScript}
use Rattle.bk_p_proof.specs.declared.reading.FileScripts.{FileScripts}
use Rattle.bk_sources.specs.Files.{Has}
use Rattle.bk_p_proof.specs.Files.{IsShort, IsWritten, IsLow, IsProofFile, IsHigh, IsLong, IsTwiceNamed, AreScriptsOf, names_of}
use Rattle.bk_p_proof.specs.Kept.{AreScripts, file_height, file_names}
use Rattle.bk_p_proof.specs.Keys.{IsAgain}
use Rattle.bk_p_proof.specs.Stages.{IsKeptOf, IsLowAs, IsProofFileAs}
use Rattle.bk_p_proof.specs.TypedNames.{AreOfOneType, IsSecondType, IsSecondTypeOf, script_names}
use Rattle.bk_p_proof.proofs.PartsRead.{names_kept}
use Rattle.bk_sources.proofs.Turns.{split_at, length_front, all_over, CutAs, cut_over, zip_map, joined_map, joined_on}

-- ---- what is read of a file
-- the scripts' types are those of what is kept of them
pub typed_over : (ss kept : List RawScript) (b : Bool) → AreScripts ss kept b → All (λ s. AreOfOneType (script_names s)) kept → All (λ s. AreOfOneType (script_names s)) ss
typed_over ss kept b k h = all_over script_names AreOfOneType kept ss (names_kept file_height file_names ss kept b k) h

pub second_over : (ss kept : List RawScript) (b : Bool) (place : ℕ) → AreScripts ss kept b → IsSecondType kept place → IsSecondType ss place
second_over ss kept b place k h =
    let e : map script_names (h.before ++ h.script ∷ h.after) ≡ map script_names ss = ap (map script_names) (sym h.splits) ∙ names_kept file_height file_names ss kept b k in
    let c : CutAs script_names ss h.before h.script = cut_over script_names h.before h.script h.after ss e in
    record {
      before = c.front;
      script = c.item;
      after = c.back;
      splits = c.splits;
      so_far = all_over script_names AreOfOneType h.before c.front (sym c.same_front) h.so_far;
      second = subst (λ names. IsSecondTypeOf names place) (sym c.same_item) h.second;
    }

pub kept_written : (texts : List (List ℕ)) → All (Has IsKeptOf) texts → All (Has IsWritten) texts
kept_written texts h = All-weaker (Has IsKeptOf) (Has IsWritten) (λ text k. (k.1.0, k.1.1)) texts h

pub low_has : (texts : List (List ℕ)) → All (Has IsLowAs) texts → All (Has IsLow) texts
low_has texts h = All-weaker (Has IsLowAs) (Has IsLow) (λ text k. (k.0.scripts.items, k.1)) texts h

pub file_has : (texts : List (List ℕ)) → All (Has IsProofFileAs) texts → All (Has IsProofFile) texts
file_has texts h = All-weaker (Has IsProofFileAs) (Has IsProofFile) (λ text k. (k.0.scripts.items, k.1)) texts h

-- ---- height, and the number of rules
pub low_kept : (text : List ℕ) (f : FileScripts) → f.is_high ≡ false → IsKeptOf text f → IsLowAs text f
low_kept text f e k =
    let h : AreScripts k.0 f.scripts.items false = subst (AreScripts k.0 f.scripts.items) e k.2 in
    subst (IsLow text) (sym h.0) (record { written = k.1; low = h.1 })

pub high_kept : (text : List ℕ) (f : FileScripts) → f.is_high ≡ true → IsKeptOf text f → IsHigh text
high_kept text f e k =
    let h : AreScripts k.0 f.scripts.items true = subst (AreScripts k.0 f.scripts.items) e k.2 in
    (k.0, k.1, λ low. omega (arith, low, h.1))

pub short_kept : (text : List ℕ) (f : FileScripts) → All IsShort f.scripts.items → IsLowAs text f → IsProofFileAs text f
short_kept text f s k = record { low = k; short = s }

pub long_kept : (text : List ℕ) (f : FileScripts) → (All IsShort f.scripts.items → ⊥) → IsLowAs text f → IsLong text
long_kept text f s k = (f.scripts.items, k, s)

-- ---- names
abbrev pub scripts_of : List FileScripts → List (List RawScript)
scripts_of read = map (λ f. f.scripts.items) read

abbrev pub all_names : List FileScripts → List (List NamePart)
all_names read = names_of (flat_map (λ f. f.scripts.items) read)

pub names_on : (read : List FileScripts) (i : ℕ) (f : FileScripts) → i < length read → f ≡ get_or read i f → all_names (take (i + 1) read) ≡ all_names (take i read) ++ names_of f.scripts.items
names_on read i f l e = ap names_of (joined_on (λ g. g.scripts.items) read i f l e) ∙ map-append (λ s. s.name) (flat_map (λ g. g.scripts.items) (take i read)) f.scripts.items

names_with : (read : List FileScripts) (first : List RawScript) → all_names read ++ names_of first ≡ names_of (flat_map (λ us. us) (scripts_of read) ++ first)
names_with read first = sym (map-append (λ s. s.name) (flat_map (λ g. g.scripts.items) read) first) ∙ ap (λ us. names_of (us ++ first)) (sym (joined_map (λ g. g.scripts.items) read))

pub twice_named : (read : List FileScripts) (i : ℕ) (f : FileScripts) (place : ℕ) → i < length read → f ≡ get_or read i f → IsAgain (all_names (take i read)) f.scripts.items place → IsTwiceNamed (scripts_of read) i place
twice_named read i f place l e a = record {
  before = scripts_of (take i read);
  first = a.first;
  script = a.script;
  rest = a.rest;
  after = scripts_of (drop (suc i) read);
  splits = ap scripts_of (split_at read i f l e) ∙ map-append (λ g. g.scripts.items) (take i read) (f ∷ drop (suc i) read) ∙ ap (λ us. scripts_of (take i read) ++ us ∷ scripts_of (drop (suc i) read)) a.splits;
  counted = length-map (take i read) (λ g. g.scripts.items) ∙ length_front read i l;
  starts = a.starts;
  so_far = subst (AllPairs (λ x y. x ≢ y)) (names_with (take i read) a.first) a.so_far;
  again = subst (λ names. Contains names a.script.name) (names_with (take i read) a.first) a.again;
}

pub each_file : (texts : List (List ℕ)) (read : List FileScripts) → AllZip IsProofFileAs texts read → AllZip IsProofFile texts (scripts_of read)
each_file texts read h = zip_map IsProofFile (λ f. f.scripts.items) texts read h

-- ---- the scripts of all files
pub scripts_told : (texts : List (List ℕ)) (read : List FileScripts) (all : List RawScript) → AllZip IsProofFileAs texts read → all ≡ flat_map (λ f. f.scripts.items) read → AllPairs (λ a b. a ≢ b) (all_names read) → AreScriptsOf texts all
scripts_told texts read all h e d = record {
  files = scripts_of read;
  each = each_file texts read h;
  joined = e ∙ sym (joined_map (λ f. f.scripts.items) read);
  distinct = subst (λ ss. AllPairs (λ a b. a ≢ b) (names_of ss)) (sym e) d;
}
