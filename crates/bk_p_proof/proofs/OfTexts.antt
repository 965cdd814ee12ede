-- What holds of the scripts of texts.
use Rattle.std.specs.Prelude.{◌≤◌, ℕ, List, [], ◌∷◌, ◌++◌, map, All}
use Rattle.std.specs.List.{AllZip, flat_map}
use Rattle.std.proofs.Common.{arith, sym, subst}
use Rattle.std.proofs.lemmas.List.Elements.{All-nil, All-append, Contains-get_or}
use Rattle.bk_limits.specs.declared.TheConstants.{GREATEST_TREE_HEIGHT}
use Rattle.bk_raw.specs.Errors.Limits.{IsLowFile}
use Rattle.bk_raw.specs.Trees.Numbers.{greatest}
use Rattle.bk_raw.specs.Trees.ScriptTree.{RawScript, script_height}
use Rattle.bk_p_proof.specs.Files.{AreOfTexts, IsProofFile, IsShort, StandsInFile}

-- ---- of the scripts of all files
abbrev flat : List (List RawScript) → List RawScript
flat files = flat_map (λ f. f) files

-- what holds of those of each file holds of all
flat_all : (P : RawScript → Type 0) → ((text : List ℕ) (ss : List RawScript) → IsProofFile text ss → All P ss) → (texts : List (List ℕ)) (files : List (List RawScript)) → AllZip IsProofFile texts files → All P (flat files)
flat_all P each [] [] h = All-nil P
flat_all P each [] (f ∷ files) h = absurd h
flat_all P each (t ∷ texts) [] h = absurd h
flat_all P each (t ∷ texts) (f ∷ files) h = All-append P f (flat files) (each t f h.0) (flat_all P each texts files h.1)

low_both : (ss rs : List RawScript) → IsLowFile ss → IsLowFile rs → IsLowFile (ss ++ rs)
low_both [] rs h k = k
low_both (s ∷ ss) rs h k =
    let rest : greatest (map script_height ss) ≤ GREATEST_TREE_HEIGHT = omega (arith, h) in
    omega (arith, h, low_both ss rs rest k)

flat_low : (texts : List (List ℕ)) (files : List (List RawScript)) → AllZip IsProofFile texts files → IsLowFile (flat files)
flat_low [] [] h = omega arith
flat_low [] (f ∷ files) h = absurd h
flat_low (t ∷ texts) [] h = absurd h
flat_low (t ∷ texts) (f ∷ files) h = low_both f (flat files) h.0.low.low (flat_low texts files h.1)

stands_each : (text : List ℕ) (ss : List RawScript) → IsProofFile text ss → All StandsInFile ss
stands_each text ss h k d l = (text, ss, h, Contains-get_or ss k d l)

-- ---- of the scripts of texts
pub all_short : (scripts : List RawScript) → AreOfTexts scripts → All IsShort scripts
all_short scripts t = let h = t.1 in subst (All IsShort) (sym h.joined) (flat_all IsShort (λ text ss p. p.short) t.0 h.files h.each)

pub all_low : (scripts : List RawScript) → AreOfTexts scripts → IsLowFile scripts
all_low scripts t = let h = t.1 in subst IsLowFile (sym h.joined) (flat_low t.0 h.files h.each)

pub all_stand : (scripts : List RawScript) → AreOfTexts scripts → All StandsInFile scripts
all_stand scripts t = let h = t.1 in subst (All StandsInFile) (sym h.joined) (flat_all StandsInFile stands_each t.0 h.files h.each)
