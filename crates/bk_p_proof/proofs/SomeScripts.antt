-- Texts have scripts, or a fault.
use Rattle.std.specs.Prelude.{◌≡◌, ◌≢◌, ◌≤◌, ◌<◌, ℕ, false, List, [], ◌∷◌, ◌++◌, length, All, Contains, refl}
use Rattle.std.specs.List.{AllPairs, flat_map}
use Rattle.std.proofs.Common.{inl, inr, arith, ap, sym, subst, ◌∙◌, append_assoc, append-nil, length-append}
use Rattle.std.proofs.lemmas.List.{map-append}
use Rattle.std.proofs.lemmas.List.Concat.{flat_map-append}
use Rattle.std.proofs.lemmas.List.Elements.{Contains-get_or}
use Rattle.std.proofs.lemmas.List.Quantifiers.{all_pairs_push}
use Rattle.bk_form.specs.declared.token.Token.{Token}
use Rattle.bk_raw.specs.declared.script.RawTyped.{RawTyped}
use Rattle.bk_raw.specs.Errors.Places.{byte_at}
use Rattle.bk_raw.specs.Trees.ScriptTree.{RawScript}
use Rattle.bk_sources.specs.declared.fault.FileFault.{FileFault}
use Rattle.bk_sources.specs.declared.fault.FileFault.TheVariants.{Fault as FaultOfFile, Limit as LimitOfFile, Memory as NoMemory}
use Rattle.bk_sources.specs.Files.{Has, IsShallowText, IsFaultOf as IsFileFaultOf}
use Rattle.bk_sources.specs.Laws.{IsOfFiles}
use Rattle.bk_sources.proofs.Turns.{all_middle}
use Rattle.bk_sources.proofs.Neither.{all_or_first, all_zipped, some_least}
use Rattle.bk_sources.proofs.SomeFiles.{files_are_told, the_first}
use Rattle.bk_raw.proofs.Faults.{one-holds-of-scripts}
use Rattle.bk_p_proof.specs.declared.fault.ScriptFault.{ScriptFault}
use Rattle.bk_p_proof.specs.declared.fault.ScriptFault.TheVariants.{Fault, Limit}
use Rattle.bk_p_proof.specs.Files.{AreScriptsOf, IsFaultOf, IsWritten, IsLow, IsProofFile, IsUnwritten, IsHigh, IsLong, IsTwiceNamed, names_of}
use Rattle.bk_p_proof.specs.TypedNames.{AreOfOneType, IsOtherwise, IsSecondTypeOf, IsSecondType, script_names}
use Rattle.bk_p_proof.specs.Unread.{before_sequences, IsWithoutSequences}
use Rattle.bk_p_proof.specs.Laws.{ScriptsAreTold, IsOfTexts}
use Rattle.bk_p_proof.proofs.SequenceCuts.{same_or_shorter, cut_fault, early_fault, plain_fault}

-- ---- names with two types
abbrev Place : Type 0
Place = List RawTyped × RawTyped × List RawTyped

abbrev IsSecondAt : List RawTyped → Place → Type 0
IsSecondAt names p = (names ≡ p.0 ++ p.1 ∷ p.2) × IsOtherwise p.0 p.1

some_second : (names : List RawTyped) → (AreOfOneType names → ⊥) → ((place : ℕ) → IsSecondTypeOf names place → ⊥) → ⊥
some_second names not_one never = not_one (λ before after x e o. some_least (IsSecondAt names) (λ p. length p.0) (before, x, after) (e, o) first)
  where
    first : (p : Place) → IsSecondAt names p → ((q : Place) → IsSecondAt names q → length p.0 ≤ length q.0) → ⊥
    first p h least = never p.1.name.at (record {
      before = p.0;
      found = p.1;
      after = p.2;
      splits = h.0;
      so_far = λ b a y i o. omega (arith, least (b, y, a ++ p.1 ∷ p.2) (h.0 ∙ ap (λ us. us ++ p.1 ∷ p.2) i ∙ append_assoc b (y ∷ a) (p.1 ∷ p.2), o), ap length i, length-append b (y ∷ a));
      otherwise = h.1;
      starts = refl;
    })

some_typed : (ss : List RawScript) → (All (λ s. AreOfOneType (script_names s)) ss → ⊥) → ((place : ℕ) → IsSecondType ss place → ⊥) → ⊥
some_typed ss not_typed never = all_or_first (λ s. AreOfOneType (script_names s)) ss not_typed (λ before s after e h n. some_second (script_names s) n (λ place k. never place (record { before = before; script = s; after = after; splits = e; so_far = h; second = k })))

-- without sequences, with them
some_plain : (text : List ℕ) (tokens : List Token) → IsShallowText text tokens → IsWithoutSequences tokens → (Has IsWritten text → ⊥) → ((place : ℕ) → IsUnwritten place text → ⊥) → ⊥
some_plain text tokens shallow plain not_written never = one-holds-of-scripts tokens (λ ss spelled. some_typed ss (λ typed. not_written (ss, record { tokens = tokens; shallow = shallow; spelled = spelled; plain = plain; typed = typed })) (λ place k. never place (tokens, shallow, inr (ss, spelled, k, plain)))) (λ place f. never (byte_at (length text) tokens place) (tokens, shallow, inl (place, plain_fault tokens place plain f, refl)))

some_cut : (text : List ℕ) (tokens : List Token) → IsShallowText text tokens → length (before_sequences false tokens) < length tokens → ((place : ℕ) → IsUnwritten place text → ⊥) → ⊥
some_cut text tokens shallow shorter never =
    let front : List Token = before_sequences false tokens in
    one-holds-of-scripts front (λ ss spelled. never (byte_at (length text) tokens (length front)) (tokens, shallow, inl (length front, cut_fault tokens front ss refl spelled shorter, refl))) (λ place f. never (byte_at (length text) tokens place) (tokens, shallow, inl (place, early_fault tokens front place refl f shorter, refl)))

some_written : (text : List ℕ) (tokens : List Token) → IsShallowText text tokens → (Has IsWritten text → ⊥) → ((place : ℕ) → IsUnwritten place text → ⊥) → ⊥
some_written text tokens shallow not_written never = elim (same_or_shorter false tokens) [
  | inl plain ↦ some_plain text tokens shallow plain not_written never
  | inr shorter ↦ some_cut text tokens shallow shorter never
]

-- ---- names
abbrev Differ : List RawScript → Type 0
Differ ss = AllPairs (λ a b. a ≢ b) (names_of ss)

abbrev flat : List (List RawScript) → List RawScript
flat files = flat_map (λ f. f) files

differ_on : (ss : List RawScript) (s : RawScript) → Differ ss → (Contains (names_of ss) s.name → ⊥) → Differ (ss ++ s ∷ [])
differ_on ss s d n = subst (AllPairs (λ a b. a ≢ b)) (sym (map-append (λ r. r.name) ss (s ∷ []))) (all_pairs_push (λ a b. a ≢ b) (names_of ss) s.name d (λ k e l i. n (subst (Contains (names_of ss)) i (Contains-get_or (names_of ss) k e l))))

-- the scripts of one file, one by one
some_in_file : (before : List (List RawScript)) (first rest : List RawScript) (after : List (List RawScript)) → Differ (flat before ++ first) → (Differ (flat before ++ (first ++ rest)) → ⊥) → ((place : ℕ) → IsTwiceNamed (before ++ (first ++ rest) ∷ after) (length before) place → ⊥) → ⊥
some_in_file before first [] after d not_all never = not_all (subst (λ us. Differ (flat before ++ us)) (sym (append-nil first)) d)
some_in_file before first (s ∷ rest) after d not_all never =
    let new : Contains (names_of (flat before ++ first)) s.name → ⊥ = λ c. never s.name_at (record { before = before; first = first; script = s; rest = rest; after = after; splits = refl; counted = refl; starts = refl; so_far = d; again = c }) in
    let e : (first ++ s ∷ []) ++ rest ≡ first ++ s ∷ rest = append_assoc first (s ∷ []) rest in
    some_in_file before (first ++ s ∷ []) rest after (subst Differ (append_assoc (flat before) first (s ∷ [])) (differ_on (flat before ++ first) s d new)) (λ h. not_all (subst (λ us. Differ (flat before ++ us)) e h)) (λ place t. never place (subst (λ us. IsTwiceNamed (before ++ us ∷ after) (length before) place) e t))

-- and file by file
some_named : (before files : List (List RawScript)) → Differ (flat before) → (Differ (flat (before ++ files)) → ⊥) → ((file place : ℕ) → IsTwiceNamed (before ++ files) file place → ⊥) → ⊥
some_named before [] d not_all never = not_all (subst (λ us. Differ (flat us)) (sym (append-nil before)) d)
some_named before (f ∷ files) d not_all never =
    let e : (before ++ f ∷ []) ++ files ≡ before ++ f ∷ files = append_assoc before (f ∷ []) files in
    let joined : flat before ++ f ≡ flat (before ++ f ∷ []) = ap (λ us. flat before ++ us) (sym (append-nil f)) ∙ sym (flat_map-append (λ u. u) before (f ∷ [])) in
    some_in_file before [] f files (subst Differ (sym (append-nil (flat before))) d) (λ h. some_named (before ++ f ∷ []) files (subst Differ joined h) (λ k. not_all (subst (λ us. Differ (flat us)) e k)) (λ file place t. never file place (subst (λ us. IsTwiceNamed us file place) e t))) (λ place t. never (length before) place t)

-- ---- pass by pass
module _ (texts : List (List ℕ)) (not_scripts : (scripts : List RawScript) → AreScriptsOf texts scripts → ⊥) (no_fault : (fault : ScriptFault) → IsOfTexts fault → IsFaultOf texts fault → ⊥) where
  no_names : All (Has IsProofFile) texts → ⊥
  no_names h =
      let z = all_zipped IsProofFile texts h in
      some_named [] z.0 (λ i j d l m. absurd (omega (arith, m))) (λ d. not_scripts (flat z.0) (record { files = z.0; each = z.1; joined = refl; distinct = d })) (λ file place t. no_fault (Fault 6 file place) tt (inr (inr (refl, (z.0, z.1, t)))))

  no_length : All (Has IsLow) texts → ⊥
  no_length l = all_or_first (Has IsProofFile) texts no_names long
    where
      long : (before : List (List ℕ)) (text : List ℕ) (after : List (List ℕ)) → texts ≡ before ++ text ∷ after → All (Has IsProofFile) before → (Has IsProofFile text → ⊥) → ⊥
      long before text after e h n =
          let p : Has IsLow text = all_middle (Has IsLow) before text after (subst (All (Has IsLow)) e l) in
          no_fault (Limit 8 (length before)) tt (inr (inr (refl, l, the_first {Bad = IsLong} before text after e h (p.0, p.1, λ s. n (p.0, record { low = p.1; short = s })))))

  no_height : All (Has IsWritten) texts → ⊥
  no_height w = all_or_first (Has IsLow) texts no_length high
    where
      high : (before : List (List ℕ)) (text : List ℕ) (after : List (List ℕ)) → texts ≡ before ++ text ∷ after → All (Has IsLow) before → (Has IsLow text → ⊥) → ⊥
      high before text after e h n =
          let p : Has IsWritten text = all_middle (Has IsWritten) before text after (subst (All (Has IsWritten)) e w) in
          no_fault (Limit 12 (length before)) tt (inr (inl (refl, w, the_first {Bad = IsHigh} before text after e h (p.0, p.1, λ s. n (p.0, record { written = p.1; low = s })))))

  no_writing : All (Has IsShallowText) texts → ⊥
  no_writing s = all_or_first (Has IsWritten) texts no_height unwritten
    where
      unwritten : (before : List (List ℕ)) (text : List ℕ) (after : List (List ℕ)) → texts ≡ before ++ text ∷ after → All (Has IsWritten) before → (Has IsWritten text → ⊥) → ⊥
      unwritten before text after e h n =
          let p : Has IsShallowText text = all_middle (Has IsShallowText) before text after (subst (All (Has IsShallowText)) e s) in
          some_written text p.0 p.1 n (λ place u. no_fault (Fault 3 (length before) place) tt (inr (inl (refl, s, the_first {Bad = IsUnwritten place} before text after e h u))))

  of_file : (fault : FileFault) → IsOfFiles fault → IsFileFaultOf texts fault → ⊥
  of_file (FaultOfFile number file place) o h = no_fault (Fault number file place) tt (inl h)
  of_file (LimitOfFile number file) o h = no_fault (Limit number file) tt (inl h)
  of_file NoMemory o h = o

pub scripts_are_told : ScriptsAreTold
scripts_are_told texts not_scripts no_fault = files_are_told texts (no_writing texts not_scripts no_fault) (of_file texts not_scripts no_fault)
