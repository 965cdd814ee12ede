-- A text that is cut and written as one script: as the only proof file it passes a limit, or is a file with this script.
use Rattle.std.proofs.Common.{◌≡◌, ◌⊎◌, inl, inr, ℕ, zero, suc, ◌+◌, ◌<◌, ◌≤◌, Bool, true, false, nat_lt, List, [], ◌∷◌, length, All, refl, ap, sym, subst, arith}
use Rattle.std.specs.Str.{IsUtf8}
use Rattle.std.specs.List.{AllZip}
use Rattle.std.proofs.lemmas.Bool.Decides.{nat_tests}
use Rattle.bk_limits.specs.declared.TheConstants.{MOST_TOKENS}
use Rattle.bk_form.specs.declared.token.Token.{Token}
use Rattle.bk_lex.specs.Lexis.{Cut, AreTokens}
use Rattle.bk_lex.specs.Faults.{BeginsToken}
use Rattle.bk_lex.specs.declared.fault.LexFault.TheVariants.{BadChar, OpenComment, NumberTooWide}
use Rattle.bk_lex.proofs.Cutting.{tokens_are_one, faults_have_no_tokens}
use Rattle.bk_raw.specs.Trees.ScriptTree.{RawScript}
use Rattle.bk_raw.specs.Grammar.ScriptSpelling.{SpellsScripts}
use Rattle.bk_raw.proofs.ScriptOne.{one-file-of}
use Rattle.bk_sources.specs.Files.{Has, IsCut, IsShallowText, IsFirst, IsNoUtf8, IsNoToken, HasTooMany}
use Rattle.bk_sources.proofs.OneCut.{no_first}
use Rattle.bk_p_proof.specs.Files.{IsWritten, IsProofFile, IsUnwritten, IsFaultOf, AreScriptsOf}
use Rattle.bk_p_proof.specs.Unread.{IsWithoutSequences, IsReadFaultAt}
use Rattle.bk_p_proof.specs.TypedNames.{script_names, AreOfOneType, IsSecondType}
use Rattle.bk_p_proof.specs.Laws.{IsOfTexts}
use Rattle.bk_p_proof.specs.declared.fault.ScriptFault.{ScriptFault}
use Rattle.bk_p_proof.specs.declared.fault.ScriptFault.TheVariants.{Fault, Limit, Memory}
use Rattle.bk_p_proof.proofs.OneAnswer.{not_typed}
use Rattle.bk_p_proof.proofs.SomeScripts.{scripts_are_told}
use Rattle.bk_print.specs.InScope.{IsTooLong, IsTooHigh}

pub below : (m n : ℕ) → nat_lt m n ≡ true → m < n
below m n h = grind (arith, nat_tests)

pub above : (m n : ℕ) → nat_lt m n ≡ false → n ≤ m
above m n h = grind (arith, nat_tests)

only : {A : Type 0} (P : A → Type 0) (x : A) → P x → All P (x ∷ [])
only P x h zero d l = h
only P x h (suc k) d l = absurd (omega arith)

no-items : {A : Type 0} (P : A → Type 0) → All P []
no-items P k d l = absurd (omega arith)

-- ---- too many tokens
-- where the token after so many begins
record IsFrontOf (total : ℕ) (text : List ℕ) (n : ℕ) : Type 0 where
  pub found : List Token
  pub many : length found ≡ n
  pub rest : List ℕ
  pub cut : Cut total text found rest
  pub begins : BeginsToken rest
  pub place : ℕ
  pub left : place + length rest ≡ total

front-of : (total n : ℕ) (text : List ℕ) (tokens : List Token) → n < length tokens → Cut total text tokens [] → IsFrontOf total text n
front-of total n text [] l h = absurd (omega arith)
front-of total zero text (t ∷ ts) l h = record {
  found = [];
  many = refl;
  rest = h.1;
  cut = (h.0, h.3);
  begins = record { kind = t.kind; after = h.2; begins = h.4; fits = h.5 };
  place = t.start;
  left = h.6;
}
front-of total (suc n) text (t ∷ ts) l h =
    let k : IsFrontOf total h.2 n = front-of total n h.2 ts (omega arith) h.8 in
    record {
      found = t ∷ k.found;
      many = ap suc k.many;
      rest = k.rest;
      cut = (h.0, h.1, h.2, h.3, h.4, h.5, h.6, h.7, k.cut);
      begins = k.begins;
      place = k.place;
      left = k.left;
    }

too-many : (text : List ℕ) (tokens : List Token) → AreTokens text tokens → MOST_TOKENS < length tokens → HasTooMany text
too-many text tokens h l =
    let k : IsFrontOf (length text) text MOST_TOKENS = front-of (length text) MOST_TOKENS text tokens l h.1 in
    (k.place, (h.0, k.found, record { rest = k.rest; cut = k.cut; left = k.left; this = k.begins }, k.many))

-- ---- the only file
module _ (text : List ℕ) (tokens : List Token) (script : RawScript) (cut : AreTokens text tokens) (spelled : SpellsScripts (script ∷ []) tokens) (plain : IsWithoutSequences tokens) (typed : AreOfOneType (script_names script)) (not_long : IsTooLong text → ⊥) (not_high : IsTooHigh text → ⊥) (not_file : IsProofFile text (script ∷ []) → ⊥) where
  few : length tokens ≤ MOST_TOKENS
  few = at (nat_lt MOST_TOKENS (length tokens)) refl
    where
      first : HasTooMany text → IsFirst (Has IsCut) HasTooMany (text ∷ []) 0
      first h = record { before = []; item = text; after = []; splits = refl; counted = refl; fine = no-items (Has IsCut); faulty = h }

      at : (b : Bool) → nat_lt MOST_TOKENS (length tokens) ≡ b → length tokens ≤ MOST_TOKENS
      at true e = absurd (not_long (inl (0, inl (inl (refl, only IsUtf8 text cut.0, first (too-many text tokens cut (below MOST_TOKENS (length tokens) e)))))))
      at false e = above MOST_TOKENS (length tokens) e

  -- ---- no scripts
  no-file : (ss : List RawScript) → IsProofFile text ss → ⊥
  no-file ss p =
      let w : IsWritten text ss = p.low.written in
      let e : tokens ≡ w.tokens = tokens_are_one text tokens w.tokens cut w.shallow.cut.cut in
      let same : script ∷ [] ≡ ss = one-file-of w.tokens (script ∷ []) ss (subst (SpellsScripts (script ∷ [])) e spelled) w.spelled in
      not_file (subst (IsProofFile text) (sym same) p)

  no-files : (files : List (List RawScript)) → AllZip IsProofFile (text ∷ []) files → ⊥
  no-files [] h = elim h [ ]
  no-files (f ∷ fs) h = no-file f h.0

  no-scripts : (ss : List RawScript) → AreScriptsOf (text ∷ []) ss → ⊥
  no-scripts ss h = no-files h.files h.each

  -- ---- no fault
  no-token : (t : List ℕ) (place : ℕ) → Has IsCut t → IsNoToken place t → ⊥
  no-token t place p (inl h) = faults_have_no_tokens t (BadChar place) p.0 h tt p.1.cut p.1.few
  no-token t place p (inr (inl h)) = faults_have_no_tokens t (OpenComment place) p.0 h tt p.1.cut p.1.few
  no-token t place p (inr (inr h)) = faults_have_no_tokens t (NumberTooWide place) p.0 h tt p.1.cut p.1.few

  as-read : (place : ℕ) (ts : List Token) → IsShallowText text ts → IsReadFaultAt (length text) ts place ⊎ ((ss : List RawScript) × SpellsScripts ss ts × IsSecondType ss place × IsWithoutSequences ts) → ⊥
  as-read place ts s (inl h) =
      let e : tokens ≡ ts = tokens_are_one text tokens ts cut s.cut.cut in
      h.1.none (script ∷ []) (subst (SpellsScripts (script ∷ [])) e spelled) (subst IsWithoutSequences e plain)
  as-read place ts s (inr h) =
      let e : tokens ≡ ts = tokens_are_one text tokens ts cut s.cut.cut in
      let same : h.0 ≡ script ∷ [] = one-file-of ts h.0 (script ∷ []) h.1 (subst (SpellsScripts (script ∷ [])) e spelled) in
      not_typed (script ∷ []) h.0 place same (only (λ (r : RawScript). AreOfOneType (script_names r)) script typed) h.2

  unwritten : (place : ℕ) (t : List ℕ) → t ≡ text → IsUnwritten place t → ⊥
  unwritten place t e h = let k : IsUnwritten place text = subst (IsUnwritten place) e h in as-read place k.0 k.1 k.2

  no-fault : (fault : ScriptFault) → IsOfTexts fault → IsFaultOf (text ∷ []) fault → ⊥
  no-fault (Fault number file place) o (inl (inl h)) = no_first IsUtf8 IsUtf8 (IsNoUtf8 place) (text ∷ []) file (only IsUtf8 text cut.0) (λ t p n. n.0 p) h.1
  no-fault (Fault number file place) o (inl (inr h)) = no_first (Has IsCut) (Has IsCut) (IsNoToken place) (text ∷ []) file (only (Has IsCut) text (tokens, record { cut = cut; few = few })) (λ t p n. no-token t place p n) h.2
  no-fault (Fault number file place) o (inr (inl h)) = no_first (λ (t : List ℕ). t ≡ text) (Has IsWritten) (IsUnwritten place) (text ∷ []) file (only (λ (t : List ℕ). t ≡ text) text refl) (unwritten place) h.2
  no-fault (Fault number file place) o (inr (inr h)) = no-files h.1.0 h.1.1
  no-fault (Limit number file) o (inl (inl h)) = not_long (inl (file, subst (λ (n : ℕ). IsFaultOf (text ∷ []) (Limit n file)) h.0 (inl (inl h))))
  no-fault (Limit number file) o (inl (inr h)) = not_high (inl (file, subst (λ (n : ℕ). IsFaultOf (text ∷ []) (Limit n file)) h.0 (inl (inr h))))
  no-fault (Limit number file) o (inr (inl h)) = not_high (inr (file, subst (λ (n : ℕ). IsFaultOf (text ∷ []) (Limit n file)) h.0 (inr (inl h))))
  no-fault (Limit number file) o (inr (inr h)) = not_long (inr (file, subst (λ (n : ℕ). IsFaultOf (text ∷ []) (Limit n file)) h.0 (inr (inr h))))
  no-fault Memory o h = absurd o

  pub never_unread : ⊥
  never_unread = scripts_are_told (text ∷ []) no-scripts no-fault
