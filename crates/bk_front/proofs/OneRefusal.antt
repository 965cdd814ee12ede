-- The texts of component files have one fault or limit.
use Rattle.std.specs.Prelude.{◌≡◌, ◌⊎◌, ℕ, suc, ◌<◌, ℤ, List, length, All, Option, None}
use Rattle.std.specs.List.{AllZip}
use Rattle.std.proofs.Common.{inl, inr, ap, sym, subst, ◌∙◌}
use Rattle.std.proofs.lemmas.Bool.{false≢true}
use Rattle.std.proofs.lemmas.List.Elements.{All-weaker}
use Rattle.bk_raw.specs.Trees.ComponentTree.{RawComponent}
use Rattle.bk_raw.specs.Grammar.ComponentSpelling.{SpellsComponent}
use Rattle.bk_raw.specs.Errors.Limits.{IsLowComponent}
use Rattle.bk_raw.specs.Errors.Places.{IsComponentFaultAt}
use Rattle.bk_raw.specs.Errors.Faults.{Fault as StaticFault, told_as}
use Rattle.bk_raw.proofs.Places.{component-places-are-one}
use Rattle.bk_lex.proofs.Cutting.{tokens_are_one}
use Rattle.bk_dev.specs.Development.{Development}
use Rattle.bk_statics.specs.Verdict.{Verdict, verdict_of, accepted, at_fault, past_limit}
use Rattle.bk_sources.specs.Files.{Has, IsFirst, IsShallowText, IsFaultOf as IsFileFaultOf}
use Rattle.bk_sources.specs.Laws.{IsOfFiles}
use Rattle.bk_sources.specs.declared.fault.FileFault.{FileFault}
use Rattle.bk_sources.specs.declared.fault.FileFault.TheVariants.{Fault as FaultOfFile, Limit as LimitOfFile, Memory as NoMemory}
use Rattle.bk_sources.proofs.Turns.{zip_has}
use Rattle.bk_sources.proofs.OneCut.{no_first, none_at_fault, none_past_limit}
use Rattle.bk_sources.proofs.OneFault.{order, front_in, same_cut, both_first, faults_are_one_of as files_have_one_fault}
use Rattle.bk_front.specs.declared.project_file.LineKind.{LineKind}
use Rattle.bk_front.specs.ProjectFile.{kinds_of, range_of}
use Rattle.bk_front.specs.declared.refusal.Refusal.{Refusal}
use Rattle.bk_front.specs.declared.refusal.Refusal.TheVariants.{Fault, Limit, Memory}
use Rattle.bk_front.specs.Chain.{links}
use Rattle.bk_front.specs.Project.{IsWritten, IsLow, IsChained, AreChained, DeclaresFew, AreLevels, IsUnwritten, IsHigh, IsUnchained, DeclaresMany, IsLevelFault, IsRefusalIn}
use Rattle.bk_front.specs.Laws.{TextsHaveOneRefusal, IsOfProject}
use Rattle.bk_front.proofs.OneReading.{same_spelled, same_components, same_levels, levels_cut, not_both}

-- ---- what is at fault is not fine
unwritten_not : (place : ℕ) (text : List ℕ) → IsUnwritten place text → Has IsWritten text → ⊥
unwritten_not place text b p =
    let w = p.1 in
    let e : w.tokens ≡ b.0 = tokens_are_one text w.tokens b.0 w.shallow.cut.cut b.1.cut.cut in
    b.2.1.none p.0 (subst (SpellsComponent p.0) e w.spelled)

high_not : (text : List ℕ) → IsHigh text → Has IsLow text → ⊥
high_not text b p =
    let e : b.0 ≡ p.0 = same_spelled text b.1.tokens b.0 p.0 b.1.shallow b.1.spelled p.1.written in
    b.2 (subst IsLowComponent (sym e) p.1.low)

-- ---- one fault of one text, or of one component
unwritten_one : (text : List ℕ) (p q : ℕ) → IsUnwritten p text → IsUnwritten q text → p ≡ q
unwritten_one text p q b c =
    let e : b.0 ≡ c.0 = tokens_are_one text b.0 c.0 b.1.cut.cut c.1.cut.cut in
    (component-places-are-one c.0).1 (length text) p q (subst (λ ts. IsComponentFaultAt (length text) ts p) e b.2) c.2

-- no component is accepted that is at fault
level_not : (top : ℤ) (cs : List RawComponent) (all : Option Development) (number file place : ℕ) → AreLevels top None cs all → IsLevelFault top cs number file place → ⊥
level_not top cs all number file place h f =
    let r = levels_cut top None f.before f.component f.after all (subst (λ us. AreLevels top None us all) f.splits h) in
    let e : r.0 ≡ f.above = same_levels top None f.before r.0 f.above r.1 f.levels in
    let v : verdict_of top f.above f.component ≡ accepted r.2.0 = subst (λ a. verdict_of top a f.component ≡ accepted r.2.0) e r.2.1 in
    not_both r.2.0 f.told.0 (sym v ∙ f.told.1)

level_before : (top : ℤ) (cs : List RawComponent) (m f p n g q : ℕ) (h : IsLevelFault top cs m f p) (k : IsLevelFault top cs n g q) → length h.before < length k.before → ⊥
level_before top cs m f p n g q h k l =
    let r = front_in h.before h.component h.after k.before k.component k.after (sym h.splits ∙ k.splits) l in
    level_not top k.before k.above m f p k.levels (record { before = h.before; component = h.component; after = r.0; splits = r.1; counted = h.counted; above = h.above; levels = h.levels; told = h.told })

abbrev told_of : Verdict → ℕ × ℕ
told_of (accepted dev) = (0, 0)
told_of (at_fault f) = told_as f
told_of (past_limit n) = (n, 0)

level_by : (top : ℤ) (cs : List RawComponent) (m f p n g q : ℕ) (h : IsLevelFault top cs m f p) (k : IsLevelFault top cs n g q) → (length h.before < length k.before) ⊎ ((length h.before ≡ length k.before) ⊎ (length k.before < length h.before)) → Fault m (suc f) p ≡ Fault n (suc g) q
level_by top cs m f p n g q h k (inl l) = absurd (level_before top cs m f p n g q h k l)
level_by top cs m f p n g q h k (inr (inl l)) =
    let s = same_cut h.before h.component h.after k.before k.component k.after (sym h.splits ∙ k.splits) l in
    let component : h.component ≡ k.component = s.1 in
    let above : h.above ≡ k.above = same_levels top None k.before h.above k.above (subst (λ us. AreLevels top None us h.above) s.0 h.levels) k.levels in
    let verdict : verdict_of top h.above h.component ≡ verdict_of top k.above k.component = λ i. verdict_of top (above i) (component i) in
    let told : (m, p) ≡ (n, q) = sym h.told.2 ∙ ap told_of (sym h.told.1 ∙ verdict ∙ k.told.1) ∙ k.told.2 in
    let number : m ≡ n = ap (λ (t : ℕ × ℕ). t.0) told in
    let place : p ≡ q = ap (λ (t : ℕ × ℕ). t.1) told in
    let file : f ≡ g = sym h.counted ∙ l ∙ k.counted in
    λ i. Fault (number i) (suc (file i)) (place i)
level_by top cs m f p n g q h k (inr (inr l)) = absurd (level_before top cs n g q m f p k h l)

-- ---- what is known when a pass is done
abbrev Shallow : List LineKind → List (List ℕ) → Type 0
Shallow kinds texts = All (Has IsShallowText) texts

abbrev Written : List LineKind → List (List ℕ) → Type 0
Written kinds texts = All (Has IsWritten) texts

abbrev Low : List LineKind → List (List ℕ) → Type 0
Low kinds texts = (cs : List RawComponent) × AllZip IsLow texts cs

abbrev Chained : List LineKind → List (List ℕ) → Type 0
Chained kinds texts = (cs : List RawComponent) × AreChained kinds texts cs

abbrev Few : List LineKind → List (List ℕ) → Type 0
Few kinds texts = (cs : List RawComponent) × AreChained kinds texts cs × All DeclaresFew cs

shallow : (kinds : List LineKind) (texts : List (List ℕ)) → Written kinds texts → Shallow kinds texts
shallow kinds texts h = All-weaker (Has IsWritten) (Has IsShallowText) (λ text p. (p.1.tokens, p.1.shallow)) texts h

written : (kinds : List LineKind) (texts : List (List ℕ)) → Low kinds texts → Written kinds texts
written kinds texts h = All-weaker (Has IsLow) (Has IsWritten) (λ text p. (p.0, p.1.written)) texts (zip_has IsLow texts h.0 h.1)

low : (kinds : List LineKind) (texts : List (List ℕ)) → Chained kinds texts → Low kinds texts
low kinds texts h = (h.0, h.1.each)

chained : (kinds : List LineKind) (texts : List (List ℕ)) → Few kinds texts → Chained kinds texts
chained kinds texts h = (h.0, h.1)

-- ---- the pass that tells it
abbrev of_files : FileFault → Refusal
of_files (FaultOfFile number file place) = Fault number (suc file) place
of_files (LimitOfFile number file) = Limit number (suc file)
of_files NoMemory = Memory

data Case (top : ℤ) (kinds : List LineKind) (texts : List (List ℕ)) (refusal : Refusal) : Type 0 where
  case_files : (f : FileFault) → IsOfFiles f → IsFileFaultOf texts f → refusal ≡ of_files f → Case top kinds texts refusal
  case_written : (file place : ℕ) → Shallow kinds texts → IsFirst (Has IsWritten) (IsUnwritten place) texts file → refusal ≡ Fault 3 (suc file) place → Case top kinds texts refusal
  case_high : (file : ℕ) → Written kinds texts → IsFirst (Has IsLow) IsHigh texts file → refusal ≡ Limit 12 (suc file) → Case top kinds texts refusal
  case_chain : (file place : ℕ) (s : Low kinds texts) → IsFirst IsChained (IsUnchained place) (links None kinds s.0) file → refusal ≡ Fault 5 (suc file) place → Case top kinds texts refusal
  case_names : (file : ℕ) (s : Chained kinds texts) → IsFirst DeclaresFew DeclaresMany s.0 file → refusal ≡ Limit 5 (suc file) → Case top kinds texts refusal
  case_level : (number file place : ℕ) (s : Few kinds texts) → IsLevelFault top s.0 number file place → refusal ≡ Fault number (suc file) place → Case top kinds texts refusal

case_of : (top : ℤ) (kinds : List LineKind) (texts : List (List ℕ)) (refusal : Refusal) → IsRefusalIn top kinds texts refusal → IsOfProject refusal → Case top kinds texts refusal
case_of top kinds texts (Fault number file place) (n, e, inl h) o = case_files (FaultOfFile number n place) tt h (λ i. Fault number (sym e i) place)
case_of top kinds texts (Fault number file place) (n, e, inr (inl (m, before, first))) o = case_written n place before first (λ i. Fault (m i) (sym e i) place)
case_of top kinds texts (Fault number file place) (n, e, inr (inr (inl (m, counted, (cs, each, first))))) o = case_chain n place (cs, each) first (λ i. Fault (m i) (sym e i) place)
case_of top kinds texts (Fault number file place) (n, e, inr (inr (inr (cs, chained, few, f)))) o = case_level number n place (cs, chained, few) f (λ i. Fault number (sym e i) place)
case_of top kinds texts (Limit number file) (n, e, inl h) o = case_files (LimitOfFile number n) tt h (λ i. Limit number (sym e i))
case_of top kinds texts (Limit number file) (n, e, inr (inl (m, before, first))) o = case_high n before first (λ i. Limit (m i) (sym e i))
case_of top kinds texts (Limit number file) (n, e, inr (inr (m, (cs, chained, first)))) o = case_names n (cs, chained) first (λ i. Limit (m i) (sym e i))
case_of top kinds texts Memory h o = absurd o

-- ---- where its pass is done it is not told
files_told : (kinds : List LineKind) (texts : List (List ℕ)) (f : FileFault) → IsOfFiles f → IsFileFaultOf texts f → Shallow kinds texts → ⊥
files_told kinds texts (FaultOfFile number file place) o h s = none_at_fault texts number file place s h
files_told kinds texts (LimitOfFile number file) o h s = none_past_limit texts number file s h
files_told kinds texts NoMemory o h s = o

written_told : (kinds : List LineKind) (texts : List (List ℕ)) (file place : ℕ) → IsFirst (Has IsWritten) (IsUnwritten place) texts file → Written kinds texts → ⊥
written_told kinds texts file place f s = no_first (Has IsWritten) (Has IsWritten) (IsUnwritten place) texts file s (λ text p b. unwritten_not place text b p) f

high_told : (kinds : List LineKind) (texts : List (List ℕ)) (file : ℕ) → IsFirst (Has IsLow) IsHigh texts file → Low kinds texts → ⊥
high_told kinds texts file f s = no_first (Has IsLow) (Has IsLow) IsHigh texts file (zip_has IsLow texts s.0 s.1) (λ text p b. high_not text b p) f

chain_told : (kinds : List LineKind) (texts : List (List ℕ)) (file place : ℕ) (r : Low kinds texts) → IsFirst IsChained (IsUnchained place) (links None kinds r.0) file → Chained kinds texts → ⊥
chain_told kinds texts file place r f s =
    let e : s.0 ≡ r.0 = same_components texts s.0 r.0 s.1.each r.1 in
    no_first IsChained IsChained (IsUnchained place) (links None kinds r.0) file (subst (λ us. All IsChained (links None kinds us)) e s.1.right) (λ l p u. false≢true (sym u.0 ∙ p)) f

names_told : (kinds : List LineKind) (texts : List (List ℕ)) (file : ℕ) (r : Chained kinds texts) → IsFirst DeclaresFew DeclaresMany r.0 file → Few kinds texts → ⊥
names_told kinds texts file r f s =
    let e : s.0 ≡ r.0 = same_components texts s.0 r.0 s.1.each r.1.each in
    no_first DeclaresFew DeclaresFew DeclaresMany r.0 file (subst (All DeclaresFew) e s.2) (λ c p u. false≢true (sym p ∙ u)) f

-- ---- one pass tells one
written_twice : (kinds : List LineKind) (texts : List (List ℕ)) (f p g q : ℕ) → IsFirst (Has IsWritten) (IsUnwritten p) texts f → IsFirst (Has IsWritten) (IsUnwritten q) texts g → Fault 3 (suc f) p ≡ Fault 3 (suc g) q
written_twice kinds texts f p g q h k =
    let b = both_first (Has IsWritten) (IsUnwritten p) (IsUnwritten q) texts f g (unwritten_not p) (unwritten_not q) h k in
    let file : f ≡ g = b.same in
    let place : p ≡ q = unwritten_one b.item p q b.bad b.ill in
    λ i. Fault 3 (suc (file i)) (place i)

chain_twice : (kinds : List LineKind) (texts : List (List ℕ)) (f p g q : ℕ) (r s : Low kinds texts) → IsFirst IsChained (IsUnchained p) (links None kinds r.0) f → IsFirst IsChained (IsUnchained q) (links None kinds s.0) g → Fault 5 (suc f) p ≡ Fault 5 (suc g) q
chain_twice kinds texts f p g q r s h k =
    let e : r.0 ≡ s.0 = same_components texts r.0 s.0 r.1 s.1 in
    let h2 : IsFirst IsChained (IsUnchained p) (links None kinds s.0) f = subst (λ us. IsFirst IsChained (IsUnchained p) (links None kinds us) f) e h in
    let b = both_first IsChained (IsUnchained p) (IsUnchained q) (links None kinds s.0) f g (λ l u c. false≢true (sym u.0 ∙ c)) (λ l u c. false≢true (sym u.0 ∙ c)) h2 k in
    let file : f ≡ g = b.same in
    let place : p ≡ q = sym b.bad.1 ∙ b.ill.1 in
    λ i. Fault 5 (suc (file i)) (place i)

names_twice : (kinds : List LineKind) (texts : List (List ℕ)) (f g : ℕ) (r s : Chained kinds texts) → IsFirst DeclaresFew DeclaresMany r.0 f → IsFirst DeclaresFew DeclaresMany s.0 g → f ≡ g
names_twice kinds texts f g r s h k =
    let e : r.0 ≡ s.0 = same_components texts r.0 s.0 r.1.each s.1.each in
    (both_first DeclaresFew DeclaresMany DeclaresMany s.0 f g (λ c u p. false≢true (sym p ∙ u)) (λ c u p. false≢true (sym p ∙ u)) (subst (λ us. IsFirst DeclaresFew DeclaresMany us f) e h) k).same

level_twice : (top : ℤ) (kinds : List LineKind) (texts : List (List ℕ)) (m f p n g q : ℕ) (r s : Few kinds texts) → IsLevelFault top r.0 m f p → IsLevelFault top s.0 n g q → Fault m (suc f) p ≡ Fault n (suc g) q
level_twice top kinds texts m f p n g q r s h k =
    let e : r.0 ≡ s.0 = same_components texts r.0 s.0 r.1.each s.1.each in
    let h2 : IsLevelFault top s.0 m f p = subst (λ us. IsLevelFault top us m f p) e h in
    level_by top s.0 m f p n g q h2 k (order (length h2.before) (length k.before))

one_case : (top : ℤ) (kinds : List LineKind) (texts : List (List ℕ)) (one other : Refusal) → Case top kinds texts one → Case top kinds texts other → one ≡ other
one_case top kinds texts one other (case_files fa oa ha ea) (case_files fb ob hb eb) = ea ∙ ap of_files (files_have_one_fault texts fa fb ha oa hb ob) ∙ sym eb
one_case top kinds texts one other (case_files fa oa ha ea) (case_written fb pb sb hb eb) = absurd (files_told kinds texts fa oa ha sb)
one_case top kinds texts one other (case_files fa oa ha ea) (case_high fb sb hb eb) = absurd (files_told kinds texts fa oa ha (shallow kinds texts sb))
one_case top kinds texts one other (case_files fa oa ha ea) (case_chain fb pb sb hb eb) = absurd (files_told kinds texts fa oa ha (shallow kinds texts (written kinds texts sb)))
one_case top kinds texts one other (case_files fa oa ha ea) (case_names fb sb hb eb) = absurd (files_told kinds texts fa oa ha (shallow kinds texts (written kinds texts (low kinds texts sb))))
one_case top kinds texts one other (case_files fa oa ha ea) (case_level nb fb pb sb hb eb) = absurd (files_told kinds texts fa oa ha (shallow kinds texts (written kinds texts (low kinds texts (chained kinds texts sb)))))
one_case top kinds texts one other (case_written fa pa sa ha ea) (case_files fb ob hb eb) = absurd (files_told kinds texts fb ob hb sa)
one_case top kinds texts one other (case_written fa pa sa ha ea) (case_written fb pb sb hb eb) = ea ∙ written_twice kinds texts fa pa fb pb ha hb ∙ sym eb
one_case top kinds texts one other (case_written fa pa sa ha ea) (case_high fb sb hb eb) = absurd (written_told kinds texts fa pa ha sb)
one_case top kinds texts one other (case_written fa pa sa ha ea) (case_chain fb pb sb hb eb) = absurd (written_told kinds texts fa pa ha (written kinds texts sb))
one_case top kinds texts one other (case_written fa pa sa ha ea) (case_names fb sb hb eb) = absurd (written_told kinds texts fa pa ha (written kinds texts (low kinds texts sb)))
one_case top kinds texts one other (case_written fa pa sa ha ea) (case_level nb fb pb sb hb eb) = absurd (written_told kinds texts fa pa ha (written kinds texts (low kinds texts (chained kinds texts sb))))
one_case top kinds texts one other (case_high fa sa ha ea) (case_files fb ob hb eb) = absurd (files_told kinds texts fb ob hb (shallow kinds texts sa))
one_case top kinds texts one other (case_high fa sa ha ea) (case_written fb pb sb hb eb) = absurd (written_told kinds texts fb pb hb sa)
one_case top kinds texts one other (case_high fa sa ha ea) (case_high fb sb hb eb) = ea ∙ ap (λ f. Limit 12 (suc f)) (both_first (Has IsLow) IsHigh IsHigh texts fa fb high_not high_not ha hb).same ∙ sym eb
one_case top kinds texts one other (case_high fa sa ha ea) (case_chain fb pb sb hb eb) = absurd (high_told kinds texts fa ha sb)
one_case top kinds texts one other (case_high fa sa ha ea) (case_names fb sb hb eb) = absurd (high_told kinds texts fa ha (low kinds texts sb))
one_case top kinds texts one other (case_high fa sa ha ea) (case_level nb fb pb sb hb eb) = absurd (high_told kinds texts fa ha (low kinds texts (chained kinds texts sb)))
one_case top kinds texts one other (case_chain fa pa sa ha ea) (case_files fb ob hb eb) = absurd (files_told kinds texts fb ob hb (shallow kinds texts (written kinds texts sa)))
one_case top kinds texts one other (case_chain fa pa sa ha ea) (case_written fb pb sb hb eb) = absurd (written_told kinds texts fb pb hb (written kinds texts sa))
one_case top kinds texts one other (case_chain fa pa sa ha ea) (case_high fb sb hb eb) = absurd (high_told kinds texts fb hb sa)
one_case top kinds texts one other (case_chain fa pa sa ha ea) (case_chain fb pb sb hb eb) = ea ∙ chain_twice kinds texts fa pa fb pb sa sb ha hb ∙ sym eb
one_case top kinds texts one other (case_chain fa pa sa ha ea) (case_names fb sb hb eb) = absurd (chain_told kinds texts fa pa sa ha sb)
one_case top kinds texts one other (case_chain fa pa sa ha ea) (case_level nb fb pb sb hb eb) = absurd (chain_told kinds texts fa pa sa ha (chained kinds texts sb))
one_case top kinds texts one other (case_names fa sa ha ea) (case_files fb ob hb eb) = absurd (files_told kinds texts fb ob hb (shallow kinds texts (written kinds texts (low kinds texts sa))))
one_case top kinds texts one other (case_names fa sa ha ea) (case_written fb pb sb hb eb) = absurd (written_told kinds texts fb pb hb (written kinds texts (low kinds texts sa)))
one_case top kinds texts one other (case_names fa sa ha ea) (case_high fb sb hb eb) = absurd (high_told kinds texts fb hb (low kinds texts sa))
one_case top kinds texts one other (case_names fa sa ha ea) (case_chain fb pb sb hb eb) = absurd (chain_told kinds texts fb pb sb hb sa)
one_case top kinds texts one other (case_names fa sa ha ea) (case_names fb sb hb eb) = ea ∙ ap (λ f. Limit 5 (suc f)) (names_twice kinds texts fa fb sa sb ha hb) ∙ sym eb
one_case top kinds texts one other (case_names fa sa ha ea) (case_level nb fb pb sb hb eb) = absurd (names_told kinds texts fa sa ha sb)
one_case top kinds texts one other (case_level na fa pa sa ha ea) (case_files fb ob hb eb) = absurd (files_told kinds texts fb ob hb (shallow kinds texts (written kinds texts (low kinds texts (chained kinds texts sa)))))
one_case top kinds texts one other (case_level na fa pa sa ha ea) (case_written fb pb sb hb eb) = absurd (written_told kinds texts fb pb hb (written kinds texts (low kinds texts (chained kinds texts sa))))
one_case top kinds texts one other (case_level na fa pa sa ha ea) (case_high fb sb hb eb) = absurd (high_told kinds texts fb hb (low kinds texts (chained kinds texts sa)))
one_case top kinds texts one other (case_level na fa pa sa ha ea) (case_chain fb pb sb hb eb) = absurd (chain_told kinds texts fb pb sb hb (chained kinds texts sa))
one_case top kinds texts one other (case_level na fa pa sa ha ea) (case_names fb sb hb eb) = absurd (names_told kinds texts fb sb hb sa)
one_case top kinds texts one other (case_level na fa pa sa ha ea) (case_level nb fb pb sb hb eb) = ea ∙ level_twice top kinds texts na fa pa nb fb pb sa sb ha hb ∙ sym eb

pub texts_have_one_refusal : TextsHaveOneRefusal
texts_have_one_refusal named texts one other h o k r =
    let top = range_of named in
    let kinds = kinds_of named in
    one_case top kinds texts one other (case_of top kinds texts one h o) (case_of top kinds texts other k r)
