-- Texts are read as one development at most, and have no fault where they are.
use Rattle.std.specs.Prelude.{◌≡◌, ℕ, ℤ, List, [], ◌∷◌, ◌++◌, All, Option, None, Some, refl}
use Rattle.std.specs.List.{AllZip}
use Rattle.std.proofs.Common.{inl, inr, sym, subst, ◌∙◌}
use Rattle.std.proofs.lemmas.Bool.{false≢true}
use Rattle.std.proofs.lemmas.List.Elements.{All-weaker}
use Rattle.bk_form.specs.declared.token.Token.{Token}
use Rattle.bk_raw.specs.Errors.Faults.{Fault as StaticFault}
use Rattle.bk_raw.specs.Trees.ComponentTree.{RawComponent}
use Rattle.bk_raw.specs.Grammar.ComponentSpelling.{SpellsComponent}
use Rattle.bk_raw.specs.Errors.Limits.{IsLowComponent}
use Rattle.bk_raw.proofs.ComponentOne.{one-component}
use Rattle.bk_lex.proofs.Cutting.{tokens_are_one}
use Rattle.bk_dev.specs.Development.{Development}
use Rattle.bk_statics.specs.Verdict.{verdict_of, accepted, at_fault}
use Rattle.bk_sources.specs.Files.{Has, IsShallowText}
use Rattle.bk_sources.proofs.OneCut.{no_first, none_at_fault, none_past_limit}
use Rattle.bk_sources.proofs.Turns.{zip_has}
use Rattle.bk_front.specs.declared.project_file.LineKind.{LineKind}
use Rattle.bk_front.specs.ProjectFile.{kinds_of, range_of}
use Rattle.bk_front.specs.declared.refusal.Refusal.TheVariants.{Fault, Limit, Memory}
use Rattle.bk_front.specs.Chain.{links}
use Rattle.bk_front.specs.Project.{IsWritten, IsLow, IsChained, DeclaresFew, AreLevels, ReadsIn, IsUnwritten, IsHigh, IsLevelFault, IsProjectFault, IsProjectLimit, ReadAsOne, FaultsExclude}

-- ---- one component
pub same_spelled : (text : List ℕ) (tokens : List Token) (c d : RawComponent) → IsShallowText text tokens → SpellsComponent c tokens → IsWritten text d → c ≡ d
same_spelled text tokens c d shallow spelled h =
    let e : tokens ≡ h.tokens = tokens_are_one text tokens h.tokens shallow.cut.cut h.shallow.cut.cut in
    one-component h.tokens c d (subst (SpellsComponent c) e spelled) h.spelled

pub same_components : (texts : List (List ℕ)) (cs ds : List RawComponent) → AllZip IsLow texts cs → AllZip IsLow texts ds → cs ≡ ds
same_components [] [] [] h k = refl
same_components [] [] (d ∷ ds) h k = absurd k
same_components [] (c ∷ cs) ds h k = absurd h
same_components (t ∷ ts) [] ds h k = absurd h
same_components (t ∷ ts) (c ∷ cs) [] h k = absurd k
same_components (t ∷ ts) (c ∷ cs) (d ∷ ds) h k =
    let e = same_spelled t h.0.written.tokens c d h.0.written.shallow h.0.written.spelled k.0.written in
    let f = same_components ts cs ds h.1 k.1 in
    λ i. e i ∷ f i

-- ---- one development
same_accepted : (a b : Development) → accepted a ≡ accepted b → a ≡ b
same_accepted a b e = cc

pub same_levels : (top : ℤ) (above : Option Development) (cs : List RawComponent) (one other : Option Development) → AreLevels top above cs one → AreLevels top above cs other → one ≡ other
same_levels top above [] one other h k = sym h ∙ k
same_levels top above (c ∷ cs) one other h k =
    let e : k.0 ≡ h.0 = same_accepted k.0 h.0 (sym k.1 ∙ h.1) in
    same_levels top (Some h.0) cs one other h.2 (subst (λ d. AreLevels top (Some d) cs other) e k.2)

same_some : (a b : Development) → Some a ≡ Some b → a ≡ b
same_some a b e = cc

pub read_as_one : ReadAsOne
read_as_one named texts dev other h k =
    let top = range_of named in
    let e : k.components ≡ h.components = same_components texts k.components h.components k.chained.each h.chained.each in
    same_some dev other (same_levels top None h.components (Some dev) (Some other) h.levels (subst (λ cs. AreLevels top None cs (Some other)) e k.levels))

-- ---- no fault
has_shallow : (texts : List (List ℕ)) (cs : List RawComponent) → AllZip IsLow texts cs → All (Has IsShallowText) texts
has_shallow texts cs h = All-weaker (Has IsLow) (Has IsShallowText) (λ text p. (p.1.written.tokens, p.1.written.shallow)) texts (zip_has IsLow texts cs h)

not_unwritten : (text : List ℕ) (place : ℕ) → Has IsLow text → IsUnwritten place text → ⊥
not_unwritten text place p h =
    let w = p.1.written in
    let e : w.tokens ≡ h.0 = tokens_are_one text w.tokens h.0 w.shallow.cut.cut h.1.cut.cut in
    h.2.1.none p.0 (subst (SpellsComponent p.0) e w.spelled)

not_high : (text : List ℕ) → Has IsLow text → IsHigh text → ⊥
not_high text p h =
    let e : h.0 ≡ p.0 = same_spelled text h.1.tokens h.0 p.0 h.1.shallow h.1.spelled p.1.written in
    h.2 (subst IsLowComponent (sym e) p.1.low)

-- the levels above one of the components, and what is told of it
pub levels_cut : (top : ℤ) (above : Option Development) (before : List RawComponent) (c : RawComponent) (after : List RawComponent) (all : Option Development) → AreLevels top above (before ++ c ∷ after) all
    → (last : Option Development) × AreLevels top above before last × ((dev : Development) × (verdict_of top last c ≡ accepted dev))
levels_cut top above [] c after all h = (above, refl, (h.0, h.1))
levels_cut top above (b ∷ bs) c after all h =
    let r = levels_cut top (Some h.0) bs c after all h.2 in
    (r.0, (h.0, h.1, r.1), r.2)

pub not_both : (dev : Development) (fault : StaticFault) → accepted dev ≡ at_fault fault → ⊥
not_both dev fault e = cc

no_level_fault : (top : ℤ) (cs : List RawComponent) (dev : Development) (number file place : ℕ) → AreLevels top None cs (Some dev) → IsLevelFault top cs number file place → ⊥
no_level_fault top cs dev number file place h f =
    let r = levels_cut top None f.before f.component f.after (Some dev) (subst (λ us. AreLevels top None us (Some dev)) f.splits h) in
    let e : r.0 ≡ f.above = same_levels top None f.before r.0 f.above r.1 f.levels in
    let v : verdict_of top f.above f.component ≡ accepted r.2.0 = subst (λ a. verdict_of top a f.component ≡ accepted r.2.0) e r.2.1 in
    not_both r.2.0 f.told.0 (sym v ∙ f.told.1)

no_fault : (top : ℤ) (kinds : List LineKind) (texts : List (List ℕ)) (dev : Development) (number file place : ℕ) → ReadsIn top kinds texts dev → IsProjectFault top kinds texts number file place → ⊥
no_fault top kinds texts dev number file place h (inl f) = none_at_fault texts number file place (has_shallow texts h.components h.chained.each) f
no_fault top kinds texts dev number file place h (inr (inl f)) = no_first (Has IsLow) _ _ texts file (zip_has IsLow texts h.components h.chained.each) (λ text p u. not_unwritten text place p u) f.2
no_fault top kinds texts dev number file place h (inr (inr (inl (n, counted, (cs, each, first))))) =
    let e : h.components ≡ cs = same_components texts h.components cs h.chained.each each in
    no_first IsChained _ _ (links None kinds cs) file (subst (λ us. All IsChained (links None kinds us)) e h.chained.right) (λ l p u. false≢true (sym u.0 ∙ p)) first
no_fault top kinds texts dev number file place h (inr (inr (inr (cs, chained, few, f)))) =
    let e : h.components ≡ cs = same_components texts h.components cs h.chained.each chained.each in
    no_level_fault top cs dev number file place (subst (λ us. AreLevels top None us (Some dev)) e h.levels) f

no_limit : (top : ℤ) (kinds : List LineKind) (texts : List (List ℕ)) (dev : Development) (number file : ℕ) → ReadsIn top kinds texts dev → IsProjectLimit kinds texts number file → ⊥
no_limit top kinds texts dev number file h (inl f) = none_past_limit texts number file (has_shallow texts h.components h.chained.each) f
no_limit top kinds texts dev number file h (inr (inl f)) = no_first (Has IsLow) _ _ texts file (zip_has IsLow texts h.components h.chained.each) not_high f.2
no_limit top kinds texts dev number file h (inr (inr (n, (cs, chained, first)))) =
    let e : h.components ≡ cs = same_components texts h.components cs h.chained.each chained.each in
    no_first DeclaresFew _ _ cs file (subst (All DeclaresFew) e h.few) (λ c p u. false≢true (sym p ∙ u)) first

pub faults_exclude : FaultsExclude
faults_exclude named texts dev (Fault number file place) h (n, e, f) = absurd (no_fault (range_of named) (kinds_of named) texts dev number n place h f)
faults_exclude named texts dev (Limit number file) h (n, e, f) = absurd (no_limit (range_of named) (kinds_of named) texts dev number n h f)
faults_exclude named texts dev Memory h f = refl
