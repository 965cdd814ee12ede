-- The texts of component files are read as a development, or have a fault or limit.
use Rattle.std.specs.Prelude.{◌≡◌, ℕ, suc, ◌<◌, ℤ, Bool, true, false, List, [], ◌∷◌, ◌++◌, length, All, Option, None, Some, refl}
use Rattle.std.specs.List.{AllZip}
use Rattle.std.proofs.Common.{inl, inr, arith, ap, sym, subst, ◌∙◌}
use Rattle.std.proofs.lemmas.List.Elements.{All-head, All-tail}
use Rattle.std.proofs.lemmas.Slice.Zip.{AllZip-long}
use Rattle.bk_form.specs.declared.token.Token.{Token}
use Rattle.bk_raw.specs.Trees.ComponentTree.{RawComponent}
use Rattle.bk_raw.specs.Errors.Faults.{Fault as StaticFault, number_of_fault}
use Rattle.bk_raw.specs.Errors.Places.{byte_at}
use Rattle.bk_raw.specs.Errors.Blame.{blame}
use Rattle.bk_dev.specs.Development.{Development}
use Rattle.bk_statics.specs.Above.{above_of}
use Rattle.bk_statics.specs.Components.{component_of}
use Rattle.bk_statics.specs.DeclaredNames.{declares_too_many}
use Rattle.bk_statics.specs.Verdict.{Verdict, verdict_of, accepted, at_fault, past_limit, judged, limited, level_below, all_faults}
use Rattle.bk_sources.specs.declared.fault.FileFault.{FileFault}
use Rattle.bk_sources.specs.declared.fault.FileFault.TheVariants.{Fault as FaultOfFile, Limit as LimitOfFile, Memory as NoMemory}
use Rattle.bk_sources.specs.Files.{Has, IsShallowText, IsFaultOf as IsFileFaultOf}
use Rattle.bk_sources.specs.Laws.{IsOfFiles}
use Rattle.bk_sources.proofs.Turns.{all_middle}
use Rattle.bk_sources.proofs.Neither.{all_or_first, all_zipped}
use Rattle.bk_sources.proofs.SomeFiles.{files_are_told, the_first}
use Rattle.bk_raw.proofs.Faults.{one-holds}
use Rattle.bk_front.specs.declared.project_file.LineKind.{LineKind}
use Rattle.bk_front.specs.ProjectFile.{kinds_of, range_of}
use Rattle.bk_front.specs.declared.refusal.Refusal.{Refusal}
use Rattle.bk_front.specs.declared.refusal.Refusal.TheVariants.{Fault, Limit}
use Rattle.bk_front.specs.Chain.{Link, may_stand_below, links}
use Rattle.bk_front.specs.Project.{IsWritten, IsLow, IsChained, AreChained, DeclaresFew, AreLevels, ReadsIn, IsUnwritten, IsHigh, IsUnchained, DeclaresMany, IsRefusalIn}
use Rattle.bk_front.specs.Laws.{TextsAreRead, IsOfProject}

-- ---- one text
some_written : (text : List ℕ) (tokens : List Token) → IsShallowText text tokens → (Has IsWritten text → ⊥) → ((place : ℕ) → IsUnwritten place text → ⊥) → ⊥
some_written text tokens shallow not_written never = one-holds tokens (λ c spelled. not_written (c, record { tokens = tokens; shallow = shallow; spelled = spelled })) (λ place f. never (byte_at (length text) tokens place) (tokens, shallow, (place, f, refl)))

not_true : (b : Bool) → (b ≡ true → ⊥) → b ≡ false
not_true true h = absurd (h refl)
not_true false h = refl

not_false : (b : Bool) → (b ≡ false → ⊥) → b ≡ true
not_false true h = refl
not_false false h = absurd (h refl)

-- ---- levels
no_limit : (dev : Development) (fault : Option StaticFault) (n : ℕ) → judged dev fault ≡ past_limit n → ⊥
no_limit dev None n e = cc
no_limit dev (Some f) n e = cc

module _ (top : ℤ) where
  -- what is told of the next component below these levels
  abbrev told_below : Option Development → RawComponent → Verdict
  told_below above c = verdict_of top above c

  few_no_limit : (above : Option Development) (c : RawComponent) (n : ℕ) → DeclaresFew c → told_below above c ≡ past_limit n → ⊥
  few_no_limit above c n few e =
      let fault = blame (all_faults top (above_of above) (component_of c)) in
      let level = level_below top (above_of above) (component_of c) in
      no_limit level fault n (sym (ap (λ b. limited b (judged level fault)) few) ∙ e)

  next_level : (above : Option Development) (c : RawComponent) (v : Verdict) → told_below above c ≡ v → DeclaresFew c → ((dev : Development) → told_below above c ≡ accepted dev → ⊥) → ((f : StaticFault) → told_below above c ≡ at_fault f → ⊥) → ⊥
  next_level above c (accepted dev) e few go stop = go dev e
  next_level above c (at_fault f) e few go stop = stop f e
  next_level above c (past_limit n) e few go stop = few_no_limit above c n few e

  -- a component at fault below those above it
  record Stop (above : Option Development) (cs : List RawComponent) : Type 0 where
    before : List RawComponent
    component : RawComponent
    after : List RawComponent
    last : Option Development
    fault : StaticFault
    splits : cs ≡ before ++ component ∷ after
    levels : AreLevels top above before last
    told : told_below last component ≡ at_fault fault

  some_levels : (above : Option Development) (cs : List RawComponent) → All DeclaresFew cs → ((all : Option Development) → AreLevels top above cs all → ⊥) → (Stop above cs → ⊥) → ⊥
  some_levels above [] few all stop = all above refl
  some_levels above (c ∷ cs) few all stop = next_level above c (told_below above c) refl (All-head DeclaresFew c cs few)
      (λ dev e. some_levels (Some dev) cs (All-tail DeclaresFew c cs few) (λ last h. all last (dev, e, h)) (λ s. stop (record {
        before = c ∷ s.before;
        component = s.component;
        after = s.after;
        last = s.last;
        fault = s.fault;
        splits = ap (λ us. c ∷ us) s.splits;
        levels = (dev, e, s.levels);
        told = s.told;
      })))
      (λ f e. stop (record { before = []; component = c; after = cs; last = above; fault = f; splits = refl; levels = refl; told = e }))

-- below some levels there are some
abbrev IsSome : Option Development → Type 0
IsSome all = (dev : Development) × (all ≡ Some dev)

levels_on : (top : ℤ) (dev : Development) (cs : List RawComponent) (all : Option Development) → AreLevels top (Some dev) cs all → IsSome all
levels_on top dev [] all h = (dev, sym h)
levels_on top dev (c ∷ cs) all h = levels_on top h.0 cs all h.2

levels_some : (top : ℤ) (cs : List RawComponent) (all : Option Development) → 0 < length cs → AreLevels top None cs all → IsSome all
levels_some top [] all l h = absurd (omega (arith, l))
levels_some top (c ∷ cs) all l h = levels_on top h.0 cs all h.2

-- ---- pass by pass
module _ (top : ℤ) (kinds : List LineKind) (texts : List (List ℕ)) (counted : length kinds ≡ length texts) (some : 0 < length texts) (not_read : (dev : Development) → ReadsIn top kinds texts dev → ⊥) (no_refusal : (refusal : Refusal) → IsOfProject refusal → IsRefusalIn top kinds texts refusal → ⊥) where
  no_levels : (cs : List RawComponent) → AreChained kinds texts cs → All DeclaresFew cs → ⊥
  no_levels cs chained few = some_levels top None cs few all stop
    where
      all : (last : Option Development) → AreLevels top None cs last → ⊥
      all last h =
          let d = levels_some top cs last (omega (arith, some, AllZip-long IsLow texts cs chained.each)) h in
          not_read d.0 (record { components = cs; chained = chained; few = few; levels = subst (AreLevels top None cs) d.1 h })

      stop : Stop top None cs → ⊥
      stop s = no_refusal (Fault (number_of_fault s.fault.0) (suc (length s.before)) s.fault.1) tt (length s.before, refl, inr (inr (inr (cs, chained, few, record { before = s.before; component = s.component; after = s.after; splits = s.splits; counted = refl; above = s.last; levels = s.levels; told = (s.fault, s.told, refl) }))))

  no_names : (cs : List RawComponent) → AreChained kinds texts cs → ⊥
  no_names cs chained = all_or_first DeclaresFew cs (no_levels cs chained) (λ before c after e h n. no_refusal (Limit 5 (suc (length before))) tt (length before, refl, inr (inr (refl, (cs, chained, the_first {Bad = DeclaresMany} before c after e h (not_false (declares_too_many (component_of c)) n))))))

  no_chain : All (Has IsLow) texts → ⊥
  no_chain h = all_or_first IsChained (links None kinds z.0) (λ right. no_names z.0 (record { counted = counted; each = z.1; right = right })) unchained
    where
      z : (cs : List RawComponent) × AllZip IsLow texts cs
      z = all_zipped IsLow texts h

      unchained : (before : List Link) (l : Link) (after : List Link) → links None kinds z.0 ≡ before ++ l ∷ after → All IsChained before → (IsChained l → ⊥) → ⊥
      unchained before l after e k n = no_refusal (Fault 5 (suc (length before)) l.component.name.at) tt (length before, refl, inr (inr (inl (refl, counted, (z.0, z.1, the_first {Bad = IsUnchained l.component.name.at} before l after e k (not_true (may_stand_below l) n, refl))))))

  no_height : All (Has IsWritten) texts → ⊥
  no_height w = all_or_first (Has IsLow) texts no_chain high
    where
      high : (before : List (List ℕ)) (text : List ℕ) (after : List (List ℕ)) → texts ≡ before ++ text ∷ after → All (Has IsLow) before → (Has IsLow text → ⊥) → ⊥
      high before text after e h n =
          let p : Has IsWritten text = all_middle (Has IsWritten) before text after (subst (All (Has IsWritten)) e w) in
          no_refusal (Limit 12 (suc (length before))) tt (length before, refl, inr (inl (refl, w, the_first {Bad = IsHigh} before text after e h (p.0, p.1, λ s. n (p.0, record { written = p.1; low = s })))))

  no_writing : All (Has IsShallowText) texts → ⊥
  no_writing s = all_or_first (Has IsWritten) texts no_height unwritten
    where
      unwritten : (before : List (List ℕ)) (text : List ℕ) (after : List (List ℕ)) → texts ≡ before ++ text ∷ after → All (Has IsWritten) before → (Has IsWritten text → ⊥) → ⊥
      unwritten before text after e h n =
          let p : Has IsShallowText text = all_middle (Has IsShallowText) before text after (subst (All (Has IsShallowText)) e s) in
          some_written text p.0 p.1 n (λ place u. no_refusal (Fault 3 (suc (length before)) place) tt (length before, refl, inr (inl (refl, s, the_first {Bad = IsUnwritten place} before text after e h u))))

  of_file : (fault : FileFault) → IsOfFiles fault → IsFileFaultOf texts fault → ⊥
  of_file (FaultOfFile number file place) o h = no_refusal (Fault number (suc file) place) tt (file, refl, inl h)
  of_file (LimitOfFile number file) o h = no_refusal (Limit number (suc file)) tt (file, refl, inl h)
  of_file NoMemory o h = o

pub texts_are_read : TextsAreRead
texts_are_read named texts counted some not_read no_refusal =
    let top = range_of named in
    let kinds = kinds_of named in
    files_are_told texts (no_writing top kinds texts counted some not_read no_refusal) (of_file top kinds texts counted some not_read no_refusal)
