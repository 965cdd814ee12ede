-- Levels, one below the other.
use Rattle.std.specs.Prelude.{◌≡◌, ◌<◌, ◌+◌, ℕ, suc, ℤ, Bool, true, false, List, [], ◌∷◌, ◌++◌, length, take, drop, All, Option, None, Some, refl}
use Rattle.std.proofs.Common.{inl, inr, arith, ap, get_or, sym, subst, ◌∙◌}
use Rattle.std.proofs.lemmas.Bool.{false≢true}
use Rattle.std.proofs.lemmas.Slice.Zip.{AllZip-long}
use Rattle.bk_dev.specs.B0.{IsB0Development}
use Rattle.bk_dev.specs.Development.{Development, int_max, is_complete, is_implementing, is_implementation, level_at, last, blank_level}
use Rattle.bk_dev.specs.Facts.{IsDevelopment}
use Rattle.bk_raw.specs.declared.component.ComponentKind.{ComponentKind}
use Rattle.bk_raw.specs.declared.component.ComponentKind.TheVariants.{Machine as AsMachine, Refinement as AsRefinement, Implementation as AsImplementation}
use Rattle.bk_raw.specs.Trees.ComponentTree.{RawComponent}
use Rattle.bk_statics.specs.Above.{above_of}
use Rattle.bk_statics.specs.Components.{component_of, kind_as}
use Rattle.bk_statics.specs.Plan.{plan}
use Rattle.bk_statics.specs.LevelOf.{types_at, level_made}
use Rattle.bk_raw.specs.Errors.Blame.{blame}
use Rattle.bk_raw.specs.Errors.Faults.{Fault as FaultOf}
use Rattle.bk_statics.specs.Verdict.{Verdict, verdict_of, accepted, past_limit, judged, limited, level_below, all_faults}
use Rattle.bk_statics.specs.VerdictLaws.{MayStandAbove}
use Rattle.bk_statics.proofs.Counted.{length-join}
use Rattle.bk_statics.proofs.NewLevel.{index-last}
use Rattle.bk_statics.proofs.Verdicts.{answer-right}
use Rattle.bk_sources.proofs.Turns.{split_at, length_front, front_on}
use Rattle.bk_front.specs.declared.project_file.LineKind.{LineKind}
use Rattle.bk_front.specs.declared.project_file.LineKind.TheVariants.{Range, Machine, Refinement, Implementation, Proofs}
use Rattle.bk_front.specs.declared.refusal.Refusal.{Refusal}
use Rattle.bk_front.specs.declared.refusal.Refusal.TheVariants.{Fault, Limit, Memory}
use Rattle.bk_front.specs.Chain.{is_for}
use Rattle.bk_front.specs.ProjectFile.{IsChain}
use Rattle.bk_front.specs.Project.{DeclaresFew, AreChained, AreLevels, IsLow, IsRefusalIn}
use Rattle.bk_front.specs.Stages.{lacks_machine, IsNextRefusal}
use Rattle.bk_front.proofs.ProjectFiles.{last_of, goes_on, all_go_on, chain_goes_on, last_push, and_front, and_back}
use Rattle.bk_front.proofs.Steps.{at_kind, of_kind}

-- ---- one level
-- a development is complete where its last component is an implementation
pub complete_of : (top : ℤ) (above : Option Development) (c : RawComponent) (dev : Development) → verdict_of top above c ≡ accepted dev → is_complete dev ≡ is_implementing (kind_as c.kind)
complete_of top above c dev e =
    let higher : Development = above_of above in
    let comp = component_of c in
    let right = answer-right.right top higher comp dev e in
    let l = level_made top (types_at top higher comp (plan higher comp)) (plan higher comp) comp in
    let new : Development = level_below top higher comp in
    let long = length-join higher.levels (l ∷ []) in
    let last-so : last new ≡ length higher.levels = omega arith in
    ap is_complete right.2 ∙ ap (λ k. is_implementation (level_at new k)) last-so ∙ ap is_implementation (index-last higher.levels l blank_level)

pub implements : (kind : ComponentKind) → is_implementing (kind_as kind) ≡ true → kind ≡ AsImplementation
implements AsMachine h = absurd (false≢true h)
implements AsRefinement h = absurd (false≢true h)
implements AsImplementation h = refl

-- no limit is told of a component that declares few names
pub no_limit : (top : ℤ) (above : Option Development) (c : RawComponent) (n : ℕ) → DeclaresFew c → verdict_of top above c ≡ past_limit n → ⊥
no_limit top above c n few e =
    let higher : Development = above_of above in
    let v : Verdict = judged (level_below top higher (component_of c)) (blame (all_faults top higher (component_of c))) in
    none (level_below top higher (component_of c)) (blame (all_faults top higher (component_of c))) (ap (λ (b : Bool). limited b v) (sym few) ∙ e)
  where
    none : (dev : Development) (o : Option FaultOf) → judged dev o ≡ past_limit n → ⊥
    none dev None h = absurd cc
    none dev (Some f) h = absurd cc

-- what is accepted has the MAXINT that it was read with
pub range_kept : (top : ℤ) (above : Option Development) (c : RawComponent) (dev : Development) → verdict_of top above c ≡ accepted dev → top ≡ int_max dev
range_kept top above c dev e = sym (ap int_max (answer-right.right top (above_of above) (component_of c) dev e).2)

-- ---- what may stand above
-- whether the last line is for an implementation
abbrev pub ends : Option LineKind → Bool
ends (Some Implementation) = true
ends _ = false

abbrev pub is_lower : LineKind → Bool
is_lower Refinement = true
is_lower Implementation = true
is_lower _ = false

pub lower : (last : Option LineKind) (k : LineKind) → lacks_machine last ≡ false → goes_on last k ≡ true → (ends last ≡ false) × (is_lower k ≡ true)
lower None k s h = absurd (false≢true (sym s))
lower (Some Range) k s h = absurd (false≢true (sym s))
lower (Some Machine) Range s h = absurd (false≢true h)
lower (Some Machine) Machine s h = absurd (false≢true h)
lower (Some Machine) Refinement s h = (refl, refl)
lower (Some Machine) Implementation s h = (refl, refl)
lower (Some Machine) Proofs s h = absurd (false≢true h)
lower (Some Refinement) Range s h = absurd (false≢true h)
lower (Some Refinement) Machine s h = absurd (false≢true h)
lower (Some Refinement) Refinement s h = (refl, refl)
lower (Some Refinement) Implementation s h = (refl, refl)
lower (Some Refinement) Proofs s h = absurd (false≢true h)
lower (Some Implementation) Range s h = absurd (false≢true h)
lower (Some Implementation) Machine s h = absurd (false≢true h)
lower (Some Implementation) Refinement s h = absurd (false≢true h)
lower (Some Implementation) Implementation s h = absurd (false≢true h)
lower (Some Implementation) Proofs s h = absurd (false≢true h)
lower (Some Proofs) Range s h = absurd (false≢true h)
lower (Some Proofs) Machine s h = absurd (false≢true h)
lower (Some Proofs) Refinement s h = absurd (false≢true h)
lower (Some Proofs) Implementation s h = absurd (false≢true h)
lower (Some Proofs) Proofs s h = absurd (false≢true h)

pub stands_first : (k : LineKind) (kind : ComponentKind) → goes_on None k ≡ true → is_for k kind ≡ true → MayStandAbove kind None
stands_first Range kind h f = absurd (false≢true f)
stands_first Machine AsMachine h f = tt
stands_first Machine AsRefinement h f = absurd (false≢true f)
stands_first Machine AsImplementation h f = absurd (false≢true f)
stands_first Refinement kind h f = absurd (false≢true h)
stands_first Implementation kind h f = absurd (false≢true h)
stands_first Proofs kind h f = absurd (false≢true h)

pub stands_lower : (k : LineKind) (kind : ComponentKind) (dev : Development) → is_lower k ≡ true → is_for k kind ≡ true → IsDevelopment dev → is_complete dev ≡ false → MayStandAbove kind (Some dev)
stands_lower Range kind dev h f d e = absurd (false≢true h)
stands_lower Machine kind dev h f d e = absurd (false≢true h)
stands_lower Refinement AsMachine dev h f d e = absurd (false≢true f)
stands_lower Refinement AsRefinement dev h f d e = (d, e)
stands_lower Refinement AsImplementation dev h f d e = absurd (false≢true f)
stands_lower Implementation AsMachine dev h f d e = absurd (false≢true f)
stands_lower Implementation AsRefinement dev h f d e = absurd (false≢true f)
stands_lower Implementation AsImplementation dev h f d e = (d, e)
stands_lower Proofs kind dev h f d e = absurd (false≢true h)

pub ends_with : (k : LineKind) (kind : ComponentKind) → is_for k kind ≡ true → is_implementing (kind_as kind) ≡ ends (Some k)
ends_with Range kind f = absurd (false≢true f)
ends_with Machine AsMachine f = refl
ends_with Machine AsRefinement f = refl
ends_with Machine AsImplementation f = absurd (false≢true f)
ends_with Refinement AsMachine f = refl
ends_with Refinement AsRefinement f = refl
ends_with Refinement AsImplementation f = absurd (false≢true f)
ends_with Implementation AsMachine f = absurd (false≢true f)
ends_with Implementation AsRefinement f = absurd (false≢true f)
ends_with Implementation AsImplementation f = refl
ends_with Proofs kind f = absurd (false≢true f)

-- a line for a component says no range
pub names_some : (k : LineKind) (kind : ComponentKind) → is_for k kind ≡ true → lacks_machine (Some k) ≡ false
names_some Range kind f = absurd (false≢true f)
names_some Machine kind f = refl
names_some Refinement kind f = refl
names_some Implementation kind f = refl
names_some Proofs kind f = refl

-- ---- where a component stands
-- there are as many components as kinds
pub counted_components : (kinds : List LineKind) (texts : List (List ℕ)) (cs : List RawComponent) → AreChained kinds texts cs → length kinds ≡ length cs
counted_components kinds texts cs h = h.counted ∙ sym (AllZip-long IsLow texts cs h.each)

go_on_at : (last : Option LineKind) (ks : List LineKind) (k : LineKind) (js : List LineKind) → all_go_on last (ks ++ k ∷ js) ≡ true → goes_on (last_of last ks) k ≡ true
go_on_at last [] k js h = and_front (goes_on last k) (all_go_on (Some k) js) h
go_on_at last (j ∷ ks) k js h = go_on_at (Some j) ks k js (and_back (goes_on last j) (all_go_on (Some j) (ks ++ k ∷ js)) h)

kind_goes_on : (kinds : List LineKind) (i : ℕ) (k : LineKind) → IsChain kinds → i < length kinds → k ≡ get_or kinds i k → goes_on (last_of None (take i kinds)) k ≡ true
kind_goes_on kinds i k h l e = go_on_at None (take i kinds) k (drop (suc i) kinds) (ap (all_go_on None) (sym (split_at kinds i k l e)) ∙ chain_goes_on kinds h)

pub chain_starts : (kinds : List LineKind) → IsChain kinds → 0 < length kinds
chain_starts kinds (n, inl e) = omega (arith, ap length e)
chain_starts kinds (n, inr e) = omega (arith, ap length e)

pub some_component : (kinds : List LineKind) (texts : List (List ℕ)) (cs : List RawComponent) → IsChain kinds → AreChained kinds texts cs → 0 < length cs
some_component kinds texts cs h chained = omega (arith, chain_starts kinds h, counted_components kinds texts cs chained)

-- a line for a component, and the component is for it
record Line (kinds : List LineKind) (i : ℕ) (c : RawComponent) : Type 0 where
  kind : LineKind
  is : kind ≡ get_or kinds i kind
  inside : i < length kinds
  fits : is_for kind c.kind ≡ true
  follows : goes_on (last_of None (take i kinds)) kind ≡ true

line_of : (kinds : List LineKind) (texts : List (List ℕ)) (cs : List RawComponent) (i : ℕ) (c : RawComponent) → IsChain kinds → AreChained kinds texts cs → i < length cs → c ≡ get_or cs i c → Line kinds i c
line_of kinds texts cs i c chain h l e =
    let counted = counted_components kinds texts cs h in
    let inside : i < length kinds = omega (arith, l, counted) in
    let kind : LineKind = get_or kinds i Machine in
    let is = at_kind kinds i Machine inside in
    record { kind = kind; is = is; inside = inside; fits = of_kind kinds cs i kind c counted l is e h.right; follows = kind_goes_on kinds i kind chain inside is }

-- ---- levels so far
pub record LevelsSoFar (top : ℤ) (kinds : List LineKind) (cs : List RawComponent) (n : ℕ) (dev : Development) : Type 0 where
  pub levels : AreLevels top None (take n cs) (Some dev)
  pub range : top ≡ int_max dev
  pub development : IsDevelopment dev
  pub complete : is_complete dev ≡ ends (last_of None (take n kinds))
  pub some : lacks_machine (last_of None (take n kinds)) ≡ false
  pub executable : is_complete dev ≡ true → IsB0Development dev

levels_push : (top : ℤ) (above : Option Development) (cs : List RawComponent) (last : Option Development) (c : RawComponent) (dev : Development) → AreLevels top above cs last → verdict_of top last c ≡ accepted dev → AreLevels top above (cs ++ c ∷ []) (Some dev)
levels_push top above [] last c dev h v = (dev, subst (λ a. verdict_of top a c ≡ accepted dev) (sym h) v, refl)
levels_push top above (d ∷ cs) last c dev h v = (h.0, h.1, levels_push top (Some h.0) cs last c dev h.2 v)

pub level_on : (top : ℤ) (kinds : List LineKind) (texts : List (List ℕ)) (cs : List RawComponent) (i : ℕ) (c : RawComponent) (above : Option Development) (dev : Development) → IsChain kinds → AreChained kinds texts cs → i < length cs → c ≡ get_or cs i c → AreLevels top None (take i cs) above
    → verdict_of top above c ≡ accepted dev → IsDevelopment dev → is_complete dev ≡ is_implementing (kind_as c.kind) → (is_complete dev ≡ true → IsB0Development dev) → LevelsSoFar top kinds cs (i + 1) dev
level_on top kinds texts cs i c above dev chain h l e levels told d complete executable =
    let line = line_of kinds texts cs i c chain h l e in
    let last : last_of None (take (i + 1) kinds) ≡ Some line.kind = ap (last_of None) (front_on kinds i line.kind line.inside line.is) ∙ last_push None (take i kinds) line.kind in
    record {
      levels = subst (λ us. AreLevels top None us (Some dev)) (sym (front_on cs i c l e)) (levels_push top None (take i cs) above c dev levels told);
      range = range_kept top above c dev told;
      development = d;
      complete = complete ∙ ends_with line.kind c.kind line.fits ∙ ap ends (sym last);
      some = ap lacks_machine last ∙ names_some line.kind c.kind line.fits;
      executable = executable;
    }

pub first_stands : (kinds : List LineKind) (texts : List (List ℕ)) (cs : List RawComponent) (c : RawComponent) → IsChain kinds → AreChained kinds texts cs → c ≡ get_or cs 0 c → MayStandAbove c.kind None
first_stands kinds texts cs c chain h e =
    let line = line_of kinds texts cs 0 c chain h (some_component kinds texts cs chain h) e in
    stands_first line.kind c.kind line.follows line.fits

pub next_stands : (top : ℤ) (kinds : List LineKind) (texts : List (List ℕ)) (cs : List RawComponent) (i : ℕ) (c : RawComponent) (dev : Development) → IsChain kinds → AreChained kinds texts cs → i < length cs → c ≡ get_or cs i c → LevelsSoFar top kinds cs i dev → MayStandAbove c.kind (Some dev)
next_stands top kinds texts cs i c dev chain h l e so =
    let line = line_of kinds texts cs i c chain h l e in
    let both = lower (last_of None (take i kinds)) line.kind so.some line.follows in
    stands_lower line.kind c.kind dev both.1 line.fits so.development (so.complete ∙ both.0)

-- what is told of the next level is told of the project
pub level_refused : (top : ℤ) (kinds : List LineKind) (texts : List (List ℕ)) (cs : List RawComponent) (i : ℕ) (c : RawComponent) (above : Option Development) (refusal : Refusal) → AreChained kinds texts cs → All DeclaresFew cs → i < length cs → c ≡ get_or cs i c → AreLevels top None (take i cs) above → IsNextRefusal top above c i refusal → IsRefusalIn top kinds texts refusal
level_refused top kinds texts cs i c above (Fault number told place) chained few l e levels h =
    (i, h.0, inr (inr (inr (cs, chained, few, record { before = take i cs; component = c; after = drop (suc i) cs; splits = split_at cs i c l e; counted = length_front cs i l; above = above; levels = levels; told = h.1 }))))
level_refused top kinds texts cs i c above (Limit number told) chained few l e levels h = absurd h
level_refused top kinds texts cs i c above Memory chained few l e levels h = tt
