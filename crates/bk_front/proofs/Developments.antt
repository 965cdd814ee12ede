-- What texts are read as is a development, and one in B0 where it ends in an implementation, as long as 32 bits number its variables
-- with all copies.
use Rattle.std.specs.Prelude.{◌≡◌, ◌≤◌, ◌<◌, ◌^◌, ℕ, zero, suc, ℤ, true, false, List, [], ◌∷◌, ◌++◌, length, All, Option, None, Some, slice_get, refl}
use Rattle.std.specs.List.{AllZip, filter_map, cons_option}
use Rattle.std.proofs.Common.{inr, arith, sym, subst, ◌∙◌, length-append}
use Rattle.std.proofs.lemmas.List.Elements.{All-head, All-tail}
use Rattle.bk_form.specs.Table.{VariableEntry}
use Rattle.bk_dev.specs.B0.{IsB0Development}
use Rattle.bk_dev.specs.Development.{Level, Development, int_max, IsRange, is_complete}
use Rattle.bk_dev.specs.Facts.{IsDevelopment}
use Rattle.bk_dev.specs.Flattened.{copied_in_levels, flattened}
use Rattle.bk_raw.specs.declared.component.ComponentKind.{ComponentKind}
use Rattle.bk_raw.specs.Trees.ComponentTree.{RawComponent}
use Rattle.bk_raw.specs.Errors.Limits.{IsLowComponent}
use Rattle.bk_statics.specs.Components.{Component, component_of}
use Rattle.bk_statics.specs.Plan.{plan, entries_of}
use Rattle.bk_statics.specs.LevelOf.{types_at, entries_from, new_texts, level_made}
use Rattle.bk_statics.specs.Verdict.{verdict_of, accepted, level_below}
use Rattle.bk_statics.specs.VerdictLaws.{MayStandAbove, IsRangeBelow, HasRoom}
use Rattle.bk_statics.proofs.Verdicts.{answer-right}
use Rattle.bk_statics.proofs.Developments.{always-development}
use Rattle.bk_statics.proofs.B0Levels.{always-b0}
use Rattle.bk_elab.proofs.Rooms.{levels-joined}
use Rattle.bk_front.specs.declared.project_file.LineKind.{LineKind}
use Rattle.bk_front.specs.Chain.{Link, links, is_for, names_above}
use Rattle.bk_front.specs.declared.project_file.ProjectLine.{ProjectLine}
use Rattle.bk_front.specs.ProjectFile.{AreLines, IsChain, kinds_of, range_of}
use Rattle.bk_front.specs.Stages.{lacks_machine}
use Rattle.bk_front.specs.Project.{IsLow, IsChained, AreLevels, ReadsIn}
use Rattle.bk_front.specs.Laws.{ReadAreDevelopments, ReadAreExecutable}
use Rattle.bk_front.proofs.ProjectFiles.{goes_on, all_go_on, chain_goes_on, and_front, and_back, kinds_chain, range_right}
use Rattle.bk_front.proofs.Levels.{complete_of, range_kept, implements, ends, lower, stands_first, stands_lower, ends_with, names_some, counted_components}

-- ---- room above
-- an entry stands in a longer table too
entry_stays : (vs ws : List VariableEntry) (n : ℕ) (v : VariableEntry) → slice_get vs n ≡ Some v → slice_get (vs ++ ws) n ≡ Some v
entry_stays [] ws n v e = absurd (cc)
entry_stays (x ∷ vs) ws zero v e = e
entry_stays (x ∷ vs) ws (suc n) v e = entry_stays vs ws n v e

one_more : (o p : Option VariableEntry) (xs ys : List VariableEntry) → ((v : VariableEntry) → o ≡ Some v → p ≡ Some v) → length xs ≤ length ys → length (cons_option o xs) ≤ length (cons_option p ys)
one_more None None xs ys h l = l
one_more None (Some w) xs ys h l = omega (arith, l)
one_more (Some v) p xs ys h l = subst (λ (q : Option VariableEntry). length (cons_option (Some v) xs) ≤ length (cons_option q ys)) (sym (h v refl)) (omega (arith, l))

copies_stay : (vs ws : List VariableEntry) (ns : List ℕ) → length (filter_map (slice_get vs) ns) ≤ length (filter_map (slice_get (vs ++ ws)) ns)
copies_stay vs ws [] = omega arith
copies_stay vs ws (n ∷ ns) = one_more (slice_get vs n) (slice_get (vs ++ ws) n) (filter_map (slice_get vs) ns) (filter_map (slice_get (vs ++ ws)) ns) (entry_stays vs ws n) (copies_stay vs ws ns)

front_stays : (f : ℕ → Option VariableEntry) (ms ns : List ℕ) → length (filter_map f ms) ≤ length (filter_map f (ms ++ ns))
front_stays f [] ns = omega arith
front_stays f (m ∷ ms) ns = one_more (f m) (f m) (filter_map f ms) (filter_map f (ms ++ ns)) (λ v e. e) (front_stays f ms ns)

more_entries : (vs ws : List VariableEntry) (ms ns : List ℕ) → length (vs ++ filter_map (slice_get vs) ms) ≤ length ((vs ++ ws) ++ filter_map (slice_get (vs ++ ws)) (ms ++ ns))
more_entries vs ws ms ns =
    omega (
      arith,
      length-append vs (filter_map (slice_get vs) ms),
      length-append (vs ++ ws) (filter_map (slice_get (vs ++ ws)) (ms ++ ns)),
      length-append vs ws,
      copies_stay vs ws ms,
      front_stays (slice_get (vs ++ ws)) ms ns,
    )

-- where there is room for a level there is for those above it
room_above : (max : ℤ) (dev : Development) (c : Component) → HasRoom (level_below max dev c) → HasRoom dev
room_above max dev c room =
    let p = plan dev c in
    let vs = dev.table.variables in
    let ws = entries_from (types_at max dev c p) p.constants_at (new_texts p c) in
    let new : List Level = level_made max (types_at max dev c p) p c ∷ [] in
    let few : length (dev.table.sets ++ entries_of c.sets) ≤ 2 ^ 32 = room.sets in
    let all : length (flattened (level_below max dev c)).table.variables < 2 ^ 32 = room.variables in
    record {
      sets = omega (arith, few, length-append dev.table.sets (entries_of c.sets));
      variables =
          let fewer : length (flattened dev).table.variables ≤ length (flattened (level_below max dev c)).table.variables =
          subst (λ (ns : List ℕ). length (vs ++ filter_map (slice_get vs) (copied_in_levels dev.levels)) ≤ length ((vs ++ ws) ++ filter_map (slice_get (vs ++ ws)) ns)) (sym (levels-joined dev.levels new)) (more_entries vs ws (copied_in_levels dev.levels) (copied_in_levels new)) in
          omega (arith, fewer, all);
    }

room_back : (top : ℤ) (dev : Development) (cs : List RawComponent) (all : Development) → AreLevels top (Some dev) cs (Some all) → HasRoom all → HasRoom dev
room_back top dev [] all h room = subst HasRoom (sym (same_some dev all h)) room
  where
    same_some : (a b : Development) → Some a ≡ Some b → a ≡ b
    same_some a b e = cc
room_back top dev (c ∷ cs) all h room =
    let right = answer-right.right top dev (component_of c) h.0 h.1 in
    room_above top dev (component_of c) (subst HasRoom right.2 (room_back top h.0 cs all h.2 room))

-- ---- level by level
-- what is known of levels of which the last is for a line of this kind
record IsRead (top : ℤ) (k : LineKind) (dev : Development) : Type 0 where
  development : IsDevelopment dev
  range : top ≡ int_max dev
  named : lacks_machine (Some k) ≡ false
  complete : is_complete dev ≡ ends (Some k)
  executable : is_complete dev ≡ true → IsB0Development dev

abbrev Stands : ℤ → Option LineKind → Option Development → Type 0
Stands top None None = IsRange top
Stands top (Some k) (Some dev) = IsRead top k dev
Stands top _ _ = ⊥

may_stand : (top : ℤ) (last : Option LineKind) (above : Option Development) (k : LineKind) (kind : ComponentKind) → Stands top last above → goes_on last k ≡ true → is_for k kind ≡ true → MayStandAbove kind above
may_stand top None None k kind s g f = stands_first k kind g f
may_stand top None (Some dev) k kind s g f = absurd s
may_stand top (Some j) None k kind s g f = absurd s
may_stand top (Some j) (Some dev) k kind s g f =
    let both = lower (Some j) k s.named g in
    stands_lower k kind dev both.1 f s.development (s.complete ∙ both.0)

has_range : (top : ℤ) (last : Option LineKind) (above : Option Development) → Stands top last above → IsRangeBelow top above
has_range top None None s = s
has_range top None (Some dev) s = absurd s
has_range top (Some j) None s = absurd s
has_range top (Some j) (Some dev) s = s.range

next_read : (top : ℤ) (last : Option LineKind) (above : Option Development) (k : LineKind) (c : RawComponent) (dev : Development) → Stands top last above → goes_on last k ≡ true → is_for k c.kind ≡ true → IsLowComponent c → verdict_of top above c ≡ accepted dev → HasRoom dev → IsRead top k dev
next_read top last above k c dev s g f low e room =
    let may = may_stand top last above k c.kind s g f in
    let range = has_range top last above s in
    record {
      development = always-development top above c dev may range e room;
      range = range_kept top above c dev e;
      named = names_some k c.kind f;
      complete = complete_of top above c dev e ∙ ends_with k c.kind f;
      executable = λ complete. always-b0 top above c dev may range (implements c.kind (sym (complete_of top above c dev e) ∙ complete)) low e;
    }

levels_read : (top : ℤ) (ks : List LineKind) (cs : List RawComponent) (texts : List (List ℕ)) (last : Option LineKind) (above : Option Development) (prev : Option RawComponent) (all : Development) → all_go_on last ks ≡ true → All IsChained (links prev ks cs) → AllZip IsLow texts cs → length ks ≡ length cs
    → Stands top last above → AreLevels top above cs (Some all) → HasRoom all → (k : LineKind) × IsRead top k all
levels_read top ks [] texts last above prev all g r z n s l room = by last (subst (Stands top last) l s)
  where
    by : (o : Option LineKind) → Stands top o (Some all) → (k : LineKind) × IsRead top k all
    by None h = absurd h
    by (Some k) h = (k, h)
levels_read top [] (c ∷ cs) texts last above prev all g r z n s l room = absurd (omega (arith, n))
levels_read top (k ∷ ks) (c ∷ cs) [] last above prev all g r z n s l room = elim z [ ]
levels_read top (k ∷ ks) (c ∷ cs) (t ∷ ts) last above prev all g r z n s l room =
    let dev : Development = l.0 in
    let link : Link = record { above = prev; kind = k; component = c } in
    let fits = and_front (is_for k c.kind) (names_above prev c.refines) (All-head IsChained link (links (Some c) ks cs) r) in
    let read = next_read top last above k c dev s (and_front (goes_on last k) (all_go_on (Some k) ks) g) fits z.0.low l.1 (room_back top dev cs all l.2 room) in
    levels_read top ks cs ts (Some k) (Some dev) (Some c) all (and_back (goes_on last k) (all_go_on (Some k) ks) g) (All-tail IsChained link (links (Some c) ks cs) r) z.1 (omega (arith, n)) read l.2 room

-- ---- what is read
module _ (top : ℤ) (kinds : List LineKind) (texts : List (List ℕ)) (dev : Development) (range : IsRange top) (chain : IsChain kinds) (h : ReadsIn top kinds texts dev) (room : HasRoom dev) where
  whole : (k : LineKind) × IsRead top k dev
  whole = levels_read top kinds h.components texts None None None dev (chain_goes_on kinds chain) h.chained.right h.chained.each (counted_components kinds texts h.components h.chained) range h.levels room

-- of a project with these lines
read_whole : (named : List ProjectLine) (texts : List (List ℕ)) (dev : Development) → AreLines named → ReadsIn (range_of named) (kinds_of named) texts dev → HasRoom dev → (k : LineKind) × IsRead (range_of named) k dev
read_whole named texts dev are h room = whole (range_of named) (kinds_of named) texts dev (range_right named are.names) (kinds_chain named are) h room

pub read_are_developments : ReadAreDevelopments
read_are_developments named texts dev are h room = (read_whole named texts dev are h room).1.development

pub read_are_executable : ReadAreExecutable
read_are_executable named texts dev are h room complete = (read_whole named texts dev are h room).1.executable complete
