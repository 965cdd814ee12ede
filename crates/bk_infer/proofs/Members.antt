-- The ways of a group's members, one after another.
use Rattle.std.proofs.Common.{◌≡◌, refl, sym, ap, ◌∙◌, ◌+◌, ◌<◌, ◌≤◌, ℕ, suc, List, [], ◌∷◌, ◌++◌, length, map, drop, arith}
use Rattle.std.specs.Prelude.{Option, None, Some}
use Rattle.std.specs.Borrow.{Bor}
use Rattle.std.proofs.lemmas.List.{append_assoc, append-nil, map-append, length-map, at_drop_more}
use Rattle.std.proofs.Math.ListN.{drop_of_length-le}
use Rattle.bk_raw.specs.declared.term.RawName.{RawName}
use Rattle.bk_raw.specs.Trees.RawTree.{RawTree}
use Rattle.bk_raw.specs.Meaning.Names.{Names}
use Rattle.bk_statics.specs.Plan.{Declared}
use Rattle.bk_statics.specs.LevelOf.{way_for, next_place, variable_ways}
use Rattle.bk_statics.specs.Ways.{Way, no_way, by_conjuncts, no_ways, conjunct_ways, ways_by}
use Rattle.bk_scope.specs.declared.way.Group.{Group}
use Rattle.bk_scope.specs.declared.way.Way.{Way as Made}
use Rattle.bk_scope.specs.declared.plan.Declared.{Declared as MadeVariable}
use Rattle.bk_scope.specs.Shown.{refs, way_shown, declared_shown, group_way, member_shown, variable_way_shown, IsGroup, IsGroupOf}

-- of the names from the i-th on
abbrev pub members : Option Group → ℕ → List RawName → List Way
members g i [] = []
members g i (x ∷ xs) = member_shown g i ∷ members g (suc i) xs

-- of variables, before which there are so many new ones
abbrev pub variable_members : Option Group → ℕ → List Declared → List Way
variable_members g i [] = []
variable_members g i (d ∷ ds) = variable_way_shown g i d.higher ∷ variable_members g (next_place i d.higher) ds

-- a member's way
member-by : (g : Group) (names : Names) (p : RawTree) (xs : List RawName) (i : ℕ) → IsGroup g names p xs → group_way g i ≡ by_conjuncts names xs i p
member-by g names p xs i h =
    ap (λ (ns : Names). by_conjuncts ns (refs g.names.items) i g.predicate.now) h.around
    ∙ ap (λ (ys : List RawName). by_conjuncts names ys i g.predicate.now) h.names ∙ ap (λ (q : RawTree). by_conjuncts names xs i q) h.predicate

members-none : (i : ℕ) (xs : List RawName) → members None i xs ≡ no_ways xs
members-none i [] = refl
members-none i (x ∷ xs) = ap (λ (ws : List Way). no_way ∷ ws) (members-none (suc i) xs)

members-some : (g : Group) (names : Names) (p : RawTree) (xs : List RawName) → IsGroup g names p xs → (i : ℕ) (ys : List RawName) → members (Some g) i ys ≡ conjunct_ways names xs p i ys
members-some g names p xs h i [] = refl
members-some g names p xs h i (y ∷ ys) =
    ap (λ (w : Way). w ∷ members (Some g) (suc i) ys) (member-by g names p xs i h) ∙ ap (λ (ws : List Way). by_conjuncts names xs i p ∷ ws) (members-some g names p xs h (suc i) ys)

-- they are the ways by the predicate
pub members-by : (g : Option Group) (names : Names) (p : Option RawTree) (xs : List RawName) → IsGroupOf g names p xs → members g 0 xs ≡ ways_by names p xs
members-by None names None xs h = members-none 0 xs
members-by None names (Some p) xs h = absurd h
members-by (Some g) names None xs h = absurd h
members-by (Some g) names (Some p) xs h = members-some g names p xs h 0 xs

variable-by : (g : Option Group) (names : Names) (p : Option RawTree) (xs : List RawName) (i : ℕ) (higher : Option ℕ) → IsGroupOf g names p xs → variable_way_shown g i higher ≡ way_for names p xs i higher
variable-by g names p xs i (Some m) h = refl
variable-by None names None xs i None h = refl
variable-by None names (Some p) xs i None h = absurd h
variable-by (Some g) names None xs i None h = absurd h
variable-by (Some g) names (Some p) xs i None h = member-by g names p xs i h

-- and those of variables
pub variables-by : (g : Option Group) (names : Names) (p : Option RawTree) (xs : List RawName) → IsGroupOf g names p xs → (i : ℕ) (ds : List Declared) → variable_members g i ds ≡ variable_ways names p xs i ds
variables-by g names p xs h i [] = refl
variables-by g names p xs h i (d ∷ ds) =
    ap (λ (w : Way). w ∷ variable_members g (next_place i d.higher) ds) (variable-by g names p xs i d.higher h)
    ∙ ap (λ (ws : List Way). way_for names p xs i d.higher ∷ ws) (variables-by g names p xs h (next_place i d.higher) ds)

-- ---- as they are found
-- a way goes behind others
pub way-pushed : (old new : List Made) (w : Made) (m : Way) (rest us : List Way) → new ≡ old ++ w ∷ [] → way_shown w ≡ m → map way_shown old ++ (m ∷ rest) ≡ us → map way_shown new ++ rest ≡ us
way-pushed old new w m rest us e k h =
    ap (λ (ws : List Made). map way_shown ws ++ rest) e
    ∙ ap (λ (ws : List Way). ws ++ rest) (map-append way_shown old (w ∷ []))
    ∙ append_assoc (map way_shown old) (way_shown w ∷ []) rest
    ∙ ap (λ (v : Way). map way_shown old ++ (v ∷ rest)) k ∙ h

members-step : (g : Option Group) (i : ℕ) (xs : List RawName) → i < length xs → members g i (drop i xs) ≡ member_shown g i ∷ members g (i + 1) (drop (i + 1) xs)
members-step g i [] h = absurd (omega arith)
members-step g i (x ∷ xs) h =
    let next : suc i ≡ i + 1 = omega arith in
    at_drop_more (λ (ys : List RawName). members g i ys) (x ∷ xs) i x h ∙ ap (λ (j : ℕ). member_shown g i ∷ members g j (drop (i + 1) (x ∷ xs))) next

pub member-pushed : (g : Option Group) (xs : List (Bor RawName)) (i : ℕ) (old new : List Made) (w : Made) (us : List Way) → i < length xs → new ≡ old ++ w ∷ [] → way_shown w ≡ member_shown g i → map way_shown old ++ members g i (drop i (refs xs)) ≡ us → map way_shown new ++ members g (i + 1) (drop (i + 1) (refs xs)) ≡ us
member-pushed g xs i old new w us h e k invariant =
    let all : length (refs xs) ≡ length xs = length-map xs (λ x. x.now) in
    way-pushed old new w (member_shown g i) (members g (i + 1) (drop (i + 1) (refs xs))) us e k (ap (λ (ws : List Way). map way_shown old ++ ws) (sym (members-step g i (refs xs) (omega arith))) ∙ invariant)

-- at the end there are none
pub members-end : (g : Option Group) (xs : List (Bor RawName)) (i : ℕ) (old us : List Way) → length xs ≤ i → old ++ members g i (drop i (refs xs)) ≡ us → old ≡ us
members-end g xs i old us h invariant =
    let all : length (refs xs) ≡ length xs = length-map xs (λ x. x.now) in
    sym (append-nil old) ∙ ap (λ (ys : List RawName). old ++ members g i ys) (sym (drop_of_length-le (refs xs) (omega arith))) ∙ invariant

pub variables-end : (g : Option Group) (ds : List MadeVariable) (i j : ℕ) (old us : List Way) → length ds ≤ j → old ++ variable_members g i (map declared_shown (drop j ds)) ≡ us → old ≡ us
variables-end g ds i j old us h invariant =
    sym (append-nil old) ∙ ap (λ (es : List MadeVariable). old ++ variable_members g i (map declared_shown es)) (sym (drop_of_length-le ds h)) ∙ invariant
