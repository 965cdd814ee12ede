-- How many copies flattening makes, level by level, and whether 32 bits number them.
use Rattle.std.proofs.Common.{◌≡◌, ℕ, suc, ◌+◌, ◌<◌, ◌≤◌, List, [], ◌∷◌, ◌++◌, length, get_or, drop, refl, sym, ◌∙◌, ap, subst, append_assoc, length-append, arith, ◌^◌}
use Rattle.std.specs.Prelude.{Option, None, Some, ℤ}
use Rattle.std.specs.List.{slice_get, filter_map, cons_option}
use Rattle.std.proofs.lemmas.List.{drop_more, length-map}
use Rattle.bk_form.specs.Table.{VariableEntry}
use Rattle.bk_dev.specs.Development.{Body, Level, Development}
use Rattle.bk_gsl.specs.Flat.{copied}
use Rattle.bk_dev.specs.Flattened.{copied_in_bodies, copied_in_level, copied_in_levels}
use Rattle.bk_statics.specs.VerdictLaws.{HasRoom}
use Rattle.bk_elab.specs.Answered.{variables_added, development_below}
use Rattle.bk_elab.specs.declared.levels.Added.{Added}

-- those of the next level, and of the rest
pub levels-step : (ls : List Level) (i : ℕ) (d : Level) → i < length ls → length (copied_in_levels (drop i ls)) ≡ length (copied_in_level (get_or ls i d)) + length (copied_in_levels (drop (i + 1) ls))
levels-step ls i d h = ap (λ (ks : List Level). length (copied_in_levels ks)) (drop_more ls i d h) ∙ length-append (copied_in_level (get_or ls i d)) (copied_in_levels (drop (i + 1) ls))

-- those of the next body
pub bodies-step : (bs : List Body) (i : ℕ) (d : Body) → i < length bs → length (copied_in_bodies (drop i bs)) ≡ length (copied (get_or bs i d).sub) + length (copied_in_bodies (drop (i + 1) bs))
bodies-step bs i d h = ap (λ (cs : List Body). length (copied_in_bodies cs)) (drop_more bs i d h) ∙ length-append (copied (get_or bs i d).sub) (copied_in_bodies (drop (i + 1) bs))

-- those of a level
pub level-copies : (l : Level) → length (copied_in_level l) ≡ length (copied l.init) + length (copied_in_bodies l.bodies)
level-copies l = length-append (copied l.init) (copied_in_bodies l.bodies)

pub ruleset steps = (levels-step, bodies-step, level-copies)

-- of levels and others behind them
pub levels-joined : (ks ls : List Level) → copied_in_levels (ks ++ ls) ≡ copied_in_levels ks ++ copied_in_levels ls
levels-joined [] ls = refl
levels-joined (k ∷ ks) ls = ap (λ (ns : List ℕ). copied_in_level k ++ ns) (levels-joined ks ls) ∙ sym (append_assoc (copied_in_level k) (copied_in_levels ks) (copied_in_levels ls))

-- what is left of a list has no more items
cons-few : {Y : Type 0} (o : Option Y) (ys : List Y) (n : ℕ) → length ys ≤ n → length (cons_option o ys) ≤ suc n
cons-few None ys n h = omega arith
cons-few (Some y) ys n h = omega arith

pub fewer : {X Y : Type 0} (f : X → Option Y) (xs : List X) → length (filter_map f xs) ≤ length xs
fewer f [] = omega arith
fewer f (x ∷ xs) = cons-few (f x) (filter_map f xs) (length xs) (fewer f xs)

-- what was counted is room: so many sets, so many variables, and the copies of the levels above and of the new one
few-entries : (vs ws : List VariableEntry) (xs ys : List ℕ) (v n m : ℕ) → v ≡ length vs + length ws → n ≡ v + length xs → m ≡ n + length ys → m < 2 ^ 32 → length ((vs ++ ws) ++ filter_map (slice_get (vs ++ ws)) (xs ++ ys)) < 2 ^ 32
few-entries vs ws xs ys v n m e f g b =
    let all : length ((vs ++ ws) ++ filter_map (slice_get (vs ++ ws)) (xs ++ ys)) ≡ length (vs ++ ws) + length (filter_map (slice_get (vs ++ ws)) (xs ++ ys)) = length-append (vs ++ ws) (filter_map (slice_get (vs ++ ws)) (xs ++ ys)) in
    let entries : length (vs ++ ws) ≡ length vs + length ws = length-append vs ws in
    let copies : length (xs ++ ys) ≡ length xs + length ys = length-append xs ys in
    let few : length (filter_map (slice_get (vs ++ ws)) (xs ++ ys)) ≤ length (xs ++ ys) = fewer (slice_get (vs ++ ws)) (xs ++ ys) in
    omega (arith, all, entries, copies, few, e, f, g, b)

pub room-counted : (top : ℤ) (dev : Development) (a : Added) (s r v n m k : ℕ) → s ≡ 0 + length dev.table.sets → r ≡ s + length a.sets.items → r < 2 ^ 32 → v ≡ 0 + length dev.table.variables → n ≡ v + length a.variables.items →
    m ≡ n + length (copied_in_levels dev.levels) → k ≡ m + length (copied_in_levels a.own.items) → k < 2 ^ 32 → HasRoom (development_below top dev a)
room-counted top dev a s r v n m k e f b g h l o c = record {
  sets =
      let all : length (dev.table.sets ++ a.sets.items) ≡ length dev.table.sets + length a.sets.items = length-append dev.table.sets a.sets.items in
      omega (arith, all, e, f, b);
  variables =
      let added : length (variables_added a.variables.items) ≡ length a.variables.items = length-map a.variables.items (λ v. record { text = v.0; of_type = v.1 }) in
      let many : n ≡ length dev.table.variables + length (variables_added a.variables.items) = omega (arith, added, g, h) in
      subst (λ (xs : List ℕ). length ((dev.table.variables ++ variables_added a.variables.items) ++ filter_map (slice_get (dev.table.variables ++ variables_added a.variables.items)) xs) < 2 ^ 32) (sym (levels-joined dev.levels a.own.items))
      (few-entries dev.table.variables (variables_added a.variables.items) (copied_in_levels dev.levels) (copied_in_levels a.own.items) n m k many l o c);
}
