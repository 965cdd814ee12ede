-- The ways of names by their first assignments, as they are found one after another.
use Rattle.std.proofs.Common.{◌≡◌, sym, ap, ◌∙◌, ◌+◌, ◌<◌, ℕ, suc, List, [], ◌∷◌, ◌++◌, length, map, drop, arith}
use Rattle.std.specs.Prelude.{Option, None, Some}
use Rattle.std.specs.Option.{option_map, unwrap_or}
use Rattle.std.proofs.lemmas.List.{at_drop_more}
use Rattle.bk_raw.specs.declared.term.RawName.{RawName}
use Rattle.bk_raw.specs.Trees.SubTree.{SubTree}
use Rattle.bk_raw.specs.Meaning.Names.{Names}
use Rattle.bk_statics.specs.Ways.{Way, first_way, or_no_way, assigned_ways}
use Rattle.bk_scope.specs.declared.way.Way.{Way as Made}
use Rattle.bk_scope.specs.declared.way.Way.TheVariants.{Nowhere}
use Rattle.bk_scope.specs.Shown.{way_shown}
use Rattle.bk_infer.proofs.Members.{way-pushed}

-- the next name's way
assigned-step : (names : Names) (n : ℕ) (s : SubTree) (m i : ℕ) (xs : List RawName) → i < length xs → assigned_ways names n s (m + i) (drop i xs) ≡ or_no_way (first_way names n (m + i) s) ∷ assigned_ways names n s (m + (i + 1)) (drop (i + 1) xs)
assigned-step names n s m i [] h = absurd (omega arith)
assigned-step names n s m i (x ∷ xs) h =
    let next : suc (m + i) ≡ m + (i + 1) = omega arith in
    at_drop_more (λ (ys : List RawName). assigned_ways names n s (m + i) ys) (x ∷ xs) i x h
    ∙ ap (λ (j : ℕ). or_no_way (first_way names n (m + i) s) ∷ assigned_ways names n s j (drop (i + 1) (x ∷ xs))) next

pub assigned-pushed : (names : Names) (n : ℕ) (s : SubTree) (m i j : ℕ) (xs : List RawName) (old new : List Made) (w : Made) (o : Option Made) (us : List Way) → i < length xs → j ≡ m + i → new ≡ old ++ w ∷ [] → way_shown w ≡ or_no_way (option_map way_shown o) → option_map way_shown o ≡ first_way names n j s → map way_shown old ++ assigned_ways names n s (m + i) (drop i xs) ≡ us → map way_shown new ++ assigned_ways names n s (m + (i + 1)) (drop (i + 1) xs) ≡ us
assigned-pushed names n s m i j xs old new w o us h e k shown first invariant =
    let way : way_shown w ≡ or_no_way (first_way names n (m + i) s) = shown ∙ ap or_no_way (first ∙ ap (λ (l : ℕ). first_way names n l s) e) in
    way-pushed old new w (or_no_way (first_way names n (m + i) s)) (assigned_ways names n s (m + (i + 1)) (drop (i + 1) xs)) us k way (ap (λ (ws : List Way). map way_shown old ++ ws) (sym (assigned-step names n s m i xs h)) ∙ invariant)

-- no way where there is none
pub shown-or-nowhere : (o : Option Made) (w : Made) → w ≡ unwrap_or o Nowhere → way_shown w ≡ or_no_way (option_map way_shown o)
shown-or-nowhere None w e = ap way_shown e
shown-or-nowhere (Some v) w e = ap way_shown e
