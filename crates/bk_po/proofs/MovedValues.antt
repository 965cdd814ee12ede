-- Where the constants' values meet the properties of the flattened development, they meet those of the development: its formulas name no copy.
use Rattle.std.proofs.Common.{◌≡◌, ℕ, zero, suc, ◌+◌, List, [], ◌∷◌, ◌++◌, map, take, length, refl, ◌∙◌, ap, subst}
use Rattle.std.specs.List.{flat_map}
use Rattle.bk_form.specs.Table.{Table}
use Rattle.bk_form.specs.Formula.{Formula}
use Rattle.bk_form.specs.Search.{Finder, IsSearch}
use Rattle.bk_form.specs.Environment.{State, at_state, IsTypedState}
use Rattle.bk_form.specs.Predicates.{IsPredicate, AllHold, conjuncts}
use Rattle.bk_form.specs.Each.{Each}
use Rattle.bk_bind.specs.Valid.{IsValid}
use Rattle.bk_seq.proofs.Widening.{validity_widens}
use Rattle.bk_dev.specs.Development.{Level, Development}
use Rattle.bk_dev.specs.Facts.{IsDevelopment}
use Rattle.bk_dev.specs.Flattened.{copied_in_level, flat_levels, flattened}
use Rattle.bk_dev.specs.Hypotheses.{value_equation, properties_of}
use Rattle.bk_dev.specs.Claims.{ValuesMeet}
use Rattle.bk_dev.proofs.FlatLevels.{wider}
use Rattle.bk_dev.proofs.FlatSame.{levels-many}
use Rattle.bk_dev.proofs.Room.{development-formed}
use Rattle.bk_po.proofs.TypedHypotheses.{properties-typed, equations-typed}

-- ---- flattening leaves the properties
properties-left : (k n : ℕ) (ls : List Level) → flat_map (λ (l : Level). conjuncts l.properties) (take n (flat_levels k ls)) ≡ flat_map (λ (l : Level). conjuncts l.properties) (take n ls)
properties-left k zero [] = refl
properties-left k zero (l ∷ ls) = refl
properties-left k (suc n) [] = refl
properties-left k (suc n) (l ∷ ls) = ap (λ ps. conjuncts l.properties ++ ps) (properties-left (k + length (copied_in_level l)) n ls)

properties-same : (dev : Development) → properties_of (flattened dev) (length (flattened dev).levels) ≡ properties_of dev (length dev.levels)
properties-same dev =
    ap (properties_of (flattened dev)) (levels-many (length dev.table.variables) dev.levels) ∙ properties-left (length dev.table.variables) (length dev.levels) dev.levels

-- ---- formulas that are true together are valid one by one
each-valid : (table : Table) (hyps ps : List Formula) → ((g : Finder) → IsSearch g → (e : State) → IsTypedState table e → AllHold g (at_state table e) hyps → AllHold g (at_state table e) ps) → Each (IsValid table hyps) ps
each-valid table hyps [] h = tt
each-valid table hyps (p ∷ ps) h = (λ g l e t k. (h g l e t k).0, each-valid table hyps ps (λ g l e t k. (h g l e t k).1))

all-hold : (find : Finder) → IsSearch find → (table : Table) (e : State) → IsTypedState table e → (hyps ps : List Formula) → AllHold find (at_state table e) hyps → Each (IsValid table hyps) ps → AllHold find (at_state table e) ps
all-hold find law table e t hyps [] h v = tt
all-hold find law table e t hyps (p ∷ ps) h v = (v.0 find law e t h, all-hold find law table e t hyps ps h v.1)

-- ---- one by one they are valid over the narrower table too
module _ (dev : Development) (d : IsDevelopment dev) where
  down : (hyps ps : List Formula) → Each (IsPredicate dev.table) hyps → Each (IsPredicate dev.table) ps → Each (IsValid (flattened dev).table hyps) ps → Each (IsValid dev.table hyps) ps
  down hyps [] w p v = tt
  down hyps (q ∷ qs) w p v =
      ((validity_widens dev.table (flattened dev).table d.lawful.table (development-formed dev d) (wider dev d.lawful (development-formed dev d)) (hyps, q) (w, p.0)).1 v.0, down hyps qs w p.1 v.1)

  pub values_moved : ((g : Finder) → IsSearch g → ValuesMeet g (flattened dev)) → (find : Finder) → IsSearch find → ValuesMeet find dev
  values_moved meet find law e t h =
      let hyps : List Formula = map value_equation dev.values in
      let ps : List Formula = properties_of dev (length dev.levels) in
      let all : (g : Finder) → IsSearch g → (s : State) → IsTypedState (flattened dev).table s → AllHold g (at_state (flattened dev).table s) hyps → AllHold g (at_state (flattened dev).table s) ps = λ g l s k v. subst (λ qs. AllHold g (at_state (flattened dev).table s) qs) (properties-same dev) (meet g l s k v) in
      let wide = each-valid (flattened dev).table hyps ps all in
      all-hold find law dev.table e t hyps ps h (down hyps ps (equations-typed dev d.lawful) (properties-typed dev d.lawful (length dev.levels)) wide)
