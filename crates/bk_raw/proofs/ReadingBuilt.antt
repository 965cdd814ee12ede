-- What holds of all that is built of the names' variables holds of what a term reads as: so it names visible variables alone.
use Rattle.std.proofs.Common.{◌≡◌, ◌⊎◌, inl, inr, ℕ, List, [], ◌∷◌, refl, Bool, true, false, cond, ◌&&◌, ◌||◌, suc, ◌-◌, ◌+◌, length, ℤ}
use Rattle.std.specs.Prelude.{Option, None, Some, nat_le}
use Rattle.std.specs.Str.{bytes_eq}
use Rattle.bk_val.specs.ValueType.{ValueType, pair_type, set_type}
use Rattle.bk_form.specs.Formula.{Formula, for_all, for_some, comprehension, lambda, Formulas, no_formulas, formula_and}
use Rattle.bk_form.specs.Replacement.{occurs, any_occurs}
use Rattle.bk_form.specs.Role.{tuple_type}
use Rattle.bk_form.specs.declared.operator.UnOp.TheVariants.{Single}
use Rattle.bk_form.specs.declared.operator.BinOp.TheVariants.{And as Conjunction}
use Rattle.bk_raw.specs.declared.operator.InfixOp.{InfixOp}
use Rattle.bk_raw.specs.declared.operator.InfixOp.TheVariants.{And, Equal, Member}
use Rattle.bk_raw.specs.declared.term.RawName.{RawName}
use Rattle.bk_raw.specs.Trees.RawTree.{RawTree, raw, RawTreeNode, raw_name, raw_level_name, raw_bound_name, raw_number, raw_constant, raw_word, raw_negative, raw_infix, raw_inverse, raw_image, raw_apply, raw_composition, raw_pair, raw_empty_set, raw_extension, raw_comprehension, raw_lambda, raw_for_all, raw_exists, raw_typed_empty, raw_typed_for_all, raw_typed_exists, raw_ranged_comprehension, raw_ranged_lambda, RawTrees, no_trees, tree_and, RawRanges, no_ranges, range_and}
use Rattle.bk_raw.specs.Meaning.Names.{Names, local, Sight, unseen, untyped_name, seen, found, level_name, local_at, local_sight, count_locals, bound_sight}
use Rattle.bk_raw.specs.Meaning.Outcome.{whole, Outcome, partial, ranging, holding, silent, Reading, silently, clean, ask_value, ask_set}
use Rattle.bk_raw.specs.Meaning.OperatorReadings.{infix_reading, single_reading, extended}
use Rattle.bk_raw.specs.Meaning.Binders.{Bound, bound_names, inside, types_of, all_typed, where_typed, if_holding, if_giving, twice, Ranged, unranged, first_range, ranged_as, ranged_by, as_single, ranges_by, as_bound, range_or, ranges_of, is_used, is_some_name, with_conjunct, left_over, is_and, body_of, quantified, comprehended, abstracted}
use Rattle.bk_raw.specs.Meaning.TermReading.{place_of, is_predicate, is_alike, part, name_of, name_reading, takes_predicate, is_connective, strict_faults, from_one, from_two, reading, node_reading, extension_reading, elements_reading, clues, premise_clues, ranges, rest, rest_in, names_one, range_reads}
use Rattle.bk_raw.specs.Meaning.RightReading.{Whenever}
use Rattle.bk_raw.specs.Meaning.Built.{EachHas, Builds, NamesHave, OutcomeHas, IsVisible}
use Rattle.bk_raw.proofs.RulesBuilt.{First, SightHas, found-has, constant-has, word-has, negative-has, inverse-has, infix-has, image-has, apply-has, composition-has, pair-has, single-has_outcome, extended-has, connected-has, ask_value-has, ask_set-has}
use Rattle.bk_raw.specs.Meaning.Printed.{type_read, typed_empty, wrong_bounds, printed_bounds, with_place, RangeRead, printed_ranges, wrong_ranges}
use Rattle.bk_raw.specs.Trees.FreeNames.{conjuncts}
use Rattle.bk_raw.specs.Errors.Faults.{Fault, not_predicate}

module _ (int_max : ℤ) (P : Formula → Type 0) (b : Builds P) where
  abbrev Has : Outcome → Type 0
  Has o = OutcomeHas P o

  sight-reads : (at : ℕ) (s : Sight) → SightHas P b s → Has (name_reading at s).outcome
  sight-reads at unseen h = tt
  sight-reads at untyped_name h = tt
  sight-reads at (seen f t) h = h

  either-has : (c : Bool) (r : Reading) (fs : List Fault) → Has r.outcome → Has (cond c r (silently fs)).outcome
  either-has true r fs h = h
  either-has false r fs h = tt

  pub part-has : (wanted : Bool) (t : RawTree) (r : Reading) → Has r.outcome → Has (part wanted t r).outcome
  part-has wanted t r h = either-has (is_alike wanted (is_predicate t)) r (not_predicate (place_of t) ∷ r.faults) h

  clean-has : (fs : List Fault) (o : Outcome) → Has o → Has (clean fs o)
  clean-has [] o h = h
  clean-has (f ∷ fs) o h = tt

  inside-have : (bs : List Bound) (names : Names) → NamesHave P names → NamesHave P (inside bs names)
  inside-have [] names h = h
  inside-have (x ∷ xs) names h = inside-have xs (record { text = x.text; meaning = local x.of_type } ∷ names) (tt, h)

  where-has : (c : Bool) (o : Outcome) → Has o → Has (where_typed c o)
  where-has true o h = h
  where-has false o h = tt

  holding-has : (k : Formula → Outcome) (o : Outcome) → ((p : Formula) → P p → Has (k p)) → Has o → Has (if_holding k o)
  holding-has k (holding p) g h = g p h
  holding-has k (partial p) g h = tt
  holding-has k (ranging f t there) g h = tt
  holding-has k silent g h = tt

  giving-has : (k : Formula → ValueType → Outcome) (v : Option (Formula × ValueType)) → ((f : Formula) (u : ValueType) → P f → Has (k f u)) → Whenever (First P b) v → Has (if_giving k v)
  giving-has k None g h = tt
  giving-has k (Some v) g h = g v.0 v.1 h

  -- ---- ranges
  abbrev RangesHave : List Ranged → Type 0
  RangesHave [] = Unit {0}
  RangesHave (r ∷ rs) = Whenever (λ v. P v.0) r.range × RangesHave rs

  unranged-have : (xs : List RawName) → RangesHave (unranged xs)
  unranged-have [] = tt
  unranged-have (x ∷ xs) = (tt, unranged-have xs)

  first-has : (o : Option (Formula × ValueType × ℕ)) (r : Formula × ValueType × ℕ) → Whenever (λ v. P v.0) o → P r.0 → Whenever (λ v. P v.0) (first_range o r)
  first-has None r h k = k
  first-has (Some s) r h k = h

  cond-have : (c : Bool) (rs ss : List Ranged) → RangesHave rs → RangesHave ss → RangesHave (cond c rs ss)
  cond-have true rs ss h k = h
  cond-have false rs ss h k = k

  ranged_as-have : (text : List ℕ) (r : Formula × ValueType × ℕ) (rs : List Ranged) → RangesHave rs → P r.0 → RangesHave (ranged_as text r rs)
  ranged_as-have text r [] h k = tt
  ranged_as-have text r (x ∷ xs) h k = cond-have (bytes_eq x.text text) (record { text = x.text; at = x.at; range = first_range x.range r } ∷ xs) (x ∷ ranged_as text r xs) (first-has x.range r h.0 k, h.1) (h.0, ranged_as-have text r xs h.1 k)

  ranged_by-have : (text : List ℕ) (d : Option (Formula × ValueType)) (at : ℕ) (rs : List Ranged) → RangesHave rs → Whenever (First P b) d → RangesHave (ranged_by text d at rs)
  ranged_by-have text None at rs h k = h
  ranged_by-have text (Some d) at rs h k = ranged_as-have text (d.0, d.1, at) rs h k

  as_single-has : (d : Option (Formula × ValueType)) → Whenever (First P b) d → Whenever (First P b) (as_single d)
  as_single-has None h = tt
  as_single-has (Some d) h = b.unaries Single d.0 h

  ranges_by-have : (o : InfixOp) (at : ℕ) (rs : List Ranged) (x : Option (List ℕ)) (both : List Ranged) (c : Bool) (d : Outcome) → RangesHave rs → RangesHave both → Has d → RangesHave (ranges_by o at rs x both c d)
  ranges_by-have And at rs x both true d h k r = k
  ranges_by-have And at rs x both false d h k r = k
  ranges_by-have Member at rs (Some x) both false d h k r = ranged_by-have x (ask_set 0 d).answer at rs h (ask_set-has P b 0 d r)
  ranges_by-have Equal at rs (Some x) both false d h k r = ranged_by-have x (as_single (ask_value 0 d).answer) at rs h (as_single-has (ask_value 0 d).answer (ask_value-has P b 0 d r))
  ranges_by-have _ at rs x both c d h k r = h

  range_or-has : (o : Option (Formula × ValueType × ℕ)) → Whenever (λ v. P v.0) o → P (range_or o)
  range_or-has None h = b.yes
  range_or-has (Some r) h = h

  each-has : (rs : List Ranged) → RangesHave rs → EachHas P (ranges_of rs)
  each-has [] h = tt
  each-has (r ∷ rs) h = (range_or-has r.range h.0, each-has rs h.1)

  -- ---- conjuncts
  abbrev BeforeHas : Option Reading → Type 0
  BeforeHas before = Whenever (λ r. Has r.outcome) before

  conjunct-has : (before : Option Reading) (r : Reading) → BeforeHas before → Has r.outcome → BeforeHas (with_conjunct before r)
  conjunct-has None r h k = k
  conjunct-has (Some s) r h k = connected-has P b Conjunction s.outcome r.outcome h k

  left-has : (c : Bool) (before : Option Reading) (r : Reading) → BeforeHas before → Has r.outcome → BeforeHas (left_over c before r)
  left-has true before r h k = h
  left-has false before r h k = conjunct-has before r h k

  body-has : (before : Option Reading) → BeforeHas before → Has (body_of before).outcome
  body-has None h = b.yes
  body-has (Some r) h = h

  chosen-has : (c : Bool) (x y : Option Reading) → BeforeHas x → BeforeHas y → BeforeHas (cond c x y)
  chosen-has true x y h k = h
  chosen-has false x y h k = k

  -- ---- what only printed formulas have
  local-has : (i : ℕ) (o : Option (Option ValueType)) → SightHas P b (local_sight i o)
  local-has i None = tt
  local-has i (Some None) = tt
  local-has i (Some (Some t)) = b.bounds i

  sight-or : (c : Bool) (s : Sight) → SightHas P b s → SightHas P b (cond c s unseen)
  sight-or true s h = h
  sight-or false s h = tt

  bound-has : (count : ℕ) (names : Names) (k : ℕ) → SightHas P b (bound_sight count names k)
  bound-has count names k = sight-or (nat_le 1 k && nat_le k count) (local_sight (count - k) (local_at names (count - k))) (local-has (count - k) (local_at names (count - k)))

  empty-has : (at : ℕ) (o : Option ValueType) → Has (typed_empty at o).outcome
  empty-has at (Some (set_type t)) = b.empties (set_type t)
  empty-has at _ = tt

  quantified-has : (k : List ValueType → Formula → Formula) (fs : List Fault) (bs : List Bound) (r : Reading) → ((p : Formula) → P p → P (k (types_of bs) p)) → Has r.outcome → Has (quantified k fs bs r).outcome
  quantified-has k fs bs r h g =
      clean-has fs (where_typed (all_typed bs) (if_holding (λ q. holding (k (types_of bs) q)) r.outcome)) (where-has (all_typed bs) (if_holding (λ q. holding (k (types_of bs) q)) r.outcome) (holding-has (λ q. holding (k (types_of bs) q)) r.outcome h g))

  comprehended-has : (at : ℕ) (fs : List Fault) (rs : List Ranged) (r : Reading) → RangesHave rs → Has r.outcome → Has (comprehended at fs rs r).outcome
  comprehended-has at fs rs r have g =
      let made : Formula → Outcome = λ q. partial (whole (comprehension (ranges_of rs) q) (set_type (tuple_type (types_of (as_bound rs))))) in
      clean-has fs (where_typed (is_some_name rs && all_typed (as_bound rs)) (if_holding made r.outcome)) (where-has (is_some_name rs && all_typed (as_bound rs)) (if_holding made r.outcome) (holding-has made r.outcome (λ q k. b.comprehensions (ranges_of rs) q (each-has rs have) k) g))

  abstracted-has : (at : ℕ) (fs : List Fault) (rs : List Ranged) (r : Reading) (there : ℕ) (image : Reading) → RangesHave rs → Has r.outcome → Has image.outcome → Has (abstracted at fs rs r there image).outcome
  abstracted-has at fs rs r there image have g h =
      let made : Formula → Formula → ValueType → Outcome = λ q f u. partial (whole (lambda (ranges_of rs) q f) (set_type (pair_type (tuple_type (types_of (as_bound rs))) u))) in
      clean-has fs (where_typed (is_some_name rs && all_typed (as_bound rs)) (if_holding (λ q. if_giving (made q) (ask_value there image.outcome).answer) r.outcome)) (where-has (is_some_name rs && all_typed (as_bound rs)) (if_holding (λ q. if_giving (made q) (ask_value there image.outcome).answer) r.outcome)
      (holding-has (λ q. if_giving (made q) (ask_value there image.outcome).answer) r.outcome
      (λ q k. giving-has (made q) (ask_value there image.outcome).answer (λ f u l. b.lambdas (ranges_of rs) q f (each-has rs have) k l) (ask_value-has P b there image.outcome h)) g))

  abbrev ReadsHave : List RangeRead → Type 0
  ReadsHave [] = Unit {0}
  ReadsHave (r ∷ rs) = Has r.reading.outcome × ReadsHave rs

  placed-has : (i : ℕ) (o : Option (Formula × ValueType)) → Whenever (First P b) o → Whenever (λ v. P v.0) (with_place i o)
  placed-has i None h = tt
  placed-has i (Some d) h = h

  ranges-of-have : (rs : List RangeRead) → ReadsHave rs → RangesHave (printed_ranges rs)
  ranges-of-have [] h = tt
  ranges-of-have (r ∷ rs) h = (placed-has r.at (ask_set r.place r.reading.outcome).answer (ask_set-has P b r.place r.reading.outcome h.0), ranges-of-have rs h.1)

  mutual
    pub reading-has : (t : RawTree) (names : Names) → NamesHave P names → Has (reading int_max names t).outcome
    reading-has (raw at node) names h = node-has node at names h

    node-has : (node : RawTreeNode) (at : ℕ) (names : Names) → NamesHave P names → Has (node_reading int_max names at node).outcome
    node-has (raw_name x) at names h = sight-reads at (found 0 names x) (found-has P b 0 names x h)
    node-has (raw_level_name x n) at names h = sight-reads at (found 0 names (level_name x n)) (found-has P b 0 names (level_name x n) h)
    node-has (raw_number z) at names h = b.literals z
    node-has (raw_constant c) at names h = constant-has P b int_max at c
    node-has (raw_word o a) at names h = word-has P b o at (place_of a) (part (takes_predicate o) a (reading int_max names a)).outcome (part-has (takes_predicate o) a (reading int_max names a) (reading-has a names h))
    node-has (raw_negative a) at names h = negative-has P b (place_of a) (part false a (reading int_max names a)).outcome (part-has false a (reading int_max names a) (reading-has a names h))
    node-has (raw_infix o a c) at names h = clean-has (strict_faults o a c) (infix_reading o at (place_of a) (place_of c) (part (is_connective o) a (reading int_max names a)).outcome (part (is_connective o) c (reading int_max names c)).outcome).outcome (infix-has P b o at (place_of a) (place_of c) (part (is_connective o) a (reading int_max names a)).outcome (part (is_connective o) c (reading int_max names c)).outcome (part-has (is_connective o) a (reading int_max names a) (reading-has a names h)) (part-has (is_connective o) c (reading int_max names c) (reading-has c names h)))
    node-has (raw_inverse a) at names h = inverse-has P b (place_of a) (part false a (reading int_max names a)).outcome (part-has false a (reading int_max names a) (reading-has a names h))
    node-has (raw_image a c) at names h = image-has P b (place_of a) (place_of c) (part false a (reading int_max names a)).outcome (part false c (reading int_max names c)).outcome (part-has false a (reading int_max names a) (reading-has a names h)) (part-has false c (reading int_max names c) (reading-has c names h))
    node-has (raw_apply a c) at names h = apply-has P b (place_of a) (place_of c) (part false a (reading int_max names a)).outcome (part false c (reading int_max names c)).outcome (part-has false a (reading int_max names a) (reading-has a names h)) (part-has false c (reading int_max names c) (reading-has c names h))
    node-has (raw_composition a c) at names h = composition-has P b at (place_of a) (place_of c) (part false a (reading int_max names a)).outcome (part false c (reading int_max names c)).outcome (part-has false a (reading int_max names a) (reading-has a names h)) (part-has false c (reading int_max names c) (reading-has c names h))
    node-has (raw_pair a c) at names h = pair-has P b (part false a (reading int_max names a)).outcome (part false c (reading int_max names c)).outcome (part-has false a (reading int_max names a) (reading-has a names h)) (part-has false c (reading int_max names c) (reading-has c names h))
    node-has raw_empty_set at names h = tt
    node-has (raw_extension ts) at names h = extension-has ts at names h
    node-has (raw_for_all xs p) at names h =
        let bs = premise_clues int_max names (bound_names xs) p in
        let r = part true p (reading int_max (inside bs names) p) in
        clean-has (twice [] xs) (where_typed (all_typed bs) (if_holding (λ q. holding (for_all (types_of bs) q)) r.outcome)) (where-has (all_typed bs) (if_holding (λ q. holding (for_all (types_of bs) q)) r.outcome) (holding-has (λ q. holding (for_all (types_of bs) q)) r.outcome (λ q k. b.alls (types_of bs) q k) (part-has true p (reading int_max (inside bs names) p) (reading-has p (inside bs names) (inside-have bs names h)))))
    node-has (raw_exists xs p) at names h =
        let bs = clues int_max names (bound_names xs) p in
        let r = part true p (reading int_max (inside bs names) p) in
        clean-has (twice [] xs) (where_typed (all_typed bs) (if_holding (λ q. holding (for_some (types_of bs) q)) r.outcome)) (where-has (all_typed bs) (if_holding (λ q. holding (for_some (types_of bs) q)) r.outcome) (holding-has (λ q. holding (for_some (types_of bs) q)) r.outcome (λ q k. b.somes (types_of bs) q k) (part-has true p (reading int_max (inside bs names) p) (reading-has p (inside bs names) (inside-have bs names h)))))
    node-has (raw_comprehension xs p) at names h =
        let rs = ranges int_max names xs 0 (unranged xs) p in
        let have = ranges-have p names xs 0 (unranged xs) h (unranged-have xs) in
        let before = rest int_max (inside (as_bound rs) names) rs 0 None p in
        let made : Formula → Outcome = λ q. partial (whole (comprehension (ranges_of rs) q) (set_type (tuple_type (types_of (as_bound rs))))) in
        clean-has (twice [] xs) (where_typed (is_some_name rs && all_typed (as_bound rs)) (if_holding made (body_of before).outcome)) (where-has (is_some_name rs && all_typed (as_bound rs)) (if_holding made (body_of before).outcome) (holding-has made (body_of before).outcome (λ q k. b.comprehensions (ranges_of rs) q (each-has rs have) k) (body-has before (rest-has p (inside (as_bound rs) names) rs 0 None (inside-have (as_bound rs) names h) tt))))
    node-has (raw_lambda xs p e) at names h =
        let rs = ranges int_max names xs 0 (unranged xs) p in
        let have = ranges-have p names xs 0 (unranged xs) h (unranged-have xs) in
        let before = rest int_max (inside (as_bound rs) names) rs 0 None p in
        let image = part false e (reading int_max (inside (as_bound rs) names) e) in
        let made : Formula → Formula → ValueType → Outcome = λ q f u. partial (whole (lambda (ranges_of rs) q f) (set_type (pair_type (tuple_type (types_of (as_bound rs))) u))) in
        let inner = inside-have (as_bound rs) names h in
        clean-has (twice [] xs) (where_typed (is_some_name rs && all_typed (as_bound rs)) (if_holding (λ q. if_giving (made q) (ask_value (place_of e) image.outcome).answer) (body_of before).outcome)) (where-has (is_some_name rs && all_typed (as_bound rs)) (if_holding (λ q. if_giving (made q) (ask_value (place_of e) image.outcome).answer) (body_of before).outcome)
        (holding-has (λ q. if_giving (made q) (ask_value (place_of e) image.outcome).answer) (body_of before).outcome
        (λ q k. giving-has (made q) (ask_value (place_of e) image.outcome).answer (λ f u l. b.lambdas (ranges_of rs) q f (each-has rs have) k l) (ask_value-has P b (place_of e) image.outcome (part-has false e (reading int_max (inside (as_bound rs) names) e) (reading-has e (inside (as_bound rs) names) inner))))
        (body-has before (rest-has p (inside (as_bound rs) names) rs 0 None inner tt))))
    node-has (raw_bound_name k) at names h = sight-reads at (bound_sight (count_locals names) names k) (bound-has (count_locals names) names k)
    node-has (raw_typed_empty t) at names h = empty-has at (type_read names t)
    node-has (raw_typed_for_all ws p) at names h =
        let bs = printed_bounds names ws in
        let r = part true p (reading int_max (inside bs names) p) in
        quantified-has for_all (wrong_bounds (suc (count_locals names)) ws) bs r (λ q k. b.alls (types_of bs) q k) (part-has true p (reading int_max (inside bs names) p) (reading-has p (inside bs names) (inside-have bs names h)))
    node-has (raw_typed_exists ws p) at names h =
        let bs = printed_bounds names ws in
        let r = part true p (reading int_max (inside bs names) p) in
        quantified-has for_some (wrong_bounds (suc (count_locals names)) ws) bs r (λ q k. b.somes (types_of bs) q k) (part-has true p (reading int_max (inside bs names) p) (reading-has p (inside bs names) (inside-have bs names h)))
    node-has (raw_ranged_comprehension ws p) at names h =
        let rs = printed_ranges (range_reads int_max names ws) in
        let inner = inside-have (as_bound rs) names h in
        comprehended-has at (wrong_ranges (suc (count_locals names)) (range_reads int_max names ws)) rs (part true p (reading int_max (inside (as_bound rs) names) p)) (ranges-of-have (range_reads int_max names ws) (reads-have ws names h)) (part-has true p (reading int_max (inside (as_bound rs) names) p) (reading-has p (inside (as_bound rs) names) inner))
    node-has (raw_ranged_lambda ws p e) at names h =
        let rs = printed_ranges (range_reads int_max names ws) in
        let inner = inside-have (as_bound rs) names h in
        abstracted-has at (wrong_ranges (suc (count_locals names)) (range_reads int_max names ws)) rs (part true p (reading int_max (inside (as_bound rs) names) p)) (place_of e) (part false e (reading int_max (inside (as_bound rs) names) e)) (ranges-of-have (range_reads int_max names ws) (reads-have ws names h))
        (part-has true p (reading int_max (inside (as_bound rs) names) p) (reading-has p (inside (as_bound rs) names) inner)) (part-has false e (reading int_max (inside (as_bound rs) names) e) (reading-has e (inside (as_bound rs) names) inner))

    reads-have : (ws : RawRanges) (names : Names) → NamesHave P names → ReadsHave (range_reads int_max names ws)
    reads-have no_ranges names h = tt
    reads-have (range_and at n d ws) names h = (part-has false d (reading int_max names d) (reading-has d names h), reads-have ws names h)

    extension-has : (ts : RawTrees) (at : ℕ) (names : Names) → NamesHave P names → Has (extension_reading int_max names at ts).outcome
    extension-has no_trees at names h = tt
    extension-has (tree_and t ts) at names h = elements-have ts at names (from_one single_reading (part false t (reading int_max names t))) h (single-has_outcome P b (part false t (reading int_max names t)).outcome (part-has false t (reading int_max names t) (reading-has t names h)))

    elements-have : (ts : RawTrees) (at : ℕ) (names : Names) (before : Reading) → NamesHave P names → Has before.outcome → Has (elements_reading int_max names at before ts).outcome
    elements-have no_trees at names before h r = r
    elements-have (tree_and t ts) at names before h r = elements-have ts at names (from_two (extended at) before (part false t (reading int_max names t))) h (extended-has P b at before.outcome (part false t (reading int_max names t)).outcome r (part-has false t (reading int_max names t) (reading-has t names h)))

    ranges-have : (t : RawTree) (names : Names) (all : List RawName) (i : ℕ) (rs : List Ranged) → NamesHave P names → RangesHave rs → RangesHave (ranges int_max names all i rs t)
    ranges-have (raw at (raw_infix o a d)) names all i rs h l =
        ranges_by-have o i rs (name_of a) (ranges int_max names all (i + length (conjuncts a)) (ranges int_max names all i rs a) d) (names_one all d) (part false d (reading int_max names d)).outcome l
        (ranges-have d names all (i + length (conjuncts a)) (ranges int_max names all i rs a) h (ranges-have a names all i rs h l)) (part-has false d (reading int_max names d) (reading-has d names h))
    ranges-have (raw at _) names all i rs h l = l

    rest-has : (t : RawTree) (names : Names) (rs : List Ranged) (i : ℕ) (before : Option Reading) → NamesHave P names → BeforeHas before → BeforeHas (rest int_max names rs i before t)
    rest-has (raw at node) names rs i before h l = rest_in-has node names rs i before (part true (raw at node) (node_reading int_max names at node)) h l (part-has true (raw at node) (node_reading int_max names at node) (node-has node at names h))

    rest_in-has : (node : RawTreeNode) (names : Names) (rs : List Ranged) (i : ℕ) (before : Option Reading) (r : Reading) → NamesHave P names → BeforeHas before → Has r.outcome → BeforeHas (rest_in int_max names rs i before r node)
    rest_in-has (raw_infix o a c) names rs i before r h k m = chosen-has (is_and o) (rest int_max names rs (i + length (conjuncts a)) (rest int_max names rs i before a) c) (left_over (is_used i rs) before r) (rest-has c names rs (i + length (conjuncts a)) (rest int_max names rs i before a) h (rest-has a names rs i before h k)) (left-has (is_used i rs) before r k m)
    rest_in-has _ names rs i before r h k m = left-has (is_used i rs) before r k m

-- ---- visible variables
or-cases : (a b : Bool) → (a || b) ≡ true → (a ≡ true) ⊎ (b ≡ true)
or-cases true b h = inl refl
or-cases false b h = inr h

module _ (visible : ℕ → Bool) where
  no-variable : {A : Type 0} → false ≡ true → A
  no-variable h = absurd (cc)

  each-visible : (rs : Formulas) (n : ℕ) → EachHas (IsVisible visible) rs → any_occurs n rs ≡ true → visible n ≡ true
  each-visible no_formulas n h e = no-variable e
  each-visible (formula_and f fs) n h e = elim (or-cases (occurs n f) (any_occurs n fs) e) [ inl k ↦ h.0 n k | inr k ↦ each-visible fs n h.1 k ]

  pub visible-built : Builds (IsVisible visible)
  visible-built = record {
    bounds = λ i n e. no-variable e;
    literals = λ z n e. no-variable e;
    truths = λ c n e. no-variable e;
    elements = λ s i n e. no-variable e;
    empties = λ t n e. no-variable e;
    names = λ d n e. no-variable e;
    yes = λ n e. no-variable e;
    no = λ n e. no-variable e;
    unaries = λ o f h n e. h n e;
    binaries = λ o f g h k n e. elim (or-cases (occurs n f) (occurs n g) e) [ inl l ↦ h n l | inr l ↦ k n l ];
    alls = λ ts f h n e. h n e;
    somes = λ ts f h n e. h n e;
    comprehensions = λ rs f h k n e. elim (or-cases (any_occurs n rs) (occurs n f) e) [ inl l ↦ each-visible rs n h l | inr l ↦ k n l ];
    lambdas = λ rs f g h k l n e. lambda-visible rs f g n h k l e;
  }
    where
      lambda-visible : (rs : Formulas) (f g : Formula) (n : ℕ) → EachHas (IsVisible visible) rs → IsVisible visible f → IsVisible visible g → occurs n (lambda rs f g) ≡ true → visible n ≡ true
      lambda-visible rs f g n h k l e = elim (or-cases (any_occurs n rs || occurs n f) (occurs n g) e) [ inl m ↦ elim (or-cases (any_occurs n rs) (occurs n f) m) [ inl o ↦ each-visible rs n h o | inr o ↦ k n o ] | inr m ↦ l n m ]
