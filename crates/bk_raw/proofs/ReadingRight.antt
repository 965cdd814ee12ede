-- What a term reads as is right.
use Rattle.std.proofs.Common.{ℕ, suc, List, [], ◌∷◌, refl, Bool, true, false, cond, ◌+◌, length, ℤ}
use Rattle.std.specs.Prelude.{Option, None, Some}
use Rattle.bk_val.specs.ValueType.{ValueType}
use Rattle.bk_form.specs.Table.{Table}
use Rattle.bk_form.specs.Role.{bind}
use Rattle.bk_form.specs.declared.operator.BinOp.TheVariants.{And as Conjunction}
use Rattle.bk_raw.specs.declared.operator.InfixOp.TheVariants.{Implies}
use Rattle.bk_raw.specs.Trees.RawTree.{RawTree, raw, RawTreeNode, raw_name, raw_level_name, raw_bound_name, raw_number, raw_constant, raw_word, raw_negative, raw_infix, raw_inverse, raw_image, raw_apply, raw_composition, raw_pair, raw_empty_set, raw_extension, raw_comprehension, raw_lambda, raw_for_all, raw_exists, raw_typed_empty, raw_typed_for_all, raw_typed_exists, raw_ranged_comprehension, raw_ranged_lambda, RawTrees, no_trees, tree_and, RawRanges, no_ranges, range_and}
use Rattle.bk_raw.specs.Meaning.Names.{Names, Sight, unseen, untyped_name, seen, found, count_locals, bound_sight, Agree, level_name}
use Rattle.bk_raw.specs.Meaning.Outcome.{Reading, silently}
use Rattle.bk_raw.specs.Meaning.OperatorReadings.{infix_reading, single_reading, extended}
use Rattle.bk_raw.specs.Meaning.Binders.{Bound, bound_names, inside, types_of, twice, Ranged, unranged, as_bound, is_used, with_conjunct, left_over, is_and, body_of}
use Rattle.bk_raw.specs.Meaning.TermReading.{place_of, is_predicate, is_alike, part, name_of, name_reading, takes_predicate, is_connective, strict_faults, from_one, from_two, reading, node_reading, extension_reading, elements_reading, range_reads, clues, premise_clues, ranges, rest, rest_in, names_one}
use Rattle.bk_raw.specs.Meaning.Printed.{wrong_bounds, printed_bounds, printed_ranges, wrong_ranges}
use Rattle.bk_raw.specs.Meaning.RightReading.{Whenever}
use Rattle.bk_raw.proofs.Asks.{Right, clean-right}
use Rattle.bk_raw.proofs.NamesRight.{IsRightSight, found-right}
use Rattle.bk_raw.proofs.RulesRight.{constant-right, word-right, negative-right, inverse-right, infix-right, image-right, apply-right, composition-right, pair-right, single-right, extended-right, connected-right}
use Rattle.bk_raw.proofs.BindersRight.{AreListed, names-listed, told_by-listed, inside-agrees, for_all-right, for_some-right, AreRanges, unranged-right, ranges_by-right, as_bound-listed, comprehended-right, abstracted-right}
use Rattle.bk_raw.proofs.PrintedRight.{bound-right, empty-right, bounds-listed, AreRightReads, ranges-of-right}
use Rattle.bk_raw.specs.declared.term.RawName.{RawName}
use Rattle.bk_raw.specs.Trees.FreeNames.{conjuncts}
use Rattle.bk_raw.specs.Errors.Faults.{Fault, not_predicate}

module _ (int_max : ℤ) (table : Table) where
  sight-reads : (around : List ValueType) (at : ℕ) (s : Sight) → IsRightSight table around s → Right table around (name_reading at s).outcome
  sight-reads around at unseen h = tt
  sight-reads around at untyped_name h = tt
  sight-reads around at (seen f t) h = h

  either-right : (around : List ValueType) (c : Bool) (r : Reading) (fs : List Fault) → Right table around r.outcome → Right table around (cond c r (silently fs)).outcome
  either-right around true r fs h = h
  either-right around false r fs h = tt

  pub part-right : (around : List ValueType) (wanted : Bool) (t : RawTree) (r : Reading) → Right table around r.outcome → Right table around (part wanted t r).outcome
  part-right around wanted t r h = either-right around (is_alike wanted (is_predicate t)) r (not_predicate (place_of t) ∷ r.faults) h

  abbrev Before : List ValueType → Option Reading → Type 0
  Before around before = Whenever (λ r. Right table around r.outcome) before

  with_conjunct-right : (around : List ValueType) (before : Option Reading) (r : Reading) → Before around before → Right table around r.outcome → Before around (with_conjunct before r)
  with_conjunct-right around None r h k = k
  with_conjunct-right around (Some s) r h k = connected-right table around Conjunction s.outcome r.outcome (λ v w. refl) h k

  left_over-right : (around : List ValueType) (c : Bool) (before : Option Reading) (r : Reading) → Before around before → Right table around r.outcome → Before around (left_over c before r)
  left_over-right around true before r h k = h
  left_over-right around false before r h k = with_conjunct-right around before r h k

  body-right : (around : List ValueType) (before : Option Reading) → Before around before → Right table around (body_of before).outcome
  body-right around None h = refl
  body-right around (Some r) h = h

  chosen-right : (around : List ValueType) (c : Bool) (a b : Option Reading) → Before around a → Before around b → Before around (cond c a b)
  chosen-right around true a b h k = h
  chosen-right around false a b h k = k

  mutual
    pub reading-right : (t : RawTree) (names : Names) (around : List ValueType) → Agree table around names → Right table around (reading int_max names t).outcome
    reading-right (raw at node) names around h = node-right node at names around h

    node-right : (node : RawTreeNode) (at : ℕ) (names : Names) (around : List ValueType) → Agree table around names → Right table around (node_reading int_max names at node).outcome
    node-right (raw_name x) at names around h = sight-reads around at (found 0 names x) (found-right table around x names h)
    node-right (raw_level_name x n) at names around h = sight-reads around at (found 0 names (level_name x n)) (found-right table around (level_name x n) names h)
    node-right (raw_number z) at names around h = (refl, refl)
    node-right (raw_constant c) at names around h = constant-right table around int_max at c
    node-right (raw_word o a) at names around h = word-right table around o at (place_of a) (part (takes_predicate o) a (reading int_max names a)).outcome (part-right around (takes_predicate o) a (reading int_max names a) (reading-right a names around h))
    node-right (raw_negative a) at names around h = negative-right table around (place_of a) (part false a (reading int_max names a)).outcome (part-right around false a (reading int_max names a) (reading-right a names around h))
    node-right (raw_infix o a b) at names around h = clean-right table around (strict_faults o a b) (infix_reading o at (place_of a) (place_of b) (part (is_connective o) a (reading int_max names a)).outcome (part (is_connective o) b (reading int_max names b)).outcome).outcome (infix-right table around o at (place_of a) (place_of b) (part (is_connective o) a (reading int_max names a)).outcome (part (is_connective o) b (reading int_max names b)).outcome (part-right around (is_connective o) a (reading int_max names a) (reading-right a names around h)) (part-right around (is_connective o) b (reading int_max names b) (reading-right b names around h)))
    node-right (raw_inverse a) at names around h = inverse-right table around (place_of a) (part false a (reading int_max names a)).outcome (part-right around false a (reading int_max names a) (reading-right a names around h))
    node-right (raw_image a b) at names around h = image-right table around (place_of a) (place_of b) (part false a (reading int_max names a)).outcome (part false b (reading int_max names b)).outcome (part-right around false a (reading int_max names a) (reading-right a names around h)) (part-right around false b (reading int_max names b) (reading-right b names around h))
    node-right (raw_apply a b) at names around h = apply-right table around (place_of a) (place_of b) (part false a (reading int_max names a)).outcome (part false b (reading int_max names b)).outcome (part-right around false a (reading int_max names a) (reading-right a names around h)) (part-right around false b (reading int_max names b) (reading-right b names around h))
    node-right (raw_composition a b) at names around h = composition-right table around at (place_of a) (place_of b) (part false a (reading int_max names a)).outcome (part false b (reading int_max names b)).outcome (part-right around false a (reading int_max names a) (reading-right a names around h)) (part-right around false b (reading int_max names b) (reading-right b names around h))
    node-right (raw_pair a b) at names around h = pair-right table around (part false a (reading int_max names a)).outcome (part false b (reading int_max names b)).outcome (part-right around false a (reading int_max names a) (reading-right a names around h)) (part-right around false b (reading int_max names b) (reading-right b names around h))
    node-right raw_empty_set at names around h = tt
    node-right (raw_extension ts) at names around h = extension-right ts at names around h
    node-right (raw_for_all xs p) at names around h =
        let bs = premise_clues int_max names (bound_names xs) p in
        let listed = premise-listed p names (bound_names xs) around h (names-listed table xs) in
        let within = bind (types_of bs) around in
        for_all-right table (twice [] xs) bs around (part true p (reading int_max (inside bs names) p)) listed (part-right within true p (reading int_max (inside bs names) p) (reading-right p (inside bs names) within (inside-agrees table bs around names listed h)))
    node-right (raw_exists xs p) at names around h =
        let bs = clues int_max names (bound_names xs) p in
        let listed = clues-listed p names (bound_names xs) around h (names-listed table xs) in
        let within = bind (types_of bs) around in
        for_some-right table (twice [] xs) bs around (part true p (reading int_max (inside bs names) p)) listed (part-right within true p (reading int_max (inside bs names) p) (reading-right p (inside bs names) within (inside-agrees table bs around names listed h)))
    node-right (raw_comprehension xs p) at names around h =
        let rs = ranges int_max names xs 0 (unranged xs) p in
        let right = ranges-right p names xs 0 (unranged xs) around h (unranged-right table around xs) in
        let within = bind (types_of (as_bound rs)) around in
        let agrees = inside-agrees table (as_bound rs) around names (as_bound-listed table around rs right) h in
        comprehended-right table around at (twice [] xs) rs (body_of (rest int_max (inside (as_bound rs) names) rs 0 None p)) right (body-right within (rest int_max (inside (as_bound rs) names) rs 0 None p) (rest-right p (inside (as_bound rs) names) rs 0 None within agrees tt))
    node-right (raw_lambda xs p e) at names around h =
        let rs = ranges int_max names xs 0 (unranged xs) p in
        let right = ranges-right p names xs 0 (unranged xs) around h (unranged-right table around xs) in
        let within = bind (types_of (as_bound rs)) around in
        let agrees = inside-agrees table (as_bound rs) around names (as_bound-listed table around rs right) h in
        abstracted-right table around at (twice [] xs) rs (body_of (rest int_max (inside (as_bound rs) names) rs 0 None p)) (place_of e) (part false e (reading int_max (inside (as_bound rs) names) e)) right
        (body-right within (rest int_max (inside (as_bound rs) names) rs 0 None p) (rest-right p (inside (as_bound rs) names) rs 0 None within agrees tt))
        (part-right within false e (reading int_max (inside (as_bound rs) names) e) (reading-right e (inside (as_bound rs) names) within agrees))
    node-right (raw_bound_name k) at names around h = sight-reads around at (bound_sight (count_locals names) names k) (bound-right table (count_locals names) names around k h)
    node-right (raw_typed_empty t) at names around h = empty-right table around at t names h
    node-right (raw_typed_for_all ws p) at names around h =
        let bs = printed_bounds names ws in
        let listed = bounds-listed table ws names around h in
        let within = bind (types_of bs) around in
        for_all-right table (wrong_bounds (suc (count_locals names)) ws) bs around (part true p (reading int_max (inside bs names) p)) listed (part-right within true p (reading int_max (inside bs names) p) (reading-right p (inside bs names) within (inside-agrees table bs around names listed h)))
    node-right (raw_typed_exists ws p) at names around h =
        let bs = printed_bounds names ws in
        let listed = bounds-listed table ws names around h in
        let within = bind (types_of bs) around in
        for_some-right table (wrong_bounds (suc (count_locals names)) ws) bs around (part true p (reading int_max (inside bs names) p)) listed (part-right within true p (reading int_max (inside bs names) p) (reading-right p (inside bs names) within (inside-agrees table bs around names listed h)))
    node-right (raw_ranged_comprehension ws p) at names around h =
        let rs = printed_ranges (range_reads int_max names ws) in
        let right = ranges-of-right table around (range_reads int_max names ws) (reads-right ws names around h) in
        let within = bind (types_of (as_bound rs)) around in
        let agrees = inside-agrees table (as_bound rs) around names (as_bound-listed table around rs right) h in
        comprehended-right table around at (wrong_ranges (suc (count_locals names)) (range_reads int_max names ws)) rs (part true p (reading int_max (inside (as_bound rs) names) p)) right (part-right within true p (reading int_max (inside (as_bound rs) names) p) (reading-right p (inside (as_bound rs) names) within agrees))
    node-right (raw_ranged_lambda ws p e) at names around h =
        let rs = printed_ranges (range_reads int_max names ws) in
        let right = ranges-of-right table around (range_reads int_max names ws) (reads-right ws names around h) in
        let within = bind (types_of (as_bound rs)) around in
        let agrees = inside-agrees table (as_bound rs) around names (as_bound-listed table around rs right) h in
        abstracted-right table around at (wrong_ranges (suc (count_locals names)) (range_reads int_max names ws)) rs (part true p (reading int_max (inside (as_bound rs) names) p)) (place_of e) (part false e (reading int_max (inside (as_bound rs) names) e)) right
        (part-right within true p (reading int_max (inside (as_bound rs) names) p) (reading-right p (inside (as_bound rs) names) within agrees))
        (part-right within false e (reading int_max (inside (as_bound rs) names) e) (reading-right e (inside (as_bound rs) names) within agrees))

    reads-right : (ws : RawRanges) (names : Names) (around : List ValueType) → Agree table around names → AreRightReads table around (range_reads int_max names ws)
    reads-right no_ranges names around h = tt
    reads-right (range_and at n d ws) names around h = (part-right around false d (reading int_max names d) (reading-right d names around h), reads-right ws names around h)

    extension-right : (ts : RawTrees) (at : ℕ) (names : Names) (around : List ValueType) → Agree table around names → Right table around (extension_reading int_max names at ts).outcome
    extension-right no_trees at names around h = tt
    extension-right (tree_and t ts) at names around h = elements-right ts at names around (from_one single_reading (part false t (reading int_max names t))) h (single-right table around (part false t (reading int_max names t)).outcome (part-right around false t (reading int_max names t) (reading-right t names around h)))

    elements-right : (ts : RawTrees) (at : ℕ) (names : Names) (around : List ValueType) (before : Reading) → Agree table around names → Right table around before.outcome → Right table around (elements_reading int_max names at before ts).outcome
    elements-right no_trees at names around before h r = r
    elements-right (tree_and t ts) at names around before h r = elements-right ts at names around (from_two (extended at) before (part false t (reading int_max names t))) h (extended-right table around at before.outcome (part false t (reading int_max names t)).outcome r (part-right around false t (reading int_max names t) (reading-right t names around h)))

    clues-listed : (t : RawTree) (names : Names) (bs : List Bound) (around : List ValueType) → Agree table around names → AreListed table bs → AreListed table (clues int_max names bs t)
    clues-listed (raw at (raw_infix o a d)) names bs around h l =
        told_by-listed table (bind (types_of bs) around) o bs (name_of a) (clues int_max names (clues int_max names bs a) d) (reading int_max (inside bs names) d).outcome l
        (clues-listed d names (clues int_max names bs a) around h (clues-listed a names bs around h l))
        (reading-right d (inside bs names) (bind (types_of bs) around) (inside-agrees table bs around names l h))
    clues-listed (raw at _) names bs around h l = l

    premise-listed : (t : RawTree) (names : Names) (bs : List Bound) (around : List ValueType) → Agree table around names → AreListed table bs → AreListed table (premise_clues int_max names bs t)
    premise-listed (raw at (raw_infix Implies a b)) names bs around h l = clues-listed a names bs around h l
    premise-listed (raw at _) names bs around h l = l

    ranges-right : (t : RawTree) (names : Names) (all : List RawName) (i : ℕ) (bs : List Ranged) (around : List ValueType) → Agree table around names → AreRanges table around bs → AreRanges table around (ranges int_max names all i bs t)
    ranges-right (raw at (raw_infix o a d)) names all i bs around h l =
        ranges_by-right table around o i bs (name_of a) (ranges int_max names all (i + length (conjuncts a)) (ranges int_max names all i bs a) d) (names_one all d) (part false d (reading int_max names d)).outcome l
        (ranges-right d names all (i + length (conjuncts a)) (ranges int_max names all i bs a) around h (ranges-right a names all i bs around h l))
        (part-right around false d (reading int_max names d) (reading-right d names around h))
    ranges-right (raw at _) names all i bs around h l = l

    rest-right : (t : RawTree) (names : Names) (bs : List Ranged) (i : ℕ) (before : Option Reading) (around : List ValueType) → Agree table around names → Before around before → Before around (rest int_max names bs i before t)
    rest-right (raw at node) names bs i before around h b = rest_in-right node names bs i before around (part true (raw at node) (node_reading int_max names at node)) h b (part-right around true (raw at node) (node_reading int_max names at node) (node-right node at names around h))

    rest_in-right : (node : RawTreeNode) (names : Names) (bs : List Ranged) (i : ℕ) (before : Option Reading) (around : List ValueType) (r : Reading) → Agree table around names → Before around before → Right table around r.outcome → Before around (rest_in int_max names bs i before r node)
    rest_in-right (raw_infix o a b) names bs i before around r h k m = chosen-right around (is_and o) (rest int_max names bs (i + length (conjuncts a)) (rest int_max names bs i before a) b) (left_over (is_used i bs) before r) (rest-right b names bs (i + length (conjuncts a)) (rest int_max names bs i before a) around h (rest-right a names bs i before around h k)) (left_over-right around (is_used i bs) before r k m)
    rest_in-right _ names bs i before around r h k m = left_over-right around (is_used i bs) before r k m
