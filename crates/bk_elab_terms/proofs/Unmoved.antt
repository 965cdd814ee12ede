-- Inside a binder that binds none of its names a term tells the same types, and has the same faults, as outside.
use Rattle.std.proofs.Common.{◌≡◌, inl, inr, ℕ, suc, ◌+◌, ℤ, List, [], ◌∷◌, ◌++◌, length, refl, sym, ◌∙◌, ap, Bool, true, false, cond, not, ◌&&◌, ◌||◌}
use Rattle.std.specs.Option.{option_map}
use Rattle.std.specs.Prelude.{Option, None, Some}
use Rattle.std.specs.Str.{bytes_eq}
use Rattle.std.proofs.lemmas.Slice.Eq.{bytes_eq-Decides}
use Rattle.bk_val.specs.ValueType.{ValueType, set_type, pair_type}
use Rattle.bk_form.specs.Formula.{Formula, btrue, for_all, for_some, comprehension, lambda}
use Rattle.bk_form.specs.Role.{tuple_type}
use Rattle.bk_form.specs.declared.operator.BinOp.TheVariants.{And as Conjunction}
use Rattle.bk_raw.specs.declared.operator.InfixOp.{InfixOp}
use Rattle.bk_raw.specs.declared.operator.InfixOp.TheVariants.{And, Implies, Member, Subset, StrictSubset, Equal}
use Rattle.bk_raw.specs.declared.term.RawName.{RawName}
use Rattle.bk_raw.specs.Trees.RawTree.{RawTree, raw, RawTreeNode, raw_name, raw_level_name, raw_bound_name, raw_number, raw_constant, raw_word, raw_negative, raw_infix, raw_inverse, raw_image, raw_apply, raw_composition, raw_pair, raw_empty_set, raw_extension, raw_comprehension, raw_lambda, raw_for_all, raw_exists, raw_typed_empty, raw_typed_for_all, raw_typed_exists, raw_ranged_comprehension, raw_ranged_lambda, RawTrees, no_trees, tree_and}
use Rattle.bk_raw.specs.Trees.FreeNames.{is_among, stands_free, is_free_in, is_free_in_some, conjuncts}
use Rattle.bk_raw.specs.Meaning.Names.{Names, Meaning, local, global, set_name, element_name, nothing, Sight, unseen, untyped_name, seen, sight, behind, found, level_name}
use Rattle.bk_raw.specs.Meaning.Outcome.{whole, Outcome, partial, ranging, holding, silent, Reading, silently, clean, no_type, ask_value, ask_set, ask_domain}
use Rattle.bk_raw.specs.Meaning.OperatorReadings.{connected, word_reading, negative_reading, inverse_reading, infix_reading, image_reading, apply_reading, composition_reading, pair_reading, single_reading, extended}
use Rattle.bk_raw.specs.Meaning.Binders.{Bound, bound_names, inside, types_of, all_typed, untyped_faults, second, set_over, typed_by, told_by, twice, where_typed, if_holding, if_giving, quantified, Ranged, unranged, first_range, ranged_as, ranged_by, as_single, ranges_by, as_bound, range_type, ranges_of, is_used, is_used_by, left_over, conjoined, is_and, body_of, is_some_name, nameless, comprehended, abstracted}
use Rattle.bk_raw.specs.Meaning.TermReading.{place_of, is_predicate, is_alike, part, name_of, name_reading, names_one, takes_predicate, is_connective, strict_faults, behind_faults, spoilt_by, from_one, from_two, reading, node_reading, extension_reading, elements_reading, clues, premise_clues, ranges, rest, rest_in}
use Rattle.bk_raw.proofs.BoundNames.{no-name, or-cases, or-neither, or-none, or-left, or-right, either, is_bound, names-bound, unranged-bound, clues-bound, premise-bound, ranges-bound}
use Rattle.bk_raw.specs.Errors.Faults.{Fault, not_predicate}
use Rattle.bk_elab_terms.specs.Kept.{Grows, has_dollar, names_dollar, has_additions, node_has_additions, some_have_additions}
use Rattle.bk_elab_terms.proofs.Dollars.{level-dollar, names-none}
use Rattle.bk_elab_terms.proofs.Bare.{idle, bare_outcome, bare_reading, bare_asked, no_pair, value-bare, set-bare, domain-bare, pair-bare, single-bare, word-bare, negative-bare, inverse-bare, connected-bare, image-bare, apply-bare, composing-bare, infix-bare, extended-bare}

-- ---- what is found, formulas aside
abbrev bare_sight : Sight → Sight
bare_sight unseen = unseen
bare_sight untyped_name = untyped_name
bare_sight (seen f t) = seen btrue t

abbrev pub BareAt : Names → Names → List ℕ → Type 0
BareAt ns ms x = (i j : ℕ) → bare_sight (found i ns x) ≡ bare_sight (found j ms x)

sight-bare : (m : Meaning) (i j : ℕ) → bare_sight (sight i m) ≡ bare_sight (sight j m)
sight-bare (local None) i j = refl
sight-bare (local (Some t)) i j = refl
sight-bare (global n None) i j = refl
sight-bare (global n (Some t)) i j = refl
sight-bare (set_name s) i j = refl
sight-bare (element_name s e) i j = refl
sight-bare nothing i j = refl

chosen-bare : (c : Bool) (s t u v : Sight) → bare_sight s ≡ bare_sight u → bare_sight t ≡ bare_sight v → bare_sight (cond c s t) ≡ bare_sight (cond c u v)
chosen-bare true s t u v h k = h
chosen-bare false s t u v h k = k

at-itself : (ns : Names) (x : List ℕ) → BareAt ns ns x
at-itself [] x i j = refl
at-itself (n ∷ ns) x i j = chosen-bare (bytes_eq n.text x) (sight i n.meaning) (found (behind i n.meaning) ns x) (sight j n.meaning) (found (behind j n.meaning) ns x) (sight-bare n.meaning i j) (at-itself ns x (behind i n.meaning) (behind j n.meaning))

abbrev in_front : Bound → Names → Names
in_front b ns = record { text = b.text; meaning = local b.of_type } ∷ ns

inside-bare : (bs : List Bound) (ns ms : Names) (x : List ℕ) → BareAt ns ms x → BareAt (inside bs ns) (inside bs ms) x
inside-bare [] ns ms x h = h
inside-bare (b ∷ bs) ns ms x h = inside-bare bs (in_front b ns) (in_front b ms) x (λ i j. chosen-bare (bytes_eq b.text x) (sight i (local b.of_type)) (found (suc i) ns x) (sight j (local b.of_type)) (found (suc j) ms x) (sight-bare (local b.of_type) i j) (h (suc i) (suc j)))

bound-bare : (bs : List Bound) (ns ms : Names) (x : List ℕ) → is_bound x bs ≡ true → BareAt (inside bs ns) (inside bs ms) x
bound-bare [] ns ms x e = no-name e
bound-bare (b ∷ bs) ns ms x e = elim (or-cases (bytes_eq b.text x) (is_bound x bs) e) [
  | inl k ↦ inside-bare bs (in_front b ns) (in_front b ms) x (λ i j. ap (λ (c : Bool). bare_sight (cond c (sight i (local b.of_type)) (found (suc i) ns x))) k ∙ (sight-bare (local b.of_type) i j ∙ sym (ap (λ (c : Bool). bare_sight (cond c (sight j (local b.of_type)) (found (suc j) ms x))) k)))
  | inr k ↦ bound-bare bs (in_front b ns) (in_front b ms) x k
]

either-bare : (bs : List Bound) (ns ms : Names) (x : List ℕ) → (is_bound x bs ≡ false → BareAt ns ms x) → BareAt (inside bs ns) (inside bs ms) x
either-bare bs ns ms x h = elim (either (is_bound x bs)) [ inl e ↦ bound-bare bs ns ms x e | inr e ↦ inside-bare bs ns ms x (h e) ]

-- inside a binder that does not bind it the name is found as outside
outside-bare : (bs : List Bound) (ns ms : Names) (x : List ℕ) → is_bound x bs ≡ false → BareAt ns ms x → BareAt ns (inside bs ms) x
outside-bare [] ns ms x e h = h
outside-bare (b ∷ bs) ns ms x e h =
    let k = or-neither (bytes_eq b.text x) (is_bound x bs) e in
    outside-bare bs ns (in_front b ms) x k.1 (λ i j. h i (suc j) ∙ sym (ap (λ (c : Bool). bare_sight (cond c (sight j (local b.of_type)) (found (suc j) ms x))) k.0))

name-bare : (at : ℕ) (s : Sight) → bare_reading (name_reading at s) ≡ bare_reading (name_reading at (bare_sight s))
name-bare at unseen = refl
name-bare at untyped_name = refl
name-bare at (seen f t) = refl

outcome-idle : (o : Outcome) → bare_outcome o ≡ bare_outcome (bare_outcome o)
outcome-idle (partial p) = ap partial (idle p)
outcome-idle (ranging f t there) = refl
outcome-idle (holding f) = refl
outcome-idle silent = refl

-- ---- parts
part-bare : (w : Bool) (t : RawTree) (r s : Reading) → bare_reading r ≡ bare_reading s → bare_reading (part w t r) ≡ bare_reading (part w t s)
part-bare w t r s h = by (is_alike w (is_predicate t))
  where
    by : (c : Bool) → bare_reading (cond c r (silently (not_predicate (place_of t) ∷ r.faults))) ≡ bare_reading (cond c s (silently (not_predicate (place_of t) ∷ s.faults)))
    by true = h
    by false = ap (λ (q : Reading). silently (not_predicate (place_of t) ∷ q.faults)) h

one-part-bare : (k : Outcome → Reading) → ((a : Outcome) → bare_reading (k a) ≡ bare_reading (k (bare_outcome a))) → (r s : Reading) → bare_reading r ≡ bare_reading s → bare_reading (from_one k r) ≡ bare_reading (from_one k s)
one-part-bare k inv r s h = ap (behind_faults r.faults) (inv r.outcome) ∙ (ap (λ (q : Reading). behind_faults q.faults (bare_reading (k q.outcome))) h ∙ sym (ap (behind_faults s.faults) (inv s.outcome)))

two-parts-bare : (k : Outcome → Outcome → Reading) → ((a b : Outcome) → bare_reading (k a b) ≡ bare_reading (k (bare_outcome a) (bare_outcome b))) → (r s u v : Reading) → bare_reading r ≡ bare_reading u → bare_reading s ≡ bare_reading v →
    bare_reading (from_two k r s) ≡ bare_reading (from_two k u v)
two-parts-bare k inv r s u v h g =
    ap (behind_faults (r.faults ++ s.faults)) (inv r.outcome s.outcome)
    ∙ ((λ i. behind_faults ((h i).faults ++ (g i).faults) (bare_reading (k (h i).outcome (g i).outcome)))
    ∙ sym (ap (behind_faults (u.faults ++ v.faults)) (inv u.outcome v.outcome)))

clean-bare : (fs : List Fault) (o p : Outcome) → bare_outcome o ≡ bare_outcome p → bare_outcome (clean fs o) ≡ bare_outcome (clean fs p)
clean-bare [] o p h = h
clean-bare (f ∷ fs) o p h = refl

spoilt-bare : (fs : List Fault) (r s : Reading) → bare_reading r ≡ bare_reading s → bare_reading (spoilt_by fs r) ≡ bare_reading (spoilt_by fs s)
spoilt-bare fs r s h i = record { outcome = clean-bare fs r.outcome s.outcome (ap (λ (q : Reading). q.outcome) h) i; faults = fs ++ (h i).faults }

-- ---- binders
typed-bare : (c : Bool) (o p : Outcome) → bare_outcome o ≡ bare_outcome p → bare_outcome (where_typed c o) ≡ bare_outcome (where_typed c p)
typed-bare true o p h = h
typed-bare false o p h = refl

holding-bare : (k l : Formula → Outcome) → ((f g : Formula) → bare_outcome (k f) ≡ bare_outcome (l g)) → (o p : Outcome) → bare_outcome o ≡ bare_outcome p → bare_outcome (if_holding k o) ≡ bare_outcome (if_holding l p)
holding-bare k l h o p e = aside o ∙ (ap (λ (q : Outcome). bare_outcome (if_holding k q)) e ∙ (sym (aside p) ∙ other p))
  where
    aside : (o : Outcome) → bare_outcome (if_holding k o) ≡ bare_outcome (if_holding k (bare_outcome o))
    aside (holding f) = h f f ∙ sym (h btrue f)
    aside (partial q) = refl
    aside (ranging f t there) = refl
    aside silent = refl

    other : (p : Outcome) → bare_outcome (if_holding k p) ≡ bare_outcome (if_holding l p)
    other (holding f) = h f f
    other (partial q) = refl
    other (ranging f t there) = refl
    other silent = refl

quantified-bare : (k : List ValueType → Formula → Formula) (fs : List Fault) (bs : List Bound) (r s : Reading) → bare_reading r ≡ bare_reading s → bare_reading (quantified k fs bs r) ≡ bare_reading (quantified k fs bs s)
quantified-bare k fs bs r s h =
    let inner = holding-bare (λ p. holding (k (types_of bs) p)) (λ p. holding (k (types_of bs) p)) (λ f g. refl) r.outcome s.outcome (ap (λ (q : Reading). q.outcome) h) in
    let outer = clean-bare fs _ _ (typed-bare (all_typed bs) (if_holding (λ p. holding (k (types_of bs) p)) r.outcome) (if_holding (λ p. holding (k (types_of bs) p)) s.outcome) inner) in
    λ i. record { outcome = outer i; faults = fs ++ (untyped_faults bs ++ (h i).faults) }

-- ranges, formulas aside
abbrev bare_range : Option (Formula × ValueType × ℕ) → Option (Formula × ValueType × ℕ)
bare_range None = None
bare_range (Some r) = Some (btrue, r.1, r.2)

abbrev pub erased : List Ranged → List Ranged
erased [] = []
erased (b ∷ bs) = record { text = b.text; at = b.at; range = bare_range b.range } ∷ erased bs

erased-twice : (rs : List Ranged) → erased rs ≡ erased (erased rs)
erased-twice [] = refl
erased-twice (b ∷ bs) = λ i. record { text = b.text; at = b.at; range = again b.range i } ∷ erased-twice bs i
  where
    again : (r : Option (Formula × ValueType × ℕ)) → bare_range r ≡ bare_range (bare_range r)
    again None = refl
    again (Some r) = refl

bound-erased : (rs : List Ranged) → as_bound rs ≡ as_bound (erased rs)
bound-erased [] = refl
bound-erased (b ∷ bs) = λ i. record { text = b.text; at = b.at; of_type = same b.range i } ∷ bound-erased bs i
  where
    same : (r : Option (Formula × ValueType × ℕ)) → range_type r ≡ range_type (bare_range r)
    same None = refl
    same (Some r) = refl

some-erased : (rs : List Ranged) → is_some_name rs ≡ is_some_name (erased rs)
some-erased [] = refl
some-erased (b ∷ bs) = refl

used-erased : (n : ℕ) (rs : List Ranged) → is_used n rs ≡ is_used n (erased rs)
used-erased n [] = refl
used-erased n (b ∷ bs) = λ i. same b.range i || used-erased n bs i
  where
    same : (r : Option (Formula × ValueType × ℕ)) → is_used_by n r ≡ is_used_by n (bare_range r)
    same None = refl
    same (Some r) = refl

bound-same : (rs ws : List Ranged) → erased rs ≡ erased ws → as_bound rs ≡ as_bound ws
bound-same rs ws h = bound-erased rs ∙ (ap as_bound h ∙ sym (bound-erased ws))

some-same : (rs ws : List Ranged) → erased rs ≡ erased ws → is_some_name rs ≡ is_some_name ws
some-same rs ws h = some-erased rs ∙ (ap is_some_name h ∙ sym (some-erased ws))

used-same : (n : ℕ) (rs ws : List Ranged) → erased rs ≡ erased ws → is_used n rs ≡ is_used n ws
used-same n rs ws h = used-erased n rs ∙ (ap (is_used n) h ∙ sym (used-erased n ws))

nameless-same : (at : ℕ) (rs ws : List Ranged) → erased rs ≡ erased ws → nameless at rs ≡ nameless at ws
nameless-same at rs ws h = ap (λ (c : Bool). cond c [] (no_type at)) (some-same rs ws h)

comprehended-bare : (at : ℕ) (fs : List Fault) (rs ws : List Ranged) (r s : Reading) → erased rs ≡ erased ws → bare_reading r ≡ bare_reading s → bare_reading (comprehended at fs rs r) ≡ bare_reading (comprehended at fs ws s)
comprehended-bare at fs rs ws r s e h =
    let made : List Ranged → List Bound → Formula → Outcome = λ vs bs p. partial (whole (comprehension (ranges_of vs) p) (set_type (tuple_type (types_of bs)))) in
    let bs = as_bound rs in
    let inner = holding-bare (made rs bs) (made ws bs) (λ f g. refl) r.outcome s.outcome (ap (λ (q : Reading). q.outcome) h) in
    let outer : bare_outcome (clean fs (where_typed (is_some_name rs && all_typed bs) (if_holding (made rs bs) r.outcome))) ≡ bare_outcome (clean fs (where_typed (is_some_name rs && all_typed bs) (if_holding (made ws bs) s.outcome))) =
    clean-bare fs _ _ (typed-bare (is_some_name rs && all_typed bs) (if_holding (made rs bs) r.outcome) (if_holding (made ws bs) s.outcome) inner) in
    let moved : bare_outcome (clean fs (where_typed (is_some_name rs && all_typed (as_bound rs)) (if_holding (made ws (as_bound rs)) s.outcome))) ≡ bare_outcome (clean fs (where_typed (is_some_name ws && all_typed (as_bound ws)) (if_holding (made ws (as_bound ws)) s.outcome))) =
    λ i. bare_outcome (clean fs (where_typed (some-same rs ws e i && all_typed (bound-same rs ws e i)) (if_holding (made ws (bound-same rs ws e i)) s.outcome))) in
    λ i. record { outcome = (outer ∙ moved) i; faults = fs ++ (nameless-same at rs ws e i ++ (untyped_faults (bound-same rs ws e i) ++ (h i).faults)) }

giving-bare : (k l : Formula → ValueType → Outcome) → ((f g : Formula) (t : ValueType) → bare_outcome (k f t) ≡ bare_outcome (l g t)) → (a b : Option (Formula × ValueType)) → option_map no_pair a ≡ option_map no_pair b → bare_outcome (if_giving k a) ≡ bare_outcome (if_giving l b)
giving-bare k l h None None e = refl
giving-bare k l h (Some a) (Some b) e = h a.0 b.0 a.1 ∙ ap (λ (t : ValueType). bare_outcome (l b.0 t)) (type-same a b e)
  where
    or_none : Option (Formula × ValueType) → ValueType → ValueType
    or_none None t = t
    or_none (Some d) t = d.1

    type-same : (a b : Formula × ValueType) → option_map no_pair (Some a) ≡ option_map no_pair (Some b) → a.1 ≡ b.1
    type-same a b e = ap (λ (o : Option (Formula × ValueType)). or_none o a.1) e
giving-bare k l h None (Some b) e = absurd (cc)
giving-bare k l h (Some a) None e = absurd (cc)

abstracted-bare : (at : ℕ) (fs : List Fault) (rs ws : List Ranged) (r s : Reading) (there : ℕ) (u v : Reading) → erased rs ≡ erased ws → bare_reading r ≡ bare_reading s → bare_reading u ≡ bare_reading v →
    bare_reading (abstracted at fs rs r there u) ≡ bare_reading (abstracted at fs ws s there v)
abstracted-bare at fs rs ws r s there u v e h g =
    let made : List Ranged → List Bound → Formula → Formula → ValueType → Outcome = λ vs bs p f t. partial (whole (lambda (ranges_of vs) p f) (set_type (pair_type (tuple_type (types_of bs)) t))) in
    let bs = as_bound rs in
    let asked = value-bare there u.outcome ∙ (ap (λ (q : Reading). bare_asked no_pair (ask_value there q.outcome)) g ∙ sym (value-bare there v.outcome)) in
    let inner = holding-bare (λ p. if_giving (made rs bs p) (ask_value there u.outcome).answer) (λ p. if_giving (made ws bs p) (ask_value there v.outcome).answer)
    (λ p q. giving-bare (made rs bs p) (made ws bs q) (λ f f' t. refl) (ask_value there u.outcome).answer (ask_value there v.outcome).answer (λ i. (asked i).answer)) r.outcome s.outcome (ap (λ (q : Reading). q.outcome) h) in
    let outer = clean-bare fs _ _ (typed-bare (is_some_name rs && all_typed bs) (if_holding (λ p. if_giving (made rs bs p) (ask_value there u.outcome).answer) r.outcome) (if_holding (λ p. if_giving (made ws bs p) (ask_value there v.outcome).answer) s.outcome) inner) in
    let moved : bare_outcome (clean fs (where_typed (is_some_name rs && all_typed (as_bound rs)) (if_holding (λ p. if_giving (made ws (as_bound rs) p) (ask_value there v.outcome).answer) s.outcome))) ≡ bare_outcome (clean fs (where_typed (is_some_name ws && all_typed (as_bound ws)) (if_holding (λ p. if_giving (made ws (as_bound ws) p) (ask_value there v.outcome).answer) s.outcome))) =
    λ i. bare_outcome (clean fs (where_typed (some-same rs ws e i && all_typed (bound-same rs ws e i)) (if_holding (λ p. if_giving (made ws (bound-same rs ws e i) p) (ask_value there v.outcome).answer) s.outcome))) in
    λ i. record { outcome = (outer ∙ moved) i; faults = fs ++ (nameless-same at rs ws e i ++ (untyped_faults (bound-same rs ws e i) ++ ((h i).faults ++ ((g i).faults ++ (asked i).faults)))) }

-- ---- conjuncts
second-bare : (o p : Option (Formula × ValueType)) → option_map no_pair o ≡ option_map no_pair p → second o ≡ second p
second-bare o p h = aside o ∙ (ap second h ∙ sym (aside p))
  where
    aside : (o : Option (Formula × ValueType)) → second o ≡ second (option_map no_pair o)
    aside None = refl
    aside (Some d) = refl

told-bare : (o : InfixOp) (bs : List Bound) (y : Option (List ℕ)) (both : List Bound) (d : Outcome) → told_by o bs y both d ≡ told_by o bs y both (bare_outcome d)
told-bare And bs y both d = refl
told-bare Member bs None both d = refl
told-bare Member bs (Some x) both d = ap (λ (t : Option ValueType). typed_by x t bs) (second-bare (ask_domain 0 d).answer (ask_domain 0 (bare_outcome d)).answer (λ i. (domain-bare 0 d i).answer))
told-bare Subset bs None both d = refl
told-bare Subset bs (Some x) both d = ap (λ (t : Option ValueType). typed_by x (set_over t) bs) (second-bare (ask_domain 0 d).answer (ask_domain 0 (bare_outcome d)).answer (λ i. (domain-bare 0 d i).answer))
told-bare StrictSubset bs None both d = refl
told-bare StrictSubset bs (Some x) both d = ap (λ (t : Option ValueType). typed_by x (set_over t) bs) (second-bare (ask_domain 0 d).answer (ask_domain 0 (bare_outcome d)).answer (λ i. (domain-bare 0 d i).answer))
told-bare Equal bs None both d = refl
told-bare Equal bs (Some x) both d = ap (λ (t : Option ValueType). typed_by x t bs) (second-bare (ask_value 0 d).answer (ask_value 0 (bare_outcome d)).answer (λ i. (value-bare 0 d i).answer))
told-bare _ bs y both d = refl

ranged_as-bare : (x : List ℕ) (r s : Formula × ValueType × ℕ) (rs : List Ranged) → bare_range (Some r) ≡ bare_range (Some s) → erased (ranged_as x r rs) ≡ erased (ranged_as x s (erased rs))
ranged_as-bare x r s [] h = refl
ranged_as-bare x r s (b ∷ bs) h = by (bytes_eq b.text x) (ranged_as-bare x r s bs h)
  where
    first : (o : Option (Formula × ValueType × ℕ)) → bare_range (first_range o r) ≡ bare_range (first_range (bare_range o) s)
    first None = h
    first (Some q) = refl

    again : (o : Option (Formula × ValueType × ℕ)) → bare_range o ≡ bare_range (bare_range o)
    again None = refl
    again (Some q) = refl

    by : (c : Bool) → erased (ranged_as x r bs) ≡ erased (ranged_as x s (erased bs)) →
        erased (cond c (record { text = b.text; at = b.at; range = first_range b.range r } ∷ bs) (b ∷ ranged_as x r bs)) ≡ erased (cond c (record { text = b.text; at = b.at; range = first_range (bare_range b.range) s } ∷ erased bs) (record { text = b.text; at = b.at; range = bare_range b.range } ∷ ranged_as x s (erased bs)))
    by true g i = record { text = b.text; at = b.at; range = first b.range i } ∷ erased-twice bs i
    by false g i = record { text = b.text; at = b.at; range = again b.range i } ∷ g i

ranged_by-bare : (x : List ℕ) (o p : Option (Formula × ValueType)) (n : ℕ) (rs : List Ranged) → option_map no_pair o ≡ option_map no_pair p → erased (ranged_by x o n rs) ≡ erased (ranged_by x p n (erased rs))
ranged_by-bare x None None n rs h = erased-twice rs
ranged_by-bare x (Some d) (Some e) n rs h = ranged_as-bare x (d.0, d.1, n) (e.0, e.1, n) rs (ap (λ (o : Option (Formula × ValueType)). numbered o) h)
  where
    numbered : Option (Formula × ValueType) → Option (Formula × ValueType × ℕ)
    numbered None = None
    numbered (Some d) = Some (btrue, d.1, n)
ranged_by-bare x None (Some e) n rs h = absurd (cc)
ranged_by-bare x (Some d) None n rs h = absurd (cc)

single-same : (o p : Option (Formula × ValueType)) → option_map no_pair o ≡ option_map no_pair p → option_map no_pair (as_single o) ≡ option_map no_pair (as_single p)
single-same o p h = aside o ∙ (ap (λ (q : Option (Formula × ValueType)). option_map no_pair (as_single q)) h ∙ sym (aside p))
  where
    aside : (o : Option (Formula × ValueType)) → option_map no_pair (as_single o) ≡ option_map no_pair (as_single (option_map no_pair o))
    aside None = refl
    aside (Some d) = refl

ranges_by-bare : (o : InfixOp) (n : ℕ) (rs : List Ranged) (y : Option (List ℕ)) (both : List Ranged) (c : Bool) (d : Outcome) → erased (ranges_by o n rs y both c d) ≡ erased (ranges_by o n (erased rs) y (erased both) c (bare_outcome d))
ranges_by-bare And n rs y both true d = erased-twice both
ranges_by-bare And n rs y both false d = erased-twice both
ranges_by-bare Member n rs None both false d = erased-twice rs
ranges_by-bare Member n rs (Some x) both false d = ranged_by-bare x (ask_set 0 d).answer (ask_set 0 (bare_outcome d)).answer n rs (λ i. (set-bare 0 d i).answer)
ranges_by-bare Member n rs y both true d = erased-twice rs
ranges_by-bare Equal n rs None both false d = erased-twice rs
ranges_by-bare Equal n rs (Some x) both false d = ranged_by-bare x (as_single (ask_value 0 d).answer) (as_single (ask_value 0 (bare_outcome d)).answer) n rs (single-same (ask_value 0 d).answer (ask_value 0 (bare_outcome d)).answer (λ i. (value-bare 0 d i).answer))
ranges_by-bare Equal n rs y both true d = erased-twice rs
ranges_by-bare _ n rs y both c d = erased-twice rs

abbrev bare_option : Option Reading → Option Reading
bare_option None = None
bare_option (Some r) = Some (bare_reading r)

left-bare : (c : Bool) (o p : Option Reading) (r s : Reading) → bare_option o ≡ bare_option p → bare_reading r ≡ bare_reading s → bare_option (left_over c o r) ≡ bare_option (left_over c p s)
left-bare true o p r s h g = h
left-bare false None None r s h g = ap (λ (q : Reading). Some q) g
left-bare false (Some q) (Some w) r s h g = ap (λ (z : Reading). Some z) (joined (ap or_silent h))
  where
    or_silent : Option Reading → Reading
    or_silent None = silently []
    or_silent (Some z) = z

    joined : bare_reading q ≡ bare_reading w → bare_reading (conjoined q r) ≡ bare_reading (conjoined w s)
    joined h i = record {
      outcome = (ap (λ (z : Reading). z.outcome) (connected-bare Conjunction q.outcome r.outcome) ∙ ((λ j. bare_outcome (connected Conjunction (h j).outcome (g j).outcome).outcome) ∙ sym (ap (λ (z : Reading). z.outcome) (connected-bare Conjunction w.outcome s.outcome)))) i;
      faults = (h i).faults ++ (g i).faults;
    }
left-bare false None (Some w) r s h g = absurd (cc)
left-bare false (Some q) None r s h g = absurd (cc)

body-bare : (o p : Option Reading) → bare_option o ≡ bare_option p → bare_reading (body_of o) ≡ bare_reading (body_of p)
body-bare o p h = aside o ∙ (ap (λ (q : Option Reading). bare_reading (body_of q)) h ∙ sym (aside p))
  where
    aside : (o : Option Reading) → bare_reading (body_of o) ≡ bare_reading (body_of (bare_option o))
    aside None = refl
    aside (Some r) = λ i. record { outcome = outcome-idle r.outcome i; faults = r.faults }

cond-option : (c : Bool) (o p q r : Option Reading) → bare_option o ≡ bare_option q → bare_option p ≡ bare_option r → bare_option (cond c o p) ≡ bare_option (cond c q r)
cond-option true o p q r h g = h
cond-option false o p q r h g = g

and-not : (a b : Bool) → a ≡ false → b ≡ true → (not a && b) ≡ true
and-not a b h k = rw (h, k) refl

one-false : (all : List RawName) (d : RawTree) (x : List ℕ) → names_one all d ≡ false → stands_free x d ≡ true → is_among x all ≡ false
one-false [] d x e h = refl
one-false (y ∷ ys) d x e h =
    let k = or-neither (stands_free y.text d) (names_one ys d) e in
    or-none (bytes_eq y.text x) (is_among x ys) (differ k.0) (one-false ys d x k.1 h)
  where
    differ : stands_free y.text d ≡ false → bytes_eq y.text x ≡ false
    differ n = elim (either (bytes_eq y.text x)) [ inl t ↦ no-name (sym n ∙ (ap (λ (z : List ℕ). stands_free z d) ((bytes_eq-Decides y.text x).0 t) ∙ h)) | inr f ↦ f ]

hidden : (o : InfixOp) (n : ℕ) (rs : List Ranged) (y : Option (List ℕ)) (both : List Ranged) (r s : Outcome) → ranges_by o n rs y both true r ≡ ranges_by o n rs y both true s
hidden And n rs y both r s = refl
hidden Member n rs None both r s = refl
hidden Member n rs (Some y) both r s = refl
hidden Equal n rs None both r s = refl
hidden Equal n rs (Some y) both r s = refl
hidden _ n rs y both r s = refl

-- ---- readings
-- each name with a dollar sign is found alike, where no name of the binder has one
abbrev pub DollarsAlike : Bool → Names → Names → Type 0
DollarsAlike dollar ns ms = dollar ≡ false → (x : List ℕ) → has_dollar x ≡ true → BareAt ns ms x

dollars-inside : (dollar : Bool) (bs : List Bound) (ns ms : Names) → DollarsAlike dollar ns ms → DollarsAlike dollar (inside bs ns) (inside bs ms)
dollars-inside dollar bs ns ms g e x h = inside-bare bs ns ms x (g e x h)

module _ (int_max : ℤ) (dollar : Bool) where
  mutual
    pub reading-bare : (t : RawTree) (ns ms : Names) → DollarsAlike dollar ns ms → has_additions dollar t ≡ false → ((x : List ℕ) → stands_free x t ≡ true → BareAt ns ms x) → bare_reading (reading int_max ns t) ≡ bare_reading (reading int_max ms t)
    reading-bare (raw at node) ns ms g p f = node-bare node at ns ms g p f

    node-bare : (node : RawTreeNode) (at : ℕ) (ns ms : Names) → DollarsAlike dollar ns ms → node_has_additions dollar node ≡ false → ((x : List ℕ) → is_free_in x node ≡ true → BareAt ns ms x) → bare_reading (node_reading int_max ns at node) ≡ bare_reading (node_reading int_max ms at node)
    node-bare (raw_name y) at ns ms g p f = name-bare at (found 0 ns y) ∙ (ap (λ (s : Sight). bare_reading (name_reading at s)) (f y ((bytes_eq-Decides y y).1 refl) 0 0) ∙ sym (name-bare at (found 0 ms y)))
    node-bare (raw_level_name y n) at ns ms g p f = name-bare at (found 0 ns (level_name y n)) ∙ (ap (λ (s : Sight). bare_reading (name_reading at s)) (g p (level_name y n) (level-dollar y n) 0 0) ∙ sym (name-bare at (found 0 ms (level_name y n))))
    node-bare (raw_bound_name k) at ns ms g p f = no-name (sym p)
    node-bare (raw_number z) at ns ms g p f = refl
    node-bare (raw_constant c) at ns ms g p f = refl
    node-bare (raw_word o a) at ns ms g p f = one-part-bare (word_reading o at (place_of a)) (word-bare o at (place_of a)) _ _ (part-bare (takes_predicate o) a (reading int_max ns a) (reading int_max ms a) (reading-bare a ns ms g p f))
    node-bare (raw_negative a) at ns ms g p f = one-part-bare (negative_reading (place_of a)) (negative-bare (place_of a)) _ _ (part-bare false a (reading int_max ns a) (reading int_max ms a) (reading-bare a ns ms g p f))
    node-bare (raw_infix o a b) at ns ms g p f =
        let n = or-neither (has_additions dollar a) (has_additions dollar b) p in
        spoilt-bare (strict_faults o a b) _ _
        (two-parts-bare (infix_reading o at (place_of a) (place_of b)) (infix-bare o at (place_of a) (place_of b)) _ _ _ _
        (part-bare (is_connective o) a (reading int_max ns a) (reading int_max ms a) (reading-bare a ns ms g n.0 (λ x e. f x (or-left (stands_free x a) (stands_free x b) e))))
        (part-bare (is_connective o) b (reading int_max ns b) (reading int_max ms b) (reading-bare b ns ms g n.1 (λ x e. f x (or-right (stands_free x a) (stands_free x b) e)))))
    node-bare (raw_inverse a) at ns ms g p f = one-part-bare (inverse_reading (place_of a)) (inverse-bare (place_of a)) _ _ (part-bare false a (reading int_max ns a) (reading int_max ms a) (reading-bare a ns ms g p f))
    node-bare (raw_image a b) at ns ms g p f =
        let n = or-neither (has_additions dollar a) (has_additions dollar b) p in
        two-parts-bare (image_reading (place_of a) (place_of b)) (image-bare (place_of a) (place_of b)) _ _ _ _
        (part-bare false a (reading int_max ns a) (reading int_max ms a) (reading-bare a ns ms g n.0 (λ x e. f x (or-left (stands_free x a) (stands_free x b) e))))
        (part-bare false b (reading int_max ns b) (reading int_max ms b) (reading-bare b ns ms g n.1 (λ x e. f x (or-right (stands_free x a) (stands_free x b) e))))
    node-bare (raw_apply a b) at ns ms g p f =
        let n = or-neither (has_additions dollar a) (has_additions dollar b) p in
        two-parts-bare (apply_reading (place_of a) (place_of b)) (apply-bare (place_of a) (place_of b)) _ _ _ _
        (part-bare false a (reading int_max ns a) (reading int_max ms a) (reading-bare a ns ms g n.0 (λ x e. f x (or-left (stands_free x a) (stands_free x b) e))))
        (part-bare false b (reading int_max ns b) (reading int_max ms b) (reading-bare b ns ms g n.1 (λ x e. f x (or-right (stands_free x a) (stands_free x b) e))))
    node-bare (raw_composition a b) at ns ms g p f =
        let n = or-neither (has_additions dollar a) (has_additions dollar b) p in
        two-parts-bare (composition_reading at (place_of a) (place_of b)) (composing-bare at (place_of a) (place_of b)) _ _ _ _
        (part-bare false a (reading int_max ns a) (reading int_max ms a) (reading-bare a ns ms g n.0 (λ x e. f x (or-left (stands_free x a) (stands_free x b) e))))
        (part-bare false b (reading int_max ns b) (reading int_max ms b) (reading-bare b ns ms g n.1 (λ x e. f x (or-right (stands_free x a) (stands_free x b) e))))
    node-bare (raw_pair a b) at ns ms g p f =
        let n = or-neither (has_additions dollar a) (has_additions dollar b) p in
        two-parts-bare pair_reading pair-bare _ _ _ _
        (part-bare false a (reading int_max ns a) (reading int_max ms a) (reading-bare a ns ms g n.0 (λ x e. f x (or-left (stands_free x a) (stands_free x b) e))))
        (part-bare false b (reading int_max ns b) (reading int_max ms b) (reading-bare b ns ms g n.1 (λ x e. f x (or-right (stands_free x a) (stands_free x b) e))))
    node-bare raw_empty_set at ns ms g p f = refl
    node-bare (raw_extension ts) at ns ms g p f = extension-bare ts at ns ms g p f
    node-bare (raw_for_all xs q) at ns ms g p f =
        let bs = premise_clues int_max ns (bound_names xs) q in
        let out : (x : List ℕ) → stands_free x q ≡ true → is_among x xs ≡ false → BareAt ns ms x = λ x h m. f x (and-not (is_among x xs) (stands_free x q) m h) in
        let e = premise-bare q ns ms (bound_names xs) g p (λ x h u. out x h (sym (names-bound xs x) ∙ u)) in
        let r = reading-bare q (inside bs ns) (inside bs ms) (dollars-inside dollar bs ns ms g) p (λ x h. either-bare bs ns ms x (λ u. out x h (sym (premise-bound int_max q ns (bound_names xs) x ∙ names-bound xs x) ∙ u))) in
        quantified-bare for_all (twice [] xs) bs _ _ (part-bare true q (reading int_max (inside bs ns) q) (reading int_max (inside bs ms) q) r)
        ∙ ap (λ (cs : List Bound). bare_reading (quantified for_all (twice [] xs) cs (part true q (reading int_max (inside cs ms) q)))) e
    node-bare (raw_exists xs q) at ns ms g p f =
        let bs = clues int_max ns (bound_names xs) q in
        let out : (x : List ℕ) → stands_free x q ≡ true → is_among x xs ≡ false → BareAt ns ms x = λ x h m. f x (and-not (is_among x xs) (stands_free x q) m h) in
        let e = clues-bare q ns ms (bound_names xs) g p (λ x h u. out x h (sym (names-bound xs x) ∙ u)) in
        let r = reading-bare q (inside bs ns) (inside bs ms) (dollars-inside dollar bs ns ms g) p (λ x h. either-bare bs ns ms x (λ u. out x h (sym (clues-bound int_max q ns (bound_names xs) x ∙ names-bound xs x) ∙ u))) in
        quantified-bare for_some (twice [] xs) bs _ _ (part-bare true q (reading int_max (inside bs ns) q) (reading int_max (inside bs ms) q) r)
        ∙ ap (λ (cs : List Bound). bare_reading (quantified for_some (twice [] xs) cs (part true q (reading int_max (inside cs ms) q)))) e
    node-bare (raw_comprehension xs q) at ns ms g p f =
        let rs = ranges int_max ns xs 0 (unranged xs) q in
        let ws = ranges int_max ms xs 0 (unranged xs) q in
        let out : (x : List ℕ) → stands_free x q ≡ true → is_among x xs ≡ false → BareAt ns ms x = λ x h m. f x (and-not (is_among x xs) (stands_free x q) m h) in
        let e : erased rs ≡ erased ws = ranges-bare q ns ms xs 0 (unranged xs) (unranged xs) g p refl out in
        let k = rest-bare q (inside (as_bound rs) ns) (inside (as_bound rs) ms) rs ws 0 None None (dollars-inside dollar (as_bound rs) ns ms g) p e refl (λ x h. either-bare (as_bound rs) ns ms x (λ u. out x h (sym (ranges-bound int_max q ns xs 0 (unranged xs) x ∙ unranged-bound xs x) ∙ u))) in
        comprehended-bare at (twice [] xs) rs ws _ _ e (body-bare _ _ k)
        ∙ ap (λ (bs : List Bound). bare_reading (comprehended at (twice [] xs) ws (body_of (rest int_max (inside bs ms) ws 0 None q)))) (bound-same rs ws e)
    node-bare (raw_lambda xs q v) at ns ms g p f =
        let rs = ranges int_max ns xs 0 (unranged xs) q in
        let ws = ranges int_max ms xs 0 (unranged xs) q in
        let n = or-neither (has_additions dollar q) (has_additions dollar v) p in
        let out : (x : List ℕ) → (stands_free x q || stands_free x v) ≡ true → is_among x xs ≡ false → BareAt ns ms x = λ x h m. f x (and-not (is_among x xs) (stands_free x q || stands_free x v) m h) in
        let within : (x : List ℕ) → (stands_free x q || stands_free x v) ≡ true → BareAt (inside (as_bound rs) ns) (inside (as_bound rs) ms) x = λ x h. either-bare (as_bound rs) ns ms x (λ u. out x h (sym (ranges-bound int_max q ns xs 0 (unranged xs) x ∙ unranged-bound xs x) ∙ u)) in
        let e : erased rs ≡ erased ws = ranges-bare q ns ms xs 0 (unranged xs) (unranged xs) g n.0 refl (λ x h m. out x (or-left (stands_free x q) (stands_free x v) h) m) in
        let k = rest-bare q (inside (as_bound rs) ns) (inside (as_bound rs) ms) rs ws 0 None None (dollars-inside dollar (as_bound rs) ns ms g) n.0 e refl (λ x h. within x (or-left (stands_free x q) (stands_free x v) h)) in
        let l = part-bare false v (reading int_max (inside (as_bound rs) ns) v) (reading int_max (inside (as_bound rs) ms) v) (reading-bare v (inside (as_bound rs) ns) (inside (as_bound rs) ms) (dollars-inside dollar (as_bound rs) ns ms g) n.1 (λ x h. within x (or-right (stands_free x q) (stands_free x v) h))) in
        abstracted-bare at (twice [] xs) rs ws _ _ (place_of v) _ _ e (body-bare _ _ k) l
        ∙ ap (λ (bs : List Bound). bare_reading (abstracted at (twice [] xs) ws (body_of (rest int_max (inside bs ms) ws 0 None q)) (place_of v) (part false v (reading int_max (inside bs ms) v)))) (bound-same rs ws e)
    node-bare (raw_typed_empty t) at ns ms g p f = no-name (sym p)
    node-bare (raw_typed_for_all bs q) at ns ms g p f = no-name (sym p)
    node-bare (raw_typed_exists bs q) at ns ms g p f = no-name (sym p)
    node-bare (raw_ranged_comprehension rs q) at ns ms g p f = no-name (sym p)
    node-bare (raw_ranged_lambda rs q v) at ns ms g p f = no-name (sym p)

    extension-bare : (ts : RawTrees) (at : ℕ) (ns ms : Names) → DollarsAlike dollar ns ms → some_have_additions dollar ts ≡ false → ((x : List ℕ) → is_free_in_some x ts ≡ true → BareAt ns ms x) → bare_reading (extension_reading int_max ns at ts) ≡ bare_reading (extension_reading int_max ms at ts)
    extension-bare no_trees at ns ms g p f = refl
    extension-bare (tree_and t ts) at ns ms g p f =
        let n = or-neither (has_additions dollar t) (some_have_additions dollar ts) p in
        elements-bare ts at ns ms (from_one single_reading (part false t (reading int_max ns t))) (from_one single_reading (part false t (reading int_max ms t))) g n.1
        (one-part-bare single_reading single-bare _ _ (part-bare false t (reading int_max ns t) (reading int_max ms t) (reading-bare t ns ms g n.0 (λ x h. f x (or-left (stands_free x t) (is_free_in_some x ts) h)))))
        (λ x h. f x (or-right (stands_free x t) (is_free_in_some x ts) h))

    elements-bare : (ts : RawTrees) (at : ℕ) (ns ms : Names) (before other : Reading) → DollarsAlike dollar ns ms → some_have_additions dollar ts ≡ false → bare_reading before ≡ bare_reading other → ((x : List ℕ) → is_free_in_some x ts ≡ true → BareAt ns ms x) →
        bare_reading (elements_reading int_max ns at before ts) ≡ bare_reading (elements_reading int_max ms at other ts)
    elements-bare no_trees at ns ms before other g p h f = h
    elements-bare (tree_and t ts) at ns ms before other g p h f =
        let n = or-neither (has_additions dollar t) (some_have_additions dollar ts) p in
        elements-bare ts at ns ms (from_two (extended at) before (part false t (reading int_max ns t))) (from_two (extended at) other (part false t (reading int_max ms t))) g n.1
        (two-parts-bare (extended at) (extended-bare at) _ _ _ _ h (part-bare false t (reading int_max ns t) (reading int_max ms t) (reading-bare t ns ms g n.0 (λ x h. f x (or-left (stands_free x t) (is_free_in_some x ts) h)))))
        (λ x h. f x (or-right (stands_free x t) (is_free_in_some x ts) h))

    premise-bare : (t : RawTree) (ns ms : Names) (bs : List Bound) → DollarsAlike dollar ns ms → has_additions dollar t ≡ false → ((x : List ℕ) → stands_free x t ≡ true → is_bound x bs ≡ false → BareAt ns ms x) → premise_clues int_max ns bs t ≡ premise_clues int_max ms bs t
    premise-bare (raw at (raw_infix Implies a b)) ns ms bs g p f = clues-bare a ns ms bs g (or-neither (has_additions dollar a) (has_additions dollar b) p).0 (λ x h u. f x (or-left (stands_free x a) (stands_free x b) h) u)
    premise-bare (raw at _) ns ms bs g p f = refl

    clues-bare : (t : RawTree) (ns ms : Names) (bs : List Bound) → DollarsAlike dollar ns ms → has_additions dollar t ≡ false → ((x : List ℕ) → stands_free x t ≡ true → is_bound x bs ≡ false → BareAt ns ms x) → clues int_max ns bs t ≡ clues int_max ms bs t
    clues-bare (raw at (raw_infix o a d)) ns ms bs g p f =
        let n = or-neither (has_additions dollar a) (has_additions dollar d) p in
        let first = clues-bare a ns ms bs g n.0 (λ x h u. f x (or-left (stands_free x a) (stands_free x d) h) u) in
        let second = clues-bare d ns ms (clues int_max ns bs a) g n.1 (λ x h u. f x (or-right (stands_free x a) (stands_free x d) h) (sym (clues-bound int_max a ns bs x) ∙ u)) in
        let r = reading-bare d (inside bs ns) (inside bs ms) (dollars-inside dollar bs ns ms g) n.1 (λ x h. either-bare bs ns ms x (λ u. f x (or-right (stands_free x a) (stands_free x d) h) u)) in
        let both = clues int_max ms (clues int_max ms bs a) d in
        ap (λ (cs : List Bound). told_by o bs (name_of a) cs (reading int_max (inside bs ns) d).outcome) (second ∙ ap (λ (cs : List Bound). clues int_max ms cs d) first)
        ∙ (told-bare o bs (name_of a) both (reading int_max (inside bs ns) d).outcome
        ∙ (ap (λ (w : Reading). told_by o bs (name_of a) both w.outcome) r
        ∙ sym (told-bare o bs (name_of a) both (reading int_max (inside bs ms) d).outcome)))
    clues-bare (raw at _) ns ms bs g p f = refl

    ranges-bare : (t : RawTree) (ns ms : Names) (all : List RawName) (n : ℕ) (rs ws : List Ranged) → DollarsAlike dollar ns ms → has_additions dollar t ≡ false → erased rs ≡ erased ws → ((x : List ℕ) → stands_free x t ≡ true → is_among x all ≡ false → BareAt ns ms x) →
        erased (ranges int_max ns all n rs t) ≡ erased (ranges int_max ms all n ws t)
    ranges-bare (raw at (raw_infix o a d)) ns ms all n rs ws g p e f =
        let c = or-neither (has_additions dollar a) (has_additions dollar d) p in
        let first = ranges-bare a ns ms all n rs ws g c.0 e (λ x h m. f x (or-left (stands_free x a) (stands_free x d) h) m) in
        let second = ranges-bare d ns ms all (n + length (conjuncts a)) (ranges int_max ns all n rs a) (ranges int_max ms all n ws a) g c.1 first (λ x h m. f x (or-right (stands_free x a) (stands_free x d) h) m) in
        let one = ranges int_max ns all (n + length (conjuncts a)) (ranges int_max ns all n rs a) d in
        let other = ranges int_max ms all (n + length (conjuncts a)) (ranges int_max ms all n ws a) d in
        let r = (part false d (reading int_max ns d)).outcome in
        let s = (part false d (reading int_max ms d)).outcome in
        elim (either (names_one all d)) [
          | inl h ↦ ap (λ (b : Bool). erased (ranges_by o n rs (name_of a) one b r)) h
              ∙ (ranges_by-bare o n rs (name_of a) one true r
              ∙ ((λ i. erased (ranges_by o n (e i) (name_of a) (second i) true (bare_outcome r)))
              ∙ (ap erased (hidden o n (erased ws) (name_of a) (erased other) (bare_outcome r) (bare_outcome s))
              ∙ (sym (ranges_by-bare o n ws (name_of a) other true s)
              ∙ sym (ap (λ (b : Bool). erased (ranges_by o n ws (name_of a) other b s)) h)))))
          | inr h ↦
              let l = part-bare false d (reading int_max ns d) (reading int_max ms d) (reading-bare d ns ms g c.1 (λ x k. f x (or-right (stands_free x a) (stands_free x d) k) (one-false all d x h k))) in
              ranges_by-bare o n rs (name_of a) one (names_one all d) r
              ∙ ((λ i. erased (ranges_by o n (e i) (name_of a) (second i) (names_one all d) (l i).outcome))
              ∙ sym (ranges_by-bare o n ws (name_of a) other (names_one all d) s))
        ]
    ranges-bare (raw at _) ns ms all n rs ws g p e f = e

    rest-bare : (t : RawTree) (ns ms : Names) (rs ws : List Ranged) (n : ℕ) (before other : Option Reading) → DollarsAlike dollar ns ms → has_additions dollar t ≡ false → erased rs ≡ erased ws → bare_option before ≡ bare_option other → ((x : List ℕ) → stands_free x t ≡ true → BareAt ns ms x) →
        bare_option (rest int_max ns rs n before t) ≡ bare_option (rest int_max ms ws n other t)
    rest-bare (raw at node) ns ms rs ws n before other g p e h f =
        rest_in-bare node ns ms rs ws n before other (part true (raw at node) (node_reading int_max ns at node)) (part true (raw at node) (node_reading int_max ms at node)) g p e h
        (part-bare true (raw at node) (node_reading int_max ns at node) (node_reading int_max ms at node) (node-bare node at ns ms g p f)) f

    rest_in-bare : (node : RawTreeNode) (ns ms : Names) (rs ws : List Ranged) (n : ℕ) (before other : Option Reading) (r s : Reading) → DollarsAlike dollar ns ms → node_has_additions dollar node ≡ false → erased rs ≡ erased ws → bare_option before ≡ bare_option other → bare_reading r ≡ bare_reading s →
        ((x : List ℕ) → is_free_in x node ≡ true → BareAt ns ms x) → bare_option (rest_in int_max ns rs n before r node) ≡ bare_option (rest_in int_max ms ws n other s node)
    rest_in-bare (raw_infix o a b) ns ms rs ws n before other r s k p e h g f =
        let c = or-neither (has_additions dollar a) (has_additions dollar b) p in
        cond-option (is_and o) _ _ _ _
        (rest-bare b ns ms rs ws (n + length (conjuncts a)) (rest int_max ns rs n before a) (rest int_max ms ws n other a) k c.1 e
        (rest-bare a ns ms rs ws n before other k c.0 e h (λ x z. f x (or-left (stands_free x a) (stands_free x b) z)))
        (λ x z. f x (or-right (stands_free x a) (stands_free x b) z)))
        (left-bare (is_used n rs) before other r s h g ∙ ap (λ (u : Bool). bare_option (left_over u other s)) (used-same n rs ws e))
    rest_in-bare _ ns ms rs ws n before other r s k p e h g f = left-bare (is_used n rs) before other r s h g ∙ ap (λ (u : Bool). bare_option (left_over u other s)) (used-same n rs ws e)

-- ---- inside a binder
bound-grown : (all : List RawName) (cs : List Bound) (x : List ℕ) → Grows (bound_names all) cs → is_bound x cs ≡ is_among x all
bound-grown [] [] x g = refl
bound-grown [] (c ∷ cs) x g = absurd g
bound-grown (y ∷ ys) [] x g = absurd g
bound-grown (y ∷ ys) (c ∷ cs) x g = λ i. bytes_eq (g.0 i) x || bound-grown ys cs x g.2 i

-- a term that names none of the bound names tells the same types inside as outside, with the same faults
pub unmoved : (m : ℤ) (names : Names) (all : List RawName) (cs : List Bound) (d : RawTree) → Grows (bound_names all) cs → names_one all d ≡ false → has_additions (names_dollar all) d ≡ false → bare_reading (reading m names d) ≡ bare_reading (reading m (inside cs names) d)
unmoved m names all cs d g n p = reading-bare m (names_dollar all) d names (inside cs names) (λ e x h. outside-bare cs names names x (bound-grown all cs x g ∙ names-none all x e h) (at-itself names x)) p (λ x h. outside-bare cs names names x (bound-grown all cs x g ∙ one-false all d x n h) (at-itself names x))
