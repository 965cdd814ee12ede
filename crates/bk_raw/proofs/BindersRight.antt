-- What binders make of right bodies is right.
use Rattle.std.proofs.Common.{◌≡◌, ℕ, List, [], ◌∷◌, refl, Bool, true, false, cond, ◌&&◌}
use Rattle.std.specs.Prelude.{Option, None, Some}
use Rattle.std.specs.Str.{bytes_eq}
use Rattle.bk_val.specs.ValueType.{ValueType, pair_type, set_type}
use Rattle.bk_form.specs.Table.{Table, lists_type}
use Rattle.bk_form.specs.Formula.{Formula, for_all, for_some, comprehension, lambda}
use Rattle.bk_form.specs.Role.{role, roles, gives, predicate, all_listed, bind, each_gives_set, are_ranges, element_type, element_types, tuple_type_onto, tuple_type}
use Rattle.bk_raw.specs.declared.operator.InfixOp.{InfixOp}
use Rattle.bk_raw.specs.declared.operator.InfixOp.TheVariants.{And, Equal, Member, Subset, StrictSubset}
use Rattle.bk_raw.specs.declared.term.RawName.{RawName}
use Rattle.bk_raw.specs.Meaning.Names.{Names, local, Agree}
use Rattle.bk_raw.specs.Meaning.Outcome.{whole, Outcome, partial, ranging, holding, silent, Reading, ask_value, ask_set, ask_domain}
use Rattle.bk_raw.specs.Meaning.Binders.{Bound, bound_names, inside, or_bool, types_of, has_type, all_typed, first_type, typed_as, typed_by, second, set_over, told_by, where_typed, if_holding, quantified, Ranged, unranged, first_range, ranged_as, ranged_by, as_single, ranges_by, range_type, as_bound, range_or, ranges_of, is_some_name, comprehended, if_giving, abstracted}
use Rattle.bk_raw.specs.Meaning.RightReading.{Whenever}
use Rattle.bk_raw.proofs.Filled.{and-true, and-both}
use Rattle.bk_raw.proofs.Asks.{Right, clean-right, Of, IsDomain, ask_value-right, ask_set-right, ask_domain-right}
use Rattle.bk_raw.specs.Errors.Faults.{Fault}

module _ (table : Table) where
  abbrev pub Lists : ValueType → Type 0
  Lists t = lists_type table t ≡ true

  -- the types of the names are listed
  abbrev pub AreListed : List Bound → Type 0
  AreListed [] = Unit {0}
  AreListed (b ∷ bs) = Whenever Lists b.of_type × AreListed bs

  pub names-listed : (xs : List RawName) → AreListed (bound_names xs)
  names-listed [] = tt
  names-listed (x ∷ xs) = (tt, names-listed xs)

  first_type-listed : (o : Option ValueType) (t : ValueType) → Whenever Lists o → Lists t → Whenever Lists (first_type o t)
  first_type-listed None t h l = l
  first_type-listed (Some u) t h l = h

  cond-listed : (c : Bool) (cs bs : List Bound) → AreListed cs → AreListed bs → AreListed (cond c cs bs)
  cond-listed true cs bs h k = h
  cond-listed false cs bs h k = k

  typed_as-listed : (text : List ℕ) (t : ValueType) (bs : List Bound) → AreListed bs → Lists t → AreListed (typed_as text t bs)
  typed_as-listed text t [] h l = tt
  typed_as-listed text t (b ∷ bs) h l = cond-listed (bytes_eq b.text text) (record { text = b.text; at = b.at; of_type = first_type b.of_type t } ∷ bs) (b ∷ typed_as text t bs) (first_type-listed b.of_type t h.0 l, h.1) (h.0, typed_as-listed text t bs h.1 l)

  typed_by-listed : (text : List ℕ) (t : Option ValueType) (bs : List Bound) → AreListed bs → Whenever Lists t → AreListed (typed_by text t bs)
  typed_by-listed text None bs h l = h
  typed_by-listed text (Some t) bs h l = typed_as-listed text t bs h l

  module _ (around : List ValueType) where
    domain-listed : (d : Option (Formula × ValueType)) → Whenever (IsDomain table around) d → Whenever Lists (second d)
    domain-listed None h = tt
    domain-listed (Some p) h = h.listed

    power-listed : (d : Option (Formula × ValueType)) → Whenever (IsDomain table around) d → Whenever Lists (set_over (second d))
    power-listed None h = tt
    power-listed (Some p) h = h.listed

    value-listed : (d : Option (Formula × ValueType)) → Whenever (λ p. Of table around p.0 p.1) d → Whenever Lists (second d)
    value-listed None h = tt
    value-listed (Some p) h = h.1

    pub told_by-listed : (o : InfixOp) (bs : List Bound) (x : Option (List ℕ)) (both : List Bound) (d : Outcome) → AreListed bs → AreListed both → Right table around d → AreListed (told_by o bs x both d)
    told_by-listed And bs x both d h k r = k
    told_by-listed Member bs (Some x) both d h k r = typed_by-listed x (second (ask_domain 0 d).answer) bs h (domain-listed (ask_domain 0 d).answer (ask_domain-right table around 0 d r))
    told_by-listed Subset bs (Some x) both d h k r = typed_by-listed x (set_over (second (ask_domain 0 d).answer)) bs h (power-listed (ask_domain 0 d).answer (ask_domain-right table around 0 d r))
    told_by-listed StrictSubset bs (Some x) both d h k r = typed_by-listed x (set_over (second (ask_domain 0 d).answer)) bs h (power-listed (ask_domain 0 d).answer (ask_domain-right table around 0 d r))
    told_by-listed Equal bs (Some x) both d h k r = typed_by-listed x (second (ask_value 0 d).answer) bs h (value-listed (ask_value 0 d).answer (ask_value-right table around 0 d r))
    told_by-listed _ bs x both d h k r = h

  local-agrees : (text : List ℕ) (o : Option ValueType) (around : List ValueType) (names : Names) → Whenever Lists o → Agree table around names → Agree table (or_bool o ∷ around) (record { text = text; meaning = local o } ∷ names)
  local-agrees text None around names h a = a
  local-agrees text (Some t) around names h a = (refl, h, a)

  -- inside the binder the names agree with the types that are bound
  pub inside-agrees : (bs : List Bound) (around : List ValueType) (names : Names) → AreListed bs → Agree table around names → Agree table (bind (types_of bs) around) (inside bs names)
  inside-agrees [] around names h a = a
  inside-agrees (b ∷ bs) around names h a = inside-agrees bs (or_bool b.of_type ∷ around) (record { text = b.text; meaning = local b.of_type } ∷ names) h.1 (local-agrees b.text b.of_type around names h.0 a)

  or_bool-listed : (o : Option ValueType) → Whenever Lists o → Lists (or_bool o)
  or_bool-listed None h = refl
  or_bool-listed (Some t) h = h

  types-listed : (bs : List Bound) → AreListed bs → all_listed table (types_of bs) ≡ true
  types-listed [] h = refl
  types-listed (b ∷ bs) h = and-true (lists_type table (or_bool b.of_type)) (all_listed table (types_of bs)) (or_bool-listed b.of_type h.0) (types-listed bs h.1)

  where_typed-right : (around : List ValueType) (c : Bool) (o : Outcome) → (c ≡ true → Right table around o) → Right table around (where_typed c o)
  where_typed-right around true o h = h refl
  where_typed-right around false o h = tt

  -- `within` is what stands around the body
  if_holding-right : (around within : List ValueType) (k : Formula → Outcome) (o : Outcome) → ((p : Formula) → role table within p ≡ predicate → Right table around (k p)) → Right table within o → Right table around (if_holding k o)
  if_holding-right around within k (holding p) g h = g p h
  if_holding-right around within k (partial p) g h = tt
  if_holding-right around within k (ranging f t there) g h = tt
  if_holding-right around within k silent g h = tt

  pub for_all-right : (fs : List Fault) (bs : List Bound) (around : List ValueType) (body : Reading) → AreListed bs → Right table (bind (types_of bs) around) body.outcome → Right table around (quantified for_all fs bs body).outcome
  for_all-right fs bs around body h r = clean-right table around fs (where_typed (all_typed bs) (if_holding (λ p. holding (for_all (types_of bs) p)) body.outcome)) (where_typed-right around (all_typed bs) (if_holding (λ p. holding (for_all (types_of bs) p)) body.outcome) (λ e. if_holding-right around (bind (types_of bs) around) (λ p. holding (for_all (types_of bs) p)) body.outcome (λ p m. rw (m, types-listed bs h) refl) r))

  pub for_some-right : (fs : List Fault) (bs : List Bound) (around : List ValueType) (body : Reading) → AreListed bs → Right table (bind (types_of bs) around) body.outcome → Right table around (quantified for_some fs bs body).outcome
  for_some-right fs bs around body h r = clean-right table around fs (where_typed (all_typed bs) (if_holding (λ p. holding (for_some (types_of bs) p)) body.outcome)) (where_typed-right around (all_typed bs) (if_holding (λ p. holding (for_some (types_of bs) p)) body.outcome) (λ e. if_holding-right around (bind (types_of bs) around) (λ p. holding (for_some (types_of bs) p)) body.outcome (λ p m. rw (m, types-listed bs h) refl) r))

  -- ---- ranges
  module _ (around : List ValueType) where
    abbrev IsRange : Formula × ValueType × ℕ → Type 0
    IsRange r = Of table around r.0 (set_type r.1)

    abbrev pub AreRanges : List Ranged → Type 0
    AreRanges [] = Unit {0}
    AreRanges (b ∷ bs) = Whenever IsRange b.range × AreRanges bs

    pub unranged-right : (xs : List RawName) → AreRanges (unranged xs)
    unranged-right [] = tt
    unranged-right (x ∷ xs) = (tt, unranged-right xs)

    first_range-right : (o : Option (Formula × ValueType × ℕ)) (r : Formula × ValueType × ℕ) → Whenever IsRange o → IsRange r → Whenever IsRange (first_range o r)
    first_range-right None r h l = l
    first_range-right (Some s) r h l = h

    cond-ranges : (c : Bool) (cs bs : List Ranged) → AreRanges cs → AreRanges bs → AreRanges (cond c cs bs)
    cond-ranges true cs bs h k = h
    cond-ranges false cs bs h k = k

    ranged_as-right : (text : List ℕ) (r : Formula × ValueType × ℕ) (bs : List Ranged) → AreRanges bs → IsRange r → AreRanges (ranged_as text r bs)
    ranged_as-right text r [] h l = tt
    ranged_as-right text r (b ∷ bs) h l = cond-ranges (bytes_eq b.text text) (record { text = b.text; at = b.at; range = first_range b.range r } ∷ bs) (b ∷ ranged_as text r bs) (first_range-right b.range r h.0 l, h.1) (h.0, ranged_as-right text r bs h.1 l)

    ranged_by-right : (text : List ℕ) (d : Option (Formula × ValueType)) (at : ℕ) (bs : List Ranged) → AreRanges bs → Whenever (λ p. Of table around p.0 (set_type p.1)) d → AreRanges (ranged_by text d at bs)
    ranged_by-right text None at bs h l = h
    ranged_by-right text (Some d) at bs h l = ranged_as-right text (d.0, d.1, at) bs h l

    single-set : (d : Option (Formula × ValueType)) → Whenever (λ p. Of table around p.0 p.1) d → Whenever (λ p. Of table around p.0 (set_type p.1)) (as_single d)
    single-set None h = tt
    single-set (Some d) h = (rw h.0 refl, h.1)

    pub ranges_by-right : (o : InfixOp) (at : ℕ) (bs : List Ranged) (x : Option (List ℕ)) (both : List Ranged) (c : Bool) (d : Outcome) → AreRanges bs → AreRanges both → Right table around d → AreRanges (ranges_by o at bs x both c d)
    ranges_by-right And at bs x both true d h k r = k
    ranges_by-right And at bs x both false d h k r = k
    ranges_by-right Member at bs (Some x) both false d h k r = ranged_by-right x (ask_set 0 d).answer at bs h (ask_set-right table around 0 d r)
    ranges_by-right Equal at bs (Some x) both false d h k r = ranged_by-right x (as_single (ask_value 0 d).answer) at bs h (single-set (ask_value 0 d).answer (ask_value-right table around 0 d r))
    ranges_by-right _ at bs x both c d h k r = h

    range_type-listed : (o : Option (Formula × ValueType × ℕ)) → Whenever IsRange o → Whenever Lists (range_type o)
    range_type-listed None h = tt
    range_type-listed (Some r) h = h.1

    pub as_bound-listed : (bs : List Ranged) → AreRanges bs → AreListed (as_bound bs)
    as_bound-listed [] h = tt
    as_bound-listed (b ∷ bs) h = (range_type-listed b.range h.0, as_bound-listed bs h.1)

    -- where each name has a range, the ranges are sets of the names' types
    pub record HaveTypes (bs : List Ranged) : Type 0 where
      pub sets : each_gives_set (roles table around (ranges_of bs)) ≡ true
      pub elements : element_types (roles table around (ranges_of bs)) ≡ types_of (as_bound bs)

    range-role : (o : Option (Formula × ValueType × ℕ)) → has_type (range_type o) ≡ true → Whenever IsRange o → role table around (range_or o) ≡ gives (set_type (or_bool (range_type o)))
    range-role None e h = absurd (cc)
    range-role (Some r) e h = h.0

    have-types : (bs : List Ranged) → AreRanges bs → all_typed (as_bound bs) ≡ true → HaveTypes bs
    have-types [] h e = record { sets = refl; elements = refl }
    have-types (b ∷ bs) h e =
        let k = and-both (has_type (range_type b.range)) (all_typed (as_bound bs)) e in
        let r = range-role b.range k.0 h.0 in
        let next = have-types bs h.1 k.1 in
        record { sets = rw (r, next.sets) refl; elements = λ i. element_type (r i) ∷ next.elements i }

    ranges-are : (bs : List Ranged) → is_some_name bs ≡ true → each_gives_set (roles table around (ranges_of bs)) ≡ true → are_ranges (roles table around (ranges_of bs)) ≡ true
    ranges-are [] e h = absurd (cc)
    ranges-are (b ∷ bs) e h = h

  onto-listed : (t : ValueType) (ts : List ValueType) → Lists t → all_listed table ts ≡ true → Lists (tuple_type_onto t ts)
  onto-listed t [] l h = l
  onto-listed t (u ∷ us) l h = let k = and-both (lists_type table u) (all_listed table us) h in onto-listed (pair_type t u) us (and-true (lists_type table t) (lists_type table u) l k.0) k.1

  tuple-listed : (ts : List ValueType) → all_listed table ts ≡ true → Lists (tuple_type ts)
  tuple-listed [] h = refl
  tuple-listed (t ∷ ts) h = let k = and-both (lists_type table t) (all_listed table ts) h in onto-listed t ts k.0 k.1

  module _ (around : List ValueType) where
    pub comprehended-right : (at : ℕ) (fs : List Fault) (bs : List Ranged) (body : Reading) → AreRanges around bs → Right table (bind (types_of (as_bound bs)) around) body.outcome → Right table around (comprehended at fs bs body).outcome
    comprehended-right at fs bs body h r =
        let made : Formula → Outcome = λ p. partial (whole (comprehension (ranges_of bs) p) (set_type (tuple_type (types_of (as_bound bs))))) in
        clean-right table around fs (where_typed (is_some_name bs && all_typed (as_bound bs)) (if_holding made body.outcome)) (where_typed-right around (is_some_name bs && all_typed (as_bound bs)) (if_holding made body.outcome) (λ e.
        let k = and-both (is_some_name bs) (all_typed (as_bound bs)) e in
        let types = have-types around bs h k.1 in
        if_holding-right around (bind (types_of (as_bound bs)) around) made body.outcome (λ p m. (rw (ranges-are around bs k.0 types.sets, types.elements, m) refl, tuple-listed (types_of (as_bound bs)) (types-listed (as_bound bs) (as_bound-listed around bs h)))) r))

    if_giving-right : (within : List ValueType) (k : Formula → ValueType → Outcome) (v : Option (Formula × ValueType)) → ((f : Formula) (u : ValueType) → Of table within f u → Right table around (k f u)) → Whenever (λ p. Of table within p.0 p.1) v → Right table around (if_giving k v)
    if_giving-right within k None g h = tt
    if_giving-right within k (Some v) g h = g v.0 v.1 h

    pub abstracted-right : (at : ℕ) (fs : List Fault) (bs : List Ranged) (body : Reading) (there : ℕ) (image : Reading) → AreRanges around bs → Right table (bind (types_of (as_bound bs)) around) body.outcome → Right table (bind (types_of (as_bound bs)) around) image.outcome → Right table around (abstracted at fs bs body there image).outcome
    abstracted-right at fs bs body there image h r s =
        let within = bind (types_of (as_bound bs)) around in
        let made : Formula → Formula → ValueType → Outcome = λ p f u. partial (whole (lambda (ranges_of bs) p f) (set_type (pair_type (tuple_type (types_of (as_bound bs))) u))) in
        clean-right table around fs (where_typed (is_some_name bs && all_typed (as_bound bs)) (if_holding (λ p. if_giving (made p) (ask_value there image.outcome).answer) body.outcome)) (where_typed-right around (is_some_name bs && all_typed (as_bound bs)) (if_holding (λ p. if_giving (made p) (ask_value there image.outcome).answer) body.outcome) (λ e.
        let k = and-both (is_some_name bs) (all_typed (as_bound bs)) e in
        let types = have-types around bs h k.1 in
        let ts = types_of (as_bound bs) in
        if_holding-right around within (λ p. if_giving (made p) (ask_value there image.outcome).answer) body.outcome (λ p m.
        if_giving-right within (made p) (ask_value there image.outcome).answer (λ f u v.
        (rw (ranges-are around bs k.0 types.sets, types.elements, m, v.0) refl, and-true (lists_type table (tuple_type ts)) (lists_type table u) (tuple-listed ts (types-listed (as_bound bs) (as_bound-listed around bs h))) v.1))
        (ask_value-right table within there image.outcome s)) r))
