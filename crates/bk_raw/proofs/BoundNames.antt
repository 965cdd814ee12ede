-- The names of a binder stay the same while they get types and ranges.
use Rattle.std.proofs.Common.{◌≡◌, ◌⊎◌, inl, inr, ℕ, ◌+◌, List, [], ◌∷◌, length, refl, ◌∙◌, ap, Bool, true, false, cond, ◌||◌, ℤ}
use Rattle.std.specs.Prelude.{Option, None, Some}
use Rattle.std.specs.Str.{bytes_eq}
use Rattle.bk_val.specs.ValueType.{ValueType}
use Rattle.bk_form.specs.Formula.{Formula}
use Rattle.bk_raw.specs.declared.operator.InfixOp.{InfixOp}
use Rattle.bk_raw.specs.declared.operator.InfixOp.TheVariants.{Implies, And, Equal, Member, Subset, StrictSubset}
use Rattle.bk_raw.specs.declared.term.RawName.{RawName}
use Rattle.bk_raw.specs.Trees.RawTree.{RawTree, raw, raw_infix}
use Rattle.bk_raw.specs.Trees.FreeNames.{is_among, conjuncts}
use Rattle.bk_raw.specs.Meaning.Names.{Names}
use Rattle.bk_raw.specs.Meaning.Outcome.{Outcome, ask_value, ask_set, ask_domain}
use Rattle.bk_raw.specs.Meaning.Binders.{Bound, bound_names, inside, first_type, typed_as, typed_by, second, set_over, told_by, Ranged, unranged, first_range, ranged_as, ranged_by, as_single, ranges_by, as_bound}
use Rattle.bk_raw.specs.Meaning.TermReading.{part, name_of, names_one, reading, clues, premise_clues, ranges}

-- ---- truth values
pub no-name : {A : Type 0} → false ≡ true → A
no-name h = absurd (cc)

pub or-cases : (a b : Bool) → (a || b) ≡ true → (a ≡ true) ⊎ (b ≡ true)
or-cases true b h = inl refl
or-cases false b h = inr h

pub or-neither : (a b : Bool) → (a || b) ≡ false → (a ≡ false) × (b ≡ false)
or-neither true b h = absurd (cc)
or-neither false b h = (refl, h)

pub or-none : (a b : Bool) → a ≡ false → b ≡ false → (a || b) ≡ false
or-none a b h k = rw (h, k) refl

pub or-left : (a b : Bool) → a ≡ true → (a || b) ≡ true
or-left a b h = rw h refl

pub or-right : (a b : Bool) → b ≡ true → (a || b) ≡ true
or-right true b h = refl
or-right false b h = h

pub either : (c : Bool) → (c ≡ true) ⊎ (c ≡ false)
either true = inl refl
either false = inr refl

-- ---- binders
-- whether one of the bound names has this text
abbrev pub is_bound : List ℕ → List Bound → Bool
is_bound x [] = false
is_bound x (b ∷ bs) = bytes_eq b.text x || is_bound x bs

cond-bound : (x : List ℕ) (c : Bool) (us vs ws : List Bound) → is_bound x us ≡ is_bound x ws → is_bound x vs ≡ is_bound x ws → is_bound x (cond c us vs) ≡ is_bound x ws
cond-bound x true us vs ws h k = h
cond-bound x false us vs ws h k = k

typed_as-bound : (x text : List ℕ) (t : ValueType) (bs : List Bound) → is_bound x (typed_as text t bs) ≡ is_bound x bs
typed_as-bound x text t [] = refl
typed_as-bound x text t (b ∷ bs) = cond-bound x (bytes_eq b.text text) (record { text = b.text; at = b.at; of_type = first_type b.of_type t } ∷ bs) (b ∷ typed_as text t bs) (b ∷ bs) refl (ap (λ c. bytes_eq b.text x || c) (typed_as-bound x text t bs))

typed_by-bound : (x text : List ℕ) (o : Option ValueType) (bs : List Bound) → is_bound x (typed_by text o bs) ≡ is_bound x bs
typed_by-bound x text None bs = refl
typed_by-bound x text (Some t) bs = typed_as-bound x text t bs

told_by-bound : (x : List ℕ) (o : InfixOp) (bs : List Bound) (y : Option (List ℕ)) (both : List Bound) (d : Outcome) → is_bound x both ≡ is_bound x bs → is_bound x (told_by o bs y both d) ≡ is_bound x bs
told_by-bound x And bs y both d h = h
told_by-bound x Member bs (Some y) both d h = typed_by-bound x y (second (ask_domain 0 d).answer) bs
told_by-bound x Subset bs (Some y) both d h = typed_by-bound x y (set_over (second (ask_domain 0 d).answer)) bs
told_by-bound x StrictSubset bs (Some y) both d h = typed_by-bound x y (set_over (second (ask_domain 0 d).answer)) bs
told_by-bound x Equal bs (Some y) both d h = typed_by-bound x y (second (ask_value 0 d).answer) bs
told_by-bound x _ bs y both d h = refl

pub names-bound : (xs : List RawName) (x : List ℕ) → is_bound x (bound_names xs) ≡ is_among x xs
names-bound [] x = refl
names-bound (y ∷ ys) x = ap (λ c. bytes_eq y.text x || c) (names-bound ys x)

pub unranged-bound : (xs : List RawName) (x : List ℕ) → is_bound x (as_bound (unranged xs)) ≡ is_among x xs
unranged-bound [] x = refl
unranged-bound (y ∷ ys) x = ap (λ c. bytes_eq y.text x || c) (unranged-bound ys x)

cond-ranged : (x : List ℕ) (c : Bool) (us vs ws : List Ranged) → is_bound x (as_bound us) ≡ is_bound x (as_bound ws) → is_bound x (as_bound vs) ≡ is_bound x (as_bound ws) → is_bound x (as_bound (cond c us vs)) ≡ is_bound x (as_bound ws)
cond-ranged x true us vs ws h k = h
cond-ranged x false us vs ws h k = k

ranged_as-bound : (x text : List ℕ) (r : Formula × ValueType × ℕ) (rs : List Ranged) → is_bound x (as_bound (ranged_as text r rs)) ≡ is_bound x (as_bound rs)
ranged_as-bound x text r [] = refl
ranged_as-bound x text r (b ∷ bs) = cond-ranged x (bytes_eq b.text text) (record { text = b.text; at = b.at; range = first_range b.range r } ∷ bs) (b ∷ ranged_as text r bs) (b ∷ bs) refl (ap (λ c. bytes_eq b.text x || c) (ranged_as-bound x text r bs))

ranged_by-bound : (x text : List ℕ) (d : Option (Formula × ValueType)) (i : ℕ) (rs : List Ranged) → is_bound x (as_bound (ranged_by text d i rs)) ≡ is_bound x (as_bound rs)
ranged_by-bound x text None i rs = refl
ranged_by-bound x text (Some d) i rs = ranged_as-bound x text (d.0, d.1, i) rs

ranges_by-bound : (x : List ℕ) (o : InfixOp) (i : ℕ) (rs : List Ranged) (y : Option (List ℕ)) (both : List Ranged) (c : Bool) (d : Outcome) → is_bound x (as_bound both) ≡ is_bound x (as_bound rs) → is_bound x (as_bound (ranges_by o i rs y both c d)) ≡ is_bound x (as_bound rs)
ranges_by-bound x And i rs y both true d h = h
ranges_by-bound x And i rs y both false d h = h
ranges_by-bound x Member i rs (Some y) both false d h = ranged_by-bound x y (ask_set 0 d).answer i rs
ranges_by-bound x Equal i rs (Some y) both false d h = ranged_by-bound x y (as_single (ask_value 0 d).answer) i rs
ranges_by-bound x _ i rs y both c d h = refl

module _ (int_max : ℤ) where
  pub clues-bound : (t : RawTree) (names : Names) (bs : List Bound) (x : List ℕ) → is_bound x (clues int_max names bs t) ≡ is_bound x bs
  clues-bound (raw at (raw_infix o a d)) names bs x = told_by-bound x o bs (name_of a) (clues int_max names (clues int_max names bs a) d) (reading int_max (inside bs names) d).outcome (clues-bound d names (clues int_max names bs a) x ∙ clues-bound a names bs x)
  clues-bound (raw at _) names bs x = refl

  pub premise-bound : (t : RawTree) (names : Names) (bs : List Bound) (x : List ℕ) → is_bound x (premise_clues int_max names bs t) ≡ is_bound x bs
  premise-bound (raw at (raw_infix Implies a b)) names bs x = clues-bound a names bs x
  premise-bound (raw at _) names bs x = refl

  pub ranges-bound : (t : RawTree) (names : Names) (all : List RawName) (i : ℕ) (rs : List Ranged) (x : List ℕ) → is_bound x (as_bound (ranges int_max names all i rs t)) ≡ is_bound x (as_bound rs)
  ranges-bound (raw at (raw_infix o a d)) names all i rs x = ranges_by-bound x o i rs (name_of a) (ranges int_max names all (i + length (conjuncts a)) (ranges int_max names all i rs a) d) (names_one all d) (part false d (reading int_max names d)).outcome (ranges-bound d names all (i + length (conjuncts a)) (ranges int_max names all i rs a) x ∙ ranges-bound a names all i rs x)
  ranges-bound (raw at _) names all i rs x = refl
