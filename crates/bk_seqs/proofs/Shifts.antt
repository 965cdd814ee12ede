-- The pairs of a function on an interval whose value is that of a sequence at another place.
use Rattle.std.proofs.Common.{◌≡◌, ◌↔◌, refl, sym, ◌∙◌, ap, subst, ℤ, pos, List, [], ◌∷◌, ◌≤ℤ◌}
use Rattle.std.specs.Prelude.{unwrap_or}
use Rattle.bk_val.specs.Value.{MathValue, int, pair}
use Rattle.bk_val.specs.ValueType.{ValueType, int_type, pair_type, set_type, base_of}
use Rattle.bk_val.specs.Sets.{apply_of, IsOnlyValue, second_of}
use Rattle.bk_val.proofs.Relations.{apply_of-some}
use Rattle.bk_form.specs.Table.{set_size}
use Rattle.bk_form.specs.Formula.{Formula, binary, btrue, formula_and, no_formulas}
use Rattle.bk_form.specs.Search.{Finder}
use Rattle.bk_form.specs.Environment.{Environment, Binding, under}
use Rattle.bk_form.specs.Role.{binary_role, element_type}
use Rattle.bk_form.specs.Operators.{elements, first_part, tuple_of, number_in}
use Rattle.bk_form.specs.Meaning.{meaning, meanings, value, type_in, range_types}
use Rattle.bk_form.specs.Settings.{IsSetting, GivesIn}
use Rattle.bk_form.specs.MemberLaws.{IsPairIn, IsSingleValued}
use Rattle.bk_form.specs.Laws.{TakesOneOfEach}
use Rattle.bk_form.specs.declared.operator.BinOp.TheVariants.{Range, Apply}
use Rattle.bk_bind.proofs.Raised.{meaning-lifted-under}
use Rattle.bk_form.proofs.Domains.{lambda-has, choices-are}
use Rattle.bk_form.proofs.Valued.{sound_typing}
use Rattle.bk_form.proofs.Forms.{member, set-sorted}
use Rattle.bk_form.specs.Expansion.{function_on, raised}
use Rattle.bk_seqs.proofs.Sequences.{IsOn, IsSequence, EndsIn, num, between-then, between-if}

module _ (find : Finder) (e : Environment) where
  -- under the binder of a function on a .. b, at i
  abbrev pub at : Formula → Formula → ℤ → Environment
  at a b i = record e { bound = (element_type (meaning find e (binary Range a b)).role, int i) ∷ e.bound }

  -- a formula means under one binder what it meant
  pub raised-means : (b : Binding) (f : Formula) → meaning find (record e { bound = b ∷ e.bound }) (raised f) ≡ meaning find e f
  raised-means b f = meaning-lifted-under find e (b.0 ∷ []) (b.1 ∷ []) 1 refl f

  -- its pairs
  pub function-pairs : (a b image : Formula) (x y : MathValue) → IsPairIn find e (function_on a b image) x y ↔ ((i : ℤ) × (x ≡ int i) × (num find e a ≤ℤ i) × (i ≤ℤ num find e b) × (y ≡ value find (at a b i) image))
  function-pairs a b image x y =
      let has = lambda-has find e (formula_and (binary Range a b) no_formulas) btrue image (pair x y) in (
        (λ h. let w = has.0 h in by_choice w.0 ((choices-are (value find e (binary Range a b) ∷ []) w.0).0 w.1) w.3),
        (λ w.
            let inside = between-if find e a b w.0 w.2 w.3 in
            has.1 (int w.0 ∷ [], (choices-are (value find e (binary Range a b) ∷ []) (int w.0 ∷ [])).1 (inside, tt), refl, λ i. pair (w.1 i) (w.4 i))),
      )
    where
      by_choice : (vs : List MathValue) → TakesOneOfEach (value find e (binary Range a b) ∷ []) vs → pair x y ≡ pair (tuple_of vs) (value find (under e (range_types (meanings find e (formula_and (binary Range a b) no_formulas))) vs) image) → (i : ℤ) × (x ≡ int i) × (num find e a ≤ℤ i) × (i ≤ℤ num find e b) × (y ≡ value find (at a b i) image)
      by_choice [] t q = absurd t
      by_choice (v ∷ []) t q =
          let w = between-then find e a b v t.0 in
          let left : x ≡ v = ap first_part q in
          let right : y ≡ value find (record e { bound = (element_type (meaning find e (binary Range a b)).role, v) ∷ e.bound }) image = ap second_of q in
          (w.0, left ∙ w.1, w.2, w.3, right ∙ ap (λ z. value find (record e { bound = (element_type (meaning find e (binary Range a b)).role, z) ∷ e.bound }) image) w.1)
      by_choice (v ∷ z ∷ vs) t q = absurd t.1

  -- f(k) under one binder
  applied-under : IsSetting find e → (f : Formula) (u : ValueType) → GivesIn e f (set_type (pair_type int_type u)) → IsSingleValued find e f → (k : Formula) (b : Binding) (x y : MathValue) → value find (record e { bound = b ∷ e.bound }) k ≡ x → IsPairIn find e f x y → value find (record e { bound = b ∷ e.bound }) (binary Apply (raised f) k) ≡ y
  applied-under c f u types once k b x y place pair_in =
      let inner : Environment = record e { bound = b ∷ e.bound } in
      let fs = elements (value find e f) in
      let base = base_of (type_in (binary_role Apply (meaning find inner (raised f)).role (meaning find inner k).role)) in
      let same = ap (λ m. m.value) (raised-means b f) in
      let sorted = set-sorted (set_size e.table) (pair_type int_type u) (value find e f) (sound_typing.typed find e c.well c.typed f (set_type (pair_type int_type u)) types) in
      let only : IsOnlyValue fs x y = record { starts = sym (member find e f (pair_type int_type u) types (pair x y)) ∙ pair_in; only = λ z h. once x z y (member find e f (pair_type int_type u) types (pair x z) ∙ h) pair_in } in
      (λ i. unwrap_or (apply_of (elements (same i)) (place i)) base) ∙ ap (λ o. unwrap_or o base) ((apply_of-some fs x y sorted).1 only)

  -- %i.(i : a .. b | f(k)), for a sequence f of n members, where k has the value g(i), which is from 1 to n
  module _ (c : IsSetting find e) (a b f k : Formula) (u : ValueType) (types : GivesIn e f (set_type (pair_type int_type u))) (n : ℤ) (s : IsSequence find e f n) (g : ℤ → ℤ)
      (place : (i : ℤ) → value find (at a b i) k ≡ int (g i))
      (fits : (i : ℤ) → num find e a ≤ℤ i → i ≤ℤ num find e b → (pos 1 ≤ℤ g i) × (g i ≤ℤ n)) where
    result : (i : ℤ) (z : MathValue) → IsPairIn find e f (int (g i)) z → value find (at a b i) (binary Apply (raised f) k) ≡ z
    result i z p = applied-under c f u types s.once k (element_type (meaning find e (binary Range a b)).role, int i) (int (g i)) z (place i) p

    -- its pairs
    pub shifted-pairs : (x y : MathValue) → IsPairIn find e (function_on a b (binary Apply (raised f) k)) x y ↔ ((i : ℤ) × (x ≡ int i) × (num find e a ≤ℤ i) × (i ≤ℤ num find e b) × IsPairIn find e f (int (g i)) y)
    shifted-pairs x y =
        let has = function-pairs a b (binary Apply (raised f) k) x y in (
          (λ h.
              let w = has.0 h in
              let room = fits w.0 w.2 w.3 in
              let z = s.there (g w.0) room.0 room.1 in
              (w.0, w.1, w.2, w.3, subst (λ v. IsPairIn find e f (int (g w.0)) v) (sym (w.4 ∙ result w.0 z.0 z.1)) z.1)),
          (λ w. has.1 (w.0, w.1, w.2, w.3, sym (result w.0 y w.4))),
        )

    -- it maps exactly the numbers of the interval
    pub shifted-on : IsOn find e (function_on a b (binary Apply (raised f) k)) (num find e a) (num find e b)
    shifted-on = record {
      inside = λ x y p. let w = (shifted-pairs x y).0 p in (w.0, w.1, w.2, w.3);
      once = λ x y z p q.
          let v = (shifted-pairs x y).0 p in
          let w = (shifted-pairs x z).0 q in
          let same : v.0 ≡ w.0 = ap number_in (sym v.1 ∙ w.1) in
          s.once (int (g w.0)) y z (subst (λ i. IsPairIn find e f (int (g i)) y) same v.4) w.4;
      there = λ i low high.
          let room = fits i low high in
          let z = s.there (g i) room.0 room.1 in
          (z.0, (shifted-pairs (int i) z.0).1 (i, refl, low, high, z.1));
    }

    -- and ends where f does
    pub shifted-ends : (d : Formula) → EndsIn find e f d → EndsIn find e (function_on a b (binary Apply (raised f) k)) d
    shifted-ends d ends x y p = let w = (shifted-pairs x y).0 p in ends (int (g w.0)) y w.4
