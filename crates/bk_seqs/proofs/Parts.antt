-- Sequences joined: a function on low .. mid with one on mid + 1 .. high is one on low .. high.
use Rattle.std.proofs.Common.{◌≡◌, ◌⊎◌, inl, inr, sym, ◌∙◌, ap, subst, true, ℤ, pos, arith, ◌+ℤ◌, ◌-ℤ◌, ◌≤ℤ◌}
use Rattle.std.proofs.lemmas.Int.{ints}
use Rattle.bk_val.specs.Value.{MathValue, int, pair}
use Rattle.bk_val.specs.ValueType.{ValueType, int_type, pair_type, set_type}
use Rattle.bk_val.specs.Sets.{second_of}
use Rattle.bk_form.specs.Formula.{Formula, binary}
use Rattle.bk_form.specs.Search.{Finder}
use Rattle.bk_form.specs.Environment.{Environment}
use Rattle.bk_form.specs.Operators.{first_part, number_in}
use Rattle.bk_form.specs.Meaning.{value, within}
use Rattle.bk_form.specs.Settings.{IsSetting, GivesIn}
use Rattle.bk_form.specs.MemberLaws.{IsPairIn}
use Rattle.bk_form.specs.declared.operator.BinOp.TheVariants.{Union, Maps}
use Rattle.bk_form.proofs.Members.{or-cases, or-left, or-right, and-both, and-true}
use Rattle.bk_form.proofs.SetMembers.{in-union, in-single, in-dom-res}
use Rattle.bk_form.specs.Expansion.{one, one_less, up_to, front, pair_alone}
use Rattle.bk_seqs.proofs.Sequences.{IsOn, IsSequence, EndsIn, num, between-then, between-if}

apart : (i j mid : ℤ) → i ≤ℤ mid → (mid +ℤ pos 1) ≤ℤ j → i ≡ j → ⊥
apart i j mid h k e = absurd (omega (arith, ints))

either : (i mid : ℤ) → (i ≤ℤ mid) ⊎ ((mid +ℤ pos 1) ≤ℤ i)
either i mid = grind (arith, ints)

module _ (find : Finder) (e : Environment) where
  -- ---- unions
  module _ (f h : Formula) (u : ValueType) (types : GivesIn e (binary Union f h) (set_type (pair_type int_type u))) where
    cases : (x y : MathValue) → IsPairIn find e (binary Union f h) x y → IsPairIn find e f x y ⊎ IsPairIn find e h x y
    cases x y p = or-cases (within find e (pair x y) f) (within find e (pair x y) h) (sym (in-union find e f h (pair_type int_type u) types (pair x y)) ∙ p)

    pub left-in : (x y : MathValue) → IsPairIn find e f x y → IsPairIn find e (binary Union f h) x y
    left-in x y p = in-union find e f h (pair_type int_type u) types (pair x y) ∙ or-left (within find e (pair x y) f) (within find e (pair x y) h) p

    pub right-in : (x y : MathValue) → IsPairIn find e h x y → IsPairIn find e (binary Union f h) x y
    right-in x y p = in-union find e f h (pair_type int_type u) types (pair x y) ∙ or-right (within find e (pair x y) f) (within find e (pair x y) h) p

    pub union-on : (low mid high : ℤ) → low ≤ℤ (mid +ℤ pos 1) → mid ≤ℤ high → IsOn find e f low mid → IsOn find e h (mid +ℤ pos 1) high → IsOn find e (binary Union f h) low high
    union-on low mid high l m on_f on_h = record {
      inside = λ x y p. elim (cases x y p) [
        | inl q ↦ let w = on_f.inside x y q in let top = w.3 in (w.0, w.1, w.2, below w.0 mid high top m)
        | inr q ↦ let w = on_h.inside x y q in let bottom = w.2 in (w.0, w.1, below low (mid +ℤ pos 1) w.0 l bottom, w.3)
      ];
      once = λ x y z p q. elim (cases x y p) [
        | inl a ↦ elim (cases x z q) [ inl b ↦ on_f.once x y z a b | inr b ↦ absurd (never x y z a b) ]
        | inr a ↦ elim (cases x z q) [ inl b ↦ absurd (never x z y b a) | inr b ↦ on_h.once x y z a b ]
      ];
      there = λ i bottom top. elim (either i mid) [
        | inl a ↦ let w = on_f.there i bottom a in (w.0, left-in (int i) w.0 w.1)
        | inr a ↦ let w = on_h.there i a top in (w.0, right-in (int i) w.0 w.1)
      ];
    }
      where
        below : (i j k : ℤ) → i ≤ℤ j → j ≤ℤ k → i ≤ℤ k
        below i j k p q = omega (arith, ints)

        never : (x y z : MathValue) → IsPairIn find e f x y → IsPairIn find e h x z → ⊥
        never x y z p q =
            let v = on_f.inside x y p in
            let w = on_h.inside x z q in
            let same : v.0 ≡ w.0 = ap number_in (sym v.1 ∙ w.1) in
            apart v.0 w.0 mid v.3 w.2 same

    pub union-ends : (d : Formula) → EndsIn find e f d → EndsIn find e h d → EndsIn find e (binary Union f h) d
    union-ends d a b x y p = elim (cases x y p) [ inl q ↦ a x y q | inr q ↦ b x y q ]

  module _ (c : IsSetting find e) where
    -- ---- one pair
    module _ (k x : Formula) (z : ℤ) (place : value find e k ≡ int z) where
      alone : (v y : MathValue) → IsPairIn find e (pair_alone k x) v y → (v ≡ int z) × (y ≡ value find e x)
      alone v y p = let q = (in-single find e c (binary Maps k x) (pair v y)).0 p in (ap first_part q ∙ place, ap second_of q)

      pub alone-in : IsPairIn find e (pair_alone k x) (int z) (value find e x)
      alone-in = (in-single find e c (binary Maps k x) (pair (int z) (value find e x))).1 (ap (λ v. pair v (value find e x)) (sym place))

      pub alone-on : IsOn find e (pair_alone k x) z z
      alone-on = record {
        inside = λ v y p. (z, (alone v y p).0, least z, least z);
        once = λ v y w p q. (alone v y p).1 ∙ sym (alone v w q).1;
        there = λ i low high. let same : i ≡ z = omega (arith, ints) in (value find e x, subst (λ j. IsPairIn find e (pair_alone k x) (int j) (value find e x)) (sym same) alone-in);
      }
        where
          least : (i : ℤ) → i ≤ℤ i
          least i = omega (arith, ints)

      pub alone-ends : (d : Formula) → within find e (value find e x) d ≡ true → EndsIn find e (pair_alone k x) d
      alone-ends d h v y p = subst (λ w. within find e w d ≡ true) (sym (alone v y p).1) h

  -- ---- all but the last
  module _ (s : Formula) (u : ValueType) (types : GivesIn e (front s) (set_type (pair_type int_type u))) where
    kept : (x y : MathValue) → IsPairIn find e (front s) x y → IsPairIn find e s x y × (within find e x (up_to (one_less s)) ≡ true)
    kept x y p = let q = and-both (within find e (pair x y) s) (within find e x (up_to (one_less s))) (sym (in-dom-res find e (up_to (one_less s)) s int_type u types x y) ∙ p) in (q.0, q.1)

    pub front-on : (n : ℤ) → num find e (one_less s) ≡ (n -ℤ pos 1) → IsSequence find e s n → IsSequence find e (front s) (num find e (one_less s))
    front-on n last on = record {
      inside = λ x y p. between-then find e one (one_less s) x (kept x y p).1;
      once = λ x y z p q. on.once x y z (kept x y p).0 (kept x z q).0;
      there = λ i low high.
          let w = on.there i low (earlier i (num find e (one_less s)) high last) in
          (w.0, in-dom-res find e (up_to (one_less s)) s int_type u types (int i) w.0 ∙ and-true (within find e (pair (int i) w.0) s) (within find e (int i) (up_to (one_less s))) w.1 (between-if find e one (one_less s) i low high));
    }
      where
        earlier : (i m : ℤ) → i ≤ℤ m → m ≡ (n -ℤ pos 1) → i ≤ℤ n
        earlier i m h q = omega (arith, ints)

    pub front-ends : (d : Formula) → EndsIn find e s d → EndsIn find e (front s) d
    front-ends d ends x y p = ends x y (kept x y p).0
