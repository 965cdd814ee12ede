-- Sequences as what they map: a sequence of n members maps the numbers 1 .. n, each to one value.
use Rattle.std.proofs.Common.{◌≡◌, refl, sym, ◌∙◌, ap, subst, true, ℤ, pos, ℕ, length, ◌≤ℤ◌}
use Rattle.std.specs.Prelude.{int_le}
use Rattle.bk_val.specs.Value.{MathValue, int, pair}
use Rattle.bk_val.specs.ValueType.{ValueType, int_type, pair_type, set_type}
use Rattle.bk_form.specs.Table.{set_size}
use Rattle.bk_form.specs.Formula.{Formula, binary}
use Rattle.bk_form.specs.Search.{Finder}
use Rattle.bk_form.specs.Environment.{Environment}
use Rattle.bk_form.specs.Operators.{elements, number_in}
use Rattle.bk_form.specs.Meaning.{value, truth, within}
use Rattle.bk_form.specs.Settings.{IsSetting, IsPredicateIn, GivesIn, RangesIn}
use Rattle.bk_form.specs.MemberLaws.{IsPairIn, IsSingleValued}
use Rattle.bk_form.specs.declared.operator.BinOp.TheVariants.{Range}
use Rattle.bk_form.proofs.Members.{Has, has-then, has-if, and-true, and-both}
use Rattle.bk_form.proofs.Domains.{interval-members}
use Rattle.bk_form.proofs.Typed.{elements-of}
use Rattle.bk_form.proofs.Valued.{sound_typing}
use Rattle.bk_form.proofs.Forms.{pair-of, member, set-sorted}
use Rattle.bk_form.proofs.ArrowMembers.{total-means, arrow-in-parts}
use Rattle.bk_form.proofs.ElementCounts.{set-of-sorted}
use Rattle.bk_laws.proofs.Numbers.{le-then, le-if}
use Rattle.bk_form.specs.Expansion.{one, card_of, up_to, is_sequence}
use Rattle.bk_seqs.proofs.Counting.{IsNumbered, count-numbered}
use Rattle.bk_seqs.proofs.Types.{range-type}

-- f maps exactly the numbers from low to high, each to one value
pub record IsOn (find : Finder) (e : Environment) (f : Formula) (low high : ℤ) : Type 0 where
  pub inside : (x y : MathValue) → IsPairIn find e f x y → (i : ℤ) × (x ≡ int i) × (low ≤ℤ i) × (i ≤ℤ high)
  pub once : IsSingleValued find e f
  pub there : (i : ℤ) → low ≤ℤ i → i ≤ℤ high → (y : MathValue) × IsPairIn find e f (int i) y

-- a sequence of n members maps those from 1 to n
abbrev pub IsSequence : Finder → Environment → Formula → ℤ → Type 0
IsSequence find e f n = IsOn find e f (pos 1) n

-- and to members of b
abbrev pub EndsIn : Finder → Environment → Formula → Formula → Type 0
EndsIn find e f b = (x y : MathValue) → IsPairIn find e f x y → within find e y b ≡ true

-- the number that a term is
abbrev pub num : Finder → Environment → Formula → ℤ
num find e a = number_in (value find e a)

-- ---- intervals
pub between-then : (find : Finder) (e : Environment) (a b : Formula) (x : MathValue) → within find e x (binary Range a b) ≡ true → (i : ℤ) × (x ≡ int i) × (num find e a ≤ℤ i) × (i ≤ℤ num find e b)
between-then find e a b x h =
    let z = interval-members.others find e a b x h in
    let ends = and-both (int_le (num find e a) z.0) (int_le z.0 (num find e b)) (sym (interval-members.numbers find e a b z.0) ∙ subst (λ w. within find e w (binary Range a b) ≡ true) z.1 h) in
    (z.0, z.1, le-then (num find e a) z.0 ends.0, le-then z.0 (num find e b) ends.1)

pub between-if : (find : Finder) (e : Environment) (a b : Formula) (i : ℤ) → num find e a ≤ℤ i → i ≤ℤ num find e b → within find e (int i) (binary Range a b) ≡ true
between-if find e a b i h k = interval-members.numbers find e a b i ∙ and-true (int_le (num find e a) i) (int_le i (num find e b)) (le-if (num find e a) i h) (le-if i (num find e b) k)

module _ (find : Finder) (e : Environment) (c : IsSetting find e) where
  -- ---- f : (1 .. n) --> b
  module _ (f n b : Formula) (u : ValueType) (types : GivesIn e f (set_type (pair_type int_type u))) (from : RangesIn e (up_to n) int_type) where
    pub sequence-then : truth find e (is_sequence f n b) ≡ true → IsSequence find e f (num find e n) × EndsIn find e f b
    sequence-then h =
        let m = (total-means find e c f int_type u types (up_to n) b from).0 h in (
          record {
            inside = λ x y p. between-then find e one n x (m.0 x y p).0;
            once = m.1;
            there = λ i low high. m.2 (int i) refl (between-if find e one n i low high);
          },
          λ x y p. (m.0 x y p).1,
        )

    pub sequence-if : IsSequence find e f (num find e n) → EndsIn find e f b → truth find e (is_sequence f n b) ≡ true
    sequence-if s ends = (total-means find e c f int_type u types (up_to n) b from).1 (
      (λ x y p. let w = s.inside x y p in (subst (λ z. within find e z (up_to n) ≡ true) (sym w.1) (between-if find e one n w.0 w.2 w.3), ends x y p)),
      s.once,
      (λ x o h. let w = between-then find e one n x h in let q = s.there w.0 w.2 w.3 in (q.0, subst (λ z. IsPairIn find e f z q.0) (sym w.1) q.1)),
    )

  -- how many members the value of a formula has
  abbrev pub size : Formula → ℕ
  size f = length (elements (value find e f))

  -- a sequence of n members has n pairs
  pub size-is : (f : Formula) (u : ValueType) → GivesIn e f (set_type (pair_type int_type u)) → (n : ℕ) → IsSequence find e f (pos n) → size f ≡ n
  size-is f u types n s =
      let xs = elements (value find e f) in
      let of = sound_typing.typed find e c.well c.typed f (set_type (pair_type int_type u)) types in
      let sorted = set-sorted (set_size e.table) (pair_type int_type u) (value find e f) of in
      let from-has = λ (v : MathValue) (h : Has v xs). member find e f (pair_type int_type u) types v ∙ has-if v xs h in
      let to-has = λ (v : MathValue) (h : within find e v f ≡ true). has-then v xs (sym (member find e f (pair_type int_type u) types v) ∙ h) in
      let numbered : IsNumbered xs n = record {
        inside = λ v h.
            let p = pair-of (set_size e.table) int_type u v (elements-of (set_size e.table) (pair_type int_type u) (value find e f) v of h) in
            let w = s.inside p.left p.right (subst (λ z. within find e z f ≡ true) p.is_pair (from-has v h)) in
            (w.0, p.right, p.is_pair ∙ ap (λ z. pair z p.right) w.1, w.2, w.3);
        once = λ i y z h k. s.once (int i) y z (from-has (pair (int i) y) h) (from-has (pair (int i) z) k);
        there = λ i low high. let w = s.there i low high in (w.0, to-has (pair (int i) w.0) w.1);
      } in
      sym (ap length (set-of-sorted xs sorted)) ∙ count-numbered xs n numbered

  -- ---- sides
  -- what `s : (1 .. card(s)) --> B` says
  pub record IsGiven (s b : Formula) : Type 0 where
    pub of_type : ValueType
    pub types : GivesIn e s (set_type (pair_type int_type of_type))
    pub over : RangesIn e b of_type
    pub sequence : IsSequence find e s (pos (size s))
    pub ends : EndsIn find e s b

  pub given : (s b : Formula) → IsPredicateIn e (is_sequence s (card_of s) b) → truth find e (is_sequence s (card_of s) b) ≡ true → IsGiven s b
  given s b p h =
      let k = arrow-in-parts find e s (up_to (card_of s)) b p in
      let int = range-type e one (card_of s) k.0 k.3 in
      let types = subst (λ t. GivesIn e s (set_type (pair_type t k.1))) int k.2 in
      let from = subst (λ t. RangesIn e (up_to (card_of s)) t) int k.3 in
      let m = sequence-then s (card_of s) b k.1 types from h in
      record { of_type = k.1; types = types; over = k.4; sequence = m.0; ends = m.1 }
