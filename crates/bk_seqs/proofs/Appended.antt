-- The rows of `s <- x` and `x -> s`.
use Rattle.std.proofs.Common.{◌≡◌, inl, inr, refl, sym, ◌∙◌, ap, subst, ℤ, pos, ℕ, suc, arith, ◌+ℤ◌, ◌-ℤ◌, ◌≤ℤ◌}
use Rattle.std.proofs.lemmas.Int.{ints}
use Rattle.bk_val.specs.Value.{MathValue, int, pair}
use Rattle.bk_val.specs.ValueType.{ValueType, int_type, pair_type, set_type}
use Rattle.bk_form.specs.Formula.{Formula, literal, bound, binary}
use Rattle.bk_form.specs.Search.{Finder}
use Rattle.bk_form.specs.Environment.{Environment, bound_types}
use Rattle.bk_form.specs.Role.{role}
use Rattle.bk_form.specs.Operators.{number_in}
use Rattle.bk_form.specs.Meaning.{value, within}
use Rattle.bk_form.specs.Settings.{IsSetting, GivesIn}
use Rattle.bk_form.specs.MemberLaws.{IsPairIn}
use Rattle.bk_form.specs.declared.operator.BinOp.TheVariants.{Sub, Apply}
use Rattle.bk_form.proofs.ArrowMembers.{apply-means}
use Rattle.bk_form.proofs.RoleParts.{application-parts}
use Rattle.bk_form.proofs.SetMembers.{two-sets, in-union}
use Rattle.bk_form.proofs.Members.{or-cases, or-left}
use Rattle.bk_form.specs.Expansion.{one, card_of, one_more, pair_alone, append, later, prepend, raised}
use Rattle.bk_seqs.specs.Rows.{q1, q2, q3, q4, q14, q15, q16}
use Rattle.bk_seqs.specs.Laws.{IsTrueRow}
use Rattle.bk_seqs.proofs.Types.{set-same, union-gives, later-gives, one-type}
use Rattle.bk_seqs.proofs.Sequences.{IsSequence, IsOn, EndsIn, given, size, between-then}
use Rattle.bk_seqs.proofs.Shifts.{shifted-on, shifted-ends, function-pairs}
use Rattle.bk_seqs.proofs.Parts.{union-on, union-ends, left-in, right-in, alone-on, alone-in, alone-ends}
use Rattle.bk_laws.proofs.ByForm.{by_value, by_truth}
use Rattle.bk_seqs.proofs.Shared.{one-more-is, card-is, is-one, sequence-type, counted-type}

up : (n : ℤ) → n ≤ℤ (n +ℤ pos 1)
up n = omega (arith, ints)

low : (n : ℕ) → pos 1 ≤ℤ (pos n +ℤ pos 1)
low n = omega (arith, ints)

-- ---- s <- x
module _ (find : Finder) (e : Environment) (c : IsSetting find e) (s x : Formula) (u : ValueType) (types : GivesIn e (append s x) (set_type (pair_type int_type u))) (on : IsSequence find e s (pos (size find e c s))) where
  append-on : IsSequence find e (append s x) (pos (size find e c s) +ℤ pos 1)
  append-on =
      let n = pos (size find e c s) in
      union-on find e s (pair_alone (one_more s) x) u types (pos 1) n (n +ℤ pos 1) (low (size find e c s)) (up n) on (alone-on find e c (one_more s) x (n +ℤ pos 1) refl)

pub true-q1 : IsTrueRow q1
true-q1 picks = by_value (q1.at picks) refl (λ find e c t l r h.
    let s = picks 0 in let x = picks 1 in let b = picks 2 in
    let g = given find e c s b h.0 h.1 in
    let k = counted-type e (append s x) t l in
    let types = union-gives e find s (pair_alone (one_more s) x) (pair_type int_type g.of_type) k.0 g.types k.1 in
    card-is find e c (append s x) g.of_type types (suc (size find e c s)) (pos (size find e c s) +ℤ pos 1) (one-more-is (size find e c s)) (append-on find e c s x g.of_type types g.sequence))

pub true-q2 : IsTrueRow q2
true-q2 picks = let i = q2.at picks in by_truth i refl (λ find e c l r h.
    let s = picks 0 in let x = picks 1 in let b = picks 2 in
    let g = given find e c s b h.0 h.1 in
    let k = sequence-type find e (append s x) (one_more s) b l in
    let types = union-gives e find s (pair_alone (one_more s) x) (pair_type int_type g.of_type) k.0 g.types k.1 in
    is-one find e c (append s x) (one_more s) b g.of_type types l (append-on find e c s x g.of_type types g.sequence)
    (union-ends find e s (pair_alone (one_more s) x) g.of_type types b g.ends (alone-ends find e c (one_more s) x (pos (size find e c s) +ℤ pos 1) refl b h.2.1)))

pub true-q3 : IsTrueRow q3
true-q3 picks = by_value (q3.at picks) refl (λ find e c t l r h.
    let s = picks 0 in let x = picks 1 in let b = picks 2 in
    let g = given find e c s b h.0 h.1 in
    let k = application-parts (role e.table (bound_types e) (append s x)) (role e.table (bound_types e) (one_more s)) t l in
    let types = union-gives e find s (pair_alone (one_more s) x) (pair_type int_type g.of_type) (pair_type k.0 t) g.types k.1 in
    let n = pos (size find e c s) +ℤ pos 1 in
    let pair_in = right-in find e s (pair_alone (one_more s) x) g.of_type types (int n) (value find e x) (alone-in find e c (one_more s) x n refl) in
    apply-means find e c (append s x) int_type g.of_type types (one_more s) (value find e x) pair_in (λ z p. (append-on find e c s x g.of_type types g.sequence).once (int n) z (value find e x) p pair_in))

pub true-q4 : IsTrueRow q4
true-q4 picks = by_value (q4.at picks) refl (λ find e c t l r h.
    let s = picks 0 in let x = picks 1 in let a = picks 2 in let b = picks 3 in
    let g = given find e c s b h.0 h.1 in
    let k = application-parts (role e.table (bound_types e) (append s x)) (role e.table (bound_types e) a) t l in
    let types = union-gives e find s (pair_alone (one_more s) x) (pair_type int_type g.of_type) (pair_type k.0 t) g.types k.1 in
    let i = between-then find e one (card_of s) (value find e a) h.2.1 in
    let y = g.sequence.there i.0 i.2 i.3 in
    let old = subst (λ v. IsPairIn find e s v y.0) (sym i.1) y.1 in
    let new = left-in find e s (pair_alone (one_more s) x) g.of_type types (value find e a) y.0 old in
    apply-means find e c (append s x) int_type g.of_type types a y.0 new (λ z p. (append-on find e c s x g.of_type types g.sequence).once (value find e a) z y.0 p new)
    ∙ sym (apply-means find e c s int_type g.of_type g.types a y.0 old (λ z p. g.sequence.once (value find e a) z y.0 p old)))

-- ---- x -> s
module _ (find : Finder) (e : Environment) (c : IsSetting find e) (s : Formula) (u : ValueType) (types : GivesIn e s (set_type (pair_type int_type u))) (on : IsSequence find e s (pos (size find e c s))) where
  fits : (i : ℤ) → pos 2 ≤ℤ i → i ≤ℤ (pos (size find e c s) +ℤ pos 1) → (pos 1 ≤ℤ (i -ℤ pos 1)) × ((i -ℤ pos 1) ≤ℤ pos (size find e c s))
  fits i h k = let n = pos (size find e c s) in earlier i n h k
    where
      earlier : (i n : ℤ) → pos 2 ≤ℤ i → i ≤ℤ (n +ℤ pos 1) → (pos 1 ≤ℤ (i -ℤ pos 1)) × ((i -ℤ pos 1) ≤ℤ n)
      earlier i n h k = (omega (arith, ints), omega (arith, ints))

  later-on : IsOn find e (later s) (pos 2) (pos (size find e c s) +ℤ pos 1)
  later-on = shifted-on find e c (literal (pos 2)) (one_more s) s (binary Sub (bound 0) one) u types (pos (size find e c s)) on (λ i. i -ℤ pos 1) (λ i. refl) fits

  later-ends : (d : Formula) → EndsIn find e s d → EndsIn find e (later s) d
  later-ends d ends = shifted-ends find e c (literal (pos 2)) (one_more s) s (binary Sub (bound 0) one) u types (pos (size find e c s)) on (λ i. i -ℤ pos 1) (λ i. refl) fits d ends

  prepend-on : (x : Formula) (v : ValueType) → GivesIn e (prepend x s) (set_type (pair_type int_type v)) → IsSequence find e (prepend x s) (pos (size find e c s) +ℤ pos 1)
  prepend-on x v all = union-on find e (pair_alone one x) (later s) v all (pos 1) (pos 1) (pos (size find e c s) +ℤ pos 1) (up (pos 1)) (low (size find e c s)) (alone-on find e c one x (pos 1) refl) later-on

-- what x -> s gives, where it types
prepend-gives : (find : Finder) (e : Environment) (x s : Formula) (u k : ValueType) → GivesIn e s (set_type (pair_type int_type u)) → GivesIn e (prepend x s) (set_type k) → GivesIn e (prepend x s) (set_type (pair_type int_type u))
prepend-gives find e x s u k types h =
    let parts = two-sets find e (pair_alone one x) (later s) k h in
    let behind = later-gives e s u types in
    subst (λ t. GivesIn e (prepend x s) (set_type t)) (set-same k (pair_type int_type u) (one-type e (later s) (set_type k) (set_type (pair_type int_type u)) parts.1 behind)) h

pub true-q14 : IsTrueRow q14
true-q14 picks = by_value (q14.at picks) refl (λ find e c t l r h.
    let x = picks 0 in let s = picks 1 in let b = picks 2 in
    let g = given find e c s b h.0 h.1 in
    let k = counted-type e (prepend x s) t l in
    let types = prepend-gives find e x s g.of_type k.0 g.types k.1 in
    card-is find e c (prepend x s) g.of_type types (suc (size find e c s)) (pos (size find e c s) +ℤ pos 1) (one-more-is (size find e c s)) (prepend-on find e c s g.of_type g.types g.sequence x g.of_type types))

pub true-q15 : IsTrueRow q15
true-q15 picks = let i = q15.at picks in by_truth i refl (λ find e c l r h.
    let x = picks 0 in let s = picks 1 in let b = picks 2 in
    let g = given find e c s b h.0 h.1 in
    let k = sequence-type find e (prepend x s) (one_more s) b l in
    let types = prepend-gives find e x s g.of_type k.0 g.types k.1 in
    is-one find e c (prepend x s) (one_more s) b g.of_type types l (prepend-on find e c s g.of_type g.types g.sequence x g.of_type types)
    (union-ends find e (pair_alone one x) (later s) g.of_type types b (alone-ends find e c one x (pos 1) refl b h.2.1) (later-ends find e c s g.of_type g.types g.sequence b g.ends)))

-- whatever s is, 1 is mapped to x alone
pub true-q16 : IsTrueRow q16
true-q16 picks = by_value (q16.at picks) refl (λ find e c t l r h.
    let x = picks 0 in let s = picks 1 in
    let k = application-parts (role e.table (bound_types e) (prepend x s)) (role e.table (bound_types e) one) t l in
    let new = alone-in find e c one x (pos 1) refl in
    let is = λ (y : MathValue). in-union find e (pair_alone one x) (later s) (pair_type k.0 t) k.1 (pair (int (pos 1)) y) in
    apply-means find e c (prepend x s) k.0 t k.1 one (value find e x)
    (is (value find e x) ∙ or-left (within find e (pair (int (pos 1)) (value find e x)) (pair_alone one x)) (within find e (pair (int (pos 1)) (value find e x)) (later s)) new)
    (λ z p. elim (or-cases (within find e (pair (int (pos 1)) z) (pair_alone one x)) (within find e (pair (int (pos 1)) z) (later s)) (sym (is z) ∙ p)) [
      | inl q ↦ (alone-on find e c one x (pos 1) refl).once (int (pos 1)) z (value find e x) q new
      | inr q ↦ let v = (function-pairs find e (literal (pos 2)) (one_more s) (binary Apply (raised s) (binary Sub (bound 0) one)) (int (pos 1)) z).0 q in absurd (too-low v.0 v.1 v.2)
    ]))
  where
    too-low : (i : ℤ) → int (pos 1) ≡ int i → pos 2 ≤ℤ i → ⊥
    too-low i h k = let same : pos 1 ≡ i = ap number_in h in absurd (omega (arith, ints))
