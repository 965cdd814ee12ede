-- The rows of front(s) and tail(s).
use Rattle.std.proofs.Common.{refl, ℤ, pos, arith, ◌+ℤ◌, ◌-ℤ◌, ◌≤ℤ◌}
use Rattle.std.proofs.lemmas.Int.{ints}
use Rattle.bk_val.specs.ValueType.{ValueType, int_type, pair_type, set_type}
use Rattle.bk_form.specs.Formula.{Formula, bound, binary}
use Rattle.bk_form.specs.Search.{Finder}
use Rattle.bk_form.specs.Environment.{Environment}
use Rattle.bk_form.specs.Settings.{IsSetting, GivesIn}
use Rattle.bk_form.specs.declared.operator.BinOp.TheVariants.{Add}
use Rattle.bk_form.specs.Expansion.{one, one_less, front, tail}
use Rattle.bk_seqs.specs.Rows.{q5, q6, q7, q8}
use Rattle.bk_seqs.specs.Laws.{IsTrueRow}
use Rattle.bk_seqs.proofs.Types.{front-gives, tail-gives}
use Rattle.bk_seqs.proofs.Sequences.{IsSequence, EndsIn, given, size}
use Rattle.bk_seqs.proofs.Shifts.{shifted-on, shifted-ends}
use Rattle.bk_seqs.proofs.Parts.{front-on, front-ends}
use Rattle.bk_laws.proofs.ByForm.{by_value, by_truth}
use Rattle.bk_seqs.proofs.Shared.{one-less-is, card-is, is-one}

pub true-q5 : IsTrueRow q5
true-q5 picks = let i = q5.at picks in by_truth i refl (λ find e c l r h.
    let s = picks 0 in let b = picks 1 in
    let g = given find e c s b h.0 h.1 in
    let types = front-gives e s g.of_type g.types in
    is-one find e c (front s) (one_less s) b g.of_type types l (front-on find e s g.of_type types (pos (size find e c s)) refl g.sequence) (front-ends find e s g.of_type types b g.ends))

pub true-q6 : IsTrueRow q6
true-q6 picks = by_value (q6.at picks) refl (λ find e c t l r h.
    let s = picks 0 in let b = picks 1 in
    let g = given find e c s b h.0 h.1 in
    let types = front-gives e s g.of_type g.types in
    let m = one-less-is (size find e c s) h.2.1 in
    card-is find e c (front s) g.of_type types m.0 (pos (size find e c s) -ℤ pos 1) m.1 (front-on find e s g.of_type types (pos (size find e c s)) refl g.sequence))

-- ---- tail(s)
module _ (find : Finder) (e : Environment) (c : IsSetting find e) (s : Formula) (u : ValueType) (types : GivesIn e s (set_type (pair_type int_type u))) (on : IsSequence find e s (pos (size find e c s))) where
  fits : (i : ℤ) → pos 1 ≤ℤ i → i ≤ℤ (pos (size find e c s) -ℤ pos 1) → (pos 1 ≤ℤ (i +ℤ pos 1)) × ((i +ℤ pos 1) ≤ℤ pos (size find e c s))
  fits i h k = let n = pos (size find e c s) in later i n h k
    where
      later : (i n : ℤ) → pos 1 ≤ℤ i → i ≤ℤ (n -ℤ pos 1) → (pos 1 ≤ℤ (i +ℤ pos 1)) × ((i +ℤ pos 1) ≤ℤ n)
      later i n h k = (omega (arith, ints), omega (arith, ints))

  tail-on : IsSequence find e (tail s) (pos (size find e c s) -ℤ pos 1)
  tail-on = shifted-on find e c one (one_less s) s (binary Add (bound 0) one) u types (pos (size find e c s)) on (λ i. i +ℤ pos 1) (λ i. refl) fits

  tail-ends : (d : Formula) → EndsIn find e s d → EndsIn find e (tail s) d
  tail-ends d ends = shifted-ends find e c one (one_less s) s (binary Add (bound 0) one) u types (pos (size find e c s)) on (λ i. i +ℤ pos 1) (λ i. refl) fits d ends

pub true-q7 : IsTrueRow q7
true-q7 picks = let i = q7.at picks in by_truth i refl (λ find e c l r h.
    let s = picks 0 in let b = picks 1 in
    let g = given find e c s b h.0 h.1 in
    is-one find e c (tail s) (one_less s) b g.of_type (tail-gives e s g.of_type g.types) l (tail-on find e c s g.of_type g.types g.sequence) (tail-ends find e c s g.of_type g.types g.sequence b g.ends))

pub true-q8 : IsTrueRow q8
true-q8 picks = by_value (q8.at picks) refl (λ find e c t l r h.
    let s = picks 0 in let b = picks 1 in
    let g = given find e c s b h.0 h.1 in
    let m = one-less-is (size find e c s) h.2.1 in
    card-is find e c (tail s) g.of_type (tail-gives e s g.of_type g.types) m.0 (pos (size find e c s) -ℤ pos 1) m.1 (tail-on find e c s g.of_type g.types g.sequence))
