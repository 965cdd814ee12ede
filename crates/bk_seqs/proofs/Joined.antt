-- The rows of s ^ t.
use Rattle.std.proofs.Common.{◌≡◌, refl, ap, ℤ, pos, ℕ, arith, length, ◌+◌, ◌+ℤ◌, ◌-ℤ◌, ◌≤ℤ◌}
use Rattle.std.proofs.lemmas.Int.{ints}
use Rattle.bk_val.specs.Value.{int}
use Rattle.bk_val.specs.ValueType.{ValueType, int_type, pair_type, set_type}
use Rattle.bk_form.specs.Formula.{Formula, bound, binary}
use Rattle.bk_form.specs.Search.{Finder}
use Rattle.bk_form.specs.Environment.{Environment}
use Rattle.bk_form.specs.Role.{element_type}
use Rattle.bk_form.specs.Operators.{elements}
use Rattle.bk_form.specs.Meaning.{meaning, value}
use Rattle.bk_form.specs.Settings.{IsSetting, GivesIn}
use Rattle.bk_form.specs.declared.operator.BinOp.TheVariants.{Add, Sub, Range}
use Rattle.bk_form.specs.Expansion.{card_of, one_more, raised, behind, concat}
use Rattle.bk_seqs.specs.Rows.{q12, q13}
use Rattle.bk_seqs.specs.Laws.{IsTrueRow}
use Rattle.bk_seqs.proofs.Types.{union-gives}
use Rattle.bk_seqs.proofs.Sequences.{IsSequence, IsOn, EndsIn, given, size}
use Rattle.bk_seqs.proofs.Shifts.{at, raised-means, shifted-on, shifted-ends}
use Rattle.bk_seqs.proofs.Parts.{union-on, union-ends}
use Rattle.bk_laws.proofs.ByForm.{by_value, by_truth}
use Rattle.bk_seqs.proofs.Shared.{card-is, is-one, sequence-type, counted-type}

nearer : (i n m : ℤ) → (n +ℤ pos 1) ≤ℤ i → i ≤ℤ (n +ℤ m) → (pos 1 ≤ℤ (i -ℤ n)) × ((i -ℤ n) ≤ℤ m)
nearer i n m h k = (omega (arith, ints), omega (arith, ints))

low : (n : ℕ) → pos 1 ≤ℤ (pos n +ℤ pos 1)
low n = omega (arith, ints)

more : (n m : ℕ) → pos n ≤ℤ (pos n +ℤ pos m)
more n m = omega (arith, ints)

sum-is : (n m : ℕ) → pos (n + m) ≡ (pos n +ℤ pos m)
sum-is n m = omega (arith, ints)

module _ (find : Finder) (e : Environment) (c : IsSetting find e) (s t : Formula) (u v : ValueType) (types : GivesIn e t (set_type (pair_type int_type u))) (on-s : IsSequence find e s (pos (size find e c s))) (on-t : IsSequence find e t (pos (size find e c t))) where
  place : (i : ℤ) → value find (at find e (one_more s) (binary Add (card_of s) (card_of t)) i) (binary Sub (bound 0) (card_of (raised s))) ≡ int (i -ℤ pos (size find e c s))
  place i = ap (λ m. int (i -ℤ pos (length (elements m.value)))) (raised-means find e (element_type (meaning find e (binary Range (one_more s) (binary Add (card_of s) (card_of t)))).role, int i) s)

  fits : (i : ℤ) → (pos (size find e c s) +ℤ pos 1) ≤ℤ i → i ≤ℤ (pos (size find e c s) +ℤ pos (size find e c t)) → (pos 1 ≤ℤ (i -ℤ pos (size find e c s))) × ((i -ℤ pos (size find e c s)) ≤ℤ pos (size find e c t))
  fits i h k = nearer i (pos (size find e c s)) (pos (size find e c t)) h k

  behind-on : IsOn find e (behind s t) (pos (size find e c s) +ℤ pos 1) (pos (size find e c s) +ℤ pos (size find e c t))
  behind-on = shifted-on find e c (one_more s) (binary Add (card_of s) (card_of t)) t (binary Sub (bound 0) (card_of (raised s))) u types (pos (size find e c t)) on-t (λ i. i -ℤ pos (size find e c s)) place fits

  behind-ends : (d : Formula) → EndsIn find e t d → EndsIn find e (behind s t) d
  behind-ends d ends = shifted-ends find e c (one_more s) (binary Add (card_of s) (card_of t)) t (binary Sub (bound 0) (card_of (raised s))) u types (pos (size find e c t)) on-t (λ i. i -ℤ pos (size find e c s)) place fits d ends

  concat-on : GivesIn e (concat s t) (set_type (pair_type int_type v)) → IsSequence find e (concat s t) (pos (size find e c s) +ℤ pos (size find e c t))
  concat-on all = union-on find e s (behind s t) v all (pos 1) (pos (size find e c s)) (pos (size find e c s) +ℤ pos (size find e c t)) (low (size find e c s)) (more (size find e c s) (size find e c t)) on-s behind-on

pub true-q12 : IsTrueRow q12
true-q12 picks = by_value (q12.at picks) refl (λ find e c k l r h.
    let s = picks 0 in let t = picks 1 in let b = picks 2 in
    let g = given find e c s b h.0 h.1 in
    let f = given find e c t b h.2.0 h.2.1 in
    let q = counted-type e (concat s t) k l in
    let types = union-gives e find s (behind s t) (pair_type int_type g.of_type) q.0 g.types q.1 in
    card-is find e c (concat s t) g.of_type types (size find e c s + size find e c t) (pos (size find e c s) +ℤ pos (size find e c t)) (sum-is (size find e c s) (size find e c t)) (concat-on find e c s t f.of_type g.of_type f.types g.sequence f.sequence types))

pub true-q13 : IsTrueRow q13
true-q13 picks = let i = q13.at picks in by_truth i refl (λ find e c l r h.
    let s = picks 0 in let t = picks 1 in let b = picks 2 in
    let g = given find e c s b h.0 h.1 in
    let f = given find e c t b h.2.0 h.2.1 in
    let q = sequence-type find e (concat s t) (binary Add (card_of s) (card_of t)) b l in
    let types = union-gives e find s (behind s t) (pair_type int_type g.of_type) q.0 g.types q.1 in
    is-one find e c (concat s t) (binary Add (card_of s) (card_of t)) b g.of_type types l (concat-on find e c s t f.of_type g.of_type f.types g.sequence f.sequence types)
    (union-ends find e s (behind s t) g.of_type types b g.ends (behind-ends find e c s t f.of_type g.of_type f.types g.sequence f.sequence b f.ends)))
