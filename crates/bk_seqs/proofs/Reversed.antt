-- The rows of rev(s).
use Rattle.std.proofs.Common.{◌≡◌, ◌↔◌, refl, sym, ◌∙◌, ap, subst, ℤ, pos, arith, length, ◌+ℤ◌, ◌-ℤ◌, ◌≤ℤ◌}
use Rattle.std.proofs.lemmas.Int.{ints}
use Rattle.bk_val.specs.Value.{MathValue, int, pair}
use Rattle.bk_val.specs.ValueType.{ValueType, int_type, pair_type, set_type}
use Rattle.bk_form.specs.Table.{set_size}
use Rattle.bk_form.specs.Formula.{Formula, bound, binary}
use Rattle.bk_form.specs.Search.{Finder}
use Rattle.bk_form.specs.Environment.{Environment}
use Rattle.bk_form.specs.Role.{element_type}
use Rattle.bk_form.specs.Operators.{elements, number_in}
use Rattle.bk_form.specs.Meaning.{meaning, value, within}
use Rattle.bk_form.specs.Settings.{IsSetting, GivesIn}
use Rattle.bk_form.specs.MemberLaws.{IsPairIn}
use Rattle.bk_form.specs.declared.operator.BinOp.TheVariants.{Sub, Range}
use Rattle.bk_form.proofs.Members.{both_ways}
use Rattle.bk_form.proofs.Valued.{sound_typing}
use Rattle.bk_form.proofs.Forms.{same-value, same_members, member, pair-of}
use Rattle.bk_form.specs.Expansion.{one, card_of, one_more, raised, rev}
use Rattle.bk_seqs.specs.Rows.{q9, q10, q11}
use Rattle.bk_seqs.specs.Laws.{IsTrueRow}
use Rattle.bk_seqs.proofs.Types.{rev-gives}
use Rattle.bk_seqs.proofs.Sequences.{IsSequence, EndsIn, given, size, size-is}
use Rattle.bk_seqs.proofs.Shifts.{at, raised-means, shifted-on, shifted-ends, shifted-pairs}
use Rattle.bk_laws.proofs.ByForm.{by_value, by_truth}
use Rattle.bk_seqs.proofs.Shared.{card-is, is-one}

mirrored : (i n : ℤ) → pos 1 ≤ℤ i → i ≤ℤ n → (pos 1 ≤ℤ ((n +ℤ pos 1) -ℤ i)) × (((n +ℤ pos 1) -ℤ i) ≤ℤ n)
mirrored i n h k = (omega (arith, ints), omega (arith, ints))

twice : (i n : ℤ) → ((n +ℤ pos 1) -ℤ ((n +ℤ pos 1) -ℤ i)) ≡ i
twice i n = omega (arith, ints)

module _ (find : Finder) (e : Environment) (c : IsSetting find e) (s : Formula) (u : ValueType) (types : GivesIn e s (set_type (pair_type int_type u))) (on : IsSequence find e s (pos (size find e c s))) where
  place : (i : ℤ) → value find (at find e one (card_of s) i) (binary Sub (one_more (raised s)) (bound 0)) ≡ int ((pos (size find e c s) +ℤ pos 1) -ℤ i)
  place i = ap (λ m. int ((pos (length (elements m.value)) +ℤ pos 1) -ℤ i)) (raised-means find e (element_type (meaning find e (binary Range one (card_of s))).role, int i) s)

  fits : (i : ℤ) → pos 1 ≤ℤ i → i ≤ℤ pos (size find e c s) → (pos 1 ≤ℤ ((pos (size find e c s) +ℤ pos 1) -ℤ i)) × (((pos (size find e c s) +ℤ pos 1) -ℤ i) ≤ℤ pos (size find e c s))
  fits i h k = mirrored i (pos (size find e c s)) h k

  rev-on : IsSequence find e (rev s) (pos (size find e c s))
  rev-on = shifted-on find e c one (card_of s) s (binary Sub (one_more (raised s)) (bound 0)) u types (pos (size find e c s)) on (λ i. (pos (size find e c s) +ℤ pos 1) -ℤ i) place fits

  rev-ends : (d : Formula) → EndsIn find e s d → EndsIn find e (rev s) d
  rev-ends d ends = shifted-ends find e c one (card_of s) s (binary Sub (one_more (raised s)) (bound 0)) u types (pos (size find e c s)) on (λ i. (pos (size find e c s) +ℤ pos 1) -ℤ i) place fits d ends

  rev-pairs : (x y : MathValue) → IsPairIn find e (rev s) x y ↔ ((i : ℤ) × (x ≡ int i) × (pos 1 ≤ℤ i) × (i ≤ℤ pos (size find e c s)) × IsPairIn find e s (int ((pos (size find e c s) +ℤ pos 1) -ℤ i)) y)
  rev-pairs x y = shifted-pairs find e c one (card_of s) s (binary Sub (one_more (raised s)) (bound 0)) u types (pos (size find e c s)) on (λ i. (pos (size find e c s) +ℤ pos 1) -ℤ i) place fits x y

pub true-q9 : IsTrueRow q9
true-q9 picks = let i = q9.at picks in by_truth i refl (λ find e c l r h.
    let s = picks 0 in let b = picks 1 in
    let g = given find e c s b h.0 h.1 in
    is-one find e c (rev s) (card_of s) b g.of_type (rev-gives e s g.of_type g.types) l (rev-on find e c s g.of_type g.types g.sequence) (rev-ends find e c s g.of_type g.types g.sequence b g.ends))

pub true-q10 : IsTrueRow q10
true-q10 picks = by_value (q10.at picks) refl (λ find e c t l r h.
    let s = picks 0 in let b = picks 1 in
    let g = given find e c s b h.0 h.1 in
    card-is find e c (rev s) g.of_type (rev-gives e s g.of_type g.types) (size find e c s) (pos (size find e c s)) refl (rev-on find e c s g.of_type g.types g.sequence))

-- ---- rev(rev(s))
module _ (find : Finder) (e : Environment) (c : IsSetting find e) (s : Formula) (u : ValueType) (types : GivesIn e s (set_type (pair_type int_type u))) (on : IsSequence find e s (pos (size find e c s))) where
  once-types : GivesIn e (rev s) (set_type (pair_type int_type u))
  once-types = rev-gives e s u types

  twice-types : GivesIn e (rev (rev s)) (set_type (pair_type int_type u))
  twice-types = rev-gives e (rev s) u once-types

  long : size find e c (rev s) ≡ size find e c s
  long = size-is find e c (rev s) u once-types (size find e c s) (rev-on find e c s u types on)

  again : IsSequence find e (rev s) (pos (size find e c (rev s)))
  again = subst (λ n. IsSequence find e (rev s) (pos n)) (sym long) (rev-on find e c s u types on)

  there-and-back : (x y : MathValue) → IsPairIn find e (rev (rev s)) x y → IsPairIn find e s x y
  there-and-back x y p =
      let v = (rev-pairs find e c (rev s) u once-types again x y).0 p in
      let w = (rev-pairs find e c s u types on (int ((pos (size find e c (rev s)) +ℤ pos 1) -ℤ v.0)) y).0 v.4 in
      let index : ((pos (size find e c (rev s)) +ℤ pos 1) -ℤ v.0) ≡ w.0 = ap number_in w.1 in
      let same : ((pos (size find e c s) +ℤ pos 1) -ℤ w.0) ≡ v.0 = ap (λ j. (pos (size find e c s) +ℤ pos 1) -ℤ j) (sym index ∙ ap (λ n. (pos n +ℤ pos 1) -ℤ v.0) long) ∙ twice v.0 (pos (size find e c s)) in
      subst (λ z. IsPairIn find e s z y) (ap int same ∙ sym v.1) w.4

  back-and-there : (x y : MathValue) → IsPairIn find e s x y → IsPairIn find e (rev (rev s)) x y
  back-and-there x y p =
      let v = on.inside x y p in
      let n = pos (size find e c s) in
      let low = v.2 in let high = v.3 in
      let room = mirrored v.0 n low high in
      let here : IsPairIn find e s (int ((n +ℤ pos 1) -ℤ ((n +ℤ pos 1) -ℤ v.0))) y = subst (λ z. IsPairIn find e s z y) (v.1 ∙ ap int (sym (twice v.0 n))) p in
      let middle : IsPairIn find e (rev s) (int ((n +ℤ pos 1) -ℤ v.0)) y = (rev-pairs find e c s u types on (int ((n +ℤ pos 1) -ℤ v.0)) y).1 ((n +ℤ pos 1) -ℤ v.0, refl, room.0, room.1, here) in
      (rev-pairs find e c (rev s) u once-types again x y).1 (v.0, v.1, low, subst (λ k. v.0 ≤ℤ pos k) (sym long) high, subst (λ k. IsPairIn find e (rev s) (int ((pos k +ℤ pos 1) -ℤ v.0)) y) (sym long) middle)

  rev-twice : value find e (rev (rev s)) ≡ value find e s
  rev-twice =
      let sizes = set_size e.table in
      let t = pair_type int_type u in
      same_members sizes t (value find e (rev (rev s))) (value find e s) (sound_typing.typed find e c.well c.typed (rev (rev s)) (set_type t) twice-types) (sound_typing.typed find e c.well c.typed s (set_type t) types)
      (λ v o.
      let p = pair-of sizes int_type u v o in
      let same = both_ways (within find e (pair p.left p.right) (rev (rev s))) (within find e (pair p.left p.right) s) (there-and-back p.left p.right) (back-and-there p.left p.right) in
      sym (member find e (rev (rev s)) t twice-types v) ∙ subst (λ z. within find e z (rev (rev s)) ≡ within find e z s) (sym p.is_pair) same ∙ member find e s t types v)

pub true-q11 : IsTrueRow q11
true-q11 picks find e c one_role h =
    let s = picks 0 in let b = picks 1 in
    let g = given find e c s b h.0 h.1 in
    let t = set_type (pair_type int_type g.of_type) in
    same-value find e (rev (rev s)) s t (one_role.one_role ∙ g.types) g.types (rev-twice find e c s g.of_type g.types g.sequence)
