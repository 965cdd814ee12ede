-- What the proofs of the rows share.
use Rattle.std.proofs.Common.{◌≡◌, sym, ◌∙◌, ap, subst, ℤ, pos, ℕ, zero, suc, arith, ◌+ℤ◌, ◌-ℤ◌, true}
use Rattle.std.specs.Prelude.{int_le}
use Rattle.std.proofs.lemmas.Int.{ints}
use Rattle.bk_val.specs.Value.{int}
use Rattle.bk_val.specs.ValueType.{ValueType, int_type, pair_type, set_type}
use Rattle.bk_form.specs.Formula.{Formula}
use Rattle.bk_form.specs.Search.{Finder}
use Rattle.bk_form.specs.Environment.{Environment, bound_types}
use Rattle.bk_form.specs.Role.{role}
use Rattle.bk_form.specs.Meaning.{value, truth}
use Rattle.bk_form.specs.Settings.{IsSetting, IsPredicateIn, GivesIn, RangesIn}
use Rattle.bk_form.proofs.ArrowMembers.{arrow-in-parts}
use Rattle.bk_form.proofs.RoleParts.{card-parts}
use Rattle.bk_form.specs.Expansion.{one, card_of, up_to, is_sequence}
use Rattle.bk_seqs.proofs.Types.{range-type}
use Rattle.bk_seqs.proofs.Sequences.{IsSequence, EndsIn, num, size-is, sequence-if}

-- ---- numbers of members
pub one-more-is : (n : ℕ) → pos (suc n) ≡ (pos n +ℤ pos 1)
one-more-is n = omega (arith, ints)

pub one-less-is : (n : ℕ) → int_le (pos 1) (pos n) ≡ true → (m : ℕ) × (pos m ≡ (pos n -ℤ pos 1))
one-less-is zero h = absurd (cc)
one-less-is (suc n) h = (n, omega (arith, ints))

pub card-is : (find : Finder) (e : Environment) → IsSetting find e → (f : Formula) (u : ValueType) → GivesIn e f (set_type (pair_type int_type u)) → (n : ℕ) (z : ℤ) → pos n ≡ z → IsSequence find e f z → value find e (card_of f) ≡ int z
card-is find e c f u types n z same s = ap (λ k. int (pos k)) (size-is find e c f u types n (subst (IsSequence find e f) (sym same) s)) ∙ ap int same

-- f : (1 .. n) --> b
pub is-one : (find : Finder) (e : Environment) → IsSetting find e → (f n b : Formula) (u : ValueType) → GivesIn e f (set_type (pair_type int_type u)) → IsPredicateIn e (is_sequence f n b) → IsSequence find e f (num find e n) → EndsIn find e f b → truth find e (is_sequence f n b) ≡ true
is-one find e c f n b u types p s ends =
    let k = arrow-in-parts find e f (up_to n) b p in
    sequence-if find e c f n b u types (subst (λ t. RangesIn e (up_to n) t) (range-type e one n k.0 k.3) k.3) s ends

-- ---- types
-- the type of a formula in f : (1 .. n) --> b
pub sequence-type : (find : Finder) (e : Environment) (f n b : Formula) → IsPredicateIn e (is_sequence f n b) → (t : ValueType) × GivesIn e f (set_type t)
sequence-type find e f n b p = let k = arrow-in-parts find e f (up_to n) b p in (pair_type k.0 k.1, k.2)

-- and in card(f)
pub counted-type : (e : Environment) (f : Formula) (t : ValueType) → GivesIn e (card_of f) t → (u : ValueType) × GivesIn e f (set_type u)
counted-type e f t h = let k = card-parts (role e.table (bound_types e) f) t h in (k.0, k.1)
