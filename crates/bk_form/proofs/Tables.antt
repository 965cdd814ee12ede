-- A table with one more set or variable, or with the size of a set.
use Rattle.std.proofs.Common.{◌≡◌, ℕ, zero, suc, ◌<◌, ◌≤◌, ◌^◌, IsTrue, List, [], ◌∷◌, ◌++◌, length, refl, sym, ◌∙◌, ap, subst, inl, All, arith, length-append, slice_index_or}
use Rattle.std.specs.Prelude.{Some, slice_get, slice_set}
use Rattle.std.specs.Option.{option_map}
use Rattle.std.proofs.lemmas.List.Elements.{All-append, All-cons, All-head, All-nil, All-tail}
use Rattle.std.proofs.lemmas.Grind.{common_steps}
use Rattle.std.proofs.lemmas.Bool.Decides.{nat_tests}
use Rattle.bk_val.specs.ValueType.{ValueType, int_type, bool_type, enum_type, pair_type, set_type}
use Rattle.bk_form.specs.Table.{SetEntry, VariableEntry, Table, with_set, sized_at, with_size, is_among_sets, IsCounted, IsDeferred, IsWellFormed, IsNumberable}

-- a type whose sets are among the first m has them among the first n
pub is_among_sets-more : (m n : ℕ) (t : ValueType) → m ≤ n → IsTrue (is_among_sets m t) → IsTrue (is_among_sets n t)
is_among_sets-more m n int_type h q = q
is_among_sets-more m n bool_type h q = q
is_among_sets-more m n (enum_type e) h q = grind (arith, nat_tests)
is_among_sets-more m n (pair_type s t) h q = grind (arith, is_among_sets-more m n s h, is_among_sets-more m n t h)
is_among_sets-more m n (set_type t) h q = is_among_sets-more m n t h q

-- one more set
pub with_set-well_formed : (t : Table) (s : SetEntry) → IsWellFormed t → IsCounted s → IsWellFormed (with_set t s)
with_set-well_formed t s w some =
    let more : length t.sets ≤ length (t.sets ++ s ∷ []) = omega (arith, length-append t.sets (s ∷ [])) in
    record {
      counted = All-append IsCounted t.sets (s ∷ []) w.counted (All-cons IsCounted s [] some (All-nil IsCounted));
      listed = λ k d h. is_among_sets-more (length t.sets) (length (t.sets ++ s ∷ [])) (slice_index_or t.variables k d).of_type more (w.listed k d h);
    }

pub with_set-numberable : (t : Table) (s : SetEntry) → IsNumberable t → length t.sets < 2 ^ 32 → IsNumberable (with_set t s)
with_set-numberable t s n few = record { few_sets = omega (arith, length-append t.sets (s ∷ [])); few_variables = n.few_variables }

-- ---- the size of a set
sized_at-length : (ss : List SetEntry) (n size : ℕ) → length (sized_at n size ss) ≡ length ss
sized_at-length [] n size = refl
sized_at-length (s ∷ ss) zero size = refl
sized_at-length (s ∷ ss) (suc n) size = ap suc (sized_at-length ss n size)

-- the size is that of the entry that is written
sized_at-set : (ss : List SetEntry) (n size : ℕ) (d : SetEntry) → n < length ss → slice_set ss n (record (slice_index_or ss n d) { size = size }) ≡ sized_at n size ss
sized_at-set [] n size d h = absurd (omega arith)
sized_at-set (s ∷ ss) zero size d h = refl
sized_at-set (s ∷ ss) (suc n) size d h = ap (λ l. s ∷ l) (sized_at-set ss n size d (omega arith))

pub size-written : (t : Table) (n size : ℕ) (s : SetEntry) → n < length t.sets → s ≡ slice_index_or t.sets n s → record t { sets = slice_set t.sets n (record s { size = size }) } ≡ with_size t n size
size-written t n size s h e = λ i. record t { sets = (ap (λ r. slice_set t.sets n (record r { size = size })) e ∙ sized_at-set t.sets n size s h) i }

listed-at : (ss : List SetEntry) (n : ℕ) → option_map (λ s. s.elements) (slice_get ss n) ≡ Some [] → n < length ss
listed-at [] n h = absurd (cc)
listed-at (s ∷ ss) zero h = omega arith
listed-at (s ∷ ss) (suc n) h = let k : n < length ss = listed-at ss n h in omega arith

-- a deferred set is listed
pub deferred-listed : (t : Table) (n : ℕ) → IsDeferred t n → n < length t.sets
deferred-listed t n h = listed-at t.sets n h

counted-at : (ss : List SetEntry) (n size : ℕ) → option_map (λ s. s.elements) (slice_get ss n) ≡ Some [] → All IsCounted ss → All IsCounted (sized_at n size ss)
counted-at [] n size h w = w
counted-at (s ∷ ss) zero size h w = All-cons IsCounted (record s { size = size }) ss (inl (cc)) (All-tail IsCounted s ss w)
counted-at (s ∷ ss) (suc n) size h w = All-cons IsCounted s (sized_at n size ss) (All-head IsCounted s ss w) (counted-at ss n size h (All-tail IsCounted s ss w))

pub with_size-well_formed : (t : Table) (n size : ℕ) → IsWellFormed t → IsDeferred t n → IsWellFormed (with_size t n size)
with_size-well_formed t n size w h = record {
  counted = counted-at t.sets n size h w.counted;
  listed = subst (λ m. All (λ (v : VariableEntry). IsTrue (is_among_sets m v.of_type)) t.variables) (sym (sized_at-length t.sets n size)) w.listed;
}

pub with_size-numberable : (t : Table) (n size : ℕ) → IsNumberable t → IsNumberable (with_size t n size)
with_size-numberable t n size w = record { few_sets = omega (arith, w.few_sets, sized_at-length t.sets n size); few_variables = w.few_variables }
