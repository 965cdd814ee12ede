-- Entries of copies, put behind a table one after another.
use Rattle.std.proofs.Common.{◌≡◌, ℕ, zero, suc, Bool, true, false, cond, nat_lt, ◌≤◌, ◌<◌, List, [], ◌∷◌, ◌++◌, length, length-append, take, drop, get_or, ◌+◌, refl, sym, ◌∙◌, ap, subst, arith}
use Rattle.std.specs.Prelude.{Option, Some, None, slice_get}
use Rattle.std.specs.List.{filter_map, cons_option}
use Rattle.std.specs.Option.{option_map}
use Rattle.std.proofs.lemmas.Bool.Decides.{nat_tests}
use Rattle.std.proofs.lemmas.Option.{slice_get_past}
use Rattle.std.proofs.lemmas.List.{append-nil, append_assoc, take_all, take-append-le, drop_more, drop_all}
use Rattle.bk_form.specs.Table.{Table, VariableEntry, variable_text, variable_type}
use Rattle.bk_form.specs.Wider.{IsWider}
use Rattle.bk_gsl.specs.Substitution.{Substitution}
use Rattle.bk_gsl.specs.Flat.{copied, flat_table}
use Rattle.bk_par.specs.Copies.{with_copies, put_behind, with_copy}

-- ---- one entry
taken-within : {A : Type 0} (xs : List A) (n i : ℕ) → i < n → slice_get (take n xs) i ≡ slice_get xs i
taken-within xs zero i h = absurd (omega (arith, h))
taken-within [] (suc n) i h = refl
taken-within (x ∷ xs) (suc n) zero h = refl
taken-within (x ∷ xs) (suc n) (suc i) h = taken-within xs n i (omega (arith, h))

taken-past : {A : Type 0} (xs : List A) (n i : ℕ) → n ≤ i → slice_get (take n xs) i ≡ None
taken-past xs zero i h = slice_get_past (take zero xs) i (omega arith)
taken-past [] (suc n) zero h = refl
taken-past [] (suc n) (suc i) h = refl
taken-past (x ∷ xs) (suc n) zero h = absurd (omega (arith, h))
taken-past (x ∷ xs) (suc n) (suc i) h = taken-past xs n i (omega (arith, h))

-- the table with what stands in the option behind it
abbrev behind : Table → Option VariableEntry → Table
behind t o = record t { variables = t.variables ++ cons_option o [] }

behind-none : (t : Table) → behind t None ≡ t
behind-none t = λ i. record t { variables = append-nil t.variables i }

-- what a row of the table has is put behind it
row-behind : (t : Table) (o : Option VariableEntry) → put_behind t (option_map (λ (v : VariableEntry). v.text) o) (option_map (λ (v : VariableEntry). v.of_type) o) ≡ behind t o
row-behind t None = sym (behind-none t)
row-behind t (Some v) = refl

pub copy_past : (t : Table) (first x : ℕ) → first ≤ x → with_copy t first x ≡ t
copy_past t first x h = let e : nat_lt x first ≡ false = grind (arith, nat_tests) in ap (λ b. cond b (put_behind t (variable_text t x) (variable_type t x)) t) e

pub copy_within : (t : Table) (first x : ℕ) → x < first → with_copy t first x ≡ put_behind t (variable_text t x) (variable_type t x)
copy_within t first x h = let e : nat_lt x first ≡ true = grind (arith, nat_tests) in ap (λ b. cond b (put_behind t (variable_text t x) (variable_type t x)) t) e

pub ruleset entries = (copy_past, copy_within)

-- one copy, as a list
pub one_copy : (t : Table) (first x : ℕ) → with_copy t first x ≡ with_copies t first (x ∷ [])
one_copy t first x = by_test (nat_lt x first) refl
  where
    low : nat_lt x first ≡ true → x < first
    low q = grind (arith, nat_tests)

    high : nat_lt x first ≡ false → first ≤ x
    high q = grind (arith, nat_tests)

    by_test : (b : Bool) → nat_lt x first ≡ b → with_copy t first x ≡ with_copies t first (x ∷ [])
    by_test true q = copy_within t first x (low q) ∙ row-behind t (slice_get t.variables x) ∙ sym (ap (behind t) (taken-within t.variables first x (low q)))
    by_test false q = copy_past t first x (high q) ∙ sym (ap (behind t) (taken-past t.variables first x (high q)) ∙ behind-none t)

-- ---- all of them
filtered-append : (f : ℕ → Option VariableEntry) (x : ℕ) (xs : List ℕ) → filter_map f (x ∷ xs) ≡ cons_option (f x) [] ++ filter_map f xs
filtered-append f x xs = at (f x)
  where
    at : (o : Option VariableEntry) → cons_option o (filter_map f xs) ≡ cons_option o [] ++ filter_map f xs
    at None = refl
    at (Some v) = refl

-- one more entry, and then those of the rest
pub copies_step : (t : Table) (first x : ℕ) (xs : List ℕ) → first ≤ length t.variables → with_copies (with_copies t first (x ∷ [])) first xs ≡ with_copies t first (x ∷ xs)
copies_step t first x xs h =
    let f = slice_get (take first t.variables) in
    let new = cons_option (f x) [] in
    let same : take first (t.variables ++ new) ≡ take first t.variables = take-append-le first t.variables new h in
    let seam : t.variables ++ new ++ filter_map f xs ≡ t.variables ++ filter_map f (x ∷ xs) = append_assoc t.variables new (filter_map f xs) ∙ ap (λ ys. t.variables ++ ys) (sym (filtered-append f x xs)) in
    (λ i. record t { variables = t.variables ++ new ++ filter_map (slice_get (same i)) xs }) ∙ (λ i. record t { variables = seam i })

pub copies_none : (t : Table) (first : ℕ) → with_copies t first [] ≡ t
copies_none t first = λ i. record t { variables = append-nil t.variables i }

pub as_many : (t : Table) (first x : ℕ) → length t.variables ≤ length (with_copies t first (x ∷ [])).variables
as_many t first x = omega (arith, length-append t.variables (cons_option (slice_get (take first t.variables) x) []))

-- what is behind leaves what stands before
pub wider_copies : (t : Table) (first : ℕ) (xs : List ℕ) → IsWider t (with_copies t first xs)
wider_copies t first xs = record { sets = ([], sym (append-nil t.sets)); variables = (filter_map (slice_get (take first t.variables)) xs, refl) }

pub wider_same : (t : Table) → IsWider t t
wider_same t = record { sets = ([], sym (append-nil t.sets)); variables = ([], sym (append-nil t.variables)) }

pub wider_kept : (t u v : Table) → IsWider t u → v ≡ u → IsWider t v
wider_kept t u v w e = subst (IsWider t) (sym e) w

pub wider_steps : (t u v : Table) → IsWider t u → IsWider u v → IsWider t v
wider_steps t u v a b = record {
  sets = (a.sets.0 ++ b.sets.0, b.sets.1 ∙ ap (λ xs. xs ++ b.sets.0) a.sets.1 ∙ append_assoc t.sets a.sets.0 b.sets.0);
  variables = (a.variables.0 ++ b.variables.0, b.variables.1 ∙ ap (λ xs. xs ++ b.variables.0) a.variables.1 ∙ append_assoc t.variables a.variables.0 b.variables.0);
}

-- the copies of a substitution behind its table
pub copies_of_all : (t : Table) (s : Substitution) → with_copies t (length t.variables) (copied s) ≡ flat_table t s
copies_of_all t s = λ i. record t { variables = t.variables ++ filter_map (slice_get (take_all (length t.variables) t.variables (omega arith) i)) (copied s) }

-- the same of the table with one copy more
pub copy_step : (t : Table) (first x : ℕ) (xs : List ℕ) → first ≤ length t.variables → with_copies (with_copy t first x) first xs ≡ with_copies t first (x ∷ xs)
copy_step t first x xs h = ap (λ u. with_copies u first xs) (one_copy t first x) ∙ copies_step t first x xs h

pub as_many_then : (t : Table) (first x : ℕ) → length t.variables ≤ length (with_copy t first x).variables
as_many_then t first x = omega (arith, as_many t first x, ap (λ (u : Table). length u.variables) (one_copy t first x))

pub wider_copy : (t u : Table) (first x : ℕ) → IsWider t u → IsWider t (with_copy u first x)
wider_copy t u first x w = subst (IsWider t) (sym (one_copy u first x)) (wider_steps t u (with_copies u first (x ∷ [])) w (wider_copies u first (x ∷ [])))

pub all_step : (t u : Table) (first i : ℕ) (xs : List ℕ) → i < length xs → first ≤ length t.variables → u ≡ with_copy t first (get_or xs i 0) → with_copies u first (drop (i + 1) xs) ≡ with_copies t first (drop i xs)
all_step t u first i xs h l e = ap (λ v. with_copies v first (drop (i + 1) xs)) e ∙ copy_step t first (get_or xs i 0) (drop (i + 1) xs) l ∙ ap (with_copies t first) (sym (drop_more xs i 0 h))

pub all_end : (t : Table) (first i : ℕ) (xs : List ℕ) → length xs ≤ i → with_copies t first (drop i xs) ≡ t
all_end t first i xs h = ap (with_copies t first) (drop_all i xs h) ∙ copies_none t first

pub ruleset adding = (copies_none, copy_step, as_many_then, wider_same, wider_copy, wider_kept)
