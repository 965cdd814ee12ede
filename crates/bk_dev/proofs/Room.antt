-- The table with all copies is well-formed; numbers of 32 bits reach all variables.
use Rattle.std.proofs.Common.{◌≡◌, ℕ, zero, suc, List, [], ◌∷◌, ◌++◌, refl, subst, All, IsTrue, arith, Some, None, Option, ◌<◌, ◌≤◌, ◌^◌, length, length-append}
use Rattle.std.specs.Prelude.{slice_get}
use Rattle.std.specs.List.{filter_map, cons_option}
use Rattle.std.proofs.lemmas.List.Elements.{All-nil, All-cons, All-head, All-tail, All-append}
use Rattle.bk_form.specs.Table.{lists_type, IsWellFormed}
use Rattle.bk_dev.specs.Development.{Development}
use Rattle.bk_dev.specs.Flattened.{copied_in_levels, flattened}
use Rattle.bk_dev.specs.Facts.{IsDevelopment}

module _ {A : Type 0} (P : A → Type 0) where
  at-all : (xs : List A) → All P xs → (n : ℕ) (x : A) → slice_get xs n ≡ Some x → P x
  at-all [] h n x q = absurd (cc)
  at-all (y ∷ xs) h zero x q = let e : y ≡ x = cc in subst P e (All-head P y xs h)
  at-all (y ∷ xs) h (suc n) x q = at-all xs (All-tail P y xs h) n x q

  pub picked-all : (xs : List A) → All P xs → (ns : List ℕ) → All P (filter_map (slice_get xs) ns)
  picked-all xs h [] = All-nil P
  picked-all xs h (n ∷ ns) = by_entry (picked-all xs h ns) (slice_get xs n) refl
    where
      by_entry : All P (filter_map (slice_get xs) ns) → (o : Option A) → slice_get xs n ≡ o → All P (cons_option o (filter_map (slice_get xs) ns))
      by_entry rest None q = rest
      by_entry rest (Some x) q = All-cons P x (filter_map (slice_get xs) ns) (at-all xs h n x q) rest

pub flat-formed : (dev : Development) → IsWellFormed dev.table → IsWellFormed (flattened dev).table
flat-formed dev w = record {
  counted = w.counted;
  listed = All-append (λ v. IsTrue (lists_type dev.table v.of_type)) dev.table.variables (filter_map (slice_get dev.table.variables) (copied_in_levels dev.levels)) w.listed (picked-all (λ v. IsTrue (lists_type dev.table v.of_type)) dev.table.variables w.listed (copied_in_levels dev.levels));
}

pub development-formed : (dev : Development) → IsDevelopment dev → IsWellFormed (flattened dev).table
development-formed dev d = flat-formed dev d.lawful.table

-- those of the development itself
pub few-variables : (dev : Development) → IsDevelopment dev → length dev.table.variables ≤ 2 ^ 32
few-variables dev d =
    let room : length (dev.table.variables ++ filter_map (slice_get dev.table.variables) (copied_in_levels dev.levels)) < 2 ^ 32 = d.room in
    omega (arith, room, length-append dev.table.variables (filter_map (slice_get dev.table.variables) (copied_in_levels dev.levels)))
