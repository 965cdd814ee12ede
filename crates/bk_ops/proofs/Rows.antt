-- Tables whose rows differ in their texts.
use Rattle.std.proofs.Common.{◌≡◌, ℕ, Bool, true, false, ◌||◌, ◌&&◌, not, List, [], ◌∷◌, map, refl, sym, true≢false}
use Rattle.std.proofs.lemmas.Map.Made.{AllPairs-from_IsDistinct}
use Rattle.std.specs.Cmp.Lexicographic.{bytes_decides}
use Rattle.std.specs.List.{list_any, IsDistinct, AllByRecursion}
use Rattle.std.specs.Str.{bytes_eq}
use Rattle.bk_ops.specs.Rows.{text_of, TextsDiffer}
use Rattle.bk_ops.specs.declared.row.OpRow.{OpRow}

-- whether no two texts are the same
abbrev pub differ : List (List ℕ) → Bool
differ [] = true
differ (text ∷ texts) = not (list_any (bytes_eq text) texts) && differ texts

apart : (text : List ℕ) (texts : List (List ℕ)) → list_any (bytes_eq text) texts ≡ false → AllByRecursion (λ other. bytes_eq text other ≡ false) texts
apart text [] h = tt
apart text (other ∷ texts) h = by (bytes_eq text other) refl h (apart text texts)
  where
    by : (b : Bool) → bytes_eq text other ≡ b → (b || list_any (bytes_eq text) texts) ≡ false → (list_any (bytes_eq text) texts ≡ false → AllByRecursion (λ t. bytes_eq text t ≡ false) texts) → AllByRecursion (λ t. bytes_eq text t ≡ false) (other ∷ texts)
    by true e g on = absurd (true≢false g)
    by false e g on = (e, on g)

distinct : (texts : List (List ℕ)) → differ texts ≡ true → IsDistinct bytes_eq texts
unfolding IsDistinct
distinct [] h = tt
distinct (text ∷ texts) h = by (list_any (bytes_eq text) texts) refl h (distinct texts)
  where
    by : (b : Bool) → list_any (bytes_eq text) texts ≡ b → (not b && differ texts) ≡ true → (differ texts ≡ true → IsDistinct bytes_eq texts) → IsDistinct bytes_eq (text ∷ texts)
    by true e g on = absurd (true≢false (sym g))
    by false e g on = (apart text texts e, on g)

-- rows whose texts the test tells apart
pub texts_differ : (rows : List OpRow) → differ (map text_of rows) ≡ true → TextsDiffer rows
unfolding TextsDiffer
texts_differ rows h = AllPairs-from_IsDistinct {eq = bytes_eq} bytes_decides (map text_of rows) (distinct (map text_of rows) h)
