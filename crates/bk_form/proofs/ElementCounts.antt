-- How many elements a set has.
use Rattle.std.proofs.Common.{◌≡◌, refl, sym, ◌∙◌, ap, subst, Bool, true, false, ◌||◌, suc, length, List, [], ◌∷◌}
use Rattle.std.specs.BTreeSet.{insert_key}
use Rattle.bk_val.specs.Value.{MathValue, value_cmp, IsStrictlySorted}
use Rattle.bk_val.specs.Sets.{has, set_of}
use Rattle.bk_val.specs.CmpLaws.{value_cmp-equal, value_eq-self}
use Rattle.bk_val.proofs.SortedLists.{by_rank}
use Rattle.bk_val.proofs.Elements.{same_elements, sorted_set_of, has-set_of}
use Rattle.bk_form.specs.Operators.{is_equal}

neither : (a b : Bool) → (a || b) ≡ false → (a ≡ false) × (b ≡ false)
neither true b h = absurd (cc)
neither false b h = (refl, h)

length-insert : (xs : List MathValue) (k : MathValue) → has xs k ≡ false → length (insert_key value_cmp xs k) ≡ suc (length xs)
length-insert [] k h = refl
length-insert (x ∷ xs) k h =
    let q = neither (is_equal k x) (has xs k) h in
    by_rank (λ l. length l ≡ suc (suc (length xs))) (value_cmp k x) _ _ _
    (λ o. refl)
    (λ o. let z : true ≡ false = sym (subst (λ y. is_equal k y ≡ true) (value_cmp-equal k x o) (value_eq-self k)) ∙ q.0 in cc)
    (λ o. ap suc (length-insert xs k q.1))

-- the set of some values has one element more with a new value in front, and turns only on which values they are
pub count-more : (xs : List MathValue) (v : MathValue) → has xs v ≡ false → length (set_of (v ∷ xs)) ≡ suc (length (set_of xs))
count-more xs v h = length-insert (set_of xs) v (has-set_of xs v ∙ h)

pub same-set : (xs ys : List MathValue) → ((q : MathValue) → has xs q ≡ has ys q) → set_of xs ≡ set_of ys
same-set xs ys h = same_elements (set_of xs) (set_of ys) (sorted_set_of xs) (sorted_set_of ys) (λ q. has-set_of xs q ∙ h q ∙ sym (has-set_of ys q))

pub set-of-sorted : (xs : List MathValue) → IsStrictlySorted xs → set_of xs ≡ xs
set-of-sorted xs s = same_elements (set_of xs) xs (sorted_set_of xs) s (has-set_of xs)
