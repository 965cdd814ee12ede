-- Facts on sorted lists of values.
use Rattle.std.proofs.Common.{◌≡◌, ℕ, ◌-◌, ◌<◌, ◌≤◌, List, [], ◌∷◌, ◌++◌, length, drop, get_or, refl, sym, ◌∙◌, ap, arith, length-drop, append_assoc, ◌↔◌, IsTrue, take, ⊎_elim, rules}
use Rattle.std.proofs.lemmas.Bool.{cases_lt}
use Rattle.std.proofs.lemmas.List.{take_all, drop_all, append-nil}
use Rattle.std.specs.declared.cmp.Ordering.{Ordering}
use Rattle.std.specs.declared.cmp.Ordering.TheVariants.{Less, Equal, Greater}
use Rattle.std.specs.Ordering.{match_ordering, ordering_reverse, ordering_index}
use Rattle.std.specs.List.{AllByRecursion, Contains}
use Rattle.std.specs.List.Sorted.{IsStrictlySortedBy, IsNonDecreasingBy, IsBinarySearchResult, IsSearchInRange}
use Rattle.std.specs.Prelude.{Result, Ok, Err, is_ok}
use Rattle.std.proofs.lemmas.Map.Keys.{Less-from_sorted}
use Rattle.bk_val.specs.Value.{MathValue, value_cmp, IsStrictlySorted}
use Rattle.bk_val.specs.Sets.{union_of}
use Rattle.bk_val.specs.CmpLaws.{value_cmp-trans, value_cmp-antisymm, value_cmp-equal, value_cmp-self}

abbrev pub Below : MathValue → List MathValue → Type 0
Below x ys = AllByRecursion (λ y. value_cmp x y ≡ Less) ys

pub sorted_nil : IsStrictlySorted []
unfolding IsStrictlySortedBy
sorted_nil = tt

all_weaker : (P Q : MathValue → Type 0) → ((z : MathValue) → P z → Q z) → (ys : List MathValue) → AllByRecursion P ys → AllByRecursion Q ys
all_weaker P Q f [] a = tt
all_weaker P Q f (y ∷ ys) a = (f y a.0, all_weaker P Q f ys a.1)

pub by_rank : (P : List MathValue → Type 0) (k : Ordering) (xs ys zs : List MathValue) → (k ≡ Less → P xs) → (k ≡ Equal → P ys) → (k ≡ Greater → P zs) → P (match_ordering k xs ys zs)
by_rank P Less xs ys zs a b c = a refl
by_rank P Equal xs ys zs a b c = b refl
by_rank P Greater xs ys zs a b c = c refl

all_at : (P : MathValue → Type 0) (x : MathValue) (xs : List MathValue) → AllByRecursion P (x ∷ xs) → ((ys : List MathValue) → AllByRecursion P ys → AllByRecursion P (union_of xs ys)) → (ys : List MathValue) → AllByRecursion P ys → AllByRecursion P (union_of (x ∷ xs) ys)
all_at P x xs a on [] b = a
all_at P x xs a on (y ∷ ys) b = by_rank (AllByRecursion P) (value_cmp x y) _ _ _ (λ _. (a.0, on (y ∷ ys) b)) (λ _. (a.0, on ys b.1)) (λ _. (b.0, all_at P x xs a on ys b.1))

pub all_union_of : (P : MathValue → Type 0) (xs ys : List MathValue) → AllByRecursion P xs → AllByRecursion P ys → AllByRecursion P (union_of xs ys)
all_union_of P [] ys a b = b
all_union_of P (x ∷ xs) ys a b = all_at P x xs a (λ zs. all_union_of P xs zs a.1) ys b

pub turned : (x y : MathValue) → value_cmp x y ≡ Greater → value_cmp y x ≡ Less
turned x y h = value_cmp-antisymm y x ∙ ap ordering_reverse h

pub below_all : (x y : MathValue) (ys : List MathValue) → value_cmp x y ≡ Less → Below y ys → Below x (y ∷ ys)
below_all x y ys h a = (h, all_weaker (λ z. value_cmp y z ≡ Less) (λ z. value_cmp x z ≡ Less) (λ z l. value_cmp-trans x y z h l) ys a)

level_all : (x y : MathValue) (ys : List MathValue) → value_cmp x y ≡ Equal → Below y ys → Below x ys
level_all x y ys h a = rw (value_cmp-equal x y h) a

sorted_at : (x : MathValue) (xs : List MathValue) → IsStrictlySorted (x ∷ xs) → ((ys : List MathValue) → IsStrictlySorted ys → IsStrictlySorted (union_of xs ys)) → (ys : List MathValue) → IsStrictlySorted ys → IsStrictlySorted (union_of (x ∷ xs) ys)
unfolding IsStrictlySortedBy
sorted_at x xs s h [] t = s
sorted_at x xs s h (y ∷ ys) t = by_rank (IsStrictlySortedBy value_cmp) (value_cmp x y) _ _ _
    (λ k. (all_union_of (λ z. value_cmp x z ≡ Less) xs (y ∷ ys) s.0 (below_all x y ys k t.0), h (y ∷ ys) t))
    (λ k. (all_union_of (λ z. value_cmp x z ≡ Less) xs ys s.0 (level_all x y ys k t.0), h ys t.1))
    (λ k. (all_union_of (λ z. value_cmp y z ≡ Less) (x ∷ xs) ys (below_all y x xs (turned x y k) s.0) t.0, sorted_at x xs s h ys t.1))

pub sorted_union_of : (xs ys : List MathValue) → IsStrictlySorted xs → IsStrictlySorted ys → IsStrictlySorted (union_of xs ys)
unfolding IsStrictlySortedBy
sorted_union_of [] ys s t = t
sorted_union_of (x ∷ xs) ys s t = sorted_at x xs s (λ zs. sorted_union_of xs zs s.1) ys t

union_of-nil : (xs : List MathValue) → union_of xs [] ≡ xs
union_of-nil [] = refl
union_of-nil (x ∷ xs) = refl

-- where one of two merged lists is used up, the rest of both is what is left
pub union_of-rest : (i j : ℕ) (a b : List MathValue) → (i < length a → j < length b → ⊥) → union_of (drop i a) (drop j b) ≡ drop i a ++ drop j b
union_of-rest i j a b n = ⊎_elim
    (λ (h : i < length a). ⊎_elim
    (λ (k : j < length b). absurd (n h k))
    (λ (k : length b ≤ j). rw (drop_all j b k) (union_of-nil (drop i a) ∙ sym (append-nil (drop i a))))
    (cases_lt j (length b)))
    (λ (h : length a ≤ i). rw (drop_all i a h))
    (cases_lt i (length a))

rest_taken : (i : ℕ) (a : List MathValue) → take (length a - i) (drop i a) ≡ drop i a
rest_taken i a = take_all (length a - i) (drop i a) (simp length-drop (omega arith))

pub merged_whole : (i j : ℕ) (a b done mid all : List MathValue) → (i < length a → j < length b → ⊥) → done ++ union_of (drop i a) (drop j b) ≡ union_of a b → mid ≡ done ++ take (length a - i) (drop i a) → all ≡ mid ++ take (length b - j) (drop j b) → all ≡ union_of a b
merged_whole i j a b done mid all n m e f =
    f ∙ rw (e, rest_taken i a, rest_taken j b) (append_assoc done (drop i a) (drop j b) ∙ ap (λ l. done ++ l) (sym (union_of-rest i j a b n)) ∙ m)

-- what a binary search answers
rises_at : (x u v : MathValue) (o : Ordering) → value_cmp u v ≡ Less → value_cmp v x ≡ o → ordering_index (value_cmp u x) ≤ ordering_index o
rises_at x u v Less h e = rw (value_cmp-trans u v x h e) (omega arith)
rises_at x u v Equal h e = rw (← (value_cmp-equal v x e), h) (omega arith)
rises_at x u v Greater h e = index_upto (value_cmp u x)
  where
    index_upto : (p : Ordering) → ordering_index p ≤ 2
    index_upto Less = omega arith
    index_upto Equal = omega arith
    index_upto Greater = omega arith

rises : (xs : List MathValue) (x : MathValue) → IsStrictlySorted xs → IsNonDecreasingBy (λ y. ordering_index (value_cmp y x)) xs
rises xs x s i j d h k = ⊎_elim
    (λ (l : i < j). rises_at x (get_or xs i d) (get_or xs j d) _ (Less-from_sorted value_cmp xs i j d s l k) refl)
    (λ (l : j ≤ i). let e : i ≡ j = omega arith in rw e (omega arith))
    (cases_lt i j)

not_tied : (xs : List MathValue) (x : MathValue) (k : ℕ) (o : Ordering) → get_or xs k x ≡ x → value_cmp (get_or xs k x) x ≡ o → o ≡ Equal
not_tied xs x k o e f = sym f ∙ rw e (value_cmp-self x)

pub searched_value : (xs : List MathValue) (x : MathValue) (r : Result ℕ ℕ) → IsStrictlySorted xs → IsSearchInRange r (length xs) → IsBinarySearchResult (λ y. value_cmp y x) xs r → IsTrue (is_ok r) ↔ Contains xs x
searched_value xs x (Ok i) s b p = ((λ _. (i, b, value_cmp-equal _ x (p x))), λ _. search rules)
searched_value xs x (Err i) s b p =
    let q = p (rises xs x s) in (
      (λ t. absurd (search rules)),
      λ (k, l, e). ⊎_elim
          (λ (h : k < i). let o : Less ≡ Equal = not_tied xs x k Less e (q.0 k x (omega arith) h) in cc)
          (λ (h : i ≤ k). let o : Greater ≡ Equal = not_tied xs x k Greater e (q.1 k x h l) in cc)
          (cases_lt k i),
    )
