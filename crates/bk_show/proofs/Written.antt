-- Pieces that are written one behind another, and the text that they make.
use Rattle.std.proofs.Common.{◌≡◌, ℕ, zero, suc, ◌+◌, ◌<◌, List, [], ◌∷◌, ◌++◌, length, take, get_or, refl, ap, sym, ◌∙◌, arith, append_assoc, append-nil}
use Rattle.bk_val.specs.ValueType.{ValueType, pair_type, set_type, enum_type}
use Rattle.bk_form.specs.Table.{Table}
use Rattle.bk_form.specs.declared.token.TokenKind.TheVariants.{BoundName}
use Rattle.bk_ops.specs.declared.sign.TheConstants.{TIMES, CLOSE_PAREN}
use Rattle.bk_show.specs.Items.{Item, item_text, blank, text_of, sign, kind_text}
use Rattle.bk_show.specs.Shown.{type_items, name_of_set, typed_items, bounds_items, comma_before, comma_at}

pub text-plus : (xs ys : List Item) → text_of (xs ++ ys) ≡ text_of xs ++ text_of ys
text-plus [] ys = refl
text-plus (x ∷ xs) ys = ap (λ t. item_text x ++ t) (text-plus xs ys) ∙ sym (append_assoc (item_text x) (text_of xs) (text_of ys))

-- ---- types
pub set-name-text : (table : Table) (n : ℕ) → text_of (type_items table (enum_type n)) ≡ name_of_set table n
set-name-text table n = append-nil (name_of_set table n)

pub pair-text : (table : Table) (t u : ValueType) → text_of (type_items table (pair_type t u)) ≡ (((((40 ∷ []) ++ text_of (type_items table t)) ++ (32 ∷ 42 ∷ 32 ∷ [])) ++ text_of (type_items table u)) ++ (41 ∷ []))
pair-text table t u =
    let xs = type_items table t in
    let ys = type_items table u in
    ap (λ z. 40 ∷ z)
    (text-plus (xs ++ blank ∷ sign TIMES ∷ blank ∷ ys) (sign CLOSE_PAREN ∷ [])
    ∙ ap (λ z. z ++ (41 ∷ [])) (text-plus xs (blank ∷ sign TIMES ∷ blank ∷ ys) ∙ sym (append_assoc (text_of xs) (32 ∷ 42 ∷ 32 ∷ []) (text_of ys))))

pub set-text : (table : Table) (t : ValueType) → text_of (type_items table (set_type t)) ≡ (((80 ∷ 79 ∷ 87 ∷ 40 ∷ []) ++ text_of (type_items table t)) ++ (41 ∷ []))
set-text table t = ap (λ z. 80 ∷ 79 ∷ 87 ∷ 40 ∷ z) (text-plus (type_items table t) (sign CLOSE_PAREN ∷ []))

pub ruleset types = (set-name-text, pair-text, set-text, append_assoc)

-- ---- bound variables with their types
comma-one : (ts : List ValueType) (i : ℕ) → i < length ts → (xs : List Item) → text_of (comma_before (take (i + 1) ts) xs) ≡ (44 ∷ []) ++ text_of xs
comma-one [] i h xs = absurd (omega arith)
comma-one (t ∷ ts) zero h xs = refl
comma-one (t ∷ ts) (suc i) h xs = let e : suc i + 1 ≡ suc (i + 1) = omega arith in ap (λ n. text_of (comma_before (take n (t ∷ ts)) xs)) e

comma-join : (table : Table) (k : ℕ) (ts : List ValueType) (i : ℕ) → i < length ts → (w : List ℕ)
    → text_of (comma_before (take i ts) (bounds_items table k (take i ts))) ++ (44 ∷ w) ≡ 44 ∷ (text_of (bounds_items table k (take i ts)) ++ (comma_at i ++ w))
comma-join table k [] i h w = absurd (omega arith)
comma-join table k (t ∷ ts) zero h w = refl
comma-join table k (t ∷ ts) (suc i) h w = refl

bounds-next : (table : Table) (k : ℕ) (ts : List ValueType) (i : ℕ) (d : ValueType) → i < length ts
    → text_of (bounds_items table k (take (i + 1) ts)) ≡ text_of (bounds_items table k (take i ts)) ++ (comma_at i ++ text_of (typed_items table (k + i) (get_or ts i d)))
bounds-next table k [] i d h = absurd (omega arith)
bounds-next table k (t ∷ ts) zero d h =
    text-plus (typed_items table k t) [] ∙ append-nil (text_of (typed_items table k t)) ∙ ap (λ n. text_of (typed_items table n t)) (omega arith)
bounds-next table k (t ∷ ts) (suc i) d h =
    let e : suc i + 1 ≡ suc (i + 1) = omega arith in
    let below : i < length ts = omega (arith, h) in
    let first = typed_items table k t in
    let written = bounds_items table (suc k) (take i ts) in
    let next = text_of (typed_items table (suc k + i) (get_or ts i d)) in
    let same : suc k + i ≡ k + suc i = omega arith in
    ap (λ n. text_of (bounds_items table k (take n (t ∷ ts)))) e
    ∙ text-plus first (comma_before (take (i + 1) ts) (bounds_items table (suc k) (take (i + 1) ts)))
    ∙ ap (λ z. text_of first ++ z) (
    comma-one ts i below (bounds_items table (suc k) (take (i + 1) ts))
    ∙ ap (λ z. 44 ∷ z) (bounds-next table (suc k) ts i d below)
    ∙ sym (comma-join table (suc k) ts i below next))
    ∙ sym (append_assoc (text_of first) (text_of (comma_before (take i ts) written)) (44 ∷ next))
    ∙ ap (λ z. z ++ (44 ∷ next)) (sym (text-plus first (comma_before (take i ts) written)))
    ∙ ap (λ n. text_of (first ++ comma_before (take i ts) written) ++ (44 ∷ text_of (typed_items table n (get_or ts i d)))) same

-- four pieces one behind another
pub four : (w a b c d : List ℕ) → w ++ (a ++ (b ++ (c ++ d))) ≡ (((w ++ a) ++ b) ++ c) ++ d
four w a b c d = sym (append_assoc w a (b ++ (c ++ d))) ∙ sym (append_assoc (w ++ a) b (c ++ d)) ∙ sym (append_assoc ((w ++ a) ++ b) c d)

pub bounds-written : (table : Table) (around : ℕ) (ts : List ValueType) (i : ℕ) (d : ValueType) → i < length ts
    → text_of (bounds_items table (suc around) (take (i + 1) ts)) ≡ (((text_of (bounds_items table (suc around) (take i ts)) ++ comma_at i) ++ kind_text (BoundName (around + 1 + i))) ++ (58 ∷ [])) ++ text_of (type_items table (get_or ts i d))
bounds-written table around ts i d h =
    let e : suc around + i ≡ around + 1 + i = omega arith in
    bounds-next table (suc around) ts i d h
    ∙ ap (λ n. text_of (bounds_items table (suc around) (take i ts)) ++ (comma_at i ++ text_of (typed_items table n (get_or ts i d)))) e
    ∙ four (text_of (bounds_items table (suc around) (take i ts))) (comma_at i) (kind_text (BoundName (around + 1 + i))) (58 ∷ []) (text_of (type_items table (get_or ts i d)))

pub ruleset bounds = (bounds-written, append_assoc)
