-- The texts of formulas as pieces, in the order in which they are written.
use Rattle.std.proofs.Common.{◌≡◌, ℕ, zero, suc, ◌+◌, ◌-◌, ◌≤◌, ◌<◌, ℤ, pos, negsuc, Bool, not, List, [], ◌∷◌, ◌++◌, length, take, get_or, max, refl, ap, sym, ◌∙◌, arith, append_assoc, append-nil}
use Rattle.std.specs.Prelude.{decimal}
use Rattle.std.specs.Fmt.{signed_decimal}
use Rattle.bk_val.specs.ValueType.{ValueType}
use Rattle.bk_form.specs.Table.{Table}
use Rattle.bk_form.specs.Formula.{Formula, variable, bound, literal, element, empty_set, formula_height, formulas_height, formulas_of}
use Rattle.bk_form.specs.Replacement.{count}
use Rattle.bk_form.specs.declared.token.TokenKind.TheVariants.{BoundName}
use Rattle.bk_form.proofs.Sizes.{size_pos, size_at}
use Rattle.bk_ops.specs.declared.sign.TheConstants.{DOT, BAR, SEMICOLON, CLOSE_PAREN, CLOSE_BRACKET, CLOSE_BRACE, INVERSE, OPEN_BRACKET}
use Rattle.bk_raw.specs.declared.operator.InfixOp.{InfixOp}
use Rattle.bk_raw.specs.Trees.Operators.{infix_kind}
use Rattle.bk_show.specs.Items.{Item, blank, text_of, sign, kind_text, plain}
use Rattle.bk_show.specs.Shown.{type_items, name_of_variable, name_of_element, enclosed, enclosed_if, UnaryForm, inverse_form, single_form, BinaryForm, infix_form, image_form, apply_form, composition_form, unary_items, Sides, binary_items, bounds_items, binder_items, comprehension_items, lambda_items, is_infix, items, range_items, comma_between, comma_at, ranges_items}
use Rattle.bk_show.proofs.Written.{text-plus, four}

-- ---- leaves
pub variable-text : (table : Table) (d n : ℕ) → text_of (items table d (variable n)) ≡ name_of_variable table n
variable-text table d n = append-nil (name_of_variable table n)

pub bound-text : (table : Table) (d i : ℕ) → text_of (items table d (bound i)) ≡ kind_text (BoundName (d - i))
bound-text table d i = append-nil (kind_text (BoundName (d - i)))

pub literal-text : (table : Table) (d : ℕ) (z : ℤ) → text_of (items table d (literal z)) ≡ signed_decimal z
literal-text table d (pos n) = append-nil (decimal n)
literal-text table d (negsuc n) = ap (λ w. 45 ∷ w) (append-nil (decimal (suc n)))

pub element-text : (table : Table) (d s i : ℕ) → text_of (items table d (element s i)) ≡ name_of_element table s i
element-text table d s i = append-nil (name_of_element table s i)

pub empty-text : (table : Table) (d : ℕ) (t : ValueType) → text_of (items table d (empty_set t)) ≡ ((123 ∷ 58 ∷ []) ++ text_of (type_items table t)) ++ (125 ∷ [])
empty-text table d t = ap (λ w. 123 ∷ 58 ∷ w) (text-plus (type_items table t) (sign CLOSE_BRACE ∷ []))

pub empty-written : (table : Table) (d : ℕ) (t : ValueType) (f : Formula) (w a b e : List ℕ) → empty_set t ≡ f → a ≡ w ++ (123 ∷ 58 ∷ []) → b ≡ a ++ text_of (type_items table t) → e ≡ b ++ (125 ∷ []) → e ≡ w ++ text_of (items table d f)
empty-written table d t f w a b e g h k m =
    let inner = text_of (type_items table t) in
    m
    ∙ ap (λ z. z ++ (125 ∷ [])) (k ∙ ap (λ z. z ++ inner) h ∙ append_assoc w (123 ∷ 58 ∷ []) inner)
    ∙ append_assoc w ((123 ∷ 58 ∷ []) ++ inner) (125 ∷ [])
    ∙ ap (λ z. w ++ z) (sym (empty-text table d t))
    ∙ ap (λ x. w ++ text_of (items table d x)) g

-- ---- brackets
pub enclosed-text : (xs : List Item) → text_of (enclosed xs) ≡ ((40 ∷ []) ++ text_of xs) ++ (41 ∷ [])
enclosed-text xs = ap (λ w. 40 ∷ w) (text-plus xs (sign CLOSE_PAREN ∷ []))

-- ---- operators
pub inverse-text : (b : Bool) (xs : List Item) → text_of (unary_items inverse_form b xs) ≡ text_of (enclosed_if (not b) xs) ++ (126 ∷ [])
inverse-text b xs = text-plus (enclosed_if (not b) xs) (sign INVERSE ∷ [])

pub single-text : (b : Bool) (xs : List Item) → text_of (unary_items single_form b xs) ≡ ((123 ∷ []) ++ text_of xs) ++ (125 ∷ [])
single-text b xs = ap (λ w. 123 ∷ w) (text-plus xs (sign CLOSE_BRACE ∷ []))

pub infix-text : (o : InfixOp) (s : Sides) (xs ys : List Item) → text_of (binary_items (infix_form o) s xs ys) ≡ (text_of (enclosed_if s.left xs) ++ (32 ∷ (kind_text (infix_kind o) ++ (32 ∷ [])))) ++ text_of (enclosed_if s.right ys)
infix-text o s xs ys =
    let left = text_of (enclosed_if s.left xs) in
    let right = text_of (enclosed_if s.right ys) in
    text-plus (enclosed_if s.left xs) (blank ∷ plain (infix_kind o) ∷ blank ∷ enclosed_if s.right ys)
    ∙ ap (λ w. left ++ (32 ∷ w)) (sym (append_assoc (kind_text (infix_kind o)) (32 ∷ []) right))
    ∙ sym (append_assoc left (32 ∷ (kind_text (infix_kind o) ++ (32 ∷ []))) right)

pub image-text : (s : Sides) (xs ys : List Item) → text_of (binary_items image_form s xs ys) ≡ ((text_of (enclosed_if (not s.bare) xs) ++ (91 ∷ [])) ++ text_of ys) ++ (93 ∷ [])
image-text s xs ys =
    let head = text_of (enclosed_if (not s.bare) xs) in
    text-plus (enclosed_if (not s.bare) xs) (sign OPEN_BRACKET ∷ (ys ++ sign CLOSE_BRACKET ∷ []))
    ∙ ap (λ w. head ++ (91 ∷ w)) (text-plus ys (sign CLOSE_BRACKET ∷ []))
    ∙ sym (append_assoc head (91 ∷ text_of ys) (93 ∷ []))
    ∙ ap (λ w. w ++ (93 ∷ [])) (sym (append_assoc head (91 ∷ []) (text_of ys)))

pub apply-text : (s : Sides) (xs ys : List Item) → text_of (binary_items apply_form s xs ys) ≡ text_of (enclosed_if (not s.bare) xs) ++ text_of (enclosed ys)
apply-text s xs ys = text-plus (enclosed_if (not s.bare) xs) (enclosed ys)

pub composition-text : (s : Sides) (xs ys : List Item) → text_of (binary_items composition_form s xs ys) ≡ ((((40 ∷ []) ++ text_of (enclosed_if s.left xs)) ++ (32 ∷ ((59 ∷ []) ++ (32 ∷ [])))) ++ text_of (enclosed_if s.right ys)) ++ (41 ∷ [])
composition-text s xs ys =
    let left = text_of (enclosed_if s.left xs) in
    let right = text_of (enclosed_if s.right ys) in
    enclosed-text (enclosed_if s.left xs ++ blank ∷ sign SEMICOLON ∷ blank ∷ enclosed_if s.right ys)
    ∙ ap (λ w. (40 ∷ w) ++ (41 ∷ [])) (text-plus (enclosed_if s.left xs) (blank ∷ sign SEMICOLON ∷ blank ∷ enclosed_if s.right ys) ∙ sym (append_assoc left (32 ∷ 59 ∷ 32 ∷ []) right))

-- ---- operators as they are written
pub single-written : (form : UnaryForm) (bare : Bool) (xs : List Item) (w a b e : List ℕ) → single_form ≡ form → a ≡ w ++ (123 ∷ []) → b ≡ a ++ text_of xs → e ≡ b ++ (125 ∷ []) → e ≡ w ++ text_of (unary_items form bare xs)
single-written form bare xs w a b e f h k m =
    let inner = text_of xs in
    m
    ∙ ap (λ z. z ++ (125 ∷ [])) (k ∙ ap (λ z. z ++ inner) h ∙ append_assoc w (123 ∷ []) inner)
    ∙ append_assoc w ((123 ∷ []) ++ inner) (125 ∷ [])
    ∙ ap (λ z. w ++ z) (sym (single-text bare xs))
    ∙ ap (λ g. w ++ text_of (unary_items g bare xs)) f

pub infix-written : (form : BinaryForm) (o : InfixOp) (s : Sides) (xs ys : List Item) (w a b e mark : List ℕ) → infix_form o ≡ form
    → a ≡ w ++ text_of (enclosed_if s.left xs) → b ≡ a ++ (32 ∷ (mark ++ (32 ∷ []))) → mark ≡ kind_text (infix_kind o) → e ≡ b ++ text_of (enclosed_if s.right ys) → e ≡ w ++ text_of (binary_items form s xs ys)
infix-written form o s xs ys w a b e mark f h k n m =
    let left = text_of (enclosed_if s.left xs) in
    let right = text_of (enclosed_if s.right ys) in
    let middle = 32 ∷ (kind_text (infix_kind o) ++ (32 ∷ [])) in
    m
    ∙ ap (λ z. z ++ right) (k ∙ (λ i. h i ++ (32 ∷ (n i ++ (32 ∷ [])))) ∙ append_assoc w left middle)
    ∙ append_assoc w (left ++ middle) right
    ∙ ap (λ z. w ++ z) (sym (infix-text o s xs ys))
    ∙ ap (λ g. w ++ text_of (binary_items g s xs ys)) f

pub image-written : (form : BinaryForm) (s : Sides) (xs ys : List Item) (w a b c e : List ℕ) → image_form ≡ form
    → a ≡ w ++ text_of (enclosed_if (not s.bare) xs) → b ≡ a ++ (91 ∷ []) → c ≡ b ++ text_of ys → e ≡ c ++ (93 ∷ []) → e ≡ w ++ text_of (binary_items form s xs ys)
image-written form s xs ys w a b c e f h k n m =
    let head = text_of (enclosed_if (not s.bare) xs) in
    m
    ∙ ap (λ z. z ++ (93 ∷ [])) (n ∙ ap (λ z. z ++ text_of ys) (k ∙ ap (λ z. z ++ (91 ∷ [])) h ∙ append_assoc w head (91 ∷ [])) ∙ append_assoc w (head ++ (91 ∷ [])) (text_of ys))
    ∙ append_assoc w ((head ++ (91 ∷ [])) ++ text_of ys) (93 ∷ [])
    ∙ ap (λ z. w ++ z) (sym (image-text s xs ys))
    ∙ ap (λ g. w ++ text_of (binary_items g s xs ys)) f

pub application-written : (form : BinaryForm) (s : Sides) (xs ys : List Item) (w a e : List ℕ) → apply_form ≡ form
    → a ≡ w ++ text_of (enclosed_if (not s.bare) xs) → e ≡ a ++ text_of (enclosed ys) → e ≡ w ++ text_of (binary_items form s xs ys)
application-written form s xs ys w a e f h m =
    let head = text_of (enclosed_if (not s.bare) xs) in
    m
    ∙ ap (λ z. z ++ text_of (enclosed ys)) h
    ∙ append_assoc w head (text_of (enclosed ys))
    ∙ ap (λ z. w ++ z) (sym (apply-text s xs ys))
    ∙ ap (λ g. w ++ text_of (binary_items g s xs ys)) f

pub composition-written : (form : BinaryForm) (s : Sides) (xs ys : List Item) (w a b c d e : List ℕ) → composition_form ≡ form
    → a ≡ w ++ (40 ∷ []) → b ≡ a ++ text_of (enclosed_if s.left xs) → c ≡ b ++ (32 ∷ 59 ∷ 32 ∷ []) → d ≡ c ++ text_of (enclosed_if s.right ys) → e ≡ d ++ (41 ∷ []) → e ≡ w ++ text_of (binary_items form s xs ys)
composition-written form s xs ys w a b c d e f h k n m q =
    let left = text_of (enclosed_if s.left xs) in
    let right = text_of (enclosed_if s.right ys) in
    let first : b ≡ w ++ ((40 ∷ []) ++ left) = k ∙ ap (λ z. z ++ left) h ∙ append_assoc w (40 ∷ []) left in
    let second : c ≡ w ++ (((40 ∷ []) ++ left) ++ (32 ∷ 59 ∷ 32 ∷ [])) = n ∙ ap (λ z. z ++ (32 ∷ 59 ∷ 32 ∷ [])) first ∙ append_assoc w ((40 ∷ []) ++ left) (32 ∷ 59 ∷ 32 ∷ []) in
    let third : d ≡ w ++ ((((40 ∷ []) ++ left) ++ (32 ∷ 59 ∷ 32 ∷ [])) ++ right) = m ∙ ap (λ z. z ++ right) second ∙ append_assoc w (((40 ∷ []) ++ left) ++ (32 ∷ 59 ∷ 32 ∷ [])) right in
    q
    ∙ ap (λ z. z ++ (41 ∷ [])) third
    ∙ append_assoc w ((((40 ∷ []) ++ left) ++ (32 ∷ 59 ∷ 32 ∷ [])) ++ right) (41 ∷ [])
    ∙ ap (λ z. w ++ z) (sym (composition-text s xs ys))
    ∙ ap (λ g. w ++ text_of (binary_items g s xs ys)) f

-- ---- binders
pub binder-text : (table : Table) (d : ℕ) (ts : List ValueType) (xs : List Item) → text_of (binder_items table d ts xs) ≡ (((40 ∷ []) ++ text_of (bounds_items table (suc d) ts)) ++ (41 ∷ 46 ∷ [])) ++ text_of (enclosed xs)
binder-text table d ts xs =
    let bounds = bounds_items table (suc d) ts in
    text-plus (enclosed bounds) (sign DOT ∷ enclosed xs)
    ∙ ap (λ w. w ++ (46 ∷ text_of (enclosed xs))) (enclosed-text bounds)
    ∙ append_assoc ((40 ∷ []) ++ text_of bounds) (41 ∷ []) (46 ∷ text_of (enclosed xs))
    ∙ sym (append_assoc ((40 ∷ []) ++ text_of bounds) (41 ∷ 46 ∷ []) (text_of (enclosed xs)))

pub comprehension-text : (rs : List Item) (b : Bool) (xs : List Item) → text_of (comprehension_items rs b xs) ≡ ((((123 ∷ []) ++ text_of rs) ++ (32 ∷ 124 ∷ 32 ∷ [])) ++ text_of (enclosed_if b xs)) ++ (125 ∷ [])
comprehension-text rs b xs =
    let body = enclosed_if b xs in
    ap (λ w. 123 ∷ w) (
    text-plus (rs ++ blank ∷ sign BAR ∷ blank ∷ body) (sign CLOSE_BRACE ∷ [])
    ∙ ap (λ w. w ++ (125 ∷ [])) (text-plus rs (blank ∷ sign BAR ∷ blank ∷ body) ∙ sym (append_assoc (text_of rs) (32 ∷ 124 ∷ 32 ∷ []) (text_of body))))

pub lambda-text : (rs : List Item) (b c : Bool) (xs ys : List Item) → text_of (lambda_items rs b c xs ys) ≡ ((((((37 ∷ 40 ∷ []) ++ text_of rs) ++ (41 ∷ 46 ∷ 40 ∷ [])) ++ text_of (enclosed_if b xs)) ++ (32 ∷ 124 ∷ 32 ∷ [])) ++ text_of (enclosed_if c ys)) ++ (41 ∷ [])
lambda-text rs b c xs ys =
    let body = enclosed_if b xs in
    let value = enclosed_if c ys in
    let inside = body ++ blank ∷ sign BAR ∷ blank ∷ value in
    let front = (40 ∷ []) ++ text_of rs in
    ap (λ w. 37 ∷ w) (
    text-plus (enclosed rs) (sign DOT ∷ enclosed inside)
    ∙ (λ i. enclosed-text rs i ++ (46 ∷ enclosed-text inside i))
    ∙ append_assoc front (41 ∷ []) (46 ∷ (40 ∷ text_of inside) ++ (41 ∷ []))
    ∙ sym (append_assoc front (41 ∷ 46 ∷ 40 ∷ text_of inside) (41 ∷ []))
    ∙ ap (λ w. w ++ (41 ∷ [])) (
    sym (append_assoc front (41 ∷ 46 ∷ 40 ∷ []) (text_of inside))
    ∙ ap (λ w. (front ++ (41 ∷ 46 ∷ 40 ∷ [])) ++ w) (text-plus body (blank ∷ sign BAR ∷ blank ∷ value))
    ∙ sym (append_assoc (front ++ (41 ∷ 46 ∷ 40 ∷ [])) (text_of body) (32 ∷ 124 ∷ 32 ∷ text_of value))
    ∙ sym (append_assoc ((front ++ (41 ∷ 46 ∷ 40 ∷ [])) ++ text_of body) (32 ∷ 124 ∷ 32 ∷ []) (text_of value))))

-- ---- ranges
comma-one : (fs : List Formula) (i : ℕ) → i < length fs → (xs : List Item) → text_of (comma_between (formulas_of (take (i + 1) fs)) xs) ≡ (44 ∷ []) ++ text_of xs
comma-one [] i h xs = absurd (omega arith)
comma-one (f ∷ fs) zero h xs = refl
comma-one (f ∷ fs) (suc i) h xs = let e : suc i + 1 ≡ suc (i + 1) = omega arith in ap (λ n. text_of (comma_between (formulas_of (take n (f ∷ fs))) xs)) e

comma-join : (table : Table) (d k : ℕ) (fs : List Formula) (i : ℕ) → i < length fs → (w : List ℕ)
    → text_of (comma_between (formulas_of (take i fs)) (ranges_items table d k (formulas_of (take i fs)))) ++ (44 ∷ w) ≡ 44 ∷ (text_of (ranges_items table d k (formulas_of (take i fs))) ++ (comma_at i ++ w))
comma-join table d k [] i h w = absurd (omega arith)
comma-join table d k (f ∷ fs) zero h w = refl
comma-join table d k (f ∷ fs) (suc i) h w = refl

abbrev ranged : Table → ℕ → ℕ → Formula → List Item
ranged table d k f = range_items k (is_infix f) (items table d f)

ranges-next : (table : Table) (d k : ℕ) (fs : List Formula) (i : ℕ) (other : Formula) → i < length fs
    → text_of (ranges_items table d k (formulas_of (take (i + 1) fs))) ≡ text_of (ranges_items table d k (formulas_of (take i fs))) ++ (comma_at i ++ text_of (ranged table d (k + i) (get_or fs i other)))
ranges-next table d k [] i other h = absurd (omega arith)
ranges-next table d k (f ∷ fs) zero other h =
    text-plus (ranged table d k f) [] ∙ append-nil (text_of (ranged table d k f)) ∙ ap (λ n. text_of (ranged table d n f)) (omega arith)
ranges-next table d k (f ∷ fs) (suc i) other h =
    let e : suc i + 1 ≡ suc (i + 1) = omega arith in
    let below : i < length fs = omega (arith, h) in
    let first = ranged table d k f in
    let written = ranges_items table d (suc k) (formulas_of (take i fs)) in
    let next = text_of (ranged table d (suc k + i) (get_or fs i other)) in
    let same : suc k + i ≡ k + suc i = omega arith in
    ap (λ n. text_of (ranges_items table d k (formulas_of (take n (f ∷ fs))))) e
    ∙ text-plus first (comma_between (formulas_of (take (i + 1) fs)) (ranges_items table d (suc k) (formulas_of (take (i + 1) fs))))
    ∙ ap (λ z. text_of first ++ z) (
    comma-one fs i below (ranges_items table d (suc k) (formulas_of (take (i + 1) fs)))
    ∙ ap (λ z. 44 ∷ z) (ranges-next table d (suc k) fs i other below)
    ∙ sym (comma-join table d (suc k) fs i below next))
    ∙ sym (append_assoc (text_of first) (text_of (comma_between (formulas_of (take i fs)) written)) (44 ∷ next))
    ∙ ap (λ z. z ++ (44 ∷ next)) (sym (text-plus first (comma_between (formulas_of (take i fs)) written)))
    ∙ ap (λ n. text_of (first ++ comma_between (formulas_of (take i fs)) written) ++ (44 ∷ text_of (ranged table d n (get_or fs i other)))) same

pub ranges-written : (table : Table) (around : ℕ) (fs : List Formula) (i : ℕ) (other : Formula) → i < length fs
    → text_of (ranges_items table around (suc around) (formulas_of (take (i + 1) fs))) ≡ (((text_of (ranges_items table around (suc around) (formulas_of (take i fs))) ++ comma_at i) ++ kind_text (BoundName (around + 1 + i))) ++ (58 ∷ [])) ++ text_of (enclosed_if (is_infix (get_or fs i other)) (items table around (get_or fs i other)))
ranges-written table around fs i other h =
    let e : suc around + i ≡ around + 1 + i = omega arith in
    let f = get_or fs i other in
    ranges-next table around (suc around) fs i other h
    ∙ ap (λ n. text_of (ranges_items table around (suc around) (formulas_of (take i fs))) ++ (comma_at i ++ text_of (ranged table around n f))) e
    ∙ four (text_of (ranges_items table around (suc around) (formulas_of (take i fs)))) (comma_at i) (kind_text (BoundName (around + 1 + i))) (58 ∷ []) (text_of (enclosed_if (is_infix f) (items table around f)))

-- ---- how many ranges there are, and how high they are
pub count-listed : (fs : List Formula) → count (formulas_of fs) ≡ length fs
count-listed [] = refl
count-listed (f ∷ fs) = ap suc (count-listed fs)

pub height-at : (fs : List Formula) (i : ℕ) (other : Formula) → i < length fs → formula_height (get_or fs i other) ≤ formulas_height (formulas_of fs)
height-at [] i other h = absurd (omega arith)
height-at (f ∷ fs) zero other h = omega arith
height-at (f ∷ fs) (suc i) other h = let rest : formula_height (get_or fs i other) ≤ formulas_height (formulas_of fs) = height-at fs i other (omega arith) in omega arith

pub ruleset leaves = (variable-text, bound-text, literal-text, element-text, append_assoc, size_pos)

pub ruleset brackets = (enclosed-text, append_assoc)

pub ruleset operators = (inverse-text, append_assoc, size_pos)

pub ruleset binders = (binder-text, comprehension-text, lambda-text, count-listed, append_assoc, size_pos)

pub ruleset ranges = (ranges-written, height-at, size_at, append_assoc)
