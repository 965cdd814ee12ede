-- Pieces that are written one behind another, and the text that they make.
use Rattle.std.proofs.Common.{◌≡◌, ℕ, zero, ◌+◌, ◌-◌, ◌<◌, ◌≤◌, ℤ, pos, negsuc, suc, List, [], ◌∷◌, ◌++◌, length, map, take, drop, get_or, refl, ap, sym, ◌∙◌, arith, append_assoc, append-nil}
use Rattle.std.specs.Prelude.{codes, decimal, Result, Ok, Err, OnOk}
use Rattle.std.specs.Global.{Vec}
use Rattle.std.specs.Fmt.{signed_decimal}
use Rattle.std.proofs.lemmas.List.{at_drop_more, drop_all, take_rest, get_or_default}
use Rattle.bk_form.specs.Table.{Table, variable_type}
use Rattle.bk_form.specs.Formula.{Formula}
use Rattle.bk_ops.specs.declared.sign.TheConstants.{TIMES, DIVIDE, CLOSE_PAREN, MEMBER}
use Rattle.bk_kernel.specs.declared.rule.Place.TheVariants.{Hyp as InHyp}
use Rattle.bk_kernel.specs.declared.rule.Rule.{Rule}
use Rattle.bk_show.specs.Items.{Item, blank, sign, text_of}
use Rattle.bk_show.specs.Shown.{name_of_variable, literal_items}
use Rattle.bk_show.proofs.Written.{text-plus}
use Rattle.bk_print.specs.Written.{word_of, parts_of}
use Rattle.bk_print.specs.Text.{behind_each, divided, comma, spaced, number_items, numbers_behind, place_items, terms_items, some_type_items, name_items, law_name, picks_items, law_items, multiple_items, facts_items, word_items, parts_items, rule_items, semicolon_before, rule_lines, lines_text}

-- ---- lists
-- one piece more behind what stands between
pub piece_step : {A : Type 0} (f : A → List Item) (b : List Item) (xs : List A) (i : ℕ) (x : A) (out mid new target : List ℕ) → i < length xs → x ≡ get_or xs i x
    → out ++ text_of (behind_each b (map f (drop i xs))) ≡ target → mid ≡ out ++ text_of b → new ≡ mid ++ text_of (f x) → new ++ text_of (behind_each b (map f (drop (i + 1) xs))) ≡ target
piece_step {A} f b xs i x out mid new target below is before m n =
    let F : List A → List ℕ = λ ys. text_of (behind_each b (map f ys)) in
    let rest = F (drop (i + 1) xs) in
    let next : F (drop i xs) ≡ text_of b ++ (text_of (f x) ++ rest) =
    at_drop_more F xs i x below ∙ ap (λ y. F (y ∷ drop (i + 1) xs)) (sym is)
    ∙ (text-plus b (f x ++ behind_each b (map f (drop (i + 1) xs))) ∙ ap (λ t. text_of b ++ t) (text-plus (f x) (behind_each b (map f (drop (i + 1) xs))))) in
    ap (λ t. t ++ rest) (n ∙ ap (λ t. t ++ text_of (f x)) m) ∙ append_assoc (out ++ text_of b) (text_of (f x)) rest ∙ append_assoc out (text_of b) (text_of (f x) ++ rest) ∙ ap (λ t. out ++ t) (sym next) ∙ before

-- the same where the element is copied
pub piece_step_at : {A : Type 0} (f : A → List Item) (b : List Item) (xs : List A) (i : ℕ) (d : A) (out mid new target : List ℕ) → i < length xs
    → out ++ text_of (behind_each b (map f (drop i xs))) ≡ target → mid ≡ out ++ text_of b → new ≡ mid ++ text_of (f (get_or xs i d)) → new ++ text_of (behind_each b (map f (drop (i + 1) xs))) ≡ target
piece_step_at f b xs i d out mid new target below before m n = piece_step f b xs i (get_or xs i d) out mid new target below (get_or_default xs i d (get_or xs i d) below) before m n

pub piece_end : {A : Type 0} (f : A → List Item) (b : List Item) (xs : List A) (i : ℕ) (out target : List ℕ) → length xs ≤ i → out ++ text_of (behind_each b (map f (drop i xs))) ≡ target → out ≡ target
piece_end {A} f b xs i out target past h = sym (ap (λ ys. out ++ text_of (behind_each b (map f ys))) (drop_all i xs past) ∙ append-nil out) ∙ h

-- the first, and the others behind it
pub first-text : {A : Type 0} (f : A → List Item) (b : List Item) (x : A) (xs : List A) → text_of (divided b (map f (x ∷ xs))) ≡ text_of (f x) ++ text_of (behind_each b (map f xs))
first-text f b x xs = text-plus (f x) (behind_each b (map f xs))

-- the same where a match has the first and a slice of the others
pub first_step : {A : Type 0} (f : A → List Item) (b : List Item) (xs : List A) (x : A) (out mid new : List ℕ) → 1 ≤ length xs → x ≡ get_or xs 0 x → mid ≡ out ++ text_of (f x)
    → new ≡ mid ++ text_of (behind_each b (map f (take (length xs - 1) (drop 1 xs)))) → new ≡ out ++ text_of (divided b (map f xs))
first_step f b [] x out mid new h is m n = absurd (omega arith)
first_step f b (y ∷ ys) x out mid new h is m n =
    let rest = text_of (behind_each b (map f ys)) in
    n ∙ ap (λ zs. mid ++ text_of (behind_each b (map f zs))) (take_rest (y ∷ ys) 1) ∙ ap (λ t. t ++ rest) (m ∙ ap (λ z. out ++ text_of (f z)) is)
    ∙ append_assoc out (text_of (f y)) rest ∙ ap (λ t. out ++ t) (sym (text-plus (f y) (behind_each b (map f ys))))

pub first_step_ok : {A T E : Type 0} (r : Result T E) (f : A → List Item) (b : List Item) (xs : List A) (x : A) (out mid new : List ℕ) → 1 ≤ length xs → x ≡ get_or xs 0 x → mid ≡ out ++ text_of (f x)
    → OnOk r (new ≡ mid ++ text_of (behind_each b (map f (take (length xs - 1) (drop 1 xs))))) → OnOk r (new ≡ out ++ text_of (divided b (map f xs)))
first_step_ok (Ok t) f b xs x out mid new h is m n = first_step f b xs x out mid new h is m n
first_step_ok (Err e) f b xs x out mid new h is m n = tt

-- behind a blank
pub behind_blank_ok : {T E : Type 0} (r : Result T E) (out mid new : List ℕ) (xs : List Item) → mid ≡ out ++ (32 ∷ []) → OnOk r (new ≡ mid ++ text_of xs) → OnOk r (new ≡ out ++ text_of (blank ∷ xs))
behind_blank_ok (Ok t) out mid new xs m n = n ∙ ap (λ t. t ++ text_of xs) m ∙ append_assoc out (32 ∷ []) (text_of xs)
behind_blank_ok (Err e) out mid new xs m n = tt

-- a number that is read stands there by itself
pub read_at : (ns : List ℕ) (i : ℕ) → i < length ns → get_or ns i 0 ≡ get_or ns i (get_or ns i 0)
read_at ns i h = get_or_default ns i 0 (get_or ns i 0) h

-- ---- numbers and places
pub number-text : (n : ℕ) → text_of (number_items n) ≡ decimal n
number-text n = append-nil (decimal n)

pub hyp-text : (n : ℕ) (path : Vec ℕ) → text_of (blank ∷ place_items (InHyp n path)) ≡ (codes " hyp" ++ text_of (blank ∷ number_items n)) ++ text_of (numbers_behind path.items)
hyp-text n path = ap (λ t. codes " hyp" ++ (32 ∷ (t ++ text_of (numbers_behind path.items)))) (sym (append-nil (decimal n)))

pub literal-text : (z : ℤ) → text_of (literal_items z) ≡ signed_decimal z
literal-text (pos n) = append-nil (decimal n)
literal-text (negsuc n) = ap (λ w. 45 ∷ w) (append-nil (decimal (suc n)))

pub ruleset numbers = (number-text, hyp-text, append_assoc)

-- ---- terms and names
pub name-text : (table : Table) (n : ℕ) → text_of (name_items table n) ≡ (name_of_variable table n ++ codes " : ") ++ text_of (some_type_items table (variable_type table n))
name-text table n = sym (append_assoc (name_of_variable table n) (codes " : ") (text_of (some_type_items table (variable_type table n))))

pub word-text : (table : Table) (r : Rule) → text_of (rule_items table r) ≡ text_of (word_items (word_of r)) ++ text_of (parts_items table (parts_of r))
word-text table r = text-plus (word_items (word_of r)) (parts_items table (parts_of r))

pub ruleset rules = (first-text, name-text, word-text, text-plus, append_assoc)

-- ---- laws
pub law-text : (table : Table) (law : ℕ) (fs : List Formula) → text_of (blank ∷ law_items table law fs) ≡ ((32 ∷ []) ++ law_name law) ++ text_of (picks_items table fs)
law-text table law fs = refl

pub picks-text : (table : Table) (f : Formula) (fs : List Formula) → text_of (picks_items table (f ∷ fs)) ≡ ((40 ∷ []) ++ text_of (terms_items table (f ∷ fs))) ++ (41 ∷ [])
picks-text table f fs = ap (λ w. 40 ∷ w) (text-plus (terms_items table (f ∷ fs)) (sign CLOSE_PAREN ∷ []))

pub ruleset laws = (law-text, picks-text, append_assoc)

-- ---- certificates
pub multiple-text : (m : ℤ × ℕ) → text_of (multiple_items m) ≡ (text_of (literal_items m.0) ++ codes " * ") ++ text_of (number_items m.1)
multiple-text m = text-plus (literal_items m.0) (spaced TIMES ++ number_items m.1) ∙ sym (append_assoc (text_of (literal_items m.0)) (codes " * ") (text_of (number_items m.1)))

pub quotient-text : (k : ℕ) (g : ℤ) → text_of (number_items k ++ (spaced DIVIDE ++ literal_items g)) ≡ (text_of (number_items k) ++ codes " / ") ++ text_of (literal_items g)
quotient-text k g = text-plus (number_items k) (spaced DIVIDE ++ literal_items g) ∙ sym (append_assoc (text_of (number_items k)) (codes " / ") (text_of (literal_items g)))

pub facts-text : (k : ℕ) (ks : List ℕ) → text_of (facts_items (k ∷ ks)) ≡ (text_of (number_items k) ++ text_of (behind_each comma (map number_items ks))) ++ (32 ∷ [])
facts-text k ks = text-plus (divided comma (map number_items (k ∷ ks))) (blank ∷ []) ∙ ap (λ t. t ++ (32 ∷ [])) (first-text number_items comma k ks)

pub facts_step : (facts out new : List ℕ) → 1 ≤ length facts → new ≡ out ++ text_of (divided comma (map number_items facts)) → new ++ (32 ∷ []) ≡ out ++ text_of (facts_items facts)
facts_step [] out new h n = absurd (omega arith)
facts_step (k ∷ ks) out new h n =
    let xs = divided comma (map number_items (k ∷ ks)) in
    ap (λ t. t ++ (32 ∷ [])) n ∙ append_assoc out (text_of xs) (32 ∷ []) ∙ ap (λ t. out ++ t) (sym (text-plus xs (blank ∷ [])))

pub certificate-text : (facts : List ℕ) (xs : List Item) → text_of (blank ∷ (facts_items facts ++ (sign MEMBER ∷ blank ∷ xs))) ≡ (((32 ∷ []) ++ text_of (facts_items facts)) ++ codes ": ") ++ text_of xs
certificate-text facts xs = ap (λ t. 32 ∷ t) (text-plus (facts_items facts) (sign MEMBER ∷ blank ∷ xs) ∙ sym (append_assoc (text_of (facts_items facts)) (codes ": ") (text_of xs)))

pub ruleset certificates = (number-text, literal-text, first-text, multiple-text, quotient-text, facts-text, certificate-text, append_assoc)

-- ---- lines
in_row : (out s t u n rest : List ℕ) → (((out ++ s) ++ t) ++ (u ++ n)) ++ rest ≡ out ++ (s ++ ((t ++ u) ++ (n ++ rest)))
in_row out s t u n rest = simp append_assoc

-- one line more
pub line_step : (table : Table) (rules : List Rule) (i : ℕ) (r : Rule) (out a b new end target : List ℕ) → i < length rules → r ≡ get_or rules i r
    → out ++ lines_text (rule_lines table (drop i rules)) ≡ target → a ≡ out ++ (32 ∷ 32 ∷ []) → b ≡ a ++ text_of (rule_items table r)
    → end ≡ text_of (semicolon_before (drop (i + 1) rules)) ++ codes "\n" → new ≡ b ++ end → new ++ lines_text (rule_lines table (drop (i + 1) rules)) ≡ target
line_step table rules i r out a b new end target below is before e f g h =
    let F : List Rule → List ℕ = λ rs. lines_text (rule_lines table rs) in
    let rest = F (drop (i + 1) rules) in
    let semi = text_of (semicolon_before (drop (i + 1) rules)) in
    let rule = text_of (rule_items table r) in
    let next : F (drop i rules) ≡ (32 ∷ 32 ∷ []) ++ ((rule ++ semi) ++ (codes "\n" ++ rest)) =
    at_drop_more F rules i r below ∙ ap (λ x. F (x ∷ drop (i + 1) rules)) (sym is)
    ∙ ap (λ t. 32 ∷ 32 ∷ (t ++ (codes "\n" ++ rest))) (text-plus (rule_items table r) (semicolon_before (drop (i + 1) rules))) in
    ap (λ t. t ++ rest) (h ∙ (λ j. (f ∙ ap (λ t. t ++ rule) e) j ++ g j)) ∙ in_row out (32 ∷ 32 ∷ []) rule semi (codes "\n") rest ∙ ap (λ t. out ++ t) (sym next) ∙ before

pub line_end : (table : Table) (rules : List Rule) (i : ℕ) (out target : List ℕ) → length rules ≤ i → out ++ lines_text (rule_lines table (drop i rules)) ≡ target → out ≡ target
line_end table rules i out target past h = sym (ap (λ rs. out ++ lines_text (rule_lines table rs)) (drop_all i rules past) ∙ append-nil out) ∙ h

-- what stands behind a rule that is not the last, and behind the last
pub semicolon-more : (rules : List Rule) (i : ℕ) → i < length rules → text_of (semicolon_before (drop i rules)) ≡ codes " ;"
semicolon-more [] i h = absurd (omega arith)
semicolon-more (r ∷ rs) zero h = refl
semicolon-more (r ∷ rs) (suc i) h = semicolon-more rs i (omega (arith, h))

pub semicolon-none : (rules : List Rule) (i : ℕ) → length rules ≤ i → text_of (semicolon_before (drop i rules)) ≡ []
semicolon-none rules i h = ap (λ rs. text_of (semicolon_before rs)) (drop_all i rules h)
