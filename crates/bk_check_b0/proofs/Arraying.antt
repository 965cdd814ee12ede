-- The arrays of a level, each with the domain that it is declared with.
use Rattle.std.proofs.Common.{◌≡◌, ℕ, zero, suc, ◌-◌, slice_index_or, List, [], ◌∷◌, ◌++◌, get_or, drop, length, ◌<◌, ◌+◌, refl, sym, ◌∙◌, ap, Bool, true, false, cond, nat_eq, arith, append_assoc, ◌⊎◌, inl, inr, ℤ}
use Rattle.std.specs.Prelude.{Option, None, Some, ◌||◌, ◌&&◌}
use Rattle.std.specs.List.{cons_option, filter_map, find}
use Rattle.std.proofs.lemmas.List.{drop_more, length_push, get_or_push}
use Rattle.std.proofs.lemmas.Bool.Decides.{nat_tests}
use Rattle.bk_form.specs.Table.{variable_type}
use Rattle.bk_form.specs.Formula.{Formula, binary}
use Rattle.bk_form.specs.declared.arrays.ArrayRow.{ArrayRow}
use Rattle.bk_form.specs.declared.arrays.ArrayDomain.{ArrayDomain}
use Rattle.bk_form.specs.declared.operator.BinOp.TheVariants.{TotalFunctions}
use Rattle.bk_dev.specs.Development.{Development, Level, level_at, last, blank_level, int_max as machine_max}
use Rattle.bk_gsl.specs.State.{among}
use Rattle.bk_form.proofs.Members.{nat_eq-self}
use Rattle.bk_dev.specs.Layout.{Clue, in_domain, equals, silent, or_next, typing_clue, reversed, row_by, array_row, indices_of, has_scalars, first_clue, untyped, linked_to}
use Rattle.bk_form.specs.Predicates.{conjuncts}
use Rattle.bk_dev.proofs.Reversed.{reversed_last}
use Rattle.bk_statics.specs.ValueFaults.{is_there}
use Rattle.bk_statics.specs.Elaborated.{with_pair}
use Rattle.bk_statics.specs.Executable.{where_array, domain_in, declared_domain}
use Rattle.bk_check_b0.specs.Executed.{array_by}
use Rattle.bk_check_b0.specs.Arrays.{array_told, is_silent}
use Rattle.bk_scope.proofs.TermsSeen.{pair-first}

-- what the conjuncts say of a variable of the last level
abbrev pub clue_told : Development → ℕ → Clue
clue_told dev x = typing_clue (Some x) (reversed dev.levels [])

-- ---- one array
-- the row of an array, with the domain that its conjunct tells
pub record IsArray (x : ℕ) (r : Option ArrayRow) (c : Clue) : Type 0 where
  pub row : ArrayRow
  pub domain : Formula
  pub made : r ≡ Some row
  pub var : row.var ≡ x
  pub told : domain_in c ≡ Some domain

array-made : (x : ℕ) (d e : Formula) (b : Bool) (i : Option ArrayDomain) → (cond b (array_row x i) None ≡ None) ⊎ IsArray x (cond b (array_row x i) None) (in_domain (binary TotalFunctions d e))
array-made x d e false i = inl refl
array-made x d e true None = inl refl
array-made x d e true (Some a) = inr (record { row = record { var = x; domain = a }; domain = d; made = refl; var = refl; told = refl })

-- it is no array, or has a row
pub array-or : (dev : Development) (x : ℕ) (c : Clue) → (row_by dev x c ≡ None) ⊎ IsArray x (row_by dev x c) c
array-or dev x (in_domain (binary TotalFunctions d e)) = array-made x d e (has_scalars (variable_type dev.table x)) (indices_of (machine_max dev) dev.values d)
array-or dev x _ = inl refl

-- ---- all of them
-- the domains of these variables
abbrev pub domains_told : Development → List ℕ → List (ℕ × Formula)
domains_told dev [] = []
domains_told dev (x ∷ xs) = with_pair x (array_told dev x) (domains_told dev xs)

abbrev rows_told : Development → List ℕ → List ArrayRow
rows_told dev xs = filter_map (λ x. row_by dev x (clue_told dev x)) xs

-- the first row of a variable
abbrev row_among : List ArrayRow → ℕ → Option ArrayRow
row_among rs y = find (λ r. nat_eq r.var y) rs

abbrev DomainsAre : Development → List ℕ → ℕ → Type 0
DomainsAre dev xs y = array_by (domains_told dev xs) y ≡ where_array (is_there (row_among (rows_told dev xs) y)) (domain_in (clue_told dev y))

same-number : (m n : ℕ) → nat_eq m n ≡ true → m ≡ n
same-number m n h = grind (arith, nat_tests)

-- the domains are those of the variables that have a row
pub domains-are : (dev : Development) (xs : List ℕ) (y : ℕ) → DomainsAre dev xs y
domains-are dev [] y = refl
domains-are dev (x ∷ xs) y = step (array-or dev x (clue_told dev x)) (domains-are dev xs y)
  where
    by_test : (row : ArrayRow) (d : Formula) → domain_in (clue_told dev x) ≡ Some d → DomainsAre dev xs y → (b : Bool) → nat_eq x y ≡ b →
        cond b (Some d) (array_by (domains_told dev xs) y) ≡ where_array (is_there (cond b (Some row) (row_among (rows_told dev xs) y))) (domain_in (clue_told dev y))
    by_test row d told rest true e = sym told ∙ ap (λ (n : ℕ). domain_in (clue_told dev n)) (same-number x y e)
    by_test row d told rest false e = rest

    step : (row_by dev x (clue_told dev x) ≡ None) ⊎ IsArray x (row_by dev x (clue_told dev x)) (clue_told dev x) → DomainsAre dev xs y → DomainsAre dev (x ∷ xs) y
    step (inl none) rest =
        ap (λ (r : Option ArrayRow). array_by (with_pair x (where_array (is_there r) (domain_in (clue_told dev x))) (domains_told dev xs)) y) none
        ∙ (rest ∙ sym (ap (λ (r : Option ArrayRow). where_array (is_there (row_among (cons_option r (rows_told dev xs)) y)) (domain_in (clue_told dev y))) none))
    step (inr a) rest =
        (λ i. array_by (with_pair x (where_array (is_there (a.made i)) (a.told i)) (domains_told dev xs)) y)
        ∙ (by_test a.row a.domain a.told rest (nat_eq x y) refl
        ∙ (sym (ap (λ (n : ℕ). where_array (is_there (cond (nat_eq n y) (Some a.row) (row_among (rows_told dev xs) y))) (domain_in (clue_told dev y))) a.var)
        ∙ sym (ap (λ (r : Option ArrayRow). where_array (is_there (row_among (cons_option r (rows_told dev xs)) y)) (domain_in (clue_told dev y))) a.made)))

-- a variable more
pub domain-more : (dev : Development) (xs : List ℕ) (i : ℕ) (d : Option Formula) (found after all : List (ℕ × Formula)) → i < length xs → d ≡ array_told dev (get_or xs i 0) → after ≡ found ++ with_pair (get_or xs i 0) d [] →
    found ++ domains_told dev (drop i xs) ≡ all → after ++ domains_told dev (drop (i + 1) xs) ≡ all
domain-more dev xs i d found after all l e a h =
    let x : ℕ = get_or xs i 0 in
    let rest : List (ℕ × Formula) = domains_told dev (drop (i + 1) xs) in
    let split : domains_told dev (drop i xs) ≡ with_pair x d [] ++ rest =
    ap (λ (ys : List ℕ). domains_told dev ys) (drop_more xs i 0 l) ∙ (ap (λ (f : Option Formula). with_pair x f rest) (sym e) ∙ pair-first x d rest) in
    ap (λ (ds : List (ℕ × Formula)). ds ++ rest) a ∙ (append_assoc found (with_pair x d []) rest ∙ (sym (ap (λ (ds : List (ℕ × Formula)). found ++ ds) split) ∙ h))

-- the same, by what the program reads of a list that is the variables
pub domain-step : (dev : Development) (xs es : List ℕ) (i : ℕ) (d : Option Formula) (found after all : List (ℕ × Formula)) → es ≡ xs → i < length es → d ≡ array_told dev (get_or es i 0) → after ≡ found ++ with_pair (get_or es i 0) d [] →
    found ++ domains_told dev (drop i xs) ≡ all → after ++ domains_told dev (drop (i + 1) xs) ≡ all
domain-step dev xs es i d found after all same l e a h =
    let within : i < length xs = omega (arith, ap length same) in
    domain-more dev xs i d found after all within (e ∙ ap (λ (ys : List ℕ). array_told dev (get_or ys i 0)) same) (a ∙ ap (λ (ys : List ℕ). found ++ with_pair (get_or ys i 0) d []) same) h

-- each number of a list is among them
pub among-at : (xs : List ℕ) (i : ℕ) → i < length xs → among xs (get_or xs i 0) ≡ true
among-at [] i h = absurd (omega arith)
among-at (x ∷ xs) zero h = ap (λ (b : Bool). b || among xs x) (nat_eq-self x)
among-at (x ∷ xs) (suc i) h = ap (λ (b : Bool). nat_eq (get_or xs i 0) x || b) (among-at xs i (omega arith)) ∙ or-true (nat_eq (get_or xs i 0) x)
  where
    or-true : (b : Bool) → (b || true) ≡ true
    or-true true = refl
    or-true false = refl

level-last : (above : List Level) (l : Level) → slice_index_or (above ++ l ∷ []) (length (above ++ l ∷ []) - 1) blank_level ≡ l
level-last above l =
    let e : length above ≡ length (above ++ l ∷ []) - 1 = omega (arith, length_push above l) in
    get_or_push above l blank_level (length (above ++ l ∷ []) - 1) e

-- the domains of the last level's variables are those that the definition knows
pub domains-found : (dev : Development) (above own : List Level) (l : Level) (found : List (ℕ × Formula)) (y : ℕ) → dev.levels ≡ above ++ own → own ≡ l ∷ [] → found ≡ domains_told dev l.vars → array_by found y ≡ declared_domain dev y
domains-found dev above own l found y levels one f =
    let at-last : level_at dev (last dev) ≡ l =
    ap (λ (ls : List Level). slice_index_or ls (length ls - 1) blank_level) (levels ∙ ap (λ (ls : List Level). above ++ ls) one) ∙ level-last above l in
    ap (λ (ds : List (ℕ × Formula)). array_by ds y) f
    ∙ (domains-are dev l.vars y ∙ ap (λ (k : Level). where_array (is_there (row_among (rows_told dev k.vars) y)) (domain_in (clue_told dev y))) (sym at-last))

-- ---- what the conjuncts say
-- the level's own conjuncts decide, and where they are silent those above
abbrev pub own_clue : Level → ℕ → Clue
own_clue l x = first_clue x (untyped l) (conjuncts l.invariant)

last-clue : (l : Level) (x : ℕ) (above : List Level) → typing_clue (Some x) (reversed (above ++ l ∷ []) []) ≡ or_next (own_clue l x) (typing_clue (linked_to x l.links) (reversed above []))
last-clue l x above = ap (λ (ls : List Level). typing_clue (Some x) ls) (reversed_last above l)

no-level : (x : Option ℕ) → typing_clue x [] ≡ silent
no-level None = refl
no-level (Some x) = refl

clue-alone : (c : Clue) → or_next c silent ≡ c
clue-alone (in_domain d) = refl
clue-alone equals = refl
clue-alone silent = refl

-- what the level says by itself
pub own-told : (l : Level) (own : List Level) (x : ℕ) → own ≡ l ∷ [] → typing_clue (Some x) (reversed own []) ≡ own_clue l x
own-told l own x e =
    ap (λ (ls : List Level). typing_clue (Some x) (reversed ls [])) e ∙ (ap (λ (c : Clue). or_next (own_clue l x) c) (no-level (linked_to x l.links)) ∙ clue-alone (own_clue l x))

-- where it is silent those above decide
pub above-told : (l : Level) (own above : List Level) (x : ℕ) (c : Clue) → own ≡ l ∷ [] → silent ≡ typing_clue (Some x) (reversed own []) → c ≡ typing_clue (linked_to x l.links) (reversed above []) → c ≡ typing_clue (Some x) (reversed (above ++ own) [])
above-told l own above x c e quiet k =
    k ∙ (ap (λ (b : Clue). or_next b (typing_clue (linked_to x l.links) (reversed above []))) (quiet ∙ own-told l own x e) ∙ (sym (last-clue l x above) ∙ sym (ap (λ (ls : List Level). typing_clue (Some x) (reversed (above ++ ls) [])) e)))

-- where it is not silent it decides
pub own-decides : (l : Level) (own above : List Level) (x : ℕ) (c : Clue) → own ≡ l ∷ [] → (c ≡ silent → ⊥) → c ≡ typing_clue (Some x) (reversed own []) → c ≡ typing_clue (Some x) (reversed (above ++ own) [])
own-decides l own above x c e loud k =
    sym (stays c loud) ∙ (ap (λ (b : Clue). or_next b (typing_clue (linked_to x l.links) (reversed above []))) (k ∙ own-told l own x e) ∙ (sym (last-clue l x above) ∙ sym (ap (λ (ls : List Level). typing_clue (Some x) (reversed (above ++ ls) [])) e)))
  where
    stays : (b : Clue) → (b ≡ silent → ⊥) → or_next b (typing_clue (linked_to x l.links) (reversed above [])) ≡ b
    stays (in_domain d) loud = refl
    stays equals loud = refl
    stays silent loud = absurd (loud refl)

-- what is silent is no more than that
pub is-quiet : (c : Clue) → true ≡ is_silent c → silent ≡ c
is-quiet (in_domain d) h = cc
is-quiet equals h = cc
is-quiet silent h = refl

pub is-loud : (c : Clue) → false ≡ is_silent c → c ≡ silent → ⊥
is-loud (in_domain d) h e = cc
is-loud equals h e = cc
is-loud silent h e = cc

-- ---- one array, by what is told of it
both-test : (b : Bool) (x : ℕ) (i : Option ArrayDomain) → is_there (cond b (array_row x i) None) ≡ (b && is_there i)
both-test true x None = refl
both-test true x (Some a) = refl
both-test false x i = refl

same-some : (y z : Formula) → Some y ≡ Some z → y ≡ z
same-some y z k = cc

row-there : (dev : Development) (x : ℕ) (c : Clue) (d : Formula) → Some d ≡ domain_in c → is_there (row_by dev x c) ≡ (has_scalars (variable_type dev.table x) && is_there (indices_of (machine_max dev) dev.values d))
row-there dev x (in_domain (binary TotalFunctions a e)) d h =
    both-test (has_scalars (variable_type dev.table x)) x (indices_of (machine_max dev) dev.values a)
    ∙ ap (λ (f : Formula). has_scalars (variable_type dev.table x) && is_there (indices_of (machine_max dev) dev.values f)) (same-some a d (sym h))
row-there dev x _ d h = cc

-- the conjunct that the program found is the one that types the variable
clue-same : (dev : Development) (above own : List Level) (x : ℕ) (c : Clue) → dev.levels ≡ above ++ own → c ≡ typing_clue (Some x) (reversed (above ++ own) []) → c ≡ clue_told dev x
clue-same dev above own x c levels e = e ∙ sym (ap (λ (ls : List Level). typing_clue (Some x) (reversed ls [])) levels)

told-by : (dev : Development) (above own : List Level) (x : ℕ) (c : Clue) (d : Formula) (most : ℤ) (values : List (ℕ × Formula)) (scalars : Bool) → dev.levels ≡ above ++ own → c ≡ typing_clue (Some x) (reversed (above ++ own) []) → Some d ≡ domain_in c → most ≡ machine_max dev → dev.values ≡ values → has_scalars (variable_type dev.table x) ≡ scalars →
    array_told dev x ≡ where_array (scalars && is_there (indices_of most values d)) (Some d)
told-by dev above own x c d most values scalars levels e one m v h =
    let told : Some d ≡ domain_in (clue_told dev x) = one ∙ ap domain_in (clue-same dev above own x c levels e) in
    (λ i. where_array (row-there dev x (clue_told dev x) d told i) (sym told i))
    ∙ (λ i. where_array (h i && is_there (indices_of (sym m i) (v i) d)) (Some d))

-- it is an array, or is none
pub told-array : (dev : Development) (above own : List Level) (x : ℕ) (c : Clue) (d : Formula) (most : ℤ) (values : List (ℕ × Formula)) (scalars : Bool) → dev.levels ≡ above ++ own → c ≡ typing_clue (Some x) (reversed (above ++ own) []) → Some d ≡ domain_in c → most ≡ machine_max dev → dev.values ≡ values → has_scalars (variable_type dev.table x) ≡ scalars →
    true ≡ (scalars && is_there (indices_of most values d)) → Some d ≡ array_told dev x
told-array dev above own x c d most values scalars levels e one m v h test =
    ap (λ (b : Bool). where_array b (Some d)) test ∙ sym (told-by dev above own x c d most values scalars levels e one m v h)

pub told-other : (dev : Development) (above own : List Level) (x : ℕ) (c : Clue) (d : Formula) (most : ℤ) (values : List (ℕ × Formula)) (scalars : Bool) → dev.levels ≡ above ++ own → c ≡ typing_clue (Some x) (reversed (above ++ own) []) → Some d ≡ domain_in c → most ≡ machine_max dev → dev.values ≡ values → has_scalars (variable_type dev.table x) ≡ scalars →
    false ≡ (scalars && is_there (indices_of most values d)) → None ≡ array_told dev x
told-other dev above own x c d most values scalars levels e one m v h test =
    ap (λ (b : Bool). where_array b (Some d)) test ∙ sym (told-by dev above own x c d most values scalars levels e one m v h)
