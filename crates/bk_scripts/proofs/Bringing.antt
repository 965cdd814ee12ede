-- The names that a script brings, and their numbers, one by one.
use Rattle.std.proofs.Common.{◌≡◌, ◌<◌, ◌+◌, ℕ, List, [], ◌∷◌, ◌++◌, take, map, length, get_or, refl, sym, ◌∙◌, ap, Bool, true, false, not, cond, arith, append_assoc, append-nil, if◌then◌else◌}
use Rattle.std.specs.Prelude.{Option, Some, None}
use Rattle.std.specs.List.{list_any, filter_map, cons_option}
use Rattle.std.specs.Option.{option_map}
use Rattle.std.specs.Str.{bytes_eq}
use Rattle.std.proofs.lemmas.List.{map-append, length-append, take_more}
use Rattle.std.proofs.lemmas.List.Elements.{filter_map-append}
use Rattle.indexmap.specs.IndexSet.{insert_key}
use Rattle.bk_names.proofs.Places.{list_any-map}
use Rattle.bk_val.specs.ValueType.{ValueType}
use Rattle.bk_form.specs.Table.{Table, VariableEntry}
use Rattle.bk_raw.specs.declared.script.RawTyped.{RawTyped}
use Rattle.bk_raw.specs.Meaning.ScopeReading.{ScopeNames}
use Rattle.bk_scripts.specs.Brought.{with_first, first_of_each, is_in_scope, new_over, entry_for, widened_by, number_of, next_number, numbered_names}

-- ---- the first with each text
first-more : (firsts xs : List RawTyped) (x : RawTyped) → first_of_each firsts (xs ++ x ∷ []) ≡ with_first (first_of_each firsts xs) x
first-more firsts [] x = refl
first-more firsts (y ∷ xs) x = first-more (with_first firsts y) xs x

-- ---- names, as the code has them
module _ {R : Type 0} (now : R → RawTyped) (names : List R) (i : ℕ) (x : R) (inside : i < length names) (is : x ≡ get_or names i x) where
  pub further : map now (take (i + 1) names) ≡ map now (take i names) ++ now x ∷ []
  further = ap (map now) (take_more names i x inside ∙ ap (λ y. take i names ++ y ∷ []) (sym is)) ∙ map-append now (take i names) (x ∷ [])

  -- the text was seen, or not
  module _ {K : Type 0} (f : K → List ℕ) (keys more : List K) (key : K) (first : List R) (old : map now first ≡ first_of_each [] (map now (take i names))) (texts : map f keys ≡ map (λ y. y.name.text) (map now first)) (this : f key ≡ (now x).name.text) (grown : more ≡ insert_key (λ a b. bytes_eq (f a) (f b)) keys key) where
    seen-before : list_any (λ q. bytes_eq (f key) (f q)) keys ≡ list_any (λ y. bytes_eq (now x).name.text y.name.text) (map now first)
    seen-before =
        ap (λ t. list_any (λ q. bytes_eq t (f q)) keys) this
        ∙ (sym (list_any-map f (bytes_eq (now x).name.text) keys) ∙ (ap (list_any (bytes_eq (now x).name.text)) texts ∙ list_any-map (λ (y : RawTyped). y.name.text) (bytes_eq (now x).name.text) (map now first)))

    turn : first_of_each [] (map now (take (i + 1) names)) ≡ with_first (map now first) (now x)
    turn = ap (first_of_each []) further ∙ (first-more [] (map now (take i names)) (now x) ∙ ap (λ fs. with_first fs (now x)) (sym old))

    pub seen_again : list_any (λ q. bytes_eq (f key) (f q)) keys ≡ true → (map now first ≡ first_of_each [] (map now (take (i + 1) names))) × (map f more ≡ map (λ y. y.name.text) (map now first))
    seen_again e =
        (sym (turn ∙ ap (λ b. cond b (map now first) (map now first ++ now x ∷ [])) (sym seen-before ∙ e)), ap (map f) (grown ∙ ap (λ b. if b then keys else keys ++ key ∷ []) e) ∙ texts)

    pub seen_first : list_any (λ q. bytes_eq (f key) (f q)) keys ≡ false → (map now (first ++ x ∷ []) ≡ first_of_each [] (map now (take (i + 1) names))) × (map f more ≡ map (λ y. y.name.text) (map now (first ++ x ∷ [])))
    seen_first e = (
      map-append now first (x ∷ []) ∙ sym (turn ∙ ap (λ b. cond b (map now first) (map now first ++ now x ∷ [])) (sym seen-before ∙ e)),
      (ap (map f) (grown ∙ ap (λ b. if b then keys else keys ++ key ∷ []) e) ∙ map-append f keys (key ∷ [])) ∙ ((λ j. texts j ++ this j ∷ []) ∙ sym (ap (map (λ (y : RawTyped). y.name.text)) (map-append now first (x ∷ [])) ∙ map-append (λ (y : RawTyped). y.name.text) (map now first) (now x ∷ []))),
    )

-- ---- new names
new-one : (own : List (List ℕ × ℕ)) (x : RawTyped) (b : Bool) → is_in_scope own x.name.text ≡ b → new_over own (x ∷ []) ≡ cond b [] (x ∷ [])
new-one own x true e = ap (λ b. cond (not b) (x ∷ []) []) e
new-one own x false e = ap (λ b. cond (not b) (x ∷ []) []) e

new-more : (own : List (List ℕ × ℕ)) (xs : List RawTyped) (x : RawTyped) → new_over own (xs ++ x ∷ []) ≡ new_over own xs ++ new_over own (x ∷ [])
new-more own [] x = refl
new-more own (y ∷ xs) x = by (not (is_in_scope own y.name.text)) (new-more own xs x)
  where
    by : (b : Bool) → new_over own (xs ++ x ∷ []) ≡ new_over own xs ++ new_over own (x ∷ []) → cond b (y ∷ new_over own (xs ++ x ∷ [])) (new_over own (xs ++ x ∷ [])) ≡ cond b (y ∷ new_over own xs) (new_over own xs) ++ new_over own (x ∷ [])
    by true h = ap (λ zs. y ∷ zs) h
    by false h = h

pub new_past : (own : List (List ℕ × ℕ)) (xs : List RawTyped) (x : RawTyped) → is_in_scope own x.name.text ≡ true → new_over own (xs ++ x ∷ []) ≡ new_over own xs
new_past own xs x e = new-more own xs x ∙ (ap (λ ys. new_over own xs ++ ys) (new-one own x true e) ∙ append-nil (new_over own xs))

pub new_here : (own : List (List ℕ × ℕ)) (xs : List RawTyped) (x : RawTyped) → is_in_scope own x.name.text ≡ false → new_over own (xs ++ x ∷ []) ≡ new_over own xs ++ x ∷ []
new_here own xs x e = new-more own xs x ∙ ap (λ ys. new_over own xs ++ ys) (new-one own x false e)

-- ---- numbers
abbrev count : (RawTyped → Option ValueType) → ℕ → List RawTyped → ℕ
count typed n [] = n
count typed n (x ∷ xs) = count typed (next_number n (typed x)) xs

numbered-more : (typed : RawTyped → Option ValueType) (n : ℕ) (xs : List RawTyped) (x : RawTyped) → numbered_names typed n (xs ++ x ∷ []) ≡ numbered_names typed n xs ++ (x.name.text, number_of (count typed n xs) (typed x)) ∷ []
numbered-more typed n [] x = refl
numbered-more typed n (y ∷ xs) x = ap (λ ps. (y.name.text, number_of n (typed y)) ∷ ps) (numbered-more typed (next_number n (typed y)) xs x)

-- so many variables are there then
entry-long : (typed : RawTyped → Option ValueType) (n : ℕ) (y : RawTyped) (rest : List VariableEntry) → n + length (cons_option (entry_for typed y) rest) ≡ next_number n (typed y) + length rest
entry-long typed n y rest = by (typed y)
  where
    by : (o : Option ValueType) → n + length (cons_option (option_map (λ t. record { text = y.name.text; of_type = t }) o) rest) ≡ next_number n o + length rest
    by None = refl
    by (Some t) = omega arith

count-long : (typed : RawTyped → Option ValueType) (n : ℕ) (xs : List RawTyped) → count typed n xs ≡ n + length (filter_map (entry_for typed) xs)
count-long typed n [] = omega arith
count-long typed n (y ∷ xs) = count-long typed (next_number n (typed y)) xs ∙ sym (entry-long typed n y (filter_map (entry_for typed) xs))

pub numbered_turn : (typed : RawTyped → Option ValueType) (table : Table) (xs : List RawTyped) (x : RawTyped) → numbered_names typed (length table.variables) (xs ++ x ∷ []) ≡ numbered_names typed (length table.variables) xs ++ (x.name.text, number_of (length (widened_by typed table xs).variables) (typed x)) ∷ []
numbered_turn typed table xs x =
    numbered-more typed (length table.variables) xs x ∙ ap (λ n. numbered_names typed (length table.variables) xs ++ (x.name.text, number_of n (typed x)) ∷ []) (count-long typed (length table.variables) xs ∙ sym (length-append table.variables (filter_map (entry_for typed) xs)))

pub widened_turn : (typed : RawTyped → Option ValueType) (table : Table) (xs : List RawTyped) (x : RawTyped) → widened_by typed (widened_by typed table xs) (x ∷ []) ≡ widened_by typed table (xs ++ x ∷ [])
widened_turn typed table xs x = ap (λ vs. record table { variables = vs }) (append_assoc table.variables (filter_map (entry_for typed) xs) (filter_map (entry_for typed) (x ∷ [])) ∙ ap (λ (vs : List VariableEntry). table.variables ++ vs) (sym (filter_map-append (entry_for typed) xs (x ∷ []))))

-- one more turn of both
pub table_turn : (typed : RawTyped → Option ValueType) (base table new : Table) (done more : List RawTyped) (x : RawTyped) → more ≡ done ++ x ∷ [] → table ≡ widened_by typed base done → new ≡ widened_by typed table (x ∷ []) → new ≡ widened_by typed base more
table_turn typed base table new done more x f t n = n ∙ (ap (λ b. widened_by typed b (x ∷ [])) t ∙ (widened_turn typed base done x ∙ ap (widened_by typed base) (sym f)))

pub scope_turn : (typed : RawTyped → Option ValueType) (base table : Table) (first scope new : ScopeNames) (done more : List RawTyped) (x : RawTyped) → more ≡ done ++ x ∷ [] → table ≡ widened_by typed base done → scope ≡ record { max = first.max; names = first.names ++ numbered_names typed (length base.variables) done } →
    new ≡ record { max = scope.max; names = scope.names ++ (x.name.text, number_of (length table.variables) (typed x)) ∷ [] } → new ≡ record { max = first.max; names = first.names ++ numbered_names typed (length base.variables) more }
scope_turn typed base table first scope new done more x f t s n =
    let before : List (List ℕ × ℕ) = numbered_names typed (length base.variables) done in
    let entry : List (List ℕ × ℕ) = (x.name.text, number_of (length (widened_by typed base done).variables) (typed x)) ∷ [] in
    let ends : before ++ entry ≡ numbered_names typed (length base.variables) more = sym (numbered_turn typed base done x) ∙ ap (numbered_names typed (length base.variables)) (sym f) in
    n ∙ ((λ i. record { max = (s i).max; names = (s i).names ++ (x.name.text, number_of (length (t i).variables) (typed x)) ∷ [] }) ∙ ((λ i. record { max = first.max; names = append_assoc first.names before entry i }) ∙ (λ i. record { max = first.max; names = first.names ++ ends i })))
