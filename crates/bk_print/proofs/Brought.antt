-- The names that a printed script brings: the new variables, with their texts and types.
use Rattle.std.proofs.Common.{◌≡◌, ◌≢◌, ℕ, zero, suc, ◌+◌, ◌<◌, List, [], ◌∷◌, ◌++◌, map, length, refl, ap, sym, ◌∙◌, arith, subst, append_assoc, append-nil, length-append, Bool, true, false, not, cond, ◌||◌, Option, Some}
use Rattle.std.specs.Prelude.{slice_index_or}
use Rattle.std.specs.List.{AllZip, flat_map, slice_get, filter_map, list_any, cons_option}
use Rattle.std.specs.Option.{option_map}
use Rattle.std.specs.Str.{bytes_eq}
use Rattle.std.specs.Cmp.Lexicographic.{bytes_decides}
use Rattle.bk_val.specs.ValueType.{ValueType}
use Rattle.bk_form.specs.Table.{Table, VariableEntry, variable_type}
use Rattle.bk_raw.specs.declared.script.RawTyped.{RawTyped}
use Rattle.bk_p_proof.specs.TypedNames.{part_names, rule_names, AreOfOneType}
use Rattle.bk_kernel.specs.declared.rule.Rule.{Rule}
use Rattle.bk_scripts.specs.Sight.{no_variable}
use Rattle.bk_scripts.specs.Brought.{first_of_each, is_in_scope, new_over, hidden, entry_for, number_of, next_number, numbered_names}
use Rattle.bk_auto.specs.Found.{numbers_from}
use Rattle.bk_show.specs.Shown.{or_empty, name_of_variable}
use Rattle.bk_show.proofs.Tokens.{after}
use Rattle.bk_show.proofs.Trees.{written_type}
use Rattle.bk_print.specs.Written.{Part, a_number, a_term, some_terms, a_place, no_place, some_names, a_law, a_certificate, Parts, none, one, two, word_of, parts_of}
use Rattle.bk_print.specs.Text.{comma, name_items, part_items, word_items}
use Rattle.bk_form.specs.Each.{Each}
use Rattle.bk_print.specs.Readable.{names_of_part, names_of_parts, names_brought, numbered, AreApart}
use Rattle.bk_print.proofs.RawScripts.{more_at, type_text, raw_name, names_at, raw_part, raw_parts, raw_rule, line_of, rules_at}

-- ---- lists side by side
zip-append : {A B : Type 0} (R : A → B → Type 0) (xs : List A) (ys : List B) (us : List A) (vs : List B) → AllZip R xs ys → AllZip R us vs → AllZip R (xs ++ us) (ys ++ vs)
zip-append R [] [] us vs h k = k
zip-append R [] (y ∷ ys) us vs h k = elim h [ ]
zip-append R (x ∷ xs) [] us vs h k = elim h [ ]
zip-append R (x ∷ xs) (y ∷ ys) us vs h k = (h.0, zip-append R xs ys us vs h.1 k)

zip-nil : {A B : Type 0} (R : A → B → Type 0) (xs : List A) (ys : List B) → AllZip R xs ys → AllZip R (xs ++ []) ys
zip-nil R xs ys h = subst (λ zs. AllZip R zs ys) (sym (append-nil xs)) h

-- ---- the names of rules, by their variables
module _ (table : Table) where
  -- the name of a variable, with its type
  abbrev pub IsName : RawTyped → ℕ → Type 0
  IsName x n = (x.name.text ≡ name_of_variable table n) × (x.ty ≡ type_text table (variable_type table n))

  more-names : (ns : List ℕ) (p : ℕ) → AllZip IsName (more_at (raw_name table) (name_items table) comma p ns) ns
  more-names [] p = tt
  more-names (n ∷ ns) p = ((refl, refl), more-names ns (after (after p comma) (name_items table n)))

  list-names : (ns : List ℕ) (p : ℕ) → AllZip IsName (names_at table p ns) ns
  list-names [] p = tt
  list-names (n ∷ ns) p = ((refl, refl), more-names ns (after p (name_items table n)))

  of-part : (x : Part) (p : ℕ) → AllZip IsName (part_names (raw_part table p x)) (names_of_part x)
  of-part (a_number n) p = tt
  of-part (a_term f) p = tt
  of-part (some_terms fs) p = tt
  of-part (a_place place) p = tt
  of-part no_place p = tt
  of-part (some_names ns) p = list-names ns (p + 1)
  of-part (a_law law fs) p = tt
  of-part (a_certificate ks ls) p = tt

  of-parts : (xs : Parts) (p : ℕ) → AllZip IsName (flat_map part_names (raw_parts table p xs)) (names_of_parts xs)
  of-parts none p = tt
  of-parts (one x) p = zip-nil IsName (part_names (raw_part table p x)) (names_of_part x) (of-part x p)
  of-parts (two x y) p =
      let q = after p (part_items table x) in
      zip-append IsName (part_names (raw_part table p x)) (names_of_part x) (part_names (raw_part table q y) ++ []) (names_of_part y) (of-part x p) (zip-nil IsName (part_names (raw_part table q y)) (names_of_part y) (of-part y q))

  pub of-rules : (rules : List Rule) (p : ℕ) → AllZip IsName (flat_map rule_names (rules_at table p rules)) (names_brought rules)
  of-rules [] p = tt
  of-rules (r ∷ rs) p =
      let next = after p (line_of table r rs) + 1 in
      zip-append IsName (rule_names (raw_rule table (p + 1 + 1) r)) (names_of_parts (parts_of r)) (flat_map rule_names (rules_at table next rs)) (names_brought rs) (of-parts (parts_of r) (after (p + 1 + 1) (word_items (word_of r)))) (of-rules rs next)

  -- ---- the names are those of the new variables
  -- the name of a new variable, with its type
  abbrev pub IsEntry : RawTyped → VariableEntry → Type 0
  IsEntry x v = (x.name.text ≡ v.text) × (x.ty ≡ written_type table v.of_type)

  slice-at : (front : List VariableEntry) (v : VariableEntry) (vs : List VariableEntry) → slice_get (front ++ v ∷ vs) (length front) ≡ Some v
  slice-at [] v vs = refl
  slice-at (w ∷ front) v vs = slice-at front v vs

  pub entries : (new front : List VariableEntry) (xs : List RawTyped) → table.variables ≡ front ++ new → AllZip IsName xs (numbers_from (length front) (length new)) → AllZip IsEntry xs new
  entries [] front [] e h = tt
  entries [] front (x ∷ xs) e h = elim h [ ]
  entries (v ∷ vs) front [] e h = elim h [ ]
  entries (v ∷ vs) front (x ∷ xs) e h =
      let here : slice_get table.variables (length front) ≡ Some v = ap (λ ws. slice_get ws (length front)) e ∙ slice-at front v vs in
      let text : x.name.text ≡ v.text = h.0.0 ∙ ap (λ o. or_empty (option_map (λ w. w.text) o)) here in
      let typed : x.ty ≡ written_type table v.of_type = h.0.1 ∙ ap (λ o. type_text table (option_map (λ w. w.of_type) o)) here in
      let long : length (front ++ v ∷ []) ≡ suc (length front) = length-append front (v ∷ []) ∙ omega arith in
      let more : table.variables ≡ (front ++ v ∷ []) ++ vs = e ∙ sym (append_assoc front (v ∷ []) vs) in
      ((text, typed), entries vs (front ++ v ∷ []) xs more (subst (λ n. AllZip IsName xs (numbers_from n (length vs))) (sym long) h.1))

  -- ---- each is brought once
  differ : (a b : List ℕ) → a ≢ b → bytes_eq a b ≡ false
  differ a b n = by-test (bytes_eq a b) refl
    where
      by-test : (c : Bool) → bytes_eq a b ≡ c → c ≡ false
      by-test true e = absurd (n ((bytes_decides a b).0 e))
      by-test false e = refl

  -- no name of these has the text
  abbrev IsUnlike : List RawTyped → List ℕ → Type 0
  IsUnlike firsts text = list_any (λ y. bytes_eq text y.name.text) firsts ≡ false

  unlike-more : (firsts : List RawTyped) (y : RawTyped) (text : List ℕ) → IsUnlike firsts text → bytes_eq text y.name.text ≡ false → IsUnlike (firsts ++ y ∷ []) text
  unlike-more [] y text h n = ap (λ b. b || false) n
  unlike-more (z ∷ zs) y text h n = unlike-step (bytes_eq text z.name.text) (list_any (λ y. bytes_eq text y.name.text) zs) (list_any (λ y. bytes_eq text y.name.text) (zs ++ y ∷ [])) h (λ k. unlike-more zs y text k n)
    where
      unlike-step : (b c d : Bool) → (b || c) ≡ false → (c ≡ false → d ≡ false) → (b || d) ≡ false
      unlike-step true c d h f = h
      unlike-step false c d h f = f h

  -- each of these texts is unlike all of the names
  abbrev AreUnlike : List RawTyped → List VariableEntry → Type 0
  AreUnlike firsts vs = Each (λ v. IsUnlike firsts v.text) vs

  unlike-next : (firsts : List RawTyped) (x : RawTyped) (v : VariableEntry) (vs : List VariableEntry) → x.name.text ≡ v.text → AreUnlike firsts vs → Each (λ w. w.text ≢ v.text) vs → AreUnlike (firsts ++ x ∷ []) vs
  unlike-next firsts x v [] e h k = tt
  unlike-next firsts x v (w ∷ ws) e h k =
      (unlike-more firsts x w.text h.0 (ap (bytes_eq w.text) e ∙ differ w.text v.text k.0), unlike-next firsts x v ws e h.1 k.1)

  pub all-first : (xs firsts : List RawTyped) (vs : List VariableEntry) → AllZip IsEntry xs vs → AreApart vs → AreUnlike firsts vs → first_of_each firsts xs ≡ firsts ++ xs
  all-first [] firsts vs z a u = sym (append-nil firsts)
  all-first (x ∷ xs) firsts [] z a u = elim z [ ]
  all-first (x ∷ xs) firsts (v ∷ vs) z a u =
      let unlike : list_any (λ y. bytes_eq x.name.text y.name.text) firsts ≡ false = ap (λ t. list_any (λ y. bytes_eq t y.name.text) firsts) z.0.0 ∙ u.0 in
      ap (λ b. first_of_each (cond b firsts (firsts ++ x ∷ [])) xs) unlike
      ∙ all-first xs (firsts ++ x ∷ []) vs z.1 a.1 (unlike-next firsts x v vs z.0.0 u.1 a.0)
      ∙ append_assoc firsts (x ∷ []) xs

  none-unlike : (vs : List VariableEntry) → AreUnlike [] vs
  none-unlike [] = tt
  none-unlike (v ∷ vs) = (refl, none-unlike vs)

  pub each-once : (xs : List RawTyped) (vs : List VariableEntry) → AllZip IsEntry xs vs → AreApart vs → first_of_each [] xs ≡ xs
  each-once xs vs z a = all-first xs [] vs z a (none-unlike vs)

  -- ---- and all of them are new
  pub all-new : (own : List (List ℕ × ℕ)) (xs : List RawTyped) (vs : List VariableEntry) → AllZip IsEntry xs vs → Each (λ v. is_in_scope own v.text ≡ false) vs → new_over own xs ≡ xs
  all-new own [] vs z h = refl
  all-new own (x ∷ xs) [] z h = elim z [ ]
  all-new own (x ∷ xs) (v ∷ vs) z h =
      let not-in : is_in_scope own x.name.text ≡ false = ap (is_in_scope own) z.0.0 ∙ h.0 in
      ap (λ b. cond (not b) (x ∷ new_over own xs) (new_over own xs)) not-in ∙ ap (λ ys. x ∷ ys) (all-new own xs vs z.1 h.1)

  -- ---- what they are made to
  pub hidden-are : (xs : List RawTyped) (vs : List VariableEntry) → AllZip IsEntry xs vs → hidden xs ≡ map (λ v. (v.text, no_variable)) vs
  hidden-are [] [] z = refl
  hidden-are [] (v ∷ vs) z = elim z [ ]
  hidden-are (x ∷ xs) [] z = elim z [ ]
  hidden-are (x ∷ xs) (v ∷ vs) z = ap (λ t. (t, no_variable) ∷ hidden xs) z.0.0 ∙ ap (λ ys. (v.text, no_variable) ∷ ys) (hidden-are xs vs z.1)

  -- each name has the type of its variable
  abbrev pub AreTyped : (RawTyped → Option ValueType) → List RawTyped → List VariableEntry → Type 0
  AreTyped typed xs vs = AllZip (λ x v. typed x ≡ Some v.of_type) xs vs

  abbrev as_entry : List ℕ → ValueType → VariableEntry
  as_entry text u = record { text = text; of_type = u }

  pub entries-are : (typed : RawTyped → Option ValueType) (xs : List RawTyped) (vs : List VariableEntry) → AllZip IsEntry xs vs → AreTyped typed xs vs → filter_map (entry_for typed) xs ≡ vs
  entries-are typed [] [] z t = refl
  entries-are typed [] (v ∷ vs) z t = elim z [ ]
  entries-are typed (x ∷ xs) [] z t = elim z [ ]
  entries-are typed (x ∷ xs) (v ∷ vs) z t =
      let one : entry_for typed x ≡ Some v = ap (λ o. option_map (as_entry x.name.text) o) t.0 ∙ ap (λ w. Some (as_entry w v.of_type)) z.0.0 in
      ap (λ o. cons_option o (filter_map (entry_for typed) xs)) one ∙ ap (λ ws. v ∷ ws) (entries-are typed xs vs z.1 t.1)

  pub numbers-are : (typed : RawTyped → Option ValueType) (n : ℕ) (xs : List RawTyped) (vs : List VariableEntry) → AllZip IsEntry xs vs → AreTyped typed xs vs → numbered_names typed n xs ≡ numbered n vs
  numbers-are typed n [] [] z t = refl
  numbers-are typed n [] (v ∷ vs) z t = elim z [ ]
  numbers-are typed n (x ∷ xs) [] z t = elim z [ ]
  numbers-are typed n (x ∷ xs) (v ∷ vs) z t =
      ap (λ o. (x.name.text, number_of n o) ∷ numbered_names typed (next_number n o) xs) t.0
      ∙ (ap (λ w. (w, n) ∷ numbered_names typed (suc n) xs) z.0.0 ∙ ap (λ ys. (v.text, n) ∷ ys) (numbers-are typed (suc n) xs vs z.1 t.1))

  -- ---- none has two types
  in-tail : (bs : List RawTyped) (x : RawTyped) (after : List RawTyped) (vs : List VariableEntry) (text : List ℕ) → AllZip IsEntry (bs ++ x ∷ after) vs → Each (λ w. w.text ≢ text) vs → x.name.text ≡ text → ⊥
  in-tail [] x after [] text z h e = elim z [ ]
  in-tail [] x after (v ∷ vs) text z h e = h.0 (sym z.0.0 ∙ e)
  in-tail (b ∷ bs) x after [] text z h e = elim z [ ]
  in-tail (b ∷ bs) x after (v ∷ vs) text z h e = in-tail bs x after vs text z.1 h.1 e

  no-other : (before : List RawTyped) (x : RawTyped) (after : List RawTyped) (vs : List VariableEntry) → AllZip IsEntry (before ++ x ∷ after) vs → AreApart vs → (y : RawTyped) (k : ℕ) → k < length before → slice_index_or before k y ≡ y → y.name.text ≡ x.name.text → ⊥
  no-other [] x after vs z a y k l e t = absurd (omega arith)
  no-other (b ∷ bs) x after [] z a y k l e t = elim z [ ]
  no-other (b ∷ bs) x after (v ∷ vs) z a y zero l e t = in-tail bs x after vs v.text z.1 a.0 (sym t ∙ (ap (λ w. w.name.text) (sym e) ∙ z.0.0))
  no-other (b ∷ bs) x after (v ∷ vs) z a y (suc k) l e t = no-other bs x after vs z.1 a.1 y k (omega arith) e t

  pub one-type : (xs : List RawTyped) (vs : List VariableEntry) → AllZip IsEntry xs vs → AreApart vs → AreOfOneType xs
  one-type xs vs z a before after x e o = no-other before x after vs (subst (λ ys. AllZip IsEntry ys vs) e z) a o.0 o.1.0 o.1.1 o.1.2 o.2
