-- The tokens of the lines of a script are spelled by the script.
use Rattle.std.proofs.Common.{◌≡◌, ℕ, suc, ◌+◌, Bool, true, false, cond, List, [], ◌∷◌, ◌++◌, map, length, refl, ap, sym, ◌∙◌, arith, subst, append_assoc, append-nil, inl, inr, Option, Some, None}
use Rattle.std.specs.Prelude.{ℤ, pos, negsuc, codes, ◌-◌}
use Rattle.std.specs.List.{slice_get}
use Rattle.std.specs.Str.{bytes_eq}
use Rattle.std.specs.Cmp.Lexicographic.{bytes_decides}
use Rattle.bk_val.specs.ValueType.{ValueType, int_type, bool_type, enum_type, pair_type, set_type}
use Rattle.bk_form.specs.Table.{Table, variable_type}
use Rattle.bk_form.specs.Formula.{Formula}
use Rattle.bk_form.specs.declared.token.Token.{Token}
use Rattle.bk_form.specs.declared.token.TokenKind.{TokenKind}
use Rattle.bk_form.specs.declared.token.TokenKind.TheVariants.{Name, Number, Sign, Word}
use Rattle.bk_ops.specs.Words.{word_texts}
use Rattle.bk_ops.specs.declared.sign.TheConstants.{COMMA, MEMBER, MINUS, TIMES, PLUS, DIVIDE, BAR, DOT, SEMICOLON, OPEN_PAREN, CLOSE_PAREN}
use Rattle.bk_ops.specs.declared.word.TheConstants.{BOOL, INTEGER, POW}
use Rattle.bk_lex.specs.Lexis.{word_number, number_in}
use Rattle.bk_lin.specs.declared.fact.Line.{Line}
use Rattle.bk_lin.specs.declared.fact.Line.TheVariants.{Sum, Div}
use Rattle.bk_raw.specs.Grammar.Pieces.{Absent, Just, JustAt, JustSign, ◌⌢◌, Divided, AnyDivided, InRow, InParentheses, Starting, Digits, Literal}
use Rattle.bk_raw.specs.Grammar.Spelling.{Typed}
use Rattle.bk_raw.specs.Grammar.ScriptSpelling.{Place as PlaceSpelled, TypedName, AnyTerm, Picked, Multiple, Line as LineSpelled, Spelled, Ruled, Rule as RuleSpelled, Lettered, PartNamed, OpensScript, Scripted}
use Rattle.bk_raw.specs.declared.script.NamePart.{NamePart}
use Rattle.bk_raw.specs.declared.script.NamePart.TheVariants.{Letters, Numeral}
use Rattle.bk_raw.specs.declared.script.RuleWord.{RuleWord}
use Rattle.bk_raw.specs.Trees.ScriptTree.{rule_kind, PartKind, one_number, one_term, some_terms as terms_kind, one_place, perhaps_place, typed_names, one_law, certificate, shape_of}
use Rattle.bk_raw.specs.Meaning.Names.{Names}
use Rattle.bk_kernel.specs.declared.rule.Place.{Place}
use Rattle.bk_kernel.specs.declared.rule.Place.TheVariants.{Goal, Hyp as InHyp}
use Rattle.bk_kernel.specs.declared.rule.Rule.{Rule}
use Rattle.bk_kernel.specs.declared.rule.Rule.TheVariants.{Hyp, Eval, False, Absurd, Fix, UseTerms, Split, Cases, Apply, Inst, OpenSome, Cut, Case, Drop, Eq, Qe, Law, Wal, TypeOf, Neg, Mem, Val, Ext, Sub, Ex, Pair, Elems, Interval, Lin, Unread}
use Rattle.bk_show.specs.Items.{Item, blank, lexeme, kind_text, plain, sign}
use Rattle.bk_show.specs.Shown.{name_of_variable, name_of_set, enclosed, type_items, literal_items, items}
use Rattle.bk_show.proofs.Tokens.{item_tokens, tokens_from, after}
use Rattle.bk_show.proofs.Trees.{written_type}
use Rattle.bk_show.proofs.Spelled.{tokens-append, formula-spelled}
use Rattle.bk_print.specs.Written.{Part, a_number, a_term, some_terms, a_place, no_place, some_names, a_law, a_certificate, Parts, none, one, two, word_of, parts_of}
use Rattle.bk_print.specs.Text.{behind_each, divided, comma, spaced, number_items, numbers_behind, place_items, terms_items, some_type_items, name_items, law_name, picks_items, law_items, multiple_items, line_items, facts_items, certificate_items, part_items, parts_items, word_items, rule_items, semicolon_before, rule_lines}
use Rattle.bk_form.specs.Each.{Each}
use Rattle.bk_print.specs.Readable.{HasSome, ReadsIn, NameReads, MultipleReads, LineReads, PartReads, PartsRead, HasWord, RuleReads, NamePartReads}
use Rattle.bk_print.proofs.RawScripts.{more_at, list_at, tree_at, trees_at, raw_place, type_text, raw_name, names_at, raw_multiple, digits_of, raw_line, raw_part, raw_parts, the_word, raw_rule, line_of, rules_at, tokens_of_lines, letters_kind, part_item, dotted, head_line, last_line, lines_of, past_lines, past_script, raw_script}

-- ---- tokens one after another
join : (One Two : List Token → Type 0) (p : ℕ) (xs ys : List Item) → One (tokens_from p xs) → Two (tokens_from (after p xs) ys) → (One ⌢ Two) (tokens_from p (xs ++ ys))
join One Two p xs ys a b = (tokens_from p xs, tokens_from (after p xs) ys, tokens-append p xs ys, a, b)

lead : (kind : TokenKind) (text : List ℕ) (Two : List Token → Type 0) (p : ℕ) (ys : List Item) → Two (tokens_from (p + length text) ys) → (Just kind ⌢ Two) (tokens_from p (lexeme kind text ∷ ys))
lead kind text Two p ys b = (item_tokens p (lexeme kind text), tokens_from (p + length text) ys, refl, (record { kind = kind; start = p; end = p + length text }, refl, refl), b)

lead_at : (kind : TokenKind) (text : List ℕ) (Two : List Token → Type 0) (p : ℕ) (ys : List Item) → Two (tokens_from (p + length text) ys) → (JustAt p kind ⌢ Two) (tokens_from p (lexeme kind text ∷ ys))
lead_at kind text Two p ys b = (item_tokens p (lexeme kind text), tokens_from (p + length text) ys, refl, (record { kind = kind; start = p; end = p + length text }, refl, refl, refl), b)

last : (kind : TokenKind) (text : List ℕ) (p : ℕ) → Just kind (tokens_from p (lexeme kind text ∷ []))
last kind text p = (record { kind = kind; start = p; end = p + length text }, refl, refl)

in-parentheses : (Inside : List Token → Type 0) (p : ℕ) (xs : List Item) → Inside (tokens_from (p + 1) xs) → InParentheses Inside (tokens_from p (enclosed xs))
in-parentheses Inside p xs h = lead (Sign OPEN_PAREN) (40 ∷ []) (Inside ⌢ JustSign CLOSE_PAREN) p (xs ++ sign CLOSE_PAREN ∷ []) (join Inside (JustSign CLOSE_PAREN) (p + 1) xs (sign CLOSE_PAREN ∷ []) h (last (Sign CLOSE_PAREN) (41 ∷ []) (after (p + 1) xs)))

-- ---- lists
-- such items are one sign, with blanks around it
abbrev IsSeparator : ℕ → List Item → Type 0
IsSeparator op sep = (p : ℕ) → JustSign op (tokens_from p sep)

divided-spelled : {A B : Type 0} (P : A → Type 0) (raw : ℕ → A → B) (its : A → List Item) (op : ℕ) (sep : List Item) (Written : B → List Token → Type 0)
    → IsSeparator op sep → ((x : A) (p : ℕ) → P x → Written (raw p x) (tokens_from p (its x)))
    → (x : A) (xs : List A) (p : ℕ) → Each P (x ∷ xs) → Divided op Written (list_at raw its sep p (x ∷ xs)) (tokens_from p (divided sep (map its (x ∷ xs))))
divided-spelled P raw its op sep Written s each x [] p h = subst (λ ys. Written (raw p x) (tokens_from p ys)) (sym (append-nil (its x))) (each x p h.0)
divided-spelled P raw its op sep Written s each x (y ∷ ys) p h =
    let q = after p (its x) in
    let more = divided sep (map its (y ∷ ys)) in
    let Rest = Divided op Written (list_at raw its sep (after q sep) (y ∷ ys)) in
    join (Written (raw p x)) (JustSign op ⌢ Rest) p (its x) (sep ++ more) (each x p h.0)
    (join (JustSign op) Rest q sep more (s q) (divided-spelled P raw its op sep Written s each y ys (after q sep) h.1))

-- lists that do not turn on the byte where they begin
list-plain : {A B : Type 0} (f : A → B) (its : A → List Item) (sep : List Item) (p : ℕ) (xs : List A) → (list_at (λ q x. f x) its sep p xs ≡ map f xs) × (more_at (λ q x. f x) its sep p xs ≡ map f xs)
list-plain f its sep p [] = (refl, refl)
list-plain f its sep p (x ∷ xs) = (ap (λ ys. f x ∷ ys) (list-plain f its sep (after p (its x)) xs).1, ap (λ ys. f x ∷ ys) (list-plain f its sep (after (after p sep) (its x)) xs).1)

plain-spelled : {A B : Type 0} (P : A → Type 0) (f : A → B) (its : A → List Item) (op : ℕ) (sep : List Item) (Written : B → List Token → Type 0)
    → IsSeparator op sep → ((x : A) (p : ℕ) → P x → Written (f x) (tokens_from p (its x)))
    → (x : A) (xs : List A) (p : ℕ) → Each P (x ∷ xs) → Divided op Written (map f (x ∷ xs)) (tokens_from p (divided sep (map its (x ∷ xs))))
plain-spelled P f its op sep Written s each x xs p h =
    subst (λ ys. Divided op Written ys (tokens_from p (divided sep (map its (x ∷ xs))))) (list-plain f its sep p (x ∷ xs)).0 (divided-spelled P (λ q y. f y) its op sep Written s each x xs p h)

comma-is : IsSeparator COMMA comma
comma-is p = last (Sign COMMA) (44 ∷ []) p

plus-is : IsSeparator PLUS (spaced PLUS)
plus-is p = last (Sign PLUS) (43 ∷ []) (p + 1)

bar-is : IsSeparator BAR (spaced BAR)
bar-is p = last (Sign BAR) (124 ∷ []) (p + 1)

dot-is : IsSeparator DOT (sign DOT ∷ [])
dot-is p = last (Sign DOT) (46 ∷ []) p

-- ---- numbers and places
digits : (n p : ℕ) → Digits n (tokens_from p (number_items n))
digits n p = last (Number (pos n)) (kind_text (Number (pos n))) p

path-spelled : (ns : List ℕ) (p : ℕ) → InRow Digits ns (tokens_from p (numbers_behind ns))
path-spelled [] p = refl
path-spelled (n ∷ ns) p = lead (Number (pos n)) (kind_text (Number (pos n))) (InRow Digits ns) (p + 1) (numbers_behind ns) (path-spelled ns (p + 1 + length (kind_text (Number (pos n)))))

place-spelled : (place : Place) (p : ℕ) → PlaceSpelled (raw_place place) (tokens_from p (place_items place))
place-spelled (Goal path) p = lead (Name (codes "goal")) (codes "goal") (InRow Digits path.items) p (numbers_behind path.items) (path-spelled path.items (p + length (codes "goal")))
place-spelled (InHyp i path) p =
    let q = p + length (codes "hyp") in
    let text = kind_text (Number (pos i)) in
    lead (Name (codes "hyp")) (codes "hyp") (Digits i ⌢ InRow Digits path.items) p (blank ∷ plain (Number (pos i)) ∷ numbers_behind path.items)
    (lead (Number (pos i)) text (InRow Digits path.items) (q + 1) (numbers_behind path.items) (path-spelled path.items (q + 1 + length text)))

-- ---- certificates
literal-spelled : (z : ℤ) (p : ℕ) → Literal z 0 (tokens_from p (literal_items z))
literal-spelled (pos n) p = inl (n, refl, digits n p)
literal-spelled (negsuc n) p = inr (suc n, refl, (omega arith, lead (Sign MINUS) (45 ∷ []) (Digits (suc n)) p (number_items (suc n)) (digits (suc n) (p + 1))))

multiple-spelled : (m : ℤ × ℕ) (p : ℕ) → MultipleReads m → Multiple (raw_multiple m) (tokens_from p (multiple_items m))
multiple-spelled m p h =
    let q = after p (literal_items m.0) in
    join (Literal m.0 0) (JustSign TIMES ⌢ Digits m.1) p (literal_items m.0) (spaced TIMES ++ number_items m.1) (literal-spelled m.0 p)
    (lead (Sign TIMES) (42 ∷ []) (Digits m.1) (q + 1) (blank ∷ number_items m.1) (digits m.1 (q + 1 + 1 + 1)))

sum-spelled : (ms : List (ℤ × ℕ)) (p : ℕ) → HasSome ms → Each MultipleReads ms → Divided PLUS Multiple (map raw_multiple ms) (tokens_from p (divided (spaced PLUS) (map multiple_items ms)))
sum-spelled [] p s h = elim s [ ]
sum-spelled (m ∷ ms) p s h = plain-spelled MultipleReads raw_multiple multiple_items PLUS (spaced PLUS) Multiple plus-is multiple-spelled m ms p h

-- k / g, where g is a number
quotient-spelled : (k g : ℕ) (by : ℤ) (p : ℕ) → by ≡ pos g → (Digits k ⌢ JustSign DIVIDE ⌢ Digits (digits_of by)) (tokens_from p (number_items k ++ (spaced DIVIDE ++ literal_items by)))
quotient-spelled k g by p e =
    subst (λ z. (Digits k ⌢ JustSign DIVIDE ⌢ Digits (digits_of z)) (tokens_from p (number_items k ++ (spaced DIVIDE ++ literal_items z)))) (sym e)
    (let q = p + length (kind_text (Number (pos k))) in
    lead (Number (pos k)) (kind_text (Number (pos k))) (JustSign DIVIDE ⌢ Digits g) p (spaced DIVIDE ++ number_items g)
    (lead (Sign DIVIDE) (47 ∷ []) (Digits g) (q + 1) (blank ∷ number_items g) (digits g (q + 1 + 1 + 1))))

line-spelled : (l : Line) (p : ℕ) → LineReads l → LineSpelled (raw_line l) (tokens_from p (line_items l))
line-spelled (Sum ms) p h = sum-spelled ms.items p h.0 h.1
line-spelled (Div fact by) p h = quotient-spelled fact h.1.0 by p h.1.1

lines-spelled : (ls : List Line) (p : ℕ) → HasSome ls → Each LineReads ls → Divided BAR LineSpelled (map raw_line ls) (tokens_from p (divided (spaced BAR) (map line_items ls)))
lines-spelled [] p s h = elim s [ ]
lines-spelled (l ∷ ls) p s h = plain-spelled LineReads raw_line line_items BAR (spaced BAR) LineSpelled bar-is line-spelled l ls p h

abbrev Whatever : ℕ → Type 0
Whatever n = Unit {0}

each-whatever : (ns : List ℕ) → Each Whatever ns
each-whatever [] = tt
each-whatever (n ∷ ns) = (tt, each-whatever ns)

same-numbers : (ns : List ℕ) → map (λ n. n) ns ≡ ns
same-numbers [] = refl
same-numbers (n ∷ ns) = ap (λ ms. n ∷ ms) (same-numbers ns)

numbers-spelled : (n : ℕ) (ns : List ℕ) (p : ℕ) → Divided COMMA Digits (n ∷ ns) (tokens_from p (divided comma (map number_items (n ∷ ns))))
numbers-spelled n ns p =
    subst (λ ms. Divided COMMA Digits ms (tokens_from p (divided comma (map number_items (n ∷ ns))))) (same-numbers (n ∷ ns)) (plain-spelled Whatever (λ k. k) number_items COMMA comma Digits comma-is (λ k q t. digits k q) n ns p (each-whatever (n ∷ ns)))

facts-spelled : (ks : List ℕ) (p : ℕ) → AnyDivided COMMA Digits ks (tokens_from p (facts_items ks))
facts-spelled [] p = refl
facts-spelled (k ∷ ks) p =
    let xs = divided comma (map number_items (k ∷ ks)) in
    subst (λ ts. Divided COMMA Digits (k ∷ ks) ts) (sym (tokens-append p xs (blank ∷ []) ∙ append-nil (tokens_from p xs))) (numbers-spelled k ks p)

certificate-spelled : (ks : List ℕ) (ls : List Line) (p : ℕ) → HasSome ls → Each LineReads ls → (AnyDivided COMMA Digits ks ⌢ JustSign MEMBER ⌢ Divided BAR LineSpelled (map raw_line ls)) (tokens_from p (certificate_items ks ls))
certificate-spelled ks ls p s h =
    let lines = divided (spaced BAR) (map line_items ls) in
    let q = after p (facts_items ks) in
    join (AnyDivided COMMA Digits ks) (JustSign MEMBER ⌢ Divided BAR LineSpelled (map raw_line ls)) p (facts_items ks) (sign MEMBER ∷ blank ∷ lines) (facts-spelled ks p)
    (lead (Sign MEMBER) (58 ∷ []) (Divided BAR LineSpelled (map raw_line ls)) q (blank ∷ lines) (lines-spelled ls (q + 1 + 1) s h))

module _ (table : Table) (names : Names) where
  -- ---- types and names
  type-spelled : (t : ValueType) (p : ℕ) → Typed (written_type table t) (tokens_from p (type_items table t))
  type-spelled int_type p = last (Word INTEGER) (kind_text (Word INTEGER)) p
  type-spelled bool_type p = last (Word BOOL) (kind_text (Word BOOL)) p
  type-spelled (enum_type n) p = last (Name (name_of_set table n)) (name_of_set table n) p
  type-spelled (pair_type t u) p =
      let One = Typed (written_type table t) in
      let Two = Typed (written_type table u) in
      let xs = type_items table t in
      let q = after (p + 1) xs in
      in-parentheses (One ⌢ JustSign TIMES ⌢ Two) p (xs ++ blank ∷ sign TIMES ∷ blank ∷ type_items table u)
      (join One (JustSign TIMES ⌢ Two) (p + 1) xs (blank ∷ sign TIMES ∷ blank ∷ type_items table u) (type-spelled t (p + 1))
      (lead (Sign TIMES) (42 ∷ []) Two (q + 1) (blank ∷ type_items table u) (type-spelled u (q + 1 + 1 + 1))))
  type-spelled (set_type t) p =
      let text = kind_text (Word POW) in
      lead (Word POW) text (InParentheses (Typed (written_type table t))) p (enclosed (type_items table t)) (in-parentheses (Typed (written_type table t)) (p + length text) (type_items table t) (type-spelled t (p + length text + 1)))

  name-spelled : (x p : ℕ) → NameReads table names x → TypedName (raw_name table p x) (tokens_from p (name_items table x))
  name-spelled x p h =
      let name = name_of_variable table x in
      let q = p + length name in
      let o = variable_type table x in
      lead_at (Name name) name (JustSign MEMBER ⌢ Typed (type_text table o)) p (blank ∷ sign MEMBER ∷ blank ∷ some_type_items table o)
      (lead (Sign MEMBER) (58 ∷ []) (Typed (type_text table o)) (q + 1) (blank ∷ some_type_items table o)
      (subst (λ u. Typed (type_text table u) (tokens_from (q + 1 + 1 + 1) (some_type_items table u))) (sym h.has_type) (type-spelled h.of_type (q + 1 + 1 + 1))))

  names-spelled : (xs : List ℕ) (p : ℕ) → HasSome xs → Each (NameReads table names) xs → Divided COMMA TypedName (names_at table p xs) (tokens_from p (divided comma (map (name_items table) xs)))
  names-spelled [] p s h = elim s [ ]
  names-spelled (x ∷ xs) p s h = divided-spelled (NameReads table names) (raw_name table) (name_items table) COMMA comma TypedName comma-is (λ y q k. name-spelled y q k) x xs p h

  -- ---- terms and laws
  terms-spelled : (f : Formula) (fs : List Formula) (p : ℕ) → Each (ReadsIn table names) (f ∷ fs) → Divided COMMA AnyTerm (trees_at table p (f ∷ fs)) (tokens_from p (terms_items table (f ∷ fs)))
  terms-spelled f fs p h = divided-spelled (ReadsIn table names) (tree_at table) (items table 0) COMMA comma AnyTerm comma-is (λ g q k. formula-spelled table g k.binds 0 q) f fs p h

  some-terms-spelled : (fs : List Formula) (p : ℕ) → HasSome fs → Each (ReadsIn table names) fs → Divided COMMA AnyTerm (trees_at table p fs) (tokens_from p (terms_items table fs))
  some-terms-spelled [] p s h = elim s [ ]
  some-terms-spelled (f ∷ fs) p s h = terms-spelled f fs p h

  picks-spelled : (fs : List Formula) (p : ℕ) → Each (ReadsIn table names) fs → Picked (trees_at table (p + 1) fs) (tokens_from p (picks_items table fs))
  picks-spelled [] p h = inl refl
  picks-spelled (f ∷ fs) p h = in-parentheses (Divided COMMA AnyTerm (trees_at table (p + 1) (f ∷ fs))) p (terms_items table (f ∷ fs)) (terms-spelled f fs (p + 1) h)

  law-spelled : (law : ℕ) (fs : List Formula) (p : ℕ) → Each (ReadsIn table names) fs → (Just (Name (law_name law)) ⌢ Picked (trees_at table (p + length (law_name law) + 1) fs)) (tokens_from p (law_items table law fs))
  law-spelled law fs p h = lead (Name (law_name law)) (law_name law) (Picked (trees_at table (p + length (law_name law) + 1) fs)) p (picks_items table fs) (picks-spelled fs (p + length (law_name law)) h)

  -- ---- parts
  -- a part where one of this kind is asked
  abbrev IsAsked : PartKind → Part → Type 0
  IsAsked one_number (a_number n) = Unit {0}
  IsAsked one_term (a_term f) = Unit {0}
  IsAsked terms_kind (some_terms fs) = Unit {0}
  IsAsked one_place (a_place p) = Unit {0}
  IsAsked perhaps_place (a_place p) = Unit {0}
  IsAsked perhaps_place no_place = Unit {0}
  IsAsked typed_names (some_names ns) = Unit {0}
  IsAsked one_law (a_law law fs) = Unit {0}
  IsAsked certificate (a_certificate ks ls) = Unit {0}
  IsAsked _ _ = ⊥

  part-spelled : (k : PartKind) (x : Part) (p : ℕ) → IsAsked k x → PartReads table names x → Spelled k (raw_part table p x) (tokens_from p (part_items table x))
  part-spelled one_number (a_number n) p a h = digits n (p + 1)
  part-spelled one_term (a_term f) p a h = formula-spelled table f h.binds 0 (p + 1)
  part-spelled terms_kind (some_terms fs) p a h = some-terms-spelled fs (p + 1) h.0 h.1
  part-spelled one_place (a_place place) p a h = place-spelled place (p + 1)
  part-spelled perhaps_place (a_place place) p a h = place-spelled place (p + 1)
  part-spelled perhaps_place no_place p a h = refl
  part-spelled typed_names (some_names ns) p a h = names-spelled ns (p + 1) h.0 h.1
  part-spelled one_law (a_law law fs) p a h = law-spelled law fs (p + 1) h.1
  part-spelled certificate (a_certificate ks ls) p a h = certificate-spelled ks ls (p + 1) h.1 h.2
  part-spelled _ _ p a h = elim a [ ]

  -- parts where these are asked
  abbrev AreAsked : List PartKind → Parts → Type 0
  AreAsked [] none = Unit {0}
  AreAsked (k ∷ []) (one x) = IsAsked k x
  AreAsked (k ∷ l ∷ []) (two x y) = IsAsked k x × IsAsked l y
  AreAsked _ _ = ⊥

  parts-spelled : (ks : List PartKind) (xs : Parts) (p : ℕ) → AreAsked ks xs → PartsRead table names xs → Ruled ks (raw_parts table p xs) (tokens_from p (parts_items table xs))
  parts-spelled [] none p a h = refl
  parts-spelled (k ∷ []) (one x) p a h =
      subst (λ ys. (Spelled k (raw_part table p x) ⌢ Absent) (tokens_from p ys)) (append-nil (part_items table x)) (join (Spelled k (raw_part table p x)) Absent p (part_items table x) [] (part-spelled k x p a h) refl)
  parts-spelled (k ∷ l ∷ []) (two x y) p a h =
      let q = after p (part_items table x) in
      let Second = Spelled l (raw_part table q y) in
      join (Spelled k (raw_part table p x)) (Second ⌢ Absent) p (part_items table x) (part_items table y) (part-spelled k x p a.0 h.0)
      (subst (λ ys. (Second ⌢ Absent) (tokens_from q ys)) (append-nil (part_items table y)) (join Second Absent q (part_items table y) [] (part-spelled l y q a.1 h.1) refl))
  parts-spelled [] (one x) p a h = elim a [ ]
  parts-spelled [] (two x y) p a h = elim a [ ]
  parts-spelled (k ∷ []) none p a h = elim a [ ]
  parts-spelled (k ∷ []) (two x y) p a h = elim a [ ]
  parts-spelled (k ∷ l ∷ []) none p a h = elim a [ ]
  parts-spelled (k ∷ l ∷ []) (one x) p a h = elim a [ ]
  parts-spelled (k ∷ l ∷ m ∷ ks) none p a h = elim a [ ]
  parts-spelled (k ∷ l ∷ m ∷ ks) (one x) p a h = elim a [ ]
  parts-spelled (k ∷ l ∷ m ∷ ks) (two x y) p a h = elim a [ ]

  -- ---- rules
  -- each word asks for the parts that its rule has
  asked : (r : Rule) → HasWord (word_of r) → AreAsked (shape_of (the_word (word_of r))) (parts_of r)
  asked (Hyp i) w = tt
  asked (Eval None) w = tt
  asked (Eval (Some place)) w = tt
  asked (False i) w = tt
  asked (Absurd i j) w = (tt, tt)
  asked (Fix ns) w = tt
  asked (UseTerms fs) w = tt
  asked (Split i) w = tt
  asked (Cases i) w = tt
  asked (Apply i) w = tt
  asked (Inst i fs) w = (tt, tt)
  asked (OpenSome i ns) w = (tt, tt)
  asked (Cut f) w = tt
  asked (Case f) w = tt
  asked (Drop i) w = tt
  asked (Eq i place) w = (tt, tt)
  asked (Qe i place) w = (tt, tt)
  asked (Law law fs place) w = (tt, tt)
  asked (Wal law fs place) w = (tt, tt)
  asked (TypeOf place) w = tt
  asked (Neg place) w = tt
  asked (Mem place) w = tt
  asked (Val place) w = tt
  asked (Ext place) w = tt
  asked (Sub place) w = tt
  asked (Ex place) w = tt
  asked (Pair f) w = tt
  asked (Elems f) w = tt
  asked (Interval i) w = tt
  asked (Lin ks ls) w = tt
  asked Unread w = elim w [ ]
  asked _ w = tt

  word-spelled : (o : Option RuleWord) (Two : List Token → Type 0) (p : ℕ) (ys : List Item) → HasWord o → Two (tokens_from (after p (word_items o)) ys) → (JustAt p (rule_kind (the_word o)) ⌢ Two) (tokens_from p (word_items o ++ ys))
  word-spelled None Two p ys w h = elim w [ ]
  word-spelled (Some w) Two p ys u h = lead_at (rule_kind w) (kind_text (rule_kind w)) Two p ys h

  rule-spelled : (r : Rule) (p : ℕ) → RuleReads table names r → RuleSpelled (raw_rule table p r) (tokens_from p (rule_items table r))
  rule-spelled r p h =
      let o = word_of r in
      let q = after p (word_items o) in
      let ks = shape_of (the_word o) in
      word-spelled o (Ruled ks (raw_parts table q (parts_of r))) p (parts_items table (parts_of r)) h.0 (parts-spelled ks (parts_of r) q (asked r h.0) h.1)

  -- ---- lines of rules
  -- the tokens of a line, and those of the lines behind it
  line-tokens : (r : Rule) (rs : List Rule) (p : ℕ) → tokens_from p (line_of table r rs) ≡ tokens_from (p + 1 + 1) (rule_items table r) ++ tokens_from (after (p + 1 + 1) (rule_items table r)) (semicolon_before rs)
  line-tokens r rs p = tokens-append (p + 1 + 1) (rule_items table r) (semicolon_before rs)

  rules-spelled : (r : Rule) (rs : List Rule) (p : ℕ) → Each (RuleReads table names) (r ∷ rs) → Divided SEMICOLON RuleSpelled (rules_at table p (r ∷ rs)) (tokens_of_lines p (rule_lines table (r ∷ rs)))
  rules-spelled r [] p h =
      let ts = tokens_from (p + 1 + 1) (rule_items table r) in
      subst (λ us. RuleSpelled (raw_rule table (p + 1 + 1) r) us) (sym (append-nil (tokens_from p (line_of table r [])) ∙ (line-tokens r [] p ∙ append-nil ts))) (rule-spelled r (p + 1 + 1) h.0)
  rules-spelled r (s ∷ rs) p h =
      let q = p + 1 + 1 in
      let ts = tokens_from q (rule_items table r) in
      let mark = tokens_from (after q (rule_items table r)) (semicolon_before (s ∷ rs)) in
      let next = after p (line_of table r (s ∷ rs)) + 1 in
      let more = tokens_of_lines next (rule_lines table (s ∷ rs)) in (
        ts,
        mark ++ more,
        ap (λ us. us ++ more) (line-tokens r (s ∷ rs) p) ∙ append_assoc ts mark more,
        rule-spelled r q h.0,
        (mark, more, refl, last (Sign SEMICOLON) (59 ∷ []) (after q (rule_items table r) + 1), rules-spelled s rs next h.1),
      )

  any-rules-spelled : (rules : List Rule) (p : ℕ) → Each (RuleReads table names) rules → AnyDivided SEMICOLON RuleSpelled (rules_at table p rules) (tokens_of_lines p (rule_lines table rules))
  any-rules-spelled [] p h = refl
  any-rules-spelled (r ∷ rs) p h = rules-spelled r rs p h

-- ---- the name
-- where in a list the text of a number stands
abbrev IsPlace : ℕ → List (List ℕ) → List ℕ → ℕ → Type 0
IsPlace n texts text op = (k : ℕ) × (op ≡ n + k) × (slice_get texts k ≡ Some text)

place-step : (b : Bool) (n op : ℕ) (first : List ℕ) (others : List (List ℕ)) (text : List ℕ) → bytes_eq text first ≡ b → cond b (Some n) (number_in (n + 1) others text) ≡ Some op → (number_in (n + 1) others text ≡ Some op → IsPlace (n + 1) others text op) → IsPlace n (first ∷ others) text op
place-step true n op first others text e h on =
    let same : n ≡ op = cc in
    (0, omega arith, ap (λ t. Some t) (sym ((bytes_decides text first).0 e)))
place-step false n op first others text e h on =
    let r = on h in
    (suc r.0, omega (arith, r.1), r.2)

number-place : (n op : ℕ) (texts : List (List ℕ)) (text : List ℕ) → number_in n texts text ≡ Some op → IsPlace n texts text op
number-place n op [] text e = absurd (cc)
number-place n op (first ∷ others) text e = place-step (bytes_eq text first) n op first others text refl e (λ g. number-place (n + 1) op others text g)

word-text : (text : List ℕ) (op : ℕ) → word_number text ≡ Some op → slice_get word_texts (op - 57) ≡ Some text
word-text text op e =
    let r = number-place 57 op word_texts text e in
    let same : op - 57 ≡ r.0 = omega (arith, r.1) in
    ap (slice_get word_texts) same ∙ r.2

part-named : (x : NamePart) (p : ℕ) → PartNamed x (tokens_from p (part_item x ∷ []))
part-named (Numeral n) p = digits n p
part-named (Letters text) p = lettered text (word_number text) refl p
  where
    lettered : (text : List ℕ) (o : Option ℕ) → word_number text ≡ o → (p : ℕ) → Lettered text (tokens_from p (lexeme (letters_kind text o) text ∷ []))
    lettered text None e p = (record { kind = Name text; start = p; end = p + length text }, refl, refl)
    lettered text (Some op) e p = (record { kind = Word op; start = p; end = p + length text }, refl, word-text text op e)

same-parts : (xs : List NamePart) → map (λ x. x) xs ≡ xs
same-parts [] = refl
same-parts (x ∷ xs) = ap (λ ys. x ∷ ys) (same-parts xs)

name-spelled-at : (x : NamePart) (xs : List NamePart) (p : ℕ) → Each NamePartReads (x ∷ xs) → Divided DOT PartNamed (x ∷ xs) (tokens_from p (dotted (x ∷ xs)))
name-spelled-at x xs p h =
    subst (λ ys. Divided DOT PartNamed ys (tokens_from p (dotted (x ∷ xs)))) (same-parts (x ∷ xs)) (plain-spelled NamePartReads (λ y. y) (λ y. part_item y ∷ []) DOT (sign DOT ∷ []) PartNamed dot-is (λ y q k. part-named y q) x xs p h)

part-starts : (x : NamePart) (p : ℕ) → (first : Token) × (tokens_from p (part_item x ∷ []) ≡ first ∷ []) × (first.start ≡ p)
part-starts (Letters text) p = (record { kind = letters_kind text (word_number text); start = p; end = p + length text }, refl, refl)
part-starts (Numeral n) p = (record { kind = Number (pos n); start = p; end = p + length (kind_text (Number (pos n))) }, refl, refl)

name-starts : (x : NamePart) (xs : List NamePart) (p : ℕ) → Each NamePartReads (x ∷ xs) → Starting p (Divided DOT PartNamed (x ∷ xs)) (tokens_from p (dotted (x ∷ xs)))
name-starts x xs p h =
    let f = part-starts x p in
    let more = behind_each (sign DOT ∷ []) (map (λ y. part_item y ∷ []) xs) in
    let rest = tokens_from (after p (part_item x ∷ [])) more in
    (f.0, rest, tokens-append p (part_item x ∷ []) more ∙ ap (λ ts. ts ++ rest) f.1, f.2, name-spelled-at x xs p h)

some-name-starts : (name : List NamePart) (p : ℕ) → HasSome name → Each NamePartReads name → Starting p (Divided DOT PartNamed name) (tokens_from p (dotted name))
some-name-starts [] p s h = elim s [ ]
some-name-starts (x ∷ xs) p s h = name-starts x xs p h

-- ---- the script
-- the tokens of lines are those of the first ones and then of the others
lines-append : (p : ℕ) (ls ms : List (List Item)) → tokens_of_lines p (ls ++ ms) ≡ tokens_of_lines p ls ++ tokens_of_lines (past_lines p ls) ms
lines-append p [] ms = refl
lines-append p (l ∷ ls) ms =
    let next = after p l + 1 in
    ap (λ ts. tokens_from p l ++ ts) (lines-append next ls ms) ∙ sym (append_assoc (tokens_from p l) (tokens_of_lines next ls) (tokens_of_lines (past_lines next ls) ms))

-- the tokens of a script, and those of lines behind it
pub script-spelled : (table : Table) (names : Names) (name : List NamePart) (rules : List Rule) (p : ℕ) (tail : List (List Item)) (Behind : List Token → Type 0) → HasSome name → Each NamePartReads name → Each (RuleReads table names) rules
    → Behind (tokens_of_lines (past_script table p name rules) tail) → (Scripted (raw_script table p name rules) ⌢ Behind) (tokens_of_lines p (lines_of table name rules tail))
script-spelled table names name rules p tail Behind some h k b =
    let script = raw_script table p name rules in
    let q = after p (plain (Name (codes "proof")) ∷ blank ∷ []) in
    let first = after p (head_line name) + 1 in
    let past = past_lines first (rule_lines table rules) in
    let head = tokens_from p (head_line name) in
    let body = tokens_of_lines first (rule_lines table rules) in
    let end = tokens_from past last_line in
    let rest = tokens_of_lines (past_script table p name rules) tail in
    let whole : tokens_of_lines p (lines_of table name rules tail) ≡ ((head ++ body) ++ end) ++ rest =
    ap (λ ts. head ++ ts) (lines-append first (rule_lines table rules) (last_line ∷ tail)) ∙ sym (append_assoc (head ++ body) end rest ∙ append_assoc head body (end ++ rest)) in
    let opens : OpensScript script (head ++ body) = (item_tokens p (plain (Name (codes "proof"))), tokens_from q (dotted name) ++ body, refl, (record { kind = Name (codes "proof"); start = p; end = p + length (codes "proof") }, refl, refl, refl), (tokens_from q (dotted name), body, refl, some-name-starts name q some h, any-rules-spelled table names rules first k)) in
    let closes : Just (Name (codes "end")) end = last (Name (codes "end")) (codes "end") past in
    ((head ++ body) ++ end, rest, whole, (head ++ body, end, refl, opens, closes), b)
