-- A printed formula reads back as the same formula.
use Rattle.std.proofs.Common.{◌≡◌, ℕ, zero, suc, ◌+◌, ◌-◌, ◌^◌, ◌<◌, Bool, true, false, cond, not, ◌&&◌, List, [], ◌∷◌, ◌++◌, length, refl, ap, sym, ◌∙◌, arith, subst, inl, inr}
use Rattle.std.specs.Prelude.{ℤ, Option, None, Some, nat_le, nat_lt, decimal}
use Rattle.std.specs.List.{slice_get}
use Rattle.std.specs.Str.{bytes_eq}
use Rattle.std.proofs.lemmas.Bool.Decides.{nat_tests}
use Rattle.bk_val.specs.ValueType.{ValueType, int_type, bool_type, enum_type, pair_type, set_type}
use Rattle.bk_form.specs.Table.{Table, variable_type, lists_type, listed_size}
use Rattle.bk_form.specs.Formula.{Formula, variable, bound, literal, truth_value, element, empty_set, named, btrue, bfalse, unary, binary, for_all, for_some, comprehension, lambda, Formulas, no_formulas, formula_and}
use Rattle.bk_form.specs.Role.{Role, gives, predicate, role, roles, bind, if_predicate, if_value, all_listed, gives_set, each_gives_set, are_ranges, element_type, element_types, tuple_type, given_by, bound_role, empty_role, named_role, quantifier_role, comprehension_role, lambda_role}
use Rattle.bk_form.specs.declared.operator.Domain.{Domain}
use Rattle.bk_form.specs.declared.operator.Domain.TheVariants.{Integer as WholeNumbers, Natural as NaturalNumbers, Natural1 as PositiveNumbers, Bool as Booleans, Enum}
use Rattle.bk_lex.specs.Lexis.{IsIdentifier, numeral_from}
use Rattle.bk_lex.proofs.Characters.{identifier_goes, identifier_starts}
use Rattle.bk_raw.specs.declared.term.RawBound.{RawBound}
use Rattle.bk_raw.specs.Trees.RawTree.{RawTree, raw, RawTreeNode, raw_name, raw_level_name, raw_constant}
use Rattle.bk_raw.specs.Trees.Operators.{infix_kind, word_kind}
use Rattle.bk_ops.specs.declared.sign.TheConstants.{FOR_ALL, EXISTS, MEMBER, LAMBDA, MINUS, OPEN_PAREN, OPEN_BRACKET, OPEN_BRACE, SEMICOLON}
use Rattle.bk_form.specs.declared.token.TokenKind.TheVariants.{BoundName}
use Rattle.bk_show.specs.Items.{Item, blank, plain, sign, level_text}
use Rattle.bk_show.proofs.Tokens.{after}
use Rattle.bk_raw.specs.Meaning.Names.{Names, Named, Meaning, local, global, set_name, element_name, nothing, unseen, seen, found, sight, behind, count_locals, local_at, local_sight, bound_sight}
use Rattle.bk_raw.specs.Meaning.Outcome.{Reading, partial, whole, holding, plainly, giving, clean, no_type, ask_value}
use Rattle.bk_raw.specs.Meaning.Binders.{Bound, locals, inside, types_of, all_typed, untyped_faults, if_holding, where_typed, quantified, Ranged, as_bound, ranges_of, is_some_name, comprehended, abstracted, if_giving}
use Rattle.bk_raw.specs.Meaning.Printed.{type_read, set_type_of, power_of, product_of, typed_empty, wrong_bounds, printed_bounds, RangeRead, printed_ranges, wrong_ranges}
use Rattle.bk_raw.specs.Meaning.TermReading.{reading, node_reading, name_reading, is_predicate, is_predicate_node, part, place_of, range_reads}
use Rattle.bk_show.specs.Shown.{name_of_variable, name_of_set, name_of_element, enclosed_if, truth_word, typed_items, UnaryForm, word_form, negative_form, inverse_form, single_form, unary_form, BinaryForm, infix_form, image_form, apply_form, composition_form, binary_form, Sides, is_bare, is_infix, items, ranges_items, range_items}
use Rattle.bk_show.proofs.Trees.{node_by, name_node, inside_at, domain_node, written_type, raw_bounds, behind_comma, unary_node, binary_node, quantified_at, comprehended_at, premise_at, value_at, past_comma, shown_node, shown_ranges}
use Rattle.bk_form.specs.Replacement.{count}
use Rattle.bk_raw.specs.Errors.Faults.{Fault, unknown_name}
use Rattle.bk_show.specs.Readable.{IsPlainName, IsPrintable, SetsAreNamed, AllSetsAreNamed, DomainIsNamed, IsReadable, AreReadable}
use Rattle.bk_show.specs.Binders.{HasSomeRange}
use Rattle.bk_show.specs.Stands.{IsGlobal, HasNoLocals, TypeStands, TypesStand, DomainStands, Stands, EachStands}
use Rattle.bk_show.proofs.Lexing.{no-dollar, level-parts}
use Rattle.bk_show.proofs.RulesBack.{nat-self, and-both, Reads, value-part, predicate-part, on-held, on-predicate, on-value, form_tree, form_reading, binary-reads, one_tree, one_reading, unary-reads}

-- ---- names behind bound variables
-- bound variables of these types, the innermost first, in front of names: printed formulas have no texts for them
abbrev within : List ValueType → Names → Names
within [] names = names
within (t ∷ ts) names = record { text = []; meaning = local (Some t) } ∷ within ts names

abbrev IsSomething : List ℕ → Type 0
IsSomething [] = ⊥
IsSomething (c ∷ cs) = Unit {0}

found-within : (text : List ℕ) → IsSomething text → (around : List ValueType) (names : Names) (i : ℕ) → found i (within around names) text ≡ found (i + length around) names text
found-within [] s around names i = elim s [ ]
found-within (c ∷ cs) s [] names i = ap (λ k. found k names (c ∷ cs)) (omega arith)
found-within (c ∷ cs) s (t ∷ around) names i = found-within (c ∷ cs) s around names (suc i) ∙ ap (λ k. found k names (c ∷ cs)) (omega arith)

sight-anywhere : (m : Meaning) → IsGlobal m → (i j : ℕ) → sight i m ≡ sight j m
sight-anywhere (local t) g i j = elim g [ ]
sight-anywhere (global n None) g i j = refl
sight-anywhere (global n (Some t)) g i j = refl
sight-anywhere (set_name s) g i j = refl
sight-anywhere (element_name s e) g i j = refl
sight-anywhere nothing g i j = refl

behind-global : (m : Meaning) → IsGlobal m → (i : ℕ) → behind i m ≡ i
behind-global (local t) g i = elim g [ ]
behind-global (global n t) g i = refl
behind-global (set_name s) g i = refl
behind-global (element_name s e) g i = refl
behind-global nothing g i = refl

found-anywhere : (names : Names) → HasNoLocals names → (text : List ℕ) (i j : ℕ) → found i names text ≡ found j names text
found-anywhere [] h text i j = refl
found-anywhere (n ∷ ns) h text i j =
    λ k. cond (bytes_eq n.text text) (sight-anywhere n.meaning h.0 i j k) ((ap (λ m. found m ns text) (behind-global n.meaning h.0 i) ∙ found-anywhere ns h.1 text i j ∙ ap (λ m. found m ns text) (sym (behind-global n.meaning h.0 j))) k)

found-inside : (around : List ValueType) (names : Names) → HasNoLocals names → (text : List ℕ) → IsSomething text → found 0 (within around names) text ≡ found 0 names text
found-inside around names h text s = found-within text s around names 0 ∙ found-anywhere names h text (0 + length around) 0

something : (text : List ℕ) → IsIdentifier text → IsSomething text
something [] h = absurd (let e = identifier_starts [] [] h in cc)
something (c ∷ cs) h = tt

something-before : (text rest : List ℕ) → IsSomething text → IsSomething (text ++ rest)
something-before [] rest h = elim h [ ]
something-before (c ∷ cs) rest h = tt

printable-something : (text : List ℕ) → IsPrintable text → IsSomething text
printable-something text h = elim h [
  | inl p ↦ something text p.0
  | inr q ↦ subst IsSomething (sym q.2) (something-before q.0 (36 ∷ decimal q.1) (something q.0 q.3))
]

plain-node : (text : List ℕ) → IsPlainName text → name_node text ≡ raw_name text
plain-node text h = ap (node_by text) (no-dollar text (identifier_goes text h.0))

level-node : (text name : List ℕ) (n : ℕ) → text ≡ level_text name n → IsIdentifier name → n < 2 ^ 32 → name_node text ≡ raw_level_name name n
level-node text name n e i l =
    let three = level-parts name n i l in
    ap name_node e
    ∙ ap (node_by (level_text name n)) three.0
    ∙ ap (λ w. raw_level_name w (numeral_from 0 (decimal n))) three.1
    ∙ ap (λ k. raw_level_name name k) three.2

abbrev NameReads : ℤ → Names → ℕ → Formula → ValueType → RawTreeNode → Type 0
NameReads max names p f t node = (node_reading max names p node ≡ giving f t) × (is_predicate_node node ≡ false)

name-reads : (max : ℤ) (names : Names) (p : ℕ) (text : List ℕ) (f : Formula) (t : ValueType) → IsPrintable text → found 0 names text ≡ seen f t → NameReads max names p f t (name_node text)
name-reads max names p text f t h e = elim h [
  | inl q ↦ subst (NameReads max names p f t) (sym (plain-node text q)) (ap (name_reading p) e, refl)
  | inr q ↦ subst (NameReads max names p f t) (sym (level-node text q.0 q.1 q.2 q.3 q.4)) (ap (λ w. name_reading p (found 0 names w)) (sym q.2) ∙ ap (name_reading p) e, refl)
]

-- ---- bound variables
count-within : (around : List ValueType) (names : Names) → HasNoLocals names → count_locals (within around names) ≡ length around
count-within [] [] h = refl
count-within [] (n ∷ ns) h = behind-global n.meaning h.0 (count_locals ns) ∙ count-within [] ns h.1
count-within (t ∷ around) names h = ap suc (count-within around names h)

local-within : (around : List ValueType) (names : Names) (i : ℕ) (t : ValueType) → slice_get around i ≡ Some t → (local_at (within around names) i ≡ Some (Some t)) × (i < length around)
local-within [] names i t e = absurd (cc)
local-within (u ∷ around) names zero t e = (ap (λ o. Some o) e, omega arith)
local-within (u ∷ around) names (suc i) t e = let h = local-within around names i t e in (h.0, omega (arith, h.1))

count-minus : (d i : ℕ) → i < d → (nat_le 1 (d - i) && nat_le (d - i) d) ≡ true
count-minus d i h = grind (arith, nat_tests)

minus-minus : (d i : ℕ) → i < d → d - (d - i) ≡ i
minus-minus d i h = omega arith

bound-reads : (around : List ValueType) (names : Names) → HasNoLocals names → (d i : ℕ) (t : ValueType) → length around ≡ d → slice_get around i ≡ Some t → bound_sight (count_locals (within around names)) (within around names) (d - i) ≡ seen (bound i) t
bound-reads around names h d i t l e =
    let all = within around names in
    let here = local-within around names i t e in
    let below : i < d = omega (arith, here.1, l) in
    ap (λ c. bound_sight c all (d - i)) (count-within around names h ∙ l)
    ∙ ap (λ b. cond b (local_sight (d - (d - i)) (local_at all (d - (d - i)))) unseen) (count-minus d i below)
    ∙ ap (λ k. local_sight k (local_at all k)) (minus-minus d i below)
    ∙ ap (local_sight i) here.0

-- ---- types
module _ (max : ℤ) (table : Table) (base : Names) (nolocals : HasNoLocals base) where
  type-reads : (t : ValueType) → SetsAreNamed table t → TypeStands table base t → (around : List ValueType) → type_read (within around base) (written_type table t) ≡ Some t
  type-reads int_type h s around = refl
  type-reads bool_type h s around = refl
  type-reads (enum_type n) h s around = ap set_type_of (found-inside around base nolocals (name_of_set table n) (something (name_of_set table n) h.0) ∙ s)
  type-reads (pair_type t u) h s around = λ i. product_of (type-reads t h.0 s.0 around i) (type-reads u h.1 s.1 around i)
  type-reads (set_type t) h s around = ap power_of (type-reads t h s around)

  -- the bound variables that are read have these types
  abbrev locals_for : List ValueType → List Named
  locals_for [] = []
  locals_for (t ∷ ts) = record { text = []; meaning = local (Some t) } ∷ locals_for ts

  abbrev AreBound : List Bound → List ValueType → Type 0
  AreBound bs ts = (types_of bs ≡ ts) × (all_typed bs ≡ true) × (untyped_faults bs ≡ []) × (locals bs ≡ locals_for ts)

  bounds-read : (ts : List ValueType) → AllSetsAreNamed table ts → TypesStand table base ts → (around : List ValueType) (p k : ℕ) → (wrong_bounds k (raw_bounds table p k ts) ≡ []) × AreBound (printed_bounds (within around base) (raw_bounds table p k ts)) ts
  bounds-read [] h s around p k = (refl, (refl, refl, refl, refl))
  bounds-read (t ∷ ts) h s around p k =
      let q = behind_comma ts (after p (typed_items table k t)) in
      let more = bounds-read ts h.1 s.1 around q (suc k) in
      let e = type-reads t h.0 s.0 around in
      let bs = printed_bounds (within around base) (raw_bounds table q (suc k) ts) in (
        ap (λ b. cond b [] (unknown_name p ∷ []) ++ wrong_bounds (suc k) (raw_bounds table q (suc k) ts)) (nat-self k) ∙ more.0,
        subst (λ o. AreBound (record { text = []; at = p; of_type = o } ∷ bs) (t ∷ ts)) (sym e) (ap (λ us. t ∷ us) more.1.0, more.1.1, more.1.2, ap (λ ns. record { text = []; meaning = local (Some t) } ∷ ns) more.1.3),
      )

  bind-within : (ts around : List ValueType) → bind (locals_for ts) (within around base) ≡ within (bind ts around) base
  bind-within [] around = refl
  bind-within (t ∷ ts) around = bind-within ts (t ∷ around)

  inside-is : (bs : List Bound) (ts around : List ValueType) → AreBound bs ts → inside bs (within around base) ≡ within (bind ts around) base
  inside-is bs ts around h = ap (λ ns. bind ns (within around base)) h.3 ∙ bind-within ts around

  length-bind : (ts around : List ValueType) (d : ℕ) → length around ≡ d → length (bind ts around) ≡ d + length ts
  length-bind [] around d l = omega (arith, l)
  length-bind (t ∷ ts) around d l = length-bind ts (t ∷ around) (suc d) (omega (arith, l)) ∙ omega arith

  -- ---- quantifiers
  quantified-reads : (ts : List ValueType) (fs : List Fault) (bs : List Bound) (f : Formula) (k : List ValueType → Formula → Formula) (y : Reading) → fs ≡ [] → AreBound bs ts → y ≡ plainly (holding f) → quantified k fs bs y ≡ plainly (holding (k ts f))
  quantified-reads ts fs bs f k y e h g = λ i. record {
    outcome = clean (e i) (where_typed (h.1 i) (if_holding (λ p. holding (k (h.0 i) p)) (g i).outcome));
    faults = e i ++ (h.2 i ++ (g i).faults);
  }

  -- ---- ranges
  comprehended-reads : (at : ℕ) (ts : List ValueType) (fs : List Fault) (bs : List Ranged) (rs : Formulas) (f : Formula) (y : Reading) → is_some_name bs ≡ true → fs ≡ [] → ranges_of bs ≡ rs → AreBound (as_bound bs) ts → y ≡ plainly (holding f) → comprehended at fs bs y ≡ giving (comprehension rs f) (set_type (tuple_type ts))
  comprehended-reads at ts fs bs rs f y n e r h g = λ i. record {
    outcome = clean (e i) (where_typed (n i && h.1 i) (if_holding (λ p. partial (whole (comprehension (r i) p) (set_type (tuple_type (h.0 i))))) (g i).outcome));
    faults = e i ++ (cond (n i) [] (no_type at) ++ (h.2 i ++ (g i).faults));
  }

  abstracted-reads : (at there : ℕ) (ts : List ValueType) (fs : List Fault) (bs : List Ranged) (rs : Formulas) (f v : Formula) (u : ValueType) (y z : Reading) → is_some_name bs ≡ true → fs ≡ [] → ranges_of bs ≡ rs → AreBound (as_bound bs) ts → y ≡ plainly (holding f) → z ≡ giving v u → abstracted at fs bs y there z ≡ giving (lambda rs f v) (set_type (pair_type (tuple_type ts) u))
  abstracted-reads at there ts fs bs rs f v u y z n e r h g k = λ i. record {
    outcome = clean (e i) (where_typed (n i && h.1 i) (if_holding (λ p. if_giving (λ w s. partial (whole (lambda (r i) p w) (set_type (pair_type (tuple_type (h.0 i)) s)))) (ask_value there (k i).outcome).answer) (g i).outcome));
    faults = e i ++ (cond (n i) [] (no_type at) ++ (h.2 i ++ ((g i).faults ++ ((k i).faults ++ (ask_value there (k i).outcome).faults))));
  }

  abbrev RangesRead : ℕ → List RangeRead → Formulas → List ValueType → Type 0
  RangesRead k xs rs ts = (wrong_ranges k xs ≡ []) × (ranges_of (printed_ranges xs) ≡ rs) × AreBound (as_bound (printed_ranges xs)) ts

  set-role : (r : Role) → gives_set r ≡ true → (t : ValueType) × (r ≡ gives (set_type t))
  set-role (gives (set_type t)) h = (t, refl)
  set-role _ h = absurd (cc)

  range-behind : (p k place : ℕ) (f : Formula) (t : ValueType) (y : Reading) (more : List RangeRead) (rs : Formulas) (ts : List ValueType) → y ≡ giving f (set_type t) → RangesRead (suc k) more rs ts → RangesRead k (record { at = p; number = k; place = place; reading = y } ∷ more) (formula_and f rs) (t ∷ ts)
  range-behind p k place f t y more rs ts e h =
      subst (λ z. RangesRead k (record { at = p; number = k; place = place; reading = z } ∷ more) (formula_and f rs) (t ∷ ts)) (sym e)
      (ap (λ b. cond b [] (unknown_name p ∷ []) ++ wrong_ranges (suc k) more) (nat-self k) ∙ h.0, ap (formula_and f) h.1, (ap (λ us. t ∷ us) h.2.0, h.2.1, h.2.2, ap (λ ns. record { text = []; meaning = local (Some t) } ∷ ns) h.2.3))

  -- a comprehension or lambda has a range
  ranges-then : (around : List ValueType) (rs : Formulas) → are_ranges (roles table around rs) ≡ true → HasSomeRange rs × (each_gives_set (roles table around rs) ≡ true)
  ranges-then around no_formulas h = absurd (cc)
  ranges-then around (formula_and f fs) h = (tt, h)

  named-ranges : (around : List ValueType) (rs : Formulas) (d p k : ℕ) → HasSomeRange rs → is_some_name (printed_ranges (range_reads max (within around base) (shown_ranges table d p k rs))) ≡ true
  named-ranges around no_formulas d p k h = elim h [ ]
  named-ranges around (formula_and f fs) d p k h = refl

  length-ranges : (around : List ValueType) (rs : Formulas) → length (element_types (roles table around rs)) ≡ count rs
  length-ranges around no_formulas = refl
  length-ranges around (formula_and f fs) = ap suc (length-ranges around fs)

  -- ---- operators
  unary-whole : (form : UnaryForm) (r : Role) (f : Formula) (names : Names) (bare : Bool) (node : ℕ → RawTreeNode) (p : ℕ) (a : Formula) (ra : Role)
      → ((q : ℕ) → Reads ra a (is_predicate_node (node q)) (reading max names (raw q (node q))))
      → ((ta : RawTree) (h : Reads ra a (is_predicate ta) (reading max names ta)) → Reads r f (is_predicate_node (one_tree a ra ta (reading max names ta) h form)) (one_reading a ra ta (reading max names ta) h form p))
      → Reads r f (is_predicate_node (unary_node form bare (λ q. raw q (node q)) p)) (reading max names (raw p (unary_node form bare (λ q. raw q (node q)) p)))
  unary-whole (word_form o) r f names bare node p a ra h k = let q = after p (plain (word_kind o) ∷ sign OPEN_PAREN ∷ []) in k (raw q (node q)) (h q)
  unary-whole negative_form r f names bare node p a ra h k = let q = after p (sign MINUS ∷ sign OPEN_PAREN ∷ []) in k (raw q (node q)) (h q)
  unary-whole inverse_form r f names bare node p a ra h k = let q = inside_at (not bare) p in k (raw q (node q)) (h q)
  unary-whole single_form r f names bare node p a ra h k = let q = after p (sign OPEN_BRACE ∷ []) in k (raw q (node q)) (h q)

  binary-whole : (form : BinaryForm) (r : Role) (f : Formula) (names : Names) (s : Sides) (xs : List Item) (one two : ℕ → RawTreeNode) (p : ℕ) (a b : Formula) (ra rb : Role)
      → ((q : ℕ) → Reads ra a (is_predicate_node (one q)) (reading max names (raw q (one q))))
      → ((q : ℕ) → Reads rb b (is_predicate_node (two q)) (reading max names (raw q (two q))))
      → ((ta tb : RawTree) (h : Reads ra a (is_predicate ta) (reading max names ta)) (g : Reads rb b (is_predicate tb) (reading max names tb)) → Reads r f (is_predicate_node (form_tree a b ra rb ta tb (reading max names ta) (reading max names tb) h g form)) (form_reading a b ra rb ta tb (reading max names ta) (reading max names tb) h g form p))
      → Reads r f (is_predicate_node (binary_node form s xs (λ q. raw q (one q)) (λ q. raw q (two q)) p)) (reading max names (raw p (binary_node form s xs (λ q. raw q (one q)) (λ q. raw q (two q)) p)))
  binary-whole (infix_form o) r f names s xs one two p a b ra rb h g k =
      let x = inside_at s.left p in
      let y = inside_at s.right (after (after p (enclosed_if s.left xs)) (blank ∷ plain (infix_kind o) ∷ blank ∷ [])) in
      k (raw x (one x)) (raw y (two y)) (h x) (g y)
  binary-whole image_form r f names s xs one two p a b ra rb h g k =
      let x = inside_at (not s.bare) p in
      let y = after (after p (enclosed_if (not s.bare) xs)) (sign OPEN_BRACKET ∷ []) in
      k (raw x (one x)) (raw y (two y)) (h x) (g y)
  binary-whole apply_form r f names s xs one two p a b ra rb h g k =
      let x = inside_at (not s.bare) p in
      let y = after (after p (enclosed_if (not s.bare) xs)) (sign OPEN_PAREN ∷ []) in
      k (raw x (one x)) (raw y (two y)) (h x) (g y)
  binary-whole composition_form r f names s xs one two p a b ra rb h g k =
      let x = inside_at s.left (after p (sign OPEN_PAREN ∷ [])) in
      let y = inside_at s.right (after (after (after p (sign OPEN_PAREN ∷ [])) (enclosed_if s.left xs)) (blank ∷ sign SEMICOLON ∷ blank ∷ [])) in
      k (raw x (one x)) (raw y (two y)) (h x) (g y)

  -- ---- leaves
  variable-reads : (n : ℕ) (around : List ValueType) (p : ℕ) (o : Option ValueType) → variable_type table n ≡ o → IsPrintable (name_of_variable table n) → ((t : ValueType) → variable_type table n ≡ Some t → found 0 base (name_of_variable table n) ≡ seen (variable n) t) → Reads (given_by o) (variable n) (is_predicate_node (name_node (name_of_variable table n))) (node_reading max (within around base) p (name_node (name_of_variable table n)))
  variable-reads n around p None e h s = tt
  variable-reads n around p (Some t) e h s =
      let text = name_of_variable table n in
      name-reads max (within around base) p text (variable n) t h (found-inside around base nolocals text (printable-something text h) ∙ s t e)

  bound-role-reads : (i d p : ℕ) (around : List ValueType) (o : Option ValueType) → slice_get around i ≡ o → length around ≡ d → Reads (bound_role table o) (bound i) false (name_reading p (bound_sight (count_locals (within around base)) (within around base) (d - i)))
  bound-role-reads i d p around None e l = tt
  bound-role-reads i d p around (Some t) e l =
      let x = name_reading p (bound_sight (count_locals (within around base)) (within around base) (d - i)) in
      on-held (bound i) false x (lists_type table t) (gives t) (λ y. (ap (name_reading p) (bound-reads around base nolocals d i t l e), refl))

  empty-reads : (t : ValueType) (p : ℕ) (around : List ValueType) → SetsAreNamed table t → TypeStands table base t → Reads (empty_role table t) (empty_set t) false (typed_empty p (type_read (within around base) (written_type table t)))
  empty-reads (set_type t) p around h s = on-held (empty_set (set_type t)) false (typed_empty p (type_read (within around base) (written_type table (set_type t)))) (lists_type table t) (gives (set_type t)) (λ y. (ap (typed_empty p) (type-reads (set_type t) h s around), refl))
  empty-reads int_type p around h s = tt
  empty-reads bool_type p around h s = tt
  empty-reads (enum_type n) p around h s = tt
  empty-reads (pair_type t u) p around h s = tt

  truth-reads : (b : Bool) (p : ℕ) (names : Names) → Reads (gives bool_type) (truth_value b) (is_predicate_node (raw_constant (truth_word b))) (node_reading max names p (raw_constant (truth_word b)))
  truth-reads true p names = (refl, refl)
  truth-reads false p names = (refl, refl)

  domain-reads : (n : Domain) (p : ℕ) (around : List ValueType) → DomainIsNamed table n → DomainStands table base n → Reads (named_role table n) (named n) (is_predicate_node (domain_node table n)) (node_reading max (within around base) p (domain_node table n))
  domain-reads WholeNumbers p around h s = (p, refl, refl)
  domain-reads NaturalNumbers p around h s = (p, refl, refl)
  domain-reads PositiveNumbers p around h s = (p, refl, refl)
  domain-reads Booleans p around h s = (refl, refl)
  domain-reads (Enum n) p around h s =
      let text = name_of_set table n in
      on-held (named (Enum n)) (is_predicate_node (name_node text)) (node_reading max (within around base) p (name_node text)) (lists_type table (enum_type n)) (gives (set_type (enum_type n)))
      (λ y. name-reads max (within around base) p text (named (Enum n)) (set_type (enum_type n)) h (found-inside around base nolocals text (printable-something text h) ∙ s))

  -- ---- formulas
  abbrev ReadsBack : Formula → List ValueType → ℕ → Type 0
  ReadsBack f around d = (p : ℕ) → Reads (role table around f) f (is_predicate_node (shown_node table d p f)) (reading max (within around base) (raw p (shown_node table d p f)))

  -- a quantifier, from its body
  quantifier-reads : (k : List ValueType → Formula → Formula) (ts : List ValueType) (f : Formula) (around : List ValueType) (d at : ℕ) (bs : List RawBound) (tb : RawTree) → length around ≡ d → (wrong_bounds (suc d) bs ≡ []) × AreBound (printed_bounds (within around base) bs) ts → Reads (role table (bind ts around) f) f (is_predicate tb) (reading max (within (bind ts around) base) tb)
      → Reads (quantifier_role table ts (role table (bind ts around) f)) (k ts f) true (quantified k (wrong_bounds (suc (count_locals (within around base))) bs) (printed_bounds (within around base) bs) (part true tb (reading max (inside (printed_bounds (within around base) bs) (within around base)) tb)))
  quantifier-reads k ts f around d at bs tb l h g =
      let names = within around base in
      let r = role table (bind ts around) f in
      let ns = inside (printed_bounds names bs) names in
      let x = quantified k (wrong_bounds (suc (count_locals names)) bs) (printed_bounds names bs) (part true tb (reading max ns tb)) in
      let body : Reads r f (is_predicate tb) (reading max ns tb) = subst (λ m. Reads r f (is_predicate tb) (reading max m tb)) (sym (inside-is (printed_bounds names bs) ts around h.1)) g in
      on-held (k ts f) true x (all_listed table ts) (if_predicate predicate r) (λ y. on-predicate (k ts f) true x predicate r (λ e.
      (quantified-reads ts (wrong_bounds (suc (count_locals names)) bs) (printed_bounds names bs) f k (part true tb (reading max ns tb)) (ap (λ c. wrong_bounds (suc c) bs) (count-within around base nolocals ∙ l) ∙ h.0) h.1 (predicate-part r f tb (reading max ns tb) body e), refl)))

  -- a comprehension, from its ranges and its body
  comprehension-reads : (rs : Formulas) (f : Formula) (around : List ValueType) (d at q : ℕ) (tb : RawTree) → length around ≡ d
      → (each_gives_set (roles table around rs) ≡ true → RangesRead (suc d) (range_reads max (within around base) (shown_ranges table d q (suc d) rs)) rs (element_types (roles table around rs)))
      → Reads (role table (bind (element_types (roles table around rs)) around) f) f (is_predicate tb) (reading max (within (bind (element_types (roles table around rs)) around) base) tb)
      → Reads (comprehension_role (roles table around rs) (role table (bind (element_types (roles table around rs)) around) f)) (comprehension rs f) false
      (comprehended at (wrong_ranges (suc (count_locals (within around base))) (range_reads max (within around base) (shown_ranges table d q (suc d) rs))) (printed_ranges (range_reads max (within around base) (shown_ranges table d q (suc d) rs))) (part true tb (reading max (inside (as_bound (printed_ranges (range_reads max (within around base) (shown_ranges table d q (suc d) rs)))) (within around base)) tb)))
  comprehension-reads rs f around d at q tb l h g =
      let names = within around base in
      let xs = range_reads max names (shown_ranges table d q (suc d) rs) in
      let ts = element_types (roles table around rs) in
      let r = role table (bind ts around) f in
      let ns = inside (as_bound (printed_ranges xs)) names in
      let x = comprehended at (wrong_ranges (suc (count_locals names)) xs) (printed_ranges xs) (part true tb (reading max ns tb)) in
      let out = gives (set_type (tuple_type ts)) in
      on-held (comprehension rs f) false x (are_ranges (roles table around rs)) (if_predicate out r) (λ y.
      let some = ranges-then around rs y in
      let right = h some.1 in
      let body : Reads r f (is_predicate tb) (reading max ns tb) = subst (λ m. Reads r f (is_predicate tb) (reading max m tb)) (sym (inside-is (as_bound (printed_ranges xs)) ts around right.2)) g in
      on-predicate (comprehension rs f) false x out r (λ e.
      (comprehended-reads at ts (wrong_ranges (suc (count_locals names)) xs) (printed_ranges xs) rs f (part true tb (reading max ns tb)) (named-ranges around rs d q (suc d) some.0) (ap (λ c. wrong_ranges (suc c) xs) (count-within around base nolocals ∙ l) ∙ right.0) right.1 right.2 (predicate-part r f tb (reading max ns tb) body e), refl)))

  lambda-reads : (rs : Formulas) (f v : Formula) (around : List ValueType) (d at q : ℕ) (tb tv : RawTree) → length around ≡ d
      → (each_gives_set (roles table around rs) ≡ true → RangesRead (suc d) (range_reads max (within around base) (shown_ranges table d q (suc d) rs)) rs (element_types (roles table around rs)))
      → Reads (role table (bind (element_types (roles table around rs)) around) f) f (is_predicate tb) (reading max (within (bind (element_types (roles table around rs)) around) base) tb)
      → Reads (role table (bind (element_types (roles table around rs)) around) v) v (is_predicate tv) (reading max (within (bind (element_types (roles table around rs)) around) base) tv)
      → Reads (lambda_role (roles table around rs) (role table (bind (element_types (roles table around rs)) around) f) (role table (bind (element_types (roles table around rs)) around) v)) (lambda rs f v) false
      (abstracted at (wrong_ranges (suc (count_locals (within around base))) (range_reads max (within around base) (shown_ranges table d q (suc d) rs))) (printed_ranges (range_reads max (within around base) (shown_ranges table d q (suc d) rs))) (part true tb (reading max (inside (as_bound (printed_ranges (range_reads max (within around base) (shown_ranges table d q (suc d) rs)))) (within around base)) tb))
      (place_of tv) (part false tv (reading max (inside (as_bound (printed_ranges (range_reads max (within around base) (shown_ranges table d q (suc d) rs)))) (within around base)) tv)))
  lambda-reads rs f v around d at q tb tv l h g k =
      let names = within around base in
      let xs = range_reads max names (shown_ranges table d q (suc d) rs) in
      let ts = element_types (roles table around rs) in
      let r = role table (bind ts around) f in
      let s = role table (bind ts around) v in
      let ns = inside (as_bound (printed_ranges xs)) names in
      let x = abstracted at (wrong_ranges (suc (count_locals names)) xs) (printed_ranges xs) (part true tb (reading max ns tb)) (place_of tv) (part false tv (reading max ns tv)) in
      let out = λ (u : ValueType). gives (set_type (pair_type (tuple_type ts) u)) in
      on-held (lambda rs f v) false x (are_ranges (roles table around rs)) (if_predicate (if_value out s) r) (λ y.
      let some = ranges-then around rs y in
      let right = h some.1 in
      let same = sym (inside-is (as_bound (printed_ranges xs)) ts around right.2) in
      let body : Reads r f (is_predicate tb) (reading max ns tb) = subst (λ m. Reads r f (is_predicate tb) (reading max m tb)) same g in
      let value : Reads s v (is_predicate tv) (reading max ns tv) = subst (λ m. Reads s v (is_predicate tv) (reading max m tv)) same k in
      on-predicate (lambda rs f v) false x (if_value out s) r (λ e. on-value (lambda rs f v) false x out s (λ u z.
      (abstracted-reads at (place_of tv) ts (wrong_ranges (suc (count_locals names)) xs) (printed_ranges xs) rs f v u (part true tb (reading max ns tb)) (part false tv (reading max ns tv)) (named-ranges around rs d q (suc d) some.0) (ap (λ c. wrong_ranges (suc c) xs) (count-within around base nolocals ∙ l) ∙ right.0) right.1 right.2 (predicate-part r f tb (reading max ns tb) body e) (value-part s v tv (reading max ns tv) value u z), refl))))

  length-inside : (rs : Formulas) (around : List ValueType) (d : ℕ) → length around ≡ d → length (bind (element_types (roles table around rs)) around) ≡ d + count rs
  length-inside rs around d l = length-bind (element_types (roles table around rs)) around d l ∙ ap (λ n. d + n) (length-ranges around rs)

  mutual
    pub formula-reads : (f : Formula) (around : List ValueType) (d : ℕ) → length around ≡ d → IsReadable table d f → Stands table base f → ReadsBack f around d
    formula-reads (variable n) around d l h s p = variable-reads n around p (variable_type table n) refl h s
    formula-reads (bound i) around d l h s p = bound-role-reads i d p around (slice_get around i) refl l
    formula-reads (literal z) around d l h s p = (refl, refl)
    formula-reads (truth_value b) around d l h s p = truth-reads b p (within around base)
    formula-reads (element k i) around d l h s p =
        let text = name_of_element table k i in
        on-held (element k i) (is_predicate_node (name_node text)) (node_reading max (within around base) p (name_node text)) (nat_lt i (listed_size table k)) (gives (enum_type k))
        (λ y. name-reads max (within around base) p text (element k i) (enum_type k) h (found-inside around base nolocals text (printable-something text h) ∙ s))
    formula-reads (empty_set t) around d l h s p = empty-reads t p around h s
    formula-reads (named n) around d l h s p = domain-reads n p around h s
    formula-reads btrue around d l h s p = (refl, refl)
    formula-reads bfalse around d l h s p = (refl, refl)
    formula-reads (unary o a) around d l h s p =
        unary-whole (unary_form o) (role table around (unary o a)) (unary o a) (within around base) (is_bare a) (λ q. shown_node table d q a) p a (role table around a) (formula-reads a around d l h s)
        (λ ta k. unary-reads a (role table around a) ta (reading max (within around base) ta) k o p)
    formula-reads (binary o a b) around d l h s p =
        binary-whole (binary_form o) (role table around (binary o a b)) (binary o a b) (within around base) (record { bare = is_bare a; left = is_infix a; right = is_infix b }) (items table d a) (λ q. shown_node table d q a) (λ q. shown_node table d q b) p a b (role table around a) (role table around b)
        (formula-reads a around d l h.0 s.0) (formula-reads b around d l h.1 s.1)
        (λ ta tb k m. binary-reads a b (role table around a) (role table around b) ta tb (reading max (within around base) ta) (reading max (within around base) tb) k m o p)
    formula-reads (for_all ts f) around d l h s p =
        let q = quantified_at table FOR_ALL d ts p in
        let first = after p (sign FOR_ALL ∷ sign OPEN_PAREN ∷ []) in
        quantifier-reads for_all ts f around d p (raw_bounds table first (suc d) ts) (raw q (shown_node table (d + length ts) q f)) l (bounds-read ts h.0 s.0 around first (suc d)) (formula-reads f (bind ts around) (d + length ts) (length-bind ts around d l) h.2 s.1 q)
    formula-reads (for_some ts f) around d l h s p =
        let q = quantified_at table EXISTS d ts p in
        let first = after p (sign EXISTS ∷ sign OPEN_PAREN ∷ []) in
        quantifier-reads for_some ts f around d p (raw_bounds table first (suc d) ts) (raw q (shown_node table (d + length ts) q f)) l (bounds-read ts h.0 s.0 around first (suc d)) (formula-reads f (bind ts around) (d + length ts) (length-bind ts around d l) h.2 s.1 q)
    formula-reads (comprehension rs f) around d l h s p =
        let q = comprehended_at (ranges_items table d (suc d) rs) (is_infix f) p in
        let first = after p (sign OPEN_BRACE ∷ []) in
        comprehension-reads rs f around d p first (raw q (shown_node table (d + count rs) q f)) l (λ e. ranges-read rs around d l h.0 s.0 e first (suc d))
        (formula-reads f (bind (element_types (roles table around rs)) around) (d + count rs) (length-inside rs around d l) h.2 s.1 q)
    formula-reads (lambda rs f v) around d l h s p =
        let q = inside_at (is_infix f) (premise_at (ranges_items table d (suc d) rs) p) in
        let w = inside_at (is_infix v) (value_at (ranges_items table d (suc d) rs) (is_infix f) (items table (d + count rs) f) p) in
        let first = after p (sign LAMBDA ∷ sign OPEN_PAREN ∷ []) in
        lambda-reads rs f v around d p first (raw q (shown_node table (d + count rs) q f)) (raw w (shown_node table (d + count rs) w v)) l (λ e. ranges-read rs around d l h.0 s.0 e first (suc d))
        (formula-reads f (bind (element_types (roles table around rs)) around) (d + count rs) (length-inside rs around d l) h.2 s.1 q)
        (formula-reads v (bind (element_types (roles table around rs)) around) (d + count rs) (length-inside rs around d l) h.3 s.2 w)

    ranges-read : (rs : Formulas) (around : List ValueType) (d : ℕ) → length around ≡ d → AreReadable table d rs → EachStands table base rs → each_gives_set (roles table around rs) ≡ true → (p k : ℕ) → RangesRead k (range_reads max (within around base) (shown_ranges table d p k rs)) rs (element_types (roles table around rs))
    ranges-read no_formulas around d l h s e p k = (refl, refl, (refl, refl, refl, refl))
    ranges-read (formula_and f fs) around d l h s e p k =
        let names = within around base in
        let two = and-both (gives_set (role table around f)) (each_gives_set (roles table around fs)) e in
        let one = set-role (role table around f) two.0 in
        let q = inside_at (is_infix f) (after p (plain (BoundName k) ∷ sign MEMBER ∷ [])) in
        let next = past_comma fs (after p (range_items k (is_infix f) (items table d f))) in
        let tree = raw q (shown_node table d q f) in
        let y = part false tree (reading max names tree) in
        let g = value-part (role table around f) f tree (reading max names tree) (formula-reads f around d l h.0 s.0 q) (set_type one.0) one.1 in
        let more = ranges-read fs around d l h.1 s.1 two.1 next (suc k) in
        subst (λ t. RangesRead k (range_reads max names (shown_ranges table d p k (formula_and f fs))) (formula_and f fs) (t ∷ element_types (roles table around fs))) (ap element_type (sym one.1))
        (range-behind p k q f one.0 y (range_reads max names (shown_ranges table d next (suc k) fs)) fs (element_types (roles table around fs)) g more)
