-- What the rules of a printed script stand for.
use Rattle.std.proofs.Common.{◌≡◌, ℕ, suc, ◌+◌, ◌<◌, ◌^◌, List, [], ◌∷◌, ◌++◌, map, refl, ap, sym, ◌∙◌, subst, Bool, Option, Some, None, inl}
use Rattle.std.specs.Prelude.{ℤ, pos}
use Rattle.std.specs.List.{AllZip}
use Rattle.bk_val.specs.ValueType.{ValueType, int_type, bool_type, enum_type, pair_type, set_type}
use Rattle.bk_form.specs.Table.{Table, SetEntry, variable_type}
use Rattle.bk_form.specs.Formula.{Formula}
use Rattle.bk_form.specs.Role.{Role, gives, ranges_over, predicate, untyped, role}
use Rattle.bk_lin.specs.declared.fact.Line.{Line}
use Rattle.bk_lin.specs.declared.fact.Line.TheVariants.{Sum, Div}
use Rattle.bk_raw.specs.Meaning.Names.{Names}
use Rattle.bk_raw.specs.Meaning.Outcome.{Reading}
use Rattle.bk_raw.specs.Meaning.Printed.{set_type_of, power_of, product_of, type_read}
use Rattle.bk_raw.specs.Meaning.TermReading.{place_of, reading, is_predicate}
use Rattle.bk_raw.specs.Meaning.ScopeReading.{ScopeNames, variable_meaning, element_names, set_names, scope_names, names_in, ask_formula}
use Rattle.bk_kernel.specs.declared.rule.Place.{Place}
use Rattle.bk_kernel.specs.declared.rule.Place.TheVariants.{Goal, Hyp as InHyp}
use Rattle.bk_kernel.specs.declared.rule.Rule.{Rule}
use Rattle.bk_kernel.specs.declared.rule.Rule.TheVariants.{Hyp, True, Same, Eval, False, Absurd, And, Iff, Imp, Not, Left, Right, Or, Contra, Fix, UseTerms, Split, Cases, Apply, Inst, OpenSome, Cut, Case, Drop, Eq, Qe, Law, Wal, TypeOf, Neg, Mem, Val, Ext, Sub, Ex, Pair, Elems, Interval, Induct, Poly, Lin, Unread}
use Rattle.bk_scripts.specs.Parts.{Around, NumberMeans, TermMeans, NameMeans, PlaceMeans, MultipleMeans, LineMeans}
use Rattle.bk_scripts.specs.Grounding.{RuleMeans, StandsFor}
use Rattle.bk_show.specs.Items.{Item}
use Rattle.bk_show.specs.Shown.{items}
use Rattle.bk_show.specs.Stands.{IsGlobal, HasNoLocals, TypeStands}
use Rattle.bk_show.proofs.Tokens.{after}
use Rattle.bk_show.proofs.Trees.{written_type, shown_tree}
use Rattle.bk_show.proofs.RulesBack.{Reads}
use Rattle.bk_show.proofs.ReadBack.{formula-reads}
use Rattle.bk_print.specs.Written.{word_of, parts_of}
use Rattle.bk_print.specs.Text.{comma, name_items, word_items}
use Rattle.bk_form.specs.Each.{Each}
use Rattle.bk_print.specs.Readable.{IsNumber, ReadsIn, NameReads, PlaceReads, MultipleReads, LineReads, RuleReads}
use Rattle.bk_print.proofs.RawScripts.{more_at, list_at, tree_at, trees_at, raw_place, type_text, raw_name, names_at, raw_multiple, digits_of, raw_line, raw_parts, the_word, line_of, rules_at}

-- ---- the names of a scope are no bound variables
elements-global : (s i : ℕ) (xs : List (List ℕ)) (rest : Names) → HasNoLocals rest → HasNoLocals (element_names s i xs ++ rest)
elements-global s i [] rest h = h
elements-global s i (x ∷ xs) rest h = (tt, elements-global s (suc i) xs rest h)

sets-global : (s : ℕ) (es : List SetEntry) → HasNoLocals (set_names s es)
sets-global s [] = tt
sets-global s (e ∷ es) = (tt, elements-global s 0 e.elements (set_names (suc s) es) (sets-global (suc s) es))

variable-global : (n : ℕ) (o : Option ValueType) → IsGlobal (variable_meaning n o)
variable-global n None = tt
variable-global n (Some t) = tt

scope-global : (table : Table) (ps : List (List ℕ × ℕ)) (around : Names) → HasNoLocals around → HasNoLocals (scope_names table ps around)
scope-global table [] around h = h
scope-global table (p ∷ ps) around h = scope-global table ps (record { text = p.0; meaning = variable_meaning p.1 (variable_type table p.1) } ∷ around) (variable-global p.1 (variable_type table p.1), h)

-- ---- types
pub type-reads : (table : Table) (names : Names) (t : ValueType) → TypeStands table names t → type_read names (written_type table t) ≡ Some t
type-reads table names int_type h = refl
type-reads table names bool_type h = refl
type-reads table names (enum_type s) h = ap set_type_of h
type-reads table names (pair_type t u) h = ap (λ o. product_of o (type_read names (written_type table u))) (type-reads table names t h.0) ∙ ap (λ o. product_of (Some t) o) (type-reads table names u h.1)
type-reads table names (set_type t) h = ap power_of (type-reads table names t h)

-- ---- terms
answer-of : (r : Role) → (r ≡ untyped → ⊥) → (f : Formula) (at : ℕ) (b : Bool) (x : Reading) → Reads r f b x → (ask_formula at x.outcome).answer ≡ Some f
answer-of (gives t) n f at b x h = ap (λ y. (ask_formula at y.outcome).answer) h.0
answer-of (ranges_over t) n f at b x h = ap (λ y. (ask_formula at y.outcome).answer) h.1
answer-of predicate n f at b x h = ap (λ y. (ask_formula at y.outcome).answer) h.0
answer-of untyped n f at b x h = absurd (n refl)

module _ (table : Table) (scope : ScopeNames) where
  abbrev names : Names
  names = names_in table scope

  abbrev around : Around
  around = record { table = table; scope = scope }

  no-locals : HasNoLocals names
  no-locals = scope-global table scope.names (set_names 0 table.sets) (sets-global 0 table.sets)

  term-means : (f : Formula) (p : ℕ) → ReadsIn table names f → TermMeans around (tree_at table p f) f
  term-means f p h =
      let tree = shown_tree table 0 p f in
      answer-of (role table [] f) h.typed f (place_of tree) (is_predicate tree) (reading scope.max names tree) (formula-reads scope.max table names no-locals f [] 0 refl h.readable h.stands p)

  -- ---- lists
  zip-more : {A B : Type 0} (P : A → Type 0) (R : B → A → Type 0) (raw : ℕ → A → B) (its : A → List Item) (sep : List Item) → ((x : A) (p : ℕ) → P x → R (raw p x) x) → (xs : List A) (p : ℕ) → Each P xs → AllZip R (more_at raw its sep p xs) xs
  zip-more P R raw its sep each [] p h = tt
  zip-more P R raw its sep each (x ∷ xs) p h = (each x (after p sep) h.0, zip-more P R raw its sep each xs (after (after p sep) (its x)) h.1)

  zip-list : {A B : Type 0} (P : A → Type 0) (R : B → A → Type 0) (raw : ℕ → A → B) (its : A → List Item) (sep : List Item) → ((x : A) (p : ℕ) → P x → R (raw p x) x) → (xs : List A) (p : ℕ) → Each P xs → AllZip R (list_at raw its sep p xs) xs
  zip-list P R raw its sep each [] p h = tt
  zip-list P R raw its sep each (x ∷ xs) p h = (each x p h.0, zip-more P R raw its sep each xs (after p (its x)) h.1)

  zip-map : {A B : Type 0} (P : A → Type 0) (R : B → A → Type 0) (f : A → B) → ((x : A) → P x → R (f x) x) → (xs : List A) → Each P xs → AllZip R (map f xs) xs
  zip-map P R f each [] h = tt
  zip-map P R f each (x ∷ xs) h = (each x h.0, zip-map P R f each xs h.1)

  zip-same : (ns : List ℕ) → Each IsNumber ns → AllZip NumberMeans ns ns
  zip-same [] h = tt
  zip-same (n ∷ ns) h = ((refl, h.0), zip-same ns h.1)

  terms-mean : (fs : List Formula) (p : ℕ) → Each (ReadsIn table names) fs → AllZip (TermMeans around) (trees_at table p fs) fs
  terms-mean fs p h = zip-list (ReadsIn table names) (TermMeans around) (tree_at table) (items table 0) comma (λ f q k. term-means f q k) fs p h

  name-means : (x p : ℕ) → NameReads table names x → NameMeans around (raw_name table p x) x
  name-means x p h = record {
    of_type = h.of_type;
    meant = h.named;
    typed = ap (λ o. type_read names (type_text table o)) h.has_type ∙ type-reads table names h.of_type h.stands;
  }

  names-mean : (xs : List ℕ) (p : ℕ) → Each (NameReads table names) xs → AllZip (NameMeans around) (names_at table p xs) xs
  names-mean xs p h = zip-list (NameReads table names) (NameMeans around) (raw_name table) (name_items table) comma (λ x q k. name-means x q k) xs p h

  -- ---- places and certificates
  place-means : (place : Place) → PlaceReads place → PlaceMeans (raw_place place) place
  place-means (Goal path) h = zip-same path.items h
  place-means (InHyp i path) h = ((refl, h.0), zip-same path.items h.1)

  multiple-means : (m : ℤ × ℕ) → MultipleReads m → MultipleMeans (raw_multiple m) m
  multiple-means m h = (refl, (refl, h.1))

  line-means : (l : Line) → LineReads l → LineMeans (raw_line l) l
  line-means (Sum ms) h = zip-map MultipleReads MultipleMeans raw_multiple multiple-means ms.items h.1
  line-means (Div fact by) h =
      let same : digits_of by ≡ h.1.0 = ap digits_of h.1.1 in
      ((refl, h.0), h.1.1 ∙ ap (λ g. pos g) (sym same), subst (λ g. g < 2 ^ 127) (sym same) h.1.2)

  lines-mean : (ls : List Line) → Each LineReads ls → AllZip LineMeans (map raw_line ls) ls
  lines-mean ls h = zip-map LineReads LineMeans raw_line line-means ls h

  -- ---- rules
  means : (r : Rule) (p : ℕ) → RuleReads table names r → RuleMeans around (the_word (word_of r)) (raw_parts table (after p (word_items (word_of r))) (parts_of r)) r
  means (Hyp i) p h = (i, (refl, h.1), refl)
  means True p h = (tt, refl)
  means Same p h = (tt, refl)
  means (Eval None) p h = (None, tt, refl)
  means (Eval (Some place)) p h = (Some place, place-means place h.1, refl)
  means (False i) p h = (i, (refl, h.1), refl)
  means (Absurd i j) p h = ((i, j), ((refl, h.1.0), (refl, h.1.1)), refl)
  means And p h = (tt, refl)
  means Iff p h = (tt, refl)
  means Imp p h = (tt, refl)
  means Not p h = (tt, refl)
  means Left p h = (tt, refl)
  means Right p h = (tt, refl)
  means Or p h = (tt, refl)
  means Contra p h = (tt, refl)
  means (Fix ns) p h = (ns, names-mean ns.items _ h.1.1, refl)
  means (UseTerms fs) p h = (fs, terms-mean fs.items _ h.1.1, refl)
  means (Split i) p h = (i, (refl, h.1), refl)
  means (Cases i) p h = (i, (refl, h.1), refl)
  means (Apply i) p h = (i, (refl, h.1), refl)
  means (Inst i fs) p h = ((i, fs), ((refl, h.1.0), terms-mean fs.items _ h.1.1.1), refl)
  means (OpenSome i ns) p h = ((i, ns), ((refl, h.1.0), names-mean ns.items _ h.1.1.1), refl)
  means (Cut f) p h = (f, term-means f _ h.1, refl)
  means (Case f) p h = (f, term-means f _ h.1, refl)
  means (Drop i) p h = (i, (refl, h.1), refl)
  means (Eq i place) p h = ((i, place), ((refl, h.1.0), place-means place h.1.1), refl)
  means (Qe i place) p h = ((i, place), ((refl, h.1.0), place-means place h.1.1), refl)
  means (Law law fs place) p h = (((law, fs), place), ((h.1.0.0, terms-mean fs.items _ h.1.0.1), place-means place h.1.1), refl)
  means (Wal law fs place) p h = (((law, fs), place), ((h.1.0.0, terms-mean fs.items _ h.1.0.1), place-means place h.1.1), refl)
  means (TypeOf place) p h = (place, place-means place h.1, refl)
  means (Neg place) p h = (place, place-means place h.1, refl)
  means (Mem place) p h = (place, place-means place h.1, refl)
  means (Val place) p h = (place, place-means place h.1, refl)
  means (Ext place) p h = (place, place-means place h.1, refl)
  means (Sub place) p h = (place, place-means place h.1, refl)
  means (Ex place) p h = (place, place-means place h.1, refl)
  means (Pair f) p h = (f, term-means f _ h.1, refl)
  means (Elems f) p h = (f, term-means f _ h.1, refl)
  means (Interval i) p h = (i, (refl, h.1), refl)
  means Induct p h = (tt, refl)
  means Poly p h = (tt, refl)
  means (Lin ks ls) p h = ((ks, ls), (zip-same ks.items h.1.0, lines-mean ls.items h.1.2), refl)
  means Unread p h = elim (h.0) [ ]

  pub rules-mean : (rules : List Rule) (p : ℕ) → Each (RuleReads table names) rules → AllZip (StandsFor around) (rules_at table p rules) rules
  rules-mean [] p h = tt
  rules-mean (r ∷ rs) p h = (inl (means r (p + 1 + 1) h.0), rules-mean rs (after p (line_of table r rs) + 1) h.1)
