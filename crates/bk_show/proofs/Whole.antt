-- From the text to the formula.
use Rattle.std.proofs.Common.{◌≡◌, ℕ, suc, ℤ, Bool, List, [], ◌∷◌, ◌++◌, Option, None, Some, refl}
use Rattle.bk_val.specs.ValueType.{ValueType}
use Rattle.bk_form.specs.Table.{Table, SetEntry, variable_type}
use Rattle.bk_form.specs.Formula.{Formula}
use Rattle.bk_form.specs.Role.{Role, gives, ranges_over, predicate, untyped, role}
use Rattle.bk_lex.proofs.Cutting.{tokens_are_one}
use Rattle.bk_raw.specs.Meaning.Names.{Names}
use Rattle.bk_raw.specs.Meaning.Outcome.{Reading, answered}
use Rattle.bk_raw.specs.Meaning.TermReading.{place_of, reading, is_predicate}
use Rattle.bk_raw.specs.Meaning.ScopeReading.{variable_meaning, element_names, set_names, scope_names, names_in, ask_formula}
use Rattle.bk_raw.proofs.Exact.{one_for_its_tokens}
use Rattle.bk_show.proofs.Tokens.{tokens_from}
use Rattle.bk_show.specs.Shown.{items, shown}
use Rattle.bk_show.specs.Stands.{IsGlobal, HasNoLocals, Stands}
use Rattle.bk_show.specs.Laws.{ReadsAs, ShownReadsBack}
use Rattle.bk_show.proofs.Trees.{shown_tree}
use Rattle.bk_show.proofs.Spelled.{formula-spelled}
use Rattle.bk_show.proofs.Lexing.{shown-tokens}
use Rattle.bk_show.proofs.RulesBack.{Reads}
use Rattle.bk_show.proofs.ReadBack.{formula-reads}

-- ---- a reading
untyped-not : (r : Role) → (r ≡ untyped → ⊥) → (f : Formula) (b : Bool) (x : Reading) → Reads r f b x → ReadsAs r f x
untyped-not (gives t) n f b x h = h.0
untyped-not (ranges_over t) n f b x h = (h.0, h.1)
untyped-not predicate n f b x h = h.0
untyped-not untyped n f b x h = n refl

-- ---- the formula that is answered
answer-of : (r : Role) (f : Formula) (at : ℕ) (x : Reading) → ReadsAs r f x → record { answer = (ask_formula at x.outcome).answer; faults = x.faults ++ (ask_formula at x.outcome).faults } ≡ answered f
answer-of (gives t) f at x h = λ i. record { answer = (ask_formula at (h i).outcome).answer; faults = (h i).faults ++ (ask_formula at (h i).outcome).faults }
answer-of (ranges_over t) f at x h = λ i. record { answer = (ask_formula at (h.1 i).outcome).answer; faults = (h.1 i).faults ++ (ask_formula at (h.1 i).outcome).faults }
answer-of predicate f at x h = λ i. record { answer = (ask_formula at (h i).outcome).answer; faults = (h i).faults ++ (ask_formula at (h i).outcome).faults }
answer-of untyped f at x h = elim h [ ]

-- ---- the names of a scope are no bound variables
elements-global : (s i : ℕ) (xs : List (List ℕ)) (rest : Names) → HasNoLocals rest → HasNoLocals (element_names s i xs ++ rest)
elements-global s i [] rest h = h
elements-global s i (x ∷ xs) rest h = (tt, elements-global s (suc i) xs rest h)

sets-global : (s : ℕ) (es : List SetEntry) → HasNoLocals (set_names s es)
sets-global s [] = tt
sets-global s (e ∷ es) = (tt, elements-global s 0 e.elements (set_names (suc s) es) (sets-global (suc s) es))

variable-global : (n : ℕ) (o : Option ValueType) → IsGlobal (variable_meaning n o)
variable-global n None = tt
variable-global n (Some t) = tt

scope-global : (table : Table) (ps : List (List ℕ × ℕ)) (around : Names) → HasNoLocals around → HasNoLocals (scope_names table ps around)
scope-global table [] around h = h
scope-global table (p ∷ ps) around h = scope-global table ps (record { text = p.0; meaning = variable_meaning p.1 (variable_type table p.1) } ∷ around) (variable-global p.1 (variable_type table p.1), h)

-- ---- the whole
pub shown-back : ShownReadsBack
shown-back table f typed b h =
    let tokens = tokens_from 0 (items table 0 f) in
    let tree = shown_tree table 0 0 f in
    let cut = shown-tokens table f h in
    let spelled = formula-spelled table f b 0 0 in
    let back : (max : ℤ) (names : Names) → HasNoLocals names → Stands table names f → ReadsAs (role table [] f) f (reading max names tree) =
    λ max names n s. untyped-not (role table [] f) typed f (is_predicate tree) (reading max names tree) (formula-reads max table names n f [] 0 refl h s 0) in
    record {
      tokens = tokens;
      tree = tree;
      cut = cut;
      one_cut = λ others a. tokens_are_one (shown table f) others tokens a cut;
      spelled = spelled;
      one_tree = λ other s. one_for_its_tokens tokens other tree s spelled;
      reads = back;
      reads_in = λ scope s. answer-of (role table [] f) f (place_of tree) (reading scope.max (names_in table scope) tree) (back scope.max (names_in table scope) (scope-global table scope.names (set_names 0 table.sets) (sets-global 0 table.sets)) s);
    }
