-- What a substitution binds, and what a script brings, is written: there are as many tokens.
use Rattle.std.proofs.Common.{Bool, true, false, cond, Option, Some, None, ◌≡◌, ℕ, ◌+◌, ◌≤◌, List, [], ◌∷◌, ◌++◌, length, refl, ap, arith, length-append, All, flat_map}
use Rattle.std.proofs.lemmas.List.Elements.{All-nil, All-cons}
use Rattle.bk_form.specs.declared.token.Token.{Token}
use Rattle.bk_raw.specs.Grammar.Pieces.{◌⌢◌, Divided, AnyDivided, InRow}
use Rattle.bk_raw.specs.Grammar.Spelling.{Declared, Names}
use Rattle.bk_raw.specs.declared.term.RawName.{RawName}
use Rattle.bk_raw.specs.declared.script.RawTyped.{RawTyped}
use Rattle.bk_ops.specs.declared.sign.TheConstants.{COMMA, SEMICOLON}
use Rattle.bk_ops.specs.declared.word.TheConstants.{ELSIF, WHEN}
use Rattle.bk_raw.specs.Trees.SubTree.{SubTree, sub, SubNode, sub_skip, sub_assign, sub_assign_at, sub_member, sub_such, sub_call, sub_begin, sub_pre, sub_assert, sub_if, sub_choice, sub_select, sub_any, sub_let, sub_var, sub_while, sub_parallel, sub_sequence, Branches, no_branches, else_branch, branch_and, Choices, no_choices, choice_and}
use Rattle.bk_raw.specs.Grammar.SubSpelling.{Sub, Stated, Branched, Chosen}
use Rattle.bk_raw.specs.Trees.ScriptTree.{PartKind, one_number, one_term, some_terms, one_place, perhaps_place, typed_names, one_law, certificate, shape_of, RulePart, part_number, part_term, part_terms, part_place, part_no_place, part_typed, part_law, part_certificate, RawRule, RawScript}
use Rattle.bk_raw.specs.Grammar.ScriptSpelling.{TypedName, Spelled, Ruled, Rule, Scripted, SpellsScripts}
use Rattle.bk_raw.specs.declared.component.ClauseWord.{ClauseWord}
use Rattle.bk_raw.specs.declared.component.ClauseWord.TheVariants.{Initialisation, Operations}
use Rattle.bk_raw.specs.Trees.ComponentTree.{RawOperation, ClauseParts, clause_sets, clause_names, clause_term, clause_terms, clause_values, clause_sub, clause_operations, RawClause, RawComponent}
use Rattle.bk_raw.specs.Grammar.ComponentSpelling.{Outputs, Operation, Parts, Clause, SpellsComponent}
use Rattle.bk_statics.specs.Components.{substitution_in, operations_in, is_clause, if_clause, listed, or_next, stated, Component, component_of, initialisation}
use Rattle.bk_statics.specs.Plan.{size_of}
use Rattle.bk_bounds.proofs.Sizes.{all_sizes, bound_in}
use Rattle.bk_statics.specs.Binders.{binder_count, count_in, branches_count, choices_count}
use Rattle.bk_p_proof.specs.TypedNames.{part_names, rule_names, script_names}

-- ---- pieces
abbrev pub Piece : Type 1
Piece = List Token → Type 0

-- each list of tokens that is the piece has so many
abbrev pub AtLeast : ℕ → Piece → Type 0
AtLeast n P = (ts : List Token) → P ts → n ≤ length ts

any : (P : Piece) → AtLeast 0 P
any P ts h = omega (arith)

-- two pieces are as long as both together
pub joined : {n m : ℕ} {P Q : Piece} → AtLeast n P → AtLeast m Q → AtLeast (n + m) (P ⌢ Q)
joined p q ts h = omega (arith, p h.0 h.3, q h.1 h.4, ap length h.2, length-append h.0 h.1)

-- they are as long as the first
pub before : {n : ℕ} {P Q : Piece} → AtLeast n P → AtLeast n (P ⌢ Q)
before p ts h = omega (arith, p h.0 h.3, ap length h.2, length-append h.0 h.1)

-- they are as long as the second
pub behind : {m : ℕ} {P Q : Piece} → AtLeast m Q → AtLeast m (P ⌢ Q)
behind q ts h = omega (arith, q h.1 h.4, ap length h.2, length-append h.0 h.1)

one-name : (x : RawName) → AtLeast 1 (Declared x)
one-name x ts h = omega (arith, ap length h.1)

-- names have as many tokens
pub names-bound : (xs : List RawName) → AtLeast (length xs) (Names xs)
names-bound [] = λ ts h. absurd h
names-bound (x ∷ []) = one-name x
names-bound (x ∷ y ∷ ys) = λ ts h. omega (arith, joined (one-name x) (behind (names-bound (y ∷ ys))) ts h)

-- ---- substitutions
mutual
  -- a substitution binds at most as much as it has tokens
  pub sub-at-least : (s : SubTree) (asked : ℕ) → AtLeast (binder_count s) (Sub false s asked)
  sub-at-least (sub at node) asked = λ ts h. node-at-least node asked ts h.4

  node-at-least : (node : SubNode) (asked : ℕ) → AtLeast (count_in node) (Stated false node asked)
  node-at-least sub_skip asked = any (Stated false sub_skip asked)
  node-at-least (sub_assign xs es) asked = any (Stated false (sub_assign xs es) asked)
  node-at-least (sub_assign_at f x e) asked = any (Stated false (sub_assign_at f x e) asked)
  node-at-least (sub_member x e) asked = before (one-name x)
  node-at-least (sub_such xs p) asked = before (names-bound xs)
  node-at-least (sub_call xs o ts) asked = any (Stated false (sub_call xs o ts) asked)
  node-at-least (sub_begin s) asked = behind (before (sub-at-least s 0))
  node-at-least (sub_pre p s) asked = behind (behind (behind (before (sub-at-least s 0))))
  node-at-least (sub_assert p s) asked = behind (behind (behind (before (sub-at-least s 0))))
  node-at-least (sub_if p s bs) asked = behind (behind (behind (before (joined (sub-at-least s 0) (branches-at-least ELSIF bs)))))
  node-at-least (sub_choice s cs) asked = behind (before (joined (sub-at-least s 0) (choices-at-least cs)))
  node-at-least (sub_select p s bs) asked = behind (behind (behind (before (joined (sub-at-least s 0) (branches-at-least WHEN bs)))))
  node-at-least (sub_any xs p s) asked = behind (joined (names-bound xs) (behind (behind (behind (before (sub-at-least s 0))))))
  node-at-least (sub_let xs p s) asked = λ ts h. behind (joined (names-bound xs) (behind (behind (behind (before (sub-at-least s 0)))))) ts h.0
  node-at-least (sub_var xs s) asked = behind (joined (names-bound xs) (behind (before (sub-at-least s 0))))
  node-at-least (sub_while p s i v) asked = behind (behind (behind (before (sub-at-least s 0))))
  node-at-least (sub_parallel s t) asked = λ ts h. joined (sub-at-least s 1) (behind (sub-at-least t 2)) ts h.1
  node-at-least (sub_sequence s t) asked = λ ts h. joined (sub-at-least s 0) (behind (sub-at-least t 1)) ts h.1

  branches-at-least : (op : ℕ) (bs : Branches) → AtLeast (branches_count bs) (Branched false op bs)
  branches-at-least op no_branches = any (Branched false op no_branches)
  branches-at-least op (else_branch s) = behind (sub-at-least s 0)
  branches-at-least op (branch_and p s bs) = behind (behind (behind (joined (sub-at-least s 0) (branches-at-least op bs))))

  choices-at-least : (cs : Choices) → AtLeast (choices_count cs) (Chosen false cs)
  choices-at-least no_choices = any (Chosen false no_choices)
  choices-at-least (choice_and s cs) = behind (joined (sub-at-least s 0) (choices-at-least cs))

-- ---- components
-- outputs have as many tokens
outputs-bound : (xs : List RawName) → AtLeast (length xs) (Outputs xs)
outputs-bound [] = any (Outputs [])
outputs-bound (x ∷ xs) = before (names-bound (x ∷ xs))

operation-bound : (o : RawOperation) → AtLeast (size_of o) (Operation o)
operation-bound o = joined (outputs-bound o.outputs) (behind (behind (behind (sub-at-least o.body 1))))

operations-bound : (os : List RawOperation) → AtLeast (all_sizes os) (Divided SEMICOLON Operation os)
operations-bound [] = λ ts h. absurd h
operations-bound (o ∷ []) = λ ts h. omega (arith, operation-bound o ts h)
operations-bound (o ∷ p ∷ ps) = joined (operation-bound o) (behind (operations-bound (p ∷ ps)))

-- how much a substitution binds that may be missing
abbrev pub count_of : Option SubTree → ℕ
count_of None = 0
count_of (Some s) = binder_count s

-- what the parts of a clause bind
abbrev parts_count : ClauseParts → ℕ
parts_count ps = count_of (substitution_in ps) + all_sizes (operations_in ps)

initialisation-bound : (word : ClauseWord) (s : SubTree) → AtLeast (binder_count s) (Parts word (clause_sub s))
initialisation-bound Initialisation s = sub-at-least s 0
initialisation-bound _ s = λ ts h. absurd h

bodies-bound : (word : ClauseWord) (os : List RawOperation) → AtLeast (all_sizes os) (Parts word (clause_operations os))
bodies-bound Operations os = operations-bound os
bodies-bound _ os = λ ts h. absurd h

parts-at-least : (word : ClauseWord) (ps : ClauseParts) → AtLeast (parts_count ps) (Parts word ps)
parts-at-least word (clause_sets ss) = any (Parts word (clause_sets ss))
parts-at-least word (clause_names xs) = any (Parts word (clause_names xs))
parts-at-least word (clause_term t) = any (Parts word (clause_term t))
parts-at-least word (clause_terms ts) = any (Parts word (clause_terms ts))
parts-at-least word (clause_values vs) = any (Parts word (clause_values vs))
parts-at-least word (clause_sub s) = λ ts h. omega (arith, initialisation-bound word s ts h)
parts-at-least word (clause_operations os) = λ ts h. omega (arith, bodies-bound word os ts h)

-- of two substitutions the first that is there is taken
count-next : (a b : Option SubTree) → count_of (or_next a b) ≤ count_of a + count_of b
count-next None b = omega (arith)
count-next (Some s) b = omega (arith)

count-if : (b : Bool) (s : Option SubTree) → count_of (cond b s None) ≤ count_of s
count-if true s = omega (arith)
count-if false s = omega (arith)

sizes-append : (os ps : List RawOperation) → all_sizes (os ++ ps) ≡ all_sizes os + all_sizes ps
sizes-append [] ps = omega (arith)
sizes-append (o ∷ os) ps = omega (arith, sizes-append os ps)

sizes-if : (b : Bool) (os : List RawOperation) → all_sizes (cond b os []) ≤ all_sizes os
sizes-if true os = omega (arith)
sizes-if false os = omega (arith)

-- what the initialisation and the operations among clauses bind
abbrev clauses_count : List RawClause → ℕ
clauses_count cs = count_of (stated Initialisation substitution_in cs) + all_sizes (listed Operations operations_in cs)

clauses-more : (c : RawClause) (cs : List RawClause) → clauses_count (c ∷ cs) ≤ parts_count c.parts + clauses_count cs
clauses-more c cs =
    let stands = cond (is_clause Initialisation c) (substitution_in c.parts) None in
    omega (
      arith,
      count-next stands (stated Initialisation substitution_in cs),
      count-if (is_clause Initialisation c) (substitution_in c.parts),
      sizes-append (if_clause Operations operations_in c) (listed Operations operations_in cs),
      sizes-if (is_clause Operations c) (operations_in c.parts),
    )

clauses-bound : (cs : List RawClause) → AtLeast (clauses_count cs) (InRow Clause cs)
clauses-bound [] = any (InRow Clause [])
clauses-bound (c ∷ cs) = λ ts h. omega (arith, joined (behind (parts-at-least c.word c.parts)) (clauses-bound cs) ts h, clauses-more c cs)

initialisation-count : (c : Component) → binder_count (initialisation c) ≡ count_of c.init
initialisation-count c = given c.init
  where
    given : (init : Option SubTree) → binder_count (initialisation (record c { init = init })) ≡ count_of init
    given None = refl
    given (Some s) = refl

-- a component's substitutions bind, and its operations have outputs, at most as many as it has tokens
pub component-bound : (c : RawComponent) (tokens : List Token) → SpellsComponent c tokens → bound_in (component_of c) ≤ length tokens
component-bound c tokens h = omega (arith, before (behind (clauses-bound c.clauses)) tokens h.written, initialisation-count (component_of c))

-- ---- scripts
one-typed : (x : RawTyped) → AtLeast 1 (TypedName x)
one-typed x = before (λ ts h. omega (arith, ap length h.1))

-- names with their types have as many tokens
typed-bound : (xs : List RawTyped) → AtLeast (length xs) (Divided COMMA TypedName xs)
typed-bound [] = λ ts h. absurd h
typed-bound (x ∷ []) = one-typed x
typed-bound (x ∷ y ∷ ys) = λ ts h. omega (arith, joined (one-typed x) (behind (typed-bound (y ∷ ys))) ts h)

-- typed names stand where they are asked for alone
typed-part : (k : PartKind) (xs : List RawTyped) → AtLeast (length xs) (Spelled k (part_typed xs))
typed-part typed_names xs = typed-bound xs
typed-part one_number xs = λ ts h. absurd h
typed-part one_term xs = λ ts h. absurd h
typed-part some_terms xs = λ ts h. absurd h
typed-part one_place xs = λ ts h. absurd h
typed-part perhaps_place xs = λ ts h. absurd h
typed-part one_law xs = λ ts h. absurd h
typed-part certificate xs = λ ts h. absurd h

part-bound : (k : PartKind) (p : RulePart) → AtLeast (length (part_names p)) (Spelled k p)
part-bound k (part_typed xs) = typed-part k xs
part-bound k (part_number n) = any (Spelled k (part_number n))
part-bound k (part_term t) = any (Spelled k (part_term t))
part-bound k (part_terms ts) = any (Spelled k (part_terms ts))
part-bound k (part_place p) = any (Spelled k (part_place p))
part-bound k part_no_place = any (Spelled k part_no_place)
part-bound k (part_law name picks) = any (Spelled k (part_law name picks))
part-bound k (part_certificate facts lines) = any (Spelled k (part_certificate facts lines))

parts-bound : (ks : List PartKind) (ps : List RulePart) → AtLeast (length (flat_map part_names ps)) (Ruled ks ps)
parts-bound ks [] = any (Ruled ks [])
parts-bound [] (p ∷ ps) = λ ts h. absurd h
parts-bound (k ∷ ks) (p ∷ ps) = λ ts h. omega (arith, joined (part-bound k p) (parts-bound ks ps) ts h, length-append (part_names p) (flat_map part_names ps))

rule-bound : (r : RawRule) → AtLeast (length (rule_names r)) (Rule r)
rule-bound r = behind (parts-bound (shape_of r.word) r.parts)

-- rules bring at most as many names as they have tokens
rules-bound : (rs : List RawRule) → AtLeast (length (flat_map rule_names rs)) (AnyDivided SEMICOLON Rule rs)
rules-bound [] = any (AnyDivided SEMICOLON Rule [])
rules-bound (r ∷ []) = λ ts h. omega (arith, rule-bound r ts h, length-append (rule_names r) [])
rules-bound (r ∷ q ∷ qs) = λ ts h. omega (arith, joined (rule-bound r) (behind (rules-bound (q ∷ qs))) ts h, length-append (rule_names r) (flat_map rule_names (q ∷ qs)))

-- so does a script
pub script-bound : (s : RawScript) → AtLeast (length (script_names s)) (Scripted s)
script-bound s = before (behind (behind (rules-bound s.rules)))

-- each script of a file of at most so many tokens brings at most so many names
pub names-few : (n : ℕ) (scripts : List RawScript) (tokens : List Token) → length tokens ≤ n → SpellsScripts scripts tokens → All (λ s. length (script_names s) ≤ n) scripts
names-few n [] tokens few h = All-nil (λ s. length (script_names s) ≤ n)
names-few n (s ∷ ss) tokens few h =
    All-cons (λ s. length (script_names s) ≤ n) s ss
    (omega (arith, few, script-bound s h.0 h.3, ap length h.2, length-append h.0 h.1))
    (names-few n ss h.1 (omega (arith, few, ap length h.2, length-append h.0 h.1)) h.4)
