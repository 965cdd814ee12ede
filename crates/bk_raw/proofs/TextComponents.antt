-- Texts of components: what they are written for, and where they are at fault.
use Rattle.std.proofs.Common.{◌≡◌, inr, ◌≤◌, ◌<◌, ◌+◌, ℕ, zero, suc, true, false, List, [], ◌∷◌, ◌++◌, length, take, Option, Some, None, refl, sym, ◌∙◌, ap, subst, arith, append_assoc, append-nil, length-append}
use Rattle.std.specs.Prelude.{◌≢◌, pos, codes, All}
use Rattle.std.proofs.lemmas.List.Elements.{All-nil, All-cons, All-head}
use Rattle.bk_form.specs.declared.token.Token.{Token}
use Rattle.bk_form.specs.declared.token.TokenKind.TheVariants.{Name, Number, Sign, Word}
use Rattle.bk_ops.specs.declared.sign.TheConstants.{SEMICOLON, EQUAL, AND, EQUIVALENT}
use Rattle.bk_ops.specs.declared.word.TheConstants.{MACHINE, PROPERTIES, VARIABLES, ABSTRACT_VARIABLES, OPERATIONS, END, SKIP, BTRUE}
use Rattle.bk_raw.specs.Grammar.Pieces.{Divided}
use Rattle.bk_raw.specs.Trees.RawTree.{RawTree, raw, raw_name, raw_number, raw_constant, raw_infix}
use Rattle.bk_raw.specs.Grammar.Spelling.{Spells}
use Rattle.bk_raw.specs.Grammar.Reading.{read}
use Rattle.bk_raw.specs.declared.operator.InfixOp.TheVariants.{And, Equal, Equivalent}
use Rattle.bk_raw.specs.declared.operator.Constant.TheVariants.{Btrue}
use Rattle.bk_raw.specs.Trees.Additions.{HasNoAddition, SubHasNoAddition}
use Rattle.bk_raw.specs.Trees.SubTree.{SubTree}
use Rattle.bk_raw.specs.Grammar.SubSpelling.{Sub}
use Rattle.bk_raw.specs.declared.component.ComponentKind.TheVariants.{Machine}
use Rattle.bk_raw.specs.declared.component.ClauseWord.TheVariants.{Properties, Variables, AbstractVariables, Operations}
use Rattle.bk_raw.specs.Trees.ComponentTree.{RawClause, RawComponent, RawOperation, ClauseParts, clause_term, clause_names, clause_operations, word_number, clause_number, is_allowed}
use Rattle.bk_raw.specs.Grammar.ComponentSpelling.{Operation, Parts, Clause, Header, ArePlain, AreClausesOf, SpellsComponent}
use Rattle.bk_raw.specs.Errors.Places.{IsWholeComponent, IsLongestWhole, IsComponentFault, IsComponentFaultAt, CanFollow, AreReadOn}
use Rattle.bk_raw.specs.Grammar.Texts.{token, end_twice, no_end, chained, half_operation, list_body, printed, twice, one_operation, one_operation_tree, skip_at}
use Rattle.bk_raw.proofs.Exact.{reads_alone}
use Rattle.bk_raw.proofs.SoundTerms.{read_spells}
use Rattle.bk_raw.proofs.Longest.{read_is_longest}
use Rattle.bk_raw.proofs.Runs.{Halts, first-step, no-longer, same-split, nil-cons}
use Rattle.bk_raw.proofs.Steps.{State, step, stepped}
use Rattle.bk_raw.proofs.SubRuns.{ends_at, sub-leads}
use Rattle.bk_raw.proofs.ClauseRuns.{ends_division, operation-leads}
use Rattle.bk_raw.proofs.ClauseOne.{word-same, first-at}
use Rattle.bk_raw.proofs.ComponentOne.{IsClosed, word-end, clause-first, clause-not-closed}
use Rattle.bk_raw.proofs.Places.{place-open, place-closed, clause-no-longer}
use Rattle.bk_raw.proofs.Stopping.{none_some, some_same}
use Rattle.bk_raw.proofs.ScriptOne.{first-same}

-- ---- a machine A, and what is read behind its header
abbrev machine_word : Token
machine_word = token 0 7 (Word MACHINE)

abbrev a : Token
a = token 8 9 (Name (codes "A"))

abbrev machine_with : List RawClause → RawComponent
machine_with cs = record { at = 0; kind = Machine; name = record { text = codes "A"; at = 8 }; refines = None; clauses = cs }

header : (cs : List RawClause) → Header (machine_with cs) (machine_word ∷ a ∷ [])
header cs = (machine_word ∷ [], a ∷ [], refl, (machine_word, refl, refl, refl), (a ∷ [], [], refl, (a, refl, refl, refl), refl))

no-clauses : AreClausesOf Machine []
no-clauses = record { allowed = All-nil (λ (c : RawClause). is_allowed Machine c.word ≡ true); plain = All-nil (λ (c : RawClause). ArePlain c.parts); once = tt }

just-one : (c : RawClause) → is_allowed Machine c.word ≡ true → ArePlain c.parts → AreClausesOf Machine (c ∷ [])
just-one c may plain = record {
  allowed = All-cons (λ (d : RawClause). is_allowed Machine d.word ≡ true) c [] may (All-nil (λ (d : RawClause). is_allowed Machine d.word ≡ true));
  plain = All-cons (λ (d : RawClause). ArePlain d.parts) c [] plain (All-nil (λ (d : RawClause). ArePlain d.parts));
  once = (All-nil _, tt);
}

closed-follows-none : (done : List RawClause) (ts : List Token) → IsClosed ts → (d : RawClause) (other : List Token) → CanFollow Machine done d ts other → ⊥
closed-follows-none done ts e d other h = clause-not-closed d (λ us. us ≡ h.0.0) ts (other, h.0.0, h.0.1, h.1, refl) e

pub false-true : false ≡ true → ⊥
false-true e = cc

pub rest-of : (t u : Token) (ts us : List Token) → t ∷ ts ≡ u ∷ us → ts ≡ us
rest-of t u ts us e = cc

pub word-is-no-sign : (m op : ℕ) → Word m ≡ Sign op → ⊥
word-is-no-sign m op e = cc

sign-follows-none : (done : List RawClause) (t : Token) (ts : List Token) (op : ℕ) → t.kind ≡ Sign op → (d : RawClause) (other : List Token) → CanFollow Machine done d (t ∷ ts) other → ⊥
sign-follows-none done t ts op e d other h =
    let f = clause-first d (λ us. us ≡ h.0.0) (t ∷ ts) (other, h.0.0, h.0.1, h.1, refl) in
    word-is-no-sign (word_number d.word) op (sym f.same ∙ ap (λ x. x.kind) (sym (first-same t f.token ts f.rest f.is)) ∙ e)

-- one clause is read, and then none
read-one : (c : RawClause) (front rest : List Token) → Clause c front → is_allowed Machine c.word ≡ true → ArePlain c.parts → ((d : RawClause) (other : List Token) → CanFollow Machine [] d (front ++ rest) other → length other ≤ length front) → ((d : RawClause) (other : List Token) → CanFollow Machine (c ∷ []) d rest other → ⊥) → AreReadOn Machine [] (c ∷ []) (front ++ rest) rest
read-one c front rest written may plain longest none = (front, rest, refl, written, longest, (refl, just-one c may plain, none))

-- a fault before a token
fault-before : (tokens : List Token) (place : ℕ) → IsLongestWhole IsWholeComponent tokens place → place < length tokens → IsComponentFault tokens place
fault-before tokens place l k = record { none = λ c h. omega (arith, k, l.longest tokens [] (sym (append-nil tokens)) (inr (c, inr h))); first = l }

-- the place behind the clauses that are read, where no END stands there
place-behind : (cs : List RawClause) (us rest : List Token) → AreReadOn Machine [] cs us rest → ((t : Token) (ts : List Token) → rest ≡ t ∷ ts → t.kind ≡ Word END → ⊥) → (place : ℕ) → place + length rest ≡ length us + 2 → IsLongestWhole IsWholeComponent (machine_word ∷ a ∷ us) place
place-behind cs us rest read none place at = place-open (machine_with cs) (machine_word ∷ a ∷ us) (machine_word ∷ a ∷ []) us rest refl (header cs) read none place (omega (arith, at))

not-end : (u : Token) (us : List Token) → (u.kind ≡ Word END → ⊥) → (t : Token) (ts : List Token) → u ∷ us ≡ t ∷ ts → t.kind ≡ Word END → ⊥
not-end u us n t ts e k = n (ap (λ x. x.kind) (first-same u t us ts e) ∙ k)

sign-is-no-end : (op : ℕ) → Sign op ≡ Word END → ⊥
sign-is-no-end op e = cc

-- ---- MACHINE A END END
abbrev one_end : List Token
one_end = token 10 13 (Word END) ∷ token 14 17 (Word END) ∷ []

pub second-end : IsComponentFaultAt 17 end_twice 14
second-end = (3, fault-before end_twice 3 (place-closed (machine_with []) end_twice (machine_word ∷ a ∷ []) one_end one_end refl (header []) (refl, no-clauses, closed-follows-none [] one_end refl) (token 10 13 (Word END)) (token 14 17 (Word END) ∷ []) refl refl 3 refl) (omega arith), refl)

-- ---- MACHINE A
-- a component ends with END
ended : (tokens : List Token) (c : RawComponent) → SpellsComponent c tokens → (front : List Token) × (t : Token) × (tokens ≡ front ++ t ∷ []) × (t.kind ≡ Word END)
ended tokens c h = let w = h.written in (w.0, w.4.0, w.2 ∙ ap (λ us. w.0 ++ us) w.4.1, w.4.2)

name-is-no-end : (x : List ℕ) → Name x ≡ Word END → ⊥
name-is-no-end x e = cc

short-none : (front : List Token) (t : Token) → no_end ≡ front ++ t ∷ [] → t.kind ≡ Word END → ⊥
short-none [] t e k = cc
short-none (f ∷ []) t e k = let s : a ≡ t = cc in name-is-no-end (codes "A") (ap (λ x. x.kind) s ∙ k)
short-none (f ∷ g ∷ []) t e k = cc
short-none (f ∷ g ∷ h ∷ front) t e k = cc

pub missing-end : IsComponentFaultAt 9 no_end 9
missing-end = (2, record { none = λ c h. let e = ended no_end c h in short-none e.0 e.1 e.2 e.3; first = place-behind [] [] [] (refl, no-clauses, closed-follows-none [] [] tt) (λ t ts e k. cc) 2 refl }, refl)

-- ---- a clause of one term
properties-term : (p : ClauseParts) (ts : List Token) → Parts Properties p ts → ArePlain p → (u : RawTree) × Spells u ts × HasNoAddition u
properties-term (clause_term u) ts h k = (u, h, k)
properties-term _ ts h k = absurd h

properties-follows : (t : Token) (us : List Token) (d : RawClause) (other : List Token) → t.kind ≡ Word PROPERTIES → CanFollow Machine [] d (t ∷ us) other → (u : RawTree) × (written after : List Token) × (us ≡ written ++ after) × Spells u written × (length other ≡ suc (length written)) × HasNoAddition u
properties-follows t us d other k h =
    let f = first-at d.at (Word (word_number d.word)) (Parts d.word d.parts) other h.1 in
    let e : t ∷ us ≡ f.token ∷ (f.rest ++ h.0.0) = h.0.1 ∙ ap (λ ts. ts ++ h.0.0) f.is in
    let w : d.word ≡ Properties = word-same d.word Properties (sym f.same ∙ ap (λ x. x.kind) (sym (first-same t f.token us (f.rest ++ h.0.0) e)) ∙ k) in
    let q = properties-term d.parts f.rest (subst (λ v. Parts v d.parts f.rest) w f.back) (All-head (λ (c : RawClause). ArePlain c.parts) d [] h.2.plain) in
    (q.0, f.rest, h.0.0, rest-of t f.token us (f.rest ++ h.0.0) e, q.1, ap length f.is, q.2)

-- what is read of these tokens is spelled by them, where nothing is left
pub all-read : (n : ℕ) (ts : List Token) (t : RawTree) → read n 0 ts ≡ Some (t, []) → Spells t ts
all-read n ts t e = let s = read_spells n ts t [] e in subst (Spells t) (sym (s.1 ∙ append-nil s.0)) s.2

abbrev pub equals_one : ℕ → List ℕ → RawTree
equals_one at x = raw at (raw_infix Equal (raw at (raw_name x)) (raw (at + 4) (raw_number (pos 1))))

-- ---- MACHINE A PROPERTIES p = 1 <=> q = 1 & r = 1 END
abbrev both_sides : List Token
both_sides = token 21 22 (Name (codes "p")) ∷ token 23 24 (Sign EQUAL) ∷ token 25 26 (Number (pos 1)) ∷ token 27 30 (Sign EQUIVALENT) ∷ token 31 32 (Name (codes "q")) ∷ token 33 34 (Sign EQUAL) ∷ token 35 36 (Number (pos 1)) ∷ []

abbrev and_more : List Token
and_more = token 37 38 (Sign AND) ∷ token 39 40 (Name (codes "r")) ∷ token 41 42 (Sign EQUAL) ∷ token 43 44 (Number (pos 1)) ∷ token 45 48 (Word END) ∷ []

abbrev properties_word : Token
properties_word = token 10 20 (Word PROPERTIES)

abbrev sides : RawTree
sides = raw 21 (raw_infix Equivalent (equals_one 21 (codes "p")) (equals_one 31 (codes "q")))

abbrev properties_of : RawTree → RawClause
properties_of t = record { word = Properties; at = 10; parts = clause_term t }

properties-written : (t : RawTree) (ts : List Token) → Spells t ts → Clause (properties_of t) (properties_word ∷ ts)
properties-written t ts h = (properties_word ∷ [], ts, refl, (properties_word, refl, refl, refl), h)

chained-longest : (d : RawClause) (other : List Token) → CanFollow Machine [] d (properties_word ∷ both_sides ++ and_more) other → length other ≤ 8
chained-longest d other h =
    let f = properties-follows properties_word (both_sides ++ and_more) d other refl h in
    let l = read_is_longest 12 (both_sides ++ and_more) sides and_more (omega arith) refl f.0 f.1 f.2 f.3 f.4 in
    omega (arith, l, f.5, ap length f.3, length-append f.1 f.2)

chained-read : AreReadOn Machine [] (properties_of sides ∷ []) (properties_word ∷ both_sides ++ and_more) and_more
chained-read = read-one (properties_of sides) (properties_word ∷ both_sides) and_more (properties-written sides both_sides (all-read 12 both_sides sides refl)) refl ((tt, tt, tt), (tt, tt, tt), tt) chained-longest (sign-follows-none (properties_of sides ∷ []) (token 37 38 (Sign AND)) _ AND refl)

pub loose-side : IsComponentFaultAt 48 chained 37
loose-side = (10, fault-before chained 10 (place-behind (properties_of sides ∷ []) (properties_word ∷ both_sides ++ and_more) and_more chained-read (not-end (token 37 38 (Sign AND)) _ (sign-is-no-end AND)) 10 refl) (omega arith), refl)

-- ---- MACHINE A PROPERTIES p = 1 & btrue END
abbrev one_side : List Token
one_side = token 21 22 (Name (codes "p")) ∷ token 23 24 (Sign EQUAL) ∷ token 25 26 (Number (pos 1)) ∷ []

abbrev and_sign : Token
and_sign = token 27 28 (Sign AND)

abbrev true_word : Token
true_word = token 29 34 (Word BTRUE)

abbrev and_true : List Token
and_true = and_sign ∷ true_word ∷ token 35 38 (Word END) ∷ []

abbrev p_is : RawTree
p_is = equals_one 21 (codes "p")

take-front : {A : Type 0} (xs ys : List A) → take (length xs) (xs ++ ys) ≡ xs
take-front [] ys = refl
take-front (x ∷ xs) ys = λ i. x ∷ take-front xs ys i

front-is : {A : Type 0} (n : ℕ) (ts front after : List A) → ts ≡ front ++ after → length front ≡ n → front ≡ take n ts
front-is n ts front after e l = sym (ap (λ us. take n us) e ∙ ap (λ m. take m (front ++ after)) (sym l) ∙ take-front front after)

left-over : (t u : RawTree) (v : Token) (vs : List Token) → ◌≡◌ {A = Option (RawTree × List Token)} (Some (t, v ∷ vs)) (Some (u, [])) → ⊥
left-over t u v vs e = nil-cons v vs (sym (ap (λ (q : RawTree × List Token). q.1) (some_same (t, v ∷ vs) (u, []) e)))

same-tree : (t u : RawTree) → ◌≡◌ {A = Option (RawTree × List Token)} (Some (t, [])) (Some (u, [])) → t ≡ u
same-tree t u e = ap (λ (q : RawTree × List Token). q.0) (some_same (t, []) (u, []) e)

-- a front of these tokens that is a term without additions is no longer than the first side
printed-short : (n : ℕ) (u : RawTree) (front after : List Token) → one_side ++ and_true ≡ front ++ after → length front ≡ n → Spells u front → HasNoAddition u → length front ≤ 3
printed-short zero u front after e l h plain = omega (arith, l)
printed-short (suc zero) u front after e l h plain = omega (arith, l)
printed-short (suc (suc zero)) u front after e l h plain = omega (arith, l)
printed-short (suc (suc (suc zero))) u front after e l h plain = omega (arith, l)
printed-short (suc (suc (suc (suc zero)))) u front after e l h plain =
    let s = subst (Spells u) (front-is 4 (one_side ++ and_true) front after e l) h in
    absurd (left-over p_is u and_sign [] (reads_alone 4 u (one_side ++ and_sign ∷ []) s (omega arith)))
printed-short (suc (suc (suc (suc (suc zero))))) u front after e l h plain =
    let s = subst (Spells u) (front-is 5 (one_side ++ and_true) front after e l) h in
    absurd (subst HasNoAddition (sym (same-tree (raw 21 (raw_infix And p_is (raw 29 (raw_constant Btrue)))) u (reads_alone 5 u (one_side ++ and_sign ∷ true_word ∷ []) s (omega arith)))) plain).1
printed-short (suc (suc (suc (suc (suc (suc n)))))) u front after e l h plain =
    let far = read_is_longest 6 (one_side ++ and_true) (raw 21 (raw_infix And p_is (raw 29 (raw_constant Btrue)))) (token 35 38 (Word END) ∷ []) (omega arith) refl u front after e h in
    absurd (omega (arith, far, l, ap length e, length-append front after))

printed-longest : (d : RawClause) (other : List Token) → CanFollow Machine [] d (properties_word ∷ one_side ++ and_true) other → length other ≤ 4
printed-longest d other h =
    let f = properties-follows properties_word (one_side ++ and_true) d other refl h in
    omega (arith, f.5, printed-short (length f.1) f.0 f.1 f.2 f.3 refl f.4 f.6)

printed-read : AreReadOn Machine [] (properties_of p_is ∷ []) (properties_word ∷ one_side ++ and_true) and_true
printed-read = read-one (properties_of p_is) (properties_word ∷ one_side) and_true (properties-written p_is one_side (all-read 12 one_side p_is refl)) refl (tt, tt, tt) printed-longest (sign-follows-none (properties_of p_is ∷ []) and_sign _ AND refl)

pub addition : IsComponentFaultAt 38 printed 27
addition = (6, fault-before printed 6 (place-behind (properties_of p_is ∷ []) (properties_word ∷ one_side ++ and_true) and_true printed-read (not-end and_sign _ (sign-is-no-end AND)) 6 refl) (omega arith), refl)

-- ---- MACHINE A VARIABLES x ABSTRACT_VARIABLES y END
abbrev variables_word : Token
variables_word = token 10 19 (Word VARIABLES)

abbrev x : Token
x = token 20 21 (Name (codes "x"))

abbrev again_word : Token
again_word = token 22 40 (Word ABSTRACT_VARIABLES)

abbrev again : List Token
again = again_word ∷ token 41 42 (Name (codes "y")) ∷ token 43 46 (Word END) ∷ []

abbrev variables : RawClause
variables = record { word = Variables; at = 10; parts = clause_names (record { text = codes "x"; at = 20 } ∷ []) }

variables-written : Clause variables (variables_word ∷ x ∷ [])
variables-written = (variables_word ∷ [], x ∷ [], refl, (variables_word, refl, refl, refl), (x, refl, refl, refl))

-- a word of a clause stands behind it: no clause goes on there
twice-longest : (d : RawClause) (other : List Token) → CanFollow Machine [] d (variables_word ∷ x ∷ again) other → length other ≤ 2
twice-longest d other h =
    let m = clause-no-longer variables d (variables_word ∷ x ∷ []) again other h.0.0 variables-written h.1 refl h.0.1 in
    omega (arith, ap length m.1, length-append other m.0)

not-again : (d : RawClause) (other : List Token) → CanFollow Machine (variables ∷ []) d again other → ⊥
not-again d other h =
    let f = clause-first d (λ us. us ≡ h.0.0) again (other, h.0.0, h.0.1, h.1, refl) in
    let w : d.word ≡ AbstractVariables = word-same d.word AbstractVariables (sym f.same ∙ ap (λ t. t.kind) (sym (first-same again_word f.token _ f.rest f.is))) in
    let o : All (λ m. clause_number Variables ≢ m) (clause_number d.word ∷ []) = h.2.once.0 in
    All-head (λ m. clause_number Variables ≢ m) (clause_number d.word) [] o (ap clause_number (sym w))

twice-read : AreReadOn Machine [] (variables ∷ []) (variables_word ∷ x ∷ again) again
twice-read = read-one variables (variables_word ∷ x ∷ []) again variables-written refl tt twice-longest not-again

pub clause-twice : IsComponentFaultAt 46 twice 22
clause-twice = (4, fault-before twice 4 (place-behind (variables ∷ []) (variables_word ∷ x ∷ again) again twice-read (not-end again_word _ (word-end AbstractVariables)) 4 refl) (omega arith), refl)

-- ---- MACHINE A OPERATIONS f = skip, and more behind it
abbrev operations_word : Token
operations_word = token 10 20 (Word OPERATIONS)

abbrev f : Token
f = token 21 22 (Name (codes "f"))

abbrev equals : Token
equals = token 23 24 (Sign EQUAL)

abbrev skip : Token
skip = token 25 29 (Word SKIP)

abbrev semicolon : Token
semicolon = token 30 31 (Sign SEMICOLON)

abbrev f_is_skip : List Token
f_is_skip = f ∷ equals ∷ skip ∷ []

abbrev f_operation : RawOperation
f_operation = record { outputs = []; name = record { text = codes "f"; at = 21 }; inputs = []; body = skip_at 25 }

f-written : Operation f_operation f_is_skip
f-written = ([], f_is_skip, refl, refl, (f ∷ [], equals ∷ skip ∷ [], refl, (f, refl, refl, refl), ([], equals ∷ skip ∷ [], refl, refl, (equals ∷ [], skip ∷ [], refl, (equals, refl, refl), (skip, [], refl, refl, (skip, refl, refl))))))

abbrev operations : RawClause
operations = record { word = Operations; at = 10; parts = clause_operations (f_operation ∷ []) }

operations-written : Clause operations (operations_word ∷ f_is_skip)
operations-written = (operations_word ∷ [], f_is_skip, refl, (operations_word, refl, refl, refl), f-written)

operations-parts : (p : ClauseParts) (ts : List Token) → Parts Operations p ts → (os : List RawOperation) × Divided SEMICOLON Operation os ts
operations-parts (clause_operations os) ts h = (os, h)
operations-parts _ ts h = absurd h

operations-follow : (us : List Token) (d : RawClause) (other : List Token) → CanFollow Machine [] d (operations_word ∷ us) other → (os : List RawOperation) × (written after : List Token) × (us ≡ written ++ after) × Divided SEMICOLON Operation os written × (length other ≡ suc (length written))
operations-follow us d other h =
    let g = first-at d.at (Word (word_number d.word)) (Parts d.word d.parts) other h.1 in
    let e : operations_word ∷ us ≡ g.token ∷ (g.rest ++ h.0.0) = h.0.1 ∙ ap (λ ts. ts ++ h.0.0) g.is in
    let w : d.word ≡ Operations = word-same d.word Operations (sym g.same ∙ ap (λ t. t.kind) (sym (first-same operations_word g.token us (g.rest ++ h.0.0) e))) in
    let q = operations-parts d.parts g.rest (subst (λ v. Parts v d.parts g.rest) w g.back) in
    (q.0, g.rest, h.0.0, rest-of operations_word g.token us (g.rest ++ h.0.0) e, q.1, ap length g.is)

-- no operation stands in front of these tokens
abbrev NoOperation : List Token → Type 0
NoOperation more = (o : RawOperation) (b q : List Token) → more ≡ b ++ q → Operation o b → ⊥

first-operation : (p : RawOperation) (ps : List RawOperation) (ts : List Token) → Divided SEMICOLON Operation (p ∷ ps) ts → (b q : List Token) × (ts ≡ b ++ q) × Operation p b
first-operation p [] ts h = (ts, [], sym (append-nil ts), h)
first-operation p (o ∷ ps) ts h = (h.0, h.1, h.2, h.3)

divided-short : (os : List RawOperation) (more written after : List Token) → NoOperation more → f_is_skip ++ semicolon ∷ more ≡ written ++ after → Divided SEMICOLON Operation os written → length written ≤ 3
divided-short [] more written after n e h = absurd h
divided-short (o ∷ []) more written after n e h =
    let m = no-longer (step ends_division) (0, false) (0, true) (0, true) f_is_skip (semicolon ∷ more) written after (operation-leads f_operation f_is_skip f-written) (operation-leads o written h) refl e in
    omega (arith, ap length m.1, length-append written m.0)
divided-short (o ∷ p ∷ ps) more written after n e h =
    let s = h.4.3 in
    let tail : h.1 ++ after ≡ s.0 ∷ (h.4.1 ++ after) = ap (λ ts. ts ++ after) (h.4.2 ∙ ap (λ ts. ts ++ h.4.1) s.1) in
    let halts : Halts (step ends_division) (0, true) (h.1 ++ after) = subst (Halts (step ends_division) (0, true)) (sym tail) (ap (stepped ends_division 0 true) s.2) in
    let c = same-split (step ends_division) (0, false) (0, true) (0, true) f_is_skip (semicolon ∷ more) h.0 (h.1 ++ after) (operation-leads f_operation f_is_skip f-written) (operation-leads o h.0 h.3) refl halts (e ∙ ap (λ ts. ts ++ after) h.2 ∙ append_assoc h.0 h.1 after) in
    let g = first-operation p ps h.4.1 h.4.4 in
    absurd (n p g.0 (g.1 ++ after) (rest-of semicolon s.0 more (h.4.1 ++ after) (c.1 ∙ tail) ∙ ap (λ ts. ts ++ after) g.2 ∙ append_assoc g.0 g.1 after) g.3)

operations-longest : (more : List Token) → NoOperation more → (d : RawClause) (other : List Token) → CanFollow Machine [] d (operations_word ∷ f_is_skip ++ semicolon ∷ more) other → length other ≤ 4
operations-longest more n d other h =
    let g = operations-follow (f_is_skip ++ semicolon ∷ more) d other h in
    omega (arith, g.5, divided-short g.0 more g.1 g.2 n g.3 g.4)

operations-read : (more : List Token) → NoOperation more → AreReadOn Machine [] (operations ∷ []) (operations_word ∷ f_is_skip ++ semicolon ∷ more) (semicolon ∷ more)
operations-read more n = read-one operations (operations_word ∷ f_is_skip) (semicolon ∷ more) operations-written refl (All-cons (λ (o : RawOperation). SubHasNoAddition o.body) f_operation [] tt (All-nil (λ (o : RawOperation). SubHasNoAddition o.body))) (operations-longest more n) (sign-follows-none (operations ∷ []) semicolon more SEMICOLON refl)

-- a sign = and a body stand in an operation
operation-body : (o : RawOperation) (b : List Token) → Operation o b → (u : List Token) × (t : Token) × (s : List Token) × (b ≡ u ++ t ∷ s) × (t.kind ≡ Sign EQUAL) × Sub false o.body 1 s
operation-body o b h =
    let i = h.4 in
    let j = i.4 in
    let k = j.4 in
    (h.0 ++ (i.0 ++ j.0), k.3.0, k.1, h.2 ∙ ap (λ ts. h.0 ++ ts) (i.2 ∙ ap (λ ts. i.0 ++ ts) (j.2 ∙ ap (λ ts. j.0 ++ ts) (k.2 ∙ ap (λ ts. ts ++ k.1) k.3.1))) ∙ sym (append_assoc h.0 (i.0 ++ j.0) (k.3.0 ∷ k.1) ∙ ap (λ ts. h.0 ++ ts) (append_assoc i.0 j.0 (k.3.0 ∷ k.1))), k.3.2, k.4)

-- no substitution stands in front of END
no-body : (s : SubTree) (b q : List Token) (t : Token) → t.kind ≡ Word END → t ∷ [] ≡ b ++ q → Sub false s 1 b → ⊥
no-body s [] q t k e h = false-true (ap (λ (p : State). p.1) (some_same (0, false) (0, true) (sub-leads false s 1 [] h)))
no-body s (u ∷ b) q t k e h =
    let i = first-step (step (ends_at 1)) (0, false) (0, true) u b (sub-leads false s 1 (u ∷ b) h) in
    none_some i.0 (sym (ap (stepped (ends_at 1) 0 false) (ap (λ x. x.kind) (sym (first-same t u [] (b ++ q) e)) ∙ k)) ∙ i.1)

-- ---- MACHINE A OPERATIONS f = skip ; g = END
abbrev g : Token
g = token 32 33 (Name (codes "g"))

abbrev equals_again : Token
equals_again = token 34 35 (Sign EQUAL)

abbrev last_end : Token
last_end = token 36 39 (Word END)

pub name-is-no-sign : (x : List ℕ) (op : ℕ) → Name x ≡ Sign op → ⊥
name-is-no-sign x op e = cc

half-none : NoOperation (g ∷ equals_again ∷ last_end ∷ [])
half-none o b q e h = let c = operation-body o b h in by-front c.0 c.1 c.2 (e ∙ ap (λ ts. ts ++ q) c.3 ∙ append_assoc c.0 (c.1 ∷ c.2) q) c.4 c.5
  where
    by-front : (u : List Token) (t : Token) (s : List Token) → g ∷ equals_again ∷ last_end ∷ [] ≡ u ++ ((t ∷ s) ++ q) → t.kind ≡ Sign EQUAL → Sub false o.body 1 s → ⊥
    by-front [] t s e k h = name-is-no-sign (codes "g") EQUAL (ap (λ x. x.kind) (first-same g t _ (s ++ q) e) ∙ k)
    by-front (x ∷ []) t s e k h = no-body o.body s q last_end refl (rest-of equals_again t (last_end ∷ []) (s ++ q) (rest-of g x _ (t ∷ (s ++ q)) e)) h
    by-front (x ∷ y ∷ []) t s e k h = word-is-no-sign END EQUAL (ap (λ x. x.kind) (first-same last_end t [] (s ++ q) (rest-of equals_again y _ (t ∷ (s ++ q)) (rest-of g x _ (y ∷ t ∷ (s ++ q)) e))) ∙ k)
    by-front (x ∷ y ∷ z ∷ []) t s e k h = nil-cons t (s ++ q) (rest-of last_end z [] (t ∷ (s ++ q)) (rest-of equals_again y _ (z ∷ t ∷ (s ++ q)) (rest-of g x _ (y ∷ z ∷ t ∷ (s ++ q)) e)))
    by-front (x ∷ y ∷ z ∷ w ∷ u) t s e k h = nil-cons w (u ++ ((t ∷ s) ++ q)) (rest-of last_end z [] (w ∷ (u ++ ((t ∷ s) ++ q))) (rest-of equals_again y _ (z ∷ w ∷ (u ++ ((t ∷ s) ++ q))) (rest-of g x _ (y ∷ z ∷ w ∷ (u ++ ((t ∷ s) ++ q))) e)))

pub missing-body : IsComponentFaultAt 39 half_operation 30
missing-body = (6, fault-before half_operation 6 (place-behind (operations ∷ []) (operations_word ∷ f_is_skip ++ semicolon ∷ g ∷ equals_again ∷ last_end ∷ []) _ (operations-read _ half-none) (not-end semicolon _ (sign-is-no-end SEMICOLON)) 6 refl) (omega arith), refl)

-- ---- MACHINE A OPERATIONS f = skip ; skip END
abbrev skip_again : Token
skip_again = token 32 36 (Word SKIP)

abbrev end_there : Token
end_there = token 37 40 (Word END)

list-none : NoOperation (skip_again ∷ end_there ∷ [])
list-none o b q e h = let c = operation-body o b h in by-front c.0 c.1 c.2 (e ∙ ap (λ ts. ts ++ q) c.3 ∙ append_assoc c.0 (c.1 ∷ c.2) q) c.4
  where
    by-front : (u : List Token) (t : Token) (s : List Token) → skip_again ∷ end_there ∷ [] ≡ u ++ ((t ∷ s) ++ q) → t.kind ≡ Sign EQUAL → ⊥
    by-front [] t s e k = word-is-no-sign SKIP EQUAL (ap (λ x. x.kind) (first-same skip_again t _ (s ++ q) e) ∙ k)
    by-front (x ∷ []) t s e k = word-is-no-sign END EQUAL (ap (λ x. x.kind) (first-same end_there t [] (s ++ q) (rest-of skip_again x _ (t ∷ (s ++ q)) e)) ∙ k)
    by-front (x ∷ y ∷ []) t s e k = nil-cons t (s ++ q) (rest-of end_there y [] (t ∷ (s ++ q)) (rest-of skip_again x _ (y ∷ t ∷ (s ++ q)) e))
    by-front (x ∷ y ∷ z ∷ u) t s e k = nil-cons z (u ++ ((t ∷ s) ++ q)) (rest-of end_there y [] (z ∷ (u ++ ((t ∷ s) ++ q))) (rest-of skip_again x _ (y ∷ z ∷ (u ++ ((t ∷ s) ++ q))) e))

pub body-is-no-list : IsComponentFaultAt 40 list_body 30
body-is-no-list = (6, fault-before list_body 6 (place-behind (operations ∷ []) (operations_word ∷ f_is_skip ++ semicolon ∷ skip_again ∷ end_there ∷ []) _ (operations-read _ list-none) (not-end semicolon _ (sign-is-no-end SEMICOLON)) 6 refl) (omega arith), refl)

-- ---- MACHINE A OPERATIONS f = skip END
abbrev end_behind : Token
end_behind = token 30 33 (Word END)

pub operation : SpellsComponent one_operation_tree one_operation
operation = record {
  written = (machine_word ∷ a ∷ operations_word ∷ f_is_skip, end_behind ∷ [], refl, (machine_word ∷ a ∷ [], operations_word ∷ f_is_skip, refl, header (operations ∷ []), (operations_word ∷ f_is_skip, [], refl, operations-written, refl)), (end_behind, refl, refl));
  made = just-one operations refl (All-cons (λ (o : RawOperation). SubHasNoAddition o.body) f_operation [] tt (All-nil (λ (o : RawOperation). SubHasNoAddition o.body)));
}
