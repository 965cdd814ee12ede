-- Two clauses that are written as the same tokens are the same.
use Rattle.std.proofs.Common.{◌≡◌, ◌⊎◌, inl, inr, ℕ, ◌-◌, true, false, List, [], ◌∷◌, ◌++◌, None, refl, sym, ◌∙◌, ap, subst, arith, get_or, cond}
use Rattle.std.specs.Prelude.{nat_eq}
use Rattle.bk_form.specs.declared.token.Token.{Token}
use Rattle.bk_form.specs.declared.token.TokenKind.{TokenKind}
use Rattle.bk_form.specs.declared.token.TokenKind.TheVariants.{Sign, Word}
use Rattle.bk_ops.specs.declared.sign.TheConstants.{EQUAL, SEMICOLON, OUTPUTS, OPEN_PAREN, CLOSE_PAREN, OPEN_BRACE, CLOSE_BRACE}
use Rattle.bk_ops.specs.declared.word.TheConstants.{IMPORTS}
use Rattle.bk_raw.specs.Grammar.Pieces.{JustAt, JustSign, ◌⌢◌, Divided}
use Rattle.bk_raw.specs.Grammar.Spelling.{Declared, Names, Term}
use Rattle.bk_raw.specs.declared.term.RawName.{RawName}
use Rattle.bk_raw.proofs.Exact.{one_for_its_tokens}
use Rattle.bk_raw.specs.Grammar.SubSpelling.{Sub}
use Rattle.bk_raw.specs.declared.component.ClauseWord.{ClauseWord}
use Rattle.bk_raw.specs.declared.component.ClauseWord.TheVariants.{Sets, Constants, ConcreteConstants, Properties, Variables, AbstractVariables, ConcreteVariables, Invariant, Assertions, Values, Initialisation, Operations, Imports}
use Rattle.bk_raw.specs.Trees.ComponentTree.{RawOperation, ClauseParts, clause_sets, clause_names, clause_term, clause_terms, clause_values, clause_sub, clause_operations, RawClause, word_number}
use Rattle.bk_raw.specs.Grammar.ComponentSpelling.{Elements, Set, Value, Outputs, Inputs, Operation, Parts, Clause}
use Rattle.bk_raw.proofs.Steps.{Piece, stepped, Leads}
use Rattle.bk_raw.proofs.TermRuns.{ends_names, all-names}
use Rattle.bk_raw.proofs.Patterns.{Both, same-token, same-piece, StopsAt, stops-just, stops-last, just-none}
use Rattle.bk_raw.proofs.SubOne.{alone, stops-nothing, one-names, names-cut, one-sub, words-same}
use Rattle.bk_raw.proofs.SubLeads.{lead, lead-behind}
use Rattle.bk_raw.proofs.Lists.{absent-then, One, one-divided}
use Rattle.bk_raw.proofs.ClauseRuns.{ends_clause, ends_division, division-term, set-leads, value-leads, operation-leads, parts-lead}
use Rattle.bk_raw.proofs.Shapes.{regrouped}
use Rattle.bk_raw.specs.Codes.ComponentCodes.{clause_words}

signs-same : (m n : ℕ) → Sign m ≡ Sign n → m ≡ n
signs-same m n e = cc

-- names up to a sign
pub names-to : (op : ℕ) (xs ys : List RawName) (K L : Piece) (ts : List Token) → stepped ends_names 0 true (Sign op) ≡ None → (Names xs ⌢ JustSign op ⌢ K) ts → (Names ys ⌢ JustSign op ⌢ L) ts → (xs ≡ ys) × Both K L
names-to op xs ys K L ts s h k =
    let c = same-piece ends_names (0, false) (0, true) (0, true) (Names xs) (Names ys) (JustSign op ⌢ K) (JustSign op ⌢ L) ts (all-names xs) (all-names ys) (stops-just ends_names 0 true (Sign op) K s) (stops-just ends_names 0 true (Sign op) L s) h k in
    let d = same-token (Sign op) (Sign op) K L c.3.0 c.3.1 c.3.2 in
    (one-names xs ys c.0 c.1 c.2, d.1)

-- ---- sets
one-elements : (xs ys : List RawName) (ts : List Token) → Elements xs ts → Elements ys ts → xs ≡ ys
one-elements [] [] ts h k = refl
one-elements [] (y ∷ ys) ts h k = absurd (just-none (Sign EQUAL) (JustSign OPEN_BRACE ⌢ Names (y ∷ ys) ⌢ JustSign CLOSE_BRACE) (subst (Elements (y ∷ ys)) h k))
one-elements (x ∷ xs) [] ts h k = absurd (just-none (Sign EQUAL) (JustSign OPEN_BRACE ⌢ Names (x ∷ xs) ⌢ JustSign CLOSE_BRACE) (subst (Elements (x ∷ xs)) k h))
one-elements (x ∷ xs) (y ∷ ys) ts h k =
    let N = Names (x ∷ xs) ⌢ JustSign CLOSE_BRACE in
    let M = Names (y ∷ ys) ⌢ JustSign CLOSE_BRACE in
    let a = same-token (Sign EQUAL) (Sign EQUAL) (JustSign OPEN_BRACE ⌢ N) (JustSign OPEN_BRACE ⌢ M) ts h k in
    let b = same-token (Sign OPEN_BRACE) (Sign OPEN_BRACE) N M a.1.0 a.1.1 a.1.2 in
    let c = same-piece ends_names (0, false) (0, true) (0, true) (Names (x ∷ xs)) (Names (y ∷ ys)) (JustSign CLOSE_BRACE) (JustSign CLOSE_BRACE) b.1.0 (all-names (x ∷ xs)) (all-names (y ∷ ys)) (stops-last ends_names 0 true (Sign CLOSE_BRACE) refl) (stops-last ends_names 0 true (Sign CLOSE_BRACE) refl) b.1.1 b.1.2 in
    one-names (x ∷ xs) (y ∷ ys) c.0 c.1 c.2

one-set : One Set
one-set s r ts h k =
    let c = names-cut s.name r.name (Elements s.elements) (Elements r.elements) ts h k in
    let e = one-elements s.elements r.elements c.1.0 c.1.1 c.1.2 in
    λ i. record { name = c.0 i; elements = e i }

one-value : One Value
one-value v w ts h k =
    let c = names-cut v.name w.name (JustSign EQUAL ⌢ Term v.value 0) (JustSign EQUAL ⌢ Term w.value 0) ts h k in
    let d = same-token (Sign EQUAL) (Sign EQUAL) (Term v.value 0) (Term w.value 0) c.1.0 c.1.1 c.1.2 in
    let e = one_for_its_tokens d.1.0 v.value w.value d.1.1 d.1.2 in
    λ i. record { name = c.0 i; value = e i }

-- ---- operations
abbrev Bodied : RawOperation → Piece
Bodied o = JustSign EQUAL ⌢ Sub false o.body 1

abbrev Headed : RawOperation → Piece
Headed o = Declared o.name ⌢ Inputs o.inputs ⌢ Bodied o

-- behind a name without outputs a parenthesis or an equality stands
inputs-led : (x : RawName) (xs : List RawName) (K : Piece) (ts : List Token) → (Declared x ⌢ Inputs xs ⌢ JustSign EQUAL ⌢ K) ts → (lead ts ≡ EQUAL) ⊎ (lead ts ≡ OPEN_PAREN)
inputs-led x [] K ts h = inl (lead-behind (x ∷ []) EQUAL K ts refl (h.0, h.1, h.2, h.3, absent-then (JustSign EQUAL ⌢ K) h.1 h.4))
inputs-led x (y ∷ ys) K ts h =
    inr (lead-behind (x ∷ []) OPEN_PAREN ((Names (y ∷ ys) ⌢ JustSign CLOSE_PAREN) ⌢ JustSign EQUAL ⌢ K) ts refl (h.0, h.1, h.2, h.3, regrouped (JustSign OPEN_PAREN) (Names (y ∷ ys) ⌢ JustSign CLOSE_PAREN) (JustSign EQUAL ⌢ K) h.1 h.4))

no-outputs : (o : RawOperation) (y : RawName) (ys : List RawName) (L : Piece) (ts : List Token) → Headed o ts → (Names (y ∷ ys) ⌢ JustSign OUTPUTS ⌢ L) ts → ⊥
no-outputs o y ys L ts h k = by-cases (inputs-led o.name o.inputs (Sub false o.body 1) ts h)
  where
    here : lead ts ≡ OUTPUTS
    here = lead-behind (y ∷ ys) OUTPUTS L ts refl k

    by-cases : (lead ts ≡ EQUAL) ⊎ (lead ts ≡ OPEN_PAREN) → ⊥
    by-cases (inl e) = omega (arith, here, e)
    by-cases (inr e) = omega (arith, here, e)

outputs-cut : (o p : RawOperation) (xs ys : List RawName) (ts : List Token) → (Outputs xs ⌢ Headed o) ts → (Outputs ys ⌢ Headed p) ts → (xs ≡ ys) × Both (Headed o) (Headed p)
outputs-cut o p [] [] ts h k = (refl, (ts, absent-then (Headed o) ts h, absent-then (Headed p) ts k))
outputs-cut o p [] (y ∷ ys) ts h k = absurd (no-outputs o y ys (Headed p) ts (absent-then (Headed o) ts h) (regrouped (Names (y ∷ ys)) (JustSign OUTPUTS) (Headed p) ts k))
outputs-cut o p (x ∷ xs) [] ts h k = absurd (no-outputs p x xs (Headed o) ts (absent-then (Headed p) ts k) (regrouped (Names (x ∷ xs)) (JustSign OUTPUTS) (Headed o) ts h))
outputs-cut o p (x ∷ xs) (y ∷ ys) ts h k = names-to OUTPUTS (x ∷ xs) (y ∷ ys) (Headed o) (Headed p) ts refl (regrouped (Names (x ∷ xs)) (JustSign OUTPUTS) (Headed o) ts h) (regrouped (Names (y ∷ ys)) (JustSign OUTPUTS) (Headed p) ts k)

equal-paren : Sign EQUAL ≡ Sign OPEN_PAREN → ⊥
equal-paren e = omega (arith, signs-same EQUAL OPEN_PAREN e)

inputs-cut : (o p : RawOperation) (xs ys : List RawName) (ts : List Token) → (Inputs xs ⌢ Bodied o) ts → (Inputs ys ⌢ Bodied p) ts → (xs ≡ ys) × Both (Bodied o) (Bodied p)
inputs-cut o p [] [] ts h k = (refl, (ts, absent-then (Bodied o) ts h, absent-then (Bodied p) ts k))
inputs-cut o p [] (y ∷ ys) ts h k =
    absurd (equal-paren (same-token (Sign EQUAL) (Sign OPEN_PAREN) (Sub false o.body 1) ((Names (y ∷ ys) ⌢ JustSign CLOSE_PAREN) ⌢ Bodied p) ts (absent-then (Bodied o) ts h) (regrouped (JustSign OPEN_PAREN) (Names (y ∷ ys) ⌢ JustSign CLOSE_PAREN) (Bodied p) ts k)).0)
inputs-cut o p (x ∷ xs) [] ts h k =
    absurd (equal-paren (same-token (Sign EQUAL) (Sign OPEN_PAREN) (Sub false p.body 1) ((Names (x ∷ xs) ⌢ JustSign CLOSE_PAREN) ⌢ Bodied o) ts (absent-then (Bodied p) ts k) (regrouped (JustSign OPEN_PAREN) (Names (x ∷ xs) ⌢ JustSign CLOSE_PAREN) (Bodied o) ts h)).0)
inputs-cut o p (x ∷ xs) (y ∷ ys) ts h k =
    let N = Names (x ∷ xs) in
    let M = Names (y ∷ ys) in
    let a = same-token (Sign OPEN_PAREN) (Sign OPEN_PAREN) ((N ⌢ JustSign CLOSE_PAREN) ⌢ Bodied o) ((M ⌢ JustSign CLOSE_PAREN) ⌢ Bodied p) ts (regrouped (JustSign OPEN_PAREN) (N ⌢ JustSign CLOSE_PAREN) (Bodied o) ts h) (regrouped (JustSign OPEN_PAREN) (M ⌢ JustSign CLOSE_PAREN) (Bodied p) ts k) in
    names-to CLOSE_PAREN (x ∷ xs) (y ∷ ys) (Bodied o) (Bodied p) a.1.0 refl (regrouped N (JustSign CLOSE_PAREN) (Bodied o) a.1.0 a.1.1) (regrouped M (JustSign CLOSE_PAREN) (Bodied p) a.1.0 a.1.2)

one-operation : One Operation
one-operation o p ts h k =
    let a = outputs-cut o p o.outputs p.outputs ts h k in
    let b = names-cut o.name p.name (Inputs o.inputs ⌢ Bodied o) (Inputs p.inputs ⌢ Bodied p) a.1.0 a.1.1 a.1.2 in
    let c = inputs-cut o p o.inputs p.inputs b.1.0 b.1.1 b.1.2 in
    let d = same-token (Sign EQUAL) (Sign EQUAL) (Sub false o.body 1) (Sub false p.body 1) c.1.0 c.1.1 c.1.2 in
    let e = one-sub false o.body 1 p.body d.1.0 d.1.1 d.1.2 in
    λ i. record { outputs = a.0 i; name = b.0 i; inputs = c.0 i; body = e i }

-- ---- clauses
many : {A : Type 0} (W : A → Piece) → ((x : A) → Leads ends_division (0, false) (0, true) (W x)) → One W → One (Divided SEMICOLON W)
many W f o = one-divided SEMICOLON W ends_division f refl o

pub one-parts : (w : ClauseWord) (p q : ClauseParts) (ts : List Token) → Parts w p ts → Parts w q ts → p ≡ q
one-parts Sets (clause_sets ss) (clause_sets rs) ts h k = ap clause_sets (many Set set-leads one-set ss rs ts h k)
one-parts Sets (clause_sets ss) _ ts h k = absurd k
one-parts Constants (clause_names xs) (clause_names ys) ts h k = ap clause_names (one-names xs ys ts h k)
one-parts Constants (clause_names xs) _ ts h k = absurd k
one-parts ConcreteConstants (clause_names xs) (clause_names ys) ts h k = ap clause_names (one-names xs ys ts h k)
one-parts ConcreteConstants (clause_names xs) _ ts h k = absurd k
one-parts Properties (clause_term t) (clause_term u) ts h k = ap clause_term (one_for_its_tokens ts t u h k)
one-parts Properties (clause_term t) _ ts h k = absurd k
one-parts Variables (clause_names xs) (clause_names ys) ts h k = ap clause_names (one-names xs ys ts h k)
one-parts Variables (clause_names xs) _ ts h k = absurd k
one-parts AbstractVariables (clause_names xs) (clause_names ys) ts h k = ap clause_names (one-names xs ys ts h k)
one-parts AbstractVariables (clause_names xs) _ ts h k = absurd k
one-parts ConcreteVariables (clause_names xs) (clause_names ys) ts h k = ap clause_names (one-names xs ys ts h k)
one-parts ConcreteVariables (clause_names xs) _ ts h k = absurd k
one-parts Invariant (clause_term t) (clause_term u) ts h k = ap clause_term (one_for_its_tokens ts t u h k)
one-parts Invariant (clause_term t) _ ts h k = absurd k
one-parts Assertions (clause_terms us) (clause_terms vs) ts h k = ap clause_terms (many (λ t. Term t 0) division-term (λ t u ss p q. one_for_its_tokens ss t u p q) us vs ts h k)
one-parts Assertions (clause_terms us) _ ts h k = absurd k
one-parts Values (clause_values vs) (clause_values ws) ts h k = ap clause_values (many Value value-leads one-value vs ws ts h k)
one-parts Values (clause_values vs) _ ts h k = absurd k
one-parts Initialisation (clause_sub s) (clause_sub t) ts h k = ap clause_sub (one-sub false s 0 t ts h k)
one-parts Initialisation (clause_sub s) _ ts h k = absurd k
one-parts Operations (clause_operations os) (clause_operations ps) ts h k = ap clause_operations (many Operation operation-leads one-operation os ps ts h k)
one-parts Operations (clause_operations os) _ ts h k = absurd k
one-parts Imports (clause_names xs) (clause_names ys) ts h k = ap clause_names (one-names xs ys ts h k)
one-parts Imports (clause_names xs) _ ts h k = absurd k
one-parts _ _ _ ts h k = absurd h

-- ---- words
abbrev word_back : ℕ → ClauseWord
word_back n = cond (nat_eq n IMPORTS) Imports (get_or clause_words (n - 61) Sets)

word-again : (w : ClauseWord) → word_back (word_number w) ≡ w
word-again Sets = refl
word-again _ = refl

pub word-same : (w v : ClauseWord) → Word (word_number w) ≡ Word (word_number v) → w ≡ v
word-same w v e = sym (word-again w) ∙ ap word_back (words-same (word_number w) (word_number v) e) ∙ word-again v

-- a token at a byte
pub record FirstAt (at : ℕ) (kind : TokenKind) (K : Piece) (ts : List Token) : Type 0 where
  pub token : Token
  pub rest : List Token
  pub is : ts ≡ token ∷ rest
  pub same : token.kind ≡ kind
  pub place : token.start ≡ at
  pub back : K rest

pub first-at : (at : ℕ) (kind : TokenKind) (K : Piece) (ts : List Token) → (JustAt at kind ⌢ K) ts → FirstAt at kind K ts
first-at at kind K ts h = record { token = h.3.0; rest = h.1; is = h.2 ∙ ap (λ f. f ++ h.1) h.3.1; same = h.3.2; place = h.3.3; back = h.4 }

pub same-at : (at bt : ℕ) (one other : TokenKind) (K L : Piece) (ts : List Token) → (JustAt at one ⌢ K) ts → (JustAt bt other ⌢ L) ts → (at ≡ bt) × (one ≡ other) × Both K L
same-at at bt one other K L ts h k =
    let f = first-at at one K ts h in
    let g = first-at bt other L ts k in
    let e : f.token ∷ f.rest ≡ g.token ∷ g.rest = sym f.is ∙ g.is in
    let same : f.token ≡ g.token = cc in
    let after : g.rest ≡ f.rest = cc in
    (sym f.place ∙ ap (λ t. t.start) same ∙ g.place, sym f.same ∙ ap (λ t. t.kind) same ∙ g.same, (f.rest, f.back, subst L after g.back))

pub clause-cut : (c d : RawClause) (K L : Piece) (ts : List Token) → StopsAt ends_clause (0, true) K → StopsAt ends_clause (0, true) L → (Clause c ⌢ K) ts → (Clause d ⌢ L) ts → (c ≡ d) × Both K L
clause-cut c d K L ts sk sl h k =
    let a = same-at c.at d.at (Word (word_number c.word)) (Word (word_number d.word)) (Parts c.word c.parts ⌢ K) (Parts d.word d.parts ⌢ L) ts (regrouped (JustAt c.at (Word (word_number c.word))) (Parts c.word c.parts) K ts h) (regrouped (JustAt d.at (Word (word_number d.word))) (Parts d.word d.parts) L ts k) in
    let w = word-same c.word d.word a.1 in
    let b = same-piece ends_clause (0, false) (0, true) (0, true) (Parts c.word c.parts) (Parts d.word d.parts) K L a.2.0 (parts-lead c.word c.parts) (parts-lead d.word d.parts) sk sl a.2.1 a.2.2 in
    let p = one-parts c.word c.parts d.parts b.0 b.1 (subst (λ v. Parts v d.parts b.0) (sym w) b.2) in
    ((λ i. record { word = w i; at = a.0 i; parts = p i }), b.3)

pub one-clause : One Clause
one-clause c d ts h k = (clause-cut c d (λ us. us ≡ []) (λ us. us ≡ []) ts (stops-nothing ends_clause (0, true)) (stops-nothing ends_clause (0, true)) (alone (Clause c) ts h) (alone (Clause d) ts k)).0
