-- Two components that are written as the same tokens are the same.
use Rattle.std.proofs.Common.{◌≡◌, ℕ, true, List, [], ◌∷◌, Option, Some, None, refl, sym, ◌∙◌, ap, subst, get_or, ◌-◌}
use Rattle.bk_form.specs.declared.token.Token.{Token}
use Rattle.bk_form.specs.declared.token.TokenKind.TheVariants.{Word}
use Rattle.bk_ops.specs.declared.word.TheConstants.{REFINES, END}
use Rattle.bk_raw.specs.Grammar.Pieces.{JustAt, ◌⌢◌, JustWord, InRow}
use Rattle.bk_raw.specs.Grammar.Spelling.{Declared}
use Rattle.bk_raw.specs.declared.term.RawName.{RawName}
use Rattle.bk_raw.specs.declared.component.ComponentKind.{ComponentKind}
use Rattle.bk_raw.specs.declared.component.ComponentKind.TheVariants.{Machine, Refinement, Implementation}
use Rattle.bk_raw.specs.declared.component.ClauseWord.{ClauseWord}
use Rattle.bk_raw.specs.declared.component.ClauseWord.TheVariants.{Sets}
use Rattle.bk_raw.specs.Trees.ComponentTree.{RawClause, RawComponent, kind_number, word_number}
use Rattle.bk_raw.specs.Grammar.ComponentSpelling.{Parts, Clause, Refined, Header, SpellsComponent}
use Rattle.bk_raw.proofs.Runs.{Halts}
use Rattle.bk_raw.proofs.Steps.{Piece, step, stepped}
use Rattle.bk_raw.proofs.Patterns.{Both, same-token, StopsAt, last, first}
use Rattle.bk_raw.proofs.SubOne.{names-cut, words-same}
use Rattle.bk_raw.proofs.TermRuns.{begins_clause}
use Rattle.bk_raw.proofs.Lists.{absent-then}
use Rattle.bk_raw.proofs.ClauseRuns.{ends_clause}
use Rattle.bk_raw.proofs.ClauseOne.{FirstAt, first-at, same-at, clause-cut}
use Rattle.bk_raw.proofs.Shapes.{regrouped}
use Rattle.bk_raw.specs.Codes.ComponentCodes.{component_kinds}

-- ---- what closes the clauses
abbrev pub IsClosed : List Token → Type 0
IsClosed [] = Unit {0}
IsClosed (t ∷ ts) = t.kind ≡ Word END

abbrev pub Closes : Piece → Type 0
Closes E = (ts : List Token) → E ts → IsClosed ts

closed-halts : (ts : List Token) → IsClosed ts → Halts (step ends_clause) (0, true) ts
closed-halts [] h = tt
closed-halts (t ∷ ts) h = ap (stepped ends_clause 0 true) h

word-halts : (w : ClauseWord) → stepped ends_clause 0 true (Word (word_number w)) ≡ None
word-halts Sets = refl
word-halts _ = refl

word-low : (w : ClauseWord) → begins_clause (word_number w) ≡ true
word-low Sets = refl
word-low _ = refl

no-end : (n : ℕ) → n ≡ END → begins_clause n ≡ true → ⊥
no-end n e h = let f : begins_clause END ≡ true = subst (λ m. begins_clause m ≡ true) e h in cc

pub word-end : (w : ClauseWord) → Word (word_number w) ≡ Word END → ⊥
word-end w e = no-end (word_number w) (words-same (word_number w) END e) (word-low w)

-- the first token of a clause
pub clause-first : (c : RawClause) (K : Piece) (ts : List Token) → (Clause c ⌢ K) ts → FirstAt c.at (Word (word_number c.word)) (Parts c.word c.parts ⌢ K) ts
clause-first c K ts h = first-at c.at (Word (word_number c.word)) (Parts c.word c.parts ⌢ K) ts (regrouped (JustAt c.at (Word (word_number c.word))) (Parts c.word c.parts) K ts h)

pub clause-halts : (c : RawClause) (K : Piece) (ts : List Token) → (Clause c ⌢ K) ts → Halts (step ends_clause) (0, true) ts
clause-halts c K ts h =
    let f = clause-first c K ts h in
    subst (Halts (step ends_clause) (0, true)) (sym f.is) (ap (stepped ends_clause 0 true) f.same ∙ word-halts c.word)

pub clause-not-closed : (c : RawClause) (K : Piece) (ts : List Token) → (Clause c ⌢ K) ts → IsClosed ts → ⊥
clause-not-closed c K ts h e =
    let f = clause-first c K ts h in
    let g : f.token.kind ≡ Word END = subst IsClosed f.is e in
    word-end c.word (sym f.same ∙ g)

pub row-halts : (cs : List RawClause) (E : Piece) → Closes E → StopsAt ends_clause (0, true) (InRow Clause cs ⌢ E)
row-halts [] E e ts h = let k = absent-then E ts h in closed-halts ts (e ts k)
row-halts (c ∷ cs) E e ts h = clause-halts c (InRow Clause cs ⌢ E) ts (regrouped (Clause c) (InRow Clause cs) E ts h)

pub row-cut : (cs ds : List RawClause) (E F : Piece) (ts : List Token) → Closes E → Closes F → (InRow Clause cs ⌢ E) ts → (InRow Clause ds ⌢ F) ts → (cs ≡ ds) × Both E F
row-cut [] [] E F ts e f h k = (refl, (ts, absent-then E ts h, absent-then F ts k))
row-cut [] (d ∷ ds) E F ts e f h k = absurd (clause-not-closed d (InRow Clause ds ⌢ F) ts (regrouped (Clause d) (InRow Clause ds) F ts k) (e ts (absent-then E ts h)))
row-cut (c ∷ cs) [] E F ts e f h k = absurd (clause-not-closed c (InRow Clause cs ⌢ E) ts (regrouped (Clause c) (InRow Clause cs) E ts h) (f ts (absent-then F ts k)))
row-cut (c ∷ cs) (d ∷ ds) E F ts e f h k =
    let a = clause-cut c d (InRow Clause cs ⌢ E) (InRow Clause ds ⌢ F) ts (row-halts cs E e) (row-halts ds F f) (regrouped (Clause c) (InRow Clause cs) E ts h) (regrouped (Clause d) (InRow Clause ds) F ts k) in
    let b = row-cut cs ds E F a.1.0 e f a.1.1 a.1.2 in
    ((λ i. a.0 i ∷ b.0 i), b.1)

-- ---- headers
abbrev kind_back : ℕ → ComponentKind
kind_back n = get_or component_kinds (n - 57) Machine

kind-again : (k : ComponentKind) → kind_back (kind_number k) ≡ k
kind-again Machine = refl
kind-again _ = refl

kind-same : (k l : ComponentKind) → Word (kind_number k) ≡ Word (kind_number l) → k ≡ l
kind-same k l e = sym (kind-again k) ∙ ap kind_back (words-same (kind_number k) (kind_number l) e) ∙ kind-again l

refines-cut : (x y : RawName) (K L : Piece) (ts : List Token) → ((JustWord REFINES ⌢ Declared x) ⌢ K) ts → ((JustWord REFINES ⌢ Declared y) ⌢ L) ts → (x ≡ y) × Both K L
refines-cut x y K L ts h k =
    let a = same-token (Word REFINES) (Word REFINES) (Declared x ⌢ K) (Declared y ⌢ L) ts (regrouped (JustWord REFINES) (Declared x) K ts h) (regrouped (JustWord REFINES) (Declared y) L ts k) in
    names-cut x y K L a.1.0 a.1.1 a.1.2

some-cut : (x y : RawName) (K L : Piece) (ts : List Token) → ((JustWord REFINES ⌢ Declared x) ⌢ K) ts → ((JustWord REFINES ⌢ Declared y) ⌢ L) ts → (Some x ≡ Some y) × Both K L
some-cut x y K L ts h k = let a = refines-cut x y K L ts h k in (ap Some a.0, a.1)

refined-cut : (kind : ComponentKind) (x y : Option RawName) (K L : Piece) (ts : List Token) → (Refined kind x ⌢ K) ts → (Refined kind y ⌢ L) ts → (x ≡ y) × Both K L
refined-cut Machine None None K L ts h k = (refl, (ts, absent-then K ts h, absent-then L ts k))
refined-cut Machine None (Some y) K L ts h k = absurd k.3
refined-cut Machine (Some x) y K L ts h k = absurd h.3
refined-cut Refinement None y K L ts h k = absurd h.3
refined-cut Refinement (Some x) None K L ts h k = absurd k.3
refined-cut Refinement (Some x) (Some y) K L ts h k = some-cut x y K L ts h k
refined-cut Implementation None y K L ts h k = absurd h.3
refined-cut Implementation (Some x) None K L ts h k = absurd k.3
refined-cut Implementation (Some x) (Some y) K L ts h k = some-cut x y K L ts h k

-- what two headers at one place agree on
pub record SameHeader (c d : RawComponent) (K L : Piece) : Type 0 where
  pub at : c.at ≡ d.at
  pub kind : c.kind ≡ d.kind
  pub name : c.name ≡ d.name
  pub refines : c.refines ≡ d.refines
  pub behind : Both K L

pub header-cut : (c d : RawComponent) (K L : Piece) (ts : List Token) → (Header c ⌢ K) ts → (Header d ⌢ L) ts → SameHeader c d K L
header-cut c d K L ts h k =
    let R = Declared c.name ⌢ Refined c.kind c.refines in
    let S = Declared d.name ⌢ Refined d.kind d.refines in
    let a = same-at c.at d.at (Word (kind_number c.kind)) (Word (kind_number d.kind)) (R ⌢ K) (S ⌢ L) ts (regrouped (JustAt c.at (Word (kind_number c.kind))) R K ts h) (regrouped (JustAt d.at (Word (kind_number d.kind))) S L ts k) in
    let kind = kind-same c.kind d.kind a.1 in
    let b = names-cut c.name d.name (Refined c.kind c.refines ⌢ K) (Refined d.kind d.refines ⌢ L) a.2.0 (regrouped (Declared c.name) (Refined c.kind c.refines) K a.2.0 a.2.1) (regrouped (Declared d.name) (Refined d.kind d.refines) L a.2.0 a.2.2) in
    let r = refined-cut c.kind c.refines d.refines K L b.1.0 b.1.1 (subst (λ x. (Refined x d.refines ⌢ L) b.1.0) (sym kind) b.1.2) in
    record { at = a.0; kind = kind; name = b.0; refines = r.0; behind = r.1 }

end-closes : Closes (JustWord END)
end-closes ts h = let f = first (Word END) (λ us. us ≡ []) ts (last (Word END) ts h) in subst IsClosed (sym f.is) f.same

pub one-component : (ts : List Token) (c d : RawComponent) → SpellsComponent c ts → SpellsComponent d ts → c ≡ d
one-component ts c d h k =
    let a = header-cut c d (InRow Clause c.clauses ⌢ JustWord END) (InRow Clause d.clauses ⌢ JustWord END) ts (regrouped (Header c) (InRow Clause c.clauses) (JustWord END) ts h.written) (regrouped (Header d) (InRow Clause d.clauses) (JustWord END) ts k.written) in
    let b = row-cut c.clauses d.clauses (JustWord END) (JustWord END) a.behind.0 end-closes end-closes a.behind.1 a.behind.2 in
    λ i. record { at = a.at i; kind = a.kind i; name = a.name i; refines = a.refines i; clauses = b.0 i }
