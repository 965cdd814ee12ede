-- The next clause, and the clauses that are read.
use Rattle.std.specs.Prelude.{◌≡◌, ◌≢◌, ℕ, ◌<◌, ◌≤◌, Bool, true, false, List, [], ◌∷◌, ◌++◌, All, Contains, map, refl}
use Rattle.std.proofs.Common.{arith, sym, ◌∙◌, ap, subst, append_assoc, append-nil}
use Rattle.std.proofs.lemmas.List.Elements.{All-contains, All-from_get_or}
use Rattle.bk_limits.specs.declared.TheConstants.{GREATEST_TREE_HEIGHT}
use Rattle.bk_form.specs.declared.token.Token.{Token}
use Rattle.bk_form.specs.declared.token.TokenKind.TheVariants.{Word}
use Rattle.bk_raw.specs.Grammar.ComponentSpelling.{Clause, Parts}
use Rattle.bk_raw.specs.Trees.ComponentTree.{ClauseParts, RawClause, clause_number, is_allowed, parts_height, word_number}
use Rattle.bk_raw.specs.Codes.ComponentView.{parts_of}
use Rattle.bk_raw.specs.declared.component.ClauseParts.{ClauseParts as KeptParts}
use Rattle.bk_raw.specs.declared.component.ClauseWord.{ClauseWord}
use Rattle.bk_raw.specs.declared.component.ComponentKind.{ComponentKind}
use Rattle.bk_raw.proofs.ClauseOne.{first-at, word-same}
use Rattle.bk_p_expr.specs.Fronts.{Longest, Nothing}
use Rattle.bk_p_comp.specs.Clauses.{AreDone, AreKeptUnless, CompleteFollow, IsFound, ReadOn, clauses_height}
use Rattle.bk_p_comp.specs.Parts.{AreKept, Standing}
use Rattle.bk_p_comp.specs.declared.clause.Done.{Done}
use Rattle.bk_p_comp.specs.declared.clause.Next.{Next as Found}
use Rattle.bk_p_comp.specs.declared.parts.Behind.TheVariants.{Built, High}
use Rattle.bk_p_comp.proofs.Following.{numbers_last}
use Rattle.bk_p_comp.proofs.Standings.{high_last, high_more, low_more}

true_false : true ≡ false → ⊥
true_false e = cc

-- ---- the next clause
-- a clause in front of tokens: its word is the first one, and its parts stand behind that
record ClauseThere (t : Token) (behind after : List Token) (c : RawClause) : Type 0 where
  same : t.kind ≡ Word (word_number c.word)
  place : t.start ≡ c.at
  parts : List Token
  splits : behind ≡ parts ++ after
  written : Parts c.word c.parts parts

clause_there : (tokens behind front after : List Token) (t : Token) (c : RawClause) → tokens ≡ t ∷ behind → tokens ≡ front ++ after → Clause c front → ClauseThere t behind after c
clause_there tokens behind front after t c e f h =
    let g = first-at c.at (Word (word_number c.word)) (Parts c.word c.parts) front h in
    let both : t ∷ behind ≡ g.token ∷ (g.rest ++ after) = sym e ∙ f ∙ ap (λ us. us ++ after) g.is in
    let token : t ≡ g.token = cc in
    let rest : behind ≡ g.rest ++ after = cc in
    record { same = ap (λ u. u.kind) token ∙ g.same; place = ap (λ u. u.start) token ∙ g.place; parts = g.rest; splits = rest; written = g.back }

pub follow_in_none : (kind : ComponentKind) (done : List RawClause) (tokens : List Token) → tokens ≡ [] → Nothing (CompleteFollow kind done) tokens
follow_in_none kind done tokens e c front after f h =
    let g = first-at c.at (Word (word_number c.word)) (Parts c.word c.parts) front h.0 in
    let both : [] ≡ g.token ∷ (g.rest ++ after) = sym e ∙ f ∙ ap (λ us. us ++ after) g.is in
    cc

pub follow_no_word : (kind : ComponentKind) (done : List RawClause) (tokens behind : List Token) (t : Token) → tokens ≡ t ∷ behind → ((w : ClauseWord) → Word (word_number w) ≢ t.kind) → Nothing (CompleteFollow kind done) tokens
follow_no_word kind done tokens behind t e n c front after f h = n c.word (sym (clause_there tokens behind front after t c e f h.0).same)

-- the word of a clause in front is the one that is there
word_there : (tokens behind front after : List Token) (t : Token) (w : ClauseWord) (c : RawClause) → tokens ≡ t ∷ behind → Word (word_number w) ≡ t.kind → tokens ≡ front ++ after → Clause c front → c.word ≡ w
word_there tokens behind front after t w c e k f h = word-same c.word w (sym (clause_there tokens behind front after t c e f h).same ∙ sym k)

pub follow_not_allowed : (kind : ComponentKind) (done : List RawClause) (tokens behind : List Token) (t : Token) (w : ClauseWord) → tokens ≡ t ∷ behind → Word (word_number w) ≡ t.kind → is_allowed kind w ≡ false → Nothing (CompleteFollow kind done) tokens
follow_not_allowed kind done tokens behind t w e k n c front after f h = absurd (true_false (sym h.1 ∙ ap (is_allowed kind) (word_there tokens behind front after t w c e k f h.0) ∙ n))

pub follow_twice : (kind : ComponentKind) (done : List RawClause) (tokens behind : List Token) (t : Token) (w : ClauseWord) → tokens ≡ t ∷ behind → Word (word_number w) ≡ t.kind → Contains (map (λ d. clause_number d.word) done) (clause_number w) → Nothing (CompleteFollow kind done) tokens
follow_twice kind done tokens behind t w e k m c front after f h = All-contains (λ n. clause_number c.word ≢ n) (map (λ d. clause_number d.word) done) (clause_number w) h.3 m (ap clause_number (word_there tokens behind front after t w c e k f h.0))

pub not_among : (ns : List ℕ) (n : ℕ) → (Contains ns n → ⊥) → All (λ m. n ≢ m) ns
not_among ns n f = All-from_get_or (λ m. n ≢ m) ns n (λ i l e. f (i, l, sym e))

standing_there : (kind : ComponentKind) (done : List RawClause) (tokens behind front after : List Token) (t : Token) (w : ClauseWord) (c : RawClause) → tokens ≡ t ∷ behind → Word (word_number w) ≡ t.kind → tokens ≡ front ++ after → CompleteFollow kind done c front → (ts : List Token) × (behind ≡ ts ++ after) × Standing w c.parts ts
standing_there kind done tokens behind front after t w c e k f h =
    let p = clause_there tokens behind front after t c e f h.0 in
    (p.parts, p.splits, (subst (λ v. Parts v c.parts p.parts) (word_there tokens behind front after t w c e k f h.0) p.written, h.2))

pub follow_no_parts : (kind : ComponentKind) (done : List RawClause) (tokens behind : List Token) (t : Token) (w : ClauseWord) → tokens ≡ t ∷ behind → Word (word_number w) ≡ t.kind → Nothing (Standing w) behind → Nothing (CompleteFollow kind done) tokens
follow_no_parts kind done tokens behind t w e k n c front after f h =
    let s : (ts : List Token) × (behind ≡ ts ++ after) × Standing w c.parts ts = standing_there kind done tokens behind front after t w c e k f h in
    n c.parts s.0 after s.1 s.2

abbrev clause_of : ClauseWord → ℕ → ClauseParts → RawClause
clause_of w at p = record { word = w; at = at; parts = p }

pub follow_found : (kind : ComponentKind) (done : List RawClause) (tokens behind rest : List Token) (t : Token) (w : ClauseWord) (p : ClauseParts) → tokens ≡ t ∷ behind → Word (word_number w) ≡ t.kind → is_allowed kind w ≡ true → All (λ n. clause_number w ≢ n) (map (λ d. clause_number d.word) done) → Longest (Standing w) behind p rest → Longest (CompleteFollow kind done) tokens (record { word = w; at = t.start; parts = p }) rest
follow_found kind done tokens behind rest t w p e k a n h = record {
  written = t ∷ h.written;
  splits = e ∙ ap (λ us. t ∷ us) h.splits;
  spelled = ((t ∷ [], h.written, refl, (t, refl, sym k, refl), h.spelled.0), a, h.spelled.1, n);
  longest = λ c front after f g.
      let s : (ts : List Token) × (behind ≡ ts ++ after) × Standing w c.parts ts = standing_there kind done tokens behind front after t w c e k f g in
      h.longest c.parts s.0 after s.1 s.2;
}

-- ---- the clauses that are kept
abbrev height_of : RawClause → ℕ
height_of c = parts_height c.parts

kept_more : (b : Bool) (kept new cs : List RawClause) (c d : RawClause) → AreKeptUnless b kept cs → new ≡ kept ++ d ∷ [] → d ≡ c → height_of c ≤ GREATEST_TREE_HEIGHT → AreKeptUnless b new (cs ++ c ∷ [])
kept_more false kept new cs c d h e f l = (e ∙ (λ i. h.0 i ++ f i ∷ []), low_more height_of cs c h.1 l)
kept_more true kept new cs c d h e f l = high_more height_of cs c h

pub numbers_more : (cs : List RawClause) (c : RawClause) (before numbers : List ℕ) (f : Found) → before ≡ map (λ c. clause_number c.word) cs → IsFound c f → numbers ≡ before ++ clause_number f.word ∷ [] → numbers ≡ map (λ c. clause_number c.word) (cs ++ c ∷ [])
numbers_more cs c before numbers f a k e = e ∙ (λ i. a i ++ clause_number (k.0 i) ∷ []) ∙ sym (numbers_last cs c)

pub kept_built : (cs : List RawClause) (c : RawClause) (b : Bool) (kept new : List RawClause) (f : Found) (parts : KeptParts) → AreKeptUnless b kept cs → IsFound c f → f.parts ≡ Built parts → new ≡ kept ++ record { word = f.word; at = f.at; parts = parts_of parts } ∷ [] → AreKeptUnless b new (cs ++ c ∷ [])
kept_built cs c b kept new f parts a k p e =
    let q : (parts_of parts ≡ c.parts) × (parts_height c.parts ≤ GREATEST_TREE_HEIGHT) = subst (λ x. AreKept c.parts x) p k.2 in
    let same : clause_of f.word f.at (parts_of parts) ≡ c = λ i. clause_of (k.0 i) (k.1 i) (q.0 i) in
    kept_more b kept new cs c (clause_of f.word f.at (parts_of parts)) a e same q.1

pub kept_high : (cs : List RawClause) (c : RawClause) (f : Found) → IsFound c f → f.parts ≡ High → GREATEST_TREE_HEIGHT < clauses_height (cs ++ c ∷ [])
kept_high cs c f k p =
    let q : GREATEST_TREE_HEIGHT < parts_height c.parts = subst (λ x. AreKept c.parts x) p k.2 in
    high_last height_of cs c q

-- ---- one clause after another
-- as far as clauses are read
pub record ClausesSoFar (kind : ComponentKind) (tokens : List Token) (done : Done) (rest : List Token) : Type 0 where
  pub clauses : List RawClause
  pub are : AreDone clauses done
  pub on : (more : List RawClause) (end : List Token) → ReadOn kind clauses more rest end → ReadOn kind [] (clauses ++ more) tokens end

pub clauses_begin : (kind : ComponentKind) (tokens : List Token) (done : Done) → done.numbers.items ≡ [] → done.clauses.items ≡ [] → done.is_high ≡ false → ClausesSoFar kind tokens done tokens
clauses_begin kind tokens done n k b = record {
  clauses = [];
  are = (n, subst (λ x. AreKeptUnless x done.clauses.items []) (sym b) (k, omega arith));
  on = λ more end h. h;
}

pub clauses_go_on : (kind : ComponentKind) (tokens ts rest : List Token) (done new : Done) (next : Found) → (s : ClausesSoFar kind tokens done ts) → (c : RawClause) × Longest (CompleteFollow kind s.clauses) ts c rest × IsFound c next → ((cs : List RawClause) (c : RawClause) → AreDone cs done → IsFound c next → AreDone (cs ++ c ∷ []) new) → ClausesSoFar kind tokens new rest
clauses_go_on kind tokens ts rest done new next s h f = record {
  clauses = s.clauses ++ h.0 ∷ [];
  are = f s.clauses h.0 s.are h.2;
  on = λ more end r. subst (λ cs. ReadOn kind [] cs tokens end) (sym (append_assoc s.clauses (h.0 ∷ []) more)) (s.on (h.0 ∷ more) end (rest, h.1, r));
}

pub clauses_end : (kind : ComponentKind) (tokens rest : List Token) (done : Done) → (s : ClausesSoFar kind tokens done rest) → Nothing (CompleteFollow kind s.clauses) rest → (cs : List RawClause) × ReadOn kind [] cs tokens rest × AreDone cs done
clauses_end kind tokens rest done s n = (s.clauses, subst (λ cs. ReadOn kind [] cs tokens rest) (append-nil s.clauses) (s.on [] rest (refl, n)), s.are)
