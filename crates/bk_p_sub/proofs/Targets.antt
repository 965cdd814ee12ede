-- Substitutions that begin with the names that they write.
use Rattle.std.specs.Prelude.{◌≡◌, ◌≢◌, ◌⊎◌, ℕ, true, false, nat_eq, List, [], ◌∷◌, ◌++◌, length, None, refl}
use Rattle.std.proofs.Common.{inl, inr, arith, sym, ◌∙◌, ap, subst, append_assoc}
use Rattle.bk_form.specs.declared.token.Token.{Token}
use Rattle.bk_form.specs.declared.token.TokenKind.{TokenKind}
use Rattle.bk_form.specs.declared.token.TokenKind.TheVariants.{Name, Sign, Word}
use Rattle.bk_ops.specs.declared.sign.TheConstants.{ASSIGN, BECOMES_MEMBER, MEMBER, OPEN_PAREN, CLOSE_PAREN, COMMA}
use Rattle.bk_ops.specs.declared.word.TheConstants.{END, BEGIN, PRE, THEN, IF, ELSIF, SELECT, WHEN, CHOICE, ANY, WHERE, LET, BE, IN, VAR, WHILE, DO, INVARIANT, VARIANT, ASSERT, SKIP}
use Rattle.bk_raw.specs.Grammar.Pieces.{Just, JustSign, JustWord, ◌⌢◌}
use Rattle.bk_raw.specs.Trees.RawTree.{RawTree, RawTrees}
use Rattle.bk_raw.specs.Grammar.Reading.{start}
use Rattle.bk_raw.specs.Grammar.Spelling.{Declared, Names, Terms, Spells}
use Rattle.bk_raw.specs.declared.term.RawName.{RawName}
use Rattle.bk_raw.specs.Trees.SubTree.{SubTree, sub, SubNode, sub_skip, sub_assign, sub_assign_at, sub_member, sub_such, sub_call, sub_begin, sub_pre, sub_assert, sub_if, sub_choice, sub_select, sub_any, sub_let, sub_var, sub_while, sub_parallel, sub_sequence}
use Rattle.bk_raw.specs.Grammar.SubSpelling.{Sub, Stated, Branched, Chosen}
use Rattle.bk_raw.proofs.Steps.{Piece, stepped, Leads}
use Rattle.bk_raw.proofs.TermRuns.{ends_term, ends_names, all-names, term, inner, parentheses}
use Rattle.bk_raw.proofs.Patterns.{Shape, last_token, last_part, token_and, part_and, first, last, same-token, stops-last}
use Rattle.bk_raw.proofs.SubParts.{Part, of_name, of_names, of_term, of_terms, SubPartKind, is_name, is_names, is_term, is_terms, back}
use Rattle.bk_raw.proofs.SubLeads.{lead, lead-behind}
use Rattle.bk_raw.proofs.SubOne.{one-names, term-cut}
use Rattle.bk_p_expr.specs.Fronts.{Longest, Nothing}
use Rattle.bk_p_sub.specs.Longest.{Left}
use Rattle.bk_p_sub.specs.Found.{Atom, Ahead, NotAhead, BeginsWithName, Enclosed}
use Rattle.bk_p_sub.proofs.Steps.{stops_on_just, stops_on_last, left_whole, left_part, left_token, left_nothing, left_longest, longest_token, nothing_begins, cut_off}
use Rattle.bk_p_sub.proofs.Rows.{longest_as, nothing_as}
use Rattle.bk_p_sub.proofs.Atoms.{Shapes, ShapeOf, shape_nothing, shape_longest, false_callless}
use Rattle.bk_p_sub.proofs.Openings.{kind_names, kind_name, kind_term, shape_before, shape_part}
use Rattle.bk_p_sub.proofs.Fronts.{before_there}

-- ---- a term in parentheses
pub left_ahead : {B D : Type 0} (W : D → Piece) (kind : TokenKind) (Behind : B → Piece) (tokens ts rest : List Token) (make : B → D) → Left W tokens (λ y. Just kind ⌢ Behind y) ts make → Ahead kind ts rest → Left W tokens Behind rest make
left_ahead W kind Behind tokens ts rest make l a = left_token W kind Behind tokens a.0 rest make (subst (λ us. Left W tokens (λ y. Just kind ⌢ Behind y) us make) a.1 l) a.2

one_term : (t u : RawTree) (ts : List Token) → Spells t ts → Spells u ts → t ≡ u
one_term = (kind_term false).one

inside_left : (tokens inside : List Token) → Ahead (Sign OPEN_PAREN) tokens inside → Left Enclosed tokens (λ (t : RawTree). Spells t ⌢ JustSign CLOSE_PAREN) inside (λ t. t)
inside_left tokens inside a = left_ahead Enclosed (Sign OPEN_PAREN) (λ (t : RawTree). Spells t ⌢ JustSign CLOSE_PAREN) tokens tokens inside (λ t. t) (left_whole Enclosed tokens) a

behind_left : (tokens inside behind : List Token) (t : RawTree) → Ahead (Sign OPEN_PAREN) tokens inside → Longest Spells inside t behind → Left Enclosed tokens (λ (_ : Unit {0}). JustSign CLOSE_PAREN) behind (λ _. t)
behind_left tokens inside behind t a h = left_part Enclosed Spells (λ (t : RawTree). Spells t ⌢ JustSign CLOSE_PAREN) (λ (_ : Unit {0}). JustSign CLOSE_PAREN) (λ x y. x) ends_term (λ t. term t 0) one_term (stops_on_last ends_term (Sign CLOSE_PAREN) refl) (λ z back k. (z, tt, refl, k)) (λ x y back k. k) tokens inside behind (λ t. t) t (inside_left tokens inside a) h

pub enclosed_found : (tokens inside behind rest : List Token) (t : RawTree) → Ahead (Sign OPEN_PAREN) tokens inside → Longest Spells inside t behind → Ahead (Sign CLOSE_PAREN) behind rest → Longest Enclosed tokens t rest
enclosed_found tokens inside behind rest t a h c =
    left_longest Enclosed (λ (_ : Unit {0}). JustSign CLOSE_PAREN) tokens behind rest (λ _. t) tt (behind_left tokens inside behind t a h)
    (subst (λ us. Longest (λ (_ : Unit {0}). JustSign CLOSE_PAREN) us tt rest) (sym c.1) (longest_token (Sign CLOSE_PAREN) c.0 rest c.2))

pub enclosed_none_last : (tokens inside behind : List Token) (t : RawTree) → Ahead (Sign OPEN_PAREN) tokens inside → Longest Spells inside t behind → NotAhead (Sign CLOSE_PAREN) behind → Nothing Enclosed tokens
enclosed_none_last tokens inside behind t a h n = left_nothing Enclosed (λ (_ : Unit {0}). JustSign CLOSE_PAREN) tokens behind (λ _. t) (behind_left tokens inside behind t a h) (λ _ front after e k. n k.0 after (e ∙ ap (λ us. us ++ after) k.1) k.2)

pub enclosed_none_inside : (tokens inside : List Token) → Ahead (Sign OPEN_PAREN) tokens inside → Nothing Spells inside → Nothing Enclosed tokens
enclosed_none_inside tokens inside a n = left_nothing Enclosed (λ (t : RawTree). Spells t ⌢ JustSign CLOSE_PAREN) tokens inside (λ t. t) (inside_left tokens inside a) (λ t front after e k. n t k.0 (k.1 ++ after) (e ∙ ap (λ us. us ++ after) k.2 ∙ append_assoc k.0 k.1 after) k.3)

pub enclosed_none : (tokens : List Token) → NotAhead (Sign OPEN_PAREN) tokens → Nothing Enclosed tokens
enclosed_none tokens n = nothing_begins (Sign OPEN_PAREN) (λ (t : RawTree). Spells t ⌢ JustSign CLOSE_PAREN) tokens n

enclosed_one : (t u : RawTree) (ts : List Token) → Enclosed t ts → Enclosed u ts → t ≡ u
enclosed_one t u ts h k =
    let s = same-token (Sign OPEN_PAREN) (Sign OPEN_PAREN) (Spells t ⌢ JustSign CLOSE_PAREN) (Spells u ⌢ JustSign CLOSE_PAREN) ts h k in
    let c = term-cut t u (JustSign CLOSE_PAREN) (JustSign CLOSE_PAREN) s.1.0 (stops-last ends_term 0 true (Sign CLOSE_PAREN) refl) (stops-last ends_term 0 true (Sign CLOSE_PAREN) refl) s.1.1 s.1.2 in
    c.0

enclosed_leads : (t : RawTree) → Leads ends_term (0, false) (0, true) (Enclosed t)
enclosed_leads t = parentheses false (Spells t) (inner (Spells t) (term t 0))

-- ---- what a sign behind names tells
names_lead : (tokens rest more : List Token) (xs : List RawName) (op : ℕ) → nat_eq op COMMA ≡ false → Longest Names tokens xs rest → Ahead (Sign op) rest more → lead tokens ≡ op
names_lead tokens rest more xs op c h a = lead-behind xs op (λ us. us ≡ more) tokens c (h.written, rest, h.splits, h.spelled, (a.0 ∷ [], more, a.1, (a.0, refl, a.2), refl))

-- ---- x, y := e, f
assign_left : (tokens rest more : List Token) (xs : List RawName) → Longest Names tokens xs rest → Ahead (Sign ASSIGN) rest more → Left (Shapes false ASSIGN) tokens (ShapeOf false (last_part is_terms)) more (λ ps. of_names xs ∷ ps)
assign_left tokens rest more xs h a = shape_before false is_names Names of_names (kind_names false) (Sign ASSIGN) (last_part is_terms) refl ASSIGN tokens tokens more (λ ps. ps) xs (left_whole (Shapes false ASSIGN) tokens) (before_there Names (Sign ASSIGN) tokens rest more xs h a)

terms_out : (ps : List Part) (ts : List Token) → ShapeOf false (last_part is_terms) ps ts → (us : RawTrees) × Terms us ts
terms_out [] ts h = absurd h
terms_out (of_terms us ∷ []) ts h = (us, h)
terms_out (_ ∷ []) ts h = absurd h
terms_out (p ∷ q ∷ ps) ts h = absurd h

term_out : (ps : List Part) (ts : List Token) → ShapeOf false (last_part is_term) ps ts → (t : RawTree) × Spells t ts
term_out [] ts h = absurd h
term_out (of_term t ∷ []) ts h = (t, h)
term_out (_ ∷ []) ts h = absurd h
term_out (p ∷ q ∷ ps) ts h = absurd h

pub assign_found : (tokens rest more after : List Token) (xs : List RawName) (us : RawTrees) → Longest Names tokens xs rest → Ahead (Sign ASSIGN) rest more → Longest Terms more us after → Longest (Atom false) tokens (sub (start tokens) (sub_assign xs us)) after
assign_found tokens rest more after xs us h a k =
    shape_longest false tokens after ASSIGN (of_names xs ∷ of_terms us ∷ []) (sub_assign xs us) (false_callless tokens) (names_lead tokens rest more xs ASSIGN refl h a)
    (left_longest (Shapes false ASSIGN) (ShapeOf false (last_part is_terms)) tokens more after (λ ps. of_names xs ∷ ps) (of_terms us ∷ []) (assign_left tokens rest more xs h a) (longest_as Terms (ShapeOf false (last_part is_terms)) more after us (of_terms us ∷ []) k (λ ts m. m) terms_out))
    (λ ts m. m)

pub assign_none : (tokens rest more : List Token) (xs : List RawName) → Longest Names tokens xs rest → Ahead (Sign ASSIGN) rest more → Nothing Terms more → Nothing (Atom false) tokens
assign_none tokens rest more xs h a n = shape_nothing false tokens ASSIGN (false_callless tokens) (names_lead tokens rest more xs ASSIGN refl h a) (left_nothing (Shapes false ASSIGN) (ShapeOf false (last_part is_terms)) tokens more (λ ps. of_names xs ∷ ps) (assign_left tokens rest more xs h a) (nothing_as Terms (ShapeOf false (last_part is_terms)) more n terms_out))

-- ---- x, y :( p )
abbrev such_shape : Shape SubPartKind
such_shape = token_and (Sign OPEN_PAREN) (part_and is_term (last_token (Sign CLOSE_PAREN)))

such_left : (tokens rest more : List Token) (xs : List RawName) → Longest Names tokens xs rest → Ahead (Sign MEMBER) rest more → Left (Shapes false MEMBER) tokens (ShapeOf false such_shape) more (λ ps. of_names xs ∷ ps)
such_left tokens rest more xs h a = shape_before false is_names Names of_names (kind_names false) (Sign MEMBER) such_shape refl MEMBER tokens tokens more (λ ps. ps) xs (left_whole (Shapes false MEMBER) tokens) (before_there Names (Sign MEMBER) tokens rest more xs h a)

such_out : (ps : List Part) (ts : List Token) → ShapeOf false such_shape ps ts → (t : RawTree) × Enclosed t ts
such_out [] ts h = absurd h.4
such_out (of_term t ∷ []) ts h = (t, h)
such_out (_ ∷ []) ts h = absurd h.4.3
such_out (p ∷ q ∷ ps) ts h = absurd h.4.4

pub such_found : (tokens rest more after : List Token) (xs : List RawName) (p : RawTree) → Longest Names tokens xs rest → Ahead (Sign MEMBER) rest more → Longest Enclosed more p after → Longest (Atom false) tokens (sub (start tokens) (sub_such xs p)) after
such_found tokens rest more after xs p h a k =
    shape_longest false tokens after MEMBER (of_names xs ∷ of_term p ∷ []) (sub_such xs p) (false_callless tokens) (names_lead tokens rest more xs MEMBER refl h a)
    (left_longest (Shapes false MEMBER) (ShapeOf false such_shape) tokens more after (λ ps. of_names xs ∷ ps) (of_term p ∷ []) (such_left tokens rest more xs h a) (longest_as Enclosed (ShapeOf false such_shape) more after p (of_term p ∷ []) k (λ ts m. m) such_out))
    (λ ts m. m)

pub such_none : (tokens rest more : List Token) (xs : List RawName) → Longest Names tokens xs rest → Ahead (Sign MEMBER) rest more → Nothing Enclosed more → Nothing (Atom false) tokens
such_none tokens rest more xs h a n = shape_nothing false tokens MEMBER (false_callless tokens) (names_lead tokens rest more xs MEMBER refl h a) (left_nothing (Shapes false MEMBER) (ShapeOf false such_shape) tokens more (λ ps. of_names xs ∷ ps) (such_left tokens rest more xs h a) (nothing_as Enclosed (ShapeOf false such_shape) more n such_out))

-- ---- x :: e
single_name : (tokens rest : List Token) (x : RawName) → Longest Names tokens (x ∷ []) rest → Longest Declared tokens x rest
single_name tokens rest x h = longest_as Names Declared tokens rest (x ∷ []) x h (λ ts k. k) (λ y ts k. (y ∷ [], k))

member_left : (tokens rest more : List Token) (x : RawName) → Longest Names tokens (x ∷ []) rest → Ahead (Sign BECOMES_MEMBER) rest more → Left (Shapes false BECOMES_MEMBER) tokens (ShapeOf false (last_part is_term)) more (λ ps. of_name x ∷ ps)
member_left tokens rest more x h a = shape_before false is_name Declared of_name (kind_name false) (Sign BECOMES_MEMBER) (last_part is_term) refl BECOMES_MEMBER tokens tokens more (λ ps. ps) x (left_whole (Shapes false BECOMES_MEMBER) tokens) (before_there Declared (Sign BECOMES_MEMBER) tokens rest more x (single_name tokens rest x h) a)

pub member_found : (tokens rest more after : List Token) (x : RawName) (e : RawTree) → Longest Names tokens (x ∷ []) rest → Ahead (Sign BECOMES_MEMBER) rest more → Longest Spells more e after → Longest (Atom false) tokens (sub (start tokens) (sub_member x e)) after
member_found tokens rest more after x e h a k =
    shape_longest false tokens after BECOMES_MEMBER (of_name x ∷ of_term e ∷ []) (sub_member x e) (false_callless tokens) (names_lead tokens rest more (x ∷ []) BECOMES_MEMBER refl h a)
    (left_longest (Shapes false BECOMES_MEMBER) (ShapeOf false (last_part is_term)) tokens more after (λ ps. of_name x ∷ ps) (of_term e ∷ []) (member_left tokens rest more x h a) (longest_as Spells (ShapeOf false (last_part is_term)) more after e (of_term e ∷ []) k (λ ts m. m) term_out))
    (λ ts m. m)

pub member_none : (tokens rest more : List Token) (x : RawName) → Longest Names tokens (x ∷ []) rest → Ahead (Sign BECOMES_MEMBER) rest more → Nothing Spells more → Nothing (Atom false) tokens
member_none tokens rest more x h a n = shape_nothing false tokens BECOMES_MEMBER (false_callless tokens) (names_lead tokens rest more (x ∷ []) BECOMES_MEMBER refl h a) (left_nothing (Shapes false BECOMES_MEMBER) (ShapeOf false (last_part is_term)) tokens more (λ ps. of_name x ∷ ps) (member_left tokens rest more x h a) (nothing_as Spells (ShapeOf false (last_part is_term)) more n term_out))

-- ---- f(x) := e
abbrev at_shape : Shape SubPartKind
at_shape = token_and (Sign OPEN_PAREN) (part_and is_term (token_and (Sign CLOSE_PAREN) (token_and (Sign ASSIGN) (last_part is_term))))

at_out : (ps : List Part) (ts : List Token) → ShapeOf false at_shape ps ts → (x : RawTree) × (e : RawTree) × (ps ≡ of_term x ∷ of_term e ∷ []) × (Enclosed x ⌢ (JustSign ASSIGN ⌢ Spells e)) ts
at_out [] ts h = absurd h.4
at_out (p ∷ []) ts h = absurd h.4.4.4.4
at_out (p ∷ q ∷ []) ts h =
    let a = h.4 in
    let b = a.4 in
    let c = b.4 in
    let x = (kind_term false).known p a.0 a.3 in
    let e = (kind_term false).known q c.1 c.4 in
    (x.0, e.0, (λ i. x.1 i ∷ e.1 i ∷ []), (h.0 ++ (a.0 ++ b.0), b.1, h.2 ∙ ap (λ us. h.0 ++ us) (a.2 ∙ ap (λ us. a.0 ++ us) b.2 ∙ sym (append_assoc a.0 b.0 b.1)) ∙ sym (append_assoc h.0 (a.0 ++ b.0) b.1), (h.0, a.0 ++ b.0, refl, h.3, (a.0, b.0, refl, x.2, b.3)), (c.0, c.1, c.2, c.3, e.2)))
at_out (p ∷ q ∷ r ∷ ps) ts h = absurd h.4.4.4.4

at_into : (x e : RawTree) (ts : List Token) → (Enclosed x ⌢ (JustSign ASSIGN ⌢ Spells e)) ts → ShapeOf false at_shape (of_term x ∷ of_term e ∷ []) ts
at_into x e ts h =
    let a = h.3 in
    let b = a.4 in
    (a.0, b.0 ++ (b.1 ++ h.1), h.2 ∙ ap (λ us. us ++ h.1) a.2 ∙ append_assoc a.0 a.1 h.1 ∙ ap (λ us. a.0 ++ us) (ap (λ us. us ++ h.1) b.2 ∙ append_assoc b.0 b.1 h.1), a.3, (b.0, b.1 ++ h.1, refl, b.3, (b.1, h.1, refl, b.4, h.4)))

place_left : (tokens rest : List Token) (f : RawName) → Longest Names tokens (f ∷ []) rest → Left (Shapes false OPEN_PAREN) tokens (ShapeOf false at_shape) rest (λ ps. of_name f ∷ ps)
place_left tokens rest f h = shape_part false is_name Declared of_name (kind_name false) (Sign OPEN_PAREN) (part_and is_term (token_and (Sign CLOSE_PAREN) (token_and (Sign ASSIGN) (last_part is_term)))) refl OPEN_PAREN tokens tokens rest (λ ps. ps) f (left_whole (Shapes false OPEN_PAREN) tokens) (single_name tokens rest f h)

value_left : (tokens rest behind : List Token) (f : RawName) (x : RawTree) → Longest Names tokens (f ∷ []) rest → Longest Enclosed rest x behind → Left (Shapes false OPEN_PAREN) tokens (λ (e : RawTree). JustSign ASSIGN ⌢ Spells e) behind (λ e. of_name f ∷ of_term x ∷ of_term e ∷ [])
value_left tokens rest behind f x h k = left_part (Shapes false OPEN_PAREN) Enclosed (ShapeOf false at_shape) (λ (e : RawTree). JustSign ASSIGN ⌢ Spells e) (λ x e. of_term x ∷ of_term e ∷ []) ends_term enclosed_leads enclosed_one (stops_on_just ends_term (Sign ASSIGN) Spells refl) at_out at_into tokens rest behind (λ ps. of_name f ∷ ps) x (place_left tokens rest f h) k

-- a parenthesis stands behind the name where a term in parentheses does
opens_there : (tokens behind : List Token) (x : RawTree) → Longest Enclosed tokens x behind → (more : List Token) × Ahead (Sign OPEN_PAREN) tokens more
opens_there tokens behind x h =
    let f = first (Sign OPEN_PAREN) (Spells x ⌢ JustSign CLOSE_PAREN) h.written h.spelled in
    (f.rest ++ behind, (f.token, h.splits ∙ ap (λ us. us ++ behind) f.is, f.same))

place_lead : (tokens rest behind : List Token) (f : RawName) (x : RawTree) → Longest Names tokens (f ∷ []) rest → Longest Enclosed rest x behind → lead tokens ≡ OPEN_PAREN
place_lead tokens rest behind f x h k = let o = opens_there rest behind x k in names_lead tokens rest o.0 (f ∷ []) OPEN_PAREN refl h o.1

pub at_found : (tokens rest behind more after : List Token) (f : RawName) (x e : RawTree) → Longest Names tokens (f ∷ []) rest → Longest Enclosed rest x behind → Ahead (Sign ASSIGN) behind more → Longest Spells more e after → Longest (Atom false) tokens (sub (start tokens) (sub_assign_at f x e)) after
at_found tokens rest behind more after f x e h k a m =
    shape_longest false tokens after OPEN_PAREN (of_name f ∷ of_term x ∷ of_term e ∷ []) (sub_assign_at f x e) (false_callless tokens) (place_lead tokens rest behind f x h k)
    (left_longest (Shapes false OPEN_PAREN) Spells tokens more after (λ e. of_name f ∷ of_term x ∷ of_term e ∷ []) e (left_ahead (Shapes false OPEN_PAREN) (Sign ASSIGN) Spells tokens behind more (λ e. of_name f ∷ of_term x ∷ of_term e ∷ []) (value_left tokens rest behind f x h k) a) m)
    (λ ts w. w)

pub at_none_value : (tokens rest behind more : List Token) (f : RawName) (x : RawTree) → Longest Names tokens (f ∷ []) rest → Longest Enclosed rest x behind → Ahead (Sign ASSIGN) behind more → Nothing Spells more → Nothing (Atom false) tokens
at_none_value tokens rest behind more f x h k a n =
    shape_nothing false tokens OPEN_PAREN (false_callless tokens) (place_lead tokens rest behind f x h k)
    (left_nothing (Shapes false OPEN_PAREN) Spells tokens more (λ e. of_name f ∷ of_term x ∷ of_term e ∷ []) (left_ahead (Shapes false OPEN_PAREN) (Sign ASSIGN) Spells tokens behind more (λ e. of_name f ∷ of_term x ∷ of_term e ∷ []) (value_left tokens rest behind f x h k) a) n)

pub at_none_sign : (tokens rest behind : List Token) (f : RawName) (x : RawTree) → Longest Names tokens (f ∷ []) rest → Longest Enclosed rest x behind → NotAhead (Sign ASSIGN) behind → Nothing (Atom false) tokens
at_none_sign tokens rest behind f x h k n =
    shape_nothing false tokens OPEN_PAREN (false_callless tokens) (place_lead tokens rest behind f x h k)
    (left_nothing (Shapes false OPEN_PAREN) (λ (e : RawTree). JustSign ASSIGN ⌢ Spells e) tokens behind (λ e. of_name f ∷ of_term x ∷ of_term e ∷ []) (value_left tokens rest behind f x h k) (nothing_begins (Sign ASSIGN) Spells behind n))

-- ---- which sign may stand behind
abbrev Anything : Piece
Anything ts = Unit {0}

abbrev Behind : List RawName → ℕ → Type 0
Behind ys op = (op ≡ ASSIGN) ⊎ ((op ≡ MEMBER) ⊎ ((y : RawName) × (ys ≡ y ∷ []) × ((op ≡ BECOMES_MEMBER) ⊎ (op ≡ OPEN_PAREN))))

abbrev NamedView : List Token → Type 0
NamedView front = (ys : List RawName) × (op : ℕ) × (Names ys ⌢ JustSign op ⌢ Anything) front × Behind ys op

any_behind : (First : Piece) (op : ℕ) (K : Piece) (ts : List Token) → (First ⌢ JustSign op ⌢ K) ts → (First ⌢ JustSign op ⌢ Anything) ts
any_behind First op K ts h = (h.0, h.1, h.2, h.3, (h.4.0, h.4.1, h.4.2, h.4.3, tt))

pub not_word : (op : ℕ) (K : Piece) (t : Token) (us : List Token) (x : List ℕ) → t.kind ≡ Name x → (JustWord op ⌢ K) (t ∷ us) → ⊥
not_word op K t us x k h =
    let f = first (Word op) K (t ∷ us) h in
    let e = f.is in
    let same : t ≡ f.token = cc in
    let kinds : Name x ≡ Word op = sym k ∙ ap (λ u. u.kind) same ∙ f.same in
    cc

named : (u : SubNode) (t : Token) (us : List Token) (x : List ℕ) → t.kind ≡ Name x → Stated false u 2 (t ∷ us) → NamedView (t ∷ us)
named (sub_call xs o ts) t us x k h = let i : false ≡ true = h.1 in cc
named sub_skip t us x k h = absurd (not_word SKIP (λ vs. vs ≡ []) t us x k (last (Word SKIP) (t ∷ us) h))
named (sub_assign xs ts) t us x k h = (xs, ASSIGN, any_behind (Names xs) ASSIGN (Terms ts) (t ∷ us) h, inl refl)
named (sub_assign_at f y e) t us x k h = (f ∷ [], OPEN_PAREN, any_behind (Declared f) OPEN_PAREN (Spells y ⌢ JustSign CLOSE_PAREN ⌢ JustSign ASSIGN ⌢ Spells e) (t ∷ us) h, inr (inr (f, refl, inr refl)))
named (sub_member y e) t us x k h = (y ∷ [], BECOMES_MEMBER, any_behind (Declared y) BECOMES_MEMBER (Spells e) (t ∷ us) h, inr (inr (y, refl, inl refl)))
named (sub_such xs p) t us x k h = (xs, MEMBER, any_behind (Names xs) MEMBER (JustSign OPEN_PAREN ⌢ Spells p ⌢ JustSign CLOSE_PAREN) (t ∷ us) h, inr (inl refl))
named (sub_begin s) t us x k h = absurd (not_word BEGIN (Sub false s 0 ⌢ JustWord END) t us x k h)
named (sub_pre p s) t us x k h = absurd (not_word PRE (Spells p ⌢ JustWord THEN ⌢ Sub false s 0 ⌢ JustWord END) t us x k h)
named (sub_assert p s) t us x k h = absurd (not_word ASSERT (Spells p ⌢ JustWord THEN ⌢ Sub false s 0 ⌢ JustWord END) t us x k h)
named (sub_if p s bs) t us x k h = absurd (not_word IF (Spells p ⌢ JustWord THEN ⌢ (Sub false s 0 ⌢ Branched false ELSIF bs) ⌢ JustWord END) t us x k h)
named (sub_choice s cs) t us x k h = absurd (not_word CHOICE ((Sub false s 0 ⌢ Chosen false cs) ⌢ JustWord END) t us x k h)
named (sub_select p s bs) t us x k h = absurd (not_word SELECT (Spells p ⌢ JustWord THEN ⌢ (Sub false s 0 ⌢ Branched false WHEN bs) ⌢ JustWord END) t us x k h)
named (sub_any xs p s) t us x k h = absurd (not_word ANY (Names xs ⌢ JustWord WHERE ⌢ Spells p ⌢ JustWord THEN ⌢ Sub false s 0 ⌢ JustWord END) t us x k h)
named (sub_let xs p s) t us x k h = absurd (not_word LET (Names xs ⌢ JustWord BE ⌢ Spells p ⌢ JustWord IN ⌢ Sub false s 0 ⌢ JustWord END) t us x k h.0)
named (sub_var xs s) t us x k h = absurd (not_word VAR (Names xs ⌢ JustWord IN ⌢ Sub false s 0 ⌢ JustWord END) t us x k h)
named (sub_while p s i v) t us x k h = absurd (not_word WHILE (Spells p ⌢ JustWord DO ⌢ Sub false s 0 ⌢ JustWord INVARIANT ⌢ Spells i ⌢ JustWord VARIANT ⌢ Spells v ⌢ JustWord END) t us x k h)
named (sub_parallel s r) t us x k h = absurd (omega (arith, h.0))
named (sub_sequence s r) t us x k h = absurd (omega (arith, h.0))

-- an atom in front of tokens that begin with a name: the sign behind the names that are read, and which it may be
record Told (rest : List Token) (xs : List RawName) : Type 0 where
  op : ℕ
  more : List Token
  ahead : Ahead (Sign op) rest more
  may : Behind xs op

told : (tokens rest : List Token) (xs : List RawName) (o : SubTree) (front after : List Token) → BeginsWithName tokens → Longest Names tokens xs rest → tokens ≡ front ++ after → Atom false o front → Told rest xs
told tokens rest xs (sub at u) front after b h e k =
    let v = named u k.0 k.1 b.0 (begun k.0 k.1 b front e k.2) (subst (Stated false u 2) k.2 k.4) in
    let w = v.2 in
    let g = first (Sign v.1) Anything w.1 w.4 in
    let c = cut_off Names ends_names all-names one-names tokens rest xs v.0 w.0 w.1 after h (e ∙ ap (λ us. us ++ after) (k.2 ∙ w.2)) w.3 (stops_on_just {B = Unit {0}} ends_names (Sign v.1) (λ _. Anything) (halts v.0 v.1 v.3) tt w.1 after w.4) in
    record { op = v.1; more = g.rest ++ after; ahead = (g.token, c.1 ∙ ap (λ us. us ++ after) g.is, g.same); may = subst (λ ys. Behind ys v.1) (sym c.0) v.3 }
  where
    begun : (t : Token) (us : List Token) (b : BeginsWithName tokens) (front : List Token) → tokens ≡ front ++ after → front ≡ t ∷ us → t.kind ≡ Name b.0
    begun t us b front e f =
        let g : b.2.0 ∷ b.1 ≡ t ∷ (us ++ after) = sym b.2.1 ∙ e ∙ ap (λ vs. vs ++ after) f in
        let same : b.2.0 ≡ t = cc in
        sym (ap (λ u. u.kind) same) ∙ b.2.2

    at_sign : (op sign : ℕ) → op ≡ sign → stepped ends_names 0 true (Sign sign) ≡ None → stepped ends_names 0 true (Sign op) ≡ None
    at_sign op sign e s = subst (λ k. stepped ends_names 0 true (Sign k) ≡ None) (sym e) s

    halts : (ys : List RawName) (op : ℕ) → Behind ys op → stepped ends_names 0 true (Sign op) ≡ None
    halts ys op (inl e) = at_sign op ASSIGN e refl
    halts ys op (inr (inl e)) = at_sign op MEMBER e refl
    halts ys op (inr (inr (y, i, inl e))) = at_sign op BECOMES_MEMBER e refl
    halts ys op (inr (inr (y, i, inr e))) = at_sign op OPEN_PAREN e refl

sign_there : (rest more : List Token) (op sign : ℕ) → op ≡ sign → Ahead (Sign op) rest more → NotAhead (Sign sign) rest → ⊥
sign_there rest more op sign e a n = n a.0 more a.1 (a.2 ∙ ap (λ k. Sign k) e)

pub no_names : (tokens rest : List Token) (xs : List RawName) → BeginsWithName tokens → Longest Names tokens xs rest → NotAhead (Sign ASSIGN) rest → NotAhead (Sign MEMBER) rest → length xs ≢ 1 → Nothing (Atom false) tokens
no_names tokens rest xs b h n m l o front after e k = by (told tokens rest xs o front after b h e k)
  where
    may : (t : Told rest xs) → Behind xs t.op → ⊥
    may t (inl e) = sign_there rest t.more t.op ASSIGN e t.ahead n
    may t (inr (inl e)) = sign_there rest t.more t.op MEMBER e t.ahead m
    may t (inr (inr v)) = l (ap length v.1)

    by : Told rest xs → ⊥
    by t = may t t.may

pub no_target : (tokens rest : List Token) (x : RawName) → BeginsWithName tokens → Longest Names tokens (x ∷ []) rest → NotAhead (Sign ASSIGN) rest → NotAhead (Sign MEMBER) rest → NotAhead (Sign BECOMES_MEMBER) rest → Nothing Enclosed rest → Nothing (Atom false) tokens
no_target tokens rest x b h n m p q o front after e k = by (told tokens rest (x ∷ []) o front after b h e k)
  where
    none : Nothing (ShapeOf false at_shape) rest
    none ps back more f w = placed (at_out ps back w)
      where
        placed : (x : RawTree) × (e : RawTree) × (ps ≡ of_term x ∷ of_term e ∷ []) × (Enclosed x ⌢ (JustSign ASSIGN ⌢ Spells e)) back → ⊥
        placed r = let z = r.3 in q r.0 z.0 (z.1 ++ more) (f ∙ ap (λ us. us ++ more) z.2 ∙ append_assoc z.0 z.1 more) z.3

    place : (t : Told rest (x ∷ [])) → t.op ≡ OPEN_PAREN → ⊥
    place t i = shape_nothing false tokens OPEN_PAREN (false_callless tokens) (names_lead tokens rest t.more (x ∷ []) OPEN_PAREN refl h (t.ahead.0, t.ahead.1, t.ahead.2 ∙ ap (λ k. Sign k) i)) (left_nothing (Shapes false OPEN_PAREN) (ShapeOf false at_shape) tokens rest (λ ps. of_name x ∷ ps) (place_left tokens rest x h) none) o front after e k

    may : (t : Told rest (x ∷ [])) → Behind (x ∷ []) t.op → ⊥
    may t (inl i) = sign_there rest t.more t.op ASSIGN i t.ahead n
    may t (inr (inl i)) = sign_there rest t.more t.op MEMBER i t.ahead m
    may t (inr (inr (y, s, inl i))) = sign_there rest t.more t.op BECOMES_MEMBER i t.ahead p
    may t (inr (inr (y, s, inr i))) = place t i

    by : Told rest (x ∷ []) → ⊥
    by t = may t t.may

-- a name in front is read
pub names_there : (tokens : List Token) → BeginsWithName tokens → Nothing Names tokens → ⊥
names_there tokens b n = n (record { at = b.2.0.start; text = b.0 } ∷ []) (b.2.0 ∷ []) b.1 b.2.1 (b.2.0, refl, b.2.2, refl)
