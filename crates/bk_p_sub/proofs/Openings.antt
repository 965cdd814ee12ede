-- How blocks begin: their shapes, read up to the first substitution inside.
use Rattle.std.specs.Prelude.{Bool, ◌≡◌, ℕ, suc, ◌≤◌, true, false, List, [], ◌∷◌, ◌++◌, length, None, refl}
use Rattle.std.proofs.Common.{arith, sym, ◌∙◌, ap, subst, append_assoc}
use Rattle.bk_form.specs.declared.token.Token.{Token}
use Rattle.bk_form.specs.declared.token.TokenKind.{TokenKind}
use Rattle.bk_form.specs.declared.token.TokenKind.TheVariants.{Word}
use Rattle.bk_ops.specs.declared.word.TheConstants.{END, BEGIN, PRE, THEN, IF, ELSIF, SELECT, WHEN, CHOICE, ANY, WHERE, LET, BE, IN, VAR, WHILE, DO, INVARIANT, VARIANT, ASSERT, SKIP}
use Rattle.bk_raw.specs.Grammar.Pieces.{Just, JustWord, ◌⌢◌}
use Rattle.bk_raw.specs.Grammar.Spelling.{Declared, Names, Spells}
use Rattle.bk_raw.specs.Trees.RawTree.{RawTree}
use Rattle.bk_raw.specs.declared.term.RawName.{RawName}
use Rattle.bk_raw.specs.Trees.SubTree.{SubTree, sub, sub_skip, sub_begin, sub_pre, sub_assert, sub_if, sub_choice, sub_select, sub_any, sub_let, sub_var, sub_while, Branches, Choices}
use Rattle.bk_raw.specs.Grammar.SubSpelling.{Sub, Stated, Branched, Chosen}
use Rattle.bk_raw.specs.Trees.FreeNames.{Defines}
use Rattle.bk_raw.proofs.Shapes.{regrouped}
use Rattle.bk_raw.proofs.Exact.{one_for_its_tokens}
use Rattle.bk_raw.proofs.Steps.{Piece, Stopper, stepped, Leads}
use Rattle.bk_raw.proofs.TermRuns.{ends_term, ends_names, term, all-names, one-declared}
use Rattle.bk_raw.proofs.Patterns.{Shape, last_token, token_and, part_and}
use Rattle.bk_raw.proofs.SubParts.{Part, of_name, of_names, of_term, of_sub, of_branches, of_choices, SubPartKind, is_name, is_names, is_term, is_sub, is_branches, is_choices, Written, shape_at, tag, parts, back}
use Rattle.bk_raw.proofs.SubLeads.{lead, lead_by}
use Rattle.bk_raw.proofs.SubOne.{one-name, one-names}
use Rattle.bk_p_expr.specs.Fronts.{Longest, Nothing}
use Rattle.bk_p_sub.specs.Longest.{Left}
use Rattle.bk_p_sub.specs.Found.{Atom, Before, BranchesEnd, ChoicesEnd, LoopEnd}
use Rattle.bk_p_sub.proofs.Steps.{longest_token, stops_on_just, stops_on_last, left_whole, left_part, left_token, left_nothing, cut_off}
use Rattle.bk_p_sub.proofs.Rows.{longest_as}
use Rattle.bk_p_sub.proofs.Atoms.{Shapes, ShapeOf, atom_there, shape_nothing, shape_longest, shape_left, word_callless}

-- ---- parts of a shape
-- a part of this kind is one of these things
pub record Kind (calls : Bool) {A : Type 0} (k : SubPartKind) (Thing : A → Piece) (of : A → Part) : Type 0 where
  pub stops : Stopper
  pub leads : (x : A) → Leads stops (0, false) (0, true) (Thing x)
  pub one : (x y : A) (ts : List Token) → Thing x ts → Thing y ts → x ≡ y
  pub known : (p : Part) (ts : List Token) → Written calls k p ts → (x : A) × (p ≡ of x) × Thing x ts
  pub there : (x : A) (ts : List Token) → Thing x ts → Written calls k (of x) ts

pub terms_known : (calls : Bool) (p : Part) (ts : List Token) → Written calls is_term p ts → (x : RawTree) × (p ≡ of_term x) × Spells x ts
terms_known calls (of_term x) ts h = (x, refl, h)
terms_known calls _ ts h = absurd h

pub names_known : (calls : Bool) (p : Part) (ts : List Token) → Written calls is_names p ts → (xs : List RawName) × (p ≡ of_names xs) × Names xs ts
names_known calls (of_names xs) ts h = (xs, refl, h)
names_known calls _ ts h = absurd h

pub subs_known : (calls : Bool) (p : Part) (ts : List Token) → Written calls is_sub p ts → (s : SubTree) × (p ≡ of_sub s) × Sub calls s 0 ts
subs_known calls (of_sub s) ts h = (s, refl, h)
subs_known calls _ ts h = absurd h

pub name_known : (calls : Bool) (p : Part) (ts : List Token) → Written calls is_name p ts → (x : RawName) × (p ≡ of_name x) × Declared x ts
name_known calls (of_name x) ts h = (x, refl, h)
name_known calls _ ts h = absurd h

abbrev pub kind_term : (calls : Bool) → Kind calls is_term Spells of_term
kind_term calls = record { stops = ends_term; leads = λ t. term t 0; one = λ t u ts h k. one_for_its_tokens ts t u h k; known = terms_known calls; there = λ x ts h. h }

abbrev pub kind_names : (calls : Bool) → Kind calls is_names Names of_names
kind_names calls = record { stops = ends_names; leads = all-names; one = one-names; known = names_known calls; there = λ x ts h. h }

abbrev pub kind_name : (calls : Bool) → Kind calls is_name Declared of_name
kind_name calls = record { stops = ends_names; leads = one-declared; one = one-name; known = name_known calls; there = λ x ts h. h }

-- a part and what stands behind it
split_shape : (calls : Bool) {A : Type 0} (k : SubPartKind) (Thing : A → Piece) (of : A → Part) → Kind calls k Thing of → (shape : Shape SubPartKind) (ps : List Part) (ts : List Token) → ShapeOf calls (part_and k shape) ps ts → (x : A) × (qs : List Part) × (ps ≡ of x ∷ qs) × (Thing x ⌢ ShapeOf calls shape qs) ts
split_shape calls k Thing of kind shape [] ts h = absurd h
split_shape calls k Thing of kind shape (p ∷ ps) ts h =
    let q = kind.known p h.0 h.3 in
    (q.0, ps, (λ i. q.1 i ∷ ps), (h.0, h.1, h.2, q.2, h.4))

join_shape : (calls : Bool) {A : Type 0} (k : SubPartKind) (Thing : A → Piece) (of : A → Part) → Kind calls k Thing of → (shape : Shape SubPartKind) (x : A) (qs : List Part) (ts : List Token) → (Thing x ⌢ ShapeOf calls shape qs) ts → ShapeOf calls (part_and k shape) (of x ∷ qs) ts
join_shape calls k Thing of kind shape x qs ts h = (h.0, h.1, h.2, kind.there x h.0 h.3, h.4)

-- the longest part is read, where a token stands behind it that halts it
pub shape_part : (calls : Bool) {A : Type 0} (k : SubPartKind) (Thing : A → Piece) (of : A → Part) (kind : Kind calls k Thing of) (ahead : TokenKind) (shape : Shape SubPartKind) → stepped kind.stops 0 true ahead ≡ None → (op : ℕ) (tokens ts rest : List Token) (make : List Part → List Part) (x : A) → Left (Shapes calls op) tokens (ShapeOf calls (part_and k (token_and ahead shape))) ts make → Longest Thing ts x rest → Left (Shapes calls op) tokens (ShapeOf calls (token_and ahead shape)) rest (λ ps. make (of x ∷ ps))
shape_part calls k Thing of kind ahead shape e op tokens ts rest make x l h =
    left_part (Shapes calls op) Thing (ShapeOf calls (part_and k (token_and ahead shape))) (ShapeOf calls (token_and ahead shape)) (λ x ps. of x ∷ ps) kind.stops kind.leads kind.one (stops_on_just kind.stops ahead (ShapeOf calls shape) e) (split_shape calls k Thing of kind (token_and ahead shape)) (join_shape calls k Thing of kind (token_and ahead shape)) tokens ts rest make x l h

-- a part, and the token behind it
pub shape_before : (calls : Bool) {A : Type 0} (k : SubPartKind) (Thing : A → Piece) (of : A → Part) (kind : Kind calls k Thing of) (ahead : TokenKind) (shape : Shape SubPartKind) → stepped kind.stops 0 true ahead ≡ None → (op : ℕ) (tokens ts rest : List Token) (make : List Part → List Part) (x : A) → Left (Shapes calls op) tokens (ShapeOf calls (part_and k (token_and ahead shape))) ts make → Before Thing ahead ts x rest → Left (Shapes calls op) tokens (ShapeOf calls shape) rest (λ ps. make (of x ∷ ps))
shape_before calls k Thing of kind ahead shape e op tokens ts rest make x l h =
    left_token (Shapes calls op) ahead (ShapeOf calls shape) tokens h.sign rest (λ ps. make (of x ∷ ps)) (shape_part calls k Thing of kind ahead shape e op tokens ts (h.sign ∷ rest) make x l h.found) h.same

-- no part with that token behind it
pub shape_not_before : (calls : Bool) {A : Type 0} (k : SubPartKind) (Thing : A → Piece) (of : A → Part) (kind : Kind calls k Thing of) (ahead : TokenKind) (shape : Shape SubPartKind) (ts : List Token) → Nothing (λ x. Thing x ⌢ Just ahead) ts → Nothing (ShapeOf calls (part_and k (token_and ahead shape))) ts
shape_not_before calls k Thing of kind ahead shape ts n [] front after e h = absurd h
shape_not_before calls k Thing of kind ahead shape ts n (p ∷ ps) front after e h =
    let q = kind.known p h.0 h.3 in
    let m = h.4 in
    n q.0 (h.0 ++ m.0) (m.1 ++ after) (e ∙ ap (λ us. us ++ after) (h.2 ∙ ap (λ us. h.0 ++ us) m.2 ∙ sym (append_assoc h.0 m.0 m.1)) ∙ append_assoc (h.0 ++ m.0) m.1 after) (h.0, m.0, refl, q.2, m.3)

-- where the longest one is not followed by the token, none is
pub not_before : (calls : Bool) {A : Type 0} (k : SubPartKind) (Thing : A → Piece) (of : A → Part) (kind : Kind calls k Thing of) (ahead : TokenKind) → stepped kind.stops 0 true ahead ≡ None → (tokens rest : List Token) (x : A) → Longest Thing tokens x rest → ((t : Token) (more : List Token) → rest ≡ t ∷ more → t.kind ≡ ahead → ⊥) → Nothing (λ y. Thing y ⌢ Just ahead) tokens
not_before calls k Thing of kind ahead e tokens rest x h n y front after f p =
    let c = cut_off Thing kind.stops kind.leads kind.one tokens rest x y p.0 p.1 after h (f ∙ ap (λ us. us ++ after) p.2) p.3 (stops_on_last {B = Unit {0}} kind.stops ahead e tt p.1 after p.4) in
    n p.4.0 after (c.1 ∙ ap (λ us. us ++ after) p.4.1) p.4.2

pub none_before : {A : Type 0} (Thing : A → Piece) (ahead : TokenKind) (tokens : List Token) → Nothing Thing tokens → Nothing (λ y. Thing y ⌢ Just ahead) tokens
none_before Thing ahead tokens n y front after f p = n y p.0 (p.1 ++ after) (f ∙ ap (λ us. us ++ after) p.2 ∙ append_assoc p.0 p.1 after) p.3

-- ---- a word in front
pub lead_of_word : (t : Token) (rest : List Token) (op : ℕ) → t.kind ≡ Word op → lead (t ∷ rest) ≡ op
lead_of_word t rest op e = ap (λ k. lead_by k (lead rest)) e

-- the word of a shape is read
pub word_left : (calls : Bool) (op : ℕ) (shape : Shape SubPartKind) → shape_at op ≡ token_and (Word op) shape → (t : Token) (rest : List Token) → t.kind ≡ Word op → Left (Shapes calls op) (t ∷ rest) (ShapeOf calls shape) rest (λ ps. ps)
word_left calls op shape same t rest e =
    left_token (Shapes calls op) (Word op) (ShapeOf calls shape) (t ∷ rest) t rest (λ ps. ps) (subst (λ s. Left (Shapes calls op) (t ∷ rest) (ShapeOf calls s) (t ∷ rest) (λ ps. ps)) same (left_whole (Shapes calls op) (t ∷ rest))) e

-- ---- what is behind the opening
abbrev sub_end : Shape SubPartKind
sub_end = part_and is_sub (last_token (Word END))

sub_end_out : (calls : Bool) (ps : List Part) (ts : List Token) → ShapeOf calls sub_end ps ts → (s : SubTree) × (ps ≡ of_sub s ∷ []) × (Sub calls s 0 ⌢ JustWord END) ts
sub_end_out calls [] ts h = absurd h
sub_end_out calls (p ∷ []) ts h = let q = subs_known calls p h.0 h.3 in (q.0, (λ i. q.1 i ∷ []), (h.0, h.1, h.2, q.2, h.4))
sub_end_out calls (p ∷ q ∷ ps) ts h = absurd h.4

pub grouped : (First Second Third : Piece) (ts : List Token) → (First ⌢ Second ⌢ Third) ts → ((First ⌢ Second) ⌢ Third) ts
grouped First Second Third ts h = let m = h.4 in (h.0 ++ m.0, m.1, h.2 ∙ ap (λ us. h.0 ++ us) m.2 ∙ sym (append_assoc h.0 m.0 m.1), (h.0, m.0, refl, h.3, m.3), m.4)

branches_out : (calls : Bool) (op : ℕ) (k : SubPartKind) → ((p : Part) (ts : List Token) → Written calls k p ts → (q : SubTree × Branches) × (p ≡ of_branches q.0 q.1) × (Sub calls q.0 0 ⌢ Branched calls op q.1) ts) → (ps : List Part) (ts : List Token) → ShapeOf calls (part_and k (last_token (Word END))) ps ts → (q : SubTree × Branches) × (ps ≡ of_branches q.0 q.1 ∷ []) × (Sub calls q.0 0 ⌢ BranchesEnd calls op q.1) ts
branches_out calls op k known [] ts h = absurd h
branches_out calls op k known (p ∷ []) ts h = let q = known p h.0 h.3 in (q.0, (λ i. q.1 i ∷ []), regrouped (Sub calls q.0.0 0) (Branched calls op q.0.1) (JustWord END) ts (h.0, h.1, h.2, q.2, h.4))
branches_out calls op k known (p ∷ q ∷ ps) ts h = absurd h.4

if_known : (calls : Bool) (p : Part) (ts : List Token) → Written calls (is_branches true) p ts → (q : SubTree × Branches) × (p ≡ of_branches q.0 q.1) × (Sub calls q.0 0 ⌢ Branched calls ELSIF q.1) ts
if_known calls (of_branches s bs) ts h = ((s, bs), refl, h)
if_known calls _ ts h = absurd h

select_known : (calls : Bool) (p : Part) (ts : List Token) → Written calls (is_branches false) p ts → (q : SubTree × Branches) × (p ≡ of_branches q.0 q.1) × (Sub calls q.0 0 ⌢ Branched calls WHEN q.1) ts
select_known calls (of_branches s bs) ts h = ((s, bs), refl, h)
select_known calls _ ts h = absurd h

choices_out : (calls : Bool) (ps : List Part) (ts : List Token) → ShapeOf calls (part_and is_choices (last_token (Word END))) ps ts → (q : SubTree × Choices) × (ps ≡ of_choices q.0 q.1 ∷ []) × (Sub calls q.0 0 ⌢ ChoicesEnd calls q.1) ts
choices_out calls [] ts h = absurd h
choices_out calls (of_choices s cs ∷ []) ts h = ((s, cs), refl, regrouped (Sub calls s 0) (Chosen calls cs) (JustWord END) ts h)
choices_out calls (_ ∷ []) ts h = absurd h.3
choices_out calls (p ∷ q ∷ ps) ts h = absurd h.4

abbrev loop_shape : Shape SubPartKind
loop_shape = part_and is_sub (token_and (Word INVARIANT) (part_and is_term (token_and (Word VARIANT) (part_and is_term (last_token (Word END))))))

loop_end_out : (calls : Bool) (ps : List Part) (ts : List Token) → ShapeOf calls (part_and is_term (last_token (Word END))) ps ts → (v : RawTree) × (ps ≡ of_term v ∷ []) × (Spells v ⌢ JustWord END) ts
loop_end_out calls [] ts h = absurd h
loop_end_out calls (p ∷ []) ts h = let q = terms_known calls p h.0 h.3 in (q.0, (λ i. q.1 i ∷ []), (h.0, h.1, h.2, q.2, h.4))
loop_end_out calls (p ∷ q ∷ ps) ts h = absurd h.4

loop_out : (calls : Bool) (ps : List Part) (ts : List Token) → ShapeOf calls loop_shape ps ts → (q : SubTree × (RawTree × RawTree)) × (ps ≡ of_sub q.0 ∷ of_term q.1.0 ∷ of_term q.1.1 ∷ []) × (Sub calls q.0 0 ⌢ LoopEnd q.1) ts
loop_out calls [] ts h = absurd h
loop_out calls (p ∷ []) ts h = absurd h.4.4
loop_out calls (p ∷ r ∷ ps) ts h =
    let s = subs_known calls p h.0 h.3 in
    let a = h.4 in
    let b = a.4 in
    let i = terms_known calls r b.0 b.3 in
    let d = b.4 in
    let v = loop_end_out calls ps d.1 d.4 in
    ((s.0, (i.0, v.0)), (λ j. s.1 j ∷ i.1 j ∷ v.1 j), (h.0, h.1, h.2, s.2, (a.0, a.1, a.2, a.3, (b.0, b.1, b.2, i.2, (d.0, d.1, d.2, d.3, v.2)))))

-- ---- blocks
fewer : (t : Token) (rest inside : List Token) → length inside ≤ length rest → suc (length inside) ≤ length (t ∷ rest)
fewer t rest inside l = omega (arith, l)

-- a word and a substitution
pub begin_opens : (calls : Bool) (t : Token) (rest : List Token) → t.kind ≡ Word BEGIN → Left (Atom calls) (t ∷ rest) (λ (s : SubTree). Sub calls s 0 ⌢ JustWord END) rest (λ s. sub t.start (sub_begin s))
begin_opens calls t rest e = shape_left calls (t ∷ rest) rest BEGIN sub_end (λ ps. ps) (λ (s : SubTree). Sub calls s 0 ⌢ JustWord END) (λ s. of_sub s ∷ []) sub_begin (word_callless calls t rest BEGIN e) (lead_of_word t rest BEGIN e) (fewer t rest rest (omega arith)) (word_left calls BEGIN sub_end refl t rest e) (λ s ts h. h) (sub_end_out calls) (λ s ts h. h) (λ s. refl)

pub choice_opens : (calls : Bool) (t : Token) (rest : List Token) → t.kind ≡ Word CHOICE → Left (Atom calls) (t ∷ rest) (λ (q : SubTree × Choices). Sub calls q.0 0 ⌢ ChoicesEnd calls q.1) rest (λ q. sub t.start (sub_choice q.0 q.1))
choice_opens calls t rest e = shape_left calls (t ∷ rest) rest CHOICE (part_and is_choices (last_token (Word END))) (λ ps. ps) (λ (q : SubTree × Choices). Sub calls q.0 0 ⌢ ChoicesEnd calls q.1) (λ q. of_choices q.0 q.1 ∷ []) (λ q. sub_choice q.0 q.1) (word_callless calls t rest CHOICE e) (lead_of_word t rest CHOICE e) (fewer t rest rest (omega arith)) (word_left calls CHOICE (part_and is_choices (last_token (Word END))) refl t rest e) (λ q ts h. grouped (Sub calls q.0 0) (Chosen calls q.1) (JustWord END) ts h) (choices_out calls) (λ q ts h. h) (λ q. refl)

-- a word, a term and a word
tested_left : (calls : Bool) (op mid : ℕ) (shape : Shape SubPartKind) → shape_at op ≡ token_and (Word op) (part_and is_term (token_and (Word mid) shape)) → stepped ends_term 0 true (Word mid) ≡ None → (t : Token) (rest inside : List Token) (p : RawTree) → t.kind ≡ Word op → Before Spells (Word mid) rest p inside → Left (Shapes calls op) (t ∷ rest) (ShapeOf calls shape) inside (λ ps. of_term p ∷ ps)
tested_left calls op mid shape same halts t rest inside p e h = shape_before calls is_term Spells of_term (kind_term calls) (Word mid) shape halts op (t ∷ rest) rest inside (λ ps. ps) p (word_left calls op (part_and is_term (token_and (Word mid) shape)) same t rest e) h

tested_nothing : (calls : Bool) (op mid : ℕ) (shape : Shape SubPartKind) → shape_at op ≡ token_and (Word op) (part_and is_term (token_and (Word mid) shape)) → (t : Token) (rest : List Token) → t.kind ≡ Word op → Nothing (λ p. Spells p ⌢ JustWord mid) rest → Nothing (Atom calls) (t ∷ rest)
tested_nothing calls op mid shape same t rest e n =
    let next = part_and is_term (token_and (Word mid) shape) in
    shape_nothing calls (t ∷ rest) op (word_callless calls t rest op e) (lead_of_word t rest op e) (left_nothing (Shapes calls op) (ShapeOf calls next) (t ∷ rest) rest (λ ps. ps) (word_left calls op next same t rest e) (shape_not_before calls is_term Spells of_term (kind_term calls) (Word mid) shape rest n))

pub pre_opens : (calls : Bool) (t : Token) (rest inside : List Token) (p : RawTree) → length inside ≤ length rest → t.kind ≡ Word PRE → Before Spells (Word THEN) rest p inside → Left (Atom calls) (t ∷ rest) (λ (s : SubTree). Sub calls s 0 ⌢ JustWord END) inside (λ s. sub t.start (sub_pre p s))
pre_opens calls t rest inside p l e h = shape_left calls (t ∷ rest) inside PRE sub_end (λ ps. of_term p ∷ ps) (λ (s : SubTree). Sub calls s 0 ⌢ JustWord END) (λ s. of_sub s ∷ []) (sub_pre p) (word_callless calls t rest PRE e) (lead_of_word t rest PRE e) (fewer t rest inside l) (tested_left calls PRE THEN sub_end refl refl t rest inside p e h) (λ s ts h. h) (sub_end_out calls) (λ s ts h. h) (λ s. refl)

pub assert_opens : (calls : Bool) (t : Token) (rest inside : List Token) (p : RawTree) → length inside ≤ length rest → t.kind ≡ Word ASSERT → Before Spells (Word THEN) rest p inside → Left (Atom calls) (t ∷ rest) (λ (s : SubTree). Sub calls s 0 ⌢ JustWord END) inside (λ s. sub t.start (sub_assert p s))
assert_opens calls t rest inside p l e h = shape_left calls (t ∷ rest) inside ASSERT sub_end (λ ps. of_term p ∷ ps) (λ (s : SubTree). Sub calls s 0 ⌢ JustWord END) (λ s. of_sub s ∷ []) (sub_assert p) (word_callless calls t rest ASSERT e) (lead_of_word t rest ASSERT e) (fewer t rest inside l) (tested_left calls ASSERT THEN sub_end refl refl t rest inside p e h) (λ s ts h. h) (sub_end_out calls) (λ s ts h. h) (λ s. refl)

pub if_opens : (calls : Bool) (t : Token) (rest inside : List Token) (p : RawTree) → length inside ≤ length rest → t.kind ≡ Word IF → Before Spells (Word THEN) rest p inside → Left (Atom calls) (t ∷ rest) (λ (q : SubTree × Branches). Sub calls q.0 0 ⌢ BranchesEnd calls ELSIF q.1) inside (λ q. sub t.start (sub_if p q.0 q.1))
if_opens calls t rest inside p l e h = shape_left calls (t ∷ rest) inside IF (part_and (is_branches true) (last_token (Word END))) (λ ps. of_term p ∷ ps) (λ (q : SubTree × Branches). Sub calls q.0 0 ⌢ BranchesEnd calls ELSIF q.1) (λ q. of_branches q.0 q.1 ∷ []) (λ q. sub_if p q.0 q.1) (word_callless calls t rest IF e) (lead_of_word t rest IF e) (fewer t rest inside l) (tested_left calls IF THEN (part_and (is_branches true) (last_token (Word END))) refl refl t rest inside p e h) (λ q ts k. grouped (Sub calls q.0 0) (Branched calls ELSIF q.1) (JustWord END) ts k) (branches_out calls ELSIF (is_branches true) (if_known calls)) (λ q ts k. k) (λ q. refl)

pub select_opens : (calls : Bool) (t : Token) (rest inside : List Token) (p : RawTree) → length inside ≤ length rest → t.kind ≡ Word SELECT → Before Spells (Word THEN) rest p inside → Left (Atom calls) (t ∷ rest) (λ (q : SubTree × Branches). Sub calls q.0 0 ⌢ BranchesEnd calls WHEN q.1) inside (λ q. sub t.start (sub_select p q.0 q.1))
select_opens calls t rest inside p l e h = shape_left calls (t ∷ rest) inside SELECT (part_and (is_branches false) (last_token (Word END))) (λ ps. of_term p ∷ ps) (λ (q : SubTree × Branches). Sub calls q.0 0 ⌢ BranchesEnd calls WHEN q.1) (λ q. of_branches q.0 q.1 ∷ []) (λ q. sub_select p q.0 q.1) (word_callless calls t rest SELECT e) (lead_of_word t rest SELECT e) (fewer t rest inside l) (tested_left calls SELECT THEN (part_and (is_branches false) (last_token (Word END))) refl refl t rest inside p e h) (λ q ts k. grouped (Sub calls q.0 0) (Branched calls WHEN q.1) (JustWord END) ts k) (branches_out calls WHEN (is_branches false) (select_known calls)) (λ q ts k. k) (λ q. refl)

pub while_opens : (calls : Bool) (t : Token) (rest inside : List Token) (p : RawTree) → length inside ≤ length rest → t.kind ≡ Word WHILE → Before Spells (Word DO) rest p inside → Left (Atom calls) (t ∷ rest) (λ (q : SubTree × (RawTree × RawTree)). Sub calls q.0 0 ⌢ LoopEnd q.1) inside (λ q. sub t.start (sub_while p q.0 q.1.0 q.1.1))
while_opens calls t rest inside p l e h = shape_left calls (t ∷ rest) inside WHILE loop_shape (λ ps. of_term p ∷ ps) (λ (q : SubTree × (RawTree × RawTree)). Sub calls q.0 0 ⌢ LoopEnd q.1) (λ q. of_sub q.0 ∷ of_term q.1.0 ∷ of_term q.1.1 ∷ []) (λ q. sub_while p q.0 q.1.0 q.1.1) (word_callless calls t rest WHILE e) (lead_of_word t rest WHILE e) (fewer t rest inside l) (tested_left calls WHILE DO loop_shape refl refl t rest inside p e h) (λ q ts k. k) (loop_out calls) (λ q ts k. k) (λ q. refl)

pub pre_nothing : (calls : Bool) (t : Token) (rest : List Token) → t.kind ≡ Word PRE → Nothing (λ p. Spells p ⌢ JustWord THEN) rest → Nothing (Atom calls) (t ∷ rest)
pre_nothing calls = tested_nothing calls PRE THEN sub_end refl

pub assert_nothing : (calls : Bool) (t : Token) (rest : List Token) → t.kind ≡ Word ASSERT → Nothing (λ p. Spells p ⌢ JustWord THEN) rest → Nothing (Atom calls) (t ∷ rest)
assert_nothing calls = tested_nothing calls ASSERT THEN sub_end refl

pub if_nothing : (calls : Bool) (t : Token) (rest : List Token) → t.kind ≡ Word IF → Nothing (λ p. Spells p ⌢ JustWord THEN) rest → Nothing (Atom calls) (t ∷ rest)
if_nothing calls = tested_nothing calls IF THEN (part_and (is_branches true) (last_token (Word END))) refl

pub select_nothing : (calls : Bool) (t : Token) (rest : List Token) → t.kind ≡ Word SELECT → Nothing (λ p. Spells p ⌢ JustWord THEN) rest → Nothing (Atom calls) (t ∷ rest)
select_nothing calls = tested_nothing calls SELECT THEN (part_and (is_branches false) (last_token (Word END))) refl

pub while_nothing : (calls : Bool) (t : Token) (rest : List Token) → t.kind ≡ Word WHILE → Nothing (λ p. Spells p ⌢ JustWord DO) rest → Nothing (Atom calls) (t ∷ rest)
while_nothing calls = tested_nothing calls WHILE DO loop_shape refl

-- a word, names and a word
bound_left : (calls : Bool) (op mid : ℕ) (shape : Shape SubPartKind) → shape_at op ≡ token_and (Word op) (part_and is_names (token_and (Word mid) shape)) → (t : Token) (rest inside : List Token) (xs : List RawName) → t.kind ≡ Word op → Before Names (Word mid) rest xs inside → Left (Shapes calls op) (t ∷ rest) (ShapeOf calls shape) inside (λ ps. of_names xs ∷ ps)
bound_left calls op mid shape same t rest inside xs e h = shape_before calls is_names Names of_names (kind_names calls) (Word mid) shape refl op (t ∷ rest) rest inside (λ ps. ps) xs (word_left calls op (part_and is_names (token_and (Word mid) shape)) same t rest e) h

bound_nothing : (calls : Bool) (op mid : ℕ) (shape : Shape SubPartKind) → shape_at op ≡ token_and (Word op) (part_and is_names (token_and (Word mid) shape)) → (t : Token) (rest : List Token) → t.kind ≡ Word op → Nothing (λ xs. Names xs ⌢ JustWord mid) rest → Nothing (Atom calls) (t ∷ rest)
bound_nothing calls op mid shape same t rest e n =
    let next = part_and is_names (token_and (Word mid) shape) in
    shape_nothing calls (t ∷ rest) op (word_callless calls t rest op e) (lead_of_word t rest op e) (left_nothing (Shapes calls op) (ShapeOf calls next) (t ∷ rest) rest (λ ps. ps) (word_left calls op next same t rest e) (shape_not_before calls is_names Names of_names (kind_names calls) (Word mid) shape rest n))

pub var_opens : (calls : Bool) (t : Token) (rest inside : List Token) (xs : List RawName) → length inside ≤ length rest → t.kind ≡ Word VAR → Before Names (Word IN) rest xs inside → Left (Atom calls) (t ∷ rest) (λ (s : SubTree). Sub calls s 0 ⌢ JustWord END) inside (λ s. sub t.start (sub_var xs s))
var_opens calls t rest inside xs l e h = shape_left calls (t ∷ rest) inside VAR sub_end (λ ps. of_names xs ∷ ps) (λ (s : SubTree). Sub calls s 0 ⌢ JustWord END) (λ s. of_sub s ∷ []) (sub_var xs) (word_callless calls t rest VAR e) (lead_of_word t rest VAR e) (fewer t rest inside l) (bound_left calls VAR IN sub_end refl t rest inside xs e h) (λ s ts h. h) (sub_end_out calls) (λ s ts h. h) (λ s. refl)

pub var_nothing : (calls : Bool) (t : Token) (rest : List Token) → t.kind ≡ Word VAR → Nothing (λ xs. Names xs ⌢ JustWord IN) rest → Nothing (Atom calls) (t ∷ rest)
var_nothing calls = bound_nothing calls VAR IN sub_end refl

binder_left : (calls : Bool) (op one two : ℕ) → shape_at op ≡ token_and (Word op) (part_and is_names (token_and (Word one) (part_and is_term (token_and (Word two) sub_end)))) → stepped ends_term 0 true (Word two) ≡ None → (t : Token) (rest behind inside : List Token) (xs : List RawName) (p : RawTree) → t.kind ≡ Word op → Before Names (Word one) rest xs behind → Before Spells (Word two) behind p inside → Left (Shapes calls op) (t ∷ rest) (ShapeOf calls sub_end) inside (λ ps. of_names xs ∷ of_term p ∷ ps)
binder_left calls op one two same halts t rest behind inside xs p e h k = shape_before calls is_term Spells of_term (kind_term calls) (Word two) sub_end halts op (t ∷ rest) behind inside (λ ps. of_names xs ∷ ps) p (bound_left calls op one (part_and is_term (token_and (Word two) sub_end)) same t rest behind xs e h) k

binder_nothing : (calls : Bool) (op one two : ℕ) → shape_at op ≡ token_and (Word op) (part_and is_names (token_and (Word one) (part_and is_term (token_and (Word two) sub_end)))) → (t : Token) (rest behind : List Token) (xs : List RawName) → t.kind ≡ Word op → Before Names (Word one) rest xs behind → Nothing (λ p. Spells p ⌢ JustWord two) behind → Nothing (Atom calls) (t ∷ rest)
binder_nothing calls op one two same t rest behind xs e h n =
    let next = part_and is_term (token_and (Word two) sub_end) in
    shape_nothing calls (t ∷ rest) op (word_callless calls t rest op e) (lead_of_word t rest op e) (left_nothing (Shapes calls op) (ShapeOf calls next) (t ∷ rest) behind (λ ps. of_names xs ∷ ps) (bound_left calls op one next same t rest behind xs e h) (shape_not_before calls is_term Spells of_term (kind_term calls) (Word two) sub_end behind n))

pub any_opens : (calls : Bool) (t : Token) (rest behind inside : List Token) (xs : List RawName) (p : RawTree) → length inside ≤ length rest → t.kind ≡ Word ANY → Before Names (Word WHERE) rest xs behind → Before Spells (Word THEN) behind p inside → Left (Atom calls) (t ∷ rest) (λ (s : SubTree). Sub calls s 0 ⌢ JustWord END) inside (λ s. sub t.start (sub_any xs p s))
any_opens calls t rest behind inside xs p l e h k = shape_left calls (t ∷ rest) inside ANY sub_end (λ ps. of_names xs ∷ of_term p ∷ ps) (λ (s : SubTree). Sub calls s 0 ⌢ JustWord END) (λ s. of_sub s ∷ []) (sub_any xs p) (word_callless calls t rest ANY e) (lead_of_word t rest ANY e) (fewer t rest inside l) (binder_left calls ANY WHERE THEN refl refl t rest behind inside xs p e h k) (λ s ts h. h) (sub_end_out calls) (λ s ts h. h) (λ s. refl)

pub any_nothing : (calls : Bool) (t : Token) (rest : List Token) → t.kind ≡ Word ANY → Nothing (λ xs. Names xs ⌢ JustWord WHERE) rest → Nothing (Atom calls) (t ∷ rest)
any_nothing calls = bound_nothing calls ANY WHERE (part_and is_term (token_and (Word THEN) sub_end)) refl

pub any_nothing_behind : (calls : Bool) (t : Token) (rest behind : List Token) (xs : List RawName) → t.kind ≡ Word ANY → Before Names (Word WHERE) rest xs behind → Nothing (λ p. Spells p ⌢ JustWord THEN) behind → Nothing (Atom calls) (t ∷ rest)
any_nothing_behind calls = binder_nothing calls ANY WHERE THEN refl

pub let_opens : (calls : Bool) (t : Token) (rest behind inside : List Token) (xs : List RawName) (p : RawTree) → length inside ≤ length rest → t.kind ≡ Word LET → Before Names (Word BE) rest xs behind → Before Spells (Word IN) behind p inside → Defines xs p → Left (Atom calls) (t ∷ rest) (λ (s : SubTree). Sub calls s 0 ⌢ JustWord END) inside (λ s. sub t.start (sub_let xs p s))
let_opens calls t rest behind inside xs p l e h k d = shape_left calls (t ∷ rest) inside LET sub_end (λ ps. of_names xs ∷ of_term p ∷ ps) (λ (s : SubTree). Sub calls s 0 ⌢ JustWord END) (λ s. of_sub s ∷ []) (sub_let xs p) (word_callless calls t rest LET e) (lead_of_word t rest LET e) (fewer t rest inside l) (binder_left calls LET BE IN refl refl t rest behind inside xs p e h k) (λ s ts h. h) (sub_end_out calls) (λ s ts h. (h, d)) (λ s. refl)

pub let_nothing : (calls : Bool) (t : Token) (rest : List Token) → t.kind ≡ Word LET → Nothing (λ xs. Names xs ⌢ JustWord BE) rest → Nothing (Atom calls) (t ∷ rest)
let_nothing calls = bound_nothing calls LET BE (part_and is_term (token_and (Word IN) sub_end)) refl

pub let_nothing_behind : (calls : Bool) (t : Token) (rest behind : List Token) (xs : List RawName) → t.kind ≡ Word LET → Before Names (Word BE) rest xs behind → Nothing (λ p. Spells p ⌢ JustWord IN) behind → Nothing (Atom calls) (t ∷ rest)
let_nothing_behind calls = binder_nothing calls LET BE IN refl

-- names that the predicate does not define
pub let_not_defining : (calls : Bool) (t : Token) (rest behind inside : List Token) (xs : List RawName) (p : RawTree) → t.kind ≡ Word LET → Before Names (Word BE) rest xs behind → Before Spells (Word IN) behind p inside → (Defines xs p → ⊥) → Nothing (Atom calls) (t ∷ rest)
let_not_defining calls t rest behind inside xs p e h k n (sub at u) front after f w =
    let a = atom_there calls (t ∷ rest) front after at u (word_callless calls t rest LET e) f w in
    let same : tag u ≡ LET = sym a.led ∙ lead_of_word t rest LET e in
    let l = binder_left calls LET BE IN refl refl t rest behind inside xs p e h k in
    let o = l.only (parts u) front after f (subst (λ k. Shapes calls k (parts u) front) same a.shaped) in
    let q = sub_end_out calls o.0 o.1 o.4 in
    let node : u ≡ sub_let xs p q.0 = sym a.again ∙ (λ i. back (same i) ((o.2 ∙ ap (λ ps. of_names xs ∷ of_term p ∷ ps) q.1) i)) in
    let stated : Stated calls (sub_let xs p q.0) 2 front = subst (λ v. Stated calls v 2 front) node w.4 in
    n stated.1

-- skip
skip_out : (calls : Bool) (ps : List Part) (ts : List Token) → Shapes calls SKIP ps ts → (u : Unit {0}) × JustWord SKIP ts
skip_out calls [] ts h = (tt, h)
skip_out calls (p ∷ ps) ts h = absurd h

pub skip_found : (calls : Bool) (t : Token) (rest : List Token) → t.kind ≡ Word SKIP → Longest (Atom calls) (t ∷ rest) (sub t.start sub_skip) rest
skip_found calls t rest e = shape_longest calls (t ∷ rest) rest SKIP [] sub_skip (word_callless calls t rest SKIP e) (lead_of_word t rest SKIP e) (longest_as (λ (_ : Unit {0}). JustWord SKIP) (Shapes calls SKIP) (t ∷ rest) rest tt [] (longest_token (Word SKIP) t rest e) (λ ts h. h) (skip_out calls)) (λ ts h. h)
