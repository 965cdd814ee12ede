-- Additions in terms, in substitutions and in clauses, told by their tokens.
use Rattle.std.specs.Prelude.{◌≡◌, ℕ, ℤ, pos, Bool, true, false, List, [], ◌∷◌, ◌++◌, All, Some, None, refl}
use Rattle.std.proofs.Common.{inl, inr, sym, ◌∙◌, ap, subst}
use Rattle.std.proofs.lemmas.List.Elements.{All-cons, All-head, All-nil, All-tail}
use Rattle.bk_form.specs.declared.token.Token.{Token}
use Rattle.bk_form.specs.declared.token.TokenKind.{TokenKind}
use Rattle.bk_form.specs.declared.token.TokenKind.TheVariants.{Name, BoundName, Number, Sign, Word}
use Rattle.bk_ops.specs.declared.sign.TheConstants.{FOR_ALL, EXISTS, MEMBER, MINUS, INVERSE, SEMICOLON, COMMA, DOT, BAR, LAMBDA, PARALLEL, ASSIGN, BECOMES_MEMBER, OUTPUTS, EQUAL, OPEN_PAREN, CLOSE_PAREN, OPEN_BRACE, CLOSE_BRACE}
use Rattle.bk_ops.specs.declared.word.TheConstants.{END, BEGIN, PRE, THEN, IF, ELSIF, ELSE, SELECT, WHEN, CHOICE, OR_BRANCH, ANY, WHERE, LET, BE, IN, VAR, WHILE, DO, INVARIANT, VARIANT, ASSERT, SKIP}
use Rattle.bk_raw.specs.Trees.FreeNames.{Defines}
use Rattle.bk_raw.specs.Trees.Additions.{IsOrdinary, IsOrdinaryWord, IsOrdinaryInfix, HasNoAddition, NodeHasNoAddition, TreesHaveNoAddition, SubHasNoAddition, SubNodeHasNoAddition, BranchesHaveNoAddition, ChoicesHaveNoAddition}
use Rattle.bk_raw.specs.Grammar.ComponentSpelling.{Elements, Set, Value, Outputs, Inputs, Operation, Parts, Clause, ArePlain}
use Rattle.bk_raw.specs.Trees.ComponentTree.{RawSet, RawOperation, ClauseParts, clause_sets, clause_names, clause_term, clause_terms, clause_values, clause_sub, clause_operations, RawClause, word_number}
use Rattle.bk_raw.specs.Trees.Operators.{infix_kind, word_kind, constant_kind, binding}
use Rattle.bk_raw.specs.Grammar.Pieces.{Absent, Just, JustAt, JustSign, JustWord, ◌⌢◌, Divided, InParentheses, InBrackets, InBraces, Digits, Literal, NoDigits, Placed, Provided, Starting}
use Rattle.bk_raw.specs.Trees.RawTree.{RawTree, raw, RawTreeNode, raw_name, raw_level_name, raw_bound_name, raw_number, raw_constant, raw_word, raw_negative, raw_infix, raw_inverse, raw_image, raw_apply, raw_composition, raw_pair, raw_empty_set, raw_extension, raw_comprehension, raw_lambda, raw_for_all, raw_exists, raw_typed_empty, raw_typed_for_all, raw_typed_exists, raw_ranged_comprehension, raw_ranged_lambda, RawTrees, no_trees, tree_and, RawRanges, no_ranges, range_and}
use Rattle.bk_raw.specs.Grammar.Spelling.{Declared, Names, Alone, Binder, Typed, TypedBound, TypedBounds, Term, Listed, Sequenced, Bare, Commas, Semicolons, Terms, Ranges}
use Rattle.bk_raw.specs.Trees.SubTree.{SubTree, sub, SubNode, sub_skip, sub_assign, sub_assign_at, sub_member, sub_such, sub_call, sub_begin, sub_pre, sub_assert, sub_if, sub_choice, sub_select, sub_any, sub_let, sub_var, sub_while, sub_parallel, sub_sequence, Branches, no_branches, else_branch, branch_and, Choices, no_choices, choice_and}
use Rattle.bk_raw.specs.Grammar.SubSpelling.{Called, Sub, Stated, Branched, Chosen}
use Rattle.bk_raw.specs.declared.component.ClauseWord.{ClauseWord}
use Rattle.bk_raw.specs.declared.component.ClauseWord.TheVariants.{Sets, Constants, ConcreteConstants, Properties, Variables, AbstractVariables, ConcreteVariables, Invariant, Assertions, Values, Initialisation, Operations, Imports}
use Rattle.bk_raw.specs.declared.component.RawValue.{RawValue}
use Rattle.bk_raw.specs.declared.operator.Constant.{Constant}
use Rattle.bk_raw.specs.declared.operator.Constant.TheVariants.{Btrue, Bfalse}
use Rattle.bk_raw.specs.declared.operator.InfixOp.{InfixOp}
use Rattle.bk_raw.specs.declared.operator.InfixOp.TheVariants.{And, Concatenation, Prepend, Append}
use Rattle.bk_raw.specs.declared.operator.WordOp.{WordOp}
use Rattle.bk_raw.specs.declared.operator.WordOp.TheVariants.{Not, Seq, Size, First, Last, Front, Tail, Rev}
use Rattle.bk_raw.specs.declared.term.RawBound.{RawBound}
use Rattle.bk_raw.specs.declared.term.RawName.{RawName}
use Rattle.bk_raw.specs.Trees.WrittenType.{WrittenType}
use Rattle.bk_raw.proofs.Patterns.{first}
use Rattle.bk_raw.proofs.Runs.{run, append-run, split-run}
use Rattle.bk_raw.proofs.Shapes.{regrouped}
use Rattle.bk_raw.proofs.Steps.{Piece}
use Rattle.bk_raw.proofs.Stopping.{none_some, some_same}
use Rattle.bk_p_comp.specs.Parts.{IsComplete}
use Rattle.bk_p_comp.proofs.Telling.{Tells, IsCut, plain_kind, plain_step, one_step, anywhere, tells_just, tells_at, tells_printed, tells_level, tells_never, tells_join, tells_same, tells_or, tells_between, tells_headed, tells_ended, tells_parentheses, tells_brackets, tells_braced, tells_braces, tells_divided, tells_starting, tells_binding, tells_placed, cut_within, cut_plain}

abbrev Nothing : Type 0
Nothing = Unit {0}

-- a word or a sign that is an addition nowhere
word : (op : ℕ) → plain_kind true (Word op) ≡ Some false → plain_kind false (Word op) ≡ Some false → (b : Bool) → plain_kind b (Word op) ≡ Some false
word op h k = anywhere (Word op) h k

-- what is told beside nothing
beside_nothing : {G : Type 0} (A : Piece) → Tells A (Nothing × G) → Tells A G
beside_nothing A f = tells_same A (λ p. p.1) (λ g. (tt, g)) f

-- ---- names
declared : (x : RawName) → Tells (Declared x) Nothing
declared x = tells_at x.at (Name x.text) (anywhere (Name x.text) refl refl)

names : (xs : List RawName) → Tells (Names xs) Nothing
names xs = tells_divided COMMA Declared (λ x. Nothing) (λ xs. Nothing) refl declared tt (λ x ys g h. tt) (λ x ys g. (tt, tt)) xs

alone : (xs : List RawName) → Tells (Alone xs) Nothing
alone [] = tells_never Nothing
alone (x ∷ []) = declared x
alone (x ∷ y ∷ ys) = tells_never Nothing

binder : (xs : List RawName) → Tells (Binder xs) Nothing
binder xs = tells_or (Alone xs) (InParentheses (Names xs)) (alone xs) (tells_parentheses (Names xs) (names xs))

-- ---- what begins with a numbered variable
numbered : (n : ℕ) (b : Bool) → plain_kind b (BoundName n) ≡ None
numbered n true = refl
numbered n false = refl

-- a piece with an addition in it
bad_left : (A B : Piece) → Tells A ⊥ → Tells (A ⌢ B) ⊥
bad_left A B f = record {
  good = λ b ts h k. absurd k;
  told = λ b e ts h r.
      let s = split-run plain_step b e h.0 h.1 (subst (λ us. run plain_step b us ≡ Some e) h.2 r) in
      f.told b s.0 h.0 h.3 s.1;
}

bad_right : (A B : Piece) → Tells B ⊥ → Tells (A ⌢ B) ⊥
bad_right A B f = record {
  good = λ b ts h k. absurd k;
  told = λ b e ts h r.
      let s = split-run plain_step b e h.0 h.1 (subst (λ us. run plain_step b us ≡ Some e) h.2 r) in
      f.told s.0 e h.1 h.4 s.2;
}

bad_at : (at n : ℕ) → Tells (JustAt at (BoundName n)) ⊥
bad_at at n = record { good = λ b ts h g. absurd g; told = λ b e ts h r. (tells_printed (BoundName n) (numbered n)).told b e ts (h.0, h.1, h.2) r }

-- ---- operators
-- a sign or a word that no component has yet
unread : (kind : TokenKind) → plain_kind true kind ≡ None → plain_kind false kind ≡ None → (b : Bool) → plain_kind b kind ≡ None
unread kind h k true = h
unread kind h k false = k

unread_between : (F G : Type 0) (kind : TokenKind) → plain_kind true kind ≡ None → plain_kind false kind ≡ None → (A B : Piece) → Tells (A ⌢ Just kind ⌢ B) (F × G × ⊥)
unread_between F G kind h k A B = tells_same (A ⌢ Just kind ⌢ B) (λ (z : ⊥). absurd z) (λ g. g.2) (bad_right A (Just kind ⌢ B) (bad_left (Just kind) B (tells_printed kind (unread kind h k))))

infix_between : {F G : Type 0} (o : InfixOp) (A B : Piece) → Tells A F → Tells B G → Tells (A ⌢ Just (infix_kind o) ⌢ B) (F × G × IsOrdinaryInfix o)
infix_between {F} {G} Concatenation A B f g = unread_between F G (infix_kind Concatenation) refl refl A B
infix_between {F} {G} Prepend A B f g = unread_between F G (infix_kind Prepend) refl refl A B
infix_between {F} {G} Append A B f g = unread_between F G (infix_kind Append) refl refl A B
infix_between And A B f g = tells_same (A ⌢ Just (infix_kind And) ⌢ B) (λ p. (p.0, p.1, tt)) (λ p. (p.0, p.1)) (tells_between A B (infix_kind And) refl f g)
infix_between o A B f g = tells_same (A ⌢ Just (infix_kind o) ⌢ B) (λ p. (p.0, p.1, tt)) (λ p. (p.0, p.1)) (tells_between A B (infix_kind o) refl f g)

one_word : (o : WordOp) → Tells (Just (word_kind o)) (IsOrdinaryWord o)
one_word Seq = tells_printed (word_kind Seq) (unread (word_kind Seq) refl refl)
one_word Size = tells_printed (word_kind Size) (unread (word_kind Size) refl refl)
one_word First = tells_printed (word_kind First) (unread (word_kind First) refl refl)
one_word Last = tells_printed (word_kind Last) (unread (word_kind Last) refl refl)
one_word Front = tells_printed (word_kind Front) (unread (word_kind Front) refl refl)
one_word Tail = tells_printed (word_kind Tail) (unread (word_kind Tail) refl refl)
one_word Rev = tells_printed (word_kind Rev) (unread (word_kind Rev) refl refl)
one_word Not = tells_just (word_kind Not) (anywhere (word_kind Not) refl refl)
one_word o = tells_just (word_kind o) (anywhere (word_kind o) refl refl)

constant : (c : Constant) → Tells (Just (constant_kind c)) (IsOrdinary c)
constant Btrue = tells_printed (constant_kind Btrue) btrue_none
  where
    btrue_none : (b : Bool) → plain_kind b (constant_kind Btrue) ≡ None
    btrue_none true = refl
    btrue_none false = refl
constant Bfalse = tells_printed (constant_kind Bfalse) bfalse_none
  where
    bfalse_none : (b : Bool) → plain_kind b (constant_kind Bfalse) ≡ None
    bfalse_none true = refl
    bfalse_none false = refl
constant c = tells_just (constant_kind c) (anywhere (constant_kind c) refl refl)

digits : (n : ℕ) → Tells (Digits n) Nothing
digits n = tells_just (Number (pos n)) (anywhere (Number (pos n)) refl refl)

minus : {G : Type 0} (A : Piece) → Tells A G → Tells (JustSign MINUS ⌢ A) G
minus A f = tells_headed A (Sign MINUS) (anywhere (Sign MINUS) refl refl) f

literal : (z : ℤ) (asked : ℕ) → Tells (Literal z asked) Nothing
literal z asked = record {
  good = λ b ts h g. elim h [ inl q ↦ (digits q.0).good b ts q.2 tt | inr q ↦ (minus (Digits q.0) (digits q.0)).good b ts q.2.1 tt ];
  told = λ b e ts h r. tt;
}

-- .( .. ) behind what is bound
bodied : {G : Type 0} (A : Piece) → Tells A G → Tells (JustSign DOT ⌢ InParentheses A) G
bodied A f = tells_headed (InParentheses A) (Sign DOT) (anywhere (Sign DOT) refl refl) (tells_parentheses A f)

bound : {G : Type 0} (xs : List RawName) (op : ℕ) → ((b : Bool) → plain_kind b (Sign op) ≡ Some false) → (A : Piece) → Tells A G → Tells (JustSign op ⌢ Binder xs ⌢ JustSign DOT ⌢ InParentheses A) G
bound {G} xs op k A f = tells_headed (Binder xs ⌢ JustSign DOT ⌢ InParentheses A) (Sign op) k (beside_nothing (Binder xs ⌢ JustSign DOT ⌢ InParentheses A) (tells_join (Binder xs) (JustSign DOT ⌢ InParentheses A) (binder xs) (bodied A f)))

-- ---- additions
bad_bound : (b : RawBound) → Tells (TypedBound b) ⊥
bad_bound b = bad_left (JustAt b.at (BoundName b.number)) (JustSign MEMBER ⌢ Typed b.ty) (bad_at b.at b.number)

bad_bounds : (bs : List RawBound) → Tells (TypedBounds bs) ⊥
bad_bounds [] = tells_never ⊥
bad_bounds (b ∷ []) = bad_bound b
bad_bounds (b ∷ c ∷ cs) = bad_left (TypedBound b) (JustSign COMMA ⌢ TypedBounds (c ∷ cs)) (bad_bound b)

bad_ranges : (rs : RawRanges) → Tells (Ranges rs) ⊥
bad_ranges no_ranges = tells_never ⊥
bad_ranges (range_and at n d no_ranges) = bad_left (JustAt at (BoundName n)) (JustSign MEMBER ⌢ Term d 4) (bad_at at n)
bad_ranges (range_and at n d (range_and bt m e rs)) = bad_left (JustAt at (BoundName n) ⌢ JustSign MEMBER ⌢ Term d 4) (JustSign COMMA ⌢ Ranges (range_and bt m e rs)) (bad_left (JustAt at (BoundName n)) (JustSign MEMBER ⌢ Term d 4) (bad_at at n))

bad_in : (A : Piece) → Tells A ⊥ → Tells (InParentheses A) ⊥
bad_in A f = bad_right (JustSign OPEN_PAREN) (A ⌢ JustSign CLOSE_PAREN) (bad_left A (JustSign CLOSE_PAREN) f)

-- the colon behind a brace
behind_brace : (b m : Bool) → plain_kind b (Sign OPEN_BRACE) ≡ Some m → m ≡ true
behind_brace true m h = sym (some_same true m h)
behind_brace false m h = sym (some_same true m h)

bad_empty : (t : WrittenType) → Tells (InBraces (JustSign MEMBER ⌢ Typed t)) ⊥
bad_empty t = record {
  good = λ b ts h k. absurd k;
  told = λ b e ts h r.
      let f = first (Sign OPEN_BRACE) ((JustSign MEMBER ⌢ Typed t) ⌢ JustSign CLOSE_BRACE) ts h in
      let g = first (Sign MEMBER) (Typed t ⌢ JustSign CLOSE_BRACE) f.rest (regrouped (JustSign MEMBER) (Typed t) (JustSign CLOSE_BRACE) f.rest f.back) in
      let s = one_step b e f.token (Sign OPEN_BRACE) f.rest f.same (subst (λ us. run plain_step b us ≡ Some e) f.is r) in
      let q = one_step s.0 e g.token (Sign MEMBER) g.rest g.same (subst (λ us. run plain_step s.0 us ≡ Some e) g.is s.2) in
      none_some q.0 (ap (λ c. plain_kind c (Sign MEMBER)) (sym (behind_brace b s.0 s.1)) ∙ q.1);
}

-- ---- terms
mutual
  pub term : (t : RawTree) (asked : ℕ) → Tells (Term t asked) (HasNoAddition t)
  term (raw at node) asked = tells_placed at asked (Bare node) (bare node)

  listed : (t : RawTree) → Tells (Listed t) (HasNoAddition t)
  listed (raw at node) = tells_or (Placed at 0 (Bare node)) (Starting at (Commas node)) (tells_placed at 0 (Bare node) (bare node)) (tells_starting at (Commas node) (commas node))

  sequenced : (t : RawTree) → Tells (Sequenced t) (HasNoAddition t)
  sequenced (raw at node) = tells_or (Placed at 0 (Bare node)) (Starting at (Semicolons node)) (tells_placed at 0 (Bare node) (bare node)) (tells_starting at (Semicolons node) (semicolons node))

  bare : (node : RawTreeNode) (asked : ℕ) → Tells (Bare node asked) (NodeHasNoAddition node)
  bare (raw_name text) asked = tells_just (Name text) (anywhere (Name text) refl refl)
  bare (raw_level_name text n) asked = tells_level text n
  bare (raw_bound_name n) asked = tells_printed (BoundName n) (numbered n)
  bare (raw_number z) asked = literal z asked
  bare (raw_constant c) asked = constant c
  bare (raw_word o a) asked = tells_same (Just (word_kind o) ⌢ InParentheses (Term a 0)) (λ g. (g.1, g.0)) (λ g. (g.1, g.0)) (tells_join (Just (word_kind o)) (InParentheses (Term a 0)) (one_word o) (tells_parentheses (Term a 0) (term a 0)))
  bare (raw_negative a) asked = tells_binding 10 asked (JustSign MINUS ⌢ NoDigits (Term a 11)) (minus (NoDigits (Term a 11)) (record { good = λ b ts h g. (term a 11).good b ts h.0 g; told = λ b e ts h r. (term a 11).told b e ts h.0 r }))
  bare (raw_infix o a b) asked = tells_binding (binding o).own asked (Term a (binding o).left ⌢ Just (infix_kind o) ⌢ Term b (binding o).right) (infix_between o (Term a (binding o).left) (Term b (binding o).right) (term a (binding o).left) (term b (binding o).right))
  bare (raw_inverse r) asked = tells_ended (Term r 11) (Sign INVERSE) (anywhere (Sign INVERSE) refl refl) (term r 11)
  bare (raw_image r s) asked = tells_join (Term r 11) (InBrackets (Term s 0)) (term r 11) (tells_brackets (Term s 0) (term s 0))
  bare (raw_apply f x) asked = tells_join (Term f 11) (InParentheses (Listed x)) (term f 11) (tells_parentheses (Listed x) (listed x))
  bare (raw_composition r s) asked = tells_parentheses (Sequenced r ⌢ JustSign SEMICOLON ⌢ Term s 0) (tells_between (Sequenced r) (Term s 0) (Sign SEMICOLON) refl (sequenced r) (term s 0))
  bare (raw_pair a b) asked = tells_parentheses (Listed a ⌢ JustSign COMMA ⌢ Term b 0) (tells_between (Listed a) (Term b 0) (Sign COMMA) refl (listed a) (term b 0))
  bare raw_empty_set asked = tells_braced (JustSign CLOSE_BRACE) (tells_just (Sign CLOSE_BRACE) (anywhere (Sign CLOSE_BRACE) refl refl))
  bare (raw_extension ts) asked = tells_braces (Terms ts) (terms ts)
  bare (raw_comprehension xs p) asked = tells_braces (Names xs ⌢ JustSign BAR ⌢ Term p 0) (beside_nothing (Names xs ⌢ JustSign BAR ⌢ Term p 0) (tells_between (Names xs) (Term p 0) (Sign BAR) refl (names xs) (term p 0)))
  bare (raw_lambda xs p e) asked = bound xs LAMBDA (anywhere (Sign LAMBDA) refl refl) (Term p 0 ⌢ JustSign BAR ⌢ Term e 0) (tells_between (Term p 0) (Term e 0) (Sign BAR) refl (term p 0) (term e 0))
  bare (raw_for_all xs p) asked = bound xs FOR_ALL (anywhere (Sign FOR_ALL) refl refl) (Term p 0) (term p 0)
  bare (raw_exists xs p) asked = bound xs EXISTS (anywhere (Sign EXISTS) refl refl) (Term p 0) (term p 0)
  bare (raw_typed_empty t) asked = bad_empty t
  bare (raw_typed_for_all bs p) asked = bad_right (JustSign FOR_ALL) (InParentheses (TypedBounds bs) ⌢ JustSign DOT ⌢ InParentheses (Term p 0)) (bad_left (InParentheses (TypedBounds bs)) (JustSign DOT ⌢ InParentheses (Term p 0)) (bad_in (TypedBounds bs) (bad_bounds bs)))
  bare (raw_typed_exists bs p) asked = bad_right (JustSign EXISTS) (InParentheses (TypedBounds bs) ⌢ JustSign DOT ⌢ InParentheses (Term p 0)) (bad_left (InParentheses (TypedBounds bs)) (JustSign DOT ⌢ InParentheses (Term p 0)) (bad_in (TypedBounds bs) (bad_bounds bs)))
  bare (raw_ranged_comprehension rs p) asked = bad_right (JustSign OPEN_BRACE) ((Ranges rs ⌢ JustSign BAR ⌢ Term p 0) ⌢ JustSign CLOSE_BRACE) (bad_left (Ranges rs ⌢ JustSign BAR ⌢ Term p 0) (JustSign CLOSE_BRACE) (bad_left (Ranges rs) (JustSign BAR ⌢ Term p 0) (bad_ranges rs)))
  bare (raw_ranged_lambda rs p e) asked = bad_right (JustSign LAMBDA) (InParentheses (Ranges rs) ⌢ JustSign DOT ⌢ InParentheses (Term p 0 ⌢ JustSign BAR ⌢ Term e 0)) (bad_left (InParentheses (Ranges rs)) (JustSign DOT ⌢ InParentheses (Term p 0 ⌢ JustSign BAR ⌢ Term e 0)) (bad_in (Ranges rs) (bad_ranges rs)))

  commas : (node : RawTreeNode) → Tells (Commas node) (NodeHasNoAddition node)
  commas (raw_pair a b) = tells_between (Listed a) (Term b 0) (Sign COMMA) refl (listed a) (term b 0)
  commas node = tells_never (NodeHasNoAddition node)

  semicolons : (node : RawTreeNode) → Tells (Semicolons node) (NodeHasNoAddition node)
  semicolons (raw_composition r s) = tells_between (Sequenced r) (Term s 0) (Sign SEMICOLON) refl (sequenced r) (term s 0)
  semicolons node = tells_never (NodeHasNoAddition node)

  pub terms : (ts : RawTrees) → Tells (Terms ts) (TreesHaveNoAddition ts)
  terms no_trees = tells_never Nothing
  terms (tree_and t no_trees) = tells_same (Term t 0) (λ g. (g, tt)) (λ g. g.0) (term t 0)
  terms (tree_and t (tree_and u us)) = tells_between (Term t 0) (Terms (tree_and u us)) (Sign COMMA) refl (term t 0) (terms (tree_and u us))

-- ---- substitutions
-- where something is asked of the tree beside its tokens
provided : {G : Type 0} (Holds : Type 0) (A : Piece) → Tells A G → Tells (Provided Holds A) G
provided Holds A f = record { good = λ b ts h g. f.good b ts h.0 g; told = λ b e ts h r. f.told b e ts h.0 r }

-- no operation is called in a component
never_called : {G : Type 0} (A : Piece) → Tells (Provided (false ≡ true) A) G
never_called A = record { good = λ b ts h g. absurd (false_true h.1); told = λ b e ts h r. absurd (false_true h.1) }
  where
    false_true : false ≡ true → ⊥
    false_true e = cc

-- what may be absent is told behind another piece, which leaves no brace
record Follows (A : Piece) (Good : Type 0) : Type 0 where
  good : (ts : List Token) → A ts → Good → run plain_step false ts ≡ Some false
  told : (b e : Bool) (ts : List Token) → A ts → run plain_step b ts ≡ Some e → Good

follows_absent : Follows Absent Nothing
follows_absent = record { good = λ ts h g. ap (run plain_step false) h; told = λ b e ts h r. tt }

follows_by : {G : Type 0} (A : Piece) → Tells A G → Follows A G
follows_by A f = record { good = λ ts h g. f.good false ts h g; told = λ b e ts h r. f.told b e ts h r }

tells_then : {G H : Type 0} (A B : Piece) → Tells A G → Follows B H → Tells (A ⌢ B) (G × H)
tells_then A B f g = record {
  good = λ b ts h k. subst (λ us. run plain_step b us ≡ Some false) (sym h.2) (append-run plain_step b false false h.0 h.1 (f.good b h.0 h.3 k.0) (g.good h.1 h.4 k.1));
  told = λ b e ts h r.
      let s = split-run plain_step b e h.0 h.1 (subst (λ us. run plain_step b us ≡ Some e) h.2 r) in
      (f.told b s.0 h.0 h.3 s.1, g.told s.0 e h.1 h.4 s.2);
}

-- a word, a piece, a word and another piece
block : {G H : Type 0} (op mid : ℕ) → ((b : Bool) → plain_kind b (Word op) ≡ Some false) → plain_kind false (Word mid) ≡ Some false → (A B : Piece) → Tells A G → Tells B H → Tells (JustWord op ⌢ A ⌢ JustWord mid ⌢ B) (G × H)
block op mid k l A B f g = tells_headed (A ⌢ JustWord mid ⌢ B) (Word op) k (tells_between A B (Word mid) l f g)

closed : {G : Type 0} (A : Piece) → Tells A G → Tells (A ⌢ JustWord END) G
closed A f = tells_ended A (Word END) (word END refl refl) f

-- names in front tell nothing
unnamed : {G : Type 0} (xs : List RawName) (mid : ℕ) → plain_kind false (Word mid) ≡ Some false → (A : Piece) → Tells A G → Tells (Names xs ⌢ JustWord mid ⌢ A) G
unnamed xs mid l A f = beside_nothing (Names xs ⌢ JustWord mid ⌢ A) (tells_between (Names xs) A (Word mid) l (names xs) f)

-- what is told step by step is told at once
told_three : (F G H : Type 0) (A : Piece) → Tells A (F × (G × H)) → Tells A (F × G × H)
told_three F G H A f = tells_same A (λ g. (g.0, g.1.0, g.1.1)) (λ g. (g.0, (g.1, g.2))) f

told_four : (F G H K : Type 0) (A : Piece) → Tells A (F × (G × (H × K))) → Tells A (F × G × H × K)
told_four F G H K A f = tells_same A (λ g. (g.0, g.1.0, g.1.1.0, g.1.1.1)) (λ g. (g.0, (g.1, (g.2, g.3)))) f

mutual
  pub substitution : (s : SubTree) (asked : ℕ) → Tells (Sub false s asked) (SubHasNoAddition s)
  substitution (sub at node) asked = tells_starting at (Stated false node asked) (stated node asked)

  stated : (u : SubNode) (asked : ℕ) → Tells (Stated false u asked) (SubNodeHasNoAddition u)
  stated sub_skip asked = tells_just (Word SKIP) (word SKIP refl refl)
  stated (sub_assign xs ts) asked = beside_nothing (Names xs ⌢ JustSign ASSIGN ⌢ Terms ts) (tells_between (Names xs) (Terms ts) (Sign ASSIGN) refl (names xs) (terms ts))
  stated (sub_assign_at f x e) asked =
      beside_nothing (Declared f ⌢ JustSign OPEN_PAREN ⌢ Term x 0 ⌢ JustSign CLOSE_PAREN ⌢ JustSign ASSIGN ⌢ Term e 0) (tells_between (Declared f) (Term x 0 ⌢ JustSign CLOSE_PAREN ⌢ JustSign ASSIGN ⌢ Term e 0) (Sign OPEN_PAREN) refl (declared f)
      (tells_between (Term x 0) (JustSign ASSIGN ⌢ Term e 0) (Sign CLOSE_PAREN) refl (term x 0) (tells_headed (Term e 0) (Sign ASSIGN) (anywhere (Sign ASSIGN) refl refl) (term e 0))))
  stated (sub_member x e) asked = beside_nothing (Declared x ⌢ JustSign BECOMES_MEMBER ⌢ Term e 0) (tells_between (Declared x) (Term e 0) (Sign BECOMES_MEMBER) refl (declared x) (term e 0))
  stated (sub_such xs p) asked = beside_nothing (Names xs ⌢ JustSign MEMBER ⌢ InParentheses (Term p 0)) (tells_between (Names xs) (InParentheses (Term p 0)) (Sign MEMBER) refl (names xs) (tells_parentheses (Term p 0) (term p 0)))
  stated (sub_call xs o ts) asked = never_called (Called xs o ts)
  stated (sub_begin s) asked = tells_headed (Sub false s 0 ⌢ JustWord END) (Word BEGIN) (word BEGIN refl refl) (closed (Sub false s 0) (substitution s 0))
  stated (sub_pre p s) asked = block PRE THEN (word PRE refl refl) refl (Term p 0) (Sub false s 0 ⌢ JustWord END) (term p 0) (closed (Sub false s 0) (substitution s 0))
  stated (sub_assert p s) asked = block ASSERT THEN (word ASSERT refl refl) refl (Term p 0) (Sub false s 0 ⌢ JustWord END) (term p 0) (closed (Sub false s 0) (substitution s 0))
  stated (sub_if p s bs) asked = told_three (HasNoAddition p) (SubHasNoAddition s) (BranchesHaveNoAddition bs) (JustWord IF ⌢ Term p 0 ⌢ JustWord THEN ⌢ (Sub false s 0 ⌢ Branched false ELSIF bs) ⌢ JustWord END) (block IF THEN (word IF refl refl) refl (Term p 0) ((Sub false s 0 ⌢ Branched false ELSIF bs) ⌢ JustWord END) (term p 0) (closed (Sub false s 0 ⌢ Branched false ELSIF bs) (tells_then (Sub false s 0) (Branched false ELSIF bs) (substitution s 0) (branched ELSIF (word ELSIF refl refl) bs))))
  stated (sub_choice s cs) asked = tells_headed ((Sub false s 0 ⌢ Chosen false cs) ⌢ JustWord END) (Word CHOICE) (word CHOICE refl refl) (closed (Sub false s 0 ⌢ Chosen false cs) (tells_then (Sub false s 0) (Chosen false cs) (substitution s 0) (chosen cs)))
  stated (sub_select p s bs) asked = told_three (HasNoAddition p) (SubHasNoAddition s) (BranchesHaveNoAddition bs) (JustWord SELECT ⌢ Term p 0 ⌢ JustWord THEN ⌢ (Sub false s 0 ⌢ Branched false WHEN bs) ⌢ JustWord END) (block SELECT THEN (word SELECT refl refl) refl (Term p 0) ((Sub false s 0 ⌢ Branched false WHEN bs) ⌢ JustWord END) (term p 0) (closed (Sub false s 0 ⌢ Branched false WHEN bs) (tells_then (Sub false s 0) (Branched false WHEN bs) (substitution s 0) (branched WHEN (word WHEN refl refl) bs))))
  stated (sub_any xs p s) asked = tells_headed (Names xs ⌢ JustWord WHERE ⌢ Term p 0 ⌢ JustWord THEN ⌢ Sub false s 0 ⌢ JustWord END) (Word ANY) (word ANY refl refl) (unnamed xs WHERE refl (Term p 0 ⌢ JustWord THEN ⌢ Sub false s 0 ⌢ JustWord END) (tells_between (Term p 0) (Sub false s 0 ⌢ JustWord END) (Word THEN) refl (term p 0) (closed (Sub false s 0) (substitution s 0))))
  stated (sub_let xs p s) asked = provided (Defines xs p) (JustWord LET ⌢ Names xs ⌢ JustWord BE ⌢ Term p 0 ⌢ JustWord IN ⌢ Sub false s 0 ⌢ JustWord END) (tells_headed (Names xs ⌢ JustWord BE ⌢ Term p 0 ⌢ JustWord IN ⌢ Sub false s 0 ⌢ JustWord END) (Word LET) (word LET refl refl) (unnamed xs BE refl (Term p 0 ⌢ JustWord IN ⌢ Sub false s 0 ⌢ JustWord END) (tells_between (Term p 0) (Sub false s 0 ⌢ JustWord END) (Word IN) refl (term p 0) (closed (Sub false s 0) (substitution s 0)))))
  stated (sub_var xs s) asked = tells_headed (Names xs ⌢ JustWord IN ⌢ Sub false s 0 ⌢ JustWord END) (Word VAR) (word VAR refl refl) (unnamed xs IN refl (Sub false s 0 ⌢ JustWord END) (closed (Sub false s 0) (substitution s 0)))
  stated (sub_while p s i v) asked =
      told_four (HasNoAddition p) (SubHasNoAddition s) (HasNoAddition i) (HasNoAddition v) (JustWord WHILE ⌢ Term p 0 ⌢ JustWord DO ⌢ Sub false s 0 ⌢ JustWord INVARIANT ⌢ Term i 0 ⌢ JustWord VARIANT ⌢ Term v 0 ⌢ JustWord END)
      (block WHILE DO (word WHILE refl refl) refl (Term p 0) (Sub false s 0 ⌢ JustWord INVARIANT ⌢ Term i 0 ⌢ JustWord VARIANT ⌢ Term v 0 ⌢ JustWord END) (term p 0)
      (tells_between (Sub false s 0) (Term i 0 ⌢ JustWord VARIANT ⌢ Term v 0 ⌢ JustWord END) (Word INVARIANT) refl (substitution s 0) (tells_between (Term i 0) (Term v 0 ⌢ JustWord END) (Word VARIANT) refl (term i 0) (closed (Term v 0) (term v 0)))))
  stated (sub_parallel s t) asked = tells_binding 1 asked (Sub false s 1 ⌢ JustSign PARALLEL ⌢ Sub false t 2) (tells_between (Sub false s 1) (Sub false t 2) (Sign PARALLEL) refl (substitution s 1) (substitution t 2))
  stated (sub_sequence s t) asked = tells_binding 0 asked (Sub false s 0 ⌢ JustSign SEMICOLON ⌢ Sub false t 1) (tells_between (Sub false s 0) (Sub false t 1) (Sign SEMICOLON) refl (substitution s 0) (substitution t 1))

  -- further branches: an absent piece leaves what stands before it, so that they are told behind their substitution
  branched : (op : ℕ) → ((b : Bool) → plain_kind b (Word op) ≡ Some false) → (bs : Branches) → Follows (Branched false op bs) (BranchesHaveNoAddition bs)
  branched op k no_branches = follows_absent
  branched op k (else_branch s) = follows_by (JustWord ELSE ⌢ Sub false s 0) (tells_headed (Sub false s 0) (Word ELSE) (word ELSE refl refl) (substitution s 0))
  branched op k (branch_and p s bs) = follows_by (JustWord op ⌢ Term p 0 ⌢ JustWord THEN ⌢ (Sub false s 0 ⌢ Branched false op bs)) (told_three (HasNoAddition p) (SubHasNoAddition s) (BranchesHaveNoAddition bs) (JustWord op ⌢ Term p 0 ⌢ JustWord THEN ⌢ (Sub false s 0 ⌢ Branched false op bs)) (tells_headed (Term p 0 ⌢ JustWord THEN ⌢ (Sub false s 0 ⌢ Branched false op bs)) (Word op) k (tells_between (Term p 0) (Sub false s 0 ⌢ Branched false op bs) (Word THEN) refl (term p 0) (tells_then (Sub false s 0) (Branched false op bs) (substitution s 0) (branched op k bs)))))

  chosen : (cs : Choices) → Follows (Chosen false cs) (ChoicesHaveNoAddition cs)
  chosen no_choices = follows_absent
  chosen (choice_and s cs) = follows_by (JustWord OR_BRANCH ⌢ (Sub false s 0 ⌢ Chosen false cs)) (tells_headed (Sub false s 0 ⌢ Chosen false cs) (Word OR_BRANCH) (word OR_BRANCH refl refl) (tells_then (Sub false s 0) (Chosen false cs) (substitution s 0) (chosen cs)))

-- ---- clauses
-- what a clause's parts tell: additions, but not whether each set has elements
abbrev pub HaveNone : ClauseParts → Type 0
HaveNone (clause_sets ss) = Nothing
HaveNone (clause_names xs) = Nothing
HaveNone (clause_term t) = HasNoAddition t
HaveNone (clause_terms ts) = All HasNoAddition ts
HaveNone (clause_values vs) = All (λ v. HasNoAddition v.value) vs
HaveNone (clause_sub s) = SubHasNoAddition s
HaveNone (clause_operations os) = All (λ o. SubHasNoAddition o.body) os

pub none_of_plain : (p : ClauseParts) → ArePlain p → HaveNone p
none_of_plain (clause_sets ss) h = tt
none_of_plain (clause_names xs) h = tt
none_of_plain (clause_term t) h = h
none_of_plain (clause_terms ts) h = h
none_of_plain (clause_values vs) h = h
none_of_plain (clause_sub s) h = h
none_of_plain (clause_operations os) h = h

pub plain_of_none : (p : ClauseParts) → HaveNone p → IsComplete p → ArePlain p
plain_of_none (clause_sets ss) h c = c
plain_of_none (clause_names xs) h c = tt
plain_of_none (clause_term t) h c = h
plain_of_none (clause_terms ts) h c = h
plain_of_none (clause_values vs) h c = h
plain_of_none (clause_sub s) h c = h
plain_of_none (clause_operations os) h c = h

all_told : {X : Type 0} (op : ℕ) (Part : X → Piece) (Good : X → Type 0) → plain_kind false (Sign op) ≡ Some false → ((x : X) → Tells (Part x) (Good x)) → (xs : List X) → Tells (Divided op Part xs) (All Good xs)
all_told op Part Good k f xs = tells_divided op Part Good (All Good) k f (All-nil Good) (λ x ys g h. All-cons Good x ys g h) (λ x ys h. (All-head Good x ys h, All-tail Good x ys h)) xs

nothing_told : {X : Type 0} (op : ℕ) (Part : X → Piece) → plain_kind false (Sign op) ≡ Some false → ((x : X) → Tells (Part x) Nothing) → (xs : List X) → Tells (Divided op Part xs) Nothing
nothing_told op Part k f xs = tells_divided op Part (λ x. Nothing) (λ xs. Nothing) k f tt (λ x ys g h. tt) (λ x ys g. (tt, tt)) xs

elements : (xs : List RawName) → Follows (Elements xs) Nothing
elements [] = follows_absent
elements (x ∷ xs) = follows_by (JustSign EQUAL ⌢ JustSign OPEN_BRACE ⌢ Names (x ∷ xs) ⌢ JustSign CLOSE_BRACE) (tells_headed (JustSign OPEN_BRACE ⌢ Names (x ∷ xs) ⌢ JustSign CLOSE_BRACE) (Sign EQUAL) (anywhere (Sign EQUAL) refl refl) (tells_braces (Names (x ∷ xs)) (names (x ∷ xs))))

set : (s : RawSet) → Tells (Set s) Nothing
set s = beside_nothing (Set s) (tells_then (Declared s.name) (Elements s.elements) (declared s.name) (elements s.elements))

value : (v : RawValue) → Tells (Value v) (HasNoAddition v.value)
value v = beside_nothing (Value v) (tells_between (Declared v.name) (Term v.value 0) (Sign EQUAL) refl (declared v.name) (term v.value 0))

-- outputs and inputs may be absent: what stands behind them is told with them
outputs_then : {G : Type 0} (xs : List RawName) (A : Piece) → Tells A G → Tells (Outputs xs ⌢ A) G
outputs_then [] A f = record {
  good = λ b ts h g. subst (λ us. run plain_step b us ≡ Some false) (sym (h.2 ∙ ap (λ us. us ++ h.1) h.3)) (f.good b h.1 h.4 g);
  told = λ b e ts h r. f.told b e h.1 h.4 (subst (λ us. run plain_step b us ≡ Some e) (h.2 ∙ ap (λ us. us ++ h.1) h.3) r);
}
outputs_then (x ∷ xs) A f = beside_nothing ((Names (x ∷ xs) ⌢ JustSign OUTPUTS) ⌢ A) (tells_join (Names (x ∷ xs) ⌢ JustSign OUTPUTS) A (tells_ended (Names (x ∷ xs)) (Sign OUTPUTS) (anywhere (Sign OUTPUTS) refl refl) (names (x ∷ xs))) f)

inputs_then : {G : Type 0} (xs : List RawName) (A : Piece) → Tells A G → Tells (Inputs xs ⌢ A) G
inputs_then [] A f = record {
  good = λ b ts h g. subst (λ us. run plain_step b us ≡ Some false) (sym (h.2 ∙ ap (λ us. us ++ h.1) h.3)) (f.good b h.1 h.4 g);
  told = λ b e ts h r. f.told b e h.1 h.4 (subst (λ us. run plain_step b us ≡ Some e) (h.2 ∙ ap (λ us. us ++ h.1) h.3) r);
}
inputs_then (x ∷ xs) A f = beside_nothing (InParentheses (Names (x ∷ xs)) ⌢ A) (tells_join (InParentheses (Names (x ∷ xs))) A (tells_parentheses (Names (x ∷ xs)) (names (x ∷ xs))) f)

operation : (o : RawOperation) → Tells (Operation o) (SubHasNoAddition o.body)
operation o =
    outputs_then o.outputs (Declared o.name ⌢ Inputs o.inputs ⌢ JustSign EQUAL ⌢ Sub false o.body 1)
    (beside_nothing (Declared o.name ⌢ Inputs o.inputs ⌢ JustSign EQUAL ⌢ Sub false o.body 1) (tells_join (Declared o.name) (Inputs o.inputs ⌢ JustSign EQUAL ⌢ Sub false o.body 1) (declared o.name)
    (inputs_then o.inputs (JustSign EQUAL ⌢ Sub false o.body 1) (tells_headed (Sub false o.body 1) (Sign EQUAL) (anywhere (Sign EQUAL) refl refl) (substitution o.body 1)))))

parts : (w : ClauseWord) (p : ClauseParts) → Tells (Parts w p) (HaveNone p)
parts Sets (clause_sets ss) = nothing_told SEMICOLON Set refl set ss
parts Constants (clause_names xs) = names xs
parts ConcreteConstants (clause_names xs) = names xs
parts Properties (clause_term t) = term t 0
parts Variables (clause_names xs) = names xs
parts AbstractVariables (clause_names xs) = names xs
parts ConcreteVariables (clause_names xs) = names xs
parts Invariant (clause_term t) = term t 0
parts Assertions (clause_terms ts) = all_told SEMICOLON (λ t. Term t 0) HasNoAddition refl (λ t. term t 0) ts
parts Values (clause_values vs) = all_told SEMICOLON Value (λ v. HasNoAddition v.value) refl value vs
parts Initialisation (clause_sub s) = substitution s 0
parts Imports (clause_names xs) = names xs
parts Operations (clause_operations os) = all_told SEMICOLON Operation (λ o. SubHasNoAddition o.body) refl operation os
parts w p = tells_never (HaveNone p)

clause_word_true : (w : ClauseWord) → plain_kind true (Word (word_number w)) ≡ Some false
clause_word_true Sets = refl
clause_word_true _ = refl

clause_word_false : (w : ClauseWord) → plain_kind false (Word (word_number w)) ≡ Some false
clause_word_false Sets = refl
clause_word_false _ = refl

pub clause : (c : RawClause) → Tells (Clause c) (HaveNone c.parts)
clause c = beside_nothing (Clause c) (tells_join (JustAt c.at (Word (word_number c.word))) (Parts c.word c.parts) (tells_at c.at (Word (word_number c.word)) (anywhere (Word (word_number c.word)) (clause_word_true c.word) (clause_word_false c.word))) (parts c.word c.parts))

-- ---- what Following asks
pub within : (c : RawClause) (tokens cut front back : List Token) → IsCut tokens cut → tokens ++ cut ≡ front ++ back → Clause c front → ArePlain c.parts → (rest : List Token) × (tokens ≡ front ++ rest) × (back ≡ rest ++ cut)
within c tokens cut front back k e w h = cut_within (Clause c) (clause c) (none_of_plain c.parts h) tokens cut front back k e w

pub plain : (c : RawClause) (tokens cut front back : List Token) → IsCut tokens cut → tokens ≡ front ++ back → Clause c front → IsComplete c.parts → ArePlain c.parts
plain c tokens cut front back k e w h = plain_of_none c.parts (cut_plain (Clause c) (clause c) tokens cut front back k e w) h
