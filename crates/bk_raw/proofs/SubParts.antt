-- The shapes of the atoms of substitutions, and their parts.
use Rattle.std.proofs.Common.{ℕ, Bool, true, false, cond, List, [], ◌∷◌, refl}
use Rattle.std.specs.Prelude.{nat_eq, ◌||◌}
use Rattle.bk_form.specs.declared.token.TokenKind.TheVariants.{Sign, Word}
use Rattle.bk_ops.specs.declared.sign.TheConstants.{ASSIGN, BECOMES_MEMBER, MEMBER, OPEN_PAREN, CLOSE_PAREN, PARALLEL, SEMICOLON}
use Rattle.bk_ops.specs.declared.word.TheConstants.{END, BEGIN, PRE, THEN, IF, ELSIF, SELECT, WHEN, CHOICE, ANY, WHERE, LET, BE, IN, VAR, WHILE, DO, INVARIANT, VARIANT, ASSERT, SKIP}
use Rattle.bk_raw.specs.Grammar.Pieces.{Never, ◌⌢◌}
use Rattle.bk_raw.specs.Grammar.Spelling.{Declared, Names, Term, Terms}
use Rattle.bk_raw.specs.Trees.RawTree.{RawTree, RawTrees}
use Rattle.bk_raw.specs.declared.term.RawName.{RawName}
use Rattle.bk_raw.specs.Trees.SubTree.{SubTree, SubNode, sub_skip, sub_assign, sub_assign_at, sub_member, sub_such, sub_call, sub_begin, sub_pre, sub_assert, sub_if, sub_choice, sub_select, sub_any, sub_let, sub_var, sub_while, sub_parallel, sub_sequence, Branches, Choices}
use Rattle.bk_raw.specs.Grammar.SubSpelling.{Sub, Branched, Chosen}
use Rattle.bk_raw.proofs.Steps.{Piece, Stopper, nothing, Fewer}
use Rattle.bk_raw.proofs.TermRuns.{ends_word, ends_term, ends_terms, ends_names, or-left}
use Rattle.bk_raw.proofs.Patterns.{Shape, last_token, last_part, token_and, part_and}

-- ---- what ends a list, a piece, an atom
abbrev pub ends_list : Stopper
ends_list b (Word op) = ends_word op
ends_list b _ = false

abbrev pub ends_piece : Stopper
ends_piece b (Word op) = ends_word op
ends_piece b (Sign op) = nat_eq op SEMICOLON
ends_piece b _ = false

abbrev pub ends_atom : Stopper
ends_atom b (Word op) = ends_word op
ends_atom b (Sign op) = nat_eq op SEMICOLON || nat_eq op PARALLEL
ends_atom b _ = false

pub fewer-list : Fewer ends_list ends_piece
fewer-list b (Word op) h = h
fewer-list b _ h = refl

pub fewer-piece : Fewer ends_piece ends_atom
fewer-piece b (Word op) h = h
fewer-piece b (Sign op) h = or-left (nat_eq op SEMICOLON) (nat_eq op PARALLEL) h
fewer-piece b _ h = refl

pub fewer-list-atom : Fewer ends_list ends_atom
fewer-list-atom b kind h = fewer-list b kind (fewer-piece b kind h)

pub fewer-atom : Fewer ends_atom ends_terms
fewer-atom b (Word op) h = h
fewer-atom b (Sign op) h = h
fewer-atom b _ h = refl

-- ---- parts
pub data Part : Type 0 where
  of_name : RawName → Part
  of_names : List RawName → Part
  of_term : RawTree → Part
  of_terms : RawTrees → Part
  of_sub : SubTree → Part
  of_branches : SubTree → Branches → Part
  of_choices : SubTree → Choices → Part

-- of branches whether their word is ELSIF, or WHEN
pub data SubPartKind : Type 0 where
  is_name : SubPartKind
  is_names : SubPartKind
  is_term : SubPartKind
  is_terms : SubPartKind
  is_sub : SubPartKind
  is_branches : Bool → SubPartKind
  is_choices : SubPartKind

abbrev pub branch_word : Bool → ℕ
branch_word true = ELSIF
branch_word false = WHEN

-- where operations are called if `calls` says so
abbrev pub Written : (calls : Bool) → SubPartKind → Part → Piece
Written calls is_name (of_name x) = Declared x
Written calls is_names (of_names xs) = Names xs
Written calls is_term (of_term t) = Term t 0
Written calls is_terms (of_terms ts) = Terms ts
Written calls is_sub (of_sub s) = Sub calls s 0
Written calls (is_branches elsif) (of_branches s bs) = Sub calls s 0 ⌢ Branched calls (branch_word elsif) bs
Written calls is_choices (of_choices s cs) = Sub calls s 0 ⌢ Chosen calls cs
Written calls _ _ = Never

-- where each is cut
abbrev pub own : SubPartKind → Stopper
own is_name = ends_names
own is_names = ends_names
own is_term = ends_term
own is_terms = ends_terms
own is_sub = ends_list
own (is_branches elsif) = nothing
own is_choices = nothing

-- which stand outside of blocks
abbrev pub flat : SubPartKind → Bool
flat is_name = true
flat is_names = true
flat is_term = true
flat is_terms = true
flat is_sub = false
flat (is_branches elsif) = false
flat is_choices = false

-- ---- shapes, by the number of the sign or word that tells an atom
abbrev word_and : ℕ → Shape SubPartKind → Shape SubPartKind
word_and op = token_and (Word op)

abbrev sign_and : ℕ → Shape SubPartKind → Shape SubPartKind
sign_and op = token_and (Sign op)

abbrev ended : SubPartKind → Shape SubPartKind
ended k = part_and k (last_token (Word END))

abbrev pub shape_at : ℕ → Shape SubPartKind
shape_at n =
    cond (nat_eq n SKIP) (last_token (Word SKIP))
    (cond (nat_eq n ASSIGN) (part_and is_names (sign_and ASSIGN (last_part is_terms)))
    (cond (nat_eq n OPEN_PAREN) (part_and is_name (sign_and OPEN_PAREN (part_and is_term (sign_and CLOSE_PAREN (sign_and ASSIGN (last_part is_term))))))
    (cond (nat_eq n BECOMES_MEMBER) (part_and is_name (sign_and BECOMES_MEMBER (last_part is_term)))
    (cond (nat_eq n MEMBER) (part_and is_names (sign_and MEMBER (sign_and OPEN_PAREN (part_and is_term (last_token (Sign CLOSE_PAREN))))))
    (cond (nat_eq n BEGIN) (word_and BEGIN (ended is_sub))
    (cond (nat_eq n PRE) (word_and PRE (part_and is_term (word_and THEN (ended is_sub))))
    (cond (nat_eq n ASSERT) (word_and ASSERT (part_and is_term (word_and THEN (ended is_sub))))
    (cond (nat_eq n IF) (word_and IF (part_and is_term (word_and THEN (ended (is_branches true)))))
    (cond (nat_eq n CHOICE) (word_and CHOICE (ended is_choices))
    (cond (nat_eq n SELECT) (word_and SELECT (part_and is_term (word_and THEN (ended (is_branches false)))))
    (cond (nat_eq n ANY) (word_and ANY (part_and is_names (word_and WHERE (part_and is_term (word_and THEN (ended is_sub))))))
    (cond (nat_eq n LET) (word_and LET (part_and is_names (word_and BE (part_and is_term (word_and IN (ended is_sub))))))
    (cond (nat_eq n VAR) (word_and VAR (part_and is_names (word_and IN (ended is_sub))))
    (word_and WHILE (part_and is_term (word_and DO (part_and is_sub (word_and INVARIANT (part_and is_term (word_and VARIANT (ended is_term)))))))))))))))))))))

-- a call has no shape here: it is told from other atoms by hand
abbrev pub tag : SubNode → ℕ
tag sub_skip = SKIP
tag (sub_assign xs ts) = ASSIGN
tag (sub_assign_at f x e) = OPEN_PAREN
tag (sub_member x e) = BECOMES_MEMBER
tag (sub_such xs p) = MEMBER
tag (sub_call xs o ts) = 0
tag (sub_begin s) = BEGIN
tag (sub_pre p s) = PRE
tag (sub_assert p s) = ASSERT
tag (sub_if p s bs) = IF
tag (sub_choice s cs) = CHOICE
tag (sub_select p s bs) = SELECT
tag (sub_any xs p s) = ANY
tag (sub_let xs p s) = LET
tag (sub_var xs s) = VAR
tag (sub_while p s i v) = WHILE
tag (sub_parallel s t) = PARALLEL
tag (sub_sequence s t) = SEMICOLON

abbrev pub parts : SubNode → List Part
parts sub_skip = []
parts (sub_assign xs ts) = of_names xs ∷ of_terms ts ∷ []
parts (sub_assign_at f x e) = of_name f ∷ of_term x ∷ of_term e ∷ []
parts (sub_member x e) = of_name x ∷ of_term e ∷ []
parts (sub_such xs p) = of_names xs ∷ of_term p ∷ []
parts (sub_call xs o ts) = []
parts (sub_begin s) = of_sub s ∷ []
parts (sub_pre p s) = of_term p ∷ of_sub s ∷ []
parts (sub_assert p s) = of_term p ∷ of_sub s ∷ []
parts (sub_if p s bs) = of_term p ∷ of_branches s bs ∷ []
parts (sub_choice s cs) = of_choices s cs ∷ []
parts (sub_select p s bs) = of_term p ∷ of_branches s bs ∷ []
parts (sub_any xs p s) = of_names xs ∷ of_term p ∷ of_sub s ∷ []
parts (sub_let xs p s) = of_names xs ∷ of_term p ∷ of_sub s ∷ []
parts (sub_var xs s) = of_names xs ∷ of_sub s ∷ []
parts (sub_while p s i v) = of_term p ∷ of_sub s ∷ of_term i ∷ of_term v ∷ []
parts (sub_parallel s t) = of_sub s ∷ of_sub t ∷ []
parts (sub_sequence s t) = of_sub s ∷ of_sub t ∷ []

-- the atom with a tag and parts
abbrev by_names : List Part → SubNode
by_names (of_names xs ∷ of_terms ts ∷ []) = sub_assign xs ts
by_names (of_names xs ∷ of_term p ∷ []) = sub_such xs p
by_names (of_names xs ∷ of_sub s ∷ []) = sub_var xs s
by_names _ = sub_skip

abbrev by_name : List Part → SubNode
by_name (of_name f ∷ of_term x ∷ of_term e ∷ []) = sub_assign_at f x e
by_name (of_name x ∷ of_term e ∷ []) = sub_member x e
by_name _ = sub_skip

abbrev by_block : List Part → SubNode
by_block (of_sub s ∷ []) = sub_begin s
by_block (of_choices s cs ∷ []) = sub_choice s cs
by_block (of_term p ∷ of_sub s ∷ of_term i ∷ of_term v ∷ []) = sub_while p s i v
by_block _ = sub_skip

abbrev by_test : (RawTree → SubTree → SubNode) → List Part → SubNode
by_test make (of_term p ∷ of_sub s ∷ []) = make p s
by_test make _ = sub_skip

abbrev by_branches : (RawTree → SubTree → Branches → SubNode) → List Part → SubNode
by_branches make (of_term p ∷ of_branches s bs ∷ []) = make p s bs
by_branches make _ = sub_skip

abbrev by_binder : (List RawName → RawTree → SubTree → SubNode) → List Part → SubNode
by_binder make (of_names xs ∷ of_term p ∷ of_sub s ∷ []) = make xs p s
by_binder make _ = sub_skip

abbrev pub back : ℕ → List Part → SubNode
back n ps =
    cond (nat_eq n ASSIGN || nat_eq n MEMBER || nat_eq n VAR) (by_names ps)
    (cond (nat_eq n OPEN_PAREN || nat_eq n BECOMES_MEMBER) (by_name ps)
    (cond (nat_eq n BEGIN || nat_eq n CHOICE || nat_eq n WHILE) (by_block ps)
    (cond (nat_eq n PRE) (by_test sub_pre ps)
    (cond (nat_eq n ASSERT) (by_test sub_assert ps)
    (cond (nat_eq n IF) (by_branches sub_if ps)
    (cond (nat_eq n SELECT) (by_branches sub_select ps)
    (cond (nat_eq n ANY) (by_binder sub_any ps)
    (cond (nat_eq n LET) (by_binder sub_let ps) sub_skip))))))))
