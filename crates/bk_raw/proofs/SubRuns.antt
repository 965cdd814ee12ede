-- A substitution closes what it opens, and no word or sign that ends it stands in it outside of blocks.
use Rattle.std.proofs.Common.{◌≡◌, ℕ, zero, suc, Bool, true, false, List, [], ◌∷◌, Some, refl, sym, subst, arith}
use Rattle.bk_form.specs.declared.token.Token.{Token}
use Rattle.bk_form.specs.declared.token.TokenKind.TheVariants.{Sign, Word}
use Rattle.bk_ops.specs.declared.sign.TheConstants.{ASSIGN, BECOMES_MEMBER, MEMBER, OPEN_PAREN, CLOSE_PAREN, OUTPUTS, PARALLEL, SEMICOLON}
use Rattle.bk_ops.specs.declared.word.TheConstants.{BEGIN, PRE, THEN, IF, ELSIF, ELSE, SELECT, WHEN, CHOICE, OR_BRANCH, ANY, LET, VAR, WHILE, ASSERT, SKIP}
use Rattle.bk_raw.specs.Grammar.Pieces.{JustSign, ◌⌢◌, JustWord}
use Rattle.bk_raw.specs.Grammar.Spelling.{Declared, Names, Term, Terms}
use Rattle.bk_raw.specs.Trees.RawTree.{RawTree, RawTrees, no_trees, tree_and}
use Rattle.bk_raw.specs.declared.term.RawName.{RawName}
use Rattle.bk_raw.specs.Trees.SubTree.{SubTree, sub, SubNode, sub_skip, sub_assign, sub_assign_at, sub_member, sub_such, sub_call, sub_begin, sub_pre, sub_assert, sub_if, sub_choice, sub_select, sub_any, sub_let, sub_var, sub_while, sub_parallel, sub_sequence, Branches, no_branches, else_branch, branch_and, Choices, no_choices, choice_and}
use Rattle.bk_raw.specs.Grammar.SubSpelling.{Applied, Called, Sub, Stated, Branched, Chosen}
use Rattle.bk_raw.proofs.Runs.{run}
use Rattle.bk_raw.proofs.Steps.{Piece, State, Stopper, step, nothing, Leads, leads-join, leads-just, leads-never, leads-in, Fewer, leads-fewer, fewer-nothing}
use Rattle.bk_raw.proofs.TermRuns.{ends_term, ends_terms, ends_names, fewer-terms, starting, term, all-terms, all-names, one-declared, flat-names, flat-declared}
use Rattle.bk_raw.proofs.Patterns.{Shaped, Fits, AllFit, walk, leads-shaped}
use Rattle.bk_raw.proofs.SubParts.{ends_list, ends_piece, ends_atom, fewer-list, fewer-piece, fewer-list-atom, fewer-atom, Part, of_name, of_names, of_term, of_terms, of_sub, of_branches, of_choices, SubPartKind, is_name, is_names, is_term, is_terms, is_sub, is_branches, is_choices, branch_word, Written, flat, shape_at}

-- what ends what stands in a place that asks so much
abbrev pub ends_at : ℕ → Stopper
ends_at zero = ends_list
ends_at (suc zero) = ends_piece
ends_at (suc (suc n)) = ends_atom

fewer-at : (m : ℕ) → Fewer (ends_at m) ends_atom
fewer-at zero = fewer-list-atom
fewer-at (suc zero) = fewer-piece
fewer-at (suc (suc n)) = λ b kind h. h

abbrev Ends : Stopper → Piece → Type 0
Ends stops A = Leads stops (0, false) (0, true) A

inner : (stops : Stopper) (A : Piece) → Ends stops A → Ends nothing A
inner stops A f = leads-fewer nothing stops (0, false) (0, true) A (fewer-nothing stops) f

none : (stops : Stopper) → Ends stops (λ ts. ⊥)
none stops = leads-never stops (0, false) (0, true)

-- ---- calls
applied-leads : (o : RawName) (us : RawTrees) → Leads ends_atom (0, false) (0, true) (Applied o us)
applied-leads o no_trees = flat-declared ends_atom (λ x. refl) o
applied-leads o (tree_and t us) =
    leads-join ends_atom (0, false) (0, true) (0, true) (Declared o) (JustSign OPEN_PAREN ⌢ Terms (tree_and t us) ⌢ JustSign CLOSE_PAREN) (flat-declared ends_atom (λ x. refl) o)
    (leads-in ends_atom true true (Sign OPEN_PAREN) (Sign CLOSE_PAREN) (Terms (tree_and t us)) refl refl (inner ends_terms (Terms (tree_and t us)) (all-terms (tree_and t us))))

called-leads : (xs : List RawName) (o : RawName) (us : RawTrees) → Leads ends_atom (0, false) (0, true) (Called xs o us)
called-leads [] o us = applied-leads o us
called-leads (x ∷ xs) o us =
    leads-join ends_atom (0, false) (0, true) (0, true) (Names (x ∷ xs)) (JustSign OUTPUTS ⌢ Applied o us) (flat-names ends_atom (λ x. refl) refl (x ∷ xs))
    (leads-join ends_atom (0, true) (0, false) (0, true) (JustSign OUTPUTS) (Applied o us) (leads-just ends_atom 0 true (0, false) (Sign OUTPUTS) refl) (applied-leads o us))

module _ (calls : Bool) where
  -- ---- parts
  abbrev Part-fits : Part → Type 0
  Part-fits p = Fits (Written calls) ends_atom flat p

  false-true : false ≡ true → ⊥
  false-true e = cc

  fit-term : (t : RawTree) → Part-fits (of_term t)
  fit-term t = (inside, outside)
    where
      inside : (k : SubPartKind) → Ends nothing (Written calls k (of_term t))
      inside is_term = inner ends_term (Term t 0) (term t 0)
      inside _ = none nothing

      outside : (k : SubPartKind) → flat k ≡ true → Ends ends_atom (Written calls k (of_term t))
      outside is_term e = leads-fewer ends_atom ends_terms (0, false) (0, true) (Term t 0) fewer-atom (leads-fewer ends_terms ends_term (0, false) (0, true) (Term t 0) fewer-terms (term t 0))
      outside _ e = none ends_atom

  fit-terms : (us : RawTrees) → Part-fits (of_terms us)
  fit-terms us = (inside, outside)
    where
      inside : (k : SubPartKind) → Ends nothing (Written calls k (of_terms us))
      inside is_terms = inner ends_terms (Terms us) (all-terms us)
      inside _ = none nothing

      outside : (k : SubPartKind) → flat k ≡ true → Ends ends_atom (Written calls k (of_terms us))
      outside is_terms e = leads-fewer ends_atom ends_terms (0, false) (0, true) (Terms us) fewer-atom (all-terms us)
      outside _ e = none ends_atom

  fit-names : (xs : List RawName) → Part-fits (of_names xs)
  fit-names xs = (inside, outside)
    where
      inside : (k : SubPartKind) → Ends nothing (Written calls k (of_names xs))
      inside is_names = inner ends_names (Names xs) (all-names xs)
      inside _ = none nothing

      outside : (k : SubPartKind) → flat k ≡ true → Ends ends_atom (Written calls k (of_names xs))
      outside is_names e = flat-names ends_atom (λ x. refl) refl xs
      outside _ e = none ends_atom

  fit-name : (x : RawName) → Part-fits (of_name x)
  fit-name x = (inside, outside)
    where
      inside : (k : SubPartKind) → Ends nothing (Written calls k (of_name x))
      inside is_name = inner ends_names (Declared x) (one-declared x)
      inside _ = none nothing

      outside : (k : SubPartKind) → flat k ≡ true → Ends ends_atom (Written calls k (of_name x))
      outside is_name e = flat-declared ends_atom (λ x. refl) x
      outside _ e = none ends_atom

  fit-sub : (s : SubTree) → Ends nothing (Sub calls s 0) → Part-fits (of_sub s)
  fit-sub s f = (inside, outside)
    where
      inside : (k : SubPartKind) → Ends nothing (Written calls k (of_sub s))
      inside is_sub = f
      inside _ = none nothing

      outside : (k : SubPartKind) → flat k ≡ true → Ends ends_atom (Written calls k (of_sub s))
      outside is_sub e = absurd (false-true e)
      outside _ e = none ends_atom

  fit-branches : (s : SubTree) (bs : Branches) → Ends nothing (Sub calls s 0) → ((elsif : Bool) → Leads nothing (0, true) (0, true) (Branched calls (branch_word elsif) bs)) → Part-fits (of_branches s bs)
  fit-branches s bs f g = (inside, outside)
    where
      inside : (k : SubPartKind) → Ends nothing (Written calls k (of_branches s bs))
      inside (is_branches elsif) = leads-join nothing (0, false) (0, true) (0, true) (Sub calls s 0) (Branched calls (branch_word elsif) bs) f (g elsif)
      inside _ = none nothing

      outside : (k : SubPartKind) → flat k ≡ true → Ends ends_atom (Written calls k (of_branches s bs))
      outside (is_branches elsif) e = absurd (false-true e)
      outside _ e = none ends_atom

  fit-choices : (s : SubTree) (cs : Choices) → Ends nothing (Sub calls s 0) → Leads nothing (0, true) (0, true) (Chosen calls cs) → Part-fits (of_choices s cs)
  fit-choices s cs f g = (inside, outside)
    where
      inside : (k : SubPartKind) → Ends nothing (Written calls k (of_choices s cs))
      inside is_choices = leads-join nothing (0, false) (0, true) (0, true) (Sub calls s 0) (Chosen calls cs) f g
      inside _ = none nothing

      outside : (k : SubPartKind) → flat k ≡ true → Ends ends_atom (Written calls k (of_choices s cs))
      outside is_choices e = absurd (false-true e)
      outside _ e = none ends_atom

  -- ---- atoms
  atom : (m tag : ℕ) (ps : List Part) (A : Piece) → walk ends_atom flat (shape_at tag) (0, false) ≡ Some (0, true) → AllFit (Written calls) ends_atom flat ps → ((ts : List Token) → A ts → Shaped (Written calls) (shape_at tag) ps ts) → Ends (ends_at m) A
  atom m tag ps A w f to = leads-fewer (ends_at m) ends_atom (0, false) (0, true) A (fewer-at m) (λ ts h. leads-shaped (Written calls) ends_atom flat (shape_at tag) ps 0 false (0, true) f w ts (to ts h))

  absent : (stops : Stopper) (s : State) → Leads stops s s (λ ts. ts ≡ [])
  absent stops s ts h = subst (λ us. run (step stops) s us ≡ Some s) (sym h) refl

  branch : (elsif : Bool) (A : Piece) → Ends nothing A → Leads nothing (0, true) (0, true) (JustWord (branch_word elsif) ⌢ A)
  branch true A f = leads-join nothing (0, true) (0, false) (0, true) (JustWord ELSIF) A (leads-just nothing 0 true (0, false) (Word ELSIF) refl) f
  branch false A f = leads-join nothing (0, true) (0, false) (0, true) (JustWord WHEN) A (leads-just nothing 0 true (0, false) (Word WHEN) refl) f

  joint : (op m : ℕ) (A B : Piece) (stops : Stopper) → Leads stops (0, true) (0, false) (JustSign op) → Ends stops A → Ends stops B → Ends stops (A ⌢ JustSign op ⌢ B)
  joint op m A B stops j f g = leads-join stops (0, false) (0, true) (0, true) A (JustSign op ⌢ B) f (leads-join stops (0, true) (0, false) (0, true) (JustSign op) B j g)

  inner-list : (s : SubTree) → Ends ends_list (Sub calls s 0) → Ends nothing (Sub calls s 0)
  inner-list s f = inner ends_list (Sub calls s 0) f

  mutual
    pub sub-leads : (s : SubTree) (m : ℕ) → Leads (ends_at m) (0, false) (0, true) (Sub calls s m)
    sub-leads (sub at node) m = starting (ends_at m) (0, false) (0, true) at (Stated calls node m) (node-leads node m)

    pub node-leads : (node : SubNode) (m : ℕ) → Leads (ends_at m) (0, false) (0, true) (Stated calls node m)
    node-leads sub_skip m = atom m SKIP [] (Stated calls sub_skip m) refl tt (λ ts h. h)
    node-leads (sub_assign xs us) m = atom m ASSIGN (of_names xs ∷ of_terms us ∷ []) (Stated calls (sub_assign xs us) m) refl (fit-names xs, (fit-terms us, tt)) (λ ts h. h)
    node-leads (sub_assign_at f x e) m = atom m OPEN_PAREN (of_name f ∷ of_term x ∷ of_term e ∷ []) (Stated calls (sub_assign_at f x e) m) refl (fit-name f, (fit-term x, (fit-term e, tt))) (λ ts h. h)
    node-leads (sub_member x e) m = atom m BECOMES_MEMBER (of_name x ∷ of_term e ∷ []) (Stated calls (sub_member x e) m) refl (fit-name x, (fit-term e, tt)) (λ ts h. h)
    node-leads (sub_such xs p) m = atom m MEMBER (of_names xs ∷ of_term p ∷ []) (Stated calls (sub_such xs p) m) refl (fit-names xs, (fit-term p, tt)) (λ ts h. h)
    node-leads (sub_call xs o us) m = λ ts h. leads-fewer (ends_at m) ends_atom (0, false) (0, true) (Called xs o us) (fewer-at m) (called-leads xs o us) ts h.0
    node-leads (sub_begin s) m = atom m BEGIN (of_sub s ∷ []) (Stated calls (sub_begin s) m) refl (fit-sub s (inner-list s (sub-leads s 0)), tt) (λ ts h. h)
    node-leads (sub_pre p s) m = atom m PRE (of_term p ∷ of_sub s ∷ []) (Stated calls (sub_pre p s) m) refl (fit-term p, (fit-sub s (inner-list s (sub-leads s 0)), tt)) (λ ts h. h)
    node-leads (sub_assert p s) m = atom m ASSERT (of_term p ∷ of_sub s ∷ []) (Stated calls (sub_assert p s) m) refl (fit-term p, (fit-sub s (inner-list s (sub-leads s 0)), tt)) (λ ts h. h)
    node-leads (sub_if p s bs) m = atom m IF (of_term p ∷ of_branches s bs ∷ []) (Stated calls (sub_if p s bs) m) refl (fit-term p, (fit-branches s bs (inner-list s (sub-leads s 0)) (λ elsif. branched-leads elsif bs), tt)) (λ ts h. h)
    node-leads (sub_choice s cs) m = atom m CHOICE (of_choices s cs ∷ []) (Stated calls (sub_choice s cs) m) refl (fit-choices s cs (inner-list s (sub-leads s 0)) (chosen-leads cs), tt) (λ ts h. h)
    node-leads (sub_select p s bs) m = atom m SELECT (of_term p ∷ of_branches s bs ∷ []) (Stated calls (sub_select p s bs) m) refl (fit-term p, (fit-branches s bs (inner-list s (sub-leads s 0)) (λ elsif. branched-leads elsif bs), tt)) (λ ts h. h)
    node-leads (sub_any xs p s) m = atom m ANY (of_names xs ∷ of_term p ∷ of_sub s ∷ []) (Stated calls (sub_any xs p s) m) refl (fit-names xs, (fit-term p, (fit-sub s (inner-list s (sub-leads s 0)), tt))) (λ ts h. h)
    node-leads (sub_let xs p s) m = atom m LET (of_names xs ∷ of_term p ∷ of_sub s ∷ []) (Stated calls (sub_let xs p s) m) refl (fit-names xs, (fit-term p, (fit-sub s (inner-list s (sub-leads s 0)), tt))) (λ ts h. h.0)
    node-leads (sub_var xs s) m = atom m VAR (of_names xs ∷ of_sub s ∷ []) (Stated calls (sub_var xs s) m) refl (fit-names xs, (fit-sub s (inner-list s (sub-leads s 0)), tt)) (λ ts h. h)
    node-leads (sub_while p s i v) m = atom m WHILE (of_term p ∷ of_sub s ∷ of_term i ∷ of_term v ∷ []) (Stated calls (sub_while p s i v) m) refl (fit-term p, (fit-sub s (inner-list s (sub-leads s 0)), (fit-term i, (fit-term v, tt)))) (λ ts h. h)
    node-leads (sub_parallel s t) zero =
        λ ts h. joint PARALLEL 0 (Sub calls s 1) (Sub calls t 2) ends_list (leads-just ends_list 0 true (0, false) (Sign PARALLEL) refl)
        (leads-fewer ends_list ends_piece (0, false) (0, true) (Sub calls s 1) fewer-list (sub-leads s 1))
        (leads-fewer ends_list ends_atom (0, false) (0, true) (Sub calls t 2) fewer-list-atom (sub-leads t 2)) ts h.1
    node-leads (sub_parallel s t) (suc zero) =
        λ ts h. joint PARALLEL 1 (Sub calls s 1) (Sub calls t 2) ends_piece (leads-just ends_piece 0 true (0, false) (Sign PARALLEL) refl)
        (sub-leads s 1)
        (leads-fewer ends_piece ends_atom (0, false) (0, true) (Sub calls t 2) fewer-piece (sub-leads t 2)) ts h.1
    node-leads (sub_parallel s t) (suc (suc m)) = λ ts h. absurd (omega (arith, h.0))
    node-leads (sub_sequence s t) zero =
        λ ts h. joint SEMICOLON 0 (Sub calls s 0) (Sub calls t 1) ends_list (leads-just ends_list 0 true (0, false) (Sign SEMICOLON) refl)
        (sub-leads s 0)
        (leads-fewer ends_list ends_piece (0, false) (0, true) (Sub calls t 1) fewer-list (sub-leads t 1)) ts h.1
    node-leads (sub_sequence s t) (suc m) = λ ts h. absurd (omega (arith, h.0))

    pub branched-leads : (elsif : Bool) (bs : Branches) → Leads nothing (0, true) (0, true) (Branched calls (branch_word elsif) bs)
    branched-leads elsif no_branches = absent nothing (0, true)
    branched-leads elsif (else_branch s) = leads-join nothing (0, true) (0, false) (0, true) (JustWord ELSE) (Sub calls s 0) (leads-just nothing 0 true (0, false) (Word ELSE) refl) (inner-list s (sub-leads s 0))
    branched-leads elsif (branch_and p s bs) =
        branch elsif (Term p 0 ⌢ JustWord THEN ⌢ (Sub calls s 0 ⌢ Branched calls (branch_word elsif) bs))
        (leads-join nothing (0, false) (0, true) (0, true) (Term p 0) (JustWord THEN ⌢ (Sub calls s 0 ⌢ Branched calls (branch_word elsif) bs)) (inner ends_term (Term p 0) (term p 0))
        (leads-join nothing (0, true) (0, false) (0, true) (JustWord THEN) (Sub calls s 0 ⌢ Branched calls (branch_word elsif) bs) (leads-just nothing 0 true (0, false) (Word THEN) refl)
        (leads-join nothing (0, false) (0, true) (0, true) (Sub calls s 0) (Branched calls (branch_word elsif) bs) (inner-list s (sub-leads s 0)) (branched-leads elsif bs))))

    pub chosen-leads : (cs : Choices) → Leads nothing (0, true) (0, true) (Chosen calls cs)
    chosen-leads no_choices = absent nothing (0, true)
    chosen-leads (choice_and s cs) =
        leads-join nothing (0, true) (0, false) (0, true) (JustWord OR_BRANCH) (Sub calls s 0 ⌢ Chosen calls cs) (leads-just nothing 0 true (0, false) (Word OR_BRANCH) refl)
        (leads-join nothing (0, false) (0, true) (0, true) (Sub calls s 0) (Chosen calls cs) (inner-list s (sub-leads s 0)) (chosen-leads cs))
