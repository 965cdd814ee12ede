-- Two substitutions that are written as the same tokens are the same.
use Rattle.std.proofs.Common.{append-nil, ◌≡◌, ◌⊎◌, inl, inr, ℕ, Bool, true, false, List, [], ◌∷◌, ◌++◌, Some, None, refl, sym, ◌∙◌, ap, subst, arith}
use Rattle.bk_form.specs.declared.token.Token.{Token}
use Rattle.bk_form.specs.declared.token.TokenKind.{TokenKind}
use Rattle.bk_form.specs.declared.token.TokenKind.TheVariants.{Name, Sign, Word}
use Rattle.bk_ops.specs.declared.sign.TheConstants.{ASSIGN, BECOMES_MEMBER, MEMBER, OPEN_PAREN, CLOSE_PAREN, OUTPUTS, PARALLEL, SEMICOLON, COMMA}
use Rattle.bk_ops.specs.declared.word.TheConstants.{BEGIN, PRE, THEN, IF, ELSIF, ELSE, SELECT, WHEN, CHOICE, OR_BRANCH, ANY, LET, VAR, WHILE, ASSERT, SKIP, END, WHERE, BE, IN, DO, INVARIANT, VARIANT}
use Rattle.bk_raw.specs.Grammar.Pieces.{Just, JustSign, ◌⌢◌, JustWord}
use Rattle.bk_raw.specs.Grammar.Spelling.{Declared, Names, Term, Terms}
use Rattle.bk_raw.specs.Trees.RawTree.{RawTree, RawTrees, no_trees, tree_and}
use Rattle.bk_raw.specs.declared.term.RawName.{RawName}
use Rattle.bk_raw.proofs.Exact.{one_for_its_tokens}
use Rattle.bk_raw.specs.Trees.SubTree.{SubTree, sub, SubNode, sub_skip, sub_assign, sub_assign_at, sub_member, sub_such, sub_call, sub_begin, sub_pre, sub_assert, sub_if, sub_choice, sub_select, sub_any, sub_let, sub_var, sub_while, sub_parallel, sub_sequence, Branches, no_branches, else_branch, branch_and, Choices, no_choices, choice_and}
use Rattle.bk_raw.specs.Grammar.SubSpelling.{Applied, Called, Sub, Stated, Branched, Chosen, SpellsSub}
use Rattle.bk_raw.proofs.Runs.{run, Halts, last-split, no-divider}
use Rattle.bk_raw.proofs.Steps.{Piece, State, Stopper, step, stepped, nothing, Leads, fewer-extends, fewer-nothing, leads-fewer, leads-never, leads-join}
use Rattle.bk_raw.proofs.TermRuns.{ends_term, ends_terms, ends_names, fewer-terms, term, all-terms, all-names, one-declared}
use Rattle.bk_raw.proofs.Patterns.{Shaped, IsOne, AreOne, AllLead, is_cut, one-shaped, Both, first, last, same-token, same-piece, StopsAt, stops-just, stops-last, just-none}
use Rattle.bk_raw.proofs.SubParts.{ends_list, ends_piece, ends_atom, Part, of_name, of_names, of_term, of_terms, of_sub, of_branches, of_choices, is_name, is_names, is_term, is_terms, is_sub, is_branches, is_choices, branch_word, Written, own, shape_at, tag, parts, back}
use Rattle.bk_raw.proofs.SubRuns.{ends_at, sub-leads, node-leads, branched-leads, chosen-leads}
use Rattle.bk_raw.proofs.SubLeads.{lead, lead-word, lead-last, lead-behind, lead-alone}

-- ---- names and terms
pub just-same : (s t : TokenKind) (ts : List Token) → Just s ts → Just t ts → s ≡ t
just-same s t ts h k =
    let e : h.0 ∷ [] ≡ k.0 ∷ [] = sym h.1 ∙ k.1 in
    let same : h.0 ≡ k.0 = cc in
    sym h.2 ∙ ap (λ u. u.kind) same ∙ k.2

texts-same : (x y : List ℕ) → Name x ≡ Name y → x ≡ y
texts-same x y e = cc

pub words-same : (m n : ℕ) → Word m ≡ Word n → m ≡ n
words-same m n e = cc

pub one-name : (x y : RawName) (ts : List Token) → Declared x ts → Declared y ts → x ≡ y
one-name x y ts h k =
    let e : h.0 ∷ [] ≡ k.0 ∷ [] = sym h.1 ∙ k.1 in
    let same : h.0 ≡ k.0 = cc in
    let text : x.text ≡ y.text = texts-same x.text y.text (sym h.2 ∙ ap (λ u. u.kind) same ∙ k.2) in
    let at : x.at ≡ y.at = sym h.3 ∙ ap (λ u. u.start) same ∙ k.3 in
    λ i. record { text = text i; at = at i }

-- one, or more behind a divider
pub names-cut : (x y : RawName) (K L : Piece) (ts : List Token) → (Declared x ⌢ K) ts → (Declared y ⌢ L) ts → (x ≡ y) × Both K L
names-cut x y K L ts h k =
    let s = same-piece ends_alone (0, false) (0, true) (0, true) (Declared x) (Declared y) K L ts (alone-leads x) (alone-leads y) (stops-any K) (stops-any L) h k in
    (one-name x y s.0 s.1 s.2, s.3)
  where
    ends_alone : Stopper
    ends_alone b kind = b

    alone-leads : (z : RawName) → Leads ends_alone (0, false) (0, true) (Declared z)
    alone-leads z us w = subst (λ vs. run (step ends_alone) (0, false) vs ≡ Some (0, true)) (sym w.1) (subst (λ k. run (step ends_alone) (0, false) (record { kind = k; start = w.0.start; end = w.0.end } ∷ []) ≡ Some (0, true)) (sym w.2) refl)

    stops-any : (K : Piece) → StopsAt ends_alone (0, true) K
    stops-any K [] w = tt
    stops-any K (u ∷ us) w = refl

pub alone : (A : Piece) (ts : List Token) → A ts → (A ⌢ (λ us. us ≡ [])) ts
alone A ts h = (ts, [], sym (append-nil ts), h, refl)

-- nothing is behind the one, and a token behind the other
pub nothing-token : (kind : TokenKind) (L : Piece) → Both (λ us. us ≡ []) (Just kind ⌢ L) → ⊥
nothing-token kind L b = just-none kind L (subst (Just kind ⌢ L) b.1 b.2)

pub one-names : (xs ys : List RawName) (ts : List Token) → Names xs ts → Names ys ts → xs ≡ ys
one-names [] ys ts h k = absurd h
one-names (x ∷ xs) [] ts h k = absurd k
one-names (x ∷ []) (y ∷ []) ts h k = ap (λ z. z ∷ []) (one-name x y ts h k)
one-names (x ∷ []) (y ∷ z ∷ zs) ts h k =
    let c = names-cut x y (λ us. us ≡ []) (JustSign COMMA ⌢ Names (z ∷ zs)) ts (alone (Declared x) ts h) k in
    absurd (nothing-token (Sign COMMA) (Names (z ∷ zs)) c.1)
one-names (x ∷ z ∷ zs) (y ∷ []) ts h k =
    let c = names-cut y x (λ us. us ≡ []) (JustSign COMMA ⌢ Names (z ∷ zs)) ts (alone (Declared y) ts k) h in
    absurd (nothing-token (Sign COMMA) (Names (z ∷ zs)) c.1)
one-names (x ∷ w ∷ ws) (y ∷ z ∷ zs) ts h k =
    let c = names-cut x y (JustSign COMMA ⌢ Names (w ∷ ws)) (JustSign COMMA ⌢ Names (z ∷ zs)) ts h k in
    let d = same-token (Sign COMMA) (Sign COMMA) (Names (w ∷ ws)) (Names (z ∷ zs)) c.1.0 c.1.1 c.1.2 in
    let e = one-names (w ∷ ws) (z ∷ zs) d.1.0 d.1.1 d.1.2 in
    λ i. c.0 i ∷ e i

pub stops-nothing : (stops : Stopper) (e : State) → StopsAt stops e (λ us. us ≡ [])
stops-nothing stops e us h = subst (Halts (step stops) e) (sym h) tt

pub term-cut : (t u : RawTree) (K L : Piece) (ts : List Token) → StopsAt ends_term (0, true) K → StopsAt ends_term (0, true) L → (Term t 0 ⌢ K) ts → (Term u 0 ⌢ L) ts → (t ≡ u) × Both K L
term-cut t u K L ts sk sl h k =
    let s = same-piece ends_term (0, false) (0, true) (0, true) (Term t 0) (Term u 0) K L ts (term t 0) (term u 0) sk sl h k in
    (one_for_its_tokens s.0 t u s.1 s.2, s.3)

comma-stops : (K : Piece) → StopsAt ends_term (0, true) (JustSign COMMA ⌢ K)
comma-stops K = stops-just ends_term 0 true (Sign COMMA) K refl

pub one-terms : (us vs : RawTrees) (ts : List Token) → Terms us ts → Terms vs ts → us ≡ vs
one-terms no_trees vs ts h k = absurd h
one-terms (tree_and t us) no_trees ts h k = absurd k
one-terms (tree_and t no_trees) (tree_and u no_trees) ts h k = ap (λ z. tree_and z no_trees) (one_for_its_tokens ts t u h k)
one-terms (tree_and t no_trees) (tree_and u (tree_and v vs)) ts h k =
    let c = term-cut t u (λ us. us ≡ []) (JustSign COMMA ⌢ Terms (tree_and v vs)) ts (stops-nothing ends_term (0, true)) (comma-stops (Terms (tree_and v vs))) (alone (Term t 0) ts h) k in
    absurd (nothing-token (Sign COMMA) (Terms (tree_and v vs)) c.1)
one-terms (tree_and t (tree_and v vs)) (tree_and u no_trees) ts h k =
    let c = term-cut u t (λ us. us ≡ []) (JustSign COMMA ⌢ Terms (tree_and v vs)) ts (stops-nothing ends_term (0, true)) (comma-stops (Terms (tree_and v vs))) (alone (Term u 0) ts k) h in
    absurd (nothing-token (Sign COMMA) (Terms (tree_and v vs)) c.1)
one-terms (tree_and t (tree_and v vs)) (tree_and u (tree_and w ws)) ts h k =
    let c = term-cut t u (JustSign COMMA ⌢ Terms (tree_and v vs)) (JustSign COMMA ⌢ Terms (tree_and w ws)) ts (comma-stops (Terms (tree_and v vs))) (comma-stops (Terms (tree_and w ws))) h k in
    let d = same-token (Sign COMMA) (Sign COMMA) (Terms (tree_and v vs)) (Terms (tree_and w ws)) c.1.0 c.1.1 c.1.2 in
    let e = one-terms (tree_and v vs) (tree_and w ws) d.1.0 d.1.1 d.1.2 in
    λ i. tree_and (c.0 i) (e i)

-- ---- calls
-- what is applied is one, whatever stands behind
one-applied : (n p : RawName) (us vs : RawTrees) (ts : List Token) → Applied n us ts → Applied p vs ts → (n ≡ p) × (us ≡ vs)
one-applied n p no_trees no_trees ts h k = (one-name n p ts h k, refl)
one-applied n p no_trees (tree_and v vs) ts h k =
    let c = names-cut n p (λ us. us ≡ []) (JustSign OPEN_PAREN ⌢ Terms (tree_and v vs) ⌢ JustSign CLOSE_PAREN) ts (alone (Declared n) ts h) k in
    absurd (nothing-token (Sign OPEN_PAREN) (Terms (tree_and v vs) ⌢ JustSign CLOSE_PAREN) c.1)
one-applied n p (tree_and t us) no_trees ts h k =
    let c = names-cut p n (λ us. us ≡ []) (JustSign OPEN_PAREN ⌢ Terms (tree_and t us) ⌢ JustSign CLOSE_PAREN) ts (alone (Declared p) ts k) h in
    absurd (nothing-token (Sign OPEN_PAREN) (Terms (tree_and t us) ⌢ JustSign CLOSE_PAREN) c.1)
one-applied n p (tree_and t us) (tree_and v vs) ts h k =
    let A = Terms (tree_and t us) ⌢ JustSign CLOSE_PAREN in
    let B = Terms (tree_and v vs) ⌢ JustSign CLOSE_PAREN in
    let c = names-cut n p (JustSign OPEN_PAREN ⌢ A) (JustSign OPEN_PAREN ⌢ B) ts h k in
    let d = same-token (Sign OPEN_PAREN) (Sign OPEN_PAREN) A B c.1.0 c.1.1 c.1.2 in
    let s = same-piece ends_terms (0, false) (0, true) (0, true) (Terms (tree_and t us)) (Terms (tree_and v vs)) (JustSign CLOSE_PAREN) (JustSign CLOSE_PAREN) d.1.0 (all-terms (tree_and t us)) (all-terms (tree_and v vs)) (stops-last ends_terms 0 true (Sign CLOSE_PAREN) refl) (stops-last ends_terms 0 true (Sign CLOSE_PAREN) refl) d.1.1 d.1.2 in
    (c.0, one-terms (tree_and t us) (tree_and v vs) s.0 s.1 s.2)

-- the sign behind what is applied, if one follows
applied-led : (n : RawName) (us : RawTrees) (ts : List Token) → Applied n us ts → lead ts ≡ OUTPUTS → ⊥
applied-led n no_trees ts h e = omega (arith, e, lead-alone n ts h)
applied-led n (tree_and t us) ts h e = omega (arith, e, lead-behind (n ∷ []) OPEN_PAREN (Terms (tree_and t us) ⌢ JustSign CLOSE_PAREN) ts refl h)

-- no atom is told by <--
pub no-outputs-tag : (v : SubNode) → tag v ≡ OUTPUTS → ⊥
no-outputs-tag sub_skip e = omega (arith, e)
no-outputs-tag _ e = omega (arith, e)

-- two calls
pub one-called : (xs ys : List RawName) (n p : RawName) (us vs : RawTrees) (ts : List Token) → Called xs n us ts → Called ys p vs ts → (xs ≡ ys) × (n ≡ p) × (us ≡ vs)
one-called [] [] n p us vs ts h k = let a = one-applied n p us vs ts h k in (refl, a.0, a.1)
one-called [] (y ∷ ys) n p us vs ts h k = absurd (applied-led n us ts h (lead-behind (y ∷ ys) OUTPUTS (Applied p vs) ts refl k))
one-called (x ∷ xs) [] n p us vs ts h k = absurd (applied-led p vs ts k (lead-behind (x ∷ xs) OUTPUTS (Applied n us) ts refl h))
one-called (x ∷ xs) (y ∷ ys) n p us vs ts h k =
    let K = JustSign OUTPUTS ⌢ Applied n us in
    let L = JustSign OUTPUTS ⌢ Applied p vs in
    let c = same-piece ends_names (0, false) (0, true) (0, true) (Names (x ∷ xs)) (Names (y ∷ ys)) K L ts (all-names (x ∷ xs)) (all-names (y ∷ ys)) (stops-just ends_names 0 true (Sign OUTPUTS) (Applied n us) refl) (stops-just ends_names 0 true (Sign OUTPUTS) (Applied p vs) refl) h k in
    let d = same-token (Sign OUTPUTS) (Sign OUTPUTS) (Applied n us) (Applied p vs) c.3.0 c.3.1 c.3.2 in
    let a = one-applied n p us vs d.1.0 d.1.1 d.1.2 in
    (one-names (x ∷ xs) (y ∷ ys) c.0 c.1 c.2, a.0, a.1)

-- op(e, f) and f(x) := e
not-assigned : (n : RawName) (t : RawTree) (us : RawTrees) (f : RawName) (x : RawTree) (E : Piece) (ts : List Token) → Applied n (tree_and t us) ts → (Declared f ⌢ JustSign OPEN_PAREN ⌢ Term x 0 ⌢ JustSign CLOSE_PAREN ⌢ JustSign ASSIGN ⌢ E) ts → ⊥
not-assigned n t us f x E ts h k =
    let A = Terms (tree_and t us) ⌢ JustSign CLOSE_PAREN in
    let B = Term x 0 ⌢ JustSign CLOSE_PAREN ⌢ JustSign ASSIGN ⌢ E in
    let c = names-cut n f (JustSign OPEN_PAREN ⌢ A) (JustSign OPEN_PAREN ⌢ B) ts h k in
    let d = same-token (Sign OPEN_PAREN) (Sign OPEN_PAREN) A B c.1.0 c.1.1 c.1.2 in
    let s = same-piece ends_terms (0, false) (0, true) (0, true) (Terms (tree_and t us)) (Term x 0) (JustSign CLOSE_PAREN) (JustSign CLOSE_PAREN ⌢ JustSign ASSIGN ⌢ E) d.1.0 (all-terms (tree_and t us)) (leads-fewer ends_terms ends_term (0, false) (0, true) (Term x 0) fewer-terms (term x 0)) (stops-last ends_terms 0 true (Sign CLOSE_PAREN) refl) (stops-just ends_terms 0 true (Sign CLOSE_PAREN) (JustSign ASSIGN ⌢ E) refl) d.1.1 d.1.2 in
    let g = same-token (Sign CLOSE_PAREN) (Sign CLOSE_PAREN) (λ us. us ≡ []) (JustSign ASSIGN ⌢ E) s.3.0 (last (Sign CLOSE_PAREN) s.3.0 s.3.1) s.3.2 in
    nothing-token (Sign ASSIGN) E g.1

module _ (calls : Bool) where
  -- ---- parts
  abbrev pub OnePart : Part → Type 0
  OnePart p = IsOne (Written calls) p

  part-name : (x : RawName) → OnePart (of_name x)
  part-name x is_name (of_name y) ts h k = ap of_name (one-name x y ts h k)
  part-name x is_name _ ts h k = absurd k
  part-name x _ q ts h k = absurd h

  part-names : (xs : List RawName) → OnePart (of_names xs)
  part-names xs is_names (of_names ys) ts h k = ap of_names (one-names xs ys ts h k)
  part-names xs is_names _ ts h k = absurd k
  part-names xs _ q ts h k = absurd h

  part-term : (t : RawTree) → OnePart (of_term t)
  part-term t is_term (of_term u) ts h k = ap of_term (one_for_its_tokens ts t u h k)
  part-term t is_term _ ts h k = absurd k
  part-term t _ q ts h k = absurd h

  part-terms : (us : RawTrees) → OnePart (of_terms us)
  part-terms us is_terms (of_terms vs) ts h k = ap of_terms (one-terms us vs ts h k)
  part-terms us is_terms _ ts h k = absurd k
  part-terms us _ q ts h k = absurd h

  -- a substitution is the only one in its place
  abbrev pub OneSub : SubTree → Type 0
  OneSub s = (m : ℕ) (t : SubTree) (ts : List Token) → Sub calls s m ts → Sub calls t m ts → s ≡ t

  part-sub : (s : SubTree) → OneSub s → OnePart (of_sub s)
  part-sub s o is_sub (of_sub t) ts h k = ap of_sub (o 0 t ts h k)
  part-sub s o is_sub _ ts h k = absurd k
  part-sub s o _ q ts h k = absurd h

  -- ---- branches
  abbrev pub OneBranches : Branches → Type 0
  OneBranches bs = (elsif : Bool) (cs : Branches) (ts : List Token) → Branched calls (branch_word elsif) bs ts → Branched calls (branch_word elsif) cs ts → bs ≡ cs

  abbrev pub OneChoices : Choices → Type 0
  OneChoices cs = (ds : Choices) (ts : List Token) → Chosen calls cs ts → Chosen calls ds ts → cs ≡ ds

  word-stops : (elsif : Bool) (K : Piece) → StopsAt ends_list (0, true) (JustWord (branch_word elsif) ⌢ K)
  word-stops true K = stops-just ends_list 0 true (Word ELSIF) K refl
  word-stops false K = stops-just ends_list 0 true (Word WHEN) K refl

  branched-stops : (elsif : Bool) (bs : Branches) → StopsAt ends_list (0, true) (Branched calls (branch_word elsif) bs)
  branched-stops elsif no_branches = stops-nothing ends_list (0, true)
  branched-stops elsif (else_branch s) = stops-just ends_list 0 true (Word ELSE) (Sub calls s 0) refl
  branched-stops elsif (branch_and p s bs) = word-stops elsif (Term p 0 ⌢ JustWord THEN ⌢ (Sub calls s 0 ⌢ Branched calls (branch_word elsif) bs))

  chosen-stops : (cs : Choices) → StopsAt ends_list (0, true) (Chosen calls cs)
  chosen-stops no_choices = stops-nothing ends_list (0, true)
  chosen-stops (choice_and s cs) = stops-just ends_list 0 true (Word OR_BRANCH) (Sub calls s 0 ⌢ Chosen calls cs) refl

  sub-cut : (s t : SubTree) (K L : Piece) (ts : List Token) → OneSub s → StopsAt ends_list (0, true) K → StopsAt ends_list (0, true) L → (Sub calls s 0 ⌢ K) ts → (Sub calls t 0 ⌢ L) ts → (s ≡ t) × Both K L
  sub-cut s t K L ts o sk sl h k =
      let c = same-piece ends_list (0, false) (0, true) (0, true) (Sub calls s 0) (Sub calls t 0) K L ts (sub-leads calls s 0) (sub-leads calls t 0) sk sl h k in
      (o 0 t c.0 c.1 c.2, c.3)

  part-branches : (s : SubTree) (bs : Branches) → OneSub s → OneBranches bs → OnePart (of_branches s bs)
  part-branches s bs o ob (is_branches elsif) (of_branches t cs) ts h k =
      let c = sub-cut s t (Branched calls (branch_word elsif) bs) (Branched calls (branch_word elsif) cs) ts o (branched-stops elsif bs) (branched-stops elsif cs) h k in
      let e = ob elsif cs c.1.0 c.1.1 c.1.2 in
      λ i. of_branches (c.0 i) (e i)
  part-branches s bs o ob (is_branches elsif) _ ts h k = absurd k
  part-branches s bs o ob _ q ts h k = absurd h

  part-choices : (s : SubTree) (cs : Choices) → OneSub s → OneChoices cs → OnePart (of_choices s cs)
  part-choices s cs o oc is_choices (of_choices t ds) ts h k =
      let c = sub-cut s t (Chosen calls cs) (Chosen calls ds) ts o (chosen-stops cs) (chosen-stops ds) h k in
      let e = oc ds c.1.0 c.1.1 c.1.2 in
      λ i. of_choices (c.0 i) (e i)
  part-choices s cs o oc is_choices _ ts h k = absurd k
  part-choices s cs o oc _ q ts h k = absurd h

  -- ---- where each part is cut
  all-lead : AllLead (Written calls) own
  all-lead is_name (of_name x) = one-declared x
  all-lead is_names (of_names xs) = all-names xs
  all-lead is_term (of_term t) = term t 0
  all-lead is_terms (of_terms us) = all-terms us
  all-lead is_sub (of_sub s) = sub-leads calls s 0
  all-lead (is_branches elsif) (of_branches s bs) = leads-join nothing (0, false) (0, true) (0, true) (Sub calls s 0) (Branched calls (branch_word elsif) bs) (leads-fewer nothing ends_list (0, false) (0, true) (Sub calls s 0) (fewer-nothing ends_list) (sub-leads calls s 0)) (branched-leads calls elsif bs)
  all-lead is_choices (of_choices s cs) = leads-join nothing (0, false) (0, true) (0, true) (Sub calls s 0) (Chosen calls cs) (leads-fewer nothing ends_list (0, false) (0, true) (Sub calls s 0) (fewer-nothing ends_list) (sub-leads calls s 0)) (chosen-leads calls cs)
  all-lead k _ = leads-never (own k) (0, false) (0, true)

  -- ---- atoms
  pub record IsAtom (u : SubNode) : Type 0 where
    pub anywhere : (m n : ℕ) (ts : List Token) → Stated calls u m ts → Stated calls u n ts
    pub shaped : (m : ℕ) (ts : List Token) → Stated calls u m ts → Shaped (Written calls) (shape_at (tag u)) (parts u) ts
    pub led : (m : ℕ) (ts : List Token) → Stated calls u m ts → lead ts ≡ tag u
    pub again : back (tag u) (parts u) ≡ u
    pub cut : is_cut own (shape_at (tag u)) ≡ true

  -- a call
  abbrev pub IsCall : SubNode → Type 0
  IsCall u = (xs : List RawName) × (o : RawName) × (us : RawTrees) × (u ≡ sub_call xs o us)

  abbrev pub View : SubNode → Type 0
  View u = ((s t : SubTree) × (u ≡ sub_sequence s t)) ⊎ ((s t : SubTree) × (u ≡ sub_parallel s t)) ⊎ IsCall u ⊎ IsAtom u

  pub view : (u : SubNode) → View u
  view (sub_sequence s t) = inl (s, t, refl)
  view (sub_parallel s t) = inr (inl (s, t, refl))
  view (sub_call xs o us) = inr (inr (inl (xs, o, us, refl)))
  view sub_skip = inr (inr (inr (record { anywhere = λ m n ts h. h; shaped = λ m ts h. h; led = λ m ts h. lead-last SKIP ts h; again = refl; cut = refl })))
  view (sub_let xs p s) = inr (inr (inr (record { anywhere = λ m n ts h. h; shaped = λ m ts h. h.0; led = λ m ts h. lead-word LET (Names xs ⌢ JustWord BE ⌢ Term p 0 ⌢ JustWord IN ⌢ Sub calls s 0 ⌢ JustWord END) ts h.0; again = refl; cut = refl })))
  view (sub_begin s) = inr (inr (inr (record { anywhere = λ m n ts h. h; shaped = λ m ts h. h; led = λ m ts h. lead-word BEGIN (Sub calls s 0 ⌢ JustWord END) ts h; again = refl; cut = refl })))
  view (sub_pre p s) = inr (inr (inr (record { anywhere = λ m n ts h. h; shaped = λ m ts h. h; led = λ m ts h. lead-word PRE (Term p 0 ⌢ JustWord THEN ⌢ Sub calls s 0 ⌢ JustWord END) ts h; again = refl; cut = refl })))
  view (sub_assert p s) = inr (inr (inr (record { anywhere = λ m n ts h. h; shaped = λ m ts h. h; led = λ m ts h. lead-word ASSERT (Term p 0 ⌢ JustWord THEN ⌢ Sub calls s 0 ⌢ JustWord END) ts h; again = refl; cut = refl })))
  view (sub_if p s bs) = inr (inr (inr (record { anywhere = λ m n ts h. h; shaped = λ m ts h. h; led = λ m ts h. lead-word IF (Term p 0 ⌢ JustWord THEN ⌢ (Sub calls s 0 ⌢ Branched calls ELSIF bs) ⌢ JustWord END) ts h; again = refl; cut = refl })))
  view (sub_choice s cs) = inr (inr (inr (record { anywhere = λ m n ts h. h; shaped = λ m ts h. h; led = λ m ts h. lead-word CHOICE ((Sub calls s 0 ⌢ Chosen calls cs) ⌢ JustWord END) ts h; again = refl; cut = refl })))
  view (sub_select p s bs) = inr (inr (inr (record { anywhere = λ m n ts h. h; shaped = λ m ts h. h; led = λ m ts h. lead-word SELECT (Term p 0 ⌢ JustWord THEN ⌢ (Sub calls s 0 ⌢ Branched calls WHEN bs) ⌢ JustWord END) ts h; again = refl; cut = refl })))
  view (sub_any xs p s) = inr (inr (inr (record { anywhere = λ m n ts h. h; shaped = λ m ts h. h; led = λ m ts h. lead-word ANY (Names xs ⌢ JustWord WHERE ⌢ Term p 0 ⌢ JustWord THEN ⌢ Sub calls s 0 ⌢ JustWord END) ts h; again = refl; cut = refl })))
  view (sub_var xs s) = inr (inr (inr (record { anywhere = λ m n ts h. h; shaped = λ m ts h. h; led = λ m ts h. lead-word VAR (Names xs ⌢ JustWord IN ⌢ Sub calls s 0 ⌢ JustWord END) ts h; again = refl; cut = refl })))
  view (sub_while p s i v) = inr (inr (inr (record { anywhere = λ m n ts h. h; shaped = λ m ts h. h; led = λ m ts h. lead-word WHILE (Term p 0 ⌢ JustWord DO ⌢ Sub calls s 0 ⌢ JustWord INVARIANT ⌢ Term i 0 ⌢ JustWord VARIANT ⌢ Term v 0 ⌢ JustWord END) ts h; again = refl; cut = refl })))
  view (sub_assign xs us) = inr (inr (inr (record { anywhere = λ m n ts h. h; shaped = λ m ts h. h; led = λ m ts h. lead-behind xs ASSIGN (Terms us) ts refl h; again = refl; cut = refl })))
  view (sub_assign_at f x e) = inr (inr (inr (record { anywhere = λ m n ts h. h; shaped = λ m ts h. h; led = λ m ts h. lead-behind (f ∷ []) OPEN_PAREN (Term x 0 ⌢ JustSign CLOSE_PAREN ⌢ JustSign ASSIGN ⌢ Term e 0) ts refl h; again = refl; cut = refl })))
  view (sub_member x e) = inr (inr (inr (record { anywhere = λ m n ts h. h; shaped = λ m ts h. h; led = λ m ts h. lead-behind (x ∷ []) BECOMES_MEMBER (Term e 0) ts refl h; again = refl; cut = refl })))
  view (sub_such xs p) = inr (inr (inr (record { anywhere = λ m n ts h. h; shaped = λ m ts h. h; led = λ m ts h. lead-behind xs MEMBER (JustSign OPEN_PAREN ⌢ Term p 0 ⌢ JustSign CLOSE_PAREN) ts refl h; again = refl; cut = refl })))

  -- ---- calls
  as-called : (xs : List RawName) (n : RawName) (us : RawTrees) (v : SubNode) (m : ℕ) (ts : List Token) → v ≡ sub_call xs n us → Stated calls v m ts → Called xs n us ts
  as-called xs n us v m ts e k = (subst (λ x. Stated calls x m ts) e k).0

  -- no other atom is told by nothing
  pub no-tag : (v : SubNode) (m : ℕ) (ts : List Token) → IsAtom v → Stated calls v m ts → tag v ≡ 0 → ⊥
  no-tag (sub_call xs n us) m ts a k e = absurd (a.shaped m ts k).4
  no-tag sub_skip m ts a k e = omega (arith, e)
  no-tag _ m ts a k e = omega (arith, e)

  -- op(e, f) is no assignment to a place
  no-place : (n : RawName) (t : RawTree) (us : RawTrees) (v : SubNode) (m : ℕ) (ts : List Token) → Applied n (tree_and t us) ts → Stated calls v m ts → tag v ≡ OPEN_PAREN → ⊥
  no-place n t us (sub_assign_at f x e) m ts h k i = not-assigned n t us f x (Term e 0) ts h k
  no-place n t us sub_skip m ts h k i = omega (arith, i)
  no-place n t us _ m ts h k i = omega (arith, i)

  call-not : (xs : List RawName) (n : RawName) (us : RawTrees) (v : SubNode) (m : ℕ) (ts : List Token) → IsAtom v → Called xs n us ts → Stated calls v m ts → ⊥
  call-not [] n no_trees v m ts a h k = no-tag v m ts a k (sym (a.led m ts k) ∙ lead-alone n ts h)
  call-not [] n (tree_and t us) v m ts a h k = no-place n t us v m ts h k (sym (a.led m ts k) ∙ lead-behind (n ∷ []) OPEN_PAREN (Terms (tree_and t us) ⌢ JustSign CLOSE_PAREN) ts refl h)
  call-not (x ∷ xs) n us v m ts a h k = no-outputs-tag v (sym (a.led m ts k) ∙ lead-behind (x ∷ xs) OUTPUTS (Applied n us) ts refl h)

  -- two atoms
  one-atom : (u v : SubNode) (m : ℕ) (ts : List Token) → AreOne (Written calls) (parts u) → IsAtom u → IsAtom v → Stated calls u m ts → Stated calls v m ts → u ≡ v
  one-atom u v m ts o a b h k =
      let tags : tag u ≡ tag v = sym (a.led m ts h) ∙ b.led m ts k in
      let ps : parts u ≡ parts v = one-shaped (Written calls) own all-lead (shape_at (tag u)) (parts u) (parts v) ts a.cut o (a.shaped m ts h) (subst (λ n. Shaped (Written calls) (shape_at n) (parts v) ts) (sym tags) (b.shaped m ts k)) in
      sym a.again ∙ (λ i. back (tags i) (ps i)) ∙ b.again

  -- a list or a piece with a divider
  divided : (op : ℕ) (A B : Piece) (ts : List Token) → (A ⌢ JustSign op ⌢ B) ts → (a : List Token) × (d : Token) × (b : List Token) × (ts ≡ a ++ d ∷ b) × (d.kind ≡ Sign op) × A a × B b
  divided op A B ts h =
      let f = first (Sign op) B h.1 h.4 in
      (h.0, f.token, f.rest, h.2 ∙ ap (λ r. h.0 ++ r) f.is, f.same, h.3, f.back)

  -- where the last divider stands
  last-cut : (op : ℕ) (stops wide : Stopper) (A B C D : Piece) (ts : List Token) → stepped nothing 0 true (Sign op) ≡ Some (0, false) → stepped stops 0 true (Sign op) ≡ None → Leads nothing (0, false) (0, true) A → Leads nothing (0, false) (0, true) C → Leads stops (0, false) (0, true) B → Leads stops (0, false) (0, true) D → (A ⌢ JustSign op ⌢ B) ts → (C ⌢ JustSign op ⌢ D) ts → ((us : List Token) × A us × C us) × ((us : List Token) × B us × D us)
  last-cut op stops wide A B C D ts go stop la lc lb ld h k =
      let p = divided op A B ts h in
      let q = divided op C D ts k in
      let s = last-split (step stops) (step nothing) (fewer-extends nothing stops (fewer-nothing stops)) (0, false) (0, true) (0, false) p.1 q.1 p.0 p.2 q.0 q.2 (0, true) (la p.0 p.5) (lc q.0 q.5) (ap (stepped nothing 0 true) p.4 ∙ go) (ap (stepped nothing 0 true) q.4 ∙ go) (ap (stepped stops 0 true) p.4 ∙ stop) (ap (stepped stops 0 true) q.4 ∙ stop) (lb p.2 p.6) (ld q.2 q.6) (sym p.3 ∙ q.3) in
      ((p.0, p.5, subst C (sym s.0) q.5), (p.2, p.6, subst D (sym s.1) q.6))

  -- no divider stands in what halts at it
  no-cut : (op : ℕ) (stops : Stopper) (A B D : Piece) (ts : List Token) → stepped stops 0 true (Sign op) ≡ None → Leads nothing (0, false) (0, true) A → Leads stops (0, false) (0, true) D → (A ⌢ JustSign op ⌢ B) ts → D ts → ⊥
  no-cut op stops A B D ts stop la ld h k =
      let p = divided op A B ts h in
      no-divider (step stops) (step nothing) (fewer-extends nothing stops (fewer-nothing stops)) (0, false) (0, true) (0, true) p.1 p.0 p.2 (la p.0 p.5) (ap (stepped stops 0 true) p.4 ∙ stop) (subst (λ us. run (step stops) (0, false) us ≡ Some (0, true)) p.3 (ld ts k))

  inner-sub : (s : SubTree) (m : ℕ) → Leads nothing (0, false) (0, true) (Sub calls s m)
  inner-sub s m = leads-fewer nothing (ends_at m) (0, false) (0, true) (Sub calls s m) (fewer-nothing (ends_at m)) (sub-leads calls s m)

  -- a call or another atom stands in each place
  stated-anywhere : (v : SubNode) → IsCall v ⊎ IsAtom v → (m n : ℕ) (ts : List Token) → Stated calls v m ts → Stated calls v n ts
  stated-anywhere v (inl c) m n ts k = subst (λ x. Stated calls x n ts) (sym c.3) (subst (λ x. Stated calls x m ts) c.3 k)
  stated-anywhere v (inr a) m n ts k = a.anywhere m n ts k

  -- what is no list, as a piece
  piece-of : (v : SubNode) (m : ℕ) (ts : List Token) → ((s t : SubTree) × (v ≡ sub_parallel s t)) ⊎ IsCall v ⊎ IsAtom v → Stated calls v m ts → Stated calls v 1 ts
  piece-of v m ts (inl p) k = subst (λ x. Stated calls x 1 ts) (sym p.2) (omega arith, (subst (λ x. Stated calls x m ts) p.2 k).1)
  piece-of v m ts (inr a) k = stated-anywhere v a m 1 ts k

  sequence-not : (s t : SubTree) (v : SubNode) (m : ℕ) (ts : List Token) → ((p q : SubTree) × (v ≡ sub_parallel p q)) ⊎ IsCall v ⊎ IsAtom v → Stated calls (sub_sequence s t) m ts → Stated calls v m ts → ⊥
  sequence-not s t v m ts i h k = no-cut SEMICOLON ends_piece (Sub calls s 0) (Sub calls t 1) (Stated calls v 1) ts refl (inner-sub s 0) (node-leads calls v 1) h.1 (piece-of v m ts i k)

  parallel-not : (s t : SubTree) (v : SubNode) (m : ℕ) (ts : List Token) → IsCall v ⊎ IsAtom v → Stated calls (sub_parallel s t) m ts → Stated calls v m ts → ⊥
  parallel-not s t v m ts a h k = no-cut PARALLEL ends_atom (Sub calls s 1) (Sub calls t 2) (Stated calls v 2) ts refl (inner-sub s 1) (node-leads calls v 2) h.1 (stated-anywhere v a m 2 ts k)

  -- what is said of a node
  abbrev OneNode : SubNode → Type 0
  OneNode u = (m : ℕ) (v : SubNode) (ts : List Token) → Stated calls u m ts → Stated calls v m ts → u ≡ v

  one-sequence : (s t : SubTree) → OneSub s → OneSub t → OneNode (sub_sequence s t)
  one-sequence s t os ot m v ts h k = by-view (view v)
    where
      by-view : View v → sub_sequence s t ≡ v
      by-view (inr i) = absurd (sequence-not s t v m ts i h k)
      by-view (inl p) =
          let l = subst (λ x. Stated calls x m ts) p.2 k in
          let c = last-cut SEMICOLON ends_piece ends_piece (Sub calls s 0) (Sub calls t 1) (Sub calls p.0 0) (Sub calls p.1 1) ts refl refl (inner-sub s 0) (inner-sub p.0 0) (sub-leads calls t 1) (sub-leads calls p.1 1) h.1 l.1 in
          let e = os 0 p.0 c.0.0 c.0.1 c.0.2 in
          let f = ot 1 p.1 c.1.0 c.1.1 c.1.2 in
          (λ i. sub_sequence (e i) (f i)) ∙ sym p.2

  one-parallel : (s t : SubTree) → OneSub s → OneSub t → OneNode (sub_parallel s t)
  one-parallel s t os ot m v ts h k = by-view (view v)
    where
      by-view : View v → sub_parallel s t ≡ v
      by-view (inl p) = absurd (sequence-not p.0 p.1 (sub_parallel s t) m ts (inl (s, t, refl)) (subst (λ x. Stated calls x m ts) p.2 k) h)
      by-view (inr (inr a)) = absurd (parallel-not s t v m ts a h k)
      by-view (inr (inl p)) =
          let l = subst (λ x. Stated calls x m ts) p.2 k in
          let c = last-cut PARALLEL ends_atom ends_atom (Sub calls s 1) (Sub calls t 2) (Sub calls p.0 1) (Sub calls p.1 2) ts refl refl (inner-sub s 1) (inner-sub p.0 1) (sub-leads calls t 2) (sub-leads calls p.1 2) h.1 l.1 in
          let e = os 1 p.0 c.0.0 c.0.1 c.0.2 in
          let f = ot 2 p.1 c.1.0 c.1.1 c.1.2 in
          (λ i. sub_parallel (e i) (f i)) ∙ sym p.2

  one-of-atoms : (u : SubNode) → IsAtom u → AreOne (Written calls) (parts u) → OneNode u
  one-of-atoms u a o m v ts h k = by-view (view v)
    where
      by-view : View v → u ≡ v
      by-view (inl p) = absurd (sequence-not p.0 p.1 u m ts (inr (inr a)) (subst (λ x. Stated calls x m ts) p.2 k) h)
      by-view (inr (inl p)) = absurd (parallel-not p.0 p.1 u m ts (inr a) (subst (λ x. Stated calls x m ts) p.2 k) h)
      by-view (inr (inr (inl c))) = absurd (call-not c.0 c.1 c.2 u m ts a (as-called c.0 c.1 c.2 v m ts c.3 k) h)
      by-view (inr (inr (inr b))) = one-atom u v m ts o a b h k

  one-of-calls : (xs : List RawName) (n : RawName) (us : RawTrees) → OneNode (sub_call xs n us)
  one-of-calls xs n us m v ts h k = by-view (view v)
    where
      by-view : View v → sub_call xs n us ≡ v
      by-view (inl p) = absurd (sequence-not p.0 p.1 (sub_call xs n us) m ts (inr (inl (xs, n, us, refl))) (subst (λ x. Stated calls x m ts) p.2 k) h)
      by-view (inr (inl p)) = absurd (parallel-not p.0 p.1 (sub_call xs n us) m ts (inl (xs, n, us, refl)) (subst (λ x. Stated calls x m ts) p.2 k) h)
      by-view (inr (inr (inl c))) =
          let e = one-called xs c.0 n c.1 us c.2 ts h.0 (as-called c.0 c.1 c.2 v m ts c.3 k) in
          (λ i. sub_call (e.0 i) (e.1 i) (e.2 i)) ∙ sym c.3
      by-view (inr (inr (inr a))) = absurd (call-not xs n us v m ts a h.0 k)

  one-here : (at : ℕ) (u : SubNode) → OneNode u → OneSub (sub at u)
  one-here at u o m (sub bt v) ts h k =
      let e : h.0 ∷ h.1 ≡ k.0 ∷ k.1 = sym h.2 ∙ k.2 in
      let same : h.0 ≡ k.0 = cc in
      let here : at ≡ bt = sym h.3 ∙ ap (λ t. t.start) same ∙ k.3 in
      let node = o m v ts h.4 k.4 in
      λ i. sub (here i) (node i)

  one-no-branches : OneBranches no_branches
  one-no-branches elsif no_branches ts h k = refl
  one-no-branches elsif (else_branch s) ts h k = absurd (just-none (Word ELSE) (Sub calls s 0) (subst (Branched calls (branch_word elsif) (else_branch s)) h k))
  one-no-branches elsif (branch_and p s bs) ts h k = absurd (just-none (Word (branch_word elsif)) (Term p 0 ⌢ JustWord THEN ⌢ (Sub calls s 0 ⌢ Branched calls (branch_word elsif) bs)) (subst (Branched calls (branch_word elsif) (branch_and p s bs)) h k))

  else-word : (elsif : Bool) → Word ELSE ≡ Word (branch_word elsif) → ⊥
  else-word true e = omega (arith, words-same ELSE ELSIF e)
  else-word false e = omega (arith, words-same ELSE WHEN e)

  one-else : (s : SubTree) → OneSub s → OneBranches (else_branch s)
  one-else s o elsif no_branches ts h k = absurd (just-none (Word ELSE) (Sub calls s 0) (subst (Branched calls (branch_word elsif) (else_branch s)) k h))
  one-else s o elsif (else_branch t) ts h k =
      let c = same-token (Word ELSE) (Word ELSE) (Sub calls s 0) (Sub calls t 0) ts h k in
      ap else_branch (o 0 t c.1.0 c.1.1 c.1.2)
  one-else s o elsif (branch_and p t bs) ts h k =
      absurd (else-word elsif (same-token (Word ELSE) (Word (branch_word elsif)) (Sub calls s 0) (Term p 0 ⌢ JustWord THEN ⌢ (Sub calls t 0 ⌢ Branched calls (branch_word elsif) bs)) ts h k).0)

  one-more : (p : RawTree) (s : SubTree) (bs : Branches) → OneSub s → OneBranches bs → OneBranches (branch_and p s bs)
  one-more p s bs o ob elsif no_branches ts h k = absurd (just-none (Word (branch_word elsif)) (Term p 0 ⌢ JustWord THEN ⌢ (Sub calls s 0 ⌢ Branched calls (branch_word elsif) bs)) (subst (Branched calls (branch_word elsif) (branch_and p s bs)) k h))
  one-more p s bs o ob elsif (else_branch t) ts h k =
      absurd (else-word elsif (same-token (Word ELSE) (Word (branch_word elsif)) (Sub calls t 0) (Term p 0 ⌢ JustWord THEN ⌢ (Sub calls s 0 ⌢ Branched calls (branch_word elsif) bs)) ts k h).0)
  one-more p s bs o ob elsif (branch_and q t cs) ts h k =
      let B = Branched calls (branch_word elsif) bs in
      let C = Branched calls (branch_word elsif) cs in
      let a = same-token (Word (branch_word elsif)) (Word (branch_word elsif)) (Term p 0 ⌢ JustWord THEN ⌢ (Sub calls s 0 ⌢ B)) (Term q 0 ⌢ JustWord THEN ⌢ (Sub calls t 0 ⌢ C)) ts h k in
      let b = term-cut p q (JustWord THEN ⌢ (Sub calls s 0 ⌢ B)) (JustWord THEN ⌢ (Sub calls t 0 ⌢ C)) a.1.0 (stops-just ends_term 0 true (Word THEN) (Sub calls s 0 ⌢ B) refl) (stops-just ends_term 0 true (Word THEN) (Sub calls t 0 ⌢ C) refl) a.1.1 a.1.2 in
      let c = same-token (Word THEN) (Word THEN) (Sub calls s 0 ⌢ B) (Sub calls t 0 ⌢ C) b.1.0 b.1.1 b.1.2 in
      let d = sub-cut s t B C c.1.0 o (branched-stops elsif bs) (branched-stops elsif cs) c.1.1 c.1.2 in
      let e = ob elsif cs d.1.0 d.1.1 d.1.2 in
      λ i. branch_and (b.0 i) (d.0 i) (e i)

  one-no-choices : OneChoices no_choices
  one-no-choices no_choices ts h k = refl
  one-no-choices (choice_and s cs) ts h k = absurd (just-none (Word OR_BRANCH) (Sub calls s 0 ⌢ Chosen calls cs) (subst (Chosen calls (choice_and s cs)) h k))

  one-choice : (s : SubTree) (cs : Choices) → OneSub s → OneChoices cs → OneChoices (choice_and s cs)
  one-choice s cs o oc no_choices ts h k = absurd (just-none (Word OR_BRANCH) (Sub calls s 0 ⌢ Chosen calls cs) (subst (Chosen calls (choice_and s cs)) k h))
  one-choice s cs o oc (choice_and t ds) ts h k =
      let a = same-token (Word OR_BRANCH) (Word OR_BRANCH) (Sub calls s 0 ⌢ Chosen calls cs) (Sub calls t 0 ⌢ Chosen calls ds) ts h k in
      let d = sub-cut s t (Chosen calls cs) (Chosen calls ds) a.1.0 o (chosen-stops cs) (chosen-stops ds) a.1.1 a.1.2 in
      let e = oc ds d.1.0 d.1.1 d.1.2 in
      λ i. choice_and (d.0 i) (e i)

  get-atom : (u : SubNode) → View u → (tag u ≡ SEMICOLON → ⊥) → (tag u ≡ PARALLEL → ⊥) → (tag u ≡ 0 → ⊥) → IsAtom u
  get-atom u (inl p) a b c = absurd (a (ap tag p.2))
  get-atom u (inr (inl p)) a b c = absurd (b (ap tag p.2))
  get-atom u (inr (inr (inl p))) a b c = absurd (c (ap tag p.3))
  get-atom u (inr (inr (inr i))) a b c = i

  one-tagged : (u : SubNode) → (tag u ≡ SEMICOLON → ⊥) → (tag u ≡ PARALLEL → ⊥) → (tag u ≡ 0 → ⊥) → AreOne (Written calls) (parts u) → OneNode u
  one-tagged u a b c o = one-of-atoms u (get-atom u (view u) a b c) o

  mutual
    pub one-sub : (s : SubTree) → OneSub s
    one-sub (sub at u) = one-here at u (one-node u)

    one-node : (u : SubNode) → OneNode u
    one-node (sub_sequence s t) = one-sequence s t (one-sub s) (one-sub t)
    one-node (sub_parallel s t) = one-parallel s t (one-sub s) (one-sub t)
    one-node sub_skip = one-tagged sub_skip (λ e. omega (arith, e)) (λ e. omega (arith, e)) (λ e. omega (arith, e)) tt
    one-node (sub_assign xs us) = one-tagged (sub_assign xs us) (λ e. omega (arith, e)) (λ e. omega (arith, e)) (λ e. omega (arith, e)) (part-names xs, (part-terms us, tt))
    one-node (sub_assign_at f x e) = one-tagged (sub_assign_at f x e) (λ e. omega (arith, e)) (λ e. omega (arith, e)) (λ e. omega (arith, e)) (part-name f, (part-term x, (part-term e, tt)))
    one-node (sub_member x e) = one-tagged (sub_member x e) (λ e. omega (arith, e)) (λ e. omega (arith, e)) (λ e. omega (arith, e)) (part-name x, (part-term e, tt))
    one-node (sub_such xs p) = one-tagged (sub_such xs p) (λ e. omega (arith, e)) (λ e. omega (arith, e)) (λ e. omega (arith, e)) (part-names xs, (part-term p, tt))
    one-node (sub_call xs n us) = one-of-calls xs n us
    one-node (sub_begin s) = one-tagged (sub_begin s) (λ e. omega (arith, e)) (λ e. omega (arith, e)) (λ e. omega (arith, e)) (part-sub s (one-sub s), tt)
    one-node (sub_pre p s) = one-tagged (sub_pre p s) (λ e. omega (arith, e)) (λ e. omega (arith, e)) (λ e. omega (arith, e)) (part-term p, (part-sub s (one-sub s), tt))
    one-node (sub_assert p s) = one-tagged (sub_assert p s) (λ e. omega (arith, e)) (λ e. omega (arith, e)) (λ e. omega (arith, e)) (part-term p, (part-sub s (one-sub s), tt))
    one-node (sub_if p s bs) = one-tagged (sub_if p s bs) (λ e. omega (arith, e)) (λ e. omega (arith, e)) (λ e. omega (arith, e)) (part-term p, (part-branches s bs (one-sub s) (one-branches bs), tt))
    one-node (sub_choice s cs) = one-tagged (sub_choice s cs) (λ e. omega (arith, e)) (λ e. omega (arith, e)) (λ e. omega (arith, e)) (part-choices s cs (one-sub s) (one-choices cs), tt)
    one-node (sub_select p s bs) = one-tagged (sub_select p s bs) (λ e. omega (arith, e)) (λ e. omega (arith, e)) (λ e. omega (arith, e)) (part-term p, (part-branches s bs (one-sub s) (one-branches bs), tt))
    one-node (sub_any xs p s) = one-tagged (sub_any xs p s) (λ e. omega (arith, e)) (λ e. omega (arith, e)) (λ e. omega (arith, e)) (part-names xs, (part-term p, (part-sub s (one-sub s), tt)))
    one-node (sub_let xs p s) = one-tagged (sub_let xs p s) (λ e. omega (arith, e)) (λ e. omega (arith, e)) (λ e. omega (arith, e)) (part-names xs, (part-term p, (part-sub s (one-sub s), tt)))
    one-node (sub_var xs s) = one-tagged (sub_var xs s) (λ e. omega (arith, e)) (λ e. omega (arith, e)) (λ e. omega (arith, e)) (part-names xs, (part-sub s (one-sub s), tt))
    one-node (sub_while p s i v) = one-tagged (sub_while p s i v) (λ e. omega (arith, e)) (λ e. omega (arith, e)) (λ e. omega (arith, e)) (part-term p, (part-sub s (one-sub s), (part-term i, (part-term v, tt))))

    one-branches : (bs : Branches) → OneBranches bs
    one-branches no_branches = one-no-branches
    one-branches (else_branch s) = one-else s (one-sub s)
    one-branches (branch_and p s bs) = one-more p s bs (one-sub s) (one-branches bs)

    one-choices : (cs : Choices) → OneChoices cs
    one-choices no_choices = one-no-choices
    one-choices (choice_and s cs) = one-choice s cs (one-sub s) (one-choices cs)

-- two substitutions that are written as the same tokens are the same
pub one-spelled : (ts : List Token) (s t : SubTree) → SpellsSub s ts → SpellsSub t ts → s ≡ t
one-spelled ts s t h k = one-sub true s 0 t ts h k
