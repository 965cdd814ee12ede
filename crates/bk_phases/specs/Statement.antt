-- Substitutions whose names are resolved. ELSIF, a missing ELSE, BEGIN, LET, and lists of branches are gone: what is left has the shapes
-- of generalized substitutions, each with the byte where it starts; but `x :: E`, `f(e) := v` and CHOICE keep a shape of their own,
-- since faults stand in their parts.
-- Source: B-Book, generalized substitutions.
use Rattle.std.specs.Prelude.{ℕ, List, [], ◌∷◌, ◌++◌, map}
use Rattle.std.specs.List.{flat_map}
use Rattle.bk_phases.specs.Scope.{Written, Local}
use Rattle.bk_phases.specs.Term.{Term}

-- a substitution whose names are resolved
pub data Statement : Type 0 where
  -- skip
  skip_at : ℕ → Statement
  -- x, y := E, F
  assign_at : ℕ → List Written → List Term → Statement
  -- f(e) := v
  update_at : ℕ → Written → Term → Term → Statement
  -- x :: E, with what stands for the element that is taken
  member_at : ℕ → Written → Local → Term → Statement
  -- x, y :( P ), each name with what stands for x$0
  such_at : ℕ → List (Written × Local) → Term → Statement
  -- x, y <-- op(E, F), by its arguments
  call_at : ℕ → List Term → Statement
  -- PRE P THEN S END
  pre_at : ℕ → Term → Statement → Statement
  -- ASSERT P THEN S END
  assert_at : ℕ → Term → Statement → Statement
  -- IF P THEN S ELSE T END
  if_at : ℕ → Term → Statement → Statement → Statement
  -- P ==> S, a branch of SELECT
  guard_at : ℕ → Term → Statement → Statement
  -- S [] T, branches of CHOICE or of SELECT
  choice_at : ℕ → Statement → Statement → Statement
  -- the branches of SELECT, and its ELSE
  else_at : ℕ → Statement → Statement → Statement
  -- CHOICE round its branches
  branches_at : ℕ → Statement → Statement
  -- ANY x, y WHERE P THEN S END; LET x, y BE P IN S END
  any_at : ℕ → List Local → Term → Statement → Statement
  -- VAR x, y IN S END
  var_at : ℕ → List Local → Statement → Statement
  -- WHILE P DO S INVARIANT I VARIANT V END
  loop_at : ℕ → Term → Statement → Term → Term → Statement
  -- S || T
  par_at : ℕ → Statement → Statement → Statement
  -- S ; T
  seq_at : ℕ → Statement → Statement → Statement

-- the substitution and all that stand in it, in the order of the text. Each static rule is said of one of them
abbrev pub within : Statement → List Statement
within (pre_at at p s) = pre_at at p s ∷ within s
within (assert_at at p s) = assert_at at p s ∷ within s
within (if_at at p s t) = if_at at p s t ∷ within s ++ within t
within (guard_at at p s) = guard_at at p s ∷ within s
within (choice_at at s t) = choice_at at s t ∷ within s ++ within t
within (else_at at s t) = else_at at s t ∷ within s ++ within t
within (branches_at at s) = branches_at at s ∷ within s
within (any_at at xs p s) = any_at at xs p s ∷ within s
within (var_at at xs s) = var_at at xs s ∷ within s
within (loop_at at p s i v) = loop_at at p s i v ∷ within s
within (par_at at s t) = par_at at s t ∷ within s ++ within t
within (seq_at at s t) = seq_at at s t ∷ within s ++ within t
within s = s ∷ []

-- its own terms; a call is at fault as a whole, and its arguments are not asked
abbrev pub own_terms : Statement → List Term
own_terms (assign_at at xs es) = es
own_terms (update_at at f e v) = e ∷ v ∷ []
own_terms (member_at at x z e) = e ∷ []
own_terms (such_at at xs p) = p ∷ []
own_terms (pre_at at p s) = p ∷ []
own_terms (assert_at at p s) = p ∷ []
own_terms (if_at at p s t) = p ∷ []
own_terms (guard_at at p s) = p ∷ []
own_terms (any_at at xs p s) = p ∷ []
own_terms (loop_at at p s i v) = p ∷ i ∷ v ∷ []
own_terms _ = []

-- the arguments of a call
abbrev pub arguments : Statement → List Term
arguments (call_at at es) = es
arguments _ = []

-- the names on its left
abbrev pub left_names : Statement → List Written
left_names (assign_at at xs es) = xs
left_names (update_at at f e v) = f ∷ []
left_names (member_at at x z e) = x ∷ []
left_names (such_at at xs p) = map (λ (x : Written × Local). x.0) xs
left_names _ = []

-- the names of ANY, LET and VAR
abbrev pub binding_list : Statement → List Local
binding_list (any_at at xs p s) = xs
binding_list (var_at at xs s) = xs
binding_list _ = []

-- all that it binds, what stands for the element taken and for old values too
abbrev pub bound_here : Statement → List Local
bound_here (member_at at x z e) = z ∷ []
bound_here (such_at at xs p) = map (λ (x : Written × Local). x.1) xs
bound_here s = binding_list s

-- its terms, and those of all that stand in it
abbrev pub terms_of : Statement → List Term
terms_of s = flat_map own_terms (within s)

-- all names that it writes to
abbrev pub writes_of : Statement → List Written
writes_of s = flat_map left_names (within s)

-- all names that it binds, in the order of their numbers
abbrev pub locals_of : Statement → List Local
locals_of s = flat_map bound_here (within s)

-- ---- the outermost precondition
-- what is left of a body without it
abbrev pub inner_body : Statement → Statement
inner_body (pre_at at p s) = s
inner_body s = s

-- the predicate of a body that is a PRE
abbrev pub outermost : Statement → List Term
outermost (pre_at at p s) = p ∷ []
outermost s = []
