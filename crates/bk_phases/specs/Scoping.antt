-- Where names may be seen, said of a resolved substitution: the scope of each of its terms has only variables that may be seen where the
-- term stands, what is written to may be seen too, and what is bound is new and different.
-- Source: B Language Reference Manual, visibility.
use Rattle.std.specs.Prelude.{◌≡◌, ℕ, Bool, true, ◌||◌, List, [], ◌∷◌, map}
use Rattle.bk_form.specs.Each.{Each}
use Rattle.bk_form.specs.Table.{Table}
use Rattle.bk_gsl.specs.State.{among}
use Rattle.bk_dev.specs.Facts.{AreNew, AreDistinct, StaysIn}
use Rattle.bk_raw.specs.Trees.SubTree.{SubTree}
use Rattle.bk_statics.specs.Typings.{Target, variable_target}
use Rattle.bk_statics.specs.Settled.{IsSettled, AreOf, AreSeen, IsBelow}
use Rattle.bk_phases.specs.Scope.{Local, numbers, Written}
use Rattle.bk_phases.specs.Term.{Term}
use Rattle.bk_phases.specs.Statement.{Statement, skip_at, assign_at, update_at, member_at, such_at, call_at, pre_at, assert_at, if_at}
use Rattle.bk_phases.specs.Statement.{guard_at, choice_at, else_at, branches_at, any_at, var_at, loop_at, par_at, seq_at}
use Rattle.bk_phases.specs.Statement.{within, own_terms, left_names}
use Rattle.bk_phases.specs.Resolve.{Scope, resolved}
use Rattle.bk_phases.specs.Types.{Types}
use Rattle.bk_phases.specs.Writes.{wrong_write}
use Rattle.bk_phases.specs.LevelOf.{elaborated}

-- what is written to may be seen
abbrev pub IsTargetSeen : (ℕ → Bool) → Target → Type 0
IsTargetSeen visible (variable_target n) = visible n ≡ true
IsTargetSeen visible _ = Unit {0}

-- so it is of each written name
abbrev pub AreTargetsSeen : (ℕ → Bool) → List Written → Type 0
AreTargetsSeen visible [] = Unit {0}
AreTargetsSeen visible (x ∷ xs) = IsTargetSeen visible x.target × AreTargetsSeen visible xs

-- the names in scope of terms may be seen
abbrev pub AreTermsSeen : (ℕ → Bool) → List Term → Type 0
AreTermsSeen visible [] = Unit {0}
AreTermsSeen visible (t ∷ ts) = AreSeen visible t.names × AreTermsSeen visible ts

-- what may be seen where these are bound
abbrev pub seen_with : List Local → (ℕ → Bool) → ℕ → Bool
seen_with zs visible n = among (numbers zs) n || visible n

-- none of them may be seen outside, and no two have one number
pub record AreBound (visible : ℕ → Bool) (zs : List Local) : Type 0 where
  pub new : AreNew visible (numbers zs)
  pub distinct : AreDistinct (numbers zs)

-- each term sees what it may where it stands; a loop's invariant and variant see what `above` admits too
abbrev pub IsScoped : (ℕ → Bool) → (ℕ → Bool) → Statement → Type 0
IsScoped visible above (skip_at at) = Unit {0}
IsScoped visible above (assign_at at xs es) = AreTargetsSeen visible xs × AreTermsSeen visible es
IsScoped visible above (update_at at f e v) = IsTargetSeen visible f.target × AreSeen visible e.names × AreSeen visible v.names
IsScoped visible above (member_at at x z e) = IsTargetSeen visible x.target × AreBound visible (z ∷ []) × AreSeen visible e.names
IsScoped visible above (such_at at xs p) =
    AreTargetsSeen visible (map (λ (x : Written × Local). x.0) xs)
    × AreBound visible (map (λ (x : Written × Local). x.1) xs)
    × AreSeen (seen_with (map (λ (x : Written × Local). x.1) xs) visible) p.names
IsScoped visible above (call_at at es) = AreTermsSeen visible es
IsScoped visible above (pre_at at p s) = AreSeen visible p.names × IsScoped visible above s
IsScoped visible above (assert_at at p s) = AreSeen visible p.names × IsScoped visible above s
IsScoped visible above (if_at at p s t) = AreSeen visible p.names × IsScoped visible above s × IsScoped visible above t
IsScoped visible above (guard_at at p s) = AreSeen visible p.names × IsScoped visible above s
IsScoped visible above (choice_at at s t) = IsScoped visible above s × IsScoped visible above t
IsScoped visible above (else_at at s t) = IsScoped visible above s × IsScoped visible above t
IsScoped visible above (branches_at at s) = IsScoped visible above s
IsScoped visible above (any_at at xs p s) =
    AreBound visible xs × AreSeen (seen_with xs visible) p.names × IsScoped (seen_with xs visible) above s
IsScoped visible above (var_at at xs s) = AreBound visible xs × IsScoped (seen_with xs visible) above s
IsScoped visible above (loop_at at p s i v) =
    AreSeen visible p.names × IsScoped visible above s
    × AreSeen (λ n. above n || visible n) i.names × AreSeen (λ n. above n || visible n) v.names
IsScoped visible above (par_at at s t) = IsScoped visible above s × IsScoped visible above t
IsScoped visible above (seq_at at s t) = IsScoped visible above s × IsScoped visible above t

-- so it is of every substitution, where the names in scope may be seen and have numbers below the next one
abbrev pub ScopesAreRight : Type 0
ScopesAreRight = (visible above : ℕ → Bool) (c : Scope) →
    AreSeen visible c.names → AreSeen above c.above → IsBelow c.next visible → (s : SubTree) → IsScoped visible above (resolved c s)

-- the scopes of a substitution's own terms have only sets and elements of the table
abbrev pub SeesListed : Table → Statement → Type 0
SeesListed table s = Each (λ (t : Term). AreOf table t.names) (own_terms s)

-- so it is of every substitution and of all that stand in it, where the names in scope are such
abbrev pub ScopesAreListed : Type 0
ScopesAreListed = (table : Table) (c : Scope) → AreOf table c.names → AreOf table c.above → (s : SubTree) →
    Each (SeesListed table) (within (resolved c s))

-- ---- what a substitution names, writes and binds
-- it is a variable that the test admits
abbrev pub IsVariableOf : (ℕ → Bool) → Target → Type 0
IsVariableOf may (variable_target n) = may n ≡ true
IsVariableOf may _ = ⊥

-- a substitution, but for what stands in it: its terms see sets and elements of the table, and it writes different variables that the
-- test admits
pub record IsRightHere (table : Table) (may : ℕ → Bool) (s : Statement) : Type 0 where
  pub terms : SeesListed table s
  pub left : Each (λ (x : Written). IsVariableOf may x.target) (left_names s)
  pub writes : wrong_write s ≡ []

-- where what may be seen and is admitted may be written, a substitution whose scopes are right, and in which all is right, names, writes
-- and binds what it may
abbrev pub StatementsStay : Type 0
StatementsStay = (types : Types) (table : Table) → IsSettled table types.of → (visible above writable may : ℕ → Bool) →
    ((n : ℕ) → visible n ≡ true → may n ≡ true → writable n ≡ true) → (s : Statement) →
    IsScoped visible above s → Each (IsRightHere table may) (within s) → StaysIn visible above writable (elaborated types s)
