-- A component's header and its clauses, on the way to being built.
use Rattle.std.specs.Prelude.{◌≡◌, ◌≢◌, ℕ, ◌<◌, ◌≤◌, All, Bool, true, false, List, [], ◌∷◌, ◌++◌, map}
use Rattle.bk_limits.specs.declared.TheConstants.{GREATEST_TREE_HEIGHT}
use Rattle.bk_form.specs.declared.token.Token.{Token}
use Rattle.bk_raw.specs.Trees.ComponentTree.{RawClause, RawComponent, clause_number, is_allowed, parts_height}
use Rattle.bk_raw.specs.Trees.Numbers.{greatest}
use Rattle.bk_raw.specs.Grammar.ComponentSpelling.{Clause, Header}
use Rattle.bk_raw.specs.declared.component.ComponentKind.{ComponentKind}
use Rattle.bk_p_comp.specs.declared.clause.Done.{Done}
use Rattle.bk_p_comp.specs.declared.clause.Next.{Next as Found}
use Rattle.bk_p_expr.specs.Fronts.{Longest, Nothing}
use Rattle.bk_p_comp.specs.Parts.{AreKept, IsComplete}
use Rattle.bk_p_comp.specs.declared.header.Headed.{Headed}

-- after these clauses of a component of the kind, this one may be the next, whatever additions it has
abbrev pub CompleteFollow : ComponentKind → List RawClause → RawClause → List Token → Type 0
CompleteFollow kind done c tokens = Clause c tokens × (is_allowed kind c.word ≡ true)
    × IsComplete c.parts × All (λ n. clause_number c.word ≢ n) (map (λ d. clause_number d.word) done)

-- after the first clauses these stand one after another, each the longest that may be the next one there, and after them
-- none may
abbrev pub ReadOn : ComponentKind → List RawClause → List RawClause → List Token → List Token → Type 0
ReadOn kind done [] tokens rest = (tokens ≡ rest) × Nothing (CompleteFollow kind done) tokens
ReadOn kind done (c ∷ cs) tokens rest = (back : List Token)
    × Longest (CompleteFollow kind done) tokens c back × ReadOn kind (done ++ c ∷ []) cs back rest

-- the component with this header and these clauses
abbrev pub headed : Headed → List RawClause → RawComponent
headed h cs = record { at = h.at; kind = h.kind; name = h.name; refines = h.refines; clauses = cs }

-- a header is in front of the rest
abbrev pub IsHeaded : List Token → Headed → List Token → Type 0
IsHeaded tokens h rest = (front : List Token) × (tokens ≡ front ++ rest) × ((cs : List RawClause) → Header (headed h cs) front)

-- none is in front
abbrev pub HasNoHeader : List Token → Type 0
HasNoHeader tokens = (c : RawComponent) (front back : List Token) → tokens ≡ front ++ back → Header c front → ⊥

-- the height of the highest of the clauses
abbrev pub clauses_height : List RawClause → ℕ
clauses_height cs = greatest (map (λ c. parts_height c.parts) cs)

-- these are the clauses, unless one is too high
abbrev pub AreKeptUnless : Bool → List RawClause → List RawClause → Type 0
AreKeptUnless false kept cs = (kept ≡ cs) × (clauses_height cs ≤ GREATEST_TREE_HEIGHT)
AreKeptUnless true kept cs = GREATEST_TREE_HEIGHT < clauses_height cs

-- these clauses are read: their numbers are kept, and the clauses themselves unless one is too high
abbrev pub AreDone : List RawClause → Done → Type 0
AreDone cs d = (d.numbers.items ≡ map (λ c. clause_number c.word) cs) × AreKeptUnless d.is_high d.clauses.items cs

-- this clause is read
abbrev pub IsFound : RawClause → Found → Type 0
IsFound c f = (f.word ≡ c.word) × (f.at ≡ c.at) × AreKept c.parts f.parts
