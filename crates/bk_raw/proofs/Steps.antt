-- The automaton that goes over tokens: how many brackets and blocks are open, and whether a term is complete.
use Rattle.std.proofs.Common.{◌≡◌, ℕ, zero, suc, Bool, true, false, cond, List, [], ◌∷◌, Option, Some, None, refl, sym, ◌∙◌, ap, subst}
use Rattle.std.specs.Prelude.{nat_eq, nat_lt, ◌||◌, ◌&&◌}
use Rattle.bk_form.specs.declared.token.Token.{Token}
use Rattle.bk_form.specs.declared.token.TokenKind.{TokenKind}
use Rattle.bk_form.specs.declared.token.TokenKind.TheVariants.{Name, LevelName, BoundName, Number, Sign, Word}
use Rattle.bk_ops.specs.declared.sign.TheConstants.{INVERSE}
use Rattle.bk_ops.specs.declared.word.TheConstants.{POW, BTRUE, BFALSE, SKIP}
use Rattle.bk_raw.specs.Grammar.Brackets.{opens_bracket, closes_bracket, opens_block, closes_block}
use Rattle.bk_raw.specs.Grammar.Pieces.{Never, Just, JustAt, ◌⌢◌}
use Rattle.bk_raw.proofs.Runs.{run, Extends, append-run, cons-run, first-step, wider}
use Rattle.bk_raw.proofs.Stopping.{none_some, some_same}

abbrev pub Piece : Type 1
Piece = List Token → Type 0

-- behind it a term may end
abbrev pub completes : TokenKind → Bool
completes (Name x) = true
completes (LevelName x n) = true
completes (BoundName n) = true
completes (Number z) = true
completes (Sign op) = nat_eq op INVERSE
completes (Word op) = nat_eq op SKIP || (nat_lt 106 op && nat_lt op POW) || nat_eq op BTRUE || nat_eq op BFALSE

-- how many are open, and whether a term may end here
abbrev pub State : Type 0
State = ℕ × Bool

abbrev pub closed : ℕ → Option State
closed zero = None
closed (suc n) = Some (n, true)

abbrev pub moved_by : Bool → Bool → Bool → ℕ → Option State
moved_by opens closes ends n = cond opens (Some (suc n, false)) (cond closes (closed n) (Some (n, ends)))

abbrev pub moved : ℕ → TokenKind → Option State
moved n kind = moved_by (opens_bracket kind || opens_block kind) (closes_bracket kind || closes_block kind) (completes kind) n

-- what halts it where nothing is open
abbrev pub Stopper : Type 0
Stopper = Bool → TokenKind → Bool

abbrev pub stepped : Stopper → ℕ → Bool → TokenKind → Option State
stepped stops zero b kind = cond (stops b kind) None (moved zero kind)
stepped stops (suc n) b kind = moved (suc n) kind

abbrev pub step : Stopper → State → Token → Option State
step stops s t = stepped stops s.0 s.1 t.kind

abbrev pub nothing : Stopper
nothing b kind = false

-- each list of the piece leads from the one state to the other
abbrev pub Leads : Stopper → State → State → Piece → Type 0
Leads stops s e A = (ts : List Token) → A ts → run (step stops) s ts ≡ Some e

-- ---- put together
pub leads-join : (stops : Stopper) (s m e : State) (A B : Piece) → Leads stops s m A → Leads stops m e B → Leads stops s e (A ⌢ B)
leads-join stops s m e A B f g ts h =
    subst (λ us. run (step stops) s us ≡ Some e) (sym h.2) (append-run (step stops) s m e h.0 h.1 (f h.0 h.3) (g h.1 h.4))

pub leads-just : (stops : Stopper) (n : ℕ) (b : Bool) (e : State) (kind : TokenKind) → stepped stops n b kind ≡ Some e → Leads stops (n, b) e (Just kind)
leads-just stops n b e kind is ts h =
    subst (λ us. run (step stops) (n, b) us ≡ Some e) (sym h.1) (cons-run (step stops) (n, b) e e h.0 [] (ap (stepped stops n b) h.2 ∙ is) refl)

pub leads-at : (stops : Stopper) (n : ℕ) (b : Bool) (e : State) (at : ℕ) (kind : TokenKind) → stepped stops n b kind ≡ Some e → Leads stops (n, b) e (JustAt at kind)
leads-at stops n b e at kind is ts h = leads-just stops n b e kind is ts (h.0, h.1, h.2)

pub leads-never : (stops : Stopper) (s e : State) → Leads stops s e Never
leads-never stops s e ts h = absurd h

-- ---- with more open
raised-by : (opens closes ends : Bool) (n m : ℕ) (c : Bool) → moved_by opens closes ends n ≡ Some (m, c) → moved_by opens closes ends (suc n) ≡ Some (suc m, c)
raised-by true closes ends n m c h = ap (λ (s : State). Some (suc s.0, s.1)) (some_same (suc n, false) (m, c) h)
raised-by false true ends zero m c h = absurd (none_some (m, c) h)
raised-by false true ends (suc n) m c h = ap (λ (s : State). Some (suc s.0, s.1)) (some_same (n, true) (m, c) h)
raised-by false false ends n m c h = ap (λ (s : State). Some (suc s.0, s.1)) (some_same (n, ends) (m, c) h)

pub cond-none : {A : Type 0} (b : Bool) (o : Option A) (x : A) → cond b None o ≡ Some x → (b ≡ false) × (o ≡ Some x)
cond-none true o x h = absurd (none_some x h)
cond-none false o x h = (refl, h)

pub moved-of : (stops : Stopper) (n : ℕ) (b : Bool) (kind : TokenKind) (e : State) → stepped stops n b kind ≡ Some e → moved n kind ≡ Some e
moved-of stops zero b kind e h = (cond-none (stops b kind) (moved zero kind) e h).1
moved-of stops (suc n) b kind e h = h

pub raise : (stops any : Stopper) (n m : ℕ) (b c : Bool) (ts : List Token) → run (step stops) (n, b) ts ≡ Some (m, c) → run (step any) (suc n, b) ts ≡ Some (suc m, c)
raise stops any n m b c [] h = ap (λ (s : State). Some (suc s.0, s.1)) (some_same (n, b) (m, c) h)
raise stops any n m b c (t ∷ ts) h =
    let f = first-step (step stops) (n, b) (m, c) t ts h in
    cons-run (step any) (suc n, b) (suc f.0.0, f.0.1) (suc m, c) t ts
    (raised-by (opens_bracket t.kind || opens_block t.kind) (closes_bracket t.kind || closes_block t.kind) (completes t.kind) n f.0.0 f.0.1 (moved-of stops n b t.kind f.0 f.1))
    (raise stops any f.0.0 m f.0.1 c ts f.2)

pub leads-deep : (stops any : Stopper) (n m : ℕ) (b c : Bool) (A : Piece) → Leads stops (n, b) (m, c) A → Leads any (suc n, b) (suc m, c) A
leads-deep stops any n m b c A f ts h = raise stops any n m b c ts (f ts h)

-- ---- with fewer that halt it
abbrev pub Fewer : Stopper → Stopper → Type 0
Fewer few stops = (b : Bool) (kind : TokenKind) → stops b kind ≡ false → few b kind ≡ false

few-step : (few stops : Stopper) → Fewer few stops → (n : ℕ) (b : Bool) (kind : TokenKind) (e : State) → stepped stops n b kind ≡ Some e → stepped few n b kind ≡ Some e
few-step few stops l zero b kind e h =
    let c = cond-none (stops b kind) (moved zero kind) e h in
    ap (λ x. cond x None (moved zero kind)) (l b kind c.0) ∙ c.1
few-step few stops l (suc n) b kind e h = h

pub fewer-extends : (few stops : Stopper) → Fewer few stops → Extends (step stops) (step few)
fewer-extends few stops l s m t h = few-step few stops l s.0 s.1 t.kind m h

pub leads-fewer : (few stops : Stopper) (s e : State) (A : Piece) → Fewer few stops → Leads stops s e A → Leads few s e A
leads-fewer few stops s e A l f ts h = wider (step stops) (step few) (fewer-extends few stops l) s e ts (f ts h)

pub fewer-nothing : (stops : Stopper) → Fewer nothing stops
fewer-nothing stops b kind h = refl

-- ---- in brackets
pub leads-in : (stops : Stopper) (b c : Bool) (opener closer : TokenKind) (A : Piece) → stepped stops 0 b opener ≡ Some (1, false) → moved 1 closer ≡ Some (0, true) → Leads nothing (0, false) (0, c) A → Leads stops (0, b) (0, true) (Just opener ⌢ A ⌢ Just closer)
leads-in stops b c opener closer A o k f =
    leads-join stops (0, b) (1, false) (0, true) (Just opener) (A ⌢ Just closer) (leads-just stops 0 b (1, false) opener o)
    (leads-join stops (1, false) (1, c) (0, true) A (Just closer) (leads-deep nothing stops 0 0 false c A f) (leads-just stops 1 c (0, true) closer k))
