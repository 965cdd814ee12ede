-- The header, as the code reads it.
use Rattle.std.specs.Prelude.{◌≡◌, ◌≢◌, ℕ, cond, nat_eq, List, [], ◌∷◌, ◌++◌, Option, None, Some, refl}
use Rattle.std.proofs.Common.{sym, ◌∙◌, ap, subst, append_assoc, append-nil}
use Rattle.bk_form.specs.declared.token.Token.{Token}
use Rattle.bk_form.specs.declared.token.TokenKind.TheVariants.{Word}
use Rattle.bk_ops.specs.declared.word.TheConstants.{MACHINE, REFINEMENT, REFINES}
use Rattle.bk_raw.specs.Grammar.ComponentSpelling.{Header, Refined}
use Rattle.bk_raw.specs.Trees.ComponentTree.{RawComponent, kind_number}
use Rattle.bk_raw.specs.Grammar.Pieces.{JustWord, ◌⌢◌}
use Rattle.bk_raw.specs.Grammar.Reading.{name, named}
use Rattle.bk_raw.specs.Grammar.Spelling.{Declared}
use Rattle.bk_raw.specs.declared.component.ComponentKind.{ComponentKind}
use Rattle.bk_raw.specs.declared.component.ComponentKind.TheVariants.{Machine, Refinement, Implementation}
use Rattle.bk_raw.specs.declared.term.RawName.{RawName}
use Rattle.bk_raw.proofs.ClauseOne.{first-at}
use Rattle.bk_raw.proofs.Patterns.{first}
use Rattle.bk_raw.proofs.Stopping.{some_same}
use Rattle.bk_raw.proofs.SubOne.{words-same}
use Rattle.bk_p_expr.specs.Fronts.{Longest}
use Rattle.bk_p_sub.specs.Found.{Ahead, NotAhead}
use Rattle.bk_p_sub.proofs.Fronts.{name_longest, name_nothing}
use Rattle.bk_p_comp.specs.Clauses.{HasNoHeader, IsHeaded}

-- ---- the word
abbrev kind_back : ℕ → ComponentKind
kind_back n = cond (nat_eq n MACHINE) Machine (cond (nat_eq n REFINEMENT) Refinement Implementation)

kind_again : (k : ComponentKind) → kind_back (kind_number k) ≡ k
kind_again Machine = refl
kind_again Refinement = refl
kind_again Implementation = refl

kind_same : (k l : ComponentKind) → Word (kind_number k) ≡ Word (kind_number l) → k ≡ l
kind_same k l e = sym (kind_again k) ∙ ap kind_back (words-same (kind_number k) (kind_number l) e) ∙ kind_again l

-- a header in front: its word is the first one, and its name and what it refines stand behind that
record HeaderThere (t : Token) (behind after : List Token) (c : RawComponent) : Type 0 where
  same : t.kind ≡ Word (kind_number c.kind)
  back : List Token
  splits : behind ≡ back ++ after
  written : (Declared c.name ⌢ Refined c.kind c.refines) back

header_there : (tokens behind front after : List Token) (t : Token) (c : RawComponent) → tokens ≡ t ∷ behind → tokens ≡ front ++ after → Header c front → HeaderThere t behind after c
header_there tokens behind front after t c e f h =
    let g = first-at c.at (Word (kind_number c.kind)) (Declared c.name ⌢ Refined c.kind c.refines) front h in
    let both : t ∷ behind ≡ g.token ∷ (g.rest ++ after) = sym e ∙ f ∙ ap (λ us. us ++ after) g.is in
    let token : t ≡ g.token = cc in
    let rest : behind ≡ g.rest ++ after = cc in
    record { same = ap (λ u. u.kind) token ∙ g.same; back = g.rest; splits = rest; written = g.back }

pub header_in_none : (tokens : List Token) → tokens ≡ [] → HasNoHeader tokens
header_in_none tokens e c front after f h =
    let g = first-at c.at (Word (kind_number c.kind)) (Declared c.name ⌢ Refined c.kind c.refines) front h in
    let both : [] ≡ g.token ∷ (g.rest ++ after) = sym e ∙ f ∙ ap (λ us. us ++ after) g.is in
    cc

pub header_no_kind : (tokens behind : List Token) (t : Token) → tokens ≡ t ∷ behind → ((k : ComponentKind) → Word (kind_number k) ≢ t.kind) → HasNoHeader tokens
header_no_kind tokens behind t e n c front after f h = n c.kind (sym (header_there tokens behind front after t c e f h).same)

pub header_no_name : (tokens behind : List Token) (t : Token) → tokens ≡ t ∷ behind → name behind ≡ None → HasNoHeader tokens
header_no_name tokens behind t e n c front after f h =
    let g = header_there tokens behind front after t c e f h in
    let w = g.written in
    name_nothing behind n c.name w.0 (w.1 ++ after) (g.splits ∙ ap (λ us. us ++ after) w.2 ∙ append_assoc w.0 w.1 after) w.3

-- ---- what is refined
-- behind a name in front stands what is left of the name that is read
name_left : (tokens front after ts : List Token) (x y : RawName) → tokens ≡ front ++ after → Declared y front → name tokens ≡ Some (x, ts) → ts ≡ after
name_left tokens front after ts x y f d e = ap (λ (q : RawName × List Token). q.1) (some_same (x, ts) (record { at = d.0.start; text = y.text }, after) (sym e ∙ ap name (f ∙ ap (λ us. us ++ after) d.1) ∙ ap (λ k. named k d.0.start after) d.2))

-- what stands behind the name of a header in front
refined_there : (tokens behind ts front after : List Token) (t : Token) (k : ComponentKind) (x : RawName) (c : RawComponent) → tokens ≡ t ∷ behind → Word (kind_number k) ≡ t.kind → name behind ≡ Some (x, ts) → tokens ≡ front ++ after → Header c front → (back : List Token) × (ts ≡ back ++ after) × Refined k c.refines back
refined_there tokens behind ts front after t k x c e i n f h =
    let g = header_there tokens behind front after t c e f h in
    let w = g.written in
    let kind : c.kind ≡ k = kind_same c.kind k (sym g.same ∙ sym i) in
    (w.1, name_left behind w.0 (w.1 ++ after) ts x c.name (g.splits ∙ ap (λ us. us ++ after) w.2 ∙ append_assoc w.0 w.1 after) w.3 n, subst (λ l. Refined l c.refines w.1) kind w.4)

-- below a machine REFINES and a name are written
record RefinedThere (tokens after : List Token) : Type 0 where
  word : Token
  back : List Token
  is : tokens ≡ word ∷ (back ++ after)
  same : word.kind ≡ Word REFINES
  refined : RawName
  written : Declared refined back

word_there : (y : RawName) (back after tokens : List Token) → tokens ≡ back ++ after → (JustWord REFINES ⌢ Declared y) back → RefinedThere tokens after
word_there y back after tokens e h =
    let g = first (Word REFINES) (Declared y) back h in
    record { word = g.token; back = g.rest; is = e ∙ ap (λ us. us ++ after) g.is; same = g.same; refined = y; written = g.back }

below : (k : ComponentKind) (r : Option RawName) (back after tokens : List Token) → k ≢ Machine → tokens ≡ back ++ after → Refined k r back → RefinedThere tokens after
below Machine r back after tokens n e h = absurd (n refl)
below Refinement None back after tokens n e h = absurd h
below Refinement (Some y) back after tokens n e h = word_there y back after tokens e h
below Implementation None back after tokens n e h = absurd h
below Implementation (Some y) back after tokens n e h = word_there y back after tokens e h

pub header_no_refines : (tokens behind ts : List Token) (t : Token) (k : ComponentKind) (x : RawName) → tokens ≡ t ∷ behind → Word (kind_number k) ≡ t.kind → name behind ≡ Some (x, ts) → k ≢ Machine → NotAhead (Word REFINES) ts → HasNoHeader tokens
header_no_refines tokens behind ts t k x e i n m a c front after f h =
    let r : (back : List Token) × (ts ≡ back ++ after) × Refined k c.refines back = refined_there tokens behind ts front after t k x c e i n f h in
    let w = below k c.refines r.0 after ts m r.1 r.2 in
    a w.word (w.back ++ after) w.is w.same

pub header_no_refined : (tokens behind ts more : List Token) (t : Token) (k : ComponentKind) (x : RawName) → tokens ≡ t ∷ behind → Word (kind_number k) ≡ t.kind → name behind ≡ Some (x, ts) → k ≢ Machine → Ahead (Word REFINES) ts more → name more ≡ None → HasNoHeader tokens
header_no_refined tokens behind ts more t k x e i n m a z c front after f h =
    let r : (back : List Token) × (ts ≡ back ++ after) × Refined k c.refines back = refined_there tokens behind ts front after t k x c e i n f h in
    let w = below k c.refines r.0 after ts m r.1 r.2 in
    let both : a.0 ∷ more ≡ w.word ∷ (w.back ++ after) = sym a.1 ∙ w.is in
    let same : more ≡ w.back ++ after = cc in
    name_nothing more z w.refined w.back after same w.written

-- ---- headers that are read
pub headed_machine : (tokens behind ts : List Token) (t : Token) (x : RawName) → tokens ≡ t ∷ behind → Word (kind_number Machine) ≡ t.kind → name behind ≡ Some (x, ts) → IsHeaded tokens (record { at = t.start; kind = Machine; name = x; refines = None }) ts
headed_machine tokens behind ts t x e i n =
    let h : Longest Declared behind x ts = name_longest behind ts x n in
    (t ∷ h.written, e ∙ ap (λ us. t ∷ us) h.splits, λ cs. (t ∷ [], h.written, refl, (t, refl, sym i, refl), (h.written, [], sym (append-nil h.written), h.spelled, refl)))

refined_by : (k : ComponentKind) (y : RawName) (ts : List Token) → k ≢ Machine → (JustWord REFINES ⌢ Declared y) ts → Refined k (Some y) ts
refined_by Machine y ts n h = absurd (n refl)
refined_by Refinement y ts n h = h
refined_by Implementation y ts n h = h

pub headed_below : (tokens behind ts more rest : List Token) (t : Token) (k : ComponentKind) (x y : RawName) → tokens ≡ t ∷ behind → Word (kind_number k) ≡ t.kind → name behind ≡ Some (x, ts) → k ≢ Machine → Ahead (Word REFINES) ts more → name more ≡ Some (y, rest) → IsHeaded tokens (record { at = t.start; kind = k; name = x; refines = Some y }) rest
headed_below tokens behind ts more rest t k x y e i n m a z =
    let h : Longest Declared behind x ts = name_longest behind ts x n in
    let g : Longest Declared more y rest = name_longest more rest y z in
    let last : List Token = a.0 ∷ g.written in
    let splits : ts ≡ last ++ rest = a.1 ∙ ap (λ us. a.0 ∷ us) g.splits in
    (t ∷ (h.written ++ last), e ∙ ap (λ us. t ∷ us) (h.splits ∙ ap (λ us. h.written ++ us) splits ∙ sym (append_assoc h.written last rest)), λ cs. (t ∷ [], h.written ++ last, refl, (t, refl, sym i, refl), (h.written, last, refl, h.spelled, refined_by k y last m (a.0 ∷ [], g.written, refl, (a.0, refl, a.2), g.spelled))))
