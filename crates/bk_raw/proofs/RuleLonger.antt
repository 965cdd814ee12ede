-- Where a semicolon, or `end`, or nothing stands behind a rule, no other rule at its place is longer.
use Rattle.std.proofs.Common.{true, false, List, [], ◌∷◌, ◌++◌, refl, sym, ◌∙◌, subst}
use Rattle.bk_form.specs.declared.token.Token.{Token}
use Rattle.bk_form.specs.declared.token.TokenKind.TheVariants.{Name}
use Rattle.bk_raw.specs.Grammar.Pieces.{Just, JustAt, ◌⌢◌, Absent}
use Rattle.bk_raw.specs.declared.script.RuleWord.{RuleWord}
use Rattle.bk_raw.specs.declared.script.RuleWord.TheVariants.{Hyp, Eval, False, Absurd, Fix, UseTerms, Split, Cases, Apply, Inst, OpenSome, Cut, Case, Drop, Eq, Qe, Law, Wal, TypeOf, Neg, Mem, Val, Ext, Sub, Ex, Pair, Elems, Interval, Lin}
use Rattle.bk_raw.specs.Trees.ScriptTree.{rule_kind, PartKind, one_number, one_term, some_terms, one_place, perhaps_place, typed_names, one_law, certificate, shape_of, RulePart, part_term, part_terms, part_place, part_no_place, part_typed, part_certificate, RawRule}
use Rattle.bk_raw.specs.Grammar.ScriptSpelling.{Place, Picked, Spelled, Ruled, Rule}
use Rattle.bk_raw.proofs.Runs.{no-longer}
use Rattle.bk_raw.proofs.Steps.{Piece, State, Stopper, step, Leads, leads-never}
use Rattle.bk_raw.proofs.TermRuns.{ends_term, ends_terms, term}
use Rattle.bk_raw.proofs.Patterns.{same-piece, StopsAt}
use Rattle.bk_raw.proofs.Lists.{absent-then, leads-absent}
use Rattle.bk_raw.proofs.ClauseOne.{same-at}
use Rattle.bk_raw.proofs.PartOne.{ends_place, place-leads, terms-lead, typed-names-lead, ends_law, law-leads, ends_certificate, certificate-leads}
use Rattle.bk_raw.proofs.RuleOne.{RuleEnds, end-stops, absent-ends, number-first, ends_perhaps, perhaps-leads, place-stops, law-parts, law-shape, word-same}
use Rattle.bk_raw.proofs.Shapes.{regrouped}

-- what is behind the one is at the end of what is behind the other
abbrev pub Within : Piece → Piece → Type 0
Within K L = (x r : List Token) × K r × L (x ++ r)

pub within-piece : (stops : Stopper) (s e f : State) (A B K L : Piece) (ts : List Token) → Leads stops s e A → Leads stops s f B → StopsAt stops e K → (A ⌢ K) ts → (B ⌢ L) ts → Within K L
within-piece stops s e f A B K L ts la lb sk h k =
    let m = no-longer (step stops) s e f h.0 h.1 k.0 k.1 (la h.0 h.3) (lb k.0 k.3) (sk h.1 h.4) (sym h.2 ∙ k.2) in
    (m.0, h.1, h.4, subst L m.2 k.4)

abbrev pub NoLonger : List PartKind → Type 1
NoLonger ks = (ps qs : List RulePart) (K L : Piece) (ts : List Token) → RuleEnds K → (Ruled ks ps ⌢ K) ts → (Ruled ks qs ⌢ L) ts → Within K L

none : NoLonger []
none [] [] K L ts e h k = ([], ts, absent-then K ts h, absent-then L ts k)
none [] (q ∷ qs) K L ts e h k = absurd k.3
none (p ∷ ps) qs K L ts e h k = absurd h.3

absent-within : (K L : Piece) → Within (Absent ⌢ K) (Absent ⌢ L) → Within K L
absent-within K L w = (w.0, w.1, absent-then K w.1 w.2, absent-then L (w.0 ++ w.1) w.3)

-- a last part that leads somewhere, where the end of a rule halts
last : (j : PartKind) (stops : Stopper) (end : RulePart → State) → ((p : RulePart) → Leads stops (0, false) (end p) (Spelled j p)) → ((p : RulePart) (K : Piece) → RuleEnds K → StopsAt stops (end p) K) → NoLonger (j ∷ [])
last j stops end l s [] qs K L ts e h k = absurd h.3
last j stops end l s (p ∷ o ∷ ps) qs K L ts e h k = absurd h.3.4
last j stops end l s (p ∷ []) [] K L ts e h k = absurd k.3
last j stops end l s (p ∷ []) (q ∷ o ∷ qs) K L ts e h k = absurd k.3.4
last j stops end l s (p ∷ []) (q ∷ []) K L ts e h k =
    absent-within K L (within-piece stops (0, false) (end p) (end q) (Spelled j p) (Spelled j q) (Absent ⌢ K) (Absent ⌢ L) ts (l p) (l q) (s p (Absent ⌢ K) (absent-ends K e)) (regrouped (Spelled j p) Absent K ts h) (regrouped (Spelled j q) Absent L ts k))

behind-number : (ks : List PartKind) → NoLonger ks → NoLonger (one_number ∷ ks)
behind-number ks c [] qs K L ts e h k = absurd h.3
behind-number ks c (p ∷ ps) [] K L ts e h k = absurd k.3
behind-number ks c (p ∷ ps) (q ∷ qs) K L ts e h k =
    let a = number-first p q (Ruled ks ps ⌢ K) (Ruled ks qs ⌢ L) ts (regrouped (Spelled one_number p) (Ruled ks ps) K ts h) (regrouped (Spelled one_number q) (Ruled ks qs) L ts k) in
    c ps qs K L a.1.0 e a.1.1 a.1.2

abbrev complete : RulePart → State
complete p = (0, true)

term-leads : (p : RulePart) → Leads ends_term (0, false) (0, true) (Spelled one_term p)
term-leads (part_term t) = term t 0
term-leads _ = leads-never ends_term (0, false) (0, true)

some-lead : (p : RulePart) → Leads ends_terms (0, false) (0, true) (Spelled some_terms p)
some-lead (part_terms ts) = terms-lead ts
some-lead _ = leads-never ends_terms (0, false) (0, true)

typed-lead : (p : RulePart) → Leads ends_terms (0, false) (0, true) (Spelled typed_names p)
typed-lead (part_typed xs) = typed-names-lead xs
typed-lead _ = leads-never ends_terms (0, false) (0, true)

places-lead : (p : RulePart) → Leads ends_place (0, false) (0, true) (Spelled one_place p)
places-lead (part_place p) = place-leads p
places-lead _ = leads-never ends_place (0, false) (0, true)

lines-lead : (p : RulePart) → Leads ends_certificate (0, false) (0, true) (Spelled certificate p)
lines-lead (part_certificate ms ls) = certificate-leads ms ls
lines-lead _ = leads-never ends_certificate (0, false) (0, true)

abbrev perhaps-end : RulePart → State
perhaps-end part_no_place = (0, false)
perhaps-end _ = (0, true)

perhaps : (p : RulePart) → Leads ends_perhaps (0, false) (perhaps-end p) (Spelled perhaps_place p)
perhaps (part_place p) = perhaps-leads p
perhaps part_no_place = leads-absent ends_perhaps (0, false)
perhaps _ = leads-never ends_perhaps (0, false) (0, true)

perhaps-halts : (p : RulePart) (K : Piece) → RuleEnds K → StopsAt ends_perhaps (perhaps-end p) K
perhaps-halts part_no_place K e = end-stops ends_perhaps false K refl refl e
perhaps-halts _ K e = end-stops ends_perhaps true K refl refl e

number : NoLonger (one_number ∷ [])
number = behind-number [] none

a-term : NoLonger (one_term ∷ [])
a-term = last one_term ends_term complete term-leads (λ p K e. end-stops ends_term true K refl refl e)

terms : NoLonger (some_terms ∷ [])
terms = last some_terms ends_terms complete some-lead (λ p K e. end-stops ends_terms true K refl refl e)

names : NoLonger (typed_names ∷ [])
names = last typed_names ends_terms complete typed-lead (λ p K e. end-stops ends_terms true K refl refl e)

place : NoLonger (one_place ∷ [])
place = last one_place ends_place complete places-lead (λ p K e. end-stops ends_place true K refl refl e)

lines : NoLonger (certificate ∷ [])
lines = last certificate ends_certificate complete lines-lead (λ p K e. end-stops ends_certificate true K refl refl e)

law : NoLonger (one_law ∷ one_place ∷ [])
law ps qs K L ts e h k =
    let R = Ruled (one_law ∷ one_place ∷ []) in
    let a = law-parts ps h.0 h.3 in
    let b = law-parts qs k.0 k.3 in
    let x = law-shape a.0 a.1 a.2 K ts (subst (λ y. (R y ⌢ K) ts) a.3 h) in
    let z = law-shape b.0 b.1 b.2 L ts (subst (λ y. (R y ⌢ L) ts) b.3 k) in
    let c = same-piece ends_law (0, false) (0, true) (0, true) (Just (Name a.0) ⌢ Picked a.1) (Just (Name b.0) ⌢ Picked b.1) (Place a.2 ⌢ (Absent ⌢ K)) (Place b.2 ⌢ (Absent ⌢ L)) ts (law-leads a.0 a.1) (law-leads b.0 b.1) (place-stops a.2 (Absent ⌢ K)) (place-stops b.2 (Absent ⌢ L)) x z in
    absent-within K L (within-piece ends_place (0, false) (0, true) (0, true) (Place a.2) (Place b.2) (Absent ⌢ K) (Absent ⌢ L) c.3.0 (place-leads a.2) (place-leads b.2) (end-stops ends_place true (Absent ⌢ K) refl refl (absent-ends K e)) c.3.1 c.3.2)

pub no-longer-by : (w : RuleWord) → NoLonger (shape_of w)
no-longer-by Hyp = number
no-longer-by Eval = last perhaps_place ends_perhaps perhaps-end perhaps perhaps-halts
no-longer-by False = number
no-longer-by Absurd = behind-number (one_number ∷ []) number
no-longer-by Fix = names
no-longer-by UseTerms = terms
no-longer-by Split = number
no-longer-by Cases = number
no-longer-by Apply = number
no-longer-by Inst = behind-number (some_terms ∷ []) terms
no-longer-by OpenSome = behind-number (typed_names ∷ []) names
no-longer-by Cut = a-term
no-longer-by Case = a-term
no-longer-by Drop = number
no-longer-by Eq = behind-number (one_place ∷ []) place
no-longer-by Qe = behind-number (one_place ∷ []) place
no-longer-by Law = law
no-longer-by Wal = law
no-longer-by TypeOf = place
no-longer-by Neg = place
no-longer-by Mem = place
no-longer-by Val = place
no-longer-by Ext = place
no-longer-by Sub = place
no-longer-by Ex = place
no-longer-by Pair = a-term
no-longer-by Elems = a-term
no-longer-by Interval = number
no-longer-by Lin = lines
no-longer-by _ = none

-- a rule at whose end a rule may end is the longest at its place
pub rule-no-longer : (r q : RawRule) (K L : Piece) (ts : List Token) → RuleEnds K → (Rule r ⌢ K) ts → (Rule q ⌢ L) ts → Within K L
rule-no-longer r q K L ts e h k =
    let R = Ruled (shape_of r.word) r.parts in
    let Q = Ruled (shape_of q.word) q.parts in
    let a = same-at r.at q.at (rule_kind r.word) (rule_kind q.word) (R ⌢ K) (Q ⌢ L) ts (regrouped (JustAt r.at (rule_kind r.word)) R K ts h) (regrouped (JustAt q.at (rule_kind q.word)) Q L ts k) in
    let w = word-same r.word q.word a.1 in
    no-longer-by r.word r.parts q.parts K L a.2.0 e a.2.1 (subst (λ x. (Ruled (shape_of x) q.parts ⌢ L) a.2.0) (sym w) a.2.2)
