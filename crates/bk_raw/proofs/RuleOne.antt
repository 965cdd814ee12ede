-- Two rules that are written as the same tokens are the same, once over the shapes of rules.
use Rattle.std.proofs.Common.{◌≡◌, ◌⊎◌, inl, inr, ℕ, Bool, true, false, List, [], ◌∷◌, Option, Some, None, refl, sym, ◌∙◌, ap, subst, cond}
use Rattle.std.specs.Prelude.{nat_eq, ◌||◌, codes}
use Rattle.std.specs.Str.{bytes_eq}
use Rattle.bk_form.specs.declared.token.Token.{Token}
use Rattle.bk_form.specs.declared.token.TokenKind.{TokenKind}
use Rattle.bk_form.specs.declared.token.TokenKind.TheVariants.{Name, Number, Sign, Word}
use Rattle.bk_ops.specs.declared.sign.TheConstants.{SEMICOLON, COMMA}
use Rattle.bk_raw.specs.Grammar.Pieces.{Just, JustAt, ◌⌢◌, Digits, Absent, Divided, InRow}
use Rattle.bk_raw.specs.Trees.RawTree.{RawTree}
use Rattle.bk_raw.specs.declared.script.RuleWord.{RuleWord}
use Rattle.bk_raw.specs.declared.script.RuleWord.TheVariants.{Hyp, Eval, False, Absurd, Fix, UseTerms, Split, Cases, Apply, Inst, OpenSome, Cut, Case, Drop, Eq, Qe, Law, Wal, TypeOf, Neg, Mem, Val, Ext, Sub, Ex, Pair, Elems, Interval, Lin}
use Rattle.bk_raw.specs.Trees.ScriptTree.{rule_kind, PartKind, one_number, one_term, some_terms, one_place, perhaps_place, typed_names, one_law, certificate, shape_of, RawPlace, in_goal, in_hypothesis, RulePart, part_number, part_term, part_terms, part_place, part_no_place, part_typed, part_law, part_certificate, RawRule}
use Rattle.bk_raw.specs.Grammar.ScriptSpelling.{Place, TypedName, AnyTerm, Picked, Spelled, Ruled, Rule}
use Rattle.bk_raw.proofs.Steps.{Piece, Stopper, stepped, Leads, leads-join, leads-just}
use Rattle.bk_raw.proofs.TermRuns.{ends_term, ends_terms}
use Rattle.bk_raw.proofs.Patterns.{Both, same-piece, StopsAt, stops-just}
use Rattle.bk_raw.proofs.SubOne.{term-cut}
use Rattle.bk_raw.proofs.Lists.{absent-then, leads-absent}
use Rattle.bk_raw.proofs.ClauseOne.{same-at}
use Rattle.bk_raw.proofs.PartOne.{not-empty, digits-cut, ends_place, place-leads, one-place, terms-lead, one-terms, typed-names-lead, one-typed-names, ends_law, law-leads, one-law, ends_certificate, Certified, certificate-leads, one-certificate}
use Rattle.bk_raw.proofs.Shapes.{regrouped}
use Rattle.bk_raw.proofs.Stopping.{some_same}
use Rattle.bk_raw.specs.Codes.ScriptCodes.{rule_words}

-- behind a rule stands a semicolon, or `end`, or nothing
abbrev pub IsRuleEnd : List Token → Type 0
IsRuleEnd [] = Unit {0}
IsRuleEnd (t ∷ ts) = (t.kind ≡ Sign SEMICOLON) ⊎ (t.kind ≡ Name (codes "end"))

abbrev pub RuleEnds : Piece → Type 0
RuleEnds K = (ts : List Token) → K ts → IsRuleEnd ts

pub end-stops : (stops : Stopper) (b : Bool) (K : Piece) → stepped stops 0 b (Sign SEMICOLON) ≡ None → stepped stops 0 b (Name (codes "end")) ≡ None → RuleEnds K → StopsAt stops (0, b) K
end-stops stops b K s n e [] h = tt
end-stops stops b K s n e (t ∷ ts) h = elim (e (t ∷ ts) h) [
  | inl i ↦ ap (stepped stops 0 b) i ∙ s
  | inr i ↦ ap (stepped stops 0 b) i ∙ n
]

pub absent-ends : (K : Piece) → RuleEnds K → RuleEnds (Absent ⌢ K)
absent-ends K e ts h = e ts (absent-then K ts h)

-- ---- one way to cut by a shape
abbrev pub CutsOnce : List PartKind → Type 1
CutsOnce ks = (ps qs : List RulePart) (K L : Piece) (ts : List Token) → RuleEnds K → RuleEnds L → (Ruled ks ps ⌢ K) ts → (Ruled ks qs ⌢ L) ts → (ps ≡ qs) × Both K L

abbrev LastCut : PartKind → Type 1
LastCut k = (p q : RulePart) (K L : Piece) (ts : List Token) → RuleEnds K → RuleEnds L → (Spelled k p ⌢ K) ts → (Spelled k q ⌢ L) ts → (p ≡ q) × Both K L

cut-none : CutsOnce []
cut-none [] [] K L ts e f h k = (refl, (ts, absent-then K ts h, absent-then L ts k))
cut-none [] (q ∷ qs) K L ts e f h k = absurd k.3
cut-none (p ∷ ps) qs K L ts e f h k = absurd h.3

cut-last : (k : PartKind) → LastCut k → CutsOnce (k ∷ [])
cut-last j c [] qs K L ts e f h k = absurd h.3
cut-last j c (p ∷ o ∷ ps) qs K L ts e f h k = absurd h.3.4
cut-last j c (p ∷ []) [] K L ts e f h k = absurd k.3
cut-last j c (p ∷ []) (q ∷ o ∷ qs) K L ts e f h k = absurd k.3.4
cut-last j c (p ∷ []) (q ∷ []) K L ts e f h k =
    let d = c p q (Absent ⌢ K) (Absent ⌢ L) ts (absent-ends K e) (absent-ends L f) (regrouped (Spelled j p) Absent K ts h) (regrouped (Spelled j q) Absent L ts k) in
    (ap (λ x. x ∷ []) d.0, (d.1.0, absent-then K d.1.0 d.1.1, absent-then L d.1.0 d.1.2))

pub number-first : (p q : RulePart) (K L : Piece) (ts : List Token) → (Spelled one_number p ⌢ K) ts → (Spelled one_number q ⌢ L) ts → (p ≡ q) × Both K L
number-first (part_number m) (part_number n) K L ts h k = let d = digits-cut m n K L ts h k in (ap part_number d.0, d.1)
number-first (part_number m) _ K L ts h k = absurd k.3
number-first _ q K L ts h k = absurd h.3

cut-number : (ks : List PartKind) → CutsOnce ks → CutsOnce (one_number ∷ ks)
cut-number ks c [] qs K L ts e f h k = absurd h.3
cut-number ks c (p ∷ ps) [] K L ts e f h k = absurd k.3
cut-number ks c (p ∷ ps) (q ∷ qs) K L ts e f h k =
    let a = number-first p q (Ruled ks ps ⌢ K) (Ruled ks qs ⌢ L) ts (regrouped (Spelled one_number p) (Ruled ks ps) K ts h) (regrouped (Spelled one_number q) (Ruled ks qs) L ts k) in
    let b = c ps qs K L a.1.0 e f a.1.1 a.1.2 in
    ((λ i. a.0 i ∷ b.0 i), b.1)

-- ---- the last part
last-term : LastCut one_term
last-term (part_term t) (part_term u) K L ts e f h k =
    let c = term-cut t u K L ts (end-stops ends_term true K refl refl e) (end-stops ends_term true L refl refl f) h k in
    (ap part_term c.0, c.1)
last-term (part_term t) _ K L ts e f h k = absurd k.3
last-term _ q K L ts e f h k = absurd h.3

last-terms : LastCut some_terms
last-terms (part_terms us) (part_terms vs) K L ts e f h k =
    let c = same-piece ends_terms (0, false) (0, true) (0, true) (Divided COMMA AnyTerm us) (Divided COMMA AnyTerm vs) K L ts (terms-lead us) (terms-lead vs) (end-stops ends_terms true K refl refl e) (end-stops ends_terms true L refl refl f) h k in
    (ap part_terms (one-terms us vs c.0 c.1 c.2), c.3)
last-terms (part_terms us) _ K L ts e f h k = absurd k.3
last-terms _ q K L ts e f h k = absurd h.3

last-typed : LastCut typed_names
last-typed (part_typed xs) (part_typed ys) K L ts e f h k =
    let c = same-piece ends_terms (0, false) (0, true) (0, true) (Divided COMMA TypedName xs) (Divided COMMA TypedName ys) K L ts (typed-names-lead xs) (typed-names-lead ys) (end-stops ends_terms true K refl refl e) (end-stops ends_terms true L refl refl f) h k in
    (ap part_typed (one-typed-names xs ys c.0 c.1 c.2), c.3)
last-typed (part_typed xs) _ K L ts e f h k = absurd k.3
last-typed _ q K L ts e f h k = absurd h.3

place-cut : (p q : RawPlace) (K L : Piece) (ts : List Token) → RuleEnds K → RuleEnds L → (Place p ⌢ K) ts → (Place q ⌢ L) ts → (p ≡ q) × Both K L
place-cut p q K L ts e f h k =
    let c = same-piece ends_place (0, false) (0, true) (0, true) (Place p) (Place q) K L ts (place-leads p) (place-leads q) (end-stops ends_place true K refl refl e) (end-stops ends_place true L refl refl f) h k in
    (one-place p q c.0 c.1 c.2, c.3)

last-place : LastCut one_place
last-place (part_place p) (part_place q) K L ts e f h k = let c = place-cut p q K L ts e f h k in (ap part_place c.0, c.1)
last-place (part_place p) _ K L ts e f h k = absurd k.3
last-place _ q K L ts e f h k = absurd h.3

last-certificate : LastCut certificate
last-certificate (part_certificate ms ls) (part_certificate ns os) K L ts e f h k =
    let c = same-piece ends_certificate (0, false) (0, true) (0, true) (Certified ms ls) (Certified ns os) K L ts (certificate-leads ms ls) (certificate-leads ns os) (end-stops ends_certificate true K refl refl e) (end-stops ends_certificate true L refl refl f) h k in
    let d = one-certificate ms ns ls os c.0 c.1 c.2 in
    ((λ i. part_certificate (d.0 i) (d.1 i)), c.3)
last-certificate (part_certificate ms ls) _ K L ts e f h k = absurd k.3
last-certificate _ q K L ts e f h k = absurd h.3

-- a place, or none
abbrev pub ends_perhaps : Stopper
ends_perhaps b (Name x) = b || bytes_eq x (codes "end")
ends_perhaps b (Sign op) = nat_eq op SEMICOLON
ends_perhaps b kind = false

perhaps-row : (path : List ℕ) → Leads ends_perhaps (0, true) (0, true) (InRow Digits path)
perhaps-row [] = leads-absent ends_perhaps (0, true)
perhaps-row (n ∷ path) = leads-join ends_perhaps (0, true) (0, true) (0, true) (Digits n) (InRow Digits path) (leads-just ends_perhaps 0 true (0, true) (Number _) refl) (perhaps-row path)

pub perhaps-leads : (p : RawPlace) → Leads ends_perhaps (0, false) (0, true) (Place p)
perhaps-leads (in_goal path) = leads-join ends_perhaps (0, false) (0, true) (0, true) (Just (Name (codes "goal"))) (InRow Digits path) (leads-just ends_perhaps 0 false (0, true) (Name (codes "goal")) refl) (perhaps-row path)
perhaps-leads (in_hypothesis i path) =
    leads-join ends_perhaps (0, false) (0, true) (0, true) (Just (Name (codes "hyp"))) (Digits i ⌢ InRow Digits path) (leads-just ends_perhaps 0 false (0, true) (Name (codes "hyp")) refl)
    (leads-join ends_perhaps (0, true) (0, true) (0, true) (Digits i) (InRow Digits path) (leads-just ends_perhaps 0 true (0, true) (Number _) refl) (perhaps-row path))

no-place : (p : RawPlace) (K L : Piece) (ts : List Token) → RuleEnds L → (Place p ⌢ K) ts → (Absent ⌢ L) ts → RuleEnds K → ⊥
no-place p K L ts f h k e =
    let c = same-piece ends_perhaps (0, false) (0, true) (0, false) (Place p) Absent K L ts (perhaps-leads p) (leads-absent ends_perhaps (0, false)) (end-stops ends_perhaps true K refl refl e) (end-stops ends_perhaps false L refl refl f) h k in
    not-empty ends_perhaps (Place p) (perhaps-leads p) (subst (Place p) c.2 c.1)

last-perhaps : LastCut perhaps_place
last-perhaps (part_place p) (part_place q) K L ts e f h k = let c = place-cut p q K L ts e f h k in (ap part_place c.0, c.1)
last-perhaps (part_place p) part_no_place K L ts e f h k = absurd (no-place p K L ts f h k e)
last-perhaps part_no_place (part_place q) K L ts e f h k = absurd (no-place q L K ts e k h f)
last-perhaps part_no_place part_no_place K L ts e f h k = (refl, (ts, absent-then K ts h, absent-then L ts k))
last-perhaps (part_place p) _ K L ts e f h k = absurd k.3
last-perhaps part_no_place _ K L ts e f h k = absurd k.3
last-perhaps _ q K L ts e f h k = absurd h.3

-- a law, and a place
pub place-stops : (p : RawPlace) (K : Piece) → StopsAt ends_law (0, true) (Place p ⌢ K)
place-stops (in_goal path) K ts h = stops-just ends_law 0 true (Name (codes "goal")) (InRow Digits path ⌢ K) refl ts (regrouped (Just (Name (codes "goal"))) (InRow Digits path) K ts h)
place-stops (in_hypothesis i path) K ts h = stops-just ends_law 0 true (Name (codes "hyp")) ((Digits i ⌢ InRow Digits path) ⌢ K) refl ts (regrouped (Just (Name (codes "hyp"))) (Digits i ⌢ InRow Digits path) K ts h)

law-place : (m n : List ℕ) (us vs : List RawTree) (p q : RawPlace) (K L : Piece) (ts : List Token) → RuleEnds K → RuleEnds L → ((Just (Name m) ⌢ Picked us) ⌢ Place p ⌢ K) ts → ((Just (Name n) ⌢ Picked vs) ⌢ Place q ⌢ L) ts → (m ≡ n) × (us ≡ vs) × (p ≡ q) × Both K L
law-place m n us vs p q K L ts e f h k =
    let c = same-piece ends_law (0, false) (0, true) (0, true) (Just (Name m) ⌢ Picked us) (Just (Name n) ⌢ Picked vs) (Place p ⌢ K) (Place q ⌢ L) ts (law-leads m us) (law-leads n vs) (place-stops p K) (place-stops q L) h k in
    let d = one-law m n us vs c.0 c.1 c.2 in
    let g = place-cut p q K L c.3.0 e f c.3.1 c.3.2 in
    (d.0, d.1, g.0, g.1)

abbrev pub LawParts : List RulePart → Type 0
LawParts ps = (m : List ℕ) × (us : List RawTree) × (p : RawPlace) × (ps ≡ part_law m us ∷ part_place p ∷ [])

pub law-parts : (ps : List RulePart) (ts : List Token) → Ruled (one_law ∷ one_place ∷ []) ps ts → LawParts ps
law-parts [] ts h = absurd h
law-parts (part_law m us ∷ []) ts h = absurd h.4
law-parts (part_law m us ∷ part_place p ∷ []) ts h = (m, us, p, refl)
law-parts (part_law m us ∷ part_place p ∷ q ∷ ps) ts h = absurd h.4.4
law-parts (part_law m us ∷ p ∷ ps) ts h = absurd h.4.3
law-parts (p ∷ ps) ts h = absurd h.3

pub law-shape : (m : List ℕ) (us : List RawTree) (p : RawPlace) (K : Piece) (ts : List Token) → (Ruled (one_law ∷ one_place ∷ []) (part_law m us ∷ part_place p ∷ []) ⌢ K) ts → ((Just (Name m) ⌢ Picked us) ⌢ Place p ⌢ (Absent ⌢ K)) ts
law-shape m us p K ts h =
    let a = regrouped (Just (Name m) ⌢ Picked us) (Place p ⌢ Absent) K ts h in
    (a.0, a.1, a.2, a.3, regrouped (Place p) Absent K a.1 a.4)

cut-law : CutsOnce (one_law ∷ one_place ∷ [])
cut-law ps qs K L ts e f h k =
    let R = Ruled (one_law ∷ one_place ∷ []) in
    let a = law-parts ps h.0 h.3 in
    let b = law-parts qs k.0 k.3 in
    let x = law-shape a.0 a.1 a.2 K ts (subst (λ y. (R y ⌢ K) ts) a.3 h) in
    let z = law-shape b.0 b.1 b.2 L ts (subst (λ y. (R y ⌢ L) ts) b.3 k) in
    let c = law-place a.0 b.0 a.1 b.1 a.2 b.2 (Absent ⌢ K) (Absent ⌢ L) ts (absent-ends K e) (absent-ends L f) x z in
    (a.3 ∙ (λ i. part_law (c.0 i) (c.1 i) ∷ part_place (c.2 i) ∷ []) ∙ sym b.3, (c.3.0, absent-then K c.3.0 c.3.1, absent-then L c.3.0 c.3.2))

number : CutsOnce (one_number ∷ [])
number = cut-number [] cut-none

pub cuts : (w : RuleWord) → CutsOnce (shape_of w)
cuts Hyp = number
cuts Eval = cut-last perhaps_place last-perhaps
cuts False = number
cuts Absurd = cut-number (one_number ∷ []) number
cuts Fix = cut-last typed_names last-typed
cuts UseTerms = cut-last some_terms last-terms
cuts Split = number
cuts Cases = number
cuts Apply = number
cuts Inst = cut-number (some_terms ∷ []) (cut-last some_terms last-terms)
cuts OpenSome = cut-number (typed_names ∷ []) (cut-last typed_names last-typed)
cuts Cut = cut-last one_term last-term
cuts Case = cut-last one_term last-term
cuts Drop = number
cuts Eq = cut-number (one_place ∷ []) (cut-last one_place last-place)
cuts Qe = cut-number (one_place ∷ []) (cut-last one_place last-place)
cuts Law = cut-law
cuts Wal = cut-law
cuts TypeOf = cut-last one_place last-place
cuts Neg = cut-last one_place last-place
cuts Mem = cut-last one_place last-place
cuts Val = cut-last one_place last-place
cuts Ext = cut-last one_place last-place
cuts Sub = cut-last one_place last-place
cuts Ex = cut-last one_place last-place
cuts Pair = cut-last one_term last-term
cuts Elems = cut-last one_term last-term
cuts Interval = number
cuts Lin = cut-last certificate last-certificate
cuts _ = cut-none

-- ---- words
-- the same letters, or the same word of the notation
abbrev is_same_word : TokenKind → TokenKind → Bool
is_same_word (Name x) (Name y) = bytes_eq x y
is_same_word (Word m) (Word n) = nat_eq m n
is_same_word _ _ = false

abbrev first_word : TokenKind → List RuleWord → Option RuleWord
first_word kind [] = None
first_word kind (w ∷ ws) = cond (is_same_word kind (rule_kind w)) (Some w) (first_word kind ws)

abbrev pub word_of : TokenKind → Option RuleWord
word_of kind = first_word kind rule_words

pub word-again : (w : RuleWord) → word_of (rule_kind w) ≡ Some w
word-again Hyp = refl
word-again _ = refl

pub word-same : (w v : RuleWord) → rule_kind w ≡ rule_kind v → w ≡ v
word-same w v e = some_same w v (sym (word-again w) ∙ ap word_of e ∙ word-again v)

pub rule-cut : (r q : RawRule) (K L : Piece) (ts : List Token) → RuleEnds K → RuleEnds L → (Rule r ⌢ K) ts → (Rule q ⌢ L) ts → (r ≡ q) × Both K L
rule-cut r q K L ts e f h k =
    let R = Ruled (shape_of r.word) r.parts in
    let Q = Ruled (shape_of q.word) q.parts in
    let a = same-at r.at q.at (rule_kind r.word) (rule_kind q.word) (R ⌢ K) (Q ⌢ L) ts (regrouped (JustAt r.at (rule_kind r.word)) R K ts h) (regrouped (JustAt q.at (rule_kind q.word)) Q L ts k) in
    let w = word-same r.word q.word a.1 in
    let c = cuts r.word r.parts q.parts K L a.2.0 e f a.2.1 (subst (λ x. (Ruled (shape_of x) q.parts ⌢ L) a.2.0) (sym w) a.2.2) in
    ((λ i. record { word = w i; at = a.0 i; parts = c.0 i }), c.1)
