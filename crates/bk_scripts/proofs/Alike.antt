-- Rules that one written rule stands for make the same of each sequent.
use Rattle.std.proofs.Common.{◌≡◌, ℕ, List, [], ◌∷◌, map, refl, sym, ◌∙◌, ap, inl, inr, append-nil}
use Rattle.std.specs.Prelude.{Option, Some, None}
use Rattle.std.specs.Global.{Vec}
use Rattle.std.specs.List.{AllZip}
use Rattle.std.specs.Option.{option_map, option_and_then}
use Rattle.bk_form.specs.Formula.{Formula, variable}
use Rattle.bk_form.specs.Table.{Table}
use Rattle.bk_seq.specs.Paths.{numbered_item}
use Rattle.bk_seq.specs.Sequents.{Sequent}
use Rattle.bk_raw.specs.Trees.RawTree.{RawTree}
use Rattle.bk_raw.specs.declared.script.RuleWord.{RuleWord}
use Rattle.bk_raw.specs.declared.script.RuleWord.TheVariants.{Hyp as HypWord, True as TrueWord, Same as SameWord, Eval as EvalWord, False as FalseWord, Absurd as AbsurdWord, And as AndWord, Iff as IffWord, Imp as ImpWord, Not as NotWord, Left as LeftWord, Right as RightWord, Or as OrWord, Contra as ContraWord, Fix as FixWord, UseTerms as UseWord, Split as SplitWord, Cases as CasesWord, Apply as ApplyWord, Inst as InstWord, OpenSome as OpenWord, Cut as CutWord, Case as CaseWord, Drop as DropWord, Eq as EqWord, Qe as QeWord, Law as LawWord, Wal as WalWord, TypeOf as TypeWord, Neg as NegWord, Mem as MemWord, Val as ValWord, Ext as ExtWord, Sub as SubWord, Ex as ExWord, Pair as PairWord, Elems as ElemsWord, Interval as IntervalWord, Induct as InductWord, Poly as PolyWord, Lin as LinWord}
use Rattle.bk_raw.specs.declared.script.RawTyped.{RawTyped}
use Rattle.bk_raw.specs.Trees.ScriptTree.{RawPlace, in_goal, in_hypothesis, RulePart, part_number, part_term, part_terms, part_place, part_no_place, part_typed, part_law, part_certificate}
use Rattle.bk_raw.specs.Meaning.Names.{seen}
use Rattle.bk_lin.specs.declared.fact.Line.{Line}
use Rattle.bk_arith.specs.Decision.{is_accepted}
use Rattle.bk_kernel.specs.declared.rule.Place.{Place}
use Rattle.bk_kernel.specs.declared.rule.Place.TheVariants.{Goal, Hyp as InHyp}
use Rattle.bk_kernel.specs.declared.rule.Rule.{Rule}
use Rattle.bk_kernel.specs.declared.rule.Rule.TheVariants.{Hyp, True, Same, Eval, False, Absurd, And, Iff, Imp, Not, Left, Right, Or, Contra, Fix, UseTerms, Split, Cases, Apply, Inst, OpenSome, Cut, Case, Drop, Eq, Qe, Law, Wal, TypeOf, Neg, Mem, Val, Ext, Sub, Ex, Pair, Elems, Interval, Induct, Poly, Lin}
use Rattle.bk_kernel.specs.Branches.{extended, closed_if}
use Rattle.bk_kernel.specs.Rewriting.{Rewriting, eq_to, eq_from, law_to, law_from, deciding, typing, negating, belonging, applying, extending, including, witnessing, part_rewritten, goal_changed, hypothesis_changed, rewritten}
use Rattle.bk_kernel.specs.Rules.{listed_facts, makes, fixed, used, instantiated, named_for}
use Rattle.bk_scripts.specs.Parts.{Around, NumberMeans, NumbersMean, TermMeans, TermsMean, NameMeans, NamesMean, PlaceMeans, NumberPart, TermPart, TermsPart, NamesPart, PlacePart, PerhapsPart, LawPart, CertificatePart, NoParts, One, Two}
use Rattle.bk_scripts.specs.LawNames.{law_number}
use Rattle.bk_scripts.specs.Grounding.{Made, RuleMeans}
use Rattle.bk_scripts.specs.Laws.{GroundedAreAlike, WidenedIsWider}
use Rattle.bk_scripts.proofs.Certificates.{same-acceptance}

-- the two make the same of each sequent
abbrev IsLike : Rule → Rule → Type 0
IsLike r q = (table : Table) (s : Sequent) → makes table s r ≡ makes table s q

-- ---- parts
-- lists of which each is meant by one thing are one
zip-one : {A B : Type 0} (R : A → B → Type 0) → ((x : A) (y z : B) → R x y → R x z → y ≡ z) → (xs : List A) (ys zs : List B) → AllZip R xs ys → AllZip R xs zs → ys ≡ zs
zip-one R f [] [] [] h k = refl
zip-one R f [] (y ∷ ys) zs h k = absurd h
zip-one R f [] [] (z ∷ zs) h k = absurd k
zip-one R f (x ∷ xs) [] zs h k = absurd h
zip-one R f (x ∷ xs) (y ∷ ys) [] h k = absurd k
zip-one R f (x ∷ xs) (y ∷ ys) (z ∷ zs) h k =
    let first = f x y z h.0 k.0 in
    let rest = zip-one R f xs ys zs h.1 k.1 in
    λ i. first i ∷ rest i

some-one : {A : Type 0} (o : Option A) (x y : A) → o ≡ Some x → o ≡ Some y → x ≡ y
some-one o x y h k = let e : Some x ≡ Some y = sym h ∙ k in cc

name-one : (a : Around) (x : RawTyped) (m n : ℕ) → NameMeans a x m → NameMeans a x n → m ≡ n
name-one a x m n h k = let e : seen (variable m) h.of_type ≡ seen (variable n) k.of_type = sym h.meant ∙ k.meant in cc

numbers-one : (ws : List ℕ) (xs ys : Vec ℕ) → NumbersMean ws xs → NumbersMean ws ys → xs.items ≡ ys.items
numbers-one ws xs ys h k = zip-one NumberMeans (λ w m n p q. p.0 ∙ sym q.0) ws xs.items ys.items h k

terms-one : (a : Around) (ts : List RawTree) (xs ys : Vec Formula) → TermsMean a ts xs → TermsMean a ts ys → xs.items ≡ ys.items
terms-one a ts xs ys h k = zip-one (TermMeans a) (λ t f g p q. some-one _ f g p q) ts xs.items ys.items h k

names-one : (a : Around) (ns : List RawTyped) (xs ys : Vec ℕ) → NamesMean a ns xs → NamesMean a ns ys → xs.items ≡ ys.items
names-one a ns xs ys h k = zip-one (NameMeans a) (name-one a) ns xs.items ys.items h k

-- what is rewritten at one place is rewritten at another that the same written place stands for
abbrev IsSamePlace : Place → Place → Type 0
IsSamePlace p q = (table : Table) (s : Sequent) (r : Rewriting) → rewritten table s r p ≡ rewritten table s r q

place-like : (w : RawPlace) (p q : Place) → PlaceMeans w p → PlaceMeans w q → IsSamePlace p q
place-like (in_goal path) (Goal a) (Goal b) h k table s r = ap (λ ns. goal_changed (part_rewritten table s.0 r s.1 ns)) (numbers-one path a b h k)
place-like (in_hypothesis i path) (InHyp m a) (InHyp n b) h k table s r =
    let e = numbers-one path a b h.1 k.1 in
    let f = h.0.0 ∙ sym k.0.0 in
    λ j. option_and_then (λ p. hypothesis_changed s.1 (part_rewritten table s.0 r p (e j))) (numbered_item s.0 (f j))
place-like (in_goal path) (Goal a) (InHyp n b) h k table s r = absurd k
place-like (in_goal path) (InHyp m a) q h k table s r = absurd h
place-like (in_hypothesis i path) (InHyp m a) (Goal b) h k table s r = absurd k
place-like (in_hypothesis i path) (Goal a) q h k table s r = absurd h

number-part : (p : RulePart) (x y : ℕ) → NumberPart p x → NumberPart p y → x ≡ y
number-part (part_number n) x y h k = h.0 ∙ sym k.0
number-part (part_term t) x y h k = absurd h
number-part (part_terms ts) x y h k = absurd h
number-part (part_place p) x y h k = absurd h
number-part part_no_place x y h k = absurd h
number-part (part_typed ns) x y h k = absurd h
number-part (part_law n ts) x y h k = absurd h
number-part (part_certificate ks ls) x y h k = absurd h

term-part : (a : Around) (p : RulePart) (x y : Formula) → TermPart a p x → TermPart a p y → x ≡ y
term-part a (part_number n) x y h k = absurd h
term-part a (part_term t) x y h k = some-one _ x y h k
term-part a (part_terms ts) x y h k = absurd h
term-part a (part_place p) x y h k = absurd h
term-part a part_no_place x y h k = absurd h
term-part a (part_typed ns) x y h k = absurd h
term-part a (part_law n ts) x y h k = absurd h
term-part a (part_certificate ks ls) x y h k = absurd h

terms-part : (a : Around) (p : RulePart) (x y : Vec Formula) → TermsPart a p x → TermsPart a p y → x.items ≡ y.items
terms-part a (part_number n) x y h k = absurd h
terms-part a (part_term t) x y h k = absurd h
terms-part a (part_terms ts) x y h k = terms-one a ts x y h k
terms-part a (part_place p) x y h k = absurd h
terms-part a part_no_place x y h k = absurd h
terms-part a (part_typed ns) x y h k = absurd h
terms-part a (part_law n ts) x y h k = absurd h
terms-part a (part_certificate ks ls) x y h k = absurd h

names-part : (a : Around) (p : RulePart) (x y : Vec ℕ) → NamesPart a p x → NamesPart a p y → x.items ≡ y.items
names-part a (part_number n) x y h k = absurd h
names-part a (part_term t) x y h k = absurd h
names-part a (part_terms ts) x y h k = absurd h
names-part a (part_place p) x y h k = absurd h
names-part a part_no_place x y h k = absurd h
names-part a (part_typed ns) x y h k = names-one a ns x y h k
names-part a (part_law n ts) x y h k = absurd h
names-part a (part_certificate ks ls) x y h k = absurd h

place-part : (p : RulePart) (x y : Place) → PlacePart p x → PlacePart p y → IsSamePlace x y
place-part (part_number n) x y h k = absurd h
place-part (part_term t) x y h k = absurd h
place-part (part_terms ts) x y h k = absurd h
place-part (part_place p) x y h k = place-like p x y h k
place-part part_no_place x y h k = absurd h
place-part (part_typed ns) x y h k = absurd h
place-part (part_law n ts) x y h k = absurd h
place-part (part_certificate ks ls) x y h k = absurd h

law-part : (a : Around) (p : RulePart) (x y : ℕ × Vec Formula) → LawPart a p x → LawPart a p y → (x.0 ≡ y.0) × (x.1.items ≡ y.1.items)
law-part a (part_number n) x y h k = absurd h
law-part a (part_term t) x y h k = absurd h
law-part a (part_terms ts) x y h k = absurd h
law-part a (part_place p) x y h k = absurd h
law-part a part_no_place x y h k = absurd h
law-part a (part_typed ns) x y h k = absurd h
law-part a (part_law n ts) x y h k = (some-one (law_number n) x.0 y.0 h.0 k.0, terms-one a ts x.1 y.1 h.1 k.1)
law-part a (part_certificate ks ls) x y h k = absurd h

certificate-part : (p : RulePart) (x y : Vec ℕ × Vec Line) → CertificatePart p x → CertificatePart p y → (x.0.items ≡ y.0.items) × ((ps : List Formula) (goal : Formula) → is_accepted ps goal x.1.items ≡ is_accepted ps goal y.1.items)
certificate-part (part_number n) x y h k = absurd h
certificate-part (part_term t) x y h k = absurd h
certificate-part (part_terms ts) x y h k = absurd h
certificate-part (part_place p) x y h k = absurd h
certificate-part part_no_place x y h k = absurd h
certificate-part (part_typed ns) x y h k = absurd h
certificate-part (part_law n ts) x y h k = absurd h
certificate-part (part_certificate ks ls) x y h k = (numbers-one ks x.0 y.0 h.0 k.0, same-acceptance ls x.1.items y.1.items h.1 k.1)

abbrev IsSamePerhaps : Option Place → Option Place → Type 0
IsSamePerhaps None None = Unit {0}
IsSamePerhaps (Some p) (Some q) = IsSamePlace p q
IsSamePerhaps _ _ = ⊥

perhaps-part : (p : RulePart) (x y : Option Place) → PerhapsPart p x → PerhapsPart p y → IsSamePerhaps x y
perhaps-part part_no_place None None h k = tt
perhaps-part part_no_place None (Some q) h k = absurd k
perhaps-part part_no_place (Some p) y h k = absurd h
perhaps-part (part_place w) (Some p) (Some q) h k = place-like w p q h k
perhaps-part (part_place w) (Some p) None h k = absurd k
perhaps-part (part_place w) None y h k = absurd h
perhaps-part (part_number n) x y h k = absurd h
perhaps-part (part_term t) x y h k = absurd h
perhaps-part (part_terms ts) x y h k = absurd h
perhaps-part (part_typed ns) x y h k = absurd h
perhaps-part (part_law n ts) x y h k = absurd h
perhaps-part (part_certificate ks ls) x y h k = absurd h

-- ---- one part, or two
module _ {A : Type 0} (P : RulePart → A → Type 0) (S : A → A → Type 0) (f : (p : RulePart) (x y : A) → P p x → P p y → S x y) where
  one-part : (ps : List RulePart) (x y : A) → One P ps x → One P ps y → S x y
  one-part [] x y h k = absurd h
  one-part (p ∷ []) x y h k = f p x y h k
  one-part (p ∷ q ∷ ps) x y h k = absurd h

  one-like : (make : A → Rule) → ((x y : A) → S x y → IsLike (make x) (make y)) → (ps : List RulePart) (r q : Rule) → Made (One P ps) make r → Made (One P ps) make q → IsLike r q
  one-like make g ps r q h k table s = ap (makes table s) h.2 ∙ (g h.0 k.0 (one-part ps h.0 k.0 h.1 k.1) table s ∙ sym (ap (makes table s) k.2))

  module _ {B : Type 0} (Q : RulePart → B → Type 0) (T : B → B → Type 0) (e : (p : RulePart) (x y : B) → Q p x → Q p y → T x y) where
    two-parts : (ps : List RulePart) (x y : A × B) → Two P Q ps x → Two P Q ps y → S x.0 y.0 × T x.1 y.1
    two-parts [] x y h k = absurd h
    two-parts (p ∷ []) x y h k = absurd h
    two-parts (p ∷ q ∷ []) x y h k = (f p x.0 y.0 h.0 k.0, e q x.1 y.1 h.1 k.1)
    two-parts (p ∷ q ∷ r ∷ ps) x y h k = absurd h

    two-like : (make : A × B → Rule) → ((x y : A × B) → S x.0 y.0 → T x.1 y.1 → IsLike (make x) (make y)) → (ps : List RulePart) (r q : Rule) → Made (Two P Q ps) make r → Made (Two P Q ps) make q → IsLike r q
    two-like make g ps r q h k table s =
        let t = two-parts ps h.0 k.0 h.1 k.1 in
        ap (makes table s) h.2 ∙ (g h.0 k.0 t.0 t.1 table s ∙ sym (ap (makes table s) k.2))

-- ---- rules
bare-like : (make : Rule) (ps : List RulePart) (r q : Rule) → NoParts ps × (r ≡ make) → NoParts ps × (q ≡ make) → IsLike r q
bare-like make ps r q h k table s = ap (makes table s) (h.1 ∙ sym k.1)

by-number : (make : ℕ → Rule) (ps : List RulePart) (r q : Rule) → Made (One NumberPart ps) make r → Made (One NumberPart ps) make q → IsLike r q
by-number make = one-like NumberPart (λ x y. x ≡ y) number-part make (λ x y e table s. ap (λ n. makes table s (make n)) e)

by-term : (a : Around) (make : Formula → Rule) (ps : List RulePart) (r q : Rule) → Made (One (TermPart a) ps) make r → Made (One (TermPart a) ps) make q → IsLike r q
by-term a make = one-like (TermPart a) (λ x y. x ≡ y) (term-part a) make (λ x y e table s. ap (λ n. makes table s (make n)) e)

-- a rule that rewrites at a place
by-place : (make : Place → Rule) (r : Rewriting) → ((table : Table) (s : Sequent) (p : Place) → makes table s (make p) ≡ option_map (map (extended s)) (rewritten table s r p)) → (ps : List RulePart) (one other : Rule) → Made (One PlacePart ps) make one → Made (One PlacePart ps) make other → IsLike one other
by-place make r g = one-like PlacePart IsSamePlace place-part make (λ x y e table s. g table s x ∙ (ap (option_map (map (extended s))) (e table s r) ∙ sym (g table s y)))

-- the same with the number of a hypothesis
by-number-and-place : (make : ℕ × Place → Rule) (r : ℕ → Rewriting) → ((table : Table) (s : Sequent) (x : ℕ × Place) → makes table s (make x) ≡ option_map (map (extended s)) (rewritten table s (r x.0) x.1)) → (ps : List RulePart) (one other : Rule) → Made (Two NumberPart PlacePart ps) make one → Made (Two NumberPart PlacePart ps) make other → IsLike one other
by-number-and-place make r g = two-like NumberPart (λ x y. x ≡ y) number-part PlacePart IsSamePlace place-part make
    (λ x y e f table s. g table s x ∙ (ap (option_map (map (extended s))) (f table s (r x.0) ∙ ap (λ n. rewritten table s (r n) y.1) e) ∙ sym (g table s y)))

by-law : (a : Around) (make : (ℕ × Vec Formula) × Place → Rule) (r : ℕ → List Formula → Rewriting) → ((table : Table) (s : Sequent) (x : (ℕ × Vec Formula) × Place) → makes table s (make x) ≡ option_map (map (extended s)) (rewritten table s (r x.0.0 x.0.1.items) x.1)) → (ps : List RulePart) (one other : Rule) → Made (Two (LawPart a) PlacePart ps) make one → Made (Two (LawPart a) PlacePart ps) make other → IsLike one other
by-law a make r g = two-like (LawPart a) (λ x y. (x.0 ≡ y.0) × (x.1.items ≡ y.1.items)) (law-part a) PlacePart IsSamePlace place-part make
    (λ x y e f table s. g table s x ∙ (ap (option_map (map (extended s))) (f table s (r x.0.0 x.0.1.items) ∙ (λ i. rewritten table s (r (e.0 i) (e.1 i)) y.1)) ∙ sym (g table s y)))

perhaps-like : (x y : Option Place) → IsSamePerhaps x y → IsLike (Eval x) (Eval y)
perhaps-like None None e table s = refl
perhaps-like (Some p) (Some q) e table s = ap (option_map (map (extended s))) (e table s deciding)
perhaps-like None (Some q) e table s = absurd e
perhaps-like (Some p) None e table s = absurd e

certificate-like : (x y : Vec ℕ × Vec Line) → (x.0.items ≡ y.0.items) × ((ps : List Formula) (goal : Formula) → is_accepted ps goal x.1.items ≡ is_accepted ps goal y.1.items) → IsLike (Lin x.0 x.1) (Lin y.0 y.1)
certificate-like x y e table s = λ i. option_map (map (extended s)) (option_and_then (λ ps. closed_if (e.1 ps s.1 i)) (listed_facts s.0 (e.0 i)))

means-alike : (a : Around) (w : RuleWord) (ps : List RulePart) (r q : Rule) → RuleMeans a w ps r → RuleMeans a w ps q → IsLike r q
means-alike a HypWord ps r q = by-number Hyp ps r q
means-alike a TrueWord ps r q = bare-like True ps r q
means-alike a SameWord ps r q = bare-like Same ps r q
means-alike a EvalWord ps r q = one-like PerhapsPart IsSamePerhaps perhaps-part Eval perhaps-like ps r q
means-alike a FalseWord ps r q = by-number False ps r q
means-alike a AbsurdWord ps r q = two-like NumberPart (λ x y. x ≡ y) number-part NumberPart (λ x y. x ≡ y) number-part (λ p. Absurd p.0 p.1) (λ x y e f table s. λ i. makes table s (Absurd (e i) (f i))) ps r q
means-alike a AndWord ps r q = bare-like And ps r q
means-alike a IffWord ps r q = bare-like Iff ps r q
means-alike a ImpWord ps r q = bare-like Imp ps r q
means-alike a NotWord ps r q = bare-like Not ps r q
means-alike a LeftWord ps r q = bare-like Left ps r q
means-alike a RightWord ps r q = bare-like Right ps r q
means-alike a OrWord ps r q = bare-like Or ps r q
means-alike a ContraWord ps r q = bare-like Contra ps r q
means-alike a FixWord ps r q = one-like (NamesPart a) (λ x y. x.items ≡ y.items) (names-part a) Fix (λ x y e table s. ap (λ ns. option_map (map (extended s)) (fixed table s ns)) e) ps r q
means-alike a UseWord ps r q = one-like (TermsPart a) (λ x y. x.items ≡ y.items) (terms-part a) UseTerms (λ x y e table s. ap (λ fs. option_map (map (extended s)) (used table s fs)) e) ps r q
means-alike a SplitWord ps r q = by-number Split ps r q
means-alike a CasesWord ps r q = by-number Cases ps r q
means-alike a ApplyWord ps r q = by-number Apply ps r q
means-alike a InstWord ps r q = two-like NumberPart (λ x y. x ≡ y) number-part (TermsPart a) (λ x y. x.items ≡ y.items) (terms-part a) (λ p. Inst p.0 p.1) (λ x y e f table s. λ i. option_map (map (extended s)) (instantiated table s (e i) (f i))) ps r q
means-alike a OpenWord ps r q = two-like NumberPart (λ x y. x ≡ y) number-part (NamesPart a) (λ x y. x.items ≡ y.items) (names-part a) (λ p. OpenSome p.0 p.1) (λ x y e f table s. λ i. option_map (map (extended s)) (named_for table s (e i) (f i))) ps r q
means-alike a CutWord ps r q = by-term a Cut ps r q
means-alike a CaseWord ps r q = by-term a Case ps r q
means-alike a DropWord ps r q = by-number Drop ps r q
means-alike a EqWord ps r q = by-number-and-place (λ p. Eq p.0 p.1) eq_to (λ table s x. refl) ps r q
means-alike a QeWord ps r q = by-number-and-place (λ p. Qe p.0 p.1) eq_from (λ table s x. refl) ps r q
means-alike a LawWord ps r q = by-law a (λ p. Law p.0.0 p.0.1 p.1) law_to (λ table s x. refl) ps r q
means-alike a WalWord ps r q = by-law a (λ p. Wal p.0.0 p.0.1 p.1) law_from (λ table s x. refl) ps r q
means-alike a TypeWord ps r q = by-place TypeOf typing (λ table s p. refl) ps r q
means-alike a NegWord ps r q = by-place Neg negating (λ table s p. refl) ps r q
means-alike a MemWord ps r q = by-place Mem belonging (λ table s p. refl) ps r q
means-alike a ValWord ps r q = by-place Val applying (λ table s p. refl) ps r q
means-alike a ExtWord ps r q = by-place Ext extending (λ table s p. refl) ps r q
means-alike a SubWord ps r q = by-place Sub including (λ table s p. refl) ps r q
means-alike a ExWord ps r q = by-place Ex witnessing (λ table s p. refl) ps r q
means-alike a PairWord ps r q = by-term a Pair ps r q
means-alike a ElemsWord ps r q = by-term a Elems ps r q
means-alike a IntervalWord ps r q = by-number Interval ps r q
means-alike a InductWord ps r q = bare-like Induct ps r q
means-alike a PolyWord ps r q = bare-like Poly ps r q
means-alike a LinWord ps r q = one-like CertificatePart (λ x y. (x.0.items ≡ y.0.items) × ((ps : List Formula) (goal : Formula) → is_accepted ps goal x.1.items ≡ is_accepted ps goal y.1.items)) certificate-part (λ p. Lin p.0 p.1) certificate-like ps r q

pub grounded_are_alike : GroundedAreAlike
grounded_are_alike a written r q (inl h) (inl k) = means-alike a written.word written.parts r q h k
grounded_are_alike a written r q (inl h) (inr k) = absurd (k.0 r h)
grounded_are_alike a written r q (inr h) (inl k) = absurd (h.0 q k)
grounded_are_alike a written r q (inr h) (inr k) = λ table s. ap (makes table s) (h.1 ∙ sym k.1)

pub widened_is_wider : WidenedIsWider
widened_is_wider table dev s = record { sets = ([], sym (append-nil table.sets)); variables = (_, refl) }
