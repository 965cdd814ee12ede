-- In a lawful development no two sides of a || write one variable.
use Rattle.std.proofs.Common.{◌≡◌, ℕ, suc, List, [], ◌∷◌, ◌++◌, refl, sym, ◌∙◌, ap, Bool, true, false, not, cond, ◌||◌, nat_eq}
use Rattle.std.specs.List.{filter}
use Rattle.bk_form.specs.Each.{Each}
use Rattle.bk_form.proofs.Members.{or-left, or-right}
use Rattle.bk_gsl.specs.Substitution.{Substitution, skip, assign, pre, guard, choice, if_else, any, seq, par, assert, becomes_such, loop}
use Rattle.bk_gsl.specs.State.{among}
use Rattle.bk_gsl.specs.Writes.{written, writes}
use Rattle.bk_gsl.proofs.States.{nat_eq-self, among-in_order}
use Rattle.bk_dev.specs.Development.{Head, Body, Level, Development, level_at}
use Rattle.bk_dev.specs.Facts.{AllAre, StaysIn, EachBody, EachLevel, IsLawful}
use Rattle.bk_dev.proofs.Staying.{all-at}
use Rattle.bk_par.specs.Overlaps.{shared, overlaps, IsLeast}
use Rattle.bk_po.specs.FlatFacts.{IsApart}

none : {A : Type 0} (xs ys : List A) → xs ≡ [] → ys ≡ [] → xs ++ ys ≡ []
none {A} xs ys h k = λ i. h i ++ k i

-- nothing passes a test that none of the list passes
none-pass : (test : ℕ → Bool) (xs : List ℕ) → ((n : ℕ) → among xs n ≡ true → test n ≡ false) → filter test xs ≡ []
none-pass test [] h = refl
none-pass test (x ∷ xs) h =
    let first : test x ≡ false = h x (or-left (nat_eq x x) (among xs x) (nat_eq-self x)) in
    let rest : filter test xs ≡ [] = none-pass test xs (λ n q. h n (or-right (nat_eq n x) (among xs n) q)) in
    ap (λ b. cond b (x ∷ filter test xs) (filter test xs)) first ∙ rest

not-then : (b : Bool) → not b ≡ true → b ≡ false
not-then true h = absurd (cc)
not-then false h = refl

-- what the one side writes the other does not
apart-sides : (s t : Substitution) → AllAre (λ n. not (among (written t) n)) (written s) → shared (writes s) (writes t) ≡ []
apart-sides s t h = none-pass (λ n. among (writes t) n) (writes s) other
  where
    other : (n : ℕ) → among (writes s) n ≡ true → among (writes t) n ≡ false
    other n q =
        let there : among (written s) n ≡ true = sym (among-in_order (written s) n) ∙ q in
        among-in_order (written t) n ∙ not-then (among (written t) n) (all-at (λ n. not (among (written t) n)) (written s) h n there)

no-overlap : (visible above writable : ℕ → Bool) (s : Substitution) → StaysIn visible above writable s → overlaps s ≡ []
no-overlap visible above writable skip a = refl
no-overlap visible above writable (assign ps) a = refl
no-overlap visible above writable (pre p s) a = no-overlap visible above writable s a.1
no-overlap visible above writable (guard p s) a = no-overlap visible above writable s a.1
no-overlap visible above writable (choice s t) a = none (overlaps s) (overlaps t) (no-overlap visible above writable s a.0) (no-overlap visible above writable t a.1)
no-overlap visible above writable (if_else p s t) a = none (overlaps s) (overlaps t) (no-overlap visible above writable s a.1) (no-overlap visible above writable t a.2)
no-overlap visible above writable (any zs s) a = no-overlap (λ n. among zs n || visible n) above (λ n. among zs n || writable n) s a.2
no-overlap visible above writable (seq s t) a = none (overlaps s) (overlaps t) (no-overlap visible above writable s a.0) (no-overlap visible above writable t a.1)
no-overlap visible above writable (par s t) a =
    none (overlaps s ++ overlaps t) (shared (writes s) (writes t)) (none (overlaps s) (overlaps t) (no-overlap visible above writable s a.0) (no-overlap visible above writable t a.1)) (apart-sides s t a.2)
no-overlap visible above writable (assert p s) a = no-overlap visible above writable s a.1
no-overlap visible above writable (becomes_such xs p) a = refl
no-overlap visible above writable (loop p s i v) a = no-overlap visible above writable s a.1

-- ---- bodies and levels
bodies-apart : (dev : Development) (k : ℕ) (hs : List Head) (ms bs : List Body) → EachBody dev k hs ms bs → Each (λ b. overlaps b.sub ≡ []) bs
bodies-apart dev k [] [] [] e = tt
bodies-apart dev k [] [] (b ∷ bs) e = absurd e
bodies-apart dev k [] (m ∷ ms) bs e = absurd e
bodies-apart dev k (x ∷ hs) [] bs e = absurd e
bodies-apart dev k (x ∷ hs) (m ∷ ms) [] e = absurd e
bodies-apart dev k (x ∷ hs) (m ∷ ms) (b ∷ bs) e = (no-overlap _ _ _ b.sub e.0.sub.stays, bodies-apart dev k hs ms bs e.1)

levels-apart : (dev : Development) (k : ℕ) (ls : List Level) → EachLevel dev k ls → Each IsApart ls
levels-apart dev k [] e = tt
levels-apart dev k (l ∷ ls) e = (record { init = no-overlap _ _ _ l.init e.0.init.stays; bodies = bodies-apart dev k dev.heads (level_at dev 0).bodies l.bodies e.0.bodies }, levels-apart dev (suc k) ls e.1)

pub lawful_apart : (dev : Development) → IsLawful dev → Each IsApart dev.levels
lawful_apart dev f = levels-apart dev 0 dev.levels f.levels

-- of nothing no number is the least
pub no_least : (ns : List ℕ) (v : ℕ) → ns ≡ [] → IsLeast ns v → ⊥
no_least [] v same h = let none : false ≡ true = h.listed in absurd (cc)
no_least (n ∷ ns) v same h = absurd (cc)
