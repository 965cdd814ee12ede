-- The rewriting of || by copies keeps what a lawful substitution is asked: it types, names and writes what it may, and what it binds is new.
use Rattle.std.proofs.Common.{◌≡◌, ◌⊎◌, inl, inr, ◌<◌, ◌≤◌, ℕ, zero, suc, ◌+◌, List, [], ◌∷◌, ◌++◌, length, length-append, refl, sym, ◌∙◌, ap, subst, Bool, true, false, cond, ◌||◌, nat_eq, nat_lt, arith}
use Rattle.std.specs.Prelude.{Some}
use Rattle.std.proofs.lemmas.Bool.Decides.{nat_tests}
use Rattle.bk_val.specs.ValueType.{ValueType}
use Rattle.bk_form.specs.Table.{Table, variable_type, IsWellFormed}
use Rattle.bk_form.specs.Formula.{Formula, variable, unary, binary, for_all, for_some, comprehension, lambda, Formulas, no_formulas, formula_and}
use Rattle.bk_form.specs.Role.{role, connective_role}
use Rattle.bk_form.specs.Replacement.{occurs, any_occurs, IsReplacement, renamed}
use Rattle.bk_form.specs.declared.operator.BinOp.TheVariants.{And}
use Rattle.bk_form.proofs.Members.{or-cases, or-left, or-right}
use Rattle.bk_gsl.specs.Substitution.{Substitution, skip, assign, pre, guard, choice, if_else, any, seq, par, assert, becomes_such, loop}
use Rattle.bk_gsl.specs.State.{among, firsts}
use Rattle.bk_gsl.specs.Writes.{written, writes}
use Rattle.bk_form.specs.Predicates.{IsPredicate, equation}
use Rattle.bk_gsl.specs.Typed.{AreTypedTerms, AreTypedPairs, Types}
use Rattle.bk_gsl.specs.Flat.{renamed_terms, reading, copies_from, copy_of, equations_onto, by_copies, copied, flat_from, IsFlat}
use Rattle.bk_gsl.proofs.States.{cases, clash, or-false, nat_eq-same, nat_eq-self, among-in_order}
use Rattle.bk_dev.specs.declared.kind.Kind.{Kind}
use Rattle.bk_dev.specs.Facts.{AllAre, AreDistinct, AreNew, AssignsIn, StaysIn, Names, seconds, binders, LoopsStandIn}
use Rattle.bk_form.proofs.Closed.{closed-replaced}
use Rattle.bk_gsl.proofs.Listed.{firsts-listed}
use Rattle.bk_dev.proofs.Agree.{both-false, not-written}
use Rattle.bk_dev.proofs.Staying.{false-of, not-both, binders-new, all-at, Within, within-more}
use Rattle.bk_gsl.proofs.Reading.{among-left, among-right}
use Rattle.bk_form.proofs.Replaced.{role-under}
use Rattle.bk_form.proofs.Equations.{equation-predicate}

-- ---- no || is left, and loops stay where they stand
reading-flat : (by : ℕ → ℕ) (s : Substitution) → IsFlat s → IsFlat (reading by s)
reading-flat by skip f = tt
reading-flat by (assign ps) f = tt
reading-flat by (pre p s) f = reading-flat by s f
reading-flat by (guard p s) f = reading-flat by s f
reading-flat by (choice s t) f = (reading-flat by s f.0, reading-flat by t f.1)
reading-flat by (if_else p s t) f = (reading-flat by s f.0, reading-flat by t f.1)
reading-flat by (any zs s) f = reading-flat by s f
reading-flat by (seq s t) f = (reading-flat by s f.0, reading-flat by t f.1)
reading-flat by (par s t) f = absurd f
reading-flat by (assert p s) f = reading-flat by s f
reading-flat by (becomes_such xs p) f = tt
reading-flat by (loop p s i v) f = reading-flat by s f

copies-flat : (ps : List (ℕ × ℕ)) (s t : Substitution) → IsFlat s → IsFlat t → IsFlat (by_copies ps s t)
copies-flat [] s t f g = (f, g)
copies-flat (p ∷ ps) s t f g = (f, reading-flat (copy_of (p ∷ ps)) t g)

pub flat-flat : (k : ℕ) (s : Substitution) → IsFlat (flat_from k s)
flat-flat k skip = tt
flat-flat k (assign ps) = tt
flat-flat k (pre p s) = flat-flat k s
flat-flat k (guard p s) = flat-flat k s
flat-flat k (choice s t) = (flat-flat k s, flat-flat (k + length (copied s)) t)
flat-flat k (if_else p s t) = (flat-flat k s, flat-flat (k + length (copied s)) t)
flat-flat k (any zs s) = flat-flat k s
flat-flat k (seq s t) = (flat-flat k s, flat-flat (k + length (copied s)) t)
flat-flat k (par s t) = copies-flat (copies_from (k + length (copied s) + length (copied t)) (writes s)) (flat_from k s) (flat_from (k + length (copied s)) t) (flat-flat k s) (flat-flat (k + length (copied s)) t)
flat-flat k (assert p s) = flat-flat k s
flat-flat k (becomes_such xs p) = tt
flat-flat k (loop p s i v) = flat-flat k s

reading-loops : (kind : Kind) (by : ℕ → ℕ) (s : Substitution) → LoopsStandIn kind s → LoopsStandIn kind (reading by s)
reading-loops kind by skip l = tt
reading-loops kind by (assign ps) l = tt
reading-loops kind by (pre p s) l = reading-loops kind by s l
reading-loops kind by (guard p s) l = reading-loops kind by s l
reading-loops kind by (choice s t) l = (reading-loops kind by s l.0, reading-loops kind by t l.1)
reading-loops kind by (if_else p s t) l = (reading-loops kind by s l.0, reading-loops kind by t l.1)
reading-loops kind by (any zs s) l = reading-loops kind by s l
reading-loops kind by (seq s t) l = (reading-loops kind by s l.0, reading-loops kind by t l.1)
reading-loops kind by (par s t) l = (reading-loops kind by s l.0, reading-loops kind by t l.1)
reading-loops kind by (assert p s) l = reading-loops kind by s l
reading-loops kind by (becomes_such xs p) l = tt
reading-loops kind by (loop p s i v) l = (l.0, reading-loops kind by s l.1)

copies-loops : (kind : Kind) (ps : List (ℕ × ℕ)) (s t : Substitution) → LoopsStandIn kind s → LoopsStandIn kind t → LoopsStandIn kind (by_copies ps s t)
copies-loops kind [] s t l m = (l, m)
copies-loops kind (p ∷ ps) s t l m = (l, reading-loops kind (copy_of (p ∷ ps)) t m)

pub flat-loops : (kind : Kind) (k : ℕ) (s : Substitution) → LoopsStandIn kind s → LoopsStandIn kind (flat_from k s)
flat-loops kind k skip l = tt
flat-loops kind k (assign ps) l = tt
flat-loops kind k (pre p s) l = flat-loops kind k s l
flat-loops kind k (guard p s) l = flat-loops kind k s l
flat-loops kind k (choice s t) l = (flat-loops kind k s l.0, flat-loops kind (k + length (copied s)) t l.1)
flat-loops kind k (if_else p s t) l = (flat-loops kind k s l.0, flat-loops kind (k + length (copied s)) t l.1)
flat-loops kind k (any zs s) l = flat-loops kind k s l
flat-loops kind k (seq s t) l = (flat-loops kind k s l.0, flat-loops kind (k + length (copied s)) t l.1)
flat-loops kind k (par s t) l = copies-loops kind (copies_from (k + length (copied s) + length (copied t)) (writes s)) (flat_from k s) (flat_from (k + length (copied s)) t) (flat-loops kind k s l.0) (flat-loops kind (k + length (copied s)) t l.1)
flat-loops kind k (assert p s) l = flat-loops kind k s l
flat-loops kind k (becomes_such xs p) l = tt
flat-loops kind k (loop p s i v) l = (l.0, flat-loops kind k s l.1)

-- ---- what it binds
pub all-append : (P : ℕ → Bool) (xs ys : List ℕ) → AllAre P xs → AllAre P ys → AllAre P (xs ++ ys)
all-append P [] ys h k = k
all-append P (x ∷ xs) ys h k = (h.0, all-append P xs ys h.1 k)

pub all-left : (P : ℕ → Bool) (xs ys : List ℕ) → AllAre P (xs ++ ys) → AllAre P xs
all-left P [] ys h = tt
all-left P (x ∷ xs) ys h = (h.0, all-left P xs ys h.1)

pub all-right : (P : ℕ → Bool) (xs ys : List ℕ) → AllAre P (xs ++ ys) → AllAre P ys
all-right P [] ys h = h
all-right P (x ∷ xs) ys h = all-right P xs ys h.1

-- of all numbers from k on, as many as m
abbrev pub RangeIs : (ℕ → Bool) → ℕ → ℕ → Type 0
RangeIs P k m = (n : ℕ) → k ≤ n → n < k + m → P n ≡ true

range-left : (P : ℕ → Bool) (k : ℕ) (xs ys : List ℕ) → RangeIs P k (length (xs ++ ys)) → RangeIs P k (length xs)
range-left P k xs ys r n a b = r n a (omega (arith, b, length-append xs ys))

range-right : (P : ℕ → Bool) (k : ℕ) (xs ys : List ℕ) → RangeIs P k (length (xs ++ ys)) → RangeIs P (k + length xs) (length ys)
range-right P k xs ys r n a b = r n (omega (arith, a)) (omega (arith, b, length-append xs ys))

range-copies : (P : ℕ → Bool) (k : ℕ) (xs : List ℕ) → RangeIs P k (length xs) → AllAre P (firsts (copies_from k xs))
range-copies P k [] r = tt
range-copies P k (x ∷ xs) r = (r k (omega arith) (omega arith), range-copies P (suc k) xs (λ n a b. r n (omega (arith, a)) (omega (arith, b))))

binders-reading : (by : ℕ → ℕ) (s : Substitution) → binders (reading by s) ≡ binders s
binders-reading by skip = refl
binders-reading by (assign ps) = refl
binders-reading by (pre p s) = binders-reading by s
binders-reading by (guard p s) = binders-reading by s
binders-reading by (choice s t) = λ i. binders-reading by s i ++ binders-reading by t i
binders-reading by (if_else p s t) = λ i. binders-reading by s i ++ binders-reading by t i
binders-reading by (any zs s) = ap (λ x. zs ++ x) (binders-reading by s)
binders-reading by (seq s t) = λ i. binders-reading by s i ++ binders-reading by t i
binders-reading by (par s t) = λ i. binders-reading by s i ++ binders-reading by t i
binders-reading by (assert p s) = binders-reading by s
binders-reading by (becomes_such xs p) = refl
binders-reading by (loop p s i v) = binders-reading by s

copies-binders : (P : ℕ → Bool) (ps : List (ℕ × ℕ)) (s t : Substitution) → AllAre P (firsts ps) → AllAre P (binders s) → AllAre P (binders t) → AllAre P (binders (by_copies ps s t))
copies-binders P [] s t c h k = all-append P (binders s) (binders t) h k
copies-binders P (p ∷ ps) s t c h k =
    all-append P (firsts (p ∷ ps)) (binders s ++ binders (reading (copy_of (p ∷ ps)) t)) c
    (all-append P (binders s) (binders (reading (copy_of (p ∷ ps)) t)) h (subst (AllAre P) (sym (binders-reading (copy_of (p ∷ ps)) t)) k))

pub flat-binders : (P : ℕ → Bool) (k : ℕ) (s : Substitution) → AllAre P (binders s) → RangeIs P k (length (copied s)) → AllAre P (binders (flat_from k s))
flat-binders P k skip h r = tt
flat-binders P k (assign ps) h r = tt
flat-binders P k (pre p s) h r = flat-binders P k s h r
flat-binders P k (guard p s) h r = flat-binders P k s h r
flat-binders P k (choice s t) h r = all-append P (binders (flat_from k s)) (binders (flat_from (k + length (copied s)) t)) (flat-binders P k s (all-left P (binders s) (binders t) h) (range-left P k (copied s) (copied t) r)) (flat-binders P (k + length (copied s)) t (all-right P (binders s) (binders t) h) (range-right P k (copied s) (copied t) r))
flat-binders P k (if_else p s t) h r = all-append P (binders (flat_from k s)) (binders (flat_from (k + length (copied s)) t)) (flat-binders P k s (all-left P (binders s) (binders t) h) (range-left P k (copied s) (copied t) r)) (flat-binders P (k + length (copied s)) t (all-right P (binders s) (binders t) h) (range-right P k (copied s) (copied t) r))
flat-binders P k (any zs s) h r = all-append P zs (binders (flat_from k s)) (all-left P zs (binders s) h) (flat-binders P k s (all-right P zs (binders s) h) r)
flat-binders P k (seq s t) h r = all-append P (binders (flat_from k s)) (binders (flat_from (k + length (copied s)) t)) (flat-binders P k s (all-left P (binders s) (binders t) h) (range-left P k (copied s) (copied t) r)) (flat-binders P (k + length (copied s)) t (all-right P (binders s) (binders t) h) (range-right P k (copied s) (copied t) r))
flat-binders P k (par s t) h r =
    let two = range-left P k (copied s ++ copied t) (writes s) r in
    let last = range-right P k (copied s ++ copied t) (writes s) r in
    let e : k + length (copied s ++ copied t) ≡ k + length (copied s) + length (copied t) = omega (arith, length-append (copied s) (copied t)) in
    copies-binders P (copies_from (k + length (copied s) + length (copied t)) (writes s)) (flat_from k s) (flat_from (k + length (copied s)) t)
    (range-copies P (k + length (copied s) + length (copied t)) (writes s) (subst (λ x. RangeIs P x (length (writes s))) e last))
    (flat-binders P k s (all-left P (binders s) (binders t) h) (range-left P k (copied s) (copied t) two))
    (flat-binders P (k + length (copied s)) t (all-right P (binders s) (binders t) h) (range-right P k (copied s) (copied t) two))
flat-binders P k (assert p s) h r = flat-binders P k s h r
flat-binders P k (becomes_such xs p) h r = h
flat-binders P k (loop p s i v) h r = flat-binders P k s h r

-- ---- it types, where each copy has its variable's type
abbrev pub CopiesAt : Table → ℕ → List ℕ → Type 0
CopiesAt table k xs = AreTypedPairs table (copies_from k xs)

pub copies-left : (table : Table) (k : ℕ) (xs ys : List ℕ) → CopiesAt table k (xs ++ ys) → CopiesAt table k xs
copies-left table k [] ys h = tt
copies-left table k (x ∷ xs) ys h = (h.0, copies-left table (suc k) xs ys h.1)

pub copies-right : (table : Table) (k : ℕ) (xs ys : List ℕ) → CopiesAt table k (xs ++ ys) → CopiesAt table (k + length xs) ys
copies-right table k [] ys h = let e : k ≡ k + zero = omega arith in subst (λ n. CopiesAt table n ys) e h
copies-right table k (x ∷ xs) ys h = let e : suc k + length xs ≡ k + suc (length xs) = omega arith in subst (λ n. CopiesAt table n ys) e (copies-right table (suc k) xs ys h.1)

pub copies-replace : (table : Table) (ps : List (ℕ × ℕ)) → AreTypedPairs table ps → IsReplacement table (λ n. variable (copy_of ps n))
copies-replace table [] h n = inl refl
copies-replace table (p ∷ ps) h n = by_test (copies-replace table ps h.1 n) (nat_eq n p.1) refl
  where
    by_test : (variable (copy_of ps n) ≡ variable n) ⊎ ((t : ValueType) × (variable_type table n ≡ Some t) × Rattle.bk_form.specs.Replacement.GivesType table t (variable (copy_of ps n))) → (b : Bool) → nat_eq n p.1 ≡ b → (variable (cond b p.0 (copy_of ps n)) ≡ variable n) ⊎ ((t : ValueType) × (variable_type table n ≡ Some t) × Rattle.bk_form.specs.Replacement.GivesType table t (variable (cond b p.0 (copy_of ps n))))
    by_test on true q = inr (h.0.0, ap (variable_type table) (nat_eq-same n p.1 q) ∙ h.0.2, record { closed = tt; of_type = ap Rattle.bk_form.specs.Role.given_by h.0.1 })
    by_test on false q = on

module _ (table : Table) (facts : IsWellFormed table) where
  equations-predicate : (f : Formula) (ps : List (ℕ × ℕ)) → IsPredicate table f → AreTypedPairs table ps → IsPredicate table (equations_onto f ps)
  equations-predicate f [] h w = h
  equations-predicate f (p ∷ ps) h w = let q = equation-predicate table p w.0 in equations-predicate (binary And f (equation p)) ps (λ i. connective_role (h i) (q i)) w.1

  module _ (by : ℕ → ℕ) (kept : IsReplacement table (λ n. variable (by n))) where
    same-role : (p : Formula) → role table [] (renamed by p) ≡ role table [] p
    same-role p = role-under table [] (λ n. variable (by n)) kept p

    terms-reading : (ps : List (ℕ × Formula)) → AreTypedTerms table ps → AreTypedTerms table (renamed_terms by ps)
    terms-reading [] w = tt
    terms-reading (p ∷ ps) w = ((w.0.0, w.0.1, same-role p.1 ∙ w.0.2), terms-reading ps w.1)

    reading-types : (s : Substitution) → Types table s → Types table (reading by s)
    reading-types skip w = tt
    reading-types (assign ps) w = terms-reading ps w
    reading-types (pre p s) w = (same-role p ∙ w.0, reading-types s w.1)
    reading-types (guard p s) w = (same-role p ∙ w.0, reading-types s w.1)
    reading-types (choice s t) w = (reading-types s w.0, reading-types t w.1)
    reading-types (if_else p s t) w = (same-role p ∙ w.0, reading-types s w.1, reading-types t w.2)
    reading-types (any zs s) w = (w.0, reading-types s w.1)
    reading-types (seq s t) w = (reading-types s w.0, reading-types t w.1)
    reading-types (par s t) w = (reading-types s w.0, reading-types t w.1)
    reading-types (assert p s) w = (same-role p ∙ w.0, reading-types s w.1)
    reading-types (becomes_such xs p) w = (w.0, same-role p ∙ w.1)
    reading-types (loop p s i v) w = (same-role p ∙ w.0, reading-types s w.1, same-role i ∙ w.2, same-role v ∙ w.3)

  copies-types : (ps : List (ℕ × ℕ)) (s t : Substitution) → AreTypedPairs table ps → Types table s → Types table t → Types table (by_copies ps s t)
  copies-types [] s t c w v = (w, v)
  copies-types (p ∷ ps) s t c w v = (firsts-listed table (p ∷ ps) c, (equations-predicate (equation p) ps (equation-predicate table p c.0) c.1, (w, reading-types (copy_of (p ∷ ps)) (copies-replace table (p ∷ ps) c) t v)))

  pub flat-types : (k : ℕ) (s : Substitution) → Types table s → CopiesAt table k (copied s) → Types table (flat_from k s)
  flat-types k skip w c = tt
  flat-types k (assign ps) w c = w
  flat-types k (pre p s) w c = (w.0, flat-types k s w.1 c)
  flat-types k (guard p s) w c = (w.0, flat-types k s w.1 c)
  flat-types k (choice s t) w c = (flat-types k s w.0 (copies-left table k (copied s) (copied t) c), flat-types (k + length (copied s)) t w.1 (copies-right table k (copied s) (copied t) c))
  flat-types k (if_else p s t) w c = (w.0, flat-types k s w.1 (copies-left table k (copied s) (copied t) c), flat-types (k + length (copied s)) t w.2 (copies-right table k (copied s) (copied t) c))
  flat-types k (any zs s) w c = (w.0, flat-types k s w.1 c)
  flat-types k (seq s t) w c = (flat-types k s w.0 (copies-left table k (copied s) (copied t) c), flat-types (k + length (copied s)) t w.1 (copies-right table k (copied s) (copied t) c))
  flat-types k (par s t) w c =
      let two = copies-left table k (copied s ++ copied t) (writes s) c in
      let last = copies-right table k (copied s ++ copied t) (writes s) c in
      let e : k + length (copied s ++ copied t) ≡ k + length (copied s) + length (copied t) = omega (arith, length-append (copied s) (copied t)) in
      copies-types (copies_from (k + length (copied s) + length (copied t)) (writes s)) (flat_from k s) (flat_from (k + length (copied s)) t) (subst (λ x. CopiesAt table x (writes s)) e last)
      (flat-types k s w.0 (copies-left table k (copied s) (copied t) two)) (flat-types (k + length (copied s)) t w.1 (copies-right table k (copied s) (copied t) two))
  flat-types k (assert p s) w c = (w.0, flat-types k s w.1 c)
  flat-types k (becomes_such xs p) w c = w
  flat-types k (loop p s i v) w c = (w.0, flat-types k s w.1 c, w.2, w.3)

-- ---- what it names and writes
pub names-more : (visible seen : ℕ → Bool) (p : Formula) → ((n : ℕ) → visible n ≡ true → seen n ≡ true) → Names visible p → Names seen p
names-more visible seen p m k = record { closed = k.closed; visible_only = λ n h. m n (k.visible_only n h) }

new-of : (seen : ℕ → Bool) (zs : List ℕ) → ((n : ℕ) → among zs n ≡ true → seen n ≡ false) → AreNew seen zs
new-of seen [] h = tt
new-of seen (z ∷ zs) h = (h z (or-left (nat_eq z z) (among zs z) (nat_eq-self z)), new-of seen zs (λ n k. h n (or-right (nat_eq n z) (among zs n) k)))

all-so : (P Q : ℕ → Bool) (xs : List ℕ) → ((n : ℕ) → P n ≡ true → Q n ≡ true) → AllAre P xs → AllAre Q xs
all-so P Q [] h a = tt
all-so P Q (x ∷ xs) h a = (h x a.0, all-so P Q xs h a.1)

or-so : (a b c d : Bool) → (a ≡ true → c ≡ true) → (b ≡ true → d ≡ true) → (a || b) ≡ true → (c || d) ≡ true
or-so a b c d f g h = elim (or-cases a b h) [ inl q ↦ or-left c d (f q) | inr q ↦ or-right c d (g q) ]

assigns-more : (visible seen writable may : ℕ → Bool) → ((n : ℕ) → visible n ≡ true → seen n ≡ true) → ((n : ℕ) → writable n ≡ true → may n ≡ true) → (ps : List (ℕ × Formula)) → AssignsIn visible writable ps → AssignsIn seen may ps
assigns-more visible seen writable may v w [] a = tt
assigns-more visible seen writable may v w (p ∷ ps) a = (w p.0 a.0, names-more visible seen p.1 v a.1, a.2, assigns-more visible seen writable may v w ps a.3)

-- more may be visible, named above and written, where none of it is bound
pub stays-more : (visible above writable seen over may : ℕ → Bool) → ((n : ℕ) → visible n ≡ true → seen n ≡ true) → ((n : ℕ) → above n ≡ true → over n ≡ true) → ((n : ℕ) → writable n ≡ true → may n ≡ true) → (s : Substitution) → StaysIn visible above writable s → ((n : ℕ) → among (binders s) n ≡ true → seen n ≡ false) → StaysIn seen over may s
stays-more visible above writable seen over may v o w skip a b = tt
stays-more visible above writable seen over may v o w (assign ps) a b = assigns-more visible seen writable may v w ps a
stays-more visible above writable seen over may v o w (pre p s) a b = (names-more visible seen p v a.0, stays-more visible above writable seen over may v o w s a.1 b)
stays-more visible above writable seen over may v o w (guard p s) a b = (names-more visible seen p v a.0, stays-more visible above writable seen over may v o w s a.1 b)
stays-more visible above writable seen over may v o w (choice s t) a b = (stays-more visible above writable seen over may v o w s a.0 (λ n q. b n (among-left (binders s) (binders t) n q)), stays-more visible above writable seen over may v o w t a.1 (λ n q. b n (among-right (binders s) (binders t) n q)))
stays-more visible above writable seen over may v o w (if_else p s t) a b = (names-more visible seen p v a.0, stays-more visible above writable seen over may v o w s a.1 (λ n q. b n (among-left (binders s) (binders t) n q)), stays-more visible above writable seen over may v o w t a.2 (λ n q. b n (among-right (binders s) (binders t) n q)))
stays-more visible above writable seen over may v o w (any zs s) a b = (
  new-of seen zs (λ n q. b n (among-left zs (binders s) n q)),
  a.1,
  stays-more (λ m. among zs m || visible m) above (λ m. among zs m || writable m) (λ m. among zs m || seen m) over (λ m. among zs m || may m)
      (λ n. or-so (among zs n) (visible n) (among zs n) (seen n) (λ q. q) (v n)) o (λ n. or-so (among zs n) (writable n) (among zs n) (may n) (λ q. q) (w n)) s a.2
      (λ n q. both-false (among zs n) (seen n) (or-false (among zs n) (visible n) (binders-new (λ m. among zs m || visible m) above (λ m. among zs m || writable m) s a.2 n q)).0 (b n (among-right zs (binders s) n q))),
)
stays-more visible above writable seen over may v o w (seq s t) a b = (stays-more visible above writable seen over may v o w s a.0 (λ n q. b n (among-left (binders s) (binders t) n q)), stays-more visible above writable seen over may v o w t a.1 (λ n q. b n (among-right (binders s) (binders t) n q)))
stays-more visible above writable seen over may v o w (par s t) a b = (stays-more visible above writable seen over may v o w s a.0 (λ n q. b n (among-left (binders s) (binders t) n q)), stays-more visible above writable seen over may v o w t a.1 (λ n q. b n (among-right (binders s) (binders t) n q)), a.2)
stays-more visible above writable seen over may v o w (assert p s) a b = (names-more visible seen p v a.0, stays-more visible above writable seen over may v o w s a.1 b)
stays-more visible above writable seen over may v o w (becomes_such xs p) a b = (
  all-so writable may (firsts xs) w a.0,
  a.1,
  new-of seen (seconds xs) b,
  a.3,
  names-more (λ n. among (seconds xs) n || visible n) (λ n. among (seconds xs) n || seen n) p (λ n. or-so (among (seconds xs) n) (visible n) (among (seconds xs) n) (seen n) (λ q. q) (v n)) a.4,
)
stays-more visible above writable seen over may v o w (loop p s i u) a b =
    let m = λ (n : ℕ). or-so (above n) (visible n) (over n) (seen n) (o n) (v n) in
    (names-more visible seen p v a.0, stays-more visible above writable seen over may v o w s a.1 b, names-more (λ n. above n || visible n) (λ n. over n || seen n) i m a.2, names-more (λ n. above n || visible n) (λ n. over n || seen n) u m a.3)

-- a renamed formula has the new name of some variable of the formula
mutual
  pub occurs-renamed : (by : ℕ → ℕ) (f : Formula) (n : ℕ) → occurs n (renamed by f) ≡ true → (m : ℕ) × (occurs m f ≡ true) × (n ≡ by m)
  occurs-renamed by (variable m) n h = (m, nat_eq-self m, sym (nat_eq-same (by m) n h))
  occurs-renamed by (unary o f) n h = occurs-renamed by f n h
  occurs-renamed by (binary o f g) n h = elim (or-cases (occurs n (renamed by f)) (occurs n (renamed by g)) h) [
    | inl q ↦ let k = occurs-renamed by f n q in (k.0, or-left (occurs k.0 f) (occurs k.0 g) k.1, k.2)
    | inr q ↦ let k = occurs-renamed by g n q in (k.0, or-right (occurs k.0 f) (occurs k.0 g) k.1, k.2)
  ]
  occurs-renamed by (for_all ts p) n h = occurs-renamed by p n h
  occurs-renamed by (for_some ts p) n h = occurs-renamed by p n h
  occurs-renamed by (comprehension rs p) n h = elim (or-cases (any_occurs n (Rattle.bk_form.specs.Replacement.all_replaced (λ n. variable (by n)) rs)) (occurs n (renamed by p)) h) [
    | inl q ↦ let k = any-renamed by rs n q in (k.0, or-left (any_occurs k.0 rs) (occurs k.0 p) k.1, k.2)
    | inr q ↦ let k = occurs-renamed by p n q in (k.0, or-right (any_occurs k.0 rs) (occurs k.0 p) k.1, k.2)
  ]
  occurs-renamed by (lambda rs p v) n h = elim (or-cases (any_occurs n (Rattle.bk_form.specs.Replacement.all_replaced (λ n. variable (by n)) rs) || occurs n (renamed by p)) (occurs n (renamed by v)) h) [
    | inl l ↦ elim (or-cases (any_occurs n (Rattle.bk_form.specs.Replacement.all_replaced (λ n. variable (by n)) rs)) (occurs n (renamed by p)) l) [
      | inl q ↦ let k = any-renamed by rs n q in (k.0, or-left (any_occurs k.0 rs || occurs k.0 p) (occurs k.0 v) (or-left (any_occurs k.0 rs) (occurs k.0 p) k.1), k.2)
      | inr q ↦ let k = occurs-renamed by p n q in (k.0, or-left (any_occurs k.0 rs || occurs k.0 p) (occurs k.0 v) (or-right (any_occurs k.0 rs) (occurs k.0 p) k.1), k.2)
    ]
    | inr q ↦ let k = occurs-renamed by v n q in (k.0, or-right (any_occurs k.0 rs || occurs k.0 p) (occurs k.0 v) k.1, k.2)
  ]
  occurs-renamed by _ n h = absurd (cc)

  any-renamed : (by : ℕ → ℕ) (fs : Formulas) (n : ℕ) → any_occurs n (Rattle.bk_form.specs.Replacement.all_replaced (λ n. variable (by n)) fs) ≡ true → (m : ℕ) × (any_occurs m fs ≡ true) × (n ≡ by m)
  any-renamed by no_formulas n h = absurd (cc)
  any-renamed by (formula_and f fs) n h = elim (or-cases (occurs n (renamed by f)) (any_occurs n (Rattle.bk_form.specs.Replacement.all_replaced (λ n. variable (by n)) fs)) h) [
    | inl q ↦ let k = occurs-renamed by f n q in (k.0, or-left (occurs k.0 f) (any_occurs k.0 fs) k.1, k.2)
    | inr q ↦ let k = any-renamed by fs n q in (k.0, or-right (occurs k.0 f) (any_occurs k.0 fs) k.1, k.2)
  ]

names-renamed : (by : ℕ → ℕ) (visible seen : ℕ → Bool) (p : Formula) → ((n : ℕ) → visible n ≡ true → seen (by n) ≡ true) → Names visible p → Names seen (renamed by p)
names-renamed by visible seen p v k = record {
  closed = closed-replaced (λ n. variable (by n)) (λ n. tt) 0 p k.closed;
  visible_only = λ n h. let m = occurs-renamed by p n h in subst (λ x. seen x ≡ true) (sym m.2) (v m.0 (k.visible_only m.0 m.1));
}

pub firsts-renamed : (by : ℕ → ℕ) (ps : List (ℕ × Formula)) → firsts (renamed_terms by ps) ≡ firsts ps
firsts-renamed by [] = refl
firsts-renamed by (p ∷ ps) = ap (λ x. p.0 ∷ x) (firsts-renamed by ps)

assigns-renamed : (by : ℕ → ℕ) (visible seen writable may : ℕ → Bool) → ((n : ℕ) → visible n ≡ true → seen (by n) ≡ true) → ((n : ℕ) → writable n ≡ true → may n ≡ true) → (ps : List (ℕ × Formula)) → AssignsIn visible writable ps → AssignsIn seen may (renamed_terms by ps)
assigns-renamed by visible seen writable may v w [] a = tt
assigns-renamed by visible seen writable may v w (p ∷ ps) a = (w p.0 a.0, names-renamed by visible seen p.1 v a.1, ap (λ x. among x p.0) (firsts-renamed by ps) ∙ a.2, assigns-renamed by visible seen writable may v w ps a.3)

-- reading other names: what it binds keeps its name
stays-reading : (by : ℕ → ℕ) (visible above writable seen may : ℕ → Bool) → ((n : ℕ) → visible n ≡ true → seen (by n) ≡ true) → ((n : ℕ) → above n ≡ true → (above (by n) || seen (by n)) ≡ true) → ((n : ℕ) → writable n ≡ true → may n ≡ true) → (s : Substitution) → IsFlat s → StaysIn visible above writable s → ((n : ℕ) → among (binders s) n ≡ true → seen n ≡ false) → ((n : ℕ) → among (binders s) n ≡ true → by n ≡ n) → StaysIn seen above may (reading by s)
stays-reading by visible above writable seen may v o w skip f a b c = tt
stays-reading by visible above writable seen may v o w (assign ps) f a b c = assigns-renamed by visible seen writable may v w ps a
stays-reading by visible above writable seen may v o w (pre p s) f a b c = (names-renamed by visible seen p v a.0, stays-reading by visible above writable seen may v o w s f a.1 b c)
stays-reading by visible above writable seen may v o w (guard p s) f a b c = (names-renamed by visible seen p v a.0, stays-reading by visible above writable seen may v o w s f a.1 b c)
stays-reading by visible above writable seen may v o w (choice s t) f a b c = (stays-reading by visible above writable seen may v o w s f.0 a.0 (λ n q. b n (among-left (binders s) (binders t) n q)) (λ n q. c n (among-left (binders s) (binders t) n q)), stays-reading by visible above writable seen may v o w t f.1 a.1 (λ n q. b n (among-right (binders s) (binders t) n q)) (λ n q. c n (among-right (binders s) (binders t) n q)))
stays-reading by visible above writable seen may v o w (if_else p s t) f a b c = (names-renamed by visible seen p v a.0, stays-reading by visible above writable seen may v o w s f.0 a.1 (λ n q. b n (among-left (binders s) (binders t) n q)) (λ n q. c n (among-left (binders s) (binders t) n q)), stays-reading by visible above writable seen may v o w t f.1 a.2 (λ n q. b n (among-right (binders s) (binders t) n q)) (λ n q. c n (among-right (binders s) (binders t) n q)))
stays-reading by visible above writable seen may v o w (any zs s) f a b c = (
  new-of seen zs (λ n q. b n (among-left zs (binders s) n q)),
  a.1,
  stays-reading by (λ m. among zs m || visible m) above (λ m. among zs m || writable m) (λ m. among zs m || seen m) (λ m. among zs m || may m)
      (λ n h. or-so (among zs n) (visible n) (among zs (by n)) (seen (by n)) (λ q. ap (among zs) (c n (among-left zs (binders s) n q)) ∙ q) (v n) h)
      (λ n h. elim (or-cases (above (by n)) (seen (by n)) (o n h)) [ inl q ↦ or-left (above (by n)) (among zs (by n) || seen (by n)) q | inr q ↦ or-right (above (by n)) (among zs (by n) || seen (by n)) (or-right (among zs (by n)) (seen (by n)) q) ])
      (λ n. or-so (among zs n) (writable n) (among zs n) (may n) (λ q. q) (w n)) s f a.2
      (λ n q. both-false (among zs n) (seen n) (or-false (among zs n) (visible n) (binders-new (λ m. among zs m || visible m) above (λ m. among zs m || writable m) s a.2 n q)).0 (b n (among-right zs (binders s) n q)))
      (λ n q. c n (among-right zs (binders s) n q)),
)
stays-reading by visible above writable seen may v o w (seq s t) f a b c = (stays-reading by visible above writable seen may v o w s f.0 a.0 (λ n q. b n (among-left (binders s) (binders t) n q)) (λ n q. c n (among-left (binders s) (binders t) n q)), stays-reading by visible above writable seen may v o w t f.1 a.1 (λ n q. b n (among-right (binders s) (binders t) n q)) (λ n q. c n (among-right (binders s) (binders t) n q)))
stays-reading by visible above writable seen may v o w (par s t) f a b c = absurd f
stays-reading by visible above writable seen may v o w (assert p s) f a b c = (names-renamed by visible seen p v a.0, stays-reading by visible above writable seen may v o w s f a.1 b c)
stays-reading by visible above writable seen may v o w (becomes_such xs p) f a b c = (
  all-so writable may (firsts xs) w a.0,
  a.1,
  new-of seen (seconds xs) b,
  a.3,
  names-renamed by (λ n. among (seconds xs) n || visible n) (λ n. among (seconds xs) n || seen n) p (λ n. or-so (among (seconds xs) n) (visible n) (among (seconds xs) (by n)) (seen (by n)) (λ q. ap (among (seconds xs)) (c n q) ∙ q) (v n)) a.4,
)
stays-reading by visible above writable seen may v o w (loop p s i u) f a b c =
    let m : (n : ℕ) → (above n || visible n) ≡ true → (above (by n) || seen (by n)) ≡ true = λ n h. elim (or-cases (above n) (visible n) h) [ inl q ↦ o n q | inr q ↦ or-right (above (by n)) (seen (by n)) (v n q) ] in
    (names-renamed by visible seen p v a.0, stays-reading by visible above writable seen may v o w s f a.1 b c, names-renamed by (λ n. above n || visible n) (λ n. above n || seen n) i m a.2, names-renamed by (λ n. above n || visible n) (λ n. above n || seen n) u m a.3)

-- ---- copies
pub seconds-copies : (k : ℕ) (xs : List ℕ) → seconds (copies_from k xs) ≡ xs
seconds-copies k [] = refl
seconds-copies k (x ∷ xs) = ap (λ ys. x ∷ ys) (seconds-copies (suc k) xs)

copy-cases : (ps : List (ℕ × ℕ)) (n : ℕ) → (copy_of ps n ≡ n) ⊎ ((among (firsts ps) (copy_of ps n) ≡ true) × (among (seconds ps) n ≡ true))
copy-cases [] n = inl refl
copy-cases (p ∷ ps) n = by_test (copy-cases ps n) (nat_eq n p.1) refl
  where
    by_test : (copy_of ps n ≡ n) ⊎ ((among (firsts ps) (copy_of ps n) ≡ true) × (among (seconds ps) n ≡ true)) → (b : Bool) → nat_eq n p.1 ≡ b → (cond b p.0 (copy_of ps n) ≡ n) ⊎ (((nat_eq (cond b p.0 (copy_of ps n)) p.0 || among (firsts ps) (cond b p.0 (copy_of ps n))) ≡ true) × ((b || among (seconds ps) n) ≡ true))
    by_test on true q = inr (or-left (nat_eq p.0 p.0) (among (firsts ps) p.0) (nat_eq-self p.0), refl)
    by_test (inl k) false q = inl k
    by_test (inr k) false q = inr (or-right (nat_eq (copy_of ps n) p.0) (among (firsts ps) (copy_of ps n)) k.0, k.1)

pub first-between : (k : ℕ) (xs : List ℕ) (n : ℕ) → among (firsts (copies_from k xs)) n ≡ true → k ≤ n
first-between k [] n h = absurd (cc)
first-between k (x ∷ xs) n h = elim (or-cases (nat_eq n k) (among (firsts (copies_from (suc k) xs)) n) h) [
  | inl q ↦ let e : n ≡ k = nat_eq-same n k q in omega (arith, e)
  | inr q ↦ let l : suc k ≤ n = first-between (suc k) xs n q in omega (arith, l)
]

firsts-distinct : (k : ℕ) (xs : List ℕ) → AreDistinct (firsts (copies_from k xs))
firsts-distinct k [] = tt
firsts-distinct k (x ∷ xs) = (false-of (among (firsts (copies_from (suc k) xs)) k) (λ q. let l : suc k ≤ k = first-between (suc k) xs k q in omega (arith, l)), firsts-distinct (suc k) xs)

equations-names : (visible : ℕ → Bool) (f : Formula) (ps : List (ℕ × ℕ)) → Names visible f → AllAre visible (firsts ps) → AllAre visible (seconds ps) → Names visible (equations_onto f ps)
equations-names visible f [] k a b = k
equations-names visible f (p ∷ ps) k a b = equations-names visible (binary And f (equation p)) ps (record {
  closed = (k.closed, (tt, tt));
  visible_only = λ n h. elim (or-cases (occurs n f) (occurs n (equation p)) h) [
    | inl q ↦ k.visible_only n q
    | inr q ↦ elim (or-cases (nat_eq p.0 n) (nat_eq p.1 n) q) [
      | inl y ↦ subst (λ m. visible m ≡ true) (nat_eq-same p.0 n y) a.0
      | inr y ↦ subst (λ m. visible m ≡ true) (nat_eq-same p.1 n y) b.0
    ]
  ];
}) a.1 b.1

equation-names : (visible : ℕ → Bool) (p : ℕ × ℕ) → visible p.0 ≡ true → visible p.1 ≡ true → Names visible (equation p)
equation-names visible p a b = record {
  closed = (tt, tt);
  visible_only = λ n q. elim (or-cases (nat_eq p.0 n) (nat_eq p.1 n) q) [
    | inl y ↦ subst (λ m. visible m ≡ true) (nat_eq-same p.0 n y) a
    | inr y ↦ subst (λ m. visible m ≡ true) (nat_eq-same p.1 n y) b
  ];
}

pub all-from : (P : ℕ → Bool) (xs : List ℕ) → ((n : ℕ) → among xs n ≡ true → P n ≡ true) → AllAre P xs
all-from P [] h = tt
all-from P (x ∷ xs) h = (h x (or-left (nat_eq x x) (among xs x) (nat_eq-self x)), all-from P xs (λ n k. h n (or-right (nat_eq n x) (among xs n) k)))

copies-stay : (visible above writable : ℕ → Bool) → Within writable visible → (ps : List (ℕ × ℕ)) → AreDistinct (firsts ps) → ((n : ℕ) → among (firsts ps) n ≡ true → visible n ≡ false) → ((n : ℕ) → among (seconds ps) n ≡ true → visible n ≡ true) →
    (s t : Substitution) → IsFlat t → StaysIn visible above writable s → StaysIn visible above writable t → ((n : ℕ) → among (binders s) n ≡ true → among (firsts ps) n ≡ false) → ((n : ℕ) → among (binders t) n ≡ true → among (firsts ps) n ≡ false) → StaysIn visible above writable (by_copies ps s t)
copies-stay visible above writable w [] d c x s t f a b l m = (a, b)
copies-stay visible above writable w (p ∷ ps) d c x s t f a b l m =
    let qs : List (ℕ × ℕ) = p ∷ ps in
    let seen : ℕ → Bool = λ n. among (firsts qs) n || visible n in
    let may : ℕ → Bool = λ n. among (firsts qs) n || writable n in
    let more = λ (n : ℕ) (h : visible n ≡ true). or-right (among (firsts qs) n) (visible n) h in
    let first = all-from seen (firsts qs) (λ n h. or-left (among (firsts qs) n) (visible n) h) in
    let second = all-from seen (seconds qs) (λ n h. more n (x n h)) in
    let renames : (n : ℕ) → visible n ≡ true → seen (copy_of qs n) ≡ true = λ n h. elim (copy-cases qs n) [
      | inl q ↦ subst (λ y. seen y ≡ true) (sym q) (more n h)
      | inr q ↦ or-left (among (firsts qs) (copy_of qs n)) (visible (copy_of qs n)) q.0
    ] in
    let aboves : (n : ℕ) → above n ≡ true → (above (copy_of qs n) || seen (copy_of qs n)) ≡ true = λ n h. elim (copy-cases qs n) [
      | inl q ↦ or-left (above (copy_of qs n)) (seen (copy_of qs n)) (ap above q ∙ h)
      | inr q ↦ or-right (above (copy_of qs n)) (seen (copy_of qs n)) (or-left (among (firsts qs) (copy_of qs n)) (visible (copy_of qs n)) q.0)
    ] in
    let writes_more = λ (n : ℕ) (h : writable n ≡ true). or-right (among (firsts qs) n) (writable n) h in (
      new-of visible (firsts qs) c,
      d,
      (
        equations-names seen (equation p) ps (equation-names seen p first.0 second.0) first.1 second.1,
        (
          stays-more visible above writable seen above may more (λ n h. h) writes_more s a (λ n q. both-false (among (firsts qs) n) (visible n) (l n q) (binders-new visible above writable s a n q)),
          stays-reading (copy_of qs) visible above writable seen may renames aboves writes_more t f b
              (λ n q. both-false (among (firsts qs) n) (visible n) (m n q) (binders-new visible above writable t b n q))
              (λ n q. elim (copy-cases qs n) [ inl y ↦ y | inr y ↦ absurd (not-both (visible n) (x n y.1) (binders-new visible above writable t b n q)) ]),
        ),
      ),
    )

pub below-new : (limit : ℕ) (visible : ℕ → Bool) (bound : (n : ℕ) → visible n ≡ true → n < limit) (n : ℕ) → limit ≤ n → visible n ≡ false
below-new limit visible bound n h = false-of (visible n) (λ q. let l : n < limit = bound n q in omega (arith, l, h))

-- what is visible and what it binds have numbers below a limit, and the copies' numbers are not below it
pub flat-stays : (limit : ℕ) (visible above writable : ℕ → Bool) → Within writable visible → ((n : ℕ) → visible n ≡ true → n < limit) → (k : ℕ) → limit ≤ k → (s : Substitution) → StaysIn visible above writable s → ((n : ℕ) → among (binders s) n ≡ true → n < limit) → StaysIn visible above writable (flat_from k s)
flat-stays limit visible above writable w v k m skip a b = tt
flat-stays limit visible above writable w v k m (assign ps) a b = a
flat-stays limit visible above writable w v k m (pre p s) a b = (a.0, flat-stays limit visible above writable w v k m s a.1 b)
flat-stays limit visible above writable w v k m (guard p s) a b = (a.0, flat-stays limit visible above writable w v k m s a.1 b)
flat-stays limit visible above writable w v k m (choice s t) a b = (flat-stays limit visible above writable w v k m s a.0 (λ n q. b n (among-left (binders s) (binders t) n q)), flat-stays limit visible above writable w v (k + length (copied s)) (omega (arith, m)) t a.1 (λ n q. b n (among-right (binders s) (binders t) n q)))
flat-stays limit visible above writable w v k m (if_else p s t) a b = (a.0, flat-stays limit visible above writable w v k m s a.1 (λ n q. b n (among-left (binders s) (binders t) n q)), flat-stays limit visible above writable w v (k + length (copied s)) (omega (arith, m)) t a.2 (λ n q. b n (among-right (binders s) (binders t) n q)))
flat-stays limit visible above writable w v k m (any zs s) a b = (
  a.0,
  a.1,
  flat-stays limit (λ m. among zs m || visible m) above (λ m. among zs m || writable m) (within-more zs writable visible w)
      (λ n h. elim (or-cases (among zs n) (visible n) h) [ inl q ↦ b n (among-left zs (binders s) n q) | inr q ↦ v n q ]) k m s a.2 (λ n q. b n (among-right zs (binders s) n q)),
)
flat-stays limit visible above writable w v k m (seq s t) a b = (flat-stays limit visible above writable w v k m s a.0 (λ n q. b n (among-left (binders s) (binders t) n q)), flat-stays limit visible above writable w v (k + length (copied s)) (omega (arith, m)) t a.1 (λ n q. b n (among-right (binders s) (binders t) n q)))
flat-stays limit visible above writable w v k m (par s t) a b =
    let j = k + length (copied s) + length (copied t) in
    let xs = writes s in
    let ps = copies_from j xs in
    let P : ℕ → Bool = λ n. nat_lt n j in
    let small = λ (n : ℕ) (h : n < limit). low n j (omega (arith, h, m)) in
    let bs = flat-binders P k s (all-from P (binders s) (λ n q. small n (b n (among-left (binders s) (binders t) n q)))) (λ n x y. low n j (omega (arith, y))) in
    let bt = flat-binders P (k + length (copied s)) t (all-from P (binders t) (λ n q. small n (b n (among-right (binders s) (binders t) n q)))) (λ n x y. low n j (omega (arith, y))) in
    copies-stay visible above writable w ps (firsts-distinct j xs)
    (λ n q. below-new limit visible v n (let l : j ≤ n = first-between j xs n q in omega (arith, l, m)))
    (λ n q. w n (written-writable n (subst (λ ys. among ys n ≡ true) (seconds-copies j xs) q)))
    (flat_from k s) (flat_from (k + length (copied s)) t) (flat-flat (k + length (copied s)) t)
    (flat-stays limit visible above writable w v k m s a.0 (λ n q. b n (among-left (binders s) (binders t) n q)))
    (flat-stays limit visible above writable w v (k + length (copied s)) (omega (arith, m)) t a.1 (λ n q. b n (among-right (binders s) (binders t) n q)))
    (λ n q. apart n (all-at P (binders (flat_from k s)) bs n q)) (λ n q. apart n (all-at P (binders (flat_from (k + length (copied s)) t)) bt n q))
  where
    low : (n j : ℕ) → n < j → nat_lt n j ≡ true
    low n j h = grind (arith, nat_tests)

    high : (n j : ℕ) → nat_lt n j ≡ true → n < j
    high n j h = grind (arith, nat_tests)

    apart : (n : ℕ) → nat_lt n (k + length (copied s) + length (copied t)) ≡ true → among (firsts (copies_from (k + length (copied s) + length (copied t)) (writes s))) n ≡ false
    apart n h = false-of (among (firsts (copies_from (k + length (copied s) + length (copied t)) (writes s))) n) (λ q.
        let l : k + length (copied s) + length (copied t) ≤ n = first-between (k + length (copied s) + length (copied t)) (writes s) n q in
        let r : n < k + length (copied s) + length (copied t) = high n (k + length (copied s) + length (copied t)) h in
        omega (arith, l, r))

    written-writable : (n : ℕ) → among (writes s) n ≡ true → writable n ≡ true
    written-writable n q = elim (cases (writable n)) [ inl y ↦ y | inr y ↦ clash (among (writes s) n) q (among-in_order (written s) n ∙ not-written visible above writable s a.0 n y) ]
flat-stays limit visible above writable w v k m (assert p s) a b = (a.0, flat-stays limit visible above writable w v k m s a.1 b)
flat-stays limit visible above writable w v k m (becomes_such xs p) a b = a
flat-stays limit visible above writable w v k m (loop p s i u) a b = (a.0, flat-stays limit visible above writable w v k m s a.1 b, a.2, a.3)
