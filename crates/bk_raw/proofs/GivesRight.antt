-- What operators make of their sides gives and takes exactly what the rules of types say.
use Rattle.std.proofs.Common.{◌≡◌, ◌↔◌, ◌⊎◌, inl, inr, ℕ, List, [], ◌∷◌, refl, sym, ◌∙◌, ap, subst, Bool, true, false, cond, ◌&&◌}
use Rattle.std.specs.Prelude.{Option, None, Some, ℤ}
use Rattle.std.proofs.lemmas.Option.{same_Some}
use Rattle.bk_val.specs.ValueType.{ValueType, int_type, bool_type, enum_type, pair_type, set_type}
use Rattle.bk_form.specs.Formula.{Formula, literal, empty_set, unary, binary, comprehension, lambda}
use Rattle.bk_form.specs.Role.{same_type, tuple_type}
use Rattle.bk_form.specs.declared.operator.UnOp.{UnOp}
use Rattle.bk_form.specs.declared.operator.UnOp.TheVariants.{Single}
use Rattle.bk_form.specs.declared.operator.BinOp.{BinOp}
use Rattle.bk_form.specs.declared.operator.BinOp.TheVariants.{Sub, Mul, Times as Product, Maps, Minus as Without, Comp}
use Rattle.bk_form.proofs.Roles.{same_type-then}
use Rattle.bk_raw.specs.Meaning.Names.{Sight, unseen, untyped_name, seen}
use Rattle.bk_raw.specs.Meaning.Outcome.{Joint, union_joint, inter_joint, minus_joint, over_joint, joint_op, joins, Partial, whole, hollow, single_of, pair_of, joint_of, where_holds, single_made, both_made, filled, whole_of, Outcome, partial, ranging, holding, silent, Reading, silently, plainly, giving, clean, no_type, fitting, ask, ask_value, ask_set, ask_relation, ask_domain, ask_predicate, of_answer, of_one, of_answers}
use Rattle.bk_raw.specs.Meaning.OperatorReadings.{depending, on_values, one_type_by, joined, joint, is_number, minus_by, minus, times, composed, paired, pair_reading, singled, single_reading}
use Rattle.bk_raw.specs.Meaning.TermReading.{name_reading}
use Rattle.bk_raw.specs.Meaning.Speaking.{IsTold}
use Rattle.bk_raw.specs.Meaning.GivesTakes.{taken, IsOfSets, IsOfRelations}
use Rattle.bk_raw.proofs.Filled.{same_type-self, and-true, and-both}
use Rattle.bk_raw.specs.Meaning.Binders.{Bound, types_of, all_typed, where_typed, if_holding, quantified, Ranged, as_bound, ranges_of, is_some_name, comprehended, if_giving, abstracted}
use Rattle.bk_raw.specs.Errors.Faults.{Fault}

-- ---- expressions
pub whole-same : {f h : Formula} {t u : ValueType} → partial (whole f t) ≡ partial (whole h u) → (h ≡ f) × (u ≡ t)
whole-same e = (cc, cc)

held : (b : Bool) (f : Option Formula) (g : Formula) → where_holds b f ≡ Some g → (b ≡ true) × (f ≡ Some g)
held true f g e = (refl, e)
held false f g e = absurd (cc)

pub whole-takes : (f : Formula) (t u : ValueType) (g : Formula) → filled (whole f t) u ≡ Some g → (u ≡ t) × (g ≡ f)
whole-takes f t u g e = let k = held (same_type t u) (Some f) g e in (sym (same_type-then t u k.0), sym (same_Some f g k.1))

pub gives-takes : (f : Formula) (t : ValueType) → filled (whole f t) t ≡ Some f
gives-takes f t = rw (same_type-self t) refl

pub taken-told : (o : Outcome) (u : ValueType) (h : Formula) → taken o u ≡ Some h → IsTold o
taken-told (partial p) u h e = tt
taken-told (ranging f t there) u h e = absurd (cc)
taken-told (holding p) u h e = absurd (cc)
taken-told silent u h e = absurd (cc)

fit : (x : ℕ) (f : Option Formula) → (fitting x f).answer ≡ f
fit x None = refl
fit x (Some f) = refl

pub ask-taken : (x : ℕ) (o : Outcome) (u : ValueType) → (ask x o u).answer ≡ taken o u
ask-taken x (partial p) u = fit x (filled p u)
ask-taken x (ranging f t there) u = refl
ask-taken x (holding p) u = refl
ask-taken x silent u = refl

number-filled : (p : Partial) (f : Formula) → filled p int_type ≡ Some f → p ≡ whole f int_type
number-filled (whole g t) f e = let k = whole-takes g t int_type f e in (λ i. whole (sym k.1 i) (sym k.0 i))
number-filled hollow f e = absurd (cc)
number-filled (single_of p) f e = absurd (cc)
number-filled (pair_of p q) f e = absurd (cc)
number-filled (joint_of union_joint p q) f e = absurd (cc)
number-filled (joint_of inter_joint p q) f e = absurd (cc)
number-filled (joint_of minus_joint p q) f e = absurd (cc)
number-filled (joint_of over_joint p q) f e = absurd (cc)

number-taken : (o : Outcome) (f : Formula) → taken o int_type ≡ Some f → o ≡ partial (whole f int_type)
number-taken (partial p) f e = ap partial (number-filled p f e)
number-taken (ranging g t there) f e = absurd (cc)
number-taken (holding p) f e = absurd (cc)
number-taken silent f e = absurd (cc)

-- ---- what a place asks
set-then : (x : ℕ) (o : Outcome) (s : Formula × ValueType) → (ask_set x o).answer ≡ Some s → o ≡ partial (whole s.0 (set_type s.1))
set-then x (partial (whole g (set_type u))) s e = let k = same_Some (g, u) s e in (λ i. partial (whole (k i).0 (set_type (k i).1)))
set-then x _ s e = absurd (cc)

relation-then : (x : ℕ) (o : Outcome) (r : Formula × ValueType × ValueType) → (ask_relation x o).answer ≡ Some r → o ≡ partial (whole r.0 (set_type (pair_type r.1 r.2)))
relation-then x (partial (whole g (set_type (pair_type t u)))) r e = let k = same_Some (g, t, u) r e in (λ i. partial (whole (k i).0 (set_type (pair_type (k i).1 (k i).2))))
relation-then x _ r e = absurd (cc)

predicate-then : (o : Outcome) (p : Formula) → (ask_predicate o).answer ≡ Some p → o ≡ holding p
predicate-then (holding q) p e = ap holding (same_Some q p e)
predicate-then (partial q) p e = absurd (cc)
predicate-then (ranging f t there) p e = absurd (cc)
predicate-then silent p e = absurd (cc)

-- a domain over the type: a set value, or another domain
abbrev pub Ranges : Outcome → ValueType → Formula → Type 0
Ranges o u f = (o ≡ partial (whole f (set_type u))) ⊎ ((there : ℕ) × (o ≡ ranging f u there))

domain-then : (x : ℕ) (o : Outcome) (d : Formula × ValueType) → (ask_domain x o).answer ≡ Some d → Ranges o d.1 d.0
domain-then x (partial (whole g (set_type u))) d e = let k = same_Some (g, u) d e in inl (λ i. partial (whole (k i).0 (set_type (k i).1)))
domain-then x (ranging g u there) d e = let k = same_Some (g, u) d e in inr (there, (λ i. ranging (k i).0 (k i).1 there))
domain-then x _ d e = absurd (cc)

domain-from : (x : ℕ) (o : Outcome) (u : ValueType) (f : Formula) → Ranges o u f → (ask_domain x o).answer ≡ Some (f, u)
domain-from x o u f (inl e) = ap (λ v. (ask_domain x v).answer) e
domain-from x o u f (inr e) = ap (λ v. (ask_domain x v).answer) e.1

-- ---- what comes of answers
one-then : {A : Type 0} (k : A → Outcome) (x : Option A) (o : Outcome) → IsTold o → of_answer k x ≡ o → (y : A) × (x ≡ Some y) × (k y ≡ o)
one-then k None o h e = absurd (subst IsTold (sym e) h)
one-then k (Some y) o h e = (y, refl, e)

both-then : {A B : Type 0} (k : A → B → Outcome) (x : Option A) (y : Option B) (o : Outcome) → IsTold o → of_answers k x y ≡ o → (u : A) × (v : B) × (x ≡ Some u) × (y ≡ Some v) × (k u v ≡ o)
both-then k None y o h e = absurd (subst IsTold (sym e) h)
both-then k (Some u) None o h e = absurd (subst IsTold (sym e) h)
both-then k (Some u) (Some v) o h e = (u, v, refl, refl, e)

depending-then : {A : Type 0} (t : A → ValueType) (k : A → Formula → Outcome) (fs : List Fault) (x : Option A) (at : ℕ) (o w : Outcome) → IsTold w → (depending t k fs x at o).outcome ≡ w → (y : A) × (f : Formula) × (x ≡ Some y) × (taken o (t y) ≡ Some f) × (k y f ≡ w)
depending-then t k fs None at o w h e = absurd (subst IsTold (sym e) h)
depending-then t k fs (Some y) at o w h e = let r = one-then (k y) (ask at o (t y)).answer w h e in (y, r.0, refl, sym (ask-taken at o (t y)) ∙ r.1, r.2)

depending-from : {A : Type 0} (t : A → ValueType) (k : A → Formula → Outcome) (fs : List Fault) (x : Option A) (y : A) (at : ℕ) (o : Outcome) (f : Formula) → x ≡ Some y → taken o (t y) ≡ Some f → (depending t k fs x at o).outcome ≡ k y f
depending-from t k fs x y at o f e g = ap (λ v. (depending t k fs v at o).outcome) e ∙ ap (of_answer (k y)) (ask-taken at o (t y) ∙ g)

-- ---- one side
-- what takes a type
pub of-taken : (k : Formula → Formula) (v t : ValueType) (x : ℕ) (a : Outcome) (u : ValueType) (h : Formula) → (of_answer (λ f. partial (whole (k f) v)) (ask x a t).answer ≡ partial (whole h u)) ↔ ((f : Formula) × (taken a t ≡ Some f) × (u ≡ v) × (h ≡ k f))
of-taken k v t x a u h = (
  (λ e.
      let r = one-then (λ f. partial (whole (k f) v)) (ask x a t).answer (partial (whole h u)) tt e in
      let s = whole-same r.2 in (r.0, sym (ask-taken x a t) ∙ r.1, s.1, s.0)),
  (λ r. ap (of_answer (λ f. partial (whole (k f) v))) (ask-taken x a t ∙ r.1) ∙ (λ i. partial (whole (sym r.3 i) (sym r.2 i)))),
)

-- a set
pub of-set : (k : Formula → Formula) (given : ValueType → ValueType) (x : ℕ) (a : Outcome) (u : ValueType) (h : Formula) → (of_answer (λ (s : Formula × ValueType). partial (whole (k s.0) (given s.1))) (ask_set x a).answer ≡ partial (whole h u)) ↔ ((t : ValueType) × (f : Formula) × (a ≡ partial (whole f (set_type t))) × (u ≡ given t) × (h ≡ k f))
of-set k given x a u h = (
  (λ e.
      let r = one-then (λ (s : Formula × ValueType). partial (whole (k s.0) (given s.1))) (ask_set x a).answer (partial (whole h u)) tt e in
      let s = whole-same r.2 in (r.0.1, r.0.0, set-then x a r.0 r.1, s.1, s.0)),
  (λ r. ap (λ o. of_answer (λ (s : Formula × ValueType). partial (whole (k s.0) (given s.1))) (ask_set x o).answer) r.2 ∙ (λ i. partial (whole (sym r.4 i) (sym r.3 i)))),
)

-- a relation
pub of-relation : (k : Formula → Formula) (given : ValueType → ValueType → ValueType) (x : ℕ) (a : Outcome) (u : ValueType) (h : Formula) → (of_answer (λ (s : Formula × ValueType × ValueType). partial (whole (k s.0) (given s.1 s.2))) (ask_relation x a).answer ≡ partial (whole h u)) ↔ ((t v : ValueType) × (f : Formula) × (a ≡ partial (whole f (set_type (pair_type t v)))) × (u ≡ given t v) × (h ≡ k f))
of-relation k given x a u h = (
  (λ e.
      let r = one-then (λ (s : Formula × ValueType × ValueType). partial (whole (k s.0) (given s.1 s.2))) (ask_relation x a).answer (partial (whole h u)) tt e in
      let s = whole-same r.2 in (r.0.1, r.0.2, r.0.0, relation-then x a r.0 r.1, s.1, s.0)),
  (λ r. ap (λ o. of_answer (λ (s : Formula × ValueType × ValueType). partial (whole (k s.0) (given s.1 s.2))) (ask_relation x o).answer) r.3 ∙ (λ i. partial (whole (sym r.5 i) (sym r.4 i)))),
)

-- a predicate
pub of-predicate : (k : Formula → Outcome) (a o : Outcome) → IsTold o → (of_answer k (ask_predicate a).answer ≡ o) ↔ ((f : Formula) × (a ≡ holding f) × (k f ≡ o))
of-predicate k a o h = (
  (λ e. let r = one-then k (ask_predicate a).answer o h e in (r.0, predicate-then a r.0 r.1, r.2)),
  (λ r. ap (λ v. of_answer k (ask_predicate v).answer) r.1 ∙ r.2),
)

-- ---- two sides
-- numbers
pub of-numbers : (p : BinOp) (v : ValueType) (x y : ℕ) (a b : Outcome) (u : ValueType) (h : Formula) → (of_answers (λ f g. partial (whole (binary p f g) v)) (ask x a int_type).answer (ask y b int_type).answer ≡ partial (whole h u)) ↔ ((u ≡ v) × ((f g : Formula) × (taken a int_type ≡ Some f) × (taken b int_type ≡ Some g) × (h ≡ binary p f g)))
of-numbers p v x y a b u h = (
  (λ e.
      let r = both-then (λ f g. partial (whole (binary p f g) v)) (ask x a int_type).answer (ask y b int_type).answer (partial (whole h u)) tt e in
      let s = whole-same r.4 in (s.1, (r.0, r.1, sym (ask-taken x a int_type) ∙ r.2, sym (ask-taken y b int_type) ∙ r.3, s.0))),
  (λ r.
      let s = r.1 in
      let l : (ask x a int_type).answer ≡ Some s.0 = ask-taken x a int_type ∙ s.2 in
      let m : (ask y b int_type).answer ≡ Some s.1 = ask-taken y b int_type ∙ s.3 in
      (λ i. of_answers (λ f g. partial (whole (binary p f g) v)) (l i) (m i)) ∙ (λ i. partial (whole (sym s.4 i) (sym r.0 i)))),
)

pub of-compared : (p : BinOp) (x y : ℕ) (a b : Outcome) (h : Formula) → (of_answers (λ f g. holding (binary p f g)) (ask x a int_type).answer (ask y b int_type).answer ≡ holding h) ↔ ((f g : Formula) × (taken a int_type ≡ Some f) × (taken b int_type ≡ Some g) × (h ≡ binary p f g))
of-compared p x y a b h = (
  (λ e.
      let r = both-then (λ f g. holding (binary p f g)) (ask x a int_type).answer (ask y b int_type).answer (holding h) tt e in
      (r.0, r.1, sym (ask-taken x a int_type) ∙ r.2, sym (ask-taken y b int_type) ∙ r.3, said r.4)),
  (λ r.
      let l : (ask x a int_type).answer ≡ Some r.0 = ask-taken x a int_type ∙ r.2 in
      let m : (ask y b int_type).answer ≡ Some r.1 = ask-taken y b int_type ∙ r.3 in
      (λ i. of_answers (λ f g. holding (binary p f g)) (l i) (m i)) ∙ ap holding (sym r.4)),
)
  where
    said : {f g : Formula} → holding f ≡ holding g → g ≡ f
    said e = cc

pub of-connected : (p : BinOp) (a b : Outcome) (h : Formula) → (of_answers (λ f g. holding (binary p f g)) (ask_predicate a).answer (ask_predicate b).answer ≡ holding h) ↔ ((f g : Formula) × (a ≡ holding f) × (b ≡ holding g) × (h ≡ binary p f g))
of-connected p a b h = (
  (λ e.
      let r = both-then (λ f g. holding (binary p f g)) (ask_predicate a).answer (ask_predicate b).answer (holding h) tt e in
      (r.0, r.1, predicate-then a r.0 r.2, predicate-then b r.1 r.3, said r.4)),
  (λ r. (λ i. of_answers (λ f g. holding (binary p f g)) (ask_predicate (r.2 i)).answer (ask_predicate (r.3 i)).answer) ∙ ap holding (sym r.4)),
)
  where
    said : {f g : Formula} → holding f ≡ holding g → g ≡ f
    said e = cc

-- a relation, and what takes a type that it tells
pub of-related : (k : Formula → Formula → Formula) (asked given : ValueType → ValueType → ValueType) (x y : ℕ) (a b : Outcome) (u : ValueType) (h : Formula) → ((depending (λ (r : Formula × ValueType × ValueType). asked r.1 r.2) (λ (r : Formula × ValueType × ValueType) s. partial (whole (k r.0 s) (given r.1 r.2))) (ask_relation x a).faults (ask_relation x a).answer y b).outcome ≡ partial (whole h u)) ↔ ((t v : ValueType) × (f g : Formula) × (a ≡ partial (whole f (set_type (pair_type t v)))) × (taken b (asked t v) ≡ Some g) × (u ≡ given t v) × (h ≡ k f g))
of-related k asked given x y a b u h =
    let of_type : Formula × ValueType × ValueType → ValueType = λ r. asked r.1 r.2 in
    let made : Formula × ValueType × ValueType → Formula → Outcome = λ r s. partial (whole (k r.0 s) (given r.1 r.2)) in (
      (λ e.
          let r = depending-then of_type made (ask_relation x a).faults (ask_relation x a).answer y b (partial (whole h u)) tt e in
          let s = whole-same r.4 in (r.0.1, r.0.2, r.0.0, r.1, relation-then x a r.0 r.2, r.3, s.1, s.0)),
      (λ r.
          let l : (ask_relation x a).answer ≡ Some (r.2, r.0, r.1) = ap (λ o. (ask_relation x o).answer) r.4 in
          depending-from of_type made (ask_relation x a).faults (ask_relation x a).answer (r.2, r.0, r.1) y b r.3 l r.5 ∙ (λ i. partial (whole (sym r.7 i) (sym r.6 i)))),
    )

-- a domain, and what takes the type that it ranges over
pub of-member : (k : Formula → Formula → Formula) (x y : ℕ) (a b : Outcome) (h : Formula) → ((depending (λ (d : Formula × ValueType). d.1) (λ (d : Formula × ValueType) e. holding (k e d.0)) (ask_domain y b).faults (ask_domain y b).answer x a).outcome ≡ holding h) ↔ ((t : ValueType) × (f g : Formula) × Ranges b t g × (taken a t ≡ Some f) × (h ≡ k f g))
of-member k x y a b h =
    let of_type : Formula × ValueType → ValueType = λ d. d.1 in
    let made : Formula × ValueType → Formula → Outcome = λ d e. holding (k e d.0) in (
      (λ e.
          let r = depending-then of_type made (ask_domain y b).faults (ask_domain y b).answer x a (holding h) tt e in
          (r.0.1, r.1, r.0.0, domain-then y b r.0 r.2, r.3, said r.4)),
      (λ r. depending-from of_type made (ask_domain y b).faults (ask_domain y b).answer (r.2, r.0) x a r.1 (domain-from y b r.0 r.2 r.3) r.4 ∙ ap holding (sym r.5)),
    )
  where
    said : {f g : Formula} → holding f ≡ holding g → g ≡ f
    said e = cc

-- two domains
ranging-same : {f h : Formula} {t u : ValueType} {m n : ℕ} → ranging f t m ≡ ranging h u n → (h ≡ f) × (u ≡ t)
ranging-same e = (cc, cc)

no-value : {A : Type 0} {f h : Formula} {t u : ValueType} {m : ℕ} → ranging f t m ≡ partial (whole h u) → A
no-value e = absurd (cc)

pub of-domains : (p : BinOp) (at x y : ℕ) (a b : Outcome) (u : ValueType) (h : Formula) → Ranges (of_answers (λ (d e : Formula × ValueType). ranging (binary p d.0 e.0) (set_type (pair_type d.1 e.1)) at) (ask_domain x a).answer (ask_domain y b).answer) u h ↔ ((t v : ValueType) × (f g : Formula) × Ranges a t f × Ranges b v g × (u ≡ set_type (pair_type t v)) × (h ≡ binary p f g))
of-domains p at x y a b u h =
    let made : Formula × ValueType → Formula × ValueType → Outcome = λ d e. ranging (binary p d.0 e.0) (set_type (pair_type d.1 e.1)) at in (
      (λ s. elim s [
        | inl e ↦ (let r = both-then made (ask_domain x a).answer (ask_domain y b).answer (partial (whole h (set_type u))) tt e in no-value r.4)
        | inr e ↦ (let r = both-then made (ask_domain x a).answer (ask_domain y b).answer (ranging h u e.0) tt e.1 in
            let w = ranging-same r.4 in (r.0.1, r.1.1, r.0.0, r.1.0, domain-then x a r.0 r.2, domain-then y b r.1 r.3, w.1, w.0))
      ]),
      (λ r. inr (at, (λ i. of_answers made (domain-from x a r.0 r.2 r.4 i) (domain-from y b r.1 r.3 r.5 i)) ∙ (λ i. ranging (sym r.7 i) (sym r.6 i) at))),
    )

pub of-power : (o : UnOp) (at x : ℕ) (a : Outcome) (u : ValueType) (h : Formula) → Ranges (of_answer (λ (d : Formula × ValueType). ranging (unary o d.0) (set_type d.1) at) (ask_domain x a).answer) u h ↔ ((t : ValueType) × (f : Formula) × Ranges a t f × (u ≡ set_type t) × (h ≡ unary o f))
of-power o at x a u h =
    let made : Formula × ValueType → Outcome = λ d. ranging (unary o d.0) (set_type d.1) at in (
      (λ s. elim s [
        | inl e ↦ (let r = one-then made (ask_domain x a).answer (partial (whole h (set_type u))) tt e in no-value r.2)
        | inr e ↦ (let r = one-then made (ask_domain x a).answer (ranging h u e.0) tt e.1 in
            let w = ranging-same r.2 in (r.0.1, r.0.0, domain-then x a r.0 r.1, w.1, w.0))
      ]),
      (λ r. inr (at, ap (of_answer made) (domain-from x a r.0 r.1 r.2) ∙ (λ i. ranging (sym r.4 i) (sym r.3 i) at))),
    )

-- ---- two sides of one type
values-then : (k : Partial → Partial → Reading) (a b o : Outcome) → IsTold o → (on_values k a b).outcome ≡ o → (p q : Partial) × (a ≡ partial p) × (b ≡ partial q) × ((k p q).outcome ≡ o)
values-then k (partial p) (partial q) o h e = (p, q, refl, refl, e)
values-then k (partial p) (ranging f t there) o h e = absurd (subst IsTold (sym e) h)
values-then k (partial p) (holding f) o h e = absurd (subst IsTold (sym e) h)
values-then k (partial p) silent o h e = absurd (subst IsTold (sym e) h)
values-then k (ranging f t there) b o h e = absurd (subst IsTold (sym e) h)
values-then k (holding f) b o h e = absurd (subst IsTold (sym e) h)
values-then k silent b o h e = absurd (subst IsTold (sym e) h)

-- the left gives the type and the right takes it, or the right gives and the left takes it
abbrev pub Sides : Partial → Partial → ValueType → Formula → Formula → Type 0
Sides p q t f g = ((p ≡ whole f t) × (filled q t ≡ Some g)) ⊎ ((filled p t ≡ Some f) × (q ≡ whole g t))

sides-take : (p q : Partial) (t : ValueType) (f g : Formula) → Sides p q t f g → (filled p t ≡ Some f) × (filled q t ≡ Some g)
sides-take p q t f g (inl s) = (ap (λ x. filled x t) s.0 ∙ gives-takes f t, s.1)
sides-take p q t f g (inr s) = (s.0, ap (λ x. filled x t) s.1 ∙ gives-takes g t)

tested-then : (c : Bool) (r : Reading) (at : ℕ) (o : Outcome) → IsTold o → (cond c r (silently (no_type at))).outcome ≡ o → (c ≡ true) × (r.outcome ≡ o)
tested-then true r at o h e = (refl, e)
tested-then false r at o h e = absurd (subst IsTold (sym e) h)

tested-from : (c : Bool) (r s : Reading) → c ≡ true → (cond c r s).outcome ≡ r.outcome
tested-from c r s e = ap (λ b. (cond b r s).outcome) e

whole_of-then : (p : Partial) (v : Formula × ValueType) → whole_of p ≡ Some v → p ≡ whole v.0 v.1
whole_of-then (whole f t) v e = let k = same_Some (f, t) v e in (λ i. whole (k i).0 (k i).1)
whole_of-then hollow v e = absurd (cc)
whole_of-then (single_of p) v e = absurd (cc)
whole_of-then (pair_of p q) v e = absurd (cc)
whole_of-then (joint_of j p q) v e = absurd (cc)

module _ (test : ValueType → Bool) (k : Formula → Formula → ValueType → Outcome) (neither : Reading) (at : ℕ) (p q : Partial) where
  abbrev Made : Outcome → Type 0
  Made o = ((t : ValueType) × (f g : Formula) × (test t ≡ true) × Sides p q t f g × (k f g t ≡ o)) ⊎ (neither.outcome ≡ o)

  one_type-then : (v w : Option (Formula × ValueType)) (o : Outcome) → whole_of p ≡ v → whole_of q ≡ w → IsTold o → (one_type_by test k neither at v w p q).outcome ≡ o → Made o
  one_type-then (Some v) w o l m h e =
      let r = tested-then (test v.1) (of_one (λ g. k v.0 g v.1) (fitting at (filled q v.1))) at o h e in
      let s = one-then (λ g. k v.0 g v.1) (fitting at (filled q v.1)).answer o h r.1 in
      inl (v.1, v.0, s.0, r.0, inl (whole_of-then p v l, sym (fit at (filled q v.1)) ∙ s.1), s.2)
  one_type-then None (Some w) o l m h e =
      let r = tested-then (test w.1) (of_one (λ f. k f w.0 w.1) (fitting at (filled p w.1))) at o h e in
      let s = one-then (λ f. k f w.0 w.1) (fitting at (filled p w.1)).answer o h r.1 in
      inl (w.1, s.0, w.0, r.0, inr (sym (fit at (filled p w.1)) ∙ s.1, whole_of-then q w m), s.2)
  one_type-then None None o l m h e = inr e

  -- a side that gives a type and takes another gives that one
  given-is : (x : Partial) (v : Formula × ValueType) (t : ValueType) (f : Formula) → whole_of x ≡ Some v → filled x t ≡ Some f → v ≡ (f, t)
  given-is x v t f l e =
      let s = whole-takes v.0 v.1 t f (sym (ap (λ y. filled y t) (whole_of-then x v l)) ∙ e) in
      (λ i. (sym s.1 i, sym s.0 i))

  gave-left : (v : Formula × ValueType) (t : ValueType) (f g : Formula) → v ≡ (f, t) → test t ≡ true → filled q t ≡ Some g → (cond (test v.1) (of_one (λ y. k v.0 y v.1) (fitting at (filled q v.1))) (silently (no_type at))).outcome ≡ k f g t
  gave-left v t f g l n e = ap (λ (z : Formula × ValueType). (cond (test z.1) (of_one (λ y. k z.0 y z.1) (fitting at (filled q z.1))) (silently (no_type at))).outcome) l ∙ tested-from (test t) (of_one (λ y. k f y t) (fitting at (filled q t))) (silently (no_type at)) n ∙ ap (of_answer (λ y. k f y t)) (fit at (filled q t) ∙ e)

  gave-right : (w : Formula × ValueType) (t : ValueType) (f g : Formula) → w ≡ (g, t) → test t ≡ true → filled p t ≡ Some f → (cond (test w.1) (of_one (λ y. k y w.0 w.1) (fitting at (filled p w.1))) (silently (no_type at))).outcome ≡ k f g t
  gave-right w t f g l n e = ap (λ (z : Formula × ValueType). (cond (test z.1) (of_one (λ y. k y z.0 z.1) (fitting at (filled p z.1))) (silently (no_type at))).outcome) l ∙ tested-from (test t) (of_one (λ y. k y g t) (fitting at (filled p t))) (silently (no_type at)) n ∙ ap (of_answer (λ y. k y g t)) (fit at (filled p t) ∙ e)

  -- one of the sides gives a type
  abbrev SomeGives : Option (Formula × ValueType) → Option (Formula × ValueType) → Type 0
  SomeGives None None = ⊥
  SomeGives _ _ = Unit {0}

  one_type-takes : (v w : Option (Formula × ValueType)) (t : ValueType) (f g : Formula) → whole_of p ≡ v → whole_of q ≡ w → SomeGives v w → test t ≡ true → filled p t ≡ Some f → filled q t ≡ Some g → (one_type_by test k neither at v w p q).outcome ≡ k f g t
  one_type-takes (Some v) w t f g l m s n d e = gave-left v t f g (given-is p v t f l d) n e
  one_type-takes None (Some w) t f g l m s n d e = gave-right w t f g (given-is q w t g m e) n d
  one_type-takes None None t f g l m s n d e = absurd s

  sides-give : (v w : Option (Formula × ValueType)) (t : ValueType) (f g : Formula) → whole_of p ≡ v → whole_of q ≡ w → Sides p q t f g → SomeGives v w
  sides-give (Some v) w t f g l m s = tt
  sides-give None (Some w) t f g l m s = tt
  sides-give None None t f g l m (inl s) = none-given (sym (ap whole_of s.0) ∙ l)
    where
      none-given : {x : Formula × ValueType} → Some x ≡ None → ⊥
      none-given e = cc
  sides-give None None t f g l m (inr s) = none-given (sym (ap whole_of s.1) ∙ m)
    where
      none-given : {x : Formula × ValueType} → Some x ≡ None → ⊥
      none-given e = cc

  one_type-from : (t : ValueType) (f g : Formula) → test t ≡ true → Sides p q t f g → (one_type_by test k neither at (whole_of p) (whole_of q) p q).outcome ≡ k f g t
  one_type-from t f g n s = let d = sides-take p q t f g s in one_type-takes (whole_of p) (whole_of q) t f g refl refl (sides-give (whole_of p) (whole_of q) t f g refl refl s) n d.0 d.1

-- ---- joints
-- the types that the operator is there for
abbrev pub IsThere : Joint → ValueType → Type 0
IsThere over_joint u = IsOfRelations u
IsThere _ u = IsOfSets u

there-then : (j : Joint) (u : ValueType) → joins j u ≡ true → IsThere j u
there-then over_joint (set_type (pair_type t v)) e = (t, v, refl)
there-then union_joint (set_type t) e = (t, refl)
there-then inter_joint (set_type t) e = (t, refl)
there-then minus_joint (set_type t) e = (t, refl)
there-then _ _ e = absurd (cc)

there-from : (j : Joint) (u : ValueType) → IsThere j u → joins j u ≡ true
there-from over_joint u h = ap (joins over_joint) h.2
there-from union_joint u h = ap (joins union_joint) h.1
there-from inter_joint u h = ap (joins inter_joint) h.1
there-from minus_joint u h = ap (joins minus_joint) h.1

pub joint-gives : (j : Joint) (at : ℕ) (p q : Partial) (u : ValueType) (h : Formula) → ((joint j at p q).outcome ≡ partial (whole h u)) ↔ (IsThere j u × ((f g : Formula) × Sides p q u f g × (h ≡ binary (joint_op j) f g)))
joint-gives j at p q u h =
    let neither : Reading = plainly (partial (joint_of j p q)) in (
      (λ e. elim (one_type-then (joins j) (joined j) neither at p q (whole_of p) (whole_of q) (partial (whole h u)) refl refl tt e) [
        | inl r ↦ (let s = whole-same r.5 in (there-then j u (ap (joins j) s.1 ∙ r.3), (r.1, r.2, subst (λ t. Sides p q t r.1 r.2) (sym s.1) r.4, s.0)))
        | inr r ↦ not-whole r
      ]),
      (λ r. let s = r.1 in one_type-from (joins j) (joined j) neither at p q u s.0 s.1 (there-from j u r.0) s.2 ∙ (λ i. partial (whole (sym s.3 i) u))),
    )
  where
    not-whole : {A : Type 0} → partial (joint_of j p q) ≡ partial (whole h u) → A
    not-whole e = absurd (cc)

both-made : (o : BinOp) (f g : Option Formula) (h : Formula) → both_made o f g ≡ Some h → (x y : Formula) × (f ≡ Some x) × (g ≡ Some y) × (h ≡ binary o x y)
both-made o (Some x) (Some y) h e = (x, y, refl, refl, sym (same_Some (binary o x y) h e))
both-made o (Some x) None h e = absurd (cc)
both-made o None g h e = absurd (cc)

pub joint-takes : (j : Joint) (at : ℕ) (p q : Partial) (u : ValueType) (h : Formula) → (taken (joint j at p q).outcome u ≡ Some h) ↔ (IsThere j u × ((f g : Formula) × (filled p u ≡ Some f) × (filled q u ≡ Some g) × (h ≡ binary (joint_op j) f g)))
joint-takes j at p q u h =
    let neither : Reading = plainly (partial (joint_of j p q)) in
    let made : Outcome = (joint j at p q).outcome in (
      (λ e. elim (one_type-then (joins j) (joined j) neither at p q (whole_of p) (whole_of q) made refl refl (taken-told made u h e) refl) [
        | inl r ↦ (let s = whole-takes (binary (joint_op j) r.1 r.2) r.0 u h (ap (λ o. taken o u) r.5 ∙ e) in
            let d = sides-take p q u r.1 r.2 (subst (λ t. Sides p q t r.1 r.2) (sym s.0) r.4) in
            (there-then j u (ap (joins j) s.0 ∙ r.3), (r.1, r.2, d.0, d.1, s.1)))
        | inr r ↦ (let s = held (joins j u) (both_made (joint_op j) (filled p u) (filled q u)) h (ap (λ o. taken o u) r ∙ e) in
            (there-then j u s.0, both-made (joint_op j) (filled p u) (filled q u) h s.1))
      ]),
      (λ r. let s = r.1 in by-given (whole_of p) (whole_of q) s.0 s.1 refl refl (there-from j u r.0) s.2 s.3 s.4),
    )
  where
    by-given : (v w : Option (Formula × ValueType)) (f g : Formula) → whole_of p ≡ v → whole_of q ≡ w → joins j u ≡ true → filled p u ≡ Some f → filled q u ≡ Some g → h ≡ binary (joint_op j) f g → taken (one_type_by (joins j) (joined j) (plainly (partial (joint_of j p q))) at v w p q).outcome u ≡ Some h
    by-given None None f g l m n d e i = (λ x. where_holds (n x) (both_made (joint_op j) (d x) (e x))) ∙ ap Some (sym i)
    by-given (Some v) w f g l m n d e i = ap (λ o. taken o u) (one_type-takes (joins j) (joined j) (plainly (partial (joint_of j p q))) at p q (Some v) w u f g l m tt n d e) ∙ gives-takes (binary (joint_op j) f g) u ∙ ap Some (sym i)
    by-given None (Some w) f g l m n d e i = ap (λ o. taken o u) (one_type-takes (joins j) (joined j) (plainly (partial (joint_of j p q))) at p q None (Some w) u f g l m tt n d e) ∙ gives-takes (binary (joint_op j) f g) u ∙ ap Some (sym i)

-- ---- values of one type
pub of-equal : (k : Formula → Formula → Formula) (at : ℕ) (a b : Outcome) (h : Formula) → ((on_values (λ p q. one_type_by (λ t. true) (λ f g t. holding (k f g)) (silently (no_type at)) at (whole_of p) (whole_of q) p q) a b).outcome ≡ holding h) ↔ ((t : ValueType) × ((f g : Formula) × (((a ≡ partial (whole f t)) × (taken b t ≡ Some g)) ⊎ ((taken a t ≡ Some f) × (b ≡ partial (whole g t)))) × (h ≡ k f g)))
of-equal k at a b h =
    let made : Formula → Formula → ValueType → Outcome = λ f g t. holding (k f g) in
    let by : Partial → Partial → Reading = λ p q. one_type_by (λ t. true) made (silently (no_type at)) at (whole_of p) (whole_of q) p q in (
      (λ e.
          let r = values-then by a b (holding h) tt e in
          elim (one_type-then (λ t. true) made (silently (no_type at)) at r.0 r.1 (whole_of r.0) (whole_of r.1) (holding h) refl refl tt r.4) [
            | inl s ↦ (s.0, (s.1, s.2, outside r.0 r.1 s.0 s.1 s.2 r.2 r.3 s.4, said s.5))
            | inr s ↦ no-predicate s
          ]),
      (λ r. from-sides r.0 r.1),
    )
  where
    said : {f g : Formula} → holding f ≡ holding g → g ≡ f
    said e = cc

    no-predicate : {A : Type 0} → silent ≡ holding h → A
    no-predicate e = absurd (cc)

    One : ValueType → Formula → Formula → Type 0
    One t f g = ((a ≡ partial (whole f t)) × (taken b t ≡ Some g)) ⊎ ((taken a t ≡ Some f) × (b ≡ partial (whole g t)))

    outside : (p q : Partial) (t : ValueType) (f g : Formula) → a ≡ partial p → b ≡ partial q → Sides p q t f g → One t f g
    outside p q t f g l m (inl s) = inl (l ∙ ap partial s.0, ap (λ o. taken o t) m ∙ s.1)
    outside p q t f g l m (inr s) = inr (ap (λ o. taken o t) l ∙ s.0, m ∙ ap partial s.1)

    told-partial : (o : Outcome) (t : ValueType) (f : Formula) → taken o t ≡ Some f → (p : Partial) × (o ≡ partial p) × (filled p t ≡ Some f)
    told-partial (partial p) t f e = (p, refl, e)
    told-partial (ranging g u there) t f e = absurd (cc)
    told-partial (holding g) t f e = absurd (cc)
    told-partial silent t f e = absurd (cc)

    read : (p q : Partial) (t : ValueType) (f g : Formula) → a ≡ partial p → b ≡ partial q → Sides p q t f g → h ≡ k f g → (on_values (λ p q. one_type_by (λ t. true) (λ f g t. holding (k f g)) (silently (no_type at)) at (whole_of p) (whole_of q) p q) a b).outcome ≡ holding h
    read p q t f g l m s e =
        let by : Partial → Partial → Reading = λ p q. one_type_by (λ t. true) (λ f g t. holding (k f g)) (silently (no_type at)) at (whole_of p) (whole_of q) p q in
        (λ i. (on_values by (l i) (m i)).outcome) ∙ one_type-from (λ t. true) (λ f g t. holding (k f g)) (silently (no_type at)) at p q t f g refl s ∙ ap holding (sym e)

    from-sides : (t : ValueType) → ((f g : Formula) × One t f g × (h ≡ k f g)) → (on_values (λ p q. one_type_by (λ t. true) (λ f g t. holding (k f g)) (silently (no_type at)) at (whole_of p) (whole_of q) p q) a b).outcome ≡ holding h
    from-sides t (f, g, inl s, e) = let d = told-partial b t g s.1 in read (whole f t) d.0 t f g s.0 d.1 (inl (refl, d.2)) e
    from-sides t (f, g, inr s, e) = let d = told-partial a t f s.0 in read d.0 (whole g t) t f g d.1 s.1 (inr (d.2, refl)) e

-- ---- the same of outcomes
abbrev pub One : Outcome → Outcome → ValueType → Formula → Formula → Type 0
One a b t f g = ((a ≡ partial (whole f t)) × (taken b t ≡ Some g)) ⊎ ((taken a t ≡ Some f) × (b ≡ partial (whole g t)))

untold : {A : Type 0} {o : Outcome} → IsTold o → silent ≡ o → A
untold h e = absurd (subst IsTold (sym e) h)

taken-partial : (o : Outcome) (t : ValueType) (f : Formula) → taken o t ≡ Some f → (p : Partial) × (o ≡ partial p) × (filled p t ≡ Some f)
taken-partial (partial p) t f e = (p, refl, e)
taken-partial (ranging g u there) t f e = absurd (cc)
taken-partial (holding g) t f e = absurd (cc)
taken-partial silent t f e = absurd (cc)

sides-of : (a b : Outcome) (p q : Partial) (t : ValueType) (f g : Formula) → a ≡ partial p → b ≡ partial q → Sides p q t f g → One a b t f g
sides-of a b p q t f g l m (inl s) = inl (l ∙ ap partial s.0, ap (λ o. taken o t) m ∙ s.1)
sides-of a b p q t f g l m (inr s) = inr (ap (λ o. taken o t) l ∙ s.0, m ∙ ap partial s.1)

one-of : (a b : Outcome) (t : ValueType) (f g : Formula) → One a b t f g → (p q : Partial) × (a ≡ partial p) × (b ≡ partial q) × Sides p q t f g
one-of a b t f g (inl s) = let d = taken-partial b t g s.1 in (whole f t, d.0, s.0, d.1, inl (refl, d.2))
one-of a b t f g (inr s) = let d = taken-partial a t f s.0 in (d.0, whole g t, d.1, s.1, inr (d.2, refl))

values-from : (k : Partial → Partial → Reading) (a b : Outcome) (p q : Partial) → a ≡ partial p → b ≡ partial q → (on_values k a b).outcome ≡ (k p q).outcome
values-from k a b p q l m i = (on_values k (l i) (m i)).outcome

-- an operator that is told on values only: from a rule of expressions to one of outcomes
taken-of : (a : Outcome) (p : Partial) (u : ValueType) (f : Formula) → a ≡ partial p → filled p u ≡ Some f → taken a u ≡ Some f
taken-of a p u f l e = ap (λ o. taken o u) l ∙ e

pub of-joint : (j : Joint) (at : ℕ) (a b : Outcome) (u : ValueType) (h : Formula) → ((on_values (joint j at) a b).outcome ≡ partial (whole h u)) ↔ (IsThere j u × ((f g : Formula) × One a b u f g × (h ≡ binary (joint_op j) f g)))
of-joint j at a b u h = (
  (λ e.
      let r = values-then (joint j at) a b (partial (whole h u)) tt e in
      let s = (joint-gives j at r.0 r.1 u h).0 r.4 in
      let d = s.1 in (s.0, (d.0, d.1, sides-of a b r.0 r.1 u d.0 d.1 r.2 r.3 d.2, d.3))),
  (λ s.
      let d = s.1 in
      let r = one-of a b u d.0 d.1 d.2 in
      values-from (joint j at) a b r.0 r.1 r.2 r.3 ∙ (joint-gives j at r.0 r.1 u h).1 (s.0, (d.0, d.1, r.4, d.3))),
)

pub of-joint-taken : (j : Joint) (at : ℕ) (a b : Outcome) (u : ValueType) (h : Formula) → (taken (on_values (joint j at) a b).outcome u ≡ Some h) ↔ (IsThere j u × ((f g : Formula) × (taken a u ≡ Some f) × (taken b u ≡ Some g) × (h ≡ binary (joint_op j) f g)))
of-joint-taken j at a b u h = (
  (λ e.
      let r = values-then (joint j at) a b (on_values (joint j at) a b).outcome (taken-told (on_values (joint j at) a b).outcome u h e) refl in
      let s = (joint-takes j at r.0 r.1 u h).0 (ap (λ o. taken o u) r.4 ∙ e) in
      let d = s.1 in (s.0, (d.0, d.1, taken-of a r.0 u d.0 r.2 d.2, taken-of b r.1 u d.1 r.3 d.3, d.4))),
  (λ s.
      let d = s.1 in
      let p = taken-partial a u d.0 d.2 in
      let q = taken-partial b u d.1 d.3 in
      ap (λ o. taken o u) (values-from (joint j at) a b p.0 q.0 p.1 q.1) ∙ (joint-takes j at p.0 q.0 u h).1 (s.0, (d.0, d.1, p.2, q.2, d.4))),
)

-- ---- a - b
number-is : (u : ValueType) → is_number u ≡ true → u ≡ int_type
number-is int_type e = refl
number-is _ e = absurd (cc)

cond-cases : (c : Bool) (r s : Reading) (o : Outcome) → (cond c r s).outcome ≡ o → ((c ≡ true) × (r.outcome ≡ o)) ⊎ (s.outcome ≡ o)
cond-cases true r s o e = inl (refl, e)
cond-cases false r s o e = inr e

given-type : (p : Partial) (v : Formula × ValueType) (t : ValueType) (f : Formula) → whole_of p ≡ Some v → filled p t ≡ Some f → v.1 ≡ t
given-type p v t f l e = sym (whole-takes v.0 v.1 t f (sym (ap (λ y. filled y t) (whole_of-then p v l)) ∙ e)).0

module _ (at x y : ℕ) (p q : Partial) where
  abbrev Numbers : Outcome → Type 0
  Numbers o = (f g : Formula) × (filled p int_type ≡ Some f) × (filled q int_type ≡ Some g) × (partial (whole (binary Sub f g) int_type) ≡ o)

  numbers-then : (v : Formula × ValueType) (o : Outcome) → IsTold o → whole_of p ≡ Some v → is_number v.1 ≡ true → of_answer (λ g. partial (whole (binary Sub v.0 g) int_type)) (fitting y (filled q int_type)).answer ≡ o → Numbers o
  numbers-then v o h l n e =
      let r = one-then (λ g. partial (whole (binary Sub v.0 g) int_type)) (fitting y (filled q int_type)).answer o h e in
      (v.0, r.0, ap (λ z. filled z int_type) (whole_of-then p v l) ∙ ap (λ t. filled (whole v.0 t) int_type) (number-is v.1 n), sym (fit y (filled q int_type)) ∙ r.1, r.2)

  minus-then : (v w : Option (Formula × ValueType)) (o : Outcome) → whole_of p ≡ v → IsTold o → (minus_by at x y v w p q).outcome ≡ o → Numbers o ⊎ ((joint minus_joint at p q).outcome ≡ o)
  minus-then (Some v) w o l h e = elim (cond-cases (is_number v.1) (of_one (λ g. partial (whole (binary Sub v.0 g) int_type)) (fitting y (filled q int_type))) (joint minus_joint at p q) o e) [ inl s ↦ inl (numbers-then v o h l s.0 s.1) | inr s ↦ inr s ]
  minus-then None (Some w) o l h e = elim (cond-cases (is_number w.1) (silently (no_type x)) (joint minus_joint at p q) o e) [ inl s ↦ untold h s.1 | inr s ↦ inr s ]
  minus-then None None o l h e = inr e

  minus-numbers : (f g : Formula) → filled p int_type ≡ Some f → filled q int_type ≡ Some g → (minus at x y p q).outcome ≡ partial (whole (binary Sub f g) int_type)
  minus-numbers f g d e = ap (λ z. (minus at x y z q).outcome) (number-filled p f d) ∙ ap (of_answer (λ z. partial (whole (binary Sub f z) int_type))) (fit y (filled q int_type) ∙ e)

  minus-joint : (v w : Option (Formula × ValueType)) (t : ValueType) (f g : Formula) → whole_of p ≡ v → whole_of q ≡ w → filled p (set_type t) ≡ Some f → filled q (set_type t) ≡ Some g → (minus_by at x y v w p q).outcome ≡ (joint minus_joint at p q).outcome
  minus-joint (Some v) w t f g l m d e = ap (λ s. (cond (is_number s) (of_one (λ z. partial (whole (binary Sub v.0 z) int_type)) (fitting y (filled q int_type))) (joint minus_joint at p q)).outcome) (given-type p v (set_type t) f l d)
  minus-joint None (Some w) t f g l m d e = ap (λ s. (cond (is_number s) (silently (no_type x)) (joint minus_joint at p q)).outcome) (given-type q w (set_type t) g m e)
  minus-joint None None t f g l m d e = refl

  sets-joint : (u : ValueType) (f g : Formula) → IsOfSets u → filled p u ≡ Some f → filled q u ≡ Some g → (minus at x y p q).outcome ≡ (joint minus_joint at p q).outcome
  sets-joint u f g s d e = minus-joint (whole_of p) (whole_of q) s.0 f g refl refl (ap (filled p) (sym s.1) ∙ d) (ap (filled q) (sym s.1) ∙ e)

  abbrev pub Sets : ValueType → Formula → Type 0
  Sets u h = IsOfSets u × ((f g : Formula) × Sides p q u f g × (h ≡ binary Without f g))

  abbrev pub SetsTake : ValueType → Formula → Type 0
  SetsTake u h = IsOfSets u × ((f g : Formula) × (filled p u ≡ Some f) × (filled q u ≡ Some g) × (h ≡ binary Without f g))

  abbrev pub NumbersAre : ValueType → Formula → Type 0
  NumbersAre u h = (u ≡ int_type) × ((f g : Formula) × (filled p int_type ≡ Some f) × (filled q int_type ≡ Some g) × (h ≡ binary Sub f g))

  minus-gives : (u : ValueType) (h : Formula) → (minus at x y p q).outcome ≡ partial (whole h u) → NumbersAre u h ⊎ Sets u h
  minus-gives u h e = elim (minus-then (whole_of p) (whole_of q) (partial (whole h u)) refl tt e) [
    | inl r ↦ (let s = whole-same r.4 in inl (s.1, (r.0, r.1, r.2, r.3, s.0)))
    | inr r ↦ inr ((joint-gives minus_joint at p q u h).0 r)
  ]

  minus-given : (u : ValueType) (h : Formula) → NumbersAre u h ⊎ Sets u h → (minus at x y p q).outcome ≡ partial (whole h u)
  minus-given u h (inl r) = let s = r.1 in minus-numbers s.0 s.1 s.2 s.3 ∙ (λ i. partial (whole (sym s.4 i) (sym r.0 i)))
  minus-given u h (inr r) = let s = r.1 in let d = sides-take p q u s.0 s.1 s.2 in sets-joint u s.0 s.1 r.0 d.0 d.1 ∙ (joint-gives minus_joint at p q u h).1 r

  minus-takes : (u : ValueType) (h : Formula) → taken (minus at x y p q).outcome u ≡ Some h → NumbersAre u h ⊎ SetsTake u h
  minus-takes u h e = elim (minus-then (whole_of p) (whole_of q) (minus at x y p q).outcome refl (taken-told (minus at x y p q).outcome u h e) refl) [
    | inl r ↦ (let s = whole-takes (binary Sub r.0 r.1) int_type u h (ap (λ o. taken o u) r.4 ∙ e) in inl (s.0, (r.0, r.1, r.2, r.3, s.1)))
    | inr r ↦ inr ((joint-takes minus_joint at p q u h).0 (ap (λ o. taken o u) r ∙ e))
  ]

  minus-taken : (u : ValueType) (h : Formula) → NumbersAre u h ⊎ SetsTake u h → taken (minus at x y p q).outcome u ≡ Some h
  minus-taken u h (inl r) = let s = r.1 in ap (λ o. taken o u) (minus-numbers s.0 s.1 s.2 s.3) ∙ ap (taken (partial (whole (binary Sub s.0 s.1) int_type))) r.0 ∙ ap Some (sym s.4)
  minus-taken u h (inr r) = let s = r.1 in ap (λ o. taken o u) (sets-joint u s.0 s.1 r.0 s.2 s.3) ∙ (joint-takes minus_joint at p q u h).1 r

module _ (at x y : ℕ) (a b : Outcome) (u : ValueType) (h : Formula) where
  abbrev pub OfNumbers : BinOp → Type 0
  OfNumbers o = (u ≡ int_type) × ((f g : Formula) × (taken a int_type ≡ Some f) × (taken b int_type ≡ Some g) × (h ≡ binary o f g))

  minus-out : (p q : Partial) → a ≡ partial p → b ≡ partial q → NumbersAre at x y p q u h ⊎ Sets at x y p q u h → OfNumbers Sub ⊎ (IsOfSets u × ((f g : Formula) × One a b u f g × (h ≡ binary Without f g)))
  minus-out p q l m (inl r) = let s = r.1 in inl (r.0, (s.0, s.1, taken-of a p int_type s.0 l s.2, taken-of b q int_type s.1 m s.3, s.4))
  minus-out p q l m (inr r) = let s = r.1 in inr (r.0, (s.0, s.1, sides-of a b p q u s.0 s.1 l m s.2, s.3))

  minus-in : OfNumbers Sub ⊎ (IsOfSets u × ((f g : Formula) × One a b u f g × (h ≡ binary Without f g))) → (on_values (minus at x y) a b).outcome ≡ partial (whole h u)
  minus-in (inl r) =
      let s = r.1 in
      let l = number-taken a s.0 s.2 in
      let m = taken-partial b int_type s.1 s.3 in
      values-from (minus at x y) a b (whole s.0 int_type) m.0 l m.1 ∙ minus-given at x y (whole s.0 int_type) m.0 u h (inl (r.0, (s.0, s.1, refl, m.2, s.4)))
  minus-in (inr r) =
      let s = r.1 in
      let d = one-of a b u s.0 s.1 s.2 in
      values-from (minus at x y) a b d.0 d.1 d.2 d.3 ∙ minus-given at x y d.0 d.1 u h (inr (r.0, (s.0, s.1, d.4, s.3)))

  pub of-minus : ((on_values (minus at x y) a b).outcome ≡ partial (whole h u)) ↔ (OfNumbers Sub ⊎ (IsOfSets u × ((f g : Formula) × One a b u f g × (h ≡ binary Without f g))))
  of-minus = (
    (λ e. let r = values-then (minus at x y) a b (partial (whole h u)) tt e in minus-out r.0 r.1 r.2 r.3 (minus-gives at x y r.0 r.1 u h r.4)),
    minus-in,
  )

  abbrev pub SetsTaken : Type 0
  SetsTaken = IsOfSets u × ((f g : Formula) × (taken a u ≡ Some f) × (taken b u ≡ Some g) × (h ≡ binary Without f g))

  minus-takes-out : (p q : Partial) → a ≡ partial p → b ≡ partial q → NumbersAre at x y p q u h ⊎ SetsTake at x y p q u h → OfNumbers Sub ⊎ SetsTaken
  minus-takes-out p q l m (inl r) = let s = r.1 in inl (r.0, (s.0, s.1, taken-of a p int_type s.0 l s.2, taken-of b q int_type s.1 m s.3, s.4))
  minus-takes-out p q l m (inr r) = let s = r.1 in inr (r.0, (s.0, s.1, taken-of a p u s.0 l s.2, taken-of b q u s.1 m s.3, s.4))

  minus-takes-in : OfNumbers Sub ⊎ SetsTaken → taken (on_values (minus at x y) a b).outcome u ≡ Some h
  minus-takes-in (inl r) =
      let s = r.1 in
      let l = number-taken a s.0 s.2 in
      let m = taken-partial b int_type s.1 s.3 in
      ap (λ o. taken o u) (values-from (minus at x y) a b (whole s.0 int_type) m.0 l m.1) ∙ minus-taken at x y (whole s.0 int_type) m.0 u h (inl (r.0, (s.0, s.1, refl, m.2, s.4)))
  minus-takes-in (inr r) =
      let s = r.1 in
      let l = taken-partial a u s.0 s.2 in
      let m = taken-partial b u s.1 s.3 in
      ap (λ o. taken o u) (values-from (minus at x y) a b l.0 m.0 l.1 m.1) ∙ minus-taken at x y l.0 m.0 u h (inr (r.0, (s.0, s.1, l.2, m.2, s.4)))

  pub of-minus-taken : (taken (on_values (minus at x y) a b).outcome u ≡ Some h) ↔ (OfNumbers Sub ⊎ SetsTaken)
  of-minus-taken = (
    (λ e.
        let made = (on_values (minus at x y) a b).outcome in
        let r = values-then (minus at x y) a b made (taken-told made u h e) refl in
        minus-takes-out r.0 r.1 r.2 r.3 (minus-takes at x y r.0 r.1 u h (ap (λ o. taken o u) r.4 ∙ e))),
    minus-takes-in,
  )

-- ---- a * b
module _ (at x y : ℕ) where
  abbrev pub Product-of : Outcome → Outcome → ValueType → Formula → Type 0
  Product-of a b u h = (t v : ValueType) × (f g : Formula) × (a ≡ partial (whole f (set_type t))) × (b ≡ partial (whole g (set_type v))) × (u ≡ set_type (pair_type t v)) × (h ≡ binary Product f g)

  times-gives : (a b : Outcome) (u : ValueType) (h : Formula) → (times at x y a b).outcome ≡ partial (whole h u) → OfNumbers at x y a b u h Mul ⊎ Product-of a b u h
  times-gives (partial (whole f int_type)) b u h e =
      let r = one-then (λ g. partial (whole (binary Mul f g) int_type)) (ask y b int_type).answer (partial (whole h u)) tt e in
      let s = whole-same r.2 in inl (s.1, (f, r.0, refl, sym (ask-taken y b int_type) ∙ r.1, s.0))
  times-gives (partial (whole f (set_type t))) (partial (whole g (set_type v))) u h e = let s = whole-same e in inr (t, v, f, g, refl, refl, s.1, s.0)
  times-gives (partial (whole f (set_type t))) (ranging g v there) u h e = no-value e
  times-gives (ranging f t there) (partial (whole g (set_type v))) u h e = no-value e
  times-gives (ranging f t there) (ranging g v other) u h e = no-value e
  times-gives (partial (whole f (set_type t))) _ u h e = absurd (cc)
  times-gives (ranging f t there) _ u h e = absurd (cc)
  times-gives _ _ u h e = absurd (cc)

  times-given : (a b : Outcome) (u : ValueType) (h : Formula) → OfNumbers at x y a b u h Mul ⊎ Product-of a b u h → (times at x y a b).outcome ≡ partial (whole h u)
  times-given a b u h (inl r) =
      let s = r.1 in
      ap (λ o. (times at x y o b).outcome) (number-taken a s.0 s.2) ∙ ap (of_answer (λ g. partial (whole (binary Mul s.0 g) int_type))) (ask-taken y b int_type ∙ s.3) ∙ (λ i. partial (whole (sym s.4 i) (sym r.0 i)))
  times-given a b u h (inr r) = (λ i. (times at x y (r.4 i) (r.5 i)).outcome) ∙ (λ i. partial (whole (sym r.7 i) (sym r.6 i)))

  pub of-times : (a b : Outcome) (u : ValueType) (h : Formula) → ((times at x y a b).outcome ≡ partial (whole h u)) ↔ (OfNumbers at x y a b u h Mul ⊎ Product-of a b u h)
  of-times a b u h = (times-gives a b u h, times-given a b u h)

  abbrev pub Domains : Outcome → Outcome → ValueType → Formula → Type 0
  Domains a b u h = (t v : ValueType) × (f g : Formula) × Ranges a t f × Ranges b v g × (u ≡ pair_type t v) × (h ≡ binary Product f g)

  no-number : {A : Type 0} {t : ValueType} → set_type t ≡ int_type → A
  no-number e = absurd (cc)

  set-same : {t u : ValueType} → set_type t ≡ set_type u → t ≡ u
  set-same e = cc

  times-ranges : (a b : Outcome) (u : ValueType) (h : Formula) (n : ℕ) → (times at x y a b).outcome ≡ ranging h u n → Domains a b u h
  times-ranges (partial (whole f int_type)) b u h n e = let r = one-then (λ g. partial (whole (binary Mul f g) int_type)) (ask y b int_type).answer (ranging h u n) tt e in no-value (sym r.2)
  times-ranges (partial (whole f (set_type t))) (partial (whole g (set_type v))) u h n e = no-value (sym e)
  times-ranges (partial (whole f (set_type t))) (ranging g v there) u h n e = let s = ranging-same e in (t, v, f, g, inl refl, inr (there, refl), s.1, s.0)
  times-ranges (ranging f t there) (partial (whole g (set_type v))) u h n e = let s = ranging-same e in (t, v, f, g, inr (there, refl), inl refl, s.1, s.0)
  times-ranges (ranging f t there) (ranging g v other) u h n e = let s = ranging-same e in (t, v, f, g, inr (there, refl), inr (other, refl), s.1, s.0)
  times-ranges (partial (whole f (set_type t))) _ u h n e = absurd (cc)
  times-ranges (ranging f t there) _ u h n e = absurd (cc)
  times-ranges _ _ u h n e = absurd (cc)

  times-domains : (a b : Outcome) (u : ValueType) (h : Formula) → Ranges (times at x y a b).outcome u h → Domains a b u h
  times-domains a b u h (inl e) = elim (times-gives a b (set_type u) h e) [
    | inl r ↦ no-number r.0
    | inr r ↦ (r.0, r.1, r.2, r.3, inl r.4, inl r.5, set-same r.6, r.7)
  ]
  times-domains a b u h (inr e) = times-ranges a b u h e.0 e.1

  domains-times : (a b : Outcome) (u t v : ValueType) (h f g : Formula) → Ranges a t f → Ranges b v g → u ≡ pair_type t v → h ≡ binary Product f g → Ranges (times at x y a b).outcome u h
  domains-times a b u t v h f g (inl d) (inl e) k l = inl ((λ i. (times at x y (d i) (e i)).outcome) ∙ (λ i. partial (whole (sym l i) (set_type (sym k i)))))
  domains-times a b u t v h f g (inl d) (inr e) k l = inr (e.0, (λ i. (times at x y (d i) (e.1 i)).outcome) ∙ (λ i. ranging (sym l i) (sym k i) e.0))
  domains-times a b u t v h f g (inr d) (inl e) k l = inr (d.0, (λ i. (times at x y (d.1 i) (e i)).outcome) ∙ (λ i. ranging (sym l i) (sym k i) d.0))
  domains-times a b u t v h f g (inr d) (inr e) k l = inr (d.0, (λ i. (times at x y (d.1 i) (e.1 i)).outcome) ∙ (λ i. ranging (sym l i) (sym k i) d.0))

  pub of-product : (a b : Outcome) (u : ValueType) (h : Formula) → Ranges (times at x y a b).outcome u h ↔ Domains a b u h
  of-product a b u h = (times-domains a b u h, (λ r. domains-times a b u r.0 r.1 h r.2 r.3 r.4 r.5 r.6 r.7))

-- ---- (r ; s)
abbrev Composes : Option (Formula × ValueType × ValueType) → Option (Formula × ValueType × ValueType) → ValueType → Formula → Type 0
Composes r s u h = (t v w : ValueType) × (f g : Formula) × (r ≡ Some (f, t, v)) × (s ≡ Some (g, v, w)) × (u ≡ set_type (pair_type t w)) × (h ≡ binary Comp f g)

composed-then : (at : ℕ) (fs : List Fault) (r s : Option (Formula × ValueType × ValueType)) (u : ValueType) (h : Formula) → (composed at fs r s).outcome ≡ partial (whole h u) → Composes r s u h
composed-then at fs (Some r) (Some s) u h e =
    let k = tested-then (same_type r.2 s.1) (giving (binary Comp r.0 s.0) (set_type (pair_type r.1 s.2))) at (partial (whole h u)) tt e in
    let m = whole-same k.1 in
    let same = same_type-then r.2 s.1 k.0 in
    (r.1, s.1, s.2, r.0, s.0, (λ i. Some (r.0, r.1, same i)), refl, m.1, m.0)
composed-then at fs (Some r) None u h e = absurd (cc)
composed-then at fs None s u h e = absurd (cc)

pub of-composed : (at x y : ℕ) (fs : List Fault) (a b : Outcome) (u : ValueType) (h : Formula) → ((composed at fs (ask_relation x a).answer (ask_relation y b).answer).outcome ≡ partial (whole h u)) ↔ ((t v w : ValueType) × (f g : Formula) × (a ≡ partial (whole f (set_type (pair_type t v)))) × (b ≡ partial (whole g (set_type (pair_type v w)))) × (u ≡ set_type (pair_type t w)) × (h ≡ binary Comp f g))
of-composed at x y fs a b u h = (
  (λ e.
      let r = composed-then at fs (ask_relation x a).answer (ask_relation y b).answer u h e in
      (r.0, r.1, r.2, r.3, r.4, relation-then x a (r.3, r.0, r.1) r.5, relation-then y b (r.4, r.1, r.2) r.6, r.7, r.8)),
  (λ r.
      (λ i. (composed at fs (ask_relation x (r.5 i)).answer (ask_relation y (r.6 i)).answer).outcome) ∙ tested-from (same_type r.1 r.1) (giving (binary Comp r.3 r.4) (set_type (pair_type r.0 r.2))) (silently (no_type at)) (same_type-self r.1) ∙ (λ i. partial (whole (sym r.8 i) (sym r.7 i)))),
)

-- ---- {E}
abbrev pub SingleGives : Outcome → ValueType → Formula → Type 0
SingleGives o u h = (t : ValueType) × (f : Formula) × (o ≡ partial (whole f t)) × (u ≡ set_type t) × (h ≡ unary Single f)

single-then : (o : Outcome) (u : ValueType) (h : Formula) → (single_reading o).outcome ≡ partial (whole h u) → SingleGives o u h
single-then (partial (whole f t)) u h e = let s = whole-same e in (t, f, refl, s.1, s.0)
single-then (partial _) u h e = absurd (cc)
single-then (ranging f t there) u h e = absurd (cc)
single-then (holding p) u h e = absurd (cc)
single-then silent u h e = absurd (cc)

pub of-single : (o : Outcome) (u : ValueType) (h : Formula) → ((single_reading o).outcome ≡ partial (whole h u)) ↔ ((t : ValueType) × (f : Formula) × (o ≡ partial (whole f t)) × (u ≡ set_type t) × (h ≡ unary Single f))
of-single o u h = (single-then o u h, (λ r. ap (λ z. (single_reading z).outcome) r.2 ∙ (λ i. partial (whole (sym r.4 i) (sym r.3 i)))))

abbrev SingleTakes : Partial → ValueType → Formula → Type 0
SingleTakes p u h = (t : ValueType) × (f : Formula) × (filled p t ≡ Some f) × (u ≡ set_type t) × (h ≡ unary Single f)

single-made : (f : Option Formula) (h : Formula) → single_made f ≡ Some h → (g : Formula) × (f ≡ Some g) × (h ≡ unary Single g)
single-made (Some g) h e = (g, refl, sym (same_Some (unary Single g) h e))
single-made None h e = absurd (cc)

hollow-single : (p : Partial) (u : ValueType) (h : Formula) → filled (single_of p) u ≡ Some h → SingleTakes p u h
hollow-single p (set_type t) h e = let r = single-made (filled p t) h e in (t, r.0, r.1, refl, r.2)
hollow-single p _ h e = absurd (cc)

singled-then : (p : Partial) (u : ValueType) (h : Formula) → filled (singled p) u ≡ Some h → SingleTakes p u h
singled-then (whole f t) u h e = let s = whole-takes (unary Single f) (set_type t) u h e in (t, f, gives-takes f t, s.0, s.1)
singled-then hollow u h e = hollow-single hollow u h e
singled-then (single_of p) u h e = hollow-single (single_of p) u h e
singled-then (pair_of p q) u h e = hollow-single (pair_of p q) u h e
singled-then (joint_of j p q) u h e = hollow-single (joint_of j p q) u h e

singled-from : (p : Partial) (t : ValueType) (f : Formula) → filled p t ≡ Some f → filled (singled p) (set_type t) ≡ Some (unary Single f)
singled-from (whole g v) t f e =
    let s = whole-takes g v t f e in
    (λ i. filled (whole (unary Single (sym s.1 i)) (set_type (sym s.0 i))) (set_type t)) ∙ gives-takes (unary Single f) (set_type t)
singled-from hollow t f e = ap single_made e
singled-from (single_of p) t f e = ap single_made e
singled-from (pair_of p q) t f e = ap single_made e
singled-from (joint_of j p q) t f e = ap single_made e

single-takes : (o : Outcome) (u : ValueType) (h : Formula) → taken (single_reading o).outcome u ≡ Some h → (t : ValueType) × (f : Formula) × (taken o t ≡ Some f) × (u ≡ set_type t) × (h ≡ unary Single f)
single-takes (partial p) u h e = singled-then p u h e
single-takes (ranging f t there) u h e = absurd (cc)
single-takes (holding p) u h e = absurd (cc)
single-takes silent u h e = absurd (cc)

single-taken : (o : Outcome) (t : ValueType) (f : Formula) → taken o t ≡ Some f → taken (single_reading o).outcome (set_type t) ≡ Some (unary Single f)
single-taken (partial p) t f e = singled-from p t f e
single-taken (ranging g u there) t f e = absurd (cc)
single-taken (holding p) t f e = absurd (cc)
single-taken silent t f e = absurd (cc)

pub of-single-taken : (o : Outcome) (u : ValueType) (h : Formula) → (taken (single_reading o).outcome u ≡ Some h) ↔ ((t : ValueType) × (f : Formula) × (taken o t ≡ Some f) × (u ≡ set_type t) × (h ≡ unary Single f))
of-single-taken o u h = (single-takes o u h, (λ r. ap (taken (single_reading o).outcome) r.3 ∙ single-taken o r.0 r.1 r.2 ∙ ap Some (sym r.4)))

-- ---- a |-> b
abbrev pub PairGives : Partial → Partial → ValueType → Formula → Type 0
PairGives p q u h = (t v : ValueType) × (f g : Formula) × (p ≡ whole f t) × (q ≡ whole g v) × (u ≡ pair_type t v) × (h ≡ binary Maps f g)

paired-then : (p q : Partial) (u : ValueType) (h : Formula) → partial (paired p q) ≡ partial (whole h u) → PairGives p q u h
paired-then (whole f t) (whole g v) u h e = let s = whole-same e in (t, v, f, g, refl, refl, s.1, s.0)
paired-then (whole f t) _ u h e = absurd (cc)
paired-then hollow q u h e = absurd (cc)
paired-then (single_of p) q u h e = absurd (cc)
paired-then (pair_of p r) q u h e = absurd (cc)
paired-then (joint_of j p r) q u h e = absurd (cc)

pub of-pair : (a b : Outcome) (u : ValueType) (h : Formula) → ((pair_reading a b).outcome ≡ partial (whole h u)) ↔ ((t v : ValueType) × (f g : Formula) × (a ≡ partial (whole f t)) × (b ≡ partial (whole g v)) × (u ≡ pair_type t v) × (h ≡ binary Maps f g))
of-pair a b u h =
    let k : Partial → Partial → Reading = λ p q. plainly (partial (paired p q)) in (
      (λ e.
          let r = values-then k a b (partial (whole h u)) tt e in
          let s = paired-then r.0 r.1 u h r.4 in (s.0, s.1, s.2, s.3, r.2 ∙ ap partial s.4, r.3 ∙ ap partial s.5, s.6, s.7)),
      (λ r. (λ i. (on_values k (r.4 i) (r.5 i)).outcome) ∙ (λ i. partial (whole (sym r.7 i) (sym r.6 i)))),
    )

abbrev PairTakes : Partial → Partial → ValueType → Formula → Type 0
PairTakes p q u h = (t v : ValueType) × (u ≡ pair_type t v) × ((f g : Formula) × (filled p t ≡ Some f) × (filled q v ≡ Some g) × (h ≡ binary Maps f g))

hollow-pair : (p q : Partial) (u : ValueType) (h : Formula) → filled (pair_of p q) u ≡ Some h → PairTakes p q u h
hollow-pair p q (pair_type t v) h e = let r = both-made Maps (filled p t) (filled q v) h e in (t, v, refl, (r.0, r.1, r.2, r.3, r.4))
hollow-pair p q _ h e = absurd (cc)

pair-then : (p q : Partial) (u : ValueType) (h : Formula) → filled (paired p q) u ≡ Some h → PairTakes p q u h
pair-then (whole f t) (whole g v) u h e = let s = whole-takes (binary Maps f g) (pair_type t v) u h e in (t, v, s.0, (f, g, gives-takes f t, gives-takes g v, s.1))
pair-then (whole f t) hollow u h e = hollow-pair (whole f t) hollow u h e
pair-then (whole f t) (single_of q) u h e = hollow-pair (whole f t) (single_of q) u h e
pair-then (whole f t) (pair_of q r) u h e = hollow-pair (whole f t) (pair_of q r) u h e
pair-then (whole f t) (joint_of j q r) u h e = hollow-pair (whole f t) (joint_of j q r) u h e
pair-then hollow q u h e = hollow-pair hollow q u h e
pair-then (single_of p) q u h e = hollow-pair (single_of p) q u h e
pair-then (pair_of p r) q u h e = hollow-pair (pair_of p r) q u h e
pair-then (joint_of j p r) q u h e = hollow-pair (joint_of j p r) q u h e

both-from : (o : BinOp) (f g : Option Formula) (x y : Formula) → f ≡ Some x → g ≡ Some y → both_made o f g ≡ Some (binary o x y)
both-from o f g x y d e i = both_made o (d i) (e i)

pair-from : (p q : Partial) (t v : ValueType) (f g : Formula) → filled p t ≡ Some f → filled q v ≡ Some g → filled (paired p q) (pair_type t v) ≡ Some (binary Maps f g)
pair-from (whole x m) (whole y n) t v f g d e =
    let l = whole-takes x m t f d in
    let r = whole-takes y n v g e in
    (λ i. filled (whole (binary Maps (sym l.1 i) (sym r.1 i)) (pair_type (sym l.0 i) (sym r.0 i))) (pair_type t v)) ∙ gives-takes (binary Maps f g) (pair_type t v)
pair-from (whole x m) hollow t v f g d e = both-from Maps (filled (whole x m) t) (filled hollow v) f g d e
pair-from (whole x m) (single_of q) t v f g d e = both-from Maps (filled (whole x m) t) (filled (single_of q) v) f g d e
pair-from (whole x m) (pair_of q r) t v f g d e = both-from Maps (filled (whole x m) t) (filled (pair_of q r) v) f g d e
pair-from (whole x m) (joint_of j q r) t v f g d e = both-from Maps (filled (whole x m) t) (filled (joint_of j q r) v) f g d e
pair-from hollow q t v f g d e = both-from Maps (filled hollow t) (filled q v) f g d e
pair-from (single_of p) q t v f g d e = both-from Maps (filled (single_of p) t) (filled q v) f g d e
pair-from (pair_of p r) q t v f g d e = both-from Maps (filled (pair_of p r) t) (filled q v) f g d e
pair-from (joint_of j p r) q t v f g d e = both-from Maps (filled (joint_of j p r) t) (filled q v) f g d e

pub of-pair-taken : (a b : Outcome) (u : ValueType) (h : Formula) → (taken (pair_reading a b).outcome u ≡ Some h) ↔ ((t v : ValueType) × (u ≡ pair_type t v) × ((f g : Formula) × (taken a t ≡ Some f) × (taken b v ≡ Some g) × (h ≡ binary Maps f g)))
of-pair-taken a b u h =
    let k : Partial → Partial → Reading = λ p q. plainly (partial (paired p q)) in (
      (λ e.
          let made = (pair_reading a b).outcome in
          let r = values-then k a b made (taken-told made u h e) refl in
          let s = pair-then r.0 r.1 u h (ap (λ o. taken o u) r.4 ∙ e) in
          let d = s.3 in (s.0, s.1, s.2, (d.0, d.1, taken-of a r.0 s.0 d.0 r.2 d.2, taken-of b r.1 s.1 d.1 r.3 d.3, d.4))),
      (λ r.
          let d = r.3 in
          let p = taken-partial a r.0 d.0 d.2 in
          let q = taken-partial b r.1 d.1 d.3 in
          ap (taken (pair_reading a b).outcome) r.2 ∙ ap (λ o. taken o (pair_type r.0 r.1)) (values-from k a b p.0 q.0 p.1 q.1) ∙ pair-from p.0 q.0 r.0 r.1 d.0 d.1 p.2 q.2 ∙ ap Some (sym d.4)),
    )

-- ---- names and literals
pub of-name : (at : ℕ) (s : Sight) (u : ValueType) (h : Formula) → ((name_reading at s).outcome ≡ partial (whole h u)) ↔ (s ≡ seen h u)
of-name at s u h = (by-sight s, (λ e. ap (λ z. (name_reading at z).outcome) e))
  where
    by-sight : (z : Sight) → (name_reading at z).outcome ≡ partial (whole h u) → z ≡ seen h u
    by-sight unseen e = absurd (cc)
    by-sight untyped_name e = absurd (cc)
    by-sight (seen f t) e = let k = whole-same e in (λ i. seen (sym k.0 i) (sym k.1 i))

pub of-number : (z : ℤ) (u : ValueType) (h : Formula) → (partial (whole (literal z) int_type) ≡ partial (whole h u)) ↔ ((u ≡ int_type) × (h ≡ literal z))
of-number z u h = ((λ e. let k = whole-same e in (k.1, k.0)), (λ r i. partial (whole (sym r.1 i) (sym r.0 i))))

pub of-given : (f : Formula) (t u : ValueType) (h : Formula) → (partial (whole f t) ≡ partial (whole h u)) ↔ ((u ≡ t) × (h ≡ f))
of-given f t u h = ((λ e. let k = whole-same e in (k.1, k.0)), (λ r i. partial (whole (sym r.1 i) (sym r.0 i))))

pub of-other : (at : ℕ) (f : Formula) (t u : ValueType) (h : Formula) → ((there : ℕ) × (ranging f t at ≡ ranging h u there)) ↔ ((u ≡ t) × (h ≡ f))
of-other at f t u h = ((λ e. let k = ranging-same e.1 in (k.1, k.0)), (λ r. (at, (λ i. ranging (sym r.1 i) (sym r.0 i) at))))

pub of-empty : (u : ValueType) (h : Formula) → (filled hollow u ≡ Some h) ↔ (IsOfSets u × (h ≡ empty_set u))
of-empty u h = (by-type u, (λ r. let s = r.0 in ap (filled hollow) s.1 ∙ ap (λ v. Some (empty_set v)) (sym s.1) ∙ ap Some (sym r.1)))
  where
    by-type : (v : ValueType) → filled hollow v ≡ Some h → IsOfSets v × (h ≡ empty_set v)
    by-type (set_type t) e = ((t, refl), sym (same_Some (empty_set (set_type t)) h e))
    by-type int_type e = absurd (cc)
    by-type bool_type e = absurd (cc)
    by-type (enum_type n) e = absurd (cc)
    by-type (pair_type t v) e = absurd (cc)

-- ---- predicates within
pub of-truth : (o : UnOp) (a : Outcome) (u : ValueType) (h : Formula) → (of_answer (λ p. partial (whole (unary o p) bool_type)) (ask_predicate a).answer ≡ partial (whole h u)) ↔ ((f : Formula) × (a ≡ holding f) × (u ≡ bool_type) × (h ≡ unary o f))
of-truth o a u h =
    let made : Formula → Outcome = λ p. partial (whole (unary o p) bool_type) in (
      (λ e. let r = (of-predicate made a (partial (whole h u)) tt).0 e in let s = whole-same r.2 in (r.0, r.1, s.1, s.0)),
      (λ r. (of-predicate made a (partial (whole h u)) tt).1 (r.0, r.1, (λ i. partial (whole (sym r.3 i) (sym r.2 i))))),
    )

pub of-negation : (o : UnOp) (a : Outcome) (h : Formula) → (of_answer (λ p. holding (unary o p)) (ask_predicate a).answer ≡ holding h) ↔ ((f : Formula) × (a ≡ holding f) × (h ≡ unary o f))
of-negation o a h =
    let made : Formula → Outcome = λ p. holding (unary o p) in (
      (λ e. let r = (of-predicate made a (holding h) tt).0 e in (r.0, r.1, said r.2)),
      (λ r. (of-predicate made a (holding h) tt).1 (r.0, r.1, ap holding (sym r.2))),
    )
  where
    said : {f g : Formula} → holding f ≡ holding g → g ≡ f
    said e = cc

-- ---- binders
clean-then : (fs : List Fault) (o w : Outcome) → IsTold w → clean fs o ≡ w → (fs ≡ []) × (o ≡ w)
clean-then [] o w h e = (refl, e)
clean-then (f ∷ fs) o w h e = untold h e

where-then : (c : Bool) (o w : Outcome) → IsTold w → where_typed c o ≡ w → (c ≡ true) × (o ≡ w)
where-then true o w h e = (refl, e)
where-then false o w h e = untold h e

body-then : (k : Formula → Outcome) (o w : Outcome) → IsTold w → if_holding k o ≡ w → (f : Formula) × (o ≡ holding f) × (k f ≡ w)
body-then k (holding f) w h e = (f, refl, e)
body-then k (partial p) w h e = untold h e
body-then k (ranging f t there) w h e = untold h e
body-then k silent w h e = untold h e

value-then : (x : ℕ) (o : Outcome) (v : Formula × ValueType) → (ask_value x o).answer ≡ Some v → o ≡ partial (whole v.0 v.1)
value-then x (partial (whole g t)) v e = let k = same_Some (g, t) v e in (λ i. partial (whole (k i).0 (k i).1))
value-then x (partial hollow) v e = absurd (cc)
value-then x (partial (single_of p)) v e = absurd (cc)
value-then x (partial (pair_of p q)) v e = absurd (cc)
value-then x (partial (joint_of j p q)) v e = absurd (cc)
value-then x (ranging f t there) v e = absurd (cc)
value-then x (holding f) v e = absurd (cc)
value-then x silent v e = absurd (cc)

given-then : (k : Formula → ValueType → Outcome) (v : Option (Formula × ValueType)) (w : Outcome) → IsTold w → if_giving k v ≡ w → (z : Formula × ValueType) × (v ≡ Some z) × (k z.0 z.1 ≡ w)
given-then k None w h e = untold h e
given-then k (Some z) w h e = (z, refl, e)

bound-then : (fs : List Fault) (c : Bool) (k : Formula → Outcome) (o w : Outcome) → IsTold w → clean fs (where_typed c (if_holding k o)) ≡ w → (fs ≡ []) × (c ≡ true) × ((f : Formula) × (o ≡ holding f) × (k f ≡ w))
bound-then fs c k o w h e =
    let r = clean-then fs (where_typed c (if_holding k o)) w h e in
    let s = where-then c (if_holding k o) w h r.1 in (r.0, s.0, body-then k o w h s.1)

bound-from : (fs : List Fault) (c : Bool) (k : Formula → Outcome) (o : Outcome) (f : Formula) → fs ≡ [] → c ≡ true → o ≡ holding f → clean fs (where_typed c (if_holding k o)) ≡ k f
bound-from fs c k o f h g e i = clean (h i) (where_typed (g i) (if_holding k (e i)))

holding-same : {f h : Formula} → holding f ≡ holding h → h ≡ f
holding-same e = cc

pub of-quantified : (k : List ValueType → Formula → Formula) (fs : List Fault) (bs : List Bound) (body : Reading) (h : Formula) → ((quantified k fs bs body).outcome ≡ holding h) ↔ ((fs ≡ []) × (all_typed bs ≡ true) × ((f : Formula) × (body.outcome ≡ holding f) × (h ≡ k (types_of bs) f)))
of-quantified k fs bs body h =
    let made : Formula → Outcome = λ p. holding (k (types_of bs) p) in (
      (λ e. let r = bound-then fs (all_typed bs) made body.outcome (holding h) tt e in let s = r.2 in (r.0, r.1, (s.0, s.1, holding-same s.2))),
      (λ r. let s = r.2 in bound-from fs (all_typed bs) made body.outcome s.0 r.0 r.1 s.1 ∙ ap holding (sym s.2)),
    )

pub of-comprehended : (at : ℕ) (fs : List Fault) (rs : List Ranged) (body : Reading) (u : ValueType) (h : Formula) → ((comprehended at fs rs body).outcome ≡ partial (whole h u)) ↔ ((fs ≡ []) × (is_some_name rs ≡ true) × (all_typed (as_bound rs) ≡ true) × ((f : Formula) × (body.outcome ≡ holding f) × ((u ≡ set_type (tuple_type (types_of (as_bound rs)))) × (h ≡ comprehension (ranges_of rs) f))))
of-comprehended at fs rs body u h =
    let made : Formula → Outcome = λ p. partial (whole (comprehension (ranges_of rs) p) (set_type (tuple_type (types_of (as_bound rs))))) in
    let test = is_some_name rs && all_typed (as_bound rs) in (
      (λ e.
          let r = bound-then fs test made body.outcome (partial (whole h u)) tt e in
          let b = and-both (is_some_name rs) (all_typed (as_bound rs)) r.1 in
          let s = r.2 in
          let w = whole-same s.2 in (r.0, b.0, b.1, (s.0, s.1, (w.1, w.0)))),
      (λ r.
          let s = r.3 in
          let w = s.2 in
          bound-from fs test made body.outcome s.0 r.0 (and-true (is_some_name rs) (all_typed (as_bound rs)) r.1 r.2) s.1 ∙ (λ i. partial (whole (sym w.1 i) (sym w.0 i)))),
    )

pub of-abstracted : (at : ℕ) (fs : List Fault) (rs : List Ranged) (body : Reading) (there : ℕ) (image : Reading) (u : ValueType) (h : Formula) → ((abstracted at fs rs body there image).outcome ≡ partial (whole h u)) ↔ ((fs ≡ []) × (is_some_name rs ≡ true) × (all_typed (as_bound rs) ≡ true) × ((f : Formula) × (body.outcome ≡ holding f) × ((v : ValueType) × (g : Formula) × (image.outcome ≡ partial (whole g v)) × (u ≡ set_type (pair_type (tuple_type (types_of (as_bound rs))) v)) × (h ≡ lambda (ranges_of rs) f g))))
of-abstracted at fs rs body there image u h =
    let of : Formula → Formula → ValueType → Outcome = λ p f v. partial (whole (lambda (ranges_of rs) p f) (set_type (pair_type (tuple_type (types_of (as_bound rs))) v))) in
    let made : Formula → Outcome = λ p. if_giving (of p) (ask_value there image.outcome).answer in
    let test = is_some_name rs && all_typed (as_bound rs) in (
      (λ e.
          let r = bound-then fs test made body.outcome (partial (whole h u)) tt e in
          let b = and-both (is_some_name rs) (all_typed (as_bound rs)) r.1 in
          let s = r.2 in
          let z = given-then (of s.0) (ask_value there image.outcome).answer (partial (whole h u)) tt s.2 in
          let w = whole-same z.2 in (r.0, b.0, b.1, (s.0, s.1, (z.0.1, z.0.0, value-then there image.outcome z.0 z.1, w.1, w.0)))),
      (λ r.
          let s = r.3 in
          let w = s.2 in
          bound-from fs test made body.outcome s.0 r.0 (and-true (is_some_name rs) (all_typed (as_bound rs)) r.1 r.2) s.1 ∙ ap (λ o. if_giving (of s.0) (ask_value there o).answer) w.2 ∙ (λ i. partial (whole (sym w.4 i) (sym w.3 i)))),
    )
