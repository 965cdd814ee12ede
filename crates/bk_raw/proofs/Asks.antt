-- What a place is answered is what it asked for.
use Rattle.std.proofs.Common.{◌≡◌, ◌⊎◌, inl, inr, ℕ, List, [], ◌∷◌, true}
use Rattle.std.specs.Prelude.{Option, None, Some}
use Rattle.bk_val.specs.ValueType.{ValueType, pair_type, set_type}
use Rattle.bk_form.specs.Table.{Table, lists_type}
use Rattle.bk_form.specs.Formula.{Formula}
use Rattle.bk_form.specs.Role.{role, gives, ranges_over, predicate}
use Rattle.bk_raw.specs.Meaning.Outcome.{Partial, whole, filled, Outcome, partial, ranging, holding, silent, Reading, clean, Asked, fitting, ask, ask_value, ask_set, ask_relation, ask_domain, ask_predicate, of_answer, of_one, of_answers, of_both}
use Rattle.bk_raw.specs.Meaning.OperatorReadings.{depending, dependent, on_values}
use Rattle.bk_raw.specs.Meaning.RightReading.{Whenever, IsOfType, IsRightPartial, IsRight}
use Rattle.bk_raw.proofs.Filled.{Gives, filled-gives}
use Rattle.bk_raw.specs.Errors.Faults.{Fault}

module _ (table : Table) (around : List ValueType) where
  abbrev pub Right : Outcome → Type 0
  Right o = IsRight table around o

  abbrev pub Of : Formula → ValueType → Type 0
  Of f t = IsOfType table around f t

  -- a domain by its form: a set value, or what ranges over the type
  pub record IsDomain (d : Formula × ValueType) : Type 0 where
    pub form : (role table around d.0 ≡ gives (set_type d.1)) ⊎ (role table around d.0 ≡ ranges_over d.1)
    pub listed : lists_type table d.1 ≡ true

  fitting-gives : (at : ℕ) (t : ValueType) (f : Option Formula) → Whenever (Gives table around t) f → Whenever (Gives table around t) (fitting at f).answer
  fitting-gives at t None h = tt
  fitting-gives at t (Some f) h = h

  pub fitting-right : (at : ℕ) (t : ValueType) (p : Partial) → IsRightPartial table around p → lists_type table t ≡ true → Whenever (Gives table around t) (fitting at (filled p t)).answer
  fitting-right at t p h l = fitting-gives at t (filled p t) (filled-gives table around p t h l)

  pub ask-right : (at : ℕ) (o : Outcome) (t : ValueType) → Right o → lists_type table t ≡ true → Whenever (Gives table around t) (ask at o t).answer
  ask-right at (partial p) t h l = fitting-right at t p h l
  ask-right at (ranging f u there) t h l = tt
  ask-right at (holding p) t h l = tt
  ask-right at silent t h l = tt

  pub ask_value-right : (at : ℕ) (o : Outcome) → Right o → Whenever (λ p. Of p.0 p.1) (ask_value at o).answer
  ask_value-right at (partial (whole f t)) h = h
  ask_value-right at (partial _) h = tt
  ask_value-right at (ranging f u there) h = tt
  ask_value-right at (holding p) h = tt
  ask_value-right at silent h = tt

  pub ask_set-right : (at : ℕ) (o : Outcome) → Right o → Whenever (λ p. Of p.0 (set_type p.1)) (ask_set at o).answer
  ask_set-right at (partial (whole f (set_type t))) h = h
  ask_set-right at (partial _) h = tt
  ask_set-right at (ranging f u there) h = tt
  ask_set-right at (holding p) h = tt
  ask_set-right at silent h = tt

  pub ask_relation-right : (at : ℕ) (o : Outcome) → Right o → Whenever (λ r. Of r.0 (set_type (pair_type r.1 r.2))) (ask_relation at o).answer
  ask_relation-right at (partial (whole f (set_type (pair_type t u)))) h = h
  ask_relation-right at (partial _) h = tt
  ask_relation-right at (ranging f u there) h = tt
  ask_relation-right at (holding p) h = tt
  ask_relation-right at silent h = tt

  pub ask_domain-right : (at : ℕ) (o : Outcome) → Right o → Whenever IsDomain (ask_domain at o).answer
  ask_domain-right at (partial (whole f (set_type t))) h = record { form = inl h.0; listed = h.1 }
  ask_domain-right at (partial _) h = tt
  ask_domain-right at (ranging f u there) h = record { form = inr h.0; listed = h.1 }
  ask_domain-right at (holding p) h = tt
  ask_domain-right at silent h = tt

  pub ask_predicate-right : (o : Outcome) → Right o → Whenever (λ p. role table around p ≡ predicate) (ask_predicate o).answer
  ask_predicate-right (holding p) h = h
  ask_predicate-right (partial p) h = tt
  ask_predicate-right (ranging f t there) h = tt
  ask_predicate-right silent h = tt

  pub clean-right : (fs : List Fault) (o : Outcome) → Right o → Right (clean fs o)
  clean-right [] o h = h
  clean-right (f ∷ fs) o h = tt

  of_answer-right : {A : Type 0} (P : A → Type 0) (k : A → Outcome) (x : Option A) → ((y : A) → P y → Right (k y)) → Whenever P x → Right (of_answer k x)
  of_answer-right P k None g h = tt
  of_answer-right P k (Some y) g h = g y h

  pub of_one-right : {A : Type 0} (P : A → Type 0) (k : A → Outcome) (a : Asked A) → ((y : A) → P y → Right (k y)) → Whenever P a.answer → Right (of_one k a).outcome
  of_one-right P k a g h = of_answer-right P k a.answer g h

  of_answers-right : {A B : Type 0} (P : A → Type 0) (Q : B → Type 0) (k : A → B → Outcome) (x : Option A) (y : Option B) → ((u : A) (v : B) → P u → Q v → Right (k u v)) → Whenever P x → Whenever Q y → Right (of_answers k x y)
  of_answers-right P Q k None y g h l = tt
  of_answers-right P Q k (Some u) None g h l = tt
  of_answers-right P Q k (Some u) (Some v) g h l = g u v h l

  pub of_both-right : {A B : Type 0} (P : A → Type 0) (Q : B → Type 0) (k : A → B → Outcome) (a : Asked A) (b : Asked B) → ((u : A) (v : B) → P u → Q v → Right (k u v)) → Whenever P a.answer → Whenever Q b.answer → Right (of_both k a b).outcome
  of_both-right P Q k a b g h l = of_answers-right P Q k a.answer b.answer g h l

  depending-right : {A : Type 0} (P : A → Type 0) (t : A → ValueType) (k : A → Formula → Outcome) (fs : List Fault) (x : Option A) (at : ℕ) (o : Outcome) → ((y : A) → P y → lists_type table (t y) ≡ true) → ((y : A) (f : Formula) → P y → Gives table around (t y) f → Right (k y f)) → Whenever P x → Right o → Right (depending t k fs x at o).outcome
  depending-right P t k fs None at o l g h r = tt
  depending-right P t k fs (Some y) at o l g h r = of_answer-right (Gives table around (t y)) (k y) (ask at o (t y)).answer (λ f q. g y f h q) (ask-right at o (t y) r (l y h))

  pub dependent-right : {A : Type 0} (P : A → Type 0) (t : A → ValueType) (k : A → Formula → Outcome) (a : Asked A) (at : ℕ) (o : Outcome) → ((y : A) → P y → lists_type table (t y) ≡ true) → ((y : A) (f : Formula) → P y → Gives table around (t y) f → Right (k y f)) → Whenever P a.answer → Right o → Right (dependent t k a at o).outcome
  dependent-right P t k a at o l g h r = depending-right P t k a.faults a.answer at o l g h r

  pub on_values-right : (k : Partial → Partial → Reading) (a b : Outcome) → ((p q : Partial) → IsRightPartial table around p → IsRightPartial table around q → Right (k p q).outcome) → Right a → Right b → Right (on_values k a b).outcome
  on_values-right k (partial p) (partial q) g h l = g p q h l
  on_values-right k (partial p) (ranging f t there) g h l = tt
  on_values-right k (partial p) (holding q) g h l = tt
  on_values-right k (partial p) silent g h l = tt
  on_values-right k (ranging f t there) b g h l = tt
  on_values-right k (holding q) b g h l = tt
  on_values-right k silent b g h l = tt
