-- A body with its outermost precondition falls apart into the two; an operation's inputs have types.
use Rattle.std.proofs.Common.{◌≡◌, ℕ, suc, List, [], ◌∷◌, ◌++◌, refl, Bool, true, false, cond}
use Rattle.std.specs.Prelude.{Option, None, Some, ℤ}
use Rattle.bk_val.specs.ValueType.{ValueType}
use Rattle.bk_form.specs.Table.{Table}
use Rattle.bk_form.specs.Formula.{Formula, btrue}
use Rattle.bk_form.specs.Predicates.{IsPredicate}
use Rattle.bk_form.proofs.Closed.{predicate-closed}
use Rattle.bk_gsl.specs.Substitution.{Substitution}
use Rattle.bk_gsl.specs.Typed.{Types}
use Rattle.bk_dev.specs.Facts.{Names as NamesOnly, StaysIn}
use Rattle.bk_dev.specs.declared.kind.Kind.{Kind}
use Rattle.bk_raw.specs.declared.term.RawName.{RawName}
use Rattle.bk_raw.specs.Trees.SubTree.{SubTree, sub, SubNode, sub_skip, sub_call, sub_assign, sub_assign_at, sub_member, sub_such, sub_begin, sub_pre, sub_assert, sub_if, sub_choice, sub_select, sub_any, sub_let, sub_var, sub_while, sub_parallel, sub_sequence}
use Rattle.bk_raw.specs.Meaning.Names.{Names, global}
use Rattle.bk_raw.specs.Meaning.Speaking.{HasType, AreTyped}
use Rattle.bk_raw.specs.Meaning.Outcome.{no_type}
use Rattle.bk_raw.specs.Meaning.Binders.{has_type}
use Rattle.bk_raw.proofs.RulesFit.{some-fault}
use Rattle.bk_raw.specs.Errors.Faults.{Fault, without_type}
use Rattle.bk_statics.specs.Components.{outermost, inner_body}
use Rattle.bk_statics.specs.Typings.{Typing, or_else, numbered, typed, variable_named}
use Rattle.bk_statics.specs.Elaborated.{elaborated}
use Rattle.bk_statics.specs.LevelOf.{stated_as}
use Rattle.bk_statics.specs.ClauseFaults.{input_faults}
use Rattle.bk_statics.specs.Plan.{inputs_by}
use Rattle.bk_statics.specs.OperationFaults.{shape_faults}

-- ---- the condition and the rest
pub record AreParts (table : Table) (visible above writable : ℕ → Bool) (p : Formula) (s : Substitution) : Type 0 where
  pub condition : IsPredicate table p
  pub names : NamesOnly visible p
  pub types : Types table s
  pub stays : StaysIn visible above writable s

module _ (int_max : ℤ) (table : Table) (typing : Typing) (higher names : Names) (n : ℕ) (visible above writable : ℕ → Bool) where
  abbrev Whole : SubTree → Type 0
  Whole s = Types table (elaborated int_max typing higher names n s) × StaysIn visible above writable (elaborated int_max typing higher names n s)

  abbrev Parts : SubTree → Type 0
  Parts s = AreParts table visible above writable (stated_as int_max typing names (outermost s)) (elaborated int_max typing higher names n (inner_body s))

  no-condition : (s : Substitution) → Types table s → StaysIn visible above writable s → AreParts table visible above writable btrue s
  no-condition s h k = record { condition = refl; names = record { closed = predicate-closed table btrue refl; visible_only = λ m o. absurd (cc) }; types = h; stays = k }

  pub body-parts : (s : SubTree) → Whole s → Parts s
  body-parts (sub at (sub_begin s)) h = body-parts s h
  body-parts (sub at (sub_pre p s)) h = record { condition = h.0.0; names = h.1.0; types = h.0.1; stays = h.1.1 }
  body-parts (sub at sub_skip) h = no-condition (elaborated int_max typing higher names n (sub at sub_skip)) h.0 h.1
  body-parts (sub at (sub_call ys o ts)) h = no-condition (elaborated int_max typing higher names n (sub at (sub_call ys o ts))) h.0 h.1
  body-parts (sub at (sub_assign xs es)) h = no-condition (elaborated int_max typing higher names n (sub at (sub_assign xs es))) h.0 h.1
  body-parts (sub at (sub_assign_at f e v)) h = no-condition (elaborated int_max typing higher names n (sub at (sub_assign_at f e v))) h.0 h.1
  body-parts (sub at (sub_member x e)) h = no-condition (elaborated int_max typing higher names n (sub at (sub_member x e))) h.0 h.1
  body-parts (sub at (sub_such xs p)) h = no-condition (elaborated int_max typing higher names n (sub at (sub_such xs p))) h.0 h.1
  body-parts (sub at (sub_assert p s)) h = no-condition (elaborated int_max typing higher names n (sub at (sub_assert p s))) h.0 h.1
  body-parts (sub at (sub_if p s bs)) h = no-condition (elaborated int_max typing higher names n (sub at (sub_if p s bs))) h.0 h.1
  body-parts (sub at (sub_choice s cs)) h = no-condition (elaborated int_max typing higher names n (sub at (sub_choice s cs))) h.0 h.1
  body-parts (sub at (sub_select p s bs)) h = no-condition (elaborated int_max typing higher names n (sub at (sub_select p s bs))) h.0 h.1
  body-parts (sub at (sub_any xs p s)) h = no-condition (elaborated int_max typing higher names n (sub at (sub_any xs p s))) h.0 h.1
  body-parts (sub at (sub_let xs p s)) h = no-condition (elaborated int_max typing higher names n (sub at (sub_let xs p s))) h.0 h.1
  body-parts (sub at (sub_var xs s)) h = no-condition (elaborated int_max typing higher names n (sub at (sub_var xs s))) h.0 h.1
  body-parts (sub at (sub_while p s i v)) h = no-condition (elaborated int_max typing higher names n (sub at (sub_while p s i v))) h.0 h.1
  body-parts (sub at (sub_parallel s t)) h = no-condition (elaborated int_max typing higher names n (sub at (sub_parallel s t))) h.0 h.1
  body-parts (sub at (sub_sequence s t)) h = no-condition (elaborated int_max typing higher names n (sub at (sub_sequence s t))) h.0 h.1

-- what is left of a body stands where it may, as the body does
pub inner-shape : (kind : Kind) (inside : Bool) (s : SubTree) → shape_faults kind inside s ≡ [] → shape_faults kind inside (inner_body s) ≡ []
inner-shape kind inside (sub at (sub_begin s)) h = inner-shape kind inside s h
inner-shape kind inside (sub at (sub_pre p s)) h = h
inner-shape kind inside (sub at sub_skip) h = h
inner-shape kind inside (sub at (sub_call ys o ts)) h = h
inner-shape kind inside (sub at (sub_assign xs es)) h = h
inner-shape kind inside (sub at (sub_assign_at f e v)) h = h
inner-shape kind inside (sub at (sub_member x e)) h = h
inner-shape kind inside (sub at (sub_such xs p)) h = h
inner-shape kind inside (sub at (sub_assert p s)) h = h
inner-shape kind inside (sub at (sub_if p s bs)) h = h
inner-shape kind inside (sub at (sub_choice s cs)) h = h
inner-shape kind inside (sub at (sub_select p s bs)) h = h
inner-shape kind inside (sub at (sub_any xs p s)) h = h
inner-shape kind inside (sub at (sub_let xs p s)) h = h
inner-shape kind inside (sub at (sub_var xs s)) h = h
inner-shape kind inside (sub at (sub_while p s i v)) h = h
inner-shape kind inside (sub at (sub_parallel s t)) h = h
inner-shape kind inside (sub at (sub_sequence s t)) h = h

-- ---- inputs
has-it : (c : Bool) (at : ℕ) (fs : List Fault) → cond c [] (no_type at) ++ fs ≡ [] → (c ≡ true) × (fs ≡ [])
has-it true at fs h = (refl, h)
has-it false at fs h = some-fault (without_type at) fs h

typed-number : (o : Option ValueType) (n : ℕ) → has_type o ≡ true → HasType (global n o)
typed-number None n h = absurd (cc)
typed-number (Some t) n h = tt

module _ (typing : Typing) where
  pub machine-typed : (n : ℕ) (xs : List RawName) → input_faults typing (numbered n xs) xs ≡ [] → AreTyped (typed typing (numbered n xs))
  machine-typed n [] e = tt
  machine-typed n (x ∷ xs) e = let k = has-it (has_type (typing n)) x.at (input_faults typing (numbered (suc n) xs) xs) e in (typed-number (typing n) n k.0, machine-typed (suc n) xs k.1)

  pub lower-typed : (far : ℕ) (names : Names) (xs : List RawName) → input_faults typing (inputs_by far names xs) xs ≡ [] → AreTyped (typed typing (inputs_by far names xs))
  lower-typed far names [] e = tt
  lower-typed far names (x ∷ xs) e =
      let m = or_else far (variable_named names x.text) in
      let k = has-it (has_type (typing m)) x.at (input_faults typing (inputs_by far names xs) xs) e in
      (typed-number (typing m) m k.0, lower-typed far names xs k.1)
