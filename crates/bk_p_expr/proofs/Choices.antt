-- One thing or another.
use Rattle.std.specs.Prelude.{◌≡◌, Option, None, Some, List, MatchOption, Result, Ok, Err, IfOk, refl}
use Rattle.std.proofs.Common.{sym, subst, ◌∙◌}
use Rattle.bk_form.specs.declared.token.Token.{Token}
use Rattle.bk_raw.specs.Grammar.Reading.{next, or_else}

abbrev value_or : {A : Type 0} → A → Option A → A
value_or x None = x
value_or x (Some y) = y

pub some_same : {A : Type 0} (a b : A) → Some a ≡ Some b → a ≡ b
some_same a b e = λ i. value_or a (e i)

pub or_else_found : {A : Type 0} (r d : Option A) (y : A) → r ≡ Some y → or_else r d ≡ r
or_else_found r d y e = (λ i. or_else (e i) d) ∙ sym e

pub next_found : {A B : Type 0} (r : Option (A × List Token)) (x : A) (us : List Token) (f : A → List Token → Option (B × List Token)) → r ≡ Some (x, us) → next r f ≡ f x us
next_found r x us f e = λ i. next (e i) f

pub next_fails : {A B : Type 0} (r : Option (A × List Token)) (f : A → List Token → Option (B × List Token)) → r ≡ None → next r f ≡ None
next_fails r f e = λ i. next (e i) f

-- one thing, then another, then a third
pub next_joined : {A B C : Type 0} (r : Option (A × List Token)) (f : A → List Token → Option (B × List Token)) (g : B → List Token → Option (C × List Token)) → next (next r f) g ≡ next r (λ x us. next (f x us) g)
next_joined None f g = refl
next_joined (Some p) f g = refl

-- what is known of an answer, where it is known which one it is
pub if_some : {A : Type 0} (o : Option A) (P : Type 0) (Q : A → Type 0) (x : A) → MatchOption o P Q → o ≡ Some x → Q x
if_some o P Q x h e = subst (λ p. MatchOption p P Q) e h

pub if_none : {A : Type 0} (o : Option A) (P : Type 0) (Q : A → Type 0) → MatchOption o P Q → o ≡ None → P
if_none o P Q h e = subst (λ p. MatchOption p P Q) e h

-- one thing after another, and what is made of that
pub next_under : {A B C : Type 0} (r : Option (A × List Token)) (f : A → List Token → Option (B × List Token)) (h : Option (B × List Token) → Option (C × List Token)) (g : A → List Token → Option (C × List Token)) → h None ≡ None → ((x : A) (us : List Token) → h (f x us) ≡ g x us) → h (next r f) ≡ next r g
next_under None f h g e k = e
next_under (Some p) f h g e k = k p.0 p.1

-- what is known of an answer tells something else of it
pub ok_so : {A E : Type 0} (r : Result A E) (P : A → Type 0) → IfOk r P → (Q : A → Type 0) → ((x : A) → P x → Q x) → IfOk r Q
ok_so (Ok x) P h Q f = f x h
ok_so (Err e) P h Q f = tt
