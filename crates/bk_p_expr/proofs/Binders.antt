-- What a quantifier binds, and bound variables with their types.
use Rattle.std.specs.Prelude.{◌≡◌, ℕ, true, false, cond, List, [], ◌∷◌, None, Some}
use Rattle.std.proofs.Common.{◌∙◌}
use Rattle.bk_form.specs.declared.token.Token.{Token}
use Rattle.bk_ops.specs.declared.sign.TheConstants.{OPEN_PAREN, CLOSE_PAREN}
use Rattle.bk_raw.specs.Trees.WrittenType.{WrittenType}
use Rattle.bk_raw.specs.declared.term.RawName.{RawName}
use Rattle.bk_raw.specs.Grammar.Reading.{next, sign, begins_with, name, names, binder, bound, typed, within}
use Rattle.bk_p_expr.specs.PrintedTypes.{typed_bound}
use Rattle.bk_p_expr.proofs.Choices.{next_found, next_fails}

binder_in : (ts : List Token) (t : Token) (us : List Token) → begins_with OPEN_PAREN ts ≡ true → sign OPEN_PAREN ts ≡ Some (t, us) → binder ts ≡ next (names us) (λ x vs. next (sign CLOSE_PAREN vs) (λ _ ws. Some (x, ws)))
binder_in ts t us b a = (λ i. cond (b i) (within OPEN_PAREN CLOSE_PAREN names ts) (next (name ts) (λ x us. Some (x ∷ [], us)))) ∙ next_found (sign OPEN_PAREN ts) t us (λ _ us. next (names us) (λ x vs. next (sign CLOSE_PAREN vs) (λ _ ws. Some (x, ws)))) a

pub binder_none_inside : (ts : List Token) (t : Token) (us : List Token) → begins_with OPEN_PAREN ts ≡ true → sign OPEN_PAREN ts ≡ Some (t, us) → names us ≡ None → binder ts ≡ None
binder_none_inside ts t us b a c = binder_in ts t us b a ∙ next_fails (names us) (λ x vs. next (sign CLOSE_PAREN vs) (λ _ ws. Some (x, ws))) c

pub binder_none_last : (ts : List Token) (t : Token) (us : List Token) (xs : List RawName) (vs : List Token) → begins_with OPEN_PAREN ts ≡ true → sign OPEN_PAREN ts ≡ Some (t, us) → names us ≡ Some (xs, vs) → sign CLOSE_PAREN vs ≡ None → binder ts ≡ None
binder_none_last ts t us xs vs b a c z = binder_in ts t us b a ∙ next_found (names us) xs vs (λ x vs. next (sign CLOSE_PAREN vs) (λ _ ws. Some (x, ws))) c ∙ next_fails (sign CLOSE_PAREN vs) (λ _ ws. Some (xs, ws)) z

pub binder_some : (ts : List Token) (t : Token) (us : List Token) (xs : List RawName) (vs : List Token) (u : Token) (ws : List Token) → begins_with OPEN_PAREN ts ≡ true → sign OPEN_PAREN ts ≡ Some (t, us) → names us ≡ Some (xs, vs) → sign CLOSE_PAREN vs ≡ Some (u, ws) → binder ts ≡ Some (xs, ws)
binder_some ts t us xs vs u ws b a c z = binder_in ts t us b a ∙ next_found (names us) xs vs (λ x vs. next (sign CLOSE_PAREN vs) (λ _ ws. Some (x, ws))) c ∙ next_found (sign CLOSE_PAREN vs) u ws (λ _ ws. Some (xs, ws)) z

pub binder_alone : (ts : List Token) → begins_with OPEN_PAREN ts ≡ false → binder ts ≡ next (name ts) (λ x us. Some (x ∷ [], us))
binder_alone ts b = λ i. cond (b i) (within OPEN_PAREN CLOSE_PAREN names ts) (next (name ts) (λ x us. Some (x ∷ [], us)))

pub typed_name_none : (m : ℕ) (ts : List Token) → bound ts ≡ None → typed_bound m ts ≡ None
typed_name_none m ts a = next_fails (bound ts) (λ b us. next (typed m us) (λ t vs. Some (record { at = b.0; number = b.1; ty = t }, vs))) a

typed_name_read : (m : ℕ) (ts : List Token) (at number : ℕ) (us : List Token) → bound ts ≡ Some ((at, number), us) → typed_bound m ts ≡ next (typed m us) (λ t vs. Some (record { at = at; number = number; ty = t }, vs))
typed_name_read m ts at number us a = next_found (bound ts) (at, number) us (λ b us. next (typed m us) (λ t vs. Some (record { at = b.0; number = b.1; ty = t }, vs))) a

pub typed_name_none_type : (m : ℕ) (ts : List Token) (at number : ℕ) (us : List Token) → bound ts ≡ Some ((at, number), us) → typed m us ≡ None → typed_bound m ts ≡ None
typed_name_none_type m ts at number us a b = typed_name_read m ts at number us a ∙ next_fails (typed m us) (λ t vs. Some (record { at = at; number = number; ty = t }, vs)) b

pub typed_name_some : (m : ℕ) (ts : List Token) (at number : ℕ) (us : List Token) (ty : WrittenType) (vs : List Token) → bound ts ≡ Some ((at, number), us) → typed m us ≡ Some (ty, vs) → typed_bound m ts ≡ Some (record { at = at; number = number; ty = ty }, vs)
typed_name_some m ts at number us ty vs a b = typed_name_read m ts at number us a ∙ next_found (typed m us) ty vs (λ t vs. Some (record { at = at; number = number; ty = t }, vs)) b
