-- The tokens before the first addition, as the code cuts them off.
use Rattle.std.specs.Prelude.{◌≡◌, ℕ, ◌+◌, ◌<◌, ◌≤◌, Bool, true, false, cond, List, [], ◌∷◌, ◌++◌}
use Rattle.std.proofs.Common.{length, get_or, take, drop, sym, ◌∙◌, ap, append_assoc, append-nil}
use Rattle.std.proofs.lemmas.List.{drop_all, drop_more, take_all, take_more}
use Rattle.bk_form.specs.declared.token.Token.{Token}
use Rattle.bk_p_comp.specs.Plain.{before_addition, is_addition, is_brace}

pub cut_goes_on : (tokens : List Token) (end : ℕ) (d : Token) (b next : Bool) → end < length tokens → before_addition false tokens ≡ take end tokens ++ before_addition b (drop end tokens) → is_addition b (get_or tokens end d).kind ≡ false → next ≡ is_brace (get_or tokens end d).kind → before_addition false tokens ≡ take (end + 1) tokens ++ before_addition next (drop (end + 1) tokens)
cut_goes_on tokens end d b next l h n e =
    let t : Token = get_or tokens end d in
    let rest : List Token = before_addition (is_brace t.kind) (drop (end + 1) tokens) in
    h ∙ ap (λ ts. take end tokens ++ before_addition b ts) (drop_more tokens end d l) ∙ ap (λ c. take end tokens ++ cond c [] (t ∷ rest)) n
    ∙ sym (append_assoc (take end tokens) (t ∷ []) rest) ∙ ap (λ ts. ts ++ rest) (sym (take_more tokens end d l)) ∙ ap (λ c. take (end + 1) tokens ++ before_addition c (drop (end + 1) tokens)) (sym e)

pub cut_here : (tokens : List Token) (end : ℕ) (d : Token) (b : Bool) → end < length tokens → before_addition false tokens ≡ take end tokens ++ before_addition b (drop end tokens) → is_addition b (get_or tokens end d).kind ≡ true → take end tokens ≡ before_addition false tokens
cut_here tokens end d b l h n =
    let t : Token = get_or tokens end d in
    let rest : List Token = before_addition (is_brace t.kind) (drop (end + 1) tokens) in
    sym (h ∙ ap (λ ts. take end tokens ++ before_addition b ts) (drop_more tokens end d l) ∙ ap (λ c. take end tokens ++ cond c [] (t ∷ rest)) n ∙ append-nil (take end tokens))

pub cut_nowhere : (tokens : List Token) (end : ℕ) (b : Bool) → length tokens ≤ end → before_addition false tokens ≡ take end tokens ++ before_addition b (drop end tokens) → tokens ≡ before_addition false tokens
cut_nowhere tokens end b l h = sym (h ∙ ap (λ ts. take end tokens ++ before_addition b ts) (drop_all end tokens l) ∙ append-nil (take end tokens) ∙ take_all end tokens l)
